-- What a run over an honest network keeps to: the lockstep of its scenario's reference.
use Rattle.std.specs.Prelude.{◌≡◌, ℕ, ℤ, Option, None, List, ◌++◌}
use Rattle.dcp_ends.specs.declared.entries.LogEntry.{LogEntry}
use Rattle.slave_desc.specs.declared.descriptions.SlaveDesc.{SlaveDesc}
use Rattle.scenario.specs.declared.scenarios.Scenario.{Scenario}
use Rattle.lockstep.specs.declared.references.RefFault.{RefFault}
use Rattle.master_spec.specs.declared.reports.Report.{Report}
use Rattle.master_spec.specs.declared.reports.Report.TheVariants.{Finished}
use Rattle.run_text.specs.Closings.{reference_text, report_text}
use Rattle.log_spec.specs.Oldest.{Honest}
use Rattle.run_laws.specs.Laws.{parties}
use Rattle.run_laws.specs.Headline.Headline.{KeepsToReference}

-- The rows that are printed are a front of the reference's. Where the run finished they are all of them, and the reference has no fault: the text is what `reference` prints of the scenario.
pub record PrintsReference (sc : Scenario) (rows : List (List ℤ)) (fault : Option RefFault) (report : Report) (text : List ℕ) : Type 0 where
  pub printed : List (List ℤ)
  pub rest : List (List ℤ)
  pub front : rows ≡ printed ++ rest
  pub text_is : text ≡ report_text printed report
  pub whole : (steps : ℕ) → report ≡ Finished steps → (printed ≡ rows) × (fault ≡ None) × (text ≡ reference_text sc.steps rows fault)

-- The log keeps to the reference of its scenario from its first moment to its last, and the text prints the rows of that reference. other stands for slaves that are not there.
pub record KeepsInStep (sc : Scenario) (other : SlaveDesc) (log : List LogEntry) (report : Report) (text : List ℕ) : Type 0 where
  pub keeps : KeepsToReference sc other log
  pub prints : PrintsReference sc keeps.rows keeps.fault report text

-- The rows that are summed are a front of the reference's. Where the run finished they are all of them, and the reference has no fault.
pub record SumsReference (rows : List (List ℤ)) (fault : Option RefFault) (report : Report) (summed : List (List ℤ)) : Type 0 where
  pub rest : List (List ℤ)
  pub front : rows ≡ summed ++ rest
  pub whole : (steps : ℕ) → report ≡ Finished steps → (summed ≡ rows) × (fault ≡ None)

-- The log keeps to the reference of its scenario from its first moment to its last, and the rows that are summed are those of that reference. other stands for slaves that are not there.
pub record SumsInStep (sc : Scenario) (other : SlaveDesc) (log : List LogEntry) (report : Report) (summed : List (List ℤ)) : Type 0 where
  pub keeps : KeepsToReference sc other log
  pub sums : SumsReference keeps.rows keeps.fault report summed

-- so it is, if each datagram that was got had been sent so not long before
abbrev pub IsInStepIfHonest : Scenario → List LogEntry → Report → (text : List ℕ) → Type 0
IsInStepIfHonest sc log report text = (other : SlaveDesc) → Honest (parties sc other) log → KeepsInStep sc other log report text
