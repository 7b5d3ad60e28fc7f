-- What is known at each moment of a part of a run. Logs have their newest entry first, parts their oldest.
use Rattle.std.proofs.Common.{◌≡◌, ℕ, ◌≤◌, List, [], ◌∷◌, ◌++◌, reverse, sym, ◌∙◌, append_assoc}
use Rattle.dcp_ends.specs.declared.entries.LogEntry.{LogEntry}
use Rattle.slave_desc.specs.declared.descriptions.SlaveDesc.{SlaveDesc}
use Rattle.scenario.specs.declared.scenarios.Scenario.{Scenario}
use Rattle.dcp_net.specs.declared.openings.Opening.{Opening}
use Rattle.log_spec.specs.Log.{Parties, IsSlaveOf}
use Rattle.lockstep_laws.specs.Runs.{Behaves}
use Rattle.slave_laws.specs.Data.Whole.{slaves_asked}
use Rattle.master_spec.specs.Setup.{setup_from}
use Rattle.master_log_laws.specs.Index.Runs.{IsRun}
use Rattle.run_laws.specs.Laws.{parties}
use Rattle.completeness_laws.specs.Quiet.{IsQuietPlan}
use Rattle.completeness_laws.proofs.Quiet.Fronts.{onto, onto_reverse, G}
use Rattle.completeness_laws.proofs.Quiet.Counts.{between}

module _ (sc : Scenario) (other : SlaveDesc) (o : Opening) (quiet : IsQuietPlan o.plan) where
  abbrev W : Parties
  W = parties sc other

  -- the ends behave, the network gives what is due, and one request waits for each slave at most
  pub record IsMoment (log : List LogEntry) : Type 0 where
    pub behaves : Behaves W (slaves_asked sc other) log
    pub runs : IsRun (setup_from sc) log
    pub gives : G o quiet log
    pub few : (s : ℕ) → IsSlaveOf W s → between o quiet W.master (W.slave s) log ≤ 1

  -- so it is after this log, and after each entry of this part
  abbrev pub Along : List LogEntry → List LogEntry → Type 0
  Along [] log = IsMoment log
  Along (e ∷ part) log = IsMoment log × Along part (e ∷ log)

  -- it is known at the begin
  pub along_here : (part log : List LogEntry) → Along part log → IsMoment log
  along_here [] log h = h
  along_here (e ∷ part) log h = h.0

  -- it is known at the end
  pub along_end : (part log : List LogEntry) → Along part log → IsMoment (onto part log)
  along_end [] log h = h
  along_end (e ∷ part) log h = along_end part (e ∷ log) h.1

  -- it is known in a front of the part
  pub along_front : (p q log : List LogEntry) → Along (p ++ q) log → Along p log
  along_front [] q log h = along_here q log h
  along_front (e ∷ p) q log h = (h.0, along_front p q (e ∷ log) h.1)

  -- it is known in the rest of the part
  pub along_back : (p q log : List LogEntry) → Along (p ++ q) log → Along q (onto p log)
  along_back [] q log h = h
  along_back (e ∷ p) q log h = along_back p q (e ∷ log) h.1

  -- a part of a log of which this is known at every moment
  module _ (whole : List LogEntry) (moment : (later sofar : List LogEntry) → whole ≡ later ++ sofar → IsMoment sofar) where
    -- it is known in each part of it
    pub along_whole : (part log : List LogEntry) → whole ≡ onto part log → Along part log
    along_whole [] log e = moment [] log e
    along_whole (x ∷ part) log e =
        let k : whole ≡ (reverse part ++ x ∷ []) ++ log = e ∙ onto_reverse part (x ∷ log) ∙ sym (append_assoc (reverse part) (x ∷ []) log) in
        (moment (reverse part ++ x ∷ []) log k, along_whole part (x ∷ log) e)
