-- Each run keeps to the reference of its scenario.
use Rattle.std.proofs.Common.{◌≡◌, ℤ, Option, List, ◌++◌, reverse, ap}
use Rattle.dcp_ends.specs.declared.entries.LogEntry.{LogEntry}
use Rattle.slave_desc.specs.declared.descriptions.SlaveDesc.{SlaveDesc}
use Rattle.scenario.specs.declared.scenarios.Scenario.{Scenario}
use Rattle.scenario.specs.Sound.{IsScenario}
use Rattle.lockstep.specs.declared.references.RefFault.{RefFault}
use Rattle.lockstep.specs.Lockstep.{IsReference}
use Rattle.lockstep.proofs.Existence.{reference_exists}
use Rattle.run_laws.specs.Laws.{IsRunOf}
use Rattle.run_laws.specs.Collecting.Collecting.{is_finished}
use Rattle.run_laws.specs.Headline.Headline.{IsInLockstep, RunsKeepToReference}
use Rattle.run_laws.proofs.Headline.Moments.{taken_always, deciding_always, asked_always, in_step_always}
use Rattle.run_laws.proofs.Headline.Rows.{models_always, sent_always, used_always, front_always, whole_always}

module _ (sc : Scenario) (other : SlaveDesc) (ok : IsScenario sc) (rows : List (List ℤ)) (fault : Option RefFault) (ref : IsReference sc rows fault) (log : List LogEntry) (r : IsRunOf sc other log) where
  in_lockstep : (later sofar : List LogEntry) → reverse log ≡ later ++ sofar → IsInLockstep sc other rows fault sofar
  in_lockstep later sofar e = record {
    taken = taken_always sc other ok log r later sofar e;
    decided = deciding_always sc other ok log r later sofar e;
    asked = asked_always sc other ok log r later sofar e;
    together = in_step_always sc other ok log r later sofar e;
    stands = models_always sc other ok rows fault ref log r later sofar e;
    carries = sent_always sc other ok rows fault ref log r later sofar e;
    used = used_always sc other ok rows fault ref log r later sofar e;
    front = front_always sc other ok rows fault ref log r later sofar e;
    whole = λ steps h. whole_always sc other ok rows fault ref log r later sofar e (ap is_finished h);
  }

pub keep_to_reference : RunsKeepToReference
keep_to_reference sc other ok log r =
    let all = reference_exists sc in
    record { rows = all.0; fault = all.1; reference = all.2; always = in_lockstep sc other ok all.0 all.1 all.2 log r }
