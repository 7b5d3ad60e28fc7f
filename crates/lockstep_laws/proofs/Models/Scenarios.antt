-- The parties of a scenario are apart.
use Rattle.std.proofs.Common.{◌≡◌, ℕ, ◌-◌, ◌<◌, ◌≤◌, ◌⊎◌, inl, inr, Option, List, sym, arith}
use Rattle.std.proofs.lemmas.Bool.{cases_lt}
use Rattle.std.proofs.lemmas.Option.{slice_get-get_or}
use Rattle.slave_desc.specs.declared.descriptions.SlaveDesc.{SlaveDesc}
use Rattle.scenario.specs.declared.scenarios.Scenario.{Scenario}
use Rattle.scenario.specs.Sound.{IsScenario}
use Rattle.pdu_layout.specs.Message.{Message}
use Rattle.log_spec.specs.Log.{IsSlaveOf}
use Rattle.lockstep_laws.specs.Models.Scenarios.{slave_numbered, parties_of, ScenarioHasParties}

one_slave : (sc : Scenario) (other : SlaveDesc) (read : List ℕ → Option Message) → IsScenario sc → (s t : ℕ) → IsSlaveOf (parties_of sc other read) s → IsSlaveOf (parties_of sc other read) t → (slave_numbered sc other s).address ≡ (slave_numbered sc other t).address → s ≡ t
one_slave sc other read ok s t p q e = by (cases_lt s t) (cases_lt t s)
  where
    by : (s < t) ⊎ (t ≤ s) → (t < s) ⊎ (s ≤ t) → s ≡ t
    by (inl lt) c = absurd (ok.addresses_apart (s - 1) (t - 1) other (omega (arith, p.0, lt)) (omega (arith, q.0, q.1)) e)
    by (inr ge) (inl lt) = absurd (ok.addresses_apart (t - 1) (s - 1) other (omega (arith, q.0, lt)) (omega (arith, p.0, p.1)) (sym e))
    by (inr ge) (inr le) = omega (arith, ge, le)

pub has_parties : ScenarioHasParties
has_parties sc other ok read = record {
  apart = record {
    master = λ s is e. ok.master_apart (s - 1) other (omega (arith, is.0, is.1)) (sym e);
    slaves = λ s t p q e. one_slave sc other read ok s t p q e;
  };
  some = ok.few_slaves.0;
  desc = λ s is. slice_get-get_or sc.slaves (s - 1) other (omega (arith, is.0, is.1));
}
