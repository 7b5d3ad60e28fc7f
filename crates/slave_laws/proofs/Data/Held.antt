-- The slaves of a scenario hold their models, and have their inputs at each step.
use Rattle.std.proofs.Common.{◌≡◌, ℕ, ◌+◌, ◌-◌, ◌*◌, ◌/◌, ◌<◌, ◌==◌, Bool, true, false, if◌then◌else◌, List, length, Option, Some, None, slice_get, refl, sym, ap, ◌∙◌, subst, arith}
use Rattle.std.specs.Prelude.{option_map}
use Rattle.std.proofs.lemmas.Bool.{eqb-true}
use Rattle.std.proofs.lemmas.Bool.Decides.{nat_tests}
use Rattle.dcp_types.specs.declared.states.State.{State}
use Rattle.dcp_types.specs.declared.states.State.TheVariants.{Alive, Computing}
use Rattle.dcp_ends.specs.declared.entries.LogEntry.{LogEntry}
use Rattle.fixed_models.specs.Steps.{start}
use Rattle.slave_desc.specs.declared.descriptions.SlaveDesc.{SlaveDesc}
use Rattle.scenario.specs.declared.scenarios.Scenario.{Scenario}
use Rattle.scenario.specs.Lookups.{slave_at}
use Rattle.scenario.specs.Sound.{IsScenario}
use Rattle.plan_laws.specs.Taking as plans
use Rattle.log_spec.specs.Log as logs
use Rattle.lockstep_laws.specs.Steps.{Step}
use Rattle.lockstep_laws.specs.Models.Machines.{Fed, IsAskedInOrder}
use Rattle.lockstep_laws.specs.Models.Scenarios.{slave_numbered}
use Rattle.lockstep_laws.proofs.Models.Scenarios.{has_parties}
use Rattle.slave_spec.specs.Changes.{input, steps_in_run, entry_interval}
use Rattle.slave_spec.specs.Payloads as wired
use Rattle.slave_spec.specs.Payloads.{kept_under, is_kept_of, is_here, ready}
use Rattle.slave_spec.specs.declared.words.SlaveSetup.{SlaveSetup}
use Rattle.slave_spec.specs.declared.words.Session.{Session}
use Rattle.slave_spec.specs.declared.words.Session.TheVariants.{Before, During, After}
use Rattle.slave_spec.specs.Transport.{SlaveState}
use Rattle.slave_spec.specs.Plants.{Plant}
use Rattle.slave_spec.specs.Begun.{IsRegularIn}
use Rattle.slave_spec.specs.Slaves.{machine, has_ended}
use Rattle.slave_spec.proofs.Regular.{regular_after}
use Rattle.pdu_layout.specs.Reading.{message_in}
use Rattle.slave_laws.specs.Talk.Plants.{under_way}
use Rattle.slave_laws.specs.Talk.Desks.{at, events_of_slave}
use Rattle.slave_laws.specs.Talk.Benches.{bench_at}
use Rattle.slave_laws.proofs.Talk.Meets.{slave_is}
use Rattle.slave_laws.specs.Talk.Sends.{ReadsMessages}
use Rattle.slave_laws.specs.Model.Models.{plant_at}
use Rattle.slave_laws.proofs.Model.Fresh.{begins_fresh}
use Rattle.slave_laws.proofs.Model.Still.{stays_still}
use Rattle.slave_laws.proofs.Model.Inputs.{are_there, among}
use Rattle.slave_laws.proofs.Model.Parameters.{have_parameters}
use Rattle.slave_laws.proofs.Model.Opened.{outputs_fit}
use Rattle.slave_laws.specs.Wiring.Wired.{is_past, is_during}
use Rattle.slave_laws.proofs.Wiring.Counting.{inputs_go_on}
use Rattle.slave_laws.specs.Wiring.Links.{interval_of}
use Rattle.slave_laws.proofs.Wiring.Planned.{input_intervals}
use Rattle.slave_laws.specs.Data.Made.{setup_at, parties, slaves, kept_note, store_of, machines}
use Rattle.slave_laws.specs.Data.Holding.{HoldsItsModel, HoldsItsInputs}
use Rattle.slave_laws.proofs.Data.Ended.{ended_alive}

-- ---- the slave of a number
slave_got : (slaves : List SlaveDesc) (s : ℕ) (d : SlaveDesc) → 0 < s → slice_get slaves (s - 1) ≡ Some d → slave_at slaves s ≡ Some d
slave_got slaves s d pos e = by (s == 0) (grind (arith, nat_tests, pos)) e
  where
    by : (b : Bool) → b ≡ false → slice_get slaves (s - 1) ≡ Some d → (if b then None else slice_get slaves (s - 1)) ≡ Some d
    by true f g = absurd cc
    by false f g = g

pub of_scenario : (sc : Scenario) (other : SlaveDesc) → IsScenario sc → (s : ℕ) → logs.IsSlaveOf (parties sc other) s → plans.IsScenarioSlave sc s (slave_numbered sc other s)
of_scenario sc other ok s is = record { sound = ok; slave = slave_got sc.slaves s (slave_numbered sc other s) is.0 ((has_parties sc other ok message_in).desc s is) }

pub reads : (sc : Scenario) (other : SlaveDesc) → ReadsMessages (parties sc other)
reads sc other b = refl

-- ---- the model
pub holds_model : HoldsItsModel
holds_model sc other ok s is =
    let x = setup_at sc other s in
    let w = parties sc other in
    let of = of_scenario sc other ok s is in
    record {
      fresh = λ log o z. ((plant_at x w s log).model.parameters, (begins_fresh x w s log).first z);
      tuned = λ log o z t. (begins_fresh x w s log).first z ∙ ap (start x.desc.kind) (have_parameters sc s x w of (reads sc other) log t);
      first = λ log o z t. outputs_fit sc s x w of (reads sc other) log t;
      still = λ e log o a b. ap (λ m. m.state) (stays_still x w s e log a b);
    }

-- ---- the inputs
stepping : (t : State) → under_way t ≡ Some Step → t ≡ Computing
stepping t h = grind arith

not_computing : (t : State) → t ≡ Alive → t ≡ Computing → ⊥
not_computing t e f = absurd cc

computing_during : (x : SlaveSetup) (session : Session) (p : Plant) → IsRegularIn x session p → (has_ended session ≡ true → p.state ≡ Alive) → p.state ≡ Computing → is_during session ≡ true
computing_during x Before p r f e = absurd (not_computing p.state (ap (λ q. q.state) r) e)
computing_during x (During master id) p r f e = refl
computing_during x (After master id) p r f e = absurd (not_computing p.state (f refl) e)

here_kept : (ordinal : ℕ) (o : Option wired.Kept) → is_kept_of ordinal o ≡ true → (k : wired.Kept) × (o ≡ Some k) × (k.ordinal ≡ ordinal)
here_kept ordinal None h = absurd cc
here_kept ordinal (Some k) h = (k, refl, eqb-true k.ordinal ordinal h)

module _ (sc : Scenario) (other : SlaveDesc) (ok : IsScenario sc) (s : ℕ) (is : logs.IsSlaveOf (parties sc other) s) where
  abbrev X : SlaveSetup
  X = setup_at sc other s

  abbrev Plant' : List LogEntry → Plant
  Plant' log = plant_at X (parties sc other) s log

  pub during_step : (log : List LogEntry) → (Plant' log).state ≡ Computing → is_during (at (machine X) (parties sc other) s log).slave.session ≡ true
  during_step log e =
      let w = parties sc other in
      let Q : SlaveState Plant → Type 0 = λ y. IsRegularIn X y.session y.inner in
      let reg = subst Q (sym (slave_is (machine X) w s log)) (regular_after X (events_of_slave w s log)) in
      computing_during X (at (machine X) w s log).slave.session (Plant' log) reg (λ h. ended_alive X s w (reads sc other) log h) e

  pub fed_here : (log : List LogEntry) → IsAskedInOrder (parties sc other) (slaves sc other) s log → (Plant' log).state ≡ Computing → Fed (slaves sc other) (machines sc other) s (bench_at X (parties sc other) s log) (store_of sc other (Plant' log))
  fed_here log o e id f =
      let w = parties sc other in
      let p = Plant' log in
      let of = of_scenario sc other ok s is in
      let g = inputs_go_on sc s X w of (reads sc other) log o.asked (during_step log e) (ap is_past e) id in
      let q = input_intervals sc s X.desc of id f in
      let spaced : entry_interval input id p.wires.changes ≡ interval_of sc id = g.spaced ∙ q in
      let all = are_there X w s log e in
      let here = among input id (is_here p.wires p.steps) p.wires.changes all (g.known ∙ f) in
      let k = here_kept (steps_in_run input id p.wires.changes p.steps) (kept_under id p.wires.kept) here in
      (kept_note sc other p id k.0, ap (option_map (kept_note sc other p id)) k.1, ap (λ j. length p.earlier * (sc.steps / interval_of sc id + 1) + j) (k.2 ∙ ap (λ i. p.steps / i) spaced))

pub holds_inputs : HoldsItsInputs
holds_inputs sc other ok s is = record {
  begins = λ id. refl;
  fed = λ e log o on. fed_here sc other ok s is log o (stepping (plant_at (setup_at sc other s) (parties sc other) s log).state on.under_way);
}
