-- The slaves of a scenario are those that the laws of models speak of.
use Rattle.std.proofs.Common.{◌≡◌, ℕ, ◌+◌, map, List, ◌∷◌, Some, ◌⊎◌, inl, inr, refl, sym, ap, ◌∙◌, arith}
use Rattle.dcp_types.specs.declared.states.State.{State}
use Rattle.dcp_types.specs.declared.states.State.TheVariants.{Computing}
use Rattle.dcp_ends.specs.declared.entries.LogEntry.{LogEntry}
use Rattle.log_spec.specs.Messages.{Note}
use Rattle.log_spec.specs.Moves.{Move, Asks, Comes, Tells, Hears, Brings, Turns, Rests, Other, move}
use Rattle.lockstep_laws.specs.Slaves.{Post}
use Rattle.lockstep_laws.specs.Steps.{Step, Bench}
use Rattle.slave_laws.specs.Talk.Plants.{under_way}
use Rattle.fixed_models.specs.Steps.{model_step}
use Rattle.slave_desc.specs.declared.descriptions.SlaveDesc.{SlaveDesc}
use Rattle.scenario.specs.declared.scenarios.Scenario.{Scenario}
use Rattle.scenario.specs.Settings.{parameters}
use Rattle.scenario.specs.Sound.{IsScenario}
use Rattle.pdu_layout.specs.Reading.{message_in}
use Rattle.log_spec.specs.Log.{IsSlaveOf}
use Rattle.lockstep_laws.specs.Models.Machines.{Store, KeepsIt, Emits, Keeps, IsAskedInOrder, HoldsData, IsCourse}
use Rattle.lockstep_laws.specs.Models.Scenarios.{slave_numbered}
use Rattle.lockstep_laws.proofs.Models.Scenarios.{has_parties}
use Rattle.plan_laws.proofs.Course.Courses.{begun, stays, opened_tuned}
use Rattle.slave_laws.specs.Data.Made.{setup_at, parties, slaves, machines}
use Rattle.slave_laws.proofs.Data.Held.{holds_model, holds_inputs}
use Rattle.slave_laws.proofs.Data.Owing.{owes_own}
use Rattle.slave_laws.specs.Model.Models.{plant_at}
use Rattle.slave_laws.specs.Talk.Benches.{bench_at}
use Rattle.slave_laws.proofs.Data.Goes.{order_less, goes_on}
use Rattle.slave_laws.specs.Data.Whole.{slaves_asked, ReadsRows, AreMachinesOnRows}
use Rattle.slave_laws.proofs.Data.Stepping.{order_of, step_on_inputs}
use Rattle.slave_laws.proofs.Data.Feeding.{some_interval, fed_by_slaves}

stepping : (t : State) → under_way t ≡ Some Step → t ≡ Computing
stepping t h = grind arith

-- ---- what may be asked makes no difference to data
module _ (sc : Scenario) (other : SlaveDesc) (s : ℕ) where
  kept_asked : (id : ℕ) (n : Note) (b : Bench) (v : Store) → KeepsIt (slaves sc other) (machines sc other) id n b v → KeepsIt (slaves_asked sc other) (machines sc other) id n b v
  kept_asked id n b v h = record { kept = h.kept; number = h.number }

  emits_asked : (id : ℕ) (b : Bench) (u : Store) (owed : List Post) → Emits (parties sc other) (slaves sc other) (machines sc other) s id b u owed → Emits (parties sc other) (slaves_asked sc other) (machines sc other) s id b u owed
  emits_asked id b u owed h = record { unsent = h.unsent; sent = h.sent }

  either : {A B C : Type 0} → (B → C) → A ⊎ B → A ⊎ C
  either f (inl a) = inl a
  either f (inr b) = inr (f b)

  keeps_asked : (mv : Move) (b c : Bench) (u v : Store) (owed : List Post) → Keeps (parties sc other) (slaves sc other) (machines sc other) s mv b c u v owed → Keeps (parties sc other) (slaves_asked sc other) (machines sc other) s mv b c u v owed
  keeps_asked (Asks n) b c u v owed h = h
  keeps_asked (Comes from receiver n) b c u v owed h = h
  keeps_asked (Tells to bytes) b c u v owed h = h
  keeps_asked (Hears n) b c u v owed h = h
  keeps_asked (Brings from id n) b c u v owed h = (h.0, λ i. either (λ k. (k.0, kept_asked id n b v k.1)) (h.1 i))
  keeps_asked Turns b c u v owed h = record { kept = h.kept; quiet = h.quiet; shows = λ sh id own. emits_asked id b u owed (h.shows sh id own) }
  keeps_asked Rests b c u v owed h = h
  keeps_asked Other b c u v owed h = h

order_before : (sc : Scenario) (other : SlaveDesc) → IsScenario sc → (s : ℕ) → IsSlaveOf (parties sc other) s → (e : LogEntry) (log : List LogEntry) → IsAskedInOrder (parties sc other) (slaves_asked sc other) s (e ∷ log) → IsAskedInOrder (parties sc other) (slaves sc other) s log
order_before sc other ok s is e log o = order_less sc other ok s is e log (order_of sc other s (e ∷ log) o)

holds : (sc : Scenario) (other : SlaveDesc) → IsScenario sc → (s : ℕ) → IsSlaveOf (parties sc other) s → ReadsRows sc other s → HoldsData (parties sc other) (slaves_asked sc other) (machines sc other) s
holds sc other ok s is reads =
    let x = setup_at sc other s in
    let w = parties sc other in
    let model = holds_model sc other ok s is in
    let fed = holds_inputs sc other ok s is in
    record {
      begins = fed.begins;
      goes = λ e log o.
          let m = machines sc other in
          let y = slaves_asked sc other in
          keeps_asked sc other s (move w s e) (y.bench s log) (y.bench s (e ∷ log)) (m.store s log) (m.store s (e ∷ log)) (y.desk s (e ∷ log)).owed (goes_on sc other ok s is e log (order_of sc other s (e ∷ log) o));
      own = λ log o id no'. owes_own sc other ok s is log (order_of sc other s log o) id no';
      fresh = λ log o z. model.fresh log (order_of sc other s log o) z;
      tuned = λ log o z t. model.tuned log (order_of sc other s log o) z t;
      first = λ log o z t. model.first log (order_of sc other s log o) z t;
      still = λ e log o a b. model.still e log (order_of sc other s (e ∷ log) o) a b;
      fed = λ e log o st. fed.fed e log (order_before sc other ok s is e log o) st;
      steps = λ e log o st rows each few right.
          let p = plant_at x w s log in
          let b = bench_at x w s log in
          ap (λ us. model_step x.desc.kind (parameters sc s x.desc (b.resets + 1)) (map (λ q. q.kind) x.desc.outputs) p.model.state us sc.micro) (sym (reads log (order_before sc other ok s is e log o) (stepping p.state st.under_way) rows each few right)) ∙ step_on_inputs sc other ok s is e log o st;
    }

course : (sc : Scenario) (other : SlaveDesc) (s : ℕ) → IsCourse (slaves_asked sc other) (machines sc other) s
course sc other s = record {
  begun = λ es a b. begun sc s (slave_numbered sc other s) es a b;
  stays = λ r e es a o p q. stays sc s (slave_numbered sc other s) r e es a o p q;
  tuned = λ r es o. opened_tuned sc s (slave_numbered sc other s) r es o;
}

pub are_machines : AreMachinesOnRows
are_machines sc other ok reads =
    let parts = has_parties sc other ok message_in in
    record {
      steps = refl;
      runs = refl;
      slaves = refl;
      some = parts.some;
      desc = λ s is. parts.desc s is;
      q = λ id. some_interval sc ok id;
      feeds = λ s id h. let f = fed_by_slaves sc ok s (slave_numbered sc other s) id h in (let g = f.0 in omega (arith, g), f.1);
      holds = λ s is. holds sc other ok s is (reads s is);
      course = λ s is. course sc other s;
    }
