-- What is kept under the ids that feed a slave is what their senders show, so its inputs are the reference's.
use Rattle.std.proofs.Common.{◌≡◌, ℕ, ◌+◌, ◌-◌, ◌*◌, ◌/◌, ◌%◌, ◌<◌, ◌≤◌, ◌⊎◌, inl, inr, List, length, Option, Some, None, Ok, true, refl, sym, ap, ◌∙◌, subst, arith, ℤ}
use Rattle.std.specs.Prelude.{option_map}
use Rattle.std.proofs.lemmas.Bool.{cases_lt}
use Rattle.std.proofs.lemmas.Nat.{div-add-mod'}
use Rattle.dcp_types.specs.declared.states.State.TheVariants.{Computing}
use Rattle.dcp_ends.specs.declared.entries.LogEntry.{LogEntry}
use Rattle.slave_desc.specs.declared.descriptions.SlaveDesc.{SlaveDesc}
use Rattle.scenario.specs.declared.scenarios.Scenario.{Scenario}
use Rattle.scenario.specs.Sound.{IsScenario}
use Rattle.lockstep.specs.Lockstep as reference
use Rattle.lockstep.specs.Lockstep.{row_index, shown, IsMoment, EachRow}
use Rattle.plan_laws.specs.Taking as plans
use Rattle.log_spec.specs.Log.{Parties, IsSlaveOf}
use Rattle.lockstep_laws.specs.Steps.{Bench}
use Rattle.lockstep_laws.specs.Models.Ordinals.{row_of_ordinal}
use Rattle.lockstep_laws.specs.Models.Machines.{KeptNote, step_at, carried, IsRightNote, IsAskedInOrder}
use Rattle.lockstep_laws.specs.Models.Scenarios.{slave_numbered}
use Rattle.lockstep_laws.proofs.Models.EachQth.{row_is}
use Rattle.lockstep_laws.proofs.Models.Exists.{run_of_place}
use Rattle.slave_spec.specs.Changes.{input, has_id}
use Rattle.slave_spec.specs.Payloads as wired
use Rattle.slave_spec.specs.Payloads.{Kept, kept_under, payload}
use Rattle.slave_spec.specs.declared.words.SlaveSetup.{SlaveSetup}
use Rattle.slave_spec.specs.Plants.{Plant}
use Rattle.slave_spec.specs.Slaves.{machine}
use Rattle.slave_laws.specs.Talk.Desks.{at}
use Rattle.slave_laws.specs.Talk.Benches.{bench_at}
use Rattle.slave_laws.specs.Model.Models.{plant_at}
use Rattle.slave_laws.specs.Wiring.Wired.{planned_changes, changes_restarted, is_past, is_during}
use Rattle.slave_laws.proofs.Wiring.Courses.{is_planned, is_counted}
use Rattle.slave_laws.specs.Wiring.Links.{interval_of, sender_of}
use Rattle.slave_laws.specs.Data.Made.{setup_at, parties, slaves, kept_note, machines}
use Rattle.slave_laws.proofs.Data.Held.{of_scenario, reads, during_step, fed_here}
use Rattle.slave_laws.specs.Data.Whole.{slaves_asked, KeepsRight}
use Rattle.slave_laws.proofs.Data.Feeding.{some_interval, fed_by_slaves}
use Rattle.slave_laws.proofs.Data.Whole.{are_machines}
use Rattle.slave_laws.specs.Wiring.Reads.{sent_step, IsShownBy}
use Rattle.slave_laws.proofs.Wiring.Inputs.{read_rows}
use Rattle.slave_laws.specs.Wiring.Reading.{SlavesReadRows, SlavesAreMachines}

-- a row of the reference is of one of the runs
run_within : (steps runs a n count : ℕ) → a * (steps + 1) + n < count → count ≤ runs * (steps + 1) → a + 1 ≤ runs
run_within steps runs a n count lt le = by (cases_lt a runs)
  where
    by : (a < runs) ⊎ (runs ≤ a) → a + 1 ≤ runs
    by (inl l) = omega (arith, l)
    by (inr ge) =
        let s : a * (steps + 1) ≡ runs * (steps + 1) + (a - runs) * (steps + 1) = ap (λ k. k * (steps + 1)) more ∙ omega arith in
        absurd (omega (arith, s, lt, le))
      where
        more : a ≡ runs + (a - runs)
        more = omega (arith, ge)

-- what is kept as a note is kept as a payload
kept_as : (f : Kept → KeptNote) (o : Option Kept) (k : KeptNote) → option_map f o ≡ Some k → (kept : Kept) × (o ≡ Some kept) × (f kept ≡ k)
kept_as f None k e = absurd cc
kept_as f (Some kept) k e = (kept, refl, cc)

module _ (sc : Scenario) (other : SlaveDesc) (ok : IsScenario sc) (s : ℕ) (is : IsSlaveOf (parties sc other) s) (log : List LogEntry) (order : IsAskedInOrder (parties sc other) (slaves sc other) s log)
    (computing : (plant_at (setup_at sc other s) (parties sc other) s log).state ≡ Computing) (rows : List (List ℤ)) (each : EachRow sc rows) (few : length rows ≤ sc.runs * (sc.steps + 1)) (right : KeepsRight sc other s rows log) where
  abbrev X : SlaveSetup
  X = setup_at sc other s

  abbrev W : Parties
  W = parties sc other

  abbrev p : Plant
  p = plant_at X W s log

  abbrev b : Bench
  b = bench_at X W s log

  of : plans.IsScenarioSlave sc s X.desc
  of = of_scenario sc other ok s is

  during : is_during (at (machine X) W s log).slave.session ≡ true
  during = during_step sc other ok s is log computing

  most : b.steps ≤ sc.steps
  most = (is_counted sc s X W of (reads sc other) log order.asked during).most

  wiring : p.wires.changes ≡ changes_restarted sc.steps (planned_changes sc s X.desc) (length p.earlier)
  wiring = is_planned sc s X W of (reads sc other) log order.asked during (ap is_past computing)

  -- ---- under one id
  module _ (id : ℕ) (feeds : has_id input id (planned_changes sc s X.desc) ≡ true) where
    abbrev q : ℕ
    q = interval_of sc id

    abbrev a : ℕ
    a = sender_of sc id

    abbrev c : SlaveDesc
    c = slave_numbered sc other a

    abbrev m : ℕ
    m = sent_step sc id b.steps

    sends : plans.IsScenarioSlave sc a c
    sends = let f = fed_by_slaves sc ok s X.desc id feeds in let g = f.0 in of_scenario sc other ok a (omega (arith, g), f.1)

    m_within : m ≤ sc.steps
    m_within =
        let whole = div-add-mod' b.steps q in
        let e : q * (b.steps / q) ≡ b.steps / q * q = omega arith in
        omega (arith, whole, e, most)

    module _ (k : KeptNote) (ordinal : k.ordinal ≡ b.resets * (sc.steps / q + 1) + b.steps / q) (r : IsRightNote (slaves_asked sc other) (machines sc other) rows id k.ordinal k.note) where
      row_here : row_of_ordinal sc.steps q k.ordinal ≡ b.resets * (sc.steps + 1) + m
      row_here = ap (row_of_ordinal sc.steps q) ordinal ∙ row_is sc.steps q b.resets b.steps (some_interval sc ok id) most

      moment : IsMoment sc (b.resets + 1) m
      moment = record { first = omega arith; last = run_within sc.steps sc.runs b.resets m (length rows) (let e = r.exists in omega (arith, row_here, e)) few; within = m_within }

      is_there : row_index sc.steps (b.resets + 1) m < length rows
      is_there =
          let one : b.resets + 1 - 1 ≡ b.resets = omega arith in
          let place : row_index sc.steps (b.resets + 1) m ≡ b.resets * (sc.steps + 1) + m = ap (λ n. n * (sc.steps + 1) + m) one in
          let e = r.exists in
          omega (arith, place, row_here, e)

      shows : shown sc rows a c (b.resets + 1) m ≡ Ok r.values
      shows =
          let row = row_of_ordinal sc.steps q k.ordinal in
          let parts = run_of_place sc.steps b.resets m row row_here m_within in
          let P : ℕ → ℕ → Type 0 = λ i j. shown sc rows a c i j ≡ Ok r.values in
          subst (λ j. P (b.resets + 1) j) parts.1 (subst (λ i. P i (step_at sc.steps row)) (ap (λ n. n + 1) parts.0) r.shows)

      shown_by : (kept : Kept) → kept_note sc other p id kept ≡ k → IsShownBy sc rows (b.resets + 1) b.steps id kept
      shown_by kept e = record {
        sender = c;
        is = sends.slave;
        values = r.values;
        moment = moment;
        exists = is_there;
        shows = shows;
        carries = carried_here;
      }
        where
          carried_here : kept.payload ≡ payload c id (planned_changes sc a c) r.values
          carried_here = ap (λ (n : KeptNote). carried n.note) e ∙ r.carries

    feed : (kept : Kept) × (kept_under id p.wires.kept ≡ Some kept) × IsShownBy sc rows (b.resets + 1) b.steps id kept
    feed =
        let f = fed_here sc other ok s is log order computing id feeds in
        let k = kept_as (kept_note sc other p id) (kept_under id p.wires.kept) f.0 f.1 in
        (k.0, k.1, shown_by f.0 f.2 (right id feeds f.0 f.1) k.0 k.2)

  inputs_are : wired.wired_values X.desc p.wires ≡ reference.inputs sc rows s X.desc (b.resets + 1) b.steps
  inputs_are = read_rows sc s X.desc of rows each (b.resets + 1) b.steps p.wires (length p.earlier) wiring (λ id f. feed id f)

pub reads_rows : SlavesReadRows
reads_rows sc other ok s is log order computing rows each few right = inputs_are sc other ok s is log order computing rows each few right

pub slaves_are : SlavesAreMachines
slaves_are sc other ok = are_machines sc other ok (λ s is. reads_rows sc other ok s is)
