-- A slave that has done a row event shows its row in the reference.
use Rattle.std.proofs.Common.{◌≡◌, ℕ, zero, suc, ◌+◌, ◌*◌, ◌/◌, ◌<◌, ◌≤◌, true, ◌⊎◌, inl, inr, Option, List, ◌∷◌, map, refl, sym, ap, ◌∙◌, subst, arith, ℤ, Result, Ok, Err}
use Rattle.std.proofs.lemmas.Bool.{cond-true}
use Rattle.dcp_types.specs.declared.data_types.DataType.{DataType}
use Rattle.dcp_types.specs.declared.fault_codes.FaultCode.{FaultCode}
use Rattle.dcp_types.specs.declared.fault_codes.FaultCode.TheVariants.{OutOfRange}
use Rattle.dcp_ends.specs.declared.entries.LogEntry.{LogEntry}
use Rattle.fixed_models.specs.Steps.{outputs, all_fit}
use Rattle.slave_desc.specs.declared.descriptions.SlaveDesc.{SlaveDesc}
use Rattle.scenario.specs.declared.scenarios.Scenario.{Scenario}
use Rattle.scenario.specs.Settings.{parameters}
use Rattle.scenario.specs.Sound.{IsScenario}
use Rattle.lockstep.specs.declared.references.RefFault.{RefFault}
use Rattle.lockstep.specs.Lockstep.{inputs, state, model_state_after, shown, shown_at, shown_of, IsReference}
use Rattle.log_spec.specs.Log.{Parties, IsSlaveOf, DecidedRequest, requests_sent}
use Rattle.log_spec.specs.Moves.{decided_exchanges}
use Rattle.lockstep_laws.specs.Steps.{place_after, run_after, Told, told_of, BenchProgress, view_after, view, Bench}
use Rattle.lockstep_laws.specs.Cast.{ConversingSlaves}
use Rattle.lockstep_laws.specs.Asked.{AskedAsPlanned}
use Rattle.lockstep_laws.specs.Runs.{AreSlaves, Behaves}
use Rattle.lockstep_laws.proofs.Talk.{Behind}
use Rattle.lockstep_laws.proofs.Conversation.{known}
use Rattle.lockstep_laws.proofs.Local.{Counts}
use Rattle.lockstep_laws.proofs.Places.{Ahead, Fits, fits, ahead}
use Rattle.lockstep_laws.proofs.Asking.{asked_in_order}
use Rattle.lockstep_laws.specs.Models.Machines.{AreMachines}
use Rattle.lockstep_laws.proofs.Models.Values.{in_order}
use Rattle.lockstep_laws.proofs.Models.Exists.{step_fits, run_of_place}
use Rattle.lockstep_laws.specs.Models.Scenarios.{slave_numbered}
use Rattle.slave_spec.specs.declared.words.SlaveSetup.{SlaveSetup}
use Rattle.slave_spec.specs.Slaves.{machine}
use Rattle.slave_laws.specs.Talk.Desks.{at}
use Rattle.slave_laws.specs.Talk.Benches.{bench_at}
use Rattle.slave_laws.specs.Model.Models.{plant_at}
use Rattle.slave_laws.specs.Data.Made.{setup_at, parties, machines}
use Rattle.slave_laws.specs.Data.Whole.{slaves_asked}
use Rattle.slave_laws.proofs.Wiring.Rows.{slaves_are}
use Rattle.plan_laws.specs.Course.Courses.{opened}
use Rattle.run_laws.proofs.Headline.Behaving.{are_slaves}
use Rattle.completeness_laws.proofs.Causes.Own.{locked}

view_grows : (t : Told) (v : BenchProgress) → v.done ≤ (view_after t v).done
view_grows t v = grind arith

done_near : (steps : ℕ) (v : BenchProgress) (b : Bench) → Counts steps v b → v.done ≤ b.events
done_near steps v b c = grind arith

-- a state that a step reached shows its outputs
fit_shows : (types : List DataType) (vs : List ℤ) → all_fit types vs ≡ true → shown_of types vs ≡ Ok vs
fit_shows types vs h = cond-true (all_fit types vs) (Ok vs) (Err OutOfRange) h

reached_by : (sc : Scenario) (rows : List (List ℤ)) (s : ℕ) (d : SlaveDesc) (r k : ℕ) (y : List ℤ) (before : Result (List ℤ) FaultCode) → model_state_after sc rows s d r k before ≡ Ok y → (vs : List ℤ) × (shown_at sc s d r (Ok y) ≡ Ok vs)
reached_by sc rows s d r k y (Ok z) h =
    (outputs d.kind (parameters sc s d r) y, fit_shows (map (λ p. p.kind) d.outputs) (outputs d.kind (parameters sc s d r) y) (step_fits d.kind (parameters sc s d r) (map (λ p. p.kind) d.outputs) z (inputs sc rows s d r k) sc.micro y h))
reached_by sc rows s d r k y (Err c) h = absurd cc

abbrev IsShown : Scenario → List (List ℤ) → (s : ℕ) → SlaveDesc → (r k : ℕ) → Type 0
IsShown sc rows s d r k = (vs : List ℤ) × (shown sc rows s d r k ≡ Ok vs)

state_shows : (sc : Scenario) (rows : List (List ℤ)) (s : ℕ) (d : SlaveDesc) (r k : ℕ) (y : List ℤ) → state sc rows s d r (suc k) ≡ Ok y → IsShown sc rows s d r (suc k)
state_shows sc rows s d r k y h =
    let z = reached_by sc rows s d r k y (state sc rows s d r k) h in
    (z.0, ap (shown_at sc s d r) h ∙ z.1)

module _ (sc : Scenario) (other : SlaveDesc) (ok : IsScenario sc) (log : List LogEntry) (b : Behaves (parties sc other) (slaves_asked sc other) log) (rows : List (List ℤ)) (fault : Option RefFault) (ref : IsReference sc rows fault)
    (t : ℕ) (it : IsSlaveOf (parties sc other) t) (m i : ℕ) (within : i ≤ sc.steps) (done : (view (decided_exchanges (parties sc other) t log)).done ≡ 2 * (m * (sc.steps + 1) + i)) where
  abbrev w : Parties
  w = parties sc other

  abbrev x : ConversingSlaves
  x = slaves_asked sc other

  abbrev X : SlaveSetup
  X = setup_at sc other t

  abbrev d : SlaveDesc
  d = slave_numbered sc other t

  abbrev c : Bench
  c = bench_at X w t log

  its_slaves : AreSlaves w x
  its_slaves = are_slaves sc other ok

  its_machines : AreMachines w x (machines sc other)
  its_machines = slaves_are sc other ok

  abbrev ds : List DecidedRequest
  ds = decided_exchanges w t log

  abbrev served : List DecidedRequest
  served = (at (machine X) w t log).desk.served

  events_near : (2 * (m * (sc.steps + 1) + i) ≤ c.events) × (c.events ≤ 2 * (m * (sc.steps + 1) + i) + 1)
  events_near = by (ahead w x its_slaves log b t it)
    where
      by : Ahead (requests_sent w t log) ds c → (2 * (m * (sc.steps + 1) + i) ≤ c.events) × (c.events ≤ 2 * (m * (sc.steps + 1) + i) + 1)
      by (inl e) = (omega (arith, e, done), omega (arith, e, done))
      by (inr e) = let k = e.0 in (omega (arith, k, done), omega (arith, k, done))

  timed : Fits sc.steps served c
  timed = fits w x its_slaves log b t it

  half : (n e : ℕ) → 2 * n ≤ e → e ≤ 2 * n + 1 → e / 2 ≡ n
  half n e h k = omega (arith, h, k)

  place_is : place_after c.events ≡ m * (sc.steps + 1) + i
  place_is = half (m * (sc.steps + 1) + i) c.events events_near.0 events_near.1

  stands_at : (c.resets ≡ m) × (c.steps ≡ i)
  stands_at =
      let p = timed.placed in
      let a = run_of_place sc.steps c.resets c.steps (place_after c.events) p.is p.most in
      let e = run_of_place sc.steps m i (place_after c.events) place_is within in
      (sym a.0 ∙ e.0, sym a.1 ∙ e.1)

  there : (vs : List ℤ) → shown sc rows t d (c.resets + 1) c.steps ≡ Ok vs → IsShown sc rows t d (m + 1) i
  there vs h =
      let P : ℕ → ℕ → Type 0 = λ r k. shown sc rows t d (r + 1) k ≡ Ok vs in
      (vs, subst (λ k. P m k) stands_at.1 (subst (λ r. P r c.steps) stands_at.0 h))

  model_stands : (0 < c.steps) ⊎ ((machines sc other).tuned t (c.resets + 1) served ≡ true) → state sc rows t d (c.resets + 1) c.steps ≡ Ok (plant_at X w t log).model.state
  model_stands h = ((locked sc other ok log b rows fault ref).rows').stands t it h

  -- ---- after a step
  pub step_shown : 1 ≤ i → IsShown sc rows t d (m + 1) i
  step_shown first = by i refl
    where
      by : (k : ℕ) → i ≡ k → IsShown sc rows t d (m + 1) i
      by zero e = absurd (omega (arith, e, first))
      by (suc k) e =
          let steps : c.steps ≡ suc k = stands_at.1 ∙ e in
          let h = model_stands (inl (omega (arith, steps))) in
          let z = state_shows sc rows t d (c.resets + 1) k (plant_at X w t log).model.state (ap (state sc rows t d (c.resets + 1)) (sym steps) ∙ h) in
          there z.0 (ap (shown sc rows t d (c.resets + 1)) steps ∙ z.1)

  -- ---- at the beginning of a run
  module _ (first : i ≡ 0) (open_there : opened sc t d (m + 1) ds ≡ true) where
    run_is : (e : ℕ) → 2 * (m * (sc.steps + 1) + i) ≤ e → e ≤ 2 * (m * (sc.steps + 1) + i) + 1 → run_after sc.steps e ≡ m + 1
    run_is e h k = ap (λ (n : ℕ). n + 1) (run_of_place sc.steps m i (place_after e) (half (m * (sc.steps + 1) + i) e h k) within).0

    open_served : x.opened t (m + 1) served ≡ true
    open_served = by ((known w x its_slaves t it log b).talk.decided)
      where
        P : List DecidedRequest → Type 0
        P es = x.opened t (m + 1) es ≡ true

        by : Behind ds served → x.opened t (m + 1) served ≡ true
        by (inl q) = subst P q open_there
        by (inr p) =
            let y = p.0 in
            let Q : List DecidedRequest → Type 0 = AskedAsPlanned (x.may t) in
            let C : List DecidedRequest → Type 0 = λ es. Counts sc.steps (view es) c in
            let order = subst Q p.1 (asked_in_order w x its_slaves t it log b) in
            let near = done_near sc.steps (view (y ∷ ds)) c (subst C p.1 timed.counts) in
            let g = view_grows (told_of y) (view ds) in
            let most = events_near.1 in
            subst P (sym p.1) ((its_machines.course t it).stays (m + 1) y ds order open_there (run_is (view ds).done (omega (arith, done)) (omega (arith, done))) (run_is (view (y ∷ ds)).done (omega (arith, done, g)) (omega (arith, near, most))))

    open_here : x.opened t (c.resets + 1) served ≡ true
    open_here = let P : ℕ → Type 0 = λ r. x.opened t (r + 1) served ≡ true in subst P (sym stands_at.0) open_served

    pub first_shown : IsShown sc rows t d (m + 1) i
    first_shown =
        let h = model_stands (inr ((its_machines.course t it).tuned (c.resets + 1) served open_here)) in
        let z = (its_machines.holds t it).first log (in_order w x its_slaves (machines sc other) its_machines log b t it) (stands_at.1 ∙ first) open_here in
        there z.0 (ap (shown_at sc t d (c.resets + 1)) h ∙ z.1)
