-- A fault of the model that is reported is the one that ends the reference.
use Rattle.std.proofs.Common.{◌≡◌, ℕ, zero, suc, ◌+◌, ◌-◌, ◌*◌, ◌<◌, ◌≤◌, ◌⊎◌, inl, inr, Option, Some, None, List, [], ◌∷◌, ◌++◌, reverse, length, refl, sym, ap, ◌∙◌, subst, arith, ℤ, Result, Ok, Err}
use Rattle.std.specs.Prelude.{slice_get, slice_index_or}
use Rattle.std.proofs.lemmas.Bool.{cases_lt}
use Rattle.dcp_types.specs.declared.fault_codes.FaultCode.{FaultCode}
use Rattle.dcp_types.specs.Codes.{fault_code}
use Rattle.dcp_ends.specs.declared.entries.LogEntry.{LogEntry}
use Rattle.scenario.specs.declared.scenarios.Scenario.{Scenario}
use Rattle.scenario.specs.Sound.{IsScenario}
use Rattle.slave_desc.specs.declared.descriptions.SlaveDesc.{SlaveDesc}
use Rattle.lockstep.specs.declared.references.RefFault.{RefFault}
use Rattle.lockstep.specs.Lockstep.{row_index, shown, beside, row_from, row, IsMoment, Ends, IsReference}
use Rattle.lockstep.proofs.Existence.{within_all, same_moment}
use Rattle.log_spec.specs.Log.{Parties, IsSlaveOf}
use Rattle.log_spec.specs.Moves.{decided_exchanges}
use Rattle.lockstep_laws.specs.Steps.{view}
use Rattle.lockstep_laws.specs.Runs.{Behaves}
use Rattle.slave_laws.specs.Data.Whole.{slaves_asked}
use Rattle.slave_laws.specs.Talk.Desks.{at}
use Rattle.slave_laws.specs.Model.Models.{plant_at}
use Rattle.lockstep_laws.specs.Models.Scenarios.{slave_numbered}
use Rattle.slave_laws.proofs.Wiring.Rows.{slaves_are}
use Rattle.master_spec.specs.declared.causes.Cause.TheVariants as causes
use Rattle.master_spec.specs.declared.reports.Report.TheVariants as reports
use Rattle.master_spec.specs.Setup.{setup_from}
use Rattle.master_log_laws.specs.Index.Runs.{course_at}
use Rattle.run_laws.specs.Laws.{parties, slave_setup_of, IsRunOf}
use Rattle.completeness_laws.specs.Reasons.{IsFaultOf}
use Rattle.completeness_laws.proofs.Causes.Unexpected.{ended}
use Rattle.completeness_laws.proofs.Causes.Quiet.{IsOfModel}
use Rattle.completeness_laws.proofs.Causes.Located.{asked_fault, is_slave, IsForStep, IsLocated, located}
use Rattle.completeness_laws.proofs.Causes.Shows.{shows_fault, rows_before, behaves_so_far}
use Rattle.completeness_laws.proofs.Causes.Before.{events_done, opened_there}
use Rattle.completeness_laws.proofs.Causes.Others.{step_shown, first_shown}

-- the first slave that faults in a row
row_faults : (sc : Scenario) (rows : List (List ℤ)) (r k s n : ℕ) (ds : List SlaveDesc) (d : SlaveDesc) (code : FaultCode) (id : ℕ) → id ≡ s + n → slice_get ds n ≡ Some d → shown sc rows id d r k ≡ Err code
    → ((j : ℕ) (e : SlaveDesc) → j < n → slice_get ds j ≡ Some e → (vs : List ℤ) × (shown sc rows (s + j) e r k ≡ Ok vs))
    → row_from sc rows r k s ds ≡ Err (record { slave = id; run = r; step = k; code = code })
row_faults sc rows r k s n [] d code id is e f g = absurd cc
row_faults sc rows r k s zero (x ∷ ds) d code id is e f g =
    let z : x ≡ d = cc in
    let y : s ≡ id = omega (arith, is) in
    let P : ℕ → Type 0 = λ i. shown sc rows i d r k ≡ Err code in
    ap (λ (a : Result (List ℤ) FaultCode). beside s r k a (row_from sc rows r k (s + 1) ds)) (ap (λ (a : SlaveDesc). shown sc rows s a r k) z ∙ subst P (sym y) f)
    ∙ ap (λ (i : ℕ). Err (record { slave = i; run = r; step = k; code = code })) y
row_faults sc rows r k s (suc n) (x ∷ ds) d code id is e f g =
    let first = g 0 x (omega arith) refl in
    let at : s + 0 ≡ s = omega arith in
    let P : ℕ → Type 0 = λ i. shown sc rows i x r k ≡ Ok first.0 in
    let more = row_faults sc rows r k (s + 1) n ds d code id (omega (arith, is)) e f (λ j y lt h. next j y lt h) in
    ap (λ (a : Result (List ℤ) FaultCode). beside s r k a (row_from sc rows r k (s + 1) ds)) (subst P at first.1) ∙ ap (beside s r k (Ok first.0)) more
  where
    next : (j : ℕ) (y : SlaveDesc) → j < n → slice_get ds j ≡ Some y → (vs : List ℤ) × (shown sc rows (s + 1 + j) y r k ≡ Ok vs)
    next j y lt h =
        let z = g (suc j) y (omega (arith, lt)) h in
        let at : s + suc j ≡ s + 1 + j = omega arith in
        let P : ℕ → Type 0 = λ i. shown sc rows i y r k ≡ Ok z.0 in
        (z.0, subst P at z.1)

same_desc : (a b : SlaveDesc) → Some a ≡ Some b → a ≡ b
same_desc a b e = cc

same_fault : (r : Result (List ℤ) RefFault) (a b : RefFault) → r ≡ Err a → r ≡ Err b → a ≡ b
same_fault r a b e f = let z = sym e ∙ f in cc

no_row : {A : Type 0} (r : Result (List ℤ) RefFault) (f : RefFault) (vs : List ℤ) → r ≡ Err f → r ≡ Ok vs → A
no_row r f vs a b = let z : Err f ≡ Ok vs = sym a ∙ b in absurd cc

-- a fault at a moment before which all rows are there is the one that ends the reference
ends_there : (sc : Scenario) (rows : List (List ℤ)) (last : Option RefFault) → IsReference sc rows last → (f : RefFault) → IsMoment sc f.run f.step → row_index sc.steps f.run f.step ≤ length rows → row sc rows f.run f.step ≡ Err f → last ≡ Some f
ends_there sc rows last ref f at many faults = by (cases_lt (row_index sc.steps f.run f.step) (length rows)) last ref.ends
  where
    by : (row_index sc.steps f.run f.step < length rows) ⊎ (length rows ≤ row_index sc.steps f.run f.step) → (o : Option RefFault) → Ends sc rows o → o ≡ Some f
    by (inl lt) o e = no_row (row sc rows f.run f.step) f (slice_index_or rows (row_index sc.steps f.run f.step) []) faults (ref.each f.run f.step at lt)
    by (inr ge) None e = let lt = within_all sc f.run f.step at in absurd (omega (arith, e, lt, ge))
    by (inr ge) (Some g) e =
        let b = e.behind in
        let m = same_moment sc f.run f.step g.run g.step at e.moment (omega (arith, b, ge, many)) in
        let here : row sc rows f.run f.step ≡ Err g = ap (λ (r : ℕ). row sc rows r f.step) m.0 ∙ ap (row sc rows g.run) m.1 ∙ e.faults in
        ap (λ (x : RefFault). Some x) (same_fault (row sc rows f.run f.step) g f here faults)

module _ (sc : Scenario) (other : SlaveDesc) (ok : IsScenario sc) (log : List LogEntry) (run : IsRunOf sc other log) (later sofar : List LogEntry) (front : reverse log ≡ later ++ sofar) (id phase : ℕ) (q c : ℕ)
    (reported : (course_at (setup_from sc) sofar).report ≡ Some (reports.Failed id phase (causes.Faulted q c))) (code : FaultCode)
    (fault : (plant_at (slave_setup_of sc other id) (parties sc other) id (asked_fault sc other ok log run later sofar front id phase q c reported).taken.earlier).fault ≡ Some code) (model : IsOfModel code) (told : c ≡ fault_code code) where
  abbrev w : Parties
  w = parties sc other

  abbrev place : IsLocated sc other ok log run later sofar front id phase q c reported code fault model
  place = located sc other ok log run later sofar front id phase q c reported code fault model

  its : IsSlaveOf w id
  its = is_slave sc other ok log run later sofar front id phase q c reported

  module _ (rows : List (List ℤ)) (last : Option RefFault) (ref : IsReference sc rows last) where
    before : (t : ℕ) → IsSlaveOf w t → t < id → (vs : List ℤ) × (shown sc rows t (slave_numbered sc other t) (place.m + 1) place.i ≡ Ok vs)
    before t it less = by place.for_step
      where
        done : (view (decided_exchanges w t sofar)).done ≡ 2 * (place.m * (sc.steps + 1) + place.i)
        done = events_done sc other ok log run later sofar front id phase (causes.Faulted q c) reported t it less ∙ place.plan_events

        behaves : Behaves w (slaves_asked sc other) sofar
        behaves = behaves_so_far sc other ok log run later sofar front id phase q c reported code fault model rows last ref

        by : IsForStep (ended sc other ok log run later sofar front id phase (causes.Faulted q c) reported).job.task place.i → (vs : List ℤ) × (shown sc rows t (slave_numbered sc other t) (place.m + 1) place.i ≡ Ok vs)
        by (inl z) =
            let o = opened_there sc other ok log run later sofar front id phase (causes.Faulted q c) reported t it less z.1 place.m place.plan in
            first_shown sc other ok sofar behaves rows last ref t it place.m place.i (place.moment).within done z.0 o
        by (inr z) = step_shown sc other ok sofar behaves rows last ref t it place.m place.i (place.moment).within done z.0

    abbrev f : RefFault
    f = record { slave = id; run = place.m + 1; step = place.i; code = code }

    desc_at : (t : ℕ) → IsSlaveOf w t → slice_get sc.slaves (t - 1) ≡ Some (slave_numbered sc other t)
    desc_at t it = (slaves_are sc other ok).desc t it

    row_is : row sc rows (place.m + 1) place.i ≡ Err f
    row_is =
        let some = its.0 in
        row_faults sc rows (place.m + 1) place.i 1 (id - 1) sc.slaves (slave_numbered sc other id) code id (omega (arith, some)) (desc_at id its)
        (shows_fault sc other ok log run later sofar front id phase q c reported code fault model rows last ref) (λ j e lt h. lesser j e lt h)
      where
        lesser : (j : ℕ) (e : SlaveDesc) → j < id - 1 → slice_get sc.slaves j ≡ Some e → (vs : List ℤ) × (shown sc rows (1 + j) e (place.m + 1) place.i ≡ Ok vs)
        lesser j e lt h =
            let most = its.1 in
            let it : IsSlaveOf w (1 + j) = (omega arith, omega (arith, lt, most)) in
            let at : 1 + j - 1 ≡ j = omega arith in
            let same : slave_numbered sc other (1 + j) ≡ e = same_desc (slave_numbered sc other (1 + j)) e (sym (desc_at (1 + j) it) ∙ ap (slice_get sc.slaves) at ∙ h) in
            let z = before (1 + j) it (omega (arith, lt)) in
            (z.0, ap (λ (x : SlaveDesc). shown sc rows (1 + j) x (place.m + 1) place.i) (sym same) ∙ z.1)

    last_is : last ≡ Some f
    last_is = ends_there sc rows last ref f place.moment (rows_before sc other ok log run later sofar front id phase q c reported code fault model rows last ref) row_is

    pub is_of_reference : IsFaultOf sc last id phase c
    is_of_reference = record { found = f; is = last_is; slave = refl; code_is = sym told; at = place.phase_is }
