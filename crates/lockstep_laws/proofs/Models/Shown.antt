-- The rows of the reference are there as the slaves show them.
use Rattle.std.proofs.Common.{◌≡◌, ℕ, zero, suc, ◌+◌, ◌-◌, ◌/◌, ◌%◌, ◌<◌, ◌≤◌, Bool, true, false, if◌then◌else◌, ◌⊎◌, inl, inr, Option, Some, List, ◌∷◌, length, map, refl, sym, ap, ◌∙◌, subst, arith, ℤ, Ok, Err, Result}
use Rattle.std.specs.Prelude.{slice_get}
use Rattle.std.proofs.lemmas.Bool.{cases_lt, cond-true}
use Rattle.std.proofs.lemmas.Option.{slice_get_within}
use Rattle.dcp_types.specs.declared.fault_codes.FaultCode.{FaultCode}
use Rattle.dcp_types.specs.declared.fault_codes.FaultCode.TheVariants.{OutOfRange}
use Rattle.fixed_models.specs.Steps.{outputs, all_fit}
use Rattle.slave_desc.specs.declared.descriptions.SlaveDesc.{SlaveDesc}
use Rattle.scenario.specs.declared.scenarios.Scenario.{Scenario}
use Rattle.lockstep.specs.declared.references.RefFault.{RefFault}
use Rattle.scenario.specs.Settings.{parameters}
use Rattle.lockstep.specs.Lockstep.{row_index, inputs, state, model_state_after, shown, shown_at, IsMoment, IsReference}
use Rattle.log_spec.specs.Messages.{Note}
use Rattle.dcp_ends.specs.declared.entries.LogEntry.{LogEntry}
use Rattle.log_spec.specs.Log.{Parties, IsSlaveOf, requests_sent, DecidedRequest}
use Rattle.log_spec.specs.Moves.{decided_exchanges}
use Rattle.lockstep_laws.specs.Steps.{RowEvent, row_event_at, place_after, shown_after, run_after, Reply, reply_of, event_asked, Told, told_by, told_of, BenchProgress, view_after, view, Bench}
use Rattle.lockstep_laws.specs.Cast.{ConversingSlaves}
use Rattle.lockstep_laws.specs.Runs.{AreSlaves, Behaves}
use Rattle.lockstep_laws.specs.Asked.{AskedAsPlanned}
use Rattle.lockstep_laws.specs.Master.{IsLeast}
use Rattle.lockstep_laws.proofs.Talk.{Behind, requests_of, taken_length}
use Rattle.lockstep_laws.proofs.Conversation.{known}
use Rattle.lockstep_laws.proofs.Local.{Counts}
use Rattle.lockstep_laws.proofs.Barrier.{IsEvent, asked_first, UnderWay, Alone, Together, together}
use Rattle.lockstep_laws.proofs.Places.{Ahead, fits, ahead, open_newest, newest_event}
use Rattle.lockstep_laws.proofs.Asking.{asked_in_order}
use Rattle.lockstep_laws.specs.Models.Machines.{Machines, AreMachines}
use Rattle.lockstep_laws.proofs.Models.Values.{in_order}
use Rattle.lockstep_laws.proofs.Models.Exists.{AllShow, all_show, row_exists, step_fits, run_of_place, place_is, step_below}

-- a view only grows
view_grows : (t : Told) (v : BenchProgress) → v.done ≤ (view_after t v).done
view_grows t v = grind arith

-- a state shows its outputs where they fit
fit_shows : (sc : Scenario) (s : ℕ) (d : SlaveDesc) (r : ℕ) (y : List ℤ) → all_fit (map (λ p. p.kind) d.outputs) (outputs d.kind (parameters sc s d r) y) ≡ true → (vs : List ℤ) × (shown_at sc s d r (Ok y) ≡ Ok vs)
fit_shows sc s d r y h = (outputs d.kind (parameters sc s d r) y, by (all_fit (map (λ p. p.kind) d.outputs) (outputs d.kind (parameters sc s d r) y)) h)
  where
    by : (b : Bool) → b ≡ true → (if b then Ok (outputs d.kind (parameters sc s d r) y) else Err OutOfRange) ≡ Ok (outputs d.kind (parameters sc s d r) y)
    by b e = cond-true b (Ok (outputs d.kind (parameters sc s d r) y)) (Err OutOfRange) e

-- a state that a step reached shows its outputs
reached_by : (sc : Scenario) (rows : List (List ℤ)) (s : ℕ) (d : SlaveDesc) (r k : ℕ) (y : List ℤ) (before : Result (List ℤ) FaultCode) → model_state_after sc rows s d r k before ≡ Ok y → (vs : List ℤ) × (shown_at sc s d r (Ok y) ≡ Ok vs)
reached_by sc rows s d r k y (Ok z) h = fit_shows sc s d r y (step_fits d.kind (parameters sc s d r) (map (λ p. p.kind) d.outputs) z (inputs sc rows s d r k) sc.micro y h)
reached_by sc rows s d r k y (Err c) h = absurd cc

-- an event under way at the slave is under way to the master
under_told : (steps : ℕ) (q : Option RowEvent) (p : Reply) (v : BenchProgress) (b : Bench) (k : RowEvent) → (IsEvent q → (v.waiting ≡ false) × (q ≡ Some (row_event_at steps v.done))) → b.busy ≡ Some k → Counts steps (view_after (told_by q p) v) b → (b.events ≡ v.done) × ((v.waiting ≡ true) ⊎ IsEvent q)
under_told steps q p v b k h busy c = grind arith

pub under_same : (steps : ℕ) (v : BenchProgress) (b : Bench) (k : RowEvent) → b.busy ≡ Some k → Counts steps v b → (b.events ≡ v.done) × (v.waiting ≡ true)
under_same steps v b k busy c = grind arith

pub under_way_of : (steps : ℕ) (rs : List Note) (ds served : List DecidedRequest) (b : Bench) (k : RowEvent) → Behind (requests_of served) rs → Behind ds served → length rs ≤ length ds + 1 → Alone steps rs ds → b.busy ≡ Some k → Counts steps (view served) b → (b.events ≡ (view ds).done) × UnderWay rs ds
under_way_of steps rs ds served b k t (inl e) le alone busy c =
    let P : List DecidedRequest → Type 0 = λ es. Counts steps (view es) b in
    let h = under_same steps (view ds) b k busy (subst P (sym e) c) in
    (h.0, inl h.1)
under_way_of steps rs ds served b k t (inr p) le alone busy c =
    let y = p.0 in
    let Q : List DecidedRequest → Type 0 = λ es. Behind (requests_of es) rs in
    let o = open_newest y rs ds (taken_length ds) (subst Q p.1 t) le in
    let P : List DecidedRequest → Type 0 = λ es. Counts steps (view es) b in
    let h = under_told steps (event_asked y.request) (reply_of y.answer) (view ds) b k (newest_event steps y rs ds (taken_length ds) o alone) busy (subst P p.1 c) in
    (h.0, by y o h.1)
  where
    by : (y : DecidedRequest) → rs ≡ y.request ∷ requests_of ds → ((view ds).waiting ≡ true) ⊎ IsEvent (event_asked y.request) → UnderWay rs ds
    by y o (inl wait) = inl wait
    by y o (inr ev) = inr (record { one = ap length o ∙ omega (arith, taken_length ds); event = first rs o ev })
      where
        first : (rs : List Note) → rs ≡ y.request ∷ requests_of ds → IsEvent (event_asked y.request) → IsEvent (asked_first rs)
        first rs o ev = let R : Option RowEvent → Type 0 = IsEvent in subst R (sym (ap asked_first o)) ev

pub half_even : (e : ℕ) → e % 2 ≡ 0 → (e + 1) / 2 ≡ e / 2
half_even e even = omega (arith, even)

pub half_more : (e : ℕ) → e % 2 ≡ 0 → (e + 1 + 1) / 2 ≡ e / 2 + 1
half_more e even = omega (arith, even)

pub half_odd : (e : ℕ) → (e % 2 ≡ 0 → ⊥) → (e + 1 + 1) / 2 ≡ (e + 1) / 2
half_odd e odd = by (cases_lt 0 (e % 2))
  where
    by : (0 < e % 2) ⊎ (e % 2 ≤ 0) → (e + 1 + 1) / 2 ≡ (e + 1) / 2
    by (inl h) = omega (arith, h)
    by (inr h) = absurd (odd (omega (arith, h)))

place_near : (j e : ℕ) → j % 2 ≡ 0 → j ≤ e → e ≤ j + 1 → e / 2 ≡ j / 2
place_near j e even h k = omega (arith, even, h, k)

module _ (w : Parties) (x : ConversingSlaves) (ok : AreSlaves w x) (m : Machines) (are : AreMachines w x m) (rows : List (List ℤ)) (fault : Option RefFault) (ref : IsReference m.sc rows fault) where
  -- where the model of slave s stands: once a step of the run was taken, or once it is tuned for the run
  abbrev pub StandsAt : ℕ → List LogEntry → Type 0
  StandsAt s log = (0 < (x.bench s log).steps) ⊎ (m.tuned s ((x.bench s log).resets + 1) (x.desk s log).served ≡ true)
      → state m.sc rows s (m.desc s) ((x.bench s log).resets + 1) (x.bench s log).steps ≡ Ok (m.store s log).model

  pub record Rows (log : List LogEntry) : Type 0 where
    pub stands : (s : ℕ) → IsSlaveOf w s → StandsAt s log
    pub told : (s : ℕ) → IsSlaveOf w s → shown_after (view (decided_exchanges w s log)).done ≤ length rows
    pub exist : (s : ℕ) → IsSlaveOf w s → UnderWay (requests_sent w s log) (decided_exchanges w s log) → (view (decided_exchanges w s log)).done % 2 ≡ 0 → place_after (view (decided_exchanges w s log)).done < length rows

  -- ---- when a row is asked for
  module _ (log : List LogEntry) (b : Behaves w x log) (l : Rows log) (s : ℕ) (is : IsSlaveOf w s) (k : RowEvent) (least : IsLeast w x s k log) (even : (view (decided_exchanges w s log)).done % 2 ≡ 0) where
    abbrev j : ℕ
    j = (view (decided_exchanges w s log)).done

    events_near : (t : ℕ) → IsSlaveOf w t → (j ≤ (x.bench t log).events) × ((x.bench t log).events ≤ j + 1)
    events_near t it = by (ahead w x ok log b t it)
      where
        at : Together w x.steps log
        at = together w x ok log b

        by : Ahead (requests_sent w t log) (decided_exchanges w t log) (x.bench t log) → (j ≤ (x.bench t log).events) × ((x.bench t log).events ≤ j + 1)
        by (inl e) = (omega (arith, e, least.least t it), omega (arith, e, at.events t s it is))
        by (inr p) = (omega (arith, p.0, least.least t it), omega (arith, p.0, at.under_way t s it is p.1))

    -- each slave is at this place, and opened for its run
    at_place : (t : ℕ) → IsSlaveOf w t → place_after (x.bench t log).events ≡ place_after j
    at_place t it = let n = events_near t it in place_near j (x.bench t log).events even n.0 n.1

    place_parts : (t : ℕ) → IsSlaveOf w t → (place_after j / (x.steps + 1) ≡ (x.bench t log).resets) × (place_after j % (x.steps + 1) ≡ (x.bench t log).steps)
    place_parts t it = let p = (fits w x ok log b t it).placed in run_of_place x.steps (x.bench t log).resets (x.bench t log).steps (place_after j) (sym (at_place t it) ∙ p.is) p.most

    run_is : (t : ℕ) → IsSlaveOf w t → run_after x.steps j ≡ (x.bench t log).resets + 1
    run_is t it = ap (λ a. a + 1) (place_parts t it).0

    served_done : (steps : ℕ) (v : BenchProgress) (c : Bench) → Counts steps v c → (v.done ≤ c.events) × (c.events ≤ v.done + 1)
    served_done steps v c n = grind arith

    opened_served : (t : ℕ) → IsSlaveOf w t → (r : ℕ) → run_after x.steps j ≡ r → x.opened t r (decided_exchanges w t log) ≡ true → x.opened t r (x.desk t log).served ≡ true
    opened_served t it r e o = by ((known w x ok t it log b).talk.decided)
      where
        by : Behind (decided_exchanges w t log) (x.desk t log).served → x.opened t r (x.desk t log).served ≡ true
        by (inl q) = let P : List DecidedRequest → Type 0 = λ es. x.opened t r es ≡ true in subst P q o
        by (inr p) =
            let y = p.0 in
            let P : List DecidedRequest → Type 0 = λ es. x.opened t r es ≡ true in
            let Q : List DecidedRequest → Type 0 = AskedAsPlanned (x.may t) in
            let asked' = subst Q p.1 (asked_in_order w x ok t it log b) in
            let n = events_near t it in
            let C : List DecidedRequest → Type 0 = λ es. Counts x.steps (view es) (x.bench t log) in
            let d = served_done x.steps (view (y ∷ decided_exchanges w t log)) (x.bench t log) (subst C p.1 (fits w x ok log b t it).counts) in
            let g = view_grows (told_of y) (view (decided_exchanges w t log)) in
            let before = place_near j (view (decided_exchanges w t log)).done even (least.least t it) (omega (arith, g, d.0, n.1)) in
            let same = place_near j (view (y ∷ decided_exchanges w t log)).done even (omega (arith, g, least.least t it)) (omega (arith, d.0, n.1)) in
            subst P (sym p.1) ((are.course t it).stays r y (decided_exchanges w t log) asked' o (ap (λ z. z / (x.steps + 1) + 1) before ∙ e) (ap (λ z. z / (x.steps + 1) + 1) same ∙ e))

    opened_here : (t : ℕ) → IsSlaveOf w t → x.opened t ((x.bench t log).resets + 1) (x.desk t log).served ≡ true
    opened_here t it =
        let P : ℕ → Type 0 = λ r. x.opened t r (decided_exchanges w t log) ≡ true in
        opened_served t it ((x.bench t log).resets + 1) (run_is t it) (subst P (run_is t it) (least.opened t it))

    stands_here : (t : ℕ) → IsSlaveOf w t → state m.sc rows t (m.desc t) ((x.bench t log).resets + 1) (x.bench t log).steps ≡ Ok (m.store t log).model
    stands_here t it = l.stands t it (inr ((are.course t it).tuned ((x.bench t log).resets + 1) (x.desk t log).served (opened_here t it)))

    -- what slave t shows here
    outputs_here : (t : ℕ) → IsSlaveOf w t → (vs : List ℤ) × (shown_at m.sc t (m.desc t) ((x.bench t log).resets + 1) (Ok (m.store t log).model) ≡ Ok vs)
    outputs_here t it = by (x.bench t log).steps refl
      where
        by : (n : ℕ) → (x.bench t log).steps ≡ n → (vs : List ℤ) × (shown_at m.sc t (m.desc t) ((x.bench t log).resets + 1) (Ok (m.store t log).model) ≡ Ok vs)
        by zero e = (are.holds t it).first log (in_order w x ok m are log b t it) e (opened_here t it)
        by (suc n) e =
            let P : ℕ → Type 0 = λ i. state m.sc rows t (m.desc t) ((x.bench t log).resets + 1) i ≡ Ok (m.store t log).model in
            reached_by m.sc rows t (m.desc t) ((x.bench t log).resets + 1) n (m.store t log).model (state m.sc rows t (m.desc t) ((x.bench t log).resets + 1) n) (subst P e (stands_here t it))

    shows_here : (t : ℕ) → IsSlaveOf w t → (vs : List ℤ) × (shown m.sc rows t (m.desc t) (place_after j / (x.steps + 1) + 1) (place_after j % (x.steps + 1)) ≡ Ok vs)
    shows_here t it =
        let o = outputs_here t it in
        let p = place_parts t it in
        let P : ℕ → ℕ → Type 0 = λ r i. shown m.sc rows t (m.desc t) r i ≡ Ok o.0 in
        (o.0, subst (λ r. P r (place_after j % (x.steps + 1))) (sym (ap (λ a. a + 1) p.0)) (subst (λ i. P ((x.bench t log).resets + 1) i) (sym p.1) (ap (shown_at m.sc t (m.desc t) ((x.bench t log).resets + 1)) (stands_here t it) ∙ o.1)))

    slave_of : (i : ℕ) (d : SlaveDesc) → slice_get m.sc.slaves i ≡ Some d → IsSlaveOf w (1 + i) × (d ≡ m.desc (1 + i))
    slave_of i d e =
        let lt = slice_get_within m.sc.slaves i d e in
        let it : IsSlaveOf w (1 + i) = (omega arith, omega (arith, lt, are.slaves)) in
        let z : 1 + i - 1 ≡ i = omega arith in
        let P : ℕ → Type 0 = λ k. slice_get m.sc.slaves k ≡ Some (m.desc (1 + i)) in
        (it, one d (m.desc (1 + i)) (slice_get m.sc.slaves i) e (subst P z (are.desc (1 + i) it)))
      where
        one : (a b : SlaveDesc) (o : Option SlaveDesc) → o ≡ Some a → o ≡ Some b → a ≡ b
        one a b o p q = cc

    all_here : AllShow m.sc rows (place_after j / (x.steps + 1) + 1) (place_after j % (x.steps + 1)) 1 m.sc.slaves
    all_here i d e =
        let o = slave_of i d e in
        let P : SlaveDesc → Type 0 = λ c. (vs : List ℤ) × (shown m.sc rows (1 + i) c (place_after j / (x.steps + 1) + 1) (place_after j % (x.steps + 1)) ≡ Ok vs) in
        subst P (sym o.1) (shows_here (1 + i) o.0)

    pub row_is_there : place_after j < length rows
    row_is_there =
        let r = place_after j / (x.steps + 1) + 1 in
        let i = place_after j % (x.steps + 1) in
        let all = all_show m.sc rows r i 1 m.sc.slaves all_here in
        let where' : row_index m.sc.steps r i ≡ place_after j = ap (λ n. row_index n r i) are.steps ∙ place_is x.steps (place_after j) in
        let within = step_below x.steps (place_after j) in
        let moment : IsMoment m.sc r i = record { first = omega arith; last = omega (arith, least.within, are.runs); within = omega (arith, within, are.steps) } in
        let t = l.told s is in
        let h = half_even j even in
        let lt = row_exists m.sc rows fault ref r i moment (omega (arith, where', t, h)) all.0 all.1 in
        omega (arith, lt, where')
