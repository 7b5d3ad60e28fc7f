-- A finished run has the whole exchange of every step with every slave.
use Rattle.std.proofs.Common.{◌≡◌, ℕ, zero, suc, ◌+◌, ◌-◌, ◌*◌, ◌<◌, ◌≤◌, ◌⊎◌, inl, inr, Bool, true, false, Option, Some, None, List, [], reverse, refl, sym, ap, ◌∙◌, arith, subst}
use Rattle.std.specs.Prelude.{◌&&◌, ◌||◌, nat_le, slice_get}
use Rattle.std.proofs.Math.Nat.{suc-mul}
use Rattle.std.proofs.lemmas.Bool.{eqb-true}
use Rattle.dcp_ends.specs.declared.entries.LogEntry.{LogEntry}
use Rattle.dcp_ends.specs.Events.{Event}
use Rattle.lockstep.specs.Lockstep.{row_index}
use Rattle.master_spec.specs.declared.requests.Answer.TheVariants.{Ack}
use Rattle.master_spec.specs.declared.reports.Report.TheVariants as reports
use Rattle.master_spec.specs.declared.tasks.Task.TheVariants as tasks
use Rattle.master_spec.specs.declared.setups.Slave.{Slave}
use Rattle.master_spec.specs.declared.setups.Setup.{Setup}
use Rattle.master_spec.specs.Setup.{setup_from, jobs_of}
use Rattle.master_spec.specs.Course.{course}
use Rattle.master_spec.specs.Jobs.{Job}
use Rattle.master_spec.specs.Requests.{Asking, Decision, is_state_request, is_step, is_stop, is_reset}
use Rattle.master_spec.specs.Exchanged.{IsIn, in_order, in_run, nth_of, IsDecided, IsEndedBefore, Exchanged, IsBetween, StepOfRun, ComesNext, AllExchanged}
use Rattle.master_log_laws.specs.Index.Dates.{phase_before}
use Rattle.master_log_laws.specs.Index.Runs.{course_at, IsRun}
use Rattle.master_log_laws.specs.Index.Laws.{AreHeard}
use Rattle.master_log_laws.proofs.Index.ByEntry.{entry_by_entry}
use Rattle.master_log_laws.proofs.Scenarios.Heard.{setups_heard}
use Rattle.master_log_laws.proofs.Scenarios.Scenarios.{events_reverse}
use Rattle.master_log_laws.specs.Finish.Laws.{FinishedIsExchanged}
use Rattle.master_log_laws.proofs.Finish.Codes.{task_code}
use Rattle.master_log_laws.proofs.Finish.Rising.{phase_rises, phases_apart}
use Rattle.master_log_laws.proofs.Finish.Segments.{place_of}
use Rattle.master_log_laws.proofs.Finish.Cuts.{JobOf, job_at}
use Rattle.master_log_laws.proofs.Finish.Scripts.{alone}
use Rattle.master_log_laws.proofs.Finish.Steps.{phase_of, Full, full, Over, over}
use Rattle.master_log_laws.proofs.Finish.Finished.{cut}

-- ---- a request that there is, or any
abbrev blank : Asking
blank = record { code = 0; number = 0; more = []; first = 0; repeats = []; decision = None }

abbrev or_blank : Option Asking → Asking
or_blank None = blank
or_blank (Some a) = a

there_is : (o : Option Asking) (x : Asking) → o ≡ Some x → o ≡ Some (or_blank o)
there_is o x e = e ∙ ap (λ (a : Asking). Some a) (sym (ap or_blank e))

decided_at_its : (a x : Asking) (place : ℕ) → a ≡ x → IsDecided x place Ack → IsDecided a (place_of a.decision) Ack
decided_at_its a x place z d =
    let e : a.decision ≡ Some (record { place = place; answer = Ack }) = ap (λ (y : Asking). y.decision) z ∙ d in
    e ∙ ap (λ (n : ℕ). Some (record { place = n; answer = Ack })) (sym (ap place_of e))

-- ---- a step, or a stop
or_cases : (x y : Bool) → (x || y) ≡ true → (x ≡ true) ⊎ (y ≡ true)
or_cases true y h = inl refl
or_cases false y h = inr h

moves_on : (a : Asking) → (is_step a || is_stop a) ≡ true → (is_state_request a ≡ true) × (a.code ≡ 8 → ⊥)
moves_on a h = by (or_cases (is_step a) (is_stop a) h)
  where
    at : (n : ℕ) → a.code ≡ n → (nat_le 1 n && nat_le n 10) ≡ true → (8 ≡ n → ⊥) → (is_state_request a ≡ true) × (a.code ≡ 8 → ⊥)
    at n e t f = (ap (λ (m : ℕ). nat_le 1 m && nat_le m 10) e ∙ t, λ g. f (sym g ∙ e))

    by : (is_step a ≡ true) ⊎ (is_stop a ≡ true) → (is_state_request a ≡ true) × (a.code ≡ 8 → ⊥)
    by (inl k) = at 7 (eqb-true a.code 7 k) refl (λ z. omega (arith, z))
    by (inr k) = at 9 (eqb-true a.code 9 k) refl (λ z. omega (arith, z))

module _ (setup : Setup) (h : AreHeard setup) (log : List LogEntry) (run : IsRun setup log) (steps : ℕ) (report : (course_at setup log).report ≡ Some (reports.Finished steps)) where
  -- ---- the exchanges
  with_slave : (r k : ℕ) → 1 ≤ r → r ≤ setup.runs → 1 ≤ k → k ≤ setup.steps → (s : Slave) → IsIn setup s → Full setup log s r k (phase_of setup.steps r k)
  with_slave r k a b c d s i = full setup log s (cut setup h log run steps report i.0 s i.1) r a b k c d

  -- a step or a stop after the request for the outputs stands in a later phase
  is_later : (t : Slave) (j : IsIn setup t) (r k q : ℕ) (f : Full setup log t r k q) (x : Asking) (n : ℕ) → slice_get (in_order setup log t) n ≡ Some x → (is_step x || is_stop x) ≡ true → ((f.exchange).outputs).first < x.first → suc q < phase_before setup log x.first
  is_later t j r k q f x n e m l =
      let g = moves_on x m in
      let o = job_at setup log t (jobs_of setup t) 0 (in_order setup log t) (cut setup h log run steps report j.0 t j.1) x (n, e) g.0 in
      let u = phase_rises setup log ((f.exchange).outputs).first x.first (omega (arith, l)) in
      let v = f.outputs_in in
      let w = o.first_in in
      by o (same_or_more o.index q (omega (arith, u, v, w)))
    where
      same_or_more : (i q : ℕ) → q ≤ i → (q ≡ i) ⊎ (q < i)
      same_or_more zero zero h = inl refl
      same_or_more zero (suc q) h = absurd (omega (arith, h))
      same_or_more (suc i) zero h = inr (omega arith)
      same_or_more (suc i) (suc q) h = up (same_or_more i q (omega (arith, h)))
        where
          up : (q ≡ i) ⊎ (q < i) → (suc q ≡ suc i) ⊎ (suc q < suc i)
          up (inl z) = inl (ap (λ (n : ℕ). suc n) z)
          up (inr z) = inr (omega (arith, z))

      by : (o : JobOf setup log t (jobs_of setup t) 0 x) → (q ≡ o.index) ⊎ (q < o.index) → suc q < phase_before setup log x.first
      by o (inl z) = absurd ((moves_on x m).1 (o.code_is ∙ eight (sym (o.job_is) ∙ ap (slice_get (jobs_of setup t)) (sym z) ∙ f.job_is)))
        where
          eight : Some o.job ≡ Some (alone (tasks.Outputs k (row_index setup.steps r k))) → task_code o.job.task ≡ 8
          eight z = let y : o.job ≡ alone (tasks.Outputs k (row_index setup.steps r k)) = cc in ap (λ (job : Job). task_code job.task) y
      by o (inr z) = let w = o.first_in in omega (arith, z, w)

  ended_before : (s : Slave) (r k q : ℕ) (f : Full setup log s r k q) (place : ℕ) → suc q < phase_before setup log place → IsEndedBefore setup log s r k f.exchange place
  ended_before s r k q f place l =
      let u = f.running_in in
      let v = f.came_in in
      (phases_apart setup log (f.exchange).told_running place (omega (arith, u, l)), phases_apart setup log (f.exchange).came place (omega (arith, v, l)))

  step_of_all : (r k : ℕ) → 1 ≤ r → r ≤ setup.runs → 1 ≤ k → k ≤ setup.steps → Exchanged setup log r k
  step_of_all r k a b c d = record {
    each = λ s i. (with_slave r k a b c d s i).exchange;
    computed = λ s t i j.
        let u = (with_slave r k a b c d s i).computed_in in
        let v = (with_slave r k a b c d t j).outputs_in in
        phases_apart setup log ((with_slave r k a b c d s i).exchange).told_computed (((with_slave r k a b c d t j).exchange).outputs).first (omega (arith, u, v));
    sent = λ s t i j x n e m l. ended_before s r k (phase_of setup.steps r k) (with_slave r k a b c d s i) x.first (is_later t j r k (phase_of setup.steps r k) (with_slave r k a b c d t j) x n e m l);
  }

  -- ---- from one step to the next
  next_run : (r : ℕ) → 1 ≤ r → suc (phase_of setup.steps r setup.steps) < phase_of setup.steps (r + 1) 1
  next_run zero a = absurd (omega (arith, a))
  next_run (suc r) a =
      let w = suc-mul r (8 + 2 * setup.steps) in
      let e : suc r - 1 ≡ r = omega arith in
      let f : suc r + 1 - 1 ≡ suc r = omega arith in
      let x : (suc r - 1) * (8 + 2 * setup.steps) ≡ r * (8 + 2 * setup.steps) = ap (λ (n : ℕ). n * (8 + 2 * setup.steps)) e in
      let y : (suc r + 1 - 1) * (8 + 2 * setup.steps) ≡ suc r * (8 + 2 * setup.steps) = ap (λ (n : ℕ). n * (8 + 2 * setup.steps)) f in
      omega (arith, w, x, y)

  abbrev full_at : (x : StepOfRun setup) (s : Slave) → IsIn setup s → Full setup log s x.run x.step (phase_of setup.steps x.run x.step)
  full_at x s i = with_slave x.run x.step x.run_is.0 x.run_is.1 x.step_is.0 x.step_is.1 s i

  -- the step after another stands in a later phase than the outputs of that one
  next_phase : (x y : StepOfRun setup) → ComesNext setup.steps x.run x.step y.run y.step → suc (phase_of setup.steps x.run x.step) < phase_of setup.steps y.run y.step
  next_phase x y (inl n) =
      let P : ℕ → Type 0 = λ r. suc (phase_of setup.steps x.run x.step) < phase_of setup.steps r y.step in
      subst P (sym n.0) (omega (arith, n.1))
  next_phase x y (inr n) =
      let P : ℕ → ℕ → ℕ → Type 0 = λ k r l. suc (phase_of setup.steps x.run k) < phase_of setup.steps r l in
      subst (λ k. P k y.run y.step) (sym n.1) (subst (λ r. P setup.steps r y.step) (sym n.0) (subst (λ l. P setup.steps (x.run + 1) l) (sym n.2) (next_run x.run x.run_is.0)))

  -- ---- from one run to the next
  between_runs : (r : ℕ) (a : 1 ≤ r) → r < setup.runs → (s : Slave) → IsIn setup s → Over setup log s r (phase_of setup.steps r (setup.steps + 1))
  between_runs r a m s i = over setup log s (cut setup h log run steps report i.0 s i.1) r a (omega (arith, m)) m

  abbrev stop_of : ℕ → Slave → Asking
  stop_of r s = or_blank (nth_of is_stop 1 (in_run setup log s r))

  abbrev reset_of : ℕ → Slave → Asking
  reset_of r s = or_blank (nth_of is_reset 1 (in_run setup log s r))

  -- where it is acknowledged
  done_in : (o : Option Asking) (x : Asking) (place q : ℕ) → o ≡ Some x → IsDecided x place Ack → phase_before setup log place ≡ q → phase_before setup log (place_of (or_blank o).decision) ≡ q
  done_in o x place q e d f = ap (λ (a : Option Asking). phase_before setup log (place_of (or_blank a).decision)) e ∙ ap (λ (z : Option Decision). phase_before setup log (place_of z)) d ∙ f

  between_of : (r : ℕ) → 1 ≤ r → r < setup.runs → IsBetween setup log r
  between_of r a m = record {
    stop = λ s. stop_of r s;
    reset = λ s. reset_of r s;
    stopped = λ s. place_of (stop_of r s).decision;
    done = λ s. place_of (reset_of r s).decision;
    stop_is = λ s i. let o = between_runs r a m s i in there_is (nth_of is_stop 1 (in_run setup log s r)) ((o.stop).one).main (o.stop).nth;
    stop_done = λ s i. let o = between_runs r a m s i in decided_at_its (stop_of r s) ((o.stop).one).main ((o.stop).one).place (ap or_blank (o.stop).nth) ((o.stop).one).done;
    reset_is = λ s i. let o = between_runs r a m s i in there_is (nth_of is_reset 1 (in_run setup log s r)) ((o.reset).one).main (o.reset).nth;
    reset_done = λ s i. let o = between_runs r a m s i in decided_at_its (reset_of r s) ((o.reset).one).main ((o.reset).one).place (ap or_blank (o.reset).nth) ((o.reset).one).done;
    after = λ s i.
        let o = between_runs r a m s i in
        let q = phase_of setup.steps r (setup.steps + 1) in
        let u = done_in (nth_of is_stop 1 (in_run setup log s r)) ((o.stop).one).main ((o.stop).one).place q (o.stop).nth ((o.stop).one).done ((o.stop).one).done_in in
        let v : phase_before setup log (reset_of r s).first ≡ suc q = ap (λ (z : Option Asking). phase_before setup log (or_blank z).first) (o.reset).nth ∙ ((o.reset).one).first_in in
        phases_apart setup log (place_of (stop_of r s).decision) (reset_of r s).first (omega (arith, u, v));
    before = λ s t i j x e.
        let o = between_runs r a m s i in
        let p = between_runs r a m t j in
        let q = phase_of setup.steps r (setup.steps + 1) in
        let u = done_in (nth_of is_reset 1 (in_run setup log s r)) ((o.reset).one).main ((o.reset).one).place (suc q) (o.reset).nth ((o.reset).one).done ((o.reset).one).done_in in
        let y : Some ((p.prepare).one).main ≡ Some x = sym (p.prepare).nth ∙ e in
        let v : phase_before setup log x.first ≡ suc (suc (suc q)) = ap (λ (z : Option Asking). phase_before setup log (or_blank z).first) (sym y) ∙ ((p.prepare).one).first_in in
        phases_apart setup log (place_of (reset_of r s).decision) x.first (omega (arith, u, v));
  }

  pub all_exchanged : AllExchanged setup log
  unfolding step_of_all
  all_exchanged = record {
    steps = λ x. step_of_all x.run x.step x.run_is.0 x.run_is.1 x.step_is.0 x.step_is.1;
    in_turn = λ x y n s t i j.
        let v = (full_at y t j).step_in in
        let w = next_phase x y n in
        ended_before s x.run x.step (phase_of setup.steps x.run x.step) (full_at x s i) (((full_at y t j).exchange).step).first (omega (arith, v, w));
    between = λ r a m. between_of r a m;
  }

pub finished_is_exchanged : FinishedIsExchanged
finished_is_exchanged sc h log run steps r =
    all_exchanged (setup_from sc) (setups_heard sc h).heard (reverse log) (entry_by_entry sc log run) steps (ap (λ (z : List Event). (course (setup_from sc) z).report) (events_reverse (setup_from sc) log) ∙ r)
