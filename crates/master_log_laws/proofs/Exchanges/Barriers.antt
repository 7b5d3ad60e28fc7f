-- No slave is asked a request of a phase before all have acknowledged those of the phases before it.
use Rattle.std.proofs.Common.{◌≡◌, ℕ, zero, suc, ◌+◌, ◌-◌, ◌≤◌, Bool, true, false, Option, Some, None, List, [], ◌∷◌, length, take, refl, sym, ap, ◌∙◌, subst, arith, length-append}
use Rattle.std.specs.Prelude.{if◌then◌else◌, ◌&&◌, ◌||◌, nat_le, slice_get}
use Rattle.std.specs.List.{flat_map}
use Rattle.dcp_ends.specs.declared.entries.LogEntry.{LogEntry}
use Rattle.master_spec.specs.declared.reports.Report.{Report}
use Rattle.master_spec.specs.declared.setups.Slave.{Slave}
use Rattle.master_spec.specs.declared.setups.Setup.{Setup}
use Rattle.master_spec.specs.Setup.{jobs_of}
use Rattle.master_spec.specs.Jobs.{Job, asked_by, spine}
use Rattle.master_spec.specs.Marks.{Mark, count, is_begun}
use Rattle.master_spec.specs.Requests.{Asking, Decision, asks, is_main, is_acked_by, is_acked, acked, phase_at, phase_reached}
use Rattle.master_log_laws.specs.Asking.Legal.{AreLegal, GoesByRule}
use Rattle.master_log_laws.proofs.Asking.Legal.{going}
use Rattle.master_log_laws.specs.Index.Runs.{events_of_master, course_at, owed, IsRun}
use Rattle.master_log_laws.specs.Index.Index.{Placed, marks_of, askings_told, ReadBack}
use Rattle.master_log_laws.specs.Index.Follows.{mine, talk_with}
use Rattle.master_log_laws.specs.Index.Late.{AreLate}
use Rattle.master_log_laws.specs.Index.Laws.{AreHeard}
use Rattle.master_log_laws.proofs.Index.Late.{late_refl}
use Rattle.master_log_laws.proofs.Index.Laws.{listens}
use Rattle.master_log_laws.proofs.Index.Reported.{reported}
use Rattle.master_log_laws.proofs.Index.Runs.{followed, owes_count, with_at}
use Rattle.master_log_laws.proofs.Phases.Now.{now, past, split}
use Rattle.master_log_laws.proofs.Phases.Mains.{acked_more, acked_append, one_if}
use Rattle.master_log_laws.proofs.Phases.Numbered.{legal_below}
use Rattle.master_log_laws.proofs.Phases.Tags.{offset, at_most, reached_at_most, base}
use Rattle.master_log_laws.specs.Exchanges.Laws.{PhasesAreBarriers}

-- ---- the spine up to a phase
offset_take : (js : List Job) (p : ℕ) → offset js p ≡ length (spine (take p js))
offset_take js zero = refl
offset_take [] (suc p) = refl
offset_take (job ∷ js) (suc p) = let h = offset_take js p in let e = length-append (asked_by job) (flat_map asked_by (take p js)) in omega (arith, h, e)

offset_rises : (js : List Job) (p q : ℕ) → p ≤ q → offset js p ≤ offset js q
offset_rises js zero q h = omega arith
offset_rises [] (suc p) zero h = omega arith
offset_rises [] (suc p) (suc q) h = omega arith
offset_rises (job ∷ js) (suc p) zero h = absurd (omega (arith, h))
offset_rises (job ∷ js) (suc p) (suc q) h = let k = offset_rises js p q (omega (arith, h)) in omega (arith, k)

-- what comes late acknowledges no less
late_more : (n : ℕ) (cs bs : List Asking) → AreLate n cs bs → acked bs ≤ acked cs
late_more n [] [] l = omega arith
late_more n [] (b ∷ bs) l = absurd l
late_more n (c ∷ cs) [] l = absurd l
late_more n (c ∷ cs) (b ∷ bs) l =
    let x = acked_more c cs in
    let y = acked_more b bs in
    let z : acked cs ≡ acked bs = ap acked l.1 in
    let w = two (is_main b && is_acked b) refl in
    omega (arith, x, y, z, w)
  where
    main_same : is_main c ≡ is_main b
    main_same = ap (λ (m : ℕ). (nat_le 1 m && nat_le m 10) || (nat_le 32 m && nat_le m 43)) (l.0).code

    kept : (o : Option Decision) → b.decision ≡ o → is_acked_by o ≡ true → is_acked c ≡ true
    kept None e h = absurd cc
    kept (Some d) e h = ap (λ (o : Option Decision). is_acked_by o) ((l.0).kept d e) ∙ h

    right : (x y : Bool) → (x && y) ≡ true → (x ≡ true) × (y ≡ true)
    right true true h = (refl, refl)
    right true false h = absurd cc
    right false y h = absurd cc

    two : (t : Bool) → (is_main b && is_acked b) ≡ t → one_if (is_main b && is_acked b) ≤ one_if (is_main c && is_acked c)
    two true e =
        let p = right (is_main b) (is_acked b) e in
        let f : one_if (is_main c && is_acked c) ≡ 1 = ap (λ (t : Bool). one_if (t && is_acked c)) (main_same ∙ p.0) ∙ ap one_if (kept b.decision refl p.1) in
        let g : one_if (is_main b && is_acked b) ≡ 1 = ap one_if e in
        omega (arith, f, g)
    two false e = let g : one_if (is_main b && is_acked b) ≡ 0 = ap one_if e in omega (arith, g)

-- ---- where a slave stands at any moment
pub record Reaches (setup : Setup) (log : List LogEntry) (slave : Slave) : Type 0 where
  pub xs : List Placed
  pub legal : AreLegal setup.limits (jobs_of setup slave) (marks_of xs)
  pub phase_is : count is_begun (marks_of xs) ≡ (course_at setup log).phase
  pub since : ℕ
  pub late : AreLate since (asks setup.address slave log) (askings_told xs)

module _ (setup : Setup) (h : AreHeard setup) (log : List LogEntry) (run : IsRun setup log) where
  reaches : (i : ℕ) (slave : Slave) → slice_get setup.slaves i ≡ Some slave → Reaches setup log slave
  reaches i slave e = by (course_at setup log).report refl
    where
      at_rule : (marks : List Mark) → slice_get (course_at setup log).talks i ≡ Some (talk_with slave marks) → GoesByRule setup.limits (jobs_of setup slave) (course_at setup log).phase marks
      at_rule marks here = with_at (λ u m. GoesByRule setup.limits (jobs_of setup u) (course_at setup log).phase m) (course_at setup log).talks i (talk_with slave marks) (going setup h.runs (events_of_master setup log)).goes here

      by : (o : Option Report) → (course_at setup log).report ≡ o → Reaches setup log slave
      by None r =
          let f = followed setup (ReadBack slave.id) i slave (listens setup h i slave e) h.runs log run r in
          let g = at_rule f.marks f.here in
          let P : List Asking → Type 0 = λ z. AreLate 0 z (askings_told f.xs) in
          record {
            xs = f.xs;
            legal = legal_below setup.limits (jobs_of setup slave) (ReadBack slave.id) slave.id (mine slave.address (owed setup log)) f.marks (marks_of f.xs) (f.tracks).owes g.legal;
            phase_is = sym (owes_count (ReadBack slave.id) slave.id (mine slave.address (owed setup log)) f.marks (marks_of f.xs) (f.tracks).owes) ∙ g.phase_is;
            since = 0;
            late = subst P (sym (f.tracks).is) (late_refl 0 (askings_told f.xs));
          }
      by (Some report) r =
          let s = (reported setup (ReadBack slave.id) i slave (listens setup h i slave e) h.runs log run report r).0 in
          let g = at_rule (marks_of s.xs) s.here in
          record { xs = s.xs; legal = g.legal; phase_is = g.phase_is; since = s.until; late = s.late }

reached_code : (js : List Job) (n : ℕ) (cs bs : List Asking) → AreLate n cs bs → phase_reached js cs ≡ phase_reached js bs
reached_code js n [] [] l = refl
reached_code js n [] (b ∷ bs) l = absurd l
reached_code js n (c ∷ cs) [] l = absurd l
reached_code js n (c ∷ cs) (b ∷ bs) l =
    ap (λ (m : ℕ). if (nat_le 1 m && nat_le m 10) || (nat_le 32 m && nat_le m 43) then phase_at js (acked cs) else phase_reached js cs) (l.0).code
    ∙ ap (λ (z : List Asking). if is_main b then phase_at js (acked z) else phase_reached js z) l.1

-- all before the phase is acknowledged
acked_before : (setup : Setup) (log : List LogEntry) (slave : Slave) (k : Reaches setup log slave) (p : ℕ) → p ≤ (course_at setup log).phase → offset (jobs_of setup slave) (p - 1) ≤ acked (asks setup.address slave log)
acked_before setup log slave k zero h = let e : 0 - 1 ≡ 0 = omega arith in let z : offset (jobs_of setup slave) (0 - 1) ≡ 0 = ap (offset (jobs_of setup slave)) e in omega (arith, z)
acked_before setup log slave k (suc p) h =
    let js = jobs_of setup slave in
    let q = (course_at setup log).phase - 1 in
    let f = k.phase_is in
    let cnt : count is_begun (marks_of k.xs) ≡ q + 1 = omega (arith, f, h) in
    let a = base setup.limits js k.xs k.legal q cnt in
    let b = ap acked (split setup.limits js k.xs k.legal) ∙ acked_append (now k.xs) (askings_told (past k.xs)) in
    let c = late_more k.since (asks setup.address slave log) (askings_told k.xs) k.late in
    let d = offset_rises js (suc p - 1) q (omega (arith, h)) in
    omega (arith, a, b, c, d)

pub barriers : PhasesAreBarriers
barriers setup h log run i j s t e f =
    let k = reaches setup h log run i s e in
    let l = reaches setup h log run j t f in
    let js = jobs_of setup t in
    let p = phase_reached js (asks setup.address t log) in
    let a = reached_at_most js (count is_begun (marks_of l.xs)) (askings_told l.xs) (at_most setup.limits js l.xs l.legal) in
    let b : p ≡ phase_reached js (askings_told l.xs) = reached_code js l.since (asks setup.address t log) (askings_told l.xs) l.late in
    let c = l.phase_is in
    let d = acked_before setup log s k p (omega (arith, a, b, c)) in
    let g = offset_take (jobs_of setup s) (p - 1) in
    omega (arith, d, g)
