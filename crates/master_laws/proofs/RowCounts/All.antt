-- A finished run has all rows.
use Rattle.std.proofs.Common.{◌≡◌, ℕ, suc, ◌+◌, ◌*◌, ◌<◌, ◌≤◌, Bool, true, false, if◌then◌else◌, ◌⊎◌, inl, inr, Option, Some, None, List, [], ◌∷◌, ◌++◌, map, length, drop, refl, sym, ap, ◌∙◌, subst, arith, length-append, ℤ}
use Rattle.std.specs.Prelude.{◌==◌, ◌&&◌, slice_get}
use Rattle.std.specs.List.{list_all, flat_map}
use Rattle.std.proofs.lemmas.Bool.{and_parts, eqb-true, eqb-false}
use Rattle.dcp_ends.specs.Events.{Event, Gram, Tick}
use Rattle.master_spec.proofs.Phases.{phases_counted}
use Rattle.master_spec.specs.declared.causes.Verdict.{Verdict}
use Rattle.master_spec.specs.declared.causes.Verdict.TheVariants as verdicts
use Rattle.master_spec.specs.declared.reports.Report.{Report}
use Rattle.master_spec.specs.declared.reports.Report.TheVariants as reports
use Rattle.master_spec.specs.declared.setups.Slave.{Slave}
use Rattle.master_spec.specs.declared.setups.Setup.{Setup}
use Rattle.master_spec.specs.Setup.{jobs_of}
use Rattle.master_spec.specs.Jobs.{Job}
use Rattle.master_spec.specs.Marks.{Turned, open_request, verdict_of}
use Rattle.master_spec.specs.Conversation.{marks_after}
use Rattle.master_spec.specs.Course.{CourseTalk, Course, course, begin, is_passed_as, has_passed, is_settled, is_quiet, failed_by, failed, phases, with_next, with_report, decided, with_turns, decided_if, course_turned, still, course_after_turn, row_now, talk_outputs, counted_at, counted_rows}
use Rattle.master_log_laws.proofs.Asking.Legal.{quiet_passed, turn_goes, going}
use Rattle.master_log_laws.specs.Index.Runs.{events_of_master}
use Rattle.master_log_laws.proofs.Index.Runs.{step_gram, step_tick, step_still, talks_of}
use Rattle.master_laws.specs.RowCounts.Laws.{FinishedHasAllRows}
use Rattle.master_laws.proofs.RowCounts.Places.{row_here, places, job_places, due_at, onward, over, IsCountedBy, AreCounted, all_counted}
use Rattle.master_laws.proofs.RowCounts.Phases.{due, now_due, slaves_stay}

places_long : (setup : Setup) (slave : Slave) → 1 ≤ setup.runs → length (places setup.steps setup.runs) ≡ phases setup
places_long setup slave runs = ap length (sym (job_places setup.steps setup.runs slave.script)) ∙ mapped (jobs_of setup slave) ∙ phases_counted setup.steps setup.runs slave.script runs
  where
    mapped : (js : List Job) → length (map row_here js) ≡ length js
    mapped [] = refl
    mapped (job ∷ js) = let h = mapped js in omega (arith, h)

-- ---- all are quiet, and none has failed
quiet_all : (setup : Setup) (runs : 1 ≤ setup.runs) (phase : ℕ) (talks : List CourseTalk) → list_all is_quiet talks ≡ true → failed phase talks ≡ None → list_all has_passed talks ≡ true
quiet_all setup runs phase [] q f = refl
quiet_all setup runs phase (u ∷ us) q f =
    let p = and_parts (is_quiet u) (list_all is_quiet us) q in
    let h = quiet_passed setup runs (open_request u.marks) (verdict_of u.marks) phase u.slave (failed phase us) f p.0 in
    ap (λ (v : Verdict). is_passed_as v && list_all has_passed us) (h.1).0 ∙ quiet_all setup runs phase us p.1 (h.1).1

no_finish : (phase : ℕ) (talks : List CourseTalk) (n : ℕ) → failed phase talks ≡ Some (reports.Finished n) → ⊥
no_finish phase [] n h = cc
no_finish phase (u ∷ us) n h = by (verdict_of u.marks) h (λ z. no_finish phase us n z)
  where
    by : (v : Verdict) → failed_by phase u.slave v (failed phase us) ≡ Some (reports.Finished n) → (failed phase us ≡ Some (reports.Finished n) → ⊥) → ⊥
    by (verdicts.Ended cause) z f = cc
    by verdicts.Passed z f = f z
    by verdicts.Going z f = f z

module _ (setup : Setup) (runs : 1 ≤ setup.runs) (slave : Slave) (first : slice_get setup.slaves 0 ≡ Some slave) where
  abbrev pub os : List (Option ℕ)
  os = places setup.steps setup.runs

  abbrev pub total : ℕ
  total = setup.runs * (setup.steps + 1)

  -- the rows of the phases so far are counted
  pub record HasCounted (phase n : ℕ) : Type 0 where
    pub rest : AreCounted n (drop phase os) total
    pub below : (r : ℕ) → due_at os phase ≡ Some r → r < n

  -- but for that of the present phase
  pub record Awaits (phase n : ℕ) : Type 0 where
    pub here : due_at os phase ≡ Some n
    pub rest : AreCounted (n + 1) (drop phase os) total

  abbrev pub Stands : (phase n : ℕ) → Type 0
  Stands phase n = HasCounted phase n ⊎ Awaits phase n

  -- and not all have passed it
  abbrev pub StandsAt : (phase n : ℕ) → List CourseTalk → Type 0
  StandsAt phase n talks = HasCounted phase n ⊎ (Awaits phase n × (list_all has_passed talks ≡ false))

  clash : (n : ℕ) → None ≡ Some n → ⊥
  clash n z = cc

  same_some : (r n : ℕ) → Some r ≡ Some n → r ≡ n
  same_some r n z = cc

  counts : (phase : ℕ) (talks : List CourseTalk) (rows : List (List ℤ)) → row_now talks ≡ due setup phase → Stands phase (length rows) → StandsAt phase (length (counted_rows talks rows)) talks
  counts phase talks rows now h = by (row_now talks) refl h
    where
      grown : (row : ℕ) → length (rows ++ flat_map (talk_outputs row) talks ∷ []) ≡ length rows + 1
      grown row = length-append rows (flat_map (talk_outputs row) talks ∷ [])

      by : (o : Option ℕ) → row_now talks ≡ o → Stands phase (length rows) → StandsAt phase (length (counted_at o talks rows)) talks
      by None e (inl d) = inl d
      by None e (inr a) = absurd (clash (length rows) (sym e ∙ now ∙ a.here))
      by (Some row) e h = two (length rows == row) refl (list_all has_passed talks) refl h
        where
          two : (a : Bool) → (length rows == row) ≡ a → (b : Bool) → list_all has_passed talks ≡ b → Stands phase (length rows) → StandsAt phase (length (if a && b then rows ++ flat_map (talk_outputs row) talks ∷ [] else rows)) talks
          two true x b y (inl d) = let l = d.below row (sym now ∙ e) in let z = eqb-true (length rows) row x in absurd (omega (arith, l, z))
          two false x b y (inl d) = inl d
          two true x true y (inr a) =
              let n = length rows in
              let P : ℕ → Type 0 = λ k. HasCounted phase k in
              inl (subst P (sym (grown row)) (record { rest = a.rest; below = λ r z. let s = same_some r n (sym z ∙ a.here) in omega (arith, s) }))
          two true x false y (inr a) = inr (a, y)
          two false x b y (inr a) = let z = eqb-false (length rows) row x in absurd (z (same_some (length rows) row (sym (a.here) ∙ sym now ∙ e)))

  -- the next phase
  next : (phase n : ℕ) → phase < phases setup → HasCounted phase n → Stands (phase + 1) n
  next phase n l d =
      let long = places_long setup slave runs in
      let k = onward os phase (omega (arith, l, long)) in
      let more : AreCounted n (k.place ∷ drop (suc phase) os) total = subst P k.more d.rest in
      let s : suc phase ≡ phase + 1 = omega arith in
      let Q : ℕ → Type 0 = λ p. Stands p n in
      subst Q s (by k.place k.is more)
    where
      P : List (Option ℕ) → Type 0
      P z = AreCounted n z total

      by : (o : Option ℕ) → due_at os (suc phase) ≡ o → IsCountedBy o n (λ m. AreCounted m (drop (suc phase) os) total) → Stands (suc phase) n
      by None e c = inl (record { rest = c; below = λ r z. absurd (clash r (sym e ∙ z)) })
      by (Some r) e c = inr (record { here = e ∙ ap (λ (m : ℕ). Some m) c.0; rest = c.1 })

  pub record Fit (c : Course) : Type 0 where
    pub stands : Stands c.phase (length c.rows)
    pub done : (steps : ℕ) → c.report ≡ Some (reports.Finished steps) → length c.rows ≡ total

  no_report : (c : Course) → c.report ≡ None → (steps : ℕ) → c.report ≡ Some (reports.Finished steps) → length c.rows ≡ total
  no_report c e steps h = absurd (off (sym e ∙ h))
    where
      off : None ≡ Some (reports.Finished steps) → ⊥
      off z = cc

  forget : (phase n : ℕ) (talks : List CourseTalk) → StandsAt phase n talks → Stands phase n
  forget phase n talks (inl d) = inl d
  forget phase n talks (inr a) = inr a.0

  passed_counted : (phase n : ℕ) (talks : List CourseTalk) → list_all has_passed talks ≡ true → StandsAt phase n talks → HasCounted phase n
  passed_counted phase n talks e (inl d) = d
  passed_counted phase n talks e (inr a) = absurd (off (sym e ∙ a.1))
    where
      off : true ≡ false → ⊥
      off z = cc

  decides : (c : Course) → c.report ≡ None → c.phase ≤ phases setup → StandsAt c.phase (length c.rows) c.talks → list_all is_quiet c.talks ≡ true → (o : Option Report) → failed c.phase c.talks ≡ o → Fit (decided setup c o)
  decides c r few s q (Some report) e = record { stands = forget c.phase (length c.rows) c.talks s; done = λ steps h. absurd (no_finish c.phase c.talks steps (e ∙ h)) }
  decides c r few s q None e = by (c.phase == phases setup) refl
    where
      d : HasCounted c.phase (length c.rows)
      d = passed_counted c.phase (length c.rows) c.talks (quiet_all setup runs c.phase c.talks q e) s

      by : (b : Bool) → (c.phase == phases setup) ≡ b → Fit (if b then with_report c (reports.Finished setup.steps) else with_next setup c)
      by true z =
          let p = eqb-true c.phase (phases setup) z in
          let long = places_long setup slave runs in
          let P : List (Option ℕ) → Type 0 = λ xs. AreCounted (length c.rows) xs total in
          record { stands = inl d; done = λ steps h. subst P (over os c.phase (omega (arith, p, long))) d.rest }
      by false z =
          let other = eqb-false c.phase (phases setup) z in
          record { stands = next c.phase (length c.rows) (omega (arith, few, other)) d; done = no_report (with_next setup c) r }

  turns : (c : Course) → c.report ≡ None → c.phase ≤ phases setup → StandsAt c.phase (length c.rows) c.talks → Fit (course_turned setup c)
  turns c r few s = by (list_all is_quiet c.talks) refl
    where
      by : (b : Bool) → list_all is_quiet c.talks ≡ b → Fit (decided_if setup b c)
      by true q = decides c r few s q (failed c.phase c.talks) refl
      by false q = record { stands = forget c.phase (length c.rows) c.talks s; done = no_report c r }

  tick : (evs : List Event) → let c = course setup evs in c.report ≡ None → Fit c → Fit (course_after_turn setup c)
  tick evs r f = by (c.phase == 0) refl
    where
      c : Course
      c = course setup evs

      settled : Bool
      settled = list_all is_settled c.talks

      d : Course
      d = with_turns setup settled c

      begins : c.phase ≡ 0 → Stands c.phase (length c.rows) → HasCounted c.phase (length c.rows)
      begins z (inl h) = h
      begins z (inr a) = absurd (clash (length c.rows) (ap (due_at os) (sym z) ∙ a.here))

      by : (b : Bool) → (c.phase == 0) ≡ b → Fit (if b then with_next setup (still c) else course_turned setup d)
      by true z =
          let p = eqb-true c.phase 0 z in
          record { stands = next c.phase (length c.rows) (omega (arith, p)) (begins p f.stands); done = no_report (with_next setup (still c)) r }
      by false z =
          let g = going setup runs evs in
          turns d r g.few
          (counts c.phase d.talks c.rows
          (now_due setup c.phase d.talks slave (slaves_stay (λ u. marks_after setup.limits (Turned settled) u.marks) c.talks ∙ talks_of setup evs) first (turn_goes setup runs c.phase settled c.talks g.goes))
          f.stands)

  pub fit : (evs : List Event) → Fit (course setup evs)
  fit [] = record { stands = inl (record { rest = all_counted setup.steps setup.runs runs; below = λ r z. absurd (clash r z) }); done = no_report (begin setup) refl }
  fit (event ∷ evs) = by event (course setup evs).report refl (fit evs)
    where
      c : Course
      c = course setup evs

      by : (event : Event) (o : Option Report) → c.report ≡ o → Fit c → Fit (course setup (event ∷ evs))
      by event (Some report) e f = subst Fit (sym (step_still setup event c report e)) (record { stands = f.stands; done = f.done })
      by Tick None e f = subst Fit (sym (step_tick setup c e)) (tick evs e f)
      by (Gram from bytes) None e f =
          let d = course setup (Gram from bytes ∷ evs) in
          let s = step_gram setup from bytes c e in
          let p : d.phase ≡ c.phase = ap (λ (x : Course). x.phase) s in
          let n : d.rows ≡ counted_rows d.talks c.rows = ap (λ (x : Course). x.rows) s ∙ ap (λ (x : Course). counted_rows x.talks c.rows) (sym s) in
          let g = (going setup runs (Gram from bytes ∷ evs)).goes in
          let w = now_due setup d.phase d.talks slave (talks_of setup (Gram from bytes ∷ evs)) first g in
          let P : ℕ → Type 0 = λ q. Stands q (length c.rows) in
          let Q : ℕ → Type 0 = λ q. Stands d.phase q in
          let k = forget d.phase (length (counted_rows d.talks c.rows)) d.talks (counts d.phase d.talks c.rows w (subst P (sym p) f.stands)) in
          record { stands = subst Q (ap length (sym n)) k; done = no_report d (ap (λ (x : Course). x.report) s ∙ e) }

pub finished_all : FinishedHasAllRows
finished_all setup runs slave first log steps h = (fit setup runs slave first (events_of_master setup log)).done steps h
