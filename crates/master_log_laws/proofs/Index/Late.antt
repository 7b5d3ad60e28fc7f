-- What a log tells once there is a report.
use Rattle.std.proofs.Common.{◌≡◌, ℕ, ◌≤◌, Bool, true, false, if◌then◌else◌, ◌⊎◌, inl, inr, Option, Some, None, List, [], ◌∷◌, refl, sym, ap, ◌∙◌, subst}
use Rattle.std.specs.Prelude.{◌==◌, ◌&&◌}
use Rattle.std.specs.List.{list_all}
use Rattle.dcp_ends.specs.Events.{Event, Gram, Tick}
use Rattle.master_spec.specs.declared.requests.Answer.{Answer}
use Rattle.master_spec.specs.declared.causes.Cause.{Cause}
use Rattle.master_spec.specs.declared.causes.Verdict.{Verdict}
use Rattle.master_spec.specs.declared.causes.Verdict.TheVariants as verdicts
use Rattle.master_spec.specs.declared.reports.Report.{Report}
use Rattle.master_spec.specs.declared.reports.Report.TheVariants as reports
use Rattle.master_spec.specs.declared.setups.Setup.{Setup}
use Rattle.master_spec.specs.News.{News, Answers, Hints, Brings, Nothing}
use Rattle.master_spec.specs.Marks.{verdict_of}
use Rattle.master_spec.specs.Course.{CourseTalk, Course, course, is_settled, is_quiet, failed_by, failed, phases, with_next, with_report, decided, with_turns, decided_if, course_turned, still, after_gram, course_after_turn, step, begin}
use Rattle.master_spec.specs.Requests.{Asking, Decision, decided_by, with_news}
use Rattle.master_log_laws.specs.Index.Index.{decided_at}
use Rattle.master_log_laws.specs.Index.Late.{IsLate, AreLate}
use Rattle.master_log_laws.proofs.Index.Runs.{step_gram, step_tick, step_still}

-- ---- the order of lateness
late_self : (n : ℕ) (a : Asking) → IsLate n a a
late_self n a = record { code = refl; number = refl; more = refl; first = refl; repeats = refl; kept = λ d e. e; come = λ d e. inl e }

pub late_refl : (n : ℕ) (bs : List Asking) → AreLate n bs bs
late_refl n [] = tt
late_refl n (b ∷ bs) = (late_self n b, refl)

late_one : (n : ℕ) (a b c : Asking) → IsLate n a b → IsLate n b c → IsLate n a c
late_one n a b c x y = record { code = x.code ∙ y.code; number = x.number ∙ y.number; more = x.more ∙ y.more; first = x.first ∙ y.first; repeats = x.repeats ∙ y.repeats; kept = λ d e. x.kept d (y.kept d e); come = λ d e. by d (x.come d e) }
  where
    by : (d : Decision) → (b.decision ≡ Some d) ⊎ (n ≤ d.place) → (c.decision ≡ Some d) ⊎ (n ≤ d.place)
    by d (inl e) = y.come d e
    by d (inr e) = inr e

pub late_trans : (n : ℕ) (az bs cs : List Asking) → AreLate n az bs → AreLate n bs cs → AreLate n az cs
late_trans n [] [] [] x y = tt
late_trans n [] [] (c ∷ cs) x y = absurd y
late_trans n [] (b ∷ bs) cs x y = absurd x
late_trans n (a ∷ az) [] cs x y = absurd x
late_trans n (a ∷ az) (b ∷ bs) [] x y = absurd y
late_trans n (a ∷ az) (b ∷ bs) (c ∷ cs) x y = (late_one n a b c x.0 y.0, x.1 ∙ y.1)

decided_kept : (o : Option Decision) (e d : Decision) → o ≡ Some d → decided_by o e ≡ Some d
decided_kept None e d h = absurd cc
decided_kept (Some f) e d h = h

decided_come : (n : ℕ) (o : Option Decision) (e d : Decision) → n ≤ e.place → decided_by o e ≡ Some d → (o ≡ Some d) ⊎ (n ≤ d.place)
decided_come n None e d l h = let z : e ≡ d = cc in let P : Decision → Type 0 = λ x. n ≤ x.place in inr (subst P z l)
decided_come n (Some f) e d l h = inl h

pub late_decided : (n place : ℕ) (answer : Answer) (bs : List Asking) → n ≤ place → AreLate n (decided_at place answer bs) bs
late_decided n place answer [] l = tt
late_decided n place answer (b ∷ bs) l = (
  record {
    code = refl;
    number = refl;
    more = refl;
    first = refl;
    repeats = refl;
    kept = λ d e. decided_kept b.decision (record { place = place; answer = answer }) d e;
    come = λ d e. decided_come n b.decision (record { place = place; answer = answer }) d l e;
  },
  refl,
)

pub late_news : (n id place : ℕ) (news : News) (bs : List Asking) → n ≤ place → AreLate n (with_news id place news bs) bs
late_news n id place (Answers number sender answer) [] l = tt
late_news n id place (Answers number sender answer) (b ∷ bs) l = by ((sender == id) && (number == b.number))
  where
    by : (t : Bool) → AreLate n (if t then record { code = b.code; number = b.number; more = b.more; first = b.first; repeats = b.repeats; decision = decided_by b.decision (record { place = place; answer = answer }) } ∷ bs else b ∷ bs) (b ∷ bs)
    by true = late_decided n place answer (b ∷ bs) l
    by false = late_refl n (b ∷ bs)
late_news n id place (Hints sender) bs l = late_refl n bs
late_news n id place (Brings number data_id payload) bs l = late_refl n bs
late_news n id place Nothing bs l = late_refl n bs

-- ---- a report comes when all are quiet
abbrev pub IsWhole : Report → Course → Type 0
IsWhole (reports.Failed id phase cause) c = failed c.phase c.talks ≡ Some (reports.Failed id phase cause)
IsWhole (reports.Finished steps) c = failed c.phase c.talks ≡ None

abbrev pub Reports : Course → Type 0
Reports c = (report : Report) → c.report ≡ Some report → (list_all is_quiet c.talks ≡ true) × IsWhole report c

never : (c : Course) → c.report ≡ None → Reports c
never c e report h = absurd (clash (sym e ∙ h))
  where
    clash : None ≡ Some report → ⊥
    clash z = cc

failed_failed : (phase : ℕ) (talks : List CourseTalk) (report : Report) → failed phase talks ≡ Some report → (id p : ℕ) × ((cause : Cause) × (report ≡ reports.Failed id p cause))
failed_failed phase [] report h = absurd cc
failed_failed phase (u ∷ us) report h = by (verdict_of u.marks) h (λ z. failed_failed phase us report z)
  where
    by : (v : Verdict) → failed_by phase u.slave v (failed phase us) ≡ Some report → (failed phase us ≡ Some report → (id p : ℕ) × ((cause : Cause) × (report ≡ reports.Failed id p cause))) → (id p : ℕ) × ((cause : Cause) × (report ≡ reports.Failed id p cause))
    by (verdicts.Ended cause) z f = let y : reports.Failed u.slave.id phase cause ≡ report = cc in (u.slave.id, phase, (cause, sym y))
    by verdicts.Passed z f = f z
    by verdicts.Going z f = f z

decided_reports : (setup : Setup) (c : Course) → c.report ≡ None → list_all is_quiet c.talks ≡ true → (o : Option Report) → failed c.phase c.talks ≡ o → Reports (decided setup c o)
decided_reports setup c n q (Some report) e r h = (q, whole (failed_failed c.phase c.talks report e) (same h))
  where
    same : Some report ≡ Some r → report ≡ r
    same z = cc

    whole : (id p : ℕ) × ((cause : Cause) × (report ≡ reports.Failed id p cause)) → report ≡ r → IsWhole r (with_report c report)
    whole k z = let P : Report → Type 0 = λ y. IsWhole y (with_report c report) in subst P (sym (k.2).1 ∙ z) (e ∙ ap (λ (y : Report). Some y) (k.2).1)
decided_reports setup c n q None e r h = by (c.phase == phases setup) r h
  where
    finished : (r : Report) → Some (reports.Finished setup.steps) ≡ Some r → IsWhole r (with_report c (reports.Finished setup.steps))
    finished r h = let z : reports.Finished setup.steps ≡ r = cc in let P : Report → Type 0 = λ y. IsWhole y (with_report c (reports.Finished setup.steps)) in subst P z e

    by : (b : Bool) → Reports (if b then with_report c (reports.Finished setup.steps) else with_next setup c)
    by true = λ r h. (q, finished r h)
    by false = never (with_next setup c) n

turned_reports : (setup : Setup) (c : Course) → c.report ≡ None → Reports (course_turned setup c)
turned_reports setup c n = by (list_all is_quiet c.talks) refl
  where
    by : (b : Bool) → list_all is_quiet c.talks ≡ b → Reports (decided_if setup b c)
    by true q = decided_reports setup c n q (failed c.phase c.talks) refl
    by false q = never c n

tick_reports : (setup : Setup) (c : Course) → c.report ≡ None → Reports (course_after_turn setup c)
tick_reports setup c n = by (c.phase == 0)
  where
    by : (b : Bool) → Reports (if b then with_next setup (still c) else course_turned setup (with_turns setup (list_all is_settled c.talks) c))
    by true = never (with_next setup (still c)) n
    by false = turned_reports setup (with_turns setup (list_all is_settled c.talks) c) n

still_whole : (report : Report) (c : Course) → IsWhole report c → IsWhole report (still c)
still_whole (reports.Failed id phase cause) c w = w
still_whole (reports.Finished steps) c w = w

still_reports : (c : Course) → Reports c → Reports (still c)
still_reports c k report h = let z = k report h in (z.0, still_whole report c z.1)

step_reports : (setup : Setup) (event : Event) (c : Course) → Reports c → Reports (step setup event c)
step_reports setup event c k = by event c.report refl
  where
    P : Course → Type 0
    P x = Reports x

    by : (event : Event) (o : Option Report) → c.report ≡ o → Reports (step setup event c)
    by (Gram from bytes) None e = subst P (sym (step_gram setup from bytes c e)) (never (after_gram setup from bytes c) e)
    by Tick None e = subst P (sym (step_tick setup c e)) (tick_reports setup c e)
    by event (Some r) e = subst P (sym (step_still setup event c r e)) (still_reports c k)

pub all_report : (setup : Setup) (evs : List Event) → Reports (course setup evs)
all_report setup [] = never (begin setup) refl
all_report setup (event ∷ evs) = step_reports setup event (course setup evs) (all_report setup evs)
