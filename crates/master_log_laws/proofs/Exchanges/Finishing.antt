-- A finished run has begun all phases.
use Rattle.std.proofs.Common.{◌≡◌, ℕ, Bool, true, false, if◌then◌else◌, Option, Some, None, List, [], ◌∷◌, refl, sym, ◌∙◌, subst}
use Rattle.std.specs.Prelude.{◌==◌}
use Rattle.std.specs.List.{list_all}
use Rattle.std.proofs.lemmas.Bool.{eqb-true}
use Rattle.dcp_ends.specs.Events.{Event, Gram, Tick}
use Rattle.master_spec.specs.declared.causes.Verdict.{Verdict}
use Rattle.master_spec.specs.declared.causes.Verdict.TheVariants as verdicts
use Rattle.master_spec.specs.declared.reports.Report.{Report}
use Rattle.master_spec.specs.declared.reports.Report.TheVariants as reports
use Rattle.master_spec.specs.declared.setups.Setup.{Setup}
use Rattle.master_spec.specs.Marks.{verdict_of}
use Rattle.master_spec.specs.Course.{CourseTalk, Course, course, begin, is_settled, is_quiet, failed_by, failed, phases, with_next, with_report, with_turns, decided, decided_if, course_turned, still, after_gram, course_after_turn, step}
use Rattle.master_log_laws.proofs.Index.Runs.{step_gram, step_tick, step_still}

abbrev pub Finishes : Setup → Course → Type 0
Finishes setup c = (n : ℕ) → c.report ≡ Some (reports.Finished n) → (n ≡ setup.steps) × (c.phase ≡ phases setup)

never : (setup : Setup) (c : Course) → c.report ≡ None → Finishes setup c
never setup c e n h = absurd (clash (sym e ∙ h))
  where
    clash : None ≡ Some (reports.Finished n) → ⊥
    clash z = cc

-- a failure is no finish
no_finish : (phase : ℕ) (talks : List CourseTalk) (n : ℕ) → failed phase talks ≡ Some (reports.Finished n) → ⊥
no_finish phase [] n h = cc
no_finish phase (u ∷ us) n h = by (verdict_of u.marks) h (λ z. no_finish phase us n z)
  where
    by : (v : Verdict) → failed_by phase u.slave v (failed phase us) ≡ Some (reports.Finished n) → (failed phase us ≡ Some (reports.Finished n) → ⊥) → ⊥
    by (verdicts.Ended cause) z f = cc
    by verdicts.Passed z f = f z
    by verdicts.Going z f = f z

decided_finishes : (setup : Setup) (c : Course) → c.report ≡ None → (o : Option Report) → failed c.phase c.talks ≡ o → Finishes setup (decided setup c o)
decided_finishes setup c r (Some report) e = λ n h. absurd (no_finish c.phase c.talks n (e ∙ h))
decided_finishes setup c r None e = by (c.phase == phases setup) refl
  where
    same : (n : ℕ) → Some (reports.Finished setup.steps) ≡ Some (reports.Finished n) → n ≡ setup.steps
    same n z = cc

    by : (b : Bool) → (c.phase == phases setup) ≡ b → Finishes setup (if b then with_report c (reports.Finished setup.steps) else with_next setup c)
    by true z = λ n h. (same n h, eqb-true c.phase (phases setup) z)
    by false z = never setup (with_next setup c) r

turned_finishes : (setup : Setup) (c : Course) → c.report ≡ None → Finishes setup (course_turned setup c)
turned_finishes setup c r = by (list_all is_quiet c.talks)
  where
    by : (b : Bool) → Finishes setup (decided_if setup b c)
    by true = decided_finishes setup c r (failed c.phase c.talks) refl
    by false = never setup c r

tick_finishes : (setup : Setup) (c : Course) → c.report ≡ None → Finishes setup (course_after_turn setup c)
tick_finishes setup c r = by (c.phase == 0)
  where
    by : (b : Bool) → Finishes setup (if b then with_next setup (still c) else course_turned setup (with_turns setup (list_all is_settled c.talks) c))
    by true = never setup (with_next setup (still c)) r
    by false = turned_finishes setup (with_turns setup (list_all is_settled c.talks) c) r

step_finishes : (setup : Setup) (event : Event) (c : Course) → Finishes setup c → Finishes setup (step setup event c)
step_finishes setup event c k = by event c.report refl
  where
    P : Course → Type 0
    P x = Finishes setup x

    by : (event : Event) (o : Option Report) → c.report ≡ o → Finishes setup (step setup event c)
    by (Gram from bytes) None e = subst P (sym (step_gram setup from bytes c e)) (never setup (after_gram setup from bytes c) e)
    by Tick None e = subst P (sym (step_tick setup c e)) (tick_finishes setup c e)
    by event (Some r) e = subst P (sym (step_still setup event c r e)) k

pub finishes : (setup : Setup) (events : List Event) → Finishes setup (course setup events)
finishes setup [] = never setup (begin setup) refl
finishes setup (event ∷ events) = step_finishes setup event (course setup events) (finishes setup events)
