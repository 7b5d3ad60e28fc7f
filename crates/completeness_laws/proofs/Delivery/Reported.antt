-- The slave that a report names ended at some entry.
use Rattle.std.proofs.Common.{◌≡◌, ℕ, zero, suc, ◌-◌, Option, Some, None, List, [], ◌∷◌, ◌++◌, map, reverse, refl, sym, ap, ◌∙◌, subst, arith}
use Rattle.std.specs.Prelude.{slice_get}
use Rattle.dcp_ends.specs.Events.{Event}
use Rattle.dcp_ends.specs.declared.entries.LogEntry.{LogEntry}
use Rattle.scenario.specs.declared.scenarios.Scenario.{Scenario}
use Rattle.scenario.specs.Sound.{IsScenario}
use Rattle.log_spec.specs.Log.{IsSlaveOf}
use Rattle.master_spec.specs.declared.causes.Cause.{Cause}
use Rattle.master_spec.specs.declared.reports.Report.TheVariants as reports
use Rattle.master_spec.specs.declared.setups.Slave.{Slave}
use Rattle.master_spec.specs.declared.setups.Setup.{Setup}
use Rattle.master_spec.specs.Setup.{setup_from}
use Rattle.master_spec.specs.Marks.{job_of, cause_of}
use Rattle.master_spec.specs.Course.{course, fresh_talk}
use Rattle.master_log_laws.specs.Index.Runs.{events_of_master, course_at}
use Rattle.master_log_laws.proofs.Index.Late.{all_report}
use Rattle.master_log_laws.proofs.Index.Reported.{ended_cause}
use Rattle.master_log_laws.proofs.Index.Runs.{slaves_at, talks_of}
use Rattle.master_log_laws.proofs.Failures.First.{ends}
use Rattle.master_log_laws.proofs.Scenarios.Heard.{setups_heard}
use Rattle.master_log_laws.proofs.Scenarios.Scenarios.{events_reverse}
use Rattle.run_laws.specs.Laws.{parties}
use Rattle.run_laws.proofs.Runs.{are_parties}
use Rattle.completeness_laws.specs.Moments.{cause_in, cause_at, EndsHere}
use Rattle.completeness_laws.specs.Undelivered.{ReportedEnded}
use Rattle.completeness_laws.proofs.Delivery.Coming.{none_some}
use Rattle.completeness_laws.proofs.Delivery.Staying.{entry_stays, entry_ends}

some_cause : (a b : Cause) → Some a ≡ Some b → a ≡ b
some_cause a b z = cc

fresh_none : (slaves : List Slave) (i : ℕ) → cause_in (slice_get (map fresh_talk slaves) i) ≡ None
fresh_none [] i = refl
fresh_none (s ∷ ss) zero = refl
fresh_none (s ∷ ss) (suc i) = fresh_none ss i

module _ (sc : Scenario) (ok : IsScenario sc) (s : ℕ) (cause : Cause) where
  record EndsSomewhere (log : List LogEntry) : Type 0 where
    pub later : List LogEntry
    pub sofar : List LogEntry
    pub entry : LogEntry
    pub split : log ≡ later ++ entry ∷ sofar
    pub ends : EndsHere sc s cause entry sofar
    pub phase_is : (course_at (setup_from sc) sofar).phase ≡ (course_at (setup_from sc) log).phase

  find : (log : List LogEntry) → cause_at sc s log ≡ Some cause → EndsSomewhere log
  find [] h = absurd (none_some cause (cause_at sc s []) (fresh_none (setup_from sc).slaves (s - 1)) h)
  find (e ∷ log) h = by (cause_at sc s log) refl (λ z. find log z)
    where
      by : (o : Option Cause) → cause_at sc s log ≡ o → (cause_at sc s log ≡ Some cause → EndsSomewhere log) → EndsSomewhere (e ∷ log)
      by None q f = record { later = []; sofar = log; entry = e; split = refl; ends = record { going = q; ended = h }; phase_is = sym (entry_ends (setup_from sc) (s - 1) cause e log q h) }
      by (Some d) q f =
          let w = entry_stays (setup_from sc) (s - 1) d ((setups_heard sc ok).heard).runs e log q in
          let z : d ≡ cause = some_cause d cause (sym w.ended ∙ h) in
          let g = f (q ∙ ap (λ (x : Cause). Some x) z) in
          record { later = e ∷ g.later; sofar = g.sofar; entry = g.entry; split = ap (λ (l : List LogEntry). e ∷ l) g.split; ends = g.ends; phase_is = g.phase_is ∙ sym w.phase }

-- a failure is reported in the phase that has begun
pub phase_reported : (setup : Setup) (log : List LogEntry) (id phase : ℕ) (cause : Cause) → (course_at setup log).report ≡ Some (reports.Failed id phase cause) → (course_at setup log).phase ≡ phase
phase_reported setup log id phase cause e =
    let c = course_at setup log in
    (ends c.phase c.talks id phase cause (all_report setup (events_of_master setup log) (reports.Failed id phase cause) e).1).phase_is

pub reported : ReportedEnded
reported sc other ok log m id phase cause r =
    let setup = setup_from sc in
    let l = reverse log in
    let now : (course_at setup l).report ≡ Some (reports.Failed id phase cause) = ap (λ (z : List Event). (course setup z).report) (events_reverse setup log) ∙ r in
    let whole = all_report setup (events_of_master setup l) (reports.Failed id phase cause) now in
    let c = course_at setup l in
    let e = ends c.phase c.talks id phase cause whole.1 in
    let is : slice_get setup.slaves e.i ≡ Some (e.talk).slave = slaves_at c.talks setup.slaves (talks_of setup (events_of_master setup l)) e.i e.talk e.here in
    let n = (setups_heard sc ok).numbered e.i (e.talk).slave is in
    let d = e.id_is in
    let i : id - 1 ≡ e.i = omega (arith, n, d) in
    let gone : cause_of (e.talk).marks ≡ Some cause = ended_cause (cause_of (e.talk).marks) (job_of (e.talk).marks) (e.talk).marks cause e.ended in
    let f = find sc ok id cause l (ap cause_in (ap (slice_get c.talks) i ∙ e.here) ∙ gone) in
    let P : ℕ → Type 0 = λ k. IsSlaveOf (parties sc other) k in
    record { is = subst P d ((are_parties sc other ok).all (e.talk).slave (e.i, is)).0; later = f.later; sofar = f.sofar; entry = f.entry; split = f.split; ends = f.ends; phase_is = f.phase_is ∙ e.phase_is }
