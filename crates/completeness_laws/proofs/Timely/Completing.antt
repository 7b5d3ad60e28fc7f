-- A timely run reports what the reference gives, where the cause that it reports has its reason.
use Rattle.std.proofs.Common.{◌≡◌, ℕ, ◌+◌, ◌-◌, ◌*◌, ◌<◌, ◌⊎◌, inl, inr, Option, Some, None, List, [], ◌∷◌, ◌++◌, length, reverse, refl, sym, ap, ◌∙◌, subst, arith, ℤ, length-append}
use Rattle.std.specs.Prelude.{slice_get}
use Rattle.std.proofs.lemmas.List.{append-nil}
use Rattle.dcp_types.specs.Codes.{fault_code}
use Rattle.dcp_ends.specs.declared.entries.LogEntry.{LogEntry}
use Rattle.pdu_layout.specs.Reading.{message_in}
use Rattle.slave_desc.specs.declared.descriptions.SlaveDesc.{SlaveDesc}
use Rattle.scenario.specs.declared.scenarios.Scenario.{Scenario}
use Rattle.scenario.specs.Sound.{IsScenario}
use Rattle.lockstep.specs.declared.references.RefFault.{RefFault}
use Rattle.lockstep.specs.Lockstep.{IsReference}
use Rattle.log_spec.specs.Log.{IsSlaveOf}
use Rattle.master_spec.specs.declared.causes.Cause.{Cause}
use Rattle.master_spec.specs.declared.causes.Cause.TheVariants as causes
use Rattle.master_spec.specs.declared.reports.Report.{Report}
use Rattle.master_spec.specs.declared.reports.Report.TheVariants as reports
use Rattle.master_spec.specs.declared.setups.Slave.{Slave}
use Rattle.master_spec.specs.Setup.{setup_from}
use Rattle.master_spec.specs.Exchanged.{IsIn}
use Rattle.master_spec.specs.Course.{Course}
use Rattle.master_spec.specs.Shown.{Shown, First}
use Rattle.master_log_laws.specs.Index.Runs.{course_at, events_of_master, IsRun}
use Rattle.master_log_laws.proofs.Index.ByEntry.{entry_by_entry}
use Rattle.master_log_laws.proofs.Index.Late.{all_report}
use Rattle.master_log_laws.proofs.Exchanges.Finished.{finished_is_acknowledged}
use Rattle.master_log_laws.proofs.Failures.First.{ends, failed_is_first}
use Rattle.master_log_laws.proofs.Scenarios.Heard.{setups_heard}
use Rattle.lockstep_laws.specs.Models.Scenarios.{slave_numbered}
use Rattle.lockstep_laws.proofs.Models.Scenarios.{has_parties}
use Rattle.run_laws.specs.Laws.{parties, IsRunOf, IsRunInRounds}
use Rattle.run_laws.proofs.Rounded.{rounds_are_runs}
use Rattle.run_laws.proofs.Runs.{are_parties}
use Rattle.run_laws.specs.Collecting.Collecting.{is_finished}
use Rattle.run_laws.proofs.Headline.Rows.{front_always, whole_always}
use Rattle.completeness_laws.specs.Timely.{longest_wait, LeavesTime, Roomy, Timely}
use Rattle.completeness_laws.specs.Reasons.{HeartbeatWasMissed, IsFaultOf}
use Rattle.completeness_laws.specs.StepPhases.{phase_of_step}
use Rattle.completeness_laws.specs.Completes.{ReportsEnd, ReportsReference}
use Rattle.completeness_laws.proofs.Timely.Silence.{lacks_none}
use Rattle.completeness_laws.proofs.Timely.Missing.{no_inputs_missing, none_late}
use Rattle.completeness_laws.proofs.Timely.Reasons.{HasReason, CauseHasReason}
use Rattle.completeness_laws.proofs.Timely.Counted.{rows_before}
use Rattle.completeness_laws.proofs.Timely.Retries.{steps_wait}
use Rattle.completeness_laws.proofs.Timely.Hearts.{hearts_kept}

module _ (sc : Scenario) (other : SlaveDesc) (ok : IsScenario sc) (roomy : Roomy sc) (rows : List (List ℤ)) (fault : Option RefFault) (ref : IsReference sc rows fault) (log : List LogEntry) (r : IsRunInRounds sc other log) (t : Timely (setup_from sc) (reverse log)) (reasons : CauseHasReason sc other fault (reverse log)) where
  abbrev c : Course
  c = course_at (setup_from sc) (reverse log)

  run : IsRunOf sc other log
  run = rounds_are_runs sc other ok log r

  entries : IsRun (setup_from sc) (reverse log)
  entries = entry_by_entry sc log r.master

  -- ---- a slave that is left alone for too long
  number : (slave : Slave) → IsIn (setup_from sc) slave → IsSlaveOf (parties sc other) slave.id
  number slave i = ((are_parties sc other ok).all slave i).0

  leaves : (slave : Slave) → IsIn (setup_from sc) slave → LeavesTime sc.limits (slave_numbered sc other slave.id)
  leaves slave i = roomy (slave.id - 1) (slave_numbered sc other slave.id) ((has_parties sc other ok message_in).desc slave.id (number slave i))

  none_missed : (slave : Slave) → IsIn (setup_from sc) slave → HeartbeatWasMissed sc other slave.id (reverse log) → ⊥
  none_missed slave i h = by (leaves slave i).hearts
    where
      by : ((slave_numbered sc other slave.id).heartbeat ≡ 0) ⊎ (longest_wait sc.limits + 3 * sc.limits.turn_limit + 4 < (slave_numbered sc other slave.id).heartbeat) → ⊥
      by (inl off) = let on = h.on in absurd (omega (arith, off, on))
      by (inr long) = let few = hearts_kept sc other ok log r t slave.id (slave_numbered sc other slave.id).heartbeat (number slave i) h.quiet in absurd (omega (arith, long, few))

  -- ---- the one cause that is left
  reason : (slave : Slave) → IsIn (setup_from sc) slave → (phase : ℕ) (cause : Cause) → Shown (setup_from sc) (reverse log) slave phase cause → c.phase ≡ phase → HasReason sc other fault (reverse log) slave phase cause
      → (q : ℕ) × (code : ℕ) × (cause ≡ causes.Faulted q code) × IsFaultOf sc fault slave.id phase code
  reason slave i phase (causes.NoAnswer q) s now h = absurd (lacks_none (setup_from sc) (reverse log) t slave i phase q s)
  reason slave i phase (causes.Unexpected q y z) s now h = absurd h
  reason slave i phase (causes.Refused q code) s now h = absurd (none_missed slave i h)
  reason slave i phase (causes.InputsMissing q k) s now h = absurd (no_inputs_missing (setup_from sc) (reverse log) t slave phase q k s now ok.limits.step_tries.0 (steps_wait (setup_from sc) (setups_heard sc ok) (reverse log) entries t.report t.reported slave i) (h s))
  reason slave i phase (causes.DataMissing k) s now h = absurd (none_late (setup_from sc) (reverse log) t h)
  reason slave i phase (causes.Stuck q z) s now h = let l = (leaves slave i).states in absurd (omega (arith, l, h))
  reason slave i phase (causes.Faulted q code) s now (inl f) = (q, code, refl, f)
  reason slave i phase (causes.Faulted q code) s now (inr m) = absurd (none_missed slave i m)

  -- ---- the report
  some_slave : (slave : Slave) (i : ℕ) (xs : List Slave) → slice_get xs i ≡ Some slave → (s : Slave) × (slice_get xs 0 ≡ Some s)
  some_slave slave i [] e = absurd cc
  some_slave slave i (x ∷ xs) e = (x, refl)

  front : (rest : List (List ℤ)) × (rows ≡ c.rows ++ rest)
  front = front_always sc other ok rows fault ref log run [] (reverse log) refl

  same_rows : (rest : List (List ℤ)) → rows ≡ c.rows ++ rest → length rows ≡ length c.rows → c.rows ≡ rows
  same_rows [] e l = sym (append-nil c.rows) ∙ sym e
  same_rows (x ∷ rest) e l = let a = ap length e in let b = length-append c.rows (x ∷ rest) in absurd (omega (arith, a, b, l))

  first : (slave : Slave) → IsIn (setup_from sc) slave → (s : Slave) × (slice_get (setup_from sc).slaves 0 ≡ Some s)
  first slave i = some_slave slave i.0 (setup_from sc).slaves i.1

  -- the rows are all that come before the fault
  whole : (slave : Slave) → IsIn (setup_from sc) slave → (phase code : ℕ) → c.phase ≡ phase → IsFaultOf sc fault slave.id phase code → c.rows ≡ rows
  whole slave i phase code e f =
      let P : Option RefFault → Type 0 = λ o. IsReference sc rows o in
      let ends = (subst P f.is ref).ends in
      let s = first slave i in
      let n = rows_before (setup_from sc) ok.runs.0 s.0 s.1 f.found.run f.found.step ends.moment.first ends.moment.last ends.moment.within (reverse log) (e ∙ f.at) in
      same_rows front.0 front.1 (ends.behind ∙ sym n)

  of_fault : (f : RefFault) → (o : Option RefFault) → o ≡ Some f → (q : ℕ) → c.report ≡ Some (reports.Failed f.slave (phase_of_step sc.steps f.run f.step) (causes.Faulted q (fault_code f.code))) → ReportsEnd sc o c.report
  of_fault f None e q h = absurd cc
  of_fault f (Some g) e q h =
      let z : f ≡ g = cc in
      let P : RefFault → Type 0 = λ x. c.report ≡ Some (reports.Failed x.slave (phase_of_step sc.steps x.run x.step) (causes.Faulted q (fault_code x.code))) in
      (q, subst P z h)

  failed : (id phase : ℕ) (cause : Cause) → c.report ≡ Some (reports.Failed id phase cause) → ReportsReference sc rows fault log
  failed id phase cause e = by w.0 w.1.0 w.1.1
    where
      w : (slave : Slave) × ((slave.id ≡ id) × First (setup_from sc) (reverse log) slave phase cause)
      w = failed_is_first (setup_from sc) (setups_heard sc ok) (reverse log) entries id phase cause e

      now : c.phase ≡ phase
      now = (ends c.phase c.talks id phase cause (all_report (setup_from sc) (events_of_master (setup_from sc) (reverse log)) (reports.Failed id phase cause) e).1).phase_is

      by : (slave : Slave) → slave.id ≡ id → First (setup_from sc) (reverse log) slave phase cause → ReportsReference sc rows fault log
      by slave is f =
          let report : c.report ≡ Some (reports.Failed slave.id phase cause) = e ∙ ap (λ (n : ℕ). Some (reports.Failed n phase cause)) (sym is) in
          let z = reason slave f.is_in phase cause f.shown now (reasons slave f.is_in phase cause report) in
          let g = z.3 in
          let told : c.report ≡ Some (reports.Failed g.found.slave (phase_of_step sc.steps g.found.run g.found.step) (causes.Faulted z.0 (fault_code g.found.code))) =
          report ∙ ap (λ (n : ℕ). Some (reports.Failed n phase cause)) (sym g.slave) ∙ ap (λ (n : ℕ). Some (reports.Failed g.found.slave n cause)) g.at
          ∙ ap (λ (x : Cause). Some (reports.Failed g.found.slave (phase_of_step sc.steps g.found.run g.found.step) x)) z.2
          ∙ ap (λ (n : ℕ). Some (reports.Failed g.found.slave (phase_of_step sc.steps g.found.run g.found.step) (causes.Faulted z.0 n))) (sym g.code_is) in
          record { ends = of_fault g.found fault g.is z.0 told; whole = whole slave f.is_in phase z.1 now g }

  finished : (steps : ℕ) → c.report ≡ Some (reports.Finished steps) → ReportsReference sc rows fault log
  finished steps e =
      let w = whole_always sc other ok rows fault ref log run [] (reverse log) refl (ap is_finished e) in
      let s = (finished_is_acknowledged (setup_from sc) (setups_heard sc ok).heard (reverse log) entries steps e).steps_are in
      record { ends = by fault w.1 (e ∙ ap (λ (n : ℕ). Some (reports.Finished n)) s); whole = w.0 }
    where
      by : (o : Option RefFault) → o ≡ None → c.report ≡ Some (reports.Finished sc.steps) → ReportsEnd sc o c.report
      by None h g = g
      by (Some f) h g = absurd cc

  pub reports_it : ReportsReference sc rows fault log
  reports_it = by t.report t.reported
    where
      by : (report : Report) → c.report ≡ Some report → ReportsReference sc rows fault log
      by (reports.Finished steps) e = finished steps e
      by (reports.Failed id phase cause) e = failed id phase cause e
