-- What a host keeps to, in what is read of it.
use Rattle.std.proofs.Common.{◌≡◌, ℕ, zero, suc, ◌+◌, ◌≤◌, Option, None, Some, IfSome, ℤ, List, [], ◌∷◌, ◌++◌, length, reverse, refl, sym, ap, ◌∙◌, subst, arith}
use Rattle.std.proofs.lemmas.List.{length-append}
use Rattle.std.proofs.lemmas.Bool.{cond-true}
use Rattle.dcp_ends.specs.declared.entries.LogEntry.{LogEntry}
use Rattle.dcp_ends.specs.Logs.{events_at}
use Rattle.slave_desc.specs.declared.descriptions.SlaveDesc.{SlaveDesc}
use Rattle.scenario.specs.declared.scenarios.Scenario.{Scenario}
use Rattle.lockstep.specs.declared.references.RefFault.{RefFault}
use Rattle.lockstep.specs.Lockstep.{IsReference}
use Rattle.lockstep.proofs.Existence.{reference_unique}
use Rattle.master_spec.specs.declared.setups.Slave.{Slave}
use Rattle.master_spec.specs.declared.reports.Report.TheVariants.{Finished}
use Rattle.master_spec.specs.Setup.{setup_from}
use Rattle.master_spec.specs.Course.{Course, course}
use Rattle.master_core.specs.Columns.{column_value}
use Rattle.master_log_laws.specs.Index.Runs.{course_at}
use Rattle.master_log_laws.proofs.Scenarios.Scenarios.{events_reverse}
use Rattle.run_laws.specs.Headline.Headline.{IsInLockstep, KeepsToReference}
use Rattle.host.specs.Views.{HostView, course_in, report_in, row_count_in, row_value}
use Rattle.host_laws.specs.Lockstep.{HostsAll, HostKeepsInStep}
use Rattle.host_laws.specs.Readings.{OfReference}

-- ---- the reference is one, so what holds at the end of the log holds of it
at_end : (sc : Scenario) (other : SlaveDesc) (log : List LogEntry) → KeepsToReference sc other log → (rows : List (List ℤ)) (fault : Option RefFault) → IsReference sc rows fault → IsInLockstep sc other rows fault (reverse log)
at_end sc other log k rows fault reference =
    let same = reference_unique sc k.rows rows k.fault fault k.reference reference in
    let R : List (List ℤ) → Type 0 = λ r. IsInLockstep sc other r k.fault (reverse log) in
    let F : Option RefFault → Type 0 = λ f. IsInLockstep sc other rows f (reverse log) in
    subst F same.1 (subst R same.0 (k.always [] (reverse log) refl))

course_is : (sc : Scenario) (log : List LogEntry) → course_at (setup_from sc) (reverse log) ≡ course (setup_from sc) (reverse (events_at sc.master log))
course_is sc log = ap (course (setup_from sc)) (events_reverse (setup_from sc) log)

module _ (host : HostView) (all : HostsAll host) (step : HostKeepsInStep host) where
  -- at the end of the log, for the reference
  pub now_of : (Holds : List (List ℤ) → Option RefFault → Type 0) → ((other : SlaveDesc) (rows : List (List ℤ)) (fault : Option RefFault) → IsInLockstep host.scenario other rows fault (reverse host.log) → Holds rows fault) → OfReference host Holds
  now_of Holds h = λ other honest rows fault reference. h other rows fault (at_end host.scenario other host.log (step other honest) rows fault reference)

  front_is : (other : SlaveDesc) (rows : List (List ℤ)) (fault : Option RefFault) → IsInLockstep host.scenario other rows fault (reverse host.log) → (rest : List (List ℤ)) × (rows ≡ (course_in host).rows ++ rest)
  front_is other rows fault x =
      let P : Course → Type 0 = λ c. (rest : List (List ℤ)) × (rows ≡ c.rows ++ rest) in
      subst P (course_is host.scenario host.log) x.front

  whole_is : (other : SlaveDesc) (rows : List (List ℤ)) (fault : Option RefFault) → IsInLockstep host.scenario other rows fault (reverse host.log) → (steps : ℕ) → (course_in host).report ≡ Some (Finished steps)
      → ((course_in host).rows ≡ rows) × (fault ≡ None)
  whole_is other rows fault x =
      let P : Course → Type 0 = λ c. (steps : ℕ) → c.report ≡ Some (Finished steps) → (c.rows ≡ rows) × (fault ≡ None) in
      subst P (course_is host.scenario host.log) x.whole

  count_is : row_count_in host ≡ length (course_in host).rows
  count_is = cond-true host.hosted.master (length (course_in host).rows) 0 all.master

  -- ---- rows
  pub rows_front : (result : ℕ) → result ≡ row_count_in host → OfReference host (λ rows fault. result ≤ length rows)
  rows_front result same =
      now_of (λ rows fault. result ≤ length rows)
      (λ other rows fault x. (
      let f = front_is other rows fault x in
      let n : length rows ≡ length (course_in host).rows + length f.0 = ap length f.1 ∙ length-append (course_in host).rows f.0 in
      let m = same ∙ count_is in
      omega (arith, n, m)
      ))

  report_is : (steps : ℕ) → report_in host ≡ Some (Finished steps) → (course_in host).report ≡ Some (Finished steps)
  report_is steps h = sym (cond-true host.hosted.master (course_in host).report None all.master) ∙ h

  pub rows_whole : (result : ℕ) → result ≡ row_count_in host → (steps : ℕ) → report_in host ≡ Some (Finished steps) → OfReference host (λ rows fault. (result ≡ length rows) × (fault ≡ None))
  rows_whole result same steps finished =
      now_of (λ rows fault. (result ≡ length rows) × (fault ≡ None))
      (λ other rows fault x. (
      let w = whole_is other rows fault x steps (report_is steps finished) in
      (same ∙ count_is ∙ ap length w.0, w.1)
      ))

-- ---- the value of a row that is there
front_value : (slaves : List Slave) (rows rest : List (List ℤ)) (k id port : ℕ) (v : ℤ) → column_value slaves rows k id port ≡ Some v → column_value slaves (rows ++ rest) k id port ≡ Some v
front_value slaves [] rest k id port v h = absurd cc
front_value slaves (row ∷ rows) rest zero id port v h = h
front_value slaves (row ∷ rows) rest (suc k) id port v h = front_value slaves rows rest k id port v h

module _ (host : HostView) (all : HostsAll host) (step : HostKeepsInStep host) (k slave port : ℕ) where
  value_is : row_value host k slave port ≡ column_value (setup_from host.scenario).slaves (course_in host).rows k slave port
  value_is = cond-true host.hosted.master (column_value (setup_from host.scenario).slaves (course_in host).rows k slave port) None all.master

  pub value_of : (result : Option ℤ) → result ≡ row_value host k slave port
      → OfReference host (λ rows fault. IfSome result (λ v. column_value (setup_from host.scenario).slaves rows k slave port ≡ Some v))
  value_of None same = λ other honest rows fault reference. tt
  value_of (Some v) same =
      now_of host all step (λ rows fault. column_value (setup_from host.scenario).slaves rows k slave port ≡ Some v)
      (λ other rows fault x. (
      let f = front_is host all step other rows fault x in
      let here = sym value_is ∙ sym same in
      let P : List (List ℤ) → Type 0 = λ r. column_value (setup_from host.scenario).slaves r k slave port ≡ Some v in
      subst P (sym f.1) (front_value (setup_from host.scenario).slaves (course_in host).rows f.0 k slave port v here)
      ))
