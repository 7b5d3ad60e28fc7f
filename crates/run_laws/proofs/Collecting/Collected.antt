-- The rows of the master are collected as the laws want it.
use Rattle.std.proofs.Common.{◌≡◌, ℕ, zero, suc, ◌+◌, ◌-◌, ◌*◌, ◌%◌, true, ◌⊎◌, inl, inr, Option, Some, None, Ok, List, [], ◌∷◌, ◌++◌, map, length, refl, sym, ap, ◌∙◌, subst, arith, ℤ}
use Rattle.std.specs.Prelude.{slice_get}
use Rattle.std.proofs.lemmas.Option.{slice_get_within}
use Rattle.dcp_ends.specs.declared.entries.LogEntry.{LogEntry}
use Rattle.dcp_ends.specs.declared.entries.LogEntry.TheVariants.{Got}
use Rattle.dcp_types.specs.declared.addresses.Address.{Address}
use Rattle.pdu_layout.specs.Reading.{message_in}
use Rattle.slave_desc.specs.declared.ports.Port.{Port}
use Rattle.slave_desc.specs.declared.descriptions.SlaveDesc.{SlaveDesc}
use Rattle.scenario.specs.declared.scenarios.Scenario.{Scenario}
use Rattle.scenario.specs.Sound.{IsScenario}
use Rattle.lockstep.specs.Lockstep.{shown}
use Rattle.log_spec.specs.Log.{Parties}
use Rattle.log_spec.specs.Log as logs
use Rattle.master_spec.specs.declared.reports.Report.{Report}
use Rattle.master_spec.specs.declared.reports.Report.TheVariants as reports
use Rattle.master_spec.specs.Setup.{setup_from, slave_of, slaves_from}
use Rattle.master_spec.specs.Course.{values_in}
use Rattle.master_log_laws.specs.Index.Runs.{course_at, IsRun}
use Rattle.master_log_laws.proofs.Scenarios.Heard.{setups_heard}
use Rattle.run_laws.proofs.Runs.{are_parties}
use Rattle.master_laws.proofs.Barrier.Standing.{rows_in_phase}
use Rattle.lockstep_laws.specs.Models.Collecting.{Watched, row_by, NextRow}
use Rattle.lockstep_laws.specs.Models.Scenarios.{slave_numbered}
use Rattle.lockstep_laws.proofs.Models.Scenarios.{has_parties}
use Rattle.slave_spec.specs.Payloads.{payload}
use Rattle.slave_laws.specs.Wiring.Wired.{planned_changes}
use Rattle.slave_laws.specs.Data.Made.{parties, machines}
use Rattle.slave_laws.proofs.Data.Held.{of_scenario}
use Rattle.master_laws.specs.RowCounts.Laws.{CameInPhase, values_by, CountsRow}
use Rattle.master_laws.proofs.RowCounts.Goes.{one_by_one}
use Rattle.master_laws.proofs.RowCounts.All.{finished_all}
use Rattle.run_laws.specs.Collecting.Collecting.{is_finished, collector, MasterCollects}
use Rattle.run_laws.proofs.Collecting.Watches.{watch_back, watch_interval, watch_sender}
use Rattle.run_laws.proofs.Collecting.Heard.{outputs_note, outputs_role, same_is}

-- ---- the slaves of a scenario, by their places
place_of : (sc : Scenario) (k : ℕ) (ds : List SlaveDesc) (i : ℕ) (d : SlaveDesc) → slice_get ds i ≡ Some d → slice_get (slaves_from sc k ds) i ≡ Some (slave_of sc (k + i) d)
place_of sc k [] i d e = absurd cc
place_of sc k (x ∷ ds) zero d e = let z : x ≡ d = cc in ap (λ (y : SlaveDesc). Some (slave_of sc k y)) z ∙ ap (λ (n : ℕ). Some (slave_of sc n d)) (omega arith)
place_of sc k (x ∷ ds) (suc i) d e = place_of sc (k + 1) ds i d e ∙ ap (λ (n : ℕ). Some (slave_of sc n d)) (omega arith)

run_before : (sc : Scenario) (later log : List LogEntry) → IsRun (setup_from sc) (later ++ log) → IsRun (setup_from sc) log
run_before sc [] log run = run
run_before sc (e ∷ later) log run = run_before sc later log run.1

finished_report : (o : Option Report) → is_finished o ≡ true → (steps : ℕ) × (o ≡ Some (reports.Finished steps))
finished_report None h = absurd cc
finished_report (Some (reports.Finished steps)) h = (steps, refl)
finished_report (Some (reports.Failed slave phase cause)) h = absurd cc

module _ (sc : Scenario) (other : SlaveDesc) (ok : IsScenario sc) where
  abbrev w : Parties
  w = parties sc other

  numbered : (s : ℕ) → logs.IsSlaveOf w s → slice_get (setup_from sc).slaves (s - 1) ≡ Some (slave_of sc s (slave_numbered sc other s))
  numbered s is = place_of sc 1 sc.slaves (s - 1) (slave_numbered sc other s) ((has_parties sc other ok message_in).desc s is) ∙ ap (λ (n : ℕ). Some (slave_of sc n (slave_numbered sc other s))) (omega (arith, is.0))

  -- ---- one part of a row
  watched : (log : List LogEntry) → IsRun (setup_from sc) log → (row s : ℕ) → logs.IsSlaveOf w s → (bytes : List ℕ) → CameInPhase (setup_from sc) (slave_of sc s (slave_numbered sc other s)) row bytes log → Watched w (collector sc other) row s log (outputs_note (row % 65536) s bytes)
  watched log run row s is bytes c =
      let setup = setup_from sc in
      let slave = slave_of sc s (slave_numbered sc other s) in
      let here = numbered s is in
      let party = ((are_parties sc other ok).all slave (s - 1, here)).1 in
      let P : List LogEntry → Type 0 = IsRun setup in
      let before = (run_before sc c.later (Got c.at c.from c.bytes ∷ c.earlier) (subst P c.is run)).1 in
      let at = same_is c.at sc.master c.own in
      let from = same_is c.from slave.address c.sender in
      let d = rows_in_phase setup (setups_heard sc ok).heard w (are_parties sc other ok) c.earlier before s is slave party c.before c.phase_is c.job c.job_is row c.row_is in
      record {
        later = c.later;
        earlier = c.earlier;
        bytes = c.bytes;
        is = c.is ∙ ap (λ (a : Address). c.later ++ Got a c.from c.bytes ∷ c.earlier) at ∙ ap (λ (a : Address). c.later ++ Got sc.master a c.bytes ∷ c.earlier) from;
        read = outputs_role (row % 65536) s bytes c.bytes c.brings;
        number = refl;
        begun = d.0;
        awaited = d.1;
      }

  -- ---- the values of a row
  abbrev values_of : (ℕ → List ℕ) → ℕ → List ℤ
  values_of part s = values_in (map (λ (p : Port). p.kind) (slave_numbered sc other s).outputs) (part (s - 1))

  values_row : (part : ℕ → List ℕ) (i : ℕ) (ds : List SlaveDesc) → ((j : ℕ) (d : SlaveDesc) → slice_get ds j ≡ Some d → slave_numbered sc other (i + 1 + j) ≡ d) → values_by part i (slaves_from sc (i + 1) ds) ≡ row_by (values_of part) (i + 1) ds
  values_row part i [] h = refl
  values_row part i (d ∷ ds) h =
      let z : i + 1 + 0 ≡ i + 1 = omega arith in
      let n : i ≡ i + 1 - 1 = omega arith in
      let same : d ≡ slave_numbered sc other (i + 1) = sym (h 0 d refl) ∙ ap (slave_numbered sc other) z in
      let here : values_in (map (λ (p : Port). p.kind) d.outputs) (part i) ≡ values_of part (i + 1) =
      ap (λ (x : SlaveDesc). values_in (map (λ (p : Port). p.kind) x.outputs) (part i)) same ∙ ap (λ (k : ℕ). values_in (map (λ (p : Port). p.kind) (slave_numbered sc other (i + 1)).outputs) (part k)) n in
      let rest = values_row part (i + 1) ds (λ j x e. let m : i + 1 + 1 + j ≡ i + 1 + suc j = omega arith in ap (slave_numbered sc other) m ∙ h (suc j) x e) in
      ap (λ (q : List ℤ). q ++ values_by part (i + 1) (slaves_from sc (i + 1 + 1) ds)) here ∙ ap (λ (q : List ℤ). values_of part (i + 1) ++ q) rest

  desc_at : (j : ℕ) (d : SlaveDesc) → slice_get sc.slaves j ≡ Some d → slave_numbered sc other (0 + 1 + j) ≡ d
  desc_at j d e =
      let lt = slice_get_within sc.slaves j d e in
      let is : logs.IsSlaveOf w (0 + 1 + j) = (omega arith, omega (arith, lt)) in
      let n : 0 + 1 + j - 1 ≡ j = omega arith in
      one (slave_numbered sc other (0 + 1 + j)) d (slice_get sc.slaves j) (ap (slice_get sc.slaves) (sym n) ∙ (has_parties sc other ok message_in).desc (0 + 1 + j) is) e
    where
      one : (a b : SlaveDesc) (o : Option SlaveDesc) → o ≡ Some a → o ≡ Some b → a ≡ b
      one a b o p q = cc

  first_slave : logs.IsSlaveOf w 1
  first_slave = let few = (ok.few_slaves).0 in (omega arith, omega (arith, few))

  -- ---- an entry
  next : (e : LogEntry) (log : List LogEntry) → IsRun (setup_from sc) (e ∷ log) → CountsRow (setup_from sc) e log → NextRow w (machines sc other) (collector sc other) e log
  next e log run k =
      let rows = (course_at (setup_from sc) log).rows in
      let p = length rows in
      record {
        notes = λ s. outputs_note (p % 65536) s (k.part (s - 1));
        watched = λ s is. watched (e ∷ log) run p s is (k.part (s - 1)) (k.came (s - 1) (slave_of sc s (slave_numbered sc other s)) (numbered s is));
        is = k.is ∙ ap (λ (q : List ℤ). rows ++ q ∷ []) (values_row k.part 0 sc.slaves desc_at);
      }

  goes : (e : LogEntry) (log : List LogEntry) → IsRun (setup_from sc) (e ∷ log) → ((collector sc other).rows (e ∷ log) ≡ (collector sc other).rows log) ⊎ NextRow w (machines sc other) (collector sc other) e log
  goes e log run = by (one_by_one (setup_from sc) ((ok.runs).0) (slave_of sc 1 (slave_numbered sc other 1)) (numbered 1 first_slave) e log)
    where
      by : ((course_at (setup_from sc) (e ∷ log)).rows ≡ (course_at (setup_from sc) log).rows) ⊎ CountsRow (setup_from sc) e log → ((collector sc other).rows (e ∷ log) ≡ (collector sc other).rows log) ⊎ NextRow w (machines sc other) (collector sc other) e log
      by (inl z) = inl z
      by (inr k) = inr (next e log run k)

  all : (log : List LogEntry) → (collector sc other).finished log ≡ true → length ((collector sc other).rows log) ≡ sc.runs * (sc.steps + 1)
  all log h =
      let r = finished_report (course_at (setup_from sc) log).report h in
      finished_all (setup_from sc) ((ok.runs).0) (slave_of sc 1 (slave_numbered sc other 1)) (numbered 1 first_slave) log r.0 r.1

  back : (s : ℕ) → logs.IsSlaveOf w s → (rows : List (List ℤ)) (r k : ℕ) (vs : List ℤ) → shown sc rows s (slave_numbered sc other s) r k ≡ Ok vs → (collector sc other).back s ((machines sc other).payload s vs) ≡ vs
  back s is rows r k vs h =
      let of = of_scenario sc other ok s is in
      ap (λ (t : ℕ). (collector sc other).back s (payload (slave_numbered sc other t) s (planned_changes sc t (slave_numbered sc other t)) vs)) (watch_sender sc s (slave_numbered sc other s) of)
      ∙ watch_back sc s (slave_numbered sc other s) of rows r k vs h

pub master_collects : MasterCollects
master_collects sc other ok log run = record {
  begins = refl;
  goes = λ later before e is. goes sc other ok e before (run_before sc later (e ∷ before) (let P : List LogEntry → Type 0 = IsRun (setup_from sc) in subst P is run));
  all = λ later before is h. all sc other ok before h;
  each = λ s is. watch_interval sc s (slave_numbered sc other s) (of_scenario sc other ok s is);
  own = λ s is. watch_sender sc s (slave_numbered sc other s) (of_scenario sc other ok s is);
  back = back sc other ok;
}
