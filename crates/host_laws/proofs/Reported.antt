-- From what a host tells of its log to why it reports what it reports.
use Rattle.std.proofs.Common.{◌≡◌, ℕ, suc, ◌+◌, ◌-◌, ◌<◌, ◌≤◌, true, Option, None, Some, IfSome, List, length, map, reverse, refl, sym, ap, ◌∙◌, subst, arith}
use Rattle.std.specs.List.{All}
use Rattle.std.proofs.Math.ListN.{get_or-map}
use Rattle.std.proofs.lemmas.Bool.{cond-true}
use Rattle.std.proofs.lemmas.List.{length-map}
use Rattle.dcp_ends.specs.Events.{Event, Rules}
use Rattle.log_spec.specs.Log.{IsSlaveOf}
use Rattle.log_spec.specs.Oldest.{Honest}
use Rattle.rounds.specs.Rounds.{Rounds}
use Rattle.rounds.specs.Told.{Follows}
use Rattle.slave_desc.specs.declared.descriptions.SlaveDesc.{SlaveDesc}
use Rattle.master_spec.specs.declared.reports.Report.{Report}
use Rattle.master_spec.specs.declared.reports.Report.TheVariants.{Failed}
use Rattle.master_spec.specs.Course.{course}
use Rattle.master_spec.specs.Rules.{master_rules}
use Rattle.master_spec.specs.Setup.{setup_from}
use Rattle.slave_spec.specs.Slaves.{slave_rules_from}
use Rattle.master_log_laws.specs.Index.Runs.{course_at}
use Rattle.master_log_laws.proofs.Scenarios.Scenarios.{events_reverse}
use Rattle.run_laws.specs.Laws.{parties, slave_setup_of, rules_of_slaves, IsRunInRounds}
use Rattle.completeness_laws.proofs.Honest.{causes_honest}
use Rattle.completeness_laws.proofs.Timely.Reasoned.{completes}
use Rattle.host.specs.Views.{HostView, course_in, master_in, report_in, slaves_in}
use Rattle.host_laws.specs.Lockstep.{HostsAll, IsInRounds}
use Rattle.host_laws.specs.Reports.{HostFailsForReason, HostIsComplete}
use Rattle.host_laws.proofs.Hosted.{master_is, slaves_are}
use Rattle.host_laws.proofs.Rounds.{whole_rounds}

module _ (host : HostView) (all : HostsAll host) (in_rounds : IsInRounds host) (leads : host.fault ≡ None → IfSome (master_in host) (λ rules. Follows rules host.log))
    (each : host.fault ≡ None → All (λ rules. Follows rules host.log) (slaves_in host)) (unfaulted : host.fault ≡ None) (other : SlaveDesc) (honest : Honest (parties host.scenario other) host.log) where
  slave_does : All (λ r. Follows r host.log) (rules_of_slaves host.scenario) → (s : ℕ) → IsSlaveOf (parties host.scenario other) s → Follows (slave_rules_from (slave_setup_of host.scenario other s)) host.log
  slave_does every s is =
      let rules : SlaveDesc → Rules = λ d. slave_rules_from (record { desc = d; micro = host.scenario.micro }) in
      let many : length (map rules host.scenario.slaves) ≡ length host.scenario.slaves = rw length-map refl in
      let within : s - 1 < length (map rules host.scenario.slaves) = omega (arith, is.0, is.1, many) in
      subst (λ (r : Rules). Follows r host.log) (get_or-map rules host.scenario.slaves (s - 1) other) (every (s - 1) (rules other) within)

  master_does : (first : Option Rules) → first ≡ Some (master_rules host.scenario) → IfSome first (λ r. Follows r host.log) → Follows (master_rules host.scenario) host.log
  master_does None none follows = absurd cc
  master_does (Some r) same follows = let z : r ≡ master_rules host.scenario = cc in subst (λ (r : Rules). Follows r host.log) z follows

  -- the log is a run in whole rounds
  is_run : IsRunInRounds host.scenario other host.log
  is_run =
      let whole = whole_rounds host unfaulted in_rounds in
      let ms = master_is host all in
      let ss = slaves_are host all in
      let R : Option Rules → Type 0 = λ m. Rounds m (slaves_in host) whole.0 host.log in
      let S : List Rules → Type 0 = λ rs. Rounds (Some (master_rules host.scenario)) rs whole.0 host.log in
      let E : List Rules → Type 0 = λ rs. All (λ r. Follows r host.log) rs in
      record {
        honest = honest;
        count = whole.0;
        rounds = subst S ss (subst R ms whole.1);
        master = master_does (master_in host) ms (leads unfaulted);
        slaves = slave_does (subst E ss (each unfaulted));
      }

-- the report that is read is that of the master after the log
report_at : (host : HostView) → HostsAll host → (report : Option Report) → report_in host ≡ report → (course_at (setup_from host.scenario) (reverse host.log)).report ≡ report
report_at host all report is =
    ap (λ (z : List Event). (course (setup_from host.scenario) z).report) (events_reverse (setup_from host.scenario) host.log)
    ∙ sym (cond-true host.hosted.master (course_in host).report None all.master) ∙ is

module _ (host : HostView) (all : HostsAll host) (in_rounds : IsInRounds host) (leads : host.fault ≡ None → IfSome (master_in host) (λ rules. Follows rules host.log))
    (each : host.fault ≡ None → All (λ rules. Follows rules host.log) (slaves_in host)) where
  pub fails_for_reason : HostFailsForReason host
  fails_for_reason unfaulted other honest id phase cause reported =
      causes_honest host.scenario other all.sound host.log (is_run host all in_rounds leads each unfaulted other honest) id phase cause (report_at host all (Some (Failed id phase cause)) reported)

  pub is_complete : HostIsComplete host
  is_complete unfaulted other honest roomy timely rows fault reference =
      completes host.scenario other all.sound roomy rows fault reference host.log (is_run host all in_rounds leads each unfaulted other honest) timely
