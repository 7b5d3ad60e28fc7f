-- A run of a patient master over a network in memory whose plan does nothing to the messages: nothing is lost or late.
use Rattle.std.proofs.Common.{◌≡◌, Some, None, List, [], sym, ◌∙◌, subst, Option, reverse}
use Rattle.std.specs.Prelude.{IfSome, MatchOption}
use Rattle.dcp_ends.specs.declared.entries.LogEntry.{LogEntry}
use Rattle.dcp_net.specs.declared.openings.Opening.{Opening}
use Rattle.slave_desc.specs.declared.descriptions.SlaveDesc.{SlaveDesc}
use Rattle.log_spec.specs.Oldest.{Honest}
use Rattle.master_spec.specs.declared.reports.Report.{Report}
use Rattle.master_spec.specs.Setup.{setup_from}
use Rattle.net_world.specs.Calls.{GivesDue}
use Rattle.rounds.specs.Steps.{without_turns}
use Rattle.host.specs.Hosting.{all_ends, opening_of}
use Rattle.host.specs.Views.{HostView, Tells}
use Rattle.run_laws.specs.Laws.{parties}
use Rattle.completeness_laws.specs.Timely.{Timely}
use Rattle.completeness_laws.specs.Quiet.{IsQuietPlan}
use Rattle.completeness_laws.specs.Rounded.{IsPatient}
use Rattle.completeness_laws.proofs.Quiet.Patient.{patient_timely}
use Rattle.commands.specs.Programs.{ToldInMemory}
use Rattle.commands.specs.SaysRun.{IsNetRun, NetTold, report_after}
use Rattle.commands.proofs.InStep.{HasRounds, is_run, report_is}

-- such a network gave what was due by the plan of the scenario
gives_due : (net : NetTold) → ToldInMemory net → (host : HostView) → IsNetRun net host → GivesDue (opening_of host.scenario all_ends) [] (without_turns host.log)
gives_due net memory host run = by net.opening memory.due run.opened
  where
    calls : memory.calls ≡ without_turns host.log
    calls = let Told : Option (List LogEntry) → Type 0 = λ told. Tells told host.log in subst Told memory.told run.told

    by : (o : Option Opening) → MatchOption o (memory.calls ≡ []) (λ opening. GivesDue opening [] memory.calls) → IfSome o (λ opening. opening ≡ opening_of host.scenario all_ends)
        → GivesDue (opening_of host.scenario all_ends) [] (without_turns host.log)
    by None none opened = let Due : List LogEntry → Type 0 = GivesDue (opening_of host.scenario all_ends) [] in subst Due (sym none ∙ calls) tt
    by (Some opening) due opened =
        let Due : List LogEntry → Type 0 = GivesDue (opening_of host.scenario all_ends) [] in
        let By : Opening → Type 0 = λ o. GivesDue o [] memory.calls in
        subst Due calls (subst By opened due)

pub timely : (net : NetTold) → ToldInMemory net → (host : HostView) → IsNetRun net host → HasRounds host → (other : SlaveDesc) → Honest (parties host.scenario other) host.log
    → (report : Report) → report_after host ≡ Some report → IsQuietPlan host.scenario.net → IsPatient host.scenario.limits → Timely (setup_from host.scenario) (reverse host.log)
timely net memory host run has other honest report reported quiet patient =
    patient_timely host.scenario other has.sound patient host.log (is_run host has other honest) (opening_of host.scenario all_ends) quiet (gives_due net memory host run) report (report_is host report reported)
