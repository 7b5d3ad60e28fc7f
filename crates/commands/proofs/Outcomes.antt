-- What was made of an input and written is the outcome of its status.
use Rattle.std.proofs.Common.{◌≡◌, ◌⊎◌, ◌≤◌, inl, inr, ℕ, suc, List, [], length, Option, Some, refl, sym, ap, subst, ◌∙◌}
use Rattle.dcp_io.specs.Faults.{Rose}
use Rattle.dcp_io.specs.declared.outputs.Delivery.{Delivery}
use Rattle.dcp_io.specs.declared.outputs.Delivery.TheVariants.{Whole, Cut}
use Rattle.dcp_io.specs.Outputs.{Delivers}
use Rattle.dcp_io.proofs.Pieces.{nothing_added}
use Rattle.host.specs.Views.{HostView, master_in, slaves_in}
use Rattle.master_spec.specs.declared.reports.Report.{Report}
use Rattle.master_spec.specs.declared.reports.Report.TheVariants as reports
use Rattle.std.specs.Prelude.{All, Err, IfSome, reverse}
use Rattle.rounds.specs.Told.{Follows}
use Rattle.master_spec.specs.Rules.{MasterRun}
use Rattle.scenario.specs.Sound.{IsScenario}
use Rattle.master_log_laws.proofs.Scenarios.Scenarios.{failed_first, finished_acknowledged}
use Rattle.master_log_laws.proofs.Finish.Whole.{finished_is_exchanged}
use Rattle.host.specs.Hosting.{all_ends, master_of}
use Rattle.dcp_ends.specs.Logs.{events_at}
use Rattle.scenario.specs.declared.scenarios.Scenario.{Scenario}
use Rattle.master_spec.specs.Setup.{setup_from}
use Rattle.dcp_ends.specs.declared.entries.LogEntry.{LogEntry}
use Rattle.host.specs.declared.hosted.Hosted.{Hosted}
use Rattle.replays.specs.declared.faults.ReplayFault.{ReplayFault}
use Rattle.replays.specs.declared.faults.ReplayFault.TheVariants as faults
use Rattle.replays.specs.declared.replays.Replayed.{Replayed}
use Rattle.replays.specs.Replays.{Answers}
use Rattle.run_text.specs.Runs.{DeliversBoth, text_after}
use Rattle.commands.specs.declared.answers.CommandAnswer.{CommandAnswer}
use Rattle.commands.specs.declared.answers.CommandAnswer.TheVariants as answers
use Rattle.commands.specs.declared.command_words.Command.{Command}
use Rattle.commands.specs.declared.command_words.Command.TheVariants.{Decode, Encode, Describe, Reference, Talk, Run, Replay, Soak, Conform}
use Rattle.commands.specs.declared.answers.Unsaid.TheVariants as unsaid
use Rattle.commands.specs.declared.statuses.Judgement.{Judgement}
use Rattle.commands.specs.declared.statuses.Judgement.TheVariants.{Good, Failed, Refused}
use Rattle.commands.specs.declared.statuses.Judgement.TheVariants as judged
use Rattle.commands.specs.declared.statuses.Status.{Status}
use Rattle.commands.specs.declared.statuses.Status.TheVariants.{Done, Usage, BadInput, RunFailed, ReadFault, WriteFault, NetFault, OutOfMemory, Differs}
use Rattle.text_lines.specs.Readings.{IsFirstBad}
use Rattle.text_lines.specs.declared.reasons.TextRefused.{TextRefused}
use Rattle.text_lines.specs.declared.reasons.TextRefused.TheVariants as refusals
use Rattle.scenario_text.specs.Judging.{scenario_why_at}
use Rattle.commands.specs.Answers.{Delivered, GivesAnswer, IsAlone, IsWritableAnswer, RanOrRefused, RunDelivered, SoakDelivered}
use Rattle.commands.specs.Replays.{FollowsReport, GivesReplay, GoesThrough, ReplayDelivered, SaysStop}
use Rattle.commands.specs.SaysReplay.{IsTraceOf, ReplaysTo, SaysReplay, unended_line}
use Rattle.commands.specs.declared.said.Statement.{Statement}
use Rattle.commands.specs.Changes.{RunChange, NetChange}
use Rattle.commands.specs.Refusals.{RefusesText}
use Rattle.commands.specs.Said.{text_of}
use Rattle.commands.specs.CommandWords.{IsCommand}
use Rattle.commands.specs.Outcomes.{Answered, IsFree, Outcome}
use Rattle.commands.specs.Says.{Stops}
use Rattle.commands.specs.SaysRun.{HasEnded, NetTold, RunsTo, SaysRun, ShowsEnd, report_after, run_text, run_trace}
use Rattle.commands.specs.SaysSoak.{SaysSoak, SoaksTo, rows_after}
use Rattle.soaks.specs.Summaries.{summary}
use Rattle.commands.specs.Statuses.{ComesBeforeWriting, ComesWithoutNet, judgement_of_report, status_after}
use Rattle.commands.proofs.Complete.{complete_if_timely, fails_for_reason}
use Rattle.commands.proofs.InStep.{in_step, rounds_of}

-- a text that was written to the one sink, with nothing for the other
pub text_alone : (held holds : Option (List ℕ)) (before now : ℕ) (kept : Option (List ℕ)) (count : ℕ) (text : List ℕ) (delivery : Delivery)
    → Delivers held holds before now text delivery → DeliversBoth held holds before now kept kept count count text [] delivery
text_alone held holds before now kept count text Whole written = (written, (nothing_added kept, refl))
text_alone held holds before now kept count text Cut written = inl (written, refl, refl)

wrong : unsaid.NetFault ≡ unsaid.OutOfMemory → ⊥
wrong same = absurd cc

-- a fault of the network stops a command only where its count rose
pub stops_rose : (command : Command) (input : List ℕ) (before now : ℕ) → Stops command input before now unsaid.NetFault → Rose before now
stops_rose Decode input before now stopped = absurd (wrong stopped.0)
stops_rose Encode input before now stopped = absurd (wrong stopped.0)
stops_rose Describe input before now stopped = absurd (wrong stopped.0)
stops_rose Reference input before now stopped = absurd (wrong stopped.0)
stops_rose Talk input before now stopped = absurd (wrong stopped.0)
stops_rose Replay input before now stopped = absurd (wrong stopped.0)
stops_rose Run input before now stopped = stopped.1
stops_rose (Soak number) input before now stopped = stopped.1
stops_rose (Conform name) input before now stopped = absurd (wrong stopped.0)

-- where memory was wanting, the network has not failed
pub stops_still : (command : Command) (input : List ℕ) (before now : ℕ) → Stops command input before now unsaid.OutOfMemory → now ≡ before
stops_still Decode input before now stopped = stopped.1
stops_still Encode input before now stopped = stopped.1
stops_still Describe input before now stopped = stopped.1
stops_still Reference input before now stopped = stopped.1
stops_still Talk input before now stopped = stopped.1
stops_still Replay input before now stopped = stopped.1
stops_still Run input before now stopped = stopped
stops_still (Soak number) input before now stopped = stopped
stops_still (Conform name) input before now stopped = stopped.1

-- a text that no scenario is, refused at its first line that is refused
pub refused_run : (net : NetTold) (input : List ℕ) (refusal : TextRefused) (said : Statement) → length input ≤ 1048576 → IsFirstBad scenario_why_at input refusal → RefusesText refusal said
    → SaysRun net input said.judgement (text_of said.text) []
refused_run net input (refusals.Fault fault) said short bad refuses =
    let Judged : Judgement → Type 0 = λ judgement. SaysRun net input judgement (text_of said.text) [] in
    subst Judged (sym refuses.0) (inl (short, inl (fault.line, fault.why, bad, refuses.1)), refl)
refused_run net input refusals.OutOfMemory said short bad refuses = absurd refuses

-- the hosted master follows its rules
of_master : (host : HostView) → host.hosted ≡ all_ends → IfSome (master_in host) (λ rules. Follows rules host.log) → MasterRun host.scenario host.log
of_master host hosted follows =
    let Own : Hosted → Type 0 = λ h. IfSome (master_of host.scenario h) (λ rules. Follows rules host.log) in
    subst Own hosted follows

-- the log of a run shows its end
pub shown : (host : HostView) → IsScenario host.scenario → MasterRun host.scenario host.log → (report : Report) → report_after host ≡ Some report → ShowsEnd host.scenario host.log report
shown host sound run (reports.Finished steps) reported =
    (finished_acknowledged host.scenario sound host.log run steps reported, finished_is_exchanged host.scenario sound host.log run steps reported)
shown host sound run (reports.Failed slave phase cause) reported = failed_first host.scenario sound host.log run slave phase cause reported

-- a run whose ends followed their rules and whose master has this report
runs_to : (net : NetTold) (input : List ℕ) (host : HostView) (report : Report) → HasEnded net input host → IsScenario host.scenario → host.hosted ≡ all_ends
    → IfSome (master_in host) (λ rules. Follows rules host.log) → All (λ rules. Follows rules host.log) (slaves_in host) → report_after host ≡ Some report
    → RunsTo net input report (run_text host report) (run_trace input host)
runs_to net input host report ended sound hosted master slaves reported =
    let rounds = rounds_of host sound hosted ended.run.whole master slaves in
    record { host = host; ended = ended; sound = sound; master = master; slaves = slaves; reported = reported; shows = shown host sound (of_master host hosted master) report reported; text_is = refl; trace_is = refl; in_step = in_step host rounds report reported; reasons = fails_for_reason host rounds report reported; complete = complete_if_timely host rounds report reported }

-- what is delivered of a run is what the command says of its text
pub run_says : (held holds : Option (List ℕ)) (before now : ℕ) (kept keeps : Option (List ℕ)) (began ends : ℕ) (net : NetTold) (input : List ℕ) (host : HostView) (status : Status)
    → HasEnded net input host → RunDelivered held holds before now kept keeps began ends input host status → Delivered held holds before now kept keeps began ends Run net input status
run_says held holds before now kept keeps began ends net input host status ended run =
    let text = run_text host run.report in
    let traced = run_trace input host in
    let runs = runs_to net input host run.report ended run.sound run.hosted run.master run.slaves run.reported in
    (judgement_of_report run.report, run.delivery, text, traced, says run.report text traced runs, run.delivered, run.status_is)
  where
    says : (report : Report) (text traced : List ℕ) → RunsTo net input report text traced → SaysRun net input (judgement_of_report report) text traced
    says (reports.Finished steps) text traced runs = (steps, runs)
    says (reports.Failed slave phase cause) text traced runs = (slave, phase, cause, runs)

-- what is delivered of a run of a number's scenario is what the command says of its text
pub soak_says : (held holds : Option (List ℕ)) (before now : ℕ) (kept : Option (List ℕ)) (count : ℕ) (net : NetTold) (input : List ℕ) (number : ℕ) (host : HostView) (status : Status)
    → HasEnded net input host → SoakDelivered held holds before now number host status → Delivered held holds before now kept kept count count (Soak number) net input status
unfolding runs_to
soak_says held holds before now kept count net input number host status ended run =
    let text = summary number run.report (rows_after host) in
    let soaks : SoaksTo number net input run.report text =
    record { printed = run_text host run.report; traced = run_trace input host; run = runs_to net input host run.report ended run.sound run.hosted run.master run.slaves run.reported; text_is = refl } in
    (judgement_of_report run.report, run.delivery, text, [], (says run.report text soaks, refl), text_alone held holds before now kept count text run.delivery run.delivered, run.status_is)
  where
    says : (report : Report) (text : List ℕ) → SoaksTo number net input report text → SaysSoak number net input (judgement_of_report report) text
    says (reports.Finished steps) text soaks = (steps, soaks)
    says (reports.Failed slave phase cause) text soaks = (slave, phase, cause, soaks)

-- a refusal of a run's text is one of a number's text
pub refused_soak : (number : ℕ) (net : NetTold) (input : List ℕ) (said : Statement) → RanOrRefused (answers.Said said) → GivesAnswer Run net input (answers.Said said) → GivesAnswer (Soak number) net input (answers.Said said)
refused_soak number net input said refused given =
    let Ran : Judgement → Type 0 = λ judgement. SaysRun net input judgement (text_of said.text) [] in
    let Soaked : Judgement → Type 0 = λ judgement. SaysSoak number net input judgement (text_of said.text) in
    (subst Soaked (sym refused) (subst Ran refused given).0, refl)

-- what is delivered of a trace that went through is what the command says of it
pub replay_says : (held holds : Option (List ℕ)) (before now : ℕ) (kept : Option (List ℕ)) (count : ℕ) (net : NetTold) (input : List ℕ) (scenario : Scenario) (replayed : Replayed) (status : Status)
    → (goes : GoesThrough input scenario replayed) → ReplayDelivered held holds before now scenario goes.entries replayed status → Delivered held holds before now kept kept count count Replay net input status
replay_says held holds before now kept count net input scenario replayed status goes run =
    let text = text_after (setup_from scenario) (reverse (events_at scenario.master goes.entries)) replayed.report in
    let runs : ReplaysTo input replayed.report text =
    record { scenario = scenario; hosted = goes.hosted; entries = goes.entries; trace = goes.trace; right = goes.right; ended = goes.ended; reported = goes.stands.report; text_is = refl } in
    (judgement_of_report replayed.report, run.delivery, text, [], (says replayed.report text runs, refl), text_alone held holds before now kept count text run.delivery run.delivered, run.status_is)
  where
    says : (report : Report) (text : List ℕ) → ReplaysTo input report text → SaysReplay input (judgement_of_report report) text
    says (reports.Finished steps) text runs = (steps, runs)
    says (reports.Failed slave phase cause) text runs = (slave, phase, cause, runs)

-- a status that follows from a report comes after writing, is no usage, and none without the network
IsWritten : Status → Type 0
IsWritten status = (ComesBeforeWriting status → ⊥) × (status ≡ Usage → ⊥) × (ComesWithoutNet status → ⊥)

written_after : (report : Report) (delivery : Delivery) → IsWritten (status_after (judgement_of_report report) delivery)
unfolding IsWritten
written_after (reports.Finished steps) Whole = (λ x. x, λ e. absurd cc, λ x. x)
written_after (reports.Finished steps) Cut = (λ x. x, λ e. absurd cc, λ x. x)
written_after (reports.Failed slave phase cause) Whole = (λ x. x, λ e. absurd cc, λ x. x)
written_after (reports.Failed slave phase cause) Cut = (λ x. x, λ e. absurd cc, λ x. x)

pub wrote : (report : Report) (status : Status) → FollowsReport report status → (ComesBeforeWriting status → ⊥) × (status ≡ Usage → ⊥) × (ComesWithoutNet status → ⊥)
unfolding IsWritten
wrote report status follows = subst IsWritten (sym follows.1) (written_after report follows.0)

-- where a replay stops is what the command says
pub stop_says : (input : List ℕ) (scenario : Scenario) (hosted : Hosted) (entries : List LogEntry) (fault : ReplayFault) (said : Statement) → IsTraceOf input scenario hosted entries
    → Answers {T = Replayed} scenario hosted entries (Err fault) → SaysStop fault said → SaysReplay input said.judgement (text_of said.text)
stop_says input scenario hosted entries (faults.Differs at) said trace answers says =
    let Judged : Judgement → Type 0 = λ judgement. SaysReplay input judgement (text_of said.text) in
    subst Judged (sym says.0) (record { scenario = scenario; hosted = hosted; entries = entries; trace = trace; place = inl (at, answers, says.1) })
stop_says input scenario hosted entries (faults.Unended count) said trace answers says =
    let Judged : Judgement → Type 0 = λ judgement. SaysReplay input judgement (text_of said.text) in
    subst Judged (sym says.0) (record { scenario = scenario; hosted = hosted; entries = entries; trace = trace; place = inr (answers.1, answers.2, says.1 ∙ ap unended_line answers.0) })
stop_says input scenario hosted entries faults.OutOfMemory said trace answers says = absurd says

-- what a replay gives is an answer of its command
pub replay_gives : (net : NetTold) (input : List ℕ) (answer : CommandAnswer) → GivesReplay input answer → GivesAnswer Replay net input answer
replay_gives net input (answers.Said said) given = (given, refl)
replay_gives net input (answers.Ran host) given = absurd given
replay_gives net input (answers.Replayed scenario replayed) given = (refl, given.1)
replay_gives net input (answers.Soaked number host) given = absurd given

pub replay_writable : (input : List ℕ) (answer : CommandAnswer) → GivesReplay input answer → IsWritableAnswer input answer
replay_writable input (answers.Said said) given = tt
replay_writable input (answers.Ran host) given = absurd given
replay_writable input (answers.Replayed scenario replayed) given = given.0
replay_writable input (answers.Soaked number host) given = absurd given

pub replay_alone : (input : List ℕ) (answer : CommandAnswer) → GivesReplay input answer → IsAlone answer
replay_alone input (answers.Said said) given = tt
replay_alone input (answers.Ran host) given = absurd given
replay_alone input (answers.Replayed scenario replayed) given = tt
replay_alone input (answers.Soaked number host) given = absurd given

module _ (words : List (List ℕ)) (source out trace : RunChange) (net : NetChange) where
  pub outcome_is : (judgement : Judgement) (delivery : Delivery) → Answered words source out trace net judgement delivery → Outcome words source out trace net (status_after judgement delivery)
  outcome_is Good Whole answered = answered
  outcome_is Good Cut answered = inl answered
  outcome_is Failed Whole answered = answered
  outcome_is Failed Cut answered = inr (inl answered)
  outcome_is judged.Differs Whole answered = answered
  outcome_is judged.Differs Cut answered = inr (inr answered)
  outcome_is Refused Whole answered = (Whole, answered)
  outcome_is Refused Cut answered = (Cut, answered)

  -- of an answer that was cut off, one of the sinks failed
  cut_failed : (judgement : Judgement) → Answered words source out trace net judgement Cut → Rose out.before out.now ⊎ Rose trace.before trace.now
  cut_failed judgement answered = elim answered.8 [ inl first ↦ inl first.0.4 | inr second ↦ inr second.1.4 ]

  -- where nothing failed, the status is free
  pub outcome_free : (status : Status) → Outcome words source out trace net status → IsCommand words → (Rose source.before source.now → ⊥) → (Rose out.before out.now → ⊥)
      → (Rose trace.before trace.now → ⊥) → (Rose net.before net.now → ⊥) → IsFree status
  outcome_free Done outcome named read written traced called = tt
  outcome_free RunFailed outcome named read written traced called = tt
  outcome_free BadInput outcome named read written traced called = tt
  outcome_free OutOfMemory outcome named read written traced called = tt
  outcome_free Usage outcome named read written traced called = outcome.1 named
  outcome_free ReadFault outcome named read written traced called = read outcome.3
  outcome_free NetFault outcome named read written traced called = called (stops_rose outcome.0 outcome.1 net.before net.now outcome.5)
  outcome_free Differs outcome named read written traced called = tt
  outcome_free WriteFault (inl good) named read written traced called = elim (cut_failed Good good) [ inl first ↦ written first | inr second ↦ traced second ]
  outcome_free WriteFault (inr (inl failed)) named read written traced called = elim (cut_failed Failed failed) [ inl first ↦ written first | inr second ↦ traced second ]
  outcome_free WriteFault (inr (inr differs)) named read written traced called = elim (cut_failed judged.Differs differs) [ inl first ↦ written first | inr second ↦ traced second ]

abbrev pub change : Option (List ℕ) → Option (List ℕ) → (before now : ℕ) → RunChange
change was is before now = record { was = was; is = is; before = before; now = now }

-- the same change in other words
pub same_change : {was was' is is' : Option (List ℕ)} {before before' : ℕ} → was ≡ was' → is ≡ is' → before ≡ before' → (now : ℕ) → change was is before now ≡ change was' is' before' now
same_change {was = was} {was' = was'} {is = is} {is' = is'} {before = before} {before' = before'} p q r now =
    ap (λ (x : Option (List ℕ)). change x is before now) p ∙ ap (λ (x : Option (List ℕ)). change was' x before now) q ∙ ap (λ (x : ℕ). change was' is' x now) r
