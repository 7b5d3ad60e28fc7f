-- What was made of a text and written is the outcome of its status.
use Rattle.std.proofs.Common.{◌≡◌, ◌⊎◌, inl, inr, ℕ, List, length, Option, None, Some, refl, sym, subst}
use Rattle.dcp_io.specs.declared.outputs.Delivery.{Delivery}
use Rattle.dcp_io.specs.declared.outputs.Delivery.TheVariants.{Whole, Cut}
use Rattle.dcp_record.specs.Traces.{trace_bytes}
use Rattle.dcp_types.specs.declared.fault_codes.FaultCode.{FaultCode}
use Rattle.master_spec.specs.declared.reports.Report.{Report}
use Rattle.master_spec.specs.declared.reports.Report.TheVariants as reports
use Rattle.host.specs.Views.{HostView}
use Rattle.commands.specs.declared.statuses.Judgement.{Judgement}
use Rattle.commands.specs.declared.statuses.Judgement.TheVariants.{Good, Failed, Refused}
use Rattle.commands.specs.declared.statuses.Judgement.TheVariants as judged
use Rattle.commands.specs.declared.statuses.Status.{Status}
use Rattle.commands.specs.declared.statuses.Status.TheVariants.{Done, Usage, BadInput, RunFailed, ReadFault, WriteFault, NetFault, OutOfMemory, Differs}
use Rattle.commands.specs.Statuses.{ComesBeforeWriting, ComesWithoutNet, judgement_of_report, status_after}
use Rattle.dcp_io.specs.Faults.{Rose}
use Rattle.commands.specs.Changes.{RunChange}
use Rattle.commands.specs.Outcomes.{IsFree}
use Rattle.socket_commands.specs.Outcomes.{Answered, Outcome}
use Rattle.socket_commands.specs.Parts.{IsLive}
use Rattle.socket_commands.specs.declared.answers.Run.{Run}
use Rattle.socket_commands.specs.declared.parts.Part.{Part}
use Rattle.socket_commands.specs.declared.parts.Part.TheVariants as parts
use Rattle.socket_commands.specs.Answers.{Delivered, IsRunEnded, RunDelivered, ended_text}
use Rattle.socket_commands.specs.Changes.{LiveChange}
use Rattle.socket_commands.specs.Parts.{bits_in}
use Rattle.socket_commands.specs.Says.{ComesTo, HasLived, LivesTo, SaysLive, judgement_of_fault}
use Rattle.socket_commands.proofs.InStep.{lives_complete, lives_for_reason, lives_in_step, lives_shown}

-- what a run can come to
abbrev IsSaid : Judgement → Type 0
IsSaid Good = Unit {0}
IsSaid Failed = Unit {0}
IsSaid judged.Differs = ⊥
IsSaid Refused = ⊥

report_said : (report : Report) → IsSaid (judgement_of_report report)
report_said (reports.Finished steps) = tt
report_said (reports.Failed slave phase cause) = tt

fault_said : (fault : Option FaultCode) → IsSaid (judgement_of_fault fault)
fault_said None = tt
fault_said (Some fault) = tt

is_said : (part : Part) (host : HostView) (judgement : Judgement) (text : List ℕ) → ComesTo part host judgement text → IsSaid judgement
is_said parts.All host judgement text comes = subst IsSaid (sym comes.2) (report_said comes.0)
is_said parts.Master host judgement text comes = subst IsSaid (sym comes.2) (report_said comes.0)
is_said (parts.Slave s) host judgement text comes = subst IsSaid (sym comes.2) (fault_said _)

says_of : (words : List (List ℕ)) (net : LiveChange) (input : List ℕ) (judgement : Judgement) (text traced : List ℕ) → LivesTo words net input judgement text traced → SaysLive words net input judgement text traced
says_of words net input Good text traced lives = lives
says_of words net input Failed text traced lives = lives
says_of words net input judged.Differs text traced lives = absurd (is_said lives.part lives.host judged.Differs text lives.comes)
says_of words net input Refused text traced lives = absurd (is_said lives.part lives.host Refused text lives.comes)

-- what is delivered of a run is what the command says of its text
pub ran_says : (held holds : Option (List ℕ)) (before now : ℕ) (kept keeps : Option (List ℕ)) (began ends : ℕ) (words : List (List ℕ)) (net : LiveChange) (input : List ℕ) (run : Run) (status : Status)
    → HasLived words net input run.part run.host × IsRunEnded run → RunDelivered held holds before now kept keeps began ends input run status → Delivered held holds before now kept keeps began ends words net input status
ran_says held holds before now kept keeps began ends words net input run status given done =
    let text = ended_text run.host run.ending in
    let traced = trace_bytes (bits_in run.part (length run.host.scenario.slaves)) input run.host.log in
    let lives : LivesTo words net input run.judgement text traced =
    record {
      part = run.part;
      host = run.host;
      lived = given.0;
      master = done.master;
      slaves = done.slaves;
      comes = given.1;
      trace_is = refl;
      shows = lives_shown words net input run.part run.host done.sound given.0 done.master;
      in_step = lives_in_step words net input run.part run.host run.judgement text done.sound given.0 done.master done.slaves given.1;
      reasons = lives_for_reason words net input run.part run.host run.judgement text done.sound given.0 done.master done.slaves given.1;
      complete = lives_complete words net input run.part run.host run.judgement text done.sound given.0 done.master done.slaves given.1;
    } in
    (run.judgement, done.delivery, text, traced, says_of words net input run.judgement text traced lives, done.delivered, done.status_is)

-- the status of a run comes after writing, is no usage, and none without the network
abbrev IsWritten : Status → Type 0
IsWritten status = (ComesBeforeWriting status → ⊥) × (status ≡ Usage → ⊥) × (ComesWithoutNet status → ⊥)

said_written : (judgement : Judgement) (delivery : Delivery) → IsSaid judgement → IsWritten (status_after judgement delivery)
said_written Good Whole said = (λ x. x, λ e. absurd cc, λ x. x)
said_written Good Cut said = (λ x. x, λ e. absurd cc, λ x. x)
said_written Failed Whole said = (λ x. x, λ e. absurd cc, λ x. x)
said_written Failed Cut said = (λ x. x, λ e. absurd cc, λ x. x)
said_written judged.Differs delivery said = absurd said
said_written Refused delivery said = absurd said

pub written : (held holds : Option (List ℕ)) (before now : ℕ) (kept keeps : Option (List ℕ)) (began ends : ℕ) (input : List ℕ) (run : Run) (status : Status)
    → IsRunEnded run → RunDelivered held holds before now kept keeps began ends input run status → (ComesBeforeWriting status → ⊥) × (status ≡ Usage → ⊥) × (ComesWithoutNet status → ⊥)
written held holds before now kept keeps began ends input run status ended done =
    let said = is_said run.part run.host run.judgement (ended_text run.host run.ending) ended in
    let Written : Status → Type 0 = λ s. (ComesBeforeWriting s → ⊥) × (s ≡ Usage → ⊥) × (ComesWithoutNet s → ⊥) in
    subst Written (sym done.status_is) (said_written run.judgement done.delivery said)

module _ (words : List (List ℕ)) (source out trace : RunChange) (net : LiveChange) where
  pub outcome_is : (judgement : Judgement) (delivery : Delivery) → Answered words source out trace net judgement delivery → Outcome words source out trace net (status_after judgement delivery)
  outcome_is Good Whole answered = answered
  outcome_is Good Cut answered = inl answered
  outcome_is Failed Whole answered = answered
  outcome_is Failed Cut answered = inr answered
  outcome_is judged.Differs Whole answered = absurd answered.6
  outcome_is judged.Differs Cut answered = absurd answered.6
  outcome_is Refused Whole answered = (Whole, answered)
  outcome_is Refused Cut answered = (Cut, answered)

  -- of an answer that was cut off, one of the sinks failed
  cut_failed : (judgement : Judgement) → Answered words source out trace net judgement Cut → Rose out.before out.now ⊎ Rose trace.before trace.now
  cut_failed judgement answered = elim answered.7 [ inl first ↦ inl first.0.4 | inr second ↦ inr second.1.4 ]

  -- where nothing failed, the status is free
  pub outcome_free : (status : Status) → Outcome words source out trace net status → IsLive words → (Rose source.before source.now → ⊥) → (Rose out.before out.now → ⊥)
      → (Rose trace.before trace.now → ⊥) → (Rose net.before net.now → ⊥) → (Rose net.failed_before net.failed_now → ⊥) → IsFree status
  outcome_free Done outcome named read written traced called waited = tt
  outcome_free RunFailed outcome named read written traced called waited = tt
  outcome_free BadInput outcome named read written traced called waited = tt
  outcome_free OutOfMemory outcome named read written traced called waited = tt
  outcome_free Usage outcome named read written traced called waited = absurd (outcome.1 named)
  outcome_free ReadFault outcome named read written traced called waited = absurd (read outcome.2)
  outcome_free NetFault outcome named read written traced called waited = elim outcome.5 [ inl net ↦ absurd (called net) | inr wait ↦ absurd (waited wait) ]
  outcome_free Differs outcome named read written traced called waited = absurd outcome
  outcome_free WriteFault (inl good) named read written traced called waited = elim (cut_failed Good good) [ inl first ↦ absurd (written first) | inr second ↦ absurd (traced second) ]
  outcome_free WriteFault (inr failed) named read written traced called waited = elim (cut_failed Failed failed) [ inl first ↦ absurd (written first) | inr second ↦ absurd (traced second) ]
