-- The master's report: it comes at a turn at which the master sends nothing, and stays.
use Rattle.std.proofs.Common.{◌≡◌, ℕ, ◌==◌, ◌&&◌, not, Bool, true, false, if◌then◌else◌, Option, Some, None, List, [], ◌∷◌, ◌++◌, map, reverse, refl, sym, ap, ◌∙◌}
use Rattle.std.specs.Prelude.{is_some}
use Rattle.std.specs.List.{flat_map, list_all}
use Rattle.std.proofs.lemmas.List.{reverse-append}
use Rattle.std.proofs.lemmas.List.Concat.{flat_map-cons}
use Rattle.dcp_types.specs.declared.addresses.Address.{Address}
use Rattle.dcp_types.specs.declared.limits.Limits.{Limits}
use Rattle.dcp_ends.specs.Events.{Event, Gram, Tick, Rules}
use Rattle.scenario.specs.declared.scenarios.Scenario.{Scenario}
use Rattle.master_spec.specs.declared.causes.Cause.{Cause}
use Rattle.master_spec.specs.declared.causes.Verdict.{Verdict}
use Rattle.master_spec.specs.declared.causes.Verdict.TheVariants as verdicts
use Rattle.master_spec.specs.declared.reactions.Reaction.{Reaction}
use Rattle.master_spec.specs.declared.reactions.Reaction.TheVariants.{Wait, Ask, Repeat, GiveUp}
use Rattle.master_spec.specs.declared.reports.Report.{Report}
use Rattle.master_spec.specs.declared.reports.Report.TheVariants as reports
use Rattle.master_spec.specs.declared.requests.Request.{Request}
use Rattle.master_spec.specs.declared.setups.Setup.{Setup}
use Rattle.master_spec.specs.Jobs.{Job}
use Rattle.master_spec.specs.Marks.{Mark, Turned, Asked, Again, cause_of, conversation_ended, is_passed, job_of, newest_number, open_request, verdict_by, verdict_of}
use Rattle.master_spec.specs.Conversation.{again_bytes, done, messages_of, on_mark, reaction, reaction_in}
use Rattle.master_spec.specs.Course.{Course, CourseTalk, after_gram, course_after_turn, course, decided, decided_if, failed, is_passed_as, is_quiet, is_settled, is_settled_as, marked, phases, send_to, sends_after, step, still, course_turned, with_next, with_report, with_turns}
use Rattle.master_spec.specs.Rules.{master_rules}
use Rattle.master_spec.specs.Setup.{setup_from}

-- ---- one conversation

is_ended : Verdict → Bool
is_ended verdicts.Going = false
is_ended verdicts.Passed = false
is_ended (verdicts.Ended cause) = true

-- one that is quiet with a request open has ended
rests : (v : Verdict) (request : Request) → (is_settled_as v && not (is_passed_as v && is_some (Some request))) ≡ true → is_ended v ≡ true
unfolding is_ended
rests verdicts.Going request quiet = cc
rests verdicts.Passed request quiet = cc
rests (verdicts.Ended cause) request quiet = refl

ended_by : (cause : Option Cause) (job : Option Job) (marks : List Mark) → is_ended (verdict_by cause job marks) ≡ true → is_some cause ≡ true
unfolding is_ended
ended_by None None marks ended = cc
ended_by None (Some job) marks ended = by (is_passed job marks) ended
  where
    by : (b : Bool) → is_ended (if b then verdicts.Passed else verdicts.Going) ≡ true → false ≡ true
    by true ended = cc
    by false ended = cc
ended_by (Some cause) job marks ended = refl

open_ended : (marks : List Mark) (request : Request) → open_request marks ≡ Some request → (is_settled_as (verdict_of marks) && not (is_passed_as (verdict_of marks) && is_some (open_request marks))) ≡ true → conversation_ended marks ≡ true
open_ended marks request asking quiet = ended_by (cause_of marks) (job_of marks) marks (rests (verdict_of marks) request (rw asking at quiet))

-- what a turn makes it send leaves a request open
module _ (limits : Limits) (id : ℕ) (settled : Bool) (marks : List Mark) where
  abbrev quiet_after : List Mark → Bool
  quiet_after after = is_settled_as (verdict_of after) && not (is_passed_as (verdict_of after) && is_some (open_request after))

  again : (o : Option Request) → open_request marks ≡ o → conversation_ended marks ≡ false → quiet_after (Again ∷ Turned settled ∷ marks) ≡ true → again_bytes (newest_number (Turned settled ∷ marks)) id o ≡ []
  again None none going quiet = refl
  again (Some request) asking going quiet = let ended : conversation_ended marks ≡ true = open_ended (Again ∷ Turned settled ∷ marks) request asking quiet in cc

  by_reaction : (what : Reaction) → conversation_ended marks ≡ false → quiet_after (done what (Turned settled ∷ marks)) ≡ true → messages_of id (Turned settled ∷ marks) what ≡ []
  by_reaction Wait going quiet = refl
  by_reaction (Ask request) going quiet = let ended : conversation_ended marks ≡ true = open_ended (Asked request ∷ Turned settled ∷ marks) request refl quiet in cc
  by_reaction Repeat going quiet = again (open_request marks) refl going quiet
  by_reaction (GiveUp cause) going quiet = refl

  in_ended : (job : Option Job) → conversation_ended marks ≡ true → reaction_in limits job (Turned settled) marks (Turned settled ∷ marks) ≡ Wait
  in_ended None ended = refl
  in_ended (Some job) ended = ap (λ (b : Bool). if b then Wait else on_mark limits job (Turned settled) marks (Turned settled ∷ marks)) ended

  reacts_ended : conversation_ended marks ≡ true → reaction limits (Turned settled) marks ≡ Wait
  unfolding reaction
  reacts_ended ended = in_ended (job_of marks) ended

  says_nothing : quiet_after (done (reaction limits (Turned settled) marks) (Turned settled ∷ marks)) ≡ true → messages_of id (Turned settled ∷ marks) (reaction limits (Turned settled) marks) ≡ []
  says_nothing quiet = by (conversation_ended marks) refl
    where
      by : (b : Bool) → conversation_ended marks ≡ b → messages_of id (Turned settled ∷ marks) (reaction limits (Turned settled) marks) ≡ []
      by true ended = ap (messages_of id (Turned settled ∷ marks)) (reacts_ended ended)
      by false going = by_reaction (reaction limits (Turned settled) marks) going quiet

-- ---- all of them

both : (a b : Bool) → (a && b) ≡ true → (a ≡ true) × (b ≡ true)
both true true all = (refl, refl)
both true false all = cc
both false b all = cc

all_silent : (limits : Limits) (settled : Bool) (talks : List CourseTalk) → list_all is_quiet (map (λ talk. marked limits talk (Some (Turned settled))) talks) ≡ true
    → flat_map (λ talk. sends_after limits talk (Some (Turned settled))) talks ≡ []
all_silent limits settled [] quiet = refl
all_silent limits settled (talk ∷ talks) quiet =
    let parts = both (is_quiet (marked limits talk (Some (Turned settled)))) (list_all is_quiet (map (λ talk. marked limits talk (Some (Turned settled))) talks)) quiet in
    flat_map-cons (λ (t : CourseTalk). sends_after limits t (Some (Turned settled))) talk talks
    ∙ ap (λ (messages : List (List ℕ)). map (send_to talk.slave.address) messages ++ flat_map (λ (t : CourseTalk). sends_after limits t (Some (Turned settled))) talks) (says_nothing limits talk.slave.id settled talk.marks parts.0)
    ∙ all_silent limits settled talks parts.1

-- ---- the course

none_of : (o : Option Report) → is_some o ≡ false → o ≡ None
none_of None e = refl
none_of (Some report) e = cc

module _ (setup : Setup) (c : Course) (going : c.report ≡ None) where
  with_turns_silent : (settled : Bool) (o : Option Report) → list_all is_quiet (with_turns setup settled c).talks ≡ true → is_some (decided setup (with_turns setup settled c) o).report ≡ true
      → (decided setup (with_turns setup settled c) o).sent ≡ []
  with_turns_silent settled (Some report) quiet reported = all_silent setup.limits settled c.talks quiet
  with_turns_silent settled None quiet reported = by ((with_turns setup settled c).phase == phases setup) reported
    where
      by : (b : Bool) → is_some (if b then with_report (with_turns setup settled c) (reports.Finished setup.steps) else with_next setup (with_turns setup settled c)).report ≡ true
          → (if b then with_report (with_turns setup settled c) (reports.Finished setup.steps) else with_next setup (with_turns setup settled c)).sent ≡ []
      by true reported = all_silent setup.limits settled c.talks quiet
      by false reported = cc

  turned_silent : (settled : Bool) → is_some (course_turned setup (with_turns setup settled c)).report ≡ true → (course_turned setup (with_turns setup settled c)).sent ≡ []
  turned_silent settled reported = by (list_all is_quiet (with_turns setup settled c).talks) refl reported
    where
      by : (b : Bool) → list_all is_quiet (with_turns setup settled c).talks ≡ b → is_some (decided_if setup b (with_turns setup settled c)).report ≡ true → (decided_if setup b (with_turns setup settled c)).sent ≡ []
      by false some reported = cc
      by true quiet reported = with_turns_silent settled (failed (with_turns setup settled c).phase (with_turns setup settled c).talks) quiet reported

  turn_silent : is_some (course_after_turn setup c).report ≡ true → (course_after_turn setup c).sent ≡ []
  turn_silent reported = by (c.phase == 0) reported
    where
      by : (b : Bool) → is_some (if b then with_next setup (still c) else course_turned setup (with_turns setup (list_all is_settled c.talks) c)).report ≡ true
          → (if b then with_next setup (still c) else course_turned setup (with_turns setup (list_all is_settled c.talks) c)).sent ≡ []
      by true reported = cc
      by false reported = turned_silent (list_all is_settled c.talks) reported

  tick_before : step setup Tick c ≡ course_after_turn setup c
  unfolding step
  tick_before = ap (λ (o : Option Report). if is_some o then still c else course_after_turn setup c) going

  pub report_silent : is_some (step setup Tick c).report ≡ true → (step setup Tick c).sent ≡ []
  report_silent reported = ap (λ (x : Course). x.sent) tick_before ∙ turn_silent (ap (λ (x : Course). is_some x.report) (sym tick_before) ∙ reported)

gram_keeps : (setup : Setup) (from : Address) (bytes : List ℕ) (c : Course) → (step setup (Gram from bytes) c).report ≡ c.report
unfolding step
gram_keeps setup from bytes c = by (is_some c.report)
  where
    by : (b : Bool) → (if b then still c else after_gram setup from bytes c).report ≡ c.report
    by true = refl
    by false = refl

stays : (setup : Setup) (event : Event) (c : Course) → is_some (step setup event c).report ≡ false → is_some c.report ≡ false
unfolding step
stays setup (Gram from bytes) c none = by (is_some c.report) none
  where
    by : (b : Bool) → is_some (if b then still c else after_gram setup from bytes c).report ≡ false → is_some c.report ≡ false
    by true none = none
    by false none = none
stays setup Tick c none = by (is_some c.report) refl none
  where
    by : (b : Bool) → is_some c.report ≡ b → is_some (if b then still c else course_after_turn setup c).report ≡ false → is_some c.report ≡ false
    by true e none = none
    by false e none = e

-- ---- as rules

-- a report stays, no datagram gives it, and the turn that gives it sends nothing
pub record Reports (r : Rules) : Type 0 where
  pub stays : (events : List Event) (event : Event) → r.over (events ++ event ∷ []) ≡ false → r.over events ≡ false
  pub at_turns : (events : List Event) (from : Address) (bytes : List ℕ) → r.over events ≡ false → r.over (events ++ Gram from bytes ∷ []) ≡ false
  pub silent : (events : List Event) → r.over events ≡ false → r.over (events ++ Tick ∷ []) ≡ true → r.sends events Tick ≡ []

newest : (events : List Event) (event : Event) → reverse (events ++ event ∷ []) ≡ event ∷ reverse events
newest events event = reverse-append events (event ∷ [])

pub master_reports : (sc : Scenario) → Reports (master_rules sc)
master_reports sc = record {
  stays = λ events event none. stays (setup_from sc) event (course (setup_from sc) (reverse events)) (ap (λ es. is_some (course (setup_from sc) es).report) (sym (newest events event)) ∙ none);
  at_turns = λ events from bytes none. ap (λ es. is_some (course (setup_from sc) es).report) (newest events (Gram from bytes)) ∙ ap is_some (gram_keeps (setup_from sc) from bytes (course (setup_from sc) (reverse events))) ∙ none;
  silent = λ events none reported.
      report_silent (setup_from sc) (course (setup_from sc) (reverse events)) (none_of (course (setup_from sc) (reverse events)).report none) (ap (λ es. is_some (course (setup_from sc) es).report) (sym (newest events Tick)) ∙ reported);
}
