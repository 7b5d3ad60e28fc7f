-- A slave that was given up because it did not leave a state has steps that last so long.
use Rattle.std.proofs.Common.{◌≡◌, ℕ, zero, suc, ◌+◌, ◌≤◌, Bool, true, false, if◌then◌else◌, ◌⊎◌, inl, inr, Option, Some, None, List, [], ◌∷◌, ◌++◌, length, reverse, refl, sym, ap, ◌∙◌, subst, arith}
use Rattle.std.specs.Prelude.{◌&&◌, nat_le, slice_get, count_by, find}
use Rattle.std.proofs.lemmas.Bool.{and_parts, leb-true}
use Rattle.std.proofs.lemmas.Bool.Decides.{nat_tests}
use Rattle.std.proofs.lemmas.List.{append_assoc}
use Rattle.dcp_types.specs.declared.addresses.Address.{Address}
use Rattle.dcp_types.specs.declared.states.State.{State}
use Rattle.dcp_types.specs.declared.error_codes.ErrorCode.{ErrorCode}
use Rattle.dcp_types.specs.declared.limits.Limits.{Limits}
use Rattle.dcp_types.specs.Codes.{state_code}
use Rattle.dcp_ends.specs.declared.entries.LogEntry.{LogEntry}
use Rattle.dcp_ends.specs.declared.entries.LogEntry.TheVariants.{Got}
use Rattle.dcp_ends.specs.Logs.{same_address}
use Rattle.pdu_layout.specs.declared.messages.Stc.{Stc}
use Rattle.pdu_layout.specs.declared.messages.Inf.TheVariants as inf
use Rattle.slave_desc.specs.declared.descriptions.SlaveDesc.{SlaveDesc}
use Rattle.scenario.specs.declared.scenarios.Scenario.{Scenario}
use Rattle.scenario.specs.Sound.{IsScenario}
use Rattle.log_spec.specs.Messages.{Note}
use Rattle.log_spec.specs.Log.{Parties, IsSlaveOf, DecidedRequest}
use Rattle.log_spec.specs.Moves.{decided_exchanges}
use Rattle.lockstep_laws.specs.Cast.{ConversingSlaves}
use Rattle.lockstep_laws.specs.Runs.{Behaves}
use Rattle.lockstep_laws.proofs.Conversation.{earlier, drop_later}
use Rattle.lockstep_laws.proofs.Talk.{Behind}
use Rattle.master_spec.specs.declared.causes.Cause.TheVariants as causes
use Rattle.master_spec.specs.declared.tasks.Task.{Task}
use Rattle.master_spec.specs.declared.tasks.Task.TheVariants as tasks
use Rattle.master_spec.specs.declared.requests.Request.{Request}
use Rattle.master_spec.specs.declared.requests.Request.TheVariants.{Change, AskState}
use Rattle.master_spec.specs.declared.requests.Answer.{Answer}
use Rattle.master_spec.specs.declared.requests.Answer.TheVariants.{Ack, StateAck}
use Rattle.master_spec.specs.declared.setups.Slave.{Slave}
use Rattle.master_spec.specs.declared.setups.Setup.{Setup}
use Rattle.master_spec.specs.Setup.{setup_from, slave_of, jobs_of}
use Rattle.master_spec.specs.Tasks.{is_by_list, passing_of}
use Rattle.master_spec.specs.Jobs.{Job, asked_by}
use Rattle.master_spec.specs.Course.{mark_of_gram}
use Rattle.master_spec.specs.Conversation.{is_state}
use Rattle.master_spec.specs.News.{Answers, news_in}
use Rattle.master_spec.specs.Requests.{Asking, Decision, asks, is_turn_of, turns_before, is_state_request, is_acked_by, is_acked, acked}
use Rattle.master_spec.specs.Marks.{Mark, Begun, Asked, Again, Answered, Hinted, Brought, Turned, Ended, acks_change, is_asked, before, turns_since, latest, job_of, cause_of}
use Rattle.master_log_laws.specs.Asking.Legal.{Rests, AreLegal}
use Rattle.master_log_laws.specs.Index.Runs.{course_at, IsRun}
use Rattle.master_log_laws.specs.Index.Index.{Placed, marks_of, askings_told}
use Rattle.master_log_laws.specs.Index.Follows.{talk_with}
use Rattle.master_log_laws.specs.Index.Dates.{bit, AreDated}
use Rattle.master_log_laws.proofs.Index.Dates.{before_later, before_now, count_more}
use Rattle.master_log_laws.proofs.Phases.Now.{now, past, open_latest, split}
use Rattle.master_log_laws.proofs.Phases.Mains.{Asks, by_list, by_one, job_asks}
use Rattle.master_log_laws.proofs.Phases.Stage.{Main, Question}
use Rattle.master_log_laws.proofs.Phases.Stages.{open_stage, stage}
use Rattle.master_log_laws.specs.Failures.Because.{BecauseOf, StuckBy}
use Rattle.master_log_laws.proofs.Failures.Because.{because}
use Rattle.master_log_laws.proofs.Failures.Turns.{newest, turns_to}
use Rattle.master_log_laws.proofs.Failures.Lasts.{is_acked_change, find_questions}
use Rattle.master_log_laws.proofs.Failures.Places.{AskedAt, FoundAck, asked_at, acked_decision, acks_in_phases, change_place, found_ack}
use Rattle.lockstep_laws.specs.Models.Scenarios.{slave_numbered}
use Rattle.slave_spec.specs.Transport as transport
use Rattle.slave_spec.specs.Plants.{Plant}
use Rattle.slave_spec.specs.Slaves.{machine}
use Rattle.slave_spec.specs.Requests.{refusal, answer, answered_plant}
use Rattle.slave_spec.specs.declared.words.SlaveSetup.{SlaveSetup}
use Rattle.slave_spec.specs.declared.words.SlaveRequest as req
use Rattle.slave_spec.specs.declared.words.Asked as ask
use Rattle.slave_spec.specs.declared.words.Asked.TheVariants as asking
use Rattle.slave_laws.specs.Talk.Desks.{answer_note}
use Rattle.slave_laws.specs.Data.Whole.{slaves_asked}
use Rattle.run_laws.specs.Laws.{parties, slave_setup_of, IsRunInRounds}
use Rattle.run_laws.proofs.Headline.Behaving.{are_slaves}
use Rattle.completeness_laws.specs.Undelivered.{StuckWereBusy}
use Rattle.completeness_laws.proofs.Delivery.Coming.{Ending}
use Rattle.completeness_laws.proofs.Delivery.Ended.{run_front, EndFacts, end_facts}
use Rattle.completeness_laws.proofs.Delivery.Fronts.{silent_front}
use Rattle.completeness_laws.proofs.Delivery.Turning.{turns_of, turns_append, Near, turns_near}
use Rattle.completeness_laws.proofs.Delivery.Still.{is_passed_through}
use Rattle.completeness_laws.proofs.Delivery.Since.{changes, served, plant, since, still_at, changes_grow, since_low}
use Rattle.completeness_laws.proofs.Delivery.Askings.{asked_changes, asked_append, questions_none, FoundChange, found_change, told_changes, DecidedAt, AreAt, are_at, at_one}
use Rattle.completeness_laws.proofs.Delivery.Answering.{IsAnswer, answer_made, told, serves_at, DecidesHere, decides}
use Rattle.completeness_laws.proofs.Delivery.Unanswered.{behaves_then, run_then}

clash : true ≡ false → ⊥
clash z = cc

-- ---- the turns before a place
bit_is : (b : Bool) → bit b ≡ (if b then 1 else 0)
bit_is true = refl
bit_is false = refl

counted : (m : Address) (log : List LogEntry) → count_by (is_turn_of m) log ≡ turns_of m log
counted m [] = refl
counted m (e ∷ log) =
    let a = counted m log in
    let b = count_more (is_turn_of m) e log (is_turn_of m e) refl in
    let c = bit_is (is_turn_of m e) in
    omega (arith, a, b, c)

front_length : (part base : List LogEntry) → length base ≤ length (part ++ base)
front_length [] base = omega arith
front_length (e ∷ part) base = let a = front_length part base in omega (arith, a)

turns_at : (m : Address) (part base : List LogEntry) → turns_before m (part ++ base) (length base) ≡ turns_of m base
turns_at m [] base = before_now m base ∙ counted m base
turns_at m (e ∷ part) base = before_later m e (part ++ base) (length base) (front_length part base) ∙ turns_at m part base

-- ---- the state that was told
state_told : (r : req.SlaveRequest) (next : ℕ) (a : transport.SlaveAnswer) (number s t : ℕ) → news_in (Some (transport.answer_message r next a)) ≡ Answers number s (StateAck t) → (st : State) × ((a ≡ transport.StateAck st) × (state_code st ≡ t))
state_told r next transport.Ack number s t h = absurd cc
state_told r next (transport.Nack code) number s t h = absurd cc
state_told r next (transport.StateAck st) number s t h = (st, (refl, cc))
state_told r next (transport.ErrorAck code) number s t h = absurd cc
state_told r next (transport.LogAck entries) number s t h = absurd cc

state_answered : (X : SlaveSetup) (p : Plant) (asked : ask.Asked) (o : Option ErrorCode) (st : State) → (answered_plant X p asked o).answer ≡ transport.StateAck st → p.state ≡ st
unfolding answer
state_answered X p asked (Some code) st h = absurd cc
state_answered X p (asking.Change named body) None st h = absurd cc
state_answered X p (asking.Setting body) None st h = absurd cc
state_answered X p (asking.Question inf.State) None st h = cc
state_answered X p (asking.Question inf.Error) None st h = absurd cc
state_answered X p (asking.Question (inf.Log category most)) None st h = absurd cc

passing_state : (task : Task) (st : State) → is_state (passing_of task) (state_code st) ≡ true → is_passed_through st ≡ true
passing_state (tasks.Register uuid) st h = absurd cc
passing_state tasks.Setup st h = absurd cc
passing_state tasks.Prepare st h = grind (arith, nat_tests)
passing_state tasks.Configure st h = grind (arith, nat_tests)
passing_state tasks.Initialize st h = grind (arith, nat_tests)
passing_state (tasks.FirstOutputs row) st h = grind (arith, nat_tests)
passing_state tasks.Run st h = grind (arith, nat_tests)
passing_state (tasks.Step k) st h = grind (arith, nat_tests)
passing_state (tasks.Outputs k row) st h = grind (arith, nat_tests)
passing_state tasks.Stop st h = grind (arith, nat_tests)
passing_state tasks.Reset st h = absurd cc
passing_state tasks.Adjust st h = absurd cc
passing_state tasks.Deregister st h = absurd cc

-- ---- the job has one request, which is no question
passing_one : (task : Task) (t : ℕ) → is_state (passing_of task) t ≡ true → is_by_list task ≡ false
passing_one (tasks.Register uuid) t e = refl
passing_one tasks.Setup t e = absurd cc
passing_one tasks.Prepare t e = refl
passing_one tasks.Configure t e = refl
passing_one tasks.Initialize t e = refl
passing_one (tasks.FirstOutputs row) t e = refl
passing_one tasks.Run t e = refl
passing_one (tasks.Step k) t e = refl
passing_one (tasks.Outputs k row) t e = refl
passing_one tasks.Stop t e = refl
passing_one tasks.Reset t e = refl
passing_one tasks.Adjust t e = absurd cc
passing_one tasks.Deregister t e = refl

abbrev OneRequest : Job → Type 0
OneRequest job = (s : State) × ((body : Stc) × (asked_by job ≡ Change s body ∷ []))

has_one : (job : Job) → is_by_list job.task ≡ false → OneRequest job
has_one job e = by (job_asks job)
  where
    by : Asks job → OneRequest job
    by (by_list f g) = absurd (clash (sym f ∙ e))
    by (by_one s b f g) = (s, (b, g))

no_question : (s : State) (body : Stc) (i : ℕ) → slice_get (Change s body ∷ []) i ≡ Some AskState → ⊥
no_question s body zero h = cc
no_question s body (suc i) h = cc

-- a datagram that is no answer gives nobody up so
not_answer : (limits : Limits) (job : Job) (m : Mark) (ms : List Mark) (q t : ℕ) → BecauseOf limits job m ms (m ∷ ms) (causes.Stuck q t) → (r : Request) × ((a : Answer) × ((m ≡ Answered r a) × StuckBy limits job r a ms (Answered r a ∷ ms) q t))
not_answer limits job (Answered r a) ms q t b = (r, (a, (refl, b)))
not_answer limits job Hinted ms q t b = absurd b
not_answer limits job (Brought i p) ms q t b = absurd b
not_answer limits job (Begun j) ms q t b = absurd b
not_answer limits job (Asked r) ms q t b = absurd b
not_answer limits job Again ms q t b = absurd b
not_answer limits job (Turned z) ms q t b = absurd b
not_answer limits job (Ended c) ms q t b = absurd b

module _ (sc : Scenario) (other : SlaveDesc) (ok : IsScenario sc) (log : List LogEntry) (r : IsRunInRounds sc other log) (s : ℕ) (it : IsSlaveOf (parties sc other) s) (later sofar : List LogEntry) (e : LogEntry) (split' : reverse log ≡ later ++ e ∷ sofar)
    (q t : ℕ) (f : EndFacts sc other ok s it (causes.Stuck q t) e sofar) (at from : Address) (bytes : List ℕ) (is : e ≡ Got at from bytes) (own : same_address at (setup_from sc).address ≡ true) (job : Job) (job_is : job_of (marks_of f.talk.follows.xs) ≡ Some job)
    (made : IsAnswer (slave_of sc s (slave_numbered sc other s)) (marks_of f.talk.follows.xs) from bytes AskState (StateAck t)) (passing : is_state (passing_of job.task) t ≡ true)
    (late : nat_le (setup_from sc).limits.state_limit (turns_since acks_change (before is_asked (marks_of f.talk.follows.xs))) ≡ true) where
  abbrev W : Parties
  W = parties sc other

  abbrev X : ConversingSlaves
  X = slaves_asked sc other

  abbrev S : Setup
  S = setup_from sc

  abbrev L : Slave
  L = slave_of sc s (slave_numbered sc other s)

  abbrev js : List Job
  js = jobs_of S L

  abbrev xs : List Placed
  xs = f.talk.follows.xs

  abbrev busy : ℕ
  busy = (slave_numbered sc other s).busy

  legal : AreLegal S.limits js (marks_of xs)
  legal = let P : List Mark → Type 0 = λ z. AreLegal S.limits js z in subst P f.marks_are f.talk.legal

  rests : Rests S.limits (marks_of xs)
  rests = let P : List Mark → Type 0 = λ z. Rests S.limits z in subst P f.marks_are f.talk.rests

  none : cause_of (marks_of xs) ≡ None
  none = ap cause_of (sym f.marks_are) ∙ f.going

  dates : AreDated S L sofar xs
  dates = (f.talk.follows.dated).dates

  behaves : Behaves W X (e ∷ sofar)
  behaves = behaves_then sc other ok log r s it later sofar e split'

  -- ---- what the marks tell
  one : OneRequest job
  one = has_one job (passing_one job.task t passing)

  k : Question job AskState None (now xs)
  k = by (open_stage job (marks_of xs) (now xs) AskState (open_latest (latest (marks_of xs)) AskState made.opens) (stage S.limits js xs legal rests none job job_is))
    where
      by : Main job AskState None (now xs) ⊎ Question job AskState None (now xs) → Question job AskState None (now xs)
      by (inl m) = absurd (no_question one.0 (one.1).0 (acked m.ms) (ap (λ (l : List Request). slice_get l (acked m.ms)) (sym (one.1).1) ∙ m.slot))
      by (inr k) = k

  some : 1 ≤ acked k.ms
  some = let w = k.whole in let z : length (asked_by job) ≡ 1 = ap length (one.1).1 in omega (arith, w, z)

  abbrev old : List Asking
  old = askings_told (past xs)

  found : FoundAck k.ms old
  found = found_ack job one.0 (one.1).0 k.ms old (one.1).1 k.mains some

  place : (i : ℕ) × ((found.request).decision ≡ Some (record { place = i; answer = Ack }))
  place = acked_decision found.request found.acked_is

  asked : AskedAt S L sofar S.limits js xs k.newest (k.qs ++ k.ms)
  asked = asked_at S L sofar S.limits js xs k.newest (k.qs ++ k.ms) legal dates k.is

  at_place : newest acks_change asked.zs ≡ Some place.0
  at_place = change_place S.limits js asked.zs found.request place.0 asked.legal (ap (find is_acked_change) asked.now_is ∙ find_questions k.qs k.ms k.questions ∙ found.found) place.1

  between : turns_before S.address sofar place.0 + S.limits.state_limit ≤ turns_before S.address sofar k.newest.first
  between =
      let a = turns_to S L sofar S.limits js acks_change asked.zs place.0 (acks_in_phases S.limits js) asked.legal asked.dates at_place in
      let b = leb-true S.limits.state_limit (turns_since acks_change (before is_asked (marks_of xs))) late in
      let c = ap (turns_since acks_change) asked.before_is in
      let d = asked.turns in
      omega (arith, a, b, c, d)

  -- ---- the answer, and where the slave gave it
  here : DecidesHere sc other ok s it sofar e AskState (StateAck t)
  here = decides sc other ok s it sofar e behaves f.run f.talk at from bytes is own AskState (StateAck t) made

  told_is : asks S.address L sofar ≡ (k.newest ∷ (k.qs ++ k.ms)) ++ old
  told_is = (f.talk.follows.tracks).is ∙ split S.limits js xs legal ∙ ap (λ (l : List Asking). l ++ old) k.is

  newest_same : here.newest ≡ k.newest
  newest_same = let z : here.newest ∷ here.bs ≡ k.newest ∷ ((k.qs ++ k.ms) ++ old) = sym here.asks_is ∙ told_is in cc

  rest_same : here.bs ≡ (k.qs ++ k.ms) ++ old
  rest_same = let z : here.newest ∷ here.bs ≡ k.newest ∷ ((k.qs ++ k.ms) ++ old) = sym here.asks_is ∙ told_is in cc

  -- right before the question was first sent
  abbrev base : List LogEntry
  base = here.first.base

  -- right before the slave took it
  abbrev taken : List LogEntry
  taken = here.taken.before ++ base

  abbrev whole : List LogEntry
  whole = (e ∷ (here.first.part ++ here.first.entry ∷ [])) ++ base

  whole_is : whole ≡ e ∷ sofar
  whole_is = ap (λ (v : List LogEntry). e ∷ v) (append_assoc here.first.part (here.first.entry ∷ []) base ∙ sym here.first.is)

  taken_is : e ∷ sofar ≡ here.taken.after ++ here.taken.entry ∷ taken
  taken_is = sym whole_is ∙ ap (λ (v : List LogEntry). v ++ base) here.taken.is ∙ append_assoc here.taken.after (here.taken.entry ∷ here.taken.before) base

  silent_base : (course_at S base).report ≡ None
  silent_base = let P : List LogEntry → Type 0 = λ z. (course_at S z).report ≡ None in silent_front S (here.first.entry ∷ []) base (silent_front S here.first.part (here.first.entry ∷ base) (subst P here.first.is f.silent))

  silent_taken : (course_at S taken).report ≡ None
  silent_taken = by here.taken.after taken_is
    where
      by : (after : List LogEntry) → e ∷ sofar ≡ after ++ here.taken.entry ∷ taken → (course_at S taken).report ≡ None
      by [] z = let w : sofar ≡ taken = cc in let P : List LogEntry → Type 0 = λ y. (course_at S y).report ≡ None in subst P w f.silent
      by (c ∷ after) z =
          let w : sofar ≡ after ++ here.taken.entry ∷ taken = cc in
          let P : List LogEntry → Type 0 = λ y. (course_at S y).report ≡ None in
          silent_front S (here.taken.entry ∷ []) taken (silent_front S after (here.taken.entry ∷ taken) (subst P w f.silent))

  abbrev M : transport.Machine Plant
  M = machine (slave_setup_of sc other s)

  state_is : is_passed_through (plant sc other s taken).state ≡ true
  state_is =
      let g = here.taken.takes in
      let a : transport.SlaveAnswer = (M.answers g.request.asked (plant sc other s taken)).answer in
      let z : here.x.answer ≡ answer_note g.request g.next_number (M.answers g.request.asked (plant sc other s taken)).answer = ap (λ (y : DecidedRequest). y.answer) (head_same (sym here.taken.newest ∙ g.served)) in
      let P : Note → Type 0 = λ n. news_in (Some n.message) ≡ Answers n.number s (StateAck t) in
      let told = state_told g.request g.next_number (M.answers g.request.asked (plant sc other s taken)).answer g.request.number s t (subst P z here.answer_is) in
      let st = state_answered (slave_setup_of sc other s) (plant sc other s taken) g.request.asked (refusal (slave_setup_of sc other s) (plant sc other s taken) g.request.asked) told.0 (told.1).0 in
      ap is_passed_through st ∙ passing_state job.task told.0 (ap (is_state (passing_of job.task)) (told.1).1 ∙ passing)
    where
      head_same : {y z : DecidedRequest} {ys zs : List DecidedRequest} → y ∷ ys ≡ z ∷ zs → y ≡ z
      head_same q = cc

  quiet : since sc other s taken ≤ busy
  quiet = let a = still_at sc other s taken state_is in omega (arith, a)

  -- ---- where the acknowledgement came
  found_in : find is_acked_change k.ms ≡ Some found.request
  found_in = found.found

  c : FoundChange k.ms found.request
  c = found_change k.ms found.request found.found

  abbrev tail : List Asking
  tail = c.tail ++ old

  rest_is : here.bs ≡ (k.qs ++ c.front) ++ found.request ∷ tail
  rest_is =
      rest_same ∙ ap (λ (l : List Asking). (k.qs ++ l) ++ old) c.is ∙ ap (λ (l : List Asking). l ++ old) (sym (append_assoc k.qs c.front (found.request ∷ c.tail)))
      ∙ append_assoc (k.qs ++ c.front) (found.request ∷ c.tail) old

  decided : DecidedAt S.address L base (record { place = place.0; answer = Ack }) (found.request).code (found.request).number (found.request).first tail
  decided =
      let P : List Asking → Type 0 = λ os. AreAt S.address L base os in
      (at_one S.address L base (k.qs ++ c.front) found.request tail (subst P (here.first.before ∙ rest_is) (are_at S.address L base))).decided (record { place = place.0; answer = Ack }) place.1

  abbrev acking : List LogEntry
  acking = decided.entry ∷ decided.base

  -- from there to the taking
  abbrev span : List LogEntry
  span = here.taken.before ++ decided.part

  span_is : span ++ acking ≡ taken
  span_is = append_assoc here.taken.before decided.part acking ∙ ap (λ (l : List LogEntry). here.taken.before ++ l) (sym decided.is)

  run_base : IsRun S base
  run_base = let P : List LogEntry → Type 0 = λ w. IsRun S w in (run_front S here.first.part (here.first.entry ∷ base) (subst P here.first.is f.run.1)).1

  behaves_base : Behaves W X base
  behaves_base =
      let P : List LogEntry → Type 0 = λ w. Behaves W X w in
      earlier W X (are_slaves sc other ok) here.first.entry base (drop_later W X (are_slaves sc other ok) here.first.part (here.first.entry ∷ base) (subst P here.first.is (earlier W X (are_slaves sc other ok) e sofar behaves)))

  run_acking : IsRun S acking
  run_acking = let P : List LogEntry → Type 0 = λ w. IsRun S w in run_front S decided.part acking (subst P decided.is run_base)

  behaves_acking : Behaves W X acking
  behaves_acking = let P : List LogEntry → Type 0 = λ w. Behaves W X w in drop_later W X (are_slaves sc other ok) decided.part acking (subst P decided.is behaves_base)

  silent_acking : (course_at S acking).report ≡ None
  silent_acking = let P : List LogEntry → Type 0 = λ z. (course_at S z).report ≡ None in silent_front S decided.part acking (subst P decided.is silent_base)

  -- no change of state was taken since
  one_acked : asked_changes (decided.who ∷ tail) ≡ 1 + asked_changes tail
  one_acked =
      let parts = and_parts (is_state_request found.request) (is_acked found.request) c.one in
      let a : is_state_request decided.who ≡ true = ap (λ (n : ℕ). nat_le 1 n && nat_le n 10) decided.same ∙ parts.0 in
      let b : is_acked decided.who ≡ true = ap acked_by decided.decided in
      ap (λ (z : Bool). (if z then 1 else 0) + asked_changes tail) (both (is_state_request decided.who) (is_acked decided.who) a b)
    where
      acked_by : Option Decision → Bool
      acked_by o = is_acked_by o

      both : (a b : Bool) → a ≡ true → b ≡ true → (a && b) ≡ true
      both a b x y = grind arith

  least : 1 + asked_changes tail ≤ changes (served sc other s acking)
  least =
      let P : List Asking → Type 0 = λ os. changes (decided_exchanges W s acking) ≡ asked_changes os in
      let a = subst P decided.now (told_changes s (asks S.address L acking) (decided_exchanges W s acking) (told sc other ok s it acking run_acking)) in
      let b = more (serves_at sc other ok s it acking behaves_acking run_acking).behind in
      let d = one_acked in
      omega (arith, a, b, d)
    where
      more : Behind (decided_exchanges W s acking) (served sc other s acking) → changes (decided_exchanges W s acking) ≤ changes (served sc other s acking)
      more (inl z) = let y = ap changes z in omega (arith, y)
      more (inr (w, z)) = let y = ap changes z in omega (arith, y)

  most : changes (served sc other s taken) ≡ 1 + asked_changes tail
  most =
      let a = ap changes here.taken.rest ∙ told_changes s here.bs here.es here.rest ∙ ap asked_changes rest_is ∙ asked_append (k.qs ++ c.front) (found.request ∷ tail) in
      let b = asked_append k.qs c.front in
      let d = questions_none k.qs k.questions in
      let g = c.none in
      let h : asked_changes (found.request ∷ tail) ≡ 1 + asked_changes tail = ap (λ (z : Bool). (if z then 1 else 0) + asked_changes tail) c.one in
      omega (arith, a, b, d, g, h)

  turned : turns_of (W.slave s) span ≤ busy
  turned =
      let a = changes_grow sc other s span acking in
      let z = ap (λ (l : List LogEntry). changes (served sc other s l)) span_is in
      let b = since_low sc other s span acking (omega (arith, a, z, most, least)) in
      let y = ap (since sc other s) span_is in
      let d = quiet in
      omega (arith, b, y, d)

  -- ---- the turns
  near_taken : Near W.master (W.slave s) taken
  near_taken =
      turns_near sc other ok log r s it (later ++ (here.taken.after ++ here.taken.entry ∷ [])) taken
      (split' ∙ ap (λ (l : List LogEntry). later ++ l) (taken_is ∙ sym (append_assoc here.taken.after (here.taken.entry ∷ []) taken)) ∙ sym (append_assoc later (here.taken.after ++ here.taken.entry ∷ []) taken)) silent_taken

  near_acking : Near W.master (W.slave s) acking
  near_acking =
      turns_near sc other ok log r s it ((later ++ (here.taken.after ++ here.taken.entry ∷ [])) ++ span) acking
      (split' ∙ ap (λ (l : List LogEntry). later ++ l) (taken_is ∙ sym (append_assoc here.taken.after (here.taken.entry ∷ []) taken)) ∙ sym (append_assoc later (here.taken.after ++ here.taken.entry ∷ []) taken)
      ∙ ap (λ (l : List LogEntry). (later ++ (here.taken.after ++ here.taken.entry ∷ [])) ++ l) (sym span_is) ∙ sym (append_assoc (later ++ (here.taken.after ++ here.taken.entry ∷ [])) span acking)) silent_acking

  asked_turns : turns_before S.address sofar k.newest.first ≡ turns_of W.master base
  asked_turns =
      let z : length base ≡ k.newest.first = here.first.place ∙ ap (λ (a : Asking). a.first) newest_same in
      let w : sofar ≡ (here.first.part ++ here.first.entry ∷ []) ++ base = here.first.is ∙ sym (append_assoc here.first.part (here.first.entry ∷ []) base) in
      ap (turns_before S.address sofar) (sym z) ∙ ap (λ (l : List LogEntry). turns_before S.address l (length base)) w ∙ turns_at S.address (here.first.part ++ here.first.entry ∷ []) base

  acked_turns : turns_before S.address sofar place.0 ≡ turns_of W.master decided.base
  acked_turns =
      let w : sofar ≡ ((here.first.part ++ here.first.entry ∷ []) ++ (decided.part ++ decided.entry ∷ [])) ++ decided.base
      = here.first.is ∙ sym (append_assoc here.first.part (here.first.entry ∷ []) base) ∙ ap (λ (l : List LogEntry). (here.first.part ++ here.first.entry ∷ []) ++ l) (decided.is ∙ sym (append_assoc decided.part (decided.entry ∷ []) decided.base))
      ∙ sym (append_assoc (here.first.part ++ here.first.entry ∷ []) (decided.part ++ decided.entry ∷ []) decided.base) in
      ap (turns_before S.address sofar) (sym decided.place) ∙ ap (λ (l : List LogEntry). turns_before S.address l (length decided.base)) w ∙ turns_at S.address ((here.first.part ++ here.first.entry ∷ []) ++ (decided.part ++ decided.entry ∷ [])) decided.base

  pub by_answer : S.limits.state_limit ≤ busy + 2
  by_answer =
      let a = between in
      let b = asked_turns in
      let d = acked_turns in
      let g = turns_append W.master here.taken.before base in
      let high = near_taken.high in
      let h = ap (turns_of (W.slave s)) (sym span_is) ∙ turns_append (W.slave s) span acking in
      let i = turned in
      let low = near_acking.low in
      let j = few decided.entry decided.base in
      omega (arith, a, b, d, g, high, h, i, low, j)
    where
      few : (x : LogEntry) (l : List LogEntry) → turns_of W.master (x ∷ l) ≤ 1 + turns_of W.master l
      few x l = by (is_turn_of W.master x)
        where
          by : (z : Bool) → (if z then 1 else 0) + turns_of W.master l ≤ 1 + turns_of W.master l
          by true = omega arith
          by false = omega arith

pub stuck : StuckWereBusy
stuck sc other ok log r s it q t later sofar e split' ends = by f.by
  where
    f : EndFacts sc other ok s it (causes.Stuck q t) e sofar
    f = end_facts sc other ok s it (causes.Stuck q t) e sofar (run_then sc other ok log r s it later sofar e split') ends

    by : Ending (setup_from sc) (slave_of sc s (slave_numbered sc other s)) f.talk.follows.marks (causes.Stuck q t) e → sc.limits.state_limit ≤ (slave_numbered sc other s).busy + 2
    by (inl g) = let b = because (setup_from sc).limits (Turned g.settled) f.talk.follows.marks (causes.Stuck q t) g.gives in absurd ((b.1).1)
    by (inr g) =
        let b = because (setup_from sc).limits g.mark f.talk.follows.marks (causes.Stuck q t) g.gives in
        let w = not_answer (setup_from sc).limits b.0 g.mark f.talk.follows.marks q t (b.1).1 in
        let k = ((w.1).1).1 in
        let m : g.mark ≡ Answered AskState (StateAck t) = ((w.1).1).0 ∙ ap (λ (x : Request). Answered x (w.1).0) k.asked ∙ ap (λ (x : Answer). Answered AskState x) k.told in
        let P : List Mark → Type 0 = λ z. mark_of_gram (talk_with (slave_of sc s (slave_numbered sc other s)) z) g.from g.bytes ≡ Some (Answered AskState (StateAck t)) in
        let Q : List Mark → Type 0 = λ z. job_of z ≡ Some b.0 in
        let R : List Mark → Type 0 = λ z. nat_le (setup_from sc).limits.state_limit (turns_since acks_change (before is_asked z)) ≡ true in
        let here : job_of f.talk.follows.marks ≡ Some b.0 = sym (ap (λ (x : Mark). job_of (x ∷ f.talk.follows.marks)) m) ∙ (b.1).0 in
        by_answer sc other ok log r s it later sofar e split' q t f g.at g.from g.bytes g.is g.own b.0 (subst Q f.marks_are here)
        (answer_made (slave_of sc s (slave_numbered sc other s)) (marks_of f.talk.follows.xs) g.from g.bytes AskState (StateAck t) (subst P f.marks_are (g.makes ∙ ap (λ (x : Mark). Some x) m))) k.passing (subst R f.marks_are k.late)
