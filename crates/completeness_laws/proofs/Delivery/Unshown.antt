-- Where the master gives up waiting for outputs, they were sent and have not come.
use Rattle.std.proofs.Common.{◌≡◌, ℕ, ◌+◌, ◌-◌, ◌*◌, ◌%◌, ◌<◌, ◌≤◌, Bool, true, false, if◌then◌else◌, ◌⊎◌, inl, inr, Option, Some, None, List, [], ◌∷◌, ◌++◌, length, refl, sym, ap, ◌∙◌, subst, arith, length-append}
use Rattle.std.specs.Prelude.{◌==◌, ◌&&◌, is_some, slice_get, reverse, count_by}
use Rattle.std.proofs.lemmas.Bool.{eq-eqb, leb-true}
use Rattle.std.proofs.lemmas.List.{append_assoc}
use Rattle.std.proofs.lemmas.List.Sums.{sum_by-cons, sum_by-append}
use Rattle.dcp_types.specs.declared.addresses.Address.{Address}
use Rattle.dcp_types.specs.declared.limits.Limits.{Limits}
use Rattle.dcp_ends.specs.declared.entries.LogEntry.{LogEntry}
use Rattle.dcp_ends.specs.declared.entries.LogEntry.TheVariants.{Sent, Got}
use Rattle.dcp_ends.specs.Logs.{same_address}
use Rattle.slave_desc.specs.declared.descriptions.SlaveDesc.{SlaveDesc}
use Rattle.scenario.specs.declared.scenarios.Scenario.{Scenario}
use Rattle.scenario.specs.Sound.{IsScenario}
use Rattle.master_spec.specs.declared.links.DataLink.{DataLink}
use Rattle.master_spec.specs.Links.{watch_link}
use Rattle.master_spec.specs.PlanSetup.{address_at}
use Rattle.plan_laws.proofs.Planned.{slave_there}
use Rattle.log_spec.specs.Messages.{Note}
use Rattle.log_spec.specs.Log.{Parties, IsSlaveOf, same, values_sent, requests_sent}
use Rattle.log_spec.specs.Moves.{decided_exchanges}
use Rattle.log_spec.proofs.Moves.{same_is}
use Rattle.lockstep_laws.specs.Steps.{RowEvent, BenchProgress, shown_after, view}
use Rattle.lockstep_laws.specs.Cast.{ConversingSlaves}
use Rattle.lockstep_laws.specs.Runs.{Behaves}
use Rattle.lockstep_laws.proofs.Barrier.{UnderWay}
use Rattle.lockstep_laws.proofs.Conversation.{earlier, drop_later}
use Rattle.lockstep_laws.proofs.Places.{ahead}
use Rattle.lockstep_laws.specs.Models.Machines.{Machines, carried}
use Rattle.lockstep_laws.specs.Models.Scenarios.{slave_numbered}
use Rattle.lockstep_laws.proofs.Models.Scenarios.{has_parties}
use Rattle.pdu_layout.specs.Reading.{message_in}
use Rattle.master_spec.specs.declared.causes.Cause.TheVariants as causes
use Rattle.master_spec.specs.declared.requests.Request.TheVariants.{AskState}
use Rattle.master_spec.specs.declared.requests.Answer.TheVariants.{StateAck}
use Rattle.master_spec.specs.declared.setups.Slave.{Slave}
use Rattle.master_spec.specs.declared.setups.Setup.{Setup}
use Rattle.master_spec.specs.Setup.{setup_from, slave_of, jobs_of}
use Rattle.master_spec.specs.Jobs.{Job}
use Rattle.master_spec.specs.Course.{payload_size}
use Rattle.master_spec.specs.Exchanged.{Brings}
use Rattle.master_spec.specs.News.{news_of}
use Rattle.master_spec.specs.Requests.{Asking, Decision, asks, are_outputs, brings_outputs, is_turn_of, turns_before}
use Rattle.master_spec.specs.Marks.{Mark, Begun, Asked, Again, Answered, Hinted, Brought, Turned, Ended, is_begun, count, kept, latest, is_answer, turns_since, job_of, cause_of}
use Rattle.master_log_laws.specs.Asking.Legal.{Rests, AreLegal}
use Rattle.master_log_laws.specs.Index.Runs.{course_at, owed, where_it_is, IsRun}
use Rattle.master_log_laws.specs.Index.Index.{Placed, at, marks_of, askings_told, ReadBack, Owes}
use Rattle.master_log_laws.specs.Index.Follows.{mine}
use Rattle.master_log_laws.specs.Index.Dates.{clock, phase_before, IsBroughtAt}
use Rattle.master_log_laws.specs.Index.Laws.{AreHeard}
use Rattle.master_log_laws.proofs.Index.Dates.{before_now, entry_now, phase_later, phase_now}
use Rattle.master_log_laws.proofs.Index.Mine as mine'
use Rattle.master_log_laws.proofs.Index.Outputs.{IsNews, gram_news}
use Rattle.master_log_laws.proofs.Phases.Now.{now, past, split as now_and_past}
use Rattle.master_log_laws.proofs.Phases.Stage.{Question}
use Rattle.master_log_laws.proofs.Phases.Stages.{stage}
use Rattle.master_log_laws.proofs.Phases.Tags.{counted, job_phase, HasPassed}
use Rattle.master_laws.specs.Rows.Laws.{progress_after, progress}
use Rattle.master_laws.proofs.Rows.Views.{progress_told}
use Rattle.master_laws.specs.Barrier.Laws.{events_before}
use Rattle.master_laws.proofs.Barrier.Passing.{passed_rests}
use Rattle.master_laws.proofs.Barrier.Scripts.{events_of, before_next, in_place}
use Rattle.master_log_laws.specs.Failures.Because.{BecauseOf}
use Rattle.master_log_laws.proofs.Failures.Because.{because}
use Rattle.master_log_laws.proofs.Failures.Missing.{answer_place, AwaitsOutputs, outputs_latest, LacksOutputs, lacks_outputs, target_reached}
use Rattle.master_log_laws.proofs.Failures.Silences.{answers_in_phases}
use Rattle.master_log_laws.proofs.Failures.Turns.{turns_rise, turns_to}
use Rattle.run_laws.proofs.Collecting.Heard.{same_is as one_address}
use Rattle.master_log_laws.proofs.Scenarios.Heard.{setups_heard}
use Rattle.slave_spec.specs.Payloads.{payload}
use Rattle.slave_laws.specs.Wiring.Wired.{planned_changes}
use Rattle.slave_laws.proofs.Wiring.Found.{watch_found}
use Rattle.slave_laws.specs.Data.Made.{machines}
use Rattle.slave_laws.proofs.Data.Held.{of_scenario}
use Rattle.slave_laws.specs.Data.Whole.{slaves_asked}
use Rattle.run_laws.specs.Laws.{parties, IsRunInRounds}
use Rattle.run_laws.proofs.Runs.{party, are_parties}
use Rattle.run_laws.proofs.Headline.Behaving.{are_slaves}
use Rattle.completeness_laws.specs.Moments.{cause_in, EndsHere}
use Rattle.completeness_laws.specs.Unheard.{NeverComes}
use Rattle.completeness_laws.specs.Unshown.{IsUnshown, AreOutputsUnshown}
use Rattle.completeness_laws.specs.Undelivered.{OutputsWereUnshown}
use Rattle.completeness_laws.proofs.Delivery.Askings.{DecidedAt, AreAt, are_at, at_one}
use Rattle.completeness_laws.proofs.Delivery.Coming.{EndsByTurn, Ending}
use Rattle.completeness_laws.proofs.Delivery.Ended.{run_front, TalkFacts, talk_facts, EndFacts, end_facts}
use Rattle.completeness_laws.proofs.Delivery.Fronts.{silent_front, going_front, phase_after, brings_after, values_grow}
use Rattle.completeness_laws.proofs.Delivery.Jobs.{outputs_job}
use Rattle.completeness_laws.proofs.Delivery.Outputs.{row_show, row_passed, brought_waits, told_state, own_watch, sent_so_far}
use Rattle.completeness_laws.proofs.Delivery.Phases.{or_left, kept_in, brought_phase, phase_done}
use Rattle.completeness_laws.proofs.Delivery.Staying.{entry_ends}
use Rattle.completeness_laws.proofs.Delivery.Unanswered.{behaves_then, run_then}
use Rattle.completeness_laws.proofs.Delivery.Values.{Says, says, SentValue, sent_value, OwnSending, own_sending}
use Rattle.completeness_laws.proofs.Delivery.Watched.{watch_length}
use Rattle.completeness_laws.proofs.Delivery.Whole.{IsEventEntry, nothing_owed}
use Rattle.completeness_laws.proofs.Timely.Prompt.{turns_later}

clash : true ≡ false → ⊥
clash z = cc

not_by_news : (limits : Limits) (job : Job) (m : Mark) (ms : List Mark) (k : ℕ) → IsNews m → BecauseOf limits job m ms (m ∷ ms) (causes.DataMissing k) → ⊥
not_by_news limits job (Answered r a) ms k n b = b
not_by_news limits job Hinted ms k n b = b
not_by_news limits job (Brought i p) ms k n b = b
not_by_news limits job (Begun j) ms k n b = n
not_by_news limits job (Asked r) ms k n b = n
not_by_news limits job Again ms k n b = n
not_by_news limits job (Turned t) ms k n b = n
not_by_news limits job (Ended c) ms k n b = n

module _ (sc : Scenario) (other : SlaveDesc) (ok : IsScenario sc) (log : List LogEntry) (r : IsRunInRounds sc other log) (s : ℕ) (it : IsSlaveOf (parties sc other) s) (later sofar : List LogEntry) (e : LogEntry) (split : reverse log ≡ later ++ e ∷ sofar)
    (k : ℕ) (f : EndFacts sc other ok s it (causes.DataMissing k) e sofar) (t : EndsByTurn (setup_from sc) f.talk.follows.marks (causes.DataMissing k) e) where
  abbrev W : Parties
  W = parties sc other

  abbrev X : ConversingSlaves
  X = slaves_asked sc other

  abbrev Ms : Machines
  Ms = machines sc other

  abbrev S : Setup
  S = setup_from sc

  abbrev L : Slave
  L = slave_of sc s (slave_numbered sc other s)

  abbrev js : List Job
  js = jobs_of S L

  abbrev xs : List Placed
  xs = f.talk.follows.xs

  abbrev turn : Mark
  turn = Turned t.settled

  heard : AreHeard S
  heard = (setups_heard sc ok).heard

  legal : AreLegal S.limits js (marks_of xs)
  legal = let P : List Mark → Type 0 = λ z. AreLegal S.limits js z in subst P f.marks_are f.talk.legal

  rests : Rests S.limits (marks_of xs)
  rests = let P : List Mark → Type 0 = λ z. Rests S.limits z in subst P f.marks_are f.talk.rests

  none : cause_of (marks_of xs) ≡ None
  none = ap cause_of (sym f.marks_are) ∙ f.going

  phase_is : count is_begun (marks_of xs) ≡ (course_at S sofar).phase
  phase_is = ap (count is_begun) (sym f.marks_are) ∙ f.talk.phase_is

  -- ---- what it waited for
  gives : (job : Job) × ((job_of (marks_of xs) ≡ Some job) × BecauseOf S.limits job turn (marks_of xs) (turn ∷ marks_of xs) (causes.DataMissing k))
  gives = let P : List Mark → Type 0 = λ z. (job : Job) × ((job_of z ≡ Some job) × BecauseOf S.limits job turn z (turn ∷ z) (causes.DataMissing k)) in subst P f.marks_are (because S.limits turn f.talk.follows.marks (causes.DataMissing k) t.gives)

  abbrev job : Job
  job = gives.0

  job_is : job_of (marks_of xs) ≡ Some job
  job_is = (gives.1).0

  waits : AwaitsOutputs job (latest (marks_of xs)) (turn ∷ marks_of xs)
  waits = outputs_latest job (latest (marks_of xs)) (turn ∷ marks_of xs) (((gives.1).1).1).1

  question : Question job AskState (Some (StateAck waits.state)) (now xs)
  question = told_state job (marks_of xs) (now xs) waits.state waits.latest_is (stage S.limits js xs legal rests none job job_is)

  lack : LacksOutputs job (turn ∷ marks_of xs)
  lack = lacks_outputs S.limits js job (at (length sofar) turn ∷ xs) waits.state (rests, legal) question waits.target waits.unpassed

  abbrev row : ℕ
  row = lack.row

  -- ---- the phase
  abbrev p : ℕ
  p = (counted (marks_of xs) job job_is).0

  begun : count is_begun (marks_of xs) ≡ p + 1
  begun = (counted (marks_of xs) job job_is).1

  job_in : slice_get js p ≡ Some job
  job_in = job_phase S.limits js (marks_of xs) legal job job_is p begun

  place : events_before js p ≡ 2 * row
  place = (in_place S.steps S.runs L.script heard.runs p job job_in).row row lack.row_is

  one_more : events_before js (p + 1) ≡ 2 * row + 1
  one_more =
      let a = before_next js p job job_in in
      let b : events_of job ≡ 1 = ap (λ (o : Option RowEvent). if is_some o then 1 else 0) (row_show job.task row lack.row_is) in
      omega (arith, a, b, place)

  told : progress (askings_told xs) ≡ record { done = events_before js (p + 1); waiting = false }
  told =
      let come : Mark = Brought (row % 65536) [] in
      let reached = target_reached S.limits js job xs waits.state legal question waits.target in
      let passed : HasPassed (come ∷ marks_of xs) = record { job = job; job_is = job_is; cause_is = none; passed = row_passed job row (row % 65536) [] (marks_of xs) lack.row_is refl reached } in
      passed_rests S.limits js (at (length sofar) come ∷ xs) p (rests, legal) (brought_waits S.limits (row % 65536) [] (marks_of xs)) passed begun

  -- ---- where it was told that they were sent
  abbrev older : List Asking
  older = (question.qs ++ question.ms) ++ askings_told (past xs)

  abbrev told_in : ℕ
  told_in = (question.decided).0

  asked_is : asks S.address L sofar ≡ question.newest ∷ older
  asked_is = (f.talk.follows.tracks).is ∙ now_and_past S.limits js xs legal ∙ ap (λ (z : List Asking). z ++ askings_told (past xs)) question.is

  answered : DecidedAt S.address L sofar (record { place = (question.decided).0; answer = StateAck waits.state }) (question.newest).code (question.newest).number (question.newest).first older
  answered =
      let P : List Asking → Type 0 = λ z. AreAt S.address L sofar z in
      (at_one S.address L sofar [] question.newest older (subst P asked_is (are_at S.address L sofar))).decided (record { place = (question.decided).0; answer = StateAck waits.state }) (question.decided).1

  abbrev look : LogEntry
  look = answered.entry

  abbrev there : List LogEntry
  there = answered.base

  look_split : reverse log ≡ (later ++ (e ∷ answered.part)) ++ look ∷ there
  look_split = split ∙ ap (λ (z : List LogEntry). later ++ e ∷ z) answered.is ∙ sym (append_assoc later (e ∷ answered.part) (look ∷ there))

  progress_there : progress (asks S.address L (look ∷ there)) ≡ progress (askings_told xs)
  progress_there =
      ap progress answered.now ∙ ap (λ (c : ℕ). progress_after c (answered.who).decision (progress older)) answered.same ∙ ap (λ (o : Option Decision). progress_after (question.newest).code o (progress older)) (answered.decided ∙ sym (question.decided).1)
      ∙ ap progress (sym asked_is ∙ (f.talk.follows.tracks).is)

  -- ---- the outputs were sent before
  behaves : Behaves W X sofar
  behaves = earlier W X (are_slaves sc other ok) e sofar (behaves_then sc other ok log r s it later sofar e split)

  run : IsRun S sofar
  run = (run_then sc other ok log r s it later sofar e split).1

  behaves_there : Behaves W X (look ∷ there)
  behaves_there = let P : List LogEntry → Type 0 = λ z. Behaves W X z in drop_later W X (are_slaves sc other ok) answered.part (look ∷ there) (subst P answered.is behaves)

  run_there : IsRun S (look ∷ there)
  run_there = let P : List LogEntry → Type 0 = λ z. IsRun S z in run_front S answered.part (look ∷ there) (subst P answered.is run)

  done_is : (view (decided_exchanges W s (look ∷ there))).done ≡ 2 * row + 1
  done_is =
      ap (λ (v : BenchProgress). v.done) (progress_told S heard W (are_parties sc other ok) (look ∷ there) run_there s it L (party sc other ok s it) ∙ progress_there ∙ told) ∙ one_more

  events_there : 2 * row + 1 ≤ (X.bench s (look ∷ there)).events
  events_there = by (ahead W X (are_slaves sc other ok) (look ∷ there) behaves_there s it)
    where
      by : ((X.bench s (look ∷ there)).events ≡ (view (decided_exchanges W s (look ∷ there))).done) ⊎ (((X.bench s (look ∷ there)).events ≡ (view (decided_exchanges W s (look ∷ there))).done + 1) × UnderWay (requests_sent W s (look ∷ there)) (decided_exchanges W s (look ∷ there))) → 2 * row + 1 ≤ (X.bench s (look ∷ there)).events
      by (inl h) = omega (arith, h, done_is)
      by (inr (h, u)) = omega (arith, h, done_is)

  -- what the master gets changes nothing at the slave
  same_events : (X.bench s (look ∷ there)).events ≡ (X.bench s there).events
  same_events = by (same (answered.heard).at (W.slave s)) refl
    where
      if_false : (b : Bool) (x y : ℕ) → b ≡ false → (if b then x else y) ≡ y
      if_false true x y z = absurd cc
      if_false false x y z = refl

      by : (b : Bool) → same (answered.heard).at (W.slave s) ≡ b → (X.bench s (look ∷ there)).events ≡ (X.bench s there).events
      by true z =
          absurd ((has_parties sc other ok message_in).apart.master s it (sym (same_is (answered.heard).at (W.slave s) z) ∙ one_address (answered.heard).at W.master (answered.heard).own))
      by false z = ap (λ (y : LogEntry). (X.bench s (y ∷ there)).events) (answered.heard).is ∙ if_false (same (answered.heard).at (W.slave s)) _ _ z

  events : 2 * row + 1 ≤ (X.bench s there).events
  events = let a = events_there in let b = same_events in omega (arith, a, b)

  free : (X.desk s there).owed ≡ []
  free =
      let E : LogEntry → Type 0 = λ x. IsEventEntry sc other ok log r s it x in
      nothing_owed sc other ok log r s it (later ++ (e ∷ answered.part)) there look look_split (subst E (sym (answered.heard).is) tt)

  enough : row < length (values_sent W s there)
  enough =
      let a = (sent_so_far sc other ok s it there (earlier W X (are_slaves sc other ok) look there behaves_there)).all free in
      let b : row + 1 ≤ shown_after (X.bench s there).events = omega (arith, events) in
      omega (arith, a, b)

  sent_early : (v : SentValue sc other ok sofar s row) × (length v.sofar < told_in)
  sent_early =
      let v = sent_value sc other ok there s row enough in
      let l : length v.sofar < length there = let a = ap length v.split in let b = length-append v.later (Sent v.from v.to v.bytes ∷ v.sofar) in omega (arith, a, b) in
      let p = answered.place in (
        record {
          later = (answered.part ++ look ∷ []) ++ v.later;
          sofar = v.sofar;
          from = v.from;
          to = v.to;
          bytes = v.bytes;
          note = v.note;
          split = answered.is ∙ sym (append_assoc answered.part (look ∷ []) there) ∙ ap (λ (z : List LogEntry). (answered.part ++ look ∷ []) ++ z) v.split ∙ sym (append_assoc (answered.part ++ look ∷ []) v.later (Sent v.from v.to v.bytes ∷ v.sofar));
          read = v.read;
          ordinal = v.ordinal;
          first = v.first;
        },
        omega (arith, l, p),
      )

  abbrev sending : SentValue sc other ok sofar s row
  sending = sent_early.0

  abbrev bytes : List ℕ
  bytes = sending.bytes

  abbrev note : Note
  note = sending.note

  abbrev sent : LogEntry
  sent = Sent sending.from sending.to sending.bytes

  since_then : Behaves W X (sent ∷ sending.sofar)
  since_then = let P : List LogEntry → Type 0 = λ z. Behaves W X z in drop_later W X (are_slaves sc other ok) sending.later (sent ∷ sending.sofar) (subst P sending.split behaves)

  own : OwnSending sc other ok sending.from sending.to bytes s row note sending.sofar
  own = own_sending sc other ok sending.sofar sending.from sending.to bytes s row note since_then sending.read sending.ordinal

  from_is : sending.from ≡ W.slave s
  from_is = own.from_is ∙ ap W.slave (sym own.owns ∙ own_watch sc other ok s it)

  to_is : sending.to ≡ W.master
  to_is =
      let there = slave_there sc.slaves s (slave_numbered sc other s) ok.slaves (of_scenario sc other ok s it).slave in
      let g = watch_found sc ok s there.first there.last in
      let same : (own.goes).link ≡ watch_link s = let y : Some (own.goes).link ≡ Some (watch_link s) = sym (own.goes).found ∙ g in cc in
      (own.goes).there ∙ ap (λ (l : DataLink). address_at sc l.to) same

  said : Says bytes s note
  said = says sc other s bytes s note sending.read

  size : length said.payload ≡ payload_size L.types
  size =
      let a : carried note ≡ said.payload = ap (λ m. carried (record { number = note.number; message = m })) said.message_is in
      ap length (sym a ∙ own.carries) ∙ ap (λ (i : ℕ). length (payload (slave_numbered sc other i) s (planned_changes sc i (slave_numbered sc other i)) own.values)) (own_watch sc other ok s it)
      ∙ watch_length sc s (slave_numbered sc other s) (of_scenario sc other ok s it) own.values

  -- ---- had they come, they would be there
  comes : (before : List LogEntry) → IsRun S (Got W.master (W.slave s) bytes ∷ before) → Brings S (Got W.master (W.slave s) bytes ∷ before) L (row % 65536) (length before)
  comes before run' = (Got W.master (W.slave s) bytes, entry_now (Got W.master (W.slave s) bytes) before, brings)
    where
      brings : brings_outputs S.address L (row % 65536) (payload_size L.types) (Got W.master (W.slave s) bytes) ≡ true
      brings =
          let a : same_address W.master S.address ≡ true = mine'.same_self W.master in
          let b : same_address (W.slave s) L.address ≡ true = mine'.same_self (W.slave s) in
          let c : are_outputs L (row % 65536) (payload_size L.types) (news_of bytes) ≡ true =
          ap (are_outputs L (row % 65536) (payload_size L.types)) said.news ∙ and_all (note.number == row % 65536) (s == s) (length said.payload == payload_size L.types) (eq-eqb note.number (row % 65536) own.number) (eq-eqb s s refl) (eq-eqb (length said.payload) (payload_size L.types) size) in
          and_all' (same_address W.master S.address) (same_address (W.slave s) L.address) (are_outputs L (row % 65536) (payload_size L.types) (news_of bytes)) a b c
        where
          and_all : (a b c : Bool) → a ≡ true → b ≡ true → c ≡ true → (a && (b && c)) ≡ true
          and_all a b c x y z = grind arith

          and_all' : (a b c : Bool) → a ≡ true → b ≡ true → c ≡ true → ((a && b) && c) ≡ true
          and_all' a b c x y z = grind arith

  not_come : NeverComes W.master (W.slave s) bytes sending.later
  not_come after before is = clash (sym kept_now ∙ lack.not_kept)
    where
      base : List LogEntry
      base = before ++ sent ∷ sending.sofar

      got : LogEntry
      got = Got W.master (W.slave s) bytes

      whole : sofar ≡ after ++ got ∷ base
      whole = sending.split ∙ ap (λ (z : List LogEntry). z ++ sent ∷ sending.sofar) is ∙ append_assoc after (got ∷ before) (sent ∷ sending.sofar)

      run_got : IsRun S (got ∷ base)
      run_got = let P : List LogEntry → Type 0 = λ z. IsRun S z in run_front S after (got ∷ base) (subst P whole run)

      behaves_got : Behaves W X (got ∷ base)
      behaves_got = let P : List LogEntry → Type 0 = λ z. Behaves W X z in drop_later W X (are_slaves sc other ok) after (got ∷ base) (subst P whole behaves)

      silent : (course_at S base).report ≡ None
      silent = let P : List LogEntry → Type 0 = λ z. (course_at S z).report ≡ None in silent_front S (got ∷ []) base (silent_front S after (got ∷ base) (subst P whole f.silent))

      going : cause_in (slice_get (course_at S base).talks (s - 1)) ≡ None
      going =
          let P : List LogEntry → Type 0 = λ z. cause_in (slice_get (course_at S z).talks (s - 1)) ≡ None in
          going_front S (s - 1) heard.runs (got ∷ []) base (going_front S (s - 1) heard.runs after (got ∷ base) (subst P whole (ap cause_in f.talk.follows.here ∙ f.going)))

      talk : TalkFacts sc other ok s it base
      talk = talk_facts sc other ok s it base run_got.1 silent

      nothing : owed S base ≡ []
      nothing = let Q : Bool → Type 0 = λ b. where_it_is b (owed S base ≡ []) in subst Q (mine'.same_self W.master) run_got.0

      owes : talk.follows.marks ≡ marks_of talk.follows.xs
      owes = let P : List (List ℕ) → Type 0 = λ z. Owes (ReadBack s) s z talk.follows.marks (marks_of talk.follows.xs) in subst P (ap (mine L.address) nothing) (talk.follows.tracks).owes

      shown : events_before js p + 1 ≤ (X.bench s base).events
      shown =
          let b = earlier W X (are_slaves sc other ok) got base behaves_got in
          let few = (sent_so_far sc other ok s it base b).few in
          let grow = values_grow W s before (sent ∷ sending.sofar) in
          let o = sending.ordinal in
          let h : row + 1 ≤ shown_after (X.bench s base).events = omega (arith, few, grow, o) in
          omega (arith, h, place)

      here : p + 1 ≤ (course_at S base).phase
      here = phase_done sc other ok s it base (earlier W X (are_slaves sc other ok) got base behaves_got) run_got.1 talk owes (sym (ap cause_in talk.follows.here) ∙ going) p shown

      brought_here : IsBroughtAt (row % 65536) (length base) xs
      brought_here =
          let P : List LogEntry → Type 0 = λ z. Brings S z L (row % 65536) (length base) in
          let less : length base < length sofar = let a = ap length whole in let b = length_after after (got ∷ base) in omega (arith, a, b) in
          (f.talk.follows.dated).brought (row % 65536) (length base) less (subst P (sym whole) (brings_after S after (got ∷ base) L (row % 65536) (length base) (omega arith) (comes base run_got)))
        where
          length_after : (a b : List LogEntry) → length b ≤ length (a ++ b)
          length_after [] b = omega arith
          length_after (x ∷ a) b = let y = length_after a b in omega (arith, y)

      phase_then : phase_before S sofar (length base) ≡ (course_at S base).phase
      phase_then =
          ap (λ (z : List LogEntry). phase_before S z (length base)) whole ∙ phase_after S after (got ∷ base) (length base) (omega arith) ∙ phase_later S got base (length base) (omega arith) ∙ phase_now S base

      same_phase : phase_before S sofar (length base) ≡ count is_begun (marks_of xs)
      same_phase =
          let a = brought_phase S L sofar (row % 65536) (length base) xs (f.talk.follows.dated).dates brought_here in
          omega (arith, a, here, phase_then, begun)

      kept_now : is_some (kept row (turn ∷ marks_of xs)) ≡ true
      kept_now = or_left (kept row (marks_of xs)) None (kept_in S L sofar (row % 65536) (length base) xs (f.talk.follows.dated).dates brought_here same_phase)

  -- ---- for as long as it waits
  turn_is : is_turn_of S.address e ≡ true
  turn_is = ap (is_turn_of S.address) t.is ∙ t.own

  waited : S.limits.data_turns ≤ count_by (is_turn_of S.address) (e ∷ sending.later)
  waited =
      let long : S.limits.data_turns ≤ turns_since is_answer (marks_of xs) + 1 = leb-true S.limits.data_turns (turns_since is_answer (marks_of xs) + 1) (((gives.1).1).1).0 in
      let at_answer = answer_place S.limits js xs question.newest (question.qs ++ question.ms) (record { place = (question.decided).0; answer = StateAck waits.state }) legal question.is (question.decided).1 in
      let clocked = turns_to S L sofar S.limits js is_answer xs told_in (answers_in_phases S.limits js) legal (f.talk.follows.dated).dates at_answer in
      let now = (f.talk.follows.dated).now in
      let all = before_now S.address sofar in
      let whole : count_by (is_turn_of S.address) sofar ≡ count_by (is_turn_of S.address) (sending.later ++ sent ∷ sending.sofar) = ap (count_by (is_turn_of S.address)) sending.split in
      let parts = sum_by-append (λ (z : LogEntry). if is_turn_of S.address z then 1 else 0) sending.later (sent ∷ sending.sofar) in
      let one = sum_by-cons (λ (z : LogEntry). if is_turn_of S.address z then 1 else 0) sent sending.sofar in
      let at_sending : turns_before S.address sofar (length sending.sofar) ≡ count_by (is_turn_of S.address) sending.sofar =
      ap (λ (z : List LogEntry). turns_before S.address z (length sending.sofar)) (sending.split ∙ sym (append_assoc sending.later (sent ∷ []) sending.sofar)) ∙ turns_later S.address (sending.later ++ sent ∷ []) sending.sofar (length sending.sofar) (omega arith) ∙ before_now S.address sending.sofar in
      let early : length sending.sofar < told_in = sent_early.1 in
      let rise = turns_rise S.address sofar (length sending.sofar) told_in (omega (arith, early)) in
      let here = sum_by-cons (λ (z : LogEntry). if is_turn_of S.address z then 1 else 0) e sending.later ∙ ap (λ (b : Bool). (if b then 1 else 0) + count_by (is_turn_of S.address) sending.later) turn_is in
      sums S.limits.data_turns (turns_since is_answer (marks_of xs)) (clock (marks_of xs)) (turns_before S.address sofar told_in) (turns_before S.address sofar (length sofar)) (count_by (is_turn_of S.address) sofar)
      (count_by (is_turn_of S.address) (sending.later ++ sent ∷ sending.sofar)) (count_by (is_turn_of S.address) sending.later) (count_by (is_turn_of S.address) (sent ∷ sending.sofar)) (count_by (is_turn_of S.address) sending.sofar)
      (turns_before S.address sofar (length sending.sofar)) (count_by (is_turn_of S.address) (e ∷ sending.later))
      long clocked now all whole parts one at_sending rise here
    where
      sums : (limit since clock told now all both after sent before at here : ℕ) → limit ≤ since + 1 → clock ≡ told + since → now ≡ clock → now ≡ all → all ≡ both → both ≡ after + sent → sent ≡ 0 + before → at ≡ before → at ≤ told → here ≡ 1 + after → limit ≤ here
      sums limit since clock told now all both after sent before at here h1 h2 h3 h4 h5 h6 h7 h8 h9 h10 = omega (arith, h1, h2, h3, h4, h5, h6, h7, h8, h9, h10)

  shown : (u : IsUnshown W s row (e ∷ sofar)) × (sc.limits.data_turns ≤ count_by (is_turn_of sc.master) u.since)
  shown = (
    record {
      since = e ∷ sending.later;
      earlier = sending.sofar;
      bytes = bytes;
      note = note;
      is =
          ap (λ (z : List LogEntry). e ∷ z) (sending.split ∙ ap (λ (a : Address). sending.later ++ Sent a sending.to bytes ∷ sending.sofar) from_is ∙ ap (λ (a : Address). sending.later ++ Sent (W.slave s) a bytes ∷ sending.sofar) to_is);
      read = sending.read;
      ordinal = ap (λ (a : Address). length (values_sent W s (Sent a W.master bytes ∷ sending.sofar))) (sym from_is) ∙ ap (λ (a : Address). length (values_sent W s (Sent sending.from a bytes ∷ sending.sofar))) (sym to_is) ∙ sending.ordinal;
      not_come = λ after before is. never after before is;
    },
    waited,
  )
    where
      never : (after before : List LogEntry) → e ∷ sending.later ≡ after ++ Got W.master (W.slave s) bytes ∷ before → ⊥
      never [] before is = let z : e ≡ Got W.master (W.slave s) bytes = cc in clash (sym turn_is ∙ ap (is_turn_of S.address) z)
      never (x ∷ after) before is = let z : sending.later ≡ after ++ Got W.master (W.slave s) bytes ∷ before = cc in not_come after before z

  pub by_waiting : EndsHere sc s (causes.DataMissing k) e sofar → AreOutputsUnshown sc other s k (e ∷ sofar)
  by_waiting ends =
      let o = outputs_job S.steps S.runs L.script heard.runs p job job_in row lack.row_is in
      let P : ℕ → Type 0 = λ i. (u : IsUnshown W s i (e ∷ sofar)) × (sc.limits.data_turns ≤ count_by (is_turn_of sc.master) u.since) in
      let Q : ℕ → Type 0 = λ i. AreOutputsUnshown sc other s i (e ∷ sofar) in
      let u = subst P o.row_is shown in
      let same_phase = entry_ends (setup_from sc) (s - 1) (causes.DataMissing k) e sofar ends.going ends.ended in
      subst Q (((gives.1).1).0) (record { run = o.run; first = o.first; last = o.last; step = o.step; phase = same_phase ∙ sym phase_is ∙ begun ∙ o.phase_is; unshown = u.0; waited = u.1 })

pub unshown : OutputsWereUnshown
unshown sc other ok log r s it k later sofar e split ends = by f.by
  where
    f : EndFacts sc other ok s it (causes.DataMissing k) e sofar
    f = end_facts sc other ok s it (causes.DataMissing k) e sofar (run_then sc other ok log r s it later sofar e split) ends

    by : Ending (setup_from sc) (slave_of sc s (slave_numbered sc other s)) f.talk.follows.marks (causes.DataMissing k) e → AreOutputsUnshown sc other s k (e ∷ sofar)
    by (inl t) = by_waiting sc other ok log r s it later sofar e split k f t ends
    by (inr g) =
        let b = because (setup_from sc).limits g.mark f.talk.follows.marks (causes.DataMissing k) g.gives in
        absurd (not_by_news (setup_from sc).limits b.0 g.mark f.talk.follows.marks k (gram_news (slave_of sc s (slave_numbered sc other s)) f.talk.follows.marks g.from g.bytes g.mark g.makes) (b.1).1)
