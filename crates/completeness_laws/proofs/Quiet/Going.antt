-- Where the newest request is not decided, the session goes on, and the report comes only once that request is open for as many turns as the limit.
use Rattle.std.proofs.Common.{◌≡◌, ℕ, ◌+◌, ◌-◌, ◌≤◌, Bool, true, false, ◌⊎◌, inl, inr, Option, Some, None, List, [], ◌∷◌, ◌++◌, length, refl, sym, ap, ◌∙◌, subst, arith}
use Rattle.std.specs.Prelude.{◌==◌, ◌&&◌, ◌||◌, slice_get, is_some}
use Rattle.std.specs.List.{list_any}
use Rattle.dcp_types.specs.declared.limits.Limits.{Limits}
use Rattle.dcp_ends.specs.declared.entries.LogEntry.{LogEntry}
use Rattle.slave_desc.specs.declared.descriptions.SlaveDesc.{SlaveDesc}
use Rattle.scenario.specs.declared.scenarios.Scenario.{Scenario}
use Rattle.scenario.specs.Sound.{IsScenario}
use Rattle.log_spec.specs.Messages.{Note}
use Rattle.log_spec.specs.Log.{Parties, IsSlaveOf, DecidedRequest}
use Rattle.log_spec.specs.Moves.{decided_exchanges}
use Rattle.plan_laws.specs.Course.Taken.{is_acknowledged}
use Rattle.master_spec.specs.declared.causes.Cause.{Cause}
use Rattle.master_spec.specs.declared.causes.Verdict.TheVariants as verdicts
use Rattle.master_spec.specs.declared.reports.Report.{Report}
use Rattle.master_spec.specs.declared.requests.Request.{Request}
use Rattle.master_spec.specs.declared.requests.Latest.{Latest}
use Rattle.master_spec.specs.declared.requests.Latest.TheVariants as latests
use Rattle.master_spec.specs.declared.reactions.Reaction.TheVariants.{Wait, GiveUp}
use Rattle.master_spec.specs.declared.setups.Slave.{Slave}
use Rattle.master_spec.specs.declared.setups.Setup.{Setup}
use Rattle.master_spec.specs.Tasks.{is_by_end}
use Rattle.master_spec.specs.Jobs.{Job}
use Rattle.master_spec.specs.Course.{is_quiet}
use Rattle.master_spec.specs.Marks.{Mark, Begun, Asked, Again, Answered, Hinted, Brought, Turned, Ended, is_sending, latest, newest_number, open_request, cause_of, job_of, verdict_of, turns_since}
use Rattle.master_spec.specs.Requests.{Asking, Decision, asks, is_acked_by, turns_before}
use Rattle.master_spec.specs.Setup.{setup_from, slave_of, jobs_of}
use Rattle.master_spec.specs.Shown.{last_sending}
use Rattle.master_log_laws.specs.Asking.Legal.{AreLegal, GoesByRule}
use Rattle.master_log_laws.proofs.Asking.Legal.{going}
use Rattle.master_log_laws.specs.Index.Runs.{course_at, events_of_master, owed, IsRun}
use Rattle.master_log_laws.specs.Index.Index.{Placed, marks_of, askings_told, ReadBack, IsHeadOf, IsHeadRequest, ShutBy, Shut}
use Rattle.master_log_laws.specs.Index.Dates.{clock, Dated}
use Rattle.master_log_laws.specs.Index.Follows.{mine, talk_with}
use Rattle.master_log_laws.specs.Index.Late.{IsLate, AreLate, StandsByLog}
use Rattle.master_log_laws.specs.Index.Laws.{AreHeard}
use Rattle.master_log_laws.proofs.Index.Late.{all_report}
use Rattle.master_log_laws.proofs.Index.Laws.{listens}
use Rattle.master_log_laws.proofs.Index.Reported.{all_get, quiet_open, ended_cause, reported}
use Rattle.master_log_laws.proofs.Index.Runs.{with_at}
use Rattle.master_log_laws.proofs.Phases.Now.{now, past, Linked, linked, open_latest, split}
use Rattle.master_log_laws.proofs.Phases.Numbered.{legal_below}
use Rattle.master_log_laws.proofs.Failures.Ends.{does_none}
use Rattle.master_log_laws.proofs.Failures.Turns.{turns_rise, turns_to}
use Rattle.master_log_laws.proofs.Failures.Silences.{last_of, sendings_in_phases, sent_last}
use Rattle.master_log_laws.proofs.Scenarios.Heard.{setups_heard}
use Rattle.master_laws.specs.Meets.Laws.{note_of}
use Rattle.master_laws.specs.Hears.Laws.{IsAnswerAs, IsDecision, AreDecisions}
use Rattle.master_laws.proofs.Hears.Decided.{are_told}
use Rattle.lockstep_laws.specs.Models.Scenarios.{slave_numbered}
use Rattle.run_laws.specs.Laws.{parties}
use Rattle.run_laws.proofs.Runs.{party, are_parties}
use Rattle.completeness_laws.proofs.Delivery.Askings.{same_ack}
use Rattle.completeness_laws.proofs.Delivery.Ended.{numbered_at, talk_facts}
use Rattle.completeness_laws.proofs.Delivery.Over.{is_over_asking, end_is_last, no_end_before}
use Rattle.completeness_laws.proofs.Delivery.Sessions.{is_over_exchange}
use Rattle.completeness_laws.proofs.Quiet.Late.{shut_late}

-- none is not some
none_some : {A : Type 0} (x : A) → None ≡ Some x → ⊥
none_some x z = cc

-- true is not false
clash : true ≡ false → ⊥
clash z = cc

-- a choice holds where its right side does
or_right : (a b : Bool) → b ≡ true → (a || b) ≡ true
or_right true b h = refl
or_right false b h = h

-- ---- where a request is open, no end of the session was acknowledged
module _ (limits : Limits) (js : List Job) (last : (p : ℕ) (a b : Job) → slice_get js p ≡ Some a → slice_get js (p + 1) ≡ Some b → is_by_end a.task ≡ false) where
  -- to give up is not to wait
  not_wait : (cause : Cause) → GiveUp cause ≡ Wait → ⊥
  not_wait cause z = cc

  -- also where the conversation has ended since
  shut_no_end : (cause : Cause) (xs : List Placed) → AreLegal limits js (marks_of xs) → Shut limits cause xs → (r : Request) → open_request (marks_of xs) ≡ Some r → list_any is_over_asking (askings_told xs) ≡ true → ⊥
  shut_no_end cause [] l k r o h = k
  shut_no_end cause (x ∷ xs) l k r o h = by x.mark l k o h (λ s q w. shut_no_end cause xs l.1 s r q w)
    where
      Before : Type 0
      Before = Shut limits cause xs → open_request (marks_of xs) ≡ Some r → list_any is_over_asking (askings_told xs) ≡ true → ⊥

      by : (m : Mark) → AreLegal limits js (m ∷ marks_of xs) → ShutBy limits cause m xs (Shut limits cause xs) → open_request (m ∷ marks_of xs) ≡ Some r → list_any is_over_asking (askings_told (record { place = x.place; mark = m } ∷ xs)) ≡ true → Before → ⊥
      by (Ended c) l k o h f = no_end_before limits js last xs l.1 (does_none limits (marks_of xs) (GiveUp c) l.0 (not_wait c)) r o h
      by (Asked q) l k o h f = k
      by Again l k o h f = k
      by (Begun j) l k o h f = none_some r o
      by (Answered q a) l k o h f = none_some r o
      by Hinted l k o h f = f k o h
      by (Brought n p) l k o h f = f k o h
      by (Turned t) l k o h f = f k o h

  -- whether it has ended or not
  pub open_no_end : (xs : List Placed) → AreLegal limits js (marks_of xs) → ((cause : Cause) → cause_of (marks_of xs) ≡ Some cause → Shut limits cause xs) → (r : Request) → open_request (marks_of xs) ≡ Some r → list_any is_over_asking (askings_told xs) ≡ true → ⊥
  open_no_end xs l shut r o h = by (cause_of (marks_of xs)) refl
    where
      by : (c : Option Cause) → cause_of (marks_of xs) ≡ c → ⊥
      by None e = no_end_before limits js last xs l e r o h
      by (Some cause) e = shut_no_end cause xs l (shut cause e) r o h

-- ---- an exchange that ends the session is a request that does
-- for one request and its exchange
over_one : (id : ℕ) (b : Asking) (d : Decision) (e : DecidedRequest) → b.decision ≡ Some d → e.request ≡ note_of id b → IsAnswerAs id e.answer d.answer → is_over_exchange e ≡ is_over_asking b
over_one id b d e q r a =
    ap (λ (n : Note). (n.message.code == 2) && is_acknowledged e.answer) r
    ∙ ap (λ (t : Bool). (b.code == 2) && t) (same_ack e.answer.number id e.answer.message.code e.answer.message.values d.answer a ∙ ap (λ (o : Option Decision). is_acked_by o) (sym q))

-- a choice that holds is kept, part by part
or_same : (a b c d : Bool) → a ≡ c → (b ≡ true → d ≡ true) → (a || b) ≡ true → (c || d) ≡ true
or_same true b c d e f h = ap (λ (t : Bool). t || d) (sym e)
or_same false b c d e f h = or_right c d (f h)

-- for all of them
pub over_all : (id : ℕ) (bs : List Asking) (ds : List DecidedRequest) → AreDecisions id bs ds → list_any is_over_exchange ds ≡ true → list_any is_over_asking bs ≡ true
over_all id [] ds e h = absurd (clash (sym (sym (ap (list_any is_over_exchange) e) ∙ h)))
over_all id (b ∷ bs) ds e h = by b.decision refl e h (λ es k z. over_all id bs es k z)
  where
    by : (o : Option Decision) → b.decision ≡ o → IsDecision id b o (AreDecisions id bs) ds → list_any is_over_exchange ds ≡ true → ((es : List DecidedRequest) → AreDecisions id bs es → list_any is_over_exchange es ≡ true → list_any is_over_asking bs ≡ true) → list_any is_over_asking (b ∷ bs) ≡ true
    by None q k z f = or_right (is_over_asking b) (list_any is_over_asking bs) (f ds k z)
    by (Some d) q k z f = two ds k z
      where
        two : (ds : List DecidedRequest) → IsDecision id b (Some d) (AreDecisions id bs) ds → list_any is_over_exchange ds ≡ true → list_any is_over_asking (b ∷ bs) ≡ true
        two [] k z = absurd k
        two (x ∷ es) k z = or_same (is_over_exchange x) (list_any is_over_exchange es) (is_over_asking b) (list_any is_over_asking bs) (over_one id b d x q k.0 (k.1).0) (f es (k.1).1) z

module _ (sc : Scenario) (other : SlaveDesc) (ok : IsScenario sc) (s : ℕ) (it : IsSlaveOf (parties sc other) s) where
  abbrev W : Parties
  W = parties sc other

  abbrev S : Setup
  S = setup_from sc

  abbrev L : Slave
  L = slave_of sc s (slave_numbered sc other s)

  heard : AreHeard S
  heard = (setups_heard sc ok).heard

  -- ---- the conversation where its newest request is not decided, before the report and after it
  pub record IsOpenTalk (log : List LogEntry) (b : Asking) (bs : List Asking) : Type 0 where
    pub xs : List Placed
    pub legal : AreLegal S.limits (jobs_of S L) (marks_of xs)
    pub shut : (cause : Cause) → cause_of (marks_of xs) ≡ Some cause → Shut S.limits cause xs
    pub request : Request
    pub is_open : open_request (marks_of xs) ≡ Some request
    pub head : Asking
    pub told : askings_told xs ≡ head ∷ bs
    pub first : head.first ≡ b.first
    pub repeats : head.repeats ≡ b.repeats
    pub until : ℕ
    pub dated : Dated S L log until xs
    pub quiet : (report : Report) → (course_at S log).report ≡ Some report → is_quiet (talk_with L (marks_of xs)) ≡ true

  -- a newest request that is not decided is open
  head_open : (o : Option Request) (n : ℕ) (c : Asking) (cs : List Asking) → IsHeadRequest o n (c ∷ cs) → c.decision ≡ None → (r : Request) × (o ≡ Some r)
  head_open None n c cs h e = let z : false ≡ true = sym (ap (λ (d : Option Decision). is_some d) e) ∙ h.1 in absurd (clash (sym z))
  head_open (Some r) n c cs h e = (r, refl)

  -- before the report
  by_course : (log : List LogEntry) → IsRun S log → (b : Asking) (bs : List Asking) → asks S.address L log ≡ b ∷ bs → b.decision ≡ None → (course_at S log).report ≡ None → IsOpenTalk log b bs
  by_course log run b bs told free r =
      let t = talk_facts sc other ok s it log run r in
      let P : List Asking → Type 0 = IsHeadOf (marks_of t.follows.xs) in
      let e : askings_told t.follows.xs ≡ b ∷ bs = sym t.follows.tracks.is ∙ told in
      let o = head_open (open_request (marks_of t.follows.xs)) (newest_number (marks_of t.follows.xs)) b bs (subst P e t.follows.tracks.head) free in
      record {
        xs = t.follows.xs;
        legal = legal_below S.limits (jobs_of S L) (ReadBack s) s (mine L.address (owed S log)) t.follows.marks (marks_of t.follows.xs) t.follows.tracks.owes t.legal;
        shut = t.follows.tracks.shut;
        request = o.0;
        is_open = o.1;
        head = b;
        told = e;
        first = refl;
        repeats = refl;
        until = length log;
        dated = t.follows.dated;
        quiet = λ report z. absurd (none_some report (sym r ∙ z));
      }

  -- once there is a report
  by_report : (log : List LogEntry) → IsRun S log → (b : Asking) (bs : List Asking) → asks S.address L log ≡ b ∷ bs → b.decision ≡ None → (report : Report) → (course_at S log).report ≡ Some report → IsOpenTalk log b bs
  by_report log run b bs told free report r = by (askings_told z.xs) refl late
    where
      z : StandsByLog S (s - 1) L log (course_at S log) (asks S.address L log)
      z = (reported S (ReadBack s) (s - 1) L (listens S heard (s - 1) L (numbered_at sc other ok s it)) heard.runs log run report r).0

      late : AreLate z.until (b ∷ bs) (askings_told z.xs)
      late = let P : List Asking → Type 0 = λ x. AreLate z.until x (askings_told z.xs) in subst P told z.late

      by : (os : List Asking) → askings_told z.xs ≡ os → AreLate z.until (b ∷ bs) os → IsOpenTalk log b bs
      by [] e k = absurd k
      by (c ∷ cs) e k =
          let P : List Asking → Type 0 = IsHeadOf (marks_of z.xs) in
          let one = k.0 in
          let o = head_open (open_request (marks_of z.xs)) (newest_number (marks_of z.xs)) c cs (subst P e z.head) (still c.decision refl one) in
          record {
            xs = z.xs;
            legal = (with_at (λ u m. GoesByRule S.limits (jobs_of S u) (course_at S log).phase m) (course_at S log).talks (s - 1) (talk_with L (marks_of z.xs)) (going S heard.runs (events_of_master S log)).goes z.here).legal;
            shut = z.shut;
            request = o.0;
            is_open = o.1;
            head = c;
            told = e ∙ ap (λ (x : List Asking). c ∷ x) (sym k.1);
            first = sym one.first;
            repeats = sym one.repeats;
            until = z.until;
            dated = z.dated;
            quiet = λ other y. all_get is_quiet (course_at S log).talks (s - 1) (talk_with L (marks_of z.xs)) (all_report S (events_of_master S log) report r).0 z.here;
          }
        where
          still : (d : Option Decision) → c.decision ≡ d → IsLate z.until b c → c.decision ≡ None
          still None y l = y
          still (Some d) y l = absurd (none_some d (sym free ∙ l.kept d y))

  -- at any moment
  pub open_talk : (log : List LogEntry) → IsRun S log → (b : Asking) (bs : List Asking) → asks S.address L log ≡ b ∷ bs → b.decision ≡ None → IsOpenTalk log b bs
  open_talk log run b bs told free = by (course_at S log).report refl
    where
      by : (o : Option Report) → (course_at S log).report ≡ o → IsOpenTalk log b bs
      by None r = by_course log run b bs told free r
      by (Some report) r = by_report log run b bs told free report r

  -- no exchange has ended the session
  pub goes_on : (log : List LogEntry) → IsRun S log → (b : Asking) (bs : List Asking) → asks S.address L log ≡ b ∷ bs → b.decision ≡ None → list_any is_over_exchange (decided_exchanges W s log) ≡ true → ⊥
  goes_on log run b bs told free h =
      let t = open_talk log run b bs told free in
      let P : List Asking → Type 0 = λ x. AreDecisions s x (decided_exchanges W s log) in
      let all = subst P told (are_told S heard W (are_parties sc other ok) log run s it L (party sc other ok s it)) in
      let any = over_all s (b ∷ bs) (decided_exchanges W s log) all h in
      let none : is_over_asking b ≡ false = ap (λ (d : Option Decision). (b.code == 2) && is_acked_by d) free ∙ and_false (b.code == 2) in
      let later : list_any is_over_asking bs ≡ true = sym (ap (λ (x : Bool). x || list_any is_over_asking bs) none) ∙ any in
      let Q : List Asking → Type 0 = λ x. list_any is_over_asking x ≡ true in
      open_no_end S.limits (jobs_of S L) (end_is_last S.steps S.runs L.script) t.xs t.legal t.shut t.request t.is_open (subst Q (sym t.told) (or_right (is_over_asking t.head) (list_any is_over_asking bs) later))
    where
      and_false : (x : Bool) → (x && false) ≡ false
      and_false true = refl
      and_false false = refl

  -- where there is a report, it was open for as many turns as the limit since it was sent last
  pub open_late : (log : List LogEntry) → IsRun S log → (b : Asking) (bs : List Asking) → asks S.address L log ≡ b ∷ bs → b.decision ≡ None → (report : Report) → (course_at S log).report ≡ Some report
      → turns_before S.address log (last_sending b.first b.repeats) + S.limits.turn_limit ≤ turns_before S.address log (length log)
  open_late log run b bs told free report r = by_quiet (quiet_open (open_request ms) (verdict_of ms) (t.quiet report r))
    where
      t : IsOpenTalk log b bs
      t = open_talk log run b bs told free

      ms : List Mark
      ms = marks_of t.xs

      found : (os : List Asking) → now t.xs ≡ os → Linked (latests.Asked t.request) os → (rest : List Asking) × (now t.xs ≡ t.head ∷ rest)
      found [] e k = absurd k
      found (c ∷ rest) e k =
          let y : t.head ∷ bs ≡ c ∷ (rest ++ askings_told (past t.xs)) = sym t.told ∙ split S.limits (jobs_of S L) t.xs t.legal ∙ ap (λ (z : List Asking). z ++ askings_told (past t.xs)) e in
          let w : t.head ≡ c = cc in
          (rest, e ∙ ap (λ (z : Asking). z ∷ rest) (sym w))

      newest : (rest : List Asking) × (now t.xs ≡ t.head ∷ rest)
      newest = let P : Latest → Type 0 = λ y. Linked y (now t.xs) in found (now t.xs) refl (subst P (open_latest (latest ms) t.request t.is_open) (linked S.limits (jobs_of S L) t.xs t.legal))

      since : clock ms ≡ turns_before S.address log (last_of t.head) + turns_since is_sending ms
      since = turns_to S L log S.limits (jobs_of S L) is_sending t.xs (last_of t.head) (sendings_in_phases S.limits (jobs_of S L)) t.legal t.dated.dates (sent_last t.xs t.head newest.0 newest.1)

      same : turns_before S.address log (last_of t.head) ≡ turns_before S.address log (last_sending b.first b.repeats)
      same = ap (λ (i : ℕ). turns_before S.address log (last_sending i t.head.repeats)) t.first ∙ ap (λ (is : List ℕ). turns_before S.address log (last_sending b.first is)) t.repeats

      by_quiet : (open_request ms ≡ None) ⊎ ((cause : Cause) × (verdict_of ms ≡ verdicts.Ended cause)) → turns_before S.address log (last_sending b.first b.repeats) + S.limits.turn_limit ≤ turns_before S.address log (length log)
      by_quiet (inl e) = absurd (none_some t.request (sym e ∙ t.is_open))
      by_quiet (inr e) =
          let late = shut_late S.limits e.0 t.xs t.request (t.shut e.0 (ended_cause (cause_of ms) (job_of ms) ms e.0 e.1)) t.is_open in
          let up = turns_rise S.address log t.until (length log) t.dated.below in
          let now_is : turns_before S.address log t.until ≡ clock ms = t.dated.now in
          let a = since in
          let c = same in
          omega (arith, late, up, now_is, a, c)
