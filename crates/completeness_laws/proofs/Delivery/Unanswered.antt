-- Where the master gave up waiting for an answer.
use Rattle.std.proofs.Common.{◌≡◌, ℕ, ◌-◌, Bool, true, false, if◌then◌else◌, inl, inr, Option, Some, None, List, [], ◌∷◌, ◌++◌, map, length, reverse, refl, sym, ap, ◌∙◌, subst, arith}
use Rattle.std.proofs.lemmas.List.{length-map}
use Rattle.std.specs.Prelude.{◌==◌, ◌&&◌, ◌||◌, is_some}
use Rattle.std.specs.List.{list_any}
use Rattle.dcp_ends.specs.declared.entries.LogEntry.{LogEntry}
use Rattle.slave_desc.specs.declared.descriptions.SlaveDesc.{SlaveDesc}
use Rattle.scenario.specs.declared.scenarios.Scenario.{Scenario}
use Rattle.scenario.specs.Sound.{IsScenario}
use Rattle.pdu_layout.specs.Fields.{FieldValue}
use Rattle.pdu_layout.specs.Fields.FieldValue.{Number}
use Rattle.log_spec.specs.Messages.{Note}
use Rattle.log_spec.specs.Log.{Parties, IsSlaveOf, requests_sent, DecidedRequest}
use Rattle.log_spec.specs.Moves.{decided_exchanges}
use Rattle.plan_laws.specs.Course.Taken.{is_acknowledged}
use Rattle.master_spec.specs.declared.causes.Cause.TheVariants as causes
use Rattle.master_spec.specs.declared.requests.Request.{Request}
use Rattle.master_spec.specs.declared.requests.Answer.{Answer}
use Rattle.master_spec.specs.declared.requests.Answer.TheVariants.{Ack}
use Rattle.master_spec.specs.declared.setups.Slave.{Slave}
use Rattle.master_spec.specs.declared.setups.Setup.{Setup}
use Rattle.dcp_types.specs.declared.limits.Limits.{Limits}
use Rattle.master_spec.specs.Setup.{setup_from, slave_of, jobs_of}
use Rattle.lockstep_laws.specs.Models.Scenarios.{slave_numbered}
use Rattle.master_log_laws.specs.Asking.Legal.{AreLegal}
use Rattle.master_log_laws.specs.Index.Runs.{IsRun}
use Rattle.master_log_laws.specs.Index.Laws.{AreHeard}
use Rattle.master_spec.specs.Jobs.{Job}
use Rattle.master_spec.specs.News.{Answers, acks, nacks, state_acks, error_acks, log_acks, hints, news_brought, Nothing, news_by}
use Rattle.master_spec.specs.Marks.{Mark, Begun, Asked, Again, Answered, Hinted, Brought, Turned, Ended, newest_number, open_request, cause_of}
use Rattle.master_spec.specs.Requests.{Asking, Decision, asks, is_ack, is_acked}
use Rattle.master_log_laws.specs.Index.Index.{Placed, marks_of, askings_told, IsHeadRequest}
use Rattle.master_log_laws.proofs.Index.Outputs.{IsNews, gram_news}
use Rattle.master_log_laws.specs.Phases.Laws.{AreDecided, AreOneByOne}
use Rattle.master_log_laws.proofs.Phases.Numbered.{one_by_one}
use Rattle.master_log_laws.specs.Failures.Because.{BecauseOf}
use Rattle.master_log_laws.proofs.Failures.Because.{because}
use Rattle.master_log_laws.proofs.Scenarios.Heard.{setups_heard}
use Rattle.master_laws.specs.Meets.Laws.{note_of}
use Rattle.master_laws.proofs.Meets.Asking.{are_asked}
use Rattle.master_laws.specs.Hears.Laws.{IsAnswerAs, IsDecision, AreDecisions}
use Rattle.master_laws.proofs.Hears.Decided.{are_told}
use Rattle.master_log_laws.proofs.Index.ByEntry.{entry_by_entry}
use Rattle.lockstep_laws.proofs.Conversation.{earlier, drop_later}
use Rattle.lockstep_laws.specs.Runs.{Behaves}
use Rattle.slave_laws.specs.Data.Whole.{slaves_asked}
use Rattle.run_laws.specs.Laws.{parties, IsRunInRounds}
use Rattle.run_laws.proofs.Rounded.{rounds_are_runs}
use Rattle.run_laws.proofs.Runs.{party, are_parties}
use Rattle.run_laws.proofs.Headline.Behaving.{are_slaves}
use Rattle.run_laws.proofs.Headline.Moments.{so_far}
use Rattle.completeness_laws.specs.Unheard.{IsUnheard}
use Rattle.completeness_laws.specs.Undelivered.{UnansweredWereUnheard}
use Rattle.completeness_laws.proofs.Delivery.Coming.{EndsByTurn, Ending}
use Rattle.completeness_laws.proofs.Delivery.Whole.{IsEventEntry, nothing_owed}
use Rattle.completeness_laws.proofs.Delivery.Ended.{run_front, numbered_at, EndFacts, end_facts}
use Rattle.completeness_laws.proofs.Delivery.Over.{is_over_asking, end_is_last, no_end_before}
use Rattle.completeness_laws.proofs.Delivery.Sessions.{is_over_exchange}
use Rattle.completeness_laws.proofs.Delivery.Unheard.{first_sent, why_unheard}

clash : true ≡ false → ⊥
clash z = cc

-- ---- what the exchanges tell of the requests
acks_only : (number sender : ℕ) (vs : List FieldValue) (a : Answer) → acks vs ≡ Answers number sender a → is_ack a ≡ true
acks_only number sender (Number x ∷ Number y ∷ []) a h = let z : Ack ≡ a = cc in ap is_ack (sym z)
acks_only number sender _ a h = absurd cc

acked_news : (number sender code : ℕ) (vs : List FieldValue) (a : Answer) → news_by code vs ≡ Answers number sender a → (code == 176) ≡ true → is_ack a ≡ true
acked_news number sender code vs a h e =
    acks_only number sender vs a
    (sym (ap (λ (b : Bool). if b then acks vs else if code == 177 then nacks vs else if code == 178 then state_acks vs else if code == 179 then error_acks vs else if code == 180 then log_acks vs else if code == 224 then hints vs else if code == 240 then news_brought vs else Nothing) e) ∙ h)

or_cases : (a b c d : Bool) → (a || b) ≡ true → (a ≡ true → c ≡ true) → (b ≡ true → d ≡ true) → (c || d) ≡ true
or_cases true b true d h f g = refl
or_cases true b false d h f g = absurd (clash (sym (f refl)))
or_cases false b true d h f g = refl
or_cases false b false d h f g = g h

and_cases : (a b c d : Bool) → (a && b) ≡ true → a ≡ c → (b ≡ true → d ≡ true) → (c && d) ≡ true
and_cases true b c d h e f = ap (λ (x : Bool). x && d) (sym e) ∙ f h
and_cases false b c d h e f = absurd cc

over_one : (id : ℕ) (b : Asking) (d : Decision) (e : DecidedRequest) → b.decision ≡ Some d → e.request ≡ note_of id b → IsAnswerAs id e.answer d.answer → is_over_exchange e ≡ true → is_over_asking b ≡ true
over_one id b d e q r a h =
    and_cases (e.request.message.code == 2) (is_acknowledged e.answer) (b.code == 2) (is_acked b) h (ap (λ (n : Note). n.message.code == 2) r)
    (λ z. ap (λ (o : Option Decision). acked_by o) q ∙ acked_news e.answer.number id e.answer.message.code e.answer.message.values d.answer a z)
  where
    acked_by : Option Decision → Bool
    acked_by None = false
    acked_by (Some d) = is_ack d.answer

or_right : (a b : Bool) → b ≡ true → (a || b) ≡ true
or_right true b h = refl
or_right false b h = h

over_all : (id : ℕ) (bs : List Asking) (ds : List DecidedRequest) → AreDecisions id bs ds → list_any is_over_exchange ds ≡ true → list_any is_over_asking bs ≡ true
over_all id [] ds e h = let z : false ≡ true = sym (ap (list_any is_over_exchange) e) ∙ h in absurd (clash (sym z))
over_all id (b ∷ bs) ds e h = by b.decision refl e h (λ es k z. over_all id bs es k z)
  where
    by : (o : Option Decision) → b.decision ≡ o → IsDecision id b o (AreDecisions id bs) ds → list_any is_over_exchange ds ≡ true → ((es : List DecidedRequest) → AreDecisions id bs es → list_any is_over_exchange es ≡ true → list_any is_over_asking bs ≡ true) → list_any is_over_asking (b ∷ bs) ≡ true
    by None q k z f = or_right (is_over_asking b) (list_any is_over_asking bs) (f ds k z)
    by (Some d) q k z f = two ds k z
      where
        two : (ds : List DecidedRequest) → IsDecision id b (Some d) (AreDecisions id bs) ds → list_any is_over_exchange ds ≡ true → list_any is_over_asking (b ∷ bs) ≡ true
        two [] k z = absurd k
        two (x ∷ es) k z = or_cases (is_over_exchange x) (list_any is_over_exchange es) (is_over_asking b) (list_any is_over_asking bs) z (over_one id b d x q k.0 (k.1).0) (f es (k.1).1)

pub decided_length : (id : ℕ) (bs : List Asking) (ds : List DecidedRequest) → AreDecided bs → AreDecisions id bs ds → length ds ≡ length bs
decided_length id [] ds a e = ap length e
decided_length id (b ∷ bs) ds a e = by b.decision a.0 e (λ es k. decided_length id bs es a.1 k)
  where
    by : (o : Option Decision) → is_some o ≡ true → IsDecision id b o (AreDecisions id bs) ds → ((es : List DecidedRequest) → AreDecisions id bs es → length es ≡ length bs) → length ds ≡ length (b ∷ bs)
    by None q k f = absurd cc
    by (Some d) q k f = two ds k
      where
        two : (ds : List DecidedRequest) → IsDecision id b (Some d) (AreDecisions id bs) ds → length ds ≡ length (b ∷ bs)
        two [] k = absurd k
        two (x ∷ es) k = let l = f es (k.1).1 in omega (arith, l)

-- ---- where the cause came
not_by_news : (limits : Limits) (job : Job) (m : Mark) (ms : List Mark) (q : ℕ) → IsNews m → BecauseOf limits job m ms (m ∷ ms) (causes.NoAnswer q) → ⊥
not_by_news limits job (Answered r a) ms q n b = b
not_by_news limits job Hinted ms q n b = b
not_by_news limits job (Brought k p) ms q n b = b
not_by_news limits job (Begun j) ms q n b = n
not_by_news limits job (Asked r) ms q n b = n
not_by_news limits job Again ms q n b = n
not_by_news limits job (Turned t) ms q n b = n
not_by_news limits job (Ended c) ms q n b = n

module _ (sc : Scenario) (other : SlaveDesc) (ok : IsScenario sc) (log : List LogEntry) (r : IsRunInRounds sc other log) (s : ℕ) (it : IsSlaveOf (parties sc other) s) (later sofar : List LogEntry) (e : LogEntry) (split : reverse log ≡ later ++ e ∷ sofar) where
  abbrev W : Parties
  W = parties sc other

  abbrev S : Setup
  S = setup_from sc

  abbrev L : Slave
  L = slave_of sc s (slave_numbered sc other s)

  pub behaves_then : Behaves W (slaves_asked sc other) (e ∷ sofar)
  behaves_then = drop_later W (slaves_asked sc other) (are_slaves sc other ok) later (e ∷ sofar) (so_far sc other ok log (rounds_are_runs sc other ok log r) later (e ∷ sofar) split)

  pub run_then : IsRun S (e ∷ sofar)
  run_then = let P : List LogEntry → Type 0 = λ z. IsRun S z in run_front S later (e ∷ sofar) (subst P split (entry_by_entry sc log r.master))

  by_silence : (q : ℕ) (f : EndFacts sc other ok s it (causes.NoAnswer q) e sofar) → EndsByTurn S f.talk.follows.marks (causes.NoAnswer q) e → IsUnheard W s q sofar
  by_silence q f k = by (asks S.address L sofar) refl head
    where
      ms : List Mark
      ms = f.talk.follows.marks

      xs : List Placed
      xs = f.talk.follows.xs

      gives : BecauseOf S.limits ((because S.limits (Turned k.settled) ms (causes.NoAnswer q) k.gives).0) (Turned k.settled) ms (Turned k.settled ∷ ms) (causes.NoAnswer q)
      gives = ((because S.limits (Turned k.settled) ms (causes.NoAnswer q) k.gives).1).1

      number : newest_number ms ≡ q
      number = gives.0

      request : Request
      request = (((gives.1).1).1).0

      open_it : open_request (marks_of xs) ≡ Some request
      open_it = ap open_request (sym f.marks_are) ∙ (((gives.1).1).1).1

      legal : AreLegal S.limits (jobs_of S L) (marks_of xs)
      legal = let P : List Mark → Type 0 = λ z. AreLegal S.limits (jobs_of S L) z in subst P f.marks_are f.talk.legal

      none : cause_of (marks_of xs) ≡ None
      none = ap cause_of (sym f.marks_are) ∙ f.going

      tell : asks S.address L sofar ≡ askings_told xs
      tell = (f.talk.follows.tracks).is

      head : IsHeadRequest (Some request) (newest_number (marks_of xs)) (asks S.address L sofar)
      head =
          let P : List Asking → Type 0 = λ z. IsHeadRequest (Some request) (newest_number (marks_of xs)) z in
          let Q : Option Request → Type 0 = λ o. IsHeadRequest o (newest_number (marks_of xs)) (askings_told xs) in
          subst P (sym tell) (subst Q open_it (f.talk.follows.tracks).head)

      heard : AreHeard S
      heard = (setups_heard sc ok).heard

      by : (os : List Asking) → asks S.address L sofar ≡ os → IsHeadRequest (Some request) (newest_number (marks_of xs)) os → IsUnheard W s q sofar
      by [] z h = absurd h
      by (b ∷ bs) z h =
          let n = note_of s b in
          let ns = map (note_of s) bs in
          let run = run_then.1 in
          let here = earlier W (slaves_asked sc other) (are_slaves sc other ok) e sofar behaves_then in
          let asked : requests_sent W s sofar ≡ n ∷ ns = are_asked S heard W (are_parties sc other ok) sofar run s it L (party sc other ok s it) ∙ ap (map (note_of s)) z in
          let P : List Asking → Type 0 = λ x. AreDecisions s x (decided_exchanges W s sofar) in
          let Q : Option Decision → Type 0 = λ o. IsDecision s b o (AreDecisions s bs) (decided_exchanges W s sofar) in
          let R : List Asking → Type 0 = λ x. AreOneByOne x in
          let told : AreDecisions s bs (decided_exchanges W s sofar) = subst Q (h.1).0 (subst P z (are_told S heard W (are_parties sc other ok) sofar run s it L (party sc other ok s it))) in
          let order = subst R z (one_by_one S heard sofar run (s - 1) L (numbered_at sc other ok s it)) in
          let size : length (decided_exchanges W s sofar) ≡ length ns = decided_length s bs (decided_exchanges W s sofar) (order.1).0 told ∙ sym (length-map bs (note_of s)) in
          let not_over : list_any is_over_exchange (decided_exchanges W s sofar) ≡ true → ⊥ =
          (λ y. no_end_before S.limits (jobs_of S L) (end_is_last S.steps S.runs L.script) xs legal none request open_it (ap (list_any is_over_asking) (sym tell ∙ z) ∙ or_right (is_over_asking b) (list_any is_over_asking bs) (over_all s bs (decided_exchanges W s sofar) told y))) in
          let sent = first_sent sc other ok s it sofar n ns asked in
          let E : LogEntry → Type 0 = λ x. IsEventEntry sc other ok log r s it x in
          let free = nothing_owed sc other ok log r s it later sofar e split (subst E (sym k.is) tt) in
          record {
            request = record { note = n; receiver = sent.receiver; bytes = sent.bytes; since = sent.since; earlier = sent.earlier; is = sent.split; read = sent.read; newest = asked ∙ ap (λ (l : List Note). n ∷ l) (sym sent.before) };
            number = h.0 ∙ ap newest_number (sym f.marks_are) ∙ number;
            why = why_unheard sc other ok s it n ns sofar here run asked size not_over sent free;
          }

pub unanswered : UnansweredWereUnheard
unanswered sc other ok log r s it q later sofar e split ends = by f.by
  where
    f : EndFacts sc other ok s it (causes.NoAnswer q) e sofar
    f = end_facts sc other ok s it (causes.NoAnswer q) e sofar (run_then sc other ok log r s it later sofar e split) ends

    by : Ending (setup_from sc) (slave_of sc s (slave_numbered sc other s)) f.talk.follows.marks (causes.NoAnswer q) e → IsUnheard (parties sc other) s q sofar
    by (inl k) = by_silence sc other ok log r s it later sofar e split q f k
    by (inr k) =
        let b = because (setup_from sc).limits k.mark f.talk.follows.marks (causes.NoAnswer q) k.gives in
        absurd (not_by_news (setup_from sc).limits b.0 k.mark f.talk.follows.marks q (gram_news (slave_of sc s (slave_numbered sc other s)) f.talk.follows.marks k.from k.bytes k.mark k.makes) (b.1).1)
