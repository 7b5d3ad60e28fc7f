-- What a report of missing inputs shows of a data message: it is what the step wants, it was sent before each refusal came, and it had not come when the slave took the last request.
use Rattle.std.proofs.Common.{◌≡◌, ℕ, zero, suc, ◌+◌, ◌-◌, ◌*◌, ◌/◌, ◌%◌, ◌<◌, ◌≤◌, Bool, true, false, if◌then◌else◌, ◌⊎◌, inl, inr, Option, Some, None, List, [], ◌∷◌, ◌++◌, length, reverse, refl, sym, ap, ◌∙◌, subst, arith, length-append}
use Rattle.std.specs.Prelude.{◌==◌, ◌&&◌, ◌||◌, nat_lt, nat_le, is_some, IsTrue, cond, filter, slice_get}
use Rattle.std.proofs.lemmas.Bool.{cases_lt, eqb-true}
use Rattle.std.proofs.lemmas.List.{append_assoc, append_cancel_right}
use Rattle.dcp_types.specs.declared.addresses.Address.{Address}
use Rattle.dcp_ends.specs.declared.entries.LogEntry.{LogEntry}
use Rattle.dcp_ends.specs.declared.entries.LogEntry.TheVariants.{Sent, Got}
use Rattle.pdu_layout.specs.Fields.{FieldValue}
use Rattle.pdu_layout.specs.Message.{Message}
use Rattle.pdu_layout.specs.Reading.{message_in}
use Rattle.pdu_layout.specs.Fields.FieldValue.{Number, Signed, Bytes}
use Rattle.slave_desc.specs.declared.descriptions.SlaveDesc.{SlaveDesc}
use Rattle.scenario.specs.declared.scenarios.Scenario.{Scenario}
use Rattle.scenario.specs.Sound.{IsScenario}
use Rattle.lockstep.specs.Lockstep.{row_index}
use Rattle.log_spec.specs.Messages.{Note, Request, Value, answer_in}
use Rattle.log_spec.specs.Log.{Parties, IsSlaveOf, role_heard, values_sent, DecidedRequest}
use Rattle.log_spec.specs.Honest.{MayStandNewest}
use Rattle.log_spec.specs.Moves.{move, decided_exchanges}
use Rattle.lockstep_laws.specs.Cast.{ConversingSlaves}
use Rattle.lockstep_laws.specs.Runs.{Behaves}
use Rattle.lockstep_laws.specs.Steps.{Step, reply_with, reply_of, told_by, told_of, Told, BenchProgress, place_after, events_counted, view_after, view, Nothing, Accepted, AtRest, Otherwise, is_on_its_way}
use Rattle.lockstep_laws.specs.Models.Ordinals.{ordinal_at}
use Rattle.lockstep_laws.specs.Models.Scenarios.{slave_numbered}
use Rattle.lockstep_laws.proofs.Conversation.{drop_later}
use Rattle.lockstep_laws.proofs.Models.EachQth.{ordinal_is}
use Rattle.lockstep_laws.proofs.Models.Scenarios.{has_parties}
use Rattle.master_spec.specs.declared.causes.Cause.TheVariants as causes
use Rattle.master_spec.specs.declared.links.DataLink.{DataLink}
use Rattle.master_spec.specs.declared.requests.Answer.{Answer as Answered}
use Rattle.master_spec.specs.declared.requests.Answer.TheVariants.{Nack}
use Rattle.master_spec.specs.declared.tasks.Task.{Task}
use Rattle.master_spec.specs.declared.setups.Slave.{Slave}
use Rattle.master_spec.specs.declared.setups.Setup.{Setup}
use Rattle.master_spec.specs.Setup.{setup_from, slave_of, jobs_of}
use Rattle.master_spec.specs.Jobs.{Job}
use Rattle.master_spec.specs.News.{Answers, news_in, news_of}
use Rattle.master_spec.specs.Exchanged.{IsIn, IsDecided, entry_at}
use Rattle.master_spec.specs.Requests.{Asking, Decision, asks, acked, is_main, is_step, phase_at, phase_reached, of_phase}
use Rattle.master_spec.specs.Shown.{Shown, IsMissing}
use Rattle.master_log_laws.specs.Index.Laws.{AreHeard}
use Rattle.master_log_laws.specs.Index.Runs.{course_at, IsRun}
use Rattle.master_log_laws.proofs.Index.ByEntry.{entry_by_entry}
use Rattle.master_log_laws.proofs.Scenarios.Heard.{setups_heard}
use Rattle.master_laws.specs.Hears.Laws.{IsAnswerAs}
use Rattle.master_laws.proofs.Hears.Reading.{answers_heard}
use Rattle.master_laws.specs.Rows.Laws.{progress_after, progress}
use Rattle.master_laws.proofs.Rows.Views.{progress_told}
use Rattle.master_laws.specs.Barrier.Laws.{row_event_in, events_before, StandsInPhase}
use Rattle.master_laws.proofs.Barrier.Scripts.{events_of, before_next}
use Rattle.master_laws.proofs.Barrier.Standing.{progress_by_phase}
use Rattle.slave_laws.specs.Data.Whole.{slaves_asked}
use Rattle.slave_laws.specs.Wiring.Links.{interval_of}
use Rattle.slave_laws.proofs.Data.Feeding.{some_interval}
use Rattle.run_laws.specs.Laws.{parties, IsRunInRounds}
use Rattle.run_laws.proofs.Runs.{party, are_parties}
use Rattle.run_laws.proofs.Rounded.{rounds_are_runs}
use Rattle.run_laws.proofs.Collecting.Heard.{same_is as one_address}
use Rattle.run_laws.proofs.Headline.Behaving.{are_slaves}
use Rattle.run_laws.proofs.Headline.Moments.{so_far}
use Rattle.completeness_laws.specs.Inputs.{IsLinkTo, ordinal_wanted, WasSentOver, RefusesAt, InputsWereSent}
use Rattle.completeness_laws.proofs.Delivery.Askings.{IsHeard, DecidedAt, AreAt, are_at, at_one, same_ack}
use Rattle.completeness_laws.proofs.Delivery.Ended.{numbered_at, run_front}
use Rattle.completeness_laws.proofs.Delivery.Entries.{some_same, entry_there, within, ends_with}
use Rattle.completeness_laws.proofs.Delivery.Fronts.{values_grow}
use Rattle.completeness_laws.proofs.Delivery.Lacked as lacked
use Rattle.completeness_laws.proofs.Delivery.Lacked.{AtStep}
use Rattle.completeness_laws.proofs.Delivery.Missed as missed
use Rattle.completeness_laws.proofs.Delivery.Ordinals.{ordinal_rises}
use Rattle.completeness_laws.proofs.Delivery.Phases.{before_rises, not_more}
use Rattle.completeness_laws.proofs.Delivery.Reaching.{reached_most, IsOfPhase, of_phase_at}
use Rattle.completeness_laws.proofs.Delivery.Refused.{WasDecided, was_decided}
use Rattle.completeness_laws.proofs.Delivery.Replying.{answer_role, OwesAnswer, takes_owing, AreTo, to_sender, IsQuiet, got_behind, answered_before}
use Rattle.completeness_laws.proofs.Delivery.Sessions.{comes_of_master}
use Rattle.completeness_laws.proofs.Delivery.StepJobs.{IsStepJob, step_job}
use Rattle.completeness_laws.proofs.Delivery.Values.{SentValue, OwnSending}
use Rattle.completeness_laws.proofs.Delivery.Whole.{IsEventEntry}
use Rattle.completeness_laws.proofs.Delivery.Wires.{IsWiredTo}

clash : true ≡ false → ⊥
clash z = cc

-- ---- the requests of a phase are the newest
record IsFront {A : Type 0} (xs all : List A) : Type 0 where
  pub rest : List A
  pub is : all ≡ xs ++ rest

of_phase_front : (js : List Job) (p : ℕ) (os : List Asking) → IsFront (of_phase js p os) os
of_phase_front js p [] = record { rest = []; is = refl }
of_phase_front js p (a ∷ os) = by (is_main a && nat_lt (phase_at js (acked os)) p) (of_phase_front js p os)
  where
    by : (b : Bool) → IsFront (of_phase js p os) os → IsFront (if b then [] else a ∷ of_phase js p os) (a ∷ os)
    by true f = record { rest = a ∷ os; is = refl }
    by false f = record { rest = f.rest; is = ap (λ (l : List Asking). a ∷ l) f.is }

step_code : (a : Asking) → IsTrue (is_step a) → a.code ≡ 7
step_code a h = eqb-true a.code 7 h

-- ---- a refused step tells nothing
refused_tells : (code : ℕ) (vs : List FieldValue) → (code == 176) ≡ false → told_by (Some Step) (reply_with code vs) ≡ Nothing
refused_tells code vs h = by vs
  where
    plain : told_by (Some Step) (if code == 176 then Accepted else Otherwise) ≡ Nothing
    plain = ap (λ (b : Bool). told_by (Some Step) (if b then Accepted else Otherwise)) h

    full : (state : ℕ) → told_by (Some Step) (if code == 178 then (if is_on_its_way state then Otherwise else AtRest) else (if code == 176 then Accepted else Otherwise)) ≡ Nothing
    full state = two (code == 178) (is_on_its_way state)
      where
        two : (b c : Bool) → told_by (Some Step) (if b then (if c then Otherwise else AtRest) else (if code == 176 then Accepted else Otherwise)) ≡ Nothing
        two true true = refl
        two true false = refl
        two false c = plain

    by : (vs : List FieldValue) → told_by (Some Step) (reply_with code vs) ≡ Nothing
    by (Number a ∷ Number b ∷ Number c ∷ rest) = full c
    by (Number a ∷ Number b ∷ Signed c ∷ rest) = plain
    by (Number a ∷ Number b ∷ Bytes c ∷ rest) = plain
    by (Number a ∷ Number b ∷ []) = plain
    by (Number a ∷ Signed b ∷ rest) = plain
    by (Number a ∷ Bytes b ∷ rest) = plain
    by (Number a ∷ []) = plain
    by (Signed a ∷ rest) = plain
    by (Bytes a ∷ rest) = plain
    by [] = plain

refused_done : (s : ℕ) (x : DecidedRequest) (es : List DecidedRequest) (code : ℕ) → x.request.message.code ≡ 7 → IsAnswerAs s x.answer (Nack code) → (view (x ∷ es)).done ≡ (view es).done
refused_done s x es code c h =
    let n : (x.answer.message.code == 176) ≡ false = same_ack x.answer.number s x.answer.message.code x.answer.message.values (Nack code) h in
    let t : told_of x ≡ Nothing = ap (λ q. told_by q (reply_of x.answer)) (lacked.event_of_step x.request c) ∙ refused_tells x.answer.message.code x.answer.message.values n in
    ap (λ (z : Told). (view_after z (view es)).done) t

abbrev nack_in : Answered → ℕ
nack_in (Nack c) = c
nack_in a = 0

abbrev nack_by : Option Decision → ℕ
nack_by None = 0
nack_by (Some d) = nack_in d.answer

-- lists that are the same begin with the same
head_same : {A : Type 0} {y z : A} {ys zs : List A} → y ∷ ys ≡ z ∷ zs → y ≡ z
head_same q = cc

-- what a datagram tells is what its message tells
news_by_message : (bytes : List ℕ) (m : Message) → message_in bytes ≡ Some m → news_of bytes ≡ news_in (Some m)
unfolding news_of
news_by_message bytes m e = ap news_in e

-- a request for a step is one of the spine
step_main : (a : Asking) → a.code ≡ 7 → is_main a ≡ true
step_main a e = ap (λ (m : ℕ). (nat_le 1 m && nat_le m 10) || (nat_le 32 m && nat_le m 43)) e

-- where each step among these requests was refused for missing inputs, so was one that stands at a place
kept_missing : (xs : List Asking) → ((j : ℕ) (b : Asking) → slice_get (filter is_step xs) j ≡ Some b → IsMissing b) → (i : ℕ) (a : Asking) → slice_get xs i ≡ Some a → IsTrue (is_step a) → IsMissing a
kept_missing [] each i a h s = absurd (none i h)
  where
    none : (i : ℕ) → slice_get [] i ≡ Some a → ⊥
    none zero z = cc
    none (suc i) z = cc
kept_missing (x ∷ xs) each i a h s = by (is_step x) refl each i h (λ e n z. kept_missing xs e n a z s)
  where
    other_kind : x ≡ a → is_step x ≡ false → ⊥
    other_kind e f = clash (sym s ∙ ap is_step (sym e) ∙ f)

    by : (b : Bool) → is_step x ≡ b → ((j : ℕ) (c : Asking) → slice_get (cond b (x ∷ filter is_step xs) (filter is_step xs)) j ≡ Some c → IsMissing c) → (i : ℕ) → slice_get (x ∷ xs) i ≡ Some a
        → (((j : ℕ) (c : Asking) → slice_get (filter is_step xs) j ≡ Some c → IsMissing c) → (n : ℕ) → slice_get xs n ≡ Some a → IsMissing a) → IsMissing a
    by true f e zero z k = e zero a z
    by true f e (suc n) z k = k (λ j c y. e (suc j) c y) n z
    by false f e zero z k = absurd (other_kind (some_same z) f)
    by false f e (suc n) z k = k e n z

-- between two even numbers there is one that is odd
odd_place : (d m : ℕ) → 2 * m + 1 ≤ d → d ≤ 2 * m + 2 → (d % 2 ≡ 0 → ⊥) → d ≡ 2 * m + 1
odd_place d m low high odd = by (cases_lt d (2 * m + 2))
  where
    by : (d < 2 * m + 2) ⊎ (2 * m + 2 ≤ d) → d ≡ 2 * m + 1
    by (inl l) = omega (arith, low, l)
    by (inr g) = absurd (odd (omega (arith, high, g)))

-- what is done lies between the events of the phases before and those with this phase
pinned : (before after all counted done row one : ℕ) → before ≤ all → all ≤ counted → counted ≤ after → after ≡ before + one → one ≡ 1 → all ≡ done → before ≡ 2 * row + 1 → (done % 2 ≡ 0 → ⊥) → done ≡ 2 * row + 1
pinned before after all counted done row one a b c d e f g odd = odd_place done row (omega (arith, a, f, g)) (omega (arith, b, c, d, e, f, g)) odd

-- halves, rounded down, rise
halves : (m n : ℕ) → m ≤ n → m / 2 ≤ n / 2
halves m n h = omega (arith, h)

-- half of an odd number, rounded down
half_odd : (d m : ℕ) → d ≡ 2 * m + 1 → d / 2 ≡ m
half_odd d m h = omega (arith, h)

module _ (sc : Scenario) (other : SlaveDesc) (ok : IsScenario sc) (log : List LogEntry) (r : IsRunInRounds sc other log) (s : ℕ) (it : IsSlaveOf (parties sc other) s) where
  abbrev W : Parties
  W = parties sc other

  abbrev X : ConversingSlaves
  X = slaves_asked sc other

  abbrev S : Setup
  S = setup_from sc

  abbrev L : Slave
  L = slave_of sc s (slave_numbered sc other s)

  abbrev F : List LogEntry
  F = reverse log

  behaves_at : (part base : List LogEntry) → F ≡ part ++ base → Behaves W X base
  behaves_at part base e = drop_later W X (are_slaves sc other ok) part base (so_far sc other ok log (rounds_are_runs sc other ok log r) part base e)

  run_at : (part base : List LogEntry) → F ≡ part ++ base → IsRun S base
  run_at part base e = run_front S part base (let P : List LogEntry → Type 0 = λ z. IsRun S z in subst P e (entry_by_entry sc log r.master))

  -- a step that was refused for missing inputs
  record RefusedStep (now : List LogEntry) (who : Asking) (tail : List Asking) : Type 0 where
    pub place : ℕ
    pub code : ℕ
    pub eight : (code == 8) ≡ true
    pub is : WasDecided sc other ok s it now who tail (record { place = place; answer = Nack code })
    pub answer_is : IsAnswerAs s (is.x).answer (Nack code)
    pub request_code : (is.x).request.message.code ≡ 7
    pub there : List LogEntry
    pub entry : LogEntry
    pub after : List LogEntry
    pub whole : now ≡ after ++ entry ∷ there
    pub long : length (is.first).base ≤ length there
    pub odd : (view is.es).done % 2 ≡ 0 → ⊥
    pub at_step : AtStep sc other s there (view is.es).done
    pub from : Address
    pub bytes : List ℕ
    pub receiver : ℕ
    pub note : Note
    pub entry_is : entry ≡ Got (W.slave s) from bytes
    pub read : role_heard W bytes ≡ Request receiver note
    pub owes : OwesAnswer W is.x (X.desk s (entry ∷ there))
    pub to_master : AreTo W.master (X.desk s (entry ∷ there)).owed

  -- with an entry with which the slave takes a request, it comes to owe the answer
  owing : (there : List LogEntry) (e : LogEntry) (x : DecidedRequest) (es : List DecidedRequest) → Behaves W X (e ∷ there) → (X.desk s (e ∷ there)).served ≡ x ∷ es → (X.desk s there).served ≡ es → OwesAnswer W x (X.desk s (e ∷ there))
  owing there e x es b now before =
      let may = (b.slaves s it).0 in
      takes_owing W (X.accepts s) (move W s e) (X.desk s there) (X.desk s (e ∷ there)) x (((are_slaves sc other ok).each s it).goes e there may) (now ∙ ap (λ (l : List DecidedRequest). x ∷ l) (sym before))

  -- and all that it owes then goes to the master
  telling : (there : List LogEntry) (e : LogEntry) → Behaves W X there → Behaves W X (e ∷ there) → IsRun S (e ∷ there) → (from : Address) (bytes : List ℕ) (receiver : ℕ) (n : Note) → e ≡ Got (W.slave s) from bytes → role_heard W bytes ≡ Request receiver n → AreTo W.master (X.desk s (e ∷ there)).owed
  telling there e b c run from bytes receiver n is read =
      let P : LogEntry → Type 0 = λ x. MayStandNewest W x there in
      let m : from ≡ W.master = (comes_of_master sc other ok s it there b run.1 from bytes receiver n (subst P is c.honest.0) read).from_is in
      let Q : LogEntry → Type 0 = λ x. AreTo W.master (X.desk s (x ∷ there)).owed in
      let R : Address → Type 0 = λ a. AreTo a (X.desk s (Got (W.slave s) from bytes ∷ there)).owed in
      subst Q (sym is) (subst R m (to_sender sc other s there from bytes))

  refused_step : (later now : List LogEntry) → F ≡ later ++ now → (who : Asking) (tail : List Asking) (place code : ℕ) → asks S.address L now ≡ who ∷ tail → IsDecided who place (Nack code) → (code == 8) ≡ true → who.code ≡ 7 → RefusedStep now who tail
  refused_step later now f who tail place code a d e c =
      let b = behaves_at later now f in
      let w = was_decided sc other ok s it now b (run_at later now f) who tail (record { place = place; answer = Nack code }) a d in
      let part = (w.first).part ++ (w.first).entry ∷ [] in
      let base = (w.first).base in
      let now_is : now ≡ part ++ base = (w.first).is ∙ sym (append_assoc (w.first).part ((w.first).entry ∷ []) base) in
      let rc : (w.x).request.message.code ≡ 7 = ap (λ (n : Note). n.message.code) w.request_is ∙ c in
      let t = w.taken in
      let n = length-append t.before base in
      let whole : now ≡ t.after ++ t.entry ∷ (t.before ++ base) = lacked.whole sc other ok log r s it later now f b part base now_is w.x w.es t code w.answer_is e rc in
      let all : F ≡ (later ++ t.after) ++ t.entry ∷ (t.before ++ base) = f ∙ ap (λ (z : List LogEntry). later ++ z) whole ∙ sym (append_assoc later t.after (t.entry ∷ (t.before ++ base))) in
      let step = lacked.at_step sc other ok log r s it later now f b part base now_is w.x w.es t code w.answer_is e rc in
      record {
        place = place;
        code = code;
        eight = e;
        is = w;
        answer_is = w.answer_is;
        request_code = rc;
        there = t.before ++ base;
        entry = t.entry;
        after = t.after;
        whole = whole;
        long = omega (arith, n);
        odd = lacked.odd sc other ok log r s it later now f b part base now_is w.x w.es t code w.answer_is e rc;
        at_step = step;
        from = (t.takes).from;
        bytes = (t.takes).bytes;
        receiver = (t.takes).receiver;
        note = (t.takes).note;
        entry_is = (t.takes).is;
        read = (t.takes).read;
        owes = owing (t.before ++ base) t.entry w.x w.es (behaves_at (later ++ t.after) (t.entry ∷ (t.before ++ base)) all) t.newest t.rest;
        to_master = telling (t.before ++ base) t.entry step.behaves (behaves_at (later ++ t.after) (t.entry ∷ (t.before ++ base)) all) (run_at (later ++ t.after) (t.entry ∷ (t.before ++ base)) all) (t.takes).from (t.takes).bytes (t.takes).receiver (t.takes).note (t.takes).is (t.takes).read;
      }

  request_value : {receiver id : ℕ} {n m : Note} → Request receiver n ≡ Value id m → ⊥
  request_value z = cc

  got_same : (a b : Address) (us vs : List ℕ) → Got (W.slave s) a us ≡ Got (W.slave s) b vs → us ≡ vs
  got_same a b us vs z = cc

  got_at : (a b c d : Address) (us vs : List ℕ) → Got a c us ≡ Got b d vs → a ≡ b
  got_at a b c d us vs z = cc

  same_nack : (a : Asking) (p q c d : ℕ) → IsDecided a p (Nack c) → IsDecided a q (Nack d) → c ≡ d
  same_nack a p q c d h k = ap nack_by (sym h ∙ k)

  heard : AreHeard S
  heard = (setups_heard sc ok).heard

  abbrev js : List Job
  js = jobs_of S L

  -- what the exchanges tell of the row events, the requests tell
  told : (part base : List LogEntry) → F ≡ part ++ base → view (decided_exchanges W s base) ≡ progress (asks S.address L base)
  told part base e = progress_told S heard W (are_parties sc other ok) base (run_at part base e) s it L (party sc other ok s it)

  -- a request for a step among those to the slave, which was refused for missing inputs
  record WasRefused (a : Asking) (rest : List Asking) (place : ℕ) : Type 0 where
    pub part : List LogEntry
    pub came : LogEntry
    pub base : List LogEntry
    pub now : List LogEntry
    pub now_is : now ≡ came ∷ base
    pub heard : IsHeard S.address L came
    pub is : F ≡ part ++ now
    pub long : length now ≡ place + 1
    pub who : Asking
    pub asks_now : asks S.address L now ≡ who ∷ rest
    pub code_is : who.code ≡ a.code
    pub named : who.number ≡ a.number
    pub decided : who.decision ≡ a.decision
    pub since : who.first ≡ a.first
    pub step : RefusedStep now who rest
    pub done_now : (view (decided_exchanges W s now)).done ≡ (view (step.is).es).done

  was_refused : (front : List Asking) (a : Asking) (rest : List Asking) → asks S.address L F ≡ front ++ a ∷ rest → IsTrue (is_step a) → (place code : ℕ) → IsDecided a place (Nack code) → (code == 8) ≡ true → WasRefused a rest place
  was_refused front a rest all is place code d eight = record {
    part = decided.part;
    came = decided.entry;
    base = decided.base;
    now = decided.entry ∷ decided.base;
    now_is = refl;
    heard = decided.heard;
    is = decided.is;
    long = (let p = decided.place in omega (arith, p));
    who = decided.who;
    asks_now = decided.now;
    code_is = decided.same;
    named = decided.named;
    decided = decided.decided ∙ sym d;
    since = decided.since;
    step = step;
    done_now = ap (λ (ds : List DecidedRequest). (view ds).done) (step.is).decided_is ∙ refused_done s (step.is).x (step.is).es step.code step.request_code step.answer_is;
  }
    where
      decided : DecidedAt S.address L F (record { place = place; answer = Nack code }) a.code a.number a.first rest
      decided =
          let P : List Asking → Type 0 = λ os. AreAt S.address L F os in
          (at_one S.address L F front a rest (subst P all (are_at S.address L F))).decided (record { place = place; answer = Nack code }) d

      step : RefusedStep (decided.entry ∷ decided.base) decided.who rest
      step = refused_step decided.part (decided.entry ∷ decided.base) decided.is decided.who rest place code decided.now decided.decided eight (decided.same ∙ step_code a is)

  module _ (phase q k : ℕ) (phase_now : (course_at S F).phase ≡ phase) (sh : Shown S F L phase (causes.InputsMissing q k)) where
    abbrev request : Asking
    request = sh.request

    abbrev earlier' : List Asking
    earlier' = sh.earlier

    front : IsFront (of_phase js phase (asks S.address L F)) (asks S.address L F)
    front = of_phase_front js phase (asks S.address L F)

    abbrev tail : List Asking
    tail = earlier' ++ front.rest

    asks_are : asks S.address L F ≡ request ∷ tail
    asks_are = front.is ∙ ap (λ (l : List Asking). l ++ front.rest) (sh.last).last

    missing_first : IsMissing request
    missing_first = kept_missing (request ∷ earlier') (sh.shown.1).each 0 request refl (sh.shown.1).asks_step

    newest : WasRefused request tail missing_first.0
    newest = was_refused [] request tail asks_are (sh.shown.1).asks_step missing_first.0 missing_first.1 missing_first.2 missing_first.3

    abbrev step : RefusedStep newest.now newest.who tail
    step = newest.step

    abbrev there : List LogEntry
    there = step.there

    abbrev outer : List LogEntry
    outer = newest.part ++ step.after

    whole : F ≡ outer ++ step.entry ∷ there
    whole = newest.is ∙ ap (λ (z : List LogEntry). newest.part ++ z) step.whole ∙ sym (append_assoc newest.part step.after (step.entry ∷ there))

    abbrev done : ℕ
    done = (view (step.is).es).done

    -- ---- the step of the phase
    -- no more row events are done at the end than when the last step was asked
    done_whole : (view (decided_exchanges W s F)).done ≡ done
    done_whole =
        let same : progress (newest.who ∷ tail) ≡ progress (request ∷ tail) =
        ap (λ (c : ℕ). progress_after c (newest.who).decision (progress tail)) newest.code_is ∙ ap (λ (o : Option Decision). progress_after request.code o (progress tail)) newest.decided in
        ap (λ (v : BenchProgress). v.done) (told [] F refl ∙ ap progress asks_are ∙ sym same ∙ sym (ap progress newest.asks_now) ∙ sym (told newest.part newest.now newest.is)) ∙ newest.done_now

    abbrev job : Job
    job = record { task = sh.task; list = ((sh.last).job).0 }

    job_in : slice_get js (phase - 1) ≡ Some job
    job_in = ((sh.last).job).1

    phase_one : phase ≡ phase - 1 + 1
    phase_one = let b = (sh.last).begun in omega (arith, b)

    -- the row events that are done are those before the phase, and at most the one of the phase
    stands : StandsInPhase js (phase - 1) (view (decided_exchanges W s F))
    stands = progress_by_phase S heard W (are_parties sc other ok) F (run_at [] F refl) s it L (party sc other ok s it) (phase - 1) (phase_now ∙ phase_one)

    -- the phase is for step k of a run
    at : IsStepJob S.steps S.runs (phase - 1) (events_before js (phase - 1)) k
    at = step_job S.steps S.runs L.script heard.runs (phase - 1) job job_in k (sh.shown.1).step

    abbrev row : ℕ
    row = row_index sc.steps at.run (k - 1)

    one_event : events_of job ≡ 1
    one_event = ap (λ (t : Task). if is_some (row_event_in t) then 1 else 0) (sh.shown.1).step

    -- the slave stands at the row before the step
    done_is : done ≡ 2 * row + 1
    done_is =
        pinned (events_before js (phase - 1)) (events_before js (phase - 1 + 1)) (view (decided_exchanges W s F)).done (events_counted (view (decided_exchanges W s F))) done row (events_of job)
        stands.least (not_more (view (decided_exchanges W s F))) stands.most (before_next js (phase - 1) job job_in) one_event done_whole at.events step.odd

    -- ---- the message
    abbrev id : ℕ
    id = (missed.lack sc other ok s it there done step.at_step).id

    abbrev j : ℕ
    j = missed.j sc other ok s it there done step.at_step

    abbrev wired : IsWiredTo sc s (slave_numbered sc other s) id
    wired = missed.wired sc other ok s it there done step.at_step

    abbrev link : DataLink
    link = wired.link

    -- and the ordinal of its place is the one that the step wants
    j_is : j ≡ ordinal_wanted sc.steps link.every at.run k
    j_is =
        let place : place_after done ≡ row = half_odd done row done_is in
        let some = (wired.wire).interval.0 in
        let within_run : k - 1 ≤ sc.steps = let a = at.some in let b = at.step in omega (arith, a, b) in
        ap (λ (n : ℕ). ordinal_at sc.steps (interval_of sc id) n) place ∙ ap (λ (i : ℕ). ordinal_at sc.steps i row) (missed.every_is sc other ok s it there done step.at_step)
        ∙ ordinal_is sc.steps link.every (at.run - 1) (k - 1) some within_run

    abbrev sending : SentValue sc other ok there id j
    sending = missed.sending sc other ok s it there done step.at_step

    to_is : sending.to ≡ W.slave s
    to_is = missed.to_is sc other ok s it there done step.at_step

    from_is : sending.from ≡ W.slave link.from
    from_is = missed.from_slave sc other ok s it there done step.at_step

    abbrev old : List LogEntry
    old = sending.sofar

    abbrev sent' : LogEntry
    sent' = Sent sending.from sending.to sending.bytes

    abbrev since : List LogEntry
    since = (outer ++ step.entry ∷ []) ++ sending.later

    sent_whole : F ≡ since ++ sent' ∷ old
    sent_whole =
        whole ∙ ap (λ (z : List LogEntry). outer ++ step.entry ∷ z) sending.split ∙ sym (append_assoc outer (step.entry ∷ []) (sending.later ++ sent' ∷ old))
        ∙ sym (append_assoc (outer ++ step.entry ∷ []) sending.later (sent' ∷ old))

    there_whole : F ≡ (outer ++ step.entry ∷ []) ++ there
    there_whole = whole ∙ sym (append_assoc outer (step.entry ∷ []) there)

    own : OwnSending sc other ok sending.from sending.to sending.bytes id j sending.note old
    own = missed.own sc other ok s it there done step.at_step

    -- it went over a wire to the slave
    link_to : IsLinkTo sc other s link
    link_to = record {
      sender = (let P : ℕ → Type 0 = λ n. IsSlaveOf W n in subst P (sym (missed.from_link sc other ok s it there done step.at_step)) (missed.sender sc other ok s it there done step.at_step));
      to = wired.to;
      wired = (wired.wire).wired;
      planned = wired.found;
    }

    abbrev sent_over : WasSentOver W s link (ordinal_wanted sc.steps link.every at.run k) F
    sent_over = record {
      later = since;
      earlier = old;
      bytes = sending.bytes;
      note = sending.note;
      is =
          sent_whole ∙ ap (λ (a : Address). since ++ Sent a sending.to sending.bytes ∷ old) from_is
          ∙ ap (λ (a : Address). since ++ Sent (W.slave link.from) a sending.bytes ∷ old) to_is;
      read = sending.read ∙ ap (λ (i : ℕ). Value i sending.note) (sym wired.id_is);
      number = own.number ∙ ap (λ (n : ℕ). n % 65536) j_is;
      ordinal =
          ap (λ (i : ℕ). length (values_sent W i (Sent (W.slave link.from) (W.slave s) sending.bytes ∷ old))) wired.id_is
          ∙ ap (λ (a : Address). length (values_sent W id (Sent a (W.slave s) sending.bytes ∷ old))) (sym from_is)
          ∙ ap (λ (a : Address). length (values_sent W id (Sent sending.from a sending.bytes ∷ old))) (sym to_is)
          ∙ sending.ordinal ∙ ap (λ (n : ℕ). n + 1) j_is;
    }

    -- ---- it had not come
    not_there : (i : ℕ) → length old < i → i ≤ length there → entry_at F i ≡ Some (Got (W.slave s) sending.from sending.bytes) → ⊥
    not_there i lt few h = by (cases_lt i (length there))
      where
        got : LogEntry
        got = Got (W.slave s) sending.from sending.bytes

        by : (i < length there) ⊎ (length there ≤ i) → ⊥
        by (inr g) =
            let same : length there ≡ i = omega (arith, g, few) in
            let here : entry_at F (length there) ≡ Some step.entry = ap (λ (l : List LogEntry). entry_at l (length there)) whole ∙ entry_there outer there step.entry in
            let e : step.entry ≡ got = some_same (sym here ∙ ap (entry_at F) same ∙ h) in
            let b : step.bytes ≡ sending.bytes = got_same step.from sending.from step.bytes sending.bytes (sym step.entry_is ∙ e) in
            request_value (sym step.read ∙ ap (role_heard W) b ∙ sending.read)
        by (inl l) =
            let n = ap length there_whole in
            let m = length-append (outer ++ step.entry ∷ []) there in
            let v = within F i got (omega (arith, n, m, l)) h in
            let p = v.place in
            let a = ends_with (outer ++ step.entry ∷ []) there v.part (got ∷ v.base) (sym there_whole ∙ v.is) (omega (arith, p, l)) in
            let b = ends_with (v.part ++ got ∷ []) v.base since (sent' ∷ old) (append_assoc v.part (got ∷ []) v.base ∙ sym v.is ∙ sent_whole) (omega (arith, p, lt)) in
            let all : sending.later ++ sent' ∷ old ≡ (a.front ++ got ∷ b.front) ++ sent' ∷ old = sym sending.split ∙ a.is ∙ ap (λ (z : List LogEntry). a.front ++ got ∷ z) b.is ∙ sym (append_assoc a.front (got ∷ b.front) (sent' ∷ old)) in
            missed.not_come sc other ok s it there done step.at_step a.front b.front (append_cancel_right sending.later (a.front ++ got ∷ b.front) (sent' ∷ old) all)

    -- ---- the last refusal
    abbrev answer : Note
    answer = (step.is).x.answer

    abbrev asked_at : List LogEntry
    asked_at = step.entry ∷ there

    -- the slave sends its answer, and nothing is got between the request and that
    record IsRefused : Type 0 where
      pub later : List LogEntry
      pub quiet : List LogEntry
      pub bytes : List ℕ
      pub is : F ≡ later ++ Sent (W.slave s) W.master bytes ∷ (quiet ++ asked_at)
      pub none : IsQuiet quiet
      pub read : answer_in (role_heard W bytes) ≡ Some answer

    -- what the slave gets is not what the master gets
    not_master : step.entry ≡ newest.came → ⊥
    not_master e =
        let same : Got (W.slave s) step.from step.bytes ≡ Got (newest.heard).at (newest.heard).from (newest.heard).bytes = sym step.entry_is ∙ e ∙ (newest.heard).is in
        (has_parties sc other ok message_in).apart.master s it (got_at (W.slave s) (newest.heard).at step.from (newest.heard).from step.bytes (newest.heard).bytes same ∙ one_address (newest.heard).at W.master (newest.heard).own)

    is_refused : IsRefused
    is_refused = by step.after (step.whole)
      where
        by : (after : List LogEntry) → newest.now ≡ after ++ asked_at → IsRefused
        by [] e = absurd (not_master (head_same (sym e ∙ newest.now_is)))
        by (c ∷ part) e =
            let all : F ≡ newest.part ++ c ∷ (part ++ asked_at) = newest.is ∙ ap (λ (z : List LogEntry). newest.part ++ z) e in
            let same : newest.came ≡ c = head_same (sym newest.now_is ∙ e) in
            let E : LogEntry → Type 0 = λ z. IsEventEntry sc other ok log r s it z in
            let event : IsEventEntry sc other ok log r s it c = subst E same (subst E (sym (newest.heard).is) tt) in
            let k = answered_before sc other ok log r s it behaves_at asked_at answer (step.owes).owes step.to_master part newest.part c all event in
            let sent = Sent (W.slave s) W.master k.bytes in
            record {
              later = (newest.part ++ c ∷ []) ++ k.after;
              quiet = k.before;
              bytes = k.bytes;
              is =
                  all ∙ ap (λ (z : List LogEntry). newest.part ++ c ∷ (z ++ asked_at)) k.is ∙ ap (λ (z : List LogEntry). newest.part ++ c ∷ z) (append_assoc k.after (sent ∷ k.before) asked_at)
                  ∙ sym (append_assoc newest.part (c ∷ []) (k.after ++ sent ∷ (k.before ++ asked_at))) ∙ sym (append_assoc (newest.part ++ c ∷ []) k.after (sent ∷ (k.before ++ asked_at)));
              none = k.quiet;
              read = k.read;
            }

    abbrev refused_at : List LogEntry
    refused_at = is_refused.quiet ++ asked_at

    refused_whole : F ≡ (is_refused.later ++ Sent (W.slave s) W.master is_refused.bytes ∷ []) ++ refused_at
    refused_whole = is_refused.is ∙ sym (append_assoc is_refused.later (Sent (W.slave s) W.master is_refused.bytes ∷ []) refused_at)

    answer_message : message_in is_refused.bytes ≡ Some answer.message
    answer_message = let k = answer_role (role_heard W is_refused.bytes) answer is_refused.read in (answers_heard is_refused.bytes k.sender answer k.is).0

    number_is : answer.number ≡ q
    number_is = (step.owes).number ∙ ap (λ (n : Note). n.number) (step.is).request_is ∙ newest.named ∙ sh.shown.0

    refuses : RefusesAt W s q F (length refused_at)
    refuses = record {
      bytes = is_refused.bytes;
      code = step.code;
      is = ap (λ (l : List LogEntry). entry_at l (length refused_at)) is_refused.is ∙ entry_there is_refused.later refused_at (Sent (W.slave s) W.master is_refused.bytes);
      read = news_by_message is_refused.bytes answer.message answer_message ∙ step.answer_is ∙ ap (λ (n : ℕ). Answers n s (Nack step.code)) number_is;
      missing = step.eight;
    }

    not_by_then : (i : ℕ) → length old < i → i < length refused_at → entry_at F i ≡ Some (Got (W.slave s) sending.from sending.bytes) → ⊥
    not_by_then i lt few h = by (cases_lt (length there) i)
      where
        got : LogEntry
        got = Got (W.slave s) sending.from sending.bytes

        by : (length there < i) ⊎ (i ≤ length there) → ⊥
        by (inr l) = not_there i lt l h
        by (inl g) =
            let n = ap length refused_whole in
            let m = length-append (is_refused.later ++ Sent (W.slave s) W.master is_refused.bytes ∷ []) refused_at in
            let v = within F i got (omega (arith, n, m, few)) h in
            let p = v.place in
            let a = ends_with (is_refused.later ++ Sent (W.slave s) W.master is_refused.bytes ∷ []) refused_at v.part (got ∷ v.base) (sym refused_whole ∙ v.is) (omega (arith, p, few)) in
            got_behind is_refused.quiet asked_at a.front v.base (W.slave s) sending.from sending.bytes is_refused.none a.is (omega (arith, p, g))

    -- ---- before each refusal
    module _ (i : ℕ) (a : Asking) (place code : ℕ) (here : slice_get (request ∷ earlier') i ≡ Some a) (is : IsTrue (is_step a)) (d : IsDecided a place (Nack code)) where
      of : IsOfPhase js phase (asks S.address L F) a
      of = of_phase_at js phase (asks S.address L F) i a (ap (λ (l : List Asking). slice_get l i) (sh.last).last ∙ here)

      missing : IsMissing a
      missing = kept_missing (request ∷ earlier') (sh.shown.1).each i a here is

      was : WasRefused a of.rest place
      was = was_refused of.front a of.rest of.is is place code d (ap (λ (n : ℕ). n == 8) (same_nack a place missing.0 code missing.1 d missing.2) ∙ missing.3)

      abbrev base : List LogEntry
      base = (was.step).there

      -- the phase had begun then
      phase_least : phase ≤ (course_at S was.now).phase
      phase_least =
          let reached : phase_reached js (asks S.address L was.now) ≡ phase_at js (acked of.rest) =
          ap (phase_reached js) was.asks_now ∙ ap (λ (b : Bool). if b then phase_at js (acked of.rest) else phase_reached js of.rest) (step_main was.who (was.code_is ∙ step_code a is)) in
          let least = of.least (step_main a (step_code a is)) in
          let most = reached_most S heard (s - 1) L (numbered_at sc other ok s it) was.now (run_at was.part was.now was.is) in
          omega (arith, reached, least, most)

      -- so as many row events were done
      done_least : done ≤ (view ((was.step).is).es).done
      done_least =
          let f = (course_at S was.now).phase - 1 in
          let low = phase_least in
          let one = phase_one in
          let begun : (course_at S was.now).phase ≡ f + 1 = omega (arith, low, one) in
          let stand = (progress_by_phase S heard W (are_parties sc other ok) was.now (run_at was.part was.now was.is) s it L (party sc other ok s it) f begun).least in
          let rise = before_rises js (phase - 1) f (omega (arith, low, begun)) in
          let same = was.done_now in
          let e : done ≡ events_before js (phase - 1) = done_is ∙ sym at.events in
          omega (arith, stand, rise, same, e)

      -- and the message had been sent
      enough : j + 1 ≤ length (values_sent W id base)
      enough =
          let z = ((was.step).at_step).sent id (missed.sender sc other ok s it there done step.at_step) in
          let y : missed.j_of sc id done ≤ missed.j_of sc id (view ((was.step).is).es).done =
          ordinal_rises sc.steps (interval_of sc id) (place_after done) (place_after (view ((was.step).is).es).done) (some_interval sc ok id) (halves done (view ((was.step).is).es).done done_least) in
          omega (arith, z, y)

      base_whole : F ≡ ((was.part ++ (was.step).after) ++ (was.step).entry ∷ []) ++ base
      base_whole =
          was.is ∙ ap (λ (z : List LogEntry). was.part ++ z) (was.step).whole ∙ sym (append_assoc was.part (was.step).after ((was.step).entry ∷ base))
          ∙ sym (append_assoc (was.part ++ (was.step).after) ((was.step).entry ∷ []) base)

      sent_before : length old < place
      sent_before = by (cases_lt (length old) (length base))
        where
          n : length was.now ≡ length (was.step).after + length ((was.step).entry ∷ base)
          n = ap length (was.step).whole ∙ length-append (was.step).after ((was.step).entry ∷ base)

          by : (length old < length base) ⊎ (length base ≤ length old) → length old < place
          by (inl l) = let p = was.long in omega (arith, l, n, p)
          by (inr g) =
              let v = ends_with (since ++ sent' ∷ []) old ((was.part ++ (was.step).after) ++ (was.step).entry ∷ []) base (append_assoc since (sent' ∷ []) old ∙ sym sent_whole ∙ base_whole) g in
              let grow = values_grow W id v.front base in
              let same = ap (λ (l : List LogEntry). length (values_sent W id l)) v.is in
              let f = sending.first in
              let m = enough in
              absurd (omega (arith, grow, same, f, m))

    pub shown_sent : InputsWereSent sc other F L phase q k sh
    shown_sent = record {
      run = at.run;
      first = at.first;
      last = at.last;
      step = (at.some, at.step);
      phase = phase_one ∙ at.phase_is;
      link = link;
      wire = link_to;
      sent = sent_over;
      before = sent_before;
      refused = length refused_at;
      asked = (let a = ((step.is).first).place in let b = newest.since in let c = step.long in let n = length-append is_refused.quiet asked_at in omega (arith, a, b, c, n));
      refuses = refuses;
      missing = λ i lt few h. not_by_then i lt few (h ∙ ap (λ (a : Address). Some (Got (W.slave s) a sending.bytes)) (sym from_is));
    }

-- of each slave that is reported so, in the phase that has begun
pub inputs_were_sent : (sc : Scenario) (other : SlaveDesc) → IsScenario sc → (log : List LogEntry) → IsRunInRounds sc other log → (slave : Slave) → IsIn (setup_from sc) slave → (phase q k : ℕ) → (course_at (setup_from sc) (reverse log)).phase ≡ phase
    → (s : Shown (setup_from sc) (reverse log) slave phase (causes.InputsMissing q k)) → InputsWereSent sc other (reverse log) slave phase q k s
inputs_were_sent sc other ok log r slave i phase q k now s =
    let it = ((are_parties sc other ok).all slave i).0 in
    let n : slave.id ≡ i.0 + 1 = (setups_heard sc ok).numbered i.0 slave i.1 in
    let m : slave.id - 1 ≡ i.0 = omega (arith, n) in
    let same : slave_of sc slave.id (slave_numbered sc other slave.id) ≡ slave = some_same (sym (numbered_at sc other ok slave.id it) ∙ ap (slice_get (setup_from sc).slaves) m ∙ i.1) in
    let P : Slave → Type 0 = λ x. (s : Shown (setup_from sc) (reverse log) x phase (causes.InputsMissing q k)) → InputsWereSent sc other (reverse log) x phase q k s in
    subst P same (λ z. shown_sent sc other ok log r slave.id it phase q k now z) s
