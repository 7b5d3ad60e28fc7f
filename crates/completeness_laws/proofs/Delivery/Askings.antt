-- Where the requests to a slave were first sent, and where they were decided.
use Rattle.std.proofs.Common.{◌≡◌, ℕ, zero, ◌+◌, Bool, true, false, if◌then◌else◌, Option, Some, None, List, [], ◌∷◌, ◌++◌, length, refl, sym, ap, ◌∙◌, arith}
use Rattle.std.specs.Prelude.{cond, ◌==◌, ◌&&◌, find}
use Rattle.std.proofs.lemmas.Bool.{and_parts}
use Rattle.dcp_types.specs.declared.addresses.Address.{Address}
use Rattle.dcp_ends.specs.declared.entries.LogEntry.{LogEntry}
use Rattle.dcp_ends.specs.declared.entries.LogEntry.TheVariants.{Sent, Got, Idle, Turn}
use Rattle.dcp_ends.specs.Logs.{same_address}
use Rattle.pdu_layout.specs.Fields.{FieldValue}
use Rattle.pdu_layout.specs.Fields.FieldValue.{Number, Bytes}
use Rattle.pdu_layout.specs.Message.{Message}
use Rattle.pdu_layout.specs.Reading.{message_in}
use Rattle.log_spec.specs.Messages.{Note}
use Rattle.log_spec.specs.Log.{DecidedRequest}
use Rattle.master_spec.specs.declared.requests.Answer.{Answer}
use Rattle.master_spec.specs.declared.requests.Answer.TheVariants.{Ack, Nack, StateAck, ErrorAck, LogAck}
use Rattle.master_spec.specs.declared.setups.Slave.{Slave}
use Rattle.master_spec.specs.News.{News, Answers, Hints, Brings, Nothing, acks, nacks, state_acks, error_acks, log_acks, hints, news_brought, news_by, news_of}
use Rattle.master_spec.specs.Requests.{Asking, Decision, is_request, asking_with, asking_in, with_asking, decided_by, with_news, asks, is_state_request, is_main, is_ack, is_acked}
use Rattle.master_laws.specs.Hears.Laws.{IsDecision, AreDecisions}
use Rattle.plan_laws.specs.Course.Taken.{is_acknowledged}
use Rattle.master_log_laws.proofs.Phases.Mains.{AreQuestions}
use Rattle.master_log_laws.proofs.Failures.Lasts.{is_acked_change}
use Rattle.completeness_laws.proofs.Delivery.Since.{is_change_code, is_change_taken, changes}

clash : true ≡ false → ⊥
clash z = cc

-- ---- the acknowledged changes of state
abbrev pub asked_changes : List Asking → ℕ
asked_changes [] = 0
asked_changes (b ∷ bs) = (if is_acked_change b then 1 else 0) + asked_changes bs

pub asked_append : (bs cs : List Asking) → asked_changes (bs ++ cs) ≡ asked_changes bs + asked_changes cs
asked_append [] cs = omega arith
asked_append (b ∷ bs) cs = let a = asked_append bs cs in omega (arith, a)

clear : (b : Asking) → is_main b ≡ false → (if is_acked_change b then 1 else 0) ≡ zero
clear b h = grind arith

pub questions_none : (qs : List Asking) → AreQuestions qs → asked_changes qs ≡ 0
questions_none [] h = refl
questions_none (b ∷ qs) h =
    let a = questions_none qs h.1 in
    let c = clear b h.0 in
    omega (arith, a, c)

pub record FoundChange (ms : List Asking) (x : Asking) : Type 0 where
  pub front : List Asking
  pub tail : List Asking
  pub is : ms ≡ front ++ x ∷ tail
  pub none : asked_changes front ≡ 0
  pub one : is_acked_change x ≡ true

pub found_change : (ms : List Asking) (x : Asking) → find is_acked_change ms ≡ Some x → FoundChange ms x
found_change [] x e = absurd cc
found_change (b ∷ ms) x e = by (is_acked_change b) refl e (λ z. found_change ms x z)
  where
    by : (t : Bool) → is_acked_change b ≡ t → cond t (Some b) (find is_acked_change ms) ≡ Some x → (find is_acked_change ms ≡ Some x → FoundChange ms x) → FoundChange (b ∷ ms) x
    by true f z k =
        let y : b ≡ x = cc in
        record { front = []; tail = ms; is = ap (λ (c : Asking). c ∷ ms) y; none = refl; one = ap is_acked_change (sym y) ∙ f }
    by false f z k =
        let g = k z in
        let n = g.none in
        let h : asked_changes (b ∷ g.front) ≡ 0 + asked_changes g.front = ap (λ (t : Bool). (if t then 1 else 0) + asked_changes g.front) f in
        record { front = b ∷ g.front; tail = g.tail; is = ap (λ (l : List Asking). b ∷ l) g.is; none = omega (arith, n, h); one = g.one }

-- ---- the exchanges tell them
ack_code : (number sender code : ℕ) (vs : List FieldValue) (a : Answer) → news_by code vs ≡ Answers number sender a → is_ack a ≡ true → (code == 176) ≡ true
ack_code number sender code vs a h k = by (code == 176) (code == 177) (code == 178) (code == 179) (code == 180) (code == 224) (code == 240) h
  where
    not_nack : (vs : List FieldValue) → nacks vs ≡ Answers number sender a → is_ack a ≡ true → ⊥
    not_nack (Number x ∷ Number y ∷ Number z ∷ Number c ∷ []) e k = let q : Nack c ≡ a = cc in clash (sym k ∙ ap is_ack (sym q))
    not_nack _ e k = absurd cc

    not_state : (vs : List FieldValue) → state_acks vs ≡ Answers number sender a → is_ack a ≡ true → ⊥
    not_state (Number x ∷ Number y ∷ Number z ∷ []) e k = let q : StateAck z ≡ a = cc in clash (sym k ∙ ap is_ack (sym q))
    not_state _ e k = absurd cc

    not_error : (vs : List FieldValue) → error_acks vs ≡ Answers number sender a → is_ack a ≡ true → ⊥
    not_error (Number x ∷ Number y ∷ Number z ∷ []) e k = let q : ErrorAck z ≡ a = cc in clash (sym k ∙ ap is_ack (sym q))
    not_error _ e k = absurd cc

    not_log : (vs : List FieldValue) → log_acks vs ≡ Answers number sender a → is_ack a ≡ true → ⊥
    not_log (Number x ∷ Number y ∷ Bytes z ∷ []) e k = let q : LogAck ≡ a = cc in clash (sym k ∙ ap is_ack (sym q))
    not_log _ e k = absurd cc

    not_hint : (vs : List FieldValue) → hints vs ≡ Answers number sender a → ⊥
    not_hint (Number x ∷ Number y ∷ []) e = cc
    not_hint _ e = absurd cc

    not_brought : (vs : List FieldValue) → news_brought vs ≡ Answers number sender a → ⊥
    not_brought (Number x ∷ Number y ∷ Bytes z ∷ []) e = cc
    not_brought _ e = absurd cc

    by : (b c d e f g i : Bool) → (if b then acks vs else if c then nacks vs else if d then state_acks vs else if e then error_acks vs else if f then log_acks vs else if g then hints vs else if i then news_brought vs else Nothing) ≡ Answers number sender a → b ≡ true
    by true c d e f g i z = refl
    by false true d e f g i z = absurd (not_nack vs z k)
    by false false true e f g i z = absurd (not_state vs z k)
    by false false false true f g i z = absurd (not_error vs z k)
    by false false false false true g i z = absurd (not_log vs z k)
    by false false false false false true i z = absurd (not_hint vs z)
    by false false false false false false true z = absurd (not_brought vs z)
    by false false false false false false false z = absurd cc

acks_only : (number sender : ℕ) (vs : List FieldValue) (a : Answer) → acks vs ≡ Answers number sender a → is_ack a ≡ true
acks_only number sender (Number x ∷ Number y ∷ []) a h = let z : Ack ≡ a = cc in ap is_ack (sym z)
acks_only number sender _ a h = absurd cc

acked_news : (number sender code : ℕ) (vs : List FieldValue) (a : Answer) → news_by code vs ≡ Answers number sender a → (code == 176) ≡ true → is_ack a ≡ true
acked_news number sender code vs a h e =
    acks_only number sender vs a
    (sym (ap (λ (b : Bool). if b then acks vs else if code == 177 then nacks vs else if code == 178 then state_acks vs else if code == 179 then error_acks vs else if code == 180 then log_acks vs else if code == 224 then hints vs else if code == 240 then news_brought vs else Nothing) e) ∙ h)

pub same_ack : (number sender code : ℕ) (vs : List FieldValue) (a : Answer) → news_by code vs ≡ Answers number sender a → (code == 176) ≡ is_ack a
same_ack number sender code vs a h = by (code == 176) (is_ack a) refl refl
  where
    by : (b c : Bool) → (code == 176) ≡ b → is_ack a ≡ c → b ≡ c
    by true c e f = sym (acked_news number sender code vs a h e) ∙ f
    by false true e f = sym e ∙ ack_code number sender code vs a h f
    by false false e f = refl

pub told_changes : (id : ℕ) (bs : List Asking) (ds : List DecidedRequest) → AreDecisions id bs ds → changes ds ≡ asked_changes bs
told_changes id [] ds e = ap changes e
told_changes id (b ∷ bs) ds e = by b.decision refl e (λ es k. told_changes id bs es k)
  where
    acked_by : Option Decision → Bool
    acked_by None = false
    acked_by (Some d) = is_ack d.answer

    by : (o : Option Decision) → b.decision ≡ o → IsDecision id b o (AreDecisions id bs) ds → ((es : List DecidedRequest) → AreDecisions id bs es → changes es ≡ asked_changes bs) → changes ds ≡ asked_changes (b ∷ bs)
    by None q k f =
        let a = f ds k in
        let n : is_acked_change b ≡ false = ap (λ (o : Option Decision). is_state_request b && acked_by o) q ∙ and_none (is_state_request b) in
        let h : asked_changes (b ∷ bs) ≡ 0 + asked_changes bs = ap (λ (t : Bool). (if t then 1 else 0) + asked_changes bs) n in
        omega (arith, a, h)
      where
        and_none : (t : Bool) → (t && false) ≡ false
        and_none true = refl
        and_none false = refl
    by (Some d) q k f = two ds k
      where
        two : (ds : List DecidedRequest) → IsDecision id b (Some d) (AreDecisions id bs) ds → changes ds ≡ asked_changes (b ∷ bs)
        two [] k = absurd k
        two (x ∷ es) k =
            let a = f es (k.1).1 in
            let c : is_acknowledged x.answer ≡ is_acked b = same_ack x.answer.number id x.answer.message.code x.answer.message.values d.answer (k.1).0 ∙ ap (λ (o : Option Decision). acked_by o) (sym q) in
            let same : is_change_taken x ≡ is_acked_change b = ap (λ (n : Note). is_change_code n.message.code && is_acknowledged x.answer) k.0 ∙ ap (λ (t : Bool). is_change_code b.code && t) c in
            let h : changes (x ∷ es) ≡ (if is_acked_change b then 1 else 0) + changes es = ap (λ (t : Bool). (if t then 1 else 0) + changes es) same in
            omega (arith, a, h)

-- ---- the places
module _ (master : Address) (slave : Slave) where
  pub record FirstAt (log : List LogEntry) (b : Asking) (tail : List Asking) : Type 0 where
    pub part : List LogEntry
    pub entry : LogEntry
    pub base : List LogEntry
    pub is : log ≡ part ++ entry ∷ base
    pub place : length base ≡ b.first
    pub before : asks master slave base ≡ tail

  -- with this entry the master gets something
  pub record IsHeard (e : LogEntry) : Type 0 where
    pub at : Address
    pub from : Address
    pub bytes : List ℕ
    pub is : e ≡ Got at from bytes
    pub own : same_address at master ≡ true

  pub record DecidedAt (log : List LogEntry) (d : Decision) (code number first : ℕ) (tail : List Asking) : Type 0 where
    pub part : List LogEntry
    pub entry : LogEntry
    pub base : List LogEntry
    pub is : log ≡ part ++ entry ∷ base
    pub heard : IsHeard entry
    pub place : length base ≡ d.place
    pub who : Asking
    pub now : asks master slave (entry ∷ base) ≡ who ∷ tail
    pub decided : who.decision ≡ Some d
    pub same : who.code ≡ code
    pub named : who.number ≡ number
    pub since : who.first ≡ first

  pub record OneAt (log : List LogEntry) (b : Asking) (tail : List Asking) : Type 0 where
    pub first : FirstAt log b tail
    pub decided : (d : Decision) → b.decision ≡ Some d → DecidedAt log d b.code b.number b.first tail

  abbrev pub AreAt : List LogEntry → List Asking → Type 0
  AreAt log [] = Unit {0}
  AreAt log (b ∷ tail) = OneAt log b tail × AreAt log tail

  first_later : (e : LogEntry) (log : List LogEntry) (b : Asking) (tail : List Asking) → FirstAt log b tail → FirstAt (e ∷ log) b tail
  first_later e log b tail f = record { part = e ∷ f.part; entry = f.entry; base = f.base; is = ap (λ (z : List LogEntry). e ∷ z) f.is; place = f.place; before = f.before }

  decided_later : (e : LogEntry) (log : List LogEntry) (d : Decision) (code number first : ℕ) (tail : List Asking) → DecidedAt log d code number first tail → DecidedAt (e ∷ log) d code number first tail
  decided_later e log d code number first tail f = record { part = e ∷ f.part; entry = f.entry; base = f.base; is = ap (λ (z : List LogEntry). e ∷ z) f.is; heard = f.heard; place = f.place; who = f.who; now = f.now; decided = f.decided; same = f.same; named = f.named; since = f.since }

  one_later : (e : LogEntry) (log : List LogEntry) (b : Asking) (tail : List Asking) → OneAt log b tail → OneAt (e ∷ log) b tail
  one_later e log b tail o = record { first = first_later e log b tail o.first; decided = λ d q. decided_later e log d b.code b.number b.first tail (o.decided d q) }

  all_later : (e : LogEntry) (log : List LogEntry) (bs : List Asking) → AreAt log bs → AreAt (e ∷ log) bs
  all_later e log [] h = tt
  all_later e log (b ∷ bs) h = (one_later e log b bs h.0, all_later e log bs h.1)

  abbrev IsNew : ℕ → Option Asking → Type 0
  IsNew place None = Unit {0}
  IsNew place (Some a) = (a.first ≡ place) × (a.decision ≡ None)

  new_with : (place code : ℕ) (vs : List FieldValue) → IsNew place (asking_with place code vs)
  new_with place code (Number number ∷ Number receiver ∷ more) = by (is_request code)
    where
      by : (t : Bool) → IsNew place (if t then Some (record { code = code; number = number; more = more; first = place; repeats = []; decision = None }) else None)
      by true = (refl, refl)
      by false = tt
  new_with place code _ = tt

  new_in : (place : ℕ) (o : Option Message) → IsNew place (asking_in place o)
  new_in place None = tt
  new_in place (Some m) = new_with place m.code m.values

  new_one : (e : LogEntry) (log : List LogEntry) (a : Asking) (os : List Asking) → asks master slave log ≡ os → a.first ≡ length log → a.decision ≡ None → AreAt log os → AreAt (e ∷ log) (a ∷ os)
  new_one e log a os q f n h =
      (record { first = record { part = []; entry = e; base = log; is = refl; place = sym f; before = q }; decided = λ d z. absurd (never d (sym n ∙ z)) }, all_later e log os h)
    where
      never : (d : Decision) → None ≡ Some d → ⊥
      never d z = cc

  asked_at : (e : LogEntry) (log : List LogEntry) (o : Option Asking) (os : List Asking) → IsNew (length log) o → asks master slave log ≡ os → AreAt log os → AreAt (e ∷ log) (with_asking o os)
  asked_at e log None os n q h = all_later e log os h
  asked_at e log (Some a) [] n q h = new_one e log a [] q n.0 n.1 h
  asked_at e log (Some a) (b ∷ bs) n q h = by (a.number == b.number)
    where
      by : (t : Bool) → AreAt (e ∷ log) (if t then record { code = b.code; number = b.number; more = b.more; first = b.first; repeats = a.first ∷ b.repeats; decision = b.decision } ∷ bs else a ∷ b ∷ bs)
      by true =
          let f = first_later e log b bs (h.0).first in (
            record {
              first = record { part = f.part; entry = f.entry; base = f.base; is = f.is; place = f.place; before = f.before };
              decided = λ d z. decided_later e log d b.code b.number b.first bs ((h.0).decided d z);
            },
            all_later e log bs h.1,
          )
      by false = new_one e log a (b ∷ bs) q n.0 n.1 h

  told_at : (e : LogEntry) → IsHeard e → (log : List LogEntry) (n : News) (os : List Asking) → asks master slave log ≡ os → asks master slave (e ∷ log) ≡ with_news slave.id (length log) n os → AreAt log os → AreAt (e ∷ log) (with_news slave.id (length log) n os)
  told_at e heard log (Answers number sender answer) [] q now h = tt
  told_at e heard log (Answers number sender answer) (b ∷ bs) q now h = by ((sender == slave.id) && (number == b.number)) now
    where
      new : Decision
      new = record { place = length log; answer = answer }

      changed : Asking
      changed = record { code = b.code; number = b.number; more = b.more; first = b.first; repeats = b.repeats; decision = decided_by b.decision (record { place = length log; answer = answer }) }

      by : (t : Bool) → asks master slave (e ∷ log) ≡ (if t then record { code = b.code; number = b.number; more = b.more; first = b.first; repeats = b.repeats; decision = decided_by b.decision (record { place = length log; answer = answer }) } ∷ bs else b ∷ bs)
          → AreAt (e ∷ log) (if t then record { code = b.code; number = b.number; more = b.more; first = b.first; repeats = b.repeats; decision = decided_by b.decision (record { place = length log; answer = answer }) } ∷ bs else b ∷ bs)
      by true z =
          let f = first_later e log b bs (h.0).first in (
            record {
              first = record { part = f.part; entry = f.entry; base = f.base; is = f.is; place = f.place; before = f.before };
              decided = λ d y. two b.decision refl d y;
            },
            all_later e log bs h.1,
          )
        where
          two : (o : Option Decision) → b.decision ≡ o → (d : Decision) → decided_by b.decision (record { place = length log; answer = answer }) ≡ Some d → DecidedAt (e ∷ log) d b.code b.number b.first bs
          two (Some x) w d y = decided_later e log d b.code b.number b.first bs ((h.0).decided d (w ∙ sym (ap (λ (o : Option Decision). decided_by o (record { place = length log; answer = answer })) w) ∙ y))
          two None w d y =
              let v : record { place = length log; answer = answer } ≡ d = let u : Some (record { place = length log; answer = answer }) ≡ Some d = sym (ap (λ (o : Option Decision). decided_by o (record { place = length log; answer = answer })) w) ∙ y in cc in
              record { part = []; entry = e; base = log; is = refl; heard = heard; place = ap (λ (x : Decision). x.place) v; who = record { code = b.code; number = b.number; more = b.more; first = b.first; repeats = b.repeats; decision = decided_by b.decision (record { place = length log; answer = answer }) }; now = z; decided = y; same = refl; named = refl; since = refl }
      by false z = all_later e log (b ∷ bs) h
  told_at e heard log (Hints sender) os q now h = all_later e log os h
  told_at e heard log (Brings number id payload) os q now h = all_later e log os h
  told_at e heard log Nothing os q now h = all_later e log os h

  pub are_at : (log : List LogEntry) → AreAt log (asks master slave log)
  are_at [] = tt
  are_at (Sent from to bytes ∷ log) = by (same_address from master && same_address to slave.address) (are_at log)
    where
      by : (t : Bool) → AreAt log (asks master slave log) → AreAt (Sent from to bytes ∷ log) (if t then with_asking (asking_in (length log) (message_in bytes)) (asks master slave log) else asks master slave log)
      by true h = asked_at (Sent from to bytes) log (asking_in (length log) (message_in bytes)) (asks master slave log) (new_in (length log) (message_in bytes)) refl h
      by false h = all_later (Sent from to bytes) log (asks master slave log) h
  are_at (Got at from bytes ∷ log) = by (same_address at master && same_address from slave.address) refl (are_at log)
    where
      now : Bool → List Asking
      now t = if t then with_news slave.id (length log) (news_of bytes) (asks master slave log) else asks master slave log

      by : (t : Bool) → (same_address at master && same_address from slave.address) ≡ t → AreAt log (asks master slave log) → AreAt (Got at from bytes ∷ log) (if t then with_news slave.id (length log) (news_of bytes) (asks master slave log) else asks master slave log)
      by true f h = told_at (Got at from bytes) (record { at = at; from = from; bytes = bytes; is = refl; own = (and_parts (same_address at master) (same_address from slave.address) f).0 }) log (news_of bytes) (asks master slave log) refl (ap (λ (t : Bool). if t then with_news slave.id (length log) (news_of bytes) (asks master slave log) else asks master slave log) f) h
      by false f h = all_later (Got at from bytes) log (asks master slave log) h
  are_at (Idle at ∷ log) = all_later (Idle at) log (asks master slave log) (are_at log)
  are_at (Turn at ∷ log) = all_later (Turn at) log (asks master slave log) (are_at log)

  pub at_one : (log : List LogEntry) (front : List Asking) (b : Asking) (tail : List Asking) → AreAt log (front ++ b ∷ tail) → OneAt log b tail
  at_one log [] b tail h = h.0
  at_one log (c ∷ front) b tail h = at_one log front b tail h.1
