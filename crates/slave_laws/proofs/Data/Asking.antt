-- A master asks requests alone.
use Rattle.std.proofs.Common.{◌≡◌, ℕ, ◌==◌, ◌&&◌, Bool, true, false, if◌then◌else◌, inl, inr, List, [], ◌∷◌, Option, Some, None, refl, sym, ap, ◌∙◌, subst}
use Rattle.dcp_types.specs.declared.addresses.Address.{Address}
use Rattle.dcp_ends.specs.declared.entries.LogEntry.{LogEntry}
use Rattle.dcp_ends.specs.declared.entries.LogEntry.TheVariants.{Sent, Got, Idle, Turn}
use Rattle.pdu_layout.specs.Fields.{FieldValue}
use Rattle.pdu_layout.specs.Fields.FieldValue.{Number, Signed, Bytes}
use Rattle.pdu_layout.specs.Message.{Message}
use Rattle.slave_desc.specs.declared.descriptions.SlaveDesc.{SlaveDesc}
use Rattle.scenario.specs.declared.scenarios.Scenario.{Scenario}
use Rattle.log_spec.specs.Messages.{Note, Role, Request, Answer, Value, Else, Class, Asking, Answering, Carrying, Noting, between, is_request_code, class_of, role_by, role_read}
use Rattle.log_spec.specs.Log.{Parties, same, role_heard}
use Rattle.log_spec.specs.Moves.{Move, Asks, Comes, Tells, Hears, Brings, Turns, Rests, Other, sent_move, got_move, move, decided_exchanges}
use Rattle.lockstep_laws.specs.Master.{IsNewRequest, MasterMay}
use Rattle.lockstep_laws.specs.Models.Scenarios.{slave_numbered}
use Rattle.plan_laws.specs.Course.Courses.{may}
use Rattle.slave_laws.specs.Data.Made.{parties, slaves}
use Rattle.slave_laws.specs.Data.Whole.{slaves_asked, MasterAsksRequests}

-- ---- a request is one by its code
asking_code : (code : ℕ) → class_of code ≡ Asking → is_request_code code ≡ true
asking_code code h = by (is_request_code code) refl h
  where
    other : (b c : Bool) → (if b then Answering else (if c then Carrying else Noting)) ≡ Asking → ⊥
    other true c k = cc
    other false true k = cc
    other false false k = cc

    by : (b : Bool) → is_request_code code ≡ b → (if b then Asking else (if between 176 180 code then Answering else (if code == 240 then Carrying else Noting))) ≡ Asking → is_request_code code ≡ true
    by true e k = e
    by false e k = absurd (other (between 176 180 code) (code == 240) k)

asking_of : (c : Class) (vs : List FieldValue) (m : Message) (receiver : ℕ) (n : Note) → role_by c vs m ≡ Request receiver n → (c ≡ Asking) × (n.message ≡ m)
asking_of Asking (Number a ∷ Number b ∷ vs) m receiver n h = let e : record { number = a; message = m } ≡ n = cc in (refl, sym (ap (λ (z : Note). z.message) e))
asking_of Asking (Number a ∷ Signed b ∷ vs) m receiver n h = absurd cc
asking_of Asking (Number a ∷ Bytes b ∷ vs) m receiver n h = absurd cc
asking_of Asking (Number a ∷ []) m receiver n h = absurd cc
asking_of Asking (Signed a ∷ vs) m receiver n h = absurd cc
asking_of Asking (Bytes a ∷ vs) m receiver n h = absurd cc
asking_of Asking [] m receiver n h = absurd cc
asking_of Answering (Number a ∷ Number b ∷ vs) m receiver n h = absurd cc
asking_of Answering (Number a ∷ Signed b ∷ vs) m receiver n h = absurd cc
asking_of Answering (Number a ∷ Bytes b ∷ vs) m receiver n h = absurd cc
asking_of Answering (Number a ∷ []) m receiver n h = absurd cc
asking_of Answering (Signed a ∷ vs) m receiver n h = absurd cc
asking_of Answering (Bytes a ∷ vs) m receiver n h = absurd cc
asking_of Answering [] m receiver n h = absurd cc
asking_of Carrying (Number a ∷ Number b ∷ vs) m receiver n h = absurd cc
asking_of Carrying (Number a ∷ Signed b ∷ vs) m receiver n h = absurd cc
asking_of Carrying (Number a ∷ Bytes b ∷ vs) m receiver n h = absurd cc
asking_of Carrying (Number a ∷ []) m receiver n h = absurd cc
asking_of Carrying (Signed a ∷ vs) m receiver n h = absurd cc
asking_of Carrying (Bytes a ∷ vs) m receiver n h = absurd cc
asking_of Carrying [] m receiver n h = absurd cc
asking_of Noting (v ∷ vs) m receiver n h = absurd cc
asking_of Noting [] m receiver n h = absurd cc

request_code : (w : Parties) (bytes : List ℕ) (receiver : ℕ) (n : Note) → role_heard w bytes ≡ Request receiver n → is_request_code n.message.code ≡ true
request_code w bytes receiver n h = by (w.read bytes) h
  where
    by : (o : Option Message) → role_read o ≡ Request receiver n → is_request_code n.message.code ≡ true
    by None k = absurd cc
    by (Some m) k = let a = asking_of (class_of m.code) m.values m receiver n k in asking_code n.message.code (ap (λ (z : Message). class_of z.code) a.1 ∙ a.0)

-- ---- what is asked is one
module _ (w : Parties) (s : ℕ) (n : Note) where
  abbrev IsRequest : Type 0
  IsRequest = is_request_code n.message.code ≡ true

  told_no : (to : Address) (bytes : List ℕ) (c : Bool) → (if c then Tells to bytes else Other) ≡ Asks n → ⊥
  told_no to bytes true h = cc
  told_no to bytes false h = cc

  sent_code : (from to : Address) (bytes : List ℕ) (k : Role) → role_heard w bytes ≡ k → sent_move w s from to bytes k ≡ Asks n → IsRequest
  sent_code from to bytes (Request receiver m) e h = by (same from w.master && same to (w.slave s)) h
    where
      by : (b : Bool) → (if b then Asks m else (if same from (w.slave s) then Tells to bytes else Other)) ≡ Asks n → IsRequest
      by true k = let is : m ≡ n = cc in let P : Note → Type 0 = λ z. is_request_code z.message.code ≡ true in subst P is (request_code w bytes receiver m e)
      by false k = absurd (told_no to bytes (same from (w.slave s)) k)
  sent_code from to bytes (Answer sender m) e h = absurd (told_no to bytes (same from (w.slave s)) h)
  sent_code from to bytes (Value id m) e h = absurd (told_no to bytes (same from (w.slave s)) h)
  sent_code from to bytes Else e h = absurd (told_no to bytes (same from (w.slave s)) h)

  got_no : (at' from : Address) (k : Role) → got_move w s at' from k ≡ Asks n → ⊥
  got_no at' from (Request receiver m) h = by (same at' (w.slave s)) h
    where
      by : (b : Bool) → (if b then Comes from receiver m else Other) ≡ Asks n → ⊥
      by true k = cc
      by false k = cc
  got_no at' from (Answer sender m) h = by (same at' (w.slave s)) ((same at' w.master && same from (w.slave s)) && (sender == s)) h
    where
      by : (b c : Bool) → (if b then Rests else (if c then Hears m else Other)) ≡ Asks n → ⊥
      by true c k = cc
      by false true k = cc
      by false false k = cc
  got_no at' from (Value id m) h = by (same at' (w.slave s)) h
    where
      by : (b : Bool) → (if b then Brings from id m else Other) ≡ Asks n → ⊥
      by true k = cc
      by false k = cc
  got_no at' from Else h = by (same at' (w.slave s)) h
    where
      by : (b : Bool) → (if b then Rests else Other) ≡ Asks n → ⊥
      by true k = cc
      by false k = cc

  asked_code : (e : LogEntry) → move w s e ≡ Asks n → IsRequest
  asked_code (Sent from to bytes) h = sent_code from to bytes (role_heard w bytes) refl h
  asked_code (Got at' from bytes) h = absurd (got_no at' from (role_heard w bytes) h)
  asked_code (Idle at') h = absurd (by (same at' (w.slave s)) h)
    where
      by : (b : Bool) → (if b then Rests else Other) ≡ Asks n → ⊥
      by true k = cc
      by false k = cc
  asked_code (Turn at') h = absurd (by (same at' (w.slave s)) h)
    where
      by : (b : Bool) → (if b then Turns else Other) ≡ Asks n → ⊥
      by true k = cc
      by false k = cc

-- ---- so it may be asked
module _ (sc : Scenario) (other : SlaveDesc) where
  both : (a b : Bool) → a ≡ true → b ≡ true → (a && b) ≡ true
  both true true h k = refl
  both true false h k = k
  both false b h k = h

  new_asked : (s : ℕ) (n : Note) (log : List LogEntry) → is_request_code n.message.code ≡ true → IsNewRequest (parties sc other) (slaves sc other) s n log → IsNewRequest (parties sc other) (slaves_asked sc other) s n log
  new_asked s n log code h = record {
    closed = h.closed;
    number = h.number;
    first = h.first;
    may = both (is_request_code n.message.code) (may sc s (slave_numbered sc other s) (decided_exchanges (parties sc other) s log) n) code h.may;
    barrier = λ k e. let b = h.barrier k e in record { free = b.free; next = b.next; least = b.least; opened = b.opened; within = b.within };
  }

  may_asked : (s : ℕ) (mv : Move) (log : List LogEntry) → ((n : Note) → mv ≡ Asks n → is_request_code n.message.code ≡ true) → MasterMay (parties sc other) (slaves sc other) s mv log → MasterMay (parties sc other) (slaves_asked sc other) s mv log
  may_asked s (Asks n) log f (inl h) = inl h
  may_asked s (Asks n) log f (inr h) = inr (new_asked s n log (f n refl) h)
  may_asked s (Comes from receiver n) log f h = tt
  may_asked s (Tells to bytes) log f h = tt
  may_asked s (Hears n) log f h = tt
  may_asked s (Brings from id n) log f h = tt
  may_asked s Turns log f h = tt
  may_asked s Rests log f h = tt
  may_asked s Other log f h = tt

pub asks_requests : MasterAsksRequests
asks_requests sc other [] h = tt
asks_requests sc other (e ∷ log) h = (λ s is. may_asked sc other s (move (parties sc other) s e) log (λ n k. asked_code (parties sc other) s n e k) (h.0 s is), asks_requests sc other log h.1)
