-- A request that was taken is answered.
use Rattle.std.proofs.Common.{◌≡◌, ◌≤◌, ◌<◌, ℕ, zero, suc, ◌%◌, ◌/◌, Bool, true, false, List, [], ◌∷◌, ◌++◌, length, map, take, drop, slice_get, slice_index_or, Option, Some, None, refl, ap, sym, subst, ◌∙◌, arith, Contains, ◌⊎◌, inl, inr, length-drop, if◌then◌else◌}
use Rattle.dcp_types.specs.declared.addresses.Address.{Address}
use Rattle.dcp_types.specs.declared.error_codes.ErrorCode.{ErrorCode}
use Rattle.dcp_types.specs.declared.error_codes.ErrorCode.TheVariants as errors
use Rattle.dcp_types.specs.declared.fault_codes.FaultCode.{FaultCode}
use Rattle.dcp_types.specs.declared.fault_codes.FaultCode.TheVariants as faults
use Rattle.dcp_types.specs.Codes.{fault_code}
use Rattle.dcp_ends.specs.Events.{Event, Send}
use Rattle.pdu_layout.specs.declared.messages.Stc.TheVariants as stc
use Rattle.pdu_layout.specs.declared.messages.Cfg.{Cfg}
use Rattle.pdu_layout.specs.declared.messages.Cfg.TheVariants as cfg
use Rattle.pdu_layout.specs.declared.messages.Inf.TheVariants as inf
use Rattle.slave_desc.specs.declared.descriptions.SlaveDesc.{SlaveDesc}
use Rattle.slave_spec.specs.declared.words.Asked.{Asked}
use Rattle.slave_spec.specs.declared.words.Asked.TheVariants.{Change, Setting, Question}
use Rattle.slave_spec.specs.declared.words.Fate.{Fate}
use Rattle.slave_spec.specs.declared.words.Session.{Session}
use Rattle.slave_spec.specs.declared.words.Session.TheVariants.{Before, During, After}
use Rattle.slave_spec.specs.declared.words.SlaveRequest.{SlaveRequest}
use Rattle.slave_spec.specs.Heard.{Heard}
use Rattle.slave_spec.specs.Requests.{is_category}
use Rattle.slave_spec.specs.Transport.{SlaveAnswer, Ack, Nack, StateAck, ErrorAck, LogAck, sends, after, heard_sends, request_sends, after_heard, after_request, is_last, session_after}
use Rattle.slave_core.specs.Standing.{session_with}
use Rattle.slave_spec.specs.Foreign.{ForeignState, ForeignPlant, Choice, Stays, foreign, foreign_answers, foreign_answered, setting_answers, parameter_answers, logging_answers, fault_answers, log_answers, verdict, hands_out, MayAnswer, IsChoice, IsHeardChoice, IsFateChoice, AreNotices, MaySendAt, after_answer, answer_to}
use Rattle.slave_spec.specs.Standpoints.{Within, MayGoOn}
use Rattle.conform.specs.declared.followers.Follower.{Follower}
use Rattle.conform.specs.declared.followers.Awaited.TheVariants as awaited
use Rattle.conform.specs.declared.meanings.Meaning.{Meaning}
use Rattle.conform.specs.declared.meanings.Meaning.TheVariants as meanings
use Rattle.conform.specs.declared.plants.ForeignDevice.{ForeignDevice}
use Rattle.conform.specs.Plants.{ForeignFor}
use Rattle.conform.specs.Asking.{reply, heads, settled, is_ending, is_entries}
use Rattle.conform.specs.Standing.{StandsBetween, StandsWithin, IsOver, IsTaken, AwaitsAnswer, next_number, IsMessageHead}
use Rattle.conform.proofs.Replies.{IsReply, same_answer, entries_are, bytes_are}

-- ---- the answers that are listed

-- an answer that is listed names a fault by a code of two bytes, and hands out no entries
abbrev IsListed : SlaveAnswer → Type 0
IsListed (ErrorAck code) = code < 65536
IsListed (LogAck entries) = ⊥
IsListed answer = Unit {0}

abbrev AreListed : List SlaveAnswer → Type 0
AreListed [] = Unit {0}
AreListed (a ∷ answers) = IsListed a × AreListed answers

listed_at : (answers : List SlaveAnswer) (i : ℕ) (a : SlaveAnswer) → AreListed answers → slice_get answers i ≡ Some a → IsListed a
listed_at [] i a h e = absurd cc
listed_at (b ∷ answers) zero a h e = subst IsListed (cc) h.0
listed_at (b ∷ answers) (suc i) a h e = listed_at answers i a h.1 e

verdict_listed : (refused : Option ErrorCode) → IsListed (verdict refused)
verdict_listed None = tt
verdict_listed (Some code) = tt

parameter_listed : (refused : Option ErrorCode) → AreListed (parameter_answers refused)
parameter_listed None = (tt, (tt, tt))
parameter_listed (Some errors.ValueRange) = (tt, (tt, tt))
parameter_listed (Some code) = (tt, tt)

logging_listed : (b : Bool) (refused : Option ErrorCode) → AreListed (logging_answers b refused)
logging_listed true refused = (verdict_listed refused, tt)
logging_listed false refused = (tt, (verdict_listed refused, tt))

fault_below : (code : FaultCode) → fault_code code < 65536
fault_below faults.ModelOverflow = omega arith
fault_below faults.DivideByZero = omega arith
fault_below faults.OutOfRange = omega arith
fault_below faults.HeartbeatMissed = omega arith

map_listed : (codes : List FaultCode) → AreListed (map (λ c. ErrorAck (fault_code c)) codes)
map_listed [] = tt
map_listed (code ∷ codes) = (fault_below code, map_listed codes)

faults_listed : (codes : List FaultCode) → AreListed (fault_answers codes)
faults_listed [] = (omega arith, tt)
faults_listed (code ∷ codes) = map_listed (code ∷ codes)

log_listed : (category : ℕ) (b : Bool) → is_category category ≡ b → AreListed (log_answers category)
log_listed category true e = rw e (tt, tt)
log_listed category false e = rw e (tt, (tt, tt))

setting_listed : (d : SlaveDesc) (p : ForeignPlant) (body : Cfg) → AreListed (setting_answers d p body)
setting_listed d p (cfg.Parameter vr kind value) = parameter_listed _
setting_listed d p (cfg.Logging category level mode) = logging_listed _ _
setting_listed d p body = (verdict_listed _, tt)

are_listed : (d : SlaveDesc) (p : ForeignPlant) (asked : Asked) → AreListed (foreign_answers d p asked)
are_listed d p (Change named request) = (verdict_listed _, tt)
are_listed d p (Setting body) = setting_listed d p body
are_listed d p (Question inf.State) = (tt, tt)
are_listed d p (Question inf.Error) = faults_listed p.faults
are_listed d p (Question (inf.Log category most)) = log_listed category (is_category category) refl

pub listed_reply : (a : SlaveAnswer) → IsListed a → IsReply a
listed_reply Ack h = tt
listed_reply (Nack code) h = tt
listed_reply (StateAck state) h = tt
listed_reply (ErrorAck code) h = h
listed_reply (LogAck entries) h = tt

-- ---- the answers that are allowed

get_of : {A : Type 0} (xs : List A) (k : ℕ) (x : A) → k < length xs → slice_index_or xs k x ≡ x → slice_get xs k ≡ Some x
get_of [] k x lt e = absurd (omega (arith, lt))
get_of (y ∷ xs) zero x lt e = ap (λ z. Some z) e
get_of (y ∷ xs) (suc k) x lt e = get_of xs k x (omega (arith, lt)) e

index_of : {A : Type 0} (xs : List A) (k : ℕ) (x : A) → slice_get xs k ≡ Some x → (k < length xs) × (slice_index_or xs k x ≡ x)
index_of [] k x e = absurd cc
index_of (y ∷ xs) zero x e = (omega arith, cc)
index_of (y ∷ xs) (suc k) x e = let p = index_of xs k x e in (omega (arith, p.0), p.1)

abbrev Split : SlaveDesc → ForeignPlant → Asked → SlaveAnswer → Type 0
Split d p asked a =
    ((i : ℕ) × (slice_get (foreign_answers d p asked) i ≡ Some a)) ⊎ ((entries : List ℕ) × (a ≡ LogAck entries) × (hands_out asked ≡ true) × (length entries ≤ 1020))

contained : (d : SlaveDesc) (p : ForeignPlant) (asked : Asked) (a : SlaveAnswer) → Contains (foreign_answers d p asked) a → Split d p asked a
contained d p asked a (k, lt, e) = inl (k, get_of (foreign_answers d p asked) k a lt e)

pub may_split : (d : SlaveDesc) (p : ForeignPlant) (asked : Asked) (a : SlaveAnswer) → MayAnswer d p asked a → Split d p asked a
may_split d p asked Ack h = contained d p asked Ack h
may_split d p asked (Nack code) h = contained d p asked (Nack code) h
may_split d p asked (StateAck state) h = contained d p asked (StateAck state) h
may_split d p asked (ErrorAck code) h = contained d p asked (ErrorAck code) h
may_split d p asked (LogAck entries) h = inr (entries, refl, h.0, h.1)

pub may_listed : (d : SlaveDesc) (p : ForeignPlant) (asked : Asked) (i : ℕ) (a : SlaveAnswer) → slice_get (foreign_answers d p asked) i ≡ Some a → MayAnswer d p asked a × IsReply a
may_listed d p asked i a e = let k = index_of (foreign_answers d p asked) i a e in by a (i, k.0, k.1) (listed_at (foreign_answers d p asked) i a (are_listed d p asked) e)
  where
    by : (b : SlaveAnswer) → Contains (foreign_answers d p asked) b → IsListed b → MayAnswer d p asked b × IsReply b
    by Ack c l = (c, tt)
    by (Nack code) c l = (c, tt)
    by (StateAck state) c l = (c, tt)
    by (ErrorAck code) c l = (c, l)
    by (LogAck entries) c l = absurd l

may_reply : (d : SlaveDesc) (p : ForeignPlant) (asked : Asked) (a : SlaveAnswer) → MayAnswer d p asked a → IsReply a
may_reply d p asked a h = elim (may_split d p asked a h) [
  | inl e ↦ (may_listed d p asked e.0 a e.1).1
  | inr e ↦ subst IsReply (sym e.1) tt
]

-- ---- what is sent and what follows

module _ (d : SlaveDesc) (x : ForeignState) (event : Event) (from : Address) (r : SlaveRequest) (t : IsTaken d x event from r) where
  taken_sends : (c : Choice) → sends (foreign d c) x event ≡ answer_to x from r c.answer ∷ []
  taken_sends c =
      ap (λ (e : Event). sends (foreign d c) x e) t.is ∙ ap (λ (h : Heard). heard_sends (foreign d c) x from h) t.asks
      ∙ ap (λ (f : Fate). request_sends (foreign d c) x from r f) t.fate_is

  taken_after : (c : Choice) → after (foreign d c) x event ≡ after_answer d x from r c.answer
  taken_after c =
      ap (λ (e : Event). after (foreign d c) x e) t.is ∙ ap (λ (h : Heard). after_heard (foreign d c) x from h) t.asks
      ∙ ap (λ (f : Fate). after_request (foreign d c) x from r f) t.fate_is

  taken_free : (c : Choice) → IsChoice d x event c → MayAnswer d x.inner r.asked c.answer
  taken_free c h =
      subst (λ (f : Fate). IsFateChoice d x.inner r.asked f c) t.fate_is (subst (λ (k : Heard). IsHeardChoice d x from k c) t.asks (subst (λ (e : Event). IsChoice d x e c) t.is h))

  free_taken : (c : Choice) → MayAnswer d x.inner r.asked c.answer → IsChoice d x event c
  free_taken c h =
      subst (λ (e : Event). IsChoice d x e c) (sym t.is) (subst (λ (k : Heard). IsHeardChoice d x from k c) (sym t.asks) (subst (λ (f : Fate). IsFateChoice d x.inner r.asked f c) (sym t.fate_is) h))

  pub record IsAnswered (sent : List Send) (z : ForeignState) : Type 0 where
    pub answer : SlaveAnswer
    pub may : MayAnswer d x.inner r.asked answer
    pub rest : List Send
    pub sent_is : sent ≡ reply from r (next_number x r) answer ∷ rest
    pub after_is : z ≡ after_answer d x from r answer
    pub told : AreNotices (after_answer d x from r answer) rest

  pub is_answered : (sent : List Send) (z : ForeignState) → MaySendAt d x event sent z → IsAnswered sent z
  is_answered sent z may =
      let e : z ≡ after_answer d x from r may.choice.answer = may.after ∙ taken_after may.choice in
      record {
        answer = may.choice.answer;
        may = taken_free may.choice may.free;
        rest = may.notices;
        sent_is = may.sends ∙ ap (λ (l : List Send). l ++ may.notices) (taken_sends may.choice);
        after_is = e;
        told = subst (λ (w : ForeignState). AreNotices w may.notices) e may.told;
      }

  pub may_answered : (a : SlaveAnswer) (rest : List Send) → MayAnswer d x.inner r.asked a → AreNotices (after_answer d x from r a) rest
      → MaySendAt d x event (reply from r (next_number x r) a ∷ rest) (after_answer d x from r a)
  may_answered a rest h told =
      let c : Choice = record { answer = a; act = Stays; parcels = [] } in
      record {
        choice = c;
        free = free_taken c h;
        notices = rest;
        told = told;
        sends = ap (λ (l : List Send). l ++ rest) (sym (taken_sends c));
        after = sym (taken_after c);
      }

  -- after an answer that is allowed
  pub answered : (s : Send) (a : SlaveAnswer) → MayAnswer d x.inner r.asked a → s ≡ reply from r (next_number x r) a → IsOver d x event (s ∷ []) (after_answer d x from r a)
  answered s a h e = record {
    onward = λ rest z may.
        let k = is_answered (s ∷ rest) z may in
        let heads : s ≡ reply from r (next_number x r) k.answer = cc (k.sent_is) in
        let tails : rest ≡ k.rest = cc (k.sent_is) in
        let same : k.answer ≡ a = same_answer from r (next_number x r) k.answer a (may_reply d x.inner r.asked k.answer k.may) (may_reply d x.inner r.asked a h) (sym heads ∙ e) in (
          k.after_is ∙ ap (λ (b : SlaveAnswer). after_answer d x from r b) same,
          subst (λ (l : List Send). AreNotices (after_answer d x from r a) l) (sym tails) (subst (λ (b : SlaveAnswer). AreNotices (after_answer d x from r b) k.rest) same k.told),
        );
    back = λ rest told. subst (λ (w : Send). MaySendAt d x event (w ∷ rest) (after_answer d x from r a)) (sym e) (may_answered a rest h told);
  }

  -- a message that is no answer
  pub unanswered : (s : Send) → ((a : SlaveAnswer) → MayAnswer d x.inner r.asked a → s ≡ reply from r (next_number x r) a → ⊥) → MayGoOn d (Within x event (s ∷ [])) → ⊥
  unanswered s never (left, z, may) =
      let k = is_answered (s ∷ left) z may in
      never k.answer k.may (cc (k.sent_is))

-- ---- the follower

not_last : (asked : Asked) (entries : List ℕ) → is_last asked (LogAck entries) ≡ false
not_last (Change named (stc.Register uuid op_mode major minor)) entries = refl
not_last (Change named stc.Deregister) entries = refl
not_last (Change named stc.Prepare) entries = refl
not_last (Change named stc.Configure) entries = refl
not_last (Change named stc.Initialize) entries = refl
not_last (Change named (stc.Run start_time)) entries = refl
not_last (Change named (stc.DoStep steps)) entries = refl
not_last (Change named stc.SendOutputs) entries = refl
not_last (Change named stc.Stop) entries = refl
not_last (Change named stc.Reset) entries = refl
not_last (Setting body) entries = refl
not_last (Question q) entries = refl

pub is_meant : (m : Meaning) → is_entries m ≡ true → m ≡ meanings.Entries
is_meant meanings.Plain e = absurd cc
is_meant meanings.Last e = absurd cc
is_meant meanings.Logging e = absurd cc
is_meant meanings.Fault e = absurd cc
is_meant meanings.Entries e = refl

pub is_not_meant : (m : Meaning) → is_entries m ≡ false → m ≡ meanings.Entries → ⊥
is_not_meant m e f = let k : true ≡ false = sym (ap (λ (n : Meaning). is_entries n) f) ∙ e in absurd cc

-- where entries may be handed out, there is one other answer
other_one : (d : SlaveDesc) (p : ForeignPlant) (asked : Asked) → hands_out asked ≡ true → foreign_answers d p asked ≡ Nack errors.NotSupported ∷ []
other_one d p (Change named request) h = absurd cc
other_one d p (Setting body) h = absurd cc
other_one d p (Question inf.State) h = absurd cc
other_one d p (Question inf.Error) h = absurd cc
other_one d p (Question (inf.Log category most)) h = rw h refl

session_is : (session : Session) (from : Address) (r : SlaveRequest) (a : SlaveAnswer) → session_with session from r.receiver (is_last r.asked a) ≡ session_after session from r a
session_is Before from r a = refl
session_is (During master id) from r a = by (is_last r.asked a)
  where
    by : (b : Bool) → session_with (During master id) from r.receiver b ≡ (if b then After master id else During master id)
    by true = refl
    by false = refl
session_is (After master id) from r a = refl

module _ (c new : Follower) (meaning : Meaning) (d : SlaveDesc) (x : ForeignState) (event : Event) (from : Address) (r : SlaveRequest) (t : IsTaken d x event from r)
    (w : AwaitsAnswer c meaning d x from r) (s : Send) where
  stands : (a : SlaveAnswer) (plant : ForeignDevice) → s ≡ reply from r (next_number x r) a → ForeignFor plant d (foreign_answered d x.inner r.asked a) → is_last r.asked a ≡ is_ending meaning
      → StandsBetween (record c { plant = plant; kept = s.bytes; awaited = awaited.Notices }) d (after_answer d x from r a)
  stands a plant e f l = record {
    desc = w.desc;
    session = w.session ∙ ap (λ (b : Bool). session_with x.session from r.receiver b) (sym l) ∙ session_is x.session from r a;
    number = w.number;
    newest = ap (λ (k : Send). k.bytes) e;
    quiet = w.quiet;
    inner = f;
  }

  within : (a : SlaveAnswer) (plant : ForeignDevice) → MayAnswer d x.inner r.asked a → s ≡ reply from r (next_number x r) a → ForeignFor plant d (foreign_answered d x.inner r.asked a)
      → is_last r.asked a ≡ is_ending meaning → new ≡ record c { plant = plant; kept = s.bytes; awaited = awaited.Notices } → StandsWithin new d x event (s ∷ [])
  within a plant may e f l n =
      subst (λ (k : Follower). StandsWithin k d x event (s ∷ [])) (sym n) (after_answer d x from r a, stands a plant e f l, answered d x event from r t s a may e)

  -- it is one of the answers in the outbox
  pub listed_sent : (i : ℕ) → slice_get c.out i ≡ Some s → new ≡ record c { plant = settled meaning i c.plant; kept = s.bytes; awaited = awaited.Notices } → StandsWithin new d x event (s ∷ [])
  listed_sent i e n = elim (found (foreign_answers d x.inner r.asked) (heads meaning from r) i (subst (λ (l : List Send). slice_get l i ≡ Some s) w.asked.out_is e)) [
    | inl k ↦ within k.0 (settled meaning i c.plant) (may_listed d x.inner r.asked i k.0 k.1).0 k.2 (w.asked.after i k.0 k.1) (w.asked.last i k.0 k.1) n
    | inr k ↦ headed meaning refl i k n
  ]
    where
      found : (answers : List SlaveAnswer) (more : List Send) (i : ℕ) → slice_get (map (reply from r (next_number x r)) answers ++ more) i ≡ Some s
          → ((a : SlaveAnswer) × (slice_get answers i ≡ Some a) × (s ≡ reply from r (next_number x r) a)) ⊎ ((k : ℕ) × (slice_get more k ≡ Some s))
      found [] more i e = inr (i, e)
      found (a ∷ answers) more zero e = inl (a, refl, cc)
      found (a ∷ answers) more (suc i) e = found answers more i e

      one : (h : Send) (k : ℕ) → slice_get (h ∷ []) k ≡ Some s → s ≡ h
      one h zero e = cc
      one h (suc k) e = absurd cc

      entries : (i : ℕ) → meaning ≡ meanings.Entries → s ≡ reply from r (next_number x r) (LogAck []) → new ≡ record c { plant = settled meaning i c.plant; kept = s.bytes; awaited = awaited.Notices } → StandsWithin new d x event (s ∷ [])
      entries i m e n =
          let h : is_entries meaning ≡ true = ap (λ (k : Meaning). is_entries k) m in
          let plain : settled meaning i c.plant ≡ c.plant = ap (λ (k : Meaning). settled k i c.plant) m in
          let few : length {A = ℕ} [] ≤ 1020 = omega arith in
          within (LogAck []) c.plant (w.asked.entries ∙ h, few) e (w.asked.handed h) (not_last r.asked [] ∙ sym (ap (λ (k : Meaning). is_ending k) m))
          (n ∙ ap (λ (p : ForeignDevice). record c { plant = p; kept = s.bytes; awaited = awaited.Notices }) plain)

      headed : (m : Meaning) → meaning ≡ m → (i : ℕ) → ((k : ℕ) × (slice_get (heads m from r) k ≡ Some s)) → new ≡ record c { plant = settled meaning i c.plant; kept = s.bytes; awaited = awaited.Notices } → StandsWithin new d x event (s ∷ [])
      headed meanings.Plain e i (k, h) n = absurd cc
      headed meanings.Last e i (k, h) n = absurd cc
      headed meanings.Logging e i (k, h) n = absurd cc
      headed meanings.Fault e i (k, h) n = absurd cc
      headed meanings.Entries e i (k, h) n = entries i e (one _ k h) n

  -- it begins as an answer with entries
  pub entries_sent : meaning ≡ meanings.Entries → ((head : Send) → slice_get c.out 1 ≡ Some head → IsMessageHead head s) → new ≡ record c { plant = settled meanings.Entries 1 c.plant; kept = s.bytes; awaited = awaited.Notices }
      → StandsWithin new d x event (s ∷ [])
  entries_sent m begins n =
      let h : is_entries meaning ≡ true = ap (λ (k : Meaning). is_entries k) m in
      let hands : hands_out r.asked ≡ true = w.asked.entries ∙ h in
      let head : Send = reply from r 0 (LogAck []) in
      let o : c.out ≡ reply from r (next_number x r) (Nack errors.NotSupported) ∷ head ∷ [] =
      w.asked.out_is ∙ ap (λ (l : List SlaveAnswer). map (reply from r (next_number x r)) l ++ heads meaning from r) (other_one d x.inner r.asked hands)
      ∙ ap (λ (k : Meaning). reply from r (next_number x r) (Nack errors.NotSupported) ∷ heads k from r) m in
      let b = begins head (ap (λ (l : List Send). slice_get l 1) o) in
      let few : length (drop 4 s.bytes) ≤ 1020 = omega (arith, length-drop 4 s.bytes, b.few) in
      within (LogAck (drop 4 s.bytes)) c.plant (hands, few) (entries_are from r (next_number x r) head s refl b.to b.front) (w.asked.handed h)
      (not_last r.asked (drop 4 s.bytes) ∙ sym (ap (λ (k : Meaning). is_ending k) m)) n

  -- it is none of the answers
  pub not_sent : ((i : ℕ) → i < 3 → slice_get c.out i ≡ Some s → ⊥) → (meaning ≡ meanings.Entries → (head : Send) → slice_get c.out 1 ≡ Some head → IsMessageHead head s → ⊥) → MayGoOn d (Within x event (s ∷ [])) → ⊥
  not_sent none unbegun = unanswered d x event from r t s (λ a may e. elim (may_split d x.inner r.asked a may) [
    | inl k ↦ listed k.0 a k.1 e
    | inr k ↦ handed a k.0 k.1 k.2 k.3 e
  ])
    where
      placed : (answers : List SlaveAnswer) (more : List Send) (i : ℕ) (a : SlaveAnswer) → slice_get answers i ≡ Some a
          → slice_get (map (reply from r (next_number x r)) answers ++ more) i ≡ Some (reply from r (next_number x r) a)
      placed [] more i a e = absurd cc
      placed (b ∷ answers) more zero a e = cc
      placed (b ∷ answers) more (suc i) a e = placed answers more i a e

      listed : (i : ℕ) (a : SlaveAnswer) → slice_get (foreign_answers d x.inner r.asked) i ≡ Some a → s ≡ reply from r (next_number x r) a → ⊥
      listed i a k e =
          let few : i < 3 = omega (arith, w.asked.few, (index_of (foreign_answers d x.inner r.asked) i a k).0) in
          none i few (ap (λ (l : List Send). slice_get l i) w.asked.out_is ∙ placed (foreign_answers d x.inner r.asked) (heads meaning from r) i a k ∙ ap (λ (q : Send). Some q) (sym e))

      handed : (a : SlaveAnswer) (entries : List ℕ) → a ≡ LogAck entries → hands_out r.asked ≡ true → length entries ≤ 1020 → s ≡ reply from r (next_number x r) a → ⊥
      handed a entries k hands few e =
          let m : meaning ≡ meanings.Entries = is_meant meaning (sym w.asked.entries ∙ hands) in
          let head : Send = reply from r 0 (LogAck []) in
          let o : c.out ≡ reply from r (next_number x r) (Nack errors.NotSupported) ∷ head ∷ [] =
          w.asked.out_is ∙ ap (λ (l : List SlaveAnswer). map (reply from r (next_number x r)) l ++ heads meaning from r) (other_one d x.inner r.asked hands)
          ∙ ap (λ (k : Meaning). reply from r (next_number x r) (Nack errors.NotSupported) ∷ heads k from r) m in
          let f : s ≡ reply from r (next_number x r) (LogAck entries) = e ∙ ap (λ (b : SlaveAnswer). reply from r (next_number x r) b) k in
          let hb : head.bytes ≡ 180 ∷ r.number % 256 ∷ r.number / 256 % 256 ∷ r.receiver % 256 ∷ [] = bytes_are r 0 (LogAck []) in
          let sb : s.bytes ≡ 180 ∷ r.number % 256 ∷ r.number / 256 % 256 ∷ r.receiver % 256 ∷ entries = ap (λ (q : Send). q.bytes) f ∙ bytes_are r (next_number x r) (LogAck entries) in
          let front : take (length head.bytes) s.bytes ≡ head.bytes = ap (λ (l : List ℕ). take (length l) s.bytes) hb ∙ ap (λ (l : List ℕ). take 4 l) sb ∙ sym hb in
          let most : length s.bytes ≤ 1024 = omega (arith, few, ap length sb) in
          unbegun m head (ap (λ (l : List Send). slice_get l 1) o) (record { to = sym (ap (λ (q : Send). q.to) f); front = front; few = most })
