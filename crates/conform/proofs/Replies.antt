-- The answer that a message gives.
use Rattle.std.proofs.Common.{◌≡◌, ◌<◌, ℕ, zero, suc, ◌-◌, ◌%◌, ◌/◌, List, [], ◌∷◌, ◌++◌, length, take, drop, slice_index_or, refl, ap, sym, ◌∙◌, arith}
use Rattle.std.proofs.lemmas.List.{append-nil}
use Rattle.dcp_types.specs.declared.addresses.Address.{Address}
use Rattle.dcp_types.specs.declared.states.State.{State}
use Rattle.dcp_types.specs.declared.states.State.TheVariants.{Alive, Configuration, Preparing, Prepared, Configuring, Configured, Initializing, Initialized, SendingI, Synchronizing, Synchronized, Running, Computing, Computed, SendingD, Stopping, Stopped, ErrorHandling, ErrorResolved}
use Rattle.dcp_types.specs.declared.error_codes.ErrorCode.{ErrorCode}
use Rattle.dcp_types.specs.declared.error_codes.ErrorCode.TheVariants.{Sequence, WrongState, NotSupported, UnknownVr, TypeMismatch, Position, IncompleteConfig, InputsMissing, BadSteps, UuidMismatch, Version, OpMode, ValueRange, InErrorState}
use Rattle.dcp_types.specs.Codes.{state_code, error_code}
use Rattle.dcp_types.specs.Values.{digits}
use Rattle.dcp_ends.specs.Events.{Send}
use Rattle.pdu_layout.specs.Reading.{spelling}
use Rattle.slave_spec.specs.declared.words.SlaveRequest.{SlaveRequest}
use Rattle.slave_spec.specs.Heard.{state_from}
use Rattle.slave_spec.specs.Transport.{SlaveAnswer, Ack, Nack, StateAck, ErrorAck, LogAck, answer_message}
use Rattle.conform.specs.Asking.{reply}

-- ---- codes

codes : List ErrorCode
codes = Sequence ∷ WrongState ∷ NotSupported ∷ UnknownVr ∷ TypeMismatch ∷ Position ∷ IncompleteConfig ∷ InputsMissing ∷ BadSteps ∷ UuidMismatch ∷ Version ∷ OpMode ∷ ValueRange ∷ InErrorState ∷ []

error_from : ℕ → ErrorCode
error_from n = slice_index_or codes (n - 1) Sequence

error_is : (code : ErrorCode) → error_from (error_code code % 256) ≡ code
unfolding codes error_from
error_is Sequence = refl
error_is WrongState = refl
error_is NotSupported = refl
error_is UnknownVr = refl
error_is TypeMismatch = refl
error_is Position = refl
error_is IncompleteConfig = refl
error_is InputsMissing = refl
error_is BadSteps = refl
error_is UuidMismatch = refl
error_is Version = refl
error_is OpMode = refl
error_is ValueRange = refl
error_is InErrorState = refl

same_error : (a b : ErrorCode) → error_code a % 256 ≡ error_code b % 256 → a ≡ b
same_error a b e = sym (error_is a) ∙ ap error_from e ∙ error_is b

state_kept : (s : State) → state_from (state_code s % 256) ≡ s
state_kept Alive = refl
state_kept Configuration = refl
state_kept Preparing = refl
state_kept Prepared = refl
state_kept Configuring = refl
state_kept Configured = refl
state_kept Initializing = refl
state_kept Initialized = refl
state_kept SendingI = refl
state_kept Synchronizing = refl
state_kept Synchronized = refl
state_kept Running = refl
state_kept Computing = refl
state_kept Computed = refl
state_kept SendingD = refl
state_kept Stopping = refl
state_kept Stopped = refl
state_kept ErrorHandling = refl
state_kept ErrorResolved = refl

pub same_state : (a b : State) → state_code a % 256 ≡ state_code b % 256 → a ≡ b
same_state a b e = sym (state_kept a) ∙ ap state_from e ∙ state_kept b

-- ---- bytes

abbrev kind : SlaveAnswer → ℕ
kind Ack = 176
kind (Nack code) = 177
kind (StateAck state) = 178
kind (ErrorAck code) = 179
kind (LogAck entries) = 180

abbrev tail : (next : ℕ) → SlaveAnswer → List ℕ
tail next Ack = []
tail next (Nack code) = next % 256 ∷ next / 256 % 256 ∷ error_code code % 256 ∷ error_code code / 256 % 256 ∷ []
tail next (StateAck state) = state_code state % 256 ∷ []
tail next (ErrorAck code) = code % 256 ∷ code / 256 % 256 ∷ []
tail next (LogAck entries) = entries

pub bytes_are : (r : SlaveRequest) (next : ℕ) (a : SlaveAnswer) → spelling (answer_message r next a) ≡ kind a ∷ r.number % 256 ∷ r.number / 256 % 256 ∷ r.receiver % 256 ∷ tail next a
unfolding spelling digits
bytes_are r next Ack = refl
bytes_are r next (Nack code) = refl
bytes_are r next (StateAck state) = refl
bytes_are r next (ErrorAck code) = refl
bytes_are r next (LogAck entries) = ap (λ (l : List ℕ). 180 ∷ r.number % 256 ∷ r.number / 256 % 256 ∷ r.receiver % 256 ∷ l) (append-nil entries)

-- a fault has a code of two bytes
abbrev pub IsReply : SlaveAnswer → Type 0
IsReply (ErrorAck code) = code < 65536
IsReply answer = Unit {0}

same_code : (a b : ℕ) → a < 65536 → b < 65536 → a % 256 ≡ b % 256 → a / 256 % 256 ≡ b / 256 % 256 → a ≡ b
same_code a b x y e f = omega arith

apart : (next : ℕ) (a b : SlaveAnswer) → IsReply a → IsReply b → kind a ≡ kind b → tail next a ≡ tail next b → a ≡ b
apart next Ack Ack x y k t = refl
apart next Ack (Nack code2) x y k t = absurd (omega (arith, k))
apart next Ack (StateAck state2) x y k t = absurd (omega (arith, k))
apart next Ack (ErrorAck code2) x y k t = absurd (omega (arith, k))
apart next Ack (LogAck entries2) x y k t = absurd (omega (arith, k))
apart next (Nack code) Ack x y k t = absurd (omega (arith, k))
apart next (Nack code) (Nack code2) x y k t = let e : error_code code % 256 ≡ error_code code2 % 256 = cc in ap (λ (c : ErrorCode). Nack c) (same_error code code2 e)
apart next (Nack code) (StateAck state2) x y k t = absurd (omega (arith, k))
apart next (Nack code) (ErrorAck code2) x y k t = absurd (omega (arith, k))
apart next (Nack code) (LogAck entries2) x y k t = absurd (omega (arith, k))
apart next (StateAck state) Ack x y k t = absurd (omega (arith, k))
apart next (StateAck state) (Nack code2) x y k t = absurd (omega (arith, k))
apart next (StateAck state) (StateAck state2) x y k t = let e : state_code state % 256 ≡ state_code state2 % 256 = cc in ap (λ (c : State). StateAck c) (same_state state state2 e)
apart next (StateAck state) (ErrorAck code2) x y k t = absurd (omega (arith, k))
apart next (StateAck state) (LogAck entries2) x y k t = absurd (omega (arith, k))
apart next (ErrorAck code) Ack x y k t = absurd (omega (arith, k))
apart next (ErrorAck code) (Nack code2) x y k t = absurd (omega (arith, k))
apart next (ErrorAck code) (StateAck state2) x y k t = absurd (omega (arith, k))
apart next (ErrorAck code) (ErrorAck code2) x y k t = let e : code % 256 ≡ code2 % 256 = cc in let f : code / 256 % 256 ≡ code2 / 256 % 256 = cc in ap (λ (c : ℕ). ErrorAck c) (same_code code code2 x y e f)
apart next (ErrorAck code) (LogAck entries2) x y k t = absurd (omega (arith, k))
apart next (LogAck entries) Ack x y k t = absurd (omega (arith, k))
apart next (LogAck entries) (Nack code2) x y k t = absurd (omega (arith, k))
apart next (LogAck entries) (StateAck state2) x y k t = absurd (omega (arith, k))
apart next (LogAck entries) (ErrorAck code2) x y k t = absurd (omega (arith, k))
apart next (LogAck entries) (LogAck entries2) x y k t = ap (λ (l : List ℕ). LogAck l) t

pub same_answer : (to : Address) (r : SlaveRequest) (next : ℕ) (a b : SlaveAnswer) → IsReply a → IsReply b → reply to r next a ≡ reply to r next b → a ≡ b
same_answer to r next a b x y e =
    let f : kind a ∷ r.number % 256 ∷ r.number / 256 % 256 ∷ r.receiver % 256 ∷ tail next a ≡ kind b ∷ r.number % 256 ∷ r.number / 256 % 256 ∷ r.receiver % 256 ∷ tail next b =
    sym (bytes_are r next a) ∙ ap (λ (s : Send). s.bytes) e ∙ bytes_are r next b in
    let k : kind a ≡ kind b = cc in
    let t : tail next a ≡ tail next b = cc in
    apart next a b x y k t

-- an answer with entries is its beginning and then the entries
pub entries_are : (to : Address) (r : SlaveRequest) (next : ℕ) (head sent : Send) → head ≡ reply to r 0 (LogAck []) → head.to ≡ sent.to → take (length head.bytes) sent.bytes ≡ head.bytes
    → sent ≡ reply to r next (LogAck (drop 4 sent.bytes))
entries_are to r next head sent e same front =
    let h : head.bytes ≡ 180 ∷ r.number % 256 ∷ r.number / 256 % 256 ∷ r.receiver % 256 ∷ [] = ap (λ (s : Send). s.bytes) e ∙ bytes_are r 0 (LogAck []) in
    let f : take 4 sent.bytes ≡ 180 ∷ r.number % 256 ∷ r.number / 256 % 256 ∷ r.receiver % 256 ∷ [] = sym (ap (λ (l : List ℕ). take (length l) sent.bytes) h) ∙ front ∙ h in
    let b : sent.bytes ≡ spelling (answer_message r next (LogAck (drop 4 sent.bytes))) =
    sym (take_drop 4 sent.bytes) ∙ ap (λ (l : List ℕ). l ++ drop 4 sent.bytes) f ∙ sym (bytes_are r next (LogAck (drop 4 sent.bytes))) in
    let a : sent.to ≡ to = sym same ∙ ap (λ (s : Send). s.to) e in
    make sent.to to sent.bytes (spelling (answer_message r next (LogAck (drop 4 sent.bytes)))) a b
  where
    take_drop : (n : ℕ) (l : List ℕ) → take n l ++ drop n l ≡ l
    take_drop zero l = refl
    take_drop (suc n) [] = refl
    take_drop (suc n) (x ∷ l) = ap (λ (k : List ℕ). x ∷ k) (take_drop n l)

    make : (x y : Address) (b c : List ℕ) → x ≡ y → b ≡ c → (let s : Send = record { to = x; bytes = b } in s) ≡ (let s : Send = record { to = y; bytes = c } in s)
    make x y b c e f = ap (λ (a : Address). let s : Send = record { to = a; bytes = b } in s) e ∙ ap (λ (l : List ℕ). let s : Send = record { to = y; bytes = l } in s) f
