-- What a slave sends reads back where it is in range: answers as answers, notices as neither, data as data.
use Rattle.std.proofs.Common.{◌≡◌, ℕ, ◌+◌, ◌<◌, ◌≤◌, List, [], ◌∷◌, ◌++◌, length, Some, refl, ap, ◌∙◌, arith}
use Rattle.std.proofs.lemmas.List.{length-append}
use Rattle.dcp_types.specs.declared.states.State.{State}
use Rattle.dcp_types.specs.declared.error_codes.ErrorCode.{ErrorCode}
use Rattle.dcp_types.specs.declared.fault_codes.FaultCode.{FaultCode}
use Rattle.dcp_types.specs.Codes.{state_code, error_code, fault_code}
use Rattle.dcp_types.specs.Values.{digits}
use Rattle.pdu_layout.specs.declared.fields.FieldKind.{FieldKind}
use Rattle.pdu_layout.specs.declared.fields.FieldKind.TheVariants.{U8, U16, StateCode, Rest}
use Rattle.pdu_layout.specs.Fields.{FitEach, spelled}
use Rattle.pdu_layout.specs.Table.{kinds_for}
use Rattle.pdu_layout.specs.Message.{Message}
use Rattle.pdu_layout.specs.Reading.{message_in, spelling}
use Rattle.pdu_codec.proofs.Told.{read_as_spelled, has_spelling}
use Rattle.log_spec.specs.Messages.{Role, Answer, Value, Else, role_of, role_read}
use Rattle.log_spec.specs.Log.{Parties, role_heard}
use Rattle.slave_log.specs.declared.lines.LogLine.{LogLine}
use Rattle.slave_log.specs.Shelves.{notice_bytes}
use Rattle.slave_spec.specs.Payloads.{data_message}
use Rattle.slave_spec.specs.declared.words.SlaveRequest.{SlaveRequest}
use Rattle.slave_spec.specs.Transport as transport
use Rattle.slave_spec.specs.Transport.{answer_message, notice_message, Notice, Changed, Noted}
use Rattle.slave_laws.specs.Talk.Desks.{answer_note, IsAnswer}
use Rattle.slave_laws.specs.Talk.Ranges.{AreBytes, RequestFits, AnswerFits, LineFits}
use Rattle.slave_laws.specs.Talk.Sends.{ReadsMessages}
use Rattle.slave_laws.proofs.Talk.Bytes.{bytes_at}
use Rattle.slave_laws.proofs.Talk.Shelves.{notice_are, notice_length}

-- ---- codes
pub state_small : (s : State) → state_code s < 19
state_small s = grind arith

pub error_small : (c : ErrorCode) → error_code c < 256
error_small c = grind arith

pub fault_small : (c : FaultCode) → fault_code c < 256
fault_small c = grind arith

-- ---- messages
-- a message whose fields fit is read from its bytes
reads : (m : Message) (ks : List FieldKind) → kinds_for m.code ≡ Some ks → FitEach ks 0 m.values → length (m.code ∷ spelled ks 0 m.values) ≤ 1024 → message_in (spelling m) ≡ Some m
reads m ks k f le = (read_as_spelled m (spelling m)).1 (has_spelling m (m.code ∷ spelled ks 0 m.values, record { kinds = ks; listed = k; fits = f; bytes = refl; at_most = le }))

rest_length : (xs : List ℕ) (few most : ℕ) → length xs ≤ most → few + length (xs ++ []) ≤ few + most
rest_length xs few most le = omega (arith, length-append xs [])

answer_reads : (r : SlaveRequest) (next : ℕ) (a : transport.SlaveAnswer) → RequestFits r → next < 65536 → AnswerFits a → message_in (spelling (answer_message r next a)) ≡ Some (answer_message r next a)
unfolding digits
answer_reads r next transport.Ack f n g = reads (answer_message r next transport.Ack) (U16 ∷ U8 ∷ []) refl (f.number, (f.receiver, tt)) (omega arith)
answer_reads r next (transport.Nack code) f n g = reads (answer_message r next (transport.Nack code)) (U16 ∷ U8 ∷ U16 ∷ U16 ∷ []) refl (f.number, (f.receiver, (n, (omega (arith, error_small code), tt)))) (omega arith)
answer_reads r next (transport.StateAck state) f n g = reads (answer_message r next (transport.StateAck state)) (U16 ∷ U8 ∷ StateCode ∷ []) refl (f.number, (f.receiver, (state_small state, tt))) (omega arith)
answer_reads r next (transport.ErrorAck code) f n g = reads (answer_message r next (transport.ErrorAck code)) (U16 ∷ U8 ∷ U16 ∷ []) refl (f.number, (f.receiver, (g, tt))) (omega arith)
answer_reads r next (transport.LogAck entries) f n g = reads (answer_message r next (transport.LogAck entries)) (U16 ∷ U8 ∷ Rest ∷ []) refl (f.number, (f.receiver, (bytes_at entries g.0, tt))) (omega (arith, rest_length entries 4 704 g.1))

notice_reads : (id : ℕ) (n : Notice) → id < 256 → ((e : LogLine) → n ≡ Noted e → LineFits e) → message_in (spelling (notice_message id n)) ≡ Some (notice_message id n)
unfolding digits
notice_reads id (Changed state) f g = reads (notice_message id (Changed state)) (U8 ∷ StateCode ∷ []) refl (f, (state_small state, tt)) (omega arith)
notice_reads id (Noted e) f g =
    let h = g e refl in
    reads (notice_message id (Noted e)) (U8 ∷ U8 ∷ U8 ∷ Rest ∷ []) refl (f, (h.category, (h.level, (bytes_at (notice_bytes e) (notice_are e h), tt)))) (omega (arith, rest_length (notice_bytes e) 4 9 (omega (arith, notice_length e))))

data_reads : (number id : ℕ) (payload : List ℕ) → number < 65536 → id < 65536 → AreBytes payload → length payload ≤ 64 → message_in (spelling (data_message number id payload)) ≡ Some (data_message number id payload)
unfolding digits
data_reads number id payload a b c le = reads (data_message number id payload) (U16 ∷ U16 ∷ Rest ∷ []) refl (a, (b, (bytes_at payload c, tt))) (omega (arith, rest_length payload 5 64 le))

-- ---- what they are in a run
heard_as : (w : Parties) → ReadsMessages w → (m : Message) (k : Role) → message_in (spelling m) ≡ Some m → role_of m ≡ k → role_heard w (spelling m) ≡ k
heard_as w rd m k e f = ap role_read (rd (spelling m) ∙ e) ∙ f

answer_role : (r : SlaveRequest) (next : ℕ) (a : transport.SlaveAnswer) → role_of (answer_message r next a) ≡ Answer r.receiver (answer_note r next a)
answer_role r next transport.Ack = refl
answer_role r next (transport.Nack code) = refl
answer_role r next (transport.StateAck state) = refl
answer_role r next (transport.ErrorAck code) = refl
answer_role r next (transport.LogAck entries) = refl

notice_role : (id : ℕ) (n : Notice) → role_of (notice_message id n) ≡ Else
notice_role id (Changed state) = refl
notice_role id (Noted e) = refl

module _ (w : Parties) (rd : ReadsMessages w) where
  pub answer_is : (to : _) (r : SlaveRequest) (next : ℕ) (a : transport.SlaveAnswer) → RequestFits r → next < 65536 → AnswerFits a → IsAnswer w to r next a
  answer_is to r next a f n g = heard_as w rd (answer_message r next a) (Answer r.receiver (answer_note r next a)) (answer_reads r next a f n g) (answer_role r next a)

  pub notice_is : (id : ℕ) (n : Notice) → id < 256 → ((e : LogLine) → n ≡ Noted e → LineFits e) → role_heard w (spelling (notice_message id n)) ≡ Else
  notice_is id n f g = heard_as w rd (notice_message id n) Else (notice_reads id n f g) (notice_role id n)

  pub data_is : (number id : ℕ) (payload : List ℕ) → number < 65536 → id < 65536 → AreBytes payload → length payload ≤ 64
      → role_heard w (spelling (data_message number id payload)) ≡ Value id (record { number = number; message = data_message number id payload })
  data_is number id payload a b c le = heard_as w rd (data_message number id payload) (Value id (record { number = number; message = data_message number id payload })) (data_reads number id payload a b c le) refl
