-- A message, and its one spelling.
use Rattle.std.specs.Prelude.{◌≡◌, ℕ, ◌≤◌, List, [], ◌∷◌, length, Some}
use Rattle.dcp_types.specs.Codes.{state_code, type_code}
use Rattle.pdu_layout.specs.declared.fields.FieldKind.{FieldKind}
use Rattle.pdu_layout.specs.declared.messages.Pdu.{Pdu}
use Rattle.pdu_layout.specs.declared.messages.Pdu.TheVariants as pdu
use Rattle.pdu_layout.specs.declared.messages.Stc.TheVariants as stc
use Rattle.pdu_layout.specs.declared.messages.Cfg.TheVariants as cfg
use Rattle.pdu_layout.specs.declared.messages.Inf.TheVariants as inf
use Rattle.pdu_layout.specs.declared.messages.Rsp.TheVariants as rsp
use Rattle.pdu_layout.specs.Fields.{FieldValue, FitEach, spelled}
use Rattle.pdu_layout.specs.Fields.FieldValue.{Number, Signed, Bytes}
use Rattle.pdu_layout.specs.Table.{kinds_for}

-- a message: its type code, and what its fields hold
pub record Message : Type 0 where
  pub code : ℕ
  pub values : List FieldValue

-- These bytes spell the message: its type code, and then the bytes of each field in the order of its layout, 1,024 at most.
pub record Spells (p : Message) (b : List ℕ) : Type 0 where
  pub kinds : List FieldKind
  pub listed : kinds_for p.code ≡ Some kinds
  pub fits : FitEach kinds 0 p.values
  pub bytes : b ≡ p.code ∷ spelled kinds 0 p.values
  pub at_most : length b ≤ 1024

-- Each field fits its kind, and the bytes are not too many.
abbrev pub HasSpelling : Message → Type 0
HasSpelling p = (b : List ℕ) × Spells p b

-- what a value of the program says as a message
abbrev pub message_of : Pdu → Message
message_of (pdu.Stc seq receiver state (stc.Register uuid op_mode major minor)) = record { code = 1; values = Number seq ∷ Number receiver ∷ Number (state_code state) ∷ Number uuid ∷ Number op_mode ∷ Number major ∷ Number minor ∷ [] }
message_of (pdu.Stc seq receiver state stc.Deregister) = record { code = 2; values = Number seq ∷ Number receiver ∷ Number (state_code state) ∷ [] }
message_of (pdu.Stc seq receiver state stc.Prepare) = record { code = 3; values = Number seq ∷ Number receiver ∷ Number (state_code state) ∷ [] }
message_of (pdu.Stc seq receiver state stc.Configure) = record { code = 4; values = Number seq ∷ Number receiver ∷ Number (state_code state) ∷ [] }
message_of (pdu.Stc seq receiver state stc.Initialize) = record { code = 5; values = Number seq ∷ Number receiver ∷ Number (state_code state) ∷ [] }
message_of (pdu.Stc seq receiver state (stc.Run start_time)) = record { code = 6; values = Number seq ∷ Number receiver ∷ Number (state_code state) ∷ Signed start_time ∷ [] }
message_of (pdu.Stc seq receiver state (stc.DoStep steps)) = record { code = 7; values = Number seq ∷ Number receiver ∷ Number (state_code state) ∷ Number steps ∷ [] }
message_of (pdu.Stc seq receiver state stc.SendOutputs) = record { code = 8; values = Number seq ∷ Number receiver ∷ Number (state_code state) ∷ [] }
message_of (pdu.Stc seq receiver state stc.Stop) = record { code = 9; values = Number seq ∷ Number receiver ∷ Number (state_code state) ∷ [] }
message_of (pdu.Stc seq receiver state stc.Reset) = record { code = 10; values = Number seq ∷ Number receiver ∷ Number (state_code state) ∷ [] }
message_of (pdu.Cfg seq receiver (cfg.TimeRes numerator denominator)) = record { code = 32; values = Number seq ∷ Number receiver ∷ Number numerator ∷ Number denominator ∷ [] }
message_of (pdu.Cfg seq receiver (cfg.Steps data_id steps)) = record { code = 33; values = Number seq ∷ Number receiver ∷ Number data_id ∷ Number steps ∷ [] }
message_of (pdu.Cfg seq receiver (cfg.Input data_id position vr source_type)) = record { code = 34; values = Number seq ∷ Number receiver ∷ Number data_id ∷ Number position ∷ Number vr ∷ Number (type_code source_type) ∷ [] }
message_of (pdu.Cfg seq receiver (cfg.Output data_id position vr)) = record { code = 35; values = Number seq ∷ Number receiver ∷ Number data_id ∷ Number position ∷ Number vr ∷ [] }
message_of (pdu.Cfg seq receiver cfg.Clear) = record { code = 36; values = Number seq ∷ Number receiver ∷ [] }
message_of (pdu.Cfg seq receiver (cfg.Target net)) = record { code = 37; values = Number seq ∷ Number receiver ∷ Number net.data_id ∷ Number net.protocol ∷ Number net.port ∷ Number net.ip ∷ [] }
message_of (pdu.Cfg seq receiver (cfg.Source net)) = record { code = 38; values = Number seq ∷ Number receiver ∷ Number net.data_id ∷ Number net.protocol ∷ Number net.port ∷ Number net.ip ∷ [] }
message_of (pdu.Cfg seq receiver (cfg.Parameter vr kind value)) = record { code = 39; values = Number seq ∷ Number receiver ∷ Number vr ∷ Number (type_code kind) ∷ Signed value ∷ [] }
message_of (pdu.Cfg seq receiver (cfg.Tunable param_id position vr kind)) = record { code = 40; values = Number seq ∷ Number receiver ∷ Number param_id ∷ Number position ∷ Number vr ∷ Number (type_code kind) ∷ [] }
message_of (pdu.Cfg seq receiver (cfg.ParamNet param_id protocol port ip)) = record { code = 41; values = Number seq ∷ Number receiver ∷ Number param_id ∷ Number protocol ∷ Number port ∷ Number ip ∷ [] }
message_of (pdu.Cfg seq receiver (cfg.Logging category level mode)) = record { code = 42; values = Number seq ∷ Number receiver ∷ Number category ∷ Number level ∷ Number mode ∷ [] }
message_of (pdu.Cfg seq receiver (cfg.Scope data_id scope)) = record { code = 43; values = Number seq ∷ Number receiver ∷ Number data_id ∷ Number scope ∷ [] }
message_of (pdu.Inf seq receiver inf.State) = record { code = 128; values = Number seq ∷ Number receiver ∷ [] }
message_of (pdu.Inf seq receiver inf.Error) = record { code = 129; values = Number seq ∷ Number receiver ∷ [] }
message_of (pdu.Inf seq receiver (inf.Log category max_entries)) = record { code = 130; values = Number seq ∷ Number receiver ∷ Number category ∷ Number max_entries ∷ [] }
message_of (pdu.Rsp seq sender rsp.Ack) = record { code = 176; values = Number seq ∷ Number sender ∷ [] }
message_of (pdu.Rsp seq sender (rsp.Nack expected code)) = record { code = 177; values = Number seq ∷ Number sender ∷ Number expected ∷ Number code ∷ [] }
message_of (pdu.Rsp seq sender (rsp.StateAck state)) = record { code = 178; values = Number seq ∷ Number sender ∷ Number (state_code state) ∷ [] }
message_of (pdu.Rsp seq sender (rsp.ErrorAck code)) = record { code = 179; values = Number seq ∷ Number sender ∷ Number code ∷ [] }
message_of (pdu.Rsp seq sender (rsp.LogAck entries)) = record { code = 180; values = Number seq ∷ Number sender ∷ Bytes entries.now ∷ [] }
message_of (pdu.StateChanged sender state) = record { code = 224; values = Number sender ∷ Number (state_code state) ∷ [] }
message_of (pdu.LogNote sender category level text) = record { code = 225; values = Number sender ∷ Number category ∷ Number level ∷ Bytes text.now ∷ [] }
message_of (pdu.DataIo seq data_id payload) = record { code = 240; values = Number seq ∷ Number data_id ∷ Bytes payload.now ∷ [] }
message_of (pdu.DataParameter seq param_id payload) = record { code = 241; values = Number seq ∷ Number param_id ∷ Bytes payload.now ∷ [] }
