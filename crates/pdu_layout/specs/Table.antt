-- The layouts of the 34 messages: the type code, the name, and the fields that follow the code.
use Rattle.std.specs.Prelude.{ℕ, List, [], ◌∷◌, map, codes, Option, Some, None, ◌==◌, if◌then◌else◌}
use Rattle.pdu_layout.specs.declared.fields.FieldKind.{FieldKind}
use Rattle.pdu_layout.specs.declared.fields.FieldKind.TheVariants.{U8, U16, U32, U64, I64, StateCode, TypeCode, Value, Uuid, Ip, Rest}
use Rattle.pdu_layout.specs.declared.fields.Field.{Field}

pub record FieldRow : Type 0 where
  pub name : List ℕ
  pub kind : FieldKind

pub record Row : Type 0 where
  pub code : ℕ
  pub name : List ℕ
  pub fields : List FieldRow

abbrev row : ℕ → List ℕ → List FieldRow → Row
row code name fields = record { code = code; name = name; fields = fields }

abbrev field : List ℕ → FieldKind → FieldRow
field name kind = record { name = name; kind = kind }

-- how state requests, other requests and answers begin
abbrev state_request : List FieldRow → List FieldRow
state_request more = field (codes "pdu_seq_id") U16 ∷ field (codes "receiver") U8 ∷ field (codes "state_id") StateCode ∷ more

abbrev request : List FieldRow → List FieldRow
request more = field (codes "pdu_seq_id") U16 ∷ field (codes "receiver") U8 ∷ more

abbrev answer : List FieldRow → List FieldRow
answer more = field (codes "resp_seq_id") U16 ∷ field (codes "sender") U8 ∷ more

abbrev pub table : List Row
table =
    row 1 (codes "STC_register") (state_request (field (codes "slave_uuid") Uuid ∷ field (codes "op_mode") U8 ∷ field (codes "major_version") U8 ∷ field (codes "minor_version") U8 ∷ []))
    ∷ row 2 (codes "STC_deregister") (state_request [])
    ∷ row 3 (codes "STC_prepare") (state_request [])
    ∷ row 4 (codes "STC_configure") (state_request [])
    ∷ row 5 (codes "STC_initialize") (state_request [])
    ∷ row 6 (codes "STC_run") (state_request (field (codes "start_time") I64 ∷ []))
    ∷ row 7 (codes "STC_do_step") (state_request (field (codes "steps") U32 ∷ []))
    ∷ row 8 (codes "STC_send_outputs") (state_request [])
    ∷ row 9 (codes "STC_stop") (state_request [])
    ∷ row 10 (codes "STC_reset") (state_request [])
    ∷ row 32 (codes "CFG_time_res") (request (field (codes "numerator") U32 ∷ field (codes "denominator") U32 ∷ []))
    ∷ row 33 (codes "CFG_steps") (request (field (codes "data_id") U16 ∷ field (codes "steps") U32 ∷ []))
    ∷ row 34 (codes "CFG_input") (request (field (codes "data_id") U16 ∷ field (codes "pos") U16 ∷ field (codes "vr") U64 ∷ field (codes "source_type") TypeCode ∷ []))
    ∷ row 35 (codes "CFG_output") (request (field (codes "data_id") U16 ∷ field (codes "pos") U16 ∷ field (codes "vr") U64 ∷ []))
    ∷ row 36 (codes "CFG_clear") (request [])
    ∷ row 37 (codes "CFG_target_network_information") (request (field (codes "data_id") U16 ∷ field (codes "protocol") U8 ∷ field (codes "port") U16 ∷ field (codes "ip") Ip ∷ []))
    ∷ row 38 (codes "CFG_source_network_information") (request (field (codes "data_id") U16 ∷ field (codes "protocol") U8 ∷ field (codes "port") U16 ∷ field (codes "ip") Ip ∷ []))
    ∷ row 39 (codes "CFG_parameter") (request (field (codes "vr") U64 ∷ field (codes "type") TypeCode ∷ field (codes "value") Value ∷ []))
    ∷ row 40 (codes "CFG_tunable_parameter") (request (field (codes "param_id") U16 ∷ field (codes "pos") U16 ∷ field (codes "vr") U64 ∷ field (codes "type") TypeCode ∷ []))
    ∷ row 41 (codes "CFG_param_network_information") (request (field (codes "param_id") U16 ∷ field (codes "protocol") U8 ∷ field (codes "port") U16 ∷ field (codes "ip") Ip ∷ []))
    ∷ row 42 (codes "CFG_logging") (request (field (codes "category") U8 ∷ field (codes "level") U8 ∷ field (codes "mode") U8 ∷ []))
    ∷ row 43 (codes "CFG_scope") (request (field (codes "data_id") U16 ∷ field (codes "scope") U8 ∷ []))
    ∷ row 128 (codes "INF_state") (request [])
    ∷ row 129 (codes "INF_error") (request [])
    ∷ row 130 (codes "INF_log") (request (field (codes "category") U8 ∷ field (codes "max_entries") U8 ∷ []))
    ∷ row 176 (codes "RSP_ack") (answer [])
    ∷ row 177 (codes "RSP_nack") (answer (field (codes "exp_seq_id") U16 ∷ field (codes "error_code") U16 ∷ []))
    ∷ row 178 (codes "RSP_state_ack") (answer (field (codes "state_id") StateCode ∷ []))
    ∷ row 179 (codes "RSP_error_ack") (answer (field (codes "error_code") U16 ∷ []))
    ∷ row 180 (codes "RSP_log_ack") (answer (field (codes "entries") Rest ∷ []))
    ∷ row 224 (codes "NTF_state_changed") (field (codes "sender") U8 ∷ field (codes "state_id") StateCode ∷ [])
    ∷ row 225 (codes "NTF_log") (field (codes "sender") U8 ∷ field (codes "category") U8 ∷ field (codes "level") U8 ∷ field (codes "text") Rest ∷ [])
    ∷ row 240 (codes "DAT_input_output") (field (codes "pdu_seq_id") U16 ∷ field (codes "data_id") U16 ∷ field (codes "payload") Rest ∷ [])
    ∷ row 241 (codes "DAT_parameter") (field (codes "pdu_seq_id") U16 ∷ field (codes "param_id") U16 ∷ field (codes "payload") Rest ∷ [])
    ∷ []

-- the first row with this code
abbrev pub row_in : List Row → ℕ → Option Row
row_in [] code = None
row_in (row ∷ rows) code = if row.code == code then Some row else row_in rows code

abbrev pub row_of : ℕ → Option Row
row_of code = row_in table code

-- the kinds of the fields of the message with this code
abbrev pub kinds_in : Option Row → Option (List FieldKind)
kinds_in None = None
kinds_in (Some row) = Some (map (λ f. f.kind) row.fields)

abbrev pub kinds_for : ℕ → Option (List FieldKind)
kinds_for code = kinds_in (row_of code)

-- the fields of a constant as the table has them
abbrev pub rows_of : List Field → List FieldRow
rows_of fields = map (λ f. record { name = f.name.now; kind = f.kind }) fields

abbrev pub kinds_of : List Field → List FieldKind
kinds_of fields = map (λ f. f.kind) fields
