-- Codes, words and bytes tell apart what they stand for.
use Rattle.std.specs.Prelude.{◌≡◌, ◌≢◌, ℤ, IsTrue}
use Rattle.dcp_types.specs.declared.data_types.DataType.{DataType}
use Rattle.dcp_types.specs.declared.states.State.{State}
use Rattle.dcp_types.specs.declared.error_codes.ErrorCode.{ErrorCode}
use Rattle.dcp_types.specs.declared.fault_codes.FaultCode.{FaultCode}
use Rattle.dcp_types.specs.declared.protocols.Protocol.{Protocol}
use Rattle.dcp_types.specs.Codes.{type_code, state_code, error_code, fault_code, protocol_code}
use Rattle.dcp_types.specs.Words.{type_word, state_name}
use Rattle.dcp_types.specs.Values.{fits, value_bytes}

-- no two types have the same code, nor the same word
abbrev pub TypesDiffer : Type 0
TypesDiffer = (a b : DataType) → ((type_code a ≡ type_code b) → a ≡ b) × ((type_word a ≡ type_word b) → a ≡ b)

-- no two states have the same code, nor the same name
abbrev pub StatesDiffer : Type 0
StatesDiffer = (a b : State) → ((state_code a ≡ state_code b) → a ≡ b) × ((state_name a ≡ state_name b) → a ≡ b)

-- no two refusals have the same code
abbrev pub ErrorsDiffer : Type 0
ErrorsDiffer = (a b : ErrorCode) → error_code a ≡ error_code b → a ≡ b

-- no two faults have the same code
abbrev pub FaultsDiffer : Type 0
FaultsDiffer = (a b : FaultCode) → fault_code a ≡ fault_code b → a ≡ b

-- no refusal has the code of a fault
abbrev pub ErrorsAreNoFaults : Type 0
ErrorsAreNoFaults = (error : ErrorCode) (fault : FaultCode) → error_code error ≢ fault_code fault

-- the two transports have codes of their own
abbrev pub ProtocolsDiffer : Type 0
ProtocolsDiffer = (a b : Protocol) → protocol_code a ≡ protocol_code b → a ≡ b

-- no two values of a type have the same bytes
abbrev pub ValuesDiffer : Type 0
ValuesDiffer = (kind : DataType) (a b : ℤ) → IsTrue (fits kind a) → IsTrue (fits kind b) → value_bytes kind a ≡ value_bytes kind b → a ≡ b
