-- The codes of types, states, refusals, faults and transports.
use Rattle.std.specs.Prelude.{ℕ}
use Rattle.dcp_types.specs.declared.data_types.DataType.{DataType}
use Rattle.dcp_types.specs.declared.data_types.DataType.TheVariants as types
use Rattle.dcp_types.specs.declared.states.State.{State}
use Rattle.dcp_types.specs.declared.states.State.TheVariants.{Alive, Configuration, Preparing, Prepared, Configuring, Configured, Initializing, Initialized, SendingI, Synchronizing, Synchronized, Running, Computing, Computed, SendingD, Stopping, Stopped, ErrorHandling, ErrorResolved}
use Rattle.dcp_types.specs.declared.error_codes.ErrorCode.{ErrorCode}
use Rattle.dcp_types.specs.declared.error_codes.ErrorCode.TheVariants.{Sequence, WrongState, NotSupported, UnknownVr, TypeMismatch, Position, IncompleteConfig, InputsMissing, BadSteps, UuidMismatch, Version, OpMode, ValueRange, InErrorState}
use Rattle.dcp_types.specs.declared.fault_codes.FaultCode.{FaultCode}
use Rattle.dcp_types.specs.declared.fault_codes.FaultCode.TheVariants.{ModelOverflow, DivideByZero, OutOfRange, HeartbeatMissed}
use Rattle.dcp_types.specs.declared.protocols.Protocol.{Protocol}
use Rattle.dcp_types.specs.declared.protocols.Protocol.TheVariants.{Udp, Tcp}

abbrev pub type_code : DataType → ℕ
type_code types.U8 = 0
type_code types.U16 = 1
type_code types.U32 = 2
type_code types.U64 = 3
type_code types.I8 = 4
type_code types.I16 = 5
type_code types.I32 = 6
type_code types.I64 = 7

abbrev pub state_code : State → ℕ
state_code Alive = 0
state_code Configuration = 1
state_code Preparing = 2
state_code Prepared = 3
state_code Configuring = 4
state_code Configured = 5
state_code Initializing = 6
state_code Initialized = 7
state_code SendingI = 8
state_code Synchronizing = 9
state_code Synchronized = 10
state_code Running = 11
state_code Computing = 12
state_code Computed = 13
state_code SendingD = 14
state_code Stopping = 15
state_code Stopped = 16
state_code ErrorHandling = 17
state_code ErrorResolved = 18

-- why a request was refused
abbrev pub error_code : ErrorCode → ℕ
error_code Sequence = 1
error_code WrongState = 2
error_code NotSupported = 3
error_code UnknownVr = 4
error_code TypeMismatch = 5
error_code Position = 6
error_code IncompleteConfig = 7
error_code InputsMissing = 8
error_code BadSteps = 9
error_code UuidMismatch = 10
error_code Version = 11
error_code OpMode = 12
error_code ValueRange = 13
error_code InErrorState = 14

-- why a slave is in an error state
abbrev pub fault_code : FaultCode → ℕ
fault_code ModelOverflow = 32
fault_code DivideByZero = 33
fault_code OutOfRange = 34
fault_code HeartbeatMissed = 35

abbrev pub protocol_code : Protocol → ℕ
protocol_code Udp = 0
protocol_code Tcp = 4
