-- The names of states and types in texts.
use Rattle.std.specs.Prelude.{ℕ, List, codes}
use Rattle.dcp_types.specs.declared.data_types.DataType.{DataType}
use Rattle.dcp_types.specs.declared.data_types.DataType.TheVariants as types
use Rattle.dcp_types.specs.declared.states.State.{State}
use Rattle.dcp_types.specs.declared.states.State.TheVariants.{Alive, Configuration, Preparing, Prepared, Configuring, Configured, Initializing, Initialized, SendingI, Synchronizing, Synchronized, Running, Computing, Computed, SendingD, Stopping, Stopped, ErrorHandling, ErrorResolved}

abbrev pub type_word : DataType → List ℕ
type_word types.U8 = codes "uint8"
type_word types.U16 = codes "uint16"
type_word types.U32 = codes "uint32"
type_word types.U64 = codes "uint64"
type_word types.I8 = codes "int8"
type_word types.I16 = codes "int16"
type_word types.I32 = codes "int32"
type_word types.I64 = codes "int64"

abbrev pub state_name : State → List ℕ
state_name Alive = codes "ALIVE"
state_name Configuration = codes "CONFIGURATION"
state_name Preparing = codes "PREPARING"
state_name Prepared = codes "PREPARED"
state_name Configuring = codes "CONFIGURING"
state_name Configured = codes "CONFIGURED"
state_name Initializing = codes "INITIALIZING"
state_name Initialized = codes "INITIALIZED"
state_name SendingI = codes "SENDING_I"
state_name Synchronizing = codes "SYNCHRONIZING"
state_name Synchronized = codes "SYNCHRONIZED"
state_name Running = codes "RUNNING"
state_name Computing = codes "COMPUTING"
state_name Computed = codes "COMPUTED"
state_name SendingD = codes "SENDING_D"
state_name Stopping = codes "STOPPING"
state_name Stopped = codes "STOPPED"
state_name ErrorHandling = codes "ERROR_HANDLING"
state_name ErrorResolved = codes "ERROR_RESOLVED"
