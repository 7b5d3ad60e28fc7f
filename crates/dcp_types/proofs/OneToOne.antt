-- A code or a word is that of the first of all that have it, and each is the first that has its own.
use Rattle.std.proofs.Common.{◌≡◌, ℕ, ◌<◌, Bool, cond, eqb, List, [], ◌∷◌, Option, Some, None, refl, ap, arith}
use Rattle.std.specs.Str.{bytes_eq}
use Rattle.dcp_types.specs.declared.data_types.DataType.{DataType}
use Rattle.dcp_types.specs.declared.data_types.DataType.TheVariants as types
use Rattle.dcp_types.specs.declared.states.State.{State}
use Rattle.dcp_types.specs.declared.states.State.TheVariants as states
use Rattle.dcp_types.specs.declared.error_codes.ErrorCode.{ErrorCode}
use Rattle.dcp_types.specs.declared.error_codes.ErrorCode.TheVariants as errors
use Rattle.dcp_types.specs.declared.fault_codes.FaultCode.{FaultCode}
use Rattle.dcp_types.specs.declared.fault_codes.FaultCode.TheVariants as faults
use Rattle.dcp_types.specs.declared.protocols.Protocol.{Protocol}
use Rattle.dcp_types.specs.declared.protocols.Protocol.TheVariants as protocols
use Rattle.dcp_types.specs.Codes.{type_code, state_code, error_code, fault_code, protocol_code}
use Rattle.dcp_types.specs.Words.{type_word, state_name}
use Rattle.dcp_types.specs.Laws.{TypesDiffer, StatesDiffer, ErrorsDiffer, FaultsDiffer, ErrorsAreNoFaults, ProtocolsDiffer}

-- the first of a list that passes the test
abbrev first : {X : Type 0} → (X → Bool) → List X → Option X
first test [] = None
first test (x ∷ xs) = cond (test x) (Some x) (first test xs)

same : {X : Type 0} → (x y : X) (o p : Option X) → o ≡ Some x → p ≡ Some y → o ≡ p → x ≡ y
same x y o p e f g = cc

abbrev all_types : List DataType
all_types = types.U8 ∷ types.U16 ∷ types.U32 ∷ types.U64 ∷ types.I8 ∷ types.I16 ∷ types.I32 ∷ types.I64 ∷ []

abbrev types_by_code : ℕ → Option DataType
types_by_code n = first (λ x. eqb (type_code x) n) all_types

types_coded : (x : DataType) → types_by_code (type_code x) ≡ Some x
types_coded types.U8 = refl
types_coded types.U16 = refl
types_coded types.U32 = refl
types_coded types.U64 = refl
types_coded types.I8 = refl
types_coded types.I16 = refl
types_coded types.I32 = refl
types_coded types.I64 = refl

abbrev types_by_word : List ℕ → Option DataType
types_by_word w = first (λ x. bytes_eq (type_word x) w) all_types

types_worded : (x : DataType) → types_by_word (type_word x) ≡ Some x
types_worded types.U8 = refl
types_worded types.U16 = refl
types_worded types.U32 = refl
types_worded types.U64 = refl
types_worded types.I8 = refl
types_worded types.I16 = refl
types_worded types.I32 = refl
types_worded types.I64 = refl

abbrev all_states : List State
all_states = states.Alive ∷ states.Configuration ∷ states.Preparing ∷ states.Prepared ∷ states.Configuring ∷ states.Configured ∷ states.Initializing ∷ states.Initialized ∷ states.SendingI ∷ states.Synchronizing ∷ states.Synchronized ∷ states.Running ∷ states.Computing ∷ states.Computed ∷ states.SendingD ∷ states.Stopping ∷ states.Stopped ∷ states.ErrorHandling ∷ states.ErrorResolved ∷ []

abbrev states_by_code : ℕ → Option State
states_by_code n = first (λ x. eqb (state_code x) n) all_states

states_coded : (x : State) → states_by_code (state_code x) ≡ Some x
states_coded states.Alive = refl
states_coded states.Configuration = refl
states_coded states.Preparing = refl
states_coded states.Prepared = refl
states_coded states.Configuring = refl
states_coded states.Configured = refl
states_coded states.Initializing = refl
states_coded states.Initialized = refl
states_coded states.SendingI = refl
states_coded states.Synchronizing = refl
states_coded states.Synchronized = refl
states_coded states.Running = refl
states_coded states.Computing = refl
states_coded states.Computed = refl
states_coded states.SendingD = refl
states_coded states.Stopping = refl
states_coded states.Stopped = refl
states_coded states.ErrorHandling = refl
states_coded states.ErrorResolved = refl

abbrev states_by_word : List ℕ → Option State
states_by_word w = first (λ x. bytes_eq (state_name x) w) all_states

states_worded : (x : State) → states_by_word (state_name x) ≡ Some x
states_worded states.Alive = refl
states_worded states.Configuration = refl
states_worded states.Preparing = refl
states_worded states.Prepared = refl
states_worded states.Configuring = refl
states_worded states.Configured = refl
states_worded states.Initializing = refl
states_worded states.Initialized = refl
states_worded states.SendingI = refl
states_worded states.Synchronizing = refl
states_worded states.Synchronized = refl
states_worded states.Running = refl
states_worded states.Computing = refl
states_worded states.Computed = refl
states_worded states.SendingD = refl
states_worded states.Stopping = refl
states_worded states.Stopped = refl
states_worded states.ErrorHandling = refl
states_worded states.ErrorResolved = refl

abbrev all_errors : List ErrorCode
all_errors = errors.Sequence ∷ errors.WrongState ∷ errors.NotSupported ∷ errors.UnknownVr ∷ errors.TypeMismatch ∷ errors.Position ∷ errors.IncompleteConfig ∷ errors.InputsMissing ∷ errors.BadSteps ∷ errors.UuidMismatch ∷ errors.Version ∷ errors.OpMode ∷ errors.ValueRange ∷ errors.InErrorState ∷ []

abbrev errors_by_code : ℕ → Option ErrorCode
errors_by_code n = first (λ x. eqb (error_code x) n) all_errors

errors_coded : (x : ErrorCode) → errors_by_code (error_code x) ≡ Some x
errors_coded errors.Sequence = refl
errors_coded errors.WrongState = refl
errors_coded errors.NotSupported = refl
errors_coded errors.UnknownVr = refl
errors_coded errors.TypeMismatch = refl
errors_coded errors.Position = refl
errors_coded errors.IncompleteConfig = refl
errors_coded errors.InputsMissing = refl
errors_coded errors.BadSteps = refl
errors_coded errors.UuidMismatch = refl
errors_coded errors.Version = refl
errors_coded errors.OpMode = refl
errors_coded errors.ValueRange = refl
errors_coded errors.InErrorState = refl

abbrev all_faults : List FaultCode
all_faults = faults.ModelOverflow ∷ faults.DivideByZero ∷ faults.OutOfRange ∷ faults.HeartbeatMissed ∷ []

abbrev faults_by_code : ℕ → Option FaultCode
faults_by_code n = first (λ x. eqb (fault_code x) n) all_faults

faults_coded : (x : FaultCode) → faults_by_code (fault_code x) ≡ Some x
faults_coded faults.ModelOverflow = refl
faults_coded faults.DivideByZero = refl
faults_coded faults.OutOfRange = refl
faults_coded faults.HeartbeatMissed = refl

abbrev all_protocols : List Protocol
all_protocols = protocols.Udp ∷ protocols.Tcp ∷ []

abbrev protocols_by_code : ℕ → Option Protocol
protocols_by_code n = first (λ x. eqb (protocol_code x) n) all_protocols

protocols_coded : (x : Protocol) → protocols_by_code (protocol_code x) ≡ Some x
protocols_coded protocols.Udp = refl
protocols_coded protocols.Tcp = refl

pub types_differ : TypesDiffer
types_differ a b = (λ e. same a b _ _ (types_coded a) (types_coded b) (ap types_by_code e), λ e. same a b _ _ (types_worded a) (types_worded b) (ap types_by_word e))

pub states_differ : StatesDiffer
states_differ a b = (λ e. same a b _ _ (states_coded a) (states_coded b) (ap states_by_code e), λ e. same a b _ _ (states_worded a) (states_worded b) (ap states_by_word e))

pub errors_differ : ErrorsDiffer
errors_differ a b e = same a b _ _ (errors_coded a) (errors_coded b) (ap errors_by_code e)

pub faults_differ : FaultsDiffer
faults_differ a b e = same a b _ _ (faults_coded a) (faults_coded b) (ap faults_by_code e)

pub protocols_differ : ProtocolsDiffer
protocols_differ a b e = same a b _ _ (protocols_coded a) (protocols_coded b) (ap protocols_by_code e)

error_below : (error : ErrorCode) → error_code error < 32
error_below errors.Sequence = omega arith
error_below errors.WrongState = omega arith
error_below errors.NotSupported = omega arith
error_below errors.UnknownVr = omega arith
error_below errors.TypeMismatch = omega arith
error_below errors.Position = omega arith
error_below errors.IncompleteConfig = omega arith
error_below errors.InputsMissing = omega arith
error_below errors.BadSteps = omega arith
error_below errors.UuidMismatch = omega arith
error_below errors.Version = omega arith
error_below errors.OpMode = omega arith
error_below errors.ValueRange = omega arith
error_below errors.InErrorState = omega arith

fault_above : (fault : FaultCode) → 31 < fault_code fault
fault_above faults.ModelOverflow = omega arith
fault_above faults.DivideByZero = omega arith
fault_above faults.OutOfRange = omega arith
fault_above faults.HeartbeatMissed = omega arith

pub errors_are_no_faults : ErrorsAreNoFaults
errors_are_no_faults error fault e = omega (arith, error_below error, fault_above fault, e)
