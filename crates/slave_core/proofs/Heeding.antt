-- What is heard in a message is what is heard in its bytes.
use Rattle.std.proofs.Common.{◌≡◌, ℕ, List, [], ◌∷◌, Option, Some, None, refl, ap, sym, ◌∙◌}
use Rattle.dcp_types.specs.Codes.{state_code, type_code}
use Rattle.dcp_types.specs.declared.states.State.{State}
use Rattle.dcp_types.specs.declared.states.State.TheVariants.{Alive, Configuration, Preparing, Prepared, Configuring, Configured, Initializing, Initialized, SendingI, Synchronizing, Synchronized, Running, Computing, Computed, SendingD, Stopping, Stopped, ErrorHandling, ErrorResolved}
use Rattle.dcp_types.specs.declared.data_types.DataType.{DataType}
use Rattle.pdu_layout.specs.declared.messages.Pdu.{Pdu}
use Rattle.pdu_layout.specs.declared.messages.Pdu.TheVariants as pdu
use Rattle.pdu_layout.specs.declared.messages.Stc.{Stc}
use Rattle.pdu_layout.specs.declared.messages.Stc.TheVariants as stc
use Rattle.pdu_layout.specs.declared.messages.Cfg.{Cfg}
use Rattle.pdu_layout.specs.declared.messages.Cfg.TheVariants as cfg
use Rattle.pdu_layout.specs.declared.messages.Inf.TheVariants as inf
use Rattle.pdu_layout.specs.declared.messages.Rsp.TheVariants as rsp
use Rattle.pdu_layout.specs.Fields.{type_from}
use Rattle.pdu_layout.specs.Message.{Message, message_of}
use Rattle.pdu_layout.proofs.Contents.{type_from-code}
use Rattle.pdu_layout.specs.Reading.{message_in}
use Rattle.slave_spec.specs.declared.words.Asked.{Asked}
use Rattle.slave_spec.specs.declared.words.Asked.TheVariants.{Change, Setting, Question}
use Rattle.slave_spec.specs.Heard.{Heard, Asks, Nothing, heard, heard_as, state_from}
use Rattle.slave_core.specs.Hearing.{heard_of}

pub state_is : (s : State) → state_from (state_code s) ≡ s
state_is Alive = refl
state_is Configuration = refl
state_is Preparing = refl
state_is Prepared = refl
state_is Configuring = refl
state_is Configured = refl
state_is Initializing = refl
state_is Initialized = refl
state_is SendingI = refl
state_is Synchronizing = refl
state_is Synchronized = refl
state_is Running = refl
state_is Computing = refl
state_is Computed = refl
state_is SendingD = refl
state_is Stopping = refl
state_is Stopped = refl
state_is ErrorHandling = refl
state_is ErrorResolved = refl

abbrev asks : (number receiver : ℕ) → Asked → Heard
asks number receiver asked = Asks (record { number = number; receiver = receiver; asked = asked })

-- the state that is named is the one with its code
named : (number receiver : ℕ) (state : State) (body : Stc) → asks number receiver (Change (state_from (state_code state)) body) ≡ asks number receiver (Change state body)
named number receiver state body = ap (λ (s : State). asks number receiver (Change s body)) (state_is state)

typed : (number receiver : ℕ) (f : DataType → Cfg) (kind : DataType) → asks number receiver (Setting (f (type_from (type_code kind)))) ≡ asks number receiver (Setting (f kind))
typed number receiver f kind = ap (λ (k : DataType). asks number receiver (Setting (f k))) (type_from-code kind)

message_heard : (p : Pdu) → heard_as (Some (message_of p)) ≡ heard_of p
message_heard (pdu.Stc seq receiver state (stc.Register uuid op_mode major minor)) = named seq receiver state (stc.Register uuid op_mode major minor)
message_heard (pdu.Stc seq receiver state stc.Deregister) = named seq receiver state stc.Deregister
message_heard (pdu.Stc seq receiver state stc.Prepare) = named seq receiver state stc.Prepare
message_heard (pdu.Stc seq receiver state stc.Configure) = named seq receiver state stc.Configure
message_heard (pdu.Stc seq receiver state stc.Initialize) = named seq receiver state stc.Initialize
message_heard (pdu.Stc seq receiver state (stc.Run start_time)) = named seq receiver state (stc.Run start_time)
message_heard (pdu.Stc seq receiver state (stc.DoStep steps)) = named seq receiver state (stc.DoStep steps)
message_heard (pdu.Stc seq receiver state stc.SendOutputs) = named seq receiver state stc.SendOutputs
message_heard (pdu.Stc seq receiver state stc.Stop) = named seq receiver state stc.Stop
message_heard (pdu.Stc seq receiver state stc.Reset) = named seq receiver state stc.Reset
message_heard (pdu.Cfg seq receiver (cfg.TimeRes a b)) = refl
message_heard (pdu.Cfg seq receiver (cfg.Steps a b)) = refl
message_heard (pdu.Cfg seq receiver (cfg.Output a b c)) = refl
message_heard (pdu.Cfg seq receiver cfg.Clear) = refl
message_heard (pdu.Cfg seq receiver (cfg.Target net)) = refl
message_heard (pdu.Cfg seq receiver (cfg.Source net)) = refl
message_heard (pdu.Cfg seq receiver (cfg.ParamNet a b c d)) = refl
message_heard (pdu.Cfg seq receiver (cfg.Logging a b c)) = refl
message_heard (pdu.Cfg seq receiver (cfg.Scope a b)) = refl
message_heard (pdu.Cfg seq receiver (cfg.Input a b c kind)) = typed seq receiver (λ (k : DataType). cfg.Input a b c k) kind
message_heard (pdu.Cfg seq receiver (cfg.Parameter a kind z)) = typed seq receiver (λ (k : DataType). cfg.Parameter a k z) kind
message_heard (pdu.Cfg seq receiver (cfg.Tunable a b c kind)) = typed seq receiver (λ (k : DataType). cfg.Tunable a b c k) kind
message_heard (pdu.Inf seq receiver inf.State) = refl
message_heard (pdu.Inf seq receiver inf.Error) = refl
message_heard (pdu.Inf seq receiver (inf.Log a b)) = refl
message_heard (pdu.Rsp seq sender rsp.Ack) = refl
message_heard (pdu.Rsp seq sender (rsp.Nack a b)) = refl
message_heard (pdu.Rsp seq sender (rsp.StateAck a)) = refl
message_heard (pdu.Rsp seq sender (rsp.ErrorAck a)) = refl
message_heard (pdu.Rsp seq sender (rsp.LogAck a)) = refl
message_heard (pdu.StateChanged sender state) = refl
message_heard (pdu.LogNote sender category level text) = refl
message_heard (pdu.DataIo seq id payload) = refl
message_heard (pdu.DataParameter seq id payload) = refl

pub heard_some : (bytes : List ℕ) (p : Pdu) → message_in bytes ≡ Some (message_of p) → heard_of p ≡ heard bytes
unfolding heard
heard_some bytes p e = sym (message_heard p) ∙ ap heard_as (sym e)

pub heard_none : (bytes : List ℕ) → message_in bytes ≡ None → Nothing ≡ heard bytes
unfolding heard
heard_none bytes e = ap heard_as (sym e)
