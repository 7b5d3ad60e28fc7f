-- What a slave hears in a datagram.
use Rattle.std.specs.Prelude.{ℕ, ◌==◌, nat_lt, ℤ, pos, List, [], ◌∷◌, slice_index_or, Option, Some, None, if◌then◌else◌}
use Rattle.dcp_types.specs.declared.states.State.{State}
use Rattle.dcp_types.specs.declared.states.State.TheVariants.{Alive, Configuration, Preparing, Prepared, Configuring, Configured, Initializing, Initialized, SendingI, Synchronizing, Synchronized, Running, Computing, Computed, SendingD, Stopping, Stopped, ErrorHandling, ErrorResolved}
use Rattle.pdu_layout.specs.declared.messages.Stc.{Stc}
use Rattle.pdu_layout.specs.declared.messages.Stc.TheVariants as stc
use Rattle.pdu_layout.specs.declared.messages.Cfg.{Cfg}
use Rattle.pdu_layout.specs.declared.messages.Cfg.TheVariants as cfg
use Rattle.pdu_layout.specs.declared.messages.Inf.{Inf}
use Rattle.pdu_layout.specs.declared.messages.Inf.TheVariants as inf
use Rattle.pdu_layout.specs.declared.messages.NetInfo.{NetInfo}
use Rattle.pdu_layout.specs.Fields.{FieldValue, type_from}
use Rattle.pdu_layout.specs.Fields.FieldValue.{Number, Signed, Bytes}
use Rattle.pdu_layout.specs.Message.{Message}
use Rattle.pdu_layout.specs.Reading.{message_in}
pub use Rattle.slave_spec.specs.declared.words.Asked.{Asked}
pub use Rattle.slave_spec.specs.declared.words.Asked.TheVariants.{Change, Setting, Question}
pub use Rattle.slave_spec.specs.declared.words.SlaveRequest.{SlaveRequest}

-- a request, a data message, or nothing that a slave heeds
pub data Heard : Type 0 where
  Asks : SlaveRequest → Heard
  Brings : (number id : ℕ) → List ℕ → Heard
  Nothing : Heard

abbrev pub states : List State
states = Alive ∷ Configuration ∷ Preparing ∷ Prepared ∷ Configuring ∷ Configured ∷ Initializing ∷ Initialized ∷ SendingI ∷ Synchronizing ∷ Synchronized ∷ Running ∷ Computing ∷ Computed ∷ SendingD ∷ Stopping ∷ Stopped ∷ ErrorHandling ∷ ErrorResolved ∷ []

-- the state with a code; no state field holds a code above 18
abbrev pub state_from : ℕ → State
state_from code = slice_index_or states code Alive

abbrev pub number_of : FieldValue → ℕ
number_of (Number n) = n
number_of v = 0

abbrev pub signed_of : FieldValue → ℤ
signed_of (Signed z) = z
signed_of v = pos 0

abbrev pub field_payload : FieldValue → List ℕ
field_payload (Bytes bytes) = bytes
field_payload v = []

abbrev pub number_at : ℕ → List FieldValue → ℕ
number_at i values = number_of (slice_index_or values i (Number 0))

abbrev pub signed_at : ℕ → List FieldValue → ℤ
signed_at i values = signed_of (slice_index_or values i (Number 0))

abbrev pub bytes_at : ℕ → List FieldValue → List ℕ
bytes_at i values = field_payload (slice_index_or values i (Number 0))

-- the state request with a code from 1 to 10, of the fields after the state
abbrev pub stc_of : ℕ → List FieldValue → Stc
stc_of code vs =
    if code == 1 then stc.Register (number_at 3 vs) (number_at 4 vs) (number_at 5 vs) (number_at 6 vs)
    else (if code == 2 then stc.Deregister
    else (if code == 3 then stc.Prepare
    else (if code == 4 then stc.Configure
    else (if code == 5 then stc.Initialize
    else (if code == 6 then stc.Run (signed_at 3 vs)
    else (if code == 7 then stc.DoStep (number_at 3 vs)
    else (if code == 8 then stc.SendOutputs
    else (if code == 9 then stc.Stop
    else stc.Reset))))))))

abbrev pub net_of : List FieldValue → NetInfo
net_of vs = record { data_id = number_at 2 vs; protocol = number_at 3 vs; port = number_at 4 vs; ip = number_at 5 vs }

-- the setting with a code from 32 to 43
abbrev pub cfg_of : ℕ → List FieldValue → Cfg
cfg_of code vs =
    if code == 32 then cfg.TimeRes (number_at 2 vs) (number_at 3 vs)
    else (if code == 33 then cfg.Steps (number_at 2 vs) (number_at 3 vs)
    else (if code == 34 then cfg.Input (number_at 2 vs) (number_at 3 vs) (number_at 4 vs) (type_from (number_at 5 vs))
    else (if code == 35 then cfg.Output (number_at 2 vs) (number_at 3 vs) (number_at 4 vs)
    else (if code == 36 then cfg.Clear
    else (if code == 37 then cfg.Target (net_of vs)
    else (if code == 38 then cfg.Source (net_of vs)
    else (if code == 39 then cfg.Parameter (number_at 2 vs) (type_from (number_at 3 vs)) (signed_at 4 vs)
    else (if code == 40 then cfg.Tunable (number_at 2 vs) (number_at 3 vs) (number_at 4 vs) (type_from (number_at 5 vs))
    else (if code == 41 then cfg.ParamNet (number_at 2 vs) (number_at 3 vs) (number_at 4 vs) (number_at 5 vs)
    else (if code == 42 then cfg.Logging (number_at 2 vs) (number_at 3 vs) (number_at 4 vs)
    else cfg.Scope (number_at 2 vs) (number_at 3 vs)))))))))))

-- the question with a code from 128 to 130
abbrev pub inf_of : ℕ → List FieldValue → Inf
inf_of code vs =
    if code == 128 then inf.State
    else (if code == 129 then inf.Error
    else inf.Log (number_at 2 vs) (number_at 3 vs))

abbrev pub heard_asking : List FieldValue → Asked → Heard
heard_asking vs asked = Asks (record { number = number_at 0 vs; receiver = number_at 1 vs; asked = asked })

abbrev pub heard_in : ℕ → List FieldValue → Heard
heard_in code vs =
    if nat_lt code 32 then heard_asking vs (Change (state_from (number_at 2 vs)) (stc_of code vs))
    else (if nat_lt code 128 then heard_asking vs (Setting (cfg_of code vs))
    else (if nat_lt code 176 then heard_asking vs (Question (inf_of code vs))
    else (if code == 240 then Brings (number_at 0 vs) (number_at 1 vs) (bytes_at 2 vs)
    else Nothing)))

abbrev pub heard_as : Option Message → Heard
heard_as None = Nothing
heard_as (Some m) = heard_in m.code m.values

-- what a slave hears in these bytes
unfoldable pub heard : List ℕ → Heard
heard bytes = heard_as (message_in bytes)
