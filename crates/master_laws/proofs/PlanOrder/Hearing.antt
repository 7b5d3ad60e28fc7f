-- What each request of the master asks of the slave that hears it.
use Rattle.std.proofs.Common.{◌≡◌, ℕ, Option, Some, List, ◌∷◌, refl, ap, ◌∙◌}
use Rattle.dcp_types.specs.Codes.{state_code, type_code}
use Rattle.dcp_types.specs.declared.data_types.DataType.{DataType}
use Rattle.dcp_types.specs.declared.states.State.{State}
use Rattle.dcp_types.specs.declared.states.State.TheVariants.{Alive, Configuration, Preparing, Prepared, Configuring, Configured, Initializing, Initialized, SendingI, Synchronizing, Synchronized, Running, Computing, Computed, SendingD, Stopping, Stopped, ErrorHandling, ErrorResolved}
use Rattle.pdu_layout.specs.declared.messages.Stc.{Stc}
use Rattle.pdu_layout.specs.declared.messages.Stc.TheVariants as stc
use Rattle.pdu_layout.specs.declared.messages.Cfg.{Cfg}
use Rattle.pdu_layout.specs.declared.messages.Cfg.TheVariants as cfg
use Rattle.pdu_layout.specs.declared.messages.Inf.TheVariants as inf
use Rattle.pdu_layout.specs.Fields.{FieldValue, type_from}
use Rattle.pdu_layout.specs.Fields.FieldValue.{Number}
use Rattle.pdu_layout.proofs.Contents.{type_from-code}
use Rattle.slave_spec.specs.declared.words.Asked.{Asked}
use Rattle.slave_spec.specs.declared.words.Asked.TheVariants as words
use Rattle.slave_spec.specs.Heard.{state_from, heard_in}
use Rattle.plan_laws.specs.Course.Taken.{asked_heard, asked_in}
use Rattle.master_spec.specs.declared.requests.Request.{Request}
use Rattle.master_spec.specs.declared.requests.Request.TheVariants.{Change, Configure, AskState, AskError}
use Rattle.master_spec.specs.Requests.{Asking}
use Rattle.master_log_laws.specs.Index.Index.{code_of, more_of}
use Rattle.master_log_laws.proofs.Phases.Now.{IsOf}
use Rattle.master_laws.specs.Meets.Laws.{note_of}

abbrev pub asked_for : Request → Asked
asked_for (Change state body) = words.Change state body
asked_for (Configure body) = words.Setting body
asked_for AskState = words.Question inf.State
asked_for AskError = words.Question inf.Error

state_is : (s : State) → state_from (state_code s) ≡ s
state_is Alive = refl
state_is Configuration = refl
state_is Preparing = refl
state_is Prepared = refl
state_is Configuring = refl
state_is Configured = refl
state_is Initializing = refl
state_is Initialized = refl
state_is SendingI = refl
state_is Synchronizing = refl
state_is Synchronized = refl
state_is Running = refl
state_is Computing = refl
state_is Computed = refl
state_is SendingD = refl
state_is Stopping = refl
state_is Stopped = refl
state_is ErrorHandling = refl
state_is ErrorResolved = refl

named : (state : State) (body : Stc) → Some (words.Change (state_from (state_code state)) body) ≡ Some (words.Change state body)
named state body = ap (λ (s : State). Some (words.Change s body)) (state_is state)

typed : (f : DataType → Cfg) (kind : DataType) → Some (words.Setting (f (type_from (type_code kind)))) ≡ Some (words.Setting (f kind))
typed f kind = ap (λ (k : DataType). Some (words.Setting (f k))) (type_from-code kind)

heard_for : (number id : ℕ) (r : Request) → asked_heard (heard_in (code_of r) (Number number ∷ Number id ∷ more_of r)) ≡ Some (asked_for r)
heard_for number id (Change state (stc.Register uuid op_mode major minor)) = named state (stc.Register uuid op_mode major minor)
heard_for number id (Change state stc.Deregister) = named state stc.Deregister
heard_for number id (Change state stc.Prepare) = named state stc.Prepare
heard_for number id (Change state stc.Configure) = named state stc.Configure
heard_for number id (Change state stc.Initialize) = named state stc.Initialize
heard_for number id (Change state (stc.Run start_time)) = named state (stc.Run start_time)
heard_for number id (Change state (stc.DoStep steps)) = named state (stc.DoStep steps)
heard_for number id (Change state stc.SendOutputs) = named state stc.SendOutputs
heard_for number id (Change state stc.Stop) = named state stc.Stop
heard_for number id (Change state stc.Reset) = named state stc.Reset
heard_for number id (Configure (cfg.TimeRes numerator denominator)) = refl
heard_for number id (Configure (cfg.Steps data_id steps)) = refl
heard_for number id (Configure (cfg.Input data_id position vr source_type)) = typed (λ (k : DataType). cfg.Input data_id position vr k) source_type
heard_for number id (Configure (cfg.Output data_id position vr)) = refl
heard_for number id (Configure cfg.Clear) = refl
heard_for number id (Configure (cfg.Target net)) = refl
heard_for number id (Configure (cfg.Source net)) = refl
heard_for number id (Configure (cfg.Parameter vr kind value)) = typed (λ (k : DataType). cfg.Parameter vr k value) kind
heard_for number id (Configure (cfg.Tunable param_id position vr kind)) = typed (λ (k : DataType). cfg.Tunable param_id position vr k) kind
heard_for number id (Configure (cfg.ParamNet param_id protocol port ip)) = refl
heard_for number id (Configure (cfg.Logging category level mode)) = refl
heard_for number id (Configure (cfg.Scope data_id scope)) = refl
heard_for number id AskState = refl
heard_for number id AskError = refl

-- what a request of the log asks
abbrev pub asked_of : (id : ℕ) → Asking → Option Asked
asked_of id b = asked_in (note_of id b)

pub asked_is : (id : ℕ) (r : Request) (b : Asking) → IsOf r b → asked_of id b ≡ Some (asked_for r)
asked_is id r b o =
    ap (λ (c : ℕ). asked_heard (heard_in c (Number b.number ∷ Number id ∷ b.more))) o.0
    ∙ ap (λ (vs : List FieldValue). asked_heard (heard_in (code_of r) (Number b.number ∷ Number id ∷ vs))) o.1
    ∙ heard_for b.number id r
