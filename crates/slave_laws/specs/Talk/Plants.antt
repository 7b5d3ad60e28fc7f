-- The row events of the slave of the definition.
use Rattle.std.specs.Prelude.{ℕ, ◌+◌, Bool, true, false, Option, Some, None, is_some, length}
use Rattle.dcp_types.specs.declared.states.State.{State}
use Rattle.dcp_types.specs.declared.states.State.TheVariants.{SendingI, Computing, SendingD, ErrorHandling, ErrorResolved}
use Rattle.dcp_types.specs.declared.error_codes.ErrorCode.{ErrorCode}
use Rattle.pdu_layout.specs.declared.messages.Stc.TheVariants as stc
use Rattle.lockstep_laws.specs.Steps.{RowEvent, Show, Step, Restart, Reply, Accepted, AtRest, Otherwise, is_on_its_way, Bench}
use Rattle.dcp_types.specs.Codes.{state_code}
use Rattle.std.specs.Prelude.{if◌then◌else◌}
use Rattle.slave_spec.specs.declared.words.Asked.{Asked}
use Rattle.slave_spec.specs.declared.words.Asked.TheVariants.{Change}
use Rattle.slave_spec.specs.Transport as transport
use Rattle.slave_spec.specs.Plants.{Plant}
use Rattle.slave_spec.specs.Turns as turns
use Rattle.slave_spec.specs.Turns.{Act, is_sending_state}

-- the event that is under way in a state
abbrev pub under_way : State → Option RowEvent
under_way SendingI = Some Show
under_way SendingD = Some Show
under_way Computing = Some Step
under_way state = None

abbrev pub bench_of : ℕ → Plant → Bench
bench_of events p = record { events = events; busy = under_way p.state; faulty = is_some p.fault; resets = length p.earlier; steps = p.steps }

-- the event that a request asks for
abbrev pub event_wanted : Asked → Option RowEvent
event_wanted (Change named stc.SendOutputs) = Some Show
event_wanted (Change named (stc.DoStep steps)) = Some Step
event_wanted (Change named stc.Reset) = Some Restart
event_wanted asked = None

abbrev pub reply_told : transport.SlaveAnswer → Reply
reply_told transport.Ack = Accepted
reply_told (transport.Nack code) = Otherwise
reply_told (transport.StateAck state) = if is_on_its_way (state_code state) then Otherwise else AtRest
reply_told (transport.ErrorAck code) = Otherwise
reply_told (transport.LogAck entries) = Otherwise

-- how many events are done after an answer, and after a turn
abbrev pub events_taken : Option RowEvent → Option ErrorCode → ℕ → ℕ
events_taken (Some Restart) None n = n + 1
events_taken _ _ n = n

abbrev pub events_turned : State → Act → ℕ → ℕ
events_turned state turns.Stay n = n
events_turned state (turns.Wait left) n = n
events_turned state (turns.Fault code) n = n
events_turned state (turns.Step x) n = n + 1
events_turned state turns.Pass n = if is_sending_state state then n + 1 else n

-- a slave with a fault is in an error state as long as its session lasts
abbrev pub is_error_state : State → Bool
is_error_state ErrorHandling = true
is_error_state ErrorResolved = true
is_error_state state = false
