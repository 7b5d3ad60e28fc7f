-- A slave, over the whole list of its events.
use Rattle.std.specs.Prelude.{ℕ, ◌&&◌, ◌||◌, nat_le, Bool, true, false, List, Option}
use Rattle.dcp_types.specs.declared.states.State.{State}
use Rattle.dcp_types.specs.declared.states.State.TheVariants.{ErrorResolved}
use Rattle.dcp_types.specs.declared.fault_codes.FaultCode.{FaultCode}
use Rattle.dcp_ends.specs.Events.{Event, Rules}
use Rattle.slave_desc.specs.declared.descriptions.SlaveDesc.{SlaveDesc}
use Rattle.slave_states.specs.Transitions.{is_same}
use Rattle.slave_spec.specs.Transport.{Machine, SlaveState, Session, Before, During, After, slave, sends}
use Rattle.slave_spec.specs.Plants.{SlaveSetup, Plant, start_plant}
use Rattle.slave_spec.specs.Requests.{register_refusal, answers}
use Rattle.slave_spec.specs.Turns.{turns, brings}

abbrev pub machine : SlaveSetup → Machine Plant
machine s = record { start = start_plant s; refuses = register_refusal s.desc.uuid; answers = answers s; turns = turns s; brings = brings s }

abbrev pub slave_after : SlaveSetup → List Event → SlaveState Plant
slave_after s events = slave (machine s) events

abbrev pub has_ended : Session → Bool
has_ended Before = false
has_ended (During master id) = false
has_ended (After master id) = true

-- the session has ended, or the slave stands in an error that is resolved, and nothing was asked of it for 1,000 turns
abbrev pub is_over : SlaveState Plant → Bool
is_over x = has_ended x.session || (is_same x.inner.state ErrorResolved && nat_le 1000 x.quiet)

-- what a slave of this setup is made to do
abbrev pub slave_rules_from : SlaveSetup → Rules
slave_rules_from s = record {
  place = s.desc.address;
  sends = λ events event. sends (machine s) (slave_after s events) event;
  over = λ events. is_over (slave_after s events);
}

-- what is read of it from outside
abbrev pub state_after : SlaveSetup → List Event → State
state_after s events = (slave_after s events).inner.state

abbrev pub steps_after : SlaveSetup → List Event → ℕ
steps_after s events = (slave_after s events).inner.steps

abbrev pub fault_after : SlaveSetup → List Event → Option FaultCode
fault_after s events = (slave_after s events).inner.fault

abbrev pub quiet_after : SlaveSetup → List Event → ℕ
quiet_after s events = (slave_after s events).quiet
