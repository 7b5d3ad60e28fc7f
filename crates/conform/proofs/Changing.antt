-- An accepted change of state.
use Rattle.std.proofs.Common.{◌≡◌, Ok}
use Rattle.dcp_types.specs.declared.states.State.{State}
use Rattle.pdu_layout.specs.declared.messages.Stc.{Stc}
use Rattle.slave_desc.specs.declared.descriptions.SlaveDesc.{SlaveDesc}
use Rattle.slave_states.specs.Transitions.{next_on}
use Rattle.slave_spec.specs.declared.words.Asked.TheVariants.{Change}
use Rattle.slave_spec.specs.Transport.{Ack}
use Rattle.slave_spec.specs.Requests.{accepted, changed_to}
use Rattle.slave_spec.specs.Foreign.{ForeignPlant, setup_for, known_plant, taken_over, foreign_answered}
use Rattle.conform.specs.declared.plants.ForeignDevice.{ForeignDevice}
use Rattle.conform.specs.Plants.{ForeignFor}

pub changed : (d : SlaveDesc) (p : ForeignPlant) (named : State) (request : Stc) (next : State) (c : ForeignDevice)
    → next_on p.state request named p.outputs_sent ≡ Ok next
    → ForeignFor c d (taken_over (Change named request) p (changed_to (setup_for d) (known_plant d p) request next))
    → ForeignFor c d (foreign_answered d p (Change named request) Ack)
unfolding accepted
changed d p named request next c e h = rw e h
