-- A slave core stands for where a slave is, and so for a list of events.
use Rattle.std.specs.Prelude.{ℕ, List, [], ◌∷◌}
use Rattle.dcp_types.specs.declared.addresses.Address.{Address}
use Rattle.dcp_ends.specs.Events.{Event, Send}
use Rattle.slave_spec.specs.Transport.{SlaveState}
use Rattle.slave_spec.specs.Plants.{Plant}
use Rattle.slave_spec.specs.declared.words.SlaveSetup.{SlaveSetup}
use Rattle.slave_spec.specs.Slaves.{slave_after}
use Rattle.slave_core.specs.Standing.{SessionStandsAt}
use Rattle.slave_core.specs.declared.cores.SlaveCore.{SlaveCore}

abbrev pub CoreStands : {M : Type 0} → (M → Plant → Type 0) → SlaveCore M → SlaveState Plant → Type 0
CoreStands stands c x = SessionStandsAt c.session c.expected c.kept c.quiet (stands c.inner) x

abbrev pub CoreStandsFor : {M : Type 0} → (M → SlaveSetup) → (M → Plant → Type 0) → SlaveCore M → List Event → Type 0
CoreStandsFor setup stands c events = CoreStands stands c (slave_after (setup c.inner) events)

-- the bytes kept, as a message
abbrev pub bytes_again : Address → List ℕ → List Send
bytes_again to [] = []
bytes_again to (b ∷ bytes) = record { to = to; bytes = b ∷ bytes } ∷ []
