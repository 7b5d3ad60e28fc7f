-- What is sent, where there is something.
use Rattle.std.specs.Prelude.{ℕ, List, [], ◌∷◌}
use Rattle.dcp_types.specs.declared.addresses.Address.{Address}
use Rattle.dcp_ends.specs.Events.{Send}

-- the message, where it has bytes
abbrev pub sends_to : Address → List ℕ → List Send
sends_to to [] = []
sends_to to (b ∷ bytes) = record { to = to; bytes = b ∷ bytes } ∷ []
