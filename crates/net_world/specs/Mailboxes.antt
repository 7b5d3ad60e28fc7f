-- Mailboxes: the deliveries that wait, by the address that they are for.
use Rattle.std.specs.Prelude.{◌≡◌, ℕ, zero, suc, ◌+◌, ◌≤◌, List, [], ◌∷◌, Bool, true, false, Option, None, Some, if◌then◌else◌, slice_index_or}
use Rattle.std.specs.VecDeque.{deque_len, deque_capacity}
use Rattle.dcp_types.specs.declared.addresses.Address.{Address}
use Rattle.dcp_ends.specs.Logs.{same_address}
use Rattle.net_world.specs.declared.deliveries.Arrival.{Arrival}
use Rattle.net_world.specs.declared.mailboxes.Mailbox.{Mailbox}

abbrev pub is_box : Address → Mailbox → Bool
is_box at mailbox = same_address mailbox.at at

-- the deliveries for an address: those of its first mailbox
abbrev pub queue_of : Address → List Mailbox → List Arrival
queue_of at [] = []
queue_of at (mailbox ∷ boxes) = if is_box at mailbox then mailbox.queue.items else queue_of at boxes

-- none of them is of this address
abbrev pub NoBox : Address → List Mailbox → Type 0
NoBox at [] = Unit {0}
NoBox at (mailbox ∷ boxes) = (is_box at mailbox ≡ false) × NoBox at boxes

-- the first of this address stands at this place
abbrev pub IsFirstBox : Address → List Mailbox → ℕ → Type 0
IsFirstBox at [] i = ⊥
IsFirstBox at (mailbox ∷ boxes) zero = is_box at mailbox ≡ true
IsFirstBox at (mailbox ∷ boxes) (suc i) = (is_box at mailbox ≡ false) × IsFirstBox at boxes i

abbrev pub FindsBox : Address → List Mailbox → Option ℕ → Type 0
FindsBox at boxes None = NoBox at boxes
FindsBox at boxes (Some i) = IsFirstBox at boxes i

-- two more deliveries can be put into this mailbox without memory
abbrev pub HasRoomAt : ℕ → List Mailbox → Type 0
HasRoomAt i boxes = (d : Mailbox) → deque_len (slice_index_or boxes i d).queue + 2 ≤ deque_capacity (slice_index_or boxes i d).queue
