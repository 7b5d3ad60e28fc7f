-- What a network in memory tells, and which of its calls fails.
use Rattle.std.specs.Prelude.{ℕ, ◌==◌, ◌&&◌, List, [], Bool, true, false, Option, None, Some}
use Rattle.dcp_types.specs.declared.addresses.Address.{Address}
use Rattle.dcp_ends.specs.declared.entries.LogEntry.{LogEntry}
use Rattle.dcp_net.specs.declared.openings.Opening.{Opening}
use Rattle.dcp_net.specs.declared.nets.Taken.{Taken}
use Rattle.net_world.specs.declared.memory_nets.NetCall.{NetCall}
use Rattle.net_world.specs.declared.memory_nets.NetCall.TheVariants.{Begin, Send, Take}
use Rattle.net_world.specs.Calls.{Carried, TakesDue}
use Rattle.net_world.specs.Deliveries.{due}
use Rattle.net_world.specs.Messages.{messages}

abbrev pub same_call : NetCall → NetCall → Bool
same_call Begin Begin = true
same_call Send Send = true
same_call Take Take = true
same_call _ _ = false

abbrev pub is_chosen : NetCall → Option NetCall → Bool
is_chosen call None = false
is_chosen call (Some chosen) = same_call chosen call

-- a call of this kind fails now: its kind was chosen, and no more of that kind come before the one that fails
abbrev pub fails_now : NetCall → Option NetCall → ℕ → Bool
fails_now call chosen before = is_chosen call chosen && (before == 0)

-- the calls since it was opened; before that it has made none
abbrev pub calls_of : Option Carried → Option (List LogEntry)
calls_of None = Some []
calls_of (Some carried) = Some carried.calls

-- what it was opened with; before that it tells nothing
abbrev pub carried_opening : Option Carried → Option Opening
carried_opening None = None
carried_opening (Some carried) = Some carried.opening

-- how many messages were sent since then
abbrev pub sent_of : Option Carried → ℕ
sent_of None = 0
sent_of (Some carried) = messages carried.calls

abbrev pub is_opened : Option Carried → Bool
is_opened None = false
is_opened (Some carried) = true

-- a take at an open network gives what is due
abbrev pub TakesOpened : Option Carried → Address → Taken → List ℕ → Type 0
TakesOpened None at taken room = Unit {0}
TakesOpened (Some carried) at taken room = TakesDue (due carried.opening carried.calls at) taken room
