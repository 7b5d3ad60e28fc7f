-- To whom the messages of an end go.
use Rattle.std.specs.Prelude.{◌≡◌, ℕ, List, slice_get, slice_set, position, Option, Some, MatchOption}
use Rattle.dcp_types.specs.declared.addresses.Address.{Address}
use Rattle.dcp_ends.specs.Logs.{same_address}
use Rattle.dcp_net.specs.declared.nets.Done.{Done}
use Rattle.dcp_net.specs.declared.nets.Done.TheVariants as done
use Rattle.live_net.specs.declared.departures.Outward.{Outward}
use Rattle.live_net.specs.Departures.{Sends}

-- the place of the first connection that leads to an end, if any
abbrev pub place_to : Address → List Outward → Option ℕ
place_to to outward = position (λ o. same_address o.to to) outward

-- the connection at this place had the message to send, and the others nothing
pub record SendsAt (place : ℕ) (from : Address) (message : List ℕ) (old new : List Outward) : Type 0 where
  pub before : Outward
  pub after : Outward
  pub here : slice_get old place ≡ Some before
  pub sends : Sends from message before after
  pub others : new ≡ slice_set old place after

-- a message goes to its receiver alone, and one to none of the ends goes nowhere
abbrev pub Departs : Address → Address → List ℕ → List Outward → List Outward → Type 0
Departs from to message old new = MatchOption (place_to to old) (new ≡ old) (λ place. SendsAt place from message old new)

-- a send over TCP wants memory or succeeds
abbrev pub DepartsIf : Done → Address → Address → List ℕ → List Outward → List Outward → Type 0
DepartsIf done.Ok from to message old new = Departs from to message old new
DepartsIf done.Failed from to message old new = ⊥
DepartsIf done.OutOfMemory from to message old new = new ≡ old
