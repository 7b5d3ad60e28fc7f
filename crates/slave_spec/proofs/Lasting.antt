-- What a machine has at its start, and keeps at each request, turn and data message, it has after every list of events.
use Rattle.std.proofs.Common.{◌≡◌, ℕ, Bool, true, false, List, [], ◌∷◌, if◌then◌else◌}
use Rattle.dcp_types.specs.declared.addresses.Address.{Address}
use Rattle.dcp_ends.specs.Events.{Event, Gram, Tick}
use Rattle.slave_spec.specs.Heard.{Asked, SlaveRequest, Heard, Asks, Brings, Nothing, heard}
use Rattle.slave_spec.specs.Transport.{Machine, SlaveState, Session, Before, During, After, Fate, Dropped, Refused, Repeated, Taken, fate, is_open, quieter, after_request, after_heard, after_turn, after, after_all, fresh, slave}

pub record Keeps {S : Type 0} (m : Machine S) (P : S → Type 0) : Type 0 where
  pub start : P m.start
  pub answers : (asked : Asked) (x : S) → P x → P (m.answers asked x).after
  pub turns : (quiet : ℕ) (x : S) → P x → P (m.turns quiet x).after
  pub brings : (from : Address) (number id : ℕ) (payload : List ℕ) (x : S) → P x → P (m.brings from number id payload x)

module _ {S : Type 0} (m : Machine S) (P : S → Type 0) (k : Keeps m P) where
  at_request : (x : SlaveState S) (from : Address) (r : SlaveRequest) (f : Fate) → P x.inner → P (after_request m x from r f).inner
  at_request x from r Dropped h = h
  at_request x from r (Refused code) h = h
  at_request x from r Repeated h = h
  at_request x from r Taken h = k.answers r.asked x.inner h

  at_data : (x : SlaveState S) (b : Bool) (y : S) → P x.inner → P y → P (if b then record x { inner = y } else x).inner
  at_data x true y h i = i
  at_data x false y h i = h

  at_heard : (x : SlaveState S) (from : Address) (h : Heard) → P x.inner → P (after_heard m x from h).inner
  at_heard x from (Asks r) h = at_request x from r (fate m x from r) h
  at_heard x from (Brings number id payload) h = at_data x (is_open x.session) (m.brings from number id payload x.inner) h (k.brings from number id payload x.inner h)
  at_heard x from Nothing h = h

  at_turn : (x : SlaveState S) (b : Bool) (quiet : ℕ) (y : S) → P x.inner → P y → P (if b then record x { quiet = quiet; inner = y } else x).inner
  at_turn x true quiet y h i = i
  at_turn x false quiet y h i = h

  at_event : (x : SlaveState S) (e : Event) → P x.inner → P (after m x e).inner
  at_event x (Gram from bytes) h = at_heard x from (heard bytes) h
  at_event x Tick h = at_turn x (is_open x.session) (quieter x.quiet) (m.turns (quieter x.quiet) x.inner).after h (k.turns (quieter x.quiet) x.inner h)

  at_all : (x : SlaveState S) (events : List Event) → P x.inner → P (after_all m x events).inner
  at_all x [] h = h
  at_all x (e ∷ events) h = at_all (after m x e) events (at_event x e h)

  pub lasting : (events : List Event) → P (slave m events).inner
  lasting events = at_all (fresh m) events k.start
