-- What a machine has after the register that begins a session, and keeps while the session lasts, it has through the session.
use Rattle.std.proofs.Common.{◌≡◌, ℕ, Bool, true, false, ◌==◌, ◌&&◌, List, [], ◌∷◌, refl, ap, sym, ◌∙◌, subst, if◌then◌else◌, Option, Some, None}
use Rattle.std.proofs.lemmas.Bool.{and_parts}
use Rattle.dcp_types.specs.declared.addresses.Address.{Address}
use Rattle.dcp_types.specs.declared.error_codes.ErrorCode.{ErrorCode}
use Rattle.dcp_ends.specs.Events.{Event, Gram, Tick}
use Rattle.seq_window.specs.declared.places.Place.{Place}
use Rattle.slave_spec.specs.Heard.{Asked, SlaveRequest, Heard, Asks, Brings, Nothing, heard}
use Rattle.slave_spec.specs.Transport.{Machine, SlaveState, Session, Before, During, After, Fate, Dropped, Refused, Repeated, Taken, Exchange, Answered, is_register, admitted, is_last, session_after, fate_in, fate, is_open, quieter, taken_with, after_request, after_heard, after_turn, after, after_all, fresh, slave}

pub record Endures {S : Type 0} (m : Machine S) (P : S → Type 0) : Type 0 where
  pub first : (asked : Asked) → is_register asked ≡ true → m.refuses asked ≡ None → P (m.answers asked m.start).after
  pub answers : (asked : Asked) (x : S) → P x → is_last asked (m.answers asked x).answer ≡ false → P (m.answers asked x).after
  pub turns : (quiet : ℕ) (x : S) → P x → P (m.turns quiet x).after
  pub brings : (from : Address) (number id : ℕ) (payload : List ℕ) (x : S) → P x → P (m.brings from number id payload x)

-- through the session
abbrev pub Through : {S : Type 0} → Machine S → (S → Type 0) → Session → S → Type 0
Through m P Before x = x ≡ m.start
Through m P (During master id) x = P x
Through m P (After master id) x = Unit {0}

module _ {S : Type 0} (m : Machine S) (P : S → Type 0) (k : Endures m P) where
  lasts_or_ends : (master : Address) (id : ℕ) (x : S) (b : Bool) → (b ≡ false → P x) → Through m P (if b then After master id else During master id) x
  lasts_or_ends master id x true f = tt
  lasts_or_ends master id x false f = f refl

  begins : (r : SlaveRequest) (o : Option ErrorCode) → admitted o ≡ Taken → o ≡ None
  begins r None e = refl
  begins r (Some code) e = absurd cc

  chosen : (b : Bool) (f : Fate) → (if b then f else Dropped) ≡ Taken → (b ≡ true) × (f ≡ Taken)
  chosen true f e = (refl, e)
  chosen false f e = absurd cc

  at_taken : (session : Session) (served : List Exchange) (x : S) (from : Address) (r : SlaveRequest) → Through m P session x → fate_in m session served from r ≡ Taken
      → Through m P (session_after session from r (m.answers r.asked x).answer) (m.answers r.asked x).after
  at_taken Before served x from r h e =
      let c = chosen (is_register r.asked && (r.number == 0)) (admitted (m.refuses r.asked)) e in
      let a = and_parts (is_register r.asked) (r.number == 0) c.0 in
      subst (λ (y : S). P (m.answers r.asked y).after) (sym h) (k.first r.asked a.0 (begins r (m.refuses r.asked) c.1))
  at_taken (During master id) served x from r h e =
      lasts_or_ends master id (m.answers r.asked x).after (is_last r.asked (m.answers r.asked x).answer) (λ f. k.answers r.asked x h f)
  at_taken (After master id) served x from r h e = tt

  abbrev Stays : SlaveState S → Type 0
  Stays x = Through m P x.session x.inner

  at_request : (x : SlaveState S) (from : Address) (r : SlaveRequest) (f : Fate) → fate m x from r ≡ f → Stays x → Stays (after_request m x from r f)
  at_request x from r Dropped e h = h
  at_request x from r (Refused code) e h = h
  at_request x from r Repeated e h = h
  at_request x from r Taken e h = at_taken x.session x.served x.inner from r h e

  opened : (s : Session) (x y : S) → is_open s ≡ true → (P x → P y) → Through m P s x → Through m P s y
  opened Before x y e f h = absurd cc
  opened (During master id) x y e f h = f h
  opened (After master id) x y e f h = absurd cc

  at_data : (x : SlaveState S) (b : Bool) (y : S) → is_open x.session ≡ b → (P x.inner → P y) → Stays x → Stays (if b then record x { inner = y } else x)
  at_data x true y e f h = opened x.session x.inner y e f h
  at_data x false y e f h = h

  at_heard : (x : SlaveState S) (from : Address) (h : Heard) → Stays x → Stays (after_heard m x from h)
  at_heard x from (Asks r) h = at_request x from r (fate m x from r) refl h
  at_heard x from (Brings number id payload) h = at_data x (is_open x.session) (m.brings from number id payload x.inner) refl (λ p. k.brings from number id payload x.inner p) h
  at_heard x from Nothing h = h

  at_turn : (x : SlaveState S) (b : Bool) (quiet : ℕ) (y : S) → is_open x.session ≡ b → (P x.inner → P y) → Stays x → Stays (if b then record x { quiet = quiet; inner = y } else x)
  at_turn x true quiet y e f h = opened x.session x.inner y e f h
  at_turn x false quiet y e f h = h

  at_event : (x : SlaveState S) (e : Event) → Stays x → Stays (after m x e)
  at_event x (Gram from bytes) h = at_heard x from (heard bytes) h
  at_event x Tick h = at_turn x (is_open x.session) (quieter x.quiet) (m.turns (quieter x.quiet) x.inner).after refl (λ p. k.turns (quieter x.quiet) x.inner p) h

  at_all : (x : SlaveState S) (events : List Event) → Stays x → Stays (after_all m x events)
  at_all x [] h = h
  at_all x (e ∷ events) h = at_all (after m x e) events (at_event x e h)

  pub enduring : (events : List Event) → Through m P (slave m events).session (slave m events).inner
  enduring events = at_all (fresh m) events refl
