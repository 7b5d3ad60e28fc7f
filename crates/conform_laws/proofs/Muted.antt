-- A slave whose newest answer nobody reads takes nothing more: its master still asks for the same.
use Rattle.std.proofs.Common.{◌≡◌, ℕ, ◌+◌, ◌%◌, ◌<◌, ◌≤◌, Bool, true, false, if◌then◌else◌, inl, List, [], ◌∷◌, ◌++◌, length, refl, sym, ap, ◌∙◌, subst, arith}
use Rattle.std.specs.Prelude.{◌==◌, ◌&&◌}
use Rattle.std.proofs.lemmas.Bool.Decides.{nat_tests}
use Rattle.dcp_types.specs.declared.addresses.Address.{Address}
use Rattle.dcp_ends.specs.Events.{Gram, Tick, Send}
use Rattle.seq_window.specs.declared.places.Place as seq
use Rattle.seq_window.specs.declared.places.Place.TheVariants as places
use Rattle.seq_window.specs.Window.{place}
use Rattle.log_spec.specs.Messages.{Note, Role, Request, Answer, Value, Else}
use Rattle.log_spec.specs.Log.{Parties, role_heard, DecidedRequest}
use Rattle.log_spec.specs.Moves.{Move, Comes, Turns}
use Rattle.log_spec.proofs.Channel.{IsAt}
use Rattle.lockstep_laws.specs.Slaves.{ServesNote}
use Rattle.lockstep_laws.proofs.Talk.{Behind}
use Rattle.slave_desc.specs.declared.descriptions.SlaveDesc.{SlaveDesc}
use Rattle.slave_spec.specs.declared.words.SlaveRequest as req
use Rattle.slave_spec.specs.declared.words.Session.{Session}
use Rattle.slave_spec.specs.declared.words.Session.TheVariants.{Before, During, After}
use Rattle.slave_spec.specs.declared.words.Fate.{Fate}
use Rattle.slave_spec.specs.declared.words.Fate.TheVariants.{Dropped, Repeated}
use Rattle.slave_spec.specs.Heard as spec
use Rattle.slave_spec.specs.Transport as transport
use Rattle.slave_spec.specs.Transport.{Exchange, expected}
use Rattle.slave_laws.specs.Talk.Desks.{Agree}
use Rattle.slave_laws.specs.Talk.Sends.{ReadsMessages}
use Rattle.slave_spec.specs.Foreign.{ForeignState, Choice, foreign, MaySendAt}
use Rattle.conform_laws.specs.Served.{exchange_of, exchange_heard, exchange_at}
use Rattle.conform_laws.proofs.Asides.{AreAside, aside_none, aside_joined, notices_aside, turn_aside}
use Rattle.conform_laws.proofs.Taking.{IsBegun, desk, got_so, accepts, IsMuteOver}

-- ---- numbers

-- what stands at one of the last ordinals has neither the number behind them all, nor one ahead of it
behind_all : (number ordinal many : ℕ) → number ≡ ordinal % 65536 → ordinal < many → many ≤ ordinal + 32768 → place number (many % 65536) ≡ places.Next → ⊥
behind_all number ordinal many e lt le h = grind (arith, nat_tests)

-- nor a number ahead of it
ahead_of_all : (number ordinal many : ℕ) → number ≡ ordinal % 65536 → ordinal < many → many ≤ ordinal + 32768 → place number (many % 65536) ≡ places.Ahead → ⊥
ahead_of_all number ordinal many e lt le h = grind (arith, nat_tests)

-- a note is neither the next one after so many nor ahead of that
pub record IsOld (n : Note) (many : ℕ) : Type 0 where
  pub next : place n.number (many % 65536) ≡ places.Next → ⊥
  pub ahead : place n.number (many % 65536) ≡ places.Ahead → ⊥

-- so is what comes from a channel
pub at_is_old : (rs : List Note) (n : Note) → IsAt rs n → IsOld n (length rs)
at_is_old rs n at = record { next = behind_all n.number at.ordinal (length rs) at.number at.below at.young; ahead = ahead_of_all n.number at.ordinal (length rs) at.number at.below at.young }

-- what stands at one of the last ordinals under the next number after so many is the newest
pub newest_is : (n : Note) (rs taken : List Note) → IsAt rs n → n.number ≡ length taken % 65536 → Behind taken rs → rs ≡ n ∷ taken
newest_is n rs taken at next b = grind (arith, nat_tests)

module _ (w : Parties) (rd : ReadsMessages w) (d : SlaveDesc) where
  -- an event takes nothing
  pub record MutesOn (mv : Move) (es exchange : List DecidedRequest) (sent : List Send) (y : ForeignState) : Type 0 where
    pub serves : ServesNote w (accepts w rd d) mv (desk es []) (desk es sent)
    pub none : exchange ≡ []
    pub mute : IsMuteOver w rd d y es

  -- only the machine goes on
  inner_mute : (b : Bool) (x y : ForeignState) (es : List DecidedRequest) → y.served ≡ x.served → y.session ≡ x.session → IsMuteOver w rd d x es → IsMuteOver w rd d (if b then y else x) es
  inner_mute false x y es e f m = m
  inner_mute true x y es e f m =
      let Q : Session → Type 0 = IsBegun in
      record { newest = m.newest; rest = m.rest; is = e ∙ m.is; mute = m.mute; many = m.many; begun = subst Q (sym f) m.begun }

  -- ---- a request

  module _ (c : Choice) (x : ForeignState) (es : List DecidedRequest) (m : IsMuteOver w rd d x es) (from : Address) (receiver : ℕ) (n : Note) (r : req.SlaveRequest) (e : r.number ≡ n.number) (old : IsOld n (length es + 1)) (ns : List Send) (aside : AreAside w ns) where
    abbrev Out : Fate → Type 0
    Out f = MutesOn (Comes from receiver n) es (exchange_of x r n c.answer f) (transport.request_sends (foreign d c) x from r f ++ ns) (transport.after_request (foreign d c) x from r f)

    -- a request that is dropped
    dropped : Out Dropped
    dropped = record { serves = inl (record { served = refl; owes = aside_none w ns aside }); none = refl; mute = m }

    -- the answer that is kept is aside
    again_aside : AreAside w (transport.again from x.served)
    again_aside =
        let P : List Exchange → Type 0 = λ z. AreAside w (transport.again from z) in
        subst P (sym m.is) (m.mute from (m.newest).request (expected (m.newest ∷ m.rest)), tt)

    -- a request that comes again
    repeated : Out Repeated
    repeated = record { serves = inl (record { served = refl; owes = aside_none w (transport.again from x.served ++ ns) (aside_joined w (transport.again from x.served) ns again_aside aside) }); none = refl; mute = m }

    -- one more was taken than the desk has
    many : length x.served ≡ length es + 1
    many = ap length m.is ∙ omega (arith, m.many)

    -- so this is the place of its number
    place_is : place n.number ((length es + 1) % 65536) ≡ place r.number (expected x.served)
    place_is = ap (λ k. place k ((length es + 1) % 65536)) (sym e) ∙ ap (λ k. place r.number (k % 65536)) (sym many)

    -- by its place, in a session
    placed : (q : seq.Place) → place r.number (expected x.served) ≡ q → Out (transport.placed q)
    placed places.Next h = absurd (old.next (place_is ∙ h))
    placed places.Repeat h = repeated
    placed places.Old h = dropped
    placed places.Ahead h = absurd (old.ahead (place_is ∙ h))

    -- by its place, after a session
    placed_late : (q : seq.Place) → Out (transport.placed_late q)
    placed_late places.Next = dropped
    placed_late places.Repeat = repeated
    placed_late places.Old = dropped
    placed_late places.Ahead = dropped

    -- any request
    request_mutes : (session : Session) → IsBegun session → Out (transport.fate_in (foreign d c) session x.served from r)
    request_mutes Before begun = absurd begun
    request_mutes (During master id) begun = by (transport.same_address from master && (r.receiver == id))
      where
        by : (b : Bool) → Out (if b then transport.placed (place r.number (expected x.served)) else Dropped)
        by true = placed (place r.number (expected x.served)) refl
        by false = dropped
    request_mutes (After master id) begun = by (transport.same_address from master && (r.receiver == id))
      where
        by : (b : Bool) → Out (if b then transport.placed_late (place r.number (expected x.served)) else Dropped)
        by true = placed_late (place r.number (expected x.served))
        by false = dropped

  -- ---- any event

  -- a request that comes is one of the last
  abbrev pub HeardOld : Role → ℕ → Type 0
  HeardOld (Request receiver n) count = IsOld n count
  HeardOld (Answer sender n) count = Unit {0}
  HeardOld (Value id n) count = Unit {0}
  HeardOld Else count = Unit {0}

  -- any datagram, by both readings of it
  heard_mutes : (c : Choice) (x : ForeignState) (es : List DecidedRequest) (from : Address) (ns : List Send) → AreAside w ns → IsMuteOver w rd d x es → (k : Role) (h : spec.Heard) → Agree k h → HeardOld k (length es + 1)
      → MutesOn (got_so from k) es (exchange_heard d c x from k h) (transport.heard_sends (foreign d c) x from h ++ ns) (transport.after_heard (foreign d c) x from h)
  heard_mutes c x es from ns aside m (Request receiver n) (spec.Asks r) a old = request_mutes c x es m from receiver n r a.0 old ns aside x.session m.begun
  heard_mutes c x es from ns aside m (Request receiver n) (spec.Brings number i payload) a old = absurd a
  heard_mutes c x es from ns aside m (Request receiver n) spec.Nothing a old = absurd a
  heard_mutes c x es from ns aside m (Answer sender n) (spec.Asks r) a old = absurd a
  heard_mutes c x es from ns aside m (Answer sender n) (spec.Brings number i payload) a old = absurd a
  heard_mutes c x es from ns aside m (Answer sender n) spec.Nothing a old = record { serves = record { served = refl; owes = aside_none w ns aside }; none = refl; mute = m }
  heard_mutes c x es from ns aside m (Value id n) (spec.Asks r) a old = absurd a
  heard_mutes c x es from ns aside m (Value id n) (spec.Brings number i payload) a old = record {
    serves = record { served = refl; owes = aside_none w ns aside };
    none = refl;
    mute = inner_mute (transport.is_open x.session) x (record x { inner = (foreign d c).brings from number i payload x.inner }) es refl refl m;
  }
  heard_mutes c x es from ns aside m (Value id n) spec.Nothing a old = absurd a
  heard_mutes c x es from ns aside m Else (spec.Asks r) a old = absurd a
  heard_mutes c x es from ns aside m Else (spec.Brings number i payload) a old = absurd a
  heard_mutes c x es from ns aside m Else spec.Nothing a old = record { serves = record { served = refl; owes = aside_none w ns aside }; none = refl; mute = m }

  module _ (agree : (bytes : List ℕ) → Agree (role_heard w bytes) (spec.heard bytes)) where
    -- a datagram takes nothing, where it is one of the last requests
    pub got_mutes : (x y : ForeignState) (es : List DecidedRequest) (from : Address) (bytes : List ℕ) (sent : List Send) → IsMuteOver w rd d x es → HeardOld (role_heard w bytes) (length es + 1) → (may : MaySendAt d x (Gram from bytes) sent y)
        → MutesOn (got_so from (role_heard w bytes)) es (exchange_at w d may.choice x (Gram from bytes)) sent y
    got_mutes x y es from bytes sent m old may =
        let c = may.choice in
        let P : List Send → ForeignState → Type 0 = λ l z. MutesOn (got_so from (role_heard w bytes)) es (exchange_at w d c x (Gram from bytes)) l z in
        let h = heard_mutes c x es from may.notices (notices_aside w rd y may.notices may.told) m (role_heard w bytes) (spec.heard bytes) (agree bytes) old in
        subst (λ l. P l y) (sym may.sends) (subst (λ z. P (transport.sends (foreign d c) x (Gram from bytes) ++ may.notices) z) (sym may.after) h)

  -- nor does a turn
  pub turn_mutes : (x y : ForeignState) (es : List DecidedRequest) (sent : List Send) → IsMuteOver w rd d x es → MaySendAt d x Tick sent y → MutesOn Turns es [] sent y
  turn_mutes x y es sent m may =
      let c = may.choice in
      let all : List Send = transport.sends (foreign d c) x Tick ++ may.notices in
      let P : List Send → ForeignState → Type 0 = λ l z. MutesOn Turns es [] l z in
      let h : MutesOn Turns es [] all (transport.after (foreign d c) x Tick) = record {
        serves = record { served = refl; owes = aside_none w all (aside_joined w (transport.sends (foreign d c) x Tick) may.notices (turn_aside w rd d c x may.free) (notices_aside w rd y may.notices may.told)) };
        none = refl;
        mute = inner_mute (transport.is_open x.session) x (record x { quiet = transport.quieter x.quiet; inner = ((foreign d c).turns (transport.quieter x.quiet) x.inner).after }) es refl refl m;
      } in
      subst (λ l. P l y) (sym may.sends) (subst (λ z. P all z) (sym may.after) h)
