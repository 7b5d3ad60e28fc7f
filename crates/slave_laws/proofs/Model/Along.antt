-- What a slave has at first, and keeps at each request, turn and data message, it has after every log.
use Rattle.std.proofs.Common.{◌≡◌, ℕ, Bool, true, false, if◌then◌else◌, List, [], ◌∷◌, Some, refl, sym, subst, arith}
use Rattle.std.specs.Prelude.{◌==◌, ◌&&◌}
use Rattle.dcp_types.specs.declared.addresses.Address.{Address}
use Rattle.dcp_ends.specs.declared.entries.LogEntry.{LogEntry}
use Rattle.dcp_ends.specs.declared.entries.LogEntry.TheVariants.{Sent, Got, Idle, Turn}
use Rattle.log_spec.specs.Messages.{Note, Role, Request, Answer, Value, Else}
use Rattle.log_spec.specs.Log.{Parties, same, role_heard, DecidedRequest}
use Rattle.lockstep_laws.specs.Steps.{event_asked}
use Rattle.slave_laws.specs.Talk.Plants.{event_wanted}
use Rattle.log_spec.specs.Moves.{Move, Asks, Comes, Tells, Hears, Brings, Turns, Rests, Other, move}
use Rattle.seq_window.specs.declared.places.Place.{Place}
use Rattle.seq_window.specs.Window.{place}
use Rattle.slave_spec.specs.declared.words.SlaveSetup.{SlaveSetup}
use Rattle.slave_spec.specs.declared.words.SlaveRequest as req
use Rattle.slave_spec.specs.declared.words.Session.{Session}
use Rattle.slave_spec.specs.declared.words.Session.TheVariants.{Before, During, After}
use Rattle.slave_spec.specs.declared.words.Fate.{Fate}
use Rattle.slave_spec.specs.declared.words.Fate.TheVariants.{Dropped, Refused, Repeated, Taken}
use Rattle.slave_spec.specs.Heard as spec
use Rattle.slave_spec.specs.Transport as transport
use Rattle.slave_spec.specs.Transport.{SlaveState}
use Rattle.slave_spec.specs.Plants as plants
use Rattle.slave_spec.specs.Plants.{Plant}
use Rattle.slave_spec.specs.Begun.{IsRegular, IsRegularIn}
use Rattle.slave_spec.specs.Sound.{IsSoundPlant}
use Rattle.slave_spec.specs.Requests.{register_refusal, answers}
use Rattle.slave_spec.specs.Turns as turns
use Rattle.slave_spec.specs.Slaves.{machine}
use Rattle.slave_spec.proofs.Regular.{regular_after}
use Rattle.slave_spec.proofs.Soundness.{sound_after}
use Rattle.slave_laws.specs.Talk.Desks.{answer_note, served_by, served_after, Both, got, ticked, sent_next, next, at, events_of_slave, Agree}
use Rattle.slave_laws.proofs.Talk.Meets.{slave_is}

-- the exchange of a request that is taken
abbrev pub exchanged : SlaveSetup → Plant → req.SlaveRequest → Note → (next : ℕ) → DecidedRequest
exchanged s p r n next' = record { request = n; answer = answer_note r next' (answers s r.asked p).answer }

module _ (s : SlaveSetup) (Allowed : List DecidedRequest → Type 0) (P : Session → Plant → List DecidedRequest → Type 0) where
  -- Allowed says what may have been asked, and P what is kept
  pub record Lasts : Type 0 where
    pub less : (d : DecidedRequest) (es : List DecidedRequest) → Allowed (d ∷ es) → Allowed es
    pub start : P Before (plants.start_plant s) []
    pub first : (from : Address) (r : req.SlaveRequest) (n : Note) (next' : ℕ) (es : List DecidedRequest) → spec.heard_as (Some n.message) ≡ spec.Asks r → event_asked n ≡ event_wanted r.asked → transport.is_register r.asked ≡ true
        → Allowed (exchanged s (plants.start_plant s) r n next' ∷ es) → P Before (plants.start_plant s) es → P (During from r.receiver) (answers s r.asked (plants.start_plant s)).after (exchanged s (plants.start_plant s) r n next' ∷ es)
    pub taken : (master from : Address) (id : ℕ) (r : req.SlaveRequest) (n : Note) (next' : ℕ) (p : Plant) (es : List DecidedRequest) → spec.heard_as (Some n.message) ≡ spec.Asks r → event_asked n ≡ event_wanted r.asked → IsRegular p
        → Allowed (exchanged s p r n next' ∷ es) → P (During master id) p es → P (transport.session_after (During master id) from r (answers s r.asked p).answer) (answers s r.asked p).after (exchanged s p r n next' ∷ es)
    pub brings : (master from : Address) (id number i : ℕ) (payload : List ℕ) (p : Plant) (es : List DecidedRequest) → Allowed es → P (During master id) p es → P (During master id) (turns.brings s from number i payload p) es
    pub turns : (master : Address) (id quiet : ℕ) (p : Plant) (es : List DecidedRequest) → IsRegular p → IsRegular (turns.turns s quiet p).after → IsSoundPlant p → Allowed es → P (During master id) p es → P (During master id) (turns.turns s quiet p).after es

  module _ (l : Lasts) where
    -- ---- a request
    abbrev Next : SlaveState Plant → List DecidedRequest → SlaveState Plant → List DecidedRequest → Type 0
    Next x es y ds = Allowed ds → (Allowed es → P x.session x.inner es) → P y.session y.inner ds

    never_late : (c : Bool) (q : Place) → (if c then transport.placed_late q else Dropped) ≡ Taken → ⊥
    never_late c q e = grind arith

    register_first : (c : Bool) (d : Bool) (f : Fate) → (if c && d then f else Dropped) ≡ Taken → c ≡ true
    register_first true d f e = refl
    register_first false d f e = absurd cc

    taken_in : (session : Session) (x : SlaveState Plant) (es : List DecidedRequest) (from : Address) (n : Note) (r : req.SlaveRequest) → spec.heard_as (Some n.message) ≡ spec.Asks r → event_asked n ≡ event_wanted r.asked → IsRegularIn s session x.inner
        → transport.fate_in (machine s) session x.served from r ≡ Taken
        → let d = exchanged s x.inner r n (transport.expected (record { request = r; answer = (answers s r.asked x.inner).answer } ∷ x.served)) in
        Allowed (d ∷ es) → (Allowed es → P session x.inner es) → P (transport.session_after session from r (answers s r.asked x.inner).answer) (answers s r.asked x.inner).after (d ∷ es)
    taken_in Before x es from n r h ev reg e a f =
        let many = transport.expected (record { request = r; answer = (answers s r.asked x.inner).answer } ∷ x.served) in
        let reg' = register_first (transport.is_register r.asked) (r.number == 0) (transport.admitted (register_refusal s.desc.uuid r.asked)) e in
        let Q : Plant → Type 0 = λ p. Allowed (exchanged s p r n many ∷ es) → P Before p es → P (During from r.receiver) (answers s r.asked p).after (exchanged s p r n many ∷ es) in
        subst Q (sym reg) (λ a b. l.first from r n many es h ev reg' a b) a (f (l.less (exchanged s x.inner r n many) es a))
    taken_in (During master id) x es from n r h ev reg e a f =
        let many = transport.expected (record { request = r; answer = (answers s r.asked x.inner).answer } ∷ x.served) in
        l.taken master from id r n many x.inner es h ev reg a (f (l.less (exchanged s x.inner r n many) es a))
    taken_in (After master id) x es from n r h ev reg e a f = absurd (never_late (transport.same_address from master && (r.receiver == id)) (place r.number (transport.expected x.served)) e)

    at_request : (x : SlaveState Plant) (es : List DecidedRequest) (from : Address) (n : Note) (r : req.SlaveRequest) → spec.heard_as (Some n.message) ≡ spec.Asks r → event_asked n ≡ event_wanted r.asked → IsRegularIn s x.session x.inner → (f : Fate) → transport.fate (machine s) x from r ≡ f
        → Next x es (transport.after_request (machine s) x from r f) (served_by (machine s) x es n r f)
    at_request x es from n r h ev reg Dropped e a f = f a
    at_request x es from n r h ev reg (Refused code) e a f = f a
    at_request x es from n r h ev reg Repeated e a f = f a
    at_request x es from n r h ev reg Taken e a f = taken_in x.session x es from n r h ev reg e a f

    -- ---- data and turns
    open_brings : (session : Session) (p : Plant) (es : List DecidedRequest) (from : Address) (number i : ℕ) (payload : List ℕ) → transport.is_open session ≡ true → Allowed es → P session p es → P session (turns.brings s from number i payload p) es
    open_brings Before p es from number i payload o a h = absurd cc
    open_brings (During master id) p es from number i payload o a h = l.brings master from id number i payload p es a h
    open_brings (After master id) p es from number i payload o a h = absurd cc

    at_data : (x : SlaveState Plant) (es : List DecidedRequest) (from : Address) (number i : ℕ) (payload : List ℕ) → Next x es (transport.after_heard (machine s) x from (spec.Brings number i payload)) es
    at_data x es from number i payload a f = by (transport.is_open x.session) refl
      where
        by : (b : Bool) → transport.is_open x.session ≡ b → let y = (if b then record x { inner = turns.brings s from number i payload x.inner } else x) in P y.session y.inner es
        by true o = open_brings x.session x.inner es from number i payload o a (f a)
        by false o = f a

    open_turns : (session : Session) (p : Plant) (es : List DecidedRequest) (quiet : ℕ) → transport.is_open session ≡ true → IsRegularIn s session p → IsRegularIn s session (turns.turns s quiet p).after → IsSoundPlant p → Allowed es → P session p es → P session (turns.turns s quiet p).after es
    open_turns Before p es quiet o r r' ok a h = absurd cc
    open_turns (During master id) p es quiet o r r' ok a h = l.turns master id quiet p es r r' ok a h
    open_turns (After master id) p es quiet o r r' ok a h = absurd cc

    at_turn : (x : SlaveState Plant) (es : List DecidedRequest) → IsRegularIn s x.session x.inner → (let y = transport.after_turn (machine s) x in IsRegularIn s y.session y.inner) → IsSoundPlant x.inner → Next x es (transport.after_turn (machine s) x) es
    at_turn x es r r' ok a f = by (transport.is_open x.session) refl r'
      where
        by : (b : Bool) → transport.is_open x.session ≡ b → (let y = (if b then record x { quiet = transport.quieter x.quiet; inner = (turns.turns s (transport.quieter x.quiet) x.inner).after } else x) in IsRegularIn s y.session y.inner)
            → let y = (if b then record x { quiet = transport.quieter x.quiet; inner = (turns.turns s (transport.quieter x.quiet) x.inner).after } else x) in P y.session y.inner es
        by true o g = open_turns x.session x.inner es (transport.quieter x.quiet) o r g ok a (f a)
        by false o g = f a

    -- ---- over a log
    module _ (w : Parties) (s' : ℕ) (agree : (bytes : List ℕ) → Agree (role_heard w bytes) (spec.heard bytes)) where
      abbrev Has : Both Plant → Type 0
      Has x = Allowed x.desk.served → P x.slave.session x.slave.inner x.desk.served

      heard_has : (from : Address) (k : Role) (h : spec.Heard) (x : Both Plant) → Agree k h → IsRegularIn s x.slave.session x.slave.inner → Has x → Next x.slave x.desk.served (transport.after_heard (machine s) x.slave from h) (served_after (machine s) x.slave x.desk.served from k h)
      heard_has from (Request receiver n) (spec.Asks r) x a reg f = at_request x.slave x.desk.served from n r a.2 a.3 reg (transport.fate (machine s) x.slave from r) refl
      heard_has from (Request receiver n) (spec.Brings number i payload) x a reg f = absurd a
      heard_has from (Request receiver n) spec.Nothing x a reg f = absurd a
      heard_has from (Answer sender n) (spec.Asks r) x a reg f = absurd a
      heard_has from (Answer sender n) (spec.Brings number i payload) x a reg f = absurd a
      heard_has from (Answer sender n) spec.Nothing x a reg f = λ b g. g b
      heard_has from (Value id n) (spec.Asks r) x a reg f = absurd a
      heard_has from (Value id n) (spec.Brings number i payload) x a reg f = at_data x.slave x.desk.served from number i payload
      heard_has from (Value id n) spec.Nothing x a reg f = absurd a
      heard_has from Else (spec.Asks r) x a reg f = absurd a
      heard_has from Else (spec.Brings number i payload) x a reg f = absurd a
      heard_has from Else spec.Nothing x a reg f = λ b g. g b

      told_has : (mv : Move) (x : Both Plant) → Has x → Has (sent_next (machine s) w s' mv x)
      told_has (Asks k) x f = f
      told_has (Comes from receiver k) x f = f
      told_has (Tells to bytes) x f = f
      told_has (Hears k) x f = f
      told_has (Brings from id k) x f = f
      told_has Turns x f = f
      told_has Rests x f = f
      told_has Other x f = f

      next_has : (e : LogEntry) (x : Both Plant) → IsRegularIn s x.slave.session x.slave.inner → (let y = next (machine s) w s' e x in IsRegularIn s y.slave.session y.slave.inner) → IsSoundPlant x.slave.inner → Has x → Has (next (machine s) w s' e x)
      next_has (Sent from to bytes) x r r' ok f = told_has (move w s' (Sent from to bytes)) x f
      next_has (Got at' from bytes) x r r' ok f = by (same at' (w.slave s'))
        where
          by : (b : Bool) → Has (if b then got (machine s) w s' from bytes x else x)
          by true = λ a. heard_has from (role_heard w bytes) (spec.heard bytes) x (agree bytes) r f a f
          by false = f
      next_has (Idle at') x r r' ok f = f
      next_has (Turn at') x r r' ok f = by (same at' (w.slave s')) r'
        where
          by : (b : Bool) → (let y = (if b then ticked (machine s) w s' x else x) in IsRegularIn s y.slave.session y.slave.inner) → Has (if b then ticked (machine s) w s' x else x)
          by true g = λ a. at_turn x.slave x.desk.served r g ok a f
          by false g = f

      regular : (log : List LogEntry) → let x = (at (machine s) w s' log).slave in IsRegularIn s x.session x.inner
      regular log = let Q : SlaveState Plant → Type 0 = λ x. IsRegularIn s x.session x.inner in subst Q (sym (slave_is (machine s) w s' log)) (regular_after s (events_of_slave w s' log))

      sound : (log : List LogEntry) → IsSoundPlant (at (machine s) w s' log).slave.inner
      sound log = let Q : SlaveState Plant → Type 0 = λ x. IsSoundPlant x.inner in subst Q (sym (slave_is (machine s) w s' log)) (sound_after s (events_of_slave w s' log))

      pub along : (log : List LogEntry) → let x = at (machine s) w s' log in Allowed x.desk.served → P x.slave.session x.slave.inner x.desk.served
      along [] a = l.start
      along (e ∷ log) a = next_has e (at (machine s) w s' log) (regular log) (regular (e ∷ log)) (sound log) (along log) a
