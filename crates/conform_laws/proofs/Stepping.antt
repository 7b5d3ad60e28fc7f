-- At each event a slave of the definitions sends what one may send whose model is not known.
use Rattle.std.proofs.Common.{◌≡◌, ℕ, ◌==◌, ◌&&◌, Bool, true, false, List, [], ◌∷◌, ◌++◌, refl, ap, sym, subst, ◌∙◌, arith, if◌then◌else◌, MatchBool}
use Rattle.std.proofs.lemmas.List.{append-nil}
use Rattle.std.proofs.lemmas.Bool.{and_parts}
use Rattle.std.proofs.lemmas.Bool.Decides.{nat_tests}
use Rattle.dcp_types.specs.declared.addresses.Address.{Address}
use Rattle.dcp_types.specs.declared.fault_codes.FaultCode.{FaultCode}
use Rattle.dcp_ends.specs.Events.{Event, Gram, Tick, Send}
use Rattle.seq_window.specs.declared.places.Place.{Place}
use Rattle.seq_window.specs.declared.places.Place.TheVariants.{Next, Repeat, Old, Ahead}
use Rattle.seq_window.specs.Window.{place}
use Rattle.slave_spec.specs.declared.words.SlaveSetup.{SlaveSetup}
use Rattle.slave_spec.specs.declared.words.SlaveRequest.{SlaveRequest}
use Rattle.slave_spec.specs.declared.words.Session.{Session}
use Rattle.slave_spec.specs.declared.words.Session.TheVariants.{Before, During, After}
use Rattle.slave_spec.specs.declared.words.Fate.{Fate}
use Rattle.slave_spec.specs.declared.words.Fate.TheVariants.{Dropped, Refused, Repeated, Taken}
use Rattle.slave_spec.specs.Heard.{Heard, Asks, Brings, Nothing, heard}
use Rattle.slave_spec.specs.Transport.{SlaveState, SlaveAnswer, Ack, Answered, Exchange, Notice, Turned, same_address, expected, fate, fate_in, placed, placed_late, is_last, session_after, after_request, after_heard, after, is_open, quieter, again, notice_sends, request_sends, heard_sends, sends}
use Rattle.slave_spec.specs.Plants.{Plant}
use Rattle.slave_spec.specs.Requests.{answers}
use Rattle.slave_spec.specs.Turns.{turns, brings, is_listening}
use Rattle.slave_spec.specs.Slaves.{machine}
use Rattle.slave_spec.specs.Payloads.{WiringState, brought}
use Rattle.slave_spec.specs.Foreign.{ForeignPlant, ForeignState, Choice, Stays, foreign, foreign_brings, IsFateChoice, IsHeardChoice, AreNotices, AreNoticesIn, AreNoticesFrom, MaySendAt}
use Rattle.slave_spec.proofs.Walking.{address_is}
use Rattle.conform_laws.proofs.Shelves.{AreNotes}
use Rattle.conform_laws.proofs.Faces.{face, faced, Behind}
use Rattle.conform_laws.proofs.Answering.{IsAnswered, is_answered}
use Rattle.conform_laws.proofs.Turning.{IsTurned, is_turned}

-- an event leads to a face again
pub record IsStep (s : SlaveSetup) (x : SlaveState Plant) (faults : List FaultCode) (logs : Bool) (event : Event) : Type 0 where
  pub codes : List FaultCode
  pub heeds : Bool
  pub may : MaySendAt s.desc (faced x faults logs) event (sends (machine s) x event) (faced (after (machine s) x event) codes heeds)
  pub behind : Behind s.desc (after (machine s) x event).inner codes heeds

-- the same of what was heard, and of what happens to a request
pub record IsHeardStep (s : SlaveSetup) (x : SlaveState Plant) (faults : List FaultCode) (logs : Bool) (from : Address) (h : Heard) : Type 0 where
  pub codes : List FaultCode
  pub heeds : Bool
  pub choice : Choice
  pub free : IsHeardChoice s.desc (faced x faults logs) from h choice
  pub notices : List Send
  pub told : AreNotices (faced (after_heard (machine s) x from h) codes heeds) notices
  pub sent : heard_sends (machine s) x from h ≡ heard_sends (foreign s.desc choice) (faced x faults logs) from h ++ notices
  pub next : faced (after_heard (machine s) x from h) codes heeds ≡ after_heard (foreign s.desc choice) (faced x faults logs) from h
  pub behind : Behind s.desc (after_heard (machine s) x from h).inner codes heeds

pub record IsFateStep (s : SlaveSetup) (x : SlaveState Plant) (faults : List FaultCode) (logs : Bool) (from : Address) (r : SlaveRequest) (f : Fate) : Type 0 where
  pub codes : List FaultCode
  pub heeds : Bool
  pub choice : Choice
  pub free : IsFateChoice s.desc (face x.inner faults logs) r.asked f choice
  pub notices : List Send
  pub told : AreNotices (faced (after_request (machine s) x from r f) codes heeds) notices
  pub sent : request_sends (machine s) x from r f ≡ request_sends (foreign s.desc choice) (faced x faults logs) from r f ++ notices
  pub next : faced (after_request (machine s) x from r f) codes heeds ≡ after_request (foreign s.desc choice) (faced x faults logs) from r f
  pub behind : Behind s.desc (after_request (machine s) x from r f).inner codes heeds

-- where nothing is free
abbrev any_choice : Choice
any_choice = record { answer = Ack; act = Stays; parcels = [] }

abbrev no_sends : List Send
no_sends = []

-- nothing needs to be told
none_told : (y : ForeignState) → AreNotices y []
none_told y = by y.inner.logs y.session
  where
    by : (b : Bool) (session : Session) → MatchBool b (AreNoticesIn session []) (no_sends ≡ [])
    by true Before = refl
    by true (During master id) = tt
    by true (After master id) = tt
    by false session = refl

-- what happens to a request hangs on the transport alone
fate_same : (s : SlaveSetup) (c : Choice) (session : Session) (served : List Exchange) (from : Address) (r : SlaveRequest)
    → fate_in (machine s) session served from r ≡ fate_in (foreign s.desc c) session served from r
fate_same s c Before served from r = refl
fate_same s c (During master id) served from r = refl
fate_same s c (After master id) served from r = refl

-- notices that go to this end from this id are notices of the session
abbrev GoesTo : Session → Address → (id : ℕ) → Type 0
GoesTo Before to id = ⊥
GoesTo (During master own) to id = (to ≡ master) × (id ≡ own)
GoesTo (After master own) to id = (to ≡ master) × (id ≡ own)

notes_in : (session : Session) (to : Address) (id : ℕ) (notices : List Send) → GoesTo session to id → AreNoticesFrom to id notices → AreNoticesIn session notices
notes_in Before to id notices g h = absurd g
notes_in (During master own) to id notices (e, f) h = subst (λ (n : ℕ). AreNoticesFrom master n notices) f (subst (λ (a : Address). AreNoticesFrom a id notices) e h)
notes_in (After master own) to id notices (e, f) h = subst (λ (n : ℕ). AreNoticesFrom master n notices) f (subst (λ (a : Address). AreNoticesFrom a id notices) e h)

notes_told : (logs : Bool) (session : Session) (to : Address) (id : ℕ) (ns : List Notice) → GoesTo session to id → AreNotes logs ns
    → MatchBool logs (AreNoticesIn session (notice_sends to id ns)) (notice_sends to id ns ≡ [])
notes_told true session to id ns g h = notes_in session to id (notice_sends to id ns) g (h.from to id)
notes_told false session to id ns g h = ap (λ (l : List Notice). notice_sends to id l) (h.none refl)

-- a request that is taken during the session comes from its master, to its id
taken_in : (from master : Address) (receiver id : ℕ) (p : Place) → (if same_address from master && (receiver == id) then placed p else Dropped) ≡ Taken → (from ≡ master) × (receiver ≡ id)
taken_in from master receiver id p e = by (same_address from master && (receiver == id)) refl e
  where
    by : (b : Bool) → (same_address from master && (receiver == id)) ≡ b → (if b then placed p else Dropped) ≡ Taken → (from ≡ master) × (receiver ≡ id)
    by true o g =
        let parts = and_parts (same_address from master) (receiver == id) o in
        let same : receiver ≡ id = grind (arith, nat_tests, parts.1) in
        (address_is from master parts.0, same)
    by false o g = absurd cc

-- and none is taken after it
never_taken : (b : Bool) (p : Place) → (if b then placed_late p else Dropped) ≡ Taken → ⊥
never_taken true Next e = absurd cc
never_taken true Repeat e = absurd cc
never_taken true Old e = absurd cc
never_taken true Ahead e = absurd cc
never_taken false p e = absurd cc

goes_there : (session : Session) (served : List Exchange) (s : SlaveSetup) (from : Address) (r : SlaveRequest) (a : SlaveAnswer) → fate_in (machine s) session served from r ≡ Taken
    → GoesTo (session_after session from r a) from r.receiver
goes_there Before served s from r a e = (refl, refl)
goes_there (During master id) served s from r a e = by (is_last r.asked a) (taken_in from master r.receiver id (place r.number (expected served)) e)
  where
    by : (b : Bool) → (from ≡ master) × (r.receiver ≡ id) → GoesTo (if b then After master id else During master id) from r.receiver
    by true h = h
    by false h = h
goes_there (After master id) served s from r a e = absurd (never_taken (same_address from master && (r.receiver == id)) (place r.number (expected served)) e)

module _ (s : SlaveSetup) (x : SlaveState Plant) (faults : List FaultCode) (logs : Bool) (h : Behind s.desc x.inner faults logs) where
  abbrev seen : ForeignState
  seen = faced x faults logs

  -- ---- requests

  taken_step : (from : Address) (r : SlaveRequest) → fate (machine s) x from r ≡ Taken → IsFateStep s x faults logs from r Taken
  taken_step from r e =
      let a : Answered Plant = answers s r.asked x.inner in
      let k : IsAnswered s x.inner faults logs r.asked a = is_answered s x.inner faults logs r.asked h in
      record {
        codes = k.codes;
        heeds = k.heeds;
        choice = record { answer = a.answer; act = Stays; parcels = [] };
        free = k.free;
        notices = notice_sends from r.receiver a.notices;
        told = notes_told k.heeds (session_after x.session from r a.answer) from r.receiver a.notices (goes_there x.session x.served s from r a.answer e) k.notes;
        sent = refl;
        next = ap (λ (p : ForeignPlant). let y : ForeignState = record { session = session_after x.session from r a.answer; served = record { request = r; answer = a.answer } ∷ x.served; quiet = 0; inner = p } in y) (sym k.after);
        behind = k.behind;
      }

  fate_step : (from : Address) (r : SlaveRequest) (f : Fate) → fate (machine s) x from r ≡ f → IsFateStep s x faults logs from r f
  fate_step from r Dropped e = record { codes = faults; heeds = logs; choice = any_choice; free = tt; notices = []; told = none_told seen; sent = refl; next = refl; behind = h }
  fate_step from r (Refused code) e = record { codes = faults; heeds = logs; choice = any_choice; free = tt; notices = []; told = none_told seen; sent = refl; next = refl; behind = h }
  fate_step from r Repeated e = record {
    codes = faults;
    heeds = logs;
    choice = any_choice;
    free = tt;
    notices = [];
    told = none_told seen;
    sent = sym (append-nil (again from x.served));
    next = refl;
    behind = h;
  }
  fate_step from r Taken e = taken_step from r e

  -- ---- what is heard

  asked_step : (from : Address) (r : SlaveRequest) → IsHeardStep s x faults logs from (Asks r)
  asked_step from r =
      let f : Fate = fate (machine s) x from r in
      let k : IsFateStep s x faults logs from r f = fate_step from r f refl in
      let e : f ≡ fate (foreign s.desc k.choice) seen from r = fate_same s k.choice x.session x.served from r in
      record {
        codes = k.codes;
        heeds = k.heeds;
        choice = k.choice;
        free = subst (λ (g : Fate). IsFateChoice s.desc (face x.inner faults logs) r.asked g k.choice) e k.free;
        notices = k.notices;
        told = k.told;
        sent = k.sent ∙ ap (λ (g : Fate). request_sends (foreign s.desc k.choice) seen from r g ++ k.notices) e;
        next = k.next ∙ ap (λ (g : Fate). after_request (foreign s.desc k.choice) seen from r g) e;
        behind = k.behind;
      }

  -- a data message changes what is kept of it alone
  brought_face : (from : Address) (number id : ℕ) (payload : List ℕ) → face (brings s from number id payload x.inner) faults logs ≡ foreign_brings s.desc from number id payload (face x.inner faults logs)
  brought_face from number id payload = by (is_listening x.inner.state)
    where
      now : WiringState
      now = brought s.desc x.inner.wires from number id payload x.inner.steps

      by : (b : Bool) → face (if b then record x.inner { wires = now } else x.inner) faults logs ≡ (if b then record (face x.inner faults logs) { wires = now } else face x.inner faults logs)
      by true = refl
      by false = refl

  brought_behind : (from : Address) (number id : ℕ) (payload : List ℕ) → Behind s.desc (brings s from number id payload x.inner) faults logs
  brought_behind from number id payload = by (is_listening x.inner.state)
    where
      by : (b : Bool) → Behind s.desc (if b then record x.inner { wires = brought s.desc x.inner.wires from number id payload x.inner.steps } else x.inner) faults logs
      by true = record { fault = h.fault; log = h.log; parameters = h.parameters }
      by false = h

  brought_step : (from : Address) (number id : ℕ) (payload : List ℕ) → IsHeardStep s x faults logs from (Brings number id payload)
  brought_step from number id payload = by (is_open x.session) refl
    where
      p : Plant
      p = brings s from number id payload x.inner

      next : (b : Bool) → faced (if b then record x { inner = p } else x) faults logs ≡ (if b then record seen { inner = foreign_brings s.desc from number id payload seen.inner } else seen)
      next true = ap (λ (q : ForeignPlant). let y : ForeignState = record seen { inner = q } in y) (brought_face from number id payload)
      next false = refl

      behind : (b : Bool) → Behind s.desc (if b then record x { inner = p } else x).inner faults logs
      behind true = brought_behind from number id payload
      behind false = h

      by : (b : Bool) → is_open x.session ≡ b → IsHeardStep s x faults logs from (Brings number id payload)
      by b e = record {
        codes = faults;
        heeds = logs;
        choice = any_choice;
        free = tt;
        notices = [];
        told = none_told (faced (after_heard (machine s) x from (Brings number id payload)) faults logs);
        sent = refl;
        next = next (is_open x.session);
        behind = behind (is_open x.session);
      }

  heard_step : (from : Address) (k : Heard) → IsHeardStep s x faults logs from k
  heard_step from (Asks r) = asked_step from r
  heard_step from (Brings number id payload) = brought_step from number id payload
  heard_step from Nothing = record { codes = faults; heeds = logs; choice = any_choice; free = tt; notices = []; told = none_told seen; sent = refl; next = refl; behind = h }

  gram_step : (from : Address) (bytes : List ℕ) → IsStep s x faults logs (Gram from bytes)
  gram_step from bytes =
      let k : IsHeardStep s x faults logs from (heard bytes) = heard_step from (heard bytes) in
      record {
        codes = k.codes;
        heeds = k.heeds;
        may = record { choice = k.choice; free = k.free; notices = k.notices; told = k.told; sends = k.sent; after = k.next };
        behind = k.behind;
      }

-- ---- a turn

module _ (s : SlaveSetup) (served : List Exchange) (quiet : ℕ) (p : Plant) (faults : List FaultCode) (logs : Bool) (h : Behind s.desc p faults logs) where
  abbrev standing : Session → SlaveState Plant
  standing session = record { session = session; served = served; quiet = quiet; inner = p }

  tick_step : (session : Session) → IsStep s (standing session) faults logs Tick
  tick_step Before = record {
    codes = faults;
    heeds = logs;
    may = record { choice = any_choice; free = tt; notices = []; told = none_told (faced (standing Before) faults logs); sends = refl; after = refl };
    behind = h;
  }
  tick_step (After master id) = record {
    codes = faults;
    heeds = logs;
    may = record { choice = any_choice; free = tt; notices = []; told = none_told (faced (standing (After master id)) faults logs); sends = refl; after = refl };
    behind = h;
  }
  tick_step (During master id) =
      let t : Turned Plant = turns s (quieter quiet) p in
      let k : IsTurned s p faults logs (quieter quiet) t = is_turned s p faults logs (quieter quiet) h in
      record {
        codes = k.codes;
        heeds = logs;
        may = record {
          choice = k.choice;
          free = k.free;
          notices = notice_sends master id k.told;
          told = notes_told logs (During master id) master id k.told (refl, refl) k.notes;
          sends = k.sent master id;
          after = ap (λ (q : ForeignPlant). let y : ForeignState = record { session = During master id; served = served; quiet = quieter quiet; inner = q } in y) (sym k.after);
        };
        behind = k.behind;
      }

pub is_step : (s : SlaveSetup) (x : SlaveState Plant) (faults : List FaultCode) (logs : Bool) (event : Event) → Behind s.desc x.inner faults logs → IsStep s x faults logs event
is_step s x faults logs (Gram from bytes) h = gram_step s x faults logs h from bytes
is_step s x faults logs Tick h = tick_step s x.served x.quiet x.inner faults logs h x.session
