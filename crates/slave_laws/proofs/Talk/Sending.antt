-- A slave stays in range whatever comes to it, so what it sends reads back.
use Rattle.std.proofs.Common.{◌≡◌, ℕ, ◌<◌, Bool, true, false, if◌then◌else◌, List, [], ◌∷◌, refl, sym, subst, arith}
use Rattle.dcp_types.specs.declared.addresses.Address.{Address}
use Rattle.dcp_ends.specs.Events.{Event, Gram, Tick}
use Rattle.dcp_ends.specs.declared.entries.LogEntry.{LogEntry}
use Rattle.log_spec.specs.Messages.{role_read}
use Rattle.log_spec.specs.Log.{Parties, role_heard}
use Rattle.slave_spec.specs.declared.words.SlaveSetup.{SlaveSetup}
use Rattle.slave_spec.specs.declared.words.SlaveRequest.{SlaveRequest}
use Rattle.slave_spec.specs.declared.words.Session.{Session}
use Rattle.slave_spec.specs.declared.words.Session.TheVariants.{Before, During, After}
use Rattle.slave_spec.specs.declared.words.Fate.{Fate}
use Rattle.slave_spec.specs.declared.words.Fate.TheVariants.{Dropped, Refused, Repeated, Taken}
use Rattle.slave_spec.specs.Heard.{Heard, Asks, Brings, Nothing, heard}
use Rattle.slave_spec.specs.Transport.{SlaveState, Exchange, SlaveAnswer, Nack, fate, session_after, is_last, is_open, quieter, expected, after_request, after_heard, after, after_all, fresh}
use Rattle.slave_spec.specs.Plants.{Plant}
use Rattle.slave_spec.specs.Requests.{answers}
use Rattle.slave_spec.specs.Turns.{turns, brings}
use Rattle.slave_spec.specs.Slaves.{machine}
use Rattle.slave_laws.specs.Talk.Desks.{at, events_of_slave, Agree, AreAnswersKept, IsReadBack, ReadsAnswersBack}
use Rattle.slave_laws.proofs.Talk.Meets.{converses, slave_is}
use Rattle.slave_laws.proofs.Talk.Benches.{performs}
use Rattle.slave_laws.proofs.Talk.Agreeing.{readings_agree}
use Rattle.slave_laws.specs.Talk.Ranges.{RequestFits, AskedFits, PlantFits, SessionHasId, ServedFits, SlaveFits}
use Rattle.slave_laws.specs.Talk.Sends.{ReadsMessages, StaysInRange, SendsReadBack, AreLawful}
use Rattle.slave_laws.proofs.Talk.Spelt.{answer_is}
use Rattle.slave_laws.proofs.Talk.Hearing.{asks_fit}
use Rattle.slave_laws.proofs.Talk.Standing.{answers_else, answers_answer, answers_stay, turns_else, turns_data, turns_stay, brings_stay}

-- ---- one event
module _ (s : SlaveSetup) where
  begun : PlantFits (machine s).start
  begun = record {
    log = record { first = record { lines = tt; few = omega arith }; second = record { lines = tt; few = omega arith }; third = record { lines = tt; few = omega arith } };
    settings = tt;
    payloads = λ id. omega arith;
  }

  session_fits : (session : Session) (from : Address) (r : SlaveRequest) (a : SlaveAnswer) → r.receiver < 256 → SessionHasId session → SessionHasId (session_after session from r a)
  session_fits Before from r a lt h = lt
  session_fits (During master id) from r a lt h = by (is_last r.asked a)
    where
      by : (b : Bool) → SessionHasId (if b then After master id else During master id)
      by true = h
      by false = h
  session_fits (After master id) from r a lt h = h

  at_request : (x : SlaveState Plant) (from : Address) (r : SlaveRequest) (f : Fate) → RequestFits r → AskedFits r.asked → SlaveFits x → SlaveFits (after_request (machine s) x from r f)
  at_request x from r Dropped a b h = h
  at_request x from r (Refused code) a b h = h
  at_request x from r Repeated a b h = h
  at_request x from r Taken a b h = record {
    inner = answers_stay s r.asked x.inner b h.inner;
    session = session_fits x.session from r (answers s r.asked x.inner).answer a.receiver h.session;
    served = ((a, answers_answer s r.asked x.inner h.inner), h.served);
  }

  at_data : (x : SlaveState Plant) (b : Bool) (y : Plant) → PlantFits y → SlaveFits x → SlaveFits (if b then record x { inner = y } else x)
  at_data x true y k h = record { inner = k; session = h.session; served = h.served }
  at_data x false y k h = h

  at_turn : (x : SlaveState Plant) (b : Bool) (quiet : ℕ) (y : Plant) → PlantFits y → SlaveFits x → SlaveFits (if b then record x { quiet = quiet; inner = y } else x)
  at_turn x true quiet y k h = record { inner = k; session = h.session; served = h.served }
  at_turn x false quiet y k h = h

  at_heard : (x : SlaveState Plant) (from : Address) (bytes : List ℕ) (k : Heard) → heard bytes ≡ k → SlaveFits x → SlaveFits (after_heard (machine s) x from k)
  at_heard x from bytes (Asks r) e h = let f = asks_fit bytes r e in at_request x from r (fate (machine s) x from r) f.0 f.1 h
  at_heard x from bytes (Brings number id payload) e h = at_data x (is_open x.session) (brings s from number id payload x.inner) (brings_stay s from number id payload x.inner h.inner) h
  at_heard x from bytes Nothing e h = h

  at_event : (x : SlaveState Plant) (e : Event) → SlaveFits x → SlaveFits (after (machine s) x e)
  at_event x (Gram from bytes) h = at_heard x from bytes (heard bytes) refl h
  at_event x Tick h = at_turn x (is_open x.session) (quieter x.quiet) (turns s (quieter x.quiet) x.inner).after (turns_stay s (quieter x.quiet) x.inner h.inner) h

  at_all : (x : SlaveState Plant) (es : List Event) → SlaveFits x → SlaveFits (after_all (machine s) x es)
  at_all x [] h = h
  at_all x (e ∷ es) h = at_all (after (machine s) x e) es (at_event x e h)

pub in_range : StaysInRange
in_range s es = at_all s (fresh (machine s)) es (record { inner = begun s; session = tt; served = tt })

-- ---- what it sends
module _ (s : SlaveSetup) (w : Parties) (rd : ReadsMessages w) where
  kept : (to : Address) (served : List Exchange) → ServedFits served → AreAnswersKept w to served
  kept to [] h = tt
  kept to (e ∷ served) h = answer_is w rd to e.request (expected (e ∷ served)) e.answer (h.0).0 (omega arith) (h.0).1

  session_id : (session : Session) (master : Address) (id : ℕ) → session ≡ During master id → SessionHasId session → id < 256
  session_id session master id e h = let P : Session → Type 0 = SessionHasId in subst P e h

  read_back : (x : SlaveState Plant) → SlaveFits x → IsReadBack (machine s) w x
  read_back x h = record {
    answer = λ bytes r e to.
        let f = asks_fit bytes r e in
        let a = (answers s r.asked x.inner).answer in
        (answer_is w rd to r (expected (record { request = r; answer = a } ∷ x.served)) a f.0 (omega arith) (answers_answer s r.asked x.inner h.inner), answers_else w rd to r.receiver (f.0).receiver s r.asked x.inner);
    refusal = λ bytes r e to code. answer_is w rd to r (expected x.served) (Nack code) (asks_fit bytes r e).0 (omega arith) tt;
    again = λ to. kept to x.served h.served;
    turn = λ master id e. (turns_data w rd s (quieter x.quiet) x.inner h.inner, turns_else w rd master id (session_id x.session master id e h.session) s (quieter x.quiet) x.inner);
  }

  agree : (bytes : List ℕ) → Agree (role_heard w bytes) (heard bytes)
  agree bytes = let P : _ → Type 0 = λ o. Agree (role_read o) (heard bytes) in subst P (sym (rd bytes)) (readings_agree bytes)

  fits_at : (n : ℕ) (log : List LogEntry) → SlaveFits (at (machine s) w n log).slave
  fits_at n log = let P : SlaveState Plant → Type 0 = SlaveFits in subst P (sym (slave_is (machine s) w n log)) (in_range s (events_of_slave w n log))

  back : (n : ℕ) → ReadsAnswersBack (machine s) w n
  back n = record { agree = agree; sends = λ log. read_back (at (machine s) w n log).slave (fits_at n log) }

pub sends_back : SendsReadBack
sends_back setup w n rd = back setup w rd n

pub are_lawful : AreLawful
are_lawful w setups steps runs may opened apart rd = record {
  apart = apart;
  each = λ n is. converses (machine (setups n)) w n (sends_back (setups n) w n rd);
  works = λ n is. performs (setups n) w n (sends_back (setups n) w n rd);
}
