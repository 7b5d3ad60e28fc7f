-- A slave whose session has ended is in the state without a session.
use Rattle.std.proofs.Common.{◌≡◌, ℕ, Bool, true, false, if◌then◌else◌, Option, Some, None, refl, ◌∙◌, arith}
use Rattle.dcp_types.specs.declared.addresses.Address.{Address}
use Rattle.dcp_types.specs.declared.states.State.{State}
use Rattle.dcp_types.specs.declared.states.State.TheVariants.{Alive}
use Rattle.dcp_types.specs.declared.error_codes.ErrorCode.{ErrorCode}
use Rattle.pdu_layout.specs.declared.messages.Stc.TheVariants as stc
use Rattle.slave_states.specs.Transitions.{transition_row, next_on}
use Rattle.slave_spec.specs.declared.words.SlaveSetup.{SlaveSetup}
use Rattle.slave_spec.specs.declared.words.SlaveRequest as req
use Rattle.slave_spec.specs.declared.words.Asked as ask
use Rattle.slave_spec.specs.declared.words.Asked.TheVariants.{Change, Setting, Question}
use Rattle.slave_spec.specs.declared.words.Session.{Session}
use Rattle.slave_spec.specs.declared.words.Session.TheVariants.{Before, During, After}
use Rattle.slave_spec.specs.Transport as transport
use Rattle.slave_spec.specs.Plants.{Plant}
use Rattle.slave_spec.specs.Requests.{refusal, accepted, answer, answered_plant, answers}
use Rattle.slave_spec.specs.Slaves.{machine, has_ended}
use Rattle.slave_laws.specs.Talk.Desks.{at}
use Rattle.slave_laws.proofs.Talk.Plants.{no_refusal, row_of_next, state_is}
use Rattle.slave_laws.proofs.Talk.Sending.{sends_back}
use Rattle.slave_laws.proofs.Model.Along.{Lasts, along}
use Rattle.slave_laws.specs.Data.Holding.{EndedIsAlive}

abbrev AliveIn : Session → Plant → Type 0
AliveIn Before p = Unit {0}
AliveIn (During master id) p = Unit {0}
AliveIn (After master id) p = p.state ≡ Alive

deregistered : (state t : State) (sent : Bool) → transition_row stc.Deregister state sent ≡ Some t → t ≡ Alive
deregistered state t sent h = grind arith

never : {A : Type 0} → false ≡ true → A
never e = absurd cc

module _ (s : SlaveSetup) where
  last_alive : (p : Plant) (asked : ask.Asked) (o : Option ErrorCode) → refusal s p asked ≡ o → transport.is_last asked (answered_plant s p asked o).answer ≡ true → (answered_plant s p asked o).after.state ≡ Alive
  unfolding accepted refusal answer
  last_alive p (Change named stc.Deregister) None r l =
      let o = no_refusal p stc.Deregister (next_on p.state stc.Deregister named p.outputs_sent) r in
      let q = row_of_next p.state o.0 stc.Deregister named p.outputs_sent o.1 in
      state_is p.state o.0 (next_on p.state stc.Deregister named p.outputs_sent) o.1 ∙ deregistered p.state o.0 p.outputs_sent q
  last_alive p (Change named stc.Deregister) (Some code) r l = never l
  last_alive p (Change named (stc.Register a b c d)) o r l = never l
  last_alive p (Change named stc.Prepare) o r l = never l
  last_alive p (Change named stc.Configure) o r l = never l
  last_alive p (Change named stc.Initialize) o r l = never l
  last_alive p (Change named (stc.Run x)) o r l = never l
  last_alive p (Change named (stc.DoStep n)) o r l = never l
  last_alive p (Change named stc.SendOutputs) o r l = never l
  last_alive p (Change named stc.Stop) o r l = never l
  last_alive p (Change named stc.Reset) o r l = never l
  last_alive p (Setting body) o r l = never l
  last_alive p (Question q) o r l = never l

  taken_alive : (master from : Address) (id : ℕ) (r : req.SlaveRequest) (p : Plant) → AliveIn (transport.session_after (During master id) from r (answers s r.asked p).answer) (answers s r.asked p).after
  taken_alive master from id r p = by (transport.is_last r.asked (answers s r.asked p).answer) refl
    where
      by : (b : Bool) → transport.is_last r.asked (answers s r.asked p).answer ≡ b → AliveIn (if b then After master id else During master id) (answers s r.asked p).after
      by true e = last_alive p r.asked (refusal s p r.asked) refl e
      by false e = tt

  alive_lasts : Lasts s (λ es. Unit {0}) (λ session p es. AliveIn session p)
  alive_lasts = record {
    less = λ d es a. tt;
    start = tt;
    first = λ from r k next' es h ev reg a e. tt;
    taken = λ master from id r k next' p es h ev reg a e. taken_alive master from id r p;
    brings = λ master from id number i payload p es a e. tt;
    turns = λ master id quiet p es r r' ok a e. tt;
  }

  ended : (session : Session) (p : Plant) → has_ended session ≡ true → AliveIn session p → p.state ≡ Alive
  ended Before p e h = never e
  ended (During master id) p e h = never e
  ended (After master id) p e h = h

pub ended_alive : EndedIsAlive
ended_alive x s w rd log e = ended x (at (machine x) w s log).slave.session (at (machine x) w s log).slave.inner e (along x (λ es. Unit {0}) (λ session p es. AliveIn session p) (alive_lasts x) w s (sends_back x w s rd).agree log tt)
