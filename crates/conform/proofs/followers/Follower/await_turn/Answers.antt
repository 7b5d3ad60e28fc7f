use Rattle.std.proofs.Common.{◌≡◌, ℕ, true, false, List, [], ◌∷◌, refl, sym, ap, subst, ◌∙◌, rules}
use Rattle.dcp_types.specs.declared.states.State.{State}
use Rattle.dcp_types.specs.declared.states.State.TheVariants.{ErrorHandling}
use Rattle.dcp_types.specs.declared.fault_codes.FaultCode.{FaultCode}
use Rattle.dcp_types.specs.declared.fault_codes.FaultCode.TheVariants.{HeartbeatMissed}
use Rattle.dcp_ends.specs.Events.{Tick}
use Rattle.slave_states.specs.Transitions.{is_passing, next_on_turn}
use Rattle.slave_spec.specs.Transport.{quieter}
use Rattle.slave_spec.specs.Turns.{is_missed, is_sending_state}
use Rattle.slave_spec.specs.Foreign.{fallen, passed, turn_faults, due_ids, steps_passed}
use Rattle.conform.specs.declared.followers.Follower.{Follower}
use Rattle.conform.specs.declared.followers.Awaited.{Awaited}
use Rattle.conform.specs.Standing.{StandsBetween, Awaits, AwaitsModel, HasData, is_model, awaited_in, state_notice, turned_to}
use Rattle.conform.proofs.Turning.{missed_one, stays_over, passes_one, passes_data, sending_passes, steps_kept}
use Rattle.conform.proofs.Parcels.{from_first}
use Rattle.conform.proofs.Modelling.{at_message, at_model}
use Rattle.conform.proofs.followers.Follower.await_turn.Goals as goal

pub returns-then-is_missed : goal.returns-then-is_missed
returns-then-is_missed c = λ d x sound opened h.
    let r : c.is_missed.result ≡ true = search rules in
    let m : is_missed d x.inner.state (quieter x.quiet) ≡ true = sym (c.is_missed.ensures d (turned_to x x.inner) h) ∙ r in
    let f : HeartbeatMissed ∷ [] ≡ turn_faults d (quieter x.quiet) x.inner.state = rw m refl in
    let y : StandsBetween c.miss.new.self d (turned_to x (fallen d (quieter x.quiet) x.inner)) =
    subst (λ (l : List FaultCode). StandsBetween c.miss.new.self d (turned_to x (record x.inner { state = ErrorHandling; faults = l }))) f (c.miss.ensures.stands d (turned_to x x.inner) h) in
    at_message c.miss.new.self d x Tick [] _ _ c.miss.ensures.awaited y c.miss.ensures.out (missed_one d x c.args.master c.args.id opened m)

pub returns-then-is_model : goal.returns-then-is_model
returns-then-is_model c = λ d x sound opened h.
    let r0 : c.is_missed.result ≡ false = search rules in
    let spared : is_missed d x.inner.state (quieter x.quiet) ≡ false = sym (c.is_missed.ensures d (turned_to x x.inner) h) ∙ r0 in
    let r1 : c.is_model.result ≡ true = search rules in
    let k1 : is_model x.inner.state ≡ true = ap (λ (k : State). is_model k) (sym h.inner.state) ∙ sym c.is_model.ensures ∙ r1 in
    let new : Follower = c.await_model.new.self in
    let b : StandsBetween new d (turned_to x x.inner) =
    subst (λ (w : Follower). StandsBetween w d (turned_to x x.inner)) (sym c.await_model.ensures.same) (record { desc = h.desc; session = h.session; number = h.number; newest = h.newest; quiet = h.quiet; inner = h.inner }) in
    let f : Follower = record new { awaited = c.awaited_in-self.result } in
    let e : c.awaited_in-self.result ≡ awaited_in x.inner.state = c.awaited_in-self.ensures ∙ ap (λ (k : State). awaited_in k) b.inner.state in
    let w : AwaitsModel f x.inner.state d x Tick = record {
      master = c.args.master;
      id = c.args.id;
      is = refl;
      open_with = opened;
      state_is = refl;
      spared = spared;
      stands = record { desc = b.desc; session = b.session; number = b.number; newest = b.newest; quiet = b.quiet; inner = b.inner };
      out_is = c.await_model.ensures.out ∙ ap (λ (k : State). state_notice c.args.master c.args.id (next_on_turn k 0) ∷ state_notice c.args.master c.args.id ErrorHandling ∷ []) h.inner.state;
    } in
    subst (λ (k : Awaited). Awaits f k d x Tick []) (sym e) (at_model f x.inner.state d x Tick k1 w)

pub returns-then-is_sending : goal.returns-then-is_sending
returns-then-is_sending c = λ d x sound opened h.
    let r0 : c.is_missed.result ≡ false = search rules in
    let spared : is_missed d x.inner.state (quieter x.quiet) ≡ false = sym (c.is_missed.ensures d (turned_to x x.inner) h) ∙ r0 in
    let r1 : c.is_model.result ≡ false = search rules in
    let k1 : is_model x.inner.state ≡ false = ap (λ (k : State). is_model k) (sym h.inner.state) ∙ sym c.is_model.ensures ∙ r1 in
    let r2 : c.is_sending.result ≡ true = search rules in
    let k2 : is_sending_state x.inner.state ≡ true = ap (λ (k : State). is_sending_state k) (sym h.inner.state) ∙ sym c.is_sending.ensures ∙ r2 in
    let p : is_passing x.inner.state ≡ true = sending_passes x.inner.state k2 in
    let data' : HasData d x Tick [] (due_ids x.inner.wires.changes (steps_passed x.inner.state x.inner.steps)) (state_notice c.args.master c.args.id (passed x.inner).state) (turned_to x (passed x.inner)) =
    subst (λ (n : ℕ). HasData d x Tick [] (due_ids x.inner.wires.changes n) (state_notice c.args.master c.args.id (passed x.inner).state) (turned_to x (passed x.inner))) (sym (steps_kept x.inner.state x.inner.steps k2)) (passes_data d x c.args.master c.args.id opened spared k1 p k2) in
    c.await_data.ensures d x (turned_to x (passed x.inner)) Tick [] _ sound (c.pass_on.ensures.stands d (turned_to x x.inner) h) (c.pass_on.ensures.out d (turned_to x x.inner) h)
    (from_first d x Tick [] _ (turned_to x (passed x.inner)) data')

pub returns-then-is_passing : goal.returns-then-is_passing
returns-then-is_passing c = λ d x sound opened h.
    let r0 : c.is_missed.result ≡ false = search rules in
    let spared : is_missed d x.inner.state (quieter x.quiet) ≡ false = sym (c.is_missed.ensures d (turned_to x x.inner) h) ∙ r0 in
    let r1 : c.is_model.result ≡ false = search rules in
    let k1 : is_model x.inner.state ≡ false = ap (λ (k : State). is_model k) (sym h.inner.state) ∙ sym c.is_model.ensures ∙ r1 in
    let r2 : c.is_sending.result ≡ false = search rules in
    let k2 : is_sending_state x.inner.state ≡ false = ap (λ (k : State). is_sending_state k) (sym h.inner.state) ∙ sym c.is_sending.ensures ∙ r2 in
    let r3 : c.is_passing.result ≡ true = search rules in
    let k3 : is_passing x.inner.state ≡ true = ap (λ (k : State). is_passing k) (sym h.inner.state) ∙ sym c.is_passing.ensures ∙ r3 in
    at_message c.pass_on-then-is_passing.new.self d x Tick [] _ (turned_to x (passed x.inner)) c.pass_on-then-is_passing.ensures.awaited (c.pass_on-then-is_passing.ensures.stands d (turned_to x x.inner) h)
    (c.pass_on-then-is_passing.ensures.out d (turned_to x x.inner) h) (passes_one d x c.args.master c.args.id opened spared k1 k3 k2)

pub returns : goal.returns
returns c = λ d x sound opened h.
    let r0 : c.is_missed.result ≡ false = search rules in
    let spared : is_missed d x.inner.state (quieter x.quiet) ≡ false = sym (c.is_missed.ensures d (turned_to x x.inner) h) ∙ r0 in
    let r1 : c.is_model.result ≡ false = search rules in
    let k1 : is_model x.inner.state ≡ false = ap (λ (k : State). is_model k) (sym h.inner.state) ∙ sym c.is_model.ensures ∙ r1 in
    let r2 : c.is_sending.result ≡ false = search rules in
    let k2 : is_sending_state x.inner.state ≡ false = ap (λ (k : State). is_sending_state k) (sym h.inner.state) ∙ sym c.is_sending.ensures ∙ r2 in
    let r3 : c.is_passing.result ≡ false = search rules in
    let k3 : is_passing x.inner.state ≡ false = ap (λ (k : State). is_passing k) (sym h.inner.state) ∙ sym c.is_passing.ensures ∙ r3 in
    (turned_to x x.inner, record { desc = h.desc; session = h.session; number = h.number; newest = h.newest; quiet = h.quiet; inner = h.inner }, stays_over d x c.args.master c.args.id opened spared k1 k3)
