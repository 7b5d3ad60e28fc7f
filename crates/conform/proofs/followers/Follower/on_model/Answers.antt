use Rattle.std.proofs.Common.{◌≡◌, true, false, List, refl, sym, subst, ap, ◌∙◌, rules}
use Rattle.dcp_types.specs.declared.states.State.{State}
use Rattle.dcp_types.specs.declared.states.State.TheVariants.{ErrorHandling}
use Rattle.dcp_types.specs.declared.fault_codes.FaultCode.{FaultCode}
use Rattle.dcp_ends.specs.Events.{Send}
use Rattle.slave_spec.specs.Transport.{quieter}
use Rattle.slave_spec.specs.Turns.{is_missed}
use Rattle.slave_spec.specs.Foreign.{passed, fallen, model_faults, turn_faults}
use Rattle.conform.specs.declared.followers.Follower.{Follower}
use Rattle.conform.specs.declared.followers.Awaited.TheVariants as awaited
use Rattle.conform.specs.Plants.{ForeignFor, faults_of}
use Rattle.conform.specs.Standing.{StandsBetween, turned_to}
use Rattle.conform.proofs.Modelling.{model_passed, model_fell, model_left, model_noticed, spared_at}
use Rattle.conform.proofs.followers.Follower.on_model.Goals as goal

pub returns-then-is_out : goal.returns-then-is_out
returns-then-is_out c = λ d x event state m may w.
    let s : Send = record { to = c.args.to; bytes = c.args.bytes.now } in
    let f : Follower = record c.args.self.now { plant = c.pass.new.self; awaited = awaited.Notices } in
    let h : StandsBetween f d (turned_to x (passed x.inner)) = record { desc = w.stands.desc; session = w.stands.session; number = w.stands.number; newest = w.stands.newest; quiet = w.stands.quiet; inner = c.pass.ensures d x.inner w.stands.inner } in
    model_passed c.args.self.now state d x event s m w f c.if-is_out.ensures.0 h refl

pub returns-then-is_out-2 : goal.returns-then-is_out-2
returns-then-is_out-2 c = λ d x event state m may w.
    let s : Send = record { to = c.args.to; bytes = c.args.bytes.now } in
    let f : Follower = record c.args.self.now { plant = c.fall.new.self; awaited = awaited.Notices } in
    let spared : is_missed d x.inner.state (quieter x.quiet) ≡ false = spared_at d (quieter x.quiet) _ state w.state_is w.spared in
    let given : turn_faults d (quieter x.quiet) x.inner.state ≡ model_faults x.inner.state = rw spared refl in
    let e : faults_of c.of_model-faults.result ≡ turn_faults d (quieter x.quiet) x.inner.state = c.of_model-faults.ensures ∙ ap (λ (k : State). model_faults k) w.stands.inner.state ∙ sym given in
    let i : ForeignFor c.fall.new.self d (fallen d (quieter x.quiet) x.inner) =
    subst (λ (l : List FaultCode). ForeignFor c.fall.new.self d (record x.inner { state = ErrorHandling; faults = l })) e (c.fall.ensures d x.inner w.stands.inner) in
    let h : StandsBetween f d (turned_to x (fallen d (quieter x.quiet) x.inner)) = record { desc = w.stands.desc; session = w.stands.session; number = w.stands.number; newest = w.stands.newest; quiet = w.stands.quiet; inner = i } in
    model_fell c.args.self.now state d x event s m w f c.if-is_out-2.ensures.0 h refl

pub returns-then-not-may_stay : goal.returns-then-not-may_stay
returns-then-not-may_stay c = λ d x event state m may w.
    let s : Send = record { to = c.args.to; bytes = c.args.bytes.now } in
    let never : c.args.may_stay ≡ false = search rules in
    model_left c.args.self.now state d x event s m w c.if-is_out.ensures c.if-is_out-2.ensures (sym may ∙ never)

pub returns : goal.returns
returns c = λ d x event state m may w.
    let s : Send = record { to = c.args.to; bytes = c.args.bytes.now } in
    let f : Follower = record c.args.self.now { awaited = awaited.Notices } in
    let always : c.args.may_stay ≡ true = search rules in
    let h : StandsBetween f d (turned_to x x.inner) = record { desc = w.stands.desc; session = w.stands.session; number = w.stands.number; newest = w.stands.newest; quiet = w.stands.quiet; inner = w.stands.inner } in
    model_noticed c.args.self.now state d x event s m w c.if-is_out.ensures c.if-is_out-2.ensures f c.is_notice.result (sym may ∙ always) h refl (c.is_notice.ensures d (turned_to x x.inner) h)
