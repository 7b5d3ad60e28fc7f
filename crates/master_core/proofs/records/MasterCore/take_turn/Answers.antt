use Rattle.std.proofs.Common.{◌≡◌, Bool, sym, ap, subst, ◌∙◌, ℕ, arith, eq-eqb}
use Rattle.std.specs.Prelude.{if◌then◌else◌}
use Rattle.std.specs.List.{list_all}
use Rattle.master_spec.specs.Course.{with_next, still, course_turned, with_turns, is_settled}
use Rattle.master_core.specs.Talking.{now_in}
use Rattle.master_core.specs.Standing.{IsBehind, core_setup}
use Rattle.master_core.proofs.Onward.{meets_as, still_stands}
use Rattle.master_core.proofs.records.MasterCore.take_turn.Goals as goal

pub returns-then-self-eq0-clause-meets : goal.returns-then-self-eq0-clause-meets
returns-then-self-eq0-clause-meets c = λ x s.
    let m = c.args.self.now in
    let setup = core_setup m in
    let none : x.phase ≡ 0 = sym s.parts.phase_is ∙ c.if-self-eq0.true in
    let parts = (still_stands m.limits m.phase m.talks.items m.schedule m.rows m.report x s).parts in
    let behind = subst (λ (n : ℕ). IsBehind n m.schedule) (omega (arith, none)) s.stage in
    meets_as _ _ _ (sym (ap (λ (b : Bool). if b then with_next setup (still x) else course_turned setup (with_turns setup (list_all is_settled x.talks) x)) (eq-eqb x.phase 0 none)))
    (c.begin_phase.ensures.meets (now_in x.phase m.schedule) (still x) parts behind c.requires)
