use Rattle.std.proofs.Common.{◌≡◌, Bool, true, false, sym, ap, subst, ◌∙◌, List}
use Rattle.std.specs.List.{list_all}
use Rattle.master_spec.specs.declared.setups.Setup.{Setup}
use Rattle.master_spec.specs.Course.{Course, with_turns, is_settled, is_quiet, decided, decided_if, failed}
use Rattle.master_core.specs.declared.records.Talk.{Talk}
use Rattle.master_core.specs.Each.{Each}
use Rattle.master_core.specs.Talking.{TalkStandsAt, now_in}
use Rattle.master_core.specs.Standing.{Meets, core_setup, with_talks_turned}
use Rattle.master_core.proofs.Onward.{meets_as}
use Rattle.master_core.proofs.records.MasterCore.later_turn.Goals as goal

pub returns-then-are_quiet-clause-meets : goal.returns-then-are_quiet-clause-meets
returns-then-are_quiet-clause-meets c = λ x s h.
    let setup = core_setup c.args.self.now in
    let y : Course = with_turns setup (list_all is_settled x.talks) x in
    let m = c.count_row.new.self in
    let meets : Meets m y = c.count_row.ensures.meets (with_talks_turned setup x) (c.turn_talks.ensures.meets x s) in
    let each = subst (λ (ts : List Talk). Each (TalkStandsAt m.limits (now_in y.phase m.schedule)) ts y.talks) (sym c.deref.ensures.value) meets.stands.parts.talks_stand in
    let quiet : list_all is_quiet y.talks ≡ true = sym (c.are_quiet.ensures m.limits (now_in y.phase m.schedule) y.talks each) ∙ c.if-are_quiet.true in
    let same : core_setup m ≡ setup = c.count_row.ensures.setup ∙ c.turn_talks.ensures.setup in
    meets_as _ _ _ (ap (λ (z : Setup). decided z y (failed y.phase y.talks)) same ∙ ap (λ (b : Bool). decided_if setup b y) (sym quiet)) (c.decide.ensures.meets y meets h)

pub returns-else-are_quiet-clause-meets : goal.returns-else-are_quiet-clause-meets
returns-else-are_quiet-clause-meets c = λ x s h.
    let setup = core_setup c.args.self.now in
    let y : Course = with_turns setup (list_all is_settled x.talks) x in
    let m = c.count_row.new.self in
    let meets : Meets m y = c.count_row.ensures.meets (with_talks_turned setup x) (c.turn_talks.ensures.meets x s) in
    let each = subst (λ (ts : List Talk). Each (TalkStandsAt m.limits (now_in y.phase m.schedule)) ts y.talks) (sym c.deref.ensures.value) meets.stands.parts.talks_stand in
    let quiet : list_all is_quiet y.talks ≡ false = sym (c.are_quiet.ensures m.limits (now_in y.phase m.schedule) y.talks each) ∙ c.if-are_quiet.false in
    meets_as _ _ _ (ap (λ (b : Bool). decided_if setup b y) (sym quiet)) meets
