use Rattle.std.proofs.Common.{map, refl, sym, ap, subst, ◌∙◌}
use Rattle.master_spec.specs.declared.setups.Setup.{Setup}
use Rattle.master_spec.specs.Course.{Course, with_next}
use Rattle.master_core.specs.Talking.{now_in, slave_talked_to}
use Rattle.master_core.specs.Standing.{Meets, core_setup}
use Rattle.master_core.proofs.Onward.{stand_after, behind_next, goes_on, same_setup, finishes, reported, meets_as}
use Rattle.master_core.proofs.records.MasterCore.go_on.Goals as goal

pub returns-in-Some-clause-meets : goal.returns-in-Some-clause-meets
returns-in-Some-clause-meets c = λ x s h.
    let m = c.args.self.now in
    let next = c.in-Some.schedule in
    let behind = behind_next x.phase m.schedule next h s.stands.stage c.in-Some.ensures in
    let same = same_setup m.address m.limits m.schedule next (map slave_talked_to m.talks.items) c.in-Some.ensures in
    let meets = c.begin_phase.ensures.meets (now_in x.phase m.schedule) x (stand_after (now_in x.phase m.schedule) m.limits m.phase m.talks.items m.schedule next m.rows m.report x s.stands.parts c.in-Some.ensures) behind s.sent in
    subst (λ (y : Course). Meets c.begin_phase.new.self y) (ap (λ (z : Setup). with_next z x) same ∙ goes_on (core_setup m) x next (sym c.in-Some.ensures.steps_are) (sym c.in-Some.ensures.runs_are) behind) meets

pub returns-in-None-clause-meets : goal.returns-in-None-clause-meets
returns-in-None-clause-meets c = λ x s h.
    let m = c.args.self.now in
    meets_as _ _ _ (finishes (core_setup m) x m.schedule refl refl h s.stands.stage c.in-None.ensures)
    (record { stands = reported m.limits m.phase m.talks.items m.schedule m.rows m.report _ x s.stands; sent = s.sent })
