use Rattle.std.proofs.Common.{◌≡◌, ℕ, Option, Some, None, List, sym, ap, subst, ◌∙◌}
use Rattle.master_spec.specs.declared.reports.Report.{Report}
use Rattle.master_spec.specs.Course.{Course, decided, failed}
use Rattle.master_core.specs.declared.records.MasterCore.{MasterCore}
use Rattle.master_core.specs.declared.records.Talk.{Talk}
use Rattle.master_core.specs.Each.{Each}
use Rattle.master_core.specs.Talking.{TalkStandsAt, now_in}
use Rattle.master_core.specs.Standing.{Meets, core_setup}
use Rattle.master_core.proofs.Onward.{reported}
use Rattle.master_core.proofs.records.MasterCore.decide.Goals as goal

by_failed : (new : MasterCore) (m : MasterCore) (x : Course) (o : Option Report) → o ≡ failed m.phase x.talks → m.phase ≡ x.phase → Meets new (decided (core_setup m) x o) → Meets new (decided (core_setup m) x (failed x.phase x.talks))
by_failed new m x o e p h = subst (λ (o : Option Report). Meets new (decided (core_setup m) x o)) (e ∙ ap (λ (n : ℕ). failed n x.talks) p) h

pub returns-in-Some-clause-meets : goal.returns-in-Some-clause-meets
returns-in-Some-clause-meets c = λ x s h.
    let m = c.args.self.now in
    let now = now_in x.phase m.schedule in
    by_failed _ m x (Some c.in-Some.report) (c.in-Some.ensures m.limits now x.talks (subst (λ (ts : List Talk). Each (TalkStandsAt m.limits now) ts x.talks) (sym c.deref.ensures.value) s.stands.parts.talks_stand)) s.stands.parts.phase_is
    (record { stands = reported m.limits m.phase m.talks.items m.schedule m.rows m.report c.in-Some.report x s.stands; sent = s.sent })

pub returns-in-None-clause-meets : goal.returns-in-None-clause-meets
returns-in-None-clause-meets c = λ x s h.
    let m = c.args.self.now in
    let now = now_in x.phase m.schedule in
    by_failed _ m x None (c.in-None.ensures m.limits now x.talks (subst (λ (ts : List Talk). Each (TalkStandsAt m.limits now) ts x.talks) (sym c.deref.ensures.value) s.stands.parts.talks_stand)) s.stands.parts.phase_is
    (c.go_on.ensures.meets x s h)
