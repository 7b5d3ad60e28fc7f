use Rattle.std.proofs.Common.{ℕ, refl, sym, subst}
use Rattle.master_spec.specs.Course.{with_next}
use Rattle.master_core.specs.Standing.{StandsWith, core_setup}
use Rattle.master_core.proofs.Onward.{begun_stands, begun_sent}
use Rattle.master_core.proofs.records.MasterCore.begin_phase.Goals as goal

pub returns-clause-meets : goal.returns-clause-meets
returns-clause-meets c = λ now x s b before.
    let m = c.args.self.now in
    record {
      stands = subst (λ (n : ℕ). StandsWith m.limits n c.begin_all.new.talks.items m.schedule m.rows m.report (with_next (core_setup m) x)) (sym c.saturating_add-self.ensures)
          (begun_stands now m.limits m.phase m.talks.items c.begin_all.new.talks.items m.schedule m.rows m.report (core_setup m) x s b refl refl c.begin_all.ensures.slaves (c.begin_all.ensures.stands m.limits now x.talks s.talks_stand) refl);
      sent = begun_sent m.limits m.schedule (core_setup m) x m.out c.begin_all.new.out b refl refl refl before (c.begin_all.ensures.sends m.limits now x.talks s.talks_stand);
    }
