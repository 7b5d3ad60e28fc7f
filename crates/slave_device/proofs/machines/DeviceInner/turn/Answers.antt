use Rattle.std.proofs.Common.{subst}
use Rattle.slave_spec.specs.Turns.{act}
use Rattle.slave_device.specs.Devices.{Acts}
use Rattle.slave_device.proofs.Stepping.{step_after, step_sends}
use Rattle.slave_device.proofs.machines.DeviceInner.turn.Goals as goal

pub returns-in-Step-clause-after : goal.returns-in-Step-clause-after
returns-in-Step-clause-after g c = λ p h.
    step_after g.W.Wired.stands c.act.new.self c.advance.new.self c.args.self.now.works.setup p (act c.args.self.now.works.setup c.args.quiet p)
    (subst (λ a. Acts g.W.Wired.stands c.act.new.self p a (act c.args.self.now.works.setup c.args.quiet p)) c.in-Step.is (c.act.ensures.stands p h)) c.advance.ensures.after

pub returns-in-Step-clause-sends : goal.returns-in-Step-clause-sends
returns-in-Step-clause-sends g c = λ p h sound.
    step_sends g.W.Wired.stands c.act.new.self c.args.self.now.works.setup p (act c.args.self.now.works.setup c.args.quiet p) c.args.master c.args.id c.advance.new.out
    (subst (λ a. Acts g.W.Wired.stands c.act.new.self p a (act c.args.self.now.works.setup c.args.quiet p)) c.in-Step.is (c.act.ensures.stands p h)) c.advance.ensures.sends
