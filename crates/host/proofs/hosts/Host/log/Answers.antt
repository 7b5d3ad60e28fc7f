use Rattle.std.proofs.Common.{ap, ◌∙◌}
use Rattle.host.specs.Views.{HostView}
use Rattle.host.proofs.Follow.{all_follow, all_follow_up, slaves_cut, slaves_run}
use Rattle.host.proofs.hosts.Host.log.Goals as goal

pub returns-clause-follows : goal.returns-clause-follows
returns-clause-follows c = λ none.
    let h = c.self.inside in
    let view = c.self.view_is in
    let sound = c.self.invariant.1 in
    rw (← view) (all_follow _ _ h.slaves.items _ h.log.entries sound.slaves_are (slaves_run _ _ _ _ _ _ h.master h.slaves.items h.log.entries h.fault (ap (λ (v : HostView). v.fault) view ∙ none) sound))

pub returns-clause-cut : goal.returns-clause-cut
returns-clause-cut c =
    let h = c.self.inside in
    let view = c.self.view_is in
    let sound = c.self.invariant.1 in
    rw (← view) (all_follow_up _ _ h.slaves.items _ h.log.entries sound.slaves_are (slaves_cut _ _ _ _ _ _ h.master h.slaves.items h.log.entries h.fault sound))

pub returns-clause-range : goal.returns-clause-range
returns-clause-range c = rw (← c.self.view_is) c.self.invariant.1.range
