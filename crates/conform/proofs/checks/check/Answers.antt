use Rattle.std.proofs.Common.{◌≡◌, List, Some, ap, subst, ◌∙◌}
use Rattle.scenario.specs.Lookups.{slave_at}
use Rattle.slave_desc.specs.declared.descriptions.SlaveDesc.{SlaveDesc}
use Rattle.slave_desc.specs.Descriptions.{IsDesc}
use Rattle.slave_spec.specs.Foreign.{foreign_fresh}
use Rattle.conform.specs.Standing.{StandsBetween}
use Rattle.conform.proofs.Judging.{slave_is, not_yet}
use Rattle.conform.proofs.checks.check.Goals as goal

pub returns : goal.returns
returns c = λ d e.
    let k : Some c.in-Some.desc.now ≡ Some d = c.in-Some.ensures ∙ ap (λ (l : List SlaveDesc). slave_at l c.args.slave) c.as_slice.ensures.items ∙ e in
    let same : c.in-Some.desc.now ≡ d = cc in
    let sound : IsDesc d = slave_is (λ x. IsDesc x) c.args.scenario.now.slaves c.args.slave d c.requires.scenario.slaves e in
    let h : StandsBetween c.in_ok-follower.follower d foreign_fresh = subst (λ (x : SlaveDesc). StandsBetween c.in_ok-follower.follower x foreign_fresh) same c.in_ok-follower.ensures.stands in
    c.go_through.ensures d sound (not_yet c.in_ok-follower.follower d h c.in_ok-follower.ensures.closed)
