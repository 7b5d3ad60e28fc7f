use Rattle.std.proofs.Common.{◌≡◌, List, drop}
use Rattle.dcp_types.specs.declared.limits.Limits.{Limits}
use Rattle.master_spec.specs.Course.{CourseTalk as Said, failed}
use Rattle.master_core.specs.Each.{Each}
use Rattle.master_core.specs.Talking.{TalkStandsAt, Now}
use Rattle.master_core.proofs.surveys.first_failed.Given as goal

abbrev pub invariant-loop-talk : goal.invariant-loop-talk
invariant-loop-talk l = (limits : Limits) (now : Now) (said : List Said) → Each (TalkStandsAt limits now) l.talks said → failed l.phase said ≡ failed l.phase (drop l.talk-index said)
