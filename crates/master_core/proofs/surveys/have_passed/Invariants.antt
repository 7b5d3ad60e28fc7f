use Rattle.std.proofs.Common.{◌≡◌, List, take, true}
use Rattle.std.specs.List.{list_all}
use Rattle.dcp_types.specs.declared.limits.Limits.{Limits}
use Rattle.master_spec.specs.Course.{CourseTalk as Said, has_passed}
use Rattle.master_core.specs.Each.{Each}
use Rattle.master_core.specs.Talking.{TalkStandsAt, Now}
use Rattle.master_core.proofs.surveys.have_passed.Given as goal

abbrev pub invariant-loop-talk : goal.invariant-loop-talk
invariant-loop-talk l = (limits : Limits) (now : Now) (said : List Said) → Each (TalkStandsAt limits now) l.talks said → list_all has_passed (take l.talk-index said) ≡ true
