use Rattle.std.proofs.Common.{List, ◌++◌, ap, ◌∙◌}
use Rattle.std.specs.List.{flat_map}
use Rattle.dcp_ends.specs.Events.{Send}
use Rattle.master_spec.specs.Course.{CourseTalk as Said, sends_after, mark_of_gram}
use Rattle.master_core.specs.Talking.{now_in}
use Rattle.master_core.proofs.Onward.{marked_stands, is_now}
use Rattle.master_core.proofs.records.MasterCore.hear.Goals as goal

pub returns-clause-meets : goal.returns-clause-meets
returns-clause-meets c = λ x s.
    let m = c.args.self.now in
    let now = now_in x.phase m.schedule in
    record {
      stands = marked_stands m.limits m.phase m.talks.items c.hear_one-self.new.talks.items m.schedule m.rows m.report x _ _ s c.hear_one-self.ensures.slaves (c.hear_one-self.ensures.stands m.limits now x.talks s.parts.talks_stand (is_now x.phase m.schedule));
      sent = c.hear_one-self.ensures.sends m.limits now x.talks s.parts.talks_stand (is_now x.phase m.schedule) ∙ ap (λ (l : List Send). l ++ flat_map (λ (talk : Said). sends_after m.limits talk (mark_of_gram talk c.args.from c.args.bytes.now)) x.talks) c.requires;
    }
