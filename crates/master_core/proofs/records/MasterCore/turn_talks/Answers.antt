use Rattle.std.proofs.Common.{◌≡◌, Bool, Some, List, ◌++◌, map, sym, ap, subst, ◌∙◌}
use Rattle.std.specs.List.{list_all, flat_map}
use Rattle.master_spec.specs.Marks.{Turned}
use Rattle.master_spec.specs.Course.{Course, CourseTalk as Said, marked, sends_after, is_settled}
use Rattle.master_core.specs.declared.records.Talk.{Talk}
use Rattle.master_core.specs.Each.{Each}
use Rattle.master_core.specs.Talking.{TalkStandsAt, now_in}
use Rattle.master_core.proofs.Onward.{marked_stands, meets_as}
use Rattle.dcp_ends.specs.Events.{Send}
use Rattle.master_core.proofs.records.MasterCore.turn_talks.Goals as goal

pub returns-clause-meets : goal.returns-clause-meets
returns-clause-meets c = λ x s.
    let m = c.args.self.now in
    let now = now_in x.phase m.schedule in
    let settled : c.are_settled-settled.result ≡ list_all is_settled x.talks = c.are_settled-settled.ensures m.limits now x.talks (subst (λ (ts : List Talk). Each (TalkStandsAt m.limits now) ts x.talks) (sym c.deref.ensures.value) s.parts.talks_stand) in
    let made : Bool → Course = λ b. record {
      phase = x.phase;
      talks = map (λ (talk : Said). marked m.limits talk (Some (Turned b))) x.talks;
      rows = x.rows;
      report = x.report;
      sent = flat_map (λ (talk : Said). sends_after m.limits talk (Some (Turned b))) x.talks;
    } in
    meets_as _ _ _ (ap made settled)
    (record {
      stands = marked_stands m.limits m.phase m.talks.items c.turn_all.new.talks.items m.schedule m.rows m.report x _ _ s c.turn_all.ensures.slaves (c.turn_all.ensures.stands m.limits now x.talks s.parts.talks_stand);
      sent = c.turn_all.ensures.sends m.limits now x.talks s.parts.talks_stand ∙ ap (λ (l : List Send). l ++ flat_map (λ (talk : Said). sends_after m.limits talk (Some (Turned c.are_settled-settled.result))) x.talks) c.requires;
    })
