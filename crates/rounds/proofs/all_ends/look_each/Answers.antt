use Rattle.std.proofs.Common.{arith, ◌∙◌, ◌<◌, length}
use Rattle.std.proofs.lemmas.Result.{err_from_is_err_and}
use Rattle.rounds.specs.Rounds.{IsLook, IsLookPart}
use Rattle.rounds.proofs.Others.{kept, rules_kept, look_silent, look_part_silent}
use Rattle.rounds.proofs.Visits.{visited_told, visited_cut, visited_quiet, visited_each, visited_part}
use Rattle.rounds.proofs.all_ends.look_each.Goals as goal

pub returns-in_err-look-clause-rules : goal.returns-in_err-look-clause-rules
returns-in_err-look-clause-rules g c =
    let here : c.loop-end.end-index < length c.loop-end.ends = omega arith in
    rules_kept g.E.Seat.rules _ _ c.end-item.result _ here c.look.ensures.rules ∙ c.loop-end.invariant.same

pub returns-in_err-look-clause-made : goal.returns-in_err-look-clause-made
returns-in_err-look-clause-made g c = kept g.E.Seat.made _ _ c.end-item.result _ c.look.ensures.made ∙ c.loop-end.invariant.made

pub returns-in_err-look-clause-cut : goal.returns-in_err-look-clause-cut
returns-in_err-look-clause-cut g c =
    let p = err_from_is_err_and c.from_residual.result c.from_residual.ensures.1 in
    let here : c.loop-end.end-index < length c.loop-end.ends = omega arith in
    let i = c.loop-end.invariant in
    rw p.1 (visited_cut _ _ _ _ _ _ _ _ here i.same c.requires.apart c.look.ensures.rules c.loop-end.net c.loop-end.net _ c.loop-end.log.entries _ _ IsLookPart look_part_silent i.told c.in_err-look.ensures.cut c.in_err-look.ensures.err)

pub returns-in_err-look-clause-err : goal.returns-in_err-look-clause-err
returns-in_err-look-clause-err g c =
    let p = err_from_is_err_and c.from_residual.result c.from_residual.ensures.1 in
    let here : c.loop-end.end-index < length c.loop-end.ends = omega arith in
    let i = c.loop-end.invariant in
    rw p.1 (visited_part g.E.Seat.stands _ _ _ _ _ _ c.look.new.end here i.same c.requires.apart c.look.ensures.rules _ _ _ _ _ _ IsLook IsLookPart i.looks c.in_err-look.ensures.err)

pub loop-end-preserved : goal.loop-end-preserved
loop-end-preserved g c =
    let here : c.loop-end.end-index < length c.loop-end.ends = omega arith in
    let i = c.loop-end.invariant in
    record {
      is_open = c.in_ok-look.ensures.is_open;
      opening = c.look.ensures.opening ∙ i.opening;
      made = kept g.E.Seat.made _ _ c.end-item.result _ c.look.ensures.made ∙ i.made;
      same = rules_kept g.E.Seat.rules _ _ c.end-item.result _ here c.look.ensures.rules ∙ i.same;
      quiet = visited_quiet g.E.Seat.stands g.E.Seat.rules g.N.Net.calls _ _ _ _ _ here i.same c.requires.apart c.look.ensures.rules c.loop-end.net c.loop-end.net c.loop-end.net c.loop-end.log.entries c.loop-end.log.entries c.loop-end.log.entries g.E.Seat.outs i.quiet c.in_ok-look.ensures.quiet;
      told = visited_told _ _ _ _ _ _ _ _ here i.same c.requires.apart c.look.ensures.rules c.loop-end.net c.loop-end.net _ c.loop-end.log.entries _ _ IsLook look_silent i.told c.in_ok-look.ensures.told c.in_ok-look.ensures.ok;
      looks = visited_each g.E.Seat.stands _ _ _ _ _ _ c.look.new.end here i.same c.requires.apart c.look.ensures.rules _ _ _ _ _ _ IsLook i.looks c.in_ok-look.ensures.ok;
      still = c.in_ok-look.ensures.cause.done ∙ i.still;
      range = λ before. c.look.ensures.range (i.range before);
    }
