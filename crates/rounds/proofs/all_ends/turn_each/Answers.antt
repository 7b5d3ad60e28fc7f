use Rattle.std.proofs.Common.{arith, ◌∙◌, ◌<◌, length}
use Rattle.std.proofs.lemmas.Result.{err_from_is_err_and}
use Rattle.rounds.specs.Rounds.{IsTurn, IsTurnPart}
use Rattle.rounds.proofs.Others.{kept, rules_kept, turn_silent, turn_part_silent}
use Rattle.rounds.proofs.Visits.{visited_told, visited_cut, visited_quiet, visited_each, visited_part}
use Rattle.rounds.proofs.all_ends.turn_each.Goals as goal

pub returns-in_err-turn-clause-rules : goal.returns-in_err-turn-clause-rules
returns-in_err-turn-clause-rules g c =
    let here : c.loop-end.end-index < length c.loop-end.ends = omega arith in
    rules_kept g.E.Seat.rules _ _ c.end-item.result _ here c.turn.ensures.rules ∙ c.loop-end.invariant.same

pub returns-in_err-turn-clause-made : goal.returns-in_err-turn-clause-made
returns-in_err-turn-clause-made g c = kept g.E.Seat.made _ _ c.end-item.result _ c.turn.ensures.made ∙ c.loop-end.invariant.made

pub returns-in_err-turn-clause-cut : goal.returns-in_err-turn-clause-cut
returns-in_err-turn-clause-cut g c =
    let p = err_from_is_err_and c.from_residual.result c.from_residual.ensures.1 in
    let here : c.loop-end.end-index < length c.loop-end.ends = omega arith in
    let i = c.loop-end.invariant in
    rw p.1 (visited_cut _ _ _ _ _ _ _ _ here i.same c.requires.apart c.turn.ensures.rules c.loop-end.net c.loop-end.net _ c.loop-end.log.entries _ _ IsTurnPart turn_part_silent i.told c.in_err-turn.ensures.cut c.in_err-turn.ensures.err)

pub returns-in_err-turn-clause-err : goal.returns-in_err-turn-clause-err
returns-in_err-turn-clause-err g c =
    let p = err_from_is_err_and c.from_residual.result c.from_residual.ensures.1 in
    let here : c.loop-end.end-index < length c.loop-end.ends = omega arith in
    let i = c.loop-end.invariant in
    rw p.1 (visited_part g.E.Seat.stands _ _ _ _ _ _ c.turn.new.end here i.same c.requires.apart c.turn.ensures.rules _ _ _ _ _ _ IsTurn IsTurnPart i.turns c.in_err-turn.ensures.err)

pub loop-end-preserved : goal.loop-end-preserved
loop-end-preserved g c =
    let here : c.loop-end.end-index < length c.loop-end.ends = omega arith in
    let i = c.loop-end.invariant in
    record {
      is_open = c.in_ok-turn.ensures.is_open;
      opening = c.turn.ensures.opening ∙ i.opening;
      made = kept g.E.Seat.made _ _ c.end-item.result _ c.turn.ensures.made ∙ i.made;
      same = rules_kept g.E.Seat.rules _ _ c.end-item.result _ here c.turn.ensures.rules ∙ i.same;
      quiet = visited_quiet g.E.Seat.stands g.E.Seat.rules g.N.Net.calls _ _ _ _ _ here i.same c.requires.apart c.turn.ensures.rules c.loop-end.net c.loop-end.net c.loop-end.net c.loop-end.log.entries c.loop-end.log.entries c.loop-end.log.entries g.E.Seat.outs i.quiet c.in_ok-turn.ensures.quiet;
      told = visited_told _ _ _ _ _ _ _ _ here i.same c.requires.apart c.turn.ensures.rules c.loop-end.net c.loop-end.net _ c.loop-end.log.entries _ _ IsTurn turn_silent i.told c.in_ok-turn.ensures.told c.in_ok-turn.ensures.ok;
      turns = visited_each g.E.Seat.stands _ _ _ _ _ _ c.turn.new.end here i.same c.requires.apart c.turn.ensures.rules _ _ _ _ _ _ IsTurn i.turns c.in_ok-turn.ensures.ok;
      still = c.in_ok-turn.ensures.cause.done ∙ i.still;
      range = λ before. c.turn.ensures.range (i.range before);
    }
