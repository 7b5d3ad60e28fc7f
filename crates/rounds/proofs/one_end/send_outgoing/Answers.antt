use Rattle.std.proofs.Common.{◌∙◌, ◌<◌, length, arith, sym}
use Rattle.std.proofs.lemmas.Result.{err_from_is_err_and}
use Rattle.std.proofs.lemmas.Option.{slice_get_within}
use Rattle.rounds.proofs.Parts.{SendsSome-stop, Added-send, Added-all, slice_get_none}
use Rattle.rounds.proofs.one_end.send_outgoing.Goals as goal

pub returns-in_err-send_one-clause-err : goal.returns-in_err-send_one-clause-err
returns-in_err-send_one-clause-err g c =
    let p = err_from_is_err_and c.from_residual.result c.from_residual.ensures.1 in
    rw p.1 (SendsSome-stop _ _ _ _ _ _ _ _ _ _ c.sends.invariant.added c.in_err-send_one.ensures.err)

pub sends-preserved : goal.sends-preserved
sends-preserved g c =
    let found = c.in-Some.ensures.value in
    let here : c.sends.i < length (g.E.Seat.outs c.args.end.now) = slice_get_within _ _ _ (sym found) in
    record {
      in_range = omega arith;
      is_open = c.in_ok-send_one.ensures.is_open;
      opening = c.in_ok-send_one.ensures.opening ∙ c.sends.invariant.opening;
      added = Added-send _ _ _ _ _ _ _ _ _ _ _ found c.sends.invariant.added (rw c.address-place.ensures at c.in_ok-send_one.ensures.ok);
      still = c.in_ok-send_one.ensures.cause.done ∙ c.sends.invariant.still;
      range = λ before. c.send_one.ensures.range (c.sends.invariant.range before);
    }

pub returns-clause-ok : goal.returns-clause-ok
returns-clause-ok g c = Added-all _ _ _ _ _ _ _ _ (slice_get_none _ _ c.in_default.ensures.value) c.sends.invariant.added
