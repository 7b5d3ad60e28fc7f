use Rattle.std.proofs.Common.{◌∙◌}
use Rattle.std.proofs.lemmas.Result.{err_from_is_err_and}
use Rattle.rounds.proofs.Looks.{GotsSoFar-more, Looked-idle, LookPart-stopped}
use Rattle.rounds.proofs.one_end.look.Goals as goal

pub returns-in_err-more-clause-err : goal.returns-in_err-more-clause-err
returns-in_err-more-clause-err g c =
    let p = err_from_is_err_and c.from_residual.result c.from_residual.ensures.1 in
    let once = rw c.looks.invariant.same at c.in_err-more.ensures.err in
    rw p.1 (LookPart-stopped _ _ _ _ _ _ _ _ _ c.looks.invariant.gots c.looks-test.true once)

pub returns-then-not-more-clause-ok : goal.returns-then-not-more-clause-ok
returns-then-not-more-clause-ok g c =
    let once = rw (c.looks.invariant.same, c.if-not-more.true) at c.in_ok-more.ensures.ok in
    Looked-idle _ _ _ _ _ _ _ _ _ c.looks.invariant.gots c.looks-test.true once

pub looks-preserved : goal.looks-preserved
looks-preserved g c =
    let once = rw (c.looks.invariant.same, c.if-not-more.false) at c.in_ok-more.ensures.ok in
    record {
      is_open = c.in_ok-more.ensures.is_open;
      opening = c.look_once.ensures.opening ∙ c.looks.invariant.opening;
      made = c.look_once.ensures.made ∙ c.looks.invariant.made;
      same = c.look_once.ensures.rules ∙ c.looks.invariant.same;
      quiet = c.in_ok-more.ensures.quiet;
      told = rw c.looks.invariant.same at c.in_ok-more.ensures.told;
      gots = GotsSoFar-more _ _ _ _ _ _ _ _ _ c.looks.invariant.gots once;
      still = c.in_ok-more.ensures.cause.done ∙ c.looks.invariant.still;
      range = λ before. c.look_once.ensures.range (c.looks.invariant.range before);
    }
