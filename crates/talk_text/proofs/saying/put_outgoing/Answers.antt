use Rattle.std.proofs.Common.{◌<◌, ◌++◌, List, length, arith, sym, ap, ◌∙◌}
use Rattle.std.proofs.lemmas.Option.{slice_get_within}
use Rattle.dcp_ends.specs.Events.{Send}
use Rattle.talk_text.specs.Saying.{lines_shown}
use Rattle.talk_text.proofs.Sayings.{line_more, taken_none}
use Rattle.talk_text.proofs.saying.put_outgoing.Goals as goal

pub sends-preserved : goal.sends-preserved
sends-preserved g c =
    let found = c.in-Some.ensures.value in
    let here : c.sends.i < length (g.E.End.outs c.args.end.now) = slice_get_within _ _ _ (sym found) in
    record {
      in_range = omega arith;
      put = line_more (g.E.End.outs c.args.end.now) c.sends.i _ c.args.text.now.items _ _ (sym found) c.sends.invariant.put c.in_ok-put_line.ensures;
    }

pub returns : goal.returns
returns g c =
    c.sends.invariant.put ∙ ap (λ (l : List Send). c.args.text.now.items ++ lines_shown l) (taken_none (g.E.End.outs c.args.end.now) c.sends.i (sym c.in_default.ensures.value))
