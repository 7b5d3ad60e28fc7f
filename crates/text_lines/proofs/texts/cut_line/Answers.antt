use Rattle.std.proofs.Common.{sym, ap, ◌∙◌, arith}
use Rattle.std.specs.Str.Lines.{strip_carriage_return}
use Rattle.text_lines.proofs.LineLemmas.{first_line, last_line}
use Rattle.text_lines.proofs.texts.cut_line.Goals as goal

pub split_at-requires : goal.split_at-requires
split_at-requires c = let f = first_line _ c.args.text.now c.in-Some.at (sym c.in-Some.ensures) in omega (arith, f.0)

pub returns-in-Some-clause-some : goal.returns-in-Some-clause-some
returns-in-Some-clause-some c =
    let f = first_line _ c.args.text.now c.in-Some.at (sym c.in-Some.ensures) in
    let after = c.split_at-in-Some.ensures.back in
    let line = c.without_return.ensures ∙ ap strip_carriage_return c.split_at.ensures.front in
    (omega (arith, c.split_at-in-Some.ensures.back_len), rw (after, line) f.1)

pub returns-in-None-clause-none : goal.returns-in-None-clause-none
returns-in-None-clause-none c = last_line _ c.args.text.now (sym c.in-None.ensures)
