use Rattle.std.proofs.Common.{sym, ◌∙◌, arith}
use Rattle.pdu_text.proofs.Names.{here, next, none, scanned}
use Rattle.pdu_text.proofs.message_names.code_of.Goals as goal

pub loop-code-init : goal.loop-code-init
loop-code-init c = scanned c.args.word.now

pub returns-then-is_named : goal.returns-then-is_named
returns-then-is_named c =
    let l = c.loop-code in
    sym (here l.code c.args.word.now (omega (arith, c.loop-code-test.true)) (sym c.is_named.ensures ∙ c.if-is_named.true)) ∙ l.invariant

pub loop-code-preserved : goal.loop-code-preserved
loop-code-preserved c =
    let l = c.loop-code in
    sym (next l.code c.args.word.now (omega (arith, c.loop-code-test.true)) (sym c.is_named.ensures ∙ c.if-is_named.false)) ∙ l.invariant

pub returns : goal.returns
returns c =
    let l = c.loop-code in
    sym (none l.code c.args.word.now (omega (arith, c.loop-code-test.false))) ∙ l.invariant
