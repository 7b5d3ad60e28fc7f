use Rattle.std.proofs.Common.{sym, ◌∙◌}
use Rattle.text_lines.proofs.NameLemmas.{name_is_utf8}
use Rattle.text_lines.proofs.names.name.Goals as goal

-- a name is UTF-8
pub returns-in-Err : goal.returns-in-Err
returns-in-Err c = absurd (c.in-Err.ensures.cases.0 (name_is_utf8 c.args.word.now (sym c.is_name.ensures ∙ c.if-not-is_name.false)))
