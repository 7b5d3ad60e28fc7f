use Rattle.std.proofs.Common.{◌∙◌, sym}
use Rattle.std.specs.Cmp.Lexicographic.{same_text}
use Rattle.commands.proofs.NamedSlaves.{named_at}
use Rattle.commands.proofs.slave_names.slave_named.Goals as goal

pub returns-then-eq : goal.returns-then-eq
returns-then-eq c =
    named_at c.args.slaves.now c.loop-place.place c.index-slaves-place.result c.args.name.now c.loop-place-test.true c.requires
    (sym c.as_str.ensures ∙ same_text c.as_str.result.now c.args.name.now (sym c.if-eq.true ∙ c.eq.ensures))
