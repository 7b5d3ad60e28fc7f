use Rattle.std.proofs.Common.{◌∙◌, ap}
use Rattle.std.specs.Prelude.{not}
use Rattle.dcp_ends.specs.Events.{Gram}
use Rattle.master_core.proofs.Happening.{gram_stands, gram_sends, over_stands, over_sends}
use Rattle.master_core.proofs.ends.MasterCoreEnd.on_gram.Goals as goal

pub returns-then-is_none-clause-stands : goal.returns-then-is_none-clause-stands
returns-then-is_none-clause-stands c = λ events s.
    gram_stands c.args.self.now c.take_gram.new.self events c.args.from c.args.bytes.now s (c.is_none.ensures ∙ ap not c.if-is_none.true) c.take_gram.ensures.setup (c.take_gram.ensures.meets _ s.stands) c.take_gram.ensures.turns

pub returns-then-is_none-clause-sends : goal.returns-then-is_none-clause-sends
returns-then-is_none-clause-sends c = λ events s.
    gram_sends c.args.self.now c.take_gram.new.self events c.args.from c.args.bytes.now s (c.is_none.ensures ∙ ap not c.if-is_none.true) (c.take_gram.ensures.meets _ s.stands)

pub returns-else-is_none-clause-stands : goal.returns-else-is_none-clause-stands
returns-else-is_none-clause-stands c = λ events s. over_stands c.args.self.now events (Gram c.args.from c.args.bytes.now) s (c.is_none.ensures ∙ ap not c.if-is_none.false)

pub returns-else-is_none-clause-sends : goal.returns-else-is_none-clause-sends
returns-else-is_none-clause-sends c = λ events s. over_sends c.args.self.now events (Gram c.args.from c.args.bytes.now) s (c.is_none.ensures ∙ ap not c.if-is_none.false) c.requires
