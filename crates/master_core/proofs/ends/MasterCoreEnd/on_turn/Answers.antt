use Rattle.std.proofs.Common.{◌∙◌, ap}
use Rattle.std.specs.Prelude.{not}
use Rattle.dcp_ends.specs.Events.{Tick}
use Rattle.master_core.proofs.Happening.{turn_stands, turn_sends, over_stands, over_sends}
use Rattle.master_core.proofs.ends.MasterCoreEnd.on_turn.Goals as goal

pub returns-then-is_none-clause-stands : goal.returns-then-is_none-clause-stands
returns-then-is_none-clause-stands c = λ events s.
    turn_stands c.args.self.now c.take_turn.new.self events s (c.is_none.ensures ∙ ap not c.if-is_none.true) c.take_turn.ensures.setup (c.take_turn.ensures.meets _ s.stands) (c.take_turn.ensures.turns ∙ c.saturating_add-self.ensures)

pub returns-then-is_none-clause-sends : goal.returns-then-is_none-clause-sends
returns-then-is_none-clause-sends c = λ events s. turn_sends c.args.self.now c.take_turn.new.self events s (c.is_none.ensures ∙ ap not c.if-is_none.true) (c.take_turn.ensures.meets _ s.stands)

pub returns-else-is_none-clause-stands : goal.returns-else-is_none-clause-stands
returns-else-is_none-clause-stands c = λ events s. over_stands c.args.self.now events Tick s (c.is_none.ensures ∙ ap not c.if-is_none.false)

pub returns-else-is_none-clause-sends : goal.returns-else-is_none-clause-sends
returns-else-is_none-clause-sends c = λ events s. over_sends c.args.self.now events Tick s (c.is_none.ensures ∙ ap not c.if-is_none.false) c.requires
