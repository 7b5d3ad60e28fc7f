use Rattle.std.proofs.Common.{◌-◌, ◌∙◌, ap, map, List, Option}
use Rattle.lockstep.specs.declared.wiring.Feed.{Feed}
use Rattle.lockstep.specs.Feeds.{fed}
use Rattle.lockstep.proofs.Reading.{fed_are}
use Rattle.lockstep.proofs.parts.Part.advance.Goals as goal

pub step-requires-clause-inputs : goal.step-requires-clause-inputs
step-requires-clause-inputs c =
    fed_are c.args.rows.now.rows (c.args.now - c.args.step) c.args.step c.args.self.now.feeds.items c.as_slice-2.result.now c.requires.values
    (c.as_slice-2.ensures.value ∙ c.in_ok-gather.ensures
    ∙ ap (λ (fs : List (Option Feed)). map (fed c.args.rows.now.rows (c.args.now - c.args.step) c.args.step) fs) c.as_slice.ensures.value)
