use Rattle.std.proofs.Common.{◌≡◌, ◌-◌, ◌++◌, length, take, drop, min, ap, ◌∙◌}
use Rattle.std.proofs.lemmas.List.{take_rest}
use Rattle.stream_frame.specs.Framing.{Framing, space}
use Rattle.stream_frame.specs.Inlets.{Arriving}
use Rattle.stream_frame.proofs.Receiving.{feeds, fed_receives}
use Rattle.stream_frame.proofs.inlets.Inlet.feed.Goals as goal

pub returns-clause-receives : goal.returns-clause-receives
returns-clause-receives c =
    let old = c.args.self.now in
    let piece = c.args.piece.now in
    let first = c.greet-count.result in
    let rest = take (length piece - first) (drop first piece) in
    let greeted = c.self.view_is ∙ c.greet-count.ensures.greeting in
    let same : c.self.inside.reader ≡ old.reader = ap (λ (i : Arriving). i.reader) greeted in
    let more : Framing → Framing = λ f. record f { held = f.held ++ take c.feed.result rest } in
    fed_receives old _ piece _ (feeds old _ piece rest first c.feed.result c.greet-count.ensures.count (take_rest piece first)
    (c.feed.ensures.count ∙ ap (λ (f : Framing). min (length rest) (space f)) same)
    (ap (λ (i : Arriving). i.greeting) greeted)
    (c.feed.ensures.held ∙ ap more same))
