use Rattle.std.proofs.Common.{◌≡◌, ◌<◌, ℕ, ◌-◌, ◌++◌, length, take, min, ap, ◌∙◌, subst, arith}
use Rattle.std.proofs.lemmas.List.Elements.{All-from_get_or}
use Rattle.circular_buffer.specs.Buffer.{Buffer}
use Rattle.stream_frame.specs.Framing.{Framing, space}
use Rattle.stream_frame.proofs.Histories.{stands_fed}
use Rattle.stream_frame.proofs.Lengths.{open_space}
use Rattle.stream_frame.proofs.readers.FrameReader.feed.Goals as goal

pub returns-clause-stands : goal.returns-clause-stands
returns-clause-stands c =
    let inside = c.self.inside in
    let count = c.fill_from_slice.result in
    let P : Framing → Type 0 = λ f. inside.held.capacity - length inside.held.items ≡ space f in
    let room = subst P c.self.view_is (open_space inside.is_refused inside.held.items inside.held.capacity c.if-self.false c.self.invariant.0) in
    let hold : Buffer ℕ → Framing = λ b. record { held = b.items; last = take inside.size inside.last; is_refused = inside.is_refused } in
    let more : Framing → Framing = λ f. record f { held = f.held ++ take count c.args.piece.now } in
    stands_fed c.args.self.now _ c.args.piece.now count (All-from_get_or (λ b. b < 256) c.args.piece.now 0 (λ i h. omega (arith, c.type_inv.piece i)))
    (c.fill_from_slice.ensures.count ∙ ap (min (length c.args.piece.now)) room)
    (ap hold c.fill_from_slice.ensures.items ∙ ap more c.self.view_is)
