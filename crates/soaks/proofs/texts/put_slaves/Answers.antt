use Rattle.std.proofs.Common.{◌≡◌, ◌+◌, ◌++◌, List, ℕ, ap, ◌∙◌, string_bytes, append_assoc}
use Rattle.std.specs.List.{flat_map, range_with_len}
use Rattle.text_lines.specs.Printed.{line_of}
use Rattle.net_world.specs.Chances.{draw, generator_step}
use Rattle.soaks.specs.Texts.{drawn_at, drawn_words}
use Rattle.soaks.proofs.Growing.{drawn_here, slave_more, slaves_later}
use Rattle.soaks.proofs.texts.put_slaves.Goals as goal

pub loop-place-preserved : goal.loop-place-preserved
loop-place-preserved c =
    let i = c.loop-place.invariant in
    let number = c.args.number in
    let place = c.loop-place.place in
    let a = c.draw.result in
    let b = c.draw-in-loop-place.result in
    let base = string_bytes c.args.text.now in
    let so_far = flat_map line_of (flat_map (drawn_at number) (range_with_len 0 place)) in
    let first : a ≡ draw (generator_step c.loop-place.x) = c.draw.ensures ∙ ap (λ (y : ℕ). draw y) c.generator_step-a.ensures in
    let second : b ≡ draw (generator_step (generator_step c.loop-place.x)) = c.draw-in-loop-place.ensures ∙ ap (λ (y : ℕ). draw y) (c.generator_step.ensures ∙ ap (λ (y : ℕ). generator_step y) c.generator_step-a.ensures) in
    let drawn : drawn_words (place + 2) a b ≡ drawn_at number place =
    ap (λ (n : ℕ). drawn_words (place + 2) n b) first ∙ ap (λ (n : ℕ). drawn_words (place + 2) (draw (generator_step c.loop-place.x)) n) second ∙ drawn_here number place c.loop-place.x i.stands in
    record {
      stands = c.after_slave-x.ensures ∙ slaves_later number place c.loop-place.x i.stands;
      lines = c.in_ok-put_drawn.ensures
          ∙ ap (λ (l : List ℕ). l ++ flat_map line_of (drawn_words (place + 2) a b)) i.lines
          ∙ append_assoc base so_far (flat_map line_of (drawn_words (place + 2) a b))
          ∙ ap (λ (l : List (List (List ℕ))). base ++ (so_far ++ flat_map line_of l)) drawn
          ∙ ap (λ (l : List ℕ). base ++ l) (slave_more number place);
    }
