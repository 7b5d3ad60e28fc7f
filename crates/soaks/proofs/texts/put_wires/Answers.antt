use Rattle.std.proofs.Common.{◌+◌, ◌++◌, List, ℕ, ap, ◌∙◌, map, string_bytes, append_assoc}
use Rattle.std.specs.List.{flat_map, range_with_len}
use Rattle.text_lines.specs.Printed.{line_of}
use Rattle.soaks.specs.Texts.{wired_at}
use Rattle.soaks.proofs.Growing.{slaves_later, wire_here, wire_more}
use Rattle.soaks.proofs.texts.put_wires.Goals as goal

pub loop-place-preserved : goal.loop-place-preserved
loop-place-preserved c =
    let i = c.loop-place.invariant in
    let number = c.args.number in
    let slaves = c.args.later + 1 in
    let place = c.loop-place.place in
    let so_far = flat_map line_of (map (wired_at number slaves) (range_with_len 0 place)) in
    record {
      stands = c.after_slave-x.ensures ∙ slaves_later number place c.loop-place.x i.stands;
      lines = rw (c.in_ok-put_wire.ensures, c.draw.ensures, c.after_slave-x.ensures, i.lines, wire_here number slaves place c.loop-place.x i.stands)
          (append_assoc (string_bytes c.args.text.now) so_far (line_of (wired_at number slaves place)) ∙ ap (λ (l : List ℕ). string_bytes c.args.text.now ++ l) (wire_more number slaves place));
    }
