-- The lines of the slaves so far stand there, and the generator is where the next one's draws begin.
use Rattle.std.proofs.Common.{◌≡◌, ◌*◌, ◌++◌, string_bytes}
use Rattle.std.specs.List.{flat_map, range_with_len}
use Rattle.text_lines.specs.Printed.{line_of}
use Rattle.net_world.specs.Chances.{after_steps}
use Rattle.soaks.specs.Texts.{drawn_at}
use Rattle.soaks.proofs.texts.put_slaves.Given as goal

abbrev pub invariant-loop-place : goal.invariant-loop-place
invariant-loop-place l = record {
  stands : l.x ≡ after_steps (3 * l.place) l.number;
  lines : string_bytes l.text ≡ string_bytes l.fn.text ++ flat_map line_of (flat_map (drawn_at l.number) (range_with_len 0 l.place));
}
