use Rattle.std.proofs.Common.{◌≡◌, ◌≤◌, ◌+◌, length, take, drop, arith, rules, sym, ap, ◌∙◌, ◌++◌, subst, List, ℕ}
use Rattle.std.proofs.lemmas.List.{length-append, length-take}
use Rattle.std.specs.Io.KnownBytes.{Consumes}
use Rattle.commands.proofs.Pieces.{end_is, full_is, read_more, then_none_taken, then_taken}
use Rattle.commands.proofs.inputs.read_input.Goals as goal

pub returns-in-End : goal.returns-in-End
returns-in-End g c =
    let i = c.loop-room.invariant in (
      end_is _ _ _ _ _ (search rules) i.taken c.in-End.ensures.bytes.0 c.in-End.ensures.bytes.1,
      (c.loop-room.gathered.items, i.within, then_none_taken _ _ _ _ i.taken c.in-End.ensures.bytes.1),
      c.in-End.ensures.cause ∙ i.no_fault,
    )

pub returns-then-is_err : goal.returns-then-is_err
returns-then-is_err g c =
    let i = c.loop-room.invariant in
    let more = take c.in-Bytes.count c.read.new.room in (
      (
        c.loop-room.gathered.items ++ more,
        omega (arith, length-append c.loop-room.gathered.items more, length-take c.in-Bytes.count c.read.new.room, c.read.auto.room, length-take c.min-size.result c.loop-room.room, c.in-Bytes.ensures.fits, c.min-size.ensures, c.len-in-loop-room.ensures.value, c.len.ensures.value, c.loop-room-test.true),
        then_taken _ _ _ _ _ i.taken c.in-Bytes.ensures.bytes,
      ),
      c.in-Bytes.ensures.cause ∙ i.no_fault,
    )

pub loop-room-preserved : goal.loop-room-preserved
loop-room-preserved g c =
    let i = c.loop-room.invariant in
    let past = drop c.min-size.result c.loop-room.room in
    let room = c.read.new.room ++ past in
    let grown : c.extend_from_slice.new.self.items ≡ c.loop-room.gathered.items ++ take c.in-Bytes.count room = search rules in
    let few : length c.read.new.room ≤ c.min-size.result = omega (arith, c.read.auto.room, length-take c.min-size.result c.loop-room.room) in
    let P : List ℕ → Type 0 = λ l. Consumes (g.S.Source.left c.args.source.now) (g.S.Source.left c.read.new.self) l in
    record {
      taken = subst P (sym grown) (read_more _ _ _ c.loop-room.gathered.items c.read.new.room past c.in-Bytes.count c.in-Bytes.ensures.fits.1 i.taken c.in-Bytes.ensures.bytes);
      within = omega (arith, ap (λ l. length l) grown, length-append c.loop-room.gathered.items (take c.in-Bytes.count room), length-take c.in-Bytes.count room, few, c.in-Bytes.ensures.fits, c.min-size.ensures, c.len-in-loop-room.ensures.value, c.len.ensures.value, c.loop-room-test.true);
      no_fault = c.in-Bytes.ensures.cause ∙ i.no_fault;
    }

pub returns : goal.returns
returns g c =
    let i = c.loop-room.invariant in
    let full : length c.loop-room.gathered.items ≡ c.args.limit + 1 = omega (arith, i.within, c.len.ensures.value, c.loop-room-test.false) in
    (full_is _ _ _ _ full i.taken, (c.loop-room.gathered.items, i.within, i.taken), i.no_fault)
