use Rattle.std.proofs.Common.{◌≡◌, ◌+◌, ◌<◌, length, ap, sym, ◌∙◌, arith, Some}
use Rattle.std.proofs.lemmas.Option.{slice_get_within}
use Rattle.dcp_record.specs.Places.{LogPlace}
use Rattle.replays.proofs.Passing.{has_all, has_more, has_no_more, has_other}
use Rattle.replays.proofs.sends.past_sends.Goals as goal

pub returns-in_default-next-clause-passes : goal.returns-in_default-next-clause-passes
returns-in_default-next-clause-passes g c =
    let i = c.sends.invariant in
    has_no_more _ _ _ _ c.sends.cursor.at c.sends.count (omega arith) i.within i.there _ c.in-Some.ensures.value (omega (arith, c.in_default-next.ensures.end, ap length i.entries))

pub returns-then-not-is_sent-clause-passes : goal.returns-then-not-is_sent-clause-passes
returns-then-not-is_sent-clause-passes g c =
    let i = c.sends.invariant in
    let here = rw i.entries at c.in-Some-next.ensures.here in
    let other = rw (c.if-not-is_sent.true, c.address-place.ensures) at c.is_sent.ensures in
    let place : c.sends.cursor.at ≡ c.at-start.result + c.sends.count = omega (arith, c.at-start.ensures.at) in
    rw place at (has_other _ _ _ _ c.sends.cursor.at c.sends.count (omega arith) i.within i.there _ _ c.in-Some.ensures.value here other)

pub sends-smaller : goal.sends-smaller
sends-smaller g c =
    let here : c.sends.count < length (g.E.End.outs c.args.end.now) = slice_get_within _ _ _ (sym c.in-Some.ensures.value) in
    omega arith

pub sends-preserved : goal.sends-preserved
sends-preserved g c =
    let i = c.sends.invariant in
    let count : c.sends.count < length (g.E.End.outs c.args.end.now) = slice_get_within _ _ _ (sym c.in-Some.ensures.value) in
    let here = rw i.entries at c.in-Some-next.ensures.here in
    let within : c.sends.cursor.at < length c.args.cursor.now.entries = slice_get_within _ _ _ here in
    let same = rw (c.if-not-is_sent.false, c.address-place.ensures) at c.is_sent.ensures in
    rw c.in-Some-next.ensures.behind
    (record {
      in_range = omega arith;
      entries = i.entries;
      place = omega arith;
      within = omega (arith, within);
      there = has_more _ _ _ _ c.sends.cursor.at c.sends.count (omega arith) i.within i.there _ c.in-Some.ensures.value (here ∙ ap Some same);
    })

pub returns : goal.returns
returns g c =
    let i = c.sends.invariant in
    record { passes = has_all _ _ _ _ _ c.sends.count (omega arith) i.within i.there c.in_default.ensures.value; entries = i.entries }
