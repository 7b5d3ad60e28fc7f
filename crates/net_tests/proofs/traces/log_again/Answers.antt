use Rattle.std.proofs.Common.{◌≡◌, ◌+◌, ◌<◌, ◌++◌, ◌∷◌, [], length, take, get_or, ap, subst, sym, ◌∙◌, arith}
use Rattle.std.proofs.lemmas.List.{take_more}
use Rattle.std.proofs.lemmas.List.Elements.{All-get_or}
use Rattle.std.proofs.lemmas.Option.{get_or_from_slice_get, slice_get_within}
use Rattle.dcp_ends.specs.declared.entries.LogEntry.{LogEntry}
use Rattle.dcp_record.specs.EntryRefs.{entry_told}
use Rattle.dcp_record.specs.Traces.{IsRecordable}
use Rattle.net_tests.proofs.traces.log_again.Goals as goal

pub entries-preserved : goal.entries-preserved
entries-preserved c =
    let i = c.entries.invariant in
    let all = c.args.entries.now in
    let at = c.entries.cursor.at in
    let entry = entry_told c.in-Some.entry in
    let here = rw i.same at c.in-Some.ensures.here in
    let within : at < length all = slice_get_within all at entry here in
    let more : take (at + 1) all ≡ take at all ++ entry ∷ [] = take_more all at entry within ∙ ap (λ (e : LogEntry). take at all ++ e ∷ []) (get_or_from_slice_get all at entry entry here) in
    rw c.in-Some.ensures.behind
    (record {
      within = omega (arith, within);
      same = i.same;
      copied = c.in_ok-put.ensures ∙ (λ k. i.copied k ++ entry ∷ []) ∙ sym more;
    })

pub put-requires : goal.put-requires
put-requires c =
    let i = c.entries.invariant in
    let at = c.entries.cursor.at in
    let entry = entry_told c.in-Some.entry in
    let here = rw i.same at c.in-Some.ensures.here in
    let within : at < length c.args.entries.now = slice_get_within c.args.entries.now at entry here in
    let is : get_or c.args.entries.now at entry ≡ entry = get_or_from_slice_get c.args.entries.now at entry entry here in
    (subst IsRecordable is (All-get_or IsRecordable c.args.entries.now at entry within c.requires)).in_range
