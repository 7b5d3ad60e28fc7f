use Rattle.std.proofs.Common.{ap, sym, ◌∙◌, ◌++◌, ◌∷◌, [], List, length, arith}
use Rattle.std.proofs.lemmas.List.{length-append}
use Rattle.std.proofs.lemmas.List.Elements.{All-push, All-same}
use Rattle.dcp_ends.specs.declared.entries.LogEntry.{LogEntry}
use Rattle.dcp_record.specs.Traces.{all_entry_bytes, IsRecordable}
use Rattle.dcp_record.specs.EntryRefs.{entry_told}
use Rattle.dcp_record.proofs.Fronts.{entries_more}
use Rattle.dcp_record.proofs.Next.{entry_some}
use Rattle.dcp_record.proofs.logs.cut_entries.Goals as goal

pub entries-preserved : goal.entries-preserved
entries-preserved c =
    let h = c.in-Some.ensures in
    let is = c.then-told.ensures in
    let entry = entry_told c.in-Ok.entry in
    let old = c.entries.told.entries in
    let shorter = entry_some entry c.in-Ok.next.now in
    record {
      recordable = All-same IsRecordable c.then-told.result.entries _ is (All-push IsRecordable old entry c.entries.invariant.recordable c.in-Ok.ensures.ok.recordable);
      parts = entries_more c.args.bytes.now old c.entries.rest.now c.in-Some.tag.now c.in-Some.after.now entry c.in-Ok.next.now c.entries.invariant.parts h.cases.0 c.in-Ok.ensures.ok.parts
          ∙ ap (λ (es : List LogEntry). all_entry_bytes es ++ c.in-Ok.next.now) (sym is);
      counted = omega (arith, c.entries.invariant.counted, ap length is, length-append old (entry ∷ []));
      few = omega (arith, c.entries.invariant.few, ap length h.cases.0, ap length c.in-Ok.ensures.ok.parts, shorter);
    }
