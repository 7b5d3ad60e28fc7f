-- A log with one entry more.
use Rattle.std.proofs.Common.{◌≡◌, ℕ, ◌+◌, ◌≤◌, List, [], ◌∷◌, ◌++◌, length, refl, sym, ap, ◌∙◌, arith}
use Rattle.std.proofs.lemmas.List.{append-nil}
use Rattle.std.proofs.lemmas.List.Elements.{All-push, All-same}
use Rattle.dcp_ends.specs.declared.entries.LogEntry.{LogEntry}
use Rattle.dcp_record.specs.Traces.{IsRecordable, log_entry_bytes, all_entry_bytes}
use Rattle.dcp_ends.specs.declared.entries.LogEntry.TheVariants.{Sent, Got, Idle, Turn}
use Rattle.dcp_record.specs.Cuts.{AreEntries}
use Rattle.dcp_record.specs.Places.{IsCountedLog, gots_in}
use Rattle.dcp_record.proofs.Joined.{all_entry_bytes-append}
use Rattle.dcp_record.proofs.Next.{entry_some}

pub grown : (old new : List ℕ) (es fs : List LogEntry) (e : LogEntry) → AreEntries old es → IsRecordable e → new ≡ old ++ log_entry_bytes e → fs ≡ es ++ e ∷ [] → AreEntries new fs
grown old new es fs e k fits bytes is = record {
  recordable = All-same IsRecordable fs _ is (All-push IsRecordable es e k.recordable fits);
  parts = bytes ∙ ap (λ (b : List ℕ). b ++ log_entry_bytes e) k.parts
      ∙ sym (ap all_entry_bytes is ∙ all_entry_bytes-append es (e ∷ []) ∙ ap (λ (b : List ℕ). all_entry_bytes es ++ b) (append-nil (log_entry_bytes e)));
}

gots-append : (es fs : List LogEntry) → gots_in (es ++ fs) ≡ gots_in es + gots_in fs
gots-append [] fs = omega arith
gots-append (Sent from to bytes ∷ es) fs = gots-append es fs
gots-append (Got at from bytes ∷ es) fs = ap (λ (n : ℕ). 1 + n) (gots-append es fs) ∙ omega arith
gots-append (Idle at ∷ es) fs = gots-append es fs
gots-append (Turn at ∷ es) fs = gots-append es fs

-- a log with an entry more, and its count
pub longer : (old new : List ℕ) (before now : ℕ) (es fs : List LogEntry) (e : LogEntry) → IsCountedLog old before es → IsRecordable e → now ≡ before + gots_in (e ∷ []) → new ≡ old ++ log_entry_bytes e → fs ≡ es ++ e ∷ [] → IsCountedLog new now fs
longer old new before now es fs e k fits counted bytes is = record {
  all = grown old new es fs e k.all fits bytes is;
  counted = counted ∙ ap (λ (n : ℕ). n + gots_in (e ∷ [])) k.counted ∙ sym (ap gots_in is ∙ gots-append es (e ∷ []));
}

few_gots : (es : List LogEntry) → gots_in es ≤ length es
few_gots [] = omega arith
few_gots (Sent from to bytes ∷ es) = omega (arith, few_gots es)
few_gots (Got at from bytes ∷ es) = omega (arith, few_gots es)
few_gots (Idle at ∷ es) = omega (arith, few_gots es)
few_gots (Turn at ∷ es) = omega (arith, few_gots es)

-- there are at least as many bytes as entries
at_most_bytes : (es : List LogEntry) → length es ≤ length (all_entry_bytes es)
at_most_bytes [] = omega arith
at_most_bytes (e ∷ es) = omega (arith, at_most_bytes es, entry_some e (all_entry_bytes es))

pub at_most : (b : List ℕ) (es : List LogEntry) → AreEntries b es → length es ≤ length b
at_most b es k = omega (arith, ap length k.parts, at_most_bytes es)

-- and as datagrams that were got
pub gots_at_most : (b : List ℕ) (gots : ℕ) (es : List LogEntry) → IsCountedLog b gots es → gots ≤ length b
gots_at_most b gots es k = omega (arith, k.counted, few_gots es, at_most b es k.all)
