-- The entry that stands first in bytes, and what is left behind it.
use Rattle.std.proofs.Common.{◌≡◌, ℕ, zero, suc, ◌+◌, ◌<◌, List, [], ◌∷◌, ◌++◌, length, drop, Some, Bool, inl, inr, refl, sym, ap, subst, ◌∙◌, arith}
use Rattle.std.specs.List.{slice_get}
use Rattle.std.specs.Bool.{MatchBool, ◌==◌}
use Rattle.std.proofs.lemmas.List.{length-append, length-drop}
use Rattle.std.proofs.lemmas.Bool.Decides.{eqb_tells}
use Rattle.std.proofs.lemmas.List.Elements.{All-head, All-tail}
use Rattle.dcp_ends.specs.declared.entries.LogEntry.{LogEntry}
use Rattle.dcp_ends.specs.declared.entries.LogEntry.TheVariants.{Sent, Got, Idle, Turn}
use Rattle.dcp_record.specs.declared.faults.TraceWhy.{TraceWhy}
use Rattle.dcp_record.specs.Traces.{log_entry_bytes, all_entry_bytes, IsRecordable}
use Rattle.dcp_record.specs.Refusals.{EntryRefused}
use Rattle.dcp_record.specs.Cuts.{IsFirstEntry, AreEntries}
use Rattle.dcp_record.specs.Places.{IsLeftFrom}
use Rattle.dcp_record.proofs.OneTrace.{same_entry, no_entry_in_none, refused_has_none}

pub entry_some : (e : LogEntry) (rest : List ℕ) → length rest < length (log_entry_bytes e ++ rest)
entry_some (Sent a b p) rest = omega (arith, length-append p rest)
entry_some (Got a b p) rest = omega (arith, length-append p rest)
entry_some (Idle a) rest = omega arith
entry_some (Turn a) rest = omega arith

-- no bytes are no entries
none_left : (es : List LogEntry) (b : List ℕ) → AreEntries b es → length b ≡ 0 → length es ≡ 0
none_left [] b k none = refl
none_left (e ∷ es) b k none = absurd (omega (arith, none, ap length k.parts, entry_some e (all_entry_bytes es)))

pub all_behind : (entries : List LogEntry) (at : ℕ) (b : List ℕ) → IsLeftFrom b entries at → length b ≡ 0 → at ≡ length entries
all_behind entries at b k none = omega (arith, k.within, none_left (drop at entries) b k.left none, length-drop at entries)

some_left : (es : List LogEntry) (b : List ℕ) → AreEntries b es → 0 < length b → 0 < length es
some_left [] b k some = absurd (omega (arith, some, ap length k.parts))
some_left (e ∷ es) b k some = omega arith

some_ahead : (entries : List LogEntry) (at : ℕ) (b : List ℕ) → IsLeftFrom b entries at → 0 < length b → at < length entries
some_ahead entries at b k some = omega (arith, k.within, some_left (drop at entries) b k.left some, length-drop at entries)

pub at_end : (entries : List LogEntry) (at : ℕ) (b : List ℕ) (empty : Bool) → IsLeftFrom b entries at → empty ≡ (length b == 0) → MatchBool empty (at ≡ length entries) (at < length entries)
at_end entries at b empty k is =
    elim (eqb_tells (length b) 0) [
      | inl e ↦ rw (is, e.0) (all_behind entries at b k e.1)
      | inr e ↦ rw (is, e.0) (some_ahead entries at b k (omega (arith, e.1)))
    ]

-- the same bytes
same_bytes : (es : List LogEntry) (b c : List ℕ) → AreEntries b es → b ≡ c → AreEntries c es
same_bytes es b c k e = record { recordable = k.recordable; parts = sym e ∙ k.parts }

-- entries are not refused
none_refused : (es : List LogEntry) (b : List ℕ) (why : TraceWhy) → AreEntries b es → 0 < length b → EntryRefused b why → ⊥
none_refused [] b why k some refused = absurd (omega (arith, some, ap length k.parts))
none_refused (e ∷ es) b why k some refused = refused_has_none b why refused e (all_entry_bytes es) (All-head IsRecordable e es k.recordable) k.parts

pub not_refused : (entries : List LogEntry) (at : ℕ) (b : List ℕ) (tag : ℕ) (after : List ℕ) (why : TraceWhy) → IsLeftFrom b entries at → b ≡ tag ∷ after → EntryRefused (tag ∷ after) why → ⊥
not_refused entries at b tag after why k e refused = none_refused (drop at entries) (tag ∷ after) why (same_bytes _ b _ k.left e) (omega arith) refused

-- the entry that was read at a place, and the entries behind it
pub record IsNext (entries : List LogEntry) (at : ℕ) (entry : LogEntry) (next : List ℕ) : Type 0 where
  pub within : at < length entries
  pub here : slice_get entries at ≡ Some entry
  pub left : AreEntries next (drop (at + 1) entries)

is_next : (entries : List LogEntry) (at : ℕ) (b : List ℕ) (entry : LogEntry) (next : List ℕ) → AreEntries b (drop at entries) → IsFirstEntry b entry next → IsNext entries at entry next
is_next [] zero b entry next k h = absurd (no_entry_in_none entry next h.recordable (sym k.parts ∙ h.parts))
is_next [] (suc at) b entry next k h = absurd (no_entry_in_none entry next h.recordable (sym k.parts ∙ h.parts))
is_next (e ∷ es) zero b entry next k h =
    let p = same_entry e entry (all_entry_bytes es) next (All-head IsRecordable e es k.recordable) h.recordable (sym k.parts ∙ h.parts) in
    record { within = omega arith; here = ap Some p.0; left = record { recordable = All-tail IsRecordable e es k.recordable; parts = sym p.1 } }
is_next (e ∷ es) (suc at) b entry next k h =
    let p = is_next es at b entry next k h in
    let Left : ℕ → Type 0 = λ n. AreEntries next (drop n (e ∷ es)) in
    let step : suc (at + 1) ≡ suc at + 1 = omega arith in
    record { within = omega (arith, p.within); here = p.here; left = subst Left step p.left }

module _ (entries : List LogEntry) (at : ℕ) (b : List ℕ) (tag : ℕ) (after : List ℕ) (entry : LogEntry) (next : List ℕ) (k : IsLeftFrom b entries at) (e : b ≡ tag ∷ after) (first : IsFirstEntry (tag ∷ after) entry next) where
  pub found : slice_get entries at ≡ Some entry
  found = (is_next entries at (tag ∷ after) entry next (same_bytes _ b _ k.left e) first).here

  pub goes_on : IsLeftFrom next entries (at + 1)
  goes_on = let n = is_next entries at (tag ∷ after) entry next (same_bytes _ b _ k.left e) first in record { within = omega (arith, n.within); few = k.few; left = n.left }
