-- One piece after another.
use Rattle.std.proofs.Common.{◌≡◌, ℕ, ◌+◌, ◌-◌, ◌≤◌, List, [], ◌∷◌, ◌++◌, take, drop, Option, refl, sym, ap, subst, ◌∙◌, append_assoc, arith}
use Rattle.std.proofs.lemmas.List.{append-nil}
use Rattle.dcp_io.specs.Spools.{Spooled}
use Rattle.dcp_io.proofs.Pieces.{take-add}
use Rattle.dcp_io.specs.Unwritten.{Unwritten}
use Rattle.dcp_ends.specs.declared.entries.LogEntry.{LogEntry}
use Rattle.dcp_record.specs.Puts.{Puts}
use Rattle.dcp_record.specs.Traces.{all_entry_bytes, log_entry_bytes}

pub Puts-nothing : (w : Option (List ℕ)) (f : ℕ) (s : Unwritten) → Puts w w f f s s []
Puts-nothing w f s = λ first none text h. let P : List ℕ → Type 0 = λ t. Spooled first w none f t s in subst P (sym (append-nil text)) h

module _ (w0 w1 w2 : Option (List ℕ)) (f0 f1 f2 : ℕ) (s0 s1 s2 : Unwritten) (p q : List ℕ) where
  pub Puts-then : Puts w0 w1 f0 f1 s0 s1 p → Puts w1 w2 f1 f2 s1 s2 q → Puts w0 w2 f0 f2 s0 s2 (p ++ q)
  Puts-then a b = λ first none text h. let P : List ℕ → Type 0 = λ t. Spooled first w2 none f2 t s2 in subst P (append_assoc text p q) (b first none (text ++ p) (a first none text h))

pub all_entry_bytes-append : (xs ys : List LogEntry) → all_entry_bytes (xs ++ ys) ≡ all_entry_bytes xs ++ all_entry_bytes ys
all_entry_bytes-append [] ys = refl
all_entry_bytes-append (x ∷ xs) ys = ap (λ (bs : List ℕ). log_entry_bytes x ++ bs) (all_entry_bytes-append xs ys) ∙ sym (append_assoc (log_entry_bytes x) (all_entry_bytes xs) (all_entry_bytes ys))

pub piece_more : (text : List ℕ) (at end : ℕ) → at ≤ end → take at text ++ take (end - at) (drop at text) ≡ take end text
piece_more text at end le = let whole : at + (end - at) ≡ end = omega arith in take-add at (end - at) text ∙ ap (λ (n : ℕ). take n text) whole
