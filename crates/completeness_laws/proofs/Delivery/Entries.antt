-- Entries at places of a log, and logs that end with others.
use Rattle.std.proofs.Common.{◌≡◌, ℕ, zero, suc, ◌<◌, ◌≤◌, ◌⊎◌, inl, inr, Some, List, [], ◌∷◌, ◌++◌, length, sym, ap, ◌∙◌, arith, length-append}
use Rattle.std.specs.Prelude.{slice_get}
use Rattle.std.proofs.lemmas.Bool.{cases_lt}
use Rattle.dcp_ends.specs.declared.entries.LogEntry.{LogEntry}
use Rattle.master_spec.specs.Exchanged.{entry_at}
use Rattle.master_log_laws.proofs.Index.Dates.{entry_now, entry_later}

-- an entry of a log stands at the place of which there are so many before it
pub entry_there : (part base : List LogEntry) (e : LogEntry) → entry_at (part ++ e ∷ base) (length base) ≡ Some e
entry_there [] base e = entry_now e base
entry_there (c ∷ part) base e =
    let n = length-append part (e ∷ base) in
    entry_later c (part ++ e ∷ base) (length base) (omega (arith, n)) ∙ entry_there part base e

-- the log has this entry at this place
pub record SplitAt (log : List LogEntry) (j : ℕ) (e : LogEntry) : Type 0 where
  pub part : List LogEntry
  pub base : List LogEntry
  pub is : log ≡ part ++ e ∷ base
  pub place : length base ≡ j

pub some_same : {A : Type 0} {x y : A} → Some x ≡ Some y → x ≡ y
some_same z = cc

never_there : (i : ℕ) (e : LogEntry) → entry_at [] i ≡ Some e → ⊥
never_there i e h = by i h
  where
    by : (i : ℕ) → slice_get [] i ≡ Some e → ⊥
    by zero z = cc
    by (suc i) z = cc

pub within : (log : List LogEntry) (j : ℕ) (e : LogEntry) → j < length log → entry_at log j ≡ Some e → SplitAt log j e
within [] j e lt h = absurd (omega (arith, lt))
within (c ∷ log) j e lt h = by (cases_lt j (length log)) (λ z. within log j e z)
  where
    by : (j < length log) ⊎ (length log ≤ j) → (j < length log → entry_at log j ≡ Some e → SplitAt log j e) → SplitAt (c ∷ log) j e
    by (inl l) f = let k = f l (sym (entry_later c log j l) ∙ h) in record { part = c ∷ k.part; base = k.base; is = ap (λ (z : List LogEntry). c ∷ z) k.is; place = k.place }
    by (inr g) f =
        let same : length log ≡ j = omega (arith, lt, g) in
        let q : c ≡ e = some_same (sym (entry_now c log) ∙ ap (entry_at (c ∷ log)) same ∙ h) in
        record { part = []; base = log; is = ap (λ (z : LogEntry). z ∷ log) q; place = same }

-- of two ends of a list the longer one ends with the other
pub record EndsWith (xs ys : List LogEntry) : Type 0 where
  pub front : List LogEntry
  pub is : xs ≡ front ++ ys

pub ends_with : (u xs v ys : List LogEntry) → u ++ xs ≡ v ++ ys → length ys ≤ length xs → EndsWith xs ys
ends_with [] xs v ys e h = record { front = v; is = e }
ends_with (c ∷ u) xs [] ys e h = let a = ap length e in let n = length-append u xs in absurd (omega (arith, a, n, h))
ends_with (c ∷ u) xs (d ∷ v) ys e h = ends_with u xs v ys (tail_same e) h
  where
    tail_same : {y z : LogEntry} {us vs : List LogEntry} → y ∷ us ≡ z ∷ vs → us ≡ vs
    tail_same q = cc
