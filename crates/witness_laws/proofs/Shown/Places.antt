-- Where the entries of a log stand that pass a test.
use Rattle.std.proofs.Common.{◌≡◌, ℕ, zero, suc, ◌+◌, ◌⊎◌, inl, inr, Bool, true, false, if◌then◌else◌, Some, List, [], ◌∷◌, slice_get, ap, ◌∙◌, subst, arith, reverse}
use Rattle.dcp_ends.specs.declared.entries.LogEntry.{LogEntry}
use Rattle.master_spec.specs.Requests.{brings_outputs}
use Rattle.master_spec.specs.Course.{payload_size}
use Rattle.master_spec.specs.Exchanged.{Brings}
use Rattle.master_spec.specs.declared.setups.Slave.{Slave}
use Rattle.master_spec.specs.declared.setups.Setup.{Setup}

abbrev pub places : (LogEntry → Bool) → ℕ → List LogEntry → List ℕ
places f n [] = []
places f n (x ∷ xs) = if f x then n ∷ places f (n + 1) xs else places f (n + 1) xs

abbrev pub IsAmong : List ℕ → ℕ → Type 0
IsAmong [] i = ⊥
IsAmong (p ∷ ps) i = (p ≡ i) ⊎ IsAmong ps i

more : (b : Bool) (n : ℕ) (ps : List ℕ) (i : ℕ) → IsAmong ps i → IsAmong (if b then n ∷ ps else ps) i
more true n ps i h = inr h
more false n ps i h = h

head : (b : Bool) (n : ℕ) (ps : List ℕ) (i : ℕ) → b ≡ true → n ≡ i → IsAmong (if b then n ∷ ps else ps) i
head true n ps i h e = inl e
head false n ps i h e = absurd cc

found : (f : LogEntry → Bool) (xs : List LogEntry) (n i : ℕ) (e : LogEntry) → slice_get xs i ≡ Some e → f e ≡ true → IsAmong (places f n xs) (n + i)
found f [] n i e g t = absurd cc
found f (x ∷ xs) n zero e g t = let same : x ≡ e = cc in head (f x) n (places f (n + 1) xs) (n + zero) (ap f same ∙ t) (omega arith)
found f (x ∷ xs) n (suc i) e g t =
    let there : IsAmong (places f (n + 1) xs) (n + suc i) = subst (IsAmong (places f (n + 1) xs)) (omega arith) (found f xs (n + 1) i e g t) in
    more (f x) n (places f (n + 1) xs) (n + suc i) there

-- the outputs of a slave stand at these places
pub brought_at : (setup : Setup) (log : List LogEntry) (slave : Slave) (number i : ℕ)
    → Brings setup log slave number i → IsAmong (places (brings_outputs setup.address slave number (payload_size slave.types)) 0 (reverse log)) i
brought_at setup log slave number i h =
    let f = brings_outputs setup.address slave number (payload_size slave.types) in
    subst (IsAmong (places f 0 (reverse log))) (omega arith) (found f (reverse log) 0 i h.0 h.1 h.2)
