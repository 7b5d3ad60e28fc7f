-- Writes one after the other, where the bytes are told.
use Rattle.std.proofs.Common.{◌≡◌, ℕ, ◌+◌, List, [], ◌++◌, take, drop, sym, ap, ◌∙◌, arith, Option, Some, None, append_assoc, subst, take-append-drop}
use Rattle.std.proofs.lemmas.List.{take-take, drop-take, append-nil}
use Rattle.std.specs.Io.KnownBytes.{Appends, Keeps}

pub take-add : (a b : ℕ) (xs : List ℕ) → take a xs ++ take b (drop a xs) ≡ take (a + b) xs
take-add a b xs =
    ap (λ l. l ++ take b (drop a xs)) (sym (take-take a (a + b) xs (omega arith)))
    ∙ ap (λ l. take a (take (a + b) xs) ++ l) (sym (drop-take a b xs))
    ∙ take-append-drop a (take (a + b) xs)

pub nothing_added : (a : Option (List ℕ)) → Appends a a []
nothing_added None = tt
nothing_added (Some x) = sym (append-nil x)

pub then_added : (a b c : Option (List ℕ)) (bs cs : List ℕ) → Appends a b bs → Appends b c cs → Appends a c (bs ++ cs)
then_added None b c bs cs p q = tt
then_added (Some x) None c bs cs p q = absurd p
then_added (Some x) (Some y) None bs cs p q = absurd q
then_added (Some x) (Some y) (Some z) bs cs p q = q ∙ ap (λ l. l ++ cs) p ∙ append_assoc x bs cs

pub then_none_added : (a b c : Option (List ℕ)) (bs : List ℕ) → Appends a b bs → Keeps b c → Appends a c bs
then_none_added None b c bs p q = tt
then_none_added (Some x) None c bs p q = absurd p
then_none_added (Some x) (Some y) None bs p q = absurd q
then_none_added (Some x) (Some y) (Some z) bs p q = q ∙ p

-- one more write took the front of a piece
pub wrote_more : (a b c : Option (List ℕ)) (text piece : List ℕ) (at n : ℕ) → piece ≡ drop at text
    → Appends a b (take at text) → Appends b c (take n piece) → Appends a c (take (at + n) text)
wrote_more a b c text piece at n same p q =
    let both = then_added a b c (take at text) (take n piece) p q in
    subst (Appends a c) (ap (λ l. take at text ++ take n l) same ∙ take-add at n text) both
