-- Reads one after the other, where the bytes are told.
use Rattle.std.proofs.Common.{◌≡◌, ℕ, ◌+◌, ◌≤◌, List, ◌++◌, length, take, drop, sym, ap, ◌∙◌, arith, Option, Some, None, append_assoc, subst}
use Rattle.std.proofs.lemmas.List.{take-append-le, take_all, take_at, drop_all, drop_at, append-nil}
use Rattle.std.specs.Io.KnownBytes.{Consumes, IsAtEnd, Keeps}
use Rattle.commands.specs.Inputs.{TakesInput}

pub then_taken : (a b c : Option (List ℕ)) (bs cs : List ℕ) → Consumes a b bs → Consumes b c cs → Consumes a c (bs ++ cs)
then_taken None b c bs cs p q = tt
then_taken (Some x) None c bs cs p q = absurd p
then_taken (Some x) (Some y) None bs cs p q = absurd q
then_taken (Some x) (Some y) (Some z) bs cs p q = p ∙ ap (λ l. bs ++ l) q ∙ sym (append_assoc bs cs z)

pub then_none_taken : (a b c : Option (List ℕ)) (bs : List ℕ) → Consumes a b bs → Keeps b c → Consumes a c bs
then_none_taken None b c bs p q = tt
then_none_taken (Some x) None c bs p q = absurd p
then_none_taken (Some x) (Some y) None bs p q = absurd q
then_none_taken (Some x) (Some y) (Some z) bs p q = p ∙ ap (λ l. bs ++ l) (sym q)

-- one more read gave its bytes into a part of the room
pub read_more : (a b c : Option (List ℕ)) (gathered room past : List ℕ) (n : ℕ) → n ≤ length room
    → Consumes a b gathered → Consumes b c (take n room) → Consumes a c (gathered ++ take n (room ++ past))
read_more a b c gathered room past n fits p q =
    subst (λ l. Consumes a c (gathered ++ l)) (sym (take-append-le n room past fits)) (then_taken a b c gathered (take n room) p q)

-- one byte past the limit
pub full_is : (limit : ℕ) (old new : Option (List ℕ)) (input : List ℕ) → length input ≡ limit + 1 → Consumes old new input → TakesInput limit old new input
full_is limit None new input full p = tt
full_is limit (Some all) None input full p = absurd p
full_is limit (Some all) (Some rest) input full p =
    (sym (ap (take (limit + 1)) p ∙ take_at input rest (limit + 1) full), ap (λ l. Some l) (sym (ap (drop (limit + 1)) p ∙ drop_at input rest (limit + 1) full)))

-- a source that ended gave all that was left, and that was not past the limit
pub end_is : (limit : ℕ) (old last new : Option (List ℕ)) (input : List ℕ) → length input ≤ limit → Consumes old last input → IsAtEnd last → Keeps last new → TakesInput limit old new input
end_is limit None last new input short p end q = tt
end_is limit (Some all) None new input short p end q = absurd p
end_is limit (Some all) (Some rest) None input short p end q = absurd q
end_is limit (Some all) (Some rest) (Some rest') input short p end q =
    let whole : all ≡ input = p ∙ ap (λ l. input ++ l) end ∙ append-nil input in (
      sym (ap (take (limit + 1)) whole ∙ take_all (limit + 1) input (omega (arith, short))),
      ap (λ l. Some l) (q ∙ end ∙ sym (ap (drop (limit + 1)) whole ∙ drop_all (limit + 1) input (omega (arith, short)))),
    )
