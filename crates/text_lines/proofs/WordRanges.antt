-- The ranges of what words read as.
use Rattle.std.proofs.Common.{◌≡◌, ℕ, ◌+◌, ◌*◌, ◌<◌, ◌≤◌, ◌^◌, Bool, true, false, ◌&&◌, cond, eqb, leb, List, [], ◌∷◌, Option, Some, None, Ok, Err, refl, subst, arith}
use Rattle.std.specs.List.{slice_split}
use Rattle.std.specs.Option.{option_and_then}
use Rattle.std.proofs.lemmas.Bool.Decides.{nat_tests}
use Rattle.dcp_types.specs.declared.addresses.Address.{Address}
use Rattle.text_lines.specs.Causes.{or_why}
use Rattle.text_lines.specs.Numbers.{decimal_number, number_from}
use Rattle.text_lines.specs.Addresses.{ip_part, ip_of_parts, ip, address}
use Rattle.text_lines.specs.Counts.{two_words}
use Rattle.text_lines.proofs.PlainWords.{and_both}
use Rattle.text_lines.proofs.Results.{bind_ok, some_ok, moved, chosen_ok}
use Rattle.text_lines.specs.declared.reasons.TextWhy.TheVariants as why

pub number_fits : (low high : ℕ) (w : List ℕ) (n : ℕ) → number_from low high w ≡ Ok n → (low ≤ n) × (n ≤ high)
number_fits low high w n e =
    let t = bind_ok (or_why (decimal_number w) why.BadNumber) (λ n. cond (leb low n && leb n high) (Ok n) (Err why.Limit)) n e in
    let c = chosen_ok (leb low t.0 && leb t.0 high) t.0 n why.Limit t.2 in
    let b = and_both (leb low t.0) (leb t.0 high) c.0 in
    subst (λ (n : ℕ). (low ≤ n) × (n ≤ high)) c.1 (grind (arith, nat_tests), grind (arith, nat_tests))

abbrev pub FitsAddress : Address → Type 0
FitsAddress a = (a.ip < 2 ^ 32) × (1 ≤ a.port) × (a.port < 2 ^ 16)

part_fits : (w : List ℕ) (n : ℕ) → ip_part w ≡ Some n → n ≤ 255
part_fits w n e = by (decimal_number w) e
  where
    picked : (b : Bool) (x : ℕ) → (b ≡ true → x ≤ 255) → cond b (Some x) None ≡ Some n → n ≤ 255
    picked true x h e = let same : x ≡ n = cc in subst (λ (x : ℕ). x ≤ 255) same (h refl)
    picked false x h e = cc

    small : (x : ℕ) → leb x 255 ≡ true → x ≤ 255
    small x h = grind (arith, nat_tests)

    by : (o : Option ℕ) → option_and_then (λ n. cond (leb n 255) (Some n) None) o ≡ Some n → n ≤ 255
    by None e = cc
    by (Some x) e = picked (leb x 255) x (small x) e

parts_fit : (ws : List (List ℕ)) (n : ℕ) → ip_of_parts ws ≡ Ok n → n < 2 ^ 32
parts_fit (a ∷ b ∷ c ∷ d ∷ []) n e =
    let x = bind_ok (or_why (ip_part a) why.BadNumber) _ n e in
    let y = bind_ok (or_why (ip_part b) why.BadNumber) _ n x.2 in
    let z = bind_ok (or_why (ip_part c) why.BadNumber) _ n y.2 in
    let u = bind_ok (or_why (ip_part d) why.BadNumber) _ n z.2 in
    let hx = part_fits a x.0 (some_ok (ip_part a) why.BadNumber x.0 x.1) in
    let hy = part_fits b y.0 (some_ok (ip_part b) why.BadNumber y.0 y.1) in
    let hz = part_fits c z.0 (some_ok (ip_part c) why.BadNumber z.0 z.1) in
    let hu = part_fits d u.0 (some_ok (ip_part d) why.BadNumber u.0 u.1) in
    moved (λ (n : ℕ). n < 2 ^ 32) (((x.0 * 256 + y.0) * 256 + z.0) * 256 + u.0) n u.2 (omega (arith, hx, hy, hz, hu))
parts_fit [] n e = cc
parts_fit (a ∷ []) n e = cc
parts_fit (a ∷ b ∷ []) n e = cc
parts_fit (a ∷ b ∷ c ∷ []) n e = cc
parts_fit (a ∷ b ∷ c ∷ d ∷ f ∷ more) n e = cc

pub address_fits : (args : List (List ℕ)) (a : Address) → address args ≡ Ok a → FitsAddress a
address_fits args a e =
    let w = bind_ok (two_words args) _ a e in
    let i = bind_ok (ip w.0.0) _ a w.2 in
    let p = bind_ok (number_from 1 65535 w.0.1) _ a i.2 in
    let small = number_fits 1 65535 w.0.1 p.0 p.1 in
    moved FitsAddress (record { ip = i.0; port = p.0 }) a p.2 (parts_fit (slice_split (λ b. eqb b 46) w.0.0) i.0 i.1, small.0, omega (arith, small.1))
