-- Where a hosted slave stands among those that are hosted.
use Rattle.std.proofs.Common.{append_assoc, map, ◌≡◌, ℕ, ◌+◌, ◌-◌, ◌<◌, ◌≤◌, ◌==◌, List, [], ◌∷◌, ◌++◌, length, take, get_or, Bool, true, false, if◌then◌else◌, Some, None, zero, suc, refl, sym, ap, ◌∙◌, arith}
use Rattle.std.proofs.lemmas.List.{map-append, take_more, length-take-le}
use Rattle.std.proofs.lemmas.Bool.Decides.{nat_tests}
use Rattle.std.specs.List.{slice_get}
use Rattle.dcp_types.specs.declared.addresses.Address.{Address}
use Rattle.slave_desc.specs.declared.descriptions.SlaveDesc.{SlaveDesc}
use Rattle.host.specs.declared.hosted.Hosted.{Hosted}
use Rattle.scenario.specs.Lookups.{slave_at}
use Rattle.host.specs.Hosting.{is_hosted, hosted_from, count_from}
use Rattle.host.specs.Seats.{IsSeatPlace}

behind : (b : Bool) (x : SlaveDesc) (l m n : List SlaveDesc) → l ≡ m ++ n → (if b then x ∷ l else l) ≡ (if b then x ∷ m else m) ++ n
behind true x l m n e = ap (λ (r : List SlaveDesc). x ∷ r) e
behind false x l m n e = e

from_append : (h : Hosted) (s : ℕ) (xs ys : List SlaveDesc) → hosted_from h s (xs ++ ys) ≡ hosted_from h s xs ++ hosted_from h (s + length xs) ys
from_append h s [] ys = ap (λ (n : ℕ). hosted_from h n ys) (omega arith)
from_append h s (x ∷ xs) ys =
    behind (is_hosted h s) x (hosted_from h (s + 1) (xs ++ ys)) (hosted_from h (s + 1) xs) (hosted_from h (s + length (x ∷ xs)) ys)
    (from_append h (s + 1) xs ys ∙ ap (λ (n : ℕ). hosted_from h (s + 1) xs ++ hosted_from h n ys) (omega arith))

-- among the slaves after the first, or among all
past : (b : Bool) (x : SlaveDesc) (ds : List SlaveDesc) (k : ℕ) (d : SlaveDesc) → slice_get ds k ≡ Some d → slice_get (if b then x ∷ ds else ds) ((if b then 1 else 0) + k) ≡ Some d
past true x ds k d found = let e : 1 + k ≡ suc k = omega arith in rw e found
past false x ds k d found = let e : 0 + k ≡ k = omega arith in rw e found

first_of : (b : Bool) (x : SlaveDesc) (ds : List SlaveDesc) → b ≡ true → slice_get (if b then x ∷ ds else ds) 0 ≡ Some x
first_of true x ds is = refl
first_of false x ds is = cc

-- its place is the number of those before it
pub place_among : (h : Hosted) (s k : ℕ) (ds : List SlaveDesc) (d : SlaveDesc) → is_hosted h (s + k) ≡ true → slice_get ds k ≡ Some d → slice_get (hosted_from h s ds) (count_from h s k) ≡ Some d
place_among h s zero [] d is found = cc
place_among h s (suc k) [] d is found = cc
place_among h s zero (x ∷ ds) d is found =
    let e : s + 0 ≡ s = omega arith in
    first_of (is_hosted h s) x (hosted_from h (s + 1) ds) (rw e at is) ∙ found
place_among h s (suc k) (x ∷ ds) d is found =
    let e : s + suc k ≡ s + 1 + k = omega arith in
    past (is_hosted h s) x (hosted_from h (s + 1) ds) (count_from h (s + 1) k) d (place_among h (s + 1) k ds d (rw e at is) found)

add_first : (a b c : ℕ) → a + (b + c) ≡ a + b + c
add_first a b c = omega arith

add_comm : (a b : ℕ) → a + b ≡ b + a
add_comm a b = omega arith

abbrev one : Hosted → ℕ → ℕ
one h s = if is_hosted h s then 1 else 0

-- the count so far, and one more
count_suc : (h : Hosted) (s n : ℕ) → count_from h s (suc n) ≡ count_from h s n + one h (s + n)
count_suc h s zero = ap (λ (k : ℕ). one h k + 0) (omega arith) ∙ add_comm (one h (s + 0)) 0
count_suc h s (suc n) =
    ap (λ (k : ℕ). one h s + k) (count_suc h (s + 1) n) ∙ add_first (one h s) (count_from h (s + 1) n) (one h (s + 1 + n))
    ∙ ap (λ (k : ℕ). count_from h s (suc n) + one h k) (omega arith)

pub count_step : (h : Hosted) (o : ℕ) (b : Bool) → 1 ≤ o → b ≡ is_hosted h o → count_from h 1 ((o + 1) - 1) ≡ count_from h 1 (o - 1) + (if b then 1 else 0)
count_step h o b low is =
    let e : (o + 1) - 1 ≡ suc (o - 1) = omega (arith, low) in
    let n : 1 + (o - 1) ≡ o = omega (arith, low) in
    ap (count_from h 1) e ∙ count_suc h 1 (o - 1) ∙ ap (λ (k : ℕ). count_from h 1 (o - 1) + (if is_hosted h k then 1 else 0)) n
    ∙ ap (λ (x : Bool). count_from h 1 (o - 1) + (if x then 1 else 0)) (sym is)

pub at_most_one : (b : Bool) → (if b then 1 else 0) ≤ 1
at_most_one true = omega arith
at_most_one false = omega arith

slave_at_suc : (slaves : List SlaveDesc) (k : ℕ) → slave_at slaves (suc k) ≡ slice_get slaves k
slave_at_suc slaves k =
    let e : (suc k == 0) ≡ false = grind (arith, nat_tests) in
    let m : suc k - 1 ≡ k = omega arith in
    rw (e, m) refl

pub placed : (slaves : List SlaveDesc) (h : Hosted) (s : ℕ) (d : SlaveDesc) → Some d ≡ slave_at slaves s → is_hosted h s ≡ true → IsSeatPlace (if is_hosted h s then slave_at slaves s else None) (hosted_from h 1 slaves) (Some (count_from h 1 (s - 1)))
placed slaves h zero d here is = cc
placed slaves h (suc k) d here is =
    let n : 1 + k ≡ suc k = omega arith in
    let place : slice_get (hosted_from h 1 slaves) (count_from h 1 k) ≡ Some d = place_among h 1 k slaves d (rw n is) (sym (here ∙ slave_at_suc slaves k)) in
    let m : suc k - 1 ≡ k = omega arith in
    rw (is, ← here, m) place

-- the slaves so far, and one more, with its number
pub from_more : (h : Hosted) (ds : List SlaveDesc) (i : ℕ) (d : SlaveDesc) (n : ℕ) (b : Bool) → i < length ds → n ≡ 1 + i → b ≡ is_hosted h n
    → hosted_from h 1 (take (i + 1) ds) ≡ hosted_from h 1 (take i ds) ++ (if b then get_or ds i d ∷ [] else [])
from_more h ds i d n b here number is =
    let count : 1 + length (take i ds) ≡ n = omega (arith, length-take-le i ds (omega (arith, here)), number) in
    ap (hosted_from h 1) (take_more ds i d here) ∙ from_append h 1 (take i ds) (get_or ds i d ∷ [])
    ∙ ap (λ (k : ℕ). hosted_from h 1 (take i ds) ++ (if is_hosted h k then get_or ds i d ∷ [] else [])) count
    ∙ ap (λ (x : Bool). hosted_from h 1 (take i ds) ++ (if x then get_or ds i d ∷ [] else [])) (sym is)

address_if : (b : Bool) (d : SlaveDesc) → (if b then d.address ∷ [] else []) ≡ map (λ (x : SlaveDesc). x.address) (if b then d ∷ [] else [])
address_if true d = refl
address_if false d = refl

-- the addresses so far, and one more
pub places_step : (first old new : List Address) (h : Hosted) (ds : List SlaveDesc) (i : ℕ) (d : SlaveDesc) (n : ℕ) (b : Bool) → i < length ds → n ≡ 1 + i → b ≡ is_hosted h n → d ≡ get_or ds i d
    → old ≡ first ++ map (λ (x : SlaveDesc). x.address) (hosted_from h 1 (take i ds)) → new ≡ old ++ (if b then d.address ∷ [] else [])
    → new ≡ first ++ map (λ (x : SlaveDesc). x.address) (hosted_from h 1 (take (i + 1) ds))
places_step first old new h ds i d n b here number is item so_far added =
    let address : SlaveDesc → Address = λ x. x.address in
    let l : List SlaveDesc = hosted_from h 1 (take i ds) in
    added ∙ ap (λ (xs : List Address). xs ++ (if b then d.address ∷ [] else [])) so_far
    ∙ append_assoc first (map address l) (if b then d.address ∷ [] else [])
    ∙ ap (λ (xs : List Address). first ++ (map address l ++ xs)) (address_if b d ∙ ap (λ (x : SlaveDesc). map address (if b then x ∷ [] else [])) item)
    ∙ ap (λ (xs : List Address). first ++ xs) (sym (map-append address l (if b then get_or ds i d ∷ [] else [])))
    ∙ ap (λ (xs : List SlaveDesc). first ++ map address xs) (sym (from_more h ds i d n b here number is))
