-- The ids of a wiring ascend, and an id is among them exactly where it has entries.
use Rattle.std.proofs.Common.{◌≡◌, ℕ, true, false, List, [], ◌∷◌, length, map, refl, ◌∙◌, arith, Option, Some, None}
use Rattle.std.specs.Prelude.{◌==◌, nat_lt, option_map}
use Rattle.std.specs.List.{filter_map, cons_option}
use Rattle.std.proofs.lemmas.Bool.Decides.{nat_tests}
use Rattle.slave_spec.specs.Changes.{Change, Set, Restart, entry_interval, interval_given, base, set_or, Entry, Side, vr_for, entries, has_id, ids, ascending}
use Rattle.slave_device.specs.Wires.Ids.{IsThere, IsPlaceFor}
use Rattle.slave_device.proofs.Wires.Ascending.{by_test, Ascends, ascending_ascends, is_among, among_put, map_among, among_there, not_among}

pub ids_ascend : (side : Side) (changes : List Change) → Ascends (ids side changes)
ids_ascend side changes = ascending_ascends (filter_map (λ change. option_map (λ e. e.id) (side change)) changes)

more : (id : ℕ) (e : Option Entry) (vrs all : List ℕ) → nat_lt 0 (length vrs) ≡ is_among id (ascending all)
    → nat_lt 0 (length (cons_option (vr_for id e) vrs)) ≡ is_among id (ascending (cons_option (option_map (λ e. e.id) e) all))
more id None vrs all h = h
more id (Some e) vrs all h =
    by_test (e.id == id)
    (λ t. rw (among_put id e.id (ascending all), t) (grind (arith, nat_tests)))
    (λ t. rw (among_put id e.id (ascending all), t) h)

pub has_among : (side : Side) (id : ℕ) (changes : List Change) → has_id side id changes ≡ is_among id (ids side changes)
has_among side id [] = refl
has_among side id (change ∷ changes) =
    more id (side change) (entries side id changes) (filter_map (λ change. option_map (λ e. e.id) (side change)) changes) (has_among side id changes)

-- what is the same for each id that has entries
pub map_known : {R : Type 0} (side : Side) (changes : List Change) (f g : ℕ → R) → ((y : ℕ) → has_id side y changes ≡ true → g y ≡ f y) → map g (ids side changes) ≡ map f (ids side changes)
map_known side changes f g same = map_among f g (ids side changes) (ids_ascend side changes) (λ y h. same y (has_among side y changes ∙ h))

-- where an id stands among the ids of the wiring
pub known : (side : Side) (id i : ℕ) (changes : List Change) → IsThere (ids side changes) id i → has_id side id changes ≡ true
known side id i changes t = has_among side id changes ∙ among_there id i (ids side changes) t

pub unknown : (side : Side) (id i : ℕ) (changes : List Change) → IsPlaceFor (ids side changes) id i → has_id side id changes ≡ false
unknown side id i changes p = has_among side id changes ∙ not_among id i (ids side changes) p

pub has_none : (xs : List ℕ) → nat_lt 0 (length xs) ≡ false → xs ≡ []
has_none [] h = refl
has_none (x ∷ xs) h = absurd (grind (arith, nat_tests, h))

pub has_fewer : (o : Option ℕ) (xs : List ℕ) → nat_lt 0 (length (cons_option o xs)) ≡ false → nat_lt 0 (length xs) ≡ false
has_fewer None xs h = h
has_fewer (Some x) xs h = absurd (grind (arith, nat_tests, h))

not_set : (given : Option ℕ) (before : ℕ) → set_or false given before ≡ before
not_set None before = refl
not_set (Some q) before = refl

-- an id without entries has the interval 1, and the base 0
pub interval_new : (side : Side) (id : ℕ) (changes : List Change) → has_id side id changes ≡ false → entry_interval side id changes ≡ 1
interval_new side id [] h = refl
interval_new side id (change ∷ changes) h =
    let before : has_id side id changes ≡ false = has_fewer (vr_for id (side change)) (entries side id changes) h in
    rw before (not_set (interval_given id change) (entry_interval side id changes) ∙ interval_new side id changes before)

pub base_new : (side : Side) (id : ℕ) (changes : List Change) → has_id side id changes ≡ false → base side id changes ≡ 0
base_new side id [] h = refl
base_new side id (Set body ∷ changes) h = base_new side id changes (has_fewer (vr_for id (side (Set body))) (entries side id changes) h)
base_new side id (Restart steps ∷ changes) h =
    let before : has_id side id changes ≡ false = has_fewer (vr_for id (side (Restart steps))) (entries side id changes) h in
    rw before (base_new side id changes before)
