-- What the inputs read.
use Rattle.std.proofs.Common.{◌≡◌, ◌-◌, ◌+◌, ◌*◌, ◌/◌, ◌%◌, ◌≤◌, sym, ◌∙◌, ap, subst, get_or, ℕ, zero, suc, ◌++◌, map, ℤ, pos, List, [], ◌∷◌, Option, Some, None, arith, Bool, true, false, refl}
use Rattle.std.specs.Prelude.{All, find, IfSome, ◌==◌, ◌&&◌}
use Rattle.std.proofs.lemmas.List.Elements.{All-head, All-tail, All-nil, All-same, All-map}
use Rattle.std.proofs.lemmas.List.FromFn.{map-range_with_len_more}
use Rattle.fixed_models.specs.Domains.{IsInput}
use Rattle.scenario.specs.Sound.{IsWire, IsScenario}
use Rattle.scenario.specs.declared.scenarios.Scenario.{Scenario}
use Rattle.scenario.specs.declared.scenarios.Wire.{Wire}
use Rattle.lockstep.specs.declared.wiring.Feed.{Feed}
use Rattle.scenario.specs.Wiring.{wire_into}
use Rattle.lockstep.specs.Feeds.{fed, feed_of, feeds_of}

pub last_renewal : (now k q : ℕ) → k ≤ now → now - k % q ≡ now - k + q * (k / q)
last_renewal now k q le = grind arith

-- the row of the last renewal
pub fed_at : (rows : List (List ℤ)) (now k place : ℕ) (f : Feed) → place ≡ now - k % f.interval → k ≤ now →
    get_or (get_or rows place []) f.column (pos 0) ≡ fed rows (now - k) k (Some f)
fed_at rows now k place f at le =
    let same : place ≡ now - k + f.interval * (k / f.interval) = at ∙ last_renewal now k f.interval le in
    ap (λ (x : ℕ). get_or (get_or rows x []) f.column (pos 0)) same

-- what is found holds what all hold
found_holds : {X : Type 0} (P : X → Type 0) (test : X → Bool) (x : X) (xs : List X) (b : Bool) → test x ≡ b → P x → IfSome (find test xs) P → IfSome (find test (x ∷ xs)) P
found_holds P test x xs true e h rest = rw e h
found_holds P test x xs false e h rest = rw e rest

pub All-find : {X : Type 0} (P : X → Type 0) (test : X → Bool) (xs : List X) → All P xs → IfSome (find test xs) P
All-find P test [] h = tt
All-find P test (x ∷ xs) h = found_holds P test x xs (test x) refl (All-head P x xs h) (All-find P test xs (All-tail P x xs h))

-- the wire into an input
pub wire_is : (sc : Scenario) (s i : ℕ) → IsScenario sc → IfSome (wire_into sc.wires s i) (λ w. IsWire sc.slaves w)
wire_is sc s i sound = All-find (λ w. IsWire sc.slaves w) (λ w. (w.to == s) && (w.into == i)) sc.wires sound.wires

pub for_some : {X : Type 0} (P : X → Type 0) (o : Option X) → IfSome o P → (x : X) → o ≡ Some x → P x
for_some P None h x e = cc
for_some P (Some y) h x e = let same : y ≡ x = cc in subst P same h

pub wire_for : (sc : Scenario) (s i : ℕ) (o : Option Wire) → IsScenario sc → o ≡ wire_into sc.wires s i → (w : Wire) → o ≡ Some w → IsWire sc.slaves w
wire_for sc s i o sound e w is = for_some (λ w. IsWire sc.slaves w) (wire_into sc.wires s i) (wire_is sc s i sound) w (sym e ∙ is)

zero_is : IsInput (pos 0)
zero_is = record { low = grind arith; high = grind arith }

get_or_holds : {X : Type 0} (P : X → Type 0) (d : X) → P d → (xs : List X) (i : ℕ) → All P xs → P (get_or xs i d)
get_or_holds P d h [] i all = h
get_or_holds P d h (x ∷ xs) zero all = All-head P x xs all
get_or_holds P d h (x ∷ xs) (suc i) all = get_or_holds P d h xs i (All-tail P x xs all)

fed_is : (rows : List (List ℤ)) (first k : ℕ) → All (λ row. All IsInput row) rows → (f : Option Feed) → IsInput (fed rows first k f)
fed_is rows first k all None = zero_is
fed_is rows first k all (Some f) =
    get_or_holds IsInput (pos 0) zero_is (get_or rows (first + f.interval * (k / f.interval)) []) f.column
    (get_or_holds (λ row. All IsInput row) [] (All-nil IsInput) rows (first + f.interval * (k / f.interval)) all)

-- what is read is the value of some type
pub fed_are : (rows : List (List ℤ)) (first k : ℕ) (feeds : List (Option Feed)) (us : List ℤ) → All (λ row. All IsInput row) rows → us ≡ map (fed rows first k) feeds → All IsInput us
fed_are rows first k feeds us all e =
    All-same IsInput us (map (fed rows first k) feeds) e
    (All-map IsInput (fed rows first k) feeds (λ i d lt. fed_is rows first k all (get_or feeds i d)))

pub feeds_more : (sc : Scenario) (s n : ℕ) (wire : Option Wire) (feed : Option Feed) (before after : List (Option Feed)) → before ≡ feeds_of sc s n → wire ≡ wire_into sc.wires s n → feed ≡ feed_of sc wire → after ≡ before ++ feed ∷ [] → after ≡ feeds_of sc s (n + 1)
feeds_more sc s n wire feed before after e at is pushed =
    pushed
    ∙ ap (λ (x : List (Option Feed)). x ++ feed ∷ []) e
    ∙ ap (λ (x : Option Feed). feeds_of sc s n ++ x ∷ []) (is ∙ ap (λ (x : Option Wire). feed_of sc x) at)
    ∙ sym (map-range_with_len_more (λ i. feed_of sc (wire_into sc.wires s i)) 0 n n (omega arith))
