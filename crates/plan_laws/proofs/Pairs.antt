-- Pairs of numbers in their order, and the data ids that are made of them.
use Rattle.std.proofs.Common.{◌≡◌, ℕ, zero, suc, ◌+◌, ◌<◌, ◌≤◌, Bool, true, false, cond, eqb, List, [], ◌∷◌, length, refl, ap, sym, ◌∙◌, subst, arith, Some, inl, inr, ◌⊎◌}
use Rattle.std.specs.Prelude.{◌==◌, ◌&&◌, filter}
use Rattle.std.specs.List.{AllByRecursion}
use Rattle.std.proofs.lemmas.Bool.Decides.{nat_tests}
use Rattle.std.proofs.lemmas.List.{length-append}
use Rattle.std.proofs.lemmas.List.Elements.{filter-append}
use Rattle.scenario.specs.declared.scenarios.Scenario.{Scenario}
use Rattle.scenario.specs.declared.scenarios.Every.{Every}
use Rattle.scenario.specs.Wiring.{q_of, every_between, interval}
use Rattle.master_spec.specs.declared.links.DataLink.{DataLink}
use Rattle.master_spec.specs.declared.pairs.Pair.{Pair}
use Rattle.master_spec.specs.Filling.{pairs_in_row}
use Rattle.master_spec.specs.Links.{pairs_from, links_from, wire_link}
use Rattle.plan_laws.proofs.Lists.{by_test, Pairwise, each_append, each_weaker, pairwise_append}

-- p comes before q: by the first number, and then by the second
abbrev pub IsBefore : Pair → Pair → Type 0
IsBefore p q = (p.from < q.from) ⊎ ((p.from ≡ q.from) × (p.to < q.to))

pub record IsWithin (a m b n : ℕ) (p : Pair) : Type 0 where
  pub from : (a ≤ p.from) × (p.from < a + m)
  pub to : (b ≤ p.to) × (p.to < b + n)

-- ---- the pairs of so many numbers

abbrev IsOfRow : (x b n : ℕ) → Pair → Type 0
IsOfRow x b n p = (p.from ≡ x) × (b ≤ p.to) × (p.to < b + n)

row_within : (x b n : ℕ) → AllByRecursion (IsOfRow x b n) (pairs_in_row x b n)
row_within x b zero = tt
row_within x b (suc n) = (
  (refl, omega arith, omega arith),
  each_weaker (IsOfRow x (b + 1) n) (IsOfRow x b (suc n)) (λ p h. (h.0, omega (arith, h.1), omega (arith, h.2))) (pairs_in_row x (b + 1) n) (row_within x (b + 1) n),
)

row_ascends : (x b n : ℕ) → Pairwise IsBefore (pairs_in_row x b n)
row_ascends x b zero = tt
row_ascends x b (suc n) = (
  each_weaker (IsOfRow x (b + 1) n) (IsBefore (record { from = x; to = b })) (λ p h. inr (sym h.0, omega (arith, h.1))) (pairs_in_row x (b + 1) n) (row_within x (b + 1) n),
  row_ascends x (b + 1) n,
)

pub pairs_within : (a m b n : ℕ) → AllByRecursion (IsWithin a m b n) (pairs_from a m b n)
pairs_within a zero b n = tt
pairs_within a (suc m) b n =
    each_append (IsWithin a (suc m) b n) (pairs_in_row a b n) (pairs_from (a + 1) m b n)
    (each_weaker (IsOfRow a b n) (IsWithin a (suc m) b n) (λ p h. record { from = (omega (arith, h.0), omega (arith, h.0)); to = (h.1, h.2) }) (pairs_in_row a b n) (row_within a b n))
    (each_weaker (IsWithin (a + 1) m b n) (IsWithin a (suc m) b n) (λ p h. record { from = (omega (arith, h.from.0), omega (arith, h.from.1)); to = h.to }) (pairs_from (a + 1) m b n) (pairs_within (a + 1) m b n))

pub pairs_ascend : (a m b n : ℕ) → Pairwise IsBefore (pairs_from a m b n)
pairs_ascend a zero b n = tt
pairs_ascend a (suc m) b n =
    pairwise_append IsBefore (pairs_in_row a b n) (pairs_from (a + 1) m b n) (row_ascends a b n) (pairs_ascend (a + 1) m b n)
    (each_weaker (IsOfRow a b n) (λ p. AllByRecursion (IsBefore p) (pairs_from (a + 1) m b n))
    (λ p h. each_weaker (IsWithin (a + 1) m b n) (IsBefore p) (λ q k. inl (omega (arith, h.0, k.from.0))) (pairs_from (a + 1) m b n) (pairs_within (a + 1) m b n))
    (pairs_in_row a b n) (row_within a b n))

-- a pair that passes a test is among those that do
some_of_row : (p : Pair → Bool) (x b n y : ℕ) → b ≤ y → y < b + n → p (record { from = x; to = y }) ≡ true → 1 ≤ length (filter p (pairs_in_row x b n))
some_of_row p x b zero y l u t = absurd (omega arith)
some_of_row p x b (suc n) y l u t =
    by_test (p (record { from = x; to = b }))
    (λ e. rw e (omega arith))
    (λ e. by_test (eqb b y)
    (λ f. let same : b ≡ y = grind (arith, nat_tests, f) in absurd (let g : p (record { from = x; to = b }) ≡ true = subst (λ (z : ℕ). p (record { from = x; to = z }) ≡ true) (sym same) t in cc))
    (λ f. let less : b + 1 ≤ y = grind (arith, nat_tests, f, l) in rw e (some_of_row p x (b + 1) n y less (omega (arith, u)) t)))

pub some_of_pairs : (p : Pair → Bool) (a m b n x y : ℕ) → a ≤ x → x < a + m → b ≤ y → y < b + n → p (record { from = x; to = y }) ≡ true → 1 ≤ length (filter p (pairs_from a m b n))
some_of_pairs p a zero b n x y la ua lb ub t = absurd (omega arith)
some_of_pairs p a (suc m) b n x y la ua lb ub t =
    let both = filter-append p (pairs_in_row a b n) (pairs_from (a + 1) m b n) in
    let sum : length (filter p (pairs_from a (suc m) b n)) ≡ length (filter p (pairs_in_row a b n)) + length (filter p (pairs_from (a + 1) m b n)) =
    ap length both ∙ length-append (filter p (pairs_in_row a b n)) (filter p (pairs_from (a + 1) m b n)) in
    by_test (eqb a x)
    (λ f. let same : a ≡ x = grind (arith, nat_tests, f) in
    omega (arith, sum, some_of_row p a b n y lb ub (subst (λ (z : ℕ). p (record { from = z; to = y }) ≡ true) (sym same) t)))
    (λ f. let less : a + 1 ≤ x = grind (arith, nat_tests, f, la) in
    omega (arith, sum, some_of_pairs p (a + 1) m b n x y less (omega (arith, ua)) lb ub t))

-- ---- data ids

pub each_link : (P : DataLink → Type 0) (sc : Scenario) (id : ℕ) (ps : List Pair) → AllByRecursion (λ p. (i : ℕ) → id ≤ i → P (wire_link sc i p)) ps → AllByRecursion P (links_from sc id ps)
each_link P sc id [] h = tt
each_link P sc id (p ∷ ps) h = (
  h.0 id (omega arith),
  each_link P sc (id + 1) ps (each_weaker (λ (q : Pair). (i : ℕ) → id ≤ i → P (wire_link sc i q)) (λ (q : Pair). (i : ℕ) → id + 1 ≤ i → P (wire_link sc i q)) (λ q f i l. f i (omega (arith, l))) ps h.1),
)

pub pairwise_links : (R : DataLink → DataLink → Type 0) (sc : Scenario) (id : ℕ) (ps : List Pair) → Pairwise (λ p q. (i j : ℕ) → i < j → R (wire_link sc i p) (wire_link sc j q)) ps → Pairwise R (links_from sc id ps)
pairwise_links R sc id [] h = tt
pairwise_links R sc id (p ∷ ps) h = (
  each_link (R (wire_link sc id p)) sc (id + 1) ps
      (each_weaker (λ (q : Pair). (i j : ℕ) → i < j → R (wire_link sc i p) (wire_link sc j q)) (λ (q : Pair). (i : ℕ) → id + 1 ≤ i → R (wire_link sc id p) (wire_link sc i q)) (λ q f j l. f id j (omega (arith, l))) ps h.0),
  pairwise_links R sc (id + 1) ps h.1,
)

-- an interval that is told or 1
pub interval_within : (every : List Every) (a b : ℕ) → AllByRecursion (λ (e : Every). (1 ≤ e.q) × (e.q ≤ 1000)) every → (1 ≤ interval every a b) × (interval every a b ≤ 1000)
interval_within [] a b h = (omega arith, omega arith)
interval_within (e ∷ every) a b h =
    elim ((e.from == a) && (e.to == b)) as (λ t. (1 ≤ q_of (cond t (Some e) (every_between every a b))) × (q_of (cond t (Some e) (every_between every a b)) ≤ 1000)) [
      | true ↦ h.0
      | false ↦ interval_within every a b h.1
    ]
