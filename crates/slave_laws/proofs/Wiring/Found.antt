-- Each link is found under its id.
use Rattle.std.proofs.Common.{◌≡◌, ℕ, zero, suc, ◌+◌, ◌<◌, ◌≤◌, ◌==◌, Bool, true, false, if◌then◌else◌, ◌⊎◌, inl, inr, List, [], ◌∷◌, ◌++◌, map, length, Option, Some, refl, ap, ◌∙◌, arith}
use Rattle.std.specs.Prelude.{find}
use Rattle.std.specs.List.{AllByRecursion, range_with_len}
use Rattle.std.proofs.lemmas.Bool.{eq-eqb, cases_lt}
use Rattle.std.proofs.lemmas.Bool.Decides.{nat_tests}
use Rattle.scenario.specs.declared.scenarios.Scenario.{Scenario}
use Rattle.scenario.specs.Sound.{IsScenario}
use Rattle.master_spec.specs.declared.links.DataLink.{DataLink}
use Rattle.master_spec.specs.Links.{watch_link, wire_links, watch_links}
use Rattle.plan_laws.proofs.Lists.{Pairwise, each_both, pairwise_weaker, each_always}
use Rattle.plan_laws.proofs.Links.{IsWireLink, IsLinkBefore, links_wired, links_ordered}
use Rattle.slave_laws.specs.Wiring.Links.{data_link_of}

chosen : (b : Bool) (x : DataLink) (o : Option DataLink) → b ≡ true → (if b then Some x else o) ≡ Some x
chosen true x o e = refl
chosen false x o e = absurd cc

passed : (b : Bool) (x : DataLink) (o : Option DataLink) → b ≡ false → (if b then Some x else o) ≡ o
passed false x o e = refl
passed true x o e = absurd cc

skipped : (id : ℕ) (xs ys : List DataLink) → AllByRecursion (λ (l : DataLink). (l.id == id) ≡ false) xs → find (λ l. l.id == id) (xs ++ ys) ≡ find (λ l. l.id == id) ys
skipped id [] ys h = refl
skipped id (x ∷ xs) ys h = passed (x.id == id) x (find (λ l. l.id == id) (xs ++ ys)) h.0 ∙ skipped id xs ys h.1

each_found : (xs : List DataLink) → Pairwise (λ (l r : DataLink). (l.id == r.id) ≡ false) xs → AllByRecursion (λ (l : DataLink). find (λ m. m.id == l.id) xs ≡ Some l) xs
each_found [] h = tt
each_found (x ∷ xs) h = (
  chosen (x.id == x.id) x (find (λ m. m.id == x.id) xs) (eq-eqb x.id x.id refl),
  each_both (λ (r : DataLink). (x.id == r.id) ≡ false) (λ (l : DataLink). find (λ m. m.id == l.id) xs ≡ Some l) (λ (l : DataLink). find (λ m. m.id == l.id) (x ∷ xs) ≡ Some l)
      (λ l a b. passed (x.id == l.id) x (find (λ m. m.id == l.id) xs) a ∙ b) xs h.0 (each_found xs h.1),
)

watches_below : (a n id : ℕ) → a + n ≤ id → AllByRecursion (λ (l : DataLink). (l.id == id) ≡ false) (map watch_link (range_with_len a n))
watches_below a zero id h = tt
watches_below a (suc n) id h = (grind (arith, nat_tests, h), watches_below (a + 1) n id (omega (arith, h)))

watch_there : (a n s : ℕ) (ys : List DataLink) → a ≤ s → s < a + n → find (λ l. l.id == s) (map watch_link (range_with_len a n) ++ ys) ≡ Some (watch_link s)
watch_there a zero s ys h k = absurd (omega (arith, h, k))
watch_there a (suc n) s ys h k = by (watch_there (a + 1) n s ys) (cases_lt a s)
  where
    by : (a + 1 ≤ s → s < (a + 1) + n → find (λ l. l.id == s) (map watch_link (range_with_len (a + 1) n) ++ ys) ≡ Some (watch_link s)) → (a < s) ⊎ (s ≤ a) → find (λ l. l.id == s) (map watch_link (range_with_len a (suc n)) ++ ys) ≡ Some (watch_link s)
    by f (inl lt) = let no' : (a == s) ≡ false = grind (arith, nat_tests, lt) in passed (a == s) (watch_link a) _ no' ∙ f (omega (arith, lt)) (omega (arith, k))
    by f (inr le) = let e : a ≡ s = omega (arith, h, le) in chosen (a == s) (watch_link a) _ (eq-eqb a s e) ∙ ap (λ z. Some (watch_link z)) e

module _ (sc : Scenario) (ok : IsScenario sc) where
  pub watch_found : (s : ℕ) → 1 ≤ s → s ≤ length sc.slaves → data_link_of sc s ≡ Some (watch_link s)
  watch_found s h k = watch_there 1 (length sc.slaves) s (wire_links sc) h (omega (arith, k))

  pub wires_found : AllByRecursion (λ (l : DataLink). data_link_of sc l.id ≡ Some l) (wire_links sc)
  wires_found =
      each_both (IsWireLink sc) (λ (l : DataLink). find (λ m. m.id == l.id) (wire_links sc) ≡ Some l) (λ (l : DataLink). data_link_of sc l.id ≡ Some l)
      (λ l w f. skipped l.id (watch_links sc) (wire_links sc) (watches_below 1 (length sc.slaves) l.id (omega (arith, w.id, ok.few_slaves.1))) ∙ f)
      (wire_links sc) (links_wired sc ok)
      (each_found (wire_links sc) (pairwise_weaker (λ (l : DataLink). Unit {0}) IsLinkBefore (λ (l r : DataLink). (l.id == r.id) ≡ false) (λ l r a b h. h.apart) (wire_links sc) (each_always (λ (l : DataLink). Unit {0}) (λ l. tt) (wire_links sc)) (links_ordered sc)))
