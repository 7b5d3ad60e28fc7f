-- A slave sends each other end data under one id.
use Rattle.std.proofs.Common.{◌≡◌, ℕ, zero, suc, ◌+◌, ◌-◌, ◌<◌, ◌≤◌, ◌==◌, Bool, true, false, if◌then◌else◌, ◌⊎◌, inl, inr, Some, None, List, [], ◌∷◌, ◌++◌, map, length, refl, sym, ap, ◌∙◌, subst, arith}
use Rattle.std.specs.Prelude.{find, slice_get}
use Rattle.std.specs.List.{AllByRecursion, range_with_len}
use Rattle.std.proofs.lemmas.Bool.{eqb-true}
use Rattle.std.proofs.lemmas.Bool.Decides.{nat_tests}
use Rattle.pdu_layout.specs.Reading.{message_in}
use Rattle.slave_desc.specs.declared.descriptions.SlaveDesc.{SlaveDesc}
use Rattle.scenario.specs.declared.scenarios.Scenario.{Scenario}
use Rattle.scenario.specs.Sound.{IsScenario}
use Rattle.master_spec.specs.declared.links.DataLink.{DataLink}
use Rattle.master_spec.specs.Links.{watch_link, watch_links, wire_links, links}
use Rattle.master_spec.specs.PlanSetup.{address_at, source_address}
use Rattle.plan_laws.proofs.Lists.{Pairwise}
use Rattle.plan_laws.proofs.Links.{IsWireLink, IsLinkBefore, links_wired, links_ordered}
use Rattle.slave_laws.specs.Wiring.Links.{data_link_of}
use Rattle.log_spec.specs.Log.{Parties, IsSlaveOf, IsEnd}
use Rattle.lockstep_laws.proofs.Models.Scenarios.{has_parties}
use Rattle.slave_laws.specs.Data.Made.{parties}
use Rattle.completeness_laws.proofs.Quiet.Lists.{Among}

-- ---- lists
found_id : (id : ℕ) (xs : List DataLink) (l : DataLink) → find (λ m. m.id == id) xs ≡ Some l → Among l xs × (l.id ≡ id)
found_id id [] l e = absurd cc
found_id id (x ∷ xs) l e = by (x.id == id) refl e (λ z. found_id id xs l z)
  where
    by : (b : Bool) → (x.id == id) ≡ b → (if b then Some x else find (λ m. m.id == id) xs) ≡ Some l → (find (λ m. m.id == id) xs ≡ Some l → Among l xs × (l.id ≡ id)) → Among l (x ∷ xs) × (l.id ≡ id)
    by true h z f = let y : x ≡ l = cc in (inl (sym y), ap (λ (k : DataLink). k.id) (sym y) ∙ eqb-true x.id id h)
    by false h z f = let k = f z in (inr k.0, k.1)

among_append : (xs ys : List DataLink) (l : DataLink) → Among l (xs ++ ys) → Among l xs ⊎ Among l ys
among_append [] ys l m = inr m
among_append (x ∷ xs) ys l (inl e) = inl (inl e)
among_append (x ∷ xs) ys l (inr m) = by (among_append xs ys l m)
  where
    by : Among l xs ⊎ Among l ys → Among l (x ∷ xs) ⊎ Among l ys
    by (inl k) = inl (inr k)
    by (inr k) = inr k

all_among : (P : DataLink → Type 0) (xs : List DataLink) (l : DataLink) → AllByRecursion P xs → Among l xs → P l
all_among P [] l a m = absurd m
all_among P (x ∷ xs) l a (inl e) = subst P (sym e) a.0
all_among P (x ∷ xs) l a (inr m) = all_among P xs l a.1 m

in_order : (R : DataLink → DataLink → Type 0) (xs : List DataLink) (l m : DataLink) → Pairwise R xs → Among l xs → Among m xs → (l ≡ m) ⊎ (R l m ⊎ R m l)
in_order R [] l m p a b = absurd a
in_order R (x ∷ xs) l m p (inl e) (inl f) = inl (e ∙ sym f)
in_order R (x ∷ xs) l m p (inl e) (inr b) = let P : DataLink → Type 0 = λ z. R z m in inr (inl (subst P (sym e) (all_among (R x) xs m p.0 b)))
in_order R (x ∷ xs) l m p (inr a) (inl f) = let P : DataLink → Type 0 = λ z. R z l in inr (inr (subst P (sym f) (all_among (R x) xs l p.0 a)))
in_order R (x ∷ xs) l m p (inr a) (inr b) = in_order R xs l m p.1 a b

same_way : (l m : DataLink) → l.from ≡ m.from → l.to ≡ m.to → IsLinkBefore l m → ⊥
same_way l m f t b = by b.before
  where
    by : (l.from < m.from) ⊎ ((l.from ≡ m.from) × (l.to < m.to)) → ⊥
    by (inl h) = omega (arith, h, f)
    by (inr h) = let k = h.1 in omega (arith, k, t)

-- the watch data of a slave goes to the master under the slave's number
abbrev IsWatch : ℕ → DataLink → Type 0
IsWatch n l = (l.id ≡ l.from) × ((l.to ≡ 0) × ((1 ≤ l.from) × (l.from ≤ n)))

watches_are : (a n k : ℕ) → 1 ≤ a → k + 1 ≤ n + 1 → a + k ≤ n + 1 → AllByRecursion (IsWatch n) (map watch_link (range_with_len a k))
watches_are a n zero h i j = tt
watches_are a n (suc k) h i j = ((refl, (refl, (h, omega (arith, j)))), watches_are (a + 1) n k (omega (arith, h)) (omega (arith, i)) (omega (arith, j)))

module _ (sc : Scenario) (other : SlaveDesc) (ok : IsScenario sc) where
  abbrev W : Parties
  W = parties sc other

  abbrev IsKnown : DataLink → Type 0
  IsKnown l = IsWatch (length sc.slaves) l ⊎ (Among l (wire_links sc) × IsWireLink sc l)

  known : (id : ℕ) (l : DataLink) → data_link_of sc id ≡ Some l → IsKnown l × (l.id ≡ id)
  known id l e =
      let f = found_id id (links sc) l e in
      (by (among_append (watch_links sc) (wire_links sc) l f.0), f.1)
    where
      by : Among l (watch_links sc) ⊎ Among l (wire_links sc) → IsKnown l
      by (inl m) = inl (all_among (IsWatch (length sc.slaves)) (watch_links sc) l (watches_are 1 (length sc.slaves) (length sc.slaves) (omega arith) (omega arith) (omega arith)) m)
      by (inr m) = inr (m, all_among (IsWireLink sc) (wire_links sc) l (links_wired sc ok) m)

  -- where the ends are
  slave_address : (t : ℕ) → IsSlaveOf W t → address_at sc t ≡ W.slave t
  slave_address t is =
      let z : (t == 0) ≡ false = (let a = is.0 in grind (arith, nat_tests, a)) in
      ap (λ (b : Bool). source_address sc (if b then None else slice_get sc.slaves (t - 1))) z ∙ ap (source_address sc) ((has_parties sc other ok message_in).desc t is)

  pub link_end : (id : ℕ) (l : DataLink) → data_link_of sc id ≡ Some l → IsEnd W (address_at sc l.to)
  link_end id l e = by (known id l e).0
    where
      by : IsKnown l → IsEnd W (address_at sc l.to)
      by (inl w) = inl (ap (address_at sc) (w.1).0)
      by (inr w) = let is : IsSlaveOf W l.to = (w.1.to.0, w.1.to.1) in inr (l.to, is, slave_address l.to is)

  same_end : (l m : DataLink) → IsKnown l → IsKnown m → address_at sc l.to ≡ address_at sc m.to → l.to ≡ m.to
  same_end l m (inl a) (inl b) e = (a.1).0 ∙ sym (b.1).0
  same_end l m (inl a) (inr b) e =
      let is : IsSlaveOf W m.to = (b.1.to.0, b.1.to.1) in
      absurd ((has_parties sc other ok message_in).apart.master m.to is (sym (slave_address m.to is) ∙ sym e ∙ ap (address_at sc) (a.1).0))
  same_end l m (inr a) (inl b) e =
      let is : IsSlaveOf W l.to = (a.1.to.0, a.1.to.1) in
      absurd ((has_parties sc other ok message_in).apart.master l.to is (sym (slave_address l.to is) ∙ e ∙ ap (address_at sc) (b.1).0))
  same_end l m (inr a) (inr b) e =
      let il : IsSlaveOf W l.to = (a.1.to.0, a.1.to.1) in
      let im : IsSlaveOf W m.to = (b.1.to.0, b.1.to.1) in
      (has_parties sc other ok message_in).apart.slaves l.to m.to il im (sym (slave_address l.to il) ∙ e ∙ slave_address m.to im)

  -- two ids of one sender that go to one address are one
  pub one_id : (i j : ℕ) (l m : DataLink) → data_link_of sc i ≡ Some l → data_link_of sc j ≡ Some m → l.from ≡ m.from → address_at sc l.to ≡ address_at sc m.to → i ≡ j
  one_id i j l m e f from to =
      let a = known i l e in
      let b = known j m f in
      let t = same_end l m a.0 b.0 to in
      sym a.1 ∙ by a.0 b.0 t ∙ b.1
    where
      by : IsKnown l → IsKnown m → l.to ≡ m.to → l.id ≡ m.id
      by (inl a) (inl b) t = a.0 ∙ from ∙ sym b.0
      by (inl a) (inr b) t = let z = (a.1).0 in let y = b.1.to.0 in absurd (omega (arith, z, y, t))
      by (inr a) (inl b) t = let z = (b.1).0 in let y = a.1.to.0 in absurd (omega (arith, z, y, t))
      by (inr a) (inr b) t = two (in_order IsLinkBefore (wire_links sc) l m (links_ordered sc) a.0 b.0)
        where
          two : (l ≡ m) ⊎ (IsLinkBefore l m ⊎ IsLinkBefore m l) → l.id ≡ m.id
          two (inl z) = ap (λ (k : DataLink). k.id) z
          two (inr (inl z)) = absurd (same_way l m from t z)
          two (inr (inr z)) = absurd (same_way m l (sym from) (sym t) z)
