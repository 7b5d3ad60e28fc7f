-- What a sound scenario says of the data ids of a slave and of its ports.
use Rattle.std.proofs.Common.{◌≡◌, ℕ, zero, suc, ◌-◌, ◌<◌, ◌≤◌, Bool, true, false, eqb, List, [], ◌∷◌, length, map, refl, ap, sym, ◌∙◌, subst, arith, Option, Some, None, ⊎_elim}
use Rattle.std.specs.Prelude.{◌==◌, ◌&&◌, ◌||◌, All, filter, slice_get, is_some}
use Rattle.std.specs.List.{AllByRecursion, list_any}
use Rattle.std.proofs.lemmas.Bool.{eqb-true}
use Rattle.std.proofs.lemmas.Bool.Decides.{nat_tests}
use Rattle.std.proofs.lemmas.List.{length-map}
use Rattle.slave_desc.specs.Descriptions.{IsDesc}
use Rattle.slave_desc.specs.declared.ports.Port.{Port}
use Rattle.slave_desc.specs.declared.descriptions.SlaveDesc.{SlaveDesc}
use Rattle.scenario.specs.declared.scenarios.Wire.{Wire}
use Rattle.scenario.specs.Lookups.{slave_at, inputs_in, outputs_in, inputs_at, outputs_at}
use Rattle.scenario.specs.Wiring.{same_input}
use Rattle.scenario.specs.Sound.{IsWire}
use Rattle.master_spec.specs.declared.pairs.Pair.{Pair}
use Rattle.master_spec.specs.Links.{pairs_from, is_wire}
use Rattle.plan_laws.proofs.Lists.{by_test, Pairwise, each_weaker, each_map, each_filter, each_passes, each_from_all, pairwise_weaker, pairwise_filter, pairwise_map, few_below}
use Rattle.plan_laws.proofs.Pairs.{IsBefore, some_of_pairs}
use Rattle.plan_laws.proofs.Ports.{each_got, fed_by, fed_from, some_wire}

-- ---- slaves

pub record IsThere (slaves : List SlaveDesc) (s : ℕ) (d : SlaveDesc) : Type 0 where
  pub desc : IsDesc d
  pub first : 1 ≤ s
  pub last : s ≤ length slaves

got_within : {X : Type 0} (xs : List X) (i : ℕ) (x : X) → slice_get xs i ≡ Some x → i < length xs
got_within [] i x e = absurd cc
got_within (y ∷ ys) zero x e = omega arith
got_within (y ∷ ys) (suc i) x e = omega (arith, got_within ys i x e)

-- a slave by its number stands one place before it
pub slave_got : (slaves : List SlaveDesc) (s : ℕ) (d : SlaveDesc) → slave_at slaves s ≡ Some d → (1 ≤ s) × (slice_get slaves (s - 1) ≡ Some d)
slave_got slaves s d e =
    by_test (s == 0)
    (λ t. absurd (let none : Some d ≡ None = sym (rw t at e) in cc))
    (λ t. (grind (arith, nat_tests, t), rw t at e))

pub slave_there : (slaves : List SlaveDesc) (s : ℕ) (d : SlaveDesc) → All (λ d. IsDesc d) slaves → slave_at slaves s ≡ Some d → IsThere slaves s d
slave_there slaves s d all e =
    let got = slave_got slaves s d e in
    record { desc = each_got (λ d. IsDesc d) slaves (s - 1) d (each_from_all (λ d. IsDesc d) slaves all) got.1; first = got.0; last = omega (arith, got_within slaves (s - 1) d got.1, got.0) }

few_in : (o : Option SlaveDesc) → ((d : SlaveDesc) → o ≡ Some d → IsDesc d) → (length (inputs_in o) ≤ 8) × (length (outputs_in o) ≤ 8)
few_in None h = (omega arith, omega arith)
few_in (Some d) h = ((h d refl).few_inputs, (h d refl).few_outputs.1)

few_ports : (slaves : List SlaveDesc) (s : ℕ) → All (λ d. IsDesc d) slaves → (length (inputs_at slaves s) ≤ 8) × (length (outputs_at slaves s) ≤ 8)
few_ports slaves s all = few_in (slave_at slaves s) (λ d e. (slave_there slaves s d all e).desc)

-- ---- positions

some_got : {X : Type 0} (xs : List X) (i : ℕ) → i < length xs → is_some (slice_get xs i) ≡ true
some_got [] i h = absurd (omega arith)
some_got (x ∷ xs) zero h = refl
some_got (x ∷ xs) (suc i) h = some_got xs i (omega (arith, h))

-- each position's input is there
pub inputs_there : (slaves : List SlaveDesc) (wires : List Wire) (from s : ℕ) (d : SlaveDesc) (grid : List Pair) → AllByRecursion (λ (w : Wire). IsWire slaves w) wires → slave_at slaves s ≡ Some d
    → AllByRecursion (λ (p : Pair). is_some (slice_get d.inputs p.to) ≡ true) (filter (is_wire wires from s) grid)
inputs_there slaves wires from s d grid all e =
    each_weaker (λ (p : Pair). is_wire wires from s p ≡ true) (λ (p : Pair). is_some (slice_get d.inputs p.to) ≡ true)
    (λ p h. let w = some_wire (λ (w : Wire). IsWire slaves w) wires from s p all h in
    let i : inputs_at slaves w.0.to ≡ d.inputs = ap (inputs_at slaves) w.3 ∙ ap inputs_in e in
    some_got d.inputs p.to (subst (λ (n : ℕ). n < length d.inputs) w.5 (subst (λ (l : List Port). w.0.into < length l) i w.1.into)))
    (filter (is_wire wires from s) grid) (each_passes (is_wire wires from s) grid)

-- each position's output is there
pub outputs_there : (slaves : List SlaveDesc) (wires : List Wire) (s to : ℕ) (d : SlaveDesc) (grid : List Pair) → AllByRecursion (λ (w : Wire). IsWire slaves w) wires → slave_at slaves s ≡ Some d
    → AllByRecursion (λ (p : Pair). is_some (slice_get d.outputs p.from) ≡ true) (filter (is_wire wires s to) grid)
outputs_there slaves wires s to d grid all e =
    each_weaker (λ (p : Pair). is_wire wires s to p ≡ true) (λ (p : Pair). is_some (slice_get d.outputs p.from) ≡ true)
    (λ p h. let w = some_wire (λ (w : Wire). IsWire slaves w) wires s to p all h in
    let o : outputs_at slaves w.0.from ≡ d.outputs = ap (outputs_at slaves) w.2 ∙ ap outputs_in e in
    some_got d.outputs p.from (subst (λ (n : ℕ). n < length d.outputs) w.4 (subst (λ (l : List Port). w.0.out < length l) o w.1.out)))
    (filter (is_wire wires s to) grid) (each_passes (is_wire wires s to) grid)

-- where each input of a position takes its values from
abbrev pub IsFed : List Wire → (from s : ℕ) → Pair → Type 0
IsFed wires from s p = fed_by wires s p.to ≡ Some (record { from = from; to = p.from })

pub positions_fed : (wires : List Wire) (from s : ℕ) (grid : List Pair) → Pairwise (λ v w. same_input v w ≡ false) wires → AllByRecursion (IsFed wires from s) (filter (is_wire wires from s) grid)
positions_fed wires from s grid one =
    each_weaker (λ (p : Pair). is_wire wires from s p ≡ true) (IsFed wires from s) (λ p h. fed_from wires from s p one h) (filter (is_wire wires from s) grid) (each_passes (is_wire wires from s) grid)

same_sender : (p q : Pair) → Some p ≡ Some q → (p.from ≡ q.from) × (p.to ≡ q.to)
same_sender p q e = let same : p ≡ q = cc in (ap (λ (x : Pair). x.from) same, ap (λ (x : Pair). x.to) same)

-- one input is fed by one output of one slave
pub fed_once : (wires : List Wire) (s from from' : ℕ) (p q : Pair) → IsFed wires from s p → IsFed wires from' s q → p.to ≡ q.to → (from ≡ from') × (p.from ≡ q.from)
fed_once wires s from from' p q h k e = same_sender (record { from = from; to = p.from }) (record { from = from'; to = q.from }) (sym h ∙ ap (fed_by wires s) e ∙ k)

apart_inputs : (wires : List Wire) (from s : ℕ) (p q : Pair) → IsFed wires from s p → IsFed wires from s q → IsBefore p q → eqb p.to q.to ≡ false
apart_inputs wires from s p q h k before =
    by_test (eqb p.to q.to)
    (λ t. let same : p.to ≡ q.to = eqb-true p.to q.to t in
    let one : p.from ≡ q.from = (fed_once wires s from from p q h k same).1 in
    absurd (⊎_elim (λ (l : p.from < q.from). omega (arith, l, one)) (λ (l : (p.from ≡ q.from) × (p.to < q.to)). omega (arith, l.1, same)) before))
    (λ t. t)

-- the inputs of two positions differ
pub positions_apart : (wires : List Wire) (from s : ℕ) (grid : List Pair) → Pairwise (λ v w. same_input v w ≡ false) wires → Pairwise IsBefore grid → Pairwise (λ p q. eqb p.to q.to ≡ false) (filter (is_wire wires from s) grid)
positions_apart wires from s grid one order =
    pairwise_weaker (IsFed wires from s) IsBefore (λ p q. eqb p.to q.to ≡ false) (apart_inputs wires from s) (filter (is_wire wires from s) grid)
    (positions_fed wires from s grid one) (pairwise_filter IsBefore (is_wire wires from s) grid order)

-- so there are no more than inputs of a slave
pub positions_few : (wires : List Wire) (from s n : ℕ) (grid : List Pair) → Pairwise (λ v w. same_input v w ≡ false) wires → Pairwise IsBefore grid → AllByRecursion (λ (p : Pair). p.to < n) grid → length (filter (is_wire wires from s) grid) ≤ n
positions_few wires from s n grid one order below =
    let ps : List Pair = filter (is_wire wires from s) grid in
    subst (λ (k : ℕ). k ≤ n) (length-map ps (λ (p : Pair). p.to))
    (few_below (map (λ (p : Pair). p.to) ps) n (pairwise_map (λ x y. eqb x y ≡ false) (λ (p : Pair). p.to) ps (positions_apart wires from s grid one order))
    (each_map (λ x. x < n) (λ (p : Pair). p.to) ps (each_filter (λ (p : Pair). p.to < n) (is_wire wires from s) grid below)))

or_right : (a b : Bool) → b ≡ true → (a || b) ≡ true
or_right true b e = refl
or_right false b e = e

-- a pair of slaves with a wire has a position
some_position : (P : Wire → Type 0) (wires : List Wire) (from to : ℕ) → AllByRecursion P wires → list_any (λ (w : Wire). (w.from == from) && (w.to == to)) wires ≡ true
    → (w : Wire) × P w × (is_wire wires from to (record { from = w.out; to = w.into }) ≡ true)
some_position P [] from to all h = absurd cc
some_position P (v ∷ wires) from to all h =
    by_test ((v.from == from) && (v.to == to))
    (λ e. let o : (v.out == v.out) ≡ true = grind (arith, nat_tests) in
    let i : (v.into == v.into) ≡ true = grind (arith, nat_tests) in
    (v, all.0, rw (e, o, i) refl))
    (λ e. let w = some_position P wires from to all.1 (rw e at h) in
    (w.0, w.1, or_right (((v.from == from) && (v.to == to)) && ((v.out == w.0.out) && (v.into == w.0.into))) (is_wire wires from to (record { from = w.0.out; to = w.0.into })) w.2))

pub positions_some : (slaves : List SlaveDesc) (wires : List Wire) (from to m n : ℕ) → All (λ d. IsDesc d) slaves → AllByRecursion (λ (w : Wire). IsWire slaves w) wires → 8 ≤ m → 8 ≤ n → list_any (λ (w : Wire). (w.from == from) && (w.to == to)) wires ≡ true
    → 1 ≤ length (filter (is_wire wires from to) (pairs_from 0 m 0 n))
positions_some slaves wires from to m n descs all hm hn h =
    let w = some_position (λ (w : Wire). IsWire slaves w) wires from to all h in
    let o : w.0.out < 8 = omega (arith, w.1.out, (few_ports slaves w.0.from descs).1) in
    let i : w.0.into < 8 = omega (arith, w.1.into, (few_ports slaves w.0.to descs).0) in
    some_of_pairs (is_wire wires from to) 0 m 0 n w.0.out w.0.into (omega arith) (omega (arith, o, hm)) (omega arith) (omega (arith, i, hn)) w.2
