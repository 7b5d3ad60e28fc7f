-- The ports at the positions of a payload.
use Rattle.std.proofs.Common.{◌≡◌, ◌≢◌, ℕ, zero, suc, ◌+◌, ◌<◌, true, false, eqb, List, [], ◌∷◌, ◌++◌, length, get_or, refl, ap, sym, ◌∙◌, subst, arith, Option, Some, None, ⊎_elim}
use Rattle.std.specs.Prelude.{◌==◌, ◌&&◌, slice_get, is_some, option_map}
use Rattle.std.specs.List.{AllByRecursion, cons_option, filter_map}
use Rattle.std.proofs.lemmas.Bool.{eqb-true}
use Rattle.std.proofs.lemmas.Bool.Decides.{nat_tests}
use Rattle.std.proofs.lemmas.Option.{get_or_from_slice_get, slice_get_within}
use Rattle.pdu_layout.specs.declared.messages.Cfg.{Cfg}
use Rattle.pdu_layout.specs.declared.messages.Cfg.TheVariants as cfg
use Rattle.slave_desc.specs.Descriptions.{AreApart}
use Rattle.slave_desc.specs.declared.ports.Port.{Port}
use Rattle.scenario.specs.declared.scenarios.Wire.{Wire}
use Rattle.scenario.specs.Wiring.{wire_into, same_input}
use Rattle.master_spec.specs.declared.pairs.Pair.{Pair}
use Rattle.master_spec.specs.Links.{is_wire}
use Rattle.master_spec.specs.PlanSetup.{numbered, input_at, output_at}
use Rattle.slave_spec.specs.Refusals.{port_with}
use Rattle.plan_laws.proofs.Lists.{by_test, left, right, Pairwise, each_weaker, pairwise_from_all}
use Rattle.plan_laws.proofs.Entries.{inputs_under, outputs_under}

-- ---- what is chosen of a list

chosen_cons : {Y : Type 0} (o : Option Y) (Q : Y → Type 0) (ys : List Y) → ((y : Y) → o ≡ Some y → Q y) → AllByRecursion Q ys → AllByRecursion Q (cons_option o ys)
chosen_cons None Q ys h k = k
chosen_cons (Some y) Q ys h k = (h y refl, k)

pub each_chosen : {X Y : Type 0} (f : X → Option Y) (Q : Y → Type 0) (xs : List X) → AllByRecursion (λ x. (y : Y) → f x ≡ Some y → Q y) xs → AllByRecursion Q (filter_map f xs)
each_chosen f Q [] h = tt
each_chosen f Q (x ∷ xs) h = chosen_cons (f x) Q (filter_map f xs) h.0 (each_chosen f Q xs h.1)

pairwise_cons : {Y : Type 0} (o : Option Y) (R : Y → Y → Type 0) (ys : List Y) → ((y : Y) → o ≡ Some y → AllByRecursion (R y) ys) → Pairwise R ys → Pairwise R (cons_option o ys)
pairwise_cons None R ys h k = k
pairwise_cons (Some y) R ys h k = (h y refl, k)

pub pairwise_chosen : {X Y : Type 0} (f : X → Option Y) (R : Y → Y → Type 0) (xs : List X) → Pairwise (λ x z. (y w : Y) → f x ≡ Some y → f z ≡ Some w → R y w) xs → Pairwise R (filter_map f xs)
pairwise_chosen f R [] h = tt
pairwise_chosen {X} {Y} f R (x ∷ xs) h =
    pairwise_cons (f x) R (filter_map f xs)
    (λ y e. each_chosen f (R y) xs (each_weaker (λ (z : X). (v w : Y) → f x ≡ Some v → f z ≡ Some w → R v w) (λ (z : X). (w : Y) → f z ≡ Some w → R y w) (λ z g w. g y w e) xs h.0))
    (pairwise_chosen f R xs h.1)

cons_count : {Y : Type 0} (o : Option Y) (ys : List Y) → is_some o ≡ true → length (cons_option o ys) ≡ length ys + 1
cons_count None ys h = absurd cc
cons_count (Some y) ys h = omega arith

pub all_chosen : {X Y : Type 0} (f : X → Option Y) (xs : List X) → AllByRecursion (λ x. is_some (f x) ≡ true) xs → length (filter_map f xs) ≡ length xs
all_chosen f [] h = refl
all_chosen f (x ∷ xs) h = omega (arith, cons_count (f x) (filter_map f xs) h.0, all_chosen f xs h.1)

-- ---- ports by their places and by their value references

pub each_got : {X : Type 0} (P : X → Type 0) (xs : List X) (i : ℕ) (x : X) → AllByRecursion P xs → slice_get xs i ≡ Some x → P x
each_got P [] i x h e = absurd cc
each_got P (y ∷ ys) zero x h e = let same : y ≡ x = cc in subst P same h.0
each_got P (y ∷ ys) (suc i) x h e = each_got P ys i x h.1 e

found_from : (ports : List Port) (i : ℕ) (q : Port) → Pairwise (λ p q. p.vr ≢ q.vr) ports → slice_get ports i ≡ Some q → port_with q.vr ports ≡ Some q
found_from [] i q h e = absurd cc
found_from (p ∷ ports) zero q h e =
    let same : p ≡ q = cc in
    let t : (p.vr == q.vr) ≡ true = let s : p.vr ≡ q.vr = ap (λ (x : Port). x.vr) same in grind (arith, nat_tests, s) in
    rw t (ap Some same)
found_from (p ∷ ports) (suc i) q h e =
    let other : p.vr ≢ q.vr = each_got (λ (x : Port). p.vr ≢ x.vr) ports i q h.0 e in
    let t : (p.vr == q.vr) ≡ false = grind (arith, nat_tests, other) in
    rw t (found_from ports i q h.1 e)

-- a port is found by its value reference
pub port_found : (ports : List Port) (i : ℕ) (q : Port) → AreApart ports → slice_get ports i ≡ Some q → port_with q.vr ports ≡ Some q
port_found ports i q apart e = found_from ports i q (pairwise_from_all (λ (p q : Port). p.vr ≢ q.vr) ports apart) e

-- ports at two places have two value references
pub ports_differ : (ports : List Port) (i j : ℕ) (q r : Port) → AreApart ports → slice_get ports i ≡ Some q → slice_get ports j ≡ Some r → i ≢ j → eqb q.vr r.vr ≡ false
ports_differ ports i j q r apart e f other =
    let x : get_or ports i q ≡ q = get_or_from_slice_get ports i q q e in
    let y : get_or ports j q ≡ r = get_or_from_slice_get ports j r q f in
    let in_i : i < length ports = slice_get_within ports i q e in
    let in_j : j < length ports = slice_get_within ports j r f in
    let apart' : q.vr ≢ r.vr = λ same.
    ⊎_elim
    (λ (l : i < j). apart i j q l in_j (ap (λ (p : Port). p.vr) x ∙ same ∙ sym (ap (λ (p : Port). p.vr) y)))
    (λ (l : j < i). apart j i q l in_i (ap (λ (p : Port). p.vr) y ∙ sym same ∙ sym (ap (λ (p : Port). p.vr) x)))
    (grind (arith, nat_tests, other)) in
    grind (arith, nat_tests, apart')

-- ---- what feeds an input

-- the slave and the output that an input takes its values from
abbrev pub sender : Wire → Pair
sender w = record { from = w.from; to = w.out }

abbrev pub fed_by : List Wire → (s i : ℕ) → Option Pair
fed_by wires s i = option_map sender (wire_into wires s i)

none_into : (v : Wire) (wires : List Wire) (s i : ℕ) → AllByRecursion (λ w. same_input v w ≡ false) wires → v.to ≡ s → v.into ≡ i → wire_into wires s i ≡ None
none_into v [] s i h a b = refl
none_into v (w ∷ wires) s i h a b =
    by_test ((w.to == s) && (w.into == i))
    (λ e. absurd (let t : w.to ≡ s = eqb-true w.to s (left (w.to == s) (w.into == i) e) in
    let u : w.into ≡ i = eqb-true w.into i (right (w.to == s) (w.into == i) e) in
    let x : (v.to == w.to) ≡ true = grind (arith, nat_tests, a, t) in
    let y : (v.into == w.into) ≡ true = grind (arith, nat_tests, b, u) in
    let same : same_input v w ≡ true = rw (x, y) refl in
    let other : same_input v w ≡ false = h.0 in
    cc))
    (λ e. rw e (none_into v wires s i h.1 a b))

-- a position is that of the one wire into its input
pub fed_from : (wires : List Wire) (from s : ℕ) (p : Pair) → Pairwise (λ v w. same_input v w ≡ false) wires → is_wire wires from s p ≡ true → fed_by wires s p.to ≡ Some (record { from = from; to = p.from })
fed_from [] from s p one h = absurd cc
fed_from (v ∷ wires) from s p one h =
    by_test (((v.from == from) && (v.to == s)) && ((v.out == p.from) && (v.into == p.to)))
    (λ e. let ends = left ((v.from == from) && (v.to == s)) ((v.out == p.from) && (v.into == p.to)) e in
    let ports = right ((v.from == from) && (v.to == s)) ((v.out == p.from) && (v.into == p.to)) e in
    let f : v.from ≡ from = eqb-true v.from from (left (v.from == from) (v.to == s) ends) in
    let o : v.out ≡ p.from = eqb-true v.out p.from (left (v.out == p.from) (v.into == p.to) ports) in
    let t = right (v.from == from) (v.to == s) ends in
    let i = right (v.out == p.from) (v.into == p.to) ports in
    rw (t, i) (ap Some (rw (f, o) refl)))
    (λ e. let rest : is_wire wires from s p ≡ true = rw e at h in
    let fed = fed_from wires from s p one.1 rest in
    by_test ((v.to == s) && (v.into == p.to))
    (λ t. absurd (let none : wire_into wires s p.to ≡ None = none_into v wires s p.to one.0 (eqb-true v.to s (left (v.to == s) (v.into == p.to) t)) (eqb-true v.into p.to (right (v.to == s) (v.into == p.to) t)) in
    let gone : fed_by wires s p.to ≡ None = ap (option_map sender) none in
    cc))
    (λ t. rw t fed))

-- a wire of a pair of slaves
pub some_wire : (P : Wire → Type 0) (wires : List Wire) (from to : ℕ) (p : Pair) → AllByRecursion P wires → is_wire wires from to p ≡ true
    → (w : Wire) × P w × (w.from ≡ from) × (w.to ≡ to) × (w.out ≡ p.from) × (w.into ≡ p.to)
some_wire P [] from to p all h = absurd cc
some_wire P (v ∷ wires) from to p all h =
    by_test (((v.from == from) && (v.to == to)) && ((v.out == p.from) && (v.into == p.to)))
    (λ e. let ends = left ((v.from == from) && (v.to == to)) ((v.out == p.from) && (v.into == p.to)) e in
    let ports = right ((v.from == from) && (v.to == to)) ((v.out == p.from) && (v.into == p.to)) e in (
      v,
      all.0,
      eqb-true v.from from (left (v.from == from) (v.to == to) ends),
      eqb-true v.to to (right (v.from == from) (v.to == to) ends),
      eqb-true v.out p.from (left (v.out == p.from) (v.into == p.to) ports),
      eqb-true v.into p.to (right (v.out == p.from) (v.into == p.to) ports),
    ))
    (λ e. some_wire P wires from to p all.1 (rw e at h))

-- ---- what is told, by the ports

pub inputs_are : (id i : ℕ) (ports : List Port) (ps : List Pair) → AllByRecursion (λ (p : Pair). is_some (slice_get ports p.to) ≡ true) ps
    → numbered (λ i (p : Pair). input_at id i (slice_get ports p.to)) i ps ≡ inputs_under id i (filter_map (λ (p : Pair). slice_get ports p.to) ps)
inputs_are id i ports [] h = refl
inputs_are id i ports (p ∷ ps) h = one_input (slice_get ports p.to) h.0 (inputs_are id (i + 1) ports ps h.1)
  where
    one_input : (o : Option Port) → is_some o ≡ true
        → numbered (λ i (p : Pair). input_at id i (slice_get ports p.to)) (i + 1) ps ≡ inputs_under id (i + 1) (filter_map (λ (p : Pair). slice_get ports p.to) ps)
        → input_at id i o ++ numbered (λ i (p : Pair). input_at id i (slice_get ports p.to)) (i + 1) ps ≡ inputs_under id i (cons_option o (filter_map (λ (p : Pair). slice_get ports p.to) ps))
    one_input None h e = absurd cc
    one_input (Some q) h e = ap (λ (l : List Cfg). cfg.Input id i q.vr q.kind ∷ l) e

pub outputs_are : (id i : ℕ) (ports : List Port) (ps : List Pair) → AllByRecursion (λ (p : Pair). is_some (slice_get ports p.from) ≡ true) ps
    → numbered (λ i (p : Pair). output_at id i (slice_get ports p.from)) i ps ≡ outputs_under id i (filter_map (λ (p : Pair). slice_get ports p.from) ps)
outputs_are id i ports [] h = refl
outputs_are id i ports (p ∷ ps) h = one_output (slice_get ports p.from) h.0 (outputs_are id (i + 1) ports ps h.1)
  where
    one_output : (o : Option Port) → is_some o ≡ true
        → numbered (λ i (p : Pair). output_at id i (slice_get ports p.from)) (i + 1) ps ≡ outputs_under id (i + 1) (filter_map (λ (p : Pair). slice_get ports p.from) ps)
        → output_at id i o ++ numbered (λ i (p : Pair). output_at id i (slice_get ports p.from)) (i + 1) ps ≡ outputs_under id i (cons_option o (filter_map (λ (p : Pair). slice_get ports p.from) ps))
    one_output None h e = absurd cc
    one_output (Some q) h e = ap (λ (l : List Cfg). cfg.Output id i q.vr ∷ l) e

pub watched_are : (id i : ℕ) (ports : List Port) → numbered (λ i (p : Port). output_at id i (Some p)) i ports ≡ outputs_under id i ports
watched_are id i [] = refl
watched_are id i (q ∷ ports) = ap (λ (l : List Cfg). cfg.Output id i q.vr ∷ l) (watched_are id (i + 1) ports)
