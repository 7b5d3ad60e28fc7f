-- The entries of one data id are taken one after the other.
use Rattle.std.proofs.Common.{◌≡◌, ℕ, ◌+◌, ◌<◌, ◌≤◌, true, false, eqb, List, [], ◌∷◌, length, refl, sym, subst, arith, Some, None}
use Rattle.std.specs.Prelude.{nat_lt, ◌==◌}
use Rattle.std.specs.List.{AllByRecursion}
use Rattle.std.proofs.lemmas.Bool.Decides.{nat_tests}
use Rattle.dcp_types.specs.declared.data_types.DataType.{DataType}
use Rattle.dcp_types.specs.Codes.{type_code}
use Rattle.pdu_layout.specs.declared.messages.Cfg.{Cfg}
use Rattle.pdu_layout.specs.declared.messages.Cfg.TheVariants as cfg
use Rattle.slave_desc.specs.declared.ports.Port.{Port}
use Rattle.slave_desc.specs.declared.descriptions.SlaveDesc.{SlaveDesc}
use Rattle.slave_spec.specs.Changes.{Change, Set, input, output, entries, has_id, ids, put_ascending}
use Rattle.slave_spec.specs.Refusals.{refusal_of_setting, is_wired, is_full, port_with}
use Rattle.plan_laws.proofs.Lists.{Pairwise, each_both}
use Rattle.plan_laws.proofs.Told.{AreTold, onto, put_few, put_again}

-- these inputs under an id, from a position on
abbrev pub inputs_under : (id i : ℕ) → List Port → List Cfg
inputs_under id i [] = []
inputs_under id i (q ∷ qs) = cfg.Input id i q.vr q.kind ∷ inputs_under id (i + 1) qs

-- these outputs under an id, from a position on
abbrev pub outputs_under : (id i : ℕ) → List Port → List Cfg
outputs_under id i [] = []
outputs_under id i (q ∷ qs) = cfg.Output id i q.vr ∷ outputs_under id (i + 1) qs

pub each_input_under : (P : Cfg → Type 0) (id i : ℕ) (qs : List Port) → AllByRecursion (λ q. (j : ℕ) → P (cfg.Input id j q.vr q.kind)) qs → AllByRecursion P (inputs_under id i qs)
each_input_under P id i [] h = tt
each_input_under P id i (q ∷ qs) h = (h.0 i, each_input_under P id (i + 1) qs h.1)

pub each_output_under : (P : Cfg → Type 0) (id i : ℕ) (qs : List Port) → ((j vr : ℕ) → P (cfg.Output id j vr)) → AllByRecursion P (outputs_under id i qs)
each_output_under P id i [] h = tt
each_output_under P id i (q ∷ qs) h = (h i q.vr, each_output_under P id (i + 1) qs h)

-- ---- inputs

same_type : (kind : DataType) → (type_code kind == type_code kind) ≡ true
same_type kind = grind (arith, nat_tests)

-- an input is there, and is not wired yet
abbrev pub IsFree : SlaveDesc → List Change → Port → Type 0
IsFree d changes q = (port_with q.vr d.inputs ≡ Some q) × (is_wired q.vr changes ≡ false)

input_fine : (d : SlaveDesc) (changes : List Change) (id i : ℕ) (q : Port) → length (entries input id changes) ≡ i → IsFree d changes q → refusal_of_setting d changes (cfg.Input id i q.vr q.kind) ≡ None
unfolding refusal_of_setting
input_fine d changes id i q count free =
    let t : (type_code q.kind == type_code q.kind) ≡ true = same_type q.kind in
    let n : (i == length (entries input id changes)) ≡ true = grind (arith, nat_tests, count) in
    rw (free.0, t, n, free.1) refl

still_free : (d : SlaveDesc) (changes : List Change) (id i : ℕ) (q r : Port) → eqb q.vr r.vr ≡ false → IsFree d changes r → IsFree d (Set (cfg.Input id i q.vr q.kind) ∷ changes) r
still_free d changes id i q r other free = (free.0, rw other free.1)

pub inputs_told : (d : SlaveDesc) (id i : ℕ) (qs : List Port) (changes : List Change) → length (entries input id changes) ≡ i → AllByRecursion (IsFree d changes) qs → Pairwise (λ q r. eqb q.vr r.vr ≡ false) qs
    → AreTold d changes (inputs_under id i qs)
inputs_told d id i [] changes count free apart = tt
inputs_told d id i (q ∷ qs) changes count free apart =
    let t : (id == id) ≡ true = grind (arith, nat_tests) in
    let more : length (entries input id (Set (cfg.Input id i q.vr q.kind) ∷ changes)) ≡ i + 1 = rw t (omega (arith, count)) in (
      refl,
      input_fine d changes id i q count free.0,
      inputs_told d id (i + 1) qs (Set (cfg.Input id i q.vr q.kind) ∷ changes) more
          (each_both (λ r. eqb q.vr r.vr ≡ false) (IsFree d changes) (IsFree d (Set (cfg.Input id i q.vr q.kind) ∷ changes)) (λ r. still_free d changes id i q r) qs apart.0 free.1) apart.1,
    )

pub inputs_counted : (id i : ℕ) (qs : List Port) (changes : List Change) → length (entries input id (onto (inputs_under id i qs) changes)) ≡ length (entries input id changes) + length qs
inputs_counted id i [] changes = omega arith
inputs_counted id i (q ∷ qs) changes =
    let t : (id == id) ≡ true = grind (arith, nat_tests) in
    let one : length (entries input id (Set (cfg.Input id i q.vr q.kind) ∷ changes)) ≡ length (entries input id changes) + 1 = rw t (omega arith) in
    omega (arith, inputs_counted id (i + 1) qs (Set (cfg.Input id i q.vr q.kind) ∷ changes), one)

-- ---- outputs

output_fine : (d : SlaveDesc) (changes : List Change) (id i : ℕ) (q : Port) → length (entries output id changes) ≡ i → i < 8 → is_full id changes ≡ false → port_with q.vr d.outputs ≡ Some q → refusal_of_setting d changes (cfg.Output id i q.vr) ≡ None
unfolding refusal_of_setting
output_fine d changes id i q count few room there =
    let n : (i == length (entries output id changes)) ≡ true = grind (arith, nat_tests, count) in
    let l : nat_lt i 8 ≡ true = grind (arith, nat_tests, few) in
    rw (room, there, n, l) refl

pub room_for : (id : ℕ) (changes : List Change) → has_id output id changes ≡ true → is_full id changes ≡ false
room_for id changes h = rw h refl

pub outputs_told : (d : SlaveDesc) (id i : ℕ) (qs : List Port) (changes : List Change) → length (entries output id changes) ≡ i → i + length qs ≤ 8 → is_full id changes ≡ false
    → AllByRecursion (λ q. port_with q.vr d.outputs ≡ Some q) qs → AreTold d changes (outputs_under id i qs)
outputs_told d id i [] changes count few room there = tt
outputs_told d id i (q ∷ qs) changes count few room there =
    let t : (id == id) ≡ true = grind (arith, nat_tests) in
    let more : length (entries output id (Set (cfg.Output id i q.vr) ∷ changes)) ≡ i + 1 = rw t (omega (arith, count)) in
    let has : has_id output id (Set (cfg.Output id i q.vr) ∷ changes) ≡ true = rw t (grind (arith, nat_tests)) in (
      refl,
      output_fine d changes id i q count (omega (arith, few)) room there.0,
      outputs_told d id (i + 1) qs (Set (cfg.Output id i q.vr) ∷ changes) more (omega (arith, few)) (room_for id (Set (cfg.Output id i q.vr) ∷ changes) has) there.1,
    )

pub outputs_counted : (id i : ℕ) (qs : List Port) (changes : List Change) → length (entries output id (onto (outputs_under id i qs) changes)) ≡ length (entries output id changes) + length qs
outputs_counted id i [] changes = omega arith
outputs_counted id i (q ∷ qs) changes =
    let t : (id == id) ≡ true = grind (arith, nat_tests) in
    let one : length (entries output id (Set (cfg.Output id i q.vr) ∷ changes)) ≡ length (entries output id changes) + 1 = rw t (omega arith) in
    omega (arith, outputs_counted id (i + 1) qs (Set (cfg.Output id i q.vr) ∷ changes), one)

few_ids : (id i m : ℕ) (qs : List Port) (changes : List Change) → length (ids output changes) ≤ m → length (put_ascending id (ids output changes)) ≤ m → length (ids output (onto (outputs_under id i qs) changes)) ≤ m
few_ids id i m [] changes h k = h
few_ids id i m (q ∷ qs) changes h k =
    few_ids id (i + 1) m qs (Set (cfg.Output id i q.vr) ∷ changes) k (subst (λ (xs : List ℕ). length xs ≤ m) (sym (put_again id (ids output changes))) k)

-- one more id at most
pub outputs_few : (id i : ℕ) (qs : List Port) (changes : List Change) → length (ids output (onto (outputs_under id i qs) changes)) ≤ length (ids output changes) + 1
outputs_few id i qs changes = few_ids id i (length (ids output changes) + 1) qs changes (omega arith) (put_few id (ids output changes))
