-- The parameters of a run, setting by setting.
use Rattle.std.proofs.Common.{◌≡◌, ℕ, suc, ◌+◌, ◌≤◌, ◌<◌, Bool, true, false, not, ◌==◌, ◌&&◌, List, [], ◌∷◌, ◌++◌, length, take, map, refl, sym, ◌∙◌, ap, arith, ℤ, Option, Some}
use Rattle.std.specs.Prelude.{filter, nat_le, All, AllPairs}
use Rattle.std.proofs.Math.Seq.{take-append-add}
use Rattle.std.proofs.lemmas.Bool.{leb-false, lt-leb}
use Rattle.std.proofs.lemmas.List.{take-map, length-map}
use Rattle.fixed_models.specs.Kinds.{is_external, takes, output_count}
use Rattle.slave_desc.specs.declared.descriptions.SlaveDesc.{SlaveDesc}
use Rattle.slave_desc.specs.Descriptions.{IsDesc, HasModel}
use Rattle.scenario.specs.declared.scenarios.Scenario.{Scenario}
use Rattle.scenario.specs.declared.scenarios.Setting.{Setting}
use Rattle.scenario.specs.declared.scenarios.Rerun.{Rerun}
use Rattle.scenario.specs.Lookups.{slave_at, parameters_at, parameters_in}
use Rattle.scenario.specs.Settings.{changed, setting_in, taken_by, takes_at, settings_until, parameters}
use Rattle.scenario.specs.Sound.{IsScenario, changes}
use Rattle.fixed_models.specs.Views.{accepts}
use Rattle.lockstep.specs.Parts.{types_of_outputs}
use Rattle.lockstep.proofs.Serving.{outputs_counted}

AllPairs-head : {X : Type 0} (R : X → X → Type 0) (x : X) (xs : List X) → AllPairs R (x ∷ xs) → All (R x) xs
AllPairs-head R x xs h k d lt = h 0 (suc k) d (omega arith) (omega arith)

AllPairs-tail : {X : Type 0} (R : X → X → Type 0) (x : X) (xs : List X) → AllPairs R (x ∷ xs) → AllPairs R xs
AllPairs-tail R x xs h i j d lt lt' = h (suc i) (suc j) d (omega arith) (omega arith)

none_due : (r : ℕ) (xs : List Rerun) → All (λ x. r < x.run) xs → filter (λ x. nat_le x.run r) xs ≡ []
none_due r [] h = refl
none_due r (x ∷ xs) h =
    let late : nat_le x.run r ≡ false = lt-leb x.run r (h 0 x (omega arith)) in
    let rest = none_due r xs (λ k d lt. h (suc k) d (omega arith)) in
    rw late rest

front_cases : (b : Bool) (r : ℕ) (x : Rerun) (xs : List Rerun) → nat_le x.run r ≡ b → All (λ y. x.run ≤ y.run) xs →
    filter (λ y. nat_le y.run r) xs ≡ take (length (filter (λ y. nat_le y.run r) xs)) xs →
    filter (λ y. nat_le y.run r) (x ∷ xs) ≡ take (length (filter (λ y. nat_le y.run r) (x ∷ xs))) (x ∷ xs)
front_cases true r x xs e later rest = rw e (ap (λ (ys : List Rerun). x ∷ ys) rest)
front_cases false r x xs e later rest =
    let late : r < x.run = leb-false x.run r e in
    let none : filter (λ y. nat_le y.run r) xs ≡ [] = none_due r xs (λ k d lt. let le = later k d lt in omega (arith, le, late)) in
    rw (e, none) refl

-- what is due comes first
due_first : (r : ℕ) (xs : List Rerun) → AllPairs (λ x y. x.run ≤ y.run) xs → filter (λ x. nat_le x.run r) xs ≡ take (length (filter (λ x. nat_le x.run r) xs)) xs
due_first r [] h = refl
due_first r (x ∷ xs) h =
    front_cases (nat_le x.run r) r x xs refl (AllPairs-head (λ x y. x.run ≤ y.run) x xs h) (due_first r xs (AllPairs-tail (λ x y. x.run ≤ y.run) x xs h))

settings_first : (sc : Scenario) (r : ℕ) → IsScenario sc → settings_until sc r ≡ take (length sc.settings + length (filter (λ x. nat_le x.run r) sc.reruns)) (changes sc.settings sc.reruns)
settings_first sc r sound =
    let n = length (filter (λ x. nat_le x.run r) sc.reruns) in
    ap (λ (xs : List Rerun). sc.settings ++ map setting_in xs) (due_first r sc.reruns sound.in_order)
    ∙ ap (λ (xs : List Setting). sc.settings ++ xs) (sym (take-map setting_in n sc.reruns))
    ∙ sym (take-append-add sc.settings (map setting_in sc.reruns) n)

both_true : (a b : Bool) → a ≡ true → b ≡ true → (a && b) ≡ true
both_true a b h k = rw h k

-- the kind takes the parameters of each run
pub accepted : (sc : Scenario) (s r : ℕ) (d : SlaveDesc) → IsScenario sc → slave_at sc.slaves s ≡ Some d → (1 ≤ s) × (s ≤ length sc.slaves) → IsDesc d → HasModel d → accepts d.kind (parameters sc s d r) (length (types_of_outputs d)) ≡ true
accepted sc s r d sound is slave desc here =
    let n = length sc.settings + length (filter (λ x. nat_le x.run r) sc.reruns) in
    let all = sound.taken n s slave in
    let same : parameters_at sc.slaves s ≡ d.parameters = ap parameters_in is in
    let took : taken_by (Some d) (changed d.parameters s (take n (changes sc.settings sc.reruns))) ≡ true =
    ap (λ (o : Option SlaveDesc). taken_by o (changed d.parameters s (take n (changes sc.settings sc.reruns)))) (sym is)
    ∙ ap (λ (ps : List ℤ). takes_at sc.slaves s (changed ps s (take n (changes sc.settings sc.reruns)))) (sym same)
    ∙ all in
    let taken : takes d.kind (parameters sc s d r) ≡ true =
    ap (λ (xs : List Setting). takes d.kind (changed d.parameters s xs)) (settings_first sc r sound) ∙ took in
    let count : (length (types_of_outputs d) == output_count d.kind) ≡ true =
    ap (λ (x : ℕ). x == output_count d.kind) (length-map d.outputs (λ p. p.kind)) ∙ outputs_counted d desc here in
    both_true (not (is_external d.kind) && takes d.kind (parameters sc s d r)) (length (types_of_outputs d) == output_count d.kind) (both_true (not (is_external d.kind)) (takes d.kind (parameters sc s d r)) (ap not here) taken) count
