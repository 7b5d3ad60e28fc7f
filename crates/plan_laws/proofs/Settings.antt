-- The settings of a sound scenario, run by run.
use Rattle.std.proofs.Common.{◌≡◌, ℕ, suc, ◌+◌, ◌<◌, ◌≤◌, Bool, true, false, cond, List, [], ◌∷◌, ◌++◌, length, map, take, refl, ap, sym, ◌∙◌, subst, arith, Some, ℤ, append_assoc}
use Rattle.std.specs.Prelude.{◌==◌, ◌&&◌, nat_lt, nat_le, filter, slice_set}
use Rattle.std.specs.List.{AllByRecursion}
use Rattle.std.proofs.lemmas.Bool.{eqb-true}
use Rattle.std.proofs.lemmas.Bool.Decides.{nat_tests}
use Rattle.std.proofs.lemmas.List.{append-nil, map-append, length-set}
use Rattle.fixed_models.specs.declared.kinds.Kind.{Kind}
use Rattle.fixed_models.specs.Kinds.{takes}
use Rattle.slave_desc.specs.declared.descriptions.SlaveDesc.{SlaveDesc}
use Rattle.scenario.specs.declared.scenarios.Setting.{Setting}
use Rattle.scenario.specs.declared.scenarios.Rerun.{Rerun}
use Rattle.scenario.specs.declared.scenarios.Scenario.{Scenario}
use Rattle.scenario.specs.Lookups.{slave_at, parameters_in, parameters_at}
use Rattle.scenario.specs.Settings.{changed, changed_by, setting_in, settings_until, parameters, taken_by}
use Rattle.scenario.specs.Sound.{IsScenario, IsSetting, IsRerun}
use Rattle.scenario.specs.Sound as sound
use Rattle.scenario.proofs.Changes.{changed-append}
use Rattle.plan_laws.specs.Taking.{IsScenarioSlave}
use Rattle.plan_laws.proofs.Lists.{by_test, Pairwise, each_weaker, each_append, each_map, each_from_all, pairwise_from_all}
use Rattle.plan_laws.proofs.Planned.{slave_there}
use Rattle.plan_laws.proofs.Machines.{AreFine, IsOfSlave, value_fits}

-- ---- settings one after the other

fine_from : (kind : Kind) (n : ℕ) (ps : List ℤ) (s : ℕ) (ys : List Setting) → length ps ≡ n → ((k : ℕ) → takes kind (changed ps s (take k ys)) ≡ true) → AllByRecursion (IsOfSlave s n) ys → AreFine kind ps s ys
fine_from kind n ps s [] count taken own = tt
fine_from kind n ps s (y ∷ ys) count taken own =
    (subst (λ (m : ℕ). IsOfSlave s m y) (sym count) own.0, taken 1, fine_from kind n (changed_by ps s y) s ys (same_count ∙ count) (λ k. taken (suc k)) own.1)
  where
    same_count : length (changed_by ps s y) ≡ length ps
    same_count = elim ((y.slave == s) && nat_lt y.index (length ps)) as (λ b. length (cond b (slice_set ps y.index y.value) ps) ≡ length ps) [ true ↦ length-set ps y.index y.value | false ↦ refl ]

pub fine_front : (kind : Kind) (ps : List ℤ) (s : ℕ) (xs ys : List Setting) → AreFine kind ps s (xs ++ ys) → AreFine kind ps s xs
fine_front kind ps s [] ys h = tt
fine_front kind ps s (x ∷ xs) ys h = (h.0, h.1, fine_front kind (changed_by ps s x) s xs ys h.2)

pub fine_back : (kind : Kind) (ps : List ℤ) (s : ℕ) (xs ys : List Setting) → AreFine kind ps s (xs ++ ys) → AreFine kind (changed ps s xs) s ys
fine_back kind ps s [] ys h = h
fine_back kind ps s (x ∷ xs) ys h = fine_back kind (changed_by ps s x) s xs ys h.2

own_setting : (sc : Scenario) (s : ℕ) (d : SlaveDesc) (y : Setting) → slave_at sc.slaves s ≡ Some d → IsSetting sc.slaves y → IsOfSlave s (length d.parameters) y
own_setting sc s d y slave is e =
    let here : y.slave ≡ s = eqb-true y.slave s e in
    let own : parameters_at sc.slaves y.slave ≡ d.parameters = ap (parameters_at sc.slaves) here ∙ ap parameters_in slave in
    (subst (λ (ps : List ℤ). y.index < length ps) own is.index, value_fits y.value is.value)

-- all settings of a scenario, those of the later runs behind those of the first
pub all_fine : (sc : Scenario) (s : ℕ) (d : SlaveDesc) → IsScenarioSlave sc s d → AreFine d.kind d.parameters s (sound.changes sc.settings sc.reruns)
all_fine sc s d h =
    let t = slave_there sc.slaves s d h.sound.slaves h.slave in
    let own : parameters_at sc.slaves s ≡ d.parameters = ap parameters_in h.slave in
    let taken : (k : ℕ) → takes d.kind (changed d.parameters s (take k (sound.changes sc.settings sc.reruns))) ≡ true =
    λ k. subst (λ (ps : List ℤ). takes d.kind (changed ps s (take k (sound.changes sc.settings sc.reruns))) ≡ true) own
    (ap (λ o. taken_by o (changed (parameters_at sc.slaves s) s (take k (sound.changes sc.settings sc.reruns)))) (sym h.slave) ∙ h.sound.taken k s (t.first, t.last)) in
    fine_from d.kind (length d.parameters) d.parameters s (sound.changes sc.settings sc.reruns) refl taken
    (each_append (IsOfSlave s (length d.parameters)) sc.settings (map setting_in sc.reruns)
    (each_weaker (λ (y : Setting). IsSetting sc.slaves y) (IsOfSlave s (length d.parameters)) (λ y. own_setting sc s d y h.slave) sc.settings (each_from_all (λ (y : Setting). IsSetting sc.slaves y) sc.settings h.sound.settings))
    (each_map (IsOfSlave s (length d.parameters)) setting_in sc.reruns
    (each_weaker (λ (r : Rerun). IsRerun sc.slaves sc.runs r) (λ (r : Rerun). IsOfSlave s (length d.parameters) (setting_in r)) (λ r k. own_setting sc s d (setting_in r) h.slave k.setting) sc.reruns (each_from_all (λ (r : Rerun). IsRerun sc.slaves sc.runs r) sc.reruns h.sound.reruns))))

-- ---- the settings of a run

none_pass : {X : Type 0} (p : X → Bool) (xs : List X) → AllByRecursion (λ x. p x ≡ false) xs → filter p xs ≡ []
none_pass p [] h = refl
none_pass p (x ∷ xs) h = rw h.0 (none_pass p xs h.1)

abbrev pub until : ℕ → List Rerun → List Rerun
until k rs = filter (λ (x : Rerun). nat_le x.run k) rs

abbrev pub before_run : ℕ → List Rerun → List Rerun
before_run k rs = filter (λ (x : Rerun). x.run == k) rs

abbrev InOrder : List Rerun → Type 0
InOrder rs = Pairwise (λ (q r : Rerun). q.run ≤ r.run) rs

none_until : (k : ℕ) (x : Rerun) (rs : List Rerun) → k < x.run → AllByRecursion (λ (r : Rerun). x.run ≤ r.run) rs → until k rs ≡ []
none_until k x rs late order =
    none_pass (λ (r : Rerun). nat_le r.run k) rs (each_weaker (λ (r : Rerun). x.run ≤ r.run) (λ (r : Rerun). nat_le r.run k ≡ false) (λ r l. grind (arith, nat_tests, l, late)) rs order)

-- the settings up to the next run are those up to this one, and then those of the next
pub until_next : (k : ℕ) (rs : List Rerun) → InOrder rs → until (k + 1) rs ≡ until k rs ++ before_run (k + 1) rs
until_next k [] order = refl
until_next k (x ∷ rs) order =
    by_test (nat_le x.run k)
    (λ e. let a : nat_le x.run (k + 1) ≡ true = grind (arith, nat_tests, e) in
    let b : (x.run == k + 1) ≡ false = grind (arith, nat_tests, e) in
    rw (a, e, b) (ap (λ (l : List Rerun). x ∷ l) (until_next k rs order.1)))
    (λ e. let late : k < x.run = grind (arith, nat_tests, e) in
    let none : until k rs ≡ [] = none_until k x rs late order.0 in
    let rest : until (k + 1) rs ≡ before_run (k + 1) rs = until_next k rs order.1 ∙ ap (λ (l : List Rerun). l ++ before_run (k + 1) rs) none in
    by_test (x.run == k + 1)
    (λ f. let a : nat_le x.run (k + 1) ≡ true = grind (arith, nat_tests, f) in
    rw (a, e, f, none) (ap (λ (l : List Rerun). x ∷ l) rest))
    (λ f. let a : nat_le x.run (k + 1) ≡ false = grind (arith, nat_tests, e, f) in
    rw (a, e, f, none) rest))

-- the settings up to a run stand in front
pub until_front : (k : ℕ) (rs : List Rerun) → InOrder rs → (later : List Rerun) × (rs ≡ until k rs ++ later)
until_front k [] order = ([], refl)
until_front k (x ∷ rs) order =
    by_test (nat_le x.run k)
    (λ e. let rest = until_front k rs order.1 in (rest.0, rw e (ap (λ (l : List Rerun). x ∷ l) rest.1)))
    (λ e. let late : k < x.run = grind (arith, nat_tests, e) in
    let none : until k rs ≡ [] = none_until k x rs late order.0 in
    (x ∷ rs, rw (e, none) refl))

in_order : (sc : Scenario) → IsScenario sc → InOrder sc.reruns
in_order sc h = pairwise_from_all (λ (q r : Rerun). q.run ≤ r.run) sc.reruns h.in_order

-- the settings for the run after run r
abbrev pub settings_for : Scenario → (r : ℕ) → List Setting
settings_for sc r = map setting_in (before_run (r + 1) sc.reruns)

until_grows : (sc : Scenario) (r : ℕ) → IsScenario sc → settings_until sc (r + 1) ≡ settings_until sc r ++ settings_for sc r
until_grows sc r h =
    ap (λ (l : List Rerun). sc.settings ++ map setting_in l) (until_next r sc.reruns (in_order sc h))
    ∙ ap (λ (l : List Setting). sc.settings ++ l) (map-append setting_in (until r sc.reruns) (before_run (r + 1) sc.reruns))
    ∙ sym (append_assoc sc.settings (map setting_in (until r sc.reruns)) (settings_for sc r))

-- the parameters of the next run are those of this one, set anew
pub parameters_next : (sc : Scenario) (s : ℕ) (d : SlaveDesc) (r : ℕ) → IsScenario sc → changed (parameters sc s d r) s (settings_for sc r) ≡ parameters sc s d (r + 1)
parameters_next sc s d r h = sym (changed-append d.parameters s (settings_until sc r) (settings_for sc r)) ∙ ap (changed d.parameters s) (sym (until_grows sc r h))

-- before the first run the settings are set
pub parameters_first : (sc : Scenario) (s : ℕ) (d : SlaveDesc) → IsScenario sc → changed d.parameters s sc.settings ≡ parameters sc s d 1
parameters_first sc s d h =
    let none : until 1 sc.reruns ≡ [] =
    none_pass (λ (r : Rerun). nat_le r.run 1) sc.reruns
    (each_weaker (λ (r : Rerun). IsRerun sc.slaves sc.runs r) (λ (r : Rerun). nat_le r.run 1 ≡ false) (λ r k. let l : 2 ≤ r.run = k.run.0 in grind (arith, nat_tests, l)) sc.reruns (each_from_all (λ (r : Rerun). IsRerun sc.slaves sc.runs r) sc.reruns h.reruns)) in
    ap (changed d.parameters s) (sym (ap (λ (l : List Rerun). sc.settings ++ map setting_in l) none ∙ append-nil sc.settings))

pub first_fine : (sc : Scenario) (s : ℕ) (d : SlaveDesc) → IsScenarioSlave sc s d → AreFine d.kind d.parameters s sc.settings
first_fine sc s d h = fine_front d.kind d.parameters s sc.settings (map setting_in sc.reruns) (all_fine sc s d h)

pub next_fine : (sc : Scenario) (s : ℕ) (d : SlaveDesc) (r : ℕ) → IsScenarioSlave sc s d → AreFine d.kind (parameters sc s d r) s (settings_for sc r)
next_fine sc s d r h =
    let front = until_front (r + 1) sc.reruns (in_order sc h.sound) in
    let later : List Setting = map setting_in front.0 in
    let split : sound.changes sc.settings sc.reruns ≡ (settings_until sc r ++ settings_for sc r) ++ later =
    ap (λ (l : List Rerun). sc.settings ++ map setting_in l) front.1
    ∙ ap (λ (l : List Setting). sc.settings ++ l) (map-append setting_in (until (r + 1) sc.reruns) front.0)
    ∙ sym (append_assoc sc.settings (map setting_in (until (r + 1) sc.reruns)) later)
    ∙ ap (λ (l : List Setting). l ++ later) (until_grows sc r h.sound) in
    fine_back d.kind d.parameters s (settings_until sc r) (settings_for sc r)
    (fine_front d.kind d.parameters s (settings_until sc r ++ settings_for sc r) later (subst (AreFine d.kind d.parameters s) split (all_fine sc s d h)))
