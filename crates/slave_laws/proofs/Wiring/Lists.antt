-- The lists of a plan, one behind the other.
use Rattle.std.proofs.Common.{◌≡◌, ℕ, zero, suc, ◌+◌, List, [], ◌∷◌, ◌++◌, map, refl, sym, ap, ◌∙◌, arith}
use Rattle.std.specs.Prelude.{filter, ◌==◌}
use Rattle.std.specs.List.{flat_map, range_with_len}
use Rattle.std.proofs.lemmas.List.{append-nil, append_assoc}
use Rattle.std.proofs.lemmas.Grind.{flat_map-append}
use Rattle.pdu_layout.specs.declared.messages.Cfg.{Cfg}
use Rattle.slave_desc.specs.declared.descriptions.SlaveDesc.{SlaveDesc}
use Rattle.scenario.specs.declared.scenarios.Scenario.{Scenario}
use Rattle.scenario.specs.declared.scenarios.Setting.{Setting}
use Rattle.master_spec.specs.PlanSetup.{setup_list, adjust_list, set_parameter}
use Rattle.plan_laws.specs.Runs.{lists_until}
use Rattle.slave_spec.specs.Changes.{Change}
use Rattle.slave_laws.specs.Wiring.Wired.{changes_with, changes_after, planned_changes, changes_restarted}

-- what was set before the run that comes after so many resets, and what is set before it
abbrev pub lists_before : Scenario → (s : ℕ) → SlaveDesc → ℕ → List Cfg
lists_before sc s d zero = []
lists_before sc s d (suc k) = lists_until sc s d k

abbrev pub list_at : Scenario → (s : ℕ) → SlaveDesc → ℕ → List Cfg
list_at sc s d zero = setup_list sc s d
list_at sc s d (suc k) = adjust_list sc (suc k) s

abbrev pub changes_before : (steps : ℕ) → List Change → ℕ → List Change
changes_before steps changes zero = []
changes_before steps changes (suc k) = changes_restarted steps changes (suc k)

range_more : (a k : ℕ) → range_with_len a (suc k) ≡ range_with_len a k ++ (a + k) ∷ []
range_more a zero = let e : a ≡ a + 0 = omega arith in ap (λ n. n ∷ []) e
range_more a (suc k) = let e : (a + 1) + k ≡ a + suc k = omega arith in ap (λ l. a ∷ l) (range_more (a + 1) k ∙ ap (λ n. range_with_len (a + 1) k ++ n ∷ []) e)

pub joined : (sc : Scenario) (s : ℕ) (d : SlaveDesc) (r : ℕ) → lists_before sc s d r ++ list_at sc s d r ≡ lists_until sc s d r
joined sc s d zero = sym (append-nil (setup_list sc s d))
joined sc s d (suc k) =
    let f : ℕ → List Cfg = λ n. adjust_list sc n s in
    let last : flat_map f ((1 + k) ∷ []) ≡ adjust_list sc (suc k) s = let e : 1 + k ≡ suc k = omega arith in append-nil (f (1 + k)) ∙ ap f e in
    append_assoc (setup_list sc s d) (flat_map f (range_with_len 1 k)) (adjust_list sc (suc k) s)
    ∙ ap (λ l. setup_list sc s d ++ l) (ap (λ l. flat_map f (range_with_len 1 k) ++ l) (sym last) ∙ sym (flat_map-append f (range_with_len 1 k) ((1 + k) ∷ [])) ∙ ap (flat_map f) (sym (range_more 1 k)))

-- ---- changes
pub after_more : (base : List Change) (xs : List Cfg) (body : Cfg) → changes_after base (xs ++ body ∷ []) ≡ changes_with body (changes_after base xs)
after_more base [] body = refl
after_more base (x ∷ xs) body = after_more (changes_with x base) xs body

parameters_keep : (base : List Change) (xs : List Setting) → changes_after base (map set_parameter xs) ≡ base
parameters_keep base [] = refl
parameters_keep base (x ∷ xs) = parameters_keep base xs

-- what is set before a later run changes no wiring
pub settled : (sc : Scenario) (s : ℕ) (d : SlaveDesc) (steps r : ℕ) → changes_after (changes_before steps (planned_changes sc s d) r) (list_at sc s d r) ≡ changes_restarted steps (planned_changes sc s d) r
settled sc s d steps zero = refl
settled sc s d steps (suc k) = parameters_keep (changes_restarted steps (planned_changes sc s d) (suc k)) (filter (λ x. x.slave == s) _)
