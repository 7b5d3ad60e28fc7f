-- The last setting of each parameter comes to the same as all of them.
use Rattle.std.proofs.Common.{◌≡◌, ℕ, ℤ, suc, zero, Bool, true, false, not, ◌&&◌, cond, eqb, ltb, set, filter, List, [], ◌∷◌, ◌++◌, map, length, Option, Some, None, Result, Ok, Err, IfOk, ◌<◌, ◌≤◌, refl, sym, ap, ◌∙◌, subst}
use Rattle.std.specs.Prelude.{AllPairs}
use Rattle.std.specs.List.{list_any}
use Rattle.std.specs.Option.{option_map}
use Rattle.std.proofs.Math.Seq.{set-set}
use Rattle.std.proofs.lemmas.Bool.{false≢true, eqb-true, eq-eqb, and_parts, and_from, not-true, lt-ltb, le-ltb}
use Rattle.std.proofs.lemmas.List.{length-set, map-append}
use Rattle.std.proofs.lemmas.List.Elements.{filter_passes}
use Rattle.std.proofs.lemmas.List.Kept.{AllPairs-filter}
use Rattle.std.proofs.lemmas.List.Quantifiers.{all_pairs_push}
use Rattle.dcp_types.specs.declared.memory.OutOfMemory.{OutOfMemory}
use Rattle.text_lines.specs.declared.reasons.TextWhy.{TextWhy}
use Rattle.text_lines.specs.declared.reasons.TextWhy.TheVariants as why
use Rattle.desc_text.specs.Machine.{longer}
use Rattle.slave_desc.specs.declared.descriptions.SlaveDesc.{SlaveDesc}
use Rattle.scenario.specs.Settings.{changed_by, changed, setting_in}
use Rattle.scenario_text.specs.Checks.{why_change, why_rerun}
use Rattle.scenario_text.specs.Collecting.{put_link}
use Rattle.scenario_text.specs.Said.{set_in, rerun_in}
use Rattle.scenario_text.specs.LastSettings.{same_parameter, SameSettings, IsLastRun, IsKept}
use Rattle.scenario.proofs.Changes.{changed-append}
use Rattle.scenario.specs.declared.scenarios.Setting.{Setting}
use Rattle.scenario.specs.declared.scenarios.Rerun.{Rerun}
use Rattle.scenario_text.specs.declared.link_words.LinkLine.{LinkLine}
use Rattle.scenario_text.specs.declared.collected.Links.{Links}

-- ---- two settings of one slave

set_swap : (l : List ℤ) (i j : ℕ) (a b : ℤ) → (i ≡ j → ⊥) → set (set l i a) j b ≡ set (set l j b) i a
set_swap [] i j a b apart = refl
set_swap (x ∷ xs) zero zero a b apart = absurd (apart refl)
set_swap (x ∷ xs) zero (suc j) a b apart = refl
set_swap (x ∷ xs) (suc i) zero a b apart = refl
set_swap (x ∷ xs) (suc i) (suc j) a b apart = ap (λ (l : List ℤ). x ∷ l) (set_swap xs i j a b (λ e. apart (ap suc e)))

-- the parameters of slave s after the setting of parameter i of slave t
abbrev stored : List ℤ → ℕ → ℕ → ℕ → ℤ → List ℤ
stored ps s t i v = cond (eqb t s && ltb i (length ps)) (set ps i v) ps

length_by : (b : Bool) (ps : List ℤ) (i : ℕ) (v : ℤ) → length (cond b (set ps i v) ps) ≡ length ps
length_by true ps i v = length-set ps i v
length_by false ps i v = refl

length_stored : (ps : List ℤ) (s t i : ℕ) (v : ℤ) → length (stored ps s t i v) ≡ length ps
length_stored ps s t i v = length_by (eqb t s && ltb i (length ps)) ps i v

twice : (b : Bool) (ps : List ℤ) (i : ℕ) (v w : ℤ) → cond b (set (cond b (set ps i v) ps) i w) (cond b (set ps i v) ps) ≡ cond b (set ps i w) ps
twice true ps i v w = set-set ps i v w
twice false ps i v w = refl

over_same : (ps : List ℤ) (s t i : ℕ) (v w : ℤ) → stored (stored ps s t i v) s t i w ≡ stored ps s t i w
over_same ps s t i v w =
    ap (λ (n : ℕ). cond (eqb t s && ltb i n) (set (stored ps s t i v) i w) (stored ps s t i v)) (length_stored ps s t i v)
    ∙ twice (eqb t s && ltb i (length ps)) ps i v w

over_at : (ps : List ℤ) (s t u i j : ℕ) (v w : ℤ) → t ≡ u → i ≡ j → stored (stored ps s t i v) s u j w ≡ stored ps s u j w
over_at ps s t u i j v w e f =
    subst (λ (t : ℕ). stored (stored ps s t i v) s u j w ≡ stored ps s u j w) (sym e)
    (subst (λ (i : ℕ). stored (stored ps s u i v) s u j w ≡ stored ps s u j w) (sym f) (over_same ps s u j v w))

swap_by : (a b : Bool) (ps : List ℤ) (i j : ℕ) (v w : ℤ) → (a ≡ true → b ≡ true → i ≡ j → ⊥) → cond b (set (cond a (set ps i v) ps) j w) (cond a (set ps i v) ps) ≡ cond a (set (cond b (set ps j w) ps) i v) (cond b (set ps j w) ps)
swap_by true true ps i j v w apart = set_swap ps i j v w (apart refl refl)
swap_by true false ps i j v w apart = refl
swap_by false true ps i j v w apart = refl
swap_by false false ps i j v w apart = refl

swap_at : (ps : List ℤ) (s t u i j : ℕ) (v w : ℤ) → (t ≡ u → i ≡ j → ⊥) → stored (stored ps s t i v) s u j w ≡ stored (stored ps s u j w) s t i v
swap_at ps s t u i j v w apart =
    ap (λ (n : ℕ). cond (eqb u s && ltb j n) (set (stored ps s t i v) j w) (stored ps s t i v)) (length_stored ps s t i v)
    ∙ swap_by (eqb t s && ltb i (length ps)) (eqb u s && ltb j (length ps)) ps i j v w
    (λ a b. apart (eqb-true t s (and_parts (eqb t s) _ a).0 ∙ sym (eqb-true u s (and_parts (eqb u s) _ b).0)))
    ∙ sym (ap (λ (n : ℕ). cond (eqb t s && ltb i n) (set (stored ps s u j w) i v) (stored ps s u j w)) (length_stored ps s u j w))

-- the later one of one parameter is the one that counts
over : (ps : List ℤ) (s : ℕ) (y x : Setting) → same_parameter y x ≡ true → changed_by (changed_by ps s y) s x ≡ changed_by ps s x
over ps s y x e =
    let b = and_parts (eqb y.slave x.slave) (eqb y.index x.index) e in over_at ps s y.slave x.slave y.index x.index y.value x.value (eqb-true y.slave x.slave b.0) (eqb-true y.index x.index b.1)

-- of two parameters, either may be set first
swap : (ps : List ℤ) (s : ℕ) (y x : Setting) → same_parameter y x ≡ false → changed_by (changed_by ps s y) s x ≡ changed_by (changed_by ps s x) s y
swap ps s y x e =
    swap_at ps s y.slave x.slave y.index x.index y.value x.value
    (λ f g. false≢true (sym e ∙ and_from (eqb y.slave x.slave) (eqb y.index x.index) (eq-eqb y.slave x.slave f) (eq-eqb y.index x.index g)))

-- ---- settings in order

-- what differs in the parameter of a setting alone is the same after it
agree : (x : Setting) (s : ℕ) (zs : List Setting) (ps qs : List ℤ) → changed_by ps s x ≡ changed_by qs s x → changed_by (changed ps s zs) s x ≡ changed_by (changed qs s zs) s x
agree x s [] ps qs e = e
agree x s (z ∷ zs) ps qs e = agree x s zs (changed_by ps s z) (changed_by qs s z) (kept (same_parameter z x) refl)
  where
    kept : (b : Bool) → same_parameter z x ≡ b → changed_by (changed_by ps s z) s x ≡ changed_by (changed_by qs s z) s x
    kept true t = over ps s z x t ∙ e ∙ sym (over qs s z x t)
    kept false f = swap ps s z x f ∙ ap (λ (l : List ℤ). changed_by l s z) e ∙ sym (swap qs s z x f)

abbrev is_other : Setting → Setting → Bool
is_other x y = not (same_parameter y x)

abbrev IsWithout : Setting → ℕ → List Setting → Type 0
IsWithout x s xs = (ps : List ℤ) → changed_by (changed ps s (filter (is_other x) xs)) s x ≡ changed_by (changed ps s xs) s x

without_by : (x : Setting) (s : ℕ) (y : Setting) (ys : List Setting) (b : Bool) → same_parameter y x ≡ b → IsWithout x s ys → IsWithout x s (y ∷ ys)
without_by x s y ys true t rest = λ ps. ap (λ (b : Bool). changed_by (changed ps s (cond (not b) (y ∷ filter (is_other x) ys) (filter (is_other x) ys))) s x) t ∙ rest ps ∙ agree x s ys ps (changed_by ps s y) (sym (over ps s y x t))
without_by x s y ys false f rest = λ ps. ap (λ (b : Bool). changed_by (changed ps s (cond (not b) (y ∷ filter (is_other x) ys) (filter (is_other x) ys))) s x) f ∙ rest (changed_by ps s y)

without : (x : Setting) (s : ℕ) (xs : List Setting) → IsWithout x s xs
without x s [] = λ ps. refl
without x s (y ∷ ys) = without_by x s y ys (same_parameter y x) refl (without x s ys)

-- a setting in the place of an earlier one of its parameter
pub put_same : (xs : List Setting) (x : Setting) → SameSettings (filter (λ y. not (same_parameter y x)) xs ++ x ∷ []) (xs ++ x ∷ [])
put_same xs x ps s = changed-append ps s (filter (is_other x) xs) (x ∷ []) ∙ without x s xs ps ∙ sym (changed-append ps s xs (x ∷ []))

pub put_apart : (xs : List Setting) (x : Setting) → AllPairs (λ x y. same_parameter x y ≡ false) xs → AllPairs (λ x y. same_parameter x y ≡ false) (filter (λ y. not (same_parameter y x)) xs ++ x ∷ [])
put_apart xs x h =
    all_pairs_push (λ (x y : Setting). same_parameter x y ≡ false) (filter (is_other x) xs) x (AllPairs-filter (λ (x y : Setting). same_parameter x y ≡ false) (is_other x) xs h)
    (λ k d below. not-true _ (filter_passes (is_other x) xs k d below))

-- ---- one more line

longer_same : (xs ys : List Setting) (o : Option Setting) → SameSettings xs ys → SameSettings (longer xs o) (longer ys o)
longer_same xs ys None h = h
longer_same xs ys (Some x) h = λ ps s. changed-append ps s xs (x ∷ []) ∙ ap (λ (l : List ℤ). changed_by l s x) (h ps s) ∙ sym (changed-append ps s ys (x ∷ []))

map_longer : (rs : List Rerun) (o : Option Rerun) → longer (map setting_in rs) (option_map setting_in o) ≡ map setting_in (longer rs o)
map_longer rs None = refl
map_longer rs (Some r) = sym (map-append setting_in rs (r ∷ []))

-- what is kept stays so with one more line
pub kept_with : (links new : Links) (l : LinkLine) (first later first' later' : List Setting) (run run' : ℕ) → IsKept links first later run → new ≡ put_link links l
    → SameSettings first' (longer first (set_in l)) → SameSettings later' (longer later (option_map setting_in (rerun_in l))) → IsLastRun run' (longer links.reruns (rerun_in l)) → IsKept new first' later' run'
kept_with links new l first later first' later' run run' h e f g k =
    subst (λ (n : Links). IsKept n first' later' run') (sym e) (record {
      first = λ ps s. f ps s ∙ longer_same first links.settings (set_in l) h.first ps s;
      later = λ ps s. g ps s ∙ longer_same later (map setting_in links.reruns) (option_map setting_in (rerun_in l)) h.later ps s ∙ ap (λ (xs : List Setting). changed ps s xs) (map_longer links.reruns (rerun_in l));
      last = k;
    })

-- ---- the order of later runs, by the last one

module _ (slaves : List SlaveDesc) (links before : Links) (is : links ≡ before) (run : ℕ) (last : IsLastRun run links.reruns) (r : Rerun) where
  by_last : (b : Bool) → ltb r.run run ≡ b → list_any (λ (q : Rerun). ltb r.run q.run) before.reruns ≡ b
  by_last b e = subst (λ (l : Links). list_any (λ (q : Rerun). ltb r.run q.run) l.reruns ≡ b) is (last r.run ∙ e)

  pub rerun_early : r.run < run → Some why.Order ≡ why_rerun slaves before r
  rerun_early below = sym (ap (λ (b : Bool). cond b (Some why.Order) (why_change slaves before (setting_in r))) (by_last true (lt-ltb r.run run below)))

  pub rerun_late : run ≤ r.run → (x : Setting) → x ≡ setting_in r → (o : Result (Option TextWhy) OutOfMemory) → IfOk o (λ o. o ≡ why_change slaves before x) → IfOk o (λ o. o ≡ why_rerun slaves before r)
  rerun_late above x said (Err e) h = tt
  rerun_late above x said (Ok o) h =
      h ∙ ap (λ (x : Setting). why_change slaves before x) said
      ∙ sym (ap (λ (b : Bool). cond b (Some why.Order) (why_change slaves before (setting_in r))) (by_last false (le-ltb r.run run above)))
