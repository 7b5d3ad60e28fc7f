-- What a line that passes shows.
use Rattle.std.proofs.Common.{◌≡◌, ℕ, suc, ◌<◌, ◌≤◌, Bool, true, false, not, ◌&&◌, cond, eqb, ltb, leb, ◌⊎◌, inl, inr, List, [], ◌∷◌, length, Option, Some, None, is_some, refl, sym, ap, ◌∙◌, subst, arith}
use Rattle.std.specs.List.{list_any}
use Rattle.std.specs.Str.{is_utf8, bytes_eq}
use Rattle.std.proofs.lemmas.Bool.{false≢true}
use Rattle.std.proofs.lemmas.Bool.Decides.{nat_tests}
use Rattle.text_lines.specs.Texts.{words, is_skipped}
use Rattle.text_lines.specs.declared.reasons.TextWhy.TheVariants as why
use Rattle.text_lines.specs.Causes.{or_else, refused_if}
use Rattle.desc_text.proofs.Held.{not_refused, not_not, none_first}
use Rattle.desc_text.specs.declared.items.Item.{Item}
use Rattle.desc_text.specs.declared.items.Item.TheVariants as items
use Rattle.slave_desc.specs.declared.descriptions.SlaveDesc.{SlaveDesc}
use Rattle.scenario_text.specs.Keys.{any_key, section_of, closes_block}
use Rattle.scenario.specs.Lookups.{outputs_at, inputs_at, type_at}
use Rattle.scenario.specs.Wiring.{same_input}
use Rattle.scenario.specs.Settings.{changed_by, takes_at, setting_in}
use Rattle.scenario_text.specs.Said.{parameters_now, chaos_in, key_of_words, key_at, args_of, section_now}
use Rattle.scenario_text.specs.Checks.{why_change, why_link}
use Rattle.scenario_text.specs.Clashes.{why_among}
use Rattle.scenario_text.specs.Judging.{why_closes, why_order, why_acts, why_scenario_keyed, why_scenario_words, why_scenario_line}
use Rattle.scenario_text.specs.Grammar.{MayFollow, IsNew}
use Rattle.scenario_text.specs.declared.keys.AnyKey.{AnyKey}
use Rattle.scenario_text.specs.declared.heads.HeadItem.{HeadItem}
use Rattle.scenario_text.specs.declared.link_words.LinkLine.{LinkLine}
use Rattle.scenario_text.specs.declared.link_words.LinkLine.TheVariants as link
use Rattle.scenario_text.specs.declared.collected.Links.{Links}
use Rattle.scenario.specs.declared.scenarios.Setting.{Setting}
use Rattle.scenario.specs.declared.scenarios.Wire.{Wire}
use Rattle.scenario.specs.declared.scenarios.Every.{Every}
use Rattle.scenario.specs.declared.scenarios.Rerun.{Rerun}
use Rattle.text_lines.proofs.NumberTests.{equal_numbers, not_above, is_equal}
use Rattle.scenario_text.proofs.Refusing.{first_none, none_refused}

pub record PassedKey (before : List (List ℕ)) (l : List ℕ) : Type 0 where
  pub key : AnyKey
  pub at : key_at l ≡ Some key
  pub order : section_now before ≤ section_of key
  pub closes : why_closes before (closes_block key) (section_of key) ≡ None
  pub acts : why_acts before key (args_of (words l)) ≡ None

pub record Passed (before : List (List ℕ)) (l : List ℕ) : Type 0 where
  pub utf8 : is_utf8 l ≡ true
  pub said : (is_skipped (words l) ≡ true) ⊎ PassedKey before l

keyed_by : (before : List (List ℕ)) (l w : List ℕ) (args : List (List ℕ)) (key : Option AnyKey) → words l ≡ w ∷ args → is_skipped (w ∷ args) ≡ false → any_key w ≡ key → why_scenario_keyed before key args ≡ None → PassedKey before l
keyed_by before l w args None said skip k e = cc
keyed_by before l w args (Some key) said skip k e =
    let t = none_first (why_order before key) (or_else (why_closes before (closes_block key) (section_of key)) (why_acts before key args)) e in
    let u = none_first (why_closes before (closes_block key) (section_of key)) (why_acts before key args) t.1 in
    record {
      key = key;
      at = ap (λ (ws : List (List ℕ)). cond (is_skipped ws) None (key_of_words ws)) said ∙ ap (λ (b : Bool). cond b None (any_key w)) skip ∙ k;
      order = not_above (section_of key) (section_now before) (not_refused _ why.Order t.0);
      closes = u.0;
      acts = subst (λ (a : List (List ℕ)). why_acts before key a ≡ None) (sym (ap args_of said)) u.1;
    }

worded_by : (before : List (List ℕ)) (l : List ℕ) (ws : List (List ℕ)) → words l ≡ ws → is_skipped ws ≡ false → why_scenario_words before ws ≡ None → PassedKey before l
worded_by before l [] said skip e = absurd (false≢true (sym skip))
worded_by before l (w ∷ args) said skip e = keyed_by before l w args (any_key w) said skip refl e

passed_by : (before : List (List ℕ)) (l : List ℕ) (u s : Bool) → is_utf8 l ≡ u → is_skipped (words l) ≡ s → cond (not u) (Some why.NotUtf8) (cond s None (why_scenario_words before (words l))) ≡ None → Passed before l
passed_by before l false s utf8 skip e = cc
passed_by before l true true utf8 skip e = record { utf8 = utf8; said = inl skip }
passed_by before l true false utf8 skip e = record { utf8 = utf8; said = inr (worded_by before l (words l) refl skip e) }

pub passed : (before : List (List ℕ)) (l : List ℕ) → why_scenario_line before l ≡ None → Passed before l
passed before l e = passed_by before l (is_utf8 l) (is_skipped (words l)) refl refl e

-- ---- what it says

below : (n : ℕ) → leb 64 n ≡ false → n < 64
below n e = grind (arith, nat_tests)

empty : {X : Type 0} (xs : List X) → ltb 0 (length xs) ≡ false → xs ≡ []
empty [] e = refl
empty (x ∷ xs) e = absurd (more (length xs) e)
  where
    more : (n : ℕ) → ltb 0 (suc n) ≡ false → ⊥
    more n e = grind (arith, nat_tests)

none_of : {X : Type 0} (o : Option X) → is_some o ≡ false → o ≡ None
none_of None e = refl
none_of (Some x) e = absurd (false≢true (sym e))

pub new_item : (head : List HeadItem) (slaves : List SlaveDesc) (i : Item) → why_among head slaves i ≡ None → IsNew head slaves i
new_item head slaves (items.Slave n) e = (first_none (list_any (λ (s : SlaveDesc). bytes_eq s.name n) slaves) why.Repeated _ e).0
new_item head slaves (items.Address a) e = not_refused _ why.SameAddress e
new_item head slaves (items.Uuid n) e = tt
new_item head slaves (items.Model k ps) e = tt
new_item head slaves (items.Busy n) e = tt
new_item head slaves (items.Heartbeat n) e = tt
new_item head slaves (items.Resolution n d) e = tt
new_item head slaves (items.Input p) e = tt
new_item head slaves (items.Output p) e = tt

taken_of : (slaves : List SlaveDesc) (before : Links) (x : Setting) → why_change slaves before x ≡ None → takes_at slaves x.slave (changed_by (parameters_now slaves before x.slave) x.slave x) ≡ true
taken_of slaves before x e = not_not _ (not_refused _ why.Parameters e)

-- a link that is not refused fits
pub fits_if : (slaves : List SlaveDesc) (before : Links) (l : LinkLine) → (is_some (chaos_in l) ≡ true → is_some before.net.chaos ≡ false) → why_link slaves before l ≡ None → MayFollow slaves before l
fits_if slaves before (link.Wire w) fresh e =
    let t = first_none (not (eqb (type_at (outputs_at slaves w.from) w.out) (type_at (inputs_at slaves w.to) w.into))) why.TypeMismatch (refused_if (list_any (λ (v : Wire). same_input v w) before.wires) why.TwoWires) e in
    (equal_numbers (type_at (outputs_at slaves w.from) w.out) (type_at (inputs_at slaves w.to) w.into) (not_not _ t.0), not_refused (list_any (λ (v : Wire). same_input v w) before.wires) why.TwoWires t.1)
fits_if slaves before (link.Set x) fresh e =
    let t = first_none (ltb 0 (length before.reruns)) why.Order (why_change slaves before x) e in (empty before.reruns t.0, taken_of slaves before x t.1)
fits_if slaves before (link.RerunSet r) fresh e =
    let t = first_none (list_any (λ (q : Rerun). ltb r.run q.run) before.reruns) why.Order (why_change slaves before (setting_in r)) e in (t.0, taken_of slaves before (setting_in r) t.1)
fits_if slaves before (link.Every x) fresh e =
    let t = first_none (list_any (λ (f : Every). eqb f.from x.from && eqb f.to x.to) before.every) why.Repeated (refused_if (not (list_any (λ (w : Wire). eqb w.from x.from && eqb w.to x.to) before.wires)) why.NoWire) e in
    (t.0, not_not _ (not_refused _ why.NoWire t.1))
fits_if slaves before (link.Net l) fresh e = below (length before.net.lines) (not_refused _ why.Limit e)
fits_if slaves before (link.Chaos c) fresh e = none_of before.net.chaos (fresh refl)

not_full : (n : ℕ) → n < 64 → leb 64 n ≡ false
not_full n h = grind (arith, nat_tests)

takes_none : (slaves : List SlaveDesc) (before : Links) (x : Setting) → takes_at slaves x.slave (changed_by (parameters_now slaves before x.slave) x.slave x) ≡ true → why_change slaves before x ≡ None
takes_none slaves before x e = none_refused _ why.Parameters (ap not e)

-- and one that fits is not refused
pub if_fits : (slaves : List SlaveDesc) (before : Links) (l : LinkLine) → MayFollow slaves before l → why_link slaves before l ≡ None
if_fits slaves before (link.Wire w) f =
    ap (λ (t : Bool). cond (not t) (Some why.TypeMismatch) (refused_if (list_any (λ (v : Wire). same_input v w) before.wires) why.TwoWires)) (is_equal (type_at (outputs_at slaves w.from) w.out) (type_at (inputs_at slaves w.to) w.into) f.0)
    ∙ none_refused _ why.TwoWires f.1
if_fits slaves before (link.Set x) f = ap (λ (rs : List Rerun). cond (ltb 0 (length rs)) (Some why.Order) (why_change slaves before x)) f.0 ∙ takes_none slaves before x f.1
if_fits slaves before (link.RerunSet r) f = ap (λ (b : Bool). cond b (Some why.Order) (why_change slaves before (setting_in r))) f.0 ∙ takes_none slaves before (setting_in r) f.1
if_fits slaves before (link.Every x) f =
    ap (λ (b : Bool). cond b (Some why.Repeated) (refused_if (not (list_any (λ (w : Wire). eqb w.from x.from && eqb w.to x.to) before.wires)) why.NoWire)) f.0 ∙ none_refused _ why.NoWire (ap not f.1)
if_fits slaves before (link.Net l) f = none_refused _ why.Limit (not_full (length before.net.lines) f)
if_fits slaves before (link.Chaos c) f = refl
