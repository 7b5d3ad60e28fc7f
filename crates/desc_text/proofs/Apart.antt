-- A text that reads has no first line that is refused, and is one description.
use Rattle.std.proofs.Common.{◌≡◌, ℕ, ℤ, suc, ◌+◌, ◌-◌, ◌≤◌, Bool, true, false, not, cond, eqb, leb, ◌&&◌, ◌||◌, ◌⊎◌, inl, inr, List, [], ◌∷◌, ◌++◌, length, take, drop, get_or, ⊎_elim, Option, Some, None, Result, Ok, Err, is_some, refl, sym, ap, ◌∙◌, subst, arith, length-append, take-append-drop}
use Rattle.std.specs.List.{filter_map, cons_option, list_any}
use Rattle.std.specs.Result.{result_ok}
use Rattle.std.specs.Str.{is_utf8}
use Rattle.std.specs.Str.Lines.{lines}
use Rattle.std.proofs.Math.Seq.{take-length, drop-cons, get_or-append_seam}
use Rattle.std.proofs.Math.ListN.{get_or-append}
use Rattle.std.proofs.str.Laws.{order}
use Rattle.std.proofs.lemmas.Bool.{false≢true}
use Rattle.std.proofs.lemmas.Bool.Decides.{nat_tests}
use Rattle.std.proofs.lemmas.List.Elements.{filter_map-append}
use Rattle.std.proofs.lemmas.List.Folds.{Any-from_list_any}
use Rattle.std.proofs.lemmas.Option.{slice_get_past, slice_get-get_or}
use Rattle.text_lines.specs.Texts.{words, is_skipped}
use Rattle.desc_text.specs.Items.{key_of, item_of}
use Rattle.fixed_models.specs.Kinds.{takes}
use Rattle.text_lines.specs.Causes.{came, or_else, refused_if}
use Rattle.desc_text.specs.Judging.{came_before, begins, why_key, why_port, why_item, why_read, why_keyed, why_words, why_line, why_end, desc_why_at, why_entry}
use Rattle.desc_text.specs.Said.{name_in, uuid_in, address_said, model_in, busy_in, heartbeat_in, resolution_in, input_in, output_in, item_keyed, item_of_words, item_in, items_in}
use Rattle.text_lines.specs.Readings.{FirstBad}
use Rattle.desc_text.specs.Reads.{is_desc_read, ReadsAsDesc, Describes, IsOr, opens_block}
use Rattle.slave_desc.specs.Descriptions.{AreApart}
use Rattle.text_lines.proofs.PlainWords.{and_both}
use Rattle.text_lines.proofs.Runs.{one_first}
use Rattle.desc_text.proofs.Held.{key_in}
use Rattle.desc_text.proofs.Judged.{item_key}
use Rattle.text_lines.specs.declared.reasons.TextWhy.{TextWhy}
use Rattle.text_lines.specs.declared.reasons.TextWhy.TheVariants as why
use Rattle.slave_desc.specs.declared.ports.Port.{Port}
use Rattle.fixed_models.specs.declared.kinds.Kind.{Kind}
use Rattle.desc_text.specs.declared.keys.Key.{Key}
use Rattle.desc_text.specs.declared.items.Item.{Item}
use Rattle.desc_text.specs.declared.items.Item.TheVariants as items
use Rattle.slave_desc.specs.declared.descriptions.SlaveDesc.{SlaveDesc}
use Rattle.text_lines.proofs.NumberTests.{equal_numbers}

-- a value before, and one here: two
some_length : {X : Type 0} (xs : List X) → came xs ≡ true → 1 ≤ length xs
some_length [] e = absurd (false≢true e)
some_length (x ∷ xs) e = omega arith

one_here : {X : Type 0} (o : Option X) (xs : List X) → is_some o ≡ true → length (cons_option o xs) ≡ length xs + 1
one_here None xs e = absurd (false≢true e)
one_here (Some x) xs e = omega arith

twice : {X : Type 0} (f : Item → Option X) (before : List Item) (i : Item) (after : List Item) → length (filter_map f (before ++ i ∷ after)) ≤ 1 → is_some (f i) ≡ true → came (filter_map f before) ≡ true → ⊥
twice f before i after few here earlier =
    let joined = ap length (filter_map-append f before (i ∷ after)) ∙ length-append (filter_map f before) (filter_map f (i ∷ after)) in
    let some = some_length (filter_map f before) earlier in
    let one = one_here (f i) (filter_map f after) here in
    absurd (omega (arith, joined, some, one))

just_one : {X : Type 0} (xs : List X) (x : X) → xs ≡ x ∷ [] → length xs ≤ 1
just_one xs x e = omega (arith, ap length e)

at_most_one : {X : Type 0} (d : X) (xs : List X) (x : X) → IsOr d xs x → length xs ≤ 1
at_most_one d [] x e = omega arith
at_most_one d (y ∷ []) x e = omega arith
at_most_one d (y ∷ z ∷ more) x e = absurd e

-- an element between others
middle : {X : Type 0} (f : Item → Option X) (before : List Item) (i : Item) (after : List Item) (x : X) → f i ≡ Some x → filter_map f (before ++ i ∷ after) ≡ filter_map f before ++ x ∷ filter_map f after
middle f before i after x e = filter_map-append f before (i ∷ after) ∙ ap (λ o. filter_map f before ++ cons_option o (filter_map f after)) e

only : {X : Type 0} (xs ys : List X) (x y : X) → xs ++ y ∷ ys ≡ x ∷ [] → y ≡ x
only [] ys x y e = cc
only (z ∷ []) ys x y e = absurd (omega (arith, ap length e))
only (z ∷ w ∷ xs) ys x y e = absurd (omega (arith, ap length e))

left_or_right : (again b : Bool) (v v' w : TextWhy) → cond again (Some v) (refused_if b v') ≡ Some w → (again ≡ true) ⊎ (b ≡ true)
left_or_right true b v v' w e = inl refl
left_or_right false true v v' w e = inr refl
left_or_right false false v v' w e = cc

-- a port that is refused stands in no list of at most eight ports apart
no_port : (before after : List Port) (q : Port) (w : TextWhy) → AreApart (before ++ q ∷ after) → length (before ++ q ∷ after) ≤ 8 → why_port before q ≡ Some w → ⊥
no_port before after q w apart few e =
    ⊎_elim
    (λ again.
    let found = Any-from_list_any (λ (p : Port). eqb p.vr q.vr) before again in
    let all = before ++ q ∷ after in
    let same : found.1.vr ≡ q.vr = equal_numbers found.1.vr q.vr found.4 in
    apart found.0 (length before) found.1 found.2 (omega (arith, length-append before (q ∷ after)))
    (ap (λ (p : Port). p.vr) (get_or-append before (q ∷ after) found.1 found.0 found.2 ∙ found.3) ∙ same ∙ sym (ap (λ (p : Port). p.vr) (get_or-append_seam before q after found.1))))
    (λ full. let many : 8 ≤ length before = grind (arith, nat_tests) in absurd (omega (arith, length-append before (q ∷ after))))
    (left_or_right (list_any (λ (p : Port). eqb p.vr q.vr) before) (leb 8 (length before)) why.Repeated why.Limit w e)

-- a key that comes once did not come before
not_again : (before : List Item) (i : Item) (after : List Item) (d : SlaveDesc) → Describes (before ++ i ∷ after) d → came_before before (key_in i) ≡ true → ⊥
not_again before (items.Slave n) after d says h = twice name_in before (items.Slave n) after (just_one _ d.name says.name) refl h
not_again before (items.Uuid n) after d says h = twice uuid_in before (items.Uuid n) after (just_one _ d.uuid says.uuid) refl h
not_again before (items.Address a) after d says h = twice address_said before (items.Address a) after (just_one _ d.address says.address) refl h
not_again before (items.Model k ps) after d says h = twice model_in before (items.Model k ps) after (just_one _ (d.kind, d.parameters) says.model) refl h
not_again before (items.Busy n) after d says h = twice busy_in before (items.Busy n) after (at_most_one 0 _ d.busy says.busy) refl h
not_again before (items.Heartbeat n) after d says h = twice heartbeat_in before (items.Heartbeat n) after (at_most_one 0 _ d.heartbeat says.heartbeat) refl h
not_again before (items.Resolution n m) after d says h = twice resolution_in before (items.Resolution n m) after (at_most_one (1, 1000) _ (d.numerator, d.denominator) says.resolution) refl h
not_again before (items.Input p) after d says h = absurd (false≢true h)
not_again before (items.Output p) after d says h = absurd (false≢true h)

came_cons : {X : Type 0} (o : Option X) (xs : List X) → is_some o ≡ true → not (came (cons_option o xs)) ≡ true → ⊥
came_cons None xs e h = false≢true e
came_cons (Some x) xs e h = false≢true h

-- the name stands before all others
is_named : (before : List Item) (i : Item) (after : List Item) → opens_block (before ++ i ∷ after) ≡ true → not (begins (key_in i)) ≡ true → not (came (filter_map name_in before)) ≡ true → ⊥
is_named (x ∷ before) i after first other unnamed = came_cons (name_in x) (filter_map name_in before) first unnamed
is_named [] (items.Slave n) after first other unnamed = false≢true other
is_named [] _ after first other unnamed = false≢true first

pub not_key : (before : List Item) (i : Item) (after : List Item) (d : SlaveDesc) (w : TextWhy) → Describes (before ++ i ∷ after) d → why_key (came_before before (key_in i)) (came (filter_map name_in before)) (key_in i) ≡ Some w → ⊥
not_key before i after d w says e =
    ⊎_elim (not_again before i after d says)
    (λ h. let both = and_both (not (begins (key_in i))) (not (came (filter_map name_in before))) h in is_named before i after says.first both.0 both.1)
    (left_or_right (came_before before (key_in i)) (not (begins (key_in i)) && not (came (filter_map name_in before))) why.Repeated why.Missing w e)

refused_true : (b : Bool) (v w : TextWhy) → refused_if b v ≡ Some w → b ≡ true
refused_true true v w e = refl
refused_true false v w e = cc

pub not_item : (before : List Item) (i : Item) (after : List Item) (d : SlaveDesc) (w : TextWhy) → Describes (before ++ i ∷ after) d → why_item before i ≡ Some w → ⊥
not_item before (items.Input q) after d w says e =
    let ports = sym (middle input_in before (items.Input q) after q refl) ∙ says.inputs in
    no_port (filter_map input_in before) (filter_map input_in after) q w (subst AreApart (sym ports) says.inputs_apart) (subst (λ (l : List Port). length l ≤ 8) (sym ports) says.few_inputs) e
not_item before (items.Output q) after d w says e =
    let ports = sym (middle output_in before (items.Output q) after q refl) ∙ says.outputs in
    no_port (filter_map output_in before) (filter_map output_in after) q w (subst AreApart (sym ports) says.outputs_apart) (subst (λ (l : List Port). length l ≤ 8) (sym ports) says.few_outputs.1) e
not_item before (items.Model k ps) after d w says e =
    let model = only (filter_map model_in before) (filter_map model_in after) (d.kind, d.parameters) (k, ps) (sym (middle model_in before (items.Model k ps) after (k, ps) refl) ∙ says.model) in
    let taken : takes k ps ≡ true = ap (λ (m : Kind × List ℤ). takes m.0 m.1) model ∙ says.taken in
    false≢true (ap not (sym taken) ∙ refused_true (not (takes k ps)) why.Parameters w e)
not_item before (items.Slave n) after d w says e = cc
not_item before (items.Uuid n) after d w says e = cc
not_item before (items.Address a) after d w says e = cc
not_item before (items.Busy n) after d w says e = cc
not_item before (items.Heartbeat n) after d w says e = cc
not_item before (items.Resolution n m) after d w says e = cc

either : (a b : Option TextWhy) (w : TextWhy) → or_else a b ≡ Some w → (a ≡ Some w) ⊎ (b ≡ Some w)
either None b w e = inr e
either (Some v) b w e = inl e

module _ (before after : List Item) (d : SlaveDesc) (w : TextWhy) where
  not_read : (key : Key) (args : List (List ℕ)) (r : Result Item TextWhy) → item_of key args ≡ r → is_some (result_ok r) ≡ true → Describes (before ++ cons_option (result_ok r) after) d → or_else (why_key (came_before before key) (came (filter_map name_in before)) key) (why_read before r) ≡ Some w → ⊥
  not_read key args (Err v) same some says e = false≢true some
  not_read key args (Ok i) same some says e =
      let key_is = item_key key args i same in
      ⊎_elim
      (λ h. not_key before i after d w says (subst (λ (k : Key). why_key (came_before before k) (came (filter_map name_in before)) k ≡ Some w) (sym key_is) h))
      (λ h. not_item before i after d w says h)
      (either (why_key (came_before before key) (came (filter_map name_in before)) key) (why_item before i) w e)

  not_keyed : (k : Option Key) (args : List (List ℕ)) → is_some (item_keyed k args) ≡ true → Describes (before ++ cons_option (item_keyed k args) after) d → why_keyed before k args ≡ Some w → ⊥
  not_keyed None args some says e = false≢true some
  not_keyed (Some key) args some says e = not_read key args (item_of key args) refl some says e

  not_words : (ws : List (List ℕ)) → is_some (item_of_words ws) ≡ true → Describes (before ++ cons_option (item_of_words ws) after) d → why_words before ws ≡ Some w → ⊥
  not_words [] some says e = false≢true some
  not_words (v ∷ args) some says e = not_keyed (key_of v) args some says e

  not_line_by : (u s : Bool) (ws : List (List ℕ)) → (u && (s || is_some (item_of_words ws))) ≡ true → Describes (before ++ cons_option (cond s None (item_of_words ws)) after) d → cond (not u) (Some why.NotUtf8) (cond s None (why_words before ws)) ≡ Some w → ⊥
  not_line_by false s ws read says e = false≢true read
  not_line_by true true ws read says e = cc
  not_line_by true false ws read says e = not_words ws read says e

  pub not_line : (line : List ℕ) → is_desc_read line ≡ true → Describes (before ++ cons_option (item_in line) after) d → why_line before line ≡ Some w → ⊥
  not_line line read says e = not_line_by (is_utf8 line) (is_skipped (words line)) (words line) read says e

came_some : {X : Type 0} (xs : List X) → 1 ≤ length xs → came xs ≡ true
came_some [] e = absurd (omega arith)
came_some (x ∷ xs) e = refl

pub end_none : (all : List Item) (d : SlaveDesc) → Describes all d → why_end all ≡ None
end_none all d says = rw (says.name, says.uuid, says.address, says.outputs, says.inputs, says.model, came_some d.outputs says.few_outputs.0, says.ports) refl

-- a text that reads has no line that is refused
pub reads_not_bad : (text : List ℕ) (d : SlaveDesc) (n : ℕ) (w : TextWhy) → ReadsAsDesc text d → FirstBad desc_why_at text n w → ⊥
reads_not_bad text d n w reads bad =
    let ls = lines text in
    let k = bad.place - 1 in
    ⊎_elim
    (λ below.
    let line = get_or ls k [] in
    let cut : ls ≡ take k ls ++ line ∷ drop (suc k) ls = sym (take-append-drop k ls) ∙ ap (λ (l : List (List ℕ)). take k ls ++ l) (drop-cons ls k [] below) in
    let said : items_in ls ≡ items_in (take k ls) ++ cons_option (item_in line) (items_in (drop (suc k) ls)) = ap items_in cut ∙ filter_map-append item_in (take k ls) (line ∷ drop (suc k) ls) in
    let here : why_line (items_in (take k ls)) line ≡ Some w = ap (λ (o : Option (List ℕ)). why_entry o (items_in (take k ls))) (sym (slice_get-get_or ls k [] below)) ∙ bad.here in
    not_line (items_in (take k ls)) (items_in (drop (suc k) ls)) d w line (reads.each k [] below) (subst (λ (l : List Item). Describes l d) said reads.says) here)
    (λ past.
    let last : k ≡ length ls = omega (arith, bad.counted) in
    let all : take k ls ≡ ls = ap (λ (j : ℕ). take j ls) last ∙ take-length ls in
    let here : why_end (items_in ls) ≡ Some w = ap (λ (l : List (List ℕ)). why_end (items_in l)) (sym all) ∙ ap (λ (o : Option (List ℕ)). why_entry o (items_in (take k ls))) (sym (slice_get_past ls k past)) ∙ bad.here in
    let none = end_none (items_in ls) d reads.says in
    cc)
    (order k (length ls))

-- no text has two first lines that are refused
pub one_bad : (text : List ℕ) (m n : ℕ) (v w : TextWhy) → FirstBad desc_why_at text m v → FirstBad desc_why_at text n w → (m ≡ n) × (v ≡ w)
one_bad text m n v w a b = one_first desc_why_at (lines text) m n v w a b

first_same : {X : Type 0} (x y : X) (xs : List X) → xs ≡ x ∷ [] → xs ≡ y ∷ [] → x ≡ y
first_same x y xs e f = cc

or_same : {X : Type 0} (d : X) (xs : List X) (x y : X) → IsOr d xs x → IsOr d xs y → x ≡ y
or_same d [] x y e f = e ∙ sym f
or_same d (z ∷ []) x y e f = e ∙ sym f
or_same d (z ∷ u ∷ more) x y e f = absurd e

-- a text is one description
pub one_desc : (all : List Item) (a b : SlaveDesc) → Describes all a → Describes all b → a ≡ b
one_desc all a b s t =
    let model = first_same {X = Kind × List ℤ} (a.kind, a.parameters) (b.kind, b.parameters) _ s.model t.model in
    let resolution = or_same {X = ℕ × ℕ} (1, 1000) (filter_map resolution_in all) (a.numerator, a.denominator) (b.numerator, b.denominator) s.resolution t.resolution in
    λ i. record {
      name = first_same a.name b.name _ s.name t.name i;
      uuid = first_same a.uuid b.uuid _ s.uuid t.uuid i;
      address = first_same a.address b.address _ s.address t.address i;
      kind = (model i).0;
      parameters = (model i).1;
      busy = or_same 0 (filter_map busy_in all) a.busy b.busy s.busy t.busy i;
      heartbeat = or_same 0 (filter_map heartbeat_in all) a.heartbeat b.heartbeat s.heartbeat t.heartbeat i;
      numerator = (resolution i).0;
      denominator = (resolution i).1;
      inputs = (sym s.inputs ∙ t.inputs) i;
      outputs = (sym s.outputs ∙ t.outputs) i;
    }
