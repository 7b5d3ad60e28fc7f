-- What the machine takes and refuses is what the judging says.
use Rattle.std.proofs.Common.{◌≡◌, ℕ, suc, ◌+◌, ◌-◌, ◌≤◌, Bool, true, false, not, cond, ◌&&◌, ◌||◌, ◌⊎◌, List, [], ◌∷◌, ◌++◌, length, Option, Some, None, Result, Ok, Err, is_some, refl, sym, ap, ◌∙◌, subst, arith, append-nil, eqb, ℤ, IfSome}
use Rattle.std.specs.Prelude.{All, slice_get}
use Rattle.std.specs.List.{filter_map, cons_option}
use Rattle.std.specs.Option.{option_to_list, unwrap_or}
use Rattle.std.specs.Result.{result_ok}
use Rattle.std.specs.Str.{is_utf8}
use Rattle.std.specs.Str.Lines.{lines}
use Rattle.std.proofs.Math.Seq.{take-length}
use Rattle.std.proofs.lemmas.Bool.{false≢true}
use Rattle.std.proofs.lemmas.Bool.Decides.{nat_tests}
use Rattle.std.proofs.lemmas.List.{take_at}
use Rattle.std.proofs.lemmas.List.Elements.{filter_map-append, All-push}
use Rattle.std.proofs.lemmas.Option.{slice_get_past}
use Rattle.text_lines.specs.Texts.{words, is_skipped}
use Rattle.text_lines.specs.Causes.{◌>>=◌, or_why, came, or_else, refused_if, unless}
use Rattle.desc_text.specs.Items.{key_of, item_of, port, resolution, model, parameters_said}
use Rattle.text_lines.specs.Names.{name}
use Rattle.text_lines.specs.Addresses.{address}
use Rattle.text_lines.specs.Identities.{identity}
use Rattle.text_lines.specs.Counts.{one_word}
use Rattle.desc_text.specs.Words.{kind_named}
use Rattle.text_lines.specs.Runs.{run_of}
use Rattle.text_lines.proofs.Results.{bind_ok, some_ok, ok_same}
use Rattle.text_lines.proofs.Runs.{Judges, run_ok, run_err}
use Rattle.text_lines.specs.Numbers.{number_from}
use Rattle.desc_text.specs.Judging.{came_before, begins, why_key, why_read, why_keyed, why_words, why_line, why_end, desc_why_at, why_ports}
use Rattle.desc_text.specs.Said.{name_in, item_keyed, item_of_words, item_in, items_in}
use Rattle.text_lines.specs.Readings.{FirstBad}
use Rattle.fixed_models.specs.Kinds.{takes, has_ports}
use Rattle.desc_text.specs.Reads.{is_desc_read, ReadsAsDesc, Describes, IsOr}
use Rattle.slave_desc.specs.Descriptions.{AreApart}
use Rattle.desc_text.specs.Machine.{has, put_item, why_held, take_keyed, take_words, take_line, finished, nothing}
use Rattle.desc_text.proofs.Held.{Holds, holds_nothing, key_in, holds_more, may_come, same_has, same_named, same_why, not_refused, not_not}
use Rattle.text_lines.specs.declared.reasons.TextWhy.{TextWhy}
use Rattle.text_lines.specs.declared.reasons.TextWhy.TheVariants as why
use Rattle.text_lines.specs.declared.reasons.TextFault.{TextFault}
use Rattle.slave_desc.specs.declared.ports.Port.{Port}
use Rattle.fixed_models.specs.declared.kinds.Kind.{Kind}
use Rattle.desc_text.specs.declared.keys.Key.{Key}
use Rattle.desc_text.specs.declared.keys.Key.TheVariants as keys
use Rattle.desc_text.specs.declared.items.Item.{Item}
use Rattle.desc_text.specs.declared.items.Item.TheVariants as items
use Rattle.desc_text.specs.declared.partials.Partial.{Partial}
use Rattle.slave_desc.specs.declared.descriptions.SlaveDesc.{SlaveDesc}

-- each step of a reader that ends in an item of this key
tagged : {X : Type 0} (key : Key) (r : Result X TextWhy) (f : X → Result Item TextWhy) → ((x : X) (i : Item) → f x ≡ Ok i → key_in i ≡ key) → (i : Item) → (r >>= f) ≡ Ok i → key_in i ≡ key
tagged key (Ok x) f h i e = h x i e
tagged key (Err w) f h i e = cc

abbrev said : Item → Result Item TextWhy
said i = Ok i

ok_is : (j i : Item) → said j ≡ said i → i ≡ j
ok_is j i e = cc

same_key : (key : Key) (j i : Item) → key_in j ≡ key → said j ≡ said i → key_in i ≡ key
same_key key j i k e = ap key_in (ok_is j i e) ∙ k

model_key : (args : List (List ℕ)) (i : Item) → model args ≡ Ok i → key_in i ≡ keys.Model
model_key [] i e = cc
model_key (w ∷ ws) i e = tagged keys.Model (or_why (kind_named w) why.UnknownModel) _ (λ k. tagged keys.Model (parameters_said ws) _ (λ ps j. same_key keys.Model (items.Model k ps) j refl)) i e

-- a line of a key has an item of this key
pub item_key : (key : Key) (args : List (List ℕ)) (i : Item) → item_of key args ≡ Ok i → key_in i ≡ key
item_key keys.Slave args i e = tagged keys.Slave (one_word args) _ (λ w. tagged keys.Slave (name w) _ (λ n j. same_key keys.Slave (items.Slave n) j refl)) i e
item_key keys.Uuid args i e = tagged keys.Uuid (one_word args) _ (λ w. tagged keys.Uuid (identity w) _ (λ n j. same_key keys.Uuid (items.Uuid n) j refl)) i e
item_key keys.Address args i e = tagged keys.Address (address args) _ (λ a j. same_key keys.Address (items.Address a) j refl) i e
item_key keys.Model args i e = model_key args i e
item_key keys.Busy args i e = tagged keys.Busy (one_word args) _ (λ w. tagged keys.Busy (number_from 0 50 w) _ (λ n j. same_key keys.Busy (items.Busy n) j refl)) i e
item_key keys.Heartbeat args i e = tagged keys.Heartbeat (one_word args) _ (λ w. tagged keys.Heartbeat (number_from 0 100000 w) _ (λ n j. same_key keys.Heartbeat (items.Heartbeat n) j refl)) i e
item_key keys.Resolution args i e = tagged keys.Resolution (resolution args) _ (λ r j. same_key keys.Resolution (items.Resolution r.0 r.1) j refl) i e
item_key keys.Input args i e = tagged keys.Input (port args) _ (λ p j. same_key keys.Input (items.Input p) j refl) i e
item_key keys.Output args i e = tagged keys.Output (port args) _ (λ p j. same_key keys.Output (items.Output p) j refl) i e

-- the item that was taken, and what was not wrong
record Taken (a : Option TextWhy) (r : Result Item TextWhy) (wrong : Item → Option TextWhy) (next : Item → Partial) (q : Partial) : Type 0 where
  may : a ≡ None
  item : Item
  read : r ≡ Ok item
  right : wrong item ≡ None
  result : q ≡ next item

taken_item : (o : Option TextWhy) (next q : Partial) → unless o (Ok next) ≡ Ok q → (o ≡ None) × (q ≡ next)
taken_item None next q e = (refl, cc)
taken_item (Some w) next q e = cc

taken : (a : Option TextWhy) (r : Result Item TextWhy) (wrong : Item → Option TextWhy) (next : Item → Partial) (q : Partial) → unless a (r >>= λ i. unless (wrong i) (Ok (next i))) ≡ Ok q → Taken a r wrong next q
taken None (Ok i) wrong next q e = let t = taken_item (wrong i) (next i) q e in record { may = refl; item = i; read = refl; right = t.0; result = t.1 }
taken None (Err w) wrong next q e = cc
taken (Some w) r wrong next q e = cc

-- what is wrong with a line, by its parts
abbrev wrong_read : (Item → Option TextWhy) → Result Item TextWhy → Option TextWhy
wrong_read wrong (Ok i) = wrong i
wrong_read wrong (Err w) = Some w

refused_item : (o : Option TextWhy) (next : Partial) (w : TextWhy) → unless o (Ok next) ≡ Err w → o ≡ Some w
refused_item None next w e = cc
refused_item (Some v) next w e = cc

refused : (a : Option TextWhy) (r : Result Item TextWhy) (wrong : Item → Option TextWhy) (next : Item → Partial) (w : TextWhy) → unless a (r >>= λ i. unless (wrong i) (Ok (next i))) ≡ Err w → or_else a (wrong_read wrong r) ≡ Some w
refused None (Ok i) wrong next w e = refused_item (wrong i) (next i) w e
refused None (Err v) wrong next w e = cc
refused (Some v) r wrong next w e = cc

module _ (all : List Item) (p : Partial) (h : Holds all p) where
  same_wrong : (r : Result Item TextWhy) → why_read all r ≡ wrong_read (why_held p) r
  same_wrong (Ok i) = same_why all p h i
  same_wrong (Err w) = refl

  same_why_key : (key : Key) → why_key (came_before all key) (came (filter_map name_in all)) key ≡ why_key (has p key) (is_some p.name) key
  same_why_key key = ap (λ (b : Bool). why_key b (came (filter_map name_in all)) key) (same_has all p h key) ∙ ap (λ (b : Bool). why_key (has p key) b key) (same_named all p h)

  same_keyed : (key : Key) (args : List (List ℕ)) → why_keyed all (Some key) args ≡ or_else (why_key (has p key) (is_some p.name) key) (wrong_read (why_held p) (item_of key args))
  same_keyed key args = ap (λ (o : Option TextWhy). or_else o (why_read all (item_of key args))) (same_why_key key) ∙ ap (or_else (why_key (has p key) (is_some p.name) key)) (same_wrong (item_of key args))

  -- a line of a key
  keyed_ok : (k : Option Key) (args : List (List ℕ)) (q : Partial) → take_keyed p k args ≡ Ok q → (why_keyed all k args ≡ None) × (is_some (item_keyed k args) ≡ true) × Holds (all ++ cons_option (item_keyed k args) []) q
  keyed_ok None args q e = cc
  keyed_ok (Some key) args q e =
      let t = taken (why_key (has p key) (is_some p.name) key) (item_of key args) (why_held p) (put_item p) q e in
      let may = may_come (has p key) (is_some p.name) key t.may in
      let key_is = item_key key args t.item t.read in
      let more = holds_more all p h t.item (ap (has p) key_is ∙ may.0) (subst (λ (k : Key). (begins k ≡ true) ⊎ (is_some p.name ≡ true)) (sym key_is) may.1) t.right in (
        same_keyed key args ∙ ap (λ (o : Option TextWhy). or_else o (wrong_read (why_held p) (item_of key args))) t.may ∙ ap (wrong_read (why_held p)) t.read ∙ t.right,
        ap (λ (r : Result Item TextWhy). is_some (result_ok r)) t.read,
        subst (λ (r : Result Item TextWhy). Holds (all ++ cons_option (result_ok r) []) q) (sym t.read) (subst (Holds (all ++ t.item ∷ [])) (sym t.result) more),
      )

  keyed_err : (k : Option Key) (args : List (List ℕ)) (w : TextWhy) → take_keyed p k args ≡ Err w → why_keyed all k args ≡ Some w
  keyed_err None args w e = cc
  keyed_err (Some key) args w e = same_keyed key args ∙ refused (why_key (has p key) (is_some p.name) key) (item_of key args) (why_held p) (put_item p) w e

  words_ok : (ws : List (List ℕ)) (q : Partial) → is_skipped ws ≡ false → take_words p ws ≡ Ok q → (why_words all ws ≡ None) × (is_some (item_of_words ws) ≡ true) × Holds (all ++ cons_option (item_of_words ws) []) q
  words_ok [] q skip e = absurd (false≢true (sym skip))
  words_ok (w ∷ args) q skip e = keyed_ok (key_of w) args q e

  words_err : (ws : List (List ℕ)) (w : TextWhy) → take_words p ws ≡ Err w → why_words all ws ≡ Some w
  words_err [] w e = cc
  words_err (v ∷ args) w e = keyed_err (key_of v) args w e

  line_ok_by : (u s : Bool) (ws : List (List ℕ)) (q : Partial) → is_skipped ws ≡ s → cond (not u) (Err why.NotUtf8) (cond s (Ok p) (take_words p ws)) ≡ Ok q
      → (cond (not u) (Some why.NotUtf8) (cond s None (why_words all ws)) ≡ None) × ((u && (s || is_some (item_of_words ws))) ≡ true) × Holds (all ++ cons_option (cond s None (item_of_words ws)) []) q
  line_ok_by false s ws q skip e = cc
  line_ok_by true true ws q skip e = (refl, refl, subst (λ (l : List Item). Holds l q) (sym (append-nil all)) (subst (Holds all) (cc) h))
  line_ok_by true false ws q skip e = words_ok ws q skip e

  line_err_by : (u s : Bool) (ws : List (List ℕ)) (w : TextWhy) → cond (not u) (Err why.NotUtf8) (cond s (Ok p) (take_words p ws)) ≡ Err w → cond (not u) (Some why.NotUtf8) (cond s None (why_words all ws)) ≡ Some w
  line_err_by false s ws w e = cc
  line_err_by true true ws w e = cc
  line_err_by true false ws w e = words_err ws w e

  -- a line
  pub line_ok : (line : List ℕ) (q : Partial) → take_line p line ≡ Ok q → (why_line all line ≡ None) × (is_desc_read line ≡ true) × Holds (all ++ cons_option (item_in line) []) q
  line_ok line q e = line_ok_by (is_utf8 line) (is_skipped (words line)) (words line) q refl e

  pub line_err : (line : List ℕ) (w : TextWhy) → take_line p line ≡ Err w → why_line all line ≡ Some w
  line_err line w e = line_err_by (is_utf8 line) (is_skipped (words line)) (words line) w e

-- ---- the whole text

pub unless_ok : {A : Type 0} (o : Option TextWhy) (r : Result A TextWhy) (x : A) → unless o r ≡ Ok x → (o ≡ None) × (r ≡ Ok x)
unless_ok None r x e = (refl, e)
unless_ok (Some w) r x e = cc

unless_err : {A : Type 0} (o : Option TextWhy) (x : A) (w : TextWhy) → unless o (Ok x) ≡ Err w → o ≡ Some w
unless_err None x w e = cc
unless_err (Some v) x w e = cc

is_or : {A : Type 0} (d : A) (o : Option A) → IsOr d (option_to_list o) (unwrap_or o d)
is_or d None = refl
is_or d (Some x) = refl

nonempty : (ps : List Port) → eqb (length ps) 0 ≡ false → 1 ≤ length ps
nonempty ps e = grind (arith, nat_tests)

suc_not_zero : (n : ℕ) → eqb (suc n) 0 ≡ false
suc_not_zero n = grind (arith, nat_tests)

end_by : {A B C : Type 0} (n : Option A) (u : Option B) (a : Option C) (m : Option (Kind × List ℤ)) (ins outs : List Port) (make : A → B → C → Kind × List ℤ → List Port → SlaveDesc) (w : TextWhy)
    → (or_why n why.Missing >>= λ n. or_why u why.Missing >>= λ u. or_why a why.Missing >>= λ a. or_why m why.Missing >>= λ m. unless (refused_if (eqb (length outs) 0) why.Missing) (Ok outs) >>= λ outs. unless (refused_if (not (has_ports m.0 (length ins) (length outs))) why.Ports) (Ok (make n u a m outs))) ≡ Err w
    → cond (came (option_to_list n) && came (option_to_list u) && came (option_to_list a) && came outs) (why_ports (option_to_list m) (length ins) (length outs)) (Some why.Missing) ≡ Some w
end_by None u a m ins outs make w e = cc
end_by (Some n) None a m ins outs make w e = cc
end_by (Some n) (Some u) None m ins outs make w e = cc
end_by (Some n) (Some u) (Some a) None ins [] make w e = cc
end_by (Some n) (Some u) (Some a) None ins (x ∷ outs) make w e = cc
end_by (Some n) (Some u) (Some a) (Some m) ins [] make w e = cc
end_by (Some n) (Some u) (Some a) (Some m) ins (x ∷ outs) make w e = unless_err (refused_if (not (has_ports m.0 (length ins) (length (x ∷ outs)))) why.Ports) (make n u a m (x ∷ outs)) w (rw (suc_not_zero (length outs)) at e)

-- the end
module _ (all : List Item) (p : Partial) (h : Holds all p) where
  pub end_ok : (d : SlaveDesc) → finished p ≡ Ok d → Describes all d
  end_ok d e =
      let n = bind_ok (or_why p.name why.Missing) _ d e in
      let u = bind_ok (or_why p.uuid why.Missing) _ d n.2 in
      let a = bind_ok (or_why p.address why.Missing) _ d u.2 in
      let m = bind_ok (or_why p.model why.Missing) _ d a.2 in
      let o = bind_ok (unless (refused_if (eqb (length p.outputs) 0) why.Missing) (Ok p.outputs)) _ d m.2 in
      let some_outputs = unless_ok (refused_if (eqb (length p.outputs) 0) why.Missing) (Ok p.outputs) o.0 o.1 in
      let outputs_are : p.outputs ≡ o.0 = ok_same p.outputs o.0 (Ok p.outputs) refl some_outputs.1 in
      let last = unless_ok (refused_if (not (has_ports m.0.0 (length p.inputs) (length o.0))) why.Ports) _ d o.2 in
      let named = some_ok p.name why.Missing n.0 n.1 in
      let is_d = ok_same _ d _ refl last.1 in
      subst (Describes all) is_d (record {
        first = h.first;
        name = h.name ∙ ap option_to_list named;
        uuid = h.uuid ∙ ap option_to_list (some_ok p.uuid why.Missing u.0 u.1);
        address = h.address ∙ ap option_to_list (some_ok p.address why.Missing a.0 a.1);
        model = h.model ∙ ap option_to_list (some_ok p.model why.Missing m.0 m.1);
        taken = subst (λ (o : Option (Kind × List ℤ)). IfSome o (λ m. takes m.0 m.1 ≡ true)) (some_ok p.model why.Missing m.0 m.1) h.taken;
        busy = subst (λ (l : List ℕ). IsOr 0 l (unwrap_or p.busy 0)) (sym h.busy) (is_or 0 p.busy);
        heartbeat = subst (λ (l : List ℕ). IsOr 0 l (unwrap_or p.heartbeat 0)) (sym h.heartbeat) (is_or 0 p.heartbeat);
        resolution = subst (λ (l : List (ℕ × ℕ)). IsOr (1, 1000) l (unwrap_or p.resolution (1, 1000))) (sym h.resolution) (is_or (1, 1000) p.resolution);
        inputs = h.inputs;
        outputs = h.outputs ∙ outputs_are;
        few_inputs = h.few_inputs;
        few_outputs = subst (λ (l : List Port). (1 ≤ length l) × (length l ≤ 8)) outputs_are (nonempty p.outputs (not_refused _ why.Missing some_outputs.0), h.few_outputs);
        inputs_apart = h.inputs_apart;
        outputs_apart = subst AreApart outputs_are h.outputs_apart;
        ports = not_not (has_ports m.0.0 (length p.inputs) (length o.0)) (not_refused _ why.Ports last.0);
      })

  pub end_err : (w : TextWhy) → finished p ≡ Err w → why_end all ≡ Some w
  end_err w e = rw (h.name, h.uuid, h.address, h.model, h.inputs, h.outputs) (end_by p.name p.uuid p.address p.model p.inputs p.outputs _ w e)

pub slice_get-at : {X : Type 0} (front : List X) (x : X) (rest : List X) → slice_get (front ++ x ∷ rest) (length front) ≡ Some x
slice_get-at [] x rest = refl
slice_get-at (y ∷ front) x rest = slice_get-at front x rest

pub items_push : (done : List (List ℕ)) (line : List ℕ) → items_in (done ++ line ∷ []) ≡ items_in done ++ cons_option (item_in line) []
items_push done line = filter_map-append item_in done (line ∷ [])

-- what the judging says after the lines that are done
at_next : (done : List (List ℕ)) (line : List ℕ) (rest : List (List ℕ)) → desc_why_at (done ++ line ∷ rest) (length done + 1) ≡ why_line (items_in done) line
at_next done line rest =
    let before : length done + 1 - 1 ≡ length done = omega arith in
    rw (before, slice_get-at done line rest, take_at done (line ∷ rest) (length done) refl) refl

at_end : (done : List (List ℕ)) → desc_why_at done (length done + 1) ≡ why_end (items_in done)
at_end done =
    let before : length done + 1 - 1 ≡ length done = omega arith in
    rw (before, slice_get_past done (length done) (omega arith), take-length done) refl

-- what holds of the lines that are done
abbrev pub HoldsLines : List (List ℕ) → Partial → Type 0
HoldsLines done p = Holds (items_in done) p × All (λ line. is_desc_read line ≡ true) done

owes_taken : (done rest : List (List ℕ)) (line : List ℕ) (p q : Partial) → HoldsLines done p → take_line p line ≡ Ok q → (desc_why_at (done ++ line ∷ rest) (length done + 1) ≡ None) × HoldsLines (done ++ line ∷ []) q
owes_taken done rest line p q h e =
    let took = line_ok (items_in done) p h.0 line q e in
    (at_next done line rest ∙ took.0, (subst (λ (l : List Item). Holds l q) (sym (items_push done line)) took.2, All-push (λ line. is_desc_read line ≡ true) done line h.1 took.1))

-- the reader owes the judging
judges : Judges take_line finished desc_why_at HoldsLines
judges = record {
  taken = owes_taken;
  refused = λ done rest line p w h e. at_next done line rest ∙ line_err (items_in done) p h.0 line w e;
  ended = λ done p w h e. at_end done ∙ end_err (items_in done) p h.0 w e;
}

holds_none : HoldsLines [] nothing
holds_none = (holds_nothing, λ k x below. absurd (omega arith))

-- the two answers
pub reads : (text : List ℕ) (d : SlaveDesc) → run_of take_line finished 1 nothing (lines text) ≡ Ok d → ReadsAsDesc text d
reads text d e =
    let r = run_ok take_line finished desc_why_at HoldsLines judges [] (lines text) nothing d holds_none e in
    record { each = r.1.1; says = end_ok (items_in (lines text)) r.0 r.1.0 d r.2 }

pub first_bad : (text : List ℕ) (f : TextFault) → run_of take_line finished 1 nothing (lines text) ≡ Err f → FirstBad desc_why_at text f.line f.why
first_bad text f e = run_err take_line finished desc_why_at HoldsLines judges [] (lines text) nothing f holds_none (λ n below some. absurd (omega arith)) e
