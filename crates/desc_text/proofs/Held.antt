-- The partly filled value holds what the lines so far say.
use Rattle.std.proofs.Common.{◌≡◌, ◌≢◌, ℕ, ◌<◌, ◌≤◌, Bool, true, false, not, cond, eqb, leb, eq-eqb, ◌⊎◌, inl, inr, List, [], ◌∷◌, ◌++◌, length, get_or, Option, Some, None, is_some, IfSome, refl, sym, ap, ◌∙◌, arith, append-nil, length-append}
use Rattle.std.specs.List.{filter_map, list_any, cons_option}
use Rattle.std.specs.Option.{option_to_list}
use Rattle.std.proofs.lemmas.Bool.{false≢true}
use Rattle.std.proofs.lemmas.Bool.Decides.{nat_tests}
use Rattle.std.proofs.lemmas.List.Elements.{filter_map-append}
use Rattle.std.proofs.lemmas.List.Folds.{list_any_at}
use Rattle.std.proofs.lemmas.List.Quantifiers.{all_pairs_push}
use Rattle.text_lines.specs.Causes.{came, or_else, refused_if}
use Rattle.desc_text.specs.Judging.{came_before, begins, why_key, why_port, why_item}
use Rattle.desc_text.specs.Said.{name_in, uuid_in, address_said, model_in, busy_in, heartbeat_in, resolution_in, input_in, output_in}
use Rattle.fixed_models.specs.Kinds.{takes}
use Rattle.desc_text.specs.Reads.{opens_block}
use Rattle.slave_desc.specs.Descriptions.{AreApart}
use Rattle.desc_text.specs.Machine.{newer, longer, has, put_item, why_held, nothing}
use Rattle.text_lines.specs.declared.reasons.TextWhy.{TextWhy}
use Rattle.text_lines.specs.declared.reasons.TextWhy.TheVariants as why
use Rattle.slave_desc.specs.declared.ports.Port.{Port}
use Rattle.desc_text.specs.declared.keys.Key.{Key}
use Rattle.desc_text.specs.declared.keys.Key.TheVariants as keys
use Rattle.desc_text.specs.declared.items.Item.{Item}
use Rattle.desc_text.specs.declared.items.Item.TheVariants as items
use Rattle.desc_text.specs.declared.partials.Partial.{Partial}

-- p holds what these items say
pub record Holds (all : List Item) (p : Partial) : Type 0 where
  pub first : opens_block all ≡ true
  pub name : filter_map name_in all ≡ option_to_list p.name
  pub uuid : filter_map uuid_in all ≡ option_to_list p.uuid
  pub address : filter_map address_said all ≡ option_to_list p.address
  pub model : filter_map model_in all ≡ option_to_list p.model
  pub taken : IfSome p.model (λ m. takes m.0 m.1 ≡ true)
  pub busy : filter_map busy_in all ≡ option_to_list p.busy
  pub heartbeat : filter_map heartbeat_in all ≡ option_to_list p.heartbeat
  pub resolution : filter_map resolution_in all ≡ option_to_list p.resolution
  pub inputs : filter_map input_in all ≡ p.inputs
  pub outputs : filter_map output_in all ≡ p.outputs
  pub few_inputs : length p.inputs ≤ 8
  pub few_outputs : length p.outputs ≤ 8
  pub inputs_apart : AreApart p.inputs
  pub outputs_apart : AreApart p.outputs

pub holds_nothing : Holds [] nothing
holds_nothing = record {
  first = refl;
  name = refl;
  uuid = refl;
  address = refl;
  model = refl;
  taken = tt;
  busy = refl;
  heartbeat = refl;
  resolution = refl;
  inputs = refl;
  outputs = refl;
  few_inputs = omega arith;
  few_outputs = omega arith;
  inputs_apart = λ i j d h k. absurd (omega arith);
  outputs_apart = λ i j d h k. absurd (omega arith);
}

-- the key of an item
abbrev pub key_in : Item → Key
key_in (items.Slave n) = keys.Slave
key_in (items.Uuid n) = keys.Uuid
key_in (items.Address a) = keys.Address
key_in (items.Model k ps) = keys.Model
key_in (items.Busy n) = keys.Busy
key_in (items.Heartbeat n) = keys.Heartbeat
key_in (items.Resolution n d) = keys.Resolution
key_in (items.Input p) = keys.Input
key_in (items.Output p) = keys.Output

-- one more value, where none was there
joined : {X : Type 0} (old new : Option X) → (is_some new ≡ true → is_some old ≡ false) → option_to_list old ++ cons_option new [] ≡ option_to_list (newer old new)
joined old None fresh = append-nil _
joined None (Some x) fresh = refl
joined (Some y) (Some x) fresh = absurd (false≢true (sym (fresh refl)))

grown : {X : Type 0} (f : Item → Option X) (all : List Item) (i : Item) (old : Option X) → filter_map f all ≡ option_to_list old → (is_some (f i) ≡ true → is_some old ≡ false) → filter_map f (all ++ i ∷ []) ≡ option_to_list (newer old (f i))
grown f all i old h fresh = filter_map-append f all (i ∷ []) ∙ ap (λ l. l ++ cons_option (f i) []) h ∙ joined old (f i) fresh

pub lengthened : {X : Type 0} (old : List X) (new : Option X) → old ++ cons_option new [] ≡ longer old new
lengthened old None = append-nil _
lengthened old (Some x) = refl

listed : {X : Type 0} (f : Item → Option X) (all : List Item) (i : Item) (old : List X) → filter_map f all ≡ old → filter_map f (all ++ i ∷ []) ≡ longer old (f i)
listed f all i old h = filter_map-append f all (i ∷ []) ∙ ap (λ l. l ++ cons_option (f i) []) h ∙ lengthened old (f i)

module _ (p : Partial) where
  -- a key that comes once has no value yet
  fresh_name : (i : Item) → has p (key_in i) ≡ false → is_some (name_in i) ≡ true → is_some p.name ≡ false
  fresh_name (items.Slave n) h e = h
  fresh_name _ h e = absurd (false≢true e)

  fresh_uuid : (i : Item) → has p (key_in i) ≡ false → is_some (uuid_in i) ≡ true → is_some p.uuid ≡ false
  fresh_uuid (items.Uuid n) h e = h
  fresh_uuid _ h e = absurd (false≢true e)

  fresh_address : (i : Item) → has p (key_in i) ≡ false → is_some (address_said i) ≡ true → is_some p.address ≡ false
  fresh_address (items.Address a) h e = h
  fresh_address _ h e = absurd (false≢true e)

  fresh_model : (i : Item) → has p (key_in i) ≡ false → is_some (model_in i) ≡ true → is_some p.model ≡ false
  fresh_model (items.Model k ps) h e = h
  fresh_model _ h e = absurd (false≢true e)

  fresh_busy : (i : Item) → has p (key_in i) ≡ false → is_some (busy_in i) ≡ true → is_some p.busy ≡ false
  fresh_busy (items.Busy n) h e = h
  fresh_busy _ h e = absurd (false≢true e)

  fresh_heartbeat : (i : Item) → has p (key_in i) ≡ false → is_some (heartbeat_in i) ≡ true → is_some p.heartbeat ≡ false
  fresh_heartbeat (items.Heartbeat n) h e = h
  fresh_heartbeat _ h e = absurd (false≢true e)

  fresh_resolution : (i : Item) → has p (key_in i) ≡ false → is_some (resolution_in i) ≡ true → is_some p.resolution ≡ false
  fresh_resolution (items.Resolution n d) h e = h
  fresh_resolution _ h e = absurd (false≢true e)

-- what `None` says of a test
pub not_refused : (b : Bool) (w : TextWhy) → refused_if b w ≡ None → b ≡ false
not_refused true w e = absurd (false≢true (sym (ap is_some e)))
not_refused false w e = refl

pub none_first : (a b : Option TextWhy) → or_else a b ≡ None → (a ≡ None) × (b ≡ None)
none_first None b e = (refl, e)
none_first (Some w) b e = absurd (false≢true (sym (ap is_some e)))

-- a key that may come: it did not come before, and a name did, or it is the name
pub may_come : (again named : Bool) (key : Key) → why_key again named key ≡ None → (again ≡ false) × ((begins key ≡ true) ⊎ (named ≡ true))
may_come true named key e = absurd (false≢true (sym (ap is_some e)))
may_come false named keys.Slave e = (refl, inl refl)
may_come false true _ e = (refl, inr refl)
may_come false false _ e = absurd (false≢true (sym (ap is_some e)))

new_port : (b : Bool) (w : TextWhy) (o : Option TextWhy) → cond b (Some w) o ≡ None → (b ≡ false) × (o ≡ None)
new_port true w o e = absurd (false≢true (sym (ap is_some e)))
new_port false w o e = (refl, e)

differs_from_all : (ps : List Port) (q : Port) → list_any (λ p. eqb p.vr q.vr) ps ≡ false → (k : ℕ) (d : Port) → k < length ps → (get_or ps k d).vr ≡ q.vr → ⊥
differs_from_all ps q none k d below same = false≢true (sym none ∙ list_any_at (λ p. eqb p.vr q.vr) ps k d below (eq-eqb _ _ same))

pub one_port_more : (ps : List Port) (q : Port) → why_port ps q ≡ None → AreApart ps → (length (ps ++ q ∷ []) ≤ 8) × AreApart (ps ++ q ∷ [])
one_port_more ps q e apart =
    let n = new_port (list_any (λ p. eqb p.vr q.vr) ps) why.Repeated (refused_if (leb 8 (length ps)) why.Limit) e in
    let few : leb 8 (length ps) ≡ false = not_refused (leb 8 (length ps)) why.Limit n.1 in
    let short : length ps < 8 = grind (arith, nat_tests) in
    (omega (arith, length-append ps (q ∷ [])), all_pairs_push (λ (p q : Port). p.vr ≢ q.vr) ps q apart (differs_from_all ps q n.0))

pub not_not : (b : Bool) → not b ≡ false → b ≡ true
not_not true e = refl
not_not false e = absurd (false≢true (sym e))

module _ (all : List Item) (p : Partial) (h : Holds all p) where
  -- a name opens the block
  still_opens : (i : Item) (before : List Item) → filter_map name_in before ≡ option_to_list p.name → opens_block before ≡ true → (begins (key_in i) ≡ true) ⊎ (is_some p.name ≡ true) → opens_block (before ++ i ∷ []) ≡ true
  still_opens i (x ∷ before) same before_opens begun = before_opens
  still_opens (items.Slave n) [] same before_opens begun = refl
  still_opens _ [] same before_opens (inl begun) = absurd (false≢true begun)
  still_opens _ [] same before_opens (inr named) = absurd (false≢true (sym (named_came p.name (sym same) named)))
    where
      named_came : (o : Option (List ℕ)) → option_to_list o ≡ [] → is_some o ≡ true → true ≡ false
      named_came None e n = sym n
      named_came (Some x) e n = ap came e

  still_taken : (i : Item) → why_held p i ≡ None → IfSome (newer p.model (model_in i)) (λ m. takes m.0 m.1 ≡ true)
  still_taken (items.Model k ps) ok = not_not (takes k ps) (not_refused (not (takes k ps)) why.Parameters ok)
  still_taken _ ok = h.taken

  still_inputs : (i : Item) → why_held p i ≡ None → (length (longer p.inputs (input_in i)) ≤ 8) × AreApart (longer p.inputs (input_in i))
  still_inputs (items.Input q) ok = one_port_more p.inputs q ok h.inputs_apart
  still_inputs _ ok = (h.few_inputs, h.inputs_apart)

  still_outputs : (i : Item) → why_held p i ≡ None → (length (longer p.outputs (output_in i)) ≤ 8) × AreApart (longer p.outputs (output_in i))
  still_outputs (items.Output q) ok = one_port_more p.outputs q ok h.outputs_apart
  still_outputs _ ok = (h.few_outputs, h.outputs_apart)

  -- an item that may come
  pub holds_more : (i : Item) → has p (key_in i) ≡ false → (begins (key_in i) ≡ true) ⊎ (is_some p.name ≡ true) → why_held p i ≡ None → Holds (all ++ i ∷ []) (put_item p i)
  holds_more i new begun ok = record {
    first = still_opens i all h.name h.first begun;
    name = grown name_in all i p.name h.name (fresh_name p i new);
    uuid = grown uuid_in all i p.uuid h.uuid (fresh_uuid p i new);
    address = grown address_said all i p.address h.address (fresh_address p i new);
    model = grown model_in all i p.model h.model (fresh_model p i new);
    taken = still_taken i ok;
    busy = grown busy_in all i p.busy h.busy (fresh_busy p i new);
    heartbeat = grown heartbeat_in all i p.heartbeat h.heartbeat (fresh_heartbeat p i new);
    resolution = grown resolution_in all i p.resolution h.resolution (fresh_resolution p i new);
    inputs = listed input_in all i p.inputs h.inputs;
    outputs = listed output_in all i p.outputs h.outputs;
    few_inputs = (still_inputs i ok).0;
    few_outputs = (still_outputs i ok).0;
    inputs_apart = (still_inputs i ok).1;
    outputs_apart = (still_outputs i ok).1;
  }

  came_option : {X : Type 0} (o : Option X) → came (option_to_list o) ≡ is_some o
  came_option None = refl
  came_option (Some x) = refl

  -- the two see the same
  pub same_has : (key : Key) → came_before all key ≡ has p key
  same_has keys.Slave = ap came h.name ∙ came_option p.name
  same_has keys.Uuid = ap came h.uuid ∙ came_option p.uuid
  same_has keys.Address = ap came h.address ∙ came_option p.address
  same_has keys.Model = ap came h.model ∙ came_option p.model
  same_has keys.Busy = ap came h.busy ∙ came_option p.busy
  same_has keys.Heartbeat = ap came h.heartbeat ∙ came_option p.heartbeat
  same_has keys.Resolution = ap came h.resolution ∙ came_option p.resolution
  same_has keys.Input = refl
  same_has keys.Output = refl

  pub same_named : came (filter_map name_in all) ≡ is_some p.name
  same_named = ap came h.name ∙ came_option p.name

  pub same_why : (i : Item) → why_item all i ≡ why_held p i
  same_why (items.Input q) = ap (λ ps. why_port ps q) h.inputs
  same_why (items.Output q) = ap (λ ps. why_port ps q) h.outputs
  same_why (items.Model k ps) = refl
  same_why (items.Slave n) = refl
  same_why (items.Uuid n) = refl
  same_why (items.Address a) = refl
  same_why (items.Busy n) = refl
  same_why (items.Heartbeat n) = refl
  same_why (items.Resolution n d) = refl
