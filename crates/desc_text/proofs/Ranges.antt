-- A text gives a description in range.
use Rattle.std.proofs.Common.{◌≡◌, ℕ, ℤ, pos, neg_ℤ, zero, suc, ◌<◌, ◌≤◌, ◌^◌, ◌-◌, Bool, true, false, cond, drop, List, [], ◌∷◌, Option, Some, None, Result, Ok, Err, refl, sym, subst, arith}
use Rattle.std.specs.Prelude.{FitsSigned}
use Rattle.std.specs.List.{filter_map, cons_option, AllByRecursion}
use Rattle.std.specs.Int.{w64}
use Rattle.std.specs.Result.{result_ok}
use Rattle.std.specs.Str.Lines.{lines}
use Rattle.std.proofs.lemmas.List.Elements.{All-from_recursion}
use Rattle.dcp_types.specs.declared.addresses.Address.{Address}
use Rattle.text_lines.specs.Texts.{words, is_skipped}
use Rattle.text_lines.specs.Causes.{◌>>=◌, or_why}
use Rattle.text_lines.specs.Numbers.{number_from, has_minus, int64}
use Rattle.dcp_types.specs.Names.{is_name}
use Rattle.text_lines.specs.Names.{name}
use Rattle.text_lines.specs.Addresses.{address}
use Rattle.text_lines.specs.Identities.{identity}
use Rattle.text_lines.specs.Counts.{one_word, two_words}
use Rattle.text_lines.proofs.Results.{bind_ok, moved, chosen_ok}
use Rattle.text_lines.proofs.WordRanges.{FitsAddress, number_fits, address_fits}
use Rattle.text_lines.proofs.IdentityRange.{identity_small}
use Rattle.text_lines.specs.declared.reasons.TextWhy.{TextWhy}
use Rattle.text_lines.specs.declared.reasons.TextWhy.TheVariants as why
use Rattle.fixed_models.specs.declared.kinds.Kind.{Kind}
use Rattle.desc_text.specs.Words.{data_type_of, kind_named}
use Rattle.desc_text.specs.Items.{key_of, item_of, port, resolution, parameters_said, model}
use Rattle.desc_text.specs.Said.{name_in, uuid_in, address_said, model_in, busy_in, heartbeat_in, resolution_in, input_in, output_in, item_keyed, item_of_words, items_in}
use Rattle.desc_text.specs.Reads.{ReadsAsDesc, Describes, IsOr}
use Rattle.slave_desc.specs.Descriptions.{IsDesc}
use Rattle.slave_desc.specs.declared.ports.Port.{Port}
use Rattle.desc_text.specs.declared.keys.Key.{Key}
use Rattle.desc_text.specs.declared.keys.Key.TheVariants as keys
use Rattle.desc_text.specs.declared.items.Item.{Item}
use Rattle.desc_text.specs.declared.items.Item.TheVariants as items
use Rattle.slave_desc.specs.declared.descriptions.SlaveDesc.{SlaveDesc}

abbrev FitsPair : ℕ × ℕ → Type 0
FitsPair r = ((1 ≤ r.0) × (r.0 < 2 ^ 32)) × ((1 ≤ r.1) × (r.1 < 2 ^ 32))

abbrev FitsModel : Kind × List ℤ → Type 0
FitsModel m = AllByRecursion (λ z. FitsSigned w64 z) m.1

abbrev FitsPort : Port → Type 0
FitsPort p = p.vr < 2 ^ 64

-- an item in range
abbrev Fits : Item → Type 0
Fits (items.Slave n) = is_name n ≡ true
Fits (items.Uuid n) = n < 2 ^ 128
Fits (items.Address a) = FitsAddress a
Fits (items.Model k ps) = FitsModel (k, ps)
Fits (items.Busy n) = n ≤ 50
Fits (items.Heartbeat n) = n ≤ 100000
Fits (items.Resolution n d) = FitsPair (n, d)
Fits (items.Input p) = FitsPort p
Fits (items.Output p) = FitsPort p

name_fits : (w n : List ℕ) → name w ≡ Ok n → is_name n ≡ true
name_fits w n e = let t = chosen_ok (is_name w) w n why.BadName e in subst (λ (n : List ℕ). is_name n ≡ true) t.1 t.0

-- ---- numbers in pairs, ports

resolution_fits : (args : List (List ℕ)) (r : ℕ × ℕ) → resolution args ≡ Ok r → FitsPair r
resolution_fits args r e =
    let w = bind_ok (two_words args) _ r e in
    let n = bind_ok (number_from 1 (2 ^ 32 - 1) w.0.0) _ r w.2 in
    let d = bind_ok (number_from 1 (2 ^ 32 - 1) w.0.1) _ r n.2 in
    let n_in = number_fits 1 (2 ^ 32 - 1) w.0.0 n.0 n.1 in
    let d_in = number_fits 1 (2 ^ 32 - 1) w.0.1 d.0 d.1 in
    moved FitsPair (n.0, d.0) r d.2 ((n_in.0, omega (arith, n_in.1)), (d_in.0, omega (arith, d_in.1)))

port_fits : (args : List (List ℕ)) (p : Port) → port args ≡ Ok p → FitsPort p
port_fits args p e =
    let w = bind_ok (two_words args) _ p e in
    let v = bind_ok (number_from 0 (2 ^ 64 - 1) w.0.0) _ p w.2 in
    let k = bind_ok (or_why (data_type_of w.0.1) why.UnsupportedType) _ p v.2 in
    moved FitsPort (record { vr = v.0; kind = k.0 }) p k.2 (omega (arith, (number_fits 0 (2 ^ 64 - 1) w.0.0 v.0 v.1).1))

-- ---- parameters

minus_fits : (n : ℕ) → n ≤ 2 ^ 63 → FitsSigned w64 (neg_ℤ (pos n))
minus_fits zero h = record { sfits = omega arith }
minus_fits (suc n) h = record { sfits = omega (arith, h) }

plus_fits : (n : ℕ) → n ≤ 2 ^ 63 - 1 → FitsSigned w64 (pos n)
plus_fits n h = record { sfits = omega (arith, h) }

pub int64_fits : (w : List ℕ) (z : ℤ) → int64 w ≡ Ok z → FitsSigned w64 z
int64_fits w z e = by (has_minus w) e
  where
    by : (b : Bool) → cond b (number_from 0 (2 ^ 63) (drop 1 w) >>= λ n. Ok (neg_ℤ (pos n))) (number_from 0 (2 ^ 63 - 1) w >>= λ n. Ok (pos n)) ≡ Ok z → FitsSigned w64 z
    by true e =
        let n = bind_ok (number_from 0 (2 ^ 63) (drop 1 w)) (λ n. Ok (neg_ℤ (pos n))) z e in
        moved (λ (z : ℤ). FitsSigned w64 z) (neg_ℤ (pos n.0)) z n.2 (minus_fits n.0 (number_fits 0 (2 ^ 63) (drop 1 w) n.0 n.1).1)
    by false e =
        let n = bind_ok (number_from 0 (2 ^ 63 - 1) w) (λ n. Ok (pos n)) z e in
        moved (λ (z : ℤ). FitsSigned w64 z) (pos n.0) z n.2 (plus_fits n.0 (number_fits 0 (2 ^ 63 - 1) w n.0 n.1).1)

parameters_fit : (ws : List (List ℕ)) (ps : List ℤ) → parameters_said ws ≡ Ok ps → AllByRecursion (λ z. FitsSigned w64 z) ps
parameters_fit [] ps e = moved (AllByRecursion (λ z. FitsSigned w64 z)) [] ps e tt
parameters_fit (w ∷ ws) ps e =
    let z = bind_ok (int64 w) _ ps e in
    let r = bind_ok (parameters_said ws) _ ps z.2 in
    moved (AllByRecursion (λ z. FitsSigned w64 z)) (z.0 ∷ r.0) ps r.2 (int64_fits w z.0 z.1, parameters_fit ws r.0 r.1)

model_fits : (args : List (List ℕ)) (i : Item) → model args ≡ Ok i → Fits i
model_fits [] i e = cc
model_fits (w ∷ ws) i e =
    let k = bind_ok (or_why (kind_named w) why.UnknownModel) _ i e in
    let ps = bind_ok (parameters_said ws) _ i k.2 in
    moved Fits (items.Model k.0 ps.0) i ps.2 (parameters_fit ws ps.0 ps.1)

-- ---- items

item_fits : (key : Key) (args : List (List ℕ)) (i : Item) → item_of key args ≡ Ok i → Fits i
item_fits keys.Slave args i e =
    let w = bind_ok (one_word args) _ i e in
    let n = bind_ok (name w.0) _ i w.2 in
    moved Fits (items.Slave n.0) i n.2 (name_fits w.0 n.0 n.1)
item_fits keys.Uuid args i e =
    let w = bind_ok (one_word args) _ i e in
    let n = bind_ok (identity w.0) _ i w.2 in
    moved Fits (items.Uuid n.0) i n.2 (identity_small w.0 n.0 n.1)
item_fits keys.Address args i e = let a = bind_ok (address args) _ i e in moved Fits (items.Address a.0) i a.2 (address_fits args a.0 a.1)
item_fits keys.Model args i e = model_fits args i e
item_fits keys.Busy args i e =
    let w = bind_ok (one_word args) _ i e in
    let n = bind_ok (number_from 0 50 w.0) _ i w.2 in
    moved Fits (items.Busy n.0) i n.2 (number_fits 0 50 w.0 n.0 n.1).1
item_fits keys.Heartbeat args i e =
    let w = bind_ok (one_word args) _ i e in
    let n = bind_ok (number_from 0 100000 w.0) _ i w.2 in
    moved Fits (items.Heartbeat n.0) i n.2 (number_fits 0 100000 w.0 n.0 n.1).1
item_fits keys.Resolution args i e = let r = bind_ok (resolution args) _ i e in moved Fits (items.Resolution r.0.0 r.0.1) i r.2 (resolution_fits args r.0 r.1)
item_fits keys.Input args i e = let p = bind_ok (port args) _ i e in moved Fits (items.Input p.0) i p.2 (port_fits args p.0 p.1)
item_fits keys.Output args i e = let p = bind_ok (port args) _ i e in moved Fits (items.Output p.0) i p.2 (port_fits args p.0 p.1)

-- all of a text's items are in range
AllFit : List Item → Type 0
AllFit [] = Unit {0}
AllFit (i ∷ is) = Fits i × AllFit is

read_fits : (r : Result Item TextWhy) (is : List Item) → ((i : Item) → r ≡ Ok i → Fits i) → AllFit is → AllFit (cons_option (result_ok r) is)
unfolding AllFit
read_fits (Ok i) is h others = (h i refl, others)
read_fits (Err w) is h others = others

words_fit : (ws : List (List ℕ)) (is : List Item) → AllFit is → AllFit (cons_option (item_of_words ws) is)
words_fit [] is others = others
words_fit (w ∷ args) is others = by (key_of w)
  where
    by : (k : Option Key) → AllFit (cons_option (item_keyed k args) is)
    by None = others
    by (Some key) = read_fits (item_of key args) is (item_fits key args) others

line_fits : (b : Bool) (ws : List (List ℕ)) (is : List Item) → AllFit is → AllFit (cons_option (cond b None (item_of_words ws)) is)
line_fits true ws is others = others
line_fits false ws is others = words_fit ws is others

lines_fit : (ls : List (List ℕ)) → AllFit (items_in ls)
unfolding AllFit
lines_fit [] = tt
lines_fit (l ∷ ls) = line_fits (is_skipped (words l)) (words l) (items_in ls) (lines_fit ls)

-- each value that is said
all_said : {X : Type 0} (f : Item → Option X) (P : X → Type 0) → ((i : Item) (x : X) → Fits i → f i ≡ Some x → P x) → (all : List Item) → AllFit all → AllByRecursion P (filter_map f all)
unfolding AllFit
all_said f P h [] fit = tt
all_said {X = X} f P h (i ∷ is) fit = by (f i) refl (all_said f P h is fit.1)
  where
    by : (o : Option X) → f i ≡ o → AllByRecursion P (filter_map f is) → AllByRecursion P (cons_option o (filter_map f is))
    by None same others = others
    by (Some x) same others = (h i x fit.0 same, others)

-- the one value that is said
one_said : {X : Type 0} (f : Item → Option X) (P : X → Type 0) → ((i : Item) (x : X) → Fits i → f i ≡ Some x → P x) → (all : List Item) → AllFit all → (x : X) → filter_map f all ≡ x ∷ [] → P x
one_said f P h all fit x e = (subst (AllByRecursion P) e (all_said f P h all fit)).0

or_said : {X : Type 0} (f : Item → Option X) (P : X → Type 0) → ((i : Item) (x : X) → Fits i → f i ≡ Some x → P x) → (all : List Item) → AllFit all → (d x : X) → P d → IsOr d (filter_map f all) x → P x
or_said {X = X} f P h all fit d x default e = by (filter_map f all) (all_said f P h all fit) e
  where
    by : (xs : List X) → AllByRecursion P xs → IsOr d xs x → P x
    by [] fit e = subst P (sym e) default
    by (y ∷ []) fit e = subst P (sym e) fit.0
    by (y ∷ z ∷ more) fit e = absurd e

in_name : (i : Item) (x : List ℕ) → Fits i → name_in i ≡ Some x → is_name x ≡ true
in_name (items.Slave n) x h e = let same : n ≡ x = cc in subst (λ (n : List ℕ). is_name n ≡ true) same h
in_name _ x h e = cc

in_uuid : (i : Item) (x : ℕ) → Fits i → uuid_in i ≡ Some x → x < 2 ^ 128
in_uuid (items.Uuid n) x h e = let same : n ≡ x = cc in subst (λ (n : ℕ). n < 2 ^ 128) same h
in_uuid _ x h e = cc

in_address : (i : Item) (x : Address) → Fits i → address_said i ≡ Some x → FitsAddress x
in_address (items.Address a) x h e = let same : a ≡ x = cc in subst FitsAddress same h
in_address _ x h e = cc

some_model : (a b : Kind × List ℤ) → FitsModel a → Some a ≡ Some b → FitsModel b
some_model a b h e = let same : a ≡ b = cc in subst FitsModel same h

in_model : (i : Item) (x : Kind × List ℤ) → Fits i → model_in i ≡ Some x → FitsModel x
in_model (items.Model k ps) x h e = some_model (k, ps) x h e
in_model _ x h e = cc

in_busy : (i : Item) (x : ℕ) → Fits i → busy_in i ≡ Some x → x ≤ 50
in_busy (items.Busy n) x h e = let same : n ≡ x = cc in subst (λ (n : ℕ). n ≤ 50) same h
in_busy _ x h e = cc

in_heartbeat : (i : Item) (x : ℕ) → Fits i → heartbeat_in i ≡ Some x → x ≤ 100000
in_heartbeat (items.Heartbeat n) x h e = let same : n ≡ x = cc in subst (λ (n : ℕ). n ≤ 100000) same h
in_heartbeat _ x h e = cc

some_pair : (a b : ℕ × ℕ) → FitsPair a → Some a ≡ Some b → FitsPair b
some_pair a b h e = let same : a ≡ b = cc in subst FitsPair same h

in_resolution : (i : Item) (x : ℕ × ℕ) → Fits i → resolution_in i ≡ Some x → FitsPair x
in_resolution (items.Resolution n d) x h e = some_pair (n, d) x h e
in_resolution _ x h e = cc

in_input : (i : Item) (x : Port) → Fits i → input_in i ≡ Some x → FitsPort x
in_input (items.Input p) x h e = let same : p ≡ x = cc in subst FitsPort same h
in_input _ x h e = cc

in_output : (i : Item) (x : Port) → Fits i → output_in i ≡ Some x → FitsPort x
in_output (items.Output p) x h e = let same : p ≡ x = cc in subst FitsPort same h
in_output _ x h e = cc

-- items that fit describe a description in range
described : (all : List Item) (d : SlaveDesc) → AllFit all → Describes all d → IsDesc d
described all d fit says =
    let address = one_said address_said FitsAddress in_address all fit d.address says.address in
    let model = one_said model_in FitsModel in_model all fit (d.kind, d.parameters) says.model in
    let resolution = or_said resolution_in FitsPair in_resolution all fit (1, 1000) (d.numerator, d.denominator) ((omega arith, omega arith), (omega arith, omega arith)) says.resolution in
    record {
      name = one_said name_in (λ (x : List ℕ). is_name x ≡ true) in_name all fit d.name says.name;
      uuid = one_said uuid_in (λ (x : ℕ). x < 2 ^ 128) in_uuid all fit d.uuid says.uuid;
      ip = address.0;
      port = (address.1, address.2);
      parameters = All-from_recursion (λ z. FitsSigned w64 z) d.parameters model;
      taken = says.taken;
      busy = or_said busy_in (λ (x : ℕ). x ≤ 50) in_busy all fit 0 d.busy (omega arith) says.busy;
      heartbeat = or_said heartbeat_in (λ (x : ℕ). x ≤ 100000) in_heartbeat all fit 0 d.heartbeat (omega arith) says.heartbeat;
      numerator = resolution.0;
      denominator = resolution.1;
      vrs = (
        All-from_recursion (λ p. p.vr < 2 ^ 64) d.inputs (subst (AllByRecursion FitsPort) says.inputs (all_said input_in FitsPort in_input all fit)),
        All-from_recursion (λ p. p.vr < 2 ^ 64) d.outputs (subst (AllByRecursion FitsPort) says.outputs (all_said output_in FitsPort in_output all fit)),
      );
      few_inputs = says.few_inputs;
      few_outputs = says.few_outputs;
      inputs_apart = says.inputs_apart;
      outputs_apart = says.outputs_apart;
      ports = says.ports;
    }

-- what reads is in range
pub reads_desc : (text : List ℕ) (d : SlaveDesc) → ReadsAsDesc text d → IsDesc d
reads_desc text d r = described (items_in (lines text)) d (lines_fit (lines text)) r.says

-- the items of lines describe a description in range, where they describe one
pub items_desc : (ls : List (List ℕ)) (d : SlaveDesc) → Describes (items_in ls) d → IsDesc d
items_desc ls d says = described (items_in ls) d (lines_fit ls) says
