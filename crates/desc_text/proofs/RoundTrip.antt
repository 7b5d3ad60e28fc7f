-- The canonical text of a description reads back.
use Rattle.std.proofs.Common.{◌≡◌, ℕ, ℤ, ◌-◌, ◌^◌, ◌<◌, Bool, true, false, ◌||◌, cond, List, [], ◌∷◌, ◌++◌, map, Option, Some, None, Ok, is_some, refl, sym, ap, ◌∙◌, subst, arith, append-nil, codes}
use Rattle.std.specs.Prelude.{All, decimal, FitsSigned}
use Rattle.std.specs.List.{list_all, filter_map, cons_option, join_with_byte, AllByRecursion}
use Rattle.std.specs.Int.{w64}
use Rattle.std.specs.Fmt.{signed_decimal}
use Rattle.std.specs.Str.Lines.{lines}
use Rattle.std.proofs.lemmas.Bool.{false≢true}
use Rattle.std.proofs.lemmas.List.Elements.{filter_map-append, recursion_from_All}
use Rattle.std.proofs.lemmas.List.Sums.{AllPass-from_list_all}
use Rattle.text_lines.specs.Texts.{is_skipped}
use Rattle.dcp_types.specs.Words.{type_word}
use Rattle.fixed_models.specs.Kinds.{kind_word}
use Rattle.desc_text.specs.Words.{data_type_of, kind_named}
use Rattle.desc_text.specs.Items.{port, parameters_said}
use Rattle.desc_text.specs.Said.{name_in, uuid_in, address_said, model_in, busy_in, heartbeat_in, resolution_in, input_in, output_in, item_of_words, item_in, items_in}
use Rattle.desc_text.specs.Reads.{is_desc_read, ReadsAsDesc, Describes, IsOr}
use Rattle.desc_text.specs.Canonical.{port_words, head_words, words_of, canonical}
use Rattle.slave_desc.specs.Descriptions.{IsDesc}
use Rattle.text_lines.proofs.PlainWords.{is_plain, both, words_joined, line_bytes, line_is_utf8, lines_joined}
use Rattle.text_lines.proofs.NameLemmas.{plain_name}
use Rattle.text_lines.proofs.NumberWords.{number_from_decimal, plain_decimal, int64_decimal, plain_signed, ip_back, plain_ip}
use Rattle.text_lines.proofs.IdentityWords.{identity_back, plain_identity}
use Rattle.slave_desc.specs.declared.ports.Port.{Port}
use Rattle.fixed_models.specs.declared.kinds.Kind.{Kind}
use Rattle.fixed_models.specs.declared.kinds.Kind.TheVariants as kinds
use Rattle.dcp_types.specs.declared.data_types.DataType.{DataType}
use Rattle.dcp_types.specs.declared.data_types.DataType.TheVariants as types
use Rattle.desc_text.specs.declared.items.Item.{Item}
use Rattle.desc_text.specs.declared.items.Item.TheVariants as items
use Rattle.slave_desc.specs.declared.descriptions.SlaveDesc.{SlaveDesc}

-- a line of plain words that is this item
record IsLine (ws : List (List ℕ)) (i : Item) : Type 0 where
  plain : list_all is_plain ws ≡ true
  counts : is_skipped ws ≡ false
  item : item_of_words ws ≡ Some i

joined_item : (ws : List (List ℕ)) (i : Item) → IsLine ws i → (is_desc_read (join_with_byte 32 ws) ≡ true) × (item_in (join_with_byte 32 ws) ≡ Some i)
joined_item [] i h = absurd (false≢true (sym h.counts))
joined_item (w ∷ ws) i h =
    let l = join_with_byte 32 (w ∷ ws) in
    let split = words_joined w ws h.plain in
    let utf8 = line_is_utf8 l (line_bytes (w ∷ ws) h.plain) in (
      both utf8 (ap (λ (v : List (List ℕ)). is_skipped v || is_some (item_of_words v)) split ∙ ap (λ (b : Bool). b || is_some (item_of_words (w ∷ ws))) h.counts ∙ ap is_some h.item),
      ap (λ (v : List (List ℕ)). cond (is_skipped v) None (item_of_words v)) split ∙ ap (λ (b : Bool). cond b None (item_of_words (w ∷ ws))) h.counts ∙ h.item,
    )

-- lines and their items
AreLines : List (List (List ℕ)) → List Item → Type 0
AreLines [] [] = Unit {0}
AreLines [] (i ∷ is) = ⊥
AreLines (ws ∷ es) [] = ⊥
AreLines (ws ∷ es) (i ∷ is) = IsLine ws i × AreLines es is

lines_are : (es : List (List (List ℕ))) (is : List Item) → AreLines es is → (list_all (list_all is_plain) es ≡ true) × (list_all is_desc_read (map (join_with_byte 32) es) ≡ true) × (filter_map item_in (map (join_with_byte 32) es) ≡ is)
unfolding AreLines
lines_are [] [] h = (refl, refl, refl)
lines_are [] (i ∷ is) h = absurd h
lines_are (ws ∷ es) [] h = absurd h
lines_are (ws ∷ es) (i ∷ is) h =
    let first = joined_item ws i h.0 in
    let others = lines_are es is h.1 in
    (both h.0.plain others.0, both first.0 others.1, ap (λ (o : Option Item). cons_option o (filter_map item_in (map (join_with_byte 32) es))) first.1 ∙ ap (λ (l : List Item). i ∷ l) others.2)

are_lines-append : (es fs : List (List (List ℕ))) (is js : List Item) → AreLines es is → AreLines fs js → AreLines (es ++ fs) (is ++ js)
unfolding AreLines
are_lines-append [] fs [] js h k = k
are_lines-append [] fs (i ∷ is) js h k = absurd h
are_lines-append (ws ∷ es) fs [] js h k = absurd h
are_lines-append (ws ∷ es) fs (i ∷ is) js h k = (h.0, are_lines-append es fs is js h.1 k)

-- each word of a table
type_back : (t : DataType) → data_type_of (type_word t) ≡ Some t
type_back types.U8 = refl
type_back types.U16 = refl
type_back types.U32 = refl
type_back types.U64 = refl
type_back types.I8 = refl
type_back types.I16 = refl
type_back types.I32 = refl
type_back types.I64 = refl

plain_type : (t : DataType) → is_plain (type_word t) ≡ true
plain_type types.U8 = refl
plain_type types.U16 = refl
plain_type types.U32 = refl
plain_type types.U64 = refl
plain_type types.I8 = refl
plain_type types.I16 = refl
plain_type types.I32 = refl
plain_type types.I64 = refl

kind_back : (k : Kind) → (kind_named (kind_word k) ≡ Some k) × (is_plain (kind_word k) ≡ true)
kind_back kinds.Const = (refl, refl)
kind_back kinds.Ramp = (refl, refl)
kind_back kinds.Counter = (refl, refl)
kind_back kinds.Gain = (refl, refl)
kind_back kinds.Sum = (refl, refl)
kind_back kinds.Integrator = (refl, refl)
kind_back kinds.Lag = (refl, refl)
kind_back kinds.Delay = (refl, refl)
kind_back kinds.Limiter = (refl, refl)
kind_back kinds.Deadband = (refl, refl)
kind_back kinds.Divider = (refl, refl)
kind_back kinds.Oscillator = (refl, refl)
kind_back kinds.Tank = (refl, refl)
kind_back kinds.Switch = (refl, refl)
kind_back kinds.External = (refl, refl)

port_back : (p : Port) → p.vr < 2 ^ 64 → port (decimal p.vr ∷ type_word p.kind ∷ []) ≡ Ok p
port_back p small = rw (number_from_decimal 0 (2 ^ 64 - 1) p.vr small (omega arith) (omega arith), type_back p.kind) refl

parameters_back : (ps : List ℤ) → AllByRecursion (λ z. FitsSigned w64 z) ps → parameters_said (map signed_decimal ps) ≡ Ok ps
parameters_back [] h = refl
parameters_back (p ∷ ps) h = rw (int64_decimal p h.0, parameters_back ps h.1) refl

plain_all : (ps : List ℤ) → AllByRecursion (λ z. FitsSigned w64 z) ps → list_all is_plain (map signed_decimal ps) ≡ true
plain_all [] h = refl
plain_all (p ∷ ps) h = both (plain_signed p h.0) (plain_all ps h.1)

input_line : (p : Port) → p.vr < 2 ^ 64 → IsLine (port_words (codes "input") p) (items.Input p)
input_line p small = record {
  plain = both {a = true} refl (both (plain_decimal p.vr small) (both (plain_type p.kind) refl));
  counts = refl;
  item = rw (port_back p small) refl;
}

output_line : (p : Port) → p.vr < 2 ^ 64 → IsLine (port_words (codes "output") p) (items.Output p)
output_line p small = record {
  plain = both {a = true} refl (both (plain_decimal p.vr small) (both (plain_type p.kind) refl));
  counts = refl;
  item = rw (port_back p small) refl;
}

input_lines : (ps : List Port) → AllByRecursion (λ p. p.vr < 2 ^ 64) ps → AreLines (map (port_words (codes "input")) ps) (map (λ p. items.Input p) ps)
unfolding AreLines
input_lines [] h = tt
input_lines (p ∷ ps) h = (input_line p h.0, input_lines ps h.1)

output_lines : (ps : List Port) → AllByRecursion (λ p. p.vr < 2 ^ 64) ps → AreLines (map (port_words (codes "output")) ps) (map (λ p. items.Output p) ps)
unfolding AreLines
output_lines [] h = tt
output_lines (p ∷ ps) h = (output_line p h.0, output_lines ps h.1)

head_items : SlaveDesc → List Item
head_items d = items.Slave d.name ∷ items.Uuid d.uuid ∷ items.Address d.address ∷ items.Model d.kind d.parameters ∷ items.Busy d.busy ∷ items.Heartbeat d.heartbeat ∷ items.Resolution d.numerator d.denominator ∷ []

all_items : SlaveDesc → List Item
all_items d = head_items d ++ map (λ p. items.Input p) d.inputs ++ map (λ p. items.Output p) d.outputs

head_lines : (d : SlaveDesc) → IsDesc d → AreLines (head_words d) (head_items d)
unfolding AreLines head_items
head_lines d h = (
  record { plain = both {a = true} refl (both (plain_name d.name h.name) refl); counts = refl; item = rw h.name refl },
  (
    record { plain = both {a = true} refl (both (plain_identity d.uuid) refl); counts = refl; item = rw (identity_back d.uuid h.uuid) refl },
    (
      record {
        plain = both {a = true} refl (both (plain_ip d.address.ip h.ip) (both (plain_decimal d.address.port (omega (arith, h.port))) refl));
        counts = refl;
        item = rw (ip_back d.address.ip h.ip, number_from_decimal 1 65535 d.address.port (omega (arith, h.port)) h.port.0 (omega (arith, h.port))) refl;
      },
      (
        record {
          plain = both {a = true} refl (both (kind_back d.kind).1 (plain_all d.parameters (recursion_from_All (λ z. FitsSigned w64 z) d.parameters h.parameters)));
          counts = refl;
          item = rw ((kind_back d.kind).0, parameters_back d.parameters (recursion_from_All (λ z. FitsSigned w64 z) d.parameters h.parameters)) refl;
        },
        (
          record { plain = both {a = true} refl (both (plain_decimal d.busy (omega (arith, h.busy))) refl); counts = refl; item = rw (number_from_decimal 0 50 d.busy (omega (arith, h.busy)) (omega arith) h.busy) refl },
          (
            record { plain = both {a = true} refl (both (plain_decimal d.heartbeat (omega (arith, h.heartbeat))) refl); counts = refl; item = rw (number_from_decimal 0 100000 d.heartbeat (omega (arith, h.heartbeat)) (omega arith) h.heartbeat) refl },
            (
              record {
                plain = both {a = true} refl (both (plain_decimal d.numerator (omega (arith, h.numerator))) (both (plain_decimal d.denominator (omega (arith, h.denominator))) refl));
                counts = refl;
                item = rw (number_from_decimal 1 (2 ^ 32 - 1) d.numerator (omega (arith, h.numerator)) h.numerator.0 (omega (arith, h.numerator)), number_from_decimal 1 (2 ^ 32 - 1) d.denominator (omega (arith, h.denominator)) h.denominator.0 (omega (arith, h.denominator))) refl;
              },
              tt,
            ),
          ),
        ),
      ),
    ),
  ),
)

-- what a key says among the items of a list
none_of : {X Y : Type 0} (f : Item → Option X) (g : Y → Item) → ((y : Y) → f (g y) ≡ None) → (ys : List Y) → filter_map f (map g ys) ≡ []
none_of f g h [] = refl
none_of f g h (y ∷ ys) = ap (λ o. cons_option o (filter_map f (map g ys))) (h y) ∙ none_of f g h ys

all_of : {X : Type 0} (f : Item → Option X) (g : X → Item) → ((x : X) → f (g x) ≡ Some x) → (xs : List X) → filter_map f (map g xs) ≡ xs
all_of f g h [] = refl
all_of f g h (x ∷ xs) = ap (λ o. cons_option o (filter_map f (map g xs))) (h x) ∙ ap (λ l. x ∷ l) (all_of f g h xs)

said : {X : Type 0} (f : Item → Option X) (d : SlaveDesc) (ins outs : List X) → filter_map f (map (λ p. items.Input p) d.inputs) ≡ ins → filter_map f (map (λ p. items.Output p) d.outputs) ≡ outs → filter_map f (all_items d) ≡ filter_map f (head_items d) ++ ins ++ outs
unfolding all_items
said f d ins outs e g =
    filter_map-append f (head_items d ++ map (λ p. items.Input p) d.inputs) (map (λ p. items.Output p) d.outputs)
    ∙ ap (λ l. l ++ filter_map f (map (λ p. items.Output p) d.outputs)) (filter_map-append f (head_items d) (map (λ p. items.Input p) d.inputs) ∙ ap (λ l. filter_map f (head_items d) ++ l) e)
    ∙ ap (λ l. filter_map f (head_items d) ++ ins ++ l) g

said_once : {X : Type 0} (f : Item → Option X) (d : SlaveDesc) → ((p : Port) → f (items.Input p) ≡ None) → ((p : Port) → f (items.Output p) ≡ None) → filter_map f (all_items d) ≡ filter_map f (head_items d) ++ [] ++ []
said_once f d e g = said f d [] [] (none_of f (λ p. items.Input p) e d.inputs) (none_of f (λ p. items.Output p) g d.outputs)

describes : (d : SlaveDesc) → IsDesc d → Describes (all_items d) d
unfolding all_items head_items
describes d h = record {
  first = refl;
  name = said_once name_in d (λ _. refl) (λ _. refl);
  uuid = said_once uuid_in d (λ _. refl) (λ _. refl);
  address = said_once address_said d (λ _. refl) (λ _. refl);
  model = said_once model_in d (λ _. refl) (λ _. refl);
  taken = h.taken;
  busy = subst (λ (l : List ℕ). IsOr 0 l d.busy) (sym (said_once busy_in d (λ _. refl) (λ _. refl))) refl;
  heartbeat = subst (λ (l : List ℕ). IsOr 0 l d.heartbeat) (sym (said_once heartbeat_in d (λ _. refl) (λ _. refl))) refl;
  resolution = subst (λ (l : List (ℕ × ℕ)). IsOr (1, 1000) l (d.numerator, d.denominator)) (sym (said_once resolution_in d (λ _. refl) (λ _. refl))) refl;
  inputs = said input_in d d.inputs [] (all_of input_in (λ p. items.Input p) (λ _. refl) d.inputs) (none_of input_in (λ p. items.Output p) (λ _. refl) d.outputs) ∙ append-nil d.inputs;
  outputs = said output_in d [] d.outputs (none_of output_in (λ p. items.Input p) (λ _. refl) d.inputs) (all_of output_in (λ p. items.Output p) (λ _. refl) d.outputs);
  few_inputs = h.few_inputs;
  few_outputs = h.few_outputs;
  inputs_apart = h.inputs_apart;
  outputs_apart = h.outputs_apart;
  ports = h.ports;
}

all_lines : (d : SlaveDesc) → IsDesc d → AreLines (words_of d) (all_items d)
unfolding all_items
all_lines d h =
    are_lines-append (head_words d ++ map (port_words (codes "input")) d.inputs) (map (port_words (codes "output")) d.outputs) (head_items d ++ map (λ p. items.Input p) d.inputs) (map (λ p. items.Output p) d.outputs)
    (are_lines-append (head_words d) (map (port_words (codes "input")) d.inputs) (head_items d) (map (λ p. items.Input p) d.inputs) (head_lines d h) (input_lines d.inputs (recursion_from_All (λ (p : Port). p.vr < 2 ^ 64) d.inputs h.vrs.0)))
    (output_lines d.outputs (recursion_from_All (λ (p : Port). p.vr < 2 ^ 64) d.outputs h.vrs.1))

-- the canonical text is this description
pub canonical_reads : (d : SlaveDesc) → IsDesc d → ReadsAsDesc (canonical d) d
canonical_reads d h =
    let t = lines_are (words_of d) (all_items d) (all_lines d h) in
    let cut = lines_joined (words_of d) t.0 in
    let items_are : items_in (lines (canonical d)) ≡ all_items d = ap items_in cut ∙ t.2 in
    record {
      each = subst (λ (ls : List (List ℕ)). All (λ line. is_desc_read line ≡ true) ls) (sym cut) (AllPass-from_list_all is_desc_read (map (join_with_byte 32) (words_of d)) t.1);
      says = subst (λ (l : List Item). Describes l d) (sym items_are) (describes d h);
    }
