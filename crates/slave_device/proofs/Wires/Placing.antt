-- Where the values of inputs stand in payloads.
use Rattle.std.proofs.Common.{◌≡◌, ℕ, ◌+◌, ◌≤◌, ◌++◌, true, false, List, [], ◌∷◌, length, get_or, take, drop, map, refl, ap, sym, ◌∙◌, arith, Option, Some, None, append_assoc, zero-add}
use Rattle.std.specs.Prelude.{ℤ, pos, ◌==◌, nat_le, reverse, sum_by, is_some}
use Rattle.std.proofs.lemmas.Bool.Decides.{nat_tests}
use Rattle.std.proofs.lemmas.List.{map-append, reverse-append, length-map, length-reverse, take_at, get_or_at, drop-drop, drop_all}
use Rattle.std.proofs.lemmas.List.Sums.{sum_by-append, sum_by-cons}
use Rattle.dcp_types.specs.declared.data_types.DataType.{DataType}
use Rattle.dcp_types.specs.declared.data_types.DataType.TheVariants.{U8, U16, U32, U64, I8, I16, I32, I64}
use Rattle.dcp_types.specs.Values.{width}
use Rattle.pdu_layout.specs.declared.messages.Cfg.TheVariants as cfg
use Rattle.pdu_layout.specs.Reading.{value_in}
use Rattle.slave_desc.specs.declared.descriptions.SlaveDesc.{SlaveDesc}
use Rattle.slave_spec.specs.Changes.{Change, Set, input, entries}
use Rattle.slave_spec.specs.Refusals.{port_with, is_wired}
use Rattle.slave_spec.specs.Payloads.{Kept, Spot, port_type, input_types, spot, cut_values, value_kept}
use Rattle.slave_device.specs.Wires.Receiving.{segment_of, segment_value, IsPlaced}
use Rattle.slave_device.specs.declared.tables.Segment.{Segment}
use Rattle.slave_device.proofs.Wires.Ascending.{by_test}

-- the types of an id, after an entry of some id
pub types_own : (d : SlaveDesc) (changes : List Change) (id position vr : ℕ) (source : DataType) (y : ℕ) → (id == y) ≡ true → input_types d y (Set (cfg.Input id position vr source) ∷ changes) ≡ input_types d y changes ++ port_type (port_with vr d.inputs) ∷ []
types_own d changes id position vr source y e =
    let f : ℕ → DataType = λ v. port_type (port_with v d.inputs) in
    rw e (ap (map f) (reverse-append (vr ∷ []) (entries input y changes)) ∙ map-append f (reverse (entries input y changes)) (vr ∷ []))

pub types_other : (d : SlaveDesc) (changes : List Change) (id position vr : ℕ) (source : DataType) (y : ℕ) → (id == y) ≡ false → input_types d y (Set (cfg.Input id position vr source) ∷ changes) ≡ input_types d y changes
types_other d changes id position vr source y e = rw e refl

pub types_count : (d : SlaveDesc) (id : ℕ) (changes : List Change) → length (input_types d id changes) ≡ length (entries input id changes)
types_count d id changes = length-map (reverse (entries input id changes)) (λ v. port_type (port_with v d.inputs)) ∙ length-reverse (entries input id changes)

pub widths_more : (types : List DataType) (kind : DataType) → sum_by width (types ++ kind ∷ []) ≡ sum_by width types + width kind
widths_more types kind = sum_by-append width types (kind ∷ []) ∙ ap (λ n. sum_by width types + n) (zero-add (width kind))

-- a position keeps its place when types come behind
abbrev pub placed_more : (types : List DataType) (kind more : DataType) (e : Spot) → IsPlaced types kind e → IsPlaced (types ++ more ∷ []) kind e
placed_more types kind more e p = record {
  before = p.before;
  after = p.after ++ more ∷ [];
  split = ap (λ l. l ++ more ∷ []) p.split ∙ append_assoc p.before (kind ∷ p.after) (more ∷ []);
  position = p.position;
}

abbrev pub placed_last : (types : List DataType) (kind : DataType) (e : Spot) → e.position ≡ length types → IsPlaced (types ++ kind ∷ []) kind e
placed_last types kind e h = record { before = types; after = []; split = refl; position = h }

pub segment_is : (types : List DataType) (kind : DataType) (e : Spot) (p : IsPlaced types kind e) → segment_of types e ≡ record { id = e.id; offset = sum_by width p.before; kind = kind }
segment_is types kind e p =
    let front : take e.position types ≡ p.before = ap (take e.position) p.split ∙ take_at p.before (kind ∷ p.after) e.position (sym p.position) in
    let here : get_or types e.position I64 ≡ kind = ap (λ l. get_or l e.position I64) p.split ∙ get_or_at p.before kind p.after I64 e.position (sym p.position) in
    let f : ℕ → Segment = λ n. record { id = e.id; offset = n; kind = get_or types e.position I64 } in
    let g : DataType → Segment = λ k. record { id = e.id; offset = sum_by width p.before; kind = k } in
    ap f (ap (sum_by width) front) ∙ ap g here

cut_at : (before : List DataType) (kind : DataType) (after : List DataType) (payload : List ℕ) → get_or (cut_values (before ++ kind ∷ after) payload) (length before) (pos 0) ≡ value_in kind (take (width kind) (drop (sum_by width before) payload))
cut_at [] kind after payload = refl
cut_at (t ∷ ts) kind after payload =
    let f : List ℕ → ℤ = λ l. value_in kind (take (width kind) l) in
    cut_at ts kind after (drop (width t) payload)
    ∙ ap f (drop-drop (sum_by width ts) (width t) payload ∙ ap (λ n. drop n payload) (sym (sum_by-cons width t ts)))

pub value_placed : (types : List DataType) (kind : DataType) (e : Spot) (p : IsPlaced types kind e) (payload : List ℕ) → get_or (cut_values types payload) e.position (pos 0) ≡ value_in kind (take (width kind) (drop (sum_by width p.before) payload))
value_placed types kind e p payload =
    ap (λ l. get_or (cut_values l payload) e.position (pos 0)) p.split
    ∙ ap (λ n. get_or (cut_values (p.before ++ kind ∷ p.after) payload) n (pos 0)) p.position
    ∙ cut_at p.before kind p.after payload

pub kept_more : (types : List DataType) (kind more : DataType) (e : Spot) (o : Option Kept) → IsPlaced types kind e → value_kept (types ++ more ∷ []) e.position o ≡ value_kept types e.position o
kept_more types kind more e None p = refl
kept_more types kind more e (Some k) p = value_placed (types ++ more ∷ []) kind e (placed_more types kind more e p) k.payload ∙ sym (value_placed types kind e p k.payload)

value_in_none : (kind : DataType) → value_in kind (take (width kind) []) ≡ pos 0
value_in_none U8 = refl
value_in_none U16 = refl
value_in_none U32 = refl
value_in_none U64 = refl
value_in_none I8 = refl
value_in_none I16 = refl
value_in_none I32 = refl
value_in_none I64 = refl

-- a payload that came before the entry has no value for it
pub kept_short : (types : List DataType) (kind : DataType) (e : Spot) (o : Option Kept) → e.position ≡ length types → ((k : Kept) → o ≡ Some k → length k.payload ≤ sum_by width types) → value_kept (types ++ kind ∷ []) e.position o ≡ pos 0
kept_short types kind e None h short = refl
kept_short types kind e (Some k) h short =
    value_placed (types ++ kind ∷ []) kind e (placed_last types kind e h) k.payload
    ∙ ap (λ l. value_in kind (take (width kind) l)) (drop_all (sum_by width types) k.payload (short k refl)) ∙ value_in_none kind

-- some id has an entry for an input exactly where it stands somewhere
pub wired_is : (vr : ℕ) (changes : List Change) → is_wired vr changes ≡ is_some (spot vr changes)
wired_is vr [] = refl
wired_is vr (Set (cfg.Input id position other source) ∷ changes) =
    by_test (other == vr) (λ e. rw e refl) (λ e. rw e (wired_is vr changes))
wired_is vr (change ∷ changes) = wired_is vr changes

-- the value that is read, and the one in the definition
pub value_read : (types : List DataType) (kind : DataType) (e : Spot) (payload : List ℕ) → IsPlaced types kind e → length payload ≡ sum_by width types → segment_value (segment_of types e) payload ≡ get_or (cut_values types payload) e.position (pos 0)
value_read types kind e payload p size =
    let s : sum_by width types ≡ sum_by width p.before + (width kind + sum_by width p.after) =
    ap (sum_by width) p.split ∙ sum_by-append width p.before (kind ∷ p.after) ∙ ap (λ n. sum_by width p.before + n) (sum_by-cons width kind p.after) in
    let long : nat_le (sum_by width p.before + width kind) (length payload) ≡ true = grind (arith, nat_tests, s, size) in
    ap (λ g. segment_value g payload) (segment_is types kind e p) ∙ rw long (sym (value_placed types kind e p payload))
