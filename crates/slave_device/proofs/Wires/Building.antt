-- The data messages that are built.
use Rattle.std.proofs.Common.{◌≡◌, ℕ, zero, suc, ◌+◌, ◌*◌, ◌/◌, ◌%◌, ◌<◌, ◌≤◌, ◌++◌, Bool, true, false, List, [], ◌∷◌, length, get_or, take, map, refl, ap, subst, sym, ◌∙◌, arith, Option, Some, None}
use Rattle.std.specs.Prelude.{ℤ, pos, ◌==◌, ◌&&◌, reverse, slice_get}
use Rattle.std.specs.List.{flat_map}
use Rattle.std.proofs.lemmas.List.{get_or-map, length-append, length-take, flat_map_more, take_more}
use Rattle.std.proofs.Math.Nat.{mod-add-mod}
use Rattle.dcp_types.specs.declared.data_types.DataType.{DataType}
use Rattle.dcp_types.specs.declared.data_types.DataType.TheVariants.{U8, U16, U32, U64, I8, I16, I32, I64}
use Rattle.dcp_types.specs.Values.{width, fits, digits}
use Rattle.pdu_layout.specs.declared.fields.FieldKind.TheVariants as kinds
use Rattle.pdu_layout.specs.Message.{Message, Spells, HasSpelling}
use Rattle.pdu_layout.specs.Reading.{spelling}
use Rattle.slave_desc.specs.declared.ports.Port.{Port}
use Rattle.slave_spec.specs.Refusals.{port_with}
use Rattle.dcp_types.specs.declared.addresses.Address.{Address}
use Rattle.slave_desc.specs.declared.descriptions.SlaveDesc.{SlaveDesc}
use Rattle.slave_spec.specs.Changes.{Change, output, entries, ids, target, entry_interval, base, ordinal}
use Rattle.slave_spec.specs.Payloads.{IsMessage, payload, data_message, values_fit_ports, output_value, bytes_for, port_type}
use Rattle.slave_device.specs.Wires.Ports.{port_index, place_with}
use Rattle.slave_device.specs.Wires.Payloads.{place_bytes}
use Rattle.slave_device.specs.declared.places.PortPlace.{PortPlace}
use Rattle.slave_device.specs.Wires.Sending.{output_row, AreOutputs}
use Rattle.slave_device.specs.declared.tables.OutputRow.{OutputRow}
use Rattle.slave_device.specs.declared.tables.Outputs.{Outputs}
use Rattle.slave_device.proofs.Wires.Ascending.{by_test}

pub width_few : (kind : DataType) → width kind ≤ 8
width_few U8 = omega arith
width_few U16 = omega arith
width_few U32 = omega arith
width_few U64 = omega arith
width_few I8 = omega arith
width_few I16 = omega arith
width_few I32 = omega arith
width_few I64 = omega arith

-- the values at the first so many places are written
pub record Written (outputs : List ℤ) (places : List PortPlace) (room : List ℕ) (at i : ℕ) : Type 0 where
  pub few : at ≤ 8 * i
  pub bytes : take at room ≡ flat_map (place_bytes outputs) (take i places)

pub written_more : (outputs : List ℤ) (places : List PortPlace) (room room' : List ℕ) (at at' i : ℕ) (d : PortPlace) → i < length places → Written outputs places room at i
    → at' ≡ at + width (get_or places i d).kind → take at' room' ≡ take at room ++ place_bytes outputs (get_or places i d) → Written outputs places room' at' (i + 1)
written_more outputs places room room' at at' i d within w end bytes =
    let p : PortPlace = get_or places i d in
    record {
      few = omega (arith, width_few p.kind, w.few);
      bytes = bytes ∙ ap (λ (l : List ℕ). l ++ place_bytes outputs p) w.bytes ∙ flat_map_more (place_bytes outputs) [] (take i places) p ∙ ap (flat_map (place_bytes outputs)) (sym (take_more places i d within));
    }

pub data_spelled : (a b : ℕ) (x : List ℕ) → a < 65536 → b < 65536 → ((i : ℕ) → get_or x i 0 < 256) → length x ≤ 64 → HasSpelling (data_message a b x)
unfolding digits
data_spelled a b x ha hb hx few = (_, record { kinds = kinds.U16 ∷ kinds.U16 ∷ kinds.Rest ∷ []; listed = refl; fits = (ha, (hb, (hx, tt))); bytes = refl; at_most = omega (arith, length-append x []) })

pub spelled_is : (m : Message) (b : List ℕ) → Spells m b → b ≡ spelling m
unfolding spelling
spelled_is m b s = rw s.listed s.bytes

pub some_bytes : (m : Message) (n : ℕ) (room : List ℕ) → Spells m (take n room) → 1 ≤ n
some_bytes m n room s = omega (arith, ap length s.bytes, length-take n room)

record IsValue (ports : List Port) (values : List ℤ) (vr : ℕ) : Type 0 where
  is : get_or values (port_index vr ports) (pos 0) ≡ output_value vr ports values
  fit : fits (port_type (port_with vr ports)) (output_value vr ports values) ≡ true

left : (a b : Bool) → (a && b) ≡ true → a ≡ true
left true b h = refl
left false b h = h

right : (a b : Bool) → (a && b) ≡ true → b ≡ true
right true b h = h
right false b h = absurd cc

value_is : (ports : List Port) (values : List ℤ) (vr : ℕ) → values_fit_ports ports values ≡ true → IsValue ports values vr
value_is [] [] vr h = record { is = refl; fit = refl }
value_is [] (v ∷ vs) vr h = absurd cc
value_is (p ∷ ps) [] vr h = absurd cc
value_is (p ∷ ps) (v ∷ vs) vr h =
    by_test (p.vr == vr)
    (λ e. record { is = rw e refl; fit = rw e (left (fits p.kind v) (values_fit_ports ps vs) h) })
    (λ e. let r = value_is ps vs vr (right (fits p.kind v) (values_fit_ports ps vs) h) in record { is = rw e r.is; fit = rw e r.fit })

bytes_same : (ports : List Port) (values : List ℤ) (vr : ℕ) → values_fit_ports ports values ≡ true → place_bytes values (place_with ports vr) ≡ bytes_for ports values vr
bytes_same ports values vr h =
    let v = value_is ports values vr h in
    rw (v.is, v.fit) refl

-- the payload at the places of these value references
pub payload_same : (ports : List Port) (values : List ℤ) (vrs : List ℕ) → values_fit_ports ports values ≡ true → flat_map (place_bytes values) (map (place_with ports) vrs) ≡ flat_map (bytes_for ports values) vrs
payload_same ports values [] h = refl
payload_same ports values (vr ∷ vrs) h =
    let e = bytes_same ports values vr h in
    let r = payload_same ports values vrs h in
    cc

record IsGot (xs : List ℕ) (i x : ℕ) : Type 0 where
  within : i < length xs
  is : get_or xs i 0 ≡ x

got : (xs : List ℕ) (i x : ℕ) → slice_get xs i ≡ Some x → IsGot xs i x
got [] i x e = absurd cc
got (y ∷ ys) zero x e = record { within = omega arith; is = cc }
got (y ∷ ys) (suc i) x e = let r = got ys i x e in record { within = omega (arith, r.within); is = r.is }

-- what is read of an id by its place
pub row_got : (d : SlaveDesc) (changes : List Change) (o : Outputs) (id i : ℕ) (r : OutputRow) → AreOutputs d changes o → slice_get (ids output changes) i ≡ Some id → r ≡ get_or o.rows.items i r → r ≡ output_row d.outputs changes id
row_got d changes o id i r h e read =
    let g = got (ids output changes) i id e in
    read ∙ ap (λ (l : List OutputRow). get_or l i r) h.rows ∙ get_or-map (output_row d.outputs changes) (ids output changes) i 0 r g.within ∙ ap (output_row d.outputs changes) g.is

pub no_message : (d : SlaveDesc) (changes : List Change) (o : Outputs) (id i steps : ℕ) (values : List ℤ) (room : List ℕ) (r : OutputRow) → AreOutputs d changes o → slice_get (ids output changes) i ≡ Some id → r ≡ get_or o.rows.items i r
    → r.target ≡ None → IsMessage d changes steps values id room (target id changes) None
no_message d changes o id i steps values room r h e read none =
    let t : target id changes ≡ None = ap (λ (q : OutputRow). q.target) (sym (row_got d changes o id i r h e read)) ∙ none in
    subst (λ (a : Option Address). IsMessage d changes steps values id room a None) (sym t) refl

pub message : (d : SlaveDesc) (changes : List Change) (o : Outputs) (id i steps : ℕ) (values : List ℤ) (room : List ℕ) (r : OutputRow) (to : Address) (size number at : ℕ) (bytes : List ℕ)
    → AreOutputs d changes o → slice_get (ids output changes) i ≡ Some id → r ≡ get_or o.rows.items i r → values_fit_ports d.outputs values ≡ true
    → r.target ≡ Some to → number ≡ (r.base + steps / r.interval) % 65536 → at ≡ get_or o.ids i 0 → bytes ≡ flat_map (place_bytes values) r.places
    → take size room ≡ spelling (data_message number at bytes)
    → IsMessage d changes steps values id room (target id changes) (Some (to, size))
message d changes o id i steps values room r to size number at bytes h e read fit goes n a b s =
    let row : r ≡ output_row d.outputs changes id = row_got d changes o id i r h e read in
    let t : target id changes ≡ Some to = ap (λ (q : OutputRow). q.target) (sym row) ∙ goes in
    let first = base output id changes in
    let run = steps / entry_interval output id changes in
    let n' : number ≡ ordinal output id changes steps % 65536 = n ∙ ap (λ (q : OutputRow). (q.base + steps / q.interval) % 65536) row ∙ mod-add-mod first 65536 run in
    let a' : at ≡ id = a ∙ ap (λ (l : List ℕ). get_or l i 0) h.sorted ∙ (got (ids output changes) i id e).is in
    let b' : bytes ≡ payload d id changes values = b ∙ ap (λ (q : OutputRow). flat_map (place_bytes values) q.places) row ∙ payload_same d.outputs values (reverse (entries output id changes)) fit in
    let s' : take size room ≡ spelling (data_message (ordinal output id changes steps % 65536) id (payload d id changes values)) =
    s ∙ ap (λ (m : ℕ). spelling (data_message m at bytes)) n' ∙ ap (λ (m : ℕ). spelling (data_message (ordinal output id changes steps % 65536) m bytes)) a'
    ∙ ap (λ (l : List ℕ). spelling (data_message (ordinal output id changes steps % 65536) id l)) b' in
    subst (λ (x : Option Address). IsMessage d changes steps values id room x (Some (to, size))) (sym t) (size, refl, s')
