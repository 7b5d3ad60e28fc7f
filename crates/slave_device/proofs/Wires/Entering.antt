-- An entry for an input.
use Rattle.std.proofs.Common.{◌≡◌, ◌≢◌, ℕ, suc, ◌+◌, ◌%◌, ◌<◌, ◌++◌, Bool, true, false, List, [], ◌∷◌, length, get_or, set, take, map, refl, ap, sym, ◌∙◌, subst, arith, Option, Some, None, add-one}
use Rattle.std.specs.Prelude.{ℤ, pos, ◌==◌, ◌&&◌, not, reverse, sum_by, is_some}
use Rattle.std.specs.List.{insert}
use Rattle.std.proofs.Math.Seq.{take-set-lt}
use Rattle.std.proofs.lemmas.Bool.Decides.{nat_tests}
use Rattle.std.proofs.lemmas.List.{get_or-map, get_or-take}
use Rattle.dcp_types.specs.declared.addresses.Address.{Address}
use Rattle.dcp_types.specs.declared.data_types.DataType.{DataType}
use Rattle.dcp_types.specs.declared.error_codes.ErrorCode.TheVariants.{UnknownVr, TypeMismatch, Position}
use Rattle.dcp_types.specs.Codes.{type_code}
use Rattle.dcp_types.specs.Values.{width}
use Rattle.pdu_layout.specs.declared.messages.Cfg.TheVariants as cfg
use Rattle.slave_desc.specs.declared.ports.Port.{Port}
use Rattle.slave_desc.specs.declared.descriptions.SlaveDesc.{SlaveDesc}
use Rattle.slave_desc.specs.Descriptions.{AreApart}
use Rattle.slave_spec.specs.Changes.{Change, Set, input, entries, has_id, ids, source, put_ascending, vr_for}
use Rattle.slave_spec.specs.Refusals.{refusal_of_setting, port_with, is_wired, refused_unless}
use Rattle.slave_spec.specs.Payloads as payloads
use Rattle.slave_spec.specs.Payloads.{WiringState, Kept, Spot, port_type, input_types, spot, spot_value, input_value, wired_values, kept_under}
use Rattle.slave_device.specs.Wires.Ids.{IsThere, IsPlaceFor}
use Rattle.slave_device.specs.Wires.Ports.{IsPort, port_index}
use Rattle.slave_device.specs.Wires.Receiving.{kept_ordinal, input_row, segment_of, segment_for, IsPlaced, IsCoherent, AreInputs}
use Rattle.slave_device.specs.declared.places.PortPlace.{PortPlace}
use Rattle.slave_device.specs.declared.tables.InputRow.{InputRow}
use Rattle.slave_device.specs.declared.tables.Segment.{Segment}
use Rattle.slave_device.specs.declared.tables.Inputs.{Inputs}
use Rattle.slave_device.proofs.Wires.Ascending.{by_test, put_there, put_new, map_set, map_insert}
use Rattle.slave_device.proofs.Wires.Known.{ids_ascend, unknown, has_none, has_fewer, interval_new, base_new}
use Rattle.slave_device.proofs.Wires.Placing.{types_own, types_other, types_count, widths_more, placed_more, placed_last, segment_is, kept_more, kept_short, wired_is}
use Rattle.slave_device.proofs.Wires.Receiving.{there_at, place_at, row_is}

-- ---- refusals

kind_is : (vr : ℕ) (ports : List Port) (place : PortPlace) (p : IsPort vr ports place) → place.kind ≡ p.port.kind
kind_is vr ports place p = ap (λ (q : PortPlace). q.kind) p.same ∙ ap port_type p.found

pub no_input : (d : SlaveDesc) (changes : List Change) (id position vr : ℕ) (source : DataType) → port_with vr d.inputs ≡ None → refusal_of_setting d changes (cfg.Input id position vr source) ≡ Some UnknownVr
unfolding refusal_of_setting
no_input d changes id position vr source e = rw e refl

pub bad_type : (d : SlaveDesc) (changes : List Change) (id position vr : ℕ) (source : DataType) (place : PortPlace) → IsPort vr d.inputs place → type_code source ≢ type_code place.kind → refusal_of_setting d changes (cfg.Input id position vr source) ≡ Some TypeMismatch
unfolding refusal_of_setting
bad_type d changes id position vr source place p ne =
    let k : type_code place.kind ≡ type_code p.port.kind = ap type_code (kind_is vr d.inputs place p) in
    let e : (type_code source == type_code p.port.kind) ≡ false = grind (arith, nat_tests, ne, k) in
    rw (p.found, e) refl

pub judged : (d : SlaveDesc) (changes : List Change) (id position vr : ℕ) (source : DataType) (place : PortPlace) (b : Bool) → IsPort vr d.inputs place → type_code source ≡ type_code place.kind
    → ((position == length (entries input id changes)) && not (is_wired vr changes)) ≡ b → refusal_of_setting d changes (cfg.Input id position vr source) ≡ refused_unless b Position
unfolding refusal_of_setting
judged d changes id position vr source place b p same e =
    let k : type_code place.kind ≡ type_code p.port.kind = ap type_code (kind_is vr d.inputs place p) in
    let t : (type_code source == type_code p.port.kind) ≡ true = grind (arith, nat_tests, same, k) in
    rw (p.found, t, e) refl

-- ---- the port of an entry among all ports

record IsHere (vr : ℕ) (ports : List Port) (port : Port) : Type 0 where
  at : (d : Port) → get_or ports (port_index vr ports) d ≡ port
  vr' : port.vr ≡ vr

here : (vr : ℕ) (ports : List Port) (port : Port) → port_with vr ports ≡ Some port → IsHere vr ports port
here vr [] port e = absurd cc
here vr (p ∷ ps) port e =
    by_test (p.vr == vr)
    (λ t. let same : p.vr ≡ vr = grind (arith, nat_tests, t) in
    let f : Some p ≡ Some port = rw t at e in
    let q : p ≡ port = cc in
    record { at = λ d. rw t q; vr' = ap (λ (x : Port). x.vr) (sym q) ∙ same })
    (λ t. let f : port_with vr ps ≡ Some port = rw t at e in
    let r = here vr ps port f in
    record { at = λ d. rw t (r.at d); vr' = r.vr' })

apart_rest : (p : Port) (ps : List Port) → AreApart (p ∷ ps) → AreApart ps
apart_rest p ps a = λ i j d h k. a (suc i) (suc j) d (omega (arith, h)) (omega (arith, k))

map_apart : {R : Type 0} (f g : Port → R) (vr : ℕ) (ports : List Port) → ((k : ℕ) (d : Port) → k < length ports → vr ≢ (get_or ports k d).vr) → ((q : Port) → vr ≢ q.vr → g q ≡ f q) → map g ports ≡ map f ports
map_apart f g vr [] a same = refl
map_apart f g vr (p ∷ ps) a same =
    let e = same p (a 0 p (omega arith)) in
    let r = map_apart f g vr ps (λ k d h. a (suc k) d (omega (arith, h))) same in
    cc

-- g is f but at the port with a value reference
map_port : {R : Type 0} (f g : Port → R) (vr : ℕ) (ports : List Port) (port : Port) → AreApart ports → port_with vr ports ≡ Some port → ((q : Port) → vr ≢ q.vr → g q ≡ f q) → map g ports ≡ set (map f ports) (port_index vr ports) (g port)
map_port f g vr [] port a e same = absurd cc
map_port f g vr (p ∷ ps) port a e same =
    by_test (p.vr == vr)
    (λ t. let here' : vr ≡ p.vr = grind (arith, nat_tests, t) in
    let found : Some p ≡ Some port = rw t at e in
    let q : p ≡ port = cc in
    let r = map_apart f g vr ps (λ k d h x. a 0 (suc k) d (omega arith) (omega (arith, h)) (sym here' ∙ x)) same in
    rw t (ap (λ l. g p ∷ l) r ∙ ap (λ (x : Port). g x ∷ map f ps) q))
    (λ t. let ne : vr ≢ p.vr = grind (arith, nat_tests, t) in
    let found : port_with vr ps ≡ Some port = rw t at e in
    let h = same p ne in
    let r = map_port f g vr ps port (apart_rest p ps a) found same in
    rw t (ap (λ l. g p ∷ l) r ∙ ap (λ x. x ∷ set (map f ps) (port_index vr ps) (g port)) h))

-- ---- where the input of an entry stood before

pub segment_there : (d : SlaveDesc) (w : WiringState) (s : Inputs) (vr : ℕ) (place : PortPlace) → AreInputs d w s → IsPort vr d.inputs place → get_or s.segments place.index None ≡ segment_for d w.changes (spot vr w.changes)
segment_there d w s vr place h p =
    let f : Port → Option Segment = λ port. segment_for d w.changes (spot port.vr w.changes) in
    let r = here vr d.inputs p.port p.found in
    let at : get_or d.inputs place.index p.port ≡ p.port = ap (λ (q : PortPlace). get_or d.inputs q.index p.port) p.same ∙ r.at p.port in
    sym (get_or-take (length d.inputs) s.segments place.index None p.within)
    ∙ ap (λ l. get_or l place.index None) h.segments
    ∙ get_or-map f d.inputs place.index p.port None p.within
    ∙ ap f at ∙ ap (λ n. segment_for d w.changes (spot n w.changes)) r.vr'

stands_nowhere : (d : SlaveDesc) (changes : List Change) (o : Option Spot) → segment_for d changes o ≡ None → o ≡ None
stands_nowhere d changes None e = refl
stands_nowhere d changes (Some e) h = absurd cc

stands_somewhere : (d : SlaveDesc) (changes : List Change) (o : Option Spot) → is_some (segment_for d changes o) ≡ is_some o
stands_somewhere d changes None = refl
stands_somewhere d changes (Some e) = refl

pub free_is : (d : SlaveDesc) (w : WiringState) (s : Inputs) (vr : ℕ) (place : PortPlace) → AreInputs d w s → IsPort vr d.inputs place → get_or s.segments place.index None ≡ None → spot vr w.changes ≡ None
free_is d w s vr place h p e = stands_nowhere d w.changes (spot vr w.changes) (sym (segment_there d w s vr place h p) ∙ e)

pub wired_at : (d : SlaveDesc) (w : WiringState) (s : Inputs) (vr : ℕ) (place : PortPlace) → AreInputs d w s → IsPort vr d.inputs place → is_some (get_or s.segments place.index None) ≡ is_wired vr w.changes
wired_at d w s vr place h p = ap (λ (o : Option Segment). is_some o) (segment_there d w s vr place h p) ∙ stands_somewhere d w.changes (spot vr w.changes) ∙ sym (wired_is vr w.changes)

-- ---- after the entry

abbrev after : WiringState → (id position vr : ℕ) → DataType → WiringState
after w id position vr source = payloads.set w (cfg.Input id position vr source)

spot_own : (changes : List Change) (id position vr y : ℕ) (source : DataType) → (vr == y) ≡ true → spot y (Set (cfg.Input id position vr source) ∷ changes) ≡ Some (record { id = id; position = position })
spot_own changes id position vr y source e = rw e refl

spot_other : (changes : List Change) (id position vr y : ℕ) (source : DataType) → (vr == y) ≡ false → spot y (Set (cfg.Input id position vr source) ∷ changes) ≡ spot y changes
spot_other changes id position vr y source e = rw e refl

-- a place in the payloads of any id stays
placed_still : (d : SlaveDesc) (changes : List Change) (id position vr : ℕ) (source kind : DataType) (e : Spot) → IsPlaced (input_types d e.id changes) kind e → IsPlaced (input_types d e.id (Set (cfg.Input id position vr source) ∷ changes)) kind e
placed_still d changes id position vr source kind e p =
    by_test (id == e.id)
    (λ t. subst (λ (l : List DataType). IsPlaced l kind e) (sym (types_own d changes id position vr source e.id t)) (placed_more (input_types d e.id changes) kind (port_type (port_with vr d.inputs)) e p))
    (λ t. subst (λ (l : List DataType). IsPlaced l kind e) (sym (types_other d changes id position vr source e.id t)) p)

segment_still : (d : SlaveDesc) (changes : List Change) (id position vr : ℕ) (source kind : DataType) (e : Spot) → IsPlaced (input_types d e.id changes) kind e → segment_of (input_types d e.id (Set (cfg.Input id position vr source) ∷ changes)) e ≡ segment_of (input_types d e.id changes) e
segment_still d changes id position vr source kind e p =
    let types = input_types d e.id changes in
    let more = port_type (port_with vr d.inputs) in
    by_test (id == e.id)
    (λ t. ap (λ (l : List DataType). segment_of l e) (types_own d changes id position vr source e.id t)
    ∙ segment_is (types ++ more ∷ []) kind e (placed_more types kind more e p) ∙ sym (segment_is types kind e p))
    (λ t. ap (λ (l : List DataType). segment_of l e) (types_other d changes id position vr source e.id t))

value_still : (d : SlaveDesc) (w : WiringState) (id position vr : ℕ) (source kind : DataType) (e : Spot) → IsPlaced (input_types d e.id w.changes) kind e → spot_value d (after w id position vr source) (Some e) ≡ spot_value d w (Some e)
value_still d w id position vr source kind e p =
    let types = input_types d e.id w.changes in
    let more = port_type (port_with vr d.inputs) in
    let f : List DataType → ℤ = λ l. payloads.value_kept l e.position (kept_under e.id w.kept) in
    by_test (id == e.id)
    (λ t. ap f (types_own d w.changes id position vr source e.id t) ∙ kept_more types kind more e (kept_under e.id w.kept) p)
    (λ t. ap f (types_other d w.changes id position vr source e.id t))

same_id : (id : ℕ) → (id == id) ≡ true
same_id id = grind (arith, nat_tests)

-- the port of the entry
own_segment : (d : SlaveDesc) (w : WiringState) (id position vr y : ℕ) (source : DataType) → (vr == y) ≡ true → position ≡ length (input_types d id w.changes)
    → segment_for d (Set (cfg.Input id position vr source) ∷ w.changes) (spot y (Set (cfg.Input id position vr source) ∷ w.changes)) ≡ Some (record { id = id; offset = sum_by width (input_types d id w.changes); kind = port_type (port_with vr d.inputs) })
own_segment d w id position vr y source t size =
    let types = input_types d id w.changes in
    let kind = port_type (port_with vr d.inputs) in
    let e : Spot = record { id = id; position = position } in
    let changes : List Change = Set (cfg.Input id position vr source) ∷ w.changes in
    ap (segment_for d changes) (spot_own w.changes id position vr y source t)
    ∙ ap (λ (l : List DataType). Some (segment_of l e)) (types_own d w.changes id position vr source id (same_id id))
    ∙ ap (λ (g : Segment). Some g) (segment_is (types ++ kind ∷ []) kind e (placed_last types kind e size))

own_value : (d : SlaveDesc) (w : WiringState) (id position vr y : ℕ) (source : DataType) → IsCoherent d w → (vr == y) ≡ true → position ≡ length (input_types d id w.changes)
    → spot_value d (after w id position vr source) (spot y (Set (cfg.Input id position vr source) ∷ w.changes)) ≡ pos 0
own_value d w id position vr y source h t size =
    let types = input_types d id w.changes in
    let kind = port_type (port_with vr d.inputs) in
    let e : Spot = record { id = id; position = position } in
    ap (spot_value d (after w id position vr source)) (spot_own w.changes id position vr y source t)
    ∙ ap (λ (l : List DataType). payloads.value_kept l position (kept_under id w.kept)) (types_own d w.changes id position vr source id (same_id id))
    ∙ kept_short types kind e (kept_under id w.kept) size (λ k o. h.short id k o)

-- the other ports
other_segment : (d : SlaveDesc) (w : WiringState) (id position vr y : ℕ) (source : DataType) → IsCoherent d w → vr ≢ y
    → segment_for d (Set (cfg.Input id position vr source) ∷ w.changes) (spot y (Set (cfg.Input id position vr source) ∷ w.changes)) ≡ segment_for d w.changes (spot y w.changes)
other_segment d w id position vr y source h ne =
    let t : (vr == y) ≡ false = grind (arith, nat_tests, ne) in
    ap (segment_for d (Set (cfg.Input id position vr source) ∷ w.changes)) (spot_other w.changes id position vr y source t) ∙ at (spot y w.changes) refl
  where
    at : (o : Option Spot) → spot y w.changes ≡ o → segment_for d (Set (cfg.Input id position vr source) ∷ w.changes) o ≡ segment_for d w.changes o
    at None e = refl
    at (Some x) e = ap (λ (g : Segment). Some g) (segment_still d w.changes id position vr source (port_type (port_with y d.inputs)) x (h.placed y x e))

values_still : (d : SlaveDesc) (w : WiringState) (id position vr y : ℕ) (source : DataType) → IsCoherent d w → position ≡ length (input_types d id w.changes) → spot vr w.changes ≡ None
    → spot_value d (after w id position vr source) (spot y (Set (cfg.Input id position vr source) ∷ w.changes)) ≡ spot_value d w (spot y w.changes)
values_still d w id position vr y source h size free =
    by_test (vr == y)
    (λ t. let same : vr ≡ y = grind (arith, nat_tests, t) in
    own_value d w id position vr y source h t size ∙ sym (ap (spot_value d w) (ap (λ n. spot n w.changes) (sym same) ∙ free)))
    (λ t. ap (spot_value d (after w id position vr source)) (spot_other w.changes id position vr y source t) ∙ at (spot y w.changes) refl)
  where
    at : (o : Option Spot) → spot y w.changes ≡ o → spot_value d (after w id position vr source) o ≡ spot_value d w o
    at None e = refl
    at (Some x) e = value_still d w id position vr source (port_type (port_with y d.inputs)) x (h.placed y x e)

map_each : {R : Type 0} (f g : Port → R) (ports : List Port) → ((q : Port) → g q ≡ f q) → map g ports ≡ map f ports
map_each f g [] same = refl
map_each f g (p ∷ ps) same = let e = same p in let r = map_each f g ps same in cc

sound_still : (d : SlaveDesc) (w : WiringState) (id position vr : ℕ) (source : DataType) → IsCoherent d w → position ≡ length (input_types d id w.changes) → IsCoherent d (after w id position vr source)
sound_still d w id position vr source' h size = record {
  told = λ y e. h.told y (has_fewer (vr_for y (input (Set (cfg.Input id position vr source')))) (entries input y w.changes) e);
  none = λ y e. h.none y (has_fewer (vr_for y (input (Set (cfg.Input id position vr source')))) (entries input y w.changes) e);
  placed = λ y e o. by_test (vr == y)
      (λ t. mine y e t (sym (spot_own w.changes id position vr y source' t) ∙ o))
      (λ t. placed_still d w.changes id position vr source' (port_type (port_with y d.inputs)) e (h.placed y e (sym (spot_other w.changes id position vr y source' t) ∙ o)));
  short = λ y k o. let l = h.short y k o in
      by_test (id == y)
      (λ t. let e = ap (sum_by width) (types_own d w.changes id position vr source' y t) ∙ widths_more (input_types d y w.changes) (port_type (port_with vr d.inputs)) in omega (arith, e))
      (λ t. let e = ap (sum_by width) (types_other d w.changes id position vr source' y t) in omega (arith, e));
}
  where
    mine : (y : ℕ) (e : Spot) → (vr == y) ≡ true → Some (record { id = id; position = position }) ≡ Some e → IsPlaced (input_types d e.id (Set (cfg.Input id position vr source') ∷ w.changes)) (port_type (port_with y d.inputs)) e
    mine y e t o =
        let x : Spot = record { id = id; position = position } in
        let same : x ≡ e = cc in
        let vrs : vr ≡ y = grind (arith, nat_tests, t) in
        let p : IsPlaced (input_types d id w.changes ++ port_type (port_with vr d.inputs) ∷ []) (port_type (port_with vr d.inputs)) x = placed_last (input_types d id w.changes) (port_type (port_with vr d.inputs)) x size in
        let q : IsPlaced (input_types d id (Set (cfg.Input id position vr source') ∷ w.changes)) (port_type (port_with vr d.inputs)) x =
        subst (λ (l : List DataType). IsPlaced l (port_type (port_with vr d.inputs)) x) (sym (types_own d w.changes id position vr source' id (same_id id))) p in
        let r : IsPlaced (input_types d id (Set (cfg.Input id position vr source') ∷ w.changes)) (port_type (port_with y d.inputs)) x =
        subst (λ (n : ℕ). IsPlaced (input_types d id (Set (cfg.Input id position vr source') ∷ w.changes)) (port_type (port_with n d.inputs)) x) vrs q in
        subst (λ (z : Spot). IsPlaced (input_types d z.id (Set (cfg.Input id position vr source') ∷ w.changes)) (port_type (port_with y d.inputs)) z) same r

other_row : (d : SlaveDesc) (w : WiringState) (id position vr : ℕ) (source : DataType) (y : ℕ) → id ≢ y → input_row d (after w id position vr source) y ≡ input_row d w y
other_row d w id position vr source y ne =
    let e : (id == y) ≡ false = grind (arith, nat_tests, ne) in
    rw e refl

own_row : (d : SlaveDesc) (w : WiringState) (id position vr : ℕ) (source : DataType) → input_row d (after w id position vr source) id
    ≡ record (input_row d w id) { count = length (entries input id w.changes) + 1; size = sum_by width (input_types d id w.changes) + width (port_type (port_with vr d.inputs)) }
own_row d w id position vr source =
    let t : (id == id) ≡ true = same_id id in
    let r : InputRow = input_row d w id in
    let changes : List Change = Set (cfg.Input id position vr source) ∷ w.changes in
    let c : length (entries input id changes) ≡ length (entries input id w.changes) + 1 = rw t (sym (add-one (length (entries input id w.changes)))) in
    let z : sum_by width (input_types d id changes) ≡ sum_by width (input_types d id w.changes) + width (port_type (port_with vr d.inputs)) =
    ap (sum_by width) (types_own d w.changes id position vr source id t) ∙ widths_more (input_types d id w.changes) (port_type (port_with vr d.inputs)) in
    ap (λ (n : ℕ). record r { count = n; size = sum_by width (input_types d id changes) }) c
    ∙ ap (λ (n : ℕ). record r { count = length (entries input id w.changes) + 1; size = n }) z

-- what the entry makes of the segments and the values
pub entered_segments : (d : SlaveDesc) (w : WiringState) (s : Inputs) (id position vr size : ℕ) (source : DataType) (place : PortPlace) → AreInputs d w s → IsPort vr d.inputs place → position ≡ length (input_types d id w.changes) → size ≡ sum_by width (input_types d id w.changes)
    → take (length d.inputs) (set s.segments place.index (Some (record { id = id; offset = size; kind = place.kind }))) ≡ map (λ port. segment_for d (Set (cfg.Input id position vr source) ∷ w.changes) (spot port.vr (Set (cfg.Input id position vr source) ∷ w.changes))) d.inputs
entered_segments d w s id position vr size source place h p at bytes =
    let changes : List Change = Set (cfg.Input id position vr source) ∷ w.changes in
    let f : Port → Option Segment = λ port. segment_for d w.changes (spot port.vr w.changes) in
    let g : Port → Option Segment = λ port. segment_for d changes (spot port.vr changes) in
    let port = p.port in
    let r = here vr d.inputs port p.found in
    let new : Option Segment = Some (record { id = id; offset = size; kind = place.kind }) in
    let t : (vr == port.vr) ≡ true = grind (arith, nat_tests, r.vr') in
    let k : place.kind ≡ port_type (port_with vr d.inputs) = ap (λ (q : PortPlace). q.kind) p.same in
    let i : place.index ≡ port_index vr d.inputs = ap (λ (q : PortPlace). q.index) p.same in
    let mine : new ≡ g port =
    ap (λ (n : ℕ). Some (record { id = id; offset = n; kind = place.kind })) bytes
    ∙ ap (λ (q : DataType). Some (record { id = id; offset = sum_by width (input_types d id w.changes); kind = q })) k
    ∙ sym (own_segment d w id position vr port.vr source t at) in
    take-set-lt (length d.inputs) s.segments place.index new p.within
    ∙ ap (λ (l : List (Option Segment)). set l place.index new) h.segments
    ∙ ap (λ (n : ℕ). set (map f d.inputs) n new) i
    ∙ ap (set (map f d.inputs) (port_index vr d.inputs)) mine
    ∙ sym (map_port f g vr d.inputs port h.apart p.found (λ q ne. other_segment d w id position vr q.vr source h.sound ne))

pub entered_values : (d : SlaveDesc) (w : WiringState) (s : Inputs) (id position vr : ℕ) (source : DataType) → AreInputs d w s → position ≡ length (input_types d id w.changes) → spot vr w.changes ≡ None
    → take (length d.inputs) s.values ≡ wired_values d (after w id position vr source)
entered_values d w s id position vr source h at free =
    h.values ∙ sym (map_each (input_value d w) (input_value d (after w id position vr source)) d.inputs (λ q. values_still d w id position vr q.vr source h.sound at free))

pub extended : (d : SlaveDesc) (w : WiringState) (s n : Inputs) (id i position vr : ℕ) (source : DataType) (r : InputRow) (place : PortPlace)
    → AreInputs d w s → IsThere s.ids id i → IsPort vr d.inputs place → get_or s.segments place.index None ≡ None → r ≡ get_or s.rows.items i r → position ≡ r.count
    → n.ports.items ≡ s.ports.items → n.ids ≡ s.ids → n.rows.items ≡ set s.rows.items i (record r { count = r.count + 1; size = r.size + width place.kind })
    → n.segments ≡ set s.segments place.index (Some (record { id = id; offset = r.size; kind = place.kind })) → n.values ≡ s.values
    → AreInputs d (payloads.set w (cfg.Input id position vr source)) n
extended d w s n id i position vr source r place h t p free read count ports same rows segments values =
    let f : ℕ → InputRow = input_row d w in
    let g : ℕ → InputRow = input_row d (after w id position vr source) in
    let all : List ℕ = ids input w.changes in
    let at : IsThere all id i = there_at d w s id i h t in
    let kept : put_ascending id all ≡ all = put_there id i all at in
    let own : r ≡ f id = row_is d w s id i r h t read in
    let k : place.kind ≡ port_type (port_with vr d.inputs) = ap (λ (q : PortPlace). q.kind) p.same in
    let new : InputRow = record r { count = r.count + 1; size = r.size + width place.kind } in
    let mine : new ≡ g id =
    ap (λ (q : InputRow). record q { count = q.count + 1; size = q.size + width place.kind }) own
    ∙ ap (λ (q : DataType). record (f id) { count = length (entries input id w.changes) + 1; size = sum_by width (input_types d id w.changes) + width q }) k
    ∙ sym (own_row d w id position vr source) in
    let here' : position ≡ length (input_types d id w.changes) = count ∙ ap (λ (q : InputRow). q.count) own ∙ sym (types_count d id w.changes) in
    record {
      listed = ports ∙ h.listed;
      apart = h.apart;
      sorted = same ∙ h.sorted ∙ sym kept;
      rows = rows ∙ ap (λ (l : List InputRow). set l i new) h.rows
          ∙ ap (set (map f all) i) mine
          ∙ sym (map_set f g id i all (ids_ascend input w.changes) at (λ y ne. other_row d w id position vr source y ne))
          ∙ ap (map g) (sym kept);
      segments = ap (take (length d.inputs)) segments ∙ entered_segments d w s id position vr r.size source place h p here' (ap (λ (q : InputRow). q.size) own);
      values = ap (take (length d.inputs)) values ∙ entered_values d w s id position vr source h here' (free_is d w s vr place h p free);
      sound = sound_still d w id position vr source h.sound here';
    }

same_row : (r q : InputRow) → r.count ≡ q.count → r.size ≡ q.size → r.source ≡ q.source → r.interval ≡ q.interval → r.base ≡ q.base → r.kept ≡ q.kept → r ≡ q
same_row r q c z s v b k =
    let f1 : ℕ → InputRow = λ x. record r { count = x } in
    let f2 : ℕ → InputRow = λ x. record r { count = q.count; size = x } in
    let f3 : Option Address → InputRow = λ x. record r { count = q.count; size = q.size; source = x } in
    let f4 : ℕ → InputRow = λ x. record r { count = q.count; size = q.size; source = q.source; interval = x } in
    let f5 : ℕ → InputRow = λ x. record r { count = q.count; size = q.size; source = q.source; interval = q.interval; base = x } in
    let f6 : Option ℕ → InputRow = λ x. record q { kept = x } in
    ap f1 c ∙ ap f2 z ∙ ap f3 s ∙ ap f4 v ∙ ap f5 b ∙ ap f6 k

pub begun : (d : SlaveDesc) (w : WiringState) (s n : Inputs) (id i position vr : ℕ) (source' : DataType) (place : PortPlace)
    → AreInputs d w s → IsPlaceFor s.ids id i → IsPort vr d.inputs place → get_or s.segments place.index None ≡ None → position ≡ 0
    → n.ports.items ≡ s.ports.items → n.ids ≡ insert s.ids i id
    → n.rows.items ≡ insert s.rows.items i (record { count = 1; size = width place.kind; source = None; interval = 1; base = 0; kept = None })
    → n.segments ≡ set s.segments place.index (Some (record { id = id; offset = 0; kind = place.kind })) → n.values ≡ s.values
    → AreInputs d (payloads.set w (cfg.Input id position vr source')) n
begun d w s n id i position vr source' place h t p free zero' ports ids' rows segments values =
    let f : ℕ → InputRow = input_row d w in
    let g : ℕ → InputRow = input_row d (after w id position vr source') in
    let all : List ℕ = ids input w.changes in
    let at : IsPlaceFor all id i = place_at d w s id i h t in
    let new : has_id input id w.changes ≡ false = unknown input id i w.changes at in
    let put : put_ascending id all ≡ insert all i id = put_new id i all at in
    let e : entries input id w.changes ≡ [] = has_none (entries input id w.changes) new in
    let types : input_types d id w.changes ≡ [] = ap (λ (l : List ℕ). map (λ v. port_type (port_with v d.inputs)) (reverse l)) e in
    let k : place.kind ≡ port_type (port_with vr d.inputs) = ap (λ (q : PortPlace). q.kind) p.same in
    let size : 0 ≡ sum_by width (input_types d id w.changes) = ap (sum_by width) (sym types) in
    let row : InputRow = record { count = 1; size = width place.kind; source = None; interval = 1; base = 0; kept = None } in
    let c : 1 ≡ length (entries input id w.changes) + 1 = ap (λ (l : List ℕ). length l + 1) (sym e) in
    let z : width place.kind ≡ sum_by width (input_types d id w.changes) + width (port_type (port_with vr d.inputs)) = let x = ap width k in omega (arith, x, size) in
    let mine : row ≡ g id =
    same_row row (record (f id) { count = length (entries input id w.changes) + 1; size = sum_by width (input_types d id w.changes) + width (port_type (port_with vr d.inputs)) })
    c z (sym (h.sound.told id new)) (sym (interval_new input id w.changes new)) (ap (λ (m : ℕ). m % 65536) (sym (base_new input id w.changes new))) (ap kept_ordinal (sym (h.sound.none id new)))
    ∙ sym (own_row d w id position vr source') in
    let here' : position ≡ length (input_types d id w.changes) = zero' ∙ ap (λ (l : List DataType). length l) (sym types) in
    record {
      listed = ports ∙ h.listed;
      apart = h.apart;
      sorted = ids' ∙ ap (λ (l : List ℕ). insert l i id) h.sorted ∙ sym put;
      rows = rows ∙ ap (λ (l : List InputRow). insert l i row) h.rows
          ∙ ap (insert (map f all) i) mine
          ∙ sym (map_insert f g id i all (ids_ascend input w.changes) at (λ y ne. other_row d w id position vr source' y ne))
          ∙ ap (map g) (sym put);
      segments = ap (take (length d.inputs)) segments ∙ entered_segments d w s id position vr 0 source' place h p here' size;
      values = ap (take (length d.inputs)) values ∙ entered_values d w s id position vr source' h here' (free_is d w s vr place h p free);
      sound = sound_still d w id position vr source' h.sound here';
    }

-- ---- refusals, by what is kept

pub count_is : (d : SlaveDesc) (w : WiringState) (s : Inputs) (id i : ℕ) (r : InputRow) → AreInputs d w s → IsThere s.ids id i → r ≡ get_or s.rows.items i r → r.count ≡ length (entries input id w.changes)
count_is d w s id i r h t read = ap (λ (q : InputRow). q.count) (row_is d w s id i r h t read)

pub none_yet : (d : SlaveDesc) (w : WiringState) (s : Inputs) (id i : ℕ) → AreInputs d w s → IsPlaceFor s.ids id i → 0 ≡ length (entries input id w.changes)
none_yet d w s id i h t = ap (λ (l : List ℕ). length l) (sym (has_none (entries input id w.changes) (unknown input id i w.changes (place_at d w s id i h t))))

-- an input is wired already
pub wired_refused : (d : SlaveDesc) (w : WiringState) (s : Inputs) (id position vr : ℕ) (source : DataType) (place : PortPlace) → AreInputs d w s → IsPort vr d.inputs place → type_code source ≡ type_code place.kind → is_some (get_or s.segments place.index None) ≡ true → refusal_of_setting d w.changes (cfg.Input id position vr source) ≡ Some Position
wired_refused d w s id position vr source place h p same e =
    let x : is_wired vr w.changes ≡ true = sym (wired_at d w s vr place h p) ∙ e in
    judged d w.changes id position vr source place false p same (rw x (never (position == length (entries input id w.changes))))
  where
    never : (b : Bool) → (b && false) ≡ false
    never true = refl
    never false = refl

pub position_judged : (d : SlaveDesc) (w : WiringState) (s : Inputs) (id position vr count : ℕ) (source : DataType) (place : PortPlace) (b : Bool) → AreInputs d w s → IsPort vr d.inputs place → type_code source ≡ type_code place.kind → get_or s.segments place.index None ≡ None
    → count ≡ length (entries input id w.changes) → (position == count) ≡ b → refusal_of_setting d w.changes (cfg.Input id position vr source) ≡ refused_unless b Position
position_judged d w s id position vr count source place b h p same free n e =
    let x : is_wired vr w.changes ≡ false = sym (wired_at d w s vr place h p) ∙ ap (λ (o : Option Segment). is_some o) free in
    judged d w.changes id position vr source place b p same (rw (x, ← n, e) (always b))
  where
    always : (c : Bool) → (c && true) ≡ c
    always true = refl
    always false = refl

pub differs : (a b : ℕ) → a ≢ b → (a == b) ≡ false
differs a b ne = grind (arith, nat_tests, ne)

pub equals : (a b : ℕ) → a ≡ b → (a == b) ≡ true
equals a b e = grind (arith, nat_tests, e)
