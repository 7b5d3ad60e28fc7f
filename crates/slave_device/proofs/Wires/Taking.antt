-- A payload that is kept, and a restart.
use Rattle.std.proofs.Common.{◌≡◌, ◌≢◌, ℕ, ◌+◌, ◌/◌, ◌%◌, ◌<◌, ◌≤◌, ◌++◌, Bool, true, false, List, [], ◌∷◌, length, get_or, set, take, drop, map, refl, ap, sym, ◌∙◌, subst, arith, Option, Some, None}
use Rattle.std.specs.Prelude.{ℤ, pos, ◌==◌, ◌&&◌, not, sum_by, replicate}
use Rattle.std.proofs.Math.Nat.{mod-add-mod}
use Rattle.std.proofs.lemmas.Bool.Decides.{nat_tests}
use Rattle.std.proofs.lemmas.List.{get_or-map, get_or-take, same_lists, length-take, length-map, get_or_default, take_all, drop_all, append-nil}
use Rattle.std.proofs.lemmas.List.Edits.{map_over_more}
use Rattle.dcp_types.specs.declared.addresses.Address.{Address}
use Rattle.dcp_types.specs.Values.{width}
use Rattle.slave_desc.specs.declared.ports.Port.{Port}
use Rattle.slave_desc.specs.declared.descriptions.SlaveDesc.{SlaveDesc}
use Rattle.slave_spec.specs.Changes.{Change, Restart, input, has_id, ids, entry_interval, base}
use Rattle.slave_spec.specs.Refusals.{port_with}
use Rattle.slave_spec.specs.Payloads as payloads
use Rattle.slave_spec.specs.Payloads.{WiringState, Kept, Spot, brought, is_wanted, port_type, input_types, spot, spot_value, input_value, wired_values, kept_under, is_address, is_here, is_kept_of, restarted}
use Rattle.slave_device.specs.Wires.Ids.{IsThere, IsPlaceFor}
use Rattle.slave_device.specs.Wires.Receiving.{kept_ordinal, input_row, segment_for, input_after, IsCoherent, AreInputs, is_kept_for, wants, input_restarted}
use Rattle.slave_device.specs.declared.tables.InputRow.{InputRow}
use Rattle.slave_device.specs.declared.tables.Segment.{Segment}
use Rattle.slave_device.specs.declared.tables.Inputs.{Inputs}
use Rattle.slave_device.proofs.Wires.Ascending.{by_test, map_set}
use Rattle.slave_device.proofs.Wires.Known.{ids_ascend, map_known, known, unknown}
use Rattle.slave_device.proofs.Wires.Placing.{value_read}
use Rattle.slave_device.proofs.Wires.Receiving.{there_at, place_at, row_is, filled}

-- ---- whether a payload is wanted

pub kept_same : (n : ℕ) (o : Option Kept) → is_kept_for n (kept_ordinal o) ≡ is_kept_of n o
kept_same n None = refl
kept_same n (Some k) = refl

pub wanted_is : (d : SlaveDesc) (w : WiringState) (s : Inputs) (id i : ℕ) (r : InputRow) (from : Address) (number : ℕ) (payload : List ℕ) (steps : ℕ) → AreInputs d w s → IsThere s.ids id i → r ≡ get_or s.rows.items i r
    → wants r from number (length payload) steps ≡ is_wanted d w from number id payload steps
wanted_is d w s id i r from number payload steps h t read =
    let k : has_id input id w.changes ≡ true = known input id i w.changes (there_at d w s id i h t) in
    let own : r ≡ input_row d w id = row_is d w s id i r h t read in
    let first = base input id w.changes in
    let run = steps / entry_interval input id w.changes in
    let n : (first % 65536 + run) % 65536 ≡ (first + run) % 65536 = mod-add-mod first 65536 run in
    let here : is_kept_for run (kept_ordinal (kept_under id w.kept)) ≡ is_kept_of run (kept_under id w.kept) = kept_same run (kept_under id w.kept) in
    ap (λ (q : InputRow). wants q from number (length payload) steps) own ∙ rw (n, here, k) refl

pub not_wanted : (d : SlaveDesc) (w : WiringState) (s : Inputs) (id i : ℕ) (from : Address) (number : ℕ) (payload : List ℕ) (steps : ℕ) → AreInputs d w s → IsPlaceFor s.ids id i → is_wanted d w from number id payload steps ≡ false
not_wanted d w s id i from number payload steps h p =
    let k : has_id input id w.changes ≡ false = unknown input id i w.changes (place_at d w s id i h p) in
    rw k refl

pub not_brought : (d : SlaveDesc) (w : WiringState) (from : Address) (number id : ℕ) (payload : List ℕ) (steps : ℕ) → is_wanted d w from number id payload steps ≡ false → brought d w from number id payload steps ≡ w
not_brought d w from number id payload steps e = rw e refl

-- ---- what it makes of the rows and the values

abbrev with_payload : WiringState → (id n : ℕ) → List ℕ → WiringState
with_payload w id n payload = record w { kept = record { id = id; ordinal = n; payload = payload } ∷ w.kept }

under_own : (w : WiringState) (id n : ℕ) (payload : List ℕ) (y : ℕ) → (id == y) ≡ true → kept_under y (with_payload w id n payload).kept ≡ Some (record { id = id; ordinal = n; payload = payload })
under_own w id n payload y e = rw e refl

under_other : (w : WiringState) (id n : ℕ) (payload : List ℕ) (y : ℕ) → (id == y) ≡ false → kept_under y (with_payload w id n payload).kept ≡ kept_under y w.kept
under_other w id n payload y e = rw e refl

other_kept : (d : SlaveDesc) (w : WiringState) (id n : ℕ) (payload : List ℕ) (y : ℕ) → id ≢ y → input_row d (with_payload w id n payload) y ≡ input_row d w y
other_kept d w id n payload y ne =
    let e : (id == y) ≡ false = grind (arith, nat_tests, ne) in
    ap (λ (o : Option Kept). record (input_row d w y) { kept = kept_ordinal o }) (under_other w id n payload y e)

own_kept : (d : SlaveDesc) (w : WiringState) (id n : ℕ) (payload : List ℕ) → input_row d (with_payload w id n payload) id ≡ record (input_row d w id) { kept = Some n }
own_kept d w id n payload =
    let e : (id == id) ≡ true = grind (arith, nat_tests) in
    ap (λ (o : Option Kept). record (input_row d w id) { kept = kept_ordinal o }) (under_own w id n payload id e)

value_kept_now : (d : SlaveDesc) (w : WiringState) (id n : ℕ) (payload : List ℕ) (y : ℕ) → IsCoherent d w → length payload ≡ sum_by width (input_types d id w.changes)
    → input_after (segment_for d w.changes (spot y w.changes)) id payload (spot_value d w (spot y w.changes)) ≡ spot_value d (with_payload w id n payload) (spot y w.changes)
value_kept_now d w id n payload y h size = at (spot y w.changes) refl
  where
    at : (o : Option Spot) → spot y w.changes ≡ o → input_after (segment_for d w.changes o) id payload (spot_value d w o) ≡ spot_value d (with_payload w id n payload) o
    at None e = refl
    at (Some x) e =
        by_test (x.id == id)
        (λ t. let same : x.id ≡ id = grind (arith, nat_tests, t) in
        let back : (id == x.id) ≡ true = grind (arith, nat_tests, same) in
        let types = input_types d x.id w.changes in
        let long : length payload ≡ sum_by width types = size ∙ ap (λ (m : ℕ). sum_by width (input_types d m w.changes)) (sym same) in
        rw t (value_read types (port_type (port_with y d.inputs)) x payload (h.placed y x e) long)
        ∙ ap (λ (o : Option Kept). payloads.value_kept types x.position o) (sym (under_own w id n payload x.id back)))
        (λ t. let back : (id == x.id) ≡ false = grind (arith, nat_tests, t) in
        rw t (ap (λ (o : Option Kept). payloads.value_kept (input_types d x.id w.changes) x.position o) (sym (under_other w id n payload x.id back))))

sound_kept : (d : SlaveDesc) (w : WiringState) (id n : ℕ) (payload : List ℕ) → IsCoherent d w → has_id input id w.changes ≡ true → length payload ≡ sum_by width (input_types d id w.changes) → IsCoherent d (with_payload w id n payload)
sound_kept d w id n payload h k size = record {
  told = h.told;
  none = λ y e. by_test (id == y)
      (λ t. let same : id ≡ y = grind (arith, nat_tests, t) in let no : true ≡ false = sym k ∙ ap (λ (m : ℕ). has_id input m w.changes) same ∙ e in absurd cc)
      (λ t. under_other w id n payload y t ∙ h.none y e);
  placed = h.placed;
  short = λ y q o. by_test (id == y)
      (λ t. let same : id ≡ y = grind (arith, nat_tests, t) in
      let f : Some (record { id = id; ordinal = n; payload = payload }) ≡ Some q = sym (under_own w id n payload y t) ∙ o in
      let g : length payload ≡ length q.payload = payload_is (record { id = id; ordinal = n; payload = payload }) q f in
      let z : sum_by width (input_types d id w.changes) ≡ sum_by width (input_types d y w.changes) = ap (λ (m : ℕ). sum_by width (input_types d m w.changes)) same in
      omega (arith, g, z, size))
      (λ t. h.short y q (sym (under_other w id n payload y t) ∙ o));
}
  where
    payload_is : (p q : Kept) → Some p ≡ Some q → length p.payload ≡ length q.payload
    payload_is p q e = let same : p ≡ q = cc in ap (λ (x : Kept). length x.payload) same

pub taken : (d : SlaveDesc) (w : WiringState) (s n : Inputs) (id i : ℕ) (r : InputRow) (from : Address) (number : ℕ) (payload : List ℕ) (steps : ℕ)
    → AreInputs d w s → IsThere s.ids id i → r ≡ get_or s.rows.items i r → wants r from number (length payload) steps ≡ true
    → n.ports.items ≡ s.ports.items → n.ids ≡ s.ids → n.rows.items ≡ set s.rows.items i (record r { kept = Some (steps / r.interval) }) → n.segments ≡ s.segments
    → length n.values ≡ length s.values
    → ((k : ℕ) (e : Option Segment) (z : ℤ) → k < length s.ports.items → get_or n.values k z ≡ input_after (get_or s.segments k e) id payload (get_or s.values k z))
    → AreInputs d (brought d w from number id payload steps) n
taken d w s n id i r from number payload steps h t read want ports same rows segments long values =
    let all : List ℕ = ids input w.changes in
    let at : IsThere all id i = there_at d w s id i h t in
    let k : has_id input id w.changes ≡ true = known input id i w.changes at in
    let own : r ≡ input_row d w id = row_is d w s id i r h t read in
    let run = steps / entry_interval input id w.changes in
    let w' : WiringState = with_payload w id run payload in
    let f : ℕ → InputRow = input_row d w in
    let g : ℕ → InputRow = input_row d w' in
    let size : length payload ≡ sum_by width (input_types d id w.changes) = right_size (is_address r.source from) (length payload) r.size (number == (r.base + steps / r.interval) % 65536) (not (is_kept_for (steps / r.interval) r.kept)) want ∙ ap (λ (q : InputRow). q.size) own in
    let wanted : is_wanted d w from number id payload steps ≡ true = sym (wanted_is d w s id i r from number payload steps h t read) ∙ want in
    let mine : record r { kept = Some (steps / r.interval) } ≡ g id =
    ap (λ (q : InputRow). record q { kept = Some (steps / q.interval) }) own ∙ sym (own_kept d w id run payload) in
    let segment : Port → Option Segment = λ port. segment_for d w.changes (spot port.vr w.changes) in
    let m = length d.inputs in
    let l0 : length (take m s.values) ≡ m = ap (λ (l : List ℤ). length l) h.values ∙ length-map d.inputs (input_value d w) in
    let enough : m ≤ length s.values = omega (arith, l0, length-take m s.values) in
    let l1 : length (take m n.values) ≡ length (map (input_value d w') d.inputs) = let a = length-take m n.values in let b = length-map d.inputs (input_value d w') in omega arith in
    let at_each : (j : ℕ) (z : ℤ) → j < length (take m n.values) → get_or (take m n.values) j z ≡ get_or (map (input_value d w') d.inputs) j z =
    λ j z lt.
    let within : j < m = let a = length-take m n.values in omega arith in
    let within' : j < length s.ports.items = let a = ap (λ (l : List Port). length l) h.listed in omega arith in
    let p : Port = get_or d.inputs j nothing in
    let seg : get_or s.segments j None ≡ segment p =
    sym (get_or-take m s.segments j None within) ∙ ap (λ (l : List (Option Segment)). get_or l j None) h.segments ∙ get_or-map segment d.inputs j nothing None within in
    let val : get_or s.values j z ≡ input_value d w p =
    sym (get_or-take m s.values j z within) ∙ ap (λ (l : List ℤ). get_or l j z) h.values ∙ get_or-map (input_value d w) d.inputs j nothing z within in
    get_or-take m n.values j z within ∙ values j None z within'
    ∙ ap (λ (o : Option Segment). input_after o id payload (get_or s.values j z)) seg
    ∙ ap (λ (v : ℤ). input_after (segment p) id payload v) val
    ∙ value_kept_now d w id run payload p.vr h.sound size
    ∙ sym (get_or-map (input_value d w') d.inputs j nothing z within) in
    let are : AreInputs d w' n = record {
      listed = ports ∙ h.listed;
      apart = h.apart;
      sorted = same ∙ h.sorted;
      rows = rows ∙ ap (λ (l : List InputRow). set l i (record r { kept = Some (steps / r.interval) })) h.rows
          ∙ ap (set (map f all) i) mine
          ∙ sym (map_set f g id i all (ids_ascend input w.changes) at (λ y ne. other_kept d w id run payload y ne));
      segments = ap (take m) segments ∙ h.segments;
      values = same_lists (take m n.values) (map (input_value d w') d.inputs) l1 at_each;
      sound = sound_kept d w id run payload h.sound k size;
    } in
    subst (λ (x : WiringState). AreInputs d x n) (sym (now wanted)) are
  where
    nothing : Port
    nothing = record { vr = 0; kind = port_type None }

    now : is_wanted d w from number id payload steps ≡ true → brought d w from number id payload steps ≡ with_payload w id (steps / entry_interval input id w.changes) payload
    now e = rw e refl

    right_size : (a : Bool) (x y : ℕ) (c e : Bool) → (a && (x == y) && c && e) ≡ true → x ≡ y
    right_size a x y c e h = by_test (x == y) (λ t. grind (arith, nat_tests, t)) (λ t. absurd (none a c e (rw t at h)))
      where
        none : (a c e : Bool) → (a && false && c && e) ≡ true → ⊥
        none true c e h = cc
        none false c e h = cc

-- ---- a restart

map-map : {A B C : Type 0} (f : B → C) (g : A → B) (xs : List A) → map f (map g xs) ≡ map (λ x. f (g x)) xs
map-map f g [] = refl
map-map f g (x ∷ xs) = ap (λ l. f (g x) ∷ l) (map-map f g xs)

after_restart : (d : SlaveDesc) (w : WiringState) (steps y : ℕ) → has_id input y w.changes ≡ true → input_row d (restarted w steps) y ≡ input_restarted steps (input_row d w y)
after_restart d w steps y k =
    let b = base input y w.changes in
    let s = steps / entry_interval input y w.changes + 1 in
    rw k (ap (λ (m : ℕ). record (input_row d w y) { base = m; kept = None }) (sym (mod-add-mod b 65536 s)))

nothing_kept : (d : SlaveDesc) (changes : List Change) (o : Option Spot) → spot_value d (record { changes = changes; kept = [] }) o ≡ pos 0
nothing_kept d changes None = refl
nothing_kept d changes (Some e) = refl

each_is : (f : Port → ℤ) (z : ℤ) (ports : List Port) → ((q : Port) → f q ≡ z) → map (λ port. z) ports ≡ map f ports
each_is f z [] same = refl
each_is f z (p ∷ ps) same = let e = same p in let r = each_is f z ps same in cc

pub begins_anew : (d : SlaveDesc) (w : WiringState) (s n : Inputs) (steps : ℕ) → AreInputs d w s → n.ports.items ≡ s.ports.items → n.ids ≡ s.ids → n.rows.items ≡ map (input_restarted steps) s.rows.items → n.segments ≡ s.segments → n.values ≡ replicate 8 (pos 0)
    → length d.inputs ≤ 8 → AreInputs d (restarted w steps) n
begins_anew d w s n steps h ports same rows segments values few =
    let f : ℕ → InputRow = input_row d w in
    let g : ℕ → InputRow = input_row d (restarted w steps) in
    let k : ℕ → InputRow = λ y. input_restarted steps (f y) in
    record {
      listed = ports ∙ h.listed;
      apart = h.apart;
      sorted = same ∙ h.sorted;
      rows = rows ∙ ap (map (input_restarted steps)) h.rows ∙ map-map (input_restarted steps) f (ids input w.changes)
          ∙ sym (map_known input w.changes k g (λ y e. after_restart d w steps y e));
      segments = ap (take (length d.inputs)) segments ∙ h.segments;
      values = ap (take (length d.inputs)) values ∙ filled (pos 0) d.inputs 8 few
          ∙ each_is (input_value d (restarted w steps)) (pos 0) d.inputs (λ q. nothing_kept d (Restart steps ∷ w.changes) (spot q.vr (Restart steps ∷ w.changes)));
      sound = record { told = h.sound.told; none = λ id e. refl; placed = h.sound.placed; short = λ id q e. absurd cc };
    }

pub restarted_more : (steps : ℕ) (xs ys : List InputRow) (i : ℕ) (d : InputRow) (b : ℕ) → i < length xs → i < length ys → ys ≡ map (input_restarted steps) (take i xs) ++ drop i xs → b ≡ ((get_or ys i d).base + (steps / (get_or ys i d).interval + 1)) % 65536
    → set ys i (record (get_or ys i d) { base = b; kept = None }) ≡ map (input_restarted steps) (take (i + 1) xs) ++ drop (i + 1) xs
restarted_more steps xs ys i d b within here e next =
    let x : InputRow = get_or ys i d in
    ap (λ (n : ℕ). set ys i (record x { base = n; kept = None })) next ∙ map_over_more (input_restarted steps) xs ys i x within e (get_or_default ys i d x here)

pub all_restarted : (steps : ℕ) (xs ys : List InputRow) (i : ℕ) → length xs ≤ i → ys ≡ map (input_restarted steps) (take i xs) ++ drop i xs → ys ≡ map (input_restarted steps) xs
all_restarted steps xs ys i h e =
    e ∙ ap (λ (l : List InputRow). map (input_restarted steps) l ++ drop i xs) (take_all i xs h)
    ∙ ap (λ (l : List InputRow). map (input_restarted steps) xs ++ l) (drop_all i xs h) ∙ append-nil (map (input_restarted steps) xs)

-- the same parts
same_parts : (d : SlaveDesc) (w : WiringState) (s n : Inputs) → AreInputs d w s → n.ports ≡ s.ports → n.ids ≡ s.ids → n.rows ≡ s.rows → n.segments ≡ s.segments → n.values ≡ s.values → AreInputs d w n
same_parts d w s n h ports all rows segments values = record {
  listed = rw ports h.listed;
  apart = h.apart;
  sorted = all ∙ h.sorted;
  rows = rw rows h.rows;
  segments = ap (take (length d.inputs)) segments ∙ h.segments;
  values = ap (take (length d.inputs)) values ∙ h.values;
  sound = h.sound;
}

pub not_taken : (d : SlaveDesc) (w : WiringState) (s n : Inputs) (from : Address) (number id : ℕ) (payload : List ℕ) (steps : ℕ) → AreInputs d w s → is_wanted d w from number id payload steps ≡ false
    → n.ports ≡ s.ports → n.ids ≡ s.ids → n.rows ≡ s.rows → n.segments ≡ s.segments → n.values ≡ s.values → AreInputs d (brought d w from number id payload steps) n
not_taken d w s n from number id payload steps h e ports all rows segments values =
    subst (λ (x : WiringState). AreInputs d x n) (sym (not_brought d w from number id payload steps e)) (same_parts d w s n h ports all rows segments values)
