-- The rows of the output ids, change by change.
use Rattle.std.proofs.Common.{◌≡◌, ◌≢◌, ℕ, ◌+◌, ◌<◌, ◌≤◌, ◌%◌, ◌++◌, Bool, true, false, List, [], ◌∷◌, length, get_or, set, map, refl, ap, sym, ◌∙◌, subst, arith, Option, Some, None}
use Rattle.std.specs.Prelude.{Result, Ok, Err, is_ok, ◌==◌, ◌&&◌, not, nat_lt, nat_le, reverse, is_none, is_some, ◌/◌, take, drop}
use Rattle.std.specs.List.{insert}
use Rattle.std.proofs.lemmas.Bool.Decides.{nat_tests}
use Rattle.std.proofs.lemmas.List.Edits.{map_over_more}
use Rattle.std.proofs.Math.Nat.{mod-add-mod}
use Rattle.std.proofs.lemmas.List.{map-append, append-nil, take_all, drop_all, get_or_default, length-map, length-reverse, reverse-append}
use Rattle.dcp_types.specs.declared.addresses.Address.{Address}
use Rattle.dcp_types.specs.declared.error_codes.ErrorCode.TheVariants.{NotSupported, UnknownVr, Position}
use Rattle.pdu_layout.specs.declared.messages.Cfg.TheVariants as cfg
use Rattle.slave_desc.specs.declared.ports.Port.{Port}
use Rattle.slave_desc.specs.declared.descriptions.SlaveDesc.{SlaveDesc}
use Rattle.slave_spec.specs.Changes.{Change, Set, Restart, output, entries, has_id, ids, target, entry_interval, base, put_ascending, vr_for}
use Rattle.pdu_layout.specs.declared.messages.NetInfo.{NetInfo}
use Rattle.slave_spec.specs.Refusals.{is_transport, refusal_of_setting, is_full, port_with, refused_unless}
use Rattle.slave_device.specs.Wires.Ids.{IsThere, IsPlaceFor, IsFound}
use Rattle.slave_device.specs.Wires.Ports.{IsPort, place_with}
use Rattle.slave_device.specs.Wires.Sending.{output_row, AreOutputs, row_restarted}
use Rattle.slave_device.specs.declared.places.PortPlace.{PortPlace}
use Rattle.slave_device.specs.declared.tables.OutputRow.{OutputRow}
use Rattle.slave_device.specs.declared.tables.Outputs.{Outputs}
use Rattle.slave_device.proofs.Wires.Ascending.{by_test, put_there, put_new, map_set, map_insert, map_absent, row_at}
use Rattle.slave_device.proofs.Wires.Known.{ids_ascend, map_known, known, unknown, has_none, has_fewer, interval_new, base_new}

-- refusals of an entry
pub full : (d : SlaveDesc) (changes : List Change) (id position vr : ℕ) → has_id output id changes ≡ false → 17 ≤ length (ids output changes) → refusal_of_setting d changes (cfg.Output id position vr) ≡ Some NotSupported
unfolding refusal_of_setting
full d changes id position vr h n =
    let e : nat_le 17 (length (ids output changes)) ≡ true = grind (arith, nat_tests, n) in
    rw (h, e) refl

pub not_full_known : (changes : List Change) (id : ℕ) → has_id output id changes ≡ true → is_full id changes ≡ false
not_full_known changes id h = rw h refl

pub not_full_room : (changes : List Change) (id : ℕ) → has_id output id changes ≡ false → length (ids output changes) < 17 → is_full id changes ≡ false
not_full_room changes id h n =
    let e : nat_le 17 (length (ids output changes)) ≡ false = grind (arith, nat_tests, n) in
    rw (h, e) refl

pub no_port : (d : SlaveDesc) (changes : List Change) (id position vr : ℕ) → is_full id changes ≡ false → port_with vr d.outputs ≡ None → refusal_of_setting d changes (cfg.Output id position vr) ≡ Some UnknownVr
unfolding refusal_of_setting
no_port d changes id position vr f p = rw (f, p) refl

pub judged : (d : SlaveDesc) (changes : List Change) (id position vr : ℕ) (place : PortPlace) → is_full id changes ≡ false → IsPort vr d.outputs place → (b : Bool) → ((position == length (entries output id changes)) && nat_lt position 8) ≡ b → refusal_of_setting d changes (cfg.Output id position vr) ≡ refused_unless b Position
unfolding refusal_of_setting
judged d changes id position vr place f p b e = rw (f, p.found, e) refl

-- an entry of one id leaves the rows of the others
other_row : (ports : List Port) (changes : List Change) (id position vr y : ℕ) → id ≢ y → output_row ports (Set (cfg.Output id position vr) ∷ changes) y ≡ output_row ports changes y
other_row ports changes id position vr y ne =
    let e : (id == y) ≡ false = grind (arith, nat_tests, ne) in
    rw e refl

-- and gives its own one place more
own_row : (ports : List Port) (changes : List Change) (id position vr : ℕ) (place : PortPlace) → place ≡ place_with ports vr
    → output_row ports (Set (cfg.Output id position vr) ∷ changes) id ≡ record (output_row ports changes id) { places = (output_row ports changes id).places ++ place ∷ [] }
own_row ports changes id position vr place p =
    let e : (id == id) ≡ true = grind (arith, nat_tests) in
    let f : PortPlace → List PortPlace = λ q. map (place_with ports) (reverse (entries output id changes)) ++ q ∷ [] in
    let m : map (place_with ports) (reverse (vr ∷ entries output id changes)) ≡ map (place_with ports) (reverse (entries output id changes)) ++ place ∷ [] =
    ap (map (place_with ports)) (reverse-append (vr ∷ []) (entries output id changes)) ∙ map-append (place_with ports) (reverse (entries output id changes)) (vr ∷ []) ∙ ap f (sym p) in
    rw e (ap (λ (l : List PortPlace). record (output_row ports changes id) { places = l }) m)

pub told_still : (d : SlaveDesc) (changes : List Change) (id position vr : ℕ) → ((y : ℕ) → has_id output y changes ≡ false → target y changes ≡ None)
    → (y : ℕ) → has_id output y (Set (cfg.Output id position vr) ∷ changes) ≡ false → target y changes ≡ None
told_still d changes id position vr told y h = told y (has_fewer (vr_for y (output (Set (cfg.Output id position vr)))) (entries output y changes) h)

pub extended : (d : SlaveDesc) (changes : List Change) (o n : Outputs) (id i position vr : ℕ) (r : OutputRow) (places : List PortPlace) (place : PortPlace)
    → AreOutputs d changes o → IsThere o.ids id i → IsPort vr d.outputs place → r ≡ get_or o.rows.items i r → places ≡ r.places ++ place ∷ []
    → n.ports.items ≡ o.ports.items → n.ids ≡ o.ids → n.rows.items ≡ set o.rows.items i (record r { places = places })
    → AreOutputs d (Set (cfg.Output id position vr) ∷ changes) n
extended d changes o n id i position vr r places place h t p read pushed ports same rows =
    let f : ℕ → OutputRow = output_row d.outputs changes in
    let g : ℕ → OutputRow = output_row d.outputs (Set (cfg.Output id position vr) ∷ changes) in
    let all : List ℕ = ids output changes in
    let at : IsThere all id i = subst (λ (l : List ℕ). IsThere l id i) h.sorted t in
    let kept : put_ascending id all ≡ all = put_there id i all at in
    let own : r ≡ f id = read ∙ ap (λ (l : List OutputRow). get_or l i r) h.rows ∙ row_at f id i all r at in
    let mine : record r { places = places } ≡ g id =
    ap (λ (l : List PortPlace). record r { places = l }) pushed
    ∙ ap (λ (q : OutputRow). record q { places = q.places ++ place ∷ [] }) own
    ∙ sym (own_row d.outputs changes id position vr place p.same) in
    record {
      listed = ports ∙ h.listed;
      sorted = same ∙ h.sorted ∙ sym kept;
      rows = rows ∙ ap (λ (l : List OutputRow). set l i (record r { places = places })) h.rows
          ∙ ap (set (map f all) i) mine
          ∙ sym (map_set f g id i all (ids_ascend output changes) at (λ y ne. other_row d.outputs changes id position vr y ne))
          ∙ ap (map g) (sym kept);
      told = told_still d changes id position vr h.told;
    }

same_row : (r : OutputRow) (p : List PortPlace) (t : Option Address) (q b : ℕ) → r.places ≡ p → r.target ≡ t → r.interval ≡ q → r.base ≡ b → r ≡ record { places = p; target = t; interval = q; base = b }
same_row r p t q b e f g h =
    let f1 : List PortPlace → OutputRow = λ x. record r { places = x } in
    let f2 : Option Address → OutputRow = λ x. record r { places = p; target = x } in
    let f3 : ℕ → OutputRow = λ x. record r { places = p; target = t; interval = x } in
    let f4 : ℕ → OutputRow = λ x. record r { places = p; target = t; interval = q; base = x } in
    ap f1 e ∙ ap f2 f ∙ ap f3 g ∙ ap f4 h

-- what is kept of an id with its first entry
first_row : (ports : List Port) (changes : List Change) (id position vr : ℕ) (place : PortPlace) (r : OutputRow) → place ≡ place_with ports vr
    → has_id output id changes ≡ false → target id changes ≡ None
    → r.places ≡ place ∷ [] → r.target ≡ None → r.interval ≡ 1 → r.base ≡ 0
    → r ≡ output_row ports (Set (cfg.Output id position vr) ∷ changes) id
first_row ports changes id position vr place r p new none places target' every first =
    let e : entries output id changes ≡ [] = has_none (entries output id changes) new in
    let b : base output id changes ≡ 0 = base_new output id changes new in
    same_row r _ _ _ _
    (places ∙ ap (λ (q : PortPlace). q ∷ []) p ∙ ap (λ (l : List ℕ). map (place_with ports) (reverse l) ++ place_with ports vr ∷ []) (sym e))
    (target' ∙ sym none)
    (every ∙ sym (interval_new output id changes new))
    (first ∙ ap (λ (n : ℕ). n % 65536) (sym b))
    ∙ ap (λ (q : PortPlace). record (output_row ports changes id) { places = (output_row ports changes id).places ++ q ∷ [] }) (sym p)
    ∙ sym (own_row ports changes id position vr place p)

pub begun : (d : SlaveDesc) (changes : List Change) (o n : Outputs) (id i position vr : ℕ) (r : OutputRow) (place : PortPlace)
    → AreOutputs d changes o → IsPlaceFor o.ids id i → IsPort vr d.outputs place
    → r.places ≡ place ∷ [] → r.target ≡ None → r.interval ≡ 1 → r.base ≡ 0
    → n.ports.items ≡ o.ports.items → n.ids ≡ insert o.ids i id → n.rows.items ≡ insert o.rows.items i r
    → AreOutputs d (Set (cfg.Output id position vr) ∷ changes) n
begun d changes o n id i position vr r place h t p places none every first ports ids' rows =
    let f : ℕ → OutputRow = output_row d.outputs changes in
    let g : ℕ → OutputRow = output_row d.outputs (Set (cfg.Output id position vr) ∷ changes) in
    let all : List ℕ = ids output changes in
    let at : IsPlaceFor all id i = subst (λ (l : List ℕ). IsPlaceFor l id i) h.sorted t in
    let new : has_id output id changes ≡ false = unknown output id i changes at in
    let put : put_ascending id all ≡ insert all i id = put_new id i all at in
    let mine : r ≡ g id = first_row d.outputs changes id position vr place r p.same new (h.told id new) places none every first in
    record {
      listed = ports ∙ h.listed;
      sorted = ids' ∙ ap (λ (l : List ℕ). insert l i id) h.sorted ∙ sym put;
      rows = rows ∙ ap (λ (l : List OutputRow). insert l i r) h.rows
          ∙ ap (insert (map f all) i) mine
          ∙ sym (map_insert f g id i all (ids_ascend output changes) at (λ y ne. other_row d.outputs changes id position vr y ne))
          ∙ ap (map g) (sym put);
      told = told_still d changes id position vr h.told;
    }

pub there_at : (d : SlaveDesc) (changes : List Change) (o : Outputs) (id i : ℕ) → AreOutputs d changes o → IsThere o.ids id i → IsThere (ids output changes) id i
there_at d changes o id i h t = subst (λ (l : List ℕ). IsThere l id i) h.sorted t

pub place_at : (d : SlaveDesc) (changes : List Change) (o : Outputs) (id i : ℕ) → AreOutputs d changes o → IsPlaceFor o.ids id i → IsPlaceFor (ids output changes) id i
place_at d changes o id i h t = subst (λ (l : List ℕ). IsPlaceFor l id i) h.sorted t

pub full_at : (d : SlaveDesc) (changes : List Change) (o : Outputs) (id i position vr : ℕ) → AreOutputs d changes o → IsPlaceFor o.ids id i → 17 ≤ length o.ids → refusal_of_setting d changes (cfg.Output id position vr) ≡ Some NotSupported
full_at d changes o id i position vr h t n =
    let l : length o.ids ≡ length (ids output changes) = ap length h.sorted in
    full d changes id position vr (unknown output id i changes (place_at d changes o id i h t)) (omega arith)

pub room_at : (d : SlaveDesc) (changes : List Change) (o : Outputs) (id i : ℕ) → AreOutputs d changes o → IsPlaceFor o.ids id i → length o.ids < 17 → is_full id changes ≡ false
room_at d changes o id i h t n =
    let l : length o.ids ≡ length (ids output changes) = ap length h.sorted in
    not_full_room changes id (unknown output id i changes (place_at d changes o id i h t)) (omega arith)

pub known_at : (d : SlaveDesc) (changes : List Change) (o : Outputs) (id i : ℕ) → AreOutputs d changes o → IsThere o.ids id i → is_full id changes ≡ false
known_at d changes o id i h t = not_full_known changes id (known output id i changes (there_at d changes o id i h t))

pub count_at : (d : SlaveDesc) (changes : List Change) (o : Outputs) (id i : ℕ) (r : OutputRow) → AreOutputs d changes o → IsThere o.ids id i → r ≡ get_or o.rows.items i r → length r.places ≡ length (entries output id changes)
count_at d changes o id i r h t read =
    ap (λ (q : OutputRow). length q.places) (read ∙ ap (λ (l : List OutputRow). get_or l i r) h.rows ∙ row_at (output_row d.outputs changes) id i (ids output changes) r (there_at d changes o id i h t))
    ∙ length-map (reverse (entries output id changes)) (place_with d.outputs) ∙ length-reverse (entries output id changes)

pub none_at : (d : SlaveDesc) (changes : List Change) (o : Outputs) (id i : ℕ) → AreOutputs d changes o → IsPlaceFor o.ids id i → 0 ≡ length (entries output id changes)
none_at d changes o id i h t = ap length (sym (has_none (entries output id changes) (unknown output id i changes (place_at d changes o id i h t))))

-- an entry at this position, where the id has so many
pub judged_at : (d : SlaveDesc) (changes : List Change) (id position vr count : ℕ) (place : PortPlace) (b : Bool) → is_full id changes ≡ false → IsPort vr d.outputs place → count ≡ length (entries output id changes)
    → b ≡ ((position == count) && nat_lt position 8) → refusal_of_setting d changes (cfg.Output id position vr) ≡ refused_unless b Position
judged_at d changes id position vr count place b f p n e =
    judged d changes id position vr place f p b (ap (λ (m : ℕ). (position == m) && nat_lt position 8) (sym n) ∙ sym e)

pub has_found : (d : SlaveDesc) (changes : List Change) (o : Outputs) (id : ℕ) (r : Result ℕ ℕ) → AreOutputs d changes o → IsFound o.ids id r → is_ok r ≡ has_id output id changes
has_found d changes o id (Ok i) h t = sym (known output id i changes (there_at d changes o id i h t))
has_found d changes o id (Err i) h t = sym (unknown output id i changes (place_at d changes o id i h t))

-- a target
pub target_refused : (d : SlaveDesc) (changes : List Change) (net : NetInfo) (b : Bool) → is_transport net.protocol ≡ true → (has_id output net.data_id changes && is_none (target net.data_id changes)) ≡ b → refusal_of_setting d changes (cfg.Target net) ≡ refused_unless b Position
unfolding refusal_of_setting
target_refused d changes net b t e = rw (t, e) refl

pub no_target_id : (d : SlaveDesc) (changes : List Change) (o : Outputs) (net : NetInfo) (i : ℕ) → AreOutputs d changes o → IsPlaceFor o.ids net.data_id i → is_transport net.protocol ≡ true → refusal_of_setting d changes (cfg.Target net) ≡ Some Position
no_target_id d changes o net i h p t =
    let e : has_id output net.data_id changes ≡ false = unknown output net.data_id i changes (place_at d changes o net.data_id i h p) in
    target_refused d changes net false t (rw e refl)

pub target_told : (d : SlaveDesc) (changes : List Change) (o : Outputs) (net : NetInfo) (i : ℕ) (r : OutputRow) (b : Bool) → AreOutputs d changes o → IsThere o.ids net.data_id i → is_transport net.protocol ≡ true → r ≡ get_or o.rows.items i r
    → is_some r.target ≡ not b → refusal_of_setting d changes (cfg.Target net) ≡ refused_unless b Position
target_told d changes o net i r b h p t read s =
    let at = there_at d changes o net.data_id i h p in
    let e : has_id output net.data_id changes ≡ true = known output net.data_id i changes at in
    let own : r.target ≡ target net.data_id changes = ap (λ (q : OutputRow). q.target) (read ∙ ap (λ (l : List OutputRow). get_or l i r) h.rows ∙ row_at (output_row d.outputs changes) net.data_id i (ids output changes) r at) in
    target_refused d changes net b t (rw (e, ← own) (turned (is_some r.target) b s))
  where
    turned : (x y : Bool) → x ≡ not y → (true && not x) ≡ y
    turned x true e = rw e refl
    turned x false e = rw e refl

other_target : (ports : List Port) (changes : List Change) (net : NetInfo) (y : ℕ) → net.data_id ≢ y → output_row ports (Set (cfg.Target net) ∷ changes) y ≡ output_row ports changes y
other_target ports changes net y ne =
    let e : (net.data_id == y) ≡ false = grind (arith, nat_tests, ne) in
    rw e refl

own_target : (ports : List Port) (changes : List Change) (net : NetInfo) → output_row ports (Set (cfg.Target net) ∷ changes) net.data_id ≡ record (output_row ports changes net.data_id) { target = Some (record { ip = net.ip; port = net.port }) }
own_target ports changes net =
    let e : (net.data_id == net.data_id) ≡ true = grind (arith, nat_tests) in
    rw e refl

target_still : (changes : List Change) (net : NetInfo) → has_id output net.data_id changes ≡ true → ((y : ℕ) → has_id output y changes ≡ false → target y changes ≡ None)
    → (y : ℕ) → has_id output y changes ≡ false → target y (Set (cfg.Target net) ∷ changes) ≡ None
target_still changes net k told y h =
    by_test (net.data_id == y)
    (λ e. let same : net.data_id ≡ y = grind (arith, nat_tests, e) in let no : true ≡ false = sym k ∙ ap (λ (m : ℕ). has_id output m changes) same ∙ h in absurd cc)
    (λ e. rw e (told y h))

pub targeted : (d : SlaveDesc) (changes : List Change) (o n : Outputs) (net : NetInfo) (i : ℕ) (r : OutputRow) (a : Address)
    → AreOutputs d changes o → IsThere o.ids net.data_id i → r ≡ get_or o.rows.items i r → a ≡ record { ip = net.ip; port = net.port }
    → n.ports.items ≡ o.ports.items → n.ids ≡ o.ids → n.rows.items ≡ set o.rows.items i (record r { target = Some a })
    → AreOutputs d (Set (cfg.Target net) ∷ changes) n
targeted d changes o n net i r a h t read address ports same rows =
    let id = net.data_id in
    let f : ℕ → OutputRow = output_row d.outputs changes in
    let g : ℕ → OutputRow = output_row d.outputs (Set (cfg.Target net) ∷ changes) in
    let all : List ℕ = ids output changes in
    let at : IsThere all id i = there_at d changes o id i h t in
    let own : r ≡ f id = read ∙ ap (λ (l : List OutputRow). get_or l i r) h.rows ∙ row_at f id i all r at in
    let mine : record r { target = Some a } ≡ g id =
    ap (λ (b : Address). record r { target = Some b }) address
    ∙ ap (λ (q : OutputRow). record q { target = Some (record { ip = net.ip; port = net.port }) }) own
    ∙ sym (own_target d.outputs changes net) in
    record {
      listed = ports ∙ h.listed;
      sorted = same ∙ h.sorted;
      rows = rows ∙ ap (λ (l : List OutputRow). set l i (record r { target = Some a })) h.rows
          ∙ ap (set (map f all) i) mine
          ∙ sym (map_set f g id i all (ids_ascend output changes) at (λ y ne. other_target d.outputs changes net y ne));
      told = target_still changes net (known output id i changes at) h.told;
    }

-- an interval
other_interval : (ports : List Port) (changes : List Change) (id q y : ℕ) → id ≢ y → output_row ports (Set (cfg.Steps id q) ∷ changes) y ≡ output_row ports changes y
other_interval ports changes id q y ne =
    let e : (id == y) ≡ false = grind (arith, nat_tests, ne) in
    rw e refl

own_interval : (ports : List Port) (changes : List Change) (id q : ℕ) → has_id output id changes ≡ true → output_row ports (Set (cfg.Steps id q) ∷ changes) id ≡ record (output_row ports changes id) { interval = q }
own_interval ports changes id q k =
    let e : (id == id) ≡ true = grind (arith, nat_tests) in
    rw (e, k) refl

pub paced : (d : SlaveDesc) (changes : List Change) (o n : Outputs) (id q i : ℕ) (r : OutputRow)
    → AreOutputs d changes o → IsThere o.ids id i → r ≡ get_or o.rows.items i r
    → n.ports.items ≡ o.ports.items → n.ids ≡ o.ids → n.rows.items ≡ set o.rows.items i (record r { interval = q })
    → AreOutputs d (Set (cfg.Steps id q) ∷ changes) n
paced d changes o n id q i r h t read ports same rows =
    let f : ℕ → OutputRow = output_row d.outputs changes in
    let g : ℕ → OutputRow = output_row d.outputs (Set (cfg.Steps id q) ∷ changes) in
    let all : List ℕ = ids output changes in
    let at : IsThere all id i = there_at d changes o id i h t in
    let own : r ≡ f id = read ∙ ap (λ (l : List OutputRow). get_or l i r) h.rows ∙ row_at f id i all r at in
    let mine : record r { interval = q } ≡ g id =
    ap (λ (p : OutputRow). record p { interval = q }) own ∙ sym (own_interval d.outputs changes id q (known output id i changes at)) in
    record {
      listed = ports ∙ h.listed;
      sorted = same ∙ h.sorted;
      rows = rows ∙ ap (λ (l : List OutputRow). set l i (record r { interval = q })) h.rows
          ∙ ap (set (map f all) i) mine
          ∙ sym (map_set f g id i all (ids_ascend output changes) at (λ y ne. other_interval d.outputs changes id q y ne));
      told = h.told;
    }

pub unpaced : (d : SlaveDesc) (changes : List Change) (o : Outputs) (id q i : ℕ) → AreOutputs d changes o → IsPlaceFor o.ids id i → AreOutputs d (Set (cfg.Steps id q) ∷ changes) o
unpaced d changes o id q i h p =
    let f : ℕ → OutputRow = output_row d.outputs changes in
    let g : ℕ → OutputRow = output_row d.outputs (Set (cfg.Steps id q) ∷ changes) in
    let all : List ℕ = ids output changes in
    record {
      listed = h.listed;
      sorted = h.sorted;
      rows = h.rows ∙ sym (map_absent f g id i all (ids_ascend output changes) (place_at d changes o id i h p) (λ y ne. other_interval d.outputs changes id q y ne));
      told = h.told;
    }

map-map : {A B C : Type 0} (f : B → C) (g : A → B) (xs : List A) → map f (map g xs) ≡ map (λ x. f (g x)) xs
map-map f g [] = refl
map-map f g (x ∷ xs) = ap (λ l. f (g x) ∷ l) (map-map f g xs)

-- a restart
after_restart : (ports : List Port) (changes : List Change) (steps y : ℕ) → has_id output y changes ≡ true → output_row ports (Restart steps ∷ changes) y ≡ row_restarted steps (output_row ports changes y)
after_restart ports changes steps y k =
    let b = base output y changes in
    let s = steps / entry_interval output y changes + 1 in
    rw k (ap (λ (m : ℕ). record (output_row ports changes y) { base = m }) (sym (mod-add-mod b 65536 s)))

pub restarted : (d : SlaveDesc) (changes : List Change) (o n : Outputs) (steps : ℕ) → AreOutputs d changes o → n.ports.items ≡ o.ports.items → n.ids ≡ o.ids → n.rows.items ≡ map (row_restarted steps) o.rows.items
    → AreOutputs d (Restart steps ∷ changes) n
restarted d changes o n steps h ports same rows =
    let f : ℕ → OutputRow = output_row d.outputs changes in
    let g : ℕ → OutputRow = output_row d.outputs (Restart steps ∷ changes) in
    let k : ℕ → OutputRow = λ y. row_restarted steps (f y) in
    record {
      listed = ports ∙ h.listed;
      sorted = same ∙ h.sorted;
      rows = rows ∙ ap (map (row_restarted steps)) h.rows ∙ map-map (row_restarted steps) f (ids output changes)
          ∙ sym (map_known output changes k g (λ y e. after_restart d.outputs changes steps y e));
      told = h.told;
    }

pub restarted_more : (steps : ℕ) (xs ys : List OutputRow) (i : ℕ) (d : OutputRow) (b : ℕ) → i < length xs → i < length ys → ys ≡ map (row_restarted steps) (take i xs) ++ drop i xs → b ≡ ((get_or ys i d).base + (steps / (get_or ys i d).interval + 1)) % 65536
    → set ys i (record (get_or ys i d) { base = b }) ≡ map (row_restarted steps) (take (i + 1) xs) ++ drop (i + 1) xs
restarted_more steps xs ys i d b within here e next =
    let x : OutputRow = get_or ys i d in
    ap (λ (n : ℕ). set ys i (record x { base = n })) next ∙ map_over_more (row_restarted steps) xs ys i x within e (get_or_default ys i d x here)

pub all_restarted : (steps : ℕ) (xs ys : List OutputRow) (i : ℕ) → length xs ≤ i → ys ≡ map (row_restarted steps) (take i xs) ++ drop i xs → ys ≡ map (row_restarted steps) xs
all_restarted steps xs ys i h e =
    e ∙ ap (λ (l : List OutputRow). map (row_restarted steps) l ++ drop i xs) (take_all i xs h)
    ∙ ap (λ (l : List OutputRow). map (row_restarted steps) xs ++ l) (drop_all i xs h) ∙ append-nil (map (row_restarted steps) xs)
