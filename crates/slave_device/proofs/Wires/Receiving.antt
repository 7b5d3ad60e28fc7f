-- The rows of the input ids and the inputs, change by change.
use Rattle.std.proofs.Common.{◌≡◌, ◌≢◌, ℕ, zero, suc, ◌≤◌, Bool, true, false, List, [], ◌∷◌, length, get_or, set, take, map, refl, ap, sym, ◌∙◌, subst, arith, Some, None}
use Rattle.std.specs.Prelude.{pos, Result, Ok, Err, is_ok, ◌==◌, ◌&&◌, not, is_some, is_none, replicate}
use Rattle.std.proofs.lemmas.Bool.Decides.{nat_tests}
use Rattle.dcp_types.specs.declared.addresses.Address.{Address}
use Rattle.dcp_types.specs.declared.error_codes.ErrorCode.TheVariants.{Position}
use Rattle.pdu_layout.specs.declared.messages.Cfg.TheVariants as cfg
use Rattle.pdu_layout.specs.declared.messages.NetInfo.{NetInfo}
use Rattle.slave_desc.specs.declared.ports.Port.{Port}
use Rattle.slave_desc.specs.declared.descriptions.SlaveDesc.{SlaveDesc}
use Rattle.slave_desc.specs.Descriptions.{AreApart}
use Rattle.slave_spec.specs.Changes.{Change, Set, input, has_id, ids, source}
use Rattle.slave_spec.specs.Refusals.{refusal_of_setting, refused_unless, is_transport}
use Rattle.slave_spec.specs.Payloads as payloads
use Rattle.slave_spec.specs.Payloads.{WiringState, Kept, Spot, bare_wires, brought, is_wanted, port_type, input_types, spot, spot_given, value_kept, spot_value, input_value, wired_values, kept_under, is_address, is_here, is_kept_of, restarted, cut_values}
use Rattle.slave_device.specs.Wires.Ids.{IsThere, IsPlaceFor, IsFound}
use Rattle.slave_device.specs.Wires.Receiving.{input_row, AreInputs}
use Rattle.slave_device.specs.declared.tables.InputRow.{InputRow}
use Rattle.slave_device.specs.declared.tables.Inputs.{Inputs}
use Rattle.slave_device.proofs.Wires.Ascending.{by_test, map_set, map_absent, row_at}
use Rattle.slave_device.proofs.Wires.Known.{ids_ascend, known, unknown}

pub there_at : (d : SlaveDesc) (w : WiringState) (s : Inputs) (id i : ℕ) → AreInputs d w s → IsThere s.ids id i → IsThere (ids input w.changes) id i
there_at d w s id i h t = subst (λ (l : List ℕ). IsThere l id i) h.sorted t

pub place_at : (d : SlaveDesc) (w : WiringState) (s : Inputs) (id i : ℕ) → AreInputs d w s → IsPlaceFor s.ids id i → IsPlaceFor (ids input w.changes) id i
place_at d w s id i h t = subst (λ (l : List ℕ). IsPlaceFor l id i) h.sorted t

pub has_found : (d : SlaveDesc) (w : WiringState) (s : Inputs) (id : ℕ) (r : Result ℕ ℕ) → AreInputs d w s → IsFound s.ids id r → is_ok r ≡ has_id input id w.changes
has_found d w s id (Ok i) h t = sym (known input id i w.changes (there_at d w s id i h t))
has_found d w s id (Err i) h t = sym (unknown input id i w.changes (place_at d w s id i h t))

pub row_is : (d : SlaveDesc) (w : WiringState) (s : Inputs) (id i : ℕ) (r : InputRow) → AreInputs d w s → IsThere s.ids id i → r ≡ get_or s.rows.items i r → r ≡ input_row d w id
row_is d w s id i r h t read =
    read ∙ ap (λ (l : List InputRow). get_or l i r) h.rows ∙ row_at (input_row d w) id i (ids input w.changes) r (there_at d w s id i h t)

-- ---- the beginning

pub filled : {X : Type 0} (x : X) (ports : List Port) (n : ℕ) → length ports ≤ n → take (length ports) (replicate n x) ≡ map (λ port. x) ports
filled x [] n h = refl
filled x (p ∷ ps) zero h = absurd (omega arith)
filled x (p ∷ ps) (suc n) h = ap (λ l. x ∷ l) (filled x ps n (omega arith))

pub bare_inputs : (d : SlaveDesc) (s : Inputs) → s.ports.items ≡ d.inputs → AreApart d.inputs → length d.inputs ≤ 8 → s.ids ≡ [] → s.rows.items ≡ [] → s.segments ≡ replicate 8 None → s.values ≡ replicate 8 (pos 0) → AreInputs d bare_wires s
bare_inputs d s ports apart few all rows segments values = record {
  listed = ports;
  apart = apart;
  sorted = all;
  rows = rows;
  segments = ap (take (length d.inputs)) segments ∙ filled None d.inputs 8 few;
  values = ap (take (length d.inputs)) values ∙ filled (pos 0) d.inputs 8 few;
  sound = record { told = λ id h. refl; none = λ id h. refl; placed = λ vr e h. absurd cc; short = λ id k h. absurd cc };
}

-- ---- changes that are not on inputs

pub not_resolution : (d : SlaveDesc) (w : WiringState) (s : Inputs) (numerator denominator : ℕ) → AreInputs d w s → AreInputs d (payloads.set w (cfg.TimeRes numerator denominator)) s
not_resolution d w s numerator denominator h = record {
  listed = h.listed;
  apart = h.apart;
  sorted = h.sorted;
  rows = h.rows;
  segments = h.segments;
  values = h.values;
  sound = record { told = h.sound.told; none = h.sound.none; placed = h.sound.placed; short = h.sound.short };
}

pub not_output : (d : SlaveDesc) (w : WiringState) (s : Inputs) (id position vr : ℕ) → AreInputs d w s → AreInputs d (payloads.set w (cfg.Output id position vr)) s
not_output d w s id position vr h = record {
  listed = h.listed;
  apart = h.apart;
  sorted = h.sorted;
  rows = h.rows;
  segments = h.segments;
  values = h.values;
  sound = record { told = h.sound.told; none = h.sound.none; placed = h.sound.placed; short = h.sound.short };
}

pub not_target : (d : SlaveDesc) (w : WiringState) (s : Inputs) (net : NetInfo) → AreInputs d w s → AreInputs d (payloads.set w (cfg.Target net)) s
not_target d w s net h = record {
  listed = h.listed;
  apart = h.apart;
  sorted = h.sorted;
  rows = h.rows;
  segments = h.segments;
  values = h.values;
  sound = record { told = h.sound.told; none = h.sound.none; placed = h.sound.placed; short = h.sound.short };
}

-- ---- sources

pub source_refused : (d : SlaveDesc) (changes : List Change) (net : NetInfo) (b : Bool) → is_transport net.protocol ≡ true → (has_id input net.data_id changes && is_none (source net.data_id changes)) ≡ b → refusal_of_setting d changes (cfg.Source net) ≡ refused_unless b Position
unfolding refusal_of_setting
source_refused d changes net b t e = rw (t, e) refl

pub no_source_id : (d : SlaveDesc) (w : WiringState) (s : Inputs) (net : NetInfo) (i : ℕ) → AreInputs d w s → IsPlaceFor s.ids net.data_id i → is_transport net.protocol ≡ true → refusal_of_setting d w.changes (cfg.Source net) ≡ Some Position
no_source_id d w s net i h p t =
    let e : has_id input net.data_id w.changes ≡ false = unknown input net.data_id i w.changes (place_at d w s net.data_id i h p) in
    source_refused d w.changes net false t (rw e refl)

pub source_told : (d : SlaveDesc) (w : WiringState) (s : Inputs) (net : NetInfo) (i : ℕ) (r : InputRow) (b : Bool) → AreInputs d w s → IsThere s.ids net.data_id i → is_transport net.protocol ≡ true → r ≡ get_or s.rows.items i r
    → is_some r.source ≡ not b → refusal_of_setting d w.changes (cfg.Source net) ≡ refused_unless b Position
source_told d w s net i r b h p t read e =
    let k : has_id input net.data_id w.changes ≡ true = known input net.data_id i w.changes (there_at d w s net.data_id i h p) in
    let own : r.source ≡ source net.data_id w.changes = ap (λ (q : InputRow). q.source) (row_is d w s net.data_id i r h p read) in
    source_refused d w.changes net b t (rw (k, ← own) (turned (is_some r.source) b e))
  where
    turned : (x y : Bool) → x ≡ not y → (true && not x) ≡ y
    turned x true e = rw e refl
    turned x false e = rw e refl

other_source : (d : SlaveDesc) (w : WiringState) (net : NetInfo) (y : ℕ) → net.data_id ≢ y → input_row d (payloads.set w (cfg.Source net)) y ≡ input_row d w y
other_source d w net y ne =
    let e : (net.data_id == y) ≡ false = grind (arith, nat_tests, ne) in
    rw e refl

own_source : (d : SlaveDesc) (w : WiringState) (net : NetInfo) → input_row d (payloads.set w (cfg.Source net)) net.data_id ≡ record (input_row d w net.data_id) { source = Some (record { ip = net.ip; port = net.port }) }
own_source d w net =
    let e : (net.data_id == net.data_id) ≡ true = grind (arith, nat_tests) in
    rw e refl

source_still : (changes : List Change) (net : NetInfo) → has_id input net.data_id changes ≡ true → ((y : ℕ) → has_id input y changes ≡ false → source y changes ≡ None)
    → (y : ℕ) → has_id input y changes ≡ false → source y (Set (cfg.Source net) ∷ changes) ≡ None
source_still changes net k told y h =
    by_test (net.data_id == y)
    (λ e. let same : net.data_id ≡ y = grind (arith, nat_tests, e) in let no : true ≡ false = sym k ∙ ap (λ (m : ℕ). has_id input m changes) same ∙ h in absurd cc)
    (λ e. rw e (told y h))

pub sourced : (d : SlaveDesc) (w : WiringState) (s n : Inputs) (net : NetInfo) (i : ℕ) (r : InputRow) (a : Address)
    → AreInputs d w s → IsThere s.ids net.data_id i → r ≡ get_or s.rows.items i r → a ≡ record { ip = net.ip; port = net.port }
    → n.ports.items ≡ s.ports.items → n.ids ≡ s.ids → n.rows.items ≡ set s.rows.items i (record r { source = Some a }) → n.segments ≡ s.segments → n.values ≡ s.values
    → AreInputs d (payloads.set w (cfg.Source net)) n
sourced d w s n net i r a h t read address ports same rows segments values =
    let id = net.data_id in
    let f : ℕ → InputRow = input_row d w in
    let g : ℕ → InputRow = input_row d (payloads.set w (cfg.Source net)) in
    let all : List ℕ = ids input w.changes in
    let at : IsThere all id i = there_at d w s id i h t in
    let own : r ≡ f id = row_is d w s id i r h t read in
    let mine : record r { source = Some a } ≡ g id =
    ap (λ (b : Address). record r { source = Some b }) address
    ∙ ap (λ (q : InputRow). record q { source = Some (record { ip = net.ip; port = net.port }) }) own
    ∙ sym (own_source d w net) in
    record {
      listed = ports ∙ h.listed;
      apart = h.apart;
      sorted = same ∙ h.sorted;
      rows = rows ∙ ap (λ (l : List InputRow). set l i (record r { source = Some a })) h.rows
          ∙ ap (set (map f all) i) mine
          ∙ sym (map_set f g id i all (ids_ascend input w.changes) at (λ y ne. other_source d w net y ne));
      segments = ap (take (length d.inputs)) segments ∙ h.segments;
      values = ap (take (length d.inputs)) values ∙ h.values;
      sound = record { told = source_still w.changes net (known input id i w.changes at) h.sound.told; none = h.sound.none; placed = h.sound.placed; short = h.sound.short };
    }

-- ---- intervals

other_interval : (d : SlaveDesc) (w : WiringState) (id q y : ℕ) → id ≢ y → input_row d (payloads.set w (cfg.Steps id q)) y ≡ input_row d w y
other_interval d w id q y ne =
    let e : (id == y) ≡ false = grind (arith, nat_tests, ne) in
    rw e refl

own_interval : (d : SlaveDesc) (w : WiringState) (id q : ℕ) → has_id input id w.changes ≡ true → input_row d (payloads.set w (cfg.Steps id q)) id ≡ record (input_row d w id) { interval = q }
own_interval d w id q k =
    let e : (id == id) ≡ true = grind (arith, nat_tests) in
    rw (e, k) refl

pub paced : (d : SlaveDesc) (w : WiringState) (s n : Inputs) (id q i : ℕ) (r : InputRow)
    → AreInputs d w s → IsThere s.ids id i → r ≡ get_or s.rows.items i r
    → n.ports.items ≡ s.ports.items → n.ids ≡ s.ids → n.rows.items ≡ set s.rows.items i (record r { interval = q }) → n.segments ≡ s.segments → n.values ≡ s.values
    → AreInputs d (payloads.set w (cfg.Steps id q)) n
paced d w s n id q i r h t read ports same rows segments values =
    let f : ℕ → InputRow = input_row d w in
    let g : ℕ → InputRow = input_row d (payloads.set w (cfg.Steps id q)) in
    let all : List ℕ = ids input w.changes in
    let at : IsThere all id i = there_at d w s id i h t in
    let mine : record r { interval = q } ≡ g id =
    ap (λ (p : InputRow). record p { interval = q }) (row_is d w s id i r h t read) ∙ sym (own_interval d w id q (known input id i w.changes at)) in
    record {
      listed = ports ∙ h.listed;
      apart = h.apart;
      sorted = same ∙ h.sorted;
      rows = rows ∙ ap (λ (l : List InputRow). set l i (record r { interval = q })) h.rows
          ∙ ap (set (map f all) i) mine
          ∙ sym (map_set f g id i all (ids_ascend input w.changes) at (λ y ne. other_interval d w id q y ne));
      segments = ap (take (length d.inputs)) segments ∙ h.segments;
      values = ap (take (length d.inputs)) values ∙ h.values;
      sound = record { told = h.sound.told; none = h.sound.none; placed = h.sound.placed; short = h.sound.short };
    }

pub unpaced : (d : SlaveDesc) (w : WiringState) (s : Inputs) (id q i : ℕ) → AreInputs d w s → IsPlaceFor s.ids id i → AreInputs d (payloads.set w (cfg.Steps id q)) s
unpaced d w s id q i h p =
    let f : ℕ → InputRow = input_row d w in
    let g : ℕ → InputRow = input_row d (payloads.set w (cfg.Steps id q)) in
    let all : List ℕ = ids input w.changes in
    record {
      listed = h.listed;
      apart = h.apart;
      sorted = h.sorted;
      rows = h.rows ∙ sym (map_absent f g id i all (ids_ascend input w.changes) (place_at d w s id i h p) (λ y ne. other_interval d w id q y ne));
      segments = h.segments;
      values = h.values;
      sound = record { told = h.sound.told; none = h.sound.none; placed = h.sound.placed; short = h.sound.short };
    }
