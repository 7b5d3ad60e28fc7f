-- A slave's inputs are those of the reference.
use Rattle.std.proofs.Common.{◌≡◌, ◌≢◌, ℕ, zero, suc, ◌+◌, ◌-◌, ◌*◌, ◌/◌, ◌<◌, ◌≤◌, ◌==◌, Bool, true, false, if◌then◌else◌, List, [], ◌∷◌, length, map, Option, Some, None, Result, Ok, Err, refl, sym, ap, ◌∙◌, subst, arith, eqb, ℤ, pos}
use Rattle.std.specs.Prelude.{◌&&◌, nat_lt, reverse, filter, find, slice_get, slice_index_or, option_map}
use Rattle.std.specs.List.{AllByRecursion, filter_map}
use Rattle.std.proofs.lemmas.Bool.{eqb-true, and_parts}
use Rattle.std.proofs.lemmas.Bool.Decides.{nat_tests}
use Rattle.std.proofs.lemmas.List.{length-reverse}
use Rattle.std.proofs.lemmas.Nat.{div-add-mod'}
use Rattle.std.proofs.lemmas.Option.{slice_get_within, slice_get-map}
use Rattle.dcp_types.specs.declared.data_types.DataType.{DataType}
use Rattle.dcp_types.specs.declared.fault_codes.FaultCode.{FaultCode}
use Rattle.dcp_types.specs.declared.fault_codes.FaultCode.TheVariants.{OutOfRange}
use Rattle.fixed_models.specs.Steps.{outputs, all_fit}
use Rattle.slave_desc.specs.declared.ports.Port.{Port}
use Rattle.slave_desc.specs.declared.descriptions.SlaveDesc.{SlaveDesc}
use Rattle.scenario.specs.declared.scenarios.Scenario.{Scenario}
use Rattle.scenario.specs.declared.scenarios.Wire.{Wire}
use Rattle.scenario.specs.Lookups.{slave_at}
use Rattle.scenario.specs.Settings.{parameters}
use Rattle.scenario.specs.Sound.{IsScenario, IsWire}
use Rattle.scenario.specs.Wiring.{wire_into, same_input, interval, column}
use Rattle.lockstep.specs.Lockstep as reference
use Rattle.lockstep.specs.Lockstep.{row_index, row, shown_of, shown_at, state, read, IsMoment, EachRow}
use Rattle.master_spec.specs.declared.links.DataLink.{DataLink}
use Rattle.master_spec.specs.declared.pairs.Pair.{Pair}
use Rattle.master_spec.specs.Links.{pairs_from, wired_pairs, is_wire, positions, wire_links, wire_link}
use Rattle.plan_laws.specs.Taking.{IsScenarioSlave}
use Rattle.plan_laws.proofs.Lists.{Pairwise, each_weaker, each_both, each_always, each_filter, each_passes, each_from_all, pairwise_from_all}
use Rattle.plan_laws.proofs.Pairs.{each_link}
use Rattle.plan_laws.proofs.Ports.{each_got, ports_differ, fed_by, fed_from}
use Rattle.plan_laws.proofs.Planned.{slave_got, slave_there, inputs_there}
use Rattle.plan_laws.proofs.Links.{links_to, links_of, to_here}
use Rattle.slave_spec.specs.Changes.{Change, Side, input, output, entries, has_id}
use Rattle.slave_spec.specs.Refusals.{port_with}
use Rattle.slave_spec.specs.Payloads as wired
use Rattle.slave_spec.specs.Payloads.{Kept, WiringState, Spot, port_type, types_in, kept_under, spot, cut_values, value_kept, spot_value, output_value, payload}
use Rattle.slave_laws.specs.Wiring.Wired.{planned_changes, changes_restarted}
use Rattle.slave_laws.specs.Wiring.Links.{data_link_of, link_interval, from_of, interval_of, sender_of}
use Rattle.slave_laws.proofs.Wiring.Found.{wires_found}
use Rattle.slave_laws.proofs.Wiring.Back.{read_back}
use Rattle.slave_laws.proofs.Wiring.RowParts.{shown_length, have_parts}
use Rattle.slave_laws.specs.Wiring.Reads.{sent_step, IsShownBy, InputsReadRows}
use Rattle.slave_laws.proofs.Wiring.InputLists.{chosen_at, read_map, map_along, found_passes, each_swap, unfiltered}
use Rattle.slave_laws.proofs.Wiring.Ports.{ports_into, ports_out, references, IsJoined, joined, same_types, output_at_place, value_read}
use Rattle.slave_laws.proofs.Wiring.Told.{input_entries, output_entries}
use Rattle.slave_laws.proofs.Wiring.Spots.{restarted_spot, IsReadAt, spot_read, spot_there}

-- ---- a link that comes to a slave
pub record IsLinkTo (sc : Scenario) (s : ℕ) (d : SlaveDesc) (l : DataLink) : Type 0 where
  pub to : l.to ≡ s
  pub found : data_link_of sc l.id ≡ Some l
  pub every : l.every ≡ interval sc.every l.from l.to
  pub inputs : reverse (entries input l.id (planned_changes sc s d)) ≡ references (ports_into d.inputs (positions sc.wires l.from l.to))
  pub outputs : (a : ℕ) (c : SlaveDesc) → IsScenarioSlave sc a c → l.from ≡ a → reverse (entries output l.id (planned_changes sc a c)) ≡ references (ports_out c.outputs (positions sc.wires l.from l.to))

abbrev AreSentTo : Scenario → DataLink → Type 0
AreSentTo sc l = (a : ℕ) (c : SlaveDesc) → IsScenarioSlave sc a c → l.from ≡ a → reverse (entries output l.id (planned_changes sc a c)) ≡ references (ports_out c.outputs (positions sc.wires l.from l.to))

sent_of : (sc : Scenario) (a : ℕ) (c : SlaveDesc) → IsScenarioSlave sc a c
    → AllByRecursion (λ (l : DataLink). l.from ≡ a → reverse (entries output l.id (planned_changes sc a c)) ≡ references (ports_out c.outputs (positions sc.wires l.from l.to))) (wire_links sc)
sent_of sc a c of =
    each_weaker (λ (l : DataLink). (l.from == a) ≡ true → reverse (entries output l.id (planned_changes sc a c)) ≡ references (ports_out c.outputs (positions sc.wires l.from l.to)))
    (λ (l : DataLink). l.from ≡ a → reverse (entries output l.id (planned_changes sc a c)) ≡ references (ports_out c.outputs (positions sc.wires l.from l.to)))
    (λ l f e. f (grind (arith, nat_tests, e))) (wire_links sc)
    (unfiltered (λ (l : DataLink). reverse (entries output l.id (planned_changes sc a c)) ≡ references (ports_out c.outputs (positions sc.wires l.from l.to))) (λ (l : DataLink). l.from == a) (wire_links sc) (output_entries sc a c of))

all_sent : (sc : Scenario) → AllByRecursion (AreSentTo sc) (wire_links sc)
all_sent sc = each_swap (λ (a : ℕ) (l : DataLink). (c : SlaveDesc) → IsScenarioSlave sc a c → l.from ≡ a → reverse (entries output l.id (planned_changes sc a c)) ≡ references (ports_out c.outputs (positions sc.wires l.from l.to))) (wire_links sc)
    (λ a. each_swap (λ (c : SlaveDesc) (l : DataLink). IsScenarioSlave sc a c → l.from ≡ a → reverse (entries output l.id (planned_changes sc a c)) ≡ references (ports_out c.outputs (positions sc.wires l.from l.to))) (wire_links sc)
    (λ c. each_swap (λ (of : IsScenarioSlave sc a c) (l : DataLink). l.from ≡ a → reverse (entries output l.id (planned_changes sc a c)) ≡ references (ports_out c.outputs (positions sc.wires l.from l.to))) (wire_links sc) (λ of. sent_of sc a c of)))

abbrev IsKnown : Scenario → DataLink → Type 0
IsKnown sc l = (data_link_of sc l.id ≡ Some l) × ((l.every ≡ interval sc.every l.from l.to) × AreSentTo sc l)

all_known : (sc : Scenario) → IsScenario sc → AllByRecursion (IsKnown sc) (wire_links sc)
all_known sc ok =
    let every = each_link (λ (l : DataLink). l.every ≡ interval sc.every l.from l.to) sc 17 (wired_pairs sc) (each_always (λ (p : Pair). (i : ℕ) → 17 ≤ i → (wire_link sc i p).every ≡ interval sc.every (wire_link sc i p).from (wire_link sc i p).to) (λ p i h. refl) (wired_pairs sc)) in
    each_both (λ (l : DataLink). data_link_of sc l.id ≡ Some l) (λ (l : DataLink). (l.every ≡ interval sc.every l.from l.to) × AreSentTo sc l) (IsKnown sc) (λ l a b. (a, b)) (wire_links sc) (wires_found sc ok)
    (each_both (λ (l : DataLink). l.every ≡ interval sc.every l.from l.to) (AreSentTo sc) (λ (l : DataLink). (l.every ≡ interval sc.every l.from l.to) × AreSentTo sc l) (λ l a b. (a, b)) (wire_links sc) every (all_sent sc))

all_links_to : (sc : Scenario) (s : ℕ) (d : SlaveDesc) → IsScenarioSlave sc s d → AllByRecursion (IsLinkTo sc s d) (links_to sc s)
all_links_to sc s d of =
    each_both (λ (l : DataLink). (l.to ≡ s) × (reverse (entries input l.id (planned_changes sc s d)) ≡ references (ports_into d.inputs (positions sc.wires l.from l.to)))) (IsKnown sc) (IsLinkTo sc s d)
    (λ l a b. record { to = a.0; found = b.0; every = b.1.0; inputs = a.1; outputs = b.1.1 }) (links_to sc s)
    (each_both (λ (l : DataLink). l.to ≡ s) (λ (l : DataLink). reverse (entries input l.id (planned_changes sc s d)) ≡ references (ports_into d.inputs (positions sc.wires l.from l.to)))
    (λ (l : DataLink). (l.to ≡ s) × (reverse (entries input l.id (planned_changes sc s d)) ≡ references (ports_into d.inputs (positions sc.wires l.from l.to)))) (λ l a b. (a, b)) (links_to sc s) (to_here sc s) (input_entries sc s d of))
    (each_filter (IsKnown sc) (λ (l : DataLink). l.to == s) (wire_links sc) (all_known sc of.sound))

-- ---- values that are shown lie in their types
of_fits : (types : List DataType) (us vs : List ℤ) → shown_of types us ≡ Ok vs → all_fit types vs ≡ true
of_fits types us vs h = by (all_fit types us) refl h
  where
    by : (b : Bool) → all_fit types us ≡ b → (if b then Ok us else Err OutOfRange) ≡ Ok vs → all_fit types vs ≡ true
    by true e k = let same : us ≡ vs = cc in ap (all_fit types) (sym same) ∙ e
    by false e k = absurd cc

shown_fits : (sc : Scenario) (s : ℕ) (d : SlaveDesc) (r : ℕ) (x : Result (List ℤ) FaultCode) (vs : List ℤ) → shown_at sc s d r x ≡ Ok vs → all_fit (map (λ p. p.kind) d.outputs) vs ≡ true
shown_fits sc s d r (Err code) vs h = absurd cc
shown_fits sc s d r (Ok x) vs h = of_fits (map (λ p. p.kind) d.outputs) (outputs d.kind (parameters sc s d r) x) vs h

-- a restart makes no entry
restarted_entries : (steps id : ℕ) (changes : List Change) (runs : ℕ) → entries input id (changes_restarted steps changes runs) ≡ entries input id changes
restarted_entries steps id changes zero = refl
restarted_entries steps id changes (suc runs) = restarted_entries steps id changes runs

some_known : (id : ℕ) (changes : List Change) (vrs : List ℕ) (j vr : ℕ) → reverse (entries input id changes) ≡ vrs → slice_get vrs j ≡ Some vr → has_id input id changes ≡ true
some_known id changes vrs j vr e g =
    let long : length (entries input id changes) ≡ length vrs = sym (length-reverse (entries input id changes)) ∙ ap length e in
    let within = slice_get_within vrs j vr g in
    let some : 1 ≤ length (entries input id changes) = omega (arith, long, within) in
    grind (arith, nat_tests, some)

-- what an input takes its values from is the wire's sender
sender_of_wire : (v : Wire) (p : Pair) → option_map (λ (w : Wire). record { from = w.from; to = w.out }) (Some v) ≡ Some p → (v.from ≡ p.from) × (v.out ≡ p.to)
sender_of_wire v p e = let same : record { from = v.from; to = v.out } ≡ p = cc in (ap (λ (x : Pair). x.from) same, ap (λ (x : Pair). x.to) same)

module _ (sc : Scenario) (s : ℕ) (d : SlaveDesc) (of : IsScenarioSlave sc s d) (rows : List (List ℤ)) (each : EachRow sc rows) (r k : ℕ) (w : WiringState) (runs : ℕ) (wiring : w.changes ≡ changes_restarted sc.steps (planned_changes sc s d) runs)
    (feed : (id : ℕ) → has_id input id (planned_changes sc s d) ≡ true → (kept : Kept) × (kept_under id w.kept ≡ Some kept) × IsShownBy sc rows r k id kept) where
  abbrev Planned : List Change
  Planned = planned_changes sc s d

  own_entries : (id : ℕ) → entries input id w.changes ≡ entries input id Planned
  own_entries id = ap (entries input id) wiring ∙ restarted_entries sc.steps id Planned runs

  own_spot : (vr : ℕ) → spot vr w.changes ≡ spot vr Planned
  own_spot vr = ap (spot vr) wiring ∙ restarted_spot sc.steps vr Planned runs

  -- ---- a link that comes, and what is kept under its id
  module _ (l : DataLink) (is : IsLinkTo sc s d l) (kept : Kept) (h : IsShownBy sc rows r k l.id kept) where
    abbrev a : ℕ
    a = sender_of sc l.id

    abbrev c : SlaveDesc
    c = h.sender

    from_here : l.from ≡ a
    from_here = sym (ap from_of is.found)

    sends : IsScenarioSlave sc a c
    sends = record { sound = of.sound; slave = h.is }

    abbrev ps : List Pair
    ps = positions sc.wires l.from l.to

    all_joined : AllByRecursion (IsJoined d.inputs c.outputs) ps
    all_joined =
        each_weaker (λ (p : Pair). is_wire sc.wires l.from l.to p ≡ true) (IsJoined d.inputs c.outputs)
        (λ p g. joined sc.slaves sc.wires l.from l.to c d (each_from_all (λ (v : Wire). IsWire sc.slaves v) sc.wires of.sound.wires) (ap (slave_at sc.slaves) from_here ∙ h.is) (ap (slave_at sc.slaves) is.to ∙ of.slave) p g)
        ps (each_passes (is_wire sc.wires l.from l.to) (pairs_from 0 8 0 8))

    sent_entries : reverse (entries output l.id (planned_changes sc a c)) ≡ references (ports_out c.outputs ps)
    sent_entries = is.outputs a c sends from_here

    types : types_in d.inputs (entries input l.id w.changes) ≡ types_in c.outputs (entries output l.id (planned_changes sc a c))
    types =
        ap (types_in d.inputs) (own_entries l.id)
        ∙ ap (map (λ vr. port_type (port_with vr d.inputs))) is.inputs
        ∙ same_types d.inputs c.outputs (slave_there sc.slaves s d of.sound.slaves of.slave).desc.inputs_apart (slave_there sc.slaves a c of.sound.slaves h.is).desc.outputs_apart ps all_joined
        ∙ sym (ap (map (λ vr. port_type (port_with vr c.outputs))) sent_entries)

    -- the values of the payload are its sender's outputs at the positions
    values_are : cut_values (types_in d.inputs (entries input l.id w.changes)) kept.payload ≡ map (λ vr. output_value vr c.outputs h.values) (references (ports_out c.outputs ps))
    values_are =
        ap (λ ts. cut_values ts kept.payload) types
        ∙ ap (cut_values (types_in c.outputs (entries output l.id (planned_changes sc a c)))) h.carries
        ∙ read_back c l.id (planned_changes sc a c) h.values (shown_fits sc a c r (state sc rows a c r (sent_step sc l.id k)) h.values h.shows)
        ∙ ap (map (λ vr. output_value vr c.outputs h.values)) sent_entries

    module _ (j : ℕ) (p : Pair) (place : slice_get ps j ≡ Some p) where
      here : IsJoined d.inputs c.outputs p
      here = each_got (IsJoined d.inputs c.outputs) ps j p all_joined place

      value_is : slice_index_or (cut_values (types_in d.inputs (entries input l.id w.changes)) kept.payload) j (pos 0) ≡ slice_index_or h.values p.from (pos 0)
      value_is =
          let desc = (slave_there sc.slaves a c of.sound.slaves h.is).desc in
          let count : length h.values ≡ length c.outputs = shown_length sc a c r (state sc rows a c r (sent_step sc l.id k)) h.values h.shows in
          ap (λ vs. slice_index_or vs j (pos 0)) values_are
          ∙ read_map (λ vr. output_value vr c.outputs h.values) (references (ports_out c.outputs ps)) j here.output.vr (pos 0) (output_at_place d.inputs c.outputs ps j p here.output all_joined place here.out)
          ∙ value_read c.outputs p.from here.output h.values (pairwise_from_all (λ (x y : Port). x.vr ≢ y.vr) c.outputs desc.outputs_apart) here.out count

      -- which stand in the row
      row_is : slice_index_or (slice_index_or rows (row_index sc.steps r (sent_step sc l.id k)) []) (column sc.slaves l.from p.from) (pos 0) ≡ slice_index_or h.values p.from (pos 0)
      row_is =
          let got = slave_got sc.slaves a c h.is in
          let whole = slice_index_or rows (row_index sc.steps r (sent_step sc l.id k)) [] in
          ap (λ n. slice_index_or whole (column sc.slaves n p.from) (pos 0)) from_here
          ∙ have_parts sc of.sound rows r (sent_step sc l.id k) whole (each r (sent_step sc l.id k) h.moment h.exists) a c got.0 got.1 h.values h.shows p.from (slice_get_within c.outputs p.from here.output here.out)

      -- and there the reference reads them
      read_is : (v : Wire) → v.from ≡ l.from → v.to ≡ l.to → v.out ≡ p.from → read sc rows r k (Some v) ≡ slice_index_or h.values p.from (pos 0)
      read_is v f t o =
          let q : interval sc.every v.from v.to ≡ interval_of sc l.id = ap (λ n. interval sc.every n v.to) f ∙ ap (interval sc.every l.from) t ∙ sym is.every ∙ sym (ap link_interval is.found) in
          ap (λ n. slice_index_or (slice_index_or rows (row_index sc.steps r (n * (k / n))) []) (column sc.slaves v.from v.out) (pos 0)) q
          ∙ ap (λ n. slice_index_or (slice_index_or rows (row_index sc.steps r (sent_step sc l.id k)) []) (column sc.slaves n v.out) (pos 0)) f
          ∙ ap (λ n. slice_index_or (slice_index_or rows (row_index sc.steps r (sent_step sc l.id k)) []) (column sc.slaves l.from n) (pos 0)) o
          ∙ row_is

  -- ---- an input
  module _ (i : ℕ) (q : Port) (there : slice_get d.inputs i ≡ Some q) where
    abbrev At : Spot → Type 0
    At e = IsReadAt (IsLinkTo sc s d) sc d q.vr e

    at_spot : (e : Spot) → spot q.vr Planned ≡ Some e → At e
    at_spot e g = spot_read sc s d q.vr (IsLinkTo sc s d) (all_links_to sc s d of) e g

    -- the port of its position is this one
    same_place : (e : Spot) (h : At e) → h.pair.to ≡ i
    same_place e h = by (h.pair.to == i) refl
      where
        by : (b : Bool) → (h.pair.to == i) ≡ b → h.pair.to ≡ i
        by true t = eqb-true h.pair.to i t
        by false t =
            let other : h.pair.to ≢ i = grind (arith, nat_tests, t) in
            let differ = ports_differ d.inputs h.pair.to i h.port q (slave_there sc.slaves s d of.sound.slaves of.slave).desc.inputs_apart h.there there other in
            let named = h.named in
            absurd (grind (arith, nat_tests, differ, named))

    fed_is : (e : Spot) (h : At e) → fed_by sc.wires s i ≡ Some (record { from = h.link.from; to = h.pair.from })
    fed_is e h =
        let l = h.link in
        let one = pairwise_from_all (λ (x y : Wire). same_input x y ≡ false) sc.wires of.sound.one_wire in
        let passes = each_got (λ (p : Pair). is_wire sc.wires l.from l.to p ≡ true) (positions sc.wires l.from l.to) e.position h.pair (each_passes (is_wire sc.wires l.from l.to) (pairs_from 0 8 0 8)) h.place in
        sym (ap (λ n. fed_by sc.wires n i) h.has.to) ∙ sym (ap (fed_by sc.wires l.to) (same_place e h)) ∙ fed_from sc.wires l.from l.to h.pair one passes

    has_entries : (e : Spot) (h : At e) → has_id input h.link.id Planned ≡ true
    has_entries e h =
        let l = h.link in
        let ps = positions sc.wires l.from l.to in
        let wires = each_from_all (λ (v : Wire). IsWire sc.slaves v) sc.wires of.sound.wires in
        let some = inputs_there sc.slaves sc.wires l.from l.to d (pairs_from 0 8 0 8) wires (ap (slave_at sc.slaves) h.has.to ∙ of.slave) in
        let at = slice_get-map (λ (z : Port). z.vr) (ports_into d.inputs ps) e.position ∙ ap (option_map (λ (z : Port). z.vr)) (chosen_at (λ (p : Pair). slice_get d.inputs p.to) ps e.position h.pair some h.place ∙ h.there) in
        some_known l.id Planned (references (ports_into d.inputs ps)) e.position h.port.vr h.has.inputs at

    wired_value : (e : Spot) (h : At e) (v : Wire) → wire_into sc.wires s i ≡ Some v → spot_value d w (Some e) ≡ read sc rows r k (Some v)
    wired_value e h v found =
        let l = h.link in
        let ends = sender_of_wire v (record { from = l.from; to = h.pair.from }) (sym (ap (option_map (λ (x : Wire). record { from = x.from; to = x.out })) found) ∙ fed_is e h) in
        let to : v.to ≡ s = eqb-true v.to s (and_parts (v.to == s) (v.into == i) (found_passes (λ (x : Wire). (x.to == s) && (x.into == i)) sc.wires v found)).0 in
        let known = has_entries e h in
        let fed = feed l.id known in
        let is = h.has in
        let value = value_is l is fed.0 fed.2 e.position h.pair h.place in
        let same : spot_value d w (Some e) ≡ slice_index_or (cut_values (types_in d.inputs (entries input l.id w.changes)) fed.0.payload) e.position (pos 0)
        = ap (λ n. value_kept (types_in d.inputs (entries input n w.changes)) e.position (kept_under n w.kept)) (sym h.id) ∙ ap (value_kept (types_in d.inputs (entries input l.id w.changes)) e.position) fed.1 in
        same ∙ value ∙ sym (read_is l is fed.0 fed.2 e.position h.pair h.place v ends.0 (to ∙ sym is.to) ends.1)

    input_is : (o : Option Spot) → spot q.vr Planned ≡ o → (x : Option Wire) → wire_into sc.wires s i ≡ x → spot_value d w o ≡ read sc rows r k x
    input_is None e None g = refl
    input_is None e (Some v) g = absurd (spot_there sc s d of i q there v g e)
    input_is (Some p) e None g = absurd (let none : fed_by sc.wires s i ≡ None = ap (option_map (λ (x : Wire). record { from = x.from; to = x.out })) g in let some = fed_is p (at_spot p e) in cc)
    input_is (Some p) e (Some v) g = wired_value p (at_spot p e) v g

  inputs_are : wired.wired_values d w ≡ reference.inputs sc rows s d r k
  inputs_are =
      map_along (wired.input_value d w) (λ i. read sc rows r k (wire_into sc.wires s i)) d.inputs 0
      (λ i q e. let same : i ≡ 0 + i = omega arith in ap (spot_value d w) (own_spot q.vr) ∙ input_is i q e (spot q.vr Planned) refl (wire_into sc.wires s i) refl ∙ ap (λ n. read sc rows r k (wire_into sc.wires s n)) same)

pub read_rows : InputsReadRows
read_rows sc s d of rows each r k w runs wiring feed = inputs_are sc s d of rows each r k w runs wiring feed
