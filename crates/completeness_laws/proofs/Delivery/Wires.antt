-- What the plan has for a data id that comes to a slave: its link, its source, and a length that its sender's payloads have.
use Rattle.std.proofs.Common.{◌≡◌, ℕ, zero, suc, ◌+◌, Bool, true, Option, Some, None, List, [], ◌∷◌, map, length, refl, sym, ap, ◌∙◌, arith, ℤ}
use Rattle.std.specs.Prelude.{◌==◌, ◌&&◌, nat_lt, is_some, reverse, sum_by}
use Rattle.std.specs.List.{AllByRecursion, filter_map, list_all}
use Rattle.std.proofs.lemmas.Bool.{eq-eqb}
use Rattle.std.proofs.lemmas.List.Sums.{sum_by-cons}
use Rattle.dcp_types.specs.Values.{width}
use Rattle.dcp_types.specs.declared.data_types.DataType.{DataType}
use Rattle.dcp_types.specs.declared.addresses.Address.{Address}
use Rattle.pdu_layout.specs.declared.messages.Cfg.{Cfg}
use Rattle.pdu_layout.specs.declared.messages.Cfg.TheVariants as cfg
use Rattle.slave_desc.specs.declared.descriptions.SlaveDesc.{SlaveDesc}
use Rattle.scenario.specs.declared.scenarios.Scenario.{Scenario}
use Rattle.scenario.specs.declared.scenarios.Wire.{Wire}
use Rattle.scenario.specs.Lookups.{slave_at}
use Rattle.scenario.specs.Sound.{IsScenario, IsWire}
use Rattle.master_spec.specs.declared.links.DataLink.{DataLink}
use Rattle.master_spec.specs.declared.pairs.Pair.{Pair}
use Rattle.master_spec.specs.Links.{pairs_from, is_wire, positions, wire_links}
use Rattle.master_spec.specs.PlanSetup.{address_at, setup_list}
use Rattle.plan_laws.specs.Taking.{IsScenarioSlave, plant_after_all}
use Rattle.plan_laws.proofs.Lists.{each_weaker, each_both, each_filter, each_passes, each_from_all}
use Rattle.plan_laws.proofs.Links.{IsWireLink, links_wired, links_to, to_here}
use Rattle.plan_laws.proofs.Planned.{slave_there}
use Rattle.plan_laws.proofs.Taken.{setup_completes}
use Rattle.master_spec.specs.Course.{payload_size}
use Rattle.slave_spec.specs.Changes.{Change, input, output, entries, has_id, ids, source, target, time_given, complete}
use Rattle.slave_spec.specs.Refusals.{port_with}
use Rattle.slave_spec.specs.Payloads.{port_type, input_types, is_address, payload}
use Rattle.slave_spec.specs.declared.words.SlaveSetup.{SlaveSetup}
use Rattle.slave_spec.specs.declared.words.Asked.TheVariants.{Setting}
use Rattle.slave_spec.specs.Plants.{Plant, start_plant}
use Rattle.slave_spec.specs.Requests.{accepted}
use Rattle.slave_laws.proofs.Model.Inputs.{among}
use Rattle.slave_laws.specs.Wiring.Wired.{changes_with, changes_after, planned_changes, changes_restarted}
use Rattle.slave_laws.specs.Wiring.Links.{data_link_of}
use Rattle.slave_laws.proofs.Wiring.Found.{wires_found}
use Rattle.slave_laws.proofs.Data.Feeding.{planned_known}
use Rattle.slave_laws.proofs.Wiring.InputLists.{each_swap, unfiltered}
use Rattle.slave_laws.proofs.Wiring.Ports.{ports_into, ports_out, references, IsJoined, joined, same_types}
use Rattle.slave_laws.proofs.Wiring.Told.{input_entries, output_entries}
use Rattle.completeness_laws.proofs.Delivery.Addresses.{right_source, planned_right}
use Rattle.completeness_laws.proofs.Delivery.Watched.{bytes_length}

-- ---- the link of an id
record IsSender (sc : Scenario) : Type 0 where
  pub slave : ℕ
  pub desc : SlaveDesc
  pub is : IsScenarioSlave sc slave desc

abbrev SendsOut : (sc : Scenario) → IsSender sc → DataLink → Type 0
SendsOut sc a l = l.from ≡ a.slave → reverse (entries output l.id (planned_changes sc a.slave a.desc)) ≡ references (ports_out a.desc.outputs (positions sc.wires l.from l.to))

pub record IsWiredTo (sc : Scenario) (s : ℕ) (d : SlaveDesc) (id : ℕ) : Type 0 where
  pub link : DataLink
  pub id_is : link.id ≡ id
  pub to : link.to ≡ s
  pub found : data_link_of sc link.id ≡ Some link
  pub wire : IsWireLink sc link
  pub inputs : reverse (entries input link.id (planned_changes sc s d)) ≡ references (ports_into d.inputs (positions sc.wires link.from link.to))
  pub outputs : (a : ℕ) (c : SlaveDesc) → IsScenarioSlave sc a c → link.from ≡ a → reverse (entries output link.id (planned_changes sc a c)) ≡ references (ports_out c.outputs (positions sc.wires link.from link.to))

module _ (sc : Scenario) (ok : IsScenario sc) where
  sends_out : (a : IsSender sc) → AllByRecursion (SendsOut sc a) (wire_links sc)
  sends_out a =
      each_weaker (λ (l : DataLink). (l.from == a.slave) ≡ true → reverse (entries output l.id (planned_changes sc a.slave a.desc)) ≡ references (ports_out a.desc.outputs (positions sc.wires l.from l.to))) (SendsOut sc a)
      (λ l f e. f (eq-eqb l.from a.slave e)) (wire_links sc)
      (unfiltered (λ (l : DataLink). reverse (entries output l.id (planned_changes sc a.slave a.desc)) ≡ references (ports_out a.desc.outputs (positions sc.wires l.from l.to))) (λ (l : DataLink). l.from == a.slave) (wire_links sc) (output_entries sc a.slave a.desc a.is))

  all_out : AllByRecursion (λ (l : DataLink). (a : IsSender sc) → SendsOut sc a l) (wire_links sc)
  all_out = each_swap (SendsOut sc) (wire_links sc) sends_out

  abbrev IsKnown : DataLink → Type 0
  IsKnown l = (data_link_of sc l.id ≡ Some l) × (IsWireLink sc l × ((a : IsSender sc) → SendsOut sc a l))

  all_known : AllByRecursion IsKnown (wire_links sc)
  all_known =
      each_both (λ (l : DataLink). data_link_of sc l.id ≡ Some l) (λ (l : DataLink). IsWireLink sc l × ((a : IsSender sc) → SendsOut sc a l)) IsKnown (λ l a b. (a, b)) (wire_links sc) (wires_found sc ok)
      (each_both (IsWireLink sc) (λ (l : DataLink). (a : IsSender sc) → SendsOut sc a l) (λ (l : DataLink). IsWireLink sc l × ((a : IsSender sc) → SendsOut sc a l)) (λ l a b. (a, b)) (wire_links sc) (links_wired sc ok) all_out)

  module _ (s : ℕ) (d : SlaveDesc) (of : IsScenarioSlave sc s d) where
    abbrev IsOwn : DataLink → Type 0
    IsOwn l = (l.to ≡ s) × (reverse (entries input l.id (planned_changes sc s d)) ≡ references (ports_into d.inputs (positions sc.wires l.from l.to)))

    own : AllByRecursion IsOwn (links_to sc s)
    own = each_both (λ (l : DataLink). l.to ≡ s) (λ (l : DataLink). reverse (entries input l.id (planned_changes sc s d)) ≡ references (ports_into d.inputs (positions sc.wires l.from l.to))) IsOwn (λ l a b. (a, b)) (links_to sc s) (to_here sc s) (input_entries sc s d of)

    each_wired : AllByRecursion (λ (l : DataLink). IsWiredTo sc s d l.id) (links_to sc s)
    each_wired =
        each_both IsOwn IsKnown (λ (l : DataLink). IsWiredTo sc s d l.id)
        (λ l a b. record { link = l; id_is = refl; to = a.0; found = b.0; wire = (b.1).0; inputs = a.1; outputs = λ i c is e. (b.1).1 (record { slave = i; desc = c; is = is }) e }) (links_to sc s)
        own (each_filter IsKnown (λ (l : DataLink). l.to == s) (wire_links sc) all_known)

    pub wired_to : (id : ℕ) → has_id input id (planned_changes sc s d) ≡ true → IsWiredTo sc s d id
    wired_to id h = planned_known sc s d (λ i. IsWiredTo sc s d i) each_wired id h

-- ---- the length of its payloads
same_size : (kinds : List DataType) → payload_size kinds ≡ sum_by width kinds
same_size [] = refl
same_size (kind ∷ kinds) = ap (λ n. width kind + n) (same_size kinds) ∙ sym (sum_by-cons width kind kinds)

restarted_entries : (steps id : ℕ) (changes : List Change) (runs : ℕ) → entries input id (changes_restarted steps changes runs) ≡ entries input id changes
restarted_entries steps id changes zero = refl
restarted_entries steps id changes (suc runs) = restarted_entries steps id changes runs

restarted_source : (steps id : ℕ) (changes : List Change) (runs : ℕ) → source id (changes_restarted steps changes runs) ≡ source id changes
restarted_source steps id changes zero = refl
restarted_source steps id changes (suc runs) = restarted_source steps id changes runs

module _ (sc : Scenario) (s : ℕ) (d : SlaveDesc) (of : IsScenarioSlave sc s d) (id : ℕ) (w : IsWiredTo sc s d id) where
  abbrev l : DataLink
  l = w.link

  module _ (a : ℕ) (c : SlaveDesc) (sends : IsScenarioSlave sc a c) (from : l.from ≡ a) where
    abbrev ps : List Pair
    ps = positions sc.wires l.from l.to

    all_joined : AllByRecursion (IsJoined d.inputs c.outputs) ps
    all_joined =
        each_weaker (λ (p : Pair). is_wire sc.wires l.from l.to p ≡ true) (IsJoined d.inputs c.outputs)
        (λ p g. joined sc.slaves sc.wires l.from l.to c d (each_from_all (λ (v : Wire). IsWire sc.slaves v) sc.wires of.sound.wires) (ap (slave_at sc.slaves) from ∙ sends.slave) (ap (slave_at sc.slaves) w.to ∙ of.slave) p g)
        ps (each_passes (is_wire sc.wires l.from l.to) (pairs_from 0 8 0 8))

    abbrev into : ℕ → DataType
    into vr = port_type (port_with vr d.inputs)

    abbrev out : ℕ → DataType
    out vr = port_type (port_with vr c.outputs)

    types : map into (reverse (entries input id (planned_changes sc s d))) ≡ map out (reverse (entries output id (planned_changes sc a c)))
    types =
        ap (λ (i : ℕ). map into (reverse (entries input i (planned_changes sc s d)))) (sym w.id_is) ∙ ap (map into) w.inputs
        ∙ same_types d.inputs c.outputs (slave_there sc.slaves s d of.sound.slaves of.slave).desc.inputs_apart (slave_there sc.slaves a c of.sound.slaves sends.slave).desc.outputs_apart ps all_joined
        ∙ sym (ap (map out) (w.outputs a c sends from)) ∙ ap (λ (i : ℕ). map out (reverse (entries output i (planned_changes sc a c)))) w.id_is

    -- its sender's payloads have the length that the slave wants
    pub wanted_length : (runs : ℕ) (changes : List Change) (values : List ℤ) → changes ≡ changes_restarted sc.steps (planned_changes sc s d) runs
        → (length (payload c id (planned_changes sc a c) values) == sum_by width (input_types d id changes)) ≡ true
    wanted_length runs changes values e =
        eq-eqb (length (payload c id (planned_changes sc a c) values)) (sum_by width (input_types d id changes))
        (bytes_length c.outputs values (reverse (entries output id (planned_changes sc a c))) ∙ same_size (map out (reverse (entries output id (planned_changes sc a c)))) ∙ ap (sum_by width) (sym types)
        ∙ ap (λ (es : List ℕ). sum_by width (map into (reverse es))) (sym (ap (entries input id) e ∙ restarted_entries sc.steps id (planned_changes sc s d) runs)))

-- ---- its source
set_changes : (x : SlaveSetup) (p : Plant) (body : Cfg) → (accepted x p (Setting body)).wires.changes ≡ changes_with body p.wires.changes
unfolding accepted
set_changes x p (cfg.Parameter vr kind value) = refl
set_changes x p (cfg.Logging category level mode) = refl
set_changes x p cfg.Clear = refl
set_changes x p (cfg.TimeRes a b) = refl
set_changes x p (cfg.Steps a b) = refl
set_changes x p (cfg.Input a b c e) = refl
set_changes x p (cfg.Output a b c) = refl
set_changes x p (cfg.Target a) = refl
set_changes x p (cfg.Source a) = refl
set_changes x p (cfg.Tunable a b c e) = refl
set_changes x p (cfg.ParamNet a b c e) = refl
set_changes x p (cfg.Scope a b) = refl

all_changes : (x : SlaveSetup) (p : Plant) (bodies : List Cfg) → (plant_after_all x p bodies).wires.changes ≡ changes_after p.wires.changes bodies
all_changes x p [] = refl
all_changes x p (body ∷ bodies) = all_changes x (accepted x p (Setting body)) bodies ∙ ap (λ cs. changes_after cs bodies) (set_changes x p body)

middle_of : (a b c : Bool) → (a && b && c) ≡ true → b ≡ true
middle_of a b c h = grind arith

some_is : (o : Option Address) → is_some o ≡ true → (a : Address) × (o ≡ Some a)
some_is None h = absurd cc
some_is (Some a) h = (a, refl)

planned_source : (sc : Scenario) (s : ℕ) (d : SlaveDesc) → IsScenarioSlave sc s d → (id : ℕ) → has_id input id (planned_changes sc s d) ≡ true → (a : Address) × (source id (planned_changes sc s d) ≡ Some a)
planned_source sc s d ok id h =
    let x : SlaveSetup = record { desc = d; micro = 1 } in
    let C = planned_changes sc s d in
    let whole : complete C ≡ true = sym (ap complete (all_changes x (start_plant x) (setup_list sc s d))) ∙ setup_completes sc s x (start_plant x) ok in
    let sources = middle_of (nat_lt 0 (length (filter_map time_given C))) (list_all (λ i. is_some (source i C)) (ids input C)) (list_all (λ i. is_some (target i C)) (ids output C)) whole in
    some_is (source id C) (among input id (λ i. is_some (source i C)) C sources h)

both : (a b : Bool) → a ≡ true → b ≡ true → (a && b) ≡ true
both a b x y = grind arith

-- what comes from the address of the link's sender is from the source
pub from_source : (sc : Scenario) (s : ℕ) (d : SlaveDesc) → IsScenarioSlave sc s d → (id : ℕ) → has_id input id (planned_changes sc s d) ≡ true → (w : IsWiredTo sc s d id) → (runs : ℕ) (changes : List Change) → changes ≡ changes_restarted sc.steps (planned_changes sc s d) runs
    → is_address (source id changes) (address_at sc (w.link).from) ≡ true
from_source sc s d of id known w runs changes e =
    let a = planned_source sc s d of id known in
    let C = planned_changes sc s d in
    let r = right_source sc C id a.0 (planned_right sc s d of 0) a.1 in
    let same : r.link ≡ w.link = let y : Some r.link ≡ Some w.link = sym r.found ∙ ap (data_link_of sc) (sym w.id_is) ∙ w.found in cc in
    let there : address_at sc (w.link).from ≡ a.0 = ap (λ (l : DataLink). address_at sc l.from) (sym same) ∙ sym r.there in
    let now : source id changes ≡ Some a.0 = ap (source id) e ∙ restarted_source sc.steps id C runs ∙ a.1 in
    ap (λ (o : Option Address). is_address o (address_at sc (w.link).from)) now ∙ ap (is_address (Some a.0)) there ∙ both (a.0.ip == a.0.ip) (a.0.port == a.0.port) (eq-eqb a.0.ip a.0.ip refl) (eq-eqb a.0.port a.0.port refl)
