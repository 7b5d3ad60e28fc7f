-- The wiring of a setup list is taken whole, and is complete then.
use Rattle.std.proofs.Common.{◌≡◌, ◌≢◌, ℕ, ◌<◌, ◌≤◌, true, false, eqb, List, [], ◌∷◌, ◌++◌, length, get_or, map, refl, ap, sym, ◌∙◌, subst, arith, Option, Some, None}
use Rattle.std.specs.Prelude.{◌==◌, nat_lt, filter, slice_get, is_some}
use Rattle.std.specs.List.{AllByRecursion, filter_map, flat_map, list_all}
use Rattle.std.proofs.lemmas.Bool.Decides.{nat_tests}
use Rattle.std.proofs.lemmas.List.{append-nil, length-append, length-map}
use Rattle.std.proofs.lemmas.Grind.{flat_map-append}
use Rattle.std.proofs.lemmas.Option.{slice_get-get_or}
use Rattle.dcp_types.specs.declared.data_types.DataType.{DataType}
use Rattle.pdu_layout.specs.declared.messages.Cfg.{Cfg}
use Rattle.pdu_layout.specs.declared.messages.Cfg.TheVariants as cfg
use Rattle.pdu_layout.specs.declared.messages.NetInfo.{NetInfo}
use Rattle.slave_desc.specs.Descriptions.{IsDesc}
use Rattle.slave_desc.specs.declared.ports.Port.{Port}
use Rattle.slave_desc.specs.declared.descriptions.SlaveDesc.{SlaveDesc}
use Rattle.scenario.specs.declared.scenarios.Wire.{Wire}
use Rattle.scenario.specs.declared.scenarios.Scenario.{Scenario}
use Rattle.scenario.specs.Lookups.{slave_at}
use Rattle.scenario.specs.Wiring.{same_input}
use Rattle.scenario.specs.Sound.{IsScenario, IsWire}
use Rattle.master_spec.specs.declared.links.DataLink.{DataLink}
use Rattle.master_spec.specs.declared.pairs.Pair.{Pair}
use Rattle.master_spec.specs.Links.{pairs_from, is_wire, wire_links, watch_link}
use Rattle.master_spec.specs.PlanSetup.{net_info, numbered, input_at, output_at, incoming, outgoing, watched, told_interval}
use Rattle.slave_spec.specs.Changes.{Change, Set, newest_change, ascending, input, output, source, target, vr_for, time_given, complete, ids, entries, source_given, target_given}
use Rattle.slave_spec.specs.Refusals.{port_with}
use Rattle.plan_laws.specs.Taking.{IsScenarioSlave}
use Rattle.plan_laws.proofs.Lists.{Pairwise, each_weaker, each_both, each_filter, each_from_all, each_append, each_map, each_always, each_flat_map, pairwise_filter, pairwise_weaker, pairwise_append, pairwise_from_all, pairwise_map}
use Rattle.plan_laws.proofs.Told.{AreTold, onto, told_append, onto_append, silent, kept, all_ids, id_of}
use Rattle.plan_laws.proofs.Entries.{IsFree}
use Rattle.plan_laws.proofs.Parts.{Part, IsPart, come, go, each_come, each_go, AreApart, IsInputPart, IsOutputPart, IsNewIn, IsNewOut, AreSourced, AreTargeted, all_come_told, all_come_sourced, all_go_told, all_go_targeted}
use Rattle.plan_laws.proofs.Pairs.{IsWithin, pairs_within, pairs_ascend}
use Rattle.plan_laws.proofs.Ports.{each_chosen, pairwise_chosen, all_chosen, port_found, ports_differ, inputs_are, outputs_are, watched_are}
use Rattle.plan_laws.proofs.Planned.{IsThere, slave_there, positions_some, positions_few, positions_apart, positions_fed, fed_once, IsFed, inputs_there, outputs_there}
use Rattle.plan_laws.proofs.Links.{IsWireLink, IsLinkBefore, links_wired, links_ordered, links_to, links_of, to_here, from_here, HaveTwoSenders, senders_apart, few_receivers, transport_taken}

there : (sc : Scenario) (s : ℕ) (d : SlaveDesc) → IsScenarioSlave sc s d → IsThere sc.slaves s d
there sc s d h = slave_there sc.slaves s d h.sound.slaves h.slave

one_wire : (sc : Scenario) → IsScenario sc → Pairwise (λ (v w : Wire). same_input v w ≡ false) sc.wires
one_wire sc h = pairwise_from_all (λ (v w : Wire). same_input v w ≡ false) sc.wires h.one_wire

wires_there : (sc : Scenario) → IsScenario sc → AllByRecursion (λ (w : Wire). IsWire sc.slaves w) sc.wires
wires_there sc h = each_from_all (λ (w : Wire). IsWire sc.slaves w) sc.wires h.wires

-- ---- data that comes, with the grid of the ports as it may be

abbrev pub at_positions : Scenario → (m n : ℕ) → DataLink → List Pair
at_positions sc m n l = filter (is_wire sc.wires l.from l.to) (pairs_from 0 m 0 n)

abbrev pub in_part : Scenario → SlaveDesc → (m n : ℕ) → DataLink → Part
in_part sc d m n l = record { link = l; ports = filter_map (λ (p : Pair). slice_get d.inputs p.to) (at_positions sc m n l); net = net_info sc l.id l.from }

abbrev pub out_part : Scenario → SlaveDesc → (m n : ℕ) → DataLink → Part
out_part sc d m n l = record { link = l; ports = filter_map (λ (p : Pair). slice_get d.outputs p.from) (at_positions sc m n l); net = net_info sc l.id l.to }

record IsComing (sc : Scenario) (d : SlaveDesc) (l : DataLink) : Type 0 where
  link : IsWireLink sc l
  slave : slave_at sc.slaves l.to ≡ Some d

record IsGoing (sc : Scenario) (d : SlaveDesc) (l : DataLink) : Type 0 where
  link : IsWireLink sc l
  slave : slave_at sc.slaves l.from ≡ Some d

coming_told : (sc : Scenario) (d : SlaveDesc) (m n : ℕ) (l : DataLink) → IsScenario sc → IsComing sc d l
    → numbered (λ i (p : Pair). input_at l.id i (slice_get d.inputs p.to)) 0 (at_positions sc m n l) ++ (cfg.Source (net_info sc l.id l.from) ∷ told_interval l) ≡ come (in_part sc d m n l)
coming_told sc d m n l h c =
    ap (λ (xs : List Cfg). xs ++ (cfg.Source (net_info sc l.id l.from) ∷ told_interval l))
    (inputs_are l.id 0 d.inputs (at_positions sc m n l) (inputs_there sc.slaves sc.wires l.from l.to d (pairs_from 0 m 0 n) (wires_there sc h) c.slave))

differ_at : (d : SlaveDesc) → IsDesc d → (x y : Pair) → eqb x.to y.to ≡ false → (q r : Port) → slice_get d.inputs x.to ≡ Some q → slice_get d.inputs y.to ≡ Some r → eqb q.vr r.vr ≡ false
differ_at d desc x y e q r f g = let other : x.to ≢ y.to = grind (arith, nat_tests, e) in ports_differ d.inputs x.to y.to q r desc.inputs_apart f g other

coming_part : (sc : Scenario) (d : SlaveDesc) (m n : ℕ) (l : DataLink) → 8 ≤ m → 8 ≤ n → IsScenario sc → IsDesc d → IsComing sc d l → IsInputPart (in_part sc d m n l)
coming_part sc d m n l hm hn h desc c =
    let get : Pair → Option Port = λ (p : Pair). slice_get d.inputs p.to in
    let ps : List Pair = at_positions sc m n l in
    let grid : List Pair = pairs_from 0 m 0 n in (
      record {
        some = omega (arith, all_chosen get ps (inputs_there sc.slaves sc.wires l.from l.to d grid (wires_there sc h) c.slave), positions_some sc.slaves sc.wires l.from l.to m n h.slaves (wires_there sc h) hm hn c.link.wired);
        same = refl;
        transport = transport_taken sc.protocol;
        interval = c.link.interval;
      },
      pairwise_chosen get (λ (q r : Port). eqb q.vr r.vr ≡ false) ps
          (pairwise_weaker (λ (p : Pair). Unit {0}) (λ (x y : Pair). eqb x.to y.to ≡ false) (λ (x y : Pair). (q r : Port) → get x ≡ Some q → get y ≡ Some r → eqb q.vr r.vr ≡ false) (λ x y u v e. differ_at d desc x y e) ps
          (each_always (λ (p : Pair). Unit {0}) (λ p. tt) ps) (positions_apart sc.wires l.from l.to grid (one_wire sc h) (pairs_ascend 0 m 0 n))),
    )

-- inputs that two slaves feed
two_fed : (sc : Scenario) (d : SlaveDesc) (s from from' : ℕ) (x y : Pair) → IsDesc d → from ≢ from' → IsFed sc.wires from s x → IsFed sc.wires from' s y → (q r : Port) → slice_get d.inputs x.to ≡ Some q → slice_get d.inputs y.to ≡ Some r → eqb q.vr r.vr ≡ false
two_fed sc d s from from' x y desc other f g q r e k =
    let apart : x.to ≢ y.to = λ same. other (fed_once sc.wires s from from' x y f g same).0 in
    ports_differ d.inputs x.to y.to q r desc.inputs_apart e k apart

coming_apart : (sc : Scenario) (d : SlaveDesc) (s m n : ℕ) (l r : DataLink) → IsScenario sc → IsDesc d → l.to ≡ s → r.to ≡ s → HaveTwoSenders l r → AreApart (in_part sc d m n l) (in_part sc d m n r)
coming_apart sc d s m n l r h desc a b two =
    let get : Pair → Option Port = λ (p : Pair). slice_get d.inputs p.to in
    let grid : List Pair = pairs_from 0 m 0 n in
    let fed : AllByRecursion (IsFed sc.wires l.from s) (at_positions sc m n l) = subst (λ (t : ℕ). AllByRecursion (IsFed sc.wires l.from t) (at_positions sc m n l)) a (positions_fed sc.wires l.from l.to grid (one_wire sc h)) in
    let fed' : AllByRecursion (IsFed sc.wires r.from s) (at_positions sc m n r) = subst (λ (t : ℕ). AllByRecursion (IsFed sc.wires r.from t) (at_positions sc m n r)) b (positions_fed sc.wires r.from r.to grid (one_wire sc h)) in (
      two.apart,
      each_chosen get (λ (y : Port). AllByRecursion (λ (x : Port). eqb x.vr y.vr ≡ false) (filter_map get (at_positions sc m n l))) (at_positions sc m n r)
          (each_weaker (IsFed sc.wires r.from s) (λ (p : Pair). (y : Port) → get p ≡ Some y → AllByRecursion (λ (x : Port). eqb x.vr y.vr ≡ false) (filter_map get (at_positions sc m n l)))
          (λ p g y e. each_chosen get (λ (x : Port). eqb x.vr y.vr ≡ false) (at_positions sc m n l)
          (each_weaker (IsFed sc.wires l.from s) (λ (o : Pair). (x : Port) → get o ≡ Some x → eqb x.vr y.vr ≡ false) (λ o f x k. two_fed sc d s l.from r.from o p desc two.senders f g x y k e) (at_positions sc m n l) fed))
          (at_positions sc m n r) fed'),
    )

coming_new : (sc : Scenario) (d : SlaveDesc) (m n numerator denominator : ℕ) (l : DataLink) → IsDesc d → IsNewIn d (Set (cfg.TimeRes numerator denominator) ∷ []) (in_part sc d m n l)
coming_new sc d m n numerator denominator l desc = record {
  entries_none = refl;
  source_none = refl;
  free = each_chosen (λ (p : Pair). slice_get d.inputs p.to) (IsFree d (Set (cfg.TimeRes numerator denominator) ∷ [])) (at_positions sc m n l)
      (each_always (λ (p : Pair). (q : Port) → slice_get d.inputs p.to ≡ Some q → IsFree d (Set (cfg.TimeRes numerator denominator) ∷ []) q) (λ p q e. (port_found d.inputs p.to q desc.inputs_apart e, refl)) (at_positions sc m n l));
}

-- ---- data that goes

going_told : (sc : Scenario) (d : SlaveDesc) (m n : ℕ) (l : DataLink) → IsScenario sc → IsGoing sc d l
    → numbered (λ i (p : Pair). output_at l.id i (slice_get d.outputs p.from)) 0 (at_positions sc m n l) ++ (cfg.Target (net_info sc l.id l.to) ∷ told_interval l) ≡ go (out_part sc d m n l)
going_told sc d m n l h c =
    ap (λ (xs : List Cfg). xs ++ (cfg.Target (net_info sc l.id l.to) ∷ told_interval l))
    (outputs_are l.id 0 d.outputs (at_positions sc m n l) (outputs_there sc.slaves sc.wires l.from l.to d (pairs_from 0 m 0 n) (wires_there sc h) c.slave))

going_part : (sc : Scenario) (d : SlaveDesc) (m n : ℕ) (l : DataLink) → 8 ≤ m → n ≡ 8 → IsScenario sc → IsDesc d → IsGoing sc d l → IsOutputPart d (out_part sc d m n l)
going_part sc d m n l hm hn h desc c =
    let get : Pair → Option Port = λ (p : Pair). slice_get d.outputs p.from in
    let ps : List Pair = at_positions sc m n l in
    let grid : List Pair = pairs_from 0 m 0 n in
    let same : length (filter_map get ps) ≡ length ps = all_chosen get ps (outputs_there sc.slaves sc.wires l.from l.to d grid (wires_there sc h) c.slave) in
    let below : AllByRecursion (λ (p : Pair). p.to < 8) grid = each_weaker (IsWithin 0 m 0 n) (λ (p : Pair). p.to < 8) (λ p k. omega (arith, k.to.1, hn)) grid (pairs_within 0 m 0 n) in
    record {
      part = record {
        some = omega (arith, same, positions_some sc.slaves sc.wires l.from l.to m n h.slaves (wires_there sc h) hm (omega (arith, hn)) c.link.wired);
        same = refl;
        transport = transport_taken sc.protocol;
        interval = c.link.interval;
      };
      few = omega (arith, same, positions_few sc.wires l.from l.to 8 grid (one_wire sc h) (pairs_ascend 0 m 0 n) below);
      there = each_chosen get (λ (q : Port). port_with q.vr d.outputs ≡ Some q) ps (each_always (λ (p : Pair). (q : Port) → get p ≡ Some q → port_with q.vr d.outputs ≡ Some q) (λ p q e. port_found d.outputs p.from q desc.outputs_apart e) ps);
    }

abbrev pub watch_part : Scenario → (s : ℕ) → SlaveDesc → Part
watch_part sc s d = record { link = watch_link s; ports = d.outputs; net = net_info sc s 0 }

watch_is_part : (sc : Scenario) (s : ℕ) (d : SlaveDesc) → IsDesc d → IsOutputPart d (watch_part sc s d)
watch_is_part sc s d desc = record {
  part = record { some = desc.few_outputs.0; same = refl; transport = transport_taken sc.protocol; interval = (omega arith, omega arith) };
  few = desc.few_outputs.1;
  there = each_from_all (λ (q : Port). port_with q.vr d.outputs ≡ Some q) d.outputs (λ k e below. port_found d.outputs k (get_or d.outputs k e) desc.outputs_apart (slice_get-get_or d.outputs k e below));
}

watch_told : (sc : Scenario) (s : ℕ) (d : SlaveDesc) → watched sc s d ≡ go (watch_part sc s d)
watch_told sc s d = ap (λ (xs : List Cfg). xs ++ (cfg.Target (net_info sc s 0) ∷ [])) (watched_are s 0 d.outputs)

-- ---- all data ids of a slave

flat_map_parts : {A : Type 0} (f : A → List Cfg) (part : A → Part) (tell : Part → List Cfg) (xs : List A) → AllByRecursion (λ x. f x ≡ tell (part x)) xs → flat_map f xs ≡ flat_map tell (map part xs)
flat_map_parts f part tell [] h = refl
flat_map_parts f part tell (x ∷ xs) h = ap (λ (l : List Cfg). l ++ flat_map f xs) h.0 ∙ ap (λ (l : List Cfg). tell (part x) ++ l) (flat_map_parts f part tell xs h.1)

all_coming : (sc : Scenario) (s : ℕ) (d : SlaveDesc) → IsScenarioSlave sc s d → AllByRecursion (IsComing sc d) (links_to sc s)
all_coming sc s d h =
    each_both (IsWireLink sc) (λ (l : DataLink). l.to ≡ s) (IsComing sc d) (λ l w e. record { link = w; slave = ap (slave_at sc.slaves) e ∙ h.slave }) (links_to sc s)
    (each_filter (IsWireLink sc) (λ (l : DataLink). l.to == s) (wire_links sc) (links_wired sc h.sound)) (to_here sc s)

all_going : (sc : Scenario) (s : ℕ) (d : SlaveDesc) → IsScenarioSlave sc s d → AllByRecursion (IsGoing sc d) (links_of sc s)
all_going sc s d h =
    each_both (IsWireLink sc) (λ (l : DataLink). l.from ≡ s) (IsGoing sc d) (λ l w e. record { link = w; slave = ap (slave_at sc.slaves) e ∙ h.slave }) (links_of sc s)
    (each_filter (IsWireLink sc) (λ (l : DataLink). l.from == s) (wire_links sc) (links_wired sc h.sound)) (from_here sc s)

-- the parts of what comes, and of what goes with the watch data last
abbrev pub in_parts : Scenario → (s : ℕ) → SlaveDesc → (m n : ℕ) → List Part
in_parts sc s d m n = map (in_part sc d m n) (links_to sc s)

abbrev pub out_parts : Scenario → (s : ℕ) → SlaveDesc → (m n : ℕ) → List Part
out_parts sc s d m n = map (out_part sc d m n) (links_of sc s) ++ watch_part sc s d ∷ []

in_parts_are : (sc : Scenario) (s : ℕ) (d : SlaveDesc) (m n : ℕ) → 8 ≤ m → 8 ≤ n → IsScenarioSlave sc s d → AllByRecursion IsInputPart (in_parts sc s d m n)
in_parts_are sc s d m n hm hn h =
    each_map IsInputPart (in_part sc d m n) (links_to sc s)
    (each_weaker (IsComing sc d) (λ (l : DataLink). IsInputPart (in_part sc d m n l)) (λ l c. coming_part sc d m n l hm hn h.sound (there sc s d h).desc c) (links_to sc s) (all_coming sc s d h))

in_parts_apart : (sc : Scenario) (s : ℕ) (d : SlaveDesc) (m n : ℕ) → IsScenarioSlave sc s d → Pairwise AreApart (in_parts sc s d m n)
in_parts_apart sc s d m n h =
    pairwise_map AreApart (in_part sc d m n) (links_to sc s)
    (pairwise_weaker (λ (l : DataLink). l.to ≡ s) HaveTwoSenders (λ (l r : DataLink). AreApart (in_part sc d m n l) (in_part sc d m n r))
    (λ l r a b two. coming_apart sc d s m n l r h.sound (there sc s d h).desc a b two) (links_to sc s) (to_here sc s) (senders_apart sc s))

in_parts_new : (sc : Scenario) (s : ℕ) (d : SlaveDesc) (m n numerator denominator : ℕ) → IsScenarioSlave sc s d → AllByRecursion (IsNewIn d (Set (cfg.TimeRes numerator denominator) ∷ [])) (in_parts sc s d m n)
in_parts_new sc s d m n numerator denominator h =
    each_map (IsNewIn d (Set (cfg.TimeRes numerator denominator) ∷ [])) (in_part sc d m n) (links_to sc s)
    (each_always (λ (l : DataLink). IsNewIn d (Set (cfg.TimeRes numerator denominator) ∷ []) (in_part sc d m n l)) (λ l. coming_new sc d m n numerator denominator l (there sc s d h).desc) (links_to sc s))

out_parts_are : (sc : Scenario) (s : ℕ) (d : SlaveDesc) (m n : ℕ) → 8 ≤ m → n ≡ 8 → IsScenarioSlave sc s d → AllByRecursion (IsOutputPart d) (out_parts sc s d m n)
out_parts_are sc s d m n hm hn h =
    each_append (IsOutputPart d) (map (out_part sc d m n) (links_of sc s)) (watch_part sc s d ∷ [])
    (each_map (IsOutputPart d) (out_part sc d m n) (links_of sc s)
    (each_weaker (IsGoing sc d) (λ (l : DataLink). IsOutputPart d (out_part sc d m n l)) (λ l c. going_part sc d m n l hm hn h.sound (there sc s d h).desc c) (links_of sc s) (all_going sc s d h)))
    (watch_is_part sc s d (there sc s d h).desc, tt)

out_parts_apart : (sc : Scenario) (s : ℕ) (d : SlaveDesc) (m n : ℕ) → IsScenarioSlave sc s d → Pairwise (λ (p r : Part). eqb p.link.id r.link.id ≡ false) (out_parts sc s d m n)
out_parts_apart sc s d m n h =
    let apart : Part → Part → Type 0 = λ (p r : Part). eqb p.link.id r.link.id ≡ false in
    let small : s ≤ 16 = omega (arith, (there sc s d h).last, h.sound.few_slaves.1) in
    pairwise_append apart (map (out_part sc d m n) (links_of sc s)) (watch_part sc s d ∷ [])
    (pairwise_map apart (out_part sc d m n) (links_of sc s)
    (pairwise_weaker (λ (l : DataLink). Unit {0}) IsLinkBefore (λ (l r : DataLink). eqb l.id r.id ≡ false) (λ l r x y b. b.apart) (links_of sc s)
    (each_always (λ (l : DataLink). Unit {0}) (λ l. tt) (links_of sc s)) (pairwise_filter IsLinkBefore (λ (l : DataLink). l.from == s) (wire_links sc) (links_ordered sc))))
    (tt, tt)
    (each_map (λ (p : Part). AllByRecursion (apart p) (watch_part sc s d ∷ [])) (out_part sc d m n) (links_of sc s)
    (each_weaker (IsGoing sc d) (λ (l : DataLink). AllByRecursion (apart (out_part sc d m n l)) (watch_part sc s d ∷ [])) (λ l c. (let far : 17 ≤ l.id = c.link.id in grind (arith, nat_tests, far, small), tt)) (links_of sc s) (all_going sc s d h)))

out_parts_few : (sc : Scenario) (s : ℕ) (d : SlaveDesc) (m n : ℕ) → IsScenarioSlave sc s d → length (out_parts sc s d m n) ≤ 17
out_parts_few sc s d m n h =
    omega (arith, length-append (map (out_part sc d m n) (links_of sc s)) (watch_part sc s d ∷ []), length-map (links_of sc s) (out_part sc d m n), few_receivers sc s h.sound)

-- ---- the parts one after the other

each_all_come : (P : Cfg → Type 0) (ps : List Part) → ((id j vr : ℕ) (kind : DataType) → P (cfg.Input id j vr kind)) → ((net : NetInfo) → P (cfg.Source net)) → ((id q : ℕ) → P (cfg.Steps id q)) → AllByRecursion P (flat_map come ps)
each_all_come P ps f g h =
    each_flat_map P come ps (each_always (λ (p : Part). AllByRecursion P (come p)) (λ p. each_come P p (each_always (λ (q : Port). (j : ℕ) → P (cfg.Input p.link.id j q.vr q.kind)) (λ q j. f p.link.id j q.vr q.kind) p.ports) (g p.net) (h p.link.id p.link.every)) ps)

each_all_go : (P : Cfg → Type 0) (ps : List Part) → ((id j vr : ℕ) → P (cfg.Output id j vr)) → ((net : NetInfo) → P (cfg.Target net)) → ((id q : ℕ) → P (cfg.Steps id q)) → AllByRecursion P (flat_map go ps)
each_all_go P ps f g h =
    each_flat_map P go ps (each_always (λ (p : Part). AllByRecursion P (go p)) (λ p. each_go P p (λ j vr. f p.link.id j vr) (g p.net) (h p.link.id p.link.every)) ps)

no_outputs : {A : Type 0} (f : Change → Option A) (ps : List Part) (changes : List Change) → ((id j vr : ℕ) (kind : DataType) → f (Set (cfg.Input id j vr kind)) ≡ None) → ((net : NetInfo) → f (Set (cfg.Source net)) ≡ None) → ((id q : ℕ) → f (Set (cfg.Steps id q)) ≡ None)
    → filter_map f (onto (flat_map come ps) changes) ≡ filter_map f changes
no_outputs f ps changes a b c = silent f (flat_map come ps) changes (each_all_come (λ (body : Cfg). f (Set body) ≡ None) ps a b c)

no_inputs : {A : Type 0} (f : Change → Option A) (ps : List Part) (changes : List Change) → ((id j vr : ℕ) → f (Set (cfg.Output id j vr)) ≡ None) → ((net : NetInfo) → f (Set (cfg.Target net)) ≡ None) → ((id q : ℕ) → f (Set (cfg.Steps id q)) ≡ None)
    → filter_map f (onto (flat_map go ps) changes) ≡ filter_map f changes
no_inputs f ps changes a b c = silent f (flat_map go ps) changes (each_all_go (λ (body : Cfg). f (Set body) ≡ None) ps a b c)

-- what is told of all data ids after a resolution
pub record AreParts (d : SlaveDesc) (changes : List Change) (ins outs : List Part) : Type 0 where
  pub inputs : AllByRecursion IsInputPart ins
  pub inputs_apart : Pairwise AreApart ins
  pub inputs_new : AllByRecursion (IsNewIn d changes) ins
  pub outputs : AllByRecursion (IsOutputPart d) outs
  pub outputs_apart : Pairwise (λ (p r : Part). eqb p.link.id r.link.id ≡ false) outs
  pub outputs_few : length outs ≤ 17

parts_told : (d : SlaveDesc) (a b : ℕ) (ins outs : List Part) → AreParts d (Set (cfg.TimeRes a b) ∷ []) ins outs → AreTold d (Set (cfg.TimeRes a b) ∷ []) (flat_map come ins ++ flat_map go outs)
parts_told d a b ins outs h =
    let first : List Change = Set (cfg.TimeRes a b) ∷ [] in
    let then : List Change = onto (flat_map come ins) first in
    let none : (id : ℕ) → entries output id then ≡ [] = λ id. no_outputs (λ change. vr_for id (output change)) ins first (λ _ _ _ _. refl) (λ _. refl) (λ _ _. refl) in
    let unsaid : (id : ℕ) → target id then ≡ None = λ id. ap newest_change (no_outputs (target_given id) ins first (λ _ _ _ _. refl) (λ _. refl) (λ _ _. refl)) in
    let no_ids : ids output then ≡ [] = ap ascending (no_outputs (id_of output) ins first (λ _ _ _ _. refl) (λ _. refl) (λ _ _. refl)) in
    told_append d first (flat_map come ins) (flat_map go outs) (all_come_told d first ins h.inputs h.inputs_apart h.inputs_new)
    (all_go_told d then outs h.outputs h.outputs_apart (omega (arith, ap length no_ids, h.outputs_few))
    (each_always (IsNewOut then) (λ p. record { entries_none = none p.link.id; target_none = unsaid p.link.id }) outs))

parts_complete : (d : SlaveDesc) (a b : ℕ) (ins outs : List Part) → AreParts d (Set (cfg.TimeRes a b) ∷ []) ins outs → complete (onto (flat_map come ins ++ flat_map go outs) (Set (cfg.TimeRes a b) ∷ [])) ≡ true
parts_complete d a b ins outs h =
    let first : List Change = Set (cfg.TimeRes a b) ∷ [] in
    let then : List Change = onto (flat_map come ins) first in
    let last : List Change = onto (flat_map go outs) then in
    let sourced : AreSourced then = all_come_sourced first ins (each_weaker IsInputPart IsPart (λ p x. x.0) ins h.inputs) (λ id e. absurd cc) in
    let unchanged : (id : ℕ) → entries input id last ≡ entries input id then = λ id. no_inputs (λ change. vr_for id (input change)) outs then (λ _ _ _. refl) (λ _. refl) (λ _ _. refl) in
    let unmoved : (id : ℕ) → source id last ≡ source id then = λ id. ap newest_change (no_inputs (source_given id) outs then (λ _ _ _. refl) (λ _. refl) (λ _ _. refl)) in
    let none : (id : ℕ) → entries output id then ≡ [] = λ id. no_outputs (λ change. vr_for id (output change)) ins first (λ _ _ _ _. refl) (λ _. refl) (λ _ _. refl) in
    let targeted : AreTargeted last = all_go_targeted d then outs h.outputs (λ id e. absurd (let z : nat_lt 0 (length (entries output id then)) ≡ false = ap (λ (xs : List ℕ). nat_lt 0 (length xs)) (none id) in cc)) in
    let time : nat_lt 0 (length (filter_map time_given last)) ≡ true = kept time_given (flat_map go outs) then (kept time_given (flat_map come ins) first refl) in
    let is_sourced : list_all (λ id. is_some (source id last)) (ids input last) ≡ true =
    all_ids input (λ id. is_some (source id last)) last (λ id e. ap is_some (unmoved id) ∙ sourced id (ap (λ (xs : List ℕ). nat_lt 0 (length xs)) (sym (unchanged id)) ∙ e)) in
    let is_targeted : list_all (λ id. is_some (target id last)) (ids output last) ≡ true = all_ids output (λ id. is_some (target id last)) last targeted in
    ap complete (onto_append (flat_map come ins) (flat_map go outs) first) ∙ rw (time, is_sourced, is_targeted) refl

-- ---- the lists of the plan

comes_as : (sc : Scenario) (s : ℕ) (d : SlaveDesc) → IsScenarioSlave sc s d → flat_map (incoming sc d) (links_to sc s) ≡ flat_map come (in_parts sc s d 8 8)
comes_as sc s d h =
    flat_map_parts (incoming sc d) (in_part sc d 8 8) come (links_to sc s)
    (each_weaker (IsComing sc d) (λ (l : DataLink). incoming sc d l ≡ come (in_part sc d 8 8 l)) (λ l c. coming_told sc d 8 8 l h.sound c) (links_to sc s) (all_coming sc s d h))

goes_as : (sc : Scenario) (s : ℕ) (d : SlaveDesc) → IsScenarioSlave sc s d → flat_map (outgoing sc d) (links_of sc s) ≡ flat_map go (map (out_part sc d 8 8) (links_of sc s))
goes_as sc s d h =
    flat_map_parts (outgoing sc d) (out_part sc d 8 8) go (links_of sc s)
    (each_weaker (IsGoing sc d) (λ (l : DataLink). outgoing sc d l ≡ go (out_part sc d 8 8 l)) (λ l c. going_told sc d 8 8 l h.sound c) (links_of sc s) (all_going sc s d h))

-- what is told of all data ids of a slave
abbrev pub wiring_list : Scenario → (s : ℕ) → SlaveDesc → List Cfg
wiring_list sc s d = flat_map (incoming sc d) (links_to sc s) ++ (flat_map (outgoing sc d) (links_of sc s) ++ watched sc s d)

goes_whole : (sc : Scenario) (s : ℕ) (d : SlaveDesc) → IsScenarioSlave sc s d → flat_map (outgoing sc d) (links_of sc s) ++ watched sc s d ≡ flat_map go (out_parts sc s d 8 8)
goes_whole sc s d h =
    let outs : List Part = map (out_part sc d 8 8) (links_of sc s) in
    ap (λ (l : List Cfg). l ++ watched sc s d) (goes_as sc s d h)
    ∙ ap (λ (l : List Cfg). flat_map go outs ++ l) (watch_told sc s d ∙ sym (append-nil (go (watch_part sc s d))))
    ∙ sym (flat_map-append go outs (watch_part sc s d ∷ []))

wiring_is : (sc : Scenario) (s : ℕ) (d : SlaveDesc) → IsScenarioSlave sc s d → wiring_list sc s d ≡ flat_map come (in_parts sc s d 8 8) ++ flat_map go (out_parts sc s d 8 8)
wiring_is sc s d h =
    ap (λ (l : List Cfg). l ++ (flat_map (outgoing sc d) (links_of sc s) ++ watched sc s d)) (comes_as sc s d h)
    ∙ ap (λ (l : List Cfg). flat_map come (in_parts sc s d 8 8) ++ l) (goes_whole sc s d h)

are_parts : (sc : Scenario) (s : ℕ) (d : SlaveDesc) (m n a b : ℕ) → 8 ≤ m → n ≡ 8 → IsScenarioSlave sc s d → AreParts d (Set (cfg.TimeRes a b) ∷ []) (in_parts sc s d m n) (out_parts sc s d m n)
are_parts sc s d m n a b hm hn h = record {
  inputs = in_parts_are sc s d m n hm (omega (arith, hn)) h;
  inputs_apart = in_parts_apart sc s d m n h;
  inputs_new = in_parts_new sc s d m n a b h;
  outputs = out_parts_are sc s d m n hm hn h;
  outputs_apart = out_parts_apart sc s d m n h;
  outputs_few = out_parts_few sc s d m n h;
}

-- after the resolution the wiring is told whole
pub wiring_told : (sc : Scenario) (s : ℕ) (d : SlaveDesc) (a b : ℕ) → IsScenarioSlave sc s d → AreTold d (Set (cfg.TimeRes a b) ∷ []) (wiring_list sc s d)
wiring_told sc s d a b h =
    subst (AreTold d (Set (cfg.TimeRes a b) ∷ [])) (sym (wiring_is sc s d h)) (parts_told d a b (in_parts sc s d 8 8) (out_parts sc s d 8 8) (are_parts sc s d 8 8 a b (omega arith) refl h))

-- and is complete then
pub wiring_complete : (sc : Scenario) (s : ℕ) (d : SlaveDesc) (a b : ℕ) → IsScenarioSlave sc s d → complete (onto (wiring_list sc s d) (Set (cfg.TimeRes a b) ∷ [])) ≡ true
wiring_complete sc s d a b h =
    ap (λ (l : List Cfg). complete (onto l (Set (cfg.TimeRes a b) ∷ []))) (wiring_is sc s d h) ∙ parts_complete d a b (in_parts sc s d 8 8) (out_parts sc s d 8 8) (are_parts sc s d 8 8 a b (omega arith) refl h)
