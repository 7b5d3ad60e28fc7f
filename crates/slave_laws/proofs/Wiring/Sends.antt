-- A slave sends each data id of a link from it, to an address.
use Rattle.std.proofs.Common.{◌≡◌, ℕ, ◌≤◌, ◌==◌, ◌&&◌, nat_lt, Bool, true, false, if◌then◌else◌, List, [], ◌∷◌, ◌++◌, length, Option, Some, None, slice_get, refl, sym, ap, ◌∙◌, subst, arith}
use Rattle.std.specs.Prelude.{filter, find, is_some}
use Rattle.std.specs.List.{AllByRecursion, cons_option, flat_map, filter_map, list_all, range_with_len}
use Rattle.std.proofs.lemmas.Bool.{eqb-true, eq-eqb}
use Rattle.std.proofs.lemmas.Bool.Decides.{nat_tests}
use Rattle.dcp_types.specs.declared.addresses.Address.{Address}
use Rattle.pdu_layout.specs.declared.messages.Cfg.{Cfg}
use Rattle.pdu_layout.specs.declared.messages.Cfg.TheVariants as cfg
use Rattle.slave_desc.specs.declared.ports.Port.{Port}
use Rattle.slave_desc.specs.declared.descriptions.SlaveDesc.{SlaveDesc}
use Rattle.scenario.specs.declared.scenarios.Scenario.{Scenario}
use Rattle.scenario.specs.declared.scenarios.Wire.{Wire}
use Rattle.scenario.specs.Lookups.{slave_at}
use Rattle.scenario.specs.Sound.{IsWire}
use Rattle.master_spec.specs.declared.links.DataLink.{DataLink}
use Rattle.master_spec.specs.declared.pairs.Pair.{Pair}
use Rattle.master_spec.specs.Links.{pairs_from, positions, watch_link, watch_links, wire_links, links}
use Rattle.master_spec.specs.PlanSetup.{numbered, net_info, output_at, told_interval, incoming, outgoing, watched, setup_list}
use Rattle.plan_laws.specs.Taking.{IsScenarioSlave, plant_after_all}
use Rattle.plan_laws.proofs.Lists.{each_filter, each_weaker, each_both, each_append, each_always, each_map, each_flat_map, each_from_all}
use Rattle.plan_laws.proofs.Planned.{slave_there, positions_some, outputs_there}
use Rattle.plan_laws.proofs.Links.{IsWireLink, links_wired, links_to, links_of, from_here}
use Rattle.plan_laws.proofs.Taken.{setup_completes}
use Rattle.slave_spec.specs.Changes.{Change, Set, input, output, vr_for, entries, has_id, ids, source, target, time_given, complete}
use Rattle.slave_spec.specs.declared.words.SlaveSetup.{SlaveSetup}
use Rattle.slave_spec.specs.declared.words.Asked.TheVariants.{Setting}
use Rattle.slave_spec.specs.Plants.{Plant, start_plant}
use Rattle.slave_spec.specs.Requests.{accepted}
use Rattle.slave_laws.proofs.Model.Inputs.{among}
use Rattle.slave_laws.specs.Wiring.Wired.{changes_with, changes_after, planned_changes}
use Rattle.slave_laws.specs.Wiring.Links.{data_link_of, from_of, sender_of, SendersSend}
use Rattle.slave_laws.proofs.Wiring.Parts.{after_append, each_numbered}
use Rattle.slave_laws.proofs.Wiring.Planned.{first, planned_is, IsOf, told_silent, silent_of, output_of, outgoing_of, watched_of}

-- ---- a slave sends each of its ids
abbrev IsKeptBy : Cfg → Type 0
IsKeptBy body = (changes : List Change) → changes_with body changes ≡ Set body ∷ changes

known_more : (id : ℕ) (o : Option ℕ) (es : List ℕ) → nat_lt 0 (length es) ≡ true → nat_lt 0 (length (cons_option o es)) ≡ true
known_more id None es h = h
known_more id (Some e) es h = grind (arith, nat_tests)

known_after : (id : ℕ) (bodies : List Cfg) (changes : List Change) → AllByRecursion IsKeptBy bodies → has_id output id changes ≡ true → has_id output id (changes_after changes bodies) ≡ true
known_after id [] changes h k = k
known_after id (body ∷ bodies) changes h k =
    known_after id bodies (changes_with body changes) h.1 (ap (has_id output id) (h.0 changes) ∙ known_more id (vr_for id (output (Set body))) (entries output id changes) k)

known_first : (id j vr : ℕ) (changes : List Change) → has_id output id (changes_with (cfg.Output id j vr) changes) ≡ true
known_first id j vr changes = ap (λ b. nat_lt 0 (length (cons_option (if b then Some vr else None) (entries output id changes)))) (eq-eqb id id refl) ∙ some (entries output id changes)
  where
    some : (es : List ℕ) → nat_lt 0 (length (vr ∷ es)) ≡ true
    some es = grind (arith, nat_tests)

of_kept : (id : ℕ) (bodies : List Cfg) → AllByRecursion (IsOf id) bodies → AllByRecursion IsKeptBy bodies
of_kept id bodies h = each_weaker (IsOf id) IsKeptBy (λ body k. k.kept) bodies h

-- a list that begins with an entry of an output of the id
begins_known : (id j vr : ℕ) (rest : List Cfg) (changes : List Change) → AllByRecursion IsKeptBy rest → has_id output id (changes_after changes (cfg.Output id j vr ∷ rest)) ≡ true
begins_known id j vr rest changes h = known_after id rest (changes_with (cfg.Output id j vr) changes) h (known_first id j vr changes)

unfiltered : (P : DataLink → Type 0) (t : DataLink → Bool) (ls : List DataLink) → AllByRecursion P (filter t ls) → AllByRecursion (λ (l : DataLink). t l ≡ true → P l) ls
unfiltered P t [] h = tt
unfiltered P t (l ∷ ls) h = by (λ k. unfiltered P t ls k) (t l) refl h
  where
    by : (AllByRecursion P (filter t ls) → AllByRecursion (λ (l : DataLink). t l ≡ true → P l) ls) → (b : Bool) → t l ≡ b → AllByRecursion P (if b then l ∷ filter t ls else filter t ls) → AllByRecursion (λ (l : DataLink). t l ≡ true → P l) (l ∷ ls)
    by f true e k = (λ g. k.0, f k.1)
    by f false e k = (λ g. never (sym e ∙ g), f k)
      where
        never : {A : Type 0} → false ≡ true → A
        never z = absurd cc

found_one : (P : DataLink → Type 0) (id : ℕ) (ls : List DataLink) (l : DataLink) → AllByRecursion P ls → find (λ m. m.id == id) ls ≡ Some l → P l × (l.id ≡ id)
found_one P id [] l h e = absurd cc
found_one P id (m ∷ ls) l h e = by (λ k. found_one P id ls l h.1 k) (m.id == id) refl e
  where
    by : (find (λ m. m.id == id) ls ≡ Some l → P l × (l.id ≡ id)) → (b : Bool) → (m.id == id) ≡ b → (if b then Some m else find (λ m. m.id == id) ls) ≡ Some l → P l × (l.id ≡ id)
    by f true g k = let same : m ≡ l = cc in let Q : DataLink → Type 0 = λ z. P z × (z.id ≡ id) in subst Q same (h.0, eqb-true m.id id g)
    by f false g k = f k

first_there : (d : SlaveDesc) (ps : List Pair) → 1 ≤ length ps → AllByRecursion (λ (p : Pair). is_some (slice_get d.outputs p.from) ≡ true) ps → (p : Pair) × (rest : List Pair) × (port : Port) × (ps ≡ p ∷ rest) × (slice_get d.outputs p.from ≡ Some port)
first_there d [] some h = absurd (omega (arith, some))
first_there d (p ∷ ps) some h = by (slice_get d.outputs p.from) refl h.0
  where
    by : (o : Option Port) → slice_get d.outputs p.from ≡ o → is_some o ≡ true → (q : Pair) × (rest : List Pair) × (port : Port) × (p ∷ ps ≡ q ∷ rest) × (slice_get d.outputs q.from ≡ Some port)
    by None e k = absurd cc
    by (Some port) e k = (p, ps, port, refl, e)

module _ (sc : Scenario) (s : ℕ) (d : SlaveDesc) (ok : IsScenarioSlave sc s d) where
  abbrev entry : DataLink → ℕ → Pair → List Cfg
  entry l i p = output_at l.id i (slice_get d.outputs p.from)

  -- a link from here has a position
  going_known : (l : DataLink) (changes : List Change) → IsWireLink sc l → l.from ≡ s → has_id output l.id (changes_after changes (outgoing sc d l)) ≡ true
  going_known l changes w from =
      let grid = pairs_from 0 8 0 8 in
      let wires = each_from_all (λ (v : Wire). IsWire sc.slaves v) sc.wires ok.sound.wires in
      let some = positions_some sc.slaves sc.wires l.from l.to 8 8 ok.sound.slaves wires (omega arith) (omega arith) w.wired in
      let slave : slave_at sc.slaves l.from ≡ Some d = ap (slave_at sc.slaves) from ∙ ok.slave in
      let f = first_there d (positions sc.wires l.from l.to) some (outputs_there sc.slaves sc.wires l.from l.to d grid wires slave) in
      let rest = cfg.Target (net_info sc l.id l.to) ∷ told_interval l in
      let is : outgoing sc d l ≡ cfg.Output l.id 0 f.2.vr ∷ (numbered (entry l) 1 f.1 ++ rest)
      = ap (λ ps. numbered (entry l) 0 ps ++ rest) f.3 ∙ ap (λ o. (output_at l.id 0 o ++ numbered (entry l) 1 f.1) ++ rest) f.4 in
      let kept : AllByRecursion IsKeptBy (numbered (entry l) 1 f.1 ++ rest) = each_append IsKeptBy (numbered (entry l) 1 f.1) rest
      (of_kept l.id (numbered (entry l) 1 f.1) (each_numbered (IsOf l.id) (entry l) 1 f.1 (λ j p. output_of sc s l.id j (slice_get d.outputs p.from))))
      (λ cs. refl, of_kept l.id (told_interval l) (silent_of sc s l.id (told_interval l) (told_silent sc s l))) in
      let P : List Cfg → Type 0 = λ bodies. has_id output l.id (changes_after changes bodies) ≡ true in
      subst P (sym is) (begins_known l.id 0 f.2.vr (numbered (entry l) 1 f.1 ++ rest) changes kept)

  goings_known : (ls : List DataLink) (changes : List Change) → AllByRecursion (λ (l : DataLink). IsWireLink sc l × (l.from ≡ s)) ls → AllByRecursion (λ (l : DataLink). has_id output l.id (changes_after changes (flat_map (outgoing sc d) ls)) ≡ true) ls
  goings_known [] changes h = tt
  goings_known (l ∷ ls) changes h =
      let all : AllByRecursion IsKeptBy (flat_map (outgoing sc d) ls) = each_flat_map IsKeptBy (outgoing sc d) ls (each_always (λ (m : DataLink). AllByRecursion IsKeptBy (outgoing sc d m)) (λ m. of_kept m.id (outgoing sc d m) (outgoing_of sc s d m)) ls) in
      let split = after_append changes (outgoing sc d l) (flat_map (outgoing sc d) ls) in
      let here = known_after l.id (flat_map (outgoing sc d) ls) (changes_after changes (outgoing sc d l)) all (going_known l changes h.0.0 h.0.1) in (
        ap (has_id output l.id) split ∙ here,
        each_weaker (λ (m : DataLink). has_id output m.id (changes_after (changes_after changes (outgoing sc d l)) (flat_map (outgoing sc d) ls)) ≡ true) (λ (m : DataLink). has_id output m.id (changes_after changes (flat_map (outgoing sc d) (l ∷ ls))) ≡ true)
            (λ m k. ap (has_id output m.id) split ∙ k) ls (goings_known ls (changes_after changes (outgoing sc d l)) h.1),
      )

  watched_known : (changes : List Change) → has_id output s (changes_after changes (watched sc s d)) ≡ true
  watched_known changes = by d.outputs (slave_there sc.slaves s d ok.sound.slaves ok.slave).desc.few_outputs.0
    where
      f : ℕ → Port → List Cfg
      f i p = output_at s i (Some p)

      by : (ports : List Port) → 1 ≤ length ports → has_id output s (changes_after changes (numbered (λ i (p : Port). output_at s i (Some p)) 0 ports ++ cfg.Target (net_info sc s 0) ∷ [])) ≡ true
      by [] some = absurd (omega (arith, some))
      by (p ∷ ports) some = begins_known s 0 p.vr (numbered (λ i (p : Port). output_at s i (Some p)) 1 ports ++ cfg.Target (net_info sc s 0) ∷ []) changes
          (each_append IsKeptBy (numbered (λ i (p : Port). output_at s i (Some p)) 1 ports) (cfg.Target (net_info sc s 0) ∷ [])
          (of_kept s (numbered (λ i (p : Port). output_at s i (Some p)) 1 ports) (each_numbered (IsOf s) (λ i (p : Port). output_at s i (Some p)) 1 ports (λ j q. output_of sc s s j (Some q)))) (λ cs. refl, tt))

  abbrev Planned : List Change
  Planned = planned_changes sc s d

  each_known : AllByRecursion (λ (l : DataLink). l.from ≡ s → has_id output l.id Planned ≡ true) (links sc)
  each_known =
      let B = changes_after (first d) (flat_map (incoming sc d) (links_to sc s)) in
      let watches = of_kept s (watched sc s d) (watched_of sc s d) in
      let is = planned_is sc s d in
      let mine = each_both (IsWireLink sc) (λ (l : DataLink). l.from ≡ s) (λ (l : DataLink). IsWireLink sc l × (l.from ≡ s)) (λ l a b. (a, b)) (links_of sc s) (each_filter (IsWireLink sc) (λ (l : DataLink). l.from == s) (wire_links sc) (links_wired sc ok.sound)) (from_here sc s) in
      let wires = each_weaker (λ (l : DataLink). has_id output l.id (changes_after B (flat_map (outgoing sc d) (links_of sc s))) ≡ true) (λ (l : DataLink). has_id output l.id Planned ≡ true)
      (λ l k. ap (has_id output l.id) is ∙ known_after l.id (watched sc s d) (changes_after B (flat_map (outgoing sc d) (links_of sc s))) watches k) (links_of sc s) (goings_known (links_of sc s) B mine) in
      let all = each_weaker (λ (l : DataLink). (l.from == s) ≡ true → has_id output l.id Planned ≡ true) (λ (l : DataLink). l.from ≡ s → has_id output l.id Planned ≡ true) (λ l k e. k (eq-eqb l.from s e)) (wire_links sc)
      (unfiltered (λ (l : DataLink). has_id output l.id Planned ≡ true) (λ (l : DataLink). l.from == s) (wire_links sc) wires) in
      let here : has_id output s Planned ≡ true = ap (has_id output s) is ∙ watched_known (changes_after B (flat_map (outgoing sc d) (links_of sc s))) in
      let own : (k : ℕ) → k ≡ s → has_id output k Planned ≡ true = λ k e. ap (λ z. has_id output z Planned) e ∙ here in
      each_append (λ (l : DataLink). l.from ≡ s → has_id output l.id Planned ≡ true) (watch_links sc) (wire_links sc)
      (each_map (λ (l : DataLink). l.from ≡ s → has_id output l.id Planned ≡ true) watch_link (range_with_len 1 (length sc.slaves)) (each_always (λ (k : ℕ). k ≡ s → has_id output k Planned ≡ true) own (range_with_len 1 (length sc.slaves)))) all

  sends_each : (id : ℕ) → sender_of sc id ≡ s → has_id output id Planned ≡ true
  sends_each id e = by (data_link_of sc id) refl e
    where
      by : (o : Option DataLink) → data_link_of sc id ≡ o → from_of o ≡ s → has_id output id Planned ≡ true
      by None g h = absurd (omega (arith, h, (slave_there sc.slaves s d ok.sound.slaves ok.slave).first))
      by (Some l) g h = let f = found_one (λ (m : DataLink). m.from ≡ s → has_id output m.id Planned ≡ true) id (links sc) l each_known g in ap (λ z. has_id output z Planned) (sym f.1) ∙ f.0 h

-- ---- and to an address
set_changes : (x : SlaveSetup) (p : Plant) (body : Cfg) → (accepted x p (Setting body)).wires.changes ≡ changes_with body p.wires.changes
unfolding accepted
set_changes x p (cfg.Parameter vr kind value) = refl
set_changes x p (cfg.Logging category level mode) = refl
set_changes x p cfg.Clear = refl
set_changes x p (cfg.TimeRes a b) = refl
set_changes x p (cfg.Steps a b) = refl
set_changes x p (cfg.Input a b c e) = refl
set_changes x p (cfg.Output a b c) = refl
set_changes x p (cfg.Target a) = refl
set_changes x p (cfg.Source a) = refl
set_changes x p (cfg.Tunable a b c e) = refl
set_changes x p (cfg.ParamNet a b c e) = refl
set_changes x p (cfg.Scope a b) = refl

all_changes : (x : SlaveSetup) (p : Plant) (bodies : List Cfg) → (plant_after_all x p bodies).wires.changes ≡ changes_after p.wires.changes bodies
all_changes x p [] = refl
all_changes x p (body ∷ bodies) = all_changes x (accepted x p (Setting body)) bodies ∙ ap (λ cs. changes_after cs bodies) (set_changes x p body)

last_of : (a b c : Bool) → (a && b && c) ≡ true → c ≡ true
last_of a b c h = grind arith

some_is : (o : Option Address) → is_some o ≡ true → (to : Address) × (o ≡ Some to)
some_is None h = absurd cc
some_is (Some to) h = (to, refl)

planned_targets : (sc : Scenario) (s : ℕ) (d : SlaveDesc) → IsScenarioSlave sc s d → (id : ℕ) → has_id output id (planned_changes sc s d) ≡ true → (to : Address) × (target id (planned_changes sc s d) ≡ Some to)
planned_targets sc s d ok id h =
    let x : SlaveSetup = record { desc = d; micro = 1 } in
    let C = planned_changes sc s d in
    let whole : complete C ≡ true = sym (ap complete (all_changes x (start_plant x) (setup_list sc s d))) ∙ setup_completes sc s x (start_plant x) ok in
    let targets = last_of (nat_lt 0 (length (filter_map time_given C))) (list_all (λ i. is_some (source i C)) (ids input C)) (list_all (λ i. is_some (target i C)) (ids output C)) whole in
    some_is (target id C) (among output id (λ i. is_some (target i C)) C targets h)

pub each_sends : SendersSend
each_sends sc s d ok id e = let h = sends_each sc s d ok id e in (h, planned_targets sc s d ok id h)
