-- What feeds a slave is of a link from a slave, and each interval is at least one step.
use Rattle.std.proofs.Common.{◌≡◌, ℕ, ◌<◌, ◌==◌, ◌&&◌, ◌||◌, Bool, true, false, if◌then◌else◌, List, [], ◌∷◌, length, Option, Some, None, slice_get, refl, sym, ap, ◌∙◌, subst, arith}
use Rattle.std.specs.Prelude.{nat_lt, find}
use Rattle.std.specs.List.{AllByRecursion, cons_option, flat_map, list_any, range_with_len}
use Rattle.std.proofs.lemmas.Bool.{eqb-true, and_parts}
use Rattle.pdu_layout.specs.declared.messages.Cfg.{Cfg}
use Rattle.pdu_layout.specs.declared.messages.Cfg.TheVariants as cfg
use Rattle.slave_desc.specs.declared.ports.Port.{Port}
use Rattle.slave_desc.specs.declared.descriptions.SlaveDesc.{SlaveDesc}
use Rattle.scenario.specs.declared.scenarios.Scenario.{Scenario}
use Rattle.scenario.specs.declared.scenarios.Wire.{Wire}
use Rattle.scenario.specs.Sound.{IsSlave, IsWire, IsScenario}
use Rattle.master_spec.specs.declared.links.DataLink.{DataLink}
use Rattle.master_spec.specs.declared.pairs.Pair.{Pair}
use Rattle.master_spec.specs.Links.{positions, watch_link, watch_links, wire_links, links}
use Rattle.master_spec.specs.PlanSetup.{numbered, net_info, input_at, output_at, told_interval, incoming, outgoing, watched}
use Rattle.plan_laws.proofs.Lists.{each_filter, each_weaker, each_both, each_append, each_always, each_map, each_from_all}
use Rattle.plan_laws.proofs.Links.{IsWireLink, links_wired, links_to, links_of}
use Rattle.slave_spec.specs.Changes.{Change, Set, input, vr_for, entries, has_id}
use Rattle.slave_laws.specs.Wiring.Wired.{changes_with, changes_after, planned_changes}
use Rattle.slave_laws.specs.Wiring.Links.{data_link_of, link_interval, from_of, interval_of, sender_of}
use Rattle.slave_laws.proofs.Wiring.Found.{wires_found}
use Rattle.slave_laws.proofs.Wiring.Parts.{after_append, each_numbered}
use Rattle.slave_laws.proofs.Wiring.Planned.{first, planned_is}

-- ---- intervals
found_has : (P : DataLink → Type 0) (id : ℕ) (ls : List DataLink) (l : DataLink) → AllByRecursion P ls → find (λ m. m.id == id) ls ≡ Some l → P l
found_has P id [] l h e = absurd cc
found_has P id (m ∷ ls) l h e = by (λ k. found_has P id ls l h.1 k) (m.id == id) e
  where
    by : (find (λ m. m.id == id) ls ≡ Some l → P l) → (b : Bool) → (if b then Some m else find (λ m. m.id == id) ls) ≡ Some l → P l
    by f true k = let same : m ≡ l = cc in let Q : DataLink → Type 0 = P in subst Q same h.0
    by f false k = f k

each_spaced : (sc : Scenario) → IsScenario sc → AllByRecursion (λ (l : DataLink). 0 < l.every) (links sc)
each_spaced sc ok =
    each_append (λ (l : DataLink). 0 < l.every) (watch_links sc) (wire_links sc)
    (each_map (λ (l : DataLink). 0 < l.every) watch_link (range_with_len 1 (length sc.slaves)) (each_always (λ (k : ℕ). 0 < 1) (λ k. omega arith) (range_with_len 1 (length sc.slaves))))
    (each_weaker (IsWireLink sc) (λ (l : DataLink). 0 < l.every) (λ l k. let e = k.interval.0 in omega (arith, e)) (wire_links sc) (links_wired sc ok))

pub some_interval : (sc : Scenario) → IsScenario sc → (id : ℕ) → 0 < interval_of sc id
some_interval sc ok id = by (data_link_of sc id) refl
  where
    by : (o : Option DataLink) → data_link_of sc id ≡ o → 0 < link_interval o
    by None e = omega arith
    by (Some l) e = found_has (λ (m : DataLink). 0 < m.every) id (links sc) l (each_spaced sc ok) e

-- ---- what comes to a slave
pub record IsIn (id : ℕ) (body : Cfg) : Type 0 where
  pub kept : (changes : List Change) → changes_with body changes ≡ Set body ∷ changes
  pub silent : (other : ℕ) → (id == other) ≡ false → vr_for other (input (Set body)) ≡ None

pub record IsNone (body : Cfg) : Type 0 where
  pub kept : (changes : List Change) → changes_with body changes ≡ Set body ∷ changes
  pub silent : (other : ℕ) → vr_for other (input (Set body)) ≡ None

not_it : (b : Bool) (vr : ℕ) → b ≡ false → (if b then Some vr else None) ≡ None
not_it true vr e = absurd cc
not_it false vr e = refl

module _ (F : ℕ → Type 0) where
  abbrev AreKnown : List Change → Type 0
  AreKnown changes = (id : ℕ) → has_id input id changes ≡ true → F id

  one_known : (id : ℕ) (body : Cfg) (changes : List Change) → IsIn id body → F id → AreKnown changes → AreKnown (changes_with body changes)
  one_known id body changes is own j other h = by (id == other) refl
    where
      here : has_id input other (Set body ∷ changes) ≡ true
      here = sym (ap (has_id input other) (is.kept changes)) ∙ h

      by : (b : Bool) → (id == other) ≡ b → F other
      by true e = let P : ℕ → Type 0 = F in subst P (eqb-true id other e) own
      by false e = j other (sym (ap (λ o. nat_lt 0 (length (cons_option o (entries input other changes)))) (is.silent other e)) ∙ here)

  all_known : (id : ℕ) (bodies : List Cfg) (changes : List Change) → AllByRecursion (IsIn id) bodies → F id → AreKnown changes → AreKnown (changes_after changes bodies)
  all_known id [] changes is own j = j
  all_known id (body ∷ bodies) changes is own j = all_known id bodies (changes_with body changes) is.1 own (one_known id body changes is.0 own j)

  none_known : (bodies : List Cfg) (changes : List Change) → AllByRecursion IsNone bodies → AreKnown changes → AreKnown (changes_after changes bodies)
  none_known [] changes is j = j
  none_known (body ∷ bodies) changes is j = none_known bodies (changes_with body changes) is.1 (λ other h. j other (sym (ap (λ o. nat_lt 0 (length (cons_option o (entries input other changes)))) ((is.0).silent other)) ∙ (sym (ap (has_id input other) ((is.0).kept changes)) ∙ h)))

told_none : (l : DataLink) → AllByRecursion IsNone (told_interval l)
told_none l = by (l.every == 1)
  where
    by : (b : Bool) → AllByRecursion IsNone (if b then [] else cfg.Steps l.id l.every ∷ [])
    by true = tt
    by false = (record { kept = λ changes. refl; silent = λ other. refl }, tt)

in_of : (id : ℕ) (bodies : List Cfg) → AllByRecursion IsNone bodies → AllByRecursion (IsIn id) bodies
in_of id bodies h = each_weaker IsNone (IsIn id) (λ body k. record { kept = k.kept; silent = λ other e. k.silent other }) bodies h

input_in : (id j : ℕ) (o : Option Port) → AllByRecursion (IsIn id) (input_at id j o)
input_in id j None = tt
input_in id j (Some p) = (record { kept = λ changes. refl; silent = λ other e. not_it (id == other) p.vr e }, tt)

output_none : (id j : ℕ) (o : Option Port) → AllByRecursion IsNone (output_at id j o)
output_none id j None = tt
output_none id j (Some p) = (record { kept = λ changes. refl; silent = λ other. refl }, tt)

module _ (sc : Scenario) (s : ℕ) (d : SlaveDesc) where
  incoming_in : (l : DataLink) → AllByRecursion (IsIn l.id) (incoming sc d l)
  incoming_in l = each_append (IsIn l.id) (numbered (λ i (p : Pair). input_at l.id i (slice_get d.inputs p.to)) 0 (positions sc.wires l.from l.to)) (cfg.Source (net_info sc l.id l.from) ∷ told_interval l)
      (each_numbered (IsIn l.id) (λ i (p : Pair). input_at l.id i (slice_get d.inputs p.to)) 0 (positions sc.wires l.from l.to) (λ j p. input_in l.id j (slice_get d.inputs p.to))) (record { kept = λ changes. refl; silent = λ other e. refl }, in_of l.id (told_interval l) (told_none l))

  outgoing_none : (l : DataLink) → AllByRecursion IsNone (outgoing sc d l)
  outgoing_none l = each_append IsNone (numbered (λ i (p : Pair). output_at l.id i (slice_get d.outputs p.from)) 0 (positions sc.wires l.from l.to)) (cfg.Target (net_info sc l.id l.to) ∷ told_interval l)
      (each_numbered IsNone (λ i (p : Pair). output_at l.id i (slice_get d.outputs p.from)) 0 (positions sc.wires l.from l.to) (λ j p. output_none l.id j (slice_get d.outputs p.from))) (record { kept = λ changes. refl; silent = λ other. refl }, told_none l)

  watched_none : AllByRecursion IsNone (watched sc s d)
  watched_none = each_append IsNone (numbered (λ i (p : Port). output_at s i (Some p)) 0 d.outputs) (cfg.Target (net_info sc s 0) ∷ [])
      (each_numbered IsNone (λ i (p : Port). output_at s i (Some p)) 0 d.outputs (λ j p. output_none s j (Some p))) (record { kept = λ changes. refl; silent = λ other. refl }, tt)

  module _ (F : ℕ → Type 0) where
    comings_known : (ls : List DataLink) (changes : List Change) → AllByRecursion (λ (l : DataLink). F l.id) ls → AreKnown F changes → AreKnown F (changes_after changes (flat_map (incoming sc d) ls))
    comings_known [] changes own j = j
    comings_known (l ∷ ls) changes own j = let P : List Change → Type 0 = AreKnown F in subst P (sym (after_append changes (incoming sc d l) (flat_map (incoming sc d) ls))) (comings_known ls (changes_after changes (incoming sc d l)) own.1 (all_known F l.id (incoming sc d l) changes (incoming_in l) own.0 j))

    goings_known : (ls : List DataLink) (changes : List Change) → AreKnown F changes → AreKnown F (changes_after changes (flat_map (outgoing sc d) ls))
    goings_known [] changes j = j
    goings_known (l ∷ ls) changes j = let P : List Change → Type 0 = AreKnown F in subst P (sym (after_append changes (outgoing sc d l) (flat_map (outgoing sc d) ls))) (goings_known ls (changes_after changes (outgoing sc d l)) (none_known F (outgoing sc d l) changes (outgoing_none l) j))

    -- what holds of each id of a link to the slave holds of each id that comes to it
    pub planned_known : AllByRecursion (λ (l : DataLink). F l.id) (links_to sc s) → AreKnown F (planned_changes sc s d)
    planned_known own =
        let a = comings_known (links_to sc s) (first d) own (λ id h. absurd cc) in
        let b = goings_known (links_of sc s) (changes_after (first d) (flat_map (incoming sc d) (links_to sc s))) a in
        let c = none_known F (watched sc s d) (changes_after (changes_after (first d) (flat_map (incoming sc d) (links_to sc s))) (flat_map (outgoing sc d) (links_of sc s))) watched_none b in
        let P : List Change → Type 0 = AreKnown F in
        subst P (sym (planned_is sc s d)) c

-- ---- and a link comes from a slave
wire_from : (slaves : List SlaveDesc) (from to : ℕ) (wires : List Wire) → AllByRecursion (λ (w : Wire). IsWire slaves w) wires → list_any (λ (w : Wire). (w.from == from) && (w.to == to)) wires ≡ true → IsSlave slaves from
wire_from slaves from to [] h e = absurd cc
wire_from slaves from to (w ∷ wires) h e = by (λ k. wire_from slaves from to wires h.1 k) ((w.from == from) && (w.to == to)) refl e
  where
    by : (list_any (λ (v : Wire). (v.from == from) && (v.to == to)) wires ≡ true → IsSlave slaves from) → (b : Bool) → ((w.from == from) && (w.to == to)) ≡ b → (b || list_any (λ (v : Wire). (v.from == from) && (v.to == to)) wires) ≡ true → IsSlave slaves from
    by g true f k = let P : ℕ → Type 0 = IsSlave slaves in subst P (eqb-true w.from from (and_parts (w.from == from) (w.to == to) f).0) (h.0).from
    by g false f k = g k

pub fed_by_slaves : (sc : Scenario) → IsScenario sc → (s : ℕ) (d : SlaveDesc) (id : ℕ) → has_id input id (planned_changes sc s d) ≡ true → IsSlave sc.slaves (sender_of sc id)
fed_by_slaves sc ok s d id h = planned_known sc s d F (each_filter (λ (l : DataLink). F l.id) (λ (l : DataLink). l.to == s) (wire_links sc) wires) id h
  where
    F : ℕ → Type 0
    F i = IsSlave sc.slaves (sender_of sc i)

    one : (l : DataLink) → IsWireLink sc l → data_link_of sc l.id ≡ Some l → F l.id
    one l w e = let P : ℕ → Type 0 = IsSlave sc.slaves in subst P (sym (ap from_of e)) (wire_from sc.slaves l.from l.to sc.wires (each_from_all (λ (v : Wire). IsWire sc.slaves v) sc.wires ok.wires) w.wired)

    wires : AllByRecursion (λ (l : DataLink). F l.id) (wire_links sc)
    wires = each_both (IsWireLink sc) (λ (l : DataLink). data_link_of sc l.id ≡ Some l) (λ (l : DataLink). F l.id) one (wire_links sc) (links_wired sc ok) (wires_found sc ok)
