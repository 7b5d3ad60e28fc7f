-- Where an input stands by the setup list of a plan: its data id, and its position there.
use Rattle.std.proofs.Common.{◌≡◌, ℕ, zero, suc, ◌+◌, ◌<◌, ◌≤◌, ◌==◌, ◌||◌, Bool, true, false, if◌then◌else◌, List, [], ◌∷◌, ◌++◌, length, Option, Some, None, refl, sym, ap, ◌∙◌, subst, arith}
use Rattle.std.specs.Prelude.{◌&&◌, nat_lt, filter, slice_get, is_some}
use Rattle.std.specs.List.{AllByRecursion, cons_option, filter_map, flat_map, list_any}
use Rattle.std.proofs.lemmas.Bool.{eqb-true, eq-eqb, and_parts}
use Rattle.std.proofs.lemmas.Bool.Decides.{nat_tests}
use Rattle.std.proofs.lemmas.Option.{slice_get_within}
use Rattle.pdu_layout.specs.declared.messages.Cfg.{Cfg}
use Rattle.pdu_layout.specs.declared.messages.Cfg.TheVariants as cfg
use Rattle.slave_desc.specs.Descriptions.{IsDesc}
use Rattle.slave_desc.specs.declared.ports.Port.{Port}
use Rattle.slave_desc.specs.declared.descriptions.SlaveDesc.{SlaveDesc}
use Rattle.scenario.specs.declared.scenarios.Scenario.{Scenario}
use Rattle.scenario.specs.declared.scenarios.Wire.{Wire}
use Rattle.scenario.specs.Lookups.{slave_at, inputs_in, outputs_in, inputs_at, outputs_at}
use Rattle.scenario.specs.Sound.{IsSlave, IsWire}
use Rattle.scenario.specs.Wiring.{wire_into}
use Rattle.master_spec.specs.declared.links.DataLink.{DataLink}
use Rattle.master_spec.specs.declared.pairs.Pair.{Pair}
use Rattle.master_spec.specs.Links.{pairs_from, is_wired_pair, wired_pairs, is_wire, positions, links_from, wire_links}
use Rattle.master_spec.specs.PlanSetup.{numbered, net_info, input_at, told_interval, incoming, outgoing, watched}
use Rattle.plan_laws.specs.Taking.{IsScenarioSlave}
use Rattle.plan_laws.proofs.Lists.{each_weaker, each_both, each_always, each_append, each_flat_map, each_from_all}
use Rattle.plan_laws.proofs.Told.{onto, kept}
use Rattle.plan_laws.proofs.Pairs.{some_of_pairs}
use Rattle.plan_laws.proofs.Ports.{inputs_are}
use Rattle.plan_laws.proofs.Planned.{slave_there, inputs_there}
use Rattle.plan_laws.proofs.Entries.{inputs_under}
use Rattle.plan_laws.proofs.Links.{links_to, links_of, to_here}
use Rattle.slave_spec.specs.Changes.{Change, Set, Restart, newest_change}
use Rattle.slave_spec.specs.Payloads.{Spot, spot_given, spot}
use Rattle.slave_laws.specs.Wiring.Wired.{planned_changes, changes_restarted}
use Rattle.slave_laws.proofs.Wiring.Planned.{first}
use Rattle.slave_laws.proofs.Wiring.InputLists.{chosen_cons, or_right, any_left, any_right, any_part, any_of_both, any_filter, any_weaker, found_passes, found_any, found_has}
use Rattle.slave_laws.proofs.Wiring.Ports.{ports_into}
use Rattle.slave_laws.proofs.Wiring.Told.{each_incoming, each_outgoing, each_watched, coming, going, told_bodies, planned_onto}

-- ---- what is chosen of the changes after settings
each_onto : {A : Type 0} (f : Change → Option A) (Q : A → Type 0) (bodies : List Cfg) (base : List Change) → AllByRecursion (λ body. (y : A) → f (Set body) ≡ Some y → Q y) bodies → AllByRecursion Q (filter_map f base) → AllByRecursion Q (filter_map f (onto bodies base))
each_onto f Q [] base h k = k
each_onto f Q (body ∷ bodies) base h k = each_onto f Q bodies (Set body ∷ base) h.1 (chosen_cons (f (Set body)) Q (filter_map f base) h.0 k)

newest_has : {A : Type 0} (Q : A → Type 0) (xs : List A) (y : A) → AllByRecursion Q xs → newest_change xs ≡ Some y → Q y
newest_has Q [] y h e = absurd cc
newest_has {A} Q (x ∷ xs) y h e = let same : x ≡ y = cc in let P : A → Type 0 = Q in subst P same h.0

newest_some : {A : Type 0} (xs : List A) → nat_lt 0 (length xs) ≡ true → newest_change xs ≡ None → ⊥
newest_some [] h e = cc
newest_some (x ∷ xs) h e = cc

some_onto : {A : Type 0} (f : Change → Option A) (bodies : List Cfg) (base : List Change) → list_any (λ body. is_some (f (Set body))) bodies ≡ true → nat_lt 0 (length (filter_map f (onto bodies base))) ≡ true
some_onto f [] base h = absurd cc
some_onto {A} f (body ∷ bodies) base h = by (λ k. some_onto f bodies (Set body ∷ base) k) (f (Set body)) refl h
  where
    more : (y : A) (ys : List A) → nat_lt 0 (length (y ∷ ys)) ≡ true
    more y ys = grind (arith, nat_tests)

    by : (list_any (λ x. is_some (f (Set x))) bodies ≡ true → nat_lt 0 (length (filter_map f (onto bodies (Set body ∷ base)))) ≡ true) → (o : Option A) → f (Set body) ≡ o → (is_some o || list_any (λ x. is_some (f (Set x))) bodies) ≡ true
        → nat_lt 0 (length (filter_map f (onto bodies (Set body ∷ base)))) ≡ true
    by g None e k = g k
    by g (Some y) e k = kept f bodies (Set body ∷ base) (ap (λ o. nat_lt 0 (length (cons_option o (filter_map f base)))) e ∙ more y (filter_map f base))

-- a restart gives no input its place
pub restarted_spot : (steps vr : ℕ) (changes : List Change) (runs : ℕ) → spot vr (changes_restarted steps changes runs) ≡ spot vr changes
restarted_spot steps vr changes zero = refl
restarted_spot steps vr changes (suc runs) = restarted_spot steps vr changes runs

-- ---- where it stands
-- it is an input at a position of a link to the slave
pub record IsReadAt (F : DataLink → Type 0) (sc : Scenario) (d : SlaveDesc) (vr : ℕ) (e : Spot) : Type 0 where
  pub link : DataLink
  pub has : F link
  pub id : link.id ≡ e.id
  pub pair : Pair
  pub place : slice_get (positions sc.wires link.from link.to) e.position ≡ Some pair
  pub port : Port
  pub there : slice_get d.inputs pair.to ≡ Some port
  pub named : port.vr ≡ vr

module _ (sc : Scenario) (s : ℕ) (d : SlaveDesc) (vr : ℕ) (F : DataLink → Type 0) where
  abbrev Reads : Cfg → Type 0
  Reads body = (e : Spot) → spot_given vr (Set body) ≡ Some e → IsReadAt F sc d vr e

  input_reads : (l : DataLink) → F l → (j : ℕ) (p : Pair) → slice_get (positions sc.wires l.from l.to) j ≡ Some p → (o : Option Port) → slice_get d.inputs p.to ≡ o → AllByRecursion Reads (input_at l.id j o)
  input_reads l f j p g None there = tt
  input_reads l f j p g (Some q) there = (λ e h. by (q.vr == vr) refl e h, tt)
    where
      by : (b : Bool) → (q.vr == vr) ≡ b → (e : Spot) → (if b then Some (record { id = l.id; position = j }) else None) ≡ Some e → IsReadAt F sc d vr e
      by false t e h = absurd cc
      by true t e h =
          let same : record { id = l.id; position = j } ≡ e = cc in
          let P : Spot → Type 0 = IsReadAt F sc d vr in
          subst P same (record { link = l; has = f; id = refl; pair = p; place = g; port = q; there = there; named = eqb-true q.vr vr t })

  incoming_reads : (l : DataLink) → F l → AllByRecursion Reads (incoming sc d l)
  incoming_reads l f = each_incoming sc Reads (λ id q e h. absurd cc) d l (λ j p g. input_reads l f j p g (slice_get d.inputs p.to) refl) (λ net e h. absurd cc)

  bodies_read : AllByRecursion F (links_to sc s) → AllByRecursion Reads (told_bodies sc s d)
  bodies_read h =
      each_append Reads (coming sc s d) (going sc s d ++ watched sc s d)
      (each_flat_map Reads (incoming sc d) (links_to sc s) (each_weaker F (λ (l : DataLink). AllByRecursion Reads (incoming sc d l)) (λ l f. incoming_reads l f) (links_to sc s) h))
      (each_append Reads (going sc s d) (watched sc s d)
      (each_flat_map Reads (outgoing sc d) (links_of sc s) (each_always (λ (l : DataLink). AllByRecursion Reads (outgoing sc d l)) (λ l. each_outgoing sc Reads (λ id q e k. absurd cc) d l (λ j r e k. absurd cc) (λ net e k. absurd cc)) (links_of sc s)))
      (each_watched sc Reads (λ id q e k. absurd cc) s d (λ j r e k. absurd cc) (λ net e k. absurd cc)))

  -- a place that the plan gives is one of a link to the slave
  pub spot_read : AllByRecursion F (links_to sc s) → (e : Spot) → spot vr (planned_changes sc s d) ≡ Some e → IsReadAt F sc d vr e
  spot_read h e g =
      newest_has (IsReadAt F sc d vr) (filter_map (spot_given vr) (onto (told_bodies sc s d) (first d))) e
      (each_onto (spot_given vr) (IsReadAt F sc d vr) (told_bodies sc s d) (first d) (bodies_read h) tt)
      (sym (ap (spot vr) (planned_onto sc s d)) ∙ g)

-- ---- each wired input stands somewhere
both : (a b : Bool) → a ≡ true → b ≡ true → (a && b) ≡ true
both true true h k = refl
both true false h k = k
both false b h k = h

module _ (sc : Scenario) (s : ℕ) (d : SlaveDesc) (of : IsScenarioSlave sc s d) (i : ℕ) (q : Port) (there : slice_get d.inputs i ≡ Some q) (v : Wire) (found : wire_into sc.wires s i ≡ Some v) where
  abbrev IsHere : Wire → Bool
  IsHere w = (w.to == s) && (w.into == i)

  ends : ((v.to == s) ≡ true) × ((v.into == i) ≡ true)
  ends = and_parts (v.to == s) (v.into == i) (found_passes IsHere sc.wires v found)

  is : IsWire sc.slaves v
  is = found_has (IsWire sc.slaves) IsHere sc.wires v (each_from_all (λ (w : Wire). IsWire sc.slaves w) sc.wires of.sound.wires) found

  to_slave : v.to ≡ s
  to_slave = eqb-true v.to s ends.0

  into_input : v.into ≡ i
  into_input = eqb-true v.into i ends.1

  same : (n : ℕ) → (n == n) ≡ true
  same n = eq-eqb n n refl

  -- its two slaves are a pair with a data id
  abbrev IsPair : Pair → Bool
  IsPair p = (p.from == v.from) && (p.to == s)

  pair_wired : is_wired_pair sc.wires (record { from = v.from; to = s }) ≡ true
  pair_wired = found_any IsHere (λ (w : Wire). (w.from == v.from) && (w.to == s)) sc.wires v found (both (v.from == v.from) (v.to == s) (same v.from) ends.0)

  pair_there : list_any IsPair (wired_pairs sc) ≡ true
  pair_there =
      let n = length sc.slaves in
      let t = slave_there sc.slaves s d of.sound.slaves of.slave in
      any_of_both (is_wired_pair sc.wires) IsPair (pairs_from 1 n 1 n)
      (some_of_pairs (λ p. is_wired_pair sc.wires p && IsPair p) 1 n 1 n v.from s is.from.0 (omega (arith, is.from.1)) t.first (omega (arith, t.last))
      (both (is_wired_pair sc.wires (record { from = v.from; to = s })) (IsPair (record { from = v.from; to = s })) pair_wired (both (v.from == v.from) (s == s) (same v.from) (same s))))

  abbrev IsLink : DataLink → Bool
  IsLink l = (l.from == v.from) && (l.to == s)

  links_any : (id : ℕ) (ps : List Pair) → list_any IsPair ps ≡ true → list_any IsLink (links_from sc id ps) ≡ true
  links_any id [] h = absurd cc
  links_any id (p ∷ ps) h = by (λ k. links_any (id + 1) ps k) (IsPair p) h
    where
      by : (list_any IsPair ps ≡ true → list_any IsLink (links_from sc (id + 1) ps) ≡ true) → (b : Bool) → (b || list_any IsPair ps) ≡ true → (b || list_any IsLink (links_from sc (id + 1) ps)) ≡ true
      by f true k = refl
      by f false k = f k

  link_there : list_any (λ (l : DataLink). l.from == v.from) (links_to sc s) ≡ true
  link_there = any_filter (λ (l : DataLink). l.from == v.from) (λ (l : DataLink). l.to == s) (wire_links sc) (links_any 17 (wired_pairs sc) pair_there)

  -- its two ports are a position of that pair
  few_in : (o : Option SlaveDesc) → ((e : SlaveDesc) → o ≡ Some e → IsDesc e) → length (outputs_in o) ≤ 8
  few_in None h = omega arith
  few_in (Some e) h = (h e refl).few_outputs.1

  out_below : v.out < 8
  out_below = omega (arith, is.out, few_in (slave_at sc.slaves v.from) (λ e g. (slave_there sc.slaves v.from e of.sound.slaves g).desc))

  in_below : i < 8
  in_below = omega (arith, slice_get_within d.inputs i q there, (slave_there sc.slaves s d of.sound.slaves of.slave).desc.few_inputs)

  position_wired : is_wire sc.wires v.from s (record { from = v.out; to = i }) ≡ true
  position_wired =
      found_any IsHere (λ (w : Wire). ((w.from == v.from) && (w.to == s)) && ((w.out == v.out) && (w.into == i))) sc.wires v found
      (both ((v.from == v.from) && (v.to == s)) ((v.out == v.out) && (v.into == i)) (both (v.from == v.from) (v.to == s) (same v.from) ends.0) (both (v.out == v.out) (v.into == i) (same v.out) ends.1))

  position_there : list_any (λ (p : Pair). p.to == i) (positions sc.wires v.from s) ≡ true
  position_there =
      any_of_both (is_wire sc.wires v.from s) (λ (p : Pair). p.to == i) (pairs_from 0 8 0 8)
      (some_of_pairs (λ p. is_wire sc.wires v.from s p && (p.to == i)) 0 8 0 8 v.out i (omega arith) (omega (arith, out_below)) (omega arith) (omega (arith, in_below))
      (both (is_wire sc.wires v.from s (record { from = v.out; to = i })) (i == i) position_wired (same i)))

  abbrev Given : Cfg → Bool
  Given body = is_some (spot_given q.vr (Set body))

  input_given : (id : ℕ) (j : ℕ) (p : Pair) → (p.to == i) ≡ true → list_any Given (input_at id j (slice_get d.inputs p.to)) ≡ true
  input_given id j p h =
      ap (λ o. list_any Given (input_at id j o)) (ap (slice_get d.inputs) (eqb-true p.to i h) ∙ there)
      ∙ ap (λ b. is_some {T = Spot} (if b then Some (record { id = id; position = j }) else None) || false) (same q.vr)

  inputs_any : (id j : ℕ) (ps : List Pair) → list_any (λ (p : Pair). p.to == i) ps ≡ true → list_any Given (numbered (λ j (p : Pair). input_at id j (slice_get d.inputs p.to)) j ps) ≡ true
  inputs_any id j [] h = absurd cc
  inputs_any id j (p ∷ ps) h = by (λ k. inputs_any id (j + 1) ps k) (p.to == i) refl h
    where
      rest : List Cfg
      rest = numbered (λ j (p : Pair). input_at id j (slice_get d.inputs p.to)) (j + 1) ps

      by : (list_any (λ (x : Pair). x.to == i) ps ≡ true → list_any Given rest ≡ true) → (b : Bool) → (p.to == i) ≡ b → (b || list_any (λ (x : Pair). x.to == i) ps) ≡ true
          → list_any Given (input_at id j (slice_get d.inputs p.to) ++ rest) ≡ true
      by f true e k = any_left Given (input_at id j (slice_get d.inputs p.to)) rest (input_given id j p e)
      by f false e k = any_right Given (input_at id j (slice_get d.inputs p.to)) rest (f k)

  incoming_any : (l : DataLink) → l.to ≡ s → (l.from == v.from) ≡ true → list_any Given (incoming sc d l) ≡ true
  incoming_any l to from =
      let ps = positions sc.wires l.from l.to in
      let here : positions sc.wires v.from s ≡ ps = sym (ap (λ n. positions sc.wires n l.to) (eqb-true l.from v.from from) ∙ ap (positions sc.wires v.from) to) in
      any_left Given (numbered (λ j (p : Pair). input_at l.id j (slice_get d.inputs p.to)) 0 ps) (cfg.Source (net_info sc l.id l.from) ∷ told_interval l)
      (inputs_any l.id 0 ps (sym (ap (list_any (λ (p : Pair). p.to == i)) here) ∙ position_there))

  coming_any : list_any Given (coming sc s d) ≡ true
  coming_any = any_part Given (λ (l : DataLink). l.from == v.from) (incoming sc d) (links_to sc s) (each_weaker (λ (l : DataLink). l.to ≡ s) (λ (l : DataLink). (l.from == v.from) ≡ true → list_any Given (incoming sc d l) ≡ true) (λ l to from. incoming_any l to from) (links_to sc s) (to_here sc s)) link_there

  pub spot_there : spot q.vr (planned_changes sc s d) ≡ None → ⊥
  spot_there e =
      newest_some (filter_map (spot_given q.vr) (onto (told_bodies sc s d) (first d)))
      (some_onto (spot_given q.vr) (told_bodies sc s d) (first d) (any_left Given (coming sc s d) (going sc s d ++ watched sc s d) coming_any))
      (sym (ap (spot q.vr) (planned_onto sc s d)) ∙ e)
