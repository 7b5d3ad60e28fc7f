-- What a setup list tells a slave of its data ids: the entries of each.
use Rattle.std.proofs.Common.{◌≡◌, ℕ, zero, suc, ◌+◌, ◌<◌, ◌≤◌, ◌==◌, Bool, true, false, if◌then◌else◌, List, [], ◌∷◌, ◌++◌, length, map, Option, Some, None, refl, sym, ap, ◌∙◌, subst, arith, eqb}
use Rattle.std.specs.Prelude.{reverse, filter, slice_get, is_some, cond}
use Rattle.std.specs.List.{AllByRecursion, cons_option, filter_map, flat_map}
use Rattle.std.proofs.lemmas.Bool.{eq-eqb}
use Rattle.std.proofs.lemmas.Bool.Decides.{nat_tests}
use Rattle.std.proofs.lemmas.List.{append-nil, reverse-reverse}
use Rattle.std.proofs.lemmas.List.Elements.{filter_map-append}
use Rattle.pdu_layout.specs.declared.messages.Cfg.{Cfg}
use Rattle.pdu_layout.specs.declared.messages.Cfg.TheVariants as cfg
use Rattle.pdu_layout.specs.declared.messages.NetInfo.{NetInfo}
use Rattle.slave_desc.specs.declared.ports.Port.{Port}
use Rattle.slave_desc.specs.declared.descriptions.SlaveDesc.{SlaveDesc}
use Rattle.scenario.specs.declared.scenarios.Scenario.{Scenario}
use Rattle.scenario.specs.declared.scenarios.Wire.{Wire}
use Rattle.scenario.specs.Lookups.{slave_at}
use Rattle.scenario.specs.Sound.{IsWire}
use Rattle.master_spec.specs.declared.links.DataLink.{DataLink}
use Rattle.master_spec.specs.declared.pairs.Pair.{Pair}
use Rattle.master_spec.specs.Links.{pairs_from, positions, wire_links}
use Rattle.master_spec.specs.PlanSetup.{numbered, net_info, input_at, output_at, told_interval, incoming, outgoing, watched}
use Rattle.plan_laws.specs.Taking.{IsScenarioSlave}
use Rattle.plan_laws.proofs.Lists.{Pairwise, each_weaker, each_both, each_always, each_append, each_filter, each_flat_map, each_from_all, pairwise_filter}
use Rattle.plan_laws.proofs.Told.{onto, onto_append}
use Rattle.plan_laws.proofs.Entries.{inputs_under, outputs_under}
use Rattle.plan_laws.proofs.Ports.{inputs_are, outputs_are}
use Rattle.plan_laws.proofs.Planned.{slave_there, inputs_there, outputs_there}
use Rattle.plan_laws.proofs.Links.{IsWireLink, IsLinkBefore, links_wired, links_ordered, links_to, links_of, to_here, from_here}
use Rattle.slave_spec.specs.Changes.{Change, Set, Side, input, output, vr_for, entries}
use Rattle.slave_laws.specs.Wiring.Wired.{changes_with, changes_after, planned_changes}
use Rattle.slave_laws.proofs.Wiring.Planned.{first, planned_is}
use Rattle.slave_laws.proofs.Wiring.InputLists.{push_chosen, none_chosen, chosen_of_own}
use Rattle.slave_laws.proofs.Wiring.Ports.{ports_into, ports_out, references}

-- ---- the settings of a setup list, part by part
each_told : (P : Cfg → Type 0) (l : DataLink) → P (cfg.Steps l.id l.every) → AllByRecursion P (told_interval l)
each_told P l h = elim (l.every == 1) as (λ b. AllByRecursion P (cond b [] (cfg.Steps l.id l.every ∷ []))) [ true ↦ tt | false ↦ (h, tt) ]

-- numbered parts, by their places
each_numbered_at : {A : Type 0} (P : Cfg → Type 0) (f : ℕ → A → List Cfg) (i : ℕ) (xs : List A) → ((j : ℕ) (x : A) → slice_get xs j ≡ Some x → AllByRecursion P (f (i + j) x)) → AllByRecursion P (numbered f i xs)
each_numbered_at P f i [] h = tt
each_numbered_at P f i (x ∷ xs) h =
    let here : i + 0 ≡ i = omega arith in
    let Q : ℕ → Type 0 = λ j. AllByRecursion P (f j x) in
    each_append P (f i x) (numbered f (i + 1) xs) (subst Q here (h 0 x refl))
    (each_numbered_at P f (i + 1) xs (λ j y e. let next : i + suc j ≡ i + 1 + j = omega arith in let R : ℕ → Type 0 = λ k. AllByRecursion P (f k y) in subst R next (h (suc j) y e)))

each_from_first : {A : Type 0} (P : Cfg → Type 0) (f : ℕ → A → List Cfg) (xs : List A) → ((j : ℕ) (x : A) → slice_get xs j ≡ Some x → AllByRecursion P (f j x)) → AllByRecursion P (numbered f 0 xs)
each_from_first P f xs h = each_numbered_at P f 0 xs (λ j x e. let same : j ≡ 0 + j = omega arith in let R : ℕ → Type 0 = λ k. AllByRecursion P (f k x) in subst R same (h j x e))

module _ (sc : Scenario) (P : Cfg → Type 0) (steps : (id q : ℕ) → P (cfg.Steps id q)) where
  pub each_incoming : (d : SlaveDesc) (l : DataLink) → ((j : ℕ) (p : Pair) → slice_get (positions sc.wires l.from l.to) j ≡ Some p → AllByRecursion P (input_at l.id j (slice_get d.inputs p.to))) → ((net : NetInfo) → P (cfg.Source net)) → AllByRecursion P (incoming sc d l)
  each_incoming d l h sources =
      each_append P (numbered (λ i (p : Pair). input_at l.id i (slice_get d.inputs p.to)) 0 (positions sc.wires l.from l.to)) (cfg.Source (net_info sc l.id l.from) ∷ told_interval l)
      (each_from_first P (λ i (p : Pair). input_at l.id i (slice_get d.inputs p.to)) (positions sc.wires l.from l.to) h)
      (sources (net_info sc l.id l.from), each_told P l (steps l.id l.every))

  pub each_outgoing : (d : SlaveDesc) (l : DataLink) → ((j vr : ℕ) → P (cfg.Output l.id j vr)) → ((net : NetInfo) → P (cfg.Target net)) → AllByRecursion P (outgoing sc d l)
  each_outgoing d l h targets =
      each_append P (numbered (λ i (p : Pair). output_at l.id i (slice_get d.outputs p.from)) 0 (positions sc.wires l.from l.to)) (cfg.Target (net_info sc l.id l.to) ∷ told_interval l)
      (each_from_first P (λ i (p : Pair). output_at l.id i (slice_get d.outputs p.from)) (positions sc.wires l.from l.to) (λ j p e. by j (slice_get d.outputs p.from)))
      (targets (net_info sc l.id l.to), each_told P l (steps l.id l.every))
    where
      by : (j : ℕ) (o : Option Port) → AllByRecursion P (output_at l.id j o)
      by j None = tt
      by j (Some q) = (h j q.vr, tt)

  pub each_watched : (s : ℕ) (d : SlaveDesc) → ((j vr : ℕ) → P (cfg.Output s j vr)) → ((net : NetInfo) → P (cfg.Target net)) → AllByRecursion P (watched sc s d)
  each_watched s d h targets =
      each_append P (numbered (λ i (p : Port). output_at s i (Some p)) 0 d.outputs) (cfg.Target (net_info sc s 0) ∷ [])
      (each_from_first P (λ i (p : Port). output_at s i (Some p)) d.outputs (λ j p e. (h j p.vr, tt))) (targets (net_info sc s 0), tt)

-- ---- the changes that they make
abbrev IsKept : Cfg → Type 0
IsKept body = (changes : List Change) → changes_with body changes ≡ Set body ∷ changes

after_onto : (bodies : List Cfg) (base : List Change) → AllByRecursion IsKept bodies → changes_after base bodies ≡ onto bodies base
after_onto [] base h = refl
after_onto (body ∷ bodies) base h = ap (λ cs. changes_after cs bodies) (h.0 base) ∙ after_onto bodies (Set body ∷ base) h.1

-- what is told of data that comes, of data for slaves, and of what the master watches
abbrev pub coming : Scenario → ℕ → SlaveDesc → List Cfg
coming sc s d = flat_map (incoming sc d) (links_to sc s)

abbrev pub going : Scenario → ℕ → SlaveDesc → List Cfg
going sc s d = flat_map (outgoing sc d) (links_of sc s)

abbrev pub told_bodies : Scenario → ℕ → SlaveDesc → List Cfg
told_bodies sc s d = coming sc s d ++ (going sc s d ++ watched sc s d)

module _ (sc : Scenario) (s : ℕ) (d : SlaveDesc) where
  coming_kept : AllByRecursion IsKept (coming sc s d)
  coming_kept = each_flat_map IsKept (incoming sc d) (links_to sc s) (each_always (λ (l : DataLink). AllByRecursion IsKept (incoming sc d l)) (λ l. each_incoming sc IsKept (λ id q cs. refl) d l (λ j p e. by l j (slice_get d.inputs p.to)) (λ net cs. refl)) (links_to sc s))
    where
      by : (l : DataLink) (j : ℕ) (o : Option Port) → AllByRecursion IsKept (input_at l.id j o)
      by l j None = tt
      by l j (Some q) = (λ cs. refl, tt)

  going_kept : AllByRecursion IsKept (going sc s d)
  going_kept = each_flat_map IsKept (outgoing sc d) (links_of sc s) (each_always (λ (l : DataLink). AllByRecursion IsKept (outgoing sc d l)) (λ l. each_outgoing sc IsKept (λ id q cs. refl) d l (λ j vr cs. refl) (λ net cs. refl)) (links_of sc s))

  watched_kept : AllByRecursion IsKept (watched sc s d)
  watched_kept = each_watched sc IsKept (λ id q cs. refl) s d (λ j vr cs. refl) (λ net cs. refl)

  -- the plan's wiring is what is told, one after the other
  pub planned_onto : planned_changes sc s d ≡ onto (told_bodies sc s d) (first d)
  planned_onto =
      let C = coming sc s d in
      let G = going sc s d in
      let W = watched sc s d in
      planned_is sc s d
      ∙ ap (λ cs. changes_after (changes_after cs G) W) (after_onto C (first d) coming_kept)
      ∙ ap (λ cs. changes_after cs W) (after_onto G (onto C (first d)) going_kept)
      ∙ after_onto W (onto G (onto C (first d))) watched_kept
      ∙ sym (onto_append C (G ++ W) (first d) ∙ onto_append G W (onto C (first d)))

-- what is chosen of the changes is what is chosen of the settings, the other way round
chosen_onto : {A : Type 0} (f : Change → Option A) (bodies : List Cfg) (base : List Change) → filter_map f (onto bodies base) ≡ reverse (filter_map (λ body. f (Set body)) bodies) ++ filter_map f base
chosen_onto f [] base = refl
chosen_onto f (body ∷ bodies) base = chosen_onto f bodies (Set body ∷ base) ∙ push_chosen (f (Set body)) (filter_map (λ x. f (Set x)) bodies) (filter_map f base)

-- the reference that a setting gives to a data id
abbrev pub given : Side → ℕ → Cfg → Option ℕ
given side id body = vr_for id (side (Set body))

-- the entries of an id, in the order of their positions
pub entries_told : (side : Side) (sc : Scenario) (s : ℕ) (d : SlaveDesc) (id : ℕ) → given side id (cfg.TimeRes d.numerator d.denominator) ≡ None → reverse (entries side id (planned_changes sc s d)) ≡ filter_map (given side id) (told_bodies sc s d)
entries_told side sc s d id none =
    let chosen = filter_map (given side id) (told_bodies sc s d) in
    let start : entries side id (first d) ≡ [] = ap (λ o. cons_option o []) none in
    let all : entries side id (planned_changes sc s d) ≡ reverse chosen = ap (entries side id) (planned_onto sc s d) ∙ chosen_onto (λ change. vr_for id (side change)) (told_bodies sc s d) (first d) ∙ ap (λ l. reverse chosen ++ l) start ∙ append-nil (reverse chosen) in
    ap reverse all ∙ reverse-reverse chosen

not_it : (b : Bool) (vr : ℕ) → b ≡ false → (if b then Some vr else None) ≡ None
not_it true vr e = absurd cc
not_it false vr e = refl

only_first : {X Y : Type 0} (g : X → Option Y) (xs ys : List X) → AllByRecursion (λ x. g x ≡ None) ys → filter_map g (xs ++ ys) ≡ filter_map g xs
only_first g xs ys h = filter_map-append g xs ys ∙ ap (λ l. filter_map g xs ++ l) (none_chosen g ys h) ∙ append-nil (filter_map g xs)

only_last : {X Y : Type 0} (g : X → Option Y) (xs ys : List X) → AllByRecursion (λ x. g x ≡ None) xs → filter_map g (xs ++ ys) ≡ filter_map g ys
only_last g xs ys h = filter_map-append g xs ys ∙ ap (λ l. l ++ filter_map g ys) (none_chosen g xs h)

-- ---- of the data that comes
inputs_given : (id i : ℕ) (qs : List Port) → filter_map (given input id) (inputs_under id i qs) ≡ references qs
inputs_given id i [] = refl
inputs_given id i (q ∷ qs) = ap (λ b. cons_option (if b then Some q.vr else None) (filter_map (given input id) (inputs_under id (i + 1) qs))) (eq-eqb id id refl) ∙ ap (λ l. q.vr ∷ l) (inputs_given id (i + 1) qs)

outputs_given : (id i : ℕ) (qs : List Port) → filter_map (given output id) (outputs_under id i qs) ≡ references qs
outputs_given id i [] = refl
outputs_given id i (q ∷ qs) = ap (λ b. cons_option (if b then Some q.vr else None) (filter_map (given output id) (outputs_under id (i + 1) qs))) (eq-eqb id id refl) ∙ ap (λ l. q.vr ∷ l) (outputs_given id (i + 1) qs)

other_way : (a b : ℕ) → (a == b) ≡ false → (b == a) ≡ false
other_way a b h = grind (arith, nat_tests, h)

module _ (sc : Scenario) (s : ℕ) (d : SlaveDesc) (of : IsScenarioSlave sc s d) where
  wires : AllByRecursion (λ (w : Wire). IsWire sc.slaves w) sc.wires
  wires = each_from_all (λ (w : Wire). IsWire sc.slaves w) sc.wires of.sound.wires

  -- a link that comes is silent for other ids
  incoming_silent : (l : DataLink) (id : ℕ) → (l.id == id) ≡ false → filter_map (given input id) (incoming sc d l) ≡ []
  incoming_silent l id e = none_chosen (given input id) (incoming sc d l) (each_incoming sc (λ body. given input id body ≡ None) (λ i q. refl) d l (λ j p k. by j (slice_get d.inputs p.to)) (λ net. refl))
    where
      by : (j : ℕ) (o : Option Port) → AllByRecursion (λ body. given input id body ≡ None) (input_at l.id j o)
      by j None = tt
      by j (Some q) = (not_it (l.id == id) q.vr e, tt)

  incoming_given : (l : DataLink) → l.to ≡ s → filter_map (given input l.id) (incoming sc d l) ≡ references (ports_into d.inputs (positions sc.wires l.from l.to))
  incoming_given l to =
      let ps = positions sc.wires l.from l.to in
      let parts = numbered (λ i (p : Pair). input_at l.id i (slice_get d.inputs p.to)) 0 ps in
      let rest = cfg.Source (net_info sc l.id l.from) ∷ told_interval l in
      let there = inputs_there sc.slaves sc.wires l.from l.to d (pairs_from 0 8 0 8) wires (ap (slave_at sc.slaves) to ∙ of.slave) in
      only_first (given input l.id) parts rest (refl, each_told (λ body. given input l.id body ≡ None) l refl)
      ∙ ap (filter_map (given input l.id)) (inputs_are l.id 0 d.inputs ps there) ∙ inputs_given l.id 0 (ports_into d.inputs ps)

  outgoing_none : (l : DataLink) (id : ℕ) → AllByRecursion (λ body. given input id body ≡ None) (outgoing sc d l)
  outgoing_none l id = each_outgoing sc (λ body. given input id body ≡ None) (λ i q. refl) d l (λ j vr. refl) (λ net. refl)

  rest_none : (id : ℕ) → AllByRecursion (λ body. given input id body ≡ None) (going sc s d ++ watched sc s d)
  rest_none id = each_append (λ body. given input id body ≡ None) (going sc s d) (watched sc s d)
      (each_flat_map (λ body. given input id body ≡ None) (outgoing sc d) (links_of sc s) (each_always (λ (l : DataLink). AllByRecursion (λ body. given input id body ≡ None) (outgoing sc d l)) (λ l. outgoing_none l id) (links_of sc s)))
      (each_watched sc (λ body. given input id body ≡ None) (λ i q. refl) s d (λ j vr. refl) (λ net. refl))

  -- the entries of a link that comes are its inputs
  pub input_entries : AllByRecursion (λ (l : DataLink). reverse (entries input l.id (planned_changes sc s d)) ≡ references (ports_into d.inputs (positions sc.wires l.from l.to))) (links_to sc s)
  input_entries =
      each_both (λ (l : DataLink). filter_map (given input l.id) (coming sc s d) ≡ filter_map (given input l.id) (incoming sc d l)) (λ (l : DataLink). l.to ≡ s)
      (λ (l : DataLink). reverse (entries input l.id (planned_changes sc s d)) ≡ references (ports_into d.inputs (positions sc.wires l.from l.to)))
      (λ l own to. entries_told input sc s d l.id refl ∙ only_first (given input l.id) (coming sc s d) (going sc s d ++ watched sc s d) (rest_none l.id) ∙ own ∙ incoming_given l to)
      (links_to sc s)
      (chosen_of_own (λ (l : DataLink). given input l.id) (incoming sc d) IsLinkBefore (λ l r h. (incoming_silent l r.id h.apart, incoming_silent r l.id (other_way l.id r.id h.apart))) (links_to sc s) (pairwise_filter IsLinkBefore (λ (l : DataLink). l.to == s) (wire_links sc) (links_ordered sc)))
      (to_here sc s)

  -- ---- of the data that it sends
  outgoing_silent : (l : DataLink) (id : ℕ) → (l.id == id) ≡ false → filter_map (given output id) (outgoing sc d l) ≡ []
  outgoing_silent l id e = none_chosen (given output id) (outgoing sc d l) (each_outgoing sc (λ body. given output id body ≡ None) (λ i q. refl) d l (λ j vr. not_it (l.id == id) vr e) (λ net. refl))

  outgoing_given : (l : DataLink) → l.from ≡ s → filter_map (given output l.id) (outgoing sc d l) ≡ references (ports_out d.outputs (positions sc.wires l.from l.to))
  outgoing_given l from =
      let ps = positions sc.wires l.from l.to in
      let parts = numbered (λ i (p : Pair). output_at l.id i (slice_get d.outputs p.from)) 0 ps in
      let rest = cfg.Target (net_info sc l.id l.to) ∷ told_interval l in
      let there = outputs_there sc.slaves sc.wires l.from l.to d (pairs_from 0 8 0 8) wires (ap (slave_at sc.slaves) from ∙ of.slave) in
      only_first (given output l.id) parts rest (refl, each_told (λ body. given output l.id body ≡ None) l refl)
      ∙ ap (filter_map (given output l.id)) (outputs_are l.id 0 d.outputs ps there) ∙ outputs_given l.id 0 (ports_out d.outputs ps)

  coming_none : (id : ℕ) → AllByRecursion (λ body. given output id body ≡ None) (coming sc s d)
  coming_none id = each_flat_map (λ body. given output id body ≡ None) (incoming sc d) (links_to sc s)
      (each_always (λ (l : DataLink). AllByRecursion (λ body. given output id body ≡ None) (incoming sc d l)) (λ l. each_incoming sc (λ body. given output id body ≡ None) (λ i q. refl) d l (λ j p k. by l j (slice_get d.inputs p.to)) (λ net. refl)) (links_to sc s))
    where
      by : (l : DataLink) (j : ℕ) (o : Option Port) → AllByRecursion (λ body. given output id body ≡ None) (input_at l.id j o)
      by l j None = tt
      by l j (Some q) = (refl, tt)

  watched_none : (id : ℕ) → 17 ≤ id → AllByRecursion (λ body. given output id body ≡ None) (watched sc s d)
  watched_none id h =
      let few : s ≤ 16 = let t = slave_there sc.slaves s d of.sound.slaves of.slave in omega (arith, t.last, of.sound.few_slaves.1) in
      let no' : (s == id) ≡ false = grind (arith, nat_tests, few, h) in
      each_watched sc (λ body. given output id body ≡ None) (λ i q. refl) s d (λ j vr. not_it (s == id) vr no') (λ net. refl)

  mine_wired : AllByRecursion (λ (l : DataLink). IsWireLink sc l × (l.from ≡ s)) (links_of sc s)
  mine_wired = each_both (IsWireLink sc) (λ (l : DataLink). l.from ≡ s) (λ (l : DataLink). IsWireLink sc l × (l.from ≡ s)) (λ l a b. (a, b)) (links_of sc s) (each_filter (IsWireLink sc) (λ (l : DataLink). l.from == s) (wire_links sc) (links_wired sc of.sound)) (from_here sc s)

  -- the entries of a link to a slave are its outputs
  pub output_entries : AllByRecursion (λ (l : DataLink). reverse (entries output l.id (planned_changes sc s d)) ≡ references (ports_out d.outputs (positions sc.wires l.from l.to))) (links_of sc s)
  output_entries =
      each_both (λ (l : DataLink). filter_map (given output l.id) (going sc s d) ≡ filter_map (given output l.id) (outgoing sc d l)) (λ (l : DataLink). IsWireLink sc l × (l.from ≡ s))
      (λ (l : DataLink). reverse (entries output l.id (planned_changes sc s d)) ≡ references (ports_out d.outputs (positions sc.wires l.from l.to)))
      (λ l own k. entries_told output sc s d l.id refl ∙ only_last (given output l.id) (coming sc s d) (going sc s d ++ watched sc s d) (coming_none l.id) ∙ only_first (given output l.id) (going sc s d) (watched sc s d) (watched_none l.id (k.0).id) ∙ own ∙ outgoing_given l k.1)
      (links_of sc s)
      (chosen_of_own (λ (l : DataLink). given output l.id) (outgoing sc d) IsLinkBefore (λ l r h. (outgoing_silent l r.id h.apart, outgoing_silent r l.id (other_way l.id r.id h.apart))) (links_of sc s) (pairwise_filter IsLinkBefore (λ (l : DataLink). l.from == s) (wire_links sc) (links_ordered sc)))
      mine_wired
