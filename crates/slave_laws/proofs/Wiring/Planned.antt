-- The setup list of a plan, part by part.
use Rattle.std.proofs.Common.{◌≡◌, ℕ, ◌==◌, Bool, true, false, if◌then◌else◌, inl, List, [], ◌∷◌, ◌++◌, map, length, Option, Some, None, refl, sym, ap, ◌∙◌, subst}
use Rattle.std.specs.Prelude.{nat_lt, slice_get, filter}
use Rattle.std.specs.List.{AllByRecursion, cons_option, flat_map}
use Rattle.std.proofs.lemmas.Bool.{eqb-true}
use Rattle.std.proofs.lemmas.List.{append_assoc}
use Rattle.pdu_layout.specs.declared.messages.Cfg.{Cfg}
use Rattle.pdu_layout.specs.declared.messages.Cfg.TheVariants as cfg
use Rattle.pdu_layout.specs.declared.messages.NetInfo.{NetInfo}
use Rattle.dcp_types.specs.declared.data_types.DataType.{DataType}
use Rattle.slave_desc.specs.declared.ports.Port.{Port}
use Rattle.slave_desc.specs.declared.descriptions.SlaveDesc.{SlaveDesc}
use Rattle.scenario.specs.declared.scenarios.Scenario.{Scenario}
use Rattle.scenario.specs.declared.scenarios.Setting.{Setting}
use Rattle.master_spec.specs.declared.links.DataLink.{DataLink}
use Rattle.master_spec.specs.declared.pairs.Pair.{Pair}
use Rattle.master_spec.specs.Links.{positions, wire_links}
use Rattle.master_spec.specs.PlanSetup.{set_parameter, settings_of, numbered, net_info, input_at, output_at, told_interval, incoming, outgoing, watched}
use Rattle.plan_laws.specs.Taking.{IsScenarioSlave}
use Rattle.plan_laws.proofs.Lists.{each_filter, each_weaker, each_both, each_append}
use Rattle.plan_laws.proofs.Planned.{slave_there}
use Rattle.plan_laws.proofs.Links.{links_to, links_of, from_here}
use Rattle.slave_spec.specs.Changes.{Change, Set, Side, input, output, vr_for, entries, has_id}
use Rattle.slave_laws.specs.Wiring.Wired.{changes_with, changes_after, planned_changes}
use Rattle.slave_laws.specs.Wiring.Links.{data_link_of, link_interval, from_of, interval_of, sender_of, IntervalsArePlanned, SendersArePlanned}
use Rattle.slave_laws.proofs.Wiring.Found.{watch_found, wires_found}
use Rattle.slave_laws.proofs.Wiring.Parts.{after_append, each_numbered, IsQuiet, AreQuiet, AreSpaced, quiet_spaced, link_spaced}

-- ---- the list, part by part
parameters_keep : (base : List Change) (xs : List Setting) → changes_after base (map set_parameter xs) ≡ base
parameters_keep base [] = refl
parameters_keep base (x ∷ xs) = parameters_keep base xs

abbrev pub first : SlaveDesc → List Change
first d = Set (cfg.TimeRes d.numerator d.denominator) ∷ []

pub planned_is : (sc : Scenario) (s : ℕ) (d : SlaveDesc) → planned_changes sc s d ≡ changes_after (changes_after (changes_after (first d) (flat_map (incoming sc d) (links_to sc s))) (flat_map (outgoing sc d) (links_of sc s))) (watched sc s d)
planned_is sc s d =
    let a : List Cfg = cfg.Clear ∷ cfg.TimeRes d.numerator d.denominator ∷ [] in
    let b = settings_of s sc.settings in
    let c = flat_map (incoming sc d) (links_to sc s) in
    let e = flat_map (outgoing sc d) (links_of sc s) in
    after_append [] (((a ++ b) ++ c) ++ e) (watched sc s d)
    ∙ ap (λ z. changes_after z (watched sc s d)) (after_append [] ((a ++ b) ++ c) e
    ∙ ap (λ z. changes_after z e) (after_append [] (a ++ b) c ∙ ap (λ z. changes_after z c) (after_append [] a b ∙ parameters_keep (first d) (filter (λ x. x.slave == s) sc.settings))))

-- ---- intervals
-- what a side is told by each kind of setting
pub record IsSide (side : Side) : Type 0 where
  pub inputs : (id j vr : ℕ) (kind : DataType) (other : ℕ) → (id == other) ≡ false → vr_for other (side (Set (cfg.Input id j vr kind))) ≡ None
  pub outputs : (id j vr other : ℕ) → (id == other) ≡ false → vr_for other (side (Set (cfg.Output id j vr))) ≡ None
  pub sources : (net : NetInfo) (other : ℕ) → vr_for other (side (Set (cfg.Source net))) ≡ None
  pub targets : (net : NetInfo) (other : ℕ) → vr_for other (side (Set (cfg.Target net))) ≡ None
  pub steps : (other id q : ℕ) → vr_for other (side (Set (cfg.Steps id q))) ≡ None
  pub times : (a b other : ℕ) → vr_for other (side (Set (cfg.TimeRes a b))) ≡ None

not_it : (b : Bool) (vr : ℕ) → b ≡ false → (if b then Some vr else None) ≡ None
not_it true vr e = absurd cc
not_it false vr e = refl

pub input_side : IsSide input
input_side = record {
  inputs = λ id j vr kind other e. not_it (id == other) vr e;
  outputs = λ id j vr other e. refl;
  sources = λ net other. refl;
  targets = λ net other. refl;
  steps = λ other id q. refl;
  times = λ a b other. refl;
}

pub output_side : IsSide output
output_side = record {
  inputs = λ id j vr kind other e. refl;
  outputs = λ id j vr other e. not_it (id == other) vr e;
  sources = λ net other. refl;
  targets = λ net other. refl;
  steps = λ other id q. refl;
  times = λ a b other. refl;
}

module _ (side : Side) (is : IsSide side) where
  input_quiet : (id j : ℕ) (o : Option Port) → AreQuiet side id (input_at id j o)
  input_quiet id j None = tt
  input_quiet id j (Some p) = (record { kept = λ changes. refl; unset = λ other. refl; silent = λ other e. is.inputs id j p.vr p.kind other e }, tt)

  output_quiet : (id j : ℕ) (o : Option Port) → AreQuiet side id (output_at id j o)
  output_quiet id j None = tt
  output_quiet id j (Some p) = (record { kept = λ changes. refl; unset = λ other. refl; silent = λ other e. is.outputs id j p.vr other e }, tt)

  source_quiet : (id : ℕ) (net : NetInfo) → IsQuiet side id (cfg.Source net)
  source_quiet id net = record { kept = λ changes. refl; unset = λ other. refl; silent = λ other e. is.sources net other }

  target_quiet : (id : ℕ) (net : NetInfo) → IsQuiet side id (cfg.Target net)
  target_quiet id net = record { kept = λ changes. refl; unset = λ other. refl; silent = λ other e. is.targets net other }

  module _ (sc : Scenario) (s : ℕ) (d : SlaveDesc) where
    abbrev comes : DataLink → List Cfg
    comes l = numbered (λ i (p : Pair). input_at l.id i (slice_get d.inputs p.to)) 0 (positions sc.wires l.from l.to) ++ cfg.Source (net_info sc l.id l.from) ∷ []

    abbrev goes : DataLink → List Cfg
    goes l = numbered (λ i (p : Pair). output_at l.id i (slice_get d.outputs p.from)) 0 (positions sc.wires l.from l.to) ++ cfg.Target (net_info sc l.id l.to) ∷ []

    comes_quiet : (l : DataLink) → AreQuiet side l.id (comes l)
    comes_quiet l = each_append (IsQuiet side l.id) (numbered (λ i (p : Pair). input_at l.id i (slice_get d.inputs p.to)) 0 (positions sc.wires l.from l.to)) (cfg.Source (net_info sc l.id l.from) ∷ [])
        (each_numbered (IsQuiet side l.id) (λ i (p : Pair). input_at l.id i (slice_get d.inputs p.to)) 0 (positions sc.wires l.from l.to) (λ j p. input_quiet l.id j (slice_get d.inputs p.to))) (source_quiet l.id (net_info sc l.id l.from), tt)

    goes_quiet : (l : DataLink) → AreQuiet side l.id (goes l)
    goes_quiet l = each_append (IsQuiet side l.id) (numbered (λ i (p : Pair). output_at l.id i (slice_get d.outputs p.from)) 0 (positions sc.wires l.from l.to)) (cfg.Target (net_info sc l.id l.to) ∷ [])
        (each_numbered (IsQuiet side l.id) (λ i (p : Pair). output_at l.id i (slice_get d.outputs p.from)) 0 (positions sc.wires l.from l.to) (λ j p. output_quiet l.id j (slice_get d.outputs p.from))) (target_quiet l.id (net_info sc l.id l.to), tt)

    watched_quiet : AreQuiet side s (watched sc s d)
    watched_quiet = each_append (IsQuiet side s) (numbered (λ i (p : Port). output_at s i (Some p)) 0 d.outputs) (cfg.Target (net_info sc s 0) ∷ [])
        (each_numbered (IsQuiet side s) (λ i (p : Port). output_at s i (Some p)) 0 d.outputs (λ j p. output_quiet s j (Some p))) (target_quiet s (net_info sc s 0), tt)

    abbrev Spaced : List Change → Type 0
    Spaced changes = AreSpaced side (interval_of sc) is.steps changes

    abbrev HasEvery : DataLink → Type 0
    HasEvery l = interval_of sc l.id ≡ l.every

    come_spaced : (l : DataLink) (changes : List Change) → HasEvery l → Spaced changes → Spaced (changes_after changes (incoming sc d l))
    come_spaced l changes e j =
        let pre = numbered (λ i (p : Pair). input_at l.id i (slice_get d.inputs p.to)) 0 (positions sc.wires l.from l.to) in
        let grouped : comes l ++ told_interval l ≡ incoming sc d l = append_assoc pre (cfg.Source (net_info sc l.id l.from) ∷ []) (told_interval l) in
        let P : List Cfg → Type 0 = λ bodies. Spaced (changes_after changes bodies) in
        subst P grouped (link_spaced side (interval_of sc) is.steps l (comes l) changes (comes_quiet l) e j)

    go_spaced : (l : DataLink) (changes : List Change) → HasEvery l → Spaced changes → Spaced (changes_after changes (outgoing sc d l))
    go_spaced l changes e j =
        let pre = numbered (λ i (p : Pair). output_at l.id i (slice_get d.outputs p.from)) 0 (positions sc.wires l.from l.to) in
        let grouped : goes l ++ told_interval l ≡ outgoing sc d l = append_assoc pre (cfg.Target (net_info sc l.id l.to) ∷ []) (told_interval l) in
        let P : List Cfg → Type 0 = λ bodies. Spaced (changes_after changes bodies) in
        subst P grouped (link_spaced side (interval_of sc) is.steps l (goes l) changes (goes_quiet l) e j)

    all_spaced : (f : DataLink → List Cfg) → ((l : DataLink) (changes : List Change) → HasEvery l → Spaced changes → Spaced (changes_after changes (f l))) → (ls : List DataLink) (changes : List Change) → AllByRecursion HasEvery ls → Spaced changes → Spaced (changes_after changes (flat_map f ls))
    all_spaced f one [] changes e j = j
    all_spaced f one (l ∷ ls) changes e j =
        let P : List Change → Type 0 = Spaced in
        subst P (sym (after_append changes (f l) (flat_map f ls))) (all_spaced f one ls (changes_after changes (f l)) e.1 (one l changes e.0 j))

    none_known : (id : ℕ) → has_id side id (first d) ≡ true → ⊥
    none_known id h = let e : has_id side id (first d) ≡ false = ap (λ o. nat_lt 0 (length (cons_option o []))) (is.times d.numerator d.denominator id) in let c = sym e ∙ h in cc

    first_spaced : Spaced (first d)
    first_spaced = record { each = λ id h. absurd (none_known id h); near = λ id. inl refl }

    planned_spaced : IsScenarioSlave sc s d → Spaced (planned_changes sc s d)
    planned_spaced ok =
        let there = slave_there sc.slaves s d ok.sound.slaves ok.slave in
        let every : AllByRecursion HasEvery (wire_links sc) = each_weaker (λ (l : DataLink). data_link_of sc l.id ≡ Some l) HasEvery (λ l e. ap link_interval e) (wire_links sc) (wires_found sc ok.sound) in
        let one : interval_of sc s ≡ 1 = ap link_interval (watch_found sc ok.sound s there.first there.last) in
        let a = all_spaced (incoming sc d) come_spaced (links_to sc s) (first d) (each_filter HasEvery (λ (l : DataLink). l.to == s) (wire_links sc) every) first_spaced in
        let b = all_spaced (outgoing sc d) go_spaced (links_of sc s) (changes_after (first d) (flat_map (incoming sc d) (links_to sc s))) (each_filter HasEvery (λ (l : DataLink). l.from == s) (wire_links sc) every) a in
        let c = quiet_spaced side (interval_of sc) is.steps s (watched sc s d) (changes_after (changes_after (first d) (flat_map (incoming sc d) (links_to sc s))) (flat_map (outgoing sc d) (links_of sc s))) watched_quiet one b in
        let P : List Change → Type 0 = Spaced in
        subst P (sym (planned_is sc s d)) c

pub input_intervals : IntervalsArePlanned input
input_intervals sc s d ok id h = (planned_spaced input input_side sc s d ok).each id h

pub output_intervals : IntervalsArePlanned output
output_intervals sc s d ok id h = (planned_spaced output output_side sc s d ok).each id h

-- ---- senders
-- it is kept among the changes, and is an entry of an output of one id at most
pub record IsOf (id : ℕ) (body : Cfg) : Type 0 where
  pub kept : (changes : List Change) → changes_with body changes ≡ Set body ∷ changes
  pub silent : (other : ℕ) → (id == other) ≡ false → vr_for other (output (Set body)) ≡ None

-- it is none of any
pub record IsSilent (body : Cfg) : Type 0 where
  pub kept : (changes : List Change) → changes_with body changes ≡ Set body ∷ changes
  pub silent : (other : ℕ) → vr_for other (output (Set body)) ≡ None

module _ (sc : Scenario) (s : ℕ) where
  abbrev AreSent : List Change → Type 0
  AreSent changes = (id : ℕ) → has_id output id changes ≡ true → sender_of sc id ≡ s

  one_sent : (id : ℕ) (body : Cfg) (changes : List Change) → IsOf id body → sender_of sc id ≡ s → AreSent changes → AreSent (changes_with body changes)
  one_sent id body changes is own j other h = by (id == other) refl
    where
      here : has_id output other (Set body ∷ changes) ≡ true
      here = sym (ap (has_id output other) (is.kept changes)) ∙ h

      by : (b : Bool) → (id == other) ≡ b → sender_of sc other ≡ s
      by true e = ap (sender_of sc) (sym (eqb-true id other e)) ∙ own
      by false e = j other (sym (ap (λ o. nat_lt 0 (length (cons_option o (entries output other changes)))) (is.silent other e)) ∙ here)

  all_sent : (id : ℕ) (bodies : List Cfg) (changes : List Change) → AllByRecursion (IsOf id) bodies → sender_of sc id ≡ s → AreSent changes → AreSent (changes_after changes bodies)
  all_sent id [] changes is own j = j
  all_sent id (body ∷ bodies) changes is own j = all_sent id bodies (changes_with body changes) is.1 own (one_sent id body changes is.0 own j)

  silent_sent : (bodies : List Cfg) (changes : List Change) → AllByRecursion IsSilent bodies → AreSent changes → AreSent (changes_after changes bodies)
  silent_sent [] changes is j = j
  silent_sent (body ∷ bodies) changes is j = silent_sent bodies (changes_with body changes) is.1 (λ other h. j other (sym (ap (λ o. nat_lt 0 (length (cons_option o (entries output other changes)))) ((is.0).silent other)) ∙ (sym (ap (has_id output other) ((is.0).kept changes)) ∙ h)))

  pub told_silent : (l : DataLink) → AllByRecursion IsSilent (told_interval l)
  told_silent l = by (l.every == 1)
    where
      by : (b : Bool) → AllByRecursion IsSilent (if b then [] else cfg.Steps l.id l.every ∷ [])
      by true = tt
      by false = (record { kept = λ changes. refl; silent = λ other. refl }, tt)

  pub silent_of : (id : ℕ) (bodies : List Cfg) → AllByRecursion IsSilent bodies → AllByRecursion (IsOf id) bodies
  silent_of id bodies h = each_weaker IsSilent (IsOf id) (λ body k. record { kept = k.kept; silent = λ other e. k.silent other }) bodies h

  input_silent : (id j : ℕ) (o : Option Port) → AllByRecursion IsSilent (input_at id j o)
  input_silent id j None = tt
  input_silent id j (Some p) = (record { kept = λ changes. refl; silent = λ other. refl }, tt)

  pub output_of : (id j : ℕ) (o : Option Port) → AllByRecursion (IsOf id) (output_at id j o)
  output_of id j None = tt
  output_of id j (Some p) = (record { kept = λ changes. refl; silent = λ other e. not_it (id == other) p.vr e }, tt)

  module _ (d : SlaveDesc) where
    incoming_silent : (l : DataLink) → AllByRecursion IsSilent (incoming sc d l)
    incoming_silent l = each_append IsSilent (numbered (λ i (p : Pair). input_at l.id i (slice_get d.inputs p.to)) 0 (positions sc.wires l.from l.to)) (cfg.Source (net_info sc l.id l.from) ∷ told_interval l)
        (each_numbered IsSilent (λ i (p : Pair). input_at l.id i (slice_get d.inputs p.to)) 0 (positions sc.wires l.from l.to) (λ j p. input_silent l.id j (slice_get d.inputs p.to))) (record { kept = λ changes. refl; silent = λ other. refl }, told_silent l)

    pub outgoing_of : (l : DataLink) → AllByRecursion (IsOf l.id) (outgoing sc d l)
    outgoing_of l = each_append (IsOf l.id) (numbered (λ i (p : Pair). output_at l.id i (slice_get d.outputs p.from)) 0 (positions sc.wires l.from l.to)) (cfg.Target (net_info sc l.id l.to) ∷ told_interval l)
        (each_numbered (IsOf l.id) (λ i (p : Pair). output_at l.id i (slice_get d.outputs p.from)) 0 (positions sc.wires l.from l.to) (λ j p. output_of l.id j (slice_get d.outputs p.from))) (record { kept = λ changes. refl; silent = λ other e. refl }, silent_of l.id (told_interval l) (told_silent l))

    pub watched_of : AllByRecursion (IsOf s) (watched sc s d)
    watched_of = each_append (IsOf s) (numbered (λ i (p : Port). output_at s i (Some p)) 0 d.outputs) (cfg.Target (net_info sc s 0) ∷ [])
        (each_numbered (IsOf s) (λ i (p : Port). output_at s i (Some p)) 0 d.outputs (λ j p. output_of s j (Some p))) (record { kept = λ changes. refl; silent = λ other e. refl }, tt)

    comings_sent : (ls : List DataLink) (changes : List Change) → AreSent changes → AreSent (changes_after changes (flat_map (incoming sc d) ls))
    comings_sent [] changes j = j
    comings_sent (l ∷ ls) changes j = let P : List Change → Type 0 = AreSent in subst P (sym (after_append changes (incoming sc d l) (flat_map (incoming sc d) ls))) (comings_sent ls (changes_after changes (incoming sc d l)) (silent_sent (incoming sc d l) changes (incoming_silent l) j))

    goings_sent : (ls : List DataLink) (changes : List Change) → AllByRecursion (λ (l : DataLink). sender_of sc l.id ≡ s) ls → AreSent changes → AreSent (changes_after changes (flat_map (outgoing sc d) ls))
    goings_sent [] changes own j = j
    goings_sent (l ∷ ls) changes own j = let P : List Change → Type 0 = AreSent in subst P (sym (after_append changes (outgoing sc d l) (flat_map (outgoing sc d) ls))) (goings_sent ls (changes_after changes (outgoing sc d l)) own.1 (all_sent l.id (outgoing sc d l) changes (outgoing_of l) own.0 j))

    planned_sent : IsScenarioSlave sc s d → AreSent (planned_changes sc s d)
    planned_sent ok =
        let there = slave_there sc.slaves s d ok.sound.slaves ok.slave in
        let found : AllByRecursion (λ (l : DataLink). data_link_of sc l.id ≡ Some l) (links_of sc s) = each_filter (λ (l : DataLink). data_link_of sc l.id ≡ Some l) (λ (l : DataLink). l.from == s) (wire_links sc) (wires_found sc ok.sound) in
        let own : AllByRecursion (λ (l : DataLink). sender_of sc l.id ≡ s) (links_of sc s) = each_both (λ (l : DataLink). data_link_of sc l.id ≡ Some l) (λ (l : DataLink). l.from ≡ s) (λ (l : DataLink). sender_of sc l.id ≡ s) (λ l e f. ap from_of e ∙ f) (links_of sc s) found (from_here sc s) in
        let mine : sender_of sc s ≡ s = ap from_of (watch_found sc ok.sound s there.first there.last) in
        let a = comings_sent (links_to sc s) (first d) (λ id h. absurd cc) in
        let b = goings_sent (links_of sc s) (changes_after (first d) (flat_map (incoming sc d) (links_to sc s))) own a in
        let c = all_sent s (watched sc s d) (changes_after (changes_after (first d) (flat_map (incoming sc d) (links_to sc s))) (flat_map (outgoing sc d) (links_of sc s))) watched_of mine b in
        let P : List Change → Type 0 = AreSent in
        subst P (sym (planned_is sc s d)) c

pub senders : SendersArePlanned
senders sc s d ok id h = planned_sent sc s d ok id h
