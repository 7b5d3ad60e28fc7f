-- All that is told of one data id, and of one after the other.
use Rattle.std.proofs.Common.{◌≡◌, ℕ, ◌+◌, ◌≤◌, Bool, true, false, cond, eqb, List, [], ◌∷◌, ◌++◌, length, refl, ap, sym, ◌∙◌, subst, arith, Some, None}
use Rattle.std.specs.Prelude.{nat_lt, nat_le, ◌==◌, ◌||◌, is_some}
use Rattle.std.specs.List.{AllByRecursion, flat_map}
use Rattle.std.proofs.lemmas.Bool.{eqb-true}
use Rattle.std.proofs.lemmas.Bool.Decides.{nat_tests}
use Rattle.pdu_layout.specs.declared.messages.Cfg.{Cfg}
use Rattle.pdu_layout.specs.declared.messages.Cfg.TheVariants as cfg
use Rattle.pdu_layout.specs.declared.messages.NetInfo.{NetInfo}
use Rattle.slave_desc.specs.declared.ports.Port.{Port}
use Rattle.slave_desc.specs.declared.descriptions.SlaveDesc.{SlaveDesc}
use Rattle.master_spec.specs.declared.links.DataLink.{DataLink}
use Rattle.master_spec.specs.PlanSetup.{told_interval}
use Rattle.slave_spec.specs.Changes.{Change, Set, newest_change, input, output, entries, has_id, ids, source, target, vr_for, source_given, target_given, ascending}
use Rattle.slave_spec.specs.Refusals.{refusal_of_setting, is_input_of, is_wired, is_full, is_transport, port_with}
use Rattle.plan_laws.proofs.Lists.{by_test, Pairwise, each_append, each_both, each_weaker, each_always}
use Rattle.plan_laws.proofs.Told.{AreTold, id_of, onto, told_append, onto_append, silent, silent_any}
use Rattle.plan_laws.proofs.Entries.{IsFree, inputs_under, outputs_under, each_input_under, each_output_under, inputs_told, inputs_counted, outputs_told, outputs_counted, outputs_few}

-- a data id, its ports at this slave by their positions, and its other end
pub record Part : Type 0 where
  pub link : DataLink
  pub ports : List Port
  pub net : NetInfo

abbrev pub come : Part → List Cfg
come p = inputs_under p.link.id 0 p.ports ++ (cfg.Source p.net ∷ told_interval p.link)

abbrev pub go : Part → List Cfg
go p = outputs_under p.link.id 0 p.ports ++ (cfg.Target p.net ∷ told_interval p.link)

-- the interval and the other end are those of the data id
pub record IsPart (p : Part) : Type 0 where
  pub some : 1 ≤ length p.ports
  pub same : p.net.data_id ≡ p.link.id
  pub transport : is_transport p.net.protocol ≡ true
  pub interval : (1 ≤ p.link.every) × (p.link.every ≤ 1000)

-- ---- intervals

each_interval : (P : Cfg → Type 0) (l : DataLink) → P (cfg.Steps l.id l.every) → AllByRecursion P (told_interval l)
each_interval P l h = elim (l.every == 1) as (λ b. AllByRecursion P (cond b [] (cfg.Steps l.id l.every ∷ []))) [ true ↦ tt | false ↦ (h, tt) ]

interval_fine : (d : SlaveDesc) (changes : List Change) (id q : ℕ) → (1 ≤ q) × (q ≤ 1000) → (has_id input id changes || has_id output id changes) ≡ true → refusal_of_setting d changes (cfg.Steps id q) ≡ None
unfolding refusal_of_setting
interval_fine d changes id q h known =
    let a : nat_le 1 q ≡ true = grind (arith, nat_tests, h.0) in
    let b : nat_le q 1000 ≡ true = grind (arith, nat_tests, h.1) in
    rw (a, b, known) refl

interval_told : (d : SlaveDesc) (changes : List Change) (l : DataLink) → (1 ≤ l.every) × (l.every ≤ 1000) → (has_id input l.id changes || has_id output l.id changes) ≡ true → AreTold d changes (told_interval l)
interval_told d changes l h known =
    elim (l.every == 1) as (λ b. AreTold d changes (cond b [] (cfg.Steps l.id l.every ∷ []))) [ true ↦ tt | false ↦ (refl, interval_fine d changes l.id l.every h known, tt) ]

-- ---- data that comes

source_fine : (d : SlaveDesc) (changes : List Change) (net : NetInfo) (id : ℕ) → net.data_id ≡ id → is_transport net.protocol ≡ true → has_id input id changes ≡ true → source id changes ≡ None → refusal_of_setting d changes (cfg.Source net) ≡ None
unfolding refusal_of_setting
source_fine d changes net id e way known none = rw (way, e, known, none) refl

known_from : (xs : List ℕ) (n : ℕ) → length xs ≡ n → 1 ≤ n → nat_lt 0 (length xs) ≡ true
known_from xs n e h = grind (arith, nat_tests, e, h)

or_left : (a b : Bool) → a ≡ true → (a || b) ≡ true
or_left a b e = rw e refl

or_right : (a b : Bool) → b ≡ true → (a || b) ≡ true
or_right true b e = refl
or_right false b e = e

pub each_come : (P : Cfg → Type 0) (p : Part) → AllByRecursion (λ q. (j : ℕ) → P (cfg.Input p.link.id j q.vr q.kind)) p.ports → P (cfg.Source p.net) → P (cfg.Steps p.link.id p.link.every) → AllByRecursion P (come p)
each_come P p h s i = each_append P (inputs_under p.link.id 0 p.ports) (cfg.Source p.net ∷ told_interval p.link) (each_input_under P p.link.id 0 p.ports h) (s, each_interval P p.link i)

-- nothing of the id was told, and its inputs are free
pub record IsNewIn (d : SlaveDesc) (changes : List Change) (p : Part) : Type 0 where
  pub entries_none : entries input p.link.id changes ≡ []
  pub source_none : source p.link.id changes ≡ None
  pub free : AllByRecursion (IsFree d changes) p.ports

pub come_told : (d : SlaveDesc) (changes : List Change) (p : Part) → IsPart p → Pairwise (λ q r. eqb q.vr r.vr ≡ false) p.ports → IsNewIn d changes p → AreTold d changes (come p)
come_told d changes p is apart new =
    let id : ℕ = p.link.id in
    let after : List Change = onto (inputs_under id 0 p.ports) changes in
    let none : length (entries input id changes) ≡ 0 = ap length new.entries_none in
    let known : has_id input id after ≡ true = known_from (entries input id after) (length p.ports) (omega (arith, inputs_counted id 0 p.ports changes, none)) is.some in
    let silence : AllByRecursion (λ (body : Cfg). source_given id (Set body) ≡ None) (inputs_under id 0 p.ports) =
    each_input_under (λ (body : Cfg). source_given id (Set body) ≡ None) id 0 p.ports (each_always (λ (q : Port). (j : ℕ) → source_given id (Set (cfg.Input id j q.vr q.kind)) ≡ None) (λ q j. refl) p.ports) in
    let unsaid : source id after ≡ None = ap newest_change (silent (source_given id) (inputs_under id 0 p.ports) changes silence) ∙ new.source_none in
    told_append d changes (inputs_under id 0 p.ports) (cfg.Source p.net ∷ told_interval p.link)
    (inputs_told d id 0 p.ports changes none new.free apart) (
      refl,
      source_fine d after p.net id is.same is.transport known unsaid,
      interval_told d (Set (cfg.Source p.net) ∷ after) p.link is.interval (or_left (has_id input id after) (has_id output id after) known),
    )

-- what leaves an id as it is
other_entry : (id other vr : ℕ) → eqb id other ≡ false → vr_for other (Some (record { id = id; vr = vr })) ≡ None
other_entry id other vr e = rw e refl

other_source : (net : NetInfo) (id other : ℕ) → net.data_id ≡ id → eqb id other ≡ false → source_given other (Set (cfg.Source net)) ≡ None
other_source net id other same e = rw (same, e) refl

other_target : (net : NetInfo) (id other : ℕ) → net.data_id ≡ id → eqb id other ≡ false → target_given other (Set (cfg.Target net)) ≡ None
other_target net id other same e = rw (same, e) refl

come_entries : (p : Part) (other : ℕ) (changes : List Change) → eqb p.link.id other ≡ false → entries input other (onto (come p) changes) ≡ entries input other changes
come_entries p other changes e =
    silent (λ change. vr_for other (input change)) (come p) changes
    (each_come (λ (body : Cfg). vr_for other (input (Set body)) ≡ None) p
    (each_always (λ (q : Port). (j : ℕ) → vr_for other (input (Set (cfg.Input p.link.id j q.vr q.kind))) ≡ None) (λ q j. other_entry p.link.id other q.vr e) p.ports) refl refl)

come_source : (p : Part) (other : ℕ) (changes : List Change) → IsPart p → eqb p.link.id other ≡ false → source other (onto (come p) changes) ≡ source other changes
come_source p other changes is e =
    ap newest_change (silent (source_given other) (come p) changes
    (each_come (λ (body : Cfg). source_given other (Set body) ≡ None) p
    (each_always (λ (q : Port). (j : ℕ) → source_given other (Set (cfg.Input p.link.id j q.vr q.kind)) ≡ None) (λ q j. refl) p.ports) (other_source p.net p.link.id other is.same e) refl))

come_wired : (p : Part) (vr : ℕ) (changes : List Change) → AllByRecursion (λ q. eqb q.vr vr ≡ false) p.ports → is_wired vr (onto (come p) changes) ≡ is_wired vr changes
come_wired p vr changes h =
    silent_any (is_input_of vr) (come p) changes
    (each_come (λ (body : Cfg). is_input_of vr (Set body) ≡ false) p
    (each_weaker (λ (q : Port). eqb q.vr vr ≡ false) (λ (q : Port). (j : ℕ) → is_input_of vr (Set (cfg.Input p.link.id j q.vr q.kind)) ≡ false) (λ q e j. e) p.ports h) refl refl)

-- two ids, and the inputs of the second are none of the first
abbrev pub AreApart : Part → Part → Type 0
AreApart p r = (eqb p.link.id r.link.id ≡ false) × AllByRecursion (λ (y : Port). AllByRecursion (λ (x : Port). eqb x.vr y.vr ≡ false) p.ports) r.ports

still_free : (d : SlaveDesc) (changes : List Change) (p : Part) (y : Port) → AllByRecursion (λ (x : Port). eqb x.vr y.vr ≡ false) p.ports → IsFree d changes y → IsFree d (onto (come p) changes) y
still_free d changes p y h free = (free.0, come_wired p y.vr changes h ∙ free.1)

still_new : (d : SlaveDesc) (changes : List Change) (p r : Part) → IsPart p → AreApart p r → IsNewIn d changes r → IsNewIn d (onto (come p) changes) r
still_new d changes p r is apart new = record {
  entries_none = come_entries p r.link.id changes apart.0 ∙ new.entries_none;
  source_none = come_source p r.link.id changes is apart.0 ∙ new.source_none;
  free = each_both (λ (y : Port). AllByRecursion (λ (x : Port). eqb x.vr y.vr ≡ false) p.ports) (IsFree d changes) (IsFree d (onto (come p) changes)) (still_free d changes p) r.ports apart.1 new.free;
}

abbrev pub IsInputPart : Part → Type 0
IsInputPart p = IsPart p × Pairwise (λ q r. eqb q.vr r.vr ≡ false) p.ports

-- data ids that come to a slave are told one after the other
pub all_come_told : (d : SlaveDesc) (changes : List Change) (ps : List Part) → AllByRecursion IsInputPart ps → Pairwise AreApart ps → AllByRecursion (IsNewIn d changes) ps → AreTold d changes (flat_map come ps)
all_come_told d changes [] is apart new = tt
all_come_told d changes (p ∷ ps) is apart new =
    told_append d changes (come p) (flat_map come ps) (come_told d changes p is.0.0 is.0.1 new.0)
    (all_come_told d (onto (come p) changes) ps is.1 apart.1
    (each_both (AreApart p) (IsNewIn d changes) (IsNewIn d (onto (come p) changes)) (λ r. still_new d changes p r is.0.0) ps apart.0 new.1))

-- each id with entries has its source
abbrev pub AreSourced : List Change → Type 0
AreSourced changes = (id : ℕ) → has_id input id changes ≡ true → is_some (source id changes) ≡ true

source_here : (net : NetInfo) (id : ℕ) (changes : List Change) → net.data_id ≡ id → is_some (source id (Set (cfg.Source net) ∷ changes)) ≡ true
source_here net id changes e = let t : (net.data_id == id) ≡ true = grind (arith, nat_tests, e) in rw t refl

come_is_sourced : (p : Part) (id : ℕ) (changes : List Change) → p.net.data_id ≡ id → is_some (source id (onto (come p) changes)) ≡ true
come_is_sourced p id changes e =
    let before : List Change = onto (inputs_under p.link.id 0 p.ports) changes in
    let then : onto (come p) changes ≡ onto (told_interval p.link) (Set (cfg.Source p.net) ∷ before) = onto_append (inputs_under p.link.id 0 p.ports) (cfg.Source p.net ∷ told_interval p.link) changes in
    let same : source id (onto (told_interval p.link) (Set (cfg.Source p.net) ∷ before)) ≡ source id (Set (cfg.Source p.net) ∷ before) =
    ap newest_change (silent (source_given id) (told_interval p.link) (Set (cfg.Source p.net) ∷ before) (each_interval (λ (body : Cfg). source_given id (Set body) ≡ None) p.link refl)) in
    ap (λ (c : List Change). is_some (source id c)) then ∙ ap is_some same ∙ source_here p.net id before e

come_sourced : (p : Part) (changes : List Change) → IsPart p → AreSourced changes → AreSourced (onto (come p) changes)
come_sourced p changes is h id has =
    by_test (eqb p.link.id id)
    (λ t. come_is_sourced p id changes (is.same ∙ eqb-true p.link.id id t))
    (λ t. ap is_some (come_source p id changes is t) ∙ h id (ap (λ (xs : List ℕ). nat_lt 0 (length xs)) (sym (come_entries p id changes t)) ∙ has))

pub all_come_sourced : (changes : List Change) (ps : List Part) → AllByRecursion IsPart ps → AreSourced changes → AreSourced (onto (flat_map come ps) changes)
all_come_sourced changes [] is h = h
all_come_sourced changes (p ∷ ps) is h =
    subst AreSourced (sym (onto_append (come p) (flat_map come ps) changes)) (all_come_sourced (onto (come p) changes) ps is.1 (come_sourced p changes is.0 h))

-- ---- data that goes

target_fine : (d : SlaveDesc) (changes : List Change) (net : NetInfo) (id : ℕ) → net.data_id ≡ id → is_transport net.protocol ≡ true → has_id output id changes ≡ true → target id changes ≡ None → refusal_of_setting d changes (cfg.Target net) ≡ None
unfolding refusal_of_setting
target_fine d changes net id e way known none = rw (way, e, known, none) refl

pub each_go : (P : Cfg → Type 0) (p : Part) → ((j vr : ℕ) → P (cfg.Output p.link.id j vr)) → P (cfg.Target p.net) → P (cfg.Steps p.link.id p.link.every) → AllByRecursion P (go p)
each_go P p h s i = each_append P (outputs_under p.link.id 0 p.ports) (cfg.Target p.net ∷ told_interval p.link) (each_output_under P p.link.id 0 p.ports h) (s, each_interval P p.link i)

-- at most 8 outputs, each of the slave's own
pub record IsOutputPart (d : SlaveDesc) (p : Part) : Type 0 where
  pub part : IsPart p
  pub few : length p.ports ≤ 8
  pub there : AllByRecursion (λ (q : Port). port_with q.vr d.outputs ≡ Some q) p.ports

-- nothing of the id was told
pub record IsNewOut (changes : List Change) (p : Part) : Type 0 where
  pub entries_none : entries output p.link.id changes ≡ []
  pub target_none : target p.link.id changes ≡ None

has_room : (id : ℕ) (changes : List Change) → length (ids output changes) ≤ 16 → is_full id changes ≡ false
has_room id changes h =
    let t : nat_le 17 (length (ids output changes)) ≡ false = grind (arith, nat_tests, h) in
    rw t (by_test (has_id output id changes) (λ e. rw e refl) (λ e. rw e refl))

pub go_told : (d : SlaveDesc) (changes : List Change) (p : Part) → IsOutputPart d p → length (ids output changes) ≤ 16 → IsNewOut changes p → AreTold d changes (go p)
go_told d changes p is few new =
    let id : ℕ = p.link.id in
    let after : List Change = onto (outputs_under id 0 p.ports) changes in
    let none : length (entries output id changes) ≡ 0 = ap length new.entries_none in
    let known : has_id output id after ≡ true = known_from (entries output id after) (length p.ports) (omega (arith, outputs_counted id 0 p.ports changes, none)) is.part.some in
    let silence : AllByRecursion (λ (body : Cfg). target_given id (Set body) ≡ None) (outputs_under id 0 p.ports) =
    each_output_under (λ (body : Cfg). target_given id (Set body) ≡ None) id 0 p.ports (λ j vr. refl) in
    let unsaid : target id after ≡ None = ap newest_change (silent (target_given id) (outputs_under id 0 p.ports) changes silence) ∙ new.target_none in
    told_append d changes (outputs_under id 0 p.ports) (cfg.Target p.net ∷ told_interval p.link)
    (outputs_told d id 0 p.ports changes none (omega (arith, is.few)) (has_room id changes few) is.there) (
      refl,
      target_fine d after p.net id is.part.same is.part.transport known unsaid,
      interval_told d (Set (cfg.Target p.net) ∷ after) p.link is.part.interval (or_right (has_id input id after) (has_id output id after) known),
    )

go_entries : (p : Part) (other : ℕ) (changes : List Change) → eqb p.link.id other ≡ false → entries output other (onto (go p) changes) ≡ entries output other changes
go_entries p other changes e =
    silent (λ change. vr_for other (output change)) (go p) changes (each_go (λ (body : Cfg). vr_for other (output (Set body)) ≡ None) p (λ j vr. other_entry p.link.id other vr e) refl refl)

go_target : (p : Part) (other : ℕ) (changes : List Change) → IsPart p → eqb p.link.id other ≡ false → target other (onto (go p) changes) ≡ target other changes
go_target p other changes is e =
    ap newest_change (silent (target_given other) (go p) changes (each_go (λ (body : Cfg). target_given other (Set body) ≡ None) p (λ j vr. refl) (other_target p.net p.link.id other is.same e) refl))

after_targets : (p : Part) (changes : List Change) → ids output (onto (go p) changes) ≡ ids output (onto (outputs_under p.link.id 0 p.ports) changes)
after_targets p changes =
    let before : List Change = onto (outputs_under p.link.id 0 p.ports) changes in
    ap (ids output) (onto_append (outputs_under p.link.id 0 p.ports) (cfg.Target p.net ∷ told_interval p.link) changes)
    ∙ ap ascending (silent (id_of output) (cfg.Target p.net ∷ told_interval p.link) before (refl, each_interval (λ (body : Cfg). id_of output (Set body) ≡ None) p.link refl))

go_few : (p : Part) (changes : List Change) → length (ids output (onto (go p) changes)) ≤ length (ids output changes) + 1
go_few p changes = subst (λ (xs : List ℕ). length xs ≤ length (ids output changes) + 1) (sym (after_targets p changes)) (outputs_few p.link.id 0 p.ports changes)

still_new_out : (changes : List Change) (p r : Part) → IsPart p → eqb p.link.id r.link.id ≡ false → IsNewOut changes r → IsNewOut (onto (go p) changes) r
still_new_out changes p r is apart new = record {
  entries_none = go_entries p r.link.id changes apart ∙ new.entries_none;
  target_none = go_target p r.link.id changes is apart ∙ new.target_none;
}

-- data ids that a slave sends are told one after the other, at most 17
pub all_go_told : (d : SlaveDesc) (changes : List Change) (ps : List Part) → AllByRecursion (IsOutputPart d) ps → Pairwise (λ (p r : Part). eqb p.link.id r.link.id ≡ false) ps → length (ids output changes) + length ps ≤ 17
    → AllByRecursion (IsNewOut changes) ps → AreTold d changes (flat_map go ps)
all_go_told d changes [] is apart few new = tt
all_go_told d changes (p ∷ ps) is apart few new =
    told_append d changes (go p) (flat_map go ps) (go_told d changes p is.0 (omega (arith, few)) new.0)
    (all_go_told d (onto (go p) changes) ps is.1 apart.1 (omega (arith, few, go_few p changes))
    (each_both (λ (r : Part). eqb p.link.id r.link.id ≡ false) (IsNewOut changes) (IsNewOut (onto (go p) changes)) (λ r. still_new_out changes p r is.0.part) ps apart.0 new.1))

-- each id with entries has its target
abbrev pub AreTargeted : List Change → Type 0
AreTargeted changes = (id : ℕ) → has_id output id changes ≡ true → is_some (target id changes) ≡ true

target_here : (net : NetInfo) (id : ℕ) (changes : List Change) → net.data_id ≡ id → is_some (target id (Set (cfg.Target net) ∷ changes)) ≡ true
target_here net id changes e = let t : (net.data_id == id) ≡ true = grind (arith, nat_tests, e) in rw t refl

go_is_targeted : (p : Part) (id : ℕ) (changes : List Change) → p.net.data_id ≡ id → is_some (target id (onto (go p) changes)) ≡ true
go_is_targeted p id changes e =
    let before : List Change = onto (outputs_under p.link.id 0 p.ports) changes in
    let then : onto (go p) changes ≡ onto (told_interval p.link) (Set (cfg.Target p.net) ∷ before) = onto_append (outputs_under p.link.id 0 p.ports) (cfg.Target p.net ∷ told_interval p.link) changes in
    let same : target id (onto (told_interval p.link) (Set (cfg.Target p.net) ∷ before)) ≡ target id (Set (cfg.Target p.net) ∷ before) =
    ap newest_change (silent (target_given id) (told_interval p.link) (Set (cfg.Target p.net) ∷ before) (each_interval (λ (body : Cfg). target_given id (Set body) ≡ None) p.link refl)) in
    ap (λ (c : List Change). is_some (target id c)) then ∙ ap is_some same ∙ target_here p.net id before e

go_targeted : (p : Part) (changes : List Change) → IsPart p → AreTargeted changes → AreTargeted (onto (go p) changes)
go_targeted p changes is h id has =
    by_test (eqb p.link.id id)
    (λ t. go_is_targeted p id changes (is.same ∙ eqb-true p.link.id id t))
    (λ t. ap is_some (go_target p id changes is t) ∙ h id (ap (λ (xs : List ℕ). nat_lt 0 (length xs)) (sym (go_entries p id changes t)) ∙ has))

pub all_go_targeted : (d : SlaveDesc) (changes : List Change) (ps : List Part) → AllByRecursion (IsOutputPart d) ps → AreTargeted changes → AreTargeted (onto (flat_map go ps) changes)
all_go_targeted d changes [] is h = h
all_go_targeted d changes (p ∷ ps) is h =
    subst AreTargeted (sym (onto_append (go p) (flat_map go ps) changes)) (all_go_targeted d (onto (go p) changes) ps is.1 (go_targeted p changes is.0.part h))
