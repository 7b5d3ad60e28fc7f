-- What a slave shows to the master is read back.
use Rattle.std.proofs.Common.{◌≡◌, ℕ, suc, ◌+◌, ◌≤◌, Bool, true, false, if◌then◌else◌, Option, Some, None, Result, Ok, Err, List, [], ◌∷◌, ◌++◌, map, length, take, drop, refl, sym, ap, ◌∙◌, arith, ℤ}
use Rattle.std.specs.Prelude.{◌==◌, ◌≢◌, reverse, slice_get}
use Rattle.std.specs.List.{AllByRecursion, cons_option, flat_map}
use Rattle.std.proofs.lemmas.Bool.{eq-eqb}
use Rattle.std.proofs.lemmas.Bool.Decides.{nat_tests}
use Rattle.std.proofs.lemmas.List.{reverse-append, append_assoc}
use Rattle.dcp_types.specs.Values.{width}
use Rattle.dcp_types.specs.declared.data_types.DataType.{DataType}
use Rattle.dcp_types.specs.declared.fault_codes.FaultCode.{FaultCode}
use Rattle.dcp_types.specs.declared.fault_codes.FaultCode.TheVariants.{OutOfRange}
use Rattle.fixed_models.specs.Steps.{outputs, all_fit}
use Rattle.pdu_layout.specs.Reading.{value_in}
use Rattle.pdu_layout.specs.declared.messages.Cfg.{Cfg}
use Rattle.pdu_layout.specs.declared.messages.Cfg.TheVariants as cfg
use Rattle.slave_desc.specs.declared.ports.Port.{Port}
use Rattle.slave_desc.specs.declared.descriptions.SlaveDesc.{SlaveDesc}
use Rattle.scenario.specs.Settings.{parameters}
use Rattle.scenario.specs.declared.scenarios.Scenario.{Scenario}
use Rattle.lockstep.specs.Lockstep.{state, shown, shown_of, shown_at}
use Rattle.master_spec.specs.declared.links.DataLink.{DataLink}
use Rattle.master_spec.specs.declared.pairs.Pair.{Pair}
use Rattle.master_spec.specs.Links.{positions, wire_links}
use Rattle.master_spec.specs.PlanSetup.{numbered, net_info, input_at, output_at, told_interval, incoming, outgoing}
use Rattle.plan_laws.specs.Taking.{IsScenarioSlave}
use Rattle.plan_laws.proofs.Lists.{Pairwise, each_weaker, each_append, each_filter, pairwise_from_all}
use Rattle.plan_laws.proofs.Links.{IsWireLink, links_wired, links_to, links_of}
use Rattle.plan_laws.proofs.Planned.{slave_there}
use Rattle.master_spec.specs.Course.{values_in}
use Rattle.slave_spec.specs.Changes.{Change, Set, output, entries}
use Rattle.slave_spec.specs.Refusals.{port_with}
use Rattle.slave_spec.specs.Payloads.{port_type, types_in, cut_values, output_value, payload}
use Rattle.slave_laws.specs.Wiring.Wired.{changes_with, changes_after, planned_changes}
use Rattle.slave_laws.specs.Wiring.Links.{link_interval, from_of, interval_of, sender_of}
use Rattle.slave_laws.proofs.Wiring.Found.{watch_found}
use Rattle.slave_laws.proofs.Wiring.Parts.{after_append, each_numbered}
use Rattle.slave_laws.proofs.Wiring.Planned.{first, planned_is, IsOf, IsSilent, told_silent, silent_of, outgoing_of}
use Rattle.slave_laws.proofs.Wiring.Back.{read_back}
use Rattle.slave_laws.proofs.Wiring.RowParts.{shown_length}

-- ---- the entries of the data id under which a slave shows its outputs
-- parts of another id make none
other_entries : (s id : ℕ) (bodies : List Cfg) (changes : List Change) → (id == s) ≡ false → AllByRecursion (IsOf id) bodies → entries output s (changes_after changes bodies) ≡ entries output s changes
other_entries s id [] changes e h = refl
other_entries s id (body ∷ bodies) changes e h =
    other_entries s id bodies (changes_with body changes) e h.1 ∙ ap (entries output s) ((h.0).kept changes)
    ∙ ap (λ (o : Option ℕ). cons_option o (entries output s changes)) ((h.0).silent s e)

module _ (sc : Scenario) (s : ℕ) (d : SlaveDesc) where
  input_silent : (id j : ℕ) (o : Option Port) → AllByRecursion IsSilent (input_at id j o)
  input_silent id j None = tt
  input_silent id j (Some p) = (record { kept = λ changes. refl; silent = λ other. refl }, tt)

  incoming_silent : (l : DataLink) → AllByRecursion IsSilent (incoming sc d l)
  incoming_silent l = each_append IsSilent (numbered (λ i (p : Pair). input_at l.id i (slice_get d.inputs p.to)) 0 (positions sc.wires l.from l.to)) (cfg.Source (net_info sc l.id l.from) ∷ told_interval l)
      (each_numbered IsSilent (λ i (p : Pair). input_at l.id i (slice_get d.inputs p.to)) 0 (positions sc.wires l.from l.to) (λ j p. input_silent l.id j (slice_get d.inputs p.to))) (record { kept = λ changes. refl; silent = λ other. refl }, told_silent sc s l)

  incoming_entries : (ls : List DataLink) (changes : List Change) → entries output s (changes_after changes (flat_map (incoming sc d) ls)) ≡ entries output s changes
  incoming_entries [] changes = refl
  incoming_entries (l ∷ ls) changes =
      let no' : (suc s == s) ≡ false = grind (arith, nat_tests) in
      ap (entries output s) (after_append changes (incoming sc d l) (flat_map (incoming sc d) ls)) ∙ incoming_entries ls (changes_after changes (incoming sc d l))
      ∙ other_entries s (suc s) (incoming sc d l) changes no' (silent_of sc s (suc s) (incoming sc d l) (incoming_silent l))

  outgoing_entries : (ls : List DataLink) (changes : List Change) → AllByRecursion (λ (l : DataLink). (l.id == s) ≡ false) ls → entries output s (changes_after changes (flat_map (outgoing sc d) ls)) ≡ entries output s changes
  outgoing_entries [] changes h = refl
  outgoing_entries (l ∷ ls) changes h =
      ap (entries output s) (after_append changes (outgoing sc d l) (flat_map (outgoing sc d) ls)) ∙ outgoing_entries ls (changes_after changes (outgoing sc d l)) h.1
      ∙ other_entries s l.id (outgoing sc d l) changes h.0 (outgoing_of sc s d l)

  -- one entry for each output
  abbrev pushed : List Port → List ℕ → List ℕ
  pushed [] base = base
  pushed (p ∷ ps) base = pushed ps (p.vr ∷ base)

  watched_entries : (i : ℕ) (ps : List Port) (changes : List Change) → entries output s (changes_after changes (numbered (λ i (p : Port). output_at s i (Some p)) i ps)) ≡ pushed ps (entries output s changes)
  watched_entries i [] changes = refl
  watched_entries i (p ∷ ps) changes =
      watched_entries (i + 1) ps (Set (cfg.Output s i p.vr) ∷ changes)
      ∙ ap (λ (b : Bool). pushed ps (cons_option (if b then Some p.vr else None) (entries output s changes))) (eq-eqb s s refl)

  pushed_reverse : (ps : List Port) (base : List ℕ) → reverse (pushed ps base) ≡ reverse base ++ map (λ (p : Port). p.vr) ps
  pushed_reverse [] base = sym (nothing (reverse base))
    where
      nothing : (xs : List ℕ) → xs ++ [] ≡ xs
      nothing [] = refl
      nothing (x ∷ xs) = ap (λ (z : List ℕ). x ∷ z) (nothing xs)
  pushed_reverse (p ∷ ps) base =
      pushed_reverse ps (p.vr ∷ base) ∙ ap (λ (z : List ℕ). z ++ map (λ (p : Port). p.vr) ps) (reverse-append (p.vr ∷ []) base) ∙ append_assoc (reverse base) (p.vr ∷ []) (map (λ (p : Port). p.vr) ps)

  planned_entries : IsScenarioSlave sc s d → reverse (entries output s (planned_changes sc s d)) ≡ map (λ (p : Port). p.vr) d.outputs
  planned_entries of =
      let there = slave_there sc.slaves s d (of.sound).slaves of.slave in
      let few = ((of.sound).few_slaves).1 in
      let last = there.last in
      let a : List Change = changes_after (first d) (flat_map (incoming sc d) (links_to sc s)) in
      let b : List Change = changes_after a (flat_map (outgoing sc d) (links_of sc s)) in
      let apart : AllByRecursion (λ (l : DataLink). (l.id == s) ≡ false) (links_of sc s) =
      each_filter (λ (l : DataLink). (l.id == s) ≡ false) (λ (l : DataLink). l.from == s) (wire_links sc)
      (each_weaker (IsWireLink sc) (λ (l : DataLink). (l.id == s) ≡ false) (λ l w. above l.id (omega (arith, w.id, few, last))) (wire_links sc) (links_wired sc of.sound)) in
      let none : entries output s b ≡ [] = outgoing_entries (links_of sc s) a apart ∙ incoming_entries (links_to sc s) (first d) in
      let ports : List Cfg = numbered (λ i (p : Port). output_at s i (Some p)) 0 d.outputs in
      ap (λ (z : List Change). reverse (entries output s z)) (planned_is sc s d ∙ after_append b ports _)
      ∙ ap reverse (watched_entries 0 d.outputs b ∙ ap (pushed d.outputs) none) ∙ pushed_reverse d.outputs []
    where
      above : (id : ℕ) → suc s ≤ id → (id == s) ≡ false
      above id h = grind (arith, nat_tests, h)

-- ---- references that are apart
skipped : {A : Type 0} (v : A) (f : ℕ → A) (vr : ℕ) (ps : List Port) → AllByRecursion (λ (q : Port). vr ≢ q.vr) ps → map (λ k. if vr == k then v else f k) (map (λ (p : Port). p.vr) ps) ≡ map f (map (λ (p : Port). p.vr) ps)
skipped v f vr [] h = refl
skipped v f vr (q ∷ qs) h =
    let x = h.0 in
    let e : (vr == q.vr) ≡ false = grind (arith, nat_tests, x) in
    ap (λ (b : Bool). (if b then v else f q.vr) ∷ map (λ k. if vr == k then v else f k) (map (λ (p : Port). p.vr) qs)) e ∙ ap (λ z. f q.vr ∷ z) (skipped v f vr qs h.1)

kind_if : (p : Port) (o : Option Port) (b : Bool) → port_type (if b then Some p else o) ≡ (if b then p.kind else port_type o)
kind_if p o true = refl
kind_if p o false = refl

kinds_back : (ports : List Port) → Pairwise (λ (p q : Port). p.vr ≢ q.vr) ports → map (λ vr. port_type (port_with vr ports)) (map (λ (p : Port). p.vr) ports) ≡ map (λ (p : Port). p.kind) ports
kinds_back [] h = refl
kinds_back (p ∷ ps) h =
    each (map (λ (q : Port). q.vr) (p ∷ ps))
    ∙ ap (λ (b : Bool). (if b then p.kind else port_type (port_with p.vr ps)) ∷ map (λ vr. if p.vr == vr then p.kind else port_type (port_with vr ps)) (map (λ (q : Port). q.vr) ps)) (eq-eqb p.vr p.vr refl)
    ∙ ap (λ (z : List DataType). p.kind ∷ z) (skipped p.kind (λ vr. port_type (port_with vr ps)) p.vr ps h.0 ∙ kinds_back ps h.1)
  where
    each : (vrs : List ℕ) → map (λ vr. port_type (port_with vr (p ∷ ps))) vrs ≡ map (λ vr. if p.vr == vr then p.kind else port_type (port_with vr ps)) vrs
    each [] = refl
    each (vr ∷ vrs) = ap (λ (k : DataType). k ∷ map (λ vr. port_type (port_with vr (p ∷ ps))) vrs) (kind_if p (port_with vr ps) (p.vr == vr)) ∙ ap (λ (z : List DataType). (if p.vr == vr then p.kind else port_type (port_with vr ps)) ∷ z) (each vrs)

values_back : (ports : List Port) (vs : List ℤ) → Pairwise (λ (p q : Port). p.vr ≢ q.vr) ports → length vs ≡ length ports → map (λ vr. output_value vr ports vs) (map (λ (p : Port). p.vr) ports) ≡ vs
values_back [] [] h n = refl
values_back [] (v ∷ vs) h n = absurd (omega (arith, n))
values_back (p ∷ ps) [] h n = absurd (omega (arith, n))
values_back (p ∷ ps) (v ∷ vs) h n =
    ap (λ (b : Bool). (if b then v else output_value p.vr ps vs) ∷ map (λ vr. if p.vr == vr then v else output_value vr ps vs) (map (λ (q : Port). q.vr) ps)) (eq-eqb p.vr p.vr refl)
    ∙ ap (λ (z : List ℤ). v ∷ z) (skipped v (λ vr. output_value vr ps vs) p.vr ps h.0 ∙ values_back ps vs h.1 (omega (arith, n)))

-- ---- values
cut_is : (kinds : List DataType) (bytes : List ℕ) → values_in kinds bytes ≡ cut_values kinds bytes
cut_is [] bytes = refl
cut_is (kind ∷ kinds) bytes = ap (λ (z : List ℤ). value_in kind (take (width kind) bytes) ∷ z) (cut_is kinds (drop (width kind) bytes))

-- what is shown lies in its types
shown_fits : (types : List DataType) (us vs : List ℤ) → shown_of types us ≡ Ok vs → all_fit types vs ≡ true
shown_fits types us vs h = by (all_fit types us) refl h
  where
    by : (b : Bool) → all_fit types us ≡ b → (if b then Ok us else Err OutOfRange) ≡ Ok vs → all_fit types vs ≡ true
    by true e k = let w : us ≡ vs = cc in ap (all_fit types) (sym w) ∙ e
    by false e k = absurd cc

fits_if_shown : (sc : Scenario) (rows : List (List ℤ)) (s : ℕ) (d : SlaveDesc) (r k : ℕ) (vs : List ℤ) → shown sc rows s d r k ≡ Ok vs → all_fit (map (λ (p : Port). p.kind) d.outputs) vs ≡ true
fits_if_shown sc rows s d r k vs h = by (state sc rows s d r k) h
  where
    by : (x : Result (List ℤ) FaultCode) → shown_at sc s d r x ≡ Ok vs → all_fit (map (λ (p : Port). p.kind) d.outputs) vs ≡ true
    by (Ok x) h = shown_fits (map (λ (p : Port). p.kind) d.outputs) (outputs d.kind (parameters sc s d r) x) vs h
    by (Err code) h = absurd cc

-- the payload of what is shown, cut into the values of the outputs
pub watch_back : (sc : Scenario) (s : ℕ) (d : SlaveDesc) → IsScenarioSlave sc s d → (rows : List (List ℤ)) (r k : ℕ) (vs : List ℤ) → shown sc rows s d r k ≡ Ok vs → values_in (map (λ (p : Port). p.kind) d.outputs) (payload d s (planned_changes sc s d) vs) ≡ vs
watch_back sc s d of rows r k vs h =
    let fit = fits_if_shown sc rows s d r k vs h in
    let there = slave_there sc.slaves s d (of.sound).slaves of.slave in
    let apart = pairwise_from_all (λ (p q : Port). p.vr ≢ q.vr) d.outputs (there.desc).outputs_apart in
    let es = entries output s (planned_changes sc s d) in
    let vrs = planned_entries sc s d of in
    let types : types_in d.outputs es ≡ map (λ (p : Port). p.kind) d.outputs = ap (map (λ vr. port_type (port_with vr d.outputs))) vrs ∙ kinds_back d.outputs apart in
    let bytes = payload d s (planned_changes sc s d) vs in
    cut_is (map (λ (p : Port). p.kind) d.outputs) bytes ∙ ap (λ (ks : List DataType). cut_values ks bytes) (sym types) ∙ read_back d s (planned_changes sc s d) vs fit
    ∙ ap (map (λ vr. output_value vr d.outputs vs)) vrs ∙ values_back d.outputs vs apart (shown_length sc s d r (state sc rows s d r k) vs h)

-- ---- the watch link
pub watch_interval : (sc : Scenario) (s : ℕ) (d : SlaveDesc) → IsScenarioSlave sc s d → interval_of sc s ≡ 1
watch_interval sc s d of = let there = slave_there sc.slaves s d (of.sound).slaves of.slave in ap link_interval (watch_found sc of.sound s there.first there.last)

pub watch_sender : (sc : Scenario) (s : ℕ) (d : SlaveDesc) → IsScenarioSlave sc s d → sender_of sc s ≡ s
watch_sender sc s d of = let there = slave_there sc.slaves s d (of.sound).slaves of.slave in ap from_of (watch_found sc of.sound s there.first there.last)
