-- Each list after a run is taken, and so are all lists from run to run.
use Rattle.std.proofs.Common.{◌≡◌, ℕ, zero, suc, ◌+◌, true, List, [], refl, ap, sym, ◌∙◌, subst, arith, None, ℤ}
use Rattle.std.specs.List.{flat_map, range_with_len}
use Rattle.dcp_types.specs.declared.states.State.TheVariants.{Configuration}
use Rattle.pdu_layout.specs.declared.messages.Cfg.{Cfg}
use Rattle.fixed_models.specs.Views.{View}
use Rattle.scenario.specs.declared.scenarios.Scenario.{Scenario}
use Rattle.scenario.specs.Settings.{changed, parameters}
use Rattle.master_spec.specs.PlanSetup.{setup_list, adjust_list}
use Rattle.slave_spec.specs.Changes.{complete}
use Rattle.slave_spec.specs.Payloads.{WiringState}
use Rattle.slave_spec.specs.declared.words.Asked.TheVariants as asked
use Rattle.slave_spec.specs.declared.words.SlaveSetup.{SlaveSetup}
use Rattle.slave_spec.specs.Transport.{Ack}
use Rattle.slave_spec.specs.Plants.{Plant, model_with, output_types}
use Rattle.slave_spec.specs.Requests.{refusal, accepted, answer, answered_plant, answers}
use Rattle.plan_laws.specs.Taking.{IsScenarioSlave, TakesAll, plant_after_all}
use Rattle.plan_laws.specs.Runs.{Happening, TakesAmid, after_amid, lists_until}
use Rattle.plan_laws.proofs.Machines.{AreFine, takes_append, after_append, takes_settings, settings_lead, settings_begin}
use Rattle.plan_laws.proofs.Settings.{next_fine, settings_for, parameters_next}
use Rattle.plan_laws.proofs.Taken.{setup_taken, setup_stays, setup_sets, setup_completes}
use Rattle.plan_laws.proofs.Alike.{AreAlike, amid_taken, amid_alike, same_complete}

-- ---- the list after a run

adjust_fine : (sc : Scenario) (s : ℕ) (x : SlaveSetup) (p : Plant) (r : ℕ) → IsScenarioSlave sc s x.desc → p.model.kind ≡ x.desc.kind → p.model.parameters ≡ parameters sc s x.desc r → AreFine p.model.kind p.model.parameters s (settings_for sc r)
adjust_fine sc s x p r h kind same =
    subst (λ k. AreFine k p.model.parameters s (settings_for sc r)) (sym kind)
    (subst (λ (ps : List ℤ). AreFine x.desc.kind ps s (settings_for sc r)) (sym same) (next_fine sc s x.desc r h))

pub adjust_taken : (sc : Scenario) (s : ℕ) (x : SlaveSetup) (p : Plant) (r : ℕ) → IsScenarioSlave sc s x.desc → p.state ≡ Configuration → p.model.kind ≡ x.desc.kind → p.model.parameters ≡ parameters sc s x.desc r → TakesAll x p (adjust_list sc r s)
adjust_taken sc s x p r h here kind same = takes_settings x p s (settings_for sc r) here (adjust_fine sc s x p r h kind same)

pub adjust_stays : (sc : Scenario) (s : ℕ) (x : SlaveSetup) (p : Plant) (r : ℕ) → IsScenarioSlave sc s x.desc → p.model.kind ≡ x.desc.kind → p.model.parameters ≡ parameters sc s x.desc r
    → ((plant_after_all x p (adjust_list sc r s)).state ≡ p.state) × ((plant_after_all x p (adjust_list sc r s)).wires ≡ p.wires)
adjust_stays sc s x p r h kind same =
    let led = settings_lead x p s (settings_for sc r) (adjust_fine sc s x p r h kind same) in
    (led.state, led.wires)

pub adjust_sets : (sc : Scenario) (s : ℕ) (x : SlaveSetup) (p : Plant) (r : ℕ) → IsScenarioSlave sc s x.desc → p.model.kind ≡ x.desc.kind → p.model.parameters ≡ parameters sc s x.desc r
    → ((plant_after_all x p (adjust_list sc r s)).model.kind ≡ x.desc.kind) × ((plant_after_all x p (adjust_list sc r s)).model.parameters ≡ parameters sc s x.desc (r + 1))
adjust_sets sc s x p r h kind same =
    let led = settings_lead x p s (settings_for sc r) (adjust_fine sc s x p r h kind same) in
    (led.kind ∙ kind, led.parameters ∙ ap (λ (ps : List ℤ). changed ps s (settings_for sc r)) same ∙ parameters_next sc s x.desc r h.sound)

pub adjust_begins : (sc : Scenario) (s : ℕ) (x : SlaveSetup) (p : Plant) (r : ℕ) → IsScenarioSlave sc s x.desc → p.model ≡ model_with x.desc (parameters sc s x.desc r) → (plant_after_all x p (adjust_list sc r s)).model ≡ model_with x.desc (parameters sc s x.desc (r + 1))
adjust_begins sc s x p r h is =
    settings_begin x p x.desc.kind (parameters sc s x.desc r) (output_types x.desc) s (settings_for sc r) is (next_fine sc s x.desc r h) ∙ ap (model_with x.desc) (parameters_next sc s x.desc r h.sound)

-- ---- from run to run

-- the model of a run
record IsOfRun (sc : Scenario) (s : ℕ) (x : SlaveSetup) (r : ℕ) (p : Plant) : Type 0 where
  kind : p.model.kind ≡ x.desc.kind
  parameters : p.model.parameters ≡ parameters sc s x.desc r

after_one : (sc : Scenario) (s : ℕ) (x : SlaveSetup) (p : Plant) (r : ℕ) → IsScenarioSlave sc s x.desc → IsOfRun sc s x r p → IsOfRun sc s x (r + 1) (plant_after_all x p (adjust_list sc r s))
after_one sc s x p r h m = let set = adjust_sets sc s x p r h m.kind m.parameters in record { kind = set.0; parameters = set.1 }

later_taken : (sc : Scenario) (s : ℕ) (x : SlaveSetup) (p : Plant) (r n : ℕ) → IsScenarioSlave sc s x.desc → p.state ≡ Configuration → IsOfRun sc s x r p → TakesAll x p (flat_map (λ k. adjust_list sc k s) (range_with_len r n))
later_taken sc s x p r zero h here m = tt
later_taken sc s x p r (suc n) h here m =
    takes_append x p (adjust_list sc r s) (flat_map (λ k. adjust_list sc k s) (range_with_len (r + 1) n)) (adjust_taken sc s x p r h here m.kind m.parameters)
    (later_taken sc s x (plant_after_all x p (adjust_list sc r s)) (r + 1) n h ((adjust_stays sc s x p r h m.kind m.parameters).0 ∙ here) (after_one sc s x p r h m))

later_lead : (sc : Scenario) (s : ℕ) (x : SlaveSetup) (p : Plant) (r n : ℕ) → IsScenarioSlave sc s x.desc → IsOfRun sc s x r p
    → IsOfRun sc s x (r + n) (plant_after_all x p (flat_map (λ k. adjust_list sc k s) (range_with_len r n))) × ((plant_after_all x p (flat_map (λ k. adjust_list sc k s) (range_with_len r n))).wires ≡ p.wires)
later_lead sc s x p r zero h m = (subst (λ (k : ℕ). IsOfRun sc s x k p) (omega arith) m, refl)
later_lead sc s x p r (suc n) h m =
    let q : Plant = plant_after_all x p (adjust_list sc r s) in
    let rest = later_lead sc s x q (r + 1) n h (after_one sc s x p r h m) in
    let more : (r + 1) + n ≡ r + suc n = omega arith in
    let joined = after_append x p (adjust_list sc r s) (flat_map (λ k. adjust_list sc k s) (range_with_len (r + 1) n)) in (
      subst (IsOfRun sc s x (r + suc n)) (sym joined) (subst (λ (k : ℕ). IsOfRun sc s x k (plant_after_all x q (flat_map (λ k. adjust_list sc k s) (range_with_len (r + 1) n)))) more rest.0),
      ap (λ (z : Plant). z.wires) joined ∙ rest.1 ∙ (adjust_stays sc s x p r h m.kind m.parameters).1,
    )

set_up : (sc : Scenario) (s : ℕ) (x : SlaveSetup) (p : Plant) → IsScenarioSlave sc s x.desc → IsOfRun sc s x 1 (plant_after_all x p (setup_list sc s x.desc))
set_up sc s x p h = record { kind = ap (λ (m : View). m.kind) (setup_sets sc s x p h); parameters = ap (λ (m : View). m.parameters) (setup_sets sc s x p h) }

lists_taken : (sc : Scenario) (s : ℕ) (x : SlaveSetup) (p : Plant) (r : ℕ) → IsScenarioSlave sc s x.desc → p.state ≡ Configuration → TakesAll x p (lists_until sc s x.desc r)
lists_taken sc s x p r h here =
    takes_append x p (setup_list sc s x.desc) (flat_map (λ k. adjust_list sc k s) (range_with_len 1 r)) (setup_taken sc s x p h here)
    (later_taken sc s x (plant_after_all x p (setup_list sc s x.desc)) 1 r h (setup_stays sc s x p h ∙ here) (set_up sc s x p h))

record IsLed (sc : Scenario) (s : ℕ) (x : SlaveSetup) (r : ℕ) (p : Plant) : Type 0 where
  model : IsOfRun sc s x r p
  complete : complete p.wires.changes ≡ true

lists_lead : (sc : Scenario) (s : ℕ) (x : SlaveSetup) (p : Plant) (r : ℕ) → IsScenarioSlave sc s x.desc → IsLed sc s x (r + 1) (plant_after_all x p (lists_until sc s x.desc r))
lists_lead sc s x p r h =
    let q : Plant = plant_after_all x p (setup_list sc s x.desc) in
    let led = later_lead sc s x q 1 r h (set_up sc s x p h) in
    let more : 1 + r ≡ r + 1 = omega arith in
    subst (IsLed sc s x (r + 1)) (sym (after_append x p (setup_list sc s x.desc) (flat_map (λ k. adjust_list sc k s) (range_with_len 1 r))))
    (record {
      model = subst (λ (k : ℕ). IsOfRun sc s x k (plant_after_all x q (flat_map (λ k. adjust_list sc k s) (range_with_len 1 r)))) more led.0;
      complete = ap (λ (w : WiringState). complete w.changes) led.1 ∙ setup_completes sc s x p h;
    })

-- the machine as it would stand in CONFIGURATION
home_alike : (p : Plant) → AreAlike (record p { state = Configuration }) p
home_alike p = record { kind = refl; parameters = refl; changes = refl }

pub runs_taken : (sc : Scenario) (s : ℕ) (x : SlaveSetup) (p : Plant) (happened : ℕ → List Happening) (r : ℕ) → IsScenarioSlave sc s x.desc → TakesAmid x p happened 0 (lists_until sc s x.desc r)
runs_taken sc s x p happened r h = amid_taken x (record p { state = Configuration }) p happened 0 (lists_until sc s x.desc r) (home_alike p) (lists_taken sc s x (record p { state = Configuration }) r h refl)

runs_lead : (sc : Scenario) (s : ℕ) (x : SlaveSetup) (p : Plant) (happened : ℕ → List Happening) (r : ℕ) → AreAlike (plant_after_all x p (lists_until sc s x.desc r)) (after_amid x p happened 0 (lists_until sc s x.desc r))
runs_lead sc s x p happened r = amid_alike x p p happened 0 (lists_until sc s x.desc r) (record { kind = refl; parameters = refl; changes = refl })

pub runs_set : (sc : Scenario) (s : ℕ) (x : SlaveSetup) (p : Plant) (happened : ℕ → List Happening) (r : ℕ) → IsScenarioSlave sc s x.desc → (after_amid x p happened 0 (lists_until sc s x.desc r)).model.parameters ≡ parameters sc s x.desc (r + 1)
runs_set sc s x p happened r h = (runs_lead sc s x p happened r).parameters ∙ (lists_lead sc s x p r h).model.parameters

pub runs_complete : (sc : Scenario) (s : ℕ) (x : SlaveSetup) (p : Plant) (happened : ℕ → List Happening) (r : ℕ) → IsScenarioSlave sc s x.desc → complete (after_amid x p happened 0 (lists_until sc s x.desc r)).wires.changes ≡ true
runs_complete sc s x p happened r h =
    let ideal : Plant = plant_after_all x p (lists_until sc s x.desc r) in
    let real : Plant = after_amid x p happened 0 (lists_until sc s x.desc r) in
    same_complete real.wires.changes ∙ ap complete (runs_lead sc s x p happened r).changes ∙ sym (same_complete ideal.wires.changes) ∙ (lists_lead sc s x p r h).complete

-- ---- answers

plainly : (x : SlaveSetup) (p : Plant) (body : Cfg) → answered_plant x p (asked.Setting body) None ≡ record { answer = Ack; notices = []; after = accepted x p (asked.Setting body) }
unfolding answer
plainly x p body = refl

pub acknowledged : (x : SlaveSetup) (p : Plant) (body : Cfg) → refusal x p (asked.Setting body) ≡ None → answers x (asked.Setting body) p ≡ record { answer = Ack; notices = []; after = accepted x p (asked.Setting body) }
acknowledged x p body fine = ap (answered_plant x p (asked.Setting body)) fine ∙ plainly x p body
