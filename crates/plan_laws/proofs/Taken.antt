-- The lists of a plan are taken whole.
use Rattle.std.proofs.Common.{◌≡◌, ℕ, true, List, [], ◌∷◌, ◌++◌, refl, ap, sym, ◌∙◌, subst, arith, append_assoc, None}
use Rattle.std.specs.Prelude.{◌==◌}
use Rattle.std.proofs.lemmas.Bool.Decides.{nat_tests}
use Rattle.dcp_types.specs.declared.states.State.TheVariants.{Configuration}
use Rattle.pdu_layout.specs.declared.messages.Cfg.{Cfg}
use Rattle.pdu_layout.specs.declared.messages.Cfg.TheVariants as cfg
use Rattle.slave_desc.specs.declared.descriptions.SlaveDesc.{SlaveDesc}
use Rattle.scenario.specs.declared.scenarios.Scenario.{Scenario}
use Rattle.scenario.specs.Settings.{changed, parameters}
use Rattle.std.specs.List.{flat_map}
use Rattle.master_spec.specs.PlanSetup.{incoming, outgoing, watched, settings_of, setup_list}
use Rattle.plan_laws.proofs.Links.{links_to, links_of}
use Rattle.slave_spec.specs.Changes.{Change, Set, complete}
use Rattle.slave_spec.specs.Refusals as wiring
use Rattle.slave_spec.specs.Payloads.{WiringState, bare_wires}
use Rattle.slave_spec.specs.declared.words.Asked.TheVariants as asked
use Rattle.slave_spec.specs.declared.words.SlaveSetup.{SlaveSetup}
use Rattle.slave_spec.specs.Plants.{Plant, model_with, output_types}
use Rattle.slave_spec.specs.Requests.{refusal, accepted}
use Rattle.plan_laws.specs.Taking.{IsScenarioSlave, TakesAll, plant_after_all}
use Rattle.plan_laws.proofs.Told.{AreTold, onto}
use Rattle.plan_laws.proofs.Setups.{wiring_list, wiring_told, wiring_complete}
use Rattle.plan_laws.proofs.Machines.{takes_append, after_append, judged, told_fine, told_leads, with_change, takes_told, after_told, HasSet, takes_settings, settings_lead, settings_begin}
use Rattle.plan_laws.proofs.Settings.{first_fine, parameters_first}

-- ---- the setup

-- the machine that was cleared
abbrev cleared : SlaveSetup → Plant → Plant
cleared x p = record p { wires = bare_wires; model = model_with x.desc x.desc.parameters }

clear_unrefused : (d : SlaveDesc) (changes : List Change) → wiring.refusal_of_setting d changes cfg.Clear ≡ None
unfolding wiring.refusal_of_setting
clear_unrefused d changes = refl

clear_fine : (x : SlaveSetup) (p : Plant) → p.state ≡ Configuration → refusal x p (asked.Setting cfg.Clear) ≡ None
clear_fine x p here = judged x p cfg.Clear here refl (clear_unrefused x.desc p.wires.changes)

clear_leads : (x : SlaveSetup) (p : Plant) → accepted x p (asked.Setting cfg.Clear) ≡ cleared x p
unfolding accepted
clear_leads x p = refl

time_fine : (d : SlaveDesc) (changes : List Change) → wiring.refusal_of_setting d changes (cfg.TimeRes d.numerator d.denominator) ≡ None
unfolding wiring.refusal_of_setting
time_fine d changes =
    let a : (d.numerator == d.numerator) ≡ true = grind (arith, nat_tests) in
    let b : (d.denominator == d.denominator) ≡ true = grind (arith, nat_tests) in
    rw (a, b) refl

-- the machine that was told the resolution alone
abbrev timed : SlaveSetup → Plant → Plant
timed x p = with_change (cleared x p) (cfg.TimeRes x.desc.numerator x.desc.denominator)

head_leads : (x : SlaveSetup) (p : Plant) → plant_after_all x p (cfg.Clear ∷ cfg.TimeRes x.desc.numerator x.desc.denominator ∷ []) ≡ timed x p
head_leads x p = ap (λ (q : Plant). accepted x q (asked.Setting (cfg.TimeRes x.desc.numerator x.desc.denominator))) (clear_leads x p) ∙ told_leads x (cleared x p) (cfg.TimeRes x.desc.numerator x.desc.denominator) refl

takes_head : (x : SlaveSetup) (p : Plant) → p.state ≡ Configuration → TakesAll x p (cfg.Clear ∷ cfg.TimeRes x.desc.numerator x.desc.denominator ∷ [])
takes_head x p here = (
  clear_fine x p here,
  clear_unrefused x.desc p.wires.changes,
  subst (λ (q : Plant). TakesAll x q (cfg.TimeRes x.desc.numerator x.desc.denominator ∷ [])) (sym (clear_leads x p))
      (told_fine x (cleared x p) (cfg.TimeRes x.desc.numerator x.desc.denominator) here refl (time_fine x.desc []), time_fine x.desc [], tt),
)

-- the machine with its settings for the first run
abbrev set_first : Scenario → (s : ℕ) → SlaveSetup → Plant → Plant
set_first sc s x p = plant_after_all x (timed x p) (settings_of s sc.settings)

settings_led : (sc : Scenario) (s : ℕ) (x : SlaveSetup) (p : Plant) → IsScenarioSlave sc s x.desc → HasSet (timed x p) (changed x.desc.parameters s sc.settings) (set_first sc s x p)
settings_led sc s x p h = settings_lead x (timed x p) s sc.settings (first_fine sc s x.desc h)

grouped : (a b c d e : List Cfg) → (((a ++ b) ++ c) ++ d) ++ e ≡ a ++ (b ++ (c ++ (d ++ e)))
grouped a b c d e = simp append_assoc

setup_is : (sc : Scenario) (s : ℕ) (d : SlaveDesc) → setup_list sc s d ≡ (cfg.Clear ∷ cfg.TimeRes d.numerator d.denominator ∷ []) ++ (settings_of s sc.settings ++ wiring_list sc s d)
setup_is sc s d =
    grouped (cfg.Clear ∷ cfg.TimeRes d.numerator d.denominator ∷ []) (settings_of s sc.settings) (flat_map (incoming sc d) (links_to sc s)) (flat_map (outgoing sc d) (links_of sc s)) (watched sc s d)

pub setup_taken : (sc : Scenario) (s : ℕ) (x : SlaveSetup) (p : Plant) → IsScenarioSlave sc s x.desc → p.state ≡ Configuration → TakesAll x p (setup_list sc s x.desc)
setup_taken sc s x p h here =
    let led = settings_led sc s x p h in
    let first : List Change = Set (cfg.TimeRes x.desc.numerator x.desc.denominator) ∷ [] in
    let bare_changes : (set_first sc s x p).wires.changes ≡ first = ap (λ (w : WiringState). w.changes) led.wires in
    let told : AreTold x.desc (set_first sc s x p).wires.changes (wiring_list sc s x.desc) =
    subst (λ (c : List Change). AreTold x.desc c (wiring_list sc s x.desc)) (sym bare_changes) (wiring_told sc s x.desc x.desc.numerator x.desc.denominator h) in
    let wired : TakesAll x (set_first sc s x p) (wiring_list sc s x.desc) = takes_told x (set_first sc s x p) (wiring_list sc s x.desc) (led.state ∙ here) told in
    let rest : TakesAll x (timed x p) (settings_of s sc.settings ++ wiring_list sc s x.desc) =
    takes_append x (timed x p) (settings_of s sc.settings) (wiring_list sc s x.desc) (takes_settings x (timed x p) s sc.settings here (first_fine sc s x.desc h)) wired in
    subst (TakesAll x p) (sym (setup_is sc s x.desc))
    (takes_append x p (cfg.Clear ∷ cfg.TimeRes x.desc.numerator x.desc.denominator ∷ []) (settings_of s sc.settings ++ wiring_list sc s x.desc) (takes_head x p here)
    (subst (λ (q : Plant). TakesAll x q (settings_of s sc.settings ++ wiring_list sc s x.desc)) (sym (head_leads x p)) rest))

-- where a setup leads
pub setup_leads : (sc : Scenario) (s : ℕ) (x : SlaveSetup) (p : Plant) → IsScenarioSlave sc s x.desc
    → plant_after_all x p (setup_list sc s x.desc) ≡ record (set_first sc s x p) { wires = record (set_first sc s x p).wires { changes = onto (wiring_list sc s x.desc) (Set (cfg.TimeRes x.desc.numerator x.desc.denominator) ∷ []) } }
setup_leads sc s x p h =
    let led = settings_led sc s x p h in
    let q : Plant = set_first sc s x p in
    let first : List Change = Set (cfg.TimeRes x.desc.numerator x.desc.denominator) ∷ [] in
    let bare_changes : q.wires.changes ≡ first = ap (λ (w : WiringState). w.changes) led.wires in
    let told : AreTold x.desc q.wires.changes (wiring_list sc s x.desc) =
    subst (λ (c : List Change). AreTold x.desc c (wiring_list sc s x.desc)) (sym bare_changes) (wiring_told sc s x.desc x.desc.numerator x.desc.denominator h) in
    ap (plant_after_all x p) (setup_is sc s x.desc)
    ∙ after_append x p (cfg.Clear ∷ cfg.TimeRes x.desc.numerator x.desc.denominator ∷ []) (settings_of s sc.settings ++ wiring_list sc s x.desc)
    ∙ ap (λ (r : Plant). plant_after_all x r (settings_of s sc.settings ++ wiring_list sc s x.desc)) (head_leads x p)
    ∙ after_append x (timed x p) (settings_of s sc.settings) (wiring_list sc s x.desc)
    ∙ after_told x q (wiring_list sc s x.desc) told
    ∙ ap (λ (c : List Change). record q { wires = record q.wires { changes = onto (wiring_list sc s x.desc) c } }) bare_changes

pub setup_completes : (sc : Scenario) (s : ℕ) (x : SlaveSetup) (p : Plant) → IsScenarioSlave sc s x.desc → complete (plant_after_all x p (setup_list sc s x.desc)).wires.changes ≡ true
setup_completes sc s x p h = ap (λ (q : Plant). complete q.wires.changes) (setup_leads sc s x p h) ∙ wiring_complete sc s x.desc x.desc.numerator x.desc.denominator h

pub setup_stays : (sc : Scenario) (s : ℕ) (x : SlaveSetup) (p : Plant) → IsScenarioSlave sc s x.desc → (plant_after_all x p (setup_list sc s x.desc)).state ≡ p.state
setup_stays sc s x p h = ap (λ (q : Plant). q.state) (setup_leads sc s x p h) ∙ (settings_led sc s x p h).state

-- the model is that of the first run, in its state at first
pub setup_sets : (sc : Scenario) (s : ℕ) (x : SlaveSetup) (p : Plant) → IsScenarioSlave sc s x.desc → (plant_after_all x p (setup_list sc s x.desc)).model ≡ model_with x.desc (parameters sc s x.desc 1)
setup_sets sc s x p h =
    ap (λ (q : Plant). q.model) (setup_leads sc s x p h)
    ∙ settings_begin x (timed x p) x.desc.kind x.desc.parameters (output_types x.desc) s sc.settings refl (first_fine sc s x.desc h)
    ∙ ap (model_with x.desc) (parameters_first sc s x.desc h.sound)
