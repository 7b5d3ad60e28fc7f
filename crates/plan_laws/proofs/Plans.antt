-- The lists of a plan, each by its place.
use Rattle.std.proofs.Common.{◌≡◌, ℕ, zero, suc, ◌+◌, ◌-◌, ◌<◌, ◌≤◌, List, [], ◌∷◌, length, map, ap, sym, ◌∙◌, arith, Some, add-zero}
use Rattle.std.specs.Prelude.{slice_get, slice_index_or}
use Rattle.std.specs.List.{range_with_len}
use Rattle.pdu_layout.specs.declared.messages.Cfg.{Cfg}
use Rattle.slave_desc.specs.declared.descriptions.SlaveDesc.{SlaveDesc}
use Rattle.scenario.specs.declared.scenarios.Scenario.{Scenario}
use Rattle.master_spec.specs.PlanSetup.{setup_list, adjust_list}
use Rattle.master_spec.specs.Plans.{setups_from, adjusts_after, plan_of}
use Rattle.plan_laws.specs.Taking.{IsScenarioSlave}
use Rattle.plan_laws.proofs.Planned.{slave_got, slave_there}

setup_from : (sc : Scenario) (a : ℕ) (ds : List SlaveDesc) (i : ℕ) (d : SlaveDesc) → slice_get ds i ≡ Some d → slice_index_or (setups_from sc a ds) i [] ≡ setup_list sc (a + i) d
setup_from sc a [] i d e = absurd cc
setup_from sc a (d' ∷ ds) zero d e =
    let same : d' ≡ d = cc in
    ap (setup_list sc a) same ∙ ap (λ (n : ℕ). setup_list sc n d) (sym (add-zero a))
setup_from sc a (d' ∷ ds) (suc i) d e = setup_from sc (a + 1) ds i d e ∙ ap (λ (n : ℕ). setup_list sc n d) (omega arith)

pub setup_at : (sc : Scenario) (s : ℕ) (d : SlaveDesc) → IsScenarioSlave sc s d → slice_index_or (plan_of sc).setups (s - 1) [] ≡ setup_list sc s d
setup_at sc s d h =
    let some : 1 ≤ s = (slave_there sc.slaves s d h.sound.slaves h.slave).first in
    setup_from sc 1 sc.slaves (s - 1) d (slave_got sc.slaves s d h.slave).1 ∙ ap (λ (n : ℕ). setup_list sc n d) (omega arith)

range_at : {A : Type 0} (f : ℕ → A) (a n i : ℕ) (none : A) → i < n → slice_index_or (map f (range_with_len a n)) i none ≡ f (a + i)
range_at f a zero i none h = absurd (omega arith)
range_at f a (suc n) zero none h = ap f (sym (add-zero a))
range_at f a (suc n) (suc i) none h = range_at f (a + 1) n i none (omega (arith, h)) ∙ ap f (omega arith)

pub adjust_at : (sc : Scenario) (s : ℕ) (d : SlaveDesc) (r : ℕ) → IsScenarioSlave sc s d → 1 ≤ r → r < sc.runs → slice_index_or (slice_index_or (plan_of sc).adjusts (r - 1) []) (s - 1) [] ≡ adjust_list sc r s
adjust_at sc s d r h low high =
    let t = slave_there sc.slaves s d h.sound.slaves h.slave in
    ap (λ (lists : List (List Cfg)). slice_index_or lists (s - 1) []) (range_at (adjusts_after sc) 1 (sc.runs - 1) (r - 1) [] (omega (arith, low, high)))
    ∙ range_at (adjust_list sc (1 + (r - 1))) 1 (length sc.slaves) (s - 1) [] (omega (arith, t.first, t.last))
    ∙ ap (λ (n : ℕ). adjust_list sc n (1 + (s - 1))) (omega (arith, low))
    ∙ ap (adjust_list sc r) (omega (arith, t.first))
