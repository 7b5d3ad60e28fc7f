-- The lists of a slave's script are those of the plan, and a list of settings is the same as itself.
use Rattle.std.proofs.Common.{◌≡◌, ℕ, zero, suc, ◌+◌, ◌-◌, ◌<◌, ◌≤◌, ◌==◌, ◌&&◌, Bool, true, false, List, [], ◌∷◌, ◌++◌, refl, ap, ◌∙◌, arith, ℤ, pos, negsuc}
use Rattle.std.specs.Prelude.{int_le, slice_index_or}
use Rattle.std.specs.List.{flat_map, range_with_len}
use Rattle.std.proofs.lemmas.Bool.{eq-eqb}
use Rattle.std.proofs.lemmas.Bool.Decides.{nat_tests}
use Rattle.std.proofs.lemmas.List.FromFn.{get_or-map-range_with_len}
use Rattle.pdu_layout.specs.declared.messages.Pdu.TheVariants as pdu
use Rattle.pdu_layout.specs.declared.messages.Cfg.{Cfg}
use Rattle.pdu_layout.specs.declared.messages.Cfg.TheVariants as cfg
use Rattle.pdu_layout.specs.Fields.{FieldValue}
use Rattle.pdu_layout.specs.Fields.FieldValue.{Number, Signed, Bytes}
use Rattle.pdu_layout.specs.Message.{message_of}
use Rattle.scenario.specs.declared.scenarios.Scenario.{Scenario}
use Rattle.slave_desc.specs.declared.descriptions.SlaveDesc.{SlaveDesc}
use Rattle.master_spec.specs.PlanSetup.{setup_list, adjust_list}
use Rattle.plan_laws.specs.Runs.{lists_until}
use Rattle.plan_laws.specs.Course.Taken.{same_fields, same_setting, same_settings}
use Rattle.master_spec.specs.Setup.{script_of}
use Rattle.master_laws.proofs.PlanOrder.Standing.{set_until}

-- ---- a setting is the same as itself
abbrev ArePlain : List FieldValue → Type 0
ArePlain [] = Unit {0}
ArePlain (Number a ∷ vs) = ArePlain vs
ArePlain (Signed z ∷ vs) = ArePlain vs
ArePlain (Bytes bs ∷ vs) = ⊥

both : (a b : Bool) → a ≡ true → b ≡ true → (a && b) ≡ true
both true true h k = refl
both true false h k = k
both false b h k = h

int_same : (z : ℤ) → (int_le z z && int_le z z) ≡ true
int_same (pos n) = grind (arith, nat_tests)
int_same (negsuc n) = grind (arith, nat_tests)

plain_same : (vs : List FieldValue) → ArePlain vs → same_fields vs vs ≡ true
plain_same [] h = refl
plain_same (Number a ∷ vs) h = both (a == a) (same_fields vs vs) (eq-eqb a a refl) (plain_same vs h)
plain_same (Signed z ∷ vs) h = both (int_le z z && int_le z z) (same_fields vs vs) (int_same z) (plain_same vs h)
plain_same (Bytes bs ∷ vs) h = absurd h

setting_plain : (body : Cfg) → ArePlain (message_of (pdu.Cfg 0 0 body)).values
setting_plain (cfg.TimeRes a b) = tt
setting_plain (cfg.Steps a b) = tt
setting_plain (cfg.Input a b c kind) = tt
setting_plain (cfg.Output a b c) = tt
setting_plain cfg.Clear = tt
setting_plain (cfg.Target net) = tt
setting_plain (cfg.Source net) = tt
setting_plain (cfg.Parameter a kind z) = tt
setting_plain (cfg.Tunable a b c kind) = tt
setting_plain (cfg.ParamNet a b c d) = tt
setting_plain (cfg.Logging a b c) = tt
setting_plain (cfg.Scope a b) = tt

itself : (body : Cfg) → same_setting body body ≡ true
itself body = let m = message_of (pdu.Cfg 0 0 body) in both (m.code == m.code) (same_fields m.values m.values) (eq-eqb m.code m.code refl) (plain_same m.values (setting_plain body))

pub all_same : (bodies : List Cfg) → same_settings bodies bodies ≡ true
all_same [] = refl
all_same (body ∷ bodies) = both (same_setting body body) (same_settings bodies bodies) (itself body) (all_same bodies)

-- ---- the lists of the script
module _ (sc : Scenario) (s : ℕ) (d : SlaveDesc) where
  adjusts_from : (a m : ℕ) → 1 ≤ a → a + m ≤ sc.runs → flat_map (λ k. slice_index_or (script_of sc s d).adjusts (k - 1) []) (range_with_len a m) ≡ flat_map (λ k. adjust_list sc k s) (range_with_len a m)
  adjusts_from a zero h le = refl
  adjusts_from a (suc m) h le =
      ap (λ (l : List Cfg). l ++ flat_map (λ k. slice_index_or (script_of sc s d).adjusts (k - 1) []) (range_with_len (a + 1) m)) (get_or-map-range_with_len (λ r. adjust_list sc r s) 1 (sc.runs - 1) (a - 1) a [] (omega (arith, h, le)) (omega (arith, h)))
      ∙ ap (λ (l : List Cfg). adjust_list sc a s ++ l) (adjusts_from (a + 1) m (omega arith) (omega (arith, le)))

  pub lists_are : (r : ℕ) → r < sc.runs → set_until (script_of sc s d) r ≡ lists_until sc s d r
  lists_are r h = ap (λ (l : List Cfg). setup_list sc s d ++ l) (adjusts_from 1 r (omega arith) (omega (arith, h)))
