-- The ordinals of a data id go on from run to run.
use Rattle.std.proofs.Common.{◌≡◌, ℕ, zero, suc, ◌+◌, ◌*◌, ◌/◌, true, if◌then◌else◌, List, [], ◌∷◌, length, None, refl, ap, ◌∙◌, arith}
use Rattle.std.specs.Prelude.{nat_lt}
use Rattle.std.specs.List.{cons_option}
use Rattle.pdu_layout.specs.declared.messages.Cfg.{Cfg}
use Rattle.pdu_layout.specs.declared.messages.Cfg.TheVariants as cfg
use Rattle.master_spec.specs.PlanSetup.{setup_list}
use Rattle.slave_spec.specs.Changes.{Change, Set, Restart, Side, input, output, vr_for, entries, has_id, entry_interval, base, steps_in_run, ordinal}
use Rattle.slave_spec.specs.Slaves.{machine}
use Rattle.slave_laws.specs.Talk.Desks.{at}
use Rattle.slave_laws.specs.Wiring.Wired.{changes_with, changes_after, planned_changes, changes_restarted}
use Rattle.slave_laws.specs.Wiring.Ordinals.{OrdinalsGoOn}
use Rattle.slave_laws.proofs.Wiring.Courses.{is_planned}

-- no restart is among them
abbrev AreSettings : List Change → Type 0
AreSettings [] = Unit {0}
AreSettings (Set body ∷ changes) = AreSettings changes
AreSettings (Restart steps ∷ changes) = ⊥

with_settings : (body : Cfg) (changes : List Change) → AreSettings changes → AreSettings (changes_with body changes)
with_settings cfg.Clear changes h = tt
with_settings (cfg.Parameter vr kind value) changes h = h
with_settings (cfg.Logging category level mode) changes h = h
with_settings (cfg.TimeRes a b) changes h = h
with_settings (cfg.Steps a b) changes h = h
with_settings (cfg.Input a b c d) changes h = h
with_settings (cfg.Output a b c) changes h = h
with_settings (cfg.Target a) changes h = h
with_settings (cfg.Source a) changes h = h
with_settings (cfg.Tunable a b c d) changes h = h
with_settings (cfg.ParamNet a b c d) changes h = h
with_settings (cfg.Scope a b) changes h = h

after_settings : (bodies : List Cfg) (changes : List Change) → AreSettings changes → AreSettings (changes_after changes bodies)
after_settings [] changes h = h
after_settings (body ∷ bodies) changes h = after_settings bodies (changes_with body changes) (with_settings body changes h)

module _ (side : Side) (quiet : (n : ℕ) → side (Restart n) ≡ None) (id : ℕ) where
  no_base : (changes : List Change) → AreSettings changes → base side id changes ≡ 0
  no_base [] h = refl
  no_base (Set body ∷ changes) h = no_base changes h
  no_base (Restart steps ∷ changes) h = absurd h

  restart_entries : (n : ℕ) (changes : List Change) → entries side id (Restart n ∷ changes) ≡ entries side id changes
  restart_entries n changes = ap (λ o. cons_option (vr_for id o) (entries side id changes)) (quiet n)

  same_entries : (steps : ℕ) (changes : List Change) (runs : ℕ) → entries side id (changes_restarted steps changes runs) ≡ entries side id changes
  same_entries steps changes zero = refl
  same_entries steps changes (suc runs) = restart_entries steps (changes_restarted steps changes runs) ∙ same_entries steps changes runs

  same_interval : (steps : ℕ) (changes : List Change) (runs : ℕ) → entry_interval side id (changes_restarted steps changes runs) ≡ entry_interval side id changes
  same_interval steps changes zero = refl
  same_interval steps changes (suc runs) = same_interval steps changes runs

  same_known : (steps : ℕ) (changes : List Change) (runs : ℕ) → has_id side id (changes_restarted steps changes runs) ≡ has_id side id changes
  same_known steps changes runs = ap (λ es. nat_lt 0 (length es)) (same_entries steps changes runs)

  bases : (steps : ℕ) (changes : List Change) (runs : ℕ) → AreSettings changes → has_id side id changes ≡ true → base side id (changes_restarted steps changes runs) ≡ runs * (steps / entry_interval side id changes + 1)
  bases steps changes zero h k = no_base changes h ∙ omega arith
  bases steps changes (suc runs) h k =
      let earlier = changes_restarted steps changes runs in
      let there : has_id side id earlier ≡ true = same_known steps changes runs ∙ k in
      let now : base side id (Restart steps ∷ earlier) ≡ base side id earlier + (steps / entry_interval side id earlier + 1) = ap (λ b. if b then base side id earlier + (steps / entry_interval side id earlier + 1) else base side id earlier) there in
      let q = entry_interval side id changes in
      now ∙ ap (λ i. base side id earlier + (steps / i + 1)) (same_interval steps changes runs) ∙ ap (λ b. b + (steps / q + 1)) (bases steps changes runs h k) ∙ omega arith

  counted : (steps : ℕ) (planned changes : List Change) (runs n : ℕ) → AreSettings planned → changes ≡ changes_restarted steps planned runs → has_id side id planned ≡ true → ordinal side id changes n ≡ runs * (steps / entry_interval side id planned + 1) + n / entry_interval side id planned
  counted steps planned changes runs n h e k =
      ap (λ c. ordinal side id c n) e ∙ ap (λ b. b + steps_in_run side id (changes_restarted steps planned runs) n) (bases steps planned runs h k) ∙ ap (λ i. runs * (steps / entry_interval side id planned + 1) + n / i) (same_interval steps planned runs)

go_on : (side : Side) → ((n : ℕ) → side (Restart n) ≡ None) → OrdinalsGoOn side
go_on side quiet sc s x w ok rd log a e z id =
    let p = (at (machine x) w s log).slave.inner in
    let planned = planned_changes sc s x.desc in
    let is = is_planned sc s x w ok rd log a e z in
    let runs = length p.earlier in
    record {
      known = ap (has_id side id) is ∙ same_known side quiet id sc.steps planned runs;
      spaced = ap (entry_interval side id) is ∙ same_interval side quiet id sc.steps planned runs;
      numbered = λ k. counted side quiet id sc.steps planned p.wires.changes runs p.steps (after_settings (setup_list sc s x.desc) [] tt) is k;
    }

pub inputs_go_on : OrdinalsGoOn input
inputs_go_on = go_on input (λ n. refl)

pub outputs_go_on : OrdinalsGoOn output
outputs_go_on = go_on output (λ n. refl)
