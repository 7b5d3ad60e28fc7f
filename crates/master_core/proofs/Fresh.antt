-- A master to which nothing has happened.
use Rattle.std.proofs.Common.{◌≡◌, ◌≤◌, ◌+◌, ◌*◌, arith, ℕ, List, [], ◌∷◌, map, length, refl, sym, ap, subst, ◌∙◌}
use Rattle.std.specs.Prelude.{ℤ, vec_capacity}
use Rattle.std.specs.List.{AllByRecursion}
use Rattle.std.proofs.lemmas.List.{length-map}
use Rattle.std.proofs.lemmas.List.Elements.{All-nil}
use Rattle.slave_desc.specs.declared.descriptions.SlaveDesc.{SlaveDesc}
use Rattle.scenario.specs.declared.scenarios.Scenario.{Scenario}
use Rattle.master_spec.specs.Setup.{slaves_from}
use Rattle.master_core.specs.declared.rows.Rows.{Rows}
use Rattle.master_core.specs.declared.stages.Stage.{Stage}
use Rattle.master_core.specs.Stages.{first_stage}
use Rattle.master_core.specs.Rest.{rest}
use Rattle.master_core.specs.Standing.{HasRows, IsBehind, lines_of}
use Rattle.master_core.proofs.Phases.{first_rest}
use Rattle.dcp_types.specs.declared.limits.Limits.{Limits}
use Rattle.master_spec.specs.declared.setups.Slave.{Slave}
use Rattle.master_spec.specs.Course.{fresh_talk}
use Rattle.master_core.specs.declared.records.Talk.{Talk}
use Rattle.master_core.specs.declared.stages.Schedule.{Schedule}
use Rattle.master_core.specs.Each.{Each}
use Rattle.master_spec.specs.Askable.{IsScriptAskable}
use Rattle.master_core.specs.Talking.{TalkStandsAt, IsFreshTalk, now_in, slave_talked_to}

pub fresh_stand : (limits : Limits) (s : Schedule) (ts : List Talk) → AllByRecursion (λ t. IsFreshTalk limits t) ts → AllByRecursion (λ slave. IsScriptAskable slave) (map slave_talked_to ts)
    → Each (TalkStandsAt limits (now_in 0 s)) ts (map fresh_talk (map slave_talked_to ts))
fresh_stand limits s [] f a = tt
fresh_stand limits s (t ∷ ts) f a = (
  record {
    slave = refl;
    stands = f.0.stands;
    id = f.0.id;
    limits_are = f.0.limits_are;
    job = refl;
    jobs = tt;
    latest_is = tt;
    outputs = λ row payload at is. absurd (cc);
    script = a.0;
  },
  fresh_stand limits s ts f.1 a.1,
)

length_slaves : (sc : Scenario) (s : ℕ) (ds : List SlaveDesc) → length (slaves_from sc s ds) ≡ length ds
length_slaves sc s [] = refl
length_slaves sc s (d ∷ ds) = omega (arith, length_slaves sc (s + 1) ds)

pub slaves_few : (sc : Scenario) (ts : List Talk) → map slave_talked_to ts ≡ slaves_from sc 1 sc.slaves → length ts ≡ length sc.slaves
slaves_few sc ts e = sym (length-map ts slave_talked_to) ∙ ap (λ (l : List Slave). length l) e ∙ length_slaves sc 1 sc.slaves

pub first_behind : (s : Schedule) → s.stage ≡ first_stage → IsBehind 0 s
first_behind s e = λ script. ap (λ (x : Stage). rest s.steps s.runs script x.run x.part) e ∙ sym (first_rest s.steps s.runs script)

pub empty_rows : (s : Schedule) (steps runs width w : ℕ) (r : Rows) → width ≡ w → r.width ≡ w → r.counted ≡ 0 → r.values.items ≡ [] → w * (runs * (steps + 1)) ≤ vec_capacity r.values → s.steps ≡ steps → s.runs ≡ runs → HasRows width (lines_of s) r []
empty_rows s steps runs width w r same is none values room st rn = record {
  counted_are = none;
  values = values;
  width_is = is ∙ sym same;
  each = All-nil (λ (row : List ℤ). length row ≡ width);
  room = subst (λ (n : ℕ). n * lines_of s ≤ vec_capacity r.values) (sym same)
      (subst (λ (n : ℕ). w * (n * (s.steps + 1)) ≤ vec_capacity r.values) (sym rn) (subst (λ (n : ℕ). w * (runs * (n + 1)) ≤ vec_capacity r.values) (sym st) room));
}
