-- What a slave's machine makes of the settings of a plan.
use Rattle.std.proofs.Common.{◌≡◌, ℕ, ◌<◌, Bool, true, false, cond, List, [], ◌∷◌, ◌++◌, length, map, refl, ap, sym, ◌∙◌, subst, arith, None, ℤ}
use Rattle.std.specs.Prelude.{◌==◌, nat_lt, filter, slice_set, FitsSigned}
use Rattle.std.specs.Int.{w64}
use Rattle.std.proofs.lemmas.Int.{ints}
use Rattle.std.proofs.lemmas.Bool.Decides.{nat_tests}
use Rattle.dcp_types.specs.declared.data_types.DataType.{DataType}
use Rattle.dcp_types.specs.declared.data_types.DataType.TheVariants.{I64}
use Rattle.dcp_types.specs.Values.{fits}
use Rattle.dcp_types.specs.declared.states.State.TheVariants.{Configuration}
use Rattle.pdu_layout.specs.declared.messages.Cfg.{Cfg}
use Rattle.pdu_layout.specs.declared.messages.Cfg.TheVariants as cfg
use Rattle.fixed_models.specs.declared.kinds.Kind.{Kind}
use Rattle.fixed_models.specs.Kinds.{takes}
use Rattle.fixed_models.specs.Views.{View, begun}
use Rattle.scenario.specs.declared.scenarios.Setting.{Setting}
use Rattle.scenario.specs.Settings.{changed, changed_by}
use Rattle.master_spec.specs.PlanSetup.{set_parameter, settings_of}
use Rattle.slave_spec.specs.Changes.{Set}
use Rattle.slave_spec.specs.Refusals as wiring
use Rattle.slave_spec.specs.declared.words.Asked.TheVariants as heard
use Rattle.slave_spec.specs.declared.words.SlaveSetup.{SlaveSetup}
use Rattle.slave_spec.specs.Plants.{Plant}
use Rattle.slave_spec.specs.Requests.{refusal, accepted, body_refusal, is_left_out}
use Rattle.plan_laws.specs.Taking.{IsTakenByPart, TakesAll, plant_after_all}
use Rattle.plan_laws.proofs.Lists.{by_test}
use Rattle.plan_laws.proofs.Told.{AreTold, onto, is_told}

-- ---- lists

pub takes_append : (x : SlaveSetup) (p : Plant) (xs ys : List Cfg) → TakesAll x p xs → TakesAll x (plant_after_all x p xs) ys → TakesAll x p (xs ++ ys)
takes_append x p [] ys h k = k
takes_append x p (b ∷ xs) ys h k = (h.0, h.1, takes_append x (accepted x p (heard.Setting b)) xs ys h.2 k)

pub after_append : (x : SlaveSetup) (p : Plant) (xs ys : List Cfg) → plant_after_all x p (xs ++ ys) ≡ plant_after_all x (plant_after_all x p xs) ys
after_append x p [] ys = refl
after_append x p (b ∷ xs) ys = after_append x (accepted x p (heard.Setting b)) xs ys

-- ---- one setting

-- in CONFIGURATION a setting is judged by itself
pub judged : (x : SlaveSetup) (p : Plant) (body : Cfg) → p.state ≡ Configuration → is_left_out body ≡ false → body_refusal x p body ≡ None → refusal x p (heard.Setting body) ≡ None
unfolding refusal
judged x p body here left fine = rw (here, left) fine

-- the machine with one more change of its wiring
abbrev pub with_change : Plant → Cfg → Plant
with_change p body = record p { wires = record p.wires { changes = Set body ∷ p.wires.changes } }

pub told_fine : (x : SlaveSetup) (p : Plant) (body : Cfg) → p.state ≡ Configuration → is_told body ≡ true → wiring.refusal_of_setting x.desc p.wires.changes body ≡ None → refusal x p (heard.Setting body) ≡ None
told_fine x p (cfg.TimeRes a b) here told fine = judged x p (cfg.TimeRes a b) here refl fine
told_fine x p (cfg.Steps id q) here told fine = judged x p (cfg.Steps id q) here refl fine
told_fine x p (cfg.Input id i vr kind) here told fine = judged x p (cfg.Input id i vr kind) here refl fine
told_fine x p (cfg.Output id i vr) here told fine = judged x p (cfg.Output id i vr) here refl fine
told_fine x p (cfg.Source net) here told fine = judged x p (cfg.Source net) here refl fine
told_fine x p (cfg.Target net) here told fine = judged x p (cfg.Target net) here refl fine
told_fine x p _ here told fine = absurd cc

pub told_by_part : (x : SlaveSetup) (p : Plant) (body : Cfg) → is_told body ≡ true → wiring.refusal_of_setting x.desc p.wires.changes body ≡ None → IsTakenByPart x p body
told_by_part x p (cfg.TimeRes a b) told fine = fine
told_by_part x p (cfg.Steps id q) told fine = fine
told_by_part x p (cfg.Input id i vr kind) told fine = fine
told_by_part x p (cfg.Output id i vr) told fine = fine
told_by_part x p (cfg.Source net) told fine = fine
told_by_part x p (cfg.Target net) told fine = fine
told_by_part x p _ told fine = absurd cc

pub told_leads : (x : SlaveSetup) (p : Plant) (body : Cfg) → is_told body ≡ true → accepted x p (heard.Setting body) ≡ with_change p body
unfolding accepted
told_leads x p (cfg.TimeRes a b) told = refl
told_leads x p (cfg.Steps id q) told = refl
told_leads x p (cfg.Input id i vr kind) told = refl
told_leads x p (cfg.Output id i vr) told = refl
told_leads x p (cfg.Source net) told = refl
told_leads x p (cfg.Target net) told = refl
told_leads x p _ told = absurd cc

-- what is told of the wiring is taken
pub takes_told : (x : SlaveSetup) (p : Plant) (bodies : List Cfg) → p.state ≡ Configuration → AreTold x.desc p.wires.changes bodies → TakesAll x p bodies
takes_told x p [] here told = tt
takes_told x p (b ∷ bodies) here told = (
  told_fine x p b here told.0 told.1,
  told_by_part x p b told.0 told.1,
  subst (λ (q : Plant). TakesAll x q bodies) (sym (told_leads x p b told.0)) (takes_told x (with_change p b) bodies here told.2),
)

pub after_told : (x : SlaveSetup) (p : Plant) (bodies : List Cfg) → AreTold x.desc p.wires.changes bodies → plant_after_all x p bodies ≡ record p { wires = record p.wires { changes = onto bodies p.wires.changes } }
after_told x p [] told = refl
after_told x p (b ∷ bodies) told = ap (λ (q : Plant). plant_after_all x q bodies) (told_leads x p b told.0) ∙ after_told x (with_change p b) bodies told.2

-- ---- parameters

pub value_fits : (z : ℤ) → FitsSigned w64 z → fits I64 z ≡ true
value_fits z h = grind (arith, ints, nat_tests)

parameter_fine : (x : SlaveSetup) (p : Plant) (y : Setting) → p.state ≡ Configuration → y.index < length p.model.parameters → fits I64 y.value ≡ true → takes p.model.kind (slice_set p.model.parameters y.index y.value) ≡ true
    → refusal x p (heard.Setting (set_parameter y)) ≡ None
parameter_fine x p y here within fit taken =
    let l : nat_lt y.index (length p.model.parameters) ≡ true = grind (arith, nat_tests, within) in
    let fine : body_refusal x p (set_parameter y) ≡ None = rw (l, fit, taken) refl in
    judged x p (set_parameter y) here refl fine

-- the machine with other parameters, begun anew
abbrev pub with_parameters : Plant → List ℤ → Plant
with_parameters p ps = record p { model = begun p.model.kind ps p.model.types }

parameter_leads : (x : SlaveSetup) (p : Plant) (y : Setting) → accepted x p (heard.Setting (set_parameter y)) ≡ with_parameters p (slice_set p.model.parameters y.index y.value)
unfolding accepted
parameter_leads x p y = refl

-- a setting of slave s has its parameter and a value of 64 bits
abbrev pub IsOfSlave : (s n : ℕ) → Setting → Type 0
IsOfSlave s n y = (y.slave == s) ≡ true → (y.index < n) × (fits I64 y.value ≡ true)

-- the settings of slave s are there, and its kind takes the parameters after each
abbrev pub AreFine : Kind → List ℤ → (s : ℕ) → List Setting → Type 0
AreFine kind ps s [] = Unit {0}
AreFine kind ps s (y ∷ ys) = IsOfSlave s (length ps) y × (takes kind (changed_by ps s y) ≡ true) × AreFine kind (changed_by ps s y) s ys

changed_here : (ps : List ℤ) (s : ℕ) (y : Setting) → (y.slave == s) ≡ true → y.index < length ps → changed_by ps s y ≡ slice_set ps y.index y.value
changed_here ps s y e within =
    let l : nat_lt y.index (length ps) ≡ true = grind (arith, nat_tests, within) in
    rw (e, l) refl

changed_elsewhere : (ps : List ℤ) (s : ℕ) (y : Setting) → (y.slave == s) ≡ false → changed_by ps s y ≡ ps
changed_elsewhere ps s y e = rw e refl

pub takes_settings : (x : SlaveSetup) (p : Plant) (s : ℕ) (ys : List Setting) → p.state ≡ Configuration → AreFine p.model.kind p.model.parameters s ys → TakesAll x p (settings_of s ys)
takes_settings x p s [] here fine = tt
takes_settings x p s (y ∷ ys) here fine =
    by_test (y.slave == s)
    (λ e. let own = fine.0 e in
    let is : changed_by p.model.parameters s y ≡ slice_set p.model.parameters y.index y.value = changed_here p.model.parameters s y e own.0 in
    let rest : AreFine p.model.kind (slice_set p.model.parameters y.index y.value) s ys = subst (λ (ps : List ℤ). AreFine p.model.kind ps s ys) is fine.2 in
    let taken : takes p.model.kind (slice_set p.model.parameters y.index y.value) ≡ true = subst (λ (ps : List ℤ). takes p.model.kind ps ≡ true) is fine.1 in
    rw e (
      parameter_fine x p y here own.0 own.1 taken,
      (own.0, refl, own.1, taken),
      subst (λ (q : Plant). TakesAll x q (settings_of s ys)) (sym (parameter_leads x p y)) (takes_settings x (with_parameters p (slice_set p.model.parameters y.index y.value)) s ys here rest),
    ))
    (λ e. let rest : AreFine p.model.kind p.model.parameters s ys = subst (λ (ps : List ℤ). AreFine p.model.kind ps s ys) (changed_elsewhere p.model.parameters s y e) fine.2 in
    rw e (takes_settings x p s ys here rest))

-- all but the parameters, the model's state and the log is as it was
pub record HasSet (p : Plant) (ps : List ℤ) (q : Plant) : Type 0 where
  pub state : q.state ≡ p.state
  pub wires : q.wires ≡ p.wires
  pub kind : q.model.kind ≡ p.model.kind
  pub types : q.model.types ≡ p.model.types
  pub parameters : q.model.parameters ≡ ps

pub settings_lead : (x : SlaveSetup) (p : Plant) (s : ℕ) (ys : List Setting) → AreFine p.model.kind p.model.parameters s ys → HasSet p (changed p.model.parameters s ys) (plant_after_all x p (settings_of s ys))
settings_lead x p s [] fine = record { state = refl; wires = refl; kind = refl; types = refl; parameters = refl }
settings_lead x p s (y ∷ ys) fine =
    by_test (y.slave == s)
    (λ e. let own = fine.0 e in
    let ps : List ℤ = slice_set p.model.parameters y.index y.value in
    let is : changed_by p.model.parameters s y ≡ ps = changed_here p.model.parameters s y e own.0 in
    let rest : AreFine p.model.kind ps s ys = subst (λ (ps : List ℤ). AreFine p.model.kind ps s ys) is fine.2 in
    let led = settings_lead x (with_parameters p ps) s ys rest in
    let set : HasSet p (changed ps s ys) (plant_after_all x (with_parameters p ps) (settings_of s ys)) = record { state = led.state; wires = led.wires; kind = led.kind; types = led.types; parameters = led.parameters } in
    let set' : HasSet p (changed (changed_by p.model.parameters s y) s ys) (plant_after_all x (with_parameters p ps) (settings_of s ys)) = subst (λ (zs : List ℤ). HasSet p (changed zs s ys) (plant_after_all x (with_parameters p ps) (settings_of s ys))) (sym is) set in
    subst (λ (b : Bool). HasSet p (changed p.model.parameters s (y ∷ ys)) (plant_after_all x p (map set_parameter (cond b (y ∷ filter (λ (z : Setting). z.slave == s) ys) (filter (λ (z : Setting). z.slave == s) ys))))) (sym e)
    (subst (λ (q : Plant). HasSet p (changed p.model.parameters s (y ∷ ys)) (plant_after_all x q (settings_of s ys))) (sym (parameter_leads x p y)) set'))
    (λ e. let is : changed_by p.model.parameters s y ≡ p.model.parameters = changed_elsewhere p.model.parameters s y e in
    let rest : AreFine p.model.kind p.model.parameters s ys = subst (λ (ps : List ℤ). AreFine p.model.kind ps s ys) is fine.2 in
    let set : HasSet p (changed (changed_by p.model.parameters s y) s ys) (plant_after_all x p (settings_of s ys)) = subst (λ (zs : List ℤ). HasSet p (changed zs s ys) (plant_after_all x p (settings_of s ys))) (sym is) (settings_lead x p s ys rest) in
    subst (λ (b : Bool). HasSet p (changed p.model.parameters s (y ∷ ys)) (plant_after_all x p (map set_parameter (cond b (y ∷ filter (λ (z : Setting). z.slave == s) ys) (filter (λ (z : Setting). z.slave == s) ys))))) (sym e) set)

-- a model that begins anew at each parameter is one in its state at first
pub settings_begin : (x : SlaveSetup) (p : Plant) (kind : Kind) (ps : List ℤ) (types : List DataType) (s : ℕ) (ys : List Setting) → p.model ≡ begun kind ps types → AreFine kind ps s ys → (plant_after_all x p (settings_of s ys)).model ≡ begun kind (changed ps s ys) types
settings_begin x p kind ps types s [] is fine = is
settings_begin x p kind ps types s (y ∷ ys) is fine =
    by_test (y.slave == s)
    (λ e. let own = fine.0 e in
    let zs : List ℤ = slice_set ps y.index y.value in
    let set : changed_by ps s y ≡ zs = changed_here ps s y e own.0 in
    let rest : AreFine kind zs s ys = subst (λ (zs : List ℤ). AreFine kind zs s ys) set fine.2 in
    let q : Plant = with_parameters p (slice_set p.model.parameters y.index y.value) in
    let anew : q.model ≡ begun kind zs types = ap (λ (m : View). begun m.kind (slice_set m.parameters y.index y.value) m.types) is in
    let led : (plant_after_all x q (settings_of s ys)).model ≡ begun kind (changed zs s ys) types = settings_begin x q kind zs types s ys anew rest in
    let led' : (plant_after_all x q (settings_of s ys)).model ≡ begun kind (changed (changed_by ps s y) s ys) types = led ∙ ap (λ (v : List ℤ). begun kind (changed v s ys) types) (sym set) in
    subst (λ (b : Bool). (plant_after_all x p (map set_parameter (cond b (y ∷ filter (λ (z : Setting). z.slave == s) ys) (filter (λ (z : Setting). z.slave == s) ys)))).model ≡ begun kind (changed ps s (y ∷ ys)) types) (sym e)
    (ap (λ (r : Plant). (plant_after_all x r (settings_of s ys)).model) (parameter_leads x p y) ∙ led'))
    (λ e. let set : changed_by ps s y ≡ ps = changed_elsewhere ps s y e in
    let rest : AreFine kind ps s ys = subst (λ (zs : List ℤ). AreFine kind zs s ys) set fine.2 in
    let led : (plant_after_all x p (settings_of s ys)).model ≡ begun kind (changed (changed_by ps s y) s ys) types = settings_begin x p kind ps types s ys is rest ∙ ap (λ (v : List ℤ). begun kind (changed v s ys) types) (sym set) in
    subst (λ (b : Bool). (plant_after_all x p (map set_parameter (cond b (y ∷ filter (λ (z : Setting). z.slave == s) ys) (filter (λ (z : Setting). z.slave == s) ys)))).model ≡ begun kind (changed ps s (y ∷ ys)) types) (sym e) led)
