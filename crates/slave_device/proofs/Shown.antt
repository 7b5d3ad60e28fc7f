-- The outputs of a model, read one by one.
use Rattle.std.proofs.Common.{◌≡◌, ℕ, zero, suc, ◌+◌, ◌<◌, ◌≤◌, Bool, true, false, ◌&&◌, List, [], ◌∷◌, ◌++◌, length, take, get_or, set, refl, ap, sym, subst, ◌∙◌, arith, if◌then◌else◌, Ok, Err}
use Rattle.std.specs.Prelude.{ℤ, pos, slice_index_or}
use Rattle.std.proofs.lemmas.List.{take_more, take-set-le, get_or-set_same, length-map, length-set, take_all}
use Rattle.std.proofs.lemmas.Bool.{and_parts}
use Rattle.dcp_types.specs.declared.data_types.DataType.{DataType}
use Rattle.dcp_types.specs.declared.data_types.DataType.TheVariants.{I64}
use Rattle.dcp_types.specs.declared.fault_codes.FaultCode.{FaultCode}
use Rattle.dcp_types.specs.declared.fault_codes.FaultCode.TheVariants.{OutOfRange}
use Rattle.dcp_types.specs.Values.{fits}
use Rattle.fixed_models.specs.declared.kinds.Kind.{Kind}
use Rattle.fixed_models.specs.declared.kinds.Kind.TheVariants as kinds
use Rattle.fixed_models.specs.Kinds.{nth, output_count}
use Rattle.fixed_models.specs.Steps.{outputs, all_fit}
use Rattle.fixed_models.specs.Views.{View, value_at}
use Rattle.slave_spec.specs.declared.words.SlaveSetup.{SlaveSetup}
use Rattle.slave_spec.specs.Turns.{values}
use Rattle.slave_device.specs.Made.{IsMade}

pub record Shown (model : View) (room : List ℤ) (i : ℕ) : Type 0 where
  pub fit : all_fit (take i model.types) (take i (values model)) ≡ true
  pub shown : take i room ≡ take i (values model)
  pub size : length room ≡ 8

count_of : (k : Kind) (ps s : List ℤ) → length (outputs k ps s) ≡ output_count k
unfolding outputs
count_of kinds.Const ps s = refl
count_of kinds.Ramp ps s = refl
count_of kinds.Counter ps s = refl
count_of kinds.Gain ps s = refl
count_of kinds.Sum ps s = refl
count_of kinds.Integrator ps s = refl
count_of kinds.Lag ps s = refl
count_of kinds.Delay ps s = refl
count_of kinds.Limiter ps s = refl
count_of kinds.Deadband ps s = refl
count_of kinds.Divider ps s = refl
count_of kinds.Oscillator ps s = refl
count_of kinds.Tank ps s = refl
count_of kinds.Switch ps s = refl
count_of kinds.External ps s = refl

fit_more : (i : ℕ) (ts : List DataType) (vs : List ℤ) → i < length ts → i < length vs → all_fit (take i ts) (take i vs) ≡ true → fits (slice_index_or ts i I64) (nth vs i) ≡ true
    → all_fit (take (suc i) ts) (take (suc i) vs) ≡ true
fit_more zero (t ∷ ts) (v ∷ vs) a b h e = rw e refl
fit_more (suc i) (t ∷ ts) (v ∷ vs) a b h e =
    let p = and_parts (fits t v) (all_fit (take i ts) (take i vs)) h in
    rw (p.0, fit_more i ts vs (omega (arith, a)) (omega (arith, b)) p.1 e) refl
fit_more zero [] vs a b h e = absurd (omega (arith, a))
fit_more zero (t ∷ ts) [] a b h e = absurd (omega (arith, b))
fit_more (suc i) [] vs a b h e = absurd (omega (arith, a))
fit_more (suc i) (t ∷ ts) [] a b h e = absurd (omega (arith, b))

unfit : (i : ℕ) (ts : List DataType) (vs : List ℤ) → i < length ts → i < length vs → fits (slice_index_or ts i I64) (nth vs i) ≡ false → all_fit ts vs ≡ false
unfit zero (t ∷ ts) (v ∷ vs) a b e = rw e refl
unfit (suc i) (t ∷ ts) (v ∷ vs) a b e = never (fits t v) _ (unfit i ts vs (omega (arith, a)) (omega (arith, b)) e)
  where
    never : (x y : Bool) → y ≡ false → (x && y) ≡ false
    never true y p = p
    never false y p = refl
unfit zero [] vs a b e = absurd (omega (arith, a))
unfit zero (t ∷ ts) [] a b e = absurd (omega (arith, b))
unfit (suc i) [] vs a b e = absurd (omega (arith, a))
unfit (suc i) (t ∷ ts) [] a b e = absurd (omega (arith, b))

module _ (s : SlaveSetup) (model : View) (made : IsMade s model) where
  pub type_count : length model.types ≡ length s.desc.outputs
  type_count = ap length made.types ∙ length-map s.desc.outputs (λ p. p.kind)

  pub value_count : length (values model) ≡ length s.desc.outputs
  value_count = count_of model.kind model.parameters model.state ∙ ap output_count made.kind ∙ sym made.outputs

ok_is : (b : Bool) (z y : ℤ) → Ok z ≡ (if b then Ok y else Err OutOfRange) → (b ≡ true) × (z ≡ y)
ok_is true z y e = (refl, cc)
ok_is false z y e = absurd cc

err_is : (b : Bool) (y : ℤ) (code : FaultCode) → Err code ≡ (if b then Ok y else Err OutOfRange) → (b ≡ false) × (code ≡ OutOfRange)
err_is true y code e = absurd cc
err_is false y code e = (refl, cc)

pub shown_more : (s : SlaveSetup) (model : View) (room : List ℤ) (i : ℕ) (z : ℤ) → IsMade s model → i < length s.desc.outputs → Ok z ≡ value_at model i → Shown model room i
    → Shown model (set room i z) (i + 1)
shown_more s model room i z made lt e h =
    let p = ok_is _ z (nth (values model) i) e in
    let one : i + 1 ≡ suc i = omega arith in
    let a : i < length model.types = omega (arith, type_count s model made) in
    let b : i < length (values model) = omega (arith, value_count s model made) in
    let c : i < length room = omega (arith, h.size, made.few) in
    let fit = fit_more i model.types (values model) a b h.fit p.0 in
    let shown : take (i + 1) (set room i z) ≡ take (i + 1) (values model) =
    take_more (set room i z) i (pos 0) (omega (arith, c, length-set room i z))
    ∙ ap (λ (l : List ℤ). l ++ get_or (set room i z) i (pos 0) ∷ []) (take-set-le i room i z (omega arith) ∙ h.shown)
    ∙ ap (λ (y : ℤ). take i (values model) ++ y ∷ []) (get_or-set_same room i z (pos 0) c ∙ p.1)
    ∙ sym (take_more (values model) i (pos 0) b) in
    record { fit = subst (λ (k : ℕ). all_fit (take k model.types) (take k (values model)) ≡ true) (sym one) fit; shown = shown; size = length-set room i z ∙ h.size }

pub unshown : (s : SlaveSetup) (model : View) (i : ℕ) (code : FaultCode) → IsMade s model → i < length s.desc.outputs → Err code ≡ value_at model i → (all_fit model.types (values model) ≡ false) × (code ≡ OutOfRange)
unshown s model i code made lt e =
    let p = err_is _ (nth (values model) i) code e in
    (unfit i model.types (values model) (omega (arith, type_count s model made)) (omega (arith, value_count s model made)) p.0, p.1)

pub shown_all : (s : SlaveSetup) (model : View) (room : List ℤ) (n : ℕ) → IsMade s model → n ≡ length s.desc.outputs → Shown model room n → (all_fit model.types (values model) ≡ true) × (take n room ≡ values model) × (n ≤ 8)
shown_all s model room n made e h =
    let a = take_all n model.types (omega (arith, type_count s model made)) in
    let b = take_all n (values model) (omega (arith, value_count s model made)) in
    (subst (λ ts. all_fit ts (values model) ≡ true) a (subst (λ vs. all_fit (take n model.types) vs ≡ true) b h.fit), h.shown ∙ b, omega (arith, made.few))
