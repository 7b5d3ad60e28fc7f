-- What a model shows, port by port.
use Rattle.std.proofs.Common.{◌≡◌, ℕ, ◌+◌, ◌≤◌, ◌<◌, Bool, true, false, ◌&&◌, if◌then◌else◌, cond, List, [], ◌∷◌, ◌++◌, length, take, drop, get_or, refl, sym, ◌∙◌, ap, arith, Result, Ok, Err, ℤ, pos}
use Rattle.std.proofs.lemmas.List.{drop_more, drop_all, take_more, take_all}
use Rattle.dcp_types.specs.declared.data_types.DataType.{DataType}
use Rattle.dcp_types.specs.declared.data_types.DataType.TheVariants.{I64}
use Rattle.dcp_types.specs.declared.fault_codes.FaultCode.{FaultCode}
use Rattle.dcp_types.specs.declared.fault_codes.FaultCode.TheVariants.{OutOfRange}
use Rattle.dcp_types.specs.Values.{fits}
use Rattle.fixed_models.specs.declared.kinds.Kind.{Kind}
use Rattle.fixed_models.specs.declared.kinds.Kind.TheVariants as kinds
use Rattle.fixed_models.specs.Kinds.{nth, output_count}
use Rattle.fixed_models.specs.Steps.{outputs, all_fit}
use Rattle.fixed_models.specs.Views.{View, value_at}
use Rattle.lockstep.specs.Parts.{shows}

pub length-outputs : (kind : Kind) (ps s : List ℤ) → length (outputs kind ps s) ≡ output_count kind
unfolding outputs
length-outputs kinds.Const ps s = refl
length-outputs kinds.Ramp ps s = refl
length-outputs kinds.Counter ps s = refl
length-outputs kinds.Gain ps s = refl
length-outputs kinds.Sum ps s = refl
length-outputs kinds.Integrator ps s = refl
length-outputs kinds.Lag ps s = refl
length-outputs kinds.Delay ps s = refl
length-outputs kinds.Limiter ps s = refl
length-outputs kinds.Deadband ps s = refl
length-outputs kinds.Divider ps s = refl
length-outputs kinds.Oscillator ps s = refl
length-outputs kinds.Tank ps s = refl
length-outputs kinds.Switch ps s = refl
length-outputs kinds.External ps s = refl

abbrev checked : Bool → ℤ → Result ℤ FaultCode
checked b z = (if b then Ok z else Err OutOfRange)

ok_value : (b : Bool) (z value : ℤ) → Ok value ≡ checked b z → (b ≡ true) × (value ≡ z)
ok_value true z value e = (refl, cc)
ok_value false z value e = cc

err_value : (b : Bool) (z : ℤ) (code : FaultCode) → Err code ≡ checked b z → (b ≡ false) × (code ≡ OutOfRange)
err_value true z code e = cc
err_value false z code e = (refl, cc)

all_fit_at : (ts : List DataType) (vs : List ℤ) (i : ℕ) → i < length ts → i < length vs →
    all_fit (drop i ts) (drop i vs) ≡ (fits (get_or ts i I64) (get_or vs i (pos 0)) && all_fit (drop (i + 1) ts) (drop (i + 1) vs))
all_fit_at ts vs i lt lv =
    ap (λ (x : List DataType). all_fit x (drop i vs)) (drop_more ts i I64 lt)
    ∙ ap (λ (x : List ℤ). all_fit (get_or ts i I64 ∷ drop (i + 1) ts) x) (drop_more vs i (pos 0) lv)

abbrev pub values : View → List ℤ
values v = outputs v.kind v.parameters v.state

-- all that was shown so far fits
abbrev pub FitsSoFar : View → ℕ → Type 0
FitsSoFar v p = all_fit v.types (values v) ≡ all_fit (drop p v.types) (drop p (values v))

pub show_more : (v : View) (p : ℕ) (value : ℤ) → length v.types ≡ output_count v.kind → p < length v.types → Ok value ≡ value_at v p → FitsSoFar v p →
    (take (p + 1) (values v) ≡ take p (values v) ++ value ∷ []) × FitsSoFar v (p + 1)
show_more v p value full lt there so_far =
    let b = fits (get_or v.types p I64) (nth (values v) p) in
    let got = ok_value b (nth (values v) p) value there in
    let lv : p < length (values v) = omega (arith, full, length-outputs v.kind v.parameters v.state) in (
      take_more (values v) p (pos 0) lv ∙ ap (λ (x : ℤ). take p (values v) ++ x ∷ []) (sym got.1),
      so_far ∙ all_fit_at v.types (values v) p lt lv ∙ ap (λ (x : Bool). x && all_fit (drop (p + 1) v.types) (drop (p + 1) (values v))) got.0,
    )

pub show_stop : (v : View) (p : ℕ) (code : FaultCode) → length v.types ≡ output_count v.kind → p < length v.types → Err code ≡ value_at v p → FitsSoFar v p → shows v ≡ Err code
show_stop v p code full lt there so_far =
    let b = fits (get_or v.types p I64) (nth (values v) p) in
    let got = err_value b (nth (values v) p) code there in
    let lv : p < length (values v) = omega (arith, full, length-outputs v.kind v.parameters v.state) in
    let fails : all_fit v.types (values v) ≡ false =
    so_far ∙ all_fit_at v.types (values v) p lt lv ∙ ap (λ (x : Bool). x && all_fit (drop (p + 1) v.types) (drop (p + 1) (values v))) got.0 in
    ap (λ (x : Bool). cond x (Ok (values v)) (Err OutOfRange)) fails ∙ ap (λ (x : FaultCode). Err x) (sym got.1)

pub show_all : (v : View) (p : ℕ) → length v.types ≡ output_count v.kind → length v.types ≤ p → FitsSoFar v p → (take p (values v) ≡ values v) × (shows v ≡ Ok (values v))
show_all v p full le so_far =
    let lv : length (values v) ≤ p = omega (arith, full, length-outputs v.kind v.parameters v.state) in
    let fits_all : all_fit v.types (values v) ≡ true =
    so_far ∙ ap (λ (x : List DataType). all_fit x (drop p (values v))) (drop_all p v.types le) ∙ ap (λ (x : List ℤ). all_fit [] x) (drop_all p (values v) lv) in
    (take_all p (values v) lv, ap (λ (x : Bool). cond x (Ok (values v)) (Err OutOfRange)) fits_all)
