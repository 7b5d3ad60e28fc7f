-- The hosted slaves have models here, one after the other.
use Rattle.std.proofs.Common.{◌≡◌, ℕ, ◌+◌, ◌-◌, ◌<◌, ◌≤◌, Bool, true, false, if◌then◌else◌, List, [], ◌∷◌, length, take, drop, get_or, Option, Some, None, refl, ap, subst, sym, ◌∙◌, arith}
use Rattle.std.specs.Prelude.{◌&&◌}
use Rattle.std.specs.List.{All}
use Rattle.std.proofs.lemmas.List.{take_all}
use Rattle.std.proofs.lemmas.List.Elements.{All-nil, All-tail, All-head, All-cons}
use Rattle.fixed_models.specs.Kinds.{is_external}
use Rattle.slave_desc.specs.declared.descriptions.SlaveDesc.{SlaveDesc}
use Rattle.slave_desc.specs.Descriptions.{HasModel}
use Rattle.scenario.specs.Sound.{HaveModels}
use Rattle.host.specs.declared.hosted.Hosted.{Hosted}
use Rattle.host.specs.Hosting.{is_hosted, hosted_from}
use Rattle.host.specs.Externals.{external_from}

-- the slaves behind the first
abbrev pub behind : List SlaveDesc → List SlaveDesc
behind ds = take (length ds - 1) (drop 1 ds)

behind_is : (x : SlaveDesc) (ds : List SlaveDesc) → ds ≡ behind (x ∷ ds)
behind_is x ds = sym (take_all (length (x ∷ ds) - 1) ds (omega arith))

pub all_behind : (P : SlaveDesc → Type 0) (ds : List SlaveDesc) → 1 ≤ length ds → All P ds → All P (behind ds)
all_behind P [] some all = absurd (omega arith)
all_behind P (x ∷ ds) some all = subst (λ l. All P l) (behind_is x ds) (All-tail P x ds all)

module _ (h : Hosted) (s : ℕ) where
  -- the first of them, where it is hosted
  pub first_model : (ds : List SlaveDesc) (d : SlaveDesc) → 1 ≤ length ds → d ≡ get_or ds 0 d → is_hosted h s ≡ true → HaveModels (hosted_from h s ds) → HasModel d
  first_model [] d some item is m = absurd (omega arith)
  first_model (x ∷ ds) d some item is m =
      let P : Bool → Type 0 = λ b. HaveModels (if b then x ∷ hosted_from h (s + 1) ds else hosted_from h (s + 1) ds) in
      let has : HasModel x = All-head (λ y. HasModel y) x (hosted_from h (s + 1) ds) (subst P is m) in
      subst (λ (y : SlaveDesc). HasModel y) (sym item) has

  -- and the others
  pub other_models : (ds : List SlaveDesc) → 1 ≤ length ds → HaveModels (hosted_from h s ds) → HaveModels (hosted_from h (s + 1) (behind ds))
  other_models [] some m = absurd (omega arith)
  other_models (x ∷ ds) some m = subst (λ l. HaveModels (hosted_from h (s + 1) l)) (behind_is x ds) (by (is_hosted h s) m)
    where
      by : (b : Bool) → HaveModels (if b then x ∷ hosted_from h (s + 1) ds else hosted_from h (s + 1) ds) → HaveModels (hosted_from h (s + 1) ds)
      by true k = All-tail (λ y. HasModel y) x (hosted_from h (s + 1) ds) k
      by false k = k

  -- where none is left
  pub none_left : (ds : List SlaveDesc) → length ds < 1 → external_from h s ds ≡ None
  none_left [] few = refl
  none_left (x ∷ ds) few = absurd (omega arith)

  pub none_left_lacks : (ds : List SlaveDesc) → length ds < 1 → HaveModels (hosted_from h s ds)
  none_left_lacks [] few = All-nil (λ y. HasModel y)
  none_left_lacks (x ∷ ds) few = absurd (omega arith)

  -- where the first lacks its model
  pub first_external : (ds : List SlaveDesc) (d : SlaveDesc) → 1 ≤ length ds → d ≡ get_or ds 0 d → (is_hosted h s && is_external d.kind) ≡ true → external_from h s ds ≡ Some s
  first_external [] d some item is = absurd (omega arith)
  first_external (x ∷ ds) d some item is =
      let P : SlaveDesc → Type 0 = λ y. (is_hosted h s && is_external y.kind) ≡ true in
      ap (λ (b : Bool). if b then Some s else external_from h (s + 1) ds) (subst P item is)

  -- and where it does not
  pub later_external : (ds : List SlaveDesc) (d : SlaveDesc) → 1 ≤ length ds → d ≡ get_or ds 0 d → (is_hosted h s && is_external d.kind) ≡ false → external_from h s ds ≡ external_from h (s + 1) (behind ds)
  later_external [] d some item away = absurd (omega arith)
  later_external (x ∷ ds) d some item away =
      let P : SlaveDesc → Type 0 = λ y. (is_hosted h s && is_external y.kind) ≡ false in
      ap (λ (b : Bool). if b then Some s else external_from h (s + 1) ds) (subst P item away) ∙ ap (external_from h (s + 1)) (behind_is x ds)

  pub all_models : (ds : List SlaveDesc) (d : SlaveDesc) → 1 ≤ length ds → d ≡ get_or ds 0 d → (is_hosted h s && is_external d.kind) ≡ false → HaveModels (hosted_from h (s + 1) (behind ds)) → HaveModels (hosted_from h s ds)
  all_models [] d some item away m = absurd (omega arith)
  all_models (x ∷ ds) d some item away m =
      let P : SlaveDesc → Type 0 = λ y. (is_hosted h s && is_external y.kind) ≡ false in
      by (is_hosted h s) (subst P item away) (subst (λ l. HaveModels (hosted_from h (s + 1) l)) (sym (behind_is x ds)) m)
    where
      by : (b : Bool) → (b && is_external x.kind) ≡ false → HaveModels (hosted_from h (s + 1) ds) → HaveModels (if b then x ∷ hosted_from h (s + 1) ds else hosted_from h (s + 1) ds)
      by true k rest = All-cons (λ y. HasModel y) x (hosted_from h (s + 1) ds) k rest
      by false k rest = rest
