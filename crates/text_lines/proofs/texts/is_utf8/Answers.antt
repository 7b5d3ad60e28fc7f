use Rattle.std.proofs.Common.{◌≡◌, ℕ, true, false, List, IsUtf8, refl, sym}
use Rattle.std.specs.Str.{is_utf8}
use Rattle.std.proofs.lemmas.Str.{IsUtf8-from_is_utf8, is_utf8-from_IsUtf8}
use Rattle.text_lines.proofs.texts.is_utf8.Goals as goal

not_utf8 : (bs : List ℕ) → (IsUtf8 bs → ⊥) → false ≡ is_utf8 bs
not_utf8 bs broken = elim (is_utf8 bs) as (λ b. is_utf8 bs ≡ b → false ≡ b) [ true ↦ λ e. absurd (broken (IsUtf8-from_is_utf8 bs e)) | false ↦ λ e. refl ] refl

pub returns-in-Ok : goal.returns-in-Ok
returns-in-Ok c = sym (is_utf8-from_IsUtf8 _ c.in-Ok.ensures.cases.1)

pub returns-in-Err : goal.returns-in-Err
returns-in-Err c = not_utf8 _ c.in-Err.ensures.cases.0
