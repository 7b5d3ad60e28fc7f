use Rattle.std.proofs.Common.{◌≡◌, ℕ, List, Some, None, Err, Option, Result, Ok, refl, sym}
use Rattle.std.proofs.lemmas.Bool.{false≢true}
use Rattle.std.specs.Int.{w128, from_be_bytes}
use Rattle.uuid.specs.Text.{parsed}
use Rattle.text_lines.specs.Causes.{◌>>=◌, or_why}
use Rattle.text_lines.specs.declared.reasons.TextWhy.{TextWhy}
use Rattle.text_lines.specs.declared.reasons.TextWhy.TheVariants.{BadUuid}
use Rattle.text_lines.proofs.identities.identity.Goals as goal

nothing : (o : Option (List ℕ)) (f : List ℕ → Result ℕ TextWhy) → (((u : List ℕ) × (o ≡ Some u)) → ⊥) → (or_why o BadUuid >>= f) ≡ Err BadUuid
nothing None f none = refl
nothing (Some u) f none = absurd (none (u, refl))

pub returns-in-Err : goal.returns-in-Err
returns-in-Err c = sym (nothing (parsed c.args.word.now) (λ bytes. Ok (from_be_bytes w128 bytes)) (λ h. false≢true (c.in-Err.ensures.ok.1 h)))
