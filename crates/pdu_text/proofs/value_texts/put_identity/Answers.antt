use Rattle.std.proofs.Common.{◌≡◌, ◌++◌, List, ℕ, string_bytes, ap, ◌∙◌, subst, OnOk}
use Rattle.uuid.specs.Text.{hyphenated_text, lower}
use Rattle.text_lines.specs.Printed.{identity_word}
use Rattle.pdu_text.proofs.value_texts.put_identity.Goals as goal

pub returns : goal.returns
unfolding identity_word
returns c =
    let text : c.encode_lower-text.result.now ≡ identity_word c.args.identity = c.encode_lower-text.ensures.text ∙ ap (hyphenated_text lower) (c.hyphenated.ensures ∙ c.from_u128.ensures) in
    subst (λ (t : List ℕ). OnOk c.put_text.result (string_bytes c.put_text.new.out ≡ string_bytes c.args.out.now ++ t)) text c.put_text.ensures
