use Rattle.std.proofs.Common.{◌≡◌, ◌++◌, ◌∷◌, [], List, ℕ, codes, string_bytes, ap, ◌∙◌, subst, OnOk}
use Rattle.uuid.specs.Text.{hyphenated_text, lower}
use Rattle.text_lines.specs.Printed.{line_of, identity_word}
use Rattle.desc_text.proofs.printing.put_uuid.Goals as goal

pub returns : goal.returns
unfolding identity_word
returns c =
    let text : c.encode_lower-text.result.now ≡ identity_word c.args.uuid = c.encode_lower-text.ensures.text ∙ ap (hyphenated_text lower) (c.hyphenated.ensures ∙ c.from_u128.ensures) in
    subst (λ (t : List ℕ). OnOk c.put_uuid_text.result (string_bytes c.put_uuid_text.new.out ≡ string_bytes c.args.out.now ++ line_of (codes "uuid" ∷ t ∷ []))) text c.put_uuid_text.ensures
