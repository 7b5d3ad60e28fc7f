use Rattle.std.proofs.Common.{◌≡◌, ℕ, ap, append_assoc, append-nil, ◌∙◌}
use Rattle.std.specs.Int.{w128, to_be_bytes}
use Rattle.uuid.specs.Text.{hyphenated_text, lower}
use Rattle.text_lines.specs.Printed.{identity_word}
use Rattle.soaks.proofs.slaves.put_head.Goals as goal

pub returns : goal.returns
unfolding identity_word
returns c =
    let identity : c.encode_lower-identity.result.now ≡ identity_word c.args.s =
    c.encode_lower-identity.ensures.text ∙ ap (hyphenated_text lower) (c.hyphenated.ensures ∙ c.from_u128.ensures ∙ ap (λ (n : ℕ). to_be_bytes w128 n) c.from.ensures) in
    rw (c.in_ok-put_names.ensures, identity) (simp (append_assoc, append-nil))
