-- The printed lines.
use Rattle.std.proofs.Common.{◌≡◌, ℕ, ℤ, List, [], ◌∷◌, ◌++◌, map, codes, sym, ap, ◌∙◌, append-nil, append_assoc}
use Rattle.std.specs.List.{join_with_byte, flat_map}
use Rattle.std.specs.Fmt.{signed_decimal}
use Rattle.text_lines.specs.Printed.{line_of}
use Rattle.desc_text.specs.Canonical.{spaced}

joined : (w : List ℕ) (ps : List ℤ) → join_with_byte 32 (w ∷ map signed_decimal ps) ≡ w ++ flat_map spaced ps
joined w [] = sym (append-nil w)
joined w (p ∷ ps) = ap (λ l. w ++ 32 ∷ l) (joined (signed_decimal p) ps)

pub model_line : (w : List ℕ) (ps : List ℤ) → line_of (codes "model" ∷ w ∷ map signed_decimal ps) ≡ codes "model " ++ (w ++ (flat_map spaced ps ++ 10 ∷ []))
unfolding line_of
model_line w ps = ap (λ l. codes "model " ++ (l ++ 10 ∷ [])) (joined w ps) ∙ ap (λ l. codes "model " ++ l) (append_assoc w (flat_map spaced ps) (10 ∷ []))
