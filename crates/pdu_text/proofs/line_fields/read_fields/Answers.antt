use Rattle.std.proofs.Common.{◌≡◌, ℕ, zero, suc, ◌<◌, Bool, List, [], ◌∷◌, length, map, drop, Bor, Err, refl, sym, ap, ◌∙◌, arith}
use Rattle.pdu_layout.specs.declared.fields.Field.{Field}
use Rattle.pdu_layout.specs.Table.{rows_of}
use Rattle.pdu_text.specs.Contents.{value_of_said}
use Rattle.pdu_text.specs.Machine.{fields_said}
use Rattle.pdu_text.specs.declared.reasons.PduTextWhy.TheVariants.{Words}
use Rattle.pdu_text.proofs.Fronts.{with_front}
use Rattle.pdu_text.proofs.line_fields.read_fields.Goals as goal

-- a field is left, and no word
no_word : (fs : List Field) (i room t : ℕ) (more : Bool) → i < length fs → fields_said (rows_of (drop i fs)) room t more [] ≡ Err Words
no_word [] i room t more below = absurd (omega arith)
no_word (f ∷ fs) zero room t more below = refl
no_word (f ∷ fs) (suc i) room t more below = no_word fs i room t more (omega arith)

none_left : (ws : List (Bor (List ℕ))) → length ws < 1 → map (λ w. w.now) ws ≡ []
none_left [] few = refl
none_left (w ∷ ws) few = absurd (omega arith)

pub returns-in-empty : goal.returns-in-empty
returns-in-empty c =
    let fields = c.args.fields.now in
    let i = c.loop-field.field-index in
    let l = c.loop-field in
    sym l.invariant
    ∙ ap (λ ws. with_front (map value_of_said l.values.items) (fields_said (rows_of (drop i fields)) l.room l.last c.args.more ws)) (none_left l.rest.now c.in-empty.len_below)
    ∙ ap (with_front (map value_of_said l.values.items)) (no_word fields i l.room l.last c.args.more c.loop-field-test.true)
