use Rattle.std.proofs.Common.{◌≡◌, Bool, true, false, ◌&&◌, ◌∙◌, refl}
use Rattle.std.specs.Prelude.{not, is_some}
use Rattle.master_spec.specs.Marks.{open_request}
use Rattle.master_spec.specs.Course.{is_settled, has_passed}
use Rattle.master_core.proofs.records.Talk.is_quiet.Goals as goal
use Rattle.master_core.proofs.records.Talk.is_quiet.Goals.{then-has_passed, else-has_passed}

quiet : (a b w x y z : Bool) → a ≡ true → a ≡ x → b ≡ y → b ≡ true → w ≡ z → not w ≡ (x && not (y && z))
quiet a b w x y z at ax by bt wz = rw (← ax, ← by, at, bt, wz) refl

not_passed : (a b w x y z : Bool) → a ≡ true → a ≡ x → b ≡ y → b ≡ false → w ≡ false → not w ≡ (x && not (y && z))
not_passed a b w x y z at ax by bf wf = rw (← ax, ← by, at, bf, wf) refl

going : (a x y : Bool) → a ≡ false → a ≡ x → a ≡ (x && y)
going a x y af ax = rw (← ax, af) refl

pub returns-after-has_passed : goal.returns-after-has_passed
returns-after-has_passed c = λ limits now talk s.
    elim c.if-has_passed.branch [
      | then-has_passed w ↦ quiet _ _ _ (is_settled talk) (has_passed talk) (is_some (open_request talk.marks)) c.if-is_settled.true (c.is_settled.ensures limits now talk s) (c.has_passed.ensures limits now talk s) w.if-has_passed.true (w.result-is ∙ w.waits_for_answer.ensures talk.marks s.stands)
      | else-has_passed w ↦ not_passed _ _ _ (is_settled talk) (has_passed talk) (is_some (open_request talk.marks)) c.if-is_settled.true (c.is_settled.ensures limits now talk s) (c.has_passed.ensures limits now talk s) w.if-has_passed.false (w.result-is ∙ w.if-has_passed.false)
    ]

pub returns-else-is_settled : goal.returns-else-is_settled
returns-else-is_settled c = λ limits now talk s. going _ (is_settled talk) _ c.if-is_settled.false (c.is_settled.ensures limits now talk s)
