-- The codes that may have a name, one after another.
use Rattle.std.proofs.Common.{◌≡◌, ℕ, suc, ◌+◌, ◌-◌, ◌<◌, ◌≤◌, cond, true, false, List, Option, Some, None, refl, ap, ◌∙◌, arith}
use Rattle.pdu_text.specs.Lines.{code_named}
use Rattle.pdu_text.specs.Scan.{is_named, code_among}

abbrev some_code : ℕ → Option ℕ
some_code code = Some code

step : (code : ℕ) (w : List ℕ) → code < 256 → code_among (256 - code) code w ≡ cond (is_named code w) (some_code code) (code_among (256 - (code + 1)) (code + 1) w)
unfolding code_among
step code w below =
    let one : 256 - code ≡ suc (256 - (code + 1)) = omega (arith, below) in
    ap (λ (n : ℕ). code_among n code w) one

pub here : (code : ℕ) (w : List ℕ) → code < 256 → is_named code w ≡ true → code_among (256 - code) code w ≡ Some code
here code w below e = step code w below ∙ ap (λ b. cond b (some_code code) (code_among (256 - (code + 1)) (code + 1) w)) e

pub next : (code : ℕ) (w : List ℕ) → code < 256 → is_named code w ≡ false → code_among (256 - code) code w ≡ code_among (256 - (code + 1)) (code + 1) w
next code w below e = step code w below ∙ ap (λ b. cond b (some_code code) (code_among (256 - (code + 1)) (code + 1) w)) e

pub none : (code : ℕ) (w : List ℕ) → 256 ≤ code → code_among (256 - code) code w ≡ None
unfolding code_among
none code w past =
    let no : 256 - code ≡ 0 = omega (arith, past) in
    ap (λ (n : ℕ). code_among n code w) no

-- going through all codes finds the row with the name
pub scanned : (w : List ℕ) → code_among 256 0 w ≡ code_named w
unfolding code_among is_named code_named
scanned w = refl
