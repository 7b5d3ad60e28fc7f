use Rattle.std.proofs.Common.{◌≡◌, ◌+◌, ◌%◌, ◌++◌, ◌∷◌, [], List, ℕ, ap, ◌∙◌, map, arith}
use Rattle.std.specs.List.{flat_map, range_with_len}
use Rattle.text_lines.specs.Printed.{line_of}
use Rattle.soaks.specs.Texts.{chaos_words, counter_words, drawn_at, opening_words, slave_count, step_count, wired_at}
use Rattle.soaks.proofs.Growing.{joined_lines}
use Rattle.soaks.proofs.texts.soak_text.Goals as goal

pub returns : goal.returns
returns c =
    let number = c.args.number in
    let later = 1 + number % 15 in
    let first = opening_words (step_count number) in
    let drawn = flat_map (drawn_at number) (range_with_len 0 later) in
    let wired : ℕ → List (List (List ℕ)) = λ slaves. map (wired_at number slaves) (range_with_len 0 later) in
    let slaves : later + 1 ≡ slave_count number = omega arith in
    let begun = c.in_ok-put_first.ensures ∙ ap (λ (l : List ℕ). l ++ flat_map line_of first) c.new-text.ensures.bytes in
    let counted = c.in_ok-put_counter.ensures ∙ ap (λ (l : List ℕ). l ++ flat_map line_of counter_words) begun in
    let all = c.in_ok-put_slaves.ensures ∙ ap (λ (l : List ℕ). l ++ flat_map line_of drawn) counted in
    let joined = c.in_ok-put_wires.ensures ∙ ap (λ (l : List ℕ). l ++ flat_map line_of (wired (later + 1))) all in
    c.in_ok-put_chaos.ensures ∙ ap (λ (l : List ℕ). l ++ line_of (chaos_words number)) joined
    ∙ joined_lines first counter_words drawn (wired (later + 1)) (chaos_words number)
    ∙ ap (λ (n : ℕ). flat_map line_of ((((first ++ counter_words) ++ drawn) ++ wired n) ++ chaos_words number ∷ [])) slaves
