-- A text that grows by a slave or a wire.
use Rattle.std.proofs.Common.{◌≡◌, ℕ, zero, suc, ◌+◌, ◌*◌, List, [], ◌∷◌, ◌++◌, map, sym, ap, ◌∙◌, arith, append-nil, append_assoc}
use Rattle.std.specs.List.{flat_map, range_with_len}
use Rattle.std.proofs.lemmas.Grind.{flat_map-append}
use Rattle.std.proofs.lemmas.List.FromFn.{map-range_with_len_more}
use Rattle.text_lines.specs.Printed.{line_of}
use Rattle.net_world.specs.Chances.{after_steps, draw, generator_step}
use Rattle.soaks.specs.Texts.{drawn_at, drawn_words, wire_words, wired_at}

range_more : (a n : ℕ) → range_with_len a (suc n) ≡ range_with_len a n ++ (a + n) ∷ []
range_more a zero = let same : a ≡ a + 0 = omega arith in ap (λ (m : ℕ). m ∷ []) same
range_more a (suc n) =
    let same : a + 1 + n ≡ a + suc n = omega arith in
    ap (λ (l : List ℕ). a ∷ l) (range_more (a + 1) n ∙ ap (λ (m : ℕ). range_with_len (a + 1) n ++ m ∷ []) same)

joined_more : {A : Type 0} → (f : ℕ → List A) (n : ℕ) → flat_map f (range_with_len 0 n) ++ f n ≡ flat_map f (range_with_len 0 (n + 1))
joined_more f n =
    let next : suc n ≡ n + 1 = omega arith in
    let here : 0 + n ≡ n = omega arith in
    ap (λ l. flat_map f (range_with_len 0 n) ++ l) (sym (append-nil (f n)))
    ∙ sym (flat_map-append f (range_with_len 0 n) (n ∷ []))
    ∙ ap (λ (m : ℕ). flat_map f (range_with_len 0 n ++ m ∷ [])) (sym here)
    ∙ ap (λ (l : List ℕ). flat_map f l) (sym (range_more 0 n))
    ∙ ap (λ (m : ℕ). flat_map f (range_with_len 0 m)) next

-- one slave more
pub slave_more : (number place : ℕ) → flat_map line_of (flat_map (drawn_at number) (range_with_len 0 place)) ++ flat_map line_of (drawn_at number place) ≡ flat_map line_of (flat_map (drawn_at number) (range_with_len 0 (place + 1)))
slave_more number place =
    sym (flat_map-append line_of (flat_map (drawn_at number) (range_with_len 0 place)) (drawn_at number place))
    ∙ ap (λ (l : List (List (List ℕ))). flat_map line_of l) (joined_more (drawn_at number) place)

-- one wire more
pub wire_more : (number slaves place : ℕ) → flat_map line_of (map (wired_at number slaves) (range_with_len 0 place)) ++ line_of (wired_at number slaves place) ≡ flat_map line_of (map (wired_at number slaves) (range_with_len 0 (place + 1)))
wire_more number slaves place =
    let f = wired_at number slaves in
    let here : 0 + place ≡ place = omega arith in
    ap (λ (l : List ℕ). flat_map line_of (map f (range_with_len 0 place)) ++ l) (sym (append-nil (line_of (f place))))
    ∙ sym (flat_map-append line_of (map f (range_with_len 0 place)) (f place ∷ []))
    ∙ ap (λ (l : List (List (List ℕ))). flat_map line_of l) (sym (map-range_with_len_more f 0 place place here))

-- the draws of a slave, where the generator stands before them
pub drawn_here : (number place x : ℕ) → x ≡ after_steps (3 * place) number → drawn_words (place + 2) (draw (generator_step x)) (draw (generator_step (generator_step x))) ≡ drawn_at number place
drawn_here number place x stands =
    let one : suc (3 * place) ≡ 3 * place + 1 = omega arith in
    let two : suc (suc (3 * place)) ≡ 3 * place + 2 = omega arith in
    ap (λ (y : ℕ). drawn_words (place + 2) (draw (generator_step y)) (draw (generator_step (generator_step y)))) stands
    ∙ ap (λ (m : ℕ). drawn_words (place + 2) (draw (after_steps m number)) (draw (after_steps (suc (suc (3 * place))) number))) one
    ∙ ap (λ (m : ℕ). drawn_words (place + 2) (draw (after_steps (3 * place + 1) number)) (draw (after_steps m number))) two

-- where it stands after them
after_three : (number place x : ℕ) → x ≡ after_steps (3 * place) number → after_steps 3 x ≡ after_steps (3 * place + 3) number
after_three number place x stands =
    let three : suc (suc (suc (3 * place))) ≡ 3 * place + 3 = omega arith in
    ap (λ (y : ℕ). after_steps 3 y) stands ∙ ap (λ (m : ℕ). after_steps m number) three

pub slaves_later : (number place x : ℕ) → x ≡ after_steps (3 * place) number → after_steps 3 x ≡ after_steps (3 * (place + 1)) number
slaves_later number place x stands =
    let more : 3 * place + 3 ≡ 3 * (place + 1) = omega arith in
    after_three number place x stands ∙ ap (λ (m : ℕ). after_steps m number) more

pub wire_here : (number slaves place x : ℕ) → x ≡ after_steps (3 * place) number → wire_words slaves (place + 2) (draw (after_steps 3 x)) ≡ wired_at number slaves place
wire_here number slaves place x stands = ap (λ (y : ℕ). wire_words slaves (place + 2) (draw y)) (after_three number place x stands)

-- lines that were put one list behind the other
pub joined_lines : (a b c d : List (List (List ℕ))) (e : List (List ℕ))
    → (((flat_map line_of a ++ flat_map line_of b) ++ flat_map line_of c) ++ flat_map line_of d) ++ line_of e ≡ flat_map line_of ((((a ++ b) ++ c) ++ d) ++ e ∷ [])
joined_lines a b c d e = simp (flat_map-append, append_assoc, append-nil)
