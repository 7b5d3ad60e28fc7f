-- The scenario of a number, as text.
use Rattle.std.specs.Prelude.{ℕ, ◌+◌, ◌*◌, ◌%◌, ◌==◌, List, [], ◌∷◌, ◌++◌, map, if◌then◌else◌, codes, decimal}
use Rattle.std.specs.List.{flat_map, range_with_len}
use Rattle.text_lines.specs.Printed.{line_of, identity_word}
use Rattle.net_world.specs.Chances.{after_steps, draw}

abbrev pub slave_count : (number : ℕ) → ℕ
slave_count number = 2 + number % 15

abbrev pub step_count : (number : ℕ) → ℕ
step_count number = 200 + number % 301

-- The generator begins at the number. Three draws are taken for each slave behind the first, in order; place counts these slaves from 0.
abbrev pub drawn : (number place nth : ℕ) → ℕ
drawn number place nth = draw (after_steps (3 * place + nth) number)

-- the name of slave s
abbrev pub name_word : (s : ℕ) → List ℕ
name_word s = codes "s" ++ decimal s

-- the words of its first lines: its name, its identity and its address
abbrev pub slave_head_words : (s : ℕ) → List (List (List ℕ))
slave_head_words s =
    (codes "slave" ∷ name_word s ∷ [])
    ∷ (codes "uuid" ∷ identity_word s ∷ [])
    ∷ (codes "address" ∷ codes "127.0.0.1" ∷ decimal (9000 + s) ∷ [])
    ∷ []

abbrev pub input_words : List (List ℕ)
input_words = codes "input" ∷ codes "1" ∷ codes "int32" ∷ []

abbrev pub output_words : List (List ℕ)
output_words = codes "output" ∷ codes "2" ∷ codes "int32" ∷ []

-- slave 1 counts
abbrev pub counting_words : List (List ℕ)
counting_words = codes "model" ∷ codes "counter" ∷ codes "1000" ∷ []

abbrev pub counter_words : List (List (List ℕ))
counter_words = slave_head_words 1 ++ counting_words ∷ output_words ∷ []

-- the model by the first two draws
abbrev pub model_words : (a b : ℕ) → List (List ℕ)
model_words a b =
    if a % 4 == 0 then codes "model" ∷ codes "lag" ∷ codes "0" ∷ codes "16384" ∷ []
    else if a % 4 == 1 then codes "model" ∷ codes "delay" ∷ codes "0" ∷ decimal (1 + b % 8) ∷ []
    else if a % 4 == 2 then codes "model" ∷ codes "limiter" ∷ codes "-400" ∷ codes "400" ∷ []
    else codes "model" ∷ codes "deadband" ∷ codes "5" ∷ []

-- a slave behind the first
abbrev pub drawn_words : (s a b : ℕ) → List (List (List ℕ))
drawn_words s a b = slave_head_words s ++ model_words a b ∷ input_words ∷ output_words ∷ []

-- its wire by the third draw, from any slave, also from itself
abbrev pub wire_words : (slaves s c : ℕ) → List (List ℕ)
wire_words slaves s c = codes "wire" ∷ name_word (1 + c % slaves) ∷ codes "0" ∷ name_word s ∷ codes "0" ∷ []

abbrev pub drawn_at : (number place : ℕ) → List (List (List ℕ))
drawn_at number place = drawn_words (place + 2) (drawn number place 1) (drawn number place 2)

abbrev pub wired_at : (number slaves place : ℕ) → List (List ℕ)
wired_at number slaves place = wire_words slaves (place + 2) (drawn number place 3)

abbrev pub master_words : List (List ℕ)
master_words = codes "master" ∷ codes "127.0.0.1" ∷ codes "9000" ∷ []

abbrev pub opening_words : (steps : ℕ) → List (List (List ℕ))
opening_words steps = (codes "steps" ∷ decimal steps ∷ []) ∷ master_words ∷ []

-- no message is lost, one in ten comes twice, and one in ten is held
abbrev pub chaos_words : (number : ℕ) → List (List ℕ)
chaos_words number = codes "chaos" ∷ decimal number ∷ codes "0" ∷ codes "100" ∷ codes "100" ∷ []

-- the words of each line: the head, the slaves, the wires, and the network
abbrev pub soak_words : (number : ℕ) → List (List (List ℕ))
soak_words number =
    opening_words (step_count number)
    ++ counter_words
    ++ flat_map (drawn_at number) (range_with_len 0 (1 + number % 15))
    ++ map (wired_at number (slave_count number)) (range_with_len 0 (1 + number % 15))
    ++ chaos_words number ∷ []

abbrev pub soak_text : (number : ℕ) → List ℕ
soak_text number = flat_map line_of (soak_words number)
