-- `clap` takes each line, and finds its words.
use Rattle.std.proofs.Common.{◌≡◌, ◌∙◌, ◌&&◌, ◌||◌, cond, true≢false, refl, sym, ap, ap₂, true, false, Bool, List, ℕ, [], ◌∷◌, Option, None}
use Rattle.std.specs.Prelude.{codes, fold, slice_get}
use Rattle.std.specs.List.{list_all}
use Rattle.std.specs.Option.{option_map_or}
use Rattle.std.specs.Str.{bytes_eq}
use Rattle.std.proofs.lemmas.Bool.{not-true}
use Rattle.clap.specs.Lexer.{long_of, short_of}
use Rattle.clap.specs.Walk.{Held, Step, Walk, after_step, arg_by_index, finished, first_of, idle, long_or_other, nothing_held, short_or_plain, to_positional, trailing, value, walked, word_met}
use Rattle.clap.specs.Simple.{on_top}
use Rattle.clap.specs.Takes.{bundle_passes, default_passes, flag_word_passes, is_valid, settle_passes, step_passes, turn_passes, walk_passes, word_passes}
use Rattle.clap.specs.Words.{App, Rule, Shape, Text, built, matches_of, new_app, new_rule, takes, with_rule}
use Rattle.clap.proofs.TakesLemmas.{leaf_takes}
use Rattle.clap.proofs.WalkLemmas.{both}
use Rattle.command_line.specs.Lines.{is_line, is_option}

-- ---- a word that begins with no `-`

is_no_end : (word : Text) → is_option word ≡ false → bytes_eq word (45 ∷ 45 ∷ []) ≡ false
is_no_end [] plain = refl
is_no_end (x ∷ xs) plain = rw plain refl

has_no_long : (word : Text) → is_option word ≡ false → long_of word ≡ None
has_no_long [] plain = refl
has_no_long (x ∷ xs) plain = rw plain refl

has_no_short : (word : Text) → is_option word ≡ false → short_of word ≡ None
has_no_short [] plain = refl
has_no_short (x ∷ xs) plain = rw plain refl

-- it is a value of a positional
is_value : (c : List Rule) (h : Held) (place : ℕ) (word : Text) → is_option word ≡ false → word_met c [] false idle place word h ≡ (h, value)
is_value c h place word plain =
    ap₂ (λ (end : Bool) (flag : Option (Text × Option Text)). cond end (h, trailing place) (long_or_other c idle word flag h)) (is_no_end word plain) (has_no_long word plain)
    ∙ ap (λ flags. short_or_plain c idle word flags h) (has_no_short word plain)

is_no_flag : (s : Shape) (h : Held) (word : Text) → is_option word ≡ false → word_passes s [] false idle word h ≡ true
is_no_flag s h word plain =
    ap₂ (λ (end : Bool) (flag : Option (Text × Option Text)). end || flag_word_passes s.rules s.args_override_self flag word h) (is_no_end word plain) (has_no_long word plain)
    ∙ ap (λ flags. option_map_or (λ f. bundle_passes s.rules s.args_override_self f h) flags true) (has_no_short word plain)

-- ---- the command of a line

abbrev pub command_rule : Rule
command_rule = record (new_rule (codes "command")) { required = true }

abbrev pub operand_rule : Rule
operand_rule = new_rule (codes "operand")

abbrev pub set : App → App
set = on_top (λ s. record s { no_binary_name = true; disable_help_flag = true })

abbrev pub bare : App
bare = set (new_app (codes "line"))

abbrev pub grammar : App
grammar = with_rule (with_rule bare command_rule) operand_rule

abbrev top : Shape
top = (built grammar).top

-- ---- the walk

-- between two words, where nothing waits
abbrev at : Held → ℕ → Walk
at h place = record { held = h; waiting = idle; position = place; is_trailing = false; stopped = None }

abbrev start : Walk
start = at nothing_held 1

-- after the word, which the positional of the place takes
abbrev after : Walk → Text → Walk
after w word = to_positional top.rules (arg_by_index top.rules w.position) word w w.held

abbrev after_one : Text → Walk
after_one command = after start command

abbrev after_two : Text → Text → Walk
after_two command operand = after (after_one command) operand

goes_on : (h : Held) (place : ℕ) (word : Text) → is_option word ≡ false → walked top.rules [] (at h place) word ≡ after (at h place) word
unfolding walked
goes_on h place word plain = ap (λ (met : Held × Step). after_step top.rules word (at h place) met.0 met.1) (is_value top.rules h place word plain)

passes : (h : Held) (place : ℕ) (word : Text) → is_option word ≡ false → turn_passes top [] (at h place) word ≡ step_passes top place h value
passes h place word plain =
    ap₂ (λ (free : Bool) (met : Held × Step). free && step_passes top place met.0 met.1) (is_no_flag top h word plain) (is_value top.rules h place word plain)

one_walked : (command : Text) → is_option command ≡ false → walked top.rules [] start command ≡ after_one command
one_walked command plain = goes_on nothing_held 1 command plain

two_walked : (command operand : Text) → is_option command ≡ false → is_option operand ≡ false
    → fold (walked top.rules []) start (command ∷ operand ∷ []) ≡ after_two command operand
two_walked command operand plain too =
    ap (λ (w : Walk). walked top.rules [] w operand) (one_walked command plain) ∙ goes_on (after_one command).held 2 operand too

one_passes : (command : Text) → is_option command ≡ false → walk_passes top [] start (command ∷ []) ≡ true
unfolding walk_passes
one_passes command plain = ap (λ (first : Bool). first && true) (passes nothing_held 1 command plain)

two_pass : (command operand : Text) → is_option command ≡ false → is_option operand ≡ false
    → walk_passes top [] start (command ∷ operand ∷ []) ≡ true
unfolding walk_passes
two_pass command operand plain too =
    ap₂ (λ (first : Bool) (w : Walk). first && (turn_passes top [] w operand && true)) (passes nothing_held 1 command plain) (one_walked command plain)
    ∙ ap (λ (second : Bool). second && true) (passes (after_one command).held 2 operand too)

-- what is asked after the walk
abbrev end_passes : Walk → Bool
end_passes w = settle_passes top.rules false w.held && (list_all default_passes top.rules && is_valid top (finished top.rules w.held) false)

one_taken : (command : Text) → is_option command ≡ false → takes grammar (command ∷ []) ≡ true
one_taken command plain = leaf_takes (built grammar) nothing_held (command ∷ []) refl
    (ap₂ (λ (pass : Bool) (w : Walk). pass && end_passes w) (one_passes command plain) (one_walked command plain))

two_taken : (command operand : Text) → is_option command ≡ false → is_option operand ≡ false → takes grammar (command ∷ operand ∷ []) ≡ true
two_taken command operand plain too = leaf_takes (built grammar) nothing_held (command ∷ operand ∷ []) refl
    (ap₂ (λ (pass : Bool) (w : Walk). pass && end_passes w) (two_pass command operand plain too) (two_walked command operand plain too))

-- ---- a line

by_length : (P : List Text → Type 0)
    → ((command : Text) → is_option command ≡ false → P (command ∷ []))
    → ((command operand : Text) → is_option command ≡ false → is_option operand ≡ false → P (command ∷ operand ∷ []))
    → (words : List Text) → is_line words ≡ true → P words
by_length P one two [] line = absurd (true≢false (sym line))
by_length P one two (command ∷ []) line = one command (not-true _ line)
by_length P one two (command ∷ operand ∷ []) line =
    let each = both _ _ line in
    two command operand (not-true _ each.0) (not-true _ each.1)
by_length P one two (command ∷ operand ∷ more ∷ rest) line = absurd (true≢false (sym line))

pub line_taken : (words : List Text) → is_line words ≡ true → takes grammar words ≡ true
line_taken = by_length (λ words. takes grammar words ≡ true) one_taken two_taken

-- what the matches have of an id
abbrev found_in : Text → Walk → Option Text
found_in id w = first_of id (finished top.rules w.held)

pub command_found : (words : List Text) → is_line words ≡ true → first_of (codes "command") (matches_of grammar words) ≡ slice_get words 0
command_found = by_length (λ words. first_of (codes "command") (matches_of grammar words) ≡ slice_get words 0)
    (λ command plain. ap (found_in (codes "command")) (one_walked command plain))
    (λ command operand plain too. ap (found_in (codes "command")) (two_walked command operand plain too))

pub operand_found : (words : List Text) → is_line words ≡ true → first_of (codes "operand") (matches_of grammar words) ≡ slice_get words 1
operand_found = by_length (λ words. first_of (codes "operand") (matches_of grammar words) ≡ slice_get words 1)
    (λ command plain. ap (found_in (codes "operand")) (one_walked command plain))
    (λ command operand plain too. ap (found_in (codes "operand")) (two_walked command operand plain too))
