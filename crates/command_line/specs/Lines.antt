-- The words that are a line, and the words that a line has.
use Rattle.std.specs.Prelude.{◌==◌, ◌&&◌, ℕ, Bool, false, not, List, [], ◌∷◌, Option, Some, None, slice_index}
use Rattle.std.specs.Borrow.{Bor}
use Rattle.command_line.specs.declared.lines.CommandLine.{CommandLine}

-- the word begins with `-` (45)
abbrev pub is_option : (word : List ℕ) → Bool
is_option word = slice_index word 0 == 45

-- one or two words, none of which begins with `-`
abbrev pub is_line : (words : List (List ℕ)) → Bool
is_line [] = false
is_line (command ∷ []) = not (is_option command)
is_line (command ∷ operand ∷ []) = not (is_option command) && not (is_option operand)
is_line (command ∷ operand ∷ more ∷ rest) = false

-- the operand, where there is one
abbrev pub operand_in : Option (Bor (List ℕ)) → List (List ℕ)
operand_in None = []
operand_in (Some operand) = operand.now ∷ []

-- the words of a line in order
abbrev pub words_in_line : CommandLine → List (List ℕ)
words_in_line line = line.command.now ∷ operand_in line.operand
