-- The words that name a command.
use Rattle.std.specs.Prelude.{◌≡◌, ◌⊎◌, ℕ, ◌≤◌, true, Option, Some, None, Ok, List, [], ◌∷◌, length, codes}
use Rattle.dcp_types.specs.Names.{is_name}
use Rattle.text_lines.specs.Numbers.{number_from}
use Rattle.command_line.specs.Lines.{is_line}
use Rattle.commands.specs.declared.command_words.Command.{Command}
use Rattle.commands.specs.declared.command_words.Command.TheVariants.{Decode, Encode, Describe, Reference, Talk, Run, Replay, Soak, Conform}
use Rattle.commands.specs.declared.word_lists.Named.{Named}
use Rattle.commands.specs.declared.word_lists.Named.TheVariants as named

-- one to six decimal digits
abbrev pub IsSoakNumber : (word : List ℕ) → (number : ℕ) → Type 0
IsSoakNumber word number = (length word ≤ 6) × (number_from 0 999999 word ≡ Ok number)

-- all the words that are said for each command
abbrev pub Names : List (List ℕ) → Command → Type 0
Names words Decode = words ≡ codes "decode" ∷ []
Names words Encode = words ≡ codes "encode" ∷ []
Names words Describe = words ≡ codes "describe" ∷ []
Names words Reference = words ≡ codes "reference" ∷ []
Names words Talk = words ≡ codes "talk" ∷ []
Names words Run = words ≡ codes "run" ∷ []
Names words Replay = words ≡ codes "replay" ∷ []
Names words (Soak number) = (word : List ℕ) × (words ≡ codes "soak" ∷ word ∷ []) × IsSoakNumber word number
Names words (Conform name) = (words ≡ codes "conform" ∷ name.now ∷ []) × (is_name name.now ≡ true)

abbrev pub IsCommand : List (List ℕ) → Type 0
IsCommand words = (command : Command) × Names words command

-- what words come to: memory can be wanting only to read one or two words of which none begins with `-`
abbrev pub ReadsWords : List (List ℕ) → Named → Type 0
ReadsWords words (named.Command command) = Names words command
ReadsWords words named.Nothing = IsCommand words → ⊥
ReadsWords words named.OutOfMemory = is_line words ≡ true

-- the number of the scenario that the command makes by itself, and does not read
abbrev pub own_number : Command → Option ℕ
own_number (Soak number) = Some number
own_number _ = None

-- the words name a command that runs a scenario over the network
abbrev pub NamesRun : List (List ℕ) → Type 0
NamesRun words = Names words Run ⊎ ((number : ℕ) × Names words (Soak number))
