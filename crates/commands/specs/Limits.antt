-- The most bytes of an input.
use Rattle.std.specs.Prelude.{ℕ}
use Rattle.commands.specs.declared.command_words.Command.{Command}
use Rattle.commands.specs.declared.command_words.Command.TheVariants.{Replay, Conform}

-- of a text, or of a message
abbrev pub input_limit : ℕ
input_limit = 1048576

abbrev pub trace_limit : ℕ
trace_limit = 1073741824

abbrev pub limit_of : Command → ℕ
limit_of Replay = trace_limit
limit_of (Conform name) = trace_limit
limit_of _ = input_limit
