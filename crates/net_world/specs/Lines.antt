-- What the lines of a plan do with a message.
use Rattle.std.specs.Prelude.{ℕ, ◌-◌, ◌==◌, ◌&&◌, ◌||◌, Bool, List, [], ◌∷◌, Option}
use Rattle.dcp_types.specs.declared.addresses.Address.{Address}
use Rattle.dcp_ends.specs.declared.entries.LogEntry.{LogEntry}
use Rattle.scenario.specs.declared.net_plans.NetLine.{NetLine}
use Rattle.scenario.specs.declared.net_plans.NetLine.TheVariants.{Drop, Copy, Hold}
use Rattle.dcp_net.specs.Firsts.{first_that}
use Rattle.net_world.specs.Messages.{is_from_end, messages_from}

-- the end, the type code and the place that a line names
abbrev pub end_named : NetLine → ℕ
end_named (Drop end type_id nth) = end
end_named (Copy end type_id nth lag) = end
end_named (Hold end type_id nth lag) = end

abbrev pub line_code : NetLine → ℕ
line_code (Drop end type_id nth) = type_id
line_code (Copy end type_id nth lag) = type_id
line_code (Hold end type_id nth lag) = type_id

abbrev pub nth_named : NetLine → ℕ
nth_named (Drop end type_id nth) = nth
nth_named (Copy end type_id nth lag) = nth
nth_named (Hold end type_id nth lag) = nth

-- how many messages were sent in these calls that the line's end and type code name
abbrev pub seen_by : List Address → List LogEntry → NetLine → ℕ
seen_by all calls line = messages_from all (end_named line) (line_code line) calls

-- the line names the message that is sent after these calls: every one of its end and type code, or the nth
abbrev pub line_names : List Address → List LogEntry → Address → List ℕ → NetLine → Bool
line_names all calls from bytes line =
    is_from_end all (end_named line) (line_code line) from bytes && ((nth_named line == 0) || (seen_by all calls line == nth_named line - 1))

-- the line that applies to this message: the first that names it
abbrev pub line_for : List Address → List NetLine → List LogEntry → Address → List ℕ → Option NetLine
line_for all lines calls from bytes = first_that (line_names all calls from bytes) lines

-- how many more messages are sent before each delivery of the message
abbrev pub lags_of_line : NetLine → List ℕ
lags_of_line (Drop end type_id nth) = []
lags_of_line (Copy end type_id nth lag) = 0 ∷ lag ∷ []
lags_of_line (Hold end type_id nth lag) = lag ∷ []
