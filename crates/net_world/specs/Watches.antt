-- The lines of the plan, each with how many messages of its end and type code were sent.
use Rattle.std.specs.Prelude.{ℕ, ◌+◌, ◌-◌, ◌==◌, ◌&&◌, ◌||◌, List, Bool, if◌then◌else◌}
use Rattle.dcp_types.specs.declared.addresses.Address.{Address}
use Rattle.dcp_ends.specs.declared.entries.LogEntry.{LogEntry}
use Rattle.scenario.specs.declared.net_plans.NetLine.{NetLine}
use Rattle.net_world.specs.declared.watches.Watch.{Watch}
use Rattle.net_world.specs.Lines.{end_named, line_code, nth_named, seen_by}
use Rattle.net_world.specs.Messages.{is_from_end}

abbrev pub line_watched : Watch → NetLine
line_watched watch = watch.line

-- a line before any message, and after these calls
abbrev pub unseen : NetLine → Watch
unseen line = record { line = line; seen = 0 }

abbrev pub watch_after : List Address → List LogEntry → NetLine → Watch
watch_after all calls line = record { line = line; seen = seen_by all calls line }

-- the line names the message that is sent now
abbrev pub watch_names : List Address → Address → List ℕ → Watch → Bool
watch_names all from bytes watch =
    is_from_end all (end_named watch.line) (line_code watch.line) from bytes && ((nth_named watch.line == 0) || (watch.seen == nth_named watch.line - 1))

-- the line after the message that is sent now
abbrev pub watch_counted : List Address → Address → List ℕ → Watch → Watch
watch_counted all from bytes watch =
    if is_from_end all (end_named watch.line) (line_code watch.line) from bytes then record { line = watch.line; seen = watch.seen + 1 } else watch
