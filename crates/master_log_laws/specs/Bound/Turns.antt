-- The turns of the master in a log, which has its oldest entry first.
use Rattle.std.specs.Prelude.{ℕ, ◌&&◌, not, Bool, false, Option, Some, None, List, length, take, slice_get, count_by}
use Rattle.std.specs.List.{range_with_len}
use Rattle.dcp_types.specs.declared.addresses.Address.{Address}
use Rattle.dcp_ends.specs.declared.entries.LogEntry.{LogEntry}
use Rattle.dcp_ends.specs.Logs.{events_at}
use Rattle.master_spec.specs.declared.setups.Setup.{Setup}
use Rattle.master_spec.specs.Requests.{is_turn_of}
use Rattle.master_spec.specs.Rules.{is_over_after}

-- the master has no report after these entries
abbrev pub is_running_after : Setup → List LogEntry → Bool
is_running_after setup log = not (is_over_after setup (events_at setup.address log))

-- a turn of the master
abbrev pub is_turn_in : Address → Option LogEntry → Bool
is_turn_in master None = false
is_turn_in master (Some entry) = is_turn_of master entry

-- at this place of the log the master has a turn, and had no report before it
abbrev pub has_turn_at : Setup → List LogEntry → ℕ → Bool
has_turn_at setup log i = is_turn_in setup.address (slice_get log i) && is_running_after setup (take i log)

-- at how many places it has one
abbrev pub turns_in : Setup → List LogEntry → ℕ
turns_in setup log = count_by (has_turn_at setup log) (range_with_len 0 (length log))
