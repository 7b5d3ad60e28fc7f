-- A run as a table: what each end got in each round, what it sent at that, and what it sent at its turn.
use Rattle.std.specs.Prelude.{ℕ, List, [], ◌∷◌, ◌++◌, drop, slice_index_or}
use Rattle.std.specs.List.{flat_map}
use Rattle.dcp_types.specs.declared.addresses.Address.{Address}
use Rattle.dcp_ends.specs.declared.entries.LogEntry.{LogEntry}
use Rattle.dcp_ends.specs.declared.entries.LogEntry.TheVariants.{Got, Idle, Turn}
use Rattle.dcp_ends.specs.Events.{Send}
use Rattle.dcp_ends.specs.Logs.{sent_by}

-- a datagram that an end got, and what it sent at it
pub record Heeded : Type 0 where
  pub from : Address
  pub bytes : List ℕ
  pub sends : List Send

-- what the ends did in a round, in the order of the ends: at their looks, and at their turns; ends behind the listed ones got and sent nothing
pub record RoundTable : Type 0 where
  pub looks : List (List Heeded)
  pub turns : List (List Send)

-- ---- the entries of a table

abbrev pub heeded_entries : Address → Heeded → List LogEntry
heeded_entries at h = Got at h.from h.bytes ∷ sent_by at h.sends

-- a look that finds fewer than 64 datagrams
abbrev pub look_entries : Address → List Heeded → List LogEntry
look_entries at hs = flat_map (heeded_entries at) hs ++ Idle at ∷ []

abbrev pub turn_entries : Address → List Send → List LogEntry
turn_entries at sends = Turn at ∷ sent_by at sends

abbrev pub looks_entries : List Address → List (List Heeded) → List LogEntry
looks_entries [] looks = []
looks_entries (a ∷ places) looks = look_entries a (slice_index_or looks 0 []) ++ looks_entries places (drop 1 looks)

abbrev pub turns_entries : List Address → List (List Send) → List LogEntry
turns_entries [] turns = []
turns_entries (a ∷ places) turns = turn_entries a (slice_index_or turns 0 []) ++ turns_entries places (drop 1 turns)

abbrev pub round_entries : List Address → RoundTable → List LogEntry
round_entries places r = looks_entries places r.looks ++ turns_entries places r.turns

-- whole rounds of all ends
abbrev pub rounds_log : List Address → List RoundTable → List LogEntry
rounds_log places rounds = flat_map (round_entries places) rounds

-- whole rounds, and a last one in which the master has its report, so that no slave has a turn
abbrev pub table_log : (master : Address) (slaves : List Address) → List RoundTable → RoundTable → List LogEntry
table_log master slaves rounds last = rounds_log (master ∷ slaves) rounds ++ (looks_entries (master ∷ slaves) last.looks ++ turns_entries (master ∷ []) last.turns)
