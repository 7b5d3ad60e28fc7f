-- The deliveries that wait in the network, by what it was opened with and the list of its calls.
use Rattle.std.specs.Prelude.{ℕ, ◌+◌, ◌&&◌, nat_lt, nat_le, List, [], ◌∷◌, ◌++◌, map, Bool, if◌then◌else◌, Option, None, Some}
use Rattle.dcp_types.specs.declared.addresses.Address.{Address}
use Rattle.dcp_ends.specs.Logs.{same_address}
use Rattle.dcp_ends.specs.declared.entries.LogEntry.{LogEntry}
use Rattle.dcp_ends.specs.declared.entries.LogEntry.TheVariants.{Sent, Got, Idle, Turn}
use Rattle.scenario.specs.declared.net_plans.NetLine.{NetLine}
use Rattle.dcp_net.specs.declared.openings.Opening.{Opening}
use Rattle.dcp_net.specs.Firsts.{first_that, without_first}
use Rattle.net_world.specs.declared.deliveries.Arrival.{Arrival}
use Rattle.net_world.specs.Messages.{messages}
use Rattle.net_world.specs.Lines.{line_for, lags_of_line}
use Rattle.net_world.specs.Chances.{generator_at, lags_by_chance}

-- a line that names the message decides, else chance does
abbrev pub lags_by : Option NetLine → List ℕ → List ℕ
lags_by None chance = chance
lags_by (Some line) chance = lags_of_line line

-- how many more messages are sent before each delivery of the message that is sent after these calls
abbrev pub lags : Opening → List LogEntry → Address → List ℕ → List ℕ
lags o calls from bytes = lags_by (line_for o.all o.plan.lines calls from bytes) (lags_by_chance o.plan.chaos (generator_at o.plan.chaos (messages calls)))

-- the delivery of message `number` after so many more
abbrev pub delivery : ℕ → Address → Address → List ℕ → ℕ → Arrival
delivery number from to bytes lag = record { due = number + lag; number = number; from = from; to = to; bytes = bytes }

-- deliveries wait in the order of their due numbers: a new one stands behind those of its own
abbrev pub put_in_place : Arrival → List Arrival → List Arrival
put_in_place d [] = d ∷ []
put_in_place d (e ∷ waiting) = if nat_lt d.due e.due then d ∷ e ∷ waiting else e ∷ put_in_place d waiting

abbrev pub all_placed : List Arrival → List Arrival → List Arrival
all_placed [] waiting = waiting
all_placed (d ∷ ds) waiting = all_placed ds (put_in_place d waiting)

-- not so many later messages were sent that it is gone
abbrev pub is_young : ℕ → Arrival → Bool
is_young sent d = nat_le sent (d.number + 32767)

abbrev pub is_due_now : ℕ → Arrival → Bool
is_due_now sent d = nat_le d.due sent && is_young sent d

-- it may be taken at this address when so many messages have been sent
abbrev pub is_ready_for : Address → ℕ → Arrival → Bool
is_ready_for at sent d = same_address d.to at && is_due_now sent d

-- what waits after one more call
abbrev pub waits_after : Opening → List LogEntry → List Arrival → LogEntry → List Arrival
waits_after o calls waiting (Sent from to bytes) = all_placed (map (delivery (messages calls + 1) from to bytes) (lags o calls from bytes)) waiting
waits_after o calls waiting (Got at from bytes) = without_first (is_ready_for at (messages calls)) waiting
waits_after o calls waiting (Idle at) = waiting
waits_after o calls waiting (Turn at) = waiting

abbrev pub waits_after_all : Opening → List LogEntry → List Arrival → List LogEntry → List Arrival
waits_after_all o calls waiting [] = waiting
waits_after_all o calls waiting (call ∷ more) = waits_after_all o (calls ++ call ∷ []) (waits_after o calls waiting call) more

-- what waits after these calls
abbrev pub waiting : Opening → List LogEntry → List Arrival
waiting o calls = waits_after_all o [] [] calls

-- What a take at this address gives after these calls: of those that are ready for it the one with the least due number, of these the
-- one of the earliest message, and its first delivery before its second.
abbrev pub due : Opening → List LogEntry → Address → Option Arrival
due o calls at = first_that (is_ready_for at (messages calls)) (waiting o calls)
