-- A network whose plan does nothing to the messages: what waits in it, and how little is sent in one event. Logs have their oldest entry first.
use Rattle.std.specs.Prelude.{◌≡◌, ℕ, ◌+◌, ◌≤◌, ◌⊎◌, ◌&&◌, Bool, false, None, List, [], ◌∷◌, ◌++◌, length, filter, reverse, if◌then◌else◌}
use Rattle.dcp_types.specs.declared.addresses.Address.{Address}
use Rattle.dcp_ends.specs.Logs.{same_address}
use Rattle.dcp_ends.specs.declared.entries.LogEntry.{LogEntry}
use Rattle.dcp_ends.specs.declared.entries.LogEntry.TheVariants.{Sent, Got, Idle, Turn}
use Rattle.slave_desc.specs.declared.descriptions.SlaveDesc.{SlaveDesc}
use Rattle.scenario.specs.declared.net_plans.NetPlan.{NetPlan}
use Rattle.scenario.specs.declared.scenarios.Scenario.{Scenario}
use Rattle.scenario.specs.Sound.{IsScenario}
use Rattle.dcp_net.specs.declared.openings.Opening.{Opening}
use Rattle.net_world.specs.declared.deliveries.Arrival.{Arrival}
use Rattle.net_world.specs.Calls.{GivesDue}
use Rattle.net_world.specs.Deliveries.{waiting}
use Rattle.net_world.specs.Messages.{messages}
use Rattle.rounds.specs.Rounds.{IsLook}
use Rattle.rounds.specs.Steps.{without_turns}
use Rattle.log_spec.specs.Log.{Parties, IsSlaveOf, IsEnd}
use Rattle.lockstep_laws.specs.Slaves.{Post}
use Rattle.master_spec.specs.Requests.{Asking, asks}
use Rattle.master_spec.specs.Setup.{slave_of}
use Rattle.lockstep_laws.specs.Models.Scenarios.{slave_numbered}
use Rattle.slave_laws.specs.Data.Whole.{slaves_asked}
use Rattle.run_laws.specs.Laws.{parties, IsRunInRounds}

-- the plan has neither lines nor chance: each message is delivered once, and at once
pub record IsQuietPlan (plan : NetPlan) : Type 0 where
  pub lines : plan.lines ≡ []
  pub chaos : plan.chaos ≡ None

-- ---- what waits

-- what waits for this address in a network that was opened so, after what it tells of a log
abbrev pub waiting_for : Opening → Address → List LogEntry → List Arrival
waiting_for o a log = filter (λ d. same_address d.to a) (waiting o (without_turns log))

-- all that waits was sent as the message with this number or later
abbrev pub AllSince : ℕ → List Arrival → Type 0
AllSince base [] = Unit {0}
AllSince base (d ∷ ds) = (base ≤ d.number) × AllSince base ds

-- no end sends to itself in this part
abbrev pub NoneToSelf : List LogEntry → Type 0
NoneToSelf [] = Unit {0}
NoneToSelf (Sent from to bytes ∷ part) = (same_address to from ≡ false) × NoneToSelf part
NoneToSelf (Got at from bytes ∷ part) = NoneToSelf part
NoneToSelf (Idle at ∷ part) = NoneToSelf part
NoneToSelf (Turn at ∷ part) = NoneToSelf part

-- a look leaves nothing that waits for its end, where at its begin that was no more than 64 messages, of the last 32,767 alone
abbrev pub QuietLooksTakeAll : Type 0
QuietLooksTakeAll = (o : Opening) → IsQuietPlan o.plan → (a : Address) (log part : List LogEntry) → IsLook a part → NoneToSelf part → GivesDue o [] (without_turns (log ++ part))
    → length (waiting_for o a log) ≤ 64 → (base : ℕ) → AllSince base (waiting o (without_turns log)) → base ≤ messages (without_turns log) + 1 → messages (without_turns (log ++ part)) ≤ base + 32767
    → waiting_for o a (log ++ part) ≡ []

-- it was got in this part of a log
pub record ComesIn (to from : Address) (bytes : List ℕ) (part : List LogEntry) : Type 0 where
  pub before : List LogEntry
  pub after : List LogEntry
  pub is : part ≡ before ++ Got to from bytes ∷ after

-- the message with this number waits
pub record StillWaits (o : Opening) (from to : Address) (bytes : List ℕ) (number : ℕ) (log : List LogEntry) : Type 0 where
  pub before : List Arrival
  pub after : List Arrival
  pub is : waiting o (without_turns log) ≡ before ++ record { due = number; number = number; from = from; to = to; bytes = bytes } ∷ after

-- nothing is lost: what was sent was got, or still waits
abbrev pub QuietNetsLoseNothing : Type 0
QuietNetsLoseNothing = (o : Opening) → IsQuietPlan o.plan → (log part : List LogEntry) (from to : Address) (bytes : List ℕ) → GivesDue o [] (without_turns (log ++ Sent from to bytes ∷ part))
    → ComesIn to from bytes part ⊎ StillWaits o from to bytes (messages (without_turns log) + 1) (log ++ Sent from to bytes ∷ part)

-- ---- what a slave sends in one event

-- how many of these go to an address
abbrev pub posts_to : Address → List Post → ℕ
posts_to a [] = 0
posts_to a (p ∷ ps) = if same_address p.to a then posts_to a ps + 1 else posts_to a ps

abbrev pub AllToEnds : Parties → List Post → Type 0
AllToEnds w [] = Unit {0}
AllToEnds w (p ∷ ps) = IsEnd w p.to × AllToEnds w ps

-- at a datagram nothing, or one message to its sender; at a turn two messages to the master at most, and one to each other end
abbrev pub OwesLittle : Parties → (s : ℕ) → LogEntry → List Post → Type 0
OwesLittle w s (Sent from to bytes) ps = Unit {0}
OwesLittle w s (Got at from bytes) ps = at ≡ w.slave s → (ps ≡ []) ⊎ ((b : List ℕ) × (ps ≡ record { to = from; bytes = b } ∷ []))
OwesLittle w s (Idle at) ps = Unit {0}
OwesLittle w s (Turn at) ps = at ≡ w.slave s → AllToEnds w ps × ((posts_to w.master ps ≤ 2) × ((a : Address) → same_address w.master a ≡ false → posts_to a ps ≤ 1))

-- at every moment of every run in rounds
abbrev pub SlavesSendLittle : Type 0
SlavesSendLittle = (sc : Scenario) (other : SlaveDesc) → IsScenario sc → (log : List LogEntry) → IsRunInRounds sc other log → (s : ℕ) → IsSlaveOf (parties sc other) s
    → (later sofar : List LogEntry) (e : LogEntry) → reverse log ≡ later ++ e ∷ sofar → OwesLittle (parties sc other) s e ((slaves_asked sc other).desk s (e ∷ sofar)).owed

-- ---- how many requests wait

-- a request to slave s waits, if it is one, since the master sends nothing else
abbrev pub is_for_slave : Parties → (s : ℕ) → Arrival → Bool
is_for_slave w s d = same_address d.from w.master && same_address d.to (w.slave s)

-- each request was sent once
abbrev pub NoneAgain : List Asking → Type 0
NoneAgain [] = Unit {0}
NoneAgain (a ∷ asks) = (a.repeats ≡ []) × NoneAgain asks

-- over a quiet network, in a run in which no request to a slave is sent again, one request waits for it at most, at every moment
abbrev pub OneRequestWaits : Type 0
OneRequestWaits = (sc : Scenario) (other : SlaveDesc) → IsScenario sc → (log : List LogEntry) → IsRunInRounds sc other log → (o : Opening) → IsQuietPlan o.plan → GivesDue o [] (without_turns log)
    → (s : ℕ) → IsSlaveOf (parties sc other) s → NoneAgain (asks sc.master (slave_of sc s (slave_numbered sc other s)) (reverse log))
    → (before after : List LogEntry) → log ≡ before ++ after → length (filter (is_for_slave (parties sc other) s) (waiting o (without_turns before))) ≤ 1
