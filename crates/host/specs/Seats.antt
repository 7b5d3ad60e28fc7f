-- The ends in their seats.
use Rattle.std.specs.Prelude.{◌≡◌, ℕ, Bool, true, false, List, [], Option, None, Some, slice_get}
use Rattle.dcp_ends.specs.declared.entries.LogEntry.{LogEntry}
use Rattle.dcp_ends.specs.Events.{Event, Rules}
use Rattle.dcp_ends.specs.Logs.{events_at}
use Rattle.slave_desc.specs.declared.descriptions.SlaveDesc.{SlaveDesc}
use Rattle.scenario.specs.declared.scenarios.Scenario.{Scenario}
use Rattle.slave_spec.specs.declared.words.SlaveSetup as slave
use Rattle.master_spec.specs.declared.setups.Setup as master
use Rattle.master_spec.specs.Setup.{setup_from}
use Rattle.master_spec.specs.Rules.{master_rules}
use Rattle.host.specs.Hosting.{slave_rules, slave_setup}
use Rattle.rounds.specs.declared.seats.Seat.{Ghosts}

-- what an end is made to do, and what it is made from
pub record Making (Made : Type 0) : Type 0 where
  pub rules : Rules
  pub made : Made

abbrev pub master_making : Scenario → Making master.Setup
master_making sc = record { rules = master_rules sc; made = setup_from sc }

abbrev pub slave_making : Scenario → SlaveDesc → Making slave.SlaveSetup
slave_making sc d = record { rules = slave_rules sc d; made = slave_setup sc d }

-- an end is made so, and nothing has come to it
pub record IsFresh {E : Type 0} (seat : Ghosts E) (end : E) (making : Making seat.Made) : Type 0 where
  pub rules_are : seat.rules end ≡ making.rules
  pub made_is : seat.made end ≡ making.made
  pub nothing : seat.stands end []
  pub quiet : seat.outs end ≡ []

-- both or none, and then it is fresh
abbrev pub IsFirstFresh : {E M : Type 0} → (E → M → Type 0) → Option E → Option M → Type 0
IsFirstFresh Fresh None None = Unit {0}
IsFirstFresh Fresh (Some end) (Some making) = Fresh end making
IsFirstFresh Fresh None (Some making) = ⊥
IsFirstFresh Fresh (Some end) None = ⊥

-- the end of this slave of a scenario, if it is one, stands where the log has it
abbrev pub IsFoundSeat : {E : Type 0} → (E → List Event → Type 0) → (E → slave.SlaveSetup) → Scenario → List LogEntry → Option SlaveDesc → Option E → Type 0
IsFoundSeat stands made sc log None end = end ≡ None
IsFoundSeat stands made sc log (Some d) None = ⊥
IsFoundSeat stands made sc log (Some d) (Some end) = (made end ≡ slave_setup sc d) × stands end (events_at d.address log)

-- the master's end stands where the log has it, if the master is hosted
abbrev pub IsFirstFound : {E : Type 0} → (E → List Event → Type 0) → (E → master.Setup) → Scenario → List LogEntry → Bool → Option E → Type 0
IsFirstFound stands made sc log false end = end ≡ None
IsFirstFound stands made sc log true None = ⊥
IsFirstFound stands made sc log true (Some end) = (made end ≡ setup_from sc) × stands end (events_at sc.master log)

-- this slave, if it is one, has this place among these
abbrev pub IsSeatPlace : Option SlaveDesc → List SlaveDesc → Option ℕ → Type 0
IsSeatPlace None slaves place = place ≡ None
IsSeatPlace (Some d) slaves None = ⊥
IsSeatPlace (Some d) slaves (Some place) = slice_get slaves place ≡ Some d
