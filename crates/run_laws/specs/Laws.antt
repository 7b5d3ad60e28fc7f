-- Runs of a scenario, by the log of all its ends, which has its oldest entry first.
use Rattle.std.specs.Prelude.{◌≡◌, ℕ, Some, List, [], ◌∷◌, ◌++◌, map, reverse}
use Rattle.dcp_types.specs.declared.addresses.Address.{Address}
use Rattle.dcp_ends.specs.declared.entries.LogEntry.{LogEntry}
use Rattle.dcp_ends.specs.declared.entries.LogEntry.TheVariants.{Sent, Got, Idle, Turn}
use Rattle.dcp_ends.specs.Logs.{own_at}
use Rattle.pdu_layout.specs.Reading.{message_in}
use Rattle.slave_desc.specs.declared.descriptions.SlaveDesc.{SlaveDesc}
use Rattle.scenario.specs.declared.scenarios.Scenario.{Scenario}
use Rattle.scenario.specs.Sound.{IsScenario}
use Rattle.log_spec.specs.Log.{Parties, IsSlaveOf, AreAtEnds}
use Rattle.log_spec.specs.Oldest.{Honest}
use Rattle.dcp_ends.specs.Events.{Rules}
use Rattle.rounds.specs.Rounds.{Rounds}
use Rattle.rounds.specs.Told.{Follows}
use Rattle.master_spec.specs.Rules.{master_rules, MasterRun}
use Rattle.slave_spec.specs.declared.words.SlaveSetup.{SlaveSetup}
use Rattle.slave_spec.specs.Slaves.{slave_rules_from}
use Rattle.lockstep_laws.specs.Models.Scenarios.{slave_numbered, parties_of}

-- the parties of a scenario, in whose run datagrams are read as the messages that they spell; other stands for slaves that are not there
abbrev pub parties : Scenario → (other : SlaveDesc) → Parties
parties sc other = parties_of sc other message_in

-- what slave s is given before the run
abbrev pub slave_setup_of : Scenario → (other : SlaveDesc) → ℕ → SlaveSetup
slave_setup_of sc other s = record { desc = slave_numbered sc other s; micro = sc.micro }

abbrev pub BeginsWithEvent : List LogEntry → Type 0
BeginsWithEvent [] = Unit {0}
BeginsWithEvent (Sent from to bytes ∷ log) = ⊥
BeginsWithEvent (Got at from bytes ∷ log) = Unit {0}
BeginsWithEvent (Idle at ∷ log) = Unit {0}
BeginsWithEvent (Turn at ∷ log) = Unit {0}

-- where an end finds nothing, it has sent all that it had to send: what it does next is to get something, or to have its turn
abbrev pub RestsWhenDone : Address → List LogEntry → Type 0
RestsWhenDone a log = (before after : List LogEntry) → log ≡ before ++ Idle a ∷ after → BeginsWithEvent (own_at a after)

-- the network is honest, the log is of the scenario's ends alone, and each of them does what its rules say
pub record IsRunOf (sc : Scenario) (other : SlaveDesc) (log : List LogEntry) : Type 0 where
  pub honest : Honest (parties sc other) log
  pub hosted : AreAtEnds (parties sc other) (reverse log)
  pub master : MasterRun sc log
  pub slaves : (s : ℕ) → IsSlaveOf (parties sc other) s → Follows (slave_rules_from (slave_setup_of sc other s)) log
  pub rests : (s : ℕ) → IsSlaveOf (parties sc other) s → RestsWhenDone (slave_numbered sc other s).address log

-- what the slaves of a scenario are made to do, in order
abbrev pub rules_of_slaves : Scenario → List Rules
rules_of_slaves sc = map (λ (d : SlaveDesc). slave_rules_from (record { desc = d; micro = sc.micro })) sc.slaves

-- the same of a log of whole rounds, as a host of all ends has it
pub record IsRunInRounds (sc : Scenario) (other : SlaveDesc) (log : List LogEntry) : Type 0 where
  pub honest : Honest (parties sc other) log
  pub count : ℕ
  pub rounds : Rounds (Some (master_rules sc)) (rules_of_slaves sc) count log
  pub master : MasterRun sc log
  pub slaves : (s : ℕ) → IsSlaveOf (parties sc other) s → Follows (slave_rules_from (slave_setup_of sc other s)) log

abbrev pub RoundsAreRuns : Type 0
RoundsAreRuns = (sc : Scenario) (other : SlaveDesc) → IsScenario sc → (log : List LogEntry) → IsRunInRounds sc other log → IsRunOf sc other log
