-- The master's requests as the laws over a run see them, on every network, honest or not. The log has its newest entry first.
use Rattle.std.specs.Prelude.{◌≡◌, ℕ, ◌%◌, ◌⊎◌, List, [], ◌∷◌, map, length}
use Rattle.dcp_types.specs.declared.states.State.TheVariants as states
use Rattle.dcp_ends.specs.declared.entries.LogEntry.{LogEntry}
use Rattle.pdu_layout.specs.declared.messages.Stc.TheVariants as stc
use Rattle.pdu_layout.specs.Fields.FieldValue.{Number}
use Rattle.pdu_layout.specs.Message.{message_of}
use Rattle.pdu_layout.specs.Reading.{message_in}
use Rattle.log_spec.specs.Messages.{Note}
use Rattle.log_spec.specs.Channel.{Repeats}
use Rattle.log_spec.specs.Log.{Parties, IsSlaveOf, PartiesApart, requests_sent}
use Rattle.log_spec.specs.Moves.{Move, Asks, Comes, Tells, Hears, Brings, Turns, Rests, Other, move, decided_exchanges}
use Rattle.lockstep_laws.specs.Master.{OnlyAsks}
use Rattle.master_spec.specs.declared.requests.Request.{Request}
use Rattle.master_spec.specs.declared.requests.Request.TheVariants.{Change}
use Rattle.master_spec.specs.declared.setups.Slave.{Slave}
use Rattle.master_spec.specs.declared.setups.Setup.{Setup}
use Rattle.master_spec.specs.News.{pdu_of}
use Rattle.master_spec.specs.Requests.{Asking, asks}
use Rattle.master_spec.specs.Exchanged.{IsIn}
use Rattle.master_log_laws.specs.Index.Laws.{AreHeard}
use Rattle.master_log_laws.specs.Index.Runs.{IsRun}

-- the slave with this number in the setup is the party with it
pub record IsParty (setup : Setup) (w : Parties) (s : ℕ) (slave : Slave) : Type 0 where
  pub is_in : IsIn setup slave
  pub id : slave.id ≡ s
  pub address : slave.address ≡ w.slave s

-- the master of a setup and its slaves are the parties of a run, in which datagrams are read as the messages that they spell
pub record ArePartiesOf (setup : Setup) (w : Parties) : Type 0 where
  pub master : w.master ≡ setup.address
  pub read : (b : List ℕ) → w.read b ≡ message_in b
  pub apart : PartiesApart w
  pub each : (s : ℕ) → IsSlaveOf w s → (slave : Slave) × IsParty setup w s slave
  -- and there are no other slaves
  pub all : (slave : Slave) → IsIn setup slave → IsSlaveOf w slave.id × IsParty setup w slave.id slave

-- the request that a log tells of, as the message that was sent to the slave with this id
abbrev pub note_of : (id : ℕ) → Asking → Note
note_of id a = record { number = a.number; message = record { code = a.code; values = Number a.number ∷ Number id ∷ a.more } }

-- the register with an identity: the version is 1.0, the mode of operation is 2
abbrev pub register_for : (uuid : ℕ) → Request
register_for uuid = Change states.Alive (stc.Register uuid 2 1 0)

abbrev pub register_note : (id uuid : ℕ) → Note
register_note id uuid = record { number = 0; message = message_of (pdu_of 0 id (register_for uuid)) }

-- the next request: all before it are decided, and it has the next number; the first is the register
pub record IsNextRequest (w : Parties) (s uuid : ℕ) (n : Note) (log : List LogEntry) : Type 0 where
  pub closed : length (decided_exchanges w s log) ≡ length (requests_sent w s log)
  pub number : n.number ≡ length (requests_sent w s log) % 65536
  pub first : requests_sent w s log ≡ [] → n ≡ register_note s uuid

-- the newest request is sent again, or the next one
abbrev pub MayAsk : Parties → (s uuid : ℕ) → Move → List LogEntry → Type 0
MayAsk w s uuid (Asks n) log = Repeats (requests_sent w s log) n ⊎ IsNextRequest w s uuid n log
MayAsk w s uuid (Comes from receiver n) log = Unit {0}
MayAsk w s uuid (Tells to bytes) log = Unit {0}
MayAsk w s uuid (Hears n) log = Unit {0}
MayAsk w s uuid (Brings from id n) log = Unit {0}
MayAsk w s uuid Turns log = Unit {0}
MayAsk w s uuid Rests log = Unit {0}
MayAsk w s uuid Other log = Unit {0}

abbrev pub RequestsAreAsked : Type 0
RequestsAreAsked = (setup : Setup) → AreHeard setup → (w : Parties) → ArePartiesOf setup w → (log : List LogEntry) → IsRun setup log → (s : ℕ) → IsSlaveOf w s → (slave : Slave) → IsParty setup w s slave
    → requests_sent w s log ≡ map (note_of s) (asks setup.address slave log)

abbrev pub MasterAsksInTurn : Type 0
MasterAsksInTurn = (setup : Setup) → AreHeard setup → (w : Parties) → ArePartiesOf setup w → (e : LogEntry) (log : List LogEntry) → IsRun setup (e ∷ log) → (s : ℕ) → IsSlaveOf w s → (slave : Slave) → IsParty setup w s slave
    → MayAsk w s slave.script.uuid (move w s e) log

abbrev pub OnlyRequestsAreSent : Type 0
OnlyRequestsAreSent = (setup : Setup) → AreHeard setup → (w : Parties) → ArePartiesOf setup w → (log : List LogEntry) → IsRun setup log → OnlyAsks w log
