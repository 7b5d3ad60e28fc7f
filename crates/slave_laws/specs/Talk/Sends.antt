-- What a slave sends is read as it was meant.
use Rattle.std.specs.Prelude.{◌≡◌, ℕ, Bool, List}
use Rattle.pdu_layout.specs.Reading.{message_in}
use Rattle.dcp_ends.specs.Events.{Event}
use Rattle.log_spec.specs.Messages.{Note}
use Rattle.log_spec.specs.Log.{Parties, PartiesApart, DecidedRequest}
use Rattle.lockstep_laws.specs.Runs.{AreSlaves}
use Rattle.slave_spec.specs.declared.words.SlaveSetup.{SlaveSetup}
use Rattle.slave_spec.specs.Slaves.{machine, slave_after}
use Rattle.slave_laws.specs.Talk.Desks.{ReadsAnswersBack}
use Rattle.slave_laws.specs.Talk.Meets.{slaves_made}
use Rattle.slave_laws.specs.Talk.Ranges.{SlaveFits}

-- datagrams are read as the messages that they spell
abbrev pub ReadsMessages : Parties → Type 0
ReadsMessages w = (b : List ℕ) → w.read b ≡ message_in b

-- after every list of events what a slave has taken, what its log holds and what its wiring says fits the fields of messages
abbrev pub StaysInRange : Type 0
StaysInRange = (setup : SlaveSetup) (events : List Event) → SlaveFits (slave_after setup events)

-- so all that it sends reads back
abbrev pub SendsReadBack : Type 0
SendsReadBack = (setup : SlaveSetup) (w : Parties) (s : ℕ) → ReadsMessages w → ReadsAnswersBack (machine setup) w s

-- and slaves of whatever setups are slaves of the laws, among parties that are apart
abbrev pub AreLawful : Type 0
AreLawful = (w : Parties) (setups : ℕ → SlaveSetup) (steps runs : ℕ) (may : ℕ → List DecidedRequest → Note → Bool) (opened : ℕ → ℕ → List DecidedRequest → Bool)
    → PartiesApart w → ReadsMessages w → AreSlaves w (slaves_made w setups steps runs may opened)
