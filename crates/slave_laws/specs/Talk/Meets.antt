-- The slave of the definition, as it is made, is one that the laws speak of.
use Rattle.std.specs.Prelude.{◌≡◌, ℕ, Bool, List}
use Rattle.log_spec.specs.Messages.{Note, role_read}
use Rattle.pdu_layout.specs.Reading.{message_in}
use Rattle.slave_spec.specs.Heard as spec
use Rattle.dcp_ends.specs.declared.entries.LogEntry.{LogEntry}
use Rattle.log_spec.specs.Log.{Parties, IsSlaveOf, PartiesApart, DecidedRequest}
use Rattle.lockstep_laws.specs.Cast.{ConversingSlaves}
use Rattle.lockstep_laws.specs.Runs.{AreSlaves}
use Rattle.lockstep_laws.specs.Slaves.{Converses}
use Rattle.slave_spec.specs.declared.words.SlaveSetup.{SlaveSetup}
use Rattle.slave_spec.specs.Transport as transport
use Rattle.slave_spec.specs.Slaves.{machine}
use Rattle.lockstep_laws.specs.Works.{Performs}
use Rattle.slave_laws.specs.Talk.Benches.{bench_at}
use Rattle.slave_laws.specs.Talk.Desks.{at, desk_at, events_of_slave, accepts_note, Agree, ReadsAnswersBack}

-- where messages are read as they were meant, it converses as the laws want it
abbrev pub SlaveConverses : Type 0
SlaveConverses = (setup : SlaveSetup) (w : Parties) (s : ℕ) → ReadsAnswersBack (machine setup) w s → Converses w s (accepts_note (machine setup)) (desk_at (machine setup) w s)

-- and it is the slave over the whole list of its events
abbrev pub SlaveIsOverEvents : Type 0
SlaveIsOverEvents = (setup : SlaveSetup) (w : Parties) (s : ℕ) (log : List LogEntry) → (at (machine setup) w s log).slave ≡ transport.slave (machine setup) (events_of_slave w s log)

-- and goes on with its row events as the laws want it
abbrev pub SlavePerforms : Type 0
SlavePerforms = (setup : SlaveSetup) (w : Parties) (s : ℕ) → ReadsAnswersBack (machine setup) w s → Performs w s (desk_at (machine setup) w s) (bench_at setup w s)

-- slaves made so, as the laws speak of them
abbrev pub slaves_made : Parties → (setups : ℕ → SlaveSetup) → (steps runs : ℕ) → (ℕ → List DecidedRequest → Note → Bool) → (ℕ → ℕ → List DecidedRequest → Bool) → ConversingSlaves
slaves_made w setups steps runs may opened = record {
  steps = steps;
  runs = runs;
  accepts = λ s. accepts_note (machine (setups s));
  may = may;
  opened = opened;
  desk = λ s. desk_at (machine (setups s)) w s;
  bench = λ s. bench_at (setups s) w s;
}

-- each of them is a slave of the laws, so all laws over any slaves hold of them
abbrev pub AreOfTheLaws : Type 0
AreOfTheLaws = (w : Parties) (setups : ℕ → SlaveSetup) (steps runs : ℕ) (may : ℕ → List DecidedRequest → Note → Bool) (opened : ℕ → ℕ → List DecidedRequest → Bool)
    → PartiesApart w → ((s : ℕ) → IsSlaveOf w s → ReadsAnswersBack (machine (setups s)) w s) → AreSlaves w (slaves_made w setups steps runs may opened)

-- both readings of any bytes agree: the part in a run, and what the slave hears
abbrev pub ReadingsAgree : Type 0
ReadingsAgree = (b : List ℕ) → Agree (role_read (message_in b)) (spec.heard b)
