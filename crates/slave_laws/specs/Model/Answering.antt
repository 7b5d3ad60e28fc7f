-- What the exchanges with a slave tell of its state, whatever the network does.
use Rattle.std.specs.Prelude.{◌≡◌, ℕ, true, is_some, List}
use Rattle.dcp_ends.specs.declared.entries.LogEntry.{LogEntry}
use Rattle.log_spec.specs.Log.{Parties}
use Rattle.slave_spec.specs.declared.words.SlaveSetup.{SlaveSetup}
use Rattle.slave_spec.specs.Transport.{is_open}
use Rattle.slave_spec.specs.Plants.{Plant}
use Rattle.slave_spec.specs.Requests.{is_in_error}
use Rattle.slave_spec.specs.Slaves.{machine}
use Rattle.slave_laws.specs.Talk.Desks.{at}
use Rattle.slave_laws.specs.Talk.Sends.{ReadsMessages}
use Rattle.slave_laws.specs.Model.Models.{plant_at}
use Rattle.slave_laws.specs.Model.Tuned.{served_at}
use Rattle.slave_laws.specs.Model.Stages.{SlaveStage, stage_by, IsInStage, AllFitStages}

-- each answer that it gave to a request that it took fits the exchanges before it
abbrev pub AnswersFitStages : Type 0
AnswersFitStages = (setup : SlaveSetup) (w : Parties) (s : ℕ) → ReadsMessages w → (log : List LogEntry) → AllFitStages (served_at setup w s log)

-- it is where the exchanges have it; in an error state it has a fault
pub record StandsInStage (g : SlaveStage) (p : Plant) : Type 0 where
  pub state : IsInStage g p.state
  pub fault : is_in_error p.state ≡ true → is_some p.fault ≡ true

abbrev pub SlavesStandInStages : Type 0
SlavesStandInStages = (setup : SlaveSetup) (w : Parties) (s : ℕ) → ReadsMessages w → (log : List LogEntry) → is_open (at (machine setup) w s log).slave.session ≡ true
    → StandsInStage (stage_by (served_at setup w s log)) (plant_at setup w s log)
