-- What the code keeps of a machine whose model is not known.
use Rattle.std.specs.Prelude.{◌≡◌, Bool, true, false, List, [], ◌∷◌}
use Rattle.dcp_types.specs.declared.error_codes.ErrorCode.TheVariants.{NotSupported, ValueRange}
use Rattle.dcp_types.specs.declared.fault_codes.FaultCode.{FaultCode}
use Rattle.dcp_types.specs.declared.fault_codes.FaultCode.TheVariants.{ModelOverflow, DivideByZero, OutOfRange}
use Rattle.slave_desc.specs.declared.descriptions.SlaveDesc.{SlaveDesc}
use Rattle.slave_spec.specs.Transport.{SlaveAnswer, Ack, Nack}
use Rattle.slave_device.specs.Wires.Standing.{WiringFor}
use Rattle.pdu_layout.specs.declared.messages.Cfg.{Cfg}
use Rattle.pdu_layout.specs.declared.messages.Cfg.TheVariants as cfg
use Rattle.slave_spec.specs.declared.words.Asked.TheVariants as asks
use Rattle.slave_spec.specs.Foreign.{ForeignPlant, verdict, setting_answers, foreign_answered}
use Rattle.conform.specs.declared.faults.Faults.{Faults}
use Rattle.conform.specs.declared.faults.Faults.TheVariants as faults
use Rattle.conform.specs.declared.plants.ForeignDevice.{ForeignDevice}
use Rattle.conform.specs.declared.plants.Setting.{Setting}
use Rattle.conform.specs.declared.plants.Setting.TheVariants as settings

abbrev pub faults_of : Faults → List FaultCode
faults_of faults.None = []
faults_of (faults.One code) = code ∷ []
faults_of faults.Model = ModelOverflow ∷ DivideByZero ∷ OutOfRange ∷ []

-- the machine stands where the definition has it
pub record ForeignFor (c : ForeignDevice) (d : SlaveDesc) (p : ForeignPlant) : Type 0 where
  pub state : c.state ≡ p.state
  pub steps : c.steps ≡ p.steps
  pub outputs_sent : c.outputs_sent ≡ p.outputs_sent
  pub wiring : WiringFor c.wiring d p.wires
  pub faults : faults_of c.faults ≡ p.faults
  pub logs : c.logs ≡ p.logs

-- the answers to a setting
abbrev pub verdicts_of : Setting → List SlaveAnswer
verdicts_of (settings.Only refused) = verdict refused ∷ []
verdicts_of settings.Free = Ack ∷ Nack ValueRange ∷ []
verdicts_of (settings.Logging refused) = Nack NotSupported ∷ verdict refused ∷ []

-- a setting that is neither of a parameter nor of the log
abbrev pub is_of_wiring : Cfg → Bool
is_of_wiring (cfg.Parameter vr kind value) = false
is_of_wiring (cfg.Logging category level mode) = false
is_of_wiring body = true

-- how a setting is answered, and where the machine stands: after the only answer, or before any of them
abbrev pub SetTo : SlaveDesc → ForeignPlant → Cfg → Setting → ForeignDevice → Type 0
SetTo d p body (settings.Only refused) c =
    (setting_answers d p body ≡ verdict refused ∷ []) × ForeignFor c d (foreign_answered d p (asks.Setting body) (verdict refused))
SetTo d p body settings.Free c =
    (setting_answers d p body ≡ Ack ∷ Nack ValueRange ∷ []) × ForeignFor c d p × (foreign_answered d p (asks.Setting body) Ack ≡ p)
SetTo d p body (settings.Logging refused) c =
    (setting_answers d p body ≡ Nack NotSupported ∷ verdict refused ∷ []) × ForeignFor c d p × (foreign_answered d p (asks.Setting body) Ack ≡ record p { logs = true })
