use Rattle.slave_spec.proofs.Soundness.{sound_after}
use Rattle.slave_spec.proofs.laws.slaves_are_sound.Goals as goal

pub returns : goal.returns
returns c = λ setup events. sound_after setup events
