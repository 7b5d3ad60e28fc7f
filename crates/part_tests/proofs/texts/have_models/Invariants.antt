use Rattle.std.proofs.Common.{◌≡◌, ℕ, ◌<◌, false, slice_index_or}
use Rattle.fixed_models.specs.Kinds.{is_external}
use Rattle.slave_desc.specs.declared.descriptions.SlaveDesc.{SlaveDesc}
use Rattle.part_tests.proofs.texts.have_models.Given as goal

abbrev pub invariant-loop-place : goal.invariant-loop-place
invariant-loop-place l = (k : ℕ) (d : SlaveDesc) → k < l.place → is_external (slice_index_or l.fn.slaves k d).kind ≡ false
