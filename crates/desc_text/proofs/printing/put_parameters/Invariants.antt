use Rattle.std.proofs.Common.{◌≡◌, ◌++◌, take, string_bytes}
use Rattle.std.specs.List.{flat_map}
use Rattle.desc_text.specs.Canonical.{spaced}
use Rattle.desc_text.proofs.printing.put_parameters.Given as goal

abbrev pub invariant-loop-parameter : goal.invariant-loop-parameter
invariant-loop-parameter l = string_bytes l.out ≡ string_bytes l.fn.out ++ flat_map spaced (take l.parameter-index l.parameters)
