-- What the two scenarios give by the reference.
use Rattle.std.specs.Prelude.{List, [], ◌∷◌, ℤ, pos}
use Rattle.dcp_types.specs.declared.fault_codes.FaultCode.TheVariants.{DivideByZero}
use Rattle.lockstep.specs.declared.references.RefFault.{RefFault}

-- the integrator begins with 1, and is doubled at its step
abbrev pub loop_rows : List (List ℤ)
loop_rows = (pos 1 ∷ []) ∷ (pos 2 ∷ []) ∷ []

-- the divider begins with 0, and then divides by zero
abbrev pub faulty_rows : List (List ℤ)
faulty_rows = (pos 0 ∷ []) ∷ []

abbrev pub zero_division : RefFault
zero_division = record { slave = 1; run = 1; step = 1; code = DivideByZero }
