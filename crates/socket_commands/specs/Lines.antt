-- The line of a slave that is over.
use Rattle.std.specs.Prelude.{ℕ, List, ◌++◌, codes, decimal, Option, None, Some}
use Rattle.dcp_types.specs.declared.states.State.{State}
use Rattle.dcp_types.specs.declared.fault_codes.FaultCode.{FaultCode}
use Rattle.dcp_types.specs.Words.{state_name}
use Rattle.dcp_types.specs.Codes.{fault_code}

-- the end of the line: the fault's code, if there is one
abbrev pub fault_end : Option FaultCode → List ℕ
fault_end None = codes "\n"
fault_end (Some fault) = codes " error " ++ (decimal (fault_code fault) ++ codes "\n")

abbrev pub slave_line : (name : List ℕ) → (steps : ℕ) → State → Option FaultCode → List ℕ
slave_line name steps state fault =
    codes "slave " ++ (name ++ (codes " steps " ++ (decimal steps ++ (codes " state " ++ (state_name state ++ fault_end fault)))))
