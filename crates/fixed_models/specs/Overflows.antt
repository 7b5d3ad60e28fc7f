-- What a kind's step answers.
use Rattle.std.specs.Prelude.{◌≡◌, Bool, true, false, Result, MatchResult, IsErrOf}
use Rattle.dcp_types.specs.declared.fault_codes.FaultCode.{FaultCode}
use Rattle.dcp_types.specs.declared.fault_codes.FaultCode.TheVariants.{ModelOverflow, DivideByZero}

-- the model m, where the test of its new numbers holds, and else the overflow
abbrev pub OrOverflows : {M : Type 0} → Result M FaultCode → Bool → M → Type 0
OrOverflows result test m = MatchResult result (λ r. (r ≡ m) × (test ≡ true)) (λ e. (e ≡ ModelOverflow) × (test ≡ false))

-- the same, but a division by zero where the divisor is 0
abbrev pub OrDividesByZero : {M : Type 0} → Bool → Result M FaultCode → Bool → M → Type 0
OrDividesByZero true result test m = IsErrOf result DivideByZero
OrDividesByZero false result test m = OrOverflows result test m
