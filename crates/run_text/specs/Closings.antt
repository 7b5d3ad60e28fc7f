-- The line after the rows, and the whole text.
use Rattle.std.specs.Prelude.{ℕ, List, ◌++◌, ℤ, Option, Some, None, codes, decimal, nat_lt, if◌then◌else◌}
use Rattle.dcp_types.specs.Codes.{fault_code}
use Rattle.lockstep.specs.declared.references.RefFault.{RefFault}
use Rattle.master_spec.specs.declared.causes.Cause.{Cause}
use Rattle.master_spec.specs.declared.causes.Cause.TheVariants.{NoAnswer, Refused, InputsMissing, DataMissing, Stuck, Faulted, Unexpected}
use Rattle.master_spec.specs.declared.reports.Report.{Report}
use Rattle.master_spec.specs.declared.reports.Report.TheVariants.{Finished, Failed}
use Rattle.run_text.specs.Rows.{rows_text}

-- a number behind its name
abbrev pub named : List ℕ → ℕ → List ℕ
named name number = name ++ decimal number

-- the end of a fault's line names its run, but for the first
abbrev pub run_end : ℕ → List ℕ
run_end run = if nat_lt 1 run then named (codes " run ") run ++ codes "\n" else codes "\n"

-- a reference: how many steps were asked for, or the first fault
abbrev pub reference_line : ℕ → Option RefFault → List ℕ
reference_line steps None = named (codes "finished ") steps ++ codes "\n"
reference_line steps (Some fault) =
    named (codes "fault slave ") fault.slave ++ named (codes " step ") fault.step ++ named (codes " code ") (fault_code fault.code) ++ run_end fault.run

-- why a conversation ended: the cause by its name, and its numbers
abbrev pub cause_text : Cause → List ℕ
cause_text (NoAnswer seq) = named (codes " NoAnswer seq ") seq
cause_text (Refused seq code) = named (codes " Refused seq ") seq ++ named (codes " code ") code
cause_text (InputsMissing seq step) = named (codes " InputsMissing seq ") seq ++ named (codes " step ") step
cause_text (DataMissing step) = named (codes " DataMissing step ") step
cause_text (Stuck seq state) = named (codes " Stuck seq ") seq ++ named (codes " state ") state
cause_text (Faulted seq code) = named (codes " Faulted seq ") seq ++ named (codes " code ") code
cause_text (Unexpected seq type_id state) = named (codes " Unexpected seq ") seq ++ named (codes " type ") type_id ++ named (codes " state ") state

-- a report: how many steps were asked for, or which slave failed, in which phase, and why
abbrev pub report_line : Report → List ℕ
report_line (Finished steps) = named (codes "finished ") steps ++ codes "\n"
report_line (Failed slave phase cause) =
    named (codes "failed slave ") slave ++ named (codes " phase ") phase ++ cause_text cause ++ codes "\n"

-- the rows, numbered from 0, and the line after them
abbrev pub reference_text : ℕ → List (List ℤ) → Option RefFault → List ℕ
reference_text steps rows fault = rows_text 0 rows ++ reference_line steps fault

abbrev pub report_text : List (List ℤ) → Report → List ℕ
report_text rows report = rows_text 0 rows ++ report_line report
