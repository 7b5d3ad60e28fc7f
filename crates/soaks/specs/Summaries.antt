-- What is written of a run of a number's scenario.
use Rattle.std.specs.Prelude.{ℕ, ℤ, List, ◌++◌, codes}
use Rattle.std.specs.Fmt.{signed_decimal}
use Rattle.master_spec.specs.declared.reports.Report.{Report}
use Rattle.run_text.specs.Closings.{named, report_line}
use Rattle.soaks.specs.Sums.{sum_of_rows}
use Rattle.soaks.specs.Texts.{slave_count, step_count}

-- the number, the slaves and the steps, and the line of the report
abbrev pub first_line : (number : ℕ) → Report → List ℕ
first_line number report =
    named (codes "soak ") number ++ named (codes " slaves ") (slave_count number) ++ named (codes " steps ") (step_count number) ++ codes " " ++ report_line report

-- the line of a sum
abbrev pub sum_text : ℤ → List ℕ
sum_text sum = codes "sum " ++ signed_decimal sum ++ codes "\n"

-- and then the sum of all values of all rows
abbrev pub summary : (number : ℕ) → Report → List (List ℤ) → List ℕ
summary number report rows = first_line number report ++ sum_text (sum_of_rows rows)
