-- What is written of a run: the text of its rows and its report, and its trace.
use Rattle.std.specs.Prelude.{◌≡◌, ℕ, ◌+◌, ◌-◌, ◌^◌, ◌⊎◌, Option, List}
use Rattle.dcp_io.specs.declared.outputs.Delivery.{Delivery}
use Rattle.dcp_io.specs.declared.outputs.Delivery.TheVariants.{Whole, Cut}
use Rattle.dcp_io.specs.Outputs.{WroteAll, WroteFront}
use Rattle.dcp_ends.specs.Events.{Event}
use Rattle.master_spec.specs.declared.reports.Report.{Report}
use Rattle.master_spec.specs.declared.setups.Setup.{Setup}
use Rattle.master_spec.specs.Course.{course}
use Rattle.run_text.specs.Closings.{report_text}

-- all ends of a scenario of so many slaves as bits: the lowest is the master's, and the next ones are those of slave 1, slave 2 and so on
abbrev pub all_bits : (slaves : ℕ) → ℕ
all_bits slaves = 2 ^ (slaves + 1) - 1

-- the rows of a master after these events, the newest first, and the line of this report
abbrev pub text_after : Setup → List Event → Report → List ℕ
text_after setup events report = report_text (course setup events).rows report

-- The one sink held `held` and holds `holds`, the other `kept` and `keeps`, each with its counts of faults before and now: both texts were written whole; or a front of the first and nothing of the second; or the first and a front of the second.
module _ (held holds : Option (List ℕ)) (before now : ℕ) (kept keeps : Option (List ℕ)) (began ends : ℕ) where
  abbrev pub DeliversBoth : (text trace : List ℕ) → Delivery → Type 0
  DeliversBoth text trace Whole = WroteAll held holds before now text × WroteAll kept keeps began ends trace
  DeliversBoth text trace Cut =
      (WroteFront held holds before now text × (keeps ≡ kept) × (ends ≡ began))
      ⊎ (WroteAll held holds before now text × WroteFront kept keeps began ends trace)
