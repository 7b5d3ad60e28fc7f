-- What the reader answers.
use Rattle.std.proofs.Common.{◌≡◌, ℕ, ◌⊎◌, inl, inr, List, Result, Ok, Err, IfOk, IfErr, refl, ap}
use Rattle.std.specs.Str.Lines.{lines}
use Rattle.text_lines.specs.Readings.{FirstBad, IsFirstBad, ReadsOrRefused, OneValue}
use Rattle.desc_text.specs.Said.{items_in}
use Rattle.desc_text.specs.Judging.{desc_why_at}
use Rattle.desc_text.specs.Reads.{ReadsAsDesc}
use Rattle.desc_text.specs.Machine.{take_line, finished, nothing}
use Rattle.text_lines.specs.Outcomes.{GivesText}
use Rattle.text_lines.specs.Runs.{run_of}
use Rattle.desc_text.proofs.Judged.{reads, first_bad}
use Rattle.slave_desc.specs.Descriptions.{IsDesc}
use Rattle.desc_text.proofs.Ranges.{reads_desc}
use Rattle.desc_text.proofs.Apart.{reads_not_bad, one_desc}
use Rattle.text_lines.specs.declared.reasons.TextWhy.{TextWhy}
use Rattle.text_lines.specs.declared.reasons.TextFault.{TextFault}
use Rattle.text_lines.specs.declared.reasons.TextRefused.{TextRefused}
use Rattle.text_lines.specs.declared.reasons.TextRefused.TheVariants as refusals
use Rattle.slave_desc.specs.declared.descriptions.SlaveDesc.{SlaveDesc}

abbrev pub meant : List ℕ → Result SlaveDesc TextFault
meant text = run_of take_line finished 1 nothing (lines text)

pub answered_ok : (text : List ℕ) (r : Result SlaveDesc TextRefused) → GivesText r (meant text) → IfOk r (λ d. ReadsAsDesc text d)
answered_ok text (Ok d) e = reads text d e
answered_ok text (Err f) e = tt

pub answered_fault : (text : List ℕ) (r : Result SlaveDesc TextRefused) → GivesText r (meant text) → IfErr r (λ e. IsFirstBad desc_why_at text e)
answered_fault text (Ok d) e = tt
answered_fault text (Err refusals.OutOfMemory) e = tt
answered_fault text (Err (refusals.Fault f)) e = first_bad text f e

pub one_value : OneValue ReadsAsDesc
one_value text a b r s = one_desc (items_in (lines text)) a b r.says s.says

pub answered_only : (text : List ℕ) (r : Result SlaveDesc TextRefused) → GivesText r (meant text) → (d : SlaveDesc) → ReadsAsDesc text d → GivesText r (Ok d)
answered_only text (Ok a) e d read = ap Ok (one_value text d a read (reads text a e))
answered_only text (Err refusals.OutOfMemory) e d read = tt
answered_only text (Err (refusals.Fault f)) e d read = absurd (reads_not_bad text d f.line f.why read (first_bad text f e))

by_answer : (text : List ℕ) (r : Result SlaveDesc TextFault) → meant text ≡ r → ((d : SlaveDesc) × ReadsAsDesc text d) ⊎ ((line : ℕ) × (why : TextWhy) × FirstBad desc_why_at text line why)
by_answer text (Ok d) e = inl (d, reads text d e)
by_answer text (Err f) e = inr (f.line, f.why, first_bad text f e)

pub either : ReadsOrRefused ReadsAsDesc desc_why_at
either text = by_answer text (meant text) refl

pub answered_range : (text : List ℕ) (r : Result SlaveDesc TextRefused) → GivesText r (meant text) → IfOk r (λ d. IsDesc d)
answered_range text (Ok d) e = reads_desc text d (reads text d e)
answered_range text (Err f) e = tt
