-- What the reader answers.
use Rattle.std.proofs.Common.{◌≡◌, ℕ, ◌⊎◌, inl, inr, List, Result, Ok, Err, IfOk, IfErr, refl, ap}
use Rattle.std.specs.Str.Lines.{lines}
use Rattle.text_lines.specs.Outcomes.{GivesText}
use Rattle.text_lines.specs.Runs.{run_of}
use Rattle.text_lines.specs.declared.reasons.TextWhy.{TextWhy}
use Rattle.text_lines.specs.declared.reasons.TextFault.{TextFault}
use Rattle.text_lines.specs.declared.reasons.TextRefused.{TextRefused}
use Rattle.text_lines.specs.declared.reasons.TextRefused.TheVariants as refusals
use Rattle.slave_desc.specs.Descriptions.{IsDesc}
use Rattle.talk_text.specs.Talks.{IsTalk}
use Rattle.text_lines.specs.Readings.{FirstBad, IsFirstBad, ReadsOrRefused}
use Rattle.talk_text.specs.Judging.{talk_why_at}
use Rattle.talk_text.specs.Machine.{stage_at_start, take_talk_line, talk_finished}
use Rattle.talk_text.specs.declared.events.Talk.{Talk}
use Rattle.talk_text.proofs.Judged.{reads, first_bad, talk_desc}
use Rattle.talk_text.proofs.Apart.{talk_not_bad, one_talk}

abbrev pub meant : List ℕ → Result Talk TextFault
meant text = run_of take_talk_line talk_finished 1 stage_at_start (lines text)

pub answered_ok : (text : List ℕ) (r : Result Talk TextRefused) → GivesText r (meant text) → IfOk r (λ t. IsTalk text t)
answered_ok text (Ok t) e = reads text t e
answered_ok text (Err f) e = tt

pub answered_range : (text : List ℕ) (r : Result Talk TextRefused) → GivesText r (meant text) → IfOk r (λ t. IsDesc t.desc)
answered_range text (Ok t) e = talk_desc text t (reads text t e)
answered_range text (Err f) e = tt

pub answered_fault : (text : List ℕ) (r : Result Talk TextRefused) → GivesText r (meant text) → IfErr r (λ e. IsFirstBad talk_why_at text e)
answered_fault text (Ok t) e = tt
answered_fault text (Err refusals.OutOfMemory) e = tt
answered_fault text (Err (refusals.Fault f)) e = first_bad text f e

pub answered_only : (text : List ℕ) (r : Result Talk TextRefused) → GivesText r (meant text) → (t : Talk) → IsTalk text t → GivesText r (Ok t)
answered_only text (Ok a) e t is = ap Ok (one_talk text t a is (reads text a e))
answered_only text (Err refusals.OutOfMemory) e t is = tt
answered_only text (Err (refusals.Fault f)) e t is = absurd (talk_not_bad text t f.line f.why is (first_bad text f e))

by_answer : (text : List ℕ) (r : Result Talk TextFault) → meant text ≡ r → ((t : Talk) × IsTalk text t) ⊎ ((line : ℕ) × (why : TextWhy) × FirstBad talk_why_at text line why)
by_answer text (Ok t) e = inl (t, reads text t e)
by_answer text (Err f) e = inr (f.line, f.why, first_bad text f e)

pub either : ReadsOrRefused IsTalk talk_why_at
either text = by_answer text (meant text) refl
