-- What `describe` says of a text.
use Rattle.std.specs.Prelude.{◌≡◌, ℕ, List}
use Rattle.text_lines.specs.declared.reasons.TextWhy.{TextWhy}
use Rattle.text_lines.specs.Causes.{cause_word}
use Rattle.slave_desc.specs.declared.descriptions.SlaveDesc.{SlaveDesc}
use Rattle.desc_text.specs.Reads.{ReadsAsDesc}
use Rattle.desc_text.specs.Judging.{desc_why_at}
use Rattle.text_lines.specs.Readings.{FirstBad}
use Rattle.desc_text.specs.Canonical.{canonical}
use Rattle.commands.specs.declared.statuses.Judgement.{Judgement}
use Rattle.commands.specs.declared.statuses.Judgement.TheVariants as judged
use Rattle.commands.specs.Refusals.{line_refusal}

-- the canonical text of the description that it is, or the first line that is refused
abbrev pub SaysDescribed : List ℕ → Judgement → List ℕ → Type 0
SaysDescribed input judged.Good text = (desc : SlaveDesc) × ReadsAsDesc input desc × (text ≡ canonical desc)
SaysDescribed input judged.Refused text = (line : ℕ) × (why : TextWhy) × FirstBad desc_why_at input line why × (text ≡ line_refusal line (cause_word why))
SaysDescribed input judged.Failed text = ⊥
SaysDescribed input judged.Differs text = ⊥
