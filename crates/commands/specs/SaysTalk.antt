-- What `talk` says of a text.
use Rattle.std.specs.Prelude.{◌≡◌, ◌⊎◌, ℕ, true, List, []}
use Rattle.text_lines.specs.Readings.{FirstBad}
use Rattle.text_lines.specs.declared.reasons.TextWhy.{TextWhy}
use Rattle.text_lines.specs.Causes.{cause_word}
use Rattle.slave_spec.specs.Slaves.{slave_rules_from}
use Rattle.talk_text.specs.declared.events.Talk.{Talk}
use Rattle.talk_text.specs.Talks.{IsTalk, events_of}
use Rattle.talk_text.specs.Judging.{talk_why_at}
use Rattle.talk_text.specs.Saying.{sends_over, lines_shown}
use Rattle.commands.specs.declared.statuses.Judgement.{Judgement}
use Rattle.commands.specs.declared.statuses.Judgement.TheVariants as judged
use Rattle.fixed_models.specs.Kinds.{is_external}
use Rattle.commands.specs.Externals.{external_refusal}
use Rattle.commands.specs.Refusals.{line_refusal}

-- the lines of the messages that the slave of a talk sends over its events, in order; a step has one micro step
abbrev pub talk_lines : Talk → List ℕ
talk_lines t = lines_shown (sends_over (slave_rules_from (record { desc = t.desc; micro = 1 })) [] (events_of t))

-- the text is no talk: the first line that is refused, and why
abbrev pub IsNoTalk : (input text : List ℕ) → Type 0
IsNoTalk input text = (line : ℕ) × (why : TextWhy) × FirstBad talk_why_at input line why × (text ≡ line_refusal line (cause_word why))

-- the text is a talk of a slave whose model is not this program's
abbrev pub IsOfExternal : (input text : List ℕ) → Type 0
IsOfExternal input text = (t : Talk) × IsTalk input t × (is_external t.desc.kind ≡ true) × (text ≡ external_refusal 1 input)

-- what the slave says; or the first line of the text that is refused, or that of a model which is not this program's
abbrev pub SaysTalk : List ℕ → Judgement → List ℕ → Type 0
SaysTalk input judged.Good text = (t : Talk) × IsTalk input t × (text ≡ talk_lines t)
SaysTalk input judged.Refused text = IsNoTalk input text ⊎ IsOfExternal input text
SaysTalk input judged.Failed text = ⊥
SaysTalk input judged.Differs text = ⊥
