-- What the reader keeps of the lines so far, and what a line does to it.
use Rattle.std.specs.Prelude.{ℕ, not, List, [], ◌∷◌, ◌++◌, if◌then◌else◌, Result, Ok, Err, codes}
use Rattle.std.specs.Str.{is_utf8}
use Rattle.pdu_layout.specs.Message.{Message}
use Rattle.pdu_layout.specs.Reading.{spelling}
use Rattle.pdu_text.specs.declared.reasons.PduTextWhy.{PduTextWhy}
use Rattle.pdu_text.specs.Machine.{text_said}
use Rattle.text_lines.specs.Texts.{words, is_skipped}
use Rattle.text_lines.specs.Causes.{◌>>=◌, unless}
use Rattle.text_lines.specs.declared.reasons.TextWhy.{TextWhy}
use Rattle.text_lines.specs.declared.reasons.TextWhy.TheVariants as why
use Rattle.slave_desc.specs.declared.descriptions.SlaveDesc.{SlaveDesc}
use Rattle.desc_text.specs.Machine as block
use Rattle.desc_text.specs.declared.partials.Partial.{Partial}
use Rattle.talk_text.specs.Judging.{why_of, first_is, is_begin, why_more}
use Rattle.talk_text.specs.declared.events.Talk.{Talk}
use Rattle.talk_text.specs.declared.events.TalkEvent.{TalkEvent}
use Rattle.talk_text.specs.declared.events.TalkEvent.TheVariants as talk
use Rattle.talk_text.specs.declared.stages.Stage.{Stage}
use Rattle.talk_text.specs.declared.stages.Stage.TheVariants.{Block, Events}

abbrev pub talk_opened : List (List ℕ) → SlaveDesc → Result Stage TextWhy
talk_opened ws d = unless (why_more ws) (Ok (Events (record { desc = d; events = [] })))

-- the block is closed
abbrev pub stage_begun : Partial → List (List ℕ) → Result Stage TextWhy
stage_begun p ws = block.finished p >>= talk_opened ws

abbrev pub block_kept : Partial → Result Stage TextWhy
block_kept p = Ok (Block p)

abbrev pub take_talk_block : Partial → List ℕ → Result Stage TextWhy
take_talk_block p line = if is_begin line then stage_begun p (words line) else (block.take_line p line >>= block_kept)

abbrev pub message_event : Result Message PduTextWhy → Result TalkEvent TextWhy
message_event (Ok message) = Ok (talk.Message (spelling message))
message_event (Err cause) = Err (why_of cause)

abbrev pub event_said : List ℕ → Result TalkEvent TextWhy
event_said line = if first_is (codes "turn") (words line) then unless (why_more (words line)) (Ok talk.Turn) else message_event (text_said line)

abbrev pub added : Talk → TalkEvent → Result Stage TextWhy
added t e = Ok (Events (record t { events = t.events ++ e ∷ [] }))

abbrev pub take_event : Talk → List ℕ → Result Stage TextWhy
take_event t line =
    if not (is_utf8 line) then Err why.NotUtf8
    else (if is_skipped (words line) then Ok (Events t) else (event_said line >>= added t))

abbrev pub take_talk_line : Stage → List ℕ → Result Stage TextWhy
take_talk_line (Block p) line = take_talk_block p line
take_talk_line (Events t) line = take_event t line

-- the talk, at the end of the text
abbrev pub talk_finished : Stage → Result Talk TextWhy
talk_finished (Block p) = Err why.Missing
talk_finished (Events t) = Ok t

-- no line
abbrev pub stage_at_start : Stage
stage_at_start = Block block.nothing
