-- The first line of a talk that is refused, and why.
use Rattle.std.specs.Prelude.{ℕ, ◌-◌, ◌&&◌, not, nat_lt, Bool, false, List, [], ◌∷◌, length, take, slice_get, if◌then◌else◌, Option, Some, None, Result, Ok, Err, codes}
use Rattle.std.specs.List.{list_any}
use Rattle.std.specs.Str.{is_utf8, bytes_eq}
use Rattle.pdu_layout.specs.Message.{Message}
use Rattle.pdu_text.specs.declared.reasons.PduTextWhy.{PduTextWhy}
use Rattle.pdu_text.specs.declared.reasons.PduTextWhy.TheVariants as message
use Rattle.pdu_text.specs.Machine.{text_said}
use Rattle.text_lines.specs.Texts.{words, is_skipped}
use Rattle.text_lines.specs.declared.reasons.TextWhy.{TextWhy}
use Rattle.text_lines.specs.declared.reasons.TextWhy.TheVariants as why
use Rattle.desc_text.specs.Judging as block
use Rattle.desc_text.specs.Judging.{why_end}
use Rattle.desc_text.specs.Said.{items_in}
use Rattle.text_lines.specs.Causes.{or_else, refused_if}

-- the causes of a message's line, among those of all texts
abbrev pub why_of : PduTextWhy → TextWhy
why_of message.NotUtf8 = why.NotUtf8
why_of message.UnknownKey = why.UnknownKey
why_of message.Words = why.Words
why_of message.BadNumber = why.BadNumber
why_of message.BadUuid = why.BadUuid
why_of message.Limit = why.Limit

abbrev pub first_is : List ℕ → List (List ℕ) → Bool
first_is word [] = false
first_is word (w ∷ ws) = bytes_eq w word

-- the line closes the block: its first word is `begin`
abbrev pub is_begin : List ℕ → Bool
is_begin line = is_utf8 line && first_is (codes "begin") (words line)

-- one of the lines closes the block
abbrev pub has_begun : List (List ℕ) → Bool
has_begun before = list_any is_begin before

-- no word follows `begin` or `turn`
abbrev pub why_more : List (List ℕ) → Option TextWhy
why_more ws = refused_if (nat_lt 1 (length ws)) why.Words

-- what is wrong with a line of the block, or with the line that closes it
abbrev pub why_talk_block : List (List ℕ) → List ℕ → Option TextWhy
why_talk_block before line = if is_begin line then or_else (why_end (items_in before)) (why_more (words line)) else block.why_line (items_in before) line

-- what is wrong with the line of an event
abbrev pub why_message : Result Message PduTextWhy → Option TextWhy
why_message (Ok message) = None
why_message (Err cause) = Some (why_of cause)

abbrev pub why_event : List ℕ → Option TextWhy
why_event line =
    if not (is_utf8 line) then Some why.NotUtf8
    else (if is_skipped (words line) then None
    else (if first_is (codes "turn") (words line) then why_more (words line) else why_message (text_said line)))

abbrev pub why_talk_entry : Option (List ℕ) → List (List ℕ) → Option TextWhy
why_talk_entry (Some line) before = if has_begun before then why_event line else why_talk_block before line
why_talk_entry None before = if has_begun before then None else Some why.Missing

-- what is wrong with the line of this number, the end being the line after the last
abbrev pub talk_why_at : List (List ℕ) → ℕ → Option TextWhy
talk_why_at all n = why_talk_entry (slice_get all (n - 1)) (take (n - 1) all)
