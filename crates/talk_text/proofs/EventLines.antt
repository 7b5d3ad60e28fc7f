-- The line of an event says one thing, and what says something is not refused.
use Rattle.std.proofs.Common.{◌≡◌, ℕ, Bool, true, false, not, cond, eqb, ◌&&◌, List, [], ◌∷◌, ◌++◌, Option, Some, None, Result, Ok, Err, if◌then◌else◌, refl, sym, ap, ◌∙◌}
use Rattle.std.specs.Prelude.{codes, slice_index}
use Rattle.std.specs.List.{list_all, AllByRecursion, flat_map}
use Rattle.std.specs.Str.{is_utf8, bytes_eq}
use Rattle.std.proofs.lemmas.Bool.{and_parts}
use Rattle.std.proofs.lemmas.Slice.Eq.{bytes_eq-Decides}
use Rattle.pdu_layout.specs.Message.{Message}
use Rattle.pdu_layout.specs.Reading.{spelling}
use Rattle.pdu_layout.specs.Table.{Row, table}
use Rattle.pdu_text.specs.Lines.{code_in_rows, code_named}
use Rattle.pdu_text.specs.Machine.{text_said}
use Rattle.pdu_text.specs.Reading.{ReadsMessage}
use Rattle.pdu_text.specs.declared.reasons.PduTextWhy.{PduTextWhy}
use Rattle.pdu_text.proofs.Judged.{reads_said}
use Rattle.text_lines.specs.Texts.{words, is_skipped}
use Rattle.talk_text.specs.Talks.{SaysEvents, SayAll}
use Rattle.talk_text.specs.Judging.{first_is, why_event}
use Rattle.talk_text.specs.declared.events.TalkEvent.{TalkEvent}
use Rattle.talk_text.specs.declared.events.TalkEvent.TheVariants as talk
use Rattle.talk_text.proofs.Messages.{spelled_is}
use Rattle.talk_text.proofs.WholeLines.{IsLine, AreLines, one_line}

-- ---- the first word of a message

-- the word begins no comment and is not `turn`
abbrev is_name : List ℕ → Bool
is_name word = not (eqb (slice_index word 0) 35) && not (bytes_eq word (codes "turn"))

abbrev has_name : Row → Bool
has_name row = is_name row.name

table_names : list_all has_name table ≡ true
table_names = refl

name_here : (row : Row) (word : List ℕ) (code : ℕ) (later : Option ℕ) (b : Bool) → has_name row ≡ true → (later ≡ Some code → is_name word ≡ true)
    → bytes_eq word row.name ≡ b → cond b (Some row.code) later ≡ Some code → is_name word ≡ true
name_here row word code later true h more is e = ap is_name ((bytes_eq-Decides word row.name).0 is) ∙ h
name_here row word code later false h more is e = more e

name_in : (rows : List Row) (word : List ℕ) (code : ℕ) → list_all has_name rows ≡ true → code_in_rows rows word ≡ Some code → is_name word ≡ true
name_in [] word code h e = absurd cc
name_in (row ∷ rows) word code h e =
    let t = and_parts (has_name row) (list_all has_name rows) h in
    name_here row word code (code_in_rows rows word) (bytes_eq word row.name) t.0 (λ later. name_in rows word code t.1 later) refl e

names_message : (word : List ℕ) (code : ℕ) → code_named word ≡ Some code → is_name word ≡ true
unfolding code_named
names_message word code e = name_in table word code table_names e

isnt : (b : Bool) → not b ≡ true → b ≡ false
isnt true e = absurd cc
isnt false e = refl

-- a line that reads as a message is neither skipped nor a turn
message_line : (line : List ℕ) (m : Message) → IsLine line → ReadsMessage line m → (is_skipped (words line) ≡ false) × (first_is (codes "turn") (words line) ≡ false)
message_line line m h r =
    let ws : words line ≡ r.name ∷ r.given = sym (one_line line h) ∙ r.line in
    let name = and_parts (not (eqb (slice_index r.name 0) 35)) (not (bytes_eq r.name (codes "turn"))) (names_message r.name m.code r.named) in
    (ap is_skipped ws ∙ isnt (eqb (slice_index r.name 0) 35) name.0, ap (first_is (codes "turn")) ws ∙ isnt (bytes_eq r.name (codes "turn")) name.1)

-- ---- what a line says

abbrev message_on : Result Message PduTextWhy → List TalkEvent
message_on (Ok m) = talk.Message (spelling m) ∷ []
message_on (Err cause) = []

abbrev pub events_on : List ℕ → List TalkEvent
events_on line =
    if is_skipped (words line) then []
    else (if first_is (codes "turn") (words line) then talk.Turn ∷ [] else message_on (text_said line))

says_on : (line : List ℕ) (es : List TalkEvent) → IsLine line → SaysEvents line es → es ≡ events_on line
says_on line [] h s = rw s refl
says_on line (talk.Turn ∷ []) h s = rw s refl
says_on line (talk.Message bytes ∷ []) h s =
    let m = message_line line s.message h s.reads in
    rw (m.0, m.1, reads_said line s.message s.reads) (ap (λ (b : List ℕ). talk.Message b ∷ []) (spelled_is s.message bytes s.spells))
says_on line (first ∷ second ∷ more) h s = absurd s

pub say_on : (ls : List (List ℕ)) (events : List TalkEvent) → AreLines ls → SayAll ls events → events ≡ flat_map events_on ls
say_on [] events h s = s
say_on (line ∷ ls) events h s =
    s.2 ∙ ap (λ (es : List TalkEvent). es ++ s.1) (says_on line s.0 h.0 s.4) ∙ ap (λ (es : List TalkEvent). events_on line ++ es) (say_on ls s.1 h.1 s.5)

-- ---- what says something is right

says_right : (line : List ℕ) (es : List TalkEvent) → IsLine line → is_utf8 line ≡ true → SaysEvents line es → why_event line ≡ None
says_right line [] h u s = rw (u, s) refl
says_right line (talk.Turn ∷ []) h u s = rw (u, s) refl
says_right line (talk.Message bytes ∷ []) h u s =
    let m = message_line line s.message h s.reads in
    rw (reads_said line s.message s.reads, u, m.0, m.1) refl
says_right line (first ∷ second ∷ more) h u s = absurd s

pub say_right : (ls : List (List ℕ)) (events : List TalkEvent) → AreLines ls → SayAll ls events → AllByRecursion (λ line. why_event line ≡ None) ls
say_right [] events h s = tt
say_right (line ∷ ls) events h s = (says_right line s.0 h.0 s.3 s.4, say_right ls s.1 h.1 s.5)
