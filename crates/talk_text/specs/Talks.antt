-- Which talk a text is.
use Rattle.std.specs.Prelude.{◌≡◌, ℕ, true, List, [], ◌∷◌, ◌++◌, All, map, codes}
use Rattle.std.specs.Str.{is_utf8}
use Rattle.std.specs.Str.Lines.{lines}
use Rattle.dcp_types.specs.declared.addresses.Address.{Address}
use Rattle.dcp_ends.specs.Events.{Event, Gram, Tick}
use Rattle.pdu_text.specs.Takers.{ReadsAndSpells}
use Rattle.text_lines.specs.Texts.{words, is_skipped}
use Rattle.desc_text.specs.Said.{items_in}
use Rattle.desc_text.specs.Reads.{is_desc_read, Describes}
use Rattle.talk_text.specs.declared.events.Talk.{Talk}
use Rattle.talk_text.specs.declared.events.TalkEvent.{TalkEvent}
use Rattle.talk_text.specs.declared.events.TalkEvent.TheVariants as talk

-- the master, 127.0.0.1 at port 9000, from which each message comes
abbrev pub sender : Address
sender = record { ip = 2130706433; port = 9000 }

-- what comes to the slave
abbrev pub event_of_talk : TalkEvent → Event
event_of_talk talk.Turn = Tick
event_of_talk (talk.Message bytes) = Gram sender bytes

abbrev pub events_of : Talk → List Event
events_of t = map event_of_talk t.events

-- a line after the block is skipped, or it is `turn`, or a message in its printed form, with these bytes
abbrev pub SaysEvents : List ℕ → List TalkEvent → Type 0
SaysEvents line [] = is_skipped (words line) ≡ true
SaysEvents line (talk.Turn ∷ []) = words line ≡ codes "turn" ∷ []
SaysEvents line (talk.Message bytes ∷ []) = ReadsAndSpells line bytes
SaysEvents line (first ∷ second ∷ more) = ⊥

-- the lines say these events, one after the other
abbrev pub SayAll : List (List ℕ) → List TalkEvent → Type 0
SayAll [] events = events ≡ []
SayAll (line ∷ more) events =
    (first : List TalkEvent) × (others : List TalkEvent) × (events ≡ first ++ others) × (is_utf8 line ≡ true) × SaysEvents line first × SayAll more others

-- a line that begins the talk
abbrev pub IsBegin : List ℕ → Type 0
IsBegin line = words line ≡ codes "begin" ∷ []

-- The lines are those of a description, a line `begin`, and lines that say the events.
pub record AreTalk (all : List (List ℕ)) (t : Talk) : Type 0 where
  pub block : List (List ℕ)
  pub begin : List ℕ
  pub said : List (List ℕ)
  pub whole : all ≡ block ++ begin ∷ said
  pub each : All (λ line. is_desc_read line ≡ true) block
  pub describes : Describes (items_in block) t.desc
  pub utf8 : is_utf8 begin ≡ true
  pub begins : IsBegin begin
  pub says : SayAll said t.events

abbrev pub IsTalk : List ℕ → Talk → Type 0
IsTalk text t = AreTalk (lines text) t
