-- What an end says to the events of a talk: the lines of the messages that it sends, in order.
use Rattle.std.specs.Prelude.{ℕ, List, [], ◌∷◌, ◌++◌, Option, Some, None}
use Rattle.std.specs.List.{flat_map}
use Rattle.dcp_ends.specs.Events.{Event, Send, Rules}
use Rattle.pdu_layout.specs.Message.{Message}
use Rattle.pdu_layout.specs.Reading.{message_in}
use Rattle.pdu_text.specs.Printed.{line_of_message}

-- all that is sent at these events, after those before them
abbrev pub sends_over : Rules → (before events : List Event) → List Send
sends_over rules before [] = []
sends_over rules before (event ∷ events) = rules.sends before event ++ sends_over rules (before ++ event ∷ []) events

-- the line of a message
abbrev pub line_shown : Option Message → List ℕ
line_shown None = []
line_shown (Some message) = line_of_message message

-- the lines of the messages that are sent
abbrev pub lines_shown : List Send → List ℕ
lines_shown sends = flat_map (λ send. line_shown (message_in send.bytes)) sends
