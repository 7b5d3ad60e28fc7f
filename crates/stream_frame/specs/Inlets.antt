-- One connection at its receiver.
use Rattle.std.specs.Prelude.{◌≡◌, ◌+◌, ◌-◌, ℕ, List, [], ◌∷◌, ◌++◌, length, take, drop, min, All}
use Rattle.stream_frame.specs.declared.frames.Frame.TheVariants as frame
use Rattle.stream_frame.specs.Frames.{IsFrame, all_in_stream}
use Rattle.stream_frame.specs.Framing.{Framing, Asks, fresh_framing, space}
use Rattle.stream_frame.specs.declared.inlets.Inward.{Inward}
use Rattle.stream_frame.specs.declared.inlets.Inward.TheVariants.{Gram, NotYet, Bad}
use Rattle.stream_frame.specs.Greetings.{greeting}

-- the bytes of the greeting that have come, and the reader of what stands behind it
pub record Arriving : Type 0 where
  pub greeting : List ℕ
  pub reader : Framing

abbrev pub fresh_inlet : Arriving
fresh_inlet = record { greeting = []; reader = fresh_framing }

-- how many bytes of a piece the greeting still wants
abbrev pub greets : Arriving → List ℕ → ℕ
greets inlet piece = min (length piece) (6 - length inlet.greeting)

-- how many bytes of what stands behind them the reader takes
abbrev pub reads : Arriving → List ℕ → ℕ
reads inlet piece = min (length (drop (greets inlet piece) piece)) (space inlet.reader)

-- a feed takes what the greeting wants, and then what there is room for
pub record Feeds (old new : Arriving) (piece : List ℕ) (taken : ℕ) : Type 0 where
  pub count : taken ≡ greets old piece + reads old piece
  pub greeting : new.greeting ≡ old.greeting ++ take (greets old piece) piece
  pub reader : new.reader ≡ record old.reader { held = old.reader.held ++ take (reads old piece) (drop (greets old piece) piece) }

-- what a question for a message does: nothing while the greeting is not whole, and then what a question for a frame does
abbrev pub AsksForMessage : Arriving → Arriving → Inward → Type 0
AsksForMessage old new (Gram from) = (greeting from ≡ old.greeting) × (new.greeting ≡ old.greeting) × Asks old.reader new.reader frame.Whole
AsksForMessage old new NotYet = (new ≡ old) × (length old.greeting ≡ 6 → Asks old.reader new.reader frame.NotYet)
AsksForMessage old new (Bad n) = (length old.greeting ≡ 6) × (new.greeting ≡ old.greeting) × Asks old.reader new.reader (frame.Bad n)

-- The bytes that an inlet took are six of a greeting, or the first of them, and then the frames of the messages that it handed out followed by the bytes that
-- it holds.
pub record Receives (inlet : Arriving) (bytes : List ℕ) (grams : List (List ℕ)) : Type 0 where
  pub greeting : inlet.greeting ≡ take 6 bytes
  pub stream : drop 6 bytes ≡ all_in_stream grams ++ inlet.reader.held
  pub are_frames : All IsFrame grams

-- the messages that were handed out
abbrev pub with_received : Inward → Arriving → List (List ℕ) → List (List ℕ)
with_received (Gram from) inlet grams = grams ++ inlet.reader.last ∷ []
with_received NotYet inlet grams = grams
with_received (Bad n) inlet grams = grams
