-- What comes in over one connection.
use Rattle.std.specs.Prelude.{◌≡◌, ℕ, List, ◌∷◌, [], ◌++◌, length, Option}
use Rattle.std.specs.Io.KnownBytes.{Consumes}
use Rattle.stream_frame.specs.Frames.{IsFrame, HasFrame, IsBad}
use Rattle.stream_frame.specs.Greetings.{greeting}
use Rattle.stream_frame.specs.Inlets.{Arriving, Receives}
use Rattle.live_net.specs.declared.intakes.Taking.{Taking}
use Rattle.live_net.specs.declared.intakes.Taking.TheVariants.{Gram, NotYet, Bad}

-- a receiving side: its source, the inlet that it feeds, and the bytes that were read and not fed
pub record Incoming (S : Type 0) : Type 0 where
  pub source : S
  pub inlet : Arriving
  pub held : List ℕ

-- What a source that told `start` when the connection began, and tells `left`, has given since is a greeting, or the first of its six bytes, and then the
-- frames of the messages that were handed out, in order, followed by what the inlet holds and what is held back.
pub record Gathers (start left : Option (List ℕ)) (inlet : Arriving) (held : List ℕ) (grams : List (List ℕ)) : Type 0 where
  pub fed : List ℕ
  pub given : Consumes start left (fed ++ held)
  pub receives : Receives inlet fed grams

-- A message that is handed out is a frame's, and comes from the sender of the greeting; where none is, no whole frame is held and no bad length; a bad length
-- is answered where one is held.
abbrev pub Hands : Taking → Arriving → Type 0
Hands (Gram from) inlet = (greeting from ≡ inlet.greeting) × IsFrame inlet.reader.last
Hands NotYet inlet = length inlet.greeting ≡ 6 → (HasFrame inlet.reader.held → ⊥) × (IsBad inlet.reader.held → ⊥)
Hands Bad inlet = (length inlet.greeting ≡ 6) × IsBad inlet.reader.held

-- the messages that were handed out
abbrev pub with_handed : Taking → Arriving → List (List ℕ) → List (List ℕ)
with_handed (Gram from) inlet grams = grams ++ inlet.reader.last ∷ []
with_handed NotYet inlet grams = grams
with_handed Bad inlet grams = grams
