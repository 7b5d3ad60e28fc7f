-- What holds of all streams, and of all lists of calls.
use Rattle.std.specs.Prelude.{◌≡◌, ◌≤◌, ℕ, List, ◌∷◌, ◌++◌, length, All}
use Rattle.stream_frame.specs.declared.frames.Frame.TheVariants.{NotYet, Bad}
use Rattle.stream_frame.specs.Frames.{AreBytes, IsFrame, all_in_stream, CutInto}
use Rattle.stream_frame.specs.Framing.{space_of}
use Rattle.stream_frame.specs.Calls.{FrameCall, Fed, Asked, taken_bytes, handed, held_bytes, is_refused, AreAnswered}

-- all bytes are cut into frames and a rest
abbrev pub SomeCut : Type 0
SomeCut = (bytes : List ℕ) → AreBytes bytes → (frames : List (List ℕ)) × (rest : List ℕ) × CutInto bytes frames rest

-- and in one way
abbrev pub AtMostOneCut : Type 0
AtMostOneCut = (bytes : List ℕ) (frames others : List (List ℕ)) (rest left : List ℕ) → CutInto bytes frames rest → CutInto bytes others left → (frames ≡ others) × (rest ≡ left)

-- after a bad length was answered a feed takes no byte, and each question is answered by this length
abbrev pub StaysBad : ℕ → FrameCall → Type 0
StaysBad n (Fed piece count) = count ≡ 0
StaysBad n (Asked answer last) = answer ≡ Bad n

pub record IsExact (calls : List FrameCall) : Type 0 where
  -- what was taken is what was handed out, as frames, and what is held
  pub whole : taken_bytes calls ≡ all_in_stream (handed calls) ++ held_bytes calls
  pub are_frames : All IsFrame (handed calls)
  pub few : length (held_bytes calls) ≤ 1028
  -- the frames that were handed out are the first ones of those into which the bytes are cut
  pub first : (frames : List (List ℕ)) (rest : List ℕ) → CutInto (taken_bytes calls) frames rest → (more : List (List ℕ)) × (frames ≡ handed calls ++ more) × CutInto (held_bytes calls) more rest
  -- where more bytes are wanted, there is room for at least one
  pub wanting : (before : List FrameCall) (last : List ℕ) → calls ≡ Asked NotYet last ∷ before → 1 ≤ space_of (is_refused calls) (held_bytes calls)
  pub bad : (call : FrameCall) (last : List ℕ) (n : ℕ) (since before : List FrameCall) → calls ≡ call ∷ (since ++ Asked (Bad n) last ∷ before) → StaysBad n call

abbrev pub EveryChunkingIsExact : Type 0
EveryChunkingIsExact = (calls : List FrameCall) → AreAnswered calls → IsExact calls
