-- All calls of a reader since it was made, the newest first, each with its argument and its answer.
use Rattle.std.specs.Prelude.{◌≡◌, ℕ, Bool, true, false, List, [], ◌∷◌, ◌++◌, length, take, drop, min}
use Rattle.stream_frame.specs.declared.frames.Frame.{Frame}
use Rattle.stream_frame.specs.declared.frames.Frame.TheVariants.{Whole, NotYet, Bad}
use Rattle.stream_frame.specs.Frames.{AreBytes, all_in_stream, BeginsWith, HasFrame, BeginsBad, IsBad}
use Rattle.stream_frame.specs.Framing.{Framing, space_of}

-- a piece that was fed, with how many bytes of it were taken; a question for the next frame, with its answer and what the reader then gives as the last frame
pub data FrameCall : Type 0 where
  Fed : (piece : List ℕ) (count : ℕ) → FrameCall
  Asked : (answer : Frame) (last : List ℕ) → FrameCall

-- the bytes that the calls took
abbrev pub taken_bytes : List FrameCall → List ℕ
taken_bytes [] = []
taken_bytes (Fed piece count ∷ calls) = taken_bytes calls ++ take count piece
taken_bytes (Asked answer last ∷ calls) = taken_bytes calls

-- the frames that the calls handed out
abbrev pub handed : List FrameCall → List (List ℕ)
handed [] = []
handed (Asked Whole last ∷ calls) = handed calls ++ last ∷ []
handed (Asked NotYet last ∷ calls) = handed calls
handed (Asked (Bad n) last ∷ calls) = handed calls
handed (Fed piece count ∷ calls) = handed calls

-- the last frame that the calls handed out, or nothing before the first
abbrev pub last_handed : List FrameCall → List ℕ
last_handed [] = []
last_handed (Asked Whole last ∷ calls) = last
last_handed (Asked NotYet last ∷ calls) = last_handed calls
last_handed (Asked (Bad n) last ∷ calls) = last_handed calls
last_handed (Fed piece count ∷ calls) = last_handed calls

-- a bad length was answered
abbrev pub is_refused : List FrameCall → Bool
is_refused [] = false
is_refused (Asked Whole last ∷ calls) = is_refused calls
is_refused (Asked NotYet last ∷ calls) = is_refused calls
is_refused (Asked (Bad n) last ∷ calls) = true
is_refused (Fed piece count ∷ calls) = is_refused calls

-- the bytes that are held: those that were taken, behind the frames that were handed out
abbrev pub held_bytes : List FrameCall → List ℕ
held_bytes calls = drop (length (all_in_stream (handed calls))) (taken_bytes calls)

-- the answer of one call after others: a feed takes as many bytes as there is room for; a question hands out the frame that the held bytes begin
-- with; a bad length is answered where they begin with one
abbrev pub IsAnswered : List FrameCall → FrameCall → Type 0
IsAnswered before (Fed piece count) = AreBytes piece × (count ≡ min (length piece) (space_of (is_refused before) (held_bytes before)))
IsAnswered before (Asked Whole last) = (rest : List ℕ) × BeginsWith (held_bytes before) last rest
IsAnswered before (Asked NotYet last) = (¬ HasFrame (held_bytes before)) × (¬ IsBad (held_bytes before)) × (last ≡ last_handed before)
IsAnswered before (Asked (Bad n) last) = BeginsBad (held_bytes before) n × (last ≡ last_handed before)

-- each call was answered as the calls before it say
abbrev pub AreAnswered : List FrameCall → Type 0
AreAnswered [] = Unit {0}
AreAnswered (call ∷ calls) = IsAnswered calls call × AreAnswered calls

-- a reader stands for the list of all its calls
pub record StandsByCalls (reader : Framing) (calls : List FrameCall) : Type 0 where
  pub answered : AreAnswered calls
  pub held : reader.held ≡ held_bytes calls
  pub last : reader.last ≡ last_handed calls
  pub is_refused : reader.is_refused ≡ is_refused calls
