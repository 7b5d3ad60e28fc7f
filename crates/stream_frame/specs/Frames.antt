-- Frames in a stream of bytes.
use Rattle.std.specs.Prelude.{◌≡◌, ◌⊎◌, ◌≤◌, ◌<◌, ◌^◌, ℕ, List, ◌++◌, length, take, All}
use Rattle.std.specs.List.{flat_map}
use Rattle.dcp_types.specs.Values.{digits}

abbrev pub AreBytes : List ℕ → Type 0
AreBytes bytes = All (λ b. b < 256) bytes

-- a frame has from 1 to 1,024 bytes
pub record IsFrame (frame : List ℕ) : Type 0 where
  pub low : 1 ≤ length frame
  pub high : length frame ≤ 1024

-- a frame in a stream: its length in four bytes, the lowest first, and then its bytes
abbrev pub in_stream : List ℕ → List ℕ
in_stream frame = digits 4 (length frame) ++ frame

abbrev pub all_in_stream : List (List ℕ) → List ℕ
all_in_stream frames = flat_map in_stream frames

-- bytes begin with a whole frame, behind which the rest stands
pub record BeginsWith (bytes frame rest : List ℕ) : Type 0 where
  pub is_frame : IsFrame frame
  pub cut : bytes ≡ in_stream frame ++ rest

abbrev pub HasFrame : List ℕ → Type 0
HasFrame bytes = (frame : List ℕ) × (rest : List ℕ) × BeginsWith bytes frame rest

-- a length that no frame has
abbrev pub IsRefusedLength : ℕ → Type 0
IsRefusedLength n = (n ≡ 0) ⊎ (1024 < n)

-- bytes begin with the four bytes of a length that no frame has
pub record BeginsBad (bytes : List ℕ) (n : ℕ) : Type 0 where
  pub fits : n < 2 ^ 32
  pub begins : take 4 bytes ≡ digits 4 n
  pub refused : IsRefusedLength n

abbrev pub IsBad : List ℕ → Type 0
IsBad bytes = (n : ℕ) × BeginsBad bytes n

-- bytes cut into frames and a rest that begins with no whole frame
pub record CutInto (bytes : List ℕ) (frames : List (List ℕ)) (rest : List ℕ) : Type 0 where
  pub are_frames : All IsFrame frames
  pub cut : bytes ≡ all_in_stream frames ++ rest
  pub no_more : ¬ HasFrame rest
