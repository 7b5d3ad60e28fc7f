-- Whether bytes are a notice of a log entry.
use Rattle.std.specs.Prelude.{◌≡◌, ℕ, ◌&&◌, ◌==◌, nat_le, Bool, MatchBool, List, [], ◌∷◌, length, slice_index}
use Rattle.dcp_ends.specs.Events.{Send}

-- the type code and the id of the slave, a category, a level, and any text
abbrev pub is_note : List ℕ → (id : ℕ) → Bool
is_note bytes id = nat_le 4 (length bytes) && (nat_le (length bytes) 1024 && ((slice_index bytes 0 == 225) && (slice_index bytes 1 == id)))

-- one notice may be told
abbrev pub MayTellOne : (logs : Bool) → (List Send → Type 0) → Send → Type 0
MayTellOne logs Are s = MatchBool logs (Are (s ∷ [])) (s ∷ [] ≡ [])
