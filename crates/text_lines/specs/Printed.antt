-- Printed words and lines.
use Rattle.std.specs.Prelude.{ℕ, ◌/◌, ◌%◌, List, [], ◌∷◌, ◌++◌, decimal}
use Rattle.std.specs.List.{join_with_byte}
use Rattle.std.specs.Int.{w128, to_be_bytes}
use Rattle.uuid.specs.Text.{hyphenated_text, lower}

-- the four numbers of an ip, with dots
unfoldable pub ip_word : ℕ → List ℕ
ip_word n = decimal (n / 16777216) ++ (46 ∷ (decimal (n / 65536 % 256) ++ (46 ∷ (decimal (n / 256 % 256) ++ (46 ∷ decimal (n % 256))))))

-- an identity with hyphens, in lower case
unfoldable pub identity_word : ℕ → List ℕ
identity_word n = hyphenated_text lower (to_be_bytes w128 n)

-- words with a space between each two, and a line feed
unfoldable pub line_of : List (List ℕ) → List ℕ
line_of words = join_with_byte 32 words ++ 10 ∷ []
