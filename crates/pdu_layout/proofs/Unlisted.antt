-- A code that is that of no row.
use Rattle.std.proofs.Common.{◌≡◌, ℕ, List, [], ◌∷◌, Option, None, refl}
use Rattle.std.proofs.lemmas.Bool.{ne_eqb}
use Rattle.pdu_layout.specs.Table.{Row, row_in}

-- the code of no row
abbrev pub NotIn : List Row → ℕ → Type 0
NotIn [] c = Unit {0}
NotIn (row ∷ rows) c = (row.code ≡ c → ⊥) × NotIn rows c

pub not_listed : (rows : List Row) (c : ℕ) → NotIn rows c → row_in rows c ≡ None
not_listed [] c h = refl
not_listed (row ∷ rows) c h = rw (ne_eqb row.code c h.0) (not_listed rows c h.1)
