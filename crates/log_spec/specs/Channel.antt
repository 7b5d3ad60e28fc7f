-- Numbers, ordinals and ages in one channel. A channel is the list of what was sent in it, the newest first.
use Rattle.std.specs.Prelude.{◌≡◌, ℕ, ◌+◌, ◌%◌, ◌==◌, Bool, false, if◌then◌else◌, ◌⊎◌, Option, Some, None, List, [], ◌∷◌, length}
use Rattle.log_spec.specs.Messages.{Note}

-- the send has the number of the send before
abbrev pub repeats_number : Note → List Note → Bool
repeats_number n [] = false
repeats_number n (before ∷ ns) = n.number == before.number

-- how many sends have a number that differs from that of the send before
abbrev pub number_changes : List Note → ℕ
number_changes [] = 0
number_changes (n ∷ []) = 0
number_changes (n ∷ before ∷ ns) = if n.number == before.number then number_changes (before ∷ ns) else number_changes (before ∷ ns) + 1

-- one send for each ordinal, the newest first
abbrev pub by_ordinal : List Note → List Note
by_ordinal [] = []
by_ordinal (n ∷ ns) = if repeats_number n ns then by_ordinal ns else n ∷ by_ordinal ns

-- what stands at this ordinal
abbrev pub at_ordinal : {A : Type 0} → List A → ℕ → Option A
at_ordinal [] o = None
at_ordinal (x ∷ xs) o = if o == length xs then Some x else at_ordinal xs o

-- the send repeats the newest one whole
abbrev pub Repeats : List Note → Note → Type 0
Repeats [] n = ⊥
Repeats (r ∷ rs) n = n ≡ r

-- each send repeats the send before, or has the next ordinal as its number
abbrev pub MaySend : List Note → Note → Type 0
MaySend rs n = Repeats rs n ⊎ (n.number ≡ length rs % 65536)

abbrev pub IsRegularChannel : List Note → Type 0
IsRegularChannel [] = Unit {0}
IsRegularChannel (n ∷ ns) = MaySend (by_ordinal ns) n × IsRegularChannel ns
