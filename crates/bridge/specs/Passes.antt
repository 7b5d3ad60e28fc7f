-- What goes from one side to the other.
use Rattle.std.specs.Prelude.{◌≡◌, ℕ, ◌+◌, ◌-◌, ◌<◌, ◌≤◌, ◌&&◌, nat_le, Bool, List, [], ◌∷◌, ◌++◌, length, take, drop, zero, suc, if◌then◌else◌}
use Rattle.std.specs.List.{list_any}
use Rattle.dcp_types.specs.declared.addresses.Address.{Address}
use Rattle.dcp_ends.specs.declared.entries.LogEntry.{LogEntry}
use Rattle.dcp_ends.specs.declared.entries.LogEntry.TheVariants.{Sent, Got, Idle, Turn}
use Rattle.dcp_ends.specs.Logs.{same_address}
use Rattle.bridge.specs.declared.sides.BridgeSide.{BridgeSide}
use Rattle.bridge.specs.declared.crossings.Crossing.{Crossing}
use Rattle.bridge.specs.declared.passing.Passed.{Passed}
use Rattle.bridge.specs.Carried.{carried_to}

-- a datagram is an end's message: it has 1 to 1,024 bytes, and its sender is one of those who live on the side where it came in
abbrev pub is_from_here : (living : List Address) → (from : Address) → (bytes : List ℕ) → Bool
is_from_here living from bytes = nat_le 1 (length bytes) && (nat_le (length bytes) 1024 && list_any (λ end. same_address end from) living)

-- the ends' messages among the datagrams that these calls took, in order, each as it goes out on the other side
abbrev pub came_in : (living : List Address) → (to : BridgeSide) → List LogEntry → List Crossing
came_in living to [] = []
came_in living to (Got at from bytes ∷ calls) =
    if is_from_here living from bytes then record { from = from; to = at; bytes = carried_to to bytes } ∷ came_in living to calls else came_in living to calls
came_in living to (Sent from at bytes ∷ calls) = came_in living to calls
came_in living to (Idle at ∷ calls) = came_in living to calls
came_in living to (Turn at ∷ calls) = came_in living to calls

-- how many of the datagrams that these calls took are no end's message
abbrev pub strange_in : (living : List Address) → List LogEntry → ℕ
strange_in living [] = 0
strange_in living (Got at from bytes ∷ calls) = (if is_from_here living from bytes then 0 else 1) + strange_in living calls
strange_in living (Sent from at bytes ∷ calls) = strange_in living calls
strange_in living (Idle at ∷ calls) = strange_in living calls
strange_in living (Turn at ∷ calls) = strange_in living calls

-- what these calls sent, in order
abbrev pub gone_out : List LogEntry → List Crossing
gone_out [] = []
gone_out (Sent from to bytes ∷ calls) = record { from = from; to = to; bytes = bytes } ∷ gone_out calls
gone_out (Got at from bytes ∷ calls) = gone_out calls
gone_out (Idle at ∷ calls) = gone_out calls
gone_out (Turn at ∷ calls) = gone_out calls

-- those that find room behind what waits, which has room for 256
abbrev pub let_in : (waiting came : List Crossing) → List Crossing
let_in waiting came = take (256 - length waiting) came

-- those that came when 256 waited
abbrev pub left_out : (waiting came : List Crossing) → List Crossing
left_out waiting came = drop (256 - length waiting) came

-- the datagrams of two sides
abbrev pub passed_both : Passed → Passed → Passed
passed_both one other = record { carried = one.carried + other.carried; dropped = one.dropped + other.dropped; strange = one.strange + other.strange }

abbrev pub count_of : Passed → ℕ
count_of passed = passed.carried + (passed.dropped + passed.strange)

-- ---- the calls of a whole round on one side

-- so many datagrams were taken at this address
abbrev pub GotsAt : Address → ℕ → List LogEntry → Type 0
GotsAt at zero calls = calls ≡ []
GotsAt at (suc n) calls = (before : List LogEntry) × (from : Address) × (bytes : List ℕ) × (calls ≡ before ++ Got at from bytes ∷ []) × GotsAt at n before

-- all datagrams at this address: fewer than 64 and then a take that gave nothing, or 64
pub record TakesAt (at : Address) (calls : List LogEntry) : Type 0 where
  pub count : ℕ
  pub gots : List LogEntry
  pub form : GotsAt at count gots
  pub most : count ≤ 64
  pub full : count ≡ 64 → calls ≡ gots
  pub idle : count < 64 → calls ≡ gots ++ Idle at ∷ []

-- each of these calls sent a message
abbrev pub AllSends : List LogEntry → Type 0
AllSends [] = Unit {0}
AllSends (Sent from to bytes ∷ calls) = AllSends calls
AllSends (Got at from bytes ∷ calls) = ⊥
AllSends (Idle at ∷ calls) = ⊥
AllSends (Turn at ∷ calls) = ⊥
