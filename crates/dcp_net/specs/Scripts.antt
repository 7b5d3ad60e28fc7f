-- What a network gives that follows a script.
use Rattle.std.specs.Prelude.{◌≡◌, ℕ, ◌≤◌, List, [], ◌∷◌, take, length, Bool, true, false, if◌then◌else◌, Option, None, Some}
use Rattle.std.specs.List.{All}
use Rattle.dcp_types.specs.declared.addresses.Address.{Address}
use Rattle.dcp_ends.specs.Logs.{same_address}
use Rattle.dcp_ends.specs.declared.entries.LogEntry.{LogEntry}
use Rattle.dcp_ends.specs.declared.entries.LogEntry.TheVariants.{Sent, Got, Idle, Turn}
use Rattle.dcp_net.specs.Firsts.{first_that, without_first}
use Rattle.dcp_net.specs.declared.grams.ScriptGram.{ScriptGram}
use Rattle.dcp_net.specs.declared.nets.Taken.{Taken}
use Rattle.dcp_net.specs.declared.nets.Taken.TheVariants as taken

-- the datagrams that were not taken yet, and the successful calls since the network was opened
pub record NetScript : Type 0 where
  pub left : List ScriptGram
  pub calls : List LogEntry

-- whether this call was a take at this address that gave a datagram, if it was a take there
abbrev pub took_at : Address → LogEntry → Option Bool
took_at at (Sent from to bytes) = None
took_at at (Got a from bytes) = if same_address at a then Some true else None
took_at at (Idle a) = if same_address at a then Some false else None
took_at at (Turn a) = None

-- the newer of two answers, where there is one
abbrev pub newest_of : Option Bool → Bool → Bool
newest_of None before = before
newest_of (Some now) before = now

-- whether the last take at this address gave a datagram, after these calls too
abbrev pub rests_after : Address → Bool → List LogEntry → Bool
rests_after at rests [] = rests
rests_after at rests (call ∷ calls) = rests_after at (newest_of (took_at at call) rests) calls

abbrev pub is_for : Address → ScriptGram → Bool
is_for at gram = same_address gram.at at

-- what the next take at this address gives: nothing after a datagram, else the first that is left for it
abbrev pub script_due : Address → NetScript → Option ScriptGram
script_due at script = if rests_after at false script.calls then None else first_that (is_for at) script.left

-- what one take does
abbrev pub FollowsScript : Address → NetScript → NetScript → Taken → List ℕ → Type 0
FollowsScript at old new taken.Nothing room = (script_due at old ≡ None) × (new.left ≡ old.left)
FollowsScript at old new (taken.Gram from len) room =
    (gram : ScriptGram) × (script_due at old ≡ Some gram) × (from ≡ gram.from) × (take len room ≡ gram.bytes) × (new.left ≡ without_first (is_for at) old.left)
FollowsScript at old new taken.Failed room = ⊥
FollowsScript at old new taken.OutOfMemory room = new ≡ old

-- no datagram is longer than the room of a take
abbrev pub AllFit : List ScriptGram → Type 0
AllFit grams = All (λ (gram : ScriptGram). length gram.bytes ≤ 1025) grams
