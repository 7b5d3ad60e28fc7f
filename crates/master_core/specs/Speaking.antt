-- Whose slave a datagram comes from.
use Rattle.std.specs.Prelude.{◌≡◌, ℕ, ◌≤◌, ◌<◌, true, false, List, length, slice_index_or}
use Rattle.dcp_types.specs.declared.addresses.Address.{Address}
use Rattle.dcp_ends.specs.Logs.{same_address}
use Rattle.master_core.specs.declared.records.Talk.{Talk}

-- the slave of the talk at this place has this address
abbrev pub SpeaksAt : Address → List Talk → ℕ → Type 0
SpeaksAt from talks i = (i < length talks) × ((t : Talk) → same_address from (slice_index_or talks i t).slave.address ≡ true)

-- none from this place on, before that one, has it
abbrev pub AreSilent : Address → (first end : ℕ) → List Talk → Type 0
AreSilent from first end talks = (k : ℕ) (t : Talk) → first ≤ k → k < end → same_address from (slice_index_or talks k t).slave.address ≡ false
