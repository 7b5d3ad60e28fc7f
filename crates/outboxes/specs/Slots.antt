-- A message that is to be sent, as it is kept.
use Rattle.std.specs.Prelude.{ℕ, ◌≤◌, take}
use Rattle.dcp_ends.specs.Events.{Send}
use Rattle.outboxes.specs.declared.slots.Slot.{Slot}

abbrev pub send_in : Slot → Send
send_in s = record { to = s.to; bytes = take s.length s.bytes }

pub record IsFilled (s : Slot) : Type 0 where
  pub low : 1 ≤ s.length
  pub high : s.length ≤ 1024
