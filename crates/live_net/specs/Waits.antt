-- What a wait for sockets tells.
use Rattle.std.specs.Prelude.{ℕ, ◌^◌, ◌-◌, ◌*◌, Option, Some, None, nat_eq, if◌then◌else◌}

-- a wait: how many calls of it answered Ready, up to the last value of their count, and how many failed
pub record Waiting : Type 0 where
  pub waits : ℕ
  pub faults : ℕ

-- a count of waits is told until it stands at its last value
abbrev pub told_waits : ℕ → Option ℕ
told_waits count = if nat_eq count (2 ^ 64 - 1) then None else Some count

-- the longest wait in nanoseconds: 10 milliseconds
abbrev pub longest_nanos : ℕ
longest_nanos = 10 * 1000000
