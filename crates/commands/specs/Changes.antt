-- What happened to the objects of the program in a call.
use Rattle.std.specs.Prelude.{◌≡◌, ℕ, List, Option}
use Rattle.dcp_io.specs.Faults.{Rose}
use Rattle.commands.specs.SaysRun.{NetTold}

-- The bytes that it told before and tells now, where it tells them: what a source had left and has left, or what a sink held and holds. And its counts of faults before and now.
pub record RunChange : Type 0 where
  pub was : Option (List ℕ)
  pub is : Option (List ℕ)
  pub before : ℕ
  pub now : ℕ

abbrev pub HasFailed : RunChange → Type 0
HasFailed c = Rose c.before c.now

abbrev pub HasNotFailed : RunChange → Type 0
HasNotFailed c = c.now ≡ c.before

-- it was not used: what it told, where it did, it tells still, and none of its calls failed
abbrev pub IsUntouched : RunChange → Type 0
IsUntouched c = (c.is ≡ c.was) × HasNotFailed c

-- what the network tells now, and its counts of faults before and now
pub record NetChange : Type 0 where
  pub told : NetTold
  pub before : ℕ
  pub now : ℕ
