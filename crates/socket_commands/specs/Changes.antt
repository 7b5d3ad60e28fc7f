-- What happened to the network and to the waits in a call.
use Rattle.std.specs.Prelude.{ℕ, Option}
use Rattle.commands.specs.SaysRun.{NetTold}

-- What the network tells now. Its counts of faults before and now. The waits that answered Ready, where they are told, before and now. The counts of failed waits before and now.
pub record LiveChange : Type 0 where
  pub told : NetTold
  pub before : ℕ
  pub now : ℕ
  pub waits_before : Option ℕ
  pub waits_now : Option ℕ
  pub failed_before : ℕ
  pub failed_now : ℕ
