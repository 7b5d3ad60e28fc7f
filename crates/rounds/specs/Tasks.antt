-- What contracts see of a task: its end, the datagram in its inbox, and the source that wakes it.
use Rattle.std.specs.Prelude.{ℕ, List, Bool, true, false, Option}
use Rattle.dcp_types.specs.declared.addresses.Address.{Address}
use Rattle.futures.specs.declared.task.Poll.{Poll}
use Rattle.futures.specs.declared.task.Poll.TheVariants.{Ready, Pending}

-- a datagram: who sent it, and its bytes
pub record Mail : Type 0 where
  pub from : Address
  pub bytes : List ℕ

pub record PolledTask (E : Type 0) : Type 0 where
  pub end : E
  pub mail : Option Mail
  pub source : ℕ

-- a poll found its task done
abbrev pub is_ready : {A : Type 0} → Poll A → Bool
is_ready (Ready x) = true
is_ready Pending = false
