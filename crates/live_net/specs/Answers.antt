-- What the answers of the system mean.
use Rattle.std.specs.Prelude.{◌≡◌, ℕ, Bool, true, false, Some, None, Result, Ok, Err, MatchResult}
use Rattle.std.specs.IoError.{raw_os_error}
use Rattle.std.specs.declared.io.Error.{Error}
use Rattle.std.specs.declared.net.socket_addr.SocketAddr.{SocketAddr}
use Rattle.dcp_net.specs.declared.nets.Done.{Done}
use Rattle.dcp_net.specs.declared.nets.Done.TheVariants as done
use Rattle.dcp_net.specs.declared.nets.Taken.{Taken}
use Rattle.dcp_net.specs.declared.nets.Taken.TheVariants as taken
use Rattle.dcp_net.specs.declared.waits.Waited.{Waited}
use Rattle.dcp_net.specs.declared.waits.Waited.TheVariants as waited
use Rattle.live_net.specs.declared.refusals.Refused.{Refused}
use Rattle.live_net.specs.declared.refusals.Refused.TheVariants.{System, OutOfMemory}
use Rattle.live_net.specs.Addresses.{address_in}
use Rattle.live_net.specs.Failures.{IsOwn}

-- the own socket failed
abbrev pub FailsOwn : {A : Type 0} → Result A Error → Type 0
FailsOwn (Ok x) = ⊥
FailsOwn (Err error) = IsOwn (raw_os_error error)

-- a send fails exactly where the own socket does; what is refused, and what would wait, is lost
abbrev pub MeansSent : Done → Result ℕ Error → Type 0
MeansSent done.Ok answer = ¬ FailsOwn answer
MeansSent done.Failed answer = FailsOwn answer
MeansSent done.OutOfMemory answer = ⊥

-- a take gives all the bytes that the system gave, and their sender; it fails exactly where the own socket does
abbrev pub MeansTaken : Taken → Result (ℕ × SocketAddr) Error → Type 0
MeansTaken taken.Nothing answer = MatchResult answer (λ gram. address_in gram.1 ≡ None) (λ error. ¬ IsOwn (raw_os_error error))
MeansTaken (taken.Gram from len) answer = MatchResult answer (λ gram. (len ≡ gram.0) × (address_in gram.1 ≡ Some from)) (λ error. ⊥)
MeansTaken taken.Failed answer = FailsOwn answer
MeansTaken taken.OutOfMemory answer = ⊥

-- a wait fails exactly where the system's does
abbrev pub means_ready : Waited → Bool
means_ready waited.Ready = true
means_ready waited.Failed = false

-- what it means for a network that its sockets were opened, or why they were not
abbrev pub begun_as : {A : Type 0} → Result A Refused → Done
begun_as (Ok x) = done.Ok
begun_as (Err System) = done.Failed
begun_as (Err OutOfMemory) = done.OutOfMemory
