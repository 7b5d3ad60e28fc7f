-- What the result of a read or a write of a stream that does not wait means.
use Rattle.std.specs.Prelude.{◌≡◌, ◌⊎◌, ℕ, ◌≤◌, Result, Ok, Err, Bool, true, false}
use Rattle.std.specs.IoError.{error_kind}
use Rattle.std.specs.declared.io.Error.{Error}
use Rattle.std.specs.declared.io.ErrorKind.TheVariants.{Interrupted, WouldBlock}
use Rattle.dcp_io.specs.Faults.{one_more}
use Rattle.dcp_io.specs.declared.reads.Read.{Read}
use Rattle.dcp_io.specs.declared.reads.Read.TheVariants as read
use Rattle.dcp_io.specs.declared.writes.Written.{Written}
use Rattle.dcp_io.specs.declared.writes.Written.TheVariants as written
use Rattle.live_net.specs.declared.motions.Motion.{Motion}
use Rattle.live_net.specs.declared.motions.Motion.TheVariants.{Moved, Ended, Later, Broken}

-- the call would wait, or was interrupted
abbrev pub IsLater : Error → Type 0
IsLater error = (error_kind error ≡ WouldBlock) ⊎ (error_kind error ≡ Interrupted)

-- each motion stands for these results and no others
abbrev pub MeansMotion : Motion → Result ℕ Error → Type 0
MeansMotion (Moved n) called = (called ≡ Ok n) × (1 ≤ n)
MeansMotion Ended called = called ≡ Ok 0
MeansMotion Later called = (error : Error) × (called ≡ Err error) × IsLater error
MeansMotion Broken called = (error : Error) × (called ≡ Err error) × ¬ (IsLater error)

-- no byte will be moved after it
abbrev pub is_last_motion : Motion → Bool
is_last_motion (Moved n) = false
is_last_motion Ended = true
is_last_motion Later = false
is_last_motion Broken = true

-- what a read is that came to this: the end of a stream is no failure
abbrev pub read_as : Motion → Read
read_as (Moved n) = read.Bytes n
read_as Ended = read.End
read_as Later = read.Failed
read_as Broken = read.Failed

-- what a write is that came to this
abbrev pub written_as : Motion → Written
written_as (Moved n) = written.Wrote n
written_as Ended = written.Failed
written_as Later = written.Failed
written_as Broken = written.Failed

-- how often a stream has failed after a read and after a write
abbrev pub faults_read : ℕ → Read → ℕ
faults_read before (read.Bytes n) = before
faults_read before read.End = before
faults_read before read.Failed = one_more before

abbrev pub faults_written : ℕ → Written → ℕ
faults_written before (written.Wrote n) = before
faults_written before written.Failed = one_more before
