-- Calls of the standard library that are made again where they were interrupted, and what we make of the last of them.
use Rattle.std.specs.Prelude.{◌≡◌, ℕ, zero, suc, ◌+◌, ◌<◌, List, Option, Result}
use Rattle.std.specs.Io.{ReadsAtMost, WritesAtMost}
use Rattle.std.specs.Io.KnownBytes.{ReadConsumes, WriteAppends}
use Rattle.std.specs.declared.io.Error.{Error}
use Rattle.dcp_io.specs.Turns.{Means}
use Rattle.dcp_io.specs.Faults.{one_more}
use Rattle.dcp_io.specs.declared.turns.Turn.{Turn}
use Rattle.dcp_io.specs.declared.turns.Turn.TheVariants as turn
use Rattle.dcp_io.specs.declared.reads.Read.{Read}
use Rattle.dcp_io.specs.declared.reads.Read.TheVariants as read
use Rattle.dcp_io.specs.declared.writes.Written.{Written}
use Rattle.dcp_io.specs.declared.writes.Written.TheVariants as written

-- how many calls are made at most before an interruption is a fault
abbrev pub most_tries : ℕ
most_tries = 1000

-- a call may answer so, and leave the second state where it found the first
module _ {S : Type 0} (answers : S → Result ℕ Error → S → Type 0) where
  -- so many calls in a row, each of which was interrupted
  abbrev pub AllAgain : ℕ → S → S → Type 0
  AllAgain zero old new = new ≡ old
  AllAgain (suc n) old new = (mid : S) × (called : Result ℕ Error) × AllAgain n old mid × answers mid called new × Means turn.Again called

  -- the last call came to this; those before it were interrupted, and it was itself only where no more may be made
  abbrev pub Tried : S → S → Turn → Type 0
  Tried old new last = (n : ℕ) × (mid : S) × (called : Result ℕ Error) × (n < most_tries) × AllAgain n old mid × answers mid called new
      × Means last called × (last ≡ turn.Again → n + 1 ≡ most_tries)

-- what a reader of the standard library may answer, by the bytes that it tells: the state is the reader and the room
abbrev pub ReaderAnswers : {S : Type 0} → (S → Option (List ℕ)) → S × List ℕ → Result ℕ Error → S × List ℕ → Type 0
ReaderAnswers remaining old called new = ReadsAtMost called new.1 × ReadConsumes (remaining old.0) (remaining new.0) called new.1

-- what a writer of the standard library may answer to a piece, by the bytes that it tells
abbrev pub WriterAnswers : {S : Type 0} → (S → Option (List ℕ)) → List ℕ → S → Result ℕ Error → S → Type 0
WriterAnswers contents piece old called new = WritesAtMost called piece × WriteAppends (contents old) (contents new) called piece

-- what our read did, by what the last call came to: one that is still interrupted has failed
abbrev pub read_from : Turn → Read
read_from (turn.Moved n) = read.Bytes n
read_from turn.Nothing = read.End
read_from turn.Again = read.Failed
read_from turn.Failed = read.Failed

-- what our write did, by what the last call came to: a device that takes nothing has failed
abbrev pub written_from : Turn → Written
written_from (turn.Moved n) = written.Wrote n
written_from turn.Nothing = written.Failed
written_from turn.Again = written.Failed
written_from turn.Failed = written.Failed

-- the count after a read: one more where it failed
abbrev pub faults_of_read : Read → ℕ → ℕ
faults_of_read (read.Bytes n) faults = faults
faults_of_read read.End faults = faults
faults_of_read read.Failed faults = one_more faults

-- the count after a write: one more where it failed
abbrev pub faults_of_write : Written → ℕ → ℕ
faults_of_write (written.Wrote n) faults = faults
faults_of_write written.Failed faults = one_more faults
