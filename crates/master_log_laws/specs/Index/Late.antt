-- The requests that a log tells once the conversation has ended: they are the same, but an answer to the newest may still come.
use Rattle.std.specs.Prelude.{◌≡◌, ℕ, ◌≤◌, ◌⊎◌, Some, List, [], ◌∷◌, slice_get}
use Rattle.master_spec.specs.declared.causes.Cause.{Cause}
use Rattle.master_spec.specs.declared.setups.Slave.{Slave}
use Rattle.master_spec.specs.declared.setups.Setup.{Setup}
use Rattle.master_spec.specs.Marks.{cause_of}
use Rattle.master_spec.specs.Course.{Course}
use Rattle.master_spec.specs.Requests.{Asking, Decision}
use Rattle.dcp_ends.specs.declared.entries.LogEntry.{LogEntry}
use Rattle.master_log_laws.specs.Index.Dates.{Dated}
use Rattle.master_log_laws.specs.Index.Index.{Placed, marks_of, askings_told, IsHeadOf, Shut}
use Rattle.master_log_laws.specs.Index.Follows.{talk_with}

-- the same request, but that an answer may have come to it at this place or later
pub record IsLate (since : ℕ) (a b : Asking) : Type 0 where
  pub code : a.code ≡ b.code
  pub number : a.number ≡ b.number
  pub more : a.more ≡ b.more
  pub first : a.first ≡ b.first
  pub repeats : a.repeats ≡ b.repeats
  pub kept : (d : Decision) → b.decision ≡ Some d → a.decision ≡ Some d
  pub come : (d : Decision) → a.decision ≡ Some d → (b.decision ≡ Some d) ⊎ (since ≤ d.place)

abbrev pub AreLate : ℕ → List Asking → List Asking → Type 0
AreLate since [] [] = Unit {0}
AreLate since [] (b ∷ bs) = ⊥
AreLate since (a ∷ az) [] = ⊥
AreLate since (a ∷ az) (b ∷ bs) = IsLate since a b × (az ≡ bs)

-- once there is a report, at any later moment
pub record StandsByLog (setup : Setup) (i : ℕ) (slave : Slave) (log : List LogEntry) (c : Course) (bs : List Asking) : Type 0 where
  pub xs : List Placed
  pub here : slice_get c.talks i ≡ Some (talk_with slave (marks_of xs))
  pub head : IsHeadOf (marks_of xs) (askings_told xs)
  pub shut : (cause : Cause) → cause_of (marks_of xs) ≡ Some cause → Shut setup.limits cause xs
  pub until : ℕ
  pub late : AreLate until bs (askings_told xs)
  pub dated : Dated setup slave log until xs
