-- A text that is put piece by piece.
use Rattle.std.proofs.Common.{◌≡◌, ℕ, Bool, true, false, List, [], ◌++◌, Option, refl, sym, ap, ◌∙◌, subst, append_assoc}
use Rattle.std.proofs.lemmas.List.{append-nil}
use Rattle.std.specs.Io.KnownBytes.{Appends}
use Rattle.dcp_io.specs.Faults.{Rose}
use Rattle.dcp_io.specs.declared.outputs.Delivery.TheVariants.{Whole, Cut}
use Rattle.dcp_io.specs.Outputs.{Delivers}
use Rattle.dcp_io.specs.Spools.{Spooled, SpooledIf}
use Rattle.dcp_io.specs.Unwritten.{Unwritten}
use Rattle.dcp_io.proofs.Pieces.{nothing_added, then_added}

-- what waited was written
pub flushed_whole : (old last new : Option (List ℕ)) (before at now : ℕ) (text waits : List ℕ) → SpooledIf old last before at false text waits
    → Delivers last new at now waits Whole → SpooledIf old new before now false text []
flushed_whole old last new before at now text waits spooled delivered =
    (text, sym (append-nil text), subst (Appends old new) (sym spooled.1) (then_added old last new spooled.0 waits spooled.2 delivered.0), delivered.1 ∙ spooled.3)

-- a front of what waited was written
pub flushed_cut : (old last new : Option (List ℕ)) (before at now : ℕ) (text waits : List ℕ) → SpooledIf old last before at false text waits
    → Delivers last new at now waits Cut → SpooledIf old new before now true text []
flushed_cut old last new before at now text waits spooled cut = (
  spooled.0 ++ cut.0,
  cut.1,
  spooled.1 ∙ ap (λ l. spooled.0 ++ l) cut.2 ∙ sym (append_assoc spooled.0 cut.0 cut.1),
  then_added old last new spooled.0 cut.0 spooled.2 cut.3,
  subst (λ b. Rose b now) spooled.3 cut.4,
)

-- a piece waits behind what waits
pub put_behind : (failed : Bool) (old new : Option (List ℕ)) (before now : ℕ) (text waits piece : List ℕ) → SpooledIf old new before now failed text waits → SpooledIf old new before now failed (text ++ piece) (waits ++ piece)
put_behind false old new before now text waits piece spooled =
    (spooled.0, ap (λ l. l ++ piece) spooled.1 ∙ append_assoc spooled.0 waits piece, spooled.2, spooled.3)
put_behind true old new before now text waits piece spooled =
    (spooled.0, spooled.1 ++ piece, ap (λ l. l ++ piece) spooled.2 ∙ append_assoc spooled.0 spooled.1 piece, spooled.3, spooled.4)

-- nothing was put yet
pub begun : (old : Option (List ℕ)) (before : ℕ) (spool : Unwritten) → spool ≡ record { waits = []; failed = false } → Spooled old old before before [] spool
begun old before spool fresh =
    let P : Unwritten → Type 0 = λ s. Spooled old old before before [] s in
    subst P (sym fresh) ([], refl, nothing_added old, refl)
