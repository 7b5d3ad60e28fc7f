-- Calls that were interrupted moved nothing, and the last call moved what it answered.
use Rattle.std.proofs.Common.{◌≡◌, ℕ, ◌+◌, ◌<◌, List, [], ◌++◌, length, take, Option, Some, None, Result, refl, sym, ap, ◌∙◌, subst, arith}
use Rattle.std.proofs.lemmas.List.{append-nil}
use Rattle.std.proofs.KnownBytes.{Keeps-refl, Keeps-trans}
use Rattle.std.specs.Prelude.{zero, suc}
use Rattle.std.specs.Io.{ReadsAtMost, WritesAtMost}
use Rattle.std.specs.Io.KnownBytes.{Appends, Consumes, IsAtEnd, Keeps, ReadConsumes, WriteAppends}
use Rattle.dcp_io.specs.Calls.{ReadFits, ReadTakes, WriteAdds, WriteFits}
use Rattle.std.specs.declared.io.Error.{Error}
use Rattle.dcp_io.specs.Turns.{Means}
use Rattle.dcp_io.specs.Tries.{AllAgain, ReaderAnswers, Tried, WriterAnswers, read_from, written_from}
use Rattle.dcp_io.specs.declared.turns.Turn.{Turn}
use Rattle.dcp_io.specs.declared.turns.Turn.TheVariants.{Moved, Nothing, Again, Failed}

then_consumed : (a b c : Option (List ℕ)) (bs : List ℕ) → Keeps a b → Consumes b c bs → Consumes a c bs
then_consumed None b c bs p q = tt
then_consumed (Some x) None c bs p q = absurd p
then_consumed (Some x) (Some y) None bs p q = absurd q
then_consumed (Some x) (Some y) (Some z) bs p q = sym p ∙ q

then_appended : (a b c : Option (List ℕ)) (bs : List ℕ) → Keeps a b → Appends b c bs → Appends a c bs
then_appended None b c bs p q = tt
then_appended (Some x) None c bs p q = absurd p
then_appended (Some x) (Some y) None bs p q = absurd q
then_appended (Some x) (Some y) (Some z) bs p q = q ∙ ap (λ l. l ++ bs) p

at_end : (a b : Option (List ℕ)) → Consumes a b [] → IsAtEnd b → IsAtEnd a × Keeps a b
at_end None b p q = (tt, tt)
at_end (Some x) None p q = absurd p
at_end (Some x) (Some y) p q = (p ∙ q, sym p)

nothing_kept : (a b : Option (List ℕ)) → Appends a b [] → Keeps a b
nothing_kept None b p = tt
nothing_kept (Some x) None p = absurd p
nothing_kept (Some x) (Some y) p = p ∙ append-nil x

-- one more call was interrupted
pub once_more : {S : Type 0} (answers : S → Result ℕ Error → S → Type 0) (n : ℕ) (old mid new : S) (called : Result ℕ Error)
    → AllAgain answers n old mid → answers mid called new → Means Again called → AllAgain answers (n + 1) old new
once_more answers n old mid new called again answered means =
    let next : suc n ≡ n + 1 = omega arith in
    subst (λ k. AllAgain answers k old new) next (mid, called, again, answered, means)

module _ {S : Type 0} (remaining : S → Option (List ℕ)) where
  reads_kept : (n : ℕ) (old new : S × List ℕ) → AllAgain (ReaderAnswers remaining) n old new → Keeps (remaining old.0) (remaining new.0)
  reads_kept zero old new same = subst (λ s. Keeps (remaining old.0) (remaining s.0)) (sym same) (Keeps-refl (remaining old.0))
  reads_kept (suc n) old new (mid, called, again, answered, means) =
      Keeps-trans (remaining old.0) (remaining mid.0) (remaining new.0) (reads_kept n old mid again)
      (subst (λ r. ReadConsumes (remaining mid.0) (remaining new.0) r new.1) means.1 answered.1)

  pub reads_fit : (old new : S × List ℕ) (last : Turn) → Tried (ReaderAnswers remaining) old new last → ReadFits (read_from last) new.1
  reads_fit old new (Moved m) (n, mid, called, few, again, answered, means, gave_up) =
      (means.1, (subst (λ r. ReadsAtMost r new.1) means.0 answered.0).0)
  reads_fit old new Nothing tried = tt
  reads_fit old new Again tried = tt
  reads_fit old new Failed tried = tt

  pub reads_took : (old new : S × List ℕ) (last : Turn) → Tried (ReaderAnswers remaining) old new last → 0 < length new.1
      → ReadTakes (remaining old.0) (remaining new.0) (read_from last) new.1
  reads_took old new (Moved m) (n, mid, called, few, again, answered, means, gave_up) room =
      then_consumed (remaining old.0) (remaining mid.0) (remaining new.0) (take m new.1) (reads_kept n old mid again)
      (subst (λ r. ReadConsumes (remaining mid.0) (remaining new.0) r new.1) means.0 answered.1).0
  reads_took old new Nothing (n, mid, called, few, again, answered, means, gave_up) room =
      let ended = subst (λ r. ReadConsumes (remaining mid.0) (remaining new.0) r new.1) means answered.1 in
      at_end (remaining old.0) (remaining new.0)
      (then_consumed (remaining old.0) (remaining mid.0) (remaining new.0) [] (reads_kept n old mid again) ended.0)
      (ended.1 refl room)
  reads_took old new Again (n, mid, called, few, again, answered, means, gave_up) room =
      Keeps-trans (remaining old.0) (remaining mid.0) (remaining new.0) (reads_kept n old mid again)
      (subst (λ r. ReadConsumes (remaining mid.0) (remaining new.0) r new.1) means.1 answered.1)
  reads_took old new Failed (n, mid, called, few, again, answered, means, gave_up) room =
      Keeps-trans (remaining old.0) (remaining mid.0) (remaining new.0) (reads_kept n old mid again)
      (subst (λ r. ReadConsumes (remaining mid.0) (remaining new.0) r new.1) means.1 answered.1)

module _ {S : Type 0} (contents : S → Option (List ℕ)) (piece : List ℕ) where
  writes_kept : (n : ℕ) (old new : S) → AllAgain (WriterAnswers contents piece) n old new → Keeps (contents old) (contents new)
  writes_kept zero old new same = subst (λ s. Keeps (contents old) (contents s)) (sym same) (Keeps-refl (contents old))
  writes_kept (suc n) old new (mid, called, again, answered, means) =
      Keeps-trans (contents old) (contents mid) (contents new) (writes_kept n old mid again)
      (subst (λ r. WriteAppends (contents mid) (contents new) r piece) means.1 answered.1)

  pub writes_fit : (old new : S) (last : Turn) → Tried (WriterAnswers contents piece) old new last → WriteFits (written_from last) piece
  writes_fit old new (Moved m) (n, mid, called, few, again, answered, means, gave_up) =
      (means.1, subst (λ r. WritesAtMost r piece) means.0 answered.0)
  writes_fit old new Nothing tried = tt
  writes_fit old new Again tried = tt
  writes_fit old new Failed tried = tt

  pub writes_added : (old new : S) (last : Turn) → Tried (WriterAnswers contents piece) old new last
      → WriteAdds (contents old) (contents new) (written_from last) piece
  writes_added old new (Moved m) (n, mid, called, few, again, answered, means, gave_up) =
      then_appended (contents old) (contents mid) (contents new) (take m piece) (writes_kept n old mid again)
      (subst (λ r. WriteAppends (contents mid) (contents new) r piece) means.0 answered.1)
  writes_added old new Nothing (n, mid, called, few, again, answered, means, gave_up) =
      nothing_kept (contents old) (contents new)
      (then_appended (contents old) (contents mid) (contents new) [] (writes_kept n old mid again)
      (subst (λ r. WriteAppends (contents mid) (contents new) r piece) means answered.1))
  writes_added old new Again (n, mid, called, few, again, answered, means, gave_up) =
      Keeps-trans (contents old) (contents mid) (contents new) (writes_kept n old mid again)
      (subst (λ r. WriteAppends (contents mid) (contents new) r piece) means.1 answered.1)
  writes_added old new Failed (n, mid, called, few, again, answered, means, gave_up) =
      Keeps-trans (contents old) (contents mid) (contents new) (writes_kept n old mid again)
      (subst (λ r. WriteAppends (contents mid) (contents new) r piece) means.1 answered.1)
