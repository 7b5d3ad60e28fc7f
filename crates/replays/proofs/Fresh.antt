-- Ends to which nothing has come.
use Rattle.std.proofs.Common.{List, [], ◌∷◌, ◌++◌, Option, None, Some, IfSome, refl}
use Rattle.std.proofs.lemmas.List.Elements.{All-append, All-cons, All-nil}
use Rattle.std.specs.List.{All}
use Rattle.dcp_ends.specs.declared.ends.End.{Ghosts}
use Rattle.replays.specs.Visits.{AreAt, IsNewEnd}

module _ {E : Type 0} (made : Ghosts E) where
  pub new_more : (ends : List E) (end : E) → All (IsNewEnd made) ends → IsNewEnd made end → All (IsNewEnd made) (ends ++ end ∷ [])
  new_more ends end all one = All-append (IsNewEnd made) ends (end ∷ []) all (All-cons (IsNewEnd made) end [] one (All-nil (IsNewEnd made)))

module _ {M S : Type 0} (first : Ghosts M) (end : Ghosts S) (slaves : List S) (fresh : All (λ s. IsNewEnd end s) slaves) where
  pub new_at : (master : Option M) → IfSome master (λ m. IsNewEnd first m) → AreAt first end master slaves []
  new_at None none = record {
    told_master = tt;
    told_slaves = λ k d lt. record { stands_for = (fresh k d lt).nothing; follows = refl };
    quiet_master = tt;
    quiet_slaves = λ k d lt. (fresh k d lt).quiet;
  }
  new_at (Some m) one = record {
    told_master = record { stands_for = one.nothing; follows = refl };
    told_slaves = λ k d lt. record { stands_for = (fresh k d lt).nothing; follows = refl };
    quiet_master = one.quiet;
    quiet_slaves = λ k d lt. (fresh k d lt).quiet;
  }
