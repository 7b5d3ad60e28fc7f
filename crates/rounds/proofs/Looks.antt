-- Looks and turns, as parts of a log.
use Rattle.std.proofs.Common.{◌≡◌, ℕ, ◌+◌, ◌<◌, List, [], ◌∷◌, ◌++◌, true, false, Option, refl, ap, sym, ◌⊎◌, inl, inr, arith, add-one}
use Rattle.std.proofs.lemmas.List.{append-nil}
use Rattle.dcp_types.specs.declared.addresses.Address.{Address}
use Rattle.dcp_ends.specs.declared.entries.LogEntry.{LogEntry}
use Rattle.dcp_ends.specs.declared.entries.LogEntry.TheVariants.{Turn}
use Rattle.dcp_ends.specs.Events.{Send}
use Rattle.dcp_ends.specs.Logs.{sent_by}
use Rattle.rounds.specs.Rounds.{Gots, IsGot, IsGotPart, IsLook, IsLookPart, IsTurn, IsTurnPart}
use Rattle.rounds.specs.Steps.{Added, SendsSome, LookForm, AddsPart}
use Rattle.rounds.proofs.Parts.{Added-join, Added-nil, told_more-nil}
use Rattle.rounds.proofs.Logs.{AllSent-sent_by}

module _ {N : Type 0} (calls : N → Option (List LogEntry)) (p : Address) where
  pub GotsSoFar-none : (a : N) (l : List LogEntry) → AddsPart calls (Gots p 0) a a l l
  GotsSoFar-none a l = record { part = []; form = refl; added = Added-nil calls a l }

  Gots-more : (count : ℕ) (before last : List LogEntry) → Gots p count before → IsGot p last → Gots p (count + 1) (before ++ last)
  Gots-more count before last gots got = rw add-one (before, last, refl, gots, got)

  module _ (a b c : N) (l m n : List LogEntry) (count : ℕ) (so_far : AddsPart calls (Gots p count) a b l m) where
    pub GotsSoFar-more : AddsPart calls (LookForm p true) b c m n → AddsPart calls (Gots p (count + 1)) a c l n
    GotsSoFar-more once = record {
      part = so_far.part ++ once.part;
      form = Gots-more count so_far.part once.part so_far.form once.form;
      added = Added-join calls a b c l m n so_far.part once.part so_far.added once.added;
    }

    pub Looked-idle : count < 64 → AddsPart calls (LookForm p false) b c m n → AddsPart calls (IsLook p) a c l n
    Looked-idle few once = record {
      part = so_far.part ++ once.part;
      form = record { count = count; gots = so_far.part; form = so_far.form; most = omega arith; full = λ e. absurd (omega arith); idle = λ _. ap (λ last. so_far.part ++ last) once.form };
      added = Added-join calls a b c l m n so_far.part once.part so_far.added once.added;
    }

    stopped : count < 64 → (once : AddsPart calls (IsGotPart p) b c m n) → (once.part ≡ []) ⊎ IsGot p once.part → AddsPart calls (IsLookPart p) a c l n
    stopped few once (inl none) = record {
      part = so_far.part;
      form = (count, omega arith, so_far.form);
      added = rw append-nil at (rw none at (Added-join calls a b c l m n so_far.part once.part so_far.added once.added));
    }
    stopped few once (inr got) = record {
      part = so_far.part ++ once.part;
      form = (count + 1, omega arith, Gots-more count so_far.part once.part so_far.form got);
      added = Added-join calls a b c l m n so_far.part once.part so_far.added once.added;
    }

    pub LookPart-stopped : count < 64 → AddsPart calls (IsGotPart p) b c m n → AddsPart calls (IsLookPart p) a c l n
    LookPart-stopped few once = stopped few once once.form

  pub Looked-full : (a b : N) (l m : List LogEntry) (count : ℕ) → count ≡ 64 → AddsPart calls (Gots p count) a b l m → AddsPart calls (IsLook p) a b l m
  Looked-full a b l m count all so_far = record {
    part = so_far.part;
    form = record { count = count; gots = so_far.part; form = so_far.form; most = omega arith; full = λ _. refl; idle = λ few. absurd (omega arith) };
    added = so_far.added;
  }

  -- a turn is no call of the net
  pub Added-turn : (a : N) (l m : List LogEntry) → m ≡ l ++ Turn p ∷ [] → Added calls a a l m (Turn p ∷ [])
  Added-turn a l m log = record { log = log; told = sym (told_more-nil (calls a)) }

  module _ (a b c : N) (l m n : List LogEntry) (sends : List Send) (started : Added calls a b l m (Turn p ∷ [])) where
    pub Turned-all : Added calls b c m n (sent_by p sends) → AddsPart calls (IsTurn p) a c l n
    Turned-all sent = record {
      part = Turn p ∷ sent_by p sends;
      form = record { sents = sent_by p sends; form = refl; own = AllSent-sent_by p sends };
      added = Added-join calls a b c l m n (Turn p ∷ []) (sent_by p sends) started sent;
    }

    pub TurnStopped-some : SendsSome calls p sends b c m n → AddsPart calls (IsTurnPart p) a c l n
    TurnStopped-some some = record {
      part = Turn p ∷ sent_by p some.gone;
      form = inr (record { sents = sent_by p some.gone; form = refl; own = AllSent-sent_by p some.gone });
      added = Added-join calls a b c l m n (Turn p ∷ []) (sent_by p some.gone) started some.added;
    }
