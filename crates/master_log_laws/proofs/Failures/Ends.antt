-- Where a conversation ended.
use Rattle.std.proofs.Common.{◌≡◌, ℕ, ◌≤◌, ◌⊎◌, inl, inr, Option, Some, None, List, [], ◌∷◌, refl, sym, ◌∙◌, subst, arith}
use Rattle.dcp_types.specs.declared.limits.Limits.{Limits}
use Rattle.dcp_ends.specs.declared.entries.LogEntry.{LogEntry}
use Rattle.master_spec.specs.declared.causes.Cause.{Cause}
use Rattle.master_spec.specs.declared.causes.Verdict.TheVariants as verdicts
use Rattle.master_spec.specs.declared.requests.Request.{Request}
use Rattle.master_spec.specs.declared.reactions.Reaction.{Reaction}
use Rattle.master_spec.specs.declared.reactions.Reaction.TheVariants.{Wait, Ask, Repeat, GiveUp}
use Rattle.master_spec.specs.declared.setups.Slave.{Slave}
use Rattle.master_spec.specs.declared.setups.Setup.{Setup}
use Rattle.master_spec.specs.Jobs.{Job}
use Rattle.master_spec.specs.Marks.{Mark, Begun, Asked, Again, Answered, Hinted, Brought, Turned, Ended, count, is_begun, job_of, cause_of, verdict_of}
use Rattle.master_spec.specs.Conversation.{reaction}
use Rattle.master_log_laws.specs.Asking.Legal.{Does, AreLegal}
use Rattle.master_log_laws.proofs.Asking.Legal.{own_rests}
use Rattle.master_log_laws.specs.Index.Index.{Placed, at, marks_of, decided_at, askings_told}
use Rattle.master_log_laws.specs.Index.Late.{AreLate}
use Rattle.master_log_laws.specs.Index.Dates.{next_place, IsDated, AreDated, IsBroughtAt}
use Rattle.master_log_laws.proofs.Index.Events.{acts}
use Rattle.master_log_laws.proofs.Index.Late.{late_refl, late_trans, late_decided}
use Rattle.master_log_laws.proofs.Phases.Tags.{verdict_passed}
use Rattle.master_log_laws.proofs.Phases.Someone.{no_cause}

-- what was done when it had not ended
pub does_none : (limits : Limits) (marks : List Mark) (r : Reaction) → Does limits marks r → (r ≡ Wait → ⊥) → cause_of marks ≡ None
does_none limits [] r d n = refl
does_none limits (m ∷ ms) r d n = by m d (acts limits m ms (λ z. n (sym d ∙ z)))
  where
    by : (m : Mark) → reaction limits m ms ≡ r → cause_of ms ≡ None → cause_of (m ∷ ms) ≡ None
    by (Begun j) h e = e
    by (Asked q) h e = e
    by Again h e = e
    by (Answered q a) h e = e
    by Hinted h e = e
    by (Brought i p) h e = e
    by (Turned t) h e = e
    by (Ended cause) h e = absurd (n (sym h ∙ own_rests limits (Ended cause) ms tt))

-- the marks up to what made it end, and what came since
pub record Finds (setup : Setup) (slave : Slave) (log : List LogEntry) (limits : Limits) (js : List Job) (cause : Cause) (xs : List Placed) : Type 0 where
  pub ys : List Placed
  pub legal : AreLegal limits js (marks_of ys)
  pub gives : Does limits (marks_of ys) (GiveUp cause)
  pub dates : AreDated setup slave log ys
  pub phase : count is_begun (marks_of xs) ≡ count is_begun (marks_of ys)
  pub next : next_place ys ≤ next_place xs
  pub late : AreLate (next_place ys) (askings_told xs) (askings_told ys)
  pub brought : (number i : ℕ) → IsBroughtAt number i xs → IsBroughtAt number i ys ⊎ (next_place ys ≤ i)

some_cause : (a b : Cause) → Some a ≡ Some b → a ≡ b
some_cause a b z = cc

none_some : (c : Cause) (o : Option Cause) → o ≡ None → o ≡ Some c → ⊥
none_some c o e f = let z : None ≡ Some c = sym e ∙ f in cc

pub find_end : (setup : Setup) (slave : Slave) (log : List LogEntry) (limits : Limits) (js : List Job) (cause : Cause) (xs : List Placed) → AreLegal limits js (marks_of xs) → AreDated setup slave log xs → cause_of (marks_of xs) ≡ Some cause → Finds setup slave log limits js cause xs
find_end setup slave log limits js cause [] l d e = absurd (none_some cause None refl e)
find_end setup slave log limits js cause (x ∷ xs) l d e = by x.mark l d.0 e (λ z. find_end setup slave log limits js cause xs l.1 d.1 z)
  where
    off : (r : Reaction) → Does limits (marks_of xs) r → (r ≡ Wait → ⊥) → cause_of (marks_of xs) ≡ Some cause → ⊥
    off r k n z = none_some cause (cause_of (marks_of xs)) (does_none limits (marks_of xs) r k n) z

    begun_off : (job_of (marks_of xs) ≡ None) ⊎ (verdict_of (marks_of xs) ≡ verdicts.Passed) → cause_of (marks_of xs) ≡ Some cause → ⊥
    begun_off (inl j) z = none_some cause (cause_of (marks_of xs)) (no_cause limits js (marks_of xs) l.1 j) z
    begun_off (inr v) z = none_some cause (cause_of (marks_of xs)) ((verdict_passed (marks_of xs) v).cause_is) z

    not_ask : (r : Request) → Ask r ≡ Wait → ⊥
    not_ask r z = cc

    not_repeat : Repeat ≡ Wait → ⊥
    not_repeat z = cc

    by : (m : Mark) → AreLegal limits js (m ∷ marks_of xs) → IsDated setup slave log x.place m xs → cause_of (m ∷ marks_of xs) ≡ Some cause → (cause_of (marks_of xs) ≡ Some cause → Finds setup slave log limits js cause xs)
        → Finds setup slave log limits js cause (at x.place m ∷ xs)
    by (Ended c) k w z f =
        let P : Cause → Type 0 = λ y. Does limits (marks_of xs) (GiveUp y) in
        record {
          ys = xs;
          legal = k.1;
          gives = subst P (some_cause c cause z) k.0;
          dates = d.1;
          phase = refl;
          next = omega arith;
          late = late_refl (next_place xs) (askings_told xs);
          brought = λ number i b. one number i b;
        }
      where
        one : (number i : ℕ) → IsBroughtAt number i (at x.place (Ended c) ∷ xs) → IsBroughtAt number i xs ⊎ (next_place xs ≤ i)
        one number i (inl b) = let y : Ended c ≡ Brought number (b.1).0 = (b.1).1 in absurd cc
        one number i (inr b) = inl b
    by (Begun j) k w z f = absurd (begun_off ((k.0).1).passed z)
    by (Asked r) k w z f = absurd (off (Ask r) k.0 (not_ask r) z)
    by Again k w z f = absurd (off Repeat k.0 not_repeat z)
    by (Answered r a) k w z f =
        let g = f z in
        let n = g.next in
        let h = w.later in
        record {
          ys = g.ys;
          legal = g.legal;
          gives = g.gives;
          dates = g.dates;
          phase = g.phase;
          next = omega (arith, n, h);
          late = late_trans (next_place g.ys) (decided_at x.place a (askings_told xs)) (askings_told xs) (askings_told g.ys) (late_decided (next_place g.ys) x.place a (askings_told xs) (omega (arith, n, h))) g.late;
          brought = λ number i b. one number i g b;
        }
      where
        one : (number i : ℕ) → (g : Finds setup slave log limits js cause xs) → IsBroughtAt number i (at x.place (Answered r a) ∷ xs) → IsBroughtAt number i g.ys ⊎ (next_place g.ys ≤ i)
        one number i g (inl b) = let y : Answered r a ≡ Brought number (b.1).0 = (b.1).1 in absurd cc
        one number i g (inr b) = g.brought number i b
    by Hinted k w z f =
        let g = f z in
        let n = g.next in
        let h = w.later in
        record { ys = g.ys; legal = g.legal; gives = g.gives; dates = g.dates; phase = g.phase; next = omega (arith, n, h); late = g.late; brought = λ number i b. one number i g b }
      where
        one : (number i : ℕ) → (g : Finds setup slave log limits js cause xs) → IsBroughtAt number i (at x.place Hinted ∷ xs) → IsBroughtAt number i g.ys ⊎ (next_place g.ys ≤ i)
        one number i g (inl b) = let y : Hinted ≡ Brought number (b.1).0 = (b.1).1 in absurd cc
        one number i g (inr b) = g.brought number i b
    by (Brought q p) k w z f =
        let g = f z in
        let n = g.next in
        let h = w.later in
        record { ys = g.ys; legal = g.legal; gives = g.gives; dates = g.dates; phase = g.phase; next = omega (arith, n, h); late = g.late; brought = λ number i b. one number i g h b }
      where
        one : (number i : ℕ) → (g : Finds setup slave log limits js cause xs) → next_place xs ≤ x.place → IsBroughtAt number i (at x.place (Brought q p) ∷ xs) → IsBroughtAt number i g.ys ⊎ (next_place g.ys ≤ i)
        one number i g h (inl b) = let n = g.next in let y : x.place ≡ i = b.0 in inr (omega (arith, n, h, y))
        one number i g h (inr b) = g.brought number i b
    by (Turned t) k w z f =
        let g = f z in
        let n = g.next in
        let h = w.later in
        record { ys = g.ys; legal = g.legal; gives = g.gives; dates = g.dates; phase = g.phase; next = omega (arith, n, h); late = g.late; brought = λ number i b. one number i g b }
      where
        one : (number i : ℕ) → (g : Finds setup slave log limits js cause xs) → IsBroughtAt number i (at x.place (Turned t) ∷ xs) → IsBroughtAt number i g.ys ⊎ (next_place g.ys ≤ i)
        one number i g (inl b) = let y : Turned t ≡ Brought number (b.1).0 = (b.1).1 in absurd cc
        one number i g (inr b) = g.brought number i b
