-- The requests of a phase: none was asked before the phase began, and so the row events of the phases before are done.
use Rattle.std.proofs.Common.{◌≡◌, ℕ, zero, suc, ◌≤◌, Bool, true, false, if◌then◌else◌, Option, Some, None, List, [], ◌∷◌, ◌++◌, refl, sym, ap, ◌∙◌, arith}
use Rattle.std.specs.Prelude.{◌&&◌, nat_lt, slice_get}
use Rattle.std.proofs.lemmas.Bool.{ltb-false}
use Rattle.dcp_ends.specs.declared.entries.LogEntry.{LogEntry}
use Rattle.master_spec.specs.declared.reports.Report.{Report}
use Rattle.master_spec.specs.declared.setups.Slave.{Slave}
use Rattle.master_spec.specs.declared.setups.Setup.{Setup}
use Rattle.master_spec.specs.Setup.{jobs_of}
use Rattle.master_spec.specs.Jobs.{Job}
use Rattle.master_spec.specs.Marks.{count, is_begun}
use Rattle.master_spec.specs.Requests.{Asking, asks, is_main, acked, phase_at, phase_reached, of_phase}
use Rattle.master_log_laws.specs.Asking.Legal.{AreLegal}
use Rattle.master_log_laws.specs.Index.Runs.{course_at, owed, IsRun}
use Rattle.master_log_laws.specs.Index.Index.{Placed, marks_of, askings_told, ReadBack}
use Rattle.master_log_laws.specs.Index.Follows.{mine}
use Rattle.master_log_laws.specs.Index.Laws.{AreHeard}
use Rattle.master_log_laws.proofs.Index.Laws.{listens}
use Rattle.master_log_laws.proofs.Index.Reported.{reported}
use Rattle.master_log_laws.proofs.Index.Runs.{followed, owes_count}
use Rattle.master_log_laws.proofs.Failures.Lasts.{reached_late}
use Rattle.master_log_laws.proofs.Phases.Numbered.{legal_below}
use Rattle.master_log_laws.proofs.Phases.Tags.{at_most, reached_at_most}
use Rattle.master_laws.proofs.Barrier.Standing.{goes_at}

-- a slave was asked no request of a later phase than the one that has begun
module _ (setup : Setup) (h : AreHeard setup) (i : ℕ) (slave : Slave) (is : slice_get setup.slaves i ≡ Some slave) (log : List LogEntry) (run : IsRun setup log) where
  abbrev js : List Job
  js = jobs_of setup slave

  of_marks : (xs : List Placed) → AreLegal setup.limits js (marks_of xs) → count is_begun (marks_of xs) ≡ (course_at setup log).phase → phase_reached js (askings_told xs) ≤ (course_at setup log).phase
  of_marks xs l e =
      let a = reached_at_most js (count is_begun (marks_of xs)) (askings_told xs) (at_most setup.limits js xs l) in
      omega (arith, a, e)

  pub reached_most : phase_reached js (asks setup.address slave log) ≤ (course_at setup log).phase
  reached_most = by (course_at setup log).report refl
    where
      by : (o : Option Report) → (course_at setup log).report ≡ o → phase_reached js (asks setup.address slave log) ≤ (course_at setup log).phase
      by None r =
          let k = followed setup (ReadBack slave.id) i slave (listens setup h i slave is) h.runs log run r in
          let g = goes_at setup h i slave is log k.marks k.here in
          let o = (k.tracks).owes in
          let n = sym (owes_count (ReadBack slave.id) slave.id (mine slave.address (owed setup log)) k.marks (marks_of k.xs) o) ∙ g.phase_is in
          let a = of_marks k.xs (legal_below setup.limits js (ReadBack slave.id) slave.id (mine slave.address (owed setup log)) k.marks (marks_of k.xs) o g.legal) n in
          let b = ap (phase_reached js) (k.tracks).is in
          omega (arith, a, b)
      by (Some report) r =
          let s = (reported setup (ReadBack slave.id) i slave (listens setup h i slave is) h.runs log run report r).0 in
          let g = goes_at setup h i slave is log (marks_of s.xs) s.here in
          let a = of_marks s.xs g.legal g.phase_is in
          let b = reached_late js s.until (asks setup.address slave log) (askings_told s.xs) s.late in
          omega (arith, a, b)

-- a request of a phase among all, where it stands; one of the spine is of that phase or of a later one
pub record IsOfPhase (js : List Job) (p : ℕ) (os : List Asking) (a : Asking) : Type 0 where
  pub front : List Asking
  pub rest : List Asking
  pub is : os ≡ front ++ a ∷ rest
  pub least : is_main a ≡ true → p ≤ phase_at js (acked rest)

pub of_phase_at : (js : List Job) (p : ℕ) (os : List Asking) (i : ℕ) (a : Asking) → slice_get (of_phase js p os) i ≡ Some a → IsOfPhase js p os a
of_phase_at js p [] i a e = absurd (none i e)
  where
    none : (i : ℕ) → slice_get [] i ≡ Some a → ⊥
    none zero z = cc
    none (suc i) z = cc
of_phase_at js p (b ∷ os) i a e = by (is_main b && nat_lt (phase_at js (acked os)) p) refl i e (λ n z. of_phase_at js p os n a z)
  where
    no_entry : (i : ℕ) → slice_get [] i ≡ Some a → ⊥
    no_entry zero z = cc
    no_entry (suc i) z = cc

    later : IsOfPhase js p os a → IsOfPhase js p (b ∷ os) a
    later k = record { front = b ∷ k.front; rest = k.rest; is = ap (λ (z : List Asking). b ∷ z) k.is; least = k.least }

    not_before : (t u : Bool) → (t && u) ≡ false → t ≡ true → u ≡ false
    not_before true u e z = e
    not_before false u e z = absurd cc

    here : b ≡ a → (is_main b && nat_lt (phase_at js (acked os)) p) ≡ false → IsOfPhase js p (b ∷ os) a
    here same f = record {
      front = [];
      rest = os;
      is = ap (λ (x : Asking). x ∷ os) same;
      least = λ m. ltb-false (phase_at js (acked os)) p (not_before (is_main b) (nat_lt (phase_at js (acked os)) p) f (ap is_main same ∙ m));
    }

    head_same : Some b ≡ Some a → b ≡ a
    head_same z = cc

    by : (t : Bool) → (is_main b && nat_lt (phase_at js (acked os)) p) ≡ t → (i : ℕ) → slice_get (if t then [] else b ∷ of_phase js p os) i ≡ Some a → ((n : ℕ) → slice_get (of_phase js p os) n ≡ Some a → IsOfPhase js p os a) → IsOfPhase js p (b ∷ os) a
    by true f i z k = absurd (no_entry i z)
    by false f zero z k = here (head_same z) f
    by false f (suc n) z k = later (k n z)
