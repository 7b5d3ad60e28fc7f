-- The requests of a slave after the start of a run, and the n-th of a kind among them.
use Rattle.std.proofs.Common.{◌≡◌, ℕ, suc, ◌+◌, ◌-◌, ◌⊎◌, inl, inr, Bool, true, false, if◌then◌else◌, Some, List, [], ◌∷◌, ◌++◌, length, refl, sym, ap, ◌∙◌, subst, arith}
use Rattle.std.specs.Prelude.{◌==◌, slice_get, filter}
use Rattle.std.proofs.lemmas.List.{append_assoc}
use Rattle.std.proofs.lemmas.Bool.{eq-eqb}
use Rattle.dcp_ends.specs.declared.entries.LogEntry.{LogEntry}
use Rattle.master_spec.specs.declared.setups.Slave.{Slave}
use Rattle.master_spec.specs.declared.setups.Setup.{Setup}
use Rattle.master_spec.specs.Jobs.{Job}
use Rattle.master_spec.specs.Requests.{Asking, is_run, is_state_request}
use Rattle.master_spec.specs.Exchanged.{after_nth, nth_of}
use Rattle.master_log_laws.proofs.Finish.Lists.{Every, In, in_left, in_right, hits_off, after_over, nth_over, nth_here}
use Rattle.master_log_laws.proofs.Finish.Codes.{task_code, count_code, Kind, kind_of}
use Rattle.master_log_laws.proofs.Finish.Segments.{Single, Segment}
use Rattle.master_log_laws.proofs.Finish.Cuts.{Cuts, tries_off, questions_off, main_is, locate}

-- in_run of a slave: questions, and then the segments of the jobs after the start
pub record InRun (setup : Setup) (log : List LogEntry) (slave : Slave) (after : List Job) (base : ℕ) (az : List Asking) : Type 0 where
  pub questions : List Asking
  pub rest : List Asking
  pub is : az ≡ questions ++ rest
  pub asks : Every (λ a. is_state_request a ≡ false) questions
  pub cuts : Cuts setup log slave after base rest

-- the n-th of a kind: the one request of its job
pub record Nth (setup : Setup) (log : List LogEntry) (slave : Slave) (is : Asking → Bool) (job : Job) (q n : ℕ) (az : List Asking) : Type 0 where
  pub seg : List Asking
  pub segment : Segment setup log slave job q seg
  pub one : Single setup log job q seg
  pub nth : nth_of is n az ≡ Some one.main
  pub within : (a : Asking) → In a one.questions → In a az

module _ (setup : Setup) (log : List LogEntry) (slave : Slave) where
  single_shape : (job : Job) (q : ℕ) (seg : List Asking) (c : ℕ) → task_code job.task ≡ suc c → Segment setup log slave job q seg → Single setup log job q seg
  single_shape job q seg c e g = by g.shape
    where
      by : ((task_code job.task ≡ 0) × Every (λ a. is_state_request a ≡ false) seg) ⊎ Single setup log job q seg → Single setup log job q seg
      by (inl h) = let z : 0 ≡ suc c = sym h.0 ∙ e in absurd (omega (arith, z))
      by (inr s) = s

  self_code : (job : Job) (c : ℕ) → task_code job.task ≡ c → (task_code job.task == c) ≡ true
  self_code job c e = eq-eqb (task_code job.task) c e

  -- after the run request of a job
  pub started : (before after : List Job) (job : Job) (az : List Asking) → Cuts setup log slave (before ++ (job ∷ after)) 0 az → task_code job.task ≡ 6 → (r : ℕ) → r ≡ suc (count_code 6 before) → InRun setup log slave after (suc (length before)) (after_nth is_run r az)
  started before after job az k e r n =
      let base = suc (length before) in
      let g = locate setup log slave before job after 0 base az k (omega arith) in
      let s = single_shape job base g.seg 5 e g.segment in
      let run = kind_of 6 refl refl in
      let h = g.hits_are is_run 6 run refl in
      let t = hits_off is_run s.tries (tries_off setup log slave job base g.seg is_run 6 run s) in
      let parts : az ≡ g.older ++ (s.tries ++ (s.main ∷ (s.questions ++ g.rest))) =
      g.is ∙ ap (λ (z : List Asking). g.older ++ (z ++ g.rest)) s.is ∙ ap (λ (z : List Asking). g.older ++ z) (append_assoc s.tries (s.main ∷ s.questions) g.rest) in
      record {
        questions = s.questions;
        rest = g.rest;
        is = ap (λ (n : ℕ). after_nth is_run n az) n ∙ ap (after_nth is_run (suc (count_code 6 before))) parts
            ∙ after_over is_run g.older (s.tries ++ (s.main ∷ (s.questions ++ g.rest))) 0 (count_code 6 before) (omega (arith, h))
            ∙ after_over is_run s.tries (s.main ∷ (s.questions ++ g.rest)) 0 0 (omega (arith, t))
            ∙ ap (λ (b : Bool). if b then (s.questions ++ g.rest) else after_nth is_run 1 (s.questions ++ g.rest)) (main_is setup log slave job base g.seg is_run 6 run s ∙ self_code job 6 e);
        asks = s.asks;
        cuts = g.next;
      }

  -- the n-th of a kind after the start
  pub pick : (is : Asking → Bool) (c : ℕ) → (0 == suc c) ≡ false → Kind is (suc c) → (before after : List Job) (job : Job) (base q n : ℕ) (az : List Asking) → InRun setup log slave (before ++ (job ∷ after)) base az → task_code job.task ≡ suc c
      → q ≡ suc (length before + base) → n ≡ suc (count_code (suc c) before) → Nth setup log slave is job q n az
  pick is c zero_off kind before after job base q n az i e f k =
      let g = locate setup log slave before job after base q i.rest i.cuts f in
      let s = single_shape job q g.seg c e g.segment in
      let h = g.hits_are is (suc c) kind zero_off in
      let t = hits_off is s.tries (tries_off setup log slave job q g.seg is (suc c) kind s) in
      let u = hits_off is i.questions (questions_off setup log slave is (suc c) kind i.questions i.asks) in
      let later = s.main ∷ (s.questions ++ g.rest) in
      let whole : az ≡ i.questions ++ (g.older ++ (s.tries ++ later)) =
      i.is ∙ ap (λ (z : List Asking). i.questions ++ z) (g.is ∙ ap (λ (z : List Asking). g.older ++ (z ++ g.rest)) s.is ∙ ap (λ (z : List Asking). g.older ++ z) (append_assoc s.tries (s.main ∷ s.questions) g.rest)) in
      let m = count_code (suc c) before in
      record {
        seg = g.seg;
        segment = g.segment;
        one = s;
        nth = ap (λ (z : List Asking). slice_get (filter is z) (n - 1)) whole
            ∙ nth_over is i.questions (g.older ++ (s.tries ++ later)) m (n - 1) (omega (arith, u, k))
            ∙ nth_over is g.older (s.tries ++ later) 0 m (omega (arith, h))
            ∙ nth_over is s.tries later 0 0 (omega (arith, t))
            ∙ nth_here is s.main (s.questions ++ g.rest) (main_is setup log slave job q g.seg is (suc c) kind s ∙ self_code job (suc c) e);
        within = λ a w.
            let P : List Asking → Type 0 = λ z. In a z in
            subst P (sym whole) (in_right a i.questions (g.older ++ (s.tries ++ later)) (in_right a g.older (s.tries ++ later) (in_right a s.tries later (in_right a (s.main ∷ []) (s.questions ++ g.rest) (in_left a s.questions g.rest w)))));
      }
