-- A conversation that has passed all its phases, cut into the segments of its jobs, the oldest first.
use Rattle.std.proofs.Common.{◌≡◌, ℕ, zero, suc, ◌+◌, ◌⊎◌, inl, inr, Bool, true, false, if◌then◌else◌, Some, None, List, [], ◌∷◌, ◌++◌, reverse, length, drop, refl, sym, ap, ◌∙◌, subst, arith}
use Rattle.std.specs.Prelude.{◌==◌, slice_get}
use Rattle.std.proofs.lemmas.List.{append_assoc, append-nil, reverse-append}
use Rattle.dcp_ends.specs.declared.entries.LogEntry.{LogEntry}
use Rattle.master_spec.specs.declared.causes.Verdict.TheVariants as verdicts
use Rattle.master_spec.specs.declared.setups.Slave.{Slave}
use Rattle.master_spec.specs.declared.setups.Setup.{Setup}
use Rattle.master_spec.specs.Jobs.{Job}
use Rattle.master_spec.specs.Marks.{Mark, Begun, Asked, Again, Answered, Hinted, Brought, Turned, Ended, count, is_begun, open_request, job_of, verdict_of}
use Rattle.master_spec.specs.Requests.{Asking, is_acked_by, is_state_request}
use Rattle.master_log_laws.specs.Asking.Legal.{Rests, IsLegal, AreLegal}
use Rattle.master_log_laws.specs.Index.Index.{Placed, marks_of, askings_told}
use Rattle.master_log_laws.specs.Index.Dates.{bit, phase_before, AreDated}
use Rattle.master_log_laws.proofs.Phases.Now.{now, past_by, past, split}
use Rattle.master_log_laws.proofs.Phases.Tags.{job_phase, none_asked, HasPassed, verdict_passed}
use Rattle.master_log_laws.proofs.Finish.Lists.{Every, every_map, every_in, In, in_split, hits, Off, hits_append, hits_off, hits_one}
use Rattle.master_log_laws.proofs.Finish.Codes.{task_code, count_code, Kind}
use Rattle.master_log_laws.proofs.Finish.Segments.{Single, HasCode, Segment}
use Rattle.master_log_laws.proofs.Finish.Singles.{segment}

pub record Cut (setup : Setup) (log : List LogEntry) (slave : Slave) (job : Job) (p : ℕ) (az : List Asking) (Next : List Asking → Type 0) : Type 0 where
  pub seg : List Asking
  pub rest : List Asking
  pub is : az ≡ seg ++ rest
  pub segment : Segment setup log slave job p seg
  pub next : Next rest

-- the requests of these jobs, of which p come before
abbrev pub Cuts : Setup → List LogEntry → Slave → List Job → (p : ℕ) → List Asking → Type 0
Cuts setup log slave [] p az = az ≡ []
Cuts setup log slave (job ∷ js) p az = Cut setup log slave job (suc p) az (λ rest. Cuts setup log slave js (suc p) rest)

drop_at : (js : List Job) (n : ℕ) (job : Job) → slice_get js n ≡ Some job → drop n js ≡ job ∷ drop (suc n) js
drop_at [] n job e = absurd cc
drop_at (j ∷ js) zero job e = let z : j ≡ job = cc in ap (λ (x : Job). x ∷ js) z
drop_at (j ∷ js) (suc n) job e = drop_at js n job e

-- ---- the conversation, cut
module _ (setup : Setup) (slave : Slave) (log : List LogEntry) (js : List Job) where
  pub add_cut : (xs : List Placed) → AreLegal setup.limits js (marks_of xs) → AreDated setup slave log xs → Rests setup.limits (marks_of xs) → open_request (marks_of xs) ≡ None → HasPassed (marks_of xs) → (q : ℕ) → count is_begun (marks_of xs) ≡ suc q → (rest : List Asking)
      → Cuts setup log slave (drop (suc q) js) (suc q) rest → Cuts setup log slave (drop q js) q (reverse (now xs) ++ rest)
  add_cut xs l d r o h q c rest k =
      let here = job_phase setup.limits js (marks_of xs) l h.job h.job_is q (omega (arith, c)) in
      let P : List Job → Type 0 = λ z. Cuts setup log slave z q (reverse (now xs) ++ rest) in
      let Q : ℕ → Type 0 = λ n. Segment setup log slave h.job n (reverse (now xs)) in
      subst P (sym (drop_at js q h.job here)) (record { seg = reverse (now xs); rest = rest; is = refl; segment = subst Q c (segment setup slave log js xs l d r h.cause_is h.job h.job_is h.passed o); next = k })

  told_turned : (xs : List Placed) (rest : List Asking) → AreLegal setup.limits js (marks_of xs) → reverse (askings_told (past xs)) ++ (reverse (now xs) ++ rest) ≡ reverse (askings_told xs) ++ rest
  told_turned xs rest l =
      sym (append_assoc (reverse (askings_told (past xs))) (reverse (now xs)) rest) ∙ ap (λ (z : List Asking). z ++ rest) (sym (reverse-append (now xs) (askings_told (past xs))) ∙ ap reverse (sym (split setup.limits js xs l)))

  pub cut_past : (xs : List Placed) → AreLegal setup.limits js (marks_of xs) → AreDated setup slave log xs → (p : ℕ) → count is_begun (marks_of xs) ≡ suc p → (rest : List Asking)
      → Cuts setup log slave (drop p js) p rest → Cuts setup log slave js 0 (reverse (askings_told (past xs)) ++ rest)
  cut_past [] l d p c rest k = absurd (omega (arith, c))
  cut_past (x ∷ xs) l d p c rest k = by x.mark l.0 c (λ p c rest k. cut_past xs l.1 d.1 p c rest k)
    where
      IH : Type 0
      IH = (p : ℕ) → count is_begun (marks_of xs) ≡ suc p → (rest : List Asking) → Cuts setup log slave (drop p js) p rest → Cuts setup log slave js 0 (reverse (askings_told (past xs)) ++ rest)

      from_zero : (p : ℕ) → count is_begun (marks_of xs) ≡ p → job_of (marks_of xs) ≡ None → Cuts setup log slave (drop p js) p rest → Cuts setup log slave js 0 (reverse (askings_told xs) ++ rest)
      from_zero p c e k =
          let z = none_asked setup.limits js xs l.1 e in
          let y : p ≡ 0 = sym c ∙ z.1 in
          let P : ℕ → Type 0 = λ n. Cuts setup log slave (drop n js) n rest in
          let Q : List Asking → Type 0 = λ az. Cuts setup log slave js 0 (reverse az ++ rest) in
          subst Q (sym z.0) (subst P y k)

      from_passed : (p : ℕ) → count is_begun (marks_of xs) ≡ p → Rests setup.limits (marks_of xs) → open_request (marks_of xs) ≡ None → HasPassed (marks_of xs) → IH → Cuts setup log slave (drop p js) p rest → Cuts setup log slave js 0 (reverse (askings_told xs) ++ rest)
      from_passed zero c r o h f k = let z = job_none (marks_of xs) c in let y : None ≡ Some h.job = sym z ∙ h.job_is in absurd cc
        where
          job_none : (ms : List Mark) → count is_begun ms ≡ 0 → job_of ms ≡ None
          job_none [] c = refl
          job_none (Begun j ∷ ms) c = absurd (omega (arith, c))
          job_none (Asked q ∷ ms) c = job_none ms c
          job_none (Again ∷ ms) c = job_none ms c
          job_none (Answered q a ∷ ms) c = job_none ms c
          job_none (Hinted ∷ ms) c = job_none ms c
          job_none (Brought n q ∷ ms) c = job_none ms c
          job_none (Turned t ∷ ms) c = job_none ms c
          job_none (Ended cause ∷ ms) c = job_none ms c
      from_passed (suc q) c r o h f k =
          let P : List Asking → Type 0 = λ z. Cuts setup log slave js 0 z in
          subst P (told_turned xs rest l.1) (f q c (reverse (now xs) ++ rest) (add_cut xs l.1 d.1 r o h q c rest k))

      by : (m : Mark) → IsLegal setup.limits js m (marks_of xs) → count is_begun (m ∷ marks_of xs) ≡ suc p → IH → Cuts setup log slave js 0 (reverse (askings_told (past_by m xs (past xs))) ++ rest)
      by (Begun j) i c f = begun (i.1).passed
        where
          c' : count is_begun (marks_of xs) ≡ p
          c' = omega (arith, c)

          begun : (job_of (marks_of xs) ≡ None) ⊎ (verdict_of (marks_of xs) ≡ verdicts.Passed) → Cuts setup log slave js 0 (reverse (askings_told xs) ++ rest)
          begun (inl e) = from_zero p c' e k
          begun (inr v) = from_passed p c' i.0 (i.1).free (verdict_passed (marks_of xs) v) f k
      by (Asked r) i c f = f p c rest k
      by Again i c f = f p c rest k
      by (Answered r a) i c f = f p c rest k
      by Hinted i c f = f p c rest k
      by (Brought n q) i c f = f p c rest k
      by (Turned t) i c f = f p c rest k
      by (Ended cause) i c f = f p c rest k

  -- a conversation whose last phase has passed
  pub cut_all : (xs : List Placed) → AreLegal setup.limits js (marks_of xs) → AreDated setup slave log xs → Rests setup.limits (marks_of xs) → open_request (marks_of xs) ≡ None → HasPassed (marks_of xs) → (q : ℕ) → count is_begun (marks_of xs) ≡ suc q → length js ≡ suc q
      → Cuts setup log slave js 0 (reverse (askings_told xs))
  cut_all xs l d r o h q c n =
      let P : List Asking → Type 0 = λ z. Cuts setup log slave js 0 z in
      let Q : List Job → Type 0 = λ z. Cuts setup log slave z (suc q) [] in
      let k : Cuts setup log slave (drop (suc q) js) (suc q) [] = subst Q (sym (none_left js (suc q) n)) refl in
      subst P (told_turned xs [] l ∙ append-nil (reverse (askings_told xs))) (cut_past xs l d q c (reverse (now xs) ++ []) (add_cut xs l d r o h q c [] k))
    where
      none_left : (js : List Job) (n : ℕ) → length js ≡ n → drop n js ≡ []
      none_left [] zero e = refl
      none_left [] (suc n) e = refl
      none_left (j ∷ js) zero e = absurd (omega (arith, e))
      none_left (j ∷ js) (suc n) e = none_left js n (omega (arith, e))

-- ---- the segment of one job
module _ (setup : Setup) (log : List LogEntry) (slave : Slave) where
  pub tries_off : (job : Job) (p : ℕ) (seg : List Asking) (is : Asking → Bool) (c : ℕ) → Kind is c → (s : Single setup log job p seg) → Off is s.tries
  tries_off job p seg is c k s = every_map _ (λ a. is a ≡ false) s.tries (λ a h. k.refused a h.0 h.1) s.refused

  pub questions_off : (is : Asking → Bool) (c : ℕ) → Kind is c → (qs : List Asking) → Every (λ a. is_state_request a ≡ false) qs → Off is qs
  questions_off is c k qs e = every_map _ (λ a. is a ≡ false) qs (λ a h. k.other a h) e

  pub main_is : (job : Job) (p : ℕ) (seg : List Asking) (is : Asking → Bool) (c : ℕ) → Kind is c → (s : Single setup log job p seg) → is s.main ≡ (task_code job.task == c)
  main_is job p seg is c k s = k.acked s.main (ap is_acked_by s.done) ∙ ap (λ (n : ℕ). n == c) s.code_is

  seg_hits : (job : Job) (p : ℕ) (seg : List Asking) (is : Asking → Bool) (c : ℕ) → Kind is c → (0 == c) ≡ false → Segment setup log slave job p seg → hits is seg ≡ bit (task_code job.task == c)
  seg_hits job p seg is c k z g = by g.shape
    where
      bits : (b : Bool) → (if b then 1 else 0) ≡ bit b
      bits true = refl
      bits false = refl

      by : ((task_code job.task ≡ 0) × Every (λ a. is_state_request a ≡ false) seg) ⊎ Single setup log job p seg → hits is seg ≡ bit (task_code job.task == c)
      by (inl h) = hits_off is seg (questions_off is c k seg h.1) ∙ sym (ap (λ (n : ℕ). bit (n == c)) h.0 ∙ ap bit z)
      by (inr s) =
          let a = hits_append is s.tries (s.main ∷ s.questions) in
          let b = hits_off is s.tries (tries_off job p seg is c k s) in
          let e = hits_one is s.main s.questions (task_code job.task == c) (main_is job p seg is c k s) (questions_off is c k s.questions s.asks) in
          let f = bits (task_code job.task == c) in
          let g = ap (hits is) s.is in
          omega (arith, a, b, e, f, g)

  pub record Located (before : List Job) (job : Job) (q : ℕ) (after : List Job) (az : List Asking) : Type 0 where
    pub older : List Asking
    pub seg : List Asking
    pub rest : List Asking
    pub is : az ≡ older ++ (seg ++ rest)
    pub segment : Segment setup log slave job q seg
    pub next : Cuts setup log slave after q rest
    pub hits_are : (is : Asking → Bool) (c : ℕ) → Kind is c → (0 == c) ≡ false → hits is older ≡ count_code c before

  pub locate : (before : List Job) (job : Job) (after : List Job) (p q : ℕ) (az : List Asking) → Cuts setup log slave (before ++ (job ∷ after)) p az → q ≡ suc (length before + p) → Located before job q after az
  locate [] job after p q az k e =
      let z : suc p ≡ q = omega (arith, e) in
      let P : ℕ → Type 0 = λ n. Segment setup log slave job n k.seg in
      let Q : ℕ → Type 0 = λ n. Cuts setup log slave after n k.rest in
      record { older = []; seg = k.seg; rest = k.rest; is = k.is; segment = subst P z k.segment; next = subst Q z k.next; hits_are = λ is c f g. refl }
  locate (j ∷ before) job after p q az k e =
      let g = locate before job after (suc p) q k.rest k.next (omega (arith, e)) in
      record {
        older = k.seg ++ g.older;
        seg = g.seg;
        rest = g.rest;
        is = k.is ∙ ap (λ (z : List Asking). k.seg ++ z) g.is ∙ sym (append_assoc k.seg g.older (g.seg ++ g.rest));
        segment = g.segment;
        next = g.next;
        hits_are = λ is c f z. more (hits_append is k.seg g.older) (seg_hits j (suc p) k.seg is c f z k.segment) (g.hits_are is c f z);
      }
    where
      more : {a b c d e : ℕ} → a ≡ b + c → b ≡ d → c ≡ e → a ≡ d + e
      more x y z = omega (arith, x, y, z)

  -- the job of a state request, by its phase
  pub record JobOf (js : List Job) (p : ℕ) (a : Asking) : Type 0 where
    pub index : ℕ
    pub job : Job
    pub job_is : slice_get js index ≡ Some job
    pub first_in : phase_before setup log a.first ≡ suc (index + p)
    pub code_is : a.code ≡ task_code job.task

  pub job_at : (js : List Job) (p : ℕ) (az : List Asking) → Cuts setup log slave js p az → (a : Asking) → In a az → is_state_request a ≡ true → JobOf js p a
  job_at [] p az k a h s = let P : List Asking → Type 0 = λ z. In a z in absurd (none (subst P k h))
    where
      none : In a [] → ⊥
      none h = nothing h.0 h.1
        where
          nothing : (i : ℕ) → slice_get [] i ≡ Some a → ⊥
          nothing i e = cc
  job_at (job ∷ js) p az k a h s = let P : List Asking → Type 0 = λ z. In a z in by (in_split a k.seg k.rest (subst P k.is h)) (λ i. job_at js (suc p) k.rest k.next a i s)
    where
      by : In a k.seg ⊎ In a k.rest → (In a k.rest → JobOf js (suc p) a) → JobOf (job ∷ js) p a
      by (inl i) next =
          let f = every_in (λ x. phase_before setup log x.first ≡ suc p) a k.seg (k.segment).first_in i in
          record { index = 0; job = job; job_is = refl; first_in = omega (arith, f); code_is = every_in (HasCode job) a k.seg (k.segment).codes i s }
      by (inr i) next =
          let g = next i in
          let f = g.first_in in
          record { index = suc g.index; job = g.job; job_is = g.job_is; first_in = omega (arith, f); code_is = g.code_is }
