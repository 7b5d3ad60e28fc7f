-- How long after the answer to a request the next one is sent.
use Rattle.std.proofs.Common.{◌≡◌, ℕ, zero, suc, ◌+◌, ◌≤◌, Bool, true, false, Option, Some, None, List, [], ◌∷◌, ◌++◌, refl, sym, ap, ◌∙◌, subst, arith}
use Rattle.std.specs.Prelude.{slice_get, ◌%◌, ◌||◌}
use Rattle.std.specs.List.{list_any}
use Rattle.dcp_types.specs.declared.limits.Limits.{Limits}
use Rattle.dcp_ends.specs.declared.entries.LogEntry.{LogEntry}
use Rattle.master_spec.specs.declared.requests.Request.{Request}
use Rattle.master_spec.specs.declared.requests.Answer.{Answer}
use Rattle.master_spec.specs.declared.requests.Latest.{Latest}
use Rattle.master_spec.specs.declared.requests.Latest.TheVariants as latests
use Rattle.master_spec.specs.declared.reactions.Reaction.TheVariants.{Repeat}
use Rattle.master_spec.specs.declared.setups.Slave.{Slave}
use Rattle.master_spec.specs.declared.setups.Setup.{Setup}
use Rattle.master_spec.specs.Setup.{jobs_of}
use Rattle.master_spec.specs.Jobs.{Job}
use Rattle.master_spec.specs.Marks.{Mark, Begun, Asked, Again, Answered, Hinted, Brought, Turned, Ended, asked, is_answer, latest, open_request, turns_since}
use Rattle.master_spec.specs.Requests.{Asking, Decision, asks, decided_by, turns_before}
use Rattle.master_log_laws.specs.Asking.Legal.{AreLegal, Does, GoesByRule, IsLegal}
use Rattle.master_log_laws.proofs.Asking.Legal.{going}
use Rattle.master_log_laws.specs.Index.Runs.{course_at, events_of_master, IsRun}
use Rattle.master_log_laws.specs.Index.Index.{Placed, marks_of, first_at, again_at, decided_at, askings_told, askings_told_by, ReadBack}
use Rattle.master_log_laws.specs.Index.Follows.{talk_with}
use Rattle.master_log_laws.specs.Index.Late.{AreLate}
use Rattle.master_log_laws.specs.Index.Dates.{clock, AreDated, IsDated}
use Rattle.master_log_laws.specs.Index.Laws.{AreHeard}
use Rattle.master_log_laws.proofs.Index.Events.{repeats_open}
use Rattle.master_log_laws.proofs.Index.Laws.{listens}
use Rattle.master_log_laws.proofs.Index.Reported.{reported}
use Rattle.master_log_laws.proofs.Index.Runs.{all_at, with_at}
use Rattle.master_log_laws.proofs.Phases.Now.{now, past, Linked, linked, open_latest, split}
use Rattle.master_log_laws.proofs.Failures.Turns.{newest, newest_if, turns_to}
use Rattle.master_log_laws.proofs.Failures.Silences.{answers_in_phases}
use Rattle.completeness_laws.specs.Timely.{Timely}
use Rattle.completeness_laws.proofs.Timely.Settled.{Gaps, wait}
use Rattle.completeness_laws.proofs.Timely.Waiting.{fit}
use Rattle.completeness_laws.proofs.Timely.Prompt.{all_prompt}

-- ---- where the newest request was answered
open_told : (limits : Limits) (js : List Job) (xs : List Placed) (r : Request) → AreLegal limits js (marks_of xs) → open_request (marks_of xs) ≡ Some r → (c : Asking) × ((rest : List Asking) × ((askings_told xs ≡ c ∷ rest) × (c.decision ≡ None)))
open_told limits js xs r l o = by (now xs) refl (let P : Latest → Type 0 = λ y. Linked y (now xs) in subst P (open_latest (latest (marks_of xs)) r o) (linked limits js xs l))
  where
    by : (bs : List Asking) → now xs ≡ bs → Linked (latests.Asked r) bs → (c : Asking) × ((rest : List Asking) × ((askings_told xs ≡ c ∷ rest) × (c.decision ≡ None)))
    by [] e k = absurd k
    by (c ∷ bs) e k = (c, (bs ++ askings_told (past xs), (split limits js xs l ∙ ap (λ (z : List Asking). z ++ askings_told (past xs)) e, k.1)))

place_of : Option Decision → ℕ
place_of None = 0
place_of (Some d) = d.place

answer_told : (limits : Limits) (js : List Job) (xs : List Placed) (b : Asking) (rest : List Asking) (d : Decision) → AreLegal limits js (marks_of xs) → askings_told xs ≡ b ∷ rest → b.decision ≡ Some d → newest is_answer xs ≡ Some d.place
answer_told limits js [] b rest d l e h = absurd cc
answer_told limits js (x ∷ xs) b rest d l e h = by x.mark l.0 e (λ z. answer_told limits js xs b rest d l.1 z h)
  where
    undecided : (c : Asking) → c.decision ≡ None → c.decision ≡ b.decision → ⊥
    undecided c n z = let w : None ≡ Some d = sym n ∙ z ∙ h in cc

    repeated : (ms : List Mark) → Does limits ms Repeat → (r : Request) × (open_request ms ≡ Some r)
    repeated [] k = absurd k
    repeated (m ∷ ms) k = repeats_open limits m ms k

    again : (r : Request) → open_request (marks_of xs) ≡ Some r → again_at x.place (askings_told xs) ≡ b ∷ rest → ⊥
    again r o z =
        let c = open_told limits js xs r l.1 o in
        let w : again_at x.place (c.0 ∷ c.1.0) ≡ b ∷ rest = ap (again_at x.place) (sym c.1.1.0) ∙ z in
        let v : c.0.decision ≡ b.decision = cc in
        undecided c.0 c.1.1.1 v

    same_place : (i : ℕ) (a : Answer) → Some (record { place = i; answer = a }) ≡ Some d → i ≡ d.place
    same_place i a z = let w : record { place = i; answer = a } ≡ d = cc in ap (λ (y : Decision). y.place) w

    answered : (r : Request) (a : Answer) → open_request (marks_of xs) ≡ Some r → decided_at x.place a (askings_told xs) ≡ b ∷ rest → Some x.place ≡ Some d.place
    answered r a o z =
        let c = open_told limits js xs r l.1 o in
        let w : decided_at x.place a (c.0 ∷ c.1.0) ≡ b ∷ rest = ap (decided_at x.place a) (sym c.1.1.0) ∙ z in
        let v : decided_by c.0.decision (record { place = x.place; answer = a }) ≡ b.decision = cc in
        let u : Some (record { place = x.place; answer = a }) ≡ Some d = ap (λ (o : Option Decision). decided_by o (record { place = x.place; answer = a })) (sym c.1.1.1) ∙ v ∙ h in
        ap (λ (i : ℕ). Some i) (same_place x.place a u)

    by : (m : Mark) → IsLegal limits js m (marks_of xs) → askings_told_by x.place m (marks_of xs) (askings_told xs) ≡ b ∷ rest → (askings_told xs ≡ b ∷ rest → newest is_answer xs ≡ Some d.place) → newest_if (is_answer m) x.place (newest is_answer xs) ≡ Some d.place
    by (Asked r) k z f = let w : None ≡ b.decision = cc in let v : None ≡ Some d = w ∙ h in absurd cc
    by Again k z f = let o = repeated (marks_of xs) k in absurd (again o.0 o.1 z)
    by (Answered r a) k z f = answered r a k.1 z
    by (Begun j) k z f = f z
    by Hinted k z f = f z
    by (Brought n p) k z f = f z
    by (Turned t) k z f = f z
    by (Ended c) k z f = f z

some_answer : (xs : List Placed) (i : ℕ) → newest is_answer xs ≡ Some i → list_any is_answer (marks_of xs) ≡ true
some_answer [] i e = absurd cc
some_answer (x ∷ xs) i e = by (is_answer x.mark) e (λ z. some_answer xs i z)
  where
    by : (y : Bool) → newest_if y x.place (newest is_answer xs) ≡ Some i → (newest is_answer xs ≡ Some i → list_any is_answer (marks_of xs) ≡ true) → (y || list_any is_answer (marks_of xs)) ≡ true
    by true z f = refl
    by false z f = f z

-- ---- the gaps between an answer and the next request
module _ (setup : Setup) (slave : Slave) (log : List LogEntry) where
  abbrev before : ℕ → ℕ
  before i = turns_before setup.address log i

  abbrev IsSoon : Asking → Asking → Type 0
  IsSoon r a = (d : Decision) → a.decision ≡ Some d → before r.first ≤ before d.place + (wait setup.limits + setup.limits.turn_limit + 1)

  soon_first : (r c a : Asking) → c.first ≡ r.first → IsSoon c a → IsSoon r a
  soon_first r c a e s d h = subst (λ (i : ℕ). before i ≤ before d.place + (wait setup.limits + setup.limits.turn_limit + 1)) e (s d h)

  same : (y z : Asking) → Some y ≡ Some z → y ≡ z
  same y z h = cc

  asks_soon : (x : ℕ) (q : Request) (xs : List Placed) (r a : Asking) → AreLegal setup.limits (jobs_of setup slave) (marks_of xs) → AreDated setup slave log xs → IsDated setup slave log x (Asked q) xs → Gaps setup.limits (Asked q ∷ marks_of xs)
      → first_at x (asked (marks_of xs) % 65536) q ≡ r → slice_get (askings_told xs) 0 ≡ Some a → IsSoon r a
  asks_soon x q xs r a l ds w g e f d h =
      let first : x ≡ r.first = ap (λ (y : Asking). y.first) e in
      let t = head (askings_told xs) f in
      let place = answer_told setup.limits (jobs_of setup slave) xs a t.0 d l t.1 h in
      let turns = turns_to setup slave log setup.limits (jobs_of setup slave) is_answer xs d.place (answers_in_phases setup.limits (jobs_of setup slave)) l ds place in
      let few = g.0 (some_answer xs d.place place) in
      let now : turns_before setup.address log x ≡ clock (marks_of xs) = w.turns in
      let z : turns_before setup.address log x ≡ before r.first = ap (turns_before setup.address log) first in
      sums (before r.first) (before d.place) (turns_before setup.address log x) (clock (marks_of xs)) (turns_since is_answer (marks_of xs)) (wait setup.limits + setup.limits.turn_limit + 1) z now turns few
    where
      head : (bs : List Asking) → slice_get bs 0 ≡ Some a → (rest : List Asking) × (bs ≡ a ∷ rest)
      head [] h = absurd cc
      head (b ∷ bs) h = (bs, ap (λ (y : Asking). y ∷ bs) (same b a h))

      sums : (r d x ticks since limit : ℕ) → x ≡ r → x ≡ ticks → ticks ≡ d + since → since ≤ limit → r ≤ d + limit
      sums r d x ticks since limit h1 h2 h3 h4 = omega (arith, h1, h2, h3, h4)

  soon_told : (xs : List Placed) (n : ℕ) (r a : Asking) → AreLegal setup.limits (jobs_of setup slave) (marks_of xs) → AreDated setup slave log xs → Gaps setup.limits (marks_of xs)
      → slice_get (askings_told xs) n ≡ Some r → slice_get (askings_told xs) (suc n) ≡ Some a → IsSoon r a
  soon_told [] n r a l d g e f = absurd cc
  soon_told (x ∷ xs) n r a l d g e f = by x.mark n l d.0 g e f (λ k c h i j. soon_told xs k c a l.1 d.1 h i j)
    where
      More : Type 0
      More = (k : ℕ) (c : Asking) → Gaps setup.limits (marks_of xs) → slice_get (askings_told xs) k ≡ Some c → slice_get (askings_told xs) (suc k) ≡ Some a → IsSoon c a

      again : (bs : List Asking) (n : ℕ) → slice_get (again_at x.place bs) n ≡ Some r → slice_get (again_at x.place bs) (suc n) ≡ Some a → ((c : Asking) → slice_get bs n ≡ Some c → slice_get bs (suc n) ≡ Some a → IsSoon c a) → IsSoon r a
      again [] n e f k = absurd cc
      again (b ∷ bs) zero e f k = soon_first r b a (ap (λ (y : Asking). y.first) (same (record { code = b.code; number = b.number; more = b.more; first = b.first; repeats = x.place ∷ b.repeats; decision = b.decision }) r e)) (k b refl f)
      again (b ∷ bs) (suc n) e f k = k r e f

      decided : (v : Answer) (bs : List Asking) (n : ℕ) → slice_get (decided_at x.place v bs) n ≡ Some r → slice_get (decided_at x.place v bs) (suc n) ≡ Some a → ((c : Asking) → slice_get bs n ≡ Some c → slice_get bs (suc n) ≡ Some a → IsSoon c a) → IsSoon r a
      decided v [] n e f k = absurd cc
      decided v (b ∷ bs) zero e f k = soon_first r b a (ap (λ (y : Asking). y.first) (same (record { code = b.code; number = b.number; more = b.more; first = b.first; repeats = b.repeats; decision = decided_by b.decision (record { place = x.place; answer = v }) }) r e)) (k b refl f)
      decided v (b ∷ bs) (suc n) e f k = k r e f

      by : (m : Mark) (n : ℕ) → AreLegal setup.limits (jobs_of setup slave) (m ∷ marks_of xs) → IsDated setup slave log x.place m xs → Gaps setup.limits (m ∷ marks_of xs)
          → slice_get (askings_told_by x.place m (marks_of xs) (askings_told xs)) n ≡ Some r → slice_get (askings_told_by x.place m (marks_of xs) (askings_told xs)) (suc n) ≡ Some a
          → ((k : ℕ) (c : Asking) → Gaps setup.limits (marks_of xs) → slice_get (askings_told xs) k ≡ Some c → slice_get (askings_told xs) (suc k) ≡ Some a → IsSoon c a) → IsSoon r a
      by (Asked q) zero l w g e f k = asks_soon x.place q xs r a l.1 d.1 w g (same (first_at x.place (asked (marks_of xs) % 65536) q) r e) f
      by (Asked q) (suc n) l w g e f k = k n r g.1 e f
      by Again n l w g e f k = again (askings_told xs) n e f (λ c i j. k n c g i j)
      by (Answered q v) n l w g e f k = decided v (askings_told xs) n e f (λ c i j. k n c g i j)
      by (Begun j) n l w g e f k = k n r g e f
      by Hinted n l w g e f k = k n r g e f
      by (Brought i p) n l w g e f k = k n r g e f
      by (Turned t) n l w g e f k = k n r g e f
      by (Ended c) n l w g e f k = k n r g e f

  -- a late answer to the newest changes nothing of that
  soon_late : (since n : ℕ) (cs bs : List Asking) (r a : Asking) → AreLate since cs bs → ((c : Asking) → slice_get bs n ≡ Some c → slice_get bs (suc n) ≡ Some a → IsSoon c a) → slice_get cs n ≡ Some r → slice_get cs (suc n) ≡ Some a → IsSoon r a
  soon_late since n [] bs r a l k e f = absurd cc
  soon_late since n (c ∷ cs) [] r a l k e f = absurd l
  soon_late since zero (c ∷ cs) (b ∷ bs) r a l k e f = soon_first r b a (sym l.0.first ∙ ap (λ (y : Asking). y.first) (same c r e)) (k b refl (ap (λ (z : List Asking). slice_get z 0) (sym l.1) ∙ f))
  soon_late since (suc n) (c ∷ cs) (b ∷ bs) r a l k e f = k r (ap (λ (z : List Asking). slice_get z n) (sym l.1) ∙ e) (ap (λ (z : List Asking). slice_get z (suc n)) (sym l.1) ∙ f)

  -- in a timely log
  pub soon : AreHeard setup → IsRun setup log → Timely setup log → 1 ≤ setup.limits.turn_limit → (i : ℕ) → slice_get setup.slaves i ≡ Some slave → (n : ℕ) (r a : Asking) → slice_get (asks setup.address slave log) n ≡ Some r → slice_get (asks setup.address slave log) (suc n) ≡ Some a → IsSoon r a
  soon heard run t one i e n r a f g =
      let st = (reported setup (ReadBack slave.id) i slave (listens setup heard i slave e) heard.runs log run t.report t.reported).0 in
      let rule = with_at (λ u m. GoesByRule setup.limits (jobs_of setup u) (course_at setup log).phase m) (course_at setup log).talks i (talk_with slave (marks_of st.xs)) (going setup heard.runs (events_of_master setup log)).goes st.here in
      let gaps = all_at (Gaps setup.limits) (course_at setup log).talks i (talk_with slave (marks_of st.xs)) (fit setup heard.runs one (events_of_master setup log) (all_prompt setup heard log run t one [] log refl)).gaps st.here in
      soon_late st.until n (asks setup.address slave log) (askings_told st.xs) r a st.late (λ c h k. soon_told st.xs n c a rule.legal st.dated.dates gaps h k) f g
