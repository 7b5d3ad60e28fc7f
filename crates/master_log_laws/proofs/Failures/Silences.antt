-- What the log shows of a conversation that ended with a turn.
use Rattle.std.proofs.Common.{◌≡◌, ℕ, ◌+◌, ◌≤◌, Bool, true, ◌⊎◌, inl, inr, Option, Some, None, List, [], ◌∷◌, length, refl, sym, ap, ◌∙◌, subst, arith}
use Rattle.std.specs.Prelude.{IfSome, nat_le}
use Rattle.std.proofs.lemmas.Bool.{leb-true}
use Rattle.dcp_types.specs.declared.limits.Limits.{Limits}
use Rattle.dcp_ends.specs.declared.entries.LogEntry.{LogEntry}
use Rattle.master_spec.specs.declared.requests.Request.{Request}
use Rattle.master_spec.specs.declared.requests.Answer.{Answer}
use Rattle.master_spec.specs.declared.requests.Latest.TheVariants as latests
use Rattle.master_spec.specs.declared.reactions.Reaction.{Reaction}
use Rattle.master_spec.specs.declared.reactions.Reaction.TheVariants.{Wait, Repeat}
use Rattle.master_spec.specs.declared.setups.Slave.{Slave}
use Rattle.master_spec.specs.declared.setups.Setup.{Setup}
use Rattle.master_spec.specs.Jobs.{Job}
use Rattle.master_spec.specs.Marks.{Mark, Begun, Asked, Again, Answered, Hinted, Brought, Turned, Ended, is_answer, is_sending, turns_since, latest, open_request, sendings, job_of, cause_of}
use Rattle.master_spec.specs.Conversation.{reaction}
use Rattle.master_spec.specs.Requests.{Asking, Decision, turns_before, turns_between}
use Rattle.master_spec.specs.Shown.{AreSpaced, last_sending, IsUnanswered}
use Rattle.master_log_laws.specs.Asking.Legal.{Does, AreLegal}
use Rattle.master_log_laws.specs.Index.Index.{Placed, at, marks_of, again_at, decided_at}
use Rattle.master_log_laws.specs.Index.Late.{IsLate}
use Rattle.master_log_laws.specs.Index.Dates.{clock, IsDated, AreDated}
use Rattle.master_log_laws.proofs.Index.Events.{repeats_open}
use Rattle.master_log_laws.proofs.Phases.Now.{now_by, now, open_latest}
use Rattle.master_log_laws.proofs.Phases.Soon.{soon, few, repeats_at}
use Rattle.master_log_laws.proofs.Phases.Tags.{no_reaction}
use Rattle.master_log_laws.proofs.Failures.Turns.{turns_rise, newest_if, newest, InPhases, IsExchange, exchange_begun, turns_to}
use Rattle.master_log_laws.proofs.Failures.Ends.{does_none}

-- ---- where it was sent last
pub sendings_in_phases : (limits : Limits) (js : List Job) → InPhases limits js is_sending
sendings_in_phases limits js m marks l e = exchange_begun limits js m marks l (by m e)
  where
    by : (m : Mark) → is_sending m ≡ true → IsExchange m
    by (Asked r) e = tt
    by Again e = tt
    by (Answered r a) e = absurd cc
    by (Begun j) e = absurd cc
    by Hinted e = absurd cc
    by (Brought n p) e = absurd cc
    by (Turned t) e = absurd cc
    by (Ended cause) e = absurd cc

pub answers_in_phases : (limits : Limits) (js : List Job) → InPhases limits js is_answer
answers_in_phases limits js m marks l e = exchange_begun limits js m marks l (by m e)
  where
    by : (m : Mark) → is_answer m ≡ true → IsExchange m
    by (Answered r a) e = tt
    by (Asked r) e = absurd cc
    by Again e = absurd cc
    by (Begun j) e = absurd cc
    by Hinted e = absurd cc
    by (Brought n p) e = absurd cc
    by (Turned t) e = absurd cc
    by (Ended cause) e = absurd cc

abbrev pub last_of : Asking → ℕ
last_of b = last_sending b.first b.repeats

pub sent_last : (xs : List Placed) (b : Asking) (rest : List Asking) → now xs ≡ b ∷ rest → newest is_sending xs ≡ Some (last_of b)
sent_last [] b rest e = absurd cc
sent_last (x ∷ xs) b rest e = by x.mark e (λ c cs z. sent_last xs c cs z)
  where
    again : (os : List Asking) → again_at x.place os ≡ b ∷ rest → Some x.place ≡ Some (last_of b)
    again [] z = absurd cc
    again (c ∷ cs) z = let y : x.place ∷ c.repeats ≡ b.repeats = cc in ap (λ (is : List ℕ). Some (last_sending b.first is)) y

    decided : (a : Answer) (os : List Asking) → decided_at x.place a os ≡ b ∷ rest → ((c : Asking) (cs : List Asking) → os ≡ c ∷ cs → newest is_sending xs ≡ Some (last_of c)) → newest is_sending xs ≡ Some (last_of b)
    decided a [] z f = absurd cc
    decided a (c ∷ cs) z f = let p : c.first ≡ b.first = cc in let q : c.repeats ≡ b.repeats = cc in f c cs refl ∙ ap (λ (i : ℕ). Some (last_sending i c.repeats)) p ∙ ap (λ (is : List ℕ). Some (last_sending b.first is)) q

    by : (m : Mark) → now_by x.place m (marks_of xs) (now xs) ≡ b ∷ rest → ((c : Asking) (cs : List Asking) → now xs ≡ c ∷ cs → newest is_sending xs ≡ Some (last_of c)) → newest_if (is_sending m) x.place (newest is_sending xs) ≡ Some (last_of b)
    by (Begun j) z f = absurd cc
    by (Asked r) z f = let p : x.place ≡ b.first = cc in let q : [] ≡ b.repeats = cc in ap (λ (i : ℕ). Some i) p ∙ ap (λ (is : List ℕ). Some (last_sending b.first is)) q
    by Again z f = again (now xs) z
    by (Answered r a) z f = decided a (now xs) z f
    by Hinted z f = f b rest z
    by (Brought n p) z f = f b rest z
    by (Turned t) z f = f b rest z
    by (Ended cause) z f = f b rest z

-- ---- how often it was sent
pub sent_count : (xs : List Placed) (b : Asking) (rest : List Asking) → now xs ≡ b ∷ rest → sendings (marks_of xs) ≡ length b.repeats + 1
sent_count [] b rest e = absurd cc
sent_count (x ∷ xs) b rest e = by x.mark e (λ c cs z. sent_count xs c cs z)
  where
    again : (os : List Asking) → again_at x.place os ≡ b ∷ rest → ((c : Asking) (cs : List Asking) → os ≡ c ∷ cs → sendings (marks_of xs) ≡ length c.repeats + 1) → sendings (marks_of xs) + 1 ≡ length b.repeats + 1
    again [] z f = absurd cc
    again (c ∷ cs) z f =
        let y : x.place ∷ c.repeats ≡ b.repeats = cc in
        let k = f c cs refl in
        let l : length (x.place ∷ c.repeats) ≡ length b.repeats = ap length y in
        omega (arith, k, l)

    decided : (a : Answer) (os : List Asking) → decided_at x.place a os ≡ b ∷ rest → ((c : Asking) (cs : List Asking) → os ≡ c ∷ cs → sendings (marks_of xs) ≡ length c.repeats + 1) → sendings (marks_of xs) ≡ length b.repeats + 1
    decided a [] z f = absurd cc
    decided a (c ∷ cs) z f = let q : c.repeats ≡ b.repeats = cc in f c cs refl ∙ ap (λ (is : List ℕ). length is + 1) q

    by : (m : Mark) → now_by x.place m (marks_of xs) (now xs) ≡ b ∷ rest → ((c : Asking) (cs : List Asking) → now xs ≡ c ∷ cs → sendings (marks_of xs) ≡ length c.repeats + 1) → sendings (m ∷ marks_of xs) ≡ length b.repeats + 1
    by (Begun j) z f = absurd cc
    by (Asked r) z f = let q : [] ≡ b.repeats = cc in ap (λ (is : List ℕ). length is + 1) q
    by Again z f = again (now xs) z f
    by (Answered r a) z f = decided a (now xs) z f
    by Hinted z f = f b rest z
    by (Brought n p) z f = f b rest z
    by (Turned t) z f = f b rest z
    by (Ended cause) z f = f b rest z

-- ---- each repeat comes in the last turn of the limit
does_job : (limits : Limits) (m : Mark) (marks : List Mark) (r : Reaction) → reaction limits m marks ≡ r → (r ≡ Wait → ⊥) → (job : Job) × (job_of (m ∷ marks) ≡ Some job)
does_job limits m marks r d n = by (job_of (m ∷ marks)) refl
  where
    by : (o : Option Job) → job_of (m ∷ marks) ≡ o → (job : Job) × (job_of (m ∷ marks) ≡ Some job)
    by None e = absurd (n (sym d ∙ no_reaction limits m marks e))
    by (Some job) e = (job, e)

pub repeat_turns : (limits : Limits) (js : List Job) (ms : List Mark) → 1 ≤ limits.turn_limit → AreLegal limits js ms → Does limits ms Repeat → turns_since is_sending ms ≡ limits.turn_limit
repeat_turns limits js [] one l d = absurd d
repeat_turns limits js (m ∷ ms) one l d = by m l d (does_none limits (m ∷ ms) Repeat d not_repeat) (does_job limits m ms Repeat d not_repeat) (repeats_open limits m ms d)
  where
    not_repeat : Repeat ≡ Wait → ⊥
    not_repeat z = cc

    turned : (m : Mark) → AreLegal limits js (m ∷ ms) → (t : Bool) → m ≡ Turned t → cause_of (m ∷ ms) ≡ None → (job : Job) → job_of (m ∷ ms) ≡ Some job → (r : Request) → open_request (m ∷ ms) ≡ Some r → limits.turn_limit ≤ turns_since is_sending (m ∷ ms) → turns_since is_sending (m ∷ ms) ≡ limits.turn_limit
    turned (Turned s) l t q c job e r o long = let h = soon limits js ms one l.1 l.0 c job e r (open_latest (latest ms) r o) in omega (arith, h, long)
    turned (Begun j) l t q c job e r o long = absurd cc
    turned (Asked a) l t q c job e r o long = absurd cc
    turned Again l t q c job e r o long = absurd cc
    turned (Answered q a) l t w c job e r o long = absurd cc
    turned Hinted l t q c job e r o long = absurd cc
    turned (Brought n p) l t q c job e r o long = absurd cc
    turned (Ended cause) l t q c job e r o long = absurd cc

    cause_tail : (m : Mark) → cause_of (m ∷ ms) ≡ None → cause_of ms ≡ None
    cause_tail (Begun j) c = c
    cause_tail (Asked r) c = c
    cause_tail Again c = c
    cause_tail (Answered r a) c = c
    cause_tail Hinted c = c
    cause_tail (Brought n p) c = c
    cause_tail (Turned t) c = c
    cause_tail (Ended cause) c = absurd cc

    by : (m : Mark) → AreLegal limits js (m ∷ ms) → reaction limits m ms ≡ Repeat → cause_of (m ∷ ms) ≡ None → (job : Job) × (job_of (m ∷ ms) ≡ Some job) → (r : Request) × (open_request (m ∷ ms) ≡ Some r) → turns_since is_sending (m ∷ ms) ≡ limits.turn_limit
    by m l d c j o = let z = repeats_at limits m ms j.0 (cause_tail m c) j.1 d in turned m l (z.0).0 (z.0).1 c j.0 j.1 o.0 o.1 z.1.long

spaced_more : (setup : Setup) (log : List LogEntry) (first j : ℕ) (is : List ℕ) → turns_between setup.address log (last_sending first is) j ≡ setup.limits.turn_limit → AreSpaced setup log first is → AreSpaced setup log first (j ∷ is)
spaced_more setup log first j [] e s = e
spaced_more setup log first j (i ∷ is) e s = (e, s)

pub spaced : (setup : Setup) (slave : Slave) (log : List LogEntry) (js : List Job) (xs : List Placed) (b : Asking) (rest : List Asking) → 1 ≤ setup.limits.turn_limit → AreLegal setup.limits js (marks_of xs) → AreDated setup slave log xs → now xs ≡ b ∷ rest → AreSpaced setup log b.first b.repeats
spaced setup slave log js [] b rest one l d e = absurd cc
spaced setup slave log js (x ∷ xs) b rest one l d e = by x.mark l d.0 e (λ c cs z. spaced setup slave log js xs c cs one l.1 d.1 z)
  where
    IH : Type 0
    IH = (c : Asking) (cs : List Asking) → now xs ≡ c ∷ cs → AreSpaced setup log c.first c.repeats

    again : Does setup.limits (marks_of xs) Repeat → turns_before setup.address log x.place ≡ clock (marks_of xs) → (os : List Asking) → now xs ≡ os → again_at x.place os ≡ b ∷ rest → IH → AreSpaced setup log b.first b.repeats
    again k t [] y z f = absurd cc
    again k t (c ∷ cs) y z f =
        let p : c.first ≡ b.first = cc in
        let q : x.place ∷ c.repeats ≡ b.repeats = cc in
        let s = turns_to setup slave log setup.limits js is_sending xs (last_of c) (sendings_in_phases setup.limits js) l.1 d.1 (sent_last xs c cs y) in
        let r = repeat_turns setup.limits js (marks_of xs) one l.1 k in
        let u : turns_between setup.address log (last_of c) x.place ≡ setup.limits.turn_limit = omega (arith, s, r, t) in
        let P : ℕ → Type 0 = λ i. AreSpaced setup log i (x.place ∷ c.repeats) in
        let Q : List ℕ → Type 0 = λ is. AreSpaced setup log b.first is in
        subst Q q (subst P p (spaced_more setup log c.first x.place c.repeats u (f c cs y)))

    decided : (a : Answer) (os : List Asking) → now xs ≡ os → decided_at x.place a os ≡ b ∷ rest → IH → AreSpaced setup log b.first b.repeats
    decided a [] y z f = absurd cc
    decided a (c ∷ cs) y z f =
        let p : c.first ≡ b.first = cc in
        let q : c.repeats ≡ b.repeats = cc in
        let P : ℕ → Type 0 = λ i. AreSpaced setup log i c.repeats in
        let Q : List ℕ → Type 0 = λ is. AreSpaced setup log b.first is in
        subst Q q (subst P p (f c cs y))

    by : (m : Mark) → AreLegal setup.limits js (m ∷ marks_of xs) → IsDated setup slave log x.place m xs → now_by x.place m (marks_of xs) (now xs) ≡ b ∷ rest → IH → AreSpaced setup log b.first b.repeats
    by (Begun j) k w z f = absurd cc
    by (Asked r) k w z f = let q : [] ≡ b.repeats = cc in let Q : List ℕ → Type 0 = λ is. AreSpaced setup log b.first is in subst Q q tt
    by Again k w z f = again k.0 w.turns (now xs) refl z f
    by (Answered r a) k w z f = decided a (now xs) refl z f
    by Hinted k w z f = f b rest z
    by (Brought n p) k w z f = f b rest z
    by (Turned t) k w z f = f b rest z
    by (Ended cause) k w z f = f b rest z

-- ---- no answer
pub unanswered : (setup : Setup) (slave : Slave) (log : List LogEntry) (js : List Job) (job : Job) (n : ℕ) (t : Bool) (ws : List Placed) (b c : Asking) (rest : List Asking) (r : Request) → 1 ≤ setup.limits.turn_limit → 1 ≤ setup.limits.tries
    → AreLegal setup.limits js (Turned t ∷ marks_of ws) → AreDated setup slave log (at n (Turned t) ∷ ws) → cause_of (marks_of ws) ≡ None → job_of (marks_of ws) ≡ Some job → latest (marks_of ws) ≡ latests.Asked r → now ws ≡ b ∷ rest → b.decision ≡ None → IsLate n c b
    → nat_le setup.limits.turn_limit (turns_since is_sending (Turned t ∷ marks_of ws)) ≡ true → nat_le setup.limits.tries (sendings (Turned t ∷ marks_of ws)) ≡ true → IsUnanswered setup log c
unanswered setup slave log js job n t ws b c rest r one two l d none here o e undecided late long many =
    record {
      often =
          (let x = few setup.limits js (marks_of ws) two l.1 none job here r o in
          let y = leb-true setup.limits.tries (sendings (Turned t ∷ marks_of ws)) many in
          let z = sent_count ws b rest e in
          let w : length c.repeats ≡ length b.repeats = ap length late.repeats in
          omega (arith, x, y, z, w));
      spaced =
          (let P : ℕ → Type 0 = λ i. AreSpaced setup log i b.repeats in
          let Q : List ℕ → Type 0 = λ is. AreSpaced setup log c.first is in
          subst Q (sym late.repeats) (subst P (sym late.first) (spaced setup slave log js ws b rest one l.1 d.1 e)));
      turns =
          (let x = turns_rise setup.address log n (length log) (d.0).below in
          omega (arith, x, now_is, since_is, enough, same));
      late = by c.decision refl;
    }
  where
    last : ℕ
    last = last_sending c.first c.repeats

    same : turns_before setup.address log last ≡ turns_before setup.address log (last_of b)
    same = ap (λ (i : ℕ). turns_before setup.address log (last_sending i c.repeats)) late.first ∙ ap (λ (is : List ℕ). turns_before setup.address log (last_sending b.first is)) late.repeats

    since_is : clock (Turned t ∷ marks_of ws) ≡ turns_before setup.address log (last_of b) + turns_since is_sending (Turned t ∷ marks_of ws)
    since_is = turns_to setup slave log setup.limits js is_sending (at n (Turned t) ∷ ws) (last_of b) (sendings_in_phases setup.limits js) l d (sent_last ws b rest e)

    now_is : turns_before setup.address log n ≡ clock (Turned t ∷ marks_of ws)
    now_is = (d.0).turns

    enough : setup.limits.turn_limit ≤ turns_since is_sending (Turned t ∷ marks_of ws)
    enough = leb-true setup.limits.turn_limit (turns_since is_sending (Turned t ∷ marks_of ws)) long

    later : (x : Decision) → c.decision ≡ Some x → n ≤ x.place
    later x z = two_ways (late.come x z)
      where
        two_ways : (b.decision ≡ Some x) ⊎ (n ≤ x.place) → n ≤ x.place
        two_ways (inl y) = let w : None ≡ Some x = sym undecided ∙ y in absurd cc
        two_ways (inr y) = y

    by : (o : Option Decision) → c.decision ≡ o → IfSome o (λ x. setup.limits.turn_limit ≤ turns_between setup.address log last x.place)
    by None z = tt
    by (Some x) z =
        let h = turns_rise setup.address log n x.place (later x z) in
        let f = now_is in
        let g = since_is in
        let i = enough in
        let j = same in
        omega (arith, h, f, g, i, j)
