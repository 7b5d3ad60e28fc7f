-- Nothing that is noted in mode 0 is lost but what is overwritten, and nothing is fetched twice.
use Rattle.std.proofs.Common.{◌≡◌, ◌≢◌, ℕ, zero, suc, ◌+◌, ◌-◌, ◌<◌, ◌≤◌, ◌++◌, Bool, true, false, cond, List, [], ◌∷◌, length, take, drop, map, refl, ap, sym, subst, ◌∙◌, arith, append_assoc, append-nil, length-append}
use Rattle.std.specs.Prelude.{◌==◌, ◌&&◌, not, nat_lt, nat_le, filter, Option, Some, None}
use Rattle.std.proofs.lemmas.Bool.Decides.{nat_tests}
use Rattle.std.proofs.lemmas.List.{map-append, take-map, length-map}
use Rattle.std.proofs.lemmas.List.Elements.{filter-append}
use Rattle.slave_log.specs.declared.lines.LogLine.{LogLine}
use Rattle.slave_log.specs.Shelves.{Log, Shelf, empty, shelf, with_shelf, is_setting, log_configured, shelf_set_to, line, is_noted, put, shelf_counted, newest, noted, fetched, left}
use Rattle.slave_log.specs.Calls.{LogCall, Configure, Note, Fetch, IsCategory, AreCalls, after_call, after_calls, all_fetched, LogFate, is_overwritten, waits, one_further, just_noted, with_fetched, keeps, log_fates, KeepsAll}

by_test : {P : Type 0} → (b : Bool) → (b ≡ true → P) → (b ≡ false → P) → P
by_test true f g = f refl
by_test false f g = g refl

-- ---- one category among three

data Three : ℕ → Type 0 where
  First : Three 1
  Second : Three 2
  Third : Three 3

three : (c : ℕ) → IsCategory c → Three c
three zero h = absurd (omega (arith, h.0))
three (suc zero) h = First
three (suc (suc zero)) h = Second
three (suc (suc (suc zero))) h = Third
three (suc (suc (suc (suc c)))) h = absurd (omega (arith, h.1))

own_shelf : (c : ℕ) → Three c → (log : Log) (s : Shelf) → shelf (with_shelf log c s) c ≡ s
own_shelf _ First log s = refl
own_shelf _ Second log s = refl
own_shelf _ Third log s = refl

other_shelf : (a c : ℕ) → Three a → Three c → (a == c) ≡ false → (log : Log) (s : Shelf) → shelf (with_shelf log a s) c ≡ shelf log c
other_shelf _ _ First First e log s = absurd cc
other_shelf _ _ First Second e log s = refl
other_shelf _ _ First Third e log s = refl
other_shelf _ _ Second First e log s = refl
other_shelf _ _ Second Second e log s = absurd cc
other_shelf _ _ Second Third e log s = refl
other_shelf _ _ Third First e log s = refl
other_shelf _ _ Third Second e log s = refl
other_shelf _ _ Third Third e log s = absurd cc

-- ---- lists of log_fates

abbrev pub lines : List LogFate → List LogLine
lines fs = map (λ f. f.line) fs

abbrev pub stays : LogFate → Bool
stays f = not (is_overwritten f)

-- none of these waits
abbrev pub Done : List LogFate → Type 0
Done [] = Unit {0}
Done (f ∷ fs) = (waits f ≡ false) × Done fs

-- each of these waits, and as many are behind it as were noted since
abbrev pub Aging : List LogFate → Type 0
Aging [] = Unit {0}
Aging (f ∷ fs) = (f.is_fetched ≡ false) × (f.further ≡ length fs) × Aging fs

done_append : (xs ys : List LogFate) → Done xs → Done ys → Done (xs ++ ys)
done_append [] ys a b = b
done_append (x ∷ xs) ys a b = (a.0, done_append xs ys a.1 b)

further_done : (f : LogFate) → waits f ≡ false → waits (one_further f) ≡ false
further_done f h =
    by_test f.is_fetched
    (λ e. rw e refl)
    (λ e. let g : nat_lt f.further 64 ≡ false = rw e at h in
    let n : nat_lt (f.further + 1) 64 ≡ false = grind (arith, nat_tests, g) in rw (e, n) refl)

done_further : (xs : List LogFate) → Done xs → Done (map one_further xs)
done_further [] d = tt
done_further (x ∷ xs) d = (further_done x d.0, done_further xs d.1)

-- what stays of those that do not wait stays the same
further_stays : (f : LogFate) (fs : List LogFate) → waits f ≡ false → filter stays (one_further f ∷ fs) ≡ filter stays (f ∷ fs)
further_stays f fs h =
    by_test f.is_fetched
    (λ e. rw e refl)
    (λ e. let g : nat_lt f.further 64 ≡ false = rw e at h in
    let n : nat_lt (f.further + 1) 64 ≡ false = grind (arith, nat_tests, g) in rw (e, n, g) refl)

stays_further : (xs : List LogFate) → Done xs → filter stays (map one_further xs) ≡ filter stays xs
stays_further [] d = refl
stays_further (x ∷ xs) d = further_stays x (map one_further xs) d.0 ∙ at (stays x) (stays_further xs d.1)
  where
    at : (b : Bool) → filter stays (map one_further xs) ≡ filter stays xs → cond b (x ∷ filter stays (map one_further xs)) (filter stays (map one_further xs)) ≡ cond b (x ∷ filter stays xs) (filter stays xs)
    at true e = ap (λ l. x ∷ l) e
    at false e = e

aging_more : (xs : List LogFate) (entry : LogLine) → Aging xs → Aging (map one_further xs ++ just_noted entry ∷ [])
aging_more [] entry a = (refl, refl, tt)
aging_more (x ∷ xs) entry a =
    let r = aging_more xs entry a.2 in
    let n : length (map one_further xs ++ just_noted entry ∷ []) ≡ length xs + 1 = omega (arith, length-append (map one_further xs) (just_noted entry ∷ []), length-map xs one_further) in
    (rw a.0 refl, rw a.0 (ap (λ m. m + 1) a.1 ∙ sym n), r)

lines_further : (xs : List LogFate) → lines (map one_further xs) ≡ lines xs
lines_further [] = refl
lines_further (x ∷ xs) =
    let e : (one_further x).line ≡ x.line = by_test x.is_fetched (λ e. rw e refl) (λ e. rw e refl) in
    let r = lines_further xs in
    cc

lines_more : (xs : List LogFate) (entry : LogLine) → lines (map one_further xs ++ just_noted entry ∷ []) ≡ lines xs ++ entry ∷ []
lines_more xs entry = map-append (λ f. f.line) (map one_further xs) (just_noted entry ∷ []) ∙ ap (λ l. l ++ entry ∷ []) (lines_further xs)

-- the log_fates of a category: those that are done with, and those that wait
pub record Parts (category : ℕ) (calls : List LogCall) : Type 0 where
  pub done : List LogFate
  pub waiting : List LogFate
  pub split : log_fates category calls ≡ done ++ waiting
  pub over : Done done
  pub age : Aging waiting
  pub few : length waiting ≤ 64
  pub fetched' : lines (filter stays done) ≡ all_fetched category calls
  pub kept' : lines waiting ≡ (shelf (after_calls calls) category).kept

-- those that wait stay
aging_stays : (xs : List LogFate) → Aging xs → length xs ≤ 64 → filter stays xs ≡ xs
aging_stays [] a h = refl
aging_stays (x ∷ xs) a h =
    let n : nat_lt x.further 64 ≡ true = grind (arith, nat_tests, a.1, h) in
    rw n (ap (λ l. x ∷ l) (aging_stays xs a.2 (omega (arith, h))))

-- ---- one more is noted in mode 0

further_of : (f : LogFate) → f.is_fetched ≡ false → (one_further f).further ≡ f.further + 1
further_of f e = rw e refl

over_kept : (c : ℕ) (calls after : List LogCall) (done : List LogFate) (w : LogFate) (ws : List LogFate) (entry : LogLine)
    → log_fates c calls ≡ done ++ w ∷ ws → Done done → Aging (w ∷ ws) → length ws ≡ 63 → lines (filter stays done) ≡ all_fetched c calls → lines (w ∷ ws) ≡ (shelf (after_calls calls) c).kept
    → log_fates c after ≡ map one_further (log_fates c calls) ++ just_noted entry ∷ [] → all_fetched c after ≡ all_fetched c calls → (shelf (after_calls after) c).kept ≡ newest 64 ((shelf (after_calls calls) c).kept ++ entry ∷ [])
    → Parts c after
over_kept c calls after done w ws entry split over age size got' kept log_fates' fetched' kept'' =
    let old : List LogFate = map one_further done in
    let f : ℕ = (one_further w).further in
    let n : f ≡ 64 = further_of w age.0 ∙ (let x = age.1 in omega (arith, x, size)) in
    let out : nat_lt f 64 ≡ false = grind (arith, nat_tests, n) in
    let never : waits (one_further w) ≡ false = rw out (neither (not (one_further w).is_fetched)) in
    let gone : filter stays (one_further w ∷ []) ≡ [] = rw out refl in
    let l : length (lines (w ∷ ws) ++ entry ∷ []) ≡ 65 = omega (arith, length-append (lines (w ∷ ws)) (entry ∷ []), length-map (w ∷ ws) (λ f. f.line), size) in
    let one : length (lines (w ∷ ws) ++ entry ∷ []) - 64 ≡ 1 = omega arith in
    record {
      done = old ++ one_further w ∷ [];
      waiting = map one_further ws ++ just_noted entry ∷ [];
      split = log_fates' ∙ ap (λ l. map one_further l ++ just_noted entry ∷ []) split ∙ ap (λ l. l ++ just_noted entry ∷ []) (map-append one_further done (w ∷ ws))
          ∙ ap (λ l. l ++ just_noted entry ∷ []) (sym (append_assoc old (one_further w ∷ []) (map one_further ws)))
          ∙ append_assoc (old ++ one_further w ∷ []) (map one_further ws) (just_noted entry ∷ []);
      over = done_append old (one_further w ∷ []) (done_further done over) (never, tt);
      age = aging_more ws entry age.2;
      few = omega (arith, length-append (map one_further ws) (just_noted entry ∷ []), length-map ws one_further, size);
      fetched' = ap lines (filter-append stays old (one_further w ∷ []) ∙ ap (λ l. filter stays old ++ l) gone ∙ append-nil (filter stays old) ∙ stays_further done over) ∙ got' ∙ sym fetched';
      kept' = lines_more ws entry ∙ sym (kept'' ∙ ap (λ l. newest 64 (l ++ entry ∷ [])) (sym kept) ∙ ap (λ m. drop m (lines (w ∷ ws) ++ entry ∷ [])) one);
    }
  where
    neither : (b : Bool) → (b && false) ≡ false
    neither true = refl
    neither false = refl

more_kept : (c : ℕ) (calls after : List LogCall) (k : Parts c calls) (entry : LogLine)
    → log_fates c after ≡ map one_further (log_fates c calls) ++ just_noted entry ∷ [] → all_fetched c after ≡ all_fetched c calls → (shelf (after_calls after) c).kept ≡ newest 64 ((shelf (after_calls calls) c).kept ++ entry ∷ [])
    → Parts c after
more_kept c calls after k entry log_fates' fetched' kept'' = by_test (nat_lt (length k.waiting) 64) room (λ e. full k.waiting refl e)
  where
    room : nat_lt (length k.waiting) 64 ≡ true → Parts c after
    room e =
        let h : length k.waiting < 64 = grind (arith, nat_tests, e) in
        let none : length (lines k.waiting ++ entry ∷ []) - 64 ≡ 0 = omega (arith, length-append (lines k.waiting) (entry ∷ []), length-map k.waiting (λ f. f.line), h) in
        record {
          done = map one_further k.done;
          waiting = map one_further k.waiting ++ just_noted entry ∷ [];
          split = log_fates' ∙ ap (λ l. map one_further l ++ just_noted entry ∷ []) k.split ∙ ap (λ l. l ++ just_noted entry ∷ []) (map-append one_further k.done k.waiting)
              ∙ append_assoc (map one_further k.done) (map one_further k.waiting) (just_noted entry ∷ []);
          over = done_further k.done k.over;
          age = aging_more k.waiting entry k.age;
          few = omega (arith, length-append (map one_further k.waiting) (just_noted entry ∷ []), length-map k.waiting one_further, h);
          fetched' = ap lines (stays_further k.done k.over) ∙ k.fetched' ∙ sym fetched';
          kept' = lines_more k.waiting entry ∙ sym (kept'' ∙ ap (λ l. newest 64 (l ++ entry ∷ [])) (sym k.kept') ∙ ap (λ m. drop m (lines k.waiting ++ entry ∷ [])) none);
        }

    full : (ws : List LogFate) → k.waiting ≡ ws → nat_lt (length k.waiting) 64 ≡ false → Parts c after
    full [] q e = absurd (let z = ap (λ (l : List LogFate). length l) q in grind (arith, nat_tests, e, z))
    full (w ∷ ws) q e =
        let z = ap (λ (l : List LogFate). length l) q in
        let big : 64 ≤ length k.waiting = grind (arith, nat_tests, e) in
        let size : length ws ≡ 63 = omega (arith, z, big, k.few) in
        over_kept c calls after k.done w ws entry (k.split ∙ ap (λ l. k.done ++ l) q) k.over (rw q at k.age) size k.fetched' (ap lines (sym q) ∙ k.kept') log_fates' fetched' kept''

-- ---- some are fetched

abbrev got : LogFate → LogFate
got f = record f { is_fetched = true }

fetched_behind : (most : ℕ) (xs ys : List LogFate) → Done xs → with_fetched most (xs ++ ys) ≡ xs ++ with_fetched most ys
fetched_behind zero xs ys d = refl
fetched_behind (suc most) [] ys d = refl
fetched_behind (suc most) (x ∷ xs) ys d = rw d.0 (ap (λ l. x ∷ l) (fetched_behind (suc most) xs ys d.1))

fetched_front : (most : ℕ) (xs : List LogFate) → Aging xs → length xs ≤ 64 → with_fetched most xs ≡ map got (take most xs) ++ drop most xs
fetched_front zero xs a h = refl
fetched_front (suc most) [] a h = refl
fetched_front (suc most) (x ∷ xs) a h =
    let n : nat_lt x.further 64 ≡ true = grind (arith, nat_tests, a.1, h) in
    rw (a.0, n) (ap (λ l. got x ∷ l) (fetched_front most xs a.2 (omega (arith, h))))

aging_drop : (most : ℕ) (xs : List LogFate) → Aging xs → Aging (drop most xs)
aging_drop zero xs a = a
aging_drop (suc most) [] a = tt
aging_drop (suc most) (x ∷ xs) a = aging_drop most xs a.2

length_drop : (most : ℕ) (xs : List LogFate) → length (drop most xs) ≤ length xs
length_drop zero xs = omega arith
length_drop (suc most) [] = omega arith
length_drop (suc most) (x ∷ xs) = let r = length_drop most xs in omega (arith, r)

done_got : (xs : List LogFate) → Done (map got xs)
done_got [] = tt
done_got (x ∷ xs) = (refl, done_got xs)

stays_got : (most : ℕ) (xs : List LogFate) → Aging xs → length xs ≤ 64 → lines (filter stays (map got (take most xs))) ≡ take most (lines xs)
stays_got zero xs a h = refl
stays_got (suc most) [] a h = refl
stays_got (suc most) (x ∷ xs) a h =
    let n : nat_lt x.further 64 ≡ true = grind (arith, nat_tests, a.1, h) in
    rw n (ap (λ l. x.line ∷ l) (stays_got most xs a.2 (omega (arith, h))))

drop_lines : (most : ℕ) (xs : List LogFate) → lines (drop most xs) ≡ drop most (lines xs)
drop_lines zero xs = refl
drop_lines (suc most) [] = refl
drop_lines (suc most) (x ∷ xs) = drop_lines most xs

fetch_kept : (c : ℕ) (calls after : List LogCall) (most : ℕ) (k : Parts c calls)
    → log_fates c after ≡ with_fetched most (log_fates c calls) → all_fetched c after ≡ all_fetched c calls ++ take most (shelf (after_calls calls) c).kept → (shelf (after_calls after) c).kept ≡ drop most (shelf (after_calls calls) c).kept
    → Parts c after
fetch_kept c calls after most k log_fates' fetched' kept'' = record {
  done = k.done ++ map got (take most k.waiting);
  waiting = drop most k.waiting;
  split = log_fates' ∙ ap (with_fetched most) k.split ∙ fetched_behind most k.done k.waiting k.over ∙ ap (λ l. k.done ++ l) (fetched_front most k.waiting k.age k.few)
      ∙ sym (append_assoc k.done (map got (take most k.waiting)) (drop most k.waiting));
  over = done_append k.done (map got (take most k.waiting)) k.over (done_got (take most k.waiting));
  age = aging_drop most k.waiting k.age;
  few = let l = length_drop most k.waiting in omega (arith, l, k.few);
  fetched' = ap lines (filter-append stays k.done (map got (take most k.waiting))) ∙ map-append (λ f. f.line) (filter stays k.done) (filter stays (map got (take most k.waiting)))
      ∙ ap (λ l. l ++ lines (filter stays (map got (take most k.waiting)))) k.fetched'
      ∙ ap (λ l. all_fetched c calls ++ l) (stays_got most k.waiting k.age k.few ∙ ap (take most) k.kept')
      ∙ sym fetched';
  kept' = drop_lines most k.waiting ∙ ap (drop most) k.kept' ∙ sym kept'';
}

same_kept : (c : ℕ) (calls after : List LogCall) (k : Parts c calls) → log_fates c after ≡ log_fates c calls → all_fetched c after ≡ all_fetched c calls → (shelf (after_calls after) c).kept ≡ (shelf (after_calls calls) c).kept → Parts c after
same_kept c calls after k log_fates' fetched' kept'' = record {
  done = k.done;
  waiting = k.waiting;
  split = log_fates' ∙ k.split;
  over = k.over;
  age = k.age;
  few = k.few;
  fetched' = k.fetched' ∙ sym fetched';
  kept' = k.kept' ∙ sym kept'';
}

-- ---- call by call

nothing_kept : (c : ℕ) → Three c → [] ≡ (shelf empty c).kept
nothing_kept _ First = refl
nothing_kept _ Second = refl
nothing_kept _ Third = refl

configured_kept : (a c : ℕ) → Three c → (log : Log) (level mode : ℕ) → (shelf (log_configured log a level mode) c).kept ≡ (shelf log c).kept
configured_kept a _ First log level mode = by_test (a == 0) (λ e. rw e refl) (λ e. by_test (a == 1) (λ f. rw (e, f) refl) (λ f. by_test (a == 2) (λ g. rw (e, f, g) refl) (λ g. rw (e, f, g) refl)))
configured_kept a _ Second log level mode = by_test (a == 0) (λ e. rw e refl) (λ e. by_test (a == 1) (λ f. rw (e, f) refl) (λ f. by_test (a == 2) (λ g. rw (e, f, g) refl) (λ g. rw (e, f, g) refl)))
configured_kept a _ Third log level mode = by_test (a == 0) (λ e. rw e refl) (λ e. by_test (a == 1) (λ f. rw (e, f) refl) (λ f. by_test (a == 2) (λ g. rw (e, f, g) refl) (λ g. rw (e, f, g) refl)))

set_kept : (c : ℕ) (calls : List LogCall) (a level mode : ℕ) → Three c → Parts c calls → Parts c (Configure a level mode ∷ calls)
set_kept c calls a level mode t k =
    same_kept c calls (Configure a level mode ∷ calls) k refl refl
    (by_test (is_setting a level mode) (λ e. rw e (configured_kept a c t (after_calls calls) level mode)) (λ e. rw e refl))

note_own : (c : ℕ) (calls : List LogCall) (level code step : ℕ) → Three c → Parts c calls → Parts c (Note c level code step ∷ calls)
note_own c calls level code step t k =
    let log = after_calls calls in
    let s = shelf log c in
    let entry : LogLine = line s.next c level code step in
    let me : (c == c) ≡ true = grind (arith, nat_tests) in
    by_test (is_noted s level)
    (λ e. by_test (s.mode == 1)
    (λ f. same_kept c calls (Note c level code step ∷ calls) k (rw (me, e, f) refl) refl
    (rw e (ap (λ (q : Shelf). q.kept) (own_shelf c t log (put s entry)) ∙ rw f refl)))
    (λ f. more_kept c calls (Note c level code step ∷ calls) k entry (rw (me, e, f) refl) refl
    (rw e (ap (λ (q : Shelf). q.kept) (own_shelf c t log (put s entry)) ∙ rw f refl))))
    (λ e. same_kept c calls (Note c level code step ∷ calls) k (rw (me, e) refl) refl (rw e refl))

note_other : (c : ℕ) (calls : List LogCall) (a level code step : ℕ) → Three a → Three c → (a == c) ≡ false → Parts c calls → Parts c (Note a level code step ∷ calls)
note_other c calls a level code step o t ne k =
    let log = after_calls calls in
    let s = shelf log a in
    same_kept c calls (Note a level code step ∷ calls) k (rw ne refl) refl
    (by_test (is_noted s level)
    (λ e. rw e (ap (λ (q : Shelf). q.kept) (other_shelf a c o t ne log (put s (line s.next a level code step)))))
    (λ e. rw e refl))

fetch_own : (c : ℕ) (calls : List LogCall) (most : ℕ) → Three c → Parts c calls → Parts c (Fetch c most ∷ calls)
fetch_own c calls most t k =
    let log = after_calls calls in
    let s = shelf log c in
    let me : (c == c) ≡ true = grind (arith, nat_tests) in
    fetch_kept c calls (Fetch c most ∷ calls) most k (rw me refl) (rw me refl) (ap (λ (q : Shelf). q.kept) (own_shelf c t log (record s { kept = drop most s.kept })))

fetch_other : (c : ℕ) (calls : List LogCall) (a most : ℕ) → Three a → Three c → (a == c) ≡ false → Parts c calls → Parts c (Fetch a most ∷ calls)
fetch_other c calls a most o t ne k =
    let log = after_calls calls in
    let s = shelf log a in
    same_kept c calls (Fetch a most ∷ calls) k (rw ne refl) (rw ne refl) (ap (λ (q : Shelf). q.kept) (other_shelf a c o t ne log (record s { kept = drop most s.kept })))

kept_all : (c : ℕ) (calls : List LogCall) → Three c → AreCalls calls → Parts c calls
kept_all c [] t h = record { done = []; waiting = []; split = refl; over = tt; age = tt; few = omega arith; fetched' = refl; kept' = nothing_kept c t }
kept_all c (Configure a level mode ∷ calls) t h = set_kept c calls a level mode t (kept_all c calls t h)
kept_all c (Note a level code step ∷ calls) t h =
    let k = kept_all c calls t h.1 in
    by_test (a == c)
    (λ e. let same : c ≡ a = grind (arith, nat_tests, e) in subst (λ (n : ℕ). Parts c (Note n level code step ∷ calls)) same (note_own c calls level code step t k))
    (λ e. note_other c calls a level code step (three a h.0) t e k)
kept_all c (Fetch a most ∷ calls) t h =
    let k = kept_all c calls t h.1 in
    by_test (a == c)
    (λ e. let same : c ≡ a = grind (arith, nat_tests, e) in subst (λ (n : ℕ). Parts c (Fetch n most ∷ calls)) same (fetch_own c calls most t k))
    (λ e. fetch_other c calls a most (three a h.0) t e k)

whole : (category : ℕ) (calls : List LogCall) → Parts category calls → all_fetched category calls ++ (shelf (after_calls calls) category).kept ≡ lines (filter stays (log_fates category calls))
whole category calls k =
    sym (ap (λ l. lines (filter stays l)) k.split
    ∙ ap lines (filter-append stays k.done k.waiting)
    ∙ ap (λ l. lines (filter stays k.done ++ l)) (aging_stays k.waiting k.age k.few)
    ∙ map-append (λ f. f.line) (filter stays k.done) k.waiting
    ∙ ap (λ l. l ++ lines k.waiting) k.fetched' ∙ ap (λ l. all_fetched category calls ++ l) k.kept')

pub keeps_all : KeepsAll
keeps_all category calls is_category are = whole category calls (kept_all category calls (three category is_category) are)
