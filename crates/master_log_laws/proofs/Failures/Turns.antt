-- The turns between places of the log are those between marks.
use Rattle.std.proofs.Common.{◌≡◌, ℕ, zero, suc, ◌+◌, ◌-◌, ◌≤◌, Bool, true, false, if◌then◌else◌, Option, Some, None, List, [], ◌∷◌, length, drop, refl, sym, ap, ◌∙◌, arith}
use Rattle.std.specs.Prelude.{◌||◌, count_by}
use Rattle.std.specs.List.{list_any}
use Rattle.std.proofs.lemmas.List.Sums.{sum_by-cons}
use Rattle.dcp_types.specs.declared.addresses.Address.{Address}
use Rattle.dcp_types.specs.declared.limits.Limits.{Limits}
use Rattle.dcp_ends.specs.declared.entries.LogEntry.{LogEntry}
use Rattle.master_spec.specs.declared.requests.Request.{Request}
use Rattle.master_spec.specs.declared.reactions.Reaction.{Reaction}
use Rattle.master_spec.specs.declared.reactions.Reaction.TheVariants.{Wait, Ask, Repeat}
use Rattle.master_spec.specs.declared.setups.Slave.{Slave}
use Rattle.master_spec.specs.declared.setups.Setup.{Setup}
use Rattle.master_spec.specs.Jobs.{Job}
use Rattle.master_spec.specs.Marks.{Mark, Begun, Asked, Again, Answered, Hinted, Brought, Turned, Ended, count, since, turns_since, is_turn, is_begun, open_request, job_of}
use Rattle.master_spec.specs.Requests.{is_turn_of, turns_before}
use Rattle.master_log_laws.specs.Asking.Legal.{Does, AreLegal}
use Rattle.master_log_laws.specs.Index.Index.{Placed, marks_of}
use Rattle.master_log_laws.specs.Index.Dates.{bit, clock, AreDated}
use Rattle.master_log_laws.proofs.Phases.Tags.{no_reaction}

-- ---- turns before a place rise with it
drop_less : (p : LogEntry → Bool) (xs : List LogEntry) (m n : ℕ) → m ≤ n → count_by p (drop n xs) ≤ count_by p (drop m xs)
drop_less p [] m n h = by m n
  where
    by : (m n : ℕ) → count_by p (drop n []) ≤ count_by p (drop m [])
    by zero zero = omega arith
    by zero (suc n) = omega arith
    by (suc m) zero = omega arith
    by (suc m) (suc n) = omega arith
drop_less p (x ∷ xs) zero zero h = omega arith
drop_less p (x ∷ xs) zero (suc n) h =
    let k = drop_less p xs 0 n (omega arith) in
    let e = sum_by-cons (λ (z : LogEntry). if p z then 1 else 0) x xs in
    let f : drop 0 xs ≡ xs = refl in
    omega (arith, k, e)
drop_less p (x ∷ xs) (suc m) zero h = absurd (omega (arith, h))
drop_less p (x ∷ xs) (suc m) (suc n) h = drop_less p xs m n (omega (arith, h))

pub turns_rise : (master : Address) (log : List LogEntry) (i j : ℕ) → i ≤ j → turns_before master log i ≤ turns_before master log j
turns_rise master log i j h = drop_less (is_turn_of master) log (length log - j) (length log - i) (omega (arith, h))

-- ---- the place of the newest mark of a kind
abbrev pub newest_if : Bool → ℕ → Option ℕ → Option ℕ
newest_if true place o = Some place
newest_if false place o = o

abbrev pub newest : (Mark → Bool) → List Placed → Option ℕ
newest is [] = None
newest is (x ∷ xs) = newest_if (is x.mark) x.place (newest is xs)

-- marks of a kind that come only in a phase
abbrev pub InPhases : Limits → List Job → (Mark → Bool) → Type 0
InPhases limits js is = (m : Mark) (marks : List Mark) → AreLegal limits js (m ∷ marks) → is m ≡ true → list_any is_begun (m ∷ marks) ≡ true

or_right : (a b : Bool) → b ≡ true → (a || b) ≡ true
or_right true b h = refl
or_right false b h = h

newest_begun : (limits : Limits) (js : List Job) (is : Mark → Bool) (xs : List Placed) (i : ℕ) → InPhases limits js is → AreLegal limits js (marks_of xs) → newest is xs ≡ Some i → list_any is_begun (marks_of xs) ≡ true
newest_begun limits js is [] i k l e = absurd cc
newest_begun limits js is (x ∷ xs) i k l e = by (is x.mark) refl e (λ z. newest_begun limits js is xs i k l.1 z)
  where
    by : (b : Bool) → is x.mark ≡ b → newest_if b x.place (newest is xs) ≡ Some i → (newest is xs ≡ Some i → list_any is_begun (marks_of xs) ≡ true) → list_any is_begun (x.mark ∷ marks_of xs) ≡ true
    by true q e f = k x.mark (marks_of xs) l q
    by false q e f = or_right (is_begun x.mark) (list_any is_begun (marks_of xs)) (f e)

-- the turns since the newest mark of a kind
pub turns_to : (setup : Setup) (slave : Slave) (log : List LogEntry) (limits : Limits) (js : List Job) (is : Mark → Bool) (xs : List Placed) (i : ℕ) → InPhases limits js is → AreLegal limits js (marks_of xs) → AreDated setup slave log xs → newest is xs ≡ Some i
    → clock (marks_of xs) ≡ turns_before setup.address log i + turns_since is (marks_of xs)
turns_to setup slave log limits js is [] i k l d e = absurd cc
turns_to setup slave log limits js is (x ∷ xs) i k l d e = by (is x.mark) refl e (λ z. turns_to setup slave log limits js is xs i k l.1 d.1 z)
  where
    same_place : Some x.place ≡ Some i → x.place ≡ i
    same_place z = cc

    more : (m : Mark) → list_any is_begun (marks_of xs) ≡ true → clock (m ∷ marks_of xs) ≡ (if is_turn m then clock (marks_of xs) + 1 else clock (marks_of xs))
    more (Begun j) b = ap (λ (t : Bool). count is_turn (marks_of xs) + bit t) (sym b)
    more (Asked r) b = refl
    more Again b = refl
    more (Answered r a) b = refl
    more Hinted b = refl
    more (Brought n p) b = refl
    more (Turned t) b = omega arith
    more (Ended cause) b = refl

    plus : (t : Bool) (c n s : ℕ) → c ≡ n + s → (if t then c + 1 else c) ≡ n + (if t then s + 1 else s)
    plus true c n s h = omega (arith, h)
    plus false c n s h = h

    by : (b : Bool) → is x.mark ≡ b → newest_if b x.place (newest is xs) ≡ Some i → (newest is xs ≡ Some i → clock (marks_of xs) ≡ turns_before setup.address log i + turns_since is (marks_of xs))
        → clock (x.mark ∷ marks_of xs) ≡ turns_before setup.address log i + count is_turn (if b then [] else x.mark ∷ since is (marks_of xs))
    by true q e f =
        let z = same_place e in
        let h : turns_before setup.address log x.place ≡ clock (x.mark ∷ marks_of xs) = (d.0).turns in
        let g : turns_before setup.address log x.place ≡ turns_before setup.address log i = ap (turns_before setup.address log) z in
        omega (arith, h, g)
    by false q e f = more x.mark (newest_begun limits js is xs i k l.1 e) ∙ plus (is_turn x.mark) (clock (marks_of xs)) (turns_before setup.address log i) (turns_since is (marks_of xs)) (f e)

-- ---- what is asked or answered comes in a phase
job_begun : (marks : List Mark) (job : Job) → job_of marks ≡ Some job → list_any is_begun marks ≡ true
job_begun [] job e = absurd cc
job_begun (Begun j ∷ marks) job e = refl
job_begun (Asked r ∷ marks) job e = job_begun marks job e
job_begun (Again ∷ marks) job e = job_begun marks job e
job_begun (Answered r a ∷ marks) job e = job_begun marks job e
job_begun (Hinted ∷ marks) job e = job_begun marks job e
job_begun (Brought n p ∷ marks) job e = job_begun marks job e
job_begun (Turned t ∷ marks) job e = job_begun marks job e
job_begun (Ended cause ∷ marks) job e = job_begun marks job e

does_begun : (limits : Limits) (marks : List Mark) (r : Reaction) → Does limits marks r → (r ≡ Wait → ⊥) → list_any is_begun marks ≡ true
does_begun limits [] r d n = absurd d
does_begun limits (m ∷ marks) r d n = by (job_of (m ∷ marks)) refl
  where
    by : (o : Option Job) → job_of (m ∷ marks) ≡ o → list_any is_begun (m ∷ marks) ≡ true
    by None e = absurd (n (sym d ∙ no_reaction limits m marks e))
    by (Some job) e = job_begun (m ∷ marks) job e

not_ask : (r : Request) → Ask r ≡ Wait → ⊥
not_ask r z = cc

not_repeat : Repeat ≡ Wait → ⊥
not_repeat z = cc

open_begun : (limits : Limits) (js : List Job) (marks : List Mark) (r : Request) → AreLegal limits js marks → open_request marks ≡ Some r → list_any is_begun marks ≡ true
open_begun limits js [] r l o = absurd cc
open_begun limits js (Begun j ∷ marks) r l o = refl
open_begun limits js (Asked q ∷ marks) r l o = does_begun limits marks (Ask q) l.0 (not_ask q)
open_begun limits js (Again ∷ marks) r l o = does_begun limits marks Repeat l.0 not_repeat
open_begun limits js (Answered q a ∷ marks) r l o = absurd cc
open_begun limits js (Hinted ∷ marks) r l o = open_begun limits js marks r l.1 o
open_begun limits js (Brought n p ∷ marks) r l o = open_begun limits js marks r l.1 o
open_begun limits js (Turned t ∷ marks) r l o = open_begun limits js marks r l.1 o
open_begun limits js (Ended cause ∷ marks) r l o = open_begun limits js marks r l.1 o

abbrev pub IsExchange : Mark → Type 0
IsExchange (Asked r) = Unit {0}
IsExchange Again = Unit {0}
IsExchange (Answered r a) = Unit {0}
IsExchange (Begun j) = ⊥
IsExchange Hinted = ⊥
IsExchange (Brought n p) = ⊥
IsExchange (Turned t) = ⊥
IsExchange (Ended cause) = ⊥

pub exchange_begun : (limits : Limits) (js : List Job) (m : Mark) (marks : List Mark) → AreLegal limits js (m ∷ marks) → IsExchange m → list_any is_begun (m ∷ marks) ≡ true
exchange_begun limits js (Asked q) marks l x = does_begun limits marks (Ask q) l.0 (not_ask q)
exchange_begun limits js Again marks l x = does_begun limits marks Repeat l.0 not_repeat
exchange_begun limits js (Answered q a) marks l x = open_begun limits js marks q l.1 (l.0).1
exchange_begun limits js (Begun j) marks l x = absurd x
exchange_begun limits js Hinted marks l x = absurd x
exchange_begun limits js (Brought n p) marks l x = absurd x
exchange_begun limits js (Turned t) marks l x = absurd x
exchange_begun limits js (Ended cause) marks l x = absurd x
