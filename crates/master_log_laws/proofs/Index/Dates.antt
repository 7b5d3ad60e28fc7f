-- Marks keep their dates, and new ones get theirs.
use Rattle.std.proofs.Common.{◌≡◌, ℕ, zero, suc, ◌+◌, ◌-◌, ◌<◌, ◌≤◌, ◌⊎◌, inl, inr, Bool, true, false, Some, List, [], ◌∷◌, ◌++◌, reverse, length, drop, refl, sym, ap, ◌∙◌, subst, arith}
use Rattle.std.specs.Prelude.{if◌then◌else◌, count_by, slice_get}
use Rattle.std.specs.List.{list_any}
use Rattle.std.proofs.lemmas.Bool.{cases_lt}
use Rattle.std.proofs.lemmas.List.Sums.{sum_by-cons}
use Rattle.std.proofs.lemmas.List.{reverse-append, length-reverse}
use Rattle.std.proofs.lemmas.Option.{slice_get_within}
use Rattle.dcp_types.specs.declared.addresses.Address.{Address}
use Rattle.dcp_ends.specs.declared.entries.LogEntry.{LogEntry}
use Rattle.master_spec.specs.declared.setups.Slave.{Slave}
use Rattle.master_spec.specs.declared.setups.Setup.{Setup}
use Rattle.master_spec.specs.Course.{payload_size}
use Rattle.master_spec.specs.declared.causes.Cause.{Cause}
use Rattle.master_spec.specs.Jobs.{Job}
use Rattle.master_spec.specs.Marks.{Mark, Begun, Asked, Again, Answered, Hinted, Brought, Turned, Ended, count, is_turn, is_begun}
use Rattle.master_spec.specs.Requests.{is_turn_of, turns_before, brings_outputs}
use Rattle.master_spec.specs.Exchanged.{entry_at, Brings}
use Rattle.master_log_laws.specs.Index.Runs.{course_at}
use Rattle.master_log_laws.specs.Index.Index.{Placed, at, marks_of}
use Rattle.master_log_laws.specs.Index.Dates.{bit, clock, phase_before, next_after, next_place, IsLaterMark, IsOfPhase, ThenBrings, AreDated, IsBroughtBy, IsBroughtAt, Dated}

-- ---- what stands before a place does not change with what comes later
pub before_later : (master : Address) (e : LogEntry) (log : List LogEntry) (i : ℕ) → i ≤ length log → turns_before master (e ∷ log) i ≡ turns_before master log i
before_later master e log i h =
    let z : length (e ∷ log) - i ≡ suc (length log - i) = omega (arith, h) in
    ap (λ (n : ℕ). count_by (is_turn_of master) (drop n (e ∷ log))) z

pub phase_later : (setup : Setup) (e : LogEntry) (log : List LogEntry) (i : ℕ) → i ≤ length log → phase_before setup (e ∷ log) i ≡ phase_before setup log i
phase_later setup e log i h =
    let z : length (e ∷ log) - i ≡ suc (length log - i) = omega (arith, h) in
    ap (λ (n : ℕ). (course_at setup (drop n (e ∷ log))).phase) z

pub before_now : (master : Address) (log : List LogEntry) → turns_before master log (length log) ≡ count_by (is_turn_of master) log
before_now master log =
    let z : length log - length log ≡ 0 = omega arith in
    ap (λ (n : ℕ). count_by (is_turn_of master) (drop n log)) z

pub phase_now : (setup : Setup) (log : List LogEntry) → phase_before setup log (length log) ≡ (course_at setup log).phase
phase_now setup log =
    let z : length log - length log ≡ 0 = omega arith in
    ap (λ (n : ℕ). (course_at setup (drop n log)).phase) z

-- ---- the entry at a place
get_front : {A : Type 0} → (xs ys : List A) (i : ℕ) → i < length xs → slice_get (xs ++ ys) i ≡ slice_get xs i
get_front [] ys i h = absurd (omega (arith, h))
get_front (x ∷ xs) ys zero h = refl
get_front (x ∷ xs) ys (suc i) h = get_front xs ys i (omega (arith, h))

get_back : {A : Type 0} → (xs : List A) (y : A) → slice_get (xs ++ y ∷ []) (length xs) ≡ Some y
get_back [] y = refl
get_back (x ∷ xs) y = get_back xs y

pub entry_later : (e : LogEntry) (log : List LogEntry) (i : ℕ) → i < length log → entry_at (e ∷ log) i ≡ entry_at log i
entry_later e log i h =
    let n : length (reverse log) ≡ length log = length-reverse log in
    ap (λ (z : List LogEntry). slice_get z i) (reverse-append (e ∷ []) log) ∙ get_front (reverse log) (e ∷ []) i (omega (arith, n, h))

pub entry_now : (e : LogEntry) (log : List LogEntry) → entry_at (e ∷ log) (length log) ≡ Some e
entry_now e log =
    let n : length (reverse log) ≡ length log = length-reverse log in
    ap (λ (z : List LogEntry). slice_get z (length log)) (reverse-append (e ∷ []) log) ∙ ap (slice_get (reverse log ++ e ∷ [])) (sym n) ∙ get_back (reverse log) e

pub brings_later : (setup : Setup) (e : LogEntry) (log : List LogEntry) (slave : Slave) (number i : ℕ) → i < length log → Brings setup log slave number i → Brings setup (e ∷ log) slave number i
brings_later setup e log slave number i h b = (b.0, entry_later e log i h ∙ b.1, b.2)

brings_before : (setup : Setup) (e : LogEntry) (log : List LogEntry) (slave : Slave) (number i : ℕ) → i < length log → Brings setup (e ∷ log) slave number i → Brings setup log slave number i
brings_before setup e log slave number i h b = (b.0, sym (entry_later e log i h) ∙ b.1, b.2)

pub brings_within : (setup : Setup) (log : List LogEntry) (slave : Slave) (number i : ℕ) → Brings setup log slave number i → i < length log
brings_within setup log slave number i b =
    let n : length (reverse log) ≡ length log = length-reverse log in
    let h = slice_get_within (reverse log) i b.0 b.1 in
    omega (arith, n, h)

-- ---- one more entry
then_later : (setup : Setup) (e : LogEntry) (log : List LogEntry) (slave : Slave) (place : ℕ) (m : Mark) → ThenBrings setup log slave place m → ThenBrings setup (e ∷ log) slave place m
then_later setup e log slave place (Brought number payload) b = brings_later setup e log slave number place (brings_within setup log slave number place b) b
then_later setup e log slave place (Begun job) b = tt
then_later setup e log slave place (Asked request) b = tt
then_later setup e log slave place Again b = tt
then_later setup e log slave place (Answered request answer) b = tt
then_later setup e log slave place Hinted b = tt
then_later setup e log slave place (Turned settled) b = tt
then_later setup e log slave place (Ended cause) b = tt

dates_later : (setup : Setup) (slave : Slave) (e : LogEntry) (log : List LogEntry) (xs : List Placed) → AreDated setup slave log xs → AreDated setup slave (e ∷ log) xs
dates_later setup slave e log [] d = tt
dates_later setup slave e log (x ∷ xs) d =
    let k = d.0 in
    let below = k.below in
    let P : ℕ → Type 0 = λ n. IsOfPhase x.mark n (count is_begun (x.mark ∷ marks_of xs)) in (
      record {
        later = k.later;
        below = omega (arith, below);
        turns = before_later setup.address e log x.place k.below ∙ k.turns;
        phase = subst P (sym (phase_later setup e log x.place k.below)) k.phase;
        brings = then_later setup e log slave x.place x.mark k.brings;
      },
      dates_later setup slave e log xs d.1,
    )

pub dated_later : (setup : Setup) (slave : Slave) (e : LogEntry) (log : List LogEntry) (until : ℕ) (xs : List Placed) → Dated setup slave log until xs → Dated setup slave (e ∷ log) until xs
dated_later setup slave e log until xs d =
    let below = d.below in
    record {
      low = d.low;
      below = omega (arith, below);
      now = before_later setup.address e log until d.below ∙ d.now;
      dates = dates_later setup slave e log xs d.dates;
      brought = λ number place h b. d.brought number place h (brings_before setup e log slave number place (omega (arith, h, below)) b);
    }

-- what is brought at the newest place, the newest entry brings
pub brings_entry : (setup : Setup) (e : LogEntry) (log : List LogEntry) (slave : Slave) (number : ℕ) → Brings setup (e ∷ log) slave number (length log) → brings_outputs setup.address slave number (payload_size slave.types) e ≡ true
brings_entry setup e log slave number b =
    let same : Some e ≡ Some b.0 = sym (entry_now e log) ∙ b.1 in
    let y : e ≡ b.0 = cc in
    ap (λ (x : LogEntry). brings_outputs setup.address slave number (payload_size slave.types) x) y ∙ b.2

-- ---- an entry that leaves no mark
pub count_more : (p : LogEntry → Bool) (x : LogEntry) (ys : List LogEntry) (b : Bool) → p x ≡ b → count_by p (x ∷ ys) ≡ bit b + count_by p ys
count_more p x ys true f = sum_by-cons (λ (z : LogEntry). if p z then 1 else 0) x ys ∙ ap (λ (t : Bool). (if t then 1 else 0) + count_by p ys) f
count_more p x ys false f = sum_by-cons (λ (z : LogEntry). if p z then 1 else 0) x ys ∙ ap (λ (t : Bool). (if t then 1 else 0) + count_by p ys) f

-- the turns with one more entry
pub turns_more : (setup : Setup) (e : LogEntry) (log : List LogEntry) (b : Bool) → is_turn_of setup.address e ≡ b → turns_before setup.address (e ∷ log) (length (e ∷ log)) ≡ bit b + turns_before setup.address log (length log)
turns_more setup e log b f = before_now setup.address (e ∷ log) ∙ count_more (is_turn_of setup.address) e log b f ∙ ap (λ (n : ℕ). bit b + n) (sym (before_now setup.address log))

brings_not : (setup : Setup) (e : LogEntry) (log : List LogEntry) (slave : Slave) (number : ℕ) → brings_outputs setup.address slave number (payload_size slave.types) e ≡ false → Brings setup (e ∷ log) slave number (length log) → ⊥
brings_not setup e log slave number f b =
    let same : Some e ≡ Some b.0 = sym (entry_now e log) ∙ b.1 in
    let y : e ≡ b.0 = cc in
    clash (sym (ap (λ (x : LogEntry). brings_outputs setup.address slave number (payload_size slave.types) x) y ∙ b.2) ∙ f)
  where
    clash : true ≡ false → ⊥
    clash z = cc

pub dated_skip : (setup : Setup) (slave : Slave) (e : LogEntry) (log : List LogEntry) (xs : List Placed) → is_turn_of setup.address e ≡ false → ((number : ℕ) → brings_outputs setup.address slave number (payload_size slave.types) e ≡ false)
    → Dated setup slave log (length log) xs → Dated setup slave (e ∷ log) (length (e ∷ log)) xs
dated_skip setup slave e log xs turn none d =
    let k = dated_later setup slave e log (length log) xs d in
    let low = d.low in
    let same = turns_more setup e log false turn in
    let now = d.now in
    record {
      low = omega (arith, low);
      below = omega arith;
      now = omega (arith, same, now);
      dates = k.dates;
      brought = λ number place h b. by number place b (cases_lt place (length log)) h;
    }
  where
    by : (number place : ℕ) → Brings setup (e ∷ log) slave number place → (place < length log) ⊎ (length log ≤ place) → place < length (e ∷ log) → IsBroughtAt number place xs
    by number place b (inl l) h = d.brought number place l (brings_before setup e log slave number place l b)
    by number place b (inr l) h =
        let z : place ≡ length log = omega (arith, l, h) in
        let P : ℕ → Type 0 = λ i. Brings setup (e ∷ log) slave number i in
        absurd (brings_not setup e log slave number (none number) (subst P z b))

-- ---- an entry that leaves its mark
-- a mark at the place of an entry: what is brought there has its mark
pub dated_here : (setup : Setup) (slave : Slave) (e : LogEntry) (log : List LogEntry) (m : Mark) (xs : List Placed) → is_turn_of setup.address e ≡ false
    → IsLaterMark (length log) m (length log) → next_after (length log) m (next_place xs) ≡ length (e ∷ log) → clock (m ∷ marks_of xs) ≡ clock (marks_of xs)
    → (next_place xs ≤ length log → IsLaterMark (length log) m (next_place xs))
    → IsOfPhase m (phase_before setup (e ∷ log) (length log)) (count is_begun (m ∷ marks_of xs)) → ThenBrings setup (e ∷ log) slave (length log) m
    → ((number : ℕ) → Brings setup (e ∷ log) slave number (length log) → IsBroughtBy number (length log) (length log) m)
    → Dated setup slave log (length log) xs → Dated setup slave (e ∷ log) (length (e ∷ log)) (at (length log) m ∷ xs)
dated_here setup slave e log m xs turn l next same later phase brings none d =
    let k = dated_later setup slave e log (length log) xs d in
    let n = turns_more setup e log false turn in
    let now = d.now in
    let here : turns_before setup.address (e ∷ log) (length log) ≡ clock (m ∷ marks_of xs) = k.now ∙ sym same in
    record {
      low = omega (arith, next);
      below = omega arith;
      now = omega (arith, n, now, same);
      dates = (record { later = later d.low; below = omega arith; turns = here; phase = phase; brings = brings }, k.dates);
      brought = λ number place h b. by number place b (cases_lt place (length log)) h;
    }
  where
    by : (number place : ℕ) → Brings setup (e ∷ log) slave number place → (place < length log) ⊎ (length log ≤ place) → place < length (e ∷ log) → IsBroughtAt number place (at (length log) m ∷ xs)
    by number place b (inl q) h = inr (d.brought number place q (brings_before setup e log slave number place q b))
    by number place b (inr q) h =
        let z : place ≡ length log = omega (arith, q, h) in
        let P : ℕ → Type 0 = λ i. Brings setup (e ∷ log) slave number i in
        let w = none number (subst P z b) in
        inl (sym z, w.1)

-- a mark right after a turn of the master
pub dated_turned : (setup : Setup) (slave : Slave) (e : LogEntry) (log : List LogEntry) (settled : Bool) (xs : List Placed) → is_turn_of setup.address e ≡ true
    → ((number : ℕ) → brings_outputs setup.address slave number (payload_size slave.types) e ≡ false)
    → Dated setup slave log (length log) xs → Dated setup slave (e ∷ log) (length (e ∷ log)) (at (length (e ∷ log)) (Turned settled) ∷ xs)
dated_turned setup slave e log settled xs turn none d =
    let k = dated_later setup slave e log (length log) xs d in
    let n = turns_more setup e log true turn in
    let now = d.now in
    let low = d.low in
    let here : turns_before setup.address (e ∷ log) (length (e ∷ log)) ≡ clock (Turned settled ∷ marks_of xs) = omega (arith, n, now) in
    record {
      low = omega arith;
      below = omega arith;
      now = here;
      dates = (record { later = omega (arith, low); below = omega arith; turns = here; phase = tt; brings = tt }, k.dates);
      brought = λ number place h b. inr (by number place b (cases_lt place (length log)) h);
    }
  where
    by : (number place : ℕ) → Brings setup (e ∷ log) slave number place → (place < length log) ⊎ (length log ≤ place) → place < length (e ∷ log) → IsBroughtAt number place xs
    by number place b (inl q) h = d.brought number place q (brings_before setup e log slave number place q b)
    by number place b (inr q) h =
        let z : place ≡ length log = omega (arith, q, h) in
        let P : ℕ → Type 0 = λ i. Brings setup (e ∷ log) slave number i in
        absurd (brings_not setup e log slave number (none number) (subst P z b))

-- the first phase begins in a turn that makes no other mark
pub dated_first : (setup : Setup) (slave : Slave) (e : LogEntry) (log : List LogEntry) (job : Job) (xs : List Placed) → is_turn_of setup.address e ≡ true
    → ((number : ℕ) → brings_outputs setup.address slave number (payload_size slave.types) e ≡ false) → list_any is_begun (marks_of xs) ≡ false
    → phase_before setup (e ∷ log) (length (e ∷ log)) ≡ count is_begun (Begun job ∷ marks_of xs)
    → Dated setup slave log (length log) xs → Dated setup slave (e ∷ log) (length (e ∷ log)) (at (length (e ∷ log)) (Begun job) ∷ xs)
dated_first setup slave e log job xs turn none any phase d =
    let k = dated_turned setup slave e log false xs turn none d in
    let low = d.low in
    let p = k.dates in
    let z : bit (list_any is_begun (marks_of xs)) ≡ 0 = ap bit any in
    let same : clock (Begun job ∷ marks_of xs) ≡ clock (Turned false ∷ marks_of xs) = omega (arith, z) in
    record {
      low = omega arith;
      below = omega arith;
      now = k.now ∙ sym same;
      dates = (record { later = omega (arith, low); below = omega arith; turns = k.now ∙ sym same; phase = phase; brings = tt }, p.1);
      brought = λ number place h b. inr (by number place (k.brought number place h b));
    }
  where
    no_mark : (number place : ℕ) → IsBroughtBy number place (length (e ∷ log)) (Turned false) → ⊥
    no_mark number place w = let y = (w.1).1 in cc

    by : (number place : ℕ) → IsBroughtAt number place (at (length (e ∷ log)) (Turned false) ∷ xs) → IsBroughtAt number place xs
    by number place (inl w) = absurd (no_mark number place w)
    by number place (inr w) = w

-- a further phase begins where all have had their turn
pub dated_next : (setup : Setup) (slave : Slave) (log : List LogEntry) (job : Job) (xs : List Placed) → list_any is_begun (marks_of xs) ≡ true
    → phase_before setup log (length log) ≡ count is_begun (Begun job ∷ marks_of xs)
    → Dated setup slave log (length log) xs → Dated setup slave log (length log) (at (length log) (Begun job) ∷ xs)
dated_next setup slave log job xs any phase d =
    let same : clock (Begun job ∷ marks_of xs) ≡ clock (marks_of xs) = ap (λ (t : Bool). count is_turn (marks_of xs) + bit t) (sym any) in
    record {
      low = omega arith;
      below = omega arith;
      now = d.now ∙ sym same;
      dates = (record { later = d.low; below = omega arith; turns = d.now ∙ sym same; phase = phase; brings = tt }, d.dates);
      brought = λ number place h b. inr (d.brought number place h b);
    }

-- an end, at the place of what made it end
pub dated_ended : (setup : Setup) (slave : Slave) (log : List LogEntry) (until n : ℕ) (cause : Cause) (xs : List Placed) → n ≤ length log → turns_before setup.address log n ≡ clock (marks_of xs)
    → Dated setup slave log until xs → Dated setup slave log until (at n (Ended cause) ∷ xs)
dated_ended setup slave log until n cause xs h turn d =
    record {
      low = d.low;
      below = d.below;
      now = d.now;
      dates = (record { later = tt; below = h; turns = turn; phase = tt; brings = tt }, d.dates);
      brought = λ number place k b. inr (d.brought number place k b);
    }
