-- No slave is left alone for long.
use Rattle.std.proofs.Common.{◌≡◌, ◌≢◌, ℕ, zero, suc, ◌+◌, ◌-◌, ◌*◌, ◌<◌, ◌≤◌, ◌⊎◌, inl, inr, Option, Some, None, List, [], ◌∷◌, ◌++◌, map, length, reverse, refl, sym, ap, ◌∙◌, subst, arith, append_assoc, length-append}
use Rattle.std.specs.Prelude.{slice_get, count_by, is_some, true, if◌then◌else◌}
use Rattle.std.proofs.lemmas.List.{length-map}
use Rattle.std.proofs.lemmas.List.Sums.{sum_by-append}
use Rattle.std.proofs.lemmas.Option.{slice_get_within}
use Rattle.dcp_ends.specs.declared.entries.LogEntry.{LogEntry}
use Rattle.slave_desc.specs.declared.descriptions.SlaveDesc.{SlaveDesc}
use Rattle.scenario.specs.declared.scenarios.Scenario.{Scenario}
use Rattle.scenario.specs.Sound.{IsScenario}
use Rattle.log_spec.specs.Log.{DecidedRequest, IsSlaveOf}
use Rattle.log_spec.specs.Moves.{decided_exchanges}
use Rattle.master_spec.specs.declared.setups.Slave.{Slave}
use Rattle.master_spec.specs.declared.setups.Setup.{Setup}
use Rattle.master_spec.specs.Setup.{setup_from, slave_of}
use Rattle.master_spec.specs.Requests.{Asking, Decision, asks, is_turn_of, turns_before}
use Rattle.master_log_laws.specs.Index.Runs.{IsRun}
use Rattle.master_log_laws.specs.Index.Laws.{AreHeard}
use Rattle.master_log_laws.proofs.Index.ByEntry.{entry_by_entry}
use Rattle.master_log_laws.proofs.Index.Dates.{before_now}
use Rattle.master_log_laws.proofs.Failures.Turns.{turns_rise}
use Rattle.master_log_laws.specs.Phases.Laws.{AreDecided, AreOneByOne}
use Rattle.master_log_laws.proofs.Phases.Numbered.{one_by_one}
use Rattle.master_log_laws.proofs.Scenarios.Heard.{setups_heard}
use Rattle.master_laws.specs.Meets.Laws.{note_of}
use Rattle.master_laws.proofs.Meets.Asking.{are_asked}
use Rattle.master_laws.specs.Hears.Laws.{AreDecisions, IsDecision}
use Rattle.master_laws.proofs.Hears.Decided.{are_told}
use Rattle.lockstep_laws.specs.Models.Scenarios.{slave_numbered}
use Rattle.slave_laws.specs.Data.Whole.{slaves_asked}
use Rattle.run_laws.specs.Laws.{parties, IsRunInRounds, IsRunOf}
use Rattle.run_laws.proofs.Rounded.{rounds_are_runs}
use Rattle.run_laws.proofs.Runs.{party, are_parties}
use Rattle.run_laws.proofs.Headline.Moments.{taken_always, served_always}
use Rattle.completeness_laws.specs.Timely.{longest_wait, Timely}
use Rattle.completeness_laws.specs.Completes.{HeartsAreKept}
use Rattle.completeness_laws.proofs.Timely.Prompt.{stays, turns_later}
use Rattle.completeness_laws.proofs.Timely.Asked.{soon}
use Rattle.completeness_laws.proofs.Timely.Alternate.{few_turns}
use Rattle.completeness_laws.proofs.Timely.Firsts.{firsts, firsts_at, grown, IsGrown, sent_before, back_get}

-- ---- the newest request, where no more are decided than these
all_decided : (id : ℕ) (bs : List Asking) (ds : List DecidedRequest) → AreDecided bs → AreDecisions id bs ds → length bs ≤ length ds
all_decided id [] ds d k = omega arith
all_decided id (b ∷ bs) ds d k = by b.decision ds d.0 k (λ es h. all_decided id bs es d.1 h)
  where
    by : (o : Option Decision) (ds : List DecidedRequest) → is_some o ≡ true → IsDecision id b o (AreDecisions id bs) ds → ((es : List DecidedRequest) → AreDecisions id bs es → length bs ≤ length es) → length (b ∷ bs) ≤ length ds
    by None ds h k f = absurd cc
    by (Some d) [] h k f = absurd k
    by (Some d) (e ∷ es) h k f = let z = f es k.1.1 in omega (arith, z)

record IsOpen (bs : List Asking) (n : ℕ) : Type 0 where
  pub newest : Asking
  pub here : slice_get bs 0 ≡ Some newest
  pub waits : newest.decision ≡ None
  pub count : length bs ≡ suc n

newest_open : (id n : ℕ) (bs : List Asking) (ds : List DecidedRequest) → AreOneByOne bs → AreDecisions id bs ds → length ds ≤ n → n < length bs → IsOpen bs n
newest_open id n [] ds o k few more = absurd (omega (arith, more))
newest_open id n (b ∷ bs) ds o k few more = by b.decision refl ds k few
  where
    by : (d : Option Decision) → b.decision ≡ d → (ds : List DecidedRequest) → IsDecision id b d (AreDecisions id bs) ds → length ds ≤ n → IsOpen (b ∷ bs) n
    by None e ds k few = let z = all_decided id bs ds o.1.0 k in record { newest = b; here = refl; waits = e; count = omega (arith, z, few, more) }
    by (Some d) e [] k few = absurd k
    by (Some d) e (x ∷ ds) k few = let z = all_decided id bs ds o.1.0 k.1.1 in absurd (omega (arith, z, few, more))

-- ---- an element within a list
found : {A : Type 0} (xs : List A) (n : ℕ) → n < length xs → (x : A) × (slice_get xs n ≡ Some x)
found [] n h = absurd (omega (arith, h))
found (x ∷ xs) zero h = (x, refl)
found (x ∷ xs) (suc n) h = found xs n (omega (arith, h))

some_length : {A : Type 0} (xs : List A) → xs ≢ [] → 1 ≤ length xs
some_length [] h = absurd (h refl)
some_length (x ∷ xs) h = omega arith

module _ (sc : Scenario) (other : SlaveDesc) (ok : IsScenario sc) (log : List LogEntry) (r : IsRunInRounds sc other log) (t : Timely (setup_from sc) (reverse log)) (s : ℕ) (is : IsSlaveOf (parties sc other) s) where
  abbrev setup : Setup
  setup = setup_from sc

  abbrev slave : Slave
  slave = slave_of sc s (slave_numbered sc other s)

  run : IsRunOf sc other log
  run = rounds_are_runs sc other ok log r

  heard : AreHeard (setup_from sc)
  heard = (setups_heard sc ok).heard

  run_back : (later sofar : List LogEntry) → IsRun (setup_from sc) (later ++ sofar) → IsRun (setup_from sc) sofar
  run_back [] sofar r = r
  run_back (e ∷ later) sofar r = run_back later sofar r.1

  runs : (later sofar : List LogEntry) → reverse log ≡ later ++ sofar → IsRun (setup_from sc) sofar
  runs later sofar e = run_back later sofar (subst (IsRun (setup_from sc)) e (entry_by_entry sc log r.master))

  abbrev served : List LogEntry → ℕ
  served l = length ((slaves_asked sc other).desk s l).served

  abbrev asked : List LogEntry → List Asking
  asked l = asks sc.master (slave_of sc s (slave_numbered sc other s)) l

  -- no more are taken than are asked
  taken : (later sofar : List LogEntry) → reverse log ≡ later ++ sofar → served sofar ≤ length (asked sofar)
  taken later sofar e =
      let k = taken_always sc other ok log run later sofar e s is in
      let a = are_asked (setup_from sc) heard (parties sc other) (are_parties sc other ok) sofar (runs later sofar e) s is (slave_of sc s (slave_numbered sc other s)) (party sc other ok s is) in
      let b = ap length a in
      let c = ap length k.1 in
      let d = length-append k.0 (map (λ e. e.request) ((slaves_asked sc other).desk s sofar).served) in
      let f = length-map ((slaves_asked sc other).desk s sofar).served (λ e. e.request) in
      let g = length-map (asks sc.master (slave_of sc s (slave_numbered sc other s)) sofar) (note_of s) in
      omega (arith, b, c, d, f, g)

  -- where no more than these were taken and one more was asked, the newest request waits
  newest : (later sofar : List LogEntry) → reverse log ≡ later ++ sofar → served sofar < length (asked sofar) → IsOpen (asked sofar) (served sofar)
  newest later sofar e more =
      let k = served_always sc other ok log run later sofar e s is in
      let a = ap length k.1 in
      let b = length-append k.0 (decided_exchanges (parties sc other) s sofar) in
      let w = runs later sofar e in
      let p = party sc other ok s is in
      newest_open s (served sofar) (asked sofar) (decided_exchanges (parties sc other) s sofar)
      (one_by_one (setup_from sc) heard sofar w p.is_in.0 slave p.is_in.1)
      (are_told (setup_from sc) heard (parties sc other) (are_parties sc other ok) sofar w s is slave p)
      (omega (arith, a, b))
      more

  abbrev before : ℕ → ℕ
  before i = turns_before sc.master (reverse log) i

  -- the turns of the master so far
  turns_so_far : (later sofar : List LogEntry) → reverse log ≡ later ++ sofar → before (length sofar) ≡ count_by (is_turn_of sc.master) sofar
  turns_so_far later sofar e = ap (λ (l : List LogEntry). turns_before sc.master l (length sofar)) e ∙ turns_later sc.master later sofar (length sofar) (omega arith) ∙ before_now sc.master sofar

  module _ (later middle earlier : List LogEntry) (e : reverse log ≡ later ++ (middle ++ earlier)) where
    f : reverse log ≡ (later ++ middle) ++ earlier
    f = e ∙ sym (append_assoc later middle earlier)

    -- the request that was taken last, and the one after it
    module _ (n : ℕ) (a b : Asking) (a_is : slice_get (asked (reverse log)) n ≡ Some a) (b_is : slice_get (asked (reverse log)) (suc n) ≡ Some b) where
      -- the one was sent before
      b_before : length (asked (reverse log)) ≤ length (asked earlier) + suc n → b.first < length earlier
      b_before l =
          let g = grown sc.master slave (later ++ middle) earlier in
          let x : firsts (asked (reverse log)) ≡ g.new ++ firsts (asked earlier) = ap (λ (z : List LogEntry). firsts (asked z)) f ∙ g.is in
          let y = firsts_at (asked (reverse log)) (suc n) b b_is in
          let lengths = ap length x in
          let m = length-append g.new (firsts (asked earlier)) in
          let o = length-map (asked (reverse log)) (λ (b : Asking). b.first) in
          let p = length-map (asked earlier) (λ (b : Asking). b.first) in
          by g.new (back_get g.new (firsts (asked earlier)) (suc n) b.first (ap (λ (z : List ℕ). slice_get z (suc n)) (sym x) ∙ y)) (omega (arith, l, lengths, m, o, p))
        where
          by : (new : List ℕ) → (slice_get new (suc n) ≡ Some b.first) ⊎ ((m : ℕ) × (suc n ≡ length new + m) × (slice_get (firsts (asked earlier)) m ≡ Some b.first)) → length new ≤ suc n → b.first < length earlier
          by new (inl h) k = let w = slice_get_within new (suc n) b.first h in absurd (omega (arith, w, k))
          by new (inr h) k = sent_before sc.master slave earlier h.0 b.first h.2

      -- the other was sent after, or was open then
      a_after : length (asked (reverse log)) ≡ n + suc (served (middle ++ earlier)) → before (length (middle ++ earlier)) ≤ before a.first + sc.limits.turn_limit
      a_after l =
          let g = grown sc.master slave later (middle ++ earlier) in
          let x : firsts (asked (reverse log)) ≡ g.new ++ firsts (asked (middle ++ earlier)) = ap (λ (z : List LogEntry). firsts (asked z)) e ∙ g.is in
          let y = firsts_at (asked (reverse log)) n a a_is in
          let lengths = ap length x in
          let m = length-append g.new (firsts (asked (middle ++ earlier))) in
          let o = length-map (asked (reverse log)) (λ (b : Asking). b.first) in
          let p = length-map (asked (middle ++ earlier)) (λ (b : Asking). b.first) in
          by g (back_get g.new (firsts (asked (middle ++ earlier))) n a.first (ap (λ (z : List ℕ). slice_get z n) (sym x) ∙ y)) (omega (arith, l, lengths, m, o, p))
        where
          waited : IsOpen (asked (middle ++ earlier)) (served (middle ++ earlier)) → slice_get (firsts (asked (middle ++ earlier))) 0 ≡ Some a.first → before (length (middle ++ earlier)) ≤ before a.first + sc.limits.turn_limit
          waited w h =
              let z : Some w.newest.first ≡ Some a.first = sym (firsts_at (asked (middle ++ earlier)) 0 w.newest w.here) ∙ h in
              let same : w.newest.first ≡ a.first = cc in
              let k = stays sc.master slave later (middle ++ earlier) 0 w.newest w.here in
              let P : List LogEntry → Type 0 = λ q. slice_get (asked q) k.n ≡ Some k.now in
              let d = t.answers slave (party sc other ok s is).is_in k.n k.now (subst P (sym e) k.here) in
              let late = after d.answer w.newest (k.later d.answer d.told) w.waits in
              let rise = turns_rise sc.master (reverse log) (length (middle ++ earlier)) d.answer.place late in
              let first : turns_before sc.master (reverse log) k.now.first ≡ turns_before sc.master (reverse log) a.first = ap (turns_before sc.master (reverse log)) (k.first ∙ same) in
              let soon = d.soon in
              sums (turns_before sc.master (reverse log) (length (middle ++ earlier))) (turns_before sc.master (reverse log) d.answer.place) (turns_before sc.master (reverse log) k.now.first) (turns_before sc.master (reverse log) a.first) sc.limits.turn_limit rise soon first
            where
              after : (d : Decision) (b : Asking) → (b.decision ≡ Some d) ⊎ (length (middle ++ earlier) ≤ d.place) → b.decision ≡ None → length (middle ++ earlier) ≤ d.place
              after d b (inl z) n = let w : None ≡ Some d = sym n ∙ z in absurd cc
              after d b (inr z) n = z

              sums : (m d k a limit : ℕ) → m ≤ d → d - k < limit → k ≡ a → m ≤ a + limit
              sums m d k a limit h1 h2 h3 = omega (arith, h1, h2, h3)

          by : (g : IsGrown later (middle ++ earlier) sc.master slave) → (slice_get g.new n ≡ Some a.first) ⊎ ((m : ℕ) × (n ≡ length g.new + m) × (slice_get (firsts (asked (middle ++ earlier))) m ≡ Some a.first))
              → length g.new + length (asked (middle ++ earlier)) ≡ n + suc (served (middle ++ earlier)) → before (length (middle ++ earlier)) ≤ before a.first + sc.limits.turn_limit
          by g (inl h) k = let w = turns_rise sc.master (reverse log) (length (middle ++ earlier)) a.first (g.high n a.first h) in omega (arith, w)
          by g (inr h) k =
              let i = h.1 in
              let w = newest later (middle ++ earlier) e (omega (arith, k, i)) in
              let c = w.count in
              let zero_is : h.0 ≡ 0 = omega (arith, k, i, c) in
              waited w (ap (slice_get (firsts (asked (middle ++ earlier)))) (sym zero_is) ∙ h.2)

    -- all together
    kept : (turns : ℕ) → turns ≤ count_by (is_turn_of (slave_numbered sc other s).address) middle → 1 ≤ served earlier → served (middle ++ earlier) ≡ served earlier → served earlier < served (reverse log) → turns ≤ longest_wait sc.limits + 3 * sc.limits.turn_limit + 4
    kept turns had some same more =
        let all = taken [] (reverse log) refl in
        let part = taken (later ++ middle) earlier f in
        let x = found (asked (reverse log)) (length (asked (reverse log)) - suc (served earlier)) (omega (arith, all, more)) in
        let y = found (asked (reverse log)) (suc (length (asked (reverse log)) - suc (served earlier))) (omega (arith, all, more, some)) in
        let n : ℕ = length (asked (reverse log)) - suc (served earlier) in
        let p = party sc other ok s is in
        let w = soon (setup_from sc) slave (reverse log) heard (entry_by_entry sc log r.master) t ok.limits.turn_limit.0 p.is_in.0 p.is_in.1 n x.0 y.0 x.1 y.1 in
        let d = t.answers slave p.is_in (suc n) y.0 y.1 in
        let gap = w d.answer d.told in
        let quick = d.soon in
        let b = b_before n x.0 y.0 x.1 y.1 (omega (arith, all, more, some, part)) in
        let rise = turns_rise sc.master (reverse log) y.0.first (length earlier) (omega (arith, b)) in
        let c = a_after n x.0 y.0 x.1 y.1 (omega (arith, all, more, same)) in
        let few = few_turns sc other ok log r s is later middle earlier e in
        let g = turns_so_far later (middle ++ earlier) e in
        let h = turns_so_far (later ++ middle) earlier f in
        let i = sum_by-append (λ (z : LogEntry). if is_turn_of sc.master z then 1 else 0) middle earlier in
        sums turns (count_by (is_turn_of (slave_numbered sc other s).address) middle) (count_by (is_turn_of sc.master) middle) (count_by (is_turn_of sc.master) earlier) (count_by (is_turn_of sc.master) (middle ++ earlier))
        (turns_before sc.master (reverse log) (length (middle ++ earlier))) (turns_before sc.master (reverse log) (length earlier)) (turns_before sc.master (reverse log) x.0.first) (turns_before sc.master (reverse log) y.0.first) (turns_before sc.master (reverse log) d.answer.place) sc.limits.turn_limit (longest_wait sc.limits)
        had few i g h c gap quick rise
      where
        sums : (turns own all before both at_both at_before a b d limit wait : ℕ) → turns ≤ own → own ≤ all + 1 → both ≡ all + before → at_both ≡ both → at_before ≡ before → at_both ≤ a + limit → a ≤ d + (wait + limit + 1) → d - b < limit → b ≤ at_before → turns ≤ wait + 3 * limit + 4
        sums turns own all before both at_both at_before a b d limit wait h1 h2 h3 h4 h5 h6 h7 h8 h9 = omega (arith, h1, h2, h3, h4, h5, h6, h7, h8, h9)

pub hearts_kept : HeartsAreKept
hearts_kept sc other ok log r t s turns is q =
    kept sc other ok log r t s is q.later q.middle q.earlier q.is turns q.had (some_length ((slaves_asked sc other).desk s q.earlier).served q.begun) (ap length q.none_taken) q.taken
