-- Where the slaves stand in the reference, and against each other.
use Rattle.std.proofs.Common.{◌≡◌, ℕ, ◌+◌, ◌-◌, ◌*◌, ◌/◌, ◌%◌, ◌<◌, ◌≤◌, Bool, true, false, ◌⊎◌, inl, inr, Option, Some, None, List, [], ◌∷◌, ◌++◌, length, refl, sym, ap, ◌∙◌, subst, arith}
use Rattle.std.proofs.lemmas.Bool.{cases_lt}
use Rattle.std.proofs.lemmas.Bool.Decides.{nat_tests}
use Rattle.std.proofs.lemmas.Nat.{mod-mul-add}
use Rattle.log_spec.specs.Messages.{Note}
use Rattle.dcp_ends.specs.declared.entries.LogEntry.{LogEntry}
use Rattle.log_spec.specs.Log.{Parties, IsSlaveOf, requests_sent, DecidedRequest}
use Rattle.log_spec.specs.Moves.{Move, Asks, Comes, Tells, Hears, Brings, Turns, Rests, Other, move, decided_exchanges}
use Rattle.lockstep_laws.specs.Slaves.{Desk, ServesNote}
use Rattle.lockstep_laws.specs.Steps.{RowEvent, Show, Step, Restart, row_event_at, event_asked, place_after, Reply, reply_of, Told, Begins, Does, Rested, Nothing, told_by, told_of, BenchProgress, events_counted, view_after, view, Bench, Idles, BenchStarts, Restarts, TakesOn, BenchShows, StepsOn, BenchFails, HasTurn}
use Rattle.lockstep_laws.specs.Works.{Works}
use Rattle.lockstep_laws.specs.Cast.{ConversingSlaves}
use Rattle.lockstep_laws.specs.Runs.{AreSlaves, Behaves}
use Rattle.lockstep_laws.specs.Laws.{StepTogether, AreInStep, InStep}
use Rattle.lockstep_laws.proofs.Talk.{Behind, requests_of, taken_length}
use Rattle.lockstep_laws.proofs.Conversation.{earlier, drop_later, known}
use Rattle.lockstep_laws.proofs.Local.{IsInTurn, InTurn, Counts, takes_counts, turn_counts, idle_counts}
use Rattle.lockstep_laws.proofs.Barrier.{IsEvent, asked_first, UnderWay, Alone, together, tells}

-- ---- what is served is in turn too
pub open_newest : (y : DecidedRequest) (rs : List Note) (ds : List DecidedRequest) → length (requests_of ds) ≡ length ds → Behind (requests_of (y ∷ ds)) rs → length rs ≤ length ds + 1 → rs ≡ y.request ∷ requests_of ds
open_newest y rs ds l b le = grind arith

pub newest_event : (steps : ℕ) (y : DecidedRequest) (rs : List Note) (ds : List DecidedRequest) → length (requests_of ds) ≡ length ds → rs ≡ y.request ∷ requests_of ds → Alone steps rs ds → IsEvent (event_asked y.request) → ((view ds).waiting ≡ false) × (event_asked y.request ≡ Some (row_event_at steps (view ds).done))
newest_event steps y rs ds l e alone ev =
    let P : Option RowEvent → Type 0 = IsEvent in
    let a = alone (record { one = ap length e ∙ omega (arith, l); event = subst P (sym (ap asked_first e)) ev }) in
    (a.0, sym (ap asked_first e) ∙ a.1)

served_in_turn : (steps : ℕ) (rs : List Note) (ds served : List DecidedRequest) → Behind (requests_of served) rs → Behind ds served → length rs ≤ length ds + 1 → Alone steps rs ds → InTurn steps ds → InTurn steps served
served_in_turn steps rs ds served b (inl e) le alone i = let P : List DecidedRequest → Type 0 = InTurn steps in subst P e i
served_in_turn steps rs ds served b (inr p) le alone i =
    let y = p.0 in
    let Q : List DecidedRequest → Type 0 = λ es. Behind (requests_of es) rs in
    let o = open_newest y rs ds (taken_length ds) (subst Q p.1 b) le in
    let t = tells steps (event_asked y.request) (reply_of y.answer) (view ds) (newest_event steps y rs ds (taken_length ds) o alone) in
    let P : List DecidedRequest → Type 0 = InTurn steps in
    subst P (sym p.1) (t.turn, i)

-- ---- as many events are done as the master counts, or one more while one is under way
abbrev pub Ahead : List Note → List DecidedRequest → Bench → Type 0
Ahead rs ds b = (b.events ≡ (view ds).done) ⊎ ((b.events ≡ (view ds).done + 1) × UnderWay rs ds)

ahead_same : (steps : ℕ) (rs : List Note) (ds : List DecidedRequest) (b : Bench) → Counts steps (view ds) b → Ahead rs ds b
ahead_same steps rs ds b c = grind arith

ahead_told : (steps : ℕ) (q : Option RowEvent) (p : Reply) (v : BenchProgress) (b : Bench) → (IsEvent q → (v.waiting ≡ false) × (q ≡ Some (row_event_at steps v.done))) → Counts steps (view_after (told_by q p) v) b → (b.events ≡ v.done) ⊎ ((b.events ≡ v.done + 1) × ((v.waiting ≡ true) ⊎ IsEvent q))
ahead_told steps q p v b h c = grind arith

ahead_of : (steps : ℕ) (rs : List Note) (ds served : List DecidedRequest) (b : Bench) → Behind (requests_of served) rs → Behind ds served → length rs ≤ length ds + 1 → Alone steps rs ds → Counts steps (view served) b → Ahead rs ds b
ahead_of steps rs ds served b t (inl e) le alone c = let P : List DecidedRequest → Type 0 = λ es. Counts steps (view es) b in ahead_same steps rs ds b (subst P (sym e) c)
ahead_of steps rs ds served b t (inr p) le alone c =
    let y = p.0 in
    let Q : List DecidedRequest → Type 0 = λ es. Behind (requests_of es) rs in
    let o = open_newest y rs ds (taken_length ds) (subst Q p.1 t) le in
    let P : List DecidedRequest → Type 0 = λ es. Counts steps (view es) b in
    by y o (ahead_told steps (event_asked y.request) (reply_of y.answer) (view ds) b (newest_event steps y rs ds (taken_length ds) o alone) (subst P p.1 c))
  where
    by : (y : DecidedRequest) → rs ≡ y.request ∷ requests_of ds → (b.events ≡ (view ds).done) ⊎ ((b.events ≡ (view ds).done + 1) × (((view ds).waiting ≡ true) ⊎ IsEvent (event_asked y.request))) → Ahead rs ds b
    by y o (inl e) = inl e
    by y o (inr (e, inl wait)) = inr (e, inl wait)
    by y o (inr (e, inr ev)) = let R : Option RowEvent → Type 0 = IsEvent in inr (e, inr (record { one = ap length o ∙ omega (arith, taken_length ds); event = subst R (sym (ap asked_first o)) ev }))

close : (U V : Type 0) (es et ms mt : ℕ) → (es ≡ ms) ⊎ ((es ≡ ms + 1) × U) → (et ≡ mt) ⊎ ((et ≡ mt + 1) × V) → ms ≤ mt + 1 → (U → ms ≤ mt) → es ≤ et + 1
close U V es et ms mt p q steps u = grind arith

-- ---- the place as resets and steps
pub record Placed (steps : ℕ) (b : Bench) : Type 0 where
  pub is : place_after b.events ≡ b.resets * (steps + 1) + b.steps
  pub most : b.steps ≤ steps

pub show_is : (steps e : ℕ) → Show ≡ row_event_at steps e → e % 2 ≡ 0
show_is steps e h = grind (arith, nat_tests)

pub step_is : (steps e : ℕ) → Step ≡ row_event_at steps e → (e % 2 ≡ 0 → ⊥) × ((e / 2 + 1) % (steps + 1) ≡ 0 → ⊥)
step_is steps e h = grind (arith, nat_tests)

pub restart_is : (steps e : ℕ) → Restart ≡ row_event_at steps e → (e % 2 ≡ 0 → ⊥) × ((e / 2 + 1) % (steps + 1) ≡ 0)
restart_is steps e h = grind (arith, nat_tests)

pub idle_placed : (steps : ℕ) (b c : Bench) → Idles b c → Placed steps b → Placed steps c
idle_placed steps b c i p = record { is = ap place_after i.events ∙ p.is ∙ sym (ap (λ r. r * (steps + 1) + c.steps) i.resets ∙ ap (λ n. b.resets * (steps + 1) + n) i.steps); most = omega (arith, i.steps, p.most) }

show_placed : (steps : ℕ) (b c : Bench) → BenchShows b c → Show ≡ row_event_at steps b.events → Placed steps b → Placed steps c
show_placed steps b c s k p =
    let even = show_is steps b.events k in
    let e : place_after c.events ≡ place_after b.events = omega (arith, s.events, even) in
    record { is = e ∙ p.is ∙ sym (ap (λ r. r * (steps + 1) + c.steps) s.resets ∙ ap (λ n. b.resets * (steps + 1) + n) s.steps); most = omega (arith, s.steps, p.most) }

not_last : (steps resets n place : ℕ) → place ≡ resets * (steps + 1) + n → n ≤ steps → ((place + 1) % (steps + 1) ≡ 0 → ⊥) → n + 1 ≤ steps
not_last steps resets n place is le no' = by (cases_lt n steps)
  where
    whole : steps ≤ n → (place + 1) % (steps + 1) ≡ 0
    whole ge =
        let same : place + 1 ≡ (resets + 1) * (steps + 1) + 0 = omega (arith, is) in
        ap (λ k. k % (steps + 1)) same ∙ mod-mul-add (resets + 1) (steps + 1) 0 (omega arith)

    by : (n < steps) ⊎ (steps ≤ n) → n + 1 ≤ steps
    by (inl lt) = omega (arith, lt)
    by (inr ge) = absurd (no' (whole ge))

pub is_last : (steps resets n place : ℕ) → place ≡ resets * (steps + 1) + n → n ≤ steps → (place + 1) % (steps + 1) ≡ 0 → n ≡ steps
is_last steps resets n place is le zero' = by (cases_lt n steps)
  where
    by : (n < steps) ⊎ (steps ≤ n) → n ≡ steps
    by (inr ge) = omega (arith, le, ge)
    by (inl lt) =
        let same : place + 1 ≡ resets * (steps + 1) + (n + 1) = omega (arith, is) in
        let m = ap (λ k. k % (steps + 1)) same ∙ mod-mul-add resets (steps + 1) (n + 1) (omega (arith, lt)) in
        absurd (omega (arith, m, zero'))

step_placed : (steps : ℕ) (b c : Bench) → StepsOn b c → Step ≡ row_event_at steps b.events → Placed steps b → Placed steps c
step_placed steps b c s k p =
    let odd = step_is steps b.events k in
    let e : place_after c.events ≡ place_after b.events + 1 = omega (arith, s.events, odd.0) in
    record { is = e ∙ ap (λ k. k + 1) p.is ∙ omega arith ∙ sym (ap (λ r. r * (steps + 1) + c.steps) s.resets ∙ ap (λ n. b.resets * (steps + 1) + n) s.steps); most = omega (arith, s.steps, not_last steps b.resets b.steps (place_after b.events) p.is p.most odd.1) }

restart_placed : (steps : ℕ) (b c : Bench) → Restarts b c → Restart ≡ row_event_at steps b.events → Placed steps b → Placed steps c
restart_placed steps b c s k p =
    let odd = restart_is steps b.events k in
    let e : place_after c.events ≡ place_after b.events + 1 = omega (arith, s.events, odd.0) in
    let n = is_last steps b.resets b.steps (place_after b.events) p.is p.most odd.1 in
    let same : b.resets * (steps + 1) + b.steps + 1 ≡ (b.resets + 1) * (steps + 1) + 0 = omega (arith, n) in
    record { is = e ∙ ap (λ k. k + 1) p.is ∙ same ∙ sym (ap (λ r. r * (steps + 1) + c.steps) s.resets ∙ ap (λ n. (b.resets + 1) * (steps + 1) + n) s.steps); most = omega (arith, s.steps) }

fail_idles : (steps : ℕ) (b c : Bench) → BenchFails b c → Placed steps b → Placed steps c
fail_idles steps b c s p = record { is = ap place_after s.events ∙ p.is ∙ sym (ap (λ r. r * (steps + 1) + c.steps) s.resets ∙ ap (λ n. b.resets * (steps + 1) + n) s.steps); most = omega (arith, s.steps, p.most) }

pub busy_is : (steps : ℕ) (k : RowEvent) (v : BenchProgress) (b : Bench) → b.busy ≡ Some k → Counts steps v b → k ≡ row_event_at steps b.events
busy_is steps k v b h c = grind arith

pub free_counted : (steps : ℕ) (v : BenchProgress) (b : Bench) → b.busy ≡ None → b.faulty ≡ false → Counts steps v b → b.events ≡ events_counted v
free_counted steps v b free sound c = grind arith

pub turn_placed : (steps : ℕ) (v : BenchProgress) (b c : Bench) → HasTurn b c → Counts steps v b → Placed steps b → Placed steps c
turn_placed steps v b c (inl i) n p = idle_placed steps b c i p
turn_placed steps v b c (inr (inl s)) n p = show_placed steps b c s (busy_is steps Show v b s.under_way n) p
turn_placed steps v b c (inr (inr (inl s))) n p = step_placed steps b c s (busy_is steps Step v b s.under_way n) p
turn_placed steps v b c (inr (inr (inr s))) n p = fail_idles steps b c s p

start_idles : (k : RowEvent) (b c : Bench) (steps : ℕ) → BenchStarts k b c → Placed steps b → Placed steps c
start_idles k b c steps s p = record { is = ap place_after s.events ∙ p.is ∙ sym (ap (λ r. r * (steps + 1) + c.steps) s.resets ∙ ap (λ n. b.resets * (steps + 1) + n) s.steps); most = omega (arith, s.steps, p.most) }

pub take_placed : (steps : ℕ) (t : Told) (v : BenchProgress) (b c : Bench) → IsInTurn steps t v → TakesOn t b c → Counts steps v b → Placed steps b → Placed steps c
take_placed steps (Begins k) v b c i h n p = start_idles k b c steps h p
take_placed steps Does v b c i h n p = restart_placed steps b c h (i ∙ ap (row_event_at steps) (sym (free_counted steps v b h.free h.sound n))) p
take_placed steps Rested v b c i h n p = idle_placed steps b c h.idles p
take_placed steps Nothing v b c i h n p = idle_placed steps b c h p

-- ---- one slave, at every moment
pub record Fits (steps : ℕ) (es : List DecidedRequest) (b : Bench) : Type 0 where
  pub counts : Counts steps (view es) b
  pub placed : Placed steps b

same_bench : (steps : ℕ) (es es' : List DecidedRequest) (b c : Bench) → es' ≡ es → c ≡ b → Fits steps es b → Fits steps es' c
same_bench steps es es' b c e h f = let P : List DecidedRequest → Bench → Type 0 = Fits steps in subst (λ l. P l c) (sym e) (subst (λ d. P es d) (sym h) f)

idle_fits : (steps : ℕ) (es es' : List DecidedRequest) (b c : Bench) → es' ≡ es → Idles b c → Fits steps es b → Fits steps es' c
idle_fits steps es es' b c e i f = let P : List DecidedRequest → Type 0 = λ l. Fits steps l c in subst P (sym e) (record { counts = idle_counts steps (view es) b c i f.counts; placed = idle_placed steps b c i f.placed })

takes_fits : (steps : ℕ) (es es' : List DecidedRequest) (b c : Bench) → InTurn steps es' → ((es' ≡ es) × Idles b c) ⊎ ((x : DecidedRequest) × (es' ≡ x ∷ es) × TakesOn (told_of x) b c) → Fits steps es b → Fits steps es' c
takes_fits steps es es' b c i (inl h) f = idle_fits steps es es' b c h.0 h.1 f
takes_fits steps es es' b c i (inr h) f =
    let Q : List DecidedRequest → Type 0 = InTurn steps in
    let j = (subst Q h.1 i).0 in
    let P : List DecidedRequest → Type 0 = λ l. Fits steps l c in
    subst P (sym h.1) (record { counts = takes_counts steps (told_of h.0) (view es) b c j h.2 f.counts; placed = take_placed steps (told_of h.0) (view es) b c j h.2 f.counts f.placed })

pub fits_step : (w : Parties) (accepts : Note → Bool) (steps : ℕ) (mv : Move) (d d' : Desk) (b c : Bench) → InTurn steps d'.served → ServesNote w accepts mv d d' → Works mv d.served d'.served b c → Fits steps d.served b → Fits steps d'.served c
fits_step w accepts steps (Asks n) d d' b c i s h f = same_bench steps d.served d'.served b c (ap (λ z. z.served) s) h f
fits_step w accepts steps (Comes from receiver n) d d' b c i s h f = takes_fits steps d.served d'.served b c i h f
fits_step w accepts steps (Tells to bytes) d d' b c i s h f = same_bench steps d.served d'.served b c s.0 h f
fits_step w accepts steps (Hears n) d d' b c i s h f = same_bench steps d.served d'.served b c (ap (λ z. z.served) s) h f
fits_step w accepts steps (Brings from id n) d d' b c i s h f = idle_fits steps d.served d'.served b c s.served h f
fits_step w accepts steps Turns d d' b c i s h f =
    let P : List DecidedRequest → Type 0 = λ l. Fits steps l c in
    subst P (sym s.served) (record { counts = turn_counts steps (view d.served) b c h f.counts; placed = turn_placed steps (view d.served) b c h f.counts f.placed })
fits_step w accepts steps Rests d d' b c i s h f = idle_fits steps d.served d'.served b c s.served h f
fits_step w accepts steps Other d d' b c i s h f = same_bench steps d.served d'.served b c (ap (λ z. z.served) s) h f

module _ (w : Parties) (x : ConversingSlaves) (ok : AreSlaves w x) where
  pub in_turn : (log : List LogEntry) → Behaves w x log → (s : ℕ) → IsSlaveOf w s → InTurn x.steps (x.desk s log).served
  in_turn log b s is =
      let k = known w x ok s is log b in
      let t = together w x ok log b in
      served_in_turn x.steps (requests_sent w s log) (decided_exchanges w s log) (x.desk s log).served k.talk.taken k.talk.decided k.talk.asked (t.alone s is) (t.turn s is)

  pub fits : (log : List LogEntry) → Behaves w x log → (s : ℕ) → IsSlaveOf w s → Fits x.steps (x.desk s log).served (x.bench s log)
  fits [] b s is =
      let P : List DecidedRequest → Bench → Type 0 = Fits x.steps in
      subst (λ l. P l (x.bench s [])) (sym (ap (λ z. z.served) (ok.each s is).begins)) (subst (λ c. P [] c) (sym (ok.works s is).begins) (record { counts = inl (refl, refl, refl); placed = record { is = omega arith; most = omega arith } }))
  fits (e ∷ log) b s is =
      let before = earlier w x ok e log b in
      let may = (b.slaves s is).0 in
      fits_step w (x.accepts s) x.steps (move w s e) (x.desk s log) (x.desk s (e ∷ log)) (x.bench s log) (x.bench s (e ∷ log)) (in_turn (e ∷ log) b s is) ((ok.each s is).goes e log may) ((ok.works s is).goes e log may) (fits log before s is)

  pub ahead : (log : List LogEntry) → Behaves w x log → (s : ℕ) → IsSlaveOf w s → Ahead (requests_sent w s log) (decided_exchanges w s log) (x.bench s log)
  ahead log b s is =
      let k = known w x ok s is log b in
      let t = together w x ok log b in
      ahead_of x.steps (requests_sent w s log) (decided_exchanges w s log) (x.desk s log).served (x.bench s log) k.talk.taken k.talk.decided k.talk.asked (t.alone s is) (fits log b s is).counts

  -- no slave is more than one event ahead of another
  pub events_together : (log : List LogEntry) → Behaves w x log → (s t : ℕ) → IsSlaveOf w s → IsSlaveOf w t → (x.bench s log).events ≤ (x.bench t log).events + 1
  events_together log b s t p q =
      let at = together w x ok log b in
      close (UnderWay (requests_sent w s log) (decided_exchanges w s log)) (UnderWay (requests_sent w t log) (decided_exchanges w t log)) (x.bench s log).events (x.bench t log).events (view (decided_exchanges w s log)).done (view (decided_exchanges w t log)).done
      (ahead log b s p) (ahead log b t q) (at.events s t p q) (at.under_way s t p q)

near : (m n : ℕ) → m ≤ n + 1 → n ≤ m + 1 → (m / 2 ≤ n / 2 + 1) × ((m + 1) / 2 ≤ n / 2 + 1) × (m / 2 ≤ (n + 1) / 2)
near m n h k = (omega (arith, h, k), omega (arith, h, k), omega (arith, h, k))

pub step_together : (w : Parties) (x : ConversingSlaves) → AreSlaves w x → (later log : List LogEntry) → Behaves w x (later ++ log) → StepTogether w x log
step_together w x ok later log b s t p q =
    let h = drop_later w x ok later log b in
    let n = near (x.bench s log).events (x.bench t log).events (events_together w x ok log h s t p q) (events_together w x ok log h t s q p) in
    record { places = n.0; shown = n.1; behind = n.2 }

-- two places that are at most one apart, as resets and steps
apart_resets : (d a m b n : ℕ) → a < b → m ≤ d → b * (d + 1) + n ≤ a * (d + 1) + m + 1 → (b ≡ a + 1) × (n ≡ 0) × (m ≡ d)
apart_resets d a m b n lt le h = by (b - a - 1) (omega (arith, lt))
  where
    by : (k : ℕ) → b ≡ a + 1 + k → (b ≡ a + 1) × (n ≡ 0) × (m ≡ d)
    by k e =
        let s : b * (d + 1) ≡ a * (d + 1) + (d + 1) + (k * d + k) = ap (λ i. i * (d + 1)) e ∙ omega arith in
        (omega (arith, s, h, le, e), omega (arith, s, h, le), omega (arith, s, h, le))

same_resets : (d a m b n : ℕ) → a ≡ b → a * (d + 1) + m ≤ b * (d + 1) + n + 1 → m ≤ n + 1
same_resets d a m b n e h = let s = ap (λ i. i * (d + 1)) e in omega (arith, s, h)

in_step_by : (d a m b n : ℕ) → m ≤ d → n ≤ d → a * (d + 1) + m ≤ b * (d + 1) + n + 1 → b * (d + 1) + n ≤ a * (d + 1) + m + 1
    → ((a ≡ b) × (m ≤ n + 1) × (n ≤ m + 1)) ⊎ (((a ≡ b + 1) × (m ≡ 0) × (n ≡ d)) ⊎ ((b ≡ a + 1) × (n ≡ 0) × (m ≡ d)))
in_step_by d a m b n lm ln h k = by (cases_lt a b) (cases_lt b a)
  where
    by : (a < b) ⊎ (b ≤ a) → (b < a) ⊎ (a ≤ b) → ((a ≡ b) × (m ≤ n + 1) × (n ≤ m + 1)) ⊎ (((a ≡ b + 1) × (m ≡ 0) × (n ≡ d)) ⊎ ((b ≡ a + 1) × (n ≡ 0) × (m ≡ d)))
    by (inl lt) c = inr (inr (apart_resets d a m b n lt lm k))
    by (inr ge) (inl lt) = inr (inl (apart_resets d b n a m lt ln h))
    by (inr ge) (inr le) =
        let e : a ≡ b = omega (arith, ge, le) in
        inl (e, same_resets d a m b n e h, same_resets d b n a m (sym e) k)

in_step_of : (d : ℕ) (b c : Bench) → Placed d b → Placed d c → place_after b.events ≤ place_after c.events + 1 → place_after c.events ≤ place_after b.events + 1 → AreInStep d b c
in_step_of d b c p q h k = in_step_by d b.resets b.steps c.resets c.steps p.most q.most (omega (arith, p.is, q.is, h)) (omega (arith, p.is, q.is, k))

pub in_step : (w : Parties) (x : ConversingSlaves) → AreSlaves w x → (later log : List LogEntry) → Behaves w x (later ++ log) → InStep w x log
in_step w x ok later log b s t p q =
    let h = drop_later w x ok later log b in
    in_step_of x.steps (x.bench s log) (x.bench t log) (fits w x ok log h s p).placed (fits w x ok log h t q).placed (step_together w x ok later log b s t p q).places (step_together w x ok later log b t s q p).places
