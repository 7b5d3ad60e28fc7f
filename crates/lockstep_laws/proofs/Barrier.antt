-- No slave is more than one row event ahead of another.
use Rattle.std.proofs.Common.{◌≡◌, ℕ, ◌+◌, ◌≤◌, Bool, true, false, if◌then◌else◌, ◌⊎◌, inl, inr, Option, Some, None, List, [], ◌∷◌, length, refl, sym, ap, ◌∙◌, subst, arith}
use Rattle.std.specs.List.{cons_option}
use Rattle.std.proofs.lemmas.Bool.Decides.{nat_tests}
use Rattle.log_spec.specs.Messages.{Note}
use Rattle.log_spec.specs.Channel.{by_ordinal, IsRegularChannel}
use Rattle.dcp_ends.specs.declared.entries.LogEntry.{LogEntry}
use Rattle.log_spec.specs.Log.{Parties, IsSlaveOf, Requests, sends_in, requests_sent, DecidedRequest}
use Rattle.log_spec.specs.Moves.{Move, Asks, Comes, Tells, Hears, Brings, Turns, Rests, Other, move, decides, with_newest, decided_after, decided_exchanges}
use Rattle.log_spec.proofs.Channel.{grown_again, grown_next}
use Rattle.log_spec.proofs.Moves.{asked, requests_by_move}
use Rattle.lockstep_laws.specs.Steps.{RowEvent, row_event_at, event_asked, Reply, reply_of, Told, told_by, BenchProgress, view_after, view}
use Rattle.lockstep_laws.specs.Master.{MasterMay, IsLeast}
use Rattle.lockstep_laws.specs.Cast.{ConversingSlaves}
use Rattle.lockstep_laws.specs.Runs.{AreSlaves, Behaves}
use Rattle.lockstep_laws.proofs.Conversation.{earlier, known}
use Rattle.lockstep_laws.proofs.Local.{IsInTurn, InTurn}

abbrev pub IsEvent : Option RowEvent → Type 0
IsEvent None = ⊥
IsEvent (Some k) = Unit {0}

abbrev pub asked_first : List Note → Option RowEvent
asked_first [] = None
asked_first (r ∷ rs) = event_asked r

-- the newest request asks for a row event, and is open
pub record IsOpen (rs : List Note) (ds : List DecidedRequest) : Type 0 where
  pub one : length rs ≡ length ds + 1
  pub event : IsEvent (asked_first rs)

abbrev pub UnderWay : List Note → List DecidedRequest → Type 0
UnderWay rs ds = ((view ds).waiting ≡ true) ⊎ IsOpen rs ds

abbrev pub Alone : ℕ → List Note → List DecidedRequest → Type 0
Alone steps rs ds = IsOpen rs ds → ((view ds).waiting ≡ false) × (asked_first rs ≡ Some (row_event_at steps (view ds).done))

-- how an entry changes what is done, and whether an event is under way; Least says that no slave has done fewer
pub record Goes (steps : ℕ) (Least : Type 0) (rs : List Note) (ds : List DecidedRequest) (rs' : List Note) (ds' : List DecidedRequest) : Type 0 where
  pub grows : ((view ds').done ≡ (view ds).done) ⊎ (UnderWay rs ds × ((view ds').done ≡ (view ds).done + 1) × (UnderWay rs' ds' → ⊥))
  pub begins : UnderWay rs' ds' → UnderWay rs ds ⊎ Least
  pub alone : Alone steps rs' ds'
  pub turn : InTurn steps ds → InTurn steps ds'

stays : (steps : ℕ) (Least : Type 0) (rs : List Note) (ds : List DecidedRequest) → Alone steps rs ds → Goes steps Least rs ds rs ds
stays steps Least rs ds alone = record { grows = inl refl; begins = λ u. inl u; alone = alone; turn = λ i. i }

not_open : (rs : List Note) (ds : List DecidedRequest) → length ds ≡ length rs → IsOpen rs ds → ⊥
not_open rs ds closed o = omega (arith, o.one, closed)

asks : (steps : ℕ) (Least : Type 0) (n : Note) (rs : List Note) (ds : List DecidedRequest) → length ds ≡ length rs → ((k : RowEvent) → event_asked n ≡ Some k → ((view ds).waiting ≡ false) × (k ≡ row_event_at steps (view ds).done) × Least) → Goes steps Least rs ds (n ∷ rs) ds
asks steps Least n rs ds closed may = record { grows = inl refl; begins = begins; alone = λ o. alone (event_asked n) refl o.event; turn = λ i. i }
  where
    begins : UnderWay (n ∷ rs) ds → UnderWay rs ds ⊎ Least
    begins (inl wait) = inl (inl wait)
    begins (inr o) = by (event_asked n) refl o.event
      where
        by : (q : Option RowEvent) → event_asked n ≡ q → IsEvent q → UnderWay rs ds ⊎ Least
        by None e h = absurd h
        by (Some k) e h = inr (may k e).2

    alone : (q : Option RowEvent) → event_asked n ≡ q → IsEvent q → ((view ds).waiting ≡ false) × (event_asked n ≡ Some (row_event_at steps (view ds).done))
    alone None e h = absurd h
    alone (Some k) e h = let m = may k e in (m.0, e ∙ ap (λ j. Some j) m.1)

-- what a decision tells
pub record Tells' (steps : ℕ) (q : Option RowEvent) (t : Told) (v : BenchProgress) : Type 0 where
  pub grows : ((view_after t v).done ≡ v.done) ⊎ (((v.waiting ≡ true) ⊎ IsEvent q) × ((view_after t v).done ≡ v.done + 1) × ((view_after t v).waiting ≡ false))
  pub begins : (view_after t v).waiting ≡ true → (v.waiting ≡ true) ⊎ IsEvent q
  pub turn : IsInTurn steps t v

pub tells : (steps : ℕ) (q : Option RowEvent) (p : Reply) (v : BenchProgress) → (IsEvent q → (v.waiting ≡ false) × (q ≡ Some (row_event_at steps v.done))) → Tells' steps q (told_by q p) v
tells steps q p v h = grind arith

decided_one : (steps : ℕ) (Least : Type 0) (a r : Note) (rest : List Note) (ds : List DecidedRequest) → length (r ∷ rest) ≡ length ds + 1 → Alone steps (r ∷ rest) ds → Goes steps Least (r ∷ rest) ds (r ∷ rest) (record { request = r; answer = a } ∷ ds)
decided_one steps Least a r rest ds one alone =
    let e : DecidedRequest = record { request = r; answer = a } in
    let t = tells steps (event_asked r) (reply_of a) (view ds) (λ ev. alone (record { one = one; event = ev })) in
    record {
      grows = grows t.grows;
      begins = begins t.begins;
      alone = λ o. absurd (closed o.one);
      turn = λ i. (t.turn, i);
    }
  where
    closed : length (r ∷ rest) ≡ length (record { request = r; answer = a } ∷ ds) + 1 → ⊥
    closed o = let more : length (record { request = r; answer = a } ∷ ds) ≡ length ds + 1 = omega arith in omega (arith, one, o, more)

    open' : ((view ds).waiting ≡ true) ⊎ IsEvent (event_asked r) → UnderWay (r ∷ rest) ds
    open' (inl wait) = inl wait
    open' (inr ev) = inr (record { one = one; event = ev })

    never : (v : BenchProgress) → v.waiting ≡ false → (v.waiting ≡ true) ⊎ IsOpen (r ∷ rest) (record { request = r; answer = a } ∷ ds) → ⊥
    never v wait (inl w) = absurd cc
    never v wait (inr o) = closed o.one

    grows : ((view (record { request = r; answer = a } ∷ ds)).done ≡ (view ds).done) ⊎ ((((view ds).waiting ≡ true) ⊎ IsEvent (event_asked r)) × ((view (record { request = r; answer = a } ∷ ds)).done ≡ (view ds).done + 1) × ((view (record { request = r; answer = a } ∷ ds)).waiting ≡ false))
        → ((view (record { request = r; answer = a } ∷ ds)).done ≡ (view ds).done) ⊎ (UnderWay (r ∷ rest) ds × ((view (record { request = r; answer = a } ∷ ds)).done ≡ (view ds).done + 1) × (UnderWay (r ∷ rest) (record { request = r; answer = a } ∷ ds) → ⊥))
    grows (inl e) = inl e
    grows (inr g) = inr (open' g.0, g.1, never (view (record { request = r; answer = a } ∷ ds)) g.2)

    begins : ((view (record { request = r; answer = a } ∷ ds)).waiting ≡ true → ((view ds).waiting ≡ true) ⊎ IsEvent (event_asked r)) → UnderWay (r ∷ rest) (record { request = r; answer = a } ∷ ds) → UnderWay (r ∷ rest) ds ⊎ Least
    begins f (inl wait) = inl (open' (f wait))
    begins f (inr o) = absurd (closed o.one)

hears : (steps : ℕ) (Least : Type 0) (a : Note) (rs : List Note) (ds : List DecidedRequest) → length rs ≤ length ds + 1 → Alone steps rs ds → Goes steps Least rs ds rs (if decides a rs ds then with_newest rs a ds else ds)
hears steps Least a [] ds le alone = by (decides a [] ds)
  where
    by : (b : Bool) → Goes steps Least [] ds [] (if b then ds else ds)
    by true = stays steps Least [] ds alone
    by false = stays steps Least [] ds alone
hears steps Least a (r ∷ rest) ds le alone = by (decides a (r ∷ rest) ds) refl
  where
    one : decides a (r ∷ rest) ds ≡ true → length (r ∷ rest) ≡ length ds + 1
    one d = grind (arith, nat_tests, d, le)

    by : (b : Bool) → decides a (r ∷ rest) ds ≡ b → Goes steps Least (r ∷ rest) ds (r ∷ rest) (if b then (record { request = r; answer = a } ∷ ds) else ds)
    by true e = decided_one steps Least a r rest ds (one e) alone
    by false e = stays steps Least (r ∷ rest) ds alone

module _ (w : Parties) (x : ConversingSlaves) (s : ℕ) where
  -- a row event was asked here
  abbrev pub Leasts : List LogEntry → Type 0
  Leasts log = (k : RowEvent) × IsLeast w x s k log

  goes_by : (log : List LogEntry) (mv : Move) → MasterMay w x s mv log → IsRegularChannel (sends_in w (Requests s) log) → length (requests_sent w s log) ≤ length (decided_exchanges w s log) + 1 → Alone x.steps (requests_sent w s log) (decided_exchanges w s log)
      → Goes x.steps (Leasts log) (requests_sent w s log) (decided_exchanges w s log) (by_ordinal (cons_option (asked mv) (sends_in w (Requests s) log))) (decided_after mv (requests_sent w s log) (decided_exchanges w s log))
  goes_by log (Asks n) (inl rep) reg le alone =
      let P : List Note → Type 0 = λ rs. Goes x.steps (Leasts log) (requests_sent w s log) (decided_exchanges w s log) rs (decided_exchanges w s log) in
      subst P (sym (grown_again n (sends_in w (Requests s) log) reg rep)) (stays x.steps (Leasts log) (requests_sent w s log) (decided_exchanges w s log) alone)
  goes_by log (Asks n) (inr new) reg le alone =
      let P : List Note → Type 0 = λ rs. Goes x.steps (Leasts log) (requests_sent w s log) (decided_exchanges w s log) rs (decided_exchanges w s log) in
      subst P (sym (grown_next n (sends_in w (Requests s) log) reg new.number)) (asks x.steps (Leasts log) n (requests_sent w s log) (decided_exchanges w s log) new.closed (λ k e. let b = new.barrier k e in (b.free, b.next, (k, b))))
  goes_by log (Comes from receiver n) m reg le alone = stays x.steps (Leasts log) (requests_sent w s log) (decided_exchanges w s log) alone
  goes_by log (Tells to bytes) m reg le alone = stays x.steps (Leasts log) (requests_sent w s log) (decided_exchanges w s log) alone
  goes_by log (Hears a) m reg le alone = hears x.steps (Leasts log) a (requests_sent w s log) (decided_exchanges w s log) le alone
  goes_by log (Brings from id n) m reg le alone = stays x.steps (Leasts log) (requests_sent w s log) (decided_exchanges w s log) alone
  goes_by log Turns m reg le alone = stays x.steps (Leasts log) (requests_sent w s log) (decided_exchanges w s log) alone
  goes_by log Rests m reg le alone = stays x.steps (Leasts log) (requests_sent w s log) (decided_exchanges w s log) alone
  goes_by log Other m reg le alone = stays x.steps (Leasts log) (requests_sent w s log) (decided_exchanges w s log) alone

-- of two slaves
pub record Together (w : Parties) (steps : ℕ) (log : List LogEntry) : Type 0 where
  pub alone : (s : ℕ) → IsSlaveOf w s → Alone steps (requests_sent w s log) (decided_exchanges w s log)
  pub turn : (s : ℕ) → IsSlaveOf w s → InTurn steps (decided_exchanges w s log)
  pub events : (s t : ℕ) → IsSlaveOf w s → IsSlaveOf w t → (view (decided_exchanges w s log)).done ≤ (view (decided_exchanges w t log)).done + 1
  pub under_way : (s t : ℕ) → IsSlaveOf w s → IsSlaveOf w t → UnderWay (requests_sent w s log) (decided_exchanges w s log) → (view (decided_exchanges w s log)).done ≤ (view (decided_exchanges w t log)).done

no_less : (steps : ℕ) (Least : Type 0) (rs : List Note) (ds : List DecidedRequest) (rs' : List Note) (ds' : List DecidedRequest) → Goes steps Least rs ds rs' ds' → (view ds).done ≤ (view ds').done
no_less steps Least rs ds rs' ds' g = let h = g.grows in grind (arith, h)

events_more : (steps : ℕ) (Least : Type 0) (rs : List Note) (ds : List DecidedRequest) (rs' : List Note) (ds' : List DecidedRequest) (t t' : ℕ) → Goes steps Least rs ds rs' ds' → t ≤ t' → (view ds).done ≤ t + 1 → (UnderWay rs ds → (view ds).done ≤ t) → (view ds').done ≤ t' + 1
events_more steps Least rs ds rs' ds' t t' g le h u = by g.grows
  where
    by : ((view ds').done ≡ (view ds).done) ⊎ (UnderWay rs ds × ((view ds').done ≡ (view ds).done + 1) × (UnderWay rs' ds' → ⊥)) → (view ds').done ≤ t' + 1
    by (inl e) = omega (arith, e, le, h)
    by (inr p) = omega (arith, p.1, le, u p.0)

under_way_more : (steps : ℕ) (rs : List Note) (ds : List DecidedRequest) (rs' : List Note) (ds' : List DecidedRequest) (t t' : ℕ) → Goes steps ((view ds).done ≤ t) rs ds rs' ds' → t ≤ t' → (UnderWay rs ds → (view ds).done ≤ t) → UnderWay rs' ds' → (view ds').done ≤ t'
under_way_more steps rs ds rs' ds' t t' g le u now = by g.grows (g.begins now)
  where
    by : ((view ds').done ≡ (view ds).done) ⊎ (UnderWay rs ds × ((view ds').done ≡ (view ds).done + 1) × (UnderWay rs' ds' → ⊥)) → UnderWay rs ds ⊎ ((view ds).done ≤ t) → (view ds').done ≤ t'
    by (inl e) (inl b) = omega (arith, e, le, u b)
    by (inl e) (inr b) = omega (arith, e, le, b)
    by (inr p) b = absurd (p.2 now)

weaker : (steps : ℕ) (L M : Type 0) (rs : List Note) (ds : List DecidedRequest) (rs' : List Note) (ds' : List DecidedRequest) → (L → M) → Goes steps L rs ds rs' ds' → Goes steps M rs ds rs' ds'
weaker steps L M rs ds rs' ds' f g = record { grows = g.grows; begins = λ u. by (g.begins u); alone = g.alone; turn = g.turn }
  where
    by : UnderWay rs ds ⊎ L → UnderWay rs ds ⊎ M
    by (inl u) = inl u
    by (inr l) = inr (f l)

module _ (w : Parties) (x : ConversingSlaves) (ok : AreSlaves w x) where
  pub goes : (e : LogEntry) (log : List LogEntry) → Behaves w x (e ∷ log) → (s : ℕ) → IsSlaveOf w s → Alone x.steps (requests_sent w s log) (decided_exchanges w s log) → Goes x.steps (Leasts w x s log) (requests_sent w s log) (decided_exchanges w s log) (requests_sent w s (e ∷ log)) (decided_exchanges w s (e ∷ log))
  goes e log b s is alone =
      let k = known w x ok s is log (earlier w x ok e log b) in
      let g = goes_by w x s log (move w s e) (b.master.0 s is) k.requests k.talk.asked alone in
      let P : Option Note → Type 0 = λ n. Goes x.steps (Leasts w x s log) (requests_sent w s log) (decided_exchanges w s log) (by_ordinal (cons_option n (sends_in w (Requests s) log))) (decided_exchanges w s (e ∷ log)) in
      subst P (sym (requests_by_move w s e)) g

  pub together : (log : List LogEntry) → Behaves w x log → Together w x.steps log
  together [] b = record { alone = λ s is o. absurd (o.event); turn = λ s is. tt; events = λ s t p q. omega arith; under_way = λ s t p q u. omega arith }
  together (e ∷ log) b =
      let before = together log (earlier w x ok e log b) in
      let g = λ (s : ℕ) (is : IsSlaveOf w s). goes e log b s is (before.alone s is) in
      let L = λ (s : ℕ). Leasts w x s log in
      record {
        alone = λ s is. (g s is).alone;
        turn = λ s is. (g s is).turn (before.turn s is);
        events = λ s t p q. events_more x.steps (L s) (requests_sent w s log) (decided_exchanges w s log) (requests_sent w s (e ∷ log)) (decided_exchanges w s (e ∷ log)) (view (decided_exchanges w t log)).done (view (decided_exchanges w t (e ∷ log))).done (g s p)
            (no_less x.steps (L t) (requests_sent w t log) (decided_exchanges w t log) (requests_sent w t (e ∷ log)) (decided_exchanges w t (e ∷ log)) (g t q)) (before.events s t p q) (before.under_way s t p q);
        under_way = λ s t p q. under_way_more x.steps (requests_sent w s log) (decided_exchanges w s log) (requests_sent w s (e ∷ log)) (decided_exchanges w s (e ∷ log)) (view (decided_exchanges w t log)).done (view (decided_exchanges w t (e ∷ log))).done
            (weaker x.steps (L s) ((view (decided_exchanges w s log)).done ≤ (view (decided_exchanges w t log)).done) (requests_sent w s log) (decided_exchanges w s log) (requests_sent w s (e ∷ log)) (decided_exchanges w s (e ∷ log)) (λ l. l.1.least t q) (g s p))
            (no_less x.steps (L t) (requests_sent w t log) (decided_exchanges w t log) (requests_sent w t (e ∷ log)) (decided_exchanges w t (e ∷ log)) (g t q)) (before.under_way s t p q);
      }
