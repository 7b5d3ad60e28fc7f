-- The data messages of an id, and what is kept of them.
use Rattle.std.proofs.Common.{◌≡◌, ℕ, zero, suc, ◌+◌, ◌*◌, ◌/◌, ◌%◌, ◌<◌, ◌≤◌, Bool, true, false, if◌then◌else◌, ◌⊎◌, inl, inr, Option, Some, None, List, [], ◌∷◌, length, refl, sym, ap, ◌∙◌, subst, arith}
use Rattle.std.specs.Prelude.{◌==◌, ◌&&◌}
use Rattle.std.specs.List.{cons_option}
use Rattle.std.proofs.lemmas.Bool.{cond-true, cases_lt}
use Rattle.dcp_types.specs.declared.addresses.Address.{Address}
use Rattle.log_spec.specs.Messages.{Note, Role, Request, Answer, Value, Else, value_of_id}
use Rattle.log_spec.specs.Channel.{by_ordinal, IsRegularChannel}
use Rattle.dcp_ends.specs.declared.entries.LogEntry.{LogEntry}
use Rattle.dcp_ends.specs.declared.entries.LogEntry.TheVariants.{Sent, Got, Idle, Turn}
use Rattle.log_spec.specs.Log.{Parties, IsSlaveOf, same, role_heard, Values, in_channel, sent_in, sends_in, DecidedRequest}
use Rattle.log_spec.specs.Moves.{Move, Asks, Comes, Tells, Hears, Brings, Turns, Rests, Other, sent_move, got_move, move}
use Rattle.log_spec.proofs.Channel.{grown_next}
use Rattle.log_spec.proofs.Moves.{same_self, told}
use Rattle.lockstep_laws.specs.Slaves.{Post, Desk, tail, IsFirstPost, SlaveMay, ServesNote}
use Rattle.lockstep_laws.specs.Steps.{Show, Step, Bench, Idles, BenchShows, HasTurn, TakesOn, shown_after, row_event_at, told_of, Told, Begins, Does, Rested, Nothing, BenchProgress, view}
use Rattle.lockstep_laws.specs.Cast.{ConversingSlaves}
use Rattle.lockstep_laws.specs.Runs.{AreSlaves, Behaves}
use Rattle.lockstep_laws.specs.Works.{Works}
use Rattle.lockstep_laws.proofs.Conversation.{earlier}
use Rattle.lockstep_laws.proofs.Local.{IsInTurn, InTurn, Counts}
use Rattle.lockstep_laws.proofs.Places.{Placed, Fits, fits, busy_is, show_is, step_is, restart_is, free_counted, in_turn}
use Rattle.lockstep_laws.proofs.Asking.{asked_in_order}
use Rattle.lockstep_laws.specs.Models.Ordinals.{ordinals_below}
use Rattle.lockstep_laws.specs.Models.Machines.{Store, Machines, values_owed, ordinal_here, Emits, AtTurn, Keeps, IsAskedInOrder, AreMachines}
use Rattle.lockstep_laws.proofs.Models.EachQth.{ordinal_is, sent, unsent, count_next}

pub value_part : (w : Parties) (id : ℕ) (from to : Address) (k : Role) → in_channel w (Values id) from to k ≡ value_of_id id k
value_part w id from to (Request receiver n) = refl
value_part w id from to (Answer sender n) = refl
value_part w id from to (Value i n) = refl
value_part w id from to Else = refl

-- each value was sent, or the last one is owed
abbrev pub OwesValue : List Note → List Note → ℕ → Type 0
OwesValue [] sent many = length sent ≡ many
OwesValue (v ∷ []) sent many = (length sent + 1 ≡ many) × (v.number ≡ length sent % 65536)
OwesValue (v ∷ u ∷ more) sent many = ⊥

pub record Sends (ns owed : List Note) (many : ℕ) : Type 0 where
  pub regular : IsRegularChannel ns
  pub owes : OwesValue owed (by_ordinal ns) many

pub owes_value : (v : Note) (qs sent : List Note) (many : ℕ) → OwesValue (v ∷ qs) sent many → (qs ≡ []) × (length sent + 1 ≡ many) × (v.number ≡ length sent % 65536)
owes_value v [] sent many o = (refl, o.0, o.1)
owes_value v (u ∷ more) sent many o = absurd o

same_sends : (ns owed owed' : List Note) (many many' : ℕ) → owed' ≡ owed → many' ≡ many → Sends ns owed many → Sends ns owed' many'
same_sends ns owed owed' many many' e f h = let P : List Note → ℕ → Type 0 = Sends ns in subst (λ o. P o many') (sym e) (subst (λ k. P owed k) (sym f) h)

tells_value : (o : Option Note) (ns owed : List Note) (many : ℕ) → Sends ns (cons_option o owed) many → Sends (cons_option o ns) owed many
tells_value None ns owed many h = h
tells_value (Some v) ns owed many h =
    let c = owes_value v owed (by_ordinal ns) many h.owes in
    let on = grown_next v ns h.regular c.2 in
    let P : List Note → List Note → Type 0 = λ os rs. OwesValue os rs many in
    record { regular = (inr c.2, h.regular); owes = subst (λ os. P os (by_ordinal (v ∷ ns))) (sym c.0) (ap length on ∙ omega (arith, c.1)) }

emits_one : (ns : List Note) (v : Note) (many many' : ℕ) → v.number ≡ many % 65536 → many' ≡ many + 1 → Sends ns [] many → Sends ns (v ∷ []) many'
emits_one ns v many many' num more h =
    let l : length (by_ordinal ns) ≡ many = h.owes in
    record { regular = h.regular; owes = (omega (arith, l, more), num ∙ ap (λ k. k % 65536) (sym l)) }

pub first_value : (w : Parties) (id : ℕ) (to : Address) (bytes : List ℕ) (owed : List Post) → IsFirstPost owed to bytes → values_owed w id owed ≡ cons_option (value_of_id id (role_heard w bytes)) (values_owed w id (tail owed))
first_value w id to bytes [] f = absurd f
first_value w id to bytes (p ∷ ps) f = ap (λ k. cons_option k (values_owed w id ps)) (ap (λ b. value_of_id id (role_heard w b)) f.1)

-- no slave tells data of an id that is not its own
not_first : (w : Parties) (id i : ℕ) (n : Note) (to : Address) (bytes : List ℕ) (owed : List Post) → IsFirstPost owed to bytes → values_owed w id owed ≡ [] → role_heard w bytes ≡ Value i n → None ≡ value_of_id id (Value i n)
not_first w id i n to bytes owed f none e = by (i == id) (sym (first_value w id to bytes owed f ∙ ap (λ k. cons_option (value_of_id id k) (values_owed w id (tail owed))) e) ∙ none)
  where
    by : (b : Bool) → cons_option (if b then Some n else None) (values_owed w id (tail owed)) ≡ [] → None ≡ (if b then Some n else None)
    by true h = absurd cc
    by false h = refl

module _ (w : Parties) (x : ConversingSlaves) (ok : AreSlaves w x) (m : Machines) (are : AreMachines w x m) where
  pub in_order : (log : List LogEntry) → Behaves w x log → (s : ℕ) → IsSlaveOf w s → IsAskedInOrder w x s log
  in_order log b s is = record { run = b.slaves s is; asked = asked_in_order w x ok s is log b }

  module _ (id : ℕ) (is : IsSlaveOf w (m.from id)) where
    abbrev a : ℕ
    a = m.from id

    tells_own : (from to : Address) (bytes : List ℕ) (k : Role) → role_heard w bytes ≡ k → (c : Bool) → value_of_id id k ≡ told (λ b. value_of_id id (role_heard w b)) (if c then Tells to bytes else Other) ⊎ (c ≡ false)
    tells_own from to bytes k e true = inl (sym (ap (value_of_id id) e))
    tells_own from to bytes k e false = inr refl

    no_value : (from to : Address) (bytes : List ℕ) (k : Role) → value_of_id id k ≡ None → role_heard w bytes ≡ k → None ≡ told (λ b. value_of_id id (role_heard w b)) (sent_move w a from to bytes k)
    no_value from to bytes (Request receiver n) z e = by (same from w.master && same to (w.slave a)) (same from (w.slave a))
      where
        by : (b c : Bool) → None ≡ told (λ b. value_of_id id (role_heard w b)) (if b then Asks n else (if c then Tells to bytes else Other))
        by true c = refl
        by false true = sym (ap (value_of_id id) e)
        by false false = refl
    no_value from to bytes (Answer sender n) z e = by (same from (w.slave a))
      where
        by : (c : Bool) → None ≡ told (λ b. value_of_id id (role_heard w b)) (if c then Tells to bytes else Other)
        by true = sym (ap (value_of_id id) e)
        by false = refl
    no_value from to bytes (Value i n) z e = by (same from (w.slave a))
      where
        by : (c : Bool) → None ≡ told (λ b. value_of_id id (role_heard w b)) (if c then Tells to bytes else Other)
        by true = sym (ap (value_of_id id) e ∙ z)
        by false = refl
    no_value from to bytes Else z e = by (same from (w.slave a))
      where
        by : (c : Bool) → None ≡ told (λ b. value_of_id id (role_heard w b)) (if c then Tells to bytes else Other)
        by true = sym (ap (value_of_id id) e)
        by false = refl

    value_tells : (t : ℕ) (from to : Address) (bytes : List ℕ) (i : ℕ) (n : Note) → from ≡ w.slave t → sent_move w t from to bytes (Value i n) ≡ Tells to bytes
    value_tells t from to bytes i n e = by (same from (w.slave t)) (ap (λ f. same f (w.slave t)) e ∙ same_self (w.slave t))
      where
        by : (c : Bool) → c ≡ true → (if c then Tells to bytes else Other) ≡ Tells to bytes
        by c f = cond-true c (Tells to bytes) Other f

    -- a value that another end sends has another id
    others : (log : List LogEntry) (from to : Address) (bytes : List ℕ) (i : ℕ) (n : Note) → Behaves w x (Sent from to bytes ∷ log) → role_heard w bytes ≡ Value i n → (from ≡ w.slave a → ⊥) → value_of_id id (Value i n) ≡ None
    others log from to bytes i n b e other = by b.hosted.0
      where
        by : (from ≡ w.master) ⊎ ((t : ℕ) × IsSlaveOf w t × (from ≡ w.slave t)) → value_of_id id (Value i n) ≡ None
        by (inl h) = let r = b.asks.0 h in absurd (clash r.0 r.1 (sym e ∙ r.2))
          where
            clash : (receiver : ℕ) (k : Note) → Value i n ≡ Request receiver k → ⊥
            clash receiver k q = cc
        by (inr t) =
            let before = earlier w x ok (Sent from to bytes) log b in
            let may = (b.slaves t.0 t.1).0 in
            let P : Move → Type 0 = λ mv. SlaveMay mv (x.desk t.0 log).owed in
            let first = subst P (ap (sent_move w t.0 from to bytes) e ∙ value_tells t.0 from to bytes i n t.2) may in
            let none = (are.holds t.0 t.1).own log (in_order log before t.0 t.1) id (λ (q : m.from id ≡ t.0). other (t.2 ∙ ap w.slave (sym q))) in
            sym (not_first w id i n to bytes (x.desk t.0 log).owed first none e)

    sent_value : (log : List LogEntry) (from to : Address) (bytes : List ℕ) (k : Role) → role_heard w bytes ≡ k → Behaves w x (Sent from to bytes ∷ log) → value_of_id id k ≡ told (λ b. value_of_id id (role_heard w b)) (sent_move w a from to bytes k)
    sent_value log from to bytes (Request receiver n) e b = no_value from to bytes (Request receiver n) refl e
    sent_value log from to bytes (Answer sender n) e b = no_value from to bytes (Answer sender n) refl e
    sent_value log from to bytes (Value i n) e b = by (same from (w.slave a)) refl
      where
        by : (c : Bool) → same from (w.slave a) ≡ c → value_of_id id (Value i n) ≡ told (λ b. value_of_id id (role_heard w b)) (if c then Tells to bytes else Other)
        by true q = sym (ap (value_of_id id) e)
        by false q = others log from to bytes i n b e (λ (f : from ≡ w.slave a). absurd (clash (sym q ∙ ap (λ g. same g (w.slave a)) f ∙ same_self (w.slave a))))
          where
            clash : false ≡ true → ⊥
            clash z = cc
    sent_value log from to bytes Else e b = no_value from to bytes Else refl e

    got_value : (f : List ℕ → Option Note) (at from : Address) (k : Role) → None ≡ told f (got_move w a at from k)
    got_value f at from (Request receiver n) = by (same at (w.slave a))
      where
        by : (c : Bool) → None ≡ told f (if c then Comes from receiver n else Other)
        by true = refl
        by false = refl
    got_value f at from (Answer sender n) = by (same at (w.slave a)) ((same at w.master && same from (w.slave a)) && (sender == a))
      where
        by : (c d : Bool) → None ≡ told f (if c then Rests else (if d then Hears n else Other))
        by true d = refl
        by false true = refl
        by false false = refl
    got_value f at from (Value i n) = by (same at (w.slave a))
      where
        by : (c : Bool) → None ≡ told f (if c then Brings from i n else Other)
        by true = refl
        by false = refl
    got_value f at from Else = by (same at (w.slave a))
      where
        by : (c : Bool) → None ≡ told f (if c then Rests else Other)
        by true = refl
        by false = refl

    pub values_by_move : (e : LogEntry) (log : List LogEntry) → Behaves w x (e ∷ log) → sent_in w (Values id) e ≡ told (λ b. value_of_id id (role_heard w b)) (move w a e)
    values_by_move (Sent from to bytes) log b = value_part w id from to (role_heard w bytes) ∙ sent_value log from to bytes (role_heard w bytes) refl b
    values_by_move (Got at from bytes) log b = got_value (λ b. value_of_id id (role_heard w b)) at from (role_heard w bytes)
    values_by_move (Idle at) log b = by (same at (w.slave a))
      where
        by : (c : Bool) → None ≡ told (λ b. value_of_id id (role_heard w b)) (if c then Rests else Other)
        by true = refl
        by false = refl
    values_by_move (Turn at) log b = by (same at (w.slave a))
      where
        by : (c : Bool) → None ≡ told (λ b. value_of_id id (role_heard w b)) (if c then Turns else Other)
        by true = refl
        by false = refl

-- ---- how many rows are shown
odd_same : (e : ℕ) → (e % 2 ≡ 0 → ⊥) → (e + 1 + 1) / 2 ≡ (e + 1) / 2
odd_same e odd = by (cases_lt 0 (e % 2))
  where
    by : (0 < e % 2) ⊎ (e % 2 ≤ 0) → (e + 1 + 1) / 2 ≡ (e + 1) / 2
    by (inl h) = omega (arith, h)
    by (inr h) = absurd (odd (omega (arith, h)))

even_more : (e : ℕ) → e % 2 ≡ 0 → (e + 1 + 1) / 2 ≡ e / 2 + 1
even_more e even = omega (arith, even)

even_now : (e : ℕ) → e % 2 ≡ 0 → (e + 1) / 2 ≡ e / 2
even_now e even = omega (arith, even)

take_shown : (steps : ℕ) (t : Told) (v : BenchProgress) (b c : Bench) → IsInTurn steps t v → TakesOn t b c → Counts steps v b → shown_after c.events ≡ shown_after b.events
take_shown steps (Begins k) v b c i h n = ap shown_after h.events
take_shown steps Does v b c i h n = let odd = restart_is steps b.events (i ∙ ap (row_event_at steps) (sym (free_counted steps v b h.free h.sound n))) in ap shown_after h.events ∙ odd_same b.events odd.0
take_shown steps Rested v b c i h n = ap shown_after h.idles.events
take_shown steps Nothing v b c i h n = ap shown_after h.events

comes_shown : (steps : ℕ) (es es' : List DecidedRequest) (b c : Bench) → InTurn steps es' → ((es' ≡ es) × Idles b c) ⊎ ((x : DecidedRequest) × (es' ≡ x ∷ es) × TakesOn (told_of x) b c) → Counts steps (view es) b → shown_after c.events ≡ shown_after b.events
comes_shown steps es es' b c i (inl h) n = ap shown_after h.1.events
comes_shown steps es es' b c i (inr h) n = let Q : List DecidedRequest → Type 0 = InTurn steps in take_shown steps (told_of h.0) (view es) b c (subst Q h.1 i).0 h.2 n

module _ (w : Parties) (x : ConversingSlaves) (m : Machines) (s id : ℕ) (own : m.from id ≡ s) (pos : 0 < m.q id) where
  abbrev many : Bench → ℕ
  many b = ordinals_below x.steps (m.q id) (shown_after b.events)

  quiet : (ns : List Note) (posts posts' : List Post) (b c : Bench) → posts ≡ [] → values_owed w id posts' ≡ [] → shown_after c.events ≡ shown_after b.events → Sends ns (values_owed w id posts) (many b) → Sends ns (values_owed w id posts') (many c)
  quiet ns posts posts' b c none none' same h = same_sends ns (values_owed w id posts) (values_owed w id posts') (many b) (many c) (none' ∙ sym (ap (values_owed w id) none)) (ap (ordinals_below x.steps (m.q id)) same) h

  -- the row that is shown has these ordinals below it, and the next
  place_of : (b : Bench) → Placed x.steps b → b.events % 2 ≡ 0 → shown_after b.events ≡ b.resets * (x.steps + 1) + b.steps
  place_of b p even = even_now b.events even ∙ p.is

  pub below_due : (b : Bench) → Placed x.steps b → b.events % 2 ≡ 0 → b.steps % m.q id ≡ 0 → many b ≡ ordinal_here x m id b
  below_due b p even due = ap (ordinals_below x.steps (m.q id)) (place_of b p even) ∙ sent x.steps (m.q id) b.resets b.steps pos p.most due

  below_undue : (b : Bench) → Placed x.steps b → b.events % 2 ≡ 0 → (b.steps % m.q id ≡ 0 → ⊥) → many b ≡ ordinal_here x m id b + 1
  below_undue b p even due = ap (ordinals_below x.steps (m.q id)) (place_of b p even) ∙ unsent x.steps (m.q id) b.resets b.steps pos p.most due

  below_next : (b c : Bench) → Placed x.steps b → b.events % 2 ≡ 0 → c.events ≡ b.events + 1 → many c ≡ ordinal_here x m id b + 1
  below_next b c p even e =
      let s : shown_after c.events ≡ b.resets * (x.steps + 1) + b.steps + 1 = ap shown_after e ∙ even_more b.events even ∙ ap (λ k. k + 1) p.is in
      ap (ordinals_below x.steps (m.q id)) s ∙ count_next x.steps (m.q id) (b.resets * (x.steps + 1) + b.steps) ∙ ap (λ k. k + 1) (ordinal_is x.steps (m.q id) b.resets b.steps pos p.most)

  shows_row : (ns : List Note) (posts posts' : List Post) (b c : Bench) (u : Store) → posts ≡ [] → Placed x.steps b → Show ≡ row_event_at x.steps b.events → BenchShows b c → Emits w x m s id b u posts' → Sends ns (values_owed w id posts) (many b) → Sends ns (values_owed w id posts') (many c)
  shows_row ns posts posts' b c u none p k h em sends' = by (b.steps % m.q id) refl
    where
      even : b.events % 2 ≡ 0
      even = show_is x.steps b.events k

      nothing : Sends ns [] (many b)
      nothing = same_sends ns (values_owed w id posts) [] (many b) (many b) (sym (ap (values_owed w id) none)) refl sends'

      by : (r : ℕ) → r ≡ b.steps % m.q id → Sends ns (values_owed w id posts') (many c)
      by zero z =
          let e = em.sent (sym z) in
          let d = below_due b p even (sym z) in
          let next = below_next b c p even h.events in
          let one = emits_one ns e.0 (many b) (many c) (e.2 ∙ ap (λ k. k % 65536) (sym d)) (next ∙ ap (λ k. k + 1) (sym d)) nothing in
          same_sends ns (e.0 ∷ []) (values_owed w id posts') (many c) (many c) e.1 refl one
      by (suc r) z =
          let no' : b.steps % m.q id ≡ 0 → ⊥ = λ q. absurd (clash r (z ∙ q)) in
          same_sends ns [] (values_owed w id posts') (many b) (many c) (em.unsent no') (below_next b c p even h.events ∙ sym (below_undue b p even no')) nothing
        where
          clash : (r : ℕ) → suc r ≡ 0 → ⊥
          clash r q = omega (arith, q)

  turn_sends : (ns : List Note) (posts posts' : List Post) (es : List DecidedRequest) (b c : Bench) (u v : Store) → posts ≡ [] → Fits x.steps es b → HasTurn b c → AtTurn w x m s b c u v posts' → Sends ns (values_owed w id posts) (many b) → Sends ns (values_owed w id posts') (many c)
  turn_sends ns posts posts' es b c u v none f (inl i) at h = quiet ns posts posts' b c none (at.quiet (inl i) id) (ap shown_after i.events) h
  turn_sends ns posts posts' es b c u v none f (inr (inl sh)) at h = shows_row ns posts posts' b c u none f.placed (busy_is x.steps Show (view es) b sh.under_way f.counts) sh (at.shows sh id own) h
  turn_sends ns posts posts' es b c u v none f (inr (inr (inl st))) at h =
      let odd = step_is x.steps b.events (busy_is x.steps Step (view es) b st.under_way f.counts) in
      quiet ns posts posts' b c none (at.quiet (inr (inl st)) id) (ap shown_after st.events ∙ odd_same b.events odd.0) h
  turn_sends ns posts posts' es b c u v none f (inr (inr (inr fa))) at h = quiet ns posts posts' b c none (at.quiet (inr (inr fa)) id) (ap shown_after fa.events) h

  same_both : (ns : List Note) (d d' : Desk) (b c : Bench) → d' ≡ d → c ≡ b → Sends ns (values_owed w id d.owed) (many b) → Sends ns (values_owed w id d'.owed) (many c)
  same_both ns d d' b c e f h = same_sends ns (values_owed w id d.owed) (values_owed w id d'.owed) (many b) (many c) (ap (λ z. values_owed w id z.owed) e) (ap many f) h

  tells_step : (to : Address) (bytes : List ℕ) (ns : List Note) (d d' : Desk) (b c : Bench) → IsFirstPost d.owed to bytes → d'.owed ≡ tail d.owed → c ≡ b → Sends ns (values_owed w id d.owed) (many b) → Sends (cons_option (value_of_id id (role_heard w bytes)) ns) (values_owed w id d'.owed) (many c)
  tells_step to bytes ns d d' b c first rest same' h =
      let moved = same_sends ns (values_owed w id d.owed) (cons_option (value_of_id id (role_heard w bytes)) (values_owed w id (tail d.owed))) (many b) (many b) (sym (first_value w id to bytes d.owed first)) refl h in
      let on = tells_value (value_of_id id (role_heard w bytes)) ns (values_owed w id (tail d.owed)) (many b) moved in
      same_sends (cons_option (value_of_id id (role_heard w bytes)) ns) (values_owed w id (tail d.owed)) (values_owed w id d'.owed) (many b) (many c) (ap (values_owed w id) rest) (ap many same') on

  sends_step : (accepts : Note → Bool) (mv : Move) (ns : List Note) (d d' : Desk) (b c : Bench) (u v : Store) → InTurn x.steps d'.served → Fits x.steps d.served b → SlaveMay mv d.owed → ServesNote w accepts mv d d' → Works mv d.served d'.served b c → Keeps w x m s mv b c u v d'.owed
      → Sends ns (values_owed w id d.owed) (many b) → Sends (cons_option (told (λ y. value_of_id id (role_heard w y)) mv) ns) (values_owed w id d'.owed) (many c)
  sends_step accepts (Asks n) ns d d' b c u v i f may s' wk k h = same_both ns d d' b c s' wk h
  sends_step accepts (Comes from receiver n) ns d d' b c u v i f may s' wk k h = quiet ns d.owed d'.owed b c may (k.0 id) (comes_shown x.steps d.served d'.served b c i wk f.counts) h
  sends_step accepts (Tells to bytes) ns d d' b c u v i f may s' wk k h = tells_step to bytes ns d d' b c may s'.1 wk h
  sends_step accepts (Hears n) ns d d' b c u v i f may s' wk k h = same_both ns d d' b c s' wk h
  sends_step accepts (Brings from j n) ns d d' b c u v i f may s' wk k h = quiet ns d.owed d'.owed b c may (k.0 id) (ap shown_after wk.events) h
  sends_step accepts Turns ns d d' b c u v i f may s' wk k h = turn_sends ns d.owed d'.owed d.served b c u v may f wk k h
  sends_step accepts Rests ns d d' b c u v i f may s' wk k h = quiet ns d.owed d'.owed b c may (k.0 id) (ap shown_after wk.events) h
  sends_step accepts Other ns d d' b c u v i f may s' wk k h = same_both ns d d' b c s' wk h

module _ (w : Parties) (x : ConversingSlaves) (ok : AreSlaves w x) (m : Machines) (are : AreMachines w x m) (id : ℕ) (is : IsSlaveOf w (m.from id)) where
  abbrev pub SendsAt : List LogEntry → Type 0
  SendsAt log = Sends (sends_in w (Values id) log) (values_owed w id (x.desk (m.from id) log).owed) (ordinals_below x.steps (m.q id) (shown_after (x.bench (m.from id) log).events))

  pub sends_values : (log : List LogEntry) → Behaves w x log → SendsAt log
  sends_values [] b =
      let s = m.from id in
      same_sends [] [] (values_owed w id (x.desk s []).owed) 0 (ordinals_below x.steps (m.q id) (shown_after (x.bench s []).events)) (ap (λ z. values_owed w id z.owed) (ok.each s is).begins) (ap (λ z. ordinals_below x.steps (m.q id) (shown_after z.events)) (ok.works s is).begins ∙ ap (ordinals_below x.steps (m.q id)) half) (record { regular = tt; owes = refl })
    where
      half : (0 + 1) / 2 ≡ zero
      half = refl
  sends_values (e ∷ log) b =
      let s = m.from id in
      let before = earlier w x ok e log b in
      let may = (b.slaves s is).0 in
      let on = sends_step w x m s id refl (are.q id) (x.accepts s) (move w s e) (sends_in w (Values id) log) (x.desk s log) (x.desk s (e ∷ log)) (x.bench s log) (x.bench s (e ∷ log)) (m.store s log) (m.store s (e ∷ log)) (in_turn w x ok (e ∷ log) b s is) (fits w x ok log before s is) may ((ok.each s is).goes e log may) ((ok.works s is).goes e log may)
      ((are.holds s is).goes e log (in_order w x ok m are (e ∷ log) b s is)) (sends_values log before) in
      let P : Option Note → Type 0 = λ n. Sends (cons_option n (sends_in w (Values id) log)) (values_owed w id (x.desk s (e ∷ log)).owed) (ordinals_below x.steps (m.q id) (shown_after (x.bench s (e ∷ log)).events)) in
      subst P (sym (values_by_move w x ok m are id is e log b)) on
