-- In whole rounds each end has sent all that it had to send when any end has its next event.
use Rattle.std.proofs.Common.{◌≡◌, ℕ, suc, Bool, true, false, if◌then◌else◌, List, [], ◌∷◌, ◌++◌, length, reverse, refl, sym, ap, ◌∙◌, subst, arith, append-nil, append_assoc}
use Rattle.std.proofs.lemmas.List.{reverse-append, reverse-reverse}
use Rattle.dcp_types.specs.declared.addresses.Address.{Address}
use Rattle.dcp_ends.specs.declared.entries.LogEntry.{LogEntry}
use Rattle.dcp_ends.specs.declared.entries.LogEntry.TheVariants.{Sent, Got, Idle, Turn}
use Rattle.dcp_ends.specs.Events.{Event, Gram, Tick, Send, Rules}
use Rattle.dcp_ends.specs.Logs.{same_address, events_at, own_at, sent_by, entry_of, answered}
use Rattle.slave_desc.specs.declared.descriptions.SlaveDesc.{SlaveDesc}
use Rattle.scenario.specs.declared.scenarios.Scenario.{Scenario}
use Rattle.scenario.specs.Sound.{IsScenario}
use Rattle.log_spec.specs.Log.{IsSlaveOf, same}
use Rattle.log_spec.specs.Moves.{Rests, Other}
use Rattle.log_spec.proofs.Moves.{same_self}
use Rattle.pdu_layout.specs.Reading.{message_in}
use Rattle.rounds.specs.Rounds.{AllSent, IsGot, IsTurn}
use Rattle.rounds.specs.Told.{Follows}
use Rattle.rounds.proofs.Logs.{events_at-append, own_at-append}
use Rattle.master_spec.specs.Rules.{master_rules}
use Rattle.slave_spec.specs.Slaves.{machine, slave_rules_from}
use Rattle.lockstep_laws.specs.Slaves.{SlaveMay, SlaveRun}
use Rattle.slave_laws.specs.Talk.Desks.{desk_at}
use Rattle.lockstep_laws.specs.Models.Scenarios.{slave_numbered}
use Rattle.lockstep_laws.proofs.Models.Scenarios.{has_parties}
use Rattle.run_laws.specs.Laws.{parties, slave_setup_of, BeginsWithEvent, RestsWhenDone, rules_of_slaves, IsRunInRounds}
use Rattle.run_laws.proofs.Followed.{slave_runs}
use Rattle.run_laws.proofs.Rounded.{whole}

-- ---- every event finds that this end has sent all
abbrev Settled : Address → List LogEntry → Type 0
Settled a [] = Unit {0}
Settled a (Sent from to bytes ∷ log) = Settled a log
Settled a (Got at from bytes ∷ log) = BeginsWithEvent (own_at a (Got at from bytes ∷ log)) × Settled a log
Settled a (Idle at ∷ log) = BeginsWithEvent (own_at a log) × Settled a log
Settled a (Turn at ∷ log) = BeginsWithEvent (own_at a (Turn at ∷ log)) × Settled a log

record IsSettledPart (a : Address) (p : List LogEntry) : Type 0 where
  pub begins : BeginsWithEvent (own_at a p)
  pub settled : Settled a p

events_join : (p q : List LogEntry) → BeginsWithEvent p → BeginsWithEvent q → BeginsWithEvent (p ++ q)
events_join [] q a b = b
events_join (Sent from to bytes ∷ p) q a b = absurd a
events_join (Got at from bytes ∷ p) q a b = tt
events_join (Idle at ∷ p) q a b = tt
events_join (Turn at ∷ p) q a b = tt

own_join : (a : Address) (p q : List LogEntry) → BeginsWithEvent (own_at a p) → BeginsWithEvent (own_at a q) → BeginsWithEvent (own_at a (p ++ q))
own_join a p q x y = let P : List LogEntry → Type 0 = BeginsWithEvent in subst P (sym (own_at-append a p q)) (events_join (own_at a p) (own_at a q) x y)

settled_join : (a : Address) (p q : List LogEntry) → Settled a p → Settled a q → BeginsWithEvent (own_at a q) → Settled a (p ++ q)
settled_join a [] q x y b = y
settled_join a (Sent from to bytes ∷ p) q x y b = settled_join a p q x y b
settled_join a (Got at from bytes ∷ p) q x y b = (own_join a (Got at from bytes ∷ p) q x.0 b, settled_join a p q x.1 y b)
settled_join a (Idle at ∷ p) q x y b = (own_join a p q x.0 b, settled_join a p q x.1 y b)
settled_join a (Turn at ∷ p) q x y b = (own_join a (Turn at ∷ p) q x.0 b, settled_join a p q x.1 y b)

part_join : (a : Address) (p q : List LogEntry) → IsSettledPart a p → IsSettledPart a q → IsSettledPart a (p ++ q)
part_join a p q x y = record { begins = own_join a p q x.begins y.begins; settled = settled_join a p q x.settled y.settled y.begins }

sents_settled : (a b : Address) (part : List LogEntry) → AllSent b part → Settled a part
sents_settled a b [] h = tt
sents_settled a b (Sent from to bytes ∷ part) h = sents_settled a b part h.1
sents_settled a b (Got at from bytes ∷ part) h = absurd h
sents_settled a b (Idle at ∷ part) h = absurd h
sents_settled a b (Turn at ∷ part) h = absurd h

other_sent : (a b : Address) (part : List LogEntry) → same_address a b ≡ false → AllSent b part → own_at a part ≡ []
other_sent a b [] e h = refl
other_sent a b (Sent from to bytes ∷ part) e h =
    let z : same_address a from ≡ false = ap (same_address a) h.0 ∙ e in
    ap (λ (t : Bool). (if t then Sent from to bytes ∷ [] else []) ++ own_at a part) z ∙ other_sent a b part e h.1
other_sent a b (Got at from bytes ∷ part) e h = absurd h
other_sent a b (Idle at ∷ part) e h = absurd h
other_sent a b (Turn at ∷ part) e h = absurd h

block_begins : (a b : Address) (e : LogEntry) (sents : List LogEntry) → BeginsWithEvent (e ∷ own_at a sents) → AllSent b sents → BeginsWithEvent ((if same_address a b then e ∷ [] else []) ++ own_at a sents)
block_begins a b e sents x h = by (same_address a b) refl
  where
    by : (t : Bool) → same_address a b ≡ t → BeginsWithEvent ((if t then e ∷ [] else []) ++ own_at a sents)
    by true z = x
    by false z = let P : List LogEntry → Type 0 = BeginsWithEvent in subst P (sym (other_sent a b sents z h)) tt

part_got : (a b : Address) (part : List LogEntry) → IsGot b part → IsSettledPart a part
part_got a b part g =
    let P : List LogEntry → Type 0 = IsSettledPart a in
    let x = block_begins a b (Got b g.from g.bytes) g.sents tt g.own in
    subst P (sym g.form) (record { begins = x; settled = (x, sents_settled a b g.sents g.own) })

part_turn : (a b : Address) (part : List LogEntry) → IsTurn b part → IsSettledPart a part
part_turn a b part g =
    let P : List LogEntry → Type 0 = IsSettledPart a in
    let x = block_begins a b (Turn b) g.sents tt g.own in
    subst P (sym g.form) (record { begins = x; settled = (x, sents_settled a b g.sents g.own) })

-- ---- of a split log the first part has all sends of its events
abbrev count_events : List LogEntry → ℕ
count_events [] = 0
count_events (Sent from to bytes ∷ log) = count_events log
count_events (Got at from bytes ∷ log) = suc (count_events log)
count_events (Idle at ∷ log) = suc (count_events log)
count_events (Turn at ∷ log) = suc (count_events log)

own_count : (a : Address) (p : List LogEntry) → count_events (own_at a p) ≡ length (events_at a p)
own_count a [] = refl
own_count a (Sent from to bytes ∷ p) = by (own_count a p) (same_address a from)
  where
    by : count_events (own_at a p) ≡ length (events_at a p) → (b : Bool) → count_events ((if b then Sent from to bytes ∷ [] else []) ++ own_at a p) ≡ length (events_at a p)
    by h true = h
    by h false = h
own_count a (Got at from bytes ∷ p) = by (own_count a p) (same_address a at)
  where
    by : count_events (own_at a p) ≡ length (events_at a p) → (b : Bool) → count_events ((if b then Got at from bytes ∷ [] else []) ++ own_at a p) ≡ length ((if b then Gram from bytes ∷ [] else []) ++ events_at a p)
    by h true = ap (λ (n : ℕ). suc n) h
    by h false = h
own_count a (Idle at ∷ p) = own_count a p
own_count a (Turn at ∷ p) = by (own_count a p) (same_address a at)
  where
    by : count_events (own_at a p) ≡ length (events_at a p) → (b : Bool) → count_events ((if b then Turn at ∷ [] else []) ++ own_at a p) ≡ length ((if b then Tick ∷ [] else []) ++ events_at a p)
    by h true = ap (λ (n : ℕ). suc n) h
    by h false = h

count_sent : (a : Address) (sends : List Send) (log : List LogEntry) → count_events (sent_by a sends ++ log) ≡ count_events log
count_sent a [] log = refl
count_sent a (p ∷ sends) log = count_sent a sends log

answered_count : (rules : Rules) (before events : List Event) → count_events (answered rules before events) ≡ length events
answered_count rules before [] = refl
answered_count rules before (Gram from bytes ∷ events) = ap (λ (n : ℕ). suc n) (count_sent rules.place (rules.sends before (Gram from bytes)) (answered rules (before ++ Gram from bytes ∷ []) events) ∙ answered_count rules (before ++ Gram from bytes ∷ []) events)
answered_count rules before (Tick ∷ events) = ap (λ (n : ℕ). suc n) (count_sent rules.place (rules.sends before Tick) (answered rules (before ++ Tick ∷ []) events) ∙ answered_count rules (before ++ Tick ∷ []) events)

answered_more : (rules : Rules) (before events more : List Event) → (rest : List LogEntry) × ((answered rules before (events ++ more) ≡ answered rules before events ++ rest) × BeginsWithEvent rest)
answered_more rules before [] more = (answered rules before more, (refl, begins more))
  where
    begins : (more : List Event) → BeginsWithEvent (answered rules before more)
    begins [] = tt
    begins (Gram from bytes ∷ more) = tt
    begins (Tick ∷ more) = tt
answered_more rules before (event ∷ events) more =
    let r = answered_more rules (before ++ event ∷ []) events more in (
      r.0,
      (
        ap (λ (z : List LogEntry). entry_of rules.place event ∷ (sent_by rules.place (rules.sends before event) ++ z)) (r.1).0
            ∙ ap (λ (z : List LogEntry). entry_of rules.place event ∷ z) (sym (append_assoc (sent_by rules.place (rules.sends before event)) (answered rules (before ++ event ∷ []) events) r.0)),
        (r.1).1,
      ),
    )

same_split : (p q a b : List LogEntry) → p ++ q ≡ a ++ b → BeginsWithEvent q → BeginsWithEvent b → count_events p ≡ count_events a → p ≡ a
same_split [] q [] b e x y n = refl
same_split [] q (Sent from to bytes ∷ a) b e x y n = let P : List LogEntry → Type 0 = BeginsWithEvent in absurd (subst P e x)
same_split [] q (Got at from bytes ∷ a) b e x y n = absurd (omega (arith, n))
same_split [] q (Idle at ∷ a) b e x y n = absurd (omega (arith, n))
same_split [] q (Turn at ∷ a) b e x y n = absurd (omega (arith, n))
same_split (Sent from to bytes ∷ p) q [] b e x y n = let P : List LogEntry → Type 0 = BeginsWithEvent in absurd (subst P (sym e) y)
same_split (Got at from bytes ∷ p) q [] b e x y n = absurd (omega (arith, n))
same_split (Idle at ∷ p) q [] b e x y n = absurd (omega (arith, n))
same_split (Turn at ∷ p) q [] b e x y n = absurd (omega (arith, n))
same_split (c ∷ p) q (d ∷ a) b e x y n =
    let h : c ≡ d = cc in
    let t : p ++ q ≡ a ++ b = cc in
    ap (λ (z : LogEntry). z ∷ p) h ∙ ap (λ (z : List LogEntry). d ∷ z) (same_split p q a b t x y (less c d h n))
  where
    less : (c d : LogEntry) → c ≡ d → count_events (c ∷ p) ≡ count_events (d ∷ a) → count_events p ≡ count_events a
    less c d h n = by c (ap (λ (z : LogEntry). count_events (z ∷ p)) refl ∙ n ∙ ap (λ (z : LogEntry). count_events (z ∷ a)) (sym h))
      where
        by : (c : LogEntry) → count_events (c ∷ p) ≡ count_events (c ∷ a) → count_events p ≡ count_events a
        by (Sent from to bytes) m = m
        by (Got at from bytes) m = omega (arith, m)
        by (Idle at) m = omega (arith, m)
        by (Turn at) m = omega (arith, m)

front_follows : (rules : Rules) (p q : List LogEntry) → Follows rules (p ++ q) → BeginsWithEvent (own_at rules.place q) → Follows rules p
front_follows rules p q f b =
    let m = answered_more rules [] (events_at rules.place p) (events_at rules.place q) in
    let e : own_at rules.place p ++ own_at rules.place q ≡ answered rules [] (events_at rules.place p) ++ m.0 = sym (own_at-append rules.place p q) ∙ f ∙ ap (answered rules []) (events_at-append rules.place p q) ∙ (m.1).0 in
    same_split (own_at rules.place p) (own_at rules.place q) (answered rules [] (events_at rules.place p)) m.0 e b (m.1).1 (own_count rules.place p ∙ sym (answered_count rules [] (events_at rules.place p)))

-- ---- the front of the log with a look behind it
front_begins : (p q : List LogEntry) → BeginsWithEvent (p ++ q) → BeginsWithEvent p
front_begins [] q b = tt
front_begins (Sent from to bytes ∷ p) q b = b
front_begins (Got at from bytes ∷ p) q b = tt
front_begins (Idle at ∷ p) q b = tt
front_begins (Turn at ∷ p) q b = tt

settled_front : (a : Address) (p q : List LogEntry) → Settled a (p ++ q) → Settled a p
settled_front a [] q h = tt
settled_front a (Sent from to bytes ∷ p) q h = settled_front a p q h
settled_front a (Got at from bytes ∷ p) q h = (front a (Got at from bytes ∷ p) q h.0, settled_front a p q h.1)
  where
    front : (a : Address) (p q : List LogEntry) → BeginsWithEvent (own_at a (p ++ q)) → BeginsWithEvent (own_at a p)
    front a p q b = let P : List LogEntry → Type 0 = BeginsWithEvent in front_begins (own_at a p) (own_at a q) (subst P (own_at-append a p q) b)
settled_front a (Idle at ∷ p) q h = (front a p q h.0, settled_front a p q h.1)
  where
    front : (a : Address) (p q : List LogEntry) → BeginsWithEvent (own_at a (p ++ q)) → BeginsWithEvent (own_at a p)
    front a p q b = let P : List LogEntry → Type 0 = BeginsWithEvent in front_begins (own_at a p) (own_at a q) (subst P (own_at-append a p q) b)
settled_front a (Turn at ∷ p) q h = (front a (Turn at ∷ p) q h.0, settled_front a p q h.1)
  where
    front : (a : Address) (p q : List LogEntry) → BeginsWithEvent (own_at a (p ++ q)) → BeginsWithEvent (own_at a p)
    front a p q b = let P : List LogEntry → Type 0 = BeginsWithEvent in front_begins (own_at a p) (own_at a q) (subst P (own_at-append a p q) b)

settled_later : (a : Address) (e : LogEntry) (log : List LogEntry) → Settled a (e ∷ log) → Settled a log
settled_later a (Sent from to bytes) log c = c
settled_later a (Got at from bytes) log c = c.1
settled_later a (Idle at) log c = c.1
settled_later a (Turn at) log c = c.1

settled_back : (a : Address) (before after : List LogEntry) → Settled a (before ++ after) → Settled a after
settled_back a [] after c = c
settled_back a (e ∷ before) after c = settled_back a before after (settled_later a e (before ++ after) c)

settled_rests : (a : Address) (log : List LogEntry) → Settled a log → RestsWhenDone a log
settled_rests a log c before after e = let P : List LogEntry → Type 0 = Settled a in (settled_back a before (Idle a ∷ after) (subst P e c)).0

-- ---- all rounds
abbrev AllAt : (Address → Type 0) → List Rules → Type 0
AllAt E [] = Unit {0}
AllAt E (r ∷ rs) = E r.place × AllAt E rs

all_there : (rs : List Rules) → AllAt (λ b. Unit {0}) rs
all_there [] = tt
all_there (r ∷ rs) = (tt, all_there rs)

module _ (sc : Scenario) (other : SlaveDesc) (ok : IsScenario sc) (log : List LogEntry) (r : IsRunInRounds sc other log) (s : ℕ) (is : IsSlaveOf (parties sc other) s) where
  abbrev Place : Address
  Place = (slave_numbered sc other s).address

  all_settled : Settled Place log
  all_settled = (whole (IsSettledPart Place) (λ b. Unit {0}) (record { begins = tt; settled = tt }) (part_join Place) (λ b part e g. part_got Place b part g) (λ b part e g. part_turn Place b part g) (λ b e. record { begins = tt; settled = (tt, tt) }) (master_rules sc) (rules_of_slaves sc) tt (all_there (rules_of_slaves sc)) r.count log r.rounds).settled

  -- a turn or a datagram, of any end, finds that the slave has sent all
  abbrev pub IsEventEntry : LogEntry → Type 0
  IsEventEntry (Sent from to bytes) = ⊥
  IsEventEntry (Got at from bytes) = Unit {0}
  IsEventEntry (Idle at) = ⊥
  IsEventEntry (Turn at) = Unit {0}

  event_begins : (e : LogEntry) (rest : List LogEntry) → IsEventEntry e → Settled Place (e ∷ rest) → BeginsWithEvent (own_at Place (e ∷ rest))
  event_begins (Sent from to bytes) rest v h = absurd v
  event_begins (Got at from bytes) rest v h = h.0
  event_begins (Idle at) rest v h = absurd v
  event_begins (Turn at) rest v h = h.0

  pub nothing_owed : (later sofar : List LogEntry) (e : LogEntry) → reverse log ≡ later ++ e ∷ sofar → IsEventEntry e → (desk_at (machine (slave_setup_of sc other s)) (parties sc other) s sofar).owed ≡ []
  nothing_owed later sofar e split v = by (same Place Place) (same_self Place) (subst Run run_is run).0
    where
      p : List LogEntry
      p = reverse sofar

      q : List LogEntry
      q = e ∷ reverse later

      log_is : log ≡ p ++ q
      log_is = sym (reverse-reverse log) ∙ ap reverse split ∙ reverse-append later (e ∷ sofar) ∙ ap (λ (z : List LogEntry). z ++ reverse later) (reverse-append (e ∷ []) sofar) ∙ append_assoc (reverse sofar) (e ∷ []) (reverse later)

      settled_all : Settled Place (p ++ q)
      settled_all = let P : List LogEntry → Type 0 = Settled Place in subst P log_is all_settled

      follows_all : Follows (slave_rules_from (slave_setup_of sc other s)) (p ++ q)
      follows_all = let P : List LogEntry → Type 0 = Follows (slave_rules_from (slave_setup_of sc other s)) in subst P log_is (r.slaves s is)

      follows : Follows (slave_rules_from (slave_setup_of sc other s)) p
      follows = front_follows (slave_rules_from (slave_setup_of sc other s)) p q follows_all (event_begins e (reverse later) v (settled_back Place p q settled_all))

      looked : List LogEntry
      looked = p ++ Idle Place ∷ []

      follows_looked : Follows (slave_rules_from (slave_setup_of sc other s)) looked
      follows_looked = own_at-append Place p (Idle Place ∷ []) ∙ append-nil (own_at Place p) ∙ follows ∙ ap (answered (slave_rules_from (slave_setup_of sc other s)) []) (sym (events_at-append Place p (Idle Place ∷ []) ∙ append-nil (events_at Place p)))

      settled_looked : Settled Place looked
      settled_looked = settled_join Place p (Idle Place ∷ []) (settled_front Place p q settled_all) (tt, tt) tt

      Run : List LogEntry → Type 0
      Run z = SlaveRun (parties sc other) s (desk_at (machine (slave_setup_of sc other s)) (parties sc other) s) z

      run : Run (reverse looked)
      run = slave_runs (slave_setup_of sc other s) (parties sc other) s is (has_parties sc other ok message_in).apart refl looked follows_looked (settled_rests Place looked settled_looked)

      run_is : reverse looked ≡ Idle Place ∷ sofar
      run_is = reverse-append p (Idle Place ∷ []) ∙ ap (λ (z : List LogEntry). Idle Place ∷ z) (reverse-reverse sofar)

      by : (b : Bool) → b ≡ true → SlaveMay (if b then Rests else Other) (desk_at (machine (slave_setup_of sc other s)) (parties sc other) s sofar).owed → (desk_at (machine (slave_setup_of sc other s)) (parties sc other) s sofar).owed ≡ []
      by true z h = h
      by false z h = absurd cc
