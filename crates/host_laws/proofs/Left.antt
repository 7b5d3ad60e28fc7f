-- The sends that an end has left are its own, and the log shows which end may have some.
use Rattle.std.proofs.Common.{◌≡◌, Bool, true, false, if◌then◌else◌, Option, Some, None, List, [], ◌∷◌, ◌++◌, length, ◌≤◌, refl, sym, ap, ◌∙◌, arith, append-nil}
use Rattle.std.specs.Prelude.{◌==◌}
use Rattle.std.proofs.lemmas.Bool.{eqb-true, and_parts}
use Rattle.std.proofs.lemmas.List.{append_cancel_left, length-append}
use Rattle.dcp_types.specs.declared.addresses.Address.{Address}
use Rattle.dcp_ends.specs.declared.entries.LogEntry.{LogEntry}
use Rattle.dcp_ends.specs.declared.entries.LogEntry.TheVariants.{Sent, Got, Idle, Turn}
use Rattle.dcp_ends.specs.Events.{Event, Gram, Tick, Rules}
use Rattle.dcp_ends.specs.Logs.{same_address, event_at, events_at, own_entry, own_at, sent_by, entry_of, answered}
use Rattle.rounds.specs.Rounds.{AllSent}
use Rattle.rounds.specs.Told.{EndsIn}
use Rattle.rounds.proofs.Logs.{events_at-append, own_at-append, events_at-sents, own_at-sents, event_at-own, own_entry-own}

pub address_is : (a b : Address) → same_address a b ≡ true → a ≡ b
address_is a b h =
    let p = and_parts (a.ip == b.ip) (a.port == b.port) h in
    let i = eqb-true a.ip b.ip p.0 in
    let q = eqb-true a.port b.port p.1 in
    λ k. record { ip = i k; port = q k }

-- ---- the entries of an end, read once more
events_entry : (a : Address) (e : LogEntry) → events_at a (own_entry a e) ≡ event_at a e
events_entry a (Sent from to bytes) = by (same_address a from)
  where
    by : (b : Bool) → events_at a (if b then Sent from to bytes ∷ [] else []) ≡ []
    by true = refl
    by false = refl
events_entry a (Got at from bytes) = by (same_address a at) refl
  where
    by : (b : Bool) → same_address a at ≡ b → events_at a (if b then Got at from bytes ∷ [] else []) ≡ (if b then Gram from bytes ∷ [] else [])
    by true z = ap (λ (t : Bool). (if t then Gram from bytes ∷ [] else []) ++ []) z
    by false z = refl
events_entry a (Idle at) = refl
events_entry a (Turn at) = by (same_address a at) refl
  where
    by : (b : Bool) → same_address a at ≡ b → events_at a (if b then Turn at ∷ [] else []) ≡ (if b then Tick ∷ [] else [])
    by true z = ap (λ (t : Bool). (if t then Tick ∷ [] else []) ++ []) z
    by false z = refl

own_again : (a : Address) (e : LogEntry) → own_at a (own_entry a e) ≡ own_entry a e
own_again a (Sent from to bytes) = by (same_address a from) refl
  where
    by : (b : Bool) → same_address a from ≡ b → own_at a (if b then Sent from to bytes ∷ [] else []) ≡ (if b then Sent from to bytes ∷ [] else [])
    by true z = ap (λ (t : Bool). (if t then Sent from to bytes ∷ [] else []) ++ []) z
    by false z = refl
own_again a (Got at from bytes) = by (same_address a at) refl
  where
    by : (b : Bool) → same_address a at ≡ b → own_at a (if b then Got at from bytes ∷ [] else []) ≡ (if b then Got at from bytes ∷ [] else [])
    by true z = ap (λ (t : Bool). (if t then Got at from bytes ∷ [] else []) ++ []) z
    by false z = refl
own_again a (Idle at) = refl
own_again a (Turn at) = by (same_address a at) refl
  where
    by : (b : Bool) → same_address a at ≡ b → own_at a (if b then Turn at ∷ [] else []) ≡ (if b then Turn at ∷ [] else [])
    by true z = ap (λ (t : Bool). (if t then Turn at ∷ [] else []) ++ []) z
    by false z = refl

events_own : (a : Address) (log : List LogEntry) → events_at a (own_at a log) ≡ events_at a log
events_own a [] = refl
events_own a (e ∷ log) =
    events_at-append a (own_entry a e) (own_at a log)
    ∙ ap (λ (es : List Event). es ++ events_at a (own_at a log)) (events_entry a e)
    ∙ ap (λ (es : List Event). event_at a e ++ es) (events_own a log)

own_own : (a : Address) (log : List LogEntry) → own_at a (own_at a log) ≡ own_at a log
own_own a [] = refl
own_own a (e ∷ log) =
    own_at-append a (own_entry a e) (own_at a log)
    ∙ ap (λ (es : List LogEntry). es ++ own_at a (own_at a log)) (own_again a e)
    ∙ ap (λ (es : List LogEntry). own_entry a e ++ es) (own_own a log)

events_answered : (rules : Rules) (before events : List Event) → events_at rules.place (answered rules before events) ≡ events
events_answered rules before [] = refl
events_answered rules before (event ∷ events) =
    let a = rules.place in
    let sends = rules.sends before event in
    let rest = answered rules (before ++ event ∷ []) events in
    ap (λ (es : List Event). es ++ events_at a (sent_by a sends ++ rest)) (event_at-own a event)
    ∙ ap (λ (es : List Event). event ∷ es)
    (events_at-append a (sent_by a sends) rest ∙ ap (λ (es : List Event). es ++ events_at a rest) (events_at-sents a a sends) ∙ events_answered rules (before ++ event ∷ []) events)

own_answered : (rules : Rules) (before events : List Event) → own_at rules.place (answered rules before events) ≡ answered rules before events
own_answered rules before [] = refl
own_answered rules before (event ∷ events) =
    let a = rules.place in
    let sends = rules.sends before event in
    let rest = answered rules (before ++ event ∷ []) events in
    ap (λ (es : List LogEntry). es ++ own_at a (sent_by a sends ++ rest)) (own_entry-own a event)
    ∙ ap (λ (es : List LogEntry). entry_of a event ∷ es)
    (own_at-append a (sent_by a sends) rest ∙ ap (λ (es : List LogEntry). es ++ own_at a rest) (own_at-sents a sends) ∙ ap (λ (es : List LogEntry). sent_by a sends ++ es) (own_answered rules (before ++ event ∷ []) events))

-- ---- a list of an end's own entries without events
one_at_most : (a : Address) (e : LogEntry) → length (own_entry a e) ≤ 1
one_at_most a (Sent from to bytes) = by (same_address a from)
  where
    by : (b : Bool) → length (if b then Sent from to bytes ∷ [] else []) ≤ 1
    by true = omega arith
    by false = omega arith
one_at_most a (Got at from bytes) = by (same_address a at)
  where
    by : (b : Bool) → length (if b then Got at from bytes ∷ [] else []) ≤ 1
    by true = omega arith
    by false = omega arith
one_at_most a (Idle at) = omega arith
one_at_most a (Turn at) = by (same_address a at)
  where
    by : (b : Bool) → length (if b then Turn at ∷ [] else []) ≤ 1
    by true = omega arith
    by false = omega arith

no_longer : (a : Address) (log : List LogEntry) → length (own_at a log) ≤ length log
no_longer a [] = omega arith
no_longer a (e ∷ log) =
    let one = one_at_most a e in
    let rest = no_longer a log in
    let all = length-append (own_entry a e) (own_at a log) in
    omega (arith, one, rest, all)

not_longer : (a : Address) (e : LogEntry) (log : List LogEntry) → own_at a log ≡ e ∷ log → ⊥
not_longer a e log h =
    let same : length (own_at a log) ≡ length (e ∷ log) = ap length h in
    let less = no_longer a log in
    omega (arith, same, less)

all_sent : (a : Address) (log : List LogEntry) → events_at a log ≡ [] → own_at a log ≡ log → AllSent a log
all_sent a [] none own = tt
all_sent a (Sent from to bytes ∷ log) none own = by (same_address a from) refl own (all_sent a log none)
  where
    by : (b : Bool) → same_address a from ≡ b → (if b then Sent from to bytes ∷ [] else []) ++ own_at a log ≡ Sent from to bytes ∷ log → (own_at a log ≡ log → AllSent a log) → (from ≡ a) × AllSent a log
    by true z same more = (sym (address_is a from z), more rest)
      where
        rest : own_at a log ≡ log
        rest = cc
    by false z same more = absurd (not_longer a (Sent from to bytes) log same)
all_sent a (Got at from bytes ∷ log) none own = by (same_address a at) none own
  where
    by : (b : Bool) → (if b then Gram from bytes ∷ [] else []) ++ events_at a log ≡ [] → (if b then Got at from bytes ∷ [] else []) ++ own_at a log ≡ Got at from bytes ∷ log → ⊥
    by true h same = cc
    by false h same = not_longer a (Got at from bytes) log same
all_sent a (Idle at ∷ log) none own = not_longer a (Idle at) log own
all_sent a (Turn at ∷ log) none own = by (same_address a at) none own
  where
    by : (b : Bool) → (if b then Tick ∷ [] else []) ++ events_at a log ≡ [] → (if b then Turn at ∷ [] else []) ++ own_at a log ≡ Turn at ∷ log → ⊥
    by true h same = cc
    by false h same = not_longer a (Turn at) log same

-- what is left of what the rules give are sends of this end
pub left_sent : (rules : Rules) (log left : List LogEntry) → own_at rules.place log ++ left ≡ answered rules [] (events_at rules.place log) → AllSent rules.place left
left_sent rules log left own = all_sent a left none same
  where
    a : Address
    a = rules.place

    none : events_at rules.place left ≡ []
    none =
        append_cancel_left (events_at rules.place log) (events_at rules.place left) []
        (sym (ap (λ (es : List Event). es ++ events_at rules.place left) (events_own rules.place log)) ∙ sym (events_at-append rules.place (own_at rules.place log) left)
        ∙ ap (events_at rules.place) own ∙ events_answered rules [] (events_at rules.place log) ∙ sym (append-nil (events_at rules.place log)))

    same : own_at rules.place left ≡ left
    same =
        append_cancel_left (own_at rules.place log) (own_at rules.place left) left
        (sym (ap (λ (es : List LogEntry). es ++ own_at rules.place left) (own_own rules.place log)) ∙ sym (own_at-append rules.place (own_at rules.place log) left)
        ∙ ap (own_at rules.place) own ∙ own_answered rules [] (events_at rules.place log) ∙ sym own)

-- ---- whose the newest event is
place_at : LogEntry → Option Address
place_at (Sent from to bytes) = None
place_at (Got at from bytes) = Some at
place_at (Idle at) = None
place_at (Turn at) = Some at

or_else : Option Address → Option Address → Option Address
or_else None other = other
or_else (Some a) other = Some a

newest : List LogEntry → Option Address
newest [] = None
newest (e ∷ log) = or_else (newest log) (place_at e)

newest_sents : (a : Address) (log : List LogEntry) → AllSent a log → newest log ≡ None
unfolding newest or_else place_at
newest_sents a [] all = refl
newest_sents a (Sent from to bytes ∷ log) all = ap (λ (o : Option Address). or_else o None) (newest_sents a log all.1)
newest_sents a (Got at from bytes ∷ log) all = absurd all
newest_sents a (Idle at ∷ log) all = absurd all
newest_sents a (Turn at ∷ log) all = absurd all

newest_event : (a : Address) (event : Event) → place_at (entry_of a event) ≡ Some a
unfolding place_at
newest_event a (Gram from bytes) = refl
newest_event a Tick = refl

newest_is : (a : Address) (before : List LogEntry) (event : Event) (sents : List LogEntry) → AllSent a sents → newest (before ++ entry_of a event ∷ sents) ≡ Some a
unfolding newest or_else
newest_is a [] event sents all = ap (λ (o : Option Address). or_else o (place_at (entry_of a event))) (newest_sents a sents all) ∙ newest_event a event
newest_is a (e ∷ before) event sents all = ap (λ (o : Option Address). or_else o (place_at e)) (newest_is a before event sents all)

-- a log ends in an event of one end
pub one_end : (a b : Address) (log : List LogEntry) → EndsIn a log → EndsIn b log → a ≡ b
one_end a b log x y = is_some (sym (ap newest x.form ∙ newest_is a x.before x.event x.sents x.own) ∙ ap newest y.form ∙ newest_is b y.before y.event y.sents y.own)
  where
    is_some : Some a ≡ Some b → a ≡ b
    is_some h = cc
