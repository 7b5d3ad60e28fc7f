-- A log of whole rounds and of the front of one more: each entry is at an end, and no end finds nothing while it has sends left.
use Rattle.std.proofs.Common.{◌≡◌, ℕ, suc, ◌⊎◌, inl, inr, Bool, true, false, if◌then◌else◌, Some, List, [], ◌∷◌, ◌++◌, reverse, refl, sym, ap, ◌∙◌, subst, append-nil, append_assoc}
use Rattle.std.proofs.lemmas.List.{reverse-append}
use Rattle.dcp_types.specs.declared.addresses.Address.{Address}
use Rattle.dcp_ends.specs.declared.entries.LogEntry.{LogEntry}
use Rattle.dcp_ends.specs.declared.entries.LogEntry.TheVariants.{Sent, Got, Idle, Turn}
use Rattle.dcp_ends.specs.Events.{Event, Gram, Tick, Rules}
use Rattle.dcp_ends.specs.Logs.{same_address, own_at, entry_of}
use Rattle.log_spec.specs.Log.{Parties, IsEnd, AreAtEnds}
use Rattle.rounds.specs.Rounds.{AllSent, IsGot, IsTurn, IsRoundPart, Rounds}
use Rattle.rounds.proofs.Logs.{own_at-append}
use Rattle.rounds.proofs.Prefix.{round_begins}
use Rattle.run_laws.specs.Laws.{BeginsWithEvent, RestsWhenDone}
use Rattle.run_laws.proofs.Rounded.{whole}

-- this holds of the place of each end
abbrev pub AllAt : (Address → Type 0) → List Rules → Type 0
AllAt E [] = Unit {0}
AllAt E (r ∷ rs) = E r.place × AllAt E rs

-- ---- each entry is at an end
pub ends_join : (w : Parties) (p q : List LogEntry) → AreAtEnds w p → AreAtEnds w q → AreAtEnds w (p ++ q)
ends_join w [] q a b = b
ends_join w (e ∷ p) q a b = (a.0, ends_join w p q a.1 b)

ends_front : (w : Parties) (p q : List LogEntry) → AreAtEnds w (p ++ q) → AreAtEnds w p
ends_front w [] q a = tt
ends_front w (e ∷ p) q a = (a.0, ends_front w p q a.1)

pub ends_sent : (w : Parties) (b : Address) (part : List LogEntry) → IsEnd w b → AllSent b part → AreAtEnds w part
ends_sent w b [] e h = tt
ends_sent w b (Sent from to bytes ∷ part) e h = let P : Address → Type 0 = IsEnd w in (subst P (sym h.0) e, ends_sent w b part e h.1)
ends_sent w b (Got at from bytes ∷ part) e h = absurd h
ends_sent w b (Idle at ∷ part) e h = absurd h
ends_sent w b (Turn at ∷ part) e h = absurd h

ends_got : (w : Parties) (b : Address) (part : List LogEntry) → IsEnd w b → IsGot b part → AreAtEnds w part
ends_got w b part e g = let P : List LogEntry → Type 0 = AreAtEnds w in subst P (sym g.form) (e, ends_sent w b g.sents e g.own)

ends_turn : (w : Parties) (b : Address) (part : List LogEntry) → IsEnd w b → IsTurn b part → AreAtEnds w part
ends_turn w b part e g = let P : List LogEntry → Type 0 = AreAtEnds w in subst P (sym g.form) (e, ends_sent w b g.sents e g.own)

pub ends_turned : (w : Parties) (p : List LogEntry) → AreAtEnds w p → AreAtEnds w (reverse p)
ends_turned w [] a = tt
ends_turned w (e ∷ p) a = let P : List LogEntry → Type 0 = AreAtEnds w in subst P (sym (reverse-append (e ∷ []) p)) (ends_join w (reverse p) (e ∷ []) (ends_turned w p a.1) (a.0, tt))

-- ---- where any end finds nothing, this end has sent all that it had to send
abbrev pub Calm : Address → List LogEntry → Type 0
Calm a [] = Unit {0}
Calm a (Sent from to bytes ∷ log) = Calm a log
Calm a (Got at from bytes ∷ log) = Calm a log
Calm a (Idle at ∷ log) = BeginsWithEvent (own_at a log) × Calm a log
Calm a (Turn at ∷ log) = Calm a log

record IsWhole (a : Address) (p : List LogEntry) : Type 0 where
  pub begins : BeginsWithEvent (own_at a p)
  pub calm : Calm a p

events_join : (p q : List LogEntry) → BeginsWithEvent p → BeginsWithEvent q → BeginsWithEvent (p ++ q)
events_join [] q a b = b
events_join (Sent from to bytes ∷ p) q a b = absurd a
events_join (Got at from bytes ∷ p) q a b = tt
events_join (Idle at ∷ p) q a b = tt
events_join (Turn at ∷ p) q a b = tt

events_front : (p q : List LogEntry) → BeginsWithEvent (p ++ q) → BeginsWithEvent p
events_front [] q a = tt
events_front (Sent from to bytes ∷ p) q a = absurd a
events_front (Got at from bytes ∷ p) q a = tt
events_front (Idle at ∷ p) q a = tt
events_front (Turn at ∷ p) q a = tt

own_join : (a : Address) (p q : List LogEntry) → BeginsWithEvent (own_at a p) → BeginsWithEvent (own_at a q) → BeginsWithEvent (own_at a (p ++ q))
own_join a p q x y = let P : List LogEntry → Type 0 = BeginsWithEvent in subst P (sym (own_at-append a p q)) (events_join (own_at a p) (own_at a q) x y)

own_front : (a : Address) (p q : List LogEntry) → BeginsWithEvent (own_at a (p ++ q)) → BeginsWithEvent (own_at a p)
own_front a p q x = let P : List LogEntry → Type 0 = BeginsWithEvent in events_front (own_at a p) (own_at a q) (subst P (own_at-append a p q) x)

calm_join : (a : Address) (p q : List LogEntry) → Calm a p → Calm a q → BeginsWithEvent (own_at a q) → Calm a (p ++ q)
calm_join a [] q x y b = y
calm_join a (Sent from to bytes ∷ p) q x y b = calm_join a p q x y b
calm_join a (Got at from bytes ∷ p) q x y b = calm_join a p q x y b
calm_join a (Idle at ∷ p) q x y b = (own_join a p q x.0 b, calm_join a p q x.1 y b)
calm_join a (Turn at ∷ p) q x y b = calm_join a p q x y b

calm_front : (a : Address) (p q : List LogEntry) → Calm a (p ++ q) → Calm a p
calm_front a [] q x = tt
calm_front a (Sent from to bytes ∷ p) q x = calm_front a p q x
calm_front a (Got at from bytes ∷ p) q x = calm_front a p q x
calm_front a (Idle at ∷ p) q x = (own_front a p q x.0, calm_front a p q x.1)
calm_front a (Turn at ∷ p) q x = calm_front a p q x

whole_join : (a : Address) (p q : List LogEntry) → IsWhole a p → IsWhole a q → IsWhole a (p ++ q)
whole_join a p q x y = record { begins = own_join a p q x.begins y.begins; calm = calm_join a p q x.calm y.calm y.begins }

whole_front : (a : Address) (p q : List LogEntry) → IsWhole a (p ++ q) → IsWhole a p
whole_front a p q x = record { begins = own_front a p q x.begins; calm = calm_front a p q x.calm }

calm_sent : (a b : Address) (part : List LogEntry) → AllSent b part → Calm a part
calm_sent a b [] h = tt
calm_sent a b (Sent from to bytes ∷ part) h = calm_sent a b part h.1
calm_sent a b (Got at from bytes ∷ part) h = absurd h
calm_sent a b (Idle at ∷ part) h = absurd h
calm_sent a b (Turn at ∷ part) h = absurd h

pub other_sent : (a b : Address) (part : List LogEntry) → same_address a b ≡ false → AllSent b part → own_at a part ≡ []
other_sent a b [] e h = refl
other_sent a b (Sent from to bytes ∷ part) e h =
    let z : same_address a from ≡ false = ap (same_address a) h.0 ∙ e in
    ap (λ (t : Bool). (if t then Sent from to bytes ∷ [] else []) ++ own_at a part) z ∙ other_sent a b part e h.1
other_sent a b (Got at from bytes ∷ part) e h = absurd h
other_sent a b (Idle at ∷ part) e h = absurd h
other_sent a b (Turn at ∷ part) e h = absurd h

block_begins : (a b : Address) (e : LogEntry) (sents : List LogEntry) → BeginsWithEvent (e ∷ own_at a sents) → AllSent b sents → BeginsWithEvent ((if same_address a b then e ∷ [] else []) ++ own_at a sents)
block_begins a b e sents x h = by (same_address a b) refl
  where
    by : (t : Bool) → same_address a b ≡ t → BeginsWithEvent ((if t then e ∷ [] else []) ++ own_at a sents)
    by true z = x
    by false z = let P : List LogEntry → Type 0 = BeginsWithEvent in subst P (sym (other_sent a b sents z h)) tt

whole_got : (a b : Address) (part : List LogEntry) → IsGot b part → IsWhole a part
whole_got a b part g =
    let P : List LogEntry → Type 0 = IsWhole a in
    subst P (sym g.form) (record { begins = block_begins a b (Got b g.from g.bytes) g.sents tt g.own; calm = calm_sent a b g.sents g.own })

whole_turn : (a b : Address) (part : List LogEntry) → IsTurn b part → IsWhole a part
whole_turn a b part g =
    let P : List LogEntry → Type 0 = IsWhole a in
    subst P (sym g.form) (record { begins = block_begins a b (Turn b) g.sents tt g.own; calm = calm_sent a b g.sents g.own })

calm_later : (a : Address) (e : LogEntry) (log : List LogEntry) → Calm a (e ∷ log) → Calm a log
calm_later a (Sent from to bytes) log c = c
calm_later a (Got at from bytes) log c = c
calm_later a (Idle at) log c = c.1
calm_later a (Turn at) log c = c

calm_at : (a : Address) (before after : List LogEntry) → Calm a (before ++ Idle a ∷ after) → BeginsWithEvent (own_at a after)
calm_at a [] after c = c.0
calm_at a (e ∷ before) after c = calm_at a before after (calm_later a e (before ++ Idle a ∷ after) c)

pub rests : (a : Address) (log : List LogEntry) → Calm a log → RestsWhenDone a log
rests a log c before after e = let P : List LogEntry → Type 0 = Calm a in calm_at a before after (subst P e c)

-- ---- more sends of the last event
block_calm : (a b : Address) (event : Event) (sents : List LogEntry) → AllSent b sents → Calm a (entry_of b event ∷ sents)
block_calm a b (Gram from bytes) sents h = calm_sent a b sents h
block_calm a b Tick sents h = calm_sent a b sents h

pub sents_join : (b : Address) (p q : List LogEntry) → AllSent b p → AllSent b q → AllSent b (p ++ q)
sents_join b [] q x y = y
sents_join b (Sent from to bytes ∷ p) q x y = (x.0, sents_join b p q x.1 y)
sents_join b (Got at from bytes ∷ p) q x y = absurd x
sents_join b (Idle at ∷ p) q x y = absurd x
sents_join b (Turn at ∷ p) q x y = absurd x

block_own : (a b : Address) (event : Event) (sents : List LogEntry) → AllSent b sents → BeginsWithEvent (own_at a (entry_of b event ∷ sents))
block_own a b (Gram from bytes) sents h = block_begins a b (Got b from bytes) sents tt h
block_own a b Tick sents h = block_begins a b (Turn b) sents tt h

pub calm_more : (a b : Address) (before : List LogEntry) (event : Event) (sents left : List LogEntry) → AllSent b sents → AllSent b left
    → Calm a (before ++ entry_of b event ∷ sents) → Calm a (before ++ entry_of b event ∷ (sents ++ left))
calm_more a b before event sents left s l c =
    let all = sents_join b sents left s l in
    calm_join a before (entry_of b event ∷ (sents ++ left)) (calm_front a before (entry_of b event ∷ sents) c) (block_calm a b event (sents ++ left) all) (block_own a b event (sents ++ left) all)

-- ---- the log of a host
module _ (m : Rules) (rs : List Rules) (n : ℕ) (before part : List LogEntry) (rounds : Rounds (Some m) rs n before) (front : (part ≡ []) ⊎ IsRoundPart (Some m) rs before part) where
  fronts : (Q : List LogEntry → Type 0) (E : Address → Type 0) → Q [] → ((p q : List LogEntry) → Q p → Q q → Q (p ++ q)) → ((p q : List LogEntry) → Q (p ++ q) → Q p)
      → ((b : Address) (part : List LogEntry) → E b → IsGot b part → Q part) → ((b : Address) (part : List LogEntry) → E b → IsTurn b part → Q part) → ((b : Address) → E b → Q (Idle b ∷ []))
      → E m.place → AllAt E rs → Q (before ++ part)
  fronts Q E nil join cut got turn idle me all = by front
    where
      by : (part ≡ []) ⊎ IsRoundPart (Some m) rs before part → Q (before ++ part)
      by (inl none) = subst Q (sym (ap (λ (p : List LogEntry). before ++ p) none ∙ append-nil before)) (whole Q E nil join got turn idle m rs me all n before rounds)
      by (inr p) =
          let more = round_begins (Some m) rs before part p in
          let q = whole Q E nil join got turn idle m rs me all (suc n) (before ++ (part ++ more.0)) (before, part ++ more.0, refl, rounds, more.1) in
          cut (before ++ part) more.0 (subst Q (sym (append_assoc before part more.0)) q)

  all_there : (rs : List Rules) → AllAt (λ b. Unit {0}) rs
  all_there [] = tt
  all_there (r ∷ rs) = (tt, all_there rs)

  pub are_at_ends : (w : Parties) → IsEnd w m.place → AllAt (IsEnd w) rs → AreAtEnds w (before ++ part)
  are_at_ends w me all = fronts (AreAtEnds w) (IsEnd w) tt (ends_join w) (ends_front w) (ends_got w) (ends_turn w) (λ b e. (e, tt)) me all

  pub is_calm : (a : Address) → Calm a (before ++ part)
  is_calm a =
      (fronts (IsWhole a) (λ b. Unit {0}) (record { begins = tt; calm = tt }) (whole_join a) (whole_front a) (λ b part e g. whole_got a b part g) (λ b part e g. whole_turn a b part g)
      (λ b e. record { begins = tt; calm = (tt, tt) }) tt (all_there rs)).calm
