-- Where a message that is sent in a round stands in it: behind a datagram that its sender got, or in a turn of its sender.
use Rattle.std.proofs.Common.{◌≡◌, ℕ, zero, suc, ◌<◌, ◌≤◌, Bool, true, false, if◌then◌else◌, ◌⊎◌, inl, inr, Some, List, [], ◌∷◌, ◌++◌, refl, sym, ap, ◌∙◌, subst, arith, append_assoc, append-nil}
use Rattle.std.specs.Prelude.{MatchBool}
use Rattle.dcp_types.specs.declared.addresses.Address.{Address}
use Rattle.dcp_ends.specs.declared.entries.LogEntry.{LogEntry}
use Rattle.dcp_ends.specs.declared.entries.LogEntry.TheVariants.{Sent, Got, Idle, Turn}
use Rattle.dcp_ends.specs.Events.{Event, Tick, Rules}
use Rattle.dcp_ends.specs.Logs.{same_address, events_at}
use Rattle.rounds.specs.Rounds.{AllSent, IsGot, IsTurn, Gots, IsLook, EachEnd, places_of, has_report, IsLooks, IsTurns, IsRound}
use Rattle.rounds.proofs.Logs.{events_at-append}
use Rattle.completeness_laws.proofs.Delivery.Turning.{Splits, Within, Beyond, splits}
use Rattle.completeness_laws.proofs.Quiet.Fronts.{address_is, address_self}
use Rattle.completeness_laws.proofs.Quiet.Soon.{AreAway}

-- this front, the oldest entry first, ends with a datagram that this end got and messages that it sent since
pub record IsAfterGot (from : Address) (front : List LogEntry) : Type 0 where
  pub before : List LogEntry
  pub sender : Address
  pub bytes : List ℕ
  pub sents : List LogEntry
  pub is : front ≡ before ++ Got from sender bytes ∷ sents
  pub own : AllSent from sents

-- with more entries in front
behind : (from : Address) (p q : List LogEntry) → IsAfterGot from q → IsAfterGot from (p ++ q)
behind from p q g = record { before = p ++ g.before; sender = g.sender; bytes = g.bytes; sents = g.sents; is = ap (λ (z : List LogEntry). p ++ z) g.is ∙ sym (append_assoc p g.before (Got from g.sender g.bytes ∷ g.sents)); own = g.own }

-- ---- where an entry of two joined parts stands
pub data Stands (a b p : List LogEntry) (x : LogEntry) (q : List LogEntry) : Type 0 where
  InFirst : (more : List LogEntry) → a ≡ p ++ x ∷ more → q ≡ more ++ b → Stands a b p x q
  InSecond : (more : List LogEntry) → p ≡ a ++ more → b ≡ more ++ x ∷ q → Stands a b p x q

-- it stands in the first or in the second
pub stands : (a b p : List LogEntry) (x : LogEntry) (q : List LogEntry) → a ++ b ≡ p ++ x ∷ q → Stands a b p x q
stands a b p x q e = by (splits a b p (x ∷ q) e)
  where
    beyond : (more : List LogEntry) → a ≡ p ++ more → x ∷ q ≡ more ++ b → Stands a b p x q
    beyond [] f g = InSecond [] (sym (append-nil p) ∙ sym f ∙ sym (append-nil a)) (sym g)
    beyond (y ∷ more) f g =
        let z : x ≡ y = cc in
        let w : q ≡ more ++ b = cc in
        InFirst more (f ∙ ap (λ (v : LogEntry). p ++ v ∷ more) (sym z)) w

    by : Splits a b p (x ∷ q) → Stands a b p x q
    by (Within more f g) = InSecond more f g
    by (Beyond more f g) = beyond more f g

module _ (from to : Address) (bytes : List ℕ) where
  abbrev x : LogEntry
  x = Sent from to bytes

  -- among the sends of an end, each is one of it
  sents_split : (a : Address) (p q : List LogEntry) → AllSent a (p ++ x ∷ q) → AllSent a p × (from ≡ a)
  sents_split a [] q h = (tt, h.0)
  sents_split a (Sent f t b ∷ p) q h = let k = sents_split a p q h.1 in ((h.0, k.0), k.1)
  sents_split a (Got at f b ∷ p) q h = absurd h
  sents_split a (Idle at ∷ p) q h = absurd h
  sents_split a (Turn at ∷ p) q h = absurd h

  -- a message that is sent behind a datagram that was got
  got_sent : (a : Address) (part p q : List LogEntry) → IsGot a part → part ≡ p ++ x ∷ q → IsAfterGot from p
  got_sent a part [] q g e = absurd (off (sym g.form ∙ e))
    where
      off : Got a g.from g.bytes ∷ g.sents ≡ x ∷ q → ⊥
      off z = cc
  got_sent a part (y ∷ p) q g e =
      let z : Got a g.from g.bytes ∷ g.sents ≡ y ∷ (p ++ x ∷ q) = sym g.form ∙ e in
      let first : Got a g.from g.bytes ≡ y = cc in
      let later : g.sents ≡ p ++ x ∷ q = cc in
      let P : List LogEntry → Type 0 = λ w. AllSent a w in
      let k = sents_split a p q (subst P later g.own) in
      let Q : Address → Type 0 = λ w. AllSent w p in
      record { before = []; sender = g.from; bytes = g.bytes; sents = p; is = ap (λ (w : LogEntry). w ∷ p) (sym first) ∙ ap (λ (w : Address). Got w g.from g.bytes ∷ p) (sym k.1); own = subst Q (sym k.1) k.0 }

  -- behind one of several of them
  gots_sent : (a : Address) (n : ℕ) (part p q : List LogEntry) → Gots a n part → part ≡ p ++ x ∷ q → IsAfterGot from p
  gots_sent a zero part p q g e = absurd (off p (sym g ∙ e))
    where
      off : (p : List LogEntry) → [] ≡ p ++ x ∷ q → ⊥
      off [] z = cc
      off (y ∷ p) z = cc
  gots_sent a (suc n) part p q g e = by (stands g.0 g.1 p x q (sym g.2 ∙ e)) (λ more f. gots_sent a n g.0 p more g.3 f)
    where
      P : List LogEntry → Type 0
      P w = IsAfterGot from w

      by : Stands g.0 g.1 p x q → ((more : List LogEntry) → g.0 ≡ p ++ x ∷ more → IsAfterGot from p) → IsAfterGot from p
      by (InFirst more f later) rec = rec more f
      by (InSecond more f h) rec = subst P (sym f) (behind from g.0 more (got_sent a g.1 more q g.4 h))

  -- in a look
  look_sent : (a : Address) (part p q : List LogEntry) → IsLook a part → part ≡ p ++ x ∷ q → IsAfterGot from p
  look_sent a part p q l e = by (most l.count l.most)
    where
      most : (n : ℕ) → n ≤ 64 → (n ≡ 64) ⊎ (n < 64)
      most n h = grind arith

      off : (more : List LogEntry) → Idle a ∷ [] ≡ more ++ x ∷ q → ⊥
      off [] z = cc
      off (y ∷ []) z = let w : [] ≡ x ∷ q = cc in cc
      off (y ∷ v ∷ more) z = let w : [] ≡ v ∷ (more ++ x ∷ q) = cc in cc

      two : Stands l.gots (Idle a ∷ []) p x q → IsAfterGot from p
      two (InFirst more f later) = gots_sent a l.count l.gots p more l.form f
      two (InSecond more f h) = absurd (off more h)

      by : (l.count ≡ 64) ⊎ (l.count < 64) → IsAfterGot from p
      by (inl h) = gots_sent a l.count l.gots p q l.form (sym (l.full h) ∙ e)
      by (inr h) = two (stands l.gots (Idle a ∷ []) p x q (sym (l.idle h) ∙ e))

  -- in one of the looks at several ends
  each_look_sent : (places : List Address) (part p q : List LogEntry) → EachEnd IsLook places part → part ≡ p ++ x ∷ q → IsAfterGot from p
  each_look_sent [] part p q h e = absurd (off p (sym h ∙ e))
    where
      off : (p : List LogEntry) → [] ≡ p ++ x ∷ q → ⊥
      off [] z = cc
      off (y ∷ p) z = cc
  each_look_sent (a ∷ places) part p q h e = by (stands h.0 h.1 p x q (sym h.2 ∙ e)) (λ more g. each_look_sent places h.1 more q h.4 g)
    where
      P : List LogEntry → Type 0
      P w = IsAfterGot from w

      by : Stands h.0 h.1 p x q → ((more : List LogEntry) → h.1 ≡ more ++ x ∷ q → IsAfterGot from more) → IsAfterGot from p
      by (InFirst more f later) rec = look_sent a h.0 p more h.3 f
      by (InSecond more f g) rec = subst P (sym f) (behind from h.0 more (rec more g))

  -- in the looks of a round
  looks_sent : (r : Rules) (rs : List Rules) (part p q : List LogEntry) → IsLooks (Some r) rs part → part ≡ p ++ x ∷ q → IsAfterGot from p
  looks_sent r rs part p q l e = by (stands l.first l.rest p x q (sym l.form ∙ e))
    where
      P : List LogEntry → Type 0
      P w = IsAfterGot from w

      by : Stands l.first l.rest p x q → IsAfterGot from p
      by (InFirst more f later) = look_sent r.place l.first p more l.own f
      by (InSecond more f g) = subst P (sym f) (behind from l.first more (each_look_sent (places_of rs) l.rest more q l.others g))

  -- in a turn it is the end's own
  turn_sent : (a : Address) (part p q : List LogEntry) → IsTurn a part → part ≡ p ++ x ∷ q → from ≡ a
  turn_sent a part [] q g e = absurd (off (sym g.form ∙ e))
    where
      off : Turn a ∷ g.sents ≡ x ∷ q → ⊥
      off z = cc
  turn_sent a part (y ∷ p) q g e =
      let z : Turn a ∷ g.sents ≡ y ∷ (p ++ x ∷ q) = sym g.form ∙ e in
      let later : g.sents ≡ p ++ x ∷ q = cc in
      let P : List LogEntry → Type 0 = λ w. AllSent a w in
      (sents_split a p q (subst P later g.own)).1

  -- in a round in which no slave has a turn, the master sent it, or its sender had got a datagram
  pub round_sent : (r : Rules) (rs : List Rules) (log part p q : List LogEntry) (k : IsRound (Some r) rs log part) → k.turned.rest ≡ [] → part ≡ p ++ x ∷ q → (from ≡ r.place) ⊎ IsAfterGot from p
  round_sent r rs log part p q k none e = by (stands k.looks k.turns p x q (sym k.form ∙ e))
    where
      turns_are : k.turns ≡ k.turned.first
      turns_are = k.turned.form ∙ ap (λ (w : List LogEntry). k.turned.first ++ w) none ∙ append-nil k.turned.first

      by : Stands k.looks k.turns p x q → (from ≡ r.place) ⊎ IsAfterGot from p
      by (InFirst more f later) = inr (looks_sent r rs k.looks p more k.looked f)
      by (InSecond more f g) = inl (turn_sent r.place k.turned.first more q k.turned.own (sym turns_are ∙ g))

-- ---- the round in which there is a report
module _ (r : Rules) (rs : List Rules) (away : AreAway r.place (places_of rs)) where
  -- two addresses differ either way
  apart : (a : Address) → same_address a r.place ≡ false → same_address r.place a ≡ false
  apart a e = by (same_address r.place a) refl
    where
      by : (b : Bool) → same_address r.place a ≡ b → b ≡ false
      by true z = let w : true ≡ false = sym (address_self r.place) ∙ ap (λ (y : Address). same_address y r.place) (address_is r.place a z) ∙ e in absurd (off w)
        where
          off : true ≡ false → ⊥
          off z = cc
      by false z = refl

  -- sends are no events
  sents_still : (b : Address) (part : List LogEntry) → AllSent b part → events_at r.place part ≡ []
  sents_still b [] h = refl
  sents_still b (Sent from to bytes ∷ part) h = sents_still b part h.1
  sents_still b (Got at from bytes ∷ part) h = absurd h
  sents_still b (Idle at ∷ part) h = absurd h
  sents_still b (Turn at ∷ part) h = absurd h

  -- a turn of another end is no event of the master
  turn_still : (b : Address) (part : List LogEntry) → same_address b r.place ≡ false → IsTurn b part → events_at r.place part ≡ []
  turn_still b part e t =
      ap (events_at r.place) t.form ∙ ap (λ (c : Bool). (if c then Tick ∷ [] else []) ++ events_at r.place t.sents) (apart b e) ∙ sents_still b t.sents t.own

  -- nor are the turns of several others
  each_still : (places : List Address) (part : List LogEntry) → AreAway r.place places → EachEnd IsTurn places part → events_at r.place part ≡ []
  each_still [] part w h = ap (events_at r.place) h
  each_still (b ∷ places) part w h =
      ap (events_at r.place) h.2 ∙ events_at-append r.place h.0 h.1
      ∙ ap (λ (z : List Event). z ++ events_at r.place h.1) (turn_still b h.0 w.0 h.3) ∙ each_still places h.1 w.1 h.4

  -- where there is a report at its end, no slave has its turn in it
  pub last_round : (log part : List LogEntry) (k : IsRound (Some r) rs log part) → has_report (Some r) (log ++ part) ≡ true → k.turned.rest ≡ []
  last_round log part k report = by (has_report (Some r) ((log ++ k.looks) ++ k.turned.first)) refl k.turned.others
    where
      t : IsTurns (Some r) rs (log ++ k.looks) k.turns
      t = k.turned

      whole : log ++ part ≡ ((log ++ k.looks) ++ t.first) ++ t.rest
      whole = ap (λ (z : List LogEntry). log ++ z) (k.form ∙ ap (λ (z : List LogEntry). k.looks ++ z) t.form) ∙ sym (append_assoc log k.looks (t.first ++ t.rest)) ∙ sym (append_assoc (log ++ k.looks) t.first t.rest)

      by : (b : Bool) → has_report (Some r) ((log ++ k.looks) ++ t.first) ≡ b → MatchBool b (t.rest ≡ []) (EachEnd IsTurn (places_of rs) t.rest) → t.rest ≡ []
      by true e h = h
      by false e h =
          let F = (log ++ k.looks) ++ t.first in
          let same : events_at r.place (log ++ part) ≡ events_at r.place F =
          ap (events_at r.place) whole ∙ events_at-append r.place F t.rest ∙ ap (λ (z : List Event). events_at r.place F ++ z) (each_still (places_of rs) t.rest away h) ∙ append-nil (events_at r.place F) in
          let z : true ≡ false = sym report ∙ ap r.over same ∙ e in
          absurd (off z)
        where
          off : true ≡ false → ⊥
          off z = cc
