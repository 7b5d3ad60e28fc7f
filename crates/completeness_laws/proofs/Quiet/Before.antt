-- The whole rounds before a round of a run are a run.
use Rattle.std.proofs.Common.{◌≡◌, ℕ, zero, suc, ◌<◌, ◌≤◌, ◌⊎◌, inl, inr, Bool, true, false, if◌then◌else◌, Some, List, [], ◌∷◌, ◌++◌, refl, sym, ap, ◌∙◌, subst, arith}
use Rattle.std.specs.Prelude.{MatchBool}
use Rattle.dcp_types.specs.declared.addresses.Address.{Address}
use Rattle.dcp_ends.specs.declared.entries.LogEntry.{LogEntry}
use Rattle.dcp_ends.specs.declared.entries.LogEntry.TheVariants.{Sent, Got, Idle, Turn}
use Rattle.dcp_ends.specs.Events.{Event, Gram, Tick, Send, Rules}
use Rattle.dcp_ends.specs.Logs.{same_address, events_at, own_at, sent_by, answered}
use Rattle.rounds.specs.Rounds.{AllSent, IsGot, IsTurn, Gots, IsLook, EachEnd, places_of, has_report, IsRound}
use Rattle.rounds.specs.Told.{Follows}
use Rattle.rounds.proofs.Logs.{events_at-append, own_at-append}
use Rattle.run_laws.specs.Laws.{BeginsWithEvent}

-- ---- what holds of each block, and of two parts together, holds of a round
module _ (Q : List LogEntry → Type 0) (nil : Q []) (join : (p q : List LogEntry) → Q p → Q q → Q (p ++ q)) (got : (b : Address) (part : List LogEntry) → IsGot b part → Q part) (turn : (b : Address) (part : List LogEntry) → IsTurn b part → Q part)
    (idle : (b : Address) → Q (Idle b ∷ [])) where
  -- takes
  gots_have : (b : Address) (n : ℕ) (part : List LogEntry) → Gots b n part → Q part
  gots_have b zero part g = subst Q (sym g) nil
  gots_have b (suc n) part g = subst Q (sym g.2) (join g.0 g.1 (gots_have b n g.0 g.3) (got b g.1 g.4))

  -- a look
  look_has : (b : Address) (part : List LogEntry) → IsLook b part → Q part
  look_has b part l = by (most l.count l.most)
    where
      most : (n : ℕ) → n ≤ 64 → (n ≡ 64) ⊎ (n < 64)
      most n h = grind arith

      by : (l.count ≡ 64) ⊎ (l.count < 64) → Q part
      by (inl h) = subst Q (sym (l.full h)) (gots_have b l.count l.gots l.form)
      by (inr h) = subst Q (sym (l.idle h)) (join l.gots (Idle b ∷ []) (gots_have b l.count l.gots l.form) (idle b))

  -- a part for each end
  each_has : (Form : Address → List LogEntry → Type 0) → ((b : Address) (part : List LogEntry) → Form b part → Q part) → (places : List Address) (part : List LogEntry) → EachEnd Form places part → Q part
  each_has Form f [] part h = subst Q (sym h) nil
  each_has Form f (a ∷ places) part h = subst Q (sym h.2) (join h.0 h.1 (f a h.0 h.3) (each_has Form f places h.1 h.4))

  -- a round
  pub round_has : (m : Rules) (rs : List Rules) (before part : List LogEntry) → IsRound (Some m) rs before part → Q part
  round_has m rs before part r =
      let l = r.looked in
      let t = r.turned in
      let looks = subst Q (sym l.form) (join l.first l.rest (look_has m.place l.first l.own) (each_has IsLook look_has (places_of rs) l.rest l.others)) in
      let turns = subst Q (sym t.form) (join t.first t.rest (turn m.place t.first t.own) (by t.rest (has_report (Some m) ((before ++ r.looks) ++ t.first)) t.others)) in
      subst Q (sym r.form) (join r.looks r.turns looks turns)
    where
      by : (rest : List LogEntry) (b : Bool) → MatchBool b (rest ≡ []) (EachEnd IsTurn (places_of rs) rest) → Q rest
      by rest true h = subst Q (sym h) nil
      by rest false h = each_has IsTurn turn (places_of rs) rest h

-- ---- a round begins, for each end, with one of its events
module _ (a : Address) where
  -- the first of its entries that is at this end, if there is one, is an event
  abbrev Begins : List LogEntry → Type 0
  Begins p = BeginsWithEvent (own_at a p)

  -- two lists that begin so are together one that begins so
  events_join : (p q : List LogEntry) → BeginsWithEvent p → BeginsWithEvent q → BeginsWithEvent (p ++ q)
  events_join [] q x y = y
  events_join (Sent from to bytes ∷ p) q x y = absurd x
  events_join (Got at from bytes ∷ p) q x y = tt
  events_join (Idle at ∷ p) q x y = tt
  events_join (Turn at ∷ p) q x y = tt

  -- two parts that begin so are together one that begins so
  begins_join : (p q : List LogEntry) → Begins p → Begins q → Begins (p ++ q)
  begins_join p q x y = let P : List LogEntry → Type 0 = BeginsWithEvent in subst P (sym (own_at-append a p q)) (events_join (own_at a p) (own_at a q) x y)

  -- the sends of another end are none of this one
  other_sent : (b : Address) (part : List LogEntry) → same_address a b ≡ false → AllSent b part → own_at a part ≡ []
  other_sent b [] e h = refl
  other_sent b (Sent from to bytes ∷ part) e h =
      let z : same_address a from ≡ false = ap (same_address a) h.0 ∙ e in
      ap (λ (t : Bool). (if t then Sent from to bytes ∷ [] else []) ++ own_at a part) z ∙ other_sent b part e h.1
  other_sent b (Got at from bytes ∷ part) e h = absurd h
  other_sent b (Idle at ∷ part) e h = absurd h
  other_sent b (Turn at ∷ part) e h = absurd h

  -- an event with its sends begins so
  block_begins : (b : Address) (e : LogEntry) (sents : List LogEntry) → BeginsWithEvent (e ∷ own_at a sents) → AllSent b sents → BeginsWithEvent ((if same_address a b then e ∷ [] else []) ++ own_at a sents)
  block_begins b e sents x h = by (same_address a b) refl
    where
      by : (t : Bool) → same_address a b ≡ t → BeginsWithEvent ((if t then e ∷ [] else []) ++ own_at a sents)
      by true z = x
      by false z = let P : List LogEntry → Type 0 = BeginsWithEvent in subst P (sym (other_sent b sents z h)) tt

  -- a take begins so
  got_begins : (b : Address) (part : List LogEntry) → IsGot b part → Begins part
  got_begins b part g = let P : List LogEntry → Type 0 = Begins in subst P (sym g.form) (block_begins b (Got b g.from g.bytes) g.sents tt g.own)

  -- a turn begins so
  turn_begins : (b : Address) (part : List LogEntry) → IsTurn b part → Begins part
  turn_begins b part g = let P : List LogEntry → Type 0 = Begins in subst P (sym g.form) (block_begins b (Turn b) g.sents tt g.own)

  -- so does a round
  pub round_begins : (m : Rules) (rs : List Rules) (before part : List LogEntry) → IsRound (Some m) rs before part → BeginsWithEvent (own_at a part)
  round_begins m rs before part r = round_has Begins tt begins_join got_begins turn_begins (λ b. tt) m rs before part r

-- ---- an end that does what its rules say did so before one of its events
head_is : (x y : LogEntry) (xs ys : List LogEntry) → x ∷ xs ≡ y ∷ ys → x ≡ y
head_is x y xs ys h = cc

-- and the same rest
tail_is : (x y : LogEntry) (xs ys : List LogEntry) → x ∷ xs ≡ y ∷ ys → xs ≡ ys
tail_is x y xs ys h = cc

-- a take is no send
got_is_sent : (at from f t : Address) (x y : List ℕ) (xs ys : List LogEntry) → Got at from x ∷ xs ≡ Sent f t y ∷ ys → ⊥
got_is_sent at from f t x y xs ys h = cc

-- a turn is no send
turn_is_sent : (at f t : Address) (y : List ℕ) (xs ys : List LogEntry) → Turn at ∷ xs ≡ Sent f t y ∷ ys → ⊥
turn_is_sent at f t y xs ys h = cc

module _ (rules : Rules) where
  -- a send is not the first of the answers
  no_event : (from to : Address) (bytes : List ℕ) (rest : List LogEntry) (before more : List Event) → Sent from to bytes ∷ rest ≡ answered rules before more → ⊥
  no_event from to bytes rest before [] h = cc
  no_event from to bytes rest before (Gram f b ∷ more) h = cc
  no_event from to bytes rest before (Tick ∷ more) h = cc

  -- these entries with the rest are what is still to be sent and the answers; so are these entries alone
  abbrev Whole : List LogEntry → List Event → List LogEntry → List Event → List Event → List Send → Type 0
  Whole own events ys fs before posts = own ++ ys ≡ sent_by rules.place posts ++ answered rules before (events ++ fs)

  -- these entries alone are what is still to be sent and the answers
  abbrev Front : List LogEntry → List Event → List Event → List Send → Type 0
  Front own events before posts = own ≡ sent_by rules.place posts ++ answered rules before events

  -- where there are none, nothing is still to be sent
  none_left : (ys : List LogEntry) (fs before : List Event) (posts : List Send) → BeginsWithEvent ys → Whole [] [] ys fs before posts → Front [] [] before posts
  none_left ys fs before [] b h = refl
  none_left ys fs before (p ∷ posts) b h = let P : List LogEntry → Type 0 = BeginsWithEvent in absurd (subst P h b)

  -- where a send comes first, it is the first that is still to be sent
  one_sent : (from to : Address) (bytes : List ℕ) (own ys : List LogEntry) (events fs before : List Event) (posts : List Send)
      → ((ps : List Send) → Whole own events ys fs before ps → Front own events before ps) → Whole (Sent from to bytes ∷ own) events ys fs before posts → Front (Sent from to bytes ∷ own) events before posts
  one_sent from to bytes own ys events fs before [] f h = absurd (no_event from to bytes (own ++ ys) before (events ++ fs) h)
  one_sent from to bytes own ys events fs before (p ∷ ps) f h =
      let x : Sent from to bytes ≡ Sent rules.place p.to p.bytes = head_is (Sent from to bytes) (Sent rules.place p.to p.bytes) (own ++ ys) (sent_by rules.place ps ++ answered rules before (events ++ fs)) h in
      let y = f ps (tail_is (Sent from to bytes) (Sent rules.place p.to p.bytes) (own ++ ys) (sent_by rules.place ps ++ answered rules before (events ++ fs)) h) in
      ap (λ (e : LogEntry). e ∷ own) x ∙ ap (λ (l : List LogEntry). Sent rules.place p.to p.bytes ∷ l) y

  -- where a take comes first, nothing is still to be sent, and its sends come next
  one_got : (at from : Address) (bytes : List ℕ) (own ys : List LogEntry) (events fs before : List Event) (posts : List Send)
      → ((bs : List Event) (ps : List Send) → Whole own events ys fs bs ps → Front own events bs ps) → Whole (Got at from bytes ∷ own) (Gram from bytes ∷ events) ys fs before posts → Front (Got at from bytes ∷ own) (Gram from bytes ∷ events) before posts
  one_got at from bytes own ys events fs before (p ∷ ps) f h = absurd (got_is_sent at from rules.place p.to bytes p.bytes (own ++ ys) (sent_by rules.place ps ++ answered rules before (Gram from bytes ∷ (events ++ fs))) h)
  one_got at from bytes own ys events fs before [] f h =
      let sends = rules.sends before (Gram from bytes) in
      let after = before ++ Gram from bytes ∷ [] in
      let x : Got at from bytes ≡ Got rules.place from bytes = head_is (Got at from bytes) (Got rules.place from bytes) (own ++ ys) (sent_by rules.place sends ++ answered rules after (events ++ fs)) h in
      let y = f after sends (tail_is (Got at from bytes) (Got rules.place from bytes) (own ++ ys) (sent_by rules.place sends ++ answered rules after (events ++ fs)) h) in
      ap (λ (e : LogEntry). e ∷ own) x ∙ ap (λ (l : List LogEntry). Got rules.place from bytes ∷ l) y

  -- where a turn comes first, nothing is still to be sent, and its sends come next
  one_turn : (at : Address) (own ys : List LogEntry) (events fs before : List Event) (posts : List Send)
      → ((bs : List Event) (ps : List Send) → Whole own events ys fs bs ps → Front own events bs ps) → Whole (Turn at ∷ own) (Tick ∷ events) ys fs before posts → Front (Turn at ∷ own) (Tick ∷ events) before posts
  one_turn at own ys events fs before (p ∷ ps) f h = absurd (turn_is_sent at rules.place p.to p.bytes (own ++ ys) (sent_by rules.place ps ++ answered rules before (Tick ∷ (events ++ fs))) h)
  one_turn at own ys events fs before [] f h =
      let sends = rules.sends before Tick in
      let after = before ++ Tick ∷ [] in
      let x : Turn at ≡ Turn rules.place = head_is (Turn at) (Turn rules.place) (own ++ ys) (sent_by rules.place sends ++ answered rules after (events ++ fs)) h in
      let y = f after sends (tail_is (Turn at) (Turn rules.place) (own ++ ys) (sent_by rules.place sends ++ answered rules after (events ++ fs)) h) in
      ap (λ (e : LogEntry). e ∷ own) x ∙ ap (λ (l : List LogEntry). Turn rules.place ∷ l) y

  -- so it is for each log
  front_alone : (log ys : List LogEntry) (fs : List Event) → BeginsWithEvent ys → (before : List Event) (posts : List Send) → Whole (own_at rules.place log) (events_at rules.place log) ys fs before posts → Front (own_at rules.place log) (events_at rules.place log) before posts
  front_alone [] ys fs b before posts h = none_left ys fs before posts b h
  front_alone (Sent from to bytes ∷ log) ys fs b before posts h = by (same_address rules.place from) (λ ps. front_alone log ys fs b before ps) h
    where
      by : (t : Bool) → ((ps : List Send) → Whole (own_at rules.place log) (events_at rules.place log) ys fs before ps → Front (own_at rules.place log) (events_at rules.place log) before ps)
          → Whole ((if t then Sent from to bytes ∷ [] else []) ++ own_at rules.place log) (events_at rules.place log) ys fs before posts → Front ((if t then Sent from to bytes ∷ [] else []) ++ own_at rules.place log) (events_at rules.place log) before posts
      by true f g = one_sent from to bytes (own_at rules.place log) ys (events_at rules.place log) fs before posts f g
      by false f g = f posts g
  front_alone (Got at from bytes ∷ log) ys fs b before posts h = by (same_address rules.place at) (λ bs ps. front_alone log ys fs b bs ps) h
    where
      by : (t : Bool) → ((bs : List Event) (ps : List Send) → Whole (own_at rules.place log) (events_at rules.place log) ys fs bs ps → Front (own_at rules.place log) (events_at rules.place log) bs ps)
          → Whole ((if t then Got at from bytes ∷ [] else []) ++ own_at rules.place log) ((if t then Gram from bytes ∷ [] else []) ++ events_at rules.place log) ys fs before posts
          → Front ((if t then Got at from bytes ∷ [] else []) ++ own_at rules.place log) ((if t then Gram from bytes ∷ [] else []) ++ events_at rules.place log) before posts
      by true f g = one_got at from bytes (own_at rules.place log) ys (events_at rules.place log) fs before posts f g
      by false f g = f before posts g
  front_alone (Idle at ∷ log) ys fs b before posts h = front_alone log ys fs b before posts h
  front_alone (Turn at ∷ log) ys fs b before posts h = by (same_address rules.place at) (λ bs ps. front_alone log ys fs b bs ps) h
    where
      by : (t : Bool) → ((bs : List Event) (ps : List Send) → Whole (own_at rules.place log) (events_at rules.place log) ys fs bs ps → Front (own_at rules.place log) (events_at rules.place log) bs ps)
          → Whole ((if t then Turn at ∷ [] else []) ++ own_at rules.place log) ((if t then Tick ∷ [] else []) ++ events_at rules.place log) ys fs before posts
          → Front ((if t then Turn at ∷ [] else []) ++ own_at rules.place log) ((if t then Tick ∷ [] else []) ++ events_at rules.place log) before posts
      by true f g = one_turn at (own_at rules.place log) ys (events_at rules.place log) fs before posts f g
      by false f g = f before posts g

  -- an end that does in a log what its rules say did so in the part before one of its events
  pub follows_front : (before part : List LogEntry) → BeginsWithEvent (own_at rules.place part) → Follows rules (before ++ part) → Follows rules before
  follows_front before part b f =
      front_alone before (own_at rules.place part) (events_at rules.place part) b [] []
      (sym (own_at-append rules.place before part) ∙ f ∙ ap (answered rules []) (events_at-append rules.place before part))
