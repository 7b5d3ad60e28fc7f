-- In a log of whole rounds the sends of an end stand right behind their events.
use Rattle.std.proofs.Common.{◌≡◌, ◌⊎◌, inl, inr, ◌≤◌, ◌<◌, ℕ, zero, suc, Bool, true, false, List, [], ◌∷◌, ◌++◌, Option, Some, None, refl, ap, sym, subst, ◌∙◌, append_assoc, arith, MatchBool}
use Rattle.std.proofs.lemmas.List.{append-nil}
use Rattle.std.proofs.lemmas.List.Elements.{filter-append}
use Rattle.dcp_types.specs.declared.addresses.Address.{Address}
use Rattle.dcp_ends.specs.declared.entries.LogEntry.{LogEntry}
use Rattle.dcp_ends.specs.declared.entries.LogEntry.TheVariants.{Sent, Got, Idle, Turn}
use Rattle.dcp_ends.specs.Events.{Event, Gram, Tick, Send, Rules}
use Rattle.dcp_ends.specs.Logs.{same_address, entry_of, sent_by, event_at, events_at, own_entry, own_at, answered}
use Rattle.rounds.specs.Rounds.{AllSent, IsGot, IsTurn, Gots, IsLook, EachEnd, IfFirst, places_of, has_report, IsLooks, IsTurns, IsRound, Rounds}
use Rattle.rounds.specs.Told.{Follows}
use Rattle.slave_spec.specs.Allowed.{end_of_entry, entries_of, Piece, Rests, Acts, piece_entries, cut_entries}
use Rattle.slave_spec.proofs.Walking.{address_is, same_self}
use Rattle.conform_laws.specs.Runs.{PiecesFollow, IsCutRun}

-- ---- addresses

pub turned_about : (a b : Address) → same_address a b ≡ same_address b a
turned_about a b = by (same_address a b) (same_address b a) refl refl
  where
    by : (s t : Bool) → same_address a b ≡ s → same_address b a ≡ t → s ≡ t
    by true true e f = refl
    by false false e f = refl
    by true false e f = let g : a ≡ b = address_is a b e in let h : same_address b a ≡ true = subst (λ (z : Address). same_address z a ≡ true) g (same_self a) in absurd (cc (f, h))
    by false true e f = let g : b ≡ a = address_is b a f in let h : same_address a b ≡ true = subst (λ (z : Address). same_address z b ≡ true) g (same_self b) in absurd (cc (e, h))

-- ---- the pieces of a part of a log

module _ (place : Address) where
  pub cut_joined : (ps qs : List Piece) → cut_entries place (ps ++ qs) ≡ cut_entries place ps ++ cut_entries place qs
  cut_joined [] qs = refl
  cut_joined (p ∷ ps) qs = ap (λ (l : List LogEntry). piece_entries place p ++ l) (cut_joined ps qs) ∙ sym (append_assoc (piece_entries place p) (cut_entries place ps) (cut_entries place qs))

  abbrev pub HasPieces : List LogEntry → Type 0
  HasPieces part = (pieces : List Piece) × (entries_of place part ≡ cut_entries place pieces)

  pub none_has : HasPieces []
  none_has = ([], refl)

  pub both_have : (xs ys : List LogEntry) → HasPieces xs → HasPieces ys → HasPieces (xs ++ ys)
  both_have xs ys (ps, e) (qs, f) =
      (ps ++ qs, filter-append (λ entry. same_address (end_of_entry entry) place) xs ys ∙ ap (λ (l : List LogEntry). l ++ entries_of place ys) e ∙ ap (λ (l : List LogEntry). cut_entries place ps ++ l) f ∙ sym (cut_joined ps qs))

  -- the Sents of another end are none of this one's
  others : (a : Address) (part : List LogEntry) → same_address a place ≡ false → AllSent a part → entries_of place part ≡ []
  others a [] o h = refl
  others a (Sent from to bytes ∷ part) o (same, h) =
      let f : same_address from place ≡ false = subst (λ (b : Address). same_address b place ≡ false) (sym same) o in
      rw f (others a part o h)
  others a (Got at from bytes ∷ part) o h = absurd h
  others a (Idle at ∷ part) o h = absurd h
  others a (Turn at ∷ part) o h = absurd h

  -- the Sents of this one are sends
  pub own_sends : (part : List LogEntry) → AllSent place part → (sent : List Send) × (entries_of place part ≡ sent_by place sent)
  own_sends [] h = ([], refl)
  own_sends (Sent from to bytes ∷ part) (same, h) =
      let rest = own_sends part h in
      let f : same_address from place ≡ true = subst (λ (b : Address). same_address b place ≡ true) (sym same) (same_self place) in (
        record { to = to; bytes = bytes } ∷ rest.0,
        rw f (ap (λ (l : List LogEntry). Sent from to bytes ∷ l) rest.1 ∙ ap (λ (b : Address). Sent b to bytes ∷ sent_by place rest.0) same),
      )
  own_sends (Got at from bytes ∷ part) h = absurd h
  own_sends (Idle at ∷ part) h = absurd h
  own_sends (Turn at ∷ part) h = absurd h

  -- an event of an end with its Sents
  acts_have : (a : Address) (event : Event) (sents : List LogEntry) → AllSent a sents → (b : Bool) → same_address a place ≡ b → HasPieces (entry_of a event ∷ sents)
  acts_have a (Gram from bytes) sents h false o = ([], rw o (others a sents o h))
  acts_have a Tick sents h false o = ([], rw o (others a sents o h))
  acts_have a (Gram from bytes) sents h true o =
      let e : a ≡ place = address_is a place o in
      let s = own_sends sents (subst (λ (b : Address). AllSent b sents) e h) in (
        Acts (Gram from bytes) s.0 ∷ [],
        rw o (ap (λ (l : List LogEntry). Got a from bytes ∷ l) s.1 ∙ ap (λ (b : Address). Got b from bytes ∷ sent_by place s.0) e ∙ ap (λ (l : List LogEntry). Got place from bytes ∷ l) (sym (append-nil (sent_by place s.0)))),
      )
  acts_have a Tick sents h true o =
      let e : a ≡ place = address_is a place o in
      let s = own_sends sents (subst (λ (b : Address). AllSent b sents) e h) in (
        Acts Tick s.0 ∷ [],
        rw o (ap (λ (l : List LogEntry). Turn a ∷ l) s.1 ∙ ap (λ (b : Address). Turn b ∷ sent_by place s.0) e ∙ ap (λ (l : List LogEntry). Turn place ∷ l) (sym (append-nil (sent_by place s.0)))),
      )

  rest_has : (a : Address) (b : Bool) → same_address a place ≡ b → HasPieces (Idle a ∷ [])
  rest_has a false o = ([], rw o refl)
  rest_has a true o = (Rests ∷ [], rw o (ap (λ (b : Address). Idle b ∷ []) (address_is a place o)))

  pub got_has : (a : Address) (part : List LogEntry) → IsGot a part → HasPieces part
  got_has a part h = subst (λ (l : List LogEntry). HasPieces l) (sym h.form) (acts_have a (Gram h.from h.bytes) h.sents h.own (same_address a place) refl)

  pub turn_has : (a : Address) (part : List LogEntry) → IsTurn a part → HasPieces part
  turn_has a part h = subst (λ (l : List LogEntry). HasPieces l) (sym h.form) (acts_have a Tick h.sents h.own (same_address a place) refl)

  pub gots_have : (a : Address) (n : ℕ) (part : List LogEntry) → Gots a n part → HasPieces part
  gots_have a zero part h = subst (λ (l : List LogEntry). HasPieces l) (sym h) none_has
  gots_have a (suc n) part (before, last, e, gots, got) =
      subst (λ (l : List LogEntry). HasPieces l) (sym e) (both_have before last (gots_have a n before gots) (got_has a last got))

  at_most : (n m : ℕ) → n ≤ m → (n ≡ m) ⊎ (n < m)
  at_most zero zero h = inl refl
  at_most zero (suc m) h = inr (omega arith)
  at_most (suc n) zero h = absurd (omega (arith, h))
  at_most (suc n) (suc m) h = elim (at_most n m (omega (arith, h))) [
    | inl e ↦ inl (ap suc e)
    | inr l ↦ inr (omega (arith, l))
  ]

  pub look_has : (a : Address) (part : List LogEntry) → IsLook a part → HasPieces part
  look_has a part h =
      let gots = gots_have a h.count h.gots h.form in
      elim (at_most h.count 64 h.most) [
        | inl e ↦ subst (λ (l : List LogEntry). HasPieces l) (sym (h.full e)) gots
        | inr l ↦ subst (λ (l : List LogEntry). HasPieces l) (sym (h.idle l)) (both_have h.gots (Idle a ∷ []) gots (rest_has a (same_address a place) refl))
      ]

  pub each_has : (Form : Address → List LogEntry → Type 0) → ((a : Address) (part : List LogEntry) → Form a part → HasPieces part)
      → (places : List Address) (part : List LogEntry) → EachEnd Form places part → HasPieces part
  each_has Form f [] part h = subst (λ (l : List LogEntry). HasPieces l) (sym h) none_has
  each_has Form f (a ∷ places) part (first, rest, e, own, more) =
      subst (λ (l : List LogEntry). HasPieces l) (sym e) (both_have first rest (f a first own) (each_has Form f places rest more))

  pub first_has : (Form : Address → List LogEntry → Type 0) → ((a : Address) (part : List LogEntry) → Form a part → HasPieces part)
      → (master : Option Rules) (part : List LogEntry) → IfFirst Form master part → HasPieces part
  first_has Form f None part h = subst (λ (l : List LogEntry). HasPieces l) (sym h) none_has
  first_has Form f (Some rules) part h = f rules.place part h

  pub looks_have : (master : Option Rules) (slaves : List Rules) (part : List LogEntry) → IsLooks master slaves part → HasPieces part
  looks_have master slaves part h =
      subst (λ (l : List LogEntry). HasPieces l) (sym h.form)
      (both_have h.first h.rest (first_has IsLook look_has master h.first h.own) (each_has IsLook look_has (places_of slaves) h.rest h.others))

  pub turns_have : (master : Option Rules) (slaves : List Rules) (log part : List LogEntry) → IsTurns master slaves log part → HasPieces part
  turns_have master slaves log part h =
      subst (λ (l : List LogEntry). HasPieces l) (sym h.form)
      (both_have h.first h.rest (first_has IsTurn turn_has master h.first h.own) (rest (has_report master (log ++ h.first)) h.others))
    where
      rest : (b : Bool) → MatchBool b (h.rest ≡ []) (EachEnd IsTurn (places_of slaves) h.rest) → HasPieces h.rest
      rest true e = subst (λ (l : List LogEntry). HasPieces l) (sym e) none_has
      rest false each = each_has IsTurn turn_has (places_of slaves) h.rest each

  round_has : (master : Option Rules) (slaves : List Rules) (log part : List LogEntry) → IsRound master slaves log part → HasPieces part
  round_has master slaves log part h =
      subst (λ (l : List LogEntry). HasPieces l) (sym h.form)
      (both_have h.looks h.turns (looks_have master slaves h.looks h.looked) (turns_have master slaves (log ++ h.looks) h.turns h.turned))

  pub rounds_have : (master : Option Rules) (slaves : List Rules) (n : ℕ) (log : List LogEntry) → Rounds master slaves n log → HasPieces log
  rounds_have master slaves zero log h = subst (λ (l : List LogEntry). HasPieces l) (sym h) none_has
  rounds_have master slaves (suc n) log (before, part, e, rounds, round) =
      subst (λ (l : List LogEntry). HasPieces l) (sym e)
      (both_have before part (rounds_have master slaves n before rounds) (round_has master slaves before part round))

  -- ---- the same without Idles

  abbrev pub events_in : List Piece → List Event
  events_in [] = []
  events_in (Rests ∷ pieces) = events_in pieces
  events_in (Acts event sent ∷ pieces) = event ∷ events_in pieces

  abbrev pub acts_in : List Piece → List LogEntry
  acts_in [] = []
  acts_in (Rests ∷ pieces) = acts_in pieces
  acts_in (Acts event sent ∷ pieces) = entry_of place event ∷ (sent_by place sent ++ acts_in pieces)

  -- all that counts of an end stands among its entries
  pub keeps_own : (log : List LogEntry) → own_at place log ≡ own_at place (entries_of place log)
  keeps_own [] = refl
  keeps_own (entry ∷ log) = by (same_address (end_of_entry entry) place) refl (keeps_own log)
    where
      own : (e : LogEntry) → same_address (end_of_entry e) place ≡ false → own_entry place e ≡ []
      own (Sent from to bytes) o = let f : same_address place from ≡ false = turned_about place from ∙ o in rw f refl
      own (Got at from bytes) o = let f : same_address place at ≡ false = turned_about place at ∙ o in rw f refl
      own (Idle at) o = refl
      own (Turn at) o = let f : same_address place at ≡ false = turned_about place at ∙ o in rw f refl

      by : (b : Bool) → same_address (end_of_entry entry) place ≡ b → own_at place log ≡ own_at place (entries_of place log) → own_at place (entry ∷ log) ≡ own_at place (entries_of place (entry ∷ log))
      by true o more = rw o (ap (λ (l : List LogEntry). own_entry place entry ++ l) more)
      by false o more = rw o (ap (λ (l : List LogEntry). l ++ own_at place log) (own entry o) ∙ more)

  pub keeps_events : (log : List LogEntry) → events_at place log ≡ events_at place (entries_of place log)
  keeps_events [] = refl
  keeps_events (entry ∷ log) = by (same_address (end_of_entry entry) place) refl (keeps_events log)
    where
      none : (e : LogEntry) → same_address (end_of_entry e) place ≡ false → event_at place e ≡ []
      none (Sent from to bytes) o = refl
      none (Got at from bytes) o = let f : same_address place at ≡ false = turned_about place at ∙ o in rw f refl
      none (Idle at) o = refl
      none (Turn at) o = let f : same_address place at ≡ false = turned_about place at ∙ o in rw f refl

      by : (b : Bool) → same_address (end_of_entry entry) place ≡ b → events_at place log ≡ events_at place (entries_of place log) → events_at place (entry ∷ log) ≡ events_at place (entries_of place (entry ∷ log))
      by true o more = rw o (ap (λ (l : List Event). event_at place entry ++ l) more)
      by false o more = rw o (ap (λ (l : List Event). l ++ events_at place log) (none entry o) ∙ more)

  own_joined : (xs ys : List LogEntry) → own_at place (xs ++ ys) ≡ own_at place xs ++ own_at place ys
  own_joined [] ys = refl
  own_joined (x ∷ xs) ys = ap (λ (l : List LogEntry). own_entry place x ++ l) (own_joined xs ys) ∙ sym (append_assoc (own_entry place x) (own_at place xs) (own_at place ys))

  events_joined : (xs ys : List LogEntry) → events_at place (xs ++ ys) ≡ events_at place xs ++ events_at place ys
  events_joined [] ys = refl
  events_joined (x ∷ xs) ys = ap (λ (l : List Event). event_at place x ++ l) (events_joined xs ys) ∙ sym (append_assoc (event_at place x) (events_at place xs) (events_at place ys))

  own_sents : (sent : List Send) → own_at place (sent_by place sent) ≡ sent_by place sent
  own_sents [] = refl
  own_sents (send ∷ sent) = rw (same_self place) (ap (λ (l : List LogEntry). Sent place send.to send.bytes ∷ l) (own_sents sent))

  no_events : (sent : List Send) → events_at place (sent_by place sent) ≡ []
  no_events [] = refl
  no_events (send ∷ sent) = no_events sent

  own_event : (event : Event) → own_entry place (entry_of place event) ≡ entry_of place event ∷ []
  own_event (Gram from bytes) = rw (same_self place) refl
  own_event Tick = rw (same_self place) refl

  one_event : (event : Event) → event_at place (entry_of place event) ≡ event ∷ []
  one_event (Gram from bytes) = rw (same_self place) refl
  one_event Tick = rw (same_self place) refl

  pub own_cut : (pieces : List Piece) → own_at place (cut_entries place pieces) ≡ acts_in pieces
  own_cut [] = refl
  own_cut (Rests ∷ pieces) = own_cut pieces
  own_cut (Acts event sent ∷ pieces) =
      ap (λ (l : List LogEntry). l ++ own_at place (sent_by place sent ++ cut_entries place pieces)) (own_event event)
      ∙ ap (λ (l : List LogEntry). entry_of place event ∷ l) (own_joined (sent_by place sent) (cut_entries place pieces)
      ∙ ap (λ (l : List LogEntry). l ++ own_at place (cut_entries place pieces)) (own_sents sent) ∙ ap (λ (l : List LogEntry). sent_by place sent ++ l) (own_cut pieces))

  pub events_cut : (pieces : List Piece) → events_at place (cut_entries place pieces) ≡ events_in pieces
  events_cut [] = refl
  events_cut (Rests ∷ pieces) = events_cut pieces
  events_cut (Acts event sent ∷ pieces) =
      ap (λ (l : List Event). l ++ events_at place (sent_by place sent ++ cut_entries place pieces)) (one_event event)
      ∙ ap (λ (l : List Event). event ∷ l) (events_joined (sent_by place sent) (cut_entries place pieces)
      ∙ ap (λ (l : List Event). l ++ events_at place (cut_entries place pieces)) (no_events sent) ∙ events_cut pieces)

  -- ---- the sends of each event

  abbrev pub NoSent : List LogEntry → Type 0
  NoSent [] = Unit {0}
  NoSent (Sent from to bytes ∷ log) = ⊥
  NoSent (Got at from bytes ∷ log) = Unit {0}
  NoSent (Idle at ∷ log) = Unit {0}
  NoSent (Turn at ∷ log) = Unit {0}

  pub acts_no_sent : (pieces : List Piece) → NoSent (acts_in pieces)
  acts_no_sent [] = tt
  acts_no_sent (Rests ∷ pieces) = acts_no_sent pieces
  acts_no_sent (Acts (Gram from bytes) sent ∷ pieces) = tt
  acts_no_sent (Acts Tick sent ∷ pieces) = tt

  -- Sents before what is none are told apart from it in one way
  pub sents_same : (ss ts : List Send) (xs ys : List LogEntry) → NoSent xs → NoSent ys → sent_by place ss ++ xs ≡ sent_by place ts ++ ys → (ss ≡ ts) × (xs ≡ ys)
  sents_same [] [] xs ys a b e = (refl, e)
  sents_same [] (t ∷ ts) xs ys a b e = absurd (subst NoSent e a)
  sents_same (s ∷ ss) [] xs ys a b e = absurd (subst NoSent (sym e) b)
  sents_same (s ∷ ss) (t ∷ ts) xs ys a b e =
      let to : s.to ≡ t.to = cc in
      let bytes : s.bytes ≡ t.bytes = cc in
      let rest : sent_by place ss ++ xs ≡ sent_by place ts ++ ys = cc in
      let more = sents_same ss ts xs ys a b rest in
      let same : s ≡ t = send_is s.to t.to s.bytes t.bytes to bytes in
      (ap (λ (z : Send). z ∷ ss) same ∙ ap (λ (l : List Send). t ∷ l) more.0, more.1)
    where
      made : Address → List ℕ → Send
      made to bytes = record { to = to; bytes = bytes }

      send_is : (a b : Address) (c d : List ℕ) → a ≡ b → c ≡ d → made a c ≡ made b d
      send_is a b c d f g = ap (λ (z : Address). made z c) f ∙ ap (λ (z : List ℕ). made b z) g

module _ (rules : Rules) where
  pub answered_no_sent : (before events : List Event) → NoSent rules.place (answered rules before events)
  answered_no_sent before [] = tt
  answered_no_sent before (Gram from bytes ∷ events) = tt
  answered_no_sent before (Tick ∷ events) = tt

  pub pieces_follow : (before : List Event) (pieces : List Piece) → acts_in rules.place pieces ≡ answered rules before (events_in rules.place pieces) → PiecesFollow rules before pieces
  pieces_follow before [] e = tt
  pieces_follow before (Rests ∷ pieces) e = pieces_follow before pieces e
  pieces_follow before (Acts event sent ∷ pieces) e =
      let events : List Event = events_in rules.place pieces in
      let later : List LogEntry = answered rules (before ++ event ∷ []) events in
      let tails : sent_by rules.place sent ++ acts_in rules.place pieces ≡ sent_by rules.place (rules.sends before event) ++ later = cc in
      let same = sents_same rules.place sent (rules.sends before event) (acts_in rules.place pieces) later (acts_no_sent rules.place pieces) (answered_no_sent (before ++ event ∷ []) events) tails in
      (same.0, pieces_follow (before ++ event ∷ []) pieces same.1)

pub rounds_cut : (master : Option Rules) (slaves : List Rules) (n : ℕ) (log : List LogEntry) (rules : Rules) → Rounds master slaves n log → Follows rules log → IsCutRun rules log
rounds_cut master slaves n log rules rounds follows = by (rounds_have rules.place master slaves n log rounds)
  where
    by : HasPieces rules.place log → IsCutRun rules log
    by (pieces, e) =
        let own : own_at rules.place log ≡ acts_in rules.place pieces = keeps_own rules.place log ∙ ap (λ (l : List LogEntry). own_at rules.place l) e ∙ own_cut rules.place pieces in
        let events : events_at rules.place log ≡ events_in rules.place pieces = keeps_events rules.place log ∙ ap (λ (l : List LogEntry). events_at rules.place l) e ∙ events_cut rules.place pieces in
        record { pieces = pieces; cut = e; follow = pieces_follow rules [] pieces (sym own ∙ follows ∙ ap (λ (l : List Event). answered rules [] l) events) }
