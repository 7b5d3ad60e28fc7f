-- In a log that stops within a round the sends of an end stand right behind their events, but for some that are left of its last event.
use Rattle.std.proofs.Common.{◌≡◌, ◌⊎◌, inl, inr, ℕ, List, [], ◌∷◌, ◌++◌, Option, refl, ap, sym, subst, ◌∙◌, append_assoc}
use Rattle.std.proofs.lemmas.List.{append-nil}
use Rattle.std.proofs.lemmas.List.Elements.{filter-append}
use Rattle.dcp_types.specs.declared.addresses.Address.{Address}
use Rattle.dcp_ends.specs.declared.entries.LogEntry.{LogEntry}
use Rattle.dcp_ends.specs.declared.entries.LogEntry.TheVariants.{Sent, Got, Idle, Turn}
use Rattle.dcp_ends.specs.Events.{Event, Gram, Tick, Send, Rules}
use Rattle.dcp_ends.specs.Logs.{same_address, entry_of, sent_by, events_at, own_at, answered}
use Rattle.rounds.specs.Rounds.{IsLook, IsTurn, IsLookPart, IsTurnPart, EachPart, IfFirst, places_of, IsLooksPart, IsTurnsPart, IsRoundPart, Rounds}
use Rattle.rounds.specs.Told.{EndsIn, FollowsUpTo}
use Rattle.slave_spec.specs.Allowed.{end_of_entry, entries_of, Piece, Rests, Acts, cut_entries}
use Rattle.slave_spec.proofs.Walking.{same_self}
use Rattle.conform_laws.specs.Runs.{IsCutRun}
use Rattle.conform_laws.proofs.Cutting.{HasPieces, none_has, both_have, turn_has, gots_have, look_has, first_has, looks_have, rounds_have, own_sends, events_in, acts_in, keeps_own, keeps_events, own_cut, events_cut, NoSent, sents_same, answered_no_sent, pieces_follow}

module _ (place : Address) where
  -- ---- the pieces of a round that was stopped

  look_part_has : (a : Address) (part : List LogEntry) → IsLookPart a part → HasPieces place part
  look_part_has a part (count, most, gots) = gots_have place a count part gots

  turn_part_has : (a : Address) (part : List LogEntry) → IsTurnPart a part → HasPieces place part
  turn_part_has a part (inl e) = subst (λ (l : List LogEntry). HasPieces place l) (sym e) (none_has place)
  turn_part_has a part (inr h) = turn_has place a part h

  each_part_has : (Form Cut : Address → List LogEntry → Type 0) → ((a : Address) (part : List LogEntry) → Form a part → HasPieces place part)
      → ((a : Address) (part : List LogEntry) → Cut a part → HasPieces place part) → (places : List Address) (part : List LogEntry) → EachPart Form Cut places part → HasPieces place part
  each_part_has Form Cut f g [] part h = absurd h
  each_part_has Form Cut f g (a ∷ places) part (inl cut) = g a part cut
  each_part_has Form Cut f g (a ∷ places) part (inr (first, rest, e, form, more)) =
      subst (λ (l : List LogEntry). HasPieces place l) (sym e) (both_have place first rest (f a first form) (each_part_has Form Cut f g places rest more))

  nothing_has : (part : List LogEntry) → part ≡ [] → HasPieces place part
  nothing_has part e = subst (λ (l : List LogEntry). HasPieces place l) (sym e) (none_has place)

  looks_part_has : (master : Option Rules) (slaves : List Rules) (part : List LogEntry) → IsLooksPart master slaves part → HasPieces place part
  looks_part_has master slaves part h = subst (λ (l : List LogEntry). HasPieces place l) (sym h.form) (by h.stop)
    where
      by : ((IfFirst IsLookPart master h.first × (h.rest ≡ [])) ⊎ (IfFirst IsLook master h.first × EachPart IsLook IsLookPart (places_of slaves) h.rest)) → HasPieces place (h.first ++ h.rest)
      by (inl (first, e)) = both_have place h.first h.rest (first_has place IsLookPart look_part_has master h.first first) (nothing_has h.rest e)
      by (inr (first, rest)) =
          both_have place h.first h.rest (first_has place IsLook (look_has place) master h.first first) (each_part_has IsLook IsLookPart (look_has place) look_part_has (places_of slaves) h.rest rest)

  turns_part_has : (master : Option Rules) (slaves : List Rules) (log part : List LogEntry) → IsTurnsPart master slaves log part → HasPieces place part
  turns_part_has master slaves log part h = subst (λ (l : List LogEntry). HasPieces place l) (sym h.form) (elim h.stop [
    | inl s ↦ both_have place h.first h.rest (first_has place IsTurnPart turn_part_has master h.first s.0) (nothing_has h.rest s.1)
    | inr s ↦ both_have place h.first h.rest (first_has place IsTurn (turn_has place) master h.first s.0) (each_part_has IsTurn IsTurnPart (turn_has place) turn_part_has (places_of slaves) h.rest s.2)
  ])

  pub round_part_has : (master : Option Rules) (slaves : List Rules) (log part : List LogEntry) → IsRoundPart master slaves log part → HasPieces place part
  round_part_has master slaves log part h = subst (λ (l : List LogEntry). HasPieces place l) (sym h.form) (elim h.stop [
    | inl s ↦ both_have place h.looks h.turns (looks_part_has master slaves h.looks s.0) (nothing_has h.turns s.1)
    | inr s ↦ both_have place h.looks h.turns (looks_have place master slaves h.looks s.0) (turns_part_has master slaves (log ++ h.looks) h.turns s.1)
  ])

  -- ---- pieces that end in an event

  abbrev EndInEvent : List Piece → Type 0
  EndInEvent [] = ⊥
  EndInEvent (Rests ∷ pieces) = EndInEvent pieces
  EndInEvent (Acts event sent ∷ []) = Unit {0}
  EndInEvent (Acts event sent ∷ piece ∷ pieces) = EndInEvent (piece ∷ pieces)

  -- the last of the entries is no Idle
  abbrev EndsBusy : List LogEntry → Type 0
  EndsBusy [] = ⊥
  EndsBusy (Idle at ∷ []) = ⊥
  EndsBusy (entry ∷ []) = Unit {0}
  EndsBusy (entry ∷ next ∷ log) = EndsBusy (next ∷ log)

  busy_behind : (log : List LogEntry) (next : LogEntry) (rest : List LogEntry) → EndsBusy (next ∷ rest) → EndsBusy (log ++ next ∷ rest)
  busy_behind [] next rest h = h
  busy_behind (Sent from to bytes ∷ []) next rest h = h
  busy_behind (Got at from bytes ∷ []) next rest h = h
  busy_behind (Idle at ∷ []) next rest h = h
  busy_behind (Turn at ∷ []) next rest h = h
  busy_behind (Sent from to bytes ∷ second ∷ log) next rest h = busy_behind (second ∷ log) next rest h
  busy_behind (Got at from bytes ∷ second ∷ log) next rest h = busy_behind (second ∷ log) next rest h
  busy_behind (Idle at ∷ second ∷ log) next rest h = busy_behind (second ∷ log) next rest h
  busy_behind (Turn at ∷ second ∷ log) next rest h = busy_behind (second ∷ log) next rest h

  sents_busy : (entry : LogEntry) (sent : List Send) → EndsBusy (entry ∷ []) → EndsBusy (entry ∷ sent_by place sent)
  sents_busy entry [] h = h
  sents_busy (Sent from to bytes) (send ∷ sent) h = sents_busy (Sent place send.to send.bytes) sent tt
  sents_busy (Got at from bytes) (send ∷ sent) h = sents_busy (Sent place send.to send.bytes) sent tt
  sents_busy (Idle at) (send ∷ sent) h = absurd h
  sents_busy (Turn at) (send ∷ sent) h = sents_busy (Sent place send.to send.bytes) sent tt

  -- what stands behind an entry ends so too, where there is something
  behind_one : (entry next : LogEntry) (rest : List LogEntry) → EndsBusy (entry ∷ next ∷ rest) → EndsBusy (next ∷ rest)
  behind_one (Sent from to bytes) next rest h = h
  behind_one (Got at from bytes) next rest h = h
  behind_one (Idle at) next rest h = h
  behind_one (Turn at) next rest h = h

  behind_sents : (entry : LogEntry) (sent : List Send) (next : LogEntry) (rest : List LogEntry) → EndsBusy (entry ∷ (sent_by place sent ++ next ∷ rest)) → EndsBusy (next ∷ rest)
  behind_sents entry [] next rest h = behind_one entry next rest h
  behind_sents entry (send ∷ sent) next rest h = behind_sents (Sent place send.to send.bytes) sent next rest (behind_one entry (Sent place send.to send.bytes) (sent_by place sent ++ next ∷ rest) h)

  ends_in_event : (pieces : List Piece) → EndsBusy (cut_entries place pieces) → EndInEvent pieces
  ends_in_event [] h = h
  ends_in_event (Rests ∷ []) h = h
  ends_in_event (Rests ∷ Rests ∷ pieces) h = ends_in_event (Rests ∷ pieces) h
  ends_in_event (Rests ∷ Acts (Gram from bytes) sent ∷ pieces) h = ends_in_event (Acts (Gram from bytes) sent ∷ pieces) h
  ends_in_event (Rests ∷ Acts Tick sent ∷ pieces) h = ends_in_event (Acts Tick sent ∷ pieces) h
  ends_in_event (Acts event sent ∷ []) h = tt
  ends_in_event (Acts event sent ∷ Rests ∷ pieces) h = ends_in_event (Rests ∷ pieces) (behind_sents (entry_of place event) sent (Idle place) (cut_entries place pieces) h)
  ends_in_event (Acts event sent ∷ Acts (Gram from bytes) sent' ∷ pieces) h =
      ends_in_event (Acts (Gram from bytes) sent' ∷ pieces) (behind_sents (entry_of place event) sent (Got place from bytes) (sent_by place sent' ++ cut_entries place pieces) h)
  ends_in_event (Acts event sent ∷ Acts Tick sent' ∷ pieces) h =
      ends_in_event (Acts Tick sent' ∷ pieces) (behind_sents (entry_of place event) sent (Turn place) (sent_by place sent' ++ cut_entries place pieces) h)

  -- ---- the last event with more sends

  abbrev longer : List Piece → List Send → List Piece
  longer [] more = []
  longer (Rests ∷ pieces) more = Rests ∷ longer pieces more
  longer (Acts event sent ∷ []) more = Acts event (sent ++ more) ∷ []
  longer (Acts event sent ∷ piece ∷ pieces) more = Acts event sent ∷ longer (piece ∷ pieces) more

  sents_joined : (xs ys : List Send) → sent_by place (xs ++ ys) ≡ sent_by place xs ++ sent_by place ys
  sents_joined [] ys = refl
  sents_joined (x ∷ xs) ys = ap (λ (l : List LogEntry). Sent place x.to x.bytes ∷ l) (sents_joined xs ys)

  last_cut : (event : Event) (sent more : List Send) → cut_entries place (Acts event (sent ++ more) ∷ []) ≡ cut_entries place (Acts event sent ∷ []) ++ sent_by place more
  last_cut event sent more =
      ap (λ (l : List LogEntry). entry_of place event ∷ l) (append-nil (sent_by place (sent ++ more)) ∙ sents_joined sent more ∙ ap (λ (l : List LogEntry). l ++ sent_by place more) (sym (append-nil (sent_by place sent))))

  longer_cut : (pieces : List Piece) (more : List Send) → EndInEvent pieces → cut_entries place (longer pieces more) ≡ cut_entries place pieces ++ sent_by place more
  longer_cut [] more h = absurd h
  longer_cut (Rests ∷ pieces) more h = ap (λ (l : List LogEntry). Idle place ∷ l) (longer_cut pieces more h)
  longer_cut (Acts event sent ∷ []) more h = last_cut event sent more
  longer_cut (Acts event sent ∷ piece ∷ pieces) more h =
      ap (λ (l : List LogEntry). entry_of place event ∷ (sent_by place sent ++ l)) (longer_cut (piece ∷ pieces) more h)
      ∙ ap (λ (l : List LogEntry). entry_of place event ∷ l) (sym (append_assoc (sent_by place sent) (cut_entries place (piece ∷ pieces)) (sent_by place more)))

  longer_acts : (pieces : List Piece) (more : List Send) → EndInEvent pieces → acts_in place (longer pieces more) ≡ acts_in place pieces ++ sent_by place more
  longer_acts [] more h = absurd h
  longer_acts (Rests ∷ pieces) more h = longer_acts pieces more h
  longer_acts (Acts event sent ∷ []) more h = last_cut event sent more
  longer_acts (Acts event sent ∷ piece ∷ pieces) more h =
      ap (λ (l : List LogEntry). entry_of place event ∷ (sent_by place sent ++ l)) (longer_acts (piece ∷ pieces) more h)
      ∙ ap (λ (l : List LogEntry). entry_of place event ∷ l) (sym (append_assoc (sent_by place sent) (acts_in place (piece ∷ pieces)) (sent_by place more)))

  longer_events : (pieces : List Piece) (more : List Send) → events_in place (longer pieces more) ≡ events_in place pieces
  longer_events [] more = refl
  longer_events (Rests ∷ pieces) more = longer_events pieces more
  longer_events (Acts event sent ∷ []) more = refl
  longer_events (Acts event sent ∷ piece ∷ pieces) more = ap (λ (l : List Event). event ∷ l) (longer_events (piece ∷ pieces) more)

  -- ---- what is left is sends

  rest_of_sends : (sent sends : List Send) (left : List LogEntry) → sent_by place sent ++ left ≡ sent_by place sends → (more : List Send) × (left ≡ sent_by place more)
  rest_of_sends [] sends left e = (sends, e)
  rest_of_sends (x ∷ sent) [] left e = absurd cc
  rest_of_sends (x ∷ sent) (y ∷ sends) left e = rest_of_sends sent sends left cc

  -- where an event follows, no Sent does
  follows_no_sent : (pieces : List Piece) (left : List LogEntry) → EndInEvent pieces → NoSent place (acts_in place pieces ++ left)
  follows_no_sent [] left h = absurd h
  follows_no_sent (Rests ∷ pieces) left h = follows_no_sent pieces left h
  follows_no_sent (Acts (Gram from bytes) sent ∷ pieces) left h = tt
  follows_no_sent (Acts Tick sent ∷ pieces) left h = tt

  left_is_sends : (rules : Rules) → rules.place ≡ place → (before : List Event) (pieces : List Piece) (left : List LogEntry) → EndInEvent pieces
      → acts_in place pieces ++ left ≡ answered rules before (events_in place pieces) → (more : List Send) × (left ≡ sent_by place more)
  left_is_sends rules same before [] left h e = absurd h
  left_is_sends rules same before (Rests ∷ pieces) left h e = left_is_sends rules same before pieces left h e
  left_is_sends rules same before (Acts event sent ∷ []) left h e =
      let own : List Send = rules.sends before event in
      let tails : (sent_by place sent ++ []) ++ left ≡ sent_by rules.place own ++ [] = cc in
      rest_of_sends sent own left (ap (λ (l : List LogEntry). l ++ left) (sym (append-nil (sent_by place sent))) ∙ tails ∙ append-nil (sent_by rules.place own) ∙ ap (λ (a : Address). sent_by a own) same)
  left_is_sends rules same before (Acts event sent ∷ piece ∷ pieces) left h e =
      let own : List Send = rules.sends before event in
      let events : List Event = events_in place (piece ∷ pieces) in
      let later : List LogEntry = answered rules (before ++ event ∷ []) events in
      let acts : List LogEntry = acts_in place (piece ∷ pieces) in
      let tails : (sent_by place sent ++ acts) ++ left ≡ sent_by rules.place own ++ later = cc in
      let apart : sent_by place sent ++ (acts ++ left) ≡ sent_by place own ++ later =
      sym (append_assoc (sent_by place sent) acts left) ∙ tails ∙ ap (λ (a : Address). sent_by a own ++ later) same in
      let none : NoSent place later = subst (λ (a : Address). NoSent a later) same (answered_no_sent rules (before ++ event ∷ []) events) in
      left_is_sends rules same (before ++ event ∷ []) (piece ∷ pieces) left h (sents_same place sent own (acts ++ left) later (follows_no_sent (piece ∷ pieces) left h) none apart).1

  sents_kept : (sent : List Send) → entries_of place (sent_by place sent) ≡ sent_by place sent
  sents_kept [] = refl
  sents_kept (send ∷ sent) = rw (same_self place) (ap (λ (l : List LogEntry). Sent place send.to send.bytes ∷ l) (sents_kept sent))

  kept_joined : (xs ys : List LogEntry) → entries_of place (xs ++ ys) ≡ entries_of place xs ++ entries_of place ys
  kept_joined xs ys = filter-append (λ entry. same_address (end_of_entry entry) place) xs ys

  event_kept : (event : Event) (sents : List LogEntry) → entries_of place (entry_of place event ∷ sents) ≡ entry_of place event ∷ entries_of place sents
  event_kept (Gram from bytes) sents = rw (same_self place) refl
  event_kept Tick sents = rw (same_self place) refl

  event_busy : (event : Event) → EndsBusy (entry_of place event ∷ [])
  event_busy (Gram from bytes) = tt
  event_busy Tick = tt

  -- a log that ends in an event has pieces that do
  ended : (log : List LogEntry) (pieces : List Piece) → entries_of place log ≡ cut_entries place pieces → EndsIn place log → EndInEvent pieces
  ended log pieces e h =
      let s = own_sends place h.sents h.own in
      let all : entries_of place log ≡ entries_of place h.before ++ entry_of place h.event ∷ sent_by place s.0 =
      ap (λ (l : List LogEntry). entries_of place l) h.form ∙ kept_joined h.before (entry_of place h.event ∷ h.sents)
      ∙ ap (λ (l : List LogEntry). entries_of place h.before ++ l) (event_kept h.event h.sents ∙ ap (λ (l : List LogEntry). entry_of place h.event ∷ l) s.1) in
      ends_in_event pieces (subst EndsBusy (sym all ∙ e) (busy_behind (entries_of place h.before) (entry_of place h.event) (sent_by place s.0) (sents_busy (entry_of place h.event) s.0 (event_busy h.event))))

-- with some sends more it is a cut run
pub front_cut : (rules : Rules) (log : List LogEntry) → HasPieces rules.place log → FollowsUpTo rules log → (more : List LogEntry) × IsCutRun rules (log ++ more)
front_cut rules log (pieces, e) h = elim h.last [
  | inl none ↦ whole none
  | inr ends ↦ broken_off (ended place log pieces e ends)
]
  where
    place : Address
    place = rules.place

    own : acts_in rules.place pieces ++ h.left ≡ answered rules [] (events_in rules.place pieces)
    own =
        ap (λ (l : List LogEntry). l ++ h.left) (sym (keeps_own rules.place log ∙ ap (λ (l : List LogEntry). own_at rules.place l) e ∙ own_cut rules.place pieces)) ∙ h.own
        ∙ ap (λ (l : List Event). answered rules [] l) (keeps_events rules.place log ∙ ap (λ (l : List LogEntry). events_at rules.place l) e ∙ events_cut rules.place pieces)

    whole : h.left ≡ [] → (more : List LogEntry) × IsCutRun rules (log ++ more)
    whole none =
        let same : acts_in rules.place pieces ≡ answered rules [] (events_in rules.place pieces) =
        sym (append-nil (acts_in rules.place pieces)) ∙ ap (λ (l : List LogEntry). acts_in rules.place pieces ++ l) (sym none) ∙ own in
        ([], record { pieces = pieces; cut = ap (λ (l : List LogEntry). entries_of rules.place l) (append-nil log) ∙ e; follow = pieces_follow rules [] pieces same })

    broken_off : EndInEvent rules.place pieces → (more : List LogEntry) × IsCutRun rules (log ++ more)
    broken_off ends =
        let left = left_is_sends rules.place rules refl [] pieces h.left ends own in
        let all : List Piece = longer rules.place pieces left.0 in
        let cut : entries_of rules.place (log ++ sent_by rules.place left.0) ≡ cut_entries rules.place all =
        kept_joined rules.place log (sent_by rules.place left.0) ∙ ap (λ (l : List LogEntry). l ++ entries_of rules.place (sent_by rules.place left.0)) e
        ∙ ap (λ (l : List LogEntry). cut_entries rules.place pieces ++ l) (sents_kept rules.place left.0) ∙ sym (longer_cut rules.place pieces left.0 ends) in
        let same : acts_in rules.place all ≡ answered rules [] (events_in rules.place all) =
        longer_acts rules.place pieces left.0 ends ∙ ap (λ (l : List LogEntry). acts_in rules.place pieces ++ l) (sym left.1) ∙ own
        ∙ ap (λ (l : List Event). answered rules [] l) (sym (longer_events rules.place pieces left.0)) in
        (sent_by rules.place left.0, record { pieces = all; cut = cut; follow = pieces_follow rules [] all same })

pub part_cut : (master : Option Rules) (slaves : List Rules) (n : ℕ) (before part : List LogEntry) (rules : Rules) → Rounds master slaves n before → IsRoundPart master slaves before part
    → FollowsUpTo rules (before ++ part) → (more : List LogEntry) × IsCutRun rules ((before ++ part) ++ more)
part_cut master slaves n before part rules rounds stopped follows =
    front_cut rules (before ++ part) (both_have rules.place before part (rounds_have rules.place master slaves n before rounds) (round_part_has rules.place master slaves before part stopped)) follows
