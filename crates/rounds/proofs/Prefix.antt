-- What was done of a round that was refused is the beginning of a round.
use Rattle.std.proofs.Common.{◌≡◌, ◌<◌, List, [], ◌∷◌, ◌++◌, Bool, true, false, MatchBool, Option, None, Some, refl, ap, sym, ◌∙◌, ◌⊎◌, inl, inr, arith, append_assoc}
use Rattle.std.proofs.lemmas.List.{append-nil}
use Rattle.dcp_types.specs.declared.addresses.Address.{Address}
use Rattle.dcp_ends.specs.declared.entries.LogEntry.{LogEntry}
use Rattle.dcp_ends.specs.declared.entries.LogEntry.TheVariants.{Idle, Turn}
use Rattle.dcp_ends.specs.Events.{Rules}
use Rattle.rounds.specs.Rounds.{EachEnd, EachPart, IfFirst, IsLook, IsLookPart, IsTurn, IsTurnPart, IsLooks, IsLooksPart, IsTurns, IsTurnsPart, IsRound, IsRoundPart, has_report, places_of}
use Rattle.rounds.proofs.Others.{at_most}

-- it can go on so that it has this form
abbrev pub Begins : (List LogEntry → Type 0) → List LogEntry → Type 0
Begins Form part = (rest : List LogEntry) × Form (part ++ rest)

whole : (Form : List LogEntry → Type 0) (part : List LogEntry) → Form part → Begins Form part
whole Form part form = ([], rw append-nil form)

look_begins : (a : Address) (part : List LogEntry) → IsLookPart a part → Begins (IsLook a) part
look_begins a part cut = by_count (at_most cut.0 cut.1) where
  by_count : (cut.0 ≡ 64) ⊎ (cut.0 < 64) → Begins (IsLook a) part
  by_count (inl full) = ([], record { count = cut.0; gots = part; form = cut.2; most = cut.1; full = λ _. append-nil part; idle = λ few. absurd (omega arith) })
  by_count (inr few) = (Idle a ∷ [], record { count = cut.0; gots = part; form = cut.2; most = cut.1; full = λ full. absurd (omega arith); idle = λ _. refl })

turn_begins : (a : Address) (part : List LogEntry) → IsTurnPart a part → Begins (IsTurn a) part
turn_begins a part (inl none) = (Turn a ∷ [], rw none (record { sents = []; form = refl; own = tt }))
turn_begins a part (inr turn) = whole (IsTurn a) part turn

module _ (Form Cut : Address → List LogEntry → Type 0) (goes_on : (a : Address) (part : List LogEntry) → Cut a part → Begins (Form a) part) (fresh : (a : Address) → Cut a []) where
  pub each_fresh : (places : List Address) → (part : List LogEntry) × EachEnd Form places part
  each_fresh [] = ([], refl)
  each_fresh (a ∷ places) =
      let one = goes_on a [] (fresh a) in
      let rest = each_fresh places in
      (one.0 ++ rest.0, (one.0, rest.0, refl, one.1, rest.1))

  pub each_begins : (places : List Address) (part : List LogEntry) → EachPart Form Cut places part → Begins (EachEnd Form places) part
  each_begins [] part none = absurd none
  each_begins (a ∷ places) part (inl cut) =
      let one = goes_on a part cut in
      let rest = each_fresh places in
      (one.0 ++ rest.0, (part ++ one.0, rest.0, sym (append_assoc part one.0 rest.0), one.1, rest.1))
  each_begins (a ∷ places) part (inr each) =
      let rest = each_begins places each.1 each.4 in
      (rest.0, (each.0, each.1 ++ rest.0, ap (λ xs. xs ++ rest.0) each.2 ∙ append_assoc each.0 each.1 rest.0, each.3, rest.1))

  pub first_begins : (master : Option Rules) (part : List LogEntry) → IfFirst Cut master part → Begins (IfFirst Form master) part
  first_begins None part none = ([], append-nil part ∙ none)
  first_begins (Some rules) part cut = goes_on rules.place part cut

  pub first_fresh : (master : Option Rules) → IfFirst Cut master []
  first_fresh None = refl
  first_fresh (Some rules) = fresh rules.place

look_fresh : (a : Address) → IsLookPart a []
look_fresh a = (0, omega arith, refl)

turn_fresh : (a : Address) → IsTurnPart a []
turn_fresh a = inl refl

module _ (master : Option Rules) (slaves : List Rules) where
  looks_stop : (part first rest : List LogEntry) → part ≡ first ++ rest
      → (IfFirst IsLookPart master first × (rest ≡ [])) ⊎ (IfFirst IsLook master first × EachPart IsLook IsLookPart (places_of slaves) rest) → Begins (IsLooks master slaves) part
  looks_stop part first rest form (inl cut) =
      let one = first_begins IsLook IsLookPart look_begins look_fresh master first cut.0 in
      let more = each_fresh IsLook IsLookPart look_begins look_fresh (places_of slaves) in
      (one.0 ++ more.0, record { first = first ++ one.0; rest = more.0; form = ap (λ xs. xs ++ (one.0 ++ more.0)) (form ∙ ap (λ xs. first ++ xs) cut.1 ∙ append-nil first) ∙ sym (append_assoc first one.0 more.0); own = one.1; others = more.1 })
  looks_stop part first rest form (inr cut) =
      let more = each_begins IsLook IsLookPart look_begins look_fresh (places_of slaves) rest cut.1 in
      (more.0, record { first = first; rest = rest ++ more.0; form = ap (λ xs. xs ++ more.0) form ∙ append_assoc first rest more.0; own = cut.0; others = more.1 })

  pub looks_begin : (part : List LogEntry) → IsLooksPart master slaves part → Begins (IsLooks master slaves) part
  looks_begin part cut = looks_stop part cut.first cut.rest cut.form cut.stop

  -- the others' turns, if the master has no report
  others : (report : Bool) → (rest : List LogEntry) × MatchBool report (rest ≡ []) (EachEnd IsTurn (places_of slaves) rest)
  others true = ([], refl)
  others false = each_fresh IsTurn IsTurnPart turn_begins turn_fresh (places_of slaves)

  turns_stop : (log part first rest : List LogEntry) → part ≡ first ++ rest
      → (IfFirst IsTurnPart master first × (rest ≡ [])) ⊎ (IfFirst IsTurn master first × (has_report master (log ++ first) ≡ false) × EachPart IsTurn IsTurnPart (places_of slaves) rest)
      → Begins (IsTurns master slaves log) part
  turns_stop log part first rest form (inl cut) =
      let one = first_begins IsTurn IsTurnPart turn_begins turn_fresh master first cut.0 in
      let more = others (has_report master (log ++ (first ++ one.0))) in
      (one.0 ++ more.0, record { first = first ++ one.0; rest = more.0; form = ap (λ xs. xs ++ (one.0 ++ more.0)) (form ∙ ap (λ xs. first ++ xs) cut.1 ∙ append-nil first) ∙ sym (append_assoc first one.0 more.0); own = one.1; others = more.1 })
  turns_stop log part first rest form (inr cut) =
      let more = each_begins IsTurn IsTurnPart turn_begins turn_fresh (places_of slaves) rest cut.2 in
      (more.0, record { first = first; rest = rest ++ more.0; form = ap (λ xs. xs ++ more.0) form ∙ append_assoc first rest more.0; own = cut.0; others = rw cut.1 more.1 })

  pub turns_begin : (log part : List LogEntry) → IsTurnsPart master slaves log part → Begins (IsTurns master slaves log) part
  turns_begin log part cut = turns_stop log part cut.first cut.rest cut.form cut.stop

  turns_fresh : (log : List LogEntry) → (part : List LogEntry) × IsTurns master slaves log part
  turns_fresh log =
      let none = turns_stop log [] [] [] refl (inl (first_fresh IsTurn IsTurnPart turn_begins turn_fresh master, refl)) in (none.0, none.1)

  round_stop : (log part looks turns : List LogEntry) → part ≡ looks ++ turns
      → (IsLooksPart master slaves looks × (turns ≡ [])) ⊎ (IsLooks master slaves looks × IsTurnsPart master slaves (log ++ looks) turns) → Begins (IsRound master slaves log) part
  round_stop log part looks turns form (inl cut) =
      let one = looks_begin looks cut.0 in
      let more = turns_fresh (log ++ (looks ++ one.0)) in
      (one.0 ++ more.0, record { looks = looks ++ one.0; turns = more.0; form = ap (λ xs. xs ++ (one.0 ++ more.0)) (form ∙ ap (λ xs. looks ++ xs) cut.1 ∙ append-nil looks) ∙ sym (append_assoc looks one.0 more.0); looked = one.1; turned = more.1 })
  round_stop log part looks turns form (inr cut) =
      let more = turns_begin (log ++ looks) turns cut.1 in
      (more.0, record { looks = looks; turns = turns ++ more.0; form = ap (λ xs. xs ++ more.0) form ∙ append_assoc looks turns more.0; looked = cut.0; turned = more.1 })

  -- what was done of a round that was refused is the beginning of a round
  pub round_begins : (log part : List LogEntry) → IsRoundPart master slaves log part → Begins (IsRound master slaves log) part
  round_begins log part cut = round_stop log part cut.looks cut.turns cut.form cut.stop
