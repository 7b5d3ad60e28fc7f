-- Where each round brings all that was sent before it, what two turns of the master follow comes before the second of them.
use Rattle.std.proofs.Common.{◌≡◌, ℕ, zero, suc, ◌+◌, ◌-◌, ◌<◌, ◌≤◌, Bool, true, false, if◌then◌else◌, ◌⊎◌, inl, inr, Some, List, [], ◌∷◌, ◌++◌, map, reverse, refl, sym, ap, ◌∙◌, subst, arith, append_assoc, append-nil}
use Rattle.std.specs.Prelude.{MatchBool, slice_get}
use Rattle.std.proofs.lemmas.List.{reverse-append, reverse-reverse}
use Rattle.std.proofs.lemmas.Option.{slice_get_within}
use Rattle.dcp_types.specs.declared.addresses.Address.{Address}
use Rattle.dcp_ends.specs.declared.entries.LogEntry.{LogEntry}
use Rattle.dcp_ends.specs.declared.entries.LogEntry.TheVariants.{Sent, Got, Idle, Turn}
use Rattle.dcp_ends.specs.Events.{Rules}
use Rattle.dcp_ends.specs.Logs.{same_address}
use Rattle.pdu_layout.specs.Reading.{message_in}
use Rattle.slave_desc.specs.declared.descriptions.SlaveDesc.{SlaveDesc}
use Rattle.scenario.specs.declared.scenarios.Scenario.{Scenario}
use Rattle.scenario.specs.Sound.{IsScenario}
use Rattle.log_spec.specs.Log.{IsSlaveOf}
use Rattle.rounds.specs.Rounds.{AllSent, IsGot, IsTurn, Gots, IsLook, EachEnd, places_of, has_report, IsLooks, IsTurns, IsRound, Rounds}
use Rattle.master_spec.specs.Rules.{master_rules}
use Rattle.slave_spec.specs.Slaves.{slave_rules_from}
use Rattle.lockstep_laws.specs.Models.Scenarios.{slave_numbered}
use Rattle.lockstep_laws.proofs.Models.Scenarios.{has_parties}
use Rattle.run_laws.specs.Laws.{parties, rules_of_slaves}
use Rattle.completeness_laws.specs.Quiet.{ComesIn}
use Rattle.completeness_laws.specs.Rounded.{BringAll}
use Rattle.completeness_laws.proofs.Delivery.Turning.{turns_of, turns_append, Splits, Within, Beyond, splits}
use Rattle.completeness_laws.proofs.Quiet.Fronts.{address_is, address_self}

-- in a log with its oldest entry first, what two turns of the master follow came before the second
abbrev pub ComesSoon : Address → List LogEntry → Type 0
ComesSoon m log = (earlier between after : List LogEntry) (from to : Address) (bytes : List ℕ) → log ≡ earlier ++ Sent from to bytes ∷ (between ++ Turn m ∷ after) → 1 ≤ turns_of m between → ComesIn to from bytes between

-- the same in a log with its newest entry first
abbrev pub CameSoon : Address → List LogEntry → Type 0
CameSoon m log = (after between earlier : List LogEntry) (from to : Address) (bytes : List ℕ) → log ≡ after ++ Turn m ∷ (between ++ Sent from to bytes ∷ earlier) → 1 ≤ turns_of m between → ComesIn to from bytes between

-- ---- what is got in a part is got in a longer part
pub comes_before : (to from : Address) (bytes : List ℕ) (p q : List LogEntry) → ComesIn to from bytes p → ComesIn to from bytes (p ++ q)
comes_before to from bytes p q c = record { before = c.before; after = c.after ++ q; is = ap (λ (z : List LogEntry). z ++ q) c.is ∙ append_assoc c.before (Got to from bytes ∷ c.after) q }

-- a list turned around at one of its elements
pub turned_at : (a b : List LogEntry) (x : LogEntry) → reverse (a ++ x ∷ b) ≡ reverse b ++ x ∷ reverse a
turned_at a b x = reverse-append a (x ∷ b) ∙ ap (λ (z : List LogEntry). z ++ reverse a) (reverse-append (x ∷ []) b) ∙ append_assoc (reverse b) (x ∷ []) (reverse a)

-- what is got in a part is got in it turned around
pub comes_back : (to from : Address) (bytes : List ℕ) (p : List LogEntry) → ComesIn to from bytes (reverse p) → ComesIn to from bytes p
comes_back to from bytes p c = record { before = reverse c.after; after = reverse c.before; is = sym (reverse-reverse p) ∙ ap reverse c.is ∙ turned_at c.before c.after (Got to from bytes) }

-- the turns of a part are those of it turned around
pub turns_back : (m : Address) (p : List LogEntry) → turns_of m (reverse p) ≡ turns_of m p
turns_back m [] = refl
turns_back m (e ∷ p) =
    let h = ap (turns_of m) (reverse-append (e ∷ []) p) ∙ turns_append m (reverse p) (e ∷ []) in
    let i = turns_back m p in
    omega (arith, h, i)

-- the two forms say the same
pub came_soon : (m : Address) (log : List LogEntry) → ComesSoon m log → CameSoon m (reverse log)
came_soon m log soon after between earlier from to bytes e h =
    let one : log ≡ reverse (after ++ Turn m ∷ (between ++ Sent from to bytes ∷ earlier)) = sym (reverse-reverse log) ∙ ap reverse e in
    let two = one ∙ turned_at after (between ++ Sent from to bytes ∷ earlier) (Turn m) ∙ ap (λ (z : List LogEntry). z ++ Turn m ∷ reverse after) (turned_at between earlier (Sent from to bytes)) in
    let three = two ∙ append_assoc (reverse earlier) (Sent from to bytes ∷ reverse between) (Turn m ∷ reverse after) in
    let k = turns_back m between in
    comes_back to from bytes between (soon (reverse earlier) (reverse between) (reverse after) from to bytes three (omega (arith, h, k)))

-- ---- the turns of the master in a round
module _ (m : Address) where
  -- sends are no turns
  sents_none : (b : Address) (part : List LogEntry) → AllSent b part → turns_of m part ≡ 0
  sents_none b [] h = refl
  sents_none b (Sent from to bytes ∷ part) h = let i = sents_none b part h.1 in omega (arith, i)
  sents_none b (Got at from bytes ∷ part) h = absurd h
  sents_none b (Idle at ∷ part) h = absurd h
  sents_none b (Turn at ∷ part) h = absurd h

  -- a datagram that was got, and its answers, are no turns
  got_none : (b : Address) (part : List LogEntry) → IsGot b part → turns_of m part ≡ 0
  got_none b part g =
      let h : turns_of m part ≡ 0 + turns_of m g.sents = ap (turns_of m) g.form in
      let i = sents_none b g.sents g.own in
      omega (arith, h, i)

  -- nor are several of them
  gots_none : (b : Address) (n : ℕ) (part : List LogEntry) → Gots b n part → turns_of m part ≡ 0
  gots_none b zero part g = ap (turns_of m) g
  gots_none b (suc n) part g =
      let h = ap (turns_of m) g.2 ∙ turns_append m g.0 g.1 in
      let i = gots_none b n g.0 g.3 in
      let j = got_none b g.1 g.4 in
      omega (arith, h, i, j)

  -- a look has no turn
  look_none : (b : Address) (part : List LogEntry) → IsLook b part → turns_of m part ≡ 0
  look_none b part l = by (most l.count l.most)
    where
      most : (n : ℕ) → n ≤ 64 → (n ≡ 64) ⊎ (n < 64)
      most n h = grind arith

      by : (l.count ≡ 64) ⊎ (l.count < 64) → turns_of m part ≡ 0
      by (inl h) = ap (turns_of m) (l.full h) ∙ gots_none b l.count l.gots l.form
      by (inr h) =
          let i = ap (turns_of m) (l.idle h) ∙ turns_append m l.gots (Idle b ∷ []) in
          let j = gots_none b l.count l.gots l.form in
          omega (arith, i, j)

  -- nor have the looks at several ends
  each_look_none : (places : List Address) (part : List LogEntry) → EachEnd IsLook places part → turns_of m part ≡ 0
  each_look_none [] part h = ap (turns_of m) h
  each_look_none (b ∷ places) part h =
      let i = ap (turns_of m) h.2 ∙ turns_append m h.0 h.1 in
      let j = look_none b h.0 h.3 in
      let k = each_look_none places h.1 h.4 in
      omega (arith, i, j, k)

  -- the looks of a round have no turn
  pub looks_none : (r : Rules) (rs : List Rules) (part : List LogEntry) → IsLooks (Some r) rs part → turns_of m part ≡ 0
  looks_none r rs part l =
      let h = ap (turns_of m) l.form ∙ turns_append m l.first l.rest in
      let i = look_none r.place l.first l.own in
      let j = each_look_none (places_of rs) l.rest l.others in
      omega (arith, h, i, j)

  -- the master is at none of these places
  abbrev pub AreAway : List Address → Type 0
  AreAway [] = Unit {0}
  AreAway (a ∷ places) = (same_address a m ≡ false) × AreAway places

  -- a turn of an end is one of the master where the end is the master's
  turn_is : (b : Address) (part : List LogEntry) (t : Bool) → same_address b m ≡ t → IsTurn b part → turns_of m part ≡ (if t then 1 else 0)
  turn_is b part t e g =
      let h = sents_none b g.sents g.own in
      let i : turns_of m part ≡ (if t then 1 else 0) + turns_of m g.sents = ap (turns_of m) g.form ∙ ap (λ (z : Bool). (if z then 1 else 0) + turns_of m g.sents) e in
      omega (arith, h, i)

  -- the turns of other ends are none of the master
  each_turn_none : (places : List Address) (part : List LogEntry) → AreAway places → EachEnd IsTurn places part → turns_of m part ≡ 0
  each_turn_none [] part w h = ap (turns_of m) h
  each_turn_none (b ∷ places) part w h =
      let i = ap (turns_of m) h.2 ∙ turns_append m h.0 h.1 in
      let j = turn_is b h.0 false w.0 h.3 in
      let k = each_turn_none places h.1 w.1 h.4 in
      omega (arith, i, j, k)

  module _ (r : Rules) (rs : List Rules) (own : r.place ≡ m) (away : AreAway (places_of rs)) where
    -- behind the turn of the master there is none of it
    rest_none : (log part : List LogEntry) (t : IsTurns (Some r) rs log part) → turns_of m t.rest ≡ 0
    rest_none log part t = by (has_report (Some r) (log ++ t.first)) t.others
      where
        by : (b : Bool) → MatchBool b (t.rest ≡ []) (EachEnd IsTurn (places_of rs) t.rest) → turns_of m t.rest ≡ 0
        by true e = ap (turns_of m) e
        by false e = each_turn_none (places_of rs) t.rest away e

    -- the turns of a round have one of the master
    pub turns_one : (log part : List LogEntry) → IsTurns (Some r) rs log part → turns_of m part ≡ 1
    turns_one log part t =
        let a = ap (turns_of m) t.form ∙ turns_append m t.first t.rest in
        let b = turn_is r.place t.first true (ap (λ (x : Address). same_address x m) own ∙ address_self m) t.own in
        let c = rest_none log part t in
        omega (arith, a, b, c)

    -- a round has one turn of the master
    pub round_one : (before part : List LogEntry) → IsRound (Some r) rs before part → turns_of m part ≡ 1
    round_one before part k =
        let a = ap (turns_of m) k.form ∙ turns_append m k.looks k.turns in
        let b = looks_none r rs k.looks k.looked in
        let c = turns_one (before ++ k.looks) k.turns k.turned in
        omega (arith, a, b, c)

    -- what stands in a round before the turn of the master
    pub record IsBeforeTurn (looks more : List LogEntry) : Type 0 where
      pub rest : List LogEntry
      pub is : more ≡ looks ++ rest
      pub none : turns_of m more ≡ 0

    -- a turn of the master counts
    is_turn : (x : LogEntry) (q : List LogEntry) → Turn m ≡ x → turns_of m (x ∷ q) ≡ 1 + turns_of m q
    is_turn x q e = ap (λ (y : LogEntry). turns_of m (y ∷ q)) (sym e) ∙ ap (λ (b : Bool). (if b then 1 else 0) + turns_of m q) (address_self m)

    -- what stands before it has all looks of the round
    pub before_turn : (before part more after : List LogEntry) (k : IsRound (Some r) rs before part) → part ≡ more ++ Turn m ∷ after → IsBeforeTurn k.looks more
    before_turn before part more after k e = by (splits k.looks k.turns more (Turn m ∷ after) (sym k.form ∙ e))
      where
        none : turns_of m more ≡ 0
        none =
            let a = round_one before part k in
            let b = ap (turns_of m) e ∙ turns_append m more (Turn m ∷ after) in
            let c = is_turn (Turn m) after refl in
            omega (arith, a, b, c)

        beyond : (q : List LogEntry) → k.looks ≡ more ++ q → Turn m ∷ after ≡ q ++ k.turns → IsBeforeTurn k.looks more
        beyond [] f g = record { rest = []; is = sym (append-nil more) ∙ sym f ∙ sym (append-nil k.looks); none = none }
        beyond (x ∷ q) f g =
            let z : Turn m ≡ x = cc in
            let a = looks_none r rs k.looks k.looked in
            let b = ap (turns_of m) f ∙ turns_append m more (x ∷ q) in
            let c = is_turn x q z in
            absurd (omega (arith, a, b, c))

        by : Splits k.looks k.turns more (Turn m ∷ after) → IsBeforeTurn k.looks more
        by (Within q f g) = record { rest = q; is = f; none = none }
        by (Beyond q f g) = beyond q f g

-- ---- the ends of a scenario
slaves_away : (sc : Scenario) (ds : List SlaveDesc) → ((i : ℕ) (d : SlaveDesc) → slice_get ds i ≡ Some d → same_address d.address sc.master ≡ true → ⊥) → AreAway sc.master (places_of (map (λ (d : SlaveDesc). slave_rules_from (record { desc = d; micro = sc.micro })) ds))
slaves_away sc [] f = tt
slaves_away sc (d ∷ ds) f = (by (same_address d.address sc.master) refl, slaves_away sc ds (λ i x g h. f (suc i) x g h))
  where
    by : (b : Bool) → same_address d.address sc.master ≡ b → b ≡ false
    by true e = absurd (f 0 d refl e)
    by false e = refl

module _ (sc : Scenario) (other : SlaveDesc) (ok : IsScenario sc) where
  -- a slave of the scenario is a party under its number
  numbered : (i : ℕ) (d : SlaveDesc) → slice_get sc.slaves i ≡ Some d → IsSlaveOf (parties sc other) (i + 1) × (d.address ≡ (parties sc other).slave (i + 1))
  numbered i d e =
      let lt = slice_get_within sc.slaves i d e in
      let is : IsSlaveOf (parties sc other) (i + 1) = (omega arith, omega (arith, lt)) in
      let n : i + 1 - 1 ≡ i = omega arith in
      let same : Some d ≡ Some (slave_numbered sc other (i + 1)) = sym e ∙ ap (slice_get sc.slaves) (sym n) ∙ (has_parties sc other ok message_in).desc (i + 1) is in
      let z : d ≡ slave_numbered sc other (i + 1) = cc in
      (is, ap (λ (x : SlaveDesc). x.address) z)

  -- no slave is where the master is
  pub away : AreAway sc.master (places_of (rules_of_slaves sc))
  away = slaves_away sc sc.slaves (λ i d e h. let n = numbered i d e in (has_parties sc other ok message_in).apart.master (i + 1) n.0 (sym n.1 ∙ address_is d.address sc.master h))

  -- ---- all rounds
  module _ (n : ℕ) (before part : List LogEntry) (round : IsRound (Some (master_rules sc)) (rules_of_slaves sc) before part)
      (bring : (first later : List LogEntry) (from to : Address) (bytes : List ℕ) → before ≡ first ++ Sent from to bytes ∷ later → ComesIn to from bytes (later ++ round.looks)) (soon : ComesSoon sc.master before) where
    abbrev m : Address
    m = sc.master

    -- the turn is the one of the newest round
    in_round : (earlier between after more : List LogEntry) (from to : Address) (bytes : List ℕ) → earlier ++ Sent from to bytes ∷ between ≡ before ++ more → part ≡ more ++ Turn m ∷ after → 1 ≤ turns_of m between → ComesIn to from bytes between
    in_round earlier between after more from to bytes e f h = by (splits before more earlier (Sent from to bytes ∷ between) (sym e))
      where
        t : IsBeforeTurn m (master_rules sc) (rules_of_slaves sc) refl away round.looks more
        t = before_turn m (master_rules sc) (rules_of_slaves sc) refl away before part more after round f

        later : (q : List LogEntry) → more ≡ q ++ Sent from to bytes ∷ between → ⊥
        later q g =
            let a = t.none in
            let b = ap (turns_of m) g ∙ turns_append m q (Sent from to bytes ∷ between) in
            let c : turns_of m (Sent from to bytes ∷ between) ≡ 0 + turns_of m between = refl in
            omega (arith, a, b, c, h)

        earlier_on : (q : List LogEntry) → before ≡ earlier ++ q → Sent from to bytes ∷ between ≡ q ++ more → ComesIn to from bytes between
        earlier_on [] f g = absurd (later [] (sym g))
        earlier_on (x ∷ q) f g =
            let z : Sent from to bytes ≡ x = cc in
            let y : between ≡ q ++ more = cc in
            let c = bring earlier q from to bytes (f ∙ ap (λ (w : LogEntry). earlier ++ w ∷ q) (sym z)) in
            let whole : between ≡ (q ++ round.looks) ++ t.rest = y ∙ ap (λ (w : List LogEntry). q ++ w) t.is ∙ sym (append_assoc q round.looks t.rest) in
            let P : List LogEntry → Type 0 = ComesIn to from bytes in
            subst P (sym whole) (comes_before to from bytes (q ++ round.looks) t.rest c)

        by : Splits before more earlier (Sent from to bytes ∷ between) → ComesIn to from bytes between
        by (Within q f g) = absurd (later q g)
        by (Beyond q f g) = earlier_on q f g

    -- so it holds with one round more
    pub one_more : ComesSoon m (before ++ part)
    one_more earlier between after from to bytes e h = by (splits before part (earlier ++ Sent from to bytes ∷ between) (Turn m ∷ after) (e ∙ sym (append_assoc earlier (Sent from to bytes ∷ between) (Turn m ∷ after))))
      where
        beyond : (q : List LogEntry) → before ≡ (earlier ++ Sent from to bytes ∷ between) ++ q → Turn m ∷ after ≡ q ++ part → ComesIn to from bytes between
        beyond [] f g = in_round earlier between after [] from to bytes (sym (append-nil (earlier ++ Sent from to bytes ∷ between)) ∙ sym f ∙ sym (append-nil before)) (sym g) h
        beyond (x ∷ q) f g =
            let z : Turn m ≡ x = cc in
            soon earlier between q from to bytes (f ∙ append_assoc earlier (Sent from to bytes ∷ between) (x ∷ q) ∙ ap (λ (w : LogEntry). earlier ++ Sent from to bytes ∷ (between ++ w ∷ q)) (sym z)) h

        by : Splits before part (earlier ++ Sent from to bytes ∷ between) (Turn m ∷ after) → ComesIn to from bytes between
        by (Within q f g) = in_round earlier between after q from to bytes f g h
        by (Beyond q f g) = beyond q f g

  -- nothing stands in an empty list
  not_there : (p : List LogEntry) (x : LogEntry) (q : List LogEntry) → [] ≡ p ++ x ∷ q → ⊥
  not_there [] x q z = cc
  not_there (y ∷ p) x q z = cc

  -- where all rounds bring what they have to, it holds of all
  pub comes_soon : (n : ℕ) (log : List LogEntry) (rounds : Rounds (Some (master_rules sc)) (rules_of_slaves sc) n log) → BringAll sc n log rounds → ComesSoon sc.master log
  comes_soon zero log none bring = λ earlier between after from to bytes e h. absurd (not_there earlier (Sent from to bytes) (between ++ Turn sc.master ∷ after) (sym none ∙ e))
  comes_soon (suc n) log (before, part, split, rounds, round) bring =
      let P : List LogEntry → Type 0 = ComesSoon sc.master in
      subst P (sym split) (one_more n before part round bring.1 (comes_soon n before rounds bring.0))
