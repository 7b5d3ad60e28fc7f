-- In whole rounds the master and a slave turn by turns.
use Rattle.std.proofs.Common.{◌≡◌, ℕ, zero, suc, ◌+◌, ◌-◌, ◌<◌, ◌≤◌, Bool, true, false, if◌then◌else◌, ◌⊎◌, inl, inr, Option, Some, None, List, [], ◌∷◌, ◌++◌, map, reverse, refl, sym, ap, ◌∙◌, subst, arith}
use Rattle.std.specs.Prelude.{MatchBool, is_some, slice_get}
use Rattle.std.proofs.lemmas.List.{reverse-append, reverse-reverse, append_assoc}
use Rattle.std.proofs.lemmas.Option.{slice_get_within}
use Rattle.dcp_types.specs.declared.addresses.Address.{Address}
use Rattle.dcp_ends.specs.declared.entries.LogEntry.{LogEntry}
use Rattle.dcp_ends.specs.declared.entries.LogEntry.TheVariants.{Sent, Got, Idle, Turn}
use Rattle.dcp_ends.specs.Events.{Event, Rules}
use Rattle.dcp_ends.specs.Logs.{same_address}
use Rattle.pdu_layout.specs.Reading.{message_in}
use Rattle.slave_desc.specs.declared.descriptions.SlaveDesc.{SlaveDesc}
use Rattle.scenario.specs.declared.scenarios.Scenario.{Scenario}
use Rattle.scenario.specs.Sound.{IsScenario}
use Rattle.log_spec.specs.Log.{Parties, IsSlaveOf}
use Rattle.run_laws.proofs.Collecting.Heard.{same_is}
use Rattle.rounds.specs.Rounds.{AllSent, IsGot, IsTurn, Gots, IsLook, EachEnd, places_of, has_report, IsLooks, IsTurns, IsRound, Rounds}
use Rattle.master_spec.specs.declared.reports.Report.{Report}
use Rattle.master_spec.specs.declared.setups.Setup.{Setup}
use Rattle.master_spec.specs.Setup.{setup_from}
use Rattle.master_spec.specs.Course.{course}
use Rattle.master_spec.specs.Requests.{is_turn_of}
use Rattle.master_spec.specs.Rules.{master_rules}
use Rattle.slave_spec.specs.Slaves.{slave_rules_from}
use Rattle.master_log_laws.specs.Index.Runs.{course_at}
use Rattle.master_log_laws.proofs.Index.Mine as mine
use Rattle.lockstep_laws.specs.Models.Scenarios.{slave_numbered}
use Rattle.lockstep_laws.proofs.Models.Scenarios.{has_parties}
use Rattle.master_log_laws.proofs.Scenarios.Scenarios.{events_reverse}
use Rattle.run_laws.specs.Laws.{parties, rules_of_slaves, IsRunInRounds}
use Rattle.completeness_laws.proofs.Delivery.Fronts.{silent_front}

abbrev pub turns_of : Address → List LogEntry → ℕ
turns_of a [] = 0
turns_of a (e ∷ log) = (if is_turn_of a e then 1 else 0) + turns_of a log

pub turns_append : (a : Address) (p q : List LogEntry) → turns_of a (p ++ q) ≡ turns_of a p + turns_of a q
turns_append a [] q = omega arith
turns_append a (e ∷ p) q = let h = turns_append a p q in omega (arith, h)

pub turns_reverse : (a : Address) (p : List LogEntry) → turns_of a (reverse p) ≡ turns_of a p
turns_reverse a [] = refl
turns_reverse a (e ∷ p) =
    let h = ap (turns_of a) (reverse-append (e ∷ []) p) ∙ turns_append a (reverse p) (e ∷ []) in
    let i = turns_reverse a p in
    omega (arith, h, i)

-- two splits of one list
pub data Splits (p q a b : List LogEntry) : Type 0 where
  Within : (more : List LogEntry) → a ≡ p ++ more → q ≡ more ++ b → Splits p q a b
  Beyond : (more : List LogEntry) → p ≡ a ++ more → b ≡ more ++ q → Splits p q a b

pub splits : (p q a b : List LogEntry) → p ++ q ≡ a ++ b → Splits p q a b
splits [] q a b e = Within a refl e
splits (x ∷ p) q [] b e = Beyond (x ∷ p) refl (sym e)
splits (x ∷ p) q (y ∷ a) b e =
    let h : x ≡ y = cc in
    let t : p ++ q ≡ a ++ b = cc in
    by h (splits p q a b t)
  where
    by : x ≡ y → Splits p q a b → Splits (x ∷ p) q (y ∷ a) b
    by h (Within more f g) = Within more (ap (λ (z : List LogEntry). y ∷ z) f ∙ ap (λ (z : LogEntry). z ∷ (p ++ more)) (sym h)) g
    by h (Beyond more f g) = Beyond more (ap (λ (z : List LogEntry). x ∷ z) f ∙ ap (λ (z : LogEntry). z ∷ (a ++ more)) h) g

-- ---- the turns of a part
sents_none : (a b : Address) (part : List LogEntry) → AllSent b part → turns_of a part ≡ 0
sents_none a b [] h = refl
sents_none a b (Sent from to bytes ∷ part) h = let i = sents_none a b part h.1 in omega (arith, i)
sents_none a b (Got at from bytes ∷ part) h = absurd h
sents_none a b (Idle at ∷ part) h = absurd h
sents_none a b (Turn at ∷ part) h = absurd h

got_none : (a b : Address) (part : List LogEntry) → IsGot b part → turns_of a part ≡ 0
got_none a b part g =
    let h : turns_of a part ≡ 0 + turns_of a g.sents = ap (turns_of a) g.form in
    let i = sents_none a b g.sents g.own in
    omega (arith, h, i)

gots_none : (a b : Address) (n : ℕ) (part : List LogEntry) → Gots b n part → turns_of a part ≡ 0
gots_none a b zero part g = ap (turns_of a) g
gots_none a b (suc n) part g =
    let h = ap (turns_of a) g.2 ∙ turns_append a g.0 g.1 in
    let i = gots_none a b n g.0 g.3 in
    let j = got_none a b g.1 g.4 in
    omega (arith, h, i, j)

look_none : (a b : Address) (part : List LogEntry) → IsLook b part → turns_of a part ≡ 0
look_none a b part l = by (most l.count l.most)
  where
    most : (n : ℕ) → n ≤ 64 → (n ≡ 64) ⊎ (n < 64)
    most n h = grind arith

    by : (l.count ≡ 64) ⊎ (l.count < 64) → turns_of a part ≡ 0
    by (inl h) = ap (turns_of a) (l.full h) ∙ gots_none a b l.count l.gots l.form
    by (inr h) =
        let i = ap (turns_of a) (l.idle h) ∙ turns_append a l.gots (Idle b ∷ []) in
        let j = gots_none a b l.count l.gots l.form in
        omega (arith, i, j)

each_look_none : (a : Address) (places : List Address) (part : List LogEntry) → EachEnd IsLook places part → turns_of a part ≡ 0
each_look_none a [] part h = ap (turns_of a) h
each_look_none a (b ∷ places) part h =
    let i = ap (turns_of a) h.2 ∙ turns_append a h.0 h.1 in
    let j = look_none a b h.0 h.3 in
    let k = each_look_none a places h.1 h.4 in
    omega (arith, i, j, k)

turn_one : (a b : Address) (part : List LogEntry) → IsTurn b part → turns_of a part ≡ (if same_address b a then 1 else 0)
turn_one a b part g =
    let h = sents_none a b g.sents g.own in
    let i : turns_of a part ≡ (if same_address b a then 1 else 0) + turns_of a g.sents = ap (turns_of a) g.form in
    omega (arith, h, i)

abbrev hits : Address → List Address → ℕ
hits a [] = 0
hits a (b ∷ places) = (if same_address b a then 1 else 0) + hits a places

each_turn_hits : (a : Address) (places : List Address) (part : List LogEntry) → EachEnd IsTurn places part → turns_of a part ≡ hits a places
each_turn_hits a [] part h = ap (turns_of a) h
each_turn_hits a (b ∷ places) part h =
    let i = ap (turns_of a) h.2 ∙ turns_append a h.0 h.1 in
    let j = turn_one a b h.0 h.3 in
    let k = each_turn_hits a places h.1 h.4 in
    omega (arith, i, j, k)

few_front : (a : Address) (p q part : List LogEntry) → part ≡ p ++ q → turns_of a p ≤ turns_of a part
few_front a p q part e = let h = ap (turns_of a) e ∙ turns_append a p q in omega (arith, h)

-- ---- rounds
pub record Near (m s : Address) (p : List LogEntry) : Type 0 where
  pub low : turns_of s p ≤ turns_of m p
  pub high : turns_of m p ≤ turns_of s p + 1

module _ (r : Rules) (rs : List Rules) (s : Address) (own : same_address r.place s ≡ false) (once : hits s (places_of rs) ≡ 1) (never : hits r.place (places_of rs) ≡ 0) (mono : (p q : List LogEntry) → has_report (Some r) (p ++ q) ≡ false → has_report (Some r) p ≡ false) where
  abbrev m : Address
  m = r.place

  looks_none : (a : Address) (part : List LogEntry) → IsLooks (Some r) rs part → turns_of a part ≡ 0
  looks_none a part l =
      let h = ap (turns_of a) l.form ∙ turns_append a l.first l.rest in
      let i = look_none a r.place l.first l.own in
      let j = each_look_none a (places_of rs) l.rest l.others in
      omega (arith, h, i, j)

  first_of_master : (part : List LogEntry) → IsTurn m part → turns_of m part ≡ 1
  first_of_master part t = turn_one m m part t ∙ ap (λ (b : Bool). if b then 1 else 0) (mine.same_self m)

  first_of_slave : (part : List LogEntry) → IsTurn m part → turns_of s part ≡ 0
  first_of_slave part t = turn_one s m part t ∙ ap (λ (b : Bool). if b then 1 else 0) own

  others_turn : (log part : List LogEntry) (t : IsTurns (Some r) rs log part) → has_report (Some r) (log ++ t.first) ≡ false → EachEnd IsTurn (places_of rs) t.rest
  others_turn log part t e = let P : Bool → Type 0 = λ b. MatchBool b (t.rest ≡ []) (EachEnd IsTurn (places_of rs) t.rest) in subst P e t.others

  -- a whole round
  round_even : (before part : List LogEntry) → IsRound (Some r) rs before part → has_report (Some r) (before ++ part) ≡ false → turns_of s part ≡ turns_of m part
  round_even before part k silent =
      let t = k.turned in
      let all : before ++ part ≡ ((before ++ k.looks) ++ t.first) ++ t.rest = ap (λ (z : List LogEntry). before ++ z) (k.form ∙ ap (λ (z : List LogEntry). k.looks ++ z) t.form) ∙ sym (append_assoc before k.looks (t.first ++ t.rest)) ∙ sym (append_assoc (before ++ k.looks) t.first t.rest) in
      let P : List LogEntry → Type 0 = λ z. has_report (Some r) z ≡ false in
      let o = others_turn (before ++ k.looks) k.turns t (mono ((before ++ k.looks) ++ t.first) t.rest (subst P all silent)) in
      let sa = ap (turns_of s) k.form ∙ turns_append s k.looks k.turns in
      let sb = ap (turns_of s) t.form ∙ turns_append s t.first t.rest in
      let sc' = looks_none s k.looks k.looked in
      let sd = first_of_slave t.first t.own in
      let se = each_turn_hits s (places_of rs) t.rest o in
      let ma = ap (turns_of m) k.form ∙ turns_append m k.looks k.turns in
      let mb = ap (turns_of m) t.form ∙ turns_append m t.first t.rest in
      let mc = looks_none m k.looks k.looked in
      let md = first_of_master t.first t.own in
      let me = each_turn_hits m (places_of rs) t.rest o in
      omega (arith, sa, sb, sc', sd, se, ma, mb, mc, md, me, once, never)

  -- a front of a round
  turns_front : (log part p q : List LogEntry) (t : IsTurns (Some r) rs log part) → part ≡ p ++ q → has_report (Some r) (log ++ p) ≡ false → Near m s p
  turns_front log part p q t e silent = by (splits p q t.first t.rest (sym e ∙ t.form))
    where
      by : Splits p q t.first t.rest → Near m s p
      by (Within more f g) =
          let a = few_front m p more t.first f in
          let b = few_front s p more t.first f in
          let c = first_of_master t.first t.own in
          let d = first_of_slave t.first t.own in
          record { low = omega (arith, b, d); high = omega (arith, a, c) }
      by (Beyond more f g) =
          let P : List LogEntry → Type 0 = λ z. has_report (Some r) z ≡ false in
          let o = others_turn log part t (mono (log ++ t.first) more (subst P (ap (λ (z : List LogEntry). log ++ z) f ∙ sym (append_assoc log t.first more)) silent)) in
          let a = few_front m more q t.rest g in
          let b = few_front s more q t.rest g in
          let c = first_of_master t.first t.own in
          let d = first_of_slave t.first t.own in
          let h = each_turn_hits m (places_of rs) t.rest o in
          let i = each_turn_hits s (places_of rs) t.rest o in
          let j = ap (turns_of m) f ∙ turns_append m t.first more in
          let l = ap (turns_of s) f ∙ turns_append s t.first more in
          record { low = omega (arith, a, b, c, d, h, i, j, l, once, never); high = omega (arith, a, b, c, d, h, i, j, l, once, never) }

  round_front : (before part p q : List LogEntry) → IsRound (Some r) rs before part → part ≡ p ++ q → has_report (Some r) (before ++ p) ≡ false → Near m s p
  round_front before part p q k e silent = by (splits p q k.looks k.turns (sym e ∙ k.form))
    where
      by : Splits p q k.looks k.turns → Near m s p
      by (Within more f g) =
          let a = few_front m p more k.looks f in
          let b = few_front s p more k.looks f in
          let c = looks_none m k.looks k.looked in
          let d = looks_none s k.looks k.looked in
          record { low = omega (arith, b, d); high = omega (arith, a, c) }
      by (Beyond more f g) =
          let P : List LogEntry → Type 0 = λ z. has_report (Some r) z ≡ false in
          let n = turns_front (before ++ k.looks) k.turns more q k.turned g (subst P (ap (λ (z : List LogEntry). before ++ z) f ∙ sym (append_assoc before k.looks more)) silent) in
          let c = looks_none m k.looks k.looked in
          let d = looks_none s k.looks k.looked in
          let j = ap (turns_of m) f ∙ turns_append m k.looks more in
          let l = ap (turns_of s) f ∙ turns_append s k.looks more in
          let low = n.low in
          let high = n.high in
          record { low = omega (arith, c, d, j, l, low); high = omega (arith, c, d, j, l, high) }

  rounds_even : (n : ℕ) (log : List LogEntry) → Rounds (Some r) rs n log → has_report (Some r) log ≡ false → turns_of s log ≡ turns_of m log
  rounds_even zero log h silent = ap (turns_of s) h ∙ sym (ap (turns_of m) h)
  rounds_even (suc n) log h silent =
      let P : List LogEntry → Type 0 = λ z. has_report (Some r) z ≡ false in
      let all = subst P h.2 silent in
      let a = rounds_even n h.0 h.3 (mono h.0 h.1 all) in
      let b = round_even h.0 h.1 h.4 all in
      let c = ap (turns_of s) h.2 ∙ turns_append s h.0 h.1 in
      let d = ap (turns_of m) h.2 ∙ turns_append m h.0 h.1 in
      omega (arith, a, b, c, d)

  pub rounds_near : (n : ℕ) (log p q : List LogEntry) → Rounds (Some r) rs n log → log ≡ p ++ q → has_report (Some r) p ≡ false → Near m s p
  rounds_near zero log p q h e silent =
      let a = few_front m p q [] (sym h ∙ e) in
      let b = few_front s p q [] (sym h ∙ e) in
      record { low = omega (arith, a, b); high = omega (arith, a, b) }
  rounds_near (suc n) log p q h e silent = by (splits p q h.0 h.1 (sym e ∙ h.2)) (λ more f. rounds_near n h.0 p more h.3 f silent)
    where
      by : Splits p q h.0 h.1 → ((more : List LogEntry) → h.0 ≡ p ++ more → Near m s p) → Near m s p
      by (Within more f g) w = w more f
      by (Beyond more f g) w =
          let P : List LogEntry → Type 0 = λ z. has_report (Some r) z ≡ false in
          let so = subst P f silent in
          let a = rounds_even n h.0 h.3 (mono h.0 more so) in
          let b = round_front h.0 h.1 more q h.4 g so in
          let c = ap (turns_of s) f ∙ turns_append s h.0 more in
          let d = ap (turns_of m) f ∙ turns_append m h.0 more in
          let low = b.low in
          let high = b.high in
          record { low = omega (arith, a, c, d, low); high = omega (arith, a, c, d, high) }

-- ---- the ends of a scenario
abbrev slave_places : Scenario → List SlaveDesc → List Address
slave_places sc ds = places_of (map (λ (d : SlaveDesc). slave_rules_from (record { desc = d; micro = sc.micro })) ds)

hits_none : (sc : Scenario) (a : Address) (ds : List SlaveDesc) → ((j : ℕ) (d : SlaveDesc) → slice_get ds j ≡ Some d → same_address d.address a ≡ true → ⊥) → hits a (slave_places sc ds) ≡ 0
hits_none sc a [] f = refl
hits_none sc a (d ∷ ds) f = by (same_address d.address a) refl (hits_none sc a ds (λ j x g h. f (suc j) x g h))
  where
    by : (b : Bool) → same_address d.address a ≡ b → hits a (slave_places sc ds) ≡ 0 → hits a (slave_places sc (d ∷ ds)) ≡ 0
    by true e r = absurd (f 0 d refl e)
    by false e r = let t : hits a (slave_places sc (d ∷ ds)) ≡ 0 + hits a (slave_places sc ds) = ap (λ (b : Bool). (if b then 1 else 0) + hits a (slave_places sc ds)) e in omega (arith, t, r)

hits_once : (sc : Scenario) (a : Address) (ds : List SlaveDesc) (i : ℕ) (x : SlaveDesc) → slice_get ds i ≡ Some x → same_address x.address a ≡ true → ((j : ℕ) (d : SlaveDesc) → slice_get ds j ≡ Some d → same_address d.address a ≡ true → j ≡ i) → hits a (slave_places sc ds) ≡ 1
hits_once sc a [] i x g h f = absurd cc
hits_once sc a (d ∷ ds) zero x g h f =
    let z : d ≡ x = cc in
    let e : same_address d.address a ≡ true = ap (λ (y : SlaveDesc). same_address y.address a) z ∙ h in
    let rest = hits_none sc a ds (λ j y k l. let n = f (suc j) y k l in omega (arith, n)) in
    let t : hits a (slave_places sc (d ∷ ds)) ≡ 1 + hits a (slave_places sc ds) = ap (λ (b : Bool). (if b then 1 else 0) + hits a (slave_places sc ds)) e in
    omega (arith, t, rest)
hits_once sc a (d ∷ ds) (suc i) x g h f = by (same_address d.address a) refl (hits_once sc a ds i x g h (λ j y k l. let n = f (suc j) y k l in omega (arith, n)))
  where
    by : (b : Bool) → same_address d.address a ≡ b → hits a (slave_places sc ds) ≡ 1 → hits a (slave_places sc (d ∷ ds)) ≡ 1
    by true e r = let n = f 0 d refl e in absurd (omega (arith, n))
    by false e r = let t : hits a (slave_places sc (d ∷ ds)) ≡ 0 + hits a (slave_places sc ds) = ap (λ (b : Bool). (if b then 1 else 0) + hits a (slave_places sc ds)) e in omega (arith, t, r)

module _ (sc : Scenario) (other : SlaveDesc) (ok : IsScenario sc) where
  abbrev W : Parties
  W = parties sc other

  abbrev S : Setup
  S = setup_from sc

  numbered : (i : ℕ) (d : SlaveDesc) → slice_get sc.slaves i ≡ Some d → IsSlaveOf W (i + 1) × (d.address ≡ W.slave (i + 1))
  numbered i d e =
      let lt = slice_get_within sc.slaves i d e in
      let is : IsSlaveOf W (i + 1) = (omega arith, omega (arith, lt)) in
      let m : i + 1 - 1 ≡ i = omega arith in
      let same : Some d ≡ Some (slave_numbered sc other (i + 1)) = sym e ∙ ap (slice_get sc.slaves) (sym m) ∙ (has_parties sc other ok message_in).desc (i + 1) is in
      let z : d ≡ slave_numbered sc other (i + 1) = cc in
      (is, ap (λ (x : SlaveDesc). x.address) z)

  -- ---- the report comes once
  report_is : (p : List LogEntry) → has_report (Some (master_rules sc)) p ≡ is_some (course_at S (reverse p)).report
  report_is p = ap (λ (z : List Event). is_some (course S z).report) (sym (events_reverse S p))

  no_report : (o : Option Report) → is_some o ≡ false → o ≡ None
  no_report None e = refl
  no_report (Some report) e = absurd cc

  mono : (p q : List LogEntry) → has_report (Some (master_rules sc)) (p ++ q) ≡ false → has_report (Some (master_rules sc)) p ≡ false
  mono p q e =
      let P : List LogEntry → Type 0 = λ z. (course_at S z).report ≡ None in
      let a = no_report (course_at S (reverse (p ++ q))).report (sym (report_is (p ++ q)) ∙ e) in
      let b = silent_front S (reverse q) (reverse p) (subst P (reverse-append p q) a) in
      report_is p ∙ ap is_some b

  pub turns_near : (log : List LogEntry) → IsRunInRounds sc other log → (s : ℕ) → IsSlaveOf W s → (later sofar : List LogEntry) → reverse log ≡ later ++ sofar → (course_at S sofar).report ≡ None → Near W.master (W.slave s) sofar
  turns_near log r s it later sofar split silent =
      let apart = (has_parties sc other ok message_in).apart in
      let own : same_address sc.master (W.slave s) ≡ false = not_same sc.master (W.slave s) (λ e. apart.master s it (sym e)) in
      let m : s - 1 + 1 ≡ s = let a = it.0 in omega (arith, a) in
      let once = hits_once sc (W.slave s) sc.slaves (s - 1) (slave_numbered sc other s) ((has_parties sc other ok message_in).desc s it) (mine.same_self (W.slave s))
      (λ j d g h. let n = numbered j d g in let z = apart.slaves (j + 1) s n.0 it (sym n.1 ∙ same_is d.address (W.slave s) h) in omega (arith, z)) in
      let never = hits_none sc sc.master sc.slaves (λ j d g h. let n = numbered j d g in apart.master (j + 1) n.0 (sym n.1 ∙ same_is d.address sc.master h)) in
      let e : log ≡ reverse sofar ++ reverse later = sym (reverse-reverse log) ∙ ap (λ (z : List LogEntry). reverse z) split ∙ reverse-append later sofar in
      let P : List LogEntry → Type 0 = λ z. (course_at S z).report ≡ None in
      let n = rounds_near (master_rules sc) (rules_of_slaves sc) (W.slave s) own once never mono r.count log (reverse sofar) (reverse later) r.rounds e (report_is (reverse sofar) ∙ ap is_some (subst P (sym (reverse-reverse sofar)) silent)) in
      let low = n.low in
      let high = n.high in
      let a = turns_reverse W.master sofar in
      let b = turns_reverse (W.slave s) sofar in
      record { low = omega (arith, low, a, b); high = omega (arith, high, a, b) }
    where
      not_same : (a b : Address) → (a ≡ b → ⊥) → same_address a b ≡ false
      not_same a b f = by (same_address a b) refl
        where
          by : (t : Bool) → same_address a b ≡ t → t ≡ false
          by true e = absurd (f (same_is a b e))
          by false e = refl
