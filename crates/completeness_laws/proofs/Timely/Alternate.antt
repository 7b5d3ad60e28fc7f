-- In whole rounds the master has a turn between any two turns of a slave.
use Rattle.std.proofs.Common.{◌≡◌, ℕ, zero, suc, ◌+◌, ◌-◌, ◌<◌, ◌≤◌, ◌⊎◌, inl, inr, Bool, true, false, if◌then◌else◌, Some, List, [], ◌∷◌, ◌++◌, map, reverse, refl, sym, ap, ◌∙◌, subst, arith, eq-eqb}
use Rattle.std.specs.Prelude.{slice_get, MatchBool, count_by, ◌==◌, ◌&&◌}
use Rattle.std.proofs.lemmas.Bool.{and_parts, eqb-true}
use Rattle.std.proofs.lemmas.List.{reverse-append, reverse-reverse}
use Rattle.std.proofs.lemmas.List.Sums.{sum_by-append, sum_by-cons}
use Rattle.std.proofs.lemmas.Option.{slice_get_within}
use Rattle.dcp_types.specs.declared.addresses.Address.{Address}
use Rattle.dcp_ends.specs.declared.entries.LogEntry.{LogEntry}
use Rattle.dcp_ends.specs.declared.entries.LogEntry.TheVariants.{Sent, Got, Idle, Turn}
use Rattle.dcp_ends.specs.Events.{Rules}
use Rattle.dcp_ends.specs.Logs.{same_address}
use Rattle.pdu_layout.specs.Reading.{message_in}
use Rattle.slave_desc.specs.declared.descriptions.SlaveDesc.{SlaveDesc}
use Rattle.scenario.specs.declared.scenarios.Scenario.{Scenario}
use Rattle.scenario.specs.Sound.{IsScenario}
use Rattle.log_spec.specs.Log.{IsSlaveOf}
use Rattle.rounds.specs.Rounds.{AllSent, IsGot, IsTurn, Gots, IsLook, EachEnd, places_of, has_report, IsLooks, IsTurns, Rounds}
use Rattle.master_spec.specs.Rules.{master_rules}
use Rattle.master_spec.specs.Requests.{is_turn_of}
use Rattle.slave_spec.specs.Slaves.{slave_rules_from}
use Rattle.lockstep_laws.specs.Models.Scenarios.{slave_numbered}
use Rattle.lockstep_laws.proofs.Models.Scenarios.{has_parties}
use Rattle.run_laws.specs.Laws.{parties, rules_of_slaves, IsRunInRounds}

pub one_address : (a b : Address) → same_address a b ≡ true → a ≡ b
one_address a b h =
    let k = and_parts (a.ip == b.ip) (a.port == b.port) h in
    let p : a.ip ≡ b.ip = eqb-true a.ip b.ip k.0 in
    let q : a.port ≡ b.port = eqb-true a.port b.port k.1 in
    ap (λ (n : ℕ). record { ip = n; port = a.port }) p ∙ ap (λ (n : ℕ). record { ip = b.ip; port = n }) q

abbrev bit : Bool → ℕ
bit true = 1
bit false = 0

module _ (master slave : Address) where
  -- a turn of the slave may come next
  abbrev open_after : Bool → LogEntry → Bool
  open_after b (Sent from to bytes) = b
  open_after b (Got at from bytes) = b
  open_after b (Idle at) = b
  open_after b (Turn at) = if same_address at slave then false else (if same_address at master then true else b)

  abbrev MayCome : Bool → LogEntry → Type 0
  MayCome b (Sent from to bytes) = Unit {0}
  MayCome b (Got at from bytes) = Unit {0}
  MayCome b (Idle at) = Unit {0}
  MayCome b (Turn at) = same_address at slave ≡ true → b ≡ true

  abbrev Alternate : Bool → List LogEntry → Type 0
  Alternate b [] = Unit {0}
  Alternate b (x ∷ xs) = MayCome b x × Alternate (open_after b x) xs

  counted : (p : LogEntry → Bool) (x : LogEntry) (xs : List LogEntry) (y : Bool) → p x ≡ y → count_by p (x ∷ xs) ≡ bit y + count_by p xs
  counted p x xs true f = sum_by-cons (λ (z : LogEntry). if p z then 1 else 0) x xs ∙ ap (λ (t : Bool). (if t then 1 else 0) + count_by p xs) f
  counted p x xs false f = sum_by-cons (λ (z : LogEntry). if p z then 1 else 0) x xs ∙ ap (λ (t : Bool). (if t then 1 else 0) + count_by p xs) f

  few : (b : Bool) (xs : List LogEntry) → Alternate b xs → count_by (is_turn_of slave) xs ≤ count_by (is_turn_of master) xs + bit b
  few b [] a = omega arith
  few b (x ∷ xs) a = by x a.0 (few (open_after b x) xs a.1)
    where
      same : (x : LogEntry) → is_turn_of slave x ≡ false → is_turn_of master x ≡ false → count_by (is_turn_of slave) xs ≤ count_by (is_turn_of master) xs + bit b → count_by (is_turn_of slave) (x ∷ xs) ≤ count_by (is_turn_of master) (x ∷ xs) + bit b
      same x p q h =
          let u = counted (is_turn_of slave) x xs false p in
          let v = counted (is_turn_of master) x xs false q in
          let z : bit false ≡ 0 = refl in
          omega (arith, u, v, h, z)

      turned : (at : Address) (s m : Bool) → same_address at slave ≡ s → same_address at master ≡ m → (s ≡ true → b ≡ true) → count_by (is_turn_of slave) xs ≤ count_by (is_turn_of master) xs + bit (if s then false else (if m then true else b))
          → count_by (is_turn_of slave) (Turn at ∷ xs) ≤ count_by (is_turn_of master) (Turn at ∷ xs) + bit b
      turned at true m p q c h =
          let u = counted (is_turn_of slave) (Turn at) xs true p in
          let v = counted (is_turn_of master) (Turn at) xs m q in
          let z : bit b ≡ 1 = ap bit (c refl) in
          let y : bit false ≡ 0 = refl in
          let w : bit true ≡ 1 = refl in
          omega (arith, u, v, h, z, y, w)
      turned at false true p q c h =
          let u = counted (is_turn_of slave) (Turn at) xs false p in
          let v = counted (is_turn_of master) (Turn at) xs true q in
          let y : bit false ≡ 0 = refl in
          let w : bit true ≡ 1 = refl in
          omega (arith, u, v, h, y, w)
      turned at false false p q c h = same (Turn at) p q h

      by : (x : LogEntry) → MayCome b x → count_by (is_turn_of slave) xs ≤ count_by (is_turn_of master) xs + bit (open_after b x) → count_by (is_turn_of slave) (x ∷ xs) ≤ count_by (is_turn_of master) (x ∷ xs) + bit b
      by (Sent from to bytes) c h = same (Sent from to bytes) refl refl h
      by (Got at from bytes) c h = same (Got at from bytes) refl refl h
      by (Idle at) c h = same (Idle at) refl refl h
      by (Turn at) c h = turned at (same_address at slave) (same_address at master) refl refl c h

  join : (b : Bool) (xs ys : List LogEntry) → Alternate b xs → ((c : Bool) → Alternate c ys) → Alternate b (xs ++ ys)
  join b [] ys a f = f b
  join b (x ∷ xs) ys a f = (a.0, join (open_after b x) xs ys a.1 f)

  front : (b : Bool) (xs ys : List LogEntry) → Alternate b (xs ++ ys) → Alternate b xs
  front b [] ys a = tt
  front b (x ∷ xs) ys a = (a.0, front (open_after b x) xs ys a.1)

  back : (b : Bool) (xs ys : List LogEntry) → Alternate b (xs ++ ys) → (c : Bool) × Alternate c ys
  back b [] ys a = (b, a)
  back b (x ∷ xs) ys a = back (open_after b x) xs ys a.1

  -- ---- parts of a round
  after_sent : (a : Address) (b : Bool) (sents ys : List LogEntry) → AllSent a sents → Alternate b ys → Alternate b (sents ++ ys)
  after_sent a b [] ys h k = k
  after_sent a b (Sent from to bytes ∷ sents) ys h k = (tt, after_sent a b sents ys h.1 k)
  after_sent a b (Got at from bytes ∷ sents) ys h k = absurd h
  after_sent a b (Idle at ∷ sents) ys h k = absurd h
  after_sent a b (Turn at ∷ sents) ys h k = absurd h

  sent : (a : Address) (b : Bool) (sents : List LogEntry) → AllSent a sents → Alternate b sents
  sent a b [] h = tt
  sent a b (Sent from to bytes ∷ sents) h = (tt, sent a b sents h.1)
  sent a b (Got at from bytes ∷ sents) h = absurd h
  sent a b (Idle at ∷ sents) h = absurd h
  sent a b (Turn at ∷ sents) h = absurd h

  got : (a : Address) (part : List LogEntry) → IsGot a part → (b : Bool) → Alternate b part
  got a part g b = subst (Alternate b) (sym g.form) (tt, sent a b g.sents g.own)

  gots : (a : Address) (n : ℕ) (part : List LogEntry) → Gots a n part → (b : Bool) → Alternate b part
  gots a zero part g b = subst (Alternate b) (sym g) tt
  gots a (suc n) part g b = subst (Alternate b) (sym g.2) (join b g.0 g.1 (gots a n g.0 g.3 b) (got a g.1 g.4))

  look : (a : Address) (part : List LogEntry) → IsLook a part → (b : Bool) → Alternate b part
  look a part l b = by (most l.count l.most)
    where
      most : (n : ℕ) → n ≤ 64 → (n ≡ 64) ⊎ (n < 64)
      most n h = grind arith

      by : (l.count ≡ 64) ⊎ (l.count < 64) → Alternate b part
      by (inl h) = subst (Alternate b) (sym (l.full h)) (gots a l.count l.gots l.form b)
      by (inr h) = subst (Alternate b) (sym (l.idle h)) (join b l.gots (Idle a ∷ []) (gots a l.count l.gots l.form b) (λ c. (tt, tt)))

  each_look : (places : List Address) (part : List LogEntry) → EachEnd IsLook places part → (b : Bool) → Alternate b part
  each_look [] part h b = subst (Alternate b) (sym h) tt
  each_look (a ∷ places) part h b = subst (Alternate b) (sym h.2) (join b h.0 h.1 (look a h.0 h.3 b) (each_look places h.1 h.4))

  looks : (m : Rules) (rs : List Rules) (part : List LogEntry) → IsLooks (Some m) rs part → (b : Bool) → Alternate b part
  looks m rs part l b = subst (Alternate b) (sym l.form) (join b l.first l.rest (look m.place l.first l.own b) (each_look (places_of rs) l.rest l.others))

  -- the slave is at none of these places
  abbrev IsAway : List Address → Type 0
  IsAway [] = Unit {0}
  IsAway (a ∷ places) = (same_address a slave ≡ true → ⊥) × IsAway places

  -- the slave is at no more than one of these places
  abbrev IsOnce : List Address → Type 0
  IsOnce [] = Unit {0}
  IsOnce (a ∷ places) = (same_address a slave ≡ true → IsAway places) × IsOnce places

  turns_away : (places : List Address) (part : List LogEntry) → EachEnd IsTurn places part → IsAway places → (b : Bool) → Alternate b part
  turns_away [] part h o b = subst (Alternate b) (sym h) tt
  turns_away (a ∷ places) part h o b =
      let t = h.3 in
      let P : List LogEntry → Type 0 = λ z. Alternate b (z ++ h.1) in
      subst (Alternate b) (sym h.2) (subst P (sym t.form) ((λ z. absurd (o.0 z)), after_sent a (open_after b (Turn a)) t.sents h.1 t.own (turns_away places h.1 h.4 o.1 (open_after b (Turn a)))))

  turns_once : (places : List Address) (part : List LogEntry) → EachEnd IsTurn places part → IsOnce places → Alternate true part
  turns_once [] part h o = subst (Alternate true) (sym h) tt
  turns_once (a ∷ places) part h o =
      let t = h.3 in
      let P : List LogEntry → Type 0 = λ z. Alternate true (z ++ h.1) in
      subst (Alternate true) (sym h.2) (subst P (sym t.form) ((λ z. refl), after_sent a (open_after true (Turn a)) t.sents h.1 t.own (by (same_address a slave) refl (turns_once places h.1 h.4 o.1))))
    where
      by : (y : Bool) → same_address a slave ≡ y → Alternate true h.1 → Alternate (if y then false else (if same_address a master then true else true)) h.1
      by true z k = turns_away places h.1 h.4 (o.0 z) false
      by false z k = let P : Bool → Type 0 = λ c. Alternate c h.1 in subst P (sym (two (same_address a master))) k
        where
          two : (c : Bool) → (if c then true else true) ≡ true
          two true = refl
          two false = refl

  module _ (m : Rules) (rs : List Rules) (is : m.place ≡ master) (apart : same_address master slave ≡ true → ⊥) (self : same_address master master ≡ true) (once : IsOnce (places_of rs)) where
    turns : (log part : List LogEntry) → IsTurns (Some m) rs log part → (b : Bool) → Alternate b part
    turns log part t b = subst (Alternate b) (sym t.form) (by t.own)
      where
        rest : (y : Bool) → MatchBool y (t.rest ≡ []) (EachEnd IsTurn (places_of rs) t.rest) → Alternate true t.rest
        rest true h = subst (Alternate true) (sym h) tt
        rest false h = turns_once (places_of rs) t.rest h once

        opens : (y z : Bool) → same_address m.place slave ≡ y → same_address m.place master ≡ z → (if y then false else (if z then true else b)) ≡ true
        opens true z e f = absurd (apart (sym (ap (λ (a : Address). same_address a slave) is) ∙ e))
        opens false true e f = refl
        opens false false e f = let v : true ≡ false = sym self ∙ ap (λ (a : Address). same_address a master) (sym is) ∙ f in absurd cc

        by : IsTurn m.place t.first → Alternate b (t.first ++ t.rest)
        by o =
            let P : List LogEntry → Type 0 = λ z. Alternate b (z ++ t.rest) in
            let Q : Bool → Type 0 = λ c. Alternate c (o.sents ++ t.rest) in
            let n : open_after b (Turn m.place) ≡ true = opens (same_address m.place slave) (same_address m.place master) refl refl in
            subst P (sym o.form) ((λ z. absurd (apart (sym (ap (λ (a : Address). same_address a slave) is) ∙ z))), subst Q (sym n) (after_sent m.place true o.sents t.rest o.own (rest (has_report (Some m) (log ++ t.first)) t.others)))

    pub whole : (n : ℕ) (log : List LogEntry) → Rounds (Some m) rs n log → Alternate true log
    whole zero log r = subst (Alternate true) (sym r) tt
    whole (suc n) log r =
        let k = r.4 in
        let Q : Bool → Type 0 = λ c. Alternate c r.1 in
        subst (Alternate true) (sym r.2) (join true r.0 r.1 (whole n r.0 r.3) (λ c. subst (Alternate c) (sym k.form) (join c k.looks k.turns (looks m rs k.looks k.looked c) (turns (r.0 ++ k.looks) k.turns k.turned))))

-- ---- the log turned around
counted_reverse : (p : LogEntry → Bool) (xs : List LogEntry) → count_by p (reverse xs) ≡ count_by p xs
counted_reverse p [] = refl
counted_reverse p (x ∷ xs) =
    let a : count_by p (reverse (x ∷ xs)) ≡ count_by p (reverse xs ++ x ∷ []) = ap (count_by p) (reverse-append (x ∷ []) xs) in
    let b = sum_by-append (λ (z : LogEntry). if p z then 1 else 0) (reverse xs) (x ∷ []) in
    let c = sum_by-cons (λ (z : LogEntry). if p z then 1 else 0) x xs in
    let d = sum_by-cons (λ (z : LogEntry). if p z then 1 else 0) x [] in
    let e = counted_reverse p xs in
    let f : count_by p [] ≡ 0 = refl in
    omega (arith, a, b, c, d, e, f)

-- ---- the ends of a scenario
abbrev places : (sc : Scenario) (ds : List SlaveDesc) → List Address
places sc ds = places_of (map (λ (d : SlaveDesc). slave_rules_from (record { desc = d; micro = sc.micro })) ds)

away : (master slave : Address) (sc : Scenario) (ds : List SlaveDesc) → ((i : ℕ) (d : SlaveDesc) → slice_get ds i ≡ Some d → same_address d.address slave ≡ true → ⊥) → IsAway master slave (places sc ds)
away master slave sc [] f = tt
away master slave sc (d ∷ ds) f = (f 0 d refl, away master slave sc ds (λ i e h. f (suc i) e h))

once : (master slave : Address) (sc : Scenario) (ds : List SlaveDesc) → ((i j : ℕ) (d e : SlaveDesc) → slice_get ds i ≡ Some d → slice_get ds j ≡ Some e → same_address d.address slave ≡ true → same_address e.address slave ≡ true → i ≡ j) → IsOnce master slave (places sc ds)
once master slave sc [] f = tt
once master slave sc (d ∷ ds) f =
    ((λ z. away master slave sc ds (λ i e h k. clash i (f 0 (suc i) d e refl h z k))), once master slave sc ds (λ i j d e g h p q. less i j (f (suc i) (suc j) d e g h p q)))
  where
    clash : (i : ℕ) → 0 ≡ suc i → ⊥
    clash i h = omega (arith, h)

    less : (i j : ℕ) → suc i ≡ suc j → i ≡ j
    less i j h = omega (arith, h)

-- a slave has no more turns in a part of a run than the master, and one
pub few_turns : (sc : Scenario) (other : SlaveDesc) → IsScenario sc → (log : List LogEntry) → IsRunInRounds sc other log → (s : ℕ) → IsSlaveOf (parties sc other) s → (later middle earlier : List LogEntry) → reverse log ≡ later ++ (middle ++ earlier)
    → count_by (is_turn_of (slave_numbered sc other s).address) middle ≤ count_by (is_turn_of sc.master) middle + 1
few_turns sc other ok log r s is later middle earlier e =
    let whole_log = whole sc.master a (master_rules sc) (rules_of_slaves sc) refl master_apart (self sc.master) (once sc.master a sc sc.slaves places_apart) r.count log r.rounds in
    let turned : log ≡ (reverse earlier ++ reverse middle) ++ reverse later =
    sym (reverse-reverse log) ∙ ap reverse e ∙ reverse-append later (middle ++ earlier) ∙ ap (λ (z : List LogEntry). z ++ reverse later) (reverse-append middle earlier) in
    let P : List LogEntry → Type 0 = Alternate sc.master a true in
    let m = back sc.master a true (reverse earlier) (reverse middle) (front sc.master a true (reverse earlier ++ reverse middle) (reverse later) (subst P turned whole_log)) in
    let n = few sc.master a m.0 (reverse middle) m.1 in
    let u = counted_reverse (is_turn_of a) middle in
    let v = counted_reverse (is_turn_of sc.master) middle in
    let l = most m.0 in
    omega (arith, n, u, v, l)
  where
    a : Address
    a = (slave_numbered sc other s).address

    most : (b : Bool) → bit b ≤ 1
    most true = omega arith
    most false = omega arith

    self : (x : Address) → same_address x x ≡ true
    self x = ap (λ (b : Bool). b && (x.port == x.port)) (eq-eqb x.ip x.ip refl) ∙ eq-eqb x.port x.port refl

    master_apart : same_address sc.master a ≡ true → ⊥
    master_apart h = (has_parties sc other ok message_in).apart.master s is (sym (one_address sc.master a h))

    places_apart : (i j : ℕ) (d e : SlaveDesc) → slice_get sc.slaves i ≡ Some d → slice_get sc.slaves j ≡ Some e → same_address d.address a ≡ true → same_address e.address a ≡ true → i ≡ j
    places_apart i j d e g h p q =
        let x = (has_parties sc other ok message_in).apart.slaves (i + 1) (j + 1) (numbered i d g).0 (numbered j e h).0 (sym (numbered i d g).1 ∙ one_address d.address a p ∙ sym (one_address e.address a q) ∙ (numbered j e h).1) in
        omega (arith, x)
      where
        numbered : (i : ℕ) (d : SlaveDesc) → slice_get sc.slaves i ≡ Some d → IsSlaveOf (parties sc other) (i + 1) × (d.address ≡ (parties sc other).slave (i + 1))
        numbered i d e =
            let lt = slice_get_within sc.slaves i d e in
            let is : IsSlaveOf (parties sc other) (i + 1) = (omega arith, omega (arith, lt)) in
            let m : i + 1 - 1 ≡ i = omega arith in
            let same : Some d ≡ Some (slave_numbered sc other (i + 1)) = sym e ∙ ap (slice_get sc.slaves) (sym m) ∙ (has_parties sc other ok message_in).desc (i + 1) is in
            let z : d ≡ slave_numbered sc other (i + 1) = cc in
            (is, ap (λ (x : SlaveDesc). x.address) z)
