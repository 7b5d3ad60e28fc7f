-- How many messages of a part go to an address, and how many wait for it after the part. Logs have their newest entry first, parts their oldest.
use Rattle.std.proofs.Common.{◌≡◌, ℕ, zero, suc, ◌+◌, ◌<◌, ◌≤◌, ◌⊎◌, inl, inr, Bool, true, false, if◌then◌else◌, List, [], ◌∷◌, ◌++◌, refl, sym, ap, ◌∙◌, arith}
use Rattle.std.specs.Prelude.{◌&&◌}
use Rattle.std.proofs.lemmas.Bool.{and_parts}
use Rattle.dcp_types.specs.declared.addresses.Address.{Address}
use Rattle.dcp_ends.specs.Logs.{same_address}
use Rattle.dcp_ends.specs.declared.entries.LogEntry.{LogEntry}
use Rattle.dcp_ends.specs.declared.entries.LogEntry.TheVariants.{Sent, Got, Idle, Turn}
use Rattle.dcp_net.specs.declared.openings.Opening.{Opening}
use Rattle.net_world.specs.declared.deliveries.Arrival.{Arrival}
use Rattle.net_world.specs.Deliveries.{is_due_now, is_ready_for}
use Rattle.net_world.specs.Messages.{messages}
use Rattle.rounds.specs.Rounds.{AllSent, IsTurn, Gots, IsLook}
use Rattle.completeness_laws.specs.Quiet.{IsQuietPlan, NoneToSelf}
use Rattle.completeness_laws.proofs.Quiet.Lists.{bit, tally, first_passes, tally_without}
use Rattle.completeness_laws.proofs.Quiet.Nets.{told, tally_place, pending, got_given, pending_got, pending_idle, pending_turn, letter, pending_sent}
use Rattle.completeness_laws.proofs.Quiet.Fronts.{onto, got_count, goes_to, sends_to, address_self, address_is, is_for, waits_for, G, given_onto, for_sent, for_got}

-- ---- the messages of a part
pub sends_join : (a : Address) (p q : List LogEntry) → sends_to a (p ++ q) ≡ sends_to a p + sends_to a q
sends_join a [] q = omega arith
sends_join a (e ∷ p) q = let h = sends_join a p q in omega (arith, h)

-- how many messages of a part go to an address, those of this sender left out
abbrev pub other_to : Address → Address → LogEntry → ℕ
other_to m a (Sent from to bytes) = if same_address from m then 0 else bit (same_address to a)
other_to m a (Got at from bytes) = 0
other_to m a (Idle at) = 0
other_to m a (Turn at) = 0

-- the same of a part
abbrev pub others_to : Address → Address → List LogEntry → ℕ
others_to m a [] = 0
others_to m a (e ∷ part) = other_to m a e + others_to m a part

-- those of two parts are together those of the whole
pub others_join : (m a : Address) (p q : List LogEntry) → others_to m a (p ++ q) ≡ others_to m a p + others_to m a q
others_join m a [] q = omega arith
others_join m a (e ∷ p) q = let h = others_join m a p q in omega (arith, h)

-- they are no more than all that go there
pub others_few : (m a : Address) (part : List LogEntry) → others_to m a part ≤ sends_to a part
others_few m a [] = omega arith
others_few m a (e ∷ part) = let h = others_few m a part in let k = one e in omega (arith, h, k)
  where
    one : (e : LogEntry) → other_to m a e ≤ goes_to a e
    one (Sent from to bytes) = by (same_address from m)
      where
        by : (b : Bool) → (if b then 0 else bit (same_address to a)) ≤ bit (same_address to a)
        by true = omega arith
        by false = omega arith
    one (Got at from bytes) = omega arith
    one (Idle at) = omega arith
    one (Turn at) = omega arith

-- none of the sender's own counts
pub others_own : (m a : Address) (part : List LogEntry) → AllSent m part → others_to m a part ≡ 0
others_own m a [] h = refl
others_own m a (Sent from to bytes ∷ part) h =
    let e : same_address from m ≡ true = ap (λ (x : Address). same_address x m) h.0 ∙ address_self m in
    let k : other_to m a (Sent from to bytes) ≡ 0 = ap (λ (b : Bool). if b then 0 else bit (same_address to a)) e in
    let r = others_own m a part h.1 in
    omega (arith, k, r)
others_own m a (Got at from bytes ∷ part) h = absurd h
others_own m a (Idle at ∷ part) h = absurd h
others_own m a (Turn at ∷ part) h = absurd h

-- ---- the datagrams that were got
pub got_onto : (part log : List LogEntry) → got_count (onto part log) ≡ got_count log + got_count part
got_onto [] log = omega arith
got_onto (Sent from to bytes ∷ part) log = got_onto part (Sent from to bytes ∷ log)
got_onto (Got at from bytes ∷ part) log = let h = got_onto part (Got at from bytes ∷ log) in omega (arith, h)
got_onto (Idle at ∷ part) log = got_onto part (Idle at ∷ log)
got_onto (Turn at ∷ part) log = got_onto part (Turn at ∷ log)

-- those of two parts are together those of the whole
pub got_join : (p q : List LogEntry) → got_count (p ++ q) ≡ got_count p + got_count q
got_join [] q = omega arith
got_join (Sent from to bytes ∷ p) q = got_join p q
got_join (Got at from bytes ∷ p) q = let h = got_join p q in omega (arith, h)
got_join (Idle at ∷ p) q = got_join p q
got_join (Turn at ∷ p) q = got_join p q

-- sends take none
pub got_sents : (a : Address) (part : List LogEntry) → AllSent a part → got_count part ≡ 0
got_sents a [] h = refl
got_sents a (Sent from to bytes ∷ part) h = got_sents a part h.1
got_sents a (Got at from bytes ∷ part) h = absurd h
got_sents a (Idle at ∷ part) h = absurd h
got_sents a (Turn at ∷ part) h = absurd h

-- so many takes take so many
pub got_gots : (a : Address) (n : ℕ) (part : List LogEntry) → Gots a n part → got_count part ≡ n
got_gots a zero part g = ap got_count g
got_gots a (suc n) part g =
    let h = got_gots a n g.0 g.3 in
    let last = g.4 in
    let k = got_join g.0 g.1 in
    let e = ap got_count g.2 in
    let l : got_count g.1 ≡ got_count last.sents + 1 = ap got_count last.form in
    let z = got_sents a last.sents last.own in
    omega (arith, h, k, e, l, z)

-- a look takes no more than 64
pub got_look : (a : Address) (part : List LogEntry) → IsLook a part → got_count part ≤ 64
got_look a part l = by (at_most l.count l.most)
  where
    at_most : (n : ℕ) → n ≤ 64 → (n ≡ 64) ⊎ (n < 64)
    at_most n h = grind arith

    few : got_count l.gots ≡ l.count
    few = got_gots a l.count l.gots l.form

    by : (l.count ≡ 64) ⊎ (l.count < 64) → got_count part ≤ 64
    by (inl h) = let e = ap got_count (l.full h) in omega (arith, e, few, h)
    by (inr h) =
        let e = ap got_count (l.idle h) in
        let k = got_join l.gots (Idle a ∷ []) in
        let z : got_count (Idle a ∷ []) ≡ 0 = refl in
        omega (arith, e, k, z, few, h)

-- a turn takes none
pub got_turn : (a : Address) (part : List LogEntry) → IsTurn a part → got_count part ≡ 0
got_turn a part t = ap got_count t.form ∙ got_sents a t.sents t.own

-- ---- an end that sends nothing to its own address sends none to itself
bit_false : (b : Bool) → bit b ≡ 0 → b ≡ false
bit_false true h = absurd (omega (arith, h))
bit_false false h = refl

-- what the end sends goes to others
pub none_to_self : (a : Address) (part : List LogEntry) → AllSent a part → sends_to a part ≡ 0 → NoneToSelf part
none_to_self a [] h z = tt
none_to_self a (Sent from to bytes ∷ part) h z =
    let e : same_address to a ≡ false = bit_false (same_address to a) (omega (arith, z)) in
    (ap (same_address to) h.0 ∙ e, none_to_self a part h.1 (omega (arith, z)))
none_to_self a (Got at from bytes ∷ part) h z = absurd h
none_to_self a (Idle at ∷ part) h z = absurd h
none_to_self a (Turn at ∷ part) h z = absurd h

-- so it is of two parts together
pub not_self_join : (p q : List LogEntry) → NoneToSelf p → NoneToSelf q → NoneToSelf (p ++ q)
not_self_join [] q a b = b
not_self_join (Sent from to bytes ∷ p) q a b = (a.0, not_self_join p q a.1 b)
not_self_join (Got at from bytes ∷ p) q a b = not_self_join p q a b
not_self_join (Idle at ∷ p) q a b = not_self_join p q a b
not_self_join (Turn at ∷ p) q a b = not_self_join p q a b

-- ---- what waits after a part
module _ (o : Opening) (quiet : IsQuietPlan o.plan) where
  -- no more than waited before, and what was sent there
  pub waits_more : (a : Address) (part log : List LogEntry) → G o quiet (onto part log) → waits_for o quiet a (onto part log) ≤ waits_for o quiet a log + sends_to a part
  waits_more a [] log g = omega arith
  waits_more a (Sent from to bytes ∷ part) log g =
      let h = waits_more a part (Sent from to bytes ∷ log) g in
      let k = for_sent o quiet a from to bytes log in
      omega (arith, h, k)
  waits_more a (Got at from bytes ∷ part) log g =
      let h = waits_more a part (Got at from bytes ∷ log) g in
      let k = for_got o quiet a at from bytes log (given_onto o quiet part (Got at from bytes ∷ log) g) in
      omega (arith, h, k)
  waits_more a (Idle at ∷ part) log g =
      let h = waits_more a part (Idle at ∷ log) g in
      let k = ap (tally (is_for o quiet a)) (pending_idle o at log) in
      omega (arith, h, k)
  waits_more a (Turn at ∷ part) log g =
      let h = waits_more a part (Turn at ∷ log) g in
      let k = ap (tally (is_for o quiet a)) (pending_turn o at log) in
      omega (arith, h, k)

  module _ (m a : Address) where
    -- a message of m to a
    abbrev pub is_between : Arrival → Bool
    is_between d = same_address d.from m && same_address d.to a

    -- how many of them wait
    abbrev pub between : List LogEntry → ℕ
    between log = tally is_between (pending o log)

    -- one more waits where m sends to a
    pub between_sent : (from to : Address) (bytes : List ℕ) (log : List LogEntry) → between (Sent from to bytes ∷ log) ≡ between log + bit (same_address from m && same_address to a)
    between_sent from to bytes log = ap (tally is_between) (pending_sent o quiet from to bytes log) ∙ tally_place is_between (letter o log from to bytes) (pending o log)

    -- one less waits where a gets what m sent
    pub between_got : (at from : Address) (bytes : List ℕ) (log : List LogEntry) → G o quiet (Got at from bytes ∷ log) → between log ≡ between (Got at from bytes ∷ log) + bit (same_address from m && same_address at a)
    between_got at from bytes log g =
        let t = got_given o at from bytes log g in
        let p = is_ready_for at (messages (told log)) in
        let h = tally_without p is_between (pending o log) t.taken t.is in
        let e = ap (tally is_between) (pending_got o at from bytes log) in
        let k = first_passes p (pending o log) t.taken t.is in
        let there : t.taken.to ≡ at = address_is t.taken.to at (and_parts (same_address t.taken.to at) (is_due_now (messages (told log)) t.taken) k).0 in
        let one : is_between t.taken ≡ (same_address from m && same_address at a) =
        ap (λ (z : Address). same_address z m && same_address t.taken.to a) (sym t.sender) ∙ ap (λ (z : Address). same_address from m && same_address z a) there in
        let d = ap bit one in
        omega (arith, h, e, d)

    -- what another end sends is none of them
    pub between_sents : (b : Address) (part log : List LogEntry) → same_address b m ≡ false → AllSent b part → between (onto part log) ≡ between log
    between_sents b [] log n h = refl
    between_sents b (Sent from to bytes ∷ part) log n h =
        let r = between_sents b part (Sent from to bytes ∷ log) n h.1 in
        let k = between_sent from to bytes log in
        let e : same_address from m ≡ false = ap (λ (x : Address). same_address x m) h.0 ∙ n in
        let z : bit (same_address from m && same_address to a) ≡ 0 = ap (λ (c : Bool). bit (c && same_address to a)) e in
        omega (arith, r, k, z)
    between_sents b (Got at from bytes ∷ part) log n h = absurd h
    between_sents b (Idle at ∷ part) log n h = absurd h
    between_sents b (Turn at ∷ part) log n h = absurd h

    -- both are no more often than the second
    bit_and : (b c : Bool) → bit (b && c) ≤ bit c
    bit_and true c = omega arith
    bit_and false true = omega arith
    bit_and false false = omega arith

    -- a message to a is one of m or of another end
    bit_sent : (b c : Bool) → bit c ≤ bit (b && c) + (if b then 0 else bit c)
    bit_sent true c = omega arith
    bit_sent false true = omega arith
    bit_sent false false = omega arith

    -- what waits there beside those is no more than before, and what others sent there
    pub beside_more : (j : ℕ) (part log : List LogEntry) → G o quiet (onto part log) → waits_for o quiet a log ≤ between log + j → waits_for o quiet a (onto part log) ≤ between (onto part log) + (j + others_to m a part)
    beside_more j [] log g h = omega (arith, h)
    beside_more j (Sent from to bytes ∷ part) log g h =
        let k = for_sent o quiet a from to bytes log in
        let l = between_sent from to bytes log in
        let n = bit_sent (same_address from m) (same_address to a) in
        let r = beside_more (j + other_to m a (Sent from to bytes)) part (Sent from to bytes ∷ log) g (omega (arith, k, l, n, h)) in
        omega (arith, r)
    beside_more j (Got at from bytes ∷ part) log g h =
        let given = given_onto o quiet part (Got at from bytes ∷ log) g in
        let k = for_got o quiet a at from bytes log given in
        let l = between_got at from bytes log given in
        let n = bit_and (same_address from m) (same_address at a) in
        let r = beside_more j part (Got at from bytes ∷ log) g (omega (arith, k, l, n, h)) in
        omega (arith, r)
    beside_more j (Idle at ∷ part) log g h =
        let k = ap (tally (is_for o quiet a)) (pending_idle o at log) in
        let l = ap (tally is_between) (pending_idle o at log) in
        let r = beside_more j part (Idle at ∷ log) g (omega (arith, k, l, h)) in
        omega (arith, r)
    beside_more j (Turn at ∷ part) log g h =
        let k = ap (tally (is_for o quiet a)) (pending_turn o at log) in
        let l = ap (tally is_between) (pending_turn o at log) in
        let r = beside_more j part (Turn at ∷ log) g (omega (arith, k, l, h)) in
        omega (arith, r)
