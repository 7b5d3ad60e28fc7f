-- A log with more entries: what waits after them. Logs have their newest entry first, parts their oldest.
use Rattle.std.proofs.Common.{◌≡◌, ℕ, ◌+◌, ◌≤◌, Bool, true, false, List, [], ◌∷◌, ◌++◌, length, reverse, refl, sym, ap, ◌∙◌, subst, arith, append_assoc}
use Rattle.std.specs.Prelude.{◌&&◌, ◌==◌, nat_le}
use Rattle.std.proofs.lemmas.Bool.{and_parts, eq-eqb, eqb-true}
use Rattle.std.proofs.lemmas.Bool.Decides.{nat_tests}
use Rattle.std.proofs.lemmas.List.{reverse-append}
use Rattle.dcp_types.specs.declared.addresses.Address.{Address}
use Rattle.dcp_ends.specs.Logs.{same_address}
use Rattle.dcp_ends.specs.declared.entries.LogEntry.{LogEntry}
use Rattle.dcp_ends.specs.declared.entries.LogEntry.TheVariants.{Sent, Got, Idle, Turn}
use Rattle.dcp_net.specs.declared.openings.Opening.{Opening}
use Rattle.net_world.specs.declared.deliveries.Arrival.{Arrival}
use Rattle.net_world.specs.Deliveries.{is_young, is_due_now, is_ready_for}
use Rattle.net_world.specs.Messages.{messages}
use Rattle.rounds.specs.Rounds.{AllSent}
use Rattle.completeness_laws.specs.Quiet.{IsQuietPlan}
use Rattle.completeness_laws.proofs.Quiet.Lists.{bit, tally, Each, each_weaker, first_passes, tally_without, length_without, each_without, none_passes}
use Rattle.completeness_laws.proofs.Quiet.Nets.{told, sent_count, sent_told, tally_place, length_place, each_place, Given, pending, given_before, got_given, idle_given, pending_got, pending_idle, pending_turn, letter, pending_sent}

-- the log with the entries of a part, one after the other
abbrev pub onto : List LogEntry → List LogEntry → List LogEntry
onto [] log = log
onto (e ∷ part) log = onto part (e ∷ log)

pub onto_append : (p q log : List LogEntry) → onto (p ++ q) log ≡ onto q (onto p log)
onto_append [] q log = refl
onto_append (e ∷ p) q log = onto_append p q (e ∷ log)

pub onto_reverse : (p log : List LogEntry) → onto p log ≡ reverse p ++ log
onto_reverse [] log = refl
onto_reverse (e ∷ p) log = onto_reverse p (e ∷ log) ∙ sym (append_assoc (reverse p) (e ∷ []) log) ∙ ap (λ (l : List LogEntry). l ++ log) (sym (reverse-append (e ∷ []) p))

-- how many datagrams were got
abbrev pub got_count : List LogEntry → ℕ
got_count [] = 0
got_count (Sent from to bytes ∷ log) = got_count log
got_count (Got at from bytes ∷ log) = got_count log + 1
got_count (Idle at ∷ log) = got_count log
got_count (Turn at ∷ log) = got_count log

-- how many messages of a part go to an address
abbrev pub goes_to : Address → LogEntry → ℕ
goes_to a (Sent from to bytes) = bit (same_address to a)
goes_to a (Got at from bytes) = 0
goes_to a (Idle at) = 0
goes_to a (Turn at) = 0

abbrev pub sends_to : Address → List LogEntry → ℕ
sends_to a [] = 0
sends_to a (e ∷ part) = goes_to a e + sends_to a part

clash : true ≡ false → ⊥
clash z = cc

pub address_self : (a : Address) → same_address a a ≡ true
address_self a = ap (λ (b : Bool). b && (a.port == a.port)) (eq-eqb a.ip a.ip refl) ∙ eq-eqb a.port a.port refl

pub address_is : (a b : Address) → same_address a b ≡ true → a ≡ b
address_is a b h =
    let p = and_parts (a.ip == b.ip) (a.port == b.port) h in
    let x : a.ip ≡ b.ip = eqb-true a.ip b.ip p.0 in
    let y : a.port ≡ b.port = eqb-true a.port b.port p.1 in
    ap (λ (i : ℕ). record { ip = i; port = a.port }) x ∙ ap (λ (i : ℕ). record { ip = b.ip; port = i }) y

module _ (o : Opening) (quiet : IsQuietPlan o.plan) where
  -- it waits for this address
  abbrev pub is_for : Address → Arrival → Bool
  is_for a d = same_address d.to a

  -- how many wait for it
  abbrev pub waits_for : Address → List LogEntry → ℕ
  waits_for a log = tally (is_for a) (pending o log)

  abbrev pub G : List LogEntry → Type 0
  G = Given o

  given_back : (part log : List LogEntry) → G (onto part log) → G log
  given_back [] log g = g
  given_back (e ∷ part) log g = given_before o e log (given_back part (e ∷ log) g)

  pub given_onto : (part log : List LogEntry) → G (onto part log) → G log
  given_onto part log g = given_back part log g

  pub for_sent : (a from to : Address) (bytes : List ℕ) (log : List LogEntry) → waits_for a (Sent from to bytes ∷ log) ≡ waits_for a log + bit (same_address to a)
  for_sent a from to bytes log = ap (tally (is_for a)) (pending_sent o quiet from to bytes log) ∙ tally_place (is_for a) (letter o log from to bytes) (pending o log)

  -- what is sent waits
  pub for_sents : (a b : Address) (part log : List LogEntry) → AllSent b part → waits_for a (onto part log) ≡ waits_for a log + sends_to a part
  for_sents a b [] log h = omega arith
  for_sents a b (Sent from to bytes ∷ part) log h =
      let k = for_sents a b part (Sent from to bytes ∷ log) h.1 in
      let l = for_sent a from to bytes log in
      omega (arith, k, l)
  for_sents a b (Got at from bytes ∷ part) log h = absurd h
  for_sents a b (Idle at ∷ part) log h = absurd h
  for_sents a b (Turn at ∷ part) log h = absurd h

  pub for_got : (a at from : Address) (bytes : List ℕ) (log : List LogEntry) → G (Got at from bytes ∷ log) → waits_for a log ≡ waits_for a (Got at from bytes ∷ log) + bit (same_address at a)
  for_got a at from bytes log g =
      let t = got_given o at from bytes log g in
      let p = is_ready_for at (messages (told log)) in
      let h = tally_without p (is_for a) (pending o log) t.taken t.is in
      let e = ap (tally (is_for a)) (pending_got o at from bytes log) in
      let k = first_passes p (pending o log) t.taken t.is in
      let f : t.taken.to ≡ at = address_is t.taken.to at (and_parts (same_address t.taken.to at) (is_due_now (messages (told log)) t.taken) k).0 in
      let i : bit (same_address t.taken.to a) ≡ bit (same_address at a) = ap (λ (x : Address). bit (same_address x a)) f in
      omega (arith, h, e, i)

  -- ---- a take that gives nothing
  abbrev pub AllDue : List LogEntry → Type 0
  AllDue log = Each (λ (d : Arrival). is_due_now (messages (told log)) d ≡ true) (pending o log)

  both_true : (b c : Bool) → b ≡ true → c ≡ true → (b && c) ≡ true
  both_true true c e f = f
  both_true false c e f = absurd cc

  -- where a take gives nothing, nothing waits
  pub idle_none : (a : Address) (log : List LogEntry) → G (Idle a ∷ log) → AllDue log → waits_for a log ≡ 0
  idle_none a log g due =
      none_passes (is_ready_for a (messages (told log))) (is_for a) (pending o log) (idle_given o a log g)
      (each_weaker (λ (d : Arrival). is_due_now (messages (told log)) d ≡ true) (λ (d : Arrival). is_for a d ≡ true → is_ready_for a (messages (told log)) d ≡ true)
      (λ d h k. both_true (same_address d.to a) (is_due_now (messages (told log)) d) k h) (pending o log) due)

  -- ---- how many wait in all
  pub all_counted : (log : List LogEntry) → G log → length (pending o log) + got_count log ≡ sent_count log
  all_counted [] g = refl
  all_counted (Sent from to bytes ∷ log) g =
      let h = all_counted log (given_before o (Sent from to bytes) log g) in
      let e = ap length (pending_sent o quiet from to bytes log) in
      let k = length_place (letter o log from to bytes) (pending o log) in
      omega (arith, h, e, k)
  all_counted (Got at from bytes ∷ log) g =
      let h = all_counted log (given_before o (Got at from bytes) log g) in
      let t = got_given o at from bytes log g in
      let e = ap length (pending_got o at from bytes log) in
      let k = length_without (is_ready_for at (messages (told log))) (pending o log) t.taken t.is in
      omega (arith, h, e, k)
  all_counted (Idle at ∷ log) g =
      let h = all_counted log (given_before o (Idle at) log g) in
      let e = ap length (pending_idle o at log) in
      omega (arith, h, e)
  all_counted (Turn at ∷ log) g =
      let h = all_counted log (given_before o (Turn at) log g) in
      let e = ap length (pending_turn o at log) in
      omega (arith, h, e)

  -- ---- what holds of each that waits, and of each that is sent later
  module _ (P : Arrival → Type 0) where
    pub each_entry : (e : LogEntry) (log : List LogEntry) → ((from to : Address) (bytes : List ℕ) → e ≡ Sent from to bytes → P (letter o log from to bytes)) → Each P (pending o log) → Each P (pending o (e ∷ log))
    each_entry (Sent from to bytes) log f a = let Q : List Arrival → Type 0 = Each P in subst Q (sym (pending_sent o quiet from to bytes log)) (each_place P (letter o log from to bytes) (pending o log) (f from to bytes refl) a)
    each_entry (Got at from bytes) log f a = let Q : List Arrival → Type 0 = Each P in subst Q (sym (pending_got o at from bytes log)) (each_without P (is_ready_for at (messages (told log))) (pending o log) a)
    each_entry (Idle at) log f a = let Q : List Arrival → Type 0 = Each P in subst Q (sym (pending_idle o at log)) a
    each_entry (Turn at) log f a = let Q : List Arrival → Type 0 = Each P in subst Q (sym (pending_turn o at log)) a

  -- each is due once it is sent
  pub each_sent : (log : List LogEntry) → Each (λ (d : Arrival). (d.due ≡ d.number) × (d.number ≤ sent_count log)) (pending o log)
  each_sent [] = tt
  each_sent (e ∷ log) =
      each_entry (λ (d : Arrival). (d.due ≡ d.number) × (d.number ≤ sent_count (e ∷ log))) e log (λ from to bytes q. new from to bytes q)
      (each_weaker (λ (d : Arrival). (d.due ≡ d.number) × (d.number ≤ sent_count log)) (λ (d : Arrival). (d.due ≡ d.number) × (d.number ≤ sent_count (e ∷ log))) (λ d h. (h.0, let n = more e in omega (arith, n, h.1))) (pending o log) (each_sent log))
    where
      more : (e : LogEntry) → sent_count log ≤ sent_count (e ∷ log)
      more (Sent from to bytes) = omega arith
      more (Got at from bytes) = omega arith
      more (Idle at) = omega arith
      more (Turn at) = omega arith

      new : (from to : Address) (bytes : List ℕ) → e ≡ Sent from to bytes → (messages (told log) + 1 + 0 ≡ messages (told log) + 1) × (messages (told log) + 1 ≤ sent_count (e ∷ log))
      new from to bytes q =
          let k = sent_told log in
          let n : sent_count (e ∷ log) ≡ sent_count log + 1 = ap (λ (x : LogEntry). sent_count (x ∷ log)) q in
          (omega arith, omega (arith, k, n))

  -- where each that waits is recent, all is due
  pub all_due : (base : ℕ) (log : List LogEntry) → G log → Each (λ (d : Arrival). base ≤ d.number) (pending o log) → sent_count log ≤ base + 32767 → AllDue log
  all_due base log g recent few = by (pending o log) (each_sent log) recent
    where
      k : messages (told log) ≡ sent_count log
      k = sent_told log

      one : (d : Arrival) → (d.due ≡ d.number) × (d.number ≤ sent_count log) → base ≤ d.number → is_due_now (messages (told log)) d ≡ true
      one d h b =
          let x : nat_le d.due (messages (told log)) ≡ true = (let u = h.0 in let v = h.1 in grind (arith, nat_tests, u, v, k)) in
          let y : nat_le (messages (told log)) (d.number + 32767) ≡ true = grind (arith, nat_tests, b, few, k) in
          both_true (nat_le d.due (messages (told log))) (is_young (messages (told log)) d) x y

      by : (w : List Arrival) → Each (λ (d : Arrival). (d.due ≡ d.number) × (d.number ≤ sent_count log)) w → Each (λ (d : Arrival). base ≤ d.number) w → Each (λ (d : Arrival). is_due_now (messages (told log)) d ≡ true) w
      by [] a b = tt
      by (d ∷ w) a b = (one d a.0 b.0, by w a.1 b.1)
