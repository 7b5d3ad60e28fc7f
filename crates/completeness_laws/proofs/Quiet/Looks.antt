-- A look at an end takes all that waits for it, and after the looks of a round all that waits was sent in it.
use Rattle.std.proofs.Common.{◌≡◌, ℕ, zero, suc, ◌+◌, ◌<◌, ◌≤◌, true, false, ◌⊎◌, inl, inr, List, [], ◌∷◌, ◌++◌, refl, sym, ap, ◌∙◌, subst, arith}
use Rattle.dcp_types.specs.declared.addresses.Address.{Address}
use Rattle.dcp_ends.specs.Logs.{same_address}
use Rattle.dcp_ends.specs.declared.entries.LogEntry.{LogEntry}
use Rattle.dcp_ends.specs.declared.entries.LogEntry.TheVariants.{Sent, Got, Idle, Turn}
use Rattle.dcp_net.specs.declared.openings.Opening.{Opening}
use Rattle.net_world.specs.declared.deliveries.Arrival.{Arrival}
use Rattle.rounds.specs.Rounds.{AllSent, Gots, IsLook, EachEnd}
use Rattle.completeness_laws.specs.Quiet.{IsQuietPlan, NoneToSelf}
use Rattle.completeness_laws.proofs.Quiet.Lists.{bit, tally, Each}
use Rattle.completeness_laws.proofs.Quiet.Nets.{sent_count, sent_told, letter, pending, pending_idle}
use Rattle.completeness_laws.proofs.Quiet.Fronts.{onto, onto_append, sends_to, address_self, is_for, waits_for, G, given_onto, for_sents, for_got, idle_none, each_entry, all_due}

not_parts : (p q : List LogEntry) → NoneToSelf (p ++ q) → NoneToSelf p × NoneToSelf q
not_parts [] q h = (tt, h)
not_parts (Sent from to bytes ∷ p) q h = let k = not_parts p q h.1 in ((h.0, k.0), k.1)
not_parts (Got at from bytes ∷ p) q h = not_parts p q h
not_parts (Idle at ∷ p) q h = not_parts p q h
not_parts (Turn at ∷ p) q h = not_parts p q h

none_own : (a : Address) (part : List LogEntry) → AllSent a part → NoneToSelf part → sends_to a part ≡ 0
none_own a [] h n = refl
none_own a (Sent from to bytes ∷ part) h n =
    let e : same_address to a ≡ false = ap (same_address to) (sym h.0) ∙ n.0 in
    let k : bit (same_address to a) ≡ 0 = ap bit e in
    let r = none_own a part h.1 n.1 in
    omega (arith, k, r)
none_own a (Got at from bytes ∷ part) h n = absurd h
none_own a (Idle at ∷ part) h n = absurd h
none_own a (Turn at ∷ part) h n = absurd h

pub sent_rises : (part log : List LogEntry) → sent_count log ≤ sent_count (onto part log)
sent_rises [] log = omega arith
sent_rises (Sent from to bytes ∷ part) log = let h = sent_rises part (Sent from to bytes ∷ log) in omega (arith, h)
sent_rises (Got at from bytes ∷ part) log = sent_rises part (Got at from bytes ∷ log)
sent_rises (Idle at ∷ part) log = sent_rises part (Idle at ∷ log)
sent_rises (Turn at ∷ part) log = sent_rises part (Turn at ∷ log)

module _ (o : Opening) (quiet : IsQuietPlan o.plan) where
  -- each that waits here has this number or a later one
  abbrev pub FreshAt : Address → ℕ → List LogEntry → Type 0
  FreshAt a base log = Each (λ (d : Arrival). is_for o quiet a d ≡ true → base ≤ d.number) (pending o log)

  abbrev pub Fresh : ℕ → List LogEntry → Type 0
  Fresh base log = Each (λ (d : Arrival). base ≤ d.number) (pending o log)

  new_number : (base : ℕ) (log : List LogEntry) → base ≤ sent_count log + 1 → (from to : Address) (bytes : List ℕ) → base ≤ (letter o log from to bytes).number
  new_number base log h from to bytes = let k = sent_told log in omega (arith, h, k)

  pub fresh_onto : (base : ℕ) (part log : List LogEntry) → base ≤ sent_count log + 1 → Fresh base log → Fresh base (onto part log)
  fresh_onto base [] log h f = f
  fresh_onto base (e ∷ part) log h f =
      let r = sent_rises (e ∷ []) log in
      fresh_onto base part (e ∷ log) (omega (arith, h, r)) (each_entry o quiet (λ (d : Arrival). base ≤ d.number) e log (λ from to bytes q. new_number base log h from to bytes) f)

  pub fresh_at_onto : (a : Address) (base : ℕ) (part log : List LogEntry) → base ≤ sent_count log + 1 → FreshAt a base log → FreshAt a base (onto part log)
  fresh_at_onto a base [] log h f = f
  fresh_at_onto a base (e ∷ part) log h f =
      let r = sent_rises (e ∷ []) log in
      fresh_at_onto a base part (e ∷ log) (omega (arith, h, r)) (each_entry o quiet (λ (d : Arrival). is_for o quiet a d ≡ true → base ≤ d.number) e log (λ from to bytes q. λ z. new_number base log h from to bytes) f)

  -- where none waits, all that wait later are new
  pub none_fresh : (a : Address) (base : ℕ) (w : List Arrival) → tally (is_for o quiet a) w ≡ 0 → Each (λ (d : Arrival). is_for o quiet a d ≡ true → base ≤ d.number) w
  none_fresh a base [] h = tt
  none_fresh a base (d ∷ w) h = ((λ t. absurd (off t)), none_fresh a base w (omega (arith, h)))
    where
      off : same_address d.to a ≡ true → ⊥
      off t = let k : bit (same_address d.to a) ≡ 1 = ap bit t in omega (arith, k, h)

  -- ---- a look
  gots_take : (a : Address) (n : ℕ) (part log : List LogEntry) → Gots a n part → G o quiet (onto part log) → NoneToSelf part → waits_for o quiet a (onto part log) + n ≡ waits_for o quiet a log
  gots_take a zero part log g given not_self = let e = ap (λ (p : List LogEntry). waits_for o quiet a (onto p log)) g in omega (arith, e)
  gots_take a (suc n) part log g given not_self =
      let before = g.0 in
      let last = g.4 in
      let L = onto before log in
      let P : List LogEntry → Type 0 = NoneToSelf in
      let Q : List LogEntry → Type 0 = G o quiet in
      let ns = not_parts before g.1 (subst P g.2 not_self) in
      let nl : NoneToSelf (Got a last.from last.bytes ∷ last.sents) = subst P last.form ns.1 in
      let whole : onto part log ≡ onto last.sents (Got a last.from last.bytes ∷ L) = ap (λ (p : List LogEntry). onto p log) g.2 ∙ onto_append before g.1 log ∙ ap (λ (p : List LogEntry). onto p L) last.form in
      let given' = given_onto o quiet last.sents (Got a last.from last.bytes ∷ L) (subst Q whole given) in
      let h = gots_take a n before log g.3 (given_onto o quiet (Got a last.from last.bytes ∷ []) L given') ns.0 in
      let i = for_sents o quiet a a last.sents (Got a last.from last.bytes ∷ L) last.own in
      let j = none_own a last.sents last.own nl in
      let k = for_got o quiet a a last.from last.bytes L given' in
      let own : bit (same_address a a) ≡ 1 = ap bit (address_self a) in
      let w = ap (waits_for o quiet a) whole in
      omega (arith, h, i, j, k, own, w)

  -- it takes all that waits, if that is not more than 64 messages and not old
  pub look_takes : (a : Address) (part log : List LogEntry) (base : ℕ) → IsLook a part → G o quiet (onto part log) → NoneToSelf part → waits_for o quiet a log ≤ 64 → Fresh base log → base ≤ sent_count log + 1 → sent_count (onto part log) ≤ base + 32767
      → waits_for o quiet a (onto part log) ≡ 0
  look_takes a part log base l given not_self few fresh low high = by (most l.count l.most)
    where
      most : (n : ℕ) → n ≤ 64 → (n ≡ 64) ⊎ (n < 64)
      most n h = grind arith

      P : List LogEntry → Type 0
      P z = NoneToSelf z

      Q : List LogEntry → Type 0
      Q z = G o quiet z

      by : (l.count ≡ 64) ⊎ (l.count < 64) → waits_for o quiet a (onto part log) ≡ 0
      by (inl h) =
          let e = l.full h in
          let k = gots_take a l.count l.gots log l.form (subst Q (ap (λ (p : List LogEntry). onto p log) e) given) (subst P e not_self) in
          let w = ap (λ (p : List LogEntry). waits_for o quiet a (onto p log)) e in
          omega (arith, k, w, h, few)
      by (inr h) =
          let e = l.idle h in
          let L = onto l.gots log in
          let whole : onto part log ≡ Idle a ∷ L = ap (λ (p : List LogEntry). onto p log) e ∙ onto_append l.gots (Idle a ∷ []) log in
          let given' = subst Q whole given in
          let s = ap sent_count whole in
          let due = all_due o quiet base L (given_onto o quiet (Idle a ∷ []) L given') (fresh_onto base l.gots log low fresh) (omega (arith, s, high)) in
          let z = idle_none o quiet a L given' due in
          let i = ap (tally (is_for o quiet a)) (pending_idle o a L) in
          let w = ap (waits_for o quiet a) whole in
          omega (arith, z, i, w)

  -- ---- the looks at ends, one after the other: before each of them this many wait for it
  abbrev pub FewBefore : (places : List Address) (part log : List LogEntry) → EachEnd IsLook places part → Type 0
  FewBefore [] part log h = Unit {0}
  FewBefore (a ∷ places) part log h = (waits_for o quiet a log ≤ 64) × FewBefore places h.1 (onto h.0 log) h.4

  abbrev pub AllFresh : List Address → ℕ → List LogEntry → Type 0
  AllFresh [] base log = Unit {0}
  AllFresh (a ∷ places) base log = FreshAt a base log × AllFresh places base log

  pub looks_take : (places : List Address) (part log : List LogEntry) (base new : ℕ) (h : EachEnd IsLook places part) → FewBefore places part log h → G o quiet (onto part log) → NoneToSelf part → Fresh base log → base ≤ sent_count log + 1 → sent_count (onto part log) ≤ base + 32767
      → new ≤ sent_count log + 1 → AllFresh places new (onto part log)
  looks_take [] part log base new h few given not_self fresh low high n = tt
  looks_take (a ∷ places) part log base new h few given not_self fresh low high n =
      let P : List LogEntry → Type 0 = NoneToSelf in
      let Q : List LogEntry → Type 0 = G o quiet in
      let L = onto h.0 log in
      let whole : onto part log ≡ onto h.1 L = ap (λ (p : List LogEntry). onto p log) h.2 ∙ onto_append h.0 h.1 log in
      let ns = not_parts h.0 h.1 (subst P h.2 not_self) in
      let given' = subst Q whole given in
      let s = ap sent_count whole in
      let r = sent_rises h.1 L in
      let up = sent_rises h.0 log in
      let low' : base ≤ sent_count L + 1 = omega (arith, low, up) in
      let n' : new ≤ sent_count L + 1 = omega (arith, n, up) in
      let z = look_takes a h.0 log base h.3 (given_onto o quiet h.1 L given') ns.0 few.0 fresh low (omega (arith, high, s, r)) in
      let here = fresh_at_onto a new h.1 L n' (none_fresh a new (pending o L) z) in
      let rest = looks_take places h.1 L base new h.4 few.1 given' ns.1 (fresh_onto base h.0 log low fresh) low' (omega (arith, high, s)) n' in
      let R : List LogEntry → Type 0 = FreshAt a new in
      let T : List LogEntry → Type 0 = AllFresh places new in
      (subst R (sym whole) here, subst T (sym whole) rest)
