-- A round over a quiet network: its looks leave nothing that waited before it, and little waits after it. Logs have their newest entry first, parts their oldest.
use Rattle.std.proofs.Common.{◌≡◌, ℕ, zero, suc, ◌+◌, ◌-◌, ◌*◌, ◌≤◌, ◌⊎◌, inl, inr, Bool, true, false, Some, List, [], ◌∷◌, ◌++◌, map, length, refl, sym, ap, ◌∙◌, subst, arith}
use Rattle.std.specs.Prelude.{slice_get, MatchBool}
use Rattle.std.proofs.lemmas.Option.{slice_get_within}
use Rattle.dcp_types.specs.declared.addresses.Address.{Address}
use Rattle.dcp_ends.specs.Logs.{same_address}
use Rattle.dcp_ends.specs.declared.entries.LogEntry.{LogEntry}
use Rattle.pdu_layout.specs.Reading.{message_in}
use Rattle.slave_desc.specs.declared.descriptions.SlaveDesc.{SlaveDesc}
use Rattle.scenario.specs.declared.scenarios.Scenario.{Scenario}
use Rattle.scenario.specs.Sound.{IsScenario}
use Rattle.dcp_net.specs.declared.openings.Opening.{Opening}
use Rattle.net_world.specs.declared.deliveries.Arrival.{Arrival}
use Rattle.rounds.specs.Rounds.{IsLook, IsTurn, EachEnd, places_of, has_report, IsLooks, IsTurns, IsRound}
use Rattle.log_spec.specs.Log.{Parties, IsSlaveOf, IsEnd}
use Rattle.master_spec.specs.Rules.{master_rules}
use Rattle.slave_spec.specs.Slaves.{slave_rules_from}
use Rattle.lockstep_laws.specs.Models.Scenarios.{slave_numbered}
use Rattle.lockstep_laws.proofs.Models.Scenarios.{has_parties}
use Rattle.run_laws.specs.Laws.{parties, rules_of_slaves}
use Rattle.completeness_laws.specs.Quiet.{IsQuietPlan, NoneToSelf}
use Rattle.completeness_laws.proofs.Quiet.Lists.{Among, Each, each_weaker}
use Rattle.completeness_laws.proofs.Quiet.Sums.{total, total_few, PassesOne, covered}
use Rattle.completeness_laws.proofs.Quiet.Nets.{sent_count, pending}
use Rattle.completeness_laws.proofs.Quiet.Fronts.{onto, onto_append, got_count, sends_to, address_self, is_for, waits_for, G, all_counted}
use Rattle.completeness_laws.proofs.Quiet.Looks.{sent_rises, Fresh, fresh_onto, fresh_at_onto, none_fresh, look_takes}
use Rattle.completeness_laws.proofs.Quiet.Counts.{sends_join, others_to, others_join, others_few, got_onto, got_join, got_look, got_turn, not_self_join, waits_more, between, beside_more}
use Rattle.completeness_laws.proofs.Quiet.Owing.{all_to_ends}
use Rattle.completeness_laws.proofs.Quiet.Along.{IsMoment, Along, along_here, along_end, along_front, along_back}
use Rattle.completeness_laws.proofs.Quiet.Mild.{master_apart, mild_look, few_in_turn, IsMasters, masters_look, masters_turn}

module _ (sc : Scenario) (other : SlaveDesc) (ok : IsScenario sc) where
  abbrev W : Parties
  W = parties sc other

  -- ---- the places of the slaves
  abbrev pub AllSlaves : List Address → Type 0
  AllSlaves [] = Unit {0}
  AllSlaves (a ∷ places) = ((s : ℕ) × IsSlaveOf W s × (a ≡ W.slave s)) × AllSlaves places

  -- the places of these slaves
  abbrev places_from : List SlaveDesc → List Address
  places_from ds = places_of (map (λ (d : SlaveDesc). slave_rules_from (record { desc = d; micro = sc.micro })) ds)

  -- the places of the slaves of the scenario
  abbrev pub places : List Address
  places = places_of (rules_of_slaves sc)

  -- each of these places is that of a slave
  slaves_from : (ds : List SlaveDesc) → ((i : ℕ) (d : SlaveDesc) → slice_get ds i ≡ Some d → (s : ℕ) × IsSlaveOf W s × (d.address ≡ W.slave s)) → AllSlaves (places_from ds)
  slaves_from [] f = tt
  slaves_from (d ∷ ds) f = (f 0 d refl, slaves_from ds (λ i x e. f (suc i) x e))

  -- each of the places is that of a slave
  pub all_slaves : AllSlaves places
  all_slaves = slaves_from sc.slaves found
    where
      -- what goes to an end goes to the master or to one of the slaves
      found : (i : ℕ) (d : SlaveDesc) → slice_get sc.slaves i ≡ Some d → (s : ℕ) × IsSlaveOf W s × (d.address ≡ W.slave s)
      found i d e =
          let lt = slice_get_within sc.slaves i d e in
          let is : IsSlaveOf W (i + 1) = (omega arith, omega (arith, lt)) in
          let m : i + 1 - 1 ≡ i = omega arith in
          let same : Some d ≡ Some (slave_numbered sc other (i + 1)) = sym e ∙ ap (slice_get sc.slaves) (sym m) ∙ (has_parties sc other ok message_in).desc (i + 1) is in
          let z : d ≡ slave_numbered sc other (i + 1) = cc in
          (i + 1, is, ap (λ (x : SlaveDesc). x.address) z)

  -- the place of each of these slaves is one of them
  place_among : (ds : List SlaveDesc) (i : ℕ) (d : SlaveDesc) → slice_get ds i ≡ Some d → Among d.address (places_from ds)
  place_among [] i d e = absurd cc
  place_among (x ∷ ds) zero d e = let z : x ≡ d = cc in inl (ap (λ (y : SlaveDesc). y.address) (sym z))
  place_among (x ∷ ds) (suc i) d e = inr (place_among ds i d e)

  -- the place of each slave is one of them
  pub slave_among : (s : ℕ) → IsSlaveOf W s → Among (W.slave s) places
  slave_among s it = place_among sc.slaves (s - 1) (slave_numbered sc other s) ((has_parties sc other ok message_in).desc s it)

  -- they are as many as these slaves
  places_long : (ds : List SlaveDesc) → length (places_from ds) ≡ length ds
  places_long [] = refl
  places_long (d ∷ ds) = let h = places_long ds in omega (arith, h)

  -- they are as many as the slaves
  pub few_places : length places ≡ W.count
  few_places = places_long sc.slaves

  module _ (o : Opening) (quiet : IsQuietPlan o.plan) where
    abbrev M : List LogEntry → List LogEntry → Type 0
    M part log = Along sc other o quiet part log

    abbrev waits : Address → List LogEntry → ℕ
    waits a log = waits_for o quiet a log

    -- ---- the looks of the slaves
    pub record AreMild (n : ℕ) (part : List LogEntry) : Type 0 where
      pub to_master : sends_to W.master part ≤ n
      pub to_others : (b : Address) → same_address W.master b ≡ false → sends_to b part ≡ 0
      pub not_self : NoneToSelf part
      pub gots : got_count part ≤ 64 * n

    -- a look of one slave
    one_mild : (a : Address) → (s : ℕ) × IsSlaveOf W s × (a ≡ W.slave s) → (part log : List LogEntry) → IsLook a part → M part log → AreMild 1 part
    one_mild a m part log l h =
        let P : Address → Type 0 = λ x. IsLook x part in
        let g = got_look a part l in
        let k = mild_look sc other ok o quiet m.0 m.1 part log (subst P m.2 l) h in
        let few = (along_here sc other o quiet part log h).few m.0 m.1 in
        record { to_master = (let u = k.to_master in omega (arith, u, few)); to_others = k.to_others; not_self = k.not_self; gots = omega (arith, g) }

    -- the looks of all of them
    slaves_mild : (ends : List Address) → AllSlaves ends → (part log : List LogEntry) → EachEnd IsLook ends part → M part log → AreMild (length ends) part
    slaves_mild [] all part log l h =
        let P : List LogEntry → Type 0 = AreMild 0 in
        subst P (sym l) (record { to_master = omega arith; to_others = λ b z. refl; not_self = tt; gots = omega arith })
    slaves_mild (a ∷ ends) all part log l h =
        let P : List LogEntry → Type 0 = AreMild (length (a ∷ ends)) in
        let Q : List LogEntry → Type 0 = λ z. M z log in
        let k = subst Q l.2 h in
        let x = one_mild a all.0 l.0 log l.3 (along_front sc other o quiet l.0 l.1 log k) in
        let y = slaves_mild ends all.1 l.1 (onto l.0 log) l.4 (along_back sc other o quiet l.0 l.1 log k) in
        subst P (sym l.2) (record {
          to_master = (let j = sends_join W.master l.0 l.1 in let u = x.to_master in let v = y.to_master in omega (arith, j, u, v));
          to_others = λ b z. (let j = sends_join b l.0 l.1 in let u = x.to_others b z in let v = y.to_others b z in omega (arith, j, u, v));
          not_self = not_self_join l.0 l.1 x.not_self y.not_self;
          gots = (let j = got_join l.0 l.1 in let u = x.gots in let v = y.gots in omega (arith, j, u, v));
        })

    -- each of them takes all that waits for its slave
    slaves_take : (ends : List Address) → AllSlaves ends → (part log : List LogEntry) (base : ℕ) → EachEnd IsLook ends part → M part log → Fresh o quiet base log → base ≤ sent_count log + 1 → sent_count (onto part log) ≤ base + 32767
        → ((s : ℕ) → IsSlaveOf W s → waits (W.slave s) log ≤ 64) → (s : ℕ) → IsSlaveOf W s → Among (W.slave s) ends → waits (W.slave s) (onto part log) ≡ 0
    slaves_take [] all part log base l h fresh low high few s it m = absurd m
    slaves_take (a ∷ ends) all part log base l h fresh low high few s it m =
        by m (λ n. (let e = ap (waits (W.slave s)) whole in let z = slaves_take ends all.1 l.1 L base l.4 after (fresh_onto o quiet base l.0 log low fresh) low_after high_after few_after s it n in omega (arith, z, e)))
      where
        Q : List LogEntry → Type 0
        Q z = M z log

        k : M (l.0 ++ l.1) log
        k = subst Q l.2 h

        L : List LogEntry
        L = onto l.0 log

        before : M l.0 log
        before = along_front sc other o quiet l.0 l.1 log k

        after : M l.1 L
        after = along_back sc other o quiet l.0 l.1 log k

        whole : onto part log ≡ onto l.1 L
        whole = ap (λ (p : List LogEntry). onto p log) l.2 ∙ onto_append l.0 l.1 log

        mine : AreMild 1 l.0
        mine = one_mild a all.0 l.0 log l.3 before

        rest : AreMild (length ends) l.1
        rest = slaves_mild ends all.1 l.1 L l.4 after

        given : G o quiet L
        given = (along_end sc other o quiet l.0 log before).gives

        given_after : G o quiet (onto l.1 L)
        given_after = (along_end sc other o quiet l.1 L after).gives

        low_after : base ≤ sent_count L + 1
        low_after = let up = sent_rises l.0 log in omega (arith, low, up)

        high_after : sent_count (onto l.1 L) ≤ base + 32767
        high_after = let e = ap sent_count whole in omega (arith, e, high)

        high_here : sent_count L ≤ base + 32767
        high_here = let r = sent_rises l.1 L in let e = high_after in omega (arith, r, e)

        few_after : (t : ℕ) → IsSlaveOf W t → waits (W.slave t) L ≤ 64
        few_after t is = let f = few t is in let w = waits_more o quiet (W.slave t) l.0 log given in let n = mine.to_others (W.slave t) (master_apart sc other ok o quiet t is) in omega (arith, f, w, n)

        by : (W.slave s ≡ a) ⊎ Among (W.slave s) ends → (Among (W.slave s) ends → waits (W.slave s) (onto part log) ≡ 0) → waits (W.slave s) (onto part log) ≡ 0
        by (inl e) g =
            let P : Address → Type 0 = λ x. IsLook x l.0 in
            let z = look_takes o quiet (W.slave s) l.0 log base (subst P (sym e) l.3) given mine.not_self (few s it) fresh low high_here in
            let n = rest.to_others (W.slave s) (master_apart sc other ok o quiet s it) in
            let w = waits_more o quiet (W.slave s) l.1 L given_after in
            let c = ap (waits (W.slave s)) whole in
            omega (arith, z, n, w, c)
        by (inr n) g = g n

    -- ---- the turns of the slaves
    pub record AreFew (n : ℕ) (part : List LogEntry) : Type 0 where
      pub to_master : sends_to W.master part ≤ 2 * n
      pub to_others : (b : Address) → same_address W.master b ≡ false → sends_to b part ≤ n
      pub gots : got_count part ≡ 0

    -- their turns
    slaves_few : (ends : List Address) → AllSlaves ends → (part log : List LogEntry) → EachEnd IsTurn ends part → M part log → AreFew (length ends) part
    slaves_few [] all part log l h =
        let P : List LogEntry → Type 0 = AreFew 0 in
        subst P (sym l) (record { to_master = omega arith; to_others = λ b z. omega arith; gots = refl })
    slaves_few (a ∷ ends) all part log l h =
        let P : List LogEntry → Type 0 = AreFew (length (a ∷ ends)) in
        let Q : List LogEntry → Type 0 = λ z. M z log in
        let R : Address → Type 0 = λ x. IsTurn x l.0 in
        let m = all.0 in
        let k = subst Q l.2 h in
        let x = few_in_turn sc other ok o quiet m.0 m.1 l.0 log (subst R m.2 l.3) (along_front sc other o quiet l.0 l.1 log k) in
        let g = got_turn a l.0 l.3 in
        let y = slaves_few ends all.1 l.1 (onto l.0 log) l.4 (along_back sc other o quiet l.0 l.1 log k) in
        subst P (sym l.2) (record {
          to_master = (let j = sends_join W.master l.0 l.1 in let u = x.to_master in let v = y.to_master in omega (arith, j, u, v));
          to_others = λ b z. (let j = sends_join b l.0 l.1 in let u = x.to_others b z in let v = y.to_others b z in omega (arith, j, u, v));
          gots = (let j = got_join l.0 l.1 in let v = y.gots in omega (arith, j, g, v));
        })

    -- ---- how many wait, and how many were sent
    found : (d : Arrival) → IsEnd W d.to → PassesOne (is_for o quiet W.master) (λ s. is_for o quiet (W.slave s)) W.count d
    found d (inl e) = inl (ap (λ (x : Address). same_address x W.master) e ∙ address_self W.master)
    found d (inr m) = inr (m.0, (m.1).0, (m.1).1, ap (λ (x : Address). same_address x (W.slave m.0)) m.2 ∙ address_self (W.slave m.0))

    -- so few wait in all
    all_waiting : (log : List LogEntry) → IsMoment sc other o quiet log → ((s : ℕ) → IsSlaveOf W s → waits (W.slave s) log ≤ 17) → length (pending o log) ≤ waits W.master log + 17 * W.count
    all_waiting log here few =
        let ends = each_weaker (λ (d : Arrival). IsEnd W d.to) (PassesOne (is_for o quiet W.master) (λ s. is_for o quiet (W.slave s)) W.count) found (pending o log) (all_to_ends sc other ok o quiet log here.behaves here.runs) in
        let c : length (pending o log) ≤ waits W.master log + total (λ s. waits (W.slave s) log) W.count = covered (is_for o quiet W.master) (λ s. is_for o quiet (W.slave s)) W.count (pending o log) ends in
        let t : total (λ s. waits (W.slave s) log) W.count ≤ 17 * W.count = total_few (λ s. waits (W.slave s) log) W.count (λ s low high. few s (low, high)) in
        omega (arith, c, t)

    -- what was sent in a part waits, or was taken in it
    sent_few : (part log : List LogEntry) → M part log → sent_count (onto part log) ≤ sent_count log + (length (pending o (onto part log)) + got_count part)
    sent_few part log h =
        let a = all_counted o quiet log (along_here sc other o quiet part log h).gives in
        let b = all_counted o quiet (onto part log) (along_end sc other o quiet part log h).gives in
        let c = got_onto part log in
        omega (arith, a, b, c)

    -- what is known before a round: all that waits was sent from this number on, and not much later; and little waits for each end
    pub record IsReady (base : ℕ) (log : List LogEntry) : Type 0 where
      pub fresh : Fresh o quiet base log
      pub low : base ≤ sent_count log + 1
      pub high : sent_count log ≤ base + 1424
      pub master : waits W.master log ≤ 48
      pub slaves : (s : ℕ) → IsSlaveOf W s → waits (W.slave s) log ≤ between o quiet W.master (W.slave s) log + 16

    -- there are 16 slaves at most
    few_slaves : W.count ≤ 16
    few_slaves = ok.few_slaves.1

    -- what waits for each end was sent from this number on, so all that waits was
    fresh_all : (new : ℕ) (w : List Arrival) → Each (λ (d : Arrival). IsEnd W d.to) w → Each (λ (d : Arrival). is_for o quiet W.master d ≡ true → new ≤ d.number) w
        → ((s : ℕ) → IsSlaveOf W s → Each (λ (d : Arrival). is_for o quiet (W.slave s) d ≡ true → new ≤ d.number) w) → Each (λ (d : Arrival). new ≤ d.number) w
    fresh_all new [] ends m f = tt
    fresh_all new (d ∷ w) ends m f = (by ends.0, fresh_all new w ends.1 m.1 (λ s it. (f s it).1))
      where
        by : IsEnd W d.to → new ≤ d.number
        by (inl e) = m.0 (ap (λ (x : Address). same_address x W.master) e ∙ address_self W.master)
        by (inr k) = (f k.0 k.1).0 (ap (λ (x : Address). same_address x (W.slave k.0)) k.2 ∙ address_self (W.slave k.0))

    -- ---- the looks of a round
    module _ (base : ℕ) (log : List LogEntry) (ready : IsReady base log) (part : List LogEntry) (l : IsLooks (Some (master_rules sc)) (rules_of_slaves sc) part) (h : M part log) where
      -- after the master's look
      abbrev A : List LogEntry
      A = onto l.first log

      -- after the looks of all
      abbrev B : List LogEntry
      B = onto l.rest A

      both : M (l.first ++ l.rest) log
      both = let Q : List LogEntry → Type 0 = λ z. M z log in subst Q l.form h

      along_first : M l.first log
      along_first = along_front sc other o quiet l.first l.rest log both

      along_rest : M l.rest A
      along_rest = along_back sc other o quiet l.first l.rest log both

      at_a : IsMoment sc other o quiet A
      at_a = along_here sc other o quiet l.rest A along_rest

      at_b : IsMoment sc other o quiet B
      at_b = along_end sc other o quiet l.rest A along_rest

      -- what the master sends
      of_master : IsMasters sc other ok o quiet l.first
      of_master = masters_look sc other ok o quiet l.first log l.own along_first

      -- what the slaves send
      of_slaves : AreMild (length places) l.rest
      of_slaves = slaves_mild places all_slaves l.rest A l.others along_rest

      -- little waits for a slave after the master's look
      slaves_a : (s : ℕ) → IsSlaveOf W s → waits (W.slave s) A ≤ between o quiet W.master (W.slave s) A + 16
      slaves_a s it =
          let x = beside_more o quiet W.master (W.slave s) 16 l.first log at_a.gives (ready.slaves s it) in
          let z = of_master.others (W.slave s) in
          omega (arith, x, z)

      -- and little after the looks of all
      slaves_b : (s : ℕ) → IsSlaveOf W s → waits (W.slave s) B ≤ 17
      slaves_b s it =
          let x = beside_more o quiet W.master (W.slave s) 16 l.rest A at_b.gives (slaves_a s it) in
          let f = others_few W.master (W.slave s) l.rest in
          let u = of_slaves.to_others (W.slave s) (master_apart sc other ok o quiet s it) in
          let v = at_b.few s it in
          omega (arith, x, f, u, v)

      -- no more waits for the master after its look
      master_a : waits W.master A ≤ 48
      master_a = let x = waits_more o quiet W.master l.first log at_a.gives in let z = of_master.to_master in let r = ready.master in omega (arith, x, z, r)

      -- and one more for each slave after the looks of all
      master_b : waits W.master B ≤ waits W.master A + W.count
      master_b = let x = waits_more o quiet W.master l.rest A at_b.gives in let z = of_slaves.to_master in let e = few_places in omega (arith, x, z, e)

      -- each look takes 64 at most
      gots_few : got_count part ≤ 64 + 64 * W.count
      gots_few =
          let e = ap got_count l.form in
          let j = got_join l.first l.rest in
          let x = got_look W.master l.first l.own in
          let y = of_slaves.gots in
          let n = few_places in
          omega (arith, e, j, x, y, n)

      whole : onto part log ≡ B
      whole = ap (λ (p : List LogEntry). onto p log) l.form ∙ onto_append l.first l.rest log

      -- no more than 1,424 are sent: the looks take 17 times 64 at most, and 336 wait after them at most
      sent_b : sent_count B ≤ sent_count log + 1424
      sent_b =
          let s = sent_few part log h in
          let e = ap sent_count whole in
          let p = ap (λ (z : List LogEntry). length (pending o z)) whole in
          let w = all_waiting B at_b slaves_b in
          let a = master_a in
          let b = master_b in
          let g = gots_few in
          let n = few_slaves in
          omega (arith, s, e, p, w, a, b, g, n)

      -- so all that waits is recent
      high_b : sent_count B ≤ base + 32767
      high_b = let s = sent_b in let r = ready.high in omega (arith, s, r)

      high_a : sent_count A ≤ base + 32767
      high_a = let s = high_b in let r = sent_rises l.rest A in omega (arith, s, r)

      low_a : base ≤ sent_count A + 1
      low_a = let s = ready.low in let r = sent_rises l.first log in omega (arith, s, r)

      -- the master's look takes all that waits for it
      master_taken : waits W.master A ≡ 0
      master_taken =
          let few : waits W.master log ≤ 64 = (let r = ready.master in omega (arith, r)) in
          look_takes o quiet W.master l.first log base l.own at_a.gives of_master.not_self few ready.fresh ready.low high_a

      -- little waits for a slave before its look
      few_a : (s : ℕ) → IsSlaveOf W s → waits (W.slave s) A ≤ 64
      few_a s it = let x = slaves_a s it in let v = at_a.few s it in omega (arith, x, v)

      -- the looks of the slaves take all that waits for them
      slaves_taken : (s : ℕ) → IsSlaveOf W s → waits (W.slave s) B ≡ 0
      slaves_taken s it = slaves_take places all_slaves l.rest A base l.others along_rest (fresh_onto o quiet base l.first log ready.low ready.fresh) low_a high_b few_a s it (slave_among s it)

      -- the number of the first message of the round
      abbrev new : ℕ
      new = sent_count log + 1

      new_a : new ≤ sent_count A + 1
      new_a = let r = sent_rises l.first log in omega (arith, r)

      -- so all that waits after the looks was sent in them
      fresh_b : Fresh o quiet new B
      fresh_b =
          fresh_all new (pending o B) (all_to_ends sc other ok o quiet B at_b.behaves at_b.runs)
          (fresh_at_onto o quiet W.master new l.rest A new_a (none_fresh o quiet W.master new (pending o A) master_taken))
          (λ s it. none_fresh o quiet (W.slave s) new (pending o B) (slaves_taken s it))

      -- after the looks all that waits was sent in them, none of it to a slave but by the master, and little of it to the master
      pub record IsLookedAt : Type 0 where
        pub fresh : Fresh o quiet (sent_count log + 1) (onto part log)
        pub master : waits W.master (onto part log) ≤ W.count
        pub slaves : (s : ℕ) → IsSlaveOf W s → waits (W.slave s) (onto part log) ≡ 0
        pub gots : got_count part ≤ 64 + 64 * W.count

      pub looked_at : IsLookedAt
      looked_at =
          let P : List LogEntry → Type 0 = Fresh o quiet (sent_count log + 1) in
          record {
            fresh = subst P (sym whole) fresh_b;
            master = (let e = ap (waits W.master) whole in let b = master_b in let a = master_taken in omega (arith, e, b, a));
            slaves = λ s it. ap (waits (W.slave s)) whole ∙ slaves_taken s it;
            gots = gots_few;
          }

    -- ---- the turns of a round
    module _ (log part : List LogEntry) (before : List LogEntry) (t : IsTurns (Some (master_rules sc)) (rules_of_slaves sc) before part) (h : M part log) where
      both_turns : M (t.first ++ t.rest) log
      both_turns = let Q : List LogEntry → Type 0 = λ z. M z log in subst Q t.form h

      turn_first : M t.first log
      turn_first = along_front sc other o quiet t.first t.rest log both_turns

      turn_rest : M t.rest (onto t.first log)
      turn_rest = along_back sc other o quiet t.first t.rest log both_turns

      -- what the master sends
      turn_of_master : IsMasters sc other ok o quiet t.first
      turn_of_master = masters_turn sc other ok o quiet t.first log t.own turn_first

      -- what the slaves send
      turns_of_slaves : AreFew (length places) t.rest
      turns_of_slaves = by (has_report (Some (master_rules sc)) (before ++ t.first)) t.others
        where
          by : (b : Bool) → MatchBool b (t.rest ≡ []) (EachEnd IsTurn (places_of (rules_of_slaves sc)) t.rest) → AreFew (length places) t.rest
          by true e = let P : List LogEntry → Type 0 = AreFew (length places) in subst P (sym e) (record { to_master = omega arith; to_others = λ b z. omega arith; gots = refl })
          by false e = slaves_few places all_slaves t.rest (onto t.first log) e turn_rest

      -- what the turns of a round send
      pub record AreTurns : Type 0 where
        pub to_master : sends_to W.master part ≤ 2 * W.count
        pub others : (s : ℕ) → IsSlaveOf W s → others_to W.master (W.slave s) part ≤ W.count
        pub gots : got_count part ≡ 0

      pub turns_sent : AreTurns
      turns_sent = record {
        to_master = (let e = ap (sends_to W.master) t.form in let j = sends_join W.master t.first t.rest in let u = turn_of_master.to_master in let v = turns_of_slaves.to_master in let n = few_places in omega (arith, e, j, u, v, n));
        others = λ s it. (
            let e = ap (others_to W.master (W.slave s)) t.form in
            let j = others_join W.master (W.slave s) t.first t.rest in
            let u = turn_of_master.others (W.slave s) in
            let f = others_few W.master (W.slave s) t.rest in
            let v = turns_of_slaves.to_others (W.slave s) (master_apart sc other ok o quiet s it) in
            let n = few_places in
            omega (arith, e, j, u, f, v, n)
            );
        gots = (let e = ap got_count t.form in let j = got_join t.first t.rest in let u = got_turn W.master t.first t.own in let v = turns_of_slaves.gots in omega (arith, e, j, u, v));
      }

    -- ---- a round
    pub record IsPassed (log looks part : List LogEntry) : Type 0 where
      pub looked : Fresh o quiet (sent_count log + 1) (onto looks log)
      pub ready : IsReady (sent_count log + 1) (onto part log)

    -- a round that begins so ends so
    pub passes : (base : ℕ) (log : List LogEntry) → IsReady base log → (before part : List LogEntry) (r : IsRound (Some (master_rules sc)) (rules_of_slaves sc) before part) → M part log → IsPassed log r.looks part
    passes base log ready before part r h = record {
      looked = l.fresh;
      ready = record {
        fresh = subst F (sym whole) (fresh_onto o quiet new r.turns L new_after l.fresh);
        low = (let u = sent_rises part log in omega (arith, u));
        high = (
            let s = sent_few part log h in
            let e = ap got_count r.form in
            let j = got_join r.looks r.turns in
            let p = ap (λ (z : List LogEntry). length (pending o z)) whole in
            let w = all_waiting Z at_end slaves_few_after in
            let m = master_after in
            let a = l.gots in
            let b = t.gots in
            let n = few_slaves in
            omega (arith, s, e, j, p, w, m, a, b, n)
            );
        master = (let m = master_after in let e = ap (waits W.master) whole in let n = few_slaves in omega (arith, m, e, n));
        slaves = λ s it. (let x = slaves_after s it in let e = ap (waits (W.slave s)) whole in let f = ap (between o quiet W.master (W.slave s)) whole in let n = few_slaves in omega (arith, x, e, f, n));
      };
    }
      where
        F : List LogEntry → Type 0
        F z = Fresh o quiet (sent_count log + 1) z

        Q : List LogEntry → Type 0
        Q z = M z log

        new : ℕ
        new = sent_count log + 1

        L : List LogEntry
        L = onto r.looks log

        Z : List LogEntry
        Z = onto r.turns L

        both' : M (r.looks ++ r.turns) log
        both' = subst Q r.form h

        along_looks : M r.looks log
        along_looks = along_front sc other o quiet r.looks r.turns log both'

        along_turns : M r.turns L
        along_turns = along_back sc other o quiet r.looks r.turns log both'

        at_end : IsMoment sc other o quiet Z
        at_end = along_end sc other o quiet r.turns L along_turns

        whole : onto part log ≡ Z
        whole = ap (λ (p : List LogEntry). onto p log) r.form ∙ onto_append r.looks r.turns log

        l : IsLookedAt base log ready r.looks r.looked along_looks
        l = looked_at base log ready r.looks r.looked along_looks

        t : AreTurns L r.turns (before ++ r.looks) r.turned along_turns
        t = turns_sent L r.turns (before ++ r.looks) r.turned along_turns

        new_after : sent_count log + 1 ≤ sent_count L + 1
        new_after = let u = sent_rises r.looks log in omega (arith, u)

        master_after : waits W.master Z ≤ 3 * W.count
        master_after = let x = waits_more o quiet W.master r.turns L at_end.gives in let m = l.master in let u = t.to_master in omega (arith, x, m, u)

        slaves_after : (s : ℕ) → IsSlaveOf W s → waits (W.slave s) Z ≤ between o quiet W.master (W.slave s) Z + W.count
        slaves_after s it =
            let z = l.slaves s it in
            let x = beside_more o quiet W.master (W.slave s) 0 r.turns L at_end.gives (omega (arith, z)) in
            let u = t.others s it in
            omega (arith, x, u)

        slaves_few_after : (s : ℕ) → IsSlaveOf W s → waits (W.slave s) Z ≤ 17
        slaves_few_after s it = let x = slaves_after s it in let v = at_end.few s it in let n = few_slaves in omega (arith, x, v, n)
