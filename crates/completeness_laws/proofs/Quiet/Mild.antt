-- What the ends of a run send in a look and in a turn. Logs have their newest entry first, parts their oldest.
use Rattle.std.proofs.Common.{◌≡◌, ℕ, zero, suc, ◌+◌, ◌<◌, ◌≤◌, ◌⊎◌, inl, inr, Bool, true, false, if◌then◌else◌, List, [], ◌∷◌, ◌++◌, refl, sym, ap, ◌∙◌, subst, arith}
use Rattle.std.specs.Prelude.{◌&&◌}
use Rattle.dcp_types.specs.declared.addresses.Address.{Address}
use Rattle.dcp_ends.specs.Logs.{same_address}
use Rattle.dcp_ends.specs.declared.entries.LogEntry.{LogEntry}
use Rattle.dcp_ends.specs.declared.entries.LogEntry.TheVariants.{Sent, Got, Idle, Turn}
use Rattle.slave_desc.specs.declared.descriptions.SlaveDesc.{SlaveDesc}
use Rattle.scenario.specs.declared.scenarios.Scenario.{Scenario}
use Rattle.scenario.specs.Sound.{IsScenario}
use Rattle.dcp_net.specs.declared.openings.Opening.{Opening}
use Rattle.rounds.specs.Rounds.{AllSent, IsGot, IsTurn, Gots, IsLook}
use Rattle.log_spec.specs.Log.{Parties, IsSlaveOf}
use Rattle.lockstep_laws.specs.Slaves.{Post}
use Rattle.master_spec.specs.Setup.{setup_from}
use Rattle.master_log_laws.specs.Index.Runs.{IsRun}
use Rattle.run_laws.specs.Laws.{parties}
use Rattle.run_laws.proofs.Headline.Behaving.{are_slaves}
use Rattle.completeness_laws.specs.Quiet.{IsQuietPlan, NoneToSelf, posts_to}
use Rattle.completeness_laws.proofs.Quiet.Lists.{bit, tally}
use Rattle.completeness_laws.proofs.Quiet.Nets.{pending_idle}
use Rattle.completeness_laws.proofs.Quiet.Fronts.{onto, onto_append, sends_to, address_self, address_is}
use Rattle.completeness_laws.proofs.Quiet.Counts.{sends_join, others_to, others_join, others_own, none_to_self, not_self_join, is_between, between, between_got, between_sents}
use Rattle.completeness_laws.proofs.Quiet.Little.{little}
use Rattle.completeness_laws.proofs.Quiet.Owing.{owes, sends_front, got_owes, OwesMaster, master_sends}
use Rattle.completeness_laws.proofs.Quiet.Along.{IsMoment, Along, along_here, along_end, along_front, along_back}

-- two addresses that differ are told apart
not_same : (a b : Address) → (a ≡ b → ⊥) → same_address a b ≡ false
not_same a b h = by (same_address a b) refl
  where
    by : (t : Bool) → same_address a b ≡ t → same_address a b ≡ false
    by true e = absurd (h (address_is a b e))
    by false e = e

-- a look has 64 takes, or fewer
at_most : (n : ℕ) → n ≤ 64 → (n ≡ 64) ⊎ (n < 64)
at_most n h = grind arith

module _ (sc : Scenario) (other : SlaveDesc) (ok : IsScenario sc) (o : Opening) (quiet : IsQuietPlan o.plan) where
  abbrev W : Parties
  W = parties sc other

  abbrev M : List LogEntry → List LogEntry → Type 0
  M part log = Along sc other o quiet part log

  -- a slave is not at the master's address
  pub slave_apart : (s : ℕ) → IsSlaveOf W s → same_address (W.slave s) W.master ≡ false
  slave_apart s it = not_same (W.slave s) W.master ((are_slaves sc other ok).apart.master s it)

  -- the master is not at a slave's address
  pub master_apart : (s : ℕ) → IsSlaveOf W s → same_address W.master (W.slave s) ≡ false
  master_apart s it = not_same W.master (W.slave s) (λ e. (are_slaves sc other ok).apart.master s it (sym e))

  -- ---- a slave
  module _ (s : ℕ) (it : IsSlaveOf (parties sc other) s) where
    -- how many requests wait for it
    abbrev pub asked : List LogEntry → ℕ
    asked log = between o quiet W.master (W.slave s) log

    -- in this part of a look it sends to the master alone, at most one message for each request that it takes
    pub record IsMild (part log : List LogEntry) : Type 0 where
      pub to_master : sends_to W.master part + asked (onto part log) ≤ asked log
      pub to_others : (b : Address) → same_address W.master b ≡ false → sends_to b part ≡ 0
      pub not_self : NoneToSelf part

    -- an empty part is so
    mild_none : (log : List LogEntry) → IsMild [] log
    mild_none log = record { to_master = omega arith; to_others = λ b h. refl; not_self = tt }

    -- two parts that are so are so together
    mild_join : (p q log : List LogEntry) → IsMild p log → IsMild q (onto p log) → IsMild (p ++ q) log
    mild_join p q log x y = record {
      to_master = (
          let k = sends_join W.master p q in
          let e = ap asked (onto_append p q log) in
          let u = x.to_master in
          let v = y.to_master in
          omega (arith, k, e, u, v)
          );
      to_others = λ b h. (let k = sends_join b p q in let u = x.to_others b h in let v = y.to_others b h in omega (arith, k, u, v));
      not_self = not_self_join p q x.not_self y.not_self;
    }

    -- a take that gives nothing is so
    mild_idle : (log : List LogEntry) → IsMild (Idle (W.slave s) ∷ []) log
    mild_idle log = record { to_master = (let k = ap (tally (is_between o quiet W.master (W.slave s))) (pending_idle o (W.slave s) log) in omega (arith, k)); to_others = λ b h. refl; not_self = tt }

    -- nothing owed goes nowhere
    posts_none : (a : Address) (ps : List Post) → ps ≡ [] → posts_to a ps ≡ 0
    posts_none a ps e = ap (posts_to a) e

    -- one message to the master goes to it alone
    posts_one : (a : Address) (bytes : List ℕ) (ps : List Post) → ps ≡ record { to = W.master; bytes = bytes } ∷ [] → posts_to a ps ≡ bit (same_address W.master a)
    posts_one a bytes ps e = ap (posts_to a) e ∙ by (same_address W.master a)
      where
        by : (b : Bool) → (if b then 0 + 1 else 0) ≡ bit b
        by true = omega arith
        by false = omega arith

    -- a take with its sends is so
    got_mild : (from : Address) (bytes : List ℕ) (sents log : List LogEntry) → AllSent (W.slave s) sents → M (Got (W.slave s) from bytes ∷ sents) log → IsMild (Got (W.slave s) from bytes ∷ sents) log
    got_mild from bytes sents log own h = record {
      to_master = (let k = by owed in omega (arith, k));
      to_others = λ b z. (let k = none b z owed in omega (arith, k));
      not_self = none_to_self (W.slave s) sents own (none (W.slave s) (master_apart s it) owed);
    }
      where
        L : List LogEntry
        L = Got (W.slave s) from bytes ∷ log

        here : IsMoment sc other o quiet L
        here = along_here sc other o quiet sents L h.1

        last : IsMoment sc other o quiet (onto sents L)
        last = along_end sc other o quiet sents L h.1

        owed : OwesMaster sc other ok s it from (owes sc other ok s it L)
        owed = got_owes sc other ok s it (W.slave s) from bytes log refl here.behaves here.runs

        front : (b : Address) → sends_to b sents ≤ posts_to b (owes sc other ok s it L)
        front b = sends_front sc other ok s it b sents L own last.behaves

        none : (b : Address) → same_address W.master b ≡ false → OwesMaster sc other ok s it from (owes sc other ok s it L) → sends_to b sents ≡ 0
        none b z (inl e) = let f = front b in let k = posts_none b (owes sc other ok s it L) e in omega (arith, f, k)
        none b z (inr e) = let f = front b in let k = posts_one b (e.1).0 (owes sc other ok s it L) (e.1).1 in let n = ap bit z in omega (arith, f, k, n)

        taken : asked log ≡ asked L + bit (same_address from W.master && same_address (W.slave s) (W.slave s))
        taken = between_got o quiet W.master (W.slave s) (W.slave s) from bytes log here.gives

        later : asked (onto sents L) ≡ asked L
        later = between_sents o quiet W.master (W.slave s) (W.slave s) sents L (slave_apart s it) own

        by : OwesMaster sc other ok s it from (owes sc other ok s it L) → sends_to W.master sents + asked (onto sents L) ≤ asked log
        by (inl e) = let f = front W.master in let k = posts_none W.master (owes sc other ok s it L) e in omega (arith, f, k, taken, later)
        by (inr e) =
            let f = front W.master in
            let k = posts_one W.master (e.1).0 (owes sc other ok s it L) (e.1).1 in
            let own_one : bit (same_address W.master W.master) ≡ 1 = ap bit (address_self W.master) in
            let one : bit (same_address from W.master && same_address (W.slave s) (W.slave s)) ≡ 1 =
            ap (λ (x : Address). bit (same_address x W.master && same_address (W.slave s) (W.slave s))) e.0
            ∙ ap (λ (c : Bool). bit (c && same_address (W.slave s) (W.slave s))) (address_self W.master) ∙ ap bit (address_self (W.slave s)) in
            omega (arith, f, k, own_one, one, taken, later)

    -- so is each take
    mild_got : (part log : List LogEntry) → IsGot (W.slave s) part → M part log → IsMild part log
    mild_got part log g h =
        let P : List LogEntry → Type 0 = λ z. IsMild z log in
        let Q : List LogEntry → Type 0 = λ z. M z log in
        subst P (sym g.form) (got_mild g.from g.bytes g.sents log g.own (subst Q g.form h))

    -- so are takes
    mild_gots : (n : ℕ) (part log : List LogEntry) → Gots (W.slave s) n part → M part log → IsMild part log
    mild_gots zero part log g h = let P : List LogEntry → Type 0 = λ z. IsMild z log in subst P (sym g) (mild_none log)
    mild_gots (suc n) part log g h =
        let P : List LogEntry → Type 0 = λ z. IsMild z log in
        let Q : List LogEntry → Type 0 = λ z. M z log in
        let k = subst Q g.2 h in
        subst P (sym g.2)
        (mild_join g.0 g.1 log (mild_gots n g.0 log g.3 (along_front sc other o quiet g.0 g.1 log k)) (mild_got g.1 (onto g.0 log) g.4 (along_back sc other o quiet g.0 g.1 log k)))

    -- so is a look
    pub mild_look : (part log : List LogEntry) → IsLook (W.slave s) part → M part log → IsMild part log
    mild_look part log l h = by (at_most l.count l.most)
      where
        P : List LogEntry → Type 0
        P z = IsMild z log

        Q : List LogEntry → Type 0
        Q z = M z log

        by : (l.count ≡ 64) ⊎ (l.count < 64) → IsMild part log
        by (inl e) = subst P (sym (l.full e)) (mild_gots l.count l.gots log l.form (subst Q (l.full e) h))
        by (inr e) =
            let k = subst Q (l.idle e) h in
            subst P (sym (l.idle e))
            (mild_join l.gots (Idle (W.slave s) ∷ []) log (mild_gots l.count l.gots log l.form (along_front sc other o quiet l.gots (Idle (W.slave s) ∷ []) log k)) (mild_idle (onto l.gots log)))

    -- in a turn it sends two messages to the master at most, and one to each other end
    pub record IsFewInTurn (part : List LogEntry) : Type 0 where
      pub to_master : sends_to W.master part ≤ 2
      pub to_others : (b : Address) → same_address W.master b ≡ false → sends_to b part ≤ 1

    -- a turn with its sends is so
    turn_sends : (sents log : List LogEntry) → AllSent (W.slave s) sents → M (Turn (W.slave s) ∷ sents) log → IsFewInTurn (Turn (W.slave s) ∷ sents)
    turn_sends sents log own h =
        let L = Turn (W.slave s) ∷ log in
        let here = along_here sc other o quiet sents L h.1 in
        let last = along_end sc other o quiet sents L h.1 in
        let owed = little sc other ok s it (Turn (W.slave s)) log here.behaves here.runs refl in
        record {
          to_master = (let f = sends_front sc other ok s it W.master sents L own last.behaves in let k = (owed.1).0 in omega (arith, f, k));
          to_others = λ b z. (let f = sends_front sc other ok s it b sents L own last.behaves in let k = (owed.1).1 b z in omega (arith, f, k));
        }

    -- so is each turn
    pub few_in_turn : (part log : List LogEntry) → IsTurn (W.slave s) part → M part log → IsFewInTurn part
    few_in_turn part log t h =
        let Q : List LogEntry → Type 0 = λ z. M z log in
        subst IsFewInTurn (sym t.form) (turn_sends t.sents log t.own (subst Q t.form h))

  -- ---- the master: it sends nothing to itself, and no other end sends
  pub record IsMasters (part : List LogEntry) : Type 0 where
    pub to_master : sends_to W.master part ≡ 0
    pub others : (b : Address) → others_to W.master b part ≡ 0
    pub not_self : NoneToSelf part

  -- an empty part is so
  masters_none : IsMasters []
  masters_none = record { to_master = refl; others = λ b. refl; not_self = tt }

  -- two parts that are so are so together
  masters_join : (p q : List LogEntry) → IsMasters p → IsMasters q → IsMasters (p ++ q)
  masters_join p q x y = record {
    to_master = (let k = sends_join W.master p q in let u = x.to_master in let v = y.to_master in omega (arith, k, u, v));
    others = λ b. (let k = others_join W.master b p q in let u = x.others b in let v = y.others b in omega (arith, k, u, v));
    not_self = not_self_join p q x.not_self y.not_self;
  }

  -- a take that gives nothing is so
  masters_idle : IsMasters (Idle W.master ∷ [])
  masters_idle = record { to_master = refl; others = λ b. refl; not_self = tt }

  -- what the master sends goes to slaves
  none_to_master : (sents log : List LogEntry) → AllSent W.master sents → M sents log → sends_to W.master sents ≡ 0
  none_to_master [] log own h = refl
  none_to_master (Sent from to bytes ∷ sents) log own h =
      let here = along_here sc other o quiet sents (Sent from to bytes ∷ log) h.1 in
      let P : Address → Type 0 = λ x. IsRun (setup_from sc) (Sent x to bytes ∷ log) in
      let m = master_sends sc other ok to bytes log (subst P own.0 here.runs) in
      let e : bit (same_address to W.master) ≡ 0 = ap (λ (x : Address). bit (same_address x W.master)) m.2 ∙ ap bit (slave_apart m.0 m.1) in
      let r = none_to_master sents (Sent from to bytes ∷ log) own.1 h.1 in
      omega (arith, e, r)
  none_to_master (Got at from bytes ∷ sents) log own h = absurd own
  none_to_master (Idle at ∷ sents) log own h = absurd own
  none_to_master (Turn at ∷ sents) log own h = absurd own

  -- so its sends are so
  masters_sents : (sents log : List LogEntry) → AllSent W.master sents → M sents log → IsMasters sents
  masters_sents sents log own h =
      let z = none_to_master sents log own h in
      record { to_master = z; others = λ b. others_own W.master b sents own; not_self = none_to_self W.master sents own z }

  -- so is each take
  masters_got : (part log : List LogEntry) → IsGot W.master part → M part log → IsMasters part
  masters_got part log g h =
      let Q : List LogEntry → Type 0 = λ z. M z log in
      let k = subst Q g.form h in
      let r = masters_sents g.sents (Got W.master g.from g.bytes ∷ log) g.own k.1 in
      subst IsMasters (sym g.form) (record { to_master = (let z = r.to_master in omega (arith, z)); others = λ b. (let z = r.others b in omega (arith, z)); not_self = r.not_self })

  -- so are takes
  masters_gots : (n : ℕ) (part log : List LogEntry) → Gots W.master n part → M part log → IsMasters part
  masters_gots zero part log g h = subst IsMasters (sym g) masters_none
  masters_gots (suc n) part log g h =
      let Q : List LogEntry → Type 0 = λ z. M z log in
      let k = subst Q g.2 h in
      subst IsMasters (sym g.2)
      (masters_join g.0 g.1 (masters_gots n g.0 log g.3 (along_front sc other o quiet g.0 g.1 log k)) (masters_got g.1 (onto g.0 log) g.4 (along_back sc other o quiet g.0 g.1 log k)))

  -- so is a look
  pub masters_look : (part log : List LogEntry) → IsLook W.master part → M part log → IsMasters part
  masters_look part log l h = by (at_most l.count l.most)
    where
      Q : List LogEntry → Type 0
      Q z = M z log

      by : (l.count ≡ 64) ⊎ (l.count < 64) → IsMasters part
      by (inl e) = subst IsMasters (sym (l.full e)) (masters_gots l.count l.gots log l.form (subst Q (l.full e) h))
      by (inr e) =
          let k = subst Q (l.idle e) h in
          subst IsMasters (sym (l.idle e)) (masters_join l.gots (Idle W.master ∷ []) (masters_gots l.count l.gots log l.form (along_front sc other o quiet l.gots (Idle W.master ∷ []) log k)) masters_idle)

  -- so is a turn
  pub masters_turn : (part log : List LogEntry) → IsTurn W.master part → M part log → IsMasters part
  masters_turn part log t h =
      let Q : List LogEntry → Type 0 = λ z. M z log in
      let k = subst Q t.form h in
      let r = masters_sents t.sents (Turn W.master ∷ log) t.own k.1 in
      subst IsMasters (sym t.form) (record { to_master = (let z = r.to_master in omega (arith, z)); others = λ b. (let z = r.others b in omega (arith, z)); not_self = r.not_self })
