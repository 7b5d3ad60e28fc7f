-- What is known of each conversation at every moment.
use Rattle.std.proofs.Common.{◌≡◌, ℕ, Bool, true, false, if◌then◌else◌, ◌⊎◌, inl, inr, Option, Some, None, List, [], ◌∷◌, ◌++◌, refl, sym, ap, ◌∙◌, subst, arith}
use Rattle.std.specs.Prelude.{◌&&◌}
use Rattle.std.specs.List.{cons_option}
use Rattle.std.proofs.lemmas.Bool.{cond-true}
use Rattle.dcp_types.specs.declared.addresses.Address.{Address}
use Rattle.log_spec.specs.Messages.{Note, Role, Request, Answer}
use Rattle.log_spec.specs.Channel.{IsRegularChannel}
use Rattle.dcp_ends.specs.declared.entries.LogEntry.{LogEntry}
use Rattle.dcp_ends.specs.declared.entries.LogEntry.TheVariants.{Sent}
use Rattle.log_spec.specs.Log.{Parties, IsSlaveOf, same, role_heard, Requests, Answers, sent_in, sends_in, requests_sent}
use Rattle.log_spec.specs.Moves.{Move, Asks, Comes, Tells, Hears, Brings, Turns, Rests, Other, sent_move, move, decided_exchanges}
use Rattle.log_spec.proofs.Moves.{same_is, same_self, asked, Came, MoveMay, honest_move, requests_by_move, answers_by_move, comes_in}
use Rattle.lockstep_laws.specs.Slaves.{Post, Desk, IsNoRequest, AskNothing, IsFirstPost, SlaveMay}
use Rattle.lockstep_laws.specs.Master.{MasterMay}
use Rattle.lockstep_laws.specs.Cast.{ConversingSlaves}
use Rattle.lockstep_laws.specs.Runs.{AreSlaves, Behaves}
use Rattle.lockstep_laws.proofs.Talk.{Known, Arrives, AskMay, step}

module _ (w : Parties) (x : ConversingSlaves) (ok : AreSlaves w x) where
  pub earlier : (e : LogEntry) (log : List LogEntry) → Behaves w x (e ∷ log) → Behaves w x log
  earlier e log b = record { honest = b.honest.1; hosted = b.hosted.1; master = b.master.1; asks = b.asks.1; slaves = λ s is. (b.slaves s is).1 }

  pub drop_later : (later log : List LogEntry) → Behaves w x (later ++ log) → Behaves w x log
  drop_later [] log b = b
  drop_later (e ∷ later) log b = drop_later later log (earlier e (later ++ log) b)

  -- ---- only the master asks
  no_first : (owed : List Post) (to : Address) (bytes : List ℕ) (receiver : ℕ) (n : Note) → IsFirstPost owed to bytes → AskNothing w owed → role_heard w bytes ≡ Request receiver n → ⊥
  no_first [] to bytes receiver n f no' e = f
  no_first (p ∷ ps) to bytes receiver n f no' e =
      let P : Role → Type 0 = IsNoRequest in
      subst P (ap (role_heard w) f.1 ∙ e) no'.0

  slave_tells : (t : ℕ) → IsSlaveOf w t → (to : Address) (bytes : List ℕ) (receiver : ℕ) (n : Note) → sent_move w t (w.slave t) to bytes (Request receiver n) ≡ Tells to bytes
  slave_tells t is to bytes receiver n = by (same (w.slave t) w.master) refl (same to (w.slave t)) (same (w.slave t) (w.slave t)) (same_self (w.slave t))
    where
      by : (b : Bool) → same (w.slave t) w.master ≡ b → (c d : Bool) → d ≡ true → (if b && c then Asks n else (if d then Tells to bytes else Other)) ≡ Tells to bytes
      by true e c d f = absurd (ok.apart.master t is (same_is (w.slave t) w.master e))
      by false e c d f = cond-true d (Tells to bytes) Other f

  pub only_master_asks : (later log : List LogEntry) (from to : Address) (bytes : List ℕ) (receiver : ℕ) (n : Note) → Behaves w x (later ++ Sent from to bytes ∷ log) → role_heard w bytes ≡ Request receiver n → from ≡ w.master
  only_master_asks later log from to bytes receiver n b e =
      let h = drop_later later (Sent from to bytes ∷ log) b in
      by h.hosted.0 h
    where
      by : (from ≡ w.master) ⊎ ((t : ℕ) × IsSlaveOf w t × (from ≡ w.slave t)) → Behaves w x (Sent from to bytes ∷ log) → from ≡ w.master
      by (inl is) h = is
      by (inr t) h =
          let P : Role → Address → Type 0 = λ k a. SlaveMay (sent_move w t.0 a to bytes k) (x.desk t.0 log).owed in
          let Q : Move → Type 0 = λ mv. SlaveMay mv (x.desk t.0 log).owed in
          let may = subst (λ a. P (Request receiver n) a) t.2 (subst (λ k. P k from) e (h.slaves t.0 t.1).0) in
          absurd (no_first (x.desk t.0 log).owed to bytes receiver n (subst Q (slave_tells t.0 t.1 to bytes receiver n) may) ((ok.each t.0 t.1).asks log) e)

  -- ---- one slave
  module _ (s : ℕ) (is : IsSlaveOf w s) where
    from_master : (log : List LogEntry) (from : Address) (receiver : ℕ) (n : Note) → Behaves w x log → Came w log (w.slave s) from (Request receiver n) → Came w log (w.slave s) w.master (Request receiver n)
    from_master log from receiver n b c =
        let r = c.repeated in
        let Q : List LogEntry → Type 0 = Behaves w x in
        let e = only_master_asks r.later r.earlier from (w.slave s) c.bytes receiver n (subst Q r.is b) c.read in
        let P : Address → Type 0 = λ a. Came w log (w.slave s) a (Request receiver n) in
        subst P e c

    arrives : (mv : Move) (log : List LogEntry) → Behaves w x log → MoveMay w s log mv → IsRegularChannel (sends_in w (Requests s) log) → IsRegularChannel (sends_in w (Answers s) log) → Arrives mv (sends_in w (Requests s) log) (sends_in w (Answers s) log)
    arrives (Asks n) log b h p q = tt
    arrives (Comes from receiver n) log b h p q = comes_in w (Requests s) log (w.slave s) w.master (Request receiver n) n (here (same w.master w.master) (same (w.slave s) (w.slave s)) (same_self w.master) (same_self (w.slave s))) p (from_master log from receiver n b h)
      where
        here : (b c : Bool) → b ≡ true → c ≡ true → (if b && c then Some n else None) ≡ Some n
        here b c e f = grind arith
    arrives (Tells to bytes) log b h p q = tt
    arrives (Hears a) log b h p q = comes_in w (Answers s) log w.master (w.slave s) (Answer s a) a (cond-true (same (w.slave s) (w.slave s)) (Some a) None (same_self (w.slave s))) q h
    arrives (Brings from id n) log b h p q = tt
    arrives Turns log b h p q = tt
    arrives Rests log b h p q = tt
    arrives Other log b h p q = tt

    may_ask : (mv : Move) (log : List LogEntry) → MasterMay w x s mv log → AskMay (x.accepts s) mv (requests_sent w s log) (decided_exchanges w s log)
    may_ask (Asks n) log (inl rep) = inl rep
    may_ask (Asks n) log (inr new) = inr (record { closed = new.closed; number = new.number; first = new.first })
    may_ask (Comes from receiver n) log h = tt
    may_ask (Tells to bytes) log h = tt
    may_ask (Hears a) log h = tt
    may_ask (Brings from id n) log h = tt
    may_ask Turns log h = tt
    may_ask Rests log h = tt
    may_ask Other log h = tt

    abbrev pub KnownAt : List LogEntry → Type 0
    KnownAt log = Known w (x.accepts s) (sends_in w (Requests s) log) (sends_in w (Answers s) log) (decided_exchanges w s log) (x.desk s log)

    -- it is known at every moment
    pub known : (log : List LogEntry) → Behaves w x log → KnownAt log
    known [] b =
        let P : Desk → Type 0 = λ d. Known w (x.accepts s) [] [] [] d in
        subst P (sym ((ok.each s is).begins)) (record { requests = tt; answers = tt; talk = record { taken = inl refl; numbers = tt; owes = refl; decided = inl refl; asked = omega arith; heard = omega arith; first = λ r at. absurd cc } })
    known (e ∷ log) b =
        let before = earlier e log b in
        let k = known log before in
        let mv = move w s e in
        let may = (b.slaves s is).0 in
        let a = arrives mv log before (honest_move w s log e b.honest.0) k.requests k.answers in
        let on = step w (x.accepts s) mv (sends_in w (Requests s) log) (sends_in w (Answers s) log) (decided_exchanges w s log) (x.desk s log) (x.desk s (e ∷ log)) a (may_ask mv log (b.master.0 s is)) may ((ok.each s is).goes e log may) k in
        let P : Option Note → Option Note → Type 0 = λ n m. Known w (x.accepts s) (cons_option n (sends_in w (Requests s) log)) (cons_option m (sends_in w (Answers s) log)) (decided_exchanges w s (e ∷ log)) (x.desk s (e ∷ log)) in
        subst (λ n. P n (sent_in w (Answers s) e)) (sym (requests_by_move w s e)) (subst (λ m. P (asked mv) m) (sym (answers_by_move w s e)) on)
