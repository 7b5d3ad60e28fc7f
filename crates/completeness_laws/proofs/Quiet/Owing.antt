-- What the ends of a run send: a slave what it owes, the master requests to slaves. So all that waits goes to an end of the run.
use Rattle.std.proofs.Common.{◌≡◌, ℕ, ◌+◌, ◌≤◌, ◌⊎◌, inl, inr, Bool, true, false, if◌then◌else◌, List, [], ◌∷◌, map, refl, sym, ap, ◌∙◌, subst, arith}
use Rattle.std.specs.Prelude.{◌&&◌}
use Rattle.std.proofs.lemmas.Bool.{cond-true}
use Rattle.dcp_types.specs.declared.addresses.Address.{Address}
use Rattle.dcp_ends.specs.Logs.{same_address}
use Rattle.dcp_ends.specs.Events.{Send}
use Rattle.dcp_ends.specs.declared.entries.LogEntry.{LogEntry}
use Rattle.dcp_ends.specs.declared.entries.LogEntry.TheVariants.{Sent, Got, Idle, Turn}
use Rattle.slave_desc.specs.declared.descriptions.SlaveDesc.{SlaveDesc}
use Rattle.scenario.specs.declared.scenarios.Scenario.{Scenario}
use Rattle.scenario.specs.Sound.{IsScenario}
use Rattle.dcp_net.specs.declared.openings.Opening.{Opening}
use Rattle.net_world.specs.declared.deliveries.Arrival.{Arrival}
use Rattle.rounds.specs.Rounds.{AllSent}
use Rattle.log_spec.specs.Messages.{Role, Request, Answer, Value, Else}
use Rattle.log_spec.specs.Log.{Parties, IsSlaveOf, IsEnd, same, role_heard}
use Rattle.log_spec.specs.Honest.{IsRepeatedNewest}
use Rattle.log_spec.specs.Moves.{Move, Asks, Comes, Tells, Hears, Brings, Turns, Rests, Other, sent_move, move}
use Rattle.log_spec.proofs.Moves.{same_is, same_self}
use Rattle.lockstep_laws.specs.Slaves.{Post, IsFirstPost, SlaveMay, tail}
use Rattle.lockstep_laws.specs.Cast.{ConversingSlaves}
use Rattle.lockstep_laws.specs.Runs.{Behaves}
use Rattle.lockstep_laws.proofs.Conversation.{earlier}
use Rattle.slave_spec.specs.Heard as spec
use Rattle.slave_spec.specs.Transport as transport
use Rattle.slave_spec.specs.Plants.{Plant}
use Rattle.slave_spec.specs.declared.words.SlaveSetup.{SlaveSetup}
use Rattle.slave_spec.specs.Slaves.{machine}
use Rattle.slave_laws.specs.Talk.Desks.{post, Both, got, ticked, sent_next, at, Agree}
use Rattle.slave_laws.specs.Data.Whole.{slaves_asked}
use Rattle.master_spec.specs.declared.setups.Setup.{Setup}
use Rattle.master_spec.specs.Setup.{setup_from}
use Rattle.master_log_laws.specs.Index.Runs.{owed, IsFirstSend, where_it_is, IsRun}
use Rattle.master_log_laws.proofs.Index.Mine.{same_self as self_same}
use Rattle.master_laws.proofs.Meets.Only.{all_owed}
use Rattle.run_laws.specs.Laws.{parties, slave_setup_of}
use Rattle.run_laws.proofs.Runs.{are_parties}
use Rattle.run_laws.proofs.Headline.Behaving.{are_slaves}
use Rattle.completeness_laws.proofs.Delivery.Sessions.{comes_of_master, reads_back}
use Rattle.completeness_laws.specs.Quiet.{IsQuietPlan, AllToEnds, posts_to}
use Rattle.completeness_laws.proofs.Quiet.Lists.{bit, Each}
use Rattle.completeness_laws.proofs.Quiet.Nets.{pending}
use Rattle.completeness_laws.proofs.Quiet.Fronts.{onto, sends_to, each_entry}
use Rattle.completeness_laws.proofs.Quiet.Sends.{posts_more}
use Rattle.completeness_laws.proofs.Quiet.Little.{little}

-- ---- posts
-- the first of them goes where it is sent
first_counts : (a to : Address) (bytes : List ℕ) (ps : List Post) → IsFirstPost ps to bytes → posts_to a ps ≡ bit (same_address to a) + posts_to a (tail ps)
first_counts a to bytes [] f = absurd f
first_counts a to bytes (p ∷ ps) f = posts_more a p ps ∙ ap (λ (x : Address). bit (same_address x a) + posts_to a ps) f.0

-- the first of them goes to an end, where all do
first_end : (w : Parties) (to : Address) (bytes : List ℕ) (ps : List Post) → IsFirstPost ps to bytes → AllToEnds w ps → IsEnd w to
first_end w to bytes [] f a = absurd f
first_end w to bytes (p ∷ ps) f a = let P : Address → Type 0 = IsEnd w in subst P f.0 a.0

-- so do the others
tail_ends : (w : Parties) (ps : List Post) → AllToEnds w ps → AllToEnds w (tail ps)
tail_ends w [] a = tt
tail_ends w (p ∷ ps) a = a.1

module _ (sc : Scenario) (other : SlaveDesc) (ok : IsScenario sc) where
  abbrev W : Parties
  W = parties sc other

  abbrev X : ConversingSlaves
  X = slaves_asked sc other

  abbrev S : Setup
  S = setup_from sc

  -- what behaves in a log with a part behaves in the log
  pub behaves_onto : (part log : List LogEntry) → Behaves W X (onto part log) → Behaves W X log
  behaves_onto [] log b = b
  behaves_onto (e ∷ part) log b = earlier W X (are_slaves sc other ok) e log (behaves_onto part (e ∷ log) b)

  -- ---- a slave
  module _ (s : ℕ) (it : IsSlaveOf (parties sc other) s) where
    abbrev D : SlaveSetup
    D = slave_setup_of sc other s

    abbrev M : transport.Machine Plant
    M = machine D

    -- what it still has to send
    abbrev pub owes : List LogEntry → List Post
    owes log = (at M W s log).desk.owed

    -- what the slave sends is its move, whatever it says
    tells : (from to : Address) (bytes : List ℕ) (k : Role) → same from (W.slave s) ≡ true → sent_move W s from to bytes k ≡ Tells to bytes
    tells from to bytes (Request receiver n) e = by (same from W.master) refl (same to (W.slave s))
      where
        by : (b : Bool) → same from W.master ≡ b → (c : Bool) → (if b && c then Asks n else (if same from (W.slave s) then Tells to bytes else Other)) ≡ Tells to bytes
        by true f c = absurd ((are_slaves sc other ok).apart.master s it (sym (same_is from (W.slave s) e) ∙ same_is from W.master f))
        by false f c = cond-true (same from (W.slave s)) (Tells to bytes) Other e
    tells from to bytes (Answer sender n) e = cond-true (same from (W.slave s)) (Tells to bytes) Other e
    tells from to bytes (Value id n) e = cond-true (same from (W.slave s)) (Tells to bytes) Other e
    tells from to bytes Else e = cond-true (same from (W.slave s)) (Tells to bytes) Other e

    -- so it is for an entry
    own_move : (from to : Address) (bytes : List ℕ) → from ≡ W.slave s → move W s (Sent from to bytes) ≡ Tells to bytes
    own_move from to bytes e = tells from to bytes (role_heard W bytes) (ap (λ (x : Address). same x (W.slave s)) e ∙ same_self (W.slave s))

    -- after a send it owes the rest
    owes_next : (from to : Address) (bytes : List ℕ) (log : List LogEntry) → from ≡ W.slave s → owes (Sent from to bytes ∷ log) ≡ tail (owes log)
    owes_next from to bytes log e = ap (λ (m : Move). (sent_next M W s m (at M W s log)).desk.owed) (own_move from to bytes e)

    -- it sends the first that it owes
    pub first_owed : (from to : Address) (bytes : List ℕ) (log : List LogEntry) → Behaves W X (Sent from to bytes ∷ log) → from ≡ W.slave s → IsFirstPost (owes log) to bytes
    first_owed from to bytes log b e =
        let P : Move → Type 0 = λ m. SlaveMay m (owes log) in
        subst P (own_move from to bytes e) (b.slaves s it).0

    -- so its sends are no more than it owes
    pub sends_front : (a : Address) (sents log : List LogEntry) → AllSent (W.slave s) sents → Behaves W X (onto sents log) → sends_to a sents ≤ posts_to a (owes log)
    sends_front a [] log h b = omega arith
    sends_front a (Sent from to bytes ∷ sents) log h b =
        let f = first_owed from to bytes log (behaves_onto sents (Sent from to bytes ∷ log) b) h.0 in
        let r = sends_front a sents (Sent from to bytes ∷ log) h.1 b in
        let e = ap (posts_to a) (owes_next from to bytes log h.0) in
        let k = first_counts a to bytes (owes log) f in
        omega (arith, r, e, k)
    sends_front a (Got at' from bytes ∷ sents) log h b = absurd h
    sends_front a (Idle at' ∷ sents) log h b = absurd h
    sends_front a (Turn at' ∷ sents) log h b = absurd h

    -- after a datagram it owes nothing, or one message to the master, who sent the datagram
    abbrev pub OwesMaster : Address → List Post → Type 0
    OwesMaster from ps = (ps ≡ []) ⊎ ((from ≡ W.master) × ((b : List ℕ) × (ps ≡ record { to = W.master; bytes = b } ∷ [])))

    -- what it owes after what it heard
    abbrev heard_owes : Address → List LogEntry → spec.Heard → List Post
    heard_owes from log h = map post (transport.heard_sends M (at M W s log).slave from h)

    -- what it owes after a datagram is what it owes after what it heard in it
    owes_heard : (at' from : Address) (bytes : List ℕ) (log : List LogEntry) → at' ≡ W.slave s → owes (Got at' from bytes ∷ log) ≡ heard_owes from log (spec.heard bytes)
    owes_heard at' from bytes log e =
        ap (λ (c : Bool). (if c then got M W s from bytes (at M W s log) else at M W s log).desk.owed) (ap (λ (x : Address). same x (W.slave s)) e ∙ same_self (W.slave s))

    -- what is no request of the master is not answered
    by_role : (from : Address) (bytes : List ℕ) (log : List LogEntry) → Behaves W X log → IsRun S log → IsRepeatedNewest W log (W.slave s) from bytes
        → (k : Role) (h : spec.Heard) → role_heard W bytes ≡ k → Agree k h → (heard_owes from log h ≡ []) ⊎ (from ≡ W.master)
    by_role from bytes log b run r (Request receiver n) (spec.Asks q) e a = inr (comes_of_master sc other ok s it log b run from bytes receiver n r e).from_is
    by_role from bytes log b run r (Request receiver n) (spec.Brings number i payload) e a = absurd a
    by_role from bytes log b run r (Request receiver n) spec.Nothing e a = absurd a
    by_role from bytes log b run r (Answer sender n) (spec.Asks q) e a = absurd a
    by_role from bytes log b run r (Answer sender n) (spec.Brings number i payload) e a = absurd a
    by_role from bytes log b run r (Answer sender n) spec.Nothing e a = inl refl
    by_role from bytes log b run r (Value id n) (spec.Asks q) e a = absurd a
    by_role from bytes log b run r (Value id n) (spec.Brings number i payload) e a = inl refl
    by_role from bytes log b run r (Value id n) spec.Nothing e a = absurd a
    by_role from bytes log b run r Else (spec.Asks q) e a = absurd a
    by_role from bytes log b run r Else (spec.Brings number i payload) e a = absurd a
    by_role from bytes log b run r Else spec.Nothing e a = inl refl

    -- so it is after each datagram
    pub got_owes : (at' from : Address) (bytes : List ℕ) (log : List LogEntry) → at' ≡ W.slave s → Behaves W X (Got at' from bytes ∷ log) → IsRun S (Got at' from bytes ∷ log) → OwesMaster from (owes (Got at' from bytes ∷ log))
    got_owes at' from bytes log here b run =
        let P : Address → Type 0 = λ a. IsRepeatedNewest W log a from bytes in
        let before = earlier W X (are_slaves sc other ok) (Got at' from bytes) log b in
        let k = by_role from bytes log before run.1 (subst P here b.honest.0) (role_heard W bytes) (spec.heard bytes) refl ((reads_back sc other ok s it).agree bytes) in
        by (owes (Got at' from bytes ∷ log)) (little sc other ok s it (Got at' from bytes) log b run here) (join k)
      where
        join : (heard_owes from log (spec.heard bytes) ≡ []) ⊎ (from ≡ W.master) → (owes (Got at' from bytes ∷ log) ≡ []) ⊎ (from ≡ W.master)
        join (inl e) = inl (owes_heard at' from bytes log here ∙ e)
        join (inr e) = inr e

        by : (ps : List Post) → (ps ≡ []) ⊎ ((c : List ℕ) × (ps ≡ record { to = from; bytes = c } ∷ [])) → (ps ≡ []) ⊎ (from ≡ W.master) → OwesMaster from ps
        by ps (inl e) k = inl e
        by ps (inr e) (inl z) = inl z
        by ps (inr e) (inr f) = inr (f, (e.0, e.1 ∙ ap (λ (x : Address). record { to = x; bytes = e.0 } ∷ []) f))

    -- ---- all that it owes goes to ends
    next_ends : (m : Move) (x : Both Plant) → AllToEnds W x.desk.owed → AllToEnds W (sent_next M W s m x).desk.owed
    next_ends (Asks n) x a = a
    next_ends (Comes from receiver n) x a = a
    next_ends (Tells to bytes) x a = tail_ends W x.desk.owed a
    next_ends (Hears n) x a = a
    next_ends (Brings from id n) x a = a
    next_ends Turns x a = a
    next_ends Rests x a = a
    next_ends Other x a = a

    -- a message to the master goes to an end
    master_ends : (from : Address) (ps : List Post) → OwesMaster from ps → AllToEnds W ps
    master_ends from ps (inl e) = let P : List Post → Type 0 = AllToEnds W in subst P (sym e) tt
    master_ends from ps (inr e) = let P : List Post → Type 0 = AllToEnds W in subst P (sym (e.1).1) (inl refl, tt)

    -- so it is at every moment
    pub owes_ends : (log : List LogEntry) → Behaves W X log → IsRun S log → AllToEnds W (owes log)
    owes_ends [] b run = tt
    owes_ends (Sent from to bytes ∷ log) b run = next_ends (move W s (Sent from to bytes)) (at M W s log) (owes_ends log (earlier W X (are_slaves sc other ok) (Sent from to bytes) log b) run.1)
    owes_ends (Got at' from bytes ∷ log) b run = by (owes_ends log (earlier W X (are_slaves sc other ok) (Got at' from bytes) log b) run.1) (same at' (W.slave s)) refl
      where
        by : AllToEnds W (owes log) → (c : Bool) → same at' (W.slave s) ≡ c → AllToEnds W (owes (Got at' from bytes ∷ log))
        by h true e = master_ends from (owes (Got at' from bytes ∷ log)) (got_owes at' from bytes log (same_is at' (W.slave s) e) b run)
        by h false e =
            let P : List Post → Type 0 = AllToEnds W in
            let k : owes (Got at' from bytes ∷ log) ≡ owes log = ap (λ (c : Bool). (if c then got M W s from bytes (at M W s log) else at M W s log).desk.owed) e in
            subst P (sym k) h
    owes_ends (Idle at' ∷ log) b run = owes_ends log (earlier W X (are_slaves sc other ok) (Idle at') log b) run.1
    owes_ends (Turn at' ∷ log) b run = by (owes_ends log (earlier W X (are_slaves sc other ok) (Turn at') log b) run.1) (same at' (W.slave s)) refl
      where
        by : AllToEnds W (owes log) → (c : Bool) → same at' (W.slave s) ≡ c → AllToEnds W (owes (Turn at' ∷ log))
        by h true e = (little sc other ok s it (Turn at') log b run (same_is at' (W.slave s) e)).0
        by h false e =
            let P : List Post → Type 0 = AllToEnds W in
            let k : owes (Turn at' ∷ log) ≡ owes log = ap (λ (c : Bool). (if c then ticked M W s (at M W s log) else at M W s log).desk.owed) e in
            subst P (sym k) h

  -- ---- the master
  goes : (to : Address) (bytes : List ℕ) (log : List LogEntry) (posts : List Send) → owed S log ≡ posts → IsFirstSend posts to bytes → (s : ℕ) × IsSlaveOf W s × (to ≡ W.slave s)
  goes to bytes log [] e f = absurd f
  goes to bytes log (p ∷ ps) e f =
      let a = rw e at (all_owed S log) in
      let v = (a.0).0 in
      let i = (are_parties sc other ok).all v ((a.0).1).0 in
      (v.id, i.0, sym f.0 ∙ ((a.0).1).1 ∙ i.1.address)

  -- what it sends goes to a slave
  pub master_sends : (to : Address) (bytes : List ℕ) (log : List LogEntry) → IsRun S (Sent W.master to bytes ∷ log) → (s : ℕ) × IsSlaveOf W s × (to ≡ W.slave s)
  master_sends to bytes log run =
      let P : Bool → Type 0 = λ b. where_it_is b (IsFirstSend (owed S log) to bytes) in
      goes to bytes log (owed S log) refl (subst P (self_same W.master) run.0)

  -- ---- what is sent goes to an end
  sends_end : (from to : Address) (bytes : List ℕ) (log : List LogEntry) → Behaves W X (Sent from to bytes ∷ log) → IsRun S (Sent from to bytes ∷ log) → IsEnd W to
  sends_end from to bytes log b run = by b.hosted.0
    where
      by : IsEnd W from → IsEnd W to
      by (inl f) = let P : Address → Type 0 = λ x. IsRun S (Sent x to bytes ∷ log) in let m = master_sends to bytes log (subst P f run) in inr m
      by (inr m) = first_end W to bytes (owes m.0 m.1 log) (first_owed m.0 m.1 from to bytes log b m.2) (owes_ends m.0 m.1 log (earlier W X (are_slaves sc other ok) (Sent from to bytes) log b) run.1)

  module _ (o : Opening) (quiet : IsQuietPlan o.plan) where
    -- so all that waits goes to an end
    pub all_to_ends : (log : List LogEntry) → Behaves W X log → IsRun S log → Each (λ (d : Arrival). IsEnd W d.to) (pending o log)
    all_to_ends [] b run = tt
    all_to_ends (e ∷ log) b run =
        each_entry o quiet (λ (d : Arrival). IsEnd W d.to) e log
        (λ from to bytes q. (let P : LogEntry → Type 0 = λ x. Behaves W X (x ∷ log) in let Q : LogEntry → Type 0 = λ x. IsRun S (x ∷ log) in sends_end from to bytes log (subst P q b) (subst Q q run)))
        (all_to_ends log (earlier W X (are_slaves sc other ok) e log b) run.1)
