-- Data is sent by slaves in their turns alone.
use Rattle.std.proofs.Common.{◌≡◌, ℕ, Bool, if◌then◌else◌, ◌⊎◌, inl, inr, List, [], ◌∷◌, ◌++◌, map, reverse, refl, sym, ap, ◌∙◌, subst}
use Rattle.std.proofs.lemmas.List.{reverse-append}
use Rattle.dcp_types.specs.declared.addresses.Address.{Address}
use Rattle.dcp_ends.specs.Events.{Send}
use Rattle.dcp_ends.specs.declared.entries.LogEntry.{LogEntry}
use Rattle.dcp_ends.specs.declared.entries.LogEntry.TheVariants.{Sent, Got, Idle, Turn}
use Rattle.rounds.specs.Rounds.{AllSent}
use Rattle.slave_desc.specs.declared.descriptions.SlaveDesc.{SlaveDesc}
use Rattle.scenario.specs.declared.scenarios.Scenario.{Scenario}
use Rattle.scenario.specs.Sound.{IsScenario}
use Rattle.log_spec.specs.Messages.{Note, Role, Request, Answer, Value, Else}
use Rattle.log_spec.specs.Log.{Parties, IsSlaveOf, role_heard}
use Rattle.log_spec.specs.Moves.{Move, Asks, Comes, Tells, Hears, Brings, Turns, Rests, Other, sent_move, move}
use Rattle.log_spec.proofs.Moves.{same_self}
use Rattle.lockstep_laws.specs.Cast.{ConversingSlaves}
use Rattle.lockstep_laws.specs.Runs.{Behaves}
use Rattle.lockstep_laws.specs.Slaves.{Post, SlaveMay, IsFirstPost, tail}
use Rattle.master_spec.specs.News.{Brings as Values, news_of}
use Rattle.slave_spec.specs.Heard as spec
use Rattle.slave_spec.specs.Transport as transport
use Rattle.slave_spec.specs.Plants.{Plant}
use Rattle.slave_spec.specs.Slaves.{machine}
use Rattle.slave_spec.specs.declared.words.SlaveRequest as req
use Rattle.slave_spec.specs.declared.words.Fate.{Fate}
use Rattle.slave_spec.specs.declared.words.Fate.TheVariants.{Dropped, Refused, Repeated, Taken}
use Rattle.slave_laws.specs.Talk.Desks.{post, AreElse, AreAnswersKept, Both, sent_next, got, at}
use Rattle.slave_laws.specs.Data.Whole.{slaves_asked}
use Rattle.run_laws.specs.Laws.{parties, slave_setup_of}
use Rattle.run_laws.proofs.Collecting.Heard.{outputs_note, outputs_role}
use Rattle.completeness_laws.proofs.Delivery.Sessions.{reads_back}

-- it is no data
abbrev pub IsNoData : Role → Type 0
IsNoData (Request receiver n) = Unit {0}
IsNoData (Answer sender n) = Unit {0}
IsNoData (Value id n) = ⊥
IsNoData Else = Unit {0}

-- the sends of a part turned around
pub sents_back : (a : Address) (part : List LogEntry) → AllSent a part → AllSent a (reverse part)
sents_back a [] h = tt
sents_back a (Sent from to bytes ∷ part) h =
    let P : List LogEntry → Type 0 = λ z. AllSent a z in
    subst P (sym (reverse-append (Sent from to bytes ∷ []) part)) (more (reverse part) (sents_back a part h.1))
  where
    more : (p : List LogEntry) → AllSent a p → AllSent a (p ++ Sent from to bytes ∷ [])
    more [] k = (h.0, tt)
    more (Sent f t b ∷ p) k = (k.0, more p k.1)
    more (Got at' f b ∷ p) k = absurd k
    more (Idle at' ∷ p) k = absurd k
    more (Turn at' ∷ p) k = absurd k
sents_back a (Got at' from bytes ∷ part) h = absurd h
sents_back a (Idle at' ∷ part) h = absurd h
sents_back a (Turn at' ∷ part) h = absurd h

-- this log, the newest entry first, begins with messages that this end sent since it got a datagram
pub record HasGot (from : Address) (log : List LogEntry) : Type 0 where
  pub sents : List LogEntry
  pub base : List LogEntry
  pub sender : Address
  pub heard : List ℕ
  pub is : log ≡ sents ++ Got from sender heard ∷ base
  pub own : AllSent from sents

module _ (sc : Scenario) (other : SlaveDesc) (ok : IsScenario sc) where
  abbrev W : Parties
  W = parties sc other

  abbrev X : ConversingSlaves
  X = slaves_asked sc other

  -- none of these is data
  abbrev NoneData : List Post → Type 0
  NoneData [] = Unit {0}
  NoneData (p ∷ ps) = IsNoData (role_heard W p.bytes) × NoneData ps

  module _ (s : ℕ) (it : IsSlaveOf (parties sc other) s) where
    abbrev M : transport.Machine Plant
    M = machine (slave_setup_of sc other s)

    -- notices are no data
    else_none : (ps : List Send) → AreElse W ps → NoneData (map post ps)
    else_none [] h = tt
    else_none (p ∷ ps) h = (subst IsNoData (sym h.0) tt, else_none ps h.1)

    module _ (log : List LogEntry) (from : Address) (bytes : List ℕ) where
      abbrev x : transport.SlaveState Plant
      x = (at M W s log).slave

      -- what answers a request is no data
      asked_none : (r : req.SlaveRequest) → spec.heard bytes ≡ spec.Asks r → (f : Fate) → NoneData (map post (transport.request_sends M x from r f))
      asked_none r e Dropped = tt
      asked_none r e (Refused code) = (subst IsNoData (sym (((reads_back sc other ok s it).sends log).refusal bytes r e from code)) tt, tt)
      asked_none r e Repeated = by x.served (((reads_back sc other ok s it).sends log).again from)
        where
          by : (es : List transport.Exchange) → AreAnswersKept W from es → NoneData (map post (transport.again from es))
          by [] k = tt
          by (y ∷ es) k = (subst IsNoData (sym k) tt, tt)
      asked_none r e Taken =
          let k = ((reads_back sc other ok s it).sends log).answer bytes r e from in
          (subst IsNoData (sym k.0) tt, else_none (transport.notice_sends from r.receiver (M.answers r.asked x.inner).notices) k.1)

      -- what is sent for a datagram is no data
      heard_none : (h : spec.Heard) → spec.heard bytes ≡ h → NoneData (map post (transport.heard_sends M x from h))
      heard_none (spec.Asks r) e = asked_none r e (transport.fate M x from r)
      heard_none (spec.Brings number id payload) e = tt
      heard_none spec.Nothing e = tt

      -- so the slave owes none behind a datagram that it got
      got_none : NoneData (at M W s (Got (W.slave s) from bytes ∷ log)).desk.owed
      got_none =
          let P : Bool → Type 0 = λ c. NoneData (if c then got M W s from bytes (at M W s log) else at M W s log).desk.owed in
          subst P (sym (same_self (W.slave s))) (heard_none (spec.heard bytes) refl)

    -- it owes none when it has sent of it
    sent_none : (mv : Move) (y : Both Plant) → NoneData y.desk.owed → NoneData (sent_next M W s mv y).desk.owed
    sent_none (Tells to bytes) y h = by y.desk.owed h
      where
        by : (ps : List Post) → NoneData ps → NoneData (tail ps)
        by [] k = tt
        by (p ∷ ps) k = k.1
    sent_none (Asks n) y h = h
    sent_none (Comes from receiver n) y h = h
    sent_none (Hears n) y h = h
    sent_none (Brings from id n) y h = h
    sent_none Turns y h = h
    sent_none Rests y h = h
    sent_none Other y h = h

    -- nor when it has sent several
    sents_none : (a : Address) (sents base : List LogEntry) → AllSent a sents → NoneData (at M W s base).desk.owed → NoneData (at M W s (sents ++ base)).desk.owed
    sents_none a [] base h k = k
    sents_none a (Sent from to bytes ∷ sents) base h k = sent_none (move W s (Sent from to bytes)) (at M W s (sents ++ base)) (sents_none a sents base h.1 k)
    sents_none a (Got at' from bytes ∷ sents) base h k = absurd h
    sents_none a (Idle at' ∷ sents) base h k = absurd h
    sents_none a (Turn at' ∷ sents) base h k = absurd h

    -- so the first that it owes is no data
    first_none : (ps : List Post) (to : Address) (bytes : List ℕ) (id : ℕ) (n : Note) → NoneData ps → IsFirstPost ps to bytes → role_heard W bytes ≡ Value id n → ⊥
    first_none [] to bytes id n h f e = f
    first_none (p ∷ ps) to bytes id n h f e = subst IsNoData (ap (role_heard W) f.1 ∙ e) h.0

    -- a slave that got a datagram since sends no data
    slave_none : (to : Address) (bytes : List ℕ) (sents base : List LogEntry) (sender : Address) (heard : List ℕ) → Behaves W X (Sent (W.slave s) to bytes ∷ (sents ++ Got (W.slave s) sender heard ∷ base)) → AllSent (W.slave s) sents → (id : ℕ) (n : Note) → role_heard W bytes ≡ Value id n → ⊥
    slave_none to bytes sents base sender heard b own id n e =
        let log = sents ++ Got (W.slave s) sender heard ∷ base in
        let tells : move W s (Sent (W.slave s) to bytes) ≡ Tells to bytes =
        ap (sent_move W s (W.slave s) to bytes) e ∙ ap (λ (c : Bool). if c then Tells to bytes else Other) (same_self (W.slave s)) in
        let P : Move → Type 0 = λ mv. SlaveMay mv (at M W s log).desk.owed in
        first_none (at M W s log).desk.owed to bytes id n (sents_none (W.slave s) sents (Got (W.slave s) sender heard ∷ base) own (got_none base sender heard)) (subst P tells (b.slaves s it).0) e

  -- the master sends no data
  master_none : (to : Address) (bytes : List ℕ) (log : List LogEntry) → Behaves W X (Sent W.master to bytes ∷ log) → (id : ℕ) (n : Note) → role_heard W bytes ≡ Value id n → ⊥
  master_none to bytes log b id n e =
      let k = b.asks.0 refl in
      let z : Request k.0 k.1 ≡ Value id n = sym k.2 ∙ e in
      off k.0 k.1 z
    where
      off : (receiver : ℕ) (m : Note) → Request receiver m ≡ Value id n → ⊥
      off receiver m z = cc

  -- so neither is data
  pub no_data : (from to : Address) (bytes : List ℕ) (log : List LogEntry) → Behaves W X (Sent from to bytes ∷ log)
      → (from ≡ W.master) ⊎ HasGot from log → (number id : ℕ) (payload : List ℕ) → news_of bytes ≡ Values number id payload → ⊥
  no_data from to bytes log b k number id payload e = by k
    where
      role : role_heard W bytes ≡ Value id (outputs_note number id payload)
      role = outputs_role number id payload bytes e

      P : Address → Type 0
      P a = Behaves W X (Sent a to bytes ∷ log)

      by_master : from ≡ W.master → ⊥
      by_master f = master_none to bytes log (subst P f b) id (outputs_note number id payload) role

      by : (from ≡ W.master) ⊎ HasGot from log → ⊥
      by (inl f) = by_master f
      by (inr g) = by_end b.hosted.0
        where
          by_end : (from ≡ W.master) ⊎ ((t : ℕ) × IsSlaveOf W t × (from ≡ W.slave t)) → ⊥
          by_end (inl f) = by_master f
          by_end (inr t) =
              let Q : List LogEntry → Type 0 = λ z. Behaves W X (Sent (W.slave t.0) to bytes ∷ z) in
              let R : Address → Type 0 = λ a. AllSent a g.sents in
              let here : log ≡ g.sents ++ Got (W.slave t.0) g.sender g.heard ∷ g.base = g.is ∙ ap (λ (a : Address). g.sents ++ Got a g.sender g.heard ∷ g.base) t.2 in
              slave_none t.0 t.1 to bytes g.sents g.base g.sender g.heard (subst Q here (subst P t.2 b)) (subst R t.2 g.own) id (outputs_note number id payload) role
