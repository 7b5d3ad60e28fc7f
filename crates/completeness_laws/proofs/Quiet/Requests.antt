-- Where the master sends no request again, one request waits for a slave at most.
use Rattle.std.proofs.Common.{◌≡◌, ℕ, ◌+◌, ◌≤◌, Bool, true, false, if◌then◌else◌, ◌⊎◌, inl, inr, List, [], ◌∷◌, length, refl, sym, ap, ◌∙◌, subst, arith}
use Rattle.std.specs.Prelude.{◌&&◌, ◌==◌}
use Rattle.std.proofs.lemmas.Bool.{and_parts}
use Rattle.dcp_types.specs.declared.addresses.Address.{Address}
use Rattle.dcp_ends.specs.Logs.{same_address}
use Rattle.dcp_ends.specs.declared.entries.LogEntry.{LogEntry}
use Rattle.dcp_ends.specs.declared.entries.LogEntry.TheVariants.{Sent, Got, Idle, Turn}
use Rattle.dcp_net.specs.declared.openings.Opening.{Opening}
use Rattle.net_world.specs.declared.deliveries.Arrival.{Arrival}
use Rattle.net_world.specs.Deliveries.{is_due_now, is_ready_for}
use Rattle.net_world.specs.Messages.{messages}
use Rattle.slave_desc.specs.declared.descriptions.SlaveDesc.{SlaveDesc}
use Rattle.scenario.specs.declared.scenarios.Scenario.{Scenario}
use Rattle.scenario.specs.Sound.{IsScenario}
use Rattle.log_spec.specs.Messages.{Note, Role, Request, Answer, Value, Else}
use Rattle.log_spec.specs.Log.{Parties, IsSlaveOf, same, role_heard, requests_sent, DecidedRequest}
use Rattle.log_spec.specs.Honest.{IsRepeatedNewest}
use Rattle.log_spec.specs.Moves.{Move, Asks, Comes, Tells, Hears, Brings, Turns, Rests, Other, move, decided_exchanges}
use Rattle.log_spec.proofs.Moves.{same_is}
use Rattle.lockstep_laws.specs.Cast.{ConversingSlaves}
use Rattle.lockstep_laws.specs.Runs.{Behaves}
use Rattle.lockstep_laws.proofs.Conversation.{earlier, known}
use Rattle.master_spec.specs.declared.setups.Slave.{Slave}
use Rattle.master_spec.specs.declared.setups.Setup.{Setup}
use Rattle.master_spec.specs.News.{News, Answers, Hints, Brings as Values, Nothing, news_of}
use Rattle.master_spec.specs.Requests.{Asking, asks, with_asking, asking_in, with_news, decided_by}
use Rattle.master_spec.specs.Setup.{setup_from, slave_of}
use Rattle.pdu_layout.specs.Reading.{message_in}
use Rattle.slave_spec.specs.Heard as spec
use Rattle.slave_spec.specs.Transport as transport
use Rattle.slave_spec.specs.Plants.{Plant}
use Rattle.slave_spec.specs.Slaves.{machine}
use Rattle.slave_spec.specs.declared.words.Fate.{Fate}
use Rattle.slave_spec.specs.declared.words.Fate.TheVariants.{Dropped, Refused, Repeated, Taken}
use Rattle.slave_laws.specs.Talk.Desks.{served_by, served_after, Both, sent_next, got, ticked, at, Agree}
use Rattle.master_log_laws.specs.Index.Runs.{IsRun}
use Rattle.slave_laws.specs.Data.Whole.{slaves_asked}
use Rattle.lockstep_laws.specs.Models.Scenarios.{slave_numbered}
use Rattle.run_laws.specs.Laws.{parties, slave_setup_of}
use Rattle.run_laws.proofs.Headline.Behaving.{are_slaves}
use Rattle.completeness_laws.specs.Quiet.{IsQuietPlan}
use Rattle.completeness_laws.proofs.Delivery.Answering as answering
use Rattle.completeness_laws.proofs.Delivery.Happens.{same_both}
use Rattle.completeness_laws.proofs.Delivery.Sessions.{comes_of_master, reads_back}
use Rattle.completeness_laws.proofs.Quiet.Lists.{bit, tally, first_passes, tally_without}
use Rattle.completeness_laws.proofs.Quiet.Nets.{told, tally_place, Given, pending, IsTaken, got_given, pending_got, pending_idle, pending_turn, letter, pending_sent}
use Rattle.completeness_laws.proofs.Quiet.Fronts.{address_is, address_self}
use Rattle.completeness_laws.proofs.Quiet.Again.{IsNewlyAsked}

clash : true ≡ false → ⊥
clash z = cc

news_length : (id place : ℕ) (w : News) (bs : List Asking) → length (with_news id place w bs) ≡ length bs
news_length id place (Answers number sender answer) [] = refl
news_length id place (Answers number sender answer) (b ∷ bs) = by ((sender == id) && (number == b.number))
  where
    by : (t : Bool) → length (if t then record { code = b.code; number = b.number; more = b.more; first = b.first; repeats = b.repeats; decision = decided_by b.decision (record { place = place; answer = answer }) } ∷ bs else b ∷ bs) ≡ length (b ∷ bs)
    by true = refl
    by false = refl
news_length id place (Hints sender) bs = refl
news_length id place (Values number data_id payload) bs = refl
news_length id place Nothing bs = refl

module _ (o : Opening) (quiet : IsQuietPlan o.plan) (sc : Scenario) (other : SlaveDesc) (ok : IsScenario sc) (s : ℕ) (it : IsSlaveOf (parties sc other) s) where
  abbrev W : Parties
  W = parties sc other

  abbrev X : ConversingSlaves
  X = slaves_asked sc other

  abbrev S : Setup
  S = setup_from sc

  abbrev L : Slave
  L = slave_of sc s (slave_numbered sc other s)

  abbrev M : transport.Machine Plant
  M = machine (slave_setup_of sc other s)

  -- a message of the master to this slave
  abbrev pub is_asked : Arrival → Bool
  is_asked d = same_address d.from W.master && same_address d.to (W.slave s)

  abbrev pub requests_waiting : List LogEntry → ℕ
  requests_waiting log = tally is_asked (pending o log)

  abbrev served : List LogEntry → List DecidedRequest
  served log = (at M W s log).desk.served

  -- the requests that wait, and those that were taken, are among those that were asked
  abbrev pub IsOnce : List LogEntry → Type 0
  IsOnce log = requests_waiting log + length (served log) ≤ length (asks S.address L log)

  sent_served : (mv : Move) (x : Both Plant) → (sent_next M W s mv x).desk.served ≡ x.desk.served
  sent_served (Asks n) x = refl
  sent_served (Comes from receiver n) x = refl
  sent_served (Tells to bytes) x = refl
  sent_served (Hears n) x = refl
  sent_served (Brings from id n) x = refl
  sent_served Turns x = refl
  sent_served Rests x = refl
  sent_served Other x = refl

  once_sent : (from to : Address) (bytes : List ℕ) (log : List LogEntry) → (from ≡ W.master → to ≡ W.slave s → IsNewlyAsked sc other ok s it bytes log) → IsOnce log → IsOnce (Sent from to bytes ∷ log)
  once_sent from to bytes log new h = by (same_address from W.master && same_address to (W.slave s)) refl
    where
      waits : requests_waiting (Sent from to bytes ∷ log) ≡ requests_waiting log + bit (same_address from W.master && same_address to (W.slave s))
      waits = ap (tally is_asked) (pending_sent o quiet from to bytes log) ∙ tally_place is_asked (letter o log from to bytes) (pending o log)

      same_served : length (served (Sent from to bytes ∷ log)) ≡ length (served log)
      same_served = ap length (sent_served (move W s (Sent from to bytes)) (at M W s log))

      by : (b : Bool) → (same_address from W.master && same_address to (W.slave s)) ≡ b → IsOnce (Sent from to bytes ∷ log)
      by true e =
          let p = and_parts (same_address from W.master) (same_address to (W.slave s)) e in
          let f = address_is from W.master p.0 in
          let t = address_is to (W.slave s) p.1 in
          let n = new f t in
          let k = ap length n.is in
          let l : length (asks S.address L (Sent from to bytes ∷ log)) ≡ length (asks S.address L (Sent W.master (W.slave s) bytes ∷ log)) = ap (λ (x : Address). length (asks S.address L (Sent x to bytes ∷ log))) f ∙ ap (λ (x : Address). length (asks S.address L (Sent W.master x bytes ∷ log))) t in
          let c = ap bit e in
          omega (arith, waits, same_served, k, l, c, h)
      by false e =
          let k : length (asks S.address L (Sent from to bytes ∷ log)) ≡ length (asks S.address L log) = ap (λ (b : Bool). length (if b then with_asking (asking_in (length log) (message_in bytes)) (asks S.address L log) else asks S.address L log)) e in
          let c = ap bit e in
          omega (arith, waits, same_served, k, c, h)

  got_asks : (at' from : Address) (bytes : List ℕ) (log : List LogEntry) → length (asks S.address L (Got at' from bytes ∷ log)) ≡ length (asks S.address L log)
  got_asks at' from bytes log = by (same_address at' S.address && same_address from L.address)
    where
      by : (b : Bool) → length (if b then with_news L.id (length log) (news_of bytes) (asks S.address L log) else asks S.address L log) ≡ length (asks S.address L log)
      by true = news_length L.id (length log) (news_of bytes) (asks S.address L log)
      by false = refl

  -- what is taken came from the master
  taken_more : (x : Both Plant) (from : Address) (k : Role) (h : spec.Heard) → Agree k h → ((receiver : ℕ) (n : Note) → k ≡ Request receiver n → from ≡ W.master) → length (served_after M x.slave x.desk.served from k h) ≤ length x.desk.served + bit (same_address from W.master)
  taken_more x from (Request receiver n) (spec.Asks r) a f = by (transport.fate M x.slave from r)
    where
      own : bit (same_address from W.master) ≡ 1
      own = ap bit (ap (λ (z : Address). same_address z W.master) (f receiver n refl) ∙ address_self W.master)

      by : (f : Fate) → length (served_by M x.slave x.desk.served n r f) ≤ length x.desk.served + bit (same_address from W.master)
      by Dropped = omega arith
      by (Refused code) = omega arith
      by Repeated = omega arith
      by Taken = omega (arith, own)
  taken_more x from (Request receiver n) (spec.Brings number i payload) a f = absurd a
  taken_more x from (Request receiver n) spec.Nothing a f = absurd a
  taken_more x from (Answer sender n) (spec.Asks r) a f = absurd a
  taken_more x from (Answer sender n) (spec.Brings number i payload) a f = absurd a
  taken_more x from (Answer sender n) spec.Nothing a f = omega arith
  taken_more x from (Value id n) (spec.Asks r) a f = absurd a
  taken_more x from (Value id n) (spec.Brings number i payload) a f = omega arith
  taken_more x from (Value id n) spec.Nothing a f = absurd a
  taken_more x from Else (spec.Asks r) a f = absurd a
  taken_more x from Else (spec.Brings number i payload) a f = absurd a
  taken_more x from Else spec.Nothing a f = omega arith

  once_got : (at' from : Address) (bytes : List ℕ) (log : List LogEntry) → Behaves W X (Got at' from bytes ∷ log) → IsRun S log → Given o (Got at' from bytes ∷ log) → IsOnce log → IsOnce (Got at' from bytes ∷ log)
  once_got at' from bytes log b run given h = by (same at' (W.slave s)) refl
    where
      t : IsTaken o at' from bytes log
      t = got_given o at' from bytes log given

      ready : Arrival → Bool
      ready = is_ready_for at' (messages (told log))

      there : t.taken.to ≡ at'
      there = address_is t.taken.to at' (and_parts (same_address t.taken.to at') (is_due_now (messages (told log)) t.taken) (first_passes (is_ready_for at' (messages (told log))) (pending o log) t.taken t.is)).0

      one : is_asked t.taken ≡ (same_address from W.master && same_address at' (W.slave s))
      one = ap (λ (z : Address). same_address z W.master && same_address t.taken.to (W.slave s)) (sym t.sender) ∙ ap (λ (z : Address). same_address from W.master && same_address z (W.slave s)) there

      waits : requests_waiting log ≡ requests_waiting (Got at' from bytes ∷ log) + bit (same_address from W.master && same_address at' (W.slave s))
      waits =
          let a = tally_without (is_ready_for at' (messages (told log))) is_asked (pending o log) t.taken t.is in
          let c = ap (tally is_asked) (pending_got o at' from bytes log) in
          let d = ap bit one in
          omega (arith, a, c, d)

      same_asks : length (asks S.address L (Got at' from bytes ∷ log)) ≡ length (asks S.address L log)
      same_asks = got_asks at' from bytes log

      by : (c : Bool) → same at' (W.slave s) ≡ c → IsOnce (Got at' from bytes ∷ log)
      by true e =
          let P : Address → Type 0 = λ a. IsRepeatedNewest W log a from bytes in
          let before = earlier W X (are_slaves sc other ok) (Got at' from bytes) log b in
          let more = taken_more (at M W s log) from (role_heard W bytes) (spec.heard bytes) ((reads_back sc other ok s it).agree bytes)
          (λ receiver n k. (comes_of_master sc other ok s it log before run from bytes receiver n (subst P (same_is at' (W.slave s) e) b.honest.0) k).from_is) in
          let desk : length (served (Got at' from bytes ∷ log)) ≡ length (got M W s from bytes (at M W s log)).desk.served = ap (λ (c : Bool). length (if c then got M W s from bytes (at M W s log) else at M W s log).desk.served) e in
          let own : bit (same_address from W.master && same_address at' (W.slave s)) ≡ bit (same_address from W.master) = here (same_address from W.master) (same_address at' (W.slave s)) (same_both at' (W.slave s) true e) in
          omega (arith, waits, same_asks, more, desk, own, h)
        where
          here : (p q : Bool) → q ≡ true → bit (p && q) ≡ bit p
          here true q z = ap bit z
          here false q z = refl
      by false e =
          let desk : length (served (Got at' from bytes ∷ log)) ≡ length (served log) = ap (λ (c : Bool). length (if c then got M W s from bytes (at M W s log) else at M W s log).desk.served) e in
          omega (arith, waits, same_asks, desk, h)

  turn_served : (c : Bool) (x : Both Plant) → (if c then ticked M W s x else x).desk.served ≡ x.desk.served
  turn_served true x = refl
  turn_served false x = refl

  pub once_entry : (e : LogEntry) (log : List LogEntry) → Behaves W X (e ∷ log) → IsRun S log → Given o (e ∷ log) → ((bytes : List ℕ) → e ≡ Sent W.master (W.slave s) bytes → IsNewlyAsked sc other ok s it bytes log) → IsOnce log → IsOnce (e ∷ log)
  once_entry (Sent from to bytes) log b run given new h = once_sent from to bytes log (λ f t. new bytes (ap (λ (x : Address). Sent x to bytes) f ∙ ap (λ (x : Address). Sent W.master x bytes) t)) h
  once_entry (Got at' from bytes) log b run given new h = once_got at' from bytes log b run given h
  once_entry (Idle at') log b run given new h = let k = ap (tally is_asked) (pending_idle o at' log) in omega (arith, k, h)
  once_entry (Turn at') log b run given new h =
      let k = ap (tally is_asked) (pending_turn o at' log) in
      let l = ap length (turn_served (same at' (W.slave s)) (at M W s log)) in
      omega (arith, k, l, h)

  -- so one waits at most
  pub one_waits : (log : List LogEntry) → Behaves W X log → IsRun S log → IsOnce log → requests_waiting log ≤ 1
  one_waits log b run h =
      let k = known W X (are_slaves sc other ok) s it log b in
      let a = answering.asked sc other ok s it log run in
      let asked_few = k.talk.asked in
      by (decided_exchanges W s log) k.talk.decided asked_few a
    where
      by : (ds : List DecidedRequest) → (ds ≡ served log) ⊎ ((y : DecidedRequest) × (served log ≡ y ∷ ds)) → length (requests_sent W s log) ≤ length ds + 1 → length (requests_sent W s log) ≡ length (asks S.address L log) → requests_waiting log ≤ 1
      by ds (inl e) few a = let z = ap length e in omega (arith, z, few, a, h)
      by ds (inr e) few a = let z = ap length e.1 in omega (arith, z, few, a, h)
