-- A slave's session is with the master, under the slave's own number; and it ends only with an acknowledged request for that.
use Rattle.std.proofs.Common.{◌≡◌, ℕ, suc, Bool, true, false, if◌then◌else◌, Some, None, List, [], ◌∷◌, map, length, refl, sym, ap, ◌∙◌, subst, arith}
use Rattle.std.specs.Prelude.{◌==◌, ◌&&◌, ◌||◌, nat_lt}
use Rattle.std.specs.List.{list_any}
use Rattle.pdu_layout.specs.Fields.{FieldValue}
use Rattle.pdu_layout.specs.declared.messages.Stc.TheVariants as stc
use Rattle.dcp_types.specs.declared.addresses.Address.{Address}
use Rattle.dcp_types.specs.declared.states.State.{State}
use Rattle.dcp_ends.specs.declared.entries.LogEntry.{LogEntry}
use Rattle.dcp_ends.specs.declared.entries.LogEntry.TheVariants.{Sent, Got, Idle, Turn}
use Rattle.slave_desc.specs.declared.descriptions.SlaveDesc.{SlaveDesc}
use Rattle.scenario.specs.declared.scenarios.Scenario.{Scenario}
use Rattle.scenario.specs.Sound.{IsScenario}
use Rattle.log_spec.specs.Messages.{Note, Role, Request, Answer, Value, Else}
use Rattle.log_spec.specs.Channel.{by_ordinal, IsRegularChannel}
use Rattle.log_spec.specs.Log.{Parties, IsSlaveOf, same, role_heard, Requests, in_channel, sent_in, sends_in, DecidedRequest}
use Rattle.log_spec.specs.Honest.{IsRepeatedNewest}
use Rattle.log_spec.specs.Moves.{Move, Asks, Comes, Tells, Hears, Brings, Turns, Rests, Other, move}
use Rattle.log_spec.proofs.Channel.{tops}
use Rattle.log_spec.proofs.Moves.{same_is, same_self}
use Rattle.lockstep_laws.specs.Cast.{ConversingSlaves}
use Rattle.lockstep_laws.specs.Runs.{Behaves}
use Rattle.lockstep_laws.proofs.Conversation.{only_master_asks, earlier, drop_later, known}
use Rattle.slave_spec.specs.Heard as spec
use Rattle.slave_spec.specs.Transport as transport
use Rattle.slave_spec.specs.Transport.{SlaveState}
use Rattle.slave_spec.specs.Plants.{Plant}
use Rattle.slave_spec.specs.Slaves.{machine}
use Rattle.slave_spec.specs.declared.words.SlaveRequest as req
use Rattle.slave_spec.specs.declared.words.Asked as ask
use Rattle.slave_spec.specs.declared.words.Asked.TheVariants.{Change, Setting, Question}
use Rattle.slave_spec.specs.declared.words.Session.{Session}
use Rattle.slave_spec.specs.declared.words.Session.TheVariants.{Before, During, After}
use Rattle.slave_spec.specs.declared.words.Fate.{Fate}
use Rattle.slave_spec.specs.declared.words.Fate.TheVariants.{Dropped, Refused, Repeated, Taken}
use Rattle.slave_laws.specs.Talk.Desks.{answer_note, served_by, served_after, Both, sent_next, at, got, ticked, Agree, ReadsAnswersBack}
use Rattle.slave_laws.proofs.Talk.Sending.{sends_back}
use Rattle.plan_laws.specs.Course.Taken.{is_acknowledged}
use Rattle.lockstep_laws.specs.Models.Scenarios.{slave_numbered}
use Rattle.slave_laws.specs.Data.Whole.{slaves_asked}
use Rattle.master_log_laws.specs.Index.Runs.{IsRun}
use Rattle.master_log_laws.proofs.Scenarios.Heard.{setups_heard}
use Rattle.master_spec.specs.Setup.{setup_from, slave_of}
use Rattle.master_spec.specs.Requests.{Asking, asks}
use Rattle.master_laws.specs.Meets.Laws.{note_of}
use Rattle.master_laws.proofs.Meets.Asking.{are_asked}
use Rattle.run_laws.specs.Laws.{parties, slave_setup_of}
use Rattle.run_laws.proofs.Runs.{party, are_parties}
use Rattle.run_laws.proofs.Headline.Behaving.{are_slaves}
use Rattle.completeness_laws.proofs.Delivery.Ended.{run_front}

clash : true ≡ false → ⊥
clash z = cc

-- ---- what a slave hears in a request
pub heard_receiver : (code : ℕ) (vs : List FieldValue) (r : req.SlaveRequest) → spec.heard_in code vs ≡ spec.Asks r → r.receiver ≡ spec.number_at 1 vs
heard_receiver code vs r h = by (nat_lt code 32) (nat_lt code 128) (nat_lt code 176) (code == 240) h
  where
    asks : (a : ask.Asked) → spec.heard_asking vs a ≡ spec.Asks r → r.receiver ≡ spec.number_at 1 vs
    asks a z = let y : record { number = spec.number_at 0 vs; receiver = spec.number_at 1 vs; asked = a } ≡ r = cc in ap (λ (x : req.SlaveRequest). x.receiver) (sym y)

    by : (a b c d : Bool) → (if a then spec.heard_asking vs (Change (spec.state_from (spec.number_at 2 vs)) (spec.stc_of code vs)) else (if b then spec.heard_asking vs (Setting (spec.cfg_of code vs)) else (if c then spec.heard_asking vs (Question (spec.inf_of code vs)) else (if d then spec.Brings (spec.number_at 0 vs) (spec.number_at 1 vs) (spec.bytes_at 2 vs) else spec.Nothing)))) ≡ spec.Asks r
        → r.receiver ≡ spec.number_at 1 vs
    by true b c d z = asks (Change (spec.state_from (spec.number_at 2 vs)) (spec.stc_of code vs)) z
    by false true c d z = asks (Setting (spec.cfg_of code vs)) z
    by false false true d z = asks (Question (spec.inf_of code vs)) z
    by false false false true z = absurd cc
    by false false false false z = absurd cc

end_code : (code : ℕ) (vs : List FieldValue) → spec.stc_of code vs ≡ stc.Deregister → (code == 2) ≡ true
end_code code vs h = by (code == 1) (code == 2) (code == 3) (code == 4) (code == 5) (code == 6) (code == 7) (code == 8) (code == 9) h
  where
    by : (a b c d e f g h i : Bool)
        → (if a then stc.Register (spec.number_at 3 vs) (spec.number_at 4 vs) (spec.number_at 5 vs) (spec.number_at 6 vs) else (if b then stc.Deregister else (if c then stc.Prepare else (if d then stc.Configure else (if e then stc.Initialize else (if f then stc.Run (spec.signed_at 3 vs) else (if g then stc.DoStep (spec.number_at 3 vs) else (if h then stc.SendOutputs else (if i then stc.Stop else stc.Reset))))))))) ≡ stc.Deregister
        → b ≡ true
    by true b c d e f g h i z = absurd cc
    by false true c d e f g h i z = refl
    by false false true d e f g h i z = absurd cc
    by false false false true e f g h i z = absurd cc
    by false false false false true f g h i z = absurd cc
    by false false false false false true g h i z = absurd cc
    by false false false false false false true h i z = absurd cc
    by false false false false false false false true i z = absurd cc
    by false false false false false false false false true z = absurd cc
    by false false false false false false false false false z = absurd cc

heard_end : (code : ℕ) (vs : List FieldValue) (r : req.SlaveRequest) (named : State) → spec.heard_in code vs ≡ spec.Asks r → r.asked ≡ Change named stc.Deregister → (code == 2) ≡ true
heard_end code vs r named h e = by (nat_lt code 32) (nat_lt code 128) (nat_lt code 176) (code == 240) h
  where
    asks : (a : ask.Asked) → spec.heard_asking vs a ≡ spec.Asks r → a ≡ Change named stc.Deregister
    asks a z = let y : record { number = spec.number_at 0 vs; receiver = spec.number_at 1 vs; asked = a } ≡ r = cc in ap (λ (x : req.SlaveRequest). x.asked) y ∙ e

    by : (a b c d : Bool) → (if a then spec.heard_asking vs (Change (spec.state_from (spec.number_at 2 vs)) (spec.stc_of code vs)) else (if b then spec.heard_asking vs (Setting (spec.cfg_of code vs)) else (if c then spec.heard_asking vs (Question (spec.inf_of code vs)) else (if d then spec.Brings (spec.number_at 0 vs) (spec.number_at 1 vs) (spec.bytes_at 2 vs) else spec.Nothing)))) ≡ spec.Asks r
        → (code == 2) ≡ true
    by true b c d z =
        let y : Change (spec.state_from (spec.number_at 2 vs)) (spec.stc_of code vs) ≡ Change named stc.Deregister = asks (Change (spec.state_from (spec.number_at 2 vs)) (spec.stc_of code vs)) z in
        let x : spec.stc_of code vs ≡ stc.Deregister = cc in
        end_code code vs x
    by false true c d z = let y : Setting (spec.cfg_of code vs) ≡ Change named stc.Deregister = asks (Setting (spec.cfg_of code vs)) z in absurd cc
    by false false true d z = let y : Question (spec.inf_of code vs) ≡ Change named stc.Deregister = asks (Question (spec.inf_of code vs)) z in absurd cc
    by false false false true z = absurd cc
    by false false false false z = absurd cc

last_is : (asked : ask.Asked) (a : transport.SlaveAnswer) → transport.is_last asked a ≡ true → ((named : State) × (asked ≡ Change named stc.Deregister)) × (a ≡ transport.Ack)
last_is (Change named stc.Deregister) transport.Ack h = ((named, refl), refl)
last_is (Change named stc.Deregister) (transport.Nack code) h = absurd cc
last_is (Change named stc.Deregister) (transport.StateAck state) h = absurd cc
last_is (Change named stc.Deregister) (transport.ErrorAck code) h = absurd cc
last_is (Change named stc.Deregister) (transport.LogAck entries) h = absurd cc
last_is (Change named (stc.Register a b c d)) x h = absurd cc
last_is (Change named stc.Prepare) x h = absurd cc
last_is (Change named stc.Configure) x h = absurd cc
last_is (Change named stc.Initialize) x h = absurd cc
last_is (Change named (stc.Run z)) x h = absurd cc
last_is (Change named (stc.DoStep n)) x h = absurd cc
last_is (Change named stc.SendOutputs) x h = absurd cc
last_is (Change named stc.Stop) x h = absurd cc
last_is (Change named stc.Reset) x h = absurd cc
last_is (Setting body) x h = absurd cc
last_is (Question q) x h = absurd cc

-- ---- an acknowledged end
abbrev pub is_over_exchange : DecidedRequest → Bool
is_over_exchange e = (e.request.message.code == 2) && is_acknowledged e.answer

abbrev pub SessionIs : Address → ℕ → Session → List DecidedRequest → Type 0
SessionIs m s Before es = es ≡ []
SessionIs m s (During master id) es = (master ≡ m) × (id ≡ s)
SessionIs m s (After master id) es = (master ≡ m) × ((id ≡ s) × (list_any is_over_exchange es ≡ true))

or_right : (a b : Bool) → b ≡ true → (a || b) ≡ true
or_right true b h = refl
or_right false b h = h

over_made : (n : Note) (r : req.SlaveRequest) (next : ℕ) (a : transport.SlaveAnswer) → spec.heard_as (Some n.message) ≡ spec.Asks r → transport.is_last r.asked a ≡ true → is_over_exchange (record { request = n; answer = answer_note r next a }) ≡ true
over_made n r next a read e =
    let l = last_is r.asked a e in
    let c = heard_end n.message.code n.message.values r (l.0).0 read (l.0).1 in
    ap (λ (b : Bool). b && is_acknowledged (answer_note r next a)) c ∙ ap (λ (z : transport.SlaveAnswer). is_acknowledged (answer_note r next z)) l.1

taken_session : (m : Address) (s : ℕ) (session : Session) (es : List DecidedRequest) (from : Address) (n : Note) (r : req.SlaveRequest) (a : transport.SlaveAnswer) (next : ℕ) → from ≡ m → r.receiver ≡ s → spec.heard_as (Some n.message) ≡ spec.Asks r → SessionIs m s session es
    → SessionIs m s (transport.session_after session from r a) (record { request = n; answer = answer_note r next a } ∷ es)
taken_session m s Before es from n r a next f g read h = (f, g)
taken_session m s (During master id) es from n r a next f g read h = by (transport.is_last r.asked a) refl
  where
    by : (b : Bool) → transport.is_last r.asked a ≡ b → SessionIs m s (if b then After master id else During master id) (record { request = n; answer = answer_note r next a } ∷ es)
    by true e = (h.0, (h.1, ap (λ (b : Bool). b || list_any is_over_exchange es) (over_made n r next a read e)))
    by false e = h
taken_session m s (After master id) es from n r a next f g read h = (h.0, ((h.1).0, or_right (is_over_exchange (record { request = n; answer = answer_note r next a })) (list_any is_over_exchange es) (h.1).1))

module _ (sc : Scenario) (other : SlaveDesc) (ok : IsScenario sc) (s : ℕ) (is : IsSlaveOf (parties sc other) s) where
  abbrev W : Parties
  W = parties sc other

  abbrev X : ConversingSlaves
  X = slaves_asked sc other

  abbrev M : transport.Machine Plant
  M = machine (slave_setup_of sc other s)

  -- what comes to the slave as a request is one that the master sent it
  pub record IsOfMaster (from : Address) (n : Note) : Type 0 where
    pub from_is : from ≡ W.master
    pub asking : Asking
    pub note_is : n ≡ note_of s asking

  pub comes_of_master : (log : List LogEntry) → Behaves W X log → IsRun (setup_from sc) log → (from : Address) (bytes : List ℕ) (receiver : ℕ) (n : Note) → IsRepeatedNewest W log (W.slave s) from bytes → role_heard W bytes ≡ Request receiver n → IsOfMaster from n
  comes_of_master log b run from bytes receiver n rep read =
      let sl = are_slaves sc other ok in
      let P : List LogEntry → Type 0 = λ z. Behaves W X z in
      let Q : List LogEntry → Type 0 = λ z. IsRun (setup_from sc) z in
      let f = only_master_asks W X sl rep.later rep.earlier from (W.slave s) bytes receiver n (subst P rep.is b) read in
      let bl = drop_later W X sl rep.later (Sent from (W.slave s) bytes ∷ rep.earlier) (subst P rep.is b) in
      let rl = run_front (setup_from sc) rep.later (Sent from (W.slave s) bytes ∷ rep.earlier) (subst Q rep.is run) in
      let k = known W X sl s is (Sent from (W.slave s) bytes ∷ rep.earlier) bl in
      let ns = sends_in W (Requests s) rep.earlier in
      let in' : sent_in W (Requests s) (Sent from (W.slave s) bytes) ≡ Some n = ap (in_channel W (Requests s) from (W.slave s)) read ∙ here (same from W.master) (same (W.slave s) (W.slave s)) (ap (λ (a : Address). same a W.master) f ∙ same_self W.master) (same_self (W.slave s)) in
      let all : sends_in W (Requests s) (Sent from (W.slave s) bytes ∷ rep.earlier) ≡ n ∷ ns = rw in' refl in
      let R : List Note → Type 0 = λ z. IsRegularChannel z in
      let top = tops n ns (subst R all k.requests) in
      let asked = are_asked (setup_from sc) (setups_heard sc ok).heard W (are_parties sc other ok) (Sent from (W.slave s) bytes ∷ rep.earlier) rl s is (slave_of sc s (slave_numbered sc other s)) (party sc other ok s is) in
      let same' : n ∷ top.rest ≡ map (note_of s) (asks (setup_from sc).address (slave_of sc s (slave_numbered sc other s)) (Sent from (W.slave s) bytes ∷ rep.earlier)) = sym top.is ∙ ap by_ordinal (sym all) ∙ asked in
      let g = first (asks (setup_from sc).address (slave_of sc s (slave_numbered sc other s)) (Sent from (W.slave s) bytes ∷ rep.earlier)) n top.rest same' in
      record { from_is = f; asking = g.0; note_is = g.1 }
    where
      here : (b c : Bool) → b ≡ true → c ≡ true → (if b && c then Some n else None) ≡ Some n
      here b c e f = grind arith

      first : (bs : List Asking) (n : Note) (rest : List Note) → n ∷ rest ≡ map (note_of s) bs → (a : Asking) × (n ≡ note_of s a)
      first [] n rest e = absurd cc
      first (a ∷ bs) n rest e = (a, cc)

  -- ---- its session at every moment
  abbrev pub SessionAt : List LogEntry → Type 0
  SessionAt log = SessionIs W.master s (at M W s log).slave.session (at M W s log).desk.served

  request_session : (x : Both Plant) (from : Address) (n : Note) (r : req.SlaveRequest) → from ≡ W.master → r.receiver ≡ s → spec.heard_as (Some n.message) ≡ spec.Asks r → (f : Fate) → SessionIs W.master s x.slave.session x.desk.served
      → SessionIs W.master s (transport.after_request M x.slave from r f).session (served_by M x.slave x.desk.served n r f)
  request_session x from n r a b read Dropped h = h
  request_session x from n r a b read (Refused code) h = h
  request_session x from n r a b read Repeated h = h
  request_session x from n r a b read Taken h =
      let y = M.answers r.asked x.slave.inner in
      taken_session W.master s x.slave.session x.desk.served from n r y.answer (transport.expected (record { request = r; answer = y.answer } ∷ x.slave.served)) a b read h

  if_same : (c : Bool) (x y : SlaveState Plant) (es : List DecidedRequest) → y.session ≡ x.session → SessionIs W.master s x.session es → SessionIs W.master s (if c then y else x).session es
  if_same true x y es e h = let P : Session → Type 0 = λ z. SessionIs W.master s z es in subst P (sym e) h
  if_same false x y es e h = h

  got_session : (x : Both Plant) (from : Address) (k : Role) (h : spec.Heard) → Agree k h → ((receiver : ℕ) (n : Note) → k ≡ Request receiver n → IsOfMaster from n) → SessionIs W.master s x.slave.session x.desk.served
      → SessionIs W.master s (transport.after_heard M x.slave from h).session (served_after M x.slave x.desk.served from k h)
  got_session x from (Request receiver n) (spec.Asks r) a f h =
      let g = f receiver n refl in
      let read : spec.heard_as (Some n.message) ≡ spec.Asks r = a.2 in
      let q = heard_receiver n.message.code n.message.values r read in
      let shape : spec.number_at 1 n.message.values ≡ s = ap (λ (z : Note). spec.number_at 1 z.message.values) g.note_is in
      request_session x from n r g.from_is (q ∙ shape) read (transport.fate M x.slave from r) h
  got_session x from (Request receiver n) (spec.Brings number i payload) a f h = absurd a
  got_session x from (Request receiver n) spec.Nothing a f h = absurd a
  got_session x from (Answer sender n) (spec.Asks r) a f h = absurd a
  got_session x from (Answer sender n) (spec.Brings number i payload) a f h = absurd a
  got_session x from (Answer sender n) spec.Nothing a f h = h
  got_session x from (Value id n) (spec.Asks r) a f h = absurd a
  got_session x from (Value id n) (spec.Brings number i payload) a f h = if_same (transport.is_open x.slave.session) x.slave (record x.slave { inner = M.brings from number i payload x.slave.inner }) x.desk.served refl h
  got_session x from (Value id n) spec.Nothing a f h = absurd a
  got_session x from Else (spec.Asks r) a f h = absurd a
  got_session x from Else (spec.Brings number i payload) a f h = absurd a
  got_session x from Else spec.Nothing a f h = h

  sent_session : (mv : Move) (x : Both Plant) → SessionIs W.master s x.slave.session x.desk.served → SessionIs W.master s (sent_next M W s mv x).slave.session (sent_next M W s mv x).desk.served
  sent_session (Asks n) x h = h
  sent_session (Comes from receiver n) x h = h
  sent_session (Tells to bytes) x h = h
  sent_session (Hears n) x h = h
  sent_session (Brings from id n) x h = h
  sent_session Turns x h = h
  sent_session Rests x h = h
  sent_session Other x h = h

  pub reads_back : ReadsAnswersBack M W s
  reads_back = sends_back (slave_setup_of sc other s) W s (λ b. refl)

  pub session_at : (log : List LogEntry) → Behaves W X log → IsRun (setup_from sc) log → SessionAt log
  session_at [] b run = refl
  session_at (Sent from to bytes ∷ log) b run = sent_session (move W s (Sent from to bytes)) (at M W s log) (session_at log (earlier W X (are_slaves sc other ok) (Sent from to bytes) log b) run.1)
  session_at (Got at' from bytes ∷ log) b run = by (session_at log (earlier W X (are_slaves sc other ok) (Got at' from bytes) log b) run.1) (same at' (W.slave s)) refl
    where
      by : SessionAt log → (c : Bool) → same at' (W.slave s) ≡ c → SessionIs W.master s (if c then got M W s from bytes (at M W s log) else at M W s log).slave.session (if c then got M W s from bytes (at M W s log) else at M W s log).desk.served
      by before true e =
          let P : Address → Type 0 = λ a. IsRepeatedNewest W log a from bytes in
          got_session (at M W s log) from (role_heard W bytes) (spec.heard bytes) (reads_back.agree bytes)
          (λ receiver n k. comes_of_master log (earlier W X (are_slaves sc other ok) (Got at' from bytes) log b) run.1 from bytes receiver n (subst P (same_is at' (W.slave s) e) b.honest.0) k) before
      by before false e = before
  session_at (Idle at' ∷ log) b run = session_at log (earlier W X (are_slaves sc other ok) (Idle at') log b) run.1
  session_at (Turn at' ∷ log) b run = by (session_at log (earlier W X (are_slaves sc other ok) (Turn at') log b) run.1) (same at' (W.slave s))
    where
      y : SlaveState Plant
      y = (at M W s log).slave

      by : SessionAt log → (c : Bool) → SessionIs W.master s (if c then ticked M W s (at M W s log) else at M W s log).slave.session (if c then ticked M W s (at M W s log) else at M W s log).desk.served
      by before true = if_same (transport.is_open y.session) y (record y { quiet = transport.quieter y.quiet; inner = (M.turns (transport.quieter y.quiet) y.inner).after }) (at M W s log).desk.served refl before
      by before false = before

  -- both count the requests that were taken
  abbrev Counts : SlaveState Plant → List DecidedRequest → Type 0
  Counts x es = length x.served ≡ length es

  request_counts : (x : SlaveState Plant) (es : List DecidedRequest) (from : Address) (n : Note) (r : req.SlaveRequest) (f : Fate) → Counts x es → Counts (transport.after_request M x from r f) (served_by M x es n r f)
  request_counts x es from n r Dropped h = h
  request_counts x es from n r (Refused code) h = h
  request_counts x es from n r Repeated h = h
  request_counts x es from n r Taken h = ap (λ (k : ℕ). suc k) h

  if_counts : (c : Bool) (x y : SlaveState Plant) (es : List DecidedRequest) → y.served ≡ x.served → Counts x es → Counts (if c then y else x) es
  if_counts true x y es e h = ap length e ∙ h
  if_counts false x y es e h = h

  got_counts : (x : Both Plant) (from : Address) (k : Role) (h : spec.Heard) → Agree k h → Counts x.slave x.desk.served → Counts (transport.after_heard M x.slave from h) (served_after M x.slave x.desk.served from k h)
  got_counts x from (Request receiver n) (spec.Asks r) a h = request_counts x.slave x.desk.served from n r (transport.fate M x.slave from r) h
  got_counts x from (Request receiver n) (spec.Brings number i payload) a h = absurd a
  got_counts x from (Request receiver n) spec.Nothing a h = absurd a
  got_counts x from (Answer sender n) (spec.Asks r) a h = absurd a
  got_counts x from (Answer sender n) (spec.Brings number i payload) a h = absurd a
  got_counts x from (Answer sender n) spec.Nothing a h = h
  got_counts x from (Value id n) (spec.Asks r) a h = absurd a
  got_counts x from (Value id n) (spec.Brings number i payload) a h = if_counts (transport.is_open x.slave.session) x.slave (record x.slave { inner = M.brings from number i payload x.slave.inner }) x.desk.served refl h
  got_counts x from (Value id n) spec.Nothing a h = absurd a
  got_counts x from Else (spec.Asks r) a h = absurd a
  got_counts x from Else (spec.Brings number i payload) a h = absurd a
  got_counts x from Else spec.Nothing a h = h

  sent_counts : (mv : Move) (x : Both Plant) → Counts x.slave x.desk.served → Counts (sent_next M W s mv x).slave (sent_next M W s mv x).desk.served
  sent_counts (Asks n) x h = h
  sent_counts (Comes from receiver n) x h = h
  sent_counts (Tells to bytes) x h = h
  sent_counts (Hears n) x h = h
  sent_counts (Brings from id n) x h = h
  sent_counts Turns x h = h
  sent_counts Rests x h = h
  sent_counts Other x h = h

  pub counts_at : (log : List LogEntry) → length (at M W s log).slave.served ≡ length (at M W s log).desk.served
  counts_at [] = refl
  counts_at (Sent from to bytes ∷ log) = sent_counts (move W s (Sent from to bytes)) (at M W s log) (counts_at log)
  counts_at (Got at' from bytes ∷ log) = by (counts_at log) (same at' (W.slave s))
    where
      by : Counts (at M W s log).slave (at M W s log).desk.served → (c : Bool) → Counts (if c then got M W s from bytes (at M W s log) else at M W s log).slave (if c then got M W s from bytes (at M W s log) else at M W s log).desk.served
      by before true = got_counts (at M W s log) from (role_heard W bytes) (spec.heard bytes) (reads_back.agree bytes) before
      by before false = before
  counts_at (Idle at' ∷ log) = counts_at log
  counts_at (Turn at' ∷ log) = by (counts_at log) (same at' (W.slave s))
    where
      y : SlaveState Plant
      y = (at M W s log).slave

      by : Counts (at M W s log).slave (at M W s log).desk.served → (c : Bool) → Counts (if c then ticked M W s (at M W s log) else at M W s log).slave (if c then ticked M W s (at M W s log) else at M W s log).desk.served
      by before true = if_counts (transport.is_open y.session) y (record y { quiet = transport.quieter y.quiet; inner = (M.turns (transport.quieter y.quiet) y.inner).after }) (at M W s log).desk.served refl before
      by before false = before
