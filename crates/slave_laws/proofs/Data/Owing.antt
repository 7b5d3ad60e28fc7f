-- A slave owes data of its own ids alone.
use Rattle.std.proofs.Common.{◌≡◌, ℕ, ◌%◌, ◌<◌, ◌≤◌, ◌==◌, ◌&&◌, nat_lt, Bool, true, false, if◌then◌else◌, List, [], ◌∷◌, ◌++◌, map, length, Option, Some, None, refl, sym, ap, ◌∙◌, subst, arith, ℤ}
use Rattle.std.specs.Prelude.{filter, option_map, reverse}
use Rattle.std.specs.List.{filter_map, cons_option, list_all}
use Rattle.std.proofs.lemmas.Bool.{and_parts, eqb-true, lt-ltb, ltb-true}
use Rattle.dcp_types.specs.declared.addresses.Address.{Address}
use Rattle.dcp_types.specs.declared.states.State.{State}
use Rattle.dcp_ends.specs.Events.{Send}
use Rattle.dcp_ends.specs.declared.entries.LogEntry.{LogEntry}
use Rattle.dcp_ends.specs.declared.entries.LogEntry.TheVariants.{Sent, Got, Idle, Turn}
use Rattle.pdu_layout.specs.declared.messages.Cfg.{Cfg}
use Rattle.pdu_layout.specs.declared.messages.Cfg.TheVariants as cfg
use Rattle.slave_desc.specs.declared.descriptions.SlaveDesc.{SlaveDesc}
use Rattle.scenario.specs.declared.scenarios.Scenario.{Scenario}
use Rattle.scenario.specs.Sound.{IsScenario}
use Rattle.plan_laws.proofs.Told.{all_ids}
use Rattle.log_spec.specs.Messages.{Value, value_of_id}
use Rattle.log_spec.specs.Log as logs
use Rattle.log_spec.specs.Log.{Parties, same, role_heard}
use Rattle.log_spec.specs.Moves.{Move, Asks, Comes, Tells, Hears, Brings, Turns, Rests, Other, move}
use Rattle.lockstep_laws.specs.Slaves.{Post, tail}
use Rattle.lockstep_laws.specs.Asked.{AskedAsPlanned}
use Rattle.lockstep_laws.specs.Models.Machines.{values_owed}
use Rattle.slave_spec.specs.Changes.{Change, Set, Restart, output, entries, has_id, ids, target, ordinal, is_due}
use Rattle.slave_spec.specs.Payloads.{port_type, output_value, bytes_for, payload, data_message}
use Rattle.slave_spec.specs.Refusals.{port_with}
use Rattle.std.proofs.lemmas.List.{length-reverse}
use Rattle.slave_spec.specs.declared.words.SlaveSetup.{SlaveSetup}
use Rattle.slave_spec.specs.declared.words.Session.{Session}
use Rattle.slave_spec.specs.declared.words.Session.TheVariants.{Before, During, After}
use Rattle.slave_spec.specs.declared.words.Fate.{Fate}
use Rattle.slave_spec.specs.declared.words.Fate.TheVariants.{Dropped, Refused, Repeated, Taken}
use Rattle.slave_spec.specs.declared.words.SlaveRequest as req
use Rattle.slave_spec.specs.Heard as spec
use Rattle.slave_spec.specs.Transport as transport
use Rattle.slave_spec.specs.Transport.{SlaveState, Parcel, parcel_send}
use Rattle.slave_spec.specs.Plants.{Plant}
use Rattle.slave_spec.specs.Requests.{answers}
use Rattle.slave_spec.specs.Turns.{Act, Stay, Wait, Fault, Step, Pass, act, parcel, data_parcels, is_sending_state, values, turned, turns}
use Rattle.slave_spec.specs.Slaves.{machine}
use Rattle.slave_laws.specs.Talk.Desks.{post, Both, got, ticked, sent_next, at, events_of_slave, AreElse, AreAnswersKept, IsReadBack}
use Rattle.slave_laws.proofs.Talk.Meets.{slave_is}
use Rattle.slave_laws.specs.Talk.Sends.{ReadsMessages}
use Rattle.slave_laws.specs.Talk.Ranges.{AreBytes, SettingFits, SettingsFit, PayloadsFit, SlaveFits}
use Rattle.slave_laws.proofs.Talk.Bytes.{digits_are, value_length, parts_are, parts_length}
use Rattle.slave_laws.proofs.Talk.Spelt.{data_is}
use Rattle.slave_laws.proofs.Talk.Sending.{in_range, sends_back}
use Rattle.plan_laws.specs.Course.Courses.{may}
use Rattle.slave_laws.specs.Wiring.Wired.{is_past, is_during}
use Rattle.slave_laws.proofs.Wiring.Counting.{outputs_go_on}
use Rattle.slave_laws.specs.Wiring.Links.{sender_of}
use Rattle.slave_laws.proofs.Wiring.Planned.{senders}
use Rattle.slave_laws.specs.Data.Made.{setup_at, parties}
use Rattle.slave_laws.specs.Data.Holding.{OwesItsOwn}
use Rattle.slave_laws.proofs.Data.Held.{of_scenario, reads}

-- ---- no data of an id is among what is owed
abbrev pub NoneOf : Parties → ℕ → List Post → Type 0
NoneOf w id [] = Unit {0}
NoneOf w id (p ∷ posts) = (value_of_id id (role_heard w p.bytes) ≡ None) × NoneOf w id posts

pub none_owed : (w : Parties) (id : ℕ) (posts : List Post) → NoneOf w id posts → values_owed w id posts ≡ []
none_owed w id [] h = refl
none_owed w id (p ∷ posts) h = ap (λ o. cons_option o (values_owed w id posts)) h.0 ∙ none_owed w id posts h.1

pub none_joined : (w : Parties) (id : ℕ) (xs ys : List Post) → NoneOf w id xs → NoneOf w id ys → NoneOf w id (xs ++ ys)
none_joined w id [] ys h k = k
none_joined w id (x ∷ xs) ys h k = (h.0, none_joined w id xs ys h.1 k)

none_tail : (w : Parties) (id : ℕ) (posts : List Post) → NoneOf w id posts → NoneOf w id (tail posts)
none_tail w id [] h = tt
none_tail w id (p ∷ posts) h = h.1

-- ---- answers and notices are none
pub notices_none : (w : Parties) (id : ℕ) (ps : List Send) → AreElse w ps → NoneOf w id (map post ps)
notices_none w id [] h = tt
notices_none w id (p ∷ ps) h = (ap (value_of_id id) h.0, notices_none w id ps h.1)

module _ (s : SlaveSetup) (w : Parties) (id : ℕ) where
  kept_none : (to : Address) (served : List transport.Exchange) → AreAnswersKept w to served → NoneOf w id (map post (transport.again to served))
  kept_none to [] h = tt
  kept_none to (e ∷ served) h = (ap (value_of_id id) h, tt)

  request_none : (x : SlaveState Plant) → IsReadBack (machine s) w x → (from : Address) (bytes : List ℕ) (r : req.SlaveRequest) → spec.heard bytes ≡ spec.Asks r → (f : Fate) → NoneOf w id (map post (transport.request_sends (machine s) x from r f))
  request_none x rb from bytes r e Dropped = tt
  request_none x rb from bytes r e (Refused code) = (ap (value_of_id id) (rb.refusal bytes r e from code), tt)
  request_none x rb from bytes r e Repeated = kept_none from x.served (rb.again from)
  request_none x rb from bytes r e Taken = let h = rb.answer bytes r e from in (ap (value_of_id id) h.0, notices_none w id (transport.notice_sends from r.receiver (answers s r.asked x.inner).notices) h.1)

  pub heard_none : (x : SlaveState Plant) → IsReadBack (machine s) w x → (from : Address) (bytes : List ℕ) (h : spec.Heard) → spec.heard bytes ≡ h → NoneOf w id (map post (transport.heard_sends (machine s) x from h))
  heard_none x rb from bytes (spec.Asks r) e = request_none x rb from bytes r e (transport.fate (machine s) x from r)
  heard_none x rb from bytes (spec.Brings number i payload') e = tt
  heard_none x rb from bytes spec.Nothing e = tt

-- ---- data ids have sixteen bits
small_more : (body : Cfg) (changes : List Change) (id : ℕ) → SettingFits (Set body) → (has_id output id changes ≡ true → id < 65536) → has_id output id (Set body ∷ changes) ≡ true → id < 65536
small_more (cfg.Output i position vr) changes id f g h = by (i == id) refl h
  where
    by : (b : Bool) → (i == id) ≡ b → nat_lt 0 (length (cons_option (if b then Some vr else None) (entries output id changes))) ≡ true → id < 65536
    by true e k = let same : i ≡ id = eqb-true i id e in omega (arith, f, same)
    by false e k = g k
small_more (cfg.Parameter vr kind value) changes id f g h = g h
small_more (cfg.Logging category level mode) changes id f g h = g h
small_more cfg.Clear changes id f g h = g h
small_more (cfg.TimeRes a b) changes id f g h = g h
small_more (cfg.Steps a b) changes id f g h = g h
small_more (cfg.Input a b c d) changes id f g h = g h
small_more (cfg.Target a) changes id f g h = g h
small_more (cfg.Source a) changes id f g h = g h
small_more (cfg.Tunable a b c d) changes id f g h = g h
small_more (cfg.ParamNet a b c d) changes id f g h = g h
small_more (cfg.Scope a b) changes id f g h = g h

pub small_ids : (changes : List Change) (id : ℕ) → SettingsFit changes → has_id output id changes ≡ true → id < 65536
small_ids [] id f h = absurd cc
small_ids (Set body ∷ changes) id f h = small_more body changes id f.0 (small_ids changes id f.1) h
small_ids (Restart n ∷ changes) id f h = small_ids changes id f.1 h

-- ---- the data of a turn is of the slave's ids
abbrev pub is_other : (id : ℕ) → ℕ → Bool
is_other id i = nat_lt i 65536 && (if i == id then false else true)

pub payload_are : (d : SlaveDesc) (id : ℕ) (changes : List Change) (vs : List ℤ) → AreBytes (payload d id changes vs)
payload_are d id changes vs = parts_are (bytes_for d.outputs vs) (reverse (entries output id changes)) (λ vr. digits_are _ _)

pub payload_length : (d : SlaveDesc) (id : ℕ) (changes : List Change) (vs : List ℤ) → PayloadsFit changes → length (payload d id changes vs) ≤ 64
payload_length d id changes vs h =
    let all = parts_length (bytes_for d.outputs vs) 8 (reverse (entries output id changes)) (λ vr. value_length (port_type (port_with vr d.outputs)) (output_value vr d.outputs vs)) in
    omega (arith, all, length-reverse (entries output id changes), h id)

pub all_chosen : (t f : ℕ → Bool) (xs : List ℕ) → list_all f xs ≡ true → list_all f (filter t xs) ≡ true
all_chosen t f [] h = refl
all_chosen t f (x ∷ xs) h = by (all_chosen t f xs (and_parts (f x) (list_all f xs) h).1) (t x)
  where
    by : list_all f (filter t xs) ≡ true → (b : Bool) → list_all f (if b then x ∷ filter t xs else filter t xs) ≡ true
    by k true = both (f x) (list_all f (filter t xs)) (and_parts (f x) (list_all f xs) h).0 k
      where
        both : (b c : Bool) → b ≡ true → c ≡ true → (b && c) ≡ true
        both true true e g = refl
        both true false e g = g
        both false c e g = e
    by k false = k

module _ (w : Parties) (rd : ReadsMessages w) (d : SlaveDesc) (changes : List Change) (steps : ℕ) (vs : List ℤ) (fits : PayloadsFit changes) (id : ℕ) where
  pub other_value : (i : ℕ) (k : _) → (if i == id then false else true) ≡ true → value_of_id id (Value i k) ≡ None
  other_value i k h = by (i == id) h
    where
      by : (b : Bool) → (if b then false else true) ≡ true → (if b then Some k else None) ≡ None
      by true e = absurd cc
      by false e = refl

  pub parcels_none : (is : List ℕ) → list_all (is_other id) is ≡ true → NoneOf w id (map post (map parcel_send (filter_map (parcel d changes steps vs) is)))
  parcels_none [] h = tt
  parcels_none (i ∷ is) h = by (parcels_none is all.1) (target i changes)
    where
      all : (is_other id i ≡ true) × (list_all (is_other id) is ≡ true)
      all = and_parts (is_other id i) (list_all (is_other id) is) h

      number : ℕ
      number = ordinal output i changes steps % 65536

      here : value_of_id id (role_heard w (transport.send (record { ip = 0; port = 0 }) (data_message number i (payload d i changes vs))).bytes) ≡ None
      here =
          let a = and_parts (nat_lt i 65536) (if i == id then false else true) all.0 in
          ap (value_of_id id) (data_is w rd number i (payload d i changes vs) (omega arith) (ltb-true i 65536 a.0) (payload_are d i changes vs) (payload_length d i changes vs fits)) ∙ other_value i _ a.1

      by : NoneOf w id (map post (map parcel_send (filter_map (parcel d changes steps vs) is))) → (o : Option Address) → NoneOf w id (map post (map parcel_send (cons_option (option_map (λ (to : Address). record { to = to; message = data_message number i (payload d i changes vs) }) o) (filter_map (parcel d changes steps vs) is))))
      by r None = r
      by r (Some to) = (here, r)

  data_none : list_all (is_other id) (ids output changes) ≡ true → NoneOf w id (map post (map parcel_send (data_parcels d changes steps vs)))
  data_none h = parcels_none (filter (λ i. is_due output i changes steps) (ids output changes)) (all_chosen (λ i. is_due output i changes steps) (is_other id) (ids output changes) h)

pub sending_past : (t : State) → is_sending_state t ≡ true → is_past t ≡ true
sending_past t h = grind arith

pub not_same : (i id n m : ℕ) → i < 65536 → n ≡ m → (i ≡ id → n ≡ m → ⊥) → ((nat_lt i 65536) && (if i == id then false else true)) ≡ true
not_same i id n m lt e f = by (nat_lt i 65536) (lt-ltb i 65536 lt) (i == id) refl
  where
    by : (a : Bool) → a ≡ true → (b : Bool) → (i == id) ≡ b → (a && (if b then false else true)) ≡ true
    by true g true k = absurd (f (eqb-true i id k) e)
    by true g false k = refl
    by false g b k = absurd cc

pub map_joined : (xs ys : List Send) → map post (xs ++ ys) ≡ map post xs ++ map post ys
map_joined [] ys = refl
map_joined (x ∷ xs) ys = ap (λ l. post x ∷ l) (map_joined xs ys)

module _ (sc : Scenario) (other : SlaveDesc) (ok : IsScenario sc) (s : ℕ) (is : logs.IsSlaveOf (parties sc other) s) (id : ℕ) (no' : sender_of sc id ≡ s → ⊥) where
  abbrev W : Parties
  W = parties sc other

  abbrev X : SlaveSetup
  X = setup_at sc other s

  -- where data is sent
  sent_none : (log : List LogEntry) → AskedAsPlanned (may sc s X.desc) (at (machine X) W s log).desk.served → is_during (at (machine X) W s log).slave.session ≡ true → (let p = (at (machine X) W s log).slave.inner in is_sending_state p.state ≡ true → NoneOf W id (map post (map parcel_send (data_parcels X.desc p.wires.changes p.steps (values p.model)))))
  sent_none log a e h =
      let p = (at (machine X) W s log).slave.inner in
      let of = of_scenario sc other ok s is in
      let P : SlaveState Plant → Type 0 = SlaveFits in
      let fits = subst P (sym (slave_is (machine X) W s log)) (in_range X (events_of_slave W s log)) in
      let known : (i : ℕ) → has_id output i p.wires.changes ≡ true → is_other id i ≡ true
      = λ i k.
      let g = outputs_go_on sc s X W of (reads sc other) log a e (sending_past p.state h) i in
      let mine = senders sc s X.desc of i (sym g.known ∙ k) in
      not_same i id (sender_of sc i) s (small_ids p.wires.changes i fits.inner.settings k) mine (λ q r. no' (ap (sender_of sc) (sym q) ∙ r)) in
      data_none W (reads sc other) X.desc p.wires.changes p.steps (values p.model) fits.inner.payloads id (all_ids output (is_other id) p.wires.changes known)

  parcels_owed : (log : List LogEntry) → AskedAsPlanned (may sc s X.desc) (at (machine X) W s log).desk.served → is_during (at (machine X) W s log).slave.session ≡ true → (a : Act) → NoneOf W id (map post (map parcel_send (turned X (at (machine X) W s log).slave.inner a).parcels))
  parcels_owed log o e Stay = tt
  parcels_owed log o e (Wait left) = tt
  parcels_owed log o e (Fault code) = tt
  parcels_owed log o e (Step x) = tt
  parcels_owed log o e Pass = by (is_sending_state p.state) (sent_none log o e)
    where
      p : Plant
      p = (at (machine X) W s log).slave.inner

      by : (b : Bool) → (b ≡ true → NoneOf W id (map post (map parcel_send (data_parcels X.desc p.wires.changes p.steps (values p.model))))) → NoneOf W id (map post (map parcel_send (if b then data_parcels X.desc p.wires.changes p.steps (values p.model) else [])))
      by true f = f refl
      by false f = tt

  turn_none : (log : List LogEntry) → AskedAsPlanned (may sc s X.desc) (at (machine X) W s log).desk.served → (let x = (at (machine X) W s log).slave in (session : Session) → x.session ≡ session → NoneOf W id (map post (transport.turn_sends (machine X) session x)))
  turn_none log o Before e = tt
  turn_none log o (During master i) e =
      let x = (at (machine X) W s log).slave in
      let t = turns X (transport.quieter x.quiet) x.inner in
      let rb = (sends_back X W s (reads sc other)).sends log in
      let h = rb.turn master i e in
      let P : List Post → Type 0 = NoneOf W id in
      subst P (sym (map_joined (map parcel_send t.parcels) (transport.notice_sends master i t.notices)))
      (none_joined W id (map post (map parcel_send t.parcels)) (map post (transport.notice_sends master i t.notices)) (parcels_owed log o (ap is_during e) (act X (transport.quieter x.quiet) x.inner)) (notices_none W id (transport.notice_sends master i t.notices) h.1))
  turn_none log o (After master i) e = tt

  -- ---- over a log
  sent_next_none : (mv : Move) (x : Both Plant) → NoneOf W id x.desk.owed → NoneOf W id (sent_next (machine X) W s mv x).desk.owed
  sent_next_none (Asks n) x h = h
  sent_next_none (Comes from receiver n) x h = h
  sent_next_none (Tells to bytes) x h = none_tail W id x.desk.owed h
  sent_next_none (Hears n) x h = h
  sent_next_none (Brings from i n) x h = h
  sent_next_none Turns x h = h
  sent_next_none Rests x h = h
  sent_next_none Other x h = h

  sent_served : (mv : Move) (x : Both Plant) → (sent_next (machine X) W s mv x).desk.served ≡ x.desk.served
  sent_served (Asks n) x = refl
  sent_served (Comes from receiver n) x = refl
  sent_served (Tells to bytes) x = refl
  sent_served (Hears n) x = refl
  sent_served (Brings from i n) x = refl
  sent_served Turns x = refl
  sent_served Rests x = refl
  sent_served Other x = refl

  pub none_at : (log : List LogEntry) → AskedAsPlanned (may sc s X.desc) (at (machine X) W s log).desk.served → NoneOf W id (at (machine X) W s log).desk.owed
  none_at [] a = tt
  none_at (Sent from to bytes ∷ log) a =
      let x = at (machine X) W s log in
      let mv = move W s (Sent from to bytes) in
      let P : List logs.DecidedRequest → Type 0 = AskedAsPlanned (may sc s X.desc) in
      sent_next_none mv x (none_at log (subst P (sent_served mv x) a))
  none_at (Got at' from bytes ∷ log) a = by (same at' (W.slave s)) (λ b. none_at log b) a
    where
      by : (b : Bool) → (AskedAsPlanned (may sc s X.desc) (at (machine X) W s log).desk.served → NoneOf W id (at (machine X) W s log).desk.owed) → AskedAsPlanned (may sc s X.desc) (if b then got (machine X) W s from bytes (at (machine X) W s log) else at (machine X) W s log).desk.served → NoneOf W id (if b then got (machine X) W s from bytes (at (machine X) W s log) else at (machine X) W s log).desk.owed
      by true f b = heard_none X W id (at (machine X) W s log).slave ((sends_back X W s (reads sc other)).sends log) from bytes (spec.heard bytes) refl
      by false f b = f b
  none_at (Idle at' ∷ log) a = none_at log a
  none_at (Turn at' ∷ log) a = by (same at' (W.slave s)) (λ b. none_at log b) a
    where
      by : (b : Bool) → (AskedAsPlanned (may sc s X.desc) (at (machine X) W s log).desk.served → NoneOf W id (at (machine X) W s log).desk.owed) → AskedAsPlanned (may sc s X.desc) (if b then ticked (machine X) W s (at (machine X) W s log) else at (machine X) W s log).desk.served → NoneOf W id (if b then ticked (machine X) W s (at (machine X) W s log) else at (machine X) W s log).desk.owed
      by true f b = turn_none log b (at (machine X) W s log).slave.session refl
      by false f b = f b

pub owes_own : OwesItsOwn
owes_own sc other ok s is log o id no' = none_owed (parties sc other) id (at (machine (setup_at sc other s)) (parties sc other) s log).desk.owed (none_at sc other ok s is id no' log o.asked)
