-- A slave sends its data where the plan has it go.
use Rattle.std.proofs.Common.{◌≡◌, ℕ, ◌%◌, ◌<◌, Bool, true, false, if◌then◌else◌, Option, Some, None, List, [], ◌∷◌, ◌++◌, map, length, refl, sym, ap, ◌∙◌, subst, arith, ℤ}
use Rattle.std.specs.Prelude.{nat_lt, option_map, filter}
use Rattle.std.specs.List.{cons_option, list_all, filter_map}
use Rattle.std.proofs.lemmas.Bool.{and_parts, lt-ltb}
use Rattle.std.proofs.lemmas.Bool.Decides.{nat_tests}
use Rattle.dcp_types.specs.declared.addresses.Address.{Address}
use Rattle.dcp_ends.specs.Events.{Send}
use Rattle.dcp_ends.specs.declared.entries.LogEntry.{LogEntry}
use Rattle.dcp_ends.specs.declared.entries.LogEntry.TheVariants.{Sent, Got, Idle, Turn}
use Rattle.slave_desc.specs.declared.descriptions.SlaveDesc.{SlaveDesc}
use Rattle.scenario.specs.declared.scenarios.Scenario.{Scenario}
use Rattle.scenario.specs.Sound.{IsScenario}
use Rattle.master_spec.specs.declared.links.DataLink.{DataLink}
use Rattle.plan_laws.proofs.Told.{all_ids}
use Rattle.log_spec.specs.Messages.{Note, Role, Answer, Value, Else}
use Rattle.log_spec.specs.Log.{Parties, IsSlaveOf, same, role_heard}
use Rattle.log_spec.specs.Moves.{Move, Asks, Comes, Tells, Hears, Brings, Turns, Rests, Other, move}
use Rattle.lockstep_laws.specs.Slaves.{Post, IsFirstPost, tail}
use Rattle.lockstep_laws.specs.Asked.{AskedAsPlanned}
use Rattle.slave_spec.specs.Changes.{Change, output, ids, target, is_due, ordinal}
use Rattle.slave_spec.specs.Payloads.{payload, data_message}
use Rattle.slave_spec.specs.Heard as spec
use Rattle.slave_spec.specs.Transport as transport
use Rattle.slave_spec.specs.Transport.{SlaveState, parcel_send}
use Rattle.slave_spec.specs.Plants.{Plant}
use Rattle.slave_spec.specs.Slaves.{machine}
use Rattle.slave_spec.specs.Turns.{Act, Stay, Wait, Fault, Step, Pass, act, parcel, data_parcels, is_sending_state, values, turned, turns}
use Rattle.slave_spec.specs.declared.words.SlaveSetup.{SlaveSetup}
use Rattle.slave_spec.specs.declared.words.SlaveRequest as req
use Rattle.slave_spec.specs.declared.words.Session.{Session}
use Rattle.slave_spec.specs.declared.words.Session.TheVariants.{Before, During, After}
use Rattle.slave_spec.specs.declared.words.Fate.{Fate}
use Rattle.slave_spec.specs.declared.words.Fate.TheVariants.{Dropped, Refused, Repeated, Taken}
use Rattle.slave_laws.specs.Talk.Desks.{post, answer_note, Both, sent_next, got, ticked, at, events_of_slave, AreElse, IsAnswer, AreAnswersKept, IsReadBack}
use Rattle.slave_laws.proofs.Talk.Meets.{slave_is}
use Rattle.slave_laws.specs.Talk.Ranges.{SlaveFits, PayloadsFit}
use Rattle.slave_laws.proofs.Talk.Spelt.{data_is}
use Rattle.slave_laws.proofs.Talk.Sending.{in_range, sends_back}
use Rattle.plan_laws.specs.Course.Courses.{may}
use Rattle.slave_laws.specs.Wiring.Wired.{is_during}
use Rattle.slave_laws.proofs.Wiring.Courses.{is_planned}
use Rattle.slave_laws.specs.Data.Made.{setup_at, parties}
use Rattle.slave_laws.proofs.Data.Held.{of_scenario, reads}
use Rattle.slave_laws.proofs.Data.Owing.{small_ids, payload_are, payload_length, all_chosen, sending_past, map_joined}
use Rattle.completeness_laws.proofs.Delivery.Addresses.{IsLinkAt, AllRight, right_target, planned_right}

module _ (sc : Scenario) (other : SlaveDesc) (ok : IsScenario sc) (s : ℕ) (it : IsSlaveOf (parties sc other) s) where
  abbrev W : Parties
  W = parties sc other

  abbrev X : SlaveSetup
  X = setup_at sc other s

  abbrev Goes : Post → Type 0
  Goes p = (id : ℕ) (n : Note) → role_heard W p.bytes ≡ Value id n → IsLinkAt sc id (λ (l : DataLink). l.to) p.to

  abbrev AllGo : List Post → Type 0
  AllGo [] = Unit {0}
  AllGo (p ∷ ps) = Goes p × AllGo ps

  all_joined : (xs ys : List Post) → AllGo xs → AllGo ys → AllGo (xs ++ ys)
  all_joined [] ys a b = b
  all_joined (x ∷ xs) ys a b = (a.0, all_joined xs ys a.1 b)

  no_else : (k : Role) (id : ℕ) (n : Note) → k ≡ Else → k ≡ Value id n → ⊥
  no_else k id n e f = let z : Else ≡ Value id n = sym e ∙ f in cc

  no_answer : (k : Role) (sender id : ℕ) (a n : Note) → k ≡ Answer sender a → k ≡ Value id n → ⊥
  no_answer k sender id a n e f = let z : Answer sender a ≡ Value id n = sym e ∙ f in cc

  notices_go : (ps : List Send) → AreElse W ps → AllGo (map post ps)
  notices_go [] h = tt
  notices_go (p ∷ ps) h = (λ id n e. absurd (no_else (role_heard W p.bytes) id n h.0 e), notices_go ps h.1)

  answer_goes : (to : Address) (r : req.SlaveRequest) (next : ℕ) (a : transport.SlaveAnswer) → IsAnswer W to r next a → Goes (post (transport.send to (transport.answer_message r next a)))
  answer_goes to r next a h id n e = absurd (no_answer (role_heard W (transport.send to (transport.answer_message r next a)).bytes) r.receiver id (answer_note r next a) n h e)

  again_goes : (to : Address) (served : List transport.Exchange) → AreAnswersKept W to served → AllGo (map post (transport.again to served))
  again_goes to [] h = tt
  again_goes to (e ∷ served) h = (answer_goes to e.request (transport.expected (e ∷ served)) e.answer h, tt)

  request_goes : (x : SlaveState Plant) → IsReadBack (machine X) W x → (from : Address) (bytes : List ℕ) (r : req.SlaveRequest) → spec.heard bytes ≡ spec.Asks r → (f : Fate) → AllGo (map post (transport.request_sends (machine X) x from r f))
  request_goes x rb from bytes r e Dropped = tt
  request_goes x rb from bytes r e (Refused code) = (answer_goes from r (transport.expected x.served) (transport.Nack code) (rb.refusal bytes r e from code), tt)
  request_goes x rb from bytes r e Repeated = again_goes from x.served (rb.again from)
  request_goes x rb from bytes r e Taken =
      let a = (machine X).answers r.asked x.inner in
      let h = rb.answer bytes r e from in
      (answer_goes from r (transport.expected (record { request = r; answer = a.answer } ∷ x.served)) a.answer h.0, notices_go (transport.notice_sends from r.receiver a.notices) h.1)

  heard_goes : (x : SlaveState Plant) → IsReadBack (machine X) W x → (from : Address) (bytes : List ℕ) (h : spec.Heard) → spec.heard bytes ≡ h → AllGo (map post (transport.heard_sends (machine X) x from h))
  heard_goes x rb from bytes (spec.Asks r) e = request_goes x rb from bytes r e (transport.fate (machine X) x from r)
  heard_goes x rb from bytes (spec.Brings number i payload') e = tt
  heard_goes x rb from bytes spec.Nothing e = tt

  -- ---- data messages
  abbrev is_small : ℕ → Bool
  is_small i = nat_lt i 65536

  same_id : (i id : ℕ) (a n : Note) → Value i a ≡ Value id n → i ≡ id
  same_id i id a n e = cc

  below : (i : ℕ) → nat_lt i 65536 ≡ true → i < 65536
  below i e = grind (arith, nat_tests, e)

  parcels_go : (changes : List Change) (steps : ℕ) (vs : List ℤ) → PayloadsFit changes → AllRight sc changes → (is : List ℕ) → list_all is_small is ≡ true → AllGo (map post (map parcel_send (filter_map (parcel X.desc changes steps vs) is)))
  parcels_go changes steps vs fits right [] h = tt
  parcels_go changes steps vs fits right (i ∷ is) h = by (target i changes) refl (parcels_go changes steps vs fits right is (and_parts (is_small i) (list_all is_small is) h).1)
    where
      number : ℕ
      number = ordinal output i changes steps % 65536

      read : role_heard W (transport.send (record { ip = 0; port = 0 }) (data_message (ordinal output i changes steps % 65536) i (payload X.desc i changes vs))).bytes ≡ Value i (record { number = ordinal output i changes steps % 65536; message = data_message (ordinal output i changes steps % 65536) i (payload X.desc i changes vs) })
      read = data_is W (reads sc other) (ordinal output i changes steps % 65536) i (payload X.desc i changes vs) (omega arith) (below i (and_parts (is_small i) (list_all is_small is) h).0) (payload_are X.desc i changes vs) (payload_length X.desc i changes vs fits)

      by : (o : Option Address) → target i changes ≡ o → AllGo (map post (map parcel_send (filter_map (parcel X.desc changes steps vs) is)))
          → AllGo (map post (map parcel_send (cons_option (option_map (λ to. record { to = to; message = data_message (ordinal output i changes steps % 65536) i (payload X.desc i changes vs) }) o) (filter_map (parcel X.desc changes steps vs) is))))
      by None e f = f
      by (Some to) e f = (λ id n z. (let y = same_id i id (record { number = ordinal output i changes steps % 65536; message = data_message (ordinal output i changes steps % 65536) i (payload X.desc i changes vs) }) n (sym read ∙ z) in let P : ℕ → Type 0 = λ j. IsLinkAt sc j (λ (l : DataLink). l.to) to in subst P y (right_target sc changes i to right e)), f)

  data_go : (log : List LogEntry) → AskedAsPlanned (may sc s X.desc) (at (machine X) W s log).desk.served → is_during (at (machine X) W s log).slave.session ≡ true → (let p = (at (machine X) W s log).slave.inner in is_sending_state p.state ≡ true → AllGo (map post (map parcel_send (data_parcels X.desc p.wires.changes p.steps (values p.model)))))
  data_go log a e h =
      let p = (at (machine X) W s log).slave.inner in
      let of = of_scenario sc other ok s it in
      let P : SlaveState Plant → Type 0 = SlaveFits in
      let fits = subst P (sym (slave_is (machine X) W s log)) (in_range X (events_of_slave W s log)) in
      let Q : List Change → Type 0 = AllRight sc in
      let right = subst Q (sym (is_planned sc s X W of (reads sc other) log a e (sending_past p.state h))) (planned_right sc s X.desc of (length p.earlier)) in
      let small = all_ids output is_small p.wires.changes (λ i k. lt-ltb i 65536 (small_ids p.wires.changes i fits.inner.settings k)) in
      parcels_go p.wires.changes p.steps (values p.model) fits.inner.payloads right (filter (λ i. is_due output i p.wires.changes p.steps) (ids output p.wires.changes)) (all_chosen (λ i. is_due output i p.wires.changes p.steps) is_small (ids output p.wires.changes) small)

  parcels_owed : (log : List LogEntry) → AskedAsPlanned (may sc s X.desc) (at (machine X) W s log).desk.served → is_during (at (machine X) W s log).slave.session ≡ true → (a : Act) → AllGo (map post (map parcel_send (turned X (at (machine X) W s log).slave.inner a).parcels))
  parcels_owed log o e Stay = tt
  parcels_owed log o e (Wait left) = tt
  parcels_owed log o e (Fault code) = tt
  parcels_owed log o e (Step x) = tt
  parcels_owed log o e Pass = by (is_sending_state p.state) (data_go log o e)
    where
      p : Plant
      p = (at (machine X) W s log).slave.inner

      by : (b : Bool) → (b ≡ true → AllGo (map post (map parcel_send (data_parcels X.desc p.wires.changes p.steps (values p.model))))) → AllGo (map post (map parcel_send (if b then data_parcels X.desc p.wires.changes p.steps (values p.model) else [])))
      by true f = f refl
      by false f = tt

  turn_goes : (log : List LogEntry) → AskedAsPlanned (may sc s X.desc) (at (machine X) W s log).desk.served → (let x = (at (machine X) W s log).slave in (session : Session) → x.session ≡ session → AllGo (map post (transport.turn_sends (machine X) session x)))
  turn_goes log o Before e = tt
  turn_goes log o (During master i) e =
      let x = (at (machine X) W s log).slave in
      let t = turns X (transport.quieter x.quiet) x.inner in
      let h = ((sends_back X W s (reads sc other)).sends log).turn master i e in
      let P : List Post → Type 0 = AllGo in
      subst P (sym (map_joined (map parcel_send t.parcels) (transport.notice_sends master i t.notices)))
      (all_joined (map post (map parcel_send t.parcels)) (map post (transport.notice_sends master i t.notices)) (parcels_owed log o (ap is_during e) (act X (transport.quieter x.quiet) x.inner)) (notices_go (transport.notice_sends master i t.notices) h.1))
  turn_goes log o (After master i) e = tt

  -- ---- over a log
  tail_goes : (ps : List Post) → AllGo ps → AllGo (tail ps)
  tail_goes [] h = tt
  tail_goes (p ∷ ps) h = h.1

  sent_next_goes : (mv : Move) (x : Both Plant) → AllGo x.desk.owed → AllGo (sent_next (machine X) W s mv x).desk.owed
  sent_next_goes (Asks n) x h = h
  sent_next_goes (Comes from receiver n) x h = h
  sent_next_goes (Tells to bytes) x h = tail_goes x.desk.owed h
  sent_next_goes (Hears n) x h = h
  sent_next_goes (Brings from i n) x h = h
  sent_next_goes Turns x h = h
  sent_next_goes Rests x h = h
  sent_next_goes Other x h = h

  sent_served : (mv : Move) (x : Both Plant) → (sent_next (machine X) W s mv x).desk.served ≡ x.desk.served
  sent_served (Asks n) x = refl
  sent_served (Comes from receiver n) x = refl
  sent_served (Tells to bytes) x = refl
  sent_served (Hears n) x = refl
  sent_served (Brings from i n) x = refl
  sent_served Turns x = refl
  sent_served Rests x = refl
  sent_served Other x = refl

  all_go : (log : List LogEntry) → AskedAsPlanned (may sc s X.desc) (at (machine X) W s log).desk.served → AllGo (at (machine X) W s log).desk.owed
  all_go [] a = tt
  all_go (Sent from to bytes ∷ log) a =
      let x = at (machine X) W s log in
      let mv = move W s (Sent from to bytes) in
      let P : List _ → Type 0 = AskedAsPlanned (may sc s X.desc) in
      sent_next_goes mv x (all_go log (subst P (sent_served mv x) a))
  all_go (Got at' from bytes ∷ log) a = by (same at' (W.slave s)) (λ b. all_go log b) a
    where
      by : (b : Bool) → (AskedAsPlanned (may sc s X.desc) (at (machine X) W s log).desk.served → AllGo (at (machine X) W s log).desk.owed) → AskedAsPlanned (may sc s X.desc) (if b then got (machine X) W s from bytes (at (machine X) W s log) else at (machine X) W s log).desk.served → AllGo (if b then got (machine X) W s from bytes (at (machine X) W s log) else at (machine X) W s log).desk.owed
      by true f b = heard_goes (at (machine X) W s log).slave ((sends_back X W s (reads sc other)).sends log) from bytes (spec.heard bytes) refl
      by false f b = f b
  all_go (Idle at' ∷ log) a = all_go log a
  all_go (Turn at' ∷ log) a = by (same at' (W.slave s)) (λ b. all_go log b) a
    where
      by : (b : Bool) → (AskedAsPlanned (may sc s X.desc) (at (machine X) W s log).desk.served → AllGo (at (machine X) W s log).desk.owed) → AskedAsPlanned (may sc s X.desc) (if b then ticked (machine X) W s (at (machine X) W s log) else at (machine X) W s log).desk.served → AllGo (if b then ticked (machine X) W s (at (machine X) W s log) else at (machine X) W s log).desk.owed
      by true f b = turn_goes log b (at (machine X) W s log).slave.session refl
      by false f b = f b

  -- what it sends first goes where the plan has it
  pub first_goes : (log : List LogEntry) → AskedAsPlanned (may sc s X.desc) (at (machine X) W s log).desk.served → (to : Address) (bytes : List ℕ) → IsFirstPost (at (machine X) W s log).desk.owed to bytes → (id : ℕ) (n : Note) → role_heard W bytes ≡ Value id n → IsLinkAt sc id (λ (l : DataLink). l.to) to
  first_goes log a to bytes f id n e = by (at (machine X) W s log).desk.owed (all_go log a) f
    where
      by : (ps : List Post) → AllGo ps → IsFirstPost ps to bytes → IsLinkAt sc id (λ (l : DataLink). l.to) to
      by [] g k = absurd k
      by (p ∷ ps) g k = let P : Address → Type 0 = λ x. IsLinkAt sc id (λ (l : DataLink). l.to) x in subst P k.0 (g.0 id n (ap (role_heard W) k.1 ∙ e))
