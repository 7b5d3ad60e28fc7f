-- How much a slave sends at one event, and where to.
use Rattle.std.proofs.Common.{◌≡◌, ℕ, ◌+◌, ◌%◌, ◌<◌, ◌≤◌, Bool, true, false, if◌then◌else◌, ◌⊎◌, inl, inr, Option, Some, None, List, [], ◌∷◌, ◌++◌, map, length, refl, sym, ap, ◌∙◌, subst, arith, ℤ}
use Rattle.std.specs.Prelude.{◌==◌, nat_lt, option_map, filter}
use Rattle.std.specs.List.{cons_option, list_all, filter_map}
use Rattle.std.proofs.lemmas.Bool.{and_parts, eq-eqb, eqb-true}
use Rattle.std.proofs.lemmas.Bool.Decides.{nat_tests}
use Rattle.dcp_types.specs.declared.addresses.Address.{Address}
use Rattle.dcp_ends.specs.Logs.{same_address}
use Rattle.dcp_ends.specs.Events.{Send}
use Rattle.dcp_ends.specs.declared.entries.LogEntry.{LogEntry}
use Rattle.slave_desc.specs.declared.descriptions.SlaveDesc.{SlaveDesc}
use Rattle.scenario.specs.declared.scenarios.Scenario.{Scenario}
use Rattle.scenario.specs.Sound.{IsScenario}
use Rattle.master_spec.specs.declared.links.DataLink.{DataLink}
use Rattle.master_spec.specs.PlanSetup.{address_at}
use Rattle.plan_laws.proofs.Told.{all_ids}
use Rattle.log_spec.specs.Log.{Parties, IsSlaveOf, IsEnd}
use Rattle.lockstep_laws.specs.Slaves.{Post}
use Rattle.lockstep_laws.specs.Asked.{AskedAsPlanned}
use Rattle.slave_spec.specs.Changes.{Change, Entry, output, ids, has_id, target, is_due, ordinal, put_ascending, ascending}
use Rattle.slave_spec.specs.Payloads.{payload, data_message}
use Rattle.slave_spec.specs.Heard as spec
use Rattle.slave_spec.specs.Transport as transport
use Rattle.slave_spec.specs.Transport.{SlaveState, parcel_send, Notice}
use Rattle.slave_spec.specs.Plants.{Plant}
use Rattle.slave_spec.specs.declared.words.SlaveSetup.{SlaveSetup}
use Rattle.slave_spec.specs.Requests.{refusal}
use Rattle.slave_spec.specs.Turns.{Act, Stay, Wait, Fault, Step, Pass, act, parcel, data_parcels, is_sending_state, values, turned, turns}
use Rattle.slave_spec.specs.Slaves.{machine}
use Rattle.slave_spec.specs.declared.words.SlaveRequest as req
use Rattle.slave_spec.specs.declared.words.Session.{Session}
use Rattle.slave_spec.specs.declared.words.Session.TheVariants.{Before, During, After}
use Rattle.slave_spec.specs.declared.words.Fate.{Fate}
use Rattle.slave_spec.specs.declared.words.Fate.TheVariants.{Dropped, Refused, Repeated, Taken}
use Rattle.slave_laws.specs.Talk.Desks.{post, at}
use Rattle.plan_laws.specs.Course.Courses.{may}
use Rattle.slave_laws.specs.Wiring.Wired.{is_during}
use Rattle.slave_laws.proofs.Wiring.Courses.{is_planned}
use Rattle.slave_laws.proofs.Wiring.Counting.{outputs_go_on}
use Rattle.slave_laws.specs.Wiring.Links.{data_link_of, from_of, sender_of}
use Rattle.slave_laws.proofs.Wiring.Planned.{senders}
use Rattle.slave_laws.specs.Data.Made.{setup_at, parties}
use Rattle.slave_laws.proofs.Data.Held.{of_scenario, reads}
use Rattle.slave_laws.proofs.Data.Owing.{all_chosen, sending_past, map_joined}
use Rattle.completeness_laws.proofs.Delivery.Addresses.{AllRight, right_target, planned_right}
use Rattle.completeness_laws.specs.Quiet.{AllToEnds, posts_to}
use Rattle.completeness_laws.proofs.Quiet.Lists.{bit}
use Rattle.completeness_laws.proofs.Quiet.Fronts.{address_is}
use Rattle.completeness_laws.proofs.Quiet.Links.{link_end, one_id}
use Rattle.completeness_laws.proofs.Quiet.Plain.{IsPlainAsked, IsPlainHeard}
use Rattle.completeness_laws.proofs.Quiet.Mute.{IsMute, answered_mute, turned_mute}

pub posts_more : (a : Address) (p : Post) (ps : List Post) → posts_to a (p ∷ ps) ≡ bit (same_address p.to a) + posts_to a ps
posts_more a p ps = by (same_address p.to a)
  where
    by : (b : Bool) → (if b then posts_to a ps + 1 else posts_to a ps) ≡ bit b + posts_to a ps
    by true = omega arith
    by false = omega arith

posts_append : (a : Address) (xs ys : List Post) → posts_to a (xs ++ ys) ≡ posts_to a xs + posts_to a ys
posts_append a [] ys = omega arith
posts_append a (x ∷ xs) ys = let h = posts_append a xs ys in let k = posts_more a x (xs ++ ys) in let l = posts_more a x xs in omega (arith, h, k, l)

-- ---- at a datagram: nothing, or one message to its sender
abbrev pub OneBack : Address → List Send → Type 0
OneBack from ps = (ps ≡ []) ⊎ ((bytes : List ℕ) × (ps ≡ record { to = from; bytes = bytes } ∷ []))

module _ (d : SlaveSetup) (x : SlaveState Plant) (m : IsMute x.inner.log) (from : Address) where
  request_back : (r : req.SlaveRequest) → IsPlainAsked r.asked → (f : Fate) → OneBack from (transport.request_sends (machine d) x from r f)
  request_back r p Dropped = inl refl
  request_back r p (Refused code) = inr (_, refl)
  request_back r p Repeated = by x.served
    where
      by : (es : List transport.Exchange) → OneBack from (transport.again from es)
      by [] = inl refl
      by (e ∷ es) = inr (_, refl)
  request_back r p Taken =
      let a = (machine d).answers r.asked x.inner in
      let e = (answered_mute d x.inner m r.asked p (refusal d x.inner r.asked)).none in
      let first = transport.send from (transport.answer_message r (transport.expected (record { request = r; answer = a.answer } ∷ x.served)) a.answer) in
      inr (first.bytes, ap (λ (ns : List Notice). first ∷ transport.notice_sends from r.receiver ns) e)

  pub heard_back : (h : spec.Heard) → IsPlainHeard h → OneBack from (transport.heard_sends (machine d) x from h)
  heard_back (spec.Asks r) p = request_back r p (transport.fate (machine d) x from r)
  heard_back (spec.Brings number id payload') p = inl refl
  heard_back spec.Nothing p = inl refl

-- ---- at a turn: data, one message to each end, and one notice to the master
abbrev Over : ℕ → List ℕ → Type 0
Over x [] = Unit {0}
Over x (y ∷ ys) = (x < y) × Over x ys

abbrev Climbs : List ℕ → Type 0
Climbs [] = Unit {0}
Climbs (x ∷ xs) = Over x xs × Climbs xs

over_less : (m n : ℕ) (xs : List ℕ) → m < n → Over n xs → Over m xs
over_less m n [] h a = tt
over_less m n (x ∷ xs) h a = (omega (arith, h, a.0), over_less m n xs h a.1)

over_put : (x n : ℕ) (xs : List ℕ) → x < n → Over x xs → Over x (put_ascending n xs)
over_put x n [] h a = (h, tt)
over_put x n (y ∷ ys) h a = by (over_put x n ys h a.1) (nat_lt n y) (n == y)
  where
    by : Over x (put_ascending n ys) → (b c : Bool) → Over x (if b then n ∷ y ∷ ys else (if c then y ∷ ys else y ∷ put_ascending n ys))
    by g true c = (h, a)
    by g false true = a
    by g false false = (a.0, g)

climbs_put : (n : ℕ) (xs : List ℕ) → Climbs xs → Climbs (put_ascending n xs)
climbs_put n [] a = (tt, tt)
climbs_put n (y ∷ ys) a = by (climbs_put n ys a.1) (nat_lt n y) refl (n == y) refl
  where
    by : Climbs (put_ascending n ys) → (b : Bool) → nat_lt n y ≡ b → (c : Bool) → (n == y) ≡ c → Climbs (if b then n ∷ y ∷ ys else (if c then y ∷ ys else y ∷ put_ascending n ys))
    by g true e c f = let h : n < y = grind (arith, nat_tests, e) in ((h, over_less n y ys h a.0), a)
    by g false e true f = a
    by g false e false f = let h : y < n = grind (arith, nat_tests, e, f) in (over_put y n ys h a.0, g)

ascending_climbs : (xs : List ℕ) → Climbs (ascending xs)
ascending_climbs [] = tt
ascending_climbs (x ∷ xs) = climbs_put x (ascending xs) (ascending_climbs xs)

ids_climb : (changes : List Change) → Climbs (ids output changes)
ids_climb changes = ascending_climbs (filter_map (λ (c : Change). option_map (λ (e : Entry). e.id) (output c)) changes)

over_filter : (t : ℕ → Bool) (x : ℕ) (xs : List ℕ) → Over x xs → Over x (filter t xs)
over_filter t x [] a = tt
over_filter t x (y ∷ ys) a = by (t y) (over_filter t x ys a.1)
  where
    by : (b : Bool) → Over x (filter t ys) → Over x (if b then y ∷ filter t ys else filter t ys)
    by true r = (a.0, r)
    by false r = r

climbs_filter : (t : ℕ → Bool) (xs : List ℕ) → Climbs xs → Climbs (filter t xs)
climbs_filter t [] a = tt
climbs_filter t (y ∷ ys) a = by (t y) (climbs_filter t ys a.1)
  where
    by : (b : Bool) → Climbs (filter t ys) → Climbs (if b then y ∷ filter t ys else filter t ys)
    by true r = (over_filter t y ys a.0, r)
    by false r = r

module _ (sc : Scenario) (other : SlaveDesc) (ok : IsScenario sc) (s : ℕ) (it : IsSlaveOf (parties sc other) s) where
  abbrev W : Parties
  W = parties sc other

  abbrev X : SlaveSetup
  X = setup_at sc other s

  abbrev is_own : ℕ → Bool
  is_own i = sender_of sc i == s

  -- an id of a link from this slave, which goes where the link does
  record IsOwn (i : ℕ) (to : Address) : Type 0 where
    pub link : DataLink
    pub found : data_link_of sc i ≡ Some link
    pub from : link.from ≡ s
    pub there : to ≡ address_at sc link.to

  own_of : (changes : List Change) → AllRight sc changes → (i : ℕ) → is_own i ≡ true → (to : Address) → target i changes ≡ Some to → IsOwn i to
  own_of changes right i h to e =
      let r = right_target sc changes i to right e in
      record { link = r.link; found = r.found; from = ap from_of (sym r.found) ∙ eqb-true (sender_of sc i) s h; there = r.there }

  module _ (changes : List Change) (right : AllRight sc changes) (steps : ℕ) (vs : List ℤ) where
    abbrev sent : List ℕ → List Post
    sent is = map post (map parcel_send (filter_map (parcel X.desc changes steps vs) is))

    -- none of the later ids goes there too
    none_more : (a : Address) (i : ℕ) (to : Address) → IsOwn i to → same_address to a ≡ true → (is : List ℕ) → Over i is → list_all is_own is ≡ true → posts_to a (sent is) ≡ 0
    none_more a i to k h [] o all = refl
    none_more a i to k h (j ∷ is) o all = by (target j changes) refl (none_more a i to k h is o.1 (and_parts (is_own j) (list_all is_own is) all).1)
      where
        by : (t : Option Address) → target j changes ≡ t → posts_to a (sent is) ≡ 0
            → posts_to a (map post (map parcel_send (cons_option (option_map (λ to. record { to = to; message = data_message (ordinal output j changes steps % 65536) j (payload X.desc j changes vs) }) t) (filter_map (parcel X.desc changes steps vs) is)))) ≡ 0
        by None e r = r
        by (Some to') e r = two (same_address to' a) refl
          where
            two : (b : Bool) → same_address to' a ≡ b → (if same_address to' a then posts_to a (sent is) + 1 else posts_to a (sent is)) ≡ 0
            two false z = ap (λ (c : Bool). if c then posts_to a (sent is) + 1 else posts_to a (sent is)) z ∙ r
            two true z =
                let l = own_of changes right j (and_parts (is_own j) (list_all is_own is) all).0 to' e in
                let same_ends : address_at sc k.link.to ≡ address_at sc l.link.to = sym k.there ∙ address_is to a h ∙ sym (address_is to' a z) ∙ l.there in
                let y = one_id sc other ok i j k.link l.link k.found l.found (k.from ∙ sym l.from) same_ends in
                let lt = o.0 in
                absurd (omega (arith, y, lt))

    one_each : (a : Address) (is : List ℕ) → Climbs is → list_all is_own is ≡ true → posts_to a (sent is) ≤ 1
    one_each a [] c all = omega arith
    one_each a (i ∷ is) c all = by (target i changes) refl (one_each a is c.1 (and_parts (is_own i) (list_all is_own is) all).1)
      where
        by : (t : Option Address) → target i changes ≡ t → posts_to a (sent is) ≤ 1
            → posts_to a (map post (map parcel_send (cons_option (option_map (λ to. record { to = to; message = data_message (ordinal output i changes steps % 65536) i (payload X.desc i changes vs) }) t) (filter_map (parcel X.desc changes steps vs) is)))) ≤ 1
        by None e r = r
        by (Some to) e r = two (same_address to a) refl
          where
            two : (b : Bool) → same_address to a ≡ b → (if same_address to a then posts_to a (sent is) + 1 else posts_to a (sent is)) ≤ 1
            two false z = let y = ap (λ (c : Bool). if c then posts_to a (sent is) + 1 else posts_to a (sent is)) z in omega (arith, r, y)
            two true z =
                let k = own_of changes right i (and_parts (is_own i) (list_all is_own is) all).0 to e in
                let n = none_more a i to k z is c.0 (and_parts (is_own i) (list_all is_own is) all).1 in
                let y = ap (λ (c : Bool). if c then posts_to a (sent is) + 1 else posts_to a (sent is)) z in
                omega (arith, n, y)

    to_ends : (is : List ℕ) → list_all is_own is ≡ true → AllToEnds W (sent is)
    to_ends [] all = tt
    to_ends (i ∷ is) all = by (target i changes) refl (to_ends is (and_parts (is_own i) (list_all is_own is) all).1)
      where
        by : (t : Option Address) → target i changes ≡ t → AllToEnds W (sent is)
            → AllToEnds W (map post (map parcel_send (cons_option (option_map (λ to. record { to = to; message = data_message (ordinal output i changes steps % 65536) i (payload X.desc i changes vs) }) t) (filter_map (parcel X.desc changes steps vs) is))))
        by None e r = r
        by (Some to) e r =
            let k = own_of changes right i (and_parts (is_own i) (list_all is_own is) all).0 to e in
            let P : Address → Type 0 = IsEnd W in
            (subst P (sym k.there) (link_end sc other ok i k.link k.found), r)

  -- what it sends at a turn: two messages to the master at most, and one to each other end
  pub record IsFewAtTurn (ps : List Post) : Type 0 where
    pub few : (a : Address) → posts_to a ps ≤ 1 + bit (same_address W.master a)
    pub ends : AllToEnds W ps

  data_few : (log : List LogEntry) → AskedAsPlanned (may sc s X.desc) (at (machine X) W s log).desk.served → is_during (at (machine X) W s log).slave.session ≡ true
      → (let p = (at (machine X) W s log).slave.inner in is_sending_state p.state ≡ true → ((a : Address) → posts_to a (map post (map parcel_send (data_parcels X.desc p.wires.changes p.steps (values p.model)))) ≤ 1) × AllToEnds W (map post (map parcel_send (data_parcels X.desc p.wires.changes p.steps (values p.model)))))
  data_few log o e h =
      let p = (at (machine X) W s log).slave.inner in
      let of = of_scenario sc other ok s it in
      let Q : List Change → Type 0 = AllRight sc in
      let right = subst Q (sym (is_planned sc s X W of (reads sc other) log o e (sending_past p.state h))) (planned_right sc s X.desc of (length p.earlier)) in
      let own : (i : ℕ) → has_id output i p.wires.changes ≡ true → is_own i ≡ true
      = λ i k. (let g = outputs_go_on sc s X W of (reads sc other) log o e (sending_past p.state h) i in eq-eqb (sender_of sc i) s (senders sc s X.desc of i (sym g.known ∙ k))) in
      let all = all_chosen (λ i. is_due output i p.wires.changes p.steps) is_own (ids output p.wires.changes) (all_ids output is_own p.wires.changes own) in
      let is = filter (λ i. is_due output i p.wires.changes p.steps) (ids output p.wires.changes) in
      let climbs = climbs_filter (λ i. is_due output i p.wires.changes p.steps) (ids output p.wires.changes) (ids_climb p.wires.changes) in
      (λ a. one_each p.wires.changes right p.steps (values p.model) a is climbs all, to_ends p.wires.changes right p.steps (values p.model) is all)

  parcels_few : (log : List LogEntry) → AskedAsPlanned (may sc s X.desc) (at (machine X) W s log).desk.served → is_during (at (machine X) W s log).slave.session ≡ true → (a : Act)
      → ((b : Address) → posts_to b (map post (map parcel_send (turned X (at (machine X) W s log).slave.inner a).parcels)) ≤ 1) × AllToEnds W (map post (map parcel_send (turned X (at (machine X) W s log).slave.inner a).parcels))
  parcels_few log o e Stay = (λ b. omega arith, tt)
  parcels_few log o e (Wait left) = (λ b. omega arith, tt)
  parcels_few log o e (Fault code) = (λ b. omega arith, tt)
  parcels_few log o e (Step x) = (λ b. omega arith, tt)
  parcels_few log o e Pass = by (is_sending_state p.state) (data_few log o e)
    where
      p : Plant
      p = (at (machine X) W s log).slave.inner

      P : List Post → Type 0
      P ps = ((b : Address) → posts_to b ps ≤ 1) × AllToEnds W ps

      by : (b : Bool) → (b ≡ true → P (map post (map parcel_send (data_parcels X.desc p.wires.changes p.steps (values p.model))))) → P (map post (map parcel_send (if b then data_parcels X.desc p.wires.changes p.steps (values p.model) else [])))
      by true f = f refl
      by false f = (λ b. omega arith, tt)

  ends_joined : (xs ys : List Post) → AllToEnds W xs → AllToEnds W ys → AllToEnds W (xs ++ ys)
  ends_joined [] ys a b = b
  ends_joined (x ∷ xs) ys a b = (a.0, ends_joined xs ys a.1 b)

  notices_few : (i : ℕ) (ns : List Notice) → length ns ≤ 1 → ((a : Address) → posts_to a (map post (transport.notice_sends W.master i ns)) ≤ bit (same_address W.master a)) × AllToEnds W (map post (transport.notice_sends W.master i ns))
  notices_few i [] h = (λ a. omega arith, tt)
  notices_few i (n ∷ []) h = (λ a. (let k = posts_more a (post (transport.send W.master (transport.notice_message i n))) [] in omega (arith, k)), (inl refl, tt))
  notices_few i (n ∷ m ∷ ns) h = absurd (omega (arith, h))

  pub turn_few : (log : List LogEntry) → AskedAsPlanned (may sc s X.desc) (at (machine X) W s log).desk.served → IsMute (at (machine X) W s log).slave.inner.log
      → ((master i : _) → (at (machine X) W s log).slave.session ≡ During master i → master ≡ W.master) → IsFewAtTurn (map post (transport.turn_sends (machine X) (at (machine X) W s log).slave.session (at (machine X) W s log).slave))
  turn_few log o m of_master = by (at (machine X) W s log).slave.session refl
    where
      x : SlaveState Plant
      x = (at (machine X) W s log).slave

      by : (session : Session) → x.session ≡ session → IsFewAtTurn (map post (transport.turn_sends (machine X) session x))
      by Before e = record { few = λ a. omega arith; ends = tt }
      by (After master i) e = record { few = λ a. omega arith; ends = tt }
      by (During master i) e =
          let t = turns X (transport.quieter x.quiet) x.inner in
          let k = parcels_few log o (ap is_during e) (act X (transport.quieter x.quiet) x.inner) in
          let P : List Post → Type 0 = IsFewAtTurn in
          let Q : Address → Type 0 = λ b. ((a : Address) → posts_to a (map post (transport.notice_sends b i t.notices)) ≤ bit (same_address W.master a)) × AllToEnds W (map post (transport.notice_sends b i t.notices)) in
          let n = subst Q (sym (of_master master i e)) (notices_few i t.notices (turned_mute X x.inner m (act X (transport.quieter x.quiet) x.inner)).few) in
          let ps = map post (map parcel_send t.parcels) in
          let ns = map post (transport.notice_sends master i t.notices) in
          subst P (sym (map_joined (map parcel_send t.parcels) (transport.notice_sends master i t.notices)))
          (record { few = λ a. (let j = posts_append a ps ns in let u = k.0 a in let v = n.0 a in omega (arith, j, u, v)); ends = ends_joined ps ns k.1 n.1 })
