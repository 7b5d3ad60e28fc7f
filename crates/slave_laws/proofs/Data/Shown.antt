-- What a turn owes of a data id.
use Rattle.std.proofs.Common.{◌≡◌, ℕ, zero, suc, ◌+◌, ◌*◌, ◌/◌, ◌%◌, ◌==◌, Bool, true, false, if◌then◌else◌, ◌⊎◌, inl, inr, List, [], ◌∷◌, map, length, Some, Ok, Err, refl, sym, ap, ◌∙◌, subst, arith, ℤ}
use Rattle.std.specs.Prelude.{reverse}
use Rattle.std.specs.List.{filter_map, flat_map}
use Rattle.std.proofs.lemmas.Bool.{eqb-true, eq-eqb}
use Rattle.dcp_types.specs.declared.addresses.Address.{Address}
use Rattle.dcp_types.specs.declared.data_types.DataType.{DataType}
use Rattle.dcp_types.specs.declared.fault_codes.FaultCode.TheVariants.{OutOfRange}
use Rattle.dcp_types.specs.declared.states.State.{State}
use Rattle.dcp_types.specs.declared.states.State.TheVariants.{Computing}
use Rattle.dcp_ends.specs.declared.entries.LogEntry.{LogEntry}
use Rattle.fixed_models.specs.Steps.{outputs, all_fit}
use Rattle.slave_desc.specs.declared.descriptions.SlaveDesc.{SlaveDesc}
use Rattle.scenario.specs.declared.scenarios.Scenario.{Scenario}
use Rattle.plan_laws.specs.Taking as plans
use Rattle.scenario.specs.Sound.{IsScenario}
use Rattle.scenario.specs.Settings.{parameters}
use Rattle.lockstep.specs.Lockstep.{shown_at, shown_of}
use Rattle.log_spec.specs.Messages.{Note}
use Rattle.log_spec.specs.Log as logs
use Rattle.log_spec.specs.Log.{Parties}
use Rattle.lockstep_laws.specs.Slaves.{Post}
use Rattle.lockstep_laws.specs.Asked.{AskedAsPlanned}
use Rattle.lockstep_laws.specs.Steps.{Show, Step, Bench, Idles, BenchShows, StepsOn, BenchFails}
use Rattle.lockstep_laws.specs.Models.Machines.{values_owed, carried, Emits}
use Rattle.lockstep_laws.specs.Models.Scenarios.{slave_numbered}
use Rattle.slave_spec.specs.Changes.{Change, output, entries, has_id, target_given, newest_change, target, entry_interval, ordinal, is_due}
use Rattle.slave_spec.specs.Payloads.{bytes_for, payload}
use Rattle.slave_spec.specs.declared.words.SlaveSetup.{SlaveSetup}
use Rattle.slave_spec.specs.declared.words.Session.{Session}
use Rattle.slave_spec.specs.declared.words.Session.TheVariants.{Before, During, After}
use Rattle.slave_spec.specs.Transport as transport
use Rattle.slave_spec.specs.Transport.{SlaveState, parcel_send}
use Rattle.slave_spec.specs.Plants.{Plant, output_types}
use Rattle.slave_spec.specs.Sound.{IsSoundPlant}
use Rattle.slave_spec.specs.Turns as turns
use Rattle.slave_spec.specs.Turns.{Act, Stay, Wait, Fault, Pass, act, data_parcels, is_sending_state, values, turned}
use Rattle.slave_spec.specs.Slaves.{machine}
use Rattle.slave_spec.proofs.Soundness.{sound_after}
use Rattle.slave_laws.specs.Talk.Plants.{under_way, events_turned}
use Rattle.slave_laws.specs.Talk.Desks.{post, at, events_of_slave}
use Rattle.slave_laws.specs.Talk.Benches.{bench_at, events_tick, events_done}
use Rattle.slave_laws.proofs.Talk.Meets.{slave_is}
use Rattle.slave_laws.proofs.Talk.Plants.{act_step}
use Rattle.slave_laws.specs.Talk.Ranges.{SlaveFits}
use Rattle.slave_laws.proofs.Talk.Sending.{in_range, sends_back}
use Rattle.slave_laws.proofs.Model.Fresh.{begins_fresh}
use Rattle.slave_laws.proofs.Model.Parameters.{have_parameters}
use Rattle.plan_laws.specs.Course.Courses.{may}
use Rattle.slave_laws.specs.Wiring.Wired.{planned_changes, changes_restarted, is_past, is_during}
use Rattle.slave_laws.proofs.Wiring.Courses.{is_planned}
use Rattle.slave_laws.proofs.Wiring.Counting.{outputs_go_on}
use Rattle.slave_laws.specs.Wiring.Links.{interval_of, sender_of}
use Rattle.slave_laws.proofs.Wiring.Planned.{output_intervals}
use Rattle.slave_laws.proofs.Wiring.Sends.{each_sends}
use Rattle.slave_laws.specs.Data.Made.{setup_at, parties, slaves, store_of, machines}
use Rattle.slave_laws.proofs.Data.Held.{of_scenario, reads}
use Rattle.slave_laws.proofs.Data.Owing.{NoneOf, none_joined, notices_none, small_ids, sending_past, map_joined}
use Rattle.slave_laws.proofs.Data.Taken.{past_tuned}
use Rattle.slave_laws.proofs.Data.Due.{none_after, note, data_sent}

-- ---- a restart changes no entries and no addresses
restarted_entries : (id steps : ℕ) (changes : List Change) (runs : ℕ) → entries output id (changes_restarted steps changes runs) ≡ entries output id changes
restarted_entries id steps changes zero = refl
restarted_entries id steps changes (suc runs) = restarted_entries id steps changes runs

restarted_targets : (id steps : ℕ) (changes : List Change) (runs : ℕ) → filter_map (target_given id) (changes_restarted steps changes runs) ≡ filter_map (target_given id) changes
restarted_targets id steps changes zero = refl
restarted_targets id steps changes (suc runs) = restarted_targets id steps changes runs

-- ---- what is under way
shows_sending : (state : State) → under_way state ≡ Some Show → is_sending_state state ≡ true
shows_sending state h = grind arith

sending_shows : (state : State) → is_sending_state state ≡ true → under_way state ≡ Some Step → ⊥
sending_shows state h e = grind arith

sending_not : (state : State) → is_sending_state state ≡ true → state ≡ Computing → ⊥
sending_not state h e = clash (sym (ap is_sending_state e) ∙ h)
  where
    clash : false ≡ true → ⊥
    clash z = cc

shown_fit : (types : List DataType) (vs : List ℤ) → all_fit types vs ≡ true → shown_of types vs ≡ Ok vs
shown_fit types vs h = ap (λ b. if b then Ok vs else Err OutOfRange) h

same_more : (n : ℕ) → n ≡ n + 1 → ⊥
same_more n e = omega (arith, e)

sending_outputs : (p : Plant) → IsSoundPlant p → is_sending_state p.state ≡ true → all_fit p.model.types (values p.model) ≡ true
sending_outputs p ok h = ok.fit (grind arith)

module _ (sc : Scenario) (other : SlaveDesc) (ok : IsScenario sc) (s : ℕ) (is : logs.IsSlaveOf (parties sc other) s) where
  abbrev W : Parties
  W = parties sc other

  abbrev X : SlaveSetup
  X = setup_at sc other s

  abbrev slave_at : List LogEntry → SlaveState Plant
  slave_at log = (at (machine X) W s log).slave

  abbrev plant : List LogEntry → Plant
  plant log = (slave_at log).inner

  sound : (log : List LogEntry) → IsSoundPlant (plant log)
  sound log = let Q : SlaveState Plant → Type 0 = λ x. IsSoundPlant x.inner in subst Q (sym (slave_is (machine X) W s log)) (sound_after X (events_of_slave W s log))

  in_fields : (log : List LogEntry) → SlaveFits (slave_at log)
  in_fields log = let P : SlaveState Plant → Type 0 = SlaveFits in subst P (sym (slave_is (machine X) W s log)) (in_range X (events_of_slave W s log))

  -- ---- where a row is shown
  module _ (log : List LogEntry) (a : AskedAsPlanned (may sc s X.desc) (at (machine X) W s log).desk.served) (e : is_during (slave_at log).session ≡ true) (sending : is_sending_state (plant log).state ≡ true) (id : ℕ) (own : sender_of sc id ≡ s) where
    abbrev p : Plant
    p = plant log

    abbrev C : List Change
    C = planned_changes sc s X.desc

    abbrev r : ℕ
    r = length p.earlier

    abbrev every : ℕ
    every = interval_of sc id

    of : plans.IsScenarioSlave sc s X.desc
    of = of_scenario sc other ok s is

    past : is_past p.state ≡ true
    past = sending_past p.state sending

    planned : p.wires.changes ≡ changes_restarted sc.steps C r
    planned = is_planned sc s X W of (reads sc other) log a e past

    known : has_id output id C ≡ true
    known = (each_sends sc s X.desc of id own).0

    known_here : has_id output id p.wires.changes ≡ true
    known_here = (outputs_go_on sc s X W of (reads sc other) log a e past id).known ∙ known

    spaced : entry_interval output id p.wires.changes ≡ every
    spaced = (outputs_go_on sc s X W of (reads sc other) log a e past id).spaced ∙ output_intervals sc s X.desc of id known

    numbered : ordinal output id p.wires.changes p.steps ≡ r * (sc.steps / every + 1) + p.steps / every
    numbered = (outputs_go_on sc s X W of (reads sc other) log a e past id).numbered known ∙ ap (λ i. r * (sc.steps / i + 1) + p.steps / i) (output_intervals sc s X.desc of id known)

    goes : (to : Address) × (target id p.wires.changes ≡ Some to)
    goes =
        let t = (each_sends sc s X.desc of id own).1 in
        (t.0, ap (target id) planned ∙ ap newest_change (restarted_targets id sc.steps C r) ∙ t.1)

    due_is : is_due output id p.wires.changes p.steps ≡ (p.steps % every == 0)
    due_is = ap (λ i. p.steps % i == 0) spaced

    abbrev vs : List ℤ
    vs = values p.model

    abbrev message : Note
    message = note W (reads sc other) X.desc p.wires.changes p.steps vs (in_fields log).inner.settings (in_fields log).inner.payloads id (small_ids p.wires.changes id (in_fields log).inner.settings known_here) goes.0 goes.1

    all_sent : values_owed W id (map post (map parcel_send (data_parcels X.desc p.wires.changes p.steps vs))) ≡ (if p.steps % every == 0 then message ∷ [] else [])
    all_sent =
        data_sent W (reads sc other) X.desc p.wires.changes p.steps vs (in_fields log).inner.settings (in_fields log).inner.payloads id (small_ids p.wires.changes id (in_fields log).inner.settings known_here) goes.0 goes.1 known_here
        ∙ ap (λ b. if b then message ∷ [] else []) due_is

    -- the payload is the plan's
    carries : carried message ≡ (machines sc other).payload id vs
    carries =
        ap (λ es. flat_map (bytes_for X.desc.outputs vs) (reverse es)) (ap (entries output id) planned ∙ restarted_entries id sc.steps C r)
        ∙ ap (λ k. payload (slave_numbered sc other k) id (planned_changes sc k (slave_numbered sc other k)) vs) (sym own)

    -- the outputs are those that are shown
    shows : shown_at sc s X.desc (r + 1) (Ok p.model.state) ≡ Ok vs
    shows =
        let fresh = begins_fresh X W s log in
        let ps = have_parameters sc s X W of (reads sc other) log (past_tuned sc s X W of (reads sc other) log a e past) in
        let same : vs ≡ outputs X.desc.kind (parameters sc s X.desc (r + 1)) p.model.state = ap (λ k. outputs k p.model.parameters p.model.state) fresh.kind ∙ ap (λ qs. outputs X.desc.kind qs p.model.state) ps in
        let fit : all_fit (output_types X.desc) vs ≡ true = sym (ap (λ types. all_fit types vs) fresh.types) ∙ sending_outputs p (sound log) sending in
        ap (shown_of (output_types X.desc)) (sym same) ∙ shown_fit (output_types X.desc) vs fit

    emits_by : (posts : List Post) → values_owed W id posts ≡ (if p.steps % every == 0 then message ∷ [] else []) → Emits W (slaves sc other) (machines sc other) s id (bench_at X W s log) (store_of sc other p) posts
    emits_by posts h = record {
      unsent = λ f. h ∙ not_due f (p.steps % every == 0) refl;
      sent = λ z. (message, h ∙ ap (λ b. if b then message ∷ [] else []) (eq-eqb (p.steps % every) 0 z), ap (λ o. o % 65536) numbered, (vs, shows, carries));
    }
      where
        not_due : (p.steps % every ≡ 0 → ⊥) → (b : Bool) → (p.steps % every == 0) ≡ b → (if b then message ∷ [] else []) ≡ []
        not_due f true q = absurd (f (eqb-true (p.steps % every) 0 q))
        not_due f false q = refl

  -- ---- a turn
  module _ (log : List LogEntry) (a : AskedAsPlanned (may sc s X.desc) (at (machine X) W s log).desk.served) where
    abbrev x : SlaveState Plant
    x = slave_at log

    abbrev n : ℕ
    n = events_done X W s log

    abbrev b : Bench
    b = bench_at X W s log

    abbrev quiet : ℕ
    quiet = transport.quieter x.quiet

    abbrev Quiet : Bench → Type 0
    Quiet c = Idles b c ⊎ (StepsOn b c ⊎ BenchFails b c)

    act_quiet : (c : Bench) (id : ℕ) (act' : Act) → c.events ≡ events_turned x.inner.state act' n → Quiet c → NoneOf W id (map post (map parcel_send (turned X x.inner act').parcels))
    act_quiet c id Stay h q = tt
    act_quiet c id (Wait left) h q = tt
    act_quiet c id (Fault code) h q = tt
    act_quiet c id (turns.Step y) h q = tt
    act_quiet c id Pass h q = by (is_sending_state x.inner.state) refl h
      where
        same : c.events ≡ n + 1 → is_sending_state x.inner.state ≡ true → Quiet c → ⊥
        same g f (inl i) = same_more n (sym i.events ∙ g)
        same g f (inr (inl i)) = sending_shows x.inner.state f i.under_way
        same g f (inr (inr i)) = same_more n (sym i.events ∙ g)

        by : (f : Bool) → is_sending_state x.inner.state ≡ f → c.events ≡ (if f then n + 1 else n) → NoneOf W id (map post (map parcel_send (if f then data_parcels X.desc x.inner.wires.changes x.inner.steps (values x.inner.model) else [])))
        by true f g = absurd (same g f q)
        by false f g = tt

    pub turn_quiet : (c : Bench) (id : ℕ) (session : Session) → x.session ≡ session → c.events ≡ events_tick X W s session x n → Quiet c → NoneOf W id (map post (transport.turn_sends (machine X) session x))
    turn_quiet c id Before f h q = tt
    turn_quiet c id (After master i) f h q = tt
    turn_quiet c id (During master i) f h q =
        let t = turns.turns X quiet x.inner in
        let rb = ((sends_back X W s (reads sc other)).sends log).turn master i f in
        let P : List Post → Type 0 = NoneOf W id in
        subst P (sym (map_joined (map parcel_send t.parcels) (transport.notice_sends master i t.notices)))
        (none_joined W id (map post (map parcel_send t.parcels)) (map post (transport.notice_sends master i t.notices)) (act_quiet c id (act X quiet x.inner) h q) (notices_none W id (transport.notice_sends master i t.notices) rb.1))

    act_shows : (c : Bench) (id : ℕ) → is_during x.session ≡ true → sender_of sc id ≡ s → BenchShows b c → (act' : Act) → act X quiet x.inner ≡ act' → c.events ≡ events_turned x.inner.state act' n → (posts : List Post)
        → values_owed W id posts ≡ values_owed W id (map post (map parcel_send (turned X x.inner act').parcels)) → Emits W (slaves sc other) (machines sc other) s id b (store_of sc other x.inner) posts
    act_shows c id e own sh Stay g h posts v = absurd (same_more n (sym h ∙ sh.events))
    act_shows c id e own sh (Wait left) g h posts v = absurd (same_more n (sym h ∙ sh.events))
    act_shows c id e own sh (Fault code) g h posts v = absurd (same_more n (sym h ∙ sh.events))
    act_shows c id e own sh (turns.Step y) g h posts v = absurd (sending_not x.inner.state (shows_sending x.inner.state sh.under_way) (act_step X quiet x.inner y g))
    act_shows c id e own sh Pass g h posts v =
        let f = shows_sending x.inner.state sh.under_way in
        let is' : values_owed W id (map post (map parcel_send (turned X x.inner Pass).parcels)) ≡ values_owed W id (map post (map parcel_send (data_parcels X.desc x.inner.wires.changes x.inner.steps (values x.inner.model))))
        = ap (λ d. values_owed W id (map post (map parcel_send (if d then data_parcels X.desc x.inner.wires.changes x.inner.steps (values x.inner.model) else [])))) f in
        emits_by log a e f id own posts (v ∙ is' ∙ all_sent log a e f id own)

    pub turn_shows : (c : Bench) (id : ℕ) (session : Session) → x.session ≡ session → c.events ≡ events_tick X W s session x n → sender_of sc id ≡ s → BenchShows b c → Emits W (slaves sc other) (machines sc other) s id b (store_of sc other x.inner) (map post (transport.turn_sends (machine X) session x))
    turn_shows c id Before f h own sh = absurd (same_more n (sym h ∙ sh.events))
    turn_shows c id (After master i) f h own sh = absurd (same_more n (sym h ∙ sh.events))
    turn_shows c id (During master i) f h own sh =
        let t = turns.turns X quiet x.inner in
        let rb = ((sends_back X W s (reads sc other)).sends log).turn master i f in
        let v : values_owed W id (map post (transport.turn_sends (machine X) (During master i) x)) ≡ values_owed W id (map post (map parcel_send t.parcels))
        = ap (values_owed W id) (map_joined (map parcel_send t.parcels) (transport.notice_sends master i t.notices)) ∙ none_after W id (map post (map parcel_send t.parcels)) (map post (transport.notice_sends master i t.notices)) (notices_none W id (transport.notice_sends master i t.notices) rb.1) in
        act_shows c id (ap is_during f) own sh (act X quiet x.inner) refl h (map post (transport.turn_sends (machine X) (During master i) x)) v
