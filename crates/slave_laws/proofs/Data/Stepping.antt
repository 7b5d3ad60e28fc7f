-- A step of a slave is the model's step on the inputs that it has.
use Rattle.std.proofs.Common.{◌≡◌, ℕ, zero, suc, ◌+◌, Bool, true, false, if◌then◌else◌, inl, inr, List, [], ◌∷◌, map, Result, Ok, Err, refl, sym, ap, ◌∙◌, arith, ℤ}
use Rattle.std.proofs.lemmas.Bool.{and_parts}
use Rattle.dcp_types.specs.declared.fault_codes.FaultCode.{FaultCode}
use Rattle.dcp_types.specs.declared.fault_codes.FaultCode.TheVariants.{OutOfRange, HeartbeatMissed}
use Rattle.dcp_types.specs.declared.states.State.{State}
use Rattle.dcp_types.specs.declared.states.State.TheVariants.{Alive, Configuration, Preparing, Prepared, Configuring, Configured, Initializing, Initialized, SendingI, Synchronizing, Synchronized, Running, Computing, Computed, SendingD, Stopping, Stopped, ErrorHandling, ErrorResolved}
use Rattle.dcp_ends.specs.declared.entries.LogEntry.{LogEntry}
use Rattle.dcp_ends.specs.declared.entries.LogEntry.TheVariants.{Sent, Got, Idle, Turn}
use Rattle.fixed_models.specs.Steps.{model_step, all_fit}
use Rattle.fixed_models.specs.Views.{step_of}
use Rattle.slave_desc.specs.declared.descriptions.SlaveDesc.{SlaveDesc}
use Rattle.scenario.specs.declared.scenarios.Scenario.{Scenario}
use Rattle.scenario.specs.Settings.{parameters}
use Rattle.scenario.specs.Sound.{IsScenario}
use Rattle.log_spec.specs.Messages.{is_request_code}
use Rattle.log_spec.specs.Log as logs
use Rattle.log_spec.specs.Log.{Parties, DecidedRequest, same, role_heard}
use Rattle.log_spec.specs.Moves.{Move, Asks, Comes, Tells, Hears, Brings, Turns, Rests, Other, move}
use Rattle.lockstep_laws.specs.Asked.{AskedAsPlanned}
use Rattle.lockstep_laws.specs.Works.{Works}
use Rattle.lockstep_laws.specs.Steps.{Bench, StepsOn, TakesOn, Told, Begins, Does, Rested, Nothing, told_of}
use Rattle.lockstep_laws.specs.Models.Machines.{IsAskedInOrder}
use Rattle.lockstep_laws.specs.Models.Scenarios.{slave_numbered}
use Rattle.slave_spec.specs.Payloads as wired
use Rattle.slave_spec.specs.declared.words.SlaveSetup.{SlaveSetup}
use Rattle.slave_spec.specs.declared.words.Session.{Session}
use Rattle.slave_spec.specs.declared.words.Session.TheVariants.{Before, During, After}
use Rattle.slave_spec.specs.Transport as transport
use Rattle.slave_spec.specs.Transport.{SlaveState}
use Rattle.slave_spec.specs.Plants.{Plant}
use Rattle.slave_spec.specs.Turns as turns
use Rattle.slave_spec.specs.Turns.{Act, Stay, Wait, Fault, Step, Pass, act, is_missed, step_act, computing, state_act, turned, values}
use Rattle.slave_spec.specs.Slaves.{machine}
use Rattle.slave_laws.specs.Talk.Plants.{bench_of, events_turned}
use Rattle.slave_laws.specs.Talk.Desks.{at, ticked}
use Rattle.slave_laws.specs.Talk.Benches.{bench_at, events_tick, events_done}
use Rattle.slave_laws.proofs.Talk.Plants.{act_step}
use Rattle.slave_laws.proofs.Talk.Benches.{performs}
use Rattle.slave_laws.proofs.Talk.Sending.{sends_back}
use Rattle.slave_laws.proofs.Model.Fresh.{begins_fresh}
use Rattle.slave_laws.proofs.Model.Parameters.{have_parameters}
use Rattle.plan_laws.specs.Course.Courses.{may}
use Rattle.plan_laws.specs.Course.Orders.{may_ask}
use Rattle.slave_laws.specs.Wiring.Wired.{is_past, is_during}
use Rattle.slave_laws.specs.Data.Made.{setup_at, parties, slaves}
use Rattle.slave_laws.proofs.Data.Held.{of_scenario, reads}
use Rattle.slave_laws.proofs.Data.Taken.{past_tuned}
use Rattle.slave_laws.proofs.Data.Goes.{IsTurn, sent_busy, got_turn, order_less}
use Rattle.slave_laws.specs.Data.Whole.{slaves_asked, StepOnInputs}

-- ---- who is asked as wanted here is asked as wanted below
pub asked_may : (sc : Scenario) (s : ℕ) (d : SlaveDesc) (es : List DecidedRequest) → AskedAsPlanned (may_ask sc s d) es → AskedAsPlanned (may sc s d) es
asked_may sc s d [] a = tt
asked_may sc s d (e ∷ es) a = ((and_parts (is_request_code e.request.message.code) (may sc s d es e.request) a.0).1, asked_may sc s d es a.1)

pub order_of : (sc : Scenario) (other : SlaveDesc) (s : ℕ) (log : List LogEntry) → IsAskedInOrder (parties sc other) (slaves_asked sc other) s log → IsAskedInOrder (parties sc other) (slaves sc other) s log
order_of sc other s log o = record { run = o.run; asked = asked_may sc s (slave_numbered sc other s) (at (machine (setup_at sc other s)) (parties sc other) s log).desk.served o.asked }

-- ---- an act that steps
step_is : (r : Result (List ℤ) FaultCode) (y : List ℤ) → step_act r ≡ Step y → r ≡ Ok y
step_is (Ok x) y h = let e : x ≡ y = cc in ap (λ (z : List ℤ). Ok z) e
step_is (Err code) y h = absurd cc

module _ (s : SlaveSetup) (p : Plant) (y : List ℤ) where
  abbrev IsStep : Type 0
  IsStep = step_of p.model (wired.wired_values s.desc p.wires) s.micro ≡ Ok y

  computing_is : (left : ℕ) → computing s p left ≡ Step y → IsStep
  computing_is zero h = step_is (step_of p.model (wired.wired_values s.desc p.wires) s.micro) y h
  computing_is (suc left) h = absurd cc

  fit_no : (b : Bool) → (if b then Pass else Fault OutOfRange) ≡ Step y → ⊥
  fit_no true h = cc
  fit_no false h = cc

  state_is : (t : State) → state_act s p t ≡ Step y → IsStep
  state_is Computing h = computing_is p.busy_left h
  state_is Initializing h = absurd (fit_no (all_fit p.model.types (values p.model)) h)
  state_is Alive h = absurd cc
  state_is Configuration h = absurd cc
  state_is Preparing h = absurd cc
  state_is Prepared h = absurd cc
  state_is Configuring h = absurd cc
  state_is Configured h = absurd cc
  state_is Initialized h = absurd cc
  state_is SendingI h = absurd cc
  state_is Synchronizing h = absurd cc
  state_is Synchronized h = absurd cc
  state_is Running h = absurd cc
  state_is Computed h = absurd cc
  state_is SendingD h = absurd cc
  state_is Stopping h = absurd cc
  state_is Stopped h = absurd cc
  state_is ErrorHandling h = absurd cc
  state_is ErrorResolved h = absurd cc

  act_is : (quiet : ℕ) → act s quiet p ≡ Step y → IsStep
  unfolding act
  act_is quiet h = state_is p.state (by (is_missed s.desc p.state quiet) h)
    where
      by : (b : Bool) → (if b then Fault HeartbeatMissed else state_act s p p.state) ≡ Step y → state_act s p p.state ≡ Step y
      by true k = absurd cc
      by false k = k

-- ---- a step is a turn's
same_more : (n : ℕ) → n ≡ n + 1 → ⊥
same_more n e = omega (arith, e)

takes_none : (t : Told) (b c : Bench) → TakesOn t b c → StepsOn b c → ⊥
takes_none (Begins k) b c h st = same_more b.steps (sym h.steps ∙ st.steps)
takes_none Does b c h st = let e = sym h.steps ∙ st.steps in omega (arith, e)
takes_none Rested b c h st = same_more b.steps (sym h.idles.steps ∙ st.steps)
takes_none Nothing b c h st = same_more b.steps (sym h.steps ∙ st.steps)

works_turn : (mv : Move) (es es' : List DecidedRequest) (b c : Bench) → Works mv es es' b c → StepsOn b c → IsTurn mv
works_turn (Asks n) es es' b c h st = absurd (same_more b.steps (sym (ap (λ z. z.steps) h) ∙ st.steps))
works_turn (Comes from receiver n) es es' b c (inl h) st = absurd (same_more b.steps (sym h.1.steps ∙ st.steps))
works_turn (Comes from receiver n) es es' b c (inr h) st = absurd (takes_none (told_of h.0) b c h.2 st)
works_turn (Tells to bytes) es es' b c h st = absurd (same_more b.steps (sym (ap (λ z. z.steps) h) ∙ st.steps))
works_turn (Hears n) es es' b c h st = absurd (same_more b.steps (sym (ap (λ z. z.steps) h) ∙ st.steps))
works_turn (Brings from id n) es es' b c h st = absurd (same_more b.steps (sym h.steps ∙ st.steps))
works_turn Turns es es' b c h st = tt
works_turn Rests es es' b c h st = absurd (same_more b.steps (sym h.steps ∙ st.steps))
works_turn Other es es' b c h st = absurd (same_more b.steps (sym (ap (λ z. z.steps) h) ∙ st.steps))

-- ---- the model's step
module _ (sc : Scenario) (other : SlaveDesc) (ok : IsScenario sc) (s : ℕ) (is : logs.IsSlaveOf (parties sc other) s) (log : List LogEntry) (a : AskedAsPlanned (may sc s (slave_numbered sc other s)) (at (machine (setup_at sc other s)) (parties sc other) s log).desk.served) where
  abbrev W : Parties
  W = parties sc other

  abbrev X : SlaveSetup
  X = setup_at sc other s

  abbrev x : SlaveState Plant
  x = (at (machine X) W s log).slave

  abbrev p : Plant
  p = x.inner

  abbrev b : Bench
  b = bench_at X W s log

  abbrev n : ℕ
  n = events_done X W s log

  abbrev quiet : ℕ
  quiet = transport.quieter x.quiet

  abbrev Goal : Plant → Type 0
  Goal q = model_step X.desc.kind (parameters sc s X.desc (b.resets + 1)) (map (λ r. r.kind) X.desc.outputs) p.model.state (wired.wired_values X.desc p.wires) sc.micro ≡ Ok q.model.state

  stepped : (y : List ℤ) → is_during x.session ≡ true → act X quiet p ≡ Step y → model_step X.desc.kind (parameters sc s X.desc (b.resets + 1)) (map (λ r. r.kind) X.desc.outputs) p.model.state (wired.wired_values X.desc p.wires) sc.micro ≡ Ok y
  stepped y e h =
      let of = of_scenario sc other ok s is in
      let past : is_past p.state ≡ true = ap is_past (act_step X quiet p y h) in
      let fresh = begins_fresh X W s log in
      let ps = have_parameters sc s X W of (reads sc other) log (past_tuned sc s X W of (reads sc other) log a e past) in
      let us = wired.wired_values X.desc p.wires in
      sym (ap (λ k. model_step k p.model.parameters p.model.types p.model.state us sc.micro) fresh.kind
      ∙ ap (λ qs. model_step X.desc.kind qs p.model.types p.model.state us sc.micro) ps
      ∙ ap (λ ts. model_step X.desc.kind (parameters sc s X.desc (b.resets + 1)) ts p.model.state us sc.micro) fresh.types)
      ∙ act_is X p y quiet h

  act_steps : is_during x.session ≡ true → (act' : Act) → act X quiet p ≡ act' → StepsOn b (bench_of (events_turned p.state act' n) (turned X p act').after) → Goal (turned X p act').after
  act_steps e Stay h st = absurd (same_more n st.events)
  act_steps e (Wait left) h st = absurd (same_more n st.events)
  act_steps e (Fault code) h st = absurd (same_more n st.events)
  act_steps e Pass h st = absurd (same_more p.steps st.steps)
  act_steps e (Step y) h st = stepped y e h

  session_steps : (session : Session) → x.session ≡ session → let q = (if transport.is_open session then record x { quiet = quiet; inner = (turns.turns X quiet p).after } else x).inner in StepsOn b (bench_of (events_tick X W s session x n) q) → Goal q
  session_steps Before e st = absurd (same_more n st.events)
  session_steps (During master id) e st = act_steps (ap is_during e) (act X quiet p) refl st
  session_steps (After master id) e st = absurd (same_more n st.events)

  pub entry_steps : (e : LogEntry) → IsTurn (move W s e) → StepsOn b (bench_at X W s (e ∷ log)) → Goal (at (machine X) W s (e ∷ log)).slave.inner
  entry_steps (Sent from to bytes) h st = absurd ((sent_busy W s from to bytes (role_heard W bytes)).1 h)
  entry_steps (Got at' from bytes) h st = absurd (got_turn W s at' from (role_heard W bytes) h)
  entry_steps (Idle at') h st = absurd (by (same at' (W.slave s)) h)
    where
      by : (c : Bool) → IsTurn (if c then Rests else Other) → ⊥
      by true g = g
      by false g = g
  entry_steps (Turn at') h st = by (same at' (W.slave s)) h st
    where
      by : (c : Bool) → IsTurn (if c then Turns else Other) → let y = (if c then ticked (machine X) W s (at (machine X) W s log) else at (machine X) W s log) in StepsOn b (bench_of (if c then events_tick X W s x.session x n else n) y.slave.inner) → Goal y.slave.inner
      by true g k = session_steps x.session refl k
      by false g k = absurd g

pub step_on_inputs : StepOnInputs
step_on_inputs sc other ok s is e log o' st =
    let o = order_of sc other s (e ∷ log) o' in
    let x = setup_at sc other s in
    let w = parties sc other in
    let before = order_less sc other ok s is e log o in
    let desk : List LogEntry → _ = λ l. (at (machine x) w s l).desk in
    let works = (performs x w s (sends_back x w s (reads sc other))).goes e log o.run.0 in
    entry_steps sc other ok s is log before.asked e (works_turn (move w s e) (desk log).served (desk (e ∷ log)).served (bench_at x w s log) (bench_at x w s (e ∷ log)) works st) st
