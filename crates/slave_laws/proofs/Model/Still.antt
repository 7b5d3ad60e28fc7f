-- After the first step of a run the model changes with the steps alone.
use Rattle.std.proofs.Common.{◌≡◌, ℕ, ◌-◌, ◌^◌, ◌<◌, Bool, true, false, if◌then◌else◌, ◌⊎◌, inl, inr, List, [], ◌∷◌, Option, Some, None, refl, sym, ap, ◌∙◌, subst, arith, ℤ}
use Rattle.dcp_types.specs.declared.addresses.Address.{Address}
use Rattle.dcp_types.specs.declared.states.State.{State}
use Rattle.dcp_types.specs.declared.states.State.TheVariants.{Alive, Configuration, Computing}
use Rattle.dcp_types.specs.declared.error_codes.ErrorCode.{ErrorCode}
use Rattle.dcp_ends.specs.declared.entries.LogEntry.{LogEntry}
use Rattle.dcp_ends.specs.declared.entries.LogEntry.TheVariants.{Sent, Got, Idle, Turn}
use Rattle.pdu_layout.specs.declared.messages.Stc.{Stc}
use Rattle.pdu_layout.specs.declared.messages.Stc.TheVariants as stc
use Rattle.pdu_layout.specs.declared.messages.Cfg.{Cfg}
use Rattle.pdu_layout.specs.declared.messages.Cfg.TheVariants as cfg
use Rattle.pdu_layout.specs.declared.messages.Inf.TheVariants as inf
use Rattle.log_spec.specs.Log.{Parties, same}
use Rattle.log_spec.specs.Moves.{Move, Asks, Comes, Tells, Hears, Brings, Turns, Rests, Other, move}
use Rattle.seq_window.specs.declared.places.Place.{Place}
use Rattle.seq_window.specs.Window.{place}
use Rattle.std.specs.Prelude.{◌==◌, ◌&&◌}
use Rattle.slave_states.specs.Transitions.{transition_row, next_on, next_on_turn, is_same}
use Rattle.slave_spec.specs.Payloads.{brought}
use Rattle.slave_spec.specs.declared.words.SlaveSetup.{SlaveSetup}
use Rattle.slave_spec.specs.declared.words.SlaveRequest.{SlaveRequest}
use Rattle.slave_spec.specs.declared.words.Asked.{Asked}
use Rattle.slave_spec.specs.declared.words.Asked.TheVariants.{Change, Setting, Question}
use Rattle.slave_spec.specs.declared.words.Session.{Session}
use Rattle.slave_spec.specs.declared.words.Session.TheVariants.{Before, During, After}
use Rattle.slave_spec.specs.declared.words.Fate.{Fate}
use Rattle.slave_spec.specs.declared.words.Fate.TheVariants.{Dropped, Refused, Repeated, Taken}
use Rattle.slave_spec.specs.Heard as spec
use Rattle.slave_spec.specs.Transport as transport
use Rattle.slave_spec.specs.Transport.{SlaveState}
use Rattle.slave_spec.specs.Plants.{Plant}
use Rattle.slave_spec.specs.Begun.{IsRegularIn}
use Rattle.slave_spec.specs.Sound.{IsSoundPlant}
use Rattle.slave_spec.specs.Requests.{refusal, state_or, changed_to, set_to, accepted, answered_plant, answers}
use Rattle.slave_spec.specs.Turns.{Act, Stay, Wait, Fault, Step, Pass, act, turned, turns, is_listening, brings, counted}
use Rattle.slave_spec.specs.Slaves.{machine}
use Rattle.slave_spec.proofs.Regular.{regular_after}
use Rattle.slave_spec.proofs.Soundness.{sound_after}
use Rattle.slave_laws.specs.Talk.Desks.{Both, got, ticked, sent_next, next, at, events_of_slave}
use Rattle.slave_laws.proofs.Talk.Meets.{slave_is}
use Rattle.slave_laws.proofs.Talk.Plants.{act_step, no_refusal, row_of_next, state_is}
use Rattle.slave_laws.specs.Model.Models.{ModelsStayStill}
use Rattle.slave_laws.proofs.Model.Inputs.{set_where}

-- ---- no step of a run is taken in CONFIGURATION
abbrev pub IsEarly : Plant → Type 0
IsEarly p = p.state ≡ Configuration → p.steps ≡ 0

into_configuration : (request : Stc) (t : State) (sent : Bool) → transition_row request t sent ≡ Some Configuration → (t ≡ Alive) ⊎ (request ≡ stc.Reset)
into_configuration request t sent h = grind arith

turn_to_configuration : (t : State) → next_on_turn t 0 ≡ Configuration → t ≡ Configuration
unfolding next_on_turn
turn_to_configuration t h = grind arith

module _ (s : SlaveSetup) where
  changed_steps : (p : Plant) (request : Stc) (t : State) → ((changed_to s p request t).steps ≡ p.steps) ⊎ ((changed_to s p request t).steps ≡ 0)
  changed_steps p (stc.Register a b c d) t = inl refl
  changed_steps p stc.Deregister t = inl refl
  changed_steps p stc.Prepare t = inl refl
  changed_steps p stc.Configure t = inl refl
  changed_steps p stc.Initialize t = inl refl
  changed_steps p (stc.Run x) t = inl refl
  changed_steps p (stc.DoStep n) t = inl refl
  changed_steps p stc.SendOutputs t = inl refl
  changed_steps p stc.Stop t = inl refl
  changed_steps p stc.Reset t = inr refl

  changed_state : (p : Plant) (request : Stc) (t : State) → (changed_to s p request t).state ≡ t
  changed_state p (stc.Register a b c d) t = refl
  changed_state p stc.Deregister t = refl
  changed_state p stc.Prepare t = refl
  changed_state p stc.Configure t = refl
  changed_state p stc.Initialize t = refl
  changed_state p (stc.Run x) t = refl
  changed_state p (stc.DoStep n) t = refl
  changed_state p stc.SendOutputs t = refl
  changed_state p stc.Stop t = refl
  changed_state p stc.Reset t = refl

  reset_steps : (p : Plant) (request : Stc) (t : State) → request ≡ stc.Reset → (changed_to s p request t).steps ≡ 0
  reset_steps p request t e = ap (λ r. (changed_to s p r t).steps) e

  -- at the start no step was taken, and later the state is not the one without a session
  abbrev MayAnswer : Plant → Type 0
  MayAnswer p = (p.steps ≡ 0) ⊎ ((is_same p.state Alive ≡ false) × IsEarly p)

  alive_same : (t : State) → t ≡ Alive → is_same t Alive ≡ true
  alive_same t e = ap (λ z. is_same z Alive) e

  changed_early : (p : Plant) (request : Stc) (t : State) → transition_row request p.state p.outputs_sent ≡ Some t → MayAnswer p → IsEarly (changed_to s p request t)
  changed_early p request t r (inl z) e = zero_steps (changed_steps p request t)
    where
      zero_steps : ((changed_to s p request t).steps ≡ p.steps) ⊎ ((changed_to s p request t).steps ≡ 0) → (changed_to s p request t).steps ≡ 0
      zero_steps (inl g) = g ∙ z
      zero_steps (inr g) = g
  changed_early p request t r (inr m) e = by (into_configuration request p.state p.outputs_sent (r ∙ ap (λ (z : State). Some z) (sym (changed_state p request t) ∙ e)))
    where
      clash : is_same p.state Alive ≡ true → ⊥
      clash g = let c = sym m.0 ∙ g in cc

      by : (p.state ≡ Alive) ⊎ (request ≡ stc.Reset) → (changed_to s p request t).steps ≡ 0
      by (inl a) = absurd (clash (alive_same p.state a))
      by (inr k) = reset_steps p request t k

  set_same : (p : Plant) (body : Cfg) → ((set_to s p body).state ≡ p.state) × ((set_to s p body).steps ≡ p.steps)
  set_same p (cfg.Parameter vr kind value) = (refl, refl)
  set_same p (cfg.Logging category level mode) = (refl, refl)
  set_same p cfg.Clear = (refl, refl)
  set_same p (cfg.TimeRes a b) = (refl, refl)
  set_same p (cfg.Steps a b) = (refl, refl)
  set_same p (cfg.Input a b c d) = (refl, refl)
  set_same p (cfg.Output a b c) = (refl, refl)
  set_same p (cfg.Target a) = (refl, refl)
  set_same p (cfg.Source a) = (refl, refl)
  set_same p (cfg.Tunable a b c d) = (refl, refl)
  set_same p (cfg.ParamNet a b c d) = (refl, refl)
  set_same p (cfg.Scope a b) = (refl, refl)

  early : (p : Plant) → MayAnswer p → IsEarly p
  early p (inl z) e = z
  early p (inr m) e = m.1 e

  accepted_early : (p : Plant) (asked : Asked) → refusal s p asked ≡ None → MayAnswer p → IsEarly (accepted s p asked)
  unfolding accepted refusal
  accepted_early p (Change named request) r m =
      let o = no_refusal p request (next_on p.state request named p.outputs_sent) r in
      let q = row_of_next p.state o.0 request named p.outputs_sent o.1 in
      let P : State → Type 0 = λ t. IsEarly (changed_to s p request t) in
      subst P (sym (state_is p.state o.0 (next_on p.state request named p.outputs_sent) o.1)) (changed_early p request o.0 q m)
  accepted_early p (Setting body) r m = λ e. let k = set_same p body in k.1 ∙ early p m (sym k.0 ∙ e)
  accepted_early p (Question inf.State) r m = early p m
  accepted_early p (Question inf.Error) r m = early p m
  accepted_early p (Question (inf.Log category most)) r m = early p m

  answered_early : (p : Plant) (asked : Asked) (o : Option ErrorCode) → refusal s p asked ≡ o → MayAnswer p → IsEarly (answered_plant s p asked o).after
  answered_early p asked (Some code) r m = early p m
  answered_early p asked None r m = accepted_early p asked r m

  turned_early : (p : Plant) (a : Act) → IsEarly p → IsEarly (turned s p a).after
  turned_early p Stay h = h
  turned_early p (Wait left) h = h
  turned_early p (Fault code) h = λ e. absurd cc
  turned_early p (Step x) h = λ e. absurd cc
  turned_early p Pass h = λ e. h (turn_to_configuration p.state e)

  brings_early : (from : Address) (number id : ℕ) (payload : List ℕ) (p : Plant) → IsEarly p → IsEarly (brings s from number id payload p)
  brings_early from number id payload p h = by (is_listening p.state)
    where
      by : (b : Bool) → IsEarly (if b then record p { wires = brought s.desc p.wires from number id payload p.steps } else p)
      by true = h
      by false = h

  -- ---- through the session
  abbrev pub EarlyIn : Session → Plant → Type 0
  EarlyIn Before p = p.steps ≡ 0
  EarlyIn (During master id) p = IsEarly p
  EarlyIn (After master id) p = Unit {0}

  after_session : (session : Session) (from : Address) (r : SlaveRequest) (a : transport.SlaveAnswer) (p : Plant) → IsEarly p → EarlyIn (transport.session_after session from r a) p
  after_session Before from r a p h = h
  after_session (During master id) from r a p h = by (transport.is_last r.asked a)
    where
      by : (b : Bool) → EarlyIn (if b then After master id else During master id) p
      by true = tt
      by false = h
  after_session (After master id) from r a p h = tt

  taken_early : (session : Session) (served : List transport.Exchange) (quiet : ℕ) (p : Plant) (from : Address) (r : SlaveRequest) → IsRegularIn s session p → EarlyIn session p → EarlyIn (transport.session_after session from r (answers s r.asked p).answer) (answers s r.asked p).after
  taken_early Before served quiet p from r reg h = after_session Before from r (answers s r.asked p).answer (answers s r.asked p).after (answered_early p r.asked (refusal s p r.asked) refl (inl h))
  taken_early (During master id) served quiet p from r reg h = after_session (During master id) from r (answers s r.asked p).answer (answers s r.asked p).after (answered_early p r.asked (refusal s p r.asked) refl (inr (reg.registered, h)))
  taken_early (After master id) served quiet p from r reg h = tt

  at_request : (x : SlaveState Plant) (from : Address) (r : SlaveRequest) (f : Fate) → IsRegularIn s x.session x.inner → EarlyIn x.session x.inner → let y = transport.after_request (machine s) x from r f in EarlyIn y.session y.inner
  at_request x from r Dropped reg h = h
  at_request x from r (Refused code) reg h = h
  at_request x from r Repeated reg h = h
  at_request x from r Taken reg h = taken_early x.session x.served x.quiet x.inner from r reg h

  open_stays : (session : Session) (p q : Plant) → transport.is_open session ≡ true → (IsEarly p → IsEarly q) → EarlyIn session p → EarlyIn session q
  open_stays Before p q o f h = absurd cc
  open_stays (During master id) p q o f h = f h
  open_stays (After master id) p q o f h = tt

  at_heard : (x : SlaveState Plant) (from : Address) (k : spec.Heard) → IsRegularIn s x.session x.inner → EarlyIn x.session x.inner → let y = transport.after_heard (machine s) x from k in EarlyIn y.session y.inner
  at_heard x from (spec.Asks r) reg h = at_request x from r (transport.fate (machine s) x from r) reg h
  at_heard x from (spec.Brings number id payload) reg h = by (transport.is_open x.session) refl
    where
      q : Plant
      q = brings s from number id payload x.inner

      by : (b : Bool) → transport.is_open x.session ≡ b → let y = (if b then record x { inner = q } else x) in EarlyIn y.session y.inner
      by true o = open_stays x.session x.inner q o (brings_early from number id payload x.inner) h
      by false o = h
  at_heard x from spec.Nothing reg h = h

  at_tick : (x : SlaveState Plant) → EarlyIn x.session x.inner → let y = transport.after_turn (machine s) x in EarlyIn y.session y.inner
  at_tick x h = by (transport.is_open x.session) refl
    where
      q : Plant
      q = (turns s (transport.quieter x.quiet) x.inner).after

      by : (b : Bool) → transport.is_open x.session ≡ b → let y = (if b then record x { quiet = transport.quieter x.quiet; inner = q } else x) in EarlyIn y.session y.inner
      by true o = open_stays x.session x.inner q o (turned_early x.inner (act s (transport.quieter x.quiet) x.inner)) h
      by false o = h

  -- ---- the model
  change_still : (p : Plant) (request : Stc) (t : State) → 0 < (changed_to s p request t).steps → (changed_to s p request t).model ≡ p.model
  change_still p (stc.Register a b c d) t h = refl
  change_still p stc.Deregister t h = refl
  change_still p stc.Prepare t h = refl
  change_still p stc.Configure t h = refl
  change_still p stc.Initialize t h = refl
  change_still p (stc.Run x) t h = refl
  change_still p (stc.DoStep n) t h = refl
  change_still p stc.SendOutputs t h = refl
  change_still p stc.Stop t h = refl
  change_still p stc.Reset t h = absurd (omega (arith, h))

  accepted_still : (p : Plant) (asked : Asked) → refusal s p asked ≡ None → MayAnswer p → 0 < (accepted s p asked).steps → (accepted s p asked).model ≡ p.model
  unfolding accepted refusal
  accepted_still p (Change named request) r m h = change_still p request (state_or p.state (next_on p.state request named p.outputs_sent)) h
  accepted_still p (Setting body) r m h = absurd (omega (arith, h, (set_same p body).1, early p m (set_where s p body r)))
  accepted_still p (Question inf.State) r m h = refl
  accepted_still p (Question inf.Error) r m h = refl
  accepted_still p (Question (inf.Log category most)) r m h = refl

  answered_still : (p : Plant) (asked : Asked) (o : Option ErrorCode) → refusal s p asked ≡ o → MayAnswer p → 0 < (answered_plant s p asked o).after.steps → (answered_plant s p asked o).after.model ≡ p.model
  answered_still p asked (Some code) r m h = refl
  answered_still p asked None r m h = accepted_still p asked r m h

  one_more : (n : ℕ) → n < 2 ^ 32 - 1 → counted n ≡ n → ⊥
  one_more n lt e = omega (arith, lt, e)

  turned_still : (p : Plant) (a : Act) → ((x : List ℤ) → a ≡ Step x → p.steps < 2 ^ 32 - 1) → (turned s p a).after.steps ≡ p.steps → (turned s p a).after.model ≡ p.model
  turned_still p Stay f e = refl
  turned_still p (Wait left) f e = refl
  turned_still p (Fault code) f e = refl
  turned_still p (Step x) f e = absurd (one_more p.steps (f x refl) e)
  turned_still p Pass f e = refl

  below : (quiet : ℕ) (p : Plant) → IsSoundPlant p → (x : List ℤ) → act s quiet p ≡ Step x → p.steps < 2 ^ 32 - 1
  below quiet p ok x e = ok.below (ap (λ z. is_same z Computing) (act_step s quiet p x e))

  -- a request that is taken after the session would be late
  never_late : (c : Bool) (q : Place) → (if c then transport.placed_late q else Dropped) ≡ Taken → ⊥
  never_late c q e = grind arith

  abbrev Still : Plant → Plant → Type 0
  Still p q = 0 < q.steps → q.steps ≡ p.steps → q.model ≡ p.model

  taken_still : (x : SlaveState Plant) (from : Address) (r : SlaveRequest) (session : Session) → IsRegularIn s session x.inner → EarlyIn session x.inner → transport.fate_in (machine s) session x.served from r ≡ Taken → Still x.inner (answers s r.asked x.inner).after
  taken_still x from r Before reg h e = λ a b. answered_still x.inner r.asked (refusal s x.inner r.asked) refl (inl h) a
  taken_still x from r (During master id) reg h e = λ a b. answered_still x.inner r.asked (refusal s x.inner r.asked) refl (inr (reg.registered, h)) a
  taken_still x from r (After master id) reg h e = absurd (never_late (transport.same_address from master && (r.receiver == id)) (place r.number (transport.expected x.served)) e)

  request_still : (x : SlaveState Plant) (from : Address) (r : SlaveRequest) (f : Fate) → transport.fate (machine s) x from r ≡ f → IsRegularIn s x.session x.inner → EarlyIn x.session x.inner → Still x.inner (transport.after_request (machine s) x from r f).inner
  request_still x from r Dropped e reg h = λ a b. refl
  request_still x from r (Refused code) e reg h = λ a b. refl
  request_still x from r Repeated e reg h = λ a b. refl
  request_still x from r Taken e reg h = taken_still x from r x.session reg h e

  brings_still : (from : Address) (number id : ℕ) (payload : List ℕ) (p : Plant) → (brings s from number id payload p).model ≡ p.model
  brings_still from number id payload p = by (is_listening p.state)
    where
      by : (b : Bool) → (if b then record p { wires = brought s.desc p.wires from number id payload p.steps } else p).model ≡ p.model
      by true = refl
      by false = refl

  heard_still : (x : SlaveState Plant) (from : Address) (k : spec.Heard) → IsRegularIn s x.session x.inner → EarlyIn x.session x.inner → Still x.inner (transport.after_heard (machine s) x from k).inner
  heard_still x from (spec.Asks r) reg h = request_still x from r (transport.fate (machine s) x from r) refl reg h
  heard_still x from (spec.Brings number id payload) reg h = by (transport.is_open x.session)
    where
      by : (b : Bool) → Still x.inner (if b then record x { inner = brings s from number id payload x.inner } else x).inner
      by true = λ a e. brings_still from number id payload x.inner
      by false = λ a e. refl
  heard_still x from spec.Nothing reg h = λ a e. refl

  tick_still : (x : SlaveState Plant) → IsSoundPlant x.inner → Still x.inner (transport.after_turn (machine s) x).inner
  tick_still x ok = by (transport.is_open x.session)
    where
      by : (b : Bool) → Still x.inner (if b then record x { quiet = transport.quieter x.quiet; inner = (turns s (transport.quieter x.quiet) x.inner).after } else x).inner
      by true = λ a e. turned_still x.inner (act s (transport.quieter x.quiet) x.inner) (below (transport.quieter x.quiet) x.inner ok) e
      by false = λ a e. refl

  -- ---- over a log
  module _ (w : Parties) (n : ℕ) where
    regular : (log : List LogEntry) → let x = (at (machine s) w n log).slave in IsRegularIn s x.session x.inner
    regular log = let P : SlaveState Plant → Type 0 = λ x. IsRegularIn s x.session x.inner in subst P (sym (slave_is (machine s) w n log)) (regular_after s (events_of_slave w n log))

    sound : (log : List LogEntry) → IsSoundPlant (at (machine s) w n log).slave.inner
    sound log = let P : SlaveState Plant → Type 0 = λ x. IsSoundPlant x.inner in subst P (sym (slave_is (machine s) w n log)) (sound_after s (events_of_slave w n log))

    sent_slave : (mv : Move) (x : Both Plant) → (sent_next (machine s) w n mv x).slave ≡ x.slave
    sent_slave (Asks k) x = refl
    sent_slave (Comes from receiver k) x = refl
    sent_slave (Tells to bytes) x = refl
    sent_slave (Hears k) x = refl
    sent_slave (Brings from id k) x = refl
    sent_slave Turns x = refl
    sent_slave Rests x = refl
    sent_slave Other x = refl

    next_early : (e : LogEntry) (x : Both Plant) → IsRegularIn s x.slave.session x.slave.inner → EarlyIn x.slave.session x.slave.inner → let y = next (machine s) w n e x in EarlyIn y.slave.session y.slave.inner
    next_early (Sent from to bytes) x reg h = let P : SlaveState Plant → Type 0 = λ y. EarlyIn y.session y.inner in subst P (sym (sent_slave (move w n (Sent from to bytes)) x)) h
    next_early (Got at' from bytes) x reg h = by (same at' (w.slave n))
      where
        by : (b : Bool) → let y = (if b then got (machine s) w n from bytes x else x) in EarlyIn y.slave.session y.slave.inner
        by true = at_heard x.slave from (spec.heard bytes) reg h
        by false = h
    next_early (Idle at') x reg h = h
    next_early (Turn at') x reg h = by (same at' (w.slave n))
      where
        by : (b : Bool) → let y = (if b then ticked (machine s) w n x else x) in EarlyIn y.slave.session y.slave.inner
        by true = at_tick x.slave h
        by false = h

    early_at : (log : List LogEntry) → let x = (at (machine s) w n log).slave in EarlyIn x.session x.inner
    early_at [] = refl
    early_at (e ∷ log) = next_early e (at (machine s) w n log) (regular log) (early_at log)

    next_still : (e : LogEntry) (x : Both Plant) → IsRegularIn s x.slave.session x.slave.inner → IsSoundPlant x.slave.inner → EarlyIn x.slave.session x.slave.inner → Still x.slave.inner (next (machine s) w n e x).slave.inner
    next_still (Sent from to bytes) x reg ok h = λ a b. ap (λ y. y.inner.model) (sent_slave (move w n (Sent from to bytes)) x)
    next_still (Got at' from bytes) x reg ok h = by (same at' (w.slave n))
      where
        by : (b : Bool) → Still x.slave.inner (if b then got (machine s) w n from bytes x else x).slave.inner
        by true = heard_still x.slave from (spec.heard bytes) reg h
        by false = λ a b. refl
    next_still (Idle at') x reg ok h = λ a b. refl
    next_still (Turn at') x reg ok h = by (same at' (w.slave n))
      where
        by : (b : Bool) → Still x.slave.inner (if b then ticked (machine s) w n x else x).slave.inner
        by true = tick_still x.slave ok
        by false = λ a b. refl

pub stays_still : ModelsStayStill
stays_still s w n e log a b = next_still s w n e (at (machine s) w n log) (regular s w n log) (sound s w n log) (early_at s w n log) a b
