-- The slave of the definition performs its row events as the laws want it.
use Rattle.std.proofs.Common.{◌≡◌, ℕ, Bool, true, false, if◌then◌else◌, ◌⊎◌, inl, inr, Option, Some, None, List, [], ◌∷◌, length, refl, sym, ap, ◌∙◌, subst, arith, ℤ}
use Rattle.std.specs.Prelude.{is_some, ◌&&◌, ◌==◌}
use Rattle.dcp_types.specs.declared.addresses.Address.{Address}
use Rattle.dcp_types.specs.declared.states.State.{State}
use Rattle.dcp_types.specs.declared.states.State.TheVariants.{Computing}
use Rattle.dcp_types.specs.declared.error_codes.ErrorCode.{ErrorCode}
use Rattle.pdu_layout.specs.declared.messages.Stc.{Stc}
use Rattle.pdu_layout.specs.declared.messages.Stc.TheVariants as stc
use Rattle.pdu_layout.specs.declared.messages.Cfg.{Cfg}
use Rattle.pdu_layout.specs.declared.messages.Cfg.TheVariants as cfg
use Rattle.pdu_layout.specs.declared.messages.Inf.TheVariants as inf
use Rattle.log_spec.specs.Messages.{Note, Role, Request, Answer, Value, Else}
use Rattle.dcp_ends.specs.declared.entries.LogEntry.{LogEntry}
use Rattle.dcp_ends.specs.declared.entries.LogEntry.TheVariants.{Sent, Got, Idle, Turn}
use Rattle.log_spec.specs.Log.{Parties, same, role_heard, DecidedRequest}
use Rattle.log_spec.specs.Moves.{Move, Asks, Comes, Tells, Hears, Brings, Turns, Rests, Other, sent_move, got_move, move}
use Rattle.lockstep_laws.specs.Steps as steps
use Rattle.lockstep_laws.specs.Steps.{RowEvent, Told, told_by, told_of, event_asked, Bench, Idles, TakesOn, HasTurn}
use Rattle.lockstep_laws.specs.Works.{Works, Performs}
use Rattle.slave_states.specs.Transitions.{next_on, next_on_turn, transition_row}
use Rattle.slave_spec.specs.declared.words.SlaveSetup.{SlaveSetup}
use Rattle.slave_spec.specs.declared.words.SlaveRequest as req
use Rattle.slave_spec.specs.declared.words.Asked.{Asked}
use Rattle.slave_spec.specs.declared.words.Asked.TheVariants.{Change, Setting, Question}
use Rattle.slave_spec.specs.declared.words.Session.{Session}
use Rattle.slave_spec.specs.declared.words.Session.TheVariants.{Before, During, After}
use Rattle.slave_spec.specs.declared.words.Fate.{Fate}
use Rattle.slave_spec.specs.declared.words.Fate.TheVariants.{Dropped, Refused, Repeated, Taken}
use Rattle.slave_spec.specs.Heard as spec
use Rattle.slave_spec.specs.Transport as transport
use Rattle.slave_spec.specs.Transport.{Machine, SlaveState, Answered}
use Rattle.slave_spec.specs.Plants.{Plant}
use Rattle.slave_spec.specs.Sound.{IsSoundPlant}
use Rattle.slave_spec.proofs.Soundness.{sound_after}
use Rattle.slave_laws.proofs.Talk.Meets.{slave_is}
use Rattle.slave_spec.specs.Requests.{refusal, accepted, answer, answered_plant, answers, changed_to, set_to, state_or}
use Rattle.slave_spec.specs.Turns as turns
use Rattle.slave_spec.specs.Turns.{Act, act, turned, is_listening}
use Rattle.std.proofs.lemmas.Bool.Decides.{nat_tests}
use Rattle.seq_window.specs.declared.places.Place as seq
use Rattle.seq_window.specs.declared.places.Place.TheVariants as places
use Rattle.seq_window.specs.Window as window
use Rattle.slave_spec.specs.Payloads.{brought}
use Rattle.slave_spec.specs.Slaves.{machine}
use Rattle.slave_laws.specs.Talk.Plants.{under_way, bench_of, event_wanted, reply_told, events_taken, is_error_state}
use Rattle.slave_laws.specs.Talk.Desks.{answer_note, served_by, served_after, Both, got, ticked, sent_next, next, at, desk_at, events_of_slave, Agree, ReadsAnswersBack}
use Rattle.slave_laws.specs.Talk.Benches.{events_by, events_got, events_tick, events_next, events_done, bench_at}
use Rattle.slave_laws.proofs.Talk.Plants.{Sound, act_step, turn_goes, answer_goes, no_refusal, row_of_next}

-- the answer as a note tells the same
pub reply_is : (r : req.SlaveRequest) (n : ℕ) (a : transport.SlaveAnswer) → steps.reply_of (answer_note r n a) ≡ reply_told a
reply_is r n transport.Ack = refl
reply_is r n (transport.Nack code) = refl
reply_is r n (transport.StateAck state) = refl
reply_is r n (transport.ErrorAck code) = refl
reply_is r n (transport.LogAck entries) = refl

idle : (n : ℕ) (p : Plant) → Idles (bench_of n p) (bench_of n p)
idle n p = record { events = refl; busy = refl; faulty = refl; resets = refl; steps = refl }

-- ---- faults
abbrev FaultFits : Session → Plant → Type 0
FaultFits Before p = is_some p.fault ≡ false
FaultFits (During master id) p = Sound p
FaultFits (After master id) p = Unit {0}

pub same_sound : (p q : Plant) → q.state ≡ p.state → q.fault ≡ p.fault → Sound p → Sound q
same_sound p q e f (inl h) = inl (ap is_some f ∙ h)
same_sound p q e f (inr h) = inr (ap is_error_state e ∙ h)

error_next : (state : State) → is_error_state state ≡ true → is_error_state (next_on_turn state 0) ≡ true
unfolding next_on_turn
error_next state h = grind arith

pub turned_sound : (s : SlaveSetup) (p : Plant) (a : Act) → ((x : List ℤ) → a ≡ turns.Step x → p.state ≡ Computing) → Sound p → Sound (turned s p a).after
turned_sound s p turns.Stay f h = h
turned_sound s p (turns.Wait left) f h = same_sound p (turned s p (turns.Wait left)).after refl refl h
turned_sound s p (turns.Fault code) f h = inr refl
turned_sound s p (turns.Step x) f (inl h) = inl h
turned_sound s p (turns.Step x) f (inr h) = absurd (clash (sym (ap is_error_state (f x refl)) ∙ h))
  where
    clash : false ≡ true → ⊥
    clash z = cc
turned_sound s p turns.Pass f (inl h) = inl h
turned_sound s p turns.Pass f (inr h) = inr (error_next p.state h)

-- a request that is taken leaves the fault as it is, and the error state but for the end of the session
abbrev pub ends_or_sound : (asked : Asked) (a : transport.SlaveAnswer) (p : Plant) → Type 0
ends_or_sound asked a p = (transport.is_last asked a ≡ true) ⊎ Sound p

set_state : (s : SlaveSetup) (p : Plant) (body : Cfg) → ((set_to s p body).state ≡ p.state) × ((set_to s p body).fault ≡ p.fault)
set_state s p (cfg.Parameter vr kind value) = (refl, refl)
set_state s p (cfg.Logging category level mode) = (refl, refl)
set_state s p cfg.Clear = (refl, refl)
set_state s p (cfg.TimeRes a b) = (refl, refl)
set_state s p (cfg.Steps a b) = (refl, refl)
set_state s p (cfg.Input a b c d) = (refl, refl)
set_state s p (cfg.Output a b c) = (refl, refl)
set_state s p (cfg.Target a) = (refl, refl)
set_state s p (cfg.Source a) = (refl, refl)
set_state s p (cfg.Tunable a b c d) = (refl, refl)
set_state s p (cfg.ParamNet a b c d) = (refl, refl)
set_state s p (cfg.Scope a b) = (refl, refl)

changed_fault : (s : SlaveSetup) (p : Plant) (request : Stc) (next' : State) → (changed_to s p request next').fault ≡ p.fault
changed_fault s p stc.SendOutputs z = refl
changed_fault s p (stc.DoStep k) z = refl
changed_fault s p stc.Reset z = refl
changed_fault s p (stc.Register a b c d) z = refl
changed_fault s p stc.Deregister z = refl
changed_fault s p stc.Prepare z = refl
changed_fault s p stc.Configure z = refl
changed_fault s p stc.Initialize z = refl
changed_fault s p (stc.Run t) z = refl
changed_fault s p stc.Stop z = refl

-- in an error state there is a row for the end of the session alone
error_row : (state next' : State) (request : Stc) (sent : Bool) → is_error_state state ≡ true → transition_row request state sent ≡ Some next' → request ≡ stc.Deregister
error_row state next' request sent h r = grind arith

pub taken_sound : (s : SlaveSetup) (p : Plant) (asked : Asked) (o : Option ErrorCode) → refusal s p asked ≡ o → Sound p → ends_or_sound asked (answered_plant s p asked o).answer (answered_plant s p asked o).after
unfolding refusal accepted answer
taken_sound s p asked (Some code) e h = inr (same_sound p (answered_plant s p asked (Some code)).after refl refl h)
taken_sound s p (Question inf.State) None e h = inr (same_sound p (answered_plant s p (Question inf.State) None).after refl refl h)
taken_sound s p (Question inf.Error) None e h = inr (same_sound p (answered_plant s p (Question inf.Error) None).after refl refl h)
taken_sound s p (Question (inf.Log category most)) None e h = inr (same_sound p (answered_plant s p (Question (inf.Log category most)) None).after refl refl h)
taken_sound s p (Setting body) None e h = let k = set_state s p body in inr (same_sound p (answered_plant s p (Setting body) None).after k.0 k.1 h)
taken_sound s p (Change named request) None e (inl h) = inr (inl (ap is_some (changed_fault s p request (state_or p.state (next_on p.state request named p.outputs_sent))) ∙ h))
taken_sound s p (Change named request) None e (inr h) =
    let o = no_refusal p request (next_on p.state request named p.outputs_sent) e in
    let r = row_of_next p.state o.0 request named p.outputs_sent o.1 in
    let is = error_row p.state o.0 request p.outputs_sent h r in
    inl (ap (λ z. transport.is_last (Change named z) transport.Ack) is)

fault_same : (s : SlaveSetup) (p : Plant) (asked : Asked) (o : Option ErrorCode) → (answered_plant s p asked o).after.fault ≡ p.fault
unfolding accepted
fault_same s p asked (Some code) = refl
fault_same s p (Question inf.State) None = refl
fault_same s p (Question inf.Error) None = refl
fault_same s p (Question (inf.Log category most)) None = refl
fault_same s p (Setting body) None = (set_state s p body).1
fault_same s p (Change named request) None = changed_fault s p request (state_or p.state (next_on p.state request named p.outputs_sent))

ends_sound : (asked : Asked) (a : transport.SlaveAnswer) (p : Plant) → ends_or_sound asked a p → (transport.is_last asked a ≡ true) ⊎ Sound p
unfolding ends_or_sound
ends_sound asked a p h = h

module _ (setup : SlaveSetup) where
  -- ---- faults along a log
  after_fits : (x : SlaveState Plant) (from : Address) (r : req.SlaveRequest) (f : Fate) → FaultFits x.session x.inner → FaultFits (transport.after_request (machine setup) x from r f).session (transport.after_request (machine setup) x from r f).inner
  after_fits x from r Dropped h = h
  after_fits x from r (Refused code) h = h
  after_fits x from r Repeated h = h
  after_fits x from r Taken h = by x.session h
    where
      late : (c : Bool) (master : Address) (id : ℕ) (p : Plant) → (c ≡ true) ⊎ Sound p → FaultFits (if c then After master id else During master id) p
      late true master id p h = tt
      late false master id p (inl e) = absurd (clash e)
        where
          clash : false ≡ true → ⊥
          clash z = cc
      late false master id p (inr h) = h

      by : (session : Session) → FaultFits session x.inner → FaultFits (transport.session_after session from r (answers setup r.asked x.inner).answer) (answers setup r.asked x.inner).after
      by Before h = inl (ap is_some (fault_same setup x.inner r.asked (refusal setup x.inner r.asked)) ∙ h)
      by (During master id) h =
          let a = answers setup r.asked x.inner in
          late (transport.is_last r.asked a.answer) master id a.after (ends_sound r.asked a.answer a.after (taken_sound setup x.inner r.asked (refusal setup x.inner r.asked) refl h))
      by (After master id) h = tt

  fits_same : (session : Session) (p q : Plant) → q.state ≡ p.state → q.fault ≡ p.fault → FaultFits session p → FaultFits session q
  fits_same Before p q e f h = ap is_some f ∙ h
  fits_same (During master id) p q e f h = same_sound p q e f h
  fits_same (After master id) p q e f h = tt

  brings_keeps : (from : Address) (number id : ℕ) (payload : List ℕ) (p : Plant) → ((turns.brings setup from number id payload p).state ≡ p.state) × ((turns.brings setup from number id payload p).fault ≡ p.fault) × ((turns.brings setup from number id payload p).earlier ≡ p.earlier) × ((turns.brings setup from number id payload p).steps ≡ p.steps)
  brings_keeps from number id payload p = by (is_listening p.state)
    where
      by : (c : Bool) → let q = (if c then record p { wires = brought setup.desc p.wires from number id payload p.steps } else p) in (q.state ≡ p.state) × (q.fault ≡ p.fault) × (q.earlier ≡ p.earlier) × (q.steps ≡ p.steps)
      by true = (refl, refl, refl, refl)
      by false = (refl, refl, refl, refl)

  brings_fits : (x : SlaveState Plant) (from : Address) (number id : ℕ) (payload : List ℕ) → FaultFits x.session x.inner → FaultFits (transport.after_heard (machine setup) x from (spec.Brings number id payload)).session (transport.after_heard (machine setup) x from (spec.Brings number id payload)).inner
  brings_fits x from number id payload h = by (transport.is_open x.session)
    where
      k : ((turns.brings setup from number id payload x.inner).state ≡ x.inner.state) × ((turns.brings setup from number id payload x.inner).fault ≡ x.inner.fault) × ((turns.brings setup from number id payload x.inner).earlier ≡ x.inner.earlier) × ((turns.brings setup from number id payload x.inner).steps ≡ x.inner.steps)
      k = brings_keeps from number id payload x.inner

      by : (c : Bool) → let y = (if c then record x { inner = turns.brings setup from number id payload x.inner } else x) in FaultFits y.session y.inner
      by true = fits_same x.session x.inner (turns.brings setup from number id payload x.inner) k.0 k.1 h
      by false = h

  heard_fits : (x : SlaveState Plant) (from : Address) (h : spec.Heard) → FaultFits x.session x.inner → FaultFits (transport.after_heard (machine setup) x from h).session (transport.after_heard (machine setup) x from h).inner
  heard_fits x from (spec.Asks r) f = after_fits x from r (transport.fate (machine setup) x from r) f
  heard_fits x from (spec.Brings number id payload) f = brings_fits x from number id payload f
  heard_fits x from spec.Nothing f = f

  tick_fits : (session : Session) (quiet served : _) (inner : Plant) → FaultFits session inner → let y = transport.after_turn (machine setup) (record { session = session; served = served; quiet = quiet; inner = inner }) in FaultFits y.session y.inner
  tick_fits Before quiet served inner h = h
  tick_fits (During master id) quiet served inner h = turned_sound setup inner (act setup (transport.quieter quiet) inner) (act_step setup (transport.quieter quiet) inner) h
  tick_fits (After master id) quiet served inner h = tt

  module _ (w : Parties) (s : ℕ) (read : ReadsAnswersBack (machine setup) w s) where
    told_fits : (mv : Move) (x : Both Plant) → FaultFits x.slave.session x.slave.inner → FaultFits (sent_next (machine setup) w s mv x).slave.session (sent_next (machine setup) w s mv x).slave.inner
    told_fits (Asks n) x h = h
    told_fits (Comes from receiver n) x h = h
    told_fits (Tells to bytes) x h = h
    told_fits (Hears n) x h = h
    told_fits (Brings from id n) x h = h
    told_fits Turns x h = h
    told_fits Rests x h = h
    told_fits Other x h = h

    next_fits : (e : LogEntry) (x : Both Plant) → FaultFits x.slave.session x.slave.inner → FaultFits (next (machine setup) w s e x).slave.session (next (machine setup) w s e x).slave.inner
    next_fits (Sent from to bytes) x h = told_fits (move w s (Sent from to bytes)) x h
    next_fits (Got at' from bytes) x h = by (same at' (w.slave s))
      where
        by : (c : Bool) → let y = (if c then got (machine setup) w s from bytes x else x) in FaultFits y.slave.session y.slave.inner
        by true = heard_fits x.slave from (spec.heard bytes) h
        by false = h
    next_fits (Idle at') x h = h
    next_fits (Turn at') x h = by (same at' (w.slave s))
      where
        by : (c : Bool) → let y = (if c then ticked (machine setup) w s x else x) in FaultFits y.slave.session y.slave.inner
        by true = tick_fits x.slave.session x.slave.quiet x.slave.served x.slave.inner h
        by false = h

    fits : (log : List LogEntry) → let y = at (machine setup) w s log in FaultFits y.slave.session y.slave.inner
    fits [] = refl
    fits (e ∷ log) = next_fits e (at (machine setup) w s log) (fits log)

    -- ---- the row events
    bench_by : SlaveState Plant → Address → req.SlaveRequest → Fate → ℕ → Bench
    bench_by x from r f n = bench_of (events_by setup w s x r f n) (transport.after_request (machine setup) x from r f).inner

    -- a request in a session
    takes : (x : SlaveState Plant) (es : List DecidedRequest) (from : Address) (k : Note) (r : req.SlaveRequest) (n : ℕ) → event_asked k ≡ event_wanted r.asked → Sound x.inner → (f : Fate)
        → ((served_by (machine setup) x es k r f ≡ es) × Idles (bench_of n x.inner) (bench_of (events_by setup w s x r f n) (transport.after_request (machine setup) x from r f).inner))
        ⊎ ((y : DecidedRequest) × (served_by (machine setup) x es k r f ≡ y ∷ es) × TakesOn (told_of y) (bench_of n x.inner) (bench_of (events_by setup w s x r f n) (transport.after_request (machine setup) x from r f).inner))
    takes x es from k r n e sound Dropped = inl (refl, idle n x.inner)
    takes x es from k r n e sound (Refused code) = inl (refl, idle n x.inner)
    takes x es from k r n e sound Repeated = inl (refl, idle n x.inner)
    takes x es from k r n e sound Taken =
        let a = answers setup r.asked x.inner in
        let many = transport.expected (record { request = r; answer = a.answer } ∷ x.served) in
        let tells : told_by (event_asked k) (steps.reply_of (answer_note r many a.answer)) ≡ told_by (event_wanted r.asked) (reply_told a.answer) = ap (λ q. told_by q (steps.reply_of (answer_note r many a.answer))) e ∙ ap (told_by (event_wanted r.asked)) (reply_is r many a.answer) in
        let P : Told → Type 0 = λ t. TakesOn t (bench_of n x.inner) (bench_of (events_taken (event_wanted r.asked) (refusal setup x.inner r.asked) n) a.after) in
        inr (record { request = k; answer = answer_note r many a.answer }, refl, subst P (sym tells) (answer_goes setup x.inner r.asked n sound))

    abbrev Takes : SlaveState Plant → List DecidedRequest → Address → Note → req.SlaveRequest → ℕ → Fate → Type 0
    Takes x es from k r n f = ((served_by (machine setup) x es k r f ≡ es) × Idles (bench_of n x.inner) (bench_of (events_by setup w s x r f n) (transport.after_request (machine setup) x from r f).inner))
        ⊎ ((y : DecidedRequest) × (served_by (machine setup) x es k r f ≡ y ∷ es) × TakesOn (told_of y) (bench_of n x.inner) (bench_of (events_by setup w s x r f n) (transport.after_request (machine setup) x from r f).inner))

    late : (x : SlaveState Plant) (es : List DecidedRequest) (from : Address) (k : Note) (r : req.SlaveRequest) (n : ℕ) (q : seq.Place) → Takes x es from k r n (transport.placed_late q)
    late x es from k r n places.Next = inl (refl, idle n x.inner)
    late x es from k r n places.Repeat = inl (refl, idle n x.inner)
    late x es from k r n places.Old = inl (refl, idle n x.inner)
    late x es from k r n places.Ahead = inl (refl, idle n x.inner)

    takes_in : (x : SlaveState Plant) (es : List DecidedRequest) (from : Address) (k : Note) (r : req.SlaveRequest) (n : ℕ) → event_asked k ≡ event_wanted r.asked → (session : Session) → FaultFits session x.inner → Takes x es from k r n (transport.fate_in (machine setup) session x.served from r)
    takes_in x es from k r n e Before f = takes x es from k r n e (inl f) (transport.fate_in (machine setup) Before x.served from r)
    takes_in x es from k r n e (During master id) f = takes x es from k r n e f (transport.fate_in (machine setup) (During master id) x.served from r)
    takes_in x es from k r n e (After master id) f = by (transport.same_address from master && (r.receiver == id))
      where
        by : (c : Bool) → Takes x es from k r n (if c then transport.placed_late (window.place r.number (transport.expected x.served)) else Dropped)
        by true = late x es from k r n (window.place r.number (transport.expected x.served))
        by false = inl (refl, idle n x.inner)

    brings_idles : (x : SlaveState Plant) (from : Address) (number id : ℕ) (payload : List ℕ) (n : ℕ) → Idles (bench_of n x.inner) (bench_of n (transport.after_heard (machine setup) x from (spec.Brings number id payload)).inner)
    brings_idles x from number id payload n = by (transport.is_open x.session) (brings_keeps from number id payload x.inner)
      where
        by : (c : Bool) → let q = turns.brings setup from number id payload x.inner in (q.state ≡ x.inner.state) × (q.fault ≡ x.inner.fault) × (q.earlier ≡ x.inner.earlier) × (q.steps ≡ x.inner.steps) → Idles (bench_of n x.inner) (bench_of n (if c then record x { inner = q } else x).inner)
        by true k = record { events = refl; busy = ap under_way k.0; faulty = ap is_some k.1; resets = ap length k.2; steps = k.3 }
        by false k = idle n x.inner

    abbrev GotMove : Address → Role → Move
    GotMove from (Request receiver n) = Comes from receiver n
    GotMove from (Answer sender n) = Rests
    GotMove from (Value id n) = Brings from id n
    GotMove from Else = Rests

    got_works : (from : Address) (k : Role) (h : spec.Heard) (x : Both Plant) (n : ℕ) → Agree k h → FaultFits x.slave.session x.slave.inner
        → Works (GotMove from k) x.desk.served (served_after (machine setup) x.slave x.desk.served from k h) (bench_of n x.slave.inner) (bench_of (events_got setup w s x.slave from k h n) (transport.after_heard (machine setup) x.slave from h).inner)
    got_works from (Request receiver k) (spec.Asks r) x n a f = takes_in x.slave x.desk.served from k r n a.3 x.slave.session f
    got_works from (Request receiver k) (spec.Brings number i payload) x n a f = absurd a
    got_works from (Request receiver k) spec.Nothing x n a f = absurd a
    got_works from (Answer sender k) (spec.Asks r) x n a f = absurd a
    got_works from (Answer sender k) (spec.Brings number i payload) x n a f = absurd a
    got_works from (Answer sender k) spec.Nothing x n a f = idle n x.slave.inner
    got_works from (Value id k) (spec.Asks r) x n a f = absurd a
    got_works from (Value id k) (spec.Brings number i payload) x n a f = brings_idles x.slave from number i payload n
    got_works from (Value id k) spec.Nothing x n a f = absurd a
    got_works from Else (spec.Asks r) x n a f = absurd a
    got_works from Else (spec.Brings number i payload) x n a f = absurd a
    got_works from Else spec.Nothing x n a f = idle n x.slave.inner

    here_works : (at' from : Address) (bytes : List ℕ) (k : Role) (h : spec.Heard) (x : Both Plant) (n : ℕ) → Agree k h → FaultFits x.slave.session x.slave.inner → (c : Bool) → same at' (w.slave s) ≡ c
        → Works (got_move w s at' from k) x.desk.served (if c then served_after (machine setup) x.slave x.desk.served from k h else x.desk.served) (bench_of n x.slave.inner) (bench_of (if c then events_got setup w s x.slave from k h n else n) (if c then transport.after_heard (machine setup) x.slave from h else x.slave).inner)
    here_works at' from bytes k h x n a f true e =
        let P : Move → Type 0 = λ mv. Works mv x.desk.served (served_after (machine setup) x.slave x.desk.served from k h) (bench_of n x.slave.inner) (bench_of (events_got setup w s x.slave from k h n) (transport.after_heard (machine setup) x.slave from h).inner) in
        subst P (sym (here k)) (got_works from k h x n a f)
      where
        here : (k : Role) → got_move w s at' from k ≡ GotMove from k
        here (Request receiver n) = ap (λ c. if c then Comes from receiver n else Other) e
        here (Answer sender n) = ap (λ c. if c then Rests else (if (same at' w.master && same from (w.slave s)) && (sender == s) then Hears n else Other)) e
        here (Value id n) = ap (λ c. if c then Brings from id n else Other) e
        here Else = ap (λ c. if c then Rests else Other) e
    here_works at' from bytes (Request receiver k) h x n a f false e = let P : Move → Type 0 = λ mv. Works mv x.desk.served x.desk.served (bench_of n x.slave.inner) (bench_of n x.slave.inner) in subst P (sym (ap (λ c. if c then Comes from receiver k else Other) e)) refl
    here_works at' from bytes (Answer sender k) h x n a f false e = let P : Move → Type 0 = λ mv. Works mv x.desk.served x.desk.served (bench_of n x.slave.inner) (bench_of n x.slave.inner) in subst P (sym (ap (λ c. if c then Rests else (if (same at' w.master && same from (w.slave s)) && (sender == s) then Hears k else Other)) e)) (by ((same at' w.master && same from (w.slave s)) && (sender == s)))
      where
        by : (c : Bool) → Works (if c then Hears k else Other) x.desk.served x.desk.served (bench_of n x.slave.inner) (bench_of n x.slave.inner)
        by true = refl
        by false = refl
    here_works at' from bytes (Value id k) h x n a f false e = let P : Move → Type 0 = λ mv. Works mv x.desk.served x.desk.served (bench_of n x.slave.inner) (bench_of n x.slave.inner) in subst P (sym (ap (λ c. if c then Brings from id k else Other) e)) refl
    here_works at' from bytes Else h x n a f false e = let P : Move → Type 0 = λ mv. Works mv x.desk.served x.desk.served (bench_of n x.slave.inner) (bench_of n x.slave.inner) in subst P (sym (ap (λ c. if c then Rests else Other) e)) refl

    tick_works : (n : ℕ) (session : Session) (quiet : ℕ) (served : List transport.Exchange) (inner : Plant) → IsSoundPlant inner → let x : SlaveState Plant = record { session = session; served = served; quiet = quiet; inner = inner } in HasTurn (bench_of n inner) (bench_of (events_tick setup w s session x n) (transport.after_turn (machine setup) x).inner)
    tick_works n Before quiet served inner ok = inl (idle n inner)
    tick_works n (During master id) quiet served inner ok = turn_goes setup (transport.quieter quiet) inner n ok
    tick_works n (After master id) quiet served inner ok = inl (idle n inner)

    sent_works : (mv : Move) (x : Both Plant) (n : ℕ) → ((n' : Address) (r : ℕ) (k : Note) → mv ≡ Comes n' r k → ⊥) → (mv ≡ Turns → ⊥) → Works mv x.desk.served (sent_next (machine setup) w s mv x).desk.served (bench_of n x.slave.inner) (bench_of n (sent_next (machine setup) w s mv x).slave.inner)
    sent_works (Asks k) x n f g = refl
    sent_works (Comes from receiver k) x n f g = absurd (f from receiver k refl)
    sent_works (Tells to bytes) x n f g = refl
    sent_works (Hears k) x n f g = refl
    sent_works (Brings from id k) x n f g = idle n x.slave.inner
    sent_works Turns x n f g = absurd (g refl)
    sent_works Rests x n f g = idle n x.slave.inner
    sent_works Other x n f g = refl

    sent_comes : (from to : Address) (bytes : List ℕ) (k : Role) (a : Address) (r : ℕ) (n : Note) → sent_move w s from to bytes k ≡ Comes a r n → ⊥
    sent_comes from to bytes k a r n h = grind (arith, nat_tests)

    sent_turns : (from to : Address) (bytes : List ℕ) (k : Role) → sent_move w s from to bytes k ≡ Turns → ⊥
    sent_turns from to bytes k h = grind (arith, nat_tests)

    choose_served : (c : Bool) (y x : Both Plant) → (if c then y else x).desk.served ≡ (if c then y.desk.served else x.desk.served)
    choose_served true y x = refl
    choose_served false y x = refl

    choose_inner : (c : Bool) (y x : Both Plant) → (if c then y else x).slave.inner ≡ (if c then y.slave else x.slave).inner
    choose_inner true y x = refl
    choose_inner false y x = refl

    next_works : (e : LogEntry) (x : Both Plant) (n : ℕ) → IsSoundPlant x.slave.inner → FaultFits x.slave.session x.slave.inner → Works (move w s e) x.desk.served (next (machine setup) w s e x).desk.served (bench_of n x.slave.inner) (bench_of (events_next setup w s e x.slave n) (next (machine setup) w s e x).slave.inner)
    next_works (Sent from to bytes) x n ok f = sent_works (move w s (Sent from to bytes)) x n (sent_comes from to bytes (role_heard w bytes)) (sent_turns from to bytes (role_heard w bytes))
    next_works (Got at' from bytes) x n ok f =
        let c = same at' (w.slave s) in
        let y = got (machine setup) w s from bytes x in
        let P : List DecidedRequest → Plant → Type 0 = λ es p. Works (got_move w s at' from (role_heard w bytes)) x.desk.served es (bench_of n x.slave.inner) (bench_of (if c then events_got setup w s x.slave from (role_heard w bytes) (spec.heard bytes) n else n) p) in
        subst (λ es. P es (if c then y else x).slave.inner) (sym (choose_served c y x)) (subst (λ p. P (if c then y.desk.served else x.desk.served) p) (sym (choose_inner c y x)) (here_works at' from bytes (role_heard w bytes) (spec.heard bytes) x n (read.agree bytes) f c refl))
    next_works (Idle at') x n ok f = by (same at' (w.slave s))
      where
        by : (c : Bool) → Works (if c then Rests else Other) x.desk.served x.desk.served (bench_of n x.slave.inner) (bench_of n x.slave.inner)
        by true = idle n x.slave.inner
        by false = refl
    next_works (Turn at') x n ok f = by (same at' (w.slave s))
      where
        by : (c : Bool) → Works (if c then Turns else Other) x.desk.served (if c then ticked (machine setup) w s x else x).desk.served (bench_of n x.slave.inner) (bench_of (if c then events_tick setup w s x.slave.session x.slave n else n) (if c then ticked (machine setup) w s x else x).slave.inner)
        by true = tick_works n x.slave.session x.slave.quiet x.slave.served x.slave.inner ok
        by false = refl

sound : (setup : SlaveSetup) (w : Parties) (s : ℕ) (log : List LogEntry) → IsSoundPlant (at (machine setup) w s log).slave.inner
sound setup w s log = let P : SlaveState Plant → Type 0 = λ x. IsSoundPlant x.inner in subst P (sym (slave_is (machine setup) w s log)) (sound_after setup (events_of_slave w s log))

pub performs : (setup : SlaveSetup) (w : Parties) (s : ℕ) → ReadsAnswersBack (machine setup) w s → Performs w s (desk_at (machine setup) w s) (bench_at setup w s)
performs setup w s read = record {
  begins = refl;
  goes = λ e log may. next_works setup w s read e (at (machine setup) w s log) (events_done setup w s log) (sound setup w s log) (fits setup w s read log);
}
