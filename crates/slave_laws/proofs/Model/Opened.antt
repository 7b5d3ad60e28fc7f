-- Once a slave told that it is initialized, its outputs lie in their types until it is reset.
use Rattle.std.proofs.Common.{◌≡◌, ℕ, ◌+◌, ◌==◌, Bool, true, false, if◌then◌else◌, ◌⊎◌, inl, inr, List, ◌∷◌, Option, Some, None, Ok, Err, refl, sym, ap, ◌∙◌, subst, arith, ℤ}
use Rattle.std.proofs.lemmas.Bool.{and_parts}
use Rattle.dcp_types.specs.declared.addresses.Address.{Address}
use Rattle.dcp_types.specs.declared.data_types.DataType.{DataType}
use Rattle.dcp_types.specs.declared.error_codes.ErrorCode.{ErrorCode}
use Rattle.dcp_types.specs.declared.fault_codes.FaultCode.TheVariants.{OutOfRange}
use Rattle.dcp_types.specs.declared.states.State.{State}
use Rattle.dcp_types.specs.declared.states.State.TheVariants.{Configuration, Configured, Initialized, SendingI, Synchronizing, Running, Computing, Computed, SendingD, Stopping, Stopped}
use Rattle.dcp_types.specs.Codes.{state_code}
use Rattle.pdu_layout.specs.declared.messages.Stc.{Stc}
use Rattle.pdu_layout.specs.declared.messages.Stc.TheVariants as stc
use Rattle.pdu_layout.specs.declared.messages.Inf.TheVariants as inf
use Rattle.fixed_models.specs.Steps.{outputs, all_fit}
use Rattle.scenario.specs.Settings.{parameters}
use Rattle.lockstep.specs.Lockstep.{shown_of}
use Rattle.log_spec.specs.Messages.{Note}
use Rattle.log_spec.specs.Log.{DecidedRequest}
use Rattle.slave_states.specs.Transitions.{transition_row, next_on, next_on_turn}
use Rattle.slave_spec.specs.Payloads.{brought}
use Rattle.slave_spec.specs.declared.words.SlaveSetup.{SlaveSetup}
use Rattle.slave_spec.specs.declared.words.SlaveRequest as req
use Rattle.slave_spec.specs.declared.words.Asked.{Asked}
use Rattle.slave_spec.specs.declared.words.Asked.TheVariants.{Change, Setting, Question}
use Rattle.slave_spec.specs.declared.words.Session.{Session}
use Rattle.slave_spec.specs.declared.words.Session.TheVariants.{Before, During, After}
use Rattle.slave_spec.specs.Heard as spec
use Rattle.slave_spec.specs.Transport as transport
use Rattle.slave_spec.specs.Plants.{Plant, start_plant, output_types}
use Rattle.slave_spec.specs.Begun.{is_model_begun, IsRegular, IsRegularIn}
use Rattle.slave_spec.specs.Requests.{is_in_error, refusal, changed_to, accepted, answer, answered_plant, answers}
use Rattle.slave_spec.specs.Turns.{Act, Stay, Wait, Fault, Step, Pass, act, turned, sent_after, is_listening, brings, values}
use Rattle.slave_spec.specs.Slaves.{machine}
use Rattle.slave_spec.proofs.Regular.{regular_after}
use Rattle.slave_laws.specs.Talk.Desks.{answer_note, at, events_of_slave}
use Rattle.slave_laws.specs.Talk.Benches.{bench_at}
use Rattle.slave_laws.proofs.Talk.Meets.{slave_is}
use Rattle.slave_laws.proofs.Talk.Plants.{no_refusal, row_of_next, state_is}
use Rattle.slave_laws.proofs.Talk.Sending.{sends_back}
use Rattle.slave_laws.specs.Model.Models.{plant_at}
use Rattle.slave_laws.proofs.Model.Fresh.{begins_fresh}
use Rattle.slave_laws.proofs.Model.Inputs.{set_where}
use Rattle.slave_laws.proofs.Model.Along.{exchanged, Lasts, along}
use Rattle.plan_laws.specs.Course.Taken.{asked_heard, is_acknowledged, tells_initialized, told_after, told_since}
use Rattle.plan_laws.specs.Course.Courses.{tuned}
use Rattle.slave_laws.specs.Model.Tuned.{OpenedOutputsFit, served_at}
use Rattle.slave_laws.proofs.Model.Parameters.{acknowledges, acknowledged, have_parameters}

-- ---- what an answer tells
initialized_by : transport.SlaveAnswer → Bool
initialized_by (transport.StateAck state) = state_code state == 7
initialized_by transport.Ack = false
initialized_by (transport.Nack code) = false
initialized_by (transport.ErrorAck code) = false
initialized_by (transport.LogAck entries) = false

told_by : (r : req.SlaveRequest) (next : ℕ) (a : transport.SlaveAnswer) → tells_initialized (answer_note r next a) ≡ initialized_by a
unfolding initialized_by
told_by r next transport.Ack = refl
told_by r next (transport.Nack code) = refl
told_by r next (transport.StateAck state) = refl
told_by r next (transport.ErrorAck code) = refl
told_by r next (transport.LogAck entries) = refl

refused_same : (asked : Asked) (before : Bool) → told_after (Some asked) false false before ≡ before
refused_same (Change named (stc.Register a b c d)) before = refl
refused_same (Change named stc.Deregister) before = refl
refused_same (Change named stc.Prepare) before = refl
refused_same (Change named stc.Configure) before = refl
refused_same (Change named stc.Initialize) before = refl
refused_same (Change named (stc.Run x)) before = refl
refused_same (Change named (stc.DoStep n)) before = refl
refused_same (Change named stc.SendOutputs) before = refl
refused_same (Change named stc.Stop) before = refl
refused_same (Change named stc.Reset) before = refl
refused_same (Setting body) before = refl
refused_same (Question q) before = refl

-- ---- a machine whose outputs are ready
abbrev Fit : Plant → Type 0
Fit p = all_fit p.model.types (values p.model) ≡ true

abbrev IsReady : Plant → Type 0
IsReady p = (is_model_begun p.state p.outputs_sent ≡ true) ⊎ ((is_in_error p.state ≡ true) × Fit p)

ready_fit : (p : Plant) → IsRegular p → IsReady p → Fit p
ready_fit p r (inl b) = r.fit b
ready_fit p r (inr e) = e.1

abbrev ToldIn : Session → Plant → Bool → Type 0
ToldIn Before p told = told ≡ false
ToldIn (During master id) p told = told ≡ true → IsReady p
ToldIn (After master id) p told = told ≡ true → Fit p

-- the same machine, but for its log
same_ready : (p q : Plant) → q.state ≡ p.state → q.outputs_sent ≡ p.outputs_sent → q.model ≡ p.model → IsReady p → IsReady q
same_ready p q e f g (inl b) = inl (ap (λ t. is_model_begun t q.outputs_sent) e ∙ ap (is_model_begun p.state) f ∙ b)
same_ready p q e f g (inr b) = inr (ap is_in_error e ∙ b.0, ap (λ m. all_fit m.types (values m)) g ∙ b.1)

never : {A : Type 0} → false ≡ true → A
never e = absurd cc

configuration_unready : (p : Plant) → p.state ≡ Configuration → IsReady p → ⊥
configuration_unready p e (inl b) = never (sym (ap (λ t. is_model_begun t p.outputs_sent) e) ∙ b)
configuration_unready p e (inr b) = never (sym (ap is_in_error e) ∙ b.0)

-- an accepted change of state leads from a ready machine to a ready one
abbrev Opens : State → Bool → State → Type 0
Opens state sent t = (is_model_begun state sent ≡ true → is_model_begun t sent ≡ true) × (is_in_error state ≡ true → ⊥)

opens_register : (a b c d : ℕ) (state t : State) (sent : Bool) → transition_row (stc.Register a b c d) state sent ≡ Some t → Opens state sent t
opens_register a b c d state t sent h = (λ b. grind arith, λ b. grind arith)

opens_prepare : (state t : State) (sent : Bool) → transition_row stc.Prepare state sent ≡ Some t → Opens state sent t
opens_prepare state t sent h = (λ b. grind arith, λ b. grind arith)

opens_configure : (state t : State) (sent : Bool) → transition_row stc.Configure state sent ≡ Some t → Opens state sent t
opens_configure state t sent h = (λ b. grind arith, λ b. grind arith)

opens_initialize : (state t : State) (sent : Bool) → transition_row stc.Initialize state sent ≡ Some t → Opens state sent t
opens_initialize state t sent h = (λ b. grind arith, λ b. grind arith)

opens_run : (x : ℤ) (state t : State) (sent : Bool) → transition_row (stc.Run x) state sent ≡ Some t → Opens state sent t
opens_run x state t sent h = (λ b. grind arith, λ b. grind arith)

opens_step : (n : ℕ) (state t : State) (sent : Bool) → transition_row (stc.DoStep n) state sent ≡ Some t → Opens state sent t
opens_step n state t sent h = (λ b. grind arith, λ b. grind arith)

opens_outputs : (state t : State) (sent : Bool) → transition_row stc.SendOutputs state sent ≡ Some t → Opens state sent t
opens_outputs state t sent h = (λ b. grind arith, λ b. grind arith)

opens_stop : (state t : State) (sent : Bool) → transition_row stc.Stop state sent ≡ Some t → Opens state sent t
opens_stop state t sent h = (λ b. grind arith, λ b. grind arith)

ready_on : (p q : Plant) (t : State) → Opens p.state p.outputs_sent t → q.state ≡ t → q.outputs_sent ≡ p.outputs_sent → IsReady p → IsReady q
ready_on p q t o e f (inl b) = inl (ap (λ z. is_model_begun z q.outputs_sent) e ∙ ap (is_model_begun t) f ∙ o.0 b)
ready_on p q t o e f (inr b) = absurd (o.1 b.0)

turn_begun : (state : State) (sent : Bool) → is_model_begun state sent ≡ true → is_model_begun (next_on_turn state 0) (sent_after state sent) ≡ true
unfolding next_on_turn
turn_begun SendingI sent h = refl
turn_begun Initialized sent h = refl
turn_begun Configured sent h = h
turn_begun Synchronizing sent h = refl
turn_begun Running sent h = refl
turn_begun Computing sent h = refl
turn_begun Computed sent h = refl
turn_begun SendingD sent h = refl
turn_begun Stopping sent h = refl
turn_begun Stopped sent h = refl
turn_begun _ sent h = never h

turn_error : (state : State) → is_in_error state ≡ true → is_in_error (next_on_turn state 0) ≡ true
unfolding next_on_turn
turn_error state h = grind arith

-- ---- through a session
module _ (s : SlaveSetup) where
  -- what is told after an exchange, by the request and the answer
  after : Asked → transport.SlaveAnswer → Bool → Bool
  after asked a before = told_after (Some asked) (acknowledges a) (initialized_by a) before

  told_is : (p : Plant) (es : List DecidedRequest) (r : req.SlaveRequest) (n : Note) (next' : ℕ) → spec.heard_as (Some n.message) ≡ spec.Asks r → told_since (exchanged s p r n next' ∷ es) ≡ after r.asked (answers s r.asked p).answer (told_since es)
  unfolding after
  told_is p es r n next' h =
      let a = (answers s r.asked p).answer in
      ap (λ o. told_after o (is_acknowledged (answer_note r next' a)) (tells_initialized (answer_note r next' a)) (told_since es)) (ap asked_heard h)
      ∙ ap (λ b. told_after (Some r.asked) b (tells_initialized (answer_note r next' a)) (told_since es)) (acknowledged r next' a)
      ∙ ap (λ b. told_after (Some r.asked) (acknowledges a) b (told_since es)) (told_by r next' a)

  -- a change of state that is accepted, but for the end of the session
  moved_ready : (p : Plant) (named : State) (request : Stc) (t : State) → transition_row request p.state p.outputs_sent ≡ Some t → transport.is_last (Change named request) transport.Ack ≡ false → (told : Bool) → (told ≡ true → IsReady p) → told_after (Some (Change named request)) true false told ≡ true → (q : Plant) → q.state ≡ (changed_to s p request t).state → q.outputs_sent ≡ (changed_to s p request t).outputs_sent → IsReady q
  moved_ready p named stc.Reset t r l told f k q e g = never k
  moved_ready p named stc.Deregister t r l told f k q e g = never (sym l)
  moved_ready p named (stc.Register a b c d) t r l told f k q e g = ready_on p q t (opens_register a b c d p.state t p.outputs_sent r) e g (f k)
  moved_ready p named stc.Prepare t r l told f k q e g = ready_on p q t (opens_prepare p.state t p.outputs_sent r) e g (f k)
  moved_ready p named stc.Configure t r l told f k q e g = ready_on p q t (opens_configure p.state t p.outputs_sent r) e g (f k)
  moved_ready p named stc.Initialize t r l told f k q e g = ready_on p q t (opens_initialize p.state t p.outputs_sent r) e g (f k)
  moved_ready p named (stc.Run x) t r l told f k q e g = ready_on p q t (opens_run x p.state t p.outputs_sent r) e g (f k)
  moved_ready p named (stc.DoStep n) t r l told f k q e g = ready_on p q t (opens_step n p.state t p.outputs_sent r) e g (f k)
  moved_ready p named stc.SendOutputs t r l told f k q e g = ready_on p q t (opens_outputs p.state t p.outputs_sent r) e g (f k)
  moved_ready p named stc.Stop t r l told f k q e g = ready_on p q t (opens_stop p.state t p.outputs_sent r) e g (f k)

  named_initialized : (state : State) → (state_code state == 7) ≡ true → state ≡ Initialized
  named_initialized state h = grind arith

  state_ready : (p q : Plant) (told : Bool) → (told ≡ true → IsReady p) → q.state ≡ p.state → q.outputs_sent ≡ p.outputs_sent → q.model ≡ p.model → (if state_code p.state == 7 then true else told) ≡ true → IsReady q
  state_ready p q told f a b c k = by (state_code p.state == 7) refl k
    where
      by : (d : Bool) → (state_code p.state == 7) ≡ d → (if d then true else told) ≡ true → IsReady q
      by true e h = inl (ap (λ t. is_model_begun t q.outputs_sent) (a ∙ named_initialized p.state e))
      by false e h = same_ready p q a b c (f h)

  accepted_ready : (p : Plant) (asked : Asked) → refusal s p asked ≡ None → transport.is_last asked (answer p asked) ≡ false → (told : Bool) → (told ≡ true → IsReady p) → after asked (answer p asked) told ≡ true → (q : Plant) → q.state ≡ (accepted s p asked).state → q.outputs_sent ≡ (accepted s p asked).outputs_sent → q.model ≡ (accepted s p asked).model → IsReady q
  unfolding after accepted refusal answer initialized_by
  accepted_ready p (Change named request) r l told f k q a b c =
      let o = no_refusal p request (next_on p.state request named p.outputs_sent) r in
      let g = row_of_next p.state o.0 request named p.outputs_sent o.1 in
      let e = state_is p.state o.0 (next_on p.state request named p.outputs_sent) o.1 in
      moved_ready p named request o.0 g l told f k q (a ∙ ap (λ t. (changed_to s p request t).state) e) (b ∙ ap (λ t. (changed_to s p request t).outputs_sent) e)
  accepted_ready p (Setting body) r l told f k q a b c = absurd (configuration_unready p (set_where s p body r) (f k))
  accepted_ready p (Question inf.State) r l told f k q a b c = state_ready p q told f a b c k
  accepted_ready p (Question inf.Error) r l told f k q a b c = same_ready p q a b c (f k)
  accepted_ready p (Question (inf.Log category most)) r l told f k q a b c = same_ready p q a b c (f k)

  answered_ready : (p : Plant) (asked : Asked) (o : Option ErrorCode) → refusal s p asked ≡ o → transport.is_last asked (answered_plant s p asked o).answer ≡ false → (told : Bool) → (told ≡ true → IsReady p) → after asked (answered_plant s p asked o).answer told ≡ true → IsReady (answered_plant s p asked o).after
  unfolding after initialized_by
  answered_ready p asked (Some code) r l told f k = same_ready p (answered_plant s p asked (Some code)).after refl refl refl (f (sym (refused_same asked told) ∙ k))
  answered_ready p asked None r l told f k = accepted_ready p asked r l told f k (answered_plant s p asked None).after refl refl refl

  -- the end of the session leaves the model as it is
  last_fit : (p : Plant) (asked : Asked) (o : Option ErrorCode) → transport.is_last asked (answered_plant s p asked o).answer ≡ true → IsRegular p → (told : Bool) → (told ≡ true → IsReady p) → after asked (answered_plant s p asked o).answer told ≡ true → Fit (answered_plant s p asked o).after
  unfolding after initialized_by accepted answer
  last_fit p (Change named stc.Deregister) (Some code) l r told f k = ready_fit p r (f k)
  last_fit p (Change named stc.Deregister) None l r told f k = ready_fit p r (f k)
  last_fit p (Change named (stc.Register a b c d)) o l r told f k = never l
  last_fit p (Change named stc.Prepare) o l r told f k = never l
  last_fit p (Change named stc.Configure) o l r told f k = never l
  last_fit p (Change named stc.Initialize) o l r told f k = never l
  last_fit p (Change named (stc.Run x)) o l r told f k = never l
  last_fit p (Change named (stc.DoStep n)) o l r told f k = never l
  last_fit p (Change named stc.SendOutputs) o l r told f k = never l
  last_fit p (Change named stc.Stop) o l r told f k = never l
  last_fit p (Change named stc.Reset) o l r told f k = never l
  last_fit p (Setting body) o l r told f k = never l
  last_fit p (Question q) o l r told f k = never l

  taken_told : (master from : Address) (id : ℕ) (r : req.SlaveRequest) (n : Note) (next' : ℕ) (p : Plant) (es : List DecidedRequest) → spec.heard_as (Some n.message) ≡ spec.Asks r → IsRegular p → (told_since es ≡ true → IsReady p)
      → ToldIn (transport.session_after (During master id) from r (answers s r.asked p).answer) (answers s r.asked p).after (told_since (exchanged s p r n next' ∷ es))
  taken_told master from id r n next' p es h reg f = by (transport.is_last r.asked (answers s r.asked p).answer) refl
    where
      is : told_since (exchanged s p r n next' ∷ es) ≡ after r.asked (answers s r.asked p).answer (told_since es)
      is = told_is p es r n next' h

      by : (b : Bool) → transport.is_last r.asked (answers s r.asked p).answer ≡ b → ToldIn (if b then After master id else During master id) (answers s r.asked p).after (told_since (exchanged s p r n next' ∷ es))
      by true e = λ k. last_fit p r.asked (refusal s p r.asked) e reg (told_since es) f (sym is ∙ k)
      by false e = λ k. answered_ready p r.asked (refusal s p r.asked) refl e (told_since es) f (sym is ∙ k)

  -- a register tells nothing
  register_told : (asked : Asked) (a : transport.SlaveAnswer) → transport.is_register asked ≡ true → initialized_by a ≡ false → after asked a false ≡ false
  unfolding after
  register_told (Change named (stc.Register x b c d)) a e i = ap (λ t. if t then true else false) i
  register_told (Change named stc.Deregister) a e i = never e
  register_told (Change named stc.Prepare) a e i = never e
  register_told (Change named stc.Configure) a e i = never e
  register_told (Change named stc.Initialize) a e i = never e
  register_told (Change named (stc.Run x)) a e i = never e
  register_told (Change named (stc.DoStep n)) a e i = never e
  register_told (Change named stc.SendOutputs) a e i = never e
  register_told (Change named stc.Stop) a e i = never e
  register_told (Change named stc.Reset) a e i = never e
  register_told (Setting body) a e i = never e
  register_told (Question q) a e i = never e

  register_answer : (p : Plant) (asked : Asked) (o : Option ErrorCode) → transport.is_register asked ≡ true → initialized_by (answered_plant s p asked o).answer ≡ false
  unfolding initialized_by answer
  register_answer p asked (Some code) e = refl
  register_answer p (Change named request) None e = refl
  register_answer p (Setting body) None e = refl
  register_answer p (Question q) None e = never e

  first_told : (from : Address) (r : req.SlaveRequest) (n : Note) (next' : ℕ) (es : List DecidedRequest) → spec.heard_as (Some n.message) ≡ spec.Asks r → transport.is_register r.asked ≡ true → told_since es ≡ false → told_since (exchanged s (start_plant s) r n next' ∷ es) ≡ true → IsReady (answers s r.asked (start_plant s)).after
  first_told from r n next' es h reg f k =
      let none = told_is (start_plant s) es r n next' h ∙ ap (after r.asked (answers s r.asked (start_plant s)).answer) f ∙ register_told r.asked (answers s r.asked (start_plant s)).answer reg (register_answer (start_plant s) r.asked (refusal s (start_plant s) r.asked) reg) in
      never (sym none ∙ k)

  turned_ready : (p : Plant) (a : Act) → IsRegular p → IsReady p → IsReady (turned s p a).after
  turned_ready p Stay r h = h
  turned_ready p (Wait left) r h = same_ready p (turned s p (Wait left)).after refl refl refl h
  turned_ready p (Fault code) r h = inr (refl, ready_fit p r h)
  turned_ready p (Step x) r h = inl refl
  turned_ready p Pass r (inl b) = inl (turn_begun p.state p.outputs_sent b)
  turned_ready p Pass r (inr e) = inr (turn_error p.state e.0, e.1)

  brings_ready : (from : Address) (number id : ℕ) (payload : List ℕ) (p : Plant) → IsReady p → IsReady (brings s from number id payload p)
  brings_ready from number id payload p h = by (is_listening p.state)
    where
      by : (b : Bool) → IsReady (if b then record p { wires = brought s.desc p.wires from number id payload p.steps } else p)
      by true = h
      by false = h

  told_lasts : Lasts s (λ es. Unit {0}) (λ session p es. ToldIn session p (told_since es))
  told_lasts = record {
    less = λ d es a. tt;
    start = refl;
    first = λ from r n next' es h ev reg a f. first_told from r n next' es h reg f;
    taken = λ master from id r n next' p es h ev reg a f. taken_told master from id r n next' p es h reg f;
    brings = λ master from id number i payload p es a f. λ k. brings_ready from number i payload p (f k);
    turns = λ master id quiet p es r r' ok a f. λ k. turned_ready p (act s quiet p) r (f k);
  }

  fit_in : (session : Session) (p : Plant) (told : Bool) → told ≡ true → IsRegularIn s session p → ToldIn session p told → Fit p
  fit_in Before p told e r f = never (sym f ∙ e)
  fit_in (During master id) p told e r f = ready_fit p r (f e)
  fit_in (After master id) p told e r f = f e

-- what the reference shows of such a model
shown_fit : (types : List DataType) (vs : List ℤ) → all_fit types vs ≡ true → (ws : List ℤ) × (shown_of types vs ≡ Ok ws)
shown_fit types vs h = (vs, ap (λ b. if b then Ok vs else Err OutOfRange) h)

pub outputs_fit : OpenedOutputsFit
outputs_fit sc n s w ok rd log h =
    let p = plant_at s w n log in
    let es = served_at s w n log in
    let a = and_parts (tuned sc n s.desc ((bench_at s w n log).resets + 1) es) (told_since es) h in
    let t = along s (λ es. Unit {0}) (λ session p es. ToldIn session p (told_since es)) (told_lasts s) w n (sends_back s w n rd).agree log tt in
    let Q : transport.SlaveState Plant → Type 0 = λ x. IsRegularIn s x.session x.inner in
    let reg = subst Q (sym (slave_is (machine s) w n log)) (regular_after s (events_of_slave w n log)) in
    let fit = fit_in s (at (machine s) w n log).slave.session p (told_since es) a.1 reg t in
    let fresh = begins_fresh s w n log in
    let ps = have_parameters sc n s w ok rd log a.0 in
    let there : all_fit (output_types s.desc) (outputs s.desc.kind (parameters sc n s.desc ((bench_at s w n log).resets + 1)) p.model.state) ≡ true
    = sym (ap (λ types. all_fit types (values p.model)) fresh.types ∙ ap (λ k. all_fit (output_types s.desc) (outputs k p.model.parameters p.model.state)) fresh.kind ∙ ap (λ qs. all_fit (output_types s.desc) (outputs s.desc.kind qs p.model.state)) ps) ∙ fit in
    shown_fit (output_types s.desc) (outputs s.desc.kind (parameters sc n s.desc ((bench_at s w n log).resets + 1)) p.model.state) there
