-- What the exchanges with a slave tell of its fault, whatever the network does.
use Rattle.std.proofs.Common.{◌≡◌, ℕ, Bool, true, false, if◌then◌else◌, ◌⊎◌, inl, inr, Option, Some, None, Ok, Err, List, [], ◌∷◌, ◌++◌, refl, sym, ap, ◌∙◌, subst, arith}
use Rattle.std.specs.Prelude.{◌==◌, ◌&&◌, not, is_some, nat_le}
use Rattle.std.proofs.lemmas.Bool.{eqb-true, and_parts}
use Rattle.dcp_types.specs.Codes.{state_code}
use Rattle.dcp_types.specs.declared.addresses.Address.{Address}
use Rattle.dcp_types.specs.declared.fault_codes.FaultCode.{FaultCode}
use Rattle.dcp_types.specs.declared.fault_codes.FaultCode.TheVariants.{HeartbeatMissed}
use Rattle.dcp_types.specs.declared.error_codes.ErrorCode.{ErrorCode}
use Rattle.dcp_types.specs.declared.error_codes.ErrorCode.TheVariants as error
use Rattle.dcp_types.specs.declared.states.State.{State}
use Rattle.dcp_types.specs.declared.states.State.TheVariants.{Alive, Configuration, Preparing, Prepared, Configuring, Configured, Initializing, Initialized, SendingI, Synchronizing, Synchronized, Running, Computing, Computed, SendingD, Stopping, Stopped, ErrorHandling, ErrorResolved}
use Rattle.dcp_ends.specs.declared.entries.LogEntry.{LogEntry}
use Rattle.pdu_layout.specs.declared.messages.Stc.{Stc}
use Rattle.pdu_layout.specs.declared.messages.Stc.TheVariants as stc
use Rattle.pdu_layout.specs.declared.messages.Cfg.{Cfg}
use Rattle.pdu_layout.specs.declared.messages.Cfg.TheVariants as cfg
use Rattle.pdu_layout.specs.declared.messages.Inf.TheVariants as inf
use Rattle.log_spec.specs.Messages.{Note}
use Rattle.log_spec.specs.Log.{Parties, DecidedRequest}
use Rattle.log_spec.specs.Moves.{move}
use Rattle.slave_states.specs.Transitions.{transition_row, next_on, next_on_turn, is_barred, or_wrong, is_same}
use Rattle.slave_spec.specs.Payloads.{brought}
use Rattle.slave_spec.specs.declared.words.SlaveSetup.{SlaveSetup}
use Rattle.slave_spec.specs.declared.words.SlaveRequest as req
use Rattle.slave_spec.specs.declared.words.Asked.{Asked}
use Rattle.slave_spec.specs.declared.words.Asked.TheVariants.{Change, Setting, Question}
use Rattle.slave_spec.specs.declared.words.Session.{Session}
use Rattle.slave_spec.specs.declared.words.Session.TheVariants.{Before, During, After}
use Rattle.slave_spec.specs.Heard as spec
use Rattle.slave_spec.specs.Transport as transport
use Rattle.slave_spec.specs.Transport.{SlaveState, is_open}
use Rattle.slave_spec.specs.Plants.{Plant, start_plant}
use Rattle.slave_spec.specs.Begun.{is_early, IsRegular, IsRegularIn}
use Rattle.slave_spec.specs.Requests.{is_in_error, refusal, changed_to, set_to, accepted, answer, answered_plant, answers}
use Rattle.slave_spec.specs.Turns as turns
use Rattle.slave_spec.specs.Turns.{Act, act, turned, is_missed, is_spared, sent_after, is_listening}
use Rattle.slave_spec.specs.Slaves.{machine}
use Rattle.slave_spec.proofs.Regular.{regular_after}
use Rattle.slave_laws.specs.Talk.Desks.{answer_note, Both, at, events_of_slave}
use Rattle.slave_laws.proofs.Talk.Meets.{slave_is}
use Rattle.slave_laws.proofs.Talk.Plants.{act_step, no_refusal, row_of_next, state_is}
use Rattle.slave_laws.specs.Talk.Sends.{ReadsMessages}
use Rattle.slave_laws.specs.Model.Models.{plant_at}
use Rattle.slave_laws.proofs.Model.Along.{exchanged}
use Rattle.slave_laws.proofs.Model.Parameters.{acknowledges, acknowledged}
use Rattle.plan_laws.specs.Course.Taken.{asked_heard, is_acknowledged}
use Rattle.slave_laws.specs.Model.Stages.{SlaveStage, entered_by, reached_by_turns, stage_entered, stage_told, stage_after, state_in_note, stage_by, IsInStage}
use Rattle.slave_laws.specs.Model.Answering.{StandsInStage}
use Rattle.slave_laws.proofs.Model.Standing.{slaves_stand}
use Rattle.slave_laws.proofs.Model.Tables.{same_states, states_are, error_rests, never_computes, leads}
use Rattle.completeness_laws.proofs.Causes.Goings.{Takes, Goes, stays, takes, brings, turns_on, goes}
use Rattle.completeness_laws.proofs.Causes.Quiet.{IsOfModel, ModelFaults, out_of_range, step_faults, act_faults, answered_fault, brought_fault}

clash : {A : Type 0} → true ≡ false → A
clash e = absurd cc

-- what is known of a fault, and of the outputs that were sent, by the stage
pub record KnowsFault (g : SlaveStage) (p : Plant) : Type 0 where
  -- a fault stands in an error state
  pub error : is_some p.fault ≡ true → is_in_error p.state ≡ true
  -- a fault of the model came on the way from INITIALIZING or COMPUTING, before the slave told that it was past it
  pub model : (code : FaultCode) → p.fault ≡ Some code → IsOfModel code → (g.rested ≡ false) × ((g.entered ≡ Initializing) ⊎ (g.entered ≡ Computing))
  pub stopped : g.entered ≡ Stopping → g.rested ≡ true → p.state ≡ Stopped
  pub unsent : g.entered ≡ Configuring → p.outputs_sent ≡ false
  pub sent : g.entered ≡ SendingI → p.state ≡ Configured → p.outputs_sent ≡ true

same_knows : (g : SlaveStage) (p q : Plant) → q.state ≡ p.state → q.fault ≡ p.fault → q.outputs_sent ≡ p.outputs_sent → KnowsFault g p → KnowsFault g q
same_knows g p q a b c k = record {
  error = λ f. ap is_in_error a ∙ k.error (sym (ap is_some b) ∙ f);
  model = λ code f m. k.model code (sym b ∙ f) m;
  stopped = λ e r. a ∙ k.stopped e r;
  unsent = λ e. c ∙ k.unsent e;
  sent = λ e h. c ∙ k.sent e (sym a ∙ h);
}

-- ---- tables
reach_stopped : reached_by_turns Stopping ≡ Stopped
unfolding next_on_turn
reach_stopped = refl

stopped_stays : reached_by_turns Stopped ≡ Stopped
unfolding next_on_turn
stopped_stays = refl

pub reach_initialized : reached_by_turns Initializing ≡ Initialized
unfolding next_on_turn
reach_initialized = refl

reach_computed : reached_by_turns Computing ≡ Computed
unfolding next_on_turn
reach_computed = refl

reach_configured : reached_by_turns Configuring ≡ Configured
unfolding next_on_turn
reach_configured = refl

reach_sent : reached_by_turns SendingI ≡ Configured
unfolding next_on_turn
reach_sent = refl

never_initializes : (a : State) → reached_by_turns a ≡ Initializing → ⊥
unfolding next_on_turn
never_initializes a e = grind arith

error_sent : (state : State) (b : Bool) → is_in_error state ≡ true → sent_after state b ≡ b
error_sent state b e = grind arith

-- ---- an accepted change
-- in an error state nothing is accepted but the end of the session
pub error_ends : (state : State) (request : Stc) (named : State) (sent : Bool) (t : State) → is_in_error state ≡ true → next_on state request named sent ≡ Ok t → request ≡ stc.Deregister
unfolding next_on
error_ends ErrorHandling request named sent t e h = absurd cc
error_ends ErrorResolved stc.Deregister named sent t e h = refl
error_ends ErrorResolved (stc.Register a b c d) named sent t e h = absurd cc
error_ends ErrorResolved stc.Prepare named sent t e h = absurd cc
error_ends ErrorResolved stc.Configure named sent t e h = absurd cc
error_ends ErrorResolved stc.Initialize named sent t e h = absurd cc
error_ends ErrorResolved (stc.Run x) named sent t e h = absurd cc
error_ends ErrorResolved (stc.DoStep n) named sent t e h = absurd cc
error_ends ErrorResolved stc.SendOutputs named sent t e h = absurd cc
error_ends ErrorResolved stc.Stop named sent t e h = absurd cc
error_ends ErrorResolved stc.Reset named sent t e h = absurd cc
error_ends Alive request named sent t e h = absurd cc
error_ends Configuration request named sent t e h = absurd cc
error_ends Preparing request named sent t e h = absurd cc
error_ends Prepared request named sent t e h = absurd cc
error_ends Configuring request named sent t e h = absurd cc
error_ends Configured request named sent t e h = absurd cc
error_ends Initializing request named sent t e h = absurd cc
error_ends Initialized request named sent t e h = absurd cc
error_ends SendingI request named sent t e h = absurd cc
error_ends Synchronizing request named sent t e h = absurd cc
error_ends Synchronized request named sent t e h = absurd cc
error_ends Running request named sent t e h = absurd cc
error_ends Computing request named sent t e h = absurd cc
error_ends Computed request named sent t e h = absurd cc
error_ends SendingD request named sent t e h = absurd cc
error_ends Stopping request named sent t e h = absurd cc
error_ends Stopped request named sent t e h = absurd cc

configuring_early : (request : Stc) (state : State) (sent : Bool) → transition_row request state sent ≡ Some Configuring → is_early state ≡ true
configuring_early (stc.Register a b c d) state sent h = grind arith
configuring_early stc.Deregister state sent h = grind arith
configuring_early stc.Prepare state sent h = grind arith
configuring_early stc.Configure state sent h = grind arith
configuring_early stc.Initialize state sent h = grind arith
configuring_early (stc.Run x) state sent h = grind arith
configuring_early (stc.DoStep n) state sent h = grind arith
configuring_early stc.SendOutputs state sent h = grind arith
configuring_early stc.Stop state sent h = grind arith
configuring_early stc.Reset state sent h = grind arith

module _ (s : SlaveSetup) where
  -- a reset has no initial outputs sent, and else they stay
  changed_rest : (p : Plant) (request : Stc) (t : State) → ((changed_to s p request t).state ≡ t) × (((changed_to s p request t).fault ≡ p.fault) × (((changed_to s p request t).outputs_sent ≡ p.outputs_sent) ⊎ ((changed_to s p request t).outputs_sent ≡ false)))
  changed_rest p (stc.Register a b c d) t = (refl, (refl, inl refl))
  changed_rest p stc.Deregister t = (refl, (refl, inl refl))
  changed_rest p stc.Prepare t = (refl, (refl, inl refl))
  changed_rest p stc.Configure t = (refl, (refl, inl refl))
  changed_rest p stc.Initialize t = (refl, (refl, inl refl))
  changed_rest p (stc.Run x) t = (refl, (refl, inl refl))
  changed_rest p (stc.DoStep n) t = (refl, (refl, inl refl))
  changed_rest p stc.SendOutputs t = (refl, (refl, inl refl))
  changed_rest p stc.Stop t = (refl, (refl, inl refl))
  changed_rest p stc.Reset t = (refl, (refl, inr refl))

  set_rest : (p : Plant) (body : Cfg) → ((set_to s p body).state ≡ p.state) × (((set_to s p body).fault ≡ p.fault) × ((set_to s p body).outputs_sent ≡ p.outputs_sent))
  set_rest p (cfg.Parameter vr kind value) = (refl, (refl, refl))
  set_rest p (cfg.Logging category level mode) = (refl, (refl, refl))
  set_rest p cfg.Clear = (refl, (refl, refl))
  set_rest p (cfg.TimeRes x y) = (refl, (refl, refl))
  set_rest p (cfg.Steps x y) = (refl, (refl, refl))
  set_rest p (cfg.Input x y z v) = (refl, (refl, refl))
  set_rest p (cfg.Output x y z) = (refl, (refl, refl))
  set_rest p (cfg.Target x) = (refl, (refl, refl))
  set_rest p (cfg.Source x) = (refl, (refl, refl))
  set_rest p (cfg.Tunable x y z v) = (refl, (refl, refl))
  set_rest p (cfg.ParamNet x y z v) = (refl, (refl, refl))
  set_rest p (cfg.Scope x y) = (refl, (refl, refl))

  no_fault : {A : Type 0} (p : Plant) (g : SlaveStage) (code : FaultCode) → KnowsFault g p → is_in_error p.state ≡ false → p.fault ≡ Some code → A
  no_fault p g code k e f = clash (sym (k.error (ap is_some f)) ∙ e)

  -- it has just entered a state
  entered_knows : (g : SlaveStage) (p q : Plant) (o : Option State) (t : State) → o ≡ Some t → KnowsFault g p → is_in_error p.state ≡ false → q.state ≡ t → q.fault ≡ p.fault → (t ≡ Configuring → q.outputs_sent ≡ false) → KnowsFault (stage_entered o g) q
  entered_knows g p q o t e k fine a b c =
      let P : Option State → Type 0 = λ x. KnowsFault (stage_entered x g) q in
      subst P (sym e) (record {
        error = λ f. clash (sym (k.error (sym (ap is_some b) ∙ f)) ∙ fine);
        model = λ code f m. no_fault p g code k fine (sym b ∙ f);
        stopped = λ h r. absurd cc;
        unsent = c;
        sent = λ h i. apart (sym h ∙ sym a ∙ i);
      })
    where
      apart : SendingI ≡ Configured → q.outputs_sent ≡ true
      apart e = absurd cc

  -- it tells where it is
  tells_knows : (g : SlaveStage) (p q : Plant) → q.state ≡ p.state → q.fault ≡ p.fault → q.outputs_sent ≡ p.outputs_sent → KnowsFault g p → KnowsFault (stage_told (Some (state_code p.state)) g) q
  tells_knows g p q a b c k = by (state_code p.state == state_code (reached_by_turns g.entered)) refl
    where
      by : (t : Bool) → (state_code p.state == state_code (reached_by_turns g.entered)) ≡ t → KnowsFault (if t then record { entered = g.entered; rested = true } else g) q
      by false z = same_knows g p q a b c k
      by true z = record { error = same.error; model = λ code f m. none code f m; stopped = λ e r. a ∙ here ∙ ap reached_by_turns e ∙ reach_stopped; unsent = same.unsent; sent = same.sent }
        where
          same : KnowsFault g q
          same = same_knows g p q a b c k

          here : p.state ≡ reached_by_turns g.entered
          here = same_states p.state (reached_by_turns g.entered) (eqb-true (state_code p.state) (state_code (reached_by_turns g.entered)) z)

          off : (t u : State) → g.entered ≡ t → reached_by_turns t ≡ u → is_in_error u ≡ false → is_in_error p.state ≡ true → ⊥
          off t u e r f h = clash (sym h ∙ ap is_in_error (here ∙ ap reached_by_turns e ∙ r) ∙ f)

          two : (g.entered ≡ Initializing) ⊎ (g.entered ≡ Computing) → is_in_error p.state ≡ true → ⊥
          two (inl e) h = off Initializing Initialized e reach_initialized refl h
          two (inr e) h = off Computing Computed e reach_computed refl h

          none : (code : FaultCode) → q.fault ≡ Some code → IsOfModel code → (true ≡ false) × ((g.entered ≡ Initializing) ⊎ (g.entered ≡ Computing))
          none code f m = absurd (two (k.model code (sym b ∙ f) m).1 (k.error (ap is_some (sym b ∙ f))))

  abbrev pub told_by : transport.SlaveAnswer → Option ℕ
  told_by (transport.StateAck state) = Some (state_code state)
  told_by transport.Ack = None
  told_by (transport.Nack code) = None
  told_by (transport.ErrorAck code) = None
  told_by (transport.LogAck entries) = None

  told_note : (r : req.SlaveRequest) (next : ℕ) (a : transport.SlaveAnswer) → state_in_note (answer_note r next a) ≡ told_by a
  told_note r next transport.Ack = refl
  told_note r next (transport.Nack code) = refl
  told_note r next (transport.StateAck state) = refl
  told_note r next (transport.ErrorAck code) = refl
  told_note r next (transport.LogAck entries) = refl

  abbrev pub after : Asked → transport.SlaveAnswer → SlaveStage → SlaveStage
  after asked a g = stage_after (Some asked) (acknowledges a) (told_by a) g

  pub stage_is : (p : Plant) (es : List DecidedRequest) (r : req.SlaveRequest) (n : Note) (next' : ℕ) → spec.heard_as (Some n.message) ≡ spec.Asks r → stage_by (exchanged s p r n next' ∷ es) ≡ after r.asked (answers s r.asked p).answer (stage_by es)
  stage_is p es r n next' h =
      let a = (answers s r.asked p).answer in
      ap (λ o. stage_after o (is_acknowledged (answer_note r next' a)) (state_in_note (answer_note r next' a)) (stage_by es)) (ap asked_heard h)
      ∙ ap (λ b. stage_after (Some r.asked) b (state_in_note (answer_note r next' a)) (stage_by es)) (acknowledged r next' a)
      ∙ ap (λ o. stage_after (Some r.asked) (acknowledges a) o (stage_by es)) (told_note r next' a)

  pub refused_stage : (asked : Asked) (code : ErrorCode) (g : SlaveStage) → after asked (transport.Nack code) g ≡ g
  refused_stage (Change named request) code g = refl
  refused_stage (Setting body) code g = refl
  refused_stage (Question inf.State) code g = refl
  refused_stage (Question inf.Error) code g = refl
  refused_stage (Question (inf.Log category most)) code g = refl

  pub named_is : (state next : State) (request : Stc) (named : State) (sent : Bool) → next_on state request named sent ≡ Ok next → is_same named state ≡ true
  unfolding next_on
  named_is state next request named sent h = by (is_barred state request) (is_same named state) (transition_row request state sent) h
    where
      by : (b c : Bool) (o : Option State) → (if b then Err error.InErrorState else (if c then or_wrong o else Err error.WrongState)) ≡ Ok next → c ≡ true
      by true c o e = absurd cc
      by false true o e = refl
      by false false o e = absurd cc

  pub ends_here : (named : State) (request : Stc) (a : transport.SlaveAnswer) → request ≡ stc.Deregister → a ≡ transport.Ack → transport.is_last (Change named request) a ≡ true
  ends_here named request a e f = ap (λ z. transport.is_last (Change named z) a) e ∙ ap (transport.is_last (Change named stc.Deregister)) f

  accepted_knows : (p : Plant) (asked : Asked) (g : SlaveStage) → refusal s p asked ≡ None → KnowsFault g p → (is_early p.state ≡ true → p.outputs_sent ≡ false) → transport.is_last asked (answer p asked) ≡ false
      → (q : Plant) → q.state ≡ (accepted s p asked).state → q.fault ≡ (accepted s p asked).fault → q.outputs_sent ≡ (accepted s p asked).outputs_sent → KnowsFault (after asked (answer p asked) g) q
  unfolding accepted refusal answer
  accepted_knows p (Change named request) g r k early lasts q a b c =
      let o = no_refusal p request (next_on p.state request named p.outputs_sent) r in
      let row = row_of_next p.state o.0 request named p.outputs_sent o.1 in
      let e = state_is p.state o.0 (next_on p.state request named p.outputs_sent) o.1 in
      let l = leads request p.state o.0 p.outputs_sent row in
      let same : named ≡ p.state = states_are named p.state (named_is p.state o.0 request named p.outputs_sent o.1) in
      let rest = changed_rest p request o.0 in
      let new = ap (changed_to s p request) e in
      entered_knows g p q (entered_by request named) o.0 (ap (entered_by request) same ∙ l.0) k (fine o.0 o.1 (is_in_error p.state) refl) (a ∙ ap (λ z. z.state) new ∙ rest.0) (b ∙ ap (λ z. z.fault) new ∙ (rest.1).0)
      (λ h. c ∙ ap (λ z. z.outputs_sent) new ∙ unsent o.0 row h (rest.1).1)
    where
      fine : (t : State) → next_on p.state request named p.outputs_sent ≡ Ok t → (x : Bool) → is_in_error p.state ≡ x → x ≡ false
      fine t h false e = refl
      fine t h true e = clash (sym (ends_here named request transport.Ack (error_ends p.state request named p.outputs_sent t e h) refl) ∙ lasts)

      unsent : (t : State) → transition_row request p.state p.outputs_sent ≡ Some t → t ≡ Configuring → ((changed_to s p request t).outputs_sent ≡ p.outputs_sent) ⊎ ((changed_to s p request t).outputs_sent ≡ false) → (changed_to s p request t).outputs_sent ≡ false
      unsent t row h (inr z) = z
      unsent t row h (inl z) = z ∙ early (configuring_early request p.state p.outputs_sent (row ∙ ap (λ (x : State). Some x) h))
  accepted_knows p (Setting body) g r k early lasts q a b c = let e = set_rest p body in same_knows g p q (a ∙ e.0) (b ∙ (e.1).0) (c ∙ (e.1).1) k
  accepted_knows p (Question inf.State) g r k early lasts q a b c = tells_knows g p q a b c k
  accepted_knows p (Question inf.Error) g r k early lasts q a b c = same_knows g p q a b c k
  accepted_knows p (Question (inf.Log category most)) g r k early lasts q a b c = same_knows g p q a b c k

  answered_knows : (p : Plant) (asked : Asked) (o : Option ErrorCode) (g : SlaveStage) → refusal s p asked ≡ o → KnowsFault g p → (is_early p.state ≡ true → p.outputs_sent ≡ false) → transport.is_last asked (answered_plant s p asked o).answer ≡ false
      → KnowsFault (after asked (answered_plant s p asked o).answer g) (answered_plant s p asked o).after
  answered_knows p asked (Some code) g r k early lasts =
      let P : SlaveStage → Type 0 = λ x. KnowsFault x (answered_plant s p asked (Some code)).after in
      subst P (sym (refused_stage asked code g)) (same_knows g p (answered_plant s p asked (Some code)).after refl refl refl k)
  answered_knows p asked None g r k early lasts = accepted_knows p asked g r k early lasts (answered_plant s p asked None).after refl refl refl

  -- ---- a turn
  -- where a slave passes through a state it has entered that
  pub on_its_way : (g : SlaveStage) (p : Plant) (t : State) → StandsInStage g p → p.state ≡ t → (reached_by_turns g.entered ≡ t → ⊥) → is_in_error t ≡ false → (g.entered ≡ t) × (g.rested ≡ false)
  on_its_way g p t st e n f = by st.state
    where
      by : IsInStage g p.state → (g.entered ≡ t) × (g.rested ≡ false)
      by (inl h) = absurd (n (sym h ∙ e))
      by (inr (inl h)) = (sym h.0 ∙ e, h.1)
      by (inr (inr h)) = clash (sym h ∙ ap is_in_error e ∙ f)

  model_way : (g : SlaveStage) (p : Plant) (code : FaultCode) → StandsInStage g p → ModelFaults s p code → (g.rested ≡ false) × ((g.entered ≡ Initializing) ⊎ (g.entered ≡ Computing))
  model_way g p code st (out_of_range e f h) = let z = on_its_way g p Initializing st e (never_initializes g.entered) refl in (z.1, inl z.0)
  model_way g p code st (step_faults e h) = let z = on_its_way g p Computing st e (never_computes g.entered) refl in (z.1, inr z.0)

  -- what it had entered when a fault of the model came
  pub entered_where : (g : SlaveStage) (p : Plant) (code : FaultCode) → StandsInStage g p → ModelFaults s p code → ((g.entered ≡ Initializing) × (p.state ≡ Initializing)) ⊎ ((g.entered ≡ Computing) × (p.state ≡ Computing))
  entered_where g p code st (out_of_range e f h) = inl ((on_its_way g p Initializing st e (never_initializes g.entered) refl).0, e)
  entered_where g p code st (step_faults e h) = inr ((on_its_way g p Computing st e (never_computes g.entered) refl).0, e)

  -- what is spared does not fault
  spared : (p : Plant) (quiet : ℕ) (t : State) (code : FaultCode) → p.state ≡ t → is_spared t ≡ true → (t ≡ Initializing → ⊥) → (t ≡ Computing → ⊥) → act s quiet p ≡ turns.Fault code → ⊥
  spared p quiet t code e h m n f = by (act_faults s quiet p code f)
    where
      by : ((is_missed s.desc p.state quiet ≡ true) × (code ≡ HeartbeatMissed)) ⊎ ModelFaults s p code → ⊥
      by (inl z) =
          let parts = and_parts (nat_le 1 s.desc.heartbeat && nat_le s.desc.heartbeat quiet) (not (is_spared p.state)) z.0 in
          clash (sym parts.1 ∙ ap not (ap is_spared e ∙ h))
      by (inr (out_of_range a b c)) = m (sym e ∙ a)
      by (inr (step_faults a b)) = n (sym e ∙ a)

  error_spared : (t : State) → is_in_error t ≡ true → (is_spared t ≡ true) × ((t ≡ Initializing → ⊥) × (t ≡ Computing → ⊥))
  error_spared t e = (grind arith, (λ h. clash (sym e ∙ ap is_in_error h), λ h. clash (sym e ∙ ap is_in_error h)))

  stopped_apart : (t : State) → t ≡ Stopped → (is_spared t ≡ true) × ((t ≡ Initializing → ⊥) × (t ≡ Computing → ⊥))
  stopped_apart t e = (ap is_spared e, (λ h. one (sym e ∙ h), λ h. two (sym e ∙ h)))
    where
      one : Stopped ≡ Initializing → ⊥
      one z = cc

      two : Stopped ≡ Computing → ⊥
      two z = cc

  some_code : (a b : FaultCode) → Some a ≡ Some b → a ≡ b
  some_code a b e = cc

  turned_knows : (quiet : ℕ) (p : Plant) (a : Act) (g : SlaveStage) → act s quiet p ≡ a → StandsInStage g p → KnowsFault g p → KnowsFault g (turned s p a).after
  turned_knows quiet p turns.Stay g h st k = k
  turned_knows quiet p (turns.Wait left) g h st k = same_knows g p (turned s p (turns.Wait left)).after refl refl refl k
  turned_knows quiet p (turns.Fault code) g h st k = record {
    error = λ f. refl;
    model = λ c f m. by c m (some_code code c f) (act_faults s quiet p code h);
    stopped = λ e r. (let z = stopped_apart p.state (k.stopped e r) in absurd (spared p quiet p.state code refl z.0 (z.1).0 (z.1).1 h));
    unsent = λ e. k.unsent e;
    sent = λ e i. absurd cc;
  }
    where
      by : (c : FaultCode) → IsOfModel c → code ≡ c → ((is_missed s.desc p.state quiet ≡ true) × (code ≡ HeartbeatMissed)) ⊎ ModelFaults s p code → (g.rested ≡ false) × ((g.entered ≡ Initializing) ⊎ (g.entered ≡ Computing))
      by c m e (inl z) = absurd (subst IsOfModel (sym e ∙ z.1) m)
      by c m e (inr z) = model_way g p code st z
  turned_knows quiet p (turns.Step x) g h st k = record {
    error = λ f. clash (sym (k.error f) ∙ computes);
    model = λ c f m. no_fault p g c k computes f;
    stopped = λ e r. apart (sym (k.stopped e r) ∙ act_step s quiet p x h);
    unsent = λ e. k.unsent e;
    sent = λ e i. absurd cc;
  }
    where
      computes : is_in_error p.state ≡ false
      computes = ap is_in_error (act_step s quiet p x h)

      apart : Stopped ≡ Computing → Computed ≡ Stopped
      apart e = absurd cc
  turned_knows quiet p turns.Pass g h st k = record {
    error = λ f. error_rests p.state (k.error f);
    model = λ c f m. k.model c f m;
    stopped = λ e r. ap reached_by_turns (k.stopped e r) ∙ stopped_stays;
    unsent = λ e. unsent e st.state;
    sent = λ e i. sent e i st.state;
  }
    where
      sends : (t : State) → p.state ≡ t → (b : Bool) → sent_after t p.outputs_sent ≡ b → sent_after p.state p.outputs_sent ≡ b
      sends t e b f = ap (λ (z : State). sent_after z p.outputs_sent) e ∙ f

      unsent : g.entered ≡ Configuring → IsInStage g p.state → sent_after p.state p.outputs_sent ≡ false
      unsent e (inl z) = sends Configured (z ∙ ap reached_by_turns e ∙ reach_configured) false (k.unsent e)
      unsent e (inr (inl z)) = sends Configuring (z.0 ∙ e) false (k.unsent e)
      unsent e (inr (inr z)) = error_sent p.state p.outputs_sent z ∙ k.unsent e

      sent : g.entered ≡ SendingI → next_on_turn p.state 0 ≡ Configured → IsInStage g p.state → sent_after p.state p.outputs_sent ≡ true
      sent e i (inl z) = let here : p.state ≡ Configured = z ∙ ap reached_by_turns e ∙ reach_sent in sends Configured here true (k.sent e here)
      sent e i (inr (inl z)) = sends SendingI (z.0 ∙ e) true refl
      sent e i (inr (inr z)) = clash (sym (error_rests p.state z) ∙ ap is_in_error i)

  brought_knows : (from : Address) (number id : ℕ) (payload : List ℕ) (p : Plant) (g : SlaveStage) → KnowsFault g p → KnowsFault g (turns.brings s from number id payload p)
  brought_knows from number id payload p g k = by (is_listening p.state)
    where
      by : (b : Bool) → KnowsFault g (if b then record p { wires = brought s.desc p.wires from number id payload p.steps } else p)
      by true = same_knows g p (record p { wires = brought s.desc p.wires from number id payload p.steps }) refl refl refl k
      by false = k

  -- ---- over a log
  start_knows : KnowsFault (stage_by []) (start_plant s)
  start_knows = record { error = λ f. absurd cc; model = λ c f m. absurd cc; stopped = λ e r. absurd cc; unsent = λ e. refl; sent = λ e i. absurd cc }

  module _ (w : Parties) (n : ℕ) (rd : ReadsMessages w) where
    abbrev x : List LogEntry → Both Plant
    x log = at (machine s) w n log

    pub regular_at : (log : List LogEntry) → IsRegularIn s (x log).slave.session (x log).slave.inner
    regular_at log = let Q : SlaveState Plant → Type 0 = λ y. IsRegularIn s y.session y.inner in subst Q (sym (slave_is (machine s) w n log)) (regular_after s (events_of_slave w n log))

    pub open_regular : (session : Session) (p : Plant) → is_open session ≡ true → IsRegularIn s session p → IsRegular p
    open_regular Before p o r = absurd cc
    open_regular (During master id) p o r = r
    open_regular (After master id) p o r = absurd cc

    -- before its session it has taken nothing
    before_after : (session : Session) (from : Address) (r : req.SlaveRequest) (a : transport.SlaveAnswer) → transport.session_after session from r a ≡ Before → ⊥
    before_after Before from r a e = cc
    before_after (During master id) from r a e = by (transport.is_last r.asked a) e
      where
        by : (b : Bool) → (if b then After master id else During master id) ≡ Before → ⊥
        by true e = cc
        by false e = cc
    before_after (After master id) from r a e = cc

    open_not_before : (session : Session) → is_open session ≡ true → session ≡ Before → ⊥
    open_not_before Before o e = cc
    open_not_before (During master id) o e = cc
    open_not_before (After master id) o e = cc

    pub before_none : (log : List LogEntry) → (x log).slave.session ≡ Before → (x log).desk.served ≡ []
    before_none [] e = refl
    before_none (e ∷ log) b = by (goes s w n rd e log) (λ z. before_none log z)
      where
        by : Goes s (move w n e) (x log) (x (e ∷ log)) → ((x log).slave.session ≡ Before → (x log).desk.served ≡ []) → (x (e ∷ log)).desk.served ≡ []
        by (stays p v) f = v ∙ f (sym (ap (λ z. z.session) p) ∙ b)
        by (takes t) f = absurd (before_after (x log).slave.session t.from t.request (answers s t.request.asked (x log).slave.inner).answer (sym (ap (λ z. z.session) t.slave) ∙ b))
        by (brings t) f = absurd (open_not_before (x log).slave.session t.opened (sym (ap (λ z. z.session) t.slave) ∙ b))
        by (turns_on mv t) f = absurd (open_not_before (x log).slave.session t.opened (sym (ap (λ z. z.session) t.slave) ∙ b))

    abbrev Known : List LogEntry → Type 0
    Known log = KnowsFault (stage_by (x log).desk.served) (x log).slave.inner

    pub still_open : (session : Session) (from : Address) (r : req.SlaveRequest) (a : transport.SlaveAnswer) → is_open session ≡ true → is_open (transport.session_after session from r a) ≡ true → transport.is_last r.asked a ≡ false
    still_open Before from r a o p = absurd cc
    still_open (During master id) from r a o p = by (transport.is_last r.asked a) p
      where
        by : (b : Bool) → is_open (if b then After master id else During master id) ≡ true → b ≡ false
        by true e = absurd cc
        by false e = refl
    still_open (After master id) from r a o p = absurd cc

    register_goes_on : (asked : Asked) (a : transport.SlaveAnswer) → transport.is_register asked ≡ true → transport.is_last asked a ≡ false
    register_goes_on (Change named (stc.Register c d e f)) a h = refl
    register_goes_on (Change named stc.Deregister) a h = absurd cc
    register_goes_on (Change named stc.Prepare) a h = absurd cc
    register_goes_on (Change named stc.Configure) a h = absurd cc
    register_goes_on (Change named stc.Initialize) a h = absurd cc
    register_goes_on (Change named (stc.Run z)) a h = absurd cc
    register_goes_on (Change named (stc.DoStep z)) a h = absurd cc
    register_goes_on (Change named stc.SendOutputs) a h = absurd cc
    register_goes_on (Change named stc.Stop) a h = absurd cc
    register_goes_on (Change named stc.Reset) a h = absurd cc
    register_goes_on (Setting body) a h = absurd cc
    register_goes_on (Question q) a h = absurd cc

    takes_known : (e : LogEntry) (log : List LogEntry) → (t : Takes s (x log) (x (e ∷ log))) → is_open (x (e ∷ log)).slave.session ≡ true → (is_open (x log).slave.session ≡ true → Known log) → Known (e ∷ log)
    takes_known e log t o f =
        let P : List DecidedRequest → Type 0 = λ es. KnowsFault (stage_by es) (x (e ∷ log)).slave.inner in
        let Q : Plant → Type 0 = λ q. KnowsFault (stage_by (exchanged s p t.request t.note t.next' ∷ (x log).desk.served)) q in
        let R : SlaveStage → Type 0 = λ g. KnowsFault g (answers s t.request.asked p).after in
        subst P (sym t.served) (subst Q (sym (ap (λ z. z.inner) t.slave)) (subst R (sym (stage_is p (x log).desk.served t.request t.note t.next' t.heard)) (by t.when)))
      where
        p : Plant
        p = (x log).slave.inner

        opened : is_open (transport.session_after (x log).slave.session t.from t.request (answers s t.request.asked p).answer) ≡ true
        opened = sym (ap (λ z. is_open z.session) t.slave) ∙ o

        by : (((x log).slave.session ≡ Before) × (transport.is_register t.request.asked ≡ true)) ⊎ (is_open (x log).slave.session ≡ true) → KnowsFault (after t.request.asked (answers s t.request.asked p).answer (stage_by (x log).desk.served)) (answers s t.request.asked p).after
        by (inr h) = answered_knows p t.request.asked (refusal s p t.request.asked) (stage_by (x log).desk.served) refl (f h) (open_regular (x log).slave.session p h (regular_at log)).unsent (still_open (x log).slave.session t.from t.request (answers s t.request.asked p).answer h opened)
        by (inl h) =
            let start : p ≡ start_plant s = (let S : Session → Type 0 = λ z. IsRegularIn s z p in subst S h.0 (regular_at log)) in
            let K : Plant → Type 0 = λ q. KnowsFault (stage_by []) q in
            let L : List DecidedRequest → Type 0 = λ es. KnowsFault (stage_by es) p in
            answered_knows p t.request.asked (refusal s p t.request.asked) (stage_by (x log).desk.served) refl (subst L (sym (before_none log h.0)) (subst K (sym start) start_knows)) (λ z. ap (λ q. q.outputs_sent) start) (register_goes_on t.request.asked (answers s t.request.asked p).answer h.1)

    pub known : (log : List LogEntry) → is_open (x log).slave.session ≡ true → Known log
    known [] o = absurd cc
    known (e ∷ log) o = by (goes s w n rd e log) (λ z. known log z)
      where
        by : Goes s (move w n e) (x log) (x (e ∷ log)) → (is_open (x log).slave.session ≡ true → Known log) → Known (e ∷ log)
        by (stays h v) f =
            let P : List DecidedRequest → Type 0 = λ es. KnowsFault (stage_by es) (x (e ∷ log)).slave.inner in
            let Q : SlaveState Plant → Type 0 = λ z. KnowsFault (stage_by (x log).desk.served) z.inner in
            subst P (sym v) (subst Q (sym h) (f (sym (ap (λ z. is_open z.session) h) ∙ o)))
        by (takes t) f = takes_known e log t o f
        by (brings t) f =
            let P : List DecidedRequest → Type 0 = λ es. KnowsFault (stage_by es) (x (e ∷ log)).slave.inner in
            let Q : SlaveState Plant → Type 0 = λ z. KnowsFault (stage_by (x log).desk.served) z.inner in
            subst P (sym t.served) (subst Q (sym t.slave) (brought_knows t.from t.number t.id t.payload (x log).slave.inner (stage_by (x log).desk.served) (f t.opened)))
        by (turns_on mv t) f =
            let quiet = transport.quieter (x log).slave.quiet in
            let p = (x log).slave.inner in
            let P : List DecidedRequest → Type 0 = λ es. KnowsFault (stage_by es) (x (e ∷ log)).slave.inner in
            let Q : SlaveState Plant → Type 0 = λ z. KnowsFault (stage_by (x log).desk.served) z.inner in
            subst P (sym t.served) (subst Q (sym t.slave) (turned_knows quiet p (act s quiet p) (stage_by (x log).desk.served) refl (slaves_stand s w n rd log t.opened) (f t.opened)))

    -- ---- a fault stays
    turned_same : (quiet : ℕ) (p : Plant) (c : FaultCode) (a : Act) → act s quiet p ≡ a → is_in_error p.state ≡ true → p.fault ≡ Some c → (turned s p a).after.fault ≡ Some c
    turned_same quiet p c turns.Stay h e f = f
    turned_same quiet p c (turns.Wait left) h e f = f
    turned_same quiet p c (turns.Step state) h e f = f
    turned_same quiet p c turns.Pass h e f = f
    turned_same quiet p c (turns.Fault code) h e f = let z = error_spared p.state e in absurd (spared p quiet p.state code refl z.0 (z.1).0 (z.1).1 h)

    fault_kept : (e : LogEntry) (log : List LogEntry) (c : FaultCode) → (x log).slave.inner.fault ≡ Some c → (x (e ∷ log)).slave.inner.fault ≡ Some c
    fault_kept e log c f = by (goes s w n rd e log)
      where
        by : Goes s (move w n e) (x log) (x (e ∷ log)) → (x (e ∷ log)).slave.inner.fault ≡ Some c
        by (stays h v) = ap (λ z. z.inner.fault) h ∙ f
        by (takes t) = ap (λ z. z.inner.fault) t.slave ∙ answered_fault s (x log).slave.inner t.request.asked ∙ f
        by (brings t) = ap (λ z. z.inner.fault) t.slave ∙ brought_fault s t.from t.number t.id t.payload (x log).slave.inner ∙ f
        by (turns_on mv t) =
            let quiet = transport.quieter (x log).slave.quiet in
            let p = (x log).slave.inner in
            ap (λ z. z.inner.fault) t.slave ∙ turned_same quiet p c (act s quiet p) refl ((known log t.opened).error (ap is_some f)) f

    pub fault_stays : (later log : List LogEntry) (c : FaultCode) → (plant_at s w n log).fault ≡ Some c → (plant_at s w n (later ++ log)).fault ≡ Some c
    fault_stays [] log c f = f
    fault_stays (e ∷ later) log c f = fault_kept e (later ++ log) c (fault_stays later log c f)
