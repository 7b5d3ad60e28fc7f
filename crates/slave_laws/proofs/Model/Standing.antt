-- A slave stands where the exchanges with it have it, and answers so.
use Rattle.std.proofs.Common.{◌≡◌, ℕ, Bool, true, false, if◌then◌else◌, inl, inr, List, [], ◌∷◌, Option, Some, None, Ok, Err, refl, sym, ap, ◌∙◌, subst, ℤ}
use Rattle.std.specs.Prelude.{◌==◌, is_some}
use Rattle.std.proofs.lemmas.Bool.{eqb-true}
use Rattle.dcp_types.specs.declared.addresses.Address.{Address}
use Rattle.dcp_types.specs.declared.error_codes.ErrorCode.{ErrorCode}
use Rattle.dcp_types.specs.declared.error_codes.ErrorCode.TheVariants as error
use Rattle.dcp_types.specs.declared.states.State.{State}
use Rattle.dcp_types.specs.declared.states.State.TheVariants.{Alive, Computing, Computed}
use Rattle.dcp_types.specs.Codes.{state_code}
use Rattle.pdu_layout.specs.declared.messages.Stc.{Stc}
use Rattle.pdu_layout.specs.declared.messages.Stc.TheVariants as stc
use Rattle.pdu_layout.specs.declared.messages.Cfg.{Cfg}
use Rattle.pdu_layout.specs.declared.messages.Cfg.TheVariants as cfg
use Rattle.pdu_layout.specs.declared.messages.Inf.TheVariants as inf
use Rattle.log_spec.specs.Messages.{Note}
use Rattle.log_spec.specs.Log.{DecidedRequest}
use Rattle.slave_states.specs.Transitions.{transition_row, next_on, is_barred, or_wrong, is_same}
use Rattle.slave_spec.specs.Payloads.{brought}
use Rattle.slave_spec.specs.declared.words.SlaveSetup.{SlaveSetup}
use Rattle.slave_spec.specs.declared.words.SlaveRequest as req
use Rattle.slave_spec.specs.declared.words.Asked.{Asked}
use Rattle.slave_spec.specs.declared.words.Asked.TheVariants.{Change, Setting, Question}
use Rattle.slave_spec.specs.declared.words.Session.{Session}
use Rattle.slave_spec.specs.declared.words.Session.TheVariants.{Before, During, After}
use Rattle.slave_spec.specs.Heard as spec
use Rattle.slave_spec.specs.Transport as transport
use Rattle.slave_spec.specs.Plants.{Plant, start_plant}
use Rattle.slave_spec.specs.Begun.{IsRegular}
use Rattle.slave_spec.specs.Requests.{is_in_error, refusal, changed_to, set_to, accepted, code_or_zero, answer, answered_plant, answers}
use Rattle.slave_spec.specs.Turns.{Act, Stay, Wait, Fault, Step, Pass, act, turned, is_listening, brings}
use Rattle.slave_spec.specs.Slaves.{machine}
use Rattle.slave_laws.specs.Talk.Desks.{answer_note, at}
use Rattle.slave_laws.proofs.Talk.Plants.{act_step, no_refusal, row_of_next, state_is}
use Rattle.slave_laws.proofs.Talk.Sending.{sends_back}
use Rattle.slave_laws.proofs.Model.Along.{exchanged, Lasts, along}
use Rattle.plan_laws.specs.Course.Taken.{asked_heard, is_acknowledged}
use Rattle.slave_laws.proofs.Model.Parameters.{acknowledges, acknowledged}
use Rattle.slave_laws.specs.Model.Stages.{SlaveStage, entered_by, reached_by_turns, stage_entered, stage_told, stage_after, state_in_note, stage_by, IsInStage, FitsStage, AllFitStages}
use Rattle.slave_laws.specs.Model.Answering.{AnswersFitStages, StandsInStage, SlavesStandInStages}
use Rattle.slave_laws.proofs.Model.Tables.{same_states, states_are, rest_rests, error_rests, rest_computes, never_computes, error_before, leads}

clash : {A : Type 0} → true ≡ false → A
clash e = absurd cc

-- the state that an answer tells
abbrev told : transport.SlaveAnswer → Option ℕ
told (transport.StateAck state) = Some (state_code state)
told transport.Ack = None
told (transport.Nack code) = None
told (transport.ErrorAck code) = None
told (transport.LogAck entries) = None

told_by : (r : req.SlaveRequest) (next : ℕ) (a : transport.SlaveAnswer) → state_in_note (answer_note r next a) ≡ told a
told_by r next transport.Ack = refl
told_by r next (transport.Nack code) = refl
told_by r next (transport.StateAck state) = refl
told_by r next (transport.ErrorAck code) = refl
told_by r next (transport.LogAck entries) = refl

-- ---- the same machine, but for what has nothing to do with its stage
pub same_stands : (g : SlaveStage) (p q : Plant) → q.state ≡ p.state → is_some q.fault ≡ is_some p.fault → StandsInStage g p → StandsInStage g q
same_stands g p q e f h = let P : State → Type 0 = λ t. IsInStage g t in record { state = subst P (sym e) h.state; fault = λ z. f ∙ h.fault (sym (ap is_in_error e) ∙ z) }

module _ (s : SlaveSetup) where
  -- ---- where an answered request leaves the stage
  abbrev after : Asked → transport.SlaveAnswer → SlaveStage → SlaveStage
  after asked a g = stage_after (Some asked) (acknowledges a) (told a) g

  stage_is : (p : Plant) (es : List DecidedRequest) (r : req.SlaveRequest) (n : Note) (next' : ℕ) → spec.heard_as (Some n.message) ≡ spec.Asks r → stage_by (exchanged s p r n next' ∷ es) ≡ after r.asked (answers s r.asked p).answer (stage_by es)
  stage_is p es r n next' h =
      let a = (answers s r.asked p).answer in
      ap (λ o. stage_after o (is_acknowledged (answer_note r next' a)) (state_in_note (answer_note r next' a)) (stage_by es)) (ap asked_heard h)
      ∙ ap (λ b. stage_after (Some r.asked) b (state_in_note (answer_note r next' a)) (stage_by es)) (acknowledged r next' a)
      ∙ ap (λ o. stage_after (Some r.asked) (acknowledges a) o (stage_by es)) (told_by r next' a)

  -- a refusal leaves it as it is
  refused_stage : (asked : Asked) (code : ErrorCode) (g : SlaveStage) → after asked (transport.Nack code) g ≡ g
  refused_stage (Change named request) code g = refl
  refused_stage (Setting body) code g = refl
  refused_stage (Question inf.State) code g = refl
  refused_stage (Question inf.Error) code g = refl
  refused_stage (Question (inf.Log category most)) code g = refl

  -- a change is accepted where it names the state before it
  named_is : (state next : State) (request : Stc) (named : State) (sent : Bool) → next_on state request named sent ≡ Ok next → is_same named state ≡ true
  unfolding next_on
  named_is state next request named sent h = by (is_barred state request) (is_same named state) (transition_row request state sent) h
    where
      by : (b c : Bool) (o : Option State) → (if b then Err error.InErrorState else (if c then or_wrong o else Err error.WrongState)) ≡ Ok next → c ≡ true
      by true c o e = absurd cc
      by false true o e = refl
      by false false o e = absurd cc

  changed_state : (p : Plant) (request : Stc) (t : State) → ((changed_to s p request t).state ≡ t) × ((changed_to s p request t).fault ≡ p.fault)
  changed_state p (stc.Register a b c d) t = (refl, refl)
  changed_state p stc.Deregister t = (refl, refl)
  changed_state p stc.Prepare t = (refl, refl)
  changed_state p stc.Configure t = (refl, refl)
  changed_state p stc.Initialize t = (refl, refl)
  changed_state p (stc.Run x) t = (refl, refl)
  changed_state p (stc.DoStep n) t = (refl, refl)
  changed_state p stc.SendOutputs t = (refl, refl)
  changed_state p stc.Stop t = (refl, refl)
  changed_state p stc.Reset t = (refl, refl)

  -- a setting leaves the state, and the fault
  set_rest : (p : Plant) (body : Cfg) → ((set_to s p body).state ≡ p.state) × ((set_to s p body).fault ≡ p.fault)
  set_rest p (cfg.Parameter vr kind value) = (refl, refl)
  set_rest p (cfg.Logging category level mode) = (refl, refl)
  set_rest p cfg.Clear = (refl, refl)
  set_rest p (cfg.TimeRes x y) = (refl, refl)
  set_rest p (cfg.Steps x y) = (refl, refl)
  set_rest p (cfg.Input x y z v) = (refl, refl)
  set_rest p (cfg.Output x y z) = (refl, refl)
  set_rest p (cfg.Target x) = (refl, refl)
  set_rest p (cfg.Source x) = (refl, refl)
  set_rest p (cfg.Tunable x y z v) = (refl, refl)
  set_rest p (cfg.ParamNet x y z v) = (refl, refl)
  set_rest p (cfg.Scope x y) = (refl, refl)

  -- a machine that has just entered a state
  enters : (g : SlaveStage) (o : Option State) (t : State) (q : Plant) → o ≡ Some t → is_in_error t ≡ false → q.state ≡ t → StandsInStage (stage_entered o g) q
  enters g o t q e f h =
      let P : Option State → Type 0 = λ x. StandsInStage (stage_entered x g) q in
      subst P (sym e) (record { state = inr (inl (h, refl)); fault = λ z. clash (sym z ∙ ap is_in_error h ∙ f) })

  -- the state is told
  tells : (g : SlaveStage) (p q : Plant) → StandsInStage g p → q.state ≡ p.state → is_some q.fault ≡ is_some p.fault → StandsInStage (stage_told (Some (state_code p.state)) g) q
  tells g p q h e f = by (state_code p.state == state_code (reached_by_turns g.entered)) refl
    where
      by : (b : Bool) → (state_code p.state == state_code (reached_by_turns g.entered)) ≡ b → StandsInStage (if b then record { entered = g.entered; rested = true } else g) q
      by true z = record { state = inl (e ∙ same_states p.state (reached_by_turns g.entered) (eqb-true (state_code p.state) (state_code (reached_by_turns g.entered)) z)); fault = (same_stands g p q e f h).fault }
      by false z = same_stands g p q e f h

  accepted_stands : (p : Plant) (asked : Asked) (g : SlaveStage) → refusal s p asked ≡ None → StandsInStage g p → (q : Plant) → q.state ≡ (accepted s p asked).state → is_some q.fault ≡ is_some (accepted s p asked).fault → StandsInStage (after asked (answer p asked) g) q
  unfolding accepted refusal answer
  accepted_stands p (Change named request) g r h q a b =
      let o = no_refusal p request (next_on p.state request named p.outputs_sent) r in
      let row = row_of_next p.state o.0 request named p.outputs_sent o.1 in
      let e = state_is p.state o.0 (next_on p.state request named p.outputs_sent) o.1 in
      let l = leads request p.state o.0 p.outputs_sent row in
      let same : named ≡ p.state = states_are named p.state (named_is p.state o.0 request named p.outputs_sent o.1) in
      enters g (entered_by request named) o.0 q (ap (entered_by request) same ∙ l.0) l.1 (a ∙ ap (λ t. (changed_to s p request t).state) e ∙ (changed_state p request o.0).0)
  accepted_stands p (Setting body) g r h q a b = let e = set_rest p body in same_stands g p q (a ∙ e.0) (b ∙ ap is_some e.1) h
  accepted_stands p (Question inf.State) g r h q a b = tells g p q h a b
  accepted_stands p (Question inf.Error) g r h q a b = same_stands g p q a b h
  accepted_stands p (Question (inf.Log category most)) g r h q a b = same_stands g p q a b h

  answered_stands : (p : Plant) (asked : Asked) (o : Option ErrorCode) (g : SlaveStage) → refusal s p asked ≡ o → StandsInStage g p → StandsInStage (after asked (answered_plant s p asked o).answer g) (answered_plant s p asked o).after
  answered_stands p asked (Some code) g r h =
      let P : SlaveStage → Type 0 = λ x. StandsInStage x (answered_plant s p asked (Some code)).after in
      subst P (sym (refused_stage asked code g)) (same_stands g p (answered_plant s p asked (Some code)).after refl refl h)
  answered_stands p asked None g r h = accepted_stands p asked g r h (answered_plant s p asked None).after refl refl

  -- ---- what is answered
  not_refused : (o : Option ErrorCode) (code : ErrorCode) → None ≡ Some code → ⊥
  not_refused o code e = cc

  answered_fits : (p : Plant) (asked : Asked) (o : Option ErrorCode) (g : SlaveStage) (r : req.SlaveRequest) (next' : ℕ) → refusal s p asked ≡ o → IsInStage g p.state → is_same p.state Alive ≡ false → FitsStage (Some asked) g (answer_note r next' (answered_plant s p asked o).answer)
  unfolding refusal answer
  answered_fits p (Change named request) (Some code) g r next' e h reg = inr (code, (r, (next', refl)))
  answered_fits p (Change named request) None g r next' e h reg = inl (r, (next', refl))
  answered_fits p (Setting body) (Some code) g r next' e h reg = inr (code, (r, (next', refl)))
  answered_fits p (Setting body) None g r next' e h reg = inl (r, (next', refl))
  answered_fits p (Question inf.State) (Some code) g r next' e h reg = absurd cc
  answered_fits p (Question inf.State) None g r next' e h reg = (p.state, ((r, (next', refl)), (h, reg)))
  answered_fits p (Question inf.Error) (Some code) g r next' e h reg = absurd cc
  answered_fits p (Question inf.Error) None g r next' e h reg = (code_or_zero p.fault, (r, (next', refl)))
  answered_fits p (Question (inf.Log category most)) o g r next' e h reg = tt

  -- a register is answered by a verdict, whatever the state
  register_fits : (p : Plant) (asked : Asked) (o : Option ErrorCode) (g : SlaveStage) (r : req.SlaveRequest) (next' : ℕ) → transport.is_register asked ≡ true → FitsStage (Some asked) g (answer_note r next' (answered_plant s p asked o).answer)
  unfolding answer
  register_fits p (Change named request) (Some code) g r next' e = inr (code, (r, (next', refl)))
  register_fits p (Change named request) None g r next' e = inl (r, (next', refl))
  register_fits p (Setting body) o g r next' e = absurd cc
  register_fits p (Question q) o g r next' e = absurd cc

  -- ---- turns and data
  turned_stands : (p : Plant) (a : Act) (g : SlaveStage) → ((x : List ℤ) → a ≡ Step x → p.state ≡ Computing) → StandsInStage g p → StandsInStage g (turned s p a).after
  turned_stands p Stay g c h = h
  turned_stands p (Wait left) g c h = same_stands g p (turned s p (Wait left)).after refl refl h
  turned_stands p (Fault code) g c h = record { state = inr (inr refl); fault = λ z. refl }
  turned_stands p (Step x) g c h = record { state = inl (by h.state); fault = λ z. absurd cc }
    where
      here : p.state ≡ Computing
      here = c x refl

      by : IsInStage g p.state → Computed ≡ reached_by_turns g.entered
      by (inl e) = absurd (never_computes g.entered (sym e ∙ here))
      by (inr (inl e)) = sym rest_computes ∙ ap reached_by_turns (sym here ∙ e.0)
      by (inr (inr e)) = clash (sym e ∙ ap is_in_error here)
  turned_stands p Pass g c h = by h.state
    where
      by : IsInStage g p.state → StandsInStage g (turned s p Pass).after
      by (inl e) = record { state = inl (ap reached_by_turns e ∙ rest_rests g.entered); fault = λ z. h.fault (error_before p.state z) }
      by (inr (inl e)) = record { state = inl (ap reached_by_turns e.0); fault = λ z. h.fault (error_before p.state z) }
      by (inr (inr e)) = record { state = inr (inr (error_rests p.state e)); fault = λ z. h.fault e }

  brings_stands : (from : Address) (number id : ℕ) (payload : List ℕ) (p : Plant) (g : SlaveStage) → StandsInStage g p → StandsInStage g (brings s from number id payload p)
  brings_stands from number id payload p g h = by (is_listening p.state)
    where
      by : (b : Bool) → StandsInStage g (if b then record p { wires = brought s.desc p.wires from number id payload p.steps } else p)
      by true = same_stands g p (record p { wires = brought s.desc p.wires from number id payload p.steps }) refl refl h
      by false = h

  -- ---- through a session
  abbrev StageIn : Session → Plant → List DecidedRequest → Type 0
  StageIn Before p es = es ≡ []
  StageIn (During master id) p es = AllFitStages es × StandsInStage (stage_by es) p
  StageIn (After master id) p es = AllFitStages es

  fits_now : (p : Plant) (es : List DecidedRequest) (r : req.SlaveRequest) (n : Note) (next' : ℕ) → spec.heard_as (Some n.message) ≡ spec.Asks r → FitsStage (Some r.asked) (stage_by es) (answer_note r next' (answers s r.asked p).answer) → AllFitStages es → AllFitStages (exchanged s p r n next' ∷ es)
  fits_now p es r n next' h f all =
      let P : Option Asked → Type 0 = λ o. FitsStage o (stage_by es) (answer_note r next' (answers s r.asked p).answer) in
      (subst P (sym (ap asked_heard h)) f, all)

  stands_now : (p : Plant) (es : List DecidedRequest) (r : req.SlaveRequest) (n : Note) (next' : ℕ) → spec.heard_as (Some n.message) ≡ spec.Asks r → StandsInStage (stage_by es) p → StandsInStage (stage_by (exchanged s p r n next' ∷ es)) (answers s r.asked p).after
  stands_now p es r n next' h k =
      let P : SlaveStage → Type 0 = λ g. StandsInStage g (answers s r.asked p).after in
      subst P (sym (stage_is p es r n next' h)) (answered_stands p r.asked (refusal s p r.asked) (stage_by es) refl k)

  begins : StandsInStage (stage_by []) (start_plant s)
  begins = record { state = inr (inl (refl, refl)); fault = λ z. absurd cc }

  first_stage : (from : Address) (r : req.SlaveRequest) (n : Note) (next' : ℕ) (es : List DecidedRequest) → spec.heard_as (Some n.message) ≡ spec.Asks r → transport.is_register r.asked ≡ true → es ≡ []
      → StageIn (During from r.receiver) (answers s r.asked (start_plant s)).after (exchanged s (start_plant s) r n next' ∷ es)
  first_stage from r n next' es h reg e =
      let P : List DecidedRequest → Type 0 = λ ds. StageIn (During from r.receiver) (answers s r.asked (start_plant s)).after (exchanged s (start_plant s) r n next' ∷ ds) in
      subst P (sym e) (fits_now (start_plant s) [] r n next' h (register_fits (start_plant s) r.asked (refusal s (start_plant s) r.asked) (stage_by []) r next' reg) tt, stands_now (start_plant s) [] r n next' h begins)

  taken_stage : (master from : Address) (id : ℕ) (r : req.SlaveRequest) (n : Note) (next' : ℕ) (p : Plant) (es : List DecidedRequest) → spec.heard_as (Some n.message) ≡ spec.Asks r → IsRegular p → StageIn (During master id) p es
      → StageIn (transport.session_after (During master id) from r (answers s r.asked p).answer) (answers s r.asked p).after (exchanged s p r n next' ∷ es)
  taken_stage master from id r n next' p es h reg k = by (transport.is_last r.asked (answers s r.asked p).answer)
    where
      fits : AllFitStages (exchanged s p r n next' ∷ es)
      fits = fits_now p es r n next' h (answered_fits p r.asked (refusal s p r.asked) (stage_by es) r next' refl (k.1).state reg.registered) k.0

      by : (b : Bool) → StageIn (if b then After master id else During master id) (answers s r.asked p).after (exchanged s p r n next' ∷ es)
      by true = fits
      by false = (fits, stands_now p es r n next' h k.1)

  stage_lasts : Lasts s (λ es. Unit {0}) StageIn
  stage_lasts = record {
    less = λ d es a. tt;
    start = refl;
    first = λ from r n next' es h ev reg a e. first_stage from r n next' es h reg e;
    taken = λ master from id r n next' p es h ev reg a k. taken_stage master from id r n next' p es h reg k;
    brings = λ master from id number i payload p es a k. (k.0, brings_stands from number i payload p (stage_by es) k.1);
    turns = λ master id quiet p es r r' ok a k. (k.0, turned_stands p (act s quiet p) (stage_by es) (act_step s quiet p) k.1);
  }

  all_fit_in : (session : Session) (p : Plant) (es : List DecidedRequest) → StageIn session p es → AllFitStages es
  all_fit_in Before p es k = subst AllFitStages (sym k) tt
  all_fit_in (During master id) p es k = k.0
  all_fit_in (After master id) p es k = k

  stands_in : (session : Session) (p : Plant) (es : List DecidedRequest) → transport.is_open session ≡ true → StageIn session p es → StandsInStage (stage_by es) p
  stands_in Before p es o k = absurd cc
  stands_in (During master id) p es o k = k.1
  stands_in (After master id) p es o k = absurd cc

pub answers_fit : AnswersFitStages
answers_fit s w n rd log =
    let x = at (machine s) w n log in
    all_fit_in s x.slave.session x.slave.inner x.desk.served (along s (λ es. Unit {0}) (StageIn s) (stage_lasts s) w n (sends_back s w n rd).agree log tt)

pub slaves_stand : SlavesStandInStages
slaves_stand s w n rd log o =
    let x = at (machine s) w n log in
    stands_in s x.slave.session x.slave.inner x.desk.served o (along s (λ es. Unit {0}) (StageIn s) (stage_lasts s) w n (sends_back s w n rd).agree log tt)
