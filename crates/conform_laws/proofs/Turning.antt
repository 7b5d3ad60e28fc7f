-- What a slave of the definitions does and sends at a turn, one may whose model is not known.
use Rattle.std.proofs.Common.{◌≡◌, ℕ, zero, suc, ◌%◌, Bool, true, false, List, [], ◌∷◌, ◌++◌, map, Option, Some, None, Result, Ok, Err, refl, ap, sym, subst, ◌∙◌, arith, if◌then◌else◌, Contains, MatchBool, append_assoc}
use Rattle.std.specs.Prelude.{ℤ, filter_map, option_map}
use Rattle.std.specs.List.{cons_option}
use Rattle.dcp_types.specs.declared.addresses.Address.{Address}
use Rattle.dcp_types.specs.declared.states.State.{State}
use Rattle.dcp_types.specs.declared.states.State.TheVariants.{Alive, Configuration, Preparing, Prepared, Configuring, Configured, Initializing, Initialized, SendingI, Synchronizing, Synchronized, Running, Computing, Computed, SendingD, Stopping, Stopped, ErrorHandling, ErrorResolved}
use Rattle.dcp_types.specs.declared.fault_codes.FaultCode.{FaultCode}
use Rattle.dcp_types.specs.declared.fault_codes.FaultCode.TheVariants.{ModelOverflow, DivideByZero, OutOfRange, HeartbeatMissed}
use Rattle.dcp_types.specs.Codes.{state_code, fault_code}
use Rattle.fixed_models.specs.declared.kinds.Kind.{Kind}
use Rattle.fixed_models.specs.declared.kinds.Kind.TheVariants as kinds
use Rattle.fixed_models.specs.Steps.{within, step_once, outputs, and_then, micro_steps, all_fit}
use Rattle.fixed_models.specs.Kinds.{nth}
use Rattle.fixed_models.specs.Rows as rows
use Rattle.fixed_models.specs.Views.{View, step_of}
use Rattle.slave_desc.specs.declared.descriptions.SlaveDesc.{SlaveDesc}
use Rattle.slave_states.specs.Transitions.{next_on_turn}
use Rattle.slave_spec.specs.Changes.{Change, output, target, ordinal}
use Rattle.slave_spec.specs.Payloads.{wired_values, payload, data_message}
use Rattle.slave_spec.specs.declared.words.SlaveSetup.{SlaveSetup}
use Rattle.slave_spec.specs.declared.words.LogRemark.{LogRemark}
use Rattle.slave_spec.specs.Transport.{Ack, Notice, Changed, Parcel, Turned, turned_sends, notice_sends, parcel_send}
use Rattle.slave_spec.specs.Plants.{Plant}
use Rattle.slave_spec.specs.Requests.{note, notices}
use Rattle.slave_spec.specs.Turns.{Act, Stay, Wait, Fault, Step, Pass, act, step_act, computing, state_act, is_missed, values, parcel, data_parcels, is_sending_state, parcels, sent_after, counted, turned, turns}
use Rattle.slave_spec.specs.Foreign.{ForeignPlant, ForeignAct, Stays, Passes, Falls, Choice, may_turn, is_fall, model_faults, turn_faults, steps_passed, foreign_turned, IsParcel, FirstThen, AreParcels, due_ids, SendsData, IsTurnChoice}
use Rattle.slave_spec.proofs.Sizes.{payload_length}
use Rattle.conform_laws.proofs.Shelves.{HaveLevels, AreNotes, no_notes, are_notes, all_noted}
use Rattle.conform_laws.proofs.Faces.{face, Behind, first_one}

-- ---- the faults of a model

abbrev IsModelFault : FaultCode → Type 0
IsModelFault code = Contains (ModelOverflow ∷ DivideByZero ∷ OutOfRange ∷ []) code

overflow_is : IsModelFault ModelOverflow
overflow_is = (0, omega arith, refl)

division_is : IsModelFault DivideByZero
division_is = (1, omega arith, refl)

range_is : IsModelFault OutOfRange
range_is = (2, omega arith, refl)

abbrev Faults : Result (List ℤ) FaultCode → Type 0
Faults (Ok state) = Unit {0}
Faults (Err code) = IsModelFault code

within_faults : (b : Bool) (state : List ℤ) → Faults (within b state)
within_faults true state = tt
within_faults false state = overflow_is

divided : (b : Bool) (r : Result (List ℤ) FaultCode) → Faults r → Faults (if b then Err DivideByZero else r)
divided true r h = division_is
divided false r h = h

once_faults : (kind : Kind) (ps state us : List ℤ) → Faults (step_once kind ps state us)
unfolding step_once
once_faults kinds.Const ps state us = tt
once_faults kinds.Ramp ps state us = within_faults _ _
once_faults kinds.Counter ps state us = within_faults _ _
once_faults kinds.Gain ps state us = within_faults _ _
once_faults kinds.Sum ps state us = within_faults _ _
once_faults kinds.Integrator ps state us = within_faults _ _
once_faults kinds.Lag ps state us = within_faults _ _
once_faults kinds.Delay ps state us = within_faults _ _
once_faults kinds.Limiter ps state us = within_faults _ _
once_faults kinds.Deadband ps state us = within_faults _ _
once_faults kinds.Divider ps state us = divided (rows.is_zero (nth us 0)) _ (within_faults _ _)
once_faults kinds.Oscillator ps state us = within_faults _ _
once_faults kinds.Tank ps state us = within_faults _ _
once_faults kinds.Switch ps state us = within_faults _ _
once_faults kinds.External ps state us = tt

then_faults : (r : Result (List ℤ) FaultCode) (next : List ℤ → Result (List ℤ) FaultCode) → Faults r → ((state : List ℤ) → Faults (next state)) → Faults (and_then r next)
then_faults (Ok state) next h f = f state
then_faults (Err code) next h f = h

micro_faults : (n : ℕ) (kind : Kind) (ps state us : List ℤ) → Faults (micro_steps n kind ps state us)
unfolding micro_steps
micro_faults zero kind ps state us = tt
micro_faults (suc n) kind ps state us = then_faults (step_once kind ps state us) (λ x. micro_steps n kind ps x us) (once_faults kind ps state us) (λ x. micro_faults n kind ps x us)

in_types : (b : Bool) (state : List ℤ) → Faults (if b then Ok state else Err OutOfRange)
in_types true state = tt
in_types false state = range_is

step_faults : (v : View) (us : List ℤ) (micro : ℕ) → Faults (step_of v us micro)
step_faults v us micro = then_faults (micro_steps micro v.kind v.parameters v.state us) _ (micro_faults micro v.kind v.parameters v.state us) (λ x. in_types (all_fit v.types (outputs v.kind v.parameters x)) x)

-- ---- what a turn does

abbrev acts_so : (missed : Bool) → State → ForeignAct → Bool
acts_so missed state act' = if missed then is_fall act' else may_turn state act'

abbrev faults_so : (missed : Bool) → State → List FaultCode
faults_so missed state = if missed then HeartbeatMissed ∷ [] else model_faults state

abbrev IsAct : (missed : Bool) → State → (steps : ℕ) → Act → Type 0
IsAct missed state steps Stay = acts_so missed state Stays ≡ true
IsAct missed state steps (Wait left) = acts_so missed state Stays ≡ true
IsAct missed state steps (Fault code) = (acts_so missed state Falls ≡ true) × Contains (faults_so missed state) code
IsAct missed state steps (Step x) = (acts_so missed state Passes ≡ true) × (state ≡ Computing)
IsAct missed state steps Pass = (acts_so missed state Passes ≡ true) × (steps_passed state steps ≡ steps)

stepped : (r : Result (List ℤ) FaultCode) (steps : ℕ) → Faults r → IsAct false Computing steps (step_act r)
stepped (Ok x) steps h = (refl, refl)
stepped (Err code) steps h = (refl, h)

computed : (s : SlaveSetup) (p : Plant) (left : ℕ) → IsAct false Computing p.steps (computing s p left)
computed s p (suc left) = refl
computed s p zero = stepped (step_of p.model (wired_values s.desc p.wires) s.micro) p.steps (step_faults p.model (wired_values s.desc p.wires) s.micro)

initialized : (b : Bool) (steps : ℕ) → IsAct false Initializing steps (if b then Pass else Fault OutOfRange)
initialized true steps = (refl, refl)
initialized false steps = (refl, first_one OutOfRange [])

in_state : (s : SlaveSetup) (p : Plant) (state : State) → IsAct false state p.steps (state_act s p state)
in_state s p Initializing = initialized (all_fit p.model.types (values p.model)) p.steps
in_state s p Computing = computed s p p.busy_left
in_state s p Alive = refl
in_state s p Configuration = refl
in_state s p Preparing = (refl, refl)
in_state s p Prepared = refl
in_state s p Configuring = (refl, refl)
in_state s p Configured = refl
in_state s p Initialized = refl
in_state s p SendingI = (refl, refl)
in_state s p Synchronizing = (refl, refl)
in_state s p Synchronized = refl
in_state s p Running = refl
in_state s p Computed = refl
in_state s p SendingD = (refl, refl)
in_state s p Stopping = (refl, refl)
in_state s p Stopped = refl
in_state s p ErrorHandling = (refl, refl)
in_state s p ErrorResolved = refl

acts : (s : SlaveSetup) (quiet : ℕ) (p : Plant) → IsAct (is_missed s.desc p.state quiet) p.state p.steps (act s quiet p)
unfolding act
acts s quiet p = by (is_missed s.desc p.state quiet)
  where
    by : (b : Bool) → IsAct b p.state p.steps (if b then Fault HeartbeatMissed else state_act s p p.state)
    by true = (refl, first_one HeartbeatMissed [])
    by false = in_state s p p.state

-- ---- data messages

are_parcels : (d : SlaveDesc) (changes : List Change) (steps : ℕ) (vs : List ℤ) (due : List ℕ) → AreParcels d changes steps due (filter_map (parcel d changes steps vs) due)
are_parcels d changes steps vs [] = refl
are_parcels d changes steps vs (id ∷ due) = by (target id changes) (are_parcels d changes steps vs due)
  where
    made : Address → Parcel
    made to = record { to = to; message = data_message (ordinal output id changes steps % 65536) id (payload d id changes vs) }

    by : (o : Option Address) → AreParcels d changes steps due (filter_map (parcel d changes steps vs) due)
        → FirstThen o (IsParcel d changes steps id) (AreParcels d changes steps due) (cons_option (option_map made o) (filter_map (parcel d changes steps vs) due))
    by None more = more
    by (Some to) more = (made to, filter_map (parcel d changes steps vs) due, refl, record { payload = payload d id changes vs; same = refl; size = payload_length d changes id vs }, more)

-- ---- a turn

-- what a turn does is free, and what is seen after it is what is behind it
pub record IsTurned (s : SlaveSetup) (p : Plant) (faults : List FaultCode) (logs : Bool) (quiet : ℕ) (t : Turned Plant) : Type 0 where
  pub choice : Choice
  pub free : IsTurnChoice s.desc quiet (face p faults logs) choice
  pub codes : List FaultCode
  pub told : List Notice
  pub sent : (master : Address) (id : ℕ) → turned_sends master id t ≡ turned_sends master id (foreign_turned s.desc quiet (face p faults logs) choice.act choice.parcels) ++ notice_sends master id told
  pub after : (foreign_turned s.desc quiet (face p faults logs) choice.act choice.parcels).after ≡ face t.after codes logs
  pub behind : Behind s.desc t.after codes logs
  pub notes : AreNotes logs told

module _ (s : SlaveSetup) (p : Plant) (faults : List FaultCode) (logs : Bool) (quiet : ℕ) where
  abbrev acting : ForeignAct → List Parcel → Choice
  acting act' ps = record { answer = Ack; act = act'; parcels = ps }

  abbrev no_parcels : List Parcel
  no_parcels = []

  -- a face with other parts
  abbrev faced_so : State → ℕ → Bool → List FaultCode → ForeignPlant
  faced_so state steps outputs_sent codes = record { state = state; steps = steps; outputs_sent = outputs_sent; wires = p.wires; faults = codes; logs = logs }

  same_face : (state state' : State) (steps steps' : ℕ) (b b' : Bool) (codes : List FaultCode) → state ≡ state' → steps ≡ steps' → b ≡ b' → faced_so state steps b codes ≡ faced_so state' steps' b' codes
  same_face state state' steps steps' b b' codes e f g =
      ap (λ (x : State). faced_so x steps b codes) e ∙ ap (λ (x : ℕ). faced_so state' x b codes) f ∙ ap (λ (x : Bool). faced_so state' steps' x codes) g

  told_later : (ps : List Parcel) (state : State) (ns : List Notice) (master : Address) (id : ℕ)
      → map parcel_send ps ++ notice_sends master id (Changed state ∷ ns) ≡ (map parcel_send ps ++ notice_sends master id (Changed state ∷ [])) ++ notice_sends master id ns
  told_later ps state ns master id = sym (append_assoc (map parcel_send ps) (notice_sends master id (Changed state ∷ [])) (notice_sends master id ns))

  stayed : (q : Plant) → acts_so (is_missed s.desc p.state quiet) p.state Stays ≡ true → face p faults logs ≡ face q faults logs → Behind s.desc q faults logs
      → IsTurned s p faults logs quiet (record { parcels = []; notices = []; after = q })
  stayed q free e h = record {
    choice = acting Stays [];
    free = (free, refl);
    codes = faults;
    told = [];
    sent = λ master id. refl;
    after = e;
    behind = h;
    notes = no_notes logs;
  }

  fell : (code : FaultCode) → acts_so (is_missed s.desc p.state quiet) p.state Falls ≡ true → Contains (faults_so (is_missed s.desc p.state quiet) p.state) code → Behind s.desc p faults logs
      → IsTurned s p faults logs quiet (turned s p (Fault code))
  fell code free among h =
      let ns : List LogRemark = note 3 1 (fault_code code) ∷ note 1 2 (state_code ErrorHandling) ∷ [] in
      let levels : HaveLevels ns = (refl, (refl, tt)) in
      record {
        choice = acting Falls [];
        free = (free, refl);
        codes = turn_faults s.desc quiet p.state;
        told = notices p.log p.steps ns;
        sent = λ master id. told_later [] ErrorHandling (notices p.log p.steps ns) master id;
        after = refl;
        behind = record { fault = among; log = all_noted logs p.log p.steps ns h.log; parameters = h.parameters };
        notes = are_notes logs p.log p.steps ns levels h.log;
      }

  next_is : (state : State) → state ≡ Computing → next_on_turn state 0 ≡ Computed
  unfolding next_on_turn
  next_is state e = ap (λ (x : State). next_on_turn x 0) e

  took_step : (x : List ℤ) → acts_so (is_missed s.desc p.state quiet) p.state Passes ≡ true → p.state ≡ Computing → Behind s.desc p faults logs → IsTurned s p faults logs quiet (turned s p (Step x))
  took_step x free e h =
      let steps : ℕ = counted p.steps in
      let ns : List LogRemark = note 2 3 0 ∷ note 1 2 (state_code Computed) ∷ [] in
      let levels : HaveLevels ns = (refl, (refl, tt)) in
      let next : next_on_turn p.state 0 ≡ Computed = next_is p.state e in
      let nothing : SendsData s.desc (face p faults logs) [] = subst (λ (z : State). MatchBool (is_sending_state z) (AreParcels s.desc p.wires.changes p.steps (due_ids p.wires.changes p.steps) []) (no_parcels ≡ [])) (sym e) refl in
      record {
        choice = acting Passes [];
        free = (free, nothing);
        codes = faults;
        told = notices p.log steps ns;
        sent = λ master id. told_later [] Computed (notices p.log steps ns) master id ∙ ap (λ (z : State). notice_sends master id (Changed z ∷ []) ++ notice_sends master id (notices p.log steps ns)) (sym next);
        after = same_face (next_on_turn p.state 0) Computed (steps_passed p.state p.steps) steps (sent_after p.state p.outputs_sent) p.outputs_sent faults next
            (ap (λ (z : State). steps_passed z p.steps) e) (ap (λ (z : State). sent_after z p.outputs_sent) e);
        behind = record { fault = h.fault; log = all_noted logs p.log steps ns h.log; parameters = h.parameters };
        notes = are_notes logs p.log steps ns levels h.log;
      }

  data_sent : SendsData s.desc (face p faults logs) (parcels s p)
  data_sent = by (is_sending_state p.state)
    where
      by : (b : Bool) → MatchBool b (AreParcels s.desc p.wires.changes p.steps (due_ids p.wires.changes p.steps) (if b then data_parcels s.desc p.wires.changes p.steps (values p.model) else []))
          ((if b then data_parcels s.desc p.wires.changes p.steps (values p.model) else []) ≡ [])
      by true = are_parcels s.desc p.wires.changes p.steps (values p.model) (due_ids p.wires.changes p.steps)
      by false = refl

  went_on : acts_so (is_missed s.desc p.state quiet) p.state Passes ≡ true → steps_passed p.state p.steps ≡ p.steps → Behind s.desc p faults logs → IsTurned s p faults logs quiet (turned s p Pass)
  went_on free e h =
      let state : State = next_on_turn p.state 0 in
      let ns : List LogRemark = note 1 2 (state_code state) ∷ [] in
      let levels : HaveLevels ns = (refl, tt) in
      record {
        choice = acting Passes (parcels s p);
        free = (free, data_sent);
        codes = faults;
        told = notices p.log p.steps ns;
        sent = λ master id. told_later (parcels s p) state (notices p.log p.steps ns) master id;
        after = same_face state state (steps_passed p.state p.steps) p.steps (sent_after p.state p.outputs_sent) (sent_after p.state p.outputs_sent) faults refl e refl;
        behind = record { fault = h.fault; log = all_noted logs p.log p.steps ns h.log; parameters = h.parameters };
        notes = are_notes logs p.log p.steps ns levels h.log;
      }

  by_act : (a : Act) → IsAct (is_missed s.desc p.state quiet) p.state p.steps a → Behind s.desc p faults logs → IsTurned s p faults logs quiet (turned s p a)
  by_act Stay free h = stayed p free refl h
  by_act (Wait left) free h = stayed (record p { busy_left = left }) free refl (record { fault = h.fault; log = h.log; parameters = h.parameters })
  by_act (Fault code) (free, among) h = fell code free among h
  by_act (Step x) (free, e) h = took_step x free e h
  by_act Pass (free, e) h = went_on free e h

  pub is_turned : Behind s.desc p faults logs → IsTurned s p faults logs quiet (turns s quiet p)
  is_turned h = by_act (act s quiet p) (acts s quiet p) h
