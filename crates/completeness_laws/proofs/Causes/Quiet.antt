-- A slave with a missed heartbeat had as many turns in a row as that without taking a request, whatever the network does.
use Rattle.std.proofs.Common.{◌≡◌, ◌≢◌, ℕ, zero, suc, ◌+◌, ◌≤◌, Bool, true, false, if◌then◌else◌, ◌⊎◌, inl, inr, Option, Some, None, Result, Ok, Err, List, [], ◌∷◌, ◌++◌, refl, sym, ap, ◌∙◌, subst, arith, ℤ}
use Rattle.std.specs.Prelude.{◌==◌, ◌&&◌, not, nat_le, count_by}
use Rattle.std.proofs.lemmas.Bool.{and_parts, leb-true}
use Rattle.std.proofs.lemmas.List.Sums.{sum_by-cons}
use Rattle.dcp_types.specs.declared.addresses.Address.{Address}
use Rattle.dcp_types.specs.declared.data_types.DataType.{DataType}
use Rattle.dcp_types.specs.declared.fault_codes.FaultCode.{FaultCode}
use Rattle.dcp_types.specs.declared.fault_codes.FaultCode.TheVariants.{ModelOverflow, DivideByZero, OutOfRange, HeartbeatMissed}
use Rattle.dcp_types.specs.declared.error_codes.ErrorCode.{ErrorCode}
use Rattle.dcp_types.specs.declared.states.State.{State}
use Rattle.dcp_types.specs.declared.states.State.TheVariants.{Alive, Configuration, Preparing, Prepared, Configuring, Configured, Initializing, Initialized, SendingI, Synchronizing, Synchronized, Running, Computing, Computed, SendingD, Stopping, Stopped, ErrorHandling, ErrorResolved}
use Rattle.dcp_ends.specs.declared.entries.LogEntry.{LogEntry}
use Rattle.dcp_ends.specs.declared.entries.LogEntry.TheVariants.{Sent, Got, Idle, Turn}
use Rattle.pdu_layout.specs.declared.messages.Stc.{Stc}
use Rattle.pdu_layout.specs.declared.messages.Stc.TheVariants as stc
use Rattle.pdu_layout.specs.declared.messages.Cfg.{Cfg}
use Rattle.pdu_layout.specs.declared.messages.Cfg.TheVariants as cfg
use Rattle.pdu_layout.specs.declared.messages.Inf.TheVariants as inf
use Rattle.fixed_models.specs.declared.kinds.Kind.{Kind}
use Rattle.fixed_models.specs.declared.kinds.Kind.TheVariants as kinds
use Rattle.fixed_models.specs.Steps.{within, step_once, micro_steps, and_then, model_step, outputs, all_fit}
use Rattle.fixed_models.specs.Views.{step_of}
use Rattle.log_spec.specs.Messages.{Role, Request, Answer, Value, Else}
use Rattle.log_spec.specs.Log.{Parties, same, role_heard, DecidedRequest}
use Rattle.log_spec.specs.Moves.{Asks, Comes, Tells, Hears, Brings, Turns, Rests, Other, sent_move, got_move, move}
use Rattle.slave_states.specs.Transitions.{next_on}
use Rattle.slave_spec.specs.Payloads.{brought, wired_values}
use Rattle.slave_spec.specs.declared.words.SlaveSetup.{SlaveSetup}
use Rattle.slave_spec.specs.declared.words.Asked.{Asked}
use Rattle.slave_spec.specs.declared.words.Asked.TheVariants.{Change, Setting, Question}
use Rattle.slave_spec.specs.Transport as transport
use Rattle.slave_spec.specs.Transport.{is_open}
use Rattle.slave_spec.specs.Plants.{Plant}
use Rattle.slave_spec.specs.Requests.{refusal, changed_to, set_to, accepted, answered_plant, answers, state_or}
use Rattle.slave_spec.specs.Turns as turns
use Rattle.slave_spec.specs.Turns.{Act, act, state_act, computing, step_act, is_missed, is_spared, turned, is_listening}
use Rattle.slave_spec.specs.Slaves.{machine}
use Rattle.slave_laws.specs.Talk.Desks.{Both, at}
use Rattle.slave_laws.specs.Talk.Sends.{ReadsMessages}
use Rattle.slave_laws.specs.Model.Models.{plant_at}
use Rattle.slave_laws.specs.Model.Tuned.{served_at}
use Rattle.master_spec.specs.Requests.{is_turn_of}
use Rattle.completeness_laws.proofs.Delivery.Happens.{same_both}
use Rattle.completeness_laws.proofs.Causes.Goings.{Takes, Takes_data, Turns_on, Goes, stays, takes, brings, turns_on, goes}

-- ---- no model misses a heartbeat
abbrev pub IsOfModel : FaultCode → Type 0
IsOfModel ModelOverflow = Unit {0}
IsOfModel DivideByZero = Unit {0}
IsOfModel OutOfRange = Unit {0}
IsOfModel HeartbeatMissed = ⊥

pub model_or_not : (c : FaultCode) → IsOfModel c ⊎ (c ≡ HeartbeatMissed)
model_or_not ModelOverflow = inl tt
model_or_not DivideByZero = inl tt
model_or_not OutOfRange = inl tt
model_or_not HeartbeatMissed = inr refl

abbrev FaultsByModel : Result (List ℤ) FaultCode → Type 0
FaultsByModel (Ok x) = Unit {0}
FaultsByModel (Err code) = IsOfModel code

within_model : (b : Bool) (state : List ℤ) → FaultsByModel (within b state)
within_model true state = tt
within_model false state = tt

divided_model : (b c : Bool) (state : List ℤ) → FaultsByModel (if b then Err DivideByZero else within c state)
divided_model true c state = tt
divided_model false c state = within_model c state

once_model : (kind : Kind) (ps s us : List ℤ) → FaultsByModel (step_once kind ps s us)
unfolding step_once
once_model kinds.Const ps s us = tt
once_model kinds.Ramp ps s us = within_model _ _
once_model kinds.Counter ps s us = within_model _ _
once_model kinds.Gain ps s us = within_model _ _
once_model kinds.Sum ps s us = within_model _ _
once_model kinds.Integrator ps s us = within_model _ _
once_model kinds.Lag ps s us = within_model _ _
once_model kinds.Delay ps s us = within_model _ _
once_model kinds.Limiter ps s us = within_model _ _
once_model kinds.Deadband ps s us = within_model _ _
once_model kinds.Divider ps s us = divided_model _ _ _
once_model kinds.Oscillator ps s us = within_model _ _
once_model kinds.Tank ps s us = within_model _ _
once_model kinds.Switch ps s us = within_model _ _
once_model kinds.External ps s us = tt

micro_model : (n : ℕ) (kind : Kind) (ps s us : List ℤ) → FaultsByModel (micro_steps n kind ps s us)
unfolding micro_steps
micro_model zero kind ps s us = tt
micro_model (suc n) kind ps s us = by (step_once kind ps s us) (once_model kind ps s us) (λ x. micro_model n kind ps x us)
  where
    by : (r : Result (List ℤ) FaultCode) → FaultsByModel r → ((x : List ℤ) → FaultsByModel (micro_steps n kind ps x us)) → FaultsByModel (and_then r (λ x. micro_steps n kind ps x us))
    by (Ok x) h f = f x
    by (Err code) h f = h

pub step_model : (kind : Kind) (ps : List ℤ) (types : List DataType) (s us : List ℤ) (micro : ℕ) (code : FaultCode) → model_step kind ps types s us micro ≡ Err code → IsOfModel code
step_model kind ps types s us micro code e = let P : Result (List ℤ) FaultCode → Type 0 = FaultsByModel in subst P e (by (micro_steps micro kind ps s us) (micro_model micro kind ps s us))
  where
    fit : (b : Bool) (x : List ℤ) → FaultsByModel (if b then Ok x else Err OutOfRange)
    fit true x = tt
    fit false x = tt

    by : (r : Result (List ℤ) FaultCode) → FaultsByModel r → FaultsByModel (and_then r (λ x. (if all_fit types (outputs kind ps x) then Ok x else Err OutOfRange)))
    by (Ok x) h = fit (all_fit types (outputs kind ps x)) x
    by (Err code) h = h

-- ---- what faults
fault_is : (a b : FaultCode) → turns.Fault a ≡ turns.Fault b → a ≡ b
fault_is a b e = cc

by_pass : (b : Bool) (code : FaultCode) → (if b then turns.Pass else turns.Stay) ≡ turns.Fault code → ⊥
by_pass true code e = cc
by_pass false code e = cc

computing_fault : (s : SlaveSetup) (p : Plant) (left : ℕ) (code : FaultCode) → computing s p left ≡ turns.Fault code → step_of p.model (wired_values s.desc p.wires) s.micro ≡ Err code
computing_fault s p (suc left) code e = absurd cc
computing_fault s p zero code e = by (step_of p.model (wired_values s.desc p.wires) s.micro) e
  where
    by : (r : Result (List ℤ) FaultCode) → step_act r ≡ turns.Fault code → r ≡ Err code
    by (Ok x) e = absurd cc
    by (Err c) e = ap (λ (x : FaultCode). Err x) (fault_is c code e)

-- a fault of the model: in INITIALIZING an output lies outside its type, in COMPUTING the step faults
pub data ModelFaults (s : SlaveSetup) (p : Plant) (code : FaultCode) : Type 0 where
  out_of_range : p.state ≡ Initializing → all_fit p.model.types (turns.values p.model) ≡ false → code ≡ OutOfRange → ModelFaults s p code
  step_faults : p.state ≡ Computing → step_of p.model (wired_values s.desc p.wires) s.micro ≡ Err code → ModelFaults s p code

state_faults : (s : SlaveSetup) (p : Plant) (state : State) (code : FaultCode) → p.state ≡ state → state_act s p state ≡ turns.Fault code → ModelFaults s p code
state_faults s p Initializing code q e = by (all_fit p.model.types (turns.values p.model)) refl e
  where
    by : (b : Bool) → all_fit p.model.types (turns.values p.model) ≡ b → (if b then turns.Pass else turns.Fault OutOfRange) ≡ turns.Fault code → ModelFaults s p code
    by true f e = absurd cc
    by false f e = out_of_range q f (sym (fault_is OutOfRange code e))
state_faults s p Computing code q e = step_faults q (computing_fault s p p.busy_left code e)
state_faults s p Alive code q e = absurd cc
state_faults s p Configuration code q e = absurd cc
state_faults s p Preparing code q e = absurd cc
state_faults s p Prepared code q e = absurd cc
state_faults s p Configuring code q e = absurd cc
state_faults s p Configured code q e = absurd cc
state_faults s p Initialized code q e = absurd cc
state_faults s p SendingI code q e = absurd cc
state_faults s p Synchronizing code q e = absurd cc
state_faults s p Synchronized code q e = absurd cc
state_faults s p Running code q e = absurd cc
state_faults s p Computed code q e = absurd cc
state_faults s p SendingD code q e = absurd cc
state_faults s p Stopping code q e = absurd cc
state_faults s p Stopped code q e = absurd cc
state_faults s p ErrorHandling code q e = absurd cc
state_faults s p ErrorResolved code q e = absurd cc

-- a turn faults by a missed heartbeat, or by the model
pub act_faults : (s : SlaveSetup) (quiet : ℕ) (p : Plant) (code : FaultCode) → act s quiet p ≡ turns.Fault code → ((is_missed s.desc p.state quiet ≡ true) × (code ≡ HeartbeatMissed)) ⊎ ModelFaults s p code
unfolding act
act_faults s quiet p code e = by (is_missed s.desc p.state quiet) refl e
  where
    by : (b : Bool) → is_missed s.desc p.state quiet ≡ b → (if b then turns.Fault HeartbeatMissed else state_act s p p.state) ≡ turns.Fault code → ((is_missed s.desc p.state quiet ≡ true) × (code ≡ HeartbeatMissed)) ⊎ ModelFaults s p code
    by true m e = inl (m, sym (fault_is HeartbeatMissed code e))
    by false m e = inr (state_faults s p p.state code refl e)

pub of_model : (s : SlaveSetup) (p : Plant) (code : FaultCode) → ModelFaults s p code → IsOfModel code
of_model s p code (out_of_range q f e) = let P : FaultCode → Type 0 = IsOfModel in subst P (sym e) tt
of_model s p code (step_faults q e) = step_model p.model.kind p.model.parameters p.model.types p.model.state (wired_values s.desc p.wires) s.micro code e

missed_fault : (s : SlaveSetup) (quiet : ℕ) (p : Plant) → act s quiet p ≡ turns.Fault HeartbeatMissed → is_missed s.desc p.state quiet ≡ true
missed_fault s quiet p e = by (act_faults s quiet p HeartbeatMissed e)
  where
    by : ((is_missed s.desc p.state quiet ≡ true) × (HeartbeatMissed ≡ HeartbeatMissed)) ⊎ ModelFaults s p HeartbeatMissed → is_missed s.desc p.state quiet ≡ true
    by (inl m) = m.0
    by (inr f) = absurd (of_model s p HeartbeatMissed f)

-- ---- nothing else makes a fault
changed_fault : (s : SlaveSetup) (p : Plant) (request : Stc) (t : State) → (changed_to s p request t).fault ≡ p.fault
changed_fault s p (stc.Register a b c d) t = refl
changed_fault s p stc.Deregister t = refl
changed_fault s p stc.Prepare t = refl
changed_fault s p stc.Configure t = refl
changed_fault s p stc.Initialize t = refl
changed_fault s p (stc.Run x) t = refl
changed_fault s p (stc.DoStep n) t = refl
changed_fault s p stc.SendOutputs t = refl
changed_fault s p stc.Stop t = refl
changed_fault s p stc.Reset t = refl

set_fault : (s : SlaveSetup) (p : Plant) (body : Cfg) → (set_to s p body).fault ≡ p.fault
set_fault s p (cfg.Parameter vr kind value) = refl
set_fault s p (cfg.Logging category level mode) = refl
set_fault s p cfg.Clear = refl
set_fault s p (cfg.TimeRes x y) = refl
set_fault s p (cfg.Steps x y) = refl
set_fault s p (cfg.Input x y z v) = refl
set_fault s p (cfg.Output x y z) = refl
set_fault s p (cfg.Target x) = refl
set_fault s p (cfg.Source x) = refl
set_fault s p (cfg.Tunable x y z v) = refl
set_fault s p (cfg.ParamNet x y z v) = refl
set_fault s p (cfg.Scope x y) = refl

accepted_fault : (s : SlaveSetup) (p : Plant) (asked : Asked) → (accepted s p asked).fault ≡ p.fault
unfolding accepted
accepted_fault s p (Change named request) = changed_fault s p request (state_or p.state (next_on p.state request named p.outputs_sent))
accepted_fault s p (Setting body) = set_fault s p body
accepted_fault s p (Question inf.State) = refl
accepted_fault s p (Question inf.Error) = refl
accepted_fault s p (Question (inf.Log category most)) = refl

pub answered_fault : (s : SlaveSetup) (p : Plant) (asked : Asked) → (answers s asked p).after.fault ≡ p.fault
answered_fault s p asked = by (refusal s p asked)
  where
    by : (o : Option ErrorCode) → (answered_plant s p asked o).after.fault ≡ p.fault
    by (Some code) = refl
    by None = accepted_fault s p asked

pub brought_fault : (s : SlaveSetup) (from : Address) (number id : ℕ) (payload : List ℕ) (p : Plant) → (turns.brings s from number id payload p).fault ≡ p.fault
brought_fault s from number id payload p = by (is_listening p.state)
  where
    by : (b : Bool) → (if b then record p { wires = brought s.desc p.wires from number id payload p.steps } else p).fault ≡ p.fault
    by true = refl
    by false = refl

-- ---- the turns of a slave
abbrev one_if : Bool → ℕ
one_if b = if b then 1 else 0

counted_one : (a : Address) (e : LogEntry) (log : List LogEntry) → count_by (is_turn_of a) (e ∷ log) ≡ one_if (is_turn_of a e) + count_by (is_turn_of a) log
counted_one a e log = sum_by-cons (λ (z : LogEntry). if is_turn_of a z then 1 else 0) e log

sent_no_turn : (w : Parties) (n : ℕ) (from to : Address) (bytes : List ℕ) (k : Role) → sent_move w n from to bytes k ≡ Turns → ⊥
sent_no_turn w n from to bytes (Request receiver m) h = by (same from w.master && same to (w.slave n)) (same from (w.slave n)) h
  where
    by : (b c : Bool) → (if b then Asks m else (if c then Tells to bytes else Other)) ≡ Turns → ⊥
    by true c z = cc
    by false true z = cc
    by false false z = cc
sent_no_turn w n from to bytes (Answer sender m) h = no_tells (same from (w.slave n)) h
  where
    no_tells : (b : Bool) → (if b then Tells to bytes else Other) ≡ Turns → ⊥
    no_tells true z = cc
    no_tells false z = cc
sent_no_turn w n from to bytes (Value id m) h = no_tells (same from (w.slave n)) h
  where
    no_tells : (b : Bool) → (if b then Tells to bytes else Other) ≡ Turns → ⊥
    no_tells true z = cc
    no_tells false z = cc
sent_no_turn w n from to bytes Else h = no_tells (same from (w.slave n)) h
  where
    no_tells : (b : Bool) → (if b then Tells to bytes else Other) ≡ Turns → ⊥
    no_tells true z = cc
    no_tells false z = cc

got_no_turn : (w : Parties) (n : ℕ) (at from : Address) (k : Role) → got_move w n at from k ≡ Turns → ⊥
got_no_turn w n at from (Request receiver m) h = by (same at (w.slave n)) h
  where
    by : (b : Bool) → (if b then Comes from receiver m else Other) ≡ Turns → ⊥
    by true z = cc
    by false z = cc
got_no_turn w n at from (Answer sender m) h = by (same at (w.slave n)) ((same at w.master && same from (w.slave n)) && (sender == n)) h
  where
    by : (b c : Bool) → (if b then Rests else (if c then Hears m else Other)) ≡ Turns → ⊥
    by true c z = cc
    by false true z = cc
    by false false z = cc
got_no_turn w n at from (Value id m) h = by (same at (w.slave n)) h
  where
    by : (b : Bool) → (if b then Brings from id m else Other) ≡ Turns → ⊥
    by true z = cc
    by false z = cc
got_no_turn w n at from Else h = by (same at (w.slave n)) h
  where
    by : (b : Bool) → (if b then Rests else Other) ≡ Turns → ⊥
    by true z = cc
    by false z = cc

turns_here : (w : Parties) (n : ℕ) (e : LogEntry) → move w n e ≡ Turns → is_turn_of (w.slave n) e ≡ true
turns_here w n (Sent from to bytes) h = absurd (sent_no_turn w n from to bytes (role_heard w bytes) h)
turns_here w n (Got at from bytes) h = absurd (got_no_turn w n at from (role_heard w bytes) h)
turns_here w n (Idle at) h = by (same at (w.slave n)) h
  where
    by : (b : Bool) → (if b then Rests else Other) ≡ Turns → is_turn_of (w.slave n) (Idle at) ≡ true
    by true z = absurd cc
    by false z = absurd cc
turns_here w n (Turn at) h = by (same at (w.slave n)) refl h
  where
    by : (b : Bool) → same at (w.slave n) ≡ b → (if b then Turns else Other) ≡ Turns → is_turn_of (w.slave n) (Turn at) ≡ true
    by true e z = same_both at (w.slave n) true e
    by false e z = absurd cc

-- ---- over a log
module _ (s : SlaveSetup) (w : Parties) (n : ℕ) (rd : ReadsMessages w) where
  abbrev x : List LogEntry → Both Plant
  x log = at (machine s) w n log

  abbrev turns_in : List LogEntry → ℕ
  turns_in log = count_by (is_turn_of (w.slave n)) log

  -- once, when it had taken a request, it had so many turns in a row or more and took none meanwhile
  pub record WasLeftAlone (turns : ℕ) (log : List LogEntry) : Type 0 where
    pub later : List LogEntry
    pub middle : List LogEntry
    pub earlier : List LogEntry
    pub is : log ≡ later ++ (middle ++ earlier)
    pub enough : turns ≤ count_by (is_turn_of (w.slave n)) middle
    pub begun : served_at s w n earlier ≢ []
    pub none_taken : served_at s w n (middle ++ earlier) ≡ served_at s w n earlier

  -- the turns since the newest request that was taken are as many as the slave counts
  record IsCountedSince (log : List LogEntry) : Type 0 where
    pub middle : List LogEntry
    pub earlier : List LogEntry
    pub is : log ≡ middle ++ earlier
    pub enough : (x log).slave.quiet ≤ turns_in middle
    pub begun : served_at s w n earlier ≢ []
    pub none : served_at s w n log ≡ served_at s w n earlier

  abbrev Missed : List LogEntry → Type 0
  Missed log = (1 ≤ s.desc.heartbeat) × WasLeftAlone s.desc.heartbeat log

  record Counts (log : List LogEntry) : Type 0 where
    pub since : is_open (x log).slave.session ≡ true → IsCountedSince log
    pub missed : (x log).slave.inner.fault ≡ Some HeartbeatMissed → Missed log

  later_missed : (e : LogEntry) (log : List LogEntry) → Missed log → Missed (e ∷ log)
  later_missed e log m =
      let a = m.1 in
      (m.0, record { later = e ∷ a.later; middle = a.middle; earlier = a.earlier; is = ap (λ (l : List LogEntry). e ∷ l) a.is; enough = a.enough; begun = a.begun; none_taken = a.none_taken })

  -- nothing was taken at this entry
  later_since : (e : LogEntry) (log : List LogEntry) → (x (e ∷ log)).slave.quiet ≤ one_if (is_turn_of (w.slave n) e) + (x log).slave.quiet → served_at s w n (e ∷ log) ≡ served_at s w n log → IsCountedSince log → IsCountedSince (e ∷ log)
  later_since e log q v k =
      let m = k.enough in
      let c = counted_one (w.slave n) e k.middle in
      record { middle = e ∷ k.middle; earlier = k.earlier; is = ap (λ (l : List LogEntry). e ∷ l) k.is; enough = sums (one_if (is_turn_of (w.slave n) e)) (x (e ∷ log)).slave.quiet (x log).slave.quiet (turns_in k.middle) (turns_in (e ∷ k.middle)) q m c; begun = k.begun; none = v ∙ k.none }
    where
      sums : (one after before few many : ℕ) → after ≤ one + before → before ≤ few → many ≡ one + few → after ≤ many
      sums one after before few many h1 h2 h3 = omega (arith, h1, h2, h3)

  no_more : (one after before : ℕ) → after ≡ before → after ≤ one + before
  no_more one after before h = omega (arith, h)

  stays_so : (e : LogEntry) (log : List LogEntry) → (x (e ∷ log)).slave ≡ (x log).slave → served_at s w n (e ∷ log) ≡ served_at s w n log → Counts log → Counts (e ∷ log)
  stays_so e log h v k = record {
    since = λ o. later_since e log (no_more (one_if (is_turn_of (w.slave n) e)) (x (e ∷ log)).slave.quiet (x log).slave.quiet (ap (λ z. z.quiet) h)) v (k.since (sym (ap (λ z. is_open z.session) h) ∙ o));
    missed = λ f. later_missed e log (k.missed (sym (ap (λ z. z.inner.fault) h) ∙ f));
  }

  quieter_more : (q : ℕ) → transport.quieter q ≤ 1 + q
  quieter_more q = omega arith

  turned_more : (one after quiet before : ℕ) → quiet ≤ 1 + before → after ≡ quiet → one ≡ 1 → after ≤ one + before
  turned_more one after quiet before h1 h2 h3 = omega (arith, h1, h2, h3)

  some_served : (d : DecidedRequest) (ds es : List DecidedRequest) → es ≡ d ∷ ds → es ≢ []
  some_served d ds es e z = let y : [] ≡ d ∷ ds = sym z ∙ e in cc

  takes_it : (e : LogEntry) (log : List LogEntry) → Takes s (x log) (x (e ∷ log)) → Counts log → Counts (e ∷ log)
  takes_it e log t k = record {
    since = λ o. record { middle = []; earlier = e ∷ log; is = refl; enough = (let q : (x (e ∷ log)).slave.quiet ≡ 0 = ap (λ z. z.quiet) t.slave in omega (arith, q)); begun = some_served _ _ _ t.served; none = refl };
    missed = λ f. later_missed e log (k.missed (sym (answered_fault s (x log).slave.inner t.request.asked) ∙ sym (ap (λ z. z.inner.fault) t.slave) ∙ f));
  }

  brings_it : (e : LogEntry) (log : List LogEntry) → Takes_data s (x log) (x (e ∷ log)) → Counts log → Counts (e ∷ log)
  brings_it e log t k = record {
    since = λ o. later_since e log (no_more (one_if (is_turn_of (w.slave n) e)) (x (e ∷ log)).slave.quiet (x log).slave.quiet (ap (λ z. z.quiet) t.slave)) t.served (k.since t.opened);
    missed = λ f. later_missed e log (k.missed (sym (brought_fault s t.from t.number t.id t.payload (x log).slave.inner) ∙ sym (ap (λ z. z.inner.fault) t.slave) ∙ f));
  }

  turns_it : (e : LogEntry) (log : List LogEntry) → move w n e ≡ Turns → Turns_on s (x log) (x (e ∷ log)) → Counts log → Counts (e ∷ log)
  turns_it e log mv t k = record { since = λ o. since; missed = λ f. by (act s quiet p) refl (sym (ap (λ z. z.inner.fault) t.slave) ∙ f) }
    where
      quiet : ℕ
      quiet = transport.quieter (x log).slave.quiet

      p : Plant
      p = (x log).slave.inner

      one : one_if (is_turn_of (w.slave n) e) ≡ 1
      one = ap one_if (turns_here w n e mv)

      quiet_is : (x (e ∷ log)).slave.quiet ≡ quiet
      quiet_is = ap (λ z. z.quiet) t.slave

      since : IsCountedSince (e ∷ log)
      since = later_since e log (turned_more (one_if (is_turn_of (w.slave n) e)) (x (e ∷ log)).slave.quiet quiet (x log).slave.quiet (quieter_more (x log).slave.quiet) quiet_is one) t.served (k.since t.opened)

      -- by the heartbeat, now
      now : is_missed s.desc p.state quiet ≡ true → Missed (e ∷ log)
      now m =
          let parts = and_parts (nat_le 1 s.desc.heartbeat && nat_le s.desc.heartbeat quiet) (not (is_spared p.state)) m in
          let both = and_parts (nat_le 1 s.desc.heartbeat) (nat_le s.desc.heartbeat quiet) parts.0 in
          let least = leb-true 1 s.desc.heartbeat both.0 in
          let most = leb-true s.desc.heartbeat quiet both.1 in
          let c = since in
          let many = c.enough in
          let q = quiet_is in
          let P : List LogEntry → Type 0 = λ l. served_at s w n l ≡ served_at s w n c.earlier in
          (least, record { later = []; middle = c.middle; earlier = c.earlier; is = c.is; enough = omega (arith, most, many, q); begun = c.begun; none_taken = subst P c.is c.none })

      by : (a : Act) → act s quiet p ≡ a → (turned s p a).after.fault ≡ Some HeartbeatMissed → Missed (e ∷ log)
      by turns.Stay h f = later_missed e log (k.missed f)
      by (turns.Wait left) h f = later_missed e log (k.missed f)
      by (turns.Step state) h f = later_missed e log (k.missed f)
      by turns.Pass h f = later_missed e log (k.missed f)
      by (turns.Fault code) h f =
          let z : code ≡ HeartbeatMissed = cc in
          now (missed_fault s quiet p (h ∙ ap (λ (c : FaultCode). turns.Fault c) z))

  counts : (log : List LogEntry) → Counts log
  counts [] = record { since = λ o. absurd cc; missed = λ f. absurd cc }
  counts (e ∷ log) = by (goes s w n rd e log) (counts log)
    where
      by : Goes s (move w n e) (x log) (x (e ∷ log)) → Counts log → Counts (e ∷ log)
      by (stays h v) k = stays_so e log h v k
      by (takes t) k = takes_it e log t k
      by (brings t) k = brings_it e log t k
      by (turns_on mv t) k = turns_it e log mv t k

  -- the heartbeat that was missed
  pub left_alone : (log : List LogEntry) → (plant_at s w n log).fault ≡ Some HeartbeatMissed → (1 ≤ s.desc.heartbeat) × WasLeftAlone s.desc.heartbeat log
  left_alone log f = (counts log).missed f
