-- A request that is taken, and a turn, go on with the row events as the laws want it.
use Rattle.std.proofs.Common.{◌≡◌, ℕ, zero, suc, ◌+◌, ◌-◌, ◌^◌, ◌<◌, Bool, true, false, if◌then◌else◌, ◌⊎◌, inl, inr, Option, Some, None, List, length, refl, sym, ap, ◌∙◌, subst, arith, Ok, Err, Result}
use Rattle.std.specs.Prelude.{is_some}
use Rattle.dcp_types.specs.declared.states.State.{State}
use Rattle.dcp_types.specs.declared.states.State.TheVariants.{Alive, Configuration, Preparing, Prepared, Configuring, Configured, Initializing, Initialized, SendingI, Synchronizing, Synchronized, Running, Computing, Computed, SendingD, Stopping, Stopped, ErrorHandling, ErrorResolved}
use Rattle.dcp_types.specs.declared.error_codes.ErrorCode.{ErrorCode}
use Rattle.dcp_types.specs.Codes.{state_code}
use Rattle.dcp_types.specs.declared.error_codes.ErrorCode.TheVariants as error
use Rattle.dcp_types.specs.declared.fault_codes.FaultCode.{FaultCode}
use Rattle.dcp_types.specs.declared.fault_codes.FaultCode.TheVariants.{OutOfRange, HeartbeatMissed}
use Rattle.std.specs.Prelude.{ℤ}
use Rattle.std.proofs.lemmas.Bool.{cond-true, cond-false}
use Rattle.fixed_models.specs.Steps.{all_fit}
use Rattle.slave_spec.specs.Payloads.{wired_values}
use Rattle.fixed_models.specs.Views.{step_of}
use Rattle.pdu_layout.specs.declared.messages.Stc.{Stc}
use Rattle.pdu_layout.specs.declared.messages.Stc.TheVariants as stc
use Rattle.pdu_layout.specs.declared.messages.Cfg.{Cfg}
use Rattle.pdu_layout.specs.declared.messages.Cfg.TheVariants as cfg
use Rattle.pdu_layout.specs.declared.messages.Inf.TheVariants as inf
use Rattle.slave_states.specs.Transitions.{next_on, next_on_turn, transition_row, is_barred, is_same, or_wrong}
use Rattle.lockstep_laws.specs.Steps.{RowEvent, Show, Step, Restart, Accepted, AtRest, Otherwise, is_on_its_way, Told, Nothing, told_by, Idles, BenchStarts, TakesOn, HasTurn}
use Rattle.slave_spec.specs.declared.words.SlaveSetup.{SlaveSetup}
use Rattle.slave_spec.specs.declared.words.Asked.{Asked}
use Rattle.slave_spec.specs.declared.words.Asked.TheVariants.{Change, Setting, Question}
use Rattle.slave_spec.specs.Plants.{Plant}
use Rattle.slave_spec.specs.Sound.{IsSoundPlant}
use Rattle.slave_spec.specs.Requests.{moved_refusal, refusal, state_or, changed_to, set_to, accepted, answer, answered_plant, answers}
use Rattle.slave_spec.specs.Turns as turns
use Rattle.slave_spec.specs.Turns.{Act, act, state_act, computing, step_act, is_sending_state, is_missed, turned}
use Rattle.slave_laws.specs.Talk.Plants.{under_way, bench_of, event_wanted, reply_told, events_taken, events_turned, is_error_state}

-- ---- a turn
step_in : (s : SlaveSetup) (p : Plant) (state : State) (x : List ℤ) → state_act s p state ≡ turns.Step x → state ≡ Computing
step_in s p Initializing x h = absurd (by (all_fit p.model.types (turns.values p.model)) h)
  where
    by : (b : Bool) → (if b then turns.Pass else turns.Fault OutOfRange) ≡ turns.Step x → ⊥
    by true e = cc
    by false e = cc
step_in s p Computing x h = refl
step_in s p Alive x h = absurd cc
step_in s p Configuration x h = absurd cc
step_in s p Preparing x h = absurd cc
step_in s p Prepared x h = absurd cc
step_in s p Configuring x h = absurd cc
step_in s p Configured x h = absurd cc
step_in s p Initialized x h = absurd cc
step_in s p SendingI x h = absurd cc
step_in s p Synchronizing x h = absurd cc
step_in s p Synchronized x h = absurd cc
step_in s p Running x h = absurd cc
step_in s p Computed x h = absurd cc
step_in s p SendingD x h = absurd cc
step_in s p Stopping x h = absurd cc
step_in s p Stopped x h = absurd cc
step_in s p ErrorHandling x h = absurd cc
step_in s p ErrorResolved x h = absurd cc

no_pass : (r : Result (List ℤ) FaultCode) → step_act r ≡ turns.Pass → ⊥
no_pass (Ok y) e = cc
no_pass (Err c) e = cc

no_pass_computing : (s : SlaveSetup) (p : Plant) (left : ℕ) → computing s p left ≡ turns.Pass → ⊥
no_pass_computing s p zero e = no_pass (step_of p.model (wired_values s.desc p.wires) s.micro) e
no_pass_computing s p (suc left) e = cc

if_fault : (b : Bool) (c : FaultCode) (a d : Act) → (if b then turns.Fault c else a) ≡ d → (d ≡ turns.Fault c) ⊎ (a ≡ d)
if_fault true c a d h = inl (sym h)
if_fault false c a d h = inr h

-- only a computing slave steps, and it never passes on
pub act_step : (s : SlaveSetup) (quiet : ℕ) (p : Plant) (x : List ℤ) → act s quiet p ≡ turns.Step x → p.state ≡ Computing
unfolding act
act_step s quiet p x h = by (if_fault (is_missed s.desc p.state quiet) HeartbeatMissed (state_act s p p.state) (turns.Step x) h)
  where
    by : (turns.Step x ≡ turns.Fault HeartbeatMissed) ⊎ (state_act s p p.state ≡ turns.Step x) → p.state ≡ Computing
    by (inl e) = absurd cc
    by (inr e) = step_in s p p.state x e

act_pass : (s : SlaveSetup) (quiet : ℕ) (p : Plant) → act s quiet p ≡ turns.Pass → p.state ≡ Computing → ⊥
unfolding act
act_pass s quiet p h c = by (if_fault (is_missed s.desc p.state quiet) HeartbeatMissed (state_act s p p.state) turns.Pass h)
  where
    by : (turns.Pass ≡ turns.Fault HeartbeatMissed) ⊎ (state_act s p p.state ≡ turns.Pass) → ⊥
    by (inl e) = cc
    by (inr e) = no_pass_computing s p p.busy_left (ap (state_act s p) (sym c) ∙ e)

-- what passing on does to the event under way
pass_shows : (state : State) → (state ≡ Computing → ⊥) → ((is_sending_state state ≡ true) × (under_way state ≡ Some Show) × (under_way (next_on_turn state 0) ≡ None)) ⊎ ((is_sending_state state ≡ false) × (under_way (next_on_turn state 0) ≡ under_way state))
unfolding next_on_turn
pass_shows SendingI no' = inl (refl, refl, refl)
pass_shows SendingD no' = inl (refl, refl, refl)
pass_shows Computing no' = absurd (no' refl)
pass_shows Alive no' = inr (refl, refl)
pass_shows Configuration no' = inr (refl, refl)
pass_shows Preparing no' = inr (refl, refl)
pass_shows Prepared no' = inr (refl, refl)
pass_shows Configuring no' = inr (refl, refl)
pass_shows Configured no' = inr (refl, refl)
pass_shows Initializing no' = inr (refl, refl)
pass_shows Initialized no' = inr (refl, refl)
pass_shows Synchronizing no' = inr (refl, refl)
pass_shows Synchronized no' = inr (refl, refl)
pass_shows Running no' = inr (refl, refl)
pass_shows Computed no' = inr (refl, refl)
pass_shows Stopping no' = inr (refl, refl)
pass_shows Stopped no' = inr (refl, refl)
pass_shows ErrorHandling no' = inr (refl, refl)
pass_shows ErrorResolved no' = inr (refl, refl)

-- a step that is computed is counted
one_more_step : (steps : ℕ) → steps < 2 ^ 32 - 1 → turns.counted steps ≡ steps + 1
one_more_step steps lt = omega (arith, lt)

turned_goes : (s : SlaveSetup) (p : Plant) (n : ℕ) (a : Act) → (p.state ≡ Computing → p.steps < 2 ^ 32 - 1) → ((x : List ℤ) → a ≡ turns.Step x → p.state ≡ Computing) → (a ≡ turns.Pass → p.state ≡ Computing → ⊥) → HasTurn (bench_of n p) (bench_of (events_turned p.state a n) (turned s p a).after)
turned_goes s p n turns.Stay b f g = inl (record { events = refl; busy = refl; faulty = refl; resets = refl; steps = refl })
turned_goes s p n (turns.Wait left) b f g = inl (record { events = refl; busy = refl; faulty = refl; resets = refl; steps = refl })
turned_goes s p n (turns.Fault code) b f g = inr (inr (inr (record { events = refl; busy = refl; faulty = refl; resets = refl; steps = refl })))
turned_goes s p n (turns.Step x) b f g = inr (inr (inl (record { under_way = ap under_way (f x refl); events = refl; busy = refl; faulty = refl; resets = refl; steps = one_more_step p.steps (b (f x refl)) })))
turned_goes s p n turns.Pass b f g = by (pass_shows p.state (g refl))
  where
    by : ((is_sending_state p.state ≡ true) × (under_way p.state ≡ Some Show) × (under_way (next_on_turn p.state 0) ≡ None)) ⊎ ((is_sending_state p.state ≡ false) × (under_way (next_on_turn p.state 0) ≡ under_way p.state)) → HasTurn (bench_of n p) (bench_of (events_turned p.state turns.Pass n) (turned s p turns.Pass).after)
    by (inl h) = inr (inl (record { under_way = h.1; events = cond-true (is_sending_state p.state) (n + 1) n h.0; busy = h.2; faulty = refl; resets = refl; steps = refl }))
    by (inr h) = inl (record { events = cond-false (is_sending_state p.state) (n + 1) n h.0; busy = h.1; faulty = refl; resets = refl; steps = refl })

-- a turn goes on with the row events
pub turn_goes : (s : SlaveSetup) (quiet : ℕ) (p : Plant) (n : ℕ) → IsSoundPlant p → HasTurn (bench_of n p) (bench_of (events_turned p.state (act s quiet p) n) (turns.turns s quiet p).after)
turn_goes s quiet p n ok = turned_goes s p n (act s quiet p) (λ e. ok.below (ap (λ z. is_same z Computing) e)) (act_step s quiet p) (act_pass s quiet p)

-- ---- a request
abbrev pub Sound : Plant → Type 0
Sound p = (is_some p.fault ≡ false) ⊎ (is_error_state p.state ≡ true)

not_faulty : (p : Plant) → Sound p → is_error_state p.state ≡ false → is_some p.fault ≡ false
not_faulty p (inl h) e = h
not_faulty p (inr h) e = absurd (clash (sym h ∙ e))
  where
    clash : true ≡ false → ⊥
    clash z = cc

at_rest : (state : State) → is_on_its_way (state_code state) ≡ false → (under_way state ≡ None) × (is_error_state state ≡ false)
at_rest SendingI h = absurd cc
at_rest SendingD h = absurd cc
at_rest Computing h = absurd cc
at_rest ErrorHandling h = absurd cc
at_rest ErrorResolved h = absurd cc
at_rest Alive h = (refl, refl)
at_rest Configuration h = (refl, refl)
at_rest Preparing h = (refl, refl)
at_rest Prepared h = (refl, refl)
at_rest Configuring h = (refl, refl)
at_rest Configured h = (refl, refl)
at_rest Initializing h = (refl, refl)
at_rest Initialized h = (refl, refl)
at_rest Synchronizing h = (refl, refl)
at_rest Synchronized h = (refl, refl)
at_rest Running h = (refl, refl)
at_rest Computed h = (refl, refl)
at_rest Stopping h = (refl, refl)
at_rest Stopped h = (refl, refl)

-- the states before and after a change
pub row_of_next : (state next : State) (request : Stc) (named : State) (sent' : Bool) → next_on state request named sent' ≡ Ok next → transition_row request state sent' ≡ Some next
unfolding next_on
row_of_next state next request named sent' h = by (is_barred state request) (is_same named state) (transition_row request state sent') h
  where
    by : (b c : Bool) (o : Option State) → (if b then Err error.InErrorState else (if c then or_wrong o else Err error.WrongState)) ≡ Ok next → o ≡ Some next
    by true c o e = absurd cc
    by false true None e = absurd cc
    by false true (Some z) e = let q : z ≡ next = cc in ap (λ (y : State). Some y) q
    by false false o e = absurd cc

shows_from : (state next : State) → transition_row stc.SendOutputs state false ≡ Some next → (under_way state ≡ None) × (is_error_state state ≡ false) × (under_way next ≡ Some Show)
shows_from state next h = grind arith

steps_from : (state next : State) (k : ℕ) → transition_row (stc.DoStep k) state false ≡ Some next → (under_way state ≡ None) × (is_error_state state ≡ false) × (under_way next ≡ Some Step)
steps_from state next k h = grind arith

restarts_from : (state next : State) → transition_row stc.Reset state false ≡ Some next → (under_way state ≡ None) × (is_error_state state ≡ false) × (under_way next ≡ None)
restarts_from state next h = grind arith

idles_from : (request : Stc) (named : State) (state next : State) (sent' : Bool) → event_wanted (Change named request) ≡ None → transition_row request state sent' ≡ Some next → under_way next ≡ under_way state
idles_from request named state next sent' q h = grind arith

-- ---- what an answered request makes of the row events
same_bench : (n : ℕ) (p q : Plant) → under_way q.state ≡ under_way p.state → is_some q.fault ≡ is_some p.fault → length q.earlier ≡ length p.earlier → q.steps ≡ p.steps → Idles (bench_of n p) (bench_of n q)
same_bench n p q a b c d = record { events = refl; busy = a; faulty = b; resets = c; steps = d }

-- a refusal tells nothing
refused_tells : (q : Option RowEvent) → told_by q Otherwise ≡ Nothing
refused_tells None = refl
refused_tells (Some Show) = refl
refused_tells (Some Step) = refl
refused_tells (Some Restart) = refl

refused_events : (q : Option RowEvent) (c : ErrorCode) (n : ℕ) → events_taken q (Some c) n ≡ n
refused_events None c n = refl
refused_events (Some Show) c n = refl
refused_events (Some Step) c n = refl
refused_events (Some Restart) c n = refl

-- TakesOn, by what is told and how many events there are afterwards
abbrev Answers : ℕ → Plant → Told → ℕ → Plant → Type 0
Answers n p t k q = TakesOn t (bench_of n p) (bench_of k q)

with_told : (n k : ℕ) (p q : Plant) (t t' : Told) → t ≡ t' → Answers n p t' k q → Answers n p t k q
with_told n k p q t t' e h = let P : Told → Type 0 = λ z. Answers n p z k q in subst P (sym e) h

with_events : (n k k' : ℕ) (p q : Plant) (t : Told) → k ≡ k' → Answers n p t k' q → Answers n p t k q
with_events n k k' p q t e h = let P : ℕ → Type 0 = λ z. Answers n p t z q in subst P (sym e) h

refused_goes : (s : SlaveSetup) (p : Plant) (asked : Asked) (n : ℕ) (code : ErrorCode) → Answers n p (told_by (event_wanted asked) (reply_told (answered_plant s p asked (Some code)).answer)) (events_taken (event_wanted asked) (Some code) n) (answered_plant s p asked (Some code)).after
refused_goes s p asked n code =
    let q = (answered_plant s p asked (Some code)).after in
    with_told n (events_taken (event_wanted asked) (Some code) n) p q (told_by (event_wanted asked) Otherwise) Nothing (refused_tells (event_wanted asked))
    (with_events n (events_taken (event_wanted asked) (Some code) n) n p q Nothing (refused_events (event_wanted asked) code n) (same_bench n p q refl refl refl refl))

-- a setting and a question
set_idles : (s : SlaveSetup) (p : Plant) (body : Cfg) (n : ℕ) → Idles (bench_of n p) (bench_of n (set_to s p body))
set_idles s p (cfg.Parameter vr kind value) n = same_bench n p (set_to s p (cfg.Parameter vr kind value)) refl refl refl refl
set_idles s p (cfg.Logging category level mode) n = same_bench n p (set_to s p (cfg.Logging category level mode)) refl refl refl refl
set_idles s p cfg.Clear n = same_bench n p (set_to s p cfg.Clear) refl refl refl refl
set_idles s p (cfg.TimeRes a b) n = same_bench n p (set_to s p (cfg.TimeRes a b)) refl refl refl refl
set_idles s p (cfg.Steps a b) n = same_bench n p (set_to s p (cfg.Steps a b)) refl refl refl refl
set_idles s p (cfg.Input a b c d) n = same_bench n p (set_to s p (cfg.Input a b c d)) refl refl refl refl
set_idles s p (cfg.Output a b c) n = same_bench n p (set_to s p (cfg.Output a b c)) refl refl refl refl
set_idles s p (cfg.Target a) n = same_bench n p (set_to s p (cfg.Target a)) refl refl refl refl
set_idles s p (cfg.Source a) n = same_bench n p (set_to s p (cfg.Source a)) refl refl refl refl
set_idles s p (cfg.Tunable a b c d) n = same_bench n p (set_to s p (cfg.Tunable a b c d)) refl refl refl refl
set_idles s p (cfg.ParamNet a b c d) n = same_bench n p (set_to s p (cfg.ParamNet a b c d)) refl refl refl refl
set_idles s p (cfg.Scope a b) n = same_bench n p (set_to s p (cfg.Scope a b)) refl refl refl refl

rest_goes : (p q : Plant) (n : ℕ) → Sound p → q.state ≡ p.state → is_some q.fault ≡ is_some p.fault → length q.earlier ≡ length p.earlier → q.steps ≡ p.steps → (b : Bool) → is_on_its_way (state_code p.state) ≡ b → Answers n p (told_by None (if b then Otherwise else AtRest)) n q
rest_goes p q n sound a e f g true h = same_bench n p q (ap under_way a) e f g
rest_goes p q n sound a e f g false h = let r = at_rest p.state h in record { free = r.0; sound = not_faulty p sound r.1; idles = same_bench n p q (ap under_way a) e f g }

-- a change of state
pub no_refusal : (p : Plant) (request : Stc) (r : Result State ErrorCode) → moved_refusal p request r ≡ None → (next : State) × (r ≡ Ok next)
no_refusal p request (Ok next) h = (next, refl)
no_refusal p request (Err code) h = absurd cc

pub state_is : (before next : State) (r : Result State ErrorCode) → r ≡ Ok next → state_or before r ≡ next
state_is before next r e = ap (state_or before) e

starts : (k : RowEvent) (p q : Plant) (n : ℕ) (next : State) → Sound p → under_way p.state ≡ None → is_error_state p.state ≡ false → under_way next ≡ Some k → q.state ≡ next → is_some q.fault ≡ is_some p.fault → length q.earlier ≡ length p.earlier → q.steps ≡ p.steps → BenchStarts k (bench_of n p) (bench_of n q)
starts k p q n next sound free fine busy a e f g = record { free = free; sound = not_faulty p sound fine; events = refl; busy = ap under_way a ∙ busy; faulty = e ∙ not_faulty p sound fine; resets = f; steps = g }

-- what a change leaves, the log apart
change_goes : (s : SlaveSetup) (p : Plant) (named : State) (request : Stc) (n : ℕ) (next : State) (q : Plant) → Sound p → transition_row request p.state p.outputs_sent ≡ Some next
    → let c = changed_to s p request next in q.state ≡ c.state → q.fault ≡ c.fault → q.earlier ≡ c.earlier → q.steps ≡ c.steps
    → Answers n p (told_by (event_wanted (Change named request)) Accepted) (events_taken (event_wanted (Change named request)) None n) q
change_goes s p named stc.SendOutputs n next q sound r a b c d =
    let h = shows_from p.state next r in
    starts Show p q n next sound h.0 h.1 h.2 a (ap is_some b) (ap length c) d
change_goes s p named (stc.DoStep k) n next q sound r a b c d =
    let h = steps_from p.state next k r in
    starts Step p q n next sound h.0 h.1 h.2 a (ap is_some b) (ap length c) d
change_goes s p named stc.Reset n next q sound r a b c d =
    let h = restarts_from p.state next r in
    record { free = h.0; sound = not_faulty p sound h.1; events = refl; busy = ap under_way a ∙ h.2; faulty = ap is_some b ∙ not_faulty p sound h.1; resets = ap length c ∙ omega arith; steps = d }
change_goes s p named (stc.Register uuid op_mode major minor) n next q sound r a b c d = same_bench n p q (ap under_way a ∙ idles_from (stc.Register uuid op_mode major minor) named p.state next p.outputs_sent refl r) (ap is_some b) (ap length c) d
change_goes s p named stc.Deregister n next q sound r a b c d = same_bench n p q (ap under_way a ∙ idles_from stc.Deregister named p.state next p.outputs_sent refl r) (ap is_some b) (ap length c) d
change_goes s p named stc.Prepare n next q sound r a b c d = same_bench n p q (ap under_way a ∙ idles_from stc.Prepare named p.state next p.outputs_sent refl r) (ap is_some b) (ap length c) d
change_goes s p named stc.Configure n next q sound r a b c d = same_bench n p q (ap under_way a ∙ idles_from stc.Configure named p.state next p.outputs_sent refl r) (ap is_some b) (ap length c) d
change_goes s p named stc.Initialize n next q sound r a b c d = same_bench n p q (ap under_way a ∙ idles_from stc.Initialize named p.state next p.outputs_sent refl r) (ap is_some b) (ap length c) d
change_goes s p named (stc.Run start_time) n next q sound r a b c d = same_bench n p q (ap under_way a ∙ idles_from (stc.Run start_time) named p.state next p.outputs_sent refl r) (ap is_some b) (ap length c) d
change_goes s p named stc.Stop n next q sound r a b c d = same_bench n p q (ap under_way a ∙ idles_from stc.Stop named p.state next p.outputs_sent refl r) (ap is_some b) (ap length c) d

accepted_goes : (s : SlaveSetup) (p : Plant) (asked : Asked) (n : ℕ) → Sound p → refusal s p asked ≡ None → Answers n p (told_by (event_wanted asked) (reply_told (answer p asked))) (events_taken (event_wanted asked) None n) (answered_plant s p asked None).after
unfolding refusal accepted answer
accepted_goes s p (Question inf.State) n sound h = rest_goes p (answered_plant s p (Question inf.State) None).after n sound refl refl refl refl (is_on_its_way (state_code p.state)) refl
accepted_goes s p (Question inf.Error) n sound h = same_bench n p (answered_plant s p (Question inf.Error) None).after refl refl refl refl
accepted_goes s p (Question (inf.Log category most)) n sound h = same_bench n p (answered_plant s p (Question (inf.Log category most)) None).after refl refl refl refl
accepted_goes s p (Setting body) n sound h = let i = set_idles s p body n in record { events = i.events; busy = i.busy; faulty = i.faulty; resets = i.resets; steps = i.steps }
accepted_goes s p (Change named request) n sound h =
    let o = no_refusal p request (next_on p.state request named p.outputs_sent) h in
    let r = row_of_next p.state o.0 request named p.outputs_sent o.1 in
    let same = ap (changed_to s p request) (state_is p.state o.0 (next_on p.state request named p.outputs_sent) o.1) in
    change_goes s p named request n o.0 (answered_plant s p (Change named request) None).after sound r (ap (λ z. z.state) same) (ap (λ z. z.fault) same) (ap (λ z. z.earlier) same) (ap (λ z. z.steps) same)

-- a request that is taken goes on with the row events
pub answer_goes : (s : SlaveSetup) (p : Plant) (asked : Asked) (n : ℕ) → Sound p → Answers n p (told_by (event_wanted asked) (reply_told (answers s asked p).answer)) (events_taken (event_wanted asked) (refusal s p asked) n) (answers s asked p).after
answer_goes s p asked n sound = by (refusal s p asked) refl
  where
    by : (o : Option ErrorCode) → refusal s p asked ≡ o → Answers n p (told_by (event_wanted asked) (reply_told (answered_plant s p asked o).answer)) (events_taken (event_wanted asked) o n) (answered_plant s p asked o).after
    by (Some code) e = refused_goes s p asked n code
    by None e = accepted_goes s p asked n sound e
