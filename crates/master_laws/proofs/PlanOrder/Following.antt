-- In the log of a scenario's master: each new request follows the plan, and a row event finds every slave opened for its run.
use Rattle.std.proofs.Common.{◌≡◌, ℕ, ◌+◌, ◌-◌, ◌<◌, Bool, true, false, ◌⊎◌, inl, inr, Option, Some, None, List, [], ◌∷◌, reverse, refl, sym, ap, ◌∙◌, subst, arith}
use Rattle.std.specs.Prelude.{if◌then◌else◌, ◌&&◌, not, slice_get}
use Rattle.dcp_types.specs.declared.limits.Limits.{Limits}
use Rattle.dcp_types.specs.declared.states.State.{State}
use Rattle.dcp_ends.specs.declared.entries.LogEntry.{LogEntry}
use Rattle.pdu_layout.specs.declared.messages.Cfg.{Cfg}
use Rattle.pdu_layout.specs.declared.messages.Cfg.TheVariants as cfg
use Rattle.pdu_layout.specs.declared.messages.Stc.TheVariants as stc
use Rattle.scenario.specs.declared.scenarios.Scenario.{Scenario}
use Rattle.slave_desc.specs.declared.descriptions.SlaveDesc.{SlaveDesc}
use Rattle.log_spec.specs.Messages.{Note, is_request_code}
use Rattle.log_spec.specs.Channel.{Repeats}
use Rattle.log_spec.specs.Log.{Parties, IsSlaveOf, requests_sent}
use Rattle.log_spec.specs.Log as logs
use Rattle.log_spec.specs.Moves.{Move, Asks, move, decided_exchanges}
use Rattle.lockstep_laws.specs.Steps.{RowEvent, Show, Step, Restart, row_event_at, event_asked, run_after, BenchProgress, events_counted, view}
use Rattle.plan_laws.specs.Runs.{lists_until}
use Rattle.plan_laws.specs.Course.Taken.{asked_in, settings_taken, resets_taken, told_since, same_settings}
use Rattle.plan_laws.specs.Course.Courses.{tuned, opened, same_event, may_begin, may_set, may}
use Rattle.plan_laws.specs.Course.Orders.{may_ask}
use Rattle.master_spec.specs.declared.requests.Request.{Request}
use Rattle.master_spec.specs.declared.requests.Request.TheVariants.{Change, Configure, AskState, AskError}
use Rattle.master_spec.specs.declared.reactions.Reaction.TheVariants.{Wait, Ask}
use Rattle.master_spec.specs.declared.setups.Setup.{Setup}
use Rattle.master_spec.specs.declared.tasks.Task.{Task}
use Rattle.master_spec.specs.declared.tasks.Task.TheVariants as tasks
use Rattle.master_spec.specs.Jobs.{Job}
use Rattle.master_spec.specs.Setup.{jobs_of, script_of, slave_of, setup_from}
use Rattle.master_spec.specs.Marks as marks
use Rattle.master_spec.specs.Marks.{Mark, Begun, count, is_begun, cause_of, job_of}
use Rattle.master_spec.specs.Requests.{Asking, asks}
use Rattle.master_log_laws.specs.Asking.Legal.{Does, GoesByRule}
use Rattle.master_log_laws.proofs.Asking.Legal.{going}
use Rattle.master_log_laws.specs.Index.Index.{Placed, marks_of, code_of, first_at, ReadBack, IsAsked, IsAgain, Owes}
use Rattle.master_log_laws.specs.Index.Runs.{events_of_master, course_at, owed, IsRun}
use Rattle.master_log_laws.specs.Index.Laws.{AreHeard}
use Rattle.master_log_laws.specs.Index.Follows.{mine, talk_with}
use Rattle.master_log_laws.proofs.Index.Laws.{listens}
use Rattle.master_log_laws.proofs.Index.Runs.{followed, owes_count, with_at}
use Rattle.master_log_laws.proofs.Phases.Now.{now}
use Rattle.master_log_laws.proofs.Phases.Numbered.{legal_below}
use Rattle.master_log_laws.proofs.Phases.Tags.{no_reaction, counted}
use Rattle.master_laws.specs.Meets.Laws.{IsParty, ArePartiesOf, IsNextRequest, MayAsk}
use Rattle.master_laws.proofs.Meets.Asking.{in_turn}
use Rattle.master_laws.proofs.Hears.Decided.{decisions}
use Rattle.master_laws.specs.Rows.Laws.{event_for}
use Rattle.master_laws.proofs.Rows.Views.{progress_told}
use Rattle.master_laws.proofs.Rest.Events.{rows_rest}
use Rattle.master_laws.specs.PlanOrder.Laws.{RequestsFollowThePlan, SlavesAreOpened}
use Rattle.master_laws.proofs.PlanOrder.Hearing.{asked_for, asked_is}
use Rattle.master_laws.proofs.PlanOrder.Taken.{ready_by, events_by, events_are, AreTaken, taken}
use Rattle.master_laws.proofs.PlanOrder.Standing.{Standing, at_first, standing, set_until, IsReady, kind_of, alike_at, same_clock}
use Rattle.master_laws.proofs.PlanOrder.Planned.{jobs_alike}
use Rattle.master_laws.proofs.PlanOrder.Requests.{resets_slave}
use Rattle.master_laws.proofs.PlanOrder.Effects.{Undone}
use Rattle.master_laws.proofs.PlanOrder.Begun.{IsStill, still_acked, all_still}
use Rattle.master_laws.proofs.PlanOrder.Lists.{all_same, lists_are}
use Rattle.master_laws.proofs.PlanOrder.Asking.{in_phase, IsAsking, is_asking, IsRow, row_asked, row_alike, reset_begun, HasTaken, row_ready, row_taken, row_events, set_unready, IsPrepared, prepared}
use Rattle.master_laws.proofs.PlanOrder.First.{AsksFirst, IsFirstOf, asks_first}

both : (a b : Bool) → a ≡ true → b ≡ true → (a && b) ≡ true
both true true h k = refl
both true false h k = k
both false b h k = h

-- ---- the tables
request_code : (r : Request) → is_request_code (code_of r) ≡ true
request_code (Change state (stc.Register uuid op_mode major minor)) = refl
request_code (Change state stc.Deregister) = refl
request_code (Change state stc.Prepare) = refl
request_code (Change state stc.Configure) = refl
request_code (Change state stc.Initialize) = refl
request_code (Change state (stc.Run start_time)) = refl
request_code (Change state (stc.DoStep steps)) = refl
request_code (Change state stc.SendOutputs) = refl
request_code (Change state stc.Stop) = refl
request_code (Change state stc.Reset) = refl
request_code (Configure (cfg.TimeRes numerator denominator)) = refl
request_code (Configure (cfg.Steps data_id steps)) = refl
request_code (Configure (cfg.Input data_id position vr source_type)) = refl
request_code (Configure (cfg.Output data_id position vr)) = refl
request_code (Configure cfg.Clear) = refl
request_code (Configure (cfg.Target net)) = refl
request_code (Configure (cfg.Source net)) = refl
request_code (Configure (cfg.Parameter vr kind value)) = refl
request_code (Configure (cfg.Tunable param_id position vr kind)) = refl
request_code (Configure (cfg.ParamNet param_id protocol port ip)) = refl
request_code (Configure (cfg.Logging category level mode)) = refl
request_code (Configure (cfg.Scope data_id scope)) = refl
request_code AskState = refl
request_code AskError = refl

event_self : (k l : RowEvent) → k ≡ l → same_event l k ≡ true
event_self k l e = let P : RowEvent → Type 0 = λ x. same_event x k ≡ true in subst P e (one k)
  where
    one : (k : RowEvent) → same_event k k ≡ true
    one Show = refl
    one Step = refl
    one Restart = refl

reset_kind : (t : Task) → resets_slave t ≡ resets_slave (kind_of t)
reset_kind (tasks.Register uuid) = refl
reset_kind tasks.Setup = refl
reset_kind tasks.Prepare = refl
reset_kind tasks.Configure = refl
reset_kind tasks.Initialize = refl
reset_kind (tasks.FirstOutputs row) = refl
reset_kind tasks.Run = refl
reset_kind (tasks.Step n) = refl
reset_kind (tasks.Outputs n row) = refl
reset_kind tasks.Stop = refl
reset_kind tasks.Reset = refl
reset_kind tasks.Adjust = refl
reset_kind tasks.Deregister = refl

-- what is asked but not yet sent is no answer
still_owes : (good : Request → Type 0) (id : ℕ) (posts : List (List ℕ)) (ms older : List Mark) → Owes good id posts ms older → IsStill ms → IsStill older
still_owes good id [] ms older o k = let P : List Mark → Type 0 = IsStill in subst P o k
still_owes good id (b ∷ c ∷ more) ms older o k = absurd o
still_owes good id (b ∷ []) ms older o k = by o.0 ((o.1).1).1
  where
    by : (r : Request) → IsAsked id b ms older r ⊎ IsAgain id b ms older r → IsStill older
    by r (inl e) = let P : List Mark → Type 0 = IsStill in subst P e.0 k
    by r (inr e) = let P : List Mark → Type 0 = IsStill in subst P e.0 k

-- where something is asked there is a job
asks_job : (limits : Limits) (ms : List Mark) (r : Request) → Does limits ms (Ask r) → (job : Job) × (job_of ms ≡ Some job)
asks_job limits [] r d = absurd d
asks_job limits (m ∷ ms) r d = by (job_of (m ∷ ms)) refl
  where
    clash : Wait ≡ Ask r → ⊥
    clash z = cc

    by : (o : Option Job) → job_of (m ∷ ms) ≡ o → (job : Job) × (job_of (m ∷ ms) ≡ Some job)
    by None e = absurd (clash (sym (no_reaction limits m ms e) ∙ d))
    by (Some job) e = (job, e)

-- ---- what was taken as the tests see it
module _ (sc : Scenario) (s : ℕ) (d : SlaveDesc) where
  taken_tuned : (ds : List logs.DecidedRequest) (run r : ℕ) → run ≡ r + 1 → r < sc.runs → settings_taken ds ≡ reverse (set_until (script_of sc s d) r) → tuned sc s d run ds ≡ true
  taken_tuned ds run r e less h =
      let same : r ≡ run - 1 = omega (arith, e) in
      let here : settings_taken ds ≡ reverse (lists_until sc s d (run - 1)) = h ∙ ap reverse (lists_are sc s d r less) ∙ ap (λ (n : ℕ). reverse (lists_until sc s d n)) same in
      ap (λ (l : List Cfg). same_settings l (reverse (lists_until sc s d (run - 1)))) here ∙ all_same (reverse (lists_until sc s d (run - 1)))

  taken_opened : (bs : List Asking) (ds : List logs.DecidedRequest) (run r : ℕ) → AreTaken s bs ds → HasTaken (script_of sc s d) s bs r → run ≡ r + 1 → r < sc.runs → opened sc s d run ds ≡ true
  taken_opened bs ds run r a k e less = both (tuned sc s d run ds) (told_since ds) (taken_tuned ds run r e less (a.settings ∙ k.settings)) (a.ready ∙ k.ready)

  -- what is asked besides row events
  may_be_set : (bs : List Asking) (ds : List logs.DecidedRequest) (r : Request) → AreTaken s bs ds → ((state : State) → r ≡ Change state stc.Prepare → IsPrepared sc.runs (script_of sc s d) s bs) → ((body : Cfg) → r ≡ Configure body → ready_by s bs ≡ false)
      → may_set sc s d ds (Some (asked_for r)) ≡ true
  may_be_set bs ds (Change state stc.Prepare) a f g =
      let k = f state refl in
      let within = k.within in
      let resets = a.resets in
      taken_tuned ds (resets_taken ds + 1) (resets_taken ds) refl (omega (arith, within, resets)) (a.settings ∙ k.settings ∙ ap (λ (n : ℕ). reverse (set_until (script_of sc s d) n)) (sym resets))
  may_be_set bs ds (Change state (stc.Register uuid op_mode major minor)) a f g = refl
  may_be_set bs ds (Change state stc.Deregister) a f g = refl
  may_be_set bs ds (Change state stc.Configure) a f g = refl
  may_be_set bs ds (Change state stc.Initialize) a f g = refl
  may_be_set bs ds (Change state (stc.Run start_time)) a f g = refl
  may_be_set bs ds (Change state (stc.DoStep steps)) a f g = refl
  may_be_set bs ds (Change state stc.SendOutputs) a f g = refl
  may_be_set bs ds (Change state stc.Stop) a f g = refl
  may_be_set bs ds (Change state stc.Reset) a f g = refl
  may_be_set bs ds (Configure body) a f g = ap not (a.ready ∙ g body refl)
  may_be_set bs ds AskState a f g = refl
  may_be_set bs ds AskError a f g = refl

-- ---- in the log
module _ (sc : Scenario) (h : AreHeard (setup_from sc)) (w : Parties) (ps : ArePartiesOf (setup_from sc) w) where
  abbrev setup : Setup
  setup = setup_from sc

  abbrev js : (t : ℕ) → SlaveDesc → List Job
  js t c = jobs_of setup (slave_of sc t c)

  -- the slave t is a party, described by c
  abbrev Is : ℕ → SlaveDesc → Type 0
  Is t c = IsParty setup w t (slave_of sc t c)

  told_taken : (log : List LogEntry) → IsRun setup log → (t : ℕ) → IsSlaveOf w t → (c : SlaveDesc) → Is t c → AreTaken t (asks setup.address (slave_of sc t c) log) (decided_exchanges w t log)
  told_taken log run t is c p = taken t (asks setup.address (slave_of sc t c) log) (decided_exchanges w t log) (decisions setup h w ps t is (slave_of sc t c) p log run)

  module _ (log : List LogEntry) (run : IsRun setup log) (s : ℕ) (is : IsSlaveOf w s) (d : SlaveDesc) (p : Is s d) (r : Request) (a : AsksFirst setup h w ps s is (slave_of sc s d) p log r) where
    goes : GoesByRule setup.limits (js s d) (course_at setup log).phase (marks.Asked r ∷ marks_of a.xs)
    goes = with_at (λ u m. GoesByRule setup.limits (jobs_of setup u) (course_at setup log).phase m) (course_at setup log).talks (p.is_in).0 (talk_with (slave_of sc s d) (marks.Asked r ∷ marks_of a.xs)) (going setup h.runs (events_of_master setup log)).goes a.here

    record Phase : Type 0 where
      pub place : ℕ
      pub begun : count is_begun (marks_of a.xs) ≡ place + 1
      pub now : IsAsking (js s d) place a.xs s r

    phase : Phase
    phase =
        let j = asks_job setup.limits (marks_of a.xs) r goes.legal.0 in
        let k = counted (marks_of a.xs) j.0 j.1 in
        record { place = k.0; begun = k.1; now = is_asking setup.limits (js s d) s a.xs r goes.legal a.cause k.0 k.1 }

    may_be : may_set sc s d (decided_exchanges w s log) (Some (asked_for r)) ≡ true
    may_be =
        let P : List Asking → Type 0 = λ bs. IsPrepared sc.runs (script_of sc s d) s bs in
        let Q : Request → Type 0 = λ q. IsAsking (js s d) phase.place a.xs s q in
        may_be_set sc s d (asks setup.address (slave_of sc s d) log) (decided_exchanges w s log) r (told_taken log run s is d p)
        (λ state e. subst P (sym a.told_is) (prepared sc.steps sc.runs h.runs (script_of sc s d) phase.place a.xs s state (subst Q e phase.now)))
        (λ body e. (ap (ready_by s) a.told_is ∙ set_unready sc.steps sc.runs h.runs (script_of sc s d) phase.place a.xs s body (subst Q e phase.now)))

    -- ---- a row event
    module _ (k : RowEvent) (v : event_for (code_of r) ≡ Some k) (rest : (view (decided_exchanges w s log)).waiting ≡ false) where
      abbrev stands : Standing
      stands = standing (js s d) phase.place at_first

      row : IsRow phase.now.phase.job k
      row = row_asked phase.now.phase.job r k phase.now.kind v

      ready : IsReady sc.steps sc.runs (script_of sc s d) k stands
      ready = row_ready sc.steps sc.runs h.runs (script_of sc s d) phase.place a.xs s k phase.now.phase row

      events_done : (view (decided_exchanges w s log)).done ≡ stands.events
      events_done =
          by (view (decided_exchanges w s log)) rest
          ∙ ap events_counted (progress_told setup h w ps log run s is (slave_of sc s d) p)
          ∙ events_are (asks setup.address (slave_of sc s d) log)
          ∙ ap events_by a.told_is
          ∙ row_events sc.steps sc.runs h.runs (script_of sc s d) phase.place a.xs s k r phase.now v
        where
          by : (x : BenchProgress) → x.waiting ≡ false → x.done ≡ events_counted x
          by x e = let P : Bool → Type 0 = λ b. x.done ≡ (if b then x.done + 1 else x.done) in subst P (sym e) refl

      run_is : run_after sc.steps (view (decided_exchanges w s log)).done ≡ stands.resets + 1
      run_is = ap (run_after sc.steps) events_done ∙ ready.run

      event_is : row_event_at sc.steps (view (decided_exchanges w s log)).done ≡ k
      event_is = ap (row_event_at sc.steps) events_done ∙ ready.event

      -- any slave
      module _ (t : ℕ) (it : IsSlaveOf w t) (c : SlaveDesc) (q : Is t c) where
        other_opened : opened sc t c (run_after sc.steps (view (decided_exchanges w s log)).done) (decided_exchanges w t log) ≡ true
        other_opened =
            let f = followed setup (ReadBack t) (q.is_in).0 (slave_of sc t c) (listens setup h (q.is_in).0 (slave_of sc t c) (q.is_in).1) h.runs log run a.report in
            let g = with_at (λ u m. GoesByRule setup.limits (jobs_of setup u) (course_at setup log).phase m) (course_at setup log).talks (q.is_in).0 (talk_with (slave_of sc t c) f.marks) (going setup h.runs (events_of_master setup log)).goes f.here in
            let owes = f.tracks.owes in
            let posts = mine (slave_of sc t c).address (owed setup log) in
            let legal = legal_below setup.limits (js t c) (ReadBack t) t posts f.marks (marks_of f.xs) owes g.legal in
            let same_phase : count is_begun (marks_of f.xs) ≡ phase.place + 1 = sym (owes_count (ReadBack t) t posts f.marks (marks_of f.xs) owes) ∙ g.phase_is ∙ sym goes.phase_is ∙ phase.begun in
            let x = in_phase setup.limits (js t c) t f.xs legal phase.place same_phase in
            let alike = jobs_alike sc.steps sc.runs (script_of sc s d) (script_of sc t c) in
            let kinds = alike_at (js s d) (js t c) phase.place phase.now.phase.job x.job alike phase.now.phase.job_at x.job_at in
            let row' = row_alike phase.now.phase.job x.job k kinds row in
            let clock = same_clock (js s d) (js t c) phase.place at_first at_first alike (record { resets = refl; events = refl }) in
            let resets = clock.resets in
            let within = ready.set.within in
            let run_of = run_is in
            let has = row_taken sc.steps sc.runs h.runs (script_of sc t c) phase.place f.xs t k x row' (undone f.marks f.xs f.here owes x.job (same_reset phase.now.phase.job.task x.job.task kinds)) in
            let P : List Asking → Type 0 = λ bs. HasTaken (script_of sc t c) t bs (standing (js t c) phase.place at_first).resets in
            taken_opened sc t c (asks setup.address (slave_of sc t c) log) (decided_exchanges w t log) (run_after sc.steps (view (decided_exchanges w s log)).done) (standing (js t c) phase.place at_first).resets
            (told_taken log run t it c q) (subst P (sym f.tracks.is) has) (omega (arith, run_of, resets)) (omega (arith, within, resets))
          where
            same_reset : (x y : Task) → kind_of x ≡ kind_of y → resets_slave x ≡ resets_slave y
            same_reset x y e = reset_kind x ∙ ap resets_slave e ∙ sym (reset_kind y)

            undone : (ms : List Mark) (xs : List Placed) → slice_get (course_at setup log).talks (q.is_in).0 ≡ Some (talk_with (slave_of sc t c) ms) → Owes (ReadBack t) t (mine (slave_of sc t c).address (owed setup log)) ms (marks_of xs) → (job : Job) → resets_slave phase.now.phase.job.task ≡ resets_slave job.task → Undone job (now xs)
            undone ms xs e o job z = by (resets_slave phase.now.phase.job.task) refl
              where
                by : (b : Bool) → resets_slave phase.now.phase.job.task ≡ b → Undone job (now xs)
                by false y = inl (sym z ∙ y)
                by true y =
                    let b = reset_begun setup.limits (js s d) phase.place a.xs s r k goes.legal a.cause phase.now v y in
                    let all = all_still setup (p.is_in).0 (slave_of sc s d) (p.is_in).1 (λ j u f g. h.apart j (p.is_in).0 u (slave_of sc s d) f (p.is_in).1 g) h.runs (events_of_master setup log) a.sent (talk_with (slave_of sc s d) (marks.Asked r ∷ marks_of a.xs)) a.here
                    (r, (b.0, ((b.1).0, ap (λ (m : List Mark). marks.Asked r ∷ m) (b.1).1))) in
                    inr (still_acked xs (still_owes (ReadBack t) t (mine (slave_of sc t c).address (owed setup log)) ms (marks_of xs) o (all (q.is_in).0 (talk_with (slave_of sc t c) ms) e)))

  -- ---- the laws
  module _ (e : LogEntry) (log : List LogEntry) (run : IsRun setup (e ∷ log)) (s : ℕ) (is : IsSlaveOf w s) (d : SlaveDesc) (p : Is s d) (n : Note) (mv : move w s e ≡ Asks n) where
    asks_so : Repeats (requests_sent w s log) n ⊎ IsFirstOf setup h w ps s is (slave_of sc s d) p log n
    asks_so =
        let P : Move → Type 0 = λ x. MayAsk w s (slave_of sc s d).script.uuid x log in
        by (subst P mv (in_turn setup h w ps e log run s is (slave_of sc s d) p))
      where
        by : Repeats (requests_sent w s log) n ⊎ IsNextRequest w s (slave_of sc s d).script.uuid n log → Repeats (requests_sent w s log) n ⊎ IsFirstOf setup h w ps s is (slave_of sc s d) p log n
        by (inl again) = inl again
        by (inr next) = inr (asks_first setup h w ps s is (slave_of sc s d) p e log run n mv next)

    at_rest : (k : RowEvent) → event_asked n ≡ Some k → (view (decided_exchanges w s log)).waiting ≡ false
    at_rest k v = rows_rest setup h w ps e log run s is (slave_of sc s d) p n k mv v

    follows : (f : IsFirstOf setup h w ps s is (slave_of sc s d) p log n) → may_ask sc s d (decided_exchanges w s log) n ≡ true
    follows f = both (is_request_code n.message.code) (may sc s d ds n) (ap (λ (m : Note). is_request_code m.message.code) f.note ∙ request_code f.request) (both (may_begin sc s d ds (view ds) (event_asked n)) (may_set sc s d ds (asked_in n)) (begins (event_asked n) refl) sets)
      where
        ds : List logs.DecidedRequest
        ds = decided_exchanges w s log

        sets : may_set sc s d ds (asked_in n) ≡ true
        sets = ap (λ (m : Note). may_set sc s d ds (asked_in m)) f.note ∙ ap (may_set sc s d ds) (asked_is s f.request (first_at 0 f.number f.request) (refl, refl)) ∙ may_be log run.1 s is d p f.request f.first

        begins : (o : Option RowEvent) → event_asked n ≡ o → may_begin sc s d ds (view ds) o ≡ true
        begins None v = refl
        begins (Some k) v =
            let rest = at_rest k v in
            let v' : event_for (code_of f.request) ≡ Some k = sym (ap event_asked f.note) ∙ v in
            both (not (view ds).waiting) (same_event k (row_event_at sc.steps (view ds).done) && opened sc s d (run_after sc.steps (view ds).done) ds) (ap not rest)
            (both (same_event k (row_event_at sc.steps (view ds).done)) (opened sc s d (run_after sc.steps (view ds).done) ds) (event_self (row_event_at sc.steps (view ds).done) k (event_is log run.1 s is d p f.request f.first k v' rest)) (other_opened log run.1 s is d p f.request f.first k v' rest s is d p))

    opens : (f : IsFirstOf setup h w ps s is (slave_of sc s d) p log n) (k : RowEvent) → event_asked n ≡ Some k → (t : ℕ) → IsSlaveOf w t → (c : SlaveDesc) → Is t c → opened sc t c (run_after sc.steps (view (decided_exchanges w s log)).done) (decided_exchanges w t log) ≡ true
    opens f k v t it c q = other_opened log run.1 s is d p f.request f.first k (sym (ap event_asked f.note) ∙ v) (at_rest k v) t it c q

pub requests_follow : RequestsFollowThePlan
requests_follow sc h w ps e log run s is d p n mv = by (asks_so sc h w ps e log run s is d p n mv)
  where
    by : Repeats (requests_sent w s log) n ⊎ IsFirstOf (setup_from sc) h w ps s is (slave_of sc s d) p log n → Repeats (requests_sent w s log) n ⊎ (may_ask sc s d (decided_exchanges w s log) n ≡ true)
    by (inl again) = inl again
    by (inr f) = inr (follows sc h w ps e log run s is d p n mv f)

pub slaves_opened : SlavesAreOpened
slaves_opened sc h w ps e log run s is d p n k mv v = by (asks_so sc h w ps e log run s is d p n mv)
  where
    by : Repeats (requests_sent w s log) n ⊎ IsFirstOf (setup_from sc) h w ps s is (slave_of sc s d) p log n
        → Repeats (requests_sent w s log) n ⊎ ((t : ℕ) → IsSlaveOf w t → (c : SlaveDesc) → IsParty (setup_from sc) w t (slave_of sc t c) → opened sc t c (run_after sc.steps (view (decided_exchanges w s log)).done) (decided_exchanges w t log) ≡ true)
    by (inl again) = inl again
    by (inr f) = inr (opens sc h w ps e log run s is d p n mv f k v)
