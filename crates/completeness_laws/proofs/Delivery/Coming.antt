-- A conversation ends by what the master makes of one event.
use Rattle.std.proofs.Common.{◌≡◌, ℕ, zero, suc, ◌+◌, ◌-◌, Bool, true, false, if◌then◌else◌, ◌⊎◌, inl, inr, Option, Some, None, List, [], ◌∷◌, map, refl, sym, ap, ◌∙◌}
use Rattle.std.specs.Prelude.{◌==◌, slice_get}
use Rattle.std.specs.List.{list_all}
use Rattle.dcp_types.specs.declared.addresses.Address.{Address}
use Rattle.dcp_types.specs.declared.limits.Limits.{Limits}
use Rattle.dcp_ends.specs.declared.entries.LogEntry.{LogEntry}
use Rattle.dcp_ends.specs.declared.entries.LogEntry.TheVariants.{Sent, Got, Idle, Turn}
use Rattle.dcp_ends.specs.Events.{Event, Gram, Tick}
use Rattle.dcp_ends.specs.Logs.{same_address}
use Rattle.master_spec.specs.declared.causes.Cause.{Cause}
use Rattle.master_spec.specs.declared.reports.Report.{Report}
use Rattle.master_spec.specs.declared.reports.Report.TheVariants as reports
use Rattle.master_spec.specs.declared.reactions.Reaction.{Reaction}
use Rattle.master_spec.specs.declared.reactions.Reaction.TheVariants.{Wait, Ask, Repeat, GiveUp}
use Rattle.master_spec.specs.declared.setups.Slave.{Slave}
use Rattle.master_spec.specs.declared.setups.Setup.{Setup}
use Rattle.master_spec.specs.Setup.{jobs_of}
use Rattle.master_spec.specs.Jobs.{Job}
use Rattle.master_spec.specs.Marks.{Mark, Begun, Asked, Again, Answered, Hinted, Brought, Turned, Ended, cause_of}
use Rattle.master_spec.specs.Conversation.{reaction, done, extended}
use Rattle.master_spec.specs.Course.{CourseTalk, Course, course, mark_of_gram, marked, begun_with, task_begun, is_settled, is_quiet, failed, phases, with_next, with_report, decided, with_turns, decided_if, course_turned, still, after_gram, course_after_turn, step}
use Rattle.master_log_laws.specs.Index.Runs.{events_of_master, with_event, course_at}
use Rattle.master_log_laws.specs.Index.Follows.{talk_with}
use Rattle.master_log_laws.proofs.Index.Mine.{get_map}
use Rattle.master_log_laws.proofs.Index.Outputs.{IsNews, gram_news}
use Rattle.master_log_laws.proofs.Index.Runs.{step_gram, step_tick, step_still}
use Rattle.master_log_laws.proofs.Failures.Because.{because}
use Rattle.completeness_laws.specs.Moments.{cause_in}

pub none_some : (c : Cause) (o : Option Cause) → o ≡ None → o ≡ Some c → ⊥
none_some c o e f = let z : None ≡ Some c = sym e ∙ f in cc

-- ---- one mark
done_cause : (r : Reaction) (ms : List Mark) (cause : Cause) → cause_of ms ≡ None → cause_of (done r ms) ≡ Some cause → r ≡ GiveUp cause
done_cause Wait ms cause n h = absurd (none_some cause (cause_of ms) n h)
done_cause (Ask q) ms cause n h = absurd (none_some cause (cause_of ms) n h)
done_cause Repeat ms cause n h = absurd (none_some cause (cause_of ms) n h)
done_cause (GiveUp c) ms cause n h = let z : c ≡ cause = cc in ap (λ (x : Cause). GiveUp x) z

pub news_cause : (m : Mark) (ms : List Mark) → IsNews m → cause_of (m ∷ ms) ≡ cause_of ms
news_cause (Begun job) ms n = refl
news_cause (Asked request) ms n = refl
news_cause Again ms n = refl
news_cause (Answered request answer) ms n = refl
news_cause Hinted ms n = refl
news_cause (Brought number payload) ms n = refl
news_cause (Turned settled) ms n = refl
news_cause (Ended cause) ms n = absurd n

begun_gives : (limits : Limits) (job : Job) (ms : List Mark) (cause : Cause) → reaction limits (Begun job) ms ≡ GiveUp cause → ⊥
begun_gives limits job ms cause h = ((because limits (Begun job) ms cause h).1).1

-- a phase that begins ends nothing
begin_same : (limits : Limits) (o : Option Job) (ms : List Mark) → cause_of (extended limits (begun_with o) ms) ≡ cause_of ms
begin_same limits None ms = refl
begin_same limits (Some job) ms = by (reaction limits (Begun job) ms) refl
  where
    by : (r : Reaction) → reaction limits (Begun job) ms ≡ r → cause_of (done r (Begun job ∷ ms)) ≡ cause_of ms
    by Wait e = refl
    by (Ask q) e = refl
    by Repeat e = refl
    by (GiveUp c) e = absurd (begun_gives limits job ms c e)

-- ---- all conversations
map_same : (f : CourseTalk → CourseTalk) → ((u : CourseTalk) → cause_of (f u).marks ≡ cause_of u.marks) → (talks : List CourseTalk) (i : ℕ) → cause_in (slice_get (map f talks) i) ≡ cause_in (slice_get talks i)
map_same f h [] i = refl
map_same f h (u ∷ us) zero = h u
map_same f h (u ∷ us) (suc i) = map_same f h us i

module _ (setup : Setup) (i : ℕ) where
  abbrev Cause' : Course → Option Cause
  Cause' c = cause_in (slice_get c.talks i)

  pub next_same : (c : Course) → Cause' (with_next setup c) ≡ Cause' c
  next_same c = map_same (λ u. marked setup.limits u (task_begun setup (c.phase + 1) u)) (λ u. begin_same setup.limits (slice_get (jobs_of setup u.slave) (c.phase + 1 - 1)) u.marks) c.talks i

  decided_same : (c : Course) (o : Option Report) → Cause' (decided setup c o) ≡ Cause' c
  decided_same c (Some report) = refl
  decided_same c None = by (c.phase == phases setup)
    where
      by : (b : Bool) → Cause' (if b then with_report c (reports.Finished setup.steps) else with_next setup c) ≡ Cause' c
      by true = refl
      by false = next_same c

  pub quiet_same : (c : Course) (b : Bool) → Cause' (decided_if setup b c) ≡ Cause' c
  quiet_same c true = decided_same c (failed c.phase c.talks)
  quiet_same c false = refl

  -- after the report nothing ends
  over_same : (event : Event) (c : Course) (report : Report) → c.report ≡ Some report → Cause' (step setup event c) ≡ Cause' c
  over_same event c report e = ap Cause' (step_still setup event c report e)

  module _ (slave : Slave) (marks : List Mark) (cause : Cause) (going : cause_of marks ≡ None) where
    turn_cause : (c : Course) → slice_get c.talks i ≡ Some (talk_with slave marks) → Cause' (course_after_turn setup c) ≡ Some cause → (t : Bool) × (reaction setup.limits (Turned t) marks ≡ GiveUp cause)
    turn_cause c here h = by (c.phase == 0) h
      where
        t : Bool
        t = list_all is_settled c.talks

        d : Course
        d = with_turns setup t c

        by : (b : Bool) → Cause' (if b then with_next setup (still c) else course_turned setup d) ≡ Some cause → (t : Bool) × (reaction setup.limits (Turned t) marks ≡ GiveUp cause)
        by true z = absurd (none_some cause (Cause' c) (ap cause_in here ∙ going) (sym (next_same (still c)) ∙ z))
        by false z =
            let e = get_map (λ (u : CourseTalk). marked setup.limits u (Some (Turned t))) c.talks i (talk_with slave marks) here in
            let y : cause_of (done (reaction setup.limits (Turned t) marks) (Turned t ∷ marks)) ≡ Some cause = sym (ap cause_in e) ∙ sym (quiet_same d (list_all is_quiet d.talks)) ∙ z in
            (t, done_cause (reaction setup.limits (Turned t) marks) (Turned t ∷ marks) cause going y)

    gram_cause : (c : Course) (from : Address) (bytes : List ℕ) → slice_get c.talks i ≡ Some (talk_with slave marks) → Cause' (after_gram setup from bytes c) ≡ Some cause
        → (m : Mark) × ((mark_of_gram (talk_with slave marks) from bytes ≡ Some m) × (reaction setup.limits m marks ≡ GiveUp cause))
    gram_cause c from bytes here h =
        let e = get_map (λ (u : CourseTalk). marked setup.limits u (mark_of_gram u from bytes)) c.talks i (talk_with slave marks) here in
        by (mark_of_gram (talk_with slave marks) from bytes) refl (sym (ap cause_in e) ∙ h)
      where
        by : (o : Option Mark) → mark_of_gram (talk_with slave marks) from bytes ≡ o → cause_of (extended setup.limits o marks) ≡ Some cause → (m : Mark) × ((mark_of_gram (talk_with slave marks) from bytes ≡ Some m) × (reaction setup.limits m marks ≡ GiveUp cause))
        by None e z = absurd (none_some cause (cause_of marks) going z)
        by (Some m) e z = (m, (e, done_cause (reaction setup.limits m marks) (m ∷ marks) cause (news_cause m marks (gram_news slave marks from bytes m e) ∙ going) z))

-- the entry with which it ends: a turn of the master, or a datagram that it gets
pub record EndsByTurn (setup : Setup) (marks : List Mark) (cause : Cause) (e : LogEntry) : Type 0 where
  pub at : Address
  pub settled : Bool
  pub is : e ≡ Turn at
  pub own : same_address at setup.address ≡ true
  pub gives : reaction setup.limits (Turned settled) marks ≡ GiveUp cause

pub record EndsByGram (setup : Setup) (slave : Slave) (marks : List Mark) (cause : Cause) (e : LogEntry) : Type 0 where
  pub at : Address
  pub from : Address
  pub bytes : List ℕ
  pub mark : Mark
  pub is : e ≡ Got at from bytes
  pub own : same_address at setup.address ≡ true
  pub makes : mark_of_gram (talk_with slave marks) from bytes ≡ Some mark
  pub gives : reaction setup.limits mark marks ≡ GiveUp cause

abbrev pub Ending : Setup → Slave → List Mark → Cause → LogEntry → Type 0
Ending setup slave marks cause e = EndsByTurn setup marks cause e ⊎ EndsByGram setup slave marks cause e

module _ (setup : Setup) (i : ℕ) where
  abbrev CauseAt : List LogEntry → Option Cause
  CauseAt log = cause_in (slice_get (course_at setup log).talks i)

  with_same : (b : Bool) (event : Event) (evs : List Event) (report : Report) → (course setup evs).report ≡ Some report → cause_in (slice_get (course setup (with_event b event evs)).talks i) ≡ cause_in (slice_get (course setup evs).talks i)
  with_same true event evs report e = over_same setup i event (course setup evs) report e
  with_same false event evs report e = refl

  pub reported_same : (e : LogEntry) (log : List LogEntry) (report : Report) → (course_at setup log).report ≡ Some report → CauseAt (e ∷ log) ≡ CauseAt log
  reported_same (Sent from to bytes) log report r = refl
  reported_same (Got at from bytes) log report r = with_same (same_address at setup.address) (Gram from bytes) (events_of_master setup log) report r
  reported_same (Idle at) log report r = refl
  reported_same (Turn at) log report r = with_same (same_address at setup.address) Tick (events_of_master setup log) report r

  pub ending : (slave : Slave) (marks : List Mark) (cause : Cause) (e : LogEntry) (log : List LogEntry) → (course_at setup log).report ≡ None → slice_get (course_at setup log).talks i ≡ Some (talk_with slave marks) → cause_of marks ≡ None
      → CauseAt (e ∷ log) ≡ Some cause → Ending setup slave marks cause e
  ending slave marks cause (Sent from to bytes) log r here going h = absurd (none_some cause (CauseAt log) (ap cause_in here ∙ going) h)
  ending slave marks cause (Idle at) log r here going h = absurd (none_some cause (CauseAt log) (ap cause_in here ∙ going) h)
  ending slave marks cause (Got at from bytes) log r here going h = by (same_address at setup.address) refl h
    where
      by : (b : Bool) → same_address at setup.address ≡ b → cause_in (slice_get (course setup (with_event b (Gram from bytes) (events_of_master setup log))).talks i) ≡ Some cause → Ending setup slave marks cause (Got at from bytes)
      by true own z =
          let c = course_at setup log in
          let g = gram_cause setup i slave marks cause going c from bytes here (ap (λ (x : Course). cause_in (slice_get x.talks i)) (sym (step_gram setup from bytes c r)) ∙ z) in
          inr (record { at = at; from = from; bytes = bytes; mark = g.0; is = refl; own = own; makes = (g.1).0; gives = (g.1).1 })
      by false own z = absurd (none_some cause (CauseAt log) (ap cause_in here ∙ going) z)
  ending slave marks cause (Turn at) log r here going h = by (same_address at setup.address) refl h
    where
      by : (b : Bool) → same_address at setup.address ≡ b → cause_in (slice_get (course setup (with_event b Tick (events_of_master setup log))).talks i) ≡ Some cause → Ending setup slave marks cause (Turn at)
      by true own z =
          let c = course_at setup log in
          let g = turn_cause setup i slave marks cause going c here (ap (λ (x : Course). cause_in (slice_get x.talks i)) (sym (step_tick setup c r)) ∙ z) in
          inl (record { at = at; settled = g.0; is = refl; own = own; gives = g.1 })
      by false own z = absurd (none_some cause (CauseAt log) (ap cause_in here ∙ going) z)
