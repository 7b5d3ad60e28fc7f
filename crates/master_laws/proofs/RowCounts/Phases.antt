-- All conversations are in the phase of the same row, and what they keep came in it.
use Rattle.std.proofs.Common.{◌≡◌, ℕ, zero, suc, ◌+◌, ◌-◌, Bool, true, false, if◌then◌else◌, Option, Some, None, List, [], ◌∷◌, map, refl, sym, ap, ◌∙◌, subst, arith}
use Rattle.std.specs.Prelude.{◌==◌, slice_get}
use Rattle.std.specs.List.{list_all}
use Rattle.dcp_types.specs.declared.addresses.Address.{Address}
use Rattle.dcp_ends.specs.declared.entries.LogEntry.{LogEntry}
use Rattle.dcp_ends.specs.declared.entries.LogEntry.TheVariants.{Sent, Got, Idle, Turn}
use Rattle.dcp_ends.specs.Events.{Gram, Tick}
use Rattle.dcp_ends.specs.Logs.{same_address}
use Rattle.master_spec.specs.declared.reports.Report.{Report}
use Rattle.master_spec.specs.declared.reports.Report.TheVariants as reports
use Rattle.master_spec.specs.declared.setups.Slave.{Slave}
use Rattle.master_spec.specs.declared.setups.Setup.{Setup}
use Rattle.master_spec.specs.Tasks.{task_row}
use Rattle.master_spec.specs.Jobs.{Job}
use Rattle.master_spec.specs.Setup.{jobs_of}
use Rattle.master_spec.specs.Marks.{Mark, Begun, Asked, Again, Answered, Hinted, Brought, Turned, Ended, count, is_begun, job_of}
use Rattle.master_spec.specs.Course.{CourseTalk, Course, course, fresh_talk, mark_of_gram, marked, is_settled, is_quiet, failed, task_begun, phases, with_next, with_report, decided, with_turns, decided_if, course_turned, still, course_after_turn, row_in_job, row_now}
use Rattle.master_log_laws.specs.Asking.Legal.{GoesByRule, AllWith}
use Rattle.master_log_laws.specs.Index.Runs.{events_of_master, with_event, course_at}
use Rattle.master_log_laws.specs.Index.Follows.{talk_with}
use Rattle.master_log_laws.proofs.Index.Runs.{step_gram, step_tick, step_still, with_at}
use Rattle.master_log_laws.proofs.Phases.Tags.{job_phase, job_some}
use Rattle.master_laws.proofs.RowCounts.Places.{places, job_places, joined, due_at, job_due}
use Rattle.master_laws.proofs.RowCounts.Kept.{AllCame, came_longer, came_gram, came_turned, came_begun}

-- ---- the row of the phase
job_none : (marks : List Mark) → count is_begun marks ≡ 0 → job_of marks ≡ None
job_none [] c = refl
job_none (Begun j ∷ marks) c = absurd (omega (arith, c))
job_none (Asked r ∷ marks) c = job_none marks c
job_none (Again ∷ marks) c = job_none marks c
job_none (Answered r a ∷ marks) c = job_none marks c
job_none (Hinted ∷ marks) c = job_none marks c
job_none (Brought n q ∷ marks) c = job_none marks c
job_none (Turned t ∷ marks) c = job_none marks c
job_none (Ended cause ∷ marks) c = job_none marks c

abbrev pub due : Setup → ℕ → Option ℕ
due setup phase = due_at (places setup.steps setup.runs) phase

pub row_due : (setup : Setup) (slave : Slave) (phase : ℕ) (marks : List Mark) → GoesByRule setup.limits (jobs_of setup slave) phase marks → row_in_job (job_of marks) ≡ due setup phase
row_due setup slave zero marks g = ap row_in_job (job_none marks g.phase_is)
row_due setup slave (suc p) marks g =
    let n = g.phase_is in
    let c : count is_begun marks ≡ p + 1 = omega (arith, n) in
    let j = job_some marks p c in
    let js = jobs_of setup slave in
    ap row_in_job j.1 ∙ ap row_in_job (sym (job_phase setup.limits js marks g.legal j.0 j.1 p c)) ∙ job_due js p
    ∙ ap (λ (os : List (Option ℕ)). joined (slice_get os p)) (job_places setup.steps setup.runs slave.script)

abbrev pub AllGo : Setup → ℕ → List CourseTalk → Type 0
AllGo setup phase talks = AllWith (λ slave marks. GoesByRule setup.limits (jobs_of setup slave) phase marks) talks

pub talk_due : (setup : Setup) (phase : ℕ) (talks : List CourseTalk) (i : ℕ) (u : CourseTalk) → AllGo setup phase talks → slice_get talks i ≡ Some u → row_in_job (job_of u.marks) ≡ due setup phase
talk_due setup phase talks i u g e = row_due setup u.slave phase u.marks (with_at (λ slave marks. GoesByRule setup.limits (jobs_of setup slave) phase marks) talks i u g e)

-- the job of the phase, of a conversation that is in the phase of a row
pub record InRow (setup : Setup) (slave : Slave) (phase row : ℕ) : Type 0 where
  pub before : ℕ
  pub phase_is : phase ≡ before + 1
  pub job : Job
  pub job_is : slice_get (jobs_of setup slave) before ≡ Some job
  pub row_is : task_row job.task ≡ Some row

pub in_row : (setup : Setup) (slave : Slave) (phase : ℕ) (marks : List Mark) (row : ℕ) → GoesByRule setup.limits (jobs_of setup slave) phase marks → row_in_job (job_of marks) ≡ Some row → InRow setup slave phase row
in_row setup slave zero marks row g e = absurd (clash (ap row_in_job (sym (job_none marks g.phase_is)) ∙ e))
  where
    clash : None ≡ Some row → ⊥
    clash z = cc
in_row setup slave (suc p) marks row g e =
    let n = g.phase_is in
    let c : count is_begun marks ≡ p + 1 = omega (arith, n) in
    let j = job_some marks p c in
    record { before = p; phase_is = omega arith; job = j.0; job_is = job_phase setup.limits (jobs_of setup slave) marks g.legal j.0 j.1 p c; row_is = ap row_in_job (sym j.1) ∙ e }

row_first : (talks : List CourseTalk) (u : CourseTalk) → slice_get talks 0 ≡ Some u → row_now talks ≡ row_in_job (job_of u.marks)
row_first [] u e = absurd cc
row_first (v ∷ vs) u e = let z : v ≡ u = cc in ap (λ (x : CourseTalk). row_in_job (job_of x.marks)) z

-- ---- conversations and slaves
pub talk_of : (talks : List CourseTalk) (slaves : List Slave) (i : ℕ) (s : Slave) → map (λ u. u.slave) talks ≡ slaves → slice_get slaves i ≡ Some s → (u : CourseTalk) × ((slice_get talks i ≡ Some u) × (u.slave ≡ s))
talk_of talks slaves i s m e = by talks i (ap (λ (z : List Slave). slice_get z i) m ∙ e)
  where
    by : (us : List CourseTalk) (j : ℕ) → slice_get (map (λ (u : CourseTalk). u.slave) us) j ≡ Some s → (u : CourseTalk) × ((slice_get us j ≡ Some u) × (u.slave ≡ s))
    by [] j e = absurd cc
    by (u ∷ us) zero e = let z : u.slave ≡ s = cc in (u, (refl, z))
    by (u ∷ us) (suc j) e = by us j e

pub now_due : (setup : Setup) (phase : ℕ) (talks : List CourseTalk) (slave : Slave) → map (λ u. u.slave) talks ≡ setup.slaves → slice_get setup.slaves 0 ≡ Some slave → AllGo setup phase talks → row_now talks ≡ due setup phase
now_due setup phase talks slave m e g = let u = talk_of talks setup.slaves 0 slave m e in row_first talks u.0 (u.1).0 ∙ talk_due setup phase talks 0 u.0 g (u.1).0

pub slaves_stay : (f : CourseTalk → List Mark) (talks : List CourseTalk) → map (λ u. u.slave) (map (λ u. talk_with u.slave (f u)) talks) ≡ map (λ u. u.slave) talks
slaves_stay f [] = refl
slaves_stay f (u ∷ us) = ap (λ z. u.slave ∷ z) (slaves_stay f us)

-- ---- what is kept came in this phase
abbrev pub TalksCame : Setup → List LogEntry → List CourseTalk → Type 0
TalksCame setup log talks = (i : ℕ) (u : CourseTalk) → slice_get talks i ≡ Some u → AllCame setup i u.slave log u.marks

map_at : (f : CourseTalk → CourseTalk) (us : List CourseTalk) (i : ℕ) (v : CourseTalk) → slice_get (map f us) i ≡ Some v → (u : CourseTalk) × ((slice_get us i ≡ Some u) × (f u ≡ v))
map_at f [] i v e = absurd cc
map_at f (u ∷ us) zero v e = let z : f u ≡ v = cc in (u, (refl, z))
map_at f (u ∷ us) (suc i) v e = map_at f us i v e

module _ (setup : Setup) where
  mapped : (log later : List LogEntry) (f : CourseTalk → CourseTalk) (talks : List CourseTalk) → ((i : ℕ) (u : CourseTalk) → slice_get talks i ≡ Some u → AllCame setup i u.slave log u.marks → AllCame setup i (f u).slave later (f u).marks) → TalksCame setup log talks → TalksCame setup later (map f talks)
  mapped log later f talks g h i v e =
      let k = map_at f talks i v e in
      let P : CourseTalk → Type 0 = λ u. AllCame setup i u.slave later u.marks in
      subst P (k.1).1 (g i k.0 (k.1).0 (h i k.0 (k.1).0))

  longer : (e : LogEntry) (log : List LogEntry) (talks : List CourseTalk) → TalksCame setup log talks → TalksCame setup (e ∷ log) talks
  longer e log talks h i u z = came_longer setup i u.slave e log u.marks (h i u z)

  next_came : (log : List LogEntry) (c : Course) → TalksCame setup log c.talks → TalksCame setup log (with_next setup c).talks
  next_came log c h = mapped log log (λ u. marked setup.limits u (task_begun setup (c.phase + 1) u)) c.talks (λ i u e k. came_begun setup i u.slave setup.limits (slice_get (jobs_of setup u.slave) (c.phase + 1 - 1)) log u.marks k) h

  pub turns_came : (e : LogEntry) (log : List LogEntry) (settled : Bool) (c : Course) → TalksCame setup log c.talks → TalksCame setup (e ∷ log) (with_turns setup settled c).talks
  turns_came e log settled c h = mapped (e ∷ log) (e ∷ log) (λ u. marked setup.limits u (Some (Turned settled))) c.talks (λ i u z k. came_turned setup i u.slave setup.limits settled (e ∷ log) u.marks k) (longer e log c.talks h)

  decided_came : (log : List LogEntry) (c : Course) (o : Option Report) → TalksCame setup log c.talks → TalksCame setup log (decided setup c o).talks
  decided_came log c (Some report) h = h
  decided_came log c None h = by (c.phase == phases setup)
    where
      by : (b : Bool) → TalksCame setup log (if b then with_report c (reports.Finished setup.steps) else with_next setup c).talks
      by true = h
      by false = next_came log c h

  tick_came : (e : LogEntry) (log : List LogEntry) (c : Course) → TalksCame setup log c.talks → TalksCame setup (e ∷ log) (course_after_turn setup c).talks
  tick_came e log c h = by (c.phase == 0)
    where
      d : Course
      d = with_turns setup (list_all is_settled c.talks) c

      two : (b : Bool) → TalksCame setup (e ∷ log) (decided_if setup b d).talks
      two true = decided_came (e ∷ log) d (failed d.phase d.talks) (turns_came e log (list_all is_settled c.talks) c h)
      two false = turns_came e log (list_all is_settled c.talks) c h

      by : (b : Bool) → TalksCame setup (e ∷ log) (if b then with_next setup (still c) else course_turned setup d).talks
      by true = next_came (e ∷ log) (still c) (longer e log c.talks h)
      by false = two (list_all is_quiet d.talks)

  got_came : (at from : Address) (bytes : List ℕ) (log : List LogEntry) (b : Bool) → same_address at setup.address ≡ b → TalksCame setup log (course_at setup log).talks
      → TalksCame setup (Got at from bytes ∷ log) (course setup (with_event b (Gram from bytes) (events_of_master setup log))).talks
  got_came at from bytes log false own h = longer (Got at from bytes) log (course_at setup log).talks h
  got_came at from bytes log true own h = by (course_at setup log).report refl
    where
      c : Course
      c = course_at setup log

      P : Course → Type 0
      P x = TalksCame setup (Got at from bytes ∷ log) x.talks

      by : (o : Option Report) → c.report ≡ o → P (course setup (Gram from bytes ∷ events_of_master setup log))
      by (Some r) e = subst P (sym (step_still setup (Gram from bytes) c r e)) (longer (Got at from bytes) log c.talks h)
      by None e = subst P (sym (step_gram setup from bytes c e)) (mapped log (Got at from bytes ∷ log) (λ u. marked setup.limits u (mark_of_gram u from bytes)) c.talks (λ i u z k. came_gram setup i u.slave setup.limits at from bytes log u.marks own e z k) h)

  turn_came : (at : Address) (log : List LogEntry) (b : Bool) → same_address at setup.address ≡ b → TalksCame setup log (course_at setup log).talks → TalksCame setup (Turn at ∷ log) (course setup (with_event b Tick (events_of_master setup log))).talks
  turn_came at log false own h = longer (Turn at) log (course_at setup log).talks h
  turn_came at log true own h = by (course_at setup log).report refl
    where
      c : Course
      c = course_at setup log

      P : Course → Type 0
      P x = TalksCame setup (Turn at ∷ log) x.talks

      by : (o : Option Report) → c.report ≡ o → P (course setup (Tick ∷ events_of_master setup log))
      by (Some r) e = subst P (sym (step_still setup Tick c r e)) (longer (Turn at) log c.talks h)
      by None e = subst P (sym (step_tick setup c e)) (tick_came (Turn at) log c h)

  first_came : (slaves : List Slave) → TalksCame setup [] (map fresh_talk slaves)
  first_came [] i u e = absurd cc
  first_came (s ∷ ss) zero u e = let z : fresh_talk s ≡ u = cc in let P : CourseTalk → Type 0 = λ v. AllCame setup zero v.slave [] v.marks in subst P z (record { each = λ row payload k. absurd (none payload k) })
    where
      none : (payload : List ℕ) → None ≡ Some payload → ⊥
      none payload k = cc
  first_came (s ∷ ss) (suc i) u e = by ss i e
    where
      none : (payload : List ℕ) → None ≡ Some payload → ⊥
      none payload k = cc

      by : (ss : List Slave) (j : ℕ) → slice_get (map fresh_talk ss) j ≡ Some u → AllCame setup (suc i) u.slave [] u.marks
      by [] j e = absurd cc
      by (s ∷ ss) zero e = let z : fresh_talk s ≡ u = cc in let P : CourseTalk → Type 0 = λ v. AllCame setup (suc i) v.slave [] v.marks in subst P z (record { each = λ row payload k. absurd (none payload k) })
      by (s ∷ ss) (suc j) e = by ss j e

  pub talks_came : (log : List LogEntry) → TalksCame setup log (course_at setup log).talks
  talks_came [] = first_came setup.slaves
  talks_came (Sent from to bytes ∷ log) = longer (Sent from to bytes) log (course_at setup log).talks (talks_came log)
  talks_came (Got at from bytes ∷ log) = got_came at from bytes log (same_address at setup.address) refl (talks_came log)
  talks_came (Idle at ∷ log) = longer (Idle at) log (course_at setup log).talks (talks_came log)
  talks_came (Turn at ∷ log) = turn_came at log (same_address at setup.address) refl (talks_came log)
