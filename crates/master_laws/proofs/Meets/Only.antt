-- All that the master sends goes to a slave, and is a request.
use Rattle.std.proofs.Common.{◌≡◌, ℕ, zero, suc, ◌+◌, Bool, true, false, if◌then◌else◌, Option, Some, None, List, [], ◌∷◌, ◌++◌, map, refl, sym, ap, ◌∙◌, subst}
use Rattle.std.specs.Prelude.{◌==◌, slice_get}
use Rattle.std.specs.List.{list_all, flat_map}
use Rattle.dcp_types.specs.declared.addresses.Address.{Address}
use Rattle.dcp_ends.specs.declared.entries.LogEntry.{LogEntry}
use Rattle.dcp_ends.specs.declared.entries.LogEntry.TheVariants.{Sent, Got, Idle, Turn}
use Rattle.dcp_ends.specs.Events.{Event, Gram, Tick, Send}
use Rattle.dcp_ends.specs.Logs.{same_address}
use Rattle.log_spec.specs.Messages.{Note, Request}
use Rattle.log_spec.specs.Log.{role_heard}
use Rattle.master_spec.specs.declared.reports.Report.{Report}
use Rattle.master_spec.specs.declared.reports.Report.TheVariants as reports
use Rattle.master_spec.specs.declared.setups.Slave.{Slave}
use Rattle.master_spec.specs.declared.setups.Setup.{Setup}
use Rattle.master_spec.specs.Marks.{Turned}
use Rattle.master_spec.specs.Exchanged.{IsIn}
use Rattle.master_spec.specs.Course.{CourseTalk, Course, course, step, still, marked, mark_of_gram, send_to, sends_after, task_begun, failed, is_settled, is_quiet, phases, with_next, with_report, with_turns, decided, decided_if, course_turned, course_after_turn}
use Rattle.master_spec.specs.Conversation.{messages_if}
use Rattle.master_log_laws.specs.Index.Runs.{with_event, events_of_master, owed, IsFirstSend, tail, where_it_is}
use Rattle.master_log_laws.proofs.Index.Mine.{same_self}
use Rattle.master_log_laws.proofs.Index.Runs.{slaves_at, talks_of, step_gram, step_tick, step_still}
use Rattle.master_laws.specs.Meets.Laws.{OnlyRequestsAreSent}
use Rattle.master_laws.proofs.Meets.Asking.{sends, known, sent_so}

-- each of them goes to a slave of the setup
abbrev AllTo : Setup → List Send → Type 0
AllTo setup [] = Unit {0}
AllTo setup (p ∷ ps) = ((v : Slave) × (IsIn setup v × (p.to ≡ v.address))) × AllTo setup ps

module _ (setup : Setup) where
  both : (xs ys : List Send) → AllTo setup xs → AllTo setup ys → AllTo setup (xs ++ ys)
  both [] ys a b = b
  both (x ∷ xs) ys a b = (a.0, both xs ys a.1 b)

  one : (v : Slave) → IsIn setup v → (ms : List (List ℕ)) → AllTo setup (map (send_to v.address) ms)
  one v i [] = tt
  one v i (m ∷ ms) = ((v, (i, refl)), one v i ms)

  each : (g : CourseTalk → List (List ℕ)) (talks : List CourseTalk) → ((k : ℕ) (u : CourseTalk) → slice_get talks k ≡ Some u → IsIn setup u.slave) → AllTo setup (flat_map (λ u. map (send_to u.slave.address) (g u)) talks)
  each g [] i = tt
  each g (u ∷ talks) i = both (map (send_to u.slave.address) (g u)) (flat_map (λ u. map (send_to u.slave.address) (g u)) talks) (one u.slave (i 0 u refl) (g u)) (each g talks (λ k v e. i (suc k) v e))

  abbrev Are : List CourseTalk → Type 0
  Are talks = (k : ℕ) (u : CourseTalk) → slice_get talks k ≡ Some u → IsIn setup u.slave

  mapped : (f : CourseTalk → CourseTalk) → ((u : CourseTalk) → (f u).slave ≡ u.slave) → (talks : List CourseTalk) → Are talks → Are (map f talks)
  mapped f same [] i k u e = absurd cc
  mapped f same (v ∷ talks) i zero u e =
      let z : f v ≡ u = cc in
      let P : Slave → Type 0 = λ y. IsIn setup y in
      subst P (sym (same v) ∙ ap (λ (y : CourseTalk). y.slave) z) (i 0 v refl)
  mapped f same (v ∷ talks) i (suc k) u e = mapped f same talks (λ k u e. i (suc k) u e) k u e

  nexts : (c : Course) → Are c.talks → AllTo setup c.sent → AllTo setup (with_next setup c).sent
  nexts c i a = both c.sent (flat_map (λ talk. sends_after setup.limits talk (task_begun setup (c.phase + 1) talk)) c.talks) a (each (λ u. messages_if setup.limits u.slave.id (task_begun setup (c.phase + 1) u) u.marks) c.talks i)

  decides : (c : Course) (o : Option Report) → Are c.talks → AllTo setup c.sent → AllTo setup (decided setup c o).sent
  decides c (Some report) i a = a
  decides c None i a = by (c.phase == phases setup)
    where
      by : (b : Bool) → AllTo setup (if b then with_report c (reports.Finished setup.steps) else with_next setup c).sent
      by true = a
      by false = nexts c i a

  turns : (c : Course) (b : Bool) → Are c.talks → AllTo setup c.sent → AllTo setup (decided_if setup b c).sent
  turns c false i a = a
  turns c true i a = decides c (failed c.phase c.talks) i a

  ticks : (c : Course) → Are c.talks → AllTo setup (course_after_turn setup c).sent
  ticks c i = by (c.phase == 0)
    where
      settled : Bool
      settled = list_all is_settled c.talks

      here : AllTo setup (with_turns setup settled c).sent
      here = each (λ u. messages_if setup.limits u.slave.id (Some (Turned settled)) u.marks) c.talks i

      are : Are (with_turns setup settled c).talks
      are = mapped (λ u. marked setup.limits u (Some (Turned settled))) (λ u. refl) c.talks i

      by : (b : Bool) → AllTo setup (if b then with_next setup (still c) else course_turned setup (with_turns setup settled c)).sent
      by true = nexts (still c) i tt
      by false = turns (with_turns setup settled c) (list_all is_quiet (with_turns setup settled c).talks) are here

  steps : (event : Event) (c : Course) → Are c.talks → AllTo setup (step setup event c).sent
  steps event c i = by c.report refl event
    where
      P : Course → Type 0
      P x = AllTo setup x.sent

      by : (o : Option Report) → c.report ≡ o → (event : Event) → AllTo setup (step setup event c).sent
      by (Some report) r event = subst P (sym (step_still setup event c report r)) tt
      by None r (Gram from bytes) = subst P (sym (step_gram setup from bytes c r)) (each (λ u. messages_if setup.limits u.slave.id (mark_of_gram u from bytes) u.marks) c.talks i)
      by None r Tick = subst P (sym (step_tick setup c r)) (ticks c i)

  are_at : (evs : List Event) → Are (course setup evs).talks
  are_at evs k u e = (k, slaves_at (course setup evs).talks setup.slaves (talks_of setup evs) k u e)

  tails : (posts : List Send) → AllTo setup posts → AllTo setup (tail posts)
  tails [] a = tt
  tails (p ∷ ps) a = a.1

  pub all_owed : (log : List LogEntry) → AllTo setup (owed setup log)
  all_owed [] = tt
  all_owed (Sent from to bytes ∷ log) = by (same_address from setup.address) (all_owed log)
    where
      by : (b : Bool) → AllTo setup (owed setup log) → AllTo setup (if b then tail (owed setup log) else owed setup log)
      by true a = tails (owed setup log) a
      by false a = a
  all_owed (Got at from bytes ∷ log) = by (same_address at setup.address) (all_owed log)
    where
      by : (b : Bool) → AllTo setup (owed setup log) → AllTo setup (if b then (course setup (with_event b (Gram from bytes) (events_of_master setup log))).sent else owed setup log)
      by true a = steps (Gram from bytes) (course setup (events_of_master setup log)) (are_at (events_of_master setup log))
      by false a = a
  all_owed (Idle at ∷ log) = all_owed log
  all_owed (Turn at ∷ log) = by (same_address at setup.address) (all_owed log)
    where
      by : (b : Bool) → AllTo setup (owed setup log) → AllTo setup (if b then (course setup (with_event b Tick (events_of_master setup log))).sent else owed setup log)
      by true a = steps Tick (course setup (events_of_master setup log)) (are_at (events_of_master setup log))
      by false a = a

goes_to : (setup : Setup) (posts : List Send) (to : Address) (bytes : List ℕ) → IsFirstSend posts to bytes → AllTo setup posts → (v : Slave) × (IsIn setup v × (to ≡ v.address))
goes_to setup [] to bytes f a = absurd f
goes_to setup (p ∷ ps) to bytes f a = ((a.0).0, (((a.0).1).0, sym f.0 ∙ ((a.0).1).1))

pub only_requests : OnlyRequestsAreSent
only_requests setup h w ps [] run = tt
only_requests setup h w ps (Sent from to bytes ∷ log) run = (by, only_requests setup h w ps log run.1)
  where
    by : from ≡ w.master → (receiver : ℕ) × (n : Note) × (role_heard w bytes ≡ Request receiver n)
    by e =
        let own : same_address from setup.address ≡ true = ap (λ (a : Address). same_address a setup.address) (e ∙ ps.master) ∙ same_self setup.address in
        let P : Bool → Type 0 = λ b. where_it_is b (IsFirstSend (owed setup log) to bytes) in
        let first = subst P own run.0 in
        let z = goes_to setup (owed setup log) to bytes first (all_owed setup log) in
        let v = z.0 in
        let i = ps.all v (z.1).0 in
        let here : same_address to v.address ≡ true = ap (λ (a : Address). same_address a v.address) (z.1).1 ∙ same_self v.address in
        let k = known setup h w ps v.id i.0 v i.1 log run.1 in
        let f = sent_so setup h w ps v.id i.0 v i.1 log bytes k (sends setup h w ps v.id i.0 v i.1 log run.1 to bytes first here) in
        (v.id, f.0, (f.1).role)
only_requests setup h w ps (Got at from bytes ∷ log) run = (tt, only_requests setup h w ps log run.1)
only_requests setup h w ps (Idle at ∷ log) run = (tt, only_requests setup h w ps log run.1)
only_requests setup h w ps (Turn at ∷ log) run = (tt, only_requests setup h w ps log run.1)
