-- In which phase a slave has done so many row events, and where a mark of outputs stands.
use Rattle.std.proofs.Common.{◌≡◌, ℕ, zero, suc, ◌+◌, ◌<◌, ◌≤◌, Bool, true, false, if◌then◌else◌, ◌⊎◌, inl, inr, Option, Some, None, List, [], ◌∷◌, map, length, refl, sym, ap, ◌∙◌, subst, arith}
use Rattle.std.specs.Prelude.{is_some, slice_get}
use Rattle.std.proofs.lemmas.Bool.{cases_lt, eq-eqb}
use Rattle.std.proofs.lemmas.List.{length-map}
use Rattle.dcp_ends.specs.declared.entries.LogEntry.{LogEntry}
use Rattle.slave_desc.specs.declared.descriptions.SlaveDesc.{SlaveDesc}
use Rattle.scenario.specs.declared.scenarios.Scenario.{Scenario}
use Rattle.scenario.specs.Sound.{IsScenario}
use Rattle.log_spec.specs.Messages.{Note}
use Rattle.log_spec.specs.Log.{Parties, IsSlaveOf, requests_sent}
use Rattle.log_spec.specs.Moves.{decided_exchanges}
use Rattle.lockstep_laws.specs.Steps.{RowEvent, event_asked, BenchProgress, events_counted, view}
use Rattle.lockstep_laws.specs.Cast.{ConversingSlaves}
use Rattle.lockstep_laws.specs.Runs.{Behaves}
use Rattle.lockstep_laws.proofs.Barrier.{IsEvent, asked_first, IsOpen, UnderWay}
use Rattle.lockstep_laws.proofs.Places.{ahead}
use Rattle.master_spec.specs.declared.requests.Request.{Request}
use Rattle.master_spec.specs.declared.setups.Slave.{Slave}
use Rattle.master_spec.specs.declared.setups.Setup.{Setup}
use Rattle.master_spec.specs.Setup.{setup_from, slave_of, jobs_of}
use Rattle.master_spec.specs.Jobs.{Job}
use Rattle.master_spec.specs.Marks.{Mark, Begun, Asked, Again, Answered, Hinted, Brought, Turned, Ended, is_begun, count, this_phase, mark_brings, or_else, oldest, latest, newest_number, open_request, job_of, cause_of}
use Rattle.master_spec.specs.Requests.{Asking, asks}
use Rattle.master_log_laws.specs.Asking.Legal.{Rests, AreLegal}
use Rattle.master_log_laws.specs.Index.Runs.{course_at, IsRun}
use Rattle.master_log_laws.specs.Index.Index.{Placed, marks_of, code_of, askings_told, IsHeadRequest}
use Rattle.master_log_laws.specs.Index.Dates.{phase_before, IsDated, AreDated, IsBroughtBy, IsBroughtAt}
use Rattle.master_log_laws.specs.Index.Laws.{AreHeard}
use Rattle.master_log_laws.proofs.Phases.Now.{open_latest}
use Rattle.master_log_laws.proofs.Phases.Numbered.{ordered}
use Rattle.master_log_laws.proofs.Phases.Tags.{counted, none_asked, job_some}
use Rattle.master_laws.specs.Rows.Laws.{event_for, progress}
use Rattle.master_laws.proofs.Rows.Views.{progress_told}
use Rattle.master_laws.specs.Barrier.Laws.{events_before, StandsInPhase}
use Rattle.master_laws.proofs.Barrier.Scripts.{events_of, none_before, before_cons, before_next}
use Rattle.master_laws.proofs.Barrier.Counting as counting
use Rattle.master_laws.proofs.Barrier.Standing.{progress_by_phase}
use Rattle.master_log_laws.proofs.Scenarios.Heard.{setups_heard}
use Rattle.master_laws.specs.Meets.Laws.{note_of}
use Rattle.master_laws.proofs.Meets.Asking.{are_asked}
use Rattle.master_laws.specs.Hears.Laws.{AreDecisions}
use Rattle.master_laws.proofs.Hears.Decided.{are_told}
use Rattle.lockstep_laws.specs.Models.Scenarios.{slave_numbered}
use Rattle.slave_laws.specs.Data.Whole.{slaves_asked}
use Rattle.run_laws.specs.Laws.{parties}
use Rattle.run_laws.proofs.Runs.{party, are_parties}
use Rattle.run_laws.proofs.Headline.Behaving.{are_slaves}
use Rattle.completeness_laws.proofs.Delivery.Ended.{TalkFacts}
use Rattle.completeness_laws.proofs.Delivery.Unanswered.{decided_length}

-- ---- a mark of outputs in the present phase
pub or_left : (o p : Option (List ℕ)) → is_some o ≡ true → is_some (or_else o p) ≡ true
or_left None p e = absurd cc
or_left (Some x) p e = refl

pub or_right : (o : Option (List ℕ)) (x : List ℕ) → is_some (or_else o (Some x)) ≡ true
or_right None x = refl
or_right (Some y) x = refl

module _ (setup : Setup) (slave : Slave) (log : List LogEntry) (number i : ℕ) where
  count_more : (m : Mark) (ms : List Mark) → count is_begun ms ≤ count is_begun (m ∷ ms)
  count_more (Begun job) ms = omega arith
  count_more (Asked request) ms = omega arith
  count_more Again ms = omega arith
  count_more (Answered request answer) ms = omega arith
  count_more Hinted ms = omega arith
  count_more (Brought k payload) ms = omega arith
  count_more (Turned settled) ms = omega arith
  count_more (Ended cause) ms = omega arith

  here_phase : (place : ℕ) (m : Mark) (xs : List Placed) → IsDated setup slave log place m xs → IsBroughtBy number i place m → phase_before setup log i ≡ count is_begun (m ∷ marks_of xs)
  here_phase place m xs d b = by m (b.1).1 d
    where
      by : (m : Mark) → m ≡ Brought number (b.1).0 → IsDated setup slave log place m xs → phase_before setup log i ≡ count is_begun (m ∷ marks_of xs)
      by (Brought k p) e d = ap (phase_before setup log) (sym b.0) ∙ d.phase
      by (Begun job) e d = absurd cc
      by (Asked request) e d = absurd cc
      by Again e d = absurd cc
      by (Answered request answer) e d = absurd cc
      by Hinted e d = absurd cc
      by (Turned settled) e d = absurd cc
      by (Ended cause) e d = absurd cc

  pub brought_phase : (xs : List Placed) → AreDated setup slave log xs → IsBroughtAt number i xs → phase_before setup log i ≤ count is_begun (marks_of xs)
  brought_phase [] d b = absurd b
  brought_phase (x ∷ xs) d (inl b) = let e = here_phase x.place x.mark xs d.0 b in omega (arith, e)
  brought_phase (x ∷ xs) d (inr b) = let e = brought_phase xs d.1 b in let f = count_more x.mark (marks_of xs) in omega (arith, e, f)

  kept_here : (m : Mark) (ms : List Mark) (p : List ℕ) → m ≡ Brought number p → is_some (oldest (mark_brings number) (this_phase (m ∷ ms))) ≡ true
  kept_here m ms p e =
      let P : Mark → Type 0 = λ y. is_some (oldest (mark_brings number) (this_phase (y ∷ ms))) ≡ true in
      subst P (sym e) (ap (λ (b : Bool). is_some (or_else (oldest (mark_brings number) (this_phase ms)) (if b then Some p else None))) (eq-eqb number number refl) ∙ or_right (oldest (mark_brings number) (this_phase ms)) p)

  pub kept_in : (xs : List Placed) → AreDated setup slave log xs → IsBroughtAt number i xs → phase_before setup log i ≡ count is_begun (marks_of xs) → is_some (oldest (mark_brings number) (this_phase (marks_of xs))) ≡ true
  kept_in [] d b e = absurd b
  kept_in (x ∷ xs) d (inl b) e = kept_here x.mark (marks_of xs) (b.1).0 (b.1).1
  kept_in (x ∷ xs) d (inr b) e = by x.mark e (λ z. kept_in xs d.1 b z) (brought_phase xs d.1 b)
    where
      Kept : List Mark → Type 0
      Kept ms = is_some (oldest (mark_brings number) (this_phase ms)) ≡ true

      by : (m : Mark) → phase_before setup log i ≡ count is_begun (m ∷ marks_of xs) → (phase_before setup log i ≡ count is_begun (marks_of xs) → Kept (marks_of xs)) → phase_before setup log i ≤ count is_begun (marks_of xs) → Kept (m ∷ marks_of xs)
      by (Begun job) e f l = absurd (omega (arith, e, l))
      by (Asked request) e f l = or_left (oldest (mark_brings number) (this_phase (marks_of xs))) None (f e)
      by Again e f l = or_left (oldest (mark_brings number) (this_phase (marks_of xs))) None (f e)
      by (Answered request answer) e f l = or_left (oldest (mark_brings number) (this_phase (marks_of xs))) None (f e)
      by Hinted e f l = or_left (oldest (mark_brings number) (this_phase (marks_of xs))) None (f e)
      by (Brought k p) e f l = or_left (oldest (mark_brings number) (this_phase (marks_of xs))) (mark_brings number (Brought k p)) (f e)
      by (Turned settled) e f l = or_left (oldest (mark_brings number) (this_phase (marks_of xs))) None (f e)
      by (Ended cause) e f l = or_left (oldest (mark_brings number) (this_phase (marks_of xs))) None (f e)

-- ---- row events before a phase
pub before_rises : (js : List Job) (p q : ℕ) → p ≤ q → events_before js p ≤ events_before js q
before_rises js zero q h = let z = none_before js in omega (arith, z)
before_rises js (suc p) zero h = absurd (omega (arith, h))
before_rises [] (suc p) (suc q) h = omega arith
before_rises (job ∷ js) (suc p) (suc q) h =
    let a = before_cons job js p in
    let b = before_cons job js q in
    let c = before_rises js p q (omega (arith, h)) in
    omega (arith, a, b, c)

some_event : (o : Option RowEvent) → IsEvent o → (k : RowEvent) × (o ≡ Some k)
some_event None e = absurd e
some_event (Some k) e = (k, refl)

pub not_more : (v : BenchProgress) → v.done ≤ events_counted v
not_more v = grind arith

waits_more : (v : BenchProgress) → v.waiting ≡ true → events_counted v ≡ v.done + 1
waits_more v e = ap (λ (b : Bool). if b then v.done + 1 else v.done) e

module _ (sc : Scenario) (other : SlaveDesc) (ok : IsScenario sc) (s : ℕ) (it : IsSlaveOf (parties sc other) s) (log : List LogEntry) (b : Behaves (parties sc other) (slaves_asked sc other) log) (run : IsRun (setup_from sc) log) (t : TalkFacts sc other ok s it log)
    (same : t.follows.marks ≡ marks_of t.follows.xs) (going : cause_of t.follows.marks ≡ None) where
  abbrev W : Parties
  W = parties sc other

  abbrev X : ConversingSlaves
  X = slaves_asked sc other

  abbrev S : Setup
  S = setup_from sc

  abbrev L : Slave
  L = slave_of sc s (slave_numbered sc other s)

  abbrev xs : List Placed
  xs = t.follows.xs

  abbrev V : BenchProgress
  V = view (decided_exchanges W s log)

  heard : AreHeard S
  heard = (setups_heard sc ok).heard

  legal : AreLegal S.limits (jobs_of S L) (marks_of xs)
  legal = let P : List Mark → Type 0 = λ z. AreLegal S.limits (jobs_of S L) z in subst P same t.legal

  rests : Rests S.limits (marks_of xs)
  rests = let P : List Mark → Type 0 = λ z. Rests S.limits z in subst P same t.rests

  none : cause_of (marks_of xs) ≡ None
  none = ap cause_of (sym same) ∙ going

  phase_is : count is_begun (marks_of xs) ≡ (course_at S log).phase
  phase_is = ap (count is_begun) (sym same) ∙ t.phase_is

  tell : asks S.address L log ≡ askings_told xs
  tell = (t.follows.tracks).is

  requests : requests_sent W s log ≡ map (note_of s) (askings_told xs)
  requests = are_asked S heard W (are_parties sc other ok) log run s it L (party sc other ok s it) ∙ ap (map (note_of s)) tell

  decisions : AreDecisions s (askings_told xs) (decided_exchanges W s log)
  decisions = let P : List Asking → Type 0 = λ x. AreDecisions s x (decided_exchanges W s log) in subst P tell (are_told S heard W (are_parties sc other ok) log run s it L (party sc other ok s it))

  view_is : V ≡ progress (askings_told xs)
  view_is = progress_told S heard W (are_parties sc other ok) log run s it L (party sc other ok s it) ∙ ap progress tell

  -- an open request for a row event is of the phase
  open_now : IsOpen (requests_sent W s log) (decided_exchanges W s log) → (g : ℕ) → count is_begun (marks_of xs) ≡ g + 1 → V.done + 1 ≤ events_before (jobs_of S L) (g + 1)
  open_now o g n = by (open_request (marks_of xs)) refl
    where
      by : (q : Option Request) → open_request (marks_of xs) ≡ q → V.done + 1 ≤ events_before (jobs_of S L) (g + 1)
      by None q =
          let a = (ordered S.limits (jobs_of S L) xs legal).decided q in
          let l = decided_length s (askings_told xs) (decided_exchanges W s log) a decisions in
          let m = ap length requests ∙ length-map (askings_told xs) (note_of s) in
          let one = o.one in
          absurd (omega (arith, l, m, one))
      by (Some r) q = two (askings_told xs) refl (let Q : Option Request → Type 0 = λ z. IsHeadRequest z (newest_number (marks_of xs)) (askings_told xs) in subst Q q (t.follows.tracks).head)
        where
          event : (b : Asking) (bs : List Asking) → askings_told xs ≡ b ∷ bs → b.code ≡ code_of r → (k : RowEvent) × (event_for (code_of r) ≡ Some k)
          event b bs z c =
              let P : List Note → Type 0 = λ ns. IsEvent (asked_first ns) in
              let e : IsEvent (event_asked (note_of s b)) = subst P (requests ∙ ap (map (note_of s)) z) o.event in
              let a : event_asked (note_of s b) ≡ event_for b.code = refl in
              let k = some_event (event_asked (note_of s b)) e in
              (k.0, sym (ap event_for c) ∙ sym a ∙ k.1)

          two : (bs : List Asking) → askings_told xs ≡ bs → IsHeadRequest (Some r) (newest_number (marks_of xs)) bs → V.done + 1 ≤ events_before (jobs_of S L) (g + 1)
          two [] z h = absurd h
          two (b ∷ bs) z h =
              let k = event b bs z (h.1).1 in
              let j = job_some (marks_of xs) g n in
              let w = counting.open_event S.limits (jobs_of S L) xs r k.0 legal rests none j.0 j.1 (open_latest (latest (marks_of xs)) r q) k.1 g n in
              let same' : w.f ≡ g = omega (arith, w.phase_is, n) in
              let P : ℕ → Type 0 = λ i. slice_get (jobs_of S L) i ≡ Some w.job in
              let next = before_next (jobs_of S L) g w.job (subst P same' w.job_is) in
              let one : events_of w.job ≡ 1 = ap (λ (x : Option RowEvent). if is_some x then 1 else 0) w.event_is in
              let d : V.done ≡ events_before (jobs_of S L) g = ap (λ (x : BenchProgress). x.done) view_is ∙ w.done ∙ ap (events_before (jobs_of S L)) same' in
              omega (arith, next, one, d)

  -- before any phase nothing is done
  idle_done : count is_begun (marks_of xs) ≡ 0 → (X.bench s log).events ≡ 0
  idle_done z = by (job_of (marks_of xs)) refl
    where
      nothing : askings_told xs ≡ [] → (X.bench s log).events ≡ 0
      nothing e = at (ahead W X (are_slaves sc other ok) log b s it)
        where
          v : V ≡ progress []
          v = view_is ∙ ap progress e

          at : ((X.bench s log).events ≡ V.done) ⊎ (((X.bench s log).events ≡ V.done + 1) × UnderWay (requests_sent W s log) (decided_exchanges W s log)) → (X.bench s log).events ≡ 0
          at (inl h) = h ∙ ap (λ (x : BenchProgress). x.done) v
          at (inr (h, inl w)) = let y : true ≡ false = sym w ∙ ap (λ (x : BenchProgress). x.waiting) v in absurd cc
          at (inr (h, inr o)) = let one = o.one in let m = ap length (requests ∙ ap (map (note_of s)) e) in absurd (omega (arith, one, m))

      by : (o : Option Job) → job_of (marks_of xs) ≡ o → (X.bench s log).events ≡ 0
      by None e = nothing (none_asked S.limits (jobs_of S L) xs legal e).0
      by (Some job) e = let c = counted (marks_of xs) job e in absurd (omega (arith, c.1, z))

  within_phase : (g : ℕ) → count is_begun (marks_of xs) ≡ g + 1 → (X.bench s log).events ≤ events_before (jobs_of S L) (g + 1)
  within_phase g n = at (ahead W X (are_slaves sc other ok) log b s it)
    where
      stand : StandsInPhase (jobs_of S L) g V
      stand = progress_by_phase S heard W (are_parties sc other ok) log run s it L (party sc other ok s it) g (sym phase_is ∙ n)

      at : ((X.bench s log).events ≡ V.done) ⊎ (((X.bench s log).events ≡ V.done + 1) × UnderWay (requests_sent W s log) (decided_exchanges W s log)) → (X.bench s log).events ≤ events_before (jobs_of S L) (g + 1)
      at (inl h) = let a = not_more V in let m = stand.most in omega (arith, h, a, m)
      at (inr (h, inl w)) = let a = waits_more V w in let m = stand.most in omega (arith, h, a, m)
      at (inr (h, inr o)) = let a = open_now o g n in omega (arith, h, a)

  -- one more event than those before phase f + 1 is done only in it or later
  pub phase_done : (f : ℕ) → events_before (jobs_of S L) f + 1 ≤ (X.bench s log).events → f + 1 ≤ (course_at S log).phase
  phase_done f h = by (count is_begun (marks_of xs)) refl
    where
      by : (c : ℕ) → count is_begun (marks_of xs) ≡ c → f + 1 ≤ (course_at S log).phase
      by zero c = let z = idle_done c in absurd (omega (arith, z, h))
      by (suc g) c = two (cases_lt f (g + 1))
        where
          two : (f < g + 1) ⊎ (g + 1 ≤ f) → f + 1 ≤ (course_at S log).phase
          two (inl l) = omega (arith, l, c, phase_is)
          two (inr l) =
              let a = within_phase g (omega (arith, c)) in
              let r = before_rises (jobs_of S L) (g + 1) f l in
              absurd (omega (arith, a, r, h))
