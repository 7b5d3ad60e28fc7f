-- Where a conversation ends, all that is known of it, and that a reported one ended at some entry.
use Rattle.std.proofs.Common.{◌≡◌, ℕ, ◌+◌, ◌-◌, Bool, inl, inr, Option, Some, None, List, [], ◌∷◌, ◌++◌, length, refl, sym, ap, ◌∙◌, subst, arith}
use Rattle.std.specs.Prelude.{slice_get}
use Rattle.dcp_ends.specs.declared.entries.LogEntry.{LogEntry}
use Rattle.slave_desc.specs.declared.descriptions.SlaveDesc.{SlaveDesc}
use Rattle.scenario.specs.declared.scenarios.Scenario.{Scenario}
use Rattle.scenario.specs.Sound.{IsScenario}
use Rattle.log_spec.specs.Log.{IsSlaveOf}
use Rattle.master_spec.specs.declared.causes.Cause.{Cause}
use Rattle.master_spec.specs.declared.reports.Report.{Report}
use Rattle.master_spec.specs.declared.setups.Slave.{Slave}
use Rattle.master_spec.specs.declared.setups.Setup.{Setup}
use Rattle.master_spec.specs.Setup.{setup_from, slave_of, jobs_of}
use Rattle.master_spec.specs.Marks.{Mark, count, is_begun, cause_of}
use Rattle.master_spec.specs.Requests.{asks}
use Rattle.master_log_laws.specs.Asking.Legal.{Rests, AreLegal, GoesByRule}
use Rattle.master_log_laws.proofs.Asking.Legal.{going}
use Rattle.master_log_laws.specs.Index.Runs.{events_of_master, course_at, owed, where_it_is, MasterActs, IsRun}
use Rattle.master_log_laws.specs.Index.Index.{marks_of, ReadBack, Owes}
use Rattle.master_log_laws.specs.Index.Follows.{mine, talk_with, FollowsCourse}
use Rattle.master_log_laws.proofs.Index.Laws.{listens}
use Rattle.master_log_laws.proofs.Index.Runs.{followed, with_at}
use Rattle.master_log_laws.proofs.Scenarios.Heard.{setups_heard}
use Rattle.lockstep_laws.specs.Models.Scenarios.{slave_numbered}
use Rattle.run_laws.specs.Laws.{parties}
use Rattle.run_laws.proofs.Runs.{party}
use Rattle.completeness_laws.specs.Moments.{cause_in, cause_at, EndsHere}
use Rattle.completeness_laws.proofs.Delivery.Coming.{none_some, Ending, reported_same, ending}

pub run_front : (setup : Setup) (later log : List LogEntry) → IsRun setup (later ++ log) → IsRun setup log
run_front setup [] log r = r
run_front setup (e ∷ later) log r = run_front setup later log r.1

-- the master has its event, so it has sent all
master_free : (setup : Setup) (slave : Slave) (marks : List Mark) (cause : Cause) (e : LogEntry) (log : List LogEntry) → Ending setup slave marks cause e → MasterActs setup e log → owed setup log ≡ []
master_free setup slave marks cause e log (inl k) a =
    let P : LogEntry → Type 0 = λ x. MasterActs setup x log in
    let Q : Bool → Type 0 = λ b. where_it_is b (owed setup log ≡ []) in
    subst Q k.own (subst P k.is a)
master_free setup slave marks cause e log (inr k) a =
    let P : LogEntry → Type 0 = λ x. MasterActs setup x log in
    let Q : Bool → Type 0 = λ b. where_it_is b (owed setup log ≡ []) in
    subst Q k.own (subst P k.is a)

module _ (sc : Scenario) (other : SlaveDesc) (ok : IsScenario sc) (s : ℕ) (is : IsSlaveOf (parties sc other) s) where
  abbrev pub Setup' : Setup
  Setup' = setup_from sc

  abbrev pub Slave' : Slave
  Slave' = slave_of sc s (slave_numbered sc other s)

  pub numbered_at : slice_get (setup_from sc).slaves (s - 1) ≡ Some Slave'
  numbered_at =
      let i = (party sc other ok s is).is_in in
      let n : s ≡ i.0 + 1 = (setups_heard sc ok).numbered i.0 Slave' i.1 in
      let m : i.0 ≡ s - 1 = omega (arith, n) in
      ap (slice_get (setup_from sc).slaves) (sym m) ∙ i.1

  -- what is known of the conversation at a moment before the report
  pub record TalkFacts (log : List LogEntry) : Type 0 where
    pub follows : FollowsCourse Setup' (ReadBack s) (s - 1) Slave' log (length log) (course_at Setup' log) (owed Setup' log) (asks Setup'.address Slave' log)
    pub legal : AreLegal Setup'.limits (jobs_of Setup' Slave') follows.marks
    pub rests : Rests Setup'.limits follows.marks
    pub phase_is : count is_begun follows.marks ≡ (course_at Setup' log).phase

  pub talk_facts : (log : List LogEntry) → IsRun Setup' log → (course_at Setup' log).report ≡ None → TalkFacts log
  talk_facts log run silent =
      let h = (setups_heard sc ok).heard in
      let f = followed Setup' (ReadBack s) (s - 1) Slave' (listens Setup' h (s - 1) Slave' numbered_at) h.runs log run silent in
      let g = with_at (λ u m. GoesByRule Setup'.limits (jobs_of Setup' u) (course_at Setup' log).phase m) (course_at Setup' log).talks (s - 1) (talk_with Slave' f.marks) (going Setup' h.runs (events_of_master Setup' log)).goes f.here in
      record { follows = f; legal = g.legal; rests = g.rests; phase_is = g.phase_is }

  -- where it ends
  pub record EndFacts (cause : Cause) (e : LogEntry) (log : List LogEntry) : Type 0 where
    pub run : IsRun Setup' (e ∷ log)
    pub talk : TalkFacts log
    pub nothing : owed Setup' log ≡ []
    pub marks_are : talk.follows.marks ≡ marks_of talk.follows.xs
    pub going : cause_of talk.follows.marks ≡ None
    pub silent : (course_at Setup' log).report ≡ None
    pub by : Ending Setup' Slave' talk.follows.marks cause e

  pub end_facts : (cause : Cause) (e : LogEntry) (log : List LogEntry) → IsRun Setup' (e ∷ log) → EndsHere sc s cause e log → EndFacts cause e log
  end_facts cause e log run ends = by (course_at Setup' log).report refl
    where
      by : (o : Option Report) → (course_at Setup' log).report ≡ o → EndFacts cause e log
      by (Some report) r = absurd (none_some cause (cause_at sc s log) ends.going (sym (reported_same Setup' (s - 1) e log report r) ∙ ends.ended))
      by None r =
          let t = talk_facts log run.1 r in
          let f = t.follows in
          let n : cause_of f.marks ≡ None = sym (ap cause_in f.here) ∙ ends.going in
          let k = ending Setup' (s - 1) Slave' f.marks cause e log r f.here n ends.ended in
          let w = master_free Setup' Slave' f.marks cause e log k run.0 in
          record { run = run; talk = t; nothing = w; marks_are = owes_none f w; going = n; silent = r; by = k }
        where
          owes_none : (f : FollowsCourse Setup' (ReadBack s) (s - 1) Slave' log (length log) (course_at Setup' log) (owed Setup' log) (asks Setup'.address Slave' log)) → owed Setup' log ≡ [] → f.marks ≡ marks_of f.xs
          owes_none f w = none f (ap (mine Slave'.address) w)
            where
              none : (f : FollowsCourse Setup' (ReadBack s) (s - 1) Slave' log (length log) (course_at Setup' log) (owed Setup' log) (asks Setup'.address Slave' log)) → mine Slave'.address (owed Setup' log) ≡ [] → f.marks ≡ marks_of f.xs
              none f e = let P : List (List ℕ) → Type 0 = λ z. Owes (ReadBack s) s z f.marks (marks_of f.xs) in subst P e (f.tracks).owes
