-- What the master sends a slave is never a request for notices of its log.
use Rattle.std.proofs.Common.{◌≡◌, ℕ, ◌-◌, ◌<◌, Bool, ◌⊎◌, inl, inr, Option, Some, None, List, [], ◌∷◌, refl, sym, ap, ◌∙◌, subst, arith}
use Rattle.std.specs.Prelude.{◌%◌}
use Rattle.std.specs.List.{AllByRecursion}
use Rattle.dcp_ends.specs.declared.entries.LogEntry.{LogEntry}
use Rattle.dcp_ends.specs.declared.entries.LogEntry.TheVariants.{Sent}
use Rattle.pdu_layout.specs.Message.{Message, message_of}
use Rattle.pdu_layout.specs.Reading.{message_in}
use Rattle.slave_desc.specs.declared.descriptions.SlaveDesc.{SlaveDesc}
use Rattle.scenario.specs.declared.scenarios.Scenario.{Scenario}
use Rattle.scenario.specs.Sound.{IsScenario}
use Rattle.log_spec.specs.Log.{Parties, IsSlaveOf}
use Rattle.master_spec.specs.declared.reports.Report.{Report}
use Rattle.master_spec.specs.declared.requests.Request.{Request}
use Rattle.master_spec.specs.declared.setups.Slave.{Slave}
use Rattle.master_spec.specs.declared.setups.Setup.{Setup}
use Rattle.master_spec.specs.Jobs.{Job}
use Rattle.master_spec.specs.Marks.{Mark, asked, newest_number}
use Rattle.master_spec.specs.News.{pdu_of, request_bytes}
use Rattle.master_spec.specs.Setup.{setup_from, slave_of, jobs_of}
use Rattle.slave_spec.specs.Heard as spec
use Rattle.master_log_laws.specs.Index.Runs.{course_at, owed, IsFirstSend, where_it_is, IsRun}
use Rattle.master_log_laws.specs.Index.Index.{ReadBack, IsAsked, IsAgain, Owes, marks_of}
use Rattle.master_log_laws.specs.Index.Follows.{mine, Listens}
use Rattle.master_log_laws.specs.Index.Laws.{AreHeard}
use Rattle.master_log_laws.proofs.Index.Mine.{same_self}
use Rattle.master_log_laws.proofs.Index.Reported.{reported}
use Rattle.master_log_laws.proofs.Index.Runs.{followed}
use Rattle.master_laws.proofs.Meets.Asking.{mine_first}
use Rattle.master_log_laws.proofs.Scenarios.Heard.{setups_heard}
use Rattle.lockstep_laws.specs.Models.Scenarios.{slave_numbered}
use Rattle.run_laws.specs.Laws.{parties}
use Rattle.completeness_laws.proofs.Delivery.Ended.{numbered_at}
use Rattle.completeness_laws.proofs.Quiet.Plain.{IsPlainSetting, IsPlainRequest, IsPlainHeard, plain_heard, jobs_plain, all_at, first_plain}

-- ---- what the master sends a slave
module _ (sc : Scenario) (other : SlaveDesc) (ok : IsScenario sc) (s : ℕ) (it : IsSlaveOf (parties sc other) s) where
  abbrev W : Parties
  W = parties sc other

  abbrev S : Setup
  S = setup_from sc

  abbrev L : Slave
  L = slave_of sc s (slave_numbered sc other s)

  abbrev Good : Request → Type 0
  Good r = ReadBack s r × IsPlainRequest r

  heard : AreHeard S
  heard = (setups_heard sc ok).heard

  hears : Listens S Good (s - 1) L
  hears =
      let e = numbered_at sc other ok s it in
      record {
        is = e;
        apart = λ j t z y. heard.apart j (s - 1) t L z e y;
        back = λ r z. z.0;
        state = (heard.state (s - 1) L e, tt);
        error = (heard.error (s - 1) L e, tt);
        jobs = λ k job z.
            (let g = heard.jobs (s - 1) L e k job z in let p = all_at (λ (j : Job). AllByRecursion IsPlainSetting j.list) (jobs_of S L) k job (jobs_plain sc s (slave_numbered sc other s)) z in
            (λ r y. (g.0 r y, first_plain job r p y), λ i body y. (g.1 i body y, all_at IsPlainSetting job.list i body p y)));
      }

  -- what is owed is a plain request
  owed_plain : (bytes : List ℕ) (more : List (List ℕ)) (marks older : List Mark) → Owes Good s (bytes ∷ more) marks older → IsPlainHeard (spec.heard bytes)
  unfolding spec.heard
  owed_plain bytes (c ∷ more) marks older o = absurd o
  owed_plain bytes [] marks older o = by o.0 (o.1).0 ((o.1).1).1
    where
      of : (k : ℕ) (r : Request) → k < 65536 → Good r → bytes ≡ request_bytes k s r → IsPlainHeard (spec.heard_as (message_in bytes))
      of k r h g e =
          let m : message_in bytes ≡ Some (message_of (pdu_of k s r)) = ap message_in e ∙ g.0 k h in
          let P : Option Message → Type 0 = λ z. IsPlainHeard (spec.heard_as z) in
          subst P (sym m) (plain_heard k s r g.1)

      by : (r : Request) → Good r → IsAsked s bytes marks older r ⊎ IsAgain s bytes marks older r → IsPlainHeard (spec.heard_as (message_in bytes))
      by r g (inl k) = of (asked older % 65536) r (omega arith) g k.1
      by r g (inr k) = of (newest_number older) r (omega arith) g (k.1).1

  pub sent_plain : (bytes : List ℕ) (log : List LogEntry) → IsRun S (Sent W.master (W.slave s) bytes ∷ log) → IsPlainHeard (spec.heard bytes)
  sent_plain bytes log run = by (course_at S log).report refl
    where
      first : IsFirstSend (owed S log) (W.slave s) bytes
      first = let P : Bool → Type 0 = λ b. where_it_is b (IsFirstSend (owed S log) (W.slave s) bytes) in subst P (same_self W.master) run.0

      own : (more : List (List ℕ)) × (mine L.address (owed S log) ≡ bytes ∷ more)
      own = mine_first L.address (W.slave s) bytes (owed S log) first (same_self L.address)

      clash : (more : List (List ℕ)) → bytes ∷ more ≡ [] → ⊥
      clash more z = cc

      by : (o : Option Report) → (course_at S log).report ≡ o → IsPlainHeard (spec.heard bytes)
      by None r =
          let f = followed S Good (s - 1) L hears heard.runs log run.1 r in
          let P : List (List ℕ) → Type 0 = λ z. Owes Good s z f.marks (marks_of f.xs) in
          owed_plain bytes own.0 f.marks (marks_of f.xs) (subst P own.1 f.tracks.owes)
      by (Some report) r = absurd (clash own.0 (sym own.1 ∙ (reported S Good (s - 1) L hears heard.runs log run.1 report r).1))
