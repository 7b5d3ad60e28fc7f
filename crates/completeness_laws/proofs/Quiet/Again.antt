-- Where no request is open for as many turns as the limit, the master sends none again.
use Rattle.std.proofs.Common.{◌≡◌, ℕ, ◌+◌, ◌-◌, ◌%◌, ◌<◌, ◌≤◌, Bool, if◌then◌else◌, ◌⊎◌, inl, inr, Option, Some, None, List, [], ◌∷◌, ◌++◌, length, refl, sym, ap, ◌∙◌, subst, arith}
use Rattle.std.specs.Prelude.{◌&&◌}
use Rattle.dcp_types.specs.declared.addresses.Address.{Address}
use Rattle.dcp_ends.specs.Logs.{same_address}
use Rattle.dcp_ends.specs.declared.entries.LogEntry.{LogEntry}
use Rattle.dcp_ends.specs.declared.entries.LogEntry.TheVariants.{Sent}
use Rattle.pdu_layout.specs.Reading.{message_in}
use Rattle.slave_desc.specs.declared.descriptions.SlaveDesc.{SlaveDesc}
use Rattle.scenario.specs.declared.scenarios.Scenario.{Scenario}
use Rattle.scenario.specs.Sound.{IsScenario}
use Rattle.log_spec.specs.Log.{Parties, IsSlaveOf}
use Rattle.master_spec.specs.declared.reports.Report.{Report}
use Rattle.master_spec.specs.declared.requests.Request.{Request}
use Rattle.master_spec.specs.declared.requests.Latest.{Latest}
use Rattle.master_spec.specs.declared.requests.Latest.TheVariants as latests
use Rattle.master_spec.specs.declared.setups.Slave.{Slave}
use Rattle.master_spec.specs.declared.setups.Setup.{Setup}
use Rattle.master_spec.specs.Marks.{Mark, Again, asked, is_sending, latest, open_request}
use Rattle.master_spec.specs.News.{request_bytes}
use Rattle.master_spec.specs.Requests.{Asking, asking_in, asks, turns_before, with_asking}
use Rattle.master_spec.specs.Setup.{setup_from, slave_of, jobs_of}
use Rattle.master_spec.specs.Shown.{last_sending}
use Rattle.master_log_laws.specs.Asking.Legal.{AreLegal}
use Rattle.master_log_laws.specs.Index.Runs.{course_at, owed, IsFirstSend, where_it_is, IsRun}
use Rattle.master_log_laws.specs.Index.Index.{Placed, marks_of, askings_told, first_at, ReadBack, IsAsked, IsAgain, Owes}
use Rattle.master_log_laws.specs.Index.Dates.{clock}
use Rattle.master_log_laws.specs.Index.Follows.{mine}
use Rattle.master_log_laws.specs.Index.Laws.{AreHeard}
use Rattle.master_log_laws.proofs.Index.Index.{sent_new}
use Rattle.master_log_laws.proofs.Index.Laws.{listens}
use Rattle.master_log_laws.proofs.Index.Mine.{same_self}
use Rattle.master_log_laws.proofs.Index.Reported.{reported}
use Rattle.master_log_laws.proofs.Phases.Now.{now, past, Linked, linked, open_latest, split}
use Rattle.master_log_laws.proofs.Failures.Turns.{turns_to}
use Rattle.master_log_laws.proofs.Failures.Silences.{last_of, sendings_in_phases, sent_last, repeat_turns}
use Rattle.master_laws.proofs.Meets.Asking.{mine_first}
use Rattle.master_log_laws.proofs.Scenarios.Heard.{setups_heard}
use Rattle.lockstep_laws.specs.Models.Scenarios.{slave_numbered}
use Rattle.run_laws.specs.Laws.{parties}
use Rattle.completeness_laws.proofs.Delivery.Ended.{numbered_at, TalkFacts, talk_facts}

-- the newest request was sent once, and is decided or not open for long
abbrev pub IsYoungHead : Address → (limit : ℕ) → List LogEntry → List Asking → Type 0
IsYoungHead master limit log [] = Unit {0}
IsYoungHead master limit log (b ∷ bs) = b.decision ≡ None → (b.repeats ≡ []) × (turns_before master log (length log) < turns_before master log b.first + limit)

module _ (sc : Scenario) (other : SlaveDesc) (ok : IsScenario sc) (s : ℕ) (it : IsSlaveOf (parties sc other) s) where
  abbrev W : Parties
  W = parties sc other

  abbrev S : Setup
  S = setup_from sc

  abbrev L : Slave
  L = slave_of sc s (slave_numbered sc other s)

  heard : AreHeard S
  heard = (setups_heard sc ok).heard

  -- a new request was sent at this entry
  pub record IsNewlyAsked (bytes : List ℕ) (log : List LogEntry) : Type 0 where
    pub number : ℕ
    pub request : Request
    pub is : asks S.address L (Sent W.master (W.slave s) bytes ∷ log) ≡ first_at (length log) number request ∷ asks S.address L log

  module _ (bytes : List ℕ) (log : List LogEntry) (run : IsRun S (Sent W.master (W.slave s) bytes ∷ log)) (young : IsYoungHead S.address S.limits.turn_limit log (asks S.address L log)) (one : 1 ≤ S.limits.turn_limit) where
    entry_asks : asks S.address L (Sent W.master (W.slave s) bytes ∷ log) ≡ with_asking (asking_in (length log) (message_in bytes)) (asks S.address L log)
    entry_asks =
        ap (λ (b : Bool). if b && same_address (W.slave s) L.address then with_asking (asking_in (length log) (message_in bytes)) (asks S.address L log) else asks S.address L log) (same_self W.master)
        ∙ ap (λ (b : Bool). if b then with_asking (asking_in (length log) (message_in bytes)) (asks S.address L log) else asks S.address L log) (same_self L.address)

    first : IsFirstSend (owed S log) (W.slave s) bytes
    first = let P : Bool → Type 0 = λ b. where_it_is b (IsFirstSend (owed S log) (W.slave s) bytes) in subst P (same_self W.master) run.0

    own : (more : List (List ℕ)) × (mine L.address (owed S log) ≡ bytes ∷ more)
    own = mine_first L.address (W.slave s) bytes (owed S log) first (same_self L.address)

    clash : (more : List (List ℕ)) → bytes ∷ more ≡ [] → ⊥
    clash more z = cc

    module _ (t : TalkFacts sc other ok s it log) where
      abbrev xs : List Placed
      xs = t.follows.xs

      tell : asks S.address L log ≡ askings_told xs
      tell = t.follows.tracks.is

      new : (r : Request) → ReadBack s r → bytes ≡ request_bytes (asked (marks_of xs) % 65536) s r → IsNewlyAsked bytes log
      new r g e = record {
        number = asked (marks_of xs) % 65536;
        request = r;
        is = entry_asks ∙ ap (λ (z : List ℕ). with_asking (asking_in (length log) (message_in z)) (asks S.address L log)) e
            ∙ ap (with_asking (asking_in (length log) (message_in (request_bytes (asked (marks_of xs) % 65536) s r)))) tell
            ∙ sent_new (length log) s r xs g t.follows.tracks.head
            ∙ ap (λ (z : List Asking). first_at (length log) (asked (marks_of xs) % 65536) r ∷ z) (sym tell);
      }

      again : (r : Request) → AreLegal S.limits (jobs_of S L) (Again ∷ marks_of xs) → open_request (marks_of xs) ≡ Some r → ⊥
      again r l o = by (now xs) refl (subst P (open_latest (latest (marks_of xs)) r o) (linked S.limits (jobs_of S L) xs l.1))
        where
          P : Latest → Type 0
          P y = Linked y (now xs)

          by : (os : List Asking) → now xs ≡ os → Linked (latests.Asked r) os → ⊥
          by [] e k = k
          by (b ∷ rest) e k =
              let told : asks S.address L log ≡ b ∷ (rest ++ askings_told (past xs)) = tell ∙ split S.limits (jobs_of S L) xs l.1 ∙ ap (λ (z : List Asking). z ++ askings_told (past xs)) e in
              let Y : List Asking → Type 0 = IsYoungHead S.address S.limits.turn_limit log in
              let y = subst Y told young k.1 in
              let since = repeat_turns S.limits (jobs_of S L) (marks_of xs) one l.1 l.0 in
              let to = turns_to S L log S.limits (jobs_of S L) is_sending xs (last_of b) (sendings_in_phases S.limits (jobs_of S L)) l.1 t.follows.dated.dates (sent_last xs b rest e) in
              let now_is : turns_before S.address log (length log) ≡ clock (marks_of xs) = t.follows.dated.now in
              let last : turns_before S.address log (last_of b) ≡ turns_before S.address log b.first = ap (λ (z : List ℕ). turns_before S.address log (last_sending b.first z)) y.0 in
              let less = y.1 in
              omega (arith, since, to, now_is, last, less)

      by_owed : (more : List (List ℕ)) → Owes (ReadBack s) s (bytes ∷ more) t.follows.marks (marks_of xs) → IsNewlyAsked bytes log
      by_owed (c ∷ more) o = absurd o
      by_owed [] o = by o.0 (o.1).0 ((o.1).1).1
        where
          Q : List Mark → Type 0
          Q z = AreLegal S.limits (jobs_of S L) z

          by : (r : Request) → ReadBack s r → IsAsked s bytes t.follows.marks (marks_of xs) r ⊎ IsAgain s bytes t.follows.marks (marks_of xs) r → IsNewlyAsked bytes log
          by r g (inl k) = new r g k.1
          by r g (inr k) = absurd (again r (subst Q k.0 t.legal) (k.1).0)

    pub newly_asked : IsNewlyAsked bytes log
    newly_asked = by (course_at S log).report refl
      where
        by : (o : Option Report) → (course_at S log).report ≡ o → IsNewlyAsked bytes log
        by None r =
            let t = talk_facts sc other ok s it log run.1 r in
            let P : List (List ℕ) → Type 0 = λ z. Owes (ReadBack s) s z t.follows.marks (marks_of t.follows.xs) in
            by_owed t own.0 (subst P own.1 t.follows.tracks.owes)
        by (Some report) r =
            absurd (clash own.0 (sym own.1 ∙ (reported S (ReadBack s) (s - 1) L (listens S heard (s - 1) L (numbered_at sc other ok s it)) heard.runs log run.1 report r).1))
