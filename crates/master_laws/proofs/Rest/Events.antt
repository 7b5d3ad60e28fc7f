-- In the log: a row event is asked for where nothing is under way.
use Rattle.std.proofs.Common.{◌≡◌, ℕ, ◌%◌, Bool, true, false, if◌then◌else◌, ◌⊎◌, inl, inr, Option, Some, None, List, [], ◌∷◌, refl, sym, ap, ◌∙◌, subst, arith}
use Rattle.std.specs.Prelude.{◌&&◌, slice_get}
use Rattle.std.proofs.lemmas.Bool.{and_parts}
use Rattle.dcp_types.specs.declared.addresses.Address.{Address}
use Rattle.dcp_types.specs.declared.limits.Limits.{Limits}
use Rattle.dcp_ends.specs.declared.entries.LogEntry.{LogEntry}
use Rattle.dcp_ends.specs.declared.entries.LogEntry.TheVariants.{Sent, Got, Idle, Turn}
use Rattle.dcp_ends.specs.Logs.{same_address}
use Rattle.pdu_layout.specs.Message.{message_of}
use Rattle.pdu_layout.specs.Reading.{message_in}
use Rattle.log_spec.specs.Messages.{Note, Request as Wanted, role_read}
use Rattle.log_spec.specs.Log.{Parties, IsSlaveOf, same, role_heard, Requests, in_channel, sent_in}
use Rattle.log_spec.proofs.Moves.{asked, requests_by_move}
use Rattle.lockstep_laws.specs.Steps.{RowEvent, event_asked, BenchProgress}
use Rattle.master_spec.specs.declared.requests.Request.{Request}
use Rattle.master_spec.specs.declared.reactions.Reaction.{Reaction}
use Rattle.master_spec.specs.declared.reactions.Reaction.TheVariants.{Wait, Ask, Repeat}
use Rattle.master_spec.specs.declared.reports.Report.{Report}
use Rattle.master_spec.specs.declared.setups.Slave.{Slave}
use Rattle.master_spec.specs.declared.setups.Setup.{Setup}
use Rattle.master_spec.specs.Jobs.{Job}
use Rattle.master_spec.specs.Marks as marks
use Rattle.master_spec.specs.Marks.{Mark, job_of, cause_of, latest, open_request, newest_number}
use Rattle.master_spec.specs.News.{pdu_of}
use Rattle.master_spec.specs.Requests.{Asking, asks}
use Rattle.master_spec.specs.Setup.{jobs_of}
use Rattle.master_log_laws.specs.Asking.Legal.{Does, AreLegal, GoesByRule}
use Rattle.master_log_laws.proofs.Asking.Legal.{own_rests, going}
use Rattle.master_log_laws.specs.Index.Index.{Placed, at, marks_of, code_of, first_at, again_at, askings_told, ReadBack, IsAsked, IsAgain, Owes}
use Rattle.master_log_laws.specs.Index.Runs.{events_of_master, course_at, owed, IsFirstSend, where_it_is, IsRun}
use Rattle.master_log_laws.specs.Index.Laws.{AreHeard}
use Rattle.master_log_laws.specs.Index.Follows.{mine, talk_with}
use Rattle.master_log_laws.proofs.Index.Laws.{listens}
use Rattle.master_log_laws.proofs.Index.Reported.{reported}
use Rattle.master_log_laws.proofs.Index.Runs.{followed, with_at}
use Rattle.master_log_laws.proofs.Phases.Now.{open_latest}
use Rattle.master_log_laws.proofs.Phases.Tags.{no_reaction}
use Rattle.master_laws.specs.Meets.Laws.{IsParty, ArePartiesOf, note_of}
use Rattle.master_laws.proofs.Meets.Sends.{role_told}
use Rattle.master_laws.proofs.Meets.Asking.{same_as, mine_first, not_sent}
use Rattle.master_laws.specs.Rows.Laws.{event_for, progress}
use Rattle.master_laws.proofs.Rows.Views.{progress_told}
use Rattle.master_laws.specs.Rest.Laws.{RowsFindRest}
use Rattle.master_laws.proofs.Rest.Resting.{rest_open}

job_there : (limits : Limits) (ms : List Mark) (r : Reaction) → Does limits ms r → (Wait ≡ r → ⊥) → (job : Job) × (job_of ms ≡ Some job)
job_there limits [] r d n = absurd d
job_there limits (m ∷ ms) r d n = by (job_of (m ∷ ms)) refl
  where
    by : (o : Option Job) → job_of (m ∷ ms) ≡ o → (job : Job) × (job_of (m ∷ ms) ≡ Some job)
    by None e = absurd (n (sym (no_reaction limits m ms e) ∙ d))
    by (Some job) e = (job, e)

progress_again : (n : ℕ) (bs : List Asking) → progress (again_at n bs) ≡ progress bs
progress_again n [] = refl
progress_again n (b ∷ bs) = refl

-- what is sent, and that it finds rest where it asks for a row event
pub record IsSentAtRest (id : ℕ) (bs : List Asking) (bytes : List ℕ) : Type 0 where
  pub request : Request
  pub number : ℕ
  pub read : message_in bytes ≡ Some (message_of (pdu_of number id request))
  pub rest : (k : RowEvent) → event_for (code_of request) ≡ Some k → (progress bs).waiting ≡ false

sent_at_rest : (limits : Limits) (js : List Job) (good : Request → Type 0) (id : ℕ) (marks' : List Mark) (xs : List Placed) (b : List ℕ) (more : List (List ℕ)) → ((r : Request) → good r → ReadBack id r)
    → Owes good id (b ∷ more) marks' (marks_of xs) → AreLegal limits js marks' → IsSentAtRest id (askings_told xs) b
sent_at_rest limits js good id marks' xs b (c ∷ more) back o l = absurd o
sent_at_rest limits js good id marks' xs b [] back o l = by o.0 (o.1).0 ((o.1).1).0 ((o.1).1).1
  where
    P : List Mark → Type 0
    P z = AreLegal limits js z

    asks' : (r : Request) → Wait ≡ Ask r → ⊥
    asks' r z = cc

    repeats' : Wait ≡ Repeat → ⊥
    repeats' z = cc

    by : (r : Request) → good r → cause_of (marks_of xs) ≡ None → IsAsked id b marks' (marks_of xs) r ⊎ IsAgain id b marks' (marks_of xs) r → IsSentAtRest id (askings_told xs) b
    by r g c (inl k) =
        let l' = subst P k.0 l in
        let j = job_there limits (marks_of xs) (Ask r) l'.0 (asks' r) in
        record {
          request = r;
          number = marks.asked (marks_of xs) % 65536;
          read = ap message_in k.1 ∙ back r g (marks.asked (marks_of xs) % 65536) (omega arith);
          rest = λ e h. rest_open limits js (at 0 (marks.Asked r) ∷ xs) r e l' (own_rests limits (marks.Asked r) (marks_of xs) tt) c j.0 j.1 refl h;
        }
    by r g c (inr k) =
        let l' = subst P k.0 l in
        let j = job_there limits (marks_of xs) Repeat l'.0 repeats' in
        record {
          request = r;
          number = newest_number (marks_of xs);
          read = ap message_in (k.1).1 ∙ back r g (newest_number (marks_of xs)) (omega arith);
          rest = λ e h. (ap (λ (v : BenchProgress). v.waiting) (sym (progress_again 0 (askings_told xs))) ∙ rest_open limits js (at 0 marks.Again ∷ xs) r e l' (own_rests limits marks.Again (marks_of xs) tt) c j.0 j.1 (open_latest (latest (marks_of xs)) r (k.1).0) h);
        }

module _ (setup : Setup) (h : AreHeard setup) (w : Parties) (ps : ArePartiesOf setup w) (s : ℕ) (is : IsSlaveOf w s) (slave : Slave) (p : IsParty setup w s slave) where
  legal_at : (log : List LogEntry) (ms : List Mark) → slice_get (course_at setup log).talks (p.is_in).0 ≡ Some (talk_with slave ms) → AreLegal setup.limits (jobs_of setup slave) ms
  legal_at log ms here = (with_at (λ u m. GoesByRule setup.limits (jobs_of setup u) (course_at setup log).phase m) (course_at setup log).talks (p.is_in).0 (talk_with slave ms) (going setup h.runs (events_of_master setup log)).goes here).legal

  at_rest : (log : List LogEntry) → IsRun setup log → (to : Address) (bytes : List ℕ) → IsFirstSend (owed setup log) to bytes → same_address to slave.address ≡ true → IsSentAtRest slave.id (asks setup.address slave log) bytes
  at_rest log run to bytes first here = by (course_at setup log).report refl
    where
      first' : (more : List (List ℕ)) × (mine slave.address (owed setup log) ≡ bytes ∷ more)
      first' = mine_first slave.address to bytes (owed setup log) first here

      i : ℕ
      i = (p.is_in).0

      clash : (more : List (List ℕ)) → bytes ∷ more ≡ [] → ⊥
      clash more z = cc

      by : (o : Option Report) → (course_at setup log).report ≡ o → IsSentAtRest slave.id (asks setup.address slave log) bytes
      by None r =
          let f = followed setup (ReadBack slave.id) i slave (listens setup h i slave (p.is_in).1) h.runs log run r in
          let t = f.tracks in
          let P : List (List ℕ) → Type 0 = λ z. Owes (ReadBack slave.id) slave.id z f.marks (marks_of f.xs) in
          let Q : List Asking → Type 0 = λ z. IsSentAtRest slave.id z bytes in
          subst Q (sym t.is) (sent_at_rest setup.limits (jobs_of setup slave) (ReadBack slave.id) slave.id f.marks f.xs bytes first'.0 (λ r g. g) (subst P first'.1 t.owes) (legal_at log f.marks f.here))
      by (Some report) r =
          let z = (reported setup (ReadBack slave.id) i slave (listens setup h i slave (p.is_in).1) h.runs log run report r).1 in
          absurd (clash first'.0 (sym first'.1 ∙ z))

  both : (from to : Address) → (same from w.master && same to (w.slave s)) ≡ (same_address from setup.address && same_address to slave.address)
  both from to =
      ap (λ (b : Bool). b && same to (w.slave s)) (same_as from w.master ∙ ap (same_address from) ps.master)
      ∙ ap (λ (b : Bool). same_address from setup.address && b) (same_as to (w.slave s) ∙ ap (same_address to) (sym p.address))

  no_note : (n : Note) → None ≡ Some n → ⊥
  no_note n z = cc

  finds : (e : LogEntry) (log : List LogEntry) → IsRun setup (e ∷ log) → (n : Note) (k : RowEvent) → sent_in w (Requests s) e ≡ Some n → event_asked n ≡ Some k → (progress (asks setup.address slave log)).waiting ≡ false
  finds (Got at' from bytes) log run n k e v = absurd (no_note n e)
  finds (Idle at') log run n k e v = absurd (no_note n e)
  finds (Turn at') log run n k e v = absurd (no_note n e)
  finds (Sent from to bytes) log run n k e v = by (same_address from setup.address && same_address to slave.address) refl
    where
      first : same_address from setup.address ≡ true → IsFirstSend (owed setup log) to bytes
      first x = let Q : Bool → Type 0 = λ b. where_it_is b (IsFirstSend (owed setup log) to bytes) in subst Q x run.0

      by : (b : Bool) → (same_address from setup.address && same_address to slave.address) ≡ b → (progress (asks setup.address slave log)).waiting ≡ false
      by false x = absurd (no_note n (sym (not_sent w s from to (role_heard w bytes) (both from to ∙ x)) ∙ e))
      by true x =
          let z = and_parts (same_address from setup.address) (same_address to slave.address) x in
          let f = at_rest log run.1 to bytes (first z.0) z.1 in
          let m = note_of slave.id (first_at 0 f.number f.request) in
          let role : role_heard w bytes ≡ Wanted slave.id m = ap role_read (ps.read bytes ∙ f.read) ∙ role_told 0 f.number slave.id f.request in
          let c : in_channel w (Requests s) from to (role_heard w bytes) ≡ Some m = ap (in_channel w (Requests s) from to) role ∙ ap (λ (b : Bool). if b then Some m else None) (both from to ∙ x) in
          let same : Some m ≡ Some n = sym c ∙ e in
          let is_it : m ≡ n = cc in
          f.rest k (ap event_asked is_it ∙ v)

pub rows_rest : RowsFindRest
rows_rest setup h w ps e log run s is slave p n k mv v =
    ap (λ (x : BenchProgress). x.waiting) (progress_told setup h w ps log run.1 s is slave p)
    ∙ finds setup h w ps s is slave p e log run n k (requests_by_move w s e ∙ ap asked mv) v
