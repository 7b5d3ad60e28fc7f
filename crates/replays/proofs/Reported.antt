-- The log of a run that reported, from its first entry to the report.
use Rattle.std.proofs.Common.{◌≡◌, if◌then◌else◌, List, [], ◌∷◌, ◌++◌, Bool, true, false, MatchBool, Some, None, Ok, Err, Result, refl, sym, ap, ◌∙◌, arith, append_assoc, subst}
use Rattle.std.proofs.lemmas.List.{append-nil}
use Rattle.std.specs.List.{All}
use Rattle.dcp_ends.specs.declared.entries.LogEntry.{LogEntry}
use Rattle.dcp_ends.specs.declared.entries.LogEntry.TheVariants.{Turn}
use Rattle.dcp_ends.specs.Events.{Event, Tick, Rules}
use Rattle.dcp_ends.specs.Logs.{events_at, own_at, sent_by}
use Rattle.rounds.specs.Rounds.{EachEnd, IsTurn, has_report, hosted, places_of}
use Rattle.rounds.specs.Told.{Apart, Follows}
use Rattle.rounds.proofs.Hosted.{has_report-others}
use Rattle.rounds.proofs.Logs.{same_address-refl}
use Rattle.rounds.proofs.Others.{turn_silent}
use Rattle.scenario.specs.declared.scenarios.Scenario.{Scenario}
use Rattle.host.specs.declared.hosted.Hosted.{Hosted}
use Rattle.host.specs.Hosting.{master_of, slaves_of}
use Rattle.host.proofs.Apart.{hosted_apart}
use Rattle.master_spec.specs.Rules.{master_rules}
use Rattle.replays.specs.declared.faults.ReplayFault.{ReplayFault}
use Rattle.replays.specs.declared.faults.ReplayFault.TheVariants.{Differs, Unended, OutOfMemory}
use Rattle.replays.specs.declared.replays.Replayed.{Replayed}
use Rattle.replays.specs.Differences.{IsEnded}
use Rattle.replays.specs.Expected.{AreRight}
use Rattle.replays.specs.Laws.{IsReported, RunsReplay, WentThrough}
use Rattle.replays.specs.Replays.{Answers}
use Rattle.replays.proofs.Chunks.{AreChunks, Chunked, chunked-append, joined, looks_chunked, master_one, rounds_chunked, turn_chunk}
use Rattle.replays.proofs.Exclusive.{right_or_differs}
use Rattle.replays.proofs.Growth.{right-nil}
use Rattle.replays.proofs.Reports.{Reports, master_reports}
use Rattle.replays.proofs.Runs.{Headed, Rest, Taken, at_entry, events_done}
use Rattle.replays.proofs.Sequels.{expected-none}
use Rattle.replays.proofs.Steps.{step_entry}
use Rattle.replays.proofs.Whole.{chunks_headed, follows_part, looks_going, part, part_is, report_stays, rest_part, right_part}

-- how far the log is gone through
pub record Far (m : Rules) (slaves : List Rules) (done left : List LogEntry) : Type 0 where
  pub right : AreRight (Some m) slaves done
  pub follows : All (λ q. Follows q done) (m ∷ slaves)
  pub rest : All (λ q. Rest q done left) (m ∷ slaves)

module _ (m : Rules) (slaves : List Rules) (apart : Apart (m ∷ slaves)) (reports : Reports m) where
  pub go : (ps : List (List LogEntry)) → AreChunks (m ∷ slaves) ps → (done left : List LogEntry) → ((q : Rules) → Headed (own_at q.place left)) → has_report (Some m) (done ++ joined ps) ≡ false
      → Far m slaves done (joined ps ++ left) → Far m slaves (done ++ joined ps) left
  go [] all done left headed none far = rw append-nil far
  go (p ∷ ps) all done left headed none far =
      let c = all.0 in
      let rest = joined ps ++ left in
      let form : (p ++ joined ps) ++ left ≡ c.entry ∷ (c.sents ++ rest) = ap (λ (l : List LogEntry). (l ++ joined ps) ++ left) c.form ∙ ap (λ (l : List LogEntry). c.entry ∷ l) (append_assoc c.sents (joined ps) left) in
      let rests = subst (λ (l : List LogEntry). All (λ q. Rest q done l) (m ∷ slaves)) form far.rest in
      let mine = subst (λ (q : Rules). Rest q done (c.entry ∷ (c.sents ++ rest))) c.one.it (rests c.one.j c.r c.one.within) in
      let taken = at_entry c.r done c.sents rest c.own (chunks_headed (m ∷ slaves) c.r.place ps all.1 left (headed c.r)) c.entry c.is c.idle mine in
      let here : p ≡ part m slaves apart done rest far.follows c.entry c.sents c.r c.one.j c.one.within c.one.it c.is taken = c.form ∙ part_is m slaves apart done rest far.follows c.entry c.sents c.r c.one.j c.one.within c.one.it c.is taken in
      let reaches : has_report (Some m) ((done ++ p) ++ joined ps) ≡ false = rw append_assoc none in
      let whole = subst (λ (l : List LogEntry). All (λ q. Rest q done l) (m ∷ slaves)) (append_assoc p (joined ps) left) far.rest in
      let next : Far m slaves (done ++ p) rest = rw here (record {
        right = right_part m slaves apart done rest far.follows c.entry c.sents c.r c.one.j c.one.within c.one.it c.is taken reports far.right (rw (← here) (report_stays m reports (done ++ p) (joined ps) reaches));
        follows = follows_part m slaves apart done rest far.follows c.entry c.sents c.r c.one.j c.one.within c.one.it c.is taken;
        rest = rest_part m slaves apart done rest far.follows c.entry c.sents c.r c.one.j c.one.within c.one.it c.is taken (rw here at whole);
      }) in
      let end = go ps all.1 (done ++ p) left headed reaches next in
      rw append_assoc at end

  -- the whole log
  module _ (log : List LogEntry) (run : IsReported (Some m) slaves log) (follows : All (λ q. Follows q log) (m ∷ slaves)) where
    -- up to the master's last turn
    abbrev region : List LogEntry
    region = run.before ++ run.round.looks

    abbrev first : List LogEntry
    first = run.round.turned.first

    turn : IsTurn m.place first
    turn = run.round.turned.own

    going : has_report (Some m) region ≡ false
    going = looks_going m reports slaves apart run.before run.round.looks run.going run.round.looked

    log_is : log ≡ (region ++ first) ++ run.round.turned.rest
    log_is =
        run.form ∙ ap (λ (l : List LogEntry). run.before ++ l) (run.round.form ∙ ap (λ (l : List LogEntry). run.round.looks ++ l) run.round.turned.form)
        ∙ sym (append_assoc run.before run.round.looks (first ++ run.round.turned.rest)) ∙ sym (append_assoc region first run.round.turned.rest)

    nothing_after : run.round.turned.rest ≡ []
    nothing_after = by (has_report (Some m) (region ++ first)) refl run.round.turned.others where
      by : (b : Bool) → has_report (Some m) (region ++ first) ≡ b → MatchBool b (run.round.turned.rest ≡ []) (EachEnd IsTurn (places_of slaves) run.round.turned.rest) → run.round.turned.rest ≡ []
      by true is none = none
      by false is each = absurd (cc (is, has_report-others (Some m) (region ++ first) IsTurn turn_silent slaves run.round.turned.rest apart each, run.reported, ap (has_report (Some m)) log_is))

    ends : log ≡ region ++ first
    ends = log_is ∙ ap (λ (l : List LogEntry). (region ++ first) ++ l) nothing_after ∙ append-nil (region ++ first)

    chunked : Chunked (m ∷ slaves) region
    chunked = chunked-append (m ∷ slaves) run.before run.round.looks (rounds_chunked (Some m) slaves run.count run.before run.rounds) (looks_chunked (Some m) slaves run.round.looks run.round.looked)

    headed : (q : Rules) → Headed (own_at q.place first)
    headed q =
        let one = turn_chunk (m ∷ slaves) m (master_one m slaves) first turn in
        let all = chunks_headed (m ∷ slaves) q.place one.parts one.all [] tt in
        rw one.form (rw append-nil at all)

    far : Far m slaves region first
    far =
        let parts = chunked in
        let whole : log ≡ joined parts.parts ++ first = ends ∙ ap (λ (l : List LogEntry). l ++ first) parts.form in
        let start : Far m slaves [] (joined parts.parts ++ first) = record { right = right-nil (Some m) slaves; follows = λ k d lt. refl; rest = rw (← whole) follows } in
        rw parts.form (go parts.parts parts.all [] first headed (rw (← parts.form) going) start)

    taken : Taken m region (Turn m.place) turn.sents []
    taken =
        let rest : Rest m region first = far.rest 0 m (omega arith) in
        let form : first ≡ Turn m.place ∷ (turn.sents ++ []) = turn.form ∙ ap (λ (l : List LogEntry). Turn m.place ∷ l) (sym (append-nil turn.sents)) in
        at_entry m region turn.sents [] turn.own tt (Turn m.place) refl (λ none. cc) (subst (λ (l : List LogEntry). Rest m region l) form rest)

    no_sents : turn.sents ≡ []
    no_sents =
        let happened : events_at m.place (region ++ Turn m.place ∷ turn.sents) ≡ events_at m.place region ++ Tick ∷ [] =
        events_done m region turn.sents [] turn.own tt (Turn m.place) ∙ ap (λ (es : List Event). events_at m.place region ++ es) (rw (same_address-refl m.place) refl) in
        let over : m.over (events_at m.place region ++ Tick ∷ []) ≡ true =
        ap m.over (sym happened) ∙ ap (λ (l : List LogEntry). m.over (events_at m.place l)) (sym (ends ∙ ap (λ (l : List LogEntry). region ++ l) turn.form)) ∙ run.reported in
        taken.sends_are ∙ ap (sent_by m.place) (reports.silent (events_at m.place region) going over)

    last : log ≡ region ++ Turn m.place ∷ []
    last = ends ∙ ap (λ (l : List LogEntry). region ++ l) (turn.form ∙ ap (λ (l : List LogEntry). Turn m.place ∷ l) no_sents)

    pub nothing_differs : AreRight (Some m) slaves log
    nothing_differs = rw last (step_entry (Some m) slaves region (Turn m.place) m 0 (omega arith) refl refl apart far.follows going far.right)

    pub it_ended : IsEnded (Some m) slaves log
    it_ended = record { reported = run.reported; quiet = expected-none (m ∷ slaves) log follows }

-- ---- every run of a scenario

whole_run : (sc : Scenario) (b : Bool) (slaves : List Rules) (log : List LogEntry) → Apart (hosted (if b then Some (master_rules sc) else None) slaves)
    → IsReported (if b then Some (master_rules sc) else None) slaves log → All (λ q. Follows q log) (hosted (if b then Some (master_rules sc) else None) slaves)
    → AreRight (if b then Some (master_rules sc) else None) slaves log × IsEnded (if b then Some (master_rules sc) else None) slaves log
whole_run sc true slaves log apart run follows =
    (nothing_differs (master_rules sc) slaves apart (master_reports sc) log run follows, it_ended (master_rules sc) slaves apart (master_reports sc) log run follows)
whole_run sc false slaves log apart run follows = absurd (cc (run.reported))

went : (sc : Scenario) (h : Hosted) (log : List LogEntry) → AreRight (master_of sc h) (slaves_of sc h) log × IsEnded (master_of sc h) (slaves_of sc h) log
    → (result : Result Replayed ReplayFault) → Answers sc h log result → WentThrough result
went sc h log whole (Ok replayed) answers = tt
went sc h log whole (Err (Differs at)) answers = right_or_differs _ _ log at whole.0 answers
went sc h log whole (Err (Unended count)) answers = answers.2 whole.1
went sc h log whole (Err OutOfMemory) answers = tt

pub runs_go_through : RunsReplay
runs_go_through sc h log sound run result answers = went sc h log (whole_run sc h.master (slaves_of sc h) log (hosted_apart sc h sound) run.reported run.follows) result answers
