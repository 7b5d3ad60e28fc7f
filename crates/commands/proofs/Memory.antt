-- A run over a network in memory is in step with the reference of its scenario.
use Rattle.std.proofs.Common.{◌≡◌, ◌⊎◌, inl, inr, ℕ, false, true≢false, eq-eqb, List, [], ◌∷◌, Option, Some, None, Result, Ok, refl, sym, ap, subst, ◌∙◌, arith, codes}
use Rattle.std.specs.Prelude.{ℤ, ◌==◌, ◌++◌, ◌≤◌, IfSome, length}
use Rattle.dcp_ends.specs.declared.entries.LogEntry.{LogEntry}
use Rattle.slave_desc.specs.declared.descriptions.SlaveDesc.{SlaveDesc}
use Rattle.dcp_io.specs.declared.outputs.Delivery.TheVariants.{Whole}
use Rattle.log_spec.specs.Oldest.{Honest}
use Rattle.master_spec.specs.declared.reports.Report.{Report}
use Rattle.master_spec.specs.declared.reports.Report.TheVariants as reports
use Rattle.run_laws.proofs.Honesty.{honest}
use Rattle.net_world.specs.Calls.{AllRecent, Carried, GivesDue}
use Rattle.net_world.specs.World.{calls_of, carried_opening}
use Rattle.rounds.specs.Steps.{without_turns}
use Rattle.run_text.specs.Runs.{DeliversBoth}
use Rattle.run_laws.specs.Laws.{parties}
use Rattle.text_lines.specs.Numbers.{number_from}
use Rattle.text_lines.specs.declared.reasons.TextWhy.{TextWhy}
use Rattle.host.specs.Views.{HostView, Tells}
use Rattle.commands.specs.declared.command_words.Command.{Command}
use Rattle.commands.specs.declared.command_words.Command.TheVariants.{Decode, Encode, Describe, Reference, Talk, Run, Replay, Soak, Conform}
use Rattle.commands.specs.declared.statuses.Judgement.{Judgement}
use Rattle.commands.specs.declared.statuses.Judgement.TheVariants.{Good, Failed}
use Rattle.commands.specs.declared.statuses.Status.{Status}
use Rattle.commands.specs.declared.statuses.Status.TheVariants.{Done, Usage, BadInput, RunFailed, ReadFault, WriteFault, NetFault, OutOfMemory, Differs}
use Rattle.commands.specs.Changes.{RunChange}
use Rattle.commands.specs.CommandWords.{Names}
use Rattle.commands.specs.Given.{TakesFor}
use Rattle.commands.specs.InStep.{SumsInStep}
use Rattle.commands.specs.Inputs.{TakesInput}
use Rattle.commands.specs.Limits.{input_limit}
use Rattle.commands.specs.Outcomes.{Answered, Outcome}
use Rattle.commands.specs.Programs.{RunsInStep, SoaksInStep, ToldInMemory, sure_change}
use Rattle.commands.specs.Says.{Says}
use Rattle.commands.specs.SaysRun.{NetTold, RunsTo, SaysRun}
use Rattle.commands.specs.SaysSoak.{SaysSoak, SoaksTo, rows_after}
use Rattle.soaks.specs.Summaries.{first_line, sum_text}
use Rattle.soaks.specs.Texts.{soak_text}
use Rattle.commands.specs.Statuses.{judgement_of_report, status_after, status_code}
use Rattle.commands.proofs.InStep.{rounds_of, sums_in_step}
use Rattle.commands.proofs.Quiet.{timely}
use Rattle.commands.proofs.Summed.{sum_is_whole}
use Rattle.commands.proofs.Naming.{one_not_two, soak_not_conform}
use Rattle.commands.proofs.Outcomes.{stops_rose}

-- what a network in memory tells
pub told_in_memory : (traffic : Option Carried) → IfSome traffic (λ carried. GivesDue carried.opening [] carried.calls) → IfSome traffic (λ carried. AllRecent [] carried.calls)
    → ToldInMemory (record { calls = calls_of traffic; opening = carried_opening traffic })
told_in_memory None given recent = record { calls = []; told = refl; due = refl; recent = tt }
told_in_memory (Some carried) given recent = record { calls = carried.calls; told = refl; due = given; recent = recent }

-- the words of run name no other command
is_run : (words : List (List ℕ)) (command : Command) → Names words command → Names words Run → command ≡ Run
is_run words Decode named run = by (sym named ∙ run)
  where
    by : codes "decode" ∷ [] ≡ codes "run" ∷ [] → Decode ≡ Run
    by e = absurd cc
is_run words Encode named run = by (sym named ∙ run)
  where
    by : codes "encode" ∷ [] ≡ codes "run" ∷ [] → Encode ≡ Run
    by e = absurd cc
is_run words Describe named run = by (sym named ∙ run)
  where
    by : codes "describe" ∷ [] ≡ codes "run" ∷ [] → Describe ≡ Run
    by e = absurd cc
is_run words Reference named run = by (sym named ∙ run)
  where
    by : codes "reference" ∷ [] ≡ codes "run" ∷ [] → Reference ≡ Run
    by e = absurd cc
is_run words Talk named run = by (sym named ∙ run)
  where
    by : codes "talk" ∷ [] ≡ codes "run" ∷ [] → Talk ≡ Run
    by e = absurd cc
is_run words Replay named run = by (sym named ∙ run)
  where
    by : codes "replay" ∷ [] ≡ codes "run" ∷ [] → Replay ≡ Run
    by e = absurd cc
is_run words Run named run = refl
is_run words (Soak number) named run = absurd (one_not_two words _ _ named.0 run named.1)
is_run words (Conform name) named run = absurd (one_not_two words _ _ name.now run named.0)

-- the words of a number's scenario name no other command, and no other number
is_soak : (words : List (List ℕ)) (command : Command) (number : ℕ) → Names words command → Names words (Soak number) → command ≡ Soak number
is_soak words Decode number named soak = absurd (one_not_two words _ _ soak.0 named soak.1)
is_soak words Encode number named soak = absurd (one_not_two words _ _ soak.0 named soak.1)
is_soak words Describe number named soak = absurd (one_not_two words _ _ soak.0 named soak.1)
is_soak words Reference number named soak = absurd (one_not_two words _ _ soak.0 named soak.1)
is_soak words Talk number named soak = absurd (one_not_two words _ _ soak.0 named soak.1)
is_soak words Run number named soak = absurd (one_not_two words _ _ soak.0 named soak.1)
is_soak words Replay number named soak = absurd (one_not_two words _ _ soak.0 named soak.1)
is_soak words (Conform name) number named soak = absurd (soak_not_conform words _ _ soak.1 named.0)
is_soak words (Soak other) number named soak =
    let same : named.0 ≡ soak.0 = second named.0 soak.0 (sym named.1 ∙ soak.1) in
    ap Soak (value (number_from 0 999999 soak.0) other number (sym (ap (λ (word : List ℕ). number_from 0 999999 word) same) ∙ named.2.1) soak.2.1)
  where
    second : (a b : List ℕ) → codes "soak" ∷ a ∷ [] ≡ codes "soak" ∷ b ∷ [] → a ≡ b
    second a b e = cc

    value : (read : Result ℕ TextWhy) (a b : ℕ) → read ≡ Ok a → read ≡ Ok b → a ≡ b
    value read a b p q = cc

-- the log of a host over such a network is honest
is_honest : (net : NetTold) → ToldInMemory net → (host : HostView) → Tells net.calls host.log → (other : SlaveDesc) → Honest (parties host.scenario other) host.log
is_honest net memory host tells other =
    let Told : Option (List LogEntry) → Type 0 = λ told. Tells told host.log in
    let calls : memory.calls ≡ without_turns host.log = subst Told memory.told tells in
    honest (parties host.scenario other) host.log (subst (AllRecent []) calls memory.recent)

-- a sound scenario has a slave
first_of : (slaves : List SlaveDesc) → 1 ≤ length slaves → SlaveDesc
first_of [] some = absurd (omega (arith, some))
first_of (d ∷ slaves) some = d

neither : (n : ℕ) → (n == 0) ≡ false → (n == 3) ≡ false → (n ≡ 0) ⊎ (n ≡ 3) → ⊥
neither n a b (inl e) = true≢false (sym (eq-eqb n 0 e) ∙ a)
neither n a b (inr e) = true≢false (sym (eq-eqb n 3 e) ∙ b)

module _ (words : List (List ℕ)) (source out trace : RunChange) (told : NetTold) where
  -- such a network has no fault
  pub is_sure : (status : Status) → Outcome words source out trace (sure_change told) status → status_code status ≡ 6 → ⊥
  is_sure NetFault outcome e = omega (arith, stops_rose outcome.0 outcome.1 0 0 outcome.5)
  is_sure Done outcome e = absurd cc
  is_sure Usage outcome e = absurd cc
  is_sure BadInput outcome e = absurd cc
  is_sure RunFailed outcome e = absurd cc
  is_sure ReadFault outcome e = absurd cc
  is_sure WriteFault outcome e = absurd cc
  is_sure OutOfMemory outcome e = absurd cc
  is_sure Differs outcome e = absurd cc

  module _ (memory : ToldInMemory told) (named : Names words Run) where
    abbrev pub Ran : Status → Type 0
    Ran status = RunsInStep source.was source.is out.was out.is trace.was trace.is (status_code status)

    -- a run whose text and trace were written whole
    ran : (report : Report) (input text traced : List ℕ) → TakesInput input_limit source.was source.is input → RunsTo told input report text traced
        → DeliversBoth out.was out.is out.before out.now trace.was trace.is trace.before trace.now text traced Whole → Ran (status_after (judgement_of_report report) Whole)
    ran report input text traced taken run written = record {
      input = input;
      net = told;
      report = report;
      text = text;
      trace = traced;
      taken = taken;
      memory = memory;
      run = run;
      printed = written.0.0;
      traced = written.1.0;
      status = refl;
      in_step = λ other. run.in_step other (is_honest told memory run.host run.ended.run.told other);
      reasons = λ other. run.reasons other (is_honest told memory run.host run.ended.run.told other);
      complete = λ roomy timely. (let other = first_of run.host.scenario.slaves run.sound.few_slaves.0 in run.complete other (is_honest told memory run.host run.ended.run.told other) roomy timely);
      quiet = λ plan patient roomy. (
          let other = first_of run.host.scenario.slaves run.sound.few_slaves.0 in
          let honest = is_honest told memory run.host run.ended.run.told other in
          run.complete other honest roomy (timely told memory run.host run.ended.run (rounds_of run.host run.sound run.ended.run.hosted run.ended.run.whole run.master run.slaves) other honest report run.reported plan patient)
          );
    }

    -- an answer to the words of run is of a run
    module _ (judgement : Judgement) (answered : Answered words source out trace (sure_change told) judgement Whole) where
      is_of : answered.0 ≡ Run
      is_of = is_run words answered.0 answered.4 named

      took : TakesInput input_limit source.was source.is answered.1
      took = let Taken : Command → Type 0 = λ command. TakesFor source.was source.is command answered.1 in subst Taken is_of answered.5

      says : SaysRun told answered.1 judgement answered.2 answered.3
      says = let Said : Command → Type 0 = λ command. Says command told answered.1 judgement answered.2 answered.3 in subst Said is_of answered.7

    good : Answered words source out trace (sure_change told) Good Whole → Ran Done
    good answered = let said = says Good answered in ran (reports.Finished said.0) answered.1 answered.2 answered.3 (took Good answered) said.1 answered.8

    failed : Answered words source out trace (sure_change told) Failed Whole → Ran RunFailed
    failed answered = let said = says Failed answered in ran (reports.Failed said.0 said.1 said.2) answered.1 answered.2 answered.3 (took Failed answered) said.3 answered.8

    pub is_in_step : (status : Status) → Outcome words source out trace (sure_change told) status → (status_code status ≡ 0) ⊎ (status_code status ≡ 3) → Ran status
    is_in_step Done outcome code = good outcome
    is_in_step RunFailed outcome code = failed outcome
    is_in_step Usage outcome code = absurd (neither 1 refl refl code)
    is_in_step BadInput outcome code = absurd (neither 2 refl refl code)
    is_in_step ReadFault outcome code = absurd (neither 4 refl refl code)
    is_in_step WriteFault outcome code = absurd (neither 5 refl refl code)
    is_in_step NetFault outcome code = absurd (neither 6 refl refl code)
    is_in_step OutOfMemory outcome code = absurd (neither 7 refl refl code)
    is_in_step Differs outcome code = absurd (neither 8 refl refl code)

  -- the same of a number's scenario, where the writer of the trace is as it was
  module _ (memory : ToldInMemory told) (number : ℕ) (named : Names words (Soak number)) (untraced : trace.is ≡ trace.was) where
    abbrev pub Soaked : Status → Type 0
    Soaked status = SoaksInStep number source.was source.is out.was out.is trace.was trace.is (status_code status)

    -- a run whose line and sum were written whole
    soaked : (report : Report) (input text traced : List ℕ) → TakesFor source.was source.is (Soak number) input → SoaksTo number told input report text
        → DeliversBoth out.was out.is out.before out.now trace.was trace.is trace.before trace.now text traced Whole → Soaked (status_after (judgement_of_report report) Whole)
    soaked report input text traced taken soak written =
        let Of : List ℕ → Type 0 = λ bytes. SoaksTo number told bytes report text in
        let own : SoaksTo number told (soak_text number) report text = subst Of taken.0 soak in
        let host = own.run.host in
        let run = own.run in
        let steps : (other : SlaveDesc) → SumsInStep host.scenario other host.log report (rows_after host) =
        λ other. sums_in_step host report run.reported other (run.in_step other (is_honest told memory host run.ended.run.told other)).keeps in
        record {
          net = told;
          report = report;
          text = text;
          unread = taken.1;
          memory = memory;
          soak = own;
          printed = written.0.0;
          untraced = untraced;
          status = refl;
          in_step = steps;
          exact = own.text_is ∙ ap (λ (sum : ℤ). first_line number report ++ sum_text sum) (sum_is_whole host.scenario run.sound host.log report (rows_after host) steps);
        }

    -- an answer to the words is of the number's scenario
    module _ (judgement : Judgement) (answered : Answered words source out trace (sure_change told) judgement Whole) where
      is_number : answered.0 ≡ Soak number
      is_number = is_soak words answered.0 number answered.4 named

      took_none : TakesFor source.was source.is (Soak number) answered.1
      took_none = let Taken : Command → Type 0 = λ command. TakesFor source.was source.is command answered.1 in subst Taken is_number answered.5

      says_soak : SaysSoak number told answered.1 judgement answered.2
      says_soak = let Said : Command → Type 0 = λ command. Says command told answered.1 judgement answered.2 answered.3 in (subst Said is_number answered.7).0

    soaked_good : Answered words source out trace (sure_change told) Good Whole → Soaked Done
    soaked_good answered = let said = says_soak Good answered in soaked (reports.Finished said.0) answered.1 answered.2 answered.3 (took_none Good answered) said.1 answered.8

    soaked_failed : Answered words source out trace (sure_change told) Failed Whole → Soaked RunFailed
    soaked_failed answered =
        let said = says_soak Failed answered in soaked (reports.Failed said.0 said.1 said.2) answered.1 answered.2 answered.3 (took_none Failed answered) said.3 answered.8

    pub soaks_in_step : (status : Status) → Outcome words source out trace (sure_change told) status → (status_code status ≡ 0) ⊎ (status_code status ≡ 3) → Soaked status
    soaks_in_step Done outcome code = soaked_good outcome
    soaks_in_step RunFailed outcome code = soaked_failed outcome
    soaks_in_step Usage outcome code = absurd (neither 1 refl refl code)
    soaks_in_step BadInput outcome code = absurd (neither 2 refl refl code)
    soaks_in_step ReadFault outcome code = absurd (neither 4 refl refl code)
    soaks_in_step WriteFault outcome code = absurd (neither 5 refl refl code)
    soaks_in_step NetFault outcome code = absurd (neither 6 refl refl code)
    soaks_in_step OutOfMemory outcome code = absurd (neither 7 refl refl code)
    soaks_in_step Differs outcome code = absurd (neither 8 refl refl code)
