-- A run of all ends over an honest network is in step with the reference of its scenario.
use Rattle.std.proofs.Common.{◌≡◌, ℕ, suc, ◌+◌, ◌-◌, ◌≤◌, ◌<◌, Bool, true, false, true≢false, Option, Some, None, List, [], ◌∷◌, ◌++◌, length, map, reverse, refl, sym, ap, ◌∙◌, subst, arith}
use Rattle.std.specs.Prelude.{ℤ, All, IfSome}
use Rattle.std.proofs.lemmas.Bool.{cond-true}
use Rattle.std.specs.List.{list_all, range_with_len}
use Rattle.std.proofs.lemmas.List.{get_or-map, length-map}
use Rattle.std.proofs.lemmas.List.Folds.{list_all_at}
use Rattle.std.proofs.lemmas.List.FromFn.{get_or-range_with_len}
use Rattle.dcp_ends.specs.Events.{Event, Rules}
use Rattle.slave_desc.specs.declared.descriptions.SlaveDesc.{SlaveDesc}
use Rattle.scenario.specs.declared.scenarios.Scenario.{Scenario}
use Rattle.scenario.specs.Sound.{IsScenario}
use Rattle.lockstep.specs.declared.references.RefFault.{RefFault}
use Rattle.master_spec.specs.declared.reports.Report.{Report}
use Rattle.master_spec.specs.declared.reports.Report.TheVariants.{Finished}
use Rattle.master_spec.specs.Course.{course}
use Rattle.master_spec.specs.Setup.{setup_from}
use Rattle.master_log_laws.specs.Index.Runs.{course_at}
use Rattle.master_log_laws.proofs.Scenarios.Scenarios.{events_reverse, finished_acknowledged}
use Rattle.log_spec.specs.Oldest.{Honest}
use Rattle.rounds.specs.Rounds.{Rounds}
use Rattle.rounds.specs.Told.{Follows}
use Rattle.slave_spec.specs.Slaves.{slave_rules_from}
use Rattle.host.specs.declared.hosted.Hosted.{Hosted}
use Rattle.host.specs.Hosting.{all_ends, hosted_from, is_hosted, master_of, slaves_of}
use Rattle.host.specs.Views.{HostView, master_in, slaves_in}
use Rattle.host.specs.Runs.{IsWhole}
use Rattle.run_laws.specs.Laws.{IsRunInRounds, parties, rules_of_slaves}
use Rattle.run_laws.proofs.Rounded.{rounds_are_runs}
use Rattle.run_laws.specs.Headline.Headline.{IsInLockstep, KeepsToReference}
use Rattle.run_laws.proofs.Headline.Headline.{keep_to_reference}
use Rattle.run_text.specs.Closings.{reference_text, report_text}
use Rattle.commands.specs.InStep.{IsInStepIfHonest, PrintsReference, SumsInStep}
use Rattle.commands.specs.SaysRun.{master_events, report_after, run_text}
use Rattle.commands.specs.SaysSoak.{rows_after}

-- ---- all ends are hosted

is_there : (k : ℕ) → k < 16 → is_hosted all_ends (k + 1) ≡ true
is_there k few = by (is_hosted all_ends (k + 1)) refl
  where
    by : (b : Bool) → is_hosted all_ends (k + 1) ≡ b → is_hosted all_ends (k + 1) ≡ true
    by true e = e
    by false e =
        let all : list_all (λ (j : ℕ). is_hosted all_ends (j + 1)) (range_with_len 0 16) ≡ true = refl in
        let numbered = get_or-range_with_len 0 16 k 0 few ∙ omega arith in
        absurd (true≢false (sym all ∙ list_all_at (λ (j : ℕ). is_hosted all_ends (j + 1)) (range_with_len 0 16) k 0 few (ap (λ (j : ℕ). is_hosted all_ends (j + 1)) numbered ∙ e)))

pub all_hosted : (ds : List SlaveDesc) (k : ℕ) → k + length ds ≤ 16 → hosted_from all_ends (k + 1) ds ≡ ds
all_hosted [] k few = refl
all_hosted (d ∷ ds) k few =
    cond-true (is_hosted all_ends (k + 1)) (d ∷ hosted_from all_ends (k + 1 + 1) ds) (hosted_from all_ends (k + 1 + 1) ds) (is_there k (omega (arith, few)))
    ∙ ap (λ (rest : List SlaveDesc). d ∷ rest) (all_hosted ds (k + 1) (omega (arith, few)))

all_slaves : (sc : Scenario) → IsScenario sc → slaves_of sc all_ends ≡ rules_of_slaves sc
all_slaves sc ok = ap (λ (ds : List SlaveDesc). map (λ (d : SlaveDesc). slave_rules_from (record { desc = d; micro = sc.micro })) ds) (all_hosted sc.slaves 0 (omega (arith, ok.few_slaves.1)))

-- ---- a run of all ends is one of which the laws speak

-- the hosted ends have run in whole rounds, and each follows its rules
pub record HasRounds (host : HostView) : Type 0 where
  pub sound : IsScenario host.scenario
  pub hosted : host.hosted ≡ all_ends
  pub count : ℕ
  pub rounds : Rounds (master_in host) (slaves_in host) count host.log
  pub master : IfSome (master_in host) (λ rules. Follows rules host.log)
  pub slaves : All (λ rules. Follows rules host.log) (slaves_in host)

pub is_run : (host : HostView) → HasRounds host → (other : SlaveDesc) → Honest (parties host.scenario other) host.log → IsRunInRounds host.scenario other host.log
is_run host has other honest =
    let sc = host.scenario in
    let log = host.log in
    let Hosts : Hosted → Type 0 = λ h. Rounds (master_of sc h) (slaves_of sc h) has.count log in
    let Among : List Rules → Type 0 = λ all. Rounds (master_of sc all_ends) all has.count log in
    let Leads : Hosted → Type 0 = λ h. IfSome (master_of sc h) (λ rules. Follows rules log) in
    let Each : Hosted → Type 0 = λ h. All (λ rules. Follows rules log) (slaves_of sc h) in
    let One : List Rules → Type 0 = λ all. All (λ rules. Follows rules log) all in
    let each : All (λ rules. Follows rules log) (rules_of_slaves sc) = subst One (all_slaves sc has.sound) (subst Each has.hosted has.slaves) in
    record {
      honest = honest;
      count = has.count;
      rounds = subst Among (all_slaves sc has.sound) (subst Hosts has.hosted has.rounds);
      master = subst Leads has.hosted has.master;
      slaves = λ s is. (
          let made : SlaveDesc → Rules = λ d. slave_rules_from (record { desc = d; micro = sc.micro }) in
          let lt : s - 1 < length sc.slaves = omega (arith, is.0, is.1) in
          let all_made = length-map sc.slaves made in
          subst (λ (rules : Rules). Follows rules log) (get_or-map made sc.slaves (s - 1) other (made other) lt) (each (s - 1) (made other) (omega (arith, lt, all_made)))
          );
    }

-- ---- what is printed

module _ (host : HostView) (report : Report) (reported : report_after host ≡ Some report) where
  -- the rows of the master after the log are those that are printed
  rows_are : (course_at (setup_from host.scenario) (reverse host.log)).rows ≡ (course (setup_from host.scenario) (master_events host)).rows
  rows_are = ap (λ (z : List Event). (course (setup_from host.scenario) z).rows) (events_reverse (setup_from host.scenario) host.log)

  pub report_is : (course_at (setup_from host.scenario) (reverse host.log)).report ≡ Some report
  report_is = ap (λ (z : List Event). (course (setup_from host.scenario) z).report) (events_reverse (setup_from host.scenario) host.log) ∙ reported

  pub text_is : run_text host report ≡ report_text (course_at (setup_from host.scenario) (reverse host.log)).rows report
  text_is = ap (λ (rows : List (List ℤ)). report_text rows report) (sym rows_are)

  prints : (other : SlaveDesc) (rows : List (List ℤ)) (fault : Option RefFault) → IsInLockstep host.scenario other rows fault (reverse host.log)
      → ((steps : ℕ) → report ≡ Finished steps → steps ≡ host.scenario.steps) → PrintsReference host.scenario rows fault report (run_text host report)
  prints other rows fault now all_steps = record {
    printed = (course_at (setup_from host.scenario) (reverse host.log)).rows;
    rest = now.front.0;
    front = now.front.1;
    text_is = text_is;
    whole = λ steps finished. (
        let ends = now.whole steps (report_is ∙ ap (λ (r : Report). Some r) finished) in
        let Text : Option RefFault → Type 0 = λ f. run_text host report ≡ reference_text host.scenario.steps rows f in
        let same : report ≡ Finished host.scenario.steps = finished ∙ ap Finished (all_steps steps finished) in
        let text : run_text host report ≡ reference_text host.scenario.steps rows None =
        text_is ∙ ap (λ (printed : List (List ℤ)). report_text printed report) ends.0 ∙ ap (λ (r : Report). report_text rows r) same in
        (ends.0, ends.1, subst Text (sym ends.1) text)
        );
  }

pub in_step : (host : HostView) → HasRounds host → (report : Report) → report_after host ≡ Some report → IsInStepIfHonest host.scenario host.log report (run_text host report)
in_step host has report reported other honest =
    let run = is_run host has other honest in
    let keeps = keep_to_reference host.scenario other has.sound host.log (rounds_are_runs host.scenario other has.sound host.log run) in
    let steps_are : (steps : ℕ) → report ≡ Finished steps → steps ≡ host.scenario.steps =
    λ steps finished. (finished_acknowledged host.scenario has.sound host.log run.master steps (reported ∙ ap (λ (r : Report). Some r) finished)).steps_are in
    record { keeps = keeps; prints = prints host report reported other keeps.rows keeps.fault (keeps.always [] (reverse host.log) refl) steps_are }

-- where the log keeps to the reference, the rows of its master are those of the reference
pub sums_in_step : (host : HostView) (report : Report) → report_after host ≡ Some report → (other : SlaveDesc) → KeepsToReference host.scenario other host.log
    → SumsInStep host.scenario other host.log report (rows_after host)
sums_in_step host report reported other keeps =
    let now = keeps.always [] (reverse host.log) refl in
    let same : rows_after host ≡ (course_at (setup_from host.scenario) (reverse host.log)).rows = sym (rows_are host report reported) in
    record {
      keeps = keeps;
      sums = record {
        rest = now.front.0;
        front = now.front.1 ∙ ap (λ (summed : List (List ℤ)). summed ++ now.front.0) (sym same);
        whole = λ steps finished. (
            let ends = now.whole steps (report_is host report reported ∙ ap (λ (r : Report). Some r) finished) in
            (same ∙ ends.0, ends.1)
            );
      };
    }

-- whole runs are whole rounds
whole_rounds : (host : HostView) (whole : IsWhole host) → Rounds (master_in host) (slaves_in host) (suc whole.count) host.log
whole_rounds host whole = (whole.before, whole.last, whole.form, whole.rounds, whole.round)

pub rounds_of : (host : HostView) → IsScenario host.scenario → (hosted : host.hosted ≡ all_ends) → IsWhole host → IfSome (master_in host) (λ rules. Follows rules host.log) → All (λ rules. Follows rules host.log) (slaves_in host) → HasRounds host
rounds_of host sound hosted whole master slaves = record { sound = sound; hosted = hosted; count = suc whole.count; rounds = whole_rounds host whole; master = master; slaves = slaves }
