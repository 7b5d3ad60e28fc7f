-- What the report of a hosted master says: the log shows it; and over an honest network a run of all ends is in step with the reference of its scenario, reports a failure for a reason, and what the reference gives where nothing was lost or late.
use Rattle.std.proofs.Common.{◌≡◌, ℕ, List, Some, sym, ap, ◌∙◌, subst}
use Rattle.std.specs.Prelude.{All, IfSome}
use Rattle.scenario.specs.Sound.{IsScenario}
use Rattle.master_spec.specs.declared.reports.Report.{Report}
use Rattle.rounds.specs.Told.{Follows}
use Rattle.host.specs.Views.{HostView, master_in, slaves_in}
use Rattle.commands.specs.declared.statuses.Judgement.{Judgement}
use Rattle.host.specs.declared.hosted.Hosted.{Hosted}
use Rattle.host.specs.Hosting.{master_of}
use Rattle.master_spec.specs.Rules.{MasterRun}
use Rattle.commands.specs.Complete.{FailsForReasonIfHonest, IsCompleteIfTimely}
use Rattle.commands.specs.InStep.{IsInStepIfHonest, KeepsInStep}
use Rattle.commands.specs.SaysRun.{ShowsEnd, report_after, run_text}
use Rattle.commands.proofs.Complete.{complete_if_timely, fails_for_reason}
use Rattle.commands.proofs.InStep.{HasRounds, in_step}
use Rattle.commands.proofs.Outcomes.{shown}
use Rattle.socket_commands.specs.declared.parts.Part.{Part}
use Rattle.socket_commands.specs.declared.parts.Part.TheVariants as parts
use Rattle.socket_commands.specs.Changes.{LiveChange}
use Rattle.socket_commands.specs.Parts.{hosted_of}
use Rattle.socket_commands.specs.Says.{ComesTo, HasLived, HostsMaster, ReportsOn}
use Rattle.socket_commands.proofs.Live.{whole}

-- a hosted master follows its rules
leads : (host : HostView) (part : Part) → HostsMaster part → host.hosted ≡ hosted_of part → IfSome (master_in host) (λ rules. Follows rules host.log) → MasterRun host.scenario host.log
leads host parts.All hosts hosted follows = let Own : Hosted → Type 0 = λ h. IfSome (master_of host.scenario h) (λ rules. Follows rules host.log) in subst Own hosted follows
leads host parts.Master hosts hosted follows = let Own : Hosted → Type 0 = λ h. IfSome (master_of host.scenario h) (λ rules. Follows rules host.log) in subst Own hosted follows
leads host (parts.Slave s) hosts hosted follows = absurd hosts

-- the report that it comes to is shown by the log
pub lives_shown : (words : List (List ℕ)) (net : LiveChange) (input : List ℕ) (part : Part) (host : HostView) → IsScenario host.scenario → HasLived words net input part host
    → IfSome (master_in host) (λ rules. Follows rules host.log) → HostsMaster part → (report : Report) → report_after host ≡ Some report → ShowsEnd host.scenario host.log report
lives_shown words net input part host sound lived master hosts report reported = shown host sound (leads host part hosts lived.hosted master) report reported

module _ (words : List (List ℕ)) (net : LiveChange) (input : List ℕ) (part : Part) (host : HostView) (judgement : Judgement) (text : List ℕ) (sound : IsScenario host.scenario) (lived : HasLived words net input part host)
    (master : IfSome (master_in host) (λ rules. Follows rules host.log)) (slaves : All (λ rules. Follows rules host.log) (slaves_in host)) (comes : ComesTo part host judgement text) (all : part ≡ parts.All)
    (report : Report) (reported : report_after host ≡ Some report) where
  came : ReportsOn host judgement text
  came = let Came : Part → Type 0 = λ p. ComesTo p host judgement text in subst Came all comes

  same_report : came.0 ≡ report
  same_report = by (sym came.1 ∙ reported)
    where
      by : Some came.0 ≡ Some report → came.0 ≡ report
      by e = cc

  -- the text is the rows of the master and its report
  text_is : text ≡ run_text host report
  text_is = came.3 ∙ ap (run_text host) same_report

  has : HasRounds host
  has =
      let run = lived.run in
      record { sound = sound; hosted = lived.hosted ∙ ap hosted_of all; count = run.count; rounds = whole _ _ _ run.count run.resting host.log run.rounds; master = master; slaves = slaves }

  pub lives_in_step : IsInStepIfHonest host.scenario host.log report text
  lives_in_step other honest = let Printed : List ℕ → Type 0 = λ printed. KeepsInStep host.scenario other host.log report printed in subst Printed (sym text_is) (in_step host has report reported other honest)

  pub lives_for_reason : FailsForReasonIfHonest host.scenario host.log report
  lives_for_reason = fails_for_reason host has report reported

  pub lives_complete : IsCompleteIfTimely host.scenario host.log report text
  lives_complete = let Printed : List ℕ → Type 0 = λ printed. IsCompleteIfTimely host.scenario host.log report printed in subst Printed (sym text_is) (complete_if_timely host has report reported)
