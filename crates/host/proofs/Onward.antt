-- One round more.
use Rattle.std.proofs.Common.{◌≡◌, ℕ, ◌+◌, ◌-◌, ◌<◌, ◌≤◌, ◌==◌, Bool, true, false, Option, Some, None, Result, Err, List, [], ◌∷◌, ◌++◌, refl, ap, sym, ◌∙◌, arith, inr, if◌then◌else◌}
use Rattle.std.specs.Prelude.{count_by}
use Rattle.std.proofs.lemmas.List.Sums.{sum_by-cons, sum_by-append}
use Rattle.std.proofs.lemmas.Bool.{eq-eqb, and_from}
use Rattle.dcp_types.specs.declared.addresses.Address.{Address}
use Rattle.dcp_ends.specs.declared.entries.LogEntry.{LogEntry}
use Rattle.dcp_ends.specs.declared.entries.LogEntry.TheVariants.{Turn}
use Rattle.dcp_ends.specs.Events.{Rules}
use Rattle.dcp_ends.specs.Logs.{same_address}
use Rattle.rounds.specs.Rounds.{IsTurn, IsTurns, IsRound, IsRoundPart, Rounds, has_report}
use Rattle.scenario.specs.declared.scenarios.Scenario.{Scenario}
use Rattle.scenario.specs.Sound.{IsScenario}
use Rattle.master_spec.specs.Bound.{bound}
use Rattle.master_spec.specs.Requests.{is_turn_of}
use Rattle.master_spec.specs.Rules.{master_rules}
use Rattle.master_spec.specs.Setup.{setup_from}
use Rattle.master_log_laws.proofs.Bound.Entries.{log_below}
use Rattle.master_log_laws.proofs.Bound.Lengths.{rounds_turns}
use Rattle.rounds.specs.Steps.{Caused}
use Rattle.rounds.specs.declared.one_end.HostFault.{HostFault}
use Rattle.rounds.specs.declared.one_end.HostFault.TheVariants.{Net, OutOfMemory}
use Rattle.host.specs.declared.hosted.Hosted.{Hosted}
use Rattle.host.specs.declared.hosted.Progress.TheVariants.{Done, Going}
use Rattle.host.specs.Hosting.{master_of, slaves_of}
use Rattle.host.specs.Views.{HostView, is_done, master_in, progress_of, slaves_in}
use Rattle.host.specs.Runs.{CameFrom, IsBegun, IsCutShort, IsWhole}

same_self : (a : Address) → same_address a a ≡ true
same_self a = and_from (a.ip == a.ip) (a.port == a.port) (eq-eqb a.ip a.ip refl) (eq-eqb a.port a.port refl)

abbrev added : Bool → ℕ
added b = if b then 1 else 0

-- the turns of an end in a log
abbrev pub turns_of : Address → List LogEntry → ℕ
turns_of a log = count_by (is_turn_of a) log

turns_both : (a : Address) (p q : List LogEntry) → turns_of a (p ++ q) ≡ turns_of a p + turns_of a q
turns_both a p q = sum_by-append (λ x. added (is_turn_of a x)) p q

turn_turns : (a : Address) (part : List LogEntry) → IsTurn a part → 1 ≤ turns_of a part
turn_turns a part h =
    let e : turns_of a part ≡ turns_of a (Turn a ∷ h.sents) = ap (λ (p : List LogEntry). turns_of a p) h.form in
    let f : turns_of a (Turn a ∷ h.sents) ≡ added (same_address a a) + turns_of a h.sents = sum_by-cons (λ x. added (is_turn_of a x)) (Turn a) h.sents in
    let g : added (same_address a a) ≡ 1 = ap (λ (b : Bool). added b) (same_self a) in
    omega (arith, e, f, g)

turns_turns : (master : Rules) (slaves : List Rules) (log part : List LogEntry) → IsTurns (Some master) slaves log part → 1 ≤ turns_of master.place part
turns_turns master slaves log part h =
    let e : turns_of master.place part ≡ turns_of master.place (h.first ++ h.rest) = ap (λ (p : List LogEntry). turns_of master.place p) h.form in
    let f = turns_both master.place h.first h.rest in
    let one = turn_turns master.place h.first h.own in
    omega (arith, e, f, one)

round_turns : (master : Rules) (slaves : List Rules) (log part : List LogEntry) → IsRound (Some master) slaves log part → 1 ≤ turns_of master.place part
round_turns master slaves log part h =
    let e : turns_of master.place part ≡ turns_of master.place (h.looks ++ h.turns) = ap (λ (p : List LogEntry). turns_of master.place p) h.form in
    let f = turns_both master.place h.looks h.turns in
    let one = turns_turns master slaves (log ++ h.looks) h.turns h.turned in
    omega (arith, e, f, one)

-- what is left of the bound grows less with each round that does not bring the report
pub less_left : (sc : Scenario) (slaves : List Rules) (log new part : List LogEntry) → IsScenario sc → has_report (Some (master_rules sc)) log ≡ false → new ≡ log ++ part
    → IsRound (Some (master_rules sc)) slaves log part → bound (setup_from sc) - turns_of sc.master new < bound (setup_from sc) - turns_of sc.master log
less_left sc slaves log new part sound going form round =
    let below : turns_of sc.master log < bound (setup_from sc) = log_below (setup_from sc) log sound.limits sound.runs.0 going in
    let e : turns_of sc.master new ≡ turns_of sc.master log + turns_of sc.master part = ap (λ (l : List LogEntry). turns_of sc.master l) form ∙ turns_both sc.master log part in
    let one : 1 ≤ turns_of sc.master part = round_turns (master_rules sc) slaves log part round in
    omega (arith, below, e, one)

-- rounds without the report are fewer than the bound
pub few : (sc : Scenario) → IsScenario sc → (slaves : List Rules) (n : ℕ) (log : List LogEntry) → Rounds (Some (master_rules sc)) slaves n log → has_report (Some (master_rules sc)) log ≡ false → n < bound (setup_from sc)
few sc h slaves n log rounds over =
    let some : n ≤ count_by (is_turn_of sc.master) log = rounds_turns (master_rules sc) slaves n log rounds in
    let below : count_by (is_turn_of sc.master) log < bound (setup_from sc) = log_below (setup_from sc) log h.limits h.runs.0 over in
    omega (arith, some, below)

-- ---- the same of a host

master_is : (host : HostView) → host.hosted.master ≡ true → master_in host ≡ Some (master_rules host.scenario)
master_is host own = ap (λ (b : Bool). if b then Some (master_rules host.scenario) else None) own

same_master : (old new : HostView) → new.scenario ≡ old.scenario → new.hosted ≡ old.hosted → master_in new ≡ master_in old
same_master old new scenario hosted = ap (λ (sc : Scenario). master_of sc new.hosted) scenario ∙ ap (λ (h : Hosted). master_of old.scenario h) hosted

same_slaves : (old new : HostView) → new.scenario ≡ old.scenario → new.hosted ≡ old.hosted → slaves_in new ≡ slaves_in old
same_slaves old new scenario hosted = ap (λ (sc : Scenario). slaves_of sc new.hosted) scenario ∙ ap (λ (h : Hosted). slaves_of old.scenario h) hosted

done_is : (b : Bool) → progress_of b ≡ Done → b ≡ true
done_is true is = refl
done_is false is = cc

going_is : (b : Bool) → progress_of b ≡ Going → b ≡ false
going_is true is = cc
going_is false is = refl

-- no round has been run, and nothing is reported
pub none_yet : (host : HostView) → IsBegun host → has_report (master_in host) host.log ≡ false
none_yet host begun = rw (master_is host begun.master, begun.log) refl

pub nothing_run : (host : HostView) → host.log ≡ [] → Rounds (master_in host) (slaves_in host) 0 host.log
nothing_run host empty = rw empty refl

module _ (old new : HostView) (sound : IsScenario old.scenario) (own : old.hosted.master ≡ true) (scenario : new.scenario ≡ old.scenario) (hosted : new.hosted ≡ old.hosted) where
  -- what the host is done with is the master's report
  told_done : is_done (master_in old) (slaves_in old) new.log ≡ has_report (master_in new) new.log
  told_done =
      let e = master_is old own in
      ap (λ (m : Option Rules). is_done m (slaves_in old) new.log) e ∙ ap (λ (m : Option Rules). has_report m new.log) (sym e ∙ sym (same_master old new scenario hosted))

  reported_when : progress_of (is_done (master_in old) (slaves_in old) new.log) ≡ Done → has_report (master_in new) new.log ≡ true
  reported_when is = sym told_done ∙ done_is (is_done (master_in old) (slaves_in old) new.log) is

  pub going_when : progress_of (is_done (master_in old) (slaves_in old) new.log) ≡ Going → has_report (master_in new) new.log ≡ false
  going_when is = sym told_done ∙ going_is (is_done (master_in old) (slaves_in old) new.log) is

  pub rounds_after : (n : ℕ) → Rounds (master_in old) (slaves_in old) (n + 1) new.log → Rounds (master_in new) (slaves_in new) (n + 1) new.log
  rounds_after n rounds = rw (same_master old new scenario hosted, same_slaves old new scenario hosted) rounds

  few_after : (n : ℕ) → Rounds (master_in old) (slaves_in old) n old.log → has_report (master_in old) old.log ≡ false → n + 1 ≤ bound (setup_from new.scenario)
  few_after n rounds going =
      let e = master_is old own in
      let below : n < bound (setup_from old.scenario) = few old.scenario sound (slaves_in old) n old.log (rw e at rounds) (ap (λ (m : Option Rules). has_report m old.log) (sym e) ∙ going) in
      let at_most : n + 1 ≤ bound (setup_from old.scenario) = omega (arith, below) in
      rw scenario at_most

  pub smaller_after : (part : List LogEntry) → has_report (master_in old) old.log ≡ false → new.log ≡ old.log ++ part → IsRound (master_in old) (slaves_in old) old.log part
      → bound (setup_from new.scenario) - turns_of new.scenario.master new.log < bound (setup_from old.scenario) - turns_of old.scenario.master old.log
  smaller_after part going form round =
      let e = master_is old own in
      rw scenario (less_left old.scenario (slaves_in old) old.log new.log part sound (ap (λ (m : Option Rules). has_report m old.log) (sym e) ∙ going) form (rw e at round))

  -- the round in which the report came was the last
  pub whole_after : (n : ℕ) → Rounds (master_in old) (slaves_in old) n old.log → has_report (master_in old) old.log ≡ false → (part : List LogEntry) → new.log ≡ old.log ++ part
      → IsRound (master_in old) (slaves_in old) old.log part → progress_of (is_done (master_in old) (slaves_in old) new.log) ≡ Done → new.fault ≡ None → IsWhole new
  whole_after n rounds going part form round done fault =
      let master = same_master old new scenario hosted in
      let slaves = same_slaves old new scenario hosted in
      record {
        before = old.log;
        last = part;
        count = n;
        form = form;
        rounds = rw (master, slaves) rounds;
        going = ap (λ (m : Option Rules). has_report m old.log) master ∙ going;
        round = rw (master, slaves) round;
        few = few_after n rounds going;
        reported = reported_when done;
        fault = fault;
      }

  pub cut_after : (n : ℕ) → Rounds (master_in old) (slaves_in old) n old.log → (part : List LogEntry) → new.log ≡ old.log ++ part → IsRoundPart (master_in old) (slaves_in old) old.log part → IsCutShort new
  cut_after n rounds part form front =
      let master = same_master old new scenario hosted in
      let slaves = same_slaves old new scenario hosted in
      record { count = n; before = old.log; part = part; rounds = rw (master, slaves) rounds; form = form; front = inr (rw (master, slaves) front) }

-- the fault of a call that had one
pub came : {T : Type 0} (before now : ℕ) (result : Result T HostFault) (fault : HostFault) → result ≡ Err fault → Caused before now result → CameFrom fault before now
came before now result (Net count) is cause = (cause.rose count is, cause.named count is)
came before now result OutOfMemory is cause = cause.wanting is
