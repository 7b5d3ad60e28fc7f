-- Over a quiet network each round brings all that was sent before it, where no request is sent again. Logs have their oldest entry first.
use Rattle.std.proofs.Common.{◌≡◌, ℕ, zero, suc, ◌+◌, ◌≤◌, ◌⊎◌, inl, inr, Some, List, [], ◌∷◌, ◌++◌, length, reverse, sym, ap, ◌∙◌, subst, arith, append_assoc}
use Rattle.std.specs.Prelude.{filter}
use Rattle.dcp_types.specs.declared.addresses.Address.{Address}
use Rattle.dcp_ends.specs.declared.entries.LogEntry.{LogEntry}
use Rattle.dcp_ends.specs.declared.entries.LogEntry.TheVariants.{Sent}
use Rattle.slave_desc.specs.declared.descriptions.SlaveDesc.{SlaveDesc}
use Rattle.scenario.specs.declared.scenarios.Scenario.{Scenario}
use Rattle.scenario.specs.Sound.{IsScenario}
use Rattle.dcp_net.specs.declared.openings.Opening.{Opening}
use Rattle.net_world.specs.declared.deliveries.Arrival.{Arrival}
use Rattle.net_world.specs.Calls.{GivesDue}
use Rattle.net_world.specs.Deliveries.{waiting}
use Rattle.net_world.specs.Messages.{messages}
use Rattle.rounds.specs.Rounds.{Rounds, IsRound}
use Rattle.rounds.specs.Steps.{without_turns}
use Rattle.log_spec.specs.Log.{Parties, IsSlaveOf}
use Rattle.log_spec.specs.Oldest.{Honest}
use Rattle.lockstep_laws.specs.Cast.{ConversingSlaves}
use Rattle.lockstep_laws.proofs.Conversation.{drop_later}
use Rattle.lockstep_laws.specs.Models.Scenarios.{slave_numbered}
use Rattle.master_spec.specs.declared.setups.Setup.{Setup}
use Rattle.master_spec.specs.Requests.{asks}
use Rattle.master_spec.specs.Rules.{master_rules}
use Rattle.master_spec.specs.Setup.{setup_from, slave_of}
use Rattle.master_log_laws.specs.Index.Runs.{IsRun}
use Rattle.master_log_laws.proofs.Index.ByEntry.{entry_by_entry}
use Rattle.slave_spec.specs.Slaves.{slave_rules_from}
use Rattle.slave_laws.specs.Data.Whole.{slaves_asked}
use Rattle.run_laws.specs.Laws.{parties, slave_setup_of, rules_of_slaves, IsRunInRounds}
use Rattle.run_laws.proofs.Rounded.{rounds_are_runs}
use Rattle.run_laws.proofs.Headline.Behaving.{are_slaves}
use Rattle.run_laws.proofs.Headline.Moments.{so_far}
use Rattle.completeness_laws.proofs.Delivery.Ended.{run_front}
use Rattle.completeness_laws.specs.Quiet.{IsQuietPlan, ComesIn, StillWaits, is_for_slave, NoneAgain}
use Rattle.completeness_laws.specs.Rounded.{IsPatient, BringAll, NoneAskedAgain, RoundsBringAll}
use Rattle.completeness_laws.proofs.Quiet.Lists.{Each}
use Rattle.completeness_laws.proofs.Quiet.Nets.{told, sent_count, sent_told, given_before}
use Rattle.completeness_laws.proofs.Quiet.Fronts.{onto, G, given_onto}
use Rattle.completeness_laws.proofs.Quiet.Looks.{sent_rises, Fresh}
use Rattle.completeness_laws.proofs.Quiet.Emptied.{tally_length, told_is, onto_is, lose_nothing}
use Rattle.completeness_laws.proofs.Quiet.Once.{few_at}
use Rattle.completeness_laws.proofs.Quiet.Before.{round_begins, follows_front}
use Rattle.completeness_laws.proofs.Quiet.Counts.{between}
use Rattle.completeness_laws.proofs.Quiet.Along.{IsMoment, Along, along_end, along_front, along_whole}
use Rattle.completeness_laws.proofs.Quiet.Passing.{IsReady, IsPassed, passes}

-- ---- parts of a log
honest_front : (w : Parties) (p q : List LogEntry) → Honest w (p ++ q) → Honest w p
honest_front w p q h before after e z = h before (after ++ q) e (ap (λ (l : List LogEntry). l ++ q) z ∙ append_assoc before (e ∷ after) q)

-- what holds of each holds of one of them
each_there : {A : Type 0} → (P : A → Type 0) (before after : List A) (x : A) → Each P (before ++ x ∷ after) → P x
each_there P [] after x h = h.0
each_there P (y ∷ before) after x h = each_there P before after x h.1

module _ (o : Opening) (quiet : IsQuietPlan o.plan) where
  -- the network gave what was due, by the log with its newest entry first
  given_turned : (log : List LogEntry) → GivesDue o [] (without_turns log) → G o quiet (reverse log)
  given_turned log g = let P : List LogEntry → Type 0 = GivesDue o [] in subst P (sym (told_is log)) g

  -- and by the log with its oldest entry first
  given_straight : (log : List LogEntry) → G o quiet (reverse log) → GivesDue o [] (without_turns log)
  given_straight log g = let P : List LogEntry → Type 0 = GivesDue o [] in subst P (told_is log) g

  -- the network that gave what was due gave it in a front
  given_front : (before part : List LogEntry) → GivesDue o [] (without_turns (before ++ part)) → GivesDue o [] (without_turns before)
  given_front before part g =
      let P : List LogEntry → Type 0 = G o quiet in
      given_straight before (given_onto o quiet part (reverse before) (subst P (sym (onto_is part before)) (given_turned (before ++ part) g)))

  -- and before what came later
  given_later : (later sofar : List LogEntry) → G o quiet (later ++ sofar) → G o quiet sofar
  given_later [] sofar g = g
  given_later (e ∷ later) sofar g = given_later later sofar (given_before o e (later ++ sofar) g)

  -- ---- where all that waits after this part was sent after this log, what was sent in the log came
  comes : (before looks : List LogEntry) → Fresh o quiet (sent_count (reverse before) + 1) (onto looks (reverse before)) → GivesDue o [] (without_turns (before ++ looks))
      → (first later : List LogEntry) (from to : Address) (bytes : List ℕ) → before ≡ first ++ Sent from to bytes ∷ later → ComesIn to from bytes (later ++ looks)
  comes before looks fresh given first later from to bytes e = by (lose_nothing o quiet first (later ++ looks) from to bytes (subst P whole given))
    where
      P : List LogEntry → Type 0
      P z = GivesDue o [] (without_turns z)

      whole : before ++ looks ≡ first ++ Sent from to bytes ∷ (later ++ looks)
      whole = ap (λ (l : List LogEntry). l ++ looks) e ∙ append_assoc first (Sent from to bytes ∷ later) looks

      told_whole : told (onto looks (reverse before)) ≡ without_turns (first ++ Sent from to bytes ∷ (later ++ looks))
      told_whole = ap told (onto_is looks before) ∙ told_is (before ++ looks) ∙ ap without_turns whole

      sent_first : messages (without_turns first) ≡ sent_count (reverse first)
      sent_first = ap messages (sym (told_is first)) ∙ sent_told (reverse first)

      sent_before : sent_count (reverse first) + 1 ≤ sent_count (reverse before)
      sent_before =
          let r = sent_rises later (Sent from to bytes ∷ reverse first) in
          let t : sent_count (onto (Sent from to bytes ∷ later) (reverse first)) ≡ sent_count (reverse before) = ap sent_count (onto_is (Sent from to bytes ∷ later) first) ∙ ap (λ (l : List LogEntry). sent_count (reverse l)) (sym e) in
          omega (arith, r, t)

      by : ComesIn to from bytes (later ++ looks) ⊎ StillWaits o from to bytes (messages (without_turns first) + 1) (first ++ Sent from to bytes ∷ (later ++ looks)) → ComesIn to from bytes (later ++ looks)
      by (inl c) = c
      by (inr w) =
          let R : List Arrival → Type 0 = Each (λ (d : Arrival). sent_count (reverse before) + 1 ≤ d.number) in
          let d : Arrival = record { due = messages (without_turns first) + 1; number = messages (without_turns first) + 1; from = from; to = to; bytes = bytes } in
          let k : R (w.before ++ d ∷ w.after) = subst R (ap (waiting o) told_whole ∙ w.is) fresh in
          let n : sent_count (reverse before) + 1 ≤ messages (without_turns first) + 1 = each_there (λ (d : Arrival). sent_count (reverse before) + 1 ≤ d.number) w.before w.after d k in
          let s = sent_first in
          let b = sent_before in
          absurd (omega (arith, n, s, b))

-- ---- the rounds before a round are a run
run_before : (sc : Scenario) (other : SlaveDesc) (n : ℕ) (before part : List LogEntry) → Rounds (Some (master_rules sc)) (rules_of_slaves sc) n before → IsRound (Some (master_rules sc)) (rules_of_slaves sc) before part → IsRunInRounds sc other (before ++ part)
    → IsRunInRounds sc other before
run_before sc other n before part rounds round r = record {
  honest = honest_front (parties sc other) before part r.honest;
  count = n;
  rounds = rounds;
  master = follows_front (master_rules sc) before part (round_begins sc.master (master_rules sc) (rules_of_slaves sc) before part round) r.master;
  slaves = λ s it. follows_front (slave_rules_from (slave_setup_of sc other s)) before part (round_begins (slave_numbered sc other s).address (master_rules sc) (rules_of_slaves sc) before part round) (r.slaves s it);
}

-- ---- every moment of a run in which no request is sent again
module _ (sc : Scenario) (other : SlaveDesc) (ok : IsScenario sc) (o : Opening) (quiet : IsQuietPlan o.plan) where
  abbrev W : Parties
  W = parties sc other

  abbrev X : ConversingSlaves
  X = slaves_asked sc other

  abbrev S : Setup
  S = setup_from sc

  module _ (log : List LogEntry) (r : IsRunInRounds sc other log) (given : GivesDue o [] (without_turns log)) (none : (s : ℕ) → IsSlaveOf (parties sc other) s → NoneAgain (asks sc.master (slave_of sc s (slave_numbered sc other s)) (reverse log))) where
    -- so it is at every moment
    moment : (later sofar : List LogEntry) → reverse log ≡ later ++ sofar → IsMoment sc other o quiet sofar
    moment later sofar split =
        let P : List LogEntry → Type 0 = λ z. IsRun S z in
        let Q : List LogEntry → Type 0 = λ z. G o quiet z in
        record {
          behaves = drop_later W X (are_slaves sc other ok) later sofar (so_far sc other ok log (rounds_are_runs sc other ok log r) later sofar split);
          runs = run_front S later sofar (subst P split (entry_by_entry sc log r.master));
          gives = given_later o quiet later sofar (subst Q split (given_turned o quiet log given));
          few = λ s it. (
              let k = few_at sc other ok log r o quiet given s it later sofar split (none s it) in
              let l : length (filter (is_for_slave W s) (waiting o (told sofar))) ≡ between o quiet W.master (W.slave s) sofar = tally_length (is_for_slave W s) (waiting o (told sofar)) in
              omega (arith, k, l)
              );
        }

  -- before the first round nothing waits
  ready_none : IsReady sc other ok o quiet 0 []
  ready_none = record { fresh = tt; low = omega arith; high = omega arith; master = omega arith; slaves = λ s it. omega arith }

  -- ---- the rounds
  module _ (patient : IsPatient sc.limits) (none_again : NoneAskedAgain) where
    -- each of these rounds brought what was sent before it, and the next may begin
    record IsBrought (n : ℕ) (log : List LogEntry) (rounds : Rounds (Some (master_rules sc)) (rules_of_slaves sc) n log) : Type 0 where
      pub brings : BringAll sc n log rounds
      pub base : ℕ
      pub ready : IsReady sc other ok o quiet base (reverse log)

    -- so it is after one round more
    next : (n : ℕ) (before part : List LogEntry) (rounds : Rounds (Some (master_rules sc)) (rules_of_slaves sc) n before) (round : IsRound (Some (master_rules sc)) (rules_of_slaves sc) before part) → IsRunInRounds sc other (before ++ part)
        → GivesDue o [] (without_turns (before ++ part)) → IsBrought n before rounds → (log : List LogEntry) (split : log ≡ before ++ part) → IsBrought (suc n) log (before, part, split, rounds, round)
    next n before part rounds round run given ih log split = record {
      brings = (ih.brings, comes o quiet before round.looks passed.looked (given_straight o quiet (before ++ round.looks) (subst Q (onto_is round.looks before) at_looks.gives)));
      base = sent_count (reverse before) + 1;
      ready = subst R (onto_is part before ∙ ap reverse (sym split)) passed.ready;
    }
      where
        Q : List LogEntry → Type 0
        Q z = G o quiet z

        R : List LogEntry → Type 0
        R z = IsReady sc other ok o quiet (sent_count (reverse before) + 1) z

        none : (s : ℕ) → IsSlaveOf (parties sc other) s → NoneAgain (asks sc.master (slave_of sc s (slave_numbered sc other s)) (reverse (before ++ part)))
        none s it = none_again sc other ok patient n before part rounds round ih.brings run s it

        along : Along sc other o quiet part (reverse before)
        along = along_whole sc other o quiet (reverse (before ++ part)) (moment (before ++ part) run given none) part (reverse before) (sym (onto_is part before))

        along_looks : Along sc other o quiet round.looks (reverse before)
        along_looks = let P : List LogEntry → Type 0 = λ z. Along sc other o quiet z (reverse before) in along_front sc other o quiet round.looks round.turns (reverse before) (subst P round.form along)

        at_looks : IsMoment sc other o quiet (onto round.looks (reverse before))
        at_looks = along_end sc other o quiet round.looks (reverse before) along_looks

        passed : IsPassed sc other ok o quiet (reverse before) round.looks part
        passed = passes sc other ok o quiet ih.base (reverse before) ih.ready before part round along

    -- so it is after all of them
    brought : (n : ℕ) (log : List LogEntry) (rounds : Rounds (Some (master_rules sc)) (rules_of_slaves sc) n log) → IsRunInRounds sc other log → GivesDue o [] (without_turns log) → IsBrought n log rounds
    brought zero log rounds run given =
        let P : List LogEntry → Type 0 = λ z. IsReady sc other ok o quiet 0 (reverse z) in
        record { brings = tt; base = 0; ready = subst P (sym rounds) ready_none }
    brought (suc n) log (before, part, split, rounds, round) run given =
        let P : List LogEntry → Type 0 = λ z. IsRunInRounds sc other z in
        let Q : List LogEntry → Type 0 = λ z. GivesDue o [] (without_turns z) in
        let r = subst P split run in
        let g = subst Q split given in
        next n before part rounds round r g (brought n before rounds (run_before sc other n before part rounds round r) (given_front o quiet before part g)) log split

module _ (none_again : NoneAskedAgain) where
  pub bring_all : RoundsBringAll
  bring_all sc other ok patient log run o quiet given = (brought sc other ok o quiet patient none_again run.count log run.rounds run given).brings
