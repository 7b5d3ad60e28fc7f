-- From what a host tells of its log to the reference of its scenario.
use Rattle.std.proofs.Common.{◌≡◌, ℕ, suc, ◌+◌, ◌-◌, ◌<◌, ◌≤◌, ◌⊎◌, inl, inr, true, Option, None, Some, IfSome, MatchOption, List, [], ◌∷◌, ◌++◌, length, map, refl, sym, ap, ◌∙◌, subst, arith}
use Rattle.std.specs.Prelude.{slice_get}
use Rattle.std.specs.List.{All}
use Rattle.std.proofs.Math.ListN.{get_or-map}
use Rattle.std.proofs.lemmas.Bool.{cond-true}
use Rattle.std.proofs.lemmas.List.{length-map}
use Rattle.std.proofs.lemmas.Option.{slice_get_within}
use Rattle.dcp_ends.specs.declared.entries.LogEntry.{LogEntry}
use Rattle.dcp_ends.specs.Events.{Rules}
use Rattle.pdu_layout.specs.Reading.{message_in}
use Rattle.log_spec.specs.Log.{IsSlaveOf, IsEnd, AreAtEnds}
use Rattle.log_spec.specs.Oldest.{Honest}
use Rattle.dcp_types.specs.declared.addresses.Address.{Address}
use Rattle.rounds.specs.Rounds.{Rounds, IsRoundPart}
use Rattle.rounds.specs.Told.{FollowsUpTo}
use Rattle.rounds.specs.declared.one_end.HostFault.{HostFault}
use Rattle.slave_desc.specs.declared.descriptions.SlaveDesc.{SlaveDesc}
use Rattle.scenario.specs.declared.scenarios.Scenario.{Scenario}
use Rattle.scenario.specs.Sound.{IsScenario}
use Rattle.master_spec.specs.Rules.{master_rules}
use Rattle.slave_spec.specs.Slaves.{slave_rules_from}
use Rattle.lockstep_laws.specs.Models.Scenarios.{slave_numbered}
use Rattle.lockstep_laws.proofs.Models.Scenarios.{has_parties}
use Rattle.run_laws.specs.Laws.{parties, slave_setup_of, rules_of_slaves}
use Rattle.run_laws.specs.Headline.Headline.{KeepsToReference}
use Rattle.run_laws.proofs.Headline.Headline.{keep_to_reference}
use Rattle.host.specs.declared.hosted.Hosted.{Hosted}
use Rattle.host.specs.Hosting.{is_hosted, hosted_from}
use Rattle.host.specs.Views.{HostView, master_in, slaves_in}
use Rattle.host_laws.specs.Lockstep.{HostsAll, IsInRounds, HostKeepsInStep}
use Rattle.host_laws.proofs.Fronts.{AllAt, Calm, are_at_ends, is_calm}
use Rattle.host_laws.proofs.Completed.{completed, keeps_front}

-- ---- all are hosted
all_from : (hosted : Hosted) (s : ℕ) (ds : List SlaveDesc) → ((t : ℕ) → s ≤ t → t < s + length ds → is_hosted hosted t ≡ true) → hosted_from hosted s ds ≡ ds
all_from hosted s [] h = refl
all_from hosted s (d ∷ ds) h =
    cond-true (is_hosted hosted s) (d ∷ hosted_from hosted (s + 1) ds) (hosted_from hosted (s + 1) ds) (h s (omega arith) (omega arith))
    ∙ ap (λ (l : List SlaveDesc). d ∷ l) (all_from hosted (s + 1) ds (λ t le lt. h t (omega (arith, le)) (omega (arith, lt))))

pub slaves_are : (host : HostView) → HostsAll host → slaves_in host ≡ rules_of_slaves host.scenario
slaves_are host all =
    ap (map (λ (d : SlaveDesc). slave_rules_from (record { desc = d; micro = host.scenario.micro })))
    (all_from host.hosted 1 host.scenario.slaves (λ t le lt. all.slaves t (le, omega (arith, lt))))

pub master_is : (host : HostView) → HostsAll host → master_in host ≡ Some (master_rules host.scenario)
master_is host all = cond-true host.hosted.master (Some (master_rules host.scenario)) None all.master

-- ---- the ends of a scenario
anywhere : (sc : Scenario) (ds : List SlaveDesc) (E : Address → Type 0) → ((i : ℕ) (d : SlaveDesc) → slice_get ds i ≡ Some d → E d.address) → AllAt E (map (λ (d : SlaveDesc). slave_rules_from (record { desc = d; micro = sc.micro })) ds)
anywhere sc [] E h = tt
anywhere sc (d ∷ ds) E h = (h 0 d refl, anywhere sc ds E (λ i d e. h (suc i) d e))

slave_end : (sc : Scenario) (other : SlaveDesc) → IsScenario sc → (i : ℕ) (d : SlaveDesc) → slice_get sc.slaves i ≡ Some d → IsEnd (parties sc other) d.address
slave_end sc other ok i d e =
    let lt = slice_get_within sc.slaves i d e in
    let is : IsSlaveOf (parties sc other) (i + 1) = (omega arith, omega (arith, lt)) in
    let m : i + 1 - 1 ≡ i = omega arith in
    let same : Some d ≡ Some (slave_numbered sc other (i + 1)) = sym e ∙ ap (slice_get sc.slaves) (sym m) ∙ (has_parties sc other ok message_in).desc (i + 1) is in
    let z : d ≡ slave_numbered sc other (i + 1) = cc in
    inr (i + 1, is, ap (λ (x : SlaveDesc). x.address) z)

-- ---- the log of a host
pub fronts_of : (host : HostView) (before part : List LogEntry) (fault : Option HostFault) → MatchOption fault (part ≡ []) (λ _. (part ≡ []) ⊎ IsRoundPart (master_in host) (slaves_in host) before part)
    → (part ≡ []) ⊎ IsRoundPart (master_in host) (slaves_in host) before part
fronts_of host before part None front = inl front
fronts_of host before part (Some fault) front = front

module _ (host : HostView) (all : HostsAll host) (other : SlaveDesc) where
  slave_follows : All (λ r. FollowsUpTo r host.log) (rules_of_slaves host.scenario) → (s : ℕ) → IsSlaveOf (parties host.scenario other) s → FollowsUpTo (slave_rules_from (slave_setup_of host.scenario other s)) host.log
  slave_follows each s is =
      let rules : SlaveDesc → Rules = λ d. slave_rules_from (record { desc = d; micro = host.scenario.micro }) in
      let many : length (map rules host.scenario.slaves) ≡ length host.scenario.slaves = rw length-map refl in
      let within : s - 1 < length (map rules host.scenario.slaves) = omega (arith, is.0, is.1, many) in
      subst (λ (r : Rules). FollowsUpTo r host.log) (get_or-map rules host.scenario.slaves (s - 1) other) (each (s - 1) (rules other) within)

  master_follows : (first : Option Rules) → first ≡ Some (master_rules host.scenario) → IfSome first (λ r. FollowsUpTo r host.log) → FollowsUpTo (master_rules host.scenario) host.log
  master_follows None none up = absurd cc
  master_follows (Some r) same up = let z : r ≡ master_rules host.scenario = cc in subst (λ (r : Rules). FollowsUpTo r host.log) z up

  module _ (honest : Honest (parties host.scenario other) host.log) (up : FollowsUpTo (master_rules host.scenario) host.log) (each : All (λ r. FollowsUpTo r host.log) (rules_of_slaves host.scenario))
      (n : ℕ) (before part : List LogEntry) (rounds : Rounds (Some (master_rules host.scenario)) (rules_of_slaves host.scenario) n before) (form : host.log ≡ before ++ part)
      (front : (part ≡ []) ⊎ IsRoundPart (Some (master_rules host.scenario)) (rules_of_slaves host.scenario) before part) where
    at_ends : AreAtEnds (parties host.scenario other) host.log
    at_ends =
        subst (λ (l : List LogEntry). AreAtEnds (parties host.scenario other) l) (sym form)
        (are_at_ends (master_rules host.scenario) (rules_of_slaves host.scenario) n before part rounds front (parties host.scenario other) (inl refl)
        (anywhere host.scenario host.scenario.slaves (IsEnd (parties host.scenario other)) (slave_end host.scenario other all.sound)))

    calm : (a : Address) → Calm a host.log
    calm a = subst (λ (l : List LogEntry). Calm a l) (sym form) (is_calm (master_rules host.scenario) (rules_of_slaves host.scenario) n before part rounds front a)

    pub keeps : KeepsToReference host.scenario other host.log
    keeps =
        let whole = completed host.scenario other all.sound host.log honest at_ends calm up (slave_follows each) in
        keeps_front host.scenario other host.log whole.left (keep_to_reference host.scenario other all.sound (host.log ++ whole.left) whole.run)

pub keeps_in_step : (host : HostView) → HostsAll host → IsInRounds host → IfSome (master_in host) (λ r. FollowsUpTo r host.log) → All (λ r. FollowsUpTo r host.log) (slaves_in host) → HostKeepsInStep host
keeps_in_step host all in_rounds up each = λ other honest. (
    let ms = master_is host all in
    let ss = slaves_are host all in
    let R : Option Rules → Type 0 = λ m. Rounds m (slaves_in host) in_rounds.count in_rounds.before in
    let S : List Rules → Type 0 = λ rs. Rounds (Some (master_rules host.scenario)) rs in_rounds.count in_rounds.before in
    let F : Option Rules → Type 0 = λ m. (in_rounds.part ≡ []) ⊎ IsRoundPart m (slaves_in host) in_rounds.before in_rounds.part in
    let G : List Rules → Type 0 = λ rs. (in_rounds.part ≡ []) ⊎ IsRoundPart (Some (master_rules host.scenario)) rs in_rounds.before in_rounds.part in
    let E : List Rules → Type 0 = λ rs. All (λ r. FollowsUpTo r host.log) rs in
    keeps host all other honest (master_follows host all other (master_in host) ms up) (subst E ss each) in_rounds.count in_rounds.before in_rounds.part
    (subst S ss (subst R ms in_rounds.rounds)) in_rounds.form (subst G ss (subst F ms (fronts_of host in_rounds.before in_rounds.part host.fault in_rounds.front)))
    )
