-- The data ids of a slave as parts of its setup.
use Rattle.std.proofs.Common.{◌≡◌, ◌≢◌, ℕ, ◌+◌, ◌<◌, ◌≤◌, Bool, true, false, eqb, List, length, refl, arith, ⊎_elim}
use Rattle.std.specs.Prelude.{◌==◌, ◌&&◌, filter}
use Rattle.std.specs.List.{AllByRecursion, list_any}
use Rattle.std.proofs.lemmas.Bool.{eqb-true}
use Rattle.std.proofs.lemmas.Bool.Decides.{nat_tests}
use Rattle.dcp_types.specs.Codes.{protocol_code}
use Rattle.dcp_types.specs.declared.protocols.Protocol.{Protocol}
use Rattle.dcp_types.specs.declared.protocols.Protocol.TheVariants.{Udp, Tcp}
use Rattle.scenario.specs.declared.scenarios.Wire.{Wire}
use Rattle.scenario.specs.declared.scenarios.Every.{Every}
use Rattle.scenario.specs.declared.scenarios.Scenario.{Scenario}
use Rattle.scenario.specs.Sound.{IsScenario, IsEvery}
use Rattle.master_spec.specs.declared.links.DataLink.{DataLink}
use Rattle.master_spec.specs.declared.pairs.Pair.{Pair}
use Rattle.master_spec.specs.Links.{pairs_from, is_wired_pair, wired_pairs, wire_links, wire_link}
use Rattle.slave_spec.specs.Refusals.{is_transport}
use Rattle.plan_laws.proofs.Lists.{Pairwise, each_weaker, each_both, each_filter, each_passes, each_from_all, pairwise_weaker, pairwise_filter, few_between}
use Rattle.plan_laws.proofs.Pairs.{IsBefore, IsWithin, pairs_within, pairs_ascend, each_link, pairwise_links, interval_within}

-- a data id from 17 on, of a pair of slaves with a wire, with its interval
pub record IsWireLink (sc : Scenario) (l : DataLink) : Type 0 where
  pub id : 17 ≤ l.id
  pub interval : (1 ≤ l.every) × (l.every ≤ 1000)
  pub wired : list_any (λ (w : Wire). (w.from == l.from) && (w.to == l.to)) sc.wires ≡ true
  pub to : (1 ≤ l.to) × (l.to ≤ length sc.slaves)

-- two data ids, in their order
pub record IsLinkBefore (l r : DataLink) : Type 0 where
  pub apart : eqb l.id r.id ≡ false
  pub before : IsBefore (record { from = l.from; to = l.to }) (record { from = r.from; to = r.to })

intervals : (sc : Scenario) → IsScenario sc → AllByRecursion (λ (e : Every). (1 ≤ e.q) × (e.q ≤ 1000)) sc.every
intervals sc h = each_weaker (λ (e : Every). IsEvery sc.slaves sc.wires e) (λ (e : Every). (1 ≤ e.q) × (e.q ≤ 1000)) (λ e k. k.q) sc.every (each_from_all (λ (e : Every). IsEvery sc.slaves sc.wires e) sc.every h.every)

abbrev IsWiredPair : Scenario → Pair → Type 0
IsWiredPair sc p = (is_wired_pair sc.wires p ≡ true) × (1 ≤ p.to) × (p.to ≤ length sc.slaves)

pairs_wired : (sc : Scenario) (n : ℕ) → n ≡ length sc.slaves → AllByRecursion (IsWiredPair sc) (filter (is_wired_pair sc.wires) (pairs_from 1 n 1 n))
pairs_wired sc n e =
    each_both (λ (p : Pair). is_wired_pair sc.wires p ≡ true) (IsWithin 1 n 1 n) (IsWiredPair sc) (λ p h k. (h, k.to.0, omega (arith, k.to.1, e))) (filter (is_wired_pair sc.wires) (pairs_from 1 n 1 n))
    (each_passes (is_wired_pair sc.wires) (pairs_from 1 n 1 n)) (each_filter (IsWithin 1 n 1 n) (is_wired_pair sc.wires) (pairs_from 1 n 1 n) (pairs_within 1 n 1 n))

pub links_wired : (sc : Scenario) → IsScenario sc → AllByRecursion (IsWireLink sc) (wire_links sc)
links_wired sc h =
    each_link (IsWireLink sc) sc 17 (wired_pairs sc)
    (each_weaker (IsWiredPair sc) (λ (p : Pair). (i : ℕ) → 17 ≤ i → IsWireLink sc (wire_link sc i p))
    (λ p k i l. record { id = l; interval = interval_within sc.every p.from p.to (intervals sc h); wired = k.0; to = (k.1, k.2) })
    (wired_pairs sc) (pairs_wired sc (length sc.slaves) refl))

pub links_ordered : (sc : Scenario) → Pairwise IsLinkBefore (wire_links sc)
links_ordered sc =
    let n : ℕ = length sc.slaves in
    pairwise_links IsLinkBefore sc 17 (wired_pairs sc)
    (pairwise_weaker (IsWithin 1 n 1 n) IsBefore (λ (p q : Pair). (i j : ℕ) → i < j → IsLinkBefore (wire_link sc i p) (wire_link sc j q))
    (λ p q hp hq before i j less. record { apart = grind (arith, nat_tests, less); before = before })
    (wired_pairs sc) (each_filter (IsWithin 1 n 1 n) (is_wired_pair sc.wires) (pairs_from 1 n 1 n) (pairs_within 1 n 1 n)) (pairwise_filter IsBefore (is_wired_pair sc.wires) (pairs_from 1 n 1 n) (pairs_ascend 1 n 1 n)))

-- the data ids that come to a slave, and those that it sends to slaves
abbrev pub links_to : Scenario → ℕ → List DataLink
links_to sc s = filter (λ (l : DataLink). l.to == s) (wire_links sc)

abbrev pub links_of : Scenario → ℕ → List DataLink
links_of sc s = filter (λ (l : DataLink). l.from == s) (wire_links sc)

pub to_here : (sc : Scenario) (s : ℕ) → AllByRecursion (λ (l : DataLink). l.to ≡ s) (links_to sc s)
to_here sc s = each_weaker (λ (l : DataLink). (l.to == s) ≡ true) (λ (l : DataLink). l.to ≡ s) (λ l t. eqb-true l.to s t) (links_to sc s) (each_passes (λ (l : DataLink). l.to == s) (wire_links sc))

pub from_here : (sc : Scenario) (s : ℕ) → AllByRecursion (λ (l : DataLink). l.from ≡ s) (links_of sc s)
from_here sc s = each_weaker (λ (l : DataLink). (l.from == s) ≡ true) (λ (l : DataLink). l.from ≡ s) (λ l t. eqb-true l.from s t) (links_of sc s) (each_passes (λ (l : DataLink). l.from == s) (wire_links sc))

-- two data ids that come to one slave have two senders
pub record HaveTwoSenders (l r : DataLink) : Type 0 where
  pub apart : eqb l.id r.id ≡ false
  pub senders : l.from ≢ r.from

two_senders : (s : ℕ) (l r : DataLink) → l.to ≡ s → r.to ≡ s → IsLinkBefore l r → HaveTwoSenders l r
two_senders s l r a b h = record {
  apart = h.apart;
  senders = λ same. ⊎_elim (λ (x : l.from < r.from). omega (arith, x, same)) (λ (x : (l.from ≡ r.from) × (l.to < r.to)). omega (arith, x.1, a, b)) h.before;
}

pub senders_apart : (sc : Scenario) (s : ℕ) → Pairwise HaveTwoSenders (links_to sc s)
senders_apart sc s =
    pairwise_weaker (λ (l : DataLink). l.to ≡ s) IsLinkBefore HaveTwoSenders (two_senders s) (links_to sc s) (to_here sc s) (pairwise_filter IsLinkBefore (λ (l : DataLink). l.to == s) (wire_links sc) (links_ordered sc))

receivers_ascend : (s : ℕ) (l r : DataLink) → l.from ≡ s → r.from ≡ s → IsLinkBefore l r → l.to < r.to
receivers_ascend s l r a b h = ⊎_elim (λ (x : l.from < r.from). absurd (omega (arith, x, a, b))) (λ (x : (l.from ≡ r.from) × (l.to < r.to)). x.1) h.before

-- a slave sends to 16 slaves at most
pub few_receivers : (sc : Scenario) (s : ℕ) → IsScenario sc → length (links_of sc s) ≤ 16
few_receivers sc s h =
    let n : ℕ = length sc.slaves in
    let mine : DataLink → Bool = λ (l : DataLink). l.from == s in
    let few : length (links_of sc s) ≤ n =
    few_between (λ (l : DataLink). l.to) (links_of sc s) 1 n
    (pairwise_weaker (λ (l : DataLink). l.from ≡ s) IsLinkBefore (λ (l r : DataLink). l.to < r.to) (receivers_ascend s) (links_of sc s) (from_here sc s) (pairwise_filter IsLinkBefore mine (wire_links sc) (links_ordered sc)))
    (each_filter (λ (l : DataLink). (1 ≤ l.to) × (l.to < 1 + n)) mine (wire_links sc)
    (each_weaker (IsWireLink sc) (λ (l : DataLink). (1 ≤ l.to) × (l.to < 1 + n)) (λ l k. (k.to.0, omega (arith, k.to.1))) (wire_links sc) (links_wired sc h))) in
    omega (arith, few, h.few_slaves.1)

-- the code of a transport is one that a slave takes
pub transport_taken : (p : Protocol) → is_transport (protocol_code p) ≡ true
transport_taken Udp = refl
transport_taken Tcp = refl
