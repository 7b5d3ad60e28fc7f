-- The hosted ends of a scenario have addresses of their own.
use Rattle.std.proofs.Common.{◌≡◌, ◌≢◌, ℕ, ◌+◌, ◌<◌, List, [], ◌∷◌, length, map, get_or, Bool, true, false, if◌then◌else◌, Some, None, zero, suc, refl, sym, ap, ◌∙◌, inl, inr, arith}
use Rattle.std.specs.List.{All, AllPairs}
use Rattle.std.proofs.lemmas.Bool.{cases_Bool}
use Rattle.std.proofs.lemmas.Bool.Decides.{nat_tests}
use Rattle.dcp_types.specs.declared.addresses.Address.{Address}
use Rattle.dcp_ends.specs.Events.{Rules}
use Rattle.dcp_ends.specs.Logs.{same_address}
use Rattle.rounds.specs.Rounds.{hosted}
use Rattle.rounds.specs.Told.{Apart}
use Rattle.slave_desc.specs.declared.descriptions.SlaveDesc.{SlaveDesc}
use Rattle.scenario.specs.declared.scenarios.Scenario.{Scenario}
use Rattle.scenario.specs.Sound.{IsScenario}
use Rattle.master_spec.specs.Rules.{master_rules}
use Rattle.host.specs.declared.hosted.Hosted.{Hosted}
use Rattle.host.specs.Hosting.{is_hosted, hosted_from, hosted_slaves, slave_rules, master_of, slaves_of}

address : ℕ → ℕ → Address
address ip port = record { ip = ip; port = port }

same_is_one : (a b : Address) → same_address a b ≡ true → a ≡ b
unfolding address
same_is_one a b h =
    let ip : a.ip ≡ b.ip = grind (arith, nat_tests) in
    let port : a.port ≡ b.port = grind (arith, nat_tests) in
    ap (λ (x : ℕ). address x a.port) ip ∙ ap (address b.ip) port

differ : (a b : Address) → (a ≢ b) → same_address a b ≡ false
differ a b ne = elim (cases_Bool (same_address a b)) [
  | inl same ↦ absurd (ne (same_is_one a b same))
  | inr other ↦ other
]

differ_back : (a b : Address) → (a ≢ b) → same_address b a ≡ false
differ_back a b ne = differ b a (λ e. ne (sym e))

-- an address is none of these slaves'
Far : Address → List SlaveDesc → Type 0
Far a [] = Unit {0}
Far a (d ∷ ds) = (a ≢ d.address) × Far a ds

-- no two of these slaves have one address
AreFar : List SlaveDesc → Type 0
AreFar [] = Unit {0}
AreFar (d ∷ ds) = Far d.address ds × AreFar ds

far_each : (a : Address) (ds : List SlaveDesc) → All (λ d. a ≢ d.address) ds → Far a ds
unfolding Far
far_each a [] all = tt
far_each a (d ∷ ds) all = (all 0 d (omega arith), far_each a ds (λ k e lt. all (suc k) e (omega arith)))

far_all : (ds : List SlaveDesc) → AllPairs (λ d e. d.address ≢ e.address) ds → AreFar ds
unfolding AreFar
far_all [] pairs = tt
far_all (d ∷ ds) pairs =
    (far_each d.address ds (λ k e lt. pairs 0 (suc k) e (omega arith) (omega arith)), far_all ds (λ i j e below lt. pairs (suc i) (suc j) e (omega arith) (omega arith)))

far_kept : (b : Bool) (a : Address) (d : SlaveDesc) (ds : List SlaveDesc) → (a ≢ d.address) → Far a ds → Far a (if b then d ∷ ds else ds)
unfolding Far
far_kept true a d ds ne far = (ne, far)
far_kept false a d ds ne far = far

far_hosted : (h : Hosted) (s : ℕ) (a : Address) (ds : List SlaveDesc) → Far a ds → Far a (hosted_from h s ds)
unfolding Far
far_hosted h s a [] far = tt
far_hosted h s a (d ∷ ds) far = far_kept (is_hosted h s) a d (hosted_from h (s + 1) ds) far.0 (far_hosted h (s + 1) a ds far.1)

are_far_kept : (b : Bool) (d : SlaveDesc) (ds : List SlaveDesc) → Far d.address ds → AreFar ds → AreFar (if b then d ∷ ds else ds)
unfolding AreFar
are_far_kept true d ds far all = (far, all)
are_far_kept false d ds far all = all

are_far_hosted : (h : Hosted) (s : ℕ) (ds : List SlaveDesc) → AreFar ds → AreFar (hosted_from h s ds)
unfolding AreFar
are_far_hosted h s [] all = tt
are_far_hosted h s (d ∷ ds) all = are_far_kept (is_hosted h s) d (hosted_from h (s + 1) ds) (far_hosted h (s + 1) d.address ds all.0) (are_far_hosted h (s + 1) ds all.1)

module _ (sc : Scenario) where
  far_at : (a : Address) (ds : List SlaveDesc) (k : ℕ) (r : Rules) → Far a ds → k < length (map (slave_rules sc) ds) → a ≢ (get_or (map (slave_rules sc) ds) k r).place
  unfolding Far
  far_at a [] k r far lt = absurd (omega arith)
  far_at a (d ∷ ds) zero r far lt = far.0
  far_at a (d ∷ ds) (suc k) r far lt = far_at a ds k r far.1 (omega arith)

  apart_slaves : (ds : List SlaveDesc) → AreFar ds → Apart (map (slave_rules sc) ds)
  unfolding AreFar
  apart_slaves [] far j k r lj lk ne = absurd (omega arith)
  apart_slaves (d ∷ ds) far zero zero r lj lk ne = absurd (ne refl)
  apart_slaves (d ∷ ds) far zero (suc k) r lj lk ne = differ d.address _ (far_at d.address ds k r far.0 (omega arith))
  apart_slaves (d ∷ ds) far (suc j) zero r lj lk ne = differ_back d.address _ (far_at d.address ds j r far.0 (omega arith))
  apart_slaves (d ∷ ds) far (suc j) (suc k) r lj lk ne = apart_slaves ds far.1 j k r (omega arith) (omega arith) (omega arith)

  apart_both : (m : Bool) (ds : List SlaveDesc) → Far sc.master ds → AreFar ds → Apart (hosted (if m then Some (master_rules sc) else None) (map (slave_rules sc) ds))
  apart_both false ds first far j k r lj lk ne = apart_slaves ds far j k r lj lk ne
  apart_both true ds first far zero zero r lj lk ne = absurd (ne refl)
  apart_both true ds first far zero (suc k) r lj lk ne = differ sc.master _ (far_at sc.master ds k r first (omega arith))
  apart_both true ds first far (suc j) zero r lj lk ne = differ_back sc.master _ (far_at sc.master ds j r first (omega arith))
  apart_both true ds first far (suc j) (suc k) r lj lk ne = apart_slaves ds far j k r (omega arith) (omega arith) (omega arith)

  pub hosted_apart : (h : Hosted) → IsScenario sc → Apart (hosted (master_of sc h) (slaves_of sc h))
  hosted_apart h sound =
      apart_both h.master (hosted_slaves sc h) (far_hosted h 1 sc.master sc.slaves (far_each sc.master sc.slaves sound.master_apart)) (are_far_hosted h 1 sc.slaves (far_all sc.slaves sound.addresses_apart))
