-- The ends of a scenario are the master and the slaves that the laws speak of.
use Rattle.std.proofs.Common.{◌≡◌, ℕ, zero, suc, ◌+◌, ◌-◌, Bool, true, false, Some, List, [], ◌∷◌, refl, sym, ap, ◌∙◌, arith}
use Rattle.std.specs.Prelude.{slice_get, not}
use Rattle.std.proofs.lemmas.Bool.{eq-eqb}
use Rattle.std.proofs.lemmas.Option.{slice_get_within}
use Rattle.dcp_types.specs.declared.states.State.TheVariants.{Alive}
use Rattle.dcp_types.specs.declared.error_codes.ErrorCode.TheVariants.{WrongState, UuidMismatch, Version, OpMode}
use Rattle.pdu_layout.specs.declared.messages.Stc.TheVariants as stc
use Rattle.pdu_layout.specs.Reading.{message_in}
use Rattle.slave_desc.specs.declared.descriptions.SlaveDesc.{SlaveDesc}
use Rattle.scenario.specs.declared.scenarios.Scenario.{Scenario}
use Rattle.scenario.specs.Sound.{IsScenario}
use Rattle.log_spec.specs.Log.{IsSlaveOf}
use Rattle.master_spec.specs.declared.setups.Slave.{Slave}
use Rattle.master_spec.specs.Setup.{setup_from, slave_of, slaves_from}
use Rattle.slave_spec.specs.declared.words.SlaveSetup.{SlaveSetup}
use Rattle.slave_spec.specs.declared.words.Asked.TheVariants.{Change}
use Rattle.slave_spec.specs.Requests.{first_true}
use Rattle.slave_spec.specs.Slaves.{machine}
use Rattle.slave_laws.specs.Talk.Desks.{accepts_note, accepts_asked}
use Rattle.lockstep_laws.specs.Models.Scenarios.{slave_numbered}
use Rattle.lockstep_laws.proofs.Models.Scenarios.{has_parties}
use Rattle.master_laws.specs.Meets.Laws.{IsParty, ArePartiesOf, register_note}
use Rattle.run_laws.specs.Laws.{parties}

-- ---- the slaves of a scenario
place_of : (sc : Scenario) (k : ℕ) (ds : List SlaveDesc) (i : ℕ) (d : SlaveDesc) → slice_get ds i ≡ Some d → slice_get (slaves_from sc k ds) i ≡ Some (slave_of sc (k + i) d)
place_of sc k [] i d e = absurd cc
place_of sc k (x ∷ ds) zero d e = let z : x ≡ d = cc in ap (λ (y : SlaveDesc). Some (slave_of sc k y)) z ∙ ap (λ (n : ℕ). Some (slave_of sc n d)) (omega arith)
place_of sc k (x ∷ ds) (suc i) d e = place_of sc (k + 1) ds i d e ∙ ap (λ (n : ℕ). Some (slave_of sc n d)) (omega arith)

at_place : (sc : Scenario) (k : ℕ) (ds : List SlaveDesc) (i : ℕ) (slave : Slave) → slice_get (slaves_from sc k ds) i ≡ Some slave → (d : SlaveDesc) × ((slice_get ds i ≡ Some d) × (slave ≡ slave_of sc (k + i) d))
at_place sc k [] i slave e = absurd cc
at_place sc k (d ∷ ds) zero slave e = let z : slave_of sc k d ≡ slave = cc in (d, (refl, sym z ∙ ap (λ (n : ℕ). slave_of sc n d) (omega arith)))
at_place sc k (d ∷ ds) (suc i) slave e = let r = at_place sc (k + 1) ds i slave e in (r.0, ((r.1).0, (r.1).1 ∙ ap (λ (n : ℕ). slave_of sc n r.0) (omega arith)))

module _ (sc : Scenario) (other : SlaveDesc) (ok : IsScenario sc) where
  numbered : (s : ℕ) → IsSlaveOf (parties sc other) s → slice_get (setup_from sc).slaves (s - 1) ≡ Some (slave_of sc s (slave_numbered sc other s))
  numbered s is = place_of sc 1 sc.slaves (s - 1) (slave_numbered sc other s) ((has_parties sc other ok message_in).desc s is) ∙ ap (λ (n : ℕ). Some (slave_of sc n (slave_numbered sc other s))) (omega (arith, is.0))

  pub party : (s : ℕ) → IsSlaveOf (parties sc other) s → IsParty (setup_from sc) (parties sc other) s (slave_of sc s (slave_numbered sc other s))
  party s is = record { is_in = (s - 1, numbered s is); id = refl; address = refl }

  pub are_parties : ArePartiesOf (setup_from sc) (parties sc other)
  are_parties = record {
    master = refl;
    read = λ b. refl;
    apart = (has_parties sc other ok message_in).apart;
    each = λ s is. (slave_of sc s (slave_numbered sc other s), party s is);
    all = λ slave i. all slave i.0 i.1;
  }
    where
      all : (slave : Slave) (i : ℕ) → slice_get (setup_from sc).slaves i ≡ Some slave → IsSlaveOf (parties sc other) slave.id × IsParty (setup_from sc) (parties sc other) slave.id slave
      all slave i e =
          let z = at_place sc 1 sc.slaves i slave e in
          let n : slave.id ≡ 1 + i = ap (λ (x : Slave). x.id) (z.1).1 in
          let lt = slice_get_within sc.slaves i z.0 (z.1).0 in
          let is : IsSlaveOf (parties sc other) slave.id = (omega (arith, n), omega (arith, n, lt)) in
          let m : slave.id - 1 ≡ i = omega (arith, n) in
          let d : Some z.0 ≡ Some (slave_numbered sc other slave.id) = sym (z.1).0 ∙ ap (slice_get sc.slaves) (sym m) ∙ (has_parties sc other ok message_in).desc slave.id is in
          let same : z.0 ≡ slave_numbered sc other slave.id = cc in
          (is, record { is_in = (i, e); id = refl; address = ap (λ (x : Slave). x.address) (z.1).1 ∙ ap (λ (x : SlaveDesc). x.address) same })

-- ---- the first request
pub accepts_it : (setup : SlaveSetup) (id : ℕ) → accepts_note (machine setup) (register_note id setup.desc.uuid) ≡ true
accepts_it setup id =
    ap (λ (b : Bool). accepts_asked (machine setup) 0 (Change Alive (stc.Register setup.desc.uuid 2 1 0)) (first_true ((false, WrongState) ∷ (not b, UuidMismatch) ∷ (false, Version) ∷ (false, OpMode) ∷ [])))
    (eq-eqb setup.desc.uuid setup.desc.uuid refl)
