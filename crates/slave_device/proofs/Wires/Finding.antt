-- The port with a value reference is the first that has it.
use Rattle.std.proofs.Common.{◌≡◌, ◌≢◌, ℕ, zero, suc, ◌<◌, true, false, List, [], ◌∷◌, length, get_or, refl, ap, subst, arith, Some, None}
use Rattle.std.proofs.lemmas.Bool.Decides.{nat_tests}
use Rattle.std.specs.Prelude.{◌==◌}
use Rattle.slave_desc.specs.declared.ports.Port.{Port}
use Rattle.slave_spec.specs.Refusals.{port_with}
use Rattle.slave_device.specs.declared.places.PortPlace.{PortPlace}
use Rattle.slave_device.specs.Wires.Ports.{port_index, IsPort}
use Rattle.std.proofs.lemmas.List.{get_or_default}

pub record IsFirst (vr : ℕ) (ports : List Port) (i : ℕ) (port : Port) : Type 0 where
  pub index : port_index vr ports ≡ i
  pub found : port_with vr ports ≡ Some port

pub first_is : (vr : ℕ) (ports : List Port) (i : ℕ) (port : Port) → i < length ports → ((k : ℕ) (d : Port) → k < i → (get_or ports k d).vr ≢ vr) → get_or ports i port ≡ port → port.vr ≡ vr → IsFirst vr ports i port
first_is vr [] i port within front at same = absurd (omega arith)
first_is vr (p ∷ ps) zero port within front at same =
    let e : (p.vr == vr) ≡ true = grind (arith, nat_tests, at, same) in
    record { index = rw e refl; found = rw e (ap Some at) }
first_is vr (p ∷ ps) (suc i) port within front at same =
    let e : (p.vr == vr) ≡ false = grind (arith, nat_tests, front 0 p (omega arith)) in
    let r = first_is vr ps i port (omega arith) (λ k d h. front (suc k) d (omega arith)) at same in
    record { index = rw e (ap (λ n. suc n) r.index); found = rw e r.found }

pub nowhere : (vr : ℕ) (ports : List Port) → ((k : ℕ) (d : Port) → k < length ports → (get_or ports k d).vr ≢ vr) → port_with vr ports ≡ None
nowhere vr [] none = refl
nowhere vr (p ∷ ps) none =
    let e : (p.vr == vr) ≡ false = grind (arith, nat_tests, none 0 p (omega arith)) in
    rw e (nowhere vr ps (λ k d h. none (suc k) d (omega arith)))

-- the same as a place
pub port_found : (vr : ℕ) (ports : List Port) (i : ℕ) (d : Port) → i < length ports → ((k : ℕ) (e : Port) → k < i → (get_or ports k e).vr ≢ vr) → (get_or ports i d).vr ≡ vr → IsPort vr ports (record { index = i; kind = (get_or ports i d).kind })
port_found vr ports i d within front same =
    let port : Port = get_or ports i d in
    let r = first_is vr ports i port within front (get_or_default ports i port d within) same in
    record { port = port; found = r.found; same = rw (r.index, r.found) refl; within = within }

pub port_of : (vr : ℕ) (xs ports : List Port) (place : PortPlace) → xs ≡ ports → IsPort vr xs place → IsPort vr ports place
port_of vr xs ports place e p = subst (λ (l : List Port). IsPort vr l place) e p

pub no_port_of : (vr : ℕ) (xs ports : List Port) → xs ≡ ports → port_with vr xs ≡ None → port_with vr ports ≡ None
no_port_of vr xs ports e n = subst (λ (l : List Port). port_with vr l ≡ None) e n
