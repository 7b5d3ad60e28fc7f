-- The two scenarios are sound.
use Rattle.std.proofs.Common.{◌≡◌, ◌≢◌, ℕ, zero, suc, ◌<◌, ◌≤◌, true, false, [], ◌∷◌, refl, ap, subst, arith}
use Rattle.std.specs.Prelude.{ℤ, pos, ◌^◌, FitsSigned, take, All, AllPairs}
use Rattle.std.specs.Int.{w64}
use Rattle.std.proofs.lemmas.List.Elements.{All-nil, All-cons}
use Rattle.dcp_types.specs.declared.addresses.Address.{Address}
use Rattle.slave_desc.specs.declared.ports.Port.{Port}
use Rattle.slave_desc.specs.declared.descriptions.SlaveDesc.{SlaveDesc}
use Rattle.slave_desc.specs.Descriptions.{IsDesc}
use Rattle.scenario.specs.Settings.{changed, takes_at}
use Rattle.scenario.specs.Lookups.{parameters_at}
use Rattle.scenario.specs.Sound.{IsScenario, IsLimits, IsWire, AreTaken, same_pair}
use Rattle.scenario.specs.Wiring.{same_input}
use Rattle.scenario.specs.declared.scenarios.Wire.{Wire}
use Rattle.scenario.specs.declared.scenarios.Every.{Every}
use Rattle.scenario.specs.declared.scenarios.Rerun.{Rerun}
use Rattle.witness_laws.specs.Runs.Talk.{master_end, slave_end}
use Rattle.witness_laws.specs.Runs.Scenarios.{short_limits, byte_port, own_wire, doubler, zero_divider, loop, faulty}

module _ {X : Type 0} where
  each_of_one : (P : X → Type 0) (x : X) → P x → All P (x ∷ [])
  each_of_one P x p = All-cons P x [] p (All-nil P)

  pairs_of_none : (R : X → X → Type 0) → AllPairs R []
  pairs_of_none R i j d l m = absurd (omega (arith, m))

  pairs_of_one : (R : X → X → Type 0) (x : X) → AllPairs R (x ∷ [])
  pairs_of_one R x i j d l m = absurd (omega (arith, l, m))

fits_small : (n : ℕ) → n < 100000 → FitsSigned w64 (pos n)
fits_small n l = record { sfits = omega (arith, l) }

doubler_is_desc : IsDesc doubler
doubler_is_desc = record {
  name = refl;
  uuid = omega arith;
  ip = omega arith;
  port = (omega arith, omega arith);
  parameters = All-cons (λ (z : ℤ). FitsSigned w64 z) (pos 1) (pos 65536 ∷ []) (fits_small 1 (omega arith)) (each_of_one (λ (z : ℤ). FitsSigned w64 z) (pos 65536) (fits_small 65536 (omega arith)));
  taken = refl;
  busy = omega arith;
  heartbeat = omega arith;
  numerator = (omega arith, omega arith);
  denominator = (omega arith, omega arith);
  vrs = (each_of_one (λ (p : Port). p.vr < 2 ^ 64) byte_port (omega arith), each_of_one (λ (p : Port). p.vr < 2 ^ 64) byte_port (omega arith));
  few_inputs = omega arith;
  few_outputs = (omega arith, omega arith);
  inputs_apart = pairs_of_one (λ (p q : Port). p.vr ≢ q.vr) byte_port;
  outputs_apart = pairs_of_one (λ (p q : Port). p.vr ≢ q.vr) byte_port;
  ports = refl;
}

divider_is_desc : IsDesc zero_divider
divider_is_desc = record {
  name = refl;
  uuid = omega arith;
  ip = omega arith;
  port = (omega arith, omega arith);
  parameters = each_of_one (λ (z : ℤ). FitsSigned w64 z) (pos 1) (fits_small 1 (omega arith));
  taken = refl;
  busy = omega arith;
  heartbeat = omega arith;
  numerator = (omega arith, omega arith);
  denominator = (omega arith, omega arith);
  vrs = (each_of_one (λ (p : Port). p.vr < 2 ^ 64) byte_port (omega arith), each_of_one (λ (p : Port). p.vr < 2 ^ 64) byte_port (omega arith));
  few_inputs = omega arith;
  few_outputs = (omega arith, omega arith);
  inputs_apart = pairs_of_one (λ (p q : Port). p.vr ≢ q.vr) byte_port;
  outputs_apart = pairs_of_one (λ (p q : Port). p.vr ≢ q.vr) byte_port;
  ports = refl;
}

are_limits : IsLimits short_limits
are_limits = record {
  turn_limit = (omega arith, omega arith);
  tries = (omega arith, omega arith);
  watch_turns = (omega arith, omega arith);
  state_limit = (omega arith, omega arith);
  retry_turns = (omega arith, omega arith);
  data_turns = (omega arith, omega arith);
  step_tries = (omega arith, omega arith);
}

-- the only slave, with nothing set
taken_alone : (d : SlaveDesc) → takes_at (d ∷ []) 1 d.parameters ≡ true → AreTaken (d ∷ []) []
taken_alone d t n s is = by n s (omega (arith, is.0, is.1))
  where
    at_one : (n : ℕ) → takes_at (d ∷ []) 1 (changed (parameters_at (d ∷ []) 1) 1 (take n [])) ≡ true
    at_one zero = t
    at_one (suc n) = t

    by : (n s : ℕ) → 1 ≡ s → takes_at (d ∷ []) s (changed (parameters_at (d ∷ []) s) s (take n [])) ≡ true
    by n s e = subst (λ (s : ℕ). takes_at (d ∷ []) s (changed (parameters_at (d ∷ []) s) s (take n [])) ≡ true) e (at_one n)

pub loop_is_scenario : IsScenario loop
unfolding loop
loop_is_scenario = record {
  steps = omega arith;
  micro = (omega arith, omega arith);
  runs = (omega arith, omega arith);
  master = record { ip = omega arith; port = (omega arith, omega arith) };
  limits = are_limits;
  few_slaves = (omega arith, omega arith);
  slaves = each_of_one (λ (d : SlaveDesc). IsDesc d) doubler doubler_is_desc;
  names_apart = pairs_of_one (λ (d e : SlaveDesc). d.name ≢ e.name) doubler;
  addresses_apart = pairs_of_one (λ (d e : SlaveDesc). d.address ≢ e.address) doubler;
  master_apart = each_of_one (λ (d : SlaveDesc). master_end ≢ d.address) doubler apart;
  small = refl;
  wires = each_of_one (λ (w : Wire). IsWire (doubler ∷ []) w) own_wire (record { from = (omega arith, omega arith); out = omega arith; to = (omega arith, omega arith); into = omega arith; types = refl });
  one_wire = pairs_of_one (λ (v w : Wire). same_input v w ≡ false) own_wire;
  few_wires = omega arith;
  settings = All-nil _;
  reruns = All-nil _;
  in_order = pairs_of_none (λ (q r : Rerun). q.run ≤ r.run);
  taken = taken_alone doubler refl;
  every = All-nil _;
  one_interval = pairs_of_none (λ (e f : Every). same_pair e f ≡ false);
  net = record { few = omega arith; lines = All-nil _; chaos = tt };
}
  where
    apart : master_end ≢ slave_end
    apart e = absurd (omega (arith, ap (λ (a : Address). a.port) e))

pub faulty_is_scenario : IsScenario faulty
unfolding faulty
faulty_is_scenario = record {
  steps = omega arith;
  micro = (omega arith, omega arith);
  runs = (omega arith, omega arith);
  master = record { ip = omega arith; port = (omega arith, omega arith) };
  limits = are_limits;
  few_slaves = (omega arith, omega arith);
  slaves = each_of_one (λ (d : SlaveDesc). IsDesc d) zero_divider divider_is_desc;
  names_apart = pairs_of_one (λ (d e : SlaveDesc). d.name ≢ e.name) zero_divider;
  addresses_apart = pairs_of_one (λ (d e : SlaveDesc). d.address ≢ e.address) zero_divider;
  master_apart = each_of_one (λ (d : SlaveDesc). master_end ≢ d.address) zero_divider apart;
  small = refl;
  wires = All-nil (λ (w : Wire). IsWire (zero_divider ∷ []) w);
  one_wire = pairs_of_none (λ (v w : Wire). same_input v w ≡ false);
  few_wires = omega arith;
  settings = All-nil _;
  reruns = All-nil _;
  in_order = pairs_of_none (λ (q r : Rerun). q.run ≤ r.run);
  taken = taken_alone zero_divider refl;
  every = All-nil _;
  one_interval = pairs_of_none (λ (e f : Every). same_pair e f ≡ false);
  net = record { few = omega arith; lines = All-nil _; chaos = tt };
}
  where
    apart : master_end ≢ slave_end
    apart e = absurd (omega (arith, ap (λ (a : Address). a.port) e))
