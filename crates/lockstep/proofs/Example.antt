-- Two slaves in a ring: an amplifier by two, and an integrator by a half from 10 on.
use Rattle.std.proofs.Common.{◌≡◌, Ok, None, List, [], ◌∷◌, refl, ℤ, pos}
use Rattle.dcp_types.specs.declared.addresses.Address.{Address}
use Rattle.dcp_types.specs.declared.protocols.Protocol.TheVariants.{Udp}
use Rattle.dcp_types.specs.declared.data_types.DataType.TheVariants.{I32}
use Rattle.fixed_models.specs.declared.kinds.Kind.TheVariants.{Gain, Integrator}
use Rattle.fixed_models.specs.Steps.{start, step_once, outputs, micro_steps}
use Rattle.fixed_models.specs.Rows.{gain, integrator, q}
use Rattle.slave_desc.specs.declared.descriptions.SlaveDesc.{SlaveDesc}
use Rattle.scenario.specs.declared.scenarios.Scenario.{Scenario}
use Rattle.scenario.specs.declared.scenarios.Every.{Every}
use Rattle.lockstep.specs.Lockstep.{row}

abbrev nowhere : Address
nowhere = record { ip = 0; port = 1 }

abbrev amp : SlaveDesc
amp = record { name = []; uuid = 1; address = nowhere; busy = 0; heartbeat = 0; numerator = 1; denominator = 1000; kind = Gain; parameters = pos 131072 ∷ []; inputs = record { vr = 1; kind = I32 } ∷ []; outputs = record { vr = 1; kind = I32 } ∷ [] }

abbrev acc : SlaveDesc
acc = record { name = []; uuid = 2; address = nowhere; busy = 0; heartbeat = 0; numerator = 1; denominator = 1000; kind = Integrator; parameters = pos 10 ∷ pos 32768 ∷ []; inputs = record { vr = 1; kind = I32 } ∷ []; outputs = record { vr = 1; kind = I32 } ∷ [] }

abbrev ring : List Every → Scenario
ring every = record {
  steps = 5;
  micro = 1;
  runs = 1;
  slaves = amp ∷ acc ∷ [];
  wires = record { from = 1; out = 0; to = 2; into = 0 } ∷ record { from = 2; out = 0; to = 1; into = 0 } ∷ [];
  settings = [];
  every = every;
  reruns = [];
  protocol = Udp;
  master = nowhere;
  net = record { lines = []; chaos = None };
  limits = record { turn_limit = 50; tries = 4; watch_turns = 20; state_limit = 200; retry_turns = 20; data_turns = 20; step_tries = 3 };
}

abbrev rows : List (List ℤ)
rows = (pos 0 ∷ pos 10 ∷ []) ∷ (pos 20 ∷ pos 10 ∷ []) ∷ (pos 20 ∷ pos 20 ∷ []) ∷ (pos 40 ∷ pos 30 ∷ []) ∷ (pos 60 ∷ pos 50 ∷ []) ∷ (pos 100 ∷ pos 80 ∷ []) ∷ []

row_0 : row (ring []) rows 1 0 ≡ Ok (pos 0 ∷ pos 10 ∷ [])
unfolding start outputs
row_0 = refl

row_1 : row (ring []) rows 1 1 ≡ Ok (pos 20 ∷ pos 10 ∷ [])
unfolding start step_once outputs micro_steps gain integrator q
row_1 = refl

row_2 : row (ring []) rows 1 2 ≡ Ok (pos 20 ∷ pos 20 ∷ [])
unfolding start step_once outputs micro_steps gain integrator q
row_2 = refl

row_5 : row (ring []) rows 1 5 ≡ Ok (pos 100 ∷ pos 80 ∷ [])
unfolding start step_once outputs micro_steps gain integrator q
row_5 = refl

-- the same where the amplifier sends at each second step
abbrev slower : List (List ℤ)
slower = (pos 0 ∷ pos 10 ∷ []) ∷ (pos 20 ∷ pos 10 ∷ []) ∷ (pos 20 ∷ pos 10 ∷ []) ∷ (pos 20 ∷ pos 20 ∷ []) ∷ (pos 40 ∷ pos 30 ∷ []) ∷ (pos 60 ∷ pos 50 ∷ []) ∷ []

slower_2 : row (ring (record { from = 1; to = 2; q = 2 } ∷ [])) slower 1 2 ≡ Ok (pos 20 ∷ pos 10 ∷ [])
unfolding start step_once outputs micro_steps gain integrator q
slower_2 = refl

slower_5 : row (ring (record { from = 1; to = 2; q = 2 } ∷ [])) slower 1 5 ≡ Ok (pos 60 ∷ pos 50 ∷ [])
unfolding start step_once outputs micro_steps gain integrator q
slower_5 = refl
