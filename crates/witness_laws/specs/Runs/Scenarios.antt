-- Two scenarios of one slave and one step.
use Rattle.std.specs.Prelude.{[], ◌∷◌, None, pos, codes}
use Rattle.dcp_types.specs.declared.limits.Limits.{Limits}
use Rattle.dcp_types.specs.declared.protocols.Protocol.TheVariants.{Udp}
use Rattle.dcp_types.specs.declared.data_types.DataType.TheVariants.{U8}
use Rattle.fixed_models.specs.declared.kinds.Kind.TheVariants.{Integrator, Divider}
use Rattle.slave_desc.specs.declared.ports.Port.{Port}
use Rattle.slave_desc.specs.declared.descriptions.SlaveDesc.{SlaveDesc}
use Rattle.scenario.specs.declared.scenarios.Wire.{Wire}
use Rattle.scenario.specs.declared.scenarios.Scenario.{Scenario}
use Rattle.witness_laws.specs.Runs.Talk.{master_end, slave_end}

-- two turns for an answer, and one for data
abbrev pub short_limits : Limits
short_limits = record { turn_limit = 2; tries = 2; watch_turns = 2; state_limit = 3; retry_turns = 1; data_turns = 1; step_tries = 2 }

abbrev pub byte_port : Port
byte_port = record { vr = 1; kind = U8 }

-- it begins with 1, and adds its input at each step
abbrev pub doubler : SlaveDesc
doubler = record { name = codes "loop"; uuid = 1; address = slave_end; kind = Integrator; parameters = pos 1 ∷ pos 65536 ∷ []; busy = 0; heartbeat = 0; numerator = 1; denominator = 1000; inputs = byte_port ∷ []; outputs = byte_port ∷ [] }

-- it divides by its input, which is 0 without a wire
abbrev pub zero_divider : SlaveDesc
zero_divider = record { name = codes "loop"; uuid = 1; address = slave_end; kind = Divider; parameters = pos 1 ∷ []; busy = 0; heartbeat = 0; numerator = 1; denominator = 1000; inputs = byte_port ∷ []; outputs = byte_port ∷ [] }

-- the output of the slave is wired to its own input
abbrev pub own_wire : Wire
own_wire = record { from = 1; out = 0; to = 1; into = 0 }

unfoldable pub loop : Scenario
loop = record {
  steps = 1;
  micro = 1;
  runs = 1;
  protocol = Udp;
  master = master_end;
  limits = short_limits;
  slaves = doubler ∷ [];
  wires = own_wire ∷ [];
  settings = [];
  every = [];
  reruns = [];
  net = record { lines = []; chaos = None };
}

unfoldable pub faulty : Scenario
faulty = record {
  steps = 1;
  micro = 1;
  runs = 1;
  protocol = Udp;
  master = master_end;
  limits = short_limits;
  slaves = zero_divider ∷ [];
  wires = [];
  settings = [];
  every = [];
  reruns = [];
  net = record { lines = []; chaos = None };
}
