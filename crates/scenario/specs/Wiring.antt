-- Where an input takes its values from, and where an output stands in a row.
use Rattle.std.specs.Prelude.{ℕ, Bool, ◌+◌, ◌-◌, ◌==◌, ◌&&◌, Option, Some, None, List, take, find}
use Rattle.scenario.specs.declared.scenarios.Wire.{Wire}
use Rattle.scenario.specs.declared.scenarios.Every.{Every}
use Rattle.scenario.specs.Totals.{total_outputs}
use Rattle.slave_desc.specs.declared.descriptions.SlaveDesc.{SlaveDesc}

-- two wires go into one input
abbrev pub same_input : Wire → Wire → Bool
same_input v w = (v.to == w.to) && (v.into == w.into)

-- the wire into input i of slave s
abbrev pub wire_into : List Wire → (s i : ℕ) → Option Wire
wire_into wires s i = find (λ w. (w.to == s) && (w.into == i)) wires

-- the line that says how often slave a sends to slave b
abbrev pub every_between : List Every → (a b : ℕ) → Option Every
every_between every a b = find (λ e. (e.from == a) && (e.to == b)) every

abbrev pub q_of : Option Every → ℕ
q_of None = 1
q_of (Some e) = e.q

-- the steps from one renewal of what slave a gives slave b to the next
abbrev pub interval : List Every → (a b : ℕ) → ℕ
interval every a b = q_of (every_between every a b)

-- output o of slave s stands in a row behind all outputs of the slaves before
abbrev pub column : List SlaveDesc → (s o : ℕ) → ℕ
column slaves s o = total_outputs (take (s - 1) slaves) + o
