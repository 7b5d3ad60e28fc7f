-- What is wrong with a line of the links, after what the lines of the links before it say.
use Rattle.std.specs.Prelude.{not, ◌==◌, ◌&&◌, nat_lt, nat_le, List, length, if◌then◌else◌, Option, Some, None}
use Rattle.std.specs.List.{list_any}
use Rattle.text_lines.specs.declared.reasons.TextWhy.{TextWhy}
use Rattle.text_lines.specs.declared.reasons.TextWhy.TheVariants as why
use Rattle.text_lines.specs.Causes.{refused_if}
use Rattle.slave_desc.specs.declared.descriptions.SlaveDesc.{SlaveDesc}
use Rattle.scenario.specs.Lookups.{outputs_at, inputs_at, type_at}
use Rattle.scenario.specs.Settings.{changed_by, setting_in, takes_at}
use Rattle.scenario.specs.Wiring.{same_input}
use Rattle.scenario.specs.declared.scenarios.Wire.{Wire}
use Rattle.scenario.specs.declared.scenarios.Setting.{Setting}
use Rattle.scenario.specs.declared.scenarios.Every.{Every}
use Rattle.scenario.specs.declared.scenarios.Rerun.{Rerun}
use Rattle.scenario_text.specs.Said.{parameters_now}
use Rattle.scenario_text.specs.declared.link_words.LinkLine.{LinkLine}
use Rattle.scenario_text.specs.declared.link_words.LinkLine.TheVariants as link
use Rattle.scenario_text.specs.declared.collected.Links.{Links}

-- the two ports are of one type, and no wire before goes into the input
abbrev pub why_wire : List SlaveDesc → List Wire → Wire → Option TextWhy
why_wire slaves wires w =
    if not (type_at (outputs_at slaves w.from) w.out == type_at (inputs_at slaves w.to) w.into) then Some why.TypeMismatch
    else refused_if (list_any (λ v. same_input v w) wires) why.TwoWires

-- a setting leaves parameters that the kind takes
abbrev pub why_change : List SlaveDesc → Links → Setting → Option TextWhy
why_change slaves before x = refused_if (not (takes_at slaves x.slave (changed_by (parameters_now slaves before x.slave) x.slave x))) why.Parameters

-- no setting of the first run follows one of a later run
abbrev pub why_setting : List SlaveDesc → Links → Setting → Option TextWhy
why_setting slaves before x = if nat_lt 0 (length before.reruns) then Some why.Order else why_change slaves before x

-- later runs come in order
abbrev pub why_rerun : List SlaveDesc → Links → Rerun → Option TextWhy
why_rerun slaves before r = if list_any (λ q. nat_lt r.run q.run) before.reruns then Some why.Order else why_change slaves before (setting_in r)

-- a pair has one interval, and a wire before it
abbrev pub why_every : Links → Every → Option TextWhy
why_every before e =
    if list_any (λ f. (f.from == e.from) && (f.to == e.to)) before.every then Some why.Repeated
    else refused_if (not (list_any (λ w. (w.from == e.from) && (w.to == e.to)) before.wires)) why.NoWire

abbrev pub why_net : Links → Option TextWhy
why_net before = refused_if (nat_le 64 (length before.net.lines)) why.Limit

-- what is wrong with the whole line that says this
abbrev pub why_link : List SlaveDesc → Links → LinkLine → Option TextWhy
why_link slaves before (link.Wire w) = why_wire slaves before.wires w
why_link slaves before (link.Set x) = why_setting slaves before x
why_link slaves before (link.RerunSet r) = why_rerun slaves before r
why_link slaves before (link.Every e) = why_every before e
why_link slaves before (link.Net l) = why_net before
why_link slaves before (link.Chaos c) = None
