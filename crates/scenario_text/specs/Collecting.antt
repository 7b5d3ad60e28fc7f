-- The links that lines say, one by one.
use Rattle.std.specs.Prelude.{[], None}
use Rattle.desc_text.specs.Machine.{newer, longer}
use Rattle.scenario_text.specs.Said.{wire_in, set_in, rerun_in, every_in, line_in, chaos_in}
use Rattle.scenario_text.specs.declared.link_words.LinkLine.{LinkLine}
use Rattle.scenario_text.specs.declared.collected.Links.{Links}

-- no lines
abbrev pub no_links : Links
no_links = record { wires = []; settings = []; every = []; reruns = []; net = record { lines = []; chaos = None } }

-- the links with one more
abbrev pub put_link : Links → LinkLine → Links
put_link links l = record {
  wires = longer links.wires (wire_in l);
  settings = longer links.settings (set_in l);
  every = longer links.every (every_in l);
  reruns = longer links.reruns (rerun_in l);
  net = record { lines = longer links.net.lines (line_in l); chaos = newer links.net.chaos (chaos_in l) };
}
