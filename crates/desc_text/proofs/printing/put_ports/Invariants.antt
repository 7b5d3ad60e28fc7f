use Rattle.std.proofs.Common.{◌≡◌, ◌++◌, map, take, string_bytes}
use Rattle.std.specs.List.{flat_map}
use Rattle.desc_text.specs.Canonical.{port_words}
use Rattle.text_lines.specs.Printed.{line_of}
use Rattle.desc_text.proofs.printing.put_ports.Given as goal

abbrev pub invariant-loop-port : goal.invariant-loop-port
invariant-loop-port l = string_bytes l.out ≡ string_bytes l.fn.out ++ flat_map line_of (map (port_words l.key) (take l.port-index l.ports))
