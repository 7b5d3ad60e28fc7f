use Rattle.std.proofs.Common.{◌∙◌, map, string_bytes, sym}
use Rattle.socket_commands.specs.Bridge.Numbers.{NamesBridge}
use Rattle.socket_commands.proofs.Bridge.Stands.{some_named}
use Rattle.socket_commands.proofs.bridge_numbers.is_bridge.Goals as goal

pub returns-clause-yes : goal.returns-clause-yes
returns-clause-yes c = λ yes. some_named (NamesBridge (map string_bytes c.args.words.now)) c.named_count.result c.named_count.ensures (sym c.is_some.ensures ∙ yes)
