use Rattle.std.proofs.Common.{arith}
use Rattle.socket_commands.proofs.Bridge.Stands.{pair_is}
use Rattle.socket_commands.proofs.bridge_numbers.named_count.Goals as goal

pub returns-in-len2 : goal.returns-in-len2
returns-in-len2 c =
    rw (pair_is c.args.words.now c.word-item.result c.number-item.result (omega arith) (omega arith) c.word-item.is c.number-item.is)
    (rw (c.as_str.ensures.value, c.as_str-in-len2.ensures.value) at c.count_behind.ensures)
