use Rattle.master_core.specs.Standing.{core_setup, with_gram_heard}
use Rattle.master_core.proofs.records.MasterCore.take_gram.Goals as goal

pub returns-clause-meets : goal.returns-clause-meets
returns-clause-meets c = λ x s. c.count_row.ensures.meets (with_gram_heard (core_setup c.args.self.now) c.args.from c.args.bytes.now x) (c.hear.ensures.meets x s)
