use Rattle.std.proofs.Common.{ap, List, Option}
use Rattle.std.specs.Borrow.{Bor}
use Rattle.std.specs.Prelude.{ℤ, option_map}
use Rattle.master_core.specs.Standing.{lines_of}
use Rattle.master_core.proofs.Placing.{row_is}
use Rattle.master_core.proofs.records.MasterCore.row_values.Goals as goal

pub returns : goal.returns
returns c = λ events s.
    let m = c.args.self.now in
    row_is m.talks.items (lines_of m.schedule) m.rows _ c.args.k _ s.stands.parts.rows_are (λ past. ap (λ (o : Option (Bor (List ℤ))). option_map (λ values. values.now) o) (c.row.ensures.past past)) c.row.ensures.within
