use Rattle.std.proofs.Common.{◌∙◌, ap}
use Rattle.live_net.specs.Live.{Live, socket_places}
use Rattle.live_net.proofs.Ends.{hosted_after_take}
use Rattle.live_net.proofs.live_nets.LiveNetNet.take.Goals as goal

pub returns-then-eq-clause-hosted : goal.returns-then-eq-clause-hosted
returns-then-eq-clause-hosted g c =
    ap (λ (l : Live). socket_places l) c.self.view_is
    ∙ hosted_after_take c.args.at c.take_at-taken.result c.take_at-taken.new.room c.args.self.now c.take_at-taken.new.self c.take_at-taken.ensures.takes

pub returns-else-eq-clause-hosted : goal.returns-else-eq-clause-hosted
returns-else-eq-clause-hosted g c =
    hosted_after_take c.args.at c.take_at-taken.result c.take_at-taken.new.room c.args.self.now c.take_at-taken.new.self c.take_at-taken.ensures.takes
