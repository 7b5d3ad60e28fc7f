use Rattle.std.proofs.Common.{◌∙◌, ap}
use Rattle.live_net.specs.Live.{Live, socket_places}
use Rattle.live_net.proofs.Ends.{hosted_after_send}
use Rattle.live_net.proofs.live_nets.LiveNetNet.send.Goals as goal

pub returns-then-eq-clause-hosted : goal.returns-then-eq-clause-hosted
returns-then-eq-clause-hosted g c =
    ap (λ (l : Live). socket_places l) c.self.view_is
    ∙ hosted_after_send c.args.from c.args.to c.args.bytes.now c.send_by-sent.result c.args.self.now c.send_by-sent.new.self c.send_by-sent.ensures.sends

pub returns-else-eq-clause-hosted : goal.returns-else-eq-clause-hosted
returns-else-eq-clause-hosted g c =
    hosted_after_send c.args.from c.args.to c.args.bytes.now c.send_by-sent.result c.args.self.now c.send_by-sent.new.self c.send_by-sent.ensures.sends
