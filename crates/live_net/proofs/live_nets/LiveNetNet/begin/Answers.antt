use Rattle.std.proofs.Common.{◌≡◌, ◌∙◌, sym, ap, map, List}
use Rattle.live_net.specs.Live.{SocketEnd, opened_as}
use Rattle.live_net.proofs.Ends.{opened_places, where_begun}
use Rattle.live_net.proofs.live_nets.LiveNetNet.begin.Goals as goal

pub returns-else-eq-clause-hosted : goal.returns-else-eq-clause-hosted
returns-else-eq-clause-hosted g c = λ begun.
    let opened = where_begun (c.open.new.self.ends ≡ map (opened_as c.args.plan.now.protocol c.args.plan.now.all) c.args.plan.now.ends) c.open.result c.open.ensures.opened
    (sym c.begun_of-begun.ensures ∙ begun) in
    ap (λ (ends : List SocketEnd). map (λ (e : SocketEnd). e.place) ends) opened ∙ opened_places c.args.plan.now.protocol c.args.plan.now.all c.args.plan.now.ends
