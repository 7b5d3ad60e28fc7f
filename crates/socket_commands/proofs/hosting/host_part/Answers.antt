use Rattle.std.proofs.Common.{ap, subst, sym}
use Rattle.host.specs.Views.{HostView}
use Rattle.socket_commands.specs.Lives.{CauseOf}
use Rattle.socket_commands.specs.declared.hosting.LiveFault.{LiveFault}
use Rattle.socket_commands.proofs.Live.{stopped_by}
use Rattle.socket_commands.proofs.hosting.host_part.Goals as goal

pub returns-in-Err-clause-cause : goal.returns-in-Err-clause-cause
returns-in-Err-clause-cause g c =
    let Cause : LiveFault → Type 0 = λ fault. CauseOf (g.N.Net.count c.args.net.now) (g.N.Net.count c.begin.new.net) (g.P.Ready.count c.args.ready.now) (g.P.Ready.count c.args.ready.now) fault in
    let unfaulted = ap (λ (h : HostView). h.fault) c.in-Ok.ensures in
    subst Cause (sym c.fault_in.ensures) (stopped_by _ _ _ c.begin.result c.in-Err.fault c.in-Err.is (c.begin.ensures.cause unfaulted))
