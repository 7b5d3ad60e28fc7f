use Rattle.std.proofs.Common.{◌∙◌}
use Rattle.socket_commands.proofs.Bridge.Stands.{stood_more}
use Rattle.socket_commands.proofs.bridge_standing.stand_on.Goals as goal

pub returns-in-Err-clause-stood : goal.returns-in-Err-clause-stood
returns-in-Err-clause-stood g c =
    stood_more g.U.Net.calls g.T.Net.calls _ _ _ _ _ _ _ _ _ c.rounds.invariant.stood _ _ _ c.round.result c.in-Ready.ensures.waits c.rounds.invariant.unfaulted c.round.ensures.passes c.round.ensures.same

pub rounds-preserved : goal.rounds-preserved
rounds-preserved g c = record {
  unfaulted = c.in-Ok.ensures.same.fault_is;
  udp_open = c.round.ensures.udp_open c.rounds.invariant.udp_open;
  tcp_open = c.round.ensures.tcp_open c.rounds.invariant.tcp_open;
  stood = stood_more g.U.Net.calls g.T.Net.calls _ _ _ _ _ _ _ _ _ c.rounds.invariant.stood _ _ _ c.round.result c.in-Ready.ensures.waits c.rounds.invariant.unfaulted c.round.ensures.passes c.round.ensures.same;
  udp_opening = c.round.ensures.opening.0 ∙ c.rounds.invariant.udp_opening;
  tcp_opening = c.round.ensures.opening.1 ∙ c.rounds.invariant.tcp_opening;
  udp_still = c.in-Ok.ensures.unfailed.0 ∙ c.rounds.invariant.udp_still;
  tcp_still = c.in-Ok.ensures.unfailed.1 ∙ c.rounds.invariant.tcp_still;
  unfailed = c.in-Ready.ensures.cause.stays (λ e. absurd cc) ∙ c.rounds.invariant.unfailed;
}
