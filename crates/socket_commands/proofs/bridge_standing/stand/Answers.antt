use Rattle.std.proofs.Common.{None, ap, inl, subst, ◌∙◌}
use Rattle.bridge.specs.Bridges.{BridgeView}
use Rattle.socket_commands.specs.Bridge.Standing.{BridgeRounds}
use Rattle.socket_commands.proofs.Bridge.Stands.{opened_still, told_since}
use Rattle.socket_commands.proofs.bridge_standing.stand.Goals as goal

pub returns-clause-stood : goal.returns-clause-stood
returns-clause-stood g c =
    let stood = c.stand_on.ensures.stood in
    let begun = c.in_default-begin.ensures in
    let FromOn : BridgeView → Type 0 = λ first. BridgeRounds stood.count first c.stand_on.new.bridge stood.rounds.on_udp stood.rounds.on_tcp in
    inl (record {
      count = stood.count;
      bridge = c.stand_on.new.bridge;
      on_udp = stood.rounds.on_udp;
      on_tcp = stood.rounds.on_tcp;
      rounds = subst FromOn (begun.same ∙ ap (λ (b : BridgeView). record b { fault = None }) c.in-Ok.ensures) stood.rounds.form;
      waited = stood.waited;
      udp_told = told_since _ _ stood.rounds.on_udp begun.told.0 stood.rounds.told_udp;
      tcp_told = told_since _ _ stood.rounds.on_tcp begun.told.1 stood.rounds.told_tcp;
      udp_opened = opened_still _ _ _ (rw c.in-Ok.ensures at begun.opening.0) c.stand_on.ensures.opening.0;
      tcp_opened = opened_still _ _ _ (rw c.in-Ok.ensures at begun.opening.1) c.stand_on.ensures.opening.1;
    })
