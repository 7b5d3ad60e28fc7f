use Rattle.std.proofs.Common.{◌≡◌, Some, ap, sym, ◌∙◌}
use Rattle.host.specs.Externals.{external_in}
use Rattle.socket_commands.specs.Parts.{hosted_of}
use Rattle.socket_commands.proofs.Elsewhere.{lacks_live}
use Rattle.socket_commands.proofs.Live.{run_done}
use Rattle.socket_commands.proofs.says.say_live.Goals as goal

pub ended-requires-clause-done : goal.ended-requires-clause-done
ended-requires-clause-done g c = run_done _ _ _ _ c.in_ok-host.ensures.run

pub returns-in-Some-external_in-clause-says : goal.returns-in-Some-external_in-clause-says
returns-in-Some-external_in-clause-says g c =
    let first : external_in c.in-Ok.scenario (hosted_of c.in-Some.part) ≡ Some c.in-Some-external_in.slave = ap (external_in c.in-Ok.scenario) (sym c.hosted.ensures) ∙ sym c.in-Some-external_in.ensures.first in
    lacks_live _ _ c.args.input.now c.in-Ok.scenario c.in-Some.part c.in-Some-external_in.slave c.in_ok-refuse_external.field-0 c.if-input-gt-LIMIT.false c.in-Ok.ensures.ok c.in-Some.ensures.part first c.in_ok-refuse_external.ensures
