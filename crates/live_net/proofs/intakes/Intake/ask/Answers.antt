use Rattle.std.proofs.Common.{◌≡◌, refl}
use Rattle.stream_frame.specs.Inlets.{with_received}
use Rattle.live_net.specs.Intakes.{with_handed}
use Rattle.live_net.proofs.Gathering.{asked_more}
use Rattle.live_net.proofs.intakes.Intake.ask.Goals as goal
use Rattle.live_net.proofs.intakes.Intake.ask.Goals.{in-Gram, in-NotYet, in-Bad}

pub returns-clause-gathers : goal.returns-clause-gathers
returns-clause-gathers g c = λ start grams before.
    let so_far = rw (← c.self.view_is) at before in
    let later : with_received c.next_gram.result c.next_gram.new.self grams ≡ with_handed c.match-next_gram.result c.next_gram.new.self grams =
    elim c.match-next_gram.branch [
      | in-Gram w ↦ rw (w.in-Gram.is, w.result-is) refl
      | in-NotYet w ↦ rw (w.in-NotYet.is, w.result-is) refl
      | in-Bad w ↦ rw (w.in-Bad.is, w.result-is) refl
    ] in
    rw (← later) (asked_more (with_received c.next_gram.result c.next_gram.new.self grams) (λ bytes. c.next_gram.ensures.receives bytes grams) so_far)
