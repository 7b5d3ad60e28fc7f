use Rattle.std.proofs.Common.{◌≡◌, ◌-◌, sym, ◌∙◌, ap, ℕ, Option, arith}
use Rattle.std.proofs.lemmas.Int.{to_z-of_z}
use Rattle.lockstep.specs.declared.wiring.Feed.{Feed}
use Rattle.lockstep.specs.Feeds.{fed}
use Rattle.lockstep.proofs.Reading.{fed_at}
use Rattle.lockstep.proofs.wiring.fed.Goals as goal

pub returns-in-Some : goal.returns-in-Some
returns-in-Some c =
    let read : c.value.result ≡ fed c.args.rows.now.rows (c.args.now - c.args.step) c.args.step c.args.feed =
    c.value.ensures
    ∙ fed_at c.args.rows.now.rows c.args.now c.args.step (c.args.now - c.age.result) c.in-Some.feed (ap (λ (x : ℕ). c.args.now - x) c.age.ensures) c.requires.step
    ∙ ap (λ (x : Option Feed). fed c.args.rows.now.rows (c.args.now - c.args.step) c.args.step x) (sym c.in-Some.is) in
    grind (arith, to_z-of_z, read)
