use Rattle.std.proofs.Common.{sym, ◌∙◌, ap, [], subst}
use Rattle.dcp_ends.specs.Events.{Gram}
use Rattle.slave_core.specs.Hearing.{as_heard}
use Rattle.conform.specs.declared.followers.Awaited.{Awaited}
use Rattle.conform.specs.Standing.{Awaits}
use Rattle.conform.proofs.Reacting.{silent, nothing_heard, data_heard}
use Rattle.conform.proofs.followers.Follower.on_gram.Goals as goal

pub returns-in-Asks : goal.returns-in-Asks
returns-in-Asks c = λ d x h.
    c.on_request.ensures d x c.args.bytes.now (sym c.hear.ensures ∙ ap as_heard c.in-Asks.is)
    (record { desc = h.desc; session = h.session; number = h.number; newest = h.newest; quiet = h.quiet; inner = h.inner })

pub returns-in-Brings : goal.returns-in-Brings
returns-in-Brings c = λ d x h.
    let event = Gram c.args.from c.args.bytes.now in
    subst (λ (w : Awaited). Awaits c.on_data.new.self w d x event []) (sym c.on_data.ensures.awaited) (
      _,
      c.on_data.ensures.stands d x (record { desc = h.desc; session = h.session; number = h.number; newest = h.newest; quiet = h.quiet; inner = h.inner }),
      silent d x event _ (data_heard d x c.args.from c.args.bytes.now _ _ _ (sym c.hear.ensures ∙ ap as_heard c.in-Brings.is)),
    )

pub returns-in-Nothing : goal.returns-in-Nothing
returns-in-Nothing c = λ d x h. (
  x,
  record { desc = h.desc; session = h.session; number = h.number; newest = h.newest; quiet = h.quiet; inner = h.inner },
  silent d x (Gram c.args.from c.args.bytes.now) x (nothing_heard d x c.args.from c.args.bytes.now (sym c.hear.ensures ∙ ap as_heard c.in-Nothing.is)),
)
