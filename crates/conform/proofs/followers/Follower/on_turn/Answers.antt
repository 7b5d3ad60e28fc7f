use Rattle.std.proofs.Common.{ℕ, sym, ap, ◌∙◌}
use Rattle.dcp_ends.specs.Events.{Tick}
use Rattle.slave_spec.specs.Transport.{quieter}
use Rattle.conform.proofs.Reacting.{silent}
use Rattle.conform.proofs.Turning.{before_session, after_session}
use Rattle.conform.proofs.followers.Follower.on_turn.Goals as goal

pub returns-in-During : goal.returns-in-During
returns-in-During c = λ d x sound h.
    c.await_turn.ensures d x sound (sym h.session ∙ c.in-During.is)
    (record { desc = h.desc; session = h.session; number = h.number; newest = h.newest; quiet = c.saturating_add-self.ensures ∙ ap (λ (n : ℕ). quieter n) h.quiet; inner = h.inner })

pub returns-in-Before : goal.returns-in-Before
returns-in-Before c = λ d x sound h.
    (x, record { desc = h.desc; session = h.session; number = h.number; newest = h.newest; quiet = h.quiet; inner = h.inner }, silent d x Tick x (before_session d x (sym h.session ∙ c.in-Before.is)))

pub returns-in-After : goal.returns-in-After
returns-in-After c = λ d x sound h.
    (x, record { desc = h.desc; session = h.session; number = h.number; newest = h.newest; quiet = h.quiet; inner = h.inner }, silent d x Tick x (after_session d x _ _ (sym h.session ∙ c.in-After.is)))
