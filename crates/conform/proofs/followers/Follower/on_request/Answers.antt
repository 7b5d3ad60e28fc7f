use Rattle.std.proofs.Common.{◌≡◌, ℕ, sym, ◌∙◌, ap, List, [], ◌∷◌, subst}
use Rattle.dcp_ends.specs.Events.{Gram, Send}
use Rattle.slave_spec.specs.declared.words.Fate.TheVariants as fates
use Rattle.slave_spec.specs.Transport.{Nack, fate, again, send, answer_message, expected}
use Rattle.slave_core.specs.Core.{bytes_again}
use Rattle.slave_core.proofs.Spelled.{again_is}
use Rattle.slave_spec.specs.Foreign.{foreign}
use Rattle.conform.specs.declared.followers.Follower.{Follower}
use Rattle.conform.specs.Standing.{StandsBetween, StandsWithin, no_choice}
use Rattle.conform.proofs.Reacting.{silent, one, dropped, refused, repeated, fated, again_stands}
use Rattle.conform.proofs.followers.Follower.on_request.Goals as goal

pub returns-in-Dropped : goal.returns-in-Dropped
returns-in-Dropped c = λ d x bytes hb h.
    let f : fate (foreign d no_choice) x c.args.from c.args.request.now ≡ fates.Dropped = fated d _ x _ c.args.from c.args.request.now _ h.desc h.session (sym (sym (c.fate.ensures x.served h.number) ∙ c.in-Dropped.is)) in
    (x, record { desc = h.desc; session = h.session; number = h.number; newest = h.newest; quiet = h.quiet; inner = h.inner }, silent d x (Gram c.args.from bytes) x (dropped d x c.args.from bytes c.args.request.now hb f))

pub returns-in-Refused : goal.returns-in-Refused
returns-in-Refused c = λ d x bytes hb h.
    let f : fate (foreign d no_choice) x c.args.from c.args.request.now ≡ fates.Refused c.in-Refused.code = fated d _ x _ c.args.from c.args.request.now _ h.desc h.session (sym (sym (c.fate.ensures x.served h.number) ∙ c.in-Refused.is)) in
    let s : Send = send c.args.from (answer_message c.args.request.now (expected x.served) (Nack c.in-Refused.code)) in
    let o : c.refuse.new.self.out ≡ s ∷ [] = c.refuse.ensures.out ∙ ap (λ (n : ℕ). send c.args.from (answer_message c.args.request.now n (Nack c.in-Refused.code)) ∷ []) h.number in
    subst (λ (w : Follower). StandsWithin w d x (Gram c.args.from bytes) []) (sym c.refuse.ensures.same) (
      s,
      x,
      record { desc = h.desc; session = h.session; number = h.number; newest = h.newest; quiet = h.quiet; inner = h.inner },
      o,
      one d x (Gram c.args.from bytes) x s (refused d x c.args.from bytes c.args.request.now c.in-Refused.code hb f),
    )

pub returns-in-Repeated : goal.returns-in-Repeated
returns-in-Repeated c = λ d x bytes hb h.
    let f : fate (foreign d no_choice) x c.args.from c.args.request.now ≡ fates.Repeated = fated d _ x _ c.args.from c.args.request.now _ h.desc h.session (sym (sym (c.fate.ensures x.served h.number) ∙ c.in-Repeated.is)) in
    let o : c.repeat.new.self.out ≡ again c.args.from x.served = c.repeat.ensures.out ∙ ap (λ (l : List ℕ). bytes_again c.args.from l) h.newest ∙ again_is c.args.from x.served in
    again_stands c.repeat.new.self d x (Gram c.args.from bytes) c.args.from x.served o (ap (λ (w : Follower). w.awaited) c.repeat.ensures.same)
    (subst (λ (w : Follower). StandsBetween w d x) (sym c.repeat.ensures.same) (record { desc = h.desc; session = h.session; number = h.number; newest = h.newest; quiet = h.quiet; inner = h.inner }))
    (repeated d x c.args.from bytes c.args.request.now hb f)
