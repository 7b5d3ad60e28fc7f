use Rattle.std.proofs.Common.{Bool, true, false, List, [], ◌∷◌, ◌++◌, MatchBool}
use Rattle.dcp_ends.specs.Events.{Event, Send}
use Rattle.slave_desc.specs.declared.descriptions.SlaveDesc.{SlaveDesc}
use Rattle.slave_spec.specs.Foreign.{ForeignState, AreNotices}
use Rattle.slave_spec.specs.Standpoints.{Within, MayGoOn}
use Rattle.conform.specs.declared.followers.Follower.{Follower}
use Rattle.conform.specs.declared.followers.Awaited.TheVariants as awaited
use Rattle.conform.specs.Standing.{StandsBetween, StandsWithin, IsOver}
use Rattle.conform.proofs.Noting.{noticed, unnoticed}
use Rattle.conform.proofs.followers.Follower.on_notice.Goals as goal

judged : (c : Follower) (d : SlaveDesc) (x y : ForeignState) (event : Event) (gone : List Send) (s : Send) (b : Bool) → StandsBetween (record c { awaited = awaited.Notices }) d y → IsOver d x event gone y
    → MatchBool b (AreNotices y (s ∷ [])) (AreNotices y (s ∷ []) → ⊥)
    → MatchBool b (StandsWithin (record c { awaited = awaited.Notices }) d x event (gone ++ s ∷ [])) (MayGoOn d (Within x event (gone ++ s ∷ [])) → ⊥)
judged c d x y event gone s true h o m = (y, h, noticed d x event gone y s o m)
judged c d x y event gone s false h o m = unnoticed d x event gone y s o m

pub returns : goal.returns
returns c = λ d x y event gone h o.
    let s : Send = record { to = c.args.to; bytes = c.args.bytes.now } in
    let k : StandsBetween (record c.args.self.now { awaited = awaited.Notices }) d y = record { desc = h.desc; session = h.session; number = h.number; newest = h.newest; quiet = h.quiet; inner = h.inner } in
    judged c.args.self.now d x y event gone s c.is_notice.result k o (c.is_notice.ensures d y k)
