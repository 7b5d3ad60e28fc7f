use Rattle.std.proofs.Common.{◌≡◌, ◌≤◌, Bool, true, false, List, [], ◌∷◌, ◌++◌, length, slice_get, Some, MatchBool, sym, subst, ap, ◌∙◌}
use Rattle.dcp_ends.specs.Events.{Event, Send}
use Rattle.slave_desc.specs.declared.descriptions.SlaveDesc.{SlaveDesc}
use Rattle.slave_spec.specs.Foreign.{ForeignState}
use Rattle.slave_spec.specs.Standpoints.{Within, MayGoOn}
use Rattle.conform.specs.declared.followers.Follower.{Follower}
use Rattle.conform.specs.declared.followers.Awaited.TheVariants as awaited
use Rattle.conform.specs.Standing.{StandsBetween, StandsWithin, HasOne}
use Rattle.conform.proofs.Noting.{came, came_not}
use Rattle.conform.proofs.followers.Follower.on_message.Goals as goal

judged : (c : Follower) (d : SlaveDesc) (x y : ForeignState) (event : Event) (gone : List Send) (s t : Send) (b : Bool) → StandsBetween (record c { awaited = awaited.Notices }) d y → c.out ≡ t ∷ [] → HasOne d x event gone t y
    → MatchBool b ((slice_get c.out 0 ≡ Some s) × (length s.bytes ≤ 1024)) (slice_get c.out 0 ≡ Some s → ⊥)
    → MatchBool b (StandsWithin (record c { awaited = awaited.Notices }) d x event (gone ++ s ∷ [])) (MayGoOn d (Within x event (gone ++ s ∷ [])) → ⊥)
judged c d x y event gone s t true h o one m =
    let first : slice_get (t ∷ []) 0 ≡ Some s = subst (λ (l : List Send). slice_get l 0 ≡ Some s) o m.0 in
    let same : t ≡ s = cc in
    (y, h, came d x event gone y s (subst (λ (k : Send). HasOne d x event gone k y) same one))
judged c d x y event gone s t false h o one m =
    came_not d x event gone y s t one (λ (e : s ≡ t). m (ap (λ (l : List Send). slice_get l 0) o ∙ ap (λ (k : Send). Some k) (sym e)))

pub returns : goal.returns
returns c = λ d x y event gone t h o one.
    let s : Send = record { to = c.args.to; bytes = c.args.bytes.now } in
    let k : StandsBetween (record c.args.self.now { awaited = awaited.Notices }) d y = record { desc = h.desc; session = h.session; number = h.number; newest = h.newest; quiet = h.quiet; inner = h.inner } in
    judged c.args.self.now d x y event gone s t c.is_out.result k o one c.is_out.ensures
