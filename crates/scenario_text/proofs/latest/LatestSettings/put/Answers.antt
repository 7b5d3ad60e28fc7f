-- What `retain` keeps is of other parameters, so the setting at the end comes in the place of an earlier one.
use Rattle.std.proofs.Common.{◌≡◌, not, false, rules}
use Rattle.std.proofs.lemmas.Fn.{filter_same}
use Rattle.std.proofs.lemmas.List.Kept.{AllPairs-filter}
use Rattle.scenario_text.specs.LastSettings.{same_parameter}
use Rattle.scenario.specs.declared.scenarios.Setting.{Setting}
use Rattle.scenario_text.proofs.LastSettings.{put_same, put_apart}
use Rattle.scenario_text.proofs.latest.LatestSettings.put.Goals as goal

pub returns : goal.returns
returns c =
    let kept = filter_same _ (λ y. not (same_parameter y c.args.setting)) _ (λ x b f' k. search rules) _ _ c.retain.ensures.filtered in
    rw (c.in_ok-push.ensures.items, kept, ← c.self.view_is) (put_same c.self.inside.items.items c.args.setting)

pub invariant_of-self : goal.invariant_of-self
invariant_of-self c =
    let kept = filter_same _ (λ y. not (same_parameter y c.args.setting)) _ (λ x b f' k. search rules) _ _ c.retain.ensures.filtered in
    rw (c.in_err-push.ensures.items, kept) (AllPairs-filter (λ (x y : Setting). same_parameter x y ≡ false) (λ y. not (same_parameter y c.args.setting)) c.self.inside.items.items c.self.invariant)

pub invariant_of-self-2 : goal.invariant_of-self-2
invariant_of-self-2 c =
    let kept = filter_same _ (λ y. not (same_parameter y c.args.setting)) _ (λ x b f' k. search rules) _ _ c.retain.ensures.filtered in
    rw (c.in_ok-push.ensures.items, kept) (put_apart c.self.inside.items.items c.args.setting c.self.invariant)
