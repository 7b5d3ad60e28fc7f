use Rattle.std.proofs.Common.{◌≡◌, List, sym, ◌∙◌, ap, ℤ}
use Rattle.std.proofs.Common.{rules}
use Rattle.std.proofs.lemmas.List.{with_items_is, places}
use Rattle.scenario.specs.declared.scenarios.Setting.{Setting}
use Rattle.scenario.specs.Settings.{changed}
use Rattle.scenario.proofs.Changes.{changed-append, due}
use Rattle.scenario.proofs.settings.parameters.Goals as goal

pub loop-rerun-init : goal.loop-rerun-init
loop-rerun-init c =
    let sc = c.args.scenario.now in
    let d = c.args.desc.now in
    let s = c.args.slave in
    let done : c.change_all.new.parameters ≡ changed d.parameters s sc.settings =
    c.change_all.ensures
    ∙ ap (λ (ps : List ℤ). changed ps s c.as_slice-2.result.now) (c.deref_mut.ensures.value ∙ c.in_ok-parameters.ensures.items ∙ c.as_slice.ensures)
    ∙ ap (λ (xs : List Setting). changed d.parameters s xs) c.as_slice-2.ensures in
    ap (λ (ps : List ℤ). changed ps s (due c.args.run sc.reruns)) (with_items_is c.in_ok-parameters.parameters c.change_all.new.parameters (search (rules, places)) ∙ done)
    ∙ sym (changed-append d.parameters s sc.settings (due c.args.run sc.reruns))
