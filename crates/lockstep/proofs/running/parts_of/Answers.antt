use Rattle.std.proofs.Common.{◌≡◌, List, length, slice_get, Some, ap, ◌∙◌, sym, refl, arith}
use Rattle.std.proofs.lemmas.Option.{slice_get_read}
use Rattle.slave_desc.specs.declared.descriptions.SlaveDesc.{SlaveDesc}
use Rattle.lockstep.proofs.Growing.{parts_more, parts_all}
use Rattle.lockstep.proofs.running.parts_of.Goals as goal

pub loop-index-preserved : goal.loop-index-preserved
loop-index-preserved c =
    let at : slice_get c.args.scenario.now.slaves c.loop-index.index ≡ Some c.index-slaves-index.result =
    ap (λ (x : List SlaveDesc). slice_get x c.loop-index.index) (sym c.as_slice-slaves.ensures.items)
    ∙ slice_get_read c.as_slice-slaves.result.now (length c.as_slice-slaves.result.now) c.loop-index.index c.index-slaves-index.result refl (omega arith) c.index-slaves-index.is in
    parts_more c.args.scenario.now c.args.run c.loop-index.index c.index-slaves-index.result c.loop-index.parts.items c.push.new.self.items c.in_ok-new.field-0 at c.loop-index.invariant c.in_ok-new.ensures c.in_ok-push.ensures.items

pub returns : goal.returns
returns c =
    parts_all c.args.scenario.now c.args.run c.loop-index.index c.loop-index.parts.items (omega (arith, ap (λ (x : List SlaveDesc). length x) c.as_slice-slaves.ensures.items)) c.loop-index.invariant
