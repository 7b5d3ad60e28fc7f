use Rattle.std.proofs.Common.{true, false, refl, ◌∙◌, sym}
use Rattle.slave_device.proofs.Wires.Receiving.{no_source_id, source_told, sourced}
use Rattle.slave_device.proofs.tables.Inputs.set_source.Goals as goal

pub returns-in_default : goal.returns-in_default
returns-in_default c = λ d w h. (no_source_id d w c.args.self.now c.args.net.now _ h c.in_default.ensures c.requires, h)

pub returns-then-is_some : goal.returns-then-is_some
returns-then-is_some c = λ d w h. (source_told d w c.args.self.now c.args.net.now c.in-Ok.i c.index.result.now false h c.in-Ok.ensures c.requires c.index.ensures (sym c.is_some.ensures ∙ c.if-is_some.true), h)

pub returns : goal.returns
returns c = λ d w h. (
  source_told d w c.args.self.now c.args.net.now c.in-Ok.i c.index.result.now true h c.in-Ok.ensures c.requires c.index.ensures (sym c.is_some.ensures ∙ c.if-is_some.false),
  sourced d w c.args.self.now _ c.args.net.now c.in-Ok.i c.index.result.now _ h c.in-Ok.ensures c.index.ensures c.address_of.ensures refl refl refl refl refl,
)
