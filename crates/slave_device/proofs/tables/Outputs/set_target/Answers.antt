use Rattle.std.proofs.Common.{true, false, refl, ◌∙◌, sym}
use Rattle.slave_device.proofs.Wires.Sending.{no_target_id, target_told, targeted}
use Rattle.slave_device.proofs.tables.Outputs.set_target.Goals as goal

pub returns-in_default : goal.returns-in_default
returns-in_default c = λ d changes h. (no_target_id d changes c.args.self.now c.args.net.now _ h c.in_default.ensures c.requires, h)

pub returns-then-is_some : goal.returns-then-is_some
returns-then-is_some c = λ d changes h. (target_told d changes c.args.self.now c.args.net.now c.in-Ok.i c.index.result.now false h c.in-Ok.ensures c.requires c.index.ensures (sym c.is_some.ensures ∙ c.if-is_some.true), h)

pub returns : goal.returns
returns c = λ d changes h. (
  target_told d changes c.args.self.now c.args.net.now c.in-Ok.i c.index.result.now true h c.in-Ok.ensures c.requires c.index.ensures (sym c.is_some.ensures ∙ c.if-is_some.false),
  targeted d changes c.args.self.now _ c.args.net.now c.in-Ok.i c.index_mut.result.now _ h c.in-Ok.ensures c.index_mut.ensures.value c.address_of.ensures refl refl refl,
)
