use Rattle.std.proofs.Common.{sym, subst}
use Rattle.slave_device.specs.Made.{IsMade}
use Rattle.slave_device.proofs.Making.{made_with}
use Rattle.slave_device.proofs.devices.Device.from_description.Goals as goal

pub new-requires-clause-made : goal.new-requires-clause-made
new-requires-clause-made g c =
    subst (λ m. IsMade (record { desc = c.args.desc; micro = c.args.micro }) m) (sym c.in_ok-model.ensures) (made_with c.args.desc c.args.micro c.requires.desc c.requires.model c.requires.micro.0)
