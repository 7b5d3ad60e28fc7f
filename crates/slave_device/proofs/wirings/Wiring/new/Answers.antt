use Rattle.std.proofs.Common.{refl, sym}
use Rattle.slave_device.proofs.wirings.Wiring.new.Goals as goal

pub returns : goal.returns
returns c = record {
  numerator = refl;
  denominator = refl;
  time = refl;
  inputs = c.in_ok-inputs.ensures c.args.desc.now (sym c.as_slice.ensures) c.requires.apart;
  outputs = c.in_ok-outputs.ensures c.args.desc.now (sym c.as_slice-2.ensures);
}
