use Rattle.std.proofs.Common.{◌∙◌, ap}
use Rattle.std.specs.List.{flat_map}
use Rattle.slave_device.specs.Wires.Payloads.{place_bytes}
use Rattle.slave_device.proofs.Wires.Building.{no_message, message}
use Rattle.slave_device.proofs.tables.Outputs.build.Goals as goal

pub returns-in_default-clause-built : goal.returns-in_default-clause-built
returns-in_default-clause-built c = λ d changes h id e fit. no_message d changes c.args.self.now id c.args.i c.args.steps c.args.outputs.now c.args.room.now c.index-row.result.now h e c.index-row.ensures c.in_default.is

pub returns-clause-built : goal.returns-clause-built
returns-clause-built c = λ d changes h id e fit.
    message d changes c.args.self.now id c.args.i c.args.steps c.args.outputs.now c.put_data-size.new.room c.index-row.result.now c.in-Some.target c.put_data-size.result c.number_after-number.result c.at.result _
    h e c.index-row.ensures fit c.in-Some.is c.number_after-number.ensures c.at.ensures
    (c.write_payload-length.ensures.bytes ∙ ap (flat_map (place_bytes c.args.outputs.now)) c.as_slice.ensures.items) c.put_data-size.ensures.bytes
