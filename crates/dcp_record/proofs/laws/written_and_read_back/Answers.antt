use Rattle.dcp_record.proofs.laws.written_and_read_back.Goals as goal

pub unreachable-requires : goal.unreachable-requires
unreachable-requires c = c.in_default.ensures.only c.args.hosted c.args.scenario.now c.args.entries.now
    (record { known = c.requires.hosted; measured = c.requires.scenario; recordable = c.requires.entries; bytes = c.requires.written })

pub returns : goal.returns
returns c =
    let same = c.in-Ok.ensures.only c.args.hosted c.args.scenario.now c.args.entries.now
    (record { known = c.requires.hosted; measured = c.requires.scenario; recordable = c.requires.entries; bytes = c.requires.written }) in
    record { hosted = same.0; scenario = same.1; entries = same.2 }
