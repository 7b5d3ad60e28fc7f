use Rattle.net_tests.proofs.traces.is_written.Goals as goal

pub write_record-written-requires-clause-hosted : goal.write_record-written-requires-clause-hosted
write_record-written-requires-clause-hosted c = c.requires.known

pub write_record-written-requires-clause-scenario : goal.write_record-written-requires-clause-scenario
write_record-written-requires-clause-scenario c = c.requires.measured

pub log_again-requires : goal.log_again-requires
log_again-requires c = c.requires.recordable
