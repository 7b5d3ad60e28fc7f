use Rattle.std.proofs.Common.{◌≡◌, ◌+◌, map, take}
use Rattle.std.specs.Prelude.{All}
use Rattle.master_spec.specs.Setup.{slaves_from}
use Rattle.master_core.specs.Talking.{IsFreshTalk, slave_talked_to}
use Rattle.master_core.proofs.setups.talks_of.Given as goal

abbrev pub invariant-loop-desc : goal.invariant-loop-desc
invariant-loop-desc l = record {
  place : l.id ≡ 1 + l.desc-index;
  slaves : map slave_talked_to l.talks.items ≡ slaves_from l.scenario 1 (take l.desc-index l.desc-items);
  fresh : All (λ t. IsFreshTalk l.scenario.limits t) l.talks.items;
}
