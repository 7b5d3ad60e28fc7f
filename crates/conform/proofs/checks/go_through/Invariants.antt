use Rattle.std.proofs.Common.{◌≡◌, ◌-◌, ◌≤◌, [], take, length}
use Rattle.dcp_ends.specs.Logs.{events_at}
use Rattle.slave_desc.specs.Descriptions.{IsDesc}
use Rattle.slave_desc.specs.declared.descriptions.SlaveDesc.{SlaveDesc}
use Rattle.conform.specs.Following.{HasFollowed}
use Rattle.conform.proofs.checks.go_through.Given as goal

abbrev pub invariant-entries : goal.invariant-entries
invariant-entries l =
    record {
      entries : l.cursor.entries ≡ l.entries;
      within : l.cursor.at ≤ length l.entries;
      few : l.events ≤ l.cursor.at;
      followed : (d : SlaveDesc) → IsDesc d → HasFollowed l.fn.follower d [] → HasFollowed l.follower d (take l.cursor.at l.entries);
      counted : l.events ≡ length (events_at l.place (take l.cursor.at l.entries));
      place : l.place ≡ l.fn.follower.desc.now.address;
    }

abbrev pub decreases-entries : goal.decreases-entries
decreases-entries l = length l.entries - l.cursor.at
