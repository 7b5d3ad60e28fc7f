use Rattle.std.proofs.Common.{◌∙◌}
use Rattle.std.proofs.lemmas.List.Elements.{All-nil}
use Rattle.dcp_ends.specs.Logs.{IsInRange}
use Rattle.host.specs.Hosting.{hosted_slaves}
use Rattle.host.proofs.Apart.{hosted_apart}
use Rattle.host.proofs.Fresh.{fresh_made, fresh_rules, fresh_told, fresh_quiet, first_made, first_rules, first_told, first_quiet, master_made_is, master_rules_are, slave_rules_are, slaves_made_are}
use Rattle.host.proofs.hosts.Host.new.Goals as goal

pub invariant_of-result : goal.invariant_of-result
invariant_of-result c =
    let first = c.in_ok-master.ensures in
    let rest = c.in_ok-slaves.ensures in (
      c.in_ok-opening.ensures,
      record {
        apart = hosted_apart c.args.scenario c.args.hosted c.requires.scenario;
        master_is = first_rules _ _ _ first ∙ master_rules_are c.args.scenario c.args.hosted.master;
        slaves_are = fresh_rules _ _ _ rest ∙ slave_rules_are c.args.scenario (hosted_slaves c.args.scenario c.args.hosted);
        master_made = first_made _ _ _ first ∙ master_made_is c.args.scenario c.args.hosted.master;
        slaves_made = fresh_made _ _ _ rest ∙ slaves_made_are c.args.scenario (hosted_slaves c.args.scenario c.args.hosted);
        range = rw c.new.ensures (All-nil IsInRange);
        state = record {
          told_master = rw c.new.ensures (first_told _ _ _ first);
          told_slaves = rw c.new.ensures (fresh_told _ _ _ rest);
          quiet_master = first_quiet _ _ _ first;
          quiet_slaves = fresh_quiet _ _ _ rest;
        };
      },
    )
