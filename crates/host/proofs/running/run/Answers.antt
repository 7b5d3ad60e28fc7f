use Rattle.std.proofs.Common.{◌≡◌, ◌++◌, length, take, drop, map, arith, ap, sym, ◌∙◌}
use Rattle.std.proofs.Math.Seq.{take-append_seam}
use Rattle.host.proofs.running.run.Goals as goal

pub returns-clause-sound : goal.returns-clause-sound
returns-clause-sound g c =
    let new = c.run_round.new.slaves in
    let old = c.args.slaves.now.items in
    let size : length new ≡ c.args.slaves.now.len = omega (arith, c.run_round.auto.slaves, c.deref_mut.ensures.len) in
    let back : take c.args.slaves.now.len (new ++ drop (length new) old) ≡ new = ap (λ n. take n (new ++ drop (length new) old)) (sym size) ∙ take-append_seam new (drop (length new) old) in
    let e = c.in_ok-reports.ensures in
    record {
      apart = c.requires.sound.apart;
      master_is = e.rules_master;
      slaves_are = ap (map g.S.Seat.rules) back ∙ e.rules_slaves ∙ ap (map g.S.Seat.rules) c.deref_mut.ensures.value;
      master_made = e.made_master;
      slaves_made = ap (map g.S.Seat.made) back ∙ e.made_slaves ∙ ap (map g.S.Seat.made) c.deref_mut.ensures.value;
      range = e.range c.requires.sound.range;
      state = record { told_master = e.told_master; told_slaves = rw (← back) at e.told_slaves; quiet_master = e.quiet_master; quiet_slaves = rw (← back) at e.quiet_slaves };
    }
