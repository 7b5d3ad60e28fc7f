use Rattle.master_core.specs.Standing.{StandsAfter, rules_of, core_setup}
use Rattle.host.proofs.Follow.{master_cut}
use Rattle.host.proofs.Found.{first_found}
use Rattle.host.proofs.hosts.Host.master_seat.Goals as goal

pub returns : goal.returns
returns c =
    let h = c.self.inside in
    let sound = c.self.invariant.1 in
    rw (← c.self.view_is, c.as_ref.ensures.value)
    (first_found StandsAfter rules_of core_setup h.scenario h.log.entries h.hosted.master h.master sound.master_is sound.master_made (master_cut _ _ _ _ _ _ h.master h.slaves.items h.log.entries h.fault sound))
