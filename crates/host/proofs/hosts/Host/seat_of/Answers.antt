use Rattle.host.proofs.Follow.{slaves_cut}
use Rattle.host.proofs.Found.{found_at}
use Rattle.host.proofs.hosts.Host.seat_of.Goals as goal

pub returns-in-Some : goal.returns-in-Some
returns-in-Some c =
    let h = c.self.inside in
    let sound = c.self.invariant.1 in
    let place = rw c.in-Some.is at c.place_of.ensures in
    let at = found_at _ _ _ h.slaves.items h.scenario _ h.log.entries sound.slaves_are sound.slaves_made (slaves_cut _ _ _ _ _ _ h.master h.slaves.items h.log.entries h.fault sound) c.in-Some.place _ place in
    rw (← c.self.view_is, c.seat_at.ensures, c.deref.ensures.value) at
