use Rattle.std.proofs.Common.{rules, ◌∙◌, sym, refl}
use Rattle.slave_desc.specs.Descriptions.{IsDesc}
use Rattle.host.specs.Seats.{slave_making}
use Rattle.host.proofs.Fresh.{first_with, first_without}
use Rattle.host.proofs.Models.{all_behind, other_models}
use Rattle.host.proofs.making.+seat_hosted.Goals.{then-has+in_ok-seated_slave+in_ok-push, else-has}
use Rattle.host.proofs.making.+seat_hosted.Goals as goal

pub returns : goal.returns
returns t c = elim c.if-has.branch [
  | then-has+in_ok-seated_slave+in_ok-push w ↦
      first_with _ (slave_making c.args.scenario.now) c.args.hosted c.args.slave c.args.seats.now.items c.if-has.seats.items _ c.args.descs.now _ c.desc-item.result refl c.in-len1-up.len_at_least c.desc-item.is
      w.in_ok-seated_slave.field-0 (sym c.has.ensures ∙ w.if-has.true) (rw w.seats-is w.in_ok-push.ensures.items) w.in_ok-seated_slave.ensures c.in_ok-seat_hosted.ensures
  | else-has w ↦
      first_without _ (slave_making c.args.scenario.now) c.args.hosted c.args.slave c.args.seats.now.items c.if-has.seats.items _ c.args.descs.now _ refl c.in-len1-up.len_at_least
      (sym c.has.ensures ∙ w.if-has.false) (rw w.seats-is refl) c.in_ok-seat_hosted.ensures
]

pub seat_hosted-requires : goal.seat_hosted-requires
seat_hosted-requires t c =
    (search rules, (search rules, (all_behind (λ d. IsDesc d) c.args.descs.now c.in-len1-up.len_at_least c.requires.descs, (other_models c.args.hosted c.args.slave c.args.descs.now c.in-len1-up.len_at_least c.requires.models, search rules))))
