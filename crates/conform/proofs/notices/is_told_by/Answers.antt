use Rattle.std.proofs.Common.{◌≡◌, true, arith, rules}
use Rattle.slave_spec.specs.Transport as transport
use Rattle.slave_spec.proofs.Walking.{address_is}
use Rattle.conform.proofs.Noting.{told_by}
use Rattle.conform.proofs.notices.is_told_by.Goals as goal

pub returns : goal.returns
returns c =
    let l : c.args.logs ≡ true = search rules in
    let same : transport.same_address c.args.to c.args.master ≡ true = search rules in
    told_by c.is_notice.result c.args.logs c.args.master c.args.to c.args.id c.args.bytes.now l (address_is c.args.to c.args.master same) (λ i. omega (arith, c.type_inv.bytes i)) (omega (arith, c.ranges.id.fits)) c.is_notice.ensures
