use Rattle.std.proofs.Common.{◌≤◌, arith, ap, length}
use Rattle.stream_frame.specs.Framing.{Framing}
use Rattle.stream_frame.proofs.Lengths.{number_read}
use Rattle.stream_frame.proofs.readers.FrameReader.announced.Goals as goal

pub returns : goal.returns
returns c =
    let test = c.if-len-lt-LENGTH_SIZE.false in
    let len = c.len.ensures.len in
    let held = ap (λ (f : Framing). length f.held) c.self.view_is in
    let four : 4 ≤ length c.args.self.now.held = omega (arith, test, len, held) in (
      four,
      omega (arith, c.read_u32.type_inv),
      number_read c.args.self.now.held c.byte.result c.byte-2.result c.byte-3.result c.byte-4.result c.read_u32.result four
          c.byte.ensures c.byte-2.ensures c.byte-3.ensures c.byte-4.ensures c.byte.type_inv c.byte-2.type_inv c.byte-3.type_inv c.byte-4.type_inv c.read_u32.ensures,
    )
