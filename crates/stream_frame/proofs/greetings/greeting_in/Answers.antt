use Rattle.std.proofs.Common.{take, drop, arith}
use Rattle.std.proofs.lemmas.List.{take_all, length-drop}
use Rattle.stream_frame.proofs.Hellos.{hello_read}
use Rattle.stream_frame.proofs.greetings.greeting_in.Goals as goal

pub returns : goal.returns
returns c =
    let bytes = c.args.bytes.now in
    let six = c.told-bytes in
    let l = length-drop 4 bytes in
    hello_read c.read_u32.result c.read_u16.result bytes (take 2 (drop 4 bytes)) six c.fits-bytes (take_all 2 (drop 4 bytes) (omega (arith, l, six))) c.read_u32.ensures c.read_u16.ensures
