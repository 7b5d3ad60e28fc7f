use Rattle.std.proofs.Common.{length, refl}
use Rattle.stream_frame.proofs.Lengths.{put_bytes}
use Rattle.stream_frame.proofs.frames.put_frame.Goals as goal

pub returns-clause-bytes : goal.returns-clause-bytes
returns-clause-bytes c =
    put_bytes (length c.args.pdu.now) c.args.pdu.now c.args.room.now c.write_u32.new.buf c.copy_from_slice.new.self refl c.write_u32.ensures c.copy_from_slice.ensures.after
