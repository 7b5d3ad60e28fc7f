use Rattle.std.proofs.Common.{refl, [], ◌∷◌}
use Rattle.stream_frame.proofs.Hellos.{hello_put}
use Rattle.stream_frame.proofs.greetings.greeting_bytes.Goals as goal

pub returns : goal.returns
returns c =
    hello_put c.args.from.ip c.args.from.port (0 ∷ 0 ∷ 0 ∷ 0 ∷ 0 ∷ 0 ∷ []) c.write_u32.new.buf c.write_u16.new.buf refl c.write_u32.ensures c.write_u16.ensures
