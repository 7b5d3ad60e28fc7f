use Rattle.std.proofs.Common.{◌∙◌, ap, List, ℕ, ◌++◌, drop}
use Rattle.pdu_codec.proofs.Writing.{high_first}
use Rattle.pdu_codec.proofs.to_bytes.put_uuid.Goals as goal

pub returns-clause-bytes : goal.returns-clause-bytes
returns-clause-bytes c = c.write_u128.ensures ∙ ap (λ (l : List ℕ). l ++ drop 16 c.args.room.now) (high_first 16 c.args.n)
