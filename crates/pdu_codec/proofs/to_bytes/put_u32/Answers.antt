use Rattle.std.proofs.Common.{◌∙◌, ap, List, ℕ, ◌++◌, drop}
use Rattle.dcp_types.proofs.Digits.{low_bytes}
use Rattle.pdu_codec.proofs.to_bytes.put_u32.Goals as goal

pub returns-clause-bytes : goal.returns-clause-bytes
returns-clause-bytes c = c.write_u32.ensures ∙ ap (λ (l : List ℕ). l ++ drop 4 c.args.room.now) (low_bytes 4 c.args.n)
