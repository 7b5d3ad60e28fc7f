use Rattle.std.proofs.Common.{◌∙◌, ap, List, ℕ, ◌++◌, drop}
use Rattle.dcp_types.proofs.Digits.{low_bytes}
use Rattle.pdu_codec.proofs.to_bytes.put_u64.Goals as goal

pub returns-clause-bytes : goal.returns-clause-bytes
returns-clause-bytes c = c.write_u64.ensures ∙ ap (λ (l : List ℕ). l ++ drop 8 c.args.room.now) (low_bytes 8 c.args.n)
