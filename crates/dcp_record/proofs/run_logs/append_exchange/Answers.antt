use Rattle.std.proofs.Common.{List, ℕ, ◌∷◌, [], ◌++◌, length, ap, ◌∙◌, append_assoc}
use Rattle.std.specs.Int.{to_le_bytes, w16}
use Rattle.dcp_record.specs.Traces.{address_bytes}
use Rattle.dcp_record.proofs.run_logs.append_exchange.Goals as goal

pub returns : goal.returns
returns c =
    let payload = c.args.payload.now in
    let head : List ℕ = (c.args.tag ∷ []) ++ address_bytes c.args.first ++ address_bytes c.args.second ++ to_le_bytes w16 (length payload) in
    c.append-2.ensures.items ∙ ap (λ (b : List ℕ). b ++ payload) (rw c.exchange_head.ensures at c.append.ensures.items) ∙ append_assoc c.args.bytes.now.items head payload
