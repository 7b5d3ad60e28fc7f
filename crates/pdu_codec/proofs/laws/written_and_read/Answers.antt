use Rattle.std.proofs.Common.{◌≡◌, ℕ, List, Ok, Err}
use Rattle.std.specs.Prelude.{Result, IfOk, IfErr}
use Rattle.pdu_layout.specs.declared.messages.Pdu.{Pdu}
use Rattle.pdu_layout.specs.Message.{Message, Spells, message_of}
use Rattle.pdu_codec.specs.declared.faults.DecodeFault.{DecodeFault}
use Rattle.pdu_codec.specs.Refusals.{Refusal}
use Rattle.pdu_codec.proofs.OneSpelling.{one_message}
use Rattle.pdu_codec.proofs.laws.written_and_read.Goals as goal

same : (p : Message) (b : List ℕ) (r : Result Pdu DecodeFault) → Spells p b → IfOk r (λ q. Spells (message_of q) b) → IfOk r (λ q. message_of q ≡ p)
same p b (Ok q) s h = one_message (message_of q) p b h s
same p b (Err fault) s h = h

never : (p : Message) (b : List ℕ) (r : Result Pdu DecodeFault) → Spells p b → IfErr r (λ fault. Refusal b fault.at fault.why) → IfErr r (λ fault. ⊥)
never p b (Ok q) s h = h
never p b (Err fault) s h = h.unspelled p s

pub returns-clause-same : goal.returns-clause-same
returns-clause-same c = same (message_of c.args.pdu.now) _ c.decode.result c.encode-length.ensures.spelled c.decode.ensures.ok

pub returns-clause-never : goal.returns-clause-never
returns-clause-never c = never (message_of c.args.pdu.now) _ c.decode.result c.encode-length.ensures.spelled c.decode.ensures.err
