use Rattle.std.proofs.Common.{subst, sym, rules, arith}
use Rattle.std.proofs.lemmas.Bool.{eqb-true}
use Rattle.std.proofs.lemmas.List.{nil_from_length}
use Rattle.pdu_codec.specs.declared.faults.DecodeWhy.TheVariants.{Empty}
use Rattle.pdu_codec.specs.Refusals.{Refusal}
use Rattle.pdu_codec.proofs.Whole.{empty_refused, unknown_is}
use Rattle.pdu_codec.proofs.ReadBack.{unread}
use Rattle.pdu_codec.proofs.Told.{told}
use Rattle.pdu_codec.proofs.from_bytes.decode.Goals as goal

pub returns-in_default-clause-err : goal.returns-in_default-clause-err
returns-in_default-clause-err c = unknown_is c.args.bytes.now (search rules) (search rules)

pub returns-then-is_empty-clause-err : goal.returns-then-is_empty-clause-err
returns-then-is_empty-clause-err c = subst (λ b. Refusal b 0 Empty) (sym (nil_from_length c.args.bytes.now (eqb-true _ _ (sym c.if-is_empty.ensures)))) empty_refused

pub returns-then-is_empty-clause-told : goal.returns-then-is_empty-clause-told
returns-then-is_empty-clause-told c = unread c.args.bytes.now (λ i. omega (arith, c.type_inv.bytes i)) (returns-then-is_empty-clause-err c).unspelled

pub returns-in-1-to-10-clause-told : goal.returns-in-1-to-10-clause-told
returns-in-1-to-10-clause-told c = told c.args.bytes.now c.read_state_request.result (λ i. omega (arith, c.type_inv.bytes i)) c.read_state_request.ensures.ok c.read_state_request.ensures.err

pub returns-in-32-to-43-clause-told : goal.returns-in-32-to-43-clause-told
returns-in-32-to-43-clause-told c = told c.args.bytes.now c.read_configuration.result (λ i. omega (arith, c.type_inv.bytes i)) c.read_configuration.ensures.ok c.read_configuration.ensures.err

pub returns-in-128-to-130-clause-told : goal.returns-in-128-to-130-clause-told
returns-in-128-to-130-clause-told c = told c.args.bytes.now c.read_question.result (λ i. omega (arith, c.type_inv.bytes i)) c.read_question.ensures.ok c.read_question.ensures.err

pub returns-in-176-to-180-clause-told : goal.returns-in-176-to-180-clause-told
returns-in-176-to-180-clause-told c = told c.args.bytes.now c.read_answer.result (λ i. omega (arith, c.type_inv.bytes i)) c.read_answer.ensures.ok c.read_answer.ensures.err

pub returns-in-224-clause-told : goal.returns-in-224-clause-told
returns-in-224-clause-told c = told c.args.bytes.now c.read_notice.result (λ i. omega (arith, c.type_inv.bytes i)) c.read_notice.ensures.ok c.read_notice.ensures.err

pub returns-in_default-clause-told : goal.returns-in_default-clause-told
returns-in_default-clause-told c = unread c.args.bytes.now (λ i. omega (arith, c.type_inv.bytes i)) (returns-in_default-clause-err c).unspelled
