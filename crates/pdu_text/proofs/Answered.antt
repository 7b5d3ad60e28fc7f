-- The answers of a reader of texts by the definitions.
use Rattle.std.proofs.Common.{ℕ, List, Result, Ok, Err, IfOk, IfErr}
use Rattle.pdu_text.specs.Contents.{message_of_said}
use Rattle.pdu_text.specs.declared.contents.SaidMessage.{SaidMessage}
use Rattle.pdu_text.specs.Reasons.{Fails, Gives}
use Rattle.pdu_text.specs.Reading.{ReadsMessage}
use Rattle.pdu_text.specs.Machine.{text_said}
use Rattle.pdu_text.specs.Takers.{IsRefused}
use Rattle.pdu_text.specs.declared.reasons.PduTextRefused.{PduTextRefused}
use Rattle.pdu_text.specs.declared.reasons.PduTextRefused.TheVariants as refused
use Rattle.pdu_text.proofs.Judged.{said_reads, said_refused}

pub fails_refused : (text : List ℕ) (e : PduTextRefused) → Fails e (text_said text) → IsRefused text e
fails_refused text refused.OutOfMemory h = tt
fails_refused text (refused.Line why) h = said_refused text why h

pub answered_ok : (text : List ℕ) (r : Result SaidMessage PduTextRefused) → Gives message_of_said r (text_said text) → IfOk r (λ m. ReadsMessage text (message_of_said m))
answered_ok text (Ok m) h = said_reads text (message_of_said m) h
answered_ok text (Err e) h = tt

pub answered_err : (text : List ℕ) (r : Result SaidMessage PduTextRefused) → Gives message_of_said r (text_said text) → IfErr r (λ e. IsRefused text e)
answered_err text (Ok m) h = tt
answered_err text (Err e) h = fails_refused text e h
