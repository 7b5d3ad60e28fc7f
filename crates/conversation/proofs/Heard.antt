-- What a message tells is what its bytes tell.
use Rattle.std.proofs.Common.{◌≡◌, ◌==◌, ◌&&◌, Bool, true, false, List, [], ◌∷◌, ℕ, length, refl, sym, ap, ◌∙◌, Option, Some, None}
use Rattle.std.specs.Prelude.{if◌then◌else◌}
use Rattle.master_spec.specs.declared.setups.Slave.{Slave}
use Rattle.master_spec.specs.declared.requests.Answer.{Answer}
use Rattle.master_spec.specs.Marks.{Mark, Brought, Hinted, Answered, open_request, newest_number}
use Rattle.master_spec.specs.declared.requests.Request.{Request}
use Rattle.dcp_types.specs.declared.limits.Limits.{Limits}
use Rattle.master_spec.specs.declared.reactions.Reaction.{Reaction}
use Rattle.conversation.proofs.Begun.{waits_brought}
use Rattle.master_spec.specs.Conversation.{answer_mark, if_open, messages_if, messages_of}
use Rattle.master_spec.specs.Course.{mark_for, payload_size}
use Rattle.pdu_layout.specs.declared.messages.Pdu.{Pdu}
use Rattle.pdu_layout.specs.declared.messages.Pdu.TheVariants as pdu
use Rattle.pdu_layout.specs.declared.messages.Stc.TheVariants as stc
use Rattle.pdu_layout.specs.declared.messages.Cfg.TheVariants as cfg
use Rattle.pdu_layout.specs.declared.messages.Inf.TheVariants as inf
use Rattle.pdu_layout.specs.declared.messages.Rsp.TheVariants as rsp
use Rattle.pdu_layout.specs.Message.{message_of}
use Rattle.pdu_layout.specs.Reading.{message_in}
use Rattle.master_spec.specs.News.{news_of, news_in, Nothing, Answers, Hints, Brings}
use Rattle.conversation.specs.Hearing.{news_for, answer_taken}

told : (p : Pdu) → news_in (Some (message_of p)) ≡ news_for p
told (pdu.Stc seq receiver state (stc.Register uuid op_mode major minor)) = refl
told (pdu.Stc seq receiver state stc.Deregister) = refl
told (pdu.Stc seq receiver state stc.Prepare) = refl
told (pdu.Stc seq receiver state stc.Configure) = refl
told (pdu.Stc seq receiver state stc.Initialize) = refl
told (pdu.Stc seq receiver state (stc.Run start_time)) = refl
told (pdu.Stc seq receiver state (stc.DoStep steps)) = refl
told (pdu.Stc seq receiver state stc.SendOutputs) = refl
told (pdu.Stc seq receiver state stc.Stop) = refl
told (pdu.Stc seq receiver state stc.Reset) = refl
told (pdu.Cfg seq receiver (cfg.TimeRes numerator denominator)) = refl
told (pdu.Cfg seq receiver (cfg.Steps data_id steps)) = refl
told (pdu.Cfg seq receiver (cfg.Input data_id position vr source_type)) = refl
told (pdu.Cfg seq receiver (cfg.Output data_id position vr)) = refl
told (pdu.Cfg seq receiver cfg.Clear) = refl
told (pdu.Cfg seq receiver (cfg.Target net)) = refl
told (pdu.Cfg seq receiver (cfg.Source net)) = refl
told (pdu.Cfg seq receiver (cfg.Parameter vr kind value)) = refl
told (pdu.Cfg seq receiver (cfg.Tunable param_id position vr kind)) = refl
told (pdu.Cfg seq receiver (cfg.ParamNet param_id protocol port ip)) = refl
told (pdu.Cfg seq receiver (cfg.Logging category level mode)) = refl
told (pdu.Cfg seq receiver (cfg.Scope data_id scope)) = refl
told (pdu.Inf seq receiver inf.State) = refl
told (pdu.Inf seq receiver inf.Error) = refl
told (pdu.Inf seq receiver (inf.Log category max_entries)) = refl
told (pdu.Rsp seq sender rsp.Ack) = refl
told (pdu.Rsp seq sender (rsp.Nack expected code)) = refl
told (pdu.Rsp seq sender (rsp.StateAck state)) = refl
told (pdu.Rsp seq sender (rsp.ErrorAck code)) = refl
told (pdu.Rsp seq sender (rsp.LogAck entries)) = refl
told (pdu.StateChanged sender state) = refl
told (pdu.LogNote sender category level text) = refl
told (pdu.DataIo seq data_id payload) = refl
told (pdu.DataParameter seq param_id payload) = refl

pub news_some : (bytes : List ℕ) (p : Pdu) → message_in bytes ≡ Some (message_of p) → news_of bytes ≡ news_for p
unfolding news_of
news_some bytes p e = ap news_in e ∙ told p

pub news_none : (bytes : List ℕ) → message_in bytes ≡ None → news_of bytes ≡ Nothing
unfolding news_of
news_none bytes e = ap news_in e

-- which mark outputs make, by the code's test
pub mark_outputs : (slave : Slave) (marks : List Mark) (seq data_id id size : ℕ) (payload : List ℕ) (b : Bool) → slave.id ≡ id → payload_size slave.types ≡ size → b ≡ ((data_id == id) && (length payload == size))
    → mark_for slave marks (Brings seq data_id payload) ≡ (if b then Some (Brought seq payload) else None)
mark_outputs slave marks seq data_id id size payload b e f is =
    ap (λ (n : ℕ). if (data_id == n) && (length payload == payload_size slave.types) then Some (Brought seq payload) else None) e
    ∙ ap (λ (n : ℕ). if (data_id == id) && (length payload == n) then Some (Brought seq payload) else None) f
    ∙ ap (λ (x : Bool). if x then Some (Brought seq payload) else None) (sym is)

pub mark_hint : (slave : Slave) (marks : List Mark) (sender id : ℕ) → slave.id ≡ id → mark_for slave marks (Hints sender) ≡ (if sender == id then Some Hinted else None)
mark_hint slave marks sender id e = ap (λ (n : ℕ). if sender == n then Some Hinted else None) e

pub mark_answer : (slave : Slave) (marks : List Mark) (number sender id : ℕ) (answer : Answer) → slave.id ≡ id → answer_mark id number sender answer marks ≡ mark_for slave marks (Answers number sender answer)
mark_answer slave marks number sender id answer e = ap (λ (n : ℕ). answer_mark n number sender answer marks) (sym e)

taken_if : (b : Bool) (request : Request) (answer : Answer) (marks : List Mark) → answer_taken (if b then Some (Answered request answer) else None) marks ≡ None
taken_if true request answer marks = refl
taken_if false request answer marks = refl

taken_open : (o : Option Request) (number wanted : ℕ) (answer : Answer) (marks : List Mark) → answer_taken (if_open o number wanted answer) marks ≡ None
taken_open None number wanted answer marks = refl
taken_open (Some request) number wanted answer marks = taken_if (number == wanted) request answer marks

taken_from : (b : Bool) (o : Option Request) (number wanted : ℕ) (answer : Answer) (marks : List Mark) → answer_taken (if b then if_open o number wanted answer else None) marks ≡ None
taken_from true o number wanted answer marks = taken_open o number wanted answer marks
taken_from false o number wanted answer marks = refl

-- an answer brings no values
pub taken_answer : (slave : Slave) (marks : List Mark) (number sender : ℕ) (answer : Answer) → None ≡ answer_taken (mark_for slave marks (Answers number sender answer)) marks
taken_answer slave marks number sender answer = sym (taken_from (sender == slave.id) (open_request marks) number (newest_number marks) answer marks)

taken_hinted : (b : Bool) (marks : List Mark) → answer_taken (if b then Some Hinted else None) marks ≡ None
taken_hinted true marks = refl
taken_hinted false marks = refl

-- nor does a notice
pub taken_hint : (slave : Slave) (marks : List Mark) (sender : ℕ) → None ≡ answer_taken (mark_for slave marks (Hints sender)) marks
taken_hint slave marks sender = sym (taken_hinted (sender == slave.id) marks)

-- values that come make nothing due
pub silent_outputs : (limits : Limits) (id : ℕ) (b : Bool) (seq : ℕ) (payload : List ℕ) (marks : List Mark) → messages_if limits id (if b then Some (Brought seq payload) else None) marks ≡ []
silent_outputs limits id true seq payload marks = ap (λ (r : Reaction). messages_of id (Brought seq payload ∷ marks) r) (waits_brought limits seq payload marks)
silent_outputs limits id false seq payload marks = refl
