-- A datagram makes the mark of outputs exactly where it brings outputs of the slave.
use Rattle.std.proofs.Common.{◌≡◌, ℕ, Bool, true, false, if◌then◌else◌, Option, Some, None, List, length, ap, ◌∙◌, subst}
use Rattle.std.specs.Prelude.{◌==◌, ◌&&◌}
use Rattle.std.proofs.lemmas.Bool.{and_parts, eqb-true, eq-eqb}
use Rattle.dcp_types.specs.declared.addresses.Address.{Address}
use Rattle.dcp_ends.specs.declared.entries.LogEntry.TheVariants.{Got}
use Rattle.dcp_ends.specs.Logs.{same_address}
use Rattle.master_spec.specs.declared.requests.Request.{Request}
use Rattle.master_spec.specs.declared.requests.Answer.{Answer}
use Rattle.master_spec.specs.declared.setups.Slave.{Slave}
use Rattle.master_spec.specs.News.{News, Answers, Hints, Brings, Nothing, news_of}
use Rattle.master_spec.specs.Marks.{Mark, Begun, Asked, Again, Answered, Hinted, Brought, Turned, Ended, newest_number, open_request}
use Rattle.master_spec.specs.Conversation.{if_open}
use Rattle.master_spec.specs.Course.{mark_for, mark_of_gram, payload_size}
use Rattle.master_spec.specs.Requests.{are_outputs, brings_outputs}
use Rattle.master_log_laws.specs.Index.Follows.{talk_with}

-- what a datagram may make
abbrev pub IsNews : Mark → Type 0
IsNews (Begun job) = ⊥
IsNews (Asked request) = ⊥
IsNews Again = ⊥
IsNews (Answered request answer) = Unit {0}
IsNews Hinted = Unit {0}
IsNews (Brought number payload) = Unit {0}
IsNews (Turned settled) = ⊥
IsNews (Ended cause) = ⊥

chosen_news : (b : Bool) (k m : Mark) → IsNews k → (if b then Some k else None) ≡ Some m → IsNews m
chosen_news true k m n h = let z : k ≡ m = cc in let P : Mark → Type 0 = IsNews in subst P z n
chosen_news false k m n h = absurd cc

answer_news : (o : Option Request) (number wanted : ℕ) (answer : Answer) (m : Mark) → if_open o number wanted answer ≡ Some m → IsNews m
answer_news None number wanted answer m h = absurd cc
answer_news (Some r) number wanted answer m h = chosen_news (number == wanted) (Answered r answer) m tt h

mark_news : (slave : Slave) (marks : List Mark) (news : News) (m : Mark) → mark_for slave marks news ≡ Some m → IsNews m
mark_news slave marks (Answers number sender answer) m h = by (sender == slave.id) h
  where
    by : (b : Bool) → (if b then if_open (open_request marks) number (newest_number marks) answer else None) ≡ Some m → IsNews m
    by true q = answer_news (open_request marks) number (newest_number marks) answer m q
    by false q = absurd cc
mark_news slave marks (Hints sender) m h = chosen_news (sender == slave.id) Hinted m tt h
mark_news slave marks (Brings number id payload) m h = chosen_news ((id == slave.id) && (length payload == payload_size slave.types)) (Brought number payload) m tt h
mark_news slave marks Nothing m h = absurd cc

pub gram_news : (slave : Slave) (marks : List Mark) (from : Address) (bytes : List ℕ) (m : Mark) → mark_of_gram (talk_with slave marks) from bytes ≡ Some m → IsNews m
gram_news slave marks from bytes m h = by (same_address from slave.address) h
  where
    by : (b : Bool) → (if b then mark_for slave marks (news_of bytes) else None) ≡ Some m → IsNews m
    by true q = mark_news slave marks (news_of bytes) m q
    by false q = absurd cc

-- ---- outputs
no_outputs : (o : Option Request) (number wanted n : ℕ) (payload : List ℕ) (answer : Answer) → if_open o number wanted answer ≡ Some (Brought n payload) → ⊥
no_outputs None number wanted n payload answer h = cc
no_outputs (Some r) number wanted n payload answer h = by (number == wanted) h
  where
    by : (b : Bool) → (if b then Some (Answered r answer) else None) ≡ Some (Brought n payload) → ⊥
    by true q = cc
    by false q = cc

mark_outputs : (slave : Slave) (marks : List Mark) (news : News) (number : ℕ) (payload : List ℕ) → mark_for slave marks news ≡ Some (Brought number payload) → are_outputs slave number (payload_size slave.types) news ≡ true
mark_outputs slave marks (Answers n sender answer) number payload h = by (sender == slave.id) h
  where
    by : (b : Bool) → (if b then if_open (open_request marks) n (newest_number marks) answer else None) ≡ Some (Brought number payload) → are_outputs slave number (payload_size slave.types) (Answers n sender answer) ≡ true
    by true q = absurd (no_outputs (open_request marks) n (newest_number marks) number payload answer q)
    by false q = absurd cc
mark_outputs slave marks (Hints sender) number payload h = by (sender == slave.id) h
  where
    by : (b : Bool) → (if b then Some Hinted else None) ≡ Some (Brought number payload) → are_outputs slave number (payload_size slave.types) (Hints sender) ≡ true
    by true q = absurd cc
    by false q = absurd cc
mark_outputs slave marks (Brings n id load) number payload h = by ((id == slave.id) && (length load == payload_size slave.types)) h
  where
    by : (b : Bool) → (if b then Some (Brought n load) else None) ≡ Some (Brought number payload) → ((n == number) && b) ≡ true
    by true q = let z : n ≡ number = cc in ap (λ (t : Bool). t && true) (eq-eqb n number z)
    by false q = absurd cc
mark_outputs slave marks Nothing number payload h = absurd cc

outputs_mark : (slave : Slave) (marks : List Mark) (news : News) (number : ℕ) → are_outputs slave number (payload_size slave.types) news ≡ true → (payload : List ℕ) × (mark_for slave marks news ≡ Some (Brought number payload))
outputs_mark slave marks (Answers n sender answer) number h = absurd cc
outputs_mark slave marks (Hints sender) number h = absurd cc
outputs_mark slave marks (Brings n id load) number h =
    let p = and_parts (n == number) ((id == slave.id) && (length load == payload_size slave.types)) h in
    (load, ap (λ (t : Bool). if t then Some (Brought n load) else None) p.1 ∙ ap (λ (k : ℕ). Some (Brought k load)) (eqb-true n number p.0))
outputs_mark slave marks Nothing number h = absurd cc

pub got_brings : (master : Address) (slave : Slave) (marks : List Mark) (at from : Address) (bytes : List ℕ) (number : ℕ) (payload : List ℕ) → same_address at master ≡ true
    → mark_of_gram (talk_with slave marks) from bytes ≡ Some (Brought number payload) → brings_outputs master slave number (payload_size slave.types) (Got at from bytes) ≡ true
got_brings master slave marks at from bytes number payload own h = ap (λ (t : Bool). (t && same_address from slave.address) && are_outputs slave number (payload_size slave.types) (news_of bytes)) own ∙ by (same_address from slave.address) h
  where
    by : (b : Bool) → (if b then mark_for slave marks (news_of bytes) else None) ≡ Some (Brought number payload) → ((true && b) && are_outputs slave number (payload_size slave.types) (news_of bytes)) ≡ true
    by true q = mark_outputs slave marks (news_of bytes) number payload q
    by false q = absurd cc

pub got_marks : (master : Address) (slave : Slave) (marks : List Mark) (at from : Address) (bytes : List ℕ) (number : ℕ)
    → brings_outputs master slave number (payload_size slave.types) (Got at from bytes) ≡ true → (payload : List ℕ) × (mark_of_gram (talk_with slave marks) from bytes ≡ Some (Brought number payload))
got_marks master slave marks at from bytes number h =
    let p = and_parts (same_address at master && same_address from slave.address) (are_outputs slave number (payload_size slave.types) (news_of bytes)) h in
    let q = and_parts (same_address at master) (same_address from slave.address) p.0 in
    let w = outputs_mark slave marks (news_of bytes) number p.1 in
    (w.0, ap (λ (t : Bool). if t then mark_for slave marks (news_of bytes) else None) q.1 ∙ w.1)
