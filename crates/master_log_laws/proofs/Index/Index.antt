-- The requests of the log are those that the marks of the conversation tell.
use Rattle.std.proofs.Common.{◌≡◌, ℕ, ◌+◌, ◌%◌, Bool, true, false, if◌then◌else◌, Option, Some, None, List, [], ◌∷◌, length, refl, sym, ap, ◌∙◌, subst, arith}
use Rattle.std.specs.Prelude.{◌==◌, ◌&&◌, is_some}
use Rattle.std.proofs.lemmas.Bool.{eqb-true, eqb-false}
use Rattle.pdu_layout.specs.declared.messages.Stc.TheVariants as stc
use Rattle.pdu_layout.specs.declared.messages.Cfg.TheVariants as cfg
use Rattle.pdu_layout.specs.Message.{message_of}
use Rattle.pdu_layout.specs.Reading.{message_in}
use Rattle.master_spec.specs.declared.requests.Request.{Request}
use Rattle.master_spec.specs.declared.requests.Request.TheVariants.{Change, Configure, AskState, AskError}
use Rattle.master_spec.specs.declared.requests.Answer.{Answer}
use Rattle.master_spec.specs.News.{News, Answers, Hints, Brings, Nothing, pdu_of, request_bytes}
use Rattle.master_spec.specs.Marks.{Mark, Asked, Again, Answered, Hinted, Brought, asked, newest_number, open_request}
use Rattle.master_spec.specs.Conversation.{if_open}
use Rattle.master_spec.specs.Course.{mark_for, payload_size}
use Rattle.master_spec.specs.declared.setups.Slave.{Slave}
use Rattle.master_spec.specs.Requests.{Asking, Decision, asking_in, with_asking, decided_by, with_news}
use Rattle.master_log_laws.specs.Index.Index.{Placed, at, marks_of, first_at, again_at, askings_told, told_if, IsHeadRequest, IsHeadOf, ReadBack}

-- a request that reads back is told as it was asked
asking_message : (n q id : ℕ) (r : Request) → asking_in n (Some (message_of (pdu_of q id r))) ≡ Some (first_at n q r)
asking_message n q id (Change state (stc.Register uuid op_mode major minor)) = refl
asking_message n q id (Change state stc.Deregister) = refl
asking_message n q id (Change state stc.Prepare) = refl
asking_message n q id (Change state stc.Configure) = refl
asking_message n q id (Change state stc.Initialize) = refl
asking_message n q id (Change state (stc.Run start_time)) = refl
asking_message n q id (Change state (stc.DoStep steps)) = refl
asking_message n q id (Change state stc.SendOutputs) = refl
asking_message n q id (Change state stc.Stop) = refl
asking_message n q id (Change state stc.Reset) = refl
asking_message n q id (Configure (cfg.TimeRes numerator denominator)) = refl
asking_message n q id (Configure (cfg.Steps data_id steps)) = refl
asking_message n q id (Configure (cfg.Input data_id position vr source_type)) = refl
asking_message n q id (Configure (cfg.Output data_id position vr)) = refl
asking_message n q id (Configure cfg.Clear) = refl
asking_message n q id (Configure (cfg.Target net)) = refl
asking_message n q id (Configure (cfg.Source net)) = refl
asking_message n q id (Configure (cfg.Parameter vr kind value)) = refl
asking_message n q id (Configure (cfg.Tunable param_id position vr kind)) = refl
asking_message n q id (Configure (cfg.ParamNet param_id protocol port ip)) = refl
asking_message n q id (Configure (cfg.Logging category level mode)) = refl
asking_message n q id (Configure (cfg.Scope data_id scope)) = refl
asking_message n q id AskState = refl
asking_message n q id AskError = refl

-- two numbers in a row differ
numbers_differ : (k : ℕ) → k % 65536 ≡ (k + 65535) % 65536 → ⊥
numbers_differ k e = omega (arith, e)

pub number_next : (k : ℕ) → k % 65536 ≡ (k + 1 + 65535) % 65536
number_next k = omega arith

-- a new request
asks_new : (k : ℕ) (o : Option Request) (a : Asking) (bs : List Asking) → a.number ≡ k % 65536 → IsHeadRequest o ((k + 65535) % 65536) bs → with_asking (Some a) bs ≡ a ∷ bs
asks_new k o a [] e h = refl
asks_new k None a (b ∷ bs) e h = by (a.number == b.number) refl
  where
    by : (t : Bool) → (a.number == b.number) ≡ t → (if t then record { code = b.code; number = b.number; more = b.more; first = b.first; repeats = a.first ∷ b.repeats; decision = b.decision } ∷ bs else a ∷ b ∷ bs) ≡ a ∷ b ∷ bs
    by true z = absurd (numbers_differ k (sym e ∙ eqb-true a.number b.number z ∙ h.0))
    by false z = refl
asks_new k (Some r) a (b ∷ bs) e h = by (a.number == b.number) refl
  where
    by : (t : Bool) → (a.number == b.number) ≡ t → (if t then record { code = b.code; number = b.number; more = b.more; first = b.first; repeats = a.first ∷ b.repeats; decision = b.decision } ∷ bs else a ∷ b ∷ bs) ≡ a ∷ b ∷ bs
    by true z = absurd (numbers_differ k (sym e ∙ eqb-true a.number b.number z ∙ h.0))
    by false z = refl

-- the newest one again
asks_again : (q : ℕ) (r : Request) (a : Asking) (bs : List Asking) → a.number ≡ q → IsHeadRequest (Some r) q bs → with_asking (Some a) bs ≡ again_at a.first bs
asks_again q r a [] e h = absurd h
asks_again q r a (b ∷ bs) e h = by (a.number == b.number) refl
  where
    by : (t : Bool) → (a.number == b.number) ≡ t → (if t then record { code = b.code; number = b.number; more = b.more; first = b.first; repeats = a.first ∷ b.repeats; decision = b.decision } ∷ bs else a ∷ b ∷ bs) ≡ again_at a.first (b ∷ bs)
    by true z = refl
    by false z = absurd (eqb-false a.number b.number z (e ∙ sym h.0))

pub sent_new : (n id : ℕ) (r : Request) (xs : List Placed) → ReadBack id r → IsHeadOf (marks_of xs) (askings_told xs)
    → with_asking (asking_in n (message_in (request_bytes (asked (marks_of xs) % 65536) id r))) (askings_told xs) ≡ askings_told (at n (Asked r) ∷ xs)
sent_new n id r xs back h =
    let k = asked (marks_of xs) in
    let e : asking_in n (message_in (request_bytes (k % 65536) id r)) ≡ Some (first_at n (k % 65536) r) = ap (asking_in n) (back (k % 65536) (omega arith)) ∙ asking_message n (k % 65536) id r in
    ap (λ o. with_asking o (askings_told xs)) e ∙ asks_new k (open_request (marks_of xs)) (first_at n (k % 65536) r) (askings_told xs) refl h

pub sent_again : (n id : ℕ) (r : Request) (xs : List Placed) → ReadBack id r → open_request (marks_of xs) ≡ Some r → IsHeadOf (marks_of xs) (askings_told xs)
    → with_asking (asking_in n (message_in (request_bytes (newest_number (marks_of xs)) id r))) (askings_told xs) ≡ askings_told (at n Again ∷ xs)
sent_again n id r xs back o h =
    let q = newest_number (marks_of xs) in
    let e : asking_in n (message_in (request_bytes q id r)) ≡ Some (first_at n q r) = ap (asking_in n) (back q (omega arith)) ∙ asking_message n q id r in
    let P : Option Request → Type 0 = λ z. IsHeadRequest z q (askings_told xs) in
    ap (λ z. with_asking z (askings_told xs)) e ∙ asks_again q r (first_at n q r) (askings_told xs) refl (subst P o h)

-- ---- a datagram of the slave
settled : (b : Asking) (d : Decision) → is_some b.decision ≡ true → decided_by b.decision d ≡ b.decision
settled b d h = by b.decision h
  where
    by : (o : Option Decision) → is_some o ≡ true → decided_by o d ≡ o
    by None z = absurd cc
    by (Some e) z = refl

answers_told : (id n number sender : ℕ) (answer : Answer) (marks : List Mark) (o : Option Request) (q : ℕ) (bs : List Asking) → IsHeadRequest o q bs
    → with_news id n (Answers number sender answer) bs ≡ told_if n (if sender == id then if_open o number q answer else None) marks bs
answers_told id n number sender answer marks None q [] h = by (sender == id)
  where
    by : (t : Bool) → [] ≡ told_if n (if t then if_open None number q answer else None) marks []
    by true = refl
    by false = refl
answers_told id n number sender answer marks (Some r) q [] h = absurd h
answers_told id n number sender answer marks None q (b ∷ bs) h = by (sender == id) (number == b.number)
  where
    new : Asking
    new = record { code = b.code; number = b.number; more = b.more; first = b.first; repeats = b.repeats; decision = decided_by b.decision (record { place = n; answer = answer }) }

    same : new ≡ b
    same = ap (λ z. record { code = b.code; number = b.number; more = b.more; first = b.first; repeats = b.repeats; decision = z }) (settled b (record { place = n; answer = answer }) h.1)

    by : (t u : Bool) → (if t && u then new ∷ bs else b ∷ bs) ≡ told_if n (if t then if_open None number q answer else None) marks (b ∷ bs)
    by true true = ap (λ z. z ∷ bs) same
    by true false = refl
    by false u = refl
answers_told id n number sender answer marks (Some r) q (b ∷ bs) h = by (sender == id) (number == b.number) (number == q) (ap (λ z. number == z) h.0)
  where
    new : Asking
    new = record { code = b.code; number = b.number; more = b.more; first = b.first; repeats = b.repeats; decision = decided_by b.decision (record { place = n; answer = answer }) }

    by : (t u v : Bool) → u ≡ v → (if t && u then new ∷ bs else b ∷ bs) ≡ told_if n (if t then (if v then Some (Answered r answer) else None) else None) marks (b ∷ bs)
    by true true true e = refl
    by true false false e = refl
    by true true false e = absurd cc
    by true false true e = absurd cc
    by false u v e = refl

pub news_told : (slave : Slave) (n : ℕ) (news : News) (xs : List Placed) → IsHeadOf (marks_of xs) (askings_told xs)
    → with_news slave.id n news (askings_told xs) ≡ told_if n (mark_for slave (marks_of xs) news) (marks_of xs) (askings_told xs)
news_told slave n (Answers number sender answer) xs h = answers_told slave.id n number sender answer (marks_of xs) (open_request (marks_of xs)) (newest_number (marks_of xs)) (askings_told xs) h
news_told slave n (Hints sender) xs h = by (sender == slave.id)
  where
    by : (t : Bool) → askings_told xs ≡ told_if n (if t then Some Hinted else None) (marks_of xs) (askings_told xs)
    by true = refl
    by false = refl
news_told slave n (Brings number id payload) xs h = by ((id == slave.id) && (length payload == payload_size slave.types))
  where
    by : (t : Bool) → askings_told xs ≡ told_if n (if t then Some (Brought number payload) else None) (marks_of xs) (askings_told xs)
    by true = refl
    by false = refl
news_told slave n Nothing xs h = refl
