-- The two ways to read the row events agree.
use Rattle.std.proofs.Common.{◌≡◌, ℕ, ◌+◌, Bool, true, false, if◌then◌else◌, Option, Some, None, List, [], ◌∷◌, refl, sym, ap, ◌∙◌, arith}
use Rattle.std.specs.Prelude.{◌==◌, ◌&&◌, is_some}
use Rattle.std.proofs.lemmas.Bool.{eqb-true}
use Rattle.std.proofs.lemmas.List.Sums.{sum_by-cons}
use Rattle.pdu_layout.specs.Fields.{FieldValue}
use Rattle.pdu_layout.specs.Fields.FieldValue.{Number, Bytes}
use Rattle.log_spec.specs.Messages.{Note}
use Rattle.log_spec.specs.Log as logs
use Rattle.lockstep_laws.specs.Steps.{RowEvent, Show, Step, Restart, AtRest, Otherwise, reply_with, reply_of, told_by, told_of, is_on_its_way, BenchProgress, events_counted, view_after, view}
use Rattle.master_spec.specs.declared.requests.Answer.{Answer}
use Rattle.master_spec.specs.declared.requests.Answer.TheVariants.{Ack, Nack, StateAck, ErrorAck, LogAck}
use Rattle.master_spec.specs.News.{Answers, Nothing, acks, nacks, state_acks, error_acks, log_acks, hints, news_brought, news_by}
use Rattle.log_spec.specs.Moves.{decided_exchanges}
use Rattle.master_spec.specs.Requests.{Asking, Decision, asks, is_ack, is_acked_by, is_acked}
use Rattle.master_laws.specs.Hears.Laws.{IsDecision, AreDecisions}
use Rattle.master_laws.proofs.Hears.Decided.{decisions}
use Rattle.master_laws.specs.Rows.Laws.{event_for, asks_event, reply_by, progress_after, progress, ProgressIsTold, EventsAreAcknowledged}

-- ---- an answer is the same reply
module _ (number sender : ℕ) (a : Answer) where
  ack_reply : (vs : List FieldValue) → acks vs ≡ Answers number sender a → reply_with 176 vs ≡ reply_by a
  ack_reply (Number x ∷ Number y ∷ []) h = let z : Ack ≡ a = cc in ap reply_by z
  ack_reply _ h = absurd cc

  nack_reply : (vs : List FieldValue) → nacks vs ≡ Answers number sender a → reply_with 177 vs ≡ reply_by a
  nack_reply (Number x ∷ Number y ∷ Number e ∷ Number c ∷ []) h = let z : Nack c ≡ a = cc in ap reply_by z
  nack_reply _ h = absurd cc

  state_reply : (vs : List FieldValue) → state_acks vs ≡ Answers number sender a → reply_with 178 vs ≡ reply_by a
  state_reply (Number x ∷ Number y ∷ Number c ∷ []) h = let z : StateAck c ≡ a = cc in ap reply_by z
  state_reply _ h = absurd cc

  error_reply : (vs : List FieldValue) → error_acks vs ≡ Answers number sender a → reply_with 179 vs ≡ reply_by a
  error_reply (Number x ∷ Number y ∷ Number c ∷ []) h = let z : ErrorAck c ≡ a = cc in ap reply_by z
  error_reply _ h = absurd cc

  log_reply : (vs : List FieldValue) → log_acks vs ≡ Answers number sender a → reply_with 180 vs ≡ reply_by a
  log_reply (Number x ∷ Number y ∷ Bytes c ∷ []) h = let z : LogAck ≡ a = cc in ap reply_by z
  log_reply _ h = absurd cc

  no_hint : (vs : List FieldValue) → hints vs ≡ Answers number sender a → ⊥
  no_hint (Number x ∷ Number y ∷ []) h = cc
  no_hint _ h = cc

  no_bring : (vs : List FieldValue) → news_brought vs ≡ Answers number sender a → ⊥
  no_bring (Number x ∷ Number y ∷ Bytes e ∷ []) h = cc
  no_bring _ h = cc

  pub same_reply : (code : ℕ) (vs : List FieldValue) → news_by code vs ≡ Answers number sender a → reply_with code vs ≡ reply_by a
  same_reply code vs h = by (code == 176) (code == 177) (code == 178) (code == 179) (code == 180) (code == 224) (code == 240) refl refl refl refl refl h
    where
      at : (k : ℕ) → (code == k) ≡ true → reply_with k vs ≡ reply_by a → reply_with code vs ≡ reply_by a
      at k e r = ap (λ (i : ℕ). reply_with i vs) (eqb-true code k e) ∙ r

      by : (b c d e f g k : Bool) → (code == 176) ≡ b → (code == 177) ≡ c → (code == 178) ≡ d → (code == 179) ≡ e → (code == 180) ≡ f
          → (if b then acks vs else if c then nacks vs else if d then state_acks vs else if e then error_acks vs else if f then log_acks vs else if g then hints vs else if k then news_brought vs else Nothing) ≡ Answers number sender a
          → reply_with code vs ≡ reply_by a
      by true c d e f g k p q r t u h = at 176 p (ack_reply vs h)
      by false true d e f g k p q r t u h = at 177 q (nack_reply vs h)
      by false false true e f g k p q r t u h = at 178 r (state_reply vs h)
      by false false false true f g k p q r t u h = at 179 t (error_reply vs h)
      by false false false false true g k p q r t u h = at 180 u (log_reply vs h)
      by false false false false false true k p q r t u h = absurd (no_hint vs h)
      by false false false false false false true p q r t u h = absurd (no_bring vs h)
      by false false false false false false false p q r t u h = absurd cc

-- ---- all of them
pub viewed : (id : ℕ) (bs : List Asking) (ds : List logs.DecidedRequest) → AreDecisions id bs ds → view ds ≡ progress bs
viewed id [] ds h = ap view h
viewed id (b ∷ bs) ds h = by (λ es k. viewed id bs es k) b.decision ds h
  where
    by : ((es : List logs.DecidedRequest) → AreDecisions id bs es → view es ≡ progress bs) → (o : Option Decision) (ds : List logs.DecidedRequest) → IsDecision id b o (AreDecisions id bs) ds → view ds ≡ progress_after b.code o (progress bs)
    by f None ds k = f ds k
    by f (Some d) [] k = absurd k
    by f (Some d) (e ∷ ds) k =
        let r : reply_of e.answer ≡ reply_by d.answer = same_reply e.answer.number id d.answer e.answer.message.code e.answer.message.values (k.1).0 in
        let q : told_of e ≡ told_by (event_for b.code) (reply_by d.answer) = ap (λ (n : Note). told_by (event_for n.message.code) (reply_of e.answer)) k.0 ∙ ap (told_by (event_for b.code)) r in
        ap (λ (v : BenchProgress). view_after (told_of e) v) (f ds (k.1).1) ∙ ap (λ (t : _). view_after t (progress bs)) q

pub progress_told : ProgressIsTold
progress_told setup h w ps log run s is slave p = viewed s (asks setup.address slave log) (decided_exchanges w s log) (decisions setup h w ps s is slave p log run)

-- ---- the events that were begun
abbrev one_if : Bool → ℕ
one_if b = if b then 1 else 0

other_reply : (o : Option RowEvent) (v : BenchProgress) → events_counted (view_after (told_by o Otherwise) v) ≡ events_counted v
other_reply (Some Show) v = refl
other_reply (Some Step) v = refl
other_reply (Some Restart) v = refl
other_reply None v = refl

rest_reply : (o : Option RowEvent) (v : BenchProgress) → events_counted (view_after (told_by o AtRest) v) ≡ events_counted v
rest_reply (Some Show) v = refl
rest_reply (Some Step) v = refl
rest_reply (Some Restart) v = refl
rest_reply None v = refl

none_more : (o : Option RowEvent) (n : ℕ) → n ≡ one_if (is_some o && false) + n
none_more None n = omega arith
none_more (Some k) n = omega arith

more : (o : Option RowEvent) (a : Answer) (v : BenchProgress) → events_counted (view_after (told_by o (reply_by a)) v) ≡ one_if (is_some o && is_ack a) + events_counted v
more (Some Show) Ack v = omega arith
more (Some Step) Ack v = omega arith
more (Some Restart) Ack v = omega arith
more None Ack v = none_more None (events_counted v)
more o (Nack code) v = other_reply o v ∙ none_more o (events_counted v)
more o (ErrorAck code) v = other_reply o v ∙ none_more o (events_counted v)
more o LogAck v = other_reply o v ∙ none_more o (events_counted v)
more o (StateAck state) v = by (is_on_its_way state) ∙ none_more o (events_counted v)
  where
    by : (b : Bool) → events_counted (view_after (told_by o (if b then Otherwise else AtRest)) v) ≡ events_counted v
    by true = other_reply o v
    by false = rest_reply o v

one_more : (code : ℕ) (d : Option Decision) (v : BenchProgress) → events_counted (progress_after code d v) ≡ one_if (is_some (event_for code) && is_acked_by d) + events_counted v
one_more code None v = none_more (event_for code) (events_counted v)
one_more code (Some d) v = more (event_for code) d.answer v

pub acknowledged : EventsAreAcknowledged
acknowledged [] = refl
acknowledged (b ∷ bs) = one_more b.code b.decision (progress bs) ∙ ap (λ (n : ℕ). one_if (asks_event b && is_acked b) + n) (acknowledged bs) ∙ sym (sum_by-cons (λ (x : Asking). one_if (asks_event x && is_acked x)) b bs)
