-- What the requests of a log tell that a slave took: its settings, its resets, and whether its outputs are ready. They are read off the master's own requests, and it is the same as what the decided exchanges tell.
use Rattle.std.proofs.Common.{◌≡◌, ℕ, ◌+◌, Bool, true, false, if◌then◌else◌, Option, Some, None, List, [], ◌∷◌, refl, sym, ap, ◌∙◌, subst}
use Rattle.std.specs.Prelude.{◌==◌, ◌&&◌, count_by}
use Rattle.std.proofs.lemmas.Bool.{eqb-true}
use Rattle.std.proofs.lemmas.List.Sums.{sum_by-cons}
use Rattle.pdu_layout.specs.declared.messages.Cfg.{Cfg}
use Rattle.pdu_layout.specs.Fields.{FieldValue}
use Rattle.pdu_layout.specs.Fields.FieldValue.{Number, Bytes}
use Rattle.log_spec.specs.Log as logs
use Rattle.slave_spec.specs.declared.words.Asked.{Asked}
use Rattle.plan_laws.specs.Course.Taken.{asked_in, is_acknowledged, setting_taken, settings_taken, reset_taken, resets_taken, names_initialized, tells_initialized, told_after, told_since}
use Rattle.lockstep_laws.specs.Steps.{events_counted}
use Rattle.master_spec.specs.declared.requests.Answer.{Answer}
use Rattle.master_spec.specs.declared.requests.Answer.TheVariants.{Ack, Nack, StateAck, ErrorAck, LogAck}
use Rattle.master_spec.specs.News.{Answers, Nothing, acks, nacks, state_acks, error_acks, log_acks, hints, news_brought, news_by}
use Rattle.master_spec.specs.Requests.{Asking, Decision, is_ack, is_acked}
use Rattle.master_laws.specs.Hears.Laws.{IsDecision, AreDecisions}
use Rattle.master_laws.specs.Rows.Laws.{asks_event, progress}
use Rattle.master_laws.proofs.Rows.Views.{acknowledged}
use Rattle.master_laws.proofs.PlanOrder.Hearing.{asked_of}

-- the answer names INITIALIZED
abbrev pub names_ready : Answer → Bool
names_ready Ack = false
names_ready (Nack code) = false
names_ready (StateAck state) = state == 7
names_ready (ErrorAck code) = false
names_ready LogAck = false

abbrev pub settings_with : Option Asked → Option Decision → List Cfg → List Cfg
settings_with asked None rest = rest
settings_with asked (Some d) rest = setting_taken asked (is_ack d.answer) rest

abbrev pub settings_by : (id : ℕ) → List Asking → List Cfg
settings_by id [] = []
settings_by id (b ∷ bs) = settings_with (asked_of id b) b.decision (settings_by id bs)

abbrev pub resets_with : Option Asked → Option Decision → ℕ → ℕ
resets_with asked None n = n
resets_with asked (Some d) n = reset_taken asked (is_ack d.answer) n

abbrev pub resets_by : (id : ℕ) → List Asking → ℕ
resets_by id [] = 0
resets_by id (b ∷ bs) = resets_with (asked_of id b) b.decision (resets_by id bs)

abbrev pub ready_with : Option Asked → Option Decision → Bool → Bool
ready_with asked None before = before
ready_with asked (Some d) before = told_after asked (is_ack d.answer) (names_ready d.answer) before

abbrev pub ready_by : (id : ℕ) → List Asking → Bool
ready_by id [] = false
ready_by id (b ∷ bs) = ready_with (asked_of id b) b.decision (ready_by id bs)

-- the row events that were begun
abbrev pub event_count : Asking → ℕ
event_count b = if asks_event b && is_acked b then 1 else 0

abbrev pub events_by : List Asking → ℕ
events_by [] = 0
events_by (b ∷ bs) = event_count b + events_by bs

pub events_are : (bs : List Asking) → events_counted (progress bs) ≡ events_by bs
events_are bs = acknowledged bs ∙ counted bs
  where
    counted : (bs : List Asking) → count_by (λ a. asks_event a && is_acked a) bs ≡ events_by bs
    counted [] = refl
    counted (b ∷ bs) = sum_by-cons (λ (x : Asking). if asks_event x && is_acked x then 1 else 0) b bs ∙ ap (λ (n : ℕ). event_count b + n) (counted bs)

-- ---- an answer is read alike
pub record Alike (code : ℕ) (vs : List FieldValue) (a : Answer) : Type 0 where
  pub ack : (code == 176) ≡ is_ack a
  pub ready : ((code == 178) && names_initialized vs) ≡ names_ready a

module _ (number sender : ℕ) (a : Answer) where
  ack_alike : (vs : List FieldValue) → acks vs ≡ Answers number sender a → Alike 176 vs a
  ack_alike (Number x ∷ Number y ∷ []) h = let z : Ack ≡ a = cc in record { ack = ap is_ack z; ready = ap names_ready z }
  ack_alike _ h = absurd cc

  nack_alike : (vs : List FieldValue) → nacks vs ≡ Answers number sender a → Alike 177 vs a
  nack_alike (Number x ∷ Number y ∷ Number e ∷ Number c ∷ []) h = let z : Nack c ≡ a = cc in record { ack = ap is_ack z; ready = ap names_ready z }
  nack_alike _ h = absurd cc

  state_alike : (vs : List FieldValue) → state_acks vs ≡ Answers number sender a → Alike 178 vs a
  state_alike (Number x ∷ Number y ∷ Number c ∷ []) h = let z : StateAck c ≡ a = cc in record { ack = ap is_ack z; ready = ap names_ready z }
  state_alike _ h = absurd cc

  error_alike : (vs : List FieldValue) → error_acks vs ≡ Answers number sender a → Alike 179 vs a
  error_alike (Number x ∷ Number y ∷ Number c ∷ []) h = let z : ErrorAck c ≡ a = cc in record { ack = ap is_ack z; ready = ap names_ready z }
  error_alike _ h = absurd cc

  log_alike : (vs : List FieldValue) → log_acks vs ≡ Answers number sender a → Alike 180 vs a
  log_alike (Number x ∷ Number y ∷ Bytes c ∷ []) h = let z : LogAck ≡ a = cc in record { ack = ap is_ack z; ready = ap names_ready z }
  log_alike _ h = absurd cc

  no_hint : (vs : List FieldValue) → hints vs ≡ Answers number sender a → ⊥
  no_hint (Number x ∷ Number y ∷ []) h = cc
  no_hint _ h = cc

  no_bring : (vs : List FieldValue) → news_brought vs ≡ Answers number sender a → ⊥
  no_bring (Number x ∷ Number y ∷ Bytes e ∷ []) h = cc
  no_bring _ h = cc

  pub alike : (code : ℕ) (vs : List FieldValue) → news_by code vs ≡ Answers number sender a → Alike code vs a
  alike code vs h = by (code == 176) (code == 177) (code == 178) (code == 179) (code == 180) (code == 224) (code == 240) refl refl refl refl refl h
    where
      at : (k : ℕ) → (code == k) ≡ true → Alike k vs a → Alike code vs a
      at k e r = let P : ℕ → Type 0 = λ i. Alike i vs a in subst P (sym (eqb-true code k e)) r

      by : (b c d e f g k : Bool) → (code == 176) ≡ b → (code == 177) ≡ c → (code == 178) ≡ d → (code == 179) ≡ e → (code == 180) ≡ f
          → (if b then acks vs else if c then nacks vs else if d then state_acks vs else if e then error_acks vs else if f then log_acks vs else if g then hints vs else if k then news_brought vs else Nothing) ≡ Answers number sender a
          → Alike code vs a
      by true c d e f g k p q r t u h = at 176 p (ack_alike vs h)
      by false true d e f g k p q r t u h = at 177 q (nack_alike vs h)
      by false false true e f g k p q r t u h = at 178 r (state_alike vs h)
      by false false false true f g k p q r t u h = at 179 t (error_alike vs h)
      by false false false false true g k p q r t u h = at 180 u (log_alike vs h)
      by false false false false false true k p q r t u h = absurd (no_hint vs h)
      by false false false false false false true p q r t u h = absurd (no_bring vs h)
      by false false false false false false false p q r t u h = absurd cc

-- ---- all of them
pub record AreTaken (id : ℕ) (bs : List Asking) (ds : List logs.DecidedRequest) : Type 0 where
  pub settings : settings_taken ds ≡ settings_by id bs
  pub resets : resets_taken ds ≡ resets_by id bs
  pub ready : told_since ds ≡ ready_by id bs

pub taken : (id : ℕ) (bs : List Asking) (ds : List logs.DecidedRequest) → AreDecisions id bs ds → AreTaken id bs ds
taken id [] ds h = record { settings = ap settings_taken h; resets = ap resets_taken h; ready = ap told_since h }
taken id (b ∷ bs) ds h = let m = after (λ es k. taken id bs es k) b.decision ds h in record { settings = m.0; resets = (m.1).0; ready = (m.1).1 }
  where
    After : Option Decision → List logs.DecidedRequest → Type 0
    After o ds = (settings_taken ds ≡ settings_with (asked_of id b) o (settings_by id bs)) × ((resets_taken ds ≡ resets_with (asked_of id b) o (resets_by id bs)) × (told_since ds ≡ ready_with (asked_of id b) o (ready_by id bs)))

    after : ((es : List logs.DecidedRequest) → AreDecisions id bs es → AreTaken id bs es) → (o : Option Decision) (ds : List logs.DecidedRequest) → IsDecision id b o (AreDecisions id bs) ds → After o ds
    after f None ds k = let m = f ds k in (m.settings, (m.resets, m.ready))
    after f (Some d) [] k = absurd k
    after f (Some d) (e ∷ ds) k =
        let m = f ds (k.1).1 in
        let x = alike e.answer.number id d.answer e.answer.message.code e.answer.message.values (k.1).0 in
        let a : asked_in e.request ≡ asked_of id b = ap asked_in k.0 in (
          ap (λ (o : Option Asked). setting_taken o (is_acknowledged e.answer) (settings_taken ds)) a ∙ ap (λ (t : Bool). setting_taken (asked_of id b) t (settings_taken ds)) x.ack ∙ ap (setting_taken (asked_of id b) (is_ack d.answer)) m.settings,
          (
            ap (λ (o : Option Asked). reset_taken o (is_acknowledged e.answer) (resets_taken ds)) a ∙ ap (λ (t : Bool). reset_taken (asked_of id b) t (resets_taken ds)) x.ack ∙ ap (reset_taken (asked_of id b) (is_ack d.answer)) m.resets,
            ap (λ (o : Option Asked). told_after o (is_acknowledged e.answer) (tells_initialized e.answer) (told_since ds)) a ∙ ap (λ (t : Bool). told_after (asked_of id b) t (tells_initialized e.answer) (told_since ds)) x.ack ∙ ap (λ (t : Bool). told_after (asked_of id b) (is_ack d.answer) t (told_since ds)) x.ready ∙ ap (told_after (asked_of id b) (is_ack d.answer) (names_ready d.answer)) m.ready,
          ),
        )
