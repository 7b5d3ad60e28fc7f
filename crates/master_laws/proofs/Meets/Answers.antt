-- What the master hears as an answer is one in the words of the laws over a run.
use Rattle.std.proofs.Common.{◌≡◌, ℕ, Bool, true, false, if◌then◌else◌, Option, Some, None, List, [], ◌∷◌, refl, ap, ◌∙◌}
use Rattle.std.specs.Prelude.{◌==◌}
use Rattle.std.proofs.lemmas.Bool.{eqb-true}
use Rattle.pdu_layout.specs.Fields.{FieldValue}
use Rattle.pdu_layout.specs.Fields.FieldValue.{Number, Bytes}
use Rattle.pdu_layout.specs.Message.{Message}
use Rattle.log_spec.specs.Messages.{Note, Answer, Class, Answering, class_of, role_by, role_read}
use Rattle.master_spec.specs.declared.requests.Answer as heard
use Rattle.master_spec.specs.News.{Answers, acks, nacks, state_acks, error_acks, log_acks, hints, news_brought, Nothing, news_by, news_in}

abbrev pub Twos : List FieldValue → (number sender : ℕ) → Type 0
Twos vs number sender = (rest : List FieldValue) × (vs ≡ Number number ∷ Number sender ∷ rest)

module _ (number sender : ℕ) (a : heard.Answer) where
  two : (x y : ℕ) (b : heard.Answer) (rest : List FieldValue) → Answers x y b ≡ Answers number sender a → Twos (Number x ∷ Number y ∷ rest) number sender
  two x y b rest h =
      let p : x ≡ number = cc in
      let q : y ≡ sender = cc in
      (rest, ap (λ (z : ℕ). Number z ∷ Number y ∷ rest) p ∙ ap (λ (z : ℕ). Number number ∷ Number z ∷ rest) q)

  acks_two : (vs : List FieldValue) → acks vs ≡ Answers number sender a → Twos vs number sender
  acks_two (Number x ∷ Number y ∷ []) h = two x y _ [] h
  acks_two _ h = absurd cc

  nacks_two : (vs : List FieldValue) → nacks vs ≡ Answers number sender a → Twos vs number sender
  nacks_two (Number x ∷ Number y ∷ Number e ∷ Number c ∷ []) h = two x y _ (Number e ∷ Number c ∷ []) h
  nacks_two _ h = absurd cc

  states_two : (vs : List FieldValue) → state_acks vs ≡ Answers number sender a → Twos vs number sender
  states_two (Number x ∷ Number y ∷ Number e ∷ []) h = two x y _ (Number e ∷ []) h
  states_two _ h = absurd cc

  errors_two : (vs : List FieldValue) → error_acks vs ≡ Answers number sender a → Twos vs number sender
  errors_two (Number x ∷ Number y ∷ Number e ∷ []) h = two x y _ (Number e ∷ []) h
  errors_two _ h = absurd cc

  logs_two : (vs : List FieldValue) → log_acks vs ≡ Answers number sender a → Twos vs number sender
  logs_two (Number x ∷ Number y ∷ Bytes e ∷ []) h = two x y _ (Bytes e ∷ []) h
  logs_two _ h = absurd cc

  hints_none : (vs : List FieldValue) → hints vs ≡ Answers number sender a → ⊥
  hints_none (Number x ∷ Number y ∷ []) h = cc
  hints_none _ h = cc

  brings_none : (vs : List FieldValue) → news_brought vs ≡ Answers number sender a → ⊥
  brings_none (Number x ∷ Number y ∷ Bytes e ∷ []) h = cc
  brings_none _ h = cc

  news_two : (code : ℕ) (vs : List FieldValue) → news_by code vs ≡ Answers number sender a → Twos vs number sender × (class_of code ≡ Answering)
  news_two code vs h = by (code == 176) (code == 177) (code == 178) (code == 179) (code == 180) (code == 224) (code == 240) refl refl refl refl refl h
    where
      by : (b c d e f g k : Bool) → (code == 176) ≡ b → (code == 177) ≡ c → (code == 178) ≡ d → (code == 179) ≡ e → (code == 180) ≡ f
          → (if b then acks vs else if c then nacks vs else if d then state_acks vs else if e then error_acks vs else if f then log_acks vs else if g then hints vs else if k then news_brought vs else Nothing) ≡ Answers number sender a
          → Twos vs number sender × (class_of code ≡ Answering)
      by true c d e f g k p q r t u h = (acks_two vs h, ap class_of (eqb-true code 176 p))
      by false true d e f g k p q r t u h = (nacks_two vs h, ap class_of (eqb-true code 177 q))
      by false false true e f g k p q r t u h = (states_two vs h, ap class_of (eqb-true code 178 r))
      by false false false true f g k p q r t u h = (errors_two vs h, ap class_of (eqb-true code 179 t))
      by false false false false true g k p q r t u h = (logs_two vs h, ap class_of (eqb-true code 180 u))
      by false false false false false true k p q r t u h = absurd (hints_none vs h)
      by false false false false false false true p q r t u h = absurd (brings_none vs h)
      by false false false false false false false p q r t u h = absurd cc

  -- an answer of this sender under this number
  pub answer_role : (o : Option Message) → news_in o ≡ Answers number sender a → (n : Note) × ((role_read o ≡ Answer sender n) × (n.number ≡ number))
  answer_role None h = absurd cc
  answer_role (Some m) h =
      let z = news_two m.code m.values h in
      (record { number = number; message = m }, (ap (λ (c : Class). role_by c m.values m) z.1 ∙ ap (λ (vs : List FieldValue). role_by Answering vs m) (z.0).1, refl))
