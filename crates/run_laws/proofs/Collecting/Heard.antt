-- A datagram that brings outputs is a data message in the words of the laws over a run.
use Rattle.std.proofs.Common.{◌≡◌, ℕ, Bool, true, false, if◌then◌else◌, Option, Some, None, List, [], ◌∷◌, refl, ap, ◌∙◌}
use Rattle.std.specs.Prelude.{◌==◌}
use Rattle.std.proofs.lemmas.Bool.{and_parts, eqb-true}
use Rattle.dcp_types.specs.declared.addresses.Address.{Address}
use Rattle.dcp_ends.specs.Logs.{same_address}
use Rattle.pdu_layout.specs.Fields.{FieldValue}
use Rattle.pdu_layout.specs.Fields.FieldValue.{Number, Bytes}
use Rattle.pdu_layout.specs.Message.{Message}
use Rattle.pdu_layout.specs.Reading.{message_in}
use Rattle.log_spec.specs.Messages.{Note, Value, role_read}
use Rattle.master_spec.specs.News.{Brings, acks, nacks, state_acks, error_acks, log_acks, hints, news_brought, Nothing, news_by, news_in, news_of}

-- a data message, and what the laws note of it
abbrev pub outputs_message : (number id : ℕ) → List ℕ → Message
outputs_message number id payload = record { code = 240; values = Number number ∷ Number id ∷ Bytes payload ∷ [] }

abbrev pub outputs_note : (number id : ℕ) → List ℕ → Note
outputs_note number id payload = record { number = number; message = outputs_message number id payload }

module _ (number id : ℕ) (payload : List ℕ) where
  acks_none : (vs : List FieldValue) → acks vs ≡ Brings number id payload → ⊥
  acks_none (Number x ∷ Number y ∷ []) h = cc
  acks_none _ h = cc

  nacks_none : (vs : List FieldValue) → nacks vs ≡ Brings number id payload → ⊥
  nacks_none (Number x ∷ Number y ∷ Number e ∷ Number c ∷ []) h = cc
  nacks_none _ h = cc

  states_none : (vs : List FieldValue) → state_acks vs ≡ Brings number id payload → ⊥
  states_none (Number x ∷ Number y ∷ Number e ∷ []) h = cc
  states_none _ h = cc

  errors_none : (vs : List FieldValue) → error_acks vs ≡ Brings number id payload → ⊥
  errors_none (Number x ∷ Number y ∷ Number e ∷ []) h = cc
  errors_none _ h = cc

  logs_none : (vs : List FieldValue) → log_acks vs ≡ Brings number id payload → ⊥
  logs_none (Number x ∷ Number y ∷ Bytes e ∷ []) h = cc
  logs_none _ h = cc

  hints_none : (vs : List FieldValue) → hints vs ≡ Brings number id payload → ⊥
  hints_none (Number x ∷ Number y ∷ []) h = cc
  hints_none _ h = cc

  brings_three : (vs : List FieldValue) → news_brought vs ≡ Brings number id payload → vs ≡ Number number ∷ Number id ∷ Bytes payload ∷ []
  brings_three (Number x ∷ Number y ∷ Bytes e ∷ []) h =
      let p : x ≡ number = cc in
      let q : y ≡ id = cc in
      let r : e ≡ payload = cc in
      ap (λ (z : ℕ). Number z ∷ Number y ∷ Bytes e ∷ []) p ∙ ap (λ (z : ℕ). Number number ∷ Number z ∷ Bytes e ∷ []) q ∙ ap (λ (z : List ℕ). Number number ∷ Number id ∷ Bytes z ∷ []) r
  brings_three _ h = absurd cc

  news_three : (code : ℕ) (vs : List FieldValue) → news_by code vs ≡ Brings number id payload → (code ≡ 240) × (vs ≡ Number number ∷ Number id ∷ Bytes payload ∷ [])
  news_three code vs h = by (code == 176) (code == 177) (code == 178) (code == 179) (code == 180) (code == 224) (code == 240) refl h
    where
      by : (b c d e f g k : Bool) → (code == 240) ≡ k
          → (if b then acks vs else if c then nacks vs else if d then state_acks vs else if e then error_acks vs else if f then log_acks vs else if g then hints vs else if k then news_brought vs else Nothing) ≡ Brings number id payload
          → (code ≡ 240) × (vs ≡ Number number ∷ Number id ∷ Bytes payload ∷ [])
      by true c d e f g k p h = absurd (acks_none vs h)
      by false true d e f g k p h = absurd (nacks_none vs h)
      by false false true e f g k p h = absurd (states_none vs h)
      by false false false true f g k p h = absurd (errors_none vs h)
      by false false false false true g k p h = absurd (logs_none vs h)
      by false false false false false true k p h = absurd (hints_none vs h)
      by false false false false false false true p h = (eqb-true code 240 p, brings_three vs h)
      by false false false false false false false p h = absurd cc

  read_three : (o : Option Message) → news_in o ≡ Brings number id payload → o ≡ Some (outputs_message number id payload)
  read_three None h = absurd cc
  read_three (Some m) h =
      let z = news_three m.code m.values h in
      ap (λ (c : ℕ). Some (record { code = c; values = m.values })) z.0 ∙ ap (λ (vs : List FieldValue). Some (record { code = 240; values = vs })) z.1

  pub outputs_role : (bytes : List ℕ) → news_of bytes ≡ Brings number id payload → role_read (message_in bytes) ≡ Value id (outputs_note number id payload)
  unfolding news_of
  outputs_role bytes h = ap role_read (read_three (message_in bytes) h)

-- ---- addresses
pub same_is : (a b : Address) → same_address a b ≡ true → a ≡ b
same_is a b h =
    let p = and_parts (a.ip == b.ip) (a.port == b.port) h in
    let x : a.ip ≡ b.ip = eqb-true a.ip b.ip p.0 in
    let y : a.port ≡ b.port = eqb-true a.port b.port p.1 in
    ap (λ (i : ℕ). record { ip = i; port = a.port }) x ∙ ap (λ (i : ℕ). record { ip = b.ip; port = i }) y
