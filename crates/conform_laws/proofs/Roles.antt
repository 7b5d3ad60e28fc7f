-- How a run reads what a slave sends: what a message is follows from its code.
use Rattle.std.proofs.Common.{◌≡◌, ℕ, Bool, true, false, if◌then◌else◌, Option, Some, None, List, [], ◌∷◌, refl, sym, ap, ◌∙◌, subst}
use Rattle.std.specs.Prelude.{◌&&◌, nat_lt, nat_le, length, option_map}
use Rattle.std.specs.List.{list_all}
use Rattle.pdu_layout.specs.declared.fields.FieldKind.{FieldKind}
use Rattle.pdu_layout.specs.Fields.{FieldValue, spelled}
use Rattle.pdu_layout.specs.Fields.FieldValue.{Number, Signed, Bytes}
use Rattle.pdu_layout.specs.Table.{kinds_for}
use Rattle.pdu_layout.specs.Message.{Message}
use Rattle.pdu_layout.specs.Reading.{fields_in, message_with, message_in, spelling_with, spelling}
use Rattle.log_spec.specs.Messages.{Role, Request, Answer, Value, Else, Class, Asking, Answering, Carrying, Noting, class_of, role_by, role_read}
use Rattle.log_spec.specs.Log.{Parties, role_heard}
use Rattle.slave_laws.specs.Talk.Sends.{ReadsMessages}

-- ---- the code of what is read

-- a message that is made of fields has the code that it is made with
made_so : (code : ℕ) (o : Option (List FieldValue)) (p : Message) → option_map (λ fields. record { code = code; values = fields }) o ≡ Some p → p.code ≡ code
made_so code None p h = absurd cc
made_so code (Some vs) p h = let e : record { code = code; values = vs } ≡ p = cc in sym (ap (λ (m : Message). m.code) e)

-- so has what is read of the fields of a code
with_code : (code : ℕ) (bytes : List ℕ) (o : Option (List FieldKind)) (p : Message) → message_with code bytes o ≡ Some p → p.code ≡ code
with_code code bytes None p h = absurd cc
with_code code bytes (Some ks) p h = made_so code (fields_in ks 0 bytes) p h

-- what is read has the first byte as its code
first_is_code : (code : ℕ) (bytes : List ℕ) (p : Message) → message_in (code ∷ bytes) ≡ Some p → p.code ≡ code
unfolding message_in
first_is_code code bytes p h = by (list_all (λ b. nat_lt b 256) (code ∷ bytes) && nat_le (length (code ∷ bytes)) 1024) h
  where
    by : (b : Bool) → (if b then message_with code bytes (kinds_for code) else None) ≡ Some p → p.code ≡ code
    by true k = with_code code bytes (kinds_for code) p k
    by false k = absurd cc

-- no bytes spell no message
nothing_read : (p : Message) → message_in [] ≡ Some p → ⊥
unfolding message_in
nothing_read p h = cc

-- what is read of a message's bytes has its code
read_code : (m p : Message) → message_in (spelling m) ≡ Some p → p.code ≡ m.code
unfolding spelling
read_code m p h = by (kinds_for m.code) h
  where
    by : (o : Option (List FieldKind)) → message_in (spelling_with m o) ≡ Some p → p.code ≡ m.code
    by None k = absurd (nothing_read p k)
    by (Some ks) k = first_is_code m.code (spelled ks 0 m.values) p k

-- ---- the part that it has in a run

-- neither a request nor an answer
abbrev pub IsAside : Role → Type 0
IsAside (Request receiver n) = ⊥
IsAside (Answer sender n) = ⊥
IsAside (Value id n) = Unit {0}
IsAside Else = Unit {0}

-- what a message of a class may be
abbrev pub IsOfClass : Class → Role → Type 0
IsOfClass Asking k = Unit {0}
IsOfClass Answering (Request receiver n) = ⊥
IsOfClass Answering k = Unit {0}
IsOfClass Carrying k = IsAside k
IsOfClass Noting k = IsAside k

-- what a message is follows from its class
role_fits : (c : Class) (vs : List FieldValue) (m : Message) → IsOfClass c (role_by c vs m)
role_fits Asking vs m = tt
role_fits Answering (Number a ∷ Number b ∷ vs) m = tt
role_fits Answering (Number a ∷ Signed b ∷ vs) m = tt
role_fits Answering (Number a ∷ Bytes b ∷ vs) m = tt
role_fits Answering (Number a ∷ []) m = tt
role_fits Answering (Signed a ∷ vs) m = tt
role_fits Answering (Bytes a ∷ vs) m = tt
role_fits Answering [] m = tt
role_fits Carrying (Number a ∷ Number b ∷ vs) m = tt
role_fits Carrying (Number a ∷ Signed b ∷ vs) m = tt
role_fits Carrying (Number a ∷ Bytes b ∷ vs) m = tt
role_fits Carrying (Number a ∷ []) m = tt
role_fits Carrying (Signed a ∷ vs) m = tt
role_fits Carrying (Bytes a ∷ vs) m = tt
role_fits Carrying [] m = tt
role_fits Noting vs m = tt

-- what is no message is of any class
none_fits : (c : Class) → IsOfClass c Else
none_fits Asking = tt
none_fits Answering = tt
none_fits Carrying = tt
none_fits Noting = tt

-- a message that was spelled is read as one of its class
pub spelled_fits : (w : Parties) → ReadsMessages w → (m : Message) (c : Class) → class_of m.code ≡ c → IsOfClass c (role_heard w (spelling m))
spelled_fits w rd m c e = subst (λ (o : Option Message). IsOfClass c (role_read o)) (sym (rd (spelling m))) (by (message_in (spelling m)) refl)
  where
    by : (o : Option Message) → message_in (spelling m) ≡ o → IsOfClass c (role_read o)
    by None h = none_fits c
    by (Some p) h =
        let f : class_of p.code ≡ c = ap class_of (read_code m p h) ∙ e in
        subst (λ (k : Class). IsOfClass c (role_by k p.values p)) (sym f) (role_fits c p.values p)
