-- An answer in bytes has the fields that the master looks for.
use Rattle.std.proofs.Common.{◌≡◌, ℕ, Bool, true, false, if◌then◌else◌, Option, Some, None, List, [], ◌∷◌, length, take, drop, refl, sym, ap, ◌∙◌, subst, arith}
use Rattle.std.specs.Prelude.{◌==◌, ◌&&◌, nat_lt, nat_le, option_map}
use Rattle.std.specs.List.{list_all}
use Rattle.std.proofs.lemmas.Bool.{eqb-true}
use Rattle.std.proofs.lemmas.Bool.Decides.{nat_tests}
use Rattle.pdu_layout.specs.declared.fields.FieldKind.{FieldKind}
use Rattle.pdu_layout.specs.declared.fields.FieldKind.TheVariants.{U8, U16, StateCode, Rest}
use Rattle.pdu_layout.specs.Fields.{FieldValue, type_after}
use Rattle.pdu_layout.specs.Fields.FieldValue.{Number, Bytes}
use Rattle.pdu_layout.specs.Table.{kinds_for}
use Rattle.pdu_layout.specs.Message.{Message}
use Rattle.pdu_layout.specs.Reading.{number, fields_in, message_with, message_in}
use Rattle.log_spec.specs.Messages.{Note, Answer, Class, Asking, Answering, Carrying, Noting, between, is_request_code, class_of, role_by, role_read}
use Rattle.master_spec.specs.declared.requests.Answer as heard
use Rattle.master_spec.specs.declared.requests.Answer.TheVariants.{Ack, Nack, StateAck, ErrorAck, LogAck}
use Rattle.master_spec.specs.News.{Answers, news_by, news_in}
use Rattle.master_laws.specs.Hears.Laws.{AnswersAreHeard}

-- ---- the fields one by one
pub record Cut (v : FieldValue) (ks : List FieldKind) (vs : List FieldValue) : Type 0 where
  pub rest : List FieldValue
  pub t : ℕ
  pub bytes : List ℕ
  pub is : vs ≡ v ∷ rest
  pub more : fields_in ks t bytes ≡ Some rest

cut : (c : Bool) (v : FieldValue) (ks : List FieldKind) (t : ℕ) (bytes : List ℕ) (vs : List FieldValue) → (if c then option_map (λ rest. v ∷ rest) (fields_in ks t bytes) else None) ≡ Some vs → Cut v ks vs
cut c v ks t bytes vs h = by c (fields_in ks t bytes) refl h
  where
    by : (c : Bool) (o : Option (List FieldValue)) → fields_in ks t bytes ≡ o → (if c then option_map (λ rest. v ∷ rest) o else None) ≡ Some vs → Cut v ks vs
    by true (Some rest) e h = let z : v ∷ rest ≡ vs = cc in record { rest = rest; t = t; bytes = bytes; is = sym z; more = e }
    by true None e h = absurd cc
    by false o e h = absurd cc

abbrev CutNumber : List FieldKind → List FieldValue → Type 0
CutNumber ks vs = (x : ℕ) × Cut (Number x) ks vs

cut_u16 : (ks : List FieldKind) (t : ℕ) (bytes : List ℕ) (vs : List FieldValue) → fields_in (U16 ∷ ks) t bytes ≡ Some vs → CutNumber ks vs
cut_u16 ks t bytes vs h = (number (take 2 bytes), cut (nat_le 2 (length bytes) && true) (Number (number (take 2 bytes))) ks (type_after U16 t (take 2 bytes)) (drop 2 bytes) vs h)

cut_u8 : (ks : List FieldKind) (t : ℕ) (bytes : List ℕ) (vs : List FieldValue) → fields_in (U8 ∷ ks) t bytes ≡ Some vs → CutNumber ks vs
cut_u8 ks t bytes vs h = (number (take 1 bytes), cut (nat_le 1 (length bytes) && true) (Number (number (take 1 bytes))) ks (type_after U8 t (take 1 bytes)) (drop 1 bytes) vs h)

cut_state : (ks : List FieldKind) (t : ℕ) (bytes : List ℕ) (vs : List FieldValue) → fields_in (StateCode ∷ ks) t bytes ≡ Some vs → CutNumber ks vs
cut_state ks t bytes vs h = (number (take 1 bytes), cut (nat_le 1 (length bytes) && nat_lt (number (take 1 bytes)) 19) (Number (number (take 1 bytes))) ks (type_after StateCode t (take 1 bytes)) (drop 1 bytes) vs h)

cut_rest : (ks : List FieldKind) (t : ℕ) (bytes : List ℕ) (vs : List FieldValue) → fields_in (Rest ∷ ks) t bytes ≡ Some vs → (x : List ℕ) × Cut (Bytes x) ks vs
cut_rest ks t bytes vs h = (take (length bytes) bytes, cut (nat_le (length bytes) (length bytes) && true) (Bytes (take (length bytes) bytes)) ks (type_after Rest t (take (length bytes) bytes)) (drop (length bytes) bytes) vs h)

no_more : (t : ℕ) (bytes : List ℕ) (vs : List FieldValue) → fields_in [] t bytes ≡ Some vs → vs ≡ []
no_more t [] vs h = let z : [] ≡ vs = cc in sym z
no_more t (b ∷ bytes) vs h = absurd cc

-- ---- by the code
abbrev Heard : ℕ → List FieldValue → Message → ℕ → Note → Type 0
Heard code vs m sender n = (m ≡ n.message) × ((a : heard.Answer) × (news_by code vs ≡ Answers n.number sender a))

told_as : (code x y : ℕ) (rest vs : List FieldValue) (m : Message) (sender : ℕ) (n : Note) (a : heard.Answer) → vs ≡ Number x ∷ Number y ∷ rest → news_by code (Number x ∷ Number y ∷ rest) ≡ Answers x y a → role_by Answering vs m ≡ Answer sender n → Heard code vs m sender n
told_as code x y rest vs m sender n a e f r =
    let z : Answer y (record { number = x; message = m }) ≡ Answer sender n = sym (ap (λ (v : List FieldValue). role_by Answering v m) e) ∙ r in
    let p : y ≡ sender = cc in
    let q : record { number = x; message = m } ≡ n = cc in
    (ap (λ (k : Note). k.message) q, (a, ap (news_by code) e ∙ f ∙ ap (λ (i : ℕ). Answers x i a) p ∙ ap (λ (k : Note). Answers k.number sender a) q))

abbrev At : ℕ → Type 0
At code = (ks : List FieldKind) (bytes : List ℕ) (vs : List FieldValue) (m : Message) (sender : ℕ) (n : Note) → kinds_for code ≡ Some ks → fields_in ks 0 bytes ≡ Some vs → role_by Answering vs m ≡ Answer sender n → Heard code vs m sender n

same_kinds : (js ks : List FieldKind) (bytes : List ℕ) (vs : List FieldValue) → Some js ≡ Some ks → fields_in ks 0 bytes ≡ Some vs → fields_in js 0 bytes ≡ Some vs
same_kinds js ks bytes vs e f = let z : js ≡ ks = cc in ap (λ (l : List FieldKind). fields_in l 0 bytes) z ∙ f

-- the number and the sender, and what comes after them
pub record Twice (ks : List FieldKind) (vs : List FieldValue) : Type 0 where
  pub x : ℕ
  pub y : ℕ
  pub rest : List FieldValue
  pub t : ℕ
  pub bytes : List ℕ
  pub is : vs ≡ Number x ∷ Number y ∷ rest
  pub more : fields_in ks t bytes ≡ Some rest

twice : (ks : List FieldKind) (bytes : List ℕ) (vs : List FieldValue) → fields_in (U16 ∷ U8 ∷ ks) 0 bytes ≡ Some vs → Twice ks vs
twice ks bytes vs h =
    let a = cut_u16 (U8 ∷ ks) 0 bytes vs h in
    let b = cut_u8 ks (a.1).t (a.1).bytes (a.1).rest (a.1).more in
    record { x = a.0; y = b.0; rest = (b.1).rest; t = (b.1).t; bytes = (b.1).bytes; is = (a.1).is ∙ ap (λ (l : List FieldValue). Number a.0 ∷ l) (b.1).is; more = (b.1).more }

at_ack : At 176
at_ack ks bytes vs m sender n k f r =
    let c = twice [] bytes vs (same_kinds (U16 ∷ U8 ∷ []) ks bytes vs k f) in
    let z = c.is ∙ ap (λ (l : List FieldValue). Number c.x ∷ Number c.y ∷ l) (no_more c.t c.bytes c.rest c.more) in
    told_as 176 c.x c.y [] vs m sender n Ack z refl r

at_nack : At 177
at_nack ks bytes vs m sender n k f r =
    let c = twice (U16 ∷ U16 ∷ []) bytes vs (same_kinds (U16 ∷ U8 ∷ U16 ∷ U16 ∷ []) ks bytes vs k f) in
    let d = cut_u16 (U16 ∷ []) c.t c.bytes c.rest c.more in
    let e = cut_u16 [] (d.1).t (d.1).bytes (d.1).rest (d.1).more in
    let g : c.rest ≡ Number d.0 ∷ Number e.0 ∷ [] = (d.1).is ∙ ap (λ (l : List FieldValue). Number d.0 ∷ l) ((e.1).is ∙ ap (λ (l : List FieldValue). Number e.0 ∷ l) (no_more (e.1).t (e.1).bytes (e.1).rest (e.1).more)) in
    told_as 177 c.x c.y (Number d.0 ∷ Number e.0 ∷ []) vs m sender n (Nack e.0) (c.is ∙ ap (λ (l : List FieldValue). Number c.x ∷ Number c.y ∷ l) g) refl r

at_state : At 178
at_state ks bytes vs m sender n k f r =
    let c = twice (StateCode ∷ []) bytes vs (same_kinds (U16 ∷ U8 ∷ StateCode ∷ []) ks bytes vs k f) in
    let d = cut_state [] c.t c.bytes c.rest c.more in
    let g : c.rest ≡ Number d.0 ∷ [] = (d.1).is ∙ ap (λ (l : List FieldValue). Number d.0 ∷ l) (no_more (d.1).t (d.1).bytes (d.1).rest (d.1).more) in
    told_as 178 c.x c.y (Number d.0 ∷ []) vs m sender n (StateAck d.0) (c.is ∙ ap (λ (l : List FieldValue). Number c.x ∷ Number c.y ∷ l) g) refl r

at_error : At 179
at_error ks bytes vs m sender n k f r =
    let c = twice (U16 ∷ []) bytes vs (same_kinds (U16 ∷ U8 ∷ U16 ∷ []) ks bytes vs k f) in
    let d = cut_u16 [] c.t c.bytes c.rest c.more in
    let g : c.rest ≡ Number d.0 ∷ [] = (d.1).is ∙ ap (λ (l : List FieldValue). Number d.0 ∷ l) (no_more (d.1).t (d.1).bytes (d.1).rest (d.1).more) in
    told_as 179 c.x c.y (Number d.0 ∷ []) vs m sender n (ErrorAck d.0) (c.is ∙ ap (λ (l : List FieldValue). Number c.x ∷ Number c.y ∷ l) g) refl r

at_log : At 180
at_log ks bytes vs m sender n k f r =
    let c = twice (Rest ∷ []) bytes vs (same_kinds (U16 ∷ U8 ∷ Rest ∷ []) ks bytes vs k f) in
    let d = cut_rest [] c.t c.bytes c.rest c.more in
    let g : c.rest ≡ Bytes d.0 ∷ [] = (d.1).is ∙ ap (λ (l : List FieldValue). Bytes d.0 ∷ l) (no_more (d.1).t (d.1).bytes (d.1).rest (d.1).more) in
    told_as 180 c.x c.y (Bytes d.0 ∷ []) vs m sender n LogAck (c.is ∙ ap (λ (l : List FieldValue). Number c.x ∷ Number c.y ∷ l) g) refl r

five : (code : ℕ) → between 176 180 code ≡ true → (code == 176) ≡ false → (code == 177) ≡ false → (code == 178) ≡ false → (code == 179) ≡ false → (code == 180) ≡ false → ⊥
five code h a b c d e = grind (arith, nat_tests)

in_range : (code : ℕ) → class_of code ≡ Answering → between 176 180 code ≡ true
in_range code h = by (is_request_code code) (between 176 180 code) (code == 240) h
  where
    by : (a b c : Bool) → (if a then Asking else (if b then Answering else (if c then Carrying else Noting))) ≡ Answering → b ≡ true
    by true b c h = absurd cc
    by false true c h = refl
    by false false true h = absurd cc
    by false false false h = absurd cc

at_code : (code : ℕ) → class_of code ≡ Answering → At code
at_code code h = by (code == 176) (code == 177) (code == 178) (code == 179) (code == 180) refl refl refl refl refl
  where
    by : (a b c d e : Bool) → (code == 176) ≡ a → (code == 177) ≡ b → (code == 178) ≡ c → (code == 179) ≡ d → (code == 180) ≡ e → At code
    by true b c d e p q r t u = let P : ℕ → Type 0 = λ i. At i in subst P (sym (eqb-true code 176 p)) at_ack
    by false true c d e p q r t u = let P : ℕ → Type 0 = λ i. At i in subst P (sym (eqb-true code 177 q)) at_nack
    by false false true d e p q r t u = let P : ℕ → Type 0 = λ i. At i in subst P (sym (eqb-true code 178 r)) at_state
    by false false false true e p q r t u = let P : ℕ → Type 0 = λ i. At i in subst P (sym (eqb-true code 179 t)) at_error
    by false false false false true p q r t u = let P : ℕ → Type 0 = λ i. At i in subst P (sym (eqb-true code 180 u)) at_log
    by false false false false false p q r t u = absurd (five code (in_range code h) p q r t u)

-- ---- the message in bytes
pub record Shape (m : Message) : Type 0 where
  pub kinds : List FieldKind
  pub bytes : List ℕ
  pub listed : kinds_for m.code ≡ Some kinds
  pub fields : fields_in kinds 0 bytes ≡ Some m.values

with_shape : (code : ℕ) (bytes : List ℕ) (o : Option (List FieldKind)) (m : Message) → kinds_for code ≡ o → message_with code bytes o ≡ Some m → Shape m
with_shape code bytes None m k h = absurd cc
with_shape code bytes (Some ks) m k h = by (fields_in ks 0 bytes) refl h
  where
    by : (o : Option (List FieldValue)) → fields_in ks 0 bytes ≡ o → option_map (λ fields. record { code = code; values = fields }) o ≡ Some m → Shape m
    by None e q = absurd cc
    by (Some vs) e q =
        let same : record { code = code; values = vs } ≡ m = cc in
        let P : Message → Type 0 = Shape in
        subst P same (record { kinds = ks; bytes = bytes; listed = k; fields = e })

shape : (b : List ℕ) (m : Message) → message_in b ≡ Some m → Shape m
unfolding message_in
shape [] m h = absurd cc
shape (code ∷ bytes) m h = by (list_all (λ b. nat_lt b 256) (code ∷ bytes) && nat_le (length (code ∷ bytes)) 1024) h
  where
    by : (c : Bool) → (if c then message_with code bytes (kinds_for code) else None) ≡ Some m → Shape m
    by true q = with_shape code bytes (kinds_for code) m refl q
    by false q = absurd cc

answering : (c : Class) (vs : List FieldValue) (m : Message) (sender : ℕ) (n : Note) → role_by c vs m ≡ Answer sender n → c ≡ Answering
answering Answering vs m sender n h = refl
answering Asking (Number x ∷ Number y ∷ vs) m sender n h = absurd cc
answering Carrying (Number x ∷ Number y ∷ vs) m sender n h = absurd cc
answering _ _ m sender n h = absurd cc

pub answers_heard : AnswersAreHeard
answers_heard bytes sender n h = by (message_in bytes) refl h
  where
    by : (o : Option Message) → message_in bytes ≡ o → role_read o ≡ Answer sender n → (o ≡ Some n.message) × ((a : heard.Answer) × (news_in (Some n.message) ≡ Answers n.number sender a))
    by None e r = absurd cc
    by (Some m) e r =
        let s = shape bytes m e in
        let c = answering (class_of m.code) m.values m sender n r in
        let z = at_code m.code c s.kinds s.bytes m.values m sender n s.listed s.fields (sym (ap (λ (k : Class). role_by k m.values m) c) ∙ r) in
        (ap (λ (k : Message). Some k) z.0, ((z.1).0, sym (ap (λ (k : Message). news_in (Some k)) z.0) ∙ (z.1).1))
