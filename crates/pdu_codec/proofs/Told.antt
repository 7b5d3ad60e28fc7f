-- What bytes say is what they spell, and what is spelled are bytes.
use Rattle.std.proofs.Common.{◌≡◌, ℕ, zero, suc, ◌/◌, ◌%◌, ◌<◌, nat_lt, Bool, true, cond, eqb, List, [], ◌∷◌, reverse, Some, None, Ok, Err, refl, ap, sym, subst, ◌∙◌, inl, inr, arith}
use Rattle.std.specs.Prelude.{◌↔◌, Result, IfOk, IfErr, MatchResult}
use Rattle.std.specs.List.{list_all}
use Rattle.std.proofs.lemmas.Bool.{and_parts, cases_Bool, eqb-true, lt-ltb, ltb-true}
use Rattle.std.proofs.lemmas.List.Folds.{list_all-append}
use Rattle.dcp_types.specs.Values as values
use Rattle.dcp_types.specs.Values.{digits, residue}
use Rattle.dcp_types.proofs.Digits.{IsBytes}
use Rattle.pdu_layout.specs.declared.fields.FieldKind.{FieldKind}
use Rattle.pdu_layout.specs.declared.fields.FieldKind.TheVariants.{I64, Value, Uuid, Rest}
use Rattle.pdu_layout.specs.declared.messages.Pdu.{Pdu}
use Rattle.pdu_layout.specs.Fields.{FieldValue, Fits, FitEach, bytes_of, spelled, type_after, type_from}
use Rattle.pdu_layout.specs.Fields.FieldValue.{Number, Signed, Bytes}
use Rattle.pdu_layout.specs.Table.{Row, table, row_in, kinds_in}
use Rattle.pdu_layout.specs.Message.{Message, Spells, HasSpelling, message_of}
use Rattle.pdu_layout.specs.Reading.{message_in, spelling, spelling_with}
use Rattle.pdu_codec.specs.declared.faults.DecodeFault.{DecodeFault}
use Rattle.pdu_codec.specs.Refusals.{Refusal}
use Rattle.pdu_codec.proofs.Digits.{IsBytes-reverse}
use Rattle.pdu_codec.proofs.ReadBack.{all_bytes, cond_some, read_back, read_spells, unread}

-- ---- what is spelled are bytes

abbrev are_bytes : List ℕ → Bool
are_bytes x = list_all (λ b. nat_lt b 256) x

tested : (x : List ℕ) → are_bytes x ≡ true → IsBytes x
tested [] e i = omega arith
tested (b ∷ x) e zero = ltb-true b 256 (and_parts (nat_lt b 256) (are_bytes x) e).0
tested (b ∷ x) e (suc i) = tested x (and_parts (nat_lt b 256) (are_bytes x) e).1 i

digits_pass : (w n : ℕ) → are_bytes (digits w n) ≡ true
unfolding digits
digits_pass zero n = refl
digits_pass (suc w) n =
    let low : n % 256 < 256 = omega arith in
    rw (lt-ltb (n % 256) 256 low, digits_pass w (n / 256)) refl

field_pass : (k : FieldKind) (t : ℕ) (v : FieldValue) → Fits k t v → are_bytes (bytes_of k t v) ≡ true
field_pass Uuid t (Number n) f = all_bytes (reverse (digits 16 n)) (IsBytes-reverse (digits 16 n) (tested (digits 16 n) (digits_pass 16 n)))
field_pass k t (Number n) f = digits_pass _ n
field_pass I64 t (Signed z) f = digits_pass 8 (residue 8 z)
field_pass Value t (Signed z) f = digits_pass (values.width (type_from t)) (residue (values.width (type_from t)) z)
field_pass k t (Signed z) f = absurd f
field_pass Rest t (Bytes x) f = all_bytes x f
field_pass k t (Bytes x) f = absurd f

fields_pass : (ks : List FieldKind) (t : ℕ) (vs : List FieldValue) → FitEach ks t vs → are_bytes (spelled ks t vs) ≡ true
fields_pass [] t [] f = refl
fields_pass [] t (v ∷ vs) f = absurd f
fields_pass (k ∷ ks) t [] f = absurd f
fields_pass (k ∷ ks) t (v ∷ vs) f =
    let here = bytes_of k t v in
    list_all-append (λ b. nat_lt b 256) here (spelled ks (type_after k t here) vs) ∙ rw (field_pass k t v f.0, fields_pass ks (type_after k t here) vs f.1) refl

codes_pass : (rows : List Row) (c : ℕ) (ks : List FieldKind) → list_all (λ r. nat_lt r.code 256) rows ≡ true → kinds_in (row_in rows c) ≡ Some ks → nat_lt c 256 ≡ true
codes_pass [] c ks e f = absurd cc
codes_pass (r ∷ rows) c ks e f =
    let p = and_parts (nat_lt r.code 256) (list_all (λ r. nat_lt r.code 256) rows) e in
    elim (cases_Bool (eqb r.code c)) [
      | inl same ↦ subst (λ (n : ℕ). nat_lt n 256 ≡ true) (eqb-true r.code c same) p.0
      | inr other ↦
          let g : kinds_in (cond (eqb r.code c) (Some r) (row_in rows c)) ≡ Some ks = f in
          let h = rw other at g in
          codes_pass rows c ks p.1 h
    ]

pub spelled_bytes : (m : Message) (b : List ℕ) → Spells m b → IsBytes b
spelled_bytes m b s =
    let code : nat_lt m.code 256 ≡ true = codes_pass table m.code s.kinds refl s.listed in
    let all : are_bytes (m.code ∷ spelled s.kinds 0 m.values) ≡ true = rw (code, fields_pass s.kinds 0 m.values s.fits) refl in
    subst IsBytes (sym s.bytes) (tested (m.code ∷ spelled s.kinds 0 m.values) all)

read_bytes : (m : Message) (b : List ℕ) → message_in b ≡ Some m → IsBytes b
unfolding message_in
read_bytes m [] e = absurd cc
read_bytes m (code ∷ x) e =
    let p = cond_some _ _ m e in
    tested (code ∷ x) (and_parts (are_bytes (code ∷ x)) _ p.0).0

-- ---- both ways

pub read_as_spelled : (m : Message) (b : List ℕ) → (message_in b ≡ Some m) ↔ Spells m b
read_as_spelled m b = (λ e. read_spells m b (read_bytes m b e) e, λ s. read_back m b (spelled_bytes m b s) s)

pub spelling_is : (m : Message) (b : List ℕ) → Spells m b → b ≡ spelling m
unfolding spelling
spelling_is m b s = s.bytes ∙ sym (ap (spelling_with m) s.listed)

pub has_spelling : (m : Message) → HasSpelling m → Spells m (spelling m)
has_spelling m h = subst (Spells m) (spelling_is m h.0 h.1) h.1

-- ---- what reading answers

pub told : (b : List ℕ) (r : Result Pdu DecodeFault) → IsBytes b → IfOk r (λ p. Spells (message_of p) b) → IfErr r (λ fault. Refusal b fault.at fault.why)
    → MatchResult r (λ p. message_in b ≡ Some (message_of p)) (λ fault. message_in b ≡ None)
told b (Ok p) h spells refused = read_back (message_of p) b h spells
told b (Err fault) h spells refused = unread b h refused.unspelled
