-- The reading word by word gives a message exactly where each word says a value that has room, and else the rule that is broken first.
use Rattle.std.proofs.Common.{◌≡◌, ◌⊎◌, inl, inr, ℕ, ◌-◌, Bool, true, false, MatchBool, cond, List, [], ◌∷◌, Option, Some, None, Result, Ok, Err, refl, sym, ap, ◌∙◌, subst}
use Rattle.std.specs.Str.{is_utf8}
use Rattle.pdu_layout.specs.Fields.{FieldValue}
use Rattle.pdu_layout.specs.Table.{FieldRow, Row, row_of}
use Rattle.pdu_layout.specs.Message.{Message}
use Rattle.pdu_text.specs.Reasons.{◌>>=◌}
use Rattle.pdu_text.specs.Words.{field_said, size_of, type_said}
use Rattle.pdu_text.specs.Lines.{first_words, goes_on, code_named}
use Rattle.pdu_text.specs.Machine.{SayInRoom}
use Rattle.pdu_text.specs.Refusals.{Breaks, BreaksRow, BreaksCode, BreaksLine, RefusedFor}
use Rattle.pdu_text.specs.Machine.{fields_said, row_said, code_said, line_said, text_said}
use Rattle.pdu_text.specs.declared.reasons.PduTextWhy.{PduTextWhy}
use Rattle.pdu_text.specs.declared.reasons.PduTextWhy.TheVariants.{NotUtf8, UnknownKey, Words}

pub bind_ok : {A B : Type 0} (r : Result A PduTextWhy) (f : A → Result B PduTextWhy) (y : B) → (r >>= f) ≡ Ok y → (x : A) × (r ≡ Ok x) × (f x ≡ Ok y)
bind_ok (Ok x) f y e = (x, refl, e)
bind_ok (Err w) f y e = cc

pub bind_err : {A B : Type 0} (r : Result A PduTextWhy) (f : A → Result B PduTextWhy) (w : PduTextWhy) → (r >>= f) ≡ Err w → (r ≡ Err w) ⊎ ((x : A) × (r ≡ Ok x) × (f x ≡ Err w))
bind_err (Ok x) f w e = inr (x, refl, e)
bind_err (Err v) f w e = inl (cc)

abbrev values_ok : List FieldValue → Result (List FieldValue) PduTextWhy
values_ok vs = Ok vs

abbrev values_bad : PduTextWhy → Result (List FieldValue) PduTextWhy
values_bad why = Err why

abbrev message_ok : Message → Result Message PduTextWhy
message_ok p = Ok p

abbrev message_bad : PduTextWhy → Result Message PduTextWhy
message_bad why = Err why

same_values : (vs us : List FieldValue) → values_ok vs ≡ values_ok us → vs ≡ us
same_values vs us e = cc

same_message : (p q : Message) → message_ok p ≡ message_ok q → p ≡ q
same_message p q e = cc

same_why : (v w : PduTextWhy) → values_bad v ≡ values_bad w → w ≡ v
same_why v w e = cc

same_cause : (v w : PduTextWhy) → message_bad v ≡ message_bad w → w ≡ v
same_cause v w e = cc

values_never : (vs : List FieldValue) (why : PduTextWhy) → values_ok vs ≡ Err why → ⊥
values_never vs why e = cc

-- the end of the fields and of the words
end_said : (more : Bool) (room t : ℕ) (vs : List FieldValue) → cond more (values_bad Words) (values_ok []) ≡ values_ok vs → SayInRoom [] room t [] vs × (more ≡ false)
end_said true room t vs e = cc
end_said false room t [] e = (tt, refl)
end_said false room t (v ∷ vs) e = cc

end_breaks : (more : Bool) (why : PduTextWhy) → cond more (values_bad Words) (values_ok []) ≡ values_bad why → (more ≡ true) × (why ≡ Words)
end_breaks true why e = (refl, same_why Words why e)
end_breaks false why e = cc

pub said_each : (fs : List FieldRow) (room t : ℕ) (more : Bool) (ws : List (List ℕ)) (vs : List FieldValue) → fields_said fs room t more ws ≡ Ok vs → SayInRoom fs room t ws vs × (more ≡ false)
said_each [] room t more [] vs e = end_said more room t vs e
said_each [] room t more (w ∷ ws) vs e = cc
said_each (f ∷ fs) room t more [] vs e = cc
said_each (f ∷ fs) room t more (w ∷ ws) vs e =
    let a = bind_ok (field_said f room t w) (λ v. fields_said fs (room - size_of f.kind t v) (type_said f.kind t v) more ws >>= λ others. Ok (v ∷ others)) vs e in
    let b = bind_ok (fields_said fs (room - size_of f.kind t a.0) (type_said f.kind t a.0) more ws) (λ others. Ok (a.0 ∷ others)) vs a.2 in
    let rest = said_each fs (room - size_of f.kind t a.0) (type_said f.kind t a.0) more ws b.0 b.1 in
    subst (λ (us : List FieldValue). SayInRoom (f ∷ fs) room t (w ∷ ws) us × (more ≡ false)) (same_values (a.0 ∷ b.0) vs b.2) ((a.1, rest.0), rest.1)

pub each_said : (fs : List FieldRow) (room t : ℕ) (more : Bool) (ws : List (List ℕ)) (vs : List FieldValue) → SayInRoom fs room t ws vs → more ≡ false → fields_said fs room t more ws ≡ Ok vs
each_said [] room t more [] [] h off = ap (λ b. cond b (values_bad Words) (values_ok [])) off
each_said [] room t more [] (v ∷ vs) h off = absurd h
each_said [] room t more (w ∷ ws) vs h off = absurd h
each_said (f ∷ fs) room t more [] vs h off = absurd h
each_said (f ∷ fs) room t more (w ∷ ws) [] h off = absurd h
each_said (f ∷ fs) room t more (w ∷ ws) (v ∷ vs) h off =
    ap (λ r. r >>= λ x. fields_said fs (room - size_of f.kind t x) (type_said f.kind t x) more ws >>= λ others. values_ok (x ∷ others)) h.0
    ∙ ap (λ r. r >>= λ others. values_ok (v ∷ others)) (each_said fs (room - size_of f.kind t v) (type_said f.kind t v) more ws vs h.1 off)

pub err_breaks : (fs : List FieldRow) (room t : ℕ) (more : Bool) (ws : List (List ℕ)) (why : PduTextWhy) → fields_said fs room t more ws ≡ Err why → Breaks fs room t more ws why
err_breaks [] room t more [] why e = end_breaks more why e
err_breaks [] room t more (w ∷ ws) why e = same_why Words why e
err_breaks (f ∷ fs) room t more [] why e = same_why Words why e
err_breaks (f ∷ fs) room t more (w ∷ ws) why e =
    elim (bind_err (field_said f room t w) (λ v. fields_said fs (room - size_of f.kind t v) (type_said f.kind t v) more ws >>= λ others. Ok (v ∷ others)) why e) [
      | inl bad ↦ inl bad
      | inr a ↦ inr (a.0, a.1, later f fs room t more ws why a.0 a.2 (err_breaks fs (room - size_of f.kind t a.0) (type_said f.kind t a.0) more ws why))
    ]
  where
    later : (f : FieldRow) (fs : List FieldRow) (room t : ℕ) (more : Bool) (ws : List (List ℕ)) (why : PduTextWhy) (v : FieldValue) → (fields_said fs (room - size_of f.kind t v) (type_said f.kind t v) more ws >>= λ others. values_ok (v ∷ others)) ≡ Err why → (fields_said fs (room - size_of f.kind t v) (type_said f.kind t v) more ws ≡ Err why → Breaks fs (room - size_of f.kind t v) (type_said f.kind t v) more ws why) → Breaks fs (room - size_of f.kind t v) (type_said f.kind t v) more ws why
    later f fs room t more ws why v e go =
        elim (bind_err (fields_said fs (room - size_of f.kind t v) (type_said f.kind t v) more ws) (λ others. values_ok (v ∷ others)) why e) [
          | inl bad ↦ go bad
          | inr b ↦ absurd (values_never (v ∷ b.0) why b.2)
        ]

pub breaks_err : (fs : List FieldRow) (room t : ℕ) (more : Bool) (ws : List (List ℕ)) (why : PduTextWhy) → Breaks fs room t more ws why → fields_said fs room t more ws ≡ Err why
breaks_err [] room t more [] why h = ap (λ b. cond b (values_bad Words) (values_ok [])) h.0 ∙ ap values_bad (sym h.1)
breaks_err [] room t more (w ∷ ws) why h = ap values_bad (sym h)
breaks_err (f ∷ fs) room t more [] why h = ap values_bad (sym h)
breaks_err (f ∷ fs) room t more (w ∷ ws) why (inl bad) =
    ap (λ r. r >>= λ x. fields_said fs (room - size_of f.kind t x) (type_said f.kind t x) more ws >>= λ others. values_ok (x ∷ others)) bad
breaks_err (f ∷ fs) room t more (w ∷ ws) why (inr a) =
    ap (λ r. r >>= λ x. fields_said fs (room - size_of f.kind t x) (type_said f.kind t x) more ws >>= λ others. values_ok (x ∷ others)) a.1
    ∙ ap (λ r. r >>= λ others. values_ok (a.0 ∷ others)) (breaks_err fs (room - size_of f.kind t a.0) (type_said f.kind t a.0) more ws why a.2)

-- a message's row
row_ok : (o : Option Row) (row : Row) (more : Bool) (ws : List (List ℕ)) (vs : List FieldValue) → o ≡ Some row → SayInRoom row.fields 1023 0 ws vs → more ≡ false → row_said o more ws ≡ Ok vs
row_ok o row more ws vs e h off = ap (λ x. row_said x more ws) e ∙ each_said row.fields 1023 0 more ws vs h off

ok_row : (o : Option Row) (more : Bool) (ws : List (List ℕ)) (vs : List FieldValue) → row_said o more ws ≡ Ok vs → (row : Row) × (o ≡ Some row) × SayInRoom row.fields 1023 0 ws vs × (more ≡ false)
ok_row None more ws vs e = cc
ok_row (Some row) more ws vs e = let t = said_each row.fields 1023 0 more ws vs e in (row, refl, t.0, t.1)

row_err : (o : Option Row) (more : Bool) (ws : List (List ℕ)) (why : PduTextWhy) → BreaksRow o more ws why → row_said o more ws ≡ Err why
row_err None more ws why h = ap values_bad (sym h)
row_err (Some row) more ws why h = breaks_err row.fields 1023 0 more ws why h

err_row : (o : Option Row) (more : Bool) (ws : List (List ℕ)) (why : PduTextWhy) → row_said o more ws ≡ Err why → BreaksRow o more ws why
err_row None more ws why e = same_why UnknownKey why e
err_row (Some row) more ws why e = err_breaks row.fields 1023 0 more ws why e

-- a message's type code
code_ok : (o : Option ℕ) (p : Message) (more : Bool) (ws : List (List ℕ)) → o ≡ Some p.code → row_said (row_of p.code) more ws ≡ Ok p.values → code_said o more ws ≡ Ok p
code_ok o p more ws e h = ap (λ x. code_said x more ws) e ∙ ap (λ r. r >>= λ values. message_ok (record { code = p.code; values = values })) h

ok_code : (o : Option ℕ) (p : Message) (more : Bool) (ws : List (List ℕ)) → code_said o more ws ≡ Ok p → (o ≡ Some p.code) × (row_said (row_of p.code) more ws ≡ Ok p.values)
ok_code None p more ws e = cc
ok_code (Some code) p more ws e =
    let t = bind_ok (row_said (row_of code) more ws) (λ values. message_ok (record { code = code; values = values })) p e in
    subst (λ (q : Message). (option_code code ≡ Some q.code) × (row_said (row_of q.code) more ws ≡ Ok q.values)) (same_message (record { code = code; values = t.0 }) p t.2) (refl, t.1)
  where
    option_code : ℕ → Option ℕ
    option_code code = Some code

code_err : (o : Option ℕ) (more : Bool) (ws : List (List ℕ)) (why : PduTextWhy) → BreaksCode o more ws why → code_said o more ws ≡ Err why
code_err None more ws why h = ap message_bad (sym h)
code_err (Some code) more ws why h = ap (λ r. r >>= λ values. message_ok (record { code = code; values = values })) (row_err (row_of code) more ws why h)

err_code : (o : Option ℕ) (more : Bool) (ws : List (List ℕ)) (why : PduTextWhy) → code_said o more ws ≡ Err why → BreaksCode o more ws why
err_code None more ws why e = same_cause UnknownKey why e
err_code (Some code) more ws why e =
    elim (bind_err (row_said (row_of code) more ws) (λ values. message_ok (record { code = code; values = values })) why e) [
      | inl bad ↦ err_row (row_of code) more ws why bad
      | inr t ↦ absurd (never (record { code = code; values = t.0 }) why t.2)
    ]
  where
    never : (p : Message) (why : PduTextWhy) → message_ok p ≡ Err why → ⊥
    never p why e = cc

line_err : (more : Bool) (ws : List (List ℕ)) (why : PduTextWhy) → BreaksLine more ws why → line_said more ws ≡ Err why
line_err more [] why h = ap message_bad (sym h)
line_err more (name ∷ ws) why h = code_err (code_named name) more ws why h

err_line : (more : Bool) (ws : List (List ℕ)) (why : PduTextWhy) → line_said more ws ≡ Err why → BreaksLine more ws why
err_line more [] why e = same_cause Words why e
err_line more (name ∷ ws) why e = err_code (code_named name) more ws why e

abbrev told : Bool → Bool → List (List ℕ) → Result Message PduTextWhy
told utf8 more ws = cond utf8 (line_said more ws) (message_bad NotUtf8)

text_err : (utf8 more : Bool) (ws : List (List ℕ)) (why : PduTextWhy) → MatchBool utf8 (BreaksLine more ws why) (why ≡ NotUtf8) → told utf8 more ws ≡ Err why
text_err true more ws why h = line_err more ws why h
text_err false more ws why h = ap message_bad (sym h)

err_text : (utf8 more : Bool) (ws : List (List ℕ)) (why : PduTextWhy) → told utf8 more ws ≡ Err why → MatchBool utf8 (BreaksLine more ws why) (why ≡ NotUtf8)
err_text true more ws why e = err_line more ws why e
err_text false more ws why e = same_cause NotUtf8 why e

ok_line : (more : Bool) (ws : List (List ℕ)) (p : Message) → line_said more ws ≡ Ok p → (name : List ℕ) × (given : List (List ℕ)) × (ws ≡ name ∷ given) × (code_named name ≡ Some p.code) × (row_said (row_of p.code) more given ≡ Ok p.values)
ok_line more [] p e = cc
ok_line more (name ∷ ws) p e = let t = ok_code (code_named name) p more ws e in (name, ws, refl, t.0, t.1)

ok_text : (utf8 more : Bool) (ws : List (List ℕ)) (p : Message) → told utf8 more ws ≡ Ok p → (utf8 ≡ true) × (line_said more ws ≡ Ok p)
ok_text true more ws p e = (refl, e)
ok_text false more ws p e = cc

pub refused_said : (text : List ℕ) (why : PduTextWhy) → RefusedFor text why → text_said text ≡ Err why
refused_said text why h = text_err (is_utf8 text) (goes_on text) (first_words text) why h

pub said_refused : (text : List ℕ) (why : PduTextWhy) → text_said text ≡ Err why → RefusedFor text why
said_refused text why e = err_text (is_utf8 text) (goes_on text) (first_words text) why e

-- the text reads as the message, and at each word the message has room
pub record ReadsInRoom (text : List ℕ) (p : Message) : Type 0 where
  pub name : List ℕ
  pub given : List (List ℕ)
  pub row : Row
  pub utf8 : is_utf8 text ≡ true
  pub line : first_words text ≡ name ∷ given
  pub named : code_named name ≡ Some p.code
  pub listed : row_of p.code ≡ Some row
  pub said : SayInRoom row.fields 1023 0 given p.values
  pub alone : goes_on text ≡ false

pub in_room_said : (text : List ℕ) (p : Message) → ReadsInRoom text p → text_said text ≡ Ok p
in_room_said text p h =
    ap (λ b. told b (goes_on text) (first_words text)) h.utf8
    ∙ ap (λ ws. line_said (goes_on text) ws) h.line
    ∙ code_ok (code_named h.name) p (goes_on text) h.given h.named (row_ok (row_of p.code) h.row (goes_on text) h.given p.values h.listed h.said h.alone)

pub said_in_room : (text : List ℕ) (p : Message) → text_said text ≡ Ok p → ReadsInRoom text p
said_in_room text p e =
    let t = ok_text (is_utf8 text) (goes_on text) (first_words text) p e in
    let l = ok_line (goes_on text) (first_words text) p t.1 in
    let r = ok_row (row_of p.code) (goes_on text) l.1 p.values l.4 in
    record { name = l.0; given = l.1; row = r.0; utf8 = t.0; line = l.2; named = l.3; listed = r.1; said = r.2; alone = r.3 }
