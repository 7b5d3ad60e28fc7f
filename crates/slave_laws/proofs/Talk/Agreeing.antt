-- Both readings of a datagram agree: its part in a run, and what the slave hears.
use Rattle.std.proofs.Common.{◌≡◌, ℕ, zero, suc, ◌<◌, Bool, true, false, if◌then◌else◌, ◌⊎◌, inl, inr, Option, Some, None, List, [], ◌∷◌, length, map, take, drop, refl, sym, ap, ◌∙◌, subst, arith}
use Rattle.std.specs.Prelude.{◌==◌, ◌&&◌, ◌||◌, nat_lt, nat_le, option_map}
use Rattle.std.specs.List.{list_all}
use Rattle.std.proofs.lemmas.Bool.{and_parts}
use Rattle.std.proofs.lemmas.Bool.Decides.{nat_tests}
use Rattle.pdu_layout.specs.declared.fields.FieldKind.{FieldKind}
use Rattle.pdu_layout.specs.declared.fields.FieldKind.TheVariants.{U8, U16}
use Rattle.pdu_layout.specs.Fields.{FieldValue}
use Rattle.pdu_layout.specs.Fields.FieldValue.{Number}
use Rattle.pdu_layout.specs.Table.{Row, table, row_in, kinds_in, kinds_for}
use Rattle.pdu_layout.specs.Message.{Message}
use Rattle.pdu_layout.specs.Reading.{number, fields_in, message_with, message_in}
use Rattle.log_spec.specs.Messages.{Note, Role, Request, Answer, Value, Else, Class, Asking, Answering, Carrying, Noting, between, is_request_code, class_of, role_by, role_of, role_read}
use Rattle.lockstep_laws.specs.Steps.{Show, Step, Restart}
use Rattle.dcp_types.specs.declared.states.State.{State}
use Rattle.slave_spec.specs.declared.words.Asked.{Asked}
use Rattle.slave_spec.specs.declared.words.Asked.TheVariants.{Change, Setting, Question}
use Rattle.slave_spec.specs.Heard as spec
use Rattle.slave_laws.specs.Talk.Plants.{event_wanted}
use Rattle.slave_laws.specs.Talk.Desks.{Agree}

-- ---- how a layout begins
begins : Class → List FieldKind → Bool
begins Asking (U16 ∷ U8 ∷ ks) = true
begins Answering (U16 ∷ U8 ∷ ks) = true
begins Carrying (U16 ∷ U16 ∷ ks) = true
begins Noting ks = true
begins _ _ = false

row_begins : Row → Bool
unfolding begins
row_begins r = begins (class_of r.code) (map (λ f. f.kind) r.fields)

all_begin : list_all row_begins table ≡ true
unfolding row_begins begins
all_begin = refl

begins_in : (rows : List Row) (c : ℕ) (ks : List FieldKind) → list_all row_begins rows ≡ true → kinds_in (row_in rows c) ≡ Some ks → begins (class_of c) ks ≡ true
unfolding row_begins begins
begins_in [] c ks all h = absurd cc
begins_in (r ∷ rows) c ks all h = by (λ a k. begins_in rows c ks a k) (r.code == c) refl h
  where
    parts : (row_begins r ≡ true) × (list_all row_begins rows ≡ true)
    parts = and_parts (row_begins r) (list_all row_begins rows) all

    by : (list_all row_begins rows ≡ true → kinds_in (row_in rows c) ≡ Some ks → begins (class_of c) ks ≡ true) → (b : Bool) → (r.code == c) ≡ b → kinds_in (if b then Some r else row_in rows c) ≡ Some ks → begins (class_of c) ks ≡ true
    by f true e k =
        let same : map (λ f. f.kind) r.fields ≡ ks = cc in
        let code : r.code ≡ c = grind (arith, nat_tests, e) in
        let P : ℕ → List FieldKind → Type 0 = λ i l. begins (class_of i) l ≡ true in
        subst (λ i. P i ks) code (subst (λ l. P r.code l) same parts.0)
    by f false e k = f parts.1 k

kinds_begin : (c : ℕ) (ks : List FieldKind) → kinds_for c ≡ Some ks → begins (class_of c) ks ≡ true
kinds_begin c ks h = begins_in table c ks all_begin h

-- ---- the first fields
one_more : (c : Bool) (f : List FieldValue → List FieldValue) (o : Option (List FieldValue)) (vs : List FieldValue) → (if c then option_map f o else None) ≡ Some vs → (rest : List FieldValue) × (o ≡ Some rest) × (vs ≡ f rest)
one_more true f (Some rest) vs h = (rest, refl, cc)
one_more true f None vs h = absurd cc
one_more false f o vs h = absurd cc

number_small : (bytes : List ℕ) → list_all (λ b. nat_lt b 256) bytes ≡ true → number (take 2 bytes) < 65536
number_small [] h = omega arith
number_small (a ∷ []) h = grind (arith, nat_tests)
number_small (a ∷ b ∷ bytes) h = grind (arith, nat_tests)

-- two numbers, the first of sixteen bits
pub record Begins (vs : List FieldValue) : Type 0 where
  pub first : ℕ
  pub second : ℕ
  pub more : List FieldValue
  pub is : vs ≡ Number first ∷ Number second ∷ more
  pub small : first < 65536

requests_begin : (ks : List FieldKind) (bytes : List ℕ) (vs : List FieldValue) → list_all (λ b. nat_lt b 256) bytes ≡ true → fields_in (U16 ∷ U8 ∷ ks) 0 bytes ≡ Some vs → Begins vs
requests_begin ks bytes vs all h =
    let a = one_more (nat_le 2 (length bytes) && true) (λ rest. Number (number (take 2 bytes)) ∷ rest) (fields_in (U8 ∷ ks) 0 (drop 2 bytes)) vs h in
    let b = one_more (nat_le 1 (length (drop 2 bytes)) && true) (λ rest. Number (number (take 1 (drop 2 bytes))) ∷ rest) (fields_in ks 0 (drop 1 (drop 2 bytes))) a.0 a.1 in
    record { first = number (take 2 bytes); second = number (take 1 (drop 2 bytes)); more = b.0; is = a.2 ∙ ap (λ l. Number (number (take 2 bytes)) ∷ l) b.2; small = number_small bytes all }

data_begins : (ks : List FieldKind) (bytes : List ℕ) (vs : List FieldValue) → list_all (λ b. nat_lt b 256) bytes ≡ true → fields_in (U16 ∷ U16 ∷ ks) 0 bytes ≡ Some vs → Begins vs
data_begins ks bytes vs all h =
    let a = one_more (nat_le 2 (length bytes) && true) (λ rest. Number (number (take 2 bytes)) ∷ rest) (fields_in (U16 ∷ ks) 0 (drop 2 bytes)) vs h in
    let b = one_more (nat_le 2 (length (drop 2 bytes)) && true) (λ rest. Number (number (take 2 (drop 2 bytes))) ∷ rest) (fields_in ks 0 (drop 2 (drop 2 bytes))) a.0 a.1 in
    record { first = number (take 2 bytes); second = number (take 2 (drop 2 bytes)); more = b.0; is = a.2 ∙ ap (λ l. Number (number (take 2 bytes)) ∷ l) b.2; small = number_small bytes all }

abbrev HasNumbers : Class → List FieldValue → Type 0
HasNumbers Asking vs = Begins vs
HasNumbers Answering vs = Begins vs
HasNumbers Carrying vs = Begins vs
HasNumbers Noting vs = Unit {0}

class_begins : (c : Class) (ks : List FieldKind) (bytes : List ℕ) (vs : List FieldValue) → begins c ks ≡ true → list_all (λ b. nat_lt b 256) bytes ≡ true → fields_in ks 0 bytes ≡ Some vs → HasNumbers c vs
unfolding begins
class_begins Asking (U16 ∷ U8 ∷ ks) bytes vs b all h = requests_begin ks bytes vs all h
class_begins Answering (U16 ∷ U8 ∷ ks) bytes vs b all h = requests_begin ks bytes vs all h
class_begins Carrying (U16 ∷ U16 ∷ ks) bytes vs b all h = data_begins ks bytes vs all h
class_begins Noting ks bytes vs b all h = tt
class_begins _ _ bytes vs b all h = absurd cc

-- ---- by the class
request_code : (code : ℕ) → class_of code ≡ Asking → is_request_code code ≡ true
request_code code h = grind (arith, nat_tests)

-- which of four a code picks
pick_change : (x y z : spec.Heard) (u : spec.Heard) (code : ℕ) → between 1 10 code ≡ true → (if nat_lt code 32 then x else (if nat_lt code 128 then y else (if nat_lt code 176 then z else u))) ≡ x
pick_change x y z u code h = grind (arith, nat_tests)

pick_setting : (x y z : spec.Heard) (u : spec.Heard) (code : ℕ) → between 32 43 code ≡ true → (if nat_lt code 32 then x else (if nat_lt code 128 then y else (if nat_lt code 176 then z else u))) ≡ y
pick_setting x y z u code h = grind (arith, nat_tests)

pick_question : (x y z : spec.Heard) (u : spec.Heard) (code : ℕ) → between 128 130 code ≡ true → (if nat_lt code 32 then x else (if nat_lt code 128 then y else (if nat_lt code 176 then z else u))) ≡ z
pick_question x y z u code h = grind (arith, nat_tests)

pick_answer : (x y z v : spec.Heard) (code : ℕ) → class_of code ≡ Answering → (if nat_lt code 32 then x else (if nat_lt code 128 then y else (if nat_lt code 176 then z else (if code == 240 then v else spec.Nothing)))) ≡ spec.Nothing
pick_answer x y z v code h = grind (arith, nat_tests)

pick_data : (x y z v : spec.Heard) (code : ℕ) → class_of code ≡ Carrying → (if nat_lt code 32 then x else (if nat_lt code 128 then y else (if nat_lt code 176 then z else (if code == 240 then v else spec.Nothing)))) ≡ v
pick_data x y z v code h = grind (arith, nat_tests)

-- the events of the ten changes of state
change_event : (code : ℕ) (named : State) (vs : List FieldValue) → between 1 10 code ≡ true → (if code == 8 then Some Show else (if code == 7 then Some Step else (if code == 10 then Some Restart else None))) ≡ event_wanted (Change named (spec.stc_of code vs))
change_event zero named vs h = absurd cc
change_event (suc zero) named vs h = refl
change_event (suc (suc zero)) named vs h = refl
change_event (suc (suc (suc zero))) named vs h = refl
change_event (suc (suc (suc (suc zero)))) named vs h = refl
change_event (suc (suc (suc (suc (suc zero))))) named vs h = refl
change_event (suc (suc (suc (suc (suc (suc zero)))))) named vs h = refl
change_event (suc (suc (suc (suc (suc (suc (suc zero))))))) named vs h = refl
change_event (suc (suc (suc (suc (suc (suc (suc (suc zero)))))))) named vs h = refl
change_event (suc (suc (suc (suc (suc (suc (suc (suc (suc zero))))))))) named vs h = refl
change_event (suc (suc (suc (suc (suc (suc (suc (suc (suc (suc zero)))))))))) named vs h = refl
change_event (suc (suc (suc (suc (suc (suc (suc (suc (suc (suc (suc code))))))))))) named vs h = absurd (past code h)
  where
    past : (code : ℕ) → between 1 10 (suc (suc (suc (suc (suc (suc (suc (suc (suc (suc (suc code))))))))))) ≡ true → ⊥
    past code h = grind (arith, nat_tests)

no_event : (low high code : ℕ) → 10 < low → between low high code ≡ true → (if code == 8 then Some Show else (if code == 7 then Some Step else (if code == 10 then Some Restart else None))) ≡ None
no_event low high code lt h = grind (arith, nat_tests)

one_of : (a b c : Bool) → (a || (b || c)) ≡ true → (a ≡ true) ⊎ ((b ≡ true) ⊎ (c ≡ true))
one_of true b c h = inl refl
one_of false true c h = inr (inl refl)
one_of false false c h = inr (inr h)

-- what a request's code makes the slave hear
asks_by : (code : ℕ) (vs : List FieldValue) → is_request_code code ≡ true → (a : Asked) × (spec.heard_in code vs ≡ spec.heard_asking vs a) × ((if code == 8 then Some Show else (if code == 7 then Some Step else (if code == 10 then Some Restart else None))) ≡ event_wanted a)
asks_by code vs h = by (one_of (between 1 10 code) (between 32 43 code) (between 128 130 code) h)
  where
    change : spec.Heard
    change = spec.heard_asking vs (Change (spec.state_from (spec.number_at 2 vs)) (spec.stc_of code vs))

    setting : spec.Heard
    setting = spec.heard_asking vs (Setting (spec.cfg_of code vs))

    question : spec.Heard
    question = spec.heard_asking vs (Question (spec.inf_of code vs))

    rest : spec.Heard
    rest = if code == 240 then spec.Brings (spec.number_at 0 vs) (spec.number_at 1 vs) (spec.bytes_at 2 vs) else spec.Nothing

    by : (between 1 10 code ≡ true) ⊎ ((between 32 43 code ≡ true) ⊎ (between 128 130 code ≡ true)) → (a : Asked) × (spec.heard_in code vs ≡ spec.heard_asking vs a) × ((if code == 8 then Some Show else (if code == 7 then Some Step else (if code == 10 then Some Restart else None))) ≡ event_wanted a)
    by (inl b) = (Change (spec.state_from (spec.number_at 2 vs)) (spec.stc_of code vs), pick_change change setting question rest code b, change_event code (spec.state_from (spec.number_at 2 vs)) vs b)
    by (inr (inl b)) = (Setting (spec.cfg_of code vs), pick_setting change setting question rest code b, no_event 32 43 code (omega arith) b)
    by (inr (inr b)) = (Question (spec.inf_of code vs), pick_question change setting question rest code b, no_event 128 130 code (omega arith) b)

noting_hears : (x y z v : spec.Heard) (code : ℕ) → class_of code ≡ Noting → nat_le 176 code ≡ true → (if nat_lt code 32 then x else (if nat_lt code 128 then y else (if nat_lt code 176 then z else (if code == 240 then v else spec.Nothing)))) ≡ spec.Nothing
noting_hears x y z v code h l = grind (arith, nat_tests)

-- ---- a message
class_agrees : (m : Message) (c : Class) → class_of m.code ≡ c → HasNumbers c m.values → (c ≡ Noting → nat_le 176 m.code ≡ true) → Agree (role_by c m.values m) (spec.heard_in m.code m.values)
class_agrees m Asking e b late =
    let a = asks_by m.code m.values (request_code m.code e) in
    let P : Role → spec.Heard → Type 0 = Agree in
    let k : Note = record { number = b.first; message = m } in
    let part : role_by Asking m.values m ≡ Request b.second k = ap (λ vs. role_by Asking vs m) b.is in
    let hears : spec.heard_in m.code m.values ≡ spec.Asks (record { number = b.first; receiver = b.second; asked = a.0 }) = a.1 ∙ ap (λ vs. spec.heard_asking vs a.0) b.is in
    subst (λ p. P p (spec.heard_in m.code m.values)) (sym part) (subst (λ h. P (Request b.second k) h) (sym hears) (refl, b.small, hears, a.2))
class_agrees m Answering e b late =
    let P : Role → spec.Heard → Type 0 = Agree in
    let part : role_by Answering m.values m ≡ Answer b.second (record { number = b.first; message = m }) = ap (λ vs. role_by Answering vs m) b.is in
    let hears : spec.heard_in m.code m.values ≡ spec.Nothing = pick_answer (spec.heard_asking m.values (Change (spec.state_from (spec.number_at 2 m.values)) (spec.stc_of m.code m.values))) (spec.heard_asking m.values (Setting (spec.cfg_of m.code m.values))) (spec.heard_asking m.values (Question (spec.inf_of m.code m.values))) (spec.Brings (spec.number_at 0 m.values) (spec.number_at 1 m.values) (spec.bytes_at 2 m.values)) m.code e in
    subst (λ p. P p (spec.heard_in m.code m.values)) (sym part) (subst (λ h. P (Answer b.second (record { number = b.first; message = m })) h) (sym hears) tt)
class_agrees m Carrying e b late =
    let P : Role → spec.Heard → Type 0 = Agree in
    let part : role_by Carrying m.values m ≡ Value b.second (record { number = b.first; message = m }) = ap (λ vs. role_by Carrying vs m) b.is in
    let brings = spec.Brings (spec.number_at 0 m.values) (spec.number_at 1 m.values) (spec.bytes_at 2 m.values) in
    let hears : spec.heard_in m.code m.values ≡ brings = pick_data (spec.heard_asking m.values (Change (spec.state_from (spec.number_at 2 m.values)) (spec.stc_of m.code m.values))) (spec.heard_asking m.values (Setting (spec.cfg_of m.code m.values))) (spec.heard_asking m.values (Question (spec.inf_of m.code m.values))) brings m.code e in
    subst (λ p. P p (spec.heard_in m.code m.values)) (sym part) (subst (λ h. P (Value b.second (record { number = b.first; message = m })) h) (sym hears) tt)
class_agrees m Noting e b late =
    let P : Role → spec.Heard → Type 0 = Agree in
    let hears : spec.heard_in m.code m.values ≡ spec.Nothing = noting_hears (spec.heard_asking m.values (Change (spec.state_from (spec.number_at 2 m.values)) (spec.stc_of m.code m.values))) (spec.heard_asking m.values (Setting (spec.cfg_of m.code m.values))) (spec.heard_asking m.values (Question (spec.inf_of m.code m.values))) (spec.Brings (spec.number_at 0 m.values) (spec.number_at 1 m.values) (spec.bytes_at 2 m.values)) m.code e (late refl) in
    subst (λ h. P Else h) (sym hears) tt

-- ---- the table
is_late : Class → ℕ → Bool
is_late Noting code = nat_le 176 code
is_late _ code = true

row_late : Row → Bool
unfolding is_late
row_late r = is_late (class_of r.code) r.code

all_late : list_all row_late table ≡ true
unfolding row_late is_late
all_late = refl

late_in : (rows : List Row) (c : ℕ) (ks : List FieldKind) → list_all row_late rows ≡ true → kinds_in (row_in rows c) ≡ Some ks → is_late (class_of c) c ≡ true
unfolding row_late is_late
late_in [] c ks all h = absurd cc
late_in (r ∷ rows) c ks all h = by (λ a k. late_in rows c ks a k) (r.code == c) refl h
  where
    parts : (row_late r ≡ true) × (list_all row_late rows ≡ true)
    parts = and_parts (row_late r) (list_all row_late rows) all

    by : (list_all row_late rows ≡ true → kinds_in (row_in rows c) ≡ Some ks → is_late (class_of c) c ≡ true) → (b : Bool) → (r.code == c) ≡ b → kinds_in (if b then Some r else row_in rows c) ≡ Some ks → is_late (class_of c) c ≡ true
    by f true e k = let code : r.code ≡ c = grind (arith, nat_tests, e) in let P : ℕ → Type 0 = λ i. is_late (class_of i) i ≡ true in subst P code parts.0
    by f false e k = f parts.1 k

noting_late : (c : ℕ) (ks : List FieldKind) → kinds_for c ≡ Some ks → class_of c ≡ Noting → nat_le 176 c ≡ true
unfolding is_late
noting_late c ks h e = let l = late_in table c ks all_late h in let P : Class → Type 0 = λ k. is_late k c ≡ true in subst P e l

-- ---- the message in bytes
pub record Shape (m : Message) : Type 0 where
  pub kinds : List FieldKind
  pub bytes : List ℕ
  pub listed : kinds_for m.code ≡ Some kinds
  pub all : list_all (λ b. nat_lt b 256) bytes ≡ true
  pub fields : fields_in kinds 0 bytes ≡ Some m.values

with_shape : (code : ℕ) (bytes : List ℕ) (o : Option (List FieldKind)) (m : Message) → kinds_for code ≡ o → list_all (λ b. nat_lt b 256) bytes ≡ true → message_with code bytes o ≡ Some m → Shape m
with_shape code bytes None m k all h = absurd cc
with_shape code bytes (Some ks) m k all h = by (fields_in ks 0 bytes) refl h
  where
    by : (o : Option (List FieldValue)) → fields_in ks 0 bytes ≡ o → option_map (λ fields. record { code = code; values = fields }) o ≡ Some m → Shape m
    by None e q = absurd cc
    by (Some vs) e q =
        let same : record { code = code; values = vs } ≡ m = cc in
        let P : Message → Type 0 = Shape in
        subst P same (record { kinds = ks; bytes = bytes; listed = k; all = all; fields = e })

shape : (b : List ℕ) (m : Message) → message_in b ≡ Some m → Shape m
unfolding message_in
shape [] m h = absurd cc
shape (code ∷ bytes) m h = by (list_all (λ b. nat_lt b 256) (code ∷ bytes) && nat_le (length (code ∷ bytes)) 1024) refl h
  where
    by : (c : Bool) → (list_all (λ b. nat_lt b 256) (code ∷ bytes) && nat_le (length (code ∷ bytes)) 1024) ≡ c → (if c then message_with code bytes (kinds_for code) else None) ≡ Some m → Shape m
    by true e q =
        let a = and_parts (list_all (λ b. nat_lt b 256) (code ∷ bytes)) (nat_le (length (code ∷ bytes)) 1024) e in
        let all = and_parts (nat_lt code 256) (list_all (λ b. nat_lt b 256) bytes) a.0 in
        with_shape code bytes (kinds_for code) m refl all.1 q
    by false e q = absurd cc

message_agrees : (m : Message) → Shape m → Agree (role_of m) (spec.heard_in m.code m.values)
message_agrees m s = class_agrees m (class_of m.code) refl (class_begins (class_of m.code) s.kinds s.bytes m.values (kinds_begin m.code s.kinds s.listed) s.all s.fields) (noting_late m.code s.kinds s.listed)

-- both readings of any bytes agree
pub readings_agree : (b : List ℕ) → Agree (role_read (message_in b)) (spec.heard b)
unfolding spec.heard
readings_agree b = by (message_in b) refl
  where
    by : (o : Option Message) → message_in b ≡ o → Agree (role_read o) (spec.heard_as o)
    by None e = tt
    by (Some m) e = message_agrees m (shape b m e)
