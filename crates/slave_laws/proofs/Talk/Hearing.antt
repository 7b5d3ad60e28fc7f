-- What a slave hears is in range: the number and the receiver of a request, and the data id of a setting.
use Rattle.std.proofs.Common.{◌≡◌, ℕ, ◌<◌, Bool, true, false, if◌then◌else◌, List, [], ◌∷◌, map, Option, Some, None, refl, sym, ap, ◌∙◌, subst, arith}
use Rattle.std.specs.Prelude.{◌==◌, nat_lt}
use Rattle.std.specs.List.{list_all}
use Rattle.std.proofs.lemmas.Bool.{and_parts}
use Rattle.std.proofs.lemmas.Bool.Decides.{nat_tests}
use Rattle.pdu_layout.specs.declared.fields.FieldKind.{FieldKind}
use Rattle.pdu_layout.specs.declared.fields.FieldKind.TheVariants.{U8, U16, U64}
use Rattle.pdu_layout.specs.declared.messages.Cfg.{Cfg}
use Rattle.pdu_layout.specs.declared.messages.Cfg.TheVariants as cfg
use Rattle.pdu_layout.specs.Fields.{FieldValue, FitEach}
use Rattle.pdu_layout.specs.Fields.FieldValue.{Number, Signed, Bytes}
use Rattle.pdu_layout.specs.Table.{Row, table, row_in, kinds_in, kinds_for}
use Rattle.pdu_layout.specs.Message.{Message, Spells}
use Rattle.pdu_layout.specs.Reading.{message_in}
use Rattle.pdu_codec.proofs.Told.{read_as_spelled}
use Rattle.slave_spec.specs.declared.words.Asked.{Asked}
use Rattle.slave_spec.specs.declared.words.Asked.TheVariants.{Change, Setting, Question}
use Rattle.slave_spec.specs.declared.words.SlaveRequest.{SlaveRequest}
use Rattle.slave_spec.specs.Heard.{Asks, Brings, Nothing, number_at, state_from, stc_of, cfg_of, inf_of, heard_asking, heard_in, heard_as, heard, bytes_at}
use Rattle.slave_laws.specs.Talk.Ranges.{RequestFits, AskedFits}

-- ---- each request begins with its number and its receiver
begins_so : List FieldKind → Bool
begins_so (U16 ∷ U8 ∷ ks) = true
begins_so _ = false

row_asks : Row → Bool
unfolding begins_so
row_asks r = if nat_lt r.code 176 then begins_so (map (λ f. f.kind) r.fields) else true

all_ask : list_all row_asks table ≡ true
unfolding row_asks begins_so
all_ask = refl

asks_in : (rows : List Row) (c : ℕ) (ks : List FieldKind) → list_all row_asks rows ≡ true → kinds_in (row_in rows c) ≡ Some ks → nat_lt c 176 ≡ true → begins_so ks ≡ true
unfolding row_asks begins_so
asks_in [] c ks all h lt = absurd cc
asks_in (r ∷ rows) c ks all h lt = by (λ a k. asks_in rows c ks a k lt) (r.code == c) refl h
  where
    parts : (row_asks r ≡ true) × (list_all row_asks rows ≡ true)
    parts = and_parts (row_asks r) (list_all row_asks rows) all

    here : (b : Bool) → b ≡ true → (if b then begins_so (map (λ f. f.kind) r.fields) else true) ≡ true → begins_so (map (λ f. f.kind) r.fields) ≡ true
    here true e k = k
    here false e k = absurd cc

    by : (list_all row_asks rows ≡ true → kinds_in (row_in rows c) ≡ Some ks → begins_so ks ≡ true) → (b : Bool) → (r.code == c) ≡ b → kinds_in (if b then Some r else row_in rows c) ≡ Some ks → begins_so ks ≡ true
    by f true e k =
        let same : map (λ f. f.kind) r.fields ≡ ks = cc in
        let code : r.code ≡ c = grind (arith, nat_tests, e) in
        let P : List FieldKind → Type 0 = λ l. begins_so l ≡ true in
        subst P same (here (nat_lt r.code 176) (ap (λ n. nat_lt n 176) code ∙ lt) parts.0)
    by f false e k = f parts.1 k

-- the first two numbers
pub record Starts (vs : List FieldValue) : Type 0 where
  pub number : number_at 0 vs < 65536
  pub receiver : number_at 1 vs < 256

starts : (ks : List FieldKind) (vs : List FieldValue) → begins_so ks ≡ true → FitEach ks 0 vs → Starts vs
unfolding begins_so
starts (U16 ∷ U8 ∷ ks) (Number a ∷ Number b ∷ vs) h f = record { number = f.0; receiver = (f.1).0 }
starts (U16 ∷ U8 ∷ ks) (Number a ∷ Signed b ∷ vs) h f = absurd (f.1).0
starts (U16 ∷ U8 ∷ ks) (Number a ∷ Bytes b ∷ vs) h f = absurd (f.1).0
starts (U16 ∷ U8 ∷ ks) (Number a ∷ []) h f = absurd f.1
starts (U16 ∷ U8 ∷ ks) (Signed a ∷ vs) h f = absurd f.0
starts (U16 ∷ U8 ∷ ks) (Bytes a ∷ vs) h f = absurd f.0
starts (U16 ∷ U8 ∷ ks) [] h f = absurd f
starts _ vs h f = absurd cc

-- ---- what the slave makes of it
pub record Told (code : ℕ) (vs : List FieldValue) (r : SlaveRequest) : Type 0 where
  pub early : nat_lt code 176 ≡ true
  pub number : r.number ≡ number_at 0 vs
  pub receiver : r.receiver ≡ number_at 1 vs
  pub asked : (body : Cfg) → r.asked ≡ Setting body → body ≡ cfg_of code vs

late : (code : ℕ) → nat_lt code 32 ≡ true → nat_lt code 176 ≡ true
late code h = grind (arith, nat_tests)

later : (code : ℕ) → nat_lt code 128 ≡ true → nat_lt code 176 ≡ true
later code h = grind (arith, nat_tests)

told_by : (code : ℕ) (vs : List FieldValue) (a : Asked) (r : SlaveRequest) → nat_lt code 176 ≡ true → ((body : Cfg) → a ≡ Setting body → body ≡ cfg_of code vs) → heard_asking vs a ≡ Asks r → Told code vs r
told_by code vs a r lt f h =
    let same : record { number = number_at 0 vs; receiver = number_at 1 vs; asked = a } ≡ r = cc in
    let P : SlaveRequest → Type 0 = Told code vs in
    subst P same (record { early = lt; number = refl; receiver = refl; asked = f })

told : (code : ℕ) (vs : List FieldValue) (r : SlaveRequest) → heard_in code vs ≡ Asks r → Told code vs r
told code vs r h = by (nat_lt code 32) (nat_lt code 128) (nat_lt code 176) (code == 240) refl refl refl h
  where
    change : Asked
    change = Change (state_from (number_at 2 vs)) (stc_of code vs)

    setting : (body : Cfg) → Setting (cfg_of code vs) ≡ Setting body → body ≡ cfg_of code vs
    setting body e = cc

    none : (body : Cfg) → change ≡ Setting body → body ≡ cfg_of code vs
    none body e = absurd cc

    no' : (body : Cfg) → Question (inf_of code vs) ≡ Setting body → body ≡ cfg_of code vs
    no' body e = absurd cc

    by : (a b c d : Bool) → nat_lt code 32 ≡ a → nat_lt code 128 ≡ b → nat_lt code 176 ≡ c
        → (if a then heard_asking vs change else (if b then heard_asking vs (Setting (cfg_of code vs)) else (if c then heard_asking vs (Question (inf_of code vs)) else (if d then Brings (number_at 0 vs) (number_at 1 vs) (bytes_at 2 vs) else Nothing)))) ≡ Asks r → Told code vs r
    by true b c d e f g k = told_by code vs change r (late code e) none k
    by false true c d e f g k = told_by code vs (Setting (cfg_of code vs)) r (later code f) setting k
    by false false true d e f g k = told_by code vs (Question (inf_of code vs)) r g no' k
    by false false false true e f g k = absurd cc
    by false false false false e f g k = absurd cc

-- an entry of an output is asked by the code 35 alone
output_code : (code : ℕ) (vs : List FieldValue) (id position vr : ℕ) → cfg_of code vs ≡ cfg.Output id position vr → (code ≡ 35) × (id ≡ number_at 2 vs)
output_code code vs id position vr h = grind (arith, nat_tests)

output_kinds : kinds_for 35 ≡ Some (U16 ∷ U8 ∷ U16 ∷ U16 ∷ U64 ∷ [])
output_kinds = refl

third : (vs : List FieldValue) → FitEach (U16 ∷ U8 ∷ U16 ∷ U16 ∷ U64 ∷ []) 0 vs → number_at 2 vs < 65536
third (a ∷ b ∷ Number c ∷ vs) f = ((f.1).1).0
third (a ∷ b ∷ Signed c ∷ vs) f = absurd ((f.1).1).0
third (a ∷ b ∷ Bytes c ∷ vs) f = absurd ((f.1).1).0
third (a ∷ b ∷ []) f = absurd (f.1).1
third (a ∷ []) f = absurd f.1
third [] f = absurd f

output_fits : (m : Message) (b : List ℕ) → Spells m b → (id position vr : ℕ) → cfg_of m.code m.values ≡ cfg.Output id position vr → id < 65536
output_fits m b s id position vr h =
    let o = output_code m.code m.values id position vr h in
    let same : Some s.kinds ≡ Some (U16 ∷ U8 ∷ U16 ∷ U16 ∷ U64 ∷ []) = sym s.listed ∙ ap kinds_for o.0 ∙ output_kinds in
    let kinds : s.kinds ≡ U16 ∷ U8 ∷ U16 ∷ U16 ∷ U64 ∷ [] = cc in
    let P : List FieldKind → Type 0 = λ ks. FitEach ks 0 m.values in
    omega (arith, third m.values (subst P kinds s.fits), o.1)

asked_fits : (m : Message) (b : List ℕ) → Spells m b → (a : Asked) → ((body : Cfg) → a ≡ Setting body → body ≡ cfg_of m.code m.values) → AskedFits a
asked_fits m b s (Setting (cfg.Output id position vr)) f = output_fits m b s id position vr (sym (f (cfg.Output id position vr) refl))
asked_fits m b s (Setting (cfg.Parameter vr kind value)) f = tt
asked_fits m b s (Setting (cfg.Logging category level mode)) f = tt
asked_fits m b s (Setting cfg.Clear) f = tt
asked_fits m b s (Setting (cfg.TimeRes x y)) f = tt
asked_fits m b s (Setting (cfg.Steps x y)) f = tt
asked_fits m b s (Setting (cfg.Input x y z k)) f = tt
asked_fits m b s (Setting (cfg.Target x)) f = tt
asked_fits m b s (Setting (cfg.Source x)) f = tt
asked_fits m b s (Setting (cfg.Tunable x y z k)) f = tt
asked_fits m b s (Setting (cfg.ParamNet x y z k)) f = tt
asked_fits m b s (Setting (cfg.Scope x y)) f = tt
asked_fits m b s (Change named request) f = tt
asked_fits m b s (Question q) f = tt

message_fits : (m : Message) (b : List ℕ) (r : SlaveRequest) → Spells m b → heard_in m.code m.values ≡ Asks r → RequestFits r × AskedFits r.asked
message_fits m b r s h =
    let t = told m.code m.values r h in
    let st = starts s.kinds m.values (asks_in table m.code s.kinds all_ask s.listed t.early) s.fits in
    (record { number = omega (arith, st.number, t.number); receiver = omega (arith, st.receiver, t.receiver) }, asked_fits m b s r.asked t.asked)

-- a request that is heard
pub asks_fit : (b : List ℕ) (r : SlaveRequest) → heard b ≡ Asks r → RequestFits r × AskedFits r.asked
unfolding heard
asks_fit b r h = by (message_in b) refl h
  where
    by : (o : Option Message) → message_in b ≡ o → heard_as o ≡ Asks r → RequestFits r × AskedFits r.asked
    by None e k = absurd cc
    by (Some m) e k = message_fits m b r ((read_as_spelled m b).0 e) k
