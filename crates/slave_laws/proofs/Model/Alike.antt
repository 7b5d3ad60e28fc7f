-- Settings that are asked for by one message are the same.
use Rattle.std.proofs.Common.{◌≡◌, ℕ, ◌==◌, ◌&&◌, true, List, [], ◌∷◌, refl, sym, ap, ◌∙◌, arith, ℤ, pos, negsuc}
use Rattle.std.specs.Prelude.{int_le}
use Rattle.std.proofs.lemmas.Bool.{and_parts, eqb-true}
use Rattle.std.proofs.lemmas.Bool.Decides.{nat_tests}
use Rattle.pdu_layout.specs.declared.messages.Pdu.TheVariants as pdu
use Rattle.pdu_layout.specs.declared.messages.Cfg.{Cfg}
use Rattle.pdu_layout.specs.declared.messages.Cfg.TheVariants as cfg
use Rattle.pdu_layout.specs.Fields.{FieldValue}
use Rattle.pdu_layout.specs.Fields.FieldValue.{Number, Signed, Bytes}
use Rattle.pdu_layout.specs.Message.{Message, message_of}
use Rattle.pdu_layout.proofs.Contents.{type_from-code}
use Rattle.slave_spec.specs.Heard.{cfg_of}
use Rattle.plan_laws.specs.Course.Taken.{same_field, same_fields, same_setting, same_settings}

same_number : (a b : ℤ) → (int_le a b && int_le b a) ≡ true → a ≡ b
same_number (pos m) (pos n) h = let e : m ≡ n = grind (arith, nat_tests, h) in ap (λ (k : ℕ). pos k) e
same_number (negsuc m) (negsuc n) h = let e : m ≡ n = grind (arith, nat_tests, h) in ap (λ (k : ℕ). negsuc k) e
same_number (pos m) (negsuc n) h = absurd cc
same_number (negsuc m) (pos n) h = absurd cc

field_is : (v w : FieldValue) → same_field v w ≡ true → v ≡ w
field_is (Number a) (Number b) h = ap (λ (n : ℕ). Number n) (eqb-true a b h)
field_is (Signed a) (Signed b) h = ap (λ (z : ℤ). Signed z) (same_number a b h)
field_is (Number a) (Signed b) h = absurd cc
field_is (Number a) (Bytes b) h = absurd cc
field_is (Signed a) (Number b) h = absurd cc
field_is (Signed a) (Bytes b) h = absurd cc
field_is (Bytes a) w h = absurd cc

fields_are : (vs ws : List FieldValue) → same_fields vs ws ≡ true → vs ≡ ws
fields_are [] [] h = refl
fields_are (v ∷ vs) (w ∷ ws) h = let a = and_parts (same_field v w) (same_fields vs ws) h in ap (λ z. z ∷ vs) (field_is v w a.0) ∙ ap (λ zs. w ∷ zs) (fields_are vs ws a.1)
fields_are [] (w ∷ ws) h = absurd cc
fields_are (v ∷ vs) [] h = absurd cc

-- a setting is heard back from its message
abbrev told : Cfg → Message
told body = message_of (pdu.Cfg 0 0 body)

pub back : (body : Cfg) → cfg_of (told body).code (told body).values ≡ body
back (cfg.TimeRes a b) = refl
back (cfg.Steps a b) = refl
back (cfg.Input a b c kind) = ap (λ k. cfg.Input a b c k) (type_from-code kind)
back (cfg.Output a b c) = refl
back cfg.Clear = refl
back (cfg.Target net) = refl
back (cfg.Source net) = refl
back (cfg.Parameter a kind z) = ap (λ k. cfg.Parameter a k z) (type_from-code kind)
back (cfg.Tunable a b c kind) = ap (λ k. cfg.Tunable a b c k) (type_from-code kind)
back (cfg.ParamNet a b c d) = refl
back (cfg.Logging a b c) = refl
back (cfg.Scope a b) = refl

setting_is : (a b : Cfg) → same_setting a b ≡ true → a ≡ b
setting_is a b h =
    let p = and_parts ((told a).code == (told b).code) (same_fields (told a).values (told b).values) h in
    let code : (told a).code ≡ (told b).code = eqb-true (told a).code (told b).code p.0 in
    sym (back a) ∙ ap (λ c. cfg_of c (told a).values) code ∙ ap (cfg_of (told b).code) (fields_are (told a).values (told b).values p.1) ∙ back b

pub settings_are : (as' bs : List Cfg) → same_settings as' bs ≡ true → as' ≡ bs
settings_are [] [] h = refl
settings_are (a ∷ as') (b ∷ bs) h = let p = and_parts (same_setting a b) (same_settings as' bs) h in ap (λ z. z ∷ as') (setting_is a b p.0) ∙ ap (λ zs. b ∷ zs) (settings_are as' bs p.1)
settings_are [] (b ∷ bs) h = absurd cc
settings_are (a ∷ as') [] h = absurd cc
