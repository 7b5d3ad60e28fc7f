-- Past its configuration a slave has taken the settings of the plan up to its run.
use Rattle.std.proofs.Common.{◌≡◌, ◌+◌, ◌-◌, ◌==◌, ◌&&◌, Bool, true, false, List, [], ◌∷◌, ◌++◌, reverse, length, refl, sym, ap, ◌∙◌, arith, ℤ, pos, negsuc}
use Rattle.std.specs.Prelude.{int_le}
use Rattle.std.proofs.lemmas.Bool.{eq-eqb}
use Rattle.std.proofs.lemmas.Bool.Decides.{nat_tests}
use Rattle.std.proofs.lemmas.List.{reverse-reverse}
use Rattle.pdu_layout.specs.declared.messages.Pdu.TheVariants as pdu
use Rattle.pdu_layout.specs.declared.messages.Cfg.{Cfg}
use Rattle.pdu_layout.specs.declared.messages.Cfg.TheVariants as cfg
use Rattle.pdu_layout.specs.Fields.{FieldValue}
use Rattle.pdu_layout.specs.Fields.FieldValue.{Number, Signed, Bytes}
use Rattle.pdu_layout.specs.Message.{message_of}
use Rattle.plan_laws.specs.Runs.{lists_until}
use Rattle.slave_spec.specs.Slaves.{machine}
use Rattle.slave_laws.specs.Talk.Desks.{at}
use Rattle.plan_laws.specs.Course.Taken.{settings_taken, same_fields, same_setting, same_settings}
use Rattle.slave_laws.proofs.Wiring.Lists.{lists_before, joined}
use Rattle.slave_laws.proofs.Wiring.Courses.{on_course}
use Rattle.slave_laws.specs.Data.Emitting.{PastIsTuned}

-- ---- a setting is the same as itself
abbrev ArePlain : List FieldValue → Type 0
ArePlain [] = Unit {0}
ArePlain (Number a ∷ vs) = ArePlain vs
ArePlain (Signed z ∷ vs) = ArePlain vs
ArePlain (Bytes bs ∷ vs) = ⊥

both : (a b : Bool) → a ≡ true → b ≡ true → (a && b) ≡ true
both true true h k = refl
both true false h k = k
both false b h k = h

int_same : (z : ℤ) → (int_le z z && int_le z z) ≡ true
int_same (pos n) = grind (arith, nat_tests)
int_same (negsuc n) = grind (arith, nat_tests)

plain_same : (vs : List FieldValue) → ArePlain vs → same_fields vs vs ≡ true
plain_same [] h = refl
plain_same (Number a ∷ vs) h = both (a == a) (same_fields vs vs) (eq-eqb a a refl) (plain_same vs h)
plain_same (Signed z ∷ vs) h = both (int_le z z && int_le z z) (same_fields vs vs) (int_same z) (plain_same vs h)
plain_same (Bytes bs ∷ vs) h = absurd h

setting_plain : (body : Cfg) → ArePlain (message_of (pdu.Cfg 0 0 body)).values
setting_plain (cfg.TimeRes a b) = tt
setting_plain (cfg.Steps a b) = tt
setting_plain (cfg.Input a b c kind) = tt
setting_plain (cfg.Output a b c) = tt
setting_plain cfg.Clear = tt
setting_plain (cfg.Target net) = tt
setting_plain (cfg.Source net) = tt
setting_plain (cfg.Parameter a kind z) = tt
setting_plain (cfg.Tunable a b c kind) = tt
setting_plain (cfg.ParamNet a b c d) = tt
setting_plain (cfg.Logging a b c) = tt
setting_plain (cfg.Scope a b) = tt

itself : (body : Cfg) → same_setting body body ≡ true
itself body = let m = message_of (pdu.Cfg 0 0 body) in both (m.code == m.code) (same_fields m.values m.values) (eq-eqb m.code m.code refl) (plain_same m.values (setting_plain body))

all_same : (bodies : List Cfg) → same_settings bodies bodies ≡ true
all_same [] = refl
all_same (body ∷ bodies) = both (same_setting body body) (same_settings bodies bodies) (itself body) (all_same bodies)

-- ---- what was taken
pub past_tuned : PastIsTuned
past_tuned sc n s w ok rd log a e z =
    let x = at (machine s) w n log in
    let p = x.slave.inner in
    let st = (on_course sc n s w rd log a e).staged in
    let r = length p.earlier in
    let taken : reverse (settings_taken x.desk.served) ≡ lists_until sc n s.desc r = st.taken ∙ ap (λ l. lists_before sc n s.desc r ++ l) (st.past z) ∙ joined sc n s.desc r in
    let is : settings_taken x.desk.served ≡ reverse (lists_until sc n s.desc r) = sym (reverse-reverse (settings_taken x.desk.served)) ∙ ap reverse taken in
    let run : r + 1 - 1 ≡ r = omega arith in
    let here : settings_taken x.desk.served ≡ reverse (lists_until sc n s.desc (r + 1 - 1)) = is ∙ ap (λ k. reverse (lists_until sc n s.desc k)) (sym run) in
    ap (λ l. same_settings l (reverse (lists_until sc n s.desc (r + 1 - 1)))) here ∙ all_same (reverse (lists_until sc n s.desc (r + 1 - 1)))
