-- Results one after another.
use Rattle.std.proofs.Common.{◌≡◌, ◌⊎◌, inl, inr, Bool, true, false, cond, Option, Some, None, Result, Ok, Err, refl, ap, sym, subst, ℕ}
use Rattle.text_lines.specs.Causes.{◌>>=◌, or_why}
use Rattle.text_lines.specs.Runs.{at_line, then_text}
use Rattle.text_lines.specs.Readings.{line_number}
use Rattle.text_lines.specs.declared.reasons.TextWhy.{TextWhy}
use Rattle.text_lines.specs.declared.reasons.TextFault.{TextFault}

pub bind_ok : {A B : Type 0} (r : Result A TextWhy) (f : A → Result B TextWhy) (y : B) → (r >>= f) ≡ Ok y → (x : A) × (r ≡ Ok x) × (f x ≡ Ok y)
bind_ok (Ok x) f y e = (x, refl, e)
bind_ok (Err w) f y e = cc

pub some_ok : {A : Type 0} (o : Option A) (w : TextWhy) (x : A) → or_why o w ≡ Ok x → o ≡ Some x
some_ok None w x e = cc
some_ok (Some y) w x e = cc

pub ok_same : {A : Type 0} (x y : A) (r : Result A TextWhy) → r ≡ Ok x → r ≡ Ok y → x ≡ y
ok_same x y r e f = cc

abbrev pub given : {X : Type 0} → X → Result X TextWhy
given x = Ok x

pub given_same : {X : Type 0} (x y : X) → given x ≡ given y → x ≡ y
given_same x y e = cc

-- a fact of the value that is given
pub moved : {X : Type 0} (P : X → Type 0) (x y : X) → given x ≡ given y → P x → P y
moved P x y e h = subst P (given_same x y e) h

pub chosen_ok : {X : Type 0} (b : Bool) (x y : X) (w : TextWhy) → cond b (Ok x) (Err w) ≡ Ok y → (b ≡ true) × (x ≡ y)
chosen_ok true x y w e = (refl, cc)
chosen_ok false x y w e = cc

pub at_ok : {X : Type 0} (n : ℕ) (r : Result X TextWhy) (x : X) → at_line n r ≡ Ok x → r ≡ Ok x
at_ok n (Ok y) x e = cc
at_ok n (Err w) x e = cc

pub at_err : {X : Type 0} (n : ℕ) (r : Result X TextWhy) (f : TextFault) → at_line n r ≡ Err f → (f.line ≡ line_number n) × (r ≡ Err f.why)
at_err n (Ok y) f e = cc
at_err n (Err w) f e = let same : f ≡ record { line = line_number n; why = w } = cc in (ap (λ (g : TextFault). g.line) same, ap (λ (g : TextFault). Err g.why) (sym same))

pub and_ok : {X Y : Type 0} (r : Result X TextFault) (f : X → Result Y TextFault) (y : Y) → then_text r f ≡ Ok y → (x : X) × (r ≡ Ok x) × (f x ≡ Ok y)
and_ok (Ok x) f y e = (x, refl, e)
and_ok (Err w) f y e = cc

pub and_err : {X Y : Type 0} (r : Result X TextFault) (f : X → Result Y TextFault) (w : TextFault) → then_text r f ≡ Err w → (r ≡ Err w) ⊎ ((x : X) × (r ≡ Ok x) × (f x ≡ Err w))
and_err (Ok x) f w e = inr (x, refl, e)
and_err (Err v) f w e = inl (cc)
