-- What the lines after a line leave as it was.
use Rattle.std.proofs.Common.{◌≡◌, ℕ, ◌<◌, ◌≤◌, Bool, true, false, cond, eqb, List, [], ◌∷◌, ◌++◌, Option, Some, None, refl, sym, ap, ◌∙◌, subst, arith, append-nil, append_assoc}
use Rattle.std.specs.List.{cons_option}
use Rattle.std.proofs.lemmas.Bool.Decides.{nat_tests}
use Rattle.std.proofs.lemmas.List.Elements.{filter-append, filter_map-append}
use Rattle.text_lines.specs.Texts.{words}
use Rattle.text_lines.specs.Causes.{came}
use Rattle.scenario_text.specs.Keys.{section_of}
use Rattle.scenario_text.specs.Grammar.{IsOrdered}
use Rattle.scenario_text.specs.Said.{key_at, args_of, is_of, lines_in, section_now, head_by, head_said}
use Rattle.scenario_text.specs.declared.keys.AnyKey.{AnyKey}
use Rattle.scenario_text.specs.declared.keys.AnyKey.TheVariants as any
use Rattle.scenario_text.specs.declared.heads.HeadItem.{HeadItem}

came_mid : {X : Type 0} (xs : List X) (x : X) (ys : List X) → came (xs ++ x ∷ ys) ≡ true
came_mid [] x ys = refl
came_mid (z ∷ xs) x ys = refl

abbrev by_sections : Bool → Bool → ℕ
by_sections links slaves = cond links 2 (cond slaves 1 0)

at_least_one : (b : Bool) → 1 ≤ by_sections b true
at_least_one true = omega arith
at_least_one false = omega arith

line_came : (s : ℕ) (before after : List (List ℕ)) (l : List ℕ) (key : AnyKey) → key_at l ≡ Some key → eqb (section_of key) s ≡ true → came (lines_in s (before ++ l ∷ after)) ≡ true
line_came s before after l key k e =
    ap came (filter-append (λ (l : List ℕ). is_of s (key_at l)) before (l ∷ after)
    ∙ ap (λ (k : Option AnyKey). lines_in s before ++ cond (is_of s k) (l ∷ lines_in s after) (lines_in s after)) k
    ∙ ap (λ (b : Bool). lines_in s before ++ cond b (l ∷ lines_in s after) (lines_in s after)) e)
    ∙ came_mid (lines_in s before) l (lines_in s after)

-- a line leaves its section or a later one
pub section_ge : (before after : List (List ℕ)) (l : List ℕ) (key : AnyKey) → key_at l ≡ Some key → section_of key ≤ section_now (before ++ l ∷ after)
section_ge before after l (any.Head h) k = omega arith
section_ge before after l (any.Block b) k =
    let e = line_came 1 before after l (any.Block b) k refl in
    subst (λ (c : Bool). 1 ≤ by_sections (came (lines_in 2 (before ++ l ∷ after))) c) (sym e) (at_least_one (came (lines_in 2 (before ++ l ∷ after))))
section_ge before after l (any.Link x) k =
    let e = line_came 2 before after l (any.Link x) k refl in
    subst (λ (c : Bool). 2 ≤ by_sections c (came (lines_in 1 (before ++ l ∷ after)))) (sym e) (omega arith)

not_section : (m n s : ℕ) → s < m → m ≤ n → eqb n s ≡ false
not_section m n s h k = grind (arith, nat_tests)

abbrev NoneAfter : ℕ → ℕ → List (List ℕ) → List (List ℕ) → Type 0
NoneAfter s m before after = m ≤ section_now before → IsOrdered (before ++ after) → lines_in s after ≡ []

pub same_now : (before : List (List ℕ)) (l : List ℕ) → key_at l ≡ None → section_now (before ++ l ∷ []) ≡ section_now before
same_now before l k =
    let one : (s : ℕ) → lines_in s (before ++ l ∷ []) ≡ lines_in s before = λ s. filter-append (λ (l : List ℕ). is_of s (key_at l)) before (l ∷ []) ∙ ap (λ (k : Option AnyKey). lines_in s before ++ cond (is_of s k) (l ∷ []) []) k ∙ append-nil (lines_in s before) in
    ap (λ (x : List (List ℕ)). by_sections (came x) (came (lines_in 1 (before ++ l ∷ [])))) (one 2) ∙ ap (λ (x : List (List ℕ)). by_sections (came (lines_in 2 before)) (came x)) (one 1)

none_by : (s m : ℕ) (before after : List (List ℕ)) (l : List ℕ) (key : Option AnyKey) → key_at l ≡ key → s < m → NoneAfter s m (before ++ l ∷ []) after → NoneAfter s m before (l ∷ after)
none_by s m before after l None k below later up ordered =
    ap (λ (k : Option AnyKey). cond (is_of s k) (l ∷ lines_in s after) (lines_in s after)) k
    ∙ later (subst (λ (n : ℕ). m ≤ n) (sym (same_now before l k)) up) (subst IsOrdered (sym (append_assoc before (l ∷ []) after)) ordered)
none_by s m before after l (Some key) k below later up ordered =
    let here = ordered before after l key refl k in
    let ge = section_ge before [] l key k in
    ap (λ (k : Option AnyKey). cond (is_of s k) (l ∷ lines_in s after) (lines_in s after)) k
    ∙ ap (λ (b : Bool). cond b (l ∷ lines_in s after) (lines_in s after)) (not_section m (section_of key) s below (omega arith))
    ∙ later (omega arith) (subst IsOrdered (sym (append_assoc before (l ∷ []) after)) ordered)

none_after : (s m : ℕ) (before after : List (List ℕ)) → s < m → NoneAfter s m before after
none_after s m before [] below up ordered = refl
none_after s m before (l ∷ after) below up ordered = none_by s m before after l (key_at l) refl below (none_after s m (before ++ l ∷ []) after below) up ordered

-- the lines of an earlier section all stand before
pub earlier_lines : (s : ℕ) (before after : List (List ℕ)) (l : List ℕ) (key : AnyKey) → IsOrdered (before ++ l ∷ after) → key_at l ≡ Some key → s < section_of key → lines_in s (before ++ l ∷ after) ≡ lines_in s before
earlier_lines s before after l key ordered k below =
    let none = none_after s (section_of key) (before ++ l ∷ []) after below (section_ge before [] l key k) (subst IsOrdered (sym (append_assoc before (l ∷ []) after)) ordered) in
    filter-append (λ (l : List ℕ). is_of s (key_at l)) before (l ∷ after)
    ∙ ap (λ (k : Option AnyKey). lines_in s before ++ cond (is_of s k) (l ∷ lines_in s after) (lines_in s after)) k
    ∙ ap (λ (b : Bool). lines_in s before ++ cond b (l ∷ lines_in s after) (lines_in s after)) (not_section (section_of key) (section_of key) s below (omega arith))
    ∙ ap (λ (x : List (List ℕ)). lines_in s before ++ x) none
    ∙ append-nil (lines_in s before)

no_head_by : (l : List ℕ) (ls : List (List ℕ)) (key : Option AnyKey) → cond (is_of 0 key) (l ∷ lines_in 0 ls) (lines_in 0 ls) ≡ [] → (lines_in 0 ls ≡ []) × (head_by key (args_of (words l)) ≡ None)
no_head_by l ls None e = (e, refl)
no_head_by l ls (Some (any.Head k)) e = cc
no_head_by l ls (Some (any.Block k)) e = (e, refl)
no_head_by l ls (Some (any.Link k)) e = (e, refl)

no_head : (ls : List (List ℕ)) → lines_in 0 ls ≡ [] → head_said ls ≡ []
no_head [] e = refl
no_head (l ∷ ls) e =
    let t = no_head_by l ls (key_at l) e in
    ap (λ (o : Option HeadItem). cons_option o (head_said ls)) t.1 ∙ no_head ls t.0

same_front : {X : Type 0} (xs ys : List X) → xs ++ ys ≡ xs → ys ≡ []
same_front [] ys e = e
same_front (x ∷ xs) ys e = same_front xs ys (tail_same e)
  where
    tail_same : x ∷ (xs ++ ys) ≡ x ∷ xs → xs ++ ys ≡ xs
    tail_same e = cc

-- and so does the whole head
pub earlier_head : (before after : List (List ℕ)) (l : List ℕ) (key : AnyKey) → IsOrdered (before ++ l ∷ after) → key_at l ≡ Some key → 0 < section_of key → head_said (before ++ l ∷ after) ≡ head_said before
earlier_head before after l key ordered k below =
    let none : lines_in 0 (l ∷ after) ≡ [] = same_front (lines_in 0 before) (lines_in 0 (l ∷ after)) (sym (filter-append (λ (l : List ℕ). is_of 0 (key_at l)) before (l ∷ after)) ∙ earlier_lines 0 before after l key ordered k below) in
    filter_map-append (λ (l : List ℕ). head_by (key_at l) (args_of (words l))) before (l ∷ after)
    ∙ ap (λ (x : List HeadItem). head_said before ++ x) (no_head (l ∷ after) none)
    ∙ append-nil (head_said before)
