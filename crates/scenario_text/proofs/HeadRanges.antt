-- The numbers of a head are in range.
use Rattle.std.proofs.Common.{◌≡◌, ℕ, ◌≤◌, Bool, true, false, ◌||◌, cond, eqb, List, [], ◌∷◌, Option, Some, None, Ok, refl, sym, ap, ◌∙◌, subst}
use Rattle.std.specs.List.{AllByRecursion}
use Rattle.std.specs.Option.{unwrap_or}
use Rattle.std.proofs.lemmas.Bool.{false≢true}
use Rattle.dcp_types.specs.declared.addresses.Address.{Address}
use Rattle.text_lines.specs.Numbers.{number_from}
use Rattle.text_lines.specs.Addresses.{address}
use Rattle.text_lines.specs.Counts.{one_word}
use Rattle.text_lines.proofs.Results.{bind_ok, moved}
use Rattle.text_lines.proofs.WordRanges.{number_fits, address_fits}
use Rattle.scenario_text.specs.Keys.{or_some, head_code}
use Rattle.scenario_text.specs.Heads.{least_head, greatest_head, number_item, protocol_of, head_item, is_said, number_in, master_of_head, first_said}
use Rattle.scenario.specs.Sound.{IsAddress}
use Rattle.scenario_text.specs.declared.keys.HeadKey.{HeadKey}
use Rattle.scenario_text.specs.declared.keys.HeadKey.TheVariants as heads
use Rattle.scenario_text.specs.declared.heads.HeadItem.{HeadItem}
use Rattle.scenario_text.specs.declared.heads.HeadItem.TheVariants as said
use Rattle.text_lines.proofs.NumberTests.{equal_numbers}

abbrev of_code : ℕ → HeadKey
of_code n =
    cond (eqb n 0) heads.Steps (cond (eqb n 1) heads.Master (cond (eqb n 2) heads.Micro (cond (eqb n 3) heads.Protocol
    (cond (eqb n 4) heads.Runs (cond (eqb n 5) heads.TurnLimit (cond (eqb n 6) heads.Tries (cond (eqb n 7) heads.WatchTurns
    (cond (eqb n 8) heads.StateLimit (cond (eqb n 9) heads.RetryTurns (cond (eqb n 10) heads.DataTurns heads.StepTries))))))))))

code_back : (k : HeadKey) → of_code (head_code k) ≡ k
code_back heads.Steps = refl
code_back heads.Master = refl
code_back heads.Micro = refl
code_back heads.Protocol = refl
code_back heads.Runs = refl
code_back heads.TurnLimit = refl
code_back heads.Tries = refl
code_back heads.WatchTurns = refl
code_back heads.StateLimit = refl
code_back heads.RetryTurns = refl
code_back heads.DataTurns = refl
code_back heads.StepTries = refl

same_key : (j k : HeadKey) → eqb (head_code j) (head_code k) ≡ true → j ≡ k
same_key j k e = sym (code_back j) ∙ ap of_code (equal_numbers (head_code j) (head_code k) e) ∙ code_back k

abbrev pub InRange : HeadKey → ℕ → Type 0
InRange k n = (least_head k ≤ n) × (n ≤ greatest_head k)

abbrev pub FitsItem : HeadItem → Type 0
FitsItem (said.Number k n) = InRange k n × (eqb (head_code k) (head_code heads.Master) ≡ false)
FitsItem (said.Master a) = IsAddress a
FitsItem (said.Protocol p) = Unit {0}

number_of_item : (k j : HeadKey) (m n : ℕ) (b : Bool) → eqb (head_code j) (head_code k) ≡ b → InRange j m → cond b (Some m) None ≡ Some n → InRange k n
number_of_item k j m n true same fit e = let m_is : m ≡ n = cc in subst (λ (x : ℕ). InRange k x) m_is (subst (λ (h : HeadKey). InRange h m) (same_key j k same) fit)
number_of_item k j m n false same fit e = cc

item_number : (k : HeadKey) (i : HeadItem) (n : ℕ) → FitsItem i → number_in k i ≡ Some n → InRange k n
item_number k (said.Number j m) n fit e = number_of_item k j m n (eqb (head_code j) (head_code k)) refl fit.0 e
item_number k (said.Master a) n fit e = cc
item_number k (said.Protocol p) n fit e = cc

first_by : (k : HeadKey) (i : HeadItem) (later : Option ℕ) (d : ℕ) (o : Option ℕ) → number_in k i ≡ o → FitsItem i → InRange k (unwrap_or later d) → InRange k (unwrap_or (or_some o later) d)
first_by k i later d (Some n) e fit rest = item_number k i n fit e
first_by k i later d None e fit rest = rest

-- the number that is said, or a default in range
pub first_fits : (k : HeadKey) (is : List HeadItem) (d : ℕ) → AllByRecursion FitsItem is → InRange k d → InRange k (unwrap_or (first_said (number_in k) is) d)
first_fits k [] d fits default = default
first_fits k (i ∷ is) d fits default = first_by k i (first_said (number_in k) is) d (number_in k i) refl fits.0 (first_fits k is d fits.1 default)

number_item_fits : (k : HeadKey) (args : List (List ℕ)) (i : HeadItem) → eqb (head_code k) (head_code heads.Master) ≡ false → number_item k args ≡ Ok i → FitsItem i
number_item_fits k args i other e =
    let w = bind_ok (one_word args) _ i e in
    let n = bind_ok (number_from (least_head k) (greatest_head k) w.0) _ i w.2 in
    moved FitsItem (said.Number k n.0) i n.2 (number_fits (least_head k) (greatest_head k) w.0 n.0 n.1, other)

address_is : (args : List (List ℕ)) (a : Address) → address args ≡ Ok a → IsAddress a
address_is args a e = let f = address_fits args a e in record { ip = f.0; port = (f.1, f.2) }

pub head_item_fits : (k : HeadKey) (args : List (List ℕ)) (i : HeadItem) → head_item k args ≡ Ok i → FitsItem i
head_item_fits heads.Master args i e = let a = bind_ok (address args) _ i e in moved FitsItem (said.Master a.0) i a.2 (address_is args a.0 a.1)
head_item_fits heads.Protocol args i e =
    let w = bind_ok (one_word args) _ i e in
    let p = bind_ok (protocol_of w.0) _ i w.2 in
    moved FitsItem (said.Protocol p.0) i p.2 tt
head_item_fits heads.Steps args i e = number_item_fits heads.Steps args i refl e
head_item_fits heads.Micro args i e = number_item_fits heads.Micro args i refl e
head_item_fits heads.Runs args i e = number_item_fits heads.Runs args i refl e
head_item_fits heads.TurnLimit args i e = number_item_fits heads.TurnLimit args i refl e
head_item_fits heads.Tries args i e = number_item_fits heads.Tries args i refl e
head_item_fits heads.WatchTurns args i e = number_item_fits heads.WatchTurns args i refl e
head_item_fits heads.StateLimit args i e = number_item_fits heads.StateLimit args i refl e
head_item_fits heads.RetryTurns args i e = number_item_fits heads.RetryTurns args i refl e
head_item_fits heads.DataTurns args i e = number_item_fits heads.DataTurns args i refl e
head_item_fits heads.StepTries args i e = number_item_fits heads.StepTries args i refl e

-- a head that names the master gives its address
pub master_fits : (is : List HeadItem) (default : Address) → AllByRecursion FitsItem is → is_said heads.Master is ≡ true → IsAddress (unwrap_or (first_said master_of_head is) default) × (first_said master_of_head is ≡ Some (unwrap_or (first_said master_of_head is) default))
master_fits [] default fits named = absurd (false≢true named)
master_fits (said.Master a ∷ is) default fits named = (fits.0, refl)
master_fits (said.Protocol p ∷ is) default fits named = master_fits is default fits.1 named
master_fits (said.Number k n ∷ is) default fits named = master_fits is default fits.1 (sym (ap (λ (b : Bool). b || is_said heads.Master is) fits.0.1) ∙ named)
