-- What it says that nothing is refused, and when there is room for a slave.
use Rattle.std.proofs.Common.{◌≡◌, ℕ, ◌<◌, Bool, true, false, cond, leb, List, Option, Some, None, Result, Ok, Err, is_some, refl, ap, arith}
use Rattle.std.specs.Result.{result_ok}
use Rattle.std.proofs.lemmas.Bool.Decides.{nat_tests}
use Rattle.text_lines.specs.declared.reasons.TextWhy.{TextWhy}
use Rattle.text_lines.specs.Causes.{refused_if, bad}
use Rattle.desc_text.specs.declared.items.Item.{Item}
use Rattle.slave_desc.specs.declared.descriptions.SlaveDesc.{SlaveDesc}
use Rattle.scenario_text.specs.Judging.{why_item_read, why_link_read}
use Rattle.scenario_text.specs.declared.heads.HeadItem.{HeadItem}
use Rattle.scenario_text.specs.declared.link_words.LinkLine.{LinkLine}
use Rattle.scenario_text.specs.declared.collected.Links.{Links}

pub first_none : (b : Bool) (w : TextWhy) (o : Option TextWhy) → cond b (Some w) o ≡ None → (b ≡ false) × (o ≡ None)
first_none true w o e = cc
first_none false w o e = (refl, e)

pub none_refused : (b : Bool) (w : TextWhy) → b ≡ false → refused_if b w ≡ None
none_refused b w e = ap (λ (b : Bool). cond b (Some w) None) e

pub bad_none : {X : Type 0} (x : Result X TextWhy) → bad x ≡ None → is_some (result_ok x) ≡ true
bad_none (Ok x) e = refl
bad_none (Err w) e = cc

pub item_none : (all : List Item) (head : List HeadItem) (slaves : List SlaveDesc) (x : Result Item TextWhy) → why_item_read all head slaves x ≡ None → is_some (result_ok x) ≡ true
item_none all head slaves (Ok i) e = refl
item_none all head slaves (Err w) e = cc

pub link_none : (slaves : List SlaveDesc) (links : Links) (x : Result LinkLine TextWhy) → why_link_read slaves links x ≡ None → is_some (result_ok x) ≡ true
link_none slaves links (Ok l) e = refl
link_none slaves links (Err w) e = cc

pub has_room : (n : ℕ) → leb 16 n ≡ false → n < 16
has_room n e = grind (arith, nat_tests)

pub is_few : (n : ℕ) → n < 16 → leb 16 n ≡ false
is_few n h = grind (arith, nat_tests)
