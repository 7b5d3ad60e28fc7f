-- A text that is a talk has no first line that is refused, and is one talk.
use Rattle.std.proofs.Common.{◌≡◌, ℕ, zero, suc, ◌+◌, ◌-◌, ◌<◌, ◌≤◌, Bool, true, false, cond, ◌&&◌, ◌||◌, ⊎_elim, List, [], ◌∷◌, ◌++◌, length, take, drop, get_or, Option, Some, None, is_some, refl, sym, ap, ◌∙◌, subst, arith, append_assoc, length-append, take-append-drop}
use Rattle.std.specs.Prelude.{All, codes}
use Rattle.std.specs.List.{slice_split, cons_option, flat_map}
use Rattle.std.specs.Str.{is_utf8}
use Rattle.std.specs.Str.Lines.{lines}
use Rattle.std.proofs.Math.Bool.{or-true}
use Rattle.std.proofs.Math.Seq.{drop-cons, drop-append_seam}
use Rattle.std.proofs.str.Laws.{order}
use Rattle.std.proofs.lemmas.Bool.{false≢true}
use Rattle.std.proofs.lemmas.List.{length-take-le}
use Rattle.std.proofs.lemmas.List.Elements.{All-take, All-from_recursion, filter_map-append}
use Rattle.std.proofs.lemmas.List.Folds.{list_any-append, list_any_none}
use Rattle.std.proofs.lemmas.List.Splits.{slice_split_at}
use Rattle.std.proofs.lemmas.Slice.Eq.{bytes_eq-Decides}
use Rattle.text_lines.specs.Texts.{words, is_skipped}
use Rattle.text_lines.specs.Causes.{or_else}
use Rattle.text_lines.specs.Readings.{NeverReadsAndRefused, OneValue, OneFault}
use Rattle.text_lines.specs.declared.reasons.TextWhy.{TextWhy}
use Rattle.text_lines.specs.declared.reasons.TextWhy.TheVariants as why
use Rattle.text_lines.proofs.Runs.{one_first}
use Rattle.desc_text.specs.Judging.{why_end}
use Rattle.desc_text.specs.Said.{item_of_words, item_in, items_in}
use Rattle.desc_text.specs.Reads.{is_desc_read, Describes}
use Rattle.desc_text.specs.declared.items.Item.{Item}
use Rattle.desc_text.proofs.Apart.{not_line, end_none, one_desc}
use Rattle.talk_text.specs.Talks.{IsTalk}
use Rattle.talk_text.specs.Judging.{first_is, is_begin, has_begun, why_more, why_event, why_talk_entry, talk_why_at}
use Rattle.talk_text.specs.declared.events.Talk.{Talk}
use Rattle.talk_text.proofs.Judged.{at_next, at_end, in_block, in_events}
use Rattle.talk_text.proofs.WholeLines.{AreLines, are_lines}
use Rattle.talk_text.proofs.EventLines.{events_on, say_on, say_right}

-- ---- the line that closes the block

unread : (utf8 begins : Bool) (ws : List (List ℕ)) → first_is (codes "begin") ws ≡ begins → (utf8 && (is_skipped ws || is_some (item_of_words ws))) ≡ true → (utf8 && begins) ≡ false
unread false begins ws f e = refl
unread true false ws f e = refl
unread true true [] f e = absurd (false≢true f)
unread true true (w ∷ ws) f e =
    let is : w ≡ codes "begin" = (bytes_eq-Decides w (codes "begin")).0 f in
    absurd (false≢true (ap (λ (v : List ℕ). is_skipped (v ∷ ws) || is_some (item_of_words (v ∷ ws))) (sym is) ∙ e))

-- a line of a description does not close it
read_stays : (line : List ℕ) → is_desc_read line ≡ true → is_begin line ≡ false
read_stays line e = unread (is_utf8 line) (first_is (codes "begin") (words line)) (words line) refl e

begun_after : (block : List (List ℕ)) (begin : List ℕ) (more : List (List ℕ)) → is_begin begin ≡ true → has_begun (block ++ begin ∷ more) ≡ true
begun_after block begin more is = list_any-append is_begin block (begin ∷ more) ∙ ap (λ (b : Bool). has_begun block || (b || has_begun more)) is ∙ or-true (has_begun block)

-- ---- a line among others

cut : (ls : List (List ℕ)) (k : ℕ) → k < length ls → ls ≡ take k ls ++ get_or ls k [] ∷ drop (suc k) ls
cut ls k below = sym (take-append-drop k ls) ∙ ap (λ (l : List (List ℕ)). take k ls ++ l) (drop-cons ls k [] below)

after_all : (before after : List (List ℕ)) → AreLines (before ++ after) → AreLines after
after_all [] after h = h
after_all (line ∷ before) after h = after_all before after h.1

line_at : (all done : List (List ℕ)) (line : List ℕ) (rest : List (List ℕ)) (k : ℕ) → all ≡ done ++ line ∷ rest → length done ≡ k → talk_why_at all (k + 1) ≡ why_talk_entry (Some line) done
line_at all done line rest k whole at =
    ap (λ (l : List (List ℕ)). talk_why_at l (k + 1)) whole ∙ ap (λ (n : ℕ). talk_why_at (done ++ line ∷ rest) (n + 1)) (sym at) ∙ at_next done line rest

not_some : (w : TextWhy) (o : Option TextWhy) → o ≡ None → o ≡ Some w → ⊥
not_some w o none some = cc

-- ---- no line of a talk is refused

module _ (text : List ℕ) (t : Talk) (a : IsTalk text t) where
  stays : All (λ line. is_begin line ≡ false) a.block
  stays k d below = read_stays (get_or a.block k d) (a.each k d below)

  closes : is_begin a.begin ≡ true
  closes = rw (a.utf8, a.begins) refl

  said_lines : AreLines a.said
  said_lines = (after_all a.block (a.begin ∷ a.said) (subst AreLines a.whole (are_lines text))).1

  in_the_block : (k : ℕ) (w : TextWhy) → k < length a.block → talk_why_at (lines text) (k + 1) ≡ Some w → ⊥
  in_the_block k w below e =
      let line = get_or a.block k [] in
      let before = take k a.block in
      let after = drop (suc k) a.block in
      let piece : a.block ≡ before ++ line ∷ after = cut a.block k below in
      let whole : lines text ≡ before ++ line ∷ (after ++ a.begin ∷ a.said) = a.whole ∙ ap (λ (l : List (List ℕ)). l ++ a.begin ∷ a.said) piece ∙ append_assoc before (line ∷ after) (a.begin ∷ a.said) in
      let none : has_begun before ≡ false = list_any_none is_begin before (All-take (λ line. is_begin line ≡ false) k a.block stays) in
      let at = line_at (lines text) before line (after ++ a.begin ∷ a.said) k whole (length-take-le k a.block (omega (arith, below))) in
      let here = sym (at ∙ in_block before line false none (stays k [] below)) ∙ e in
      let said : items_in a.block ≡ items_in before ++ cons_option (item_in line) (items_in after) = ap items_in piece ∙ filter_map-append item_in before (line ∷ after) in
      not_line (items_in before) (items_in after) t.desc w line (a.each k [] below) (subst (λ (l : List Item). Describes l t.desc) said a.describes) here

  at_begin : talk_why_at (lines text) (length a.block + 1) ≡ None
  at_begin =
      let none : has_begun a.block ≡ false = list_any_none is_begin a.block stays in
      let right : or_else (why_end (items_in a.block)) (why_more (words a.begin)) ≡ None = rw (end_none (items_in a.block) t.desc a.describes, a.begins) refl in
      line_at (lines text) a.block a.begin a.said (length a.block) a.whole refl ∙ in_block a.block a.begin true none closes ∙ right

  in_the_events : (j : ℕ) → j < length a.said → talk_why_at (lines text) (length a.block + 1 + j + 1) ≡ None
  in_the_events j below =
      let line = get_or a.said j [] in
      let before = take j a.said in
      let rest = drop (suc j) a.said in
      let done = a.block ++ a.begin ∷ before in
      let whole : lines text ≡ done ++ line ∷ rest = a.whole ∙ ap (λ (l : List (List ℕ)). a.block ++ a.begin ∷ l) (cut a.said j below) ∙ sym (append_assoc a.block (a.begin ∷ before) (line ∷ rest)) in
      let long : length done ≡ length a.block + 1 + j = omega (arith, length-append a.block (a.begin ∷ before), length-take-le j a.said (omega (arith, below))) in
      let right : why_event line ≡ None = All-from_recursion (λ line. why_event line ≡ None) a.said (say_right a.said t.events said_lines a.says) j [] below in
      line_at (lines text) done line rest (length a.block + 1 + j) whole long ∙ in_events done line (begun_after a.block a.begin before closes) ∙ right

  at_the_end : talk_why_at (lines text) (length (lines text) + 1) ≡ None
  at_the_end =
      let begun : has_begun (lines text) ≡ true = ap has_begun a.whole ∙ begun_after a.block a.begin a.said closes in
      at_end (lines text) ∙ ap (λ (b : Bool). cond b None (Some why.Missing)) begun

  past_the_block : (k j : ℕ) (w : TextWhy) → k ≡ length a.block + j → j < length a.said + 1 → talk_why_at (lines text) (k + 1) ≡ Some w → ⊥
  past_the_block k zero w at below e =
      let same : k + 1 ≡ length a.block + 1 = omega (arith, at) in
      not_some w _ (ap (talk_why_at (lines text)) same ∙ at_begin) e
  past_the_block k (suc j) w at below e =
      let same : k + 1 ≡ length a.block + 1 + j + 1 = omega (arith, at) in
      not_some w _ (ap (talk_why_at (lines text)) same ∙ in_the_events j (omega (arith, below))) e

  not_wrong : (k : ℕ) (w : TextWhy) → k ≤ length (lines text) → talk_why_at (lines text) (k + 1) ≡ Some w → ⊥
  not_wrong k w within e =
      let long : length (lines text) ≡ length a.block + 1 + length a.said = omega (arith, ap length a.whole, length-append a.block (a.begin ∷ a.said)) in
      ⊎_elim (λ below. in_the_block k w below e)
      (λ past. ⊎_elim
      (λ below. past_the_block k (k - length a.block) w (omega (arith, past)) (omega (arith, below, past, long)) e)
      (λ over.
      let last : k + 1 ≡ length (lines text) + 1 = omega (arith, over, within) in
      not_some w _ (ap (talk_why_at (lines text)) last ∙ at_the_end) e)
      (order k (length (lines text))))
      (order k (length a.block))

-- a text that is a talk has no line that is refused
pub talk_not_bad : NeverReadsAndRefused IsTalk talk_why_at
talk_not_bad text t n w a bad =
    let same : bad.place ≡ bad.place - 1 + 1 = omega (arith, bad.counted.0) in
    not_wrong text t a (bad.place - 1) w (omega (arith, bad.counted.0, bad.counted.1)) (ap (talk_why_at (lines text)) (sym same) ∙ bad.here)

-- no text has two first lines that are refused
pub one_bad : OneFault talk_why_at
one_bad text m n v w a b = one_first talk_why_at (lines text) m n v w a b

-- ---- a text is one talk

heads : (x y : List (List ℕ)) (xs ys : List (List (List ℕ))) → x ∷ xs ≡ y ∷ ys → x ≡ y
heads x y xs ys e = cc

tails : (x y : List ℕ) (xs ys : List (List ℕ)) → x ∷ xs ≡ y ∷ ys → xs ≡ ys
tails x y xs ys e = cc

-- the lines before the first that closes a block, and then the others
opens : (text : List ℕ) (t : Talk) (a : IsTalk text t) → slice_split is_begin (lines text) ≡ a.block ∷ slice_split is_begin a.said
opens text t a = ap (slice_split is_begin) a.whole ∙ slice_split_at is_begin a.block a.begin a.said (stays text t a) (closes text t a)

one_block : (text : List ℕ) (t u : Talk) (a : IsTalk text t) (b : IsTalk text u) → a.block ≡ b.block
one_block text t u a b = heads _ _ _ _ (sym (opens text t a) ∙ opens text u b)

one_rest : (text : List ℕ) (t u : Talk) (a : IsTalk text t) (b : IsTalk text u) → a.said ≡ b.said
one_rest text t u a b =
    let after_a = sym (drop-append_seam a.block (a.begin ∷ a.said)) ∙ ap (drop (length a.block)) (sym a.whole) in
    let after_b = ap (drop (length b.block)) b.whole ∙ drop-append_seam b.block (b.begin ∷ b.said) in
    let same = ap (λ (l : List (List ℕ)). drop (length l) (lines text)) (one_block text t u a b) in
    tails _ _ _ _ (after_a ∙ same ∙ after_b)

pub one_talk : OneValue IsTalk
one_talk text t u a b =
    let desc : t.desc ≡ u.desc = one_desc (items_in a.block) t.desc u.desc a.describes (subst (λ (l : List (List ℕ)). Describes (items_in l) u.desc) (sym (one_block text t u a b)) b.describes) in
    let said : t.events ≡ u.events =
    say_on a.said t.events (said_lines text t a) a.says ∙ ap (flat_map events_on) (one_rest text t u a b) ∙ sym (say_on b.said u.events (said_lines text u b) b.says) in
    λ i. record { desc = desc i; events = said i }
