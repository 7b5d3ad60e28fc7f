-- What the reader takes is of the grammar.
use Rattle.std.proofs.Common.{◌≡◌, ℕ, ◌+◌, ◌<◌, ◌≤◌, Bool, true, false, ◌&&◌, ◌||◌, cond, eqb, ltb, ◌⊎◌, inl, inr, ⊎_elim, List, [], ◌∷◌, ◌++◌, length, Option, Some, None, Result, Ok, is_some, refl, sym, ap, ◌∙◌, subst, arith, append-nil, append_assoc, length-append}
use Rattle.std.proofs.lemmas.Bool.Decides.{nat_tests}
use Rattle.text_lines.specs.Texts.{words, is_skipped}
use Rattle.text_lines.specs.declared.reasons.TextWhy.{TextWhy}
use Rattle.text_lines.specs.declared.reasons.TextWhy.TheVariants as why
use Rattle.desc_text.specs.Items.{item_of}
use Rattle.text_lines.specs.Causes.{came, or_else, refused_if, when}
use Rattle.desc_text.specs.Judging.{why_item}
use Rattle.desc_text.proofs.Held.{not_refused, not_not, none_first}
use Rattle.desc_text.specs.declared.keys.Key.{Key}
use Rattle.desc_text.specs.declared.items.Item.{Item}
use Rattle.slave_desc.specs.declared.descriptions.SlaveDesc.{SlaveDesc}
use Rattle.scenario_text.specs.Keys.{section_of, closes_block}
use Rattle.scenario_text.specs.Heads.{head_item, is_said, runs_said}
use Rattle.scenario_text.specs.Links.{link_of}
use Rattle.scenario_text.specs.Checks.{why_link}
use Rattle.scenario_text.specs.Clashes.{why_head, why_among, is_chaos}
use Rattle.scenario_text.specs.Said.{scenario_of, key_of_words, key_at, args_of, lines_in, section_now, head_said, group, blocks, slaves_of_blocks, slaves_said, links_said, block_for, slaves_for, scenario_said}
use Rattle.scenario_text.specs.Judging.{why_closes, why_item_read, why_link_read, why_acts, why_scenario_line, scenario_why_at, why_end_of}
use Rattle.scenario_text.specs.Grammar.{reads_by, is_read, IsOrdered, MayFollow, IsNew, AreSlaveBlocks, AreOf}
use Rattle.scenario_text.proofs.Orders.{earlier_lines, earlier_head, same_now}
use Rattle.scenario_text.proofs.Passing.{PassedKey, passed, new_item, fits_if}
use Rattle.scenario_text.proofs.Moves.{chaos_key, and_one, lines_push, head_push}
use Rattle.std.proofs.str.Laws.{order}
use Rattle.scenario.specs.Sound.{IsScenario}
use Rattle.scenario_text.proofs.Groups.{all_said}
use Rattle.scenario_text.proofs.Judged.{at_next, at_end}
use Rattle.scenario_text.specs.declared.keys.HeadKey.{HeadKey}
use Rattle.scenario_text.specs.declared.keys.LinkKey.{LinkKey}
use Rattle.scenario_text.specs.declared.keys.AnyKey.{AnyKey}
use Rattle.scenario_text.specs.declared.keys.AnyKey.TheVariants as any
use Rattle.scenario_text.specs.declared.heads.HeadItem.{HeadItem}
use Rattle.scenario_text.specs.declared.link_words.LinkLine.{LinkLine}
use Rattle.scenario_text.specs.declared.collected.Links.{Links}
use Rattle.scenario.specs.declared.scenarios.Scenario.{Scenario}
use Rattle.scenario_text.proofs.Refusing.{item_none, bad_none, link_none}

is_less : (m n : ℕ) → m < n → ltb m n ≡ true
is_less m n h = grind (arith, nat_tests)

-- nothing is wrong with any line
abbrev pub Passes : List (List ℕ) → Type 0
Passes ls = (n : ℕ) → 0 < n → n < length ls + 2 → scenario_why_at ls n ≡ None

some_same : {X : Type 0} (x y : X) → Some x ≡ Some y → x ≡ y
some_same x y e = cc

none_some : {X : Type 0} (o : Option X) (x : X) → o ≡ None → o ≡ Some x → ⊥
none_some o x e f = cc

or_true : (b c : Bool) → c ≡ true → (b || c) ≡ true
or_true true c e = refl
or_true false c e = e

item_right : (all : List Item) (head : List HeadItem) (slaves : List SlaveDesc) (x : Result Item TextWhy) (i : Item) → x ≡ Ok i → why_item_read all head slaves x ≡ None → why_among head slaves i ≡ None
item_right all head slaves x i e h = (none_first (why_item all i) (why_among head slaves i) (ap (why_item_read all head slaves) (sym e) ∙ h)).1

link_right : (slaves : List SlaveDesc) (links : Links) (x : Result LinkLine TextWhy) (l : LinkLine) → x ≡ Ok l → why_link_read slaves links x ≡ None → why_link slaves links l ≡ None
link_right slaves links x l e h = ap (why_link_read slaves links) (sym e) ∙ h

module _ (ls : List (List ℕ)) (p : Passes ls) where
  line_passes : (before after : List (List ℕ)) (l : List ℕ) → ls ≡ before ++ l ∷ after → why_scenario_line before l ≡ None
  line_passes before after l e =
      let long = ap length e in
      let more = length-append before (l ∷ after) in
      sym (at_next before l after) ∙ ap (λ (ls : List (List ℕ)). scenario_why_at ls (length before + 1)) (sym e) ∙ p (length before + 1) (omega arith) (omega (arith, long, more))

  -- a line of a key
  keyed : (before after : List (List ℕ)) (l : List ℕ) (key : AnyKey) → ls ≡ before ++ l ∷ after → key_at l ≡ Some key → (section_now before ≤ section_of key) × (why_closes before (closes_block key) (section_of key) ≡ None) × (why_acts before key (args_of (words l)) ≡ None)
  keyed before after l key e k = by (passed before l (line_passes before after l e)).said
    where
      by : (is_skipped (words l) ≡ true) ⊎ PassedKey before l → (section_now before ≤ section_of key) × (why_closes before (closes_block key) (section_of key) ≡ None) × (why_acts before key (args_of (words l)) ≡ None)
      by (inl skip) = absurd (none_some (key_at l) key (ap (λ (b : Bool). cond b None (key_of_words (words l))) skip) k)
      by (inr q) =
          let same : q.key ≡ key = some_same q.key key (sym q.at ∙ k) in
          subst (λ (key : AnyKey). (section_now before ≤ section_of key) × (why_closes before (closes_block key) (section_of key) ≡ None) × (why_acts before key (args_of (words l)) ≡ None)) same (q.order, q.closes, q.acts)

  pub ordered : IsOrdered ls
  ordered before after l key e k = (keyed before after l key e k).0

  module _ (before after : List (List ℕ)) (l : List ℕ) (split : ls ≡ before ++ l ∷ after) where
    in_order : IsOrdered (before ++ l ∷ after)
    in_order = subst IsOrdered split ordered

    slaves_same : (k : LinkKey) → key_at l ≡ Some (any.Link k) → slaves_said before ≡ slaves_said ls
    slaves_same k at = sym (ap (λ (x : List (List ℕ)). slaves_of_blocks (group x)) (ap (lines_in 1) split ∙ earlier_lines 1 before after l (any.Link k) in_order at (omega arith)))

    head_same : (k : LinkKey) → key_at l ≡ Some (any.Link k) → head_said before ≡ head_said ls
    head_same k at = sym (ap head_said split ∙ earlier_head before after l (any.Link k) in_order at (omega arith))

    link_acts : (k : LinkKey) → key_at l ≡ Some (any.Link k) → (refused_if (is_chaos k && is_some (links_said before).net.chaos) why.Repeated ≡ None) × (why_link_read (slaves_said ls) (links_said before) (link_of (slaves_said ls) (runs_said (head_said ls)) k (args_of (words l))) ≡ None)
    link_acts k at =
        let t = none_first (refused_if (is_chaos k && is_some (links_said before).net.chaos) why.Repeated) (why_link_read (slaves_said before) (links_said before) (link_of (slaves_said before) (runs_said (head_said before)) k (args_of (words l)))) (keyed before after l (any.Link k) split at).2 in (
          t.0,
          subst (λ (s : List SlaveDesc). why_link_read s (links_said before) (link_of s (runs_said (head_said ls)) k (args_of (words l))) ≡ None) (slaves_same k at)
              (subst (λ (h : List HeadItem). why_link_read (slaves_said before) (links_said before) (link_of (slaves_said before) (runs_said h) k (args_of (words l))) ≡ None) (head_same k at) t.1),
        )

    reads_of : (key : AnyKey) → key_at l ≡ Some key → reads_by (slaves_said ls) (runs_said (head_said ls)) (Some key) (args_of (words l)) ≡ true
    reads_of (any.Head k) at = bad_none (head_item k (args_of (words l))) (none_first (refused_if (is_said k (head_said before)) why.Repeated) _ (keyed before after l (any.Head k) split at).2).1
    reads_of (any.Block k) at = item_none (block_for before k) (head_said before) (slaves_for before k) (item_of k (args_of (words l))) (none_first _ _ (keyed before after l (any.Block k) split at).2).1
    reads_of (any.Link k) at = link_none (slaves_said ls) (links_said before) (link_of (slaves_said ls) (runs_said (head_said ls)) k (args_of (words l))) (link_acts k at).1

    read_by : (is_skipped (words l) ≡ true) ⊎ PassedKey before l → (is_skipped (words l) || reads_by (slaves_said ls) (runs_said (head_said ls)) (key_at l) (args_of (words l))) ≡ true
    read_by (inl skip) = ap (λ (b : Bool). b || reads_by (slaves_said ls) (runs_said (head_said ls)) (key_at l) (args_of (words l))) skip
    read_by (inr q) = or_true (is_skipped (words l)) _ (ap (λ (k : Option AnyKey). reads_by (slaves_said ls) (runs_said (head_said ls)) k (args_of (words l))) q.at ∙ reads_of q.key q.at)

    pub reads_line : is_read (slaves_said ls) (runs_said (head_said ls)) l ≡ true
    reads_line =
        let q = passed before l (line_passes before after l split) in
        ap (λ (u : Bool). u && (is_skipped (words l) || reads_by (slaves_said ls) (runs_said (head_said ls)) (key_at l) (args_of (words l)))) q.utf8 ∙ read_by q.said

    pub once_line : (k : HeadKey) → key_at l ≡ Some (any.Head k) → is_said k (head_said before) ≡ false
    once_line k at = not_refused (is_said k (head_said before)) why.Repeated (none_first (refused_if (is_said k (head_said before)) why.Repeated) _ (keyed before after l (any.Head k) split at).2).0

    pub new_line : (k : Key) (i : Item) → key_at l ≡ Some (any.Block k) → item_of k (args_of (words l)) ≡ Ok i → IsNew (head_said before) (slaves_for before k) i
    new_line k i at read = new_item (head_said before) (slaves_for before k) i (item_right (block_for before k) (head_said before) (slaves_for before k) (item_of k (args_of (words l))) i read (none_first _ _ (keyed before after l (any.Block k) split at).2).1)

    pub fit_line : (k : LinkKey) (x : LinkLine) → key_at l ≡ Some (any.Link k) → link_of (slaves_said ls) (runs_said (head_said ls)) k (args_of (words l)) ≡ Ok x → MayFollow (slaves_said ls) (links_said before) x
    fit_line k x at read =
        let t = link_acts k at in
        fits_if (slaves_said ls) (links_said before) x
        (λ c. and_one (is_chaos k) (is_some (links_said before).net.chaos) (not_refused _ why.Repeated t.0) (chaos_key (slaves_said ls) (runs_said (head_said ls)) k (args_of (words l)) x read c))
        (link_right (slaves_said ls) (links_said before) (link_of (slaves_said ls) (runs_said (head_said ls)) k (args_of (words l))) x read t.1)

  -- ---- the head is whole where it closed

  closed_head : (n section : ℕ) (o rest : Option TextWhy) → n ≡ 0 → 0 < section → or_else (when (eqb n 0 && ltb 0 section) o) rest ≡ None → o ≡ None
  closed_head n section o rest z late e =
      let t = (none_first (when (eqb n 0 && ltb 0 section) o) rest e).0 in
      let test : (eqb n 0 && ltb 0 section) ≡ true = ap (λ (n : ℕ). eqb n 0 && ltb 0 section) z ∙ is_less 0 section late in
      ap (λ (b : Bool). when b o) (sym test) ∙ t

  abbrev IsClosed : List (List ℕ) → Type 0
  IsClosed done = 1 ≤ section_now done → why_head (head_said done) ≡ None

  late_head : (done rest : List (List ℕ)) (l : List ℕ) (key : AnyKey) → ls ≡ done ++ l ∷ rest → key_at l ≡ Some key → IsClosed done → 0 < section_of key → why_head (head_said done) ≡ None
  late_head done rest l key split k closed late =
      ⊎_elim
      (λ some. closed some)
      (λ none. closed_head (section_now done) (section_of key) (why_head (head_said done)) _ (omega arith) late (keyed done rest l key split k).1)
      (order 0 (section_now done))

  step_by : (done rest : List (List ℕ)) (l : List ℕ) (key : Option AnyKey) → ls ≡ done ++ l ∷ rest → key_at l ≡ key → IsClosed done → IsClosed (done ++ l ∷ [])
  step_by done rest l None split k closed some =
      ap why_head (head_push done l None k ∙ append-nil (head_said done)) ∙ closed (subst (λ (n : ℕ). 1 ≤ n) (same_now done l k) some)
  step_by done rest l (Some (any.Head h)) split k closed some =
      let up = (keyed done rest l (any.Head h) split k).0 in
      let one = lines_push 1 done l (Some (any.Head h)) k ∙ append-nil (lines_in 1 done) in
      let two = lines_push 2 done l (Some (any.Head h)) k ∙ append-nil (lines_in 2 done) in
      let same : section_now (done ++ l ∷ []) ≡ section_now done = ap (λ (x : List (List ℕ)). cond (came x) 2 (cond (came (lines_in 1 (done ++ l ∷ []))) 1 0)) two ∙ ap (λ (x : List (List ℕ)). cond (came (lines_in 2 done)) 2 (cond (came x) 1 0)) one in
      absurd (omega (arith, up, some, same))
  step_by done rest l (Some (any.Block b)) split k closed some =
      ap why_head (head_push done l (Some (any.Block b)) k ∙ append-nil (head_said done)) ∙ late_head done rest l (any.Block b) split k closed (omega arith)
  step_by done rest l (Some (any.Link x)) split k closed some =
      ap why_head (head_push done l (Some (any.Link x)) k ∙ append-nil (head_said done)) ∙ late_head done rest l (any.Link x) split k closed (omega arith)

  complete_from : (done rest : List (List ℕ)) → ls ≡ done ++ rest → IsClosed done → IsClosed ls
  complete_from done [] e c = subst IsClosed (sym (e ∙ append-nil done)) c
  complete_from done (l ∷ rest) e c = complete_from (done ++ l ∷ []) rest (e ∙ sym (append_assoc done (l ∷ []) rest)) (step_by done rest l (key_at l) e refl c)

  ends : why_end_of ls ≡ None
  ends = sym (at_end ls) ∙ p (length ls + 1) (omega arith) (omega arith)

  head_closed : why_head (head_said ls) ≡ None
  head_closed =
      ⊎_elim
      (λ some. complete_from [] ls refl (λ h. absurd (omega arith)) some)
      (λ none. closed_head (section_now ls) 2 (why_head (head_said ls)) _ (omega arith) (omega arith) ends)
      (order 0 (section_now ls))

  -- what passes is of the grammar, where its blocks describe the slaves
  pub grammatical : (s : Scenario) → AreSlaveBlocks (blocks ls) s.slaves → IsScenario s → s ≡ scenario_said ls → AreOf ls s
  grammatical s slaves sound says =
      let same : slaves_said ls ≡ s.slaves = all_said (blocks ls) s.slaves slaves in
      let runs : runs_said (head_said ls) ≡ s.runs = sym (ap (λ (s : Scenario). s.runs) says) in
      record {
        each = λ before after l split. subst (λ (n : ℕ). is_read s.slaves n l ≡ true) runs (subst (λ (sl : List SlaveDesc). is_read sl (runs_said (head_said ls)) l ≡ true) same (reads_line before after l split));
        in_order = ordered;
        once = λ before after l k split at. once_line before after l split k at;
        required = not_not _ (not_refused _ why.Missing head_closed);
        slaves = slaves;
        few = sound.few_slaves;
        new = λ before after l k i split at read. new_line before after l split k i at read;
        small = sound.small;
        fit = λ before after l k x split at read.
            subst (λ (sl : List SlaveDesc). MayFollow sl (links_said before) x) same
            (fit_line before after l split k x at (ap (λ (sl : List SlaveDesc). link_of sl (runs_said (head_said ls)) k (args_of (words l))) same ∙ ap (λ (n : ℕ). link_of s.slaves n k (args_of (words l))) runs ∙ read));
        says = says ∙ ap (λ (sl : List SlaveDesc). scenario_of (head_said ls) sl (links_said ls)) same;
      }
