-- The reader stands where the lines before it say: what it takes and refuses is what the judging says.
use Rattle.std.proofs.Common.{◌≡◌, ◌≢◌, ℕ, ◌<◌, ◌≤◌, Bool, true, false, not, ◌&&◌, cond, eqb, ltb, leb, List, [], ◌∷◌, ◌++◌, length, Option, Some, None, Result, Ok, Err, is_some, refl, sym, ap, ◌∙◌, subst, arith, append-nil}
use Rattle.std.specs.List.{filter_map}
use Rattle.std.specs.Option.{option_to_list}
use Rattle.std.specs.Str.{is_utf8}
use Rattle.std.proofs.lemmas.Bool.{false≢true}
use Rattle.text_lines.specs.Texts.{words, is_skipped}
use Rattle.text_lines.specs.Causes.{◌>>=◌, came, or_else, refused_if, unless, when, bad}
use Rattle.text_lines.proofs.Results.{bind_ok, given_same, moved}
use Rattle.text_lines.specs.declared.reasons.TextWhy.{TextWhy}
use Rattle.text_lines.specs.declared.reasons.TextWhy.TheVariants as why
use Rattle.desc_text.specs.Items.{item_of}
use Rattle.desc_text.specs.Said.{name_in, items_in}
use Rattle.desc_text.specs.Judging.{came_before, why_key, why_end}
use Rattle.desc_text.specs.Machine.{has, put_item, why_held, nothing}
use Rattle.desc_text.specs.Machine as block
use Rattle.desc_text.proofs.Held.{Holds, holds_nothing, same_has, same_named, same_why}
use Rattle.desc_text.proofs.Judged.{unless_ok, end_ok, end_err}
use Rattle.desc_text.proofs.Apart.{end_none}
use Rattle.desc_text.specs.declared.keys.Key.{Key}
use Rattle.desc_text.specs.declared.keys.Key.TheVariants as keys
use Rattle.desc_text.specs.declared.items.Item.{Item}
use Rattle.desc_text.specs.declared.partials.Partial.{Partial}
use Rattle.slave_desc.specs.declared.descriptions.SlaveDesc.{SlaveDesc}
use Rattle.scenario_text.specs.Keys.{any_key, section_of, closes_block}
use Rattle.scenario_text.specs.Heads.{head_item, is_said, runs_said}
use Rattle.scenario_text.specs.Links.{link_of}
use Rattle.scenario_text.specs.Checks.{why_link}
use Rattle.scenario_text.specs.Collecting.{put_link}
use Rattle.scenario_text.specs.Clashes.{why_head, why_slaves, why_among, is_chaos}
use Rattle.scenario_text.specs.Machine.{close_head, close_block, close_slaves, closes, take_head, take_scenario_block, take_link, act_on_key, take_scenario_keyed, take_scenario_words, take_scenario_line}
use Rattle.scenario_text.specs.Said.{lines_in, section_now, head_said, group, blocks, last_of, front_of, slaves_of_blocks, slaves_said, links_said}
use Rattle.scenario_text.specs.Judging.{why_scenario_block, why_closes, why_item_read, why_link_read, why_acts, why_scenario_keyed, why_scenario_words, why_scenario_line}
use Rattle.scenario_text.proofs.Groups.{last_is, front_is, AreSlaveBlocks, slaves_more, all_said}
use Rattle.scenario_text.proofs.Kept.{head_same, last_closes, closed_with}
use Rattle.scenario_text.specs.declared.keys.HeadKey.{HeadKey}
use Rattle.scenario_text.specs.declared.keys.LinkKey.{LinkKey}
use Rattle.scenario_text.specs.declared.keys.AnyKey.{AnyKey}
use Rattle.scenario_text.specs.declared.keys.AnyKey.TheVariants as any
use Rattle.scenario_text.specs.declared.heads.HeadItem.{HeadItem}
use Rattle.scenario_text.specs.declared.link_words.LinkLine.{LinkLine}
use Rattle.scenario_text.specs.declared.collected.Links.{Links}
use Rattle.scenario_text.specs.declared.readers.Reader.{Reader}
use Rattle.text_lines.proofs.NumberTests.{equal_numbers, not_above}
use Rattle.scenario_text.proofs.Refusing.{is_few}

-- the open block holds what its lines say
abbrev pub IsOpen : Option (List (List ℕ)) → Partial → Type 0
IsOpen None p = p ≡ nothing
IsOpen (Some g) p = Holds (items_in g) p × (is_some p.name ≡ true)

pub record Stands (ls : List (List ℕ)) (r : Reader) : Type 0 where
  pub section : r.section ≡ section_now ls
  pub head : r.head ≡ head_said ls
  pub closed : List (List (List ℕ))
  pub now : Option (List (List ℕ))
  pub split : blocks ls ≡ closed ++ option_to_list now
  pub slaves : AreSlaveBlocks closed r.slaves
  pub block : IsOpen now r.block
  pub at : is_some now ≡ eqb r.section 1
  pub room : is_some now ≡ true → length r.slaves < 16
  pub early : r.section < 2 → lines_in 2 ls ≡ []
  pub first : r.section ≡ 0 → lines_in 1 ls ≡ []
  pub links : r.links ≡ links_said ls

-- ---- causes one after another

or_none : (o : Option TextWhy) → or_else o None ≡ o
or_none None = refl
or_none (Some w) = refl

bad_unless : {X : Type 0} (o : Option TextWhy) (x : Result X TextWhy) → bad (unless o x) ≡ or_else o (bad x)
bad_unless None x = refl
bad_unless (Some w) x = refl

bad_then : {A B : Type 0} (x : Result A TextWhy) (f : A → B) → bad (x >>= λ a. Ok (f a)) ≡ bad x
bad_then (Ok a) f = refl
bad_then (Err w) f = refl

seq_bad : {A B : Type 0} (x : Result A TextWhy) (f : A → Result B TextWhy) (rest : Option TextWhy) → ((a : A) → x ≡ Ok a → bad (f a) ≡ rest) → bad (x >>= f) ≡ or_else (bad x) rest
seq_bad (Ok a) f rest h = h a refl
seq_bad (Err w) f rest h = refl

and_false : (b : Bool) → (b && false) ≡ false
and_false true = refl
and_false false = refl

-- ---- the open block closes

abbrev why_open : Option (List (List ℕ)) → Option TextWhy
why_open None = None
why_open (Some g) = why_end (items_in g)

abbrev finishing : Reader → Result Reader TextWhy
finishing r = block.finished r.block >>= λ d. Ok (closed_with r d)

unnamed_same : (r : Reader) → is_some r.block.name ≡ false → close_block r ≡ Ok r
unnamed_same r e = ap (λ b. cond b (unless (refused_if (leb 16 (length r.slaves)) why.Limit) (finishing r)) (Ok r)) e

named_same : (r : Reader) → is_some r.block.name ≡ true → length r.slaves < 16 → close_block r ≡ finishing r
named_same r e room =
    ap (λ b. cond b (unless (refused_if (leb 16 (length r.slaves)) why.Limit) (finishing r)) (Ok r)) e
    ∙ ap (λ b. unless (refused_if b why.Limit) (finishing r)) (is_few (length r.slaves) room)

end_bad : (g : List (List ℕ)) (p : Partial) (x : Result SlaveDesc TextWhy) → Holds (items_in g) p → block.finished p ≡ x → bad x ≡ why_end (items_in g)
end_bad g p (Ok d) h e = sym (end_none (items_in g) d (end_ok (items_in g) p h d e))
end_bad g p (Err w) h e = sym (end_err (items_in g) p h w e)

block_bad : (now : Option (List (List ℕ))) (r : Reader) → IsOpen now r.block → (is_some now ≡ true → length r.slaves < 16) → bad (close_block r) ≡ why_open now
block_bad None r none room = ap bad (unnamed_same r (ap (λ (p : Partial). is_some p.name) none))
block_bad (Some g) r held room = ap bad (named_same r held.1 (room refl)) ∙ bad_then (block.finished r.block) (closed_with r) ∙ end_bad g r.block (block.finished r.block) held.0 refl

-- what closing leaves
pub record Shut (gs : List (List (List ℕ))) (r q : Reader) : Type 0 where
  pub slaves : AreSlaveBlocks gs q.slaves
  pub block : q.block ≡ nothing
  pub section : q.section ≡ r.section
  pub head : q.head ≡ r.head
  pub links : q.links ≡ r.links

block_shut : (closed : List (List (List ℕ))) (now : Option (List (List ℕ))) (r q : Reader) → AreSlaveBlocks closed r.slaves → IsOpen now r.block → (is_some now ≡ true → length r.slaves < 16) → close_block r ≡ Ok q → Shut (closed ++ option_to_list now) r q
block_shut closed None r q slaves none room e =
    moved (λ (q : Reader). Shut (closed ++ []) r q) r q (sym (unnamed_same r (ap (λ (p : Partial). is_some p.name) none)) ∙ e)
    (record { slaves = subst (λ (l : List (List (List ℕ))). AreSlaveBlocks l r.slaves) (sym (append-nil closed)) slaves; block = none; section = refl; head = refl; links = refl })
block_shut closed (Some g) r q slaves held room e =
    let d = bind_ok (block.finished r.block) (λ d. Ok (closed_with r d)) q (sym (named_same r held.1 (room refl)) ∙ e) in
    moved (λ (q : Reader). Shut (closed ++ g ∷ []) r q) (closed_with r d.0) q d.2
    (record { slaves = slaves_more closed r.slaves g d.0 slaves (end_ok (items_in g) r.block held.0 d.0 d.1); block = refl; section = refl; head = refl; links = refl })

-- ---- what a line closes

abbrev tail : ℕ → Reader → Result Reader TextWhy
tail section b = (cond (ltb b.section 2 && eqb section 2) (close_slaves b) (Ok b)) >>= λ c. Ok (record c { section = section })

tail_by : (o : Option TextWhy) (b : Reader) (section : ℕ) → bad (unless o (Ok b) >>= λ c. Ok (record c { section = section })) ≡ o
tail_by None b section = refl
tail_by (Some w) b section = refl

tail_bad : (c : Bool) (b : Reader) (section : ℕ) → bad ((cond c (close_slaves b) (Ok b)) >>= λ c. Ok (record c { section = section })) ≡ when c (why_slaves b.head b.slaves)
tail_bad true b section = tail_by (why_slaves b.head b.slaves) b section
tail_bad false b section = refl

head_bad : (c : Bool) (r : Reader) → bad (cond c (close_head r) (Ok r)) ≡ when c (why_head r.head)
head_bad true r = bad_unless (why_head r.head) (Ok r) ∙ or_none (why_head r.head)
head_bad false r = refl

slaves_same : (c : Bool) (r q : Reader) → cond c (close_slaves r) (Ok r) ≡ Ok q → r ≡ q
slaves_same true r q e = given_same r q (unless_ok (why_slaves r.head r.slaves) (Ok r) q e).1
slaves_same false r q e = given_same r q e

-- what closing leaves, where it ends a block or not
pub record After (ls : List (List ℕ)) (r q : Reader) (ends : Bool) (section : ℕ) : Type 0 where
  pub arrived : q.section ≡ section
  pub head : q.head ≡ r.head
  pub links : q.links ≡ r.links
  pub shut : ends ≡ true → AreSlaveBlocks (blocks ls) q.slaves × (q.block ≡ nothing)
  pub kept : ends ≡ false → (q.slaves ≡ r.slaves) × (q.block ≡ r.block)

module _ (ls : List (List ℕ)) (r : Reader) (h : Stands ls r) where
  named_last : (now : Option (List (List ℕ))) → is_some now ≡ eqb r.section 1 → blocks ls ≡ h.closed ++ option_to_list now → why_scenario_block ls ≡ why_open now
  named_last None at split = ap (λ (n : ℕ). when (eqb n 1) (why_end (items_in (last_of (blocks ls))))) (sym h.section) ∙ ap (λ (b : Bool). when b (why_end (items_in (last_of (blocks ls))))) (sym at)
  named_last (Some g) at split =
      ap (λ (n : ℕ). when (eqb n 1) (why_end (items_in (last_of (blocks ls))))) (sym h.section)
      ∙ ap (λ (b : Bool). when b (why_end (items_in (last_of (blocks ls))))) (sym at)
      ∙ ap (λ (gs : List (List (List ℕ))). why_end (items_in (last_of gs))) split
      ∙ ap (λ (g : List (List ℕ)). why_end (items_in g)) (last_is h.closed g)

  ends_bad : (ends : Bool) → bad (cond ends (close_block r) (Ok r)) ≡ when ends (why_scenario_block ls)
  ends_bad true = block_bad h.now r h.block h.room ∙ sym (named_last h.now h.at h.split)
  ends_bad false = refl

  shut_all : (q : Reader) → close_block r ≡ Ok q → Shut (blocks ls) r q
  shut_all q e = subst (λ (gs : List (List (List ℕ))). Shut gs r q) (sym h.split) (block_shut h.closed h.now r q h.slaves h.block h.room e)

  tail_same : (ends : Bool) (section : ℕ) (b : Reader) (two : Bool) → eqb section 2 ≡ two → (section ≡ 2 → ends ≡ true) → cond ends (close_block r) (Ok r) ≡ Ok b
      → when (ltb b.section 2 && eqb section 2) (why_slaves b.head b.slaves) ≡ when (ltb (section_now ls) 2 && eqb section 2) (why_slaves (head_said ls) (slaves_said ls))
  tail_same ends section b false two last e =
      ap (λ (t : Bool). when (ltb b.section 2 && t) (why_slaves b.head b.slaves)) two ∙ ap (λ (t : Bool). when t (why_slaves b.head b.slaves)) (and_false (ltb b.section 2))
      ∙ sym (ap (λ (t : Bool). when (ltb (section_now ls) 2 && t) (why_slaves (head_said ls) (slaves_said ls))) two ∙ ap (λ (t : Bool). when t (why_slaves (head_said ls) (slaves_said ls))) (and_false (ltb (section_now ls) 2)))
  tail_same false section b true two last e = absurd (false≢true (last (equal_numbers section 2 two)))
  tail_same true section b true two last e =
      let s = shut_all b e in
      ap (λ (n : ℕ). when (ltb n 2 && eqb section 2) (why_slaves b.head b.slaves)) (s.section ∙ h.section)
      ∙ ap (λ (l : List HeadItem). when (ltb (section_now ls) 2 && eqb section 2) (why_slaves l b.slaves)) (s.head ∙ h.head)
      ∙ ap (λ (l : List SlaveDesc). when (ltb (section_now ls) 2 && eqb section 2) (why_slaves (head_said ls) l)) (sym (all_said (blocks ls) b.slaves s.slaves))

  pub closes_bad : (ends : Bool) (section : ℕ) → (section ≡ 2 → ends ≡ true) → why_closes ls ends section ≡ bad (closes r ends section)
  closes_bad ends section last =
      sym (seq_bad (cond (eqb r.section 0 && ltb 0 section) (close_head r) (Ok r)) (λ a. (cond ends (close_block a) (Ok a)) >>= tail section) (or_else (when ends (why_scenario_block ls)) (when (ltb (section_now ls) 2 && eqb section 2) (why_slaves (head_said ls) (slaves_said ls))))
      (λ a e. ap (λ (a : Reader). bad ((cond ends (close_block a) (Ok a)) >>= tail section)) (sym (head_same (eqb r.section 0 && ltb 0 section) r a e))
      ∙ seq_bad (cond ends (close_block r) (Ok r)) (tail section) (when (ltb (section_now ls) 2 && eqb section 2) (why_slaves (head_said ls) (slaves_said ls)))
      (λ b f. tail_bad (ltb b.section 2 && eqb section 2) b section ∙ tail_same ends section b (eqb section 2) refl last f)
      ∙ ap (λ (o : Option TextWhy). or_else o (when (ltb (section_now ls) 2 && eqb section 2) (why_slaves (head_said ls) (slaves_said ls)))) (ends_bad ends))
      ∙ ap (λ (o : Option TextWhy). or_else o (or_else (when ends (why_scenario_block ls)) (when (ltb (section_now ls) 2 && eqb section 2) (why_slaves (head_said ls) (slaves_said ls)))))
      (head_bad (eqb r.section 0 && ltb 0 section) r
      ∙ ap (λ (n : ℕ). when (eqb n 0 && ltb 0 section) (why_head r.head)) h.section
      ∙ ap (λ (l : List HeadItem). when (eqb (section_now ls) 0 && ltb 0 section) (why_head l)) h.head))

  after_by : (ends : Bool) (b : Reader) (section : ℕ) → cond ends (close_block r) (Ok r) ≡ Ok b → After ls r (record b { section = section }) ends section
  after_by true b section e =
      let s = shut_all b e in
      record { arrived = refl; head = s.head; links = s.links; shut = λ _. (s.slaves, s.block); kept = λ f. absurd (false≢true (sym f)) }
  after_by false b section e =
      moved (λ (b : Reader). After ls r (record b { section = section }) false section) r b e (record { arrived = refl; head = refl; links = refl; shut = λ t. absurd (false≢true t); kept = λ _. (refl, refl) })

  pub closes_after : (ends : Bool) (section : ℕ) (q : Reader) → closes r ends section ≡ Ok q → After ls r q ends section
  closes_after ends section q e =
      let a = bind_ok (cond (eqb r.section 0 && ltb 0 section) (close_head r) (Ok r)) _ q e in
      let same_a = head_same (eqb r.section 0 && ltb 0 section) r a.0 a.1 in
      let b = bind_ok (cond ends (close_block a.0) (Ok a.0)) _ q a.2 in
      let c = bind_ok (cond (ltb b.0.section 2 && eqb section 2) (close_slaves b.0) (Ok b.0)) _ q b.2 in
      let same_c = slaves_same (ltb b.0.section 2 && eqb section 2) b.0 c.0 c.1 in
      let from_r : cond ends (close_block r) (Ok r) ≡ Ok b.0 = ap (λ (a : Reader). cond ends (close_block a) (Ok a)) same_a ∙ b.1 in
      moved (λ (q : Reader). After ls r q ends section) (record c.0 { section = section }) q c.2 (subst (λ (c : Reader). After ls r (record c { section = section }) ends section) same_c (after_by ends b.0 section from_r))

-- ---- what a line says

item_bad : (p : Partial) (head : List HeadItem) (slaves : List SlaveDesc) (x : Result Item TextWhy) (next : Item → Reader) (all : List Item) → Holds all p
    → bad (x >>= λ i. unless (why_held p i) (unless (why_among head slaves i) (Ok (next i)))) ≡ why_item_read all head slaves x
item_bad p head slaves (Err w) next all h = refl
item_bad p head slaves (Ok i) next all h =
    bad_unless (why_held p i) (unless (why_among head slaves i) (Ok (next i)))
    ∙ ap (or_else (why_held p i)) (bad_unless (why_among head slaves i) (Ok (next i)) ∙ or_none (why_among head slaves i))
    ∙ ap (λ (o : Option TextWhy). or_else o (why_among head slaves i)) (sym (same_why all p h i))

block_acts : (q : Reader) (key : Key) (args : List (List ℕ)) (all : List Item) (head : List HeadItem) (slaves : List SlaveDesc) → Holds all q.block → q.head ≡ head → q.slaves ≡ slaves
    → or_else (why_key (came_before all key) (came (filter_map name_in all)) key) (why_item_read all head slaves (item_of key args)) ≡ bad (take_scenario_block q key args)
block_acts q key args all head slaves h same_head same_slaves =
    sym (bad_unless (why_key (has q.block key) (is_some q.block.name) key) _
    ∙ ap (or_else (why_key (has q.block key) (is_some q.block.name) key)) (item_bad q.block q.head q.slaves (item_of key args) (λ i. record q { block = put_item q.block i }) all h)
    ∙ ap (λ (b : Bool). or_else (why_key b (is_some q.block.name) key) (why_item_read all q.head q.slaves (item_of key args))) (sym (same_has all q.block h key))
    ∙ ap (λ (b : Bool). or_else (why_key (came_before all key) b key) (why_item_read all q.head q.slaves (item_of key args))) (sym (same_named all q.block h))
    ∙ ap (λ (l : List HeadItem). or_else (why_key (came_before all key) (came (filter_map name_in all)) key) (why_item_read all l q.slaves (item_of key args))) same_head
    ∙ ap (λ (l : List SlaveDesc). or_else (why_key (came_before all key) (came (filter_map name_in all)) key) (why_item_read all head l (item_of key args))) same_slaves)

link_bad : (slaves : List SlaveDesc) (links : Links) (x : Result LinkLine TextWhy) (next : LinkLine → Reader) → bad (x >>= λ l. unless (why_link slaves links l) (Ok (next l))) ≡ why_link_read slaves links x
link_bad slaves links (Err w) next = refl
link_bad slaves links (Ok l) next = bad_unless (why_link slaves links l) (Ok (next l)) ∙ or_none (why_link slaves links l)

abbrev why_linking : List SlaveDesc → Links → List HeadItem → LinkKey → List (List ℕ) → Option TextWhy
why_linking slaves links head key args = or_else (refused_if (is_chaos key && is_some links.net.chaos) why.Repeated) (why_link_read slaves links (link_of slaves (runs_said head) key args))

link_acts : (q : Reader) (key : LinkKey) (args : List (List ℕ)) (slaves : List SlaveDesc) (links : Links) (head : List HeadItem) → q.slaves ≡ slaves → q.links ≡ links → q.head ≡ head → why_linking slaves links head key args ≡ bad (take_link q key args)
link_acts q key args slaves links head same_slaves same_links same_head =
    sym (bad_unless (refused_if (is_chaos key && is_some q.links.net.chaos) why.Repeated) _
    ∙ ap (or_else (refused_if (is_chaos key && is_some q.links.net.chaos) why.Repeated)) (link_bad q.slaves q.links (link_of q.slaves (runs_said q.head) key args) (λ l. record q { links = put_link q.links l }))
    ∙ ap (λ (s : List SlaveDesc). why_linking s q.links q.head key args) same_slaves
    ∙ ap (λ (l : Links). why_linking slaves l q.head key args) same_links
    ∙ ap (λ (l : List HeadItem). why_linking slaves links l key args) same_head)

head_acts : (q : Reader) (key : HeadKey) (args : List (List ℕ)) (head : List HeadItem) → q.head ≡ head → or_else (refused_if (is_said key head) why.Repeated) (bad (head_item key args)) ≡ bad (take_head q key args)
head_acts q key args head same =
    sym (bad_unless (refused_if (is_said key q.head) why.Repeated) _
    ∙ ap (or_else (refused_if (is_said key q.head) why.Repeated)) (bad_then (head_item key args) (λ i. record q { head = q.head ++ i ∷ [] }))
    ∙ ap (λ (l : List HeadItem). or_else (refused_if (is_said key l) why.Repeated) (bad (head_item key args))) same)

module _ (ls : List (List ℕ)) (r : Reader) (h : Stands ls r) where
  -- the open block, as a line that is no slave line finds it
  open_items : (now : Option (List (List ℕ))) → IsOpen now r.block → is_some now ≡ eqb r.section 1 → blocks ls ≡ h.closed ++ option_to_list now → Holds (cond (eqb (section_now ls) 1) (items_in (last_of (blocks ls))) []) r.block
  open_items None none at split =
      let test : eqb (section_now ls) 1 ≡ false = ap (λ (n : ℕ). eqb n 1) (sym h.section) ∙ sym at in
      subst (λ (b : Bool). Holds (cond b (items_in (last_of (blocks ls))) []) r.block) (sym test) (subst (Holds []) (sym none) holds_nothing)
  open_items (Some g) held at split =
      let test : eqb (section_now ls) 1 ≡ true = ap (λ (n : ℕ). eqb n 1) (sym h.section) ∙ sym at in
      let last : last_of (blocks ls) ≡ g = ap last_of split ∙ last_is h.closed g in
      subst (λ (b : Bool). Holds (cond b (items_in (last_of (blocks ls))) []) r.block) (sym test) (subst (λ (g : List (List ℕ)). Holds (items_in g) r.block) (sym last) held.0)

  open_slaves : (now : Option (List (List ℕ))) → is_some now ≡ eqb r.section 1 → r.section ≤ 1 → blocks ls ≡ h.closed ++ option_to_list now → r.slaves ≡ slaves_of_blocks (front_of (blocks ls))
  open_slaves (Some g) at up split = sym (all_said h.closed r.slaves h.slaves) ∙ ap slaves_of_blocks (sym (ap front_of split ∙ front_is h.closed g))
  open_slaves None at up split = none_of (eqb r.section 1) refl
    where
      none_of : (b : Bool) → eqb r.section 1 ≡ b → r.slaves ≡ slaves_of_blocks (front_of (blocks ls))
      none_of true e = absurd (false≢true (at ∙ e))
      none_of false e =
          let not_one : r.section ≢ 1 = λ one. false≢true (sym e ∙ ap (λ (n : ℕ). eqb n 1) one) in
          let zero_section : r.section ≡ 0 = omega arith in
          let no_blocks : blocks ls ≡ [] = ap group (h.first zero_section) in
          let none : h.closed ≡ [] = sym (append-nil h.closed) ∙ sym split ∙ no_blocks in
          sym (all_said h.closed r.slaves h.slaves) ∙ ap slaves_of_blocks (none ∙ sym (ap front_of no_blocks))

  -- the judging of what a line says is the reader's, after what it closes
  acts : (key : AnyKey) (args : List (List ℕ)) (q : Reader) → r.section ≤ section_of key → After ls r q (closes_block key) (section_of key) → why_acts ls key args ≡ bad (act_on_key q key args)
  acts (any.Head k) args q up after = head_acts q k args (head_said ls) (after.head ∙ h.head)
  acts (any.Link k) args q up after = link_acts q k args (slaves_said ls) (links_said ls) (head_said ls) (sym (all_said (blocks ls) q.slaves (after.shut refl).0)) (after.links ∙ h.links) (after.head ∙ h.head)
  acts (any.Block keys.Slave) args q up after = block_acts q keys.Slave args [] (head_said ls) (slaves_said ls) (subst (Holds []) (sym (after.shut refl).1) holds_nothing) (after.head ∙ h.head) (sym (all_said (blocks ls) q.slaves (after.shut refl).0))
  acts (any.Block k) args q up after =
      block_acts q k args (cond (eqb (section_now ls) 1) (items_in (last_of (blocks ls))) []) (head_said ls) (slaves_of_blocks (front_of (blocks ls)))
      (subst (Holds (cond (eqb (section_now ls) 1) (items_in (last_of (blocks ls))) [])) (sym (after.kept refl).1) (open_items h.now h.block h.at h.split))
      (after.head ∙ h.head) ((after.kept refl).0 ∙ open_slaves h.now h.at up h.split)

  acts_after : (key : AnyKey) (args : List (List ℕ)) (x : Result Reader TextWhy) → closes r (closes_block key) (section_of key) ≡ x → r.section ≤ section_of key → or_else (bad x) (why_acts ls key args) ≡ bad (x >>= λ q. act_on_key q key args)
  acts_after key args (Err w) e up = refl
  acts_after key args (Ok q) e up = acts key args q up (closes_after ls r h (closes_block key) (section_of key) q e)

  keyed_by : (key : AnyKey) (args : List (List ℕ)) (b : Bool) → ltb (section_of key) r.section ≡ b → or_else (refused_if b why.Order) (or_else (why_closes ls (closes_block key) (section_of key)) (why_acts ls key args)) ≡ bad (unless (refused_if b why.Order) (closes r (closes_block key) (section_of key) >>= λ q. act_on_key q key args))
  keyed_by key args true e = refl
  keyed_by key args false e =
      ap (λ (o : Option TextWhy). or_else o (why_acts ls key args)) (closes_bad ls r h (closes_block key) (section_of key) (last_closes key))
      ∙ acts_after key args (closes r (closes_block key) (section_of key)) refl (not_above (section_of key) r.section e)

  keyed : (key : Option AnyKey) (args : List (List ℕ)) → why_scenario_keyed ls key args ≡ bad (take_scenario_keyed r key args)
  keyed None args = refl
  keyed (Some key) args =
      ap (λ (n : ℕ). or_else (refused_if (ltb (section_of key) n) why.Order) (or_else (why_closes ls (closes_block key) (section_of key)) (why_acts ls key args))) (sym h.section)
      ∙ keyed_by key args (ltb (section_of key) r.section) refl

  worded : (ws : List (List ℕ)) → why_scenario_words ls ws ≡ bad (take_scenario_words r ws)
  worded [] = refl
  worded (w ∷ args) = keyed (any_key w) args

  lined_by : (u s : Bool) (ws : List (List ℕ)) → cond (not u) (Some why.NotUtf8) (cond s None (why_scenario_words ls ws)) ≡ bad (cond (not u) (Err why.NotUtf8) (cond s (Ok r) (take_scenario_words r ws)))
  lined_by false s ws = refl
  lined_by true true ws = refl
  lined_by true false ws = worded ws

  -- what is wrong with the next line is why the reader refuses it
  pub lined : (line : List ℕ) → why_scenario_line ls line ≡ bad (take_scenario_line r line)
  lined line = lined_by (is_utf8 line) (is_skipped (words line)) (words line)
