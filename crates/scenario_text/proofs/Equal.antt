-- The grammar and the judging agree.
use Rattle.std.proofs.Common.{◌≡◌, ℕ, suc, ◌-◌, ◌<◌, ◌≤◌, Bool, true, false, not, ◌&&◌, ◌||◌, cond, eqb, ltb, get_or, take, drop, ⊎_elim, List, [], ◌∷◌, ◌++◌, length, Option, Some, None, Result, Ok, Err, is_some, refl, sym, ap, ◌∙◌, subst, arith, take-append-drop}
use Rattle.std.specs.List.{filter_map}
use Rattle.std.specs.Result.{result_ok}
use Rattle.std.specs.Str.{is_utf8}
use Rattle.std.proofs.Math.Seq.{take-length, drop-cons}
use Rattle.std.proofs.str.Laws.{order}
use Rattle.std.proofs.lemmas.Bool.{false≢true}
use Rattle.std.proofs.lemmas.Bool.Decides.{nat_tests}
use Rattle.std.proofs.lemmas.List.Elements.{filter-append}
use Rattle.std.proofs.lemmas.Option.{slice_get_past, slice_get-get_or}
use Rattle.text_lines.specs.Texts.{words, is_skipped}
use Rattle.text_lines.proofs.Results.{bind_ok, moved}
use Rattle.text_lines.specs.declared.reasons.TextWhy.{TextWhy}
use Rattle.text_lines.specs.declared.reasons.TextWhy.TheVariants as why
use Rattle.desc_text.specs.Items.{key_of, item_of}
use Rattle.desc_text.specs.Said.{name_in, items_in}
use Rattle.desc_text.specs.Judging.{came_before, begins, why_key, why_item}
use Rattle.text_lines.specs.Causes.{came, or_else, refused_if, when, bad}
use Rattle.desc_text.proofs.Held.{key_in}
use Rattle.desc_text.proofs.Judged.{item_key}
use Rattle.desc_text.specs.declared.keys.Key.{Key}
use Rattle.desc_text.specs.declared.keys.Key.TheVariants as keys
use Rattle.desc_text.specs.declared.items.Item.{Item}
use Rattle.desc_text.specs.declared.items.Item.TheVariants as items
use Rattle.slave_desc.specs.declared.descriptions.SlaveDesc.{SlaveDesc}
use Rattle.scenario_text.specs.Keys.{head_key, link_key, any_key, section_of, closes_block}
use Rattle.scenario_text.specs.Heads.{head_item, steps_said, runs_said}
use Rattle.scenario_text.specs.Links.{link_of, chaos_of}
use Rattle.scenario.specs.Totals.{is_too_much}
use Rattle.scenario_text.specs.Clashes.{why_head, why_slaves, is_chaos}
use Rattle.scenario_text.specs.Said.{scenario_of, key_of_words, key_at, args_of, is_of, lines_in, section_now, opens, onto, is_slave_key, head_said, group, blocks, last_of, front_of, slaves_of_blocks, slaves_said, links_said, scenario_said}
use Rattle.scenario_text.specs.Judging.{why_scenario_block, why_closes, why_item_read, why_link_read, why_acts, why_scenario_keyed, why_scenario_words, why_scenario_line, why_end_of, why_scenario_entry}
use Rattle.scenario_text.specs.Grammar.{reads_by, IsOrdered, MayFollow, IsNew, AreSlaveBlocks, AreOf}
use Rattle.scenario_text.proofs.Groups.{all_said}
use Rattle.scenario_text.proofs.Moves.{slave_key_is, key_said}
use Rattle.scenario_text.proofs.Kept.{block_key, line_item}
use Rattle.scenario_text.proofs.Orders.{earlier_lines, earlier_head}
use Rattle.scenario_text.proofs.Passing.{if_fits}
use Rattle.scenario_text.proofs.Grammatical.{Passes}
use Rattle.scenario_text.proofs.Excluded.{whole, open_described, slave_room, last_whole, last_of_all, key_none, item_none, among_none}
use Rattle.scenario_text.specs.declared.keys.LinkKey.{LinkKey}
use Rattle.scenario_text.specs.declared.keys.LinkKey.TheVariants as linkkeys
use Rattle.scenario_text.specs.declared.keys.AnyKey.{AnyKey}
use Rattle.scenario_text.specs.declared.keys.AnyKey.TheVariants as any
use Rattle.scenario_text.specs.declared.heads.HeadItem.{HeadItem}
use Rattle.scenario_text.specs.declared.link_words.LinkLine.{LinkLine}
use Rattle.scenario_text.specs.declared.link_words.LinkLine.TheVariants as link
use Rattle.scenario_text.specs.declared.collected.Links.{Links}
use Rattle.scenario.specs.declared.scenarios.Scenario.{Scenario}
use Rattle.scenario_text.proofs.Refusing.{none_refused}

when_none : (b : Bool) (o : Option TextWhy) → o ≡ None → when b o ≡ None
when_none true o e = e
when_none false o e = refl

or_nones : (a b : Option TextWhy) → a ≡ None → b ≡ None → or_else a b ≡ None
or_nones None b e f = f
or_nones (Some w) b e f = cc

and_none : (b : Bool) (o : Option TextWhy) → when (b && false) o ≡ None
and_none true o = refl
and_none false o = refl

not_less : (m n : ℕ) → n ≤ m → ltb m n ≡ false
not_less m n h = grind (arith, nat_tests)

some_of : {X : Type 0} (x : Result X TextWhy) → is_some (result_ok x) ≡ true → (y : X) × (x ≡ Ok y)
some_of (Ok y) e = (y, refl)
some_of (Err w) e = absurd (false≢true e)

-- ---- blocks are there where the section of the slaves is

onto_some : (x : List ℕ) (gs : List (List (List ℕ))) → came (onto x gs) ≡ true
onto_some x [] = refl
onto_some x (g ∷ gs) = by (opens g)
  where
    by : (b : Bool) → came (cond b ((x ∷ []) ∷ g ∷ gs) ((x ∷ g) ∷ gs)) ≡ true
    by true = refl
    by false = refl

no_lines : (ls : List (List ℕ)) → group ls ≡ [] → ls ≡ []
no_lines [] e = refl
no_lines (x ∷ xs) e = absurd (false≢true (sym (ap came e) ∙ onto_some x (group xs)))

not_came : {X : Type 0} (xs : List X) → came xs ≡ false → xs ≡ []
not_came [] e = refl
not_came (x ∷ xs) e = absurd (false≢true (sym e))

no_block : (l2 l1 : List (List ℕ)) (o : Option TextWhy) → l1 ≡ [] → when (eqb (cond (came l2) 2 (cond (came l1) 1 0)) 1) o ≡ None
no_block l2 l1 o e = ap (λ (l1 : List (List ℕ)). when (eqb (cond (came l2) 2 (cond (came l1) 1 0)) 1) o) e ∙ by (came l2)
  where
    by : (b : Bool) → when (eqb (cond b 2 0) 1) o ≡ None
    by true = refl
    by false = refl

items_same : (b2 b1 : Bool) (l1 : List (List ℕ)) → came l1 ≡ b1 → cond b2 2 (cond b1 1 0) ≤ 1 → cond (eqb (cond b2 2 (cond b1 1 0)) 1) (items_in (last_of (group l1))) [] ≡ items_in (last_of (group l1))
items_same true b1 l1 e h = absurd (omega (arith, h))
items_same false true l1 e h = refl
items_same false false l1 e h = sym (ap (λ (l : List (List ℕ)). items_in (last_of (group l))) (not_came l1 e))

slave_item : (i : Item) → key_in i ≡ keys.Slave → why_item [] i ≡ None
slave_item (items.Slave n) e = refl
slave_item (items.Uuid n) e = refl
slave_item (items.Address a) e = refl
slave_item (items.Model k ps) e = cc
slave_item (items.Busy n) e = refl
slave_item (items.Heartbeat n) e = refl
slave_item (items.Resolution n d) e = refl
slave_item (items.Input p) e = cc
slave_item (items.Output p) e = cc

is_some_length : (n : ℕ) → 1 ≤ n → eqb n 0 ≡ false
is_some_length n h = grind (arith, nat_tests)

slaves_none : (hd : List HeadItem) (sl : List SlaveDesc) (st rn : ℕ) → steps_said hd ≡ st → runs_said hd ≡ rn → 1 ≤ length sl → is_too_much sl st rn ≡ false → why_slaves hd sl ≡ None
slaves_none hd sl st rn e f some small =
    ap (λ (b : Bool). cond b (Some why.Missing) (refused_if (is_too_much sl (steps_said hd) (runs_said hd)) why.Limit)) (is_some_length (length sl) some)
    ∙ none_refused _ why.Limit (ap (λ (n : ℕ). is_too_much sl n (runs_said hd)) e ∙ ap (λ (n : ℕ). is_too_much sl st n) f ∙ small)

chaos_none : (slaves : List SlaveDesc) (runs : ℕ) (k : LinkKey) (args : List (List ℕ)) (x : LinkLine) (before : Links) → link_of slaves runs k args ≡ Ok x → MayFollow slaves before x → refused_if (is_chaos k && is_some before.net.chaos) why.Repeated ≡ None
chaos_none slaves runs linkkeys.Wire args x before e f = refl
chaos_none slaves runs linkkeys.Set args x before e f = refl
chaos_none slaves runs linkkeys.RerunSet args x before e f = refl
chaos_none slaves runs linkkeys.Every args x before e f = refl
chaos_none slaves runs linkkeys.Drop args x before e f = refl
chaos_none slaves runs linkkeys.Copy args x before e f = refl
chaos_none slaves runs linkkeys.Hold args x before e f = refl
chaos_none slaves runs linkkeys.Chaos args x before e f =
    let c = bind_ok (chaos_of args) _ x e in
    none_refused _ why.Repeated (ap is_some (moved (λ (x : LinkLine). MayFollow slaves before x → before.net.chaos ≡ None) (link.Chaos c.0) x c.2 (λ h. h) f))

module _ (ls : List (List ℕ)) (s : Scenario) (A : AreOf ls s) where
  said_slaves : slaves_said ls ≡ s.slaves
  said_slaves = all_said (blocks ls) s.slaves A.slaves

  module _ (before after : List (List ℕ)) (l : List ℕ) (split : ls ≡ before ++ l ∷ after) where
    ordered : IsOrdered (before ++ l ∷ after)
    ordered = subst IsOrdered split A.in_order

    head_same : (key : AnyKey) → key_at l ≡ Some key → 0 < section_of key → head_said before ≡ head_said ls
    head_same key k late = sym (ap head_said split ∙ earlier_head before after l key ordered k late)

    head_whole : (key : AnyKey) → key_at l ≡ Some key → 0 < section_of key → why_head (head_said before) ≡ None
    head_whole key k late = ap why_head (head_same key k late) ∙ none_refused _ why.Missing (ap not A.required)

    blocks_split : (key : Key) → key_at l ≡ Some (any.Block key) → AreSlaveBlocks (group (lines_in 1 before ++ l ∷ lines_in 1 after)) s.slaves
    blocks_split key k = subst (λ (x : List (List ℕ)). AreSlaveBlocks (group x) s.slaves) (ap (lines_in 1) split ∙ filter-append (λ (l : List ℕ). is_of 1 (key_at l)) before (l ∷ after) ∙ ap (λ (k : Option AnyKey). lines_in 1 before ++ cond (is_of 1 k) (l ∷ lines_in 1 after) (lines_in 1 after)) k) A.slaves

    link_blocks : (key : LinkKey) → key_at l ≡ Some (any.Link key) → AreSlaveBlocks (blocks before) s.slaves
    link_blocks key k = subst (λ (x : List (List ℕ)). AreSlaveBlocks (group x) s.slaves) (ap (lines_in 1) split ∙ earlier_lines 1 before after l (any.Link key) ordered k (omega arith)) A.slaves

    slave_closes : key_at l ≡ Some (any.Block keys.Slave) → why_scenario_block before ≡ None
    slave_closes k =
        ⊎_elim
        (λ none. no_block (lines_in 2 before) (lines_in 1 before) _ (no_lines (lines_in 1 before) none))
        (λ some. when_none (eqb (section_now before) 1) _ (last_whole (lines_in 1 before) (lines_in 1 after) l s.slaves (ap is_slave_key k) some (blocks_split keys.Slave k)))
        (whole (blocks before))

    link_closes : (key : LinkKey) → key_at l ≡ Some (any.Link key) → why_scenario_block before ≡ None
    link_closes key k =
        ⊎_elim
        (λ none. no_block (lines_in 2 before) (lines_in 1 before) _ (no_lines (lines_in 1 before) none))
        (λ some. when_none (eqb (section_now before) 1) _ (last_of_all (blocks before) s.slaves some (link_blocks key k)))
        (whole (blocks before))

    link_slaves : (key : LinkKey) → key_at l ≡ Some (any.Link key) → slaves_said before ≡ s.slaves
    link_slaves key k = all_said (blocks before) s.slaves (link_blocks key k)

    link_runs : (key : LinkKey) → key_at l ≡ Some (any.Link key) → runs_said (head_said before) ≡ s.runs
    link_runs key k = ap runs_said (head_same (any.Link key) k (omega arith)) ∙ sym (ap (λ (s : Scenario). s.runs) A.says)

    slaves_close : (key : LinkKey) → key_at l ≡ Some (any.Link key) → why_slaves (head_said before) (slaves_said before) ≡ None
    slaves_close key k =
        ap (why_slaves (head_said before)) (link_slaves key k)
        ∙ slaves_none (head_said before) s.slaves s.steps s.runs (ap steps_said (head_same (any.Link key) k (omega arith)) ∙ sym (ap (λ (s : Scenario). s.steps) A.says)) (link_runs key k) A.few.0 A.small

    closes_none : (key : AnyKey) → key_at l ≡ Some key → why_closes before (closes_block key) (section_of key) ≡ None
    closes_none (any.Head h) k = or_nones _ _ (and_none (eqb (section_now before) 0) _) (and_none (ltb (section_now before) 2) _)
    closes_none (any.Link x) k = or_nones _ _ (when_none (eqb (section_now before) 0 && true) _ (head_whole (any.Link x) k (omega arith))) (or_nones _ _ (link_closes x k) (when_none (ltb (section_now before) 2 && true) _ (slaves_close x k)))
    closes_none (any.Block keys.Slave) k = or_nones _ _ (when_none (eqb (section_now before) 0 && true) _ (head_whole (any.Block keys.Slave) k (omega arith))) (or_nones _ _ (slave_closes k) (and_none (ltb (section_now before) 2) _))
    closes_none (any.Block b) k = or_nones _ _ (when_none (eqb (section_now before) 0 && true) _ (head_whole (any.Block b) k (omega arith))) (and_none (ltb (section_now before) 2) _)

    module _ (w : List ℕ) (args : List (List ℕ)) (said : words l ≡ w ∷ args) (skip : is_skipped (w ∷ args) ≡ false) where
      block_acts : (key : Key) → begins key ≡ false → any_key w ≡ Some (any.Block key) → key_at l ≡ Some (any.Block key) → section_now before ≤ 1 → (i : Item) → item_of key args ≡ Ok i → IsNew (head_said before) (slaves_of_blocks (front_of (blocks before))) i
          → or_else (why_key (came_before (items_in (last_of (blocks before))) key) (came (filter_map name_in (items_in (last_of (blocks before))))) key) (why_item_read (items_in (last_of (blocks before))) (head_said before) (slaves_of_blocks (front_of (blocks before))) (item_of key args)) ≡ None
      block_acts key other k at up i read new =
          let item = line_item l w args key i said skip (block_key (head_key w) (key_of w) (link_key w) key k) read in
          let d = open_described (lines_in 1 before) (lines_in 1 after) l i s.slaves (ap is_slave_key at ∙ slave_key_is key ∙ other) item (blocks_split key at) in
          let key_is = item_key key args i read in
          or_nones _ _
          (subst (λ (k : Key). why_key (came_before (items_in (last_of (blocks before))) k) (came (filter_map name_in (items_in (last_of (blocks before))))) k ≡ None) key_is (key_none (items_in (last_of (blocks before))) i d.0 d.1 d.2))
          (ap (why_item_read (items_in (last_of (blocks before))) (head_said before) (slaves_of_blocks (front_of (blocks before)))) read
          ∙ or_nones _ _ (item_none (items_in (last_of (blocks before))) i d.0 d.1 d.2) (among_none (head_said before) (slaves_of_blocks (front_of (blocks before))) i new (λ e. absurd (false≢true (sym other ∙ ap begins (sym key_is ∙ e))))))

      other_acts : (key : Key) → begins key ≡ false → any_key w ≡ Some (any.Block key) → key_at l ≡ Some (any.Block key) → section_now before ≤ 1 → (i : Item) → item_of key args ≡ Ok i → IsNew (head_said before) (slaves_of_blocks (front_of (blocks before))) i
          → or_else (why_key (came_before (cond (eqb (section_now before) 1) (items_in (last_of (blocks before))) []) key) (came (filter_map name_in (cond (eqb (section_now before) 1) (items_in (last_of (blocks before))) []))) key) (why_item_read (cond (eqb (section_now before) 1) (items_in (last_of (blocks before))) []) (head_said before) (slaves_of_blocks (front_of (blocks before))) (item_of key args)) ≡ None
      other_acts key other k at up i read new =
          let same : cond (eqb (section_now before) 1) (items_in (last_of (blocks before))) [] ≡ items_in (last_of (blocks before)) = items_same (came (lines_in 2 before)) (came (lines_in 1 before)) (lines_in 1 before) refl up in
          subst (λ (b : List Item). or_else (why_key (came_before b key) (came (filter_map name_in b)) key) (why_item_read b (head_said before) (slaves_of_blocks (front_of (blocks before))) (item_of key args)) ≡ None) (sym same) (block_acts key other k at up i read new)

      acts_none : (key : AnyKey) → any_key w ≡ Some key → key_at l ≡ Some key → section_now before ≤ section_of key → reads_by s.slaves s.runs (Some key) args ≡ true → args_of (words l) ≡ args → why_acts before key args ≡ None
      acts_none (any.Head h) k at up reads a =
          let i = some_of (head_item h args) reads in
          or_nones _ _ (none_refused _ why.Repeated (A.once before after l h split at)) (ap bad i.1)
      acts_none (any.Link x) k at up reads a =
          let y = some_of (link_of s.slaves s.runs x args) reads in
          let fit = A.fit before after l x y.0 split at (ap (link_of s.slaves s.runs x) a ∙ y.1) in
          or_nones _ _
          (chaos_none s.slaves s.runs x args y.0 (links_said before) y.1 fit)
          (ap (λ (sl : List SlaveDesc). why_link_read sl (links_said before) (link_of sl (runs_said (head_said before)) x args)) (link_slaves x at)
          ∙ ap (λ (n : ℕ). why_link_read s.slaves (links_said before) (link_of s.slaves n x args)) (link_runs x at)
          ∙ ap (why_link_read s.slaves (links_said before)) y.1
          ∙ if_fits s.slaves (links_said before) y.0 fit)
      acts_none (any.Block keys.Slave) k at up reads a =
          let i = some_of (item_of keys.Slave args) reads in
          let key_is = item_key keys.Slave args i.0 i.1 in
          let new = A.new before after l keys.Slave i.0 split at (ap (item_of keys.Slave) a ∙ i.1) in
          let room : length (slaves_said before) < 16 = omega (arith, slave_room (lines_in 1 before) (lines_in 1 after) l s.slaves (ap is_slave_key at) (blocks_split keys.Slave at), A.few.1) in
          ap (why_item_read [] (head_said before) (slaves_said before)) i.1 ∙ or_nones _ _ (slave_item i.0 key_is) (among_none (head_said before) (slaves_said before) i.0 new (λ _. room))
      acts_none (any.Block keys.Uuid) k at up reads a = let i = some_of (item_of keys.Uuid args) reads in other_acts keys.Uuid refl k at up i.0 i.1 (A.new before after l keys.Uuid i.0 split at (ap (item_of keys.Uuid) a ∙ i.1))
      acts_none (any.Block keys.Address) k at up reads a = let i = some_of (item_of keys.Address args) reads in other_acts keys.Address refl k at up i.0 i.1 (A.new before after l keys.Address i.0 split at (ap (item_of keys.Address) a ∙ i.1))
      acts_none (any.Block keys.Model) k at up reads a = let i = some_of (item_of keys.Model args) reads in other_acts keys.Model refl k at up i.0 i.1 (A.new before after l keys.Model i.0 split at (ap (item_of keys.Model) a ∙ i.1))
      acts_none (any.Block keys.Busy) k at up reads a = let i = some_of (item_of keys.Busy args) reads in other_acts keys.Busy refl k at up i.0 i.1 (A.new before after l keys.Busy i.0 split at (ap (item_of keys.Busy) a ∙ i.1))
      acts_none (any.Block keys.Heartbeat) k at up reads a = let i = some_of (item_of keys.Heartbeat args) reads in other_acts keys.Heartbeat refl k at up i.0 i.1 (A.new before after l keys.Heartbeat i.0 split at (ap (item_of keys.Heartbeat) a ∙ i.1))
      acts_none (any.Block keys.Resolution) k at up reads a = let i = some_of (item_of keys.Resolution args) reads in other_acts keys.Resolution refl k at up i.0 i.1 (A.new before after l keys.Resolution i.0 split at (ap (item_of keys.Resolution) a ∙ i.1))
      acts_none (any.Block keys.Input) k at up reads a = let i = some_of (item_of keys.Input args) reads in other_acts keys.Input refl k at up i.0 i.1 (A.new before after l keys.Input i.0 split at (ap (item_of keys.Input) a ∙ i.1))
      acts_none (any.Block keys.Output) k at up reads a = let i = some_of (item_of keys.Output args) reads in other_acts keys.Output refl k at up i.0 i.1 (A.new before after l keys.Output i.0 split at (ap (item_of keys.Output) a ∙ i.1))

      keyed_none : (key : Option AnyKey) → any_key w ≡ key → reads_by s.slaves s.runs key args ≡ true → why_scenario_keyed before key args ≡ None
      keyed_none None k reads = absurd (false≢true reads)
      keyed_none (Some key) k reads =
          let at = key_said l w args key said skip k in
          let up = A.in_order before after l key split at in
          or_nones _ _ (none_refused _ why.Order (not_less (section_of key) (section_now before) up)) (or_nones _ _ (closes_none key at) (acts_none key k at up reads (ap args_of said)))

    worded_none : (ws : List (List ℕ)) → words l ≡ ws → is_skipped ws ≡ false → reads_by s.slaves s.runs (key_of_words ws) (args_of ws) ≡ true → why_scenario_words before ws ≡ None
    worded_none [] said skip reads = refl
    worded_none (w ∷ args) said skip reads = keyed_none w args said skip (any_key w) refl reads

    line_by : (u b : Bool) → is_utf8 l ≡ u → is_skipped (words l) ≡ b → (u && (b || reads_by s.slaves s.runs (cond b None (key_of_words (words l))) (args_of (words l)))) ≡ true → cond (not u) (Some why.NotUtf8) (cond b None (why_scenario_words before (words l))) ≡ None
    line_by false b utf8 skip reads = absurd (false≢true reads)
    line_by true true utf8 skip reads = refl
    line_by true false utf8 skip reads = worded_none (words l) refl skip reads

    line_none : why_scenario_line before l ≡ None
    line_none = line_by (is_utf8 l) (is_skipped (words l)) refl refl (A.each before after l split)

  end_closes : why_scenario_block ls ≡ None
  end_closes =
      ⊎_elim
      (λ none. no_block (lines_in 2 ls) (lines_in 1 ls) _ (no_lines (lines_in 1 ls) none))
      (λ some. when_none (eqb (section_now ls) 1) _ (last_of_all (blocks ls) s.slaves some A.slaves))
      (whole (blocks ls))

  end_none : why_end_of ls ≡ None
  end_none =
      or_nones _ _ (when_none (eqb (section_now ls) 0 && true) _ (none_refused _ why.Missing (ap not A.required)))
      (or_nones _ _ end_closes (when_none (ltb (section_now ls) 2 && true) _
      (ap (why_slaves (head_said ls)) said_slaves ∙ slaves_none (head_said ls) s.slaves s.steps s.runs (sym (ap (λ (s : Scenario). s.steps) A.says)) (sym (ap (λ (s : Scenario). s.runs) A.says)) A.few.0 A.small)))

  -- a text of the grammar passes
  pub passes : Passes ls
  passes n some within =
      let k = n - 1 in
      ⊎_elim
      (λ below.
      let line = get_or ls k [] in
      let cut : ls ≡ take k ls ++ line ∷ drop (suc k) ls = sym (take-append-drop k ls) ∙ ap (λ (l : List (List ℕ)). take k ls ++ l) (drop-cons ls k [] below) in
      ap (λ (o : Option (List ℕ)). why_scenario_entry o (take k ls)) (slice_get-get_or ls k [] below) ∙ line_none (take k ls) (drop (suc k) ls) line cut)
      (λ past.
      let last : k ≡ length ls = omega arith in
      ap (λ (o : Option (List ℕ)). why_scenario_entry o (take k ls)) (slice_get_past ls k past) ∙ ap why_end_of (ap (λ (j : ℕ). take j ls) last ∙ take-length ls) ∙ end_none)
      (order k (length ls))

  pub says_all : s ≡ scenario_said ls
  says_all = A.says ∙ ap (λ (sl : List SlaveDesc). scenario_of (head_said ls) sl (links_said ls)) (sym said_slaves)
