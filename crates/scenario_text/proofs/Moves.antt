-- A line that is taken leaves the reader where the lines with it stand.
use Rattle.std.proofs.Common.{◌≡◌, ℕ, ◌<◌, ◌≤◌, Bool, true, false, not, ◌&&◌, cond, eqb, ltb, leb, inl, inr, ⊎_elim, List, [], ◌∷◌, ◌++◌, length, Option, Some, None, Result, Ok, Err, is_some, refl, sym, ap, ◌∙◌, subst, arith, append-nil}
use Rattle.std.specs.Prelude.{slice_get}
use Rattle.std.specs.List.{filter_map, cons_option}
use Rattle.std.specs.Option.{option_to_list}
use Rattle.std.specs.Result.{result_ok}
use Rattle.std.specs.Str.{is_utf8}
use Rattle.std.proofs.lemmas.Bool.{false≢true}
use Rattle.std.proofs.lemmas.List.Elements.{filter-append, filter_map-append}
use Rattle.text_lines.specs.Texts.{words, is_skipped}
use Rattle.text_lines.proofs.Results.{bind_ok, moved}
use Rattle.text_lines.specs.declared.reasons.TextWhy.{TextWhy}
use Rattle.text_lines.specs.declared.reasons.TextWhy.TheVariants as why
use Rattle.desc_text.specs.Items.{key_of, item_of}
use Rattle.text_lines.specs.Causes.{came, refused_if}
use Rattle.desc_text.specs.Judging.{begins, why_key}
use Rattle.desc_text.specs.Said.{item_in, items_in}
use Rattle.desc_text.specs.Machine.{newer, longer, has, put_item, why_held, nothing}
use Rattle.desc_text.proofs.Held.{Holds, holds_nothing, key_in, holds_more, may_come, not_refused, lengthened}
use Rattle.desc_text.proofs.Judged.{item_key, unless_ok, items_push}
use Rattle.desc_text.specs.declared.keys.Key.{Key}
use Rattle.desc_text.specs.declared.keys.Key.TheVariants as keys
use Rattle.desc_text.specs.declared.items.Item.{Item}
use Rattle.desc_text.specs.declared.items.Item.TheVariants as items
use Rattle.desc_text.specs.declared.partials.Partial.{Partial}
use Rattle.slave_desc.specs.declared.descriptions.SlaveDesc.{SlaveDesc}
use Rattle.scenario_text.specs.Keys.{head_key, link_key, any_key, section_of, closes_block}
use Rattle.scenario_text.specs.Heads.{head_item, is_said, runs_said}
use Rattle.scenario_text.specs.Links.{link_of, wire_of, setting_of, rerun_of, every_of, drop_of, copy_of, hold_of}
use Rattle.scenario_text.specs.Checks.{why_link}
use Rattle.scenario_text.specs.Collecting.{put_link}
use Rattle.scenario_text.specs.Said.{wire_in, set_in, rerun_in, every_in, line_in, chaos_in, key_of_words, key_at, args_of, is_of, lines_in, head_by, head_said, is_slave_key, begins_block, group, slaves_of_blocks, link_by, links_of}
use Rattle.scenario_text.specs.Clashes.{why_among, is_chaos}
use Rattle.scenario_text.specs.Machine.{closes, take_head, take_scenario_block, take_link, act_on_key, take_scenario_keyed, take_scenario_words, take_scenario_line, reader_at_start}
use Rattle.scenario_text.proofs.Groups.{at_last, group_new, group_more, at_last_is, AreSlaveBlocks, all_said}
use Rattle.scenario_text.proofs.Kept.{block_key, line_item}
use Rattle.scenario_text.proofs.Stands.{IsOpen, Stands, After, closes_after}
use Rattle.scenario_text.specs.declared.keys.HeadKey.{HeadKey}
use Rattle.scenario_text.specs.declared.keys.LinkKey.{LinkKey}
use Rattle.scenario_text.specs.declared.keys.LinkKey.TheVariants as linkkeys
use Rattle.scenario_text.specs.declared.keys.AnyKey.{AnyKey}
use Rattle.scenario_text.specs.declared.keys.AnyKey.TheVariants as any
use Rattle.scenario_text.specs.declared.heads.HeadItem.{HeadItem}
use Rattle.scenario_text.specs.declared.link_words.LinkLine.{LinkLine}
use Rattle.scenario_text.specs.declared.link_words.LinkLine.TheVariants as link
use Rattle.scenario_text.specs.declared.collected.Links.{Links}
use Rattle.scenario_text.specs.declared.readers.Reader.{Reader}
use Rattle.text_lines.proofs.NumberTests.{not_above}
use Rattle.scenario_text.proofs.Refusing.{has_room}

-- ---- the lines by section, and what they say, apart

abbrev section_by : List (List ℕ) → List (List ℕ) → ℕ
section_by l2 l1 = cond (came l2) 2 (cond (came l1) 1 0)

abbrev link_at : List (List ℕ) → List HeadItem → List ℕ → Option LinkLine
link_at l1 head l = link_by (slaves_of_blocks (group l1)) (runs_said head) (key_at l) (args_of (words l))

abbrev links_by : List (List ℕ) → List HeadItem → List (List ℕ) → Links
links_by l1 head l2 = links_of (filter_map (link_at l1 head) l2)

record Frame (l1 l2 : List (List ℕ)) (head : List HeadItem) (r : Reader) : Type 0 where
  section : r.section ≡ section_by l2 l1
  said : r.head ≡ head
  closed : List (List (List ℕ))
  now : Option (List (List ℕ))
  split : group l1 ≡ closed ++ option_to_list now
  slaves : AreSlaveBlocks closed r.slaves
  block : IsOpen now r.block
  at : is_some now ≡ eqb r.section 1
  room : is_some now ≡ true → length r.slaves < 16
  early : r.section < 2 → l2 ≡ []
  first : r.section ≡ 0 → l1 ≡ []
  links : r.links ≡ links_by l1 head l2

frame_of : (ls : List (List ℕ)) (r : Reader) → Stands ls r → Frame (lines_in 1 ls) (lines_in 2 ls) (head_said ls) r
frame_of ls r h = record { section = h.section; said = h.head; closed = h.closed; now = h.now; split = h.split; slaves = h.slaves; block = h.block; at = h.at; room = h.room; early = h.early; first = h.first; links = h.links }

stands_of : (ls : List (List ℕ)) (r : Reader) → Frame (lines_in 1 ls) (lines_in 2 ls) (head_said ls) r → Stands ls r
stands_of ls r h = record { section = h.section; head = h.said; closed = h.closed; now = h.now; split = h.split; slaves = h.slaves; block = h.block; at = h.at; room = h.room; early = h.early; first = h.first; links = h.links }

-- ---- one more line

pub lines_push : (s : ℕ) (ls : List (List ℕ)) (l : List ℕ) (key : Option AnyKey) → key_at l ≡ key → lines_in s (ls ++ l ∷ []) ≡ lines_in s ls ++ cond (is_of s key) (l ∷ []) []
lines_push s ls l key k = filter-append (λ (l : List ℕ). is_of s (key_at l)) ls (l ∷ []) ∙ ap (λ (key : Option AnyKey). lines_in s ls ++ cond (is_of s key) (l ∷ []) []) k

pub head_push : (ls : List (List ℕ)) (l : List ℕ) (key : Option AnyKey) → key_at l ≡ key → head_said (ls ++ l ∷ []) ≡ head_said ls ++ cons_option (head_by key (args_of (words l))) []
head_push ls l key k = filter_map-append (λ (l : List ℕ). head_by (key_at l) (args_of (words l))) ls (l ∷ []) ∙ ap (λ (key : Option AnyKey). head_said ls ++ cons_option (head_by key (args_of (words l))) []) k

came_push : {X : Type 0} (xs : List X) (x : X) → came (xs ++ x ∷ []) ≡ true
came_push [] x = refl
came_push (y ∷ ys) x = refl

-- ---- the links with one more

listed : {X : Type 0} (f : LinkLine → Option X) (all : List LinkLine) (l : LinkLine) → filter_map f (all ++ l ∷ []) ≡ longer (filter_map f all) (f l)
listed f all l = filter_map-append f all (l ∷ []) ∙ lengthened (filter_map f all) (f l)

first_newer : {X : Type 0} (xs : List X) (o : Option X) → (is_some o ≡ true → is_some (slice_get xs 0) ≡ false) → slice_get (longer xs o) 0 ≡ newer (slice_get xs 0) o
first_newer xs None fresh = refl
first_newer [] (Some x) fresh = refl
first_newer (y ∷ ys) (Some x) fresh = absurd (false≢true (sym (fresh refl)))

links_push : (all : List LinkLine) (l : LinkLine) → (is_some (chaos_in l) ≡ true → is_some (slice_get (filter_map chaos_in all) 0) ≡ false) → links_of (all ++ l ∷ []) ≡ put_link (links_of all) l
links_push all l fresh = λ i. record {
  wires = listed wire_in all l i;
  settings = listed set_in all l i;
  every = listed every_in all l i;
  reruns = listed rerun_in all l i;
  net = record { lines = listed line_in all l i; chaos = (ap (λ xs. slice_get xs 0) (listed chaos_in all l) ∙ first_newer (filter_map chaos_in all) (chaos_in l) fresh) i };
}

abbrev pub IsChaosKey : LinkKey → LinkLine → Type 0
IsChaosKey key l = is_some (chaos_in l) ≡ true → is_chaos key ≡ true

pub chaos_key : (slaves : List SlaveDesc) (runs : ℕ) (key : LinkKey) (args : List (List ℕ)) (l : LinkLine) → link_of slaves runs key args ≡ Ok l → IsChaosKey key l
chaos_key slaves runs linkkeys.Wire args l e = let x = bind_ok (wire_of slaves args) _ l e in moved (IsChaosKey linkkeys.Wire) (link.Wire x.0) l x.2 (λ t. absurd (false≢true t))
chaos_key slaves runs linkkeys.Set args l e = let x = bind_ok (setting_of slaves args) _ l e in moved (IsChaosKey linkkeys.Set) (link.Set x.0) l x.2 (λ t. absurd (false≢true t))
chaos_key slaves runs linkkeys.RerunSet args l e = let x = bind_ok (rerun_of slaves runs args) _ l e in moved (IsChaosKey linkkeys.RerunSet) (link.RerunSet x.0) l x.2 (λ t. absurd (false≢true t))
chaos_key slaves runs linkkeys.Every args l e = let x = bind_ok (every_of slaves args) _ l e in moved (IsChaosKey linkkeys.Every) (link.Every x.0) l x.2 (λ t. absurd (false≢true t))
chaos_key slaves runs linkkeys.Drop args l e = let x = bind_ok (drop_of (length slaves) args) _ l e in moved (IsChaosKey linkkeys.Drop) (link.Net x.0) l x.2 (λ t. absurd (false≢true t))
chaos_key slaves runs linkkeys.Copy args l e = let x = bind_ok (copy_of (length slaves) args) _ l e in moved (IsChaosKey linkkeys.Copy) (link.Net x.0) l x.2 (λ t. absurd (false≢true t))
chaos_key slaves runs linkkeys.Hold args l e = let x = bind_ok (hold_of (length slaves) args) _ l e in moved (IsChaosKey linkkeys.Hold) (link.Net x.0) l x.2 (λ t. absurd (false≢true t))
chaos_key slaves runs linkkeys.Chaos args l e = λ t. refl

pub and_one : (a b : Bool) → (a && b) ≡ false → a ≡ true → b ≡ false
and_one true b e f = e
and_one false b e f = absurd (false≢true f)

-- ---- each kind of line

pub slave_key_is : (key : Key) → is_slave_key (Some (any.Block key)) ≡ begins key
slave_key_is keys.Slave = refl
slave_key_is keys.Uuid = refl
slave_key_is keys.Address = refl
slave_key_is keys.Model = refl
slave_key_is keys.Busy = refl
slave_key_is keys.Heartbeat = refl
slave_key_is keys.Resolution = refl
slave_key_is keys.Input = refl
slave_key_is keys.Output = refl

second_none : (b : Bool) (w : TextWhy) (o : Option TextWhy) → cond b (Some w) o ≡ None → o ≡ None
second_none true w o e = cc
second_none false w o e = e

-- a name that may come has room, and names the block
named_item : (head : List HeadItem) (slaves : List SlaveDesc) (i : Item) → key_in i ≡ keys.Slave → why_among head slaves i ≡ None → (length slaves < 16) × (is_some (put_item nothing i).name ≡ true)
named_item head slaves (items.Slave n) k e = (has_room (length slaves) (not_refused (leb 16 (length slaves)) why.Limit (second_none _ why.Repeated _ e)), refl)
named_item head slaves (items.Uuid n) k e = cc
named_item head slaves (items.Address a) k e = cc
named_item head slaves (items.Model m ps) k e = cc
named_item head slaves (items.Busy n) k e = cc
named_item head slaves (items.Heartbeat n) k e = cc
named_item head slaves (items.Resolution n d) k e = cc
named_item head slaves (items.Input p) k e = cc
named_item head slaves (items.Output p) k e = cc

still_named : (p : Partial) (i : Item) → is_some p.name ≡ true → is_some (put_item p i).name ≡ true
still_named p (items.Slave n) e = refl
still_named p (items.Uuid n) e = e
still_named p (items.Address a) e = e
still_named p (items.Model m ps) e = e
still_named p (items.Busy n) e = e
still_named p (items.Heartbeat n) e = e
still_named p (items.Resolution n d) e = e
still_named p (items.Input q) e = e
still_named p (items.Output q) e = e

-- what comes before the links says none
no_links_by : (l1 l1' : List (List ℕ)) (head head' : List HeadItem) (l2 : List (List ℕ)) → l2 ≡ [] → links_by l1 head l2 ≡ links_by l1' head' l2
no_links_by l1 l1' head head' l2 none = ap (λ (l : List (List ℕ)). links_of (filter_map (link_at l1 head) l)) none ∙ sym (ap (λ (l : List (List ℕ)). links_of (filter_map (link_at l1' head') l)) none)

module _ (ls : List (List ℕ)) (r q : Reader) (h : Stands ls r) where
  abbrev L1 : List (List ℕ)
  L1 = lines_in 1 ls

  abbrev L2 : List (List ℕ)
  L2 = lines_in 2 ls

  move_head : (key : HeadKey) (i : HeadItem) → After ls r q false 0 → r.section ≤ 0 → Frame L1 L2 (head_said ls ++ i ∷ []) (record q { head = q.head ++ i ∷ [] })
  move_head key i after up =
      let zero_r : r.section ≡ 0 = omega arith in
      let same : q.section ≡ r.section = after.arrived ∙ sym zero_r in
      let kept = after.kept refl in
      let none : L2 ≡ [] = h.early (omega arith) in
      record {
        section = same ∙ h.section;
        said = ap (λ (l : List HeadItem). l ++ i ∷ []) (after.head ∙ h.head);
        closed = h.closed;
        now = h.now;
        split = h.split;
        slaves = subst (AreSlaveBlocks h.closed) (sym kept.0) h.slaves;
        block = subst (IsOpen h.now) (sym kept.1) h.block;
        at = h.at ∙ ap (λ (n : ℕ). eqb n 1) (sym same);
        room = λ t. subst (λ (l : List SlaveDesc). length l < 16) (sym kept.0) (h.room t);
        early = λ _. none;
        first = λ _. h.first zero_r;
        links = after.links ∙ h.links ∙ no_links_by L1 L1 (head_said ls) (head_said ls ++ i ∷ []) L2 none;
      }

  move_link : (key : LinkKey) (args : List (List ℕ)) (line : List ℕ) (l : LinkLine) → After ls r q true 2 → key_at line ≡ Some (any.Link key) → args_of (words line) ≡ args → link_of q.slaves (runs_said q.head) key args ≡ Ok l → refused_if (is_chaos key && is_some q.links.net.chaos) why.Repeated ≡ None
      → Frame L1 (L2 ++ line ∷ []) (head_said ls) (record q { links = put_link q.links l })
  move_link key args line l after k a read fresh =
      let slaves_are : slaves_of_blocks (group L1) ≡ q.slaves = all_said (group L1) q.slaves (after.shut refl).0 in
      let head_is : q.head ≡ head_said ls = after.head ∙ h.head in
      let links_are : q.links ≡ links_by L1 (head_said ls) L2 = after.links ∙ h.links in
      let said : link_at L1 (head_said ls) line ≡ Some l =
      ap (λ (k : Option AnyKey). link_by (slaves_of_blocks (group L1)) (runs_said (head_said ls)) k (args_of (words line))) k
      ∙ ap (λ (a : List (List ℕ)). result_ok (link_of (slaves_of_blocks (group L1)) (runs_said (head_said ls)) key a)) a
      ∙ ap (λ (s : List SlaveDesc). result_ok (link_of s (runs_said (head_said ls)) key args)) slaves_are
      ∙ ap (λ (hd : List HeadItem). result_ok (link_of q.slaves (runs_said hd) key args)) (sym head_is)
      ∙ ap result_ok read in
      let before : is_some (chaos_in l) ≡ true → is_some (links_by L1 (head_said ls) L2).net.chaos ≡ false =
      λ t. ap (λ (k : Links). is_some k.net.chaos) (sym links_are) ∙ and_one (is_chaos key) (is_some q.links.net.chaos) (not_refused _ why.Repeated fresh) (chaos_key q.slaves (runs_said q.head) key args l read t) in
      record {
        section = after.arrived ∙ sym (ap (λ (b : Bool). cond b 2 (cond (came L1) 1 0)) (came_push L2 line));
        said = head_is;
        closed = group L1;
        now = None;
        split = sym (append-nil (group L1));
        slaves = (after.shut refl).0;
        block = (after.shut refl).1;
        at = ap (λ (n : ℕ). eqb n 1) (sym after.arrived);
        room = λ t. absurd (false≢true t);
        early = λ lt. absurd (omega (arith, after.arrived));
        first = λ z. absurd (omega (arith, after.arrived));
        links =
            ap (λ (k : Links). put_link k l) links_are
            ∙ sym (links_push (filter_map (link_at L1 (head_said ls)) L2) l before)
            ∙ ap links_of (sym (filter_map-append (link_at L1 (head_said ls)) L2 (line ∷ []) ∙ ap (λ (o : Option LinkLine). filter_map (link_at L1 (head_said ls)) L2 ++ cons_option o []) said));
      }

  move_slave : (line : List ℕ) (i : Item) → After ls r q true 1 → r.section ≤ 1 → begins_block line ≡ true → item_in line ≡ Some i → key_in i ≡ keys.Slave → why_held q.block i ≡ None → why_among q.head q.slaves i ≡ None
      → Frame (L1 ++ line ∷ []) L2 (head_said ls) (record q { block = put_item q.block i })
  move_slave line i after up begun item k held among =
      let none : L2 ≡ [] = h.early (omega arith) in
      let shut = after.shut refl in
      let named = named_item q.head q.slaves i k among in
      let more = holds_more [] nothing holds_nothing i (ap (has nothing) k) (inl (ap begins k)) (subst (λ (p : Partial). why_held p i ≡ None) shut.1 held) in
      record {
        section = after.arrived ∙ sym (ap (λ (l : List (List ℕ)). section_by l (L1 ++ line ∷ [])) none ∙ ap (λ (b : Bool). cond b 1 0) (came_push L1 line));
        said = after.head ∙ h.head;
        closed = group L1;
        now = Some (line ∷ []);
        split = group_new L1 line begun;
        slaves = shut.0;
        block = subst (λ (p : Partial). Holds (items_in (line ∷ [])) (put_item p i) × (is_some (put_item p i).name ≡ true)) (sym shut.1) (subst (λ (o : Option Item). Holds (cons_option o []) (put_item nothing i)) (sym item) more, named.1);
        at = ap (λ (n : ℕ). eqb n 1) (sym after.arrived);
        room = λ _. named.0;
        early = λ _. none;
        first = λ z. absurd (omega (arith, after.arrived));
        links = after.links ∙ h.links ∙ no_links_by L1 (L1 ++ line ∷ []) (head_said ls) (head_said ls) L2 none;
      }

  move_block : (line : List ℕ) (key : Key) (i : Item) → After ls r q false 1 → r.section ≤ 1 → begins_block line ≡ false → begins key ≡ false → item_in line ≡ Some i → key_in i ≡ key → why_key (has q.block key) (is_some q.block.name) key ≡ None → why_held q.block i ≡ None
      → Frame (L1 ++ line ∷ []) L2 (head_said ls) (record q { block = put_item q.block i })
  move_block line key i after up other not_name item k may held = by h.now h.split h.block h.at h.room
    where
      named : is_some q.block.name ≡ true
      named = ⊎_elim (λ b. absurd (false≢true (sym not_name ∙ b))) (λ n. n) (may_come (has q.block key) (is_some q.block.name) key may).1

      by : (now : Option (List (List ℕ))) → group L1 ≡ h.closed ++ option_to_list now → IsOpen now r.block → is_some now ≡ eqb r.section 1 → (is_some now ≡ true → length r.slaves < 16) → Frame (L1 ++ line ∷ []) L2 (head_said ls) (record q { block = put_item q.block i })
      by None split open_block at room =
          let kept = after.kept refl in
          absurd (false≢true (ap (λ (p : Partial). is_some p.name) (sym (kept.1 ∙ open_block)) ∙ named))
      by (Some g) split open_block at room =
          let kept = after.kept refl in
          let none : L2 ≡ [] = h.early (omega arith) in
          let again = may_come (has q.block key) (is_some q.block.name) key may in
          let held_q : Holds (items_in g) q.block = subst (Holds (items_in g)) (sym kept.1) open_block.0 in
          let more = holds_more (items_in g) q.block held_q i (ap (has q.block) k ∙ again.0) (inr named) held in
          let said : items_in (g ++ line ∷ []) ≡ items_in g ++ i ∷ [] = items_push g line ∙ ap (λ (o : Option Item). items_in g ++ cons_option o []) item in
          record {
            section = after.arrived ∙ sym (ap (λ (l : List (List ℕ)). section_by l (L1 ++ line ∷ [])) none ∙ ap (λ (b : Bool). cond b 1 0) (came_push L1 line));
            said = after.head ∙ h.head;
            closed = h.closed;
            now = Some (g ++ line ∷ []);
            split = group_more L1 line other ∙ ap (λ (gs : List (List (List ℕ))). at_last gs line) split ∙ at_last_is h.closed g line;
            slaves = subst (AreSlaveBlocks h.closed) (sym kept.0) h.slaves;
            block = (subst (λ (l : List Item). Holds l (put_item q.block i)) (sym said) more, still_named q.block i named);
            at = ap (λ (n : ℕ). eqb n 1) (sym after.arrived);
            room = λ _. subst (λ (l : List SlaveDesc). length l < 16) (sym kept.0) (room refl);
            early = λ _. none;
            first = λ z. absurd (omega (arith, after.arrived));
            links = after.links ∙ h.links ∙ no_links_by L1 (L1 ++ line ∷ []) (head_said ls) (head_said ls) L2 none;
          }

reframe : (l1 l1' l2 l2' : List (List ℕ)) (hd hd' : List HeadItem) (r : Reader) → l1 ≡ l1' → l2 ≡ l2' → hd ≡ hd' → Frame l1 l2 hd r → Frame l1' l2' hd' r
reframe l1 l1' l2 l2' hd hd' r e f g h = subst (λ (l : List (List ℕ)). Frame l l2' hd' r) e (subst (λ (l : List (List ℕ)). Frame l1 l hd' r) f (subst (λ (l : List HeadItem). Frame l1 l2 l r) g h))

pub key_said : (line w : List ℕ) (args : List (List ℕ)) (key : AnyKey) → words line ≡ w ∷ args → is_skipped (w ∷ args) ≡ false → any_key w ≡ Some key → key_at line ≡ Some key
key_said line w args key said skip k = ap (λ (ws : List (List ℕ)). cond (is_skipped ws) None (key_of_words ws)) said ∙ ap (λ (b : Bool). cond b None (any_key w)) skip ∙ k

module _ (ls : List (List ℕ)) (r q t : Reader) (h : Stands ls r) (line w : List ℕ) (args : List (List ℕ)) (said : words line ≡ w ∷ args) (skip : is_skipped (w ∷ args) ≡ false) where
  act_head : (key : HeadKey) → any_key w ≡ Some (any.Head key) → After ls r q false 0 → r.section ≤ 0 → take_head q key args ≡ Ok t → Stands (ls ++ line ∷ []) t
  act_head key k after up e =
      let u = unless_ok (refused_if (is_said key q.head) why.Repeated) _ t e in
      let i = bind_ok (head_item key args) _ t u.1 in
      let at = key_said line w args (any.Head key) said skip k in
      let more : head_said (ls ++ line ∷ []) ≡ head_said ls ++ i.0 ∷ [] =
      head_push ls line (Some (any.Head key)) at
      ∙ ap (λ (a : List (List ℕ)). head_said ls ++ cons_option (result_ok (head_item key (args_of a))) []) said
      ∙ ap (λ (x : Result HeadItem TextWhy). head_said ls ++ cons_option (result_ok x) []) i.1 in
      moved (Stands (ls ++ line ∷ [])) (record q { head = q.head ++ i.0 ∷ [] }) t i.2
      (stands_of (ls ++ line ∷ []) (record q { head = q.head ++ i.0 ∷ [] })
      (reframe _ _ _ _ _ _ (record q { head = q.head ++ i.0 ∷ [] })
      (sym (lines_push 1 ls line (Some (any.Head key)) at ∙ append-nil (lines_in 1 ls)))
      (sym (lines_push 2 ls line (Some (any.Head key)) at ∙ append-nil (lines_in 2 ls)))
      (sym more)
      (move_head ls r q h key i.0 after up)))

  act_link : (key : LinkKey) → any_key w ≡ Some (any.Link key) → After ls r q true 2 → take_link q key args ≡ Ok t → Stands (ls ++ line ∷ []) t
  act_link key k after e =
      let u = unless_ok (refused_if (is_chaos key && is_some q.links.net.chaos) why.Repeated) _ t e in
      let l = bind_ok (link_of q.slaves (runs_said q.head) key args) _ t u.1 in
      let v = unless_ok (why_link q.slaves q.links l.0) _ t l.2 in
      let at = key_said line w args (any.Link key) said skip k in
      moved (Stands (ls ++ line ∷ [])) (record q { links = put_link q.links l.0 }) t v.1
      (stands_of (ls ++ line ∷ []) (record q { links = put_link q.links l.0 })
      (reframe _ _ _ _ _ _ (record q { links = put_link q.links l.0 })
      (sym (lines_push 1 ls line (Some (any.Link key)) at ∙ append-nil (lines_in 1 ls)))
      (sym (lines_push 2 ls line (Some (any.Link key)) at))
      (sym (head_push ls line (Some (any.Link key)) at ∙ append-nil (head_said ls)))
      (move_link ls r q h key args line l.0 after at (ap args_of said) l.1 u.0)))

  act_block : (key : Key) (ends : Bool) → begins key ≡ ends → any_key w ≡ Some (any.Block key) → After ls r q ends 1 → r.section ≤ 1 → take_scenario_block q key args ≡ Ok t → Stands (ls ++ line ∷ []) t
  act_block key ends begun k after up e =
      let u = unless_ok (why_key (has q.block key) (is_some q.block.name) key) _ t e in
      let i = bind_ok (item_of key args) _ t u.1 in
      let v = unless_ok (why_held q.block i.0) _ t i.2 in
      let x = unless_ok (why_among q.head q.slaves i.0) _ t v.1 in
      let at = key_said line w args (any.Block key) said skip k in
      let own = block_key (head_key w) (key_of w) (link_key w) key k in
      let item = line_item line w args key i.0 said skip own i.1 in
      let key_is = item_key key args i.0 i.1 in
      let begins_line : begins_block line ≡ ends = ap is_slave_key at ∙ slave_key_is key ∙ begun in
      moved (Stands (ls ++ line ∷ [])) (record q { block = put_item q.block i.0 }) t x.1
      (stands_of (ls ++ line ∷ []) (record q { block = put_item q.block i.0 })
      (reframe _ _ _ _ _ _ (record q { block = put_item q.block i.0 })
      (sym (lines_push 1 ls line (Some (any.Block key)) at))
      (sym (lines_push 2 ls line (Some (any.Block key)) at ∙ append-nil (lines_in 2 ls)))
      (sym (head_push ls line (Some (any.Block key)) at ∙ append-nil (head_said ls)))
      (moves ends begun after begins_line item key_is u.0 v.0 x.0 i.0)))
    where
      slave_only : (key : Key) → begins key ≡ true → key ≡ keys.Slave
      slave_only keys.Slave e = refl
      slave_only keys.Uuid e = absurd (false≢true e)
      slave_only keys.Address e = absurd (false≢true e)
      slave_only keys.Model e = absurd (false≢true e)
      slave_only keys.Busy e = absurd (false≢true e)
      slave_only keys.Heartbeat e = absurd (false≢true e)
      slave_only keys.Resolution e = absurd (false≢true e)
      slave_only keys.Input e = absurd (false≢true e)
      slave_only keys.Output e = absurd (false≢true e)

      moves : (ends : Bool) → begins key ≡ ends → After ls r q ends 1 → begins_block line ≡ ends → {i : Item} → item_in line ≡ Some i → key_in i ≡ key → why_key (has q.block key) (is_some q.block.name) key ≡ None → why_held q.block i ≡ None → why_among q.head q.slaves i ≡ None → (j : Item) → Frame (lines_in 1 ls ++ line ∷ []) (lines_in 2 ls) (head_said ls) (record q { block = put_item q.block i })
      moves true begun after begins_line {i} item key_is may held among j = move_slave ls r q h line i after up begins_line item (key_is ∙ slave_only key begun) held among
      moves false begun after begins_line {i} item key_is may held among j = move_block ls r q h line key i after up begins_line begun item key_is may held

closes_is : (key : Key) → closes_block (any.Block key) ≡ begins key
closes_is keys.Slave = refl
closes_is keys.Uuid = refl
closes_is keys.Address = refl
closes_is keys.Model = refl
closes_is keys.Busy = refl
closes_is keys.Heartbeat = refl
closes_is keys.Resolution = refl
closes_is keys.Input = refl
closes_is keys.Output = refl

act_by : (ls : List (List ℕ)) (r q t : Reader) (h : Stands ls r) (line w : List ℕ) (args : List (List ℕ)) → words line ≡ w ∷ args → is_skipped (w ∷ args) ≡ false → (key : AnyKey) → any_key w ≡ Some key → After ls r q (closes_block key) (section_of key) → r.section ≤ section_of key → act_on_key q key args ≡ Ok t → Stands (ls ++ line ∷ []) t
act_by ls r q t h line w args said skip (any.Head key) k after up e = act_head ls r q t h line w args said skip key k after up e
act_by ls r q t h line w args said skip (any.Link key) k after up e = act_link ls r q t h line w args said skip key k after e
act_by ls r q t h line w args said skip (any.Block key) k after up e = act_block ls r q t h line w args said skip key (begins key) refl k (subst (λ (b : Bool). After ls r q b 1) (closes_is key) after) up e

keyed_moves : (ls : List (List ℕ)) (r t : Reader) (h : Stands ls r) (line w : List ℕ) (args : List (List ℕ)) → words line ≡ w ∷ args → is_skipped (w ∷ args) ≡ false → (key : Option AnyKey) → any_key w ≡ key → take_scenario_keyed r key args ≡ Ok t → Stands (ls ++ line ∷ []) t
keyed_moves ls r t h line w args said skip None k e = cc
keyed_moves ls r t h line w args said skip (Some key) k e =
    let u = unless_ok (refused_if (ltb (section_of key) r.section) why.Order) _ t e in
    let c = bind_ok (closes r (closes_block key) (section_of key)) _ t u.1 in
    act_by ls r c.0 t h line w args said skip key k (closes_after ls r h (closes_block key) (section_of key) c.0 c.1) (not_above (section_of key) r.section (not_refused _ why.Order u.0)) c.2

words_move : (ls : List (List ℕ)) (r t : Reader) (h : Stands ls r) (line : List ℕ) (ws : List (List ℕ)) → words line ≡ ws → is_skipped ws ≡ false → take_scenario_words r ws ≡ Ok t → Stands (ls ++ line ∷ []) t
words_move ls r t h line [] said skip e = absurd (false≢true (sym skip))
words_move ls r t h line (w ∷ args) said skip e = keyed_moves ls r t h line w args said skip (any_key w) refl e

skipped : (ls : List (List ℕ)) (r : Reader) (h : Stands ls r) (line : List ℕ) → is_skipped (words line) ≡ true → Stands (ls ++ line ∷ []) r
skipped ls r h line skip =
    let at : key_at line ≡ None = ap (λ (b : Bool). cond b None (key_of_words (words line))) skip in
    stands_of (ls ++ line ∷ []) r
    (reframe _ _ _ _ _ _ r
    (sym (lines_push 1 ls line None at ∙ append-nil (lines_in 1 ls)))
    (sym (lines_push 2 ls line None at ∙ append-nil (lines_in 2 ls)))
    (sym (head_push ls line None at ∙ append-nil (head_said ls)))
    (frame_of ls r h))

line_by : (u s : Bool) (ls : List (List ℕ)) (r t : Reader) (h : Stands ls r) (line : List ℕ) → is_skipped (words line) ≡ s → cond (not u) (Err why.NotUtf8) (cond s (Ok r) (take_scenario_words r (words line))) ≡ Ok t → Stands (ls ++ line ∷ []) t
line_by false s ls r t h line skip e = cc
line_by true true ls r t h line skip e = moved (Stands (ls ++ line ∷ [])) r t e (skipped ls r h line skip)
line_by true false ls r t h line skip e = words_move ls r t h line (words line) refl skip e

-- a line that is taken
pub line_moves : (ls : List (List ℕ)) (r t : Reader) (line : List ℕ) → Stands ls r → take_scenario_line r line ≡ Ok t → Stands (ls ++ line ∷ []) t
line_moves ls r t line h e = line_by (is_utf8 line) (is_skipped (words line)) ls r t h line refl e

pub starts : Stands [] reader_at_start
starts = record { section = refl; head = refl; closed = []; now = None; split = refl; slaves = tt; block = refl; at = refl; room = λ t. absurd (false≢true t); early = λ _. refl; first = λ _. refl; links = refl }
