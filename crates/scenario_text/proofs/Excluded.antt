-- A text of the grammar has no line that is refused.
use Rattle.std.proofs.Common.{◌≡◌, ℕ, suc, ◌<◌, Bool, true, false, cond, leb, ◌⊎◌, inl, inr, List, [], ◌∷◌, ◌++◌, length, Option, Some, None, refl, sym, ap, ◌∙◌, subst, arith, append-nil, append_assoc}
use Rattle.std.specs.List.{filter_map, cons_option}
use Rattle.std.proofs.lemmas.List.Elements.{filter_map-append}
use Rattle.text_lines.specs.declared.reasons.TextWhy.{TextWhy}
use Rattle.text_lines.specs.declared.reasons.TextWhy.TheVariants as why
use Rattle.desc_text.specs.Said.{name_in, item_in, items_in}
use Rattle.desc_text.specs.Judging.{came_before, begins, why_key, why_item, why_end}
use Rattle.text_lines.specs.Causes.{came, refused_if}
use Rattle.desc_text.specs.Reads.{Describes}
use Rattle.desc_text.proofs.Held.{key_in}
use Rattle.desc_text.proofs.Apart.{not_key, not_item, end_none}
use Rattle.desc_text.specs.declared.keys.Key.TheVariants as keys
use Rattle.desc_text.specs.declared.items.Item.{Item}
use Rattle.desc_text.specs.declared.items.Item.TheVariants as items
use Rattle.slave_desc.specs.declared.descriptions.SlaveDesc.{SlaveDesc}
use Rattle.scenario_text.specs.Said.{begins_block, group, last_of, front_of, slaves_of_blocks}
use Rattle.scenario_text.specs.Clashes.{why_among}
use Rattle.scenario_text.specs.Grammar.{AreSlaveBlocks, IsNew}
use Rattle.scenario_text.proofs.Groups.{at_last, group_new, group_more, at_last_is}
use Rattle.scenario_text.specs.declared.heads.HeadItem.{HeadItem}
use Rattle.scenario_text.proofs.Refusing.{none_refused, is_few}

-- ---- the blocks of a front of the lines, among all blocks

pub record GoesOn (gs : List (List (List ℕ))) (g : List (List ℕ)) (all : List (List (List ℕ))) : Type 0 where
  pub more : List (List ℕ)
  pub others : List (List (List ℕ))
  pub joined : all ≡ gs ++ (g ++ more) ∷ others

goes_on_by : (b : Bool) (xs ys : List (List ℕ)) (y : List ℕ) (gs : List (List (List ℕ))) (g : List (List ℕ)) → begins_block y ≡ b → group xs ≡ gs ++ g ∷ [] → ((hs : List (List (List ℕ))) (h : List (List ℕ)) → group (xs ++ y ∷ []) ≡ hs ++ h ∷ [] → GoesOn hs h (group ((xs ++ y ∷ []) ++ ys))) → GoesOn gs g (group ((xs ++ y ∷ []) ++ ys))
goes_on_by true xs ys y gs g begins e later =
    let t = later (gs ++ g ∷ []) (y ∷ []) (group_new xs y begins ∙ ap (λ l. l ++ (y ∷ []) ∷ []) e) in
    record { more = []; others = (y ∷ t.more) ∷ t.others; joined = t.joined ∙ append_assoc gs (g ∷ []) ((y ∷ t.more) ∷ t.others) ∙ ap (λ l. gs ++ l ∷ (y ∷ t.more) ∷ t.others) (sym (append-nil g)) }
goes_on_by false xs ys y gs g other e later =
    let t = later gs (g ++ y ∷ []) (group_more xs y other ∙ ap (λ l. at_last l y) e ∙ at_last_is gs g y) in
    record { more = y ∷ t.more; others = t.others; joined = t.joined ∙ ap (λ l. gs ++ l ∷ t.others) (append_assoc g (y ∷ []) t.more) }

pub goes_on : (xs ys : List (List ℕ)) (gs : List (List (List ℕ))) (g : List (List ℕ)) → group xs ≡ gs ++ g ∷ [] → GoesOn gs g (group (xs ++ ys))
goes_on xs [] gs g e = record { more = []; others = []; joined = ap group (append-nil xs) ∙ e ∙ ap (λ l. gs ++ l ∷ []) (sym (append-nil g)) }
goes_on xs (y ∷ ys) gs g e = subst (λ (l : List (List ℕ)). GoesOn gs g (group l)) (append_assoc xs (y ∷ []) ys) (goes_on_by (begins_block y) xs ys y gs g refl e (λ hs h e. goes_on (xs ++ y ∷ []) ys hs h e))

-- the slave that a block in the middle describes, and how many stand before it
pub described : (gs : List (List (List ℕ))) (g : List (List ℕ)) (others : List (List (List ℕ))) (ds : List SlaveDesc) → AreSlaveBlocks (gs ++ g ∷ others) ds → ((d : SlaveDesc) × Describes (items_in g) d) × (length gs < length ds)
described [] g others [] h = absurd h
described [] g others (d ∷ ds) h = ((d, h.0), omega arith)
described (f ∷ gs) g others [] h = absurd h
described (f ∷ gs) g others (d ∷ ds) h = let t = described gs g others ds h.1 in (t.0, omega (arith, t.1))

at_last_all : (gs : List (List (List ℕ))) (e : List ℕ) → at_last gs e ≡ front_of gs ++ (last_of gs ++ e ∷ []) ∷ []
at_last_all [] e = refl
at_last_all (g ∷ []) e = refl
at_last_all (g ∷ h ∷ gs) e = ap (λ l. g ∷ l) (at_last_all (h ∷ gs) e)

pub whole : (gs : List (List (List ℕ))) → (gs ≡ []) ⊎ (gs ≡ front_of gs ++ last_of gs ∷ [])
whole [] = inl refl
whole (g ∷ []) = inr refl
whole (g ∷ h ∷ gs) = inr (rest (whole (h ∷ gs)))
  where
    rest : ((h ∷ gs) ≡ []) ⊎ ((h ∷ gs) ≡ front_of (h ∷ gs) ++ last_of (h ∷ gs) ∷ []) → g ∷ h ∷ gs ≡ g ∷ (front_of (h ∷ gs) ++ last_of (h ∷ gs) ∷ [])
    rest (inl e) = cc
    rest (inr e) = ap (λ l. g ∷ l) e

map_length : (gs : List (List (List ℕ))) → length (slaves_of_blocks gs) ≡ length gs
map_length [] = refl
map_length (g ∷ gs) = ap suc (map_length gs)

items_split : (g more : List (List ℕ)) (l : List ℕ) (i : Item) → item_in l ≡ Some i → items_in ((g ++ l ∷ []) ++ more) ≡ items_in g ++ i ∷ items_in more
items_split g more l i e = ap items_in (append_assoc g (l ∷ []) more) ∙ filter_map-append item_in g (l ∷ more) ∙ ap (λ (o : Option Item). items_in g ++ cons_option o (items_in more)) e

-- a line of the open block, with what comes later in it, is a description
pub open_described : (xs ys : List (List ℕ)) (l : List ℕ) (i : Item) (ds : List SlaveDesc) → begins_block l ≡ false → item_in l ≡ Some i → AreSlaveBlocks (group (xs ++ l ∷ ys)) ds → (after : List Item) × (d : SlaveDesc) × Describes (items_in (last_of (group xs)) ++ i ∷ after) d
open_described xs ys l i ds other item slaves =
    let now = group_more xs l other ∙ at_last_all (group xs) l in
    let t = goes_on (xs ++ l ∷ []) ys (front_of (group xs)) (last_of (group xs) ++ l ∷ []) now in
    let all : group (xs ++ l ∷ ys) ≡ front_of (group xs) ++ ((last_of (group xs) ++ l ∷ []) ++ t.more) ∷ t.others = ap group (sym (append_assoc xs (l ∷ []) ys)) ∙ t.joined in
    let d = described (front_of (group xs)) ((last_of (group xs) ++ l ∷ []) ++ t.more) t.others ds (subst (λ (g : List (List (List ℕ))). AreSlaveBlocks g ds) all slaves) in
    (items_in t.more, d.0.0, subst (λ (x : List Item). Describes x d.0.0) (items_split (last_of (group xs)) t.more l i item) d.0.1)

-- a slave line leaves room for its slave
pub slave_room : (xs ys : List (List ℕ)) (l : List ℕ) (ds : List SlaveDesc) → begins_block l ≡ true → AreSlaveBlocks (group (xs ++ l ∷ ys)) ds → length (slaves_of_blocks (group xs)) < length ds
slave_room xs ys l ds begun slaves =
    let t = goes_on (xs ++ l ∷ []) ys (group xs) (l ∷ []) (group_new xs l begun) in
    let all : group (xs ++ l ∷ ys) ≡ group xs ++ ((l ∷ []) ++ t.more) ∷ t.others = ap group (sym (append_assoc xs (l ∷ []) ys)) ∙ t.joined in
    let d = described (group xs) ((l ∷ []) ++ t.more) t.others ds (subst (λ (g : List (List (List ℕ))). AreSlaveBlocks g ds) all slaves) in
    subst (λ (n : ℕ). n < length ds) (sym (map_length (group xs))) d.1

-- a slave line finds the block before it whole
pub last_whole : (xs ys : List (List ℕ)) (l : List ℕ) (ds : List SlaveDesc) → begins_block l ≡ true → group xs ≡ front_of (group xs) ++ last_of (group xs) ∷ [] → AreSlaveBlocks (group (xs ++ l ∷ ys)) ds → why_end (items_in (last_of (group xs))) ≡ None
last_whole xs ys l ds begun e slaves =
    let t = goes_on (xs ++ l ∷ []) ys (group xs) (l ∷ []) (group_new xs l begun) in
    let all : group (xs ++ l ∷ ys) ≡ front_of (group xs) ++ last_of (group xs) ∷ ((l ∷ []) ++ t.more) ∷ t.others =
    ap group (sym (append_assoc xs (l ∷ []) ys)) ∙ t.joined ∙ ap (λ g. g ++ ((l ∷ []) ++ t.more) ∷ t.others) e ∙ append_assoc (front_of (group xs)) (last_of (group xs) ∷ []) (((l ∷ []) ++ t.more) ∷ t.others) in
    let d = described (front_of (group xs)) (last_of (group xs)) (((l ∷ []) ++ t.more) ∷ t.others) ds (subst (λ (g : List (List (List ℕ))). AreSlaveBlocks g ds) all slaves) in
    end_none (items_in (last_of (group xs))) d.0.0 d.0.1

-- and so does the end of the slaves
pub last_of_all : (gs : List (List (List ℕ))) (ds : List SlaveDesc) → gs ≡ front_of gs ++ last_of gs ∷ [] → AreSlaveBlocks gs ds → why_end (items_in (last_of gs)) ≡ None
last_of_all gs ds e slaves =
    let d = described (front_of gs) (last_of gs) [] ds (subst (λ (g : List (List (List ℕ))). AreSlaveBlocks g ds) e slaves) in
    end_none (items_in (last_of gs)) d.0.0 d.0.1

-- ---- causes that a description leaves none of

none_by : (o : Option TextWhy) → ((w : TextWhy) → o ≡ Some w → ⊥) → o ≡ None
none_by None h = refl
none_by (Some w) h = absurd (h w refl)

pub key_none : (before : List Item) (i : Item) (after : List Item) (d : SlaveDesc) → Describes (before ++ i ∷ after) d → why_key (came_before before (key_in i)) (came (filter_map name_in before)) (key_in i) ≡ None
key_none before i after d says = none_by _ (λ w e. not_key before i after d w says e)

pub item_none : (before : List Item) (i : Item) (after : List Item) (d : SlaveDesc) → Describes (before ++ i ∷ after) d → why_item before i ≡ None
item_none before i after d says = none_by _ (λ w e. not_item before i after d w says e)

-- what is new among the slaves before is not refused, where there is room for a name
pub among_none : (head : List HeadItem) (slaves : List SlaveDesc) (i : Item) → IsNew head slaves i → (key_in i ≡ keys.Slave → length slaves < 16) → why_among head slaves i ≡ None
among_none head slaves (items.Slave n) new room = ap (λ (b : Bool). cond b (Some why.Repeated) (refused_if (leb 16 (length slaves)) why.Limit)) new ∙ none_refused (leb 16 (length slaves)) why.Limit (is_few (length slaves) (room refl))
among_none head slaves (items.Address a) new room = none_refused _ why.SameAddress new
among_none head slaves (items.Uuid n) new room = refl
among_none head slaves (items.Model k ps) new room = refl
among_none head slaves (items.Busy n) new room = refl
among_none head slaves (items.Heartbeat n) new room = refl
among_none head slaves (items.Resolution n d) new room = refl
among_none head slaves (items.Input p) new room = refl
among_none head slaves (items.Output p) new room = refl
