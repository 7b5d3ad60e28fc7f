-- Each line that is taken keeps what is known of the reader, so what a text gives is in range.
use Rattle.std.proofs.Common.{◌≡◌, ◌≢◌, ℕ, ◌+◌, ◌-◌, ◌<◌, ◌≤◌, Bool, true, false, not, ◌&&◌, cond, eqb, ltb, leb, get_or, ◌⊎◌, ⊎_elim, List, [], ◌∷◌, ◌++◌, length, Option, Some, None, Ok, Err, is_some, refl, sym, ap, ◌∙◌, subst, arith, length-append}
use Rattle.std.specs.Prelude.{All, slice_get}
use Rattle.std.specs.List.{AllByRecursion, cons_option}
use Rattle.std.specs.Option.{option_map}
use Rattle.std.specs.Result.{result_ok}
use Rattle.std.specs.Str.{is_utf8}
use Rattle.std.proofs.str.Laws.{order}
use Rattle.std.proofs.lemmas.Bool.{false≢true, and_parts, and_from}
use Rattle.std.proofs.lemmas.Bool.Decides.{nat_tests}
use Rattle.std.proofs.lemmas.List.Elements.{All-push, All-nil}
use Rattle.std.proofs.lemmas.Option.{slice_get-get_or}
use Rattle.dcp_types.specs.declared.addresses.Address.{Address}
use Rattle.text_lines.specs.Texts.{words, is_skipped}
use Rattle.text_lines.specs.Causes.{◌>>=◌, refused_if, unless}
use Rattle.text_lines.specs.Runs.{at_line, run_of}
use Rattle.text_lines.proofs.Results.{bind_ok, at_ok, and_ok, given_same, moved}
use Rattle.text_lines.specs.declared.reasons.TextWhy.TheVariants as why
use Rattle.desc_text.specs.Items.{key_of, item_of}
use Rattle.slave_desc.specs.Descriptions.{IsDesc}
use Rattle.desc_text.specs.Judging.{begins, why_key}
use Rattle.desc_text.specs.Said.{item_keyed, item_of_words, item_in, items_in}
use Rattle.desc_text.specs.Machine.{has, put_item, why_held, nothing}
use Rattle.desc_text.specs.Machine as block
use Rattle.desc_text.proofs.Held.{Holds, holds_nothing, holds_more, may_come, not_refused, not_not}
use Rattle.desc_text.proofs.Judged.{item_key, unless_ok, end_ok, items_push}
use Rattle.desc_text.proofs.Ranges.{items_desc}
use Rattle.desc_text.specs.declared.keys.Key.{Key}
use Rattle.desc_text.specs.declared.items.Item.{Item}
use Rattle.desc_text.specs.declared.partials.Partial.{Partial}
use Rattle.slave_desc.specs.declared.descriptions.SlaveDesc.{SlaveDesc}
use Rattle.scenario_text.specs.Keys.{or_some, head_key, link_key, any_key, section_of, closes_block}
use Rattle.scenario_text.specs.Heads.{head_item, is_said, master_of_head, first_said, steps_said, runs_said}
use Rattle.scenario.specs.Lookups.{parameters_at, parameters_in}
use Rattle.scenario_text.specs.Links.{link_of}
use Rattle.scenario.specs.Settings.{takes_at, taken_by}
use Rattle.scenario_text.specs.Checks.{why_link}
use Rattle.scenario_text.specs.Collecting.{put_link, no_links}
use Rattle.scenario.specs.Totals.{is_too_much}
use Rattle.scenario_text.specs.Clashes.{why_head, why_slaves, why_among, is_chaos}
use Rattle.scenario_text.specs.Said.{scenario_of}
use Rattle.scenario_text.specs.Machine.{reader_at_start, close_head, close_block, close_slaves, closes, take_head, take_scenario_block, take_link, act_on_key, take_scenario_keyed, take_scenario_words, take_scenario_line, scenario_finished}
use Rattle.scenario.specs.Sound.{IsSlave, IsScenario}
use Rattle.scenario_text.proofs.HeadRanges.{FitsItem, first_fits, head_item_fits, master_fits}
use Rattle.scenario_text.proofs.LinkRanges.{link_there}
use Rattle.scenario_text.proofs.Apart.{AreNew, none_new, slave_new, item_new, others_differ}
use Rattle.scenario_text.proofs.FewWires.{few_wires}
use Rattle.scenario_text.proofs.LinkSets.{AreSound, links_more, none_sound}
use Rattle.scenario_text.specs.declared.keys.HeadKey.{HeadKey}
use Rattle.scenario_text.specs.declared.keys.HeadKey.TheVariants as heads
use Rattle.scenario_text.specs.declared.keys.LinkKey.{LinkKey}
use Rattle.scenario_text.specs.declared.keys.AnyKey.{AnyKey}
use Rattle.scenario_text.specs.declared.keys.AnyKey.TheVariants as any
use Rattle.scenario_text.specs.declared.heads.HeadItem.{HeadItem}
use Rattle.scenario_text.specs.declared.collected.Links.{Links}
use Rattle.scenario_text.specs.declared.readers.Reader.{Reader}
use Rattle.scenario.specs.declared.scenarios.Scenario.{Scenario}
use Rattle.text_lines.proofs.NumberTests.{not_above, is_below, is_equal}
use Rattle.scenario_text.proofs.Refusing.{first_none, has_room}

all_push : {X : Type 0} (P : X → Type 0) (xs : List X) (x : X) → AllByRecursion P xs → P x → AllByRecursion P (xs ++ x ∷ [])
all_push P [] x h k = (k, tt)
all_push P (y ∷ ys) x h k = (h.0, all_push P ys x h.1 k)

-- what is known of a reader: its block holds what some lines say, and all else is in range
pub record Sound (r : Reader) : Type 0 where
  pub lines : List (List ℕ)
  pub block : Holds (items_in lines) r.block
  pub head : AllByRecursion FitsItem r.head
  pub slaves : All (λ d. IsDesc d) r.slaves
  pub few : length r.slaves ≤ 16
  pub links : AreSound r.slaves (runs_said r.head) r.links
  pub unlinked : r.section < 2 → r.links ≡ no_links
  pub shut : r.section ≡ 2 → is_some r.block.name ≡ false
  pub ready : r.section ≡ 2 → (1 ≤ length r.slaves) × (is_too_much r.slaves (steps_said r.head) (runs_said r.head) ≡ false)
  pub bounded : r.section ≤ 2
  pub new : AreNew (first_said master_of_head r.head) r.slaves r.block
  pub bare : r.section ≡ 0 → (r.slaves ≡ []) × (r.block ≡ nothing)
  pub mastered : 1 ≤ r.section → is_said heads.Master r.head ≡ true

-- ---- tests

not_zero : (n : ℕ) → eqb n 0 ≡ false → 1 ≤ n
not_zero n e = grind (arith, nat_tests)

is_zero : (n : ℕ) → 1 ≤ n → eqb n 0 ≡ false
is_zero n e = grind (arith, nat_tests)

-- ---- each kind takes the parameters of its description

takes_by : (slaves : List SlaveDesc) (s : ℕ) (b : Bool) (o : Option SlaveDesc) → (d : SlaveDesc) → b ≡ false → o ≡ Some d → IsDesc d → taken_by (cond b None o) (parameters_in (cond b None o)) ≡ true
takes_by slaves s true o d e f desc = absurd (false≢true (sym e))
takes_by slaves s false o d e f desc = subst (λ (o : Option SlaveDesc). taken_by o (parameters_in o) ≡ true) (sym f) desc.taken

takes_own : (slaves : List SlaveDesc) → All (λ d. IsDesc d) slaves → (s : ℕ) → IsSlave slaves s → takes_at slaves s (parameters_at slaves s) ≡ true
takes_own [] all s is = absurd (omega (arith, is.0, is.1))
takes_own (d ∷ ds) all s is =
    let below : s - 1 < length (d ∷ ds) = omega (arith, is.0, is.1) in
    takes_by (d ∷ ds) s (eqb s 0) (slice_get (d ∷ ds) (s - 1)) (get_or (d ∷ ds) (s - 1) d) (is_zero s is.0) (slice_get-get_or (d ∷ ds) (s - 1) d below) (all (s - 1) d below)

-- ---- what a line closes

pub head_same : (b : Bool) (r a : Reader) → cond b (close_head r) (Ok r) ≡ Ok a → r ≡ a
head_same true r a e = given_same r a (unless_ok (why_head r.head) (Ok r) a e).1
head_same false r a e = given_same r a e

-- a head that closes names the master
head_named : (b : Bool) (r a : Reader) → cond b (close_head r) (Ok r) ≡ Ok a → b ≡ true → is_said heads.Master r.head ≡ true
head_named true r a e t = (and_parts (is_said heads.Steps r.head) (is_said heads.Master r.head) (not_not _ (not_refused _ why.Missing (unless_ok (why_head r.head) (Ok r) a e).0))).1
head_named false r a e t = absurd (false≢true t)

slaves_same : (b : Bool) (r c : Reader) → cond b (close_slaves r) (Ok r) ≡ Ok c → (r ≡ c) × (b ≡ true → why_slaves r.head r.slaves ≡ None)
slaves_same true r c e = let u = unless_ok (why_slaves r.head r.slaves) (Ok r) c e in (given_same r c u.1, λ _. u.0)
slaves_same false r c e = (given_same r c e, λ t. absurd (false≢true t))

abbrev pub closed_with : Reader → SlaveDesc → Reader
closed_with r d = record r { slaves = r.slaves ++ d ∷ []; block = nothing }

with_slave : (r : Reader) (d : SlaveDesc) → Sound r → IsDesc d → block.finished r.block ≡ Ok d → 1 ≤ r.section → r.section < 2 → length r.slaves < 16 → Sound (closed_with r d)
with_slave r d h desc given late early room =
    let slaves = All-push (λ d. IsDesc d) r.slaves d h.slaves desc in
    record {
      lines = [];
      block = holds_nothing;
      head = h.head;
      slaves = slaves;
      few = omega (arith, length-append r.slaves (d ∷ []));
      links = subst (λ (l : Links). AreSound (r.slaves ++ d ∷ []) (runs_said r.head) l) (sym (h.unlinked early)) (none_sound (r.slaves ++ d ∷ []) (runs_said r.head) (takes_own (r.slaves ++ d ∷ []) slaves));
      unlinked = h.unlinked;
      shut = λ _. refl;
      ready = λ two. absurd (omega arith);
      bounded = h.bounded;
      new = slave_new (first_said master_of_head r.head) r.slaves r.block d h.new given;
      bare = λ zero. absurd (omega arith);
      mastered = h.mastered;
    }

abbrev Shut : Reader → Reader → Type 0
Shut r b = Sound b × (b.section ≡ r.section) × (b.head ≡ r.head) × (is_some b.block.name ≡ false)

block_by : (named : Bool) (r b : Reader) → Sound r → is_some r.block.name ≡ named → cond named (unless (refused_if (leb 16 (length r.slaves)) why.Limit) (block.finished r.block >>= λ d. Ok (closed_with r d))) (Ok r) ≡ Ok b → Shut r b
block_by true r b h named e =
    let u = unless_ok (refused_if (leb 16 (length r.slaves)) why.Limit) _ b e in
    let d = bind_ok (block.finished r.block) _ b u.1 in
    let desc = items_desc h.lines d.0 (end_ok (items_in h.lines) r.block h.block d.0 d.1) in
    let not_last : r.section ≢ 2 = λ two. false≢true (sym (h.shut two) ∙ named) in
    let not_first : r.section ≢ 0 = λ zero. false≢true (ap (λ (p : Partial). is_some p.name) (sym (h.bare zero).1) ∙ named) in
    let late : 1 ≤ r.section = omega (arith, not_first) in
    let early : r.section < 2 = omega (arith, h.bounded) in
    moved (λ (b : Reader). Shut r b) (closed_with r d.0) b d.2 (with_slave r d.0 h desc d.1 late early (has_room (length r.slaves) (not_refused _ why.Limit u.0)), refl, refl, refl)
block_by false r b h named e = moved (λ (b : Reader). Shut r b) r b e (h, refl, refl, named)

block_keeps : (ends : Bool) (r b : Reader) → Sound r → cond ends (close_block r) (Ok r) ≡ Ok b → Sound b × (b.section ≡ r.section) × (b.head ≡ r.head) × (ends ≡ true → is_some b.block.name ≡ false)
block_keeps true r b h e = let t = block_by (is_some r.block.name) r b h refl e in (t.0, t.1, t.2, λ _. t.3)
block_keeps false r b h e = moved (λ (b : Reader). Sound b × (b.section ≡ r.section) × (b.head ≡ r.head) × (false ≡ true → is_some b.block.name ≡ false)) r b e (h, refl, refl, λ t. absurd (false≢true t))

at_section : (r : Reader) (section : ℕ) → Sound r → r.section ≤ section → section ≤ 2 → (section ≡ 2 → is_some r.block.name ≡ false) → (1 ≤ section → is_said heads.Master r.head ≡ true) → ((ltb r.section 2 && eqb section 2) ≡ true → why_slaves r.head r.slaves ≡ None) → Sound (record r { section = section })
at_section r section h up bound shut mastered closed = record {
  lines = h.lines;
  block = h.block;
  head = h.head;
  slaves = h.slaves;
  few = h.few;
  links = h.links;
  unlinked = λ early. h.unlinked (omega arith);
  shut = shut;
  ready = λ two. ⊎_elim
      (λ early.
      let none = closed (ap (λ (b : Bool). b && eqb section 2) (is_below r.section 2 early) ∙ is_equal section 2 two) in
      let t = first_none (eqb (length r.slaves) 0) why.Missing (refused_if (is_too_much r.slaves (steps_said r.head) (runs_said r.head)) why.Limit) none in
      (not_zero (length r.slaves) t.0, not_refused (is_too_much r.slaves (steps_said r.head) (runs_said r.head)) why.Limit t.1))
      (λ late. h.ready (omega (arith, h.bounded)))
      (order r.section 2);
  bounded = bound;
  new = h.new;
  bare = λ zero. h.bare (omega arith);
  mastered = mastered;
}

abbrev Closed : Reader → ℕ → Type 0
Closed q section = Sound q × (q.section ≡ section)

closes_keeps : (r q : Reader) (ends : Bool) (section : ℕ) → Sound r → r.section ≤ section → section ≤ 2 → (section ≡ 2 → ends ≡ true) → closes r ends section ≡ Ok q → Closed q section
closes_keeps r q ends section h up bound last e =
    let a = bind_ok (cond (eqb r.section 0 && ltb 0 section) (close_head r) (Ok r)) _ q e in
    let same_a = head_same (eqb r.section 0 && ltb 0 section) r a.0 a.1 in
    let b = bind_ok (cond ends (close_block a.0) (Ok a.0)) _ q a.2 in
    let kept = block_keeps ends a.0 b.0 (subst Sound same_a h) b.1 in
    let c = bind_ok (cond (ltb b.0.section 2 && eqb section 2) (close_slaves b.0) (Ok b.0)) _ q b.2 in
    let same_c = slaves_same (ltb b.0.section 2 && eqb section 2) b.0 c.0 c.1 in
    let same_section : b.0.section ≡ r.section = kept.1 ∙ ap (λ (r : Reader). r.section) (sym same_a) in
    let same_head : r.head ≡ b.0.head = ap (λ (r : Reader). r.head) same_a ∙ sym kept.2 in
    let mastered : 1 ≤ section → is_said heads.Master b.0.head ≡ true =
    λ one. subst (λ (l : List HeadItem). is_said heads.Master l ≡ true) same_head
    (⊎_elim
    (λ zero. head_named (eqb r.section 0 && ltb 0 section) r a.0 a.1 (and_from (eqb r.section 0) (ltb 0 section) (is_equal r.section 0 (omega arith)) (is_below 0 section (omega arith))))
    (λ late. h.mastered late)
    (order r.section 1)) in
    let new = at_section b.0 section kept.0 (omega arith) bound (λ two. kept.3 (last two)) mastered same_c.1 in
    moved (λ (q : Reader). Closed q section) (record c.0 { section = section }) q c.2 (subst (λ (c : Reader). Sound (record c { section = section })) same_c.0 new, refl)

-- ---- what a line says

bare_new : (master : Option Address) (slaves : List SlaveDesc) (p : Partial) → (slaves ≡ []) × (p ≡ nothing) → AreNew master slaves p
bare_new master slaves p bare = subst (λ (l : List SlaveDesc). AreNew master l p) (sym bare.0) (subst (λ (p : Partial). AreNew master [] p) (sym bare.1) (none_new master))

head_keeps : (r q : Reader) (key : HeadKey) (args : List (List ℕ)) → Sound r → r.section ≡ 0 → take_head r key args ≡ Ok q → Sound q
head_keeps r q key args h at e =
    let u = unless_ok (refused_if (is_said key r.head) why.Repeated) _ q e in
    let i = bind_ok (head_item key args) _ q u.1 in
    let early : r.section < 2 = omega arith in
    moved Sound (record r { head = r.head ++ i.0 ∷ [] }) q i.2 (record {
      lines = h.lines;
      block = h.block;
      head = all_push FitsItem r.head i.0 h.head (head_item_fits key args i.0 i.1);
      slaves = h.slaves;
      few = h.few;
      links = subst (λ (l : Links). AreSound r.slaves (runs_said (r.head ++ i.0 ∷ [])) l) (sym (h.unlinked early)) (none_sound r.slaves (runs_said (r.head ++ i.0 ∷ [])) (takes_own r.slaves h.slaves));
      unlinked = h.unlinked;
      shut = h.shut;
      ready = λ two. absurd (omega arith);
      bounded = h.bounded;
      new = bare_new (first_said master_of_head (r.head ++ i.0 ∷ [])) r.slaves r.block (h.bare at);
      bare = h.bare;
      mastered = λ one. absurd (omega arith);
    })

pub line_item : (line w : List ℕ) (args : List (List ℕ)) (key : Key) (i : Item) → words line ≡ w ∷ args → is_skipped (w ∷ args) ≡ false → key_of w ≡ Some key → item_of key args ≡ Ok i → item_in line ≡ Some i
line_item line w args key i e skip k read =
    ap (λ (ws : List (List ℕ)). cond (is_skipped ws) None (item_of_words ws)) e
    ∙ ap (λ (b : Bool). cond b None (item_of_words (w ∷ args))) skip
    ∙ ap (λ (k : Option Key). item_keyed k args) k
    ∙ ap result_ok read

block_takes : (r q : Reader) (key : Key) (line w : List ℕ) (args : List (List ℕ)) → Sound r → r.section ≡ 1 → words line ≡ w ∷ args → is_skipped (w ∷ args) ≡ false → key_of w ≡ Some key → take_scenario_block r key args ≡ Ok q → Sound q
block_takes r q key line w args h at said skip k e =
    let u = unless_ok (why_key (has r.block key) (is_some r.block.name) key) _ q e in
    let i = bind_ok (item_of key args) _ q u.1 in
    let v = unless_ok (why_held r.block i.0) _ q i.2 in
    let x = unless_ok (why_among r.head r.slaves i.0) _ q v.1 in
    let may = may_come (has r.block key) (is_some r.block.name) key u.0 in
    let key_is = item_key key args i.0 i.1 in
    let more = holds_more (items_in h.lines) r.block h.block i.0 (ap (has r.block) key_is ∙ may.0) (subst (λ (k : Key). (begins k ≡ true) ⊎ (is_some r.block.name ≡ true)) (sym key_is) may.1) v.0 in
    let items : items_in (h.lines ++ line ∷ []) ≡ items_in h.lines ++ i.0 ∷ [] = items_push h.lines line ∙ ap (λ (o : Option Item). items_in h.lines ++ cons_option o []) (line_item line w args key i.0 said skip k i.1) in
    moved Sound (record r { block = put_item r.block i.0 }) q x.1 (record {
      lines = h.lines ++ line ∷ [];
      block = subst (λ (l : List Item). Holds l (put_item r.block i.0)) (sym items) more;
      head = h.head;
      slaves = h.slaves;
      few = h.few;
      links = h.links;
      unlinked = h.unlinked;
      shut = λ two. absurd (omega arith);
      ready = λ two. absurd (omega arith);
      bounded = h.bounded;
      new = item_new r.head r.slaves r.block i.0 h.new x.0;
      bare = λ zero. absurd (omega arith);
      mastered = h.mastered;
    })

link_keeps : (r q : Reader) (key : LinkKey) (args : List (List ℕ)) → Sound r → r.section ≡ 2 → take_link r key args ≡ Ok q → Sound q
link_keeps r q key args h at e =
    let u = unless_ok (refused_if (is_chaos key && is_some r.links.net.chaos) why.Repeated) _ q e in
    let l = bind_ok (link_of r.slaves (runs_said r.head) key args) _ q u.1 in
    let v = unless_ok (why_link r.slaves r.links l.0) _ q l.2 in
    moved Sound (record r { links = put_link r.links l.0 }) q v.1 (record {
      lines = h.lines;
      block = h.block;
      head = h.head;
      slaves = h.slaves;
      few = h.few;
      links = links_more r.slaves (runs_said r.head) r.links h.links l.0 (link_there r.slaves (runs_said r.head) key args l.0 l.1) v.0;
      unlinked = λ early. absurd (omega arith);
      shut = h.shut;
      ready = h.ready;
      bounded = h.bounded;
      new = h.new;
      bare = h.bare;
      mastered = h.mastered;
    })

pub block_key : (h : Option HeadKey) (b : Option Key) (l : Option LinkKey) (k : Key) → or_some (option_map (λ k. any.Head k) h) (or_some (option_map (λ k. any.Block k) b) (option_map (λ k. any.Link k) l)) ≡ Some (any.Block k) → b ≡ Some k
block_key (Some h) b l k e = cc
block_key None (Some b) l k e = cc
block_key None None (Some l) k e = cc
block_key None None None k e = cc

act_keeps : (r q : Reader) (key : AnyKey) (line w : List ℕ) (args : List (List ℕ)) → Sound r → r.section ≡ section_of key → words line ≡ w ∷ args → is_skipped (w ∷ args) ≡ false → any_key w ≡ Some key → act_on_key r key args ≡ Ok q → Sound q
act_keeps r q (any.Head key) line w args h at said skip k e = head_keeps r q key args h at e
act_keeps r q (any.Block key) line w args h at said skip k e = block_takes r q key line w args h at said skip (block_key (head_key w) (key_of w) (link_key w) key k) e
act_keeps r q (any.Link key) line w args h at said skip k e = link_keeps r q key args h at e

pub few_sections : (key : AnyKey) → section_of key ≤ 2
few_sections (any.Head k) = omega arith
few_sections (any.Block k) = omega arith
few_sections (any.Link k) = omega arith

pub last_closes : (key : AnyKey) → section_of key ≡ 2 → closes_block key ≡ true
last_closes (any.Head k) e = absurd (omega arith)
last_closes (any.Block k) e = absurd (omega arith)
last_closes (any.Link k) e = refl

keyed_keeps : (r q : Reader) (key : Option AnyKey) (line w : List ℕ) (args : List (List ℕ)) → Sound r → words line ≡ w ∷ args → is_skipped (w ∷ args) ≡ false → any_key w ≡ key → take_scenario_keyed r key args ≡ Ok q → Sound q
keyed_keeps r q None line w args h said skip k e = cc
keyed_keeps r q (Some key) line w args h said skip k e =
    let u = unless_ok (refused_if (ltb (section_of key) r.section) why.Order) _ q e in
    let c = bind_ok (closes r (closes_block key) (section_of key)) _ q u.1 in
    let t = closes_keeps r c.0 (closes_block key) (section_of key) h (not_above (section_of key) r.section (not_refused _ why.Order u.0)) (few_sections key) (last_closes key) c.1 in
    act_keeps c.0 q key line w args t.0 t.1 said skip k c.2

words_keep : (r q : Reader) (line : List ℕ) (ws : List (List ℕ)) → Sound r → words line ≡ ws → is_skipped ws ≡ false → take_scenario_words r ws ≡ Ok q → Sound q
words_keep r q line [] h said skip e = absurd (false≢true (sym skip))
words_keep r q line (w ∷ args) h said skip e = keyed_keeps r q (any_key w) line w args h said skip refl e

line_by : (u s : Bool) (r q : Reader) (line : List ℕ) → Sound r → is_skipped (words line) ≡ s → cond (not u) (Err why.NotUtf8) (cond s (Ok r) (take_scenario_words r (words line))) ≡ Ok q → Sound q
line_by false s r q line h skip e = cc
line_by true true r q line h skip e = moved Sound r q e h
line_by true false r q line h skip e = words_keep r q line (words line) h refl skip e

line_keeps : (r q : Reader) (line : List ℕ) → Sound r → take_scenario_line r line ≡ Ok q → Sound q
line_keeps r q line h e = line_by (is_utf8 line) (is_skipped (words line)) r q line h refl e

-- ---- the end

end_gives : (r : Reader) (s : Scenario) → Sound r → scenario_finished r ≡ Ok s → IsScenario s
end_gives r s h e =
    let c = bind_ok (closes r true 2) _ s e in
    let t = closes_keeps r c.0 true 2 h h.bounded (omega arith) (λ _. refl) c.1 in
    let k = t.0 in
    let ready = k.ready t.1 in
    let runs = first_fits heads.Runs c.0.head 1 k.head (omega arith, omega arith) in
    let master = master_fits c.0.head (record { ip = 0; port = 0 }) k.head (k.mastered (omega (arith, t.1))) in
    moved IsScenario (scenario_of c.0.head c.0.slaves c.0.links) s c.2 (record {
      steps = (first_fits heads.Steps c.0.head 0 k.head (omega arith, omega arith)).1;
      micro = first_fits heads.Micro c.0.head 1 k.head (omega arith, omega arith);
      runs = runs;
      master = master.0;
      limits = record {
        turn_limit = first_fits heads.TurnLimit c.0.head 50 k.head (omega arith, omega arith);
        tries = first_fits heads.Tries c.0.head 4 k.head (omega arith, omega arith);
        watch_turns = first_fits heads.WatchTurns c.0.head 20 k.head (omega arith, omega arith);
        state_limit = first_fits heads.StateLimit c.0.head 200 k.head (omega arith, omega arith);
        retry_turns = first_fits heads.RetryTurns c.0.head 20 k.head (omega arith, omega arith);
        data_turns = first_fits heads.DataTurns c.0.head 20 k.head (omega arith, omega arith);
        step_tries = first_fits heads.StepTries c.0.head 3 k.head (omega arith, omega arith);
      };
      few_slaves = (ready.0, k.few);
      slaves = k.slaves;
      names_apart = k.new.names;
      addresses_apart = k.new.addresses;
      master_apart = others_differ c.0.slaves (first_said master_of_head c.0.head) _ master.1 k.new.others;
      small = ready.1;
      wires = k.links.wires;
      one_wire = k.links.one_wire;
      few_wires = few_wires c.0.slaves c.0.links.wires k.slaves k.few k.links.wires k.links.one_wire;
      settings = k.links.settings;
      reruns = k.links.reruns;
      in_order = k.links.in_order;
      taken = k.links.taken;
      every = k.links.every;
      one_interval = k.links.one_interval;
      net = k.links.net;
    })

start_sound : Sound reader_at_start
start_sound = record {
  lines = [];
  block = holds_nothing;
  head = tt;
  slaves = All-nil (λ d. IsDesc d);
  few = omega arith;
  links = none_sound [] 1 (takes_own [] (All-nil (λ d. IsDesc d)));
  unlinked = λ _. refl;
  shut = λ _. refl;
  ready = λ two. absurd (omega arith);
  bounded = omega arith;
  new = none_new None;
  bare = λ _. (refl, refl);
  mastered = λ one. absurd (omega arith);
}

run_gives : (n : ℕ) (r : Reader) (ls : List (List ℕ)) (s : Scenario) → Sound r → run_of take_scenario_line scenario_finished n r ls ≡ Ok s → IsScenario s
run_gives n r [] s h e = end_gives r s h (at_ok n (scenario_finished r) s e)
run_gives n r (l ∷ ls) s h e =
    let t = and_ok (at_line n (take_scenario_line r l)) (λ t. run_of take_scenario_line scenario_finished (n + 1) t ls) s e in
    run_gives (n + 1) t.0 ls s (line_keeps r t.0 l h (at_ok n (take_scenario_line r l) t.0 t.1)) t.2

-- what a text gives is in range
pub text_gives : (ls : List (List ℕ)) (s : Scenario) → run_of take_scenario_line scenario_finished 1 reader_at_start ls ≡ Ok s → IsScenario s
text_gives ls s e = run_gives 1 reader_at_start ls s start_sound e
