-- The grammar of scenarios, said of the whole text.
use Rattle.std.specs.Prelude.{◌≡◌, ℕ, ◌≤◌, ◌<◌, Bool, true, false, ◌&&◌, ◌||◌, ◌==◌, nat_lt, List, [], ◌∷◌, ◌++◌, length, is_some, Option, Some, None, Ok}
use Rattle.std.specs.List.{list_any}
use Rattle.std.specs.Result.{result_ok}
use Rattle.std.specs.Str.{is_utf8, bytes_eq}
use Rattle.text_lines.specs.Texts.{words, is_skipped}
use Rattle.desc_text.specs.Items.{item_of}
use Rattle.desc_text.specs.Said.{items_in}
use Rattle.desc_text.specs.Reads.{Describes}
use Rattle.slave_desc.specs.declared.descriptions.SlaveDesc.{SlaveDesc}
use Rattle.desc_text.specs.declared.keys.Key.{Key}
use Rattle.desc_text.specs.declared.items.Item.{Item}
use Rattle.desc_text.specs.declared.items.Item.TheVariants as items
use Rattle.scenario_text.specs.Keys.{section_of}
use Rattle.scenario_text.specs.declared.keys.HeadKey.{HeadKey}
use Rattle.scenario_text.specs.declared.keys.LinkKey.{LinkKey}
use Rattle.scenario_text.specs.Heads.{head_item, is_said, master_of_head, first_said}
use Rattle.scenario.specs.Lookups.{outputs_at, inputs_at, type_at}
use Rattle.scenario_text.specs.Links.{link_of}
use Rattle.scenario.specs.Wiring.{same_input}
use Rattle.scenario.specs.Settings.{changed_by, setting_in, takes_at}
use Rattle.scenario_text.specs.Said.{parameters_now, is_master, same_address, scenario_of, key_at, args_of, section_now, head_said, blocks, slaves_for, links_said}
use Rattle.scenario.specs.Totals.{is_too_much}
use Rattle.scenario_text.specs.declared.keys.HeadKey.TheVariants as heads
use Rattle.scenario_text.specs.declared.keys.AnyKey.{AnyKey}
use Rattle.scenario_text.specs.declared.keys.AnyKey.TheVariants as any
use Rattle.scenario_text.specs.declared.heads.HeadItem.{HeadItem}
use Rattle.scenario_text.specs.declared.link_words.LinkLine.{LinkLine}
use Rattle.scenario_text.specs.declared.link_words.LinkLine.TheVariants as link
use Rattle.scenario_text.specs.declared.collected.Links.{Links}
use Rattle.scenario.specs.declared.scenarios.Scenario.{Scenario}

-- a line that reads by itself: UTF-8, and skipped or of a key with the words that it takes, links after the slaves
abbrev pub reads_by : List SlaveDesc → ℕ → Option AnyKey → List (List ℕ) → Bool
reads_by slaves runs None args = false
reads_by slaves runs (Some (any.Head k)) args = is_some (result_ok (head_item k args))
reads_by slaves runs (Some (any.Block k)) args = is_some (result_ok (item_of k args))
reads_by slaves runs (Some (any.Link k)) args = is_some (result_ok (link_of slaves runs k args))

abbrev pub is_read : List SlaveDesc → ℕ → List ℕ → Bool
is_read slaves runs l = is_utf8 l && (is_skipped (words l) || reads_by slaves runs (key_at l) (args_of (words l)))

-- the sections come in order: no line follows one of a later section
abbrev pub IsOrdered : List (List ℕ) → Type 0
IsOrdered ls = (before after : List (List ℕ)) (l : List ℕ) (key : AnyKey) → ls ≡ before ++ l ∷ after → key_at l ≡ Some key → section_now before ≤ section_of key

-- a link after those before it: ports of one type and an input without a wire; parameters that the kind takes, first those of the first run, then those of later runs in order; one interval for a pair that has a wire; at most 64 net lines; one chaos
abbrev pub MayFollow : List SlaveDesc → Links → LinkLine → Type 0
MayFollow slaves before (link.Wire w) = (type_at (outputs_at slaves w.from) w.out ≡ type_at (inputs_at slaves w.to) w.into) × (list_any (λ v. same_input v w) before.wires ≡ false)
MayFollow slaves before (link.Set x) = (before.reruns ≡ []) × (takes_at slaves x.slave (changed_by (parameters_now slaves before x.slave) x.slave x) ≡ true)
MayFollow slaves before (link.RerunSet r) = (list_any (λ q. nat_lt r.run q.run) before.reruns ≡ false) × (takes_at slaves r.slave (changed_by (parameters_now slaves before r.slave) r.slave (setting_in r)) ≡ true)
MayFollow slaves before (link.Every e) = (list_any (λ f. (f.from == e.from) && (f.to == e.to)) before.every ≡ false) × (list_any (λ w. (w.from == e.from) && (w.to == e.to)) before.wires ≡ true)
MayFollow slaves before (link.Net l) = length before.net.lines < 64
MayFollow slaves before (link.Chaos c) = before.net.chaos ≡ None

-- a slave's name, and an address, are new among the slaves before and the master
abbrev pub IsNew : List HeadItem → List SlaveDesc → Item → Type 0
IsNew head slaves (items.Slave n) = list_any (λ s. bytes_eq s.name n) slaves ≡ false
IsNew head slaves (items.Address a) = (is_master (first_said master_of_head head) a || list_any (λ s. same_address s.address a) slaves) ≡ false
IsNew head slaves _ = Unit {0}

-- the blocks describe these slaves
abbrev pub AreSlaveBlocks : List (List (List ℕ)) → List SlaveDesc → Type 0
AreSlaveBlocks [] [] = Unit {0}
AreSlaveBlocks [] (d ∷ ds) = ⊥
AreSlaveBlocks (g ∷ gs) [] = ⊥
AreSlaveBlocks (g ∷ gs) (d ∷ ds) = Describes (items_in g) d × AreSlaveBlocks gs ds

-- the lines are those of this scenario: each reads by itself, the sections come in order, no key of the head comes twice and the required ones come, each block describes a slave, names and addresses are new, each link fits after those before it, and the scenario is not too much
pub record AreOf (ls : List (List ℕ)) (s : Scenario) : Type 0 where
  pub each : (before after : List (List ℕ)) (l : List ℕ) → ls ≡ before ++ l ∷ after → is_read s.slaves s.runs l ≡ true
  pub in_order : IsOrdered ls
  pub once : (before after : List (List ℕ)) (l : List ℕ) (k : HeadKey) → ls ≡ before ++ l ∷ after → key_at l ≡ Some (any.Head k) → is_said k (head_said before) ≡ false
  pub required : (is_said heads.Steps (head_said ls) && is_said heads.Master (head_said ls)) ≡ true
  pub slaves : AreSlaveBlocks (blocks ls) s.slaves
  pub few : (1 ≤ length s.slaves) × (length s.slaves ≤ 16)
  pub new : (before after : List (List ℕ)) (l : List ℕ) (k : Key) (i : Item) → ls ≡ before ++ l ∷ after → key_at l ≡ Some (any.Block k) → item_of k (args_of (words l)) ≡ Ok i → IsNew (head_said before) (slaves_for before k) i
  pub small : is_too_much s.slaves s.steps s.runs ≡ false
  pub fit : (before after : List (List ℕ)) (l : List ℕ) (k : LinkKey) (x : LinkLine) → ls ≡ before ++ l ∷ after → key_at l ≡ Some (any.Link k) → link_of s.slaves s.runs k (args_of (words l)) ≡ Ok x → MayFollow s.slaves (links_said before) x
  pub says : s ≡ scenario_of (head_said ls) s.slaves (links_said ls)
