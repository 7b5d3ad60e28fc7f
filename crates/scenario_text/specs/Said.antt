-- What the lines of a scenario say: all that counts is found by the key of each line.
use Rattle.std.specs.Prelude.{ℕ, ℤ, Bool, true, false, ◌&&◌, ◌==◌, List, [], ◌∷◌, map, filter, if◌then◌else◌, Option, Some, None, slice_get}
use Rattle.std.specs.List.{filter_map}
use Rattle.std.specs.Option.{unwrap_or}
use Rattle.std.specs.Result.{result_ok}
use Rattle.dcp_types.specs.declared.addresses.Address.{Address}
use Rattle.dcp_types.specs.declared.protocols.Protocol.TheVariants.{Udp}
use Rattle.fixed_models.specs.declared.kinds.Kind.TheVariants.{Const}
use Rattle.text_lines.specs.Texts.{words, is_skipped}
use Rattle.text_lines.specs.Causes.{came}
use Rattle.desc_text.specs.Said.{name_in, uuid_in, address_said, model_in, busy_in, heartbeat_in, resolution_in, input_in, output_in, items_in}
use Rattle.desc_text.specs.declared.keys.Key.{Key}
use Rattle.desc_text.specs.declared.keys.Key.TheVariants as keys
use Rattle.desc_text.specs.declared.items.Item.{Item}
use Rattle.slave_desc.specs.declared.descriptions.SlaveDesc.{SlaveDesc}
use Rattle.scenario.specs.Lookups.{parameters_at}
use Rattle.scenario.specs.Settings.{changed, setting_in}
use Rattle.scenario.specs.declared.net_plans.NetLine.{NetLine}
use Rattle.scenario.specs.declared.net_plans.Chaos.{Chaos}
use Rattle.scenario.specs.declared.scenarios.Wire.{Wire}
use Rattle.scenario.specs.declared.scenarios.Setting.{Setting}
use Rattle.scenario.specs.declared.scenarios.Every.{Every}
use Rattle.scenario.specs.declared.scenarios.Rerun.{Rerun}
use Rattle.scenario.specs.declared.scenarios.Scenario.{Scenario}
use Rattle.scenario_text.specs.Keys.{any_key, section_of}
use Rattle.scenario_text.specs.Heads.{head_item, number_in, master_of_head, protocol_in, first_said, steps_said, runs_said, limits_said}
use Rattle.scenario_text.specs.Links.{link_of}
use Rattle.scenario_text.specs.declared.keys.HeadKey.TheVariants as heads
use Rattle.scenario_text.specs.declared.keys.AnyKey.{AnyKey}
use Rattle.scenario_text.specs.declared.keys.AnyKey.TheVariants as any
use Rattle.scenario_text.specs.declared.heads.HeadItem.{HeadItem}
use Rattle.scenario_text.specs.declared.link_words.LinkLine.{LinkLine}
use Rattle.scenario_text.specs.declared.link_words.LinkLine.TheVariants as link
use Rattle.scenario_text.specs.declared.collected.Links.{Links}

-- what a line says of one key
abbrev pub wire_in : LinkLine → Option Wire
wire_in (link.Wire w) = Some w
wire_in _ = None

abbrev pub set_in : LinkLine → Option Setting
set_in (link.Set x) = Some x
set_in _ = None

abbrev pub rerun_in : LinkLine → Option Rerun
rerun_in (link.RerunSet r) = Some r
rerun_in _ = None

abbrev pub every_in : LinkLine → Option Every
every_in (link.Every e) = Some e
every_in _ = None

abbrev pub line_in : LinkLine → Option NetLine
line_in (link.Net l) = Some l
line_in _ = None

abbrev pub chaos_in : LinkLine → Option Chaos
chaos_in (link.Chaos c) = Some c
chaos_in _ = None

-- the key of a line that counts, and the words after it
abbrev pub key_of_words : List (List ℕ) → Option AnyKey
key_of_words [] = None
key_of_words (w ∷ args) = any_key w

abbrev pub key_at : List ℕ → Option AnyKey
key_at l = if is_skipped (words l) then None else key_of_words (words l)

abbrev pub args_of : List (List ℕ) → List (List ℕ)
args_of [] = []
args_of (w ∷ args) = args

-- the lines of a section, which is found by the key of each line alone
abbrev pub is_of : ℕ → Option AnyKey → Bool
is_of section None = false
is_of section (Some key) = section_of key == section

abbrev pub lines_in : ℕ → List (List ℕ) → List (List ℕ)
lines_in section ls = filter (λ l. is_of section (key_at l)) ls

-- the section of the last line: no earlier one may follow
abbrev pub section_now : List (List ℕ) → ℕ
section_now ls = if came (lines_in 2 ls) then 2 else (if came (lines_in 1 ls) then 1 else 0)

-- what the head says
abbrev pub head_by : Option AnyKey → List (List ℕ) → Option HeadItem
head_by (Some (any.Head k)) args = result_ok (head_item k args)
head_by _ args = None

abbrev pub head_said : List (List ℕ) → List HeadItem
head_said ls = filter_map (λ l. head_by (key_at l) (args_of (words l))) ls

-- blocks of lines: a slave line begins one
abbrev pub is_slave_key : Option AnyKey → Bool
is_slave_key (Some (any.Block keys.Slave)) = true
is_slave_key _ = false

abbrev pub begins_block : List ℕ → Bool
begins_block l = is_slave_key (key_at l)

abbrev pub opens : List (List ℕ) → Bool
opens [] = false
opens (l ∷ ls) = begins_block l

-- a line in front of blocks: it joins the first, unless that has its slave line
abbrev pub onto : List ℕ → List (List (List ℕ)) → List (List (List ℕ))
onto l [] = (l ∷ []) ∷ []
onto l (g ∷ gs) = if opens g then (l ∷ []) ∷ g ∷ gs else (l ∷ g) ∷ gs

abbrev pub group : List (List ℕ) → List (List (List ℕ))
group [] = []
group (l ∷ ls) = onto l (group ls)

abbrev pub blocks : List (List ℕ) → List (List (List ℕ))
blocks ls = group (lines_in 1 ls)

abbrev pub last_of : List (List (List ℕ)) → List (List ℕ)
last_of [] = []
last_of (g ∷ []) = g
last_of (g ∷ h ∷ gs) = last_of (h ∷ gs)

abbrev pub front_of : List (List (List ℕ)) → List (List (List ℕ))
front_of [] = []
front_of (g ∷ []) = []
front_of (g ∷ h ∷ gs) = g ∷ front_of (h ∷ gs)

-- the slave that a block's items say
abbrev pub first_or : {X : Type 0} → X → List X → X
first_or default [] = default
first_or default (x ∷ xs) = x

abbrev pub slave_said : List Item → SlaveDesc
slave_said all = record {
  name = first_or [] (filter_map name_in all);
  uuid = first_or 0 (filter_map uuid_in all);
  address = first_or (record { ip = 0; port = 0 }) (filter_map address_said all);
  kind = (first_or (Const, []) (filter_map model_in all)).0;
  parameters = (first_or (Const, []) (filter_map model_in all)).1;
  busy = first_or 0 (filter_map busy_in all);
  heartbeat = first_or 0 (filter_map heartbeat_in all);
  numerator = (first_or (1, 1000) (filter_map resolution_in all)).0;
  denominator = (first_or (1, 1000) (filter_map resolution_in all)).1;
  inputs = filter_map input_in all;
  outputs = filter_map output_in all;
}

abbrev pub slaves_of_blocks : List (List (List ℕ)) → List SlaveDesc
slaves_of_blocks gs = map (λ g. slave_said (items_in g)) gs

abbrev pub slaves_said : List (List ℕ) → List SlaveDesc
slaves_said ls = slaves_of_blocks (blocks ls)

-- what the links say, after the slaves
abbrev pub link_by : List SlaveDesc → ℕ → Option AnyKey → List (List ℕ) → Option LinkLine
link_by slaves runs (Some (any.Link k)) args = result_ok (link_of slaves runs k args)
link_by slaves runs _ args = None

abbrev pub links_of : List LinkLine → Links
links_of all = record {
  wires = filter_map wire_in all;
  settings = filter_map set_in all;
  every = filter_map every_in all;
  reruns = filter_map rerun_in all;
  net = record { lines = filter_map line_in all; chaos = slice_get (filter_map chaos_in all) 0 };
}

abbrev pub links_said : List (List ℕ) → Links
links_said ls = links_of (filter_map (λ l. link_by (slaves_said ls) (runs_said (head_said ls)) (key_at l) (args_of (words l))) (lines_in 2 ls))

-- the open block and the slaves before it, as a line of this key finds them: a slave line finds no open block
abbrev pub block_for : List (List ℕ) → Key → List Item
block_for ls keys.Slave = []
block_for ls _ = if section_now ls == 1 then items_in (last_of (blocks ls)) else []

abbrev pub slaves_for : List (List ℕ) → Key → List SlaveDesc
slaves_for ls keys.Slave = slaves_said ls
slaves_for ls _ = slaves_of_blocks (front_of (blocks ls))

-- the parameters of a slave after all settings before
abbrev pub parameters_now : List SlaveDesc → Links → ℕ → List ℤ
parameters_now slaves before s = changed (changed (parameters_at slaves s) s before.settings) s (map setting_in before.reruns)

-- one address, and the master's
abbrev pub same_address : Address → Address → Bool
same_address a b = (a.ip == b.ip) && (a.port == b.port)

abbrev pub is_master : Option Address → Address → Bool
is_master None a = false
is_master (Some m) a = same_address m a

-- the scenario that a head, slaves and links say
abbrev pub scenario_of : List HeadItem → List SlaveDesc → Links → Scenario
scenario_of head slaves links = record {
  steps = steps_said head;
  micro = unwrap_or (first_said (number_in heads.Micro) head) 1;
  runs = runs_said head;
  protocol = unwrap_or (first_said protocol_in head) Udp;
  master = unwrap_or (first_said master_of_head head) (record { ip = 0; port = 0 });
  limits = limits_said head;
  slaves = slaves;
  wires = links.wires;
  settings = links.settings;
  every = links.every;
  reruns = links.reruns;
  net = links.net;
}

-- the scenario that lines say: its head, its blocks and its links, each by the lines of its section
abbrev pub scenario_said : List (List ℕ) → Scenario
scenario_said ls = scenario_of (head_said ls) (slaves_said ls) (links_said ls)
