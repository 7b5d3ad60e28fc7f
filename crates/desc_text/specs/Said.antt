-- What the lines of a description say.
use Rattle.std.specs.Prelude.{ℕ, ℤ, List, [], ◌∷◌, if◌then◌else◌, Option, Some, None}
use Rattle.std.specs.List.{filter_map}
use Rattle.std.specs.Result.{result_ok}
use Rattle.text_lines.specs.Texts.{words, is_skipped}
use Rattle.desc_text.specs.Items.{key_of, item_of}
use Rattle.dcp_types.specs.declared.addresses.Address.{Address}
use Rattle.slave_desc.specs.declared.ports.Port.{Port}
use Rattle.fixed_models.specs.declared.kinds.Kind.{Kind}
use Rattle.desc_text.specs.declared.keys.Key.{Key}
use Rattle.desc_text.specs.declared.items.Item.{Item}
use Rattle.desc_text.specs.declared.items.Item.TheVariants as items

-- what an item says of one key
abbrev pub name_in : Item → Option (List ℕ)
name_in (items.Slave n) = Some n
name_in _ = None

abbrev pub uuid_in : Item → Option ℕ
uuid_in (items.Uuid n) = Some n
uuid_in _ = None

abbrev pub address_said : Item → Option Address
address_said (items.Address a) = Some a
address_said _ = None

abbrev pub model_in : Item → Option (Kind × List ℤ)
model_in (items.Model k ps) = Some (k, ps)
model_in _ = None

abbrev pub busy_in : Item → Option ℕ
busy_in (items.Busy n) = Some n
busy_in _ = None

abbrev pub heartbeat_in : Item → Option ℕ
heartbeat_in (items.Heartbeat n) = Some n
heartbeat_in _ = None

abbrev pub resolution_in : Item → Option (ℕ × ℕ)
resolution_in (items.Resolution n d) = Some (n, d)
resolution_in _ = None

abbrev pub input_in : Item → Option Port
input_in (items.Input p) = Some p
input_in _ = None

abbrev pub output_in : Item → Option Port
output_in (items.Output p) = Some p
output_in _ = None

-- the item of a line, where it has one
abbrev pub item_keyed : Option Key → List (List ℕ) → Option Item
item_keyed None args = None
item_keyed (Some key) args = result_ok (item_of key args)

abbrev pub item_of_words : List (List ℕ) → Option Item
item_of_words [] = None
item_of_words (w ∷ args) = item_keyed (key_of w) args

abbrev pub item_in : List ℕ → Option Item
item_in line = if is_skipped (words line) then None else item_of_words (words line)

abbrev pub items_in : List (List ℕ) → List Item
items_in ls = filter_map item_in ls
