-- Which description a text is.
use Rattle.std.specs.Prelude.{◌≡◌, ℕ, ◌≤◌, Bool, true, ◌&&◌, ◌||◌, List, [], ◌∷◌, length, is_some, All}
use Rattle.std.specs.List.{filter_map}
use Rattle.std.specs.Str.{is_utf8}
use Rattle.std.specs.Str.Lines.{lines}
use Rattle.text_lines.specs.Texts.{words, is_skipped}
use Rattle.desc_text.specs.Said.{name_in, uuid_in, address_said, model_in, busy_in, heartbeat_in, resolution_in, input_in, output_in, item_of_words, items_in}
use Rattle.fixed_models.specs.Kinds.{takes, has_ports}
use Rattle.slave_desc.specs.Descriptions.{AreApart}
use Rattle.desc_text.specs.declared.items.Item.{Item}
use Rattle.slave_desc.specs.declared.descriptions.SlaveDesc.{SlaveDesc}

-- a line that reads by itself
abbrev pub is_desc_read : List ℕ → Bool
is_desc_read line = is_utf8 line && (is_skipped (words line) || is_some (item_of_words (words line)))

-- the first item is a name
abbrev pub opens_block : List Item → Bool
opens_block [] = true
opens_block (first ∷ others) = is_some (name_in first)

-- x is the one value said, or this default where none is
abbrev pub IsOr : {X : Type 0} → X → List X → X → Type 0
IsOr default [] x = x ≡ default
IsOr default (y ∷ []) x = x ≡ y
IsOr default (y ∷ z ∷ more) x = ⊥

-- the items are those of this description
pub record Describes (all : List Item) (d : SlaveDesc) : Type 0 where
  pub first : opens_block all ≡ true
  pub name : filter_map name_in all ≡ d.name ∷ []
  pub uuid : filter_map uuid_in all ≡ d.uuid ∷ []
  pub address : filter_map address_said all ≡ d.address ∷ []
  pub model : filter_map model_in all ≡ (d.kind, d.parameters) ∷ []
  pub taken : takes d.kind d.parameters ≡ true
  pub busy : IsOr 0 (filter_map busy_in all) d.busy
  pub heartbeat : IsOr 0 (filter_map heartbeat_in all) d.heartbeat
  pub resolution : IsOr (1, 1000) (filter_map resolution_in all) (d.numerator, d.denominator)
  pub inputs : filter_map input_in all ≡ d.inputs
  pub outputs : filter_map output_in all ≡ d.outputs
  pub few_inputs : length d.inputs ≤ 8
  pub few_outputs : (1 ≤ length d.outputs) × (length d.outputs ≤ 8)
  pub inputs_apart : AreApart d.inputs
  pub outputs_apart : AreApart d.outputs
  pub ports : has_ports d.kind (length d.inputs) (length d.outputs) ≡ true

-- each line reads by itself, and their items are those of the description
pub record ReadsAsDesc (text : List ℕ) (d : SlaveDesc) : Type 0 where
  pub each : All (λ line. is_desc_read line ≡ true) (lines text)
  pub says : Describes (items_in (lines text)) d
