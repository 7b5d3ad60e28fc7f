-- What the reader keeps of the lines so far, and what a line does to it.
use Rattle.std.specs.Prelude.{ℕ, ◌==◌, Bool, false, not, List, [], ◌∷◌, ◌++◌, length, is_some, if◌then◌else◌, Option, Some, None, Result, Ok, Err}
use Rattle.std.specs.Option.{unwrap_or}
use Rattle.std.specs.Str.{is_utf8}
use Rattle.text_lines.specs.Texts.{words, is_skipped}
use Rattle.desc_text.specs.Items.{key_of, item_of}
use Rattle.text_lines.specs.Causes.{◌>>=◌, or_why, refused_if, unless}
use Rattle.desc_text.specs.Said.{name_in, uuid_in, address_said, model_in, busy_in, heartbeat_in, resolution_in, input_in, output_in}
use Rattle.desc_text.specs.Judging.{why_key, why_port}
use Rattle.fixed_models.specs.Kinds.{takes, has_ports}
use Rattle.text_lines.specs.declared.reasons.TextWhy.{TextWhy}
use Rattle.text_lines.specs.declared.reasons.TextWhy.TheVariants as why
use Rattle.desc_text.specs.declared.keys.Key.{Key}
use Rattle.desc_text.specs.declared.keys.Key.TheVariants as keys
use Rattle.desc_text.specs.declared.items.Item.{Item}
use Rattle.desc_text.specs.declared.items.Item.TheVariants as items
use Rattle.desc_text.specs.declared.partials.Partial.{Partial}
use Rattle.slave_desc.specs.declared.descriptions.SlaveDesc.{SlaveDesc}

-- a value that is set is set anew; a list gets one more
abbrev pub newer : {X : Type 0} → Option X → Option X → Option X
newer old None = old
newer old (Some x) = Some x

abbrev pub longer : {X : Type 0} → List X → Option X → List X
longer old None = old
longer old (Some x) = old ++ x ∷ []

abbrev pub has : Partial → Key → Bool
has p keys.Slave = is_some p.name
has p keys.Uuid = is_some p.uuid
has p keys.Address = is_some p.address
has p keys.Model = is_some p.model
has p keys.Busy = is_some p.busy
has p keys.Heartbeat = is_some p.heartbeat
has p keys.Resolution = is_some p.resolution
has p keys.Input = false
has p keys.Output = false

abbrev pub put_item : Partial → Item → Partial
put_item p i = record {
  name = newer p.name (name_in i);
  uuid = newer p.uuid (uuid_in i);
  address = newer p.address (address_said i);
  model = newer p.model (model_in i);
  busy = newer p.busy (busy_in i);
  heartbeat = newer p.heartbeat (heartbeat_in i);
  resolution = newer p.resolution (resolution_in i);
  inputs = longer p.inputs (input_in i);
  outputs = longer p.outputs (output_in i);
}

-- what is wrong with an item after the lines so far
abbrev pub why_held : Partial → Item → Option TextWhy
why_held p (items.Input port) = why_port p.inputs port
why_held p (items.Output port) = why_port p.outputs port
why_held p (items.Model k ps) = refused_if (not (takes k ps)) why.Parameters
why_held p _ = None

abbrev pub take_keyed : Partial → Option Key → List (List ℕ) → Result Partial TextWhy
take_keyed p None args = Err why.UnknownKey
take_keyed p (Some key) args =
    unless (why_key (has p key) (is_some p.name) key) (item_of key args >>= λ i. unless (why_held p i) (Ok (put_item p i)))

abbrev pub take_words : Partial → List (List ℕ) → Result Partial TextWhy
take_words p [] = Ok p
take_words p (w ∷ args) = take_keyed p (key_of w) args

abbrev pub take_line : Partial → List ℕ → Result Partial TextWhy
take_line p line =
    if not (is_utf8 line) then Err why.NotUtf8
    else (if is_skipped (words line) then Ok p else take_words p (words line))

-- the description, at the end of the text
abbrev pub finished : Partial → Result SlaveDesc TextWhy
finished p = do
  name ← or_why p.name why.Missing
  uuid ← or_why p.uuid why.Missing
  address ← or_why p.address why.Missing
  model ← or_why p.model why.Missing
  outputs ← unless (refused_if (length p.outputs == 0) why.Missing) (Ok p.outputs)
  unless (refused_if (not (has_ports model.0 (length p.inputs) (length outputs))) why.Ports) (Ok (record {
    name = name;
    uuid = uuid;
    address = address;
    kind = model.0;
    parameters = model.1;
    busy = unwrap_or p.busy 0;
    heartbeat = unwrap_or p.heartbeat 0;
    numerator = (unwrap_or p.resolution (1, 1000)).0;
    denominator = (unwrap_or p.resolution (1, 1000)).1;
    inputs = p.inputs;
    outputs = outputs;
  }))

-- no line
abbrev pub nothing : Partial
nothing = record {
  name = None;
  uuid = None;
  address = None;
  model = None;
  busy = None;
  heartbeat = None;
  resolution = None;
  inputs = [];
  outputs = [];
}
