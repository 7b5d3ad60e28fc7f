-- The judging of a line of a description, after what the lines before it say.
use Rattle.std.specs.Prelude.{ℕ, ℤ, ◌-◌, Bool, true, false, not, ◌==◌, ◌&&◌, nat_le, List, [], ◌∷◌, length, take, if◌then◌else◌, Option, Some, None, Result, Ok, Err, slice_get}
use Rattle.std.specs.List.{filter_map, list_any}
use Rattle.std.specs.Str.{is_utf8}
use Rattle.text_lines.specs.Texts.{words, is_skipped}
use Rattle.text_lines.specs.Causes.{came, or_else, refused_if}
use Rattle.desc_text.specs.Items.{key_of, item_of}
use Rattle.desc_text.specs.Said.{name_in, uuid_in, address_said, model_in, busy_in, heartbeat_in, resolution_in, input_in, output_in, items_in}
use Rattle.fixed_models.specs.Kinds.{takes, has_ports}
use Rattle.text_lines.specs.declared.reasons.TextWhy.{TextWhy}
use Rattle.text_lines.specs.declared.reasons.TextWhy.TheVariants as why
use Rattle.slave_desc.specs.declared.ports.Port.{Port}
use Rattle.fixed_models.specs.declared.kinds.Kind.{Kind}
use Rattle.desc_text.specs.declared.keys.Key.{Key}
use Rattle.desc_text.specs.declared.keys.Key.TheVariants as keys
use Rattle.desc_text.specs.declared.items.Item.{Item}
use Rattle.desc_text.specs.declared.items.Item.TheVariants as items

-- whether a key that comes once came before
abbrev pub came_before : List Item → Key → Bool
came_before before keys.Slave = came (filter_map name_in before)
came_before before keys.Uuid = came (filter_map uuid_in before)
came_before before keys.Address = came (filter_map address_said before)
came_before before keys.Model = came (filter_map model_in before)
came_before before keys.Busy = came (filter_map busy_in before)
came_before before keys.Heartbeat = came (filter_map heartbeat_in before)
came_before before keys.Resolution = came (filter_map resolution_in before)
came_before before keys.Input = false
came_before before keys.Output = false

-- whether the key is the one that begins a block
abbrev pub begins : Key → Bool
begins keys.Slave = true
begins _ = false

-- by the key alone, where it came before or not, and a name did or not: a block begins with its name, and what comes once came before
abbrev pub why_key : Bool → Bool → Key → Option TextWhy
why_key again named key =
    if again then Some why.Repeated
    else refused_if (not (begins key) && not named) why.Missing

-- by the whole line: ports have numbers of their own, and there are at most eight
abbrev pub why_port : List Port → Port → Option TextWhy
why_port before port =
    if list_any (λ p. p.vr == port.vr) before then Some why.Repeated
    else refused_if (nat_le 8 (length before)) why.Limit

abbrev pub why_item : List Item → Item → Option TextWhy
why_item before (items.Input p) = why_port (filter_map input_in before) p
why_item before (items.Output p) = why_port (filter_map output_in before) p
why_item before (items.Model k ps) = refused_if (not (takes k ps)) why.Parameters
why_item before _ = None

-- what is wrong with a line of these words, after these items
abbrev pub why_read : List Item → Result Item TextWhy → Option TextWhy
why_read before (Err why) = Some why
why_read before (Ok item) = why_item before item

abbrev pub why_keyed : List Item → Option Key → List (List ℕ) → Option TextWhy
why_keyed before None args = Some why.UnknownKey
why_keyed before (Some key) args = or_else (why_key (came_before before key) (came (filter_map name_in before)) key) (why_read before (item_of key args))

abbrev pub why_words : List Item → List (List ℕ) → Option TextWhy
why_words before [] = None
why_words before (w ∷ args) = why_keyed before (key_of w) args

-- what is wrong with a line
abbrev pub why_line : List Item → List ℕ → Option TextWhy
why_line before line =
    if not (is_utf8 line) then Some why.NotUtf8
    else (if is_skipped (words line) then None else why_words before (words line))

-- what is wrong with the end of the text
abbrev pub why_ports : List (Kind × List ℤ) → ℕ → ℕ → Option TextWhy
why_ports [] inputs outputs = Some why.Missing
why_ports (m ∷ ms) inputs outputs = refused_if (not (has_ports m.0 inputs outputs)) why.Ports

abbrev pub why_end : List Item → Option TextWhy
why_end all =
    if came (filter_map name_in all) && came (filter_map uuid_in all) && came (filter_map address_said all) && came (filter_map output_in all)
    then why_ports (filter_map model_in all) (length (filter_map input_in all)) (length (filter_map output_in all))
    else Some why.Missing

-- what is wrong with a line, or with the end
abbrev pub why_entry : Option (List ℕ) → List Item → Option TextWhy
why_entry (Some line) before = why_line before line
why_entry None before = why_end before

-- what is wrong with the line of this number, the end being the line after the last
abbrev pub desc_why_at : List (List ℕ) → ℕ → Option TextWhy
desc_why_at ls n = why_entry (slice_get ls (n - 1)) (items_in (take (n - 1) ls))
