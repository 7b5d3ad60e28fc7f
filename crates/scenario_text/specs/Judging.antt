-- The judging of a line of a scenario, after the lines before it.
use Rattle.std.specs.Prelude.{ℕ, ◌-◌, Bool, true, not, ◌&&◌, ◌==◌, nat_lt, List, [], ◌∷◌, take, is_some, if◌then◌else◌, Option, Some, None, Result, Ok, Err, slice_get}
use Rattle.std.specs.List.{filter_map}
use Rattle.std.specs.Str.{is_utf8}
use Rattle.text_lines.specs.Texts.{words, is_skipped}
use Rattle.text_lines.specs.declared.reasons.TextWhy.{TextWhy}
use Rattle.text_lines.specs.declared.reasons.TextWhy.TheVariants as why
use Rattle.desc_text.specs.Items.{item_of}
use Rattle.desc_text.specs.Said.{name_in, items_in}
use Rattle.desc_text.specs.Judging.{came_before, why_key, why_item, why_end}
use Rattle.text_lines.specs.Causes.{came, or_else, refused_if, when, bad}
use Rattle.desc_text.specs.declared.keys.Key.TheVariants as keys
use Rattle.desc_text.specs.declared.items.Item.{Item}
use Rattle.slave_desc.specs.declared.descriptions.SlaveDesc.{SlaveDesc}
use Rattle.scenario_text.specs.Keys.{any_key, section_of, closes_block}
use Rattle.scenario_text.specs.Heads.{head_item, is_said, runs_said}
use Rattle.scenario_text.specs.Links.{link_of}
use Rattle.scenario_text.specs.Checks.{why_link}
use Rattle.scenario_text.specs.Said.{section_now, head_said, blocks, last_of, slaves_said, links_said, block_for, slaves_for}
use Rattle.scenario_text.specs.Clashes.{why_head, why_slaves, why_among, is_chaos}
use Rattle.scenario_text.specs.declared.keys.AnyKey.{AnyKey}
use Rattle.scenario_text.specs.declared.keys.AnyKey.TheVariants as any
use Rattle.scenario_text.specs.declared.heads.HeadItem.{HeadItem}
use Rattle.scenario_text.specs.declared.link_words.LinkLine.{LinkLine}
use Rattle.scenario_text.specs.declared.collected.Links.{Links}

-- what is wrong with what a line closes
abbrev pub why_scenario_block : List (List ℕ) → Option TextWhy
why_scenario_block ls = when (section_now ls == 1) (why_end (items_in (last_of (blocks ls))))

abbrev pub why_closes : List (List ℕ) → Bool → ℕ → Option TextWhy
why_closes ls ends_block section =
    or_else (when ((section_now ls == 0) && nat_lt 0 section) (why_head (head_said ls)))
    (or_else (when ends_block (why_scenario_block ls))
    (when (nat_lt (section_now ls) 2 && (section == 2)) (why_slaves (head_said ls) (slaves_said ls))))

abbrev pub why_order : List (List ℕ) → AnyKey → Option TextWhy
why_order ls key = refused_if (nat_lt (section_of key) (section_now ls)) why.Order

-- what is wrong with what a line says
abbrev pub why_item_read : List Item → List HeadItem → List SlaveDesc → Result Item TextWhy → Option TextWhy
why_item_read block head slaves (Err why) = Some why
why_item_read block head slaves (Ok item) = or_else (why_item block item) (why_among head slaves item)

abbrev pub why_link_read : List SlaveDesc → Links → Result LinkLine TextWhy → Option TextWhy
why_link_read slaves links (Err why) = Some why
why_link_read slaves links (Ok link) = why_link slaves links link

abbrev pub why_acts : List (List ℕ) → AnyKey → List (List ℕ) → Option TextWhy
why_acts ls (any.Head k) args = or_else (refused_if (is_said k (head_said ls)) why.Repeated) (bad (head_item k args))
why_acts ls (any.Block k) args =
    or_else (why_key (came_before (block_for ls k) k) (came (filter_map name_in (block_for ls k))) k)
    (why_item_read (block_for ls k) (head_said ls) (slaves_for ls k) (item_of k args))
why_acts ls (any.Link k) args =
    or_else (refused_if (is_chaos k && is_some (links_said ls).net.chaos) why.Repeated)
    (why_link_read (slaves_said ls) (links_said ls) (link_of (slaves_said ls) (runs_said (head_said ls)) k args))

-- what is wrong with a line: order, then what it closes, then what it says
abbrev pub why_scenario_keyed : List (List ℕ) → Option AnyKey → List (List ℕ) → Option TextWhy
why_scenario_keyed ls None args = Some why.UnknownKey
why_scenario_keyed ls (Some key) args = or_else (why_order ls key) (or_else (why_closes ls (closes_block key) (section_of key)) (why_acts ls key args))

abbrev pub why_scenario_words : List (List ℕ) → List (List ℕ) → Option TextWhy
why_scenario_words ls [] = None
why_scenario_words ls (w ∷ args) = why_scenario_keyed ls (any_key w) args

abbrev pub why_scenario_line : List (List ℕ) → List ℕ → Option TextWhy
why_scenario_line ls line =
    if not (is_utf8 line) then Some why.NotUtf8
    else (if is_skipped (words line) then None else why_scenario_words ls (words line))

-- what is wrong with the end of the text, which closes all
abbrev pub why_end_of : List (List ℕ) → Option TextWhy
why_end_of ls = why_closes ls true 2

abbrev pub why_scenario_entry : Option (List ℕ) → List (List ℕ) → Option TextWhy
why_scenario_entry (Some line) before = why_scenario_line before line
why_scenario_entry None before = why_end_of before

-- what is wrong with the line of this number, the end being the line after the last
abbrev pub scenario_why_at : List (List ℕ) → ℕ → Option TextWhy
scenario_why_at ls n = why_scenario_entry (slice_get ls (n - 1)) (take (n - 1) ls)
