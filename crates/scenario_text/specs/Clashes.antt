-- What is wrong with a name or an address among those before, and with a head or slaves that close.
use Rattle.std.specs.Prelude.{ℕ, Bool, true, false, not, ◌&&◌, ◌||◌, ◌==◌, nat_le, List, length, if◌then◌else◌, Option, Some, None}
use Rattle.std.specs.List.{list_any}
use Rattle.std.specs.Str.{bytes_eq}
use Rattle.dcp_types.specs.declared.addresses.Address.{Address}
use Rattle.text_lines.specs.declared.reasons.TextWhy.{TextWhy}
use Rattle.text_lines.specs.declared.reasons.TextWhy.TheVariants as why
use Rattle.text_lines.specs.Causes.{refused_if}
use Rattle.desc_text.specs.declared.items.Item.{Item}
use Rattle.desc_text.specs.declared.items.Item.TheVariants as items
use Rattle.slave_desc.specs.declared.descriptions.SlaveDesc.{SlaveDesc}
use Rattle.scenario_text.specs.Heads.{is_said, master_of_head, first_said, steps_said, runs_said}
use Rattle.scenario_text.specs.Said.{same_address, is_master}
use Rattle.scenario.specs.Totals.{is_too_much}
use Rattle.scenario_text.specs.declared.keys.HeadKey.TheVariants as heads
use Rattle.scenario_text.specs.declared.keys.LinkKey.{LinkKey}
use Rattle.scenario_text.specs.declared.keys.LinkKey.TheVariants as linkkeys
use Rattle.scenario_text.specs.declared.heads.HeadItem.{HeadItem}

-- a name among the slaves before
abbrev pub why_name : List SlaveDesc → List ℕ → Option TextWhy
why_name slaves n =
    if list_any (λ s. bytes_eq s.name n) slaves then Some why.Repeated
    else refused_if (nat_le 16 (length slaves)) why.Limit

-- an address among the master's and those of the slaves before
abbrev pub why_address : Option Address → List SlaveDesc → Address → Option TextWhy
why_address master slaves a = refused_if (is_master master a || list_any (λ s. same_address s.address a) slaves) why.SameAddress

-- what is wrong with a head that closes
abbrev pub why_head : List HeadItem → Option TextWhy
why_head head = refused_if (not (is_said heads.Steps head && is_said heads.Master head)) why.Missing

-- and with slaves that close, after this head
abbrev pub why_slaves : List HeadItem → List SlaveDesc → Option TextWhy
why_slaves head slaves =
    if length slaves == 0 then Some why.Missing
    else refused_if (is_too_much slaves (steps_said head) (runs_said head)) why.Limit

-- what is wrong with an item among the lines before its block
abbrev pub why_among : List HeadItem → List SlaveDesc → Item → Option TextWhy
why_among head slaves (items.Slave n) = why_name slaves n
why_among head slaves (items.Address a) = why_address (first_said master_of_head head) slaves a
why_among head slaves _ = None

abbrev pub is_chaos : LinkKey → Bool
is_chaos linkkeys.Chaos = true
is_chaos _ = false
