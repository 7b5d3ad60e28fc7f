-- What the reader keeps of the lines so far, and what a line does to it.
use Rattle.std.specs.Prelude.{ℕ, Bool, true, not, ◌&&◌, ◌==◌, nat_lt, nat_le, List, [], ◌∷◌, ◌++◌, length, is_some, if◌then◌else◌, Option, Some, None, Result, Ok, Err}
use Rattle.std.specs.Str.{is_utf8}
use Rattle.text_lines.specs.Causes.{◌>>=◌, refused_if, unless}
use Rattle.text_lines.specs.Texts.{words, is_skipped}
use Rattle.text_lines.specs.declared.reasons.TextWhy.{TextWhy}
use Rattle.text_lines.specs.declared.reasons.TextWhy.TheVariants as why
use Rattle.desc_text.specs.Items.{item_of}
use Rattle.desc_text.specs.Judging.{why_key}
use Rattle.desc_text.specs.Machine.{has, put_item, why_held, nothing}
use Rattle.desc_text.specs.Machine as block
use Rattle.desc_text.specs.declared.keys.Key.{Key}
use Rattle.scenario_text.specs.Keys.{any_key, section_of, closes_block}
use Rattle.scenario_text.specs.Heads.{head_item, is_said, runs_said}
use Rattle.scenario_text.specs.Links.{link_of}
use Rattle.scenario_text.specs.Checks.{why_link}
use Rattle.scenario_text.specs.Collecting.{put_link, no_links}
use Rattle.scenario_text.specs.Clashes.{why_head, why_slaves, why_among, is_chaos}
use Rattle.scenario_text.specs.Said.{scenario_of}
use Rattle.scenario_text.specs.declared.keys.HeadKey.{HeadKey}
use Rattle.scenario_text.specs.declared.keys.LinkKey.{LinkKey}
use Rattle.scenario_text.specs.declared.keys.AnyKey.{AnyKey}
use Rattle.scenario_text.specs.declared.keys.AnyKey.TheVariants as any
use Rattle.scenario.specs.declared.scenarios.Scenario.{Scenario}
use Rattle.scenario_text.specs.declared.readers.Reader.{Reader}

-- nothing came yet
abbrev pub reader_at_start : Reader
reader_at_start = record { section = 0; head = []; slaves = []; block = nothing; links = no_links }

abbrev pub close_head : Reader → Result Reader TextWhy
close_head r = unless (why_head r.head) (Ok r)

abbrev pub close_block : Reader → Result Reader TextWhy
close_block r =
    if is_some r.block.name
    then unless (refused_if (nat_le 16 (length r.slaves)) why.Limit) (block.finished r.block >>= λ d. Ok (record r { slaves = r.slaves ++ d ∷ []; block = nothing }))
    else Ok r

abbrev pub close_slaves : Reader → Result Reader TextWhy
close_slaves r = unless (why_slaves r.head r.slaves) (Ok r)

abbrev pub closes : Reader → Bool → ℕ → Result Reader TextWhy
closes r ends_block section = do
  a ← if (r.section == 0) && nat_lt 0 section then close_head r else Ok r
  b ← if ends_block then close_block a else Ok a
  c ← if nat_lt b.section 2 && (section == 2) then close_slaves b else Ok b
  Ok (record c { section = section })

abbrev pub take_head : Reader → HeadKey → List (List ℕ) → Result Reader TextWhy
take_head r key args = unless (refused_if (is_said key r.head) why.Repeated) (head_item key args >>= λ i. Ok (record r { head = r.head ++ i ∷ [] }))

abbrev pub take_scenario_block : Reader → Key → List (List ℕ) → Result Reader TextWhy
take_scenario_block r key args =
    unless (why_key (has r.block key) (is_some r.block.name) key)
    (item_of key args >>= λ i. unless (why_held r.block i) (unless (why_among r.head r.slaves i) (Ok (record r { block = put_item r.block i }))))

abbrev pub take_link : Reader → LinkKey → List (List ℕ) → Result Reader TextWhy
take_link r key args =
    unless (refused_if (is_chaos key && is_some r.links.net.chaos) why.Repeated)
    (link_of r.slaves (runs_said r.head) key args >>= λ l. unless (why_link r.slaves r.links l) (Ok (record r { links = put_link r.links l })))

abbrev pub act_on_key : Reader → AnyKey → List (List ℕ) → Result Reader TextWhy
act_on_key r (any.Head key) args = take_head r key args
act_on_key r (any.Block key) args = take_scenario_block r key args
act_on_key r (any.Link key) args = take_link r key args

abbrev pub take_scenario_keyed : Reader → Option AnyKey → List (List ℕ) → Result Reader TextWhy
take_scenario_keyed r None args = Err why.UnknownKey
take_scenario_keyed r (Some key) args =
    unless (refused_if (nat_lt (section_of key) r.section) why.Order) (closes r (closes_block key) (section_of key) >>= λ q. act_on_key q key args)

abbrev pub take_scenario_words : Reader → List (List ℕ) → Result Reader TextWhy
take_scenario_words r [] = Ok r
take_scenario_words r (w ∷ args) = take_scenario_keyed r (any_key w) args

abbrev pub take_scenario_line : Reader → List ℕ → Result Reader TextWhy
take_scenario_line r line =
    if not (is_utf8 line) then Err why.NotUtf8
    else (if is_skipped (words line) then Ok r else take_scenario_words r (words line))

-- the scenario, at the end of the text
abbrev pub scenario_finished : Reader → Result Scenario TextWhy
scenario_finished r = do
  q ← closes r true 2
  Ok (scenario_of q.head q.slaves q.links)
