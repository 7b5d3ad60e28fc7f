-- What the lines of the links say, after the slaves.
use Rattle.std.specs.Prelude.{ℕ, ◌+◌, ◌-◌, ◌*◌, ◌^◌, ◌&&◌, nat_lt, nat_le, List, [], ◌∷◌, length, if◌then◌else◌, Option, Some, None, Result, Ok, Err}
use Rattle.std.specs.List.{position}
use Rattle.std.specs.Str.{bytes_eq}
use Rattle.scenario.specs.declared.net_plans.NetLine.{NetLine}
use Rattle.scenario.specs.declared.net_plans.NetLine.TheVariants as lines
use Rattle.scenario.specs.declared.net_plans.Chaos.{Chaos}
use Rattle.text_lines.specs.Causes.{◌>>=◌, or_why}
use Rattle.text_lines.specs.Numbers.{decimal_number, number_from, int64}
use Rattle.text_lines.specs.Names.{name}
use Rattle.text_lines.specs.Counts.{three_words, four_words}
use Rattle.text_lines.specs.declared.reasons.TextWhy.{TextWhy}
use Rattle.text_lines.specs.declared.reasons.TextWhy.TheVariants as why
use Rattle.slave_desc.specs.declared.descriptions.SlaveDesc.{SlaveDesc}
use Rattle.scenario.specs.Lookups.{outputs_at, inputs_at, parameters_at}
use Rattle.scenario.specs.declared.scenarios.Wire.{Wire}
use Rattle.scenario.specs.declared.scenarios.Setting.{Setting}
use Rattle.scenario.specs.declared.scenarios.Every.{Every}
use Rattle.scenario.specs.declared.scenarios.Rerun.{Rerun}
use Rattle.scenario_text.specs.declared.keys.LinkKey.{LinkKey}
use Rattle.scenario_text.specs.declared.keys.LinkKey.TheVariants as keys
use Rattle.scenario_text.specs.declared.link_words.LinkLine.{LinkLine}
use Rattle.scenario_text.specs.declared.link_words.LinkLine.TheVariants as link

-- a slave by its name, numbered from 1
abbrev pub place_of : List SlaveDesc → List ℕ → Option ℕ
place_of slaves w = position (λ s. bytes_eq s.name w) slaves

abbrev pub number_of_slave : List SlaveDesc → List ℕ → Result ℕ TextWhy
number_of_slave slaves w = do
  n ← name w
  place ← or_why (place_of slaves n) why.UnknownSlave
  Ok (place + 1)

-- a port or a parameter by its number, of so many; its number is a byte
abbrev pub index_of : ℕ → List ℕ → Result ℕ TextWhy
index_of count w = do
  n ← or_why (decimal_number w) why.BadNumber
  if nat_lt n count && nat_lt n 256 then Ok n else Err why.UnknownPort

-- an end by its number, 0 for the master
abbrev pub end_of : ℕ → List ℕ → Result ℕ TextWhy
end_of count w = do
  n ← or_why (decimal_number w) why.BadNumber
  if nat_le n count then Ok n else Err why.UnknownSlave

-- a type code by two hexadecimal digits, capital or small
abbrev pub hex_value : ℕ → Option ℕ
hex_value b =
    if nat_le 48 b && nat_le b 57 then Some (b - 48)
    else (if nat_le 65 b && nat_le b 70 then Some (b - 55)
    else (if nat_le 97 b && nat_le b 102 then Some (b - 87)
    else None))

abbrev pub type_of : List ℕ → Result ℕ TextWhy
type_of (high ∷ low ∷ []) = do
  h ← or_why (hex_value high) why.BadNumber
  l ← or_why (hex_value low) why.BadNumber
  Ok (h * 16 + l)
type_of _ = Err why.BadNumber

abbrev pub wire_of : List SlaveDesc → List (List ℕ) → Result Wire TextWhy
wire_of slaves args = do
  w ← four_words args
  from ← number_of_slave slaves w.0
  out ← index_of (length (outputs_at slaves from)) w.1
  to ← number_of_slave slaves w.2
  into ← index_of (length (inputs_at slaves to)) w.3
  Ok (record { from = from; out = out; to = to; into = into })

abbrev pub setting_of : List SlaveDesc → List (List ℕ) → Result Setting TextWhy
setting_of slaves args = do
  w ← three_words args
  slave ← number_of_slave slaves w.0
  index ← index_of (length (parameters_at slaves slave)) w.1
  value ← int64 w.2
  Ok (record { slave = slave; index = index; value = value })

abbrev pub rerun_of : List SlaveDesc → ℕ → List (List ℕ) → Result Rerun TextWhy
rerun_of slaves runs args = do
  w ← four_words args
  run ← number_from 2 runs w.0
  slave ← number_of_slave slaves w.1
  index ← index_of (length (parameters_at slaves slave)) w.2
  value ← int64 w.3
  Ok (record { run = run; slave = slave; index = index; value = value })

abbrev pub every_of : List SlaveDesc → List (List ℕ) → Result Every TextWhy
every_of slaves args = do
  w ← three_words args
  from ← number_of_slave slaves w.0
  to ← number_of_slave slaves w.1
  q ← number_from 1 1000 w.2
  Ok (record { from = from; to = to; q = q })

-- the messages that a net line is about
abbrev pub message_named : ℕ → List ℕ → List ℕ → List ℕ → Result (ℕ × ℕ × ℕ) TextWhy
message_named count end type_id nth = do
  e ← end_of count end
  t ← type_of type_id
  n ← number_from 0 1000000 nth
  Ok (e, t, n)

abbrev pub drop_of : ℕ → List (List ℕ) → Result NetLine TextWhy
drop_of count args = do
  w ← three_words args
  m ← message_named count w.0 w.1 w.2
  Ok (lines.Drop m.0 m.1 m.2)

abbrev pub copy_of : ℕ → List (List ℕ) → Result NetLine TextWhy
copy_of count args = do
  w ← four_words args
  m ← message_named count w.0 w.1 w.2
  lag ← number_from 1 1000 w.3
  Ok (lines.Copy m.0 m.1 m.2 lag)

abbrev pub hold_of : ℕ → List (List ℕ) → Result NetLine TextWhy
hold_of count args = do
  w ← four_words args
  m ← message_named count w.0 w.1 w.2
  lag ← number_from 1 1000 w.3
  Ok (lines.Hold m.0 m.1 m.2 lag)

abbrev pub chaos_of : List (List ℕ) → Result Chaos TextWhy
chaos_of args = do
  w ← four_words args
  start ← number_from 0 (2 ^ 64 - 1) w.0
  drop ← number_from 0 1000 w.1
  repeat ← number_from 0 1000 w.2
  hold ← number_from 0 1000 w.3
  Ok (record { start = start; drop = drop; repeat = repeat; hold = hold })

-- what a line of this key and these words says, where there are so many runs
abbrev pub link_of : List SlaveDesc → ℕ → LinkKey → List (List ℕ) → Result LinkLine TextWhy
link_of slaves runs keys.Wire args = do
  w ← wire_of slaves args
  Ok (link.Wire w)
link_of slaves runs keys.Set args = do
  s ← setting_of slaves args
  Ok (link.Set s)
link_of slaves runs keys.RerunSet args = do
  r ← rerun_of slaves runs args
  Ok (link.RerunSet r)
link_of slaves runs keys.Every args = do
  e ← every_of slaves args
  Ok (link.Every e)
link_of slaves runs keys.Drop args = do
  l ← drop_of (length slaves) args
  Ok (link.Net l)
link_of slaves runs keys.Copy args = do
  l ← copy_of (length slaves) args
  Ok (link.Net l)
link_of slaves runs keys.Hold args = do
  l ← hold_of (length slaves) args
  Ok (link.Net l)
link_of slaves runs keys.Chaos args = do
  c ← chaos_of args
  Ok (link.Chaos c)
