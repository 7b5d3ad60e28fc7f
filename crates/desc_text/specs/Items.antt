-- What a line of a description says, by its key and the words after it.
use Rattle.std.specs.Prelude.{ℕ, ℤ, ◌-◌, ◌^◌, List, [], ◌∷◌, if◌then◌else◌, Option, Some, None, Result, Ok, Err, codes}
use Rattle.std.specs.Str.{bytes_eq}
use Rattle.text_lines.specs.Causes.{◌>>=◌, or_why}
use Rattle.text_lines.specs.Numbers.{number_from, int64}
use Rattle.text_lines.specs.Names.{name}
use Rattle.text_lines.specs.Addresses.{address}
use Rattle.text_lines.specs.Identities.{identity}
use Rattle.text_lines.specs.Counts.{one_word, two_words}
use Rattle.desc_text.specs.Words.{data_type_of, kind_named}
use Rattle.text_lines.specs.declared.reasons.TextWhy.{TextWhy}
use Rattle.text_lines.specs.declared.reasons.TextWhy.TheVariants as why
use Rattle.slave_desc.specs.declared.ports.Port.{Port}
use Rattle.desc_text.specs.declared.keys.Key.{Key}
use Rattle.desc_text.specs.declared.keys.Key.TheVariants as keys
use Rattle.desc_text.specs.declared.items.Item.{Item}
use Rattle.desc_text.specs.declared.items.Item.TheVariants as items

-- the key that a word is
abbrev pub key_of : List ℕ → Option Key
key_of w =
    if bytes_eq w (codes "slave") then Some keys.Slave
    else (if bytes_eq w (codes "uuid") then Some keys.Uuid
    else (if bytes_eq w (codes "address") then Some keys.Address
    else (if bytes_eq w (codes "model") then Some keys.Model
    else (if bytes_eq w (codes "busy") then Some keys.Busy
    else (if bytes_eq w (codes "heartbeat") then Some keys.Heartbeat
    else (if bytes_eq w (codes "resolution") then Some keys.Resolution
    else (if bytes_eq w (codes "input") then Some keys.Input
    else (if bytes_eq w (codes "output") then Some keys.Output
    else None))))))))

abbrev pub port : List (List ℕ) → Result Port TextWhy
port args = do
  w ← two_words args
  vr ← number_from 0 (2 ^ 64 - 1) w.0
  kind ← or_why (data_type_of w.1) why.UnsupportedType
  Ok (record { vr = vr; kind = kind })

abbrev pub resolution : List (List ℕ) → Result (ℕ × ℕ) TextWhy
resolution args = do
  w ← two_words args
  numerator ← number_from 1 (2 ^ 32 - 1) w.0
  denominator ← number_from 1 (2 ^ 32 - 1) w.1
  Ok (numerator, denominator)

abbrev pub parameters_said : List (List ℕ) → Result (List ℤ) TextWhy
parameters_said [] = Ok []
parameters_said (w ∷ ws) = do
  first ← int64 w
  others ← parameters_said ws
  Ok (first ∷ others)

abbrev pub model : List (List ℕ) → Result Item TextWhy
model [] = Err why.Words
model (w ∷ ws) = do
  kind ← or_why (kind_named w) why.UnknownModel
  parameters_said ← parameters_said ws
  Ok (items.Model kind parameters_said)

-- what the line says
abbrev pub item_of : Key → List (List ℕ) → Result Item TextWhy
item_of keys.Slave args = do
  w ← one_word args
  n ← name w
  Ok (items.Slave n)
item_of keys.Uuid args = do
  w ← one_word args
  n ← identity w
  Ok (items.Uuid n)
item_of keys.Address args = do
  a ← address args
  Ok (items.Address a)
item_of keys.Model args = model args
item_of keys.Busy args = do
  w ← one_word args
  n ← number_from 0 50 w
  Ok (items.Busy n)
item_of keys.Heartbeat args = do
  w ← one_word args
  n ← number_from 0 100000 w
  Ok (items.Heartbeat n)
item_of keys.Resolution args = do
  r ← resolution args
  Ok (items.Resolution r.0 r.1)
item_of keys.Input args = do
  p ← port args
  Ok (items.Input p)
item_of keys.Output args = do
  p ← port args
  Ok (items.Output p)
