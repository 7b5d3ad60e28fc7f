-- What the lines of a head say.
use Rattle.std.specs.Prelude.{ℕ, Bool, ◌==◌, List, [], ◌∷◌, if◌then◌else◌, Option, Some, None, Result, Ok, Err, codes}
use Rattle.std.specs.List.{list_any}
use Rattle.std.specs.Option.{unwrap_or}
use Rattle.std.specs.Str.{bytes_eq}
use Rattle.dcp_types.specs.declared.addresses.Address.{Address}
use Rattle.dcp_types.specs.declared.limits.Limits.{Limits}
use Rattle.dcp_types.specs.declared.protocols.Protocol.{Protocol}
use Rattle.dcp_types.specs.declared.protocols.Protocol.TheVariants as protocols
use Rattle.text_lines.specs.Causes.{◌>>=◌}
use Rattle.text_lines.specs.Numbers.{number_from}
use Rattle.text_lines.specs.Addresses.{address}
use Rattle.text_lines.specs.Counts.{one_word}
use Rattle.text_lines.specs.declared.reasons.TextWhy.{TextWhy}
use Rattle.text_lines.specs.declared.reasons.TextWhy.TheVariants.{BadNumber}
use Rattle.scenario_text.specs.Keys.{or_some, head_code}
use Rattle.scenario_text.specs.declared.keys.HeadKey.{HeadKey}
use Rattle.scenario_text.specs.declared.keys.HeadKey.TheVariants as heads
use Rattle.scenario_text.specs.declared.heads.HeadItem.{HeadItem}
use Rattle.scenario_text.specs.declared.heads.HeadItem.TheVariants as said

-- the range of the number of a key
abbrev pub least_head : HeadKey → ℕ
least_head heads.Steps = 0
least_head heads.StepTries = 2
least_head _ = 1

abbrev pub greatest_head : HeadKey → ℕ
greatest_head heads.Steps = 100000
greatest_head heads.Runs = 100
greatest_head heads.Tries = 20
greatest_head heads.StepTries = 20
greatest_head _ = 1000

abbrev pub number_item : HeadKey → List (List ℕ) → Result HeadItem TextWhy
number_item key args = do
  w ← one_word args
  n ← number_from (least_head key) (greatest_head key) w
  Ok (said.Number key n)

abbrev pub protocol_of : List ℕ → Result Protocol TextWhy
protocol_of w = if bytes_eq w (codes "udp") then Ok protocols.Udp else (if bytes_eq w (codes "tcp") then Ok protocols.Tcp else Err BadNumber)

-- what a line of this key and these words says
abbrev pub head_item : HeadKey → List (List ℕ) → Result HeadItem TextWhy
head_item heads.Master args = do
  a ← address args
  Ok (said.Master a)
head_item heads.Protocol args = do
  w ← one_word args
  p ← protocol_of w
  Ok (said.Protocol p)
head_item key args = number_item key args

-- the key of what is said
abbrev pub item_key : HeadItem → HeadKey
item_key (said.Number k n) = k
item_key (said.Master a) = heads.Master
item_key (said.Protocol p) = heads.Protocol

-- whether a line of this key is among them
abbrev pub is_said : HeadKey → List HeadItem → Bool
is_said key items = list_any (λ i. head_code (item_key i) == head_code key) items

-- what is said of one key
abbrev pub number_in : HeadKey → HeadItem → Option ℕ
number_in key (said.Number k n) = if head_code k == head_code key then Some n else None
number_in key _ = None

abbrev pub master_of_head : HeadItem → Option Address
master_of_head (said.Master a) = Some a
master_of_head _ = None

abbrev pub protocol_in : HeadItem → Option Protocol
protocol_in (said.Protocol p) = Some p
protocol_in _ = None

-- the first that is said
abbrev pub first_said : {I X : Type 0} → (I → Option X) → List I → Option X
first_said f [] = None
first_said f (i ∷ is) = or_some (f i) (first_said f is)

-- what a head says, each key that does not come having its default
abbrev pub steps_said : List HeadItem → ℕ
steps_said head = unwrap_or (first_said (number_in heads.Steps) head) 0

abbrev pub runs_said : List HeadItem → ℕ
runs_said head = unwrap_or (first_said (number_in heads.Runs) head) 1

abbrev pub limits_said : List HeadItem → Limits
limits_said head = record {
  turn_limit = unwrap_or (first_said (number_in heads.TurnLimit) head) 50;
  tries = unwrap_or (first_said (number_in heads.Tries) head) 4;
  watch_turns = unwrap_or (first_said (number_in heads.WatchTurns) head) 20;
  state_limit = unwrap_or (first_said (number_in heads.StateLimit) head) 200;
  retry_turns = unwrap_or (first_said (number_in heads.RetryTurns) head) 20;
  data_turns = unwrap_or (first_said (number_in heads.DataTurns) head) 20;
  step_tries = unwrap_or (first_said (number_in heads.StepTries) head) 3;
}
