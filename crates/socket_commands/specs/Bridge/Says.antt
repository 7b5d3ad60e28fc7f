-- What the command makes of a text.
use Rattle.std.specs.Prelude.{◌≡◌, ◌⊎◌, ℕ, ◌<◌, ◌≤◌, List, length, codes}
use Rattle.scenario.specs.declared.scenarios.Scenario.{Scenario}
use Rattle.scenario_text.specs.Reads.{ReadsAsScenario}
use Rattle.commands.specs.declared.said.Statement.{Statement}
use Rattle.commands.specs.declared.statuses.Judgement.TheVariants.{Refused}
use Rattle.commands.specs.Limits.{input_limit}
use Rattle.commands.specs.Refusals.{OfText, line_refusal}
use Rattle.commands.specs.Said.{text_of}
use Rattle.commands.specs.SaysReference.{SaysUnread}
use Rattle.socket_commands.specs.declared.bridge_stops.Stop.{Stop}
use Rattle.socket_commands.specs.declared.bridge_stops.Stop.TheVariants as stops
use Rattle.socket_commands.specs.Bridge.Standing.{BridgeChange, HasNotBegun, HasStood, StopCause}

-- the scenario that this text is has so many slaves that one is left for TCP, or not
pub record IsOfCount (Fits : (n slaves : ℕ) → Type 0) (n : ℕ) (input : List ℕ) (sc : Scenario) : Type 0 where
  pub short : length input ≤ input_limit
  pub reads : ReadsAsScenario input sc
  pub fits : Fits n (length sc.slaves)

-- the line that refuses the text: that of a text that is no scenario, or of a scenario in which no slave is left for TCP
abbrev pub RefusalLine : (n : ℕ) → (input text : List ℕ) → Type 0
RefusalLine n input text =
    OfText SaysUnread input Refused text
    ⊎ (((sc : Scenario) × IsOfCount (λ n slaves. slaves ≤ n) n input sc) × (text ≡ line_refusal 0 (codes "LIMIT")))

abbrev pub RefusesBridge : (n : ℕ) → (input : List ℕ) → Statement → Type 0
RefusesBridge n input said = RefusalLine n input (text_of said.text)

-- a bridge stood for the scenario that the text is, or would have
abbrev pub BridgeStands : {P : Type 0} → (n : ℕ) → (input : List ℕ) → BridgeChange P → Type 0
BridgeStands n input nets = (sc : Scenario) × IsOfCount (λ n slaves. n < slaves) n input sc × HasStood sc n nets

-- memory may have been wanting before the scenario was read, and then nothing was called
abbrev pub StopsBridge : {P : Type 0} → (n : ℕ) → (input : List ℕ) → BridgeChange P → Stop → Type 0
StopsBridge n input nets stops.Net = BridgeStands n input nets × StopCause nets stops.Net
StopsBridge n input nets stops.OutOfMemory = (BridgeStands n input nets ⊎ HasNotBegun nets) × StopCause nets stops.OutOfMemory
