-- Why a command over sockets says nothing of a text.
use Rattle.std.specs.Prelude.{ℕ, List}
use Rattle.scenario.specs.declared.scenarios.Scenario.{Scenario}
use Rattle.scenario_text.specs.Reads.{ReadsAsScenario}
use Rattle.socket_commands.specs.declared.hosting.LiveFault.{LiveFault}
use Rattle.socket_commands.specs.declared.hosting.LiveFault.TheVariants.{Net, Wait, OutOfMemory}
use Rattle.socket_commands.specs.Lives.{CauseOf}

-- the text is a scenario where the network or a wait was called
abbrev pub IsCalled : List ℕ → LiveFault → Type 0
IsCalled input Net = (scenario : Scenario) × ReadsAsScenario input scenario
IsCalled input Wait = (scenario : Scenario) × ReadsAsScenario input scenario
IsCalled input OutOfMemory = Unit {0}

abbrev pub StopsLive : (input : List ℕ) → (net_before net_now wait_before wait_now : ℕ) → LiveFault → Type 0
StopsLive input net_before net_now wait_before wait_now fault = IsCalled input fault × CauseOf net_before net_now wait_before wait_now fault
