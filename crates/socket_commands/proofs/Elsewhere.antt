-- What is said of a text in which a slave that the words name has a model that is not this program's.
use Rattle.std.proofs.Common.{◌≡◌, ◌≤◌, inl, inr, ℕ, List, [], length, Some, refl, sym, subst}
use Rattle.scenario.specs.declared.scenarios.Scenario.{Scenario}
use Rattle.scenario_text.specs.Reads.{ReadsAsScenario}
use Rattle.host.specs.Externals.{external_in}
use Rattle.commands.specs.declared.said.Statement.{Statement}
use Rattle.commands.specs.declared.statuses.Judgement.{Judgement}
use Rattle.commands.specs.declared.statuses.Judgement.TheVariants as judged
use Rattle.commands.specs.Externals.{LacksModel, external_refusal}
use Rattle.commands.specs.Refusals.{Refuses}
use Rattle.commands.specs.Said.{text_of}
use Rattle.socket_commands.specs.declared.parts.Part.{Part}
use Rattle.socket_commands.specs.Changes.{LiveChange}
use Rattle.socket_commands.specs.Parts.{NamesPart, hosted_of}
use Rattle.socket_commands.specs.Says.{SaysLive}

pub lacks_live : (words : List (List ℕ)) (net : LiveChange) (input : List ℕ) (sc : Scenario) (part : Part) (slave : ℕ) (said : Statement) → length input ≤ 1048576 → ReadsAsScenario input sc → NamesPart words sc part
    → external_in sc (hosted_of part) ≡ Some slave → Refuses (external_refusal slave input) said → (said.judgement ≡ judged.Refused) × SaysLive words net input said.judgement (text_of said.text) []
lacks_live words net input sc part slave said short reads named first refuses =
    let Judged : Judgement → Type 0 = λ judgement. SaysLive words net input judgement (text_of said.text) [] in
    let lacks : LacksModel (hosted_of part) input (text_of said.text) = record { scenario = sc; reads = reads; slave = slave; first = first; text_is = refuses.1 } in
    (refuses.0, subst Judged (sym refuses.0) (inr (inr (record { short = short; part = part; lacks = lacks; named = named })), refl))
