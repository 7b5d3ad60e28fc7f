-- What is said of a slave's entries is what the command says.
use Rattle.std.proofs.Common.{◌≡◌, ◌⊎◌, inl, inr, ℕ, ◌≤◌, ◌<◌, List, length, Some, None, Option, refl, sym, subst, arith}
use Rattle.std.specs.Prelude.{◌≢◌, All, IfOk, IsSomeAnd, Result, Ok, Err}
use Rattle.dcp_ends.specs.declared.entries.LogEntry.{LogEntry}
use Rattle.slave_desc.specs.declared.descriptions.SlaveDesc.{SlaveDesc}
use Rattle.scenario.specs.declared.scenarios.Scenario.{Scenario}
use Rattle.scenario.specs.Lookups.{slave_at}
use Rattle.scenario.specs.Sound.{IsSlave}
use Rattle.host.specs.declared.hosted.Hosted.{Hosted}
use Rattle.conform.specs.declared.answers.Conformance.{Conformance}
use Rattle.conform.specs.declared.answers.Conformance.TheVariants.{Follows, Bad}
use Rattle.conform.specs.Checks.{Judges}
use Rattle.commands.specs.declared.said.Statement.{Statement}
use Rattle.commands.specs.declared.statuses.Judgement.{Judgement}
use Rattle.commands.specs.declared.statuses.Judgement.TheVariants as judged
use Rattle.commands.specs.Conforms.{SaysAnswer, SaysOfSlave}
use Rattle.commands.specs.Limits.{trace_limit}
use Rattle.commands.specs.Refusals.{Refuses, byte_refusal, line_refusal}
use Rattle.std.specs.Prelude.{codes}
use Rattle.commands.specs.Said.{text_of}
use Rattle.commands.specs.SaysConform.{IsJudgedSo, NamesNoSlave, SaysConform}
use Rattle.commands.specs.SaysReplay.{IsTraceOf, RefusesTrace}
use Rattle.commands.specs.SlaveNames.{IsNamed}

-- the slave of a name, as a look-up gives it
found : (o : Option SlaveDesc) (name : List ℕ) → IsSomeAnd o (λ d. d.name ≡ name) → (d : SlaveDesc) × (o ≡ Some d) × (d.name ≡ name)
found None name there = absurd there
found (Some d) name there = (d, refl, there)

pub judged_says : (name input : List ℕ) (sc : Scenario) (hosted : Hosted) (entries : List LogEntry) (slave : ℕ) (answer : Conformance) (said : Statement) → IsTraceOf input sc hosted entries → IsNamed sc.slaves slave name
    → ((d : SlaveDesc) → slave_at sc.slaves slave ≡ Some d → Judges d entries answer) → SaysAnswer name answer said → SaysOfSlave name input said
judged_says name input sc hosted entries slave answer said trace named judges says =
    let it = found (slave_at sc.slaves slave) name named.2 in
    let so : IsJudgedSo name input answer = record { scenario = sc; hosted = hosted; entries = entries; trace = trace; slave = slave; desc = it.0; is = it.1; named = it.2; judged = judges it.0 it.1 } in
    by answer so says
  where
    by : (answer : Conformance) → IsJudgedSo name input answer → SaysAnswer name answer said → SaysOfSlave name input said
    by (Follows events) so says = let Of : Judgement → Type 0 = λ j. SaysConform name input j (text_of said.text) in subst Of (sym says.0) (events, so, says.1)
    by (Bad at why) so says = let Of : Judgement → Type 0 = λ j. SaysConform name input j (text_of said.text) in subst Of (sym says.0) (at, why, so, says.1)

pub refused_says : (name input : List ℕ) (said : Statement) → length input ≤ trace_limit → said.judgement ≡ judged.Refused → RefusesTrace input (text_of said.text) → SaysOfSlave name input said
refused_says name input said short refused why = let Of : Judgement → Type 0 = λ j. SaysConform name input j (text_of said.text) in subst Of (sym refused) (inl (short, why))

pub long_says : (name input : List ℕ) (said : Statement) → trace_limit < length input → Refuses (byte_refusal 0 (codes "LIMIT")) said → SaysOfSlave name input said
long_says name input said long refuses = let Of : Judgement → Type 0 = λ j. SaysConform name input j (text_of said.text) in subst Of (sym refuses.0) (inr (inl (long, refuses.1)))

pub nobody_says : (name input : List ℕ) (sc : Scenario) (hosted : Hosted) (entries : List LogEntry) (said : Statement) → IsTraceOf input sc hosted entries → All (λ d. d.name ≢ name) sc.slaves
    → Refuses (line_refusal 0 (codes "UNKNOWN_SLAVE")) said → SaysOfSlave name input said
nobody_says name input sc hosted entries said trace none refuses =
    let Of : Judgement → Type 0 = λ j. SaysConform name input j (text_of said.text) in
    subst Of (sym refuses.0) (inr (inr (record { scenario = sc; hosted = hosted; entries = entries; trace = trace; none = none }, refuses.1)))

pub judged_ok : {E : Type 0} (name input : List ℕ) (sc : Scenario) (hosted : Hosted) (entries : List LogEntry) (slave : ℕ) (answer : Conformance) (result : Result Statement E) → IsTraceOf input sc hosted entries → IsNamed sc.slaves slave name
    → ((d : SlaveDesc) → slave_at sc.slaves slave ≡ Some d → Judges d entries answer) → IfOk result (SaysAnswer name answer) → IfOk result (SaysOfSlave name input)
judged_ok name input sc hosted entries slave answer (Ok said) trace named judges says = judged_says name input sc hosted entries slave answer said trace named judges says
judged_ok name input sc hosted entries slave answer (Err e) trace named judges says = tt
