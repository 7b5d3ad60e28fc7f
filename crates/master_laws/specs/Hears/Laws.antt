-- The answers that decide the master's requests, on every network, honest or not. The log has its newest entry first.
use Rattle.std.specs.Prelude.{◌≡◌, ℕ, Option, Some, None, List, [], ◌∷◌}
use Rattle.dcp_ends.specs.declared.entries.LogEntry.{LogEntry}
use Rattle.pdu_layout.specs.Reading.{message_in}
use Rattle.log_spec.specs.Messages.{Note, Answer, role_read}
use Rattle.log_spec.specs.Log.{Parties, IsSlaveOf}
use Rattle.log_spec.specs.Log as logs
use Rattle.log_spec.specs.Moves.{decided_exchanges}
use Rattle.master_spec.specs.declared.requests.Answer as heard
use Rattle.master_spec.specs.declared.setups.Slave.{Slave}
use Rattle.master_spec.specs.declared.setups.Setup.{Setup}
use Rattle.master_spec.specs.News.{Answers, news_in}
use Rattle.master_spec.specs.Requests.{Asking, Decision, asks}
use Rattle.master_log_laws.specs.Index.Laws.{AreHeard}
use Rattle.master_log_laws.specs.Index.Runs.{IsRun}
use Rattle.master_laws.specs.Meets.Laws.{IsParty, ArePartiesOf, note_of}

-- the message of this note is this answer of a slave, under its number
abbrev pub IsAnswerAs : (sender : ℕ) → Note → heard.Answer → Type 0
IsAnswerAs sender n a = news_in (Some n.message) ≡ Answers n.number sender a

abbrev pub AnswersAreHeard : Type 0
AnswersAreHeard = (bytes : List ℕ) (sender : ℕ) (n : Note) → role_read (message_in bytes) ≡ Answer sender n → (message_in bytes ≡ Some n.message) × ((a : heard.Answer) × IsAnswerAs sender n a)

-- what a request that may be decided has among the exchanges, the others being these
abbrev pub IsDecision : (id : ℕ) → Asking → Option Decision → (List logs.DecidedRequest → Type 0) → List logs.DecidedRequest → Type 0
IsDecision id b None Others es = Others es
IsDecision id b (Some d) Others [] = ⊥
IsDecision id b (Some d) Others (e ∷ es) = (e.request ≡ note_of id b) × (IsAnswerAs id e.answer d.answer × Others es)

-- the exchanges are those of the requests that are decided, each with its answer
abbrev pub AreDecisions : (id : ℕ) → List Asking → List logs.DecidedRequest → Type 0
AreDecisions id [] es = es ≡ []
AreDecisions id (b ∷ bs) es = IsDecision id b b.decision (AreDecisions id bs) es

abbrev pub DecisionsAreTold : Type 0
DecisionsAreTold = (setup : Setup) → AreHeard setup → (w : Parties) → ArePartiesOf setup w → (log : List LogEntry) → IsRun setup log → (s : ℕ) → IsSlaveOf w s → (slave : Slave) → IsParty setup w s slave
    → AreDecisions s (asks setup.address slave log) (decided_exchanges w s log)
