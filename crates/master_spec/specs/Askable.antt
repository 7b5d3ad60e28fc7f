-- Requests that have a spelling under every number, and slaves whose jobs have such requests alone.
use Rattle.std.specs.Prelude.{ℕ, ◌<◌, ◌^◌, Option, Some, None, List, [], ◌∷◌}
use Rattle.std.specs.List.{AllByRecursion}
use Rattle.pdu_layout.specs.Message.{message_of, HasSpelling}
use Rattle.pdu_layout.specs.declared.messages.Cfg.{Cfg}
use Rattle.master_spec.specs.declared.requests.Request.{Request}
use Rattle.master_spec.specs.declared.requests.Request.TheVariants.{Change, Configure, AskState, AskError}
use Rattle.master_spec.specs.declared.requests.Latest.{Latest}
use Rattle.master_spec.specs.declared.requests.Latest.TheVariants as latests
use Rattle.master_spec.specs.declared.setups.Slave.{Slave}
use Rattle.master_spec.specs.Jobs.{Job, asked_by}
use Rattle.master_spec.specs.News.{pdu_of}

abbrev pub IsSpelled : (number id : ℕ) → Request → Type 0
IsSpelled number id request = HasSpelling (message_of (pdu_of number id request))

abbrev pub IsAskable : Request → Type 0
IsAskable request = (number id : ℕ) → number < 65536 → id < 256 → IsSpelled number id request

-- each configuration of a list can be asked
abbrev pub AreAskable : List Cfg → Type 0
AreAskable list = AllByRecursion (λ body. IsAskable (Configure body)) list

-- what was asked newest can be asked again
abbrev pub IsLatestAskable : Latest → Type 0
IsLatestAskable latests.Nothing = Unit {0}
IsLatestAskable (latests.Asked request) = IsAskable request
IsLatestAskable (latests.Answered request answer) = IsAskable request

-- the requests of a job can be asked
pub record IsJobAskable (job : Job) : Type 0 where
  pub requests : AllByRecursion (λ request. IsAskable request) (asked_by job)
  pub list : AreAskable job.list

abbrev pub IsPresentAskable : Option Job → Type 0
IsPresentAskable None = Unit {0}
IsPresentAskable (Some job) = IsJobAskable job

-- all that a slave will ever be asked can be asked
pub record IsScriptAskable (slave : Slave) : Type 0 where
  pub id : slave.id < 256
  pub uuid : slave.script.uuid < 2 ^ 128
  pub setup : AreAskable slave.script.setup
  pub adjusts : AllByRecursion (λ list. AreAskable list) slave.script.adjusts
