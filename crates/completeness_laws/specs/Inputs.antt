-- Why inputs of a step did not come to a slave. Logs have their newest entry first, and the place of an entry is the number of those before it.
use Rattle.std.specs.Prelude.{◌≡◌, ℕ, ◌+◌, ◌-◌, ◌*◌, ◌/◌, ◌%◌, ◌<◌, ◌≤◌, IsTrue, Some, List, ◌∷◌, ◌++◌, length, slice_get}
use Rattle.dcp_ends.specs.declared.entries.LogEntry.{LogEntry}
use Rattle.dcp_ends.specs.declared.entries.LogEntry.TheVariants.{Sent, Got}
use Rattle.slave_desc.specs.declared.descriptions.SlaveDesc.{SlaveDesc}
use Rattle.scenario.specs.declared.scenarios.Scenario.{Scenario}
use Rattle.log_spec.specs.Messages.{Note, Value}
use Rattle.log_spec.specs.Log.{Parties, IsSlaveOf, role_heard, values_sent}
use Rattle.lockstep_laws.specs.Models.Ordinals.{ordinals_in_run}
use Rattle.master_spec.specs.declared.causes.Cause.TheVariants as causes
use Rattle.master_spec.specs.declared.links.DataLink.{DataLink}
use Rattle.master_spec.specs.declared.requests.Answer.TheVariants.{Nack}
use Rattle.master_spec.specs.declared.setups.Slave.{Slave}
use Rattle.master_spec.specs.Links.{is_wired_pair}
use Rattle.master_spec.specs.Marks.{is_missing}
use Rattle.master_spec.specs.News.{Answers, news_of}
use Rattle.master_spec.specs.Setup.{setup_from}
use Rattle.master_spec.specs.Requests.{Asking, is_step}
use Rattle.master_spec.specs.Exchanged.{IsDecided, entry_at}
use Rattle.master_spec.specs.Shown.{Shown}
use Rattle.slave_laws.specs.Wiring.Links.{data_link_of}
use Rattle.run_laws.specs.Laws.{parties}
use Rattle.completeness_laws.specs.StepPhases.{phase_of_step}

-- a wire of the scenario goes from a slave to slave s, and this is the link that the plan has for the two
pub record IsLinkTo (sc : Scenario) (other : SlaveDesc) (s : ℕ) (link : DataLink) : Type 0 where
  pub sender : IsSlaveOf (parties sc other) link.from
  pub to : link.to ≡ s
  pub wired : IsTrue (is_wired_pair sc.wires (record { from = link.from; to = link.to }))
  pub planned : data_link_of sc link.id ≡ Some link

-- Which of the data messages of an id with interval q step k of a run wants, counted from 0 over all runs: of those of its run the newest that is due before it.
abbrev pub ordinal_wanted : (steps q run k : ℕ) → ℕ
ordinal_wanted steps q run k = (run - 1) * ordinals_in_run steps q + (k - 1) / q

-- the sender of the link sent slave s the data of the link under this ordinal
pub record WasSentOver (w : Parties) (s : ℕ) (link : DataLink) (o : ℕ) (log : List LogEntry) : Type 0 where
  pub later : List LogEntry
  pub earlier : List LogEntry
  pub bytes : List ℕ
  pub note : Note
  pub is : log ≡ later ++ Sent (w.slave link.from) (w.slave s) bytes ∷ earlier
  pub read : role_heard w bytes ≡ Value link.id note
  pub number : note.number ≡ o % 65536
  pub ordinal : length (values_sent w link.id (Sent (w.slave link.from) (w.slave s) bytes ∷ earlier)) ≡ o + 1

-- at this place slave s sends the master the answer that inputs are missing, to the request with this number
pub record RefusesAt (w : Parties) (s q : ℕ) (log : List LogEntry) (place : ℕ) : Type 0 where
  pub bytes : List ℕ
  pub code : ℕ
  pub is : entry_at log place ≡ Some (Sent (w.slave s) w.master bytes)
  pub read : news_of bytes ≡ Answers q s (Nack code)
  pub missing : IsTrue (is_missing code)

-- The phase is for step k of a run. A slave from which a wire goes to this one had sent it the data that the step wants before any refusal of the step came, and that had not come when the slave sent the last refusal.
pub record InputsWereSent (sc : Scenario) (other : SlaveDesc) (log : List LogEntry) (slave : Slave) (p q k : ℕ) (s : Shown (setup_from sc) log slave p (causes.InputsMissing q k)) : Type 0 where
  pub run : ℕ
  pub first : 1 ≤ run
  pub last : run ≤ sc.runs
  pub step : (1 ≤ k) × (k ≤ sc.steps)
  pub phase : p ≡ phase_of_step sc.steps run k
  pub link : DataLink
  pub wire : IsLinkTo sc other slave.id link
  pub sent : WasSentOver (parties sc other) slave.id link (ordinal_wanted sc.steps link.every run k) log
  pub before : (i : ℕ) (a : Asking) (place code : ℕ) → slice_get (s.request ∷ s.earlier) i ≡ Some a → IsTrue (is_step a) → IsDecided a place (Nack code) → length sent.earlier < place
  pub refused : ℕ
  pub asked : s.request.first < refused
  pub refuses : RefusesAt (parties sc other) slave.id q log refused
  pub missing : (j : ℕ) → length sent.earlier < j → j < refused → entry_at log j ≡ Some (Got ((parties sc other).slave slave.id) ((parties sc other).slave link.from) sent.bytes) → ⊥
