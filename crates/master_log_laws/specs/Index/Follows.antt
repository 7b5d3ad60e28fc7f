-- What a slave's conversation and what the log tells of it have to do with one another.
use Rattle.std.specs.Prelude.{◌≡◌, ℕ, true, if◌then◌else◌, Some, List, [], ◌∷◌, map, slice_get}
use Rattle.dcp_types.specs.declared.addresses.Address.{Address}
use Rattle.dcp_ends.specs.declared.entries.LogEntry.{LogEntry}
use Rattle.dcp_ends.specs.Events.{Send}
use Rattle.dcp_ends.specs.Logs.{same_address}
use Rattle.master_spec.specs.declared.requests.Request.{Request}
use Rattle.master_spec.specs.declared.requests.Request.TheVariants.{AskState, AskError}
use Rattle.master_spec.specs.Jobs.{Job}
use Rattle.master_spec.specs.Marks.{Mark}
use Rattle.master_spec.specs.Requests.{Asking}
use Rattle.master_spec.specs.Course.{CourseTalk, Course}
use Rattle.master_spec.specs.Setup.{jobs_of}
use Rattle.master_spec.specs.declared.setups.Slave.{Slave}
use Rattle.master_spec.specs.declared.setups.Setup.{Setup}
use Rattle.master_log_laws.specs.Index.Dates.{Dated}
use Rattle.master_log_laws.specs.Index.Index.{Placed, ReadBack, IsGoodJob, Tracks}

-- what is sent to an address
abbrev pub mine : Address → List Send → List (List ℕ)
mine a [] = []
mine a (p ∷ posts) = if same_address p.to a then p.bytes ∷ mine a posts else mine a posts

abbrev pub talk_with : Slave → List Mark → CourseTalk
talk_with slave marks = record { slave = slave; marks = marks }

-- the slave at a place of the setup: no other one has its address, and its requests read back
pub record Listens (setup : Setup) (good : Request → Type 0) (i : ℕ) (slave : Slave) : Type 0 where
  pub is : slice_get setup.slaves i ≡ Some slave
  pub apart : (j : ℕ) (s : Slave) → slice_get setup.slaves j ≡ Some s → same_address s.address slave.address ≡ true → j ≡ i
  pub back : (r : Request) → good r → ReadBack slave.id r
  pub state : good AskState
  pub error : good AskError
  pub jobs : (k : ℕ) (job : Job) → slice_get (jobs_of setup slave) k ≡ Some job → IsGoodJob good job

-- where its conversation stands, and what the log tells of its requests
pub record FollowsCourse (setup : Setup) (good : Request → Type 0) (i : ℕ) (slave : Slave) (log : List LogEntry) (until : ℕ) (c : Course) (posts : List Send) (bs : List Asking) : Type 0 where
  pub marks : List Mark
  pub xs : List Placed
  pub here : slice_get c.talks i ≡ Some (talk_with slave marks)
  pub slaves : map (λ u. u.slave) c.talks ≡ setup.slaves
  pub tracks : Tracks setup.limits good slave.id marks (mine slave.address posts) bs xs
  pub dated : Dated setup slave log until xs
