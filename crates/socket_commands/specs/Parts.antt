-- The words of the commands over sockets, and the ends that they name.
use Rattle.std.specs.Prelude.{◌≡◌, ◌≢◌, ◌⊎◌, ℕ, ◌≤◌, ◌-◌, ◌^◌, true, false, List, [], ◌∷◌, codes, All, is_some}
use Rattle.dcp_types.specs.Names.{is_name}
use Rattle.slave_desc.specs.declared.descriptions.SlaveDesc.{SlaveDesc}
use Rattle.scenario.specs.declared.scenarios.Scenario.{Scenario}
use Rattle.scenario.specs.Lookups.{slave_at}
use Rattle.host.specs.declared.hosted.Hosted.{Hosted}
use Rattle.host.specs.Hosting.{all_ends}
use Rattle.run_text.specs.Runs.{all_bits}
use Rattle.commands.specs.SlaveNames.{IsNamed}
use Rattle.socket_commands.specs.declared.parts.Part.{Part}
use Rattle.socket_commands.specs.declared.parts.Part.TheVariants as parts

-- `live`, `master`, or `slave` and a word that can be a name
abbrev pub IsLive : List (List ℕ) → Type 0
IsLive [] = ⊥
IsLive (word ∷ []) = (word ≡ codes "live") ⊎ (word ≡ codes "master")
IsLive (word ∷ name ∷ []) = (word ≡ codes "slave") × (is_name name ≡ true)
IsLive (word ∷ name ∷ more ∷ rest) = ⊥

-- a slave's number is 1 to 16
abbrev pub IsPart : Part → Type 0
IsPart parts.All = Unit {0}
IsPart parts.Master = Unit {0}
IsPart (parts.Slave s) = (1 ≤ s) × (s ≤ 16)

-- the ends of the scenario that the words name
abbrev pub NamesPart : List (List ℕ) → Scenario → Part → Type 0
NamesPart words sc parts.All = words ≡ codes "live" ∷ []
NamesPart words sc parts.Master = words ≡ codes "master" ∷ []
NamesPart words sc (parts.Slave s) = (name : List ℕ) × (words ≡ codes "slave" ∷ name ∷ []) × IsNamed sc.slaves s name

-- the words name a slave that the scenario does not have
abbrev pub HasNoPart : List (List ℕ) → Scenario → Type 0
HasNoPart words sc = (name : List ℕ) × (words ≡ codes "slave" ∷ name ∷ []) × All (λ d. d.name ≢ name) sc.slaves

-- the ends as a host takes them
abbrev pub hosted_of : Part → Hosted
hosted_of parts.All = all_ends
hosted_of parts.Master = record { master = true; slaves = 0 }
hosted_of (parts.Slave s) = record { master = false; slaves = 2 ^ (s - 1) }

-- the ends as bits of a trace, in a scenario of so many slaves
abbrev pub bits_in : Part → (slaves : ℕ) → ℕ
bits_in parts.All slaves = all_bits slaves
bits_in parts.Master slaves = 1
bits_in (parts.Slave s) slaves = 2 ^ s

-- the scenario has the slave
abbrev pub HasSlave : Scenario → Part → Type 0
HasSlave sc parts.All = Unit {0}
HasSlave sc parts.Master = Unit {0}
HasSlave sc (parts.Slave s) = is_some (slave_at sc.slaves s) ≡ true
