-- Which ends of a scenario are hosted, what each is made to do, and what a network is opened with for them.
use Rattle.std.specs.Prelude.{ℕ, ◌+◌, ◌-◌, ◌/◌, ◌%◌, ◌^◌, ◌==◌, Bool, true, if◌then◌else◌, Option, Some, None, List, [], ◌∷◌, map, zero, suc}
use Rattle.dcp_types.specs.declared.addresses.Address.{Address}
use Rattle.dcp_ends.specs.Events.{Rules}
use Rattle.dcp_net.specs.declared.openings.Opening.{Opening}
use Rattle.slave_desc.specs.declared.descriptions.SlaveDesc.{SlaveDesc}
use Rattle.scenario.specs.declared.scenarios.Scenario.{Scenario}
use Rattle.scenario.specs.Lookups.{slave_at}
use Rattle.slave_spec.specs.declared.words.SlaveSetup.{SlaveSetup}
use Rattle.slave_spec.specs.Slaves.{slave_rules_from}
use Rattle.master_spec.specs.Rules.{master_rules}
use Rattle.master_spec.specs.Setup.{setup_from}
use Rattle.master_spec.specs.declared.setups.Setup as master
use Rattle.host.specs.declared.hosted.Hosted.{Hosted}

-- the master and each slave that there is
abbrev pub all_ends : Hosted
all_ends = record { master = true; slaves = 65535 }

-- bit s - 1 stands for slave s, from 1
abbrev pub is_hosted : Hosted → ℕ → Bool
is_hosted hosted s = (hosted.slaves / 2 ^ (s - 1)) % 2 == 1

-- the hosted ones of these slaves, which are numbered from s
abbrev pub hosted_from : Hosted → (s : ℕ) → List SlaveDesc → List SlaveDesc
hosted_from hosted s [] = []
hosted_from hosted s (d ∷ ds) = if is_hosted hosted s then d ∷ hosted_from hosted (s + 1) ds else hosted_from hosted (s + 1) ds

abbrev pub hosted_slaves : Scenario → Hosted → List SlaveDesc
hosted_slaves sc hosted = hosted_from hosted 1 sc.slaves

-- how many of the n slaves from s on are hosted
abbrev pub count_from : Hosted → (s n : ℕ) → ℕ
count_from hosted s zero = 0
count_from hosted s (suc n) = (if is_hosted hosted s then 1 else 0) + count_from hosted (s + 1) n

-- the slave of a number, where it is there and hosted
abbrev pub hosted_slave : Scenario → Hosted → (s : ℕ) → Option SlaveDesc
hosted_slave sc hosted s = if is_hosted hosted s then slave_at sc.slaves s else None

-- ---- what each end is made to do

-- what a slave is made with
abbrev pub slave_setup : Scenario → SlaveDesc → SlaveSetup
slave_setup sc d = record { desc = d; micro = sc.micro }

abbrev pub slave_rules : Scenario → SlaveDesc → Rules
slave_rules sc d = slave_rules_from (slave_setup sc d)

-- the master's rules, where it is hosted
abbrev pub master_of : Scenario → Hosted → Option Rules
master_of sc hosted = if hosted.master then Some (master_rules sc) else None

-- the rules of the hosted slaves, in the order of their numbers
abbrev pub slaves_of : Scenario → Hosted → List Rules
slaves_of sc hosted = map (slave_rules sc) (hosted_slaves sc hosted)

-- what the master is made from, where it is hosted
abbrev pub master_setup_of : Scenario → Hosted → Option master.Setup
master_setup_of sc hosted = if hosted.master then Some (setup_from sc) else None

-- what the hosted slaves are made from, in the order of their numbers
abbrev pub slave_setups_of : Scenario → Hosted → List SlaveSetup
slave_setups_of sc hosted = map (slave_setup sc) (hosted_slaves sc hosted)

-- ---- the network

-- the master's address and then each slave's
abbrev pub all_places : Scenario → List Address
all_places sc = sc.master ∷ map (λ d. d.address) sc.slaves

-- those of the hosted ends, in the same order
abbrev pub hosted_places : Scenario → Hosted → List Address
hosted_places sc hosted =
    if hosted.master then sc.master ∷ map (λ d. d.address) (hosted_slaves sc hosted) else map (λ d. d.address) (hosted_slaves sc hosted)

abbrev pub opening_of : Scenario → Hosted → Opening
opening_of sc hosted = record { protocol = sc.protocol; all = all_places sc; ends = hosted_places sc hosted; plan = sc.net }
