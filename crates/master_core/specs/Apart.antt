-- Slaves of different addresses.
use Rattle.std.specs.Prelude.{◌≢◌, List, AllPairs}
use Rattle.master_spec.specs.declared.setups.Slave.{Slave}

abbrev pub AreSlavesApart : List Slave → Type 0
AreSlavesApart slaves = AllPairs (λ a b. a.address ≢ b.address) slaves
