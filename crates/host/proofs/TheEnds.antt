-- What the ends stand for, by the definitions of the master and of the slave.
use Rattle.std.proofs.Common.{List}
use Rattle.dcp_ends.specs.Events.{Event, Rules}
use Rattle.slave_spec.specs.declared.words.SlaveSetup.{SlaveSetup}
use Rattle.slave_spec.specs.Slaves.{slave_rules_from}
use Rattle.slave_core.specs.declared.cores.SlaveCore.{SlaveCore}
use Rattle.slave_core.specs.Core.{CoreStandsFor}
use Rattle.slave_device.specs.declared.devices.Device.{Device}
use Rattle.slave_device.specs.Devices.{DeviceFor}
use Rattle.slave_device.specs.declared.wirings.Wiring.{Wiring}
use Rattle.slave_device.specs.Wires.Standing.{WiringFor}

abbrev pub slave_setup_in : SlaveCore (Device Wiring) → SlaveSetup
slave_setup_in s = s.inner.works.setup

abbrev pub slave_stands : SlaveCore (Device Wiring) → List Event → Type 0
slave_stands = CoreStandsFor (λ d. d.works.setup) (DeviceFor WiringFor)

abbrev pub slave_rules_in : SlaveCore (Device Wiring) → Rules
slave_rules_in s = slave_rules_from (slave_setup_in s)
