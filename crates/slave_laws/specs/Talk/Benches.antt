-- How many row events the slave of the definition has done after a log, and how it stands with them.
use Rattle.std.specs.Prelude.{ℕ, if◌then◌else◌, List, [], ◌∷◌}
use Rattle.dcp_types.specs.declared.addresses.Address.{Address}
use Rattle.log_spec.specs.Messages.{Role, Request}
use Rattle.dcp_ends.specs.declared.entries.LogEntry.{LogEntry}
use Rattle.dcp_ends.specs.declared.entries.LogEntry.TheVariants.{Sent, Got, Idle, Turn}
use Rattle.log_spec.specs.Log.{Parties, same, role_heard}
use Rattle.lockstep_laws.specs.Steps.{Bench}
use Rattle.slave_spec.specs.declared.words.SlaveSetup.{SlaveSetup}
use Rattle.slave_spec.specs.declared.words.SlaveRequest as req
use Rattle.slave_spec.specs.declared.words.Session.{Session}
use Rattle.slave_spec.specs.declared.words.Session.TheVariants.{Before, During, After}
use Rattle.slave_spec.specs.declared.words.Fate.{Fate}
use Rattle.slave_spec.specs.declared.words.Fate.TheVariants.{Dropped, Refused, Repeated, Taken}
use Rattle.slave_spec.specs.Heard as spec
use Rattle.slave_spec.specs.Transport as transport
use Rattle.slave_spec.specs.Transport.{SlaveState}
use Rattle.slave_spec.specs.Plants.{Plant}
use Rattle.slave_spec.specs.Requests.{refusal}
use Rattle.slave_spec.specs.Turns.{act}
use Rattle.slave_spec.specs.Slaves.{machine}
use Rattle.slave_laws.specs.Talk.Plants.{bench_of, event_wanted, events_taken, events_turned}
use Rattle.slave_laws.specs.Talk.Desks.{at}

module _ (setup : SlaveSetup) (w : Parties) (s : ℕ) where
  abbrev pub events_by : SlaveState Plant → req.SlaveRequest → Fate → ℕ → ℕ
  events_by x r Taken n = events_taken (event_wanted r.asked) (refusal setup x.inner r.asked) n
  events_by x r Dropped n = n
  events_by x r (Refused code) n = n
  events_by x r Repeated n = n

  abbrev pub events_got : SlaveState Plant → Address → Role → spec.Heard → ℕ → ℕ
  events_got x from (Request receiver k) (spec.Asks r) n = events_by x r (transport.fate (machine setup) x from r) n
  events_got x from _ _ n = n

  abbrev pub events_tick : Session → SlaveState Plant → ℕ → ℕ
  events_tick Before x n = n
  events_tick (During master id) x n = events_turned x.inner.state (act setup (transport.quieter x.quiet) x.inner) n
  events_tick (After master id) x n = n

  abbrev pub events_next : LogEntry → SlaveState Plant → ℕ → ℕ
  events_next (Sent from to bytes) x n = n
  events_next (Got at' from bytes) x n = if same at' (w.slave s) then events_got x from (role_heard w bytes) (spec.heard bytes) n else n
  events_next (Idle at') x n = n
  events_next (Turn at') x n = if same at' (w.slave s) then events_tick x.session x n else n

  abbrev pub events_done : List LogEntry → ℕ
  events_done [] = 0
  events_done (e ∷ log) = events_next e (at (machine setup) w s log).slave (events_done log)

  abbrev pub bench_at : List LogEntry → Bench
  bench_at log = bench_of (events_done log) (at (machine setup) w s log).slave.inner
