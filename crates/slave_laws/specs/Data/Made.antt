-- The slaves of a scenario with their machines, as the laws speak of them.
use Rattle.std.specs.Prelude.{ℕ, ◌+◌, ◌*◌, ◌%◌, option_map, length}
use Rattle.pdu_layout.specs.Reading.{message_in}
use Rattle.slave_desc.specs.declared.descriptions.SlaveDesc.{SlaveDesc}
use Rattle.scenario.specs.declared.scenarios.Scenario.{Scenario}
use Rattle.log_spec.specs.Log.{Parties}
use Rattle.lockstep_laws.specs.Cast.{ConversingSlaves}
use Rattle.lockstep_laws.specs.Models.Ordinals.{ordinals_in_run}
use Rattle.lockstep_laws.specs.Models.Machines.{KeptNote, Store, Machines}
use Rattle.lockstep_laws.specs.Models.Scenarios.{slave_numbered, parties_of}
use Rattle.slave_spec.specs.Changes.{input, has_id}
use Rattle.slave_spec.specs.Payloads as wired
use Rattle.slave_spec.specs.Payloads.{kept_under, payload, data_message}
use Rattle.slave_spec.specs.declared.words.SlaveSetup.{SlaveSetup}
use Rattle.slave_spec.specs.Plants.{Plant}
use Rattle.slave_laws.specs.Talk.Meets.{slaves_made}
use Rattle.slave_laws.specs.Model.Models.{plant_at}
use Rattle.plan_laws.specs.Course.Courses.{tuned, opened, may}
use Rattle.slave_laws.specs.Wiring.Wired.{planned_changes}
use Rattle.slave_laws.specs.Wiring.Links.{interval_of, sender_of}

module _ (sc : Scenario) (other : SlaveDesc) where
  -- slave s as it is made; other stands for slaves that are not there
  abbrev pub setup_at : ℕ → SlaveSetup
  setup_at s = record { desc = slave_numbered sc other s; micro = sc.micro }

  -- the master and the slaves, with datagrams read as the messages that they spell
  abbrev pub parties : Parties
  parties = parties_of sc other message_in

  abbrev pub slaves : ConversingSlaves
  slaves = slaves_made parties setup_at sc.steps sc.runs (λ s. may sc s (slave_numbered sc other s)) (λ s. opened sc s (slave_numbered sc other s))

  -- what is kept under a data id, with its ordinal over all runs
  abbrev pub kept_note : Plant → (id : ℕ) → wired.Kept → KeptNote
  kept_note p id k =
      let o = length p.earlier * ordinals_in_run sc.steps (interval_of sc id) + k.ordinal in
      record { ordinal = o; note = record { number = o % 65536; message = data_message (o % 65536) id k.payload } }

  abbrev pub store_of : Plant → Store
  store_of p = record { kept = λ id. option_map (kept_note p id) (kept_under id p.wires.kept); model = p.model.state }

  abbrev pub machines : Machines
  machines = record {
    sc = sc;
    desc = slave_numbered sc other;
    q = interval_of sc;
    from = sender_of sc;
    payload = λ id vs. payload (slave_numbered sc other (sender_of sc id)) id (planned_changes sc (sender_of sc id) (slave_numbered sc other (sender_of sc id))) vs;
    feeds = λ s id. has_id input id (planned_changes sc s (slave_numbered sc other s));
    tuned = λ s. tuned sc s (slave_numbered sc other s);
    store = λ s log. store_of (plant_at (setup_at s) parties s log);
  }
