-- Two setups whose bound is worked out by hand.
use Rattle.std.specs.Prelude.{ℕ, pos, [], ◌∷◌}
use Rattle.dcp_types.specs.declared.data_types.DataType.TheVariants as types
use Rattle.dcp_types.specs.declared.limits.Limits.{Limits}
use Rattle.pdu_layout.specs.declared.messages.Cfg.{Cfg}
use Rattle.pdu_layout.specs.declared.messages.Cfg.TheVariants as cfg
use Rattle.master_spec.specs.declared.setups.Slave.{Slave}
use Rattle.master_spec.specs.declared.setups.Setup.{Setup}
use Rattle.witness_laws.specs.Shown.Ends.{master, small_slave}

-- the limits of a scenario that names none
abbrev pub usual_limits : Limits
usual_limits = record { turn_limit = 50; tries = 4; watch_turns = 20; state_limit = 200; retry_turns = 20; data_turns = 20; step_tries = 3 }

abbrev pub parameter : ℕ → Cfg
parameter value = cfg.Parameter 0 types.I64 (pos value)

-- one request before the first run, two before the second, one before the third
abbrev pub early : Slave
early = record (small_slave 1) {
  script = record {
    uuid = 1;
    setup = cfg.Clear ∷ [];
    adjusts = (parameter 1 ∷ parameter 2 ∷ []) ∷ (parameter 3 ∷ []) ∷ [];
  };
}

-- three requests before the first run, none before the second, four before the third
abbrev pub late : Slave
late = record (small_slave 2) {
  script = record {
    uuid = 2;
    setup = cfg.Clear ∷ parameter 1 ∷ parameter 2 ∷ [];
    adjusts = [] ∷ (parameter 3 ∷ parameter 4 ∷ parameter 5 ∷ parameter 6 ∷ []) ∷ [];
  };
}

-- three runs of two steps
abbrev pub three_runs : Setup
three_runs = record { address = master; limits = usual_limits; steps = 2; runs = 3; slaves = early ∷ late ∷ [] }
