-- One master, one slave, and what happens between them.
use Rattle.std.specs.Prelude.{ℕ, ◌+◌, true, false, List, [], ◌∷◌, pos}
use Rattle.dcp_types.specs.declared.addresses.Address.{Address}
use Rattle.dcp_types.specs.declared.data_types.DataType.TheVariants.{I64}
use Rattle.dcp_ends.specs.declared.entries.LogEntry.{LogEntry}
use Rattle.dcp_ends.specs.declared.entries.LogEntry.TheVariants.{Sent, Got, Turn}
use Rattle.fixed_models.specs.declared.kinds.Kind.TheVariants.{Const}
use Rattle.pdu_layout.specs.Reading.{message_in}
use Rattle.log_spec.specs.Log.{Parties}
use Rattle.lockstep_laws.specs.Cast.{ConversingSlaves}
use Rattle.slave_spec.specs.declared.words.SlaveSetup.{SlaveSetup}
use Rattle.slave_laws.specs.Talk.Meets.{slaves_made}

abbrev pub small_address : ℕ → Address
small_address s = record { ip = 1; port = 9 + s }

abbrev pub small_parties : Parties
small_parties = record { count = 1; master = small_address 0; slave = small_address; read = message_in }

-- slave s has the identity s, and shows one number for ever
abbrev pub setup : ℕ → SlaveSetup
setup s = record {
  desc = record { name = []; uuid = s; address = small_address s; busy = 0; heartbeat = 0; numerator = 1; denominator = 1; kind = Const; parameters = pos 5 ∷ []; inputs = []; outputs = record { vr = 1; kind = I64 } ∷ [] };
  micro = 1;
}

-- anything may be asked of it, but for row events: no run is opened
abbrev pub slaves : ConversingSlaves
slaves = slaves_made small_parties setup 1 1 (λ s es n. true) (λ s run es. false)

-- the messages: a register, the question for the state, and their answers
abbrev pub register : List ℕ
register = 1 ∷ 0 ∷ 0 ∷ 1 ∷ 0 ∷ 0 ∷ 0 ∷ 0 ∷ 0 ∷ 0 ∷ 0 ∷ 0 ∷ 0 ∷ 0 ∷ 0 ∷ 0 ∷ 0 ∷ 0 ∷ 0 ∷ 0 ∷ 1 ∷ 2 ∷ 1 ∷ 0 ∷ []

abbrev pub acknowledgement : List ℕ
acknowledgement = 176 ∷ 0 ∷ 0 ∷ 1 ∷ []

abbrev pub question : List ℕ
question = 128 ∷ 1 ∷ 0 ∷ 1 ∷ []

abbrev pub configuration : List ℕ
configuration = 178 ∷ 1 ∷ 0 ∷ 1 ∷ 1 ∷ []

abbrev pub asked_entry : List ℕ → LogEntry
asked_entry bytes = Sent (small_address 0) (small_address 1) bytes

abbrev pub came_entry : List ℕ → LogEntry
came_entry bytes = Got (small_address 1) (small_address 0) bytes

abbrev pub told_entry : List ℕ → LogEntry
told_entry bytes = Sent (small_address 1) (small_address 0) bytes

abbrev pub heard_entry : List ℕ → LogEntry
heard_entry bytes = Got (small_address 0) (small_address 1) bytes

-- the newest entry first
abbrev pub log : List LogEntry
log =
    heard_entry acknowledgement
    ∷ heard_entry configuration
    ∷ told_entry configuration
    ∷ came_entry question
    ∷ asked_entry question
    ∷ heard_entry acknowledgement
    ∷ told_entry acknowledgement
    ∷ came_entry register
    ∷ told_entry acknowledgement
    ∷ came_entry register
    ∷ asked_entry register
    ∷ asked_entry register
    ∷ Turn (small_address 0)
    ∷ []
