-- What holds of all lists of bytes.
use Rattle.std.specs.Prelude.{◌≡◌, ℕ, ◌<◌, ◌⊎◌, List, slice_index}
use Rattle.dcp_ends.specs.declared.entries.LogEntry.{LogEntry}
use Rattle.dcp_record.specs.declared.faults.TraceWhy.{TraceWhy}
use Rattle.dcp_record.specs.Traces.{IsTrace}
use Rattle.dcp_record.specs.Refusals.{TraceRefusal}

abbrev pub IsBytes : List ℕ → Type 0
IsBytes b = (i : ℕ) → slice_index b i < 256

-- bytes are a trace or are refused
abbrev pub ReadOrRefused : Type 0
ReadOrRefused = (b : List ℕ) → IsBytes b
    → ((hosted : ℕ) × (scenario : List ℕ) × (entries : List LogEntry) × IsTrace b hosted scenario entries)
    ⊎ ((at : ℕ) × (why : TraceWhy) × TraceRefusal b at why)

abbrev pub NeverBothOfTrace : Type 0
NeverBothOfTrace = (b : List ℕ) (hosted : ℕ) (scenario : List ℕ) (entries : List LogEntry) (at : ℕ) (why : TraceWhy)
    → IsTrace b hosted scenario entries → TraceRefusal b at why → ⊥

-- no two traces have the same bytes
abbrev pub TracesDiffer : Type 0
TracesDiffer = (b : List ℕ) (m n : ℕ) (s t : List ℕ) (es fs : List LogEntry)
    → IsTrace b m s es → IsTrace b n t fs → (m ≡ n) × (s ≡ t) × (es ≡ fs)

-- bytes have one refusal at most
abbrev pub OneTraceRefusal : Type 0
OneTraceRefusal = (b : List ℕ) (m n : ℕ) (v w : TraceWhy) → TraceRefusal b m v → TraceRefusal b n w → (m ≡ n) × (v ≡ w)
