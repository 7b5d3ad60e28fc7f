-- The printed words of causes.
use Rattle.std.specs.Prelude.{ℕ, List, codes}
use Rattle.dcp_record.specs.declared.faults.TraceWhy.{TraceWhy}
use Rattle.dcp_record.specs.declared.faults.TraceWhy.TheVariants.{Header, Tag, Short, Length}

abbrev pub trace_word : TraceWhy → List ℕ
trace_word Header = codes "HEADER"
trace_word Tag = codes "TAG"
trace_word Short = codes "SHORT"
trace_word Length = codes "LENGTH"
