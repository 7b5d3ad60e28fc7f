-- What is refused behind a header and its scenario is refused in the whole.
use Rattle.std.proofs.Common.{◌≡◌, ℕ, ◌+◌, ◌-◌, List, ◌++◌, length, sym, ap, ◌∙◌, append_assoc, refl, arith}
use Rattle.std.proofs.lemmas.List.{length-append}
use Rattle.dcp_ends.specs.declared.entries.LogEntry.{LogEntry}
use Rattle.dcp_record.specs.declared.faults.TraceWhy.{TraceWhy}
use Rattle.dcp_record.specs.declared.faults.TraceWhy.TheVariants.{Header, Tag, Short, Length}
use Rattle.dcp_record.specs.Traces.{IsTrace, header_bytes, trace_bytes, all_entry_bytes}
use Rattle.dcp_record.specs.Refusals.{TraceRefusal, RefusedEntry, entry_place}
use Rattle.dcp_record.specs.Cuts.{IsHead, AreEntries, BadEntry}

place_is : (b head all rest tail : List ℕ) (at place : ℕ) → b ≡ head ++ rest → rest ≡ all ++ tail → at ≡ (length b - length rest) + length all + place → at ≡ length (head ++ all) + place
place_is b head all rest tail at place e f here =
    let long : length b ≡ length head + length rest = ap length e ∙ length-append head rest in
    omega (arith, length-append head all)

module _ (b : List ℕ) (hosted : ℕ) (scenario rest : List ℕ) (head : IsHead b hosted scenario rest) where
  bad_behind : (at : ℕ) (why : TraceWhy) → BadEntry (length b - length rest) rest at why → RefusedEntry b at why
  bad_behind at why h =
      let front = header_bytes hosted (length scenario) ++ scenario in
      record {
        hosted = hosted;
        scenario = scenario;
        entries = h.entries;
        before = trace_bytes hosted scenario h.entries;
        rest = h.rest;
        reads = record { known = head.known; measured = head.measured; recordable = h.recordable; bytes = refl };
        parts = head.parts ∙ ap (λ (l : List ℕ). front ++ l) h.parts ∙ sym (append_assoc front (all_entry_bytes h.entries) h.rest);
        refused = h.refused;
        here = place_is b front (all_entry_bytes h.entries) rest h.rest at (entry_place h.rest why) head.parts h.parts h.here;
      }

  pub fault_behind : (at : ℕ) (why : TraceWhy) → BadEntry (length b - length rest) rest at why → TraceRefusal b at why
  fault_behind at Header h = absurd h.refused
  fault_behind at Tag h = bad_behind at Tag h
  fault_behind at Length h = bad_behind at Length h
  fault_behind at Short h = bad_behind at Short h

  pub whole_behind : (entries : List LogEntry) → AreEntries rest entries → IsTrace b hosted scenario entries
  whole_behind entries k = record {
    known = head.known;
    measured = head.measured;
    recordable = k.recordable;
    bytes = head.parts ∙ ap (λ (l : List ℕ). header_bytes hosted (length scenario) ++ scenario ++ l) k.parts;
  }
