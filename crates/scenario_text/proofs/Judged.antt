-- The fault of the reader is the first line that the judging refuses.
use Rattle.std.proofs.Common.{◌≡◌, ℕ, ◌+◌, ◌-◌, true, List, [], ◌∷◌, ◌++◌, length, Some, Result, Ok, Err, refl, ap, ◌∙◌, arith}
use Rattle.std.specs.Prelude.{IfErr}
use Rattle.std.specs.Str.Lines.{lines}
use Rattle.std.proofs.Math.Seq.{take-length}
use Rattle.std.proofs.lemmas.List.{take_at}
use Rattle.std.proofs.lemmas.Option.{slice_get_past}
use Rattle.text_lines.specs.Causes.{◌>>=◌, bad}
use Rattle.text_lines.specs.Outcomes.{GivesText}
use Rattle.text_lines.specs.Runs.{run_of}
use Rattle.text_lines.proofs.Runs.{Judges, run_err}
use Rattle.text_lines.specs.declared.reasons.TextWhy.{TextWhy}
use Rattle.text_lines.specs.declared.reasons.TextFault.{TextFault}
use Rattle.text_lines.specs.declared.reasons.TextRefused.{TextRefused}
use Rattle.text_lines.specs.declared.reasons.TextRefused.TheVariants as refusals
use Rattle.desc_text.proofs.Judged.{slice_get-at}
use Rattle.scenario_text.specs.Machine.{closes, reader_at_start, take_scenario_line, scenario_finished}
use Rattle.scenario_text.specs.Judging.{why_scenario_line, why_end_of, scenario_why_at}
use Rattle.text_lines.specs.Readings.{FirstBad, IsFirstBad}
use Rattle.scenario_text.proofs.Stands.{Stands, lined, closes_bad}
use Rattle.scenario_text.proofs.Moves.{line_moves, starts}
use Rattle.scenario.specs.declared.scenarios.Scenario.{Scenario}

-- what the judging says after the lines that are done
pub at_next : (done : List (List ℕ)) (line : List ℕ) (rest : List (List ℕ)) → scenario_why_at (done ++ line ∷ rest) (length done + 1) ≡ why_scenario_line done line
at_next done line rest =
    let before : length done + 1 - 1 ≡ length done = omega arith in
    rw (before, slice_get-at done line rest, take_at done (line ∷ rest) (length done) refl) refl

pub at_end : (done : List (List ℕ)) → scenario_why_at done (length done + 1) ≡ why_end_of done
at_end done =
    let before : length done + 1 - 1 ≡ length done = omega arith in
    rw (before, slice_get_past done (length done) (omega arith), take-length done) refl

end_err : {X Y : Type 0} (x : Result X TextWhy) (f : X → Y) (w : TextWhy) → (x >>= λ q. Ok (f q)) ≡ Err w → bad x ≡ Some w
end_err (Ok q) f w e = cc
end_err (Err v) f w e = cc

owes : Judges take_scenario_line scenario_finished scenario_why_at Stands
owes = record {
  taken = λ done rest line s t h e. (at_next done line rest ∙ lined done s h line ∙ ap bad e, line_moves done s t line h e);
  refused = λ done rest line s w h e. at_next done line rest ∙ lined done s h line ∙ ap bad e;
  ended = λ done s w h e. at_end done ∙ closes_bad done s h true 2 (λ _. refl) ∙ end_err (closes s true 2) _ w e;
}

pub first_bad : (text : List ℕ) (f : TextFault) → run_of take_scenario_line scenario_finished 1 reader_at_start (lines text) ≡ Err f → FirstBad scenario_why_at text f.line f.why
first_bad text f e = run_err take_scenario_line scenario_finished scenario_why_at Stands owes [] (lines text) reader_at_start f starts (λ n below some. absurd (omega arith)) e

pub answered_fault : (text : List ℕ) (r : Result Scenario TextRefused) → GivesText r (run_of take_scenario_line scenario_finished 1 reader_at_start (lines text)) → IfErr r (λ e. IsFirstBad scenario_why_at text e)
answered_fault text (Ok s) e = tt
answered_fault text (Err refusals.OutOfMemory) e = tt
answered_fault text (Err (refusals.Fault f)) e = first_bad text f e
