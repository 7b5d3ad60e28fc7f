-- What the reader answers, and the laws of the grammar.
use Rattle.std.proofs.Common.{◌≡◌, ℕ, ◌+◌, ◌<◌, true, ◌⊎◌, inl, inr, List, [], ◌∷◌, ◌++◌, length, None, Result, Ok, Err, refl, sym, ap, ◌∙◌, subst, arith, append-nil, append_assoc, length-append, below_more}
use Rattle.std.specs.Prelude.{IfOk}
use Rattle.std.specs.Str.Lines.{lines}
use Rattle.text_lines.specs.Outcomes.{GivesText}
use Rattle.text_lines.specs.Runs.{at_line, run_of}
use Rattle.text_lines.proofs.Results.{bind_ok, at_ok, and_ok, given_same, moved}
use Rattle.text_lines.proofs.Runs.{one_first}
use Rattle.text_lines.specs.declared.reasons.TextWhy.{TextWhy}
use Rattle.text_lines.specs.declared.reasons.TextFault.{TextFault}
use Rattle.text_lines.specs.declared.reasons.TextRefused.{TextRefused}
use Rattle.text_lines.specs.declared.reasons.TextRefused.TheVariants as refusals
use Rattle.slave_desc.specs.declared.descriptions.SlaveDesc.{SlaveDesc}
use Rattle.scenario_text.specs.Said.{scenario_of, blocks, head_said, slaves_said, scenario_said}
use Rattle.scenario_text.specs.Machine.{closes, reader_at_start, take_scenario_line, scenario_finished}
use Rattle.text_lines.specs.Causes.{bad}
use Rattle.scenario_text.specs.Judging.{scenario_why_at, why_end_of}
use Rattle.text_lines.specs.Readings.{FirstBad, ReadsOrRefused, NeverReadsAndRefused, OneValue, OneFault}
use Rattle.scenario_text.specs.Reads.{ReadsAsScenario}
use Rattle.scenario_text.specs.Grammar.{AreSlaveBlocks}
use Rattle.scenario_text.proofs.Groups.{all_said}
use Rattle.scenario_text.proofs.Kept.{text_gives}
use Rattle.scenario_text.proofs.Grammatical.{grammatical}
use Rattle.scenario_text.proofs.Equal.{passes, says_all}
use Rattle.scenario_text.proofs.Stands.{Stands, closes_bad, closes_after, lined}
use Rattle.scenario_text.proofs.Moves.{line_moves, starts}
use Rattle.scenario_text.proofs.Judged.{at_next, at_end, first_bad}
use Rattle.scenario_text.specs.declared.heads.HeadItem.{HeadItem}
use Rattle.scenario_text.specs.declared.collected.Links.{Links}
use Rattle.scenario_text.specs.declared.readers.Reader.{Reader}
use Rattle.scenario.specs.declared.scenarios.Scenario.{Scenario}

-- nothing is wrong up to the end, and the scenario is what the lines say
abbrev IsRead : List (List ℕ) → Scenario → Type 0
IsRead ls s = ((n : ℕ) → n < length ls + 1 + 1 → 0 < n → scenario_why_at ls n ≡ None) × (s ≡ scenario_said ls) × AreSlaveBlocks (blocks ls) s.slaves

pub end_said : (ls : List (List ℕ)) (r : Reader) (s : Scenario) → Stands ls r → scenario_finished r ≡ Ok s → (why_end_of ls ≡ None) × (s ≡ scenario_said ls) × AreSlaveBlocks (blocks ls) s.slaves
end_said ls r s h e =
    let c = bind_ok (closes r true 2) (λ q. Ok (scenario_of q.head q.slaves q.links)) s e in
    let after = closes_after ls r h true 2 c.0 c.1 in (
      closes_bad ls r h true 2 (λ _. refl) ∙ ap bad c.1,
      sym (given_same (scenario_of c.0.head c.0.slaves c.0.links) s c.2)
          ∙ ap (λ (l : List HeadItem). scenario_of l c.0.slaves c.0.links) (after.head ∙ h.head)
          ∙ ap (λ (l : List SlaveDesc). scenario_of (head_said ls) l c.0.links) (sym (all_said (blocks ls) c.0.slaves (after.shut refl).0))
          ∙ ap (λ (l : Links). scenario_of (head_said ls) (slaves_said ls) l) (after.links ∙ h.links),
      moved (λ (s : Scenario). AreSlaveBlocks (blocks ls) s.slaves) (scenario_of c.0.head c.0.slaves c.0.links) s c.2 (after.shut refl).0,
    )

run_said : (done rest : List (List ℕ)) (r : Reader) (s : Scenario) → Stands done r → ((n : ℕ) → n < length done + 1 → 0 < n → scenario_why_at (done ++ rest) n ≡ None) → run_of take_scenario_line scenario_finished (length done + 1) r rest ≡ Ok s → IsRead (done ++ rest) s
run_said done [] r s h earlier e =
    let t = end_said done r s h (at_ok (length done + 1) (scenario_finished r) s e) in
    subst (λ (l : List (List ℕ)). IsRead l s) (sym (append-nil done))
    (below_more (λ n. 0 < n → scenario_why_at done n ≡ None) (length done + 1) (subst (λ (l : List (List ℕ)). (n : ℕ) → n < length done + 1 → 0 < n → scenario_why_at l n ≡ None) (append-nil done) earlier) (λ _. at_end done ∙ t.0), t.1, t.2)
run_said done (line ∷ rest) r s h earlier e =
    let t = and_ok (at_line (length done + 1) (take_scenario_line r line)) (λ t. run_of take_scenario_line scenario_finished (length done + 1 + 1) t rest) s e in
    let took = at_ok (length done + 1) (take_scenario_line r line) t.0 t.1 in
    let longer : length done + 1 ≡ length (done ++ line ∷ []) = omega (arith, length-append done (line ∷ [])) in
    let same = append_assoc done (line ∷ []) rest in
    let here : scenario_why_at (done ++ line ∷ rest) (length done + 1) ≡ None = at_next done line rest ∙ lined done r h line ∙ ap bad took in
    let more : (n : ℕ) → n < length done + 1 + 1 → 0 < n → scenario_why_at (done ++ line ∷ rest) n ≡ None = below_more (λ n. 0 < n → scenario_why_at (done ++ line ∷ rest) n ≡ None) (length done + 1) earlier (λ _. here) in
    subst (λ (l : List (List ℕ)). IsRead l s) same
    (run_said (done ++ line ∷ []) rest t.0 s (line_moves done r t.0 line h took)
    (subst (λ (l : List (List ℕ)). (n : ℕ) → n < length (done ++ line ∷ []) + 1 → 0 < n → scenario_why_at l n ≡ None) (sym same) (subst (λ (k : ℕ). (n : ℕ) → n < k + 1 → 0 < n → scenario_why_at (done ++ line ∷ rest) n ≡ None) longer more))
    (subst (λ (n : ℕ). run_of take_scenario_line scenario_finished (n + 1) t.0 rest ≡ Ok s) longer t.2))

pub reads : (text : List ℕ) (s : Scenario) → run_of take_scenario_line scenario_finished 1 reader_at_start (lines text) ≡ Ok s → ReadsAsScenario text s
reads text s e =
    let t = run_said [] (lines text) reader_at_start s starts (λ n below some. absurd (omega arith)) e in
    grammatical (lines text) (λ n some below. t.0 n (omega arith) some) s t.2 (text_gives (lines text) s e) t.1

pub never_both : NeverReadsAndRefused ReadsAsScenario scenario_why_at
never_both text s line why r b = let none = passes (lines text) s r b.place b.counted.0 b.counted.1 in let here = b.here in cc

pub one_value : OneValue ReadsAsScenario
one_value text a b r s = says_all (lines text) a r ∙ sym (says_all (lines text) b s)

pub one_fault : OneFault scenario_why_at
one_fault text m n v w a b = one_first scenario_why_at (lines text) m n v w a b

abbrev meant : List ℕ → Result Scenario TextFault
meant text = run_of take_scenario_line scenario_finished 1 reader_at_start (lines text)

pub answered_ok : (text : List ℕ) (r : Result Scenario TextRefused) → GivesText r (meant text) → IfOk r (λ s. ReadsAsScenario text s)
answered_ok text (Ok s) e = reads text s e
answered_ok text (Err f) e = tt

pub answered_only : (text : List ℕ) (r : Result Scenario TextRefused) → GivesText r (meant text) → (s : Scenario) → ReadsAsScenario text s → GivesText r (Ok s)
answered_only text (Ok a) e s read = ap Ok (one_value text s a read (reads text a e))
answered_only text (Err refusals.OutOfMemory) e s read = tt
answered_only text (Err (refusals.Fault f)) e s read = absurd (never_both text s f.line f.why read (first_bad text f e))

by_answer : (text : List ℕ) (r : Result Scenario TextFault) → meant text ≡ r → ((s : Scenario) × ReadsAsScenario text s) ⊎ ((line : ℕ) × (why : TextWhy) × FirstBad scenario_why_at text line why)
by_answer text (Ok s) e = inl (s, reads text s e)
by_answer text (Err f) e = inr (f.line, f.why, first_bad text f e)

pub either : ReadsOrRefused ReadsAsScenario scenario_why_at
either text = by_answer text (meant text) refl
