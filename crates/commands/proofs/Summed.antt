-- Rows that are a front of a reference's have their sum exactly.
use Rattle.std.proofs.Common.{◌≡◌, ℕ, ◌+◌, ◌*◌, ◌<◌, ◌≤◌, Bool, true, false, Option, Some, None, Ok, List, [], ◌∷◌, ◌++◌, length, take, get_or, refl, sym, ap, ◌∙◌, arith}
use Rattle.std.specs.Prelude.{ℤ, All, ◌||◌, nat_lt}
use Rattle.std.proofs.lemmas.Bool.{ltb-false}
use Rattle.std.proofs.lemmas.List.{length-append, take_at}
use Rattle.std.proofs.lemmas.List.Elements.{All-from_get_or, All-same, All-take, All-weaker}
use Rattle.std.proofs.lemmas.Nat.{mul-le}
use Rattle.dcp_ends.specs.declared.entries.LogEntry.{LogEntry}
use Rattle.fixed_models.specs.Domains.{IsInput}
use Rattle.slave_desc.specs.declared.descriptions.SlaveDesc.{SlaveDesc}
use Rattle.scenario.specs.declared.scenarios.Scenario.{Scenario}
use Rattle.scenario.specs.Sound.{IsScenario}
use Rattle.scenario.specs.Totals.{total_outputs}
use Rattle.lockstep.specs.declared.references.RefFault.{RefFault}
use Rattle.lockstep.specs.Lockstep.{Ends, IsMoment, IsReference, row, row_index}
use Rattle.lockstep.proofs.Existence.{moment_at, place_at, run_at, step_at, within_all}
use Rattle.lockstep.proofs.Filled.{row_is}
use Rattle.master_spec.specs.declared.reports.Report.{Report}
use Rattle.soaks.specs.Sums.{AreSummable, IsWord, sum_of_rows, whole_sum}
use Rattle.soaks.proofs.Exact.{count_of_values, exact}
use Rattle.commands.specs.InStep.{SumsInStep}

second_false : (a b : Bool) → (a || b) ≡ false → b ≡ false
second_false false b e = e
second_false true b e = absurd cc

some_slave : (ds : List SlaveDesc) → 1 ≤ length ds → SlaveDesc
some_slave [] h = absurd (omega (arith, h))
some_slave (d ∷ ds) h = d

module _ (sc : Scenario) (sound : IsScenario sc) (rows : List (List ℤ)) (fault : Option RefFault) (reference : IsReference sc rows fault) where
  -- there is no more than a row for each step of each run
  few_rows : length rows ≤ sc.runs * (sc.steps + 1)
  few_rows = within fault reference.ends
    where
      within : (end : Option RefFault) → Ends sc rows end → length rows ≤ sc.runs * (sc.steps + 1)
      within None h = omega (arith, h)
      within (Some f) h = let lt = within_all sc f.run f.step h.moment in omega (arith, h.behind, lt)

  -- a value for each output, each of 64 bits
  IsWide : List ℤ → Type 0
  IsWide values = (length values ≡ total_outputs sc.slaves) × All IsInput values

  row_at : (i : ℕ) → i < length rows → IsWide (get_or rows i [])
  unfolding IsWide
  row_at i lt =
      let r = run_at sc i in
      let k = step_at sc i in
      let place : row_index sc.steps r k ≡ i = place_at sc i in
      let moment : IsMoment sc r k = moment_at sc i (omega (arith, lt, few_rows)) in
      let here : row sc rows r k ≡ Ok (get_or rows i []) = rw place at (reference.each r k moment (omega (arith, place, lt))) in
      row_is sc rows r k (get_or rows i []) here

  summable : (summed rest : List (List ℤ)) → rows ≡ summed ++ rest → AreSummable summed
  unfolding IsWide
  summable summed rest front =
      let width = total_outputs sc.slaves in
      let n = length summed in
      let moments = sc.runs * (sc.steps + 1) in
      let own : take n rows ≡ summed = ap (λ (l : List (List ℤ)). take n l) front ∙ take_at summed rest n refl in
      let wide : All IsWide summed = All-same IsWide summed (take n rows) (sym own) (All-take IsWide n rows (All-from_get_or IsWide rows [] row_at)) in
      let few : n ≤ moments = omega (arith, few_rows, ap (λ (l : List (List ℤ)). length l) front, length-append summed rest) in
      let count = count_of_values width summed (All-weaker IsWide (λ values. length values ≡ width) (λ values h. h.0) summed wide) in
      let most : n * width ≤ moments * width = mul-le n width moments width few (omega arith) in
      let values = width * ((sc.steps + 1) * sc.runs) in
      let small : values ≤ 1000000 = ltb-false 1000000 values (second_false (nat_lt 200000 (length sc.slaves * (sc.steps * sc.runs))) (nat_lt 1000000 values) sound.small) in
      let turned : moments * width ≡ values = grind arith in
      let words : (values : List ℤ) → IsWide values → All IsWord values =
      λ values h. All-weaker IsInput IsWord (λ value input. record { low = input.low; high = input.high }) values h.1 in
      record { words = All-weaker IsWide (λ values. All IsWord values) words summed wide; few = omega (arith, count, most, small, turned) }

-- of a run in step the sum of 128 bits is the whole number
pub sum_is_whole : (sc : Scenario) → IsScenario sc → (log : List LogEntry) (report : Report) (summed : List (List ℤ)) → ((other : SlaveDesc) → SumsInStep sc other log report summed)
    → sum_of_rows summed ≡ whole_sum summed
sum_is_whole sc sound log report summed in_step =
    let step = in_step (some_slave sc.slaves sound.few_slaves.0) in
    exact summed (summable sc sound step.keeps.rows step.keeps.fault step.keeps.reference summed step.sums.rest step.sums.front)
