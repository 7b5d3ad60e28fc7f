use Rattle.std.proofs.Common.{◌≡◌, ◌≤◌, ◌-◌, ◌+◌, List, ℤ, length, slice_get, Some, Ok, ap, subst, ◌∙◌, sym, refl, arith}
use Rattle.std.specs.Prelude.{All}
use Rattle.std.proofs.lemmas.Option.{slice_get_read}
use Rattle.fixed_models.specs.Domains.{IsInput}
use Rattle.slave_desc.specs.declared.descriptions.SlaveDesc.{SlaveDesc}
use Rattle.lockstep.specs.Parts.{PartStandsAt}
use Rattle.lockstep.proofs.Filled.{filled_none, filled_more, filled_all, same_rows, more_rows, shown_rows}
use Rattle.lockstep.proofs.filling.fill.Goals as goal
use Rattle.lockstep.proofs.filling.fill.Goals.{After-index-slaves-index}

pub loop-index-init : goal.loop-index-init
loop-index-init c = record {
  filled = filled_none c.args.scenario.now c.args.rows.now.rows c.args.at.run c.args.at.step c.args.parts.now.items c.args.rows.now.begun c.requires.begun c.requires.stand;
  kept = same_rows c.args.rows.now;
}

desc_at : (c : After-index-slaves-index) → slice_get c.args.scenario.now.slaves c.loop-index.index ≡ Some c.index-slaves-index.result
desc_at c =
    ap (λ (x : List SlaveDesc). slice_get x c.loop-index.index) (sym c.as_slice-slaves.ensures.items)
    ∙ slice_get_read c.as_slice-slaves.result.now (length c.as_slice-slaves.result.now) c.loop-index.index c.index-slaves-index.result refl (omega arith) c.index-slaves-index.is

pub serve-requires-clause-place : goal.serve-requires-clause-place
serve-requires-clause-place c = ap (λ (x : List (List ℤ)). length x) c.loop-index.invariant.kept.rows ∙ c.requires.place

pub serve-requires-clause-values : goal.serve-requires-clause-values
serve-requires-clause-values c = subst (λ (x : List (List ℤ)). All (λ row. All IsInput row) x) (sym c.loop-index.invariant.kept.rows) c.requires.values

pub serve-requires-clause-width : goal.serve-requires-clause-width
serve-requires-clause-width c = c.loop-index.invariant.kept.width ∙ c.requires.width

pub serve-requires-clause-stands : goal.serve-requires-clause-stands
serve-requires-clause-stands c =
    let at = desc_at (goal.at.serve-requires-clause-stands c).After-index-slaves-index in
    subst (λ (x : List (List ℤ)). PartStandsAt c.args.scenario.now x c.args.at.run (c.args.at.step - 1) (c.loop-index.index + 1) c.index-slaves-index.result c.index_mut-part.result.now) (sym c.loop-index.invariant.kept.rows)
    (c.loop-index.invariant.filled.still c.loop-index.index c.index-slaves-index.result c.index_mut-part.result.now (omega arith) at
    (slice_get_read c.loop-index.parts.items (length c.loop-index.parts.items) c.loop-index.index c.index_mut-part.result.now refl (omega (arith, c.loop-index.invariant.filled.count, ap (λ (x : List SlaveDesc). length x) c.as_slice-slaves.ensures.items)) c.index_mut-part.ensures.value))

pub loop-index-preserved : goal.loop-index-preserved
loop-index-preserved c =
    let at = desc_at (goal.at.loop-index-preserved c).After-index-slaves-index in
    let given = rw c.in-Ok-Ok.field-0-is at c.in-Ok-Ok.ensures.served in
    let rows = c.loop-index.invariant.kept.rows in
    let shows = shown_rows c.args.scenario.now c.args.rows.now.rows c.loop-index.rows.rows (c.loop-index.index + 1) c.index-slaves-index.result c.args.at.run c.args.at.step (Ok given.0) rows given.1 in
    let stands = subst (λ (x : List (List ℤ)). PartStandsAt c.args.scenario.now x c.args.at.run c.args.at.step (c.loop-index.index + 1) c.index-slaves-index.result c.serve.new.part) rows given.3 in
    record {
      filled =
          filled_more c.args.scenario.now c.args.rows.now.rows c.args.at.run c.args.at.step c.loop-index.index c.index-slaves-index.result c.loop-index.parts.items c.serve.new.part
          c.loop-index.rows.begun given.0 c.serve.new.rows.begun at c.loop-index.invariant.filled shows given.2 stands;
      kept = more_rows c.args.rows.now c.loop-index.rows c.serve.new.rows c.loop-index.invariant.kept c.serve.ensures.kept;
    }

pub returns-clause-row : goal.returns-clause-row
returns-clause-row c =
    let le : length c.args.scenario.now.slaves ≤ c.loop-index.index = omega (arith, ap (λ (x : List SlaveDesc). length x) c.as_slice-slaves.ensures.items) in
    (filled_all c.args.scenario.now c.args.rows.now.rows c.args.at.run c.args.at.step c.loop-index.index c.loop-index.parts.items c.loop-index.rows.begun le c.loop-index.invariant.filled).0

pub returns-clause-stand : goal.returns-clause-stand
returns-clause-stand c =
    let le : length c.args.scenario.now.slaves ≤ c.loop-index.index = omega (arith, ap (λ (x : List SlaveDesc). length x) c.as_slice-slaves.ensures.items) in
    (filled_all c.args.scenario.now c.args.rows.now.rows c.args.at.run c.args.at.step c.loop-index.index c.loop-index.parts.items c.loop-index.rows.begun le c.loop-index.invariant.filled).1
