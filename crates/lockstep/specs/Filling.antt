-- How far a row is filled, and how far the rows go.
use Rattle.std.specs.Prelude.{◌≡◌, ℕ, ◌+◌, ◌-◌, ◌<◌, ◌≤◌, List, [], drop, length, ◌++◌, All, Result, Ok, Err, slice_get, Some, ℤ}
use Rattle.fixed_models.specs.Domains.{IsInput}
use Rattle.slave_desc.specs.declared.descriptions.SlaveDesc.{SlaveDesc}
use Rattle.scenario.specs.declared.scenarios.Scenario.{Scenario}
use Rattle.scenario.specs.Totals.{total_outputs}
use Rattle.lockstep.specs.declared.parts.Part.{Part}
use Rattle.lockstep.specs.declared.halts.Halt.{Halt}
use Rattle.lockstep.specs.declared.halts.Halt.TheVariants as halts
use Rattle.lockstep.specs.declared.references.RefFault.{RefFault}
use Rattle.lockstep.specs.Cut.{Grid}
use Rattle.lockstep.specs.Lockstep.{row, row_from, EachRow, EndsAt}
use Rattle.lockstep.specs.Parts.{PartStandsAt}

-- what the first slaves show, before what the others show
abbrev pub behind : List ℤ → Result (List ℤ) RefFault → Result (List ℤ) RefFault
behind vs (Ok ws) = Ok (vs ++ ws)
behind vs (Err fault) = Err fault

-- the first slaves stand at step k, the others still at the step before it, and the row holds what the first ones show
pub record Filled (sc : Scenario) (rows : List (List ℤ)) (r k i : ℕ) (parts : List Part) (row' : List ℤ) : Type 0 where
  pub count : length parts ≡ length sc.slaves
  pub done : (j : ℕ) (d : SlaveDesc) (p : Part) → j < i → slice_get sc.slaves j ≡ Some d → slice_get parts j ≡ Some p → PartStandsAt sc rows r k (j + 1) d p
  pub still : (j : ℕ) (d : SlaveDesc) (p : Part) → i ≤ j → slice_get sc.slaves j ≡ Some d → slice_get parts j ≡ Some p → PartStandsAt sc rows r (k - 1) (j + 1) d p
  pub rest : row sc rows r k ≡ behind row' (row_from sc rows r k (i + 1) (drop i sc.slaves))

-- the first rows of a scenario, with no row begun behind them
pub record SoFar (sc : Scenario) (n : ℕ) (g : Grid) : Type 0 where
  pub width : g.width ≡ total_outputs sc.slaves
  pub begun : g.begun ≡ []
  pub count : length g.rows ≡ n
  pub values : All (λ row. All IsInput row) g.rows
  pub each : EachRow sc g.rows

-- the rows before the first fault
pub record StoppedGrid (sc : Scenario) (g : Grid) (fault : RefFault) : Type 0 where
  pub each : EachRow sc g.rows
  pub ends : EndsAt sc g.rows fault

abbrev pub StoppedBy : Scenario → Grid → Halt → Type 0
StoppedBy sc g halts.OutOfMemory = Unit {0}
StoppedBy sc g (halts.Fault fault) = StoppedGrid sc g fault
