-- Where the stages of a schedule lie.
use Rattle.std.proofs.Common.{◌≡◌, ℕ, suc, ◌+◌, ◌-◌, ◌*◌, ◌<◌, ◌≤◌, Bool, true, false, ◌&&◌, Some, refl, ap, subst, arith}
use Rattle.std.specs.Prelude.{nat_lt, nat_le, if◌then◌else◌}
use Rattle.std.proofs.lemmas.Bool.{and_parts, leb-true, ltb-true}
use Rattle.std.proofs.lemmas.Bool.Decides.{nat_tests}
use Rattle.std.proofs.Math.Nat.{mul-le-mul_right, suc-mul}
use Rattle.lockstep.specs.Lockstep.{row_index}
use Rattle.master_spec.specs.Tasks.{task_row}
use Rattle.master_core.specs.declared.stages.Part.{Part}
use Rattle.master_core.specs.declared.stages.Part.TheVariants as parts
use Rattle.master_core.specs.declared.stages.Stage.{Stage}
use Rattle.master_core.specs.Stages.{part_task, part_row, next_in, is_part_within, IsWithin}

step_within : (steps k : ℕ) → (nat_le 1 k && nat_le k steps) ≡ true → (1 ≤ k) × (k ≤ steps)
step_within steps k e = let p = and_parts (nat_le 1 k) (nat_le k steps) e in (leb-true 1 k p.0, leb-true k steps p.1)

-- the step of a stage is one of those of its run
pub within_is : (steps runs run : ℕ) (part : Part) → is_part_within steps runs run part ≡ true → IsWithin steps part
within_is steps runs run (parts.Step k) e = step_within steps k e
within_is steps runs run (parts.Outputs k) e = step_within steps k e
within_is steps runs run parts.Register e = tt
within_is steps runs run parts.Setup e = tt
within_is steps runs run parts.Prepare e = tt
within_is steps runs run parts.Configure e = tt
within_is steps runs run parts.Initialize e = tt
within_is steps runs run parts.FirstOutputs e = tt
within_is steps runs run parts.Run e = tt
within_is steps runs run parts.Stop e = tt
within_is steps runs run parts.Reset e = tt
within_is steps runs run parts.Adjust e = tt
within_is steps runs run parts.Deregister e = tt

pub row_task : (steps uuid run : ℕ) (part : Part) → task_row (part_task steps uuid run part) ≡ part_row steps run part
row_task steps uuid run (parts.Step k) = refl
row_task steps uuid run (parts.Outputs k) = refl
row_task steps uuid run parts.Register = refl
row_task steps uuid run parts.Setup = refl
row_task steps uuid run parts.Prepare = refl
row_task steps uuid run parts.Configure = refl
row_task steps uuid run parts.Initialize = refl
row_task steps uuid run parts.FirstOutputs = refl
row_task steps uuid run parts.Run = refl
row_task steps uuid run parts.Stop = refl
row_task steps uuid run parts.Reset = refl
row_task steps uuid run parts.Adjust = refl
row_task steps uuid run parts.Deregister = refl

place_below : (steps runs run k : ℕ) → 1 ≤ run → run ≤ runs → k ≤ steps → row_index steps run k < runs * (steps + 1)
place_below steps runs run k low high h =
    let whole : (run - 1 + 1) * (steps + 1) ≤ runs * (steps + 1) = mul-le-mul_right (steps + 1) (omega (arith, low, high)) in
    let one : suc (run - 1) * (steps + 1) ≡ (run - 1) * (steps + 1) + (steps + 1) = suc-mul (run - 1) (steps + 1) in
    let same : (run - 1 + 1) * (steps + 1) ≡ suc (run - 1) * (steps + 1) = ap (λ n. n * (steps + 1)) (omega arith) in
    omega (arith, whole, one, same, h)

some_row : (a b n : ℕ) → Some a ≡ Some b → a < n → b < n
some_row a b n e h = let s : a ≡ b = cc in omega (arith, s, h)

-- a row is one of those of all runs
pub row_below : (steps runs run : ℕ) (part : Part) (row : ℕ) → 1 ≤ run → run ≤ runs → is_part_within steps runs run part ≡ true → part_row steps run part ≡ Some row → row < runs * (steps + 1)
row_below steps runs run parts.FirstOutputs row low high w e = some_row _ row (runs * (steps + 1)) e (place_below steps runs run 0 low high (omega arith))
row_below steps runs run (parts.Outputs k) row low high w e = some_row _ row (runs * (steps + 1)) e (place_below steps runs run k low high (step_within steps k w).1)
row_below steps runs run (parts.Step k) row low high w e = absurd (cc)
row_below steps runs run parts.Register row low high w e = absurd (cc)
row_below steps runs run parts.Setup row low high w e = absurd (cc)
row_below steps runs run parts.Prepare row low high w e = absurd (cc)
row_below steps runs run parts.Configure row low high w e = absurd (cc)
row_below steps runs run parts.Initialize row low high w e = absurd (cc)
row_below steps runs run parts.Run row low high w e = absurd (cc)
row_below steps runs run parts.Stop row low high w e = absurd (cc)
row_below steps runs run parts.Reset row low high w e = absurd (cc)
row_below steps runs run parts.Adjust row low high w e = absurd (cc)
row_below steps runs run parts.Deregister row low high w e = absurd (cc)

-- ---- the next stage

pub record IsInside (steps runs : ℕ) (stage : Stage) : Type 0 where
  pub first : 1 ≤ stage.run
  pub last : stage.run ≤ runs
  pub within : is_part_within steps runs stage.run stage.part ≡ true

inside : (steps runs run : ℕ) (part : Part) (stage : Stage) → 1 ≤ run → run ≤ runs → is_part_within steps runs run part ≡ true → Some (record { run = run; part = part }) ≡ Some stage → IsInside steps runs stage
inside steps runs run part stage low high w e =
    let s : record { run = run; part = part } ≡ stage = cc in
    subst (λ (x : Stage). IsInside steps runs x) s (record { first = low; last = high; within = w })

step_after : (steps runs run k : ℕ) (stage : Stage) (b : Bool) → nat_lt k steps ≡ b → 1 ≤ run → run ≤ runs → Some (record { run = run; part = if b then parts.Step (k + 1) else parts.Stop }) ≡ Some stage → IsInside steps runs stage
step_after steps runs run k stage true t low high e =
    let h : k < steps = ltb-true k steps t in
    let w : (nat_le 1 (k + 1) && nat_le (k + 1) steps) ≡ true = grind (arith, nat_tests, h) in
    inside steps runs run (parts.Step (k + 1)) stage low high w e
step_after steps runs run k stage false t low high e = inside steps runs run parts.Stop stage low high refl e

stop_after : (steps runs run : ℕ) (stage : Stage) (b : Bool) → nat_lt run runs ≡ b → 1 ≤ run → run ≤ runs → Some (record { run = run; part = if b then parts.Reset else parts.Deregister }) ≡ Some stage → IsInside steps runs stage
stop_after steps runs run stage true t low high e = inside steps runs run parts.Reset stage low high t e
stop_after steps runs run stage false t low high e = inside steps runs run parts.Deregister stage low high refl e

pub next_inside : (steps runs run : ℕ) (part : Part) (stage : Stage) → 1 ≤ run → run ≤ runs → is_part_within steps runs run part ≡ true → next_in steps runs run part ≡ Some stage → IsInside steps runs stage
next_inside steps runs run parts.Register stage low high w e = inside steps runs run parts.Setup stage low high refl e
next_inside steps runs run parts.Setup stage low high w e = inside steps runs run parts.Prepare stage low high refl e
next_inside steps runs run parts.Prepare stage low high w e = inside steps runs run parts.Configure stage low high refl e
next_inside steps runs run parts.Configure stage low high w e = inside steps runs run parts.Initialize stage low high refl e
next_inside steps runs run parts.Initialize stage low high w e = inside steps runs run parts.FirstOutputs stage low high refl e
next_inside steps runs run parts.FirstOutputs stage low high w e = inside steps runs run parts.Run stage low high refl e
next_inside steps runs run parts.Run stage low high w e = step_after steps runs run 0 stage (nat_lt 0 steps) refl low high e
next_inside steps runs run (parts.Step k) stage low high w e = inside steps runs run (parts.Outputs k) stage low high w e
next_inside steps runs run (parts.Outputs k) stage low high w e = step_after steps runs run k stage (nat_lt k steps) refl low high e
next_inside steps runs run parts.Stop stage low high w e = stop_after steps runs run stage (nat_lt run runs) refl low high e
next_inside steps runs run parts.Reset stage low high w e = inside steps runs run parts.Adjust stage low high w e
next_inside steps runs run parts.Adjust stage low high w e = let h : run < runs = ltb-true run runs w in inside steps runs (run + 1) parts.Prepare stage (omega arith) (omega (arith, h)) refl e
next_inside steps runs run parts.Deregister stage low high w e = absurd (cc)
