-- The phases in which the steps of a run are done, and their outputs sent.
use Rattle.std.specs.Prelude.{ℕ, ◌+◌, ◌-◌, ◌*◌, ◌==◌, if◌then◌else◌}

-- the phase in which slaves are initialized for a run, or do a step of it
abbrev pub phase_of_step : (steps run step : ℕ) → ℕ
phase_of_step steps run step = (run - 1) * (8 + 2 * steps) + (if step == 0 then 5 else 6 + 2 * step)

-- the phase in which the outputs after step k of run r are sent; step 0 stands for the first outputs
abbrev pub outputs_phase : (steps r k : ℕ) → ℕ
outputs_phase steps r k = (r - 1) * (8 + 2 * steps) + (if k == 0 then 6 else 7 + 2 * k)
