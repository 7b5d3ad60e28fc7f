-- What chance does with a message that no line names.
use Rattle.std.specs.Prelude.{ℕ, zero, suc, ◌+◌, ◌*◌, ◌/◌, ◌%◌, ◌^◌, nat_lt, List, [], ◌∷◌, if◌then◌else◌, Option, None, Some}
use Rattle.scenario.specs.declared.net_plans.Chaos.{Chaos}

-- one step of the generator
abbrev pub generator_step : ℕ → ℕ
generator_step x = (x * 6364136223846793005 + 1442695040888963407) % 2 ^ 64

abbrev pub after_steps : ℕ → ℕ → ℕ
after_steps zero x = x
after_steps (suc n) x = generator_step (after_steps n x)

-- what is drawn where the generator stands at x
abbrev pub draw : ℕ → ℕ
draw x = x / 2 ^ 33

-- the message is held for this many more
abbrev pub held : Chaos → (c d : ℕ) → ℕ
held chaos c d = if nat_lt (c % 1000) chaos.hold then 1 + d % 3 else 0

-- by the four draws: how many more messages are sent before each delivery
abbrev pub lags_of_draws : Chaos → (a b c d : ℕ) → List ℕ
lags_of_draws chaos a b c d =
    if nat_lt (a % 1000) chaos.drop then [] else (held chaos c d ∷ (if nat_lt (b % 1000) chaos.repeat then (held chaos c d + 1 + d % 3) ∷ [] else []))

-- the same where the generator stands at x before the draws
abbrev pub lags_of_chaos : Chaos → ℕ → List ℕ
lags_of_chaos chaos x = lags_of_draws chaos (draw (generator_step x)) (draw (generator_step (generator_step x))) (draw (generator_step (generator_step (generator_step x)))) (draw (generator_step (generator_step (generator_step (generator_step x)))))

-- where the generator stands after so many messages, each of which takes four draws
abbrev pub generator_at : Option Chaos → ℕ → ℕ
generator_at None count = 0
generator_at (Some chaos) count = after_steps (4 * count) chaos.start

-- a message that neither line nor chance is for comes at once
abbrev pub lags_by_chance : Option Chaos → ℕ → List ℕ
lags_by_chance None x = 0 ∷ []
lags_by_chance (Some chaos) x = lags_of_chaos chaos x

-- where the generator stands after the draws of one more message
abbrev pub after_draws : Option Chaos → ℕ → ℕ
after_draws None x = x
after_draws (Some chaos) x = generator_step (generator_step (generator_step (generator_step x)))
