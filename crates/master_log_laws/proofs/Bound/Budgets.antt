-- How many turns a conversation may take, part by part.
use Rattle.std.proofs.Common.{◌≡◌, ℕ, ◌+◌, ◌*◌, ◌<◌, ◌≤◌, ap, ◌∙◌, arith, add-one}
use Rattle.std.proofs.Math.Nat.{suc-mul, mul-le-mul_right}
use Rattle.dcp_types.specs.declared.limits.Limits.{Limits}

-- how long a request may be open
abbrev pub patience : Limits → ℕ
patience l = l.tries * l.turn_limit

-- a step that is refused for want of inputs, and the wait before it is asked again
abbrev pub attempt : Limits → ℕ
attempt l = patience l + l.retry_turns

-- the last turn since the acknowledgement at which a question for the state begins
abbrev pub last_question : Limits → ℕ
last_question l = l.state_limit + patience l + l.watch_turns

-- from the acknowledgement on: the last question, and then the question for the fault or the outputs
abbrev pub settling : Limits → ℕ
settling l = last_question l + patience l + (patience l + l.data_turns)

-- once all are settled: what is open, and the question for the fault that may follow from it
abbrev pub closing : Limits → ℕ
closing l = patience l + patience l + 1

pub one_more : (k w : ℕ) → (k + 1) * w ≡ k * w + w
one_more k w = ap (λ (x : ℕ). x * w) (add-one k) ∙ suc-mul k w

-- a request is sent again when the limit has passed
pub again_more : (k limit x t : ℕ) → t ≡ k * limit + x → x < limit → limit ≤ x + 1 → t + 1 ≡ (k + 1) * limit + 0
again_more k limit x t e h g = let p = one_more k limit in omega (arith, e, h, g, p)

-- one try of several leaves room for itself
pub one_of : (k n w : ℕ) → k < n → k * w + w ≤ n * w
one_of k n w h =
    let f : k + 1 ≤ n = omega (arith, h) in
    let g : (k + 1) * w ≤ n * w = mul-le-mul_right w f in
    let p = one_more k w in
    omega (arith, g, p)
