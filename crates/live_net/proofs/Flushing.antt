-- Connections that are written to one after another.
use Rattle.std.proofs.Common.{◌≡◌, ◌≢◌, refl, ℕ, ◌+◌, ◌<◌, ◌≤◌, List, length, get_or, set, arith, below_more, get_or-set_other, get_or-set_same}
use Rattle.live_net.specs.declared.departures.Outward.{Outward}
use Rattle.live_net.specs.Departures.{FlushesOutward}

-- so many from the front on were written to, and the others stand as they were
pub record IsFlushedTo (i : ℕ) (old now : List Outward) : Type 0 where
  pub written : (k : ℕ) → k < i → (d : Outward) → FlushesOutward (get_or old k d) (get_or now k d)
  pub rest : (k : ℕ) (d : Outward) → i ≤ k → get_or now k d ≡ get_or old k d

pub none_flushed : (old : List Outward) → IsFlushedTo 0 old old
none_flushed old = record {
  written = λ k h. absurd (omega (arith, h));
  rest = λ k d h. refl;
}

pub one_more_flushed : (i : ℕ) (old now : List Outward) (after : Outward) → i < length now → IsFlushedTo i old now
    → ((d : Outward) → FlushesOutward (get_or now i d) after) → IsFlushedTo (i + 1) old (set now i after)
one_more_flushed i old now after here before flushed = record {
  written = below_more (λ k. (d : Outward) → FlushesOutward (get_or old k d) (get_or (set now i after) k d)) i
      (λ k h d. let ne : k ≢ i = omega (arith, h) in rw get_or-set_other (before.written k h d))
      (λ d. rw (get_or-set_same, ← before.rest i d (omega arith)) (flushed d));
  rest = λ k d h. let ne : k ≢ i = omega (arith, h) in rw get_or-set_other (before.rest k d (omega (arith, h)));
}
