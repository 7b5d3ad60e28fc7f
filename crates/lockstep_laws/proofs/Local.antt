-- What a slave's own exchanges tell of its events, whatever the network does.
use Rattle.std.proofs.Common.{◌≡◌, ℕ, ◌+◌, true, false, ◌⊎◌, Some, None, List, [], ◌∷◌, arith}
use Rattle.log_spec.specs.Log.{DecidedRequest}
use Rattle.lockstep_laws.specs.Steps.{Restart, Told, Begins, Does, Rested, Nothing, told_of, BenchProgress, events_counted, view_after, view, Bench, Idles, TakesOn, HasTurn, row_event_at}

-- each event that was begun is the one that came next
abbrev pub IsInTurn : (steps : ℕ) → Told → BenchProgress → Type 0
IsInTurn steps (Begins k) v = k ≡ row_event_at steps (events_counted v)
IsInTurn steps Does v = Restart ≡ row_event_at steps (events_counted v)
IsInTurn steps Rested v = Unit {0}
IsInTurn steps Nothing v = Unit {0}

abbrev pub InTurn : ℕ → List DecidedRequest → Type 0
InTurn steps [] = Unit {0}
InTurn steps (e ∷ es) = IsInTurn steps (told_of e) (view es) × InTurn steps es

-- none is under way and all are told; one is under way; one is done and not told yet; or one was under way when the slave failed
abbrev pub Counts : (steps : ℕ) → BenchProgress → Bench → Type 0
Counts steps v b =
    ((v.waiting ≡ false) × (b.busy ≡ None) × (b.events ≡ v.done))
    ⊎ (((v.waiting ≡ true) × (b.busy ≡ Some (row_event_at steps v.done)) × (b.events ≡ v.done) × (b.faulty ≡ false))
    ⊎ (((v.waiting ≡ true) × (b.busy ≡ None) × (b.events ≡ v.done + 1))
    ⊎ ((v.waiting ≡ true) × (b.busy ≡ None) × (b.events ≡ v.done) × (b.faulty ≡ true))))

pub takes_counts : (steps : ℕ) (t : Told) (v : BenchProgress) (b c : Bench) → IsInTurn steps t v → TakesOn t b c → Counts steps v b → Counts steps (view_after t v) c
takes_counts steps t v b c i h f = grind arith

pub turn_counts : (steps : ℕ) (v : BenchProgress) (b c : Bench) → HasTurn b c → Counts steps v b → Counts steps v c
turn_counts steps v b c h f = grind arith

pub idle_counts : (steps : ℕ) (v : BenchProgress) (b c : Bench) → Idles b c → Counts steps v b → Counts steps v c
idle_counts steps v b c h f = grind arith
