-- A slave that has stepped has what sets it up for its run.
use Rattle.std.proofs.Common.{◌≡◌, ℕ, ◌+◌, ◌-◌, ◌*◌, ◌/◌, ◌%◌, ◌<◌, ◌≤◌, true, ◌⊎◌, inl, inr, List, sym, ap, ◌∙◌, subst, arith}
use Rattle.std.proofs.lemmas.Nat.{div-add-mod', mod-mul-add}
use Rattle.dcp_ends.specs.declared.entries.LogEntry.{LogEntry}
use Rattle.log_spec.specs.Log.{Parties, IsSlaveOf}
use Rattle.lockstep_laws.specs.Steps.{place_after, run_after, BenchProgress, view, Bench}
use Rattle.lockstep_laws.specs.Cast.{ConversingSlaves}
use Rattle.lockstep_laws.specs.Runs.{AreSlaves, Behaves}
use Rattle.lockstep_laws.proofs.Local.{Counts}
use Rattle.lockstep_laws.proofs.Places.{fits}
use Rattle.lockstep_laws.proofs.Asking.{asked_in_order}
use Rattle.lockstep_laws.specs.Models.Machines.{Machines, Begun, AreMachines}
use Rattle.lockstep_laws.proofs.Models.Exists.{run_of_place}

-- no run begins where a step of it was taken
not_first : (d a n done : ℕ) → done / 2 ≡ a * (d + 1) + n → 0 < n → n ≤ d → done % (2 * (d + 1)) ≡ 0 → ⊥
not_first d a n done is pos le z =
    let q = done / (2 * (d + 1)) in
    let whole = div-add-mod' done (2 * (d + 1)) in
    let twice : q * (2 * (d + 1)) ≡ q * (d + 1) + q * (d + 1) = omega arith in
    let half : done / 2 ≡ q * (d + 1) + 0 = omega (arith, whole, z, twice) in
    let zero' = ap (λ k. k % (d + 1)) half ∙ mod-mul-add q (d + 1) 0 (omega arith) in
    let rest = ap (λ k. k % (d + 1)) is ∙ mod-mul-add a (d + 1) n (omega (arith, le)) in
    omega (arith, zero', rest, pos)

-- the event before is of the same run
same_run : (d a n events done : ℕ) → events / 2 ≡ a * (d + 1) + n → 0 < n → n ≤ d → (events ≡ done) ⊎ (events ≡ done + 1) → run_after d done ≡ a + 1
same_run d a n events done is pos le (inl e) = ap (λ k. k + 1) (run_of_place d a n (done / 2) (ap (λ k. k / 2) (sym e) ∙ is) le).0
same_run d a n events done is pos le (inr e) = by (near (done / 2) (events / 2) (omega (arith, e)) (omega (arith, e)))
  where
    near : (p q : ℕ) → p ≤ q → q ≤ p + 1 → (p ≡ q) ⊎ (q ≡ p + 1)
    near p q h k = grind (arith, h, k)

    by : (done / 2 ≡ events / 2) ⊎ (events / 2 ≡ done / 2 + 1) → run_after d done ≡ a + 1
    by (inl h) = ap (λ k. k + 1) (run_of_place d a n (done / 2) (h ∙ is) le).0
    by (inr h) = ap (λ k. k + 1) (run_of_place d a (n - 1) (done / 2) (omega (arith, h, is, pos)) (omega (arith, le))).0

begun_by : (d a n : ℕ) (v : BenchProgress) (b : Bench) → place_after b.events ≡ a * (d + 1) + n → 0 < n → n ≤ d → Counts d v b → Begun d v × ((b.events ≡ v.done) ⊎ (b.events ≡ v.done + 1))
begun_by d a n v b is pos le (inl c) = (inr (λ z. not_first d a n v.done (ap (λ k. k / 2) (sym c.2) ∙ is) pos le z), inl c.2)
begun_by d a n v b is pos le (inr (inl c)) = (inl c.0, inl c.2)
begun_by d a n v b is pos le (inr (inr (inl c))) = (inl c.0, inr c.2)
begun_by d a n v b is pos le (inr (inr (inr c))) = (inl c.0, inl c.2)

pub stepped_tuned : (w : Parties) (x : ConversingSlaves) (ok : AreSlaves w x) (m : Machines) → AreMachines w x m → (log : List LogEntry) → Behaves w x log → (s : ℕ) → IsSlaveOf w s → 0 < (x.bench s log).steps → m.tuned s ((x.bench s log).resets + 1) (x.desk s log).served ≡ true
stepped_tuned w x ok m are log b s is pos =
    let f = fits w x ok log b s is in
    let c = x.bench s log in
    let v = view (x.desk s log).served in
    let g = begun_by x.steps c.resets c.steps v c f.placed.is pos f.placed.most f.counts in
    let run = same_run x.steps c.resets c.steps c.events v.done f.placed.is pos f.placed.most g.1 in
    let P : ℕ → Type 0 = λ r. x.opened s r (x.desk s log).served ≡ true in
    (are.course s is).tuned (c.resets + 1) (x.desk s log).served (subst P run ((are.course s is).begun (x.desk s log).served (asked_in_order w x ok s is log b) g.0))
