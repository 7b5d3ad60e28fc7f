-- What is answered in time is not without an answer.
use Rattle.std.proofs.Common.{◌≡◌, ℕ, ◌-◌, ◌≤◌, Bool, true, false, if◌then◌else◌, Option, Some, List, [], ◌∷◌, subst, arith}
use Rattle.std.specs.Prelude.{slice_get, IfSome, ◌&&◌, nat_lt}
use Rattle.dcp_ends.specs.declared.entries.LogEntry.{LogEntry}
use Rattle.master_spec.specs.declared.setups.Setup.{Setup}
use Rattle.master_spec.specs.Jobs.{Job}
use Rattle.master_spec.specs.Setup.{jobs_of}
use Rattle.master_spec.specs.Requests.{Asking, Decision, asks, acked, is_main, of_phase, phase_at, turns_before, turns_between}
use Rattle.master_spec.specs.Shown.{AreSpaced, last_sending}
use Rattle.completeness_laws.specs.Lacking.{TimelyLacksNoAnswer}

-- the newest request of a phase is the newest of all
pub newest_of_phase : (js : List Job) (p : ℕ) (asked : List Asking) (r : Asking) (earlier : List Asking) → of_phase js p asked ≡ r ∷ earlier → slice_get asked 0 ≡ Some r
newest_of_phase js p [] r earlier e = cc
newest_of_phase js p (a ∷ asked) r earlier e = by (is_main a && nat_lt (phase_at js (acked asked)) p) e
  where
    by : (b : Bool) → (if b then [] else a ∷ of_phase js p asked) ≡ r ∷ earlier → Some a ≡ Some r
    by true h = cc
    by false h = cc

-- repeats come later, each after a turn at least
module _ (setup : Setup) (log : List LogEntry) (one : 1 ≤ setup.limits.turn_limit) where
  abbrev before : ℕ → ℕ
  before i = turns_before setup.address log i

  pub not_earlier : (first : ℕ) (is : List ℕ) → AreSpaced setup log first is → before first ≤ before (last_sending first is)
  not_earlier first [] sp = omega arith
  not_earlier first (i ∷ []) sp = let e : before i - before first ≡ setup.limits.turn_limit = sp in omega (arith, e, one)
  not_earlier first (j ∷ i ∷ is) sp =
      let e : before j - before i ≡ setup.limits.turn_limit = sp.0 in
      let r : before first ≤ before i = not_earlier first (i ∷ is) sp.1 in
      omega (arith, e, r, one)

pub lacks_none : TimelyLacksNoAnswer
lacks_none setup log t slave is p q s =
    let u = s.shown.1 in
    let a = t.answers slave is 0 s.request (newest_of_phase (jobs_of setup slave) p (asks setup.address slave log) s.request s.earlier s.last.last) in
    let P : Option Decision → Type 0 = λ o. IfSome o (λ d. setup.limits.turn_limit ≤ turns_between setup.address log (last_sending s.request.first s.request.repeats) d.place) in
    let late : P (Some a.answer) = subst P a.told u.late in
    let one : 1 ≤ setup.limits.turn_limit = omega (arith, a.soon) in
    let order = not_earlier setup log one s.request.first s.request.repeats u.spaced in
    absurd (omega (arith, late, order, a.soon))
