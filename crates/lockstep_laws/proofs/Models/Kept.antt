-- What is kept is what was sent under its ordinal.
use Rattle.std.proofs.Common.{◌≡◌, ℕ, zero, suc, ◌+◌, ◌*◌, ◌/◌, ◌%◌, ◌<◌, ◌≤◌, ◌⊎◌, inl, inr, Option, Some, None, List, [], ◌∷◌, refl, sym, ap, ◌∙◌, subst, arith}
use Rattle.std.specs.Prelude.{◌==◌}
use Rattle.std.proofs.lemmas.Bool.{cond-true, cases_lt, eq-eqb}
use Rattle.dcp_types.specs.declared.addresses.Address.{Address}
use Rattle.log_spec.specs.Messages.{Note, Value}
use Rattle.log_spec.specs.Channel.{at_ordinal}
use Rattle.dcp_ends.specs.declared.entries.LogEntry.{LogEntry}
use Rattle.log_spec.specs.Log.{Parties, IsSlaveOf, Values, in_channel, sent_in, sends_in, values_sent}
use Rattle.log_spec.specs.Moves.{Move, Asks, Comes, Tells, Hears, Brings, Turns, Rests, Other, move}
use Rattle.log_spec.proofs.Channel.{IsAt, kept_by}
use Rattle.log_spec.proofs.Moves.{Came, MoveMay, honest_move, comes_in}
use Rattle.lockstep_laws.specs.Slaves.{Post}
use Rattle.lockstep_laws.specs.Steps.{Bench, shown_after}
use Rattle.lockstep_laws.specs.Cast.{ConversingSlaves}
use Rattle.lockstep_laws.specs.Runs.{AreSlaves, Behaves}
use Rattle.lockstep_laws.proofs.Conversation.{earlier}
use Rattle.lockstep_laws.proofs.Places.{fits, events_together}
use Rattle.lockstep_laws.specs.Models.Ordinals.{ordinals_below}
use Rattle.lockstep_laws.specs.Models.Machines.{KeptNote, Store, Machines, ordinal_here, KeepsIt, Keeps, AreMachines}
use Rattle.lockstep_laws.proofs.Models.EachQth.{ordinal_is, sent, unsent, count_next}
use Rattle.lockstep_laws.proofs.Models.Values.{OwesValue, in_order, sends_values}

-- as many ordinals are below the rows shown as the one that is wanted, or one more
near_wanted : (steps q a n rows : ℕ) → 0 < q → n ≤ steps → a * (steps + 1) + n ≤ rows → rows ≤ a * (steps + 1) + n + 1 → let here = a * (steps / q + 1) + n / q in (ordinals_below steps q rows ≡ here) ⊎ (ordinals_below steps q rows ≡ here + 1)
near_wanted steps q a n rows pos le h k = by (cases_lt (a * (steps + 1) + n) rows)
  where
    at_place : (r : ℕ) → r ≡ n % q → (ordinals_below steps q (a * (steps + 1) + n) ≡ a * (steps / q + 1) + n / q) ⊎ (ordinals_below steps q (a * (steps + 1) + n) ≡ a * (steps / q + 1) + n / q + 1)
    at_place zero z = inl (sent steps q a n pos le (sym z))
    at_place (suc r) z = inr (unsent steps q a n pos le (λ (e : n % q ≡ 0). absurd (clash (z ∙ e))))
      where
        clash : suc r ≡ 0 → ⊥
        clash e = omega (arith, e)

    by : (a * (steps + 1) + n < rows) ⊎ (rows ≤ a * (steps + 1) + n) → (ordinals_below steps q rows ≡ a * (steps / q + 1) + n / q) ⊎ (ordinals_below steps q rows ≡ a * (steps / q + 1) + n / q + 1)
    by (inl lt) =
        let e : rows ≡ a * (steps + 1) + n + 1 = omega (arith, lt, k) in
        inr (ap (ordinals_below steps q) e ∙ count_next steps q (a * (steps + 1) + n) ∙ ap (λ j. j + 1) (ordinal_is steps q a n pos le))
    by (inr ge) =
        let e : rows ≡ a * (steps + 1) + n = omega (arith, ge, h) in
        let P : ℕ → Type 0 = λ r. (ordinals_below steps q r ≡ a * (steps / q + 1) + n / q) ⊎ (ordinals_below steps q r ≡ a * (steps / q + 1) + n / q + 1) in
        subst P (sym e) (at_place (n % q) refl)

-- a data message whose number is wanted is the one that is wanted
pub wanted_is : (n : Note) (sent' owed : List Note) (many here : ℕ) → IsAt sent' n → n.number ≡ here % 65536 → OwesValue owed sent' many → (many ≡ here) ⊎ (many ≡ here + 1) → at_ordinal sent' here ≡ Some n
wanted_is n sent' owed many here i num o w = grind arith

near : (m n : ℕ) → m ≤ n + 1 → n ≤ m + 1 → (m / 2 ≤ (n + 1) / 2) × ((n + 1) / 2 ≤ m / 2 + 1)
near m n h k = (omega (arith, h, k), omega (arith, h, k))

module _ (w : Parties) (x : ConversingSlaves) (ok : AreSlaves w x) (m : Machines) (are : AreMachines w x m) where
  arrives : (log : List LogEntry) → Behaves w x log → (s : ℕ) → IsSlaveOf w s → (from : Address) (id : ℕ) (n : Note) → IsSlaveOf w (m.from id) → Came w log (w.slave s) from (Value id n) → n.number ≡ ordinal_here x m id (x.bench s log) % 65536
      → at_ordinal (values_sent w id log) (ordinal_here x m id (x.bench s log)) ≡ Some n
  arrives log b s is from id n own came num =
      let a = m.from id in
      let v = sends_values w x ok m are id own log b in
      let here : in_channel w (Values id) from (w.slave s) (Value id n) ≡ Some n = cond-true (id == id) (Some n) None (eq-eqb id id refl) in
      let i = comes_in w (Values id) log (w.slave s) from (Value id n) n here v.regular came in
      let p = (fits w x ok log b s is).placed in
      let t = near (x.bench s log).events (x.bench a log).events (events_together w x ok log b s a is own) (events_together w x ok log b a s own is) in
      let c = x.bench s log in
      wanted_is n (values_sent w id log) _ (ordinals_below x.steps (m.q id) (shown_after (x.bench a log).events)) (ordinal_here x m id c) i num v.owes
      (near_wanted x.steps (m.q id) c.resets c.steps (shown_after (x.bench a log).events) (are.q id) p.most (omega (arith, p.is, t.0)) (omega (arith, p.is, t.1)))

  abbrev pub KeptRight : List LogEntry → ℕ → Store → Type 0
  KeptRight log id u = (k : KeptNote) → u.kept id ≡ Some k → at_ordinal (values_sent w id log) k.ordinal ≡ Some k.note

  same_kept : (log : List LogEntry) (id : ℕ) (u v : Store) → v.kept id ≡ u.kept id → KeptRight log id u → KeptRight log id v
  same_kept log id u v e h k q = h k (sym e ∙ q)

  none_kept : (log : List LogEntry) (id : ℕ) (u v : Store) → (v.kept id ≡ u.kept id) ⊎ (v.kept id ≡ None) → KeptRight log id u → KeptRight log id v
  none_kept log id u v (inl e) h k q = same_kept log id u v e h k q
  none_kept log id u v (inr e) h k q = absurd cc

  new_kept : (log : List LogEntry) (id : ℕ) (v : Store) (k : KeptNote) → v.kept id ≡ Some k → at_ordinal (values_sent w id log) k.ordinal ≡ Some k.note → KeptRight log id v
  new_kept log id v k e at j q =
      let same : k ≡ j = one k j (v.kept id) e q in
      let P : KeptNote → Type 0 = λ i. at_ordinal (values_sent w id log) i.ordinal ≡ Some i.note in
      subst P same at
    where
      one : (k j : KeptNote) (o : Option KeptNote) → o ≡ Some k → o ≡ Some j → k ≡ j
      one k j o e q = cc

  kept_step : (log : List LogEntry) → Behaves w x log → (s : ℕ) → IsSlaveOf w s → (id : ℕ) → IsSlaveOf w (m.from id) → (mv : Move) → MoveMay w s log mv → (c : Bench) (v : Store) (posts : List Post) → Keeps w x m s mv (x.bench s log) c (m.store s log) v posts → KeptRight log id (m.store s log) → KeptRight log id v
  kept_step log b s is id own (Asks n) may c v posts k h = same_kept log id (m.store s log) v (ap (λ z. z.kept id) k) h
  kept_step log b s is id own (Comes from receiver n) may c v posts k h = none_kept log id (m.store s log) v (k.1 id) h
  kept_step log b s is id own (Tells to bytes) may c v posts k h = same_kept log id (m.store s log) v (ap (λ z. z.kept id) k) h
  kept_step log b s is id own (Hears n) may c v posts k h = same_kept log id (m.store s log) v (ap (λ z. z.kept id) k) h
  kept_step log b s is id own (Brings from j n) may c v posts k h = by (k.1 id)
    where
      by : (v.kept id ≡ (m.store s log).kept id) ⊎ ((id ≡ j) × KeepsIt x m j n (x.bench s log) v) → KeptRight log id v
      by (inl e) = same_kept log id (m.store s log) v e h
      by (inr p) =
          let P : ℕ → Type 0 = λ i. IsSlaveOf w (m.from i) in
          let at = arrives log b s is from j n (subst P p.0 own) may p.1.number in
          let Q : ℕ → Type 0 = λ i. KeptRight log i v in
          subst Q (sym p.0) (new_kept log j v (record { ordinal = ordinal_here x m j (x.bench s log); note = n }) p.1.kept at)
  kept_step log b s is id own Turns may c v posts k h = same_kept log id (m.store s log) v (k.kept id) h
  kept_step log b s is id own Rests may c v posts k h = same_kept log id (m.store s log) v (k.1 id) h
  kept_step log b s is id own Other may c v posts k h = same_kept log id (m.store s log) v (ap (λ z. z.kept id) k) h

  pub kept_as_sent : (log : List LogEntry) → Behaves w x log → (s : ℕ) → IsSlaveOf w s → (id : ℕ) → IsSlaveOf w (m.from id) → KeptRight log id (m.store s log)
  kept_as_sent [] b s is id own k e = absurd (clash ((are.holds s is).begins id))
    where
      clash : (m.store s []).kept id ≡ None → ⊥
      clash z = cc
  kept_as_sent (e ∷ log) b s is id own k q =
      let before = earlier w x ok e log b in
      let g = (are.holds s is).goes e log (in_order w x ok m are (e ∷ log) b s is) in
      let now = kept_step log before s is id own (move w s e) (honest_move w s log e b.honest.0) (x.bench s (e ∷ log)) (m.store s (e ∷ log)) (x.desk s (e ∷ log)).owed g (kept_as_sent log before s is id own) k q in
      kept_by (sent_in w (Values id) e) (sends_in w (Values id) log) k.ordinal k.note now
