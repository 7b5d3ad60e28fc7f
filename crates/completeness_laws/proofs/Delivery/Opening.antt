-- Before any slave begins the first row of a run, every slave told that it is initialized for it, and that stays known.
use Rattle.std.proofs.Common.{◌≡◌, ℕ, ◌+◌, ◌*◌, ◌/◌, ◌<◌, ◌≤◌, true, false, ◌⊎◌, inl, inr, List, [], ◌∷◌, ◌++◌, refl, sym, ap, ◌∙◌, subst, arith}
use Rattle.std.proofs.lemmas.Bool.{and_parts, cases_lt}
use Rattle.std.proofs.lemmas.Nat.{div-mul-add}
use Rattle.std.proofs.lemmas.List.{append_assoc}
use Rattle.dcp_ends.specs.declared.entries.LogEntry.{LogEntry}
use Rattle.slave_desc.specs.declared.descriptions.SlaveDesc.{SlaveDesc}
use Rattle.scenario.specs.declared.scenarios.Scenario.{Scenario}
use Rattle.scenario.specs.Sound.{IsScenario}
use Rattle.log_spec.specs.Log.{Parties, IsSlaveOf, requests_sent, DecidedRequest}
use Rattle.log_spec.specs.Moves.{decided_exchanges}
use Rattle.lockstep_laws.specs.Steps.{run_after, place_after, BenchProgress, view, Bench}
use Rattle.lockstep_laws.specs.Cast.{ConversingSlaves}
use Rattle.lockstep_laws.specs.Runs.{AreSlaves, Behaves}
use Rattle.lockstep_laws.proofs.Talk.{Behind}
use Rattle.lockstep_laws.proofs.Local.{Counts}
use Rattle.lockstep_laws.proofs.Conversation.{earlier, drop_later, known}
use Rattle.lockstep_laws.proofs.Barrier.{UnderWay, Leasts, Goes, goes, together}
use Rattle.lockstep_laws.proofs.Places.{fits, ahead}
use Rattle.lockstep_laws.specs.Models.Scenarios.{slave_numbered}
use Rattle.slave_spec.specs.declared.words.SlaveSetup.{SlaveSetup}
use Rattle.slave_laws.specs.Model.Tuned.{served_at}
use Rattle.slave_laws.proofs.Data.Held.{reads}
use Rattle.plan_laws.specs.Course.Taken.{told_since}
use Rattle.plan_laws.specs.Course.Courses.{tuned}
use Rattle.slave_laws.specs.Data.Whole.{slaves_asked}
use Rattle.run_laws.specs.Laws.{parties, slave_setup_of}
use Rattle.run_laws.proofs.Headline.Behaving.{are_slaves}
use Rattle.completeness_laws.proofs.Causes.History.{was_taken}
use Rattle.completeness_laws.proofs.Delivery.Holding.{ToldFrom, told_grows}
use Rattle.completeness_laws.proofs.Delivery.Ordinals.{run_least}

clash : true ≡ false → ⊥
clash z = cc

pub counts_least : (steps : ℕ) (v : BenchProgress) (b : Bench) → Counts steps v b → v.done ≤ b.events
counts_least steps v b c = grind arith

module _ (w : Parties) (x : ConversingSlaves) (ok : AreSlaves w x) (s : ℕ) (its : IsSlaveOf w s) (t : ℕ) (it : IsSlaveOf w t) (r : ℕ) where
  abbrev whole : ℕ
  whole = r * (x.steps + 1)

  abbrev done : List LogEntry → ℕ
  done log = (view (decided_exchanges w t log)).done

  -- slave t has begun the run after r resets
  abbrev HasBegun : List LogEntry → Type 0
  HasBegun log = (2 * whole + 1 ≤ done log) ⊎ ((2 * whole ≤ done log) × UnderWay (requests_sent w t log) (decided_exchanges w t log))

  pub record OpenedBefore (log : List LogEntry) : Type 0 where
    pub more : List LogEntry
    pub base : List LogEntry
    pub is : log ≡ more ++ base
    pub least : 2 * whole ≤ (view (decided_exchanges w s base)).done
    pub opened : x.opened s (r + 1) (decided_exchanges w s base) ≡ true

  later : (e : LogEntry) (log : List LogEntry) → OpenedBefore log → OpenedBefore (e ∷ log)
  later e log o = record { more = e ∷ o.more; base = o.base; is = ap (λ (z : List LogEntry). e ∷ z) o.is; least = o.least; opened = o.opened }

  run_is : (d : ℕ) → d ≡ 2 * whole → run_after x.steps d ≡ r + 1
  run_is d e =
      let h : place_after d ≡ r * (x.steps + 1) + 0 = omega (arith, e) in
      ap (λ (k : ℕ). k / (x.steps + 1) + 1) h ∙ ap (λ (k : ℕ). k + 1) (div-mul-add r (x.steps + 1) 0 (omega arith))

  at_least : (e : LogEntry) (log : List LogEntry) → done log ≡ 2 * whole → Leasts w x t log → OpenedBefore (e ∷ log)
  at_least e log d l =
      let k = l.1 in
      let P : ℕ → Type 0 = λ i. x.opened s i (decided_exchanges w s log) ≡ true in
      record { more = e ∷ []; base = log; is = refl; least = (let a = k.least s its in omega (arith, a, d)); opened = subst P (run_is (done log) d) (k.opened s its) }

  never_first : HasBegun [] → ⊥
  never_first (inl h) = omega (arith, h)
  never_first (inr (h, inl w)) = clash (sym w)
  never_first (inr (h, inr o)) = let a = o.one in omega (arith, a)

  pub opened_before : (log : List LogEntry) → Behaves w x log → HasBegun log → OpenedBefore log
  opened_before [] b h = absurd (never_first h)
  opened_before (e ∷ log) b h = by (λ k. later e log (opened_before log (earlier w x ok e log b) k)) h g.grows
    where
      g : Goes x.steps (Leasts w x t log) (requests_sent w t log) (decided_exchanges w t log) (requests_sent w t (e ∷ log)) (decided_exchanges w t (e ∷ log))
      g = goes w x ok e log b t it ((together w x ok log (earlier w x ok e log b)).alone t it)

      least : (HasBegun log → OpenedBefore (e ∷ log)) → 2 * whole ≤ done log → Leasts w x t log → OpenedBefore (e ∷ log)
      least f a l = two (cases_lt (2 * whole) (done log))
        where
          two : (2 * whole < done log) ⊎ (done log ≤ 2 * whole) → OpenedBefore (e ∷ log)
          two (inl lt) = f (inl (omega (arith, lt)))
          two (inr ge) = at_least e log (omega (arith, ge, a)) l

      by : (HasBegun log → OpenedBefore (e ∷ log)) → HasBegun (e ∷ log) → (done (e ∷ log) ≡ done log) ⊎ (UnderWay (requests_sent w t log) (decided_exchanges w t log) × (done (e ∷ log) ≡ done log + 1) × (UnderWay (requests_sent w t (e ∷ log)) (decided_exchanges w t (e ∷ log)) → ⊥)) → OpenedBefore (e ∷ log)
      by f (inl k) (inl same) = f (inl (omega (arith, k, same)))
      by f (inl k) (inr m) = f (inr (let one = m.1 in omega (arith, k, one), m.0))
      by f (inr k) (inr m) = absurd (m.2 k.1)
      by f (inr k) (inl same) = two (g.begins k.1)
        where
          two : UnderWay (requests_sent w t log) (decided_exchanges w t log) ⊎ Leasts w x t log → OpenedBefore (e ∷ log)
          two (inl u) = f (inr (let a = k.0 in omega (arith, a, same), u))
          two (inr l) = least f (let a = k.0 in omega (arith, a, same)) l

  pub has_begun : (log : List LogEntry) → Behaves w x log → 2 * whole + 1 ≤ (x.bench t log).events → HasBegun log
  has_begun log b h = by (ahead w x ok log b t it)
    where
      by : ((x.bench t log).events ≡ done log) ⊎ (((x.bench t log).events ≡ done log + 1) × UnderWay (requests_sent w t log) (decided_exchanges w t log)) → HasBegun log
      by (inl e) = inl (omega (arith, e, h))
      by (inr u) = inr (let e = u.0 in omega (arith, e, h), u.1)

-- ---- so it told that it is initialized
module _ (sc : Scenario) (other : SlaveDesc) (ok : IsScenario sc) (s : ℕ) (its : IsSlaveOf (parties sc other) s) (t : ℕ) (it : IsSlaveOf (parties sc other) t) (r : ℕ) where
  abbrev W : Parties
  W = parties sc other

  abbrev X : ConversingSlaves
  X = slaves_asked sc other

  abbrev S : SlaveSetup
  S = slave_setup_of sc other s

  abbrev Told : List LogEntry → Type 0
  Told log = ToldFrom S W s (reads sc other) r log

  pub told_from : (log : List LogEntry) → Behaves W X log → 2 * (r * (sc.steps + 1)) + 1 ≤ (X.bench t log).events → Told log
  told_from log b h = by (decided_exchanges W s o.base) refl told (known W X (are_slaves sc other ok) s its o.base behaves).talk.decided
    where
      o : OpenedBefore W X (are_slaves sc other ok) s its t it r log
      o = opened_before W X (are_slaves sc other ok) s its t it r log b (has_begun W X (are_slaves sc other ok) s its t it r log b h)

      behaves : Behaves W X o.base
      behaves = let P : List LogEntry → Type 0 = λ z. Behaves W X z in drop_later W X (are_slaves sc other ok) o.more o.base (subst P o.is b)

      told : told_since (decided_exchanges W s o.base) ≡ true
      told = (and_parts (tuned sc s (slave_numbered sc other s) (r + 1) (decided_exchanges W s o.base)) (told_since (decided_exchanges W s o.base)) o.opened).1

      after : (d : DecidedRequest) (ds more : List DecidedRequest) → decided_exchanges W s o.base ≡ d ∷ ds → told_since (d ∷ ds) ≡ true → served_at S W s o.base ≡ more ++ d ∷ ds → Told log
      after d ds more e k v =
          let Q : List LogEntry → Type 0 = λ z. Behaves W X z in
          let q = was_taken S W s (reads sc other) o.base more ds d v in
          let here : served_at S W s (q.entry ∷ q.earlier) ≡ d ∷ ds = q.takes_it.served ∙ ap (λ (z : DecidedRequest). z ∷ served_at S W s q.earlier) (sym q.exchange) ∙ ap (λ (zs : List DecidedRequest). d ∷ zs) q.before in
          let bq = drop_later W X (are_slaves sc other ok) q.later (q.entry ∷ q.earlier) (subst Q q.is behaves) in
          let f = fits W X (are_slaves sc other ok) (q.entry ∷ q.earlier) bq s its in
          let c = counts_least sc.steps (view (served_at S W s (q.entry ∷ q.earlier))) (X.bench s (q.entry ∷ q.earlier)) f.counts in
          let n : (view (served_at S W s (q.entry ∷ q.earlier))).done ≡ (view (decided_exchanges W s o.base)).done = ap (λ (zs : List DecidedRequest). (view zs).done) (here ∙ sym e) in
          let l = o.least in
          let is = f.placed.is in
          let most = f.placed.most in
          let least = run_least (sc.steps + 1) r (X.bench s (q.entry ∷ q.earlier)).resets 0 (X.bench s (q.entry ∷ q.earlier)).steps (omega (arith, most)) (omega (arith, c, n, l, is)) in
          let whole : log ≡ (o.more ++ q.later) ++ q.entry ∷ q.earlier = o.is ∙ ap (λ (z : List LogEntry). o.more ++ z) q.is ∙ sym (append_assoc o.more q.later (q.entry ∷ q.earlier)) in
          let P : List LogEntry → Type 0 = λ z. Told z in
          subst P (sym whole) (told_grows S W s (reads sc other) r (o.more ++ q.later) (q.entry ∷ q.earlier) (record { least = least; told = inl (ap told_since here ∙ k) }))

      by : (ds : List DecidedRequest) → decided_exchanges W s o.base ≡ ds → told_since (decided_exchanges W s o.base) ≡ true → Behind (decided_exchanges W s o.base) (served_at S W s o.base) → Told log
      by [] e k g = absurd (clash (sym k ∙ ap told_since e))
      by (d ∷ ds) e k (inl g) = after d ds [] e (sym (ap told_since e) ∙ k) (sym g ∙ e)
      by (d ∷ ds) e k (inr (y, g)) = after d ds (y ∷ []) e (sym (ap told_since e) ∙ k) (g ∙ ap (λ (zs : List DecidedRequest). y ∷ zs) e)
