-- The row events of a slave only grow.
use Rattle.std.proofs.Common.{◌≡◌, ℕ, ◌≤◌, inl, inr, List, [], ◌∷◌, ◌++◌, ap, arith}
use Rattle.dcp_ends.specs.declared.entries.LogEntry.{LogEntry}
use Rattle.slave_desc.specs.declared.descriptions.SlaveDesc.{SlaveDesc}
use Rattle.scenario.specs.declared.scenarios.Scenario.{Scenario}
use Rattle.scenario.specs.Sound.{IsScenario}
use Rattle.log_spec.specs.Log.{Parties, IsSlaveOf, DecidedRequest}
use Rattle.log_spec.specs.Moves.{Move, Asks, Comes, Tells, Hears, Brings, Turns, Rests, Other, move}
use Rattle.lockstep_laws.specs.Steps.{Bench, Idles, TakesOn, HasTurn, Told, Begins, Does, Rested, Nothing, told_of}
use Rattle.lockstep_laws.specs.Works.{Works}
use Rattle.lockstep_laws.specs.Cast.{ConversingSlaves}
use Rattle.lockstep_laws.specs.Runs.{Behaves}
use Rattle.lockstep_laws.proofs.Conversation.{earlier}
use Rattle.slave_laws.specs.Data.Whole.{slaves_asked}
use Rattle.run_laws.specs.Laws.{parties}
use Rattle.run_laws.proofs.Headline.Behaving.{are_slaves}

taking : (t : Told) (b c : Bench) → TakesOn t b c → b.events ≤ c.events
taking (Begins k) b c h = let z = h.events in omega (arith, z)
taking Does b c h = let z = h.events in omega (arith, z)
taking Rested b c h = let z = (h.idles).events in omega (arith, z)
taking Nothing b c h = let z = h.events in omega (arith, z)

turning : (b c : Bench) → HasTurn b c → b.events ≤ c.events
turning b c (inl h) = let z = h.events in omega (arith, z)
turning b c (inr (inl h)) = let z = h.events in omega (arith, z)
turning b c (inr (inr (inl h))) = let z = h.events in omega (arith, z)
turning b c (inr (inr (inr h))) = let z = h.events in omega (arith, z)

same : (b c : Bench) → c ≡ b → b.events ≤ c.events
same b c e = let z = ap (λ (x : Bench). x.events) e in omega (arith, z)

idle : (b c : Bench) → Idles b c → b.events ≤ c.events
idle b c h = let z = h.events in omega (arith, z)

works : (mv : Move) (es es' : List DecidedRequest) (b c : Bench) → Works mv es es' b c → b.events ≤ c.events
works (Asks n) es es' b c h = same b c h
works (Comes from receiver n) es es' b c (inl h) = idle b c h.1
works (Comes from receiver n) es es' b c (inr h) = taking (told_of h.0) b c h.2
works (Tells to bytes) es es' b c h = same b c h
works (Hears n) es es' b c h = same b c h
works (Brings from id n) es es' b c h = idle b c h
works Turns es es' b c h = turning b c h
works Rests es es' b c h = idle b c h
works Other es es' b c h = same b c h

module _ (sc : Scenario) (other : SlaveDesc) (ok : IsScenario sc) (s : ℕ) (it : IsSlaveOf (parties sc other) s) where
  abbrev W : Parties
  W = parties sc other

  abbrev X : ConversingSlaves
  X = slaves_asked sc other

  pub events_grow : (more log : List LogEntry) → Behaves W X (more ++ log) → (X.bench s log).events ≤ (X.bench s (more ++ log)).events
  events_grow [] log b = omega arith
  events_grow (e ∷ more) log b =
      let a = events_grow more log (earlier W X (are_slaves sc other ok) e (more ++ log) b) in
      let may = (b.slaves s it).0 in
      let c = works (move W s e) (X.desk s (more ++ log)).served (X.desk s (e ∷ (more ++ log))).served (X.bench s (more ++ log)) (X.bench s (e ∷ (more ++ log))) (((are_slaves sc other ok).works s it).goes e (more ++ log) may) in
      omega (arith, a, c)
