-- The network, the master and the slaves of a scenario are those that the laws over a run speak of.
use Rattle.std.proofs.Common.{◌≡◌, ℕ, true, ◌⊎◌, inl, inr, Option, Some, None, List, [], ◌∷◌, reverse, refl, sym, ◌∙◌, subst}
use Rattle.pdu_layout.specs.Reading.{message_in}
use Rattle.dcp_ends.specs.declared.entries.LogEntry.{LogEntry}
use Rattle.slave_desc.specs.declared.descriptions.SlaveDesc.{SlaveDesc}
use Rattle.scenario.specs.declared.scenarios.Scenario.{Scenario}
use Rattle.scenario.specs.Sound.{IsScenario}
use Rattle.log_spec.specs.Messages.{Note}
use Rattle.log_spec.specs.Channel.{Repeats}
use Rattle.log_spec.specs.Log.{Parties, IsSlaveOf, requests_sent}
use Rattle.log_spec.specs.Moves.{Move, Asks, Comes, Tells, Hears, Brings, Turns, Rests, Other, move, decided_exchanges}
use Rattle.log_spec.proofs.Turned.{honest_newest}
use Rattle.lockstep_laws.specs.Cast.{ConversingSlaves}
use Rattle.lockstep_laws.specs.Steps.{RowEvent, event_asked, run_after, view}
use Rattle.lockstep_laws.specs.Master.{IsLeast, IsNewRequest, MasterMay, MasterConverses}
use Rattle.lockstep_laws.specs.Runs.{AreSlaves}
use Rattle.master_log_laws.specs.Index.Runs.{IsRun}
use Rattle.master_log_laws.proofs.Index.ByEntry.{entry_by_entry}
use Rattle.master_spec.specs.Setup.{setup_from, slave_of}
use Rattle.master_log_laws.proofs.Scenarios.Heard.{setups_heard}
use Rattle.slave_laws.proofs.Talk.Sending.{are_lawful}
use Rattle.plan_laws.specs.Course.Courses.{opened}
use Rattle.plan_laws.specs.Course.Orders.{may_ask}
use Rattle.lockstep_laws.specs.Models.Scenarios.{slave_numbered}
use Rattle.lockstep_laws.proofs.Models.Scenarios.{has_parties}
use Rattle.master_laws.specs.Meets.Laws.{IsParty, IsNextRequest, MayAsk}
use Rattle.master_laws.proofs.Meets.Asking as asking
use Rattle.master_laws.proofs.Meets.Only.{only_requests}
use Rattle.master_laws.specs.Barrier.Laws.{IsLeastDone}
use Rattle.master_laws.proofs.Barrier.Waiting.{events_wait}
use Rattle.master_laws.proofs.PlanOrder.Following.{requests_follow, slaves_opened}
use Rattle.slave_laws.specs.Data.Whole.{slaves_asked}
use Rattle.run_laws.specs.Laws.{parties, slave_setup_of}
use Rattle.run_laws.proofs.Followed.{slave_runs}
use Rattle.run_laws.proofs.Runs.{party, are_parties, accepts_it}
use Rattle.run_laws.specs.Headline.Laws.{AllBehave}

module _ (sc : Scenario) (other : SlaveDesc) (ok : IsScenario sc) where
  abbrev w : Parties
  w = parties sc other

  abbrev x : ConversingSlaves
  x = slaves_asked sc other

  -- ---- a request that is asked for the first time
  module _ (s : ℕ) (is : IsSlaveOf w s) (e : LogEntry) (log : List LogEntry) (run : IsRun (setup_from sc) (e ∷ log)) (n : Note) (asks : move w s e ≡ Asks n) where
    abbrev Again : Type 0
    Again = Repeats (requests_sent w s log) n

    -- a row event waits for all slaves
    least : (k : RowEvent) → event_asked n ≡ Some k → Again ⊎ IsLeast w x s k log
    least k q = by (events_wait (setup_from sc) (setups_heard sc ok).heard w (are_parties sc other ok) e log run s is (slave_of sc s (slave_numbered sc other s)) (party sc other ok s is) n k asks q) (slaves_opened sc (setups_heard sc ok).heard w (are_parties sc other ok) e log run s is (slave_numbered sc other s) (party sc other ok s is) n k asks q)
      where
        by : Again ⊎ IsLeastDone (setup_from sc) w s k log
            → Again ⊎ ((t : ℕ) → IsSlaveOf w t → (c : SlaveDesc) → IsParty (setup_from sc) w t (slave_of sc t c) → opened sc t c (run_after sc.steps (view (decided_exchanges w s log)).done) (decided_exchanges w t log) ≡ true)
            → Again ⊎ IsLeast w x s k log
        by (inl again) o = inl again
        by (inr d) (inl again) = inl again
        by (inr d) (inr o) = inr (record { free = d.free; next = d.next; least = d.least; opened = λ t it. o t it (slave_numbered sc other t) (party sc other ok t it); within = d.within })

    barrier : (o : Option RowEvent) → event_asked n ≡ o → Again ⊎ ((k : RowEvent) → event_asked n ≡ Some k → IsLeast w x s k log)
    barrier None q = inr (λ k r. absurd (none k (sym q ∙ r)))
      where
        none : (k : RowEvent) → None ≡ Some k → ⊥
        none k h = cc
    barrier (Some k) q = by (least k q)
      where
        by : Again ⊎ IsLeast w x s k log → Again ⊎ ((l : RowEvent) → event_asked n ≡ Some l → IsLeast w x s l log)
        by (inl again) = inl again
        by (inr h) = inr (λ l r. (let z : k ≡ l = same l (sym q ∙ r) in let P : RowEvent → Type 0 = λ j. IsLeast w x s j log in subst P z h))
          where
            same : (l : RowEvent) → Some k ≡ Some l → k ≡ l
            same l h = cc

    -- the first request is the register that the slave accepts
    accepted : IsNextRequest w s (slave_numbered sc other s).uuid n log → requests_sent w s log ≡ [] → x.accepts s n ≡ true
    accepted next none =
        let P : Note → Type 0 = λ z. x.accepts s z ≡ true in
        subst P (sym (next.first none)) (accepts_it (slave_setup_of sc other s) s)

    is_new : IsNextRequest w s (slave_numbered sc other s).uuid n log → Again ⊎ IsNewRequest w x s n log
    is_new next = by (requests_follow sc (setups_heard sc ok).heard w (are_parties sc other ok) e log run s is (slave_numbered sc other s) (party sc other ok s is) n asks) (barrier (event_asked n) refl)
      where
        by : Again ⊎ (may_ask sc s (slave_numbered sc other s) (decided_exchanges w s log) n ≡ true) → Again ⊎ ((k : RowEvent) → event_asked n ≡ Some k → IsLeast w x s k log) → Again ⊎ IsNewRequest w x s n log
        by (inl again) b = inl again
        by (inr m) (inl again) = inl again
        by (inr m) (inr b) = inr (record { closed = next.closed; number = next.number; first = accepted next; may = m; barrier = b })

  -- ---- every entry
  may : (s : ℕ) → IsSlaveOf w s → (e : LogEntry) (log : List LogEntry) → IsRun (setup_from sc) (e ∷ log) → MasterMay w x s (move w s e) log
  may s is e log run = by (move w s e) refl (asking.may_ask (setup_from sc) (setups_heard sc ok).heard w (are_parties sc other ok) s is (slave_of sc s (slave_numbered sc other s)) (party sc other ok s is) e log run)
    where
      by : (mv : Move) → move w s e ≡ mv → MayAsk w s (slave_numbered sc other s).uuid mv log → MasterMay w x s mv log
      by (Asks n) q (inl again) = inl again
      by (Asks n) q (inr next) = is_new s is e log run n q next
      by (Comes from receiver n) q h = tt
      by (Tells to bytes) q h = tt
      by (Hears n) q h = tt
      by (Brings from id n) q h = tt
      by Turns q h = tt
      by Rests q h = tt
      by Other q h = tt

  converses : (log : List LogEntry) → IsRun (setup_from sc) log → MasterConverses w x log
  converses [] run = tt
  converses (e ∷ log) run = (λ s is. may s is e log run, converses log run.1)

pub all_behave : AllBehave
all_behave sc other ok log r =
    let run = entry_by_entry sc log r.master in
    record {
      honest = honest_newest (parties sc other) log r.honest;
      hosted = r.hosted;
      master = converses sc other ok (reverse log) run;
      asks = only_requests (setup_from sc) (setups_heard sc ok).heard (parties sc other) (are_parties sc other ok) (reverse log) run;
      slaves = λ s is. slave_runs (slave_setup_of sc other s) (parties sc other) s is (has_parties sc other ok message_in).apart refl log (r.slaves s is) (r.rests s is);
    }

pub are_slaves : (sc : Scenario) (other : SlaveDesc) → IsScenario sc → AreSlaves (parties sc other) (slaves_asked sc other)
are_slaves sc other ok =
    are_lawful (parties sc other) (slave_setup_of sc other) sc.steps sc.runs (λ s. may_ask sc s (slave_numbered sc other s)) (λ s. opened sc s (slave_numbered sc other s)) (has_parties sc other ok message_in).apart (λ b. refl)
