-- The ends after an entry of one of them.
use Rattle.std.proofs.Common.{◌≡◌, ℕ, ◌+◌, ◌<◌, List, [], ◌∷◌, ◌++◌, length, map, take, set, get_or, true, false, Option, None, Some, IfSome, suc, ap, ◌∙◌, arith, append_assoc}
use Rattle.std.proofs.Math.ListN.{get_or-map}
use Rattle.std.proofs.lemmas.Bool.Decides.{nat_tests}
use Rattle.std.proofs.lemmas.List.{append-nil, length-map}
use Rattle.std.proofs.lemmas.List.Elements.{All-cons, All-map}
use Rattle.std.specs.List.{All}
use Rattle.std.specs.Option.{option_map}
use Rattle.dcp_types.specs.declared.addresses.Address.{Address}
use Rattle.dcp_ends.specs.declared.entries.LogEntry.{LogEntry}
use Rattle.dcp_ends.specs.declared.ends.End.{Ghosts}
use Rattle.dcp_ends.specs.Events.{Event, Send, Rules}
use Rattle.dcp_ends.specs.Logs.{events_at, same_address, sent_by}
use Rattle.rounds.specs.Rounds.{hosted}
use Rattle.rounds.specs.Told.{Apart, Follows, IsTold}
use Rattle.rounds.proofs.Hosted.{Apart-rest, slaves_told}
use Rattle.rounds.proofs.Others.{All-visited, IsTold-silent, Silent, other_places}
use Rattle.replays.specs.Visits.{AreAt, HasFirst, event_in, place_in, visit_sends}
use Rattle.replays.proofs.Steps.{step_events, step_own, step_silent}

-- ---- addresses

address : ℕ → ℕ → Address
address ip port = record { ip = ip; port = port }

pub same_is_one : (a b : Address) → same_address a b ≡ true → a ≡ b
unfolding address
same_is_one a b h =
    let ip : a.ip ≡ b.ip = grind (arith, nat_tests) in
    let port : a.port ≡ b.port = grind (arith, nat_tests) in
    ap (λ (x : ℕ). address x a.port) ip ∙ ap (address b.ip) port

-- ---- one end

module _ {E : Type 0} (stands : E → List Event → Type 0) (r : Rules) (log : List LogEntry) (entry : LogEntry) (is : place_in entry ≡ Some r.place) (old new : E)
    (told : IsTold stands r old log) (moved : (events : List Event) → stands old events → stands new (events ++ event_in entry)) where
  pub step_told : (gone : List Send) → gone ++ [] ≡ visit_sends r (events_at r.place log) entry → IsTold stands r new (log ++ entry ∷ sent_by r.place gone)
  step_told gone all =
      let own = step_own r log entry is told.follows gone [] all in
      record { stands_for = rw (step_events r log entry is gone) (moved _ told.stands_for); follows = rw append-nil at own }

-- ---- all of them

module _ {M S : Type 0} (first : Ghosts M) (end : Ghosts S) where
  pub all_follow : (master : Option M) (slaves : List S) (log : List LogEntry) → AreAt first end master slaves log → All (λ q. Follows q log) (hosted (option_map first.rules master) (map end.rules slaves))
  all_follow None slaves log at = All-map (λ q. Follows q log) end.rules slaves (λ k d lt. (at.told_slaves k d lt).follows)
  all_follow (Some m) slaves log at =
      All-cons (λ q. Follows q log) (first.rules m) (map end.rules slaves) at.told_master.follows (All-map (λ q. Follows q log) end.rules slaves (λ k d lt. (at.told_slaves k d lt).follows))

  -- the entries from one place on: an entry, and behind it all sends of its end
  module _ (slaves : List S) (log : List LogEntry) (entry : LogEntry) (entries : List LogEntry) (at next : ℕ) (front : take (at + 1) entries ≡ log ++ entry ∷ []) where
    longer : (place : Address) (sends : List Send) (goes : HasFirst place sends [] entries (at + 1) next) → take next entries ≡ log ++ entry ∷ sent_by place goes.gone
    longer place sends goes = goes.there ∙ ap (λ l. l ++ sent_by place goes.gone) front ∙ append_assoc log (entry ∷ []) (sent_by place goes.gone)

    -- the master's
    module _ (m new : M) (is : place_in entry ≡ Some (first.rules m).place) (ends : AreAt first end (Some m) slaves log) (apart : Apart (first.rules m ∷ map end.rules slaves))
        (same : first.rules new ≡ first.rules m) (moved : (events : List Event) → first.stands m events → first.stands new (events ++ event_in entry)) (quiet : first.outs new ≡ [])
        (goes : HasFirst (first.rules m).place (visit_sends (first.rules m) (events_at (first.rules m).place log) entry) [] entries (at + 1) next) where
      pub master_moved : AreAt first end (Some new) slaves (take next entries)
      master_moved =
          let part = entry ∷ sent_by (first.rules m).place goes.gone in
          rw (longer _ _ goes) (record {
            told_master = rw same (step_told first.stands (first.rules m) log entry is m new ends.told_master moved goes.gone goes.split);
            told_slaves = slaves_told end.stands end.rules slaves log (λ a p. (b : Address) → same_address b a ≡ false → Silent b p) (λ a b other p form. form a other) (Some (first.rules m)) part apart
                (λ b other. step_silent (first.rules m) entry is b other goes.gone) ends.told_slaves;
            quiet_master = quiet;
            quiet_slaves = ends.quiet_slaves;
          })

    -- a slave's
    module _ (i : ℕ) (w new : S) (here : i < length slaves) (is : place_in entry ≡ Some (end.rules (get_or slaves i w)).place)
        (same : end.rules new ≡ end.rules (get_or slaves i w)) (moved : (events : List Event) → end.stands (get_or slaves i w) events → end.stands new (events ++ event_in entry)) (quiet : end.outs new ≡ [])
        (goes : HasFirst (end.rules (get_or slaves i w)).place (visit_sends (end.rules (get_or slaves i w)) (events_at (end.rules (get_or slaves i w)).place log) entry) [] entries (at + 1) next) where
      abbrev r : Rules
      r = end.rules (get_or slaves i w)

      abbrev part : List LogEntry
      part = entry ∷ sent_by r.place goes.gone

      master_kept : (master : Option M) → Apart (hosted (option_map first.rules master) (map end.rules slaves)) → IfSome master (λ m. IsTold first.stands (first.rules m) m log)
          → IfSome master (λ m. IsTold first.stands (first.rules m) m (log ++ part))
      master_kept None apart told = tt
      master_kept (Some m) apart told =
          let d = first.rules m in
          let far : same_address (first.rules m).place (get_or (map end.rules slaves) i (end.rules w)).place ≡ false = apart 0 (suc i) (end.rules w) (omega arith) (rw length-map (omega arith)) (omega arith) in
          IsTold-silent first.stands (first.rules m) m log part (step_silent r entry is (first.rules m).place (rw (get_or-map end.rules slaves i w) at far) goes.gone) told

      pub slave_moved : (master : Option M) → Apart (hosted (option_map first.rules master) (map end.rules slaves)) → AreAt first end master slaves log → AreAt first end master (set slaves i new) (take next entries)
      slave_moved master apart ends =
          rw (longer _ _ goes) (record {
            told_master = master_kept master apart ends.told_master;
            told_slaves = All-visited end.rules slaves i w new here (λ s. IsTold end.stands (end.rules s) s log) (λ s. IsTold end.stands (end.rules s) s (log ++ part))
                (rw same (step_told end.stands r log entry is (get_or slaves i w) new (ends.told_slaves i w here) moved goes.gone goes.split))
                (λ k d lt ne before. IsTold-silent end.stands _ _ log part (step_silent r entry is _ (other_places end.rules slaves i w new here (Apart-rest (option_map first.rules master) (map end.rules slaves) apart) k d lt ne) goes.gone) before)
                ends.told_slaves;
            quiet_master = ends.quiet_master;
            quiet_slaves = All-visited end.rules slaves i w new here (λ s. end.outs s ≡ []) (λ s. end.outs s ≡ []) quiet (λ k d lt ne before. before) ends.quiet_slaves;
          })
