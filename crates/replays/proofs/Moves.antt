-- One entry, whoever's it is: what follows for all ends.
use Rattle.std.proofs.Common.{◌≡◌, ℕ, ◌+◌, ◌<◌, List, ◌∷◌, ◌++◌, [], length, map, take, set, get_or, true, false, ◌||◌, Option, None, Some, Ok, Err, refl, sym, ap, subst, ◌∙◌, arith, suc, inl, inr}
use Rattle.std.proofs.Math.ListN.{get_or-map}
use Rattle.std.proofs.lemmas.List.{append-nil, get_or_default, length-map}
use Rattle.std.proofs.lemmas.Option.{slice_get_cases}
use Rattle.std.specs.List.{list_any, slice_get}
use Rattle.std.specs.Option.{option_map}
use Rattle.dcp_types.specs.declared.addresses.Address.{Address}
use Rattle.dcp_ends.specs.declared.entries.LogEntry.{LogEntry}
use Rattle.dcp_ends.specs.declared.entries.LogEntry.TheVariants.{Sent, Got, Idle, Turn}
use Rattle.dcp_ends.specs.declared.ends.End.{Ghosts}
use Rattle.dcp_ends.specs.Events.{Event, Rules}
use Rattle.dcp_ends.specs.Logs.{events_at, same_address}
use Rattle.rounds.specs.Rounds.{has_report, hosted, places_of}
use Rattle.rounds.specs.Told.{Apart}
use Rattle.rounds.proofs.Logs.{events_at-append}
use Rattle.rounds.proofs.Parts.{take_found}
use Rattle.dcp_record.specs.Places.{LogPlace}
use Rattle.replays.specs.Differences.{FirstDiffers, IsEnded, StopsReplayAt}
use Rattle.replays.specs.Expected.{AreRight, is_hosted_at}
use Rattle.replays.specs.Visits.{AreAt, IsFoundPlace, Passes, PassesUnless, WentOn, event_in, is_found_at, place_in, visit_sends}
use Rattle.replays.specs.declared.stops.Stop.{Stop}
use Rattle.replays.proofs.Sequels.{expected-none, no_sent, not_hosted}
use Rattle.replays.proofs.Steps.{master_first, master_goes, master_stops, step_entry, step_goes, step_stops}
use Rattle.replays.proofs.Standing.{all_follow, master_moved, same_is_one, slave_moved}

-- ---- where the ends are

any_place : (slaves : List Rules) (place : Address) → list_any (λ (a : Address). same_address a place) (places_of slaves) ≡ list_any (λ (rules : Rules). same_address rules.place place) slaves
any_place [] place = refl
any_place (r ∷ slaves) place = ap (λ rest. same_address r.place place || rest) (any_place slaves place)

pub nowhere : (master : Option Rules) (slaves : List Rules) (place : Address) → is_found_at master place ≡ false → list_any (λ a. same_address a place) (places_of slaves) ≡ false → is_hosted_at (hosted master slaves) place ≡ false
nowhere None slaves place far none = sym (any_place slaves place) ∙ none
nowhere (Some m) slaves place far none = rw far (sym (any_place slaves place) ∙ none)

pub slave_there : (master : Option Rules) (slaves : List Rules) (i : ℕ) (r : Rules) → i < length slaves → get_or slaves i r ≡ r → (j : ℕ) × (j < length (hosted master slaves)) × (get_or (hosted master slaves) j r ≡ r)
slave_there None slaves i r lt it = (i, lt, it)
slave_there (Some m) slaves i r lt it = (suc i, omega arith, it)

module _ {M S : Type 0} (first : Ghosts M) (end : Ghosts S) (slaves : List S) (entries : List LogEntry) (at : ℕ) (entry : LogEntry) (found : slice_get entries at ≡ Some entry) where
  front : take (at + 1) entries ≡ take at entries ++ entry ∷ []
  front = take_found entries at entry found

  -- ---- an entry that differs

  module _ (master : Option M) (ends : AreAt first end master slaves (take at entries)) (right : AreRight (option_map first.rules master) (map end.rules slaves) (take at entries)) where
    pub sent_differs : place_in entry ≡ None → FirstDiffers (option_map first.rules master) (map end.rules slaves) entries at
    sent_differs sent = record {
      entry = entry;
      here = found;
      before = right;
      differs = λ one. no_sent (hosted (option_map first.rules master) (map end.rules slaves)) (take at entries) entry sent (expected-none _ (take at entries) (all_follow first end master slaves _ ends)) one.suits;
    }

    pub far_differs : (place : Address) → place_in entry ≡ Some place → is_found_at (option_map first.rules master) place ≡ false
        → list_any (λ a. same_address a place) (places_of (map end.rules slaves)) ≡ false → FirstDiffers (option_map first.rules master) (map end.rules slaves) entries at
    far_differs place is far none = record {
      entry = entry;
      here = found;
      before = right;
      differs = λ one. not_hosted (hosted (option_map first.rules master) (map end.rules slaves)) (take at entries) entry place is (nowhere (option_map first.rules master) (map end.rules slaves) place far none) one.suits;
    }

  -- ---- an entry of the master

  module _ (m : M) (place : Address) (is : place_in entry ≡ Some place) (same : same_address (first.rules m).place place ≡ true)
      (ends : AreAt first end (Some m) slaves (take at entries)) (apart : Apart (first.rules m ∷ map end.rules slaves)) where
    here : place_in entry ≡ Some (first.rules m).place
    here = is ∙ ap Some (sym (same_is_one (first.rules m).place place same))

    module _ (right : AreRight (Some (first.rules m)) (map end.rules slaves) (take at entries)) (going : has_report (Some (first.rules m)) (take at entries) ≡ false) where
      pub first_stops : (stop : Stop) (next : LogPlace) → next ≡ record { entries = entries; at = at + 1 }
          → ((events : List Event) → first.stands m events → PassesUnless (first.rules m) events entry next.entries next.at (Err stop)) → StopsReplayAt (Some (first.rules m)) (map end.rules slaves) entries stop
      first_stops stop next is passes =
          let Passed : LogPlace → Type 0 = λ p. PassesUnless (first.rules m) (events_at (first.rules m).place (take at entries)) entry p.entries p.at (Err stop) in
          master_stops (first.rules m) (map end.rules slaves) (take at entries) entry here apart (all_follow first end (Some m) slaves _ ends) going right entries at refl found stop
          (subst Passed is (passes _ ends.told_master.stands_for))

      pub first_goes : (next : ℕ) → ((events : List Event) → first.stands m events → PassesUnless (first.rules m) events entry entries (at + 1) (Ok next)) → WentOn (Some (first.rules m)) (map end.rules slaves) entries at next
      first_goes next passes =
          master_goes (first.rules m) (map end.rules slaves) (take at entries) entry here apart (all_follow first end (Some m) slaves _ ends) going right entries at refl found next (passes _ ends.told_master.stands_for)

      pub first_moved : (next : ℕ) (new : M) → ((events : List Event) → first.stands m events → PassesUnless (first.rules m) events entry entries (at + 1) (Ok next))
          → first.rules new ≡ first.rules m → ((events : List Event) → first.stands m events → first.stands new (events ++ event_in entry)) → first.outs new ≡ [] → AreAt first end (Some new) slaves (take next entries)
      first_moved next new passes kept moved quiet =
          master_moved first end slaves (take at entries) entry entries at next front m new here ends apart kept moved quiet
          (master_first (first.rules m) (map end.rules slaves) (take at entries) entry here apart (all_follow first end (Some m) slaves _ ends) going right entries at refl found next (passes _ ends.told_master.stands_for))

  -- ---- an entry of a slave

  module _ (master : Option M) (ends : AreAt first end master slaves (take at entries)) (apart : Apart (hosted (option_map first.rules master) (map end.rules slaves)))
      (place : Address) (is : place_in entry ≡ Some place) (i : ℕ) (w : S) (place_found : IsFoundPlace (places_of (map end.rules slaves)) place i) where
    abbrev r : Rules
    r = end.rules (get_or slaves i w)

    within : i < length slaves
    within = let lt = place_found.within in rw (length-map, length-map) at lt

    here_slave : place_in entry ≡ Some r.place
    here_slave =
        let at_i : get_or (places_of (map end.rules slaves)) i (end.rules w).place ≡ r.place =
        get_or-map (λ (q : Rules). q.place) (map end.rules slaves) i (end.rules w) ∙ ap (λ (q : Rules). q.place) (get_or-map end.rules slaves i w) in
        is ∙ ap Some (sym (same_is_one r.place place (rw at_i at (place_found.same (end.rules w).place))))

    slave_is : get_or (map end.rules slaves) i r ≡ r
    slave_is = get_or-map end.rules slaves i (get_or slaves i w) ∙ ap end.rules (get_or_default slaves i (get_or slaves i w) w within)

    pub slave_moves : (next : ℕ) (new : S) → ((events : List Event) → end.stands (get_or slaves i w) events → Passes r.place (visit_sends r events entry) entries (at + 1) (Ok next))
        → end.rules new ≡ r → ((events : List Event) → end.stands (get_or slaves i w) events → end.stands new (events ++ event_in entry)) → end.outs new ≡ [] → AreAt first end master (set slaves i new) (take next entries)
    slave_moves next new passes kept moved quiet =
        slave_moved first end slaves (take at entries) entry entries at next front i w new within here_slave kept moved quiet (passes _ (ends.told_slaves i w within).stands_for) master apart ends

    module _ (right : AreRight (option_map first.rules master) (map end.rules slaves) (take at entries)) (going : has_report (option_map first.rules master) (take at entries) ≡ false)
        (same_report : has_report (option_map first.rules master) (take at entries ++ entry ∷ []) ≡ has_report (option_map first.rules master) (take at entries)) where
      abbrev m : Option Rules
      m = option_map first.rules master

      abbrev ss : List Rules
      ss = map end.rules slaves

      slave_place : (j : ℕ) × (j < length (hosted m ss)) × (get_or (hosted m ss) j r ≡ r)
      slave_place = slave_there m ss i r (rw length-map within) slave_is

      slave_right : AreRight m ss (take at entries ++ entry ∷ [])
      slave_right = step_entry m ss (take at entries) entry r slave_place.0 slave_place.1 slave_place.2 here_slave apart (all_follow first end master slaves _ ends) going right

      pub slave_stops : (stop : Stop) (next : LogPlace) → next ≡ record { entries = entries; at = at + 1 }
          → ((events : List Event) → end.stands (get_or slaves i w) events → Passes r.place (visit_sends r events entry) next.entries next.at (Err stop)) → StopsReplayAt m ss entries stop
      slave_stops stop next next_is passes =
          let Passed : LogPlace → Type 0 = λ p. Passes r.place (visit_sends r (events_at r.place (take at entries)) entry) p.entries p.at (Err stop) in
          step_stops m ss (take at entries) entry r slave_place.0 slave_place.1 slave_place.2 here_slave apart (all_follow first end master slaves _ ends) entries at refl found slave_right (inl (same_report ∙ going)) stop
          (subst Passed next_is (passes _ (ends.told_slaves i w within).stands_for))

      pub slave_goes : (next : ℕ) → ((events : List Event) → end.stands (get_or slaves i w) events → Passes r.place (visit_sends r events entry) entries (at + 1) (Ok next)) → WentOn m ss entries at next
      slave_goes next passes =
          step_goes m ss (take at entries) entry r slave_place.0 slave_place.1 slave_place.2 here_slave apart (all_follow first end master slaves _ ends) entries at refl found slave_right (inl (same_report ∙ going)) next
          (passes _ (ends.told_slaves i w within).stands_for)

-- an entry that is not the master's does not give its report
pub report_kept : (master : Option Rules) (log : List LogEntry) (entry : LogEntry) (place : Address) → place_in entry ≡ Some place → is_found_at master place ≡ false
    → has_report master (log ++ entry ∷ []) ≡ has_report master log
report_kept None log entry place is far = refl
report_kept (Some m) log (Sent from to bytes) place is far = cc
report_kept (Some m) log (Got at from bytes) place is far =
    let same : at ≡ place = cc in ap m.over (events_at-append m.place log _ ∙ ap (λ more. events_at m.place log ++ more) (rw (same, far) refl) ∙ append-nil _)
report_kept (Some m) log (Idle at) place is far = ap m.over (events_at-append m.place log _ ∙ append-nil _)
report_kept (Some m) log (Turn at) place is far =
    let same : at ≡ place = cc in ap m.over (events_at-append m.place log _ ∙ ap (λ more. events_at m.place log ++ more) (rw (same, far) refl) ∙ append-nil _)

-- ---- where the master has its report, and where the entries end

pub report_differs : (master : Option Rules) (slaves : List Rules) (entries : List LogEntry) (at : ℕ) → at < length entries → AreRight master slaves (take at entries) → has_report master (take at entries) ≡ true
    → FirstDiffers master slaves entries at
report_differs master slaves entries at lt right reported =
    elim (slice_get_cases entries at).1 [
      | inl found ↦ record { entry = found.0; here = found.2; before = right; differs = λ one. cc (one.going, reported) }
      | inr past ↦ absurd (omega (arith, past.0))
    ]

pub ended : {M S : Type 0} (first : Ghosts M) (end : Ghosts S) (master : Option M) (slaves : List S) (m : Option Rules) (ss : List Rules) (entries : List LogEntry)
    → option_map first.rules master ≡ m → map end.rules slaves ≡ ss → AreAt first end master slaves entries → has_report m entries ≡ true → IsEnded m ss entries
ended first end master slaves m ss entries same_master same_slaves ends reported =
    record { reported = reported; quiet = rw (← same_master, ← same_slaves) (expected-none _ entries (all_follow first end master slaves entries ends)) }
