-- An entry of a hosted end, and what the end then sends.
use Rattle.std.proofs.Common.{Bool, MatchBool, nat_lt, ◌&&◌, Ok, Err, ◌≡◌, ◌≢◌, ℕ, ◌+◌, ◌<◌, ◌≤◌, List, [], ◌∷◌, ◌++◌, length, get_or, take, true, false, Option, None, Some, refl, sym, ap, ◌∙◌, ◌⊎◌, inl, inr, arith, append_assoc, subst}
use Rattle.std.proofs.lemmas.List.{append-nil, get_or_default, take_all}
use Rattle.std.proofs.lemmas.List.Folds.{list_any_at}
use Rattle.std.proofs.lemmas.Bool.Decides.{nat_tests}
use Rattle.std.proofs.lemmas.Option.{slice_get-get_or}
use Rattle.std.specs.List.{All, slice_get}
use Rattle.dcp_types.specs.declared.addresses.Address.{Address}
use Rattle.dcp_ends.specs.declared.entries.LogEntry.{LogEntry}
use Rattle.dcp_ends.specs.declared.entries.LogEntry.TheVariants.{Sent, Got, Idle, Turn}
use Rattle.dcp_ends.specs.Events.{Gram, Tick, Send, Rules}
use Rattle.dcp_ends.specs.Logs.{answered, event_at, events_at, own_at, same_address, sent_by}
use Rattle.rounds.specs.Rounds.{has_report, hosted}
use Rattle.rounds.specs.Told.{Apart, Follows}
use Rattle.rounds.proofs.Parts.{sent_by-append, take_found}
use Rattle.rounds.proofs.Logs.{Follows-event, events_at-append, events_at-sents, own_at-append, same_address-refl}
use Rattle.rounds.proofs.Others.{Silent, Silent-nil}
use Rattle.replays.specs.Expected.{AreRight, expected_sends, is_hosted_at, missing}
use Rattle.replays.specs.Differences.{FirstDiffers, StopsReplayAt}
use Rattle.replays.specs.Visits.{HasFirst, Passes, PassesUnless, WentOn, event_in, place_in, visit_sends}
use Rattle.replays.specs.declared.stops.Stop.{Stop}
use Rattle.replays.specs.declared.stops.Stop.TheVariants as stops
use Rattle.replays.proofs.Growth.{right-more}
use Rattle.replays.proofs.Sequels.{expected-none, flat-one, missing-left, missing-none, not_other, suits-end}

-- ---- one end

sents_silent : (a b : Address) → same_address a b ≡ false → (sends : List Send) → Silent a (sent_by b sends)
sents_silent a b other [] = Silent-nil a
sents_silent a b other (s ∷ sends) = let rest = sents_silent a b other sends in record { events = rest.events; own = rw other rest.own }

module _ (r : Rules) where
  pub event_at-own : (entry : LogEntry) → place_in entry ≡ Some r.place → event_at r.place entry ≡ event_in entry
  event_at-own (Sent from to bytes) is = refl
  event_at-own (Got at from bytes) is = let same : at ≡ r.place = cc in rw (same, same_address-refl) refl
  event_at-own (Idle at) is = refl
  event_at-own (Turn at) is = let same : at ≡ r.place = cc in rw (same, same_address-refl) refl

  pub step_silent : (entry : LogEntry) → place_in entry ≡ Some r.place → (a : Address) → same_address a r.place ≡ false → (sends : List Send) → Silent a (entry ∷ sent_by r.place sends)
  step_silent (Sent from to bytes) is a other sends = cc
  step_silent (Got at from bytes) is a other sends =
      let same : at ≡ r.place = cc in let rest = sents_silent a r.place other sends in record { events = rw (same, other) rest.events; own = rw (same, other) rest.own }
  step_silent (Idle at) is a other sends = let rest = sents_silent a r.place other sends in record { events = rest.events; own = rest.own }
  step_silent (Turn at) is a other sends =
      let same : at ≡ r.place = cc in let rest = sents_silent a r.place other sends in record { events = rw (same, other) rest.events; own = rw (same, other) rest.own }

  module _ (log : List LogEntry) where
    pub step_events : (entry : LogEntry) → place_in entry ≡ Some r.place → (gone : List Send) → events_at r.place (log ++ entry ∷ sent_by r.place gone) ≡ events_at r.place log ++ event_in entry
    step_events entry is gone =
        events_at-append r.place log (entry ∷ sent_by r.place gone)
        ∙ ap (λ more. events_at r.place log ++ (event_at r.place entry ++ more)) (events_at-sents r.place r.place gone)
        ∙ ap (λ more. events_at r.place log ++ more) (append-nil (event_at r.place entry) ∙ event_at-own entry is)

    idle_own : (at : Address) → Follows r log → (gone left : List Send) → gone ++ left ≡ []
        → own_at r.place (log ++ Idle at ∷ sent_by r.place gone) ++ sent_by r.place left ≡ answered r [] (events_at r.place (log ++ Idle at ∷ sent_by r.place gone))
    idle_own at follows [] [] none =
        let events : events_at r.place (log ++ Idle at ∷ []) ≡ events_at r.place log = events_at-append r.place log (Idle at ∷ []) ∙ append-nil _ in
        let own : own_at r.place (log ++ Idle at ∷ []) ≡ own_at r.place log = own_at-append r.place log (Idle at ∷ []) ∙ append-nil _ in
        append-nil _ ∙ own ∙ follows ∙ ap (answered r []) (sym events)
    idle_own at follows [] (l ∷ left) none = cc
    idle_own at follows (g ∷ gone) left none = cc

    pub step_own : (entry : LogEntry) → place_in entry ≡ Some r.place → Follows r log → (gone left : List Send) → gone ++ left ≡ visit_sends r (events_at r.place log) entry
        → own_at r.place (log ++ entry ∷ sent_by r.place gone) ++ sent_by r.place left ≡ answered r [] (events_at r.place (log ++ entry ∷ sent_by r.place gone))
    step_own (Sent from to bytes) is follows gone left split = cc
    step_own (Got at from bytes) is follows gone left split = let same : at ≡ r.place = cc in rw same (Follows-event r log (Gram from bytes) gone left split follows)
    step_own (Idle at) is follows gone left split = idle_own at follows gone left split
    step_own (Turn at) is follows gone left split = let same : at ≡ r.place = cc in rw same (Follows-event r log Tick gone left split follows)

    pub silent_follows : (part : List LogEntry) → Silent r.place part → Follows r log → Follows r (log ++ part)
    silent_follows part silent follows =
        let events : events_at r.place (log ++ part) ≡ events_at r.place log = events_at-append r.place log part ∙ ap (λ more. events_at r.place log ++ more) silent.events ∙ append-nil _ in
        let own : own_at r.place (log ++ part) ≡ own_at r.place log = own_at-append r.place log part ∙ ap (λ more. own_at r.place log ++ more) silent.own ∙ append-nil _ in
        own ∙ follows ∙ ap (answered r []) (sym events)

-- what is sent changes nothing of a report
pub report-sents : (master : Option Rules) (log : List LogEntry) (place : Address) (sends : List Send) → has_report master (log ++ sent_by place sends) ≡ has_report master log
report-sents None log place sends = refl
report-sents (Some m) log place sends =
    ap m.over (events_at-append m.place log (sent_by place sends) ∙ ap (λ more. events_at m.place log ++ more) (events_at-sents m.place place sends) ∙ append-nil _)

-- ---- one end among all

module _ (master : Option Rules) (slaves : List Rules) (log : List LogEntry) (entry : LogEntry) (r : Rules) (j : ℕ)
    (within : j < length (hosted master slaves)) (it : get_or (hosted master slaves) j r ≡ r) (is : place_in entry ≡ Some r.place)
    (apart : Apart (hosted master slaves)) (follows : All (λ q. Follows q log) (hosted master slaves)) where
  -- the log once so many of the sends are there
  abbrev so_far : List Send → List LogEntry
  so_far gone = (log ++ entry ∷ []) ++ sent_by r.place gone

  abbrev sends : List Send
  sends = visit_sends r (events_at r.place log) entry

  joined : (gone : List Send) → so_far gone ≡ log ++ entry ∷ sent_by r.place gone
  joined gone = append_assoc log (entry ∷ []) (sent_by r.place gone)

  mine : Follows r log
  mine = subst (λ (q : Rules). Follows q log) it (follows j r within)

  far : (k : ℕ) (d : Rules) → k < length (hosted master slaves) → k ≢ j → same_address (get_or (hosted master slaves) k d).place r.place ≡ false
  far k d lt ne =
      let other = apart k j d lt within ne in
      let here : get_or (hosted master slaves) j d ≡ r = get_or_default (hosted master slaves) j d r within ∙ it in
      subst (λ (q : Rules). same_address (get_or (hosted master slaves) k d).place q.place ≡ false) here other

  pub others_follow : (k : ℕ) (d : Rules) → k < length (hosted master slaves) → k ≢ j → (gone : List Send) → Follows (get_or (hosted master slaves) k d) (so_far gone)
  others_follow k d lt ne gone =
      rw (joined gone) (silent_follows (get_or (hosted master slaves) k d) log _ (step_silent r entry is _ (far k d lt ne) gone) (follows k d lt))

  pub step_expected : (gone left : List Send) → gone ++ left ≡ sends → expected_sends (hosted master slaves) (so_far gone) ≡ sent_by r.place left
  step_expected gone left split =
      flat-one (missing (so_far gone)) (hosted master slaves) j r within
      (λ k d lt ne. missing-none (get_or (hosted master slaves) k d) (so_far gone) (others_follow k d lt ne gone))
      ∙ ap (missing (so_far gone)) it
      ∙ ap (λ l. missing l r) (joined gone) ∙ missing-left r (log ++ entry ∷ sent_by r.place gone) (sent_by r.place left) (step_own r log entry is mine gone left split)

  is_here : (place : Address) → place_in entry ≡ Some place → is_hosted_at (hosted master slaves) place ≡ true
  is_here place at =
      let same : place ≡ r.place = cc in
      list_any_at (λ (rules : Rules). same_address rules.place place) (hosted master slaves) j r within (rw (it, same) (same_address-refl r.place))

  pub step_entry : has_report master log ≡ false → AreRight master slaves log → AreRight master slaves (log ++ entry ∷ [])
  step_entry going right =
      right-more master slaves log entry right (record { going = going; suits = suits-end (hosted master slaves) log entry r.place is (expected-none (hosted master slaves) log follows) (is_here r.place is) })

  module _ (going : has_report master (log ++ entry ∷ []) ≡ false) where
    sents_right : (done todo left : List Send) → done ++ (todo ++ left) ≡ sends → AreRight master slaves (so_far done) → AreRight master slaves (so_far (done ++ todo))
    sents_right done [] left split right = rw append-nil right
    sents_right done (s ∷ todo) left split right =
        let next = right-more master slaves (so_far done) (Sent r.place s.to s.bytes) right (record {
          going = report-sents master (log ++ entry ∷ []) r.place done ∙ going;
          suits = ap (λ (l : List LogEntry). slice_get l 0) (step_expected done (s ∷ (todo ++ left)) split);
        }) in
        let longer : so_far (done ++ s ∷ []) ≡ so_far done ++ Sent r.place s.to s.bytes ∷ [] =
        ap (λ more. (log ++ entry ∷ []) ++ more) (sent_by-append r.place done (s ∷ [])) ∙ sym (append_assoc (log ++ entry ∷ []) (sent_by r.place done) _) in
        let rest = sents_right (done ++ s ∷ []) todo left (append_assoc done (s ∷ []) (todo ++ left) ∙ split) (rw longer next) in
        rw (append_assoc done (s ∷ []) todo) at rest

    pub step_right : AreRight master slaves (log ++ entry ∷ []) → (gone left : List Send) → gone ++ left ≡ sends → AreRight master slaves (so_far gone)
    step_right right gone left split = sents_right [] gone left split (rw append-nil right)

  -- the entries from one place on: this entry, and behind it some of its sends
  module _ (entries : List LogEntry) (at : ℕ) (begun : take at entries ≡ log) (found : slice_get entries at ≡ Some entry) where
    front : take (at + 1) entries ≡ log ++ entry ∷ []
    front = take_found entries at entry found ∙ ap (λ l. l ++ entry ∷ []) begun

    there : (left : List Send) (place : ℕ) (first : HasFirst r.place sends left entries (at + 1) place) → take place entries ≡ so_far first.gone
    there left place first = first.there ∙ ap (λ l. l ++ sent_by r.place first.gone) front

    module _ (right : AreRight master slaves (log ++ entry ∷ [])) (last : (has_report master (log ++ entry ∷ []) ≡ false) ⊎ (length entries ≤ at + 1)) where
      right_to : (left : List Send) (place : ℕ) → HasFirst r.place sends left entries (at + 1) place → AreRight master slaves (take place entries)
      right_to left place first = by_report last where
        by_report : (has_report master (log ++ entry ∷ []) ≡ false) ⊎ (length entries ≤ at + 1) → AreRight master slaves (take place entries)
        by_report (inl going) = rw (there left place first) (step_right going right first.gone left first.split)
        by_report (inr full) =
            let past : length entries ≤ place = omega (arith, first.later) in
            rw (take_all place entries past ∙ sym (take_all (at + 1) entries full) ∙ front) right

      expected_to : (left : List Send) (place : ℕ) → HasFirst r.place sends left entries (at + 1) place → expected_sends (hosted master slaves) (take place entries) ≡ sent_by r.place left
      expected_to left place first = ap (expected_sends (hosted master slaves)) (there left place first) ∙ step_expected first.gone left first.split

      whole : take (length entries) entries ≡ entries
      whole = let all : length entries ≤ length entries = omega arith in take_all (length entries) entries all

      pub step_stops : (stop : Stop) → Passes r.place sends entries (at + 1) (Err stop) → StopsReplayAt master slaves entries stop
      step_stops (stops.Differs place) other = record {
        entry = other.entry;
        here = other.here;
        before = right_to (other.send ∷ other.left) place other.first;
        differs = λ one. not_other (hosted master slaves) (take place entries) (sent_by r.place other.left) r.place other.send.to other.send.bytes other.entry
            (expected_to (other.send ∷ other.left) place other.first) other.other one.suits;
      }
      step_stops stops.Unended more =
          let next = expected_to (more.send ∷ more.left) (length entries) more.first in
          let right = right_to (more.send ∷ more.left) (length entries) more.first in
          (rw whole at right, λ ended. cc (next, ended.quiet, ap (expected_sends (hosted master slaves)) whole))

      pub step_goes : (next : ℕ) → HasFirst r.place sends [] entries (at + 1) next → WentOn master slaves entries at next
      step_goes next first = record { later = omega (arith, first.later); within = first.within; right = right_to [] next first }

-- ---- the master

either : (over more : Bool) (X Y : Type 0) → MatchBool (over && more) X Y → ((over ≡ true) × (more ≡ true) × X) ⊎ (((over ≡ false) ⊎ (more ≡ false)) × Y)
either true true X Y x = inl (refl, refl, x)
either true false X Y y = inr (inr refl, y)
either false more X Y y = inr (inl refl, y)

module _ (m : Rules) (slaves : List Rules) (log : List LogEntry) (entry : LogEntry) (is : place_in entry ≡ Some m.place)
    (apart : Apart (m ∷ slaves)) (follows : All (λ q. Follows q log) (m ∷ slaves)) (going : m.over (events_at m.place log) ≡ false) (right : AreRight (Some m) slaves log)
    (entries : List LogEntry) (at : ℕ) (begun : take at entries ≡ log) (found : slice_get entries at ≡ Some entry) where
  some : 0 < length (m ∷ slaves)
  some = omega arith

  entry_right : AreRight (Some m) slaves (log ++ entry ∷ [])
  entry_right = step_entry (Some m) slaves log entry m 0 some refl is apart follows going right

  reports : has_report (Some m) (log ++ entry ∷ []) ≡ m.over (events_at m.place log ++ event_in entry)
  reports = ap m.over (step_events m log entry is [])

  last : (m.over (events_at m.place log ++ event_in entry) ≡ false) ⊎ (nat_lt (at + 1) (length entries) ≡ false) → (has_report (Some m) (log ++ entry ∷ []) ≡ false) ⊎ (length entries ≤ at + 1)
  last (inl over) = inl (reports ∙ over)
  last (inr full) = inr (grind (arith, nat_tests))

  reported : m.over (events_at m.place log ++ event_in entry) ≡ true → nat_lt (at + 1) (length entries) ≡ true → FirstDiffers (Some m) slaves entries (at + 1)
  reported over more =
      let within : at + 1 < length entries = grind (arith, nat_tests) in
      let front : take (at + 1) entries ≡ log ++ entry ∷ [] = take_found entries at entry found ∙ ap (λ l. l ++ entry ∷ []) begun in
      record {
        entry = get_or entries (at + 1) entry;
        here = slice_get-get_or entries (at + 1) entry within;
        before = rw front entry_right;
        differs = λ one. cc (one.going, ap (has_report (Some m)) front, reports, over);
      }

  pub master_stops : (stop : Stop) → PassesUnless m (events_at m.place log) entry entries (at + 1) (Err stop) → StopsReplayAt (Some m) slaves entries stop
  master_stops stop passes =
      elim (either (m.over (events_at m.place log ++ event_in entry)) (nat_lt (at + 1) (length entries)) _ _ passes) [
        | inl over ↦ let same : stop ≡ stops.Differs (at + 1) = cc (over.2) in rw same (reported over.0 over.1)
        | inr other ↦ step_stops (Some m) slaves log entry m 0 some refl is apart follows entries at begun found entry_right (last other.0) stop other.1
      ]

  pub master_first : (next : ℕ) → PassesUnless m (events_at m.place log) entry entries (at + 1) (Ok next) → HasFirst m.place (visit_sends m (events_at m.place log) entry) [] entries (at + 1) next
  master_first next passes =
      elim (either (m.over (events_at m.place log ++ event_in entry)) (nat_lt (at + 1) (length entries)) _ _ passes) [
        | inl over ↦ cc (over.2)
        | inr other ↦ other.1
      ]

  pub master_goes : (next : ℕ) → PassesUnless m (events_at m.place log) entry entries (at + 1) (Ok next) → WentOn (Some m) slaves entries at next
  master_goes next passes =
      elim (either (m.over (events_at m.place log ++ event_in entry)) (nat_lt (at + 1) (length entries)) _ _ passes) [
        | inl over ↦ cc (over.2)
        | inr other ↦ step_goes (Some m) slaves log entry m 0 some refl is apart follows entries at begun found entry_right (last other.0) next other.1
      ]
