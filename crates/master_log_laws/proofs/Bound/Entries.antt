-- The turns of the master in a log are those of its events.
use Rattle.std.proofs.Common.{◌≡◌, ℕ, ◌+◌, ◌<◌, ◌≤◌, ◌==◌, ◌&&◌, not, Bool, true, false, Option, Some, None, List, [], ◌∷◌, ◌++◌, length, take, reverse, refl, sym, ap, ◌∙◌, append-nil, append_assoc, arith, length-append}
use Rattle.std.specs.Prelude.{is_some, if◌then◌else◌, slice_get, count_by}
use Rattle.std.specs.List.{range_with_len}
use Rattle.std.proofs.Math.Seq.{take-append_seam}
use Rattle.std.proofs.lemmas.List.{reverse-append}
use Rattle.std.proofs.lemmas.List.Sums.{sum_by-cons}
use Rattle.std.proofs.lemmas.Bool.{eqb-true, eqb-false, eq-eqb, ne_eqb}
use Rattle.scenario.specs.Sound.{IsLimits}
use Rattle.dcp_types.specs.declared.addresses.Address.{Address}
use Rattle.dcp_ends.specs.declared.entries.LogEntry.{LogEntry}
use Rattle.dcp_ends.specs.declared.entries.LogEntry.TheVariants.{Sent, Got, Idle, Turn}
use Rattle.dcp_ends.specs.Events.{Event, Gram, Tick}
use Rattle.dcp_ends.specs.Logs.{same_address, event_at, events_at}
use Rattle.master_spec.specs.declared.setups.Setup.{Setup}
use Rattle.master_spec.specs.Bound.{bound}
use Rattle.master_spec.specs.Course.{course, master_turns}
use Rattle.master_spec.specs.Requests.{is_turn_of}
use Rattle.master_spec.specs.Rules.{is_over_after}
use Rattle.master_log_laws.specs.Bound.Turns.{is_running_after, is_turn_in, has_turn_at, turns_in}
use Rattle.master_log_laws.proofs.Bound.Courses.{none_before, below_bound, within_bound}

-- the events of a log, the newest first
abbrev newest : Setup → List LogEntry → List Event
newest setup log = reverse (events_at setup.address log)

events_both : (a : Address) (log more : List LogEntry) → events_at a (log ++ more) ≡ events_at a log ++ events_at a more
events_both a [] more = refl
events_both a (entry ∷ log) more =
    ap (λ (es : List Event). event_at a entry ++ es) (events_both a log more) ∙ sym (append_assoc (event_at a entry) (events_at a log) (events_at a more))

newest_more : (setup : Setup) (log : List LogEntry) (entry : LogEntry) → newest setup (log ++ entry ∷ []) ≡ reverse (events_at setup.address log ++ event_at setup.address entry)
newest_more setup log entry =
    ap (λ (es : List Event). reverse es) (events_both setup.address log (entry ∷ []) ∙ ap (λ (es : List Event). events_at setup.address log ++ es) (append-nil (event_at setup.address entry)))

-- no event, or one
newest_none : (events : List Event) → reverse (events ++ []) ≡ reverse events
newest_none events = ap (λ (es : List Event). reverse es) (append-nil events)

newest_one : (events : List Event) (event : Event) → reverse (events ++ event ∷ []) ≡ event ∷ reverse events
newest_one events event = reverse-append events (event ∷ [])

-- ---- one more entry

equal_turned : (m n : ℕ) → (m == n) ≡ (n == m)
equal_turned m n = by (m == n) refl
  where
    by : (b : Bool) → (m == n) ≡ b → b ≡ (n == m)
    by true e = sym (eq-eqb n m (sym (eqb-true m n e)))
    by false e = sym (ne_eqb n m (λ f. eqb-false m n e (sym f)))

address_turned : (a b : Address) → same_address a b ≡ same_address b a
address_turned a b =
    ap (λ (x : Bool). x && (a.port == b.port)) (equal_turned a.ip b.ip) ∙ ap (λ (x : Bool). (b.ip == a.ip) && x) (equal_turned a.port b.port)

-- what an entry adds to the turns
abbrev added : Bool → ℕ
added b = if b then 1 else 0

turns_tick : (setup : Setup) (events : List Event) (b : Bool) → is_some (course setup events).report ≡ b → master_turns setup (Tick ∷ events) ≡ master_turns setup events + added (not b)
turns_tick setup events true e = ap (λ (x : Bool). if x then master_turns setup events else master_turns setup events + 1) e ∙ omega arith
turns_tick setup events false e = ap (λ (x : Bool). if x then master_turns setup events else master_turns setup events + 1) e

turns_event : (setup : Setup) (log : List LogEntry) (entry : LogEntry) → master_turns setup (reverse (events_at setup.address log ++ event_at setup.address entry)) ≡ master_turns setup (newest setup log) + added (is_turn_of setup.address entry && is_running_after setup log)
turns_event setup log (Sent from to bytes) = ap (λ (es : List Event). master_turns setup es) (newest_none (events_at setup.address log)) ∙ omega arith
turns_event setup log (Got at from bytes) = by (same_address setup.address at)
  where
    by : (b : Bool) → master_turns setup (reverse (events_at setup.address log ++ (if b then Gram from bytes ∷ [] else []))) ≡ master_turns setup (newest setup log) + 0
    by true = ap (λ (es : List Event). master_turns setup es) (newest_one (events_at setup.address log) (Gram from bytes)) ∙ omega arith
    by false = ap (λ (es : List Event). master_turns setup es) (newest_none (events_at setup.address log)) ∙ omega arith
turns_event setup log (Idle at) = ap (λ (es : List Event). master_turns setup es) (newest_none (events_at setup.address log)) ∙ omega arith
turns_event setup log (Turn at) = by (same_address setup.address at) ∙ ap (λ (b : Bool). master_turns setup (newest setup log) + added (b && is_running_after setup log)) (address_turned setup.address at)
  where
    by : (b : Bool) → master_turns setup (reverse (events_at setup.address log ++ (if b then Tick ∷ [] else []))) ≡ master_turns setup (newest setup log) + added (b && is_running_after setup log)
    by true = ap (λ (es : List Event). master_turns setup es) (newest_one (events_at setup.address log) Tick) ∙ turns_tick setup (newest setup log) (is_some (course setup (newest setup log)).report) refl
    by false = ap (λ (es : List Event). master_turns setup es) (newest_none (events_at setup.address log)) ∙ omega arith

turns_more : (setup : Setup) (log : List LogEntry) (entry : LogEntry) → master_turns setup (newest setup (log ++ entry ∷ [])) ≡ master_turns setup (newest setup log) + added (is_turn_of setup.address entry && is_running_after setup log)
turns_more setup log entry = ap (λ (es : List Event). master_turns setup es) (newest_more setup log entry) ∙ turns_event setup log entry

-- ---- all entries

get_seam : (log more : List LogEntry) (entry : LogEntry) → slice_get (log ++ entry ∷ more) (length log) ≡ Some entry
get_seam [] more entry = refl
get_seam (first ∷ log) more entry = get_seam log more entry

turn_here : (setup : Setup) (log more : List LogEntry) (entry : LogEntry) → has_turn_at setup (log ++ entry ∷ more) (length log) ≡ (is_turn_of setup.address entry && is_running_after setup log)
turn_here setup log more entry =
    ap (λ (o : Option LogEntry). is_turn_in setup.address o && is_running_after setup (take (length log) (log ++ entry ∷ more))) (get_seam log more entry)
    ∙ ap (λ (l : List LogEntry). is_turn_of setup.address entry && is_running_after setup l) (take-append_seam log (entry ∷ more))

turns_from : (setup : Setup) (log more : List LogEntry) → count_by (has_turn_at setup (log ++ more)) (range_with_len (length log) (length more)) + master_turns setup (newest setup log) ≡ master_turns setup (newest setup (log ++ more))
turns_from setup log [] =
    let e : master_turns setup (newest setup (log ++ [])) ≡ master_turns setup (newest setup log) = ap (λ (l : List LogEntry). master_turns setup (newest setup l)) (append-nil log) in
    omega (arith, e)
turns_from setup log (entry ∷ more) =
    let longer : List LogEntry = log ++ entry ∷ [] in
    let join : longer ++ more ≡ log ++ entry ∷ more = append_assoc log (entry ∷ []) more in
    let size : length longer ≡ length log + 1 = length-append log (entry ∷ []) in
    let rest : count_by (has_turn_at setup (longer ++ more)) (range_with_len (length longer) (length more)) + master_turns setup (newest setup longer) ≡ master_turns setup (newest setup (longer ++ more)) = turns_from setup (log ++ entry ∷ []) more in
    let all : List LogEntry = log ++ entry ∷ more in
    let same : count_by (has_turn_at setup (longer ++ more)) (range_with_len (length longer) (length more)) ≡ count_by (has_turn_at setup all) (range_with_len (length log + 1) (length more))
    = ap (λ (l : List LogEntry). count_by (has_turn_at setup l) (range_with_len (length longer) (length more))) join ∙ ap (λ (n : ℕ). count_by (has_turn_at setup all) (range_with_len n (length more))) size in
    let last : master_turns setup (newest setup (longer ++ more)) ≡ master_turns setup (newest setup all) = ap (λ (l : List LogEntry). master_turns setup (newest setup l)) join in
    let here : added (has_turn_at setup all (length log)) ≡ added (is_turn_of setup.address entry && is_running_after setup log) = ap (λ (b : Bool). added b) (turn_here setup log more entry) in
    let first : count_by (has_turn_at setup all) (length log ∷ range_with_len (length log + 1) (length more)) ≡ added (has_turn_at setup all (length log)) + count_by (has_turn_at setup all) (range_with_len (length log + 1) (length more))
    = sum_by-cons (λ i. added (has_turn_at setup all i)) (length log) (range_with_len (length log + 1) (length more)) in
    let one = turns_more setup log entry in
    omega (arith, rest, same, last, here, first, one)

-- The turns of the master's events are the turns in the log that began without a report.
pub turns_of_log : (setup : Setup) (log : List LogEntry) → master_turns setup (newest setup log) ≡ turns_in setup log
turns_of_log setup log = let e = turns_from setup [] log in omega (arith, e)

-- ---- without a report

-- a report after these events stays after all further ones
report_stays : (setup : Setup) (more events : List Event) → (course setup (more ++ events)).report ≡ None → (course setup events).report ≡ None
report_stays setup [] events none = none
report_stays setup (event ∷ more) events none = report_stays setup more events (none_before setup event (course setup (more ++ events)) none)

report_before : (setup : Setup) (log more : List LogEntry) → (course setup (newest setup (log ++ more))).report ≡ None → (course setup (newest setup log)).report ≡ None
report_before setup log more none =
    let a = setup.address in
    let e : newest setup (log ++ more) ≡ newest setup more ++ newest setup log
    = ap (λ (es : List Event). reverse es) (events_both a log more) ∙ reverse-append (events_at a log) (events_at a more) in
    report_stays setup (newest setup more) (newest setup log) (sym (ap (λ (es : List Event). (course setup es).report) e) ∙ none)

and_true : (b : Bool) → (b && true) ≡ b
and_true true = refl
and_true false = refl

every_turn : (setup : Setup) (log more : List LogEntry) → (course setup (newest setup (log ++ more))).report ≡ None → count_by (is_turn_of setup.address) more + master_turns setup (newest setup log) ≡ master_turns setup (newest setup (log ++ more))
every_turn setup log [] none =
    let e : master_turns setup (newest setup (log ++ [])) ≡ master_turns setup (newest setup log) = ap (λ (l : List LogEntry). master_turns setup (newest setup l)) (append-nil log) in
    omega (arith, e)
every_turn setup log (entry ∷ more) none =
    let longer : List LogEntry = log ++ entry ∷ [] in
    let join : longer ++ more ≡ log ++ entry ∷ more = append_assoc log (entry ∷ []) more in
    let later : (course setup (newest setup (longer ++ more))).report ≡ None = ap (λ (l : List LogEntry). (course setup (newest setup l)).report) join ∙ none in
    let rest : count_by (is_turn_of setup.address) more + master_turns setup (newest setup longer) ≡ master_turns setup (newest setup (longer ++ more)) = every_turn setup (log ++ entry ∷ []) more later in
    let last : master_turns setup (newest setup (longer ++ more)) ≡ master_turns setup (newest setup (log ++ entry ∷ more)) = ap (λ (l : List LogEntry). master_turns setup (newest setup l)) join in
    let first : count_by (is_turn_of setup.address) (entry ∷ more) ≡ added (is_turn_of setup.address entry) + count_by (is_turn_of setup.address) more = sum_by-cons (λ x. added (is_turn_of setup.address x)) entry more in
    let running : is_running_after setup log ≡ true = ap (λ o. not (is_some o)) (report_before setup log (entry ∷ more) none) in
    let here : added (is_turn_of setup.address entry && is_running_after setup log) ≡ added (is_turn_of setup.address entry)
    = ap (λ (b : Bool). added (is_turn_of setup.address entry && b)) running ∙ ap (λ (b : Bool). added b) (and_true (is_turn_of setup.address entry)) in
    let one = turns_more setup log entry in
    omega (arith, rest, last, first, here, one)

none_yet : {A : Type 0} (o : Option A) → is_some o ≡ false → o ≡ None
none_yet None e = refl
none_yet (Some x) e = absurd (cc)

-- A log after which the master has no report has fewer turns of the master than the bound says.
pub log_below : (setup : Setup) (log : List LogEntry) → IsLimits setup.limits → 1 ≤ setup.runs → is_over_after setup (events_at setup.address log) ≡ false → count_by (is_turn_of setup.address) log < bound setup
log_below setup log lim runs e =
    let none : (course setup (newest setup log)).report ≡ None = none_yet (course setup (newest setup log)).report e in
    let all = every_turn setup [] log none in
    let below = below_bound setup (newest setup log) lim runs none in
    omega (arith, all, below)

-- The turns that began without a report are never more than the bound says.
pub log_within : (setup : Setup) (log : List LogEntry) → IsLimits setup.limits → 1 ≤ setup.runs → turns_in setup log ≤ bound setup
log_within setup log lim runs =
    let same = turns_of_log setup log in
    let within = within_bound setup (newest setup log) lim runs in
    omega (arith, same, within)
