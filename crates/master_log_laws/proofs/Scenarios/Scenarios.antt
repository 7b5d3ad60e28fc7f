-- The laws of setups, for scenarios.
use Rattle.std.proofs.Common.{◌≡◌, List, [], ◌∷◌, ◌++◌, Bool, true, false, if◌then◌else◌, reverse, refl, sym, ap, ◌∙◌}
use Rattle.std.proofs.lemmas.List.{reverse-append}
use Rattle.dcp_ends.specs.declared.entries.LogEntry.{LogEntry}
use Rattle.dcp_ends.specs.declared.entries.LogEntry.TheVariants.{Sent, Got, Idle, Turn}
use Rattle.dcp_ends.specs.Events.{Event, Gram, Tick}
use Rattle.dcp_ends.specs.Logs.{same_address, event_at, events_at}
use Rattle.master_spec.specs.declared.setups.Setup.{Setup}
use Rattle.master_spec.specs.Setup.{setup_from}
use Rattle.master_spec.specs.Course.{course}
use Rattle.master_log_laws.specs.Index.Runs.{with_event, events_of_master}
use Rattle.master_log_laws.proofs.Index.ByEntry.{address_turned, entry_by_entry}
use Rattle.master_log_laws.proofs.Exchanges.Barriers.{barriers}
use Rattle.master_log_laws.proofs.Exchanges.Finished.{finished_is_acknowledged}
use Rattle.master_log_laws.proofs.Failures.First.{failed_is_first}
use Rattle.master_log_laws.proofs.Phases.Numbered.{one_by_one}
use Rattle.master_log_laws.specs.Scenarios.Laws.{FailedIsFirst, RunFinishIsAcknowledged, RunPhasesAreBarriers, RunRequestsGoOneByOne}
use Rattle.master_log_laws.proofs.Scenarios.Heard.{setups_heard}

-- the events of a log, the newest first, entry by entry
events_more : (setup : Setup) (xs ys : List LogEntry) → events_of_master setup (xs ++ ys) ≡ events_of_master setup xs ++ events_of_master setup ys
events_more setup [] ys = refl
events_more setup (Sent from to bytes ∷ xs) ys = events_more setup xs ys
events_more setup (Got at from bytes ∷ xs) ys = by (same_address at setup.address) (events_more setup xs ys)
  where
    by : (b : Bool) → events_of_master setup (xs ++ ys) ≡ events_of_master setup xs ++ events_of_master setup ys → with_event b (Gram from bytes) (events_of_master setup (xs ++ ys)) ≡ with_event b (Gram from bytes) (events_of_master setup xs) ++ events_of_master setup ys
    by true h = ap (λ (z : List Event). Gram from bytes ∷ z) h
    by false h = h
events_more setup (Idle at ∷ xs) ys = events_more setup xs ys
events_more setup (Turn at ∷ xs) ys = by (same_address at setup.address) (events_more setup xs ys)
  where
    by : (b : Bool) → events_of_master setup (xs ++ ys) ≡ events_of_master setup xs ++ events_of_master setup ys → with_event b Tick (events_of_master setup (xs ++ ys)) ≡ with_event b Tick (events_of_master setup xs) ++ events_of_master setup ys
    by true h = ap (λ (z : List Event). Tick ∷ z) h
    by false h = h

one : (setup : Setup) (e : LogEntry) → events_of_master setup (e ∷ []) ≡ reverse (event_at setup.address e)
one setup (Sent from to bytes) = refl
one setup (Got at from bytes) = ap (λ (b : Bool). with_event b (Gram from bytes) []) (address_turned at setup.address) ∙ by (same_address setup.address at)
  where
    by : (b : Bool) → with_event b (Gram from bytes) [] ≡ reverse (if b then Gram from bytes ∷ [] else [])
    by true = refl
    by false = refl
one setup (Idle at) = refl
one setup (Turn at) = ap (λ (b : Bool). with_event b Tick []) (address_turned at setup.address) ∙ by (same_address setup.address at)
  where
    by : (b : Bool) → with_event b Tick [] ≡ reverse (if b then Tick ∷ [] else [])
    by true = refl
    by false = refl

pub events_reverse : (setup : Setup) (log : List LogEntry) → events_of_master setup (reverse log) ≡ reverse (events_at setup.address log)
events_reverse setup [] = refl
events_reverse setup (e ∷ log) =
    ap (events_of_master setup) (reverse-append (e ∷ []) log) ∙ events_more setup (reverse log) (e ∷ [])
    ∙ ap (λ (z : List Event). z ++ events_of_master setup (e ∷ [])) (events_reverse setup log)
    ∙ ap (λ (z : List Event). reverse (events_at setup.address log) ++ z) (one setup e)
    ∙ sym (reverse-append (event_at setup.address e) (events_at setup.address log))

pub failed_first : FailedIsFirst
failed_first sc h log run id phase cause r =
    failed_is_first (setup_from sc) (setups_heard sc h) (reverse log) (entry_by_entry sc log run) id phase cause (ap (λ (z : List Event). (course (setup_from sc) z).report) (events_reverse (setup_from sc) log) ∙ r)

pub go_one_by_one : RunRequestsGoOneByOne
go_one_by_one sc h log run slave i = one_by_one (setup_from sc) (setups_heard sc h).heard (reverse log) (entry_by_entry sc log run) i.0 slave i.1

pub finished_acknowledged : RunFinishIsAcknowledged
finished_acknowledged sc h log run steps r =
    finished_is_acknowledged (setup_from sc) (setups_heard sc h).heard (reverse log) (entry_by_entry sc log run) steps (ap (λ (z : List Event). (course (setup_from sc) z).report) (events_reverse (setup_from sc) log) ∙ r)

pub are_barriers : RunPhasesAreBarriers
are_barriers sc h log run s t i j = barriers (setup_from sc) (setups_heard sc h).heard (reverse log) (entry_by_entry sc log run) i.0 j.0 s t i.1 j.1
