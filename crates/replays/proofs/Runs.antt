-- The log of a run that reported: nothing in it differs.
use Rattle.std.proofs.Common.{◌≡◌, ℕ, List, [], ◌∷◌, ◌++◌, Some, refl, sym, ap, ◌∙◌}
use Rattle.std.proofs.lemmas.List.{append-nil}
use Rattle.dcp_types.specs.declared.addresses.Address.{Address}
use Rattle.dcp_ends.specs.declared.entries.LogEntry.{LogEntry}
use Rattle.dcp_ends.specs.declared.entries.LogEntry.TheVariants.{Sent, Got, Idle, Turn}
use Rattle.dcp_ends.specs.Events.{Event, Gram, Tick, Send, Rules}
use Rattle.dcp_ends.specs.Logs.{answered, entry_of, event_at, events_at, own_at, own_entry, sent_by}
use Rattle.rounds.specs.Rounds.{AllSent}
use Rattle.rounds.proofs.Logs.{events_at-append, own_at-append, same_address-refl}
use Rattle.replays.specs.Visits.{event_in, place_in, visit_sends}

-- ---- where the sends of an event end

abbrev pub Headed : List LogEntry → Type 0
Headed [] = Unit {0}
Headed (Sent from to bytes ∷ part) = ⊥
Headed (Got at from bytes ∷ part) = Unit {0}
Headed (Idle at ∷ part) = Unit {0}
Headed (Turn at ∷ part) = Unit {0}

answered_headed : (r : Rules) (before events : List Event) → Headed (answered r before events)
answered_headed r before [] = tt
answered_headed r before (Gram from bytes ∷ events) = tt
answered_headed r before (Tick ∷ events) = tt

not_headed : (l rest : List LogEntry) (from to : Address) (bytes : List ℕ) → Headed l → l ≡ Sent from to bytes ∷ rest → ⊥
not_headed l rest from to bytes headed same = rw same at headed

cut : (a : Address) (xs : List LogEntry) (ys : List Send) (zs ws : List LogEntry) → AllSent a xs → Headed zs → Headed ws → xs ++ zs ≡ sent_by a ys ++ ws → (xs ≡ sent_by a ys) × (zs ≡ ws)
cut a [] [] zs ws own hz hw same = (refl, same)
cut a [] (y ∷ ys) zs ws own hz hw same = absurd (not_headed zs _ a y.to y.bytes hz same)
cut a (Sent from to bytes ∷ xs) [] zs ws own hz hw same = absurd (not_headed ws _ from to bytes hw (sym same))
cut a (Sent from to bytes ∷ xs) (y ∷ ys) zs ws own hz hw same =
    let tail : xs ++ zs ≡ sent_by a ys ++ ws = cc in
    let head : Sent from to bytes ≡ Sent a y.to y.bytes = cc in
    let rest = cut a xs ys zs ws own.1 hz hw tail in
    let front : xs ≡ sent_by a ys = rest.0 in
    (cc, rest.1)
cut a (Got at from bytes ∷ xs) ys zs ws own hz hw same = absurd own
cut a (Idle at ∷ xs) ys zs ws own hz hw same = absurd own
cut a (Turn at ∷ xs) ys zs ws own hz hw same = absurd own

-- ---- what an end sent, read from the log

own_at-own : (a : Address) (xs : List LogEntry) → AllSent a xs → own_at a xs ≡ xs
own_at-own a [] own = refl
own_at-own a (Sent from to bytes ∷ xs) own = let same : from ≡ a = own.0 in rw (same, same_address-refl) (ap (λ rest. Sent a to bytes ∷ rest) (own_at-own a xs own.1))
own_at-own a (Got at from bytes ∷ xs) own = absurd own
own_at-own a (Idle at ∷ xs) own = absurd own
own_at-own a (Turn at ∷ xs) own = absurd own

pub events_at-own : (a b : Address) (xs : List LogEntry) → AllSent a xs → events_at b xs ≡ []
events_at-own a b [] own = refl
events_at-own a b (Sent from to bytes ∷ xs) own = events_at-own a b xs own.1
events_at-own a b (Got at from bytes ∷ xs) own = absurd own
events_at-own a b (Idle at ∷ xs) own = absurd own
events_at-own a b (Turn at ∷ xs) own = absurd own

-- what is left of the log, for one end: its events, each with its sends
abbrev pub Rest : Rules → (done left : List LogEntry) → Type 0
Rest r done left = own_at r.place left ≡ answered r (events_at r.place done) (events_at r.place left)

-- an entry of the end and what it sent are followed by the rest, which begins with no Sent of the end
pub record Taken (r : Rules) (done : List LogEntry) (entry : LogEntry) (sents left : List LogEntry) : Type 0 where
  pub sends_are : sents ≡ sent_by r.place (visit_sends r (events_at r.place done) entry)
  pub rest : Rest r (done ++ entry ∷ sents) left

module _ (r : Rules) (done : List LogEntry) (sents left : List LogEntry) (own : AllSent r.place sents) (headed : Headed (own_at r.place left)) where
  own_left : own_at r.place (sents ++ left) ≡ sents ++ own_at r.place left
  own_left = own_at-append r.place sents left ∙ ap (λ l. l ++ own_at r.place left) (own_at-own r.place sents own)

  events_left : events_at r.place (sents ++ left) ≡ events_at r.place left
  events_left = events_at-append r.place sents left ∙ ap (λ l. l ++ events_at r.place left) (events_at-own r.place r.place sents own)

  pub events_done : (entry : LogEntry) → events_at r.place (done ++ entry ∷ sents) ≡ events_at r.place done ++ event_at r.place entry
  events_done entry =
      events_at-append r.place done (entry ∷ sents)
      ∙ ap (λ more. events_at r.place done ++ (event_at r.place entry ++ more)) (events_at-own r.place r.place sents own)
      ∙ ap (λ more. events_at r.place done ++ more) (append-nil (event_at r.place entry))

  -- at an event
  at_event : (entry : LogEntry) (event : Event) → own_entry r.place entry ≡ entry ∷ [] → event_at r.place entry ≡ event ∷ [] → visit_sends r (events_at r.place done) entry ≡ r.sends (events_at r.place done) event
      → Rest r done (entry ∷ (sents ++ left)) → Taken r done entry sents left
  at_event entry event mine happens sends rest =
      let whole : entry ∷ (sents ++ own_at r.place left) ≡ entry_of r.place event ∷ (sent_by r.place (r.sends (events_at r.place done) event) ++ answered r (events_at r.place done ++ event ∷ []) (events_at r.place left)) =
      ap (λ l. entry ∷ l) (sym own_left) ∙ ap (λ l. l ++ own_at r.place (sents ++ left)) (sym mine) ∙ rest
      ∙ ap (λ es. answered r (events_at r.place done) (es ++ events_at r.place (sents ++ left))) happens ∙ ap (λ es. answered r (events_at r.place done) (event ∷ es)) events_left in
      let tail : sents ++ own_at r.place left ≡ sent_by r.place (r.sends (events_at r.place done) event) ++ answered r (events_at r.place done ++ event ∷ []) (events_at r.place left) = cc in
      let parts = cut r.place sents (r.sends (events_at r.place done) event) (own_at r.place left) _ own headed (answered_headed r _ (events_at r.place left)) tail in
      record {
        sends_are = parts.0 ∙ ap (sent_by r.place) (sym sends);
        rest = parts.1 ∙ ap (λ es. answered r es (events_at r.place left)) (sym (events_done entry ∙ ap (λ es. events_at r.place done ++ es) happens));
      }

  -- at an Idle, which nothing follows
  at_idle : (at : Address) → sents ≡ [] → Rest r done (Idle at ∷ (sents ++ left)) → Taken r done (Idle at) sents left
  at_idle at none rest =
      record {
        sends_are = none;
        rest = ap (λ l. l ++ own_at r.place left) (sym none) ∙ sym own_left ∙ rest ∙ ap (answered r (events_at r.place done)) events_left
            ∙ ap (λ es. answered r es (events_at r.place left)) (sym (events_done (Idle at) ∙ append-nil (events_at r.place done)));
      }

  pub at_entry : (entry : LogEntry) → place_in entry ≡ Some r.place → (event_in entry ≡ [] → sents ≡ []) → Rest r done (entry ∷ (sents ++ left)) → Taken r done entry sents left
  at_entry (Sent from to bytes) is idle rest = cc
  at_entry (Got at from bytes) is idle rest =
      let same : at ≡ r.place = cc in at_event (Got at from bytes) (Gram from bytes) (rw (same, same_address-refl) refl) (rw (same, same_address-refl) refl) refl rest
  at_entry (Idle at) is idle rest = at_idle at (idle refl) rest
  at_entry (Turn at) is idle rest =
      let same : at ≡ r.place = cc in at_event (Turn at) Tick (rw (same, same_address-refl) refl) (rw (same, same_address-refl) refl) refl rest
