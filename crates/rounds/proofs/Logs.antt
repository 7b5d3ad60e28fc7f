-- What a longer log tells of an end.
use Rattle.std.proofs.Common.{◌≡◌, ℕ, List, [], ◌∷◌, ◌++◌, true, refl, ap, sym, ◌∙◌, append_assoc, inl, inr, eq-eqb, Option}
use Rattle.std.proofs.lemmas.List.{append-nil}
use Rattle.dcp_types.specs.declared.addresses.Address.{Address}
use Rattle.dcp_ends.specs.declared.entries.LogEntry.{LogEntry}
use Rattle.dcp_ends.specs.declared.entries.LogEntry.TheVariants.{Sent, Got, Idle}
use Rattle.dcp_ends.specs.Events.{Event, Gram, Tick, Send, Rules}
use Rattle.dcp_ends.specs.Logs.{same_address, event_at, events_at, own_entry, own_at, sent_by, entry_of, answered}
use Rattle.rounds.specs.Rounds.{AllSent, IsGot, IsGotPart}
use Rattle.rounds.specs.Steps.{Added, SendsSome, LookForm, AddsPart}
use Rattle.rounds.specs.Told.{Follows, IsTold, IsToldUpTo}
use Rattle.rounds.proofs.Parts.{sent_by-append, Added-join}

pub events_at-append : (a : Address) (p q : List LogEntry) → events_at a (p ++ q) ≡ events_at a p ++ events_at a q
events_at-append a [] q = refl
events_at-append a (e ∷ p) q = ap (λ rest. event_at a e ++ rest) (events_at-append a p q) ∙ sym (append_assoc (event_at a e) (events_at a p) (events_at a q))

pub own_at-append : (a : Address) (p q : List LogEntry) → own_at a (p ++ q) ≡ own_at a p ++ own_at a q
own_at-append a [] q = refl
own_at-append a (e ∷ p) q = ap (λ rest. own_entry a e ++ rest) (own_at-append a p q) ∙ sym (append_assoc (own_entry a e) (own_at a p) (own_at a q))

pub same_address-refl : (a : Address) → same_address a a ≡ true
same_address-refl a = rw (eq-eqb a.ip a.ip refl, eq-eqb a.port a.port refl)

pub events_at-sents : (a b : Address) (sends : List Send) → events_at a (sent_by b sends) ≡ []
events_at-sents a b [] = refl
events_at-sents a b (s ∷ sends) = events_at-sents a b sends

pub own_at-sents : (a : Address) (sends : List Send) → own_at a (sent_by a sends) ≡ sent_by a sends
own_at-sents a [] = refl
own_at-sents a (s ∷ sends) = rw same_address-refl (ap (λ rest. Sent a s.to s.bytes ∷ rest) (own_at-sents a sends))

pub event_at-own : (a : Address) (event : Event) → event_at a (entry_of a event) ≡ event ∷ []
event_at-own a (Gram from bytes) = rw same_address-refl
event_at-own a Tick = rw same_address-refl

pub own_entry-own : (a : Address) (event : Event) → own_entry a (entry_of a event) ≡ entry_of a event ∷ []
own_entry-own a (Gram from bytes) = rw same_address-refl
own_entry-own a Tick = rw same_address-refl

pub answered-append : (rules : Rules) (before events : List Event) (event : Event)
    → answered rules before (events ++ event ∷ []) ≡ answered rules before events ++ entry_of rules.place event ∷ sent_by rules.place (rules.sends (before ++ events) event)
answered-append rules before [] event =
    rw (append-nil, append-nil)
answered-append rules before (e ∷ events) event =
    let rest = rw (append_assoc before (e ∷ []) events) at (answered-append rules (before ++ e ∷ []) events event) in
    rw rest (ap (λ more. entry_of rules.place e ∷ more) (sym (append_assoc (sent_by rules.place (rules.sends before e)) (answered rules (before ++ e ∷ []) events)
    (entry_of rules.place event ∷ sent_by rules.place (rules.sends (before ++ e ∷ events) event)))))

pub AllSent-sent_by : (a : Address) (sends : List Send) → AllSent a (sent_by a sends)
AllSent-sent_by a [] = tt
AllSent-sent_by a (s ∷ sends) = (refl, AllSent-sent_by a sends)

-- the events after one more, with some of its sends
pub events_at-event : (a : Address) (log : List LogEntry) (event : Event) (sends : List Send) → events_at a (log ++ entry_of a event ∷ sent_by a sends) ≡ events_at a log ++ event ∷ []
events_at-event a log event sends =
    events_at-append a log (entry_of a event ∷ sent_by a sends)
    ∙ ap (λ rest. events_at a log ++ rest) (ap (λ es. es ++ events_at a (sent_by a sends)) (event_at-own a event) ∙ ap (λ rest. event ∷ rest) (events_at-sents a a sends))

pub own_at-event : (a : Address) (log : List LogEntry) (event : Event) (sends : List Send) → own_at a (log ++ entry_of a event ∷ sent_by a sends) ≡ own_at a log ++ entry_of a event ∷ sent_by a sends
own_at-event a log event sends =
    own_at-append a log (entry_of a event ∷ sent_by a sends)
    ∙ ap (λ rest. own_at a log ++ rest) (ap (λ es. es ++ own_at a (sent_by a sends)) (own_entry-own a event) ∙ ap (λ rest. entry_of a event ∷ rest) (own_at-sents a sends))

-- the log goes on by one event with some of its sends, all but these
pub Follows-event : (rules : Rules) (log : List LogEntry) (event : Event) (gone left : List Send) → gone ++ left ≡ rules.sends (events_at rules.place log) event → Follows rules log
    → own_at rules.place (log ++ entry_of rules.place event ∷ sent_by rules.place gone) ++ sent_by rules.place left
    ≡ answered rules [] (events_at rules.place (log ++ entry_of rules.place event ∷ sent_by rules.place gone))
Follows-event rules log event gone left split follows =
    let a = rules.place in
    rw (events_at-event a log event gone, own_at-event a log event gone, answered-append rules [] (events_at a log) event, ← split, sent_by-append, follows, append_assoc)

module _ {E : Type 0} (stands : E → List Event → Type 0) (rules : Rules) where
  pub IsCut-told : (end : E) (log : List LogEntry) → IsTold stands rules end log → IsToldUpTo stands rules end log
  IsCut-told end log told = record { stands_for = told.stands_for; follows = record { left = []; own = append-nil (own_at rules.place log) ∙ told.follows; last = inl refl } }

  pub IsTold-same : (end : E) (log more : List LogEntry) → more ≡ log ++ [] → IsTold stands rules end log → IsTold stands rules end more
  IsTold-same end log more same told = rw (same, append-nil) told

  -- an Idle tells nothing of an end
  pub IsTold-idle : (end : E) (a : Address) (log more : List LogEntry) → more ≡ log ++ Idle a ∷ [] → IsTold stands rules end log → IsTold stands rules end more
  IsTold-idle end a log more same told =
      let events : events_at rules.place (log ++ Idle a ∷ []) ≡ events_at rules.place log = events_at-append rules.place log (Idle a ∷ []) ∙ append-nil _ in
      let own : own_at rules.place (log ++ Idle a ∷ []) ≡ own_at rules.place log = own_at-append rules.place log (Idle a ∷ []) ∙ append-nil _ in
      rw same (record { stands_for = rw events told.stands_for; follows = own ∙ told.follows ∙ ap (answered rules []) (sym events) })

  module _ {N : Type 0} (calls : N → Option (List LogEntry)) (a b c : N) (l m n : List LogEntry) (event : Event) (sends : List Send) (e0 e1 e2 : E)
      (told : IsTold stands rules e0 l) (got : Added calls a b l m (entry_of rules.place event ∷ []))
      (moved : (events : List Event) → stands e0 events → stands e1 (events ++ event ∷ []))
      (does : (events : List Event) → stands e0 events → sends ≡ rules.sends events event)
      (kept : (events : List Event) → stands e1 events → stands e2 events) where
    longer : (gone : List Send) → Added calls b c m n (sent_by rules.place gone) → n ≡ l ++ entry_of rules.place event ∷ sent_by rules.place gone
    longer gone sent = sent.log ∙ ap (λ xs. xs ++ sent_by rules.place gone) got.log ∙ append_assoc l (entry_of rules.place event ∷ []) (sent_by rules.place gone)

    stands_for : (gone : List Send) → stands e2 (events_at rules.place (l ++ entry_of rules.place event ∷ sent_by rules.place gone))
    stands_for gone = rw (events_at-event rules.place l event gone) (kept _ (moved _ told.stands_for))

    -- the end took an event, and all of its sends went out
    pub IsTold-event : Added calls b c m n (sent_by rules.place sends) → IsTold stands rules e2 n
    IsTold-event sent =
        let all : sends ++ [] ≡ rules.sends (events_at rules.place l) event = append-nil sends ∙ does _ told.stands_for in
        let own = Follows-event rules l event sends [] all told.follows in
        rw (longer sends sent) (record { stands_for = stands_for sends; follows = rw append-nil at own })

    -- the end took an event, and some of its sends went out
    pub IsCut-event : SendsSome calls rules.place sends b c m n → IsToldUpTo stands rules e2 n
    IsCut-event some =
        let all : some.gone ++ some.left ≡ rules.sends (events_at rules.place l) event = some.split ∙ does _ told.stands_for in
        rw (longer some.gone some.added) (record {
          stands_for = stands_for some.gone;
          follows = record {
            left = sent_by rules.place some.left;
            own = Follows-event rules l event some.gone some.left all told.follows;
            last = inr (record { before = l; event = event; sents = sent_by rules.place some.gone; form = refl; own = AllSent-sent_by rules.place some.gone });
          };
        })

module _ {N : Type 0} (calls : N → Option (List LogEntry)) (p : Address) (a b c : N) (l m n : List LogEntry) (from : Address) (bytes : List ℕ) (sends : List Send) where
  got_form : (gone : List Send) → IsGot p (Got p from bytes ∷ sent_by p gone)
  got_form gone = record { from = from; bytes = bytes; sents = sent_by p gone; form = refl; own = AllSent-sent_by p gone }

  pub LookedOnce-got : Added calls a b l m (Got p from bytes ∷ []) → Added calls b c m n (sent_by p sends) → AddsPart calls (LookForm p true) a c l n
  LookedOnce-got got sent = record {
    part = Got p from bytes ∷ sent_by p sends;
    form = got_form sends;
    added = Added-join calls a b c l m n (Got p from bytes ∷ []) (sent_by p sends) got sent;
  }

  pub LookStopped-got : Added calls a b l m (Got p from bytes ∷ []) → SendsSome calls p sends b c m n → AddsPart calls (IsGotPart p) a c l n
  LookStopped-got got some = record {
    part = Got p from bytes ∷ sent_by p some.gone;
    form = inr (got_form some.gone);
    added = Added-join calls a b c l m n (Got p from bytes ∷ []) (sent_by p some.gone) got some.added;
  }
