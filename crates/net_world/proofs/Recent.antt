-- What waits was sent so.
use Rattle.std.proofs.Common.{subst, ◌≡◌, ℕ, ◌+◌, ◌≤◌, ◌&&◌, List, [], ◌∷◌, ◌++◌, map, Bool, true, false, cond, Option, None, Some, refl, ap, ◌∙◌, inl, inr, arith, append_assoc, nat_le, nat_lt}
use Rattle.std.proofs.lemmas.Bool.{cases_Bool, false≢true}
use Rattle.std.proofs.lemmas.List.{append-nil}
use Rattle.std.proofs.lemmas.Bool.Decides.{nat_tests}
use Rattle.std.proofs.lemmas.List.Sums.{sum_by-append}
use Rattle.dcp_types.specs.declared.addresses.Address.{Address}
use Rattle.dcp_ends.specs.Logs.{same_address}
use Rattle.dcp_ends.specs.declared.entries.LogEntry.{LogEntry}
use Rattle.dcp_ends.specs.declared.entries.LogEntry.TheVariants.{Sent, Got, Idle, Turn}
use Rattle.dcp_net.specs.declared.openings.Opening.{Opening}
use Rattle.dcp_net.specs.Firsts.{first_that, without_first}
use Rattle.net_world.specs.declared.deliveries.Arrival.{Arrival}
use Rattle.net_world.specs.Calls.{AllRecent, BringsDue, GivesDue, IsRecent, MayBeGot, MayBeMade}
use Rattle.net_world.specs.Deliveries.{all_placed, delivery, due, is_due_now, is_ready_for, is_young, lags, put_in_place, waiting, waits_after, waits_after_all}
use Rattle.net_world.specs.Messages.{is_message, messages}
use Rattle.net_world.proofs.Boxed.{same_is_one}

-- a delivery of a message that was sent in these calls
record IsFrom (calls : List LogEntry) (d : Arrival) : Type 0 where
  earlier : List LogEntry
  later : List LogEntry
  is : calls ≡ earlier ++ Sent d.from d.to d.bytes ∷ later
  number : d.number ≡ messages earlier + 1

abbrev AllFrom : List LogEntry → List Arrival → Type 0
AllFrom calls [] = Unit {0}
AllFrom calls (d ∷ ds) = IsFrom calls d × AllFrom calls ds

AllFrom-more : (calls : List LogEntry) (call : LogEntry) (ds : List Arrival) → AllFrom calls ds → AllFrom (calls ++ call ∷ []) ds
AllFrom-more calls call [] all = tt
AllFrom-more calls call (d ∷ ds) all =
    let from = all.0 in (
      record {
        earlier = from.earlier;
        later = from.later ++ call ∷ [];
        is = ap (λ (l : List LogEntry). l ++ call ∷ []) from.is ∙ append_assoc from.earlier (Sent d.from d.to d.bytes ∷ from.later) (call ∷ []);
        number = from.number;
      },
      AllFrom-more calls call ds all.1,
    )

AllFrom-placed : (calls : List LogEntry) (d : Arrival) (ds : List Arrival) → IsFrom calls d → AllFrom calls ds → AllFrom calls (put_in_place d ds)
AllFrom-placed calls d [] from all = (from, tt)
AllFrom-placed calls d (e ∷ ds) from all =
    elim (cases_Bool (nat_lt d.due e.due)) [ inl before ↦ rw before (from, all) | inr behind ↦ rw behind (all.0, AllFrom-placed calls d ds from all.1) ]

AllFrom-sent : (calls : List LogEntry) (from to : Address) (bytes : List ℕ) (late : List ℕ) (ds : List Arrival) → AllFrom (calls ++ Sent from to bytes ∷ []) ds
    → AllFrom (calls ++ Sent from to bytes ∷ []) (all_placed (map (delivery (messages calls + 1) from to bytes) late) ds)
AllFrom-sent calls from to bytes [] ds all = all
AllFrom-sent calls from to bytes (lag ∷ late) ds all =
    AllFrom-sent calls from to bytes late (put_in_place (delivery (messages calls + 1) from to bytes lag) ds)
    (AllFrom-placed (calls ++ Sent from to bytes ∷ []) (delivery (messages calls + 1) from to bytes lag) ds (record { earlier = calls; later = []; is = refl; number = refl }) all)

AllFrom-without : (calls : List LogEntry) (p : Arrival → Bool) (ds : List Arrival) → AllFrom calls ds → AllFrom calls (without_first p ds)
AllFrom-without calls p [] all = tt
AllFrom-without calls p (d ∷ ds) all = elim (cases_Bool (p d)) [ inl found ↦ rw found all.1 | inr other ↦ rw other (all.0, AllFrom-without calls p ds all.1) ]

AllFrom-after : (o : Opening) (calls : List LogEntry) (ds : List Arrival) (call : LogEntry) → AllFrom calls ds → AllFrom (calls ++ call ∷ []) (waits_after o calls ds call)
AllFrom-after o calls ds (Sent from to bytes) all = AllFrom-sent calls from to bytes (lags o calls from bytes) ds (AllFrom-more calls (Sent from to bytes) ds all)
AllFrom-after o calls ds (Got at from bytes) all = AllFrom-without (calls ++ Got at from bytes ∷ []) (is_ready_for at (messages calls)) ds (AllFrom-more calls (Got at from bytes) ds all)
AllFrom-after o calls ds (Idle at) all = AllFrom-more calls (Idle at) ds all
AllFrom-after o calls ds (Turn at) all = AllFrom-more calls (Turn at) ds all

AllFrom-all : (o : Opening) (before : List LogEntry) (ds : List Arrival) (calls : List LogEntry) → AllFrom before ds → AllFrom (before ++ calls) (waits_after_all o before ds calls)
AllFrom-all o before ds [] all = rw append-nil all
AllFrom-all o before ds (c ∷ calls) all =
    rw append_assoc at (AllFrom-all o (before ++ c ∷ []) (waits_after o before ds c) calls (AllFrom-after o before ds c all))

found_from : (calls : List LogEntry) (p : Arrival → Bool) (ds : List Arrival) (d : Arrival) → AllFrom calls ds → first_that p ds ≡ Some d → IsFrom calls d × (p d ≡ true)
found_from calls p [] d all found = cc
found_from calls p (e ∷ ds) d all found =
    elim (cases_Bool (p e)) [
      | inl passes ↦ let same : e ≡ d = cc (rw passes at found) in (subst (IsFrom calls) same all.0, subst (λ (x : Arrival). p x ≡ true) same passes)
      | inr other ↦ found_from calls p ds d all.1 (rw other at found)
    ]

young_means : (sent n : ℕ) → nat_le sent n ≡ true → sent ≤ n
young_means sent n h = grind (arith, nat_tests)

and_last : (a b : Bool) → (a && b) ≡ true → b ≡ true
and_last true b h = h
and_last false b h = absurd (false≢true h)

and_front : (a b : Bool) → (a && b) ≡ true → a ≡ true
and_front true b h = refl
and_front false b h = h

messages-append : (xs ys : List LogEntry) → messages (xs ++ ys) ≡ messages xs + messages ys
messages-append xs ys = sum_by-append (λ e. cond (is_message e) 1 0) xs ys

recent_from : (calls : List LogEntry) (at from : Address) (bytes : List ℕ) (d : Arrival) → IsFrom calls d → d.to ≡ at → from ≡ d.from → bytes ≡ d.bytes → messages calls ≤ d.number + 32767 → IsRecent calls at from bytes
recent_from calls at from bytes d origin to sender same young =
    let whole : messages calls ≡ messages origin.earlier + messages (Sent d.from d.to d.bytes ∷ origin.later) =
    ap messages origin.is ∙ messages-append origin.earlier (Sent d.from d.to d.bytes ∷ origin.later) in
    let split : messages (Sent d.from d.to d.bytes ∷ origin.later) ≡ 1 + messages origin.later = messages-append (Sent d.from d.to d.bytes ∷ []) origin.later in
    let entry : Sent d.from d.to d.bytes ≡ Sent from at bytes = rw (sender, same, ← to) refl in
    record {
      earlier = origin.earlier;
      later = origin.later;
      is = origin.is ∙ ap (λ (e : LogEntry). origin.earlier ++ e ∷ origin.later) entry;
      recent = omega (arith, origin.number);
    }

-- what is due was sent so not long before
recent_due : (o : Opening) (calls : List LogEntry) (at from : Address) (bytes : List ℕ) (d : Arrival) → due o calls at ≡ Some d → from ≡ d.from → bytes ≡ d.bytes → IsRecent calls at from bytes
recent_due o calls at from bytes d is sender same =
    let found = found_from calls (is_ready_for at (messages calls)) (waiting o calls) d (AllFrom-all o [] [] calls tt) is in
    let ready = found.1 in
    let to : d.to ≡ at = same_is_one d.to at (and_front (same_address d.to at) (is_due_now (messages calls) d) ready) in
    let young : messages calls ≤ d.number + 32767 =
    young_means (messages calls) (d.number + 32767) (and_last (nat_le d.due (messages calls)) (is_young (messages calls) d) (and_last (same_address d.to at) (is_due_now (messages calls) d) ready)) in
    recent_from calls at from bytes d found.0 to sender same young

recent_brought : (o : Opening) (calls : List LogEntry) (at from : Address) (bytes : List ℕ) (x : Option Arrival) → due o calls at ≡ x → BringsDue x from bytes → IsRecent calls at from bytes
recent_brought o calls at from bytes None is brings = absurd brings
recent_brought o calls at from bytes (Some d) is brings = recent_due o calls at from bytes d is brings.0 brings.1

recent_call : (o : Opening) (calls : List LogEntry) (call : LogEntry) → MayBeMade o calls call → MayBeGot calls call
recent_call o calls (Sent from to bytes) may = tt
recent_call o calls (Got at from bytes) may = recent_brought o calls at from bytes (due o calls at) refl may
recent_call o calls (Idle at) may = tt
recent_call o calls (Turn at) may = tt

pub all_recent : (o : Opening) (before calls : List LogEntry) → GivesDue o before calls → AllRecent before calls
all_recent o before [] given = tt
all_recent o before (c ∷ calls) given = (recent_call o before c given.0, all_recent o (before ++ c ∷ []) calls given.1)
