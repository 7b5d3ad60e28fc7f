-- The definitions over one more call.
use Rattle.std.proofs.Common.{◌≡◌, ℕ, ◌+◌, List, [], ◌∷◌, ◌++◌, map, Bool, cond, ap, sym, ◌∙◌, append_assoc, zero-add, count_by}
use Rattle.std.proofs.lemmas.List.{append-nil}
use Rattle.std.proofs.lemmas.List.Sums.{sum_by-append}
use Rattle.dcp_ends.specs.declared.entries.LogEntry.{LogEntry}
use Rattle.dcp_ends.specs.declared.entries.LogEntry.TheVariants.{Sent, Got, Idle, Turn}
use Rattle.dcp_net.specs.declared.openings.Opening.{Opening}
use Rattle.net_world.specs.declared.deliveries.Arrival.{Arrival}
use Rattle.net_world.specs.Calls.{GivesDue, MayBeMade}
use Rattle.net_world.specs.Deliveries.{delivery, is_ready_for, lags, waiting, waits_after, waits_after_all}
use Rattle.net_world.specs.Messages.{messages}
use Rattle.net_world.specs.Queues.{InOrder}
use Rattle.net_world.proofs.Kept.{InOrder-all_placed, InOrder-without}

-- one more element is counted, if it passes
pub count_more : {A : Type 0} (p : A → Bool) (xs : List A) (x : A) → count_by p (xs ++ x ∷ []) ≡ count_by p xs + cond (p x) 1 0
count_more p xs x = sum_by-append (λ y. cond (p y) 1 0) xs (x ∷ []) ∙ ap (λ (n : ℕ). count_by p xs + n) (zero-add (cond (p x) 1 0))

pub waits_after_all-more : (o : Opening) (before : List LogEntry) (all : List Arrival) (calls : List LogEntry) (call : LogEntry)
    → waits_after_all o before all (calls ++ call ∷ []) ≡ waits_after o (before ++ calls) (waits_after_all o before all calls) call
waits_after_all-more o before all [] call = ap (λ (b : List LogEntry). waits_after o b all call) (sym (append-nil before))
waits_after_all-more o before all (c ∷ calls) call =
    waits_after_all-more o (before ++ c ∷ []) (waits_after o before all c) calls call
    ∙ ap (λ (b : List LogEntry). waits_after o b (waits_after_all o (before ++ c ∷ []) (waits_after o before all c) calls) call) (append_assoc before (c ∷ []) calls)

pub waiting-more : (o : Opening) (calls : List LogEntry) (call : LogEntry) → waiting o (calls ++ call ∷ []) ≡ waits_after o calls (waiting o calls) call
waiting-more o calls call = waits_after_all-more o [] [] calls call

pub Delivers-more : (o : Opening) (before calls : List LogEntry) (call : LogEntry) → GivesDue o before calls → MayBeMade o (before ++ calls) call → GivesDue o before (calls ++ call ∷ [])
Delivers-more o before [] call given may = (rw append-nil at may, tt)
Delivers-more o before (c ∷ calls) call given may = (given.0, Delivers-more o (before ++ c ∷ []) calls call given.1 (rw append_assoc may))

InOrder-after : (o : Opening) (before : List LogEntry) (all : List Arrival) (call : LogEntry) → InOrder all → InOrder (waits_after o before all call)
InOrder-after o before all (Sent from to bytes) order = InOrder-all_placed (map (delivery (messages before + 1) from to bytes) (lags o before from bytes)) all order
InOrder-after o before all (Got at from bytes) order = InOrder-without (is_ready_for at (messages before)) all order
InOrder-after o before all (Idle at) order = order
InOrder-after o before all (Turn at) order = order

InOrder-all : (o : Opening) (before : List LogEntry) (all : List Arrival) (calls : List LogEntry) → InOrder all → InOrder (waits_after_all o before all calls)
InOrder-all o before all [] order = order
InOrder-all o before all (c ∷ calls) order = InOrder-all o (before ++ c ∷ []) (waits_after o before all c) calls (InOrder-after o before all c order)

-- what waits stands in the order of its due numbers
pub waiting-in_order : (o : Opening) (calls : List LogEntry) → InOrder (waiting o calls)
waiting-in_order o calls = InOrder-all o [] [] calls tt
