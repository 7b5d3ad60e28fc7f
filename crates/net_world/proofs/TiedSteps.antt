-- What the parts of an open network are after one more call.
use Rattle.std.proofs.Common.{◌≡◌, ℕ, ◌+◌, ◌*◌, ◌^◌, ◌<◌, ◌≤◌, List, [], ◌∷◌, ◌++◌, length, map, take, get_or, Bool, true, false, cond, Option, None, Some, suc, refl, ap, sym, subst, ◌∙◌, inl, inr, arith, add-zero}
use Rattle.std.specs.List.{filter, All}
use Rattle.std.specs.Option.{option_map, option_to_list}
use Rattle.std.proofs.lemmas.Bool.{cases_Bool}
use Rattle.std.proofs.lemmas.List.Elements.{All-map}
use Rattle.std.proofs.lemmas.List.Sums.{sum_by-cons}
use Rattle.dcp_types.specs.declared.addresses.Address.{Address}
use Rattle.dcp_ends.specs.Logs.{same_address}
use Rattle.dcp_ends.specs.declared.entries.LogEntry.{LogEntry}
use Rattle.dcp_ends.specs.declared.entries.LogEntry.TheVariants.{Sent, Got, Idle, Turn}
use Rattle.scenario.specs.declared.net_plans.NetLine.{NetLine}
use Rattle.scenario.specs.declared.net_plans.Chaos.{Chaos}
use Rattle.dcp_net.specs.declared.openings.Opening.{Opening}
use Rattle.dcp_net.specs.Firsts.{first_that, without_first}
use Rattle.net_world.specs.declared.deliveries.Arrival.{Arrival}
use Rattle.net_world.specs.declared.mailboxes.Mailbox.{Mailbox}
use Rattle.net_world.specs.declared.watches.Watch.{Watch}
use Rattle.net_world.specs.Chances.{after_steps, generator_at, lags_by_chance, after_draws}
use Rattle.net_world.specs.Deliveries.{all_placed, delivery, due, is_due_now, is_ready_for, is_young, lags, lags_by, waiting}
use Rattle.net_world.specs.Lines.{end_named, line_for, line_names, seen_by, line_code}
use Rattle.net_world.specs.Mailboxes.{queue_of}
use Rattle.net_world.specs.Messages.{is_call_of, is_message, is_from_end, messages, messages_from}
use Rattle.net_world.specs.Queues.{AllShort, InOrder}
use Rattle.net_world.specs.Tied.{IsTied, Queues}
use Rattle.net_world.specs.Watches.{watch_counted, line_watched, watch_after, watch_names}
use Rattle.net_world.proofs.Append.{Delivers-more, count_more, waiting-in_order, waiting-more}
use Rattle.net_world.proofs.Boxed.{same_is_one}
use Rattle.net_world.proofs.Kept.{Queues-later, Queues-sent, Queues-sent_other, Queues-taken, Queues-taken_other, due_in_queue}

-- ---- the lines

module _ (all : List Address) (calls : List LogEntry) (from to : Address) (bytes : List ℕ) where
  one_counted : (line : NetLine) → watch_counted all from bytes (watch_after all calls line) ≡ watch_after all (calls ++ Sent from to bytes ∷ []) line
  one_counted line =
      let more = count_more (is_call_of all (end_named line) (line_code line)) calls (Sent from to bytes) in
      elim (cases_Bool (is_from_end all (end_named line) (line_code line) from bytes)) [
        | inl named ↦ rw (more, named) refl
        | inr other ↦ rw (more, other, add-zero) refl
      ]

  all_counted : (lines : List NetLine) → map (watch_counted all from bytes) (map (watch_after all calls) lines) ≡ map (watch_after all (calls ++ Sent from to bytes ∷ [])) lines
  all_counted [] = refl
  all_counted (line ∷ lines) = rw (one_counted line, all_counted lines) refl

  line_found : (lines : List NetLine) → option_map line_watched (first_that (watch_names all from bytes) (map (watch_after all calls) lines)) ≡ line_for all lines calls from bytes
  line_found [] = refl
  line_found (line ∷ lines) =
      elim (cases_Bool (line_names all calls from bytes line)) [ inl named ↦ rw named refl | inr other ↦ rw other (line_found lines) ]

-- a call that is no message leaves the counts
same_counts : (all : List Address) (calls : List LogEntry) (call : LogEntry) → ((end type_id : ℕ) → is_call_of all end type_id call ≡ false) → (lines : List NetLine)
    → map (watch_after all calls) lines ≡ map (watch_after all (calls ++ call ∷ [])) lines
same_counts all calls call none [] = refl
same_counts all calls call none (line ∷ lines) =
    let more = count_more (is_call_of all (end_named line) (line_code line)) calls call in
    rw (more, none (end_named line) (line_code line), add-zero, same_counts all calls call none lines) refl

-- ---- the generator

four_more : (n : ℕ) → 4 * (n + 1) ≡ suc (suc (suc (suc (4 * n))))
four_more n = omega arith

stepped-more : (chaos : Option Chaos) (n : ℕ) → after_draws chaos (generator_at chaos n) ≡ generator_at chaos (n + 1)
stepped-more None n = refl
stepped-more (Some chaos) n = sym (ap (λ (k : ℕ). after_steps k chaos.start) (four_more n))

-- ---- the lags, and lists

pub listed : {A B : Type 0} (f : A → B) (first second : Option A) → map f (option_to_list first ++ option_to_list second) ≡ option_to_list (option_map f first) ++ option_to_list (option_map f second)
listed f None None = refl
listed f None (Some y) = refl
listed f (Some x) None = refl
listed f (Some x) (Some y) = refl

none_without : {A : Type 0} (p : A → Bool) (xs : List A) → first_that p xs ≡ None → without_first p xs ≡ xs
none_without p [] none = refl
none_without p (x ∷ xs) none =
    elim (cases_Bool (p x)) [
      | inl found ↦ let some : Some x ≡ None = rw found at none in cc
      | inr other ↦ rw other (ap (λ ys. x ∷ ys) (none_without p xs (rw other at none)))
    ]

front : {A : Type 0} (xs ys : List A) → take (length xs) (xs ++ ys) ≡ xs
front [] ys = refl
front (x ∷ xs) ys = ap (λ zs. x ∷ zs) (front xs ys)

pub whole : {A : Type 0} (n : ℕ) (xs ys : List A) → n ≡ length xs → take n (xs ++ ys) ≡ xs
whole n xs ys e = rw e (front xs ys)

-- a message with a type code from an end is a message
one_seen : (all : List Address) (end type_id : ℕ) (call : LogEntry) → cond (is_call_of all end type_id call) 1 0 ≤ cond (is_message call) 1 0
one_seen all end type_id (Sent from to bytes) = at_most_one (is_from_end all end type_id from bytes)
  where
    at_most_one : (b : Bool) → cond b 1 0 ≤ 1
    at_most_one true = omega arith
    at_most_one false = omega arith
one_seen all end type_id (Got at from bytes) = omega arith
one_seen all end type_id (Idle at) = omega arith
one_seen all end type_id (Turn at) = omega arith

all_seen : (all : List Address) (end type_id : ℕ) (calls : List LogEntry) → messages_from all end type_id calls ≤ messages calls
all_seen all end type_id [] = omega arith
all_seen all end type_id (call ∷ calls) =
    let one = one_seen all end type_id call in
    let rest = all_seen all end type_id calls in
    let seen = sum_by-cons (λ (c : LogEntry). cond (is_call_of all end type_id c) 1 0) call calls in
    let sent = sum_by-cons (λ (c : LogEntry). cond (is_message c) 1 0) call calls in
    omega (arith, one, rest, seen, sent)

few_seen : (all : List Address) (calls : List LogEntry) (line : NetLine) → messages calls + 1 < 2 ^ 64 → seen_by all calls line + 1 < 2 ^ 64
few_seen all calls line few = let le = all_seen all (end_named line) (line_code line) calls in omega (arith, le)

module _ (o : Opening) (calls : List LogEntry) (watches : List Watch) (generator sent : ℕ) (boxes : List Mailbox) (tied : IsTied o calls watches generator sent boxes) where
  pub lags_told : (from : Address) (bytes lagged : List ℕ) → lagged ≡ lags_by (option_map line_watched (first_that (watch_names o.all from bytes) watches)) (lags_by_chance o.plan.chaos generator)
      → lagged ≡ lags o calls from bytes
  lags_told from bytes lagged is =
      is ∙ ap (λ ws. lags_by (option_map line_watched (first_that (watch_names o.all from bytes) ws)) (lags_by_chance o.plan.chaos generator)) tied.watched
      ∙ ap (λ line. lags_by line (lags_by_chance o.plan.chaos generator)) (line_found o.all calls from from bytes o.plan.lines)
      ∙ ap (λ x. lags_by (line_for o.all o.plan.lines calls from bytes) (lags_by_chance o.plan.chaos x)) tied.drawn

  pub tied_sent : (from to : Address) (bytes : List ℕ) (after : List Mailbox) (ds : List Arrival) → length bytes ≤ 1025 → ds ≡ map (delivery (sent + 1) from to bytes) (lags o calls from bytes)
      → queue_of to after ≡ all_placed ds (queue_of to boxes) → ((a : Address) → same_address to a ≡ false → queue_of a after ≡ queue_of a boxes)
      → IsTied o (calls ++ Sent from to bytes ∷ []) (map (watch_counted o.all from bytes) watches) (after_draws o.plan.chaos generator) (sent + 1) after
  tied_sent from to bytes after ds fits is put_in_place others =
      let call : LogEntry = Sent from to bytes in
      let more : messages (calls ++ call ∷ []) ≡ messages calls + 1 = count_more is_message calls call in
      let order = waiting-in_order o calls in
      let wait = waiting-more o calls call in
      let deliveries : List Arrival = map (delivery (messages calls + 1) from to bytes) (lags o calls from bytes) in
      let all : ds ≡ deliveries = is ∙ ap (λ (n : ℕ). map (delivery (n + 1) from to bytes) (lags o calls from bytes)) tied.numbered in
      let later = λ (a : Address). Queues-later (messages calls) (messages calls + 1) (waiting o calls) a (queue_of a boxes) (omega arith) (tied.queues a) in
      let here : Queues (messages calls + 1) (all_placed deliveries (waiting o calls)) to (queue_of to after) =
      rw (put_in_place, all) (Queues-sent (messages calls + 1) (messages calls + 1) from to bytes (omega arith) fits (lags o calls from bytes) (waiting o calls) (queue_of to boxes) order (later to)) in
      record {
        watched = ap (map (watch_counted o.all from bytes)) tied.watched ∙ all_counted o.all calls from to bytes o.plan.lines;
        drawn = ap (after_draws o.plan.chaos) tied.drawn ∙ stepped-more o.plan.chaos (messages calls) ∙ ap (generator_at o.plan.chaos) (sym more);
        numbered = ap (λ (n : ℕ). n + 1) tied.numbered ∙ sym more;
        queues = λ a. rw (more, wait) (elim (cases_Bool (same_address to a)) [
          | inl same ↦ subst (λ (x : Address). Queues (messages calls + 1) (all_placed deliveries (waiting o calls)) x (queue_of x after)) (same_is_one to a same) here
          | inr other ↦ rw (others a other)
              (Queues-sent_other (messages calls + 1) (messages calls + 1) from to bytes (omega arith) fits a other (lags o calls from bytes) (waiting o calls) (queue_of a boxes) order (later a))
        ]);
        given = Delivers-more o [] calls call tied.given tt;
      }

  -- what a queue tells of what is due
  pub due_told : (at : Address) (next : Option Arrival) → next ≡ first_that (is_due_now sent) (filter (is_young sent) (queue_of at boxes)) → due o calls at ≡ next
  due_told at next is =
      due_in_queue (messages calls) (waiting o calls) (queue_of at boxes) at (tied.queues at)
      ∙ ap (λ (n : ℕ). first_that (is_due_now n) (filter (is_young n) (queue_of at boxes))) (sym tied.numbered) ∙ sym is

  module _ (at : Address) (after : List Mailbox) (rest : filter (is_young sent) (queue_of at after) ≡ without_first (is_due_now sent) (filter (is_young sent) (queue_of at boxes)))
      (order : InOrder (queue_of at after)) (fit : AllShort (queue_of at after)) (others : (a : Address) → same_address at a ≡ false → queue_of a after ≡ queue_of a boxes) where
    left : filter (is_young (messages calls)) (queue_of at after) ≡ without_first (is_due_now (messages calls)) (filter (is_young (messages calls)) (queue_of at boxes))
    left = rw tied.numbered at rest

    pub tied_idle : None ≡ first_that (is_due_now sent) (filter (is_young sent) (queue_of at boxes)) → IsTied o (calls ++ Idle at ∷ []) watches generator sent after
    tied_idle none =
        let call : LogEntry = Idle at in
        let more : messages (calls ++ call ∷ []) ≡ messages calls = count_more is_message calls call ∙ add-zero (messages calls) in
        let nothing : first_that (is_due_now (messages calls)) (filter (is_young (messages calls)) (queue_of at boxes)) ≡ None = rw tied.numbered at (sym none) in
        let same : Queues (messages calls) (waiting o calls) at (queue_of at after) =
        record { same = left ∙ none_without (is_due_now (messages calls)) (filter (is_young (messages calls)) (queue_of at boxes)) nothing ∙ (tied.queues at).same; order = order; fit = fit } in
        record {
          watched = tied.watched ∙ same_counts o.all calls call (λ end type_id. refl) o.plan.lines;
          drawn = tied.drawn ∙ ap (generator_at o.plan.chaos) (sym more);
          numbered = tied.numbered ∙ sym more;
          queues = λ a. rw (more, waiting-more o calls call) (elim (cases_Bool (same_address at a)) [
            | inl here ↦ subst (λ (x : Address). Queues (messages calls) (waiting o calls) x (queue_of x after)) (same_is_one at a here) same
            | inr other ↦ rw (others a other) (tied.queues a)
          ]);
          given = Delivers-more o [] calls call tied.given (due_told at None none);
        }

    pub tied_got : (from : Address) (bytes : List ℕ) (next : Arrival) → Some next ≡ first_that (is_due_now sent) (filter (is_young sent) (queue_of at boxes)) → from ≡ next.from → bytes ≡ next.bytes
        → IsTied o (calls ++ Got at from bytes ∷ []) watches generator sent after
    tied_got from bytes next found sender same_bytes =
        let call : LogEntry = Got at from bytes in
        let more : messages (calls ++ call ∷ []) ≡ messages calls = count_more is_message calls call ∙ add-zero (messages calls) in
        record {
          watched = tied.watched ∙ same_counts o.all calls call (λ end type_id. refl) o.plan.lines;
          drawn = tied.drawn ∙ ap (generator_at o.plan.chaos) (sym more);
          numbered = tied.numbered ∙ sym more;
          queues = λ a. rw (more, waiting-more o calls call) (elim (cases_Bool (same_address at a)) [
            | inl here ↦ subst (λ (x : Address). Queues (messages calls) (without_first (is_ready_for at (messages calls)) (waiting o calls)) x (queue_of x after)) (same_is_one at a here)
                (Queues-taken (messages calls) (waiting o calls) (queue_of at boxes) at (tied.queues at) (queue_of at after) left order fit)
            | inr other ↦ rw (others a other) (Queues-taken_other (messages calls) (waiting o calls) (queue_of a boxes) a at other (tied.queues a))
          ]);
          given = Delivers-more o [] calls call tied.given (rw (due_told at (Some next) found) (sender, same_bytes));
        }

  -- no count can overflow
  pub few_counted : sent + 1 < 2 ^ 64 → All (λ (watch : Watch). watch.seen + 1 < 2 ^ 64) watches
  few_counted few = rw tied.watched (All-map (λ (watch : Watch). watch.seen + 1 < 2 ^ 64) (watch_after o.all calls) o.plan.lines (λ k d here. few_seen o.all calls (get_or o.plan.lines k d) (rw tied.numbered at few)))
