-- What waits in a network with a quiet plan, entry by entry. The log has its newest entry first.
use Rattle.std.proofs.Common.{◌≡◌, ℕ, ◌+◌, Bool, true, false, if◌then◌else◌, ◌⊎◌, inl, inr, Option, Some, None, List, [], ◌∷◌, ◌++◌, map, length, reverse, refl, sym, ap, ◌∙◌, subst, arith, append_assoc, append-nil}
use Rattle.std.specs.Prelude.{nat_lt}
use Rattle.std.proofs.lemmas.List.{reverse-append}
use Rattle.dcp_types.specs.declared.addresses.Address.{Address}
use Rattle.dcp_ends.specs.declared.entries.LogEntry.{LogEntry}
use Rattle.dcp_ends.specs.declared.entries.LogEntry.TheVariants.{Sent, Got, Idle, Turn}
use Rattle.scenario.specs.declared.net_plans.NetLine.{NetLine}
use Rattle.scenario.specs.declared.net_plans.Chaos.{Chaos}
use Rattle.dcp_net.specs.declared.openings.Opening.{Opening}
use Rattle.dcp_net.specs.Firsts.{first_that, without_first}
use Rattle.net_world.specs.declared.deliveries.Arrival.{Arrival}
use Rattle.net_world.specs.Calls.{BringsDue, GivesDue, MayBeMade}
use Rattle.net_world.specs.Chances.{generator_at, lags_by_chance}
use Rattle.net_world.specs.Deliveries.{lags_by, lags, delivery, put_in_place, all_placed, is_ready_for, waiting, due}
use Rattle.net_world.specs.Lines.{line_names}
use Rattle.net_world.specs.Messages.{is_message, messages}
use Rattle.net_world.proofs.Append.{count_more, waiting-more}
use Rattle.rounds.specs.Steps.{without_turn, without_turns}
use Rattle.completeness_laws.specs.Quiet.{IsQuietPlan}
use Rattle.completeness_laws.proofs.Quiet.Lists.{bit, tally, Among, Each}

-- ---- the calls of a log
turns_out : (xs ys : List LogEntry) → without_turns (xs ++ ys) ≡ without_turns xs ++ without_turns ys
turns_out [] ys = refl
turns_out (x ∷ xs) ys = ap (λ (l : List LogEntry). without_turn x ++ l) (turns_out xs ys) ∙ sym (append_assoc (without_turn x) (without_turns xs) (without_turns ys))

abbrev pub told : List LogEntry → List LogEntry
told log = without_turns (reverse log)

one_turn_out : (e : LogEntry) → without_turns (e ∷ []) ≡ without_turn e
one_turn_out e = append-nil (without_turn e)

told_more : (e : LogEntry) (log : List LogEntry) → told (e ∷ log) ≡ told log ++ without_turn e
told_more e log = ap without_turns (reverse-append (e ∷ []) log) ∙ turns_out (reverse log) (e ∷ []) ∙ ap (λ (l : List LogEntry). told log ++ l) (one_turn_out e)

-- how many messages were sent
abbrev pub sent_count : List LogEntry → ℕ
sent_count [] = 0
sent_count (Sent from to bytes ∷ log) = sent_count log + 1
sent_count (Got at from bytes ∷ log) = sent_count log
sent_count (Idle at ∷ log) = sent_count log
sent_count (Turn at ∷ log) = sent_count log

pub sent_told : (log : List LogEntry) → messages (told log) ≡ sent_count log
sent_told [] = refl
sent_told (e ∷ log) = by e (ap messages (told_more e log)) (sent_told log)
  where
    by : (e : LogEntry) → messages (told (e ∷ log)) ≡ messages (told log ++ without_turn e) → messages (told log) ≡ sent_count log → messages (told (e ∷ log)) ≡ sent_count (e ∷ log)
    by (Sent from to bytes) t h = let m : messages (told log ++ Sent from to bytes ∷ []) ≡ messages (told log) + 1 = count_more is_message (told log) (Sent from to bytes) in omega (arith, t, h, m)
    by (Got at from bytes) t h = let m : messages (told log ++ Got at from bytes ∷ []) ≡ messages (told log) + 0 = count_more is_message (told log) (Got at from bytes) in omega (arith, t, h, m)
    by (Idle at) t h = let m : messages (told log ++ Idle at ∷ []) ≡ messages (told log) + 0 = count_more is_message (told log) (Idle at) in omega (arith, t, h, m)
    by (Turn at) t h = t ∙ ap messages (append-nil (told log)) ∙ h

-- ---- a delivery in its place
pub tally_place : (q : Arrival → Bool) (d : Arrival) (w : List Arrival) → tally q (put_in_place d w) ≡ tally q w + bit (q d)
tally_place q d [] = omega arith
tally_place q d (e ∷ w) = by (nat_lt d.due e.due) (tally_place q d w)
  where
    by : (b : Bool) → tally q (put_in_place d w) ≡ tally q w + bit (q d) → tally q (if b then d ∷ e ∷ w else e ∷ put_in_place d w) ≡ tally q (e ∷ w) + bit (q d)
    by true h = omega arith
    by false h = omega (arith, h)

pub length_place : (d : Arrival) (w : List Arrival) → length (put_in_place d w) ≡ length w + 1
length_place d [] = refl
length_place d (e ∷ w) = by (nat_lt d.due e.due) (length_place d w)
  where
    by : (b : Bool) → length (put_in_place d w) ≡ length w + 1 → length (if b then d ∷ e ∷ w else e ∷ put_in_place d w) ≡ length (e ∷ w) + 1
    by true h = omega arith
    by false h = omega (arith, h)

pub each_place : (P : Arrival → Type 0) (d : Arrival) (w : List Arrival) → P d → Each P w → Each P (put_in_place d w)
each_place P d [] h a = (h, tt)
each_place P d (e ∷ w) h a = by (nat_lt d.due e.due) (each_place P d w h a.1)
  where
    by : (b : Bool) → Each P (put_in_place d w) → Each P (if b then d ∷ e ∷ w else e ∷ put_in_place d w)
    by true k = (h, a)
    by false k = (a.0, k)

pub among_new : (d : Arrival) (w : List Arrival) → Among d (put_in_place d w)
among_new d [] = inl refl
among_new d (e ∷ w) = by (nat_lt d.due e.due) (among_new d w)
  where
    by : (b : Bool) → Among d (put_in_place d w) → Among d (if b then d ∷ e ∷ w else e ∷ put_in_place d w)
    by true k = inl refl
    by false k = inr k

pub among_place : (d x : Arrival) (w : List Arrival) → Among x w → Among x (put_in_place d w)
among_place d x [] m = absurd m
among_place d x (e ∷ w) m = by (nat_lt d.due e.due) m (λ n. among_place d x w n)
  where
    by : (b : Bool) → (x ≡ e) ⊎ Among x w → (Among x w → Among x (put_in_place d w)) → Among x (if b then d ∷ e ∷ w else e ∷ put_in_place d w)
    by true m f = inr m
    by false (inl h) f = inl h
    by false (inr n) f = inr (f n)

-- ---- what is given
given_parts : (o : Opening) (before xs ys : List LogEntry) → GivesDue o before (xs ++ ys) → GivesDue o before xs × GivesDue o (before ++ xs) ys
given_parts o before [] ys g = let P : List LogEntry → Type 0 = λ l. GivesDue o l ys in (tt, subst P (sym (append-nil before)) g)
given_parts o before (x ∷ xs) ys g =
    let h = given_parts o (before ++ x ∷ []) xs ys g.1 in
    let P : List LogEntry → Type 0 = λ l. GivesDue o l ys in
    ((g.0, h.0), subst P (append_assoc before (x ∷ []) xs) h.1)

module _ (o : Opening) where
  -- the network gave what was due in this log
  abbrev pub Given : List LogEntry → Type 0
  Given log = GivesDue o [] (told log)

  abbrev pub pending : List LogEntry → List Arrival
  pending log = waiting o (told log)

  given_entry : (e : LogEntry) (log : List LogEntry) → Given (e ∷ log) → Given log × GivesDue o (told log) (without_turn e)
  given_entry e log g = let P : List LogEntry → Type 0 = GivesDue o [] in given_parts o [] (told log) (without_turn e) (subst P (told_more e log) g)

  pub given_before : (e : LogEntry) (log : List LogEntry) → Given (e ∷ log) → Given log
  given_before e log g = (given_entry e log g).0

  -- a take gives the one that is due
  pub record IsTaken (at from : Address) (bytes : List ℕ) (log : List LogEntry) : Type 0 where
    pub taken : Arrival
    pub is : first_that (is_ready_for at (messages (told log))) (pending log) ≡ Some taken
    pub sender : from ≡ taken.from
    pub message : bytes ≡ taken.bytes

  pub got_given : (at from : Address) (bytes : List ℕ) (log : List LogEntry) → Given (Got at from bytes ∷ log) → IsTaken at from bytes log
  got_given at from bytes log g = by (due o (told log) at) refl (given_entry (Got at from bytes) log g).1.0
    where
      by : (d : Option Arrival) → due o (told log) at ≡ d → MayBeMade o (told log) (Got at from bytes) → IsTaken at from bytes log
      by None e h = let P : Option Arrival → Type 0 = λ z. BringsDue z from bytes in absurd (subst P e h)
      by (Some d) e h = let P : Option Arrival → Type 0 = λ z. BringsDue z from bytes in let k = subst P e h in record { taken = d; is = e; sender = k.0; message = k.1 }

  pub idle_given : (at : Address) (log : List LogEntry) → Given (Idle at ∷ log) → first_that (is_ready_for at (messages (told log))) (pending log) ≡ None
  idle_given at log g = (given_entry (Idle at) log g).1.0

  pub pending_got : (at from : Address) (bytes : List ℕ) (log : List LogEntry) → pending (Got at from bytes ∷ log) ≡ without_first (is_ready_for at (messages (told log))) (pending log)
  pending_got at from bytes log = ap (waiting o) (told_more (Got at from bytes) log) ∙ waiting-more o (told log) (Got at from bytes)

  pub pending_idle : (at : Address) (log : List LogEntry) → pending (Idle at ∷ log) ≡ pending log
  pending_idle at log = ap (waiting o) (told_more (Idle at) log) ∙ waiting-more o (told log) (Idle at)

  pub pending_turn : (at : Address) (log : List LogEntry) → pending (Turn at ∷ log) ≡ pending log
  pending_turn at log = ap (waiting o) (told_more (Turn at) log ∙ append-nil (told log))

  -- ---- with a quiet plan a message waits once, from its sending on
  abbrev pub letter : List LogEntry → (from to : Address) → List ℕ → Arrival
  letter log from to bytes = delivery (messages (told log) + 1) from to bytes 0

  module _ (quiet : IsQuietPlan o.plan) where
    no_lag : (calls : List LogEntry) (from : Address) (bytes : List ℕ) → lags o calls from bytes ≡ 0 ∷ []
    no_lag calls from bytes =
        ap (λ (ls : List NetLine). lags_by (first_that (line_names o.all calls from bytes) ls) (lags_by_chance o.plan.chaos (generator_at o.plan.chaos (messages calls)))) quiet.lines
        ∙ ap (λ (c : Option Chaos). lags_by_chance c (generator_at c (messages calls))) quiet.chaos

    pub pending_sent : (from to : Address) (bytes : List ℕ) (log : List LogEntry) → pending (Sent from to bytes ∷ log) ≡ put_in_place (letter log from to bytes) (pending log)
    pending_sent from to bytes log =
        ap (waiting o) (told_more (Sent from to bytes) log) ∙ waiting-more o (told log) (Sent from to bytes)
        ∙ ap (λ (ls : List ℕ). all_placed (map (delivery (messages (told log) + 1) from to bytes) ls) (pending log)) (no_lag (told log) from bytes)
