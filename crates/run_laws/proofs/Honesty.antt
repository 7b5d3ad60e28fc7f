-- A network whose datagrams were sent not long before is honest.
use Rattle.std.proofs.Common.{◌≡◌, ℕ, ◌+◌, ◌≤◌, cond, Option, None, Some, List, [], ◌∷◌, ◌++◌, length, refl, sym, ap, ◌∙◌, subst, arith, append_assoc}
use Rattle.std.specs.List.{cons_option}
use Rattle.std.proofs.lemmas.Bool.Decides.{nat_tests}
use Rattle.std.proofs.lemmas.List.{append-nil}
use Rattle.std.proofs.lemmas.List.Elements.{filter_map-append}
use Rattle.std.proofs.lemmas.List.Sums.{sum_by-append}
use Rattle.dcp_types.specs.declared.addresses.Address.{Address}
use Rattle.dcp_ends.specs.declared.entries.LogEntry.{LogEntry}
use Rattle.dcp_ends.specs.declared.entries.LogEntry.TheVariants.{Sent, Got, Idle, Turn}
use Rattle.log_spec.specs.Channel.{number_changes}
use Rattle.log_spec.specs.Log.{Channel, Parties, sends_in, sent_in}
use Rattle.log_spec.specs.Messages.{Note}
use Rattle.log_spec.specs.Oldest.{Honest, IsRepeated, MayStand}
use Rattle.net_world.specs.Calls.{AllRecent, IsRecent, MayBeGot}
use Rattle.net_world.specs.Messages.{is_message, messages}
use Rattle.rounds.specs.Steps.{without_turn, without_turns}

-- ---- the calls of a log

turns_out : (xs ys : List LogEntry) → without_turns (xs ++ ys) ≡ without_turns xs ++ without_turns ys
turns_out [] ys = refl
turns_out (x ∷ xs) ys = ap (λ (l : List LogEntry). without_turn x ++ l) (turns_out xs ys) ∙ sym (append_assoc (without_turn x) (without_turns xs) (without_turns ys))

recent_at : (calls xs ys : List LogEntry) (call : LogEntry) → AllRecent calls (xs ++ call ∷ ys) → MayBeGot (calls ++ xs) call
recent_at calls [] ys call all = subst (λ (l : List LogEntry). MayBeGot l call) (sym (append-nil calls)) all.0
recent_at calls (x ∷ xs) ys call all = subst (λ (l : List LogEntry). MayBeGot l call) (append_assoc calls (x ∷ []) xs) (recent_at (calls ++ x ∷ []) xs ys call all.1)

-- where a call of the list stands in the log
record Stands (log later : List LogEntry) (call : LogEntry) : Type 0 where
  before : List LogEntry
  after : List LogEntry
  is : log ≡ before ++ call ∷ after
  rest : without_turns after ≡ later

behind : (x : LogEntry) (log later : List LogEntry) (call : LogEntry) → Stands log later call → Stands (x ∷ log) later call
behind x log later call s = record { before = x ∷ s.before; after = s.after; is = ap (λ (l : List LogEntry). x ∷ l) s.is; rest = s.rest }

here : (x : LogEntry) (log later : List LogEntry) (call : LogEntry) → x ≡ call → without_turns log ≡ later → Stands (x ∷ log) later call
here x log later call same rest = record { before = []; after = log; is = ap (λ (e : LogEntry). e ∷ log) same; rest = rest }

stands : (log earlier later : List LogEntry) (call : LogEntry) → without_turns log ≡ earlier ++ call ∷ later → Stands log later call
stands [] [] later call e = cc
stands [] (y ∷ earlier) later call e = cc
stands (Turn at ∷ log) earlier later call e = behind (Turn at) log later call (stands log earlier later call e)
stands (Sent from to bytes ∷ log) [] later call e =
    let same : Sent from to bytes ≡ call = cc in let rest : without_turns log ≡ later = cc in here (Sent from to bytes) log later call same rest
stands (Sent from to bytes ∷ log) (y ∷ earlier) later call e =
    let rest : without_turns log ≡ earlier ++ call ∷ later = cc in behind (Sent from to bytes) log later call (stands log earlier later call rest)
stands (Got at from bytes ∷ log) [] later call e =
    let same : Got at from bytes ≡ call = cc in let rest : without_turns log ≡ later = cc in here (Got at from bytes) log later call same rest
stands (Got at from bytes ∷ log) (y ∷ earlier) later call e =
    let rest : without_turns log ≡ earlier ++ call ∷ later = cc in behind (Got at from bytes) log later call (stands log earlier later call rest)
stands (Idle at ∷ log) [] later call e =
    let same : Idle at ≡ call = cc in let rest : without_turns log ≡ later = cc in here (Idle at) log later call same rest
stands (Idle at ∷ log) (y ∷ earlier) later call e =
    let rest : without_turns log ≡ earlier ++ call ∷ later = cc in behind (Idle at) log later call (stands log earlier later call rest)

-- ---- changes of numbers

one_change : (ns : List Note) (n : Note) → number_changes (ns ++ n ∷ []) ≤ number_changes ns + 1
one_change [] n = omega arith
one_change (k ∷ []) n = grind (arith, nat_tests)
one_change (k ∷ m ∷ ns) n = let less = one_change (m ∷ ns) n in grind (arith, nat_tests, less)

few_changes : (ns ks : List Note) → number_changes (ns ++ ks) ≤ number_changes ns + length ks
few_changes ns [] = let e = ap number_changes (append-nil ns) in omega (arith, e)
few_changes ns (k ∷ ks) =
    let e = ap number_changes (append_assoc ns (k ∷ []) ks) in
    let more = few_changes (ns ++ k ∷ []) ks in
    let one = one_change ns k in
    omega (arith, e, more, one)

messages_front : (x : LogEntry) (xs : List LogEntry) → messages (x ∷ xs) ≡ messages (x ∷ []) + messages xs
messages_front x xs = sum_by-append (λ (e : LogEntry). cond (is_message e) 1 0) (x ∷ []) xs

few_options : {A : Type 0} (o : Option A) (xs : List A) → length (cons_option o xs) ≤ 1 + length xs
few_options None xs = omega arith
few_options (Some x) xs = omega arith

module _ (w : Parties) (c : Channel) where
  -- each send of a channel is a message
  sends_few : (log : List LogEntry) → length (sends_in w c log) ≤ messages (without_turns log)
  sends_few [] = omega arith
  sends_few (Sent from to bytes ∷ log) =
      let rest = sends_few log in
      let front : messages (without_turns (Sent from to bytes ∷ log)) ≡ 1 + messages (without_turns log) = messages_front (Sent from to bytes) (without_turns log) in
      let one = few_options (sent_in w c (Sent from to bytes)) (sends_in w c log) in
      omega (arith, rest, one)
  sends_few (Got at from bytes ∷ log) =
      let rest = sends_few log in
      let front : messages (without_turns (Got at from bytes ∷ log)) ≡ 0 + messages (without_turns log) = messages_front (Got at from bytes) (without_turns log) in
      omega (arith, rest)
  sends_few (Idle at ∷ log) =
      let rest = sends_few log in
      let front : messages (without_turns (Idle at ∷ log)) ≡ 0 + messages (without_turns log) = messages_front (Idle at) (without_turns log) in
      omega (arith, rest)
  sends_few (Turn at ∷ log) = sends_few log

  young_in : (log earlier later : List LogEntry) (call : LogEntry) → log ≡ earlier ++ call ∷ later → messages (without_turns later) ≤ 32767
      → number_changes (sends_in w c log) ≤ number_changes (sends_in w c (earlier ++ call ∷ [])) + 32767
  young_in log earlier later call is few =
      let whole : log ≡ (earlier ++ call ∷ []) ++ later = is ∙ sym (append_assoc earlier (call ∷ []) later) in
      let split : sends_in w c log ≡ sends_in w c (earlier ++ call ∷ []) ++ sends_in w c later = ap (sends_in w c) whole ∙ filter_map-append (sent_in w c) (earlier ++ call ∷ []) later in
      let changed = ap number_changes split in
      let most = few_changes (sends_in w c (earlier ++ call ∷ [])) (sends_in w c later) in
      let sent = sends_few later in
      omega (arith, changed, most, sent, few)

repeated : (w : Parties) (log : List LogEntry) (at from : Address) (bytes : List ℕ) → IsRecent (without_turns log) at from bytes → IsRepeated w log at from bytes
repeated w log at from bytes recent =
    let s = stands log recent.earlier recent.later (Sent from at bytes) recent.is in
    let few : messages (without_turns s.after) ≤ 32767 = subst (λ (l : List LogEntry). messages l ≤ 32767) (sym s.rest) recent.recent in
    record {
      earlier = s.before;
      later = s.after;
      is = s.is;
      young = λ c n h. young_in w c log s.before s.after (Sent from at bytes) s.is few;
    }

may_stand : (w : Parties) (log before after : List LogEntry) (e : LogEntry) → AllRecent [] (without_turns log) → log ≡ before ++ e ∷ after → MayStand w e before
may_stand w log before after (Sent from to bytes) all is = tt
may_stand w log before after (Got at from bytes) all is =
    let calls : without_turns log ≡ without_turns before ++ Got at from bytes ∷ without_turns after = ap without_turns is ∙ turns_out before (Got at from bytes ∷ after) in
    repeated w before at from bytes (recent_at [] (without_turns before) (without_turns after) (Got at from bytes) (subst (AllRecent []) calls all))
may_stand w log before after (Idle at) all is = tt
may_stand w log before after (Turn at) all is = tt

pub honest : (w : Parties) (log : List LogEntry) → AllRecent [] (without_turns log) → Honest w log
honest w log all = λ before after e is. may_stand w log before after e all is
