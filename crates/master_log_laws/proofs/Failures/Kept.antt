-- Outputs that are kept came in time.
use Rattle.std.proofs.Common.{◌≡◌, ℕ, ◌+◌, ◌%◌, ◌<◌, ◌≤◌, Bool, true, false, if◌then◌else◌, Option, Some, None, List, [], ◌∷◌, ◌++◌, length, refl, sym, ap, ◌∙◌, subst, arith}
use Rattle.std.specs.Prelude.{◌==◌, ◌&&◌, is_some, nat_le}
use Rattle.std.specs.List.{list_any}
use Rattle.std.proofs.lemmas.Bool.{leb-false, eqb-true}
use Rattle.dcp_types.specs.declared.limits.Limits.{Limits}
use Rattle.pdu_layout.specs.declared.messages.Stc.TheVariants as stc
use Rattle.dcp_ends.specs.declared.entries.LogEntry.{LogEntry}
use Rattle.master_spec.specs.declared.causes.Cause.TheVariants as causes
use Rattle.master_spec.specs.declared.requests.Request.TheVariants.{Change, AskState}
use Rattle.master_spec.specs.declared.requests.Answer.{Answer}
use Rattle.master_spec.specs.declared.requests.Answer.TheVariants.{StateAck}
use Rattle.master_spec.specs.declared.requests.Latest.{Latest}
use Rattle.master_spec.specs.declared.requests.Latest.TheVariants as latests
use Rattle.master_spec.specs.declared.reactions.Reaction.TheVariants.{Wait, Repeat, GiveUp}
use Rattle.master_spec.specs.declared.reactions.Awaited.{Awaited}
use Rattle.master_spec.specs.declared.reactions.Awaited.TheVariants.{TheOutputs, TheState}
use Rattle.master_spec.specs.declared.setups.Slave.{Slave}
use Rattle.master_spec.specs.declared.setups.Setup.{Setup}
use Rattle.master_spec.specs.Tasks.{is_by_list, is_by_end, target_of, task_row, task_step}
use Rattle.master_spec.specs.Jobs.{Job, asked_by}
use Rattle.master_spec.specs.Marks.{asked, Mark, Begun, Asked, Again, Answered, Hinted, Brought, Turned, Ended, acks_change, mark_brings, or_else, is_answer, turns_since, this_phase, latest, settings_answered, kept, is_reached, has_row_outputs, is_passed, job_of, cause_of}
use Rattle.master_spec.specs.Conversation.{is_state, awaited_after_state, awaited_by, awaited, on_turn}
use Rattle.master_spec.specs.Requests.{Asking, turns_before}
use Rattle.master_spec.specs.Exchanged.{Brings}
use Rattle.master_log_laws.specs.Asking.Legal.{Does, Rests, AreLegal}
use Rattle.master_log_laws.specs.Index.Index.{Placed, at, marks_of, first_at, again_at, decided_at}
use Rattle.master_log_laws.specs.Index.Dates.{clock, next_after, next_place, IsDated, AreDated}
use Rattle.master_log_laws.proofs.Index.Events.{repeats_open}
use Rattle.master_log_laws.proofs.Phases.Now.{now_by, now, open_latest}
use Rattle.master_log_laws.proofs.Phases.Inverse.{reacts}
use Rattle.master_log_laws.proofs.Phases.Stage.{Stage, idling, main_open, question_open, trying, mains_done, state_told, IsQuiet, named_quiet}
use Rattle.master_log_laws.proofs.Phases.Stages.{stage}
use Rattle.master_log_laws.proofs.Failures.Turns.{turns_rise, newest_if, newest, turns_to}
use Rattle.master_log_laws.proofs.Failures.Silences.{answers_in_phases}
use Rattle.master_log_laws.proofs.Failures.Missing.{next_rises, outputs_request}

-- ---- what has not passed had not passed before
or_none : (o p : Option (List ℕ)) → is_some (or_else o p) ≡ false → is_some o ≡ false
or_none None p e = refl
or_none (Some x) p e = absurd cc

lacked : (o : Option ℕ) (m : Mark) (marks : List Mark) → IsQuiet m → has_row_outputs o (m ∷ marks) ≡ false → has_row_outputs o marks ≡ false
lacked None m marks q h = absurd cc
lacked (Some row) Hinted marks q h = or_none (kept row marks) None h
lacked (Some row) (Brought n p) marks q h = or_none (kept row marks) (mark_brings (row % 65536) (Brought n p)) h
lacked (Some row) (Turned t) marks q h = or_none (kept row marks) None h
lacked (Some row) (Begun j) marks q h = absurd q
lacked (Some row) (Asked r) marks q h = absurd q
lacked (Some row) Again marks q h = absurd q
lacked (Some row) (Answered r a) marks q h = absurd q
lacked (Some row) (Ended cause) marks q h = absurd q

unpassed : (job : Job) (m : Mark) (marks : List Mark) → IsQuiet m → (settings_answered (m ∷ marks) ≡ settings_answered marks) → (list_any acks_change (this_phase (m ∷ marks)) ≡ list_any acks_change (this_phase marks)) → is_passed job (m ∷ marks) ≡ false → is_passed job marks ≡ false
unpassed job m marks q c d h = by (is_by_list job.task) (is_by_end job.task) h
  where
    parts : (x y x' y' : Bool) → x ≡ x' → (y ≡ false → y' ≡ false) → (x && y) ≡ false → (x' && y') ≡ false
    parts true y true y' e f h = f h
    parts true y false y' e f h = refl
    parts false y true y' e f h = absurd cc
    parts false y false y' e f h = refl

    by : (a b : Bool) → (if a then nat_le (length job.list) (settings_answered (m ∷ marks)) else if b then list_any acks_change (this_phase (m ∷ marks)) else (is_reached job.task (m ∷ marks) && has_row_outputs (task_row job.task) (m ∷ marks))) ≡ false
        → (if a then nat_le (length job.list) (settings_answered marks) else if b then list_any acks_change (this_phase marks) else (is_reached job.task marks && has_row_outputs (task_row job.task) marks)) ≡ false
    by true b h = ap (nat_le (length job.list)) (sym c) ∙ h
    by false true h = sym d ∙ h
    by false false h = parts (is_reached job.task (m ∷ marks)) (has_row_outputs (task_row job.task) (m ∷ marks)) (is_reached job.task marks) (has_row_outputs (task_row job.task) marks) (named_quiet (target_of job.task) m marks q) (lacked (task_row job.task) m marks q) h

-- ---- outputs are waited for no longer than the limit
turn_waits : (limits : Limits) (job : Job) (settled : Bool) (marks : List Mark) → on_turn limits job TheOutputs settled marks ≡ Wait → turns_since is_answer marks < limits.data_turns
turn_waits limits job settled marks h = by (nat_le limits.data_turns (turns_since is_answer marks)) refl h
  where
    by : (b : Bool) → nat_le limits.data_turns (turns_since is_answer marks) ≡ b → (if b then GiveUp (causes.DataMissing (task_step job.task)) else Wait) ≡ Wait → turns_since is_answer marks < limits.data_turns
    by true e z = absurd cc
    by false e z = let l = leb-false limits.data_turns (turns_since is_answer marks) e in omega (arith, l)

awaits_outputs : (job : Job) (marks : List Mark) (s : ℕ) → latest marks ≡ latests.Answered AskState (StateAck s) → is_state (target_of job.task) s ≡ true → is_passed job marks ≡ false → awaited job marks ≡ TheOutputs
awaits_outputs job marks s l t p =
    ap (λ (x : Latest). awaited_by job x marks) l ∙ ap (λ (b : Bool). awaited_after_state (target_of job.task) s b) p ∙ ap (λ (b : Bool). if b then TheOutputs else TheState) t

pub outputs_soon : (limits : Limits) (js : List Job) (marks : List Mark) → 1 ≤ limits.data_turns → AreLegal limits js marks → Rests limits marks → cause_of marks ≡ None → (job : Job) → job_of marks ≡ Some job → (s : ℕ) → latest marks ≡ latests.Answered AskState (StateAck s)
    → is_state (target_of job.task) s ≡ true → is_passed job marks ≡ false → turns_since is_answer marks < limits.data_turns
outputs_soon limits js [] one l w c job e s o t p = absurd cc
outputs_soon limits js (Begun j ∷ marks) one l w c job e s o t p = absurd cc
outputs_soon limits js (Asked q ∷ marks) one l w c job e s o t p = absurd cc
outputs_soon limits js (Again ∷ marks) one l w c job e s o t p = absurd (off marks l.0 o)
  where
    off : (ms : List Mark) → Does limits ms Repeat → latest ms ≡ latests.Answered AskState (StateAck s) → ⊥
    off [] d o = d
    off (m ∷ ms) d o =
        let k = repeats_open limits m ms d in
        let z : latests.Answered AskState (StateAck s) ≡ latests.Asked k.0 = sym o ∙ open_latest (latest (m ∷ ms)) k.0 k.1 in cc
outputs_soon limits js (Answered q a ∷ marks) one l w c job e s o t p = one
outputs_soon limits js (Hinted ∷ marks) one l w c job e s o t p = outputs_soon limits js marks one l.1 l.0 c job e s o t (unpassed job Hinted marks tt refl refl p)
outputs_soon limits js (Brought n q ∷ marks) one l w c job e s o t p = outputs_soon limits js marks one l.1 l.0 c job e s o t (unpassed job (Brought n q) marks tt refl refl p)
outputs_soon limits js (Turned h ∷ marks) one l w c job e s o t p =
    turn_waits limits job h (Turned h ∷ marks) (ap (λ (x : Awaited). on_turn limits job x h (Turned h ∷ marks)) (sym (awaits_outputs job (Turned h ∷ marks) s o t p)) ∙ sym (reacts limits (Turned h) marks job c e) ∙ w)
outputs_soon limits js (Ended cause ∷ marks) one l w c job e s o t p = absurd cc

-- ---- the first request of the phase
abbrev pub last_first : List Asking → Option ℕ
last_first [] = None
last_first (b ∷ []) = Some b.first
last_first (b ∷ c ∷ cs) = last_first (c ∷ cs)

abbrev pub AllBelow : ℕ → List Asking → Type 0
AllBelow n [] = Unit {0}
AllBelow n (b ∷ bs) = (b.first < n) × AllBelow n bs

below_more : (n m : ℕ) (bs : List Asking) → n ≤ m → AllBelow n bs → AllBelow m bs
below_more n m [] h a = tt
below_more n m (b ∷ bs) h a = let z = a.0 in (omega (arith, z, h), below_more n m bs h a.1)

below_again : (n i : ℕ) (bs : List Asking) → AllBelow n bs → AllBelow n (again_at i bs)
below_again n i [] a = tt
below_again n i (b ∷ bs) a = a

below_decided : (n i : ℕ) (x : Answer) (bs : List Asking) → AllBelow n bs → AllBelow n (decided_at i x bs)
below_decided n i x [] a = tt
below_decided n i x (b ∷ bs) a = a

pub all_below : (setup : Setup) (slave : Slave) (log : List LogEntry) (xs : List Placed) → AreDated setup slave log xs → AllBelow (next_place xs) (now xs)
all_below setup slave log [] d = tt
all_below setup slave log (x ∷ xs) d = by x.mark d.0 (all_below setup slave log xs d.1)
  where
    n : ℕ
    n = next_place xs

    by : (m : Mark) → IsDated setup slave log x.place m xs → AllBelow n (now xs) → AllBelow (next_after x.place m n) (now_by x.place m (marks_of xs) (now xs))
    by (Begun j) w a = tt
    by (Asked r) w a = let l = w.later in (omega arith, below_more n (x.place + 1) (now xs) (omega (arith, l)) a)
    by Again w a = let l = w.later in below_again (x.place + 1) x.place (now xs) (below_more n (x.place + 1) (now xs) (omega (arith, l)) a)
    by (Answered r v) w a = let l = w.later in below_decided (x.place + 1) x.place v (now xs) (below_more n (x.place + 1) (now xs) (omega (arith, l)) a)
    by Hinted w a = let l = w.later in below_more n (x.place + 1) (now xs) (omega (arith, l)) a
    by (Brought i p) w a = let l = w.later in below_more n (x.place + 1) (now xs) (omega (arith, l)) a
    by (Turned t) w a = below_more n x.place (now xs) w.later a
    by (Ended cause) w a = a

last_below : (n f : ℕ) (bs : List Asking) → AllBelow n bs → last_first bs ≡ Some f → f < n
last_below n f [] a e = absurd cc
last_below n f (b ∷ []) a e = let z : b.first ≡ f = cc in let h = a.0 in omega (arith, z, h)
last_below n f (b ∷ c ∷ cs) a e = last_below n f (c ∷ cs) a.1 e

pub last_some : (b : Asking) (bs : List Asking) → (f : ℕ) × (last_first (b ∷ bs) ≡ Some f)
last_some b [] = (b.first, refl)
last_some b (c ∷ cs) = last_some c cs

last_again : (n : ℕ) (bs : List Asking) → last_first (again_at n bs) ≡ last_first bs
last_again n [] = refl
last_again n (b ∷ []) = refl
last_again n (b ∷ c ∷ cs) = refl

last_decided : (n : ℕ) (a : Answer) (bs : List Asking) → last_first (decided_at n a bs) ≡ last_first bs
last_decided n a [] = refl
last_decided n a (b ∷ []) = refl
last_decided n a (b ∷ c ∷ cs) = refl

last_asked : (b : Asking) (bs : List Asking) (f : ℕ) → last_first bs ≡ Some f → last_first (b ∷ bs) ≡ Some f
last_asked b [] f e = absurd cc
last_asked b (c ∷ cs) f e = e

none_more : (o : Option (List ℕ)) → is_some (or_else o None) ≡ true → is_some o ≡ true
none_more None h = h
none_more (Some x) h = refl

-- ---- outputs that are kept
pub record KeptAt (setup : Setup) (slave : Slave) (log : List LogEntry) (row : ℕ) (xs : List Placed) : Type 0 where
  pub place : ℕ
  pub brings : Brings setup log slave (row % 65536) place
  pub low : place < next_place xs
  pub first : ℕ
  pub last_is : last_first (now xs) ≡ Some first
  pub before : first < place

-- in a phase that has a request, a conversation that rests has asked it
stage_some : (job : Job) (marks : List Mark) (bs : List Asking) → Stage job marks bs → (asked_by job ≡ [] → ⊥) → (f : ℕ) × (last_first bs ≡ Some f)
stage_some job marks bs (idling l e a) n = absurd (n a)
stage_some job marks bs (main_open r l k) n = let z = last_some k.newest k.ms in (z.0, ap last_first k.is ∙ z.1)
stage_some job marks bs (question_open r l k) n = let z = last_some k.newest (k.qs ++ k.ms) in (z.0, ap last_first k.is ∙ z.1)
stage_some job marks bs (trying r code l h k) n = let z = last_some k.newest k.ms in (z.0, ap last_first k.is ∙ z.1)
stage_some job marks bs (mains_done r l k w) n = let z = last_some k.newest k.ms in (z.0, ap last_first k.is ∙ z.1)
stage_some job marks bs (state_told s l k h) n = let z = last_some k.newest (k.qs ++ k.ms) in (z.0, ap last_first k.is ∙ z.1)

not_empty : (job : Job) (row : ℕ) → task_row job.task ≡ Some row → asked_by job ≡ [] → ⊥
not_empty job row e a = let o = outputs_request job.task job.list row e in let z : Change o.0 stc.SendOutputs ∷ [] ≡ [] = sym o.1 ∙ a in cc

some_or : (o p : Option (List ℕ)) → is_some o ≡ false → is_some (or_else o p) ≡ true → is_some p ≡ true
some_or None p e h = h
some_or (Some x) p e h = absurd cc

brings_number : (n number : ℕ) (p : List ℕ) → is_some (mark_brings n (Brought number p)) ≡ true → number ≡ n
brings_number n number p h = by (number == n) refl h
  where
    by : (b : Bool) → (number == n) ≡ b → is_some (if b then Some p else None) ≡ true → number ≡ n
    by true e h = eqb-true number n e
    by false e h = absurd cc

pub kept_at : (setup : Setup) (slave : Slave) (log : List LogEntry) (js : List Job) (xs : List Placed) → AreLegal setup.limits js (marks_of xs) → AreDated setup slave log xs → cause_of (marks_of xs) ≡ None → (job : Job) → job_of (marks_of xs) ≡ Some job → (row : ℕ) → task_row job.task ≡ Some row
    → is_some (kept row (marks_of xs)) ≡ true → KeptAt setup slave log row xs
kept_at setup slave log js [] l d c job e row r h = absurd cc
kept_at setup slave log js (x ∷ xs) l d c job e row r h = by x.mark l d.0 c e h (λ c e h. kept_at setup slave log js xs l.1 d.1 c job e row r h)
  where
    IH : Type 0
    IH = cause_of (marks_of xs) ≡ None → job_of (marks_of xs) ≡ Some job → is_some (kept row (marks_of xs)) ≡ true → KeptAt setup slave log row xs

    over : (m : Mark) → IsDated setup slave log x.place m xs → (k : KeptAt setup slave log row xs) → last_first (now_by x.place m (marks_of xs) (now xs)) ≡ Some k.first → KeptAt setup slave log row (at x.place m ∷ xs)
    over m w k f =
        let low = k.low in
        let up = next_rises setup slave log (at x.place m) xs w in
        record { place = k.place; brings = k.brings; low = omega (arith, low, up); first = k.first; last_is = f; before = k.before }

    here : (number : ℕ) (p : List ℕ) → AreLegal setup.limits js (Brought number p ∷ marks_of xs) → IsDated setup slave log x.place (Brought number p) xs → cause_of (marks_of xs) ≡ None → job_of (marks_of xs) ≡ Some job → is_some (kept row (marks_of xs)) ≡ false → is_some (kept row (Brought number p ∷ marks_of xs)) ≡ true → KeptAt setup slave log row (at x.place (Brought number p) ∷ xs)
    here number p l w c e k h =
        let n = brings_number (row % 65536) number p (some_or (kept row (marks_of xs)) (mark_brings (row % 65536) (Brought number p)) k h) in
        let s = stage setup.limits js xs l.1 l.0 c job e in
        let f = stage_some job (marks_of xs) (now xs) s (not_empty job row r) in
        let below = last_below (next_place xs) f.0 (now xs) (all_below setup slave log xs d.1) f.1 in
        let later = w.later in
        let P : ℕ → Type 0 = λ i. Brings setup log slave i x.place in
        record { place = x.place; brings = subst P n w.brings; low = omega arith; first = f.0; last_is = f.1; before = omega (arith, below, later) }

    by : (m : Mark) → AreLegal setup.limits js (m ∷ marks_of xs) → IsDated setup slave log x.place m xs → cause_of (m ∷ marks_of xs) ≡ None → job_of (m ∷ marks_of xs) ≡ Some job → is_some (kept row (m ∷ marks_of xs)) ≡ true → IH → KeptAt setup slave log row (at x.place m ∷ xs)
    by (Begun j) l w c e h f = absurd cc
    by (Asked q) l w c e h f = let k = f c e (none_more (kept row (marks_of xs)) h) in over (Asked q) w k (last_asked (first_at x.place (asked (marks_of xs) % 65536) q) (now xs) k.first k.last_is)
    by Again l w c e h f = let k = f c e (none_more (kept row (marks_of xs)) h) in over Again w k (last_again x.place (now xs) ∙ k.last_is)
    by (Answered q a) l w c e h f = let k = f c e (none_more (kept row (marks_of xs)) h) in over (Answered q a) w k (last_decided x.place a (now xs) ∙ k.last_is)
    by Hinted l w c e h f = let k = f c e (none_more (kept row (marks_of xs)) h) in over Hinted w k k.last_is
    by (Turned t) l w c e h f = let k = f c e (none_more (kept row (marks_of xs)) h) in over (Turned t) w k k.last_is
    by (Ended cause) l w c e h f = absurd cc
    by (Brought number p) l w c e h f = two (is_some (kept row (marks_of xs))) refl
      where
        two : (b : Bool) → is_some (kept row (marks_of xs)) ≡ b → KeptAt setup slave log row (at x.place (Brought number p) ∷ xs)
        two true z = let k = f c e z in over (Brought number p) w k k.last_is
        two false z = here number p l w c e z h

-- they came in time after the answer that named the target
pub kept_soon : (setup : Setup) (slave : Slave) (log : List LogEntry) (js : List Job) (xs : List Placed) → 1 ≤ setup.limits.data_turns → AreLegal setup.limits js (marks_of xs) → Rests setup.limits (marks_of xs) → AreDated setup slave log xs → cause_of (marks_of xs) ≡ None
    → (job : Job) → job_of (marks_of xs) ≡ Some job → (row : ℕ) → task_row job.task ≡ Some row → is_by_list job.task ≡ false → is_by_end job.task ≡ false → (s : ℕ) → latest (marks_of xs) ≡ latests.Answered AskState (StateAck s) → is_state (target_of job.task) s ≡ true → (i : ℕ) → newest is_answer xs ≡ Some i
    → is_some (kept row (marks_of xs)) ≡ true → (k : KeptAt setup slave log row xs) × (turns_before setup.address log k.place < turns_before setup.address log i + setup.limits.data_turns)
kept_soon setup slave log js [] one l w d c job e row r bl be s o t i n h = absurd cc
kept_soon setup slave log js (x ∷ xs) one l w d c job e row r bl be s o t i n h =
    by x.mark l d.0 c e o n h (λ w c e o n h. kept_soon setup slave log js xs one l.1 w d.1 c job e row r bl be s o t i n h) (λ c e h. kept_at setup slave log js xs l.1 d.1 c job e row r h)
  where
    Soon : List Placed → Type 0
    Soon zs = (k : KeptAt setup slave log row zs) × (turns_before setup.address log k.place < turns_before setup.address log i + setup.limits.data_turns)

    over : (m : Mark) → IsDated setup slave log x.place m xs → (k : KeptAt setup slave log row xs) → turns_before setup.address log k.place < turns_before setup.address log i + setup.limits.data_turns → last_first (now_by x.place m (marks_of xs) (now xs)) ≡ Some k.first → Soon (at x.place m ∷ xs)
    over m w k z f =
        let low = k.low in
        let up = next_rises setup slave log (at x.place m) xs w in
        (record { place = k.place; brings = k.brings; low = omega (arith, low, up); first = k.first; last_is = f; before = k.before }, z)

    unpassed_by : is_some (kept row (marks_of xs)) ≡ false → is_passed job (marks_of xs) ≡ false
    unpassed_by z =
        ap (λ (b : Bool). if b then nat_le (length job.list) (settings_answered (marks_of xs)) else if is_by_end job.task then list_any acks_change (this_phase (marks_of xs)) else (is_reached job.task (marks_of xs) && has_row_outputs (task_row job.task) (marks_of xs))) bl
        ∙ ap (λ (b : Bool). if b then list_any acks_change (this_phase (marks_of xs)) else (is_reached job.task (marks_of xs) && has_row_outputs (task_row job.task) (marks_of xs))) be
        ∙ ap (λ (q : Option ℕ). is_reached job.task (marks_of xs) && has_row_outputs q (marks_of xs)) r ∙ ap (λ (b : Bool). is_reached job.task (marks_of xs) && b) z ∙ and_false (is_reached job.task (marks_of xs))
      where
        and_false : (b : Bool) → (b && false) ≡ false
        and_false true = refl
        and_false false = refl

    here : (number : ℕ) (p : List ℕ) → AreLegal setup.limits js (Brought number p ∷ marks_of xs) → IsDated setup slave log x.place (Brought number p) xs → cause_of (marks_of xs) ≡ None → job_of (marks_of xs) ≡ Some job → latest (marks_of xs) ≡ latests.Answered AskState (StateAck s) → newest is_answer xs ≡ Some i
        → is_some (kept row (marks_of xs)) ≡ false → is_some (kept row (Brought number p ∷ marks_of xs)) ≡ true → Soon (at x.place (Brought number p) ∷ xs)
    here number p l w c e o n k h =
        let q = brings_number (row % 65536) number p (some_or (kept row (marks_of xs)) (mark_brings (row % 65536) (Brought number p)) k h) in
        let g = stage setup.limits js xs l.1 l.0 c job e in
        let f = stage_some job (marks_of xs) (now xs) g (not_empty job row r) in
        let below = last_below (next_place xs) f.0 (now xs) (all_below setup slave log xs d.1) f.1 in
        let later = w.later in
        let P : ℕ → Type 0 = λ i. Brings setup log slave i x.place in
        let soon = outputs_soon setup.limits js (marks_of xs) one l.1 l.0 c job e s o t (unpassed_by k) in
        let since = turns_to setup slave log setup.limits js is_answer xs i (answers_in_phases setup.limits js) l.1 d.1 n in
        let now_is : turns_before setup.address log x.place ≡ clock (marks_of xs) = w.turns in
        (record { place = x.place; brings = subst P q w.brings; low = omega arith; first = f.0; last_is = f.1; before = omega (arith, below, later) }, omega (arith, soon, since, now_is))

    by : (m : Mark) → AreLegal setup.limits js (m ∷ marks_of xs) → IsDated setup slave log x.place m xs → cause_of (m ∷ marks_of xs) ≡ None → job_of (m ∷ marks_of xs) ≡ Some job → latest (m ∷ marks_of xs) ≡ latests.Answered AskState (StateAck s) → newest_if (is_answer m) x.place (newest is_answer xs) ≡ Some i → is_some (kept row (m ∷ marks_of xs)) ≡ true
        → (Rests setup.limits (marks_of xs) → cause_of (marks_of xs) ≡ None → job_of (marks_of xs) ≡ Some job → latest (marks_of xs) ≡ latests.Answered AskState (StateAck s) → newest is_answer xs ≡ Some i → is_some (kept row (marks_of xs)) ≡ true → Soon xs)
        → (cause_of (marks_of xs) ≡ None → job_of (marks_of xs) ≡ Some job → is_some (kept row (marks_of xs)) ≡ true → KeptAt setup slave log row xs) → Soon (at x.place m ∷ xs)
    by (Begun j) l w c e o n h f g = absurd cc
    by (Asked q) l w c e o n h f g = absurd cc
    by Again l w c e o n h f g = absurd (off (marks_of xs) l.0 o)
      where
        off : (ms : List Mark) → Does setup.limits ms Repeat → latest ms ≡ latests.Answered AskState (StateAck s) → ⊥
        off [] d o = d
        off (m ∷ ms) d o =
            let k = repeats_open setup.limits m ms d in
            let z : latests.Answered AskState (StateAck s) ≡ latests.Asked k.0 = sym o ∙ open_latest (latest (m ∷ ms)) k.0 k.1 in cc
    by (Answered q a) l w c e o n h f g =
        let k = g c e (none_more (kept row (marks_of xs)) h) in
        let z : x.place ≡ i = cc in
        let low = k.low in
        let later = w.later in
        let up = turns_rise setup.address log k.place i (omega (arith, low, later, z)) in
        over (Answered q a) w k (omega (arith, up, one)) (last_decided x.place a (now xs) ∙ k.last_is)
    by Hinted l w c e o n h f g = let k = f l.0 c e o n (none_more (kept row (marks_of xs)) h) in over Hinted w k.0 k.1 (k.0).last_is
    by (Turned v) l w c e o n h f g = let k = f l.0 c e o n (none_more (kept row (marks_of xs)) h) in over (Turned v) w k.0 k.1 (k.0).last_is
    by (Ended cause) l w c e o n h f g = absurd cc
    by (Brought number p) l w c e o n h f g = two (is_some (kept row (marks_of xs))) refl
      where
        two : (b : Bool) → is_some (kept row (marks_of xs)) ≡ b → Soon (at x.place (Brought number p) ∷ xs)
        two true z = let k = f l.0 c e o n z in over (Brought number p) w k.0 k.1 (k.0).last_is
        two false z = here number p l w c e o n z h
