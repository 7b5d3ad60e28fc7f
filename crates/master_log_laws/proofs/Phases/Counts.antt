-- Questions on the marks of the present phase are questions on its requests.
use Rattle.std.proofs.Common.{◌≡◌, ℕ, ◌+◌, ◌%◌, Bool, true, false, if◌then◌else◌, Option, Some, None, List, [], ◌∷◌, refl, sym, ap, ◌∙◌, subst, arith}
use Rattle.std.specs.Prelude.{◌==◌, ◌&&◌, ◌||◌, nat_le, count_by}
use Rattle.std.specs.List.{list_any}
use Rattle.std.proofs.lemmas.List.Sums.{sum_by-cons}
use Rattle.dcp_types.specs.Codes.{state_code}
use Rattle.dcp_types.specs.declared.states.State.{State}
use Rattle.pdu_layout.specs.declared.messages.Stc.TheVariants as stc
use Rattle.pdu_layout.specs.declared.messages.Cfg.TheVariants as cfg
use Rattle.dcp_types.specs.declared.limits.Limits.{Limits}
use Rattle.master_spec.specs.declared.requests.Request.{Request}
use Rattle.master_spec.specs.declared.requests.Request.TheVariants.{Change, Configure, AskState, AskError}
use Rattle.master_spec.specs.declared.requests.Answer.{Answer}
use Rattle.master_spec.specs.declared.requests.Answer.TheVariants.{Ack, Nack, StateAck, ErrorAck, LogAck}
use Rattle.master_spec.specs.declared.requests.Latest.{Latest}
use Rattle.master_spec.specs.declared.requests.Latest.TheVariants as latests
use Rattle.master_spec.specs.declared.tasks.Task.{Task}
use Rattle.master_spec.specs.Tasks.{target_of, asks_step}
use Rattle.master_spec.specs.Jobs.{Job}
use Rattle.master_spec.specs.Marks.{Mark, Begun, Asked, Again, Answered, Hinted, Brought, Turned, Ended, count, this_phase, acks_configuration, wants_inputs, refuses_inputs, names, asked, latest, settings_answered, refusals, is_named_by, is_reached}
use Rattle.master_spec.specs.Conversation.{is_state}
use Rattle.master_spec.specs.Requests.{Asking, Decision, decided_by, is_state_question, is_ack}
use Rattle.master_spec.specs.Shown.{names_in, names_target}
use Rattle.master_log_laws.specs.Asking.Legal.{IsLegal, AreLegal}
use Rattle.master_log_laws.specs.Index.Index.{Placed, marks_of, code_of, first_at, again_at, decided_at}
use Rattle.master_log_laws.proofs.Phases.Now.{now_by, now, Linked, linked, open_latest}
use Rattle.master_log_laws.proofs.Phases.Mains.{code_is_step}

-- ---- by the type code
abbrev pub conf_code : ℕ → Bool
conf_code n = nat_le 32 n && nat_le n 43

abbrev pub is_conf : Request → Bool
is_conf (Configure body) = true
is_conf (Change state body) = false
is_conf AskState = false
is_conf AskError = false

abbrev pub is_question : Request → Bool
is_question AskState = true
is_question (Change state body) = false
is_question (Configure body) = false
is_question AskError = false

pub code_is_conf : (r : Request) → conf_code (code_of r) ≡ is_conf r
code_is_conf (Change state (stc.Register uuid op_mode major minor)) = refl
code_is_conf (Change state stc.Deregister) = refl
code_is_conf (Change state stc.Prepare) = refl
code_is_conf (Change state stc.Configure) = refl
code_is_conf (Change state stc.Initialize) = refl
code_is_conf (Change state (stc.Run start_time)) = refl
code_is_conf (Change state (stc.DoStep steps)) = refl
code_is_conf (Change state stc.SendOutputs) = refl
code_is_conf (Change state stc.Stop) = refl
code_is_conf (Change state stc.Reset) = refl
code_is_conf (Configure (cfg.TimeRes numerator denominator)) = refl
code_is_conf (Configure (cfg.Steps data_id steps)) = refl
code_is_conf (Configure (cfg.Input data_id position vr source_type)) = refl
code_is_conf (Configure (cfg.Output data_id position vr)) = refl
code_is_conf (Configure cfg.Clear) = refl
code_is_conf (Configure (cfg.Target net)) = refl
code_is_conf (Configure (cfg.Source net)) = refl
code_is_conf (Configure (cfg.Parameter vr kind value)) = refl
code_is_conf (Configure (cfg.Tunable param_id position vr kind)) = refl
code_is_conf (Configure (cfg.ParamNet param_id protocol port ip)) = refl
code_is_conf (Configure (cfg.Logging category level mode)) = refl
code_is_conf (Configure (cfg.Scope data_id scope)) = refl
code_is_conf AskState = refl
code_is_conf AskError = refl

pub code_is_question : (r : Request) → (code_of r == 128) ≡ is_question r
code_is_question (Change state (stc.Register uuid op_mode major minor)) = refl
code_is_question (Change state stc.Deregister) = refl
code_is_question (Change state stc.Prepare) = refl
code_is_question (Change state stc.Configure) = refl
code_is_question (Change state stc.Initialize) = refl
code_is_question (Change state (stc.Run start_time)) = refl
code_is_question (Change state (stc.DoStep steps)) = refl
code_is_question (Change state stc.SendOutputs) = refl
code_is_question (Change state stc.Stop) = refl
code_is_question (Change state stc.Reset) = refl
code_is_question (Configure (cfg.TimeRes numerator denominator)) = refl
code_is_question (Configure (cfg.Steps data_id steps)) = refl
code_is_question (Configure (cfg.Input data_id position vr source_type)) = refl
code_is_question (Configure (cfg.Output data_id position vr)) = refl
code_is_question (Configure cfg.Clear) = refl
code_is_question (Configure (cfg.Target net)) = refl
code_is_question (Configure (cfg.Source net)) = refl
code_is_question (Configure (cfg.Parameter vr kind value)) = refl
code_is_question (Configure (cfg.Tunable param_id position vr kind)) = refl
code_is_question (Configure (cfg.ParamNet param_id protocol port ip)) = refl
code_is_question (Configure (cfg.Logging category level mode)) = refl
code_is_question (Configure (cfg.Scope data_id scope)) = refl
code_is_question AskState = refl
code_is_question AskError = refl

-- ---- counting what is decided in a way
abbrev pub is_as : (Answer → Bool) → Option Decision → Bool
is_as d None = false
is_as d (Some e) = d e.answer

abbrev pub counts : (ℕ → Bool) → (Answer → Bool) → Asking → Bool
counts q d a = q a.code && is_as d a.decision

abbrev one_if : Bool → ℕ
one_if b = if b then 1 else 0

count_more : (p : Asking → Bool) (b : Asking) (bs : List Asking) → count_by p (b ∷ bs) ≡ one_if (p b) + count_by p bs
count_more p b bs = sum_by-cons (λ (a : Asking). if p a then 1 else 0) b bs

and_false : (x : Bool) → (x && false) ≡ false
and_false true = refl
and_false false = refl

count_asked : (q : ℕ → Bool) (d : Answer → Bool) (b : Asking) (bs : List Asking) → b.decision ≡ None → count_by (counts q d) (b ∷ bs) ≡ count_by (counts q d) bs
count_asked q d b bs e =
    let f = count_more (counts q d) b bs in
    let z : one_if (counts q d b) ≡ 0 = ap (λ (o : Option Decision). one_if (q b.code && is_as d o)) e ∙ ap one_if (and_false (q b.code)) in
    omega (arith, f, z)

count_again : (q : ℕ → Bool) (d : Answer → Bool) (n : ℕ) (bs : List Asking) → count_by (counts q d) (again_at n bs) ≡ count_by (counts q d) bs
count_again q d n [] = refl
count_again q d n (b ∷ bs) = let e = count_more (counts q d) b bs in count_more (counts q d) (record { code = b.code; number = b.number; more = b.more; first = b.first; repeats = n ∷ b.repeats; decision = b.decision }) bs ∙ sym e

count_answered : (q : ℕ → Bool) (d : Answer → Bool) (n : ℕ) (r : Request) (a : Answer) (bs : List Asking) → Linked (latests.Asked r) bs → count_by (counts q d) (decided_at n a bs) ≡ one_if (q (code_of r) && d a) + count_by (counts q d) bs
count_answered q d n r a [] k = absurd k
count_answered q d n r a (b ∷ bs) k =
    let new : Asking = record { code = b.code; number = b.number; more = b.more; first = b.first; repeats = b.repeats; decision = decided_by b.decision (record { place = n; answer = a }) } in
    let e = count_more (counts q d) new bs in
    let f = count_asked q d b bs k.1 in
    let z : one_if (counts q d new) ≡ one_if (q (code_of r) && d a) =
    ap (λ (m : ℕ). one_if (q m && is_as d (decided_by b.decision (record { place = n; answer = a })))) (k.0).0
    ∙ ap (λ (o : Option Decision). one_if (q (code_of r) && is_as d (decided_by o (record { place = n; answer = a })))) k.1 in
    omega (arith, e, f, z)

-- a kind of marks in which only answers count
abbrev pub IsOfAnswers : (ℕ → Bool) → (Answer → Bool) → (Mark → Bool) → Mark → Type 0
IsOfAnswers q d t (Answered r a) = t (Answered r a) ≡ (q (code_of r) && d a)
IsOfAnswers q d t (Begun job) = Unit {0}
IsOfAnswers q d t (Asked r) = t (Asked r) ≡ false
IsOfAnswers q d t Again = t Again ≡ false
IsOfAnswers q d t Hinted = t Hinted ≡ false
IsOfAnswers q d t (Brought number payload) = t (Brought number payload) ≡ false
IsOfAnswers q d t (Turned settled) = t (Turned settled) ≡ false
IsOfAnswers q d t (Ended cause) = t (Ended cause) ≡ false

none_more : (t : Bool) (n m : ℕ) → t ≡ false → n ≡ m → (if t then n + 1 else n) ≡ m
none_more true n m e h = absurd cc
none_more false n m e h = h

pub count_now : (q : ℕ → Bool) (d : Answer → Bool) (t : Mark → Bool) (limits : Limits) (js : List Job) (xs : List Placed) → ((m : Mark) → IsOfAnswers q d t m) → AreLegal limits js (marks_of xs)
    → count t (this_phase (marks_of xs)) ≡ count_by (counts q d) (now xs)
count_now q d t limits js [] f l = refl
count_now q d t limits js (x ∷ xs) f l = by x.mark (f x.mark) l.0 (linked limits js xs l.1) (count_now q d t limits js xs f l.1)
  where
    old : ℕ
    old = count t (this_phase (marks_of xs))

    by : (m : Mark) → IsOfAnswers q d t m → IsLegal limits js m (marks_of xs) → Linked (latest (marks_of xs)) (now xs) → old ≡ count_by (counts q d) (now xs)
        → count t (this_phase (m ∷ marks_of xs)) ≡ count_by (counts q d) (now_by x.place m (marks_of xs) (now xs))
    by (Begun job) g k i h = refl
    by (Asked r) g k i h = none_more (t (Asked r)) old _ g (h ∙ sym (count_asked q d (first_at x.place (asked (marks_of xs) % 65536) r) (now xs) refl))
    by Again g k i h = none_more (t Again) old _ g (h ∙ sym (count_again q d x.place (now xs)))
    by (Answered r a) g k i h =
        let P : Latest → Type 0 = λ y. Linked y (now xs) in
        let e = count_answered q d x.place r a (now xs) (subst P (open_latest (latest (marks_of xs)) r k.1) i) in
        let z : (if t (Answered r a) then old + 1 else old) ≡ one_if (q (code_of r) && d a) + old = ap (λ (b : Bool). if b then old + 1 else old) g ∙ sums (q (code_of r) && d a) old in
        z ∙ ap (λ (n : ℕ). one_if (q (code_of r) && d a) + n) h ∙ sym e
      where
        sums : (b : Bool) (n : ℕ) → (if b then n + 1 else n) ≡ one_if b + n
        sums true n = omega arith
        sums false n = omega arith
    by Hinted g k i h = none_more (t Hinted) old _ g h
    by (Brought number payload) g k i h = none_more (t (Brought number payload)) old _ g h
    by (Turned settled) g k i h = none_more (t (Turned settled)) old _ g h
    by (Ended cause) g k i h = none_more (t (Ended cause)) old _ g h

-- ---- acknowledged configurations
conf_kind : (m : Mark) → IsOfAnswers conf_code is_ack acks_configuration m
conf_kind (Begun job) = tt
conf_kind (Asked r) = refl
conf_kind Again = refl
conf_kind Hinted = refl
conf_kind (Brought number payload) = refl
conf_kind (Turned settled) = refl
conf_kind (Ended cause) = refl
conf_kind (Answered r a) = by r a ∙ ap (λ (b : Bool). b && is_ack a) (sym (code_is_conf r))
  where
    by : (r : Request) (a : Answer) → acks_configuration (Answered r a) ≡ (is_conf r && is_ack a)
    by (Configure body) Ack = refl
    by (Configure body) (Nack code) = refl
    by (Configure body) (StateAck s) = refl
    by (Configure body) (ErrorAck code) = refl
    by (Configure body) LogAck = refl
    by (Change state body) a = refl
    by AskState a = refl
    by AskError a = refl

pub configured_now : (limits : Limits) (js : List Job) (xs : List Placed) → AreLegal limits js (marks_of xs) → settings_answered (marks_of xs) ≡ count_by (counts conf_code is_ack) (now xs)
configured_now limits js xs l = count_now conf_code is_ack acks_configuration limits js xs conf_kind l

-- ---- refused steps
step_kind : (m : Mark) → IsOfAnswers (λ n. n == 7) refuses_inputs wants_inputs m
step_kind (Begun job) = tt
step_kind (Asked r) = refl
step_kind Again = refl
step_kind Hinted = refl
step_kind (Brought number payload) = refl
step_kind (Turned settled) = refl
step_kind (Ended cause) = refl
step_kind (Answered r a) = turned (refuses_inputs a) (asks_step r) ∙ ap (λ (b : Bool). b && refuses_inputs a) (sym (code_is_step r))
  where
    turned : (x y : Bool) → (x && y) ≡ (y && x)
    turned true true = refl
    turned true false = refl
    turned false true = refl
    turned false false = refl

pub refusals_now : (limits : Limits) (js : List Job) (xs : List Placed) → AreLegal limits js (marks_of xs) → refusals (marks_of xs) ≡ count_by (counts (λ n. n == 7) refuses_inputs) (now xs)
refusals_now limits js xs l = count_now (λ n. n == 7) refuses_inputs wants_inputs limits js xs step_kind l

-- ---- whether an answer named the target
abbrev pub names_it : Task → Asking → Bool
names_it task a = is_state_question a && names_target task a.decision

any_asked : (task : Task) (b : Asking) (bs : List Asking) → b.decision ≡ None → list_any (names_it task) (b ∷ bs) ≡ list_any (names_it task) bs
any_asked task b bs e = ap (λ (o : Option Decision). (is_state_question b && names_target task o) || list_any (names_it task) bs) e ∙ ap (λ (t : Bool). t || list_any (names_it task) bs) (and_false (is_state_question b))

any_again : (task : Task) (n : ℕ) (bs : List Asking) → list_any (names_it task) (again_at n bs) ≡ list_any (names_it task) bs
any_again task n [] = refl
any_again task n (b ∷ bs) = refl

any_answered : (task : Task) (n : ℕ) (r : Request) (a : Answer) (bs : List Asking) → Linked (latests.Asked r) bs → list_any (names_it task) (decided_at n a bs) ≡ ((is_question r && names_in task a) || list_any (names_it task) bs)
any_answered task n r a [] k = absurd k
any_answered task n r a (b ∷ bs) k =
    ap (λ (o : Option Decision). (is_state_question b && names_target task (decided_by o (record { place = n; answer = a }))) || list_any (names_it task) bs) k.1
    ∙ ap (λ (m : ℕ). ((m == 128) && names_in task a) || list_any (names_it task) bs) (k.0).0
    ∙ ap (λ (t : Bool). (t && names_in task a) || list_any (names_it task) bs) (code_is_question r)
    ∙ ap (λ (t : Bool). (is_question r && names_in task a) || t) (sym (any_asked task b bs k.1))

names_none : (task : Task) → target_of task ≡ None → (a : Answer) → names_in task a ≡ false
names_none task e Ack = refl
names_none task e (Nack code) = refl
names_none task e (StateAck s) = ap (λ (t : Option State). is_state t s) e
names_none task e (ErrorAck code) = refl
names_none task e LogAck = refl

never_named : (task : Task) (bs : List Asking) → target_of task ≡ None → list_any (names_it task) bs ≡ false
never_named task [] e = refl
never_named task (b ∷ bs) e = ap (λ (t : Bool). t || list_any (names_it task) bs) (one b.decision) ∙ never_named task bs e
  where
    one : (o : Option Decision) → (is_state_question b && names_target task o) ≡ false
    one None = and_false (is_state_question b)
    one (Some d) = ap (λ (t : Bool). is_state_question b && t) (names_none task e d.answer) ∙ and_false (is_state_question b)

named_now : (task : Task) (state : State) (limits : Limits) (js : List Job) (xs : List Placed) → target_of task ≡ Some state → AreLegal limits js (marks_of xs) → list_any (names (state_code state)) (this_phase (marks_of xs)) ≡ list_any (names_it task) (now xs)
named_now task state limits js [] e l = refl
named_now task state limits js (x ∷ xs) e l = by x.mark l.0 (linked limits js xs l.1) (named_now task state limits js xs e l.1)
  where
    c : ℕ
    c = state_code state

    old : Bool
    old = list_any (names c) (this_phase (marks_of xs))

    answer : (r : Request) (a : Answer) → names c (Answered r a) ≡ (is_question r && names_in task a)
    answer AskState (StateAck s) = ap (λ (t : Option State). is_state t s) (sym e)
    answer AskState Ack = refl
    answer AskState (Nack code) = refl
    answer AskState (ErrorAck code) = refl
    answer AskState LogAck = refl
    answer (Change s body) a = refl
    answer (Configure body) a = refl
    answer AskError a = refl

    by : (m : Mark) → IsLegal limits js m (marks_of xs) → Linked (latest (marks_of xs)) (now xs) → old ≡ list_any (names_it task) (now xs)
        → list_any (names c) (this_phase (m ∷ marks_of xs)) ≡ list_any (names_it task) (now_by x.place m (marks_of xs) (now xs))
    by (Begun job) k i h = refl
    by (Asked r) k i h = h ∙ sym (any_asked task (first_at x.place (asked (marks_of xs) % 65536) r) (now xs) refl)
    by Again k i h = h ∙ sym (any_again task x.place (now xs))
    by (Answered r a) k i h =
        let P : Latest → Type 0 = λ y. Linked y (now xs) in
        ap (λ (t : Bool). t || old) (answer r a) ∙ ap (λ (t : Bool). (is_question r && names_in task a) || t) h
        ∙ sym (any_answered task x.place r a (now xs) (subst P (open_latest (latest (marks_of xs)) r k.1) i))
    by Hinted k i h = h
    by (Brought number payload) k i h = h
    by (Turned settled) k i h = h
    by (Ended cause) k i h = h

pub reached_now : (task : Task) (limits : Limits) (js : List Job) (xs : List Placed) → AreLegal limits js (marks_of xs) → is_reached task (marks_of xs) ≡ list_any (names_it task) (now xs)
reached_now task limits js xs l = by (target_of task) refl
  where
    by : (t : Option State) → target_of task ≡ t → is_named_by t (marks_of xs) ≡ list_any (names_it task) (now xs)
    by None e = sym (never_named task (now xs) e)
    by (Some state) e = named_now task state limits js xs e l
