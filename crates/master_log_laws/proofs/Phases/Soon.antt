-- Nothing is waited for beyond its limit.
use Rattle.std.proofs.Common.{◌≡◌, ℕ, ◌+◌, ◌<◌, ◌≤◌, Bool, true, false, if◌then◌else◌, Some, None, List, [], ◌∷◌, refl, sym, ap, ◌∙◌, arith}
use Rattle.std.specs.Prelude.{◌&&◌, nat_le}
use Rattle.std.proofs.lemmas.Bool.{leb-true, leb-false}
use Rattle.dcp_types.specs.declared.limits.Limits.{Limits}
use Rattle.master_spec.specs.declared.causes.Cause.{Cause}
use Rattle.master_spec.specs.declared.causes.Cause.TheVariants as causes
use Rattle.master_spec.specs.declared.requests.Request.{Request}
use Rattle.master_spec.specs.declared.requests.Answer.{Answer}
use Rattle.master_spec.specs.declared.requests.Answer.TheVariants.{Ack, Nack, StateAck, ErrorAck, LogAck}
use Rattle.master_spec.specs.declared.requests.Latest.{Latest}
use Rattle.master_spec.specs.declared.requests.Latest.TheVariants as latests
use Rattle.master_spec.specs.declared.reactions.Reaction.TheVariants.{Wait, Ask, Repeat, GiveUp}
use Rattle.master_spec.specs.declared.reactions.Awaited.{Awaited}
use Rattle.master_spec.specs.declared.reactions.Awaited.TheVariants.{TheAnswer}
use Rattle.master_spec.specs.Tasks.{asks_step, task_step}
use Rattle.master_spec.specs.Jobs.{Job}
use Rattle.master_spec.specs.Marks.{Mark, Begun, Asked, Again, Answered, Hinted, Brought, Turned, Ended, is_sending, refuses_inputs, turns_since, newest_number, latest, open_request, sendings, refusals, job_of, cause_of}
use Rattle.master_spec.specs.Conversation.{on_answer, on_mark, on_turn, on_silence, awaited, awaited_by, reaction}
use Rattle.master_log_laws.specs.Asking.Legal.{Rests, AreLegal}
use Rattle.master_log_laws.proofs.Asking.Legal.{IsOwn, own_rests}
use Rattle.master_log_laws.proofs.Index.Events.{repeats_open, again_turn, hint_again}
use Rattle.master_log_laws.proofs.Phases.Inverse.{reacts, nack_waits}

-- ---- a repeat comes with a turn
pub record IsRepeated (limits : Limits) (marks : List Mark) : Type 0 where
  pub long : limits.turn_limit ≤ turns_since is_sending marks
  pub few : sendings marks < limits.tries

silence_repeats : (limits : Limits) (marks : List Mark) → on_silence limits marks ≡ Repeat → IsRepeated limits marks
silence_repeats limits marks h = by (nat_le limits.turn_limit (turns_since is_sending marks)) (nat_le limits.tries (sendings marks)) refl refl h
  where
    by : (b c : Bool) → nat_le limits.turn_limit (turns_since is_sending marks) ≡ b → nat_le limits.tries (sendings marks) ≡ c → (if b then (if c then GiveUp (causes.NoAnswer (newest_number marks)) else Repeat) else Wait) ≡ Repeat → IsRepeated limits marks
    by true true p q e = absurd cc
    by true false p q e = let l = leb-false limits.tries (sendings marks) q in record { long = leb-true limits.turn_limit (turns_since is_sending marks) p; few = omega (arith, l) }
    by false c p q e = absurd cc

silence_waits : (limits : Limits) (marks : List Mark) → on_silence limits marks ≡ Wait → turns_since is_sending marks < limits.turn_limit
silence_waits limits marks h = by (nat_le limits.turn_limit (turns_since is_sending marks)) (nat_le limits.tries (sendings marks)) refl h
  where
    by : (b c : Bool) → nat_le limits.turn_limit (turns_since is_sending marks) ≡ b → (if b then (if c then GiveUp (causes.NoAnswer (newest_number marks)) else Repeat) else Wait) ≡ Wait → turns_since is_sending marks < limits.turn_limit
    by true true p e = absurd cc
    by true false p e = absurd cc
    by false c p e = let l = leb-false limits.turn_limit (turns_since is_sending marks) p in omega (arith, l)

turn_repeats : (limits : Limits) (job : Job) (a : Awaited) (settled : Bool) (marks : List Mark) → on_turn limits job a settled marks ≡ Repeat → IsRepeated limits marks
turn_repeats limits job a settled marks h =
    let z = again_turn limits job a latests.Nothing settled marks h in
    silence_repeats limits marks (ap (λ (x : Awaited). on_turn limits job x settled marks) (sym z) ∙ h)

pub repeats_at : (limits : Limits) (m : Mark) (marks : List Mark) (job : Job) → cause_of marks ≡ None → job_of (m ∷ marks) ≡ Some job → reaction limits m marks ≡ Repeat → ((settled : Bool) × (m ≡ Turned settled)) × IsRepeated limits (m ∷ marks)
repeats_at limits m marks job c e h = by m e h (sym (reacts limits m marks job c e) ∙ h) (repeats_open limits m marks h)
  where
    closed : (r : Request) → None ≡ Some r → ⊥
    closed r z = cc

    by : (m : Mark) → job_of (m ∷ marks) ≡ Some job → reaction limits m marks ≡ Repeat → on_mark limits job m marks (m ∷ marks) ≡ Repeat → (r : Request) × (open_request (m ∷ marks) ≡ Some r)
        → ((settled : Bool) × (m ≡ Turned settled)) × IsRepeated limits (m ∷ marks)
    by (Begun j) e h z o = absurd (closed o.0 o.1)
    by (Answered r a) e h z o = absurd (closed o.0 o.1)
    by Hinted e h z o = absurd (hint_again (awaited job (Hinted ∷ marks)) z)
    by (Brought n p) e h z o = absurd cc
    by (Turned s) e h z o = ((s, refl), turn_repeats limits job (awaited job (Turned s ∷ marks)) s (Turned s ∷ marks) z)
    by (Asked r) e h z o = absurd cc
    by Again e h z o = absurd cc
    by (Ended cause) e h z o = absurd cc

-- ---- an open request is young
clash_answered : (r q : Request) (a : Answer) → latests.Answered q a ≡ latests.Asked r → ⊥
clash_answered r q a z = cc

clash_nothing : (r : Request) → latests.Nothing ≡ latests.Asked r → ⊥
clash_nothing r z = cc

clash_cause : (c : Cause) → Some c ≡ None → ⊥
clash_cause c z = cc

pub soon : (limits : Limits) (js : List Job) (marks : List Mark) → 1 ≤ limits.turn_limit → AreLegal limits js marks → Rests limits marks → cause_of marks ≡ None → (job : Job) → job_of marks ≡ Some job → (r : Request) → latest marks ≡ latests.Asked r → turns_since is_sending marks < limits.turn_limit
soon limits js [] one l s c job e r o = absurd (clash_nothing r o)
soon limits js (Begun j ∷ marks) one l s c job e r o = absurd (clash_nothing r o)
soon limits js (Asked q ∷ marks) one l s c job e r o = one
soon limits js (Again ∷ marks) one l s c job e r o = one
soon limits js (Answered q a ∷ marks) one l s c job e r o = absurd (clash_answered r q a o)
soon limits js (Hinted ∷ marks) one l s c job e r o = soon limits js marks one l.1 l.0 c job e r o
soon limits js (Brought n p ∷ marks) one l s c job e r o = soon limits js marks one l.1 l.0 c job e r o
soon limits js (Turned t ∷ marks) one l s c job e r o =
    let a : awaited job (Turned t ∷ marks) ≡ TheAnswer = ap (λ (x : Latest). awaited_by job x (Turned t ∷ marks)) o in
    silence_waits limits (Turned t ∷ marks) (ap (λ (x : Awaited). on_turn limits job x t (Turned t ∷ marks)) (sym a) ∙ sym (reacts limits (Turned t) marks job c e) ∙ s)
soon limits js (Ended cause ∷ marks) one l s c job e r o = absurd (clash_cause cause c)

pub few : (limits : Limits) (js : List Job) (marks : List Mark) → 1 ≤ limits.tries → AreLegal limits js marks → cause_of marks ≡ None → (job : Job) → job_of marks ≡ Some job → (r : Request) → latest marks ≡ latests.Asked r → sendings marks ≤ limits.tries
few limits js [] one l c job e r o = absurd (clash_nothing r o)
few limits js (Begun j ∷ marks) one l c job e r o = absurd (clash_nothing r o)
few limits js (Asked q ∷ marks) one l c job e r o = one
few limits js (Again ∷ []) one l c job e r o = absurd l.0
few limits js (Again ∷ m ∷ marks) one l c job e r o = by m l.0 c e (cause_stays_none m marks c)
  where
    cause_stays_none : (m : Mark) (marks : List Mark) → cause_of (m ∷ marks) ≡ None → cause_of marks ≡ None
    cause_stays_none (Begun j) marks h = h
    cause_stays_none (Asked q) marks h = h
    cause_stays_none Again marks h = h
    cause_stays_none (Answered q a) marks h = h
    cause_stays_none Hinted marks h = h
    cause_stays_none (Brought n p) marks h = h
    cause_stays_none (Turned t) marks h = h
    cause_stays_none (Ended cause) marks h = absurd (clash_cause cause h)

    by : (m : Mark) → reaction limits m marks ≡ Repeat → cause_of (m ∷ marks) ≡ None → job_of (m ∷ marks) ≡ Some job → cause_of marks ≡ None → sendings (Again ∷ m ∷ marks) ≤ limits.tries
    by m h c e d = let z = (repeats_at limits m marks job d e h).1.few in omega (arith, z)
few limits js (Answered q a ∷ marks) one l c job e r o = absurd (clash_answered r q a o)
few limits js (Hinted ∷ marks) one l c job e r o = few limits js marks one l.1 c job e r o
few limits js (Brought n p ∷ marks) one l c job e r o = few limits js marks one l.1 c job e r o
few limits js (Turned t ∷ marks) one l c job e r o = few limits js marks one l.1 c job e r o
few limits js (Ended cause ∷ marks) one l c job e r o = absurd (clash_cause cause c)

-- ---- steps are refused less often than the limit says
pub missing_few : (limits : Limits) (job : Job) (r : Request) (a : Answer) (older : List Mark) → on_answer limits job r a older (Answered r a ∷ older) ≡ Wait → (refuses_inputs a && asks_step r) ≡ true → refusals (Answered r a ∷ older) < limits.step_tries
missing_few limits job r (Nack code) older h w = let z = (nack_waits limits job r code (Answered r (Nack code) ∷ older) h).1 in let l = leb-false limits.step_tries (refusals (Answered r (Nack code) ∷ older)) z in omega (arith, l)
missing_few limits job r Ack older h w = absurd cc
missing_few limits job r (StateAck s) older h w = absurd cc
missing_few limits job r (ErrorAck s) older h w = absurd cc
missing_few limits job r LogAck older h w = absurd cc

not_missing_asks : (limits : Limits) (job : Job) (r : Request) (a : Answer) (older : List Mark) (q : Request) → on_answer limits job r a older (Answered r a ∷ older) ≡ Ask q → (refuses_inputs a && asks_step r) ≡ true → ⊥
not_missing_asks limits job r (Nack code) older q h w = by (nat_le limits.step_tries (refusals (Answered r (Nack code) ∷ older))) (ap (λ (b : Bool). if b then (if nat_le limits.step_tries (refusals (Answered r (Nack code) ∷ older)) then GiveUp (causes.InputsMissing (newest_number (Answered r (Nack code) ∷ older)) (task_step job.task)) else Wait) else GiveUp (causes.Refused (newest_number (Answered r (Nack code) ∷ older)) code)) (sym w) ∙ h)
  where
    by : (b : Bool) → (if b then GiveUp (causes.InputsMissing (newest_number (Answered r (Nack code) ∷ older)) (task_step job.task)) else Wait) ≡ Ask q → ⊥
    by true z = cc
    by false z = cc
not_missing_asks limits job r Ack older q h w = absurd cc
not_missing_asks limits job r (StateAck s) older q h w = absurd cc
not_missing_asks limits job r (ErrorAck s) older q h w = absurd cc
not_missing_asks limits job r LogAck older q h w = absurd cc

not_more : (b : Bool) (n : ℕ) → b ≡ false → (if b then n + 1 else n) ≡ n
not_more true n e = absurd cc
not_more false n e = refl

pub refused_few : (limits : Limits) (js : List Job) (marks : List Mark) → 1 ≤ limits.step_tries → AreLegal limits js marks → Rests limits marks → cause_of marks ≡ None → (job : Job) → job_of marks ≡ Some job → refusals marks < limits.step_tries
refused_few limits js [] one l s c job e = one
refused_few limits js (Begun j ∷ marks) one l s c job e = one
refused_few limits js (Asked q ∷ []) one l s c job e = absurd l.0
refused_few limits js (Asked q ∷ m ∷ marks) one l s c job e = by m l.0 l.1 c e (λ l s c e. refused_few limits js marks one l s c job e)
  where
    own : (m : Mark) → IsOwn m → reaction limits m marks ≡ Ask q → ⊥
    own m o h = let z : Wait ≡ Ask q = sym (own_rests limits m marks o) ∙ h in cc

    by : (m : Mark) → reaction limits m marks ≡ Ask q → AreLegal limits js (m ∷ marks) → cause_of (m ∷ marks) ≡ None → job_of (m ∷ marks) ≡ Some job
        → (AreLegal limits js marks → Rests limits marks → cause_of marks ≡ None → job_of marks ≡ Some job → refusals marks < limits.step_tries) → refusals (m ∷ marks) < limits.step_tries
    by (Begun j) h l c e f = one
    by (Answered r a) h l c e f = two (refuses_inputs a && asks_step r) refl
      where
        two : (b : Bool) → (refuses_inputs a && asks_step r) ≡ b → refusals (Answered r a ∷ marks) < limits.step_tries
        two true z = absurd (not_missing_asks limits job r a marks q (sym (reacts limits (Answered r a) marks job c e) ∙ h) z)
        two false z = let y = not_more (refuses_inputs a && asks_step r) (refusals marks) z in let x = f l.1 (l.0).0 c e in omega (arith, x, y)
    by Hinted h l c e f = f l.1 l.0 c e
    by (Brought n p) h l c e f = f l.1 l.0 c e
    by (Turned t) h l c e f = f l.1 l.0 c e
    by (Asked r) h l c e f = absurd (own (Asked r) tt h)
    by Again h l c e f = absurd (own Again tt h)
    by (Ended cause) h l c e f = absurd (own (Ended cause) tt h)
refused_few limits js (Again ∷ []) one l s c job e = absurd l.0
refused_few limits js (Again ∷ m ∷ marks) one l s c job e = by m l.0 l.1 c e (λ l s c e. refused_few limits js marks one l s c job e)
  where
    own : (m : Mark) → IsOwn m → reaction limits m marks ≡ Repeat → ⊥
    own m o h = let z : Wait ≡ Repeat = sym (own_rests limits m marks o) ∙ h in cc

    closed : (r : Request) → None ≡ Some r → ⊥
    closed r z = cc

    by : (m : Mark) → reaction limits m marks ≡ Repeat → AreLegal limits js (m ∷ marks) → cause_of (m ∷ marks) ≡ None → job_of (m ∷ marks) ≡ Some job
        → (AreLegal limits js marks → Rests limits marks → cause_of marks ≡ None → job_of marks ≡ Some job → refusals marks < limits.step_tries) → refusals (m ∷ marks) < limits.step_tries
    by (Begun j) h l c e f = one
    by (Answered r a) h l c e f = let o = repeats_open limits (Answered r a) marks h in absurd (closed o.0 o.1)
    by Hinted h l c e f = f l.1 l.0 c e
    by (Brought n p) h l c e f = f l.1 l.0 c e
    by (Turned t) h l c e f = f l.1 l.0 c e
    by (Asked r) h l c e f = absurd (own (Asked r) tt h)
    by Again h l c e f = absurd (own Again tt h)
    by (Ended cause) h l c e f = absurd (own (Ended cause) tt h)
refused_few limits js (Answered r a ∷ marks) one l s c job e = two (refuses_inputs a && asks_step r) refl (refused_few limits js marks one l.1 (l.0).0 c job e)
  where
    two : (b : Bool) → (refuses_inputs a && asks_step r) ≡ b → refusals marks < limits.step_tries → refusals (Answered r a ∷ marks) < limits.step_tries
    two true z x = missing_few limits job r a marks (sym (reacts limits (Answered r a) marks job c e) ∙ s) z
    two false z x = let y = not_more (refuses_inputs a && asks_step r) (refusals marks) z in omega (arith, x, y)
refused_few limits js (Hinted ∷ marks) one l s c job e = refused_few limits js marks one l.1 l.0 c job e
refused_few limits js (Brought n p ∷ marks) one l s c job e = refused_few limits js marks one l.1 l.0 c job e
refused_few limits js (Turned t ∷ marks) one l s c job e = refused_few limits js marks one l.1 l.0 c job e
refused_few limits js (Ended cause ∷ marks) one l s c job e = absurd (clash_cause cause c)
