-- Where a conversation ended with a request open, that was open for as many turns as the limit.
use Rattle.std.proofs.Common.{◌≡◌, ◌≤◌, Some, None, List, [], ◌∷◌, sym, ap, ◌∙◌, arith}
use Rattle.std.proofs.lemmas.Bool.{leb-true}
use Rattle.dcp_types.specs.declared.limits.Limits.{Limits}
use Rattle.master_spec.specs.declared.causes.Cause.{Cause}
use Rattle.master_spec.specs.declared.causes.Cause.TheVariants as causes
use Rattle.master_spec.specs.declared.requests.Request.{Request}
use Rattle.master_spec.specs.declared.requests.Latest.{Latest}
use Rattle.master_spec.specs.declared.reactions.Awaited.TheVariants.{TheAnswer, TheOutputs}
use Rattle.master_spec.specs.Jobs.{Job}
use Rattle.master_spec.specs.Marks.{Mark, Begun, Asked, Again, Answered, Hinted, Brought, Turned, Ended, is_sending, latest, open_request, turns_since}
use Rattle.master_spec.specs.Conversation.{awaited_by}
use Rattle.master_log_laws.specs.Index.Index.{Placed, marks_of, Why, ShutBy, Shut}
use Rattle.master_log_laws.proofs.Phases.Now.{open_latest}
use Rattle.master_log_laws.specs.Failures.Because.{BecauseOf, BecauseOfTurn}
use Rattle.master_log_laws.proofs.Failures.Because.{because}

none_some : (r : Request) → None ≡ Some r → ⊥
none_some r z = cc

by_turn : (limits : Limits) (job : Job) (ms : List Mark) (cause : Cause) (r : Request) → BecauseOfTurn limits job ms cause → open_request ms ≡ Some r → limits.turn_limit ≤ turns_since is_sending ms
by_turn limits job ms (causes.NoAnswer q) r b o = leb-true limits.turn_limit (turns_since is_sending ms) (b.1).0
by_turn limits job ms (causes.DataMissing k) r b o = absurd (off (sym (ap (λ (l : Latest). awaited_by job l ms) (open_latest (latest ms) r o)) ∙ (b.1).1))
  where
    off : TheAnswer ≡ TheOutputs → ⊥
    off z = cc
by_turn limits job ms (causes.Refused q c) r b o = absurd b
by_turn limits job ms (causes.InputsMissing q k) r b o = absurd b
by_turn limits job ms (causes.Stuck q t) r b o = absurd b
by_turn limits job ms (causes.Faulted q c) r b o = absurd b
by_turn limits job ms (causes.Unexpected q y t) r b o = absurd b

by_mark : (limits : Limits) (job : Job) (m : Mark) (ms : List Mark) (cause : Cause) (r : Request) → BecauseOf limits job m ms (m ∷ ms) cause → open_request (m ∷ ms) ≡ Some r → limits.turn_limit ≤ turns_since is_sending (m ∷ ms)
by_mark limits job (Turned t) ms cause r b o = by_turn limits job (Turned t ∷ ms) cause r b o
by_mark limits job (Answered q a) ms cause r b o = absurd (none_some r o)
by_mark limits job (Begun j) ms cause r b o = absurd b
by_mark limits job (Asked q) ms cause r b o = absurd b
by_mark limits job Again ms cause r b o = absurd b
by_mark limits job Hinted ms cause r b o = absurd b
by_mark limits job (Brought n p) ms cause r b o = absurd b
by_mark limits job (Ended c) ms cause r b o = absurd b

why_late : (limits : Limits) (cause : Cause) (xs : List Placed) (r : Request) → Why limits cause xs → open_request (marks_of xs) ≡ Some r → limits.turn_limit ≤ turns_since is_sending (marks_of xs)
why_late limits cause [] r k o = absurd k
why_late limits cause (x ∷ xs) r k o = let b = because limits x.mark (marks_of xs) cause k.0 in by_mark limits b.0 x.mark (marks_of xs) cause r (b.1).1 o

pub shut_late : (limits : Limits) (cause : Cause) (xs : List Placed) (r : Request) → Shut limits cause xs → open_request (marks_of xs) ≡ Some r → limits.turn_limit ≤ turns_since is_sending (marks_of xs)
shut_late limits cause [] r s o = absurd s
shut_late limits cause (x ∷ xs) r s o = by x.mark s o (λ k p. shut_late limits cause xs r k p)
  where
    by : (m : Mark) → ShutBy limits cause m xs (Shut limits cause xs) → open_request (m ∷ marks_of xs) ≡ Some r → (Shut limits cause xs → open_request (marks_of xs) ≡ Some r → limits.turn_limit ≤ turns_since is_sending (marks_of xs))
        → limits.turn_limit ≤ turns_since is_sending (m ∷ marks_of xs)
    by (Ended c) k p f = why_late limits cause xs r k.1 p
    by (Asked q) k p f = absurd k
    by Again k p f = absurd k
    by (Begun j) k p f = absurd (none_some r p)
    by (Answered q a) k p f = absurd (none_some r p)
    by Hinted k p f = f k p
    by (Brought n q) k p f = f k p
    by (Turned t) k p f = let h = f k p in omega (arith, h)
