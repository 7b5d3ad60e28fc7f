-- What the master sends a slave: a new request, or the newest one again.
use Rattle.std.proofs.Common.{◌≡◌, ℕ, zero, suc, ◌+◌, ◌%◌, ◌⊎◌, inl, inr, Option, Some, None, List, [], ◌∷◌, ◌++◌, length, refl, sym, ap, ◌∙◌, subst, arith}
use Rattle.std.specs.Prelude.{slice_get}
use Rattle.dcp_types.specs.declared.limits.Limits.{Limits}
use Rattle.pdu_layout.specs.declared.messages.Stc.TheVariants as stc
use Rattle.pdu_layout.specs.declared.messages.Cfg.TheVariants as cfg
use Rattle.pdu_layout.specs.Message.{message_of}
use Rattle.pdu_layout.specs.Reading.{message_in}
use Rattle.log_spec.specs.Messages.{Request as Asked, role_of}
use Rattle.master_spec.specs.declared.requests.Request.{Request}
use Rattle.master_spec.specs.declared.requests.Request.TheVariants.{Change, Configure, AskState, AskError}
use Rattle.master_spec.specs.declared.requests.Latest.TheVariants as latests
use Rattle.master_spec.specs.declared.reactions.Reaction.TheVariants.{Wait, Ask}
use Rattle.master_spec.specs.declared.tasks.Task.TheVariants as tasks
use Rattle.master_spec.specs.Jobs.{Job, asked_by}
use Rattle.master_spec.specs.Marks.{Mark, asked, latest, job_of, cause_of, open_request, newest_number}
use Rattle.master_spec.specs.Marks as marks
use Rattle.master_spec.specs.News.{pdu_of, request_bytes}
use Rattle.master_spec.specs.Requests.{Asking, asking_in, with_asking, acked}
use Rattle.master_log_laws.specs.Asking.Legal.{Does, AreLegal}
use Rattle.master_log_laws.proofs.Asking.Closed.{asks_open}
use Rattle.master_log_laws.proofs.Asking.Legal.{own_rests}
use Rattle.master_log_laws.specs.Index.Index.{Placed, at, marks_of, first_at, again_at, askings_told, IsHeadRequest, IsHeadOf, ReadBack, IsAsked, IsAgain, Owes}
use Rattle.master_log_laws.proofs.Index.Index.{sent_new, sent_again}
use Rattle.master_log_laws.specs.Phases.Laws.{AreDecided}
use Rattle.master_log_laws.proofs.Phases.Now.{now, past, IsOf, Linked, open_latest, linked, split}
use Rattle.master_log_laws.proofs.Phases.Stage.{Main, Question, Stage}
use Rattle.master_log_laws.proofs.Phases.Stages.{stage, open_stage}
use Rattle.master_log_laws.proofs.Phases.Tags.{offset, job_phase, no_reaction, base, counted}
use Rattle.master_log_laws.proofs.Phases.Numbered.{ordered}
use Rattle.master_laws.specs.Meets.Laws.{note_of, register_for}

-- a request as a message is one of the laws' requests
pub role_told : (n q id : ℕ) (r : Request) → role_of (message_of (pdu_of q id r)) ≡ Asked id (note_of id (first_at n q r))
role_told n q id (Change state (stc.Register uuid op_mode major minor)) = refl
role_told n q id (Change state stc.Deregister) = refl
role_told n q id (Change state stc.Prepare) = refl
role_told n q id (Change state stc.Configure) = refl
role_told n q id (Change state stc.Initialize) = refl
role_told n q id (Change state (stc.Run start_time)) = refl
role_told n q id (Change state (stc.DoStep steps)) = refl
role_told n q id (Change state stc.SendOutputs) = refl
role_told n q id (Change state stc.Stop) = refl
role_told n q id (Change state stc.Reset) = refl
role_told n q id (Configure (cfg.TimeRes numerator denominator)) = refl
role_told n q id (Configure (cfg.Steps data_id steps)) = refl
role_told n q id (Configure (cfg.Input data_id position vr source_type)) = refl
role_told n q id (Configure (cfg.Output data_id position vr)) = refl
role_told n q id (Configure cfg.Clear) = refl
role_told n q id (Configure (cfg.Target net)) = refl
role_told n q id (Configure (cfg.Source net)) = refl
role_told n q id (Configure (cfg.Parameter vr kind value)) = refl
role_told n q id (Configure (cfg.Tunable param_id position vr kind)) = refl
role_told n q id (Configure (cfg.ParamNet param_id protocol port ip)) = refl
role_told n q id (Configure (cfg.Logging category level mode)) = refl
role_told n q id (Configure (cfg.Scope data_id scope)) = refl
role_told n q id AskState = refl
role_told n q id AskError = refl

-- a new request: all before it are decided, and the first is the register
pub record IsFresh (id uuid : ℕ) (bs : List Asking) (bytes : List ℕ) : Type 0 where
  pub request : Request
  pub read : message_in bytes ≡ Some (message_of (pdu_of (length bs % 65536) id request))
  pub decided : AreDecided bs
  pub first : bs ≡ [] → request ≡ register_for uuid
  pub after : (n : ℕ) → with_asking (asking_in n (message_in bytes)) bs ≡ first_at n (length bs % 65536) request ∷ bs

-- the newest request again
pub record IsSame (id : ℕ) (bs : List Asking) (bytes : List ℕ) : Type 0 where
  pub request : Request
  pub newest : Asking
  pub rest : List Asking
  pub is : bs ≡ newest ∷ rest
  pub read : message_in bytes ≡ Some (message_of (pdu_of newest.number id request))
  pub of : IsOf request newest
  pub after : (n : ℕ) → with_asking (asking_in n (message_in bytes)) bs ≡ again_at n bs

-- ---- the first request
none_before : (js : List Job) (p : ℕ) (first : Job) → slice_get js 0 ≡ Some first → length (asked_by first) ≡ 1 → offset js p ≡ 0 → p ≡ 0
none_before js zero first e l o = refl
none_before [] (suc p) first e l o = absurd cc
none_before (j ∷ js) (suc p) first e l o = let z : j ≡ first = cc in let k : length (asked_by j) ≡ 1 = ap (λ (x : Job). length (asked_by x)) z ∙ l in absurd (omega (arith, k, o))

append_none : (xs ys : List Asking) → xs ++ ys ≡ [] → (xs ≡ []) × (ys ≡ [])
append_none [] ys h = (refl, h)
append_none (x ∷ xs) ys h = absurd cc

module _ (limits : Limits) (js : List Job) (uuid : ℕ) (begins : slice_get js 0 ≡ Some (record { task = tasks.Register uuid; list = [] })) where
  has_job : (ms : List Mark) (r : Request) → Does limits ms (Ask r) → (job : Job) × (job_of ms ≡ Some job)
  has_job [] r d = absurd d
  has_job (m ∷ ms) r d = by (job_of (m ∷ ms)) refl
    where
      clash : Wait ≡ Ask r → ⊥
      clash z = cc

      by : (o : Option Job) → job_of (m ∷ ms) ≡ o → (job : Job) × (job_of (m ∷ ms) ≡ Some job)
      by None e = absurd (clash (sym (no_reaction limits m ms e) ∙ d))
      by (Some job) e = (job, e)

  only_register : (r : Request) (ms : List Asking) → acked ms ≡ 0 → slice_get (asked_by (record { task = tasks.Register uuid; list = [] })) (acked ms) ≡ Some r → r ≡ register_for uuid
  only_register r ms a e =
      let z : Some (register_for uuid) ≡ Some r = sym (ap (slice_get (asked_by (record { task = tasks.Register uuid; list = [] }))) a) ∙ e in
      cc

  pub first_is : (n : ℕ) (r : Request) (xs : List Placed) → AreLegal limits js (marks.Asked r ∷ marks_of xs) → cause_of (marks_of xs) ≡ None → askings_told xs ≡ [] → r ≡ register_for uuid
  first_is n r xs l c none = by (open_stage job (marks.Asked r ∷ marks_of xs) (now (at n (marks.Asked r) ∷ xs)) r refl s)
    where
      job : Job
      job = (has_job (marks_of xs) r l.0).0

      job_is : job_of (marks_of xs) ≡ Some job
      job_is = (has_job (marks_of xs) r l.0).1

      s : Stage job (marks.Asked r ∷ marks_of xs) (now (at n (marks.Asked r) ∷ xs))
      s = stage limits js (at n (marks.Asked r) ∷ xs) l (own_rests limits (marks.Asked r) (marks_of xs) tt) c job job_is

      k : (p : ℕ) × (marks.count marks.is_begun (marks_of xs) ≡ p + 1)
      k = counted (marks_of xs) job job_is

      empty : (now xs ≡ []) × (askings_told (past xs) ≡ [])
      empty = append_none (now xs) (askings_told (past xs)) (sym (split limits js xs l.1) ∙ none)

      zeroth : k.0 ≡ 0
      zeroth = none_before js k.0 (record { task = tasks.Register uuid; list = [] }) begins refl (sym (base limits js xs l.1 k.0 k.1) ∙ ap acked empty.1)

      registers : job ≡ record { task = tasks.Register uuid; list = [] }
      registers =
          let z : Some job ≡ Some (record { task = tasks.Register uuid; list = [] }) = sym (job_phase limits js (marks_of xs) l.1 job job_is k.0 k.1) ∙ ap (slice_get js) zeroth ∙ begins in
          cc

      none_acked : (b : Asking) (qs : List Asking) → now (at n (marks.Asked r) ∷ xs) ≡ b ∷ qs → qs ≡ []
      none_acked b qs e = let z : now xs ≡ qs = cc in sym z ∙ empty.0

      by : Main job r None (now (at n (marks.Asked r) ∷ xs)) ⊎ Question job r None (now (at n (marks.Asked r) ∷ xs)) → r ≡ register_for uuid
      by (inl m) =
          let z = none_acked m.newest m.ms m.is in
          let P : Job → Type 0 = λ j. slice_get (asked_by j) (acked m.ms) ≡ Some r in
          only_register r m.ms (ap acked z) (subst P registers m.slot)
      by (inr q) =
          let z = append_none q.qs q.ms (none_acked q.newest (q.qs ++ q.ms) q.is) in
          let w : 0 ≡ 1 = sym (ap acked z.1) ∙ q.whole ∙ ap (λ (j : Job). length (asked_by j)) registers in
          absurd (omega (arith, w))

-- ---- the newest request
newest_of : (r : Request) (q : ℕ) (ns ps bs : List Asking) → Linked (latests.Asked r) ns → bs ≡ ns ++ ps → IsHeadRequest (Some r) q bs → (b : Asking) × ((rest : List Asking) × ((bs ≡ b ∷ rest) × (IsOf r b × (b.number ≡ q))))
newest_of r q [] ps bs l e h = absurd l
newest_of r q (b ∷ ns) ps bs l e h = let P : List Asking → Type 0 = λ z. IsHeadRequest (Some r) q z in (b, (ns ++ ps, (e, (l.0, (subst P e h).0))))

-- ---- what is still to be sent
pub sends_now : (limits : Limits) (js : List Job) (good : Request → Type 0) (id uuid : ℕ) (marks' : List Mark) (xs : List Placed) (b : List ℕ) (more : List (List ℕ))
    → slice_get js 0 ≡ Some (record { task = tasks.Register uuid; list = [] }) → ((r : Request) → good r → ReadBack id r)
    → Owes good id (b ∷ more) marks' (marks_of xs) → AreLegal limits js marks' → IsHeadOf (marks_of xs) (askings_told xs) → IsFresh id uuid (askings_told xs) b ⊎ IsSame id (askings_told xs) b
sends_now limits js good id uuid marks' xs b (c ∷ more) begins back o l head = absurd o
sends_now limits js good id uuid marks' xs b [] begins back o l head = by o.0 (o.1).0 ((o.1).1).0 ((o.1).1).1
  where
    P : List Mark → Type 0
    P z = AreLegal limits js z

    open_none : (ms : List Mark) (r : Request) → Does limits ms (Ask r) → open_request ms ≡ None
    open_none [] r d = absurd d
    open_none (m ∷ ms) r d = asks_open limits m ms r d

    fresh : (r : Request) → good r → cause_of (marks_of xs) ≡ None → AreLegal limits js (marks.Asked r ∷ marks_of xs) → b ≡ request_bytes (asked (marks_of xs) % 65536) id r → IsFresh id uuid (askings_told xs) b
    fresh r g c k e =
        let ord = ordered limits js xs k.1 in
        let same : asked (marks_of xs) % 65536 ≡ length (askings_told xs) % 65536 = ap (λ (z : ℕ). z % 65536) (sym ord.long) in
        record {
          request = r;
          read = ap message_in e ∙ back r g (asked (marks_of xs) % 65536) (omega arith) ∙ ap (λ (z : ℕ). Some (message_of (pdu_of z id r))) same;
          decided = ord.decided (open_none (marks_of xs) r k.0);
          first = λ none. first_is limits js uuid begins 0 r xs k c none;
          after = λ n. (ap (λ (z : List ℕ). with_asking (asking_in n (message_in z)) (askings_told xs)) e ∙ sent_new n id r xs (back r g) head ∙ ap (λ (z : ℕ). first_at n z r ∷ askings_told xs) same);
        }

    again : (r : Request) → good r → AreLegal limits js (marks_of xs) → open_request (marks_of xs) ≡ Some r → b ≡ request_bytes (newest_number (marks_of xs)) id r → IsSame id (askings_told xs) b
    again r g k o e =
        let Q = λ (z : Option Request). IsHeadRequest z (newest_number (marks_of xs)) (askings_told xs) in
        let R : _ → Type 0 = λ z. Linked z (now xs) in
        let f = newest_of r (newest_number (marks_of xs)) (now xs) (askings_told (past xs)) (askings_told xs) (subst R (open_latest (latest (marks_of xs)) r o) (linked limits js xs k)) (split limits js xs k) (subst Q o head) in
        let q = newest_number (marks_of xs) in
        record {
          request = r;
          newest = f.0;
          rest = (f.1).0;
          is = ((f.1).1).0;
          read = ap message_in e ∙ back r g q (omega arith) ∙ ap (λ (z : ℕ). Some (message_of (pdu_of z id r))) (sym (((f.1).1).1).1);
          of = (((f.1).1).1).0;
          after = λ n. (ap (λ (z : List ℕ). with_asking (asking_in n (message_in z)) (askings_told xs)) e ∙ sent_again n id r xs (back r g) o head);
        }

    by : (r : Request) → good r → cause_of (marks_of xs) ≡ None → IsAsked id b marks' (marks_of xs) r ⊎ IsAgain id b marks' (marks_of xs) r → IsFresh id uuid (askings_told xs) b ⊎ IsSame id (askings_told xs) b
    by r g c (inl k) = inl (fresh r g c (subst P k.0 l) k.1)
    by r g c (inr k) = inr (again r g (subst P k.0 l).1 (k.1).0 (k.1).1)
