-- What is kept of a row came while the conversation was in this phase.
use Rattle.std.proofs.Common.{◌≡◌, ℕ, ◌%◌, Bool, true, false, if◌then◌else◌, Option, Some, None, List, [], ◌∷◌, ◌++◌, length, refl, ap, ◌∙◌}
use Rattle.std.specs.Prelude.{◌==◌, ◌&&◌, slice_get}
use Rattle.std.proofs.lemmas.Bool.{and_parts, eqb-true}
use Rattle.dcp_types.specs.declared.addresses.Address.{Address}
use Rattle.dcp_types.specs.declared.limits.Limits.{Limits}
use Rattle.dcp_ends.specs.declared.entries.LogEntry.{LogEntry}
use Rattle.dcp_ends.specs.declared.entries.LogEntry.TheVariants.{Got}
use Rattle.dcp_ends.specs.Logs.{same_address}
use Rattle.master_spec.specs.declared.reactions.Reaction.{Reaction}
use Rattle.master_spec.specs.declared.reactions.Reaction.TheVariants.{Wait, Ask, Repeat, GiveUp}
use Rattle.master_spec.specs.declared.requests.Request.{Request}
use Rattle.master_spec.specs.declared.requests.Answer.{Answer}
use Rattle.master_spec.specs.declared.setups.Slave.{Slave}
use Rattle.master_spec.specs.declared.setups.Setup.{Setup}
use Rattle.master_spec.specs.Jobs.{Job}
use Rattle.master_spec.specs.News.{News, Answers, Hints, Nothing, news_of}
use Rattle.master_spec.specs.News as news
use Rattle.master_spec.specs.Marks.{Mark, Begun, Asked, Again, Answered, Hinted, Brought, Turned, Ended, or_else, kept, job_of, newest_number, open_request}
use Rattle.master_spec.specs.Conversation.{if_open, reaction, done, marks_after, extended}
use Rattle.master_spec.specs.Course.{mark_for, mark_of_gram, begun_with, payload_size}
use Rattle.master_log_laws.specs.Index.Runs.{course_at}
use Rattle.master_log_laws.specs.Index.Follows.{talk_with}
use Rattle.master_log_laws.proofs.Index.Outputs.{IsNews, gram_news}

-- ---- where outputs came from
outputs_chosen : (b : Bool) (n number : ℕ) (p payload : List ℕ) → (if b then Some (Brought n p) else None) ≡ Some (Brought number payload) → (b ≡ true) × ((n ≡ number) × (p ≡ payload))
outputs_chosen true n number p payload h = (refl, (cc, cc))
outputs_chosen false n number p payload h = absurd cc

no_answer : (o : Option Request) (n wanted number : ℕ) (payload : List ℕ) (answer : Answer) → if_open o n wanted answer ≡ Some (Brought number payload) → ⊥
no_answer None n wanted number payload answer h = cc
no_answer (Some r) n wanted number payload answer h = by (n == wanted) h
  where
    by : (b : Bool) → (if b then Some (Answered r answer) else None) ≡ Some (Brought number payload) → ⊥
    by true q = cc
    by false q = cc

brought_by : (slave : Slave) (marks : List Mark) (x : News) (number : ℕ) (payload : List ℕ) → mark_for slave marks x ≡ Some (Brought number payload) → x ≡ news.Brings number slave.id payload
brought_by slave marks (Answers n sender answer) number payload h = by (sender == slave.id) h
  where
    by : (b : Bool) → (if b then if_open (open_request marks) n (newest_number marks) answer else None) ≡ Some (Brought number payload) → Answers n sender answer ≡ news.Brings number slave.id payload
    by true q = absurd (no_answer (open_request marks) n (newest_number marks) number payload answer q)
    by false q = absurd cc
brought_by slave marks (Hints sender) number payload h = by (sender == slave.id) h
  where
    by : (b : Bool) → (if b then Some Hinted else None) ≡ Some (Brought number payload) → Hints sender ≡ news.Brings number slave.id payload
    by true q = absurd cc
    by false q = absurd cc
brought_by slave marks (news.Brings n id p) number payload h =
    let c = outputs_chosen ((id == slave.id) && (length p == payload_size slave.types)) n number p payload h in
    let a = and_parts (id == slave.id) (length p == payload_size slave.types) c.0 in
    ap (λ (k : ℕ). news.Brings k id p) (c.1).0 ∙ ap (λ (k : ℕ). news.Brings number k p) (eqb-true id slave.id a.0) ∙ ap (news.Brings number slave.id) (c.1).1
brought_by slave marks Nothing number payload h = absurd cc

gram_brings : (slave : Slave) (marks : List Mark) (from : Address) (bytes : List ℕ) (number : ℕ) (payload : List ℕ) → mark_of_gram (talk_with slave marks) from bytes ≡ Some (Brought number payload)
    → (same_address from slave.address ≡ true) × (news_of bytes ≡ news.Brings number slave.id payload)
gram_brings slave marks from bytes number payload h = by (same_address from slave.address) h
  where
    by : (b : Bool) → (if b then mark_for slave marks (news_of bytes) else None) ≡ Some (Brought number payload) → (b ≡ true) × (news_of bytes ≡ news.Brings number slave.id payload)
    by true q = (refl, brought_by slave marks (news_of bytes) number payload q)
    by false q = absurd cc

-- ---- what was kept of a row
pub record Came (setup : Setup) (i : ℕ) (slave : Slave) (row : ℕ) (payload : List ℕ) (log : List LogEntry) (marks : List Mark) : Type 0 where
  pub later : List LogEntry
  pub earlier : List LogEntry
  pub at : Address
  pub from : Address
  pub bytes : List ℕ
  pub is : log ≡ later ++ Got at from bytes ∷ earlier
  pub own : same_address at setup.address ≡ true
  pub sender : same_address from slave.address ≡ true
  pub brings : news_of bytes ≡ news.Brings (row % 65536) slave.id payload
  pub unreported : (course_at setup earlier).report ≡ None
  pub before : List Mark
  pub here : slice_get (course_at setup earlier).talks i ≡ Some (talk_with slave before)
  -- in the same phase
  pub job_is : job_of before ≡ job_of marks

module _ (setup : Setup) (i : ℕ) (slave : Slave) where
  pub record AllCame (log : List LogEntry) (marks : List Mark) : Type 0 where
    pub each : (row : ℕ) (payload : List ℕ) → kept row marks ≡ Some payload → Came setup i slave row payload log marks

  pub came_longer : (e : LogEntry) (log : List LogEntry) (marks : List Mark) → AllCame log marks → AllCame (e ∷ log) marks
  came_longer e log marks h = record { each = λ row payload k. by row payload (h.each row payload k) }
    where
      by : (row : ℕ) (payload : List ℕ) → Came setup i slave row payload log marks → Came setup i slave row payload (e ∷ log) marks
      by row payload c = record { later = e ∷ c.later; earlier = c.earlier; at = c.at; from = c.from; bytes = c.bytes; is = ap (λ (z : List LogEntry). e ∷ z) c.is; own = c.own; sender = c.sender; brings = c.brings; unreported = c.unreported; before = c.before; here = c.here; job_is = c.job_is }

  kept_more : (o : Option (List ℕ)) (payload : List ℕ) → or_else o None ≡ Some payload → o ≡ Some payload
  kept_more None payload h = h
  kept_more (Some p) payload h = h

  came_on : (row : ℕ) (payload : List ℕ) (log : List LogEntry) (marks later : List Mark) → Came setup i slave row payload log marks → job_of marks ≡ job_of later → Came setup i slave row payload log later
  came_on row payload log marks more c j = record { later = c.later; earlier = c.earlier; at = c.at; from = c.from; bytes = c.bytes; is = c.is; own = c.own; sender = c.sender; brings = c.brings; unreported = c.unreported; before = c.before; here = c.here; job_is = c.job_is ∙ j }

  -- a mark that brings nothing
  abbrev pub IsDry : Mark → Type 0
  IsDry (Begun job) = Unit {0}
  IsDry (Asked request) = Unit {0}
  IsDry Again = Unit {0}
  IsDry (Answered request answer) = Unit {0}
  IsDry Hinted = Unit {0}
  IsDry (Brought number payload) = ⊥
  IsDry (Turned settled) = Unit {0}
  IsDry (Ended cause) = Unit {0}

  pub came_dry : (m : Mark) (log : List LogEntry) (marks : List Mark) → IsDry m → AllCame log marks → AllCame log (m ∷ marks)
  came_dry (Begun job) log marks d h = record { each = λ row payload k. absurd (none payload k) }
    where
      none : (payload : List ℕ) → None ≡ Some payload → ⊥
      none payload k = cc
  came_dry (Asked request) log marks d h = record { each = λ row payload k. came_on row payload log marks (Asked request ∷ marks) (h.each row payload (kept_more (kept row marks) payload k)) refl }
  came_dry Again log marks d h = record { each = λ row payload k. came_on row payload log marks (Again ∷ marks) (h.each row payload (kept_more (kept row marks) payload k)) refl }
  came_dry (Answered request answer) log marks d h = record { each = λ row payload k. came_on row payload log marks (Answered request answer ∷ marks) (h.each row payload (kept_more (kept row marks) payload k)) refl }
  came_dry Hinted log marks d h = record { each = λ row payload k. came_on row payload log marks (Hinted ∷ marks) (h.each row payload (kept_more (kept row marks) payload k)) refl }
  came_dry (Turned settled) log marks d h = record { each = λ row payload k. came_on row payload log marks (Turned settled ∷ marks) (h.each row payload (kept_more (kept row marks) payload k)) refl }
  came_dry (Ended cause) log marks d h = record { each = λ row payload k. came_on row payload log marks (Ended cause ∷ marks) (h.each row payload (kept_more (kept row marks) payload k)) refl }
  came_dry (Brought number payload) log marks d h = absurd d

  -- outputs that come
  pub came_brought : (at from : Address) (bytes : List ℕ) (log : List LogEntry) (marks : List Mark) (number : ℕ) (payload : List ℕ) → same_address at setup.address ≡ true → (course_at setup log).report ≡ None
      → slice_get (course_at setup log).talks i ≡ Some (talk_with slave marks) → mark_of_gram (talk_with slave marks) from bytes ≡ Some (Brought number payload)
      → AllCame log marks → AllCame (Got at from bytes ∷ log) (Brought number payload ∷ marks)
  came_brought at from bytes log marks number payload own r here g h = record { each = λ row q k. by row q (kept row marks) refl (number == row % 65536) refl k }
    where
      E : LogEntry
      E = Got at from bytes

      by : (row : ℕ) (q : List ℕ) (o : Option (List ℕ)) → kept row marks ≡ o → (b : Bool) → (number == row % 65536) ≡ b → or_else o (if b then Some payload else None) ≡ Some q → Came setup i slave row q (E ∷ log) (Brought number payload ∷ marks)
      by row q (Some p) e b f k = came_on row q (E ∷ log) marks (Brought number payload ∷ marks) ((came_longer E log marks h).each row q (e ∙ k)) refl
      by row q None e false f k = absurd cc
      by row q None e true f k =
          let s = gram_brings slave marks from bytes number payload g in
          let z : payload ≡ q = cc in
          let n : number ≡ row % 65536 = eqb-true number (row % 65536) f in
          record {
            later = [];
            earlier = log;
            at = at;
            from = from;
            bytes = bytes;
            is = refl;
            own = own;
            sender = s.0;
            brings = s.1 ∙ ap (λ (k : ℕ). news.Brings k slave.id payload) n ∙ ap (news.Brings (row % 65536) slave.id) z;
            unreported = r;
            before = marks;
            here = here;
            job_is = refl;
          }

  -- and what follows from a mark
  came_done : (r : Reaction) (log : List LogEntry) (marks : List Mark) → AllCame log marks → AllCame log (done r marks)
  came_done Wait log marks h = h
  came_done (Ask request) log marks h = came_dry (Asked request) log marks tt h
  came_done Repeat log marks h = came_dry Again log marks tt h
  came_done (GiveUp cause) log marks h = came_dry (Ended cause) log marks tt h

  pub came_after : (limits : Limits) (m : Mark) (log : List LogEntry) (marks : List Mark) → AllCame log (m ∷ marks) → AllCame log (marks_after limits m marks)
  came_after limits m log marks h = came_done (reaction limits m marks) log (m ∷ marks) h

  pub came_turned : (limits : Limits) (settled : Bool) (log : List LogEntry) (marks : List Mark) → AllCame log marks → AllCame log (marks_after limits (Turned settled) marks)
  came_turned limits settled log marks h = came_after limits (Turned settled) log marks (came_dry (Turned settled) log marks tt h)

  pub came_begun : (limits : Limits) (o : Option Job) (log : List LogEntry) (marks : List Mark) → AllCame log marks → AllCame log (extended limits (begun_with o) marks)
  came_begun limits None log marks h = h
  came_begun limits (Some job) log marks h = came_after limits (Begun job) log marks (came_dry (Begun job) log marks tt h)

  -- a datagram
  pub came_gram : (limits : Limits) (at from : Address) (bytes : List ℕ) (log : List LogEntry) (marks : List Mark) → same_address at setup.address ≡ true → (course_at setup log).report ≡ None
      → slice_get (course_at setup log).talks i ≡ Some (talk_with slave marks) → AllCame log marks → AllCame (Got at from bytes ∷ log) (extended limits (mark_of_gram (talk_with slave marks) from bytes) marks)
  came_gram limits at from bytes log marks own r here h = by (mark_of_gram (talk_with slave marks) from bytes) refl
    where
      E : LogEntry
      E = Got at from bytes

      by : (o : Option Mark) → mark_of_gram (talk_with slave marks) from bytes ≡ o → AllCame (E ∷ log) (extended limits o marks)
      by None e = came_longer E log marks h
      by (Some m) e = came_after limits m (E ∷ log) marks (mark m e (gram_news slave marks from bytes m e))
        where
          mark : (m : Mark) → mark_of_gram (talk_with slave marks) from bytes ≡ Some m → IsNews m → AllCame (E ∷ log) (m ∷ marks)
          mark (Brought number payload) e n = came_brought at from bytes log marks number payload own r here e h
          mark (Answered request answer) e n = came_dry (Answered request answer) (E ∷ log) marks tt (came_longer E log marks h)
          mark Hinted e n = came_dry Hinted (E ∷ log) marks tt (came_longer E log marks h)
          mark (Begun job) e n = absurd n
          mark (Asked request) e n = absurd n
          mark Again e n = absurd n
          mark (Turned settled) e n = absurd n
          mark (Ended cause) e n = absurd n
