-- Where a request and an acknowledgement stand in the log.
use Rattle.std.proofs.Common.{◌≡◌, ℕ, ◌%◌, ◌≤◌, Bool, true, false, if◌then◌else◌, Option, Some, None, List, [], ◌∷◌, ◌++◌, refl, sym, ap, ◌∙◌, subst, arith}
use Rattle.std.specs.Prelude.{cond, ◌&&◌, nat_le, find}
use Rattle.dcp_types.specs.declared.limits.Limits.{Limits}
use Rattle.dcp_types.specs.declared.states.State.{State}
use Rattle.pdu_layout.specs.declared.messages.Stc.{Stc}
use Rattle.pdu_layout.specs.declared.messages.Stc.TheVariants as stc
use Rattle.pdu_layout.specs.declared.messages.Cfg.TheVariants as cfg
use Rattle.dcp_ends.specs.declared.entries.LogEntry.{LogEntry}
use Rattle.master_spec.specs.declared.requests.Request.{Request}
use Rattle.master_spec.specs.declared.requests.Request.TheVariants.{Change, Configure, AskState, AskError}
use Rattle.master_spec.specs.declared.requests.Answer.{Answer}
use Rattle.master_spec.specs.declared.requests.Answer.TheVariants.{Ack, Nack, StateAck, ErrorAck, LogAck}
use Rattle.master_spec.specs.declared.requests.Latest.{Latest}
use Rattle.master_spec.specs.declared.requests.Latest.TheVariants as latests
use Rattle.master_spec.specs.declared.reactions.Reaction.TheVariants.{Repeat}
use Rattle.master_spec.specs.declared.setups.Slave.{Slave}
use Rattle.master_spec.specs.declared.setups.Setup.{Setup}
use Rattle.master_spec.specs.Jobs.{Job, asked_by}
use Rattle.master_spec.specs.Marks.{Mark, Begun, Asked, Again, Answered, Hinted, Brought, Turned, Ended, asked, acks_change, is_asked, before, latest, open_request}
use Rattle.master_spec.specs.Requests.{Asking, Decision, decided_by, turns_before, is_main, is_state_request, is_ack, is_acked_by, is_acked, acked}
use Rattle.master_log_laws.specs.Asking.Legal.{Does, IsLegal, AreLegal}
use Rattle.master_log_laws.specs.Index.Index.{Placed, at, marks_of, code_of, first_at, again_at, decided_at}
use Rattle.master_log_laws.specs.Index.Dates.{clock, next_place, IsDated, AreDated}
use Rattle.master_log_laws.proofs.Index.Events.{repeats_open}
use Rattle.master_log_laws.proofs.Phases.Now.{now_by, now, IsOf, Linked, linked, open_latest}
use Rattle.master_log_laws.proofs.Phases.Mains.{acked_no, AreMains}
use Rattle.master_log_laws.proofs.Failures.Turns.{newest_if, newest, InPhases, IsExchange, exchange_begun}
use Rattle.master_log_laws.proofs.Failures.Lasts.{is_acked_change, only_request}

abbrev pub is_change : Request → Bool
is_change (Change state body) = true
is_change (Configure body) = false
is_change AskState = false
is_change AskError = false

abbrev change_code : ℕ → Bool
change_code n = nat_le 1 n && nat_le n 10

code_is_change : (r : Request) → change_code (code_of r) ≡ is_change r
code_is_change (Change state (stc.Register uuid op_mode major minor)) = refl
code_is_change (Change state stc.Deregister) = refl
code_is_change (Change state stc.Prepare) = refl
code_is_change (Change state stc.Configure) = refl
code_is_change (Change state stc.Initialize) = refl
code_is_change (Change state (stc.Run start_time)) = refl
code_is_change (Change state (stc.DoStep steps)) = refl
code_is_change (Change state stc.SendOutputs) = refl
code_is_change (Change state stc.Stop) = refl
code_is_change (Change state stc.Reset) = refl
code_is_change (Configure (cfg.TimeRes numerator denominator)) = refl
code_is_change (Configure (cfg.Steps data_id steps)) = refl
code_is_change (Configure (cfg.Input data_id position vr source_type)) = refl
code_is_change (Configure (cfg.Output data_id position vr)) = refl
code_is_change (Configure cfg.Clear) = refl
code_is_change (Configure (cfg.Target net)) = refl
code_is_change (Configure (cfg.Source net)) = refl
code_is_change (Configure (cfg.Parameter vr kind value)) = refl
code_is_change (Configure (cfg.Tunable param_id position vr kind)) = refl
code_is_change (Configure (cfg.ParamNet param_id protocol port ip)) = refl
code_is_change (Configure (cfg.Logging category level mode)) = refl
code_is_change (Configure (cfg.Scope data_id scope)) = refl
code_is_change AskState = refl
code_is_change AskError = refl

pub of_change : (r : Request) (b : Asking) → IsOf r b → is_state_request b ≡ is_change r
of_change r b o = ap change_code o.0 ∙ code_is_change r

-- ---- where the newest request was first sent
pub record AskedAt (setup : Setup) (slave : Slave) (log : List LogEntry) (limits : Limits) (js : List Job) (ys : List Placed) (b : Asking) (bs : List Asking) : Type 0 where
  pub zs : List Placed
  pub legal : AreLegal limits js (marks_of zs)
  pub dates : AreDated setup slave log zs
  pub now_is : now zs ≡ bs
  pub before_is : before is_asked (marks_of ys) ≡ marks_of zs
  pub turns : turns_before setup.address log b.first ≡ clock (marks_of zs)
  pub low : next_place zs ≤ b.first

pub asked_at : (setup : Setup) (slave : Slave) (log : List LogEntry) (limits : Limits) (js : List Job) (ys : List Placed) (b : Asking) (bs : List Asking) → AreLegal limits js (marks_of ys) → AreDated setup slave log ys → now ys ≡ b ∷ bs → AskedAt setup slave log limits js ys b bs
asked_at setup slave log limits js [] b bs l d e = absurd cc
asked_at setup slave log limits js (x ∷ ys) b bs l d e = by x.mark l d.0 e (λ c cs z. asked_at setup slave log limits js ys c cs l.1 d.1 z)
  where
    Old : Asking → List Asking → Type 0
    Old c cs = AskedAt setup slave log limits js ys c cs

    again : (m : Mark) → is_asked m ≡ false → (os : List Asking) → again_at x.place os ≡ b ∷ bs → ((c : Asking) (cs : List Asking) → os ≡ c ∷ cs → Old c cs) → AskedAt setup slave log limits js (at x.place m ∷ ys) b bs
    again m q [] z f = absurd cc
    again m q (c ∷ cs) z f =
        let k = f c cs refl in
        let p : c.first ≡ b.first = cc in
        let t : cs ≡ bs = cc in
        let P : ℕ → Type 0 = λ i. turns_before setup.address log i ≡ clock (marks_of k.zs) in
        let Q : ℕ → Type 0 = λ i. next_place k.zs ≤ i in
        record { zs = k.zs; legal = k.legal; dates = k.dates; now_is = k.now_is ∙ t; before_is = ap (λ (y : Bool). if y then marks_of ys else before is_asked (marks_of ys)) q ∙ k.before_is; turns = subst P p k.turns; low = subst Q p k.low }

    decided : (m : Mark) (a : Answer) → is_asked m ≡ false → (os : List Asking) → decided_at x.place a os ≡ b ∷ bs → ((c : Asking) (cs : List Asking) → os ≡ c ∷ cs → Old c cs) → AskedAt setup slave log limits js (at x.place m ∷ ys) b bs
    decided m a q [] z f = absurd cc
    decided m a q (c ∷ cs) z f =
        let k = f c cs refl in
        let p : c.first ≡ b.first = cc in
        let t : cs ≡ bs = cc in
        let P : ℕ → Type 0 = λ i. turns_before setup.address log i ≡ clock (marks_of k.zs) in
        let Q : ℕ → Type 0 = λ i. next_place k.zs ≤ i in
        record { zs = k.zs; legal = k.legal; dates = k.dates; now_is = k.now_is ∙ t; before_is = ap (λ (y : Bool). if y then marks_of ys else before is_asked (marks_of ys)) q ∙ k.before_is; turns = subst P p k.turns; low = subst Q p k.low }

    same : (m : Mark) → is_asked m ≡ false → Old b bs → AskedAt setup slave log limits js (at x.place m ∷ ys) b bs
    same m q k = record { zs = k.zs; legal = k.legal; dates = k.dates; now_is = k.now_is; before_is = ap (λ (y : Bool). if y then marks_of ys else before is_asked (marks_of ys)) q ∙ k.before_is; turns = k.turns; low = k.low }

    by : (m : Mark) → AreLegal limits js (m ∷ marks_of ys) → IsDated setup slave log x.place m ys → now_by x.place m (marks_of ys) (now ys) ≡ b ∷ bs → ((c : Asking) (cs : List Asking) → now ys ≡ c ∷ cs → Old c cs)
        → AskedAt setup slave log limits js (at x.place m ∷ ys) b bs
    by (Begun j) k w z f = absurd cc
    by (Asked r) k w z f =
        let p : x.place ≡ b.first = cc in
        let t : now ys ≡ bs = cc in
        let P : ℕ → Type 0 = λ i. turns_before setup.address log i ≡ clock (marks_of ys) in
        let Q : ℕ → Type 0 = λ i. next_place ys ≤ i in
        record { zs = ys; legal = k.1; dates = d.1; now_is = t; before_is = refl; turns = subst P p w.turns; low = subst Q p w.later }
    by Again k w z f = again Again refl (now ys) z f
    by (Answered r a) k w z f = decided (Answered r a) a refl (now ys) z f
    by Hinted k w z f = same Hinted refl (f b bs z)
    by (Brought n p) k w z f = same (Brought n p) refl (f b bs z)
    by (Turned t) k w z f = same (Turned t) refl (f b bs z)
    by (Ended cause) k w z f = same (Ended cause) refl (f b bs z)

-- ---- where the phase's request was acknowledged
pub acked_decision : (q : Asking) → is_acked q ≡ true → (place : ℕ) × (q.decision ≡ Some (record { place = place; answer = Ack }))
acked_decision q h = by q.decision h
  where
    by : (o : Option Decision) → is_acked_by o ≡ true → (place : ℕ) × (o ≡ Some (record { place = place; answer = Ack }))
    by None e = absurd cc
    by (Some d) e = two d.answer refl e
      where
        two : (a : Answer) → d.answer ≡ a → is_ack a ≡ true → (place : ℕ) × (Some d ≡ Some (record { place = place; answer = Ack }))
        two Ack f e = (d.place, ap (λ (a : Answer). Some (record { place = d.place; answer = a })) f)
        two (Nack code) f e = absurd cc
        two (StateAck s) f e = absurd cc
        two (ErrorAck c) f e = absurd cc
        two LogAck f e = absurd cc

acks_kind : (r : Request) (a : Answer) → acks_change (Answered r a) ≡ (is_change r && is_ack a)
acks_kind (Change s b) Ack = refl
acks_kind (Change s b) (Nack code) = refl
acks_kind (Change s b) (StateAck c) = refl
acks_kind (Change s b) (ErrorAck c) = refl
acks_kind (Change s b) LogAck = refl
acks_kind (Configure b) a = refl
acks_kind AskState a = refl
acks_kind AskError a = refl

pub acks_in_phases : (limits : Limits) (js : List Job) → InPhases limits js acks_change
acks_in_phases limits js m marks l e = exchange_begun limits js m marks l (by m e)
  where
    by : (m : Mark) → acks_change m ≡ true → IsExchange m
    by (Answered r a) e = tt
    by (Begun j) e = absurd cc
    by (Asked r) e = absurd cc
    by Again e = absurd cc
    by Hinted e = absurd cc
    by (Brought n p) e = absurd cc
    by (Turned t) e = absurd cc
    by (Ended cause) e = absurd cc

abbrev place_in : Option Decision → ℕ
place_in None = 0
place_in (Some d) = d.place

undecided : (b : Asking) (bs : List Asking) → b.decision ≡ None → find is_acked_change (b ∷ bs) ≡ find is_acked_change bs
undecided b bs e = ap (λ (t : Bool). cond t (Some b) (find is_acked_change bs)) (ap (λ (o : Option Decision). is_state_request b && is_acked_by o) e ∙ and_false (is_state_request b))
  where
    and_false : (t : Bool) → (t && false) ≡ false
    and_false true = refl
    and_false false = refl

pub change_place : (limits : Limits) (js : List Job) (zs : List Placed) (q : Asking) (i : ℕ) → AreLegal limits js (marks_of zs) → find is_acked_change (now zs) ≡ Some q → q.decision ≡ Some (record { place = i; answer = Ack }) → newest acks_change zs ≡ Some i
change_place limits js [] q i l e h = absurd cc
change_place limits js (x ∷ zs) q i l e h = by x.mark l.0 (linked limits js zs l.1) e (λ z. change_place limits js zs q i l.1 z h)
  where
    again : (bs : List Asking) (r : Request) → Linked (latests.Asked r) bs → find is_acked_change (again_at x.place bs) ≡ find is_acked_change bs
    again [] r k = absurd k
    again (b ∷ bs) r k = undecided (record { code = b.code; number = b.number; more = b.more; first = b.first; repeats = x.place ∷ b.repeats; decision = b.decision }) bs k.1 ∙ sym (undecided b bs k.1)

    repeated : (ms : List Mark) → Does limits ms Repeat → (r : Request) × (open_request ms ≡ Some r)
    repeated [] d = absurd d
    repeated (m ∷ ms) d = repeats_open limits m ms d

    answered : (bs : List Asking) (r : Request) (a : Answer) → Linked (latests.Asked r) bs → find is_acked_change (decided_at x.place a bs) ≡ Some q → (find is_acked_change bs ≡ Some q → newest acks_change zs ≡ Some i) → newest_if (acks_change (Answered r a)) x.place (newest acks_change zs) ≡ Some i
    answered [] r a k z f = absurd k
    answered (b ∷ bs) r a k z f = two (is_change r && is_ack a) refl z
      where
        new : Asking
        new = record { code = b.code; number = b.number; more = b.more; first = b.first; repeats = b.repeats; decision = decided_by b.decision (record { place = x.place; answer = a }) }

        kind : is_acked_change new ≡ (is_change r && is_ack a)
        kind = ap (λ (o : Option Decision). is_state_request b && is_acked_by (decided_by o (record { place = x.place; answer = a }))) k.1 ∙ ap (λ (t : Bool). t && is_ack a) (of_change r b k.0)

        two : (t : Bool) → (is_change r && is_ack a) ≡ t → cond (is_acked_change new) (Some new) (find is_acked_change bs) ≡ Some q → newest_if (acks_change (Answered r a)) x.place (newest acks_change zs) ≡ Some i
        two true y z =
            let s : Some new ≡ Some q = sym (ap (λ (t : Bool). cond t (Some new) (find is_acked_change bs)) (kind ∙ y)) ∙ z in
            let u : new ≡ q = cc in
            let v : Some (record { place = x.place; answer = a }) ≡ Some (record { place = i; answer = Ack }) =
            sym (ap (λ (o : Option Decision). decided_by o (record { place = x.place; answer = a })) k.1) ∙ ap (λ (w : Asking). w.decision) u ∙ h in
            let w : x.place ≡ i = ap place_in v in
            ap (λ (t : Bool). newest_if t x.place (newest acks_change zs)) (acks_kind r a ∙ y) ∙ ap (λ (n : ℕ). Some n) w
        two false y z =
            let s : find is_acked_change bs ≡ Some q = sym (ap (λ (t : Bool). cond t (Some new) (find is_acked_change bs)) (kind ∙ y)) ∙ z in
            ap (λ (t : Bool). newest_if t x.place (newest acks_change zs)) (acks_kind r a ∙ y) ∙ f (undecided b bs k.1 ∙ s)

    by : (m : Mark) → IsLegal limits js m (marks_of zs) → Linked (latest (marks_of zs)) (now zs) → find is_acked_change (now_by x.place m (marks_of zs) (now zs)) ≡ Some q → (find is_acked_change (now zs) ≡ Some q → newest acks_change zs ≡ Some i)
        → newest_if (acks_change m) x.place (newest acks_change zs) ≡ Some i
    by (Begun j) k w z f = absurd cc
    by (Asked r) k w z f = f (sym (undecided (first_at x.place (asked (marks_of zs) % 65536) r) (now zs) refl) ∙ z)
    by Again k w z f =
        let o = repeated (marks_of zs) k in
        let P : Latest → Type 0 = λ y. Linked y (now zs) in
        f (sym (again (now zs) o.0 (subst P (open_latest (latest (marks_of zs)) o.0 o.1) w)) ∙ z)
    by (Answered r a) k w z f = let P : Latest → Type 0 = λ y. Linked y (now zs) in answered (now zs) r a (subst P (open_latest (latest (marks_of zs)) r k.1) w) z f
    by Hinted k w z f = f z
    by (Brought n p) k w z f = f z
    by (Turned t) k w z f = f z
    by (Ended cause) k w z f = f z

-- among the mains of a job with one request there is one that is acknowledged
pub record FoundAck (ms old : List Asking) : Type 0 where
  pub request : Asking
  pub found : find is_acked_change ms ≡ Some request
  pub found_on : find is_acked_change (ms ++ old) ≡ Some request
  pub acked_is : is_acked request ≡ true

pub found_ack : (job : Job) (state : State) (body : Stc) (ms old : List Asking) → asked_by job ≡ Change state body ∷ [] → AreMains job ms → 1 ≤ acked ms → FoundAck ms old
found_ack job state body [] old a m h = absurd (omega (arith, h))
found_ack job state body (b ∷ ms) old a m h = by (is_acked b) refl (λ z. found_ack job state body ms old a (m.1).1 z)
  where
    change : is_state_request b ≡ true
    change = of_change (m.0).request b (m.0).of ∙ ap is_change (sym (only_request job (Change state body) (m.0).request (acked ms) a (m.0).slot))

    by : (t : Bool) → is_acked b ≡ t → (1 ≤ acked ms → FoundAck ms old) → FoundAck (b ∷ ms) old
    by true e f =
        let k : is_acked_change b ≡ true = ap (λ (t : Bool). t && is_acked b) change ∙ e in
        record { request = b; found = ap (λ (t : Bool). cond t (Some b) (find is_acked_change ms)) k; found_on = ap (λ (t : Bool). cond t (Some b) (find is_acked_change (ms ++ old))) k; acked_is = e }
    by false e f =
        let k : is_acked_change b ≡ false = ap (λ (t : Bool). t && is_acked b) change ∙ e in
        let z = acked_no b ms (and_false (is_main b) (is_acked b) e) in
        let g = f (omega (arith, h, z)) in
        record { request = g.request; found = ap (λ (t : Bool). cond t (Some b) (find is_acked_change ms)) k ∙ g.found; found_on = ap (λ (t : Bool). cond t (Some b) (find is_acked_change (ms ++ old))) k ∙ g.found_on; acked_is = g.acked_is }
      where
        and_false : (s t : Bool) → t ≡ false → (s && t) ≡ false
        and_false true t e = e
        and_false false t e = refl
