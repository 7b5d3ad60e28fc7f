-- A slave that has taken a request sends its answer before anything is got, by any end.
use Rattle.std.proofs.Common.{◌≡◌, ℕ, ◌≤◌, Bool, if◌then◌else◌, ◌⊎◌, map, inl, inr, Option, Some, None, List, [], ◌∷◌, ◌++◌, length, reverse, refl, sym, ap, ◌∙◌, subst, arith, length-append}
use Rattle.std.specs.List.{cons_option}
use Rattle.std.proofs.lemmas.List.{append_assoc}
use Rattle.dcp_types.specs.declared.addresses.Address.{Address}
use Rattle.dcp_ends.specs.declared.entries.LogEntry.{LogEntry}
use Rattle.dcp_ends.specs.declared.entries.LogEntry.TheVariants.{Sent, Got, Idle, Turn}
use Rattle.slave_desc.specs.declared.descriptions.SlaveDesc.{SlaveDesc}
use Rattle.scenario.specs.declared.scenarios.Scenario.{Scenario}
use Rattle.scenario.specs.Sound.{IsScenario}
use Rattle.log_spec.specs.Messages.{Note, Role, Request, Answer, Value, Else, answer_in}
use Rattle.log_spec.specs.Log.{Parties, IsSlaveOf, role_heard, DecidedRequest}
use Rattle.log_spec.specs.Moves.{Move, Asks, Comes, Tells, Hears, Brings, Turns, Rests, Other, move}
use Rattle.lockstep_laws.specs.Slaves.{Post, Desk, SlaveMay, ServesNote, Handles, answers_of, tail}
use Rattle.lockstep_laws.specs.Cast.{ConversingSlaves}
use Rattle.lockstep_laws.specs.Runs.{Behaves}
use Rattle.log_spec.proofs.Moves.{same_self}
use Rattle.slave_spec.specs.Heard as spec
use Rattle.slave_spec.specs.Transport as transport
use Rattle.slave_spec.specs.Transport.{SlaveState}
use Rattle.slave_spec.specs.Plants.{Plant}
use Rattle.slave_spec.specs.Slaves.{machine}
use Rattle.slave_spec.specs.declared.words.SlaveRequest as req
use Rattle.slave_spec.specs.declared.words.Fate.{Fate}
use Rattle.slave_spec.specs.declared.words.Fate.TheVariants.{Dropped, Refused, Repeated, Taken}
use Rattle.slave_laws.specs.Talk.Desks.{post, got, at}
use Rattle.slave_laws.specs.Data.Whole.{slaves_asked}
use Rattle.run_laws.specs.Laws.{parties, slave_setup_of, IsRunInRounds}
use Rattle.run_laws.proofs.Headline.Behaving.{are_slaves}
use Rattle.completeness_laws.proofs.Delivery.Unheard.{tells_entry}
use Rattle.completeness_laws.proofs.Delivery.Whole.{IsEventEntry, nothing_owed}

-- ---- the role of an answer
pub record IsAnswerOf (k : Role) (a : Note) : Type 0 where
  pub sender : ℕ
  pub is : k ≡ Answer sender a

-- what reads as an answer is one
pub answer_role : (k : Role) (a : Note) → answer_in k ≡ Some a → IsAnswerOf k a
answer_role (Answer sender n) a h = let z : n ≡ a = cc in record { sender = sender; is = ap (λ (x : Note). Answer sender x) z }
answer_role (Request receiver n) a h = absurd cc
answer_role (Value id n) a h = absurd cc
answer_role Else a h = absurd cc

-- ---- what a slave owes once it has taken a request
pub record OwesAnswer (w : Parties) (z : DecidedRequest) (d : Desk) : Type 0 where
  pub owes : answers_of w d.owed ≡ z.answer ∷ []
  pub number : z.answer.number ≡ z.request.number

-- a list is not the same with one more in front
longer : {A : Type 0} (z : A) (xs ys : List A) → ys ≡ xs → ys ≡ z ∷ xs → ⊥
longer z xs ys e h = let n = ap length (sym e ∙ h) in omega (arith, n)

-- lists that are the same begin with the same
head_same : {A : Type 0} {y z : A} {ys zs : List A} → y ∷ ys ≡ z ∷ zs → y ≡ z
head_same q = cc

-- an entry with which one more request is served leaves its answer to be sent
pub takes_owing : (w : Parties) (accepts : Note → Bool) (mv : Move) (x y : Desk) (z : DecidedRequest) → ServesNote w accepts mv x y → y.served ≡ z ∷ x.served → OwesAnswer w z y
takes_owing w accepts (Asks n) x y z v h = absurd (longer z x.served y.served (ap (λ (d : Desk). d.served) v) h)
takes_owing w accepts (Comes from receiver n) x y z v h = by v
  where
    by : Handles w accepts n x y → OwesAnswer w z y
    by (inl d) = absurd (longer z x.served y.served d.served h)
    by (inr (inr (inl d))) = absurd (longer z x.served y.served d.served h)
    by (inr (inr (inr d))) = absurd (longer z x.served y.served d.served h)
    by (inr (inl t)) =
        let e : record { request = n; answer = t.answer } ≡ z = head_same (sym t.served ∙ h) in
        record {
          owes = t.owes ∙ ap (λ (q : DecidedRequest). q.answer ∷ []) e;
          number = sym (ap (λ (q : DecidedRequest). q.answer.number) e) ∙ t.number ∙ ap (λ (q : DecidedRequest). q.request.number) e;
        }
takes_owing w accepts (Tells to bytes) x y z v h = absurd (longer z x.served y.served v.0 h)
takes_owing w accepts (Hears n) x y z v h = absurd (longer z x.served y.served (ap (λ (d : Desk). d.served) v) h)
takes_owing w accepts (Brings from id n) x y z v h = absurd (longer z x.served y.served v.served h)
takes_owing w accepts Turns x y z v h = absurd (longer z x.served y.served v.served h)
takes_owing w accepts Rests x y z v h = absurd (longer z x.served y.served v.served h)
takes_owing w accepts Other x y z v h = absurd (longer z x.served y.served (ap (λ (d : Desk). d.served) v) h)

-- ---- whom a slave tells what it has to send for a datagram: where that came from
abbrev pub AreTo : Address → List Post → Type 0
AreTo a [] = Unit {0}
AreTo a (p ∷ posts) = (p.to ≡ a) × AreTo a posts

notices_to : (from : Address) (id : ℕ) (notices : List transport.Notice) → AreTo from (map post (transport.notice_sends from id notices))
notices_to from id [] = tt
notices_to from id (n ∷ notices) = (refl, notices_to from id notices)

module _ (sc : Scenario) (other : SlaveDesc) (s : ℕ) where
  abbrev M : transport.Machine Plant
  M = machine (slave_setup_of sc other s)

  again_to : (from : Address) (es : List transport.Exchange) → AreTo from (map post (transport.again from es))
  again_to from [] = tt
  again_to from (e ∷ es) = (refl, tt)

  fate_to : (x : SlaveState Plant) (from : Address) (r : req.SlaveRequest) (f : Fate) → AreTo from (map post (transport.request_sends M x from r f))
  fate_to x from r Dropped = tt
  fate_to x from r (Refused code) = (refl, tt)
  fate_to x from r Repeated = again_to from x.served
  fate_to x from r Taken = (refl, notices_to from r.receiver (M.answers r.asked x.inner).notices)

  -- all that is sent for a datagram goes to its sender
  heard_to : (x : SlaveState Plant) (from : Address) (h : spec.Heard) → AreTo from (map post (transport.heard_sends M x from h))
  heard_to x from (spec.Asks r) = fate_to x from r (transport.fate M x from r)
  heard_to x from (spec.Brings number id payload) = tt
  heard_to x from spec.Nothing = tt

  pub to_sender : (log : List LogEntry) (from : Address) (bytes : List ℕ) → AreTo from ((slaves_asked sc other).desk s (Got ((parties sc other).slave s) from bytes ∷ log)).owed
  to_sender log from bytes =
      let w = parties sc other in
      let x = at M w s log in
      let P : Bool → Type 0 = λ b. AreTo from (if b then got M w s from bytes x else x).desk.owed in
      subst P (sym (same_self (w.slave s))) (heard_to x.slave from (spec.heard bytes))

-- ---- parts of a log in which nothing is got
abbrev pub IsNoGot : LogEntry → Type 0
IsNoGot (Sent from to bytes) = Unit {0}
IsNoGot (Got at from bytes) = ⊥
IsNoGot (Idle at) = Unit {0}
IsNoGot (Turn at) = Unit {0}

abbrev pub IsQuiet : List LogEntry → Type 0
IsQuiet [] = Unit {0}
IsQuiet (e ∷ part) = IsNoGot e × IsQuiet part

-- what is got in a log with such a part in front stands behind the part
pub got_behind : (part log front rest : List LogEntry) (at from : Address) (bytes : List ℕ) → IsQuiet part → part ++ log ≡ front ++ Got at from bytes ∷ rest → length log ≤ length rest → ⊥
got_behind [] log front rest at from bytes q e h =
    let a = ap length e in
    let b = length-append front (Got at from bytes ∷ rest) in
    omega (arith, a, b, h)
got_behind (c ∷ part) log [] rest at from bytes q e h = let P : LogEntry → Type 0 = λ x. IsNoGot x in subst P (head_same e) q.0
got_behind (c ∷ part) log (d ∷ front) rest at from bytes q e h = got_behind part log front rest at from bytes q.1 (tail_same e) h
  where
    tail_same : {y z : LogEntry} {us vs : List LogEntry} → y ∷ us ≡ z ∷ vs → us ≡ vs
    tail_same z = cc

-- ---- the answer is sent
module _ (sc : Scenario) (other : SlaveDesc) (ok : IsScenario sc) (log : List LogEntry) (r : IsRunInRounds sc other log) (s : ℕ) (it : IsSlaveOf (parties sc other) s) (behaves : (part base : List LogEntry) → reverse log ≡ part ++ base → Behaves (parties sc other) (slaves_asked sc other) base)
    (base : List LogEntry) (a : Note) (owes : answers_of (parties sc other) ((slaves_asked sc other).desk s base).owed ≡ a ∷ []) (to_master : AreTo (parties sc other).master ((slaves_asked sc other).desk s base).owed) where
  abbrev W : Parties
  W = parties sc other

  abbrev X : ConversingSlaves
  X = slaves_asked sc other

  -- with nothing got before it
  pub record IsAnswered (part : List LogEntry) : Type 0 where
    pub after : List LogEntry
    pub before : List LogEntry
    pub bytes : List ℕ
    pub is : part ≡ after ++ Sent (W.slave s) W.master bytes ∷ before
    pub quiet : IsQuiet before
    pub read : answer_in (role_heard W bytes) ≡ Some a

  -- or nothing is got, and it is still to be sent
  record StillOwes (part : List LogEntry) : Type 0 where
    pub quiet : IsQuiet part
    pub owes_it : answers_of W (X.desk s (part ++ base)).owed ≡ a ∷ []
    pub to_it : AreTo W.master (X.desk s (part ++ base)).owed

  none_owed : (posts : List Post) → posts ≡ [] → answers_of W posts ≡ a ∷ [] → ⊥
  none_owed posts e h = let z : [] ≡ a ∷ [] = sym (ap (answers_of W) e) ∙ h in cc

  no_got : (c : LogEntry) → (IsEventEntry sc other ok log r s it c → ⊥) → IsNoGot c
  no_got (Sent from to bytes) f = tt
  no_got (Got at from bytes) f = f tt
  no_got (Idle at) f = tt
  no_got (Turn at) f = tt

  module _ (c : LogEntry) (part later : List LogEntry) (split : reverse log ≡ later ++ c ∷ (part ++ base)) (h : StillOwes part) where
    abbrev x : Desk
    x = X.desk s (part ++ base)

    abbrev y : Desk
    y = X.desk s (c ∷ (part ++ base))

    may : SlaveMay (move W s c) x.owed
    may = ((behaves later (c ∷ (part ++ base)) split).slaves s it).0

    no_event : IsEventEntry sc other ok log r s it c → ⊥
    no_event v = none_owed x.owed (nothing_owed sc other ok log r s it later (part ++ base) c split v) h.owes_it

    stays : y ≡ x → IsAnswered (c ∷ part) ⊎ StillOwes (c ∷ part)
    stays e = inr (record { quiet = (no_got c no_event, h.quiet); owes_it = ap (λ (d : Desk). answers_of W d.owed) e ∙ h.owes_it; to_it = (let P : Desk → Type 0 = λ d. AreTo W.master d.owed in subst P (sym e) h.to_it) })

    sends : (to : Address) (bytes : List ℕ) → c ≡ Sent (W.slave s) to bytes → (posts : List Post) → x.owed ≡ posts → y.owed ≡ tail x.owed → SlaveMay (Tells to bytes) posts → IsAnswered (c ∷ part) ⊎ StillOwes (c ∷ part)
    sends to bytes e [] q t m = absurd m
    sends to bytes e (p ∷ posts) q t m = by (answer_in (role_heard W p.bytes)) refl
      where
        all : answers_of W (p ∷ posts) ≡ a ∷ []
        all = sym (ap (answers_of W) q) ∙ h.owes_it

        rest : y.owed ≡ posts
        rest = t ∙ ap tail q

        all_to : AreTo W.master (p ∷ posts)
        all_to = let P : List Post → Type 0 = λ ps. AreTo W.master ps in subst P q h.to_it

        by : (o : Option Note) → answer_in (role_heard W p.bytes) ≡ o → IsAnswered (c ∷ part) ⊎ StillOwes (c ∷ part)
        by None o = inr (record { quiet = (no_got c no_event, h.quiet); owes_it = ap (answers_of W) rest ∙ sym (ap (λ (k : Option Note). cons_option k (answers_of W posts)) o) ∙ all; to_it = (let P : List Post → Type 0 = λ ps. AreTo W.master ps in subst P (sym rest) all_to.1) })
        by (Some b) o =
            let z : b ≡ a = head_same (sym (ap (λ (k : Option Note). cons_option k (answers_of W posts)) o) ∙ all) in
            inl (record { after = []; before = part; bytes = bytes; is = ap (λ (k : LogEntry). k ∷ part) (e ∙ ap (λ (k : Address). Sent (W.slave s) k bytes) (sym m.0 ∙ all_to.0)); quiet = h.quiet; read = ap (λ (k : List ℕ). answer_in (role_heard W k)) (sym m.1) ∙ o ∙ ap (λ (k : Note). Some k) z })

    goes_on : IsAnswered (c ∷ part) ⊎ StillOwes (c ∷ part)
    goes_on = by (move W s c) refl may (((are_slaves sc other ok).each s it).goes c (part ++ base) may)
      where
        by : (mv : Move) → move W s c ≡ mv → SlaveMay mv x.owed → ServesNote W (X.accepts s) mv x y → IsAnswered (c ∷ part) ⊎ StillOwes (c ∷ part)
        by (Asks n) e m v = stays v
        by (Comes from receiver n) e m v = absurd (none_owed x.owed m h.owes_it)
        by (Tells to bytes) e m v = sends to bytes (tells_entry sc other ok s it c to bytes e) x.owed refl v.1 m
        by (Hears n) e m v = stays v
        by (Brings from id n) e m v = absurd (none_owed x.owed m h.owes_it)
        by Turns e m v = absurd (none_owed x.owed m h.owes_it)
        by Rests e m v = absurd (none_owed x.owed m h.owes_it)
        by Other e m v = stays v

  later_too : (c : LogEntry) (part : List LogEntry) → IsAnswered part → IsAnswered (c ∷ part)
  later_too c part k = record { after = c ∷ k.after; before = k.before; bytes = k.bytes; is = ap (λ (z : List LogEntry). c ∷ z) k.is; quiet = k.quiet; read = k.read }

  -- one of the two, after each entry
  scan : (part later : List LogEntry) → reverse log ≡ later ++ (part ++ base) → IsAnswered part ⊎ StillOwes part
  scan [] later e = inr (record { quiet = tt; owes_it = owes; to_it = to_master })
  scan (c ∷ part) later e = by (scan part (later ++ c ∷ []) (e ∙ sym (append_assoc later (c ∷ []) (part ++ base))))
    where
      by : IsAnswered part ⊎ StillOwes part → IsAnswered (c ∷ part) ⊎ StillOwes (c ∷ part)
      by (inl k) = inl (later_too c part k)
      by (inr k) = goes_on c part later e k

  -- before the next thing that is got
  pub answered_before : (part later : List LogEntry) (c : LogEntry) → reverse log ≡ later ++ c ∷ (part ++ base) → IsEventEntry sc other ok log r s it c → IsAnswered part
  answered_before part later c e v = by (scan part (later ++ c ∷ []) (e ∙ sym (append_assoc later (c ∷ []) (part ++ base))))
    where
      by : IsAnswered part ⊎ StillOwes part → IsAnswered part
      by (inl k) = k
      by (inr k) = absurd (none_owed (X.desk s (part ++ base)).owed (nothing_owed sc other ok log r s it later (part ++ base) c e v) k.owes_it)
