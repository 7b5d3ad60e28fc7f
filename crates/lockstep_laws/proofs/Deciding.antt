-- The deciding answer is the one that was given.
use Rattle.std.proofs.Common.{◌≡◌, ℕ, ◌+◌, ◌%◌, ◌<◌, ◌≤◌, Bool, true, false, if◌then◌else◌, ◌⊎◌, inl, inr, Option, Some, None, List, [], ◌∷◌, ◌++◌, length, refl, sym, ap, ◌∙◌, subst, arith}
use Rattle.std.specs.Prelude.{◌==◌, ◌&&◌}
use Rattle.std.specs.List.{cons_option}
use Rattle.std.proofs.lemmas.Bool.{cases_lt, eq-eqb, eqb-true}
use Rattle.std.proofs.lemmas.Bool.Decides.{nat_tests}
use Rattle.dcp_types.specs.declared.addresses.Address.{Address}
use Rattle.log_spec.specs.Messages.{Note, Role, Request, Answer, Value, Else}
use Rattle.log_spec.specs.Channel.{by_ordinal, at_ordinal}
use Rattle.dcp_ends.specs.declared.entries.LogEntry.{LogEntry}
use Rattle.dcp_ends.specs.declared.entries.LogEntry.TheVariants.{Sent, Got, Idle, Turn}
use Rattle.log_spec.specs.Log.{Parties, IsSlaveOf, same, role_heard, Requests, sent_in, sends_in, requests_sent, DecidedRequest}
use Rattle.log_spec.specs.Moves.{Move, Asks, Comes, Tells, Hears, Brings, Turns, Rests, Other, sent_move, got_move, move, decides, has_newest_number, with_newest, decided_after, decided_exchanges}
use Rattle.log_spec.proofs.Channel.{at_below}
use Rattle.log_spec.proofs.Moves.{same_is, same_self, asked, requests_by_move}
use Rattle.lockstep_laws.specs.Slaves.{Desk, Handles, ServesNote}
use Rattle.lockstep_laws.specs.Cast.{ConversingSlaves}
use Rattle.lockstep_laws.specs.Runs.{AreSlaves, Behaves}
use Rattle.lockstep_laws.specs.Deciding.{IsHeard, IsDeciding}
use Rattle.lockstep_laws.specs.Laws.{TakenInOrder, DecidedByGiven, DecidedAsServed}
use Rattle.lockstep_laws.proofs.Talk.{Talk, Behind, last_of, requests_of, taken_length}
use Rattle.lockstep_laws.proofs.Conversation.{earlier, drop_later, known, KnownAt}

-- the list grows by an answer alone
grows_by : (mv : Move) (rs : List Note) (ds : List DecidedRequest) → length ds < length (decided_after mv rs ds) → (b : Note) × (mv ≡ Hears b) × (decides b rs ds ≡ true)
grows_by (Asks n) rs ds h = absurd (omega arith)
grows_by (Comes from receiver n) rs ds h = absurd (omega arith)
grows_by (Tells to bytes) rs ds h = absurd (omega arith)
grows_by (Hears b) rs ds h = (b, refl, grown b rs ds h)
  where
    grown : (b : Note) (rs : List Note) (ds : List DecidedRequest) → length ds < length (if decides b rs ds then with_newest rs b ds else ds) → decides b rs ds ≡ true
    grown b rs ds h = grind (arith, nat_tests)
grows_by (Brings from id n) rs ds h = absurd (omega arith)
grows_by Turns rs ds h = absurd (omega arith)
grows_by Rests rs ds h = absurd (omega arith)
grows_by Other rs ds h = absurd (omega arith)

-- a datagram at the master that is an answer of s
pub record IsAnswerOf (w : Parties) (s : ℕ) (e : LogEntry) (b : Note) : Type 0 where
  pub bytes : List ℕ
  pub is : e ≡ Got w.master (w.slave s) bytes
  pub read : role_heard w bytes ≡ Answer s b

rest_hears : (c : Bool) (b : Note) → (if c then Rests else Other) ≡ Hears b → ⊥
rest_hears c b h = grind arith

turn_hears : (c : Bool) (b : Note) → (if c then Turns else Other) ≡ Hears b → ⊥
turn_hears c b h = grind arith

comes_hears : (c : Bool) (from : Address) (receiver : ℕ) (n b : Note) → (if c then Comes from receiver n else Other) ≡ Hears b → ⊥
comes_hears c from receiver n b h = grind arith

brings_hears : (c : Bool) (from : Address) (id : ℕ) (n b : Note) → (if c then Brings from id n else Other) ≡ Hears b → ⊥
brings_hears c from id n b h = grind arith

answer_hears : (x y z p : Bool) (a b : Note) → (if x then Rests else (if (y && z) && p then Hears a else Other)) ≡ Hears b → (y ≡ true) × (z ≡ true) × (p ≡ true) × (a ≡ b)
answer_hears x y z p a b h = grind arith

module _ (w : Parties) (s : ℕ) where
  sent_hears : (from to : Address) (bytes : List ℕ) (k : Role) (b : Note) → sent_move w s from to bytes k ≡ Hears b → ⊥
  sent_hears from to bytes k b h = grind (arith, nat_tests)

  got_hears : (at from : Address) (k : Role) (b : Note) → got_move w s at from k ≡ Hears b → (same at w.master ≡ true) × (same from (w.slave s) ≡ true) × (k ≡ Answer s b)
  got_hears at from (Request receiver n) b h = absurd (comes_hears (same at (w.slave s)) from receiver n b h)
  got_hears at from (Answer sender n) b h =
      let g = answer_hears (same at (w.slave s)) (same at w.master) (same from (w.slave s)) (sender == s) n b h in
      (g.0, g.1, ap (λ i. Answer i n) (eqb-true sender s g.2) ∙ ap (Answer s) g.3)
  got_hears at from (Value id n) b h = absurd (brings_hears (same at (w.slave s)) from id n b h)
  got_hears at from Else b h = absurd (rest_hears (same at (w.slave s)) b h)

  got_is : (at from : Address) (bytes : List ℕ) (b : Note) → at ≡ w.master → from ≡ w.slave s → role_heard w bytes ≡ Answer s b → IsAnswerOf w s (Got at from bytes) b
  got_is at from bytes b p q r = record { bytes = bytes; is = ap (λ a. Got a from bytes) p ∙ ap (λ a. Got w.master a bytes) q; read = r }

  entry_heard : (e : LogEntry) (b : Note) → move w s e ≡ Hears b → IsAnswerOf w s e b
  entry_heard (Sent from to bytes) b h = absurd (sent_hears from to bytes (role_heard w bytes) b h)
  entry_heard (Got at from bytes) b h =
      let g = got_hears at from (role_heard w bytes) b h in
      got_is at from bytes b (same_is at w.master g.0) (same_is from (w.slave s) g.1) g.2
  entry_heard (Idle at) b h = absurd (rest_hears (same at (w.slave s)) b h)
  entry_heard (Turn at) b h = absurd (turn_hears (same at (w.slave s)) b h)

  heard_part : (a : Note) (b c d f : Bool) → b ≡ false → c ≡ true → d ≡ true → f ≡ true → (if b then Rests else (if (c && d) && f then Hears a else Other)) ≡ Hears a
  heard_part a b c d f p q r t = grind arith

newest_number : (o : ℕ) (a r : Note) (rs rest : List Note) (ds : List DecidedRequest) → rs ≡ r ∷ rest → r.number ≡ length rest % 65536 → length rs ≡ o + 1 → decides a rs ds ≡ true → a.number ≡ o % 65536
newest_number o a r rs rest ds is num l d = grind (arith, nat_tests)

-- no more is decided than was asked
at_most : (accepts : Note → Bool) (rs sent : List Note) (ds served : List DecidedRequest) (owed : List Note) → length (requests_of served) ≡ length served → Talk accepts rs sent ds served owed → length ds ≤ length rs
at_most accepts rs sent ds served owed l t = let p = t.taken in let q = t.decided in most rs ds served l p q
  where
    most : (rs : List Note) (ds served : List DecidedRequest) → length (requests_of served) ≡ length served → Behind (requests_of served) rs → Behind ds served → length ds ≤ length rs
    most rs ds served l p q = grind arith

one_asked : (k : Option Note) (ns : List Note) → length (by_ordinal ns) ≤ length (by_ordinal (cons_option k ns))
one_asked None ns = omega arith
one_asked (Some n) ns = grind (arith, nat_tests)

-- the list of exchanges keeps what it has
added : (y new : DecidedRequest) (o : ℕ) (es es' : List DecidedRequest) → es' ≡ new ∷ es → o < length es → at_ordinal es o ≡ Some y → at_ordinal es' o ≡ Some y
added y new o es es' e lt at = grind (arith, nat_tests)

same_list : (y : DecidedRequest) (o : ℕ) (es es' : List DecidedRequest) → es' ≡ es → at_ordinal es o ≡ Some y → at_ordinal es' o ≡ Some y
same_list y o es es' e at = let P : List DecidedRequest → Type 0 = λ l. at_ordinal l o ≡ Some y in subst P (sym e) at

handles_keeps : (w : Parties) (accepts : Note → Bool) (n : Note) (d d' : Desk) (o : ℕ) (y : DecidedRequest) → Handles w accepts n d d' → at_ordinal d.served o ≡ Some y → at_ordinal d'.served o ≡ Some y
handles_keeps w accepts n d d' o y (inl h) at = same_list y o d.served d'.served h.served at
handles_keeps w accepts n d d' o y (inr (inl h)) at = added y (record { request = n; answer = h.answer }) o d.served d'.served h.served (at_below d.served o y at) at
handles_keeps w accepts n d d' o y (inr (inr (inl h))) at = same_list y o d.served d'.served h.served at
handles_keeps w accepts n d d' o y (inr (inr (inr h))) at = same_list y o d.served d'.served h.served at

keeps : (w : Parties) (accepts : Note → Bool) (mv : Move) (d d' : Desk) (o : ℕ) (y : DecidedRequest) → ServesNote w accepts mv d d' → at_ordinal d.served o ≡ Some y → at_ordinal d'.served o ≡ Some y
keeps w accepts (Asks n) d d' o y s at = same_list y o d.served d'.served (ap (λ z. z.served) s) at
keeps w accepts (Comes from receiver n) d d' o y s at = handles_keeps w accepts n d d' o y s at
keeps w accepts (Tells to bytes) d d' o y s at = same_list y o d.served d'.served s.0 at
keeps w accepts (Hears n) d d' o y s at = same_list y o d.served d'.served (ap (λ z. z.served) s) at
keeps w accepts (Brings from id n) d d' o y s at = same_list y o d.served d'.served s.served at
keeps w accepts Turns d d' o y s at = same_list y o d.served d'.served s.served at
keeps w accepts Rests d d' o y s at = same_list y o d.served d'.served s.served at
keeps w accepts Other d d' o y s at = same_list y o d.served d'.served (ap (λ z. z.served) s) at

-- the newest decided exchange is the slave's
decided_here : (a r : Note) (o : ℕ) (rs rest : List Note) (ds served : List DecidedRequest) → rs ≡ r ∷ rest → length rs ≡ o + 1 → length ds ≡ o → has_newest_number a rs ≡ true → Behind (if decides a rs ds then with_newest rs a ds else ds) served
    → at_ordinal served o ≡ Some (record { request = r; answer = a })
decided_here a r o rs rest ds served is l d num b = grind (arith, nat_tests)

has_number : (a r : Note) (rs rest : List Note) (o : ℕ) → rs ≡ r ∷ rest → r.number ≡ length rest % 65536 → length rs ≡ o + 1 → a.number ≡ o % 65536 → has_newest_number a rs ≡ true
has_number a r rs rest o is num l h = grind (arith, nat_tests)

module _ (w : Parties) (x : ConversingSlaves) (ok : AreSlaves w x) where
  -- the served exchanges only grow
  pub kept : (s : ℕ) → IsSlaveOf w s → (later log : List LogEntry) → Behaves w x (later ++ log) → (o : ℕ) (y : DecidedRequest) → at_ordinal (x.desk s log).served o ≡ Some y → at_ordinal (x.desk s (later ++ log)).served o ≡ Some y
  kept s is [] log b o y at = at
  kept s is (e ∷ later) log b o y at =
      let g = (ok.each s is).goes e (later ++ log) (b.slaves s is).0 in
      keeps w (x.accepts s) (move w s e) (x.desk s (later ++ log)) (x.desk s (e ∷ (later ++ log))) o y g (kept s is later log (earlier w x ok e (later ++ log) b) o y at)

  module _ (s : ℕ) (is : IsSlaveOf w s) where
    same_requests : (e : LogEntry) (log : List LogEntry) (b : Note) → move w s e ≡ Hears b → requests_sent w s (e ∷ log) ≡ requests_sent w s log
    same_requests e log b h = ap (λ k. by_ordinal (cons_option k (sends_in w (Requests s) log))) (requests_by_move w s e ∙ ap asked h)

    decides_number : (log : List LogEntry) → Behaves w x log → (o : ℕ) (b : Note) → length (requests_sent w s log) ≡ o + 1 → decides b (requests_sent w s log) (decided_exchanges w s log) ≡ true → b.number ≡ o % 65536
    decides_number log h o b l d =
        let k = known w x ok s is log h in
        let last = last_of (sends_in w (Requests s) log) k.requests (omega arith) in
        newest_number o b last.0 (requests_sent w s log) last.1 (decided_exchanges w s log) last.2 last.3 l d

    -- where a request is decided, an answer to it was heard
    heard_before : (log : List LogEntry) → Behaves w x log → (o : ℕ) → length (requests_sent w s log) ≡ o + 1 → o < length (decided_exchanges w s log) → (b : Note) × IsHeard w s o b log
    heard_before [] h o l d = absurd (omega arith)
    heard_before (e ∷ log) h o l d = by (λ l' d'. heard_before log (earlier w x ok e log h) o l' d') (cases_lt o (length (decided_exchanges w s log)))
      where
        b : Behaves w x log
        b = earlier w x ok e log h

        k : KnownAt w x ok s is log
        k = known w x ok s is log b

        le : length (decided_exchanges w s log) ≤ length (requests_sent w s log)
        le = at_most (x.accepts s) (requests_sent w s log) _ (decided_exchanges w s log) (x.desk s log).served _ (taken_length (x.desk s log).served) k.talk

        before : (length (requests_sent w s log) ≡ o + 1 → o < length (decided_exchanges w s log) → (c : Note) × IsHeard w s o c log) → o < length (decided_exchanges w s log) → (c : Note) × IsHeard w s o c (e ∷ log)
        before f lt =
            let r = f (omega (arith, le, one_asked (sent_in w (Requests s) e) (sends_in w (Requests s) log))) lt in
            (r.0, record { later = e ∷ (r.1).later; earlier = (r.1).earlier; bytes = (r.1).bytes; is = ap (λ xs. e ∷ xs) {y = (r.1).later ++ Got w.master (w.slave s) (r.1).bytes ∷ (r.1).earlier} (r.1).is; read = (r.1).read; asked = (r.1).asked; number = (r.1).number })

        now : length (decided_exchanges w s log) ≤ o → (c : Note) × IsHeard w s o c (e ∷ log)
        now ge =
            let g = grows_by (move w s e) (requests_sent w s log) (decided_exchanges w s log) (omega arith) in
            let same' = same_requests e log g.0 g.1 in
            let asked' : length (requests_sent w s log) ≡ o + 1 = omega (arith, ap length same') in
            let a = entry_heard w s e g.0 g.1 in
            (g.0, record { later = []; earlier = log; bytes = a.bytes; is = ap (λ z. z ∷ log) a.is; read = a.read; asked = asked'; number = decides_number log b o g.0 asked' g.2 })

        by : (length (requests_sent w s log) ≡ o + 1 → o < length (decided_exchanges w s log) → (c : Note) × IsHeard w s o c log) → (o < length (decided_exchanges w s log)) ⊎ (length (decided_exchanges w s log) ≤ o) → (c : Note) × IsHeard w s o c (e ∷ log)
        by f (inl lt) = before f lt
        by f (inr ge) = now ge

    master_hears : (bytes : List ℕ) (a : Note) → role_heard w bytes ≡ Answer s a → move w s (Got w.master (w.slave s) bytes) ≡ Hears a
    master_hears bytes a r = ap (got_move w s w.master (w.slave s)) r ∙ by (same w.master (w.slave s)) refl
      where
        by : (b : Bool) → same w.master (w.slave s) ≡ b → (if b then Rests else (if (same w.master w.master && same (w.slave s) (w.slave s)) && (s == s) then Hears a else Other)) ≡ Hears a
        by true e = absurd (ok.apart.master s is (sym (same_is w.master (w.slave s) e)))
        by false e = heard_part w s a false (same w.master w.master) (same (w.slave s) (w.slave s)) (s == s) refl (same_self w.master) (same_self (w.slave s)) (eq-eqb s s refl)

    at_heard : (log : List LogEntry) (bytes : List ℕ) (o : ℕ) (a : Note) → Behaves w x (Got w.master (w.slave s) bytes ∷ log) → role_heard w bytes ≡ Answer s a → length (requests_sent w s log) ≡ o + 1 → a.number ≡ o % 65536 → ((b : Note) → IsHeard w s o b log → ⊥)
        → (y : DecidedRequest) × (at_ordinal (x.desk s (Got w.master (w.slave s) bytes ∷ log)).served o ≡ Some y) × (y.answer ≡ a)
    at_heard log bytes o a h r asked' num first =
        let e = Got w.master (w.slave s) bytes in
        let b = earlier w x ok e log h in
        let k = known w x ok s is log b in
        let kn = known w x ok s is (e ∷ log) h in
        let last = last_of (sends_in w (Requests s) log) k.requests (omega arith) in
        let few : length (decided_exchanges w s log) ≤ o = fewer (cases_lt o (length (decided_exchanges w s log))) in
        let P : Move → Type 0 = λ mv. Behind (decided_after mv (requests_sent w s log) (decided_exchanges w s log)) (x.desk s (e ∷ log)).served in
        let at = decided_here a last.0 o (requests_sent w s log) last.1 (decided_exchanges w s log) (x.desk s (e ∷ log)).served last.2 asked' (omega (arith, k.talk.asked)) (has_number a last.0 (requests_sent w s log) last.1 o last.2 last.3 asked' num) (subst P (master_hears bytes a r) kn.talk.decided) in
        (record { request = last.0; answer = a }, at, refl)
      where
        fewer : (o < length (decided_exchanges w s log)) ⊎ (length (decided_exchanges w s log) ≤ o) → length (decided_exchanges w s log) ≤ o
        fewer (inl lt) = let g = heard_before log (earlier w x ok (Got w.master (w.slave s) bytes) log h) o asked' lt in absurd (first g.0 g.1)
        fewer (inr le) = le

    pub decided_by_given : (log : List LogEntry) → Behaves w x log → (o : ℕ) (a : Note) → IsDeciding w s o a log → (e : DecidedRequest) × (at_ordinal (x.desk s log).served o ≡ Some e) × (e.answer ≡ a)
    decided_by_given log b o a d =
        let e = Got w.master (w.slave s) d.heard.bytes in
        let P : List LogEntry → Type 0 = Behaves w x in
        let b' = subst P d.heard.is b in
        let y = at_heard d.heard.earlier d.heard.bytes o a (drop_later w x ok d.heard.later (e ∷ d.heard.earlier) b') d.heard.read d.heard.asked d.heard.number d.first in
        let Q : List LogEntry → Type 0 = λ l. at_ordinal (x.desk s l).served o ≡ Some y.0 in
        (y.0, subst Q (sym d.heard.is) (kept s is d.heard.later (e ∷ d.heard.earlier) b' o y.0 y.1), y.2)

-- ---- every moment
in_order : {A : Type 0} (xs ys : List A) → Behind xs ys → (later : List A) × (ys ≡ later ++ xs)
in_order xs ys (inl e) = ([], sym e)
in_order xs ys (inr p) = (p.0 ∷ [], p.1)

pub taken : (w : Parties) (x : ConversingSlaves) → AreSlaves w x → (later log : List LogEntry) → Behaves w x (later ++ log) → TakenInOrder w x log
taken w x ok later log b s is = let k = known w x ok s is log (drop_later w x ok later log b) in in_order (requests_of (x.desk s log).served) (requests_sent w s log) k.talk.taken

pub served : (w : Parties) (x : ConversingSlaves) → AreSlaves w x → (later log : List LogEntry) → Behaves w x (later ++ log) → DecidedAsServed w x log
served w x ok later log b s is = let k = known w x ok s is log (drop_later w x ok later log b) in in_order (decided_exchanges w s log) (x.desk s log).served k.talk.decided

pub deciding : (w : Parties) (x : ConversingSlaves) → AreSlaves w x → (later log : List LogEntry) → Behaves w x (later ++ log) → DecidedByGiven w x log
deciding w x ok later log b s is = decided_by_given w x ok s is log (drop_later w x ok later log b)
