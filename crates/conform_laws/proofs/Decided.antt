-- The answer that decides a request, read off the log, is the one of its exchange, whoever the slave is.
use Rattle.std.proofs.Common.{◌≡◌, ℕ, ◌+◌, ◌%◌, ◌<◌, ◌≤◌, Bool, true, false, if◌then◌else◌, ◌⊎◌, inl, inr, Option, Some, None, List, [], ◌∷◌, ◌++◌, length, refl, sym, ap, ◌∙◌, subst, arith}
use Rattle.std.specs.Prelude.{◌==◌, ◌&&◌}
use Rattle.std.specs.List.{cons_option}
use Rattle.std.proofs.lemmas.Bool.{cases_lt, eq-eqb, eqb-true}
use Rattle.std.proofs.lemmas.Bool.Decides.{nat_tests}
use Rattle.dcp_types.specs.declared.addresses.Address.{Address}
use Rattle.log_spec.specs.Messages.{Note, Role, Request, Answer, Value, Else}
use Rattle.log_spec.specs.Channel.{by_ordinal, at_ordinal, IsRegularChannel}
use Rattle.dcp_ends.specs.declared.entries.LogEntry.{LogEntry}
use Rattle.dcp_ends.specs.declared.entries.LogEntry.TheVariants.{Sent, Got, Idle, Turn}
use Rattle.log_spec.specs.Log.{Parties, IsSlaveOf, PartiesApart, same, role_heard, Requests, sent_in, sends_in, requests_sent, DecidedRequest}
use Rattle.log_spec.specs.Moves.{Move, Asks, Comes, Tells, Hears, Brings, Turns, Rests, Other, sent_move, got_move, move, decides, has_newest_number, with_newest, decided_after, decided_exchanges}
use Rattle.log_spec.proofs.Channel.{at_below}
use Rattle.log_spec.proofs.Moves.{same_is, same_self, asked, requests_by_move}
use Rattle.lockstep_laws.specs.Deciding.{IsHeard, IsDeciding}
use Rattle.lockstep_laws.proofs.Talk.{last_of}

-- ---- lists by ordinal

-- what is added later changes nothing that stands at an ordinal
pub stands_behind : (later es : List DecidedRequest) (o : ℕ) (y : DecidedRequest) → at_ordinal es o ≡ Some y → at_ordinal (later ++ es) o ≡ Some y
stands_behind [] es o y at = at
stands_behind (z ∷ later) es o y at = one_later z (later ++ es) o y (stands_behind later es o y at)
  where
    added : (z y : DecidedRequest) (es : List DecidedRequest) (o : ℕ) → o < length es → at_ordinal es o ≡ Some y → at_ordinal (z ∷ es) o ≡ Some y
    added z y es o lt at = grind (arith, nat_tests)

    one_later : (z : DecidedRequest) (es : List DecidedRequest) (o : ℕ) (y : DecidedRequest) → at_ordinal es o ≡ Some y → at_ordinal (z ∷ es) o ≡ Some y
    one_later z es o y at = added z y es o (at_below es o y at) at

-- an entry adds one exchange at most
grows : (mv : Move) (rs : List Note) (ds : List DecidedRequest) → (more : List DecidedRequest) × (decided_after mv rs ds ≡ more ++ ds)
grows (Asks n) rs ds = ([], refl)
grows (Comes from receiver n) rs ds = ([], refl)
grows (Tells to bytes) rs ds = ([], refl)
grows (Hears a) rs ds = by (decides a rs ds) rs
  where
    newest : (rs : List Note) → (more : List DecidedRequest) × (with_newest rs a ds ≡ more ++ ds)
    newest [] = ([], refl)
    newest (r ∷ rs) = (record { request = r; answer = a } ∷ [], refl)

    by : (b : Bool) (rs : List Note) → (more : List DecidedRequest) × ((if b then with_newest rs a ds else ds) ≡ more ++ ds)
    by true rs = newest rs
    by false rs = ([], refl)
grows (Brings from id n) rs ds = ([], refl)
grows Turns rs ds = ([], refl)
grows Rests rs ds = ([], refl)
grows Other rs ds = ([], refl)

-- it adds one by an answer alone
grows_by : (mv : Move) (rs : List Note) (ds : List DecidedRequest) → length ds < length (decided_after mv rs ds) → (b : Note) × (mv ≡ Hears b) × (decides b rs ds ≡ true)
grows_by (Asks n) rs ds h = absurd (omega arith)
grows_by (Comes from receiver n) rs ds h = absurd (omega arith)
grows_by (Tells to bytes) rs ds h = absurd (omega arith)
grows_by (Hears b) rs ds h = (b, refl, grown b rs ds h)
  where
    grown : (b : Note) (rs : List Note) (ds : List DecidedRequest) → length ds < length (if decides b rs ds then with_newest rs b ds else ds) → decides b rs ds ≡ true
    grown b rs ds h = grind (arith, nat_tests)
grows_by (Brings from id n) rs ds h = absurd (omega arith)
grows_by Turns rs ds h = absurd (omega arith)
grows_by Rests rs ds h = absurd (omega arith)
grows_by Other rs ds h = absurd (omega arith)

-- ---- an answer that the master hears

-- a datagram at the master that is an answer of the slave
pub record IsAnswerOf (w : Parties) (s : ℕ) (e : LogEntry) (b : Note) : Type 0 where
  pub bytes : List ℕ
  pub is : e ≡ Got w.master (w.slave s) bytes
  pub read : role_heard w bytes ≡ Answer s b

-- an entry without effect is no answer that is heard
rest_hears : (c : Bool) (b : Note) → (if c then Rests else Other) ≡ Hears b → ⊥
rest_hears c b h = grind arith

-- nor is a turn
turn_hears : (c : Bool) (b : Note) → (if c then Turns else Other) ≡ Hears b → ⊥
turn_hears c b h = grind arith

-- nor a request that comes
comes_hears : (c : Bool) (from : Address) (receiver : ℕ) (n b : Note) → (if c then Comes from receiver n else Other) ≡ Hears b → ⊥
comes_hears c from receiver n b h = grind arith

-- nor data that comes
brings_hears : (c : Bool) (from : Address) (id : ℕ) (n b : Note) → (if c then Brings from id n else Other) ≡ Hears b → ⊥
brings_hears c from id n b h = grind arith

-- an answer is heard at the master, from its slave, and names it
answer_hears : (x y z p : Bool) (a b : Note) → (if x then Rests else (if (y && z) && p then Hears a else Other)) ≡ Hears b → (y ≡ true) × (z ≡ true) × (p ≡ true) × (a ≡ b)
answer_hears x y z p a b h = grind arith

-- and what is so is heard
heard_part : (a : Note) (b c d f : Bool) → b ≡ false → c ≡ true → d ≡ true → f ≡ true → (if b then Rests else (if (c && d) && f then Hears a else Other)) ≡ Hears a
heard_part a b c d f p q r t = grind arith

module _ (w : Parties) (s : ℕ) where
  sent_hears : (from to : Address) (bytes : List ℕ) (k : Role) (b : Note) → sent_move w s from to bytes k ≡ Hears b → ⊥
  sent_hears from to bytes k b h = grind (arith, nat_tests)

  -- what is heard is a Got of the master
  got_hears : (at from : Address) (k : Role) (b : Note) → got_move w s at from k ≡ Hears b → (same at w.master ≡ true) × (same from (w.slave s) ≡ true) × (k ≡ Answer s b)
  got_hears at from (Request receiver n) b h = absurd (comes_hears (same at (w.slave s)) from receiver n b h)
  got_hears at from (Answer sender n) b h =
      let g = answer_hears (same at (w.slave s)) (same at w.master) (same from (w.slave s)) (sender == s) n b h in
      (g.0, g.1, ap (λ i. Answer i n) (eqb-true sender s g.2) ∙ ap (Answer s) g.3)
  got_hears at from (Value id n) b h = absurd (brings_hears (same at (w.slave s)) from id n b h)
  got_hears at from Else b h = absurd (rest_hears (same at (w.slave s)) b h)

  -- that is an answer of the slave
  got_is : (at from : Address) (bytes : List ℕ) (b : Note) → at ≡ w.master → from ≡ w.slave s → role_heard w bytes ≡ Answer s b → IsAnswerOf w s (Got at from bytes) b
  got_is at from bytes b p q r = record { bytes = bytes; is = ap (λ a. Got a from bytes) p ∙ ap (λ a. Got w.master a bytes) q; read = r }

  -- so is each entry with which an answer is heard
  entry_heard : (e : LogEntry) (b : Note) → move w s e ≡ Hears b → IsAnswerOf w s e b
  entry_heard (Sent from to bytes) b h = absurd (sent_hears from to bytes (role_heard w bytes) b h)
  entry_heard (Got at from bytes) b h =
      let g = got_hears at from (role_heard w bytes) b h in
      got_is at from bytes b (same_is at w.master g.0) (same_is from (w.slave s) g.1) g.2
  entry_heard (Idle at) b h = absurd (rest_hears (same at (w.slave s)) b h)
  entry_heard (Turn at) b h = absurd (turn_hears (same at (w.slave s)) b h)

-- ---- numbers

-- what decides the newest request has its number
newest_number : (o : ℕ) (a r : Note) (rs rest : List Note) (ds : List DecidedRequest) → rs ≡ r ∷ rest → r.number ≡ length rest % 65536 → length rs ≡ o + 1 → decides a rs ds ≡ true → a.number ≡ o % 65536
newest_number o a r rs rest ds is num l d = grind (arith, nat_tests)

-- an entry adds requests and takes none away
one_asked : (k : Option Note) (ns : List Note) → length (by_ordinal ns) ≤ length (by_ordinal (cons_option k ns))
one_asked None ns = omega arith
one_asked (Some n) ns = grind (arith, nat_tests)

-- the answer to the open request decides it
decided_here : (a r : Note) (o : ℕ) (rs rest : List Note) (ds : List DecidedRequest) → rs ≡ r ∷ rest → length rs ≡ o + 1 → length ds ≡ o → has_newest_number a rs ≡ true
    → at_ordinal (if decides a rs ds then with_newest rs a ds else ds) o ≡ Some (record { request = r; answer = a })
decided_here a r o rs rest ds is l d num = grind (arith, nat_tests)

-- an answer with the ordinal of the newest request has its number
has_number : (a r : Note) (rs rest : List Note) (o : ℕ) → rs ≡ r ∷ rest → r.number ≡ length rest % 65536 → length rs ≡ o + 1 → a.number ≡ o % 65536 → has_newest_number a rs ≡ true
has_number a r rs rest o is num l h = grind (arith, nat_tests)

module _ (w : Parties) (s : ℕ) (is : IsSlaveOf w s) (apart : PartiesApart w) where
  -- the requests are numbered in order, and all but one are decided at least
  pub record IsOrdered (log : List LogEntry) : Type 0 where
    pub regular : IsRegularChannel (sends_in w (Requests s) log)
    pub most : length (decided_exchanges w s log) ≤ length (requests_sent w s log)
    pub least : length (requests_sent w s log) ≤ length (decided_exchanges w s log) + 1

  -- at each moment so far
  abbrev pub AllOrdered : List LogEntry → Type 0
  AllOrdered [] = Unit {0}
  AllOrdered (e ∷ log) = IsOrdered log × AllOrdered log

  -- the same of an earlier moment
  earlier_ordered : (later log : List LogEntry) → AllOrdered (later ++ log) → AllOrdered log
  earlier_ordered [] log h = h
  earlier_ordered (e ∷ later) log h = earlier_ordered later log h.1

  -- what is decided stays so
  pub kept : (later log : List LogEntry) (o : ℕ) (y : DecidedRequest) → at_ordinal (decided_exchanges w s log) o ≡ Some y → at_ordinal (decided_exchanges w s (later ++ log)) o ≡ Some y
  kept [] log o y at = at
  kept (e ∷ later) log o y at =
      let g = grows (move w s e) (requests_sent w s (later ++ log)) (decided_exchanges w s (later ++ log)) in
      let P : List DecidedRequest → Type 0 = λ l. at_ordinal l o ≡ Some y in
      subst P (sym g.1) (stands_behind g.0 (decided_exchanges w s (later ++ log)) o y (kept later log o y at))

  -- where an answer is heard nothing is asked
  same_requests : (e : LogEntry) (log : List LogEntry) (b : Note) → move w s e ≡ Hears b → requests_sent w s (e ∷ log) ≡ requests_sent w s log
  same_requests e log b h = ap (λ k. by_ordinal (cons_option k (sends_in w (Requests s) log))) (requests_by_move w s e ∙ ap asked h)

  -- what decides has the number of the ordinal
  decides_number : (log : List LogEntry) → IsOrdered log → (o : ℕ) (b : Note) → length (requests_sent w s log) ≡ o + 1 → decides b (requests_sent w s log) (decided_exchanges w s log) ≡ true → b.number ≡ o % 65536
  decides_number log k o b l d =
      let last = last_of (sends_in w (Requests s) log) k.regular (omega arith) in
      newest_number o b last.0 (requests_sent w s log) last.1 (decided_exchanges w s log) last.2 last.3 l d

  -- where a request is decided, an answer to it was heard
  heard_before : (log : List LogEntry) → AllOrdered log → (o : ℕ) → length (requests_sent w s log) ≡ o + 1 → o < length (decided_exchanges w s log) → (b : Note) × IsHeard w s o b log
  heard_before [] h o l d = absurd (omega arith)
  heard_before (e ∷ log) h o l d = by (λ l' d'. heard_before log h.1 o l' d') (cases_lt o (length (decided_exchanges w s log)))
    where
      le : length (decided_exchanges w s log) ≤ length (requests_sent w s log)
      le = (h.0).most

      before : (length (requests_sent w s log) ≡ o + 1 → o < length (decided_exchanges w s log) → (c : Note) × IsHeard w s o c log) → o < length (decided_exchanges w s log) → (c : Note) × IsHeard w s o c (e ∷ log)
      before f lt =
          let r = f (omega (arith, le, one_asked (sent_in w (Requests s) e) (sends_in w (Requests s) log))) lt in
          (r.0, record { later = e ∷ (r.1).later; earlier = (r.1).earlier; bytes = (r.1).bytes; is = ap (λ xs. e ∷ xs) {y = (r.1).later ++ Got w.master (w.slave s) (r.1).bytes ∷ (r.1).earlier} (r.1).is; read = (r.1).read; asked = (r.1).asked; number = (r.1).number })

      now : length (decided_exchanges w s log) ≤ o → (c : Note) × IsHeard w s o c (e ∷ log)
      now ge =
          let g = grows_by (move w s e) (requests_sent w s log) (decided_exchanges w s log) (omega arith) in
          let same' = same_requests e log g.0 g.1 in
          let asked' : length (requests_sent w s log) ≡ o + 1 = omega (arith, ap length same') in
          let a = entry_heard w s e g.0 g.1 in
          (g.0, record { later = []; earlier = log; bytes = a.bytes; is = ap (λ z. z ∷ log) a.is; read = a.read; asked = asked'; number = decides_number log h.0 o g.0 asked' g.2 })

      by : (length (requests_sent w s log) ≡ o + 1 → o < length (decided_exchanges w s log) → (c : Note) × IsHeard w s o c log) → (o < length (decided_exchanges w s log)) ⊎ (length (decided_exchanges w s log) ≤ o) → (c : Note) × IsHeard w s o c (e ∷ log)
      by f (inl lt) = before f lt
      by f (inr ge) = now ge

  -- an answer of the slave at the master is heard
  master_hears : (bytes : List ℕ) (a : Note) → role_heard w bytes ≡ Answer s a → move w s (Got w.master (w.slave s) bytes) ≡ Hears a
  master_hears bytes a r = ap (got_move w s w.master (w.slave s)) r ∙ by (same w.master (w.slave s)) refl
    where
      by : (b : Bool) → same w.master (w.slave s) ≡ b → (if b then Rests else (if (same w.master w.master && same (w.slave s) (w.slave s)) && (s == s) then Hears a else Other)) ≡ Hears a
      by true e = absurd (apart.master s is (sym (same_is w.master (w.slave s) e)))
      by false e = heard_part a false (same w.master w.master) (same (w.slave s) (w.slave s)) (s == s) refl (same_self w.master) (same_self (w.slave s)) (eq-eqb s s refl)

  -- the first answer to a request decides it
  at_heard : (log : List LogEntry) (bytes : List ℕ) (o : ℕ) (a : Note) → AllOrdered (Got w.master (w.slave s) bytes ∷ log) → role_heard w bytes ≡ Answer s a → length (requests_sent w s log) ≡ o + 1 → a.number ≡ o % 65536 → ((b : Note) → IsHeard w s o b log → ⊥)
      → (y : DecidedRequest) × (at_ordinal (decided_exchanges w s (Got w.master (w.slave s) bytes ∷ log)) o ≡ Some y) × (y.answer ≡ a)
  at_heard log bytes o a h r asked' num first =
      let last = last_of (sends_in w (Requests s) log) (h.0).regular (omega arith) in
      let few : length (decided_exchanges w s log) ≤ o = fewer (cases_lt o (length (decided_exchanges w s log))) in
      let P : Move → Type 0 = λ mv. at_ordinal (decided_after mv (requests_sent w s log) (decided_exchanges w s log)) o ≡ Some (record { request = last.0; answer = a }) in
      let at = decided_here a last.0 o (requests_sent w s log) last.1 (decided_exchanges w s log) last.2 asked' (omega (arith, (h.0).least)) (has_number a last.0 (requests_sent w s log) last.1 o last.2 last.3 asked' num) in
      (record { request = last.0; answer = a }, subst P (sym (master_hears bytes a r)) at, refl)
    where
      fewer : (o < length (decided_exchanges w s log)) ⊎ (length (decided_exchanges w s log) ≤ o) → length (decided_exchanges w s log) ≤ o
      fewer (inl lt) = let g = heard_before log h.1 o asked' lt in absurd (first g.0 g.1)
      fewer (inr le) = le

  -- the deciding answer of a request is that of its exchange
  pub decided_by : (log : List LogEntry) → AllOrdered log → (o : ℕ) (a : Note) → IsDeciding w s o a log → (e : DecidedRequest) × (at_ordinal (decided_exchanges w s log) o ≡ Some e) × (e.answer ≡ a)
  decided_by log b o a d =
      let e = Got w.master (w.slave s) d.heard.bytes in
      let P : List LogEntry → Type 0 = AllOrdered in
      let y = at_heard d.heard.earlier d.heard.bytes o a (earlier_ordered d.heard.later (e ∷ d.heard.earlier) (subst P d.heard.is b)) d.heard.read d.heard.asked d.heard.number d.first in
      let Q : List LogEntry → Type 0 = λ l. at_ordinal (decided_exchanges w s l) o ≡ Some y.0 in
      (y.0, subst Q (sym d.heard.is) (kept d.heard.later (e ∷ d.heard.earlier) o y.0 y.1), y.2)
