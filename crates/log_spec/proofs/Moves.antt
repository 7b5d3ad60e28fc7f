-- Entries, moves and channels.
use Rattle.std.proofs.Common.{◌≡◌, ℕ, Bool, true, false, if◌then◌else◌, Option, Some, None, List, ◌∷◌, ◌++◌, refl, sym, ap, ◌∙◌, subst, arith}
use Rattle.std.specs.Prelude.{◌==◌, ◌&&◌}
use Rattle.std.proofs.lemmas.Bool.{eqb-true, eq-eqb, and_parts, and_from}
use Rattle.std.proofs.lemmas.Bool.Decides.{nat_tests}
use Rattle.std.proofs.lemmas.List.Elements.{filter_map-append}
use Rattle.dcp_types.specs.declared.addresses.Address.{Address}
use Rattle.log_spec.specs.Messages.{Note, Role, Request, Answer, Value, Else, answer_in}
use Rattle.log_spec.specs.Channel.{number_changes, by_ordinal, IsRegularChannel}
use Rattle.dcp_ends.specs.declared.entries.LogEntry.{LogEntry}
use Rattle.dcp_ends.specs.declared.entries.LogEntry.TheVariants.{Sent, Got, Idle, Turn}
use Rattle.log_spec.specs.Log.{Parties, same, role_heard, Channel, Requests, Answers, in_channel, sent_in, sends_in}
use Rattle.log_spec.specs.Honest.{IsRepeatedNewest, MayStandNewest}
use Rattle.log_spec.specs.Moves.{Move, Asks, Comes, Tells, Hears, Brings, Turns, Rests, Other, sent_move, got_move, move}
use Rattle.log_spec.proofs.Channel.{IsAt, comes}

pub same_is : (a b : Address) → same a b ≡ true → a ≡ b
unfolding same
same_is a b h = let p = and_parts (a.ip == b.ip) (a.port == b.port) h in let i = eqb-true a.ip b.ip p.0 in let q = eqb-true a.port b.port p.1 in λ k. record { ip = i k; port = q k }

pub same_self : (a : Address) → same a a ≡ true
unfolding same
same_self a = and_from (a.ip == a.ip) (a.port == a.port) (eq-eqb a.ip a.ip refl) (eq-eqb a.port a.port refl)

abbrev pub asked : Move → Option Note
asked (Asks n) = Some n
asked (Comes from receiver n) = None
asked (Tells to bytes) = None
asked (Hears n) = None
asked (Brings from id n) = None
asked Turns = None
asked Rests = None
asked Other = None

abbrev pub told : (List ℕ → Option Note) → Move → Option Note
told f (Asks n) = None
told f (Comes from receiver n) = None
told f (Tells to bytes) = f bytes
told f (Hears n) = None
told f (Brings from id n) = None
told f Turns = None
told f Rests = None
told f Other = None

module _ (w : Parties) (s : ℕ) where
  -- a channel's send, by the move
  requests_part : (from to : Address) (bytes : List ℕ) (k : Role) → in_channel w (Requests s) from to k ≡ asked (sent_move w s from to bytes k)
  requests_part from to bytes k = grind (arith, nat_tests)

  got_asked : (at from : Address) (k : Role) → None ≡ asked (got_move w s at from k)
  got_asked at from k = grind (arith, nat_tests)

  pub requests_by_move : (e : LogEntry) → sent_in w (Requests s) e ≡ asked (move w s e)
  requests_by_move (Sent from to bytes) = requests_part from to bytes (role_heard w bytes)
  requests_by_move (Got at from bytes) = got_asked at from (role_heard w bytes)
  requests_by_move (Idle at) = grind arith
  requests_by_move (Turn at) = grind arith

  answers_part : (from to : Address) (bytes : List ℕ) (k : Role) → role_heard w bytes ≡ k → in_channel w (Answers s) from to k ≡ told (λ b. answer_in (role_heard w b)) (sent_move w s from to bytes k)
  answers_part from to bytes (Request receiver n) e = by (same from w.master && same to (w.slave s)) (same from (w.slave s))
    where
      by : (b c : Bool) → None ≡ told (λ b. answer_in (role_heard w b)) (if b then Asks n else (if c then Tells to bytes else Other))
      by true c = refl
      by false true = sym (ap answer_in e)
      by false false = refl
  answers_part from to bytes (Answer sender n) e = by (same from (w.slave s))
    where
      by : (c : Bool) → (if c then Some n else None) ≡ told (λ b. answer_in (role_heard w b)) (if c then Tells to bytes else Other)
      by true = sym (ap answer_in e)
      by false = refl
  answers_part from to bytes (Value id n) e = by (same from (w.slave s))
    where
      by : (c : Bool) → None ≡ told (λ b. answer_in (role_heard w b)) (if c then Tells to bytes else Other)
      by true = sym (ap answer_in e)
      by false = refl
  answers_part from to bytes Else e = by (same from (w.slave s))
    where
      by : (c : Bool) → None ≡ told (λ b. answer_in (role_heard w b)) (if c then Tells to bytes else Other)
      by true = sym (ap answer_in e)
      by false = refl

  got_told : (f : List ℕ → Option Note) (at from : Address) (k : Role) → None ≡ told f (got_move w s at from k)
  got_told f at from k = grind (arith, nat_tests)

  pub answers_by_move : (e : LogEntry) → sent_in w (Answers s) e ≡ told (λ b. answer_in (role_heard w b)) (move w s e)
  answers_by_move (Sent from to bytes) = answers_part from to bytes (role_heard w bytes) refl
  answers_by_move (Got at from bytes) = got_told (λ b. answer_in (role_heard w b)) at from (role_heard w bytes)
  answers_by_move (Idle at) = grind arith
  answers_by_move (Turn at) = grind arith

-- a datagram that was read so comes, and repeats a Sent
pub record Came (w : Parties) (log : List LogEntry) (at from : Address) (k : Role) : Type 0 where
  pub bytes : List ℕ
  pub read : role_heard w bytes ≡ k
  pub repeated : IsRepeatedNewest w log at from bytes

module _ (w : Parties) (s : ℕ) (log : List LogEntry) where
  -- what honesty says of a move
  abbrev pub MoveMay : Move → Type 0
  MoveMay (Asks n) = Unit {0}
  MoveMay (Comes from receiver n) = Came w log (w.slave s) from (Request receiver n)
  MoveMay (Tells to bytes) = Unit {0}
  MoveMay (Hears n) = Came w log w.master (w.slave s) (Answer s n)
  MoveMay (Brings from id n) = Came w log (w.slave s) from (Value id n)
  MoveMay Turns = Unit {0}
  MoveMay Rests = Unit {0}
  MoveMay Other = Unit {0}

  sent_may : (from to : Address) (bytes : List ℕ) (k : Role) → MoveMay (sent_move w s from to bytes k)
  sent_may from to bytes k = grind (arith, nat_tests)

  moved_at : (at at' from : Address) (k : Role) → at ≡ at' → Came w log at from k → Came w log at' from k
  moved_at at at' from k e c = let P : Address → Type 0 = λ a. Came w log a from k in subst P e c

  moved_from : (at from from' : Address) (k : Role) → from ≡ from' → Came w log at from k → Came w log at from' k
  moved_from at from from' k e c = let P : Address → Type 0 = λ a. Came w log at a k in subst P e c

  got_may : (at from : Address) (k : Role) → Came w log at from k → MoveMay (got_move w s at from k)
  got_may at from (Request receiver n) c = by (same at (w.slave s)) refl
    where
      by : (b : Bool) → same at (w.slave s) ≡ b → MoveMay (if b then Comes from receiver n else Other)
      by true e = moved_at at (w.slave s) from (Request receiver n) (same_is at (w.slave s) e) c
      by false e = tt
  got_may at from (Answer sender n) c = by (same at (w.slave s)) (same at w.master) (same from (w.slave s)) (sender == s) refl refl refl
    where
      by : (b x y z : Bool) → same at w.master ≡ x → same from (w.slave s) ≡ y → (sender == s) ≡ z → MoveMay (if b then Rests else (if (x && y) && z then Hears n else Other))
      by true x y z p q r = tt
      by false true true true p q r =
          let P : ℕ → Type 0 = λ i. Came w log w.master (w.slave s) (Answer i n) in
          subst P (eqb-true sender s r) (moved_from w.master from (w.slave s) (Answer sender n) (same_is from (w.slave s) q) (moved_at at w.master from (Answer sender n) (same_is at w.master p) c))
      by false false y z p q r = tt
      by false true false z p q r = tt
      by false true true false p q r = tt
  got_may at from (Value id n) c = by (same at (w.slave s)) refl
    where
      by : (b : Bool) → same at (w.slave s) ≡ b → MoveMay (if b then Brings from id n else Other)
      by true e = moved_at at (w.slave s) from (Value id n) (same_is at (w.slave s) e) c
      by false e = tt
  got_may at from Else c = by (same at (w.slave s))
    where
      by : (b : Bool) → MoveMay (if b then Rests else Other)
      by true = tt
      by false = tt

  pub honest_move : (e : LogEntry) → MayStandNewest w e log → MoveMay (move w s e)
  honest_move (Sent from to bytes) h = sent_may from to bytes (role_heard w bytes)
  honest_move (Got at from bytes) h = got_may at from (role_heard w bytes) (record { bytes = bytes; read = refl; repeated = h })
  honest_move (Idle at) h = grind arith
  honest_move (Turn at) h = grind arith

module _ (w : Parties) where
  -- what comes in a channel is what stands at one of its last ordinals
  pub comes_in : (c : Channel) (log : List LogEntry) (at from : Address) (k : Role) (n : Note) → in_channel w c from at k ≡ Some n → IsRegularChannel (sends_in w c log) → Came w log at from k → IsAt (by_ordinal (sends_in w c log)) n
  comes_in c log at from k n here reg came =
      let rep = came.repeated in
      let s = Sent from at came.bytes in
      let in' : sent_in w c s ≡ Some n = ap (in_channel w c from at) came.read ∙ here in
      let split : sends_in w c log ≡ sends_in w c rep.later ++ sends_in w c (s ∷ rep.earlier) = ap (sends_in w c) rep.is ∙ filter_map-append (sent_in w c) rep.later (s ∷ rep.earlier) in
      let first : sends_in w c (s ∷ rep.earlier) ≡ n ∷ sends_in w c rep.earlier = rw in' refl in
      let all : sends_in w c log ≡ sends_in w c rep.later ++ n ∷ sends_in w c rep.earlier = split ∙ ap (λ ns. sends_in w c rep.later ++ ns) first in
      let P : List Note → Type 0 = λ ns. IsAt (by_ordinal ns) n in
      subst P (sym all) (comes (sends_in w c rep.later) n (sends_in w c rep.earlier) (subst IsRegularChannel all reg) (omega (arith, rep.young c n in', ap number_changes all, ap number_changes first)))
