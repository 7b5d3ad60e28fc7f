-- What a slave has taken was asked in order.
use Rattle.std.proofs.Common.{◌≡◌, ℕ, ◌+◌, ◌≤◌, Bool, true, false, if◌then◌else◌, inl, inr, Option, List, [], ◌∷◌, length, refl, sym, ap, ◌∙◌, subst, arith}
use Rattle.std.specs.List.{cons_option}
use Rattle.std.proofs.lemmas.Bool.Decides.{nat_tests}
use Rattle.log_spec.specs.Messages.{Note}
use Rattle.log_spec.specs.Channel.{by_ordinal, IsRegularChannel}
use Rattle.dcp_ends.specs.declared.entries.LogEntry.{LogEntry}
use Rattle.log_spec.specs.Log.{Parties, IsSlaveOf, Requests, sends_in, requests_sent, DecidedRequest}
use Rattle.log_spec.specs.Moves.{Move, Asks, Comes, Tells, Hears, Brings, Turns, Rests, Other, move, decides, with_newest, decided_after, decided_exchanges}
use Rattle.log_spec.proofs.Channel.{grown_again, grown_next}
use Rattle.log_spec.proofs.Moves.{asked, requests_by_move}
use Rattle.lockstep_laws.specs.Master.{MasterMay}
use Rattle.lockstep_laws.specs.Cast.{ConversingSlaves}
use Rattle.lockstep_laws.specs.Runs.{AreSlaves, Behaves}
use Rattle.lockstep_laws.specs.Asked.{AskedAsPlanned}
use Rattle.lockstep_laws.proofs.Talk.{Behind, requests_of, taken_length}
use Rattle.lockstep_laws.proofs.Conversation.{earlier, known}
use Rattle.lockstep_laws.proofs.Places.{open_newest}

abbrev NewestMay : (List DecidedRequest → Note → Bool) → List Note → List DecidedRequest → Type 0
NewestMay may [] ds = ⊥
NewestMay may (r ∷ rs) ds = may ds r ≡ true

pub record Ordered (may : List DecidedRequest → Note → Bool) (rs : List Note) (ds : List DecidedRequest) : Type 0 where
  pub all : AskedAsPlanned may ds
  pub newest : length rs ≡ length ds + 1 → NewestMay may rs ds

module _ (may : List DecidedRequest → Note → Bool) where
  decided_one : (a r : Note) (rest : List Note) (ds : List DecidedRequest) → length (r ∷ rest) ≡ length ds + 1 → Ordered may (r ∷ rest) ds → Ordered may (r ∷ rest) (record { request = r; answer = a } ∷ ds)
  decided_one a r rest ds one o = record { all = (o.newest one, o.all); newest = λ l. absurd (closed l) }
    where
      closed : length (r ∷ rest) ≡ length (record { request = r; answer = a } ∷ ds) + 1 → ⊥
      closed l = let more : length (record { request = r; answer = a } ∷ ds) ≡ length ds + 1 = omega arith in omega (arith, one, l, more)

  hears : (a : Note) (rs : List Note) (ds : List DecidedRequest) → length rs ≤ length ds + 1 → Ordered may rs ds → Ordered may rs (if decides a rs ds then with_newest rs a ds else ds)
  hears a [] ds le o = by (decides a [] ds)
    where
      by : (b : Bool) → Ordered may [] (if b then ds else ds)
      by true = o
      by false = o
  hears a (r ∷ rest) ds le o = by (decides a (r ∷ rest) ds) refl
    where
      one : decides a (r ∷ rest) ds ≡ true → length (r ∷ rest) ≡ length ds + 1
      one d = grind (arith, nat_tests, d, le)

      by : (b : Bool) → decides a (r ∷ rest) ds ≡ b → Ordered may (r ∷ rest) (if b then (record { request = r; answer = a } ∷ ds) else ds)
      by true e = decided_one a r rest ds (one e) o
      by false e = o

module _ (w : Parties) (x : ConversingSlaves) (s : ℕ) where
  ordered_by : (log : List LogEntry) (mv : Move) → MasterMay w x s mv log → IsRegularChannel (sends_in w (Requests s) log) → length (requests_sent w s log) ≤ length (decided_exchanges w s log) + 1 → Ordered (x.may s) (requests_sent w s log) (decided_exchanges w s log)
      → Ordered (x.may s) (by_ordinal (cons_option (asked mv) (sends_in w (Requests s) log))) (decided_after mv (requests_sent w s log) (decided_exchanges w s log))
  ordered_by log (Asks n) (inl rep) reg le o =
      let P : List Note → Type 0 = λ rs. Ordered (x.may s) rs (decided_exchanges w s log) in
      subst P (sym (grown_again n (sends_in w (Requests s) log) reg rep)) o
  ordered_by log (Asks n) (inr new) reg le o =
      let P : List Note → Type 0 = λ rs. Ordered (x.may s) rs (decided_exchanges w s log) in
      subst P (sym (grown_next n (sends_in w (Requests s) log) reg new.number)) (record { all = o.all; newest = λ l. new.may })
  ordered_by log (Comes from receiver n) m reg le o = o
  ordered_by log (Tells to bytes) m reg le o = o
  ordered_by log (Hears a) m reg le o = hears (x.may s) a (requests_sent w s log) (decided_exchanges w s log) le o
  ordered_by log (Brings from id n) m reg le o = o
  ordered_by log Turns m reg le o = o
  ordered_by log Rests m reg le o = o
  ordered_by log Other m reg le o = o

module _ (w : Parties) (x : ConversingSlaves) (ok : AreSlaves w x) (s : ℕ) (is : IsSlaveOf w s) where
  pub ordered : (log : List LogEntry) → Behaves w x log → Ordered (x.may s) (requests_sent w s log) (decided_exchanges w s log)
  ordered [] b = record { all = tt; newest = λ l. absurd (omega (arith, l)) }
  ordered (e ∷ log) b =
      let before = earlier w x ok e log b in
      let k = known w x ok s is log before in
      let o = ordered_by w x s log (move w s e) (b.master.0 s is) k.requests k.talk.asked (ordered log before) in
      let P : Option Note → Type 0 = λ n. Ordered (x.may s) (by_ordinal (cons_option n (sends_in w (Requests s) log))) (decided_exchanges w s (e ∷ log)) in
      subst P (sym (requests_by_move w s e)) o

  served_asked : (rs : List Note) (ds served : List DecidedRequest) → Behind (requests_of served) rs → Behind ds served → length rs ≤ length ds + 1 → Ordered (x.may s) rs ds → AskedAsPlanned (x.may s) served
  served_asked rs ds served b (inl e) le o = let P : List DecidedRequest → Type 0 = AskedAsPlanned (x.may s) in subst P e o.all
  served_asked rs ds served b (inr p) le o =
      let y = p.0 in
      let Q : List DecidedRequest → Type 0 = λ es. Behind (requests_of es) rs in
      let n = open_newest y rs ds (taken_length ds) (subst Q p.1 b) le in
      let N : List Note → Type 0 = λ l. NewestMay (x.may s) l ds in
      let P : List DecidedRequest → Type 0 = AskedAsPlanned (x.may s) in
      subst P (sym p.1) (subst N n (o.newest (ap length n ∙ omega (arith, taken_length ds))), o.all)

  pub asked_in_order : (log : List LogEntry) → Behaves w x log → AskedAsPlanned (x.may s) (x.desk s log).served
  asked_in_order log b =
      let k = known w x ok s is log b in
      served_asked (requests_sent w s log) (decided_exchanges w s log) (x.desk s log).served k.talk.taken k.talk.decided k.talk.asked (ordered log b)
