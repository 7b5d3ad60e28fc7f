-- A log is timely where a test of it says so. The log has its oldest entry first here, but where a definition has it turned.
use Rattle.std.proofs.Common.{◌≡◌, ℕ, zero, suc, ◌+◌, ◌<◌, ◌≤◌, Bool, true, false, not, if◌then◌else◌, min, Option, Some, None, List, [], ◌∷◌, reverse, refl, sym, ap, ◌∙◌, subst, arith}
use Rattle.std.specs.Prelude.{◌&&◌, ◌||◌, nat_lt, is_some, slice_get}
use Rattle.std.specs.List.{list_all}
use Rattle.std.proofs.lemmas.Bool.{ltb-true}
use Rattle.std.proofs.lemmas.List.{reverse-reverse}
use Rattle.dcp_types.specs.declared.addresses.Address.{Address}
use Rattle.dcp_ends.specs.declared.entries.LogEntry.{LogEntry}
use Rattle.dcp_ends.specs.declared.entries.LogEntry.TheVariants.{Sent, Got, Idle, Turn}
use Rattle.master_spec.specs.declared.reports.Report.{Report}
use Rattle.master_spec.specs.declared.setups.Slave.{Slave}
use Rattle.master_spec.specs.declared.setups.Setup.{Setup}
use Rattle.master_spec.specs.News.{News, Answers, Hints, Brings, Nothing, news_of}
use Rattle.master_spec.specs.Requests.{Asking, Decision, asks, turns_between, turns_after}
use Rattle.master_spec.specs.Exchanged.{entry_at}
use Rattle.master_log_laws.specs.Index.Runs.{course_at}
use Rattle.completeness_laws.specs.Timely.{Timely, IsGotAfter, ComesInTime, IsAnsweredInTime}
use Rattle.witness_laws.proofs.Runs.Standing.{both_true, same_datagram, is_same}

less : (a b : ℕ) → nat_lt a b ≡ true → a < b
less a b h = ltb-true a b h

passes_at : {X : Type 0} (p : X → Bool) (xs : List X) (i : ℕ) (x : X) → list_all p xs ≡ true → slice_get xs i ≡ Some x → p x ≡ true
passes_at p [] i x h e = absurd cc
passes_at p (y ∷ ys) zero x h e = let same : y ≡ x = cc in ap p (sym same) ∙ (both_true (p y) (list_all p ys) h).0
passes_at p (y ∷ ys) (suc i) x h e = passes_at p ys i x (both_true (p y) (list_all p ys) h).1 e

-- ---- where a datagram comes
abbrev pub is_this_got : (at from : Address) (bytes : List ℕ) → LogEntry → Bool
is_this_got at from bytes (Got a f bs) = same_datagram at from bytes a f bs
is_this_got at from bytes (Sent f t bs) = false
is_this_got at from bytes (Idle a) = false
is_this_got at from bytes (Turn a) = false

this_got : (at from : Address) (bytes : List ℕ) (e : LogEntry) → is_this_got at from bytes e ≡ true → e ≡ Got at from bytes
this_got at from bytes (Got a f bs) h = let s = is_same at from bytes a f bs h in let x = s.from_is in let y = s.to_is in let z = s.bytes_is in cc
this_got at from bytes (Sent f t bs) h = absurd cc
this_got at from bytes (Idle a) h = absurd cc
this_got at from bytes (Turn a) h = absurd cc

-- the first place at which it comes, in what begins at a place
abbrev pub got_place : (place : ℕ) → (at from : Address) (bytes : List ℕ) → List LogEntry → Option ℕ
got_place place at from bytes [] = None
got_place place at from bytes (e ∷ log) = if is_this_got at from bytes e then Some place else got_place (place + 1) at from bytes log

record ComesAt (place : ℕ) (at from : Address) (bytes : List ℕ) (log : List LogEntry) (found : ℕ) : Type 0 where
  pub more : ℕ
  pub is : found ≡ place + more
  pub there : slice_get log more ≡ Some (Got at from bytes)

comes_at : (place : ℕ) (at from : Address) (bytes : List ℕ) (log : List LogEntry) (found : ℕ) → got_place place at from bytes log ≡ Some found → ComesAt place at from bytes log found
comes_at place at from bytes [] found h = absurd cc
comes_at place at from bytes (e ∷ log) found h = by (comes_at (place + 1) at from bytes log found) (is_this_got at from bytes e) refl h
  where
    by : (got_place (place + 1) at from bytes log ≡ Some found → ComesAt (place + 1) at from bytes log found)
        → (b : Bool) → is_this_got at from bytes e ≡ b → (if b then Some place else got_place (place + 1) at from bytes log) ≡ Some found → ComesAt place at from bytes (e ∷ log) found
    by later true i k = let same : place ≡ found = cc in record { more = 0; is = omega (arith, same); there = ap (λ (x : LogEntry). Some x) (this_got at from bytes e i) }
    by later false i k = let c = later k in record { more = suc c.more; is = omega (arith, c.is); there = c.there }

-- ---- the test of an entry at its place, before the rest of the log
abbrev pub brings_values : News → Bool
brings_values (Brings number id payload) = true
brings_values (Answers number sender answer) = false
brings_values (Hints sender) = false
brings_values Nothing = false

abbrev pub is_soon : Setup → List LogEntry → (sent : ℕ) → Option ℕ → Bool
is_soon setup log sent None = false
is_soon setup log sent (Some found) = nat_lt (turns_between setup.address (reverse log) sent found) (min setup.limits.retry_turns setup.limits.data_turns)

abbrev pub is_sent_in_time : Setup → List LogEntry → (place : ℕ) → (bytes : List ℕ) → Option ℕ → Bool
is_sent_in_time setup log place bytes found =
    (not (brings_values (news_of bytes)) || is_soon setup log place found) && (nat_lt (turns_after setup.address (reverse log) place) 2 || is_some found)

abbrev pub is_in_time : Setup → List LogEntry → (place : ℕ) → LogEntry → List LogEntry → Bool
is_in_time setup log place (Sent from to bytes) rest = is_sent_in_time setup log place bytes (got_place (place + 1) to from bytes rest)
is_in_time setup log place (Got at from bytes) rest = true
is_in_time setup log place (Idle at) rest = true
is_in_time setup log place (Turn at) rest = true

abbrev pub are_in_time : Setup → List LogEntry → (place : ℕ) → List LogEntry → Bool
are_in_time setup log place [] = true
are_in_time setup log place (e ∷ rest) = is_in_time setup log place e rest && are_in_time setup log (place + 1) rest

module _ (setup : Setup) (log : List LogEntry) where
  -- what follows of a send
  record IsSentInTime (place : ℕ) (from to : Address) (bytes : List ℕ) : Type 0 where
    pub value : (number id : ℕ) (payload : List ℕ) → news_of bytes ≡ Brings number id payload → ComesInTime setup (reverse log) place from to bytes
    pub comes : 2 ≤ turns_after setup.address (reverse log) place → IsGotAfter (reverse log) place from to bytes

  -- the rest of the log begins at the place
  abbrev StandsAt : ℕ → List LogEntry → Type 0
  StandsAt place rest = (n : ℕ) → slice_get log (place + n) ≡ slice_get rest n

  found_there : (place : ℕ) (from to : Address) (bytes : List ℕ) (rest : List LogEntry) → StandsAt (place + 1) rest → (found : ℕ) → got_place (place + 1) to from bytes rest ≡ Some found
      → (place < found) × (entry_at (reverse log) found ≡ Some (Got to from bytes))
  found_there place from to bytes rest s found g =
      let c = comes_at (place + 1) to from bytes rest found g in
      (omega (arith, c.is), ap (λ (l : List LogEntry). slice_get l found) (reverse-reverse log) ∙ ap (slice_get log) c.is ∙ s c.more ∙ c.there)

  sent_in_time : (place : ℕ) (from to : Address) (bytes : List ℕ) (rest : List LogEntry) → StandsAt (place + 1) rest → is_in_time setup log place (Sent from to bytes) rest ≡ true → IsSentInTime place from to bytes
  sent_in_time place from to bytes rest s h = by (got_place (place + 1) to from bytes rest) refl h
    where
      here : (found : ℕ) → got_place (place + 1) to from bytes rest ≡ Some found → IsGotAfter (reverse log) place from to bytes
      here found g = let z = found_there place from to bytes rest s found g in record { place = found; later = z.0; got = z.1 }

      soon : (found : ℕ) (g : got_place (place + 1) to from bytes rest ≡ Some found) → is_soon setup log place (Some found) ≡ true → ComesInTime setup (reverse log) place from to bytes
      soon found g k = record { came = here found g; soon = less (turns_between setup.address (reverse log) place found) (min setup.limits.retry_turns setup.limits.data_turns) k }

      valued : (o : Option ℕ) → got_place (place + 1) to from bytes rest ≡ o → (b : Bool) → brings_values (news_of bytes) ≡ b → b ≡ true → (not b || is_soon setup log place o) ≡ true → ComesInTime setup (reverse log) place from to bytes
      valued o g false e t k = absurd cc
      valued None g true e t k = absurd cc
      valued (Some found) g true e t k = soon found g k

      coming : (o : Option ℕ) → got_place (place + 1) to from bytes rest ≡ o → (b : Bool) → nat_lt (turns_after setup.address (reverse log) place) 2 ≡ b → (b || is_some o) ≡ true → 2 ≤ turns_after setup.address (reverse log) place → IsGotAfter (reverse log) place from to bytes
      coming o g true e k two = let l = less (turns_after setup.address (reverse log) place) 2 e in absurd (omega (arith, l, two))
      coming None g false e k two = absurd cc
      coming (Some found) g false e k two = here found g

      by : (o : Option ℕ) → got_place (place + 1) to from bytes rest ≡ o → is_sent_in_time setup log place bytes o ≡ true → IsSentInTime place from to bytes
      by o g k =
          let z = both_true (not (brings_values (news_of bytes)) || is_soon setup log place o) (nat_lt (turns_after setup.address (reverse log) place) 2 || is_some o) k in
          record {
            value = λ number id payload n. valued o g (brings_values (news_of bytes)) refl (ap brings_values n) z.0;
            comes = λ two. coming o g (nat_lt (turns_after setup.address (reverse log) place) 2) refl z.1 two;
          }

  next_stands : (place : ℕ) (e : LogEntry) (rest : List LogEntry) → StandsAt place (e ∷ rest) → StandsAt (place + 1) rest
  next_stands place e rest s n = ap (slice_get log) (omega arith) ∙ s (suc n)

  each_in_time : (place : ℕ) (rest : List LogEntry) → StandsAt place rest → are_in_time setup log place rest ≡ true
      → (n : ℕ) (from to : Address) (bytes : List ℕ) → slice_get rest n ≡ Some (Sent from to bytes) → IsSentInTime (place + n) from to bytes
  each_in_time place [] s h n from to bytes e = absurd cc
  each_in_time place (x ∷ rest) s h zero from to bytes e =
      let z = both_true (is_in_time setup log place x rest) (are_in_time setup log (place + 1) rest) h in
      let same : x ≡ Sent from to bytes = cc in
      subst (λ (p : ℕ). IsSentInTime p from to bytes) (omega arith)
      (sent_in_time place from to bytes rest (next_stands place x rest s) (ap (λ (k : LogEntry). is_in_time setup log place k rest) (sym same) ∙ z.0))
  each_in_time place (x ∷ rest) s h (suc n) from to bytes e =
      let z = both_true (is_in_time setup log place x rest) (are_in_time setup log (place + 1) rest) h in
      subst (λ (p : ℕ). IsSentInTime p from to bytes) (omega arith) (each_in_time (place + 1) rest (next_stands place x rest s) z.1 n from to bytes e)

  all_in_time : are_in_time setup log 0 log ≡ true → (i : ℕ) (from to : Address) (bytes : List ℕ) → entry_at (reverse log) i ≡ Some (Sent from to bytes) → IsSentInTime i from to bytes
  all_in_time h i from to bytes e =
      let there : slice_get log i ≡ Some (Sent from to bytes) = ap (λ (l : List LogEntry). slice_get l i) (sym (reverse-reverse log)) ∙ e in
      subst (λ (p : ℕ). IsSentInTime p from to bytes) (omega arith) (each_in_time 0 log (λ n. ap (slice_get log) (omega arith)) h i from to bytes there)

  -- ---- requests
  abbrev is_decided_soon : (first : ℕ) → Option Decision → Bool
  is_decided_soon first None = false
  is_decided_soon first (Some d) = nat_lt (turns_between setup.address (reverse log) first d.place) setup.limits.turn_limit

  abbrev pub is_answered_soon : Asking → Bool
  is_answered_soon a = is_decided_soon a.first a.decision

  abbrev pub are_answered : Slave → Bool
  are_answered slave = list_all is_answered_soon (asks setup.address slave (reverse log))

  answered_in_time : (a : Asking) → is_answered_soon a ≡ true → IsAnsweredInTime setup (reverse log) a
  answered_in_time a h = by a.decision refl h
    where
      by : (o : Option Decision) → a.decision ≡ o → is_decided_soon a.first o ≡ true → IsAnsweredInTime setup (reverse log) a
      by None e k = absurd cc
      by (Some d) e k = record { answer = d; told = e; soon = less (turns_between setup.address (reverse log) a.first d.place) setup.limits.turn_limit k }

  pub is_timely : (report : Report) → (course_at setup (reverse log)).report ≡ Some report → list_all are_answered setup.slaves ≡ true → are_in_time setup log 0 log ≡ true → Timely setup (reverse log)
  is_timely report reported answers times = record {
    report = report;
    reported = reported;
    answers = λ slave i n a g. answered_in_time a (passes_at is_answered_soon (asks setup.address slave (reverse log)) n a (passes_at are_answered setup.slaves i.0 slave answers i.1) g);
    values = λ i from to bytes e. (all_in_time times i from to bytes e).value;
    all = λ i from to bytes e. (all_in_time times i from to bytes e).comes;
  }
