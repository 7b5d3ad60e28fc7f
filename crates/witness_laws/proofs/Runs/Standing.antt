-- A log in which each datagram that comes was sent before is honest, where it is short.
use Rattle.std.proofs.Common.{◌≡◌, ℕ, ◌+◌, ◌≤◌, Bool, true, false, if◌then◌else◌, Option, Some, None, List, [], ◌∷◌, ◌++◌, length, refl, sym, ap, ◌∙◌, subst, arith, append-nil, append_assoc, length-append}
use Rattle.std.specs.Prelude.{◌==◌, ◌&&◌, ◌||◌}
use Rattle.std.specs.List.{cons_option, list_any}
use Rattle.std.proofs.lemmas.Bool.{eqb-true}
use Rattle.dcp_types.specs.declared.addresses.Address.{Address}
use Rattle.dcp_ends.specs.declared.entries.LogEntry.{LogEntry}
use Rattle.dcp_ends.specs.declared.entries.LogEntry.TheVariants.{Sent, Got, Idle, Turn}
use Rattle.dcp_ends.specs.Logs.{same_address}
use Rattle.log_spec.specs.Messages.{Note}
use Rattle.log_spec.specs.Channel.{number_changes}
use Rattle.log_spec.specs.Log.{Parties, Channel, sent_in, sends_in}
use Rattle.log_spec.specs.Oldest.{IsRepeated, MayStand, Honest}

-- ---- tests of bytes and addresses
pub both_true : (a b : Bool) → (a && b) ≡ true → (a ≡ true) × (b ≡ true)
both_true true b h = (refl, h)
both_true false b h = absurd cc

abbrev pub same_bytes : List ℕ → List ℕ → Bool
same_bytes [] [] = true
same_bytes [] (b ∷ bs) = false
same_bytes (a ∷ as') [] = false
same_bytes (a ∷ as') (b ∷ bs) = (a == b) && same_bytes as' bs

bytes_are : (as' bs : List ℕ) → same_bytes as' bs ≡ true → as' ≡ bs
bytes_are [] [] h = refl
bytes_are [] (b ∷ bs) h = absurd cc
bytes_are (a ∷ as') [] h = absurd cc
bytes_are (a ∷ as') (b ∷ bs) h =
    let z = both_true (a == b) (same_bytes as' bs) h in
    let x : a ≡ b = eqb-true a b z.0 in
    let y : as' ≡ bs = bytes_are as' bs z.1 in cc

address_is : (a b : Address) → same_address a b ≡ true → a ≡ b
address_is a b h =
    let z = both_true (a.ip == b.ip) (a.port == b.port) h in
    ap (λ (n : ℕ). record { ip = n; port = a.port }) (eqb-true a.ip b.ip z.0) ∙ ap (λ (n : ℕ). record { ip = b.ip; port = n }) (eqb-true a.port b.port z.1)

abbrev pub same_datagram : (from to : Address) (bytes : List ℕ) → (f t : Address) (bs : List ℕ) → Bool
same_datagram from to bytes f t bs = same_address f from && (same_address t to && same_bytes bs bytes)

pub record IsSame (from to : Address) (bytes : List ℕ) (f t : Address) (bs : List ℕ) : Type 0 where
  pub from_is : f ≡ from
  pub to_is : t ≡ to
  pub bytes_is : bs ≡ bytes

pub is_same : (from to : Address) (bytes : List ℕ) (f t : Address) (bs : List ℕ) → same_datagram from to bytes f t bs ≡ true → IsSame from to bytes f t bs
is_same from to bytes f t bs h =
    let z = both_true (same_address f from) (same_address t to && same_bytes bs bytes) h in
    let y = both_true (same_address t to) (same_bytes bs bytes) z.1 in
    record { from_is = address_is f from z.0; to_is = address_is t to y.0; bytes_is = bytes_are bs bytes y.1 }

-- ---- what was sent
abbrev pub is_this_send : (from to : Address) (bytes : List ℕ) → LogEntry → Bool
is_this_send from to bytes (Sent f t bs) = same_datagram from to bytes f t bs
is_this_send from to bytes (Got at f bs) = false
is_this_send from to bytes (Idle at) = false
is_this_send from to bytes (Turn at) = false

this_send : (from to : Address) (bytes : List ℕ) (e : LogEntry) → is_this_send from to bytes e ≡ true → e ≡ Sent from to bytes
this_send from to bytes (Sent f t bs) h = let s = is_same from to bytes f t bs h in let x = s.from_is in let y = s.to_is in let z = s.bytes_is in cc
this_send from to bytes (Got at f bs) h = absurd cc
this_send from to bytes (Idle at) h = absurd cc
this_send from to bytes (Turn at) h = absurd cc

record WasSent (from to : Address) (bytes : List ℕ) (log : List LogEntry) : Type 0 where
  pub earlier : List LogEntry
  pub later : List LogEntry
  pub is : log ≡ earlier ++ Sent from to bytes ∷ later

was_sent : (from to : Address) (bytes : List ℕ) (log : List LogEntry) → list_any (is_this_send from to bytes) log ≡ true → WasSent from to bytes log
was_sent from to bytes [] h = absurd cc
was_sent from to bytes (e ∷ log) h = by (was_sent from to bytes log) (is_this_send from to bytes e) refl h
  where
    by : (list_any (is_this_send from to bytes) log ≡ true → WasSent from to bytes log) → (b : Bool) → is_this_send from to bytes e ≡ b → (b || list_any (is_this_send from to bytes) log) ≡ true → WasSent from to bytes (e ∷ log)
    by more true i k = record { earlier = []; later = log; is = ap (λ x. x ∷ log) (this_send from to bytes e i) }
    by more false i k = let w = more k in record { earlier = e ∷ w.earlier; later = w.later; is = ap (λ l. e ∷ l) w.is }

-- ---- a short log has no old entries
changes_few : (ns : List Note) → number_changes ns ≤ length ns
changes_few [] = omega arith
changes_few (n ∷ []) = omega arith
changes_few (n ∷ k ∷ ns) = by (changes_few (k ∷ ns)) (n.number == k.number)
  where
    by : number_changes (k ∷ ns) ≤ length (k ∷ ns) → (b : Bool) → (if b then number_changes (k ∷ ns) else number_changes (k ∷ ns) + 1) ≤ length (n ∷ k ∷ ns)
    by h true = omega (arith, h)
    by h false = omega (arith, h)

sends_few : (w : Parties) (c : Channel) (es : List LogEntry) → length (sends_in w c es) ≤ length es
sends_few w c [] = omega arith
sends_few w c (e ∷ es) = by (sends_few w c es) (sent_in w c e)
  where
    by : length (sends_in w c es) ≤ length es → (o : Option Note) → length (cons_option o (sends_in w c es)) ≤ length (e ∷ es)
    by h None = omega (arith, h)
    by h (Some n) = omega (arith, h)

repeated : (w : Parties) (at from : Address) (bytes : List ℕ) (log : List LogEntry) → length log ≤ 32767 → WasSent from at bytes log → IsRepeated w log at from bytes
repeated w at from bytes log few s = record {
  earlier = s.earlier;
  later = s.later;
  is = s.is;
  young = λ c n h. omega (arith, few, changes_few (sends_in w c log), sends_few w c log);
}

-- ---- the test of a log
abbrev pub may_stand : LogEntry → List LogEntry → Bool
may_stand (Sent from to bytes) before = true
may_stand (Got at from bytes) before = list_any (is_this_send from at bytes) before
may_stand (Idle at) before = true
may_stand (Turn at) before = true

abbrev pub each_may_stand : (before : List LogEntry) → List LogEntry → Bool
each_may_stand before [] = true
each_may_stand before (e ∷ after) = may_stand e before && each_may_stand (before ++ e ∷ []) after

stands : (w : Parties) (e : LogEntry) (before : List LogEntry) → length before ≤ 32767 → may_stand e before ≡ true → MayStand w e before
stands w (Sent from to bytes) before few h = tt
stands w (Got at from bytes) before few h = repeated w at from bytes before few (was_sent from at bytes before h)
stands w (Idle at) before few h = tt
stands w (Turn at) before few h = tt

each_stands : (w : Parties) (before log : List LogEntry) → each_may_stand before log ≡ true → length before + length log ≤ 32767
    → (b a : List LogEntry) (e : LogEntry) → log ≡ b ++ e ∷ a → MayStand w e (before ++ b)
each_stands w before [] h few [] a e is = absurd cc
each_stands w before [] h few (y ∷ b) a e is = absurd cc
each_stands w before (x ∷ log) h few [] a e is =
    let z = both_true (may_stand x before) (each_may_stand (before ++ x ∷ []) log) h in
    let same : x ≡ e = cc in
    subst (λ (k : LogEntry). MayStand w k (before ++ [])) same (subst (MayStand w x) (sym (append-nil before)) (stands w x before (omega (arith, few)) z.0))
each_stands w before (x ∷ log) h few (y ∷ b) a e is =
    let z = both_true (may_stand x before) (each_may_stand (before ++ x ∷ []) log) h in
    let same : x ≡ y = cc in
    let rest : log ≡ b ++ e ∷ a = cc in
    let m = each_stands w (before ++ x ∷ []) log z.1 (omega (arith, few, length-append before (x ∷ []))) b a e rest in
    subst (λ (k : LogEntry). MayStand w e (before ++ k ∷ b)) same (subst (MayStand w e) (append_assoc before (x ∷ []) b) m)

pub honest : (w : Parties) (log : List LogEntry) → each_may_stand [] log ≡ true → length log ≤ 32767 → Honest w log
honest w log h few before after e is = each_stands w [] log h (omega (arith, few)) before after e is
