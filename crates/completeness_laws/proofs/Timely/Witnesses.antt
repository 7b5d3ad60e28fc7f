-- Logs that are timely, and logs that are not.
use Rattle.std.proofs.Common.{◌≡◌, ℕ, zero, suc, ◌+◌, ◌*◌, ◌<◌, ◌≤◌, ◌⊎◌, inl, inr, Bool, true, false, Some, None, List, [], ◌∷◌, refl, sym, ap, ◌∙◌, subst, arith, reverse}
use Rattle.std.specs.Prelude.{slice_get}
use Rattle.dcp_types.specs.declared.addresses.Address.{Address}
use Rattle.dcp_types.specs.Values.{digits}
use Rattle.dcp_ends.specs.declared.entries.LogEntry.{LogEntry}
use Rattle.dcp_ends.specs.declared.entries.LogEntry.TheVariants.{Sent, Got, Idle, Turn}
use Rattle.pdu_layout.specs.Fields.FieldValue.{Number}
use Rattle.pdu_layout.specs.Reading.{message_in, spelling}
use Rattle.master_spec.specs.declared.causes.Cause.TheVariants as causes
use Rattle.master_spec.specs.declared.reports.Report.TheVariants as reports
use Rattle.master_spec.specs.declared.requests.Answer.TheVariants.{Nack}
use Rattle.master_spec.specs.declared.setups.Slave.{Slave}
use Rattle.master_spec.specs.News.{News, Answers, Hints, Brings, Nothing, news_of, request_bytes}
use Rattle.master_spec.specs.Conversation.{reaction}
use Rattle.master_spec.specs.Course.{step}
use Rattle.master_spec.specs.Requests.{Asking, Decision, asks, turns_between, turns_after}
use Rattle.master_spec.specs.Exchanged.{IsIn}
use Rattle.master_log_laws.specs.Index.Runs.{course_at}
use Rattle.completeness_laws.specs.Small.{small_setup as setup, small_limits as limits, lone_slave as slave, small_master as master, small_place as place, small_register as register, small_refusal as refusal, small_value as value, in_time, unreported, late_answer, late_data}
use Rattle.completeness_laws.specs.Lacking.{QuickSlavesLeaveTime, ShortHeartbeatsDoNot, SlowSlavesDoNot}
use Rattle.completeness_laws.specs.Timely.{longest_wait, Timely, IsGotAfter, ComesInTime, IsAnsweredInTime}

abbrev is_sent : LogEntry → Bool
is_sent (Sent from to bytes) = true
is_sent (Got at from bytes) = false
is_sent (Idle at) = false
is_sent (Turn at) = false

abbrev brings_values : News → Bool
brings_values (Brings number id payload) = true
brings_values (Answers number sender answer) = false
brings_values (Hints sender) = false
brings_values Nothing = false

-- ---- what stands at the places of a list
AllAt : (ℕ → LogEntry → Type 0) → ℕ → List LogEntry → Type 0
AllAt P i [] = Unit {0}
AllAt P i (x ∷ xs) = P i x × AllAt P (i + 1) xs

at_all : (P : ℕ → LogEntry → Type 0) (i : ℕ) (xs : List LogEntry) → AllAt P i xs → (n : ℕ) (e : LogEntry) → slice_get xs n ≡ Some e → P (i + n) e
unfolding AllAt
at_all P i [] a n e g = absurd cc
at_all P i (x ∷ xs) a zero e g = let same : x ≡ e = cc in subst (λ (z : LogEntry). P (i + 0) z) same (subst (λ (j : ℕ). P j x) (omega arith) a.0)
at_all P i (x ∷ xs) a (suc n) e g = subst (λ (j : ℕ). P j e) (omega arith) (at_all P (i + 1) xs a.1 n e g)

at_each : (P : ℕ → LogEntry → Type 0) (xs : List LogEntry) → AllAt P 0 xs → (n : ℕ) (e : LogEntry) → slice_get xs n ≡ Some e → P n e
at_each P xs a n e g = subst (λ (j : ℕ). P j e) (omega arith) (at_all P 0 xs a n e g)

-- ---- one that is timely
only : (s : Slave) → IsIn setup s → slave ≡ s
only s i = by i.0 i.1
  where
    by : (n : ℕ) → slice_get (slave ∷ []) n ≡ Some s → slave ≡ s
    by zero g = cc
    by (suc n) g = absurd cc

asking : (place : ℕ) → Asking
asking place = record { code = 1; number = 0; more = Number 0 ∷ Number 1 ∷ Number 2 ∷ Number 1 ∷ Number 0 ∷ []; first = 1; repeats = []; decision = Some (record { place = place; answer = Nack 10 }) }

asked : asks master slave (reverse in_time) ≡ asking 7 ∷ []
unfolding message_in news_of asking
asked = refl

answered : IsAnsweredInTime setup (reverse in_time) (asking 7)
unfolding asking
answered = record { answer = record { place = 7; answer = Nack 10 }; told = refl; soon = omega arith }

reported : (course_at setup (reverse in_time)).report ≡ Some (reports.Failed 1 1 (causes.Refused 0 10))
unfolding message_in spelling digits news_of request_bytes reaction step
reported = refl

abbrev DataComes : ℕ → LogEntry → Type 0
DataComes i e = (from to : Address) (bytes : List ℕ) → e ≡ Sent from to bytes → (number id : ℕ) (payload : List ℕ) → news_of bytes ≡ Brings number id payload → ComesInTime setup (reverse in_time) i from to bytes

abbrev AllCome : ℕ → LogEntry → Type 0
AllCome i e = (from to : Address) (bytes : List ℕ) → e ≡ Sent from to bytes → 2 ≤ turns_after master (reverse in_time) i → IsGotAfter (reverse in_time) i from to bytes

-- what else is sent
not_sent : (e : LogEntry) (from to : Address) (bytes : List ℕ) → e ≡ Sent from to bytes → is_sent e ≡ false → ⊥
not_sent e from to bytes g h = let z : true ≡ false = sym (ap is_sent g) ∙ h in cc

no_values : (a b : Address) (bs : List ℕ) (from to : Address) (bytes : List ℕ) → Sent a b bs ≡ Sent from to bytes → (number id : ℕ) (payload : List ℕ) → news_of bytes ≡ Brings number id payload → brings_values (news_of bs) ≡ false → ⊥
no_values a b bs from to bytes g number id payload n h =
    let same : bs ≡ bytes = cc in
    let z : true ≡ false = sym (ap brings_values n) ∙ ap (λ (x : List ℕ). brings_values (news_of x)) (sym same) ∙ h in cc

of_register : brings_values (news_of register) ≡ false
unfolding message_in news_of
of_register = refl

of_refusal : brings_values (news_of refusal) ≡ false
unfolding message_in news_of
of_refusal = refl

comes : DataComes 6 (Sent place master value)
comes from to bytes g number id payload n =
    let a : place ≡ from = cc in let b : master ≡ to = cc in let c : value ≡ bytes = cc in
    let here : ComesInTime setup (reverse in_time) 6 place master value = record { came = record { place = 8; later = omega arith; got = refl }; soon = omega arith } in
    subst (λ (z : List ℕ). ComesInTime setup (reverse in_time) 6 from to z) c (subst (λ (z : Address). ComesInTime setup (reverse in_time) 6 from z value) b (subst (λ (z : Address). ComesInTime setup (reverse in_time) 6 z master value) a here))

other : (i : ℕ) (e : LogEntry) → is_sent e ≡ false → DataComes i e
other i e h from to bytes g number id payload n = absurd (not_sent e from to bytes g h)

values : AllAt DataComes 0 (reverse (reverse in_time))
unfolding AllAt
values = (
  other 0 (Turn master) refl,
  (
    (λ from to bytes g number id payload n. absurd (no_values master place register from to bytes g number id payload n of_register)),
    (
      other 2 (Got place master register) refl,
      (
        (λ from to bytes g number id payload n. absurd (no_values place master refusal from to bytes g number id payload n of_refusal)),
        (
          other 4 (Idle place) refl,
          (
            other 5 (Turn place) refl,
            (
              comes,
              (
                other 7 (Got master place refusal) refl,
                (
                  other 8 (Got master place value) refl,
                  (
                    other 9 (Idle master) refl,
                    (
                      other 10 (Turn master) refl,
                      tt,
                    ),
                  ),
                ),
              ),
            ),
          ),
        ),
      ),
    ),
  ),
)

-- two turns follow the first entry alone
few : (i : ℕ) (e : LogEntry) → turns_after master (reverse in_time) i ≤ 1 → AllCome i e
few i e h from to bytes g two = absurd (omega (arith, h, two))

all : AllAt AllCome 0 (reverse (reverse in_time))
unfolding AllAt
all = (
  (λ from to bytes g two. absurd (not_sent (Turn master) from to bytes g refl)),
  (
    few 1 (Sent master place register) (omega arith),
    (
      few 2 (Got place master register) (omega arith),
      (
        few 3 (Sent place master refusal) (omega arith),
        (
          few 4 (Idle place) (omega arith),
          (
            few 5 (Turn place) (omega arith),
            (
              few 6 (Sent place master value) (omega arith),
              (
                few 7 (Got master place refusal) (omega arith),
                (
                  few 8 (Got master place value) (omega arith),
                  (
                    few 9 (Idle master) (omega arith),
                    (
                      few 10 (Turn master) (omega arith),
                      tt,
                    ),
                  ),
                ),
              ),
            ),
          ),
        ),
      ),
    ),
  ),
)

answers : (s : Slave) → IsIn setup s → (n : ℕ) (a : Asking) → slice_get (asks master s (reverse in_time)) n ≡ Some a → IsAnsweredInTime setup (reverse in_time) a
answers s i n a g = subst (IsAnsweredInTime setup (reverse in_time)) (by n (sym (ap (λ (l : List Asking). slice_get l n) asked) ∙ ap (λ (z : Slave). slice_get (asks master z (reverse in_time)) n) (only s i) ∙ g)) answered
  where
    by : (n : ℕ) → slice_get (asking 7 ∷ []) n ≡ Some a → asking 7 ≡ a
    by zero g = cc
    by (suc n) g = absurd cc

pub timely : Timely setup (reverse in_time)
timely = record {
  report = reports.Failed 1 1 (causes.Refused 0 10);
  reported = reported;
  answers = answers;
  values = λ i from to bytes g. at_each DataComes (reverse (reverse in_time)) values i (Sent from to bytes) g from to bytes refl;
  all = λ i from to bytes g. at_each AllCome (reverse (reverse in_time)) all i (Sent from to bytes) g from to bytes refl;
}

-- ---- and some that are not
none_reported : (course_at setup (reverse unreported)).report ≡ None
unfolding message_in spelling digits news_of request_bytes reaction step
none_reported = refl

pub not_reported : Timely setup (reverse unreported) → ⊥
not_reported t = let z : None ≡ Some t.report = sym none_reported ∙ t.reported in cc

asked_again : Asking
asked_again = record { code = 1; number = 0; more = Number 0 ∷ Number 1 ∷ Number 2 ∷ Number 1 ∷ Number 0 ∷ []; first = 1; repeats = 10 ∷ []; decision = Some (record { place = 11; answer = Nack 10 }) }

asked_late : slice_get (asks master slave (reverse late_answer)) 0 ≡ Some asked_again
unfolding message_in news_of asked_again
asked_late = refl

pub answered_late : Timely setup (reverse late_answer) → ⊥
unfolding asked_again
answered_late t =
    let a = t.answers slave (0, refl) 0 asked_again asked_late in
    let d : Some (record { place = 11; answer = Nack 10 }) ≡ Some a.answer = a.told in
    let same : record { place = 11; answer = Nack 10 } ≡ a.answer = cc in
    let P : Decision → Type 0 = λ d. turns_between master (reverse late_answer) 1 d.place < 2 in
    let soon : P (record { place = 11; answer = Nack 10 }) = subst P (sym same) a.soon in
    absurd (omega (arith, soon))

-- the first byte of what is got
abbrev first_got : LogEntry → ℕ
first_got (Got at from (b ∷ bytes)) = b
first_got (Got at from []) = 0
first_got (Sent from to bytes) = 0
first_got (Idle at) = 0
first_got (Turn at) = 0

abbrev IsLate : ℕ → LogEntry → Type 0
IsLate j e = first_got e ≡ 240 → 2 ≤ turns_between master (reverse late_data) 6 j

came_late : AllAt IsLate 0 (reverse (reverse late_data))
unfolding AllAt
came_late = (
  (λ h. absurd (omega arith)),
  (
    (λ h. absurd (omega arith)),
    (
      (λ h. absurd (omega arith)),
      (
        (λ h. absurd (omega arith)),
        (
          (λ h. absurd (omega arith)),
          (
            (λ h. absurd (omega arith)),
            (
              (λ h. absurd (omega arith)),
              (
                (λ h. absurd (omega arith)),
                (
                  (λ h. absurd (omega arith)),
                  (
                    (λ h. absurd (omega arith)),
                    (
                      (λ h. absurd (omega arith)),
                      (
                        (λ h. omega arith),
                        (
                          (λ h. absurd (omega arith)),
                          tt,
                        ),
                      ),
                    ),
                  ),
                ),
              ),
            ),
          ),
        ),
      ),
    ),
  ),
)

value_is : news_of value ≡ Brings 0 1 (7 ∷ [])
unfolding message_in news_of
value_is = refl

pub brought_late : Timely setup (reverse late_data) → ⊥
brought_late t =
    let d = t.values 6 place master value refl 0 1 (7 ∷ []) value_is in
    let late : 2 ≤ turns_between master (reverse late_data) 6 d.came.place = at_each IsLate (reverse (reverse late_data)) came_late d.came.place (Got master place value) d.came.got refl in
    let soon : turns_between master (reverse late_data) 6 d.came.place < 2 = d.soon in
    absurd (omega (arith, late, soon))

-- ---- scenarios that leave time
longest : longest_wait limits ≡ 2
longest = refl

pub leave_time : QuickSlavesLeaveTime
leave_time d b h = record { states = omega (arith, b); hearts = by h }
  where
    by : (d.heartbeat ≡ 0) ⊎ (d.heartbeat ≡ 13) → (d.heartbeat ≡ 0) ⊎ (longest_wait limits + 3 * limits.turn_limit + 4 < d.heartbeat)
    by (inl z) = inl z
    by (inr z) = inr (let w = longest in omega (arith, z, w))

pub slow : SlowSlavesDoNot
slow d b l = let s = l.states in absurd (omega (arith, b, s))

pub short : ShortHeartbeatsDoNot
short d b l = by l.hearts
  where
    by : (d.heartbeat ≡ 0) ⊎ (longest_wait limits + 3 * limits.turn_limit + 4 < d.heartbeat) → ⊥
    by (inl z) = absurd (omega (arith, z, b))
    by (inr z) = let w = longest in absurd (omega (arith, z, b, w))
