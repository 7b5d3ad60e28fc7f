-- Requests in the order in which they were first sent.
use Rattle.std.proofs.Common.{◌≡◌, ℕ, zero, suc, ◌+◌, ◌<◌, ◌≤◌, ◌⊎◌, inl, inr, Bool, true, false, if◌then◌else◌, Option, Some, None, List, [], ◌∷◌, ◌++◌, map, length, refl, sym, ap, ◌∙◌, arith, length-append}
use Rattle.std.specs.Prelude.{slice_get, ◌==◌, ◌&&◌}
use Rattle.dcp_types.specs.declared.addresses.Address.{Address}
use Rattle.dcp_ends.specs.declared.entries.LogEntry.{LogEntry}
use Rattle.dcp_ends.specs.declared.entries.LogEntry.TheVariants.{Sent, Got, Idle, Turn}
use Rattle.dcp_ends.specs.Logs.{same_address}
use Rattle.pdu_layout.specs.Reading.{message_in}
use Rattle.pdu_layout.specs.Fields.{FieldValue}
use Rattle.pdu_layout.specs.Fields.FieldValue.{Number, Signed, Bytes}
use Rattle.pdu_layout.specs.Message.{Message}
use Rattle.master_spec.specs.declared.setups.Slave.{Slave}
use Rattle.master_spec.specs.News.{News, Answers, Hints, Brings, Nothing, news_of}
use Rattle.master_spec.specs.Requests.{Asking, asking_in, asking_with, asks, asks_after, decided_by, is_request, with_asking, with_news}

abbrev pub firsts : List Asking → List ℕ
firsts bs = map (λ (b : Asking). b.first) bs

pub firsts_at : (bs : List Asking) (n : ℕ) (b : Asking) → slice_get bs n ≡ Some b → slice_get (firsts bs) n ≡ Some b.first
firsts_at [] n b e = absurd cc
firsts_at (x ∷ bs) zero b e = let z : x ≡ b = cc in ap (λ (y : Asking). Some y.first) z
firsts_at (x ∷ bs) (suc n) b e = firsts_at bs n b e

-- one more entry sends at most one more
abbrev Grows : ℕ → List Asking → List Asking → Type 0
Grows place bs cs = (firsts cs ≡ firsts bs) ⊎ (firsts cs ≡ place ∷ firsts bs)

asked_at : (place code : ℕ) (values : List FieldValue) (a : Asking) → asking_with place code values ≡ Some a → a.first ≡ place
asked_at place code [] a e = absurd cc
asked_at place code (Signed i ∷ more) a e = absurd cc
asked_at place code (Bytes b ∷ more) a e = absurd cc
asked_at place code (Number n ∷ []) a e = absurd cc
asked_at place code (Number n ∷ Signed i ∷ more) a e = absurd cc
asked_at place code (Number n ∷ Bytes b ∷ more) a e = absurd cc
asked_at place code (Number n ∷ Number r ∷ more) a e = by (is_request code) e
  where
    by : (y : Bool) → (if y then Some (record { code = code; number = n; more = more; first = place; repeats = []; decision = None }) else None) ≡ Some a → a.first ≡ place
    by true z = let w : record { code = code; number = n; more = more; first = place; repeats = []; decision = None } ≡ a = cc in sym (ap (λ (y : Asking). y.first) w)
    by false z = absurd cc

asked_in : (place : ℕ) (o : Option Message) (a : Asking) → asking_in place o ≡ Some a → a.first ≡ place
asked_in place None a e = absurd cc
asked_in place (Some m) a e = asked_at place m.code m.values a e

with_one : (place : ℕ) (o : Option Asking) (bs : List Asking) → ((a : Asking) → o ≡ Some a → a.first ≡ place) → Grows place bs (with_asking o bs)
with_one place None bs f = inl refl
with_one place (Some a) [] f = inr (ap (λ (n : ℕ). n ∷ []) (f a refl))
with_one place (Some a) (b ∷ bs) f = by (a.number == b.number)
  where
    by : (y : Bool) → Grows place (b ∷ bs) (if y then record { code = b.code; number = b.number; more = b.more; first = b.first; repeats = a.first ∷ b.repeats; decision = b.decision } ∷ bs else a ∷ b ∷ bs)
    by true = inl refl
    by false = inr (ap (λ (n : ℕ). n ∷ b.first ∷ firsts bs) (f a refl))

with_it : (id place : ℕ) (w : News) (bs : List Asking) → firsts (with_news id place w bs) ≡ firsts bs
with_it id place (Answers number sender a) [] = refl
with_it id place (Answers number sender a) (b ∷ bs) = by ((sender == id) && (number == b.number))
  where
    by : (y : Bool) → firsts (if y then record { code = b.code; number = b.number; more = b.more; first = b.first; repeats = b.repeats; decision = decided_by b.decision (record { place = place; answer = a }) } ∷ bs else b ∷ bs) ≡ firsts (b ∷ bs)
    by true = refl
    by false = refl
with_it id place (Hints sender) bs = refl
with_it id place (Brings number data_id payload) bs = refl
with_it id place Nothing bs = refl

grows : (master : Address) (slave : Slave) (place : ℕ) (e : LogEntry) (bs : List Asking) → Grows place bs (asks_after master slave place e bs)
grows master slave place (Sent from to bytes) bs = by (same_address from master && same_address to slave.address)
  where
    by : (y : Bool) → Grows place bs (if y then with_asking (asking_in place (message_in bytes)) bs else bs)
    by true = with_one place (asking_in place (message_in bytes)) bs (λ a e. asked_in place (message_in bytes) a e)
    by false = inl refl
grows master slave place (Got at from bytes) bs = by (same_address at master && same_address from slave.address)
  where
    by : (y : Bool) → Grows place bs (if y then with_news slave.id place (news_of bytes) bs else bs)
    by true = inl (with_it slave.id place (news_of bytes) bs)
    by false = inl refl
grows master slave place (Idle at) bs = inl refl
grows master slave place (Turn at) bs = inl refl

-- what was sent later stands in front, and was sent later
pub record IsGrown (later sofar : List LogEntry) (master : Address) (slave : Slave) : Type 0 where
  pub new : List ℕ
  pub is : firsts (asks master slave (later ++ sofar)) ≡ new ++ firsts (asks master slave sofar)
  pub high : (i x : ℕ) → slice_get new i ≡ Some x → length sofar ≤ x
  pub low : (i x : ℕ) → slice_get new i ≡ Some x → x < length (later ++ sofar)

pub grown : (master : Address) (slave : Slave) (later sofar : List LogEntry) → IsGrown later sofar master slave
grown master slave [] sofar = record { new = []; is = refl; high = λ i x e. absurd cc; low = λ i x e. absurd cc }
grown master slave (e ∷ later) sofar = by (grown master slave later sofar) (grows master slave (length (later ++ sofar)) e (asks master slave (later ++ sofar)))
  where
    by : IsGrown later sofar master slave → Grows (length (later ++ sofar)) (asks master slave (later ++ sofar)) (asks master slave (e ∷ (later ++ sofar))) → IsGrown (e ∷ later) sofar master slave
    by g (inl z) = record { new = g.new; is = z ∙ g.is; high = g.high; low = λ i x h. more (g.low i x h) }
      where
        more : {m n : ℕ} → m < n → m < suc n
        more h = omega (arith, h)
    by g (inr z) = record { new = length (later ++ sofar) ∷ g.new; is = z ∙ ap (λ (l : List ℕ). length (later ++ sofar) ∷ l) g.is; high = high; low = low }
      where
        l : length (later ++ sofar) ≡ length later + length sofar
        l = length-append later sofar

        high : (i x : ℕ) → slice_get (length (later ++ sofar) ∷ g.new) i ≡ Some x → length sofar ≤ x
        high zero x h = let w : length (later ++ sofar) ≡ x = cc in omega (arith, l, w)
        high (suc i) x h = g.high i x h

        low : (i x : ℕ) → slice_get (length (later ++ sofar) ∷ g.new) i ≡ Some x → x < length (e ∷ (later ++ sofar))
        low zero x h = let w : length (later ++ sofar) ≡ x = cc in omega (arith, w)
        low (suc i) x h = let k = g.low i x h in omega (arith, k)

-- each was sent before the end
pub sent_before : (master : Address) (slave : Slave) (log : List LogEntry) (i x : ℕ) → slice_get (firsts (asks master slave log)) i ≡ Some x → x < length log
sent_before master slave [] i x e = absurd cc
sent_before master slave (e ∷ log) i x h = by (grows master slave (length log) e (asks master slave log)) (λ j z. sent_before master slave log j x z)
  where
    by : Grows (length log) (asks master slave log) (asks master slave (e ∷ log)) → ((j : ℕ) → slice_get (firsts (asks master slave log)) j ≡ Some x → x < length log) → x < length (e ∷ log)
    by (inl z) f = let k = f i (ap (λ (l : List ℕ). slice_get l i) (sym z) ∙ h) in omega (arith, k)
    by (inr z) f = two i (ap (λ (l : List ℕ). slice_get l i) (sym z) ∙ h)
      where
        two : (i : ℕ) → slice_get (length log ∷ firsts (asks master slave log)) i ≡ Some x → x < length (e ∷ log)
        two zero k = let w : length log ≡ x = cc in omega (arith, w)
        two (suc i) k = let m = f i k in omega (arith, m)

-- where an element of two lists together stands
pub back_get : (xs ys : List ℕ) (n x : ℕ) → slice_get (xs ++ ys) n ≡ Some x → (slice_get xs n ≡ Some x) ⊎ ((m : ℕ) × (n ≡ length xs + m) × (slice_get ys m ≡ Some x))
back_get [] ys n x e = inr (n, omega arith, e)
back_get (y ∷ xs) ys zero x e = inl e
back_get (y ∷ xs) ys (suc n) x e = by (back_get xs ys n x e)
  where
    by : (slice_get xs n ≡ Some x) ⊎ ((m : ℕ) × (n ≡ length xs + m) × (slice_get ys m ≡ Some x)) → (slice_get xs n ≡ Some x) ⊎ ((m : ℕ) × (suc n ≡ length (y ∷ xs) + m) × (slice_get ys m ≡ Some x))
    by (inl h) = inl h
    by (inr h) = let k = h.1 in inr (h.0, omega (arith, k), h.2)
