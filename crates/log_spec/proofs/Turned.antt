-- From the order of the log to the newest first.
use Rattle.std.proofs.Common.{◌≡◌, ℕ, ◌+◌, Bool, true, false, if◌then◌else◌, Option, Some, None, List, [], ◌∷◌, ◌++◌, reverse, refl, sym, ap, ◌∙◌, subst, arith, append_assoc}
use Rattle.std.specs.Prelude.{◌==◌}
use Rattle.std.specs.List.{cons_option}
use Rattle.std.proofs.lemmas.List.{reverse-reverse, reverse-append, append-nil}
use Rattle.std.proofs.lemmas.Grind.{reverse_onto}
use Rattle.std.proofs.lemmas.List.Elements.{filter_map-append}
use Rattle.std.proofs.lemmas.Bool.{eqb-true, eqb-false}
use Rattle.log_spec.specs.Channel.{number_changes}
use Rattle.dcp_types.specs.declared.addresses.Address.{Address}
use Rattle.log_spec.specs.Messages.{Note}
use Rattle.dcp_ends.specs.declared.entries.LogEntry.{LogEntry}
use Rattle.dcp_ends.specs.declared.entries.LogEntry.TheVariants.{Sent, Got, Idle, Turn}
use Rattle.log_spec.specs.Log.{Parties, Channel, sent_in, sends_in}
use Rattle.log_spec.specs.Honest.{HonestNewest, IsRepeatedNewest, MayStandNewest}
use Rattle.log_spec.specs.Oldest.{EachAfter, IsRepeated, MayStand, Honest}

reverse_one : {A : Type 0} (e : A) (xs : List A) → reverse (e ∷ xs) ≡ reverse xs ++ e ∷ []
reverse_one e xs = reverse_onto xs e []

abbrev pub Newest : (LogEntry → List LogEntry → Type 0) → List LogEntry → Type 0
Newest May [] = Unit {0}
Newest May (e ∷ xs) = May e (reverse xs) × Newest May xs

-- what may stand at each place of the log, by recursion
pub each_newest : (May : LogEntry → List LogEntry → Type 0) (xs : List LogEntry) → EachAfter May (reverse xs) → Newest May xs
each_newest May [] h = tt
each_newest May (e ∷ xs) h = (h (reverse xs) [] e (reverse_one e xs), each_newest May xs (λ b a k is. h b (a ++ e ∷ []) k (reverse_one e xs ∙ ap (λ l. l ++ e ∷ []) is ∙ append_assoc b (k ∷ a) (e ∷ []))))

abbrev one_if : Bool → ℕ
one_if b = if b then 0 else 1

abbrev step : Note → Note → ℕ
step n k = one_if (n.number == k.number)

step_turned : (b c : Bool) (n k : ℕ) → (n == k) ≡ b → (k == n) ≡ c → one_if b ≡ one_if c
step_turned true true n k p q = refl
step_turned false false n k p q = refl
step_turned true false n k p q = absurd (eqb-false k n q (sym (eqb-true n k p)))
step_turned false true n k p q = absurd (eqb-false n k p (sym (eqb-true k n q)))

add_step : (b : Bool) (c : ℕ) → (if b then c else (c + 1)) ≡ c + (if b then 0 else 1)
add_step true c = omega arith
add_step false c = refl

changes_is : (n k : Note) (ns : List Note) → number_changes (n ∷ k ∷ ns) ≡ number_changes (k ∷ ns) + step n k
changes_is n k ns = add_step (n.number == k.number) (number_changes (k ∷ ns))

changes_two : (ns : List Note) (k n : Note) → number_changes (ns ++ k ∷ n ∷ []) ≡ number_changes (ns ++ k ∷ []) + step k n
changes_two [] k n = changes_is k n []
changes_two (a ∷ []) k n = omega (arith, changes_is a k (n ∷ []), changes_is a k [], changes_is k n [])
changes_two (a ∷ b ∷ ns) k n = omega (arith, changes_is a b (ns ++ k ∷ n ∷ []), changes_is a b (ns ++ k ∷ []), changes_two (b ∷ ns) k n)

-- as many changes either way
pub changes_turned : (ns : List Note) → number_changes (reverse ns) ≡ number_changes ns
changes_turned [] = refl
changes_turned (n ∷ []) = refl
changes_turned (n ∷ k ∷ ns) =
    let whole : reverse (n ∷ k ∷ ns) ≡ reverse ns ++ k ∷ n ∷ [] = reverse_onto ns k (n ∷ []) in
    let less : reverse (k ∷ ns) ≡ reverse ns ++ k ∷ [] = reverse_one k ns in
    omega (arith, ap number_changes whole, ap number_changes less, changes_two (reverse ns) k n, changes_turned (k ∷ ns), changes_is n k ns, step_turned (n.number == k.number) (k.number == n.number) n.number k.number refl refl)

one_turned : (o : Option Note) (ns : List Note) → reverse ns ++ cons_option o [] ≡ reverse (cons_option o ns)
one_turned None ns = append-nil (reverse ns)
one_turned (Some n) ns = sym (reverse_one n ns)

module _ (w : Parties) where
  sends_turned : (c : Channel) (xs : List LogEntry) → sends_in w c (reverse xs) ≡ reverse (sends_in w c xs)
  sends_turned c [] = refl
  sends_turned c (e ∷ xs) = ap (sends_in w c) (reverse_one e xs) ∙ filter_map-append (sent_in w c) (reverse xs) (e ∷ []) ∙ ap (λ ns. ns ++ cons_option (sent_in w c e) []) (sends_turned c xs) ∙ one_turned (sent_in w c e) (sends_in w c xs)

  counts_turned : (c : Channel) (xs : List LogEntry) → number_changes (sends_in w c (reverse xs)) ≡ number_changes (sends_in w c xs)
  counts_turned c xs = ap number_changes (sends_turned c xs) ∙ changes_turned (sends_in w c xs)

  repeated : (xs : List LogEntry) (at from : Address) (bytes : List ℕ) → IsRepeated w (reverse xs) at from bytes → IsRepeatedNewest w xs at from bytes
  repeated xs at from bytes r =
      let s = Sent from at bytes in
      let before : r.earlier ++ s ∷ [] ≡ reverse (s ∷ reverse r.earlier) = ap (λ l. l ++ s ∷ []) (sym (reverse-reverse r.earlier)) ∙ sym (reverse_one s (reverse r.earlier)) in
      let is : xs ≡ reverse r.later ++ s ∷ reverse r.earlier = sym (reverse-reverse xs) ∙ ap reverse r.is ∙ reverse-append r.earlier (s ∷ r.later) ∙ ap (λ l. l ++ reverse r.earlier) (reverse_one s r.later) ∙ append_assoc (reverse r.later) (s ∷ []) (reverse r.earlier) in
      record {
        later = reverse r.later;
        earlier = reverse r.earlier;
        is = is;
        young = λ c n h. omega (arith, r.young c n h, counts_turned c xs, ap (λ l. number_changes (sends_in w c l)) before, counts_turned c (s ∷ reverse r.earlier));
      }

  may_newest : (e : LogEntry) (xs : List LogEntry) → MayStand w e (reverse xs) → MayStandNewest w e xs
  may_newest (Sent from to bytes) xs h = tt
  may_newest (Got at from bytes) xs h = repeated xs at from bytes h
  may_newest (Idle at) xs h = tt
  may_newest (Turn at) xs h = tt

  by_newest : (xs : List LogEntry) → Newest (MayStand w) xs → HonestNewest w xs
  by_newest [] h = tt
  by_newest (e ∷ xs) h = (may_newest e xs h.0, by_newest xs h.1)

  pub honest_newest : (log : List LogEntry) → Honest w log → HonestNewest w (reverse log)
  honest_newest log h =
      let P : List LogEntry → Type 0 = EachAfter (MayStand w) in
      by_newest (reverse log) (each_newest (MayStand w) (reverse log) (subst P (sym (reverse-reverse log)) h))
