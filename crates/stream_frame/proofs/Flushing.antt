-- Writes one after the other, and what a sink has got.
use Rattle.std.proofs.Common.{◌≡◌, ℕ, ◌+◌, List, [], ◌++◌, take, drop, refl, sym, ap, subst, ◌∙◌, arith, Option, Some, None, append_assoc, take-append-drop}
use Rattle.std.proofs.lemmas.List.{take-take, drop-take, drop-drop, append-nil}
use Rattle.std.specs.Io.KnownBytes.{Appends, Keeps}
use Rattle.dcp_types.specs.declared.addresses.Address.{Address}
use Rattle.stream_frame.specs.Links.{Carries, Sent}

pub take-add : (a b : ℕ) (xs : List ℕ) → take a xs ++ take b (drop a xs) ≡ take (a + b) xs
take-add a b xs =
    ap (λ (l : List ℕ). l ++ take b (drop a xs)) (sym (take-take a (a + b) xs (omega arith)))
    ∙ ap (λ (l : List ℕ). take a (take (a + b) xs) ++ l) (sym (drop-take a b xs))
    ∙ take-append-drop a (take (a + b) xs)

nothing_added : (a : Option (List ℕ)) → Appends a a []
nothing_added None = tt
nothing_added (Some x) = sym (append-nil x)

then_added : (a b c : Option (List ℕ)) (bs cs : List ℕ) → Appends a b bs → Appends b c cs → Appends a c (bs ++ cs)
then_added None b c bs cs p q = tt
then_added (Some x) None c bs cs p q = absurd p
then_added (Some x) (Some y) None bs cs p q = absurd q
then_added (Some x) (Some y) (Some z) bs cs p q = q ∙ ap (λ (l : List ℕ). l ++ cs) p ∙ append_assoc x bs cs

then_kept : (a b c : Option (List ℕ)) (bs : List ℕ) → Appends a b bs → Keeps b c → Appends a c bs
then_kept None b c bs p q = tt
then_kept (Some x) None c bs p q = absurd p
then_kept (Some x) (Some y) None bs p q = absurd q
then_kept (Some x) (Some y) (Some z) bs p q = q ∙ p

pub none_sent : (a : Option (List ℕ)) (waits : List ℕ) → Sent a a waits waits
none_sent a waits = record { count = 0; added = nothing_added a; rest = refl }

pub more_sent : (a b c : Option (List ℕ)) (waited waits left : List ℕ) (n : ℕ) → Sent a b waited waits → Appends b c (take n waits) → left ≡ drop n waits → Sent a c waited left
more_sent a b c waited waits left n s p e = record {
  count = s.count + n;
  added = subst (Appends a c) (ap (λ (l : List ℕ). take s.count waited ++ take n l) s.rest ∙ take-add s.count n waited) (then_added a b c (take s.count waited) (take n waits) s.added p);
  rest = e ∙ ap (drop n) s.rest ∙ drop-drop n s.count waited;
}

pub kept_sent : (a b c : Option (List ℕ)) (waited waits left : List ℕ) → Sent a b waited waits → Keeps b c → left ≡ waits → Sent a c waited left
kept_sent a b c waited waits left s p e = record { count = s.count; added = then_kept a b c (take s.count waited) s.added p; rest = e ∙ s.rest }

-- what was promised is not changed by what is written of it
pub carries_sent : (start a b : Option (List ℕ)) (waited waits : List ℕ) (from : Address) (messages : List (List ℕ)) → Sent a b waited waits
    → Carries start a waited from messages → Carries start b waits from messages
carries_sent start a b waited waits from messages s c = record {
  got = c.got ++ take s.count waited;
  told = then_added start a b c.got (take s.count waited) c.told s.added;
  stream = ap (λ (l : List ℕ). c.got ++ take s.count waited ++ l) s.rest
      ∙ append_assoc c.got (take s.count waited) (drop s.count waited)
      ∙ ap (λ (l : List ℕ). c.got ++ l) (take-append-drop s.count waited)
      ∙ c.stream;
}
