-- The laws of a quiet network, of logs with their oldest entry first.
use Rattle.std.proofs.Common.{◌≡◌, ℕ, ◌+◌, ◌≤◌, Bool, true, false, if◌then◌else◌, ◌⊎◌, inl, inr, List, [], ◌∷◌, ◌++◌, length, reverse, refl, sym, ap, ◌∙◌, subst, arith, append_assoc}
use Rattle.std.specs.Prelude.{filter}
use Rattle.std.proofs.lemmas.List.{reverse-append, reverse-reverse}
use Rattle.dcp_ends.specs.declared.entries.LogEntry.{LogEntry}
use Rattle.dcp_ends.specs.declared.entries.LogEntry.TheVariants.{Sent, Got}
use Rattle.net_world.specs.declared.deliveries.Arrival.{Arrival}
use Rattle.net_world.specs.Calls.{GivesDue}
use Rattle.net_world.specs.Deliveries.{waiting}
use Rattle.net_world.specs.Messages.{messages}
use Rattle.rounds.specs.Steps.{without_turns}
use Rattle.completeness_laws.specs.Quiet.{AllSince, ComesIn, QuietLooksTakeAll, QuietNetsLoseNothing, StillWaits}
use Rattle.completeness_laws.proofs.Quiet.Lists.{bit, tally, Among, Each}
use Rattle.completeness_laws.proofs.Quiet.Nets.{told, sent_told, pending, letter}
use Rattle.completeness_laws.proofs.Quiet.Fronts.{onto, onto_reverse, is_for}
use Rattle.completeness_laws.proofs.Quiet.Looks.{look_takes}
use Rattle.completeness_laws.proofs.Quiet.Comes.{WasGot, comes_or_waits}

-- ---- as many as are counted
pub tally_length : (p : Arrival → Bool) (w : List Arrival) → length (filter p w) ≡ tally p w
tally_length p [] = refl
tally_length p (d ∷ w) = by (p d) (tally_length p w)
  where
    by : (b : Bool) → length (filter p w) ≡ tally p w → length (if b then d ∷ filter p w else filter p w) ≡ bit b + tally p w
    by true h = omega (arith, h)
    by false h = omega (arith, h)

none_of : (w : List Arrival) → length w ≡ 0 → w ≡ []
none_of [] h = refl
none_of (d ∷ w) h = absurd (omega (arith, h))

since_each : (base : ℕ) (w : List Arrival) → AllSince base w → Each (λ (d : Arrival). base ≤ d.number) w
since_each base [] h = tt
since_each base (d ∷ w) h = (h.0, since_each base w h.1)

-- ---- the same log in both orders
pub told_is : (log : List LogEntry) → told (reverse log) ≡ without_turns log
told_is log = ap without_turns (reverse-reverse log)

pub onto_is : (part log : List LogEntry) → onto part (reverse log) ≡ reverse (log ++ part)
onto_is part log = onto_reverse part (reverse log) ∙ sym (reverse-append log part)

pub looks_take_all : QuietLooksTakeAll
looks_take_all o quiet a log part look not_self given few base since low high =
    let L = reverse log in
    let P : List LogEntry → Type 0 = λ z. GivesDue o [] z in
    let whole : told (onto part L) ≡ without_turns (log ++ part) = ap told (onto_is part log) ∙ told_is (log ++ part) in
    let Q : List LogEntry → Type 0 = λ z. Each (λ (d : Arrival). base ≤ d.number) (waiting o z) in
    let fresh = subst Q (sym (told_is log)) (since_each base (waiting o (without_turns log)) since) in
    let a1 = sent_told L in
    let b1 = ap messages (told_is log) in
    let a2 = sent_told (onto part L) in
    let b2 = ap messages whole in
    let n = tally_length (is_for o quiet a) (pending o L) in
    let m = ap (λ (z : List LogEntry). length (filter (is_for o quiet a) (waiting o z))) (told_is log) in
    let k = look_takes o quiet a part L base look (subst P (sym whole) given) not_self (omega (arith, n, m, few)) fresh (omega (arith, a1, b1, low)) (omega (arith, a2, b2, high)) in
    let l = tally_length (is_for o quiet a) (pending o (onto part L)) in
    let j = ap (λ (z : List LogEntry). length (filter (is_for o quiet a) (waiting o z))) whole in
    none_of (filter (is_for o quiet a) (waiting o (without_turns (log ++ part)))) (omega (arith, k, l, j))

-- ---- nothing is lost
record Split (d : Arrival) (w : List Arrival) : Type 0 where
  pub before : List Arrival
  pub after : List Arrival
  pub is : w ≡ before ++ d ∷ after

among_split : (d : Arrival) (w : List Arrival) → Among d w → Split d w
among_split d [] m = absurd m
among_split d (e ∷ w) (inl z) = record { before = []; after = w; is = ap (λ (x : Arrival). x ∷ w) (sym z) }
among_split d (e ∷ w) (inr m) = let s = among_split d w m in record { before = e ∷ s.before; after = s.after; is = ap (λ (l : List Arrival). e ∷ l) s.is }

pub lose_nothing : QuietNetsLoseNothing
lose_nothing o quiet log part from to bytes given = by (comes_or_waits o quiet (reverse part) from to bytes (reverse log) (subst P (sym whole) given))
  where
    P : List LogEntry → Type 0
    P z = GivesDue o [] z

    turned : reverse part ++ Sent from to bytes ∷ reverse log ≡ reverse (log ++ Sent from to bytes ∷ part)
    turned = sym (reverse-append log (Sent from to bytes ∷ part) ∙ ap (λ (l : List LogEntry). l ++ reverse log) (reverse-append (Sent from to bytes ∷ []) part) ∙ append_assoc (reverse part) (Sent from to bytes ∷ []) (reverse log))

    whole : told (reverse part ++ Sent from to bytes ∷ reverse log) ≡ without_turns (log ++ Sent from to bytes ∷ part)
    whole = ap told turned ∙ told_is (log ++ Sent from to bytes ∷ part)

    number : messages (told (reverse log)) + 1 ≡ messages (without_turns log) + 1
    number = ap (λ (z : List LogEntry). messages z + 1) (told_is log)

    same_letter : letter o (reverse log) from to bytes ≡ record { due = messages (without_turns log) + 1; number = messages (without_turns log) + 1; from = from; to = to; bytes = bytes }
    same_letter =
        let e : messages (told (reverse log)) + 1 + 0 ≡ messages (told (reverse log)) + 1 = omega arith in
        ap (λ (n : ℕ). record { due = n; number = messages (told (reverse log)) + 1; from = from; to = to; bytes = bytes }) e
        ∙ ap (λ (n : ℕ). record { due = n; number = n; from = from; to = to; bytes = bytes }) number

    by : WasGot o quiet from to bytes (reverse log) (reverse part) ⊎ Among (letter o (reverse log) from to bytes) (pending o (reverse part ++ Sent from to bytes ∷ reverse log))
        → ComesIn to from bytes part ⊎ StillWaits o from to bytes (messages (without_turns log) + 1) (log ++ Sent from to bytes ∷ part)
    by (inl g) =
        inl (record {
          before = reverse g.before;
          after = reverse g.after;
          is = sym (reverse-reverse part) ∙ ap reverse g.is ∙ reverse-append g.after (Got to from bytes ∷ g.before) ∙ ap (λ (l : List LogEntry). l ++ reverse g.after) (reverse-append (Got to from bytes ∷ []) g.before) ∙ append_assoc (reverse g.before) (Got to from bytes ∷ []) (reverse g.after);
        })
    by (inr m) =
        let s = among_split (letter o (reverse log) from to bytes) (pending o (reverse part ++ Sent from to bytes ∷ reverse log)) m in
        inr (record { before = s.before; after = s.after; is = ap (waiting o) (sym whole) ∙ s.is ∙ ap (λ (d : Arrival). s.before ++ d ∷ s.after) same_letter })
