-- The bytes that an inlet takes, and the messages that it hands out.
use Rattle.std.proofs.Common.{◌≡◌, inl, inr, ℕ, ◌+◌, ◌-◌, ◌<◌, ◌≤◌, ◌++◌, List, [], ◌∷◌, length, take, drop, min, ap, sym, subst, ◌∙◌, arith, append_assoc, append-nil, length-append}
use Rattle.std.proofs.lemmas.Bool.{cases_lt}
use Rattle.std.proofs.lemmas.List.{take_at, drop_at, take_all, drop_all, take-append-le, drop-append-le, length-take, length-drop}
use Rattle.std.proofs.lemmas.List.Elements.{All-push}
use Rattle.std.proofs.lemmas.Grind.{flat_map-append}
use Rattle.stream_frame.specs.Frames.{IsFrame, in_stream, all_in_stream, BeginsWith}
use Rattle.stream_frame.specs.Framing.{Framing, space}
use Rattle.stream_frame.specs.declared.inlets.Inward.{Inward}
use Rattle.stream_frame.specs.declared.inlets.Inward.TheVariants.{Gram, NotYet, Bad}
use Rattle.stream_frame.specs.Inlets.{Arriving, greets, reads, Feeds, AsksForMessage, Receives, with_received}
use Rattle.stream_frame.proofs.Flushing.{take-add}

pub feeds : (old new : Arriving) (piece rest : List ℕ) (first more : ℕ) → first ≡ greets old piece → rest ≡ drop first piece → more ≡ min (length rest) (space old.reader)
    → new.greeting ≡ old.greeting ++ take first piece → new.reader ≡ record old.reader { held = old.reader.held ++ take more rest } → Feeds old new piece (first + more)
feeds old new piece rest first more e r f g h =
    let behind : rest ≡ drop (greets old piece) piece = r ∙ ap (λ (n : ℕ). drop n piece) e in
    let count : more ≡ reads old piece = f ∙ ap (λ (l : List ℕ). min (length l) (space old.reader)) behind in
    let put : List ℕ → Framing = λ l. record old.reader { held = old.reader.held ++ l } in
    record {
      count = ap (λ (n : ℕ). n + more) e ∙ ap (λ (n : ℕ). greets old piece + n) count;
      greeting = g ∙ ap (λ (n : ℕ). old.greeting ++ take n piece) e;
      reader = h ∙ ap (λ (n : ℕ). put (take n rest)) count ∙ ap (λ (l : List ℕ). put (take (reads old piece) l)) behind;
    }

-- bytes that come behind a whole greeting
record Fits (bytes piece held : List ℕ) (stream : List ℕ) (g r : ℕ) : Type 0 where
  pub front : take 6 bytes ++ take g piece ≡ take 6 (bytes ++ take (g + r) piece)
  pub behind : drop 6 (bytes ++ take (g + r) piece) ≡ stream ++ (held ++ take r (drop g piece))

fits_whole : (bytes piece held stream : List ℕ) (g r : ℕ) → g ≡ 0 → 6 ≤ length bytes → drop 6 bytes ≡ stream ++ held → Fits bytes piece held stream g r
fits_whole bytes piece held stream g r none long e =
    let z : g + r ≡ r = omega (arith, none) in
    let same : take (g + r) piece ≡ take r (drop g piece) = ap (λ (n : ℕ). take n piece) z ∙ ap (λ (n : ℕ). take r (drop n piece)) (sym none) in
    record {
      front = ap (λ (n : ℕ). take 6 bytes ++ take n piece) none ∙ append-nil (take 6 bytes) ∙ sym (take-append-le 6 bytes (take (g + r) piece) long);
      behind = drop-append-le 6 bytes (take (g + r) piece) long ∙ ap (λ (l : List ℕ). l ++ take (g + r) piece) e ∙ append_assoc stream held (take (g + r) piece) ∙ ap (λ (l : List ℕ). stream ++ (held ++ l)) same;
    }

fits_part : (bytes piece held stream : List ℕ) (g r : ℕ) → g ≡ min (length piece) (6 - length bytes) → r ≤ length (drop g piece) → length bytes < 6 → drop 6 bytes ≡ stream ++ held → Fits bytes piece held stream g r
fits_part bytes piece held stream g r is few short e =
    let l0 = length-take g piece in
    let l1 = length-append bytes (take g piece) in
    let l2 = length-drop g piece in
    let whole : take 6 bytes ≡ bytes = take_all 6 bytes (omega (arith, short)) in
    let empty : stream ++ held ≡ [] = sym e ∙ drop_all 6 bytes (omega (arith, short)) in
    let split : bytes ++ take (g + r) piece ≡ (bytes ++ take g piece) ++ take r (drop g piece) =
    ap (λ (l : List ℕ). bytes ++ l) (sym (take-add g r piece)) ∙ sym (append_assoc bytes (take g piece) (take r (drop g piece))) in
    let after : stream ++ (held ++ take r (drop g piece)) ≡ take r (drop g piece) =
    sym (append_assoc stream held (take r (drop g piece))) ∙ ap (λ (l : List ℕ). l ++ take r (drop g piece)) empty in
    elim (cases_lt (length (bytes ++ take g piece)) 6) [
      | inl less ↦
          let none : r ≡ 0 = omega (arith, l0, l1, l2, is, few, less, short) in
          let l3 : take r (drop g piece) ≡ [] = ap (λ (n : ℕ). take n (drop g piece)) none in
          let all : bytes ++ take (g + r) piece ≡ bytes ++ take g piece = split ∙ ap (λ (l : List ℕ). bytes ++ take g piece ++ l) l3 ∙ append-nil (bytes ++ take g piece) in
          record {
            front = ap (λ (l : List ℕ). l ++ take g piece) whole ∙ sym (take_all 6 (bytes ++ take g piece) (omega (arith, less))) ∙ ap (take 6) (sym all);
            behind = ap (drop 6) all ∙ drop_all 6 (bytes ++ take g piece) (omega (arith, less)) ∙ sym (after ∙ l3);
          }
      | inr enough ↦
          let six : length (bytes ++ take g piece) ≡ 6 = omega (arith, l0, l1, is, enough, short) in
          record {
            front = ap (λ (l : List ℕ). l ++ take g piece) whole ∙ sym (take_at (bytes ++ take g piece) (take r (drop g piece)) 6 six) ∙ ap (take 6) (sym split);
            behind = ap (drop 6) split ∙ drop_at (bytes ++ take g piece) (take r (drop g piece)) 6 six ∙ sym after;
          }
    ]

fits : (bytes piece held stream : List ℕ) (g r : ℕ) → g ≡ min (length piece) (6 - length (take 6 bytes)) → r ≤ length (drop g piece) → drop 6 bytes ≡ stream ++ held → Fits bytes piece held stream g r
fits bytes piece held stream g r is few e =
    let l = length-take 6 bytes in
    elim (cases_lt (length bytes) 6) [
      | inl short ↦ fits_part bytes piece held stream g r (omega (arith, is, l, short)) few short e
      | inr long ↦ fits_whole bytes piece held stream g r (omega (arith, is, l, long)) long e
    ]

pub fed_receives : (old new : Arriving) (piece : List ℕ) (taken : ℕ) → Feeds old new piece taken
    → (bytes : List ℕ) (grams : List (List ℕ)) → Receives old bytes grams → Receives new (bytes ++ take taken piece) grams
fed_receives old new piece taken f bytes grams r =
    let g = greets old piece in
    let is : g ≡ min (length piece) (6 - length (take 6 bytes)) = ap (λ (l : List ℕ). min (length piece) (6 - length l)) r.greeting in
    let few : reads old piece ≤ length (drop g piece) = omega arith in
    let t : Fits bytes piece old.reader.held (all_in_stream grams) g (reads old piece) = fits bytes piece old.reader.held (all_in_stream grams) g (reads old piece) is few r.stream in
    let P : ℕ → Type 0 = λ n. Receives new (bytes ++ take n piece) grams in
    subst P (sym f.count) (record {
      greeting = f.greeting ∙ ap (λ (l : List ℕ). l ++ take g piece) r.greeting ∙ t.front;
      stream = t.behind ∙ ap (λ (x : Framing). all_in_stream grams ++ x.held) (sym f.reader);
      are_frames = r.are_frames;
    })

one_more : (grams : List (List ℕ)) (gram held left : List ℕ) → BeginsWith held gram left → all_in_stream grams ++ held ≡ all_in_stream (grams ++ gram ∷ []) ++ left
one_more grams gram held left b =
    let all = all_in_stream grams in
    let one : all_in_stream (grams ++ gram ∷ []) ≡ all ++ in_stream gram = flat_map-append in_stream grams (gram ∷ []) ∙ ap (λ (l : List ℕ). all ++ l) (append-nil (in_stream gram)) in
    ap (λ (l : List ℕ). all ++ l) b.cut ∙ sym (append_assoc all (in_stream gram) left) ∙ ap (λ (l : List ℕ). l ++ left) (sym one)

pub asked_receives : (answer : Inward) (old new : Arriving) → AsksForMessage old new answer
    → (bytes : List ℕ) (grams : List (List ℕ)) → Receives old bytes grams → Receives new bytes (with_received answer new grams)
asked_receives (Gram from) old new a bytes grams r = record {
  greeting = a.1 ∙ r.greeting;
  stream = r.stream ∙ one_more grams new.reader.last old.reader.held new.reader.held a.2.0;
  are_frames = All-push IsFrame grams new.reader.last r.are_frames a.2.0.is_frame;
}
asked_receives NotYet old new a bytes grams r = subst (λ (x : Arriving). Receives x bytes grams) (sym a.0) r
asked_receives (Bad n) old new a bytes grams r = record {
  greeting = a.1 ∙ r.greeting;
  stream = r.stream ∙ ap (λ (x : Framing). all_in_stream grams ++ x.held) (sym a.2.1);
  are_frames = r.are_frames;
}
