use Rattle.std.proofs.Common.{◌≡◌, ◌+◌, ◌≤◌, ◌<◌, Bool, true, false, length, refl, sym, ap, subst, arith}
use Rattle.stream_frame.specs.declared.frames.Frame.TheVariants.{Whole, NotYet}
use Rattle.stream_frame.specs.Frames.{IsBad}
use Rattle.stream_frame.specs.Framing.{Framing, Asks}
use Rattle.stream_frame.proofs.Cuts.{short_has_none, wanting_has_none, whole_frame, no_frame_is_bad}
use Rattle.stream_frame.proofs.Histories.{stands_asked, room_left}
use Rattle.stream_frame.proofs.readers.FrameReader.next_frame.Goals as goal

pub returns-in-None-clause-step : goal.returns-in-None-clause-step
returns-in-None-clause-step c =
    let old = c.args.self.now in
    let P : Framing → Type 0 = λ f. f.is_refused ≡ true → IsBad f.held in
    let bad = subst P c.self.view_is c.self.invariant.2 in
    let s = short_has_none old.held c.in-None.ensures in
    (s.0, s.1, refl, room_left old.is_refused old.held (λ is. s.1 (bad is)) (omega (arith, c.in-None.ensures)))

pub returns-in-None-clause-stands : goal.returns-in-None-clause-stands
returns-in-None-clause-stands c =
    let old = c.args.self.now in
    let P : Framing → Type 0 = λ f. f.is_refused ≡ true → IsBad f.held in
    let bad = subst P c.self.view_is c.self.invariant.2 in
    let s = short_has_none old.held c.in-None.ensures in
    stands_asked NotYet old old (s.0, s.1, refl, room_left old.is_refused old.held (λ is. s.1 (bad is)) (omega (arith, c.in-None.ensures)))

pub returns-then-len-size-clause-step : goal.returns-then-len-size-clause-step
returns-then-len-size-clause-step c =
    let old = c.args.self.now in
    let n = c.in-Some.length in
    let held = ap (λ (f : Framing). length f.held) c.self.view_is in
    let P : Framing → Type 0 = λ f. f.is_refused ≡ true → IsBad f.held in
    let bad = subst P c.self.view_is c.self.invariant.2 in
    let low : 1 ≤ n = omega arith in
    let high : n ≤ 1024 = omega arith in
    let few : length old.held < 4 + n = omega (arith, held) in
    let s = wanting_has_none old.held n c.in-Some.ensures.1 c.in-Some.ensures.2 low high few in
    (s.0, s.1, refl, room_left old.is_refused old.held (λ is. s.1 (bad is)) (omega (arith, few, high)))

pub returns-then-len-size-clause-stands : goal.returns-then-len-size-clause-stands
returns-then-len-size-clause-stands c =
    let old = c.args.self.now in
    let n = c.in-Some.length in
    let held = ap (λ (f : Framing). length f.held) c.self.view_is in
    let P : Framing → Type 0 = λ f. f.is_refused ≡ true → IsBad f.held in
    let bad = subst P c.self.view_is c.self.invariant.2 in
    let low : 1 ≤ n = omega arith in
    let high : n ≤ 1024 = omega arith in
    let few : length old.held < 4 + n = omega (arith, held) in
    let s = wanting_has_none old.held n c.in-Some.ensures.1 c.in-Some.ensures.2 low high few in
    stands_asked NotYet old old (s.0, s.1, refl, room_left old.is_refused old.held (λ is. s.1 (bad is)) (omega (arith, few, high)))

pub returns-clause-stands : goal.returns-clause-stands
returns-clause-stands c =
    let old = c.args.self.now in
    let n = c.in-Some.length in
    let held = ap (λ (f : Framing). length f.held) c.self.view_is in
    let low : 1 ≤ n = omega arith in
    let high : n ≤ 1024 = omega arith in
    let within : 4 + n ≤ length old.held = omega (arith, held) in
    let P : Framing → Type 0 = λ f. Asks old f Whole in
    stands_asked Whole old c.hand_out.new.self (subst P (sym c.hand_out.ensures) (whole_frame old.held n c.in-Some.ensures.2 low high within, refl))

never_true : (b : Bool) → (b ≡ true → ⊥) → b ≡ false
never_true true h = absurd (h refl)
never_true false h = refl

pub hand_out-requires-clause-open : goal.hand_out-requires-clause-open
hand_out-requires-clause-open c =
    let old = c.args.self.now in
    let n = c.in-Some.length in
    let held = ap (λ (f : Framing). length f.held) c.self.view_is in
    let P : Framing → Type 0 = λ f. f.is_refused ≡ true → IsBad f.held in
    let bad = subst P c.self.view_is c.self.invariant.2 in
    let low : 1 ≤ n = omega arith in
    let high : n ≤ 1024 = omega arith in
    let within : 4 + n ≤ length old.held = omega (arith, held) in
    never_true old.is_refused (λ is. let b = bad is in no_frame_is_bad old.held _ _ b.0 (whole_frame old.held n c.in-Some.ensures.2 low high within) b.1)
