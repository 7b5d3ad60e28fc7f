-- One more event, and one more message.
use Rattle.std.proofs.Common.{◌≡◌, ℕ, zero, suc, ◌+◌, ◌<◌, List, [], ◌∷◌, ◌++◌, length, map, take, drop, get_or, refl, ap, sym, subst, ◌∙◌, arith, append_assoc, append-nil, Some, None}
use Rattle.std.specs.Prelude.{slice_get}
use Rattle.std.proofs.Math.Seq.{drop-cons, drop-length}
use Rattle.std.proofs.lemmas.List.{map-append, take_more}
use Rattle.std.proofs.lemmas.Grind.{flat_map-append}
use Rattle.dcp_ends.specs.Events.{Event, Send, Rules}
use Rattle.pdu_layout.specs.Reading.{message_in}
use Rattle.talk_text.specs.Talks.{event_of_talk}
use Rattle.talk_text.specs.Saying.{sends_over, line_shown, lines_shown}
use Rattle.talk_text.specs.declared.events.TalkEvent.{TalkEvent}

shown-append : (a b : List Send) → lines_shown (a ++ b) ≡ lines_shown a ++ lines_shown b
shown-append a b = flat_map-append (λ (s : Send). line_shown (message_in s.bytes)) a b

-- ---- one more message of those that are outgoing

taken_one : (outs : List Send) (i : ℕ) (s : Send) → slice_get outs i ≡ Some s → take (i + 1) outs ≡ take i outs ++ s ∷ []
taken_one [] i s e = absurd cc
taken_one (x ∷ outs) zero s e = cc
taken_one (x ∷ outs) (suc i) s e =
    let one : suc i + 1 ≡ suc (i + 1) = omega arith in
    ap (λ (k : ℕ). take k (x ∷ outs)) one ∙ ap (λ (l : List Send). x ∷ l) (taken_one outs i s e)

pub taken_none : (outs : List Send) (i : ℕ) → slice_get outs i ≡ None → take i outs ≡ outs
taken_none [] zero e = refl
taken_none [] (suc i) e = refl
taken_none (x ∷ outs) zero e = absurd cc
taken_none (x ∷ outs) (suc i) e = ap (λ (l : List Send). x ∷ l) (taken_none outs i e)

pub line_more : (outs : List Send) (i : ℕ) (to : Send) (old before after : List ℕ) → slice_get outs i ≡ Some to
    → before ≡ old ++ lines_shown (take i outs) → after ≡ before ++ line_shown (message_in to.bytes) → after ≡ old ++ lines_shown (take (i + 1) outs)
line_more outs i to old before after e b a =
    let all : List ℕ → List ℕ = λ x. old ++ x in
    let one : lines_shown (to ∷ []) ≡ line_shown (message_in to.bytes) = append-nil (line_shown (message_in to.bytes)) in
    a ∙ ap (λ (x : List ℕ). x ++ line_shown (message_in to.bytes)) b ∙ append_assoc old (lines_shown (take i outs)) (line_shown (message_in to.bytes))
    ∙ ap (λ (x : List ℕ). old ++ (lines_shown (take i outs) ++ x)) (sym one)
    ∙ ap all (sym (shown-append (take i outs) (to ∷ [])))
    ∙ ap (λ (x : List Send). old ++ lines_shown x) (sym (taken_one outs i to e))

-- ---- one more event

pub record Going (rules : Rules) (stands : List Event → Type 0) (events : List TalkEvent) (i : ℕ) (before : List Event) (old text : List ℕ) : Type 0 where
  pub at : stands (before ++ map event_of_talk (take i events))
  pub same : text ++ lines_shown (sends_over rules (before ++ map event_of_talk (take i events)) (map event_of_talk (drop i events))) ≡ old ++ lines_shown (sends_over rules before (map event_of_talk events))

module _ (events : List TalkEvent) (i : ℕ) (e : TalkEvent) (h : i < length events) (is : e ≡ get_or events i e) (before : List Event) where
  done_more : before ++ map event_of_talk (take (i + 1) events) ≡ (before ++ map event_of_talk (take i events)) ++ event_of_talk e ∷ []
  done_more =
      let f : List TalkEvent → List Event = λ l. before ++ map event_of_talk l in
      let g : List Event → List Event = λ l. before ++ l in
      ap f (take_more events i e h ∙ ap (λ (x : TalkEvent). take i events ++ x ∷ []) (sym is))
      ∙ ap g (map-append event_of_talk (take i events) (e ∷ []))
      ∙ sym (append_assoc before (map event_of_talk (take i events)) (event_of_talk e ∷ []))

  rest_more : map event_of_talk (drop i events) ≡ event_of_talk e ∷ map event_of_talk (drop (i + 1) events)
  rest_more =
      let one : suc i ≡ i + 1 = omega arith in
      ap (map event_of_talk) (drop-cons events i e h ∙ ap (λ (x : TalkEvent). x ∷ drop (suc i) events) (sym is))
      ∙ ap (λ (k : ℕ). event_of_talk e ∷ map event_of_talk (drop k events)) one

pub event_more : (rules : Rules) (stands next : List Event → Type 0) (events : List TalkEvent) (i : ℕ) (e : TalkEvent) (before : List Event) (old text new : List ℕ) (outs : List Send)
    → i < length events → e ≡ get_or events i e → Going rules stands events i before old text
    → ((l : List Event) → stands l → next (l ++ event_of_talk e ∷ [])) → ((l : List Event) → stands l → outs ≡ rules.sends l (event_of_talk e))
    → new ≡ text ++ lines_shown outs → Going rules next events (i + 1) before old new
event_more rules stands next events i e before old text new outs h is g goes sends put =
    let b : List Event = before ++ map event_of_talk (take i events) in
    let rest : List Event = map event_of_talk (drop (i + 1) events) in
    let done = done_more events i e h is before in
    let first : List Send = rules.sends b (event_of_talk e) in
    let later : List Send = sends_over rules (b ++ event_of_talk e ∷ []) rest in
    record {
      at = subst next (sym done) (goes b g.at);
      same =
          ap (λ (l : List Event). new ++ lines_shown (sends_over rules l rest)) done
          ∙ ap (λ (x : List ℕ). x ++ lines_shown later) (put ∙ ap (λ (x : List Send). text ++ lines_shown x) (sends b g.at))
          ∙ append_assoc text (lines_shown first) (lines_shown later)
          ∙ ap (λ (x : List ℕ). text ++ x) (sym (shown-append first later))
          ∙ ap (λ (l : List Event). text ++ lines_shown (sends_over rules b l)) (sym (rest_more events i e h is before))
          ∙ g.same;
    }

pub begun : (rules : Rules) (stands : List Event → Type 0) (events : List TalkEvent) (before : List Event) (text : List ℕ) → stands before → Going rules stands events 0 before text text
begun rules stands events before text h =
    record {
      at = subst stands (sym (append-nil before)) h;
      same = ap (λ (l : List Event). text ++ lines_shown (sends_over rules l (map event_of_talk events))) (append-nil before);
    }

pub all_said : (rules : Rules) (stands : List Event → Type 0) (events : List TalkEvent) (i : ℕ) (before : List Event) (old text : List ℕ) → i ≡ length events → Going rules stands events i before old text
    → text ≡ old ++ lines_shown (sends_over rules before (map event_of_talk events))
all_said rules stands events i before old text e g =
    let none : drop i events ≡ [] = ap (λ (k : ℕ). drop k events) e ∙ drop-length events in
    sym (append-nil text) ∙ ap (λ (l : List TalkEvent). text ++ lines_shown (sends_over rules (before ++ map event_of_talk (take i events)) (map event_of_talk l))) (sym none) ∙ g.same
