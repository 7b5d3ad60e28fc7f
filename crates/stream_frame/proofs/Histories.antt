-- What all calls of a reader leave: the bytes taken are the frames handed out followed by the bytes held.
use Rattle.std.proofs.Common.{◌≡◌, inl, inr, ℕ, ◌<◌, ◌≤◌, ◌^◌, ◌++◌, Bool, true, false, List, [], ◌∷◌, length, take, drop, min, refl, ap, sym, subst, ◌∙◌, arith, append_assoc, append-nil, length-append, All}
use Rattle.std.proofs.lemmas.List.{drop_at, length-take}
use Rattle.std.proofs.lemmas.List.Elements.{All-nil, All-push, All-append, All-take}
use Rattle.std.proofs.lemmas.Grind.{flat_map-append}
use Rattle.dcp_types.proofs.Digits.{same_number}
use Rattle.stream_frame.specs.declared.frames.Frame.{Frame}
use Rattle.stream_frame.specs.declared.frames.Frame.TheVariants.{Whole, NotYet, Bad}
use Rattle.stream_frame.specs.Frames.{AreBytes, IsFrame, in_stream, all_in_stream, BeginsWith, HasFrame, BeginsBad, IsBad}
use Rattle.stream_frame.specs.Framing.{Framing, Asks, fresh_framing, space_of, space}
use Rattle.stream_frame.specs.Calls.{FrameCall, Fed, Asked, taken_bytes, handed, last_handed, is_refused, held_bytes, IsAnswered, AreAnswered, StandsByCalls}
use Rattle.stream_frame.specs.Laws.{StaysBad, IsExact}
use Rattle.stream_frame.proofs.Cuts.{no_frame_is_bad, decide, all_rest, first_frames}

by_test : {P : Type 0} → (b : Bool) → (b ≡ true → P) → (b ≡ false → P) → P
by_test true f g = f refl
by_test false f g = g refl

pub record Kept (calls : List FrameCall) : Type 0 where
  pub whole : taken_bytes calls ≡ all_in_stream (handed calls) ++ held_bytes calls
  pub are_frames : All IsFrame (handed calls)
  pub are_bytes : AreBytes (held_bytes calls)
  pub few : length (held_bytes calls) ≤ 1028
  pub bad : is_refused calls ≡ true → IsBad (held_bytes calls)

-- what stands behind the frames
behind : (frames : List (List ℕ)) (bytes rest : List ℕ) → bytes ≡ all_in_stream frames ++ rest → drop (length (all_in_stream frames)) bytes ≡ rest
behind frames bytes rest e = ap (drop (length (all_in_stream frames))) e ∙ drop_at (all_in_stream frames) rest (length (all_in_stream frames)) refl

-- ---- a feed

fed_whole : (calls : List FrameCall) (piece : List ℕ) (count : ℕ) → Kept calls → taken_bytes (Fed piece count ∷ calls) ≡ all_in_stream (handed calls) ++ (held_bytes calls ++ take count piece)
fed_whole calls piece count k = ap (λ (l : List ℕ). l ++ take count piece) k.whole ∙ append_assoc (all_in_stream (handed calls)) (held_bytes calls) (take count piece)

pub fed_held : (calls : List FrameCall) (piece : List ℕ) (count : ℕ) → Kept calls → held_bytes (Fed piece count ∷ calls) ≡ held_bytes calls ++ take count piece
fed_held calls piece count k = behind (handed calls) (taken_bytes (Fed piece count ∷ calls)) (held_bytes calls ++ take count piece) (fed_whole calls piece count k)

few_held : (b : Bool) (old piece : List ℕ) (count : ℕ) → count ≡ min (length piece) (space_of b old) → length old ≤ 1028 → length (old ++ take count piece) ≤ 1028
few_held true old piece count e few =
    let a = length-append old (take count piece) in
    let t = length-take count piece in
    omega (arith, a, t, e, few)
few_held false old piece count e few =
    let a = length-append old (take count piece) in
    let t = length-take count piece in
    omega (arith, a, t, e, few)

none_fed : (b : Bool) (old piece : List ℕ) (count : ℕ) → count ≡ min (length piece) (space_of b old) → b ≡ true → count ≡ 0
none_fed true old piece count e is = omega (arith, e)
none_fed false old piece count e is = absurd cc

still_held : (calls : List FrameCall) (piece : List ℕ) (count : ℕ) → Kept calls → count ≡ 0 → held_bytes (Fed piece count ∷ calls) ≡ held_bytes calls
still_held calls piece count k z = fed_held calls piece count k ∙ ap (λ (n : ℕ). held_bytes calls ++ take n piece) z ∙ append-nil (held_bytes calls)

fed_kept : (calls : List FrameCall) (piece : List ℕ) (count : ℕ) → Kept calls → IsAnswered calls (Fed piece count) → Kept (Fed piece count ∷ calls)
fed_kept calls piece count k a =
    let h = fed_held calls piece count k in
    record {
      whole = fed_whole calls piece count k ∙ ap (λ (l : List ℕ). all_in_stream (handed calls) ++ l) (sym h);
      are_frames = k.are_frames;
      are_bytes = subst AreBytes (sym h) (All-append (λ b. b < 256) (held_bytes calls) (take count piece) k.are_bytes (All-take (λ b. b < 256) count piece a.0));
      few = subst (λ (l : List ℕ). length l ≤ 1028) (sym h) (few_held (is_refused calls) (held_bytes calls) piece count a.1 k.few);
      bad = λ is. subst IsBad (sym (still_held calls piece count k (none_fed (is_refused calls) (held_bytes calls) piece count a.1 is))) (k.bad is);
    }

-- ---- a frame is handed out

handed_whole : (calls : List FrameCall) (frame rest : List ℕ) → Kept calls → BeginsWith (held_bytes calls) frame rest → taken_bytes calls ≡ all_in_stream (handed calls ++ frame ∷ []) ++ rest
handed_whole calls frame rest k b =
    let all = all_in_stream (handed calls) in
    let one : all_in_stream (handed calls ++ frame ∷ []) ≡ all ++ in_stream frame = flat_map-append in_stream (handed calls) (frame ∷ []) ∙ ap (λ (l : List ℕ). all ++ l) (append-nil (in_stream frame)) in
    k.whole ∙ ap (λ (l : List ℕ). all ++ l) b.cut ∙ sym (append_assoc all (in_stream frame) rest) ∙ ap (λ (l : List ℕ). l ++ rest) (sym one)

pub handed_held : (calls : List FrameCall) (frame rest : List ℕ) → Kept calls → BeginsWith (held_bytes calls) frame rest → held_bytes (Asked Whole frame ∷ calls) ≡ rest
handed_held calls frame rest k b = behind (handed calls ++ frame ∷ []) (taken_bytes calls) rest (handed_whole calls frame rest k b)

handed_kept : (calls : List FrameCall) (frame rest : List ℕ) → Kept calls → BeginsWith (held_bytes calls) frame rest → Kept (Asked Whole frame ∷ calls)
handed_kept calls frame rest k b =
    let h = handed_held calls frame rest k b in
    let a = ap (λ (l : List ℕ). length l) b.cut in
    let s = length-append (in_stream frame) rest in
    record {
      whole = handed_whole calls frame rest k b ∙ ap (λ (l : List ℕ). all_in_stream (handed calls ++ frame ∷ []) ++ l) (sym h);
      are_frames = All-push IsFrame (handed calls) frame k.are_frames b.is_frame;
      are_bytes = subst AreBytes (sym h) (all_rest (held_bytes calls) frame rest b k.are_bytes);
      few = subst (λ (l : List ℕ). length l ≤ 1028) (sym h) (let f = k.few in omega (arith, a, s, f));
      bad = λ is. absurd (let r = k.bad is in no_frame_is_bad (held_bytes calls) frame rest r.0 b r.1);
    }

-- ---- call by call

same_kept : (calls after : List FrameCall) → Kept calls → taken_bytes after ≡ taken_bytes calls → handed after ≡ handed calls → (is_refused after ≡ true → IsBad (held_bytes calls)) → Kept after
same_kept calls after k t f bad =
    let h : held_bytes after ≡ held_bytes calls = ap (λ (frames : List (List ℕ)). drop (length (all_in_stream frames)) (taken_bytes after)) f ∙ ap (drop (length (all_in_stream (handed calls)))) t in
    record {
      whole = t ∙ k.whole ∙ ap (λ (frames : List (List ℕ)). all_in_stream frames ++ held_bytes calls) (sym f) ∙ ap (λ (l : List ℕ). all_in_stream (handed after) ++ l) (sym h);
      are_frames = subst (All IsFrame) (sym f) k.are_frames;
      are_bytes = subst AreBytes (sym h) k.are_bytes;
      few = subst (λ (l : List ℕ). length l ≤ 1028) (sym h) k.few;
      bad = λ is. subst IsBad (sym h) (bad is);
    }

pub kept : (calls : List FrameCall) → AreAnswered calls → Kept calls
kept [] a = record { whole = refl; are_frames = All-nil IsFrame; are_bytes = All-nil (λ b. b < 256); few = omega arith; bad = λ is. absurd cc }
kept (Fed piece count ∷ calls) a = fed_kept calls piece count (kept calls a.1) a.0
kept (Asked Whole last ∷ calls) a = handed_kept calls last a.0.0 (kept calls a.1) a.0.1
kept (Asked NotYet last ∷ calls) a = let k = kept calls a.1 in same_kept calls (Asked NotYet last ∷ calls) k refl refl k.bad
kept (Asked (Bad n) last ∷ calls) a = same_kept calls (Asked (Bad n) last ∷ calls) (kept calls a.1) refl refl (λ is. (n, a.0.0))

-- ---- after a bad length

record Refused (calls : List FrameCall) (n : ℕ) : Type 0 where
  pub is : is_refused calls ≡ true
  pub begins : BeginsBad (held_bytes calls) n

refused_since : (since before : List FrameCall) (last : List ℕ) (n : ℕ) → AreAnswered (since ++ Asked (Bad n) last ∷ before) → Refused (since ++ Asked (Bad n) last ∷ before) n
refused_since [] before last n a = record { is = refl; begins = a.0.0 }
refused_since (Fed piece count ∷ since) before last n a =
    let calls = since ++ Asked (Bad n) last ∷ before in
    let r = refused_since since before last n a.1 in
    let same = still_held calls piece count (kept calls a.1) (none_fed (is_refused calls) (held_bytes calls) piece count a.0.1 r.is) in
    record { is = r.is; begins = subst (λ (l : List ℕ). BeginsBad l n) (sym same) r.begins }
refused_since (Asked Whole frame ∷ since) before last n a =
    let calls = since ++ Asked (Bad n) last ∷ before in
    let r = refused_since since before last n a.1 in
    absurd (no_frame_is_bad (held_bytes calls) frame a.0.0 n a.0.1 r.begins)
refused_since (Asked NotYet frame ∷ since) before last n a =
    let r = refused_since since before last n a.1 in
    record { is = r.is; begins = r.begins }
refused_since (Asked (Bad m) frame ∷ since) before last n a =
    let r = refused_since since before last n a.1 in
    record { is = refl; begins = r.begins }

one_length : (bytes : List ℕ) (m n : ℕ) → BeginsBad bytes m → BeginsBad bytes n → m ≡ n
one_length bytes m n b c =
    let bm : m < 256 ^ 4 = b.fits in
    let bn : n < 256 ^ 4 = c.fits in
    same_number 4 m n bm bn (sym b.begins ∙ c.begins)

stays_bad : (call : FrameCall) (calls : List FrameCall) (n : ℕ) → IsAnswered calls call → Refused calls n → StaysBad n call
stays_bad (Fed piece count) calls n a r = none_fed (is_refused calls) (held_bytes calls) piece count a.1 r.is
stays_bad (Asked Whole frame) calls n a r = absurd (no_frame_is_bad (held_bytes calls) frame a.0 n a.1 r.begins)
stays_bad (Asked NotYet frame) calls n a r = absurd (a.1 (n, r.begins))
stays_bad (Asked (Bad m) frame) calls n a r = ap Bad (one_length (held_bytes calls) m n a.0 r.begins)

-- ---- where more is wanted

pub room_left : (b : Bool) (bytes : List ℕ) → (b ≡ true → ⊥) → length bytes < 1028 → 1 ≤ space_of b bytes
room_left true bytes never few = absurd (never refl)
room_left false bytes never few = omega (arith, few)

wanted : (calls : List FrameCall) (last : List ℕ) → AreAnswered calls → IsAnswered calls (Asked NotYet last) → 1 ≤ space_of (is_refused calls) (held_bytes calls)
wanted calls last are a =
    let k = kept calls are in
    elim (decide (held_bytes calls) k.are_bytes) [
      | inl h ↦ absurd (a.0 h)
      | inr none ↦ elim none.bad_or_few [
        | inl b ↦ absurd (a.1 b)
        | inr few ↦ room_left (is_refused calls) (held_bytes calls) (λ is. a.1 (k.bad is)) few
      ]
    ]

pub exact : (calls : List FrameCall) → AreAnswered calls → IsExact calls
exact calls are =
    let k = kept calls are in
    record {
      whole = k.whole;
      are_frames = k.are_frames;
      few = k.few;
      first = λ frames rest c. first_frames (handed calls) frames (taken_bytes calls) (held_bytes calls) rest k.are_frames k.whole c;
      wanting = λ before last e. let a : AreAnswered (Asked NotYet last ∷ before) = subst AreAnswered e are in
          subst (λ (l : List FrameCall). 1 ≤ space_of (is_refused l) (held_bytes l)) (sym e) (wanted before last a.1 a.0);
      bad = λ call last n since before e. let a : AreAnswered (call ∷ (since ++ Asked (Bad n) last ∷ before)) = subst AreAnswered e are in
          stays_bad call (since ++ Asked (Bad n) last ∷ before) n a.0 (refused_since since before last n a.1);
    }

-- ---- a reader and its calls

pub stands_fed : (old new : Framing) (piece : List ℕ) (count : ℕ) → AreBytes piece → count ≡ min (length piece) (space old)
    → new ≡ record old { held = old.held ++ take count piece } → (calls : List FrameCall) → StandsByCalls old calls → StandsByCalls new (Fed piece count ∷ calls)
stands_fed old new piece count bytes e is calls s =
    let k = kept calls s.answered in
    let room : space old ≡ space_of (is_refused calls) (held_bytes calls) = ap (λ (b : Bool). space_of b old.held) s.is_refused ∙ ap (space_of (is_refused calls)) s.held in
    record {
      answered = ((bytes, e ∙ ap (min (length piece)) room), s.answered);
      held = ap (λ (f : Framing). f.held) is ∙ ap (λ (l : List ℕ). l ++ take count piece) s.held ∙ sym (fed_held calls piece count k);
      last = ap (λ (f : Framing). f.last) is ∙ s.last;
      is_refused = ap (λ (f : Framing). f.is_refused) is ∙ s.is_refused;
    }

pub stands_asked : (answer : Frame) (old new : Framing) → Asks old new answer → (calls : List FrameCall) → StandsByCalls old calls → StandsByCalls new (Asked answer new.last ∷ calls)
stands_asked Whole old new a calls s =
    let b : BeginsWith (held_bytes calls) new.last new.held = subst (λ (l : List ℕ). BeginsWith l new.last new.held) s.held a.0 in
    record {
      answered = ((new.held, b), s.answered);
      held = sym (handed_held calls new.last new.held (kept calls s.answered) b);
      last = refl;
      is_refused = a.1 ∙ s.is_refused;
    }
stands_asked NotYet old new a calls s =
    let last : new.last ≡ last_handed calls = ap (λ (f : Framing). f.last) a.2 ∙ s.last in
    record {
      answered = ((subst (λ (l : List ℕ). ¬ HasFrame l) s.held a.0, subst (λ (l : List ℕ). ¬ IsBad l) s.held a.1, last), s.answered);
      held = ap (λ (f : Framing). f.held) a.2 ∙ s.held;
      last = last;
      is_refused = ap (λ (f : Framing). f.is_refused) a.2 ∙ s.is_refused;
    }
stands_asked (Bad n) old new a calls s =
    let last : new.last ≡ last_handed calls = ap (λ (f : Framing). f.last) a.1 ∙ s.last in
    record {
      answered = ((subst (λ (l : List ℕ). BeginsBad l n) s.held a.0, last), s.answered);
      held = ap (λ (f : Framing). f.held) a.1 ∙ s.held;
      last = last;
      is_refused = ap (λ (f : Framing). f.is_refused) a.1;
    }

pub stands_fresh : (reader : Framing) → reader ≡ fresh_framing → StandsByCalls reader []
stands_fresh reader e = record {
  answered = tt;
  held = ap (λ (f : Framing). f.held) e;
  last = ap (λ (f : Framing). f.last) e;
  is_refused = ap (λ (f : Framing). f.is_refused) e;
}
