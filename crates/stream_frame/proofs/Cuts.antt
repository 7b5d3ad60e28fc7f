-- Bytes are cut into frames in one way.
use Rattle.std.proofs.Common.{◌≡◌, ◌⊎◌, inl, inr, ℕ, zero, suc, ◌+◌, ◌-◌, ◌<◌, ◌≤◌, ◌^◌, ◌++◌, List, [], ◌∷◌, length, take, drop, get_or, refl, ap, sym, subst, ◌∙◌, arith, append_assoc, length-append, take-append-drop, All, lit<}
use Rattle.std.proofs.lemmas.List.{take_at, drop_at, drop-drop, length-take-le, length-drop}
use Rattle.std.proofs.lemmas.List.Elements.{All-nil, All-cons, All-head, All-tail, All-drop}
use Rattle.std.proofs.lemmas.Bool.{cases_lt}
use Rattle.std.proofs.lemmas.List.{get_or_past}
use Rattle.std.proofs.lemmas.List.Elements.{All-get_or, All-take}
use Rattle.byteorder.specs.Endian.{little_from}
use Rattle.byteorder.specs.Numbers.{little_from-lt}
use Rattle.dcp_types.specs.Values.{digits}
use Rattle.dcp_types.proofs.Digits.{length-digits, same_number, digits-little_from, IsBytes}
use Rattle.stream_frame.specs.Frames.{AreBytes, IsFrame, in_stream, all_in_stream, BeginsWith, HasFrame, IsRefusedLength, BeginsBad, IsBad, CutInto}

-- the first four bytes of a frame are its length
pub number_in_front : (bytes frame rest : List ℕ) → BeginsWith bytes frame rest → take 4 bytes ≡ digits 4 (length frame)
number_in_front bytes frame rest b =
    ap (take 4) (b.cut ∙ append_assoc (digits 4 (length frame)) frame rest) ∙ take_at (digits 4 (length frame)) (frame ++ rest) 4 (length-digits 4 (length frame))

fits : (frame : List ℕ) → IsFrame frame → length frame < 256 ^ 4
fits frame f = let h = f.high in let big : 1024 < 256 ^ 4 = lit< tt in omega (arith, h, big)

-- what stands behind the length
pub behind_front : (bytes frame rest : List ℕ) → BeginsWith bytes frame rest → drop 4 bytes ≡ frame ++ rest
behind_front bytes frame rest b =
    ap (drop 4) (b.cut ∙ append_assoc (digits 4 (length frame)) frame rest) ∙ drop_at (digits 4 (length frame)) (frame ++ rest) 4 (length-digits 4 (length frame))

-- the number in front is the length of the frame
pub length_in_front : (bytes frame rest : List ℕ) (n : ℕ) → BeginsWith bytes frame rest → n < 2 ^ 32 → take 4 bytes ≡ digits 4 n → length frame ≡ n
length_in_front bytes frame rest n b small e =
    let s : n < 256 ^ 4 = small in
    same_number 4 (length frame) n (fits frame b.is_frame) s (sym (number_in_front bytes frame rest b) ∙ e)

-- bytes begin with one frame at most
pub one_frame : (bytes frame rest other left : List ℕ) → BeginsWith bytes frame rest → BeginsWith bytes other left → (frame ≡ other) × (rest ≡ left)
one_frame bytes frame rest other left b c =
    let n : length frame ≡ length other = same_number 4 (length frame) (length other) (fits frame b.is_frame) (fits other c.is_frame) (sym (number_in_front bytes frame rest b) ∙ number_in_front bytes other left c) in
    let both : frame ++ rest ≡ other ++ left = sym (behind_front bytes frame rest b) ∙ behind_front bytes other left c in (
      sym (take_at frame rest (length frame) refl) ∙ ap (take (length frame)) both ∙ take_at other left (length frame) (sym n),
      sym (drop_at frame rest (length frame) refl) ∙ ap (drop (length frame)) both ∙ drop_at other left (length frame) (sym n),
    )

-- no frame has a refused length
pub no_frame_is_bad : (bytes frame rest : List ℕ) (n : ℕ) → BeginsWith bytes frame rest → BeginsBad bytes n → ⊥
no_frame_is_bad bytes frame rest n b r = never (length_in_front bytes frame rest n b r.fits r.begins) r.refused
  where
    never : length frame ≡ n → IsRefusedLength n → ⊥
    never e (inl z) = let l = b.is_frame.low in omega (arith, l, e, z)
    never e (inr h) = let l = b.is_frame.high in omega (arith, l, e, h)

-- a frame and its length take this many bytes
pub frame_size : (bytes frame rest : List ℕ) → BeginsWith bytes frame rest → length bytes ≡ 4 + length frame + length rest
frame_size bytes frame rest b =
    let a = ap (λ (l : List ℕ). length l) b.cut in
    let c = length-append (in_stream frame) rest in
    let d = length-append (digits 4 (length frame)) frame in
    let e = length-digits 4 (length frame) in
    omega (arith, a, c, d, e)

-- ---- what four bytes say

-- the frame that a length in front announces, where all of it is there
pub whole_frame : (bytes : List ℕ) (n : ℕ) → take 4 bytes ≡ digits 4 n → 1 ≤ n → n ≤ 1024 → 4 + n ≤ length bytes → BeginsWith bytes (take n (drop 4 bytes)) (drop (4 + n) bytes)
whole_frame bytes n e low high within =
    let behind : length (drop 4 bytes) ≡ length bytes - 4 = length-drop 4 bytes in
    let size : length (take n (drop 4 bytes)) ≡ n = length-take-le n (drop 4 bytes) (omega (arith, behind, within)) in
    let front : take 4 bytes ≡ digits 4 (length (take n (drop 4 bytes))) = e ∙ ap (digits 4) (sym size) in
    record {
      is_frame = record { low = omega (arith, size, low); high = omega (arith, size, high) };
      cut = sym (ap (λ (l : List ℕ). l ++ take n (drop 4 bytes) ++ drop (4 + n) bytes) (sym front)
          ∙ append_assoc (take 4 bytes) (take n (drop 4 bytes)) (drop (4 + n) bytes)
          ∙ ap (λ (l : List ℕ). take 4 bytes ++ (take n (drop 4 bytes) ++ l)) (sym (drop-drop n 4 bytes))
          ∙ ap (λ (l : List ℕ). take 4 bytes ++ l) (take-append-drop n (drop 4 bytes))
          ∙ take-append-drop 4 bytes);
    }

-- fewer than four bytes hold no frame and no bad length
pub short_has_none : (bytes : List ℕ) → length bytes < 4 → (¬ HasFrame bytes) × (¬ IsBad bytes)
short_has_none bytes few = (
  λ h. let s = frame_size bytes h.0 h.1 h.2 in omega (arith, s, few),
  λ h. let a = ap (λ (l : List ℕ). length l) h.1.begins in let d = length-digits 4 h.0 in let t = take_size 4 bytes in omega (arith, a, d, t, few),
)
  where
    take_size : (n : ℕ) (xs : List ℕ) → length (take n xs) ≤ length xs
    take_size zero xs = omega arith
    take_size (suc n) [] = omega arith
    take_size (suc n) (x ∷ xs) = let r = take_size n xs in omega (arith, r)

-- nor do the front of a frame
pub wanting_has_none : (bytes : List ℕ) (n : ℕ) → n < 2 ^ 32 → take 4 bytes ≡ digits 4 n → 1 ≤ n → n ≤ 1024 → length bytes < 4 + n → (¬ HasFrame bytes) × (¬ IsBad bytes)
wanting_has_none bytes n small e low high few = (
  λ h. let s = frame_size bytes h.0 h.1 h.2 in let l = length_in_front bytes h.0 h.1 n h.2 small e in omega (arith, s, l, few),
  λ h. not_refused h.0 h.1,
)
  where
    not_refused : (m : ℕ) → BeginsBad bytes m → ⊥
    not_refused m b =
        let bm : m < 256 ^ 4 = b.fits in
        let bn : n < 256 ^ 4 = small in
        let same : m ≡ n = same_number 4 m n bm bn (sym b.begins ∙ e) in
        by_cases same b.refused
      where
        by_cases : m ≡ n → IsRefusedLength m → ⊥
        by_cases s (inl z) = omega (arith, s, z, low)
        by_cases s (inr h) = omega (arith, s, h, high)

-- ---- one way

pub bytes_to_stream : (frame : List ℕ) (frames : List (List ℕ)) (rest : List ℕ) → all_in_stream (frame ∷ frames) ++ rest ≡ in_stream frame ++ (all_in_stream frames ++ rest)
bytes_to_stream frame frames rest = append_assoc (in_stream frame) (all_in_stream frames) rest

-- the first frame of bytes that are cut
first_of : (bytes : List ℕ) (frame : List ℕ) (frames : List (List ℕ)) (rest : List ℕ) → CutInto bytes (frame ∷ frames) rest → BeginsWith bytes frame (all_in_stream frames ++ rest)
first_of bytes frame frames rest c = record { is_frame = All-head IsFrame frame frames c.are_frames; cut = c.cut ∙ bytes_to_stream frame frames rest }

others_of : (bytes : List ℕ) (frame : List ℕ) (frames : List (List ℕ)) (rest : List ℕ) → CutInto bytes (frame ∷ frames) rest → CutInto (all_in_stream frames ++ rest) frames rest
others_of bytes frame frames rest c = record { are_frames = All-tail IsFrame frame frames c.are_frames; cut = refl; no_more = c.no_more }

recut : (bytes others : List ℕ) (frames : List (List ℕ)) (rest : List ℕ) → bytes ≡ others → CutInto bytes frames rest → CutInto others frames rest
recut bytes others frames rest e c = record { are_frames = c.are_frames; cut = sym e ∙ c.cut; no_more = c.no_more }

pub one_cut : (frames others : List (List ℕ)) (bytes rest left : List ℕ) → CutInto bytes frames rest → CutInto bytes others left → (frames ≡ others) × (rest ≡ left)
one_cut [] [] bytes rest left c d = (refl, sym c.cut ∙ d.cut)
one_cut [] (g ∷ gs) bytes rest left c d = absurd (c.no_more (g, all_in_stream gs ++ left, subst (λ (l : List ℕ). BeginsWith l g (all_in_stream gs ++ left)) c.cut (first_of bytes g gs left d)))
one_cut (f ∷ fs) [] bytes rest left c d = absurd (d.no_more (f, all_in_stream fs ++ rest, subst (λ (l : List ℕ). BeginsWith l f (all_in_stream fs ++ rest)) d.cut (first_of bytes f fs rest c)))
one_cut (f ∷ fs) (g ∷ gs) bytes rest left c d =
    let front = one_frame bytes f (all_in_stream fs ++ rest) g (all_in_stream gs ++ left) (first_of bytes f fs rest c) (first_of bytes g gs left d) in
    let back = one_cut fs gs (all_in_stream fs ++ rest) rest left (others_of bytes f fs rest c) (recut _ _ gs left (sym front.1) (others_of bytes g gs left d)) in
    (ap (λ (x : List ℕ). x ∷ fs) front.0 ∙ ap (λ (xs : List (List ℕ)). g ∷ xs) back.0, back.1)

-- ---- some way

each_byte : (bytes : List ℕ) → AreBytes bytes → IsBytes bytes
each_byte bytes all i = by_place (cases_lt i (length bytes))
  where
    by_place : (i < length bytes) ⊎ (length bytes ≤ i) → get_or bytes i 0 < 256
    by_place (inl h) = All-get_or (λ b. b < 256) bytes i 0 h all
    by_place (inr h) = let e = get_or_past bytes i 0 h in omega (arith, e)

-- a whole frame in front, or none, and then a bad length or room for more
pub record HasNone (bytes : List ℕ) : Type 0 where
  pub no_frame : ¬ HasFrame bytes
  pub bad_or_few : IsBad bytes ⊎ (length bytes < 1028)

abbrev pub Decided : List ℕ → Type 0
Decided bytes = HasFrame bytes ⊎ HasNone bytes

decide_four : (bytes : List ℕ) (n : ℕ) → n < 2 ^ 32 → take 4 bytes ≡ digits 4 n → Decided bytes
decide_four bytes n small e = by_low (cases_lt 0 n)
  where
    refused : IsRefusedLength n → Decided bytes
    refused r = let b : BeginsBad bytes n = record { fits = small; begins = e; refused = r } in
        inr (record { no_frame = λ h. no_frame_is_bad bytes h.0 h.1 n h.2 b; bad_or_few = inl (n, b) })

    by_size : 1 ≤ n → n ≤ 1024 → (length bytes < 4 + n) ⊎ (4 + n ≤ length bytes) → Decided bytes
    by_size low high (inl few) = let w = wanting_has_none bytes n small e low high few in inr (record { no_frame = w.0; bad_or_few = inr (omega (arith, few, high)) })
    by_size low high (inr all) = inl (take n (drop 4 bytes), drop (4 + n) bytes, whole_frame bytes n e low high all)

    by_high : 1 ≤ n → (1024 < n) ⊎ (n ≤ 1024) → Decided bytes
    by_high low (inl h) = refused (inr h)
    by_high low (inr h) = by_size low h (cases_lt (length bytes) (4 + n))

    by_low : (0 < n) ⊎ (n ≤ 0) → Decided bytes
    by_low (inl h) = by_high (omega (arith, h)) (cases_lt 1024 n)
    by_low (inr h) = refused (inl (omega (arith, h)))

pub decide : (bytes : List ℕ) → AreBytes bytes → Decided bytes
decide bytes all = by_size (cases_lt (length bytes) 4)
  where
    by_size : (length bytes < 4) ⊎ (4 ≤ length bytes) → Decided bytes
    by_size (inl few) = let s = short_has_none bytes few in inr (record { no_frame = s.0; bad_or_few = inr (omega (arith, few)) })
    by_size (inr h) =
        let four = take 4 bytes in
        let are : IsBytes four = each_byte four (All-take (λ b. b < 256) 4 bytes all) in
        let n : ℕ = little_from 0 4 four in
        decide_four bytes n (little_from-lt 0 4 four are) (sym (digits-little_from 4 four (length-take-le 4 bytes h) are))

pub all_rest : (bytes frame rest : List ℕ) → BeginsWith bytes frame rest → AreBytes bytes → AreBytes rest
all_rest bytes frame rest b all =
    let e : drop (length (in_stream frame)) bytes ≡ rest = ap (drop (length (in_stream frame))) b.cut ∙ drop_at (in_stream frame) rest (length (in_stream frame)) refl in
    subst AreBytes e (All-drop (λ x. x < 256) (length (in_stream frame)) bytes all)

abbrev pub Cut : List ℕ → Type 0
Cut bytes = (frames : List (List ℕ)) × (rest : List ℕ) × CutInto bytes frames rest

cut_with : (size : ℕ) (bytes : List ℕ) → ((rest : List ℕ) → length rest ≤ size → AreBytes rest → Cut rest) → length bytes ≤ suc size → AreBytes bytes → Decided bytes → Cut bytes
cut_with size bytes next few all (inr none) = ([], bytes, record { are_frames = All-nil IsFrame; cut = refl; no_more = none.no_frame })
cut_with size bytes next few all (inl h) =
    let s = frame_size bytes h.0 h.1 h.2 in
    let c : Cut h.1 = next h.1 (omega (arith, s, few)) (all_rest bytes h.0 h.1 h.2 all) in (
      h.0 ∷ c.0,
      c.1,
      record {
        are_frames = All-cons IsFrame h.0 c.0 h.2.is_frame c.2.are_frames;
        cut = h.2.cut ∙ ap (λ (l : List ℕ). in_stream h.0 ++ l) c.2.cut ∙ sym (bytes_to_stream h.0 c.0 c.1);
        no_more = c.2.no_more;
      },
    )

cut_up_to : (size : ℕ) (bytes : List ℕ) → length bytes ≤ size → AreBytes bytes → Cut bytes
cut_up_to zero bytes few all = ([], bytes, record { are_frames = All-nil IsFrame; cut = refl; no_more = (short_has_none bytes (omega (arith, few))).0 })
cut_up_to (suc size) bytes few all = cut_with size bytes (cut_up_to size) few all (decide bytes all)

pub some_cut : (bytes : List ℕ) → AreBytes bytes → Cut bytes
some_cut bytes all = cut_up_to (length bytes) bytes (omega arith) all

-- frames that the bytes begin with are the first of those into which they are cut
pub first_frames : (front frames : List (List ℕ)) (bytes behind rest : List ℕ) → All IsFrame front → bytes ≡ all_in_stream front ++ behind → CutInto bytes frames rest
    → (more : List (List ℕ)) × (frames ≡ front ++ more) × CutInto behind more rest
first_frames [] frames bytes behind rest are e c = (frames, refl, recut bytes behind frames rest e c)
first_frames (f ∷ fs) [] bytes behind rest are e c =
    absurd (c.no_more (f, all_in_stream fs ++ behind, record { is_frame = All-head IsFrame f fs are; cut = sym c.cut ∙ e ∙ bytes_to_stream f fs behind }))
first_frames (f ∷ fs) (g ∷ gs) bytes behind rest are e c =
    let front = one_frame bytes f (all_in_stream fs ++ behind) g (all_in_stream gs ++ rest) (record { is_frame = All-head IsFrame f fs are; cut = e ∙ bytes_to_stream f fs behind }) (first_of bytes g gs rest c) in
    let back = first_frames fs gs (all_in_stream fs ++ behind) behind rest (All-tail IsFrame f fs are) refl (recut (all_in_stream gs ++ rest) (all_in_stream fs ++ behind) gs rest (sym front.1) (others_of bytes g gs rest c)) in
    (back.0, ap (λ (x : List ℕ). x ∷ gs) (sym front.0) ∙ ap (λ (xs : List (List ℕ)). f ∷ xs) back.1, back.2)
