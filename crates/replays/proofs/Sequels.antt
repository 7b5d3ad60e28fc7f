-- What is expected after a log, and which entries suit.
use Rattle.std.proofs.Common.{◌≡◌, ◌≢◌, ℕ, ◌<◌, List, [], ◌∷◌, ◌++◌, length, get_or, drop, true, false, None, Some, zero, suc, refl, sym, ap, ◌∙◌, arith}
use Rattle.std.proofs.Math.Seq.{drop-append_seam, drop-length}
use Rattle.std.proofs.lemmas.List.{append-nil}
use Rattle.std.proofs.lemmas.List.Concat.{flat_map-cons}
use Rattle.std.specs.List.{All, flat_map, slice_get}
use Rattle.dcp_types.specs.declared.addresses.Address.{Address}
use Rattle.dcp_ends.specs.declared.entries.LogEntry.{LogEntry}
use Rattle.dcp_ends.specs.declared.entries.LogEntry.TheVariants.{Sent, Got, Idle, Turn}
use Rattle.dcp_ends.specs.Events.{Rules}
use Rattle.dcp_ends.specs.Logs.{answered, events_at, own_at}
use Rattle.rounds.specs.Told.{Follows}
use Rattle.replays.specs.Expected.{Suits, expected_sends, is_hosted_at, missing}
use Rattle.replays.specs.Visits.{place_in}

-- ---- what one end's list adds

pub missing-left : (rules : Rules) (log left : List LogEntry) → own_at rules.place log ++ left ≡ answered rules [] (events_at rules.place log) → missing log rules ≡ left
missing-left rules log left own = ap (drop (length (own_at rules.place log))) (sym own) ∙ drop-append_seam (own_at rules.place log) left

pub missing-none : (rules : Rules) (log : List LogEntry) → Follows rules log → missing log rules ≡ []
missing-none rules log follows = ap (drop (length (own_at rules.place log))) (sym follows) ∙ drop-length (own_at rules.place log)

-- ---- all of them

pub flat-none : {X A : Type 0} (f : X → List A) (xs : List X) → All (λ x. f x ≡ []) xs → flat_map f xs ≡ []
flat-none f [] all = refl
flat-none f (x ∷ xs) all = flat_map-cons f x xs ∙ ap (λ rest. rest ++ flat_map f xs) (all 0 x (omega arith)) ∙ flat-none f xs (λ k d lt. all (suc k) d (omega arith))

pub flat-one : {X A : Type 0} (f : X → List A) (xs : List X) (j : ℕ) (d : X) → j < length xs → ((k : ℕ) (e : X) → k < length xs → k ≢ j → f (get_or xs k e) ≡ []) → flat_map f xs ≡ f (get_or xs j d)
flat-one f [] j d lt others = absurd (omega arith)
flat-one f (x ∷ xs) zero d lt others =
    flat_map-cons f x xs ∙ ap (λ rest. f x ++ rest) (flat-none f xs (λ k e lk. others (suc k) e (omega arith) (omega arith))) ∙ append-nil (f x)
flat-one f (x ∷ xs) (suc j) d lt others =
    flat_map-cons f x xs ∙ ap (λ rest. rest ++ flat_map f xs) (others 0 x (omega arith) (omega arith)) ∙ flat-one f xs j d (omega arith) (λ k e lk ne. others (suc k) e (omega arith) (omega arith))

pub expected-none : (ends : List Rules) (log : List LogEntry) → All (λ r. Follows r log) ends → expected_sends ends log ≡ []
expected-none ends log all = flat-none (missing log) ends (λ k d lt. missing-none (get_or ends k d) log (all k d lt))

-- ---- which entries suit

pub suits-end : (ends : List Rules) (log : List LogEntry) (entry : LogEntry) (place : Address) → place_in entry ≡ Some place → expected_sends ends log ≡ [] → is_hosted_at ends place ≡ true → Suits ends log entry
suits-end ends log (Sent from to bytes) place is none found = cc
suits-end ends log (Got at from bytes) place is none found = let same : at ≡ place = cc in (none, rw same found)
suits-end ends log (Idle at) place is none found = let same : at ≡ place = cc in (none, rw same found)
suits-end ends log (Turn at) place is none found = let same : at ≡ place = cc in (none, rw same found)

pub no_sent : (ends : List Rules) (log : List LogEntry) (entry : LogEntry) → place_in entry ≡ None → expected_sends ends log ≡ [] → Suits ends log entry → ⊥
no_sent ends log (Sent from to bytes) is none suits = cc (ap (λ (l : List LogEntry). slice_get l 0) none)
no_sent ends log (Got at from bytes) is none suits = cc
no_sent ends log (Idle at) is none suits = cc
no_sent ends log (Turn at) is none suits = cc

pub not_hosted : (ends : List Rules) (log : List LogEntry) (entry : LogEntry) (place : Address) → place_in entry ≡ Some place → is_hosted_at ends place ≡ false → Suits ends log entry → ⊥
not_hosted ends log (Sent from to bytes) place is far suits = cc
not_hosted ends log (Got at from bytes) place is far suits = let same : at ≡ place = cc in cc (ap (is_hosted_at ends) same, suits.1)
not_hosted ends log (Idle at) place is far suits = let same : at ≡ place = cc in cc (ap (is_hosted_at ends) same, suits.1)
not_hosted ends log (Turn at) place is far suits = let same : at ≡ place = cc in cc (ap (is_hosted_at ends) same, suits.1)

pub not_other : (ends : List Rules) (log rest : List LogEntry) (from to : Address) (bytes : List ℕ) (entry : LogEntry) → expected_sends ends log ≡ Sent from to bytes ∷ rest → entry ≢ Sent from to bytes → Suits ends log entry → ⊥
not_other ends log rest from to bytes (Sent f t b) next other suits = let head = ap (λ (l : List LogEntry). slice_get l 0) next in other (cc)
not_other ends log rest from to bytes (Got at f b) next other suits = cc (suits.0)
not_other ends log rest from to bytes (Idle at) next other suits = cc (suits.0)
not_other ends log rest from to bytes (Turn at) next other suits = cc (suits.0)
