-- What the whole check answers.
use Rattle.std.proofs.Common.{◌≡◌, ◌≤◌, ◌<◌, ℕ, zero, suc, ◌+◌, ◌-◌, Bool, true, false, List, [], ◌∷◌, ◌++◌, length, take, slice_get, Option, Some, None, refl, ap, sym, subst, ◌∙◌, arith, ◌⊎◌, inl, inr, append_assoc, length-append, All, ◌==◌}
use Rattle.std.proofs.lemmas.List.{append-nil, take_all}
use Rattle.dcp_types.specs.declared.addresses.Address.{Address}
use Rattle.dcp_ends.specs.declared.entries.LogEntry.{LogEntry}
use Rattle.dcp_ends.specs.declared.entries.LogEntry.TheVariants.{Sent, Got, Idle, Turn}
use Rattle.dcp_ends.specs.Events.{Event}
use Rattle.dcp_ends.specs.Logs.{same_address, event_at, events_at}
use Rattle.slave_desc.specs.declared.descriptions.SlaveDesc.{SlaveDesc}
use Rattle.slave_spec.specs.Allowed.{Allowed, IsAllowedFront}
use Rattle.scenario.specs.Lookups.{slave_at}
use Rattle.slave_spec.specs.Foreign.{foreign_fresh}
use Rattle.slave_spec.specs.Standpoints.{Between}
use Rattle.slave_spec.proofs.Walking.{come_begins, none_yet}
use Rattle.conform.specs.declared.followers.Awaited.TheVariants as awaited
use Rattle.conform.specs.declared.answers.BadWhy.{BadWhy}
use Rattle.conform.specs.declared.answers.BadWhy.TheVariants as whys
use Rattle.conform.specs.declared.answers.Conformance.TheVariants.{Follows, Bad}
use Rattle.conform.specs.declared.followers.Follower.{Follower}
use Rattle.conform.specs.Checks.{bad_why_of, Judges}
use Rattle.conform.specs.Following.{HasFollowed, IsBreak}
use Rattle.conform.specs.Standing.{may_end, StandsBetween}
use Rattle.conform.proofs.Steps.{may_be_over, is_not_over}

-- ---- lists

pub one_more : (l : List LogEntry) (i : ℕ) (e : LogEntry) → slice_get l i ≡ Some e → take (suc i) l ≡ take i l ++ e ∷ []
one_more [] i e h = absurd cc
one_more (x ∷ l) zero e h = let k : x ≡ e = cc in ap (λ (y : LogEntry). y ∷ []) k
one_more (x ∷ l) (suc i) e h = ap (λ (r : List LogEntry). x ∷ r) (one_more l i e h)

pub inside : (l : List LogEntry) (i : ℕ) (e : LogEntry) → slice_get l i ≡ Some e → i < length l
inside [] i e h = absurd cc
inside (x ∷ l) zero e h = omega arith
inside (x ∷ l) (suc i) e h = omega (arith, inside l i e h)

past : (l : List LogEntry) (i : ℕ) (e : LogEntry) (k : ℕ) → slice_get l i ≡ Some e → i < k → (more : List LogEntry) × (take k l ≡ take i l ++ e ∷ more)
past [] i e k h lt = absurd cc
past (x ∷ l) i e zero h lt = absurd (omega (arith, lt))
past (x ∷ l) zero e (suc k) h lt = let s : x ≡ e = cc in (take k l, ap (λ (y : LogEntry). y ∷ take k l) s)
past (x ∷ l) (suc i) e (suc k) h lt = let p = past l i e k h (omega (arith, lt)) in (p.0, ap (λ (r : List LogEntry). x ∷ r) p.1)

le_or_lt : (a b : ℕ) → (a ≤ b) ⊎ (b < a)
le_or_lt zero b = inl (omega arith)
le_or_lt (suc a) zero = inr (omega arith)
le_or_lt (suc a) (suc b) = elim (le_or_lt a b) [ inl h ↦ inl (omega (arith, h)) | inr h ↦ inr (omega (arith, h)) ]

none_there : (l : List LogEntry) → slice_get l (length l) ≡ None
none_there [] = refl
none_there (x ∷ l) = none_there l

-- ---- events

events_more : (place : Address) (l m : List LogEntry) → events_at place (l ++ m) ≡ events_at place l ++ events_at place m
events_more place [] m = refl
events_more place (x ∷ l) m = ap (λ (r : List Event). event_at place x ++ r) (events_more place l m) ∙ sym (append_assoc (event_at place x) (events_at place l) (events_at place m))

pub events_then : (place : Address) (l : List LogEntry) (e : LogEntry) → length (events_at place (l ++ e ∷ [])) ≡ length (events_at place l) + length (event_at place e)
events_then place l e =
    ap length (events_more place l (e ∷ []) ∙ ap (λ (r : List Event). events_at place l ++ r) (append-nil (event_at place e))) ∙ length-append (events_at place l) (event_at place e)

pub one_event : (place : Address) (e : LogEntry) → length (event_at place e) ≤ 1
one_event place (Sent from to bytes) = omega arith
one_event place (Got at from bytes) = by (same_address place at) refl
  where
    by : (b : Bool) → same_address place at ≡ b → length (event_at place (Got at from bytes)) ≤ 1
    by true h = rw h (omega arith)
    by false h = rw h (omega arith)
one_event place (Idle at) = omega arith
one_event place (Turn at) = by (same_address place at) refl
  where
    by : (b : Bool) → same_address place at ≡ b → length (event_at place (Turn at)) ≤ 1
    by true h = rw h (omega arith)
    by false h = rw h (omega arith)

-- ---- answers

module _ (c : Follower) (d : SlaveDesc) (entries : List LogEntry) where
  -- the entry at a place may not come
  pub broken : (at : ℕ) (entry : LogEntry) (why : BadWhy) → slice_get entries at ≡ Some entry → HasFollowed c d (take at entries) → IsBreak d (take at entries) entry why → Judges d entries (Bad at why)
  broken at entry why here h b =
      let lt : at < length entries = inside entries at entry here in
      let whole = past entries at entry (length entries) here lt in
      let all : entries ≡ take at entries ++ entry ∷ whole.0 = sym (take_all (length entries) entries (omega arith)) ∙ whole.1 in
      let longest : (k : ℕ) → k ≤ length entries → IsAllowedFront d (take k entries) → k ≤ at =
      λ k few begins. elim (le_or_lt k at) [
        | inl le ↦ le
        | inr gt ↦ absurd (let p = past entries at entry k here gt in b.never p.0 (subst (λ (l : List LogEntry). IsAllowedFront d l) p.1 begins))
      ] in (
        λ allowed. b.never whole.0 (subst (λ (l : List LogEntry). IsAllowedFront d l) all ([], subst (λ (l : List LogEntry). Allowed d l) (sym (append-nil entries)) allowed)),
        record {
          within = omega (arith, lt);
          begins = come_begins d (take at entries) h.spot h.come;
          longest = longest;
          cause = b.cause ∙ ap (λ (o : Option LogEntry). bad_why_of d.address o) (sym here);
        },
      )

  -- all entries came, and the last event may be over
  pub all_followed : (at events : ℕ) → length entries ≤ at → HasFollowed c d (take at entries) → may_end c.awaited ≡ true → events ≡ length (events_at d.address (take at entries)) → Judges d entries (Follows events)
  all_followed at events gone h m e =
      let all : take at entries ≡ entries = take_all at entries gone in
      (may_be_over c d entries (subst (λ (l : List LogEntry). HasFollowed c d l) all h) m, e ∙ ap (λ (l : List LogEntry). length (events_at d.address l)) all)

  -- the last event may not be over
  pub left_open : (at : ℕ) → at ≡ length entries → HasFollowed c d (take at entries) → may_end c.awaited ≡ false → Judges d entries (Bad at whys.Missing)
  left_open at gone h m =
      let all : take at entries ≡ entries = take_all at entries (omega (arith, gone)) in
      let k : HasFollowed c d entries = subst (λ (l : List LogEntry). HasFollowed c d l) all h in (
        is_not_over c d entries k m,
        record {
          within = omega (arith, gone);
          begins = come_begins d (take at entries) h.spot h.come;
          longest = λ n few begins. omega (arith, few, gone);
          cause = sym (ap (λ (o : Option LogEntry). bad_why_of d.address o) (ap (λ (n : ℕ). slice_get entries n) gone ∙ none_there entries));
        },
      )

-- ---- the slave

got : (P : SlaveDesc → Type 0) (l : List SlaveDesc) (i : ℕ) (d : SlaveDesc) → All P l → slice_get l i ≡ Some d → P d
got P [] i d h e = absurd cc
got P (x ∷ l) zero d h e = let k : x ≡ d = cc in subst P k (h 0 x (omega arith))
got P (x ∷ l) (suc i) d h e = got P l i d (λ k y lt. h (suc k) y (omega (arith, lt))) e

pub slave_is : (P : SlaveDesc → Type 0) (l : List SlaveDesc) (s : ℕ) (d : SlaveDesc) → All P l → slave_at l s ≡ Some d → P d
slave_is P l s d h e = by (s == 0) refl e
  where
    by : (b : Bool) → (s == 0) ≡ b → slave_at l s ≡ Some d → P d
    by true k f = let g : None ≡ Some d = (rw k at f) in absurd cc
    by false k f = got P l (s - 1) d h (rw k at f)

pub not_yet : (c : Follower) (d : SlaveDesc) → StandsBetween c d foreign_fresh → c.awaited ≡ awaited.Closed → HasFollowed c d []
not_yet c d h a = record { spot = Between foreign_fresh; at_spot = (h, a); come = none_yet d }
