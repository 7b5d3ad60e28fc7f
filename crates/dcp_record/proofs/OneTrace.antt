-- No two traces and no two refusals share their bytes.
use Rattle.std.proofs.Common.{◌≡◌, ℕ, ◌+◌, ◌<◌, ◌≤◌, ◌^◌, List, [], ◌∷◌, ◌++◌, length, get_or, take, drop, refl, sym, ap, subst, ◌∙◌, append_assoc, inl, inr, arith}
use Rattle.std.specs.Int.{to_le_bytes, from_le_bytes, w16, w32}
use Rattle.std.specs.List.{All}
use Rattle.std.proofs.lemmas.List.{take_at, drop_at, length-append, append-nil, get_or_append_left, get_or-take}
use Rattle.std.proofs.lemmas.List.Elements.{All-head, All-tail}
use Rattle.std.proofs.lemmas.Nat.{from_le_bytes-to_le_bytes_2, from_le_bytes-to_le_bytes_4}
use Rattle.std.proofs.lemmas.Bool.{cases_order}
use Rattle.dcp_types.specs.declared.addresses.Address.{Address}
use Rattle.dcp_ends.specs.declared.entries.LogEntry.{LogEntry}
use Rattle.dcp_ends.specs.declared.entries.LogEntry.TheVariants.{Sent, Got, Idle, Turn}
use Rattle.dcp_record.specs.declared.faults.TraceWhy.{TraceWhy}
use Rattle.dcp_record.specs.declared.faults.TraceWhy.TheVariants.{Header, Tag, Short, Length}
use Rattle.dcp_record.specs.Traces.{form, address_bytes, payload_bytes, log_entry_bytes, all_entry_bytes, header_bytes, trace_bytes, IsTraceAddress, IsRecordable, IsTrace}
use Rattle.dcp_record.specs.Refusals.{FormDiffers, HostedBeyond, HeaderCut, HeaderRefused, HasNoTag, HasBadLength, IsTruncated, EntryRefused, entry_place, RefusedEntry, TraceRefusal}

same_parts : (a c x y : List ℕ) → length a ≡ length c → a ++ x ≡ c ++ y → (a ≡ c) × (x ≡ y)
same_parts a c x y l e = (
  sym (take_at a x (length a) refl) ∙ ap (take (length a)) e ∙ take_at c y (length a) (sym l),
  sym (drop_at a x (length a) refl) ∙ ap (drop (length a)) e ∙ drop_at c y (length a) (sym l),
)

same_u16 : (m n : ℕ) (x y : List ℕ) → m < 2 ^ 16 → n < 2 ^ 16 → to_le_bytes w16 m ++ x ≡ to_le_bytes w16 n ++ y → (m ≡ n) × (x ≡ y)
same_u16 m n x y lm ln e =
    let p = same_parts (to_le_bytes w16 m) (to_le_bytes w16 n) x y refl e in
    (sym (from_le_bytes-to_le_bytes_2 m lm) ∙ ap (from_le_bytes w16) p.0 ∙ from_le_bytes-to_le_bytes_2 n ln, p.1)

same_u32 : (m n : ℕ) (x y : List ℕ) → m < 2 ^ 32 → n < 2 ^ 32 → to_le_bytes w32 m ++ x ≡ to_le_bytes w32 n ++ y → (m ≡ n) × (x ≡ y)
same_u32 m n x y lm ln e =
    let p = same_parts (to_le_bytes w32 m) (to_le_bytes w32 n) x y refl e in
    (sym (from_le_bytes-to_le_bytes_4 m lm) ∙ ap (from_le_bytes w32) p.0 ∙ from_le_bytes-to_le_bytes_4 n ln, p.1)

same_place : (a c : Address) (x y : List ℕ) → IsTraceAddress a → IsTraceAddress c → address_bytes a ++ x ≡ address_bytes c ++ y → (a ≡ c) × (x ≡ y)
same_place a c x y ha hc e =
    let p = same_u32 a.ip c.ip (to_le_bytes w16 a.port ++ x) (to_le_bytes w16 c.port ++ y) ha.ip_fits hc.ip_fits e in
    let q = same_u16 a.port c.port x y ha.port_fits hc.port_fits p.1 in
    (λ i. record { ip = p.0 i; port = q.0 i }, q.1)

same_payload : (p q x y : List ℕ) → length p ≤ 1025 → length q ≤ 1025 → payload_bytes p ++ x ≡ payload_bytes q ++ y → (p ≡ q) × (x ≡ y)
same_payload p q x y lp lq e =
    let s = same_u16 (length p) (length q) (p ++ x) (q ++ y) (omega arith) (omega arith) e in
    same_parts p q x y s.0 s.1

-- two addresses and a payload, and what is behind them
abbrev exchange : Address → Address → List ℕ → List ℕ → List ℕ
exchange a b p x = address_bytes a ++ address_bytes b ++ payload_bytes p ++ x

same_exchange : (a b c d : Address) (p q x y : List ℕ) → IsTraceAddress a → IsTraceAddress b → IsTraceAddress c → IsTraceAddress d → length p ≤ 1025 → length q ≤ 1025 → exchange a b p x ≡ exchange c d q y
    → (a ≡ c) × (b ≡ d) × (p ≡ q) × (x ≡ y)
same_exchange a b c d p q x y ha hb hc hd lp lq e =
    let f = same_place a c (address_bytes b ++ (payload_bytes p ++ x)) (address_bytes d ++ (payload_bytes q ++ y)) ha hc e in
    let g = same_place b d (payload_bytes p ++ x) (payload_bytes q ++ y) hb hd f.1 in
    let h = same_payload p q x y lp lq g.1 in
    (f.0, g.0, h.0, h.1)

-- the first bytes of equal lists
same_first : (m n : ℕ) (x y : List ℕ) → m ∷ x ≡ n ∷ y → m ≡ n
same_first m n x y e = ap (λ (l : List ℕ). get_or l 0 0) e

-- an entry is known by the bytes that begin with it
pub same_entry : (e f : LogEntry) (x y : List ℕ) → IsRecordable e → IsRecordable f → log_entry_bytes e ++ x ≡ log_entry_bytes f ++ y → (e ≡ f) × (x ≡ y)
same_entry (Sent a b p) (Sent c d q) x y he hf h =
    let s = same_exchange a b c d p q x y he.places.0 he.places.1 hf.places.0 hf.places.1 (omega (arith, he.in_range.1)) (omega (arith, hf.in_range.1)) (ap (drop 1) h) in
    (λ i. Sent (s.0 i) (s.1 i) (s.2 i), s.3)
same_entry (Got a b p) (Got c d q) x y he hf h =
    let s = same_exchange a b c d p q x y he.places.0 he.places.1 hf.places.0 hf.places.1 he.in_range hf.in_range (ap (drop 1) h) in
    (λ i. Got (s.0 i) (s.1 i) (s.2 i), s.3)
same_entry (Idle a) (Idle c) x y he hf h = let s = same_place a c x y he.places hf.places (ap (drop 1) h) in (λ i. Idle (s.0 i), s.1)
same_entry (Turn a) (Turn c) x y he hf h = let s = same_place a c x y he.places hf.places (ap (drop 1) h) in (λ i. Turn (s.0 i), s.1)
same_entry e f x y he hf h = absurd (omega (arith, same_first _ _ _ _ h))

-- no entry stands whole at the front
abbrev pub NoEntry : List ℕ → Type 0
NoEntry rest = (e : LogEntry) (more : List ℕ) → IsRecordable e → rest ≡ log_entry_bytes e ++ more → ⊥

same_entries : (es fs : List LogEntry) (x y : List ℕ) → All IsRecordable es → All IsRecordable fs → NoEntry x → NoEntry y → all_entry_bytes es ++ x ≡ all_entry_bytes fs ++ y → (es ≡ fs) × (x ≡ y)
same_entries [] [] x y he hf nx ny h = (refl, h)
same_entries [] (f ∷ fs) x y he hf nx ny h =
    absurd (nx f (all_entry_bytes fs ++ y) (All-head IsRecordable f fs hf) (h ∙ append_assoc (log_entry_bytes f) (all_entry_bytes fs) y))
same_entries (e ∷ es) [] x y he hf nx ny h =
    absurd (ny e (all_entry_bytes es ++ x) (All-head IsRecordable e es he) (sym h ∙ append_assoc (log_entry_bytes e) (all_entry_bytes es) x))
same_entries (e ∷ es) (f ∷ fs) x y he hf nx ny h =
    let p = same_entry e f (all_entry_bytes es ++ x) (all_entry_bytes fs ++ y) (All-head IsRecordable e es he) (All-head IsRecordable f fs hf)
    (sym (append_assoc (log_entry_bytes e) (all_entry_bytes es) x) ∙ h ∙ append_assoc (log_entry_bytes f) (all_entry_bytes fs) y) in
    let q = same_entries es fs x y (All-tail IsRecordable e es he) (All-tail IsRecordable f fs hf) nx ny p.1 in
    (λ i. p.0 i ∷ q.0 i, q.1)

pub no_entry_in_none : NoEntry []
no_entry_in_none (Sent a b p) more k h = cc
no_entry_in_none (Got a b p) more k h = cc
no_entry_in_none (Idle a) more k h = cc
no_entry_in_none (Turn a) more k h = cc

-- a byte that is no tag, and a length that is out of range, stand at the front of no entry
tag_not : (rest missing more : List ℕ) (e : LogEntry) → HasNoTag rest → rest ++ missing ≡ log_entry_bytes e ++ more → ⊥
tag_not rest missing more (Sent a b p) k h = omega (arith, k.unknown, same_first _ _ _ _ (ap (λ (l : List ℕ). l ++ missing) (sym k.parts) ∙ h))
tag_not rest missing more (Got a b p) k h = omega (arith, k.unknown, same_first _ _ _ _ (ap (λ (l : List ℕ). l ++ missing) (sym k.parts) ∙ h))
tag_not rest missing more (Idle a) k h = omega (arith, k.unknown, same_first _ _ _ _ (ap (λ (l : List ℕ). l ++ missing) (sym k.parts) ∙ h))
tag_not rest missing more (Turn a) k h = omega (arith, k.unknown, same_first _ _ _ _ (ap (λ (l : List ℕ). l ++ missing) (sym k.parts) ∙ h))

sent_length_not : (rest missing more : List ℕ) (e : LogEntry) → HasBadLength 1 1 1024 rest → IsRecordable e → rest ++ missing ≡ log_entry_bytes e ++ more → ⊥
sent_length_not rest missing more (Sent a b p) k r h =
    let s = same_u16 k.size (length p) (k.more ++ missing) (p ++ more) k.fits (omega (arith, r.in_range.1)) (ap (drop 13) (ap (λ (l : List ℕ). l ++ missing) (sym k.parts) ∙ h)) in
    omega (arith, k.out, s.0, r.in_range.0, r.in_range.1)
sent_length_not rest missing more (Got a b p) k r h = omega (arith, same_first _ _ _ _ (ap (λ (l : List ℕ). l ++ missing) (sym k.parts) ∙ h))
sent_length_not rest missing more (Idle a) k r h = omega (arith, same_first _ _ _ _ (ap (λ (l : List ℕ). l ++ missing) (sym k.parts) ∙ h))
sent_length_not rest missing more (Turn a) k r h = omega (arith, same_first _ _ _ _ (ap (λ (l : List ℕ). l ++ missing) (sym k.parts) ∙ h))

got_length_not : (rest missing more : List ℕ) (e : LogEntry) → HasBadLength 2 0 1025 rest → IsRecordable e → rest ++ missing ≡ log_entry_bytes e ++ more → ⊥
got_length_not rest missing more (Got a b p) k r h =
    let s = same_u16 k.size (length p) (k.more ++ missing) (p ++ more) k.fits (omega (arith, r.in_range)) (ap (drop 13) (ap (λ (l : List ℕ). l ++ missing) (sym k.parts) ∙ h)) in
    omega (arith, k.out, s.0, r.in_range)
got_length_not rest missing more (Sent a b p) k r h = omega (arith, same_first _ _ _ _ (ap (λ (l : List ℕ). l ++ missing) (sym k.parts) ∙ h))
got_length_not rest missing more (Idle a) k r h = omega (arith, same_first _ _ _ _ (ap (λ (l : List ℕ). l ++ missing) (sym k.parts) ∙ h))
got_length_not rest missing more (Turn a) k r h = omega (arith, same_first _ _ _ _ (ap (λ (l : List ℕ). l ++ missing) (sym k.parts) ∙ h))

length_not : (rest missing more : List ℕ) (e : LogEntry) → EntryRefused rest Length → IsRecordable e → rest ++ missing ≡ log_entry_bytes e ++ more → ⊥
length_not rest missing more e (inl k) r h = sent_length_not rest missing more e k r h
length_not rest missing more e (inr k) r h = got_length_not rest missing more e k r h

-- a cut entry has no whole one at its front
cut_has_none : (rest : List ℕ) → IsTruncated rest → NoEntry rest
cut_has_none rest k e more r h =
    let whole : log_entry_bytes e ++ (more ++ k.missing) ≡ log_entry_bytes k.entry ++ [] =
    sym (append_assoc (log_entry_bytes e) more k.missing) ∙ ap (λ (l : List ℕ). l ++ k.missing) (sym h) ∙ k.whole ∙ sym (append-nil (log_entry_bytes k.entry)) in
    let s = same_entry e k.entry (more ++ k.missing) [] r k.recordable whole in
    omega (arith, k.lacks, length-append more k.missing, ap length s.1)

pub refused_has_none : (rest : List ℕ) (why : TraceWhy) → EntryRefused rest why → NoEntry rest
refused_has_none rest Header k e more r h = k
refused_has_none rest Tag k e more r h = tag_not rest [] more e k (append-nil rest ∙ h)
refused_has_none rest Length k e more r h = length_not rest [] more e k r (append-nil rest ∙ h)
refused_has_none rest Short k e more r h = cut_has_none rest k e more r h

refused_has_some : (rest : List ℕ) (why : TraceWhy) → EntryRefused rest why → 0 < length rest
refused_has_some rest Header k = absurd k
refused_has_some rest Tag k = omega (arith, ap length k.parts)
refused_has_some rest Length (inl k) = omega (arith, ap length k.parts)
refused_has_some rest Length (inr k) = omega (arith, ap length k.parts)
refused_has_some rest Short k = k.some

-- an entry is refused for one cause
tag_or_length : (rest : List ℕ) → HasNoTag rest → EntryRefused rest Length → ⊥
tag_or_length rest k (inl l) = omega (arith, k.unknown, same_first _ _ _ _ (sym k.parts ∙ l.parts))
tag_or_length rest k (inr l) = omega (arith, k.unknown, same_first _ _ _ _ (sym k.parts ∙ l.parts))

tag_or_cut : (rest : List ℕ) → HasNoTag rest → IsTruncated rest → ⊥
tag_or_cut rest k l = tag_not rest l.missing [] l.entry k (l.whole ∙ sym (append-nil (log_entry_bytes l.entry)))

length_or_cut : (rest : List ℕ) → EntryRefused rest Length → IsTruncated rest → ⊥
length_or_cut rest k l = length_not rest l.missing [] l.entry k l.recordable (l.whole ∙ sym (append-nil (log_entry_bytes l.entry)))

one_cause : (rest : List ℕ) (v w : TraceWhy) → EntryRefused rest v → EntryRefused rest w → v ≡ w
one_cause rest Header w k l = absurd k
one_cause rest Tag Header k l = absurd l
one_cause rest Tag Tag k l = refl
one_cause rest Tag Length k l = absurd (tag_or_length rest k l)
one_cause rest Tag Short k l = absurd (tag_or_cut rest k l)
one_cause rest Length Header k l = absurd l
one_cause rest Length Tag k l = absurd (tag_or_length rest l k)
one_cause rest Length Length k l = refl
one_cause rest Length Short k l = absurd (length_or_cut rest k l)
one_cause rest Short Header k l = absurd l
one_cause rest Short Tag k l = absurd (tag_or_cut rest l k)
one_cause rest Short Length k l = absurd (length_or_cut rest l k)
one_cause rest Short Short k l = refl

-- a header, its scenario, and what is behind them
abbrev headed : ℕ → List ℕ → List ℕ → List ℕ
headed hosted scenario x = header_bytes hosted (length scenario) ++ scenario ++ x

same_head : (m n : ℕ) (s t x y : List ℕ) → m < 2 ^ 32 → n < 2 ^ 32 → length s < 2 ^ 32 → length t < 2 ^ 32 → headed m s x ≡ headed n t y → (m ≡ n) × (s ≡ t) × (x ≡ y)
same_head m n s t x y lm ln ls lt e =
    let p = same_u32 m n (to_le_bytes w32 (length s) ++ (s ++ x)) (to_le_bytes w32 (length t) ++ (t ++ y)) lm ln (ap (drop 5) e) in
    let q = same_u32 (length s) (length t) (s ++ x) (t ++ y) ls lt p.1 in
    let r = same_parts s t x y q.0 q.1 in
    (p.0, r.0, r.1)

-- entries behind a header, as many as there are
record Stopped (b : List ℕ) : Type 0 where
  pub hosted : ℕ
  pub scenario : List ℕ
  pub entries : List LogEntry
  pub rest : List ℕ
  pub known : hosted < 2 ^ 17
  pub measured : length scenario < 2 ^ 32
  pub recordable : All IsRecordable entries
  pub parts : b ≡ headed hosted scenario (all_entry_bytes entries ++ rest)
  pub stops : NoEntry rest

trace_stops : (b : List ℕ) (hosted : ℕ) (scenario : List ℕ) (entries : List LogEntry) → IsTrace b hosted scenario entries → Stopped b
trace_stops b hosted scenario entries h = record {
  hosted = hosted;
  scenario = scenario;
  entries = entries;
  rest = [];
  known = h.known;
  measured = h.measured;
  recordable = h.recordable;
  parts = h.bytes ∙ ap (λ (l : List ℕ). header_bytes hosted (length scenario) ++ scenario ++ l) (sym (append-nil (all_entry_bytes entries)));
  stops = no_entry_in_none;
}

refused_stops : (b : List ℕ) (at : ℕ) (why : TraceWhy) → RefusedEntry b at why → Stopped b
refused_stops b at why h = record {
  hosted = h.hosted;
  scenario = h.scenario;
  entries = h.entries;
  rest = h.rest;
  known = h.reads.known;
  measured = h.reads.measured;
  recordable = h.reads.recordable;
  parts = h.parts ∙ ap (λ (l : List ℕ). l ++ h.rest) h.reads.bytes ∙ append_assoc (header_bytes h.hosted (length h.scenario) ++ h.scenario) (all_entry_bytes h.entries) h.rest;
  stops = refused_has_none h.rest why h.refused;
}

same_stop : (b : List ℕ) (s t : Stopped b) → (s.hosted ≡ t.hosted) × (s.scenario ≡ t.scenario) × (s.entries ≡ t.entries) × (s.rest ≡ t.rest)
same_stop b s t =
    let p = same_head s.hosted t.hosted s.scenario t.scenario (all_entry_bytes s.entries ++ s.rest) (all_entry_bytes t.entries ++ t.rest) (omega (arith, s.known)) (omega (arith, t.known)) s.measured t.measured (sym s.parts ∙ t.parts) in
    let q = same_entries s.entries t.entries s.rest t.rest s.recordable t.recordable s.stops t.stops p.2 in
    (p.0, p.1, q.0, q.1)

-- the kinds of refused headers exclude each other and whole headers
differs_not : (b : List ℕ) (at : ℕ) (missing x : List ℕ) → FormDiffers b at → b ++ missing ≡ form ++ x → ⊥
differs_not b at missing x k e =
    k.differs (sym (get_or_append_left b missing 0 at k.there) ∙ ap (λ (l : List ℕ). get_or l at 0) e ∙ get_or_append_left form x 0 at k.within)

earlier_not : (b : List ℕ) (m n : ℕ) → m < n → FormDiffers b m → FormDiffers b n → ⊥
earlier_not b m n lt k l = k.differs (sym (get_or-take n b m 0 lt) ∙ ap (λ (x : List ℕ). get_or x m 0) l.same ∙ get_or-take n form m 0 lt)

beyond_not : (b : List ℕ) (at hosted : ℕ) (missing x : List ℕ) → HostedBeyond b at → hosted < 2 ^ 17 → b ++ missing ≡ form ++ to_le_bytes w32 hosted ++ x → ⊥
beyond_not b at hosted missing x k known e =
    let p = same_u32 k.hosted hosted (k.rest ++ missing) x k.fits (omega (arith, known)) (ap (drop 5) (ap (λ (l : List ℕ). l ++ missing) (sym k.parts) ∙ e)) in
    omega (arith, p.0, k.beyond, known)

cut_not : (b : List ℕ) (at hosted : ℕ) (scenario x : List ℕ) → HeaderCut b at → hosted < 2 ^ 17 → length scenario < 2 ^ 32 → b ≡ headed hosted scenario x → ⊥
cut_not b at hosted scenario x k known measured e =
    let front = header_bytes hosted (length scenario) ++ scenario in
    let p = same_head hosted k.hosted scenario k.scenario (x ++ k.missing) [] (omega (arith, known)) k.fits measured k.measured
    (sym (append_assoc front x k.missing) ∙ ap (λ (l : List ℕ). l ++ k.missing) (sym e) ∙ k.whole ∙ sym (append-nil (header_bytes k.hosted (length k.scenario) ++ k.scenario))) in
    omega (arith, k.lacks, length-append x k.missing, ap length p.2)

beyond_or_cut : (b : List ℕ) (m n : ℕ) → HostedBeyond b m → HeaderCut b n → ⊥
beyond_or_cut b m n k l =
    let long : length b ≡ 9 + length k.rest = omega (arith, ap length k.parts) in
    beyond_not b m l.hosted l.missing (to_le_bytes w32 (length l.scenario) ++ l.scenario) k (l.known (omega arith)) l.whole

stopped_not : (b : List ℕ) (at : ℕ) → HeaderRefused b at → Stopped b → ⊥
stopped_not b at (inl k) s = differs_not b at [] _ k (append-nil b ∙ s.parts)
stopped_not b at (inr (inl k)) s = beyond_not b at s.hosted [] _ k s.known (append-nil b ∙ s.parts)
stopped_not b at (inr (inr k)) s = cut_not b at s.hosted s.scenario (all_entry_bytes s.entries ++ s.rest) k s.known s.measured s.parts

one_header : (b : List ℕ) (m n : ℕ) → HeaderRefused b m → HeaderRefused b n → m ≡ n
one_header b m n (inl k) (inl l) =
    elim (cases_order m n) [
      | inl e ↦ e
      | inr (inl lt) ↦ absurd (earlier_not b m n lt k l)
      | inr (inr lt) ↦ absurd (earlier_not b n m lt l k)
    ]
one_header b m n (inl k) (inr (inl l)) = absurd (differs_not b m [] _ k (append-nil b ∙ l.parts))
one_header b m n (inl k) (inr (inr l)) = absurd (differs_not b m l.missing _ k l.whole)
one_header b m n (inr (inl k)) (inl l) = absurd (differs_not b n [] _ l (append-nil b ∙ k.parts))
one_header b m n (inr (inl k)) (inr (inl l)) = k.here ∙ sym l.here
one_header b m n (inr (inl k)) (inr (inr l)) = absurd (beyond_or_cut b m n k l)
one_header b m n (inr (inr k)) (inl l) = absurd (differs_not b n k.missing _ l k.whole)
one_header b m n (inr (inr k)) (inr (inl l)) = absurd (beyond_or_cut b n m l k)
one_header b m n (inr (inr k)) (inr (inr l)) = k.here ∙ sym l.here

-- entries behind the same header are refused at one place for one cause
one_entry : (b : List ℕ) (m n : ℕ) (v w : TraceWhy) → RefusedEntry b m v → RefusedEntry b n w → (m ≡ n) × (v ≡ w)
unfolding refused_stops
one_entry b m n v w k l =
    let s = same_stop b (refused_stops b m v k) (refused_stops b n w l) in
    let front : k.before ≡ l.before = k.reads.bytes ∙ (λ i. trace_bytes (s.0 i) (s.1 i) (s.2 i)) ∙ sym l.reads.bytes in
    let cause : v ≡ w = one_cause l.rest v w (subst (λ (x : List ℕ). EntryRefused x v) s.3 k.refused) l.refused in
    (k.here ∙ (λ i. length (front i) + entry_place (s.3 i) (cause i)) ∙ sym l.here, cause)

pub one_refusal : (b : List ℕ) (m n : ℕ) (v w : TraceWhy) → TraceRefusal b m v → TraceRefusal b n w → (m ≡ n) × (v ≡ w)
one_refusal b m n Header Header k l = (one_header b m n k l, refl)
one_refusal b m n Header Tag k l = absurd (stopped_not b m k (refused_stops b n Tag l))
one_refusal b m n Header Length k l = absurd (stopped_not b m k (refused_stops b n Length l))
one_refusal b m n Header Short k l = absurd (stopped_not b m k (refused_stops b n Short l))
one_refusal b m n Tag Header k l = absurd (stopped_not b n l (refused_stops b m Tag k))
one_refusal b m n Tag Tag k l = one_entry b m n Tag Tag k l
one_refusal b m n Tag Length k l = one_entry b m n Tag Length k l
one_refusal b m n Tag Short k l = one_entry b m n Tag Short k l
one_refusal b m n Length Header k l = absurd (stopped_not b n l (refused_stops b m Length k))
one_refusal b m n Length Tag k l = one_entry b m n Length Tag k l
one_refusal b m n Length Length k l = one_entry b m n Length Length k l
one_refusal b m n Length Short k l = one_entry b m n Length Short k l
one_refusal b m n Short Header k l = absurd (stopped_not b n l (refused_stops b m Short k))
one_refusal b m n Short Tag k l = one_entry b m n Short Tag k l
one_refusal b m n Short Length k l = one_entry b m n Short Length k l
one_refusal b m n Short Short k l = one_entry b m n Short Short k l

module _ (b : List ℕ) (hosted : ℕ) (scenario : List ℕ) (entries : List LogEntry) (t : IsTrace b hosted scenario entries) where
  not_behind : (at : ℕ) (why : TraceWhy) → RefusedEntry b at why → ⊥
  unfolding trace_stops refused_stops
  not_behind at why k =
      let s = same_stop b (trace_stops b hosted scenario entries t) (refused_stops b at why k) in
      let none : k.rest ≡ [] = sym s.3 in
      omega (arith, ap length none, refused_has_some k.rest why k.refused)

  pub never_both : (at : ℕ) (why : TraceWhy) → TraceRefusal b at why → ⊥
  never_both at Header k = stopped_not b at k (trace_stops b hosted scenario entries t)
  never_both at Tag k = not_behind at Tag k
  never_both at Length k = not_behind at Length k
  never_both at Short k = not_behind at Short k

pub one_trace : (b : List ℕ) (m n : ℕ) (s t : List ℕ) (es fs : List LogEntry) → IsTrace b m s es → IsTrace b n t fs → (m ≡ n) × (s ≡ t) × (es ≡ fs)
unfolding trace_stops
one_trace b m n s t es fs h k = let p = same_stop b (trace_stops b m s es h) (trace_stops b n t fs k) in (p.0, p.1, p.2)
