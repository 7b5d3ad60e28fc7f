-- The log of rounds as the entries of its ends one by one, each followed by what the end then sent.
use Rattle.std.proofs.Common.{◌≡◌, ℕ, ◌<◌, List, [], ◌∷◌, ◌++◌, length, get_or, Bool, true, false, MatchBool, Option, Some, None, zero, suc, refl, sym, ap, ◌∙◌, ◌⊎◌, inl, inr, arith, append_assoc}
use Rattle.std.proofs.lemmas.List.{append-nil, get_or_default}
use Rattle.dcp_types.specs.declared.addresses.Address.{Address}
use Rattle.dcp_ends.specs.declared.entries.LogEntry.{LogEntry}
use Rattle.dcp_ends.specs.declared.entries.LogEntry.TheVariants.{Got, Idle, Turn}
use Rattle.dcp_ends.specs.Events.{Rules}
use Rattle.rounds.specs.Rounds.{AllSent, EachEnd, Gots, IfFirst, IsGot, IsLook, IsLooks, IsRound, IsTurn, Rounds, has_report, hosted, places_of}
use Rattle.rounds.proofs.Others.{at_most}
use Rattle.replays.specs.Visits.{event_in, place_in}
use Rattle.replays.proofs.Moves.{slave_there}

-- one of these ends
pub record IsOne (ends : List Rules) (r : Rules) : Type 0 where
  pub j : ℕ
  pub within : j < length ends
  pub it : get_or ends j r ≡ r

-- an entry of one of these ends, and what it then sent
pub record IsChunk (ends : List Rules) (part : List LogEntry) : Type 0 where
  pub r : Rules
  pub one : IsOne ends r
  pub entry : LogEntry
  pub sents : List LogEntry
  pub form : part ≡ entry ∷ sents
  pub is : place_in entry ≡ Some r.place
  pub own : AllSent r.place sents
  pub idle : event_in entry ≡ [] → sents ≡ []

abbrev pub joined : List (List LogEntry) → List LogEntry
joined [] = []
joined (p ∷ ps) = p ++ joined ps

abbrev pub AreChunks : List Rules → List (List LogEntry) → Type 0
AreChunks ends [] = Unit {0}
AreChunks ends (p ∷ ps) = IsChunk ends p × AreChunks ends ps

pub record Chunked (ends : List Rules) (part : List LogEntry) : Type 0 where
  pub parts : List (List LogEntry)
  pub form : part ≡ joined parts
  pub all : AreChunks ends parts

joined-append : (ps qs : List (List LogEntry)) → joined (ps ++ qs) ≡ joined ps ++ joined qs
joined-append [] qs = refl
joined-append (p ∷ ps) qs = ap (λ rest. p ++ rest) (joined-append ps qs) ∙ sym (append_assoc p (joined ps) (joined qs))

module _ (ends : List Rules) where
  chunks-append : (ps qs : List (List LogEntry)) → AreChunks ends ps → AreChunks ends qs → AreChunks ends (ps ++ qs)
  chunks-append [] qs one other = other
  chunks-append (p ∷ ps) qs one other = (one.0, chunks-append ps qs one.1 other)

  pub chunked-nil : Chunked ends []
  chunked-nil = record { parts = []; form = refl; all = tt }

  pub chunked-append : (p q : List LogEntry) → Chunked ends p → Chunked ends q → Chunked ends (p ++ q)
  chunked-append p q one other = record {
    parts = one.parts ++ other.parts;
    form = ap (λ l. l ++ q) one.form ∙ ap (λ l. joined one.parts ++ l) other.form ∙ sym (joined-append one.parts other.parts);
    all = chunks-append one.parts other.parts one.all other.all;
  }

  chunked-one : (p : List LogEntry) → IsChunk ends p → Chunked ends p
  chunked-one p chunk = record { parts = p ∷ []; form = sym (append-nil p); all = (chunk, tt) }

  -- ---- one end

  module _ (r : Rules) (one : IsOne ends r) where
    got_chunk : (p : List LogEntry) → IsGot r.place p → Chunked ends p
    got_chunk p got = chunked-one p (record { r = r; one = one; entry = Got r.place got.from got.bytes; sents = got.sents; form = got.form; is = refl; own = got.own; idle = λ none. cc })

    pub turn_chunk : (p : List LogEntry) → IsTurn r.place p → Chunked ends p
    turn_chunk p turn = chunked-one p (record { r = r; one = one; entry = Turn r.place; sents = turn.sents; form = turn.form; is = refl; own = turn.own; idle = λ none. cc })

    gots_chunked : (n : ℕ) (p : List LogEntry) → Gots r.place n p → Chunked ends p
    gots_chunked zero p none = rw none chunked-nil
    gots_chunked (suc n) p gots = rw gots.2 (chunked-append gots.0 gots.1 (gots_chunked n gots.0 gots.3) (got_chunk gots.1 gots.4))

    idle_chunk : Chunked ends (Idle r.place ∷ [])
    idle_chunk = chunked-one (Idle r.place ∷ []) (record { r = r; one = one; entry = Idle r.place; sents = []; form = refl; is = refl; own = tt; idle = λ none. refl })

    pub look_chunked : (p : List LogEntry) → IsLook r.place p → Chunked ends p
    look_chunked p look = by (at_most look.count look.most) where
      by : (look.count ≡ 64) ⊎ (look.count < 64) → Chunked ends p
      by (inl full) = rw (look.full full) (gots_chunked look.count look.gots look.form)
      by (inr few) = rw (look.idle few) (chunked-append look.gots (Idle r.place ∷ []) (gots_chunked look.count look.gots look.form) idle_chunk)

  -- ---- all ends

  module _ (Form : Address → List LogEntry → Type 0) (whole : (r : Rules) → IsOne ends r → (p : List LogEntry) → Form r.place p → Chunked ends p) where
    each_chunked : (some : List Rules) → ((k : ℕ) (d : Rules) → k < length some → IsOne ends (get_or some k d)) → (p : List LogEntry) → EachEnd Form (places_of some) p → Chunked ends p
    each_chunked [] ones p none = rw none chunked-nil
    each_chunked (r ∷ some) ones p each =
        rw each.2 (chunked-append each.0 each.1 (whole r (ones 0 r (omega arith)) each.0 each.3) (each_chunked some (λ k d lt. ones (suc k) d (omega arith)) each.1 each.4))

module _ (master : Option Rules) (slaves : List Rules) where
  slave_one : (k : ℕ) (d : Rules) → k < length slaves → IsOne (hosted master slaves) (get_or slaves k d)
  slave_one k d lt =
      let there = slave_there master slaves k (get_or slaves k d) lt (get_or_default slaves k (get_or slaves k d) d lt) in
      record { j = there.0; within = there.1; it = there.2 }

  module _ (Form : Address → List LogEntry → Type 0) (whole : (r : Rules) → IsOne (hosted master slaves) r → (p : List LogEntry) → Form r.place p → Chunked (hosted master slaves) p) where
    pub slaves_chunked : (p : List LogEntry) → EachEnd Form (places_of slaves) p → Chunked (hosted master slaves) p
    slaves_chunked p each = each_chunked (hosted master slaves) Form whole slaves slave_one p each

pub master_one : (m : Rules) (slaves : List Rules) → IsOne (m ∷ slaves) m
master_one m slaves = record { j = 0; within = omega arith; it = refl }

pub first_chunked : (master : Option Rules) (slaves : List Rules) (Form : Address → List LogEntry → Type 0) → ((r : Rules) → IsOne (hosted master slaves) r → (p : List LogEntry) → Form r.place p → Chunked (hosted master slaves) p)
    → (p : List LogEntry) → IfFirst Form master p → Chunked (hosted master slaves) p
first_chunked None slaves Form whole p none = rw none (chunked-nil slaves)
first_chunked (Some m) slaves Form whole p form = whole m (master_one m slaves) p form

module _ (master : Option Rules) (slaves : List Rules) where
  pub looks_chunked : (p : List LogEntry) → IsLooks master slaves p → Chunked (hosted master slaves) p
  looks_chunked p looks =
      rw looks.form (chunked-append (hosted master slaves) looks.first looks.rest (first_chunked master slaves IsLook (look_chunked (hosted master slaves)) looks.first looks.own)
      (slaves_chunked master slaves IsLook (look_chunked (hosted master slaves)) looks.rest looks.others))

  turns_rest : (over : Bool) (p : List LogEntry) → MatchBool over (p ≡ []) (EachEnd IsTurn (places_of slaves) p) → Chunked (hosted master slaves) p
  turns_rest true p none = rw none (chunked-nil (hosted master slaves))
  turns_rest false p each = slaves_chunked master slaves IsTurn (turn_chunk (hosted master slaves)) p each

  round_chunked : (log p : List LogEntry) → IsRound master slaves log p → Chunked (hosted master slaves) p
  round_chunked log p round =
      let turns = round.turned in
      let second : Chunked (hosted master slaves) round.turns =
      rw turns.form (chunked-append (hosted master slaves) turns.first turns.rest (first_chunked master slaves IsTurn (turn_chunk (hosted master slaves)) turns.first turns.own)
      (turns_rest (has_report master ((log ++ round.looks) ++ turns.first)) turns.rest turns.others)) in
      rw round.form (chunked-append (hosted master slaves) round.looks round.turns (looks_chunked round.looks round.looked) second)

  pub rounds_chunked : (n : ℕ) (log : List LogEntry) → Rounds master slaves n log → Chunked (hosted master slaves) log
  rounds_chunked zero log none = rw none (chunked-nil (hosted master slaves))
  rounds_chunked (suc n) log rounds =
      rw rounds.2 (chunked-append (hosted master slaves) rounds.0 rounds.1 (rounds_chunked n rounds.0 rounds.3) (round_chunked rounds.0 rounds.1 rounds.4))
