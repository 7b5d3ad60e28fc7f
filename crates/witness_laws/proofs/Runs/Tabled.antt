-- The log of a table is a log of whole rounds, where the master has its report at its last turn and not before.
use Rattle.std.proofs.Common.{◌≡◌, ℕ, suc, ◌+◌, ◌<◌, ◌≤◌, Bool, true, false, Some, List, [], ◌∷◌, ◌++◌, length, reverse, refl, sym, ap, ◌∙◌, subst, arith, append-nil, append_assoc}
use Rattle.std.specs.Prelude.{nat_lt, is_some, if◌then◌else◌, MatchBool, drop, slice_index_or}
use Rattle.std.specs.List.{flat_map, list_all}
use Rattle.std.proofs.lemmas.List.{reverse-append}
use Rattle.std.proofs.lemmas.Bool.{ltb-true}
use Rattle.dcp_types.specs.declared.addresses.Address.{Address}
use Rattle.dcp_ends.specs.Events.{Event, Gram, Tick, Send, Rules}
use Rattle.dcp_ends.specs.Logs.{sent_by, events_at}
use Rattle.dcp_ends.specs.declared.entries.LogEntry.{LogEntry}
use Rattle.rounds.specs.Rounds.{IsGot, IsTurn, Gots, IsLook, EachEnd, places_of, has_report, IsLooks, IsTurns, IsRound, Rounds}
use Rattle.rounds.proofs.Logs.{AllSent-sent_by, events_at-append}
use Rattle.scenario.specs.declared.scenarios.Scenario.{Scenario}
use Rattle.master_spec.specs.declared.setups.Setup.{Setup}
use Rattle.master_spec.specs.Setup.{setup_from}
use Rattle.master_spec.specs.Course.{Course, course, step, still, after_gram, course_after_turn}
use Rattle.master_spec.specs.Rules.{master_rules}
use Rattle.witness_laws.specs.Runs.Tables.{Heeded, RoundTable, heeded_entries, look_entries, turn_entries, looks_entries, turns_entries, round_entries, rounds_log, table_log}
use Rattle.witness_laws.proofs.Runs.Standing.{both_true}

-- ---- looks and turns
got : (a : Address) (h : Heeded) → IsGot a (heeded_entries a h)
got a h = record { from = h.from; bytes = h.bytes; sents = sent_by a h.sends; form = refl; own = AllSent-sent_by a h.sends }

more_gots : (a : Address) (n : ℕ) (before : List LogEntry) (hs : List Heeded) → Gots a n before → Gots a (n + length hs) (before ++ flat_map (heeded_entries a) hs)
more_gots a n before [] g = subst (Gots a (n + 0)) (sym (append-nil before)) (subst (λ (k : ℕ). Gots a k before) (omega arith) g)
more_gots a n before (h ∷ hs) g =
    let z = more_gots a (suc n) (before ++ heeded_entries a h) hs (before, heeded_entries a h, refl, g, got a h) in
    subst (Gots a (n + length (h ∷ hs))) (append_assoc before (heeded_entries a h) (flat_map (heeded_entries a) hs))
    (subst (λ (k : ℕ). Gots a k ((before ++ heeded_entries a h) ++ flat_map (heeded_entries a) hs)) (omega arith) z)

abbrev pub is_few : List Heeded → Bool
is_few hs = nat_lt (length hs) 64

looked : (a : Address) (hs : List Heeded) → is_few hs ≡ true → IsLook a (look_entries a hs)
looked a hs few =
    let less : length hs < 64 = ltb-true (length hs) 64 few in
    record {
      count = length hs;
      gots = flat_map (heeded_entries a) hs;
      form = subst (λ (k : ℕ). Gots a k (flat_map (heeded_entries a) hs)) (omega arith) (more_gots a 0 [] hs refl);
      most = omega (arith, less);
      full = λ e. absurd (omega (arith, e, less));
      idle = λ l. refl;
    }

few_first : (looks : List (List Heeded)) → list_all is_few looks ≡ true → is_few (slice_index_or looks 0 []) ≡ true
few_first [] h = refl
few_first (hs ∷ looks) h = (both_true (is_few hs) (list_all is_few looks) h).0

few_others : (looks : List (List Heeded)) → list_all is_few looks ≡ true → list_all is_few (drop 1 looks) ≡ true
few_others [] h = refl
few_others (hs ∷ looks) h = (both_true (is_few hs) (list_all is_few looks) h).1

each_looked : (places : List Address) (looks : List (List Heeded)) → list_all is_few looks ≡ true → EachEnd IsLook places (looks_entries places looks)
each_looked [] looks few = refl
each_looked (a ∷ places) looks few =
    (look_entries a (slice_index_or looks 0 []), looks_entries places (drop 1 looks), refl, looked a (slice_index_or looks 0 []) (few_first looks few), each_looked places (drop 1 looks) (few_others looks few))

turned : (a : Address) (sends : List Send) → IsTurn a (turn_entries a sends)
turned a sends = record { sents = sent_by a sends; form = refl; own = AllSent-sent_by a sends }

each_turned : (places : List Address) (turns : List (List Send)) → EachEnd IsTurn places (turns_entries places turns)
each_turned [] turns = refl
each_turned (a ∷ places) turns =
    (turn_entries a (slice_index_or turns 0 []), turns_entries places (drop 1 turns), refl, turned a (slice_index_or turns 0 []), each_turned places (drop 1 turns))

-- ---- rounds
module _ (m : Rules) (slaves : List Rules) where
  abbrev places : List Address
  places = m.place ∷ places_of slaves

  looks_are : (looks : List (List Heeded)) → list_all is_few looks ≡ true → IsLooks (Some m) slaves (looks_entries places looks)
  looks_are looks few = record {
    first = look_entries m.place (slice_index_or looks 0 []);
    rest = looks_entries (places_of slaves) (drop 1 looks);
    form = refl;
    own = looked m.place (slice_index_or looks 0 []) (few_first looks few);
    others = each_looked (places_of slaves) (drop 1 looks) (few_others looks few);
  }

  turns_are : (log : List LogEntry) (turns : List (List Send)) → has_report (Some m) (log ++ turn_entries m.place (slice_index_or turns 0 [])) ≡ false → IsTurns (Some m) slaves log (turns_entries places turns)
  turns_are log turns none = record {
    first = turn_entries m.place (slice_index_or turns 0 []);
    rest = turns_entries (places_of slaves) (drop 1 turns);
    form = refl;
    own = turned m.place (slice_index_or turns 0 []);
    others = subst (λ (b : Bool). MatchBool b (turns_entries (places_of slaves) (drop 1 turns) ≡ []) (EachEnd IsTurn (places_of slaves) (turns_entries (places_of slaves) (drop 1 turns)))) (sym none) (each_turned (places_of slaves) (drop 1 turns));
  }

  last_turn_is : (log : List LogEntry) (turns : List (List Send)) → has_report (Some m) (log ++ turn_entries m.place (slice_index_or turns 0 [])) ≡ true → IsTurns (Some m) slaves log (turns_entries (m.place ∷ []) turns)
  last_turn_is log turns some = let none : List LogEntry = [] in record {
    first = turn_entries m.place (slice_index_or turns 0 []);
    rest = [];
    form = refl;
    own = turned m.place (slice_index_or turns 0 []);
    others = subst (λ (b : Bool). MatchBool b (none ≡ []) (EachEnd IsTurn (places_of slaves) none)) (sym some) refl;
  }

  abbrev is_short : RoundTable → Bool
  is_short r = list_all is_few r.looks

  -- once the master has its report it has it
  module _ (stays : (p q : List LogEntry) → has_report (Some m) (p ++ q) ≡ false → has_report (Some m) p ≡ false) where
    more_rounds : (n : ℕ) (before : List LogEntry) (rounds : List RoundTable) → list_all is_short rounds ≡ true → has_report (Some m) (before ++ rounds_log places rounds) ≡ false
        → Rounds (Some m) slaves n before → Rounds (Some m) slaves (n + length rounds) (before ++ rounds_log places rounds)
    more_rounds n before [] few none h = subst (Rounds (Some m) slaves (n + 0)) (sym (append-nil before)) (subst (λ (k : ℕ). Rounds (Some m) slaves k before) (omega arith) h)
    more_rounds n before (r ∷ rounds) few none h =
        let z = both_true (is_short r) (list_all is_short rounds) few in
        let looks = looks_entries places r.looks in
        let own = turn_entries m.place (slice_index_or r.turns 0 []) in
        let others = turns_entries (places_of slaves) (drop 1 r.turns) in
        let later = rounds_log places rounds in
        let joined : before ++ ((looks ++ (own ++ others)) ++ later) ≡ ((before ++ looks) ++ own) ++ (others ++ later)
        = ap (λ (l : List LogEntry). before ++ l) (append_assoc looks (own ++ others) later ∙ ap (λ (l : List LogEntry). looks ++ l) (append_assoc own others later))
        ∙ sym (append_assoc before looks (own ++ (others ++ later))) ∙ sym (append_assoc (before ++ looks) own (others ++ later)) in
        let here : has_report (Some m) ((before ++ looks) ++ own) ≡ false = stays ((before ++ looks) ++ own) (others ++ later) (subst (λ (l : List LogEntry). has_report (Some m) l ≡ false) joined none) in
        let one : IsRound (Some m) slaves before (round_entries places r) = record { looks = looks; turns = turns_entries places r.turns; form = refl; looked = looks_are r.looks z.0; turned = turns_are (before ++ looks) r.turns here } in
        let next : (before ++ round_entries places r) ++ later ≡ before ++ (round_entries places r ++ later) = append_assoc before (round_entries places r) later in
        let g = more_rounds (suc n) (before ++ round_entries places r) rounds z.1 (subst (λ (l : List LogEntry). has_report (Some m) l ≡ false) (sym next) none) (before, round_entries places r, refl, h, one) in
        subst (Rounds (Some m) slaves (n + length (r ∷ rounds))) next (subst (λ (k : ℕ). Rounds (Some m) slaves k ((before ++ round_entries places r) ++ later)) (omega arith) g)

    whole_rounds : (rounds : List RoundTable) (last : RoundTable) → list_all is_short rounds ≡ true → is_short last ≡ true
        → has_report (Some m) (rounds_log places rounds ++ looks_entries places last.looks) ≡ false
        → has_report (Some m) ((rounds_log places rounds ++ looks_entries places last.looks) ++ turn_entries m.place (slice_index_or last.turns 0 [])) ≡ true
        → Rounds (Some m) slaves (suc (length rounds)) (table_log m.place (places_of slaves) rounds last)
    whole_rounds rounds last few few_last none some =
        let before = rounds_log places rounds in
        let h : Rounds (Some m) slaves (length rounds) before = subst (λ (k : ℕ). Rounds (Some m) slaves k before) (omega arith) (more_rounds 0 [] rounds few (stays before (looks_entries places last.looks) none) refl) in
        (before, looks_entries places last.looks ++ turns_entries (m.place ∷ []) last.turns, refl, h, record { looks = looks_entries places last.looks; turns = turns_entries (m.place ∷ []) last.turns; form = refl; looked = looks_are last.looks few_last; turned = last_turn_is (before ++ looks_entries places last.looks) last.turns some })

-- ---- the master's report
report_stays_once : (setup : Setup) (event : Event) (c : Course) → is_some (step setup event c).report ≡ false → is_some c.report ≡ false
unfolding step
report_stays_once setup (Gram from bytes) c h = by (is_some c.report) refl
  where
    P : Bool → Type 0
    P b = is_some (if b then still c else after_gram setup from bytes c).report ≡ false

    by : (b : Bool) → is_some c.report ≡ b → is_some c.report ≡ false
    by true e = subst P e h
    by false e = e
report_stays_once setup Tick c h = by (is_some c.report) refl
  where
    P : Bool → Type 0
    P b = is_some (if b then still c else course_after_turn setup c).report ≡ false

    by : (b : Bool) → is_some c.report ≡ b → is_some c.report ≡ false
    by true e = subst P e h
    by false e = e

report_stays : (setup : Setup) (later earlier : List Event) → is_some (course setup (later ++ earlier)).report ≡ false → is_some (course setup earlier).report ≡ false
report_stays setup [] earlier h = h
report_stays setup (event ∷ later) earlier h = report_stays setup later earlier (report_stays_once setup event (course setup (later ++ earlier)) h)

master_stays : (sc : Scenario) (p q : List LogEntry) → has_report (Some (master_rules sc)) (p ++ q) ≡ false → has_report (Some (master_rules sc)) p ≡ false
master_stays sc p q h =
    let a = sc.master in
    let joined : reverse (events_at a (p ++ q)) ≡ reverse (events_at a q) ++ reverse (events_at a p) = ap reverse (events_at-append a p q) ∙ reverse-append (events_at a p) (events_at a q) in
    report_stays (setup_from sc) (reverse (events_at a q)) (reverse (events_at a p)) (subst (λ (es : List Event). is_some (course (setup_from sc) es).report ≡ false) joined h)

-- the log of a table is whole rounds
pub table_rounds : (sc : Scenario) (slaves : List Rules) (rounds : List RoundTable) (last : RoundTable)
    → list_all (λ (r : RoundTable). list_all is_few r.looks) rounds ≡ true → list_all is_few last.looks ≡ true
    → has_report (Some (master_rules sc)) (rounds_log (sc.master ∷ places_of slaves) rounds ++ looks_entries (sc.master ∷ places_of slaves) last.looks) ≡ false
    → has_report (Some (master_rules sc)) ((rounds_log (sc.master ∷ places_of slaves) rounds ++ looks_entries (sc.master ∷ places_of slaves) last.looks) ++ turn_entries sc.master (slice_index_or last.turns 0 [])) ≡ true
    → Rounds (Some (master_rules sc)) slaves (suc (length rounds)) (table_log sc.master (places_of slaves) rounds last)
table_rounds sc slaves rounds last few few_last none some = whole_rounds (master_rules sc) slaves (master_stays sc) rounds last few few_last none some

-- there is one slave
pub alone : (P : ℕ → Type 0) → P 1 → (s : ℕ) → (0 < s) × (s ≤ 1) → P s
alone P h s is = let e : 1 ≡ s = omega (arith, is.0, is.1) in subst P e h
