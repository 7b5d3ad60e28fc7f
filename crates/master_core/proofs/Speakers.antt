-- A datagram concerns one conversation at most, since the slaves have different addresses.
use Rattle.std.proofs.Common.{◌≡◌, ◌≢◌, ◌<◌, ◌+◌, ℕ, zero, suc, Bool, true, false, Option, List, [], ◌∷◌, ◌++◌, map, length, get_or, set, refl, sym, ap, subst, ◌∙◌, arith, append-nil}
use Rattle.std.specs.Prelude.{AllPairs}
use Rattle.std.specs.List.{flat_map, AllByRecursion}
use Rattle.std.proofs.lemmas.Bool.Decides.{nat_tests}
use Rattle.std.proofs.lemmas.List.Elements.{All-from_recursion}
use Rattle.std.proofs.lemmas.List.Kept.{AllPairs-cons}
use Rattle.dcp_types.specs.declared.addresses.Address.{Address}
use Rattle.dcp_types.specs.declared.limits.Limits.{Limits}
use Rattle.dcp_ends.specs.Events.{Send}
use Rattle.dcp_ends.specs.Logs.{same_address}
use Rattle.slave_desc.specs.declared.descriptions.SlaveDesc.{SlaveDesc}
use Rattle.scenario.specs.declared.scenarios.Scenario.{Scenario}
use Rattle.master_spec.specs.declared.setups.Slave.{Slave}
use Rattle.master_spec.specs.Marks.{Mark}
use Rattle.master_spec.specs.Setup.{slave_of, slaves_from}
use Rattle.master_spec.specs.Course.{CourseTalk as Said, marked, sends_after, mark_for, mark_of_gram}
use Rattle.master_spec.specs.News.{news_of}
use Rattle.master_core.specs.declared.records.Talk.{Talk}
use Rattle.master_core.specs.Apart.{AreSlavesApart}
use Rattle.master_core.specs.Each.{Each}
use Rattle.master_core.specs.Speaking.{AreSilent, SpeaksAt}
use Rattle.master_core.specs.Talking.{TalkStandsAt, Now, slave_talked_to}
use Rattle.master_core.proofs.Hearings.{from_it, not_from_it}

-- ---- addresses

address : ℕ → ℕ → Address
address ip port = record { ip = ip; port = port }

same_is_one : (a b : Address) → same_address a b ≡ true → a ≡ b
unfolding address
same_is_one a b h =
    let ip : a.ip ≡ b.ip = grind (arith, nat_tests) in
    let port : a.port ≡ b.port = grind (arith, nat_tests) in
    ap (λ (x : ℕ). address x a.port) ip ∙ ap (address b.ip) port

not_true : (x : Bool) → (x ≡ true → ⊥) → x ≡ false
not_true true f = absurd (f refl)
not_true false f = refl

differs : (from a b : Address) → same_address from a ≡ true → (a ≡ b → ⊥) → same_address from b ≡ false
differs from a b e n = not_true (same_address from b) (λ t. n (sym (same_is_one from a e) ∙ same_is_one from b t))

-- ---- the slaves of a scenario

later_apart : (sc : Scenario) (s : ℕ) (d : SlaveDesc) (ds : List SlaveDesc) → ((j : ℕ) (e : SlaveDesc) → j < length ds → d.address ≢ (get_or ds j e).address) → AllByRecursion (λ (b : Slave). d.address ≢ b.address) (slaves_from sc s ds)
later_apart sc s d [] h = tt
later_apart sc s d (x ∷ ds) h = (h 0 x (omega arith), later_apart sc (s + 1) d ds (λ j e l. h (suc j) e (omega (arith, l))))

pub apart_from : (sc : Scenario) (s : ℕ) (ds : List SlaveDesc) → AllPairs (λ (d e : SlaveDesc). d.address ≢ e.address) ds → AreSlavesApart (slaves_from sc s ds)
apart_from sc s [] h = λ i j d lt l. absurd (omega (arith, l))
apart_from sc s (d ∷ ds) h =
    AllPairs-cons (λ (a b : Slave). a.address ≢ b.address) (slave_of sc s d) (slaves_from sc (s + 1) ds)
    (All-from_recursion (λ (b : Slave). d.address ≢ b.address) (slaves_from sc (s + 1) ds) (later_apart sc (s + 1) d ds (λ j e l. h 0 (suc j) e (omega arith) (omega (arith, l)))))
    (apart_from sc (s + 1) ds (λ i j e lt l. h (suc i) (suc j) e (omega (arith, lt)) (omega (arith, l))))

-- each differs from all behind it
abbrev Differ : List Slave → Type 0
Differ [] = Unit {0}
Differ (a ∷ slaves) = AllByRecursion (λ b. a.address ≢ b.address) slaves × Differ slaves

later_differ : (a : Address) (slaves : List Slave) → ((j : ℕ) (e : Slave) → j < length slaves → a ≢ (get_or slaves j e).address) → AllByRecursion (λ (b : Slave). a ≢ b.address) slaves
later_differ a [] h = tt
later_differ a (x ∷ slaves) h = (h 0 x (omega arith), later_differ a slaves (λ j e l. h (suc j) e (omega (arith, l))))

differ : (slaves : List Slave) → AreSlavesApart slaves → Differ slaves
differ [] h = tt
differ (a ∷ slaves) h = (
  later_differ a.address slaves (λ j e l. h 0 (suc j) e (omega arith) (omega (arith, l))),
  differ slaves (λ i j e lt l. h (suc i) (suc j) e (omega (arith, lt)) (omega (arith, l))),
)

-- ---- who speaks

abbrev IsSilent : Address → Talk → Type 0
IsSilent from t = same_address from t.slave.address ≡ false

pub all_silent : (from : Address) (xs : List Talk) → AreSilent from 0 (length xs) xs → AllByRecursion (IsSilent from) xs
all_silent from [] h = tt
all_silent from (x ∷ xs) h = (h 0 x (omega arith) (omega arith), all_silent from xs (λ k t low high. h (suc k) t (omega arith) (omega (arith, high))))

-- the slave at this place may speak, and no other does
abbrev Alone : Address → ℕ → List Talk → Type 0
Alone from i [] = ⊥
Alone from zero (x ∷ xs) = AllByRecursion (IsSilent from) xs
Alone from (suc i) (x ∷ xs) = IsSilent from x × Alone from i xs

later_silent : (from a : Address) (xs : List Talk) → same_address from a ≡ true → AllByRecursion (λ (b : Slave). a ≢ b.address) (map slave_talked_to xs) → AllByRecursion (IsSilent from) xs
later_silent from a [] e h = tt
later_silent from a (x ∷ xs) e h = (differs from a x.slave.address e h.0, later_silent from a xs e h.1)

at_place : (a : Address) (i : ℕ) (xs : List Talk) (t : Talk) → AllByRecursion (λ (b : Slave). a ≢ b.address) (map slave_talked_to xs) → i < length xs → a ≡ (get_or xs i t).slave.address → ⊥
at_place a i [] t h l = absurd (omega (arith, l))
at_place a zero (x ∷ xs) t h l = h.0
at_place a (suc i) (x ∷ xs) t h l = at_place a i xs t h.1 (omega (arith, l))

alone : (from : Address) (i : ℕ) (xs : List Talk) (t : Talk) → Differ (map slave_talked_to xs) → i < length xs → same_address from (get_or xs i t).slave.address ≡ true → Alone from i xs
alone from i [] t a l e = absurd (omega (arith, l))
alone from zero (x ∷ xs) t a l e = later_silent from x.slave.address xs e a.0
alone from (suc i) (x ∷ xs) t a l e =
    let inside : i < length xs = omega (arith, l) in
    (differs from (get_or xs i t).slave.address x.slave.address e (λ q. at_place x.slave.address i xs t a.0 inside (sym q)), alone from i xs t a.1 inside e)

-- ---- what a datagram is to all

silent_stands : (limits : Limits) (now : Now) (t : Talk) (talk : Said) (from : Address) (bytes : List ℕ) → TalkStandsAt limits now t talk → IsSilent from t → TalkStandsAt limits now t (marked limits talk (mark_of_gram talk from bytes))
silent_stands limits now t talk from bytes s e = subst (λ (m : Option Mark). TalkStandsAt limits now t (marked limits talk m)) (not_from_it limits now t talk from bytes s e) s

silent_sends : (limits : Limits) (now : Now) (t : Talk) (talk : Said) (from : Address) (bytes : List ℕ) → TalkStandsAt limits now t talk → IsSilent from t → [] ≡ sends_after limits talk (mark_of_gram talk from bytes)
silent_sends limits now t talk from bytes s e = ap (λ (m : Option Mark). sends_after limits talk m) (not_from_it limits now t talk from bytes s e)

-- each conversation stands for its own after the datagram, and this was sent
pub record Offered (limits : Limits) (now : Now) (from : Address) (bytes : List ℕ) (xs : List Talk) (said : List Said) (base out : List Send) : Type 0 where
  pub stand : Each (TalkStandsAt limits now) xs (map (λ talk. marked limits talk (mark_of_gram talk from bytes)) said)
  pub sends : out ≡ base ++ flat_map (λ talk. sends_after limits talk (mark_of_gram talk from bytes)) said

unheard : (limits : Limits) (now : Now) (from : Address) (bytes : List ℕ) (xs : List Talk) (said : List Said) (base : List Send) → AllByRecursion (IsSilent from) xs → Each (TalkStandsAt limits now) xs said → Offered limits now from bytes xs said base base
unheard limits now from bytes [] [] base a e = record { stand = tt; sends = sym (append-nil base) }
unheard limits now from bytes [] (y ∷ ys) base a e = absurd e
unheard limits now from bytes (x ∷ xs) [] base a e = absurd e
unheard limits now from bytes (x ∷ xs) (y ∷ ys) base a e =
    let rest = unheard limits now from bytes xs ys base a.1 e.1 in
    let later : List Send = flat_map (λ (talk : Said). sends_after limits talk (mark_of_gram talk from bytes)) ys in
    record {
      stand = (silent_stands limits now x y from bytes e.0 a.0, rest.stand);
      sends = rest.sends ∙ ap (λ (l : List Send). base ++ (l ++ later)) (silent_sends limits now x y from bytes e.0 a.0);
    }

heard_alone : (limits : Limits) (now : Now) (from : Address) (bytes : List ℕ) (i : ℕ) (xs : List Talk) (said : List Said) (d t : Talk) (base out : List Send) → Alone from i xs → Each (TalkStandsAt limits now) xs said
    → ((talk : Said) → TalkStandsAt limits now (get_or xs i d) talk → TalkStandsAt limits now t (marked limits talk (mark_of_gram talk from bytes)))
    → ((talk : Said) → TalkStandsAt limits now (get_or xs i d) talk → out ≡ base ++ sends_after limits talk (mark_of_gram talk from bytes))
    → Offered limits now from bytes (set xs i t) said base out
heard_alone limits now from bytes i [] said d t base out a e one two = absurd a
heard_alone limits now from bytes i (x ∷ xs) [] d t base out a e one two = absurd e
heard_alone limits now from bytes zero (x ∷ xs) (y ∷ ys) d t base out a e one two =
    let sent : List Send = sends_after limits y (mark_of_gram y from bytes) in
    let rest = unheard limits now from bytes xs ys sent a e.1 in
    record {
      stand = (one y e.0, rest.stand);
      sends = two y e.0 ∙ ap (λ (l : List Send). base ++ l) rest.sends;
    }
heard_alone limits now from bytes (suc i) (x ∷ xs) (y ∷ ys) d t base out a e one two =
    let rest = heard_alone limits now from bytes i xs ys d t base out a.1 e.1 one two in
    let later : List Send = flat_map (λ (talk : Said). sends_after limits talk (mark_of_gram talk from bytes)) ys in
    record {
      stand = (silent_stands limits now x y from bytes e.0 a.0, rest.stand);
      sends = rest.sends ∙ ap (λ (l : List Send). base ++ (l ++ later)) (silent_sends limits now x y from bytes e.0 a.0);
    }

-- no slave has the address
pub offered_none : (limits : Limits) (now : Now) (from : Address) (bytes : List ℕ) (xs : List Talk) (said : List Said) (base : List Send) → AreSilent from 0 (length xs) xs → Each (TalkStandsAt limits now) xs said → Offered limits now from bytes xs said base base
offered_none limits now from bytes xs said base a e = unheard limits now from bytes xs said base (all_silent from xs a) e

-- one has, and hears
pub offered_one : (limits : Limits) (now : Now) (from : Address) (bytes : List ℕ) (i : ℕ) (xs : List Talk) (said : List Said) (old t : Talk) (base out : List Send) → AreSlavesApart (map slave_talked_to xs) → SpeaksAt from xs i
    → old ≡ get_or xs i old → Each (TalkStandsAt limits now) xs said
    → ((talk : Said) → TalkStandsAt limits now old talk → TalkStandsAt limits now t (marked limits talk (mark_for talk.slave talk.marks (news_of bytes))))
    → ((talk : Said) → TalkStandsAt limits now old talk → out ≡ base ++ sends_after limits talk (mark_for talk.slave talk.marks (news_of bytes)))
    → Offered limits now from bytes (set xs i t) said base out
offered_one limits now from bytes i xs said old t base out apart speaks is e one two =
    let there : Talk = get_or xs i old in
    let own : (talk : Said) → TalkStandsAt limits now there talk → TalkStandsAt limits now old talk = λ talk s. subst (λ (x : Talk). TalkStandsAt limits now x talk) (sym is) s in
    let mark : (talk : Said) → TalkStandsAt limits now there talk → mark_for talk.slave talk.marks (news_of bytes) ≡ mark_of_gram talk from bytes = λ talk s. from_it limits now there talk from bytes s (speaks.1 old) in
    heard_alone limits now from bytes i xs said old t base out (alone from i xs old (differ (map slave_talked_to xs) apart) speaks.0 (speaks.1 old)) e
    (λ talk s. subst (λ (m : Option Mark). TalkStandsAt limits now t (marked limits talk m)) (mark talk s) (one talk (own talk s)))
    (λ talk s. two talk (own talk s) ∙ ap (λ (m : Option Mark). base ++ sends_after limits talk m) (mark talk s))
