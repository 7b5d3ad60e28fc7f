-- Each round has a turn of the master.
use Rattle.std.proofs.Common.{◌≡◌, ℕ, zero, suc, ◌+◌, ◌≤◌, ◌==◌, Bool, true, Some, List, ◌∷◌, ◌++◌, refl, ap, arith}
use Rattle.std.specs.Prelude.{if◌then◌else◌, count_by}
use Rattle.std.proofs.lemmas.List.Sums.{sum_by-cons, sum_by-append}
use Rattle.std.proofs.lemmas.Bool.{eq-eqb, and_from}
use Rattle.dcp_types.specs.declared.addresses.Address.{Address}
use Rattle.dcp_ends.specs.declared.entries.LogEntry.{LogEntry}
use Rattle.dcp_ends.specs.declared.entries.LogEntry.TheVariants.{Turn}
use Rattle.dcp_ends.specs.Events.{Rules}
use Rattle.dcp_ends.specs.Logs.{same_address}
use Rattle.master_spec.specs.Requests.{is_turn_of}
use Rattle.rounds.specs.Rounds.{IsTurn, IsTurns, IsRound, Rounds}

same_self : (a : Address) → same_address a a ≡ true
same_self a = and_from (a.ip == a.ip) (a.port == a.port) (eq-eqb a.ip a.ip refl) (eq-eqb a.port a.port refl)

-- what an entry adds
abbrev added : Bool → ℕ
added b = if b then 1 else 0

-- the turns of an end in a log
abbrev turns_of : Address → List LogEntry → ℕ
turns_of a log = count_by (is_turn_of a) log

turns_both : (a : Address) (p q : List LogEntry) → turns_of a (p ++ q) ≡ turns_of a p + turns_of a q
turns_both a p q = sum_by-append (λ x. added (is_turn_of a x)) p q

turn_turns : (a : Address) (part : List LogEntry) → IsTurn a part → 1 ≤ turns_of a part
turn_turns a part h =
    let e : turns_of a part ≡ turns_of a (Turn a ∷ h.sents) = ap (λ (p : List LogEntry). turns_of a p) h.form in
    let f : turns_of a (Turn a ∷ h.sents) ≡ added (same_address a a) + turns_of a h.sents = sum_by-cons (λ x. added (is_turn_of a x)) (Turn a) h.sents in
    let g : added (same_address a a) ≡ 1 = ap (λ (b : Bool). added b) (same_self a) in
    omega (arith, e, f, g)

turns_turns : (master : Rules) (slaves : List Rules) (log part : List LogEntry) → IsTurns (Some master) slaves log part → 1 ≤ turns_of master.place part
turns_turns master slaves log part h =
    let e : turns_of master.place part ≡ turns_of master.place (h.first ++ h.rest) = ap (λ (p : List LogEntry). turns_of master.place p) h.form in
    let f = turns_both master.place h.first h.rest in
    let one = turn_turns master.place h.first h.own in
    omega (arith, e, f, one)

round_turns : (master : Rules) (slaves : List Rules) (log part : List LogEntry) → IsRound (Some master) slaves log part → 1 ≤ turns_of master.place part
round_turns master slaves log part h =
    let e : turns_of master.place part ≡ turns_of master.place (h.looks ++ h.turns) = ap (λ (p : List LogEntry). turns_of master.place p) h.form in
    let f = turns_both master.place h.looks h.turns in
    let one = turns_turns master slaves (log ++ h.looks) h.turns h.turned in
    omega (arith, e, f, one)

-- A log of n rounds has n turns of the master or more.
pub rounds_turns : (master : Rules) (slaves : List Rules) (n : ℕ) (log : List LogEntry) → Rounds (Some master) slaves n log → n ≤ count_by (is_turn_of master.place) log
rounds_turns master slaves zero log h = omega arith
rounds_turns master slaves (suc n) log h =
    let before = h.0 in
    let part = h.1 in
    let e : turns_of master.place log ≡ turns_of master.place (before ++ part) = ap (λ (p : List LogEntry). turns_of master.place p) h.2 in
    let f = turns_both master.place before part in
    let rest = rounds_turns master slaves n before h.3 in
    let one = round_turns master slaves before part h.4 in
    omega (arith, e, f, rest, one)
