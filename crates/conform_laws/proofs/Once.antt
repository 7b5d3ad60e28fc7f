-- What a slave whose model is not known has taken in a run is once and in order.
use Rattle.std.proofs.Common.{◌≡◌, ℕ, Bool, true, false, if◌then◌else◌, ◌⊎◌, inl, inr, List, [], ◌∷◌, ◌++◌, map, reverse, refl, sym, ap, ◌∙◌, subst, Some, append_assoc}
use Rattle.std.proofs.lemmas.List.{append-nil, reverse-append, reverse-reverse}
use Rattle.dcp_types.specs.declared.addresses.Address.{Address}
use Rattle.dcp_ends.specs.declared.entries.LogEntry.{LogEntry}
use Rattle.dcp_ends.specs.declared.entries.LogEntry.TheVariants.{Sent, Got, Idle, Turn}
use Rattle.dcp_ends.specs.Events.{Gram, Tick, Send}
use Rattle.dcp_ends.specs.Logs.{same_address, sent_by}
use Rattle.log_spec.specs.Log.{Parties, IsSlaveOf, IsEnd, IsAtEnd, AreAtEnds, DecidedRequest}
use Rattle.log_spec.specs.Channel.{at_ordinal}
use Rattle.log_spec.specs.Moves.{decided_exchanges}
use Rattle.log_spec.specs.Honest.{HonestNewest}
use Rattle.log_spec.proofs.Turned.{honest_newest}
use Rattle.lockstep_laws.specs.Slaves.{AskNothing}
use Rattle.lockstep_laws.specs.Models.Scenarios.{slave_numbered}
use Rattle.lockstep_laws.proofs.Models.Scenarios.{has_parties}
use Rattle.pdu_layout.specs.Reading.{message_in}
use Rattle.slave_desc.specs.declared.descriptions.SlaveDesc.{SlaveDesc}
use Rattle.scenario.specs.declared.scenarios.Scenario.{Scenario}
use Rattle.scenario.specs.Sound.{IsScenario}
use Rattle.master_spec.specs.Setup.{setup_from, slave_of}
use Rattle.master_log_laws.specs.Index.Runs.{IsRun}
use Rattle.master_log_laws.proofs.Index.ByEntry.{entry_by_entry}
use Rattle.master_log_laws.proofs.Scenarios.Heard.{setups_heard}
use Rattle.master_laws.proofs.Meets.Asking as asking
use Rattle.run_laws.specs.Laws.{parties, slave_setup_of, rules_of_slaves}
use Rattle.run_laws.proofs.Runs.{party, are_parties}
use Rattle.run_laws.proofs.Rounded.{rounds_are_runs}
use Rattle.master_spec.specs.Rules.{master_rules}
use Rattle.slave_spec.specs.Slaves.{slave_rules_from}
use Rattle.conform_laws.proofs.Cutting.{rounds_cut}
use Rattle.conform_laws.proofs.Following.{cut_allowed}
use Rattle.slave_laws.specs.Talk.Desks.{post}
use Rattle.slave_laws.specs.Talk.Sends.{ReadsMessages}
use Rattle.slave_laws.proofs.Talk.Agreeing.{readings_agree}
use Rattle.slave_spec.specs.Foreign.{ForeignState, foreign_fresh}
use Rattle.slave_spec.specs.Allowed.{end_of_entry, entries_of, Piece, Rests, Acts, cut_entries, AreAllowed, Allowed, IsAllowedFront}
use Rattle.slave_spec.proofs.Walking.{same_self}
use Rattle.conform_laws.specs.Serving.{AsksNothing, OthersAskNothing, IsRunWith, taken_so_far, AtEachMoment, TakenOnce, DecidedAsTaken, DecidedAsGiven, AllowedAskNothing, HostRunsAreSuch}
use Rattle.conform_laws.proofs.Asides.{sends_ask_nothing}
use Rattle.conform_laws.proofs.Conversing.{taken_in_order, decided_as_taken, is_ordered}
use Rattle.conform_laws.proofs.Decided.{stands_behind, IsOrdered, AllOrdered, decided_by}
use Rattle.conform_laws.proofs.Serving.{At, AllFair, reach, has_taken}

-- ---- parts of a log

-- what is said of all entries holds of the last ones
others_split : (w : Parties) (s : ℕ) (xs ys : List LogEntry) → OthersAskNothing w s (xs ++ ys) → OthersAskNothing w s ys
others_split w s [] ys h = h
others_split w s (x ∷ xs) ys h = others_split w s xs ys h.1

-- of two parts as one
others_joined : (w : Parties) (s : ℕ) (xs ys : List LogEntry) → OthersAskNothing w s xs → OthersAskNothing w s ys → OthersAskNothing w s (xs ++ ys)
others_joined w s [] ys h k = k
others_joined w s (x ∷ xs) ys h k = (h.0, others_joined w s xs ys h.1 k)

-- and in either order
others_turned : (w : Parties) (s : ℕ) (xs : List LogEntry) → OthersAskNothing w s xs → OthersAskNothing w s (reverse xs)
others_turned w s [] h = h
others_turned w s (x ∷ xs) h =
    let P : List LogEntry → Type 0 = OthersAskNothing w s in
    subst P (sym (reverse-append (x ∷ []) xs)) (others_joined w s (reverse xs) (x ∷ []) (others_turned w s xs h.1) (h.0, tt))

-- what is honest later was honest so far
honest_so_far : (w : Parties) (later sofar : List LogEntry) → HonestNewest w (later ++ sofar) → HonestNewest w sofar
honest_so_far w [] sofar h = h
honest_so_far w (e ∷ later) sofar h = honest_so_far w later sofar h.1

module _ (sc : Scenario) (other : SlaveDesc) (ok : IsScenario sc) where
  run_so_far : (later sofar : List LogEntry) → IsRun (setup_from sc) (later ++ sofar) → IsRun (setup_from sc) sofar
  run_so_far [] sofar h = h
  run_so_far (e ∷ later) sofar h = run_so_far later sofar h.1

  -- ---- one slave

  module _ (s : ℕ) (log : List LogEntry) (run : IsRunWith sc other s log) where
    abbrev w : Parties
    w = parties sc other

    -- the description of the slave
    abbrev d : SlaveDesc
    d = slave_numbered sc other s

    -- where it stands in its pieces
    abbrev Stands : List LogEntry → List LogEntry → Type 0
    Stands rest sofar = At (parties sc other) (λ b. refl) readings_agree s run.slave (has_parties sc other ok message_in).apart (slave_numbered sc other s) refl ((run.allowed).1).pieces ((run.allowed).1).allowed rest sofar

    -- the network and the master do what they may at each entry
    all_fair : (sofar : List LogEntry) → HonestNewest w sofar → IsRun (setup_from sc) sofar
        → AllFair (parties sc other) (λ b. refl) readings_agree s run.slave (has_parties sc other ok message_in).apart (slave_numbered sc other s) refl ((run.allowed).1).pieces ((run.allowed).1).allowed sofar
    all_fair [] h k = tt
    all_fair (e ∷ sofar) h k =
        (record { honest = h.0; asks = asking.may_ask (setup_from sc) (setups_heard sc ok).heard w (are_parties sc other ok) s run.slave (slave_of sc s (slave_numbered sc other s)) (party sc other ok s run.slave) e sofar k }, all_fair sofar h.1 k.1)

    -- what comes later in the log, and what the slave still had to send then
    abbrev rest_of : List LogEntry → List LogEntry
    rest_of later = reverse later ++ (run.allowed).0

    turned : (later sofar : List LogEntry) → reverse log ≡ later ++ sofar → log ++ (run.allowed).0 ≡ reverse sofar ++ rest_of later
    turned later sofar e =
        ap (λ (l : List LogEntry). l ++ (run.allowed).0) (sym (reverse-reverse log) ∙ ap reverse e ∙ reverse-append later sofar) ∙ append_assoc (reverse sofar) (reverse later) (run.allowed).0

    -- how the slave stands at a moment
    stands_at : (later sofar : List LogEntry) → reverse log ≡ later ++ sofar → Stands (rest_of later) sofar
    stands_at later sofar e =
        let H : List LogEntry → Type 0 = HonestNewest w in
        let R : List LogEntry → Type 0 = IsRun (setup_from sc) in
        let O : List LogEntry → Type 0 = OthersAskNothing w s in
        let C : List LogEntry → Type 0 = λ l. entries_of d.address l ≡ cut_entries d.address ((run.allowed).1).pieces in
        reach w (λ b. refl) readings_agree s run.slave (has_parties sc other ok message_in).apart d refl ((run.allowed).1).pieces ((run.allowed).1).allowed sofar (rest_of later)
        (subst C (turned later sofar e) ((run.allowed).1).cut)
        (others_split w s later sofar (subst O e (others_turned w s log run.others)))
        (all_fair sofar (honest_so_far w later sofar (subst H e (honest_newest w log run.honest))) (run_so_far later sofar (subst R e (entry_by_entry sc log run.master))))

    -- what was taken is what the conversation has
    is_taken : (later sofar : List LogEntry) (e : reverse log ≡ later ++ sofar) → taken_so_far sc other s log run sofar ≡ (stands_at later sofar e).es
    is_taken later sofar e = has_taken w (λ b. refl) readings_agree s run.slave (has_parties sc other ok message_in).apart d refl ((run.allowed).1).pieces ((run.allowed).1).allowed (rest_of later) sofar (stands_at later sofar e)

    -- the slave has taken the requests once and in order
    once : (later sofar : List LogEntry) → reverse log ≡ later ++ sofar → TakenOnce sc other s (taken_so_far sc other s log run sofar) sofar
    once later sofar e =
        let a = stands_at later sofar e in
        let P : List DecidedRequest → Type 0 = λ es. TakenOnce sc other s es sofar in
        subst P (sym (is_taken later sofar e)) (taken_in_order w (λ b. refl) readings_agree s d sofar a.x a.es a.owed a.converse)

    -- what is decided was taken so
    as_taken : (later sofar : List LogEntry) → reverse log ≡ later ++ sofar → DecidedAsTaken sc other s (taken_so_far sc other s log run sofar) sofar
    as_taken later sofar e =
        let a = stands_at later sofar e in
        let P : List DecidedRequest → Type 0 = λ es. DecidedAsTaken sc other s es sofar in
        subst P (sym (is_taken later sofar e)) (decided_as_taken w (λ b. refl) readings_agree s d sofar a.x a.es a.owed a.converse)

    -- in between the requests are numbered in order, and all but one are decided at least
    ordered_at : (later sofar : List LogEntry) → reverse log ≡ later ++ sofar → IsOrdered w s run.slave (has_parties sc other ok message_in).apart sofar
    ordered_at later sofar e =
        let a = stands_at later sofar e in
        let k = is_ordered w (λ b. refl) readings_agree s d sofar a.x a.es a.owed a.converse in
        record { regular = k.0; most = k.1; least = k.2 }

    -- at all moments before too
    all_ordered : (later sofar : List LogEntry) → reverse log ≡ later ++ sofar → AllOrdered w s run.slave (has_parties sc other ok message_in).apart sofar
    all_ordered later [] e = tt
    all_ordered later (x ∷ sofar) e = let f = e ∙ sym (append_assoc later (x ∷ []) sofar) in (ordered_at (later ++ x ∷ []) sofar f, all_ordered (later ++ x ∷ []) sofar f)

    -- what decides a request is what was given
    as_given : (later sofar : List LogEntry) → reverse log ≡ later ++ sofar → DecidedAsGiven sc other s (taken_so_far sc other s log run sofar) sofar
    as_given later sofar e o a h =
        let z = decided_by w s run.slave (has_parties sc other ok message_in).apart sofar (all_ordered later sofar e) o a h in
        let t = as_taken later sofar e in
        let P : List DecidedRequest → Type 0 = λ l. at_ordinal l o ≡ Some z.0 in
        (z.0, subst P (sym t.1) (stands_behind t.0 (decided_exchanges w s sofar) o z.0 z.1), z.2)

-- the same of each run
pub taken_once : AtEachMoment TakenOnce
taken_once sc other ok s log run later sofar e = once sc other ok s log run later sofar e

-- the same of each run
pub decided_so : AtEachMoment DecidedAsTaken
decided_so sc other ok s log run later sofar e = as_taken sc other ok s log run later sofar e

-- the same of each run
pub given_so : AtEachMoment DecidedAsGiven
given_so sc other ok s log run later sofar e = as_given sc other ok s log run later sofar e

-- ---- allowed slaves ask nothing

-- no request is sent among these
abbrev EachAsksNothing : Parties → List LogEntry → Type 0
EachAsksNothing w [] = Unit {0}
EachAsksNothing w (e ∷ log) = AsksNothing w e × EachAsksNothing w log

-- each entry of an end
abbrev OwnAskNothing : Parties → Address → List LogEntry → Type 0
OwnAskNothing w place [] = Unit {0}
OwnAskNothing w place (e ∷ log) = (end_of_entry e ≡ place → AsksNothing w e) × OwnAskNothing w place log

-- none is among sends without one
sends_quiet : (w : Parties) (place : Address) (sent : List Send) (more : List LogEntry) → AskNothing w (map post sent) → EachAsksNothing w more → EachAsksNothing w (sent_by place sent ++ more)
sends_quiet w place [] more h k = k
sends_quiet w place (p ∷ ps) more h k = (h.0, sends_quiet w place ps more h.1 k)

-- none is among allowed pieces
cut_quiet : (w : Parties) (rd : ReadsMessages w) (d : SlaveDesc) (place : Address) (x : ForeignState) (pieces : List Piece) → AreAllowed d x pieces → EachAsksNothing w (cut_entries place pieces)
cut_quiet w rd d place x [] h = tt
cut_quiet w rd d place x (Rests ∷ pieces) h = (tt, cut_quiet w rd d place x pieces h)
cut_quiet w rd d place x (Acts (Gram from bytes) sent ∷ pieces) h = (tt, sends_quiet w place sent (cut_entries place pieces) (sends_ask_nothing w rd d x h.0 (Gram from bytes) sent h.1) (cut_quiet w rd d place h.0 pieces h.2))
cut_quiet w rd d place x (Acts Tick sent ∷ pieces) h = (tt, sends_quiet w place sent (cut_entries place pieces) (sends_ask_nothing w rd d x h.0 Tick sent h.1) (cut_quiet w rd d place h.0 pieces h.2))

-- so none is among the entries of that end
own_quiet : (w : Parties) (place : Address) (log : List LogEntry) → EachAsksNothing w (entries_of place log) → OwnAskNothing w place log
own_quiet w place [] h = tt
own_quiet w place (e ∷ log) h = by (same_address (end_of_entry e) place) refl h (λ k. own_quiet w place log k)
  where
    clash : false ≡ true → ⊥
    clash z = cc

    by : (b : Bool) → same_address (end_of_entry e) place ≡ b → EachAsksNothing w (if b then e ∷ entries_of place log else entries_of place log) → (EachAsksNothing w (entries_of place log) → OwnAskNothing w place log) → OwnAskNothing w place (e ∷ log)
    by true f k more = (λ q. k.0, more k.1)
    by false f k more = (λ q. absurd (clash (sym f ∙ ap (λ (a : Address). same_address a place) q ∙ same_self place)), more k)

-- an entry is at its end
end_is : (w : Parties) (e : LogEntry) → IsAtEnd w e → IsEnd w (end_of_entry e)
end_is w (Sent from to bytes) h = h
end_is w (Got at from bytes) h = h
end_is w (Idle at) h = h
end_is w (Turn at) h = h

-- where each slave asks nothing, all others do
all_quiet : (w : Parties) (s : ℕ) (log : List LogEntry) → AreAtEnds w log → ((t : ℕ) → IsSlaveOf w t → OwnAskNothing w (w.slave t) log) → OthersAskNothing w s log
all_quiet w s [] h f = tt
all_quiet w s (e ∷ log) h f = (by (end_is w e h.0), all_quiet w s log h.1 (λ t is. (f t is).1))
  where
    by : IsEnd w (end_of_entry e) → (end_of_entry e ≡ w.master) ⊎ ((end_of_entry e ≡ w.slave s) ⊎ AsksNothing w e)
    by (inl q) = inl q
    by (inr p) = inr (inr ((f p.0 p.1).0 p.2))

-- the same of the first entries
own_front : (w : Parties) (place : Address) (log more : List LogEntry) → OwnAskNothing w place (log ++ more) → OwnAskNothing w place log
own_front w place [] more h = tt
own_front w place (e ∷ log) more h = (h.0, own_front w place log more h.1)

-- allowed slaves ask nothing
pub allowed_quiet : AllowedAskNothing
allowed_quiet sc other ok log ends each s =
    all_quiet (parties sc other) s log ends (λ t is. own_front (parties sc other) (slave_numbered sc other t).address log (each t is).0 (own_quiet (parties sc other) (slave_numbered sc other t).address (log ++ (each t is).0) (quiet t (log ++ (each t is).0) (each t is).1)))
  where
    quiet : (t : ℕ) (entries : List LogEntry) → Allowed (slave_numbered sc other t) entries → EachAsksNothing (parties sc other) (entries_of (slave_numbered sc other t).address entries)
    quiet t entries h =
        let P : List LogEntry → Type 0 = EachAsksNothing (parties sc other) in
        subst P (sym h.cut) (cut_quiet (parties sc other) (λ b. refl) (slave_numbered sc other t) (slave_numbered sc other t).address foreign_fresh h.pieces h.allowed)

-- ---- the runs of a host

-- entries at ends are so in two parts as one
ends_joined : (w : Parties) (xs ys : List LogEntry) → AreAtEnds w xs → AreAtEnds w ys → AreAtEnds w (xs ++ ys)
ends_joined w [] ys h k = k
ends_joined w (x ∷ xs) ys h k = (h.0, ends_joined w xs ys h.1 k)

-- and in either order
ends_turned : (w : Parties) (xs : List LogEntry) → AreAtEnds w xs → AreAtEnds w (reverse xs)
ends_turned w [] h = h
ends_turned w (x ∷ xs) h =
    let P : List LogEntry → Type 0 = AreAtEnds w in
    subst P (sym (reverse-append (x ∷ []) xs)) (ends_joined w (reverse xs) (x ∷ []) (ends_turned w xs h.1) (h.0, tt))

-- each slave of a host is in such a run
pub host_runs : HostRunsAreSuch
host_runs sc other ok log r s is =
    let P : List LogEntry → Type 0 = AreAtEnds (parties sc other) in
    let ends : AreAtEnds (parties sc other) log = subst P (reverse-reverse log) (ends_turned (parties sc other) (reverse log) (rounds_are_runs sc other ok log r).hosted) in
    record {
      slave = is;
      honest = r.honest;
      master = r.master;
      allowed = front s is;
      others = allowed_quiet sc other ok log ends front s;
    }
  where
    front : (t : ℕ) → IsSlaveOf (parties sc other) t → IsAllowedFront (slave_numbered sc other t) log
    front t it =
        let setup = slave_setup_of sc other t in
        let A : List LogEntry → Type 0 = Allowed (slave_numbered sc other t) in
        ([], subst A (sym (append-nil log)) (cut_allowed setup log (rounds_cut (Some (master_rules sc)) (rules_of_slaves sc) r.count log (slave_rules_from setup) r.rounds (r.slaves t it))))
