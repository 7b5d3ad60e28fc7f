-- All behave in the small run.
use Rattle.std.proofs.Common.{◌≡◌, ℕ, ◌+◌, ◌≤◌, ◌==◌, Bool, true, false, if◌then◌else◌, ◌⊎◌, inl, inr, Option, Some, None, List, [], ◌∷◌, ◌++◌, length, map, refl, ap, subst, arith}
use Rattle.std.specs.List.{cons_option}
use Rattle.dcp_types.specs.declared.addresses.Address.{Address}
use Rattle.dcp_types.specs.Values.{digits}
use Rattle.dcp_ends.specs.declared.entries.LogEntry.{LogEntry}
use Rattle.dcp_ends.specs.declared.entries.LogEntry.TheVariants.{Sent, Turn}
use Rattle.fixed_models.specs.Steps.{start}
use Rattle.pdu_layout.specs.Reading.{message_in, spelling}
use Rattle.slave_states.specs.Transitions.{next_on}
use Rattle.slave_spec.specs.Heard as spec
use Rattle.slave_spec.specs.Requests.{refusal, accepted, answer}
use Rattle.log_spec.specs.Messages.{Note}
use Rattle.log_spec.specs.Channel.{number_changes}
use Rattle.log_spec.specs.Log.{PartiesApart, IsSlaveOf, same, Channel, sent_in, sends_in, requests_sent, AreAtEnds}
use Rattle.log_spec.specs.Honest.{IsRepeatedNewest, HonestNewest}
use Rattle.log_spec.specs.Moves.{move, decided_exchanges}
use Rattle.lockstep_laws.specs.Slaves.{SlaveRun}
use Rattle.lockstep_laws.specs.Master.{MasterMay, MasterConverses, OnlyAsks}
use Rattle.lockstep_laws.specs.Runs.{AreSlaves, Behaves}
use Rattle.slave_laws.proofs.Talk.Sending.{are_lawful}
use Rattle.witness_laws.specs.Exchange.Small.{small_address, small_parties, setup, slaves, register, acknowledgement, question, configuration, asked_entry, came_entry, told_entry, heard_entry, log}

-- ---- the parties
apart : PartiesApart small_parties
apart = record {
  master = λ s is e. absurd (omega (arith, is.0, ap (λ (a : Address). a.port) e));
  slaves = λ s t p q e. omega (arith, ap (λ (a : Address). a.port) e);
}

pub are_slaves : AreSlaves small_parties slaves
are_slaves = are_lawful small_parties setup 1 1 (λ s es n. true) (λ s run es. false) apart (λ b. refl)

-- there is one slave
alone : (P : ℕ → Type 0) → P 1 → (s : ℕ) → IsSlaveOf small_parties s → P s
alone P h s is = let e : 1 ≡ s = omega (arith, is.0, is.1) in subst P e h

-- ---- the network: so few entries are never too old
changes_few : (ns : List Note) → number_changes ns ≤ length ns
changes_few [] = omega arith
changes_few (n ∷ []) = omega arith
changes_few (n ∷ k ∷ ns) = by (changes_few (k ∷ ns)) (n.number == k.number)
  where
    by : number_changes (k ∷ ns) ≤ length (k ∷ ns) → (b : Bool) → (if b then number_changes (k ∷ ns) else number_changes (k ∷ ns) + 1) ≤ length (n ∷ k ∷ ns)
    by h true = omega (arith, h)
    by h false = omega (arith, h)

sends_few : (c : Channel) (es : List LogEntry) → length (sends_in small_parties c es) ≤ length es
sends_few c [] = omega arith
sends_few c (e ∷ es) = by (sends_few c es) (sent_in small_parties c e)
  where
    by : length (sends_in small_parties c es) ≤ length es → (o : Option Note) → length (cons_option o (sends_in small_parties c es)) ≤ length (e ∷ es)
    by h None = omega (arith, h)
    by h (Some n) = omega (arith, h)

repeated : (at from : Address) (bytes : List ℕ) (later earlier : List LogEntry) → length (later ++ Sent from at bytes ∷ earlier) ≤ 32767 → IsRepeatedNewest small_parties (later ++ Sent from at bytes ∷ earlier) at from bytes
repeated at from bytes later earlier few = record {
  later = later;
  earlier = earlier;
  is = refl;
  young = λ c n h. omega (arith, changes_few (sends_in small_parties c (later ++ Sent from at bytes ∷ earlier)), sends_few c (later ++ Sent from at bytes ∷ earlier));
}

abbrev l0 : List LogEntry
l0 = Turn (small_address 0) ∷ []

abbrev l1 : List LogEntry
l1 = asked_entry register ∷ l0

abbrev l2 : List LogEntry
l2 = asked_entry register ∷ l1

abbrev l3 : List LogEntry
l3 = came_entry register ∷ l2

abbrev l4 : List LogEntry
l4 = told_entry acknowledgement ∷ l3

abbrev l5 : List LogEntry
l5 = came_entry register ∷ l4

abbrev l6 : List LogEntry
l6 = told_entry acknowledgement ∷ l5

abbrev l7 : List LogEntry
l7 = heard_entry acknowledgement ∷ l6

abbrev l8 : List LogEntry
l8 = asked_entry question ∷ l7

abbrev l9 : List LogEntry
l9 = came_entry question ∷ l8

abbrev l10 : List LogEntry
l10 = told_entry configuration ∷ l9

abbrev l11 : List LogEntry
l11 = heard_entry configuration ∷ l10

honest : HonestNewest small_parties log
honest = (
  repeated (small_address 0) (small_address 1) acknowledgement (heard_entry configuration ∷ told_entry configuration ∷ came_entry question ∷ asked_entry question ∷ heard_entry acknowledgement ∷ []) l5 (omega arith),
  (
    repeated (small_address 0) (small_address 1) configuration [] l9 (omega arith),
    (
      tt,
      (
        repeated (small_address 1) (small_address 0) question [] l7 (omega arith),
        (
          tt,
          (
            repeated (small_address 0) (small_address 1) acknowledgement [] l5 (omega arith),
            (
              tt,
              (
                repeated (small_address 1) (small_address 0) register (told_entry acknowledgement ∷ came_entry register ∷ []) l1 (omega arith),
                (
                  tt,
                  (
                    repeated (small_address 1) (small_address 0) register [] l1 (omega arith),
                    (tt, (tt, (tt, tt))),
                  ),
                ),
              ),
            ),
          ),
        ),
      ),
    ),
  ),
)

-- ---- all are at ends
hosted : AreAtEnds small_parties log
hosted = (m, (m, (s, (s, (m, (m, (s, (s, (s, (s, (m, (m, (m, tt)))))))))))))
  where
    m : (small_address 0 ≡ small_address 0) ⊎ ((n : ℕ) × IsSlaveOf small_parties n × (small_address 0 ≡ small_address n))
    m = inl refl

    s : (small_address 1 ≡ small_address 0) ⊎ ((n : ℕ) × IsSlaveOf small_parties n × (small_address 1 ≡ small_address n))
    s = inr (1, (omega arith, omega arith), refl)

-- ---- the master
every : (e : LogEntry) (l : List LogEntry) → MasterMay small_parties slaves 1 (move small_parties 1 e) l → (s : ℕ) → IsSlaveOf small_parties s → MasterMay small_parties slaves s (move small_parties s e) l
every e l h = alone (λ s. MasterMay small_parties slaves s (move small_parties s e) l) h

no_turn : MasterMay small_parties slaves 1 (move small_parties 1 (Turn (small_address 0))) []
unfolding same
no_turn = tt

registers : MasterMay small_parties slaves 1 (move small_parties 1 (asked_entry register)) l0
unfolding same message_in
registers = inr (record { closed = refl; number = refl; first = λ e. refl; may = refl; barrier = λ k e. absurd cc })

registers_again : MasterMay small_parties slaves 1 (move small_parties 1 (asked_entry register)) l1
unfolding same message_in
registers_again = inl refl

questions : MasterMay small_parties slaves 1 (move small_parties 1 (asked_entry question)) l7
unfolding same message_in
questions = inr (record { closed = refl; number = refl; first = λ e. absurd cc; may = refl; barrier = λ k e. absurd cc })

came_register : (l : List LogEntry) → MasterMay small_parties slaves 1 (move small_parties 1 (came_entry register)) l
unfolding same message_in
came_register l = tt

came_question : (l : List LogEntry) → MasterMay small_parties slaves 1 (move small_parties 1 (came_entry question)) l
unfolding same message_in
came_question l = tt

told_acknowledgement : (l : List LogEntry) → MasterMay small_parties slaves 1 (move small_parties 1 (told_entry acknowledgement)) l
unfolding same message_in
told_acknowledgement l = tt

told_configuration : (l : List LogEntry) → MasterMay small_parties slaves 1 (move small_parties 1 (told_entry configuration)) l
unfolding same message_in
told_configuration l = tt

heard_acknowledgement : (l : List LogEntry) → MasterMay small_parties slaves 1 (move small_parties 1 (heard_entry acknowledgement)) l
unfolding same message_in
heard_acknowledgement l = tt

heard_configuration : (l : List LogEntry) → MasterMay small_parties slaves 1 (move small_parties 1 (heard_entry configuration)) l
unfolding same message_in
heard_configuration l = tt

master : MasterConverses small_parties slaves log
master = (
  every (heard_entry acknowledgement) l11 (heard_acknowledgement l11),
  (
    every (heard_entry configuration) l10 (heard_configuration l10),
    (
      every (told_entry configuration) l9 (told_configuration l9),
      (
        every (came_entry question) l8 (came_question l8),
        (
          every (asked_entry question) l7 questions,
          (
            every (heard_entry acknowledgement) l6 (heard_acknowledgement l6),
            (
              every (told_entry acknowledgement) l5 (told_acknowledgement l5),
              (
                every (came_entry register) l4 (came_register l4),
                (
                  every (told_entry acknowledgement) l3 (told_acknowledgement l3),
                  (
                    every (came_entry register) l2 (came_register l2),
                    (
                      every (asked_entry register) l1 registers_again,
                      (
                        every (asked_entry register) l0 registers,
                        (every (Turn (small_address 0)) [] no_turn, tt),
                      ),
                    ),
                  ),
                ),
              ),
            ),
          ),
        ),
      ),
    ),
  ),
)

-- the slave is no master
told_by_slave : (k : Type 0) → small_address 1 ≡ small_address 0 → k
told_by_slave k e = absurd (omega (arith, ap (λ (a : Address). a.port) e))

asks : OnlyAsks small_parties log
unfolding message_in
asks = (tt, (tt, (told_by_slave _, (tt, ((λ e. (1, _, refl)), (tt, (told_by_slave _, (tt, (told_by_slave _, (tt, ((λ e. (1, _, refl)), ((λ e. (1, _, refl)), (tt, tt)))))))))))))

-- ---- the slave
sends : SlaveRun small_parties 1 (slaves.desk 1) log
unfolding same message_in spec.heard spelling digits refusal accepted answer next_on start
sends = (tt, (tt, ((refl, refl), (refl, (tt, (tt, ((refl, refl), (refl, ((refl, refl), (refl, (tt, (tt, (tt, tt)))))))))))))

pub behaves : Behaves small_parties slaves log
behaves = record {
  honest = honest;
  hosted = hosted;
  master = master;
  asks = asks;
  slaves = λ s is. alone (λ s. SlaveRun small_parties s (slaves.desk s) log) sends s is;
}

-- ---- what it shows
pub two_sent : length (requests_sent small_parties 1 log) ≡ 2
unfolding same message_in
two_sent = refl

pub taken : map (λ e. e.request) (slaves.desk 1 log).served ≡ requests_sent small_parties 1 log
unfolding same message_in spec.heard spelling digits refusal accepted answer next_on start
taken = refl

pub decided : decided_exchanges small_parties 1 log ≡ (slaves.desk 1 log).served
unfolding same message_in spec.heard spelling digits refusal accepted answer next_on start
decided = refl
