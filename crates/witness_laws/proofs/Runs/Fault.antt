-- The run in which the slave divides by zero, computed.
use Rattle.std.proofs.Common.{◌≡◌, ℕ, suc, ◌≤◌, true, false, Some, List, [], ◌∷◌, ◌++◌, length, refl, arith}
use Rattle.std.specs.Prelude.{slice_index_or}
use Rattle.std.specs.List.{list_all}
use Rattle.dcp_types.specs.Values.{digits}
use Rattle.dcp_ends.specs.Logs.{own_at, events_at}
use Rattle.dcp_ends.specs.declared.entries.LogEntry.{LogEntry}
use Rattle.fixed_models.specs.Steps.{start, outputs, step_once, micro_steps}
use Rattle.pdu_layout.specs.Reading.{message_in, spelling}
use Rattle.slave_desc.specs.declared.descriptions.SlaveDesc.{SlaveDesc}
use Rattle.rounds.specs.Rounds.{has_report}
use Rattle.rounds.specs.Told.{Follows}
use Rattle.master_spec.specs.News.{news_of, request_bytes}
use Rattle.master_spec.specs.Conversation.{reaction}
use Rattle.master_spec.specs.Setup.{setup_from}
use Rattle.master_spec.specs.Course.{begin, step}
use Rattle.master_spec.specs.Rules.{master_rules}
use Rattle.master_spec.specs.declared.reports.Report.TheVariants as reports
use Rattle.master_spec.specs.declared.causes.Cause.TheVariants as causes
use Rattle.slave_states.specs.Transitions.{next_on, next_on_turn}
use Rattle.slave_spec.specs.Refusals.{refusal_of_setting}
use Rattle.slave_spec.specs.Heard as hearing
use Rattle.slave_spec.specs.Requests.{refusal, accepted, answer}
use Rattle.slave_spec.specs.Turns.{act}
use Rattle.slave_spec.specs.Transport.{fresh}
use Rattle.slave_spec.specs.Slaves.{machine, slave_rules_from}
use Rattle.run_laws.specs.Laws.{parties, slave_setup_of, rules_of_slaves}
use Rattle.witness_laws.specs.Runs.Tables.{RoundTable, rounds_log, looks_entries, turn_entries}
use Rattle.witness_laws.specs.Runs.Talk.{master_end, slave_end}
use Rattle.witness_laws.specs.Runs.Scenarios.{faulty}
use Rattle.witness_laws.specs.Runs.Fault.{fault_rounds, fault_last, fault_log}
use Rattle.witness_laws.specs.Runs.References.{faulty_rows}
use Rattle.witness_laws.specs.Runs.Facts.{RunsInRounds, EndsWithReport, IsTimelyRun}
use Rattle.witness_laws.proofs.Runs.Standing.{each_may_stand, honest}
use Rattle.witness_laws.proofs.Runs.Following.{master_from, master_runs, slave_from, slave_follows}
use Rattle.witness_laws.proofs.Runs.Tabled.{alone, is_few, table_rounds}
use Rattle.witness_laws.proofs.Runs.InTime.{are_answered, are_in_time, is_timely}

stands : each_may_stand [] fault_log ≡ true
unfolding fault_rounds fault_last
stands = refl

few : length fault_log ≤ 32767
unfolding fault_rounds fault_last
few = omega arith

master : own_at faulty.master fault_log ≡ master_from (setup_from faulty) (begin (setup_from faulty)) (events_at faulty.master fault_log)
unfolding faulty fault_rounds fault_last message_in spelling digits news_of request_bytes reaction step
master = refl

slave : (other : SlaveDesc) → own_at slave_end fault_log ≡ slave_from (machine (slave_setup_of faulty other 1)) slave_end (fresh (machine (slave_setup_of faulty other 1))) (events_at slave_end fault_log)
unfolding faulty fault_rounds fault_last message_in spelling digits hearing.heard refusal accepted answer act next_on next_on_turn refusal_of_setting start outputs step_once micro_steps
slave other = refl

-- ---- the rounds, up to the last turn of the master
short : list_all (λ (r : RoundTable). list_all is_few r.looks) fault_rounds ≡ true
unfolding fault_rounds
short = refl

short_last : list_all is_few fault_last.looks ≡ true
unfolding fault_last
short_last = refl

front : List LogEntry
front = rounds_log (master_end ∷ slave_end ∷ []) fault_rounds ++ looks_entries (master_end ∷ slave_end ∷ []) fault_last.looks

going : has_report (Some (master_rules faulty)) front ≡ false
unfolding front faulty fault_rounds fault_last message_in spelling digits news_of request_bytes reaction step
going = refl

over : has_report (Some (master_rules faulty)) (front ++ turn_entries master_end (slice_index_or fault_last.turns 0 [])) ≡ true
unfolding front faulty fault_rounds fault_last message_in spelling digits news_of request_bytes reaction step
over = refl

pub runs : RunsInRounds faulty fault_log
unfolding faulty front
runs other = record {
  honest = honest (parties faulty other) fault_log stands few;
  count = suc (length fault_rounds);
  rounds = table_rounds faulty (rules_of_slaves faulty) fault_rounds fault_last short short_last going over;
  master = master_runs faulty fault_log master;
  slaves = alone (λ (s : ℕ). Follows (slave_rules_from (slave_setup_of faulty other s)) fault_log) (slave_follows (slave_setup_of faulty other 1) fault_log (slave other));
}

-- ---- the end
pub ends : EndsWithReport faulty fault_log (reports.Failed 1 8 (causes.Faulted 18 33)) (faulty_rows)
unfolding faulty fault_rounds fault_last message_in spelling digits news_of request_bytes reaction step
ends = record { reported = refl; rows_are = refl }

-- ---- everything comes in time
answered : list_all (are_answered (setup_from faulty) fault_log) (setup_from faulty).slaves ≡ true
unfolding faulty fault_rounds fault_last message_in news_of
answered = refl

in_time : are_in_time (setup_from faulty) fault_log 0 fault_log ≡ true
unfolding faulty fault_rounds fault_last message_in news_of
in_time = refl

pub timely : IsTimelyRun faulty fault_log
timely = is_timely (setup_from faulty) fault_log (reports.Failed 1 8 (causes.Faulted 18 33)) ends.reported answered in_time
