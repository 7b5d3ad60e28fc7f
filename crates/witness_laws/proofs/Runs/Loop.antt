-- The run in which nothing is lost or late, computed.
use Rattle.std.proofs.Common.{◌≡◌, ℕ, suc, ◌≤◌, true, false, Some, List, [], ◌∷◌, ◌++◌, length, refl, arith}
use Rattle.std.specs.Prelude.{slice_index_or}
use Rattle.std.specs.List.{list_all}
use Rattle.dcp_types.specs.Values.{digits}
use Rattle.dcp_ends.specs.Logs.{own_at, events_at}
use Rattle.dcp_ends.specs.declared.entries.LogEntry.{LogEntry}
use Rattle.fixed_models.specs.Steps.{start, outputs, step_once, micro_steps}
use Rattle.fixed_models.specs.Rows as rows
use Rattle.pdu_layout.specs.Reading.{message_in, spelling}
use Rattle.slave_desc.specs.declared.descriptions.SlaveDesc.{SlaveDesc}
use Rattle.rounds.specs.Rounds.{has_report}
use Rattle.rounds.specs.Told.{Follows}
use Rattle.master_spec.specs.News.{news_of, request_bytes}
use Rattle.master_spec.specs.Conversation.{reaction}
use Rattle.master_spec.specs.Setup.{setup_from}
use Rattle.master_spec.specs.Course.{begin, step}
use Rattle.master_spec.specs.Rules.{master_rules}
use Rattle.master_spec.specs.declared.reports.Report.TheVariants as reports
use Rattle.slave_states.specs.Transitions.{next_on, next_on_turn}
use Rattle.slave_spec.specs.Refusals.{refusal_of_setting}
use Rattle.slave_spec.specs.Heard as hearing
use Rattle.slave_spec.specs.Requests.{refusal, accepted, answer}
use Rattle.slave_spec.specs.Turns.{act}
use Rattle.slave_spec.specs.Transport.{fresh}
use Rattle.slave_spec.specs.Slaves.{machine, slave_rules_from}
use Rattle.run_laws.specs.Laws.{parties, slave_setup_of, rules_of_slaves}
use Rattle.witness_laws.specs.Runs.Tables.{RoundTable, rounds_log, looks_entries, turn_entries}
use Rattle.witness_laws.specs.Runs.Talk.{master_end, slave_end}
use Rattle.witness_laws.specs.Runs.Scenarios.{loop}
use Rattle.witness_laws.specs.Runs.Loop.{loop_rounds, loop_last, loop_log}
use Rattle.witness_laws.specs.Runs.References.{loop_rows}
use Rattle.witness_laws.specs.Runs.Facts.{RunsInRounds, EndsWithReport, IsTimelyRun}
use Rattle.witness_laws.proofs.Runs.Standing.{each_may_stand, honest}
use Rattle.witness_laws.proofs.Runs.Following.{master_from, master_runs, slave_from, slave_follows}
use Rattle.witness_laws.proofs.Runs.Tabled.{alone, is_few, table_rounds}
use Rattle.witness_laws.proofs.Runs.InTime.{are_answered, are_in_time, is_timely}

stands : each_may_stand [] loop_log ≡ true
unfolding loop_rounds loop_last
stands = refl

few : length loop_log ≤ 32767
unfolding loop_rounds loop_last
few = omega arith

master : own_at loop.master loop_log ≡ master_from (setup_from loop) (begin (setup_from loop)) (events_at loop.master loop_log)
unfolding loop loop_rounds loop_last message_in spelling digits news_of request_bytes reaction step
master = refl

slave : (other : SlaveDesc) → own_at slave_end loop_log ≡ slave_from (machine (slave_setup_of loop other 1)) slave_end (fresh (machine (slave_setup_of loop other 1))) (events_at slave_end loop_log)
unfolding loop loop_rounds loop_last message_in spelling digits hearing.heard refusal accepted answer act next_on next_on_turn refusal_of_setting start outputs step_once micro_steps rows.integrator rows.q
slave other = refl

-- ---- the rounds, up to the last turn of the master
short : list_all (λ (r : RoundTable). list_all is_few r.looks) loop_rounds ≡ true
unfolding loop_rounds
short = refl

short_last : list_all is_few loop_last.looks ≡ true
unfolding loop_last
short_last = refl

front : List LogEntry
front = rounds_log (master_end ∷ slave_end ∷ []) loop_rounds ++ looks_entries (master_end ∷ slave_end ∷ []) loop_last.looks

going : has_report (Some (master_rules loop)) front ≡ false
unfolding front loop loop_rounds loop_last message_in spelling digits news_of request_bytes reaction step
going = refl

over : has_report (Some (master_rules loop)) (front ++ turn_entries master_end (slice_index_or loop_last.turns 0 [])) ≡ true
unfolding front loop loop_rounds loop_last message_in spelling digits news_of request_bytes reaction step
over = refl

pub runs : RunsInRounds loop loop_log
unfolding loop front
runs other = record {
  honest = honest (parties loop other) loop_log stands few;
  count = suc (length loop_rounds);
  rounds = table_rounds loop (rules_of_slaves loop) loop_rounds loop_last short short_last going over;
  master = master_runs loop loop_log master;
  slaves = alone (λ (s : ℕ). Follows (slave_rules_from (slave_setup_of loop other s)) loop_log) (slave_follows (slave_setup_of loop other 1) loop_log (slave other));
}

-- ---- the end
pub ends : EndsWithReport loop loop_log (reports.Finished 1) (loop_rows)
unfolding loop loop_rounds loop_last message_in spelling digits news_of request_bytes reaction step
ends = record { reported = refl; rows_are = refl }

-- ---- everything comes in time
answered : list_all (are_answered (setup_from loop) loop_log) (setup_from loop).slaves ≡ true
unfolding loop loop_rounds loop_last message_in news_of
answered = refl

in_time : are_in_time (setup_from loop) loop_log 0 loop_log ≡ true
unfolding loop loop_rounds loop_last message_in news_of
in_time = refl

pub timely : IsTimelyRun loop loop_log
timely = is_timely (setup_from loop) loop_log (reports.Finished 1) ends.reported answered in_time
