-- The run in which an answer is lost, computed.
use Rattle.std.proofs.Common.{◌≡◌, ℕ, suc, ◌<◌, ◌≤◌, true, false, Some, List, [], ◌∷◌, ◌++◌, length, reverse, refl, sym, subst, arith}
use Rattle.std.specs.Prelude.{slice_index_or, slice_get}
use Rattle.std.specs.List.{list_all}
use Rattle.dcp_types.specs.Values.{digits}
use Rattle.dcp_ends.specs.Logs.{own_at, events_at}
use Rattle.dcp_ends.specs.declared.entries.LogEntry.{LogEntry}
use Rattle.fixed_models.specs.Steps.{start, outputs, step_once, micro_steps}
use Rattle.fixed_models.specs.Rows as rows
use Rattle.pdu_layout.specs.Reading.{message_in, spelling}
use Rattle.slave_desc.specs.declared.descriptions.SlaveDesc.{SlaveDesc}
use Rattle.rounds.specs.Rounds.{has_report}
use Rattle.rounds.specs.Told.{Follows}
use Rattle.pdu_layout.specs.Fields.FieldValue.{Number}
use Rattle.master_spec.specs.declared.requests.Answer.TheVariants.{Ack}
use Rattle.master_spec.specs.declared.setups.Slave.{Slave}
use Rattle.master_spec.specs.Requests.{Asking, Decision, asks, turns_between}
use Rattle.master_spec.specs.News.{news_of, request_bytes}
use Rattle.master_spec.specs.Conversation.{reaction}
use Rattle.master_spec.specs.Setup.{setup_from, slave_of}
use Rattle.master_spec.specs.Course.{begin, step}
use Rattle.master_spec.specs.Rules.{master_rules}
use Rattle.master_spec.specs.declared.reports.Report.TheVariants as reports
use Rattle.slave_states.specs.Transitions.{next_on, next_on_turn}
use Rattle.slave_spec.specs.Refusals.{refusal_of_setting}
use Rattle.slave_spec.specs.Heard as hearing
use Rattle.slave_spec.specs.Requests.{refusal, accepted, answer}
use Rattle.slave_spec.specs.Turns.{act}
use Rattle.slave_spec.specs.Transport.{fresh}
use Rattle.slave_spec.specs.Slaves.{machine, slave_rules_from}
use Rattle.run_laws.specs.Laws.{parties, slave_setup_of, rules_of_slaves}
use Rattle.witness_laws.specs.Runs.Tables.{RoundTable, rounds_log, looks_entries, turn_entries}
use Rattle.witness_laws.specs.Runs.Talk.{master_end, slave_end}
use Rattle.witness_laws.specs.Runs.Scenarios.{doubler, loop}
use Rattle.witness_laws.specs.Runs.Late.{late_rounds, late_last, late_log}
use Rattle.witness_laws.specs.Runs.References.{loop_rows}
use Rattle.witness_laws.specs.Runs.Facts.{RunsInRounds, EndsWithReport, IsNoTimelyRun, AsksTwice}
use Rattle.witness_laws.proofs.Runs.Standing.{each_may_stand, honest}
use Rattle.witness_laws.proofs.Runs.Following.{master_from, master_runs, slave_from, slave_follows}
use Rattle.witness_laws.proofs.Runs.Tabled.{alone, is_few, table_rounds}

stands : each_may_stand [] late_log ≡ true
unfolding late_rounds late_last
stands = refl

few : length late_log ≤ 32767
unfolding late_rounds late_last
few = omega arith

master : own_at loop.master late_log ≡ master_from (setup_from loop) (begin (setup_from loop)) (events_at loop.master late_log)
unfolding loop late_rounds late_last message_in spelling digits news_of request_bytes reaction step
master = refl

slave : (other : SlaveDesc) → own_at slave_end late_log ≡ slave_from (machine (slave_setup_of loop other 1)) slave_end (fresh (machine (slave_setup_of loop other 1))) (events_at slave_end late_log)
unfolding loop late_rounds late_last message_in spelling digits hearing.heard refusal accepted answer act next_on next_on_turn refusal_of_setting start outputs step_once micro_steps rows.integrator rows.q
slave other = refl

-- ---- the rounds, up to the last turn of the master
short : list_all (λ (r : RoundTable). list_all is_few r.looks) late_rounds ≡ true
unfolding late_rounds
short = refl

short_last : list_all is_few late_last.looks ≡ true
unfolding late_last
short_last = refl

front : List LogEntry
front = rounds_log (master_end ∷ slave_end ∷ []) late_rounds ++ looks_entries (master_end ∷ slave_end ∷ []) late_last.looks

going : has_report (Some (master_rules loop)) front ≡ false
unfolding front loop late_rounds late_last message_in spelling digits news_of request_bytes reaction step
going = refl

over : has_report (Some (master_rules loop)) (front ++ turn_entries master_end (slice_index_or late_last.turns 0 [])) ≡ true
unfolding front loop late_rounds late_last message_in spelling digits news_of request_bytes reaction step
over = refl

pub runs : RunsInRounds loop late_log
unfolding loop front
runs other = record {
  honest = honest (parties loop other) late_log stands few;
  count = suc (length late_rounds);
  rounds = table_rounds loop (rules_of_slaves loop) late_rounds late_last short short_last going over;
  master = master_runs loop late_log master;
  slaves = alone (λ (s : ℕ). Follows (slave_rules_from (slave_setup_of loop other s)) late_log) (slave_follows (slave_setup_of loop other 1) late_log (slave other));
}

-- ---- the end
pub ends : EndsWithReport loop late_log (reports.Finished 1) (loop_rows)
unfolding loop late_rounds late_last message_in spelling digits news_of request_bytes reaction step
ends = record { reported = refl; rows_are = refl }

-- ---- the step is asked for again, and answered too late
step_asked : Asking
step_asked = record { code = 7; number = 20; more = Number 11 ∷ Number 1 ∷ []; first = 205; repeats = 218 ∷ []; decision = Some (record { place = 226; answer = Ack }) }

only : Slave
only = slave_of loop 1 doubler

asked_there : slice_get (asks loop.master only (reverse late_log)) 6 ≡ Some step_asked
unfolding loop late_rounds late_last message_in news_of step_asked only
asked_there = refl

pub asked_again : AsksTwice loop late_log
unfolding loop step_asked only
asked_again = record { slave = only; asked = (0, refl); place = 6; request = step_asked; is = asked_there; again = omega arith }

too_late : 2 ≤ turns_between master_end (reverse late_log) 205 226
unfolding late_rounds late_last
too_late = omega arith

pub not_timely : IsNoTimelyRun loop late_log
unfolding loop step_asked only
not_timely t =
    let a = t.answers only (0, refl) 6 step_asked asked_there in
    let d : Some (record { place = 226; answer = Ack }) ≡ Some a.answer = a.told in
    let same : record { place = 226; answer = Ack } ≡ a.answer = cc in
    let P : Decision → Type 0 = λ (d : Decision). turns_between master_end (reverse late_log) 205 d.place < 2 in
    let soon : turns_between master_end (reverse late_log) 205 226 < 2 = subst P (sym same) a.soon in
    let late = too_late in
    absurd (omega (arith, soon, late))
