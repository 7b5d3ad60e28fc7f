-- What a host's fields stand for.
use Rattle.std.specs.Prelude.{◌≡◌, [], List, Option, map, IfSome, MatchOption, All}
use Rattle.std.specs.Option.{option_map}
use Rattle.dcp_ends.specs.declared.entries.LogEntry.{LogEntry}
use Rattle.dcp_ends.specs.Events.{Rules}
use Rattle.dcp_ends.specs.Logs.{IsInRange}
use Rattle.rounds.specs.declared.seats.Seat.{Ghosts}
use Rattle.rounds.specs.Rounds.{hosted}
use Rattle.rounds.specs.Told.{IsTold, IsToldUpTo, AllTold, AllToldUpTo, Apart}
use Rattle.rounds.specs.declared.one_end.HostFault.{HostFault}

-- each end stands for its events in the log, whose sends are there, and nothing is outgoing
pub record IsRunning {M S : Type 0} (first : Ghosts M) (seat : Ghosts S) (master : Option M) (slaves : List S) (log : List LogEntry) : Type 0 where
  pub told_master : IfSome master (λ end. IsTold first.stands (first.rules end) end log)
  pub told_slaves : AllTold seat.stands seat.rules slaves log
  pub quiet_master : IfSome master (λ end. first.outs end ≡ [])
  pub quiet_slaves : All (λ end. seat.outs end ≡ []) slaves

-- each end stands for its events in the log, which may stop among the sends of the last
pub record IsStopped {M S : Type 0} (first : Ghosts M) (seat : Ghosts S) (master : Option M) (slaves : List S) (log : List LogEntry) : Type 0 where
  pub cut_master : IfSome master (λ end. IsToldUpTo first.stands (first.rules end) end log)
  pub cut_slaves : AllToldUpTo seat.stands seat.rules slaves log

-- the ends are made to do this and from this, and stand where the log has them
pub record AreSound {M S : Type 0} (first : Ghosts M) (seat : Ghosts S) (own : Option Rules) (others : List Rules) (setup : Option first.Made) (setups : List seat.Made)
    (master : Option M) (slaves : List S) (log : List LogEntry) (fault : Option HostFault) : Type 0 where
  pub apart : Apart (hosted own others)
  pub master_is : option_map first.rules master ≡ own
  pub slaves_are : map seat.rules slaves ≡ others
  pub master_made : option_map first.made master ≡ setup
  pub slaves_made : map seat.made slaves ≡ setups
  pub range : All IsInRange log
  pub state : MatchOption fault (IsRunning first seat master slaves log) (λ _. IsStopped first seat master slaves log)
