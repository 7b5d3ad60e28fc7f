-- From what a host's fields stand for to what its log shows.
use Rattle.std.proofs.Common.{◌≡◌, List, ◌++◌, map, Option, None, Some, Result, Ok, Err, OnOk, OnErr, IfSome, subst}
use Rattle.std.specs.List.{All}
use Rattle.std.specs.Option.{option_map}
use Rattle.std.proofs.lemmas.List.Elements.{All-map}
use Rattle.dcp_ends.specs.declared.entries.LogEntry.{LogEntry}
use Rattle.dcp_ends.specs.Events.{Event, Rules}
use Rattle.rounds.specs.declared.seats.Seat.{Ghosts}
use Rattle.dcp_net.specs.Nets.{told_more}
use Rattle.rounds.specs.Steps.{AddsPart, without_turns}
use Rattle.rounds.specs.Told.{IsTold, IsToldUpTo, AllTold, AllToldUpTo, Follows, FollowsUpTo}
use Rattle.rounds.specs.declared.one_end.HostFault.{HostFault}
use Rattle.rounds.proofs.Parts.{without_turns-append}
use Rattle.rounds.proofs.Hosted.{AllCut-told, first_cut}
use Rattle.host.specs.Hosts.{AreSound}
use Rattle.host.specs.Views.{Tells}

pub tells_added : (t u : Option (List LogEntry)) (l m p : List LogEntry) → m ≡ l ++ p → u ≡ told_more t (without_turns p) → Tells t l → Tells u m
tells_added None u l m p log told tells = rw told tells
tells_added (Some calls) u l m p log told tells = rw (told, log, without_turns-append, tells)

-- whether the part is a whole one or not
pub told_either : {N T : Type 0} (calls : N → Option (List LogEntry)) (Whole Cut : List LogEntry → Type 0) (before now : N) (old new : List LogEntry) (result : Result T HostFault)
    → OnOk result (AddsPart calls Whole before now old new) → OnErr result (AddsPart calls Cut before now old new) → Tells (calls before) old → Tells (calls now) new
told_either calls Whole Cut before now old new (Ok x) whole cut = tells_added (calls before) (calls now) old new whole.part whole.added.log whole.added.told
told_either calls Whole Cut before now old new (Err e) whole cut = tells_added (calls before) (calls now) old new cut.part cut.added.log cut.added.told

module _ {M S : Type 0} (first : Ghosts M) (seat : Ghosts S) (own : Option Rules) (others : List Rules) (setup : Option first.Made) (setups : List seat.Made) (master : Option M) (slaves : List S) (log : List LogEntry) where
  pub slaves_cut : (fault : Option HostFault) → AreSound first seat own others setup setups master slaves log fault → AllToldUpTo seat.stands seat.rules slaves log
  slaves_cut None sound = AllCut-told seat.stands seat.rules slaves log sound.state.told_slaves
  slaves_cut (Some fault) sound = sound.state.cut_slaves

  pub master_cut : (fault : Option HostFault) → AreSound first seat own others setup setups master slaves log fault → IfSome master (λ end. IsToldUpTo first.stands (first.rules end) end log)
  master_cut None sound = first_cut first.stands first.rules log master sound.state.told_master
  master_cut (Some fault) sound = sound.state.cut_master

  pub slaves_run : (fault : Option HostFault) → fault ≡ None → AreSound first seat own others setup setups master slaves log fault → AllTold seat.stands seat.rules slaves log
  slaves_run None none sound = sound.state.told_slaves
  slaves_run (Some fault) none sound = cc

  pub master_run : (fault : Option HostFault) → fault ≡ None → AreSound first seat own others setup setups master slaves log fault → IfSome master (λ end. IsTold first.stands (first.rules end) end log)
  master_run None none sound = sound.state.told_master
  master_run (Some fault) none sound = cc

module _ {S : Type 0} (stands : S → List Event → Type 0) (rules : S → Rules) (slaves : List S) (all : List Rules) (log : List LogEntry) (same : map rules slaves ≡ all) where
  pub all_follow : AllTold stands rules slaves log → All (λ r. Follows r log) all
  all_follow told = subst (λ (rs : List Rules). All (λ r. Follows r log) rs) same (All-map (λ r. Follows r log) rules slaves (λ k d lt. (told k d lt).follows))

  pub all_follow_up : AllToldUpTo stands rules slaves log → All (λ r. FollowsUpTo r log) all
  all_follow_up cut = subst (λ (rs : List Rules). All (λ r. FollowsUpTo r log) rs) same (All-map (λ r. FollowsUpTo r log) rules slaves (λ k d lt. (cut k d lt).follows))

module _ {M : Type 0} (stands : M → List Event → Type 0) (rules : M → Rules) (log : List LogEntry) where
  pub first_follows : (master : Option M) (first : Option Rules) → option_map rules master ≡ first → IfSome master (λ end. IsTold stands (rules end) end log) → IfSome first (λ r. Follows r log)
  first_follows None first same told = rw (← same) told
  first_follows (Some end) first same told = rw (← same) told.follows

  pub first_follows_up : (master : Option M) (first : Option Rules) → option_map rules master ≡ first → IfSome master (λ end. IsToldUpTo stands (rules end) end log) → IfSome first (λ r. FollowsUpTo r log)
  first_follows_up None first same told = rw (← same) told
  first_follows_up (Some end) first same told = rw (← same) told.follows
