-- From where going through the entries stops to the answer.
use Rattle.std.proofs.Common.{◌≡◌, List, length, Option, Err, refl, subst, sym}
use Rattle.dcp_ends.specs.declared.entries.LogEntry.{LogEntry}
use Rattle.dcp_ends.specs.Events.{Rules}
use Rattle.rounds.specs.Rounds.{hosted}
use Rattle.rounds.specs.Told.{Apart}
use Rattle.scenario.specs.declared.scenarios.Scenario.{Scenario}
use Rattle.host.specs.declared.hosted.Hosted.{Hosted}
use Rattle.host.specs.Hosting.{master_of, slaves_of}
use Rattle.replays.specs.Differences.{IsEnded, StopsReplayAt}
use Rattle.replays.specs.Expected.{AreRight}
use Rattle.replays.specs.Replays.{Answers, replay_fault}
use Rattle.replays.specs.declared.replays.Replayed.{Replayed}
use Rattle.replays.specs.declared.stops.Stop.{Stop}
use Rattle.replays.specs.declared.stops.Stop.TheVariants as stops

module _ (a b : Option Rules) (l m : List Rules) (first : a ≡ b) (rest : l ≡ m) where
  pub apart_same : Apart (hosted b m) → Apart (hosted a l)
  apart_same apart = subst (λ (x : Option Rules). Apart (hosted x l)) (sym first) (subst (λ (x : List Rules). Apart (hosted b x)) (sym rest) apart)

  module _ (entries : List LogEntry) where
    pub stops_same : (stop : Stop) → StopsReplayAt a l entries stop → StopsReplayAt b m entries stop
    stops_same stop at = subst (λ (x : Option Rules). StopsReplayAt x m entries stop) first (subst (λ (x : List Rules). StopsReplayAt a x entries stop) rest at)

    pub whole_same : AreRight a l entries × IsEnded a l entries → AreRight b m entries × IsEnded b m entries
    whole_same whole =
        subst (λ (x : Option Rules). AreRight x m entries × IsEnded x m entries) first (subst (λ (x : List Rules). AreRight a x entries × IsEnded a x entries) rest whole)

pub stops_answer : (sc : Scenario) (h : Hosted) (entries : List LogEntry) (stop : Stop) → StopsReplayAt (master_of sc h) (slaves_of sc h) entries stop → Answers {T = Replayed} sc h entries (Err (replay_fault stop (length entries)))
stops_answer sc h entries (stops.Differs at) differs = differs
stops_answer sc h entries stops.Unended unended = (refl, unended.0, unended.1)
