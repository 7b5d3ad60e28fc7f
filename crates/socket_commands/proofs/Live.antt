-- Rounds of ends that come to rest, and why a host was stopped.
use Rattle.std.proofs.Common.{◌≡◌, ℕ, ◌+◌, ◌<◌, ◌≤◌, ◌==◌, zero, suc, add-one, arith, refl, sym, subst, Bool, true, false, if◌then◌else◌, List, ◌++◌, Option}
use Rattle.std.specs.Prelude.{Result, Err}
use Rattle.dcp_ends.specs.declared.entries.LogEntry.{LogEntry}
use Rattle.dcp_ends.specs.Events.{Rules}
use Rattle.dcp_record.specs.Places.{gots_in}
use Rattle.host.specs.declared.hosted.Progress.{Progress}
use Rattle.host.specs.Views.{HostView, is_done, master_in, progress_of, slaves_in}
use Rattle.rounds.specs.Rounds.{IsRound, Rounds}
use Rattle.rounds.specs.Steps.{Caused}
use Rattle.rounds.specs.declared.one_end.HostFault.{HostFault}
use Rattle.rounds.specs.declared.one_end.HostFault.TheVariants.{Net, OutOfMemory}
use Rattle.socket_commands.specs.declared.hosting.LiveFault.{LiveFault}
use Rattle.socket_commands.specs.Lives.{CauseOf, HasRun, RestingRounds, is_done_by, live_fault, rested}

-- ---- rounds

-- rounds of ends that come to rest are whole rounds
pub whole : (m : Option Rules) (s : List Rules) (most n resting : ℕ) (log : List LogEntry) → RestingRounds m s most n resting log → Rounds m s n log
whole m s most zero resting log none = none.0
whole m s most (suc n) resting log more = (more.0, more.1, more.3, whole m s most n more.2 more.0 more.4, more.6)

done_by : (done : Bool) → is_done_by (progress_of done) ≡ done
done_by true = refl
done_by false = refl

-- one round more
pub one_more : (m : Option Rules) (s : List Rules) (most n earlier now : ℕ) (before part log : List LogEntry) (progress : Progress) (is_quiet : Bool)
    → earlier ≤ most → RestingRounds m s most n earlier before → log ≡ before ++ part → IsRound m s before part → progress ≡ progress_of (is_done m s log)
    → is_quiet ≡ (gots_in log == gots_in before) → now ≡ (if is_done_by progress then (if is_quiet then earlier + 1 else 1) else 0)
    → RestingRounds m s most (n + 1) now log
one_more m s most n earlier now before part log progress is_quiet few all is round how quiet rests =
    let for : now ≡ rested m s before log earlier = rw (rests, how, done_by (is_done m s log), quiet) refl in
    rw add-one (before, part, earlier, is, all, few, round, for)

some_rest : (done : Bool) (most long now : ℕ) → most < now → now ≡ (if done then long else 0) → done ≡ true
some_rest true most long now stopped is = refl
some_rest false most long now stopped is = absurd (omega (arith, stopped, is))

-- ends that are at rest are done
done_at : (m : Option Rules) (s : List Rules) (most n resting : ℕ) (log : List LogEntry) → most < resting → RestingRounds m s most n resting log → is_done m s log ≡ true
done_at m s most zero resting log stopped none = absurd (omega (arith, stopped, none.1))
done_at m s most (suc n) resting log stopped more = some_rest (is_done m s log) most (if gots_in log == gots_in more.0 then more.2 + 1 else 1) resting stopped more.7

pub run_done : (before now : Option ℕ) (most : ℕ) (host : HostView) → HasRun before now most host → is_done (master_in host) (slaves_in host) host.log ≡ true
run_done before now most host run = done_at (master_in host) (slaves_in host) most run.count run.resting host.log run.stopped run.rounds

-- ---- what stopped them

-- the network failed, or memory was wanting, where no wait was called
pub stopped_by : {T : Type 0} (before now waits : ℕ) (result : Result T HostFault) (fault : HostFault) → result ≡ Err fault → Caused before now result → CauseOf before now waits waits (live_fault fault)
stopped_by before now waits result (Net count) is caused = caused.rose count is
stopped_by before now waits result OutOfMemory is caused = (caused.wanting is, refl)

-- what stopped the last round stopped the rounds, where nothing had failed before it
pub carried : (net_before net_then net_now wait_before wait_then : ℕ) (fault : LiveFault) → net_then ≡ net_before → wait_then ≡ wait_before
    → ((waits : ℕ) → CauseOf net_then net_now waits waits fault) → CauseOf net_before net_now wait_before wait_then fault
carried net_before net_then net_now wait_before wait_then fault still unfailed cause =
    let From : ℕ → Type 0 = λ net. CauseOf net net_now wait_before wait_then fault in
    let Since : ℕ → Type 0 = λ wait. CauseOf net_then net_now wait wait_then fault in
    subst From still (subst Since unfailed (cause wait_then))
