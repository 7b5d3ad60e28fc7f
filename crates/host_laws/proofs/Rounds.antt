-- A host is in rounds when it is new, and each call of it keeps it so.
use Rattle.std.proofs.Common.{◌≡◌, ℕ, ◌+◌, ◌⊎◌, inl, inr, Option, None, Some, IfSome, OnOk, OnErr, IfOk, MatchOption, Result, Ok, Err, List, [], ◌++◌, refl, sym, ap, ◌∙◌, subst, append-nil}
use Rattle.dcp_ends.specs.declared.entries.LogEntry.{LogEntry}
use Rattle.dcp_ends.specs.Events.{Rules}
use Rattle.rounds.specs.Rounds.{Rounds, IsRoundPart}
use Rattle.rounds.specs.Steps.{AddsPart}
use Rattle.rounds.specs.declared.one_end.HostFault.{HostFault}
use Rattle.scenario.specs.declared.scenarios.Scenario.{Scenario}
use Rattle.host.specs.Views.{HostView, fault_of, master_in, slaves_in}
use Rattle.host_laws.specs.Lockstep.{HostsAll, IsInRounds}
use Rattle.host.specs.Hosting.{all_ends}

-- what stands behind the whole rounds, by the fault
abbrev Behind : Option Rules → List Rules → (before part : List LogEntry) → Option HostFault → Type 0
Behind master slaves before part fault = MatchOption fault (part ≡ []) (λ _. (part ≡ []) ⊎ IsRoundPart master slaves before part)

nothing_behind : (master : Option Rules) (slaves : List Rules) (before : List LogEntry) (fault : Option HostFault) → Behind master slaves before [] fault
nothing_behind master slaves before None = refl
nothing_behind master slaves before (Some fault) = inl refl

part_behind : (master : Option Rules) (slaves : List Rules) (before part : List LogEntry) (fault : HostFault) (now : Option HostFault) → now ≡ Some fault → IsRoundPart master slaves before part → Behind master slaves before part now
part_behind master slaves before part fault None none front = absurd cc
part_behind master slaves before part fault (Some now) some front = inr front

new_in_rounds : (host : HostView) → host.log ≡ [] → IsInRounds host
new_in_rounds host log = record { count = 0; before = []; part = []; rounds = refl; form = log; front = nothing_behind (master_in host) (slaves_in host) [] host.fault }

pub starts_in_rounds : {E : Type 0} (sc : Scenario) (result : Result HostView E) → IfOk result (λ host. host ≡ record { scenario = sc; hosted = all_ends; log = []; fault = None }) → IfOk result IsInRounds
starts_in_rounds sc (Ok host) same =
    let P : HostView → Type 0 = IsInRounds in
    subst P (sym same) (new_in_rounds (record { scenario = sc; hosted = all_ends; log = []; fault = None }) refl)
starts_in_rounds sc (Err e) same = tt

-- no fault stopped a round: the log is whole rounds
pub whole_rounds : (host : HostView) → host.fault ≡ None → IsInRounds host → (n : ℕ) × Rounds (master_in host) (slaves_in host) n host.log
whole_rounds host none x =
    let no_part : x.part ≡ [] = subst (λ (f : Option HostFault). Behind (master_in host) (slaves_in host) x.before x.part f) none x.front in
    let same : host.log ≡ x.before = x.form ∙ ap (λ (p : List LogEntry). x.before ++ p) no_part ∙ append-nil x.before in
    (x.count, subst (λ (l : List LogEntry). Rounds (master_in host) (slaves_in host) x.count l) (sym same) x.rounds)

module _ (old new : HostView) (scenario : new.scenario ≡ old.scenario) (hosted : new.hosted ≡ old.hosted) where
  -- the same ends are made to do the same
  same_ends : (P : HostView → Type 0) → P (record { scenario = old.scenario; hosted = old.hosted; log = new.log; fault = new.fault }) → P new
  same_ends P p = subst P same p
    where
      same : record { scenario = old.scenario; hosted = old.hosted; log = new.log; fault = new.fault } ≡ new
      same = λ i. record { scenario = sym scenario i; hosted = sym hosted i; log = new.log; fault = new.fault }

  pub still_all : HostsAll old → HostsAll new
  still_all all = same_ends HostsAll (record { sound = all.sound; master = all.master; slaves = all.slaves })

  whole_now : (n : ℕ) → Rounds (master_in old) (slaves_in old) n new.log → IsInRounds new
  whole_now n rounds =
      same_ends IsInRounds
      (record { count = n; before = new.log; part = []; rounds = rounds; form = sym (append-nil new.log); front = nothing_behind (master_in old) (slaves_in old) new.log new.fault })

  cut_now : (n : ℕ) → Rounds (master_in old) (slaves_in old) n old.log → (e : HostFault) → new.fault ≡ Some e → (part : List LogEntry) → new.log ≡ old.log ++ part → IsRoundPart (master_in old) (slaves_in old) old.log part → IsInRounds new
  cut_now n rounds e fault part log front =
      same_ends IsInRounds
      (record { count = n; before = old.log; part = part; rounds = rounds; form = log; front = part_behind (master_in old) (slaves_in old) old.log part e new.fault fault front })

  module _ {N T : Type 0} (before now : N) (result : Result T HostFault) (kept : IfSome old.fault (λ fault. (result ≡ Err fault) × (new ≡ old) × (now ≡ before))) where
    -- by whether a fault was kept
    either : (P : Type 0) → (old.fault ≡ None → P) → (new ≡ old → P) → P
    either P fresh held = by old.fault refl kept
      where
        by : (f : Option HostFault) → old.fault ≡ f → IfSome f (λ fault. (result ≡ Err fault) × (new ≡ old) × (now ≡ before)) → P
        by None none k = fresh none
        by (Some f) some k = held k.1

    -- the network is opened: nothing happens to the ends
    pub opened : IsInRounds old → new.log ≡ old.log → IsInRounds new
    opened x log = either (IsInRounds new)
        (λ none. (let w = whole_rounds old none x in whole_now w.0 (subst (λ (l : List LogEntry). Rounds (master_in old) (slaves_in old) w.0 l) (sym log) w.1)))
        (λ same. subst IsInRounds (sym same) x)

    module _ (calls : N → Option (List LogEntry)) where
      abbrev Cut : Type 0
      Cut = AddsPart calls (IsRoundPart (master_in old) (slaves_in old) old.log) before now old.log new.log

      -- a round that is run, to its end or not
      pub goes_on : IsInRounds old → new.fault ≡ fault_of result → ((n : ℕ) → Rounds (master_in old) (slaves_in old) n old.log → OnOk result (Rounds (master_in old) (slaves_in old) (n + 1) new.log))
          → (old.fault ≡ None → OnErr result Cut) → IsInRounds new
      goes_on x fault rounds cut = either (IsInRounds new)
          (λ none. (let w = whole_rounds old none x in by result w fault (rounds w.0 w.1) (cut none)))
          (λ same. subst IsInRounds (sym same) x)
        where
          by : (r : Result T HostFault) → (w : (n : ℕ) × Rounds (master_in old) (slaves_in old) n old.log) → new.fault ≡ fault_of r → OnOk r (Rounds (master_in old) (slaves_in old) (w.0 + 1) new.log) → OnErr r Cut → IsInRounds new
          by (Ok t) w f ok err = whole_now (w.0 + 1) ok
          by (Err e) w f ok err = cut_now w.0 w.1 e f err.part err.added.log err.form
