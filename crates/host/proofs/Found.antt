-- The end of a slave of the scenario.
use Rattle.std.proofs.Common.{◌≡◌, ℕ, List, map, get_or, Bool, true, false, if◌then◌else◌, MatchBool, MatchOption, IfSome, Option, None, Some, refl, ap, sym, ◌∙◌, subst}
use Rattle.std.specs.List.{slice_get}
use Rattle.std.specs.Option.{option_map}
use Rattle.std.proofs.lemmas.Option.{slice_get-map, slice_get_within, get_or_from_slice_get}
use Rattle.dcp_ends.specs.declared.entries.LogEntry.{LogEntry}
use Rattle.dcp_ends.specs.Events.{Event, Rules}
use Rattle.dcp_ends.specs.Logs.{events_at}
use Rattle.rounds.specs.Told.{IsToldUpTo, AllToldUpTo}
use Rattle.slave_desc.specs.declared.descriptions.SlaveDesc.{SlaveDesc}
use Rattle.scenario.specs.declared.scenarios.Scenario.{Scenario}
use Rattle.master_spec.specs.Rules.{master_rules}
use Rattle.slave_spec.specs.declared.words.SlaveSetup as slave
use Rattle.master_spec.specs.declared.setups.Setup as master
use Rattle.master_spec.specs.Setup.{setup_from}
use Rattle.host.specs.Hosting.{slave_rules, slave_setup}
use Rattle.host.specs.Views.{HostView, of_slave}
use Rattle.host.specs.Seats.{IsFirstFound, IsFoundSeat, IsSeatPlace}

module _ {S : Type 0} (stands : S → List Event → Type 0) (rules : S → Rules) (made : S → slave.SlaveSetup) (slaves : List S) (sc : Scenario) (ds : List SlaveDesc) (log : List LogEntry)
    (same : map rules slaves ≡ map (slave_rules sc) ds) (same_made : map made slaves ≡ map (slave_setup sc) ds) (cut : AllToldUpTo stands rules slaves log) (i : ℕ) where
  is_found : (d : SlaveDesc) (end : Option S) → slice_get slaves i ≡ end → option_map rules end ≡ Some (slave_rules sc d) → option_map made end ≡ Some (slave_setup sc d)
      → IsFoundSeat stands made sc log (Some d) end
  is_found d None here rules_same made_same = cc
  is_found d (Some end) here rules_same made_same =
      let rules_are : rules end ≡ slave_rules sc d = cc in
      let made_is : made end ≡ slave_setup sc d = cc in
      let it : get_or slaves i end ≡ end = get_or_from_slice_get slaves i end end here in
      let told : stands (get_or slaves i end) (events_at (rules (get_or slaves i end)).place log) = (cut i end (slice_get_within slaves i end here)).stands_for in
      (made_is, subst (λ (r : Rules). stands end (events_at r.place log)) rules_are (subst (λ (e : S). stands e (events_at (rules e).place log)) it told))

  -- what a reader gives of the end at a place of the slave there
  there : {A : Type 0} (f : S → A) (g : SlaveDesc → A) (d : SlaveDesc) → map f slaves ≡ map g ds → slice_get ds i ≡ Some d → option_map f (slice_get slaves i) ≡ Some (g d)
  there f g d both place = sym (slice_get-map f slaves i) ∙ ap (λ l. slice_get l i) both ∙ slice_get-map g ds i ∙ ap (option_map g) place

  pub found_at : (slave : Option SlaveDesc) → IsSeatPlace slave ds (Some i) → IsFoundSeat stands made sc log slave (slice_get slaves i)
  found_at None place = cc
  found_at (Some d) place = is_found d (slice_get slaves i) refl (there rules (slave_rules sc) d same place) (there made (slave_setup sc) d same_made place)

pub found_nowhere : {S : Type 0} (stands : S → List Event → Type 0) (made : S → slave.SlaveSetup) (sc : Scenario) (ds : List SlaveDesc) (log : List LogEntry) (slave : Option SlaveDesc)
    → IsSeatPlace slave ds None → IsFoundSeat stands made sc log slave None
found_nowhere stands made sc ds log None place = refl
found_nowhere stands made sc ds log (Some d) place = absurd place

-- what is read of the end of a slave
pub slave_read : {S A : Type 0} (stands : S → List Event → Type 0) (made : S → slave.SlaveSetup) (host : HostView)
    (reading : slave.SlaveSetup → List Event → Option A) (slave : Option SlaveDesc) (end : S) (result : Option A) → IsFoundSeat stands made host.scenario host.log slave (Some end)
    → ((events : List Event) → stands end events → result ≡ reading (made end) events)
    → result ≡ of_slave host reading slave
slave_read stands made host reading None end result found says = cc
slave_read stands made host reading (Some d) end result found says =
    says (events_at d.address host.log) found.1 ∙ ap (λ (s : slave.SlaveSetup). reading s (events_at d.address host.log)) found.0

-- it stands for its own events
pub stands_where : {S : Type 0} (stands : S → List Event → Type 0) (made : S → slave.SlaveSetup) (sc : Scenario) (log : List LogEntry) (slave : Option SlaveDesc) (end : S)
    → IsFoundSeat stands made sc log slave (Some end) → IfSome slave (λ d. stands end (events_at d.address log))
stands_where stands made sc log None end found = tt
stands_where stands made sc log (Some d) end found = found.1

-- the master's end, where it is hosted
module _ {M : Type 0} (stands : M → List Event → Type 0) (rules : M → Rules) (made : M → master.Setup) (sc : Scenario) (log : List LogEntry) where
  pub first_found : (b : Bool) (end : Option M) → option_map rules end ≡ (if b then Some (master_rules sc) else None) → option_map made end ≡ (if b then Some (setup_from sc) else None)
      → IfSome end (λ m. IsToldUpTo stands (rules m) m log) → IsFirstFound stands made sc log b end
  first_found false None rules_same made_same told = refl
  first_found false (Some end) rules_same made_same told = cc
  first_found true None rules_same made_same told = cc
  first_found true (Some end) rules_same made_same told =
      let rules_are : rules end ≡ master_rules sc = cc in
      let made_is : made end ≡ setup_from sc = cc in
      (made_is, subst (λ (r : Rules). stands end (events_at r.place log)) rules_are told.stands_for)

-- what is read of the end of the master
pub master_read : {M A : Type 0} (stands : M → List Event → Type 0) (made : M → master.Setup) (sc : Scenario) (log : List LogEntry)
    (reading : master.Setup → List Event → A) (other : A) (b : Bool) (end : M) (result : A) → IsFirstFound stands made sc log b (Some end)
    → ((events : List Event) → stands end events → result ≡ reading (made end) events)
    → result ≡ (if b then reading (setup_from sc) (events_at sc.master log) else other)
master_read stands made sc log reading other false end result found says = cc
master_read stands made sc log reading other true end result found says =
    says (events_at sc.master log) found.1 ∙ ap (λ (s : master.Setup). reading s (events_at sc.master log)) found.0

pub none_read : {M A : Type 0} (stands : M → List Event → Type 0) (made : M → master.Setup) (sc : Scenario) (log : List LogEntry)
    (value other : A) (b : Bool) → IsFirstFound stands made sc log b None → other ≡ (if b then value else other)
none_read stands made sc log value other false found = refl
none_read stands made sc log value other true found = absurd found
