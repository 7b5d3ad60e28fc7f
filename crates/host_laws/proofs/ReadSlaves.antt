-- What a host keeps to, in what is read of its slaves.
use Rattle.std.proofs.Common.{◌≡◌, ℕ, ◌+◌, ◌-◌, ◌<◌, inl, ℤ, Bool, if◌then◌else◌, Option, None, Some, IfSome, Ok, List, [], ◌∷◌, ◌++◌, length, reverse, refl, sym, ap, ◌∙◌, subst, arith, append-nil, append_assoc}
use Rattle.std.proofs.lemmas.List.{reverse-append}
use Rattle.std.proofs.lemmas.Bool.{cond-true}
use Rattle.std.proofs.lemmas.Option.{slice_get_within}
use Rattle.dcp_types.specs.declared.addresses.Address.{Address}
use Rattle.dcp_ends.specs.declared.entries.LogEntry.{LogEntry}
use Rattle.dcp_ends.specs.declared.entries.LogEntry.TheVariants.{Sent, Got, Idle, Turn}
use Rattle.dcp_ends.specs.Events.{Event, Gram, Tick}
use Rattle.dcp_ends.specs.Logs.{event_at, events_at, same_address}
use Rattle.pdu_layout.specs.Reading.{message_in}
use Rattle.log_spec.specs.Log.{Parties, IsSlaveOf, same}
use Rattle.log_spec.specs.Oldest.{Honest}
use Rattle.master_log_laws.proofs.Index.ByEntry.{address_turned}
use Rattle.master_laws.proofs.Meets.Asking.{same_as}
use Rattle.fixed_models.specs.Steps.{start}
use Rattle.slave_desc.specs.declared.descriptions.SlaveDesc.{SlaveDesc}
use Rattle.scenario.specs.Sound.{IsSlave}
use Rattle.scenario.specs.Lookups.{slave_at}
use Rattle.lockstep.specs.Lockstep.{state}
use Rattle.plan_laws.proofs.Planned.{slave_got}
use Rattle.lockstep_laws.specs.Models.Scenarios.{slave_numbered}
use Rattle.lockstep_laws.proofs.Models.Scenarios.{has_parties}
use Rattle.slave_spec.specs.declared.words.SlaveSetup.{SlaveSetup}
use Rattle.slave_spec.specs.Plants.{Plant}
use Rattle.slave_spec.specs.Slaves.{machine, slave_after, steps_after}
use Rattle.slave_spec.specs.Transport as transport
use Rattle.slave_laws.specs.Talk.Desks.{event_of, events_of_slave}
use Rattle.slave_laws.proofs.Talk.Meets.{slave_is}
use Rattle.slave_laws.specs.Model.Models.{plant_at}
use Rattle.run_laws.specs.Laws.{parties, slave_setup_of}
use Rattle.host.specs.Hosting.{is_hosted, slave_setup}
use Rattle.host.specs.Views.{HostView, of_slave, slave_in}
use Rattle.host_laws.specs.Lockstep.{HostsAll, HostKeepsInStep}
use Rattle.host_laws.specs.Readings.{OfReference, plant_in, StandsInLockstep, AreClose, IsCloseToAll}
use Rattle.host_laws.proofs.ReadRows.{now_of}

-- ---- the events of a slave, either way round
module _ (w : Parties) (s : ℕ) where
  events_join : (later sofar : List LogEntry) → events_of_slave w s (later ++ sofar) ≡ events_of_slave w s sofar ++ events_of_slave w s later
  events_join [] sofar = sym (append-nil (events_of_slave w s sofar))
  events_join (e ∷ later) sofar = ap (λ (es : List Event). es ++ event_of w s e) (events_join later sofar) ∙ append_assoc (events_of_slave w s sofar) (events_of_slave w s later) (event_of w s e)

  here : (b : Address) → same b (w.slave s) ≡ same_address (w.slave s) b
  here b = same_as b (w.slave s) ∙ address_turned b (w.slave s)

  event_is : (e : LogEntry) → event_of w s e ≡ event_at (w.slave s) e
  event_is (Sent from to bytes) = refl
  event_is (Got at from bytes) = ap (λ (b : Bool). if b then Gram from bytes ∷ [] else []) (here at)
  event_is (Idle at) = refl
  event_is (Turn at) = ap (λ (b : Bool). if b then Tick ∷ [] else []) (here at)

  events_turned : (log : List LogEntry) → events_of_slave w s (reverse log) ≡ events_at (w.slave s) log
  events_turned [] = refl
  events_turned (e ∷ log) =
      ap (events_of_slave w s) (reverse-append (e ∷ []) log) ∙ events_join (reverse log) (e ∷ []) ∙ ap (λ (es : List Event). es ++ events_of_slave w s (reverse log)) (event_is e)
      ∙ ap (λ (es : List Event). event_at (w.slave s) e ++ es) (events_turned log)

  pub plant_is : (setup : SlaveSetup) (log : List LogEntry) → plant_at setup w s (reverse log) ≡ (slave_after setup (events_at (w.slave s) log)).inner
  plant_is setup log = ap (λ (z : _). z.inner) (slave_is (machine setup) w s (reverse log) ∙ ap (transport.slave (machine setup)) (events_turned log))

-- ---- a slave of the scenario by its number
module _ (host : HostView) (all : HostsAll host) (s : ℕ) (d : SlaveDesc) (there : slave_at host.scenario.slaves s ≡ Some d) where
  is_slave : IsSlave host.scenario.slaves s
  is_slave =
      let got = slave_got host.scenario.slaves s d there in
      let within = slice_get_within host.scenario.slaves (s - 1) d got.1 in
      (got.0, omega (arith, within, got.0))

  pub is_of : (other : SlaveDesc) → IsSlaveOf (parties host.scenario other) s
  is_of other = let is = is_slave in (omega (arith, is.0), is.1)

  desc_is : (other : SlaveDesc) → slave_numbered host.scenario other s ≡ d
  desc_is other = by (sym ((has_parties host.scenario other all.sound message_in).desc s (is_of other)) ∙ (slave_got host.scenario.slaves s d there).1)
    where
      by : Some (slave_numbered host.scenario other s) ≡ Some d → slave_numbered host.scenario other s ≡ d
      by h = cc

  pub reads : {A : Type 0} (reading : SlaveSetup → List Event → Option A) → slave_in host s reading ≡ reading (slave_setup host.scenario d) (events_at d.address host.log)
  reads reading =
      ap (of_slave host reading) (cond-true (is_hosted host.hosted s) (slave_at host.scenario.slaves s) None (all.slaves s is_slave) ∙ there)

  -- where the laws over a run have it is where its events brought it
  pub plant_of : (other : SlaveDesc) → plant_at (slave_setup_of host.scenario other s) (parties host.scenario other) s (reverse host.log) ≡ plant_in host d
  plant_of other =
      plant_is (parties host.scenario other) s (slave_setup_of host.scenario other s) host.log
      ∙ ap (λ (x : SlaveDesc). (slave_after (record { desc = x; micro = host.scenario.micro }) (events_at x.address host.log)).inner) (desc_is other)

  pub steps_are : (result : Option ℕ) → result ≡ slave_in host s (λ setup events_of_slave. Some (steps_after setup events_of_slave)) → result ≡ Some (plant_in host d).steps
  steps_are result same = same ∙ reads (λ setup events_of_slave. Some (steps_after setup events_of_slave))

  pub stands : HostKeepsInStep host → OfReference host (λ rows fault. StandsInLockstep host s rows d)
  stands step =
      now_of host all step (λ rows fault. StandsInLockstep host s rows d)
      (λ other rows fault x. (
      let it = x.stands s (is_of other) in
      let Stepped : SlaveDesc → Plant → Type 0 = λ e p. 0 < p.steps → state host.scenario rows s e (length p.earlier + 1) p.steps ≡ Ok p.model.state in
      let First : SlaveDesc → Plant → Type 0 = λ e p. p.steps ≡ 0 → (parameters : List ℤ) × (p.model.state ≡ start e.kind parameters) in
      let stepped : Stepped (slave_numbered host.scenario other s) (plant_at (slave_setup_of host.scenario other s) (parties host.scenario other) s (reverse host.log)) = λ some. it.stands (inl some) in
      let first : First (slave_numbered host.scenario other s) (plant_at (slave_setup_of host.scenario other s) (parties host.scenario other) s (reverse host.log)) = it.at_first in
      let here : (D : SlaveDesc → Plant → Type 0) → D (slave_numbered host.scenario other s) (plant_at (slave_setup_of host.scenario other s) (parties host.scenario other) s (reverse host.log)) → D d (plant_in host d) =
      λ D at. subst (λ (e : SlaveDesc). D e (plant_in host d)) (desc_is other) (subst (λ (p : Plant). D (slave_numbered host.scenario other s) p) (plant_of other) at) in
      record { stepped = here Stepped stepped; first = here First first }
      ))

module _ (host : HostView) (all : HostsAll host) (step : HostKeepsInStep host) where
  are_close : (s : ℕ) (d : SlaveDesc) → slave_at host.scenario.slaves s ≡ Some d → (t : ℕ) (e : SlaveDesc) → slave_at host.scenario.slaves t ≡ Some e → (other : SlaveDesc) → Honest (parties host.scenario other) host.log
      → AreClose host.scenario.steps (plant_in host d) (plant_in host e)
  are_close s d there t e also other honest =
      let k = step other honest in
      let close : AreClose host.scenario.steps (plant_at (slave_setup_of host.scenario other s) (parties host.scenario other) s (reverse host.log)) (plant_at (slave_setup_of host.scenario other t) (parties host.scenario other) t (reverse host.log)) =
      (k.always [] (reverse host.log) refl).together s t (is_of host all s d there other) (is_of host all t e also other) in
      let P : Plant → Type 0 = λ p. AreClose host.scenario.steps p (plant_at (slave_setup_of host.scenario other t) (parties host.scenario other) t (reverse host.log)) in
      let Q : Plant → Type 0 = λ q. AreClose host.scenario.steps (plant_in host d) q in
      subst Q (plant_of host all t e also other) (subst P (plant_of host all s d there other) close)

  pub close_to_all : (s : ℕ) (d : SlaveDesc) → slave_at host.scenario.slaves s ≡ Some d → IsCloseToAll host d
  close_to_all s d there = λ other honest t. by t (slave_at host.scenario.slaves t) refl other honest
    where
      by : (t : ℕ) (o : Option SlaveDesc) → slave_at host.scenario.slaves t ≡ o → (other : SlaveDesc) → Honest (parties host.scenario other) host.log
          → IfSome o (λ e. AreClose host.scenario.steps (plant_in host d) (plant_in host e))
      by t None none other honest = tt
      by t (Some e) also other honest = are_close s d there t e also other honest

-- of the slave of a number, if there is one
pub of_the_slave : (o : Option SlaveDesc) (Holds : SlaveDesc → Type 0) → ((d : SlaveDesc) → o ≡ Some d → Holds d) → IfSome o Holds
of_the_slave None Holds h = tt
of_the_slave (Some d) Holds h = h d refl
