-- What a slave sends in one event, at every moment of a run.
use Rattle.std.proofs.Common.{◌≡◌, ℕ, ◌≤◌, Bool, true, false, if◌then◌else◌, ◌⊎◌, inl, inr, List, [], ◌∷◌, map, sym, ap, ◌∙◌, subst, arith}
use Rattle.dcp_types.specs.declared.addresses.Address.{Address}
use Rattle.dcp_ends.specs.Events.{Send}
use Rattle.dcp_ends.specs.Logs.{same_address}
use Rattle.dcp_ends.specs.declared.entries.LogEntry.{LogEntry}
use Rattle.dcp_ends.specs.declared.entries.LogEntry.TheVariants.{Sent, Got, Idle, Turn}
use Rattle.slave_desc.specs.declared.descriptions.SlaveDesc.{SlaveDesc}
use Rattle.scenario.specs.declared.scenarios.Scenario.{Scenario}
use Rattle.scenario.specs.Sound.{IsScenario}
use Rattle.log_spec.specs.Log.{Parties, IsSlaveOf, same, DecidedRequest}
use Rattle.log_spec.specs.Honest.{IsRepeatedNewest}
use Rattle.log_spec.proofs.Moves.{same_self}
use Rattle.lockstep_laws.specs.Slaves.{Post}
use Rattle.lockstep_laws.specs.Cast.{ConversingSlaves}
use Rattle.lockstep_laws.specs.Runs.{Behaves}
use Rattle.lockstep_laws.proofs.Asking.{asked_in_order}
use Rattle.lockstep_laws.proofs.Conversation.{earlier}
use Rattle.slave_spec.specs.Heard as spec
use Rattle.slave_spec.specs.Transport as transport
use Rattle.slave_spec.specs.Plants.{Plant}
use Rattle.slave_spec.specs.declared.words.SlaveSetup.{SlaveSetup}
use Rattle.slave_spec.specs.Slaves.{machine}
use Rattle.slave_spec.specs.declared.words.Session.{Session}
use Rattle.slave_spec.specs.declared.words.Session.TheVariants.{During}
use Rattle.slave_laws.specs.Talk.Desks.{post, got, ticked, at}
use Rattle.master_log_laws.specs.Index.Runs.{IsRun}
use Rattle.master_spec.specs.Setup.{setup_from}
use Rattle.slave_laws.specs.Data.Whole.{slaves_asked}
use Rattle.slave_laws.proofs.Data.Stepping.{asked_may}
use Rattle.lockstep_laws.specs.Models.Scenarios.{slave_numbered}
use Rattle.run_laws.specs.Laws.{parties, slave_setup_of}
use Rattle.run_laws.proofs.Headline.Behaving.{are_slaves}
use Rattle.completeness_laws.specs.Quiet.{AllToEnds, OwesLittle, posts_to, SlavesSendLittle}
use Rattle.completeness_laws.proofs.Delivery.Sessions.{SessionIs, session_at}
use Rattle.completeness_laws.proofs.Delivery.Unanswered.{behaves_then, run_then}
use Rattle.completeness_laws.proofs.Quiet.Lists.{bit}
use Rattle.completeness_laws.proofs.Quiet.Fronts.{address_self}
use Rattle.completeness_laws.proofs.Quiet.Muted.{mute_at, comes_plain}
use Rattle.completeness_laws.proofs.Quiet.Sends.{OneBack, heard_back, turn_few}

module _ (sc : Scenario) (other : SlaveDesc) (ok : IsScenario sc) (s : ℕ) (it : IsSlaveOf (parties sc other) s) where
  abbrev W : Parties
  W = parties sc other

  abbrev X : ConversingSlaves
  X = slaves_asked sc other

  abbrev D : SlaveSetup
  D = slave_setup_of sc other s

  abbrev M : transport.Machine Plant
  M = machine D

  back_posts : (from : Address) (ps : List Send) → OneBack from ps → (map post ps ≡ []) ⊎ ((b : List ℕ) × (map post ps ≡ record { to = from; bytes = b } ∷ []))
  back_posts from ps (inl e) = inl (ap (map post) e)
  back_posts from ps (inr e) = inr (e.0, ap (map post) e.1)

  got_little : (at' from : Address) (bytes : List ℕ) (sofar : List LogEntry) → Behaves W X (Got at' from bytes ∷ sofar) → IsRun (setup_from sc) (Got at' from bytes ∷ sofar) → OwesLittle W s (Got at' from bytes) (X.desk s (Got at' from bytes ∷ sofar)).owed
  got_little at' from bytes sofar b run here =
      let before = earlier W X (are_slaves sc other ok) (Got at' from bytes) sofar b in
      let x = at M W s sofar in
      let P : Address → Type 0 = λ a. IsRepeatedNewest W sofar a from bytes in
      let plain = comes_plain sc other ok s it sofar before run.1 from bytes (subst P here b.honest.0) in
      let m = mute_at sc other ok s it sofar before run.1 in
      let k = back_posts from (transport.heard_sends M x.slave from (spec.heard bytes)) (heard_back D x.slave m from (spec.heard bytes) plain) in
      let t : same at' (W.slave s) ≡ true = ap (λ (a : Address). same a (W.slave s)) here ∙ same_self (W.slave s) in
      let e : (at M W s (Got at' from bytes ∷ sofar)).desk.owed ≡ (got M W s from bytes x).desk.owed = ap (λ (c : Bool). (if c then got M W s from bytes x else x).desk.owed) t in
      let Q : List Post → Type 0 = λ ps. (ps ≡ []) ⊎ ((c : List ℕ) × (ps ≡ record { to = from; bytes = c } ∷ [])) in
      subst Q (sym e) k

  turn_little : (at' : Address) (sofar : List LogEntry) → Behaves W X (Turn at' ∷ sofar) → IsRun (setup_from sc) (Turn at' ∷ sofar) → OwesLittle W s (Turn at') (X.desk s (Turn at' ∷ sofar)).owed
  turn_little at' sofar b run here =
      let before = earlier W X (are_slaves sc other ok) (Turn at') sofar b in
      let x = at M W s sofar in
      let m = mute_at sc other ok s it sofar before run.1 in
      let asked = asked_may sc s (slave_numbered sc other s) (X.desk s sofar).served (asked_in_order W X (are_slaves sc other ok) s it sofar before) in
      let few = turn_few sc other ok s it sofar asked m (λ master i e. of_master master i x.slave.session (x.desk.served) e (session_at sc other ok s it sofar before run.1)) in
      let t : same at' (W.slave s) ≡ true = ap (λ (a : Address). same a (W.slave s)) here ∙ same_self (W.slave s) in
      let e : (at M W s (Turn at' ∷ sofar)).desk.owed ≡ (ticked M W s x).desk.owed = ap (λ (c : Bool). (if c then ticked M W s x else x).desk.owed) t in
      let Q : List Post → Type 0 = λ ps. AllToEnds W ps × ((posts_to W.master ps ≤ 2) × ((a : Address) → same_address W.master a ≡ false → posts_to a ps ≤ 1)) in
      let own = ap bit (address_self W.master) in
      subst Q (sym e) (few.ends, ((let f = few.few W.master in omega (arith, f, own)), λ a z. (let f = few.few a in let g = ap bit z in omega (arith, f, g))))
    where
      of_master : (master : Address) (i : ℕ) (session : Session) (es : List DecidedRequest) → session ≡ During master i → SessionIs W.master s session es → master ≡ W.master
      of_master master i session es e h = let P : Session → Type 0 = λ z. SessionIs W.master s z es in (subst P e h).0

  pub little : (e : LogEntry) (sofar : List LogEntry) → Behaves W X (e ∷ sofar) → IsRun (setup_from sc) (e ∷ sofar) → OwesLittle W s e (X.desk s (e ∷ sofar)).owed
  little (Sent from to bytes) sofar b run = tt
  little (Got at' from bytes) sofar b run = got_little at' from bytes sofar b run
  little (Idle at') sofar b run = tt
  little (Turn at') sofar b run = turn_little at' sofar b run

pub send_little : SlavesSendLittle
send_little sc other ok log r s it later sofar e split = little sc other ok s it e sofar (behaves_then sc other ok log r s it later sofar e split) (run_then sc other ok log r s it later sofar e split)
