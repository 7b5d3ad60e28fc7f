-- A slave of a scenario is mute at every moment.
use Rattle.std.proofs.Common.{◌≡◌, ℕ, Bool, true, false, if◌then◌else◌, List, [], ◌∷◌, refl, subst}
use Rattle.dcp_types.specs.declared.addresses.Address.{Address}
use Rattle.dcp_ends.specs.declared.entries.LogEntry.{LogEntry}
use Rattle.dcp_ends.specs.declared.entries.LogEntry.TheVariants.{Sent, Got, Idle, Turn}
use Rattle.slave_desc.specs.declared.descriptions.SlaveDesc.{SlaveDesc}
use Rattle.scenario.specs.declared.scenarios.Scenario.{Scenario}
use Rattle.scenario.specs.Sound.{IsScenario}
use Rattle.log_spec.specs.Messages.{Note, Role, Request, Answer, Value, Else}
use Rattle.log_spec.specs.Log.{Parties, IsSlaveOf, same, role_heard}
use Rattle.log_spec.specs.Honest.{IsRepeatedNewest}
use Rattle.log_spec.specs.Moves.{Move, Asks, Comes, Tells, Hears, Brings, Turns, Rests, Other, move}
use Rattle.log_spec.proofs.Moves.{same_is}
use Rattle.lockstep_laws.specs.Cast.{ConversingSlaves}
use Rattle.lockstep_laws.specs.Runs.{Behaves}
use Rattle.lockstep_laws.proofs.Conversation.{earlier}
use Rattle.slave_spec.specs.Heard as spec
use Rattle.slave_spec.specs.Transport as transport
use Rattle.slave_spec.specs.Transport.{Notice, Changed, Parcel, Answered, Turned}
use Rattle.slave_spec.specs.Plants.{Plant}
use Rattle.slave_spec.specs.declared.words.SlaveSetup.{SlaveSetup}
use Rattle.slave_spec.specs.Requests.{refusal}
use Rattle.slave_spec.specs.Turns.{act, turned, is_listening}
use Rattle.slave_spec.specs.Slaves.{machine}
use Rattle.slave_spec.specs.declared.words.SlaveRequest as req
use Rattle.slave_spec.specs.declared.words.Fate.{Fate}
use Rattle.slave_spec.specs.declared.words.Fate.TheVariants.{Dropped, Refused, Repeated, Taken}
use Rattle.slave_spec.specs.Payloads.{brought}
use Rattle.slave_laws.specs.Talk.Desks.{Both, sent_next, got, ticked, at, Agree}
use Rattle.master_log_laws.specs.Index.Runs.{IsRun}
use Rattle.master_spec.specs.Setup.{setup_from}
use Rattle.slave_laws.specs.Data.Whole.{slaves_asked}
use Rattle.run_laws.specs.Laws.{parties, slave_setup_of}
use Rattle.run_laws.proofs.Headline.Behaving.{are_slaves}
use Rattle.completeness_laws.proofs.Delivery.Ended.{run_front}
use Rattle.completeness_laws.proofs.Delivery.Sessions.{comes_of_master, reads_back}
use Rattle.completeness_laws.proofs.Quiet.Plain.{IsPlainAsked, IsPlainHeard}
use Rattle.completeness_laws.proofs.Quiet.Told.{sent_plain}
use Rattle.completeness_laws.proofs.Quiet.Mute.{IsMute, answered_mute, turned_mute}

-- ---- at every moment
module _ (sc : Scenario) (other : SlaveDesc) (ok : IsScenario sc) (s : ℕ) (it : IsSlaveOf (parties sc other) s) where
  abbrev W : Parties
  W = parties sc other

  abbrev X : ConversingSlaves
  X = slaves_asked sc other

  abbrev D : SlaveSetup
  D = slave_setup_of sc other s

  abbrev M : transport.Machine Plant
  M = machine D

  abbrev pub MuteAt : List LogEntry → Type 0
  MuteAt log = IsMute (at M W s log).slave.inner.log

  -- what comes to the slave is heard as plain
  pub comes_plain : (log : List LogEntry) → Behaves W X log → IsRun (setup_from sc) log → (from : Address) (bytes : List ℕ) → IsRepeatedNewest W log (W.slave s) from bytes → IsPlainHeard (spec.heard bytes)
  comes_plain log b run from bytes r = by (role_heard W bytes) (spec.heard bytes) refl refl ((reads_back sc other ok s it).agree bytes)
    where
      asked : (receiver : ℕ) (n : Note) → role_heard W bytes ≡ Request receiver n → IsPlainHeard (spec.heard bytes)
      asked receiver n e =
          let m = comes_of_master sc other ok s it log b run from bytes receiver n r e in
          let P : List LogEntry → Type 0 = λ z. IsRun (setup_from sc) z in
          let Q : Address → Type 0 = λ a. IsRun (setup_from sc) (Sent a (W.slave s) bytes ∷ r.earlier) in
          sent_plain sc other ok s it bytes r.earlier (subst Q m.from_is (run_front (setup_from sc) r.later (Sent from (W.slave s) bytes ∷ r.earlier) (subst P r.is run)))

      by : (k : Role) (h : spec.Heard) → role_heard W bytes ≡ k → spec.heard bytes ≡ h → Agree k h → IsPlainHeard h
      by (Request receiver n) (spec.Asks q) e f a = subst IsPlainHeard f (asked receiver n e)
      by (Request receiver n) (spec.Brings number i payload) e f a = tt
      by (Request receiver n) spec.Nothing e f a = tt
      by (Answer sender n) (spec.Asks q) e f a = absurd a
      by (Answer sender n) (spec.Brings number i payload) e f a = tt
      by (Answer sender n) spec.Nothing e f a = tt
      by (Value id n) (spec.Asks q) e f a = absurd a
      by (Value id n) (spec.Brings number i payload) e f a = tt
      by (Value id n) spec.Nothing e f a = tt
      by Else (spec.Asks q) e f a = absurd a
      by Else (spec.Brings number i payload) e f a = tt
      by Else spec.Nothing e f a = tt

  request_mute : (x : transport.SlaveState Plant) → IsMute x.inner.log → (from : Address) (r : req.SlaveRequest) → IsPlainAsked r.asked → (f : Fate) → IsMute (transport.after_request M x from r f).inner.log
  request_mute x m from r p Dropped = m
  request_mute x m from r p (Refused code) = m
  request_mute x m from r p Repeated = m
  request_mute x m from r p Taken = (answered_mute D x.inner m r.asked p (refusal D x.inner r.asked)).after

  heard_mute : (x : transport.SlaveState Plant) → IsMute x.inner.log → (from : Address) (h : spec.Heard) → IsPlainHeard h → IsMute (transport.after_heard M x from h).inner.log
  heard_mute x m from (spec.Asks r) p = request_mute x m from r p (transport.fate M x from r)
  heard_mute x m from (spec.Brings number i payload) p = by (transport.is_open x.session) (is_listening x.inner.state)
    where
      by : (a b : Bool) → IsMute (if a then record x { inner = if b then record x.inner { wires = brought D.desc x.inner.wires from number i payload x.inner.steps } else x.inner } else x).inner.log
      by true true = m
      by true false = m
      by false b = m
  heard_mute x m from spec.Nothing p = m

  turn_mute : (x : transport.SlaveState Plant) → IsMute x.inner.log → IsMute (transport.after_turn M x).inner.log
  turn_mute x m = by (transport.is_open x.session) (turned_mute D x.inner m (act D (transport.quieter x.quiet) x.inner)).after
    where
      by : (b : Bool) → IsMute (turned D x.inner (act D (transport.quieter x.quiet) x.inner)).after.log → IsMute (if b then record x { quiet = transport.quieter x.quiet; inner = (M.turns (transport.quieter x.quiet) x.inner).after } else x).inner.log
      by true h = h
      by false h = m

  sent_mute : (mv : Move) (x : Both Plant) → IsMute x.slave.inner.log → IsMute (sent_next M W s mv x).slave.inner.log
  sent_mute (Asks n) x h = h
  sent_mute (Comes from receiver n) x h = h
  sent_mute (Tells to bytes) x h = h
  sent_mute (Hears n) x h = h
  sent_mute (Brings from id n) x h = h
  sent_mute Turns x h = h
  sent_mute Rests x h = h
  sent_mute Other x h = h

  pub mute_at : (log : List LogEntry) → Behaves W X log → IsRun (setup_from sc) log → MuteAt log
  mute_at [] b run = record { first = refl; second = refl; third = refl }
  mute_at (Sent from to bytes ∷ log) b run = sent_mute (move W s (Sent from to bytes)) (at M W s log) (mute_at log (earlier W X (are_slaves sc other ok) (Sent from to bytes) log b) run.1)
  mute_at (Got at' from bytes ∷ log) b run = by (mute_at log (earlier W X (are_slaves sc other ok) (Got at' from bytes) log b) run.1) (same at' (W.slave s)) refl
    where
      by : MuteAt log → (c : Bool) → same at' (W.slave s) ≡ c → IsMute (if c then got M W s from bytes (at M W s log) else at M W s log).slave.inner.log
      by before true e =
          let P : Address → Type 0 = λ a. IsRepeatedNewest W log a from bytes in
          heard_mute (at M W s log).slave before from (spec.heard bytes) (comes_plain log (earlier W X (are_slaves sc other ok) (Got at' from bytes) log b) run.1 from bytes (subst P (same_is at' (W.slave s) e) b.honest.0))
      by before false e = before
  mute_at (Idle at' ∷ log) b run = mute_at log (earlier W X (are_slaves sc other ok) (Idle at') log b) run.1
  mute_at (Turn at' ∷ log) b run = by (mute_at log (earlier W X (are_slaves sc other ok) (Turn at') log b) run.1) (same at' (W.slave s))
    where
      by : MuteAt log → (c : Bool) → IsMute (if c then ticked M W s (at M W s log) else at M W s log).slave.inner.log
      by before true = turn_mute (at M W s log).slave before
      by before false = before
