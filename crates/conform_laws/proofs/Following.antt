-- A log in which a slave of the definitions does what its rules say is one that a slave may have whose model is not known.
use Rattle.std.proofs.Common.{◌≡◌, Bool, false, List, [], ◌∷◌, ◌++◌, refl, sym, subst}
use Rattle.dcp_types.specs.declared.fault_codes.FaultCode.{FaultCode}
use Rattle.dcp_ends.specs.declared.entries.LogEntry.{LogEntry}
use Rattle.dcp_ends.specs.Events.{Event, Send}
use Rattle.slave_spec.specs.declared.words.SlaveSetup.{SlaveSetup}
use Rattle.slave_spec.specs.Transport.{Machine, SlaveState, after, after_all, sends}
use Rattle.slave_spec.specs.Plants.{Plant}
use Rattle.slave_spec.specs.Slaves.{machine, slave_after, slave_rules_from}
use Rattle.slave_spec.specs.Foreign.{MaySendAt}
use Rattle.slave_spec.specs.Allowed.{Piece, Rests, Acts, AreAllowed, Allowed}
use Rattle.conform_laws.specs.Runs.{PiecesFollow, IsCutRun}
use Rattle.conform_laws.proofs.Faces.{faced, Behind, start_behind}
use Rattle.conform_laws.proofs.Stepping.{IsStep, is_step}

one_more : (m : Machine Plant) (x : SlaveState Plant) (events : List Event) (event : Event) → after_all m x (events ++ event ∷ []) ≡ after m (after_all m x events) event
one_more m x [] event = refl
one_more m x (e ∷ events) event = one_more m (after m x e) events event

module _ (s : SlaveSetup) where
  pieces_allowed : (before : List Event) (pieces : List Piece) (faults : List FaultCode) (logs : Bool) (x : SlaveState Plant) → x ≡ slave_after s before → Behind s.desc x.inner faults logs
      → PiecesFollow (slave_rules_from s) before pieces → AreAllowed s.desc (faced x faults logs) pieces
  pieces_allowed before [] faults logs x e h follow = tt
  pieces_allowed before (Rests ∷ pieces) faults logs x e h follow = pieces_allowed before pieces faults logs x e h follow
  pieces_allowed before (Acts event sent ∷ pieces) faults logs x e h (same, follow) =
      let k : IsStep s x faults logs event = is_step s x faults logs event h in
      let next : SlaveState Plant = after (machine s) x event in
      let own : sends (machine s) x event ≡ sent = subst (λ (y : SlaveState Plant). sends (machine s) y event ≡ sent) (sym e) (sym same) in
      let stands : next ≡ slave_after s (before ++ event ∷ []) = subst (λ (y : SlaveState Plant). after (machine s) y event ≡ slave_after s (before ++ event ∷ [])) (sym e) (sym (one_more (machine s) _ before event)) in (
        faced next k.codes k.heeds,
        subst (λ (l : List Send). MaySendAt s.desc (faced x faults logs) event l (faced next k.codes k.heeds)) own k.may,
        pieces_allowed (before ++ event ∷ []) pieces k.codes k.heeds next stands k.behind follow,
      )

pub cut_allowed : (s : SlaveSetup) (log : List LogEntry) → IsCutRun (slave_rules_from s) log → Allowed s.desc log
cut_allowed s log h = record {
  pieces = h.pieces;
  cut = h.cut;
  allowed = pieces_allowed s [] h.pieces [] false (slave_after s []) refl (start_behind s) h.follow;
}
