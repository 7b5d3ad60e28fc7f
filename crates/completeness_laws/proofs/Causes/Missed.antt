-- A slave that had missed a heartbeat when it took a request.
use Rattle.std.proofs.Common.{◌≡◌, ℕ, suc, ◌+◌, ◌<◌, Some, List, [], ◌∷◌, ◌++◌, length, sym, ap, ◌∙◌, arith, length-append}
use Rattle.std.proofs.lemmas.List.{append_assoc}
use Rattle.dcp_types.specs.declared.fault_codes.FaultCode.TheVariants.{HeartbeatMissed}
use Rattle.dcp_ends.specs.declared.entries.LogEntry.{LogEntry}
use Rattle.scenario.specs.declared.scenarios.Scenario.{Scenario}
use Rattle.slave_desc.specs.declared.descriptions.SlaveDesc.{SlaveDesc}
use Rattle.log_spec.specs.Log.{Parties, DecidedRequest}
use Rattle.slave_spec.specs.declared.words.SlaveSetup.{SlaveSetup}
use Rattle.slave_laws.specs.Model.Models.{plant_at}
use Rattle.slave_laws.specs.Model.Tuned.{served_at}
use Rattle.run_laws.specs.Laws.{parties, slave_setup_of}
use Rattle.completeness_laws.specs.Reasons.{HeartbeatWasMissed}
use Rattle.completeness_laws.proofs.Causes.History.{WasTaken}
use Rattle.completeness_laws.proofs.Causes.Moments.{served_grows}
use Rattle.completeness_laws.proofs.Causes.Quiet.{left_alone}
use Rattle.completeness_laws.proofs.Causes.Taken.{reads}

module _ (sc : Scenario) (other : SlaveDesc) (id : ℕ) where
  abbrev w : Parties
  w = parties sc other

  abbrev s : SlaveSetup
  s = slave_setup_of sc other id

  abbrev served : List LogEntry → List DecidedRequest
  served l = served_at s w id l

  pub missed_before : (sofar : List LogEntry) (d : DecidedRequest) (es : List DecidedRequest) (t : WasTaken s w id (reads sc other) sofar d es) → (plant_at s w id t.earlier).fault ≡ Some HeartbeatMissed → HeartbeatWasMissed sc other id sofar
  missed_before sofar d es t f =
      let m = left_alone s w id (reads sc other) t.earlier f in
      let a = m.1 in
      let g = served_grows s w id (reads sc other) a.later (a.middle ++ a.earlier) in
      let h = served_grows s w id (reads sc other) t.later (t.entry ∷ t.earlier) in
      let before : served t.earlier ≡ g.0 ++ served a.earlier = ap served a.is ∙ g.1 ∙ ap (λ (ds : List DecidedRequest). g.0 ++ ds) a.none_taken in
      let after : served sofar ≡ h.0 ++ served (t.entry ∷ t.earlier) = ap served t.is ∙ h.1 in
      record {
        on = m.0;
        quiet = record {
          later = (t.later ++ t.entry ∷ []) ++ a.later;
          middle = a.middle;
          earlier = a.earlier;
          is = t.is ∙ sym (append_assoc t.later (t.entry ∷ []) t.earlier) ∙ ap (λ (l : List LogEntry). (t.later ++ t.entry ∷ []) ++ l) a.is ∙ sym (append_assoc (t.later ++ t.entry ∷ []) a.later (a.middle ++ a.earlier));
          had = a.enough;
          begun = a.begun;
          none_taken = a.none_taken;
          taken = more (length (served a.earlier)) (length g.0) (length (served t.earlier)) (length (served (t.entry ∷ t.earlier))) (length h.0) (length (served sofar))
              (ap length before ∙ length-append g.0 (served a.earlier)) (ap length (t.takes_it).served) (ap length after ∙ length-append h.0 (served (t.entry ∷ t.earlier)));
        };
      }
    where
      more : (first since before now later all : ℕ) → before ≡ since + first → now ≡ suc before → all ≡ later + now → first < all
      more first since before now later all h1 h2 h3 = omega (arith, h1, h2, h3)
