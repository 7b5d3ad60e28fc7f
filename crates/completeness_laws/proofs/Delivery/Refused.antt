-- A request that was decided: where it was first sent, and where the slave took it.
use Rattle.std.proofs.Common.{◌≡◌, ℕ, ◌-◌, ◌≤◌, Option, Some, List, [], ◌∷◌, ◌++◌, length, inl, inr, refl, sym, ap, ◌∙◌, subst, arith}
use Rattle.std.proofs.lemmas.List.{append_assoc}
use Rattle.dcp_ends.specs.declared.entries.LogEntry.{LogEntry}
use Rattle.slave_desc.specs.declared.descriptions.SlaveDesc.{SlaveDesc}
use Rattle.scenario.specs.declared.scenarios.Scenario.{Scenario}
use Rattle.scenario.specs.Sound.{IsScenario}
use Rattle.log_spec.specs.Log.{Parties, IsSlaveOf, DecidedRequest}
use Rattle.log_spec.specs.Moves.{decided_exchanges}
use Rattle.lockstep_laws.specs.Cast.{ConversingSlaves}
use Rattle.lockstep_laws.specs.Runs.{Behaves}
use Rattle.lockstep_laws.proofs.Conversation.{earlier, drop_later}
use Rattle.lockstep_laws.proofs.Talk.{Behind}
use Rattle.master_spec.specs.declared.setups.Slave.{Slave}
use Rattle.master_spec.specs.declared.setups.Setup.{Setup}
use Rattle.master_spec.specs.Setup.{setup_from, slave_of}
use Rattle.master_spec.specs.Requests.{Asking, Decision, asks}
use Rattle.master_log_laws.specs.Index.Runs.{IsRun}
use Rattle.master_log_laws.specs.Index.Laws.{AreHeard}
use Rattle.master_log_laws.specs.Phases.Laws.{AreDecided, AreOneByOne}
use Rattle.master_log_laws.proofs.Phases.Numbered.{one_by_one}
use Rattle.master_laws.specs.Meets.Laws.{note_of}
use Rattle.master_laws.specs.Hears.Laws.{IsAnswerAs, IsDecision, AreDecisions}
use Rattle.lockstep_laws.specs.Models.Scenarios.{slave_numbered}
use Rattle.master_log_laws.proofs.Scenarios.Heard.{setups_heard}
use Rattle.slave_laws.specs.Data.Whole.{slaves_asked}
use Rattle.run_laws.specs.Laws.{parties}
use Rattle.run_laws.proofs.Headline.Behaving.{are_slaves}
use Rattle.completeness_laws.proofs.Delivery.Answering.{told, ServesAt, serves_at}
use Rattle.completeness_laws.proofs.Delivery.Askings.{FirstAt, AreAt, are_at, at_one}
use Rattle.completeness_laws.proofs.Delivery.Ended.{numbered_at, run_front}
use Rattle.completeness_laws.proofs.Delivery.Since.{served, TakenIn, taken_in}
use Rattle.completeness_laws.proofs.Delivery.Unanswered.{decided_length}

module _ (sc : Scenario) (other : SlaveDesc) (ok : IsScenario sc) (s : ℕ) (it : IsSlaveOf (parties sc other) s) where
  abbrev W : Parties
  W = parties sc other

  abbrev X : ConversingSlaves
  X = slaves_asked sc other

  abbrev S : Setup
  S = setup_from sc

  abbrev L : Slave
  L = slave_of sc s (slave_numbered sc other s)

  heard : AreHeard S
  heard = (setups_heard sc ok).heard

  pub record WasDecided (now : List LogEntry) (who : Asking) (tail : List Asking) (d : Decision) : Type 0 where
    pub x : DecidedRequest
    pub es : List DecidedRequest
    pub decided_is : decided_exchanges W s now ≡ x ∷ es
    pub request_is : x.request ≡ note_of s who
    pub answer_is : IsAnswerAs s x.answer d.answer
    pub size : length es ≡ length tail
    pub served_is : served sc other s now ≡ x ∷ es
    pub first : FirstAt S.address L now who tail
    pub taken : TakenIn sc other s (first.part ++ first.entry ∷ []) first.base x es

  pub was_decided : (now : List LogEntry) → Behaves W X now → IsRun S now → (who : Asking) (tail : List Asking) (d : Decision) → asks S.address L now ≡ who ∷ tail → who.decision ≡ Some d → WasDecided now who tail d
  was_decided now b run who tail d a e = by (decided_exchanges W s now) refl (subst D a (told sc other ok s it now run))
    where
      D : List Asking → Type 0
      D os = AreDecisions s os (decided_exchanges W s now)

      all : AreDecided tail
      all = let R : List Asking → Type 0 = λ x. AreOneByOne x in ((subst R a (one_by_one S heard now run (s - 1) L (numbered_at sc other ok s it))).1).0

      by : (ds : List DecidedRequest) → decided_exchanges W s now ≡ ds → AreDecisions s (who ∷ tail) (decided_exchanges W s now) → WasDecided now who tail d
      by ds y k = two ds y (subst E e (subst F y k))
        where
          F : List DecidedRequest → Type 0
          F zs = AreDecisions s (who ∷ tail) zs

          E : Option Decision → Type 0
          E o = IsDecision s who o (AreDecisions s tail) ds

          two : (ds : List DecidedRequest) → decided_exchanges W s now ≡ ds → IsDecision s who (Some d) (AreDecisions s tail) ds → WasDecided now who tail d
          two [] y k = absurd k
          two (x ∷ es) y k = record { x = x; es = es; decided_is = y; request_is = k.0; answer_is = (k.1).0; size = size; served_is = serves; first = first; taken = taking }
            where
              size : length es ≡ length tail
              size = decided_length s tail es all (k.1).1

              here : ServesAt sc other ok s it now
              here = serves_at sc other ok s it now b run

              serves : served sc other s now ≡ x ∷ es
              serves = exact here.behind
                where
                  exact : Behind (decided_exchanges W s now) (served sc other s now) → served sc other s now ≡ x ∷ es
                  exact (inl q) = sym q ∙ y
                  exact (inr (w, q)) =
                      let n = ap length q in
                      let m = ap length y in
                      let l = ap length a in
                      let few = here.few in
                      absurd (omega (arith, n, m, l, few, size))

              first : FirstAt S.address L now who tail
              first =
                  let P : List Asking → Type 0 = λ os. AreAt S.address L now os in
                  (at_one S.address L now [] who tail (subst P a (are_at S.address L now))).first

              run_base : IsRun S first.base
              run_base = let P : List LogEntry → Type 0 = λ w. IsRun S w in (run_front S first.part (first.entry ∷ first.base) (subst P first.is run)).1

              behaves_base : Behaves W X first.base
              behaves_base = let P : List LogEntry → Type 0 = λ w. Behaves W X w in earlier W X (are_slaves sc other ok) first.entry first.base (drop_later W X (are_slaves sc other ok) first.part (first.entry ∷ first.base) (subst P first.is b))

              few : length (served sc other s first.base) ≤ length es
              few =
                  let a = (serves_at sc other ok s it first.base behaves_base run_base).few in
                  let l = ap length first.before in
                  omega (arith, a, l, size)

              taking : TakenIn sc other s (first.part ++ first.entry ∷ []) first.base x es
              taking =
                  let w : (first.part ++ first.entry ∷ []) ++ first.base ≡ now = append_assoc first.part (first.entry ∷ []) first.base ∙ sym first.is in
                  taken_in sc other s (first.part ++ first.entry ∷ []) first.base x es (ap (served sc other s) w ∙ serves) few
