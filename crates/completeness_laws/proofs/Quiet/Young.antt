-- Where each round brings all that was sent before it, no request is sent again.
use Rattle.std.proofs.Common.{◌≡◌, ℕ, zero, suc, ◌+◌, ◌<◌, ◌≤◌, Bool, true, false, if◌then◌else◌, Some, List, [], ◌∷◌, ◌++◌, length, reverse, refl, sym, ap, ◌∙◌, subst, arith, append_assoc, append-nil}
use Rattle.std.specs.Prelude.{◌==◌, ◌&&◌}
use Rattle.std.proofs.lemmas.Bool.{and_parts}
use Rattle.std.proofs.lemmas.List.{reverse-append}
use Rattle.dcp_types.specs.declared.addresses.Address.{Address}
use Rattle.dcp_ends.specs.Logs.{same_address}
use Rattle.dcp_ends.specs.declared.entries.LogEntry.{LogEntry}
use Rattle.dcp_ends.specs.declared.entries.LogEntry.TheVariants.{Sent, Got, Idle, Turn}
use Rattle.pdu_layout.specs.Reading.{message_in}
use Rattle.rounds.specs.Rounds.{Rounds, IsRound}
use Rattle.slave_desc.specs.declared.descriptions.SlaveDesc.{SlaveDesc}
use Rattle.scenario.specs.declared.scenarios.Scenario.{Scenario}
use Rattle.scenario.specs.Sound.{IsScenario}
use Rattle.log_spec.specs.Log.{Parties, IsSlaveOf}
use Rattle.lockstep_laws.specs.Models.Scenarios.{slave_numbered}
use Rattle.master_spec.specs.declared.setups.Slave.{Slave}
use Rattle.master_spec.specs.declared.setups.Setup.{Setup}
use Rattle.master_spec.specs.News.{News, Answers, Hints, Brings, Nothing, news_of}
use Rattle.master_spec.specs.Requests.{Asking, asking_in, asks, decided_by, turns_before, with_asking, with_news}
use Rattle.master_spec.specs.Rules.{master_rules}
use Rattle.master_spec.specs.Setup.{setup_from, slave_of}
use Rattle.master_log_laws.specs.Index.Runs.{IsRun}
use Rattle.run_laws.specs.Laws.{parties, rules_of_slaves, IsRunInRounds}
use Rattle.completeness_laws.proofs.Delivery.Turning.{turns_of, turns_append}
use Rattle.completeness_laws.specs.Quiet.{NoneAgain}
use Rattle.completeness_laws.specs.Rounded.{IsPatient, BringAll, NoneAskedAgain}
use Rattle.completeness_laws.proofs.Quiet.Fronts.{address_is}
use Rattle.completeness_laws.proofs.Quiet.Again.{IsYoungHead, newly_asked}
use Rattle.completeness_laws.proofs.Quiet.Soon.{CameSoon, came_soon, comes_soon, turns_back, round_one, away}
use Rattle.completeness_laws.proofs.Quiet.Open.{runs_at, young}

-- ---- one more entry
news_none : (id place : ℕ) (w : News) (bs : List Asking) → NoneAgain bs → NoneAgain (with_news id place w bs)
news_none id place (Answers number sender answer) [] h = tt
news_none id place (Answers number sender answer) (b ∷ bs) h = by ((sender == id) && (number == b.number))
  where
    by : (t : Bool) → NoneAgain (if t then record { code = b.code; number = b.number; more = b.more; first = b.first; repeats = b.repeats; decision = decided_by b.decision (record { place = place; answer = answer }) } ∷ bs else b ∷ bs)
    by true = h
    by false = h
news_none id place (Hints sender) bs h = h
news_none id place (Brings number data_id payload) bs h = h
news_none id place Nothing bs h = h

-- where the entry sends no request again, none was sent again so far
entry_none : (master : Address) (slave : Slave) (e : LogEntry) (log : List LogEntry) → ((bytes : List ℕ) → e ≡ Sent master slave.address bytes → NoneAgain (asks master slave (e ∷ log))) → NoneAgain (asks master slave log) → NoneAgain (asks master slave (e ∷ log))
entry_none master slave (Sent from to bytes) log f h = by (same_address from master && same_address to slave.address) refl
  where
    sends : same_address from master ≡ true → same_address to slave.address ≡ true → Sent from to bytes ≡ Sent master slave.address bytes
    sends x y = ap (λ (a : Address). Sent a to bytes) (address_is from master x) ∙ ap (λ (a : Address). Sent master a bytes) (address_is to slave.address y)

    by : (t : Bool) → (same_address from master && same_address to slave.address) ≡ t → NoneAgain (asks master slave (Sent from to bytes ∷ log))
    by true e = let p = and_parts (same_address from master) (same_address to slave.address) e in f bytes (sends p.0 p.1)
    by false e =
        let P : Bool → Type 0 = λ t. NoneAgain (if t then with_asking (asking_in (length log) (message_in bytes)) (asks master slave log) else asks master slave log) in
        subst P (sym e) h
entry_none master slave (Got at from bytes) log f h = by (same_address at master && same_address from slave.address)
  where
    by : (t : Bool) → NoneAgain (if t then with_news slave.id (length log) (news_of bytes) (asks master slave log) else asks master slave log)
    by true = news_none slave.id (length log) (news_of bytes) (asks master slave log) h
    by false = h
entry_none master slave (Idle at) log f h = h
entry_none master slave (Turn at) log f h = h

module _ (sc : Scenario) (other : SlaveDesc) (ok : IsScenario sc) (patient : IsPatient sc.limits) (whole : List LogEntry) (r : IsRunInRounds sc other whole) (s : ℕ) (it : IsSlaveOf (parties sc other) s) where
  abbrev W : Parties
  W = parties sc other

  abbrev S : Setup
  S = setup_from sc

  abbrev L : Slave
  L = slave_of sc s (slave_numbered sc other s)

  -- where no request was sent again, the newest was sent once, and is decided or not open for long
  pub young_head : (later log : List LogEntry) → reverse whole ≡ later ++ log → (new old : List LogEntry) → log ≡ new ++ old → turns_of W.master new ≤ 1 → CameSoon W.master old → NoneAgain (asks S.address L log) → IsYoungHead S.address S.limits.turn_limit log (asks S.address L log)
  young_head later log split new old parts one soon none = by (asks S.address L log) refl none
    where
      by : (bs : List Asking) → asks S.address L log ≡ bs → NoneAgain bs → IsYoungHead S.address S.limits.turn_limit log bs
      by [] e h = tt
      by (b ∷ bs) e h = λ free. (h.0, less (turns_before S.address log (length log)) (turns_before S.address log b.first) S.limits.turn_limit (young sc other ok whole r s it later log split new old parts one soon b bs e free) patient.answers)
        where
          less : (x y k : ℕ) → x < y + 4 → 4 ≤ k → x < y + k
          less x y k h g = omega (arith, h, g)

  -- the limit is at least one turn
  one : 1 ≤ S.limits.turn_limit
  one = let h = patient.answers in omega (arith, h)

  -- what the master sends the slave is no request that was sent before
  sent_on : (later : List LogEntry) (e : LogEntry) (log : List LogEntry) → reverse whole ≡ later ++ e ∷ log → IsYoungHead S.address S.limits.turn_limit log (asks S.address L log) → NoneAgain (asks S.address L log)
      → (bytes : List ℕ) → e ≡ Sent W.master (W.slave s) bytes → NoneAgain (asks S.address L (e ∷ log))
  sent_on later e log split head none bytes z =
      let P : LogEntry → Type 0 = λ x. IsRun S (x ∷ log) in
      let Q : LogEntry → Type 0 = λ x. NoneAgain (asks S.address L (x ∷ log)) in
      let R : List Asking → Type 0 = λ x. NoneAgain x in
      let k = newly_asked sc other ok s it bytes log (subst P z (runs_at sc other ok whole r s it later (e ∷ log) split)) head one in
      subst Q (sym z) (subst R (sym k.is) (refl, none))

  -- ---- a part with one turn of the master
  in_part : (old : List LogEntry) → CameSoon W.master old → NoneAgain (asks S.address L old) → (new later : List LogEntry) → reverse whole ≡ later ++ (new ++ old) → turns_of W.master new ≤ 1 → NoneAgain (asks S.address L (new ++ old))
  in_part old soon start [] later split few = start
  in_part old soon start (e ∷ new) later split few =
      let before : reverse whole ≡ (later ++ e ∷ []) ++ (new ++ old) = split ∙ sym (append_assoc later (e ∷ []) (new ++ old)) in
      let fewer : turns_of W.master new ≤ 1 = (let k = turns_append W.master (e ∷ []) new in omega (arith, k, few)) in
      let none = in_part old soon start new (later ++ e ∷ []) before fewer in
      let head = young_head (later ++ e ∷ []) (new ++ old) before new old refl fewer soon none in
      entry_none S.address L e (new ++ old) (λ bytes z. sent_on later e (new ++ old) split head none bytes z) none

  -- in a whole round
  in_round : (n : ℕ) (before part : List LogEntry) (rounds : Rounds (Some (master_rules sc)) (rules_of_slaves sc) n before) → IsRound (Some (master_rules sc)) (rules_of_slaves sc) before part → BringAll sc n before rounds → NoneAgain (asks S.address L (reverse before))
      → (after : List LogEntry) → whole ≡ (before ++ part) ++ after → NoneAgain (asks S.address L (reverse (before ++ part)))
  in_round n before part rounds round bring none after split =
      let a = turns_back W.master part in
      let c = round_one W.master (master_rules sc) (rules_of_slaves sc) refl (away sc other ok) before part round in
      let e : reverse whole ≡ reverse after ++ (reverse part ++ reverse before) = ap reverse split ∙ reverse-append (before ++ part) after ∙ ap (λ (z : List LogEntry). reverse after ++ z) (reverse-append before part) in
      let P : List LogEntry → Type 0 = λ z. NoneAgain (asks S.address L z) in
      subst P (sym (reverse-append before part)) (in_part (reverse before) (came_soon W.master before (comes_soon sc other ok n before rounds bring)) none (reverse part) (reverse after) e (omega (arith, a, c)))

  -- ---- all rounds that bring what they have to
  pub none_in : (n : ℕ) (log : List LogEntry) (rounds : Rounds (Some (master_rules sc)) (rules_of_slaves sc) n log) → BringAll sc n log rounds → (after : List LogEntry) → whole ≡ log ++ after → NoneAgain (asks S.address L (reverse log))
  none_in zero log none bring after split = let P : List LogEntry → Type 0 = λ z. NoneAgain (asks S.address L (reverse z)) in subst P (sym none) tt
  none_in (suc n) log (before, part, is, rounds, round) bring after split =
      let P : List LogEntry → Type 0 = λ z. NoneAgain (asks S.address L (reverse z)) in
      let e : whole ≡ (before ++ part) ++ after = split ∙ ap (λ (z : List LogEntry). z ++ after) is in
      subst P (sym is) (in_round n before part rounds round bring.0 (none_in n before rounds bring.0 (part ++ after) (e ∙ append_assoc before part after)) after e)

  -- and one round more
  pub none_after : (n : ℕ) (before part : List LogEntry) (rounds : Rounds (Some (master_rules sc)) (rules_of_slaves sc) n before) → IsRound (Some (master_rules sc)) (rules_of_slaves sc) before part → BringAll sc n before rounds → whole ≡ before ++ part → NoneAgain (asks S.address L (reverse (before ++ part)))
  none_after n before part rounds round bring split = in_round n before part rounds round bring (none_in n before rounds bring part split) [] (split ∙ sym (append-nil (before ++ part)))

-- which is what is wanted
pub none_asked_again : NoneAskedAgain
none_asked_again sc other ok patient n before part rounds round bring run s it = none_after sc other ok patient (before ++ part) run s it n before part rounds round bring refl
