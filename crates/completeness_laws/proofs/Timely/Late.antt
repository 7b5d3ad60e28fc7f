-- Data that was sent and had not come, by the places of the log.
use Rattle.std.proofs.Common.{◌≡◌, ℕ, suc, ◌+◌, ◌-◌, ◌<◌, ◌≤◌, ◌⊎◌, inl, inr, if◌then◌else◌, Some, List, [], ◌∷◌, ◌++◌, length, reverse, refl, sym, ap, ◌∙◌, subst, arith, length-append}
use Rattle.std.specs.Prelude.{count_by}
use Rattle.std.proofs.lemmas.Bool.{cases_lt}
use Rattle.std.proofs.lemmas.List.Sums.{sum_by-cons, sum_by-append}
use Rattle.dcp_types.specs.declared.addresses.Address.{Address}
use Rattle.dcp_ends.specs.declared.entries.LogEntry.{LogEntry}
use Rattle.dcp_ends.specs.declared.entries.LogEntry.TheVariants.{Sent, Got}
use Rattle.slave_desc.specs.declared.descriptions.SlaveDesc.{SlaveDesc}
use Rattle.scenario.specs.declared.scenarios.Scenario.{Scenario}
use Rattle.master_spec.specs.declared.causes.Cause.TheVariants as causes
use Rattle.master_spec.specs.declared.setups.Slave.{Slave}
use Rattle.master_spec.specs.declared.setups.Setup.{Setup}
use Rattle.master_spec.specs.Setup.{setup_from}
use Rattle.master_spec.specs.News.{news_of, Brings}
use Rattle.master_spec.specs.Requests.{is_turn_of, turns_before, turns_between}
use Rattle.master_spec.specs.Exchanged.{entry_at}
use Rattle.master_spec.specs.Shown.{Shown}
use Rattle.master_log_laws.proofs.Index.Dates.{before_now, entry_later, entry_now}
use Rattle.run_laws.specs.Laws.{parties}
use Rattle.completeness_laws.specs.Inputs.{InputsWereSent}
use Rattle.completeness_laws.specs.Unheard.{NeverComes}
use Rattle.completeness_laws.specs.Unshown.{AreOutputsUnshown}
use Rattle.completeness_laws.proofs.Delivery.Entries.{entry_there}
use Rattle.completeness_laws.proofs.Delivery.Values.{says}
use Rattle.completeness_laws.proofs.Timely.Prompt.{turns_later}
use Rattle.completeness_laws.proofs.Timely.Reasons.{DataWasLate, InputsWereLate}

-- ---- entries at places
entry_below : (part log : List LogEntry) (i : ℕ) → i < length log → entry_at (part ++ log) i ≡ entry_at log i
entry_below [] log i h = refl
entry_below (e ∷ part) log i h = let n = length-append part log in entry_later e (part ++ log) i (omega (arith, h, n)) ∙ entry_below part log i h

record IsWithin (part : List LogEntry) (x : LogEntry) : Type 0 where
  pub after : List LogEntry
  pub before : List LogEntry
  pub is : part ≡ after ++ x ∷ before

-- what stands at a place behind a log is in the part behind it
found_within : (part log : List LogEntry) (x : LogEntry) (j : ℕ) → length log ≤ j → j < length (part ++ log) → entry_at (part ++ log) j ≡ Some x → IsWithin part x
found_within [] log x j low high h = absurd (omega (arith, low, high))
found_within (e ∷ part) log x j low high h = by (cases_lt j (length (part ++ log))) (λ l g. found_within part log x j low l g)
  where
    by : (j < length (part ++ log)) ⊎ (length (part ++ log) ≤ j) → (j < length (part ++ log) → entry_at (part ++ log) j ≡ Some x → IsWithin part x) → IsWithin (e ∷ part) x
    by (inl l) f = let w = f l (sym (entry_later e (part ++ log) j l) ∙ h) in record { after = e ∷ w.after; before = w.before; is = ap (λ (z : List LogEntry). e ∷ z) w.is }
    by (inr l) f =
        let same : length (part ++ log) ≡ j = omega (arith, l, high) in
        let z : Some e ≡ Some x = sym (entry_now e (part ++ log)) ∙ ap (λ (i : ℕ). entry_at (e ∷ (part ++ log)) i) same ∙ h in
        let y : e ≡ x = cc in
        record { after = []; before = part; is = ap (λ (w : LogEntry). w ∷ part) y }

-- ---- data that did not come in a part of the log in which the master had so many turns
was_late : (setup : Setup) (later since earlier : List LogEntry) (from to : Address) (bytes : List ℕ) (number id : ℕ) (payload : List ℕ) → news_of bytes ≡ Brings number id payload → NeverComes to from bytes since
    → setup.limits.data_turns ≤ count_by (is_turn_of setup.address) since → DataWasLate setup (later ++ (since ++ Sent from to bytes ∷ earlier))
was_late setup later since earlier from to bytes number id payload read none long =
    record {
      sent = length earlier;
      from = from;
      to = to;
      bytes = bytes;
      number = number;
      id = id;
      payload = payload;
      is = entry_below later (since ++ Sent from to bytes ∷ earlier) (length earlier) low ∙ entry_below since (Sent from to bytes ∷ earlier) (length earlier) (omega arith) ∙ entry_now (Sent from to bytes) earlier;
      read = read;
      until = length (since ++ Sent from to bytes ∷ earlier);
      missing = λ j l h g. (let w = found_within since (Sent from to bytes ∷ earlier) (Got to from bytes) j (behind j l) h (sym (entry_below later (since ++ Sent from to bytes ∷ earlier) j h) ∙ g) in none w.after w.before w.is);
      long = as_long;
    }
  where
    low : length earlier < length (since ++ Sent from to bytes ∷ earlier)
    low = let n = length-append since (Sent from to bytes ∷ earlier) in omega (arith, n)

    behind : (j : ℕ) → length earlier < j → length (Sent from to bytes ∷ earlier) ≤ j
    behind j l = omega (arith, l)

    sums : (limit turns all both before until at : ℕ) → limit ≤ turns → until ≡ all → all ≡ turns + both → both ≡ 0 + before → at ≡ before → limit ≤ until - at
    sums limit turns all both before until at h1 h2 h3 h4 h5 = omega (arith, h1, h2, h3, h4, h5)

    as_long : setup.limits.data_turns ≤ turns_between setup.address (later ++ (since ++ Sent from to bytes ∷ earlier)) (length earlier) (length (since ++ Sent from to bytes ∷ earlier))
    as_long =
        let until = turns_later setup.address later (since ++ Sent from to bytes ∷ earlier) (length (since ++ Sent from to bytes ∷ earlier)) (omega arith) ∙ before_now setup.address (since ++ Sent from to bytes ∷ earlier) in
        let at = turns_later setup.address later (since ++ Sent from to bytes ∷ earlier) (length earlier) (lower (length earlier) (length (since ++ Sent from to bytes ∷ earlier)) low) ∙ turns_later setup.address since (Sent from to bytes ∷ earlier) (length earlier) (omega arith)
        ∙ turns_later setup.address (Sent from to bytes ∷ []) earlier (length earlier) (omega arith) ∙ before_now setup.address earlier in
        let parts = sum_by-append (λ (z : LogEntry). if is_turn_of setup.address z then 1 else 0) since (Sent from to bytes ∷ earlier) in
        let one = sum_by-cons (λ (z : LogEntry). if is_turn_of setup.address z then 1 else 0) (Sent from to bytes) earlier in
        sums setup.limits.data_turns (count_by (is_turn_of setup.address) since) (count_by (is_turn_of setup.address) (since ++ Sent from to bytes ∷ earlier)) (count_by (is_turn_of setup.address) (Sent from to bytes ∷ earlier)) (count_by (is_turn_of setup.address) earlier)
        (turns_before setup.address (later ++ (since ++ Sent from to bytes ∷ earlier)) (length (since ++ Sent from to bytes ∷ earlier))) (turns_before setup.address (later ++ (since ++ Sent from to bytes ∷ earlier)) (length earlier))
        long until parts one at
      where
        lower : (i j : ℕ) → i < j → i ≤ j
        lower i j h = omega (arith, h)

-- outputs that were given up
pub outputs_late : (sc : Scenario) (other : SlaveDesc) (log later sofar : List LogEntry) (e : LogEntry) → reverse log ≡ later ++ e ∷ sofar → (s k : ℕ) → AreOutputsUnshown sc other s k (e ∷ sofar) → DataWasLate (setup_from sc) (reverse log)
outputs_late sc other log later sofar e split s k u =
    let v = u.unshown in
    let n = says sc other s v.bytes s v.note v.read in
    let w = parties sc other in
    let P : List LogEntry → Type 0 = λ l. DataWasLate (setup_from sc) l in
    let whole : reverse log ≡ later ++ (v.since ++ Sent (w.slave s) w.master v.bytes ∷ v.earlier) = split ∙ ap (λ (l : List LogEntry). later ++ l) v.is in
    subst P (sym whole) (was_late (setup_from sc) later v.since v.earlier (w.slave s) w.master v.bytes (v.note).number s n.payload n.news v.not_come u.waited)

at_most : (i j : ℕ) → i < j → i ≤ j
at_most i j h = omega (arith, h)

-- inputs for which a step was given up
pub inputs_late : (sc : Scenario) (other : SlaveDesc) (log : List LogEntry) (slave : Slave) (p q k : ℕ) (s : Shown (setup_from sc) log slave p (causes.InputsMissing q k)) → InputsWereSent sc other log slave p q k s → InputsWereLate (setup_from sc) log slave p q k s
inputs_late sc other log slave p q k s u =
    let v = u.sent in
    let w = parties sc other in
    let n = says sc other slave.id v.bytes (u.link).id v.note v.read in
    record {
      sent = length v.earlier;
      from = w.slave (u.link).from;
      to = w.slave slave.id;
      bytes = v.bytes;
      number = (v.note).number;
      id = (u.link).id;
      payload = n.payload;
      is = ap (λ (l : List LogEntry). entry_at l (length v.earlier)) v.is ∙ entry_there v.later v.earlier (Sent (w.slave (u.link).from) (w.slave slave.id) v.bytes);
      read = n.news;
      before = λ a place code here is d. at_most (length v.earlier) place (u.before (suc 0) a place code here is d);
      came = u.refused;
      asked = u.asked;
      missing = u.missing;
    }
