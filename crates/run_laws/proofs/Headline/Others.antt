-- A run is one whatever stands for slaves that are not there: no entry of its log is at an address of theirs alone.
use Rattle.std.proofs.Common.{◌≡◌, ℕ, zero, suc, ◌+◌, ◌-◌, ◌<◌, ◌≤◌, Bool, true, false, if◌then◌else◌, ◌⊎◌, inl, inr, Option, Some, None, List, [], ◌∷◌, ◌++◌, reverse, length, refl, sym, ap, ◌∙◌, subst, arith, append_assoc}
use Rattle.std.specs.Prelude.{◌&&◌, slice_index_or}
use Rattle.std.specs.List.{cons_option}
use Rattle.std.proofs.lemmas.Bool.{cases_lt}
use Rattle.std.proofs.lemmas.List.{reverse-append}
use Rattle.dcp_types.specs.declared.addresses.Address.{Address}
use Rattle.dcp_ends.specs.declared.entries.LogEntry.{LogEntry}
use Rattle.dcp_ends.specs.declared.entries.LogEntry.TheVariants.{Sent, Got, Idle, Turn}
use Rattle.pdu_layout.specs.Reading.{message_in}
use Rattle.slave_desc.specs.declared.descriptions.SlaveDesc.{SlaveDesc}
use Rattle.scenario.specs.declared.scenarios.Scenario.{Scenario}
use Rattle.scenario.specs.Sound.{IsScenario}
use Rattle.rounds.specs.Told.{Follows}
use Rattle.slave_spec.specs.Slaves.{slave_rules_from}
use Rattle.log_spec.specs.Messages.{Note, Role, Request, Answer, Value, Else}
use Rattle.log_spec.specs.Channel.{number_changes}
use Rattle.log_spec.specs.Log.{Parties, IsSlaveOf, IsEnd, IsAtEnd, AreAtEnds, same, role_heard, Channel, Requests, Answers, Values, in_channel, sends_in}
use Rattle.log_spec.specs.Oldest.{MayStand, Honest}
use Rattle.log_spec.proofs.Moves.{same_is}
use Rattle.lockstep_laws.specs.Models.Scenarios.{slave_numbered}
use Rattle.lockstep_laws.proofs.Models.Scenarios.{has_parties}
use Rattle.run_laws.specs.Laws.{parties, RestsWhenDone}
use Rattle.run_laws.specs.Headline.Others.{OthersMakeNoDifference}

-- behind its end a list gives what stands for its elements
past : (xs : List SlaveDesc) (i : ℕ) (d : SlaveDesc) → length xs ≤ i → slice_index_or xs i d ≡ d
past [] i d le = refl
past (x ∷ xs) zero d le = absurd (omega (arith, le))
past (x ∷ xs) (suc i) d le = past xs i d (omega (arith, le))

-- ---- an entry of a log is at an end of it
end_in : (w : Parties) (xs : List LogEntry) (e : LogEntry) (ys : List LogEntry) → AreAtEnds w (xs ++ e ∷ ys) → IsAtEnd w e
end_in w [] e ys h = h.0
end_in w (x ∷ xs) e ys h = end_in w xs e ys h.1

turned : (before after : List LogEntry) (e : LogEntry) → reverse (before ++ e ∷ after) ≡ reverse after ++ e ∷ reverse before
turned before after e = reverse-append before (e ∷ after) ∙ ap (λ (l : List LogEntry). l ++ reverse before) (reverse-append (e ∷ []) after) ∙ append_assoc (reverse after) (e ∷ []) (reverse before)

at_end : (w : Parties) (log before after : List LogEntry) (e : LogEntry) → AreAtEnds w (reverse log) → log ≡ before ++ e ∷ after → IsAtEnd w e
at_end w log before after e h is =
    let P : List LogEntry → Type 0 = λ l. AreAtEnds w l in
    end_in w (reverse after) e (reverse before) (subst P (ap reverse is ∙ turned before after e) h)

-- ---- both tests passed
second : (a b : Bool) (m n : Note) → (if a && b then Some m else None) ≡ Some n → b ≡ true
second true true m n q = refl
second true false m n q = absurd cc
second false b m n q = absurd cc

first : (a : Bool) (m n : Note) → (if a then Some m else None) ≡ Some n → a ≡ true
first true m n q = refl
first false m n q = absurd cc

module _ (sc : Scenario) (other another : SlaveDesc) (ok : IsScenario sc) (away : another.address ≡ sc.master → ⊥) where
  abbrev w : Parties
  w = parties sc other

  abbrev v : Parties
  v = parties sc another

  -- ---- slaves that are there are the same
  same_slave : (s : ℕ) → IsSlaveOf w s → slave_numbered sc other s ≡ slave_numbered sc another s
  same_slave s is = one (slave_numbered sc other s) (slave_numbered sc another s) ((has_parties sc other ok message_in).desc s is) ((has_parties sc another ok message_in).desc s is)
    where
      one : (a b : SlaveDesc) {o : Option SlaveDesc} → o ≡ Some a → o ≡ Some b → a ≡ b
      one a b p q = let z : Some a ≡ Some b = sym p ∙ q in cc

  not_master : (s : ℕ) → v.slave s ≡ sc.master → ⊥
  not_master s e = by (cases_lt (s - 1) (length sc.slaves))
    where
      by : (s - 1 < length sc.slaves) ⊎ (length sc.slaves ≤ s - 1) → ⊥
      by (inl lt) = ok.master_apart (s - 1) another lt (sym e)
      by (inr ge) = away (ap (λ (d : SlaveDesc). d.address) (sym (past sc.slaves (s - 1) another ge)) ∙ e)

  end_same : (a : Address) → IsEnd w a → IsEnd v a
  end_same a (inl e) = inl e
  end_same a (inr z) = inr (z.0, z.1, z.2 ∙ ap (λ (d : SlaveDesc). d.address) (same_slave z.0 z.1))

  ends_same : (log : List LogEntry) → AreAtEnds w log → AreAtEnds v log
  ends_same [] h = tt
  ends_same (Sent from to bytes ∷ log) h = (end_same from h.0, ends_same log h.1)
  ends_same (Got at from bytes ∷ log) h = (end_same at h.0, ends_same log h.1)
  ends_same (Idle at ∷ log) h = (end_same at h.0, ends_same log h.1)
  ends_same (Turn at ∷ log) h = (end_same at h.0, ends_same log h.1)

  -- ---- an end at the address of a slave is a slave that is there
  there : (s : ℕ) (a : Address) → IsEnd w a → a ≡ v.slave s → (t : ℕ) × (v.slave s ≡ w.slave t)
  there s a (inl e) is = absurd (not_master s (sym is ∙ e))
  there s a (inr z) is = (z.0, sym is ∙ z.2)

  -- ---- a channel of the one is a channel of the other
  abbrev Alike : Channel → Channel → Type 0
  Alike d c = (from to : Address) (k : Role) → in_channel v d from to k ≡ in_channel w c from to k

  requests_alike : (s t : ℕ) → v.slave s ≡ w.slave t → Alike (Requests s) (Requests t)
  requests_alike s t e from to (Request receiver n) = ap (λ (a : Address). if same from sc.master && same to a then Some n else None) e
  requests_alike s t e from to (Answer sender n) = refl
  requests_alike s t e from to (Value id n) = refl
  requests_alike s t e from to Else = refl

  answers_alike : (s t : ℕ) → v.slave s ≡ w.slave t → Alike (Answers s) (Answers t)
  answers_alike s t e from to (Request receiver n) = refl
  answers_alike s t e from to (Answer sender n) = ap (λ (a : Address). if same from a then Some n else None) e
  answers_alike s t e from to (Value id n) = refl
  answers_alike s t e from to Else = refl

  values_alike : (id : ℕ) → Alike (Values id) (Values id)
  values_alike id from to (Request receiver n) = refl
  values_alike id from to (Answer sender n) = refl
  values_alike id from to (Value i n) = refl
  values_alike id from to Else = refl

  to_slave : (s : ℕ) (from to : Address) (k : Role) (n : Note) → in_channel v (Requests s) from to k ≡ Some n → to ≡ v.slave s
  to_slave s from to (Request receiver m) n q = same_is to (v.slave s) (second (same from sc.master) (same to (v.slave s)) m n q)
  to_slave s from to (Answer sender m) n q = absurd cc
  to_slave s from to (Value id m) n q = absurd cc
  to_slave s from to Else n q = absurd cc

  from_slave : (s : ℕ) (from to : Address) (k : Role) (n : Note) → in_channel v (Answers s) from to k ≡ Some n → from ≡ v.slave s
  from_slave s from to (Request receiver m) n q = absurd cc
  from_slave s from to (Answer sender m) n q = same_is from (v.slave s) (first (same from (v.slave s)) m n q)
  from_slave s from to (Value id m) n q = absurd cc
  from_slave s from to Else n q = absurd cc

  found : (d : Channel) (from to : Address) (k : Role) (n : Note) → IsEnd w from → IsEnd w to → in_channel v d from to k ≡ Some n → (c : Channel) × Alike d c
  found (Requests s) from to k n f t q = let z = there s to t (to_slave s from to k n q) in (Requests z.0, requests_alike s z.0 z.1)
  found (Answers s) from to k n f t q = let z = there s from f (from_slave s from to k n q) in (Answers z.0, answers_alike s z.0 z.1)
  found (Values id) from to k n f t q = (Values id, values_alike id)

  sends_same : (d c : Channel) → Alike d c → (log : List LogEntry) → sends_in v d log ≡ sends_in w c log
  sends_same d c alike [] = refl
  sends_same d c alike (Sent from to bytes ∷ log) =
      ap (λ (o : Option Note). cons_option o (sends_in v d log)) (alike from to (role_heard w bytes)) ∙ ap (λ (ns : List Note). cons_option (in_channel w c from to (role_heard w bytes)) ns) (sends_same d c alike log)
  sends_same d c alike (Got at from bytes ∷ log) = sends_same d c alike log
  sends_same d c alike (Idle at ∷ log) = sends_same d c alike log
  sends_same d c alike (Turn at ∷ log) = sends_same d c alike log

  young_too : (d c : Channel) → Alike d c → (log front : List LogEntry) → number_changes (sends_in w c log) ≤ number_changes (sends_in w c front) + 32767 → number_changes (sends_in v d log) ≤ number_changes (sends_in v d front) + 32767
  young_too d c alike log front le =
      let a = ap number_changes (sends_same d c alike log) in
      let b = ap number_changes (sends_same d c alike front) in
      omega (arith, a, b, le)

  -- ---- the network is as honest
  honest : (log : List LogEntry) → AreAtEnds w (reverse log) → Honest w log → Honest v log
  honest log ends h before after e is = by e is (h before after e is)
    where
      by : (e : LogEntry) → log ≡ before ++ e ∷ after → MayStand w e before → MayStand v e before
      by (Sent from to bytes) is m = tt
      by (Got at from bytes) is m = record { earlier = m.earlier; later = m.later; is = m.is; young = young }
        where
          sender : IsEnd w from
          sender = at_end w log m.earlier (m.later ++ Got at from bytes ∷ after) (Sent from at bytes) ends (is ∙ ap (λ (l : List LogEntry). l ++ Got at from bytes ∷ after) m.is ∙ append_assoc m.earlier (Sent from at bytes ∷ m.later) (Got at from bytes ∷ after))

          young : (d : Channel) (n : Note) → in_channel v d from at (role_heard v bytes) ≡ Some n → number_changes (sends_in v d before) ≤ number_changes (sends_in v d (m.earlier ++ Sent from at bytes ∷ [])) + 32767
          young d n q =
              let f = found d from at (role_heard v bytes) n sender (at_end w log before after (Got at from bytes) ends is) q in
              young_too d f.0 f.1 before (m.earlier ++ Sent from at bytes ∷ []) (m.young f.0 n (sym (f.1 from at (role_heard w bytes)) ∙ q))
      by (Idle at) is m = tt
      by (Turn at) is m = tt

pub no_difference : OthersMakeNoDifference
no_difference sc other another ok away log r = record {
  honest = honest sc other another ok away log r.hosted r.honest;
  hosted = ends_same sc other another ok away (reverse log) r.hosted;
  master = r.master;
  slaves = λ s is. (let P : SlaveDesc → Type 0 = λ d. Follows (slave_rules_from (record { desc = d; micro = sc.micro })) log in subst P (same_slave sc other another ok away s is) (r.slaves s is));
  rests = λ s is. (let P : SlaveDesc → Type 0 = λ d. RestsWhenDone d.address log in subst P (same_slave sc other another ok away s is) (r.rests s is));
}
