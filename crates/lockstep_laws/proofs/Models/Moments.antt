-- From the whole log to each moment of it.
use Rattle.std.proofs.Common.{◌≡◌, ℕ, ◌-◌, Bool, true, false, if◌then◌else◌, ◌⊎◌, inl, inr, Option, Some, None, List, [], ◌∷◌, ◌++◌, length, refl, sym, ap, ◌∙◌, subst, arith, ℤ}
use Rattle.std.specs.Prelude.{◌==◌}
use Rattle.std.specs.List.{cons_option}
use Rattle.std.proofs.lemmas.Bool.{eq-eqb, eqb-true, eqb-false, cond-true}
use Rattle.std.proofs.lemmas.Bool.Decides.{nat_tests}
use Rattle.dcp_types.specs.declared.addresses.Address.{Address}
use Rattle.lockstep.specs.declared.references.RefFault.{RefFault}
use Rattle.lockstep.specs.Lockstep.{IsReference}
use Rattle.log_spec.specs.Messages.{Note, Role, Request, Value, value_of_id}
use Rattle.log_spec.specs.Channel.{by_ordinal, at_ordinal, IsRegularChannel}
use Rattle.dcp_ends.specs.declared.entries.LogEntry.{LogEntry}
use Rattle.dcp_ends.specs.declared.entries.LogEntry.TheVariants.{Sent}
use Rattle.log_spec.specs.Log.{Parties, IsSlaveOf, same, role_heard, Values, in_channel, sends_in, values_sent}
use Rattle.log_spec.specs.Moves.{Move, Tells, Other, sent_move}
use Rattle.log_spec.proofs.Channel.{tops, IsTop}
use Rattle.log_spec.proofs.Moves.{same_self}
use Rattle.lockstep_laws.specs.Slaves.{tail, IsFirstPost, SlaveMay}
use Rattle.lockstep_laws.specs.Cast.{ConversingSlaves}
use Rattle.lockstep_laws.specs.Runs.{AreSlaves, Behaves}
use Rattle.lockstep_laws.proofs.Conversation.{earlier, drop_later}
use Rattle.lockstep_laws.specs.Models.Machines.{Machines, AreMachines, values_owed}
use Rattle.lockstep_laws.specs.Models.Laws.{ModelsStand, IsOwnNote, DataCarryRows, StepsOnRows}
use Rattle.lockstep_laws.proofs.Models.Values.{in_order, sends_values, first_value, value_part}
use Rattle.lockstep_laws.proofs.Models.Kept.{kept_as_sent}
use Rattle.lockstep_laws.proofs.Models.Lockstep.{lock}
use Rattle.lockstep_laws.proofs.Models.SetUp.{stepped_tuned}

newest_at : (n : Note) (rs : List Note) → (top : IsTop n rs) → at_ordinal rs (length rs - 1) ≡ Some n
newest_at n rs top = grind (arith, nat_tests)

module _ (w : Parties) (x : ConversingSlaves) (m : Machines) (ok : AreSlaves w x) (are : AreMachines w x m) (rows : List (List ℤ)) (fault : Option RefFault) (ref : IsReference m.sc rows fault) where
  pub models : (later log : List LogEntry) → Behaves w x (later ++ log) → ModelsStand w x m rows log
  models later log b s is =
      let h = drop_later w x ok later log b in
      record { stands = ((lock w x ok m are rows fault ref log h).rows').stands s is; set_up = stepped_tuned w x ok m are log h s is; at_first = (are.holds s is).fresh log (in_order w x ok m are log h s is) }

  tells_value : (t : ℕ) (from to : Address) (bytes : List ℕ) (i : ℕ) (n : Note) → from ≡ w.slave t → sent_move w t from to bytes (Value i n) ≡ Tells to bytes
  tells_value t from to bytes i n e = by (same from (w.slave t)) (ap (λ f. same f (w.slave t)) e ∙ same_self (w.slave t))
    where
      by : (c : Bool) → c ≡ true → (if c then Tells to bytes else Other) ≡ Tells to bytes
      by c f = cond-true c (Tells to bytes) Other f

  -- who sends data
  sender : (log : List LogEntry) (from to : Address) (bytes : List ℕ) (id : ℕ) (n : Note) → Behaves w x (Sent from to bytes ∷ log) → role_heard w bytes ≡ Value id n → (t : ℕ) × IsSlaveOf w t × (from ≡ w.slave t) × (m.from id ≡ t)
  sender log from to bytes id n b e = by b.hosted.0
    where
      clash : (receiver : ℕ) (k : Note) → Value id n ≡ Request receiver k → ⊥
      clash receiver k q = cc

      never : (owed : List Note) → cons_option (if id == id then Some n else None) owed ≡ [] → ⊥
      never owed h = let z = cond-true (id == id) (Some n) None (eq-eqb id id refl) in let P : Option Note → Type 0 = λ o. cons_option o owed ≡ [] in absurd (full owed (subst P z h))
        where
          full : (owed : List Note) → n ∷ owed ≡ [] → ⊥
          full owed h = cc

      own : (t : ℕ) → IsSlaveOf w t → from ≡ w.slave t → (c : Bool) → (m.from id == t) ≡ c → m.from id ≡ t
      own t it q true z = eqb-true (m.from id) t z
      own t it q false z =
          let before = earlier w x ok (Sent from to bytes) log b in
          let may = (b.slaves t it).0 in
          let P : Move → Type 0 = λ mv. SlaveMay mv (x.desk t log).owed in
          let first : IsFirstPost (x.desk t log).owed to bytes = subst P (ap (sent_move w t from to bytes) e ∙ tells_value t from to bytes id n q) may in
          let none = (are.holds t it).own log (in_order w x ok m are log before t it) id (eqb-false (m.from id) t z) in
          let full = sym (first_value w id to bytes (x.desk t log).owed first ∙ ap (λ k. cons_option (value_of_id id k) (values_owed w id (tail (x.desk t log).owed))) e) ∙ none in
          absurd (never (values_owed w id (tail (x.desk t log).owed)) full)

      by : (from ≡ w.master) ⊎ ((t : ℕ) × IsSlaveOf w t × (from ≡ w.slave t)) → (t : ℕ) × IsSlaveOf w t × (from ≡ w.slave t) × (m.from id ≡ t)
      by (inl h) = let r = b.asks.0 h in absurd (clash r.0 r.1 (sym e ∙ r.2))
      by (inr t) = (t.0, t.1, t.2, own t.0 t.1 t.2 (m.from id == t.0) refl)

  data_at : (log : List LogEntry) (from to : Address) (bytes : List ℕ) (id : ℕ) (n : Note) → Behaves w x (Sent from to bytes ∷ log) → role_heard w bytes ≡ Value id n → IsOwnNote w x m rows from id (length (values_sent w id (Sent from to bytes ∷ log)) - 1) n
  data_at log from to bytes id n b e =
      let t = sender log from to bytes id n b e in
      let S : ℕ → Type 0 = IsSlaveOf w in
      let own = subst S (sym t.3) t.1 in
      let all = Sent from to bytes ∷ log in
      let v = sends_values w x ok m are id own all b in
      let value : value_of_id id (role_heard w bytes) ≡ Some n = ap (value_of_id id) e ∙ cond-true (id == id) (Some n) None (eq-eqb id id refl) in
      let same : sends_in w (Values id) all ≡ n ∷ sends_in w (Values id) log = ap (λ k. cons_option k (sends_in w (Values id) log)) (part (role_heard w bytes) ∙ value) in
      let top = tops n (sends_in w (Values id) log) (subst IsRegularChannel same v.regular) in
      let at = newest_at n (by_ordinal (n ∷ sends_in w (Values id) log)) top in
      let P : List Note → Type 0 = λ ns. at_ordinal (by_ordinal ns) (length (by_ordinal ns) - 1) ≡ Some n in
      record { slave = t.0; is = t.1; sends = t.2; owns = t.3; right = (lock w x ok m are rows fault ref all b).sent id own (length (values_sent w id all) - 1) n (subst P (sym same) at) }
    where
      part : (k : Role) → in_channel w (Values id) from to k ≡ value_of_id id k
      part k = value_part w id from to k

  pub data_carry : (later log : List LogEntry) → Behaves w x (later ++ log) → DataCarryRows w x m rows log
  data_carry later log b more earlier' from to bytes id n is e =
      let h = drop_later w x ok later log b in
      let P : List LogEntry → Type 0 = Behaves w x in
      data_at earlier' from to bytes id n (drop_later w x ok more (Sent from to bytes ∷ earlier') (subst P is h)) e

  pub steps_on : (later log : List LogEntry) → Behaves w x (later ++ log) → StepsOnRows w x m rows log
  steps_on later log b more earlier' e is s it st id f =
      let h = drop_later w x ok later log b in
      let P : List LogEntry → Type 0 = Behaves w x in
      let now = drop_later w x ok more (e ∷ earlier') (subst P is h) in
      let before = earlier w x ok e earlier' now in
      let k = (are.holds s it).fed e earlier' (in_order w x ok m are (e ∷ earlier') now s it) st id f in
      let own = are.feeds s id f in
      let sent' = kept_as_sent w x ok m are earlier' before s it id own k.0 k.1 in
      record { kept = k.0; is = k.1; ordinal = k.2; sent = sent'; right = (lock w x ok m are rows fault ref earlier' before).sent id own (k.0).ordinal (k.0).note sent' }
