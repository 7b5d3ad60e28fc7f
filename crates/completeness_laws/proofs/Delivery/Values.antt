-- Where a data message was sent, by whom and to whom, and what it says.
use Rattle.std.proofs.Common.{◌≡◌, ℕ, ◌+◌, ◌-◌, ◌%◌, ◌<◌, ◌≤◌, Bool, true, false, if◌then◌else◌, ◌⊎◌, inl, inr, Option, Some, None, List, [], ◌∷◌, ◌++◌, length, refl, ap, ◌∙◌, subst, arith, ℤ}
use Rattle.std.specs.Prelude.{◌==◌}
use Rattle.std.specs.List.{cons_option}
use Rattle.std.proofs.lemmas.Bool.{cases_lt, eqb-true}
use Rattle.dcp_types.specs.declared.addresses.Address.{Address}
use Rattle.dcp_ends.specs.declared.entries.LogEntry.{LogEntry}
use Rattle.dcp_ends.specs.declared.entries.LogEntry.TheVariants.{Sent, Got, Idle, Turn}
use Rattle.pdu_layout.specs.Fields.{FieldValue}
use Rattle.pdu_layout.specs.Fields.FieldValue.{Number, Signed, Bytes}
use Rattle.pdu_layout.specs.Message.{Message}
use Rattle.pdu_layout.specs.Reading.{message_in}
use Rattle.slave_desc.specs.declared.descriptions.SlaveDesc.{SlaveDesc}
use Rattle.scenario.specs.declared.scenarios.Scenario.{Scenario}
use Rattle.scenario.specs.Sound.{IsScenario}
use Rattle.lockstep.proofs.Existence.{reference_exists}
use Rattle.master_spec.specs.declared.links.DataLink.{DataLink}
use Rattle.log_spec.specs.Messages.{Note, Role, Request, Answer, Value, Else, Class, Asking, Answering, Carrying, Noting, class_of, role_by, role_read}
use Rattle.log_spec.specs.Channel.{repeats_number, by_ordinal}
use Rattle.log_spec.specs.Log.{Parties, IsSlaveOf, same, role_heard, Values, in_channel, sent_in, sends_in, values_sent}
use Rattle.log_spec.specs.Moves.{Move, Tells, Other, sent_move, move}
use Rattle.log_spec.proofs.Moves.{same_self}
use Rattle.lockstep_laws.specs.Slaves.{IsFirstPost, SlaveMay}
use Rattle.lockstep_laws.specs.Cast.{ConversingSlaves}
use Rattle.lockstep_laws.specs.Runs.{Behaves}
use Rattle.lockstep_laws.proofs.Conversation.{earlier}
use Rattle.lockstep_laws.proofs.Asking.{asked_in_order}
use Rattle.lockstep_laws.specs.Models.Machines.{Machines, carried}
use Rattle.lockstep_laws.proofs.Models.Moments.{data_carry}
use Rattle.lockstep_laws.specs.Models.Scenarios.{slave_numbered}
use Rattle.master_spec.specs.News.{Brings, news_of, news_in}
use Rattle.slave_spec.specs.Payloads.{data_message}
use Rattle.slave_spec.specs.Heard as spec
use Rattle.slave_laws.specs.Talk.Desks.{Agree}
use Rattle.slave_laws.specs.Data.Made.{machines, setup_at}
use Rattle.slave_laws.proofs.Data.Keeping.{data_heard}
use Rattle.slave_laws.proofs.Data.Held.{reads}
use Rattle.slave_laws.proofs.Talk.Sending.{sends_back}
use Rattle.slave_laws.specs.Data.Whole.{slaves_asked}
use Rattle.slave_laws.proofs.Data.Stepping.{asked_may}
use Rattle.slave_laws.proofs.Wiring.Rows.{slaves_are}
use Rattle.run_laws.specs.Laws.{parties}
use Rattle.run_laws.proofs.Headline.Behaving.{are_slaves}
use Rattle.completeness_laws.proofs.Delivery.Addresses.{IsLinkAt}
use Rattle.completeness_laws.proofs.Delivery.Destined.{first_goes}

-- ---- the message of a data message
value_of : (c : Class) (vs : List FieldValue) (m : Message) (id : ℕ) (n : Note) → role_by c vs m ≡ Value id n → m ≡ n.message
value_of Carrying (Number a ∷ Number b ∷ vs) m id n h = let e : record { number = a; message = m } ≡ n = cc in ap (λ (z : Note). z.message) e
value_of Carrying (Number a ∷ Signed b ∷ vs) m id n h = absurd cc
value_of Carrying (Number a ∷ Bytes b ∷ vs) m id n h = absurd cc
value_of Carrying (Number a ∷ []) m id n h = absurd cc
value_of Carrying (Signed a ∷ vs) m id n h = absurd cc
value_of Carrying (Bytes a ∷ vs) m id n h = absurd cc
value_of Carrying [] m id n h = absurd cc
value_of Asking (Number a ∷ Number b ∷ vs) m id n h = absurd cc
value_of Asking (Number a ∷ Signed b ∷ vs) m id n h = absurd cc
value_of Asking (Number a ∷ Bytes b ∷ vs) m id n h = absurd cc
value_of Asking (Number a ∷ []) m id n h = absurd cc
value_of Asking (Signed a ∷ vs) m id n h = absurd cc
value_of Asking (Bytes a ∷ vs) m id n h = absurd cc
value_of Asking [] m id n h = absurd cc
value_of Answering (Number a ∷ Number b ∷ vs) m id n h = absurd cc
value_of Answering (Number a ∷ Signed b ∷ vs) m id n h = absurd cc
value_of Answering (Number a ∷ Bytes b ∷ vs) m id n h = absurd cc
value_of Answering (Number a ∷ []) m id n h = absurd cc
value_of Answering (Signed a ∷ vs) m id n h = absurd cc
value_of Answering (Bytes a ∷ vs) m id n h = absurd cc
value_of Answering [] m id n h = absurd cc
value_of Noting (v ∷ vs) m id n h = absurd cc
value_of Noting [] m id n h = absurd cc

value_message : (o : Option Message) (id : ℕ) (n : Note) → role_read o ≡ Value id n → o ≡ Some n.message
value_message None id n h = absurd cc
value_message (Some m) id n h = ap (λ (z : Message). Some z) (value_of (class_of m.code) m.values m id n h)

-- it is a data message in the words of the master and of the slaves
pub record Says (bytes : List ℕ) (id : ℕ) (n : Note) : Type 0 where
  pub payload : List ℕ
  pub message_is : n.message ≡ data_message n.number id payload
  pub heard : spec.heard bytes ≡ spec.Brings n.number id payload
  pub news : news_of bytes ≡ Brings n.number id payload

module _ (sc : Scenario) (other : SlaveDesc) where
  news_is : (bytes : List ℕ) (m : Message) (number id : ℕ) (payload : List ℕ) → message_in bytes ≡ Some m → m ≡ data_message number id payload → news_of bytes ≡ Brings number id payload
  unfolding news_of
  news_is bytes m number id payload e f = ap news_in (e ∙ ap (λ (z : Message). Some z) f)

  pub says : (s : ℕ) (bytes : List ℕ) (id : ℕ) (n : Note) → role_heard (parties sc other) bytes ≡ Value id n → Says bytes id n
  says s bytes id n read = by (spec.heard bytes) refl (subst (λ (k : Role). Agree k (spec.heard bytes)) read ((sends_back (setup_at sc other s) (parties sc other) s (reads sc other)).agree bytes))
    where
      by : (h : spec.Heard) → spec.heard bytes ≡ h → Agree (Value id n) h → Says bytes id n
      by (spec.Asks r) e a = absurd a
      by spec.Nothing e a = absurd a
      by (spec.Brings number i payload) e a =
          let d = data_heard bytes id number i payload n read e in
          record {
            payload = payload;
            message_is = d.message;
            heard = e ∙ ap (λ (x : ℕ). spec.Brings x i payload) d.numbered ∙ ap (λ (x : ℕ). spec.Brings n.number x payload) d.named;
            news = news_is bytes n.message n.number id payload (value_message (message_in bytes) id n read) d.message;
          }

-- ---- the sending of an ordinal
module _ (sc : Scenario) (other : SlaveDesc) (ok : IsScenario sc) where
  abbrev W : Parties
  W = parties sc other

  abbrev X : ConversingSlaves
  X = slaves_asked sc other

  abbrev Ms : Machines
  Ms = machines sc other

  pub record SentValue (log : List LogEntry) (id o : ℕ) : Type 0 where
    pub later : List LogEntry
    pub sofar : List LogEntry
    pub from : Address
    pub to : Address
    pub bytes : List ℕ
    pub note : Note
    pub split : log ≡ later ++ Sent from to bytes ∷ sofar
    pub read : role_heard W bytes ≡ Value id note
    pub ordinal : length (values_sent W id (Sent from to bytes ∷ sofar)) ≡ o + 1
    pub first : length (values_sent W id sofar) ≤ o

  in_value : (id : ℕ) (from to : Address) (k : Role) (n : Note) → in_channel W (Values id) from to k ≡ Some n → k ≡ Value id n
  in_value id from to (Value i m) n e = by (i == id) refl e
    where
      by : (b : Bool) → (i == id) ≡ b → (if b then Some m else None) ≡ Some n → Value i m ≡ Value id n
      by true f z = let y : m ≡ n = cc in ap (λ (x : ℕ). Value x m) (eqb-true i id f) ∙ ap (λ (x : Note). Value id x) y
      by false f z = absurd cc
  in_value id from to (Request receiver m) n e = absurd cc
  in_value id from to (Answer sender m) n e = absurd cc
  in_value id from to Else n e = absurd cc

  value_later : (e : LogEntry) (log : List LogEntry) (id o : ℕ) → SentValue log id o → SentValue (e ∷ log) id o
  value_later e log id o v = record { later = e ∷ v.later; sofar = v.sofar; from = v.from; to = v.to; bytes = v.bytes; note = v.note; split = ap (λ (z : List LogEntry). e ∷ z) v.split; read = v.read; ordinal = v.ordinal; first = v.first }

  value_entry : (e : LogEntry) (log : List LogEntry) (id o : ℕ) (n : Note) → sent_in W (Values id) e ≡ Some n → length (values_sent W id (e ∷ log)) ≡ o + 1 → length (values_sent W id log) ≤ o → SentValue (e ∷ log) id o
  value_entry (Sent from to bytes) log id o n e h le = record { later = []; sofar = log; from = from; to = to; bytes = bytes; note = n; split = refl; read = in_value id from to (role_heard W bytes) n e; ordinal = h; first = le }
  value_entry (Got at' from bytes) log id o n e h le = absurd cc
  value_entry (Idle at') log id o n e h le = absurd cc
  value_entry (Turn at') log id o n e h le = absurd cc

  pub sent_value : (log : List LogEntry) (id o : ℕ) → o < length (values_sent W id log) → SentValue log id o
  sent_value [] id o h = absurd (omega (arith, h))
  sent_value (e ∷ log) id o h = by (cases_lt o (length (values_sent W id log))) (λ z. sent_value log id o z)
    where
      ns : List Note
      ns = sends_in W (Values id) log

      all : (k : Option Note) → sent_in W (Values id) e ≡ k → length (values_sent W id (e ∷ log)) ≡ length (by_ordinal (cons_option k ns))
      all k q = ap (λ (x : Option Note). length (by_ordinal (cons_option x ns))) q

      new : length (values_sent W id log) ≤ o → (k : Option Note) → sent_in W (Values id) e ≡ k → SentValue (e ∷ log) id o
      new le None q = let z = all None q in absurd (omega (arith, z, h, le))
      new le (Some n) q = two (repeats_number n ns) refl
        where
          two : (b : Bool) → repeats_number n ns ≡ b → SentValue (e ∷ log) id o
          two true f = let z = all (Some n) q ∙ ap (λ (b : Bool). length (if b then by_ordinal ns else n ∷ by_ordinal ns)) f in absurd (omega (arith, z, h, le))
          two false f = let z = all (Some n) q ∙ ap (λ (b : Bool). length (if b then by_ordinal ns else n ∷ by_ordinal ns)) f in value_entry e log id o n q (omega (arith, z, h, le)) le

      by : (o < length (values_sent W id log)) ⊎ (length (values_sent W id log) ≤ o) → (o < length (values_sent W id log) → SentValue log id o) → SentValue (e ∷ log) id o
      by (inl lt) f = value_later e log id o (f lt)
      by (inr ge) f = new ge (sent_in W (Values id) e) refl

  -- ---- whose it is, and where it goes
  pub record OwnSending (from to : Address) (bytes : List ℕ) (id o : ℕ) (n : Note) (log : List LogEntry) : Type 0 where
    pub slave : ℕ
    pub is : IsSlaveOf W slave
    pub from_is : from ≡ W.slave slave
    pub owns : Ms.from id ≡ slave
    pub goes : IsLinkAt sc id (λ (l : DataLink). l.to) to
    pub number : n.number ≡ o % 65536
    pub values : List ℤ
    pub carries : carried n ≡ Ms.payload id values

  tells_value : (t : ℕ) (from to : Address) (bytes : List ℕ) (id : ℕ) (n : Note) → from ≡ W.slave t → role_heard W bytes ≡ Value id n → move W t (Sent from to bytes) ≡ Tells to bytes
  tells_value t from to bytes id n e read =
      ap (λ (k : Role). sent_move W t from to bytes k) read ∙ ap (λ (b : Bool). if b then Tells to bytes else Other) (ap (λ (a : Address). same a (W.slave t)) e ∙ same_self (W.slave t))

  pub own_sending : (log : List LogEntry) (from to : Address) (bytes : List ℕ) (id o : ℕ) (n : Note) → Behaves W X (Sent from to bytes ∷ log) → role_heard W bytes ≡ Value id n → length (values_sent W id (Sent from to bytes ∷ log)) ≡ o + 1 → OwnSending from to bytes id o n log
  own_sending log from to bytes id o n b read ord =
      let sl = are_slaves sc other ok in
      let ref = reference_exists sc in
      let d = data_carry W X Ms sl (slaves_are sc other ok) ref.0 ref.1 ref.2 [] (Sent from to bytes ∷ log) b [] log from to bytes id n refl read in
      let less : length (values_sent W id (Sent from to bytes ∷ log)) - 1 ≡ o = omega (arith, ord) in
      let P : Move → Type 0 = λ mv. SlaveMay mv (X.desk d.slave log).owed in
      let first : IsFirstPost (X.desk d.slave log).owed to bytes = subst P (tells_value d.slave from to bytes id n d.sends read) (b.slaves d.slave d.is).0 in
      let before = earlier W X sl (Sent from to bytes) log b in
      let asked = asked_may sc d.slave (slave_numbered sc other d.slave) (X.desk d.slave log).served (asked_in_order W X sl d.slave d.is log before) in
      record {
        slave = d.slave;
        is = d.is;
        from_is = d.sends;
        owns = d.owns;
        goes = first_goes sc other ok d.slave d.is log asked to bytes first id n read;
        number = (d.right).number ∙ ap (λ (k : ℕ). k % 65536) less;
        values = (d.right).values;
        carries = (d.right).carries;
      }
