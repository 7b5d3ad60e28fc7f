-- What a slave keeps of data, entry by entry.
use Rattle.std.proofs.Common.{◌≡◌, ℕ, ◌+◌, ◌*◌, ◌/◌, ◌%◌, ◌==◌, ◌&&◌, not, Bool, true, false, if◌then◌else◌, ◌⊎◌, inl, inr, List, [], ◌∷◌, length, Option, Some, None, refl, sym, ap, ◌∙◌, subst, arith}
use Rattle.std.specs.Prelude.{option_map, sum_by}
use Rattle.std.proofs.lemmas.Bool.{eqb-true, eq-eqb}
use Rattle.std.proofs.lemmas.Bool.Decides.{nat_tests}
use Rattle.dcp_types.specs.declared.addresses.Address.{Address}
use Rattle.dcp_types.specs.declared.states.State.{State}
use Rattle.dcp_types.specs.declared.error_codes.ErrorCode.{ErrorCode}
use Rattle.dcp_types.specs.Values.{width}
use Rattle.dcp_ends.specs.declared.entries.LogEntry.{LogEntry}
use Rattle.dcp_ends.specs.declared.entries.LogEntry.TheVariants.{Sent, Got, Idle, Turn}
use Rattle.pdu_layout.specs.declared.fields.FieldKind.{FieldKind}
use Rattle.pdu_layout.specs.declared.fields.FieldKind.TheVariants.{U16, Rest}
use Rattle.pdu_layout.specs.declared.messages.Stc.{Stc}
use Rattle.pdu_layout.specs.declared.messages.Stc.TheVariants as stc
use Rattle.pdu_layout.specs.declared.messages.Cfg.{Cfg}
use Rattle.pdu_layout.specs.declared.messages.Cfg.TheVariants as cfg
use Rattle.pdu_layout.specs.declared.messages.Inf.TheVariants as inf
use Rattle.pdu_layout.specs.Fields.{FieldValue, FitEach}
use Rattle.pdu_layout.specs.Fields.FieldValue.{Number, Signed, Bytes}
use Rattle.pdu_layout.specs.Table.{kinds_for}
use Rattle.pdu_layout.specs.Message.{Message, Spells}
use Rattle.pdu_layout.specs.Reading.{message_in}
use Rattle.pdu_codec.proofs.Told.{read_as_spelled}
use Rattle.scenario.specs.declared.scenarios.Scenario.{Scenario}
use Rattle.scenario.specs.Sound.{IsScenario}
use Rattle.slave_desc.specs.declared.descriptions.SlaveDesc.{SlaveDesc}
use Rattle.log_spec.specs.Messages.{Note, Role, Request, Answer, Value, Else, Class, Asking, Answering, Carrying, Noting, class_of, role_by, role_of, role_read}
use Rattle.log_spec.specs.Log as logs
use Rattle.log_spec.specs.Log.{Parties, same, role_heard}
use Rattle.log_spec.specs.Moves.{Move, Asks, Comes, Tells, Hears, Brings, Turns, Rests, Other, got_move, move}
use Rattle.lockstep_laws.specs.Asked.{AskedAsPlanned}
use Rattle.lockstep_laws.specs.Models.Machines.{KeptNote, KeepsIt}
use Rattle.slave_states.specs.Transitions.{next_on}
use Rattle.slave_spec.specs.Changes.{input, has_id, entry_interval, steps_in_run, ordinal, source}
use Rattle.slave_spec.specs.Payloads as wired
use Rattle.slave_spec.specs.Payloads.{WiringState, kept_under, is_address, input_types, is_here, is_wanted, brought, data_message}
use Rattle.slave_spec.specs.declared.words.SlaveSetup.{SlaveSetup}
use Rattle.slave_spec.specs.declared.words.Asked as ask
use Rattle.slave_spec.specs.declared.words.Asked.TheVariants.{Change, Setting, Question}
use Rattle.slave_spec.specs.declared.words.SlaveRequest as req
use Rattle.slave_spec.specs.declared.words.Session.{Session}
use Rattle.slave_spec.specs.declared.words.Session.TheVariants.{Before, During, After}
use Rattle.slave_spec.specs.declared.words.Fate.{Fate}
use Rattle.slave_spec.specs.declared.words.Fate.TheVariants.{Dropped, Refused, Repeated, Taken}
use Rattle.slave_spec.specs.Heard as spec
use Rattle.slave_spec.specs.Heard.{number_at, bytes_at, heard_in}
use Rattle.slave_spec.specs.Transport as transport
use Rattle.slave_spec.specs.Transport.{SlaveState}
use Rattle.slave_spec.specs.Plants.{Plant}
use Rattle.slave_spec.specs.Requests.{refusal, state_or, changed_to, set_to, accepted, answered_plant}
use Rattle.slave_spec.specs.Turns as turns
use Rattle.slave_spec.specs.Turns.{Act, Stay, Wait, Fault, Step, Pass, act, turned, is_listening, brings}
use Rattle.slave_spec.specs.Slaves.{machine}
use Rattle.slave_laws.specs.Talk.Desks.{Both, got, ticked, sent_next, next, at, Agree}
use Rattle.slave_laws.specs.Talk.Benches.{bench_at}
use Rattle.slave_laws.proofs.Talk.Sending.{sends_back}
use Rattle.slave_laws.specs.Wiring.Wired.{is_past, is_during}
use Rattle.slave_laws.proofs.Wiring.Counting.{inputs_go_on}
use Rattle.slave_laws.specs.Wiring.Links.{interval_of}
use Rattle.slave_laws.proofs.Wiring.Planned.{input_intervals}
use Rattle.slave_laws.specs.Data.Made.{setup_at, parties, slaves, kept_note, store_of, machines}
use Rattle.slave_laws.specs.Data.Holding.{KeepsOn, KeepsItsData}
use Rattle.slave_laws.proofs.Data.Held.{of_scenario, reads}

-- ---- a data message, as it is read
pub record IsData (id : ℕ) (n : Note) (number i : ℕ) (payload : List ℕ) : Type 0 where
  pub numbered : number ≡ n.number
  pub named : i ≡ id
  pub message : n.message ≡ data_message n.number id payload

carrying_code : (code : ℕ) → class_of code ≡ Carrying → code ≡ 240
carrying_code code h = grind (arith, nat_tests)

carrying_of : (c : Class) (vs : List FieldValue) (m : Message) (id : ℕ) (n : Note) → role_by c vs m ≡ Value id n → c ≡ Carrying
carrying_of Carrying vs m id n h = refl
carrying_of Asking (Number a ∷ Number b ∷ vs) m id n h = absurd cc
carrying_of Asking (Number a ∷ Signed b ∷ vs) m id n h = absurd cc
carrying_of Asking (Number a ∷ Bytes b ∷ vs) m id n h = absurd cc
carrying_of Asking (Number a ∷ []) m id n h = absurd cc
carrying_of Asking (Signed a ∷ vs) m id n h = absurd cc
carrying_of Asking (Bytes a ∷ vs) m id n h = absurd cc
carrying_of Asking [] m id n h = absurd cc
carrying_of Answering (Number a ∷ Number b ∷ vs) m id n h = absurd cc
carrying_of Answering (Number a ∷ Signed b ∷ vs) m id n h = absurd cc
carrying_of Answering (Number a ∷ Bytes b ∷ vs) m id n h = absurd cc
carrying_of Answering (Number a ∷ []) m id n h = absurd cc
carrying_of Answering (Signed a ∷ vs) m id n h = absurd cc
carrying_of Answering (Bytes a ∷ vs) m id n h = absurd cc
carrying_of Answering [] m id n h = absurd cc
carrying_of Noting (v ∷ vs) m id n h = absurd cc
carrying_of Noting [] m id n h = absurd cc

data_kinds : kinds_for 240 ≡ Some (U16 ∷ U16 ∷ Rest ∷ [])
data_kinds = refl

pub record Three (vs : List FieldValue) : Type 0 where
  pub first : ℕ
  pub second : ℕ
  pub third : List ℕ
  pub are : vs ≡ Number first ∷ Number second ∷ Bytes third ∷ []

three : (vs : List FieldValue) → FitEach (U16 ∷ U16 ∷ Rest ∷ []) 0 vs → Three vs
three (Number a ∷ Number b ∷ Bytes c ∷ []) f = record { first = a; second = b; third = c; are = refl }
three (Number a ∷ Number b ∷ Bytes c ∷ v ∷ vs) f = absurd ((f.1).1).1
three (Number a ∷ Number b ∷ Number c ∷ vs) f = absurd (omega (arith, ((f.1).1).0))
three (Number a ∷ Number b ∷ Signed c ∷ vs) f = absurd ((f.1).1).0
three (Number a ∷ Number b ∷ []) f = absurd (f.1).1
three (Number a ∷ Signed b ∷ vs) f = absurd (f.1).0
three (Number a ∷ Bytes b ∷ vs) f = absurd (f.1).0
three (Number a ∷ []) f = absurd f.1
three (Signed a ∷ vs) f = absurd f.0
three (Bytes a ∷ vs) f = absurd f.0
three [] f = absurd f

data_by : (m : Message) (code a b : ℕ) (c : List ℕ) → code ≡ 240 → m ≡ record { code = code; values = Number a ∷ Number b ∷ Bytes c ∷ [] } → (id number i : ℕ) (payload : List ℕ) (n : Note) → role_of m ≡ Value id n → heard_in m.code m.values ≡ spec.Brings number i payload → IsData id n number i payload
data_by m code a b c e f id number i payload n r h =
    let is : m ≡ data_message a b c = f ∙ ap (λ k. record { code = k; values = Number a ∷ Number b ∷ Bytes c ∷ [] }) e in
    let P : Message → Type 0 = λ z. role_of z ≡ Value id n → heard_in z.code z.values ≡ spec.Brings number i payload → IsData id n number i payload in
    subst P (sym is) (λ r' h'. made (data_message a b c) a b c refl id number i payload n r' h') r h
  where
    made : (z : Message) (a b : ℕ) (c : List ℕ) → z ≡ data_message a b c → (id number i : ℕ) (payload : List ℕ) (n : Note) → Value b (record { number = a; message = z }) ≡ Value id n → spec.Brings a b c ≡ spec.Brings number i payload → IsData id n number i payload
    made z a b c q id number i payload n r' h' =
        let x : b ≡ id = cc in
        let y : record { number = a; message = z } ≡ n = cc in
        let u : a ≡ number = cc in
        let v : b ≡ i = cc in
        let t : c ≡ payload = cc in
        let k : a ≡ n.number = ap (λ o. o.number) y in
        record { numbered = sym u ∙ k; named = sym v ∙ x; message = ap (λ o. o.message) (sym y) ∙ q ∙ ap (λ o. data_message o b c) k ∙ ap (λ o. data_message n.number o c) x ∙ ap (data_message n.number id) t }

data_in : (m : Message) (b : List ℕ) → Spells m b → (id number i : ℕ) (payload : List ℕ) (n : Note) → role_of m ≡ Value id n → heard_in m.code m.values ≡ spec.Brings number i payload → IsData id n number i payload
data_in m b s id number i payload n r h =
    let code = carrying_code m.code (carrying_of (class_of m.code) m.values m id n r) in
    let same : Some s.kinds ≡ Some (U16 ∷ U16 ∷ Rest ∷ []) = sym s.listed ∙ ap kinds_for code ∙ data_kinds in
    let kinds : s.kinds ≡ U16 ∷ U16 ∷ Rest ∷ [] = cc in
    let P : List FieldKind → Type 0 = λ ks. FitEach ks 0 m.values in
    let t = three m.values (subst P kinds s.fits) in
    data_by m m.code t.first t.second t.third code (ap (λ vs. record { code = m.code; values = vs }) t.are) id number i payload n r h

pub data_heard : (b : List ℕ) (id number i : ℕ) (payload : List ℕ) (n : Note) → role_read (message_in b) ≡ Value id n → spec.heard b ≡ spec.Brings number i payload → IsData id n number i payload
unfolding spec.heard
data_heard b id number i payload n r h = by (message_in b) refl r h
  where
    by : (o : Option Message) → message_in b ≡ o → role_read o ≡ Value id n → spec.heard_as o ≡ spec.Brings number i payload → IsData id n number i payload
    by None e r h = absurd cc
    by (Some m) e r h = data_in m b ((read_as_spelled m b).0 e) id number i payload n r h

-- ---- what is kept, from machine to machine
four : (a b c d e : Bool) → (a && b && c && d && e) ≡ true → (a ≡ true) × (d ≡ true)
four a b c d e h = grind arith

listening_past : (t : State) → is_listening t ≡ true → is_past t ≡ true
listening_past t h = grind (arith, nat_tests)

module _ (sc : Scenario) (other : SlaveDesc) (s : ℕ) where
  abbrev X : SlaveSetup
  X = setup_at sc other s

  abbrev W : Parties
  W = parties sc other

  abbrev kept : Plant → ℕ → Option KeptNote
  kept p id = (store_of sc other p).kept id

  -- the same, or nothing any more
  abbrev Less : Plant → Plant → Type 0
  Less p q = (id : ℕ) → (kept q id ≡ kept p id) ⊎ (kept q id ≡ None)

  set_less : (p : Plant) (body : Cfg) → Less p (set_to X p body)
  set_less p cfg.Clear id = inr refl
  set_less p (cfg.Parameter vr kind value) id = inl refl
  set_less p (cfg.Logging category level mode) id = inl refl
  set_less p (cfg.TimeRes a b) id = inl refl
  set_less p (cfg.Steps a b) id = inl refl
  set_less p (cfg.Input a b c d) id = inl refl
  set_less p (cfg.Output a b c) id = inl refl
  set_less p (cfg.Target a) id = inl refl
  set_less p (cfg.Source a) id = inl refl
  set_less p (cfg.Tunable a b c d) id = inl refl
  set_less p (cfg.ParamNet a b c d) id = inl refl
  set_less p (cfg.Scope a b) id = inl refl

  changed_less : (p : Plant) (request : Stc) (t : State) → Less p (changed_to X p request t)
  changed_less p stc.Reset t id = inr refl
  changed_less p (stc.Register a b c d) t id = inl refl
  changed_less p stc.Deregister t id = inl refl
  changed_less p stc.Prepare t id = inl refl
  changed_less p stc.Configure t id = inl refl
  changed_less p stc.Initialize t id = inl refl
  changed_less p (stc.Run x) t id = inl refl
  changed_less p (stc.DoStep n) t id = inl refl
  changed_less p stc.SendOutputs t id = inl refl
  changed_less p stc.Stop t id = inl refl

  accepted_less : (p : Plant) (asked : ask.Asked) → Less p (accepted X p asked)
  unfolding accepted
  accepted_less p (Change named request) = changed_less p request (state_or p.state (next_on p.state request named p.outputs_sent))
  accepted_less p (Setting body) = set_less p body
  accepted_less p (Question inf.State) = λ id. inl refl
  accepted_less p (Question inf.Error) = λ id. inl refl
  accepted_less p (Question (inf.Log category most)) = λ id. inl refl

  answered_less : (p : Plant) (asked : ask.Asked) (o : Option ErrorCode) → Less p (answered_plant X p asked o).after
  answered_less p asked (Some code) = λ id. inl refl
  answered_less p asked None = accepted_less p asked

  request_less : (x : SlaveState Plant) (from : Address) (r : req.SlaveRequest) (f : Fate) → Less x.inner (transport.after_request (machine X) x from r f).inner
  request_less x from r Dropped = λ id. inl refl
  request_less x from r (Refused code) = λ id. inl refl
  request_less x from r Repeated = λ id. inl refl
  request_less x from r Taken = answered_less x.inner r.asked (refusal X x.inner r.asked)

  turned_kept : (p : Plant) (a : Act) (id : ℕ) → kept (turned X p a).after id ≡ kept p id
  turned_kept p Stay id = refl
  turned_kept p (Wait left) id = refl
  turned_kept p (Fault code) id = refl
  turned_kept p (Step x) id = refl
  turned_kept p Pass id = refl

  tick_kept : (x : SlaveState Plant) (id : ℕ) → kept (transport.after_turn (machine X) x).inner id ≡ kept x.inner id
  tick_kept x id = by (transport.is_open x.session)
    where
      by : (b : Bool) → kept (if b then record x { quiet = transport.quieter x.quiet; inner = (turns.turns X (transport.quieter x.quiet) x.inner).after } else x).inner id ≡ kept x.inner id
      by true = turned_kept x.inner (act X (transport.quieter x.quiet) x.inner) id
      by false = refl

  module _ (ok : IsScenario sc) (is : logs.IsSlaveOf (parties sc other) s) where
    -- a data message that is wanted is kept for the slave's place
    abbrev Kept' : (log : List LogEntry) → (id : ℕ) → Note → Plant → Type 0
    Kept' log id n q = (i : ℕ) → (kept q i ≡ kept (at (machine X) W s log).slave.inner i) ⊎ ((i ≡ id) × KeepsIt (slaves sc other) (machines sc other) id n (bench_at X W s log) (store_of sc other q))

    abbrev machine_at : List LogEntry → Plant
    machine_at log = (at (machine X) W s log).slave.inner

    abbrev with_kept : Plant → wired.Kept → Plant
    with_kept p k = record p { wires = record p.wires { kept = k ∷ p.wires.kept } }

    abbrev kept_now : Plant → (id : ℕ) → List ℕ → wired.Kept
    kept_now p id payload = record { id = id; ordinal = steps_in_run input id p.wires.changes p.steps; payload = payload }

    wanted_kept : (log : List LogEntry) → AskedAsPlanned ((slaves sc other).may s) (at (machine X) W s log).desk.served → is_during (at (machine X) W s log).slave.session ≡ true → is_listening (machine_at log).state ≡ true
        → (from : Address) (number id : ℕ) (payload : List ℕ) (n : Note) → IsData id n number id payload → is_wanted X.desc (machine_at log).wires from number id payload (machine_at log).steps ≡ true
        → KeepsIt (slaves sc other) (machines sc other) id n (bench_at X W s log) (store_of sc other (with_kept (machine_at log) (kept_now (machine_at log) id payload)))
    wanted_kept log o e l from number id payload n given h =
        let p = (at (machine X) W s log).slave.inner in
        let of = of_scenario sc other ok s is in
        let w = four (has_id input id p.wires.changes) (is_address (source id p.wires.changes) from) (length payload == sum_by width (input_types X.desc id p.wires.changes)) (number == ordinal input id p.wires.changes p.steps % 65536) (not (is_here p.wires p.steps id)) h in
        let g = inputs_go_on sc s X W of (reads sc other) log o e (listening_past p.state l) id in
        let planned = sym g.known ∙ w.0 in
        let q = input_intervals sc s X.desc of id planned in
        let spaced : entry_interval input id p.wires.changes ≡ interval_of sc id = g.spaced ∙ q in
        let r = length p.earlier in
        let every = interval_of sc id in
        let here = r * (sc.steps / every + 1) + p.steps / every in
        let run : steps_in_run input id p.wires.changes p.steps ≡ p.steps / every = ap (λ i. p.steps / i) spaced in
        let whole : r * (sc.steps / every + 1) + steps_in_run input id p.wires.changes p.steps ≡ here = ap (λ j. r * (sc.steps / every + 1) + j) run in
        let counted : ordinal input id p.wires.changes p.steps ≡ here = g.numbered planned ∙ ap (λ i. r * (sc.steps / i + 1) + p.steps / i) q in
        let number' : n.number ≡ here % 65536 = sym given.numbered ∙ eqb-true number (ordinal input id p.wires.changes p.steps % 65536) w.1 ∙ ap (λ j. j % 65536) counted in
        let note : record { number = here % 65536; message = data_message (here % 65536) id payload } ≡ n
        = ap (λ j. record { number = j; message = data_message j id payload }) (sym number') ∙ ap (λ z. record { number = n.number; message = z }) (sym given.message) in
        let found : kept (record p { wires = record p.wires { kept = record { id = id; ordinal = steps_in_run input id p.wires.changes p.steps; payload = payload } ∷ p.wires.kept } }) id ≡ Some (kept_note sc other p id (record { id = id; ordinal = steps_in_run input id p.wires.changes p.steps; payload = payload }))
        = ap (λ b. option_map (kept_note sc other p id) (if b then Some (record { id = id; ordinal = steps_in_run input id p.wires.changes p.steps; payload = payload }) else kept_under id p.wires.kept)) (eq-eqb id id refl) in
        record {
          kept = found ∙ ap (λ j. Some (record { ordinal = j; note = record { number = j % 65536; message = data_message (j % 65536) id payload } })) whole ∙ ap (λ z. Some (record { ordinal = here; note = z })) note;
          number = number';
        }

    other_kept : (p : Plant) (k : wired.Kept) (i : ℕ) → (k.id == i) ≡ false → kept (record p { wires = record p.wires { kept = k ∷ p.wires.kept } }) i ≡ kept p i
    other_kept p k i e = ap (λ b. option_map (kept_note sc other p i) (if b then Some k else kept_under i p.wires.kept)) e

    brought_kept : (log : List LogEntry) → AskedAsPlanned ((slaves sc other).may s) (at (machine X) W s log).desk.served → is_during (at (machine X) W s log).slave.session ≡ true
        → (from : Address) (number id : ℕ) (payload : List ℕ) (n : Note) → IsData id n number id payload → Kept' log id n (brings X from number id payload (machine_at log))
    brought_kept log o e from number id payload n given i = by (is_listening p.state) refl
      where
        p : Plant
        p = (at (machine X) W s log).slave.inner

        k : wired.Kept
        k = record { id = id; ordinal = steps_in_run input id p.wires.changes p.steps; payload = payload }

        new : Plant
        new = record p { wires = record p.wires { kept = k ∷ p.wires.kept } }

        Goal : Plant → Type 0
        Goal q = (kept q i ≡ kept p i) ⊎ ((i ≡ id) × KeepsIt (slaves sc other) (machines sc other) id n (bench_at X W s log) (store_of sc other q))

        chosen : is_listening p.state ≡ true → is_wanted X.desc p.wires from number id payload p.steps ≡ true → (b : Bool) → (id == i) ≡ b → Goal new
        chosen l w true f = inr (sym (eqb-true id i f), wanted_kept log o e l from number id payload n given w)
        chosen l w false f = inl (other_kept p k i f)

        wanted : is_listening p.state ≡ true → (c : Bool) → is_wanted X.desc p.wires from number id payload p.steps ≡ c → Goal (record p { wires = if c then record p.wires { kept = k ∷ p.wires.kept } else p.wires })
        wanted l true f = chosen l f (id == i) refl
        wanted l false f = inl refl

        by : (b : Bool) → is_listening p.state ≡ b → Goal (if b then record p { wires = brought X.desc p.wires from number id payload p.steps } else p)
        by true f = wanted f (is_wanted X.desc p.wires from number id payload p.steps) refl
        by false f = inl refl

    open_during : (session : Session) → transport.is_open session ≡ true → is_during session ≡ true
    open_during Before h = absurd cc
    open_during (During master id) h = refl
    open_during (After master id) h = absurd cc

    data_kept : (log : List LogEntry) → AskedAsPlanned ((slaves sc other).may s) (at (machine X) W s log).desk.served → (from : Address) (number i : ℕ) (payload : List ℕ) (id : ℕ) (n : Note) → IsData id n number i payload → Kept' log id n (transport.after_heard (machine X) (at (machine X) W s log).slave from (spec.Brings number i payload)).inner
    data_kept log o from number i payload id n given = by (transport.is_open x.session) refl
      where
        x : SlaveState Plant
        x = (at (machine X) W s log).slave

        by : (b : Bool) → transport.is_open x.session ≡ b → Kept' log id n (if b then record x { inner = brings X from number i payload x.inner } else x).inner
        by true e =
            let P : ℕ → Type 0 = λ j. IsData id n number j payload → Kept' log id n (brings X from number j payload x.inner) in
            subst P (sym given.named) (λ d. brought_kept log o (open_during x.session e) from number id payload n d) given
        by false e = λ j. inl refl

    -- ---- one entry
    abbrev Keeps' : Move → (log : List LogEntry) → Plant → Type 0
    Keeps' mv log q = KeepsOn (slaves sc other) (machines sc other) mv (bench_at X W s log) (store_of sc other (at (machine X) W s log).slave.inner) (store_of sc other q)

    sent_keeps : (mv : Move) (log : List LogEntry) → Keeps' mv log (sent_next (machine X) W s mv (at (machine X) W s log)).slave.inner
    sent_keeps (Asks n) log = refl
    sent_keeps (Comes from receiver n) log = λ id. inl refl
    sent_keeps (Tells to bytes) log = refl
    sent_keeps (Hears n) log = refl
    sent_keeps (Brings from id n) log = λ i. inl refl
    sent_keeps Turns log = λ id. refl
    sent_keeps Rests log = λ id. refl
    sent_keeps Other log = refl

    heard_keeps : (at' from : Address) (bytes : List ℕ) (k : Role) (h : spec.Heard) → role_heard W bytes ≡ k → spec.heard bytes ≡ h → Agree k h → (log : List LogEntry) → AskedAsPlanned ((slaves sc other).may s) (at (machine X) W s log).desk.served
        → (b : Bool) → same at' (W.slave s) ≡ b → Keeps' (got_move W s at' from k) log (if b then transport.after_heard (machine X) (at (machine X) W s log).slave from h else (at (machine X) W s log).slave).inner
    heard_keeps at' from bytes (Request receiver n) (spec.Asks r) e f a log o true g = let P : Bool → Type 0 = λ b. Keeps' (if b then Comes from receiver n else Other) log (transport.after_heard (machine X) (at (machine X) W s log).slave from (spec.Asks r)).inner in subst P (sym g) (request_less (at (machine X) W s log).slave from r (transport.fate (machine X) (at (machine X) W s log).slave from r))
    heard_keeps at' from bytes (Request receiver n) h e f a log o false g = let P : Bool → Type 0 = λ b. Keeps' (if b then Comes from receiver n else Other) log (at (machine X) W s log).slave.inner in subst P (sym g) refl
    heard_keeps at' from bytes (Request receiver n) (spec.Brings number i payload) e f a log o true g = absurd a
    heard_keeps at' from bytes (Request receiver n) spec.Nothing e f a log o true g = absurd a
    heard_keeps at' from bytes (Value id n) (spec.Brings number i payload) e f a log o true g =
        let P : Bool → Type 0 = λ b. Keeps' (if b then Brings from id n else Other) log (transport.after_heard (machine X) (at (machine X) W s log).slave from (spec.Brings number i payload)).inner in
        subst P (sym g) (data_kept log o from number i payload id n (data_heard bytes id number i payload n e f))
    heard_keeps at' from bytes (Value id n) (spec.Asks r) e f a log o true g = absurd a
    heard_keeps at' from bytes (Value id n) spec.Nothing e f a log o true g = absurd a
    heard_keeps at' from bytes (Value id n) h e f a log o false g = let P : Bool → Type 0 = λ b. Keeps' (if b then Brings from id n else Other) log (at (machine X) W s log).slave.inner in subst P (sym g) refl
    heard_keeps at' from bytes (Answer sender n) spec.Nothing e f a log o true g = let P : Bool → Type 0 = λ b. Keeps' (if b then Rests else (if (same at' W.master && same from (W.slave s)) && (sender == s) then Hears n else Other)) log (at (machine X) W s log).slave.inner in subst P (sym g) (λ id. refl)
    heard_keeps at' from bytes (Answer sender n) (spec.Asks r) e f a log o true g = absurd a
    heard_keeps at' from bytes (Answer sender n) (spec.Brings number i payload) e f a log o true g = absurd a
    heard_keeps at' from bytes (Answer sender n) h e f a log o false g = let P : Bool → Type 0 = λ b. Keeps' (if b then Rests else (if (same at' W.master && same from (W.slave s)) && (sender == s) then Hears n else Other)) log (at (machine X) W s log).slave.inner in subst P (sym g) (by ((same at' W.master && same from (W.slave s)) && (sender == s)))
      where
        by : (c : Bool) → Keeps' (if c then Hears n else Other) log (at (machine X) W s log).slave.inner
        by true = refl
        by false = refl
    heard_keeps at' from bytes Else spec.Nothing e f a log o true g = let P : Bool → Type 0 = λ b. Keeps' (if b then Rests else Other) log (at (machine X) W s log).slave.inner in subst P (sym g) (λ id. refl)
    heard_keeps at' from bytes Else (spec.Asks r) e f a log o true g = absurd a
    heard_keeps at' from bytes Else (spec.Brings number i payload) e f a log o true g = absurd a
    heard_keeps at' from bytes Else h e f a log o false g = let P : Bool → Type 0 = λ b. Keeps' (if b then Rests else Other) log (at (machine X) W s log).slave.inner in subst P (sym g) refl

    chosen_inner : (b : Bool) (y x : Both Plant) → (if b then y else x).slave.inner ≡ (if b then y.slave else x.slave).inner
    chosen_inner true y x = refl
    chosen_inner false y x = refl

    keeps_at : (e : LogEntry) (log : List LogEntry) → AskedAsPlanned ((slaves sc other).may s) (at (machine X) W s log).desk.served → Keeps' (move W s e) log (next (machine X) W s e (at (machine X) W s log)).slave.inner
    keeps_at (Sent from to bytes) log o = sent_keeps (move W s (Sent from to bytes)) log
    keeps_at (Got at' from bytes) log o =
        let x = at (machine X) W s log in
        let P : Plant → Type 0 = λ q. Keeps' (got_move W s at' from (role_heard W bytes)) log q in
        subst P (sym (chosen_inner (same at' (W.slave s)) (got (machine X) W s from bytes x) x))
        (heard_keeps at' from bytes (role_heard W bytes) (spec.heard bytes) refl refl ((sends_back X W s (reads sc other)).agree bytes) log o (same at' (W.slave s)) refl)
    keeps_at (Idle at') log o = by (same at' (W.slave s))
      where
        by : (b : Bool) → Keeps' (if b then Rests else Other) log (at (machine X) W s log).slave.inner
        by true = λ id. refl
        by false = refl
    keeps_at (Turn at') log o = by (same at' (W.slave s))
      where
        by : (b : Bool) → Keeps' (if b then Turns else Other) log (if b then ticked (machine X) W s (at (machine X) W s log) else at (machine X) W s log).slave.inner
        by true = λ id. tick_kept (at (machine X) W s log).slave id
        by false = refl

pub keeps_data : KeepsItsData
keeps_data sc other ok s is e log o = keeps_at sc other s ok is e log o.asked
