-- The machine of a slave stays in range at each request, turn and data message.
use Rattle.std.proofs.Common.{◌≡◌, ℕ, ◌<◌, Bool, true, false, if◌then◌else◌, List, [], ◌∷◌, Option, Some, None, refl, sym, ap, ◌∙◌, subst, arith}
use Rattle.dcp_types.specs.declared.addresses.Address.{Address}
use Rattle.dcp_types.specs.declared.states.State.{State}
use Rattle.dcp_types.specs.declared.states.State.TheVariants.{Configuration}
use Rattle.dcp_types.specs.declared.error_codes.ErrorCode.{ErrorCode}
use Rattle.dcp_types.specs.declared.error_codes.ErrorCode.TheVariants.{InputsMissing, InErrorState, NotSupported, WrongState}
use Rattle.dcp_types.specs.declared.fault_codes.FaultCode.{FaultCode}
use Rattle.dcp_types.specs.Codes.{state_code, error_code, fault_code}
use Rattle.pdu_layout.specs.declared.messages.Stc.{Stc}
use Rattle.pdu_layout.specs.declared.messages.Stc.TheVariants as stc
use Rattle.pdu_layout.specs.declared.messages.Cfg.{Cfg}
use Rattle.pdu_layout.specs.declared.messages.Cfg.TheVariants as cfg
use Rattle.pdu_layout.specs.declared.messages.Inf.TheVariants as inf
use Rattle.log_spec.specs.Messages.{Else}
use Rattle.log_spec.specs.Log.{Parties, role_heard}
use Rattle.slave_states.specs.Transitions.{is_same, next_on}
use Rattle.slave_log.specs.declared.lines.LogLine.{LogLine}
use Rattle.slave_log.specs.Shelves.{Log, noted, to_send}
use Rattle.slave_spec.specs.Changes.{Set, input, steps_in_run}
use Rattle.slave_spec.specs.Payloads.{WiringState, brought, is_wanted}
use Rattle.slave_spec.specs.Refusals as wiring
use Rattle.slave_spec.specs.declared.words.SlaveSetup.{SlaveSetup}
use Rattle.slave_spec.specs.declared.words.LogRemark.{LogRemark}
use Rattle.slave_spec.specs.declared.words.Asked.{Asked}
use Rattle.slave_spec.specs.declared.words.Asked.TheVariants.{Change, Setting, Question}
use Rattle.slave_spec.specs.Transport as transport
use Rattle.slave_spec.specs.Transport.{SlaveAnswer, Notice, Changed, Noted}
use Rattle.slave_spec.specs.Plants.{Plant}
use Rattle.slave_spec.specs.Requests.{note, noted_all, notices, told, refused_notes, accepted_notes, refusal, is_in_error, is_left_out, body_refusal, setting_refusal, state_or, changed_to, set_to, accepted, answer, answered_plant, answers, code_or_zero}
use Rattle.slave_spec.specs.Turns.{Act, Stay, Wait, Fault, Step, Pass, act, is_listening, is_sending_state, data_parcels, parcels, values, turned, turns, brings}
use Rattle.slave_laws.specs.Talk.Desks.{AreData, AreElse}
use Rattle.slave_laws.specs.Talk.Ranges.{AskedFits, AnswerFits, LogFits, SettingsFit, PayloadsFit, PlantFits}
use Rattle.slave_laws.specs.Talk.Sends.{ReadsMessages}
use Rattle.slave_laws.proofs.Talk.Shelves.{noted_fits, configured_fits, left_fits, sent_fits, fetched_are, fetched_length}
use Rattle.slave_laws.proofs.Talk.Spelt.{state_small, error_small, fault_small, notice_is}
use Rattle.slave_laws.proofs.Talk.Wiring.{set_payloads, data_are}

-- ---- entries for the log
pub record NoteFits (n : LogRemark) : Type 0 where
  pub category : n.category < 256
  pub level : n.level < 256
  pub code : n.code < 256

abbrev NotesFit : List LogRemark → Type 0
NotesFit [] = Unit {0}
NotesFit (n ∷ ns) = NoteFits n × NotesFit ns

one_note : (category level code : ℕ) → category < 256 → level < 256 → code < 256 → NoteFits (note category level code)
one_note category level code a b c = record { category = a; level = b; code = c }

all_noted : (log : Log) (step : ℕ) (ns : List LogRemark) → NotesFit ns → LogFits log → LogFits (noted_all log step ns)
all_noted log step [] f h = h
all_noted log step (n ∷ ns) f h = all_noted (noted log n.category n.level n.code step) step ns f.1 (noted_fits log n.category n.level n.code step (f.0).category (f.0).level (f.0).code h)

refused_fit : (c : ErrorCode) → NotesFit (refused_notes c)
refused_fit InputsMissing = (one_note 2 2 (error_code InputsMissing) (omega arith) (omega arith) (error_small InputsMissing), tt)
refused_fit _ = tt

accepted_fit : (asked : Asked) (state : State) → NotesFit (accepted_notes asked state)
accepted_fit (Change named request) state = (one_note 1 3 (state_code state) (omega arith) (omega arith) (omega (arith, state_small state)), tt)
accepted_fit (Setting body) state = tt
accepted_fit (Question q) state = tt

module _ (w : Parties) (rd : ReadsMessages w) (to : Address) (id : ℕ) (small : id < 256) where
  notes_else : (log : Log) (step : ℕ) (ns : List LogRemark) → NotesFit ns → AreElse w (transport.notice_sends to id (notices log step ns))
  notes_else log step [] f = tt
  notes_else log step (n ∷ ns) f = by (notes_else (noted log n.category n.level n.code step) step ns f.1) (to_send log n.category n.level n.code step) refl
    where
      same : (l k : LogLine) → Noted l ≡ Noted k → Some l ≡ Some k
      same l k h = let g : l ≡ k = cc in ap (λ (z : LogLine). Some z) g

      by : AreElse w (transport.notice_sends to id (notices (noted log n.category n.level n.code step) step ns)) → (o : Option LogLine) → to_send log n.category n.level n.code step ≡ o → AreElse w (transport.notice_sends to id (told o (notices (noted log n.category n.level n.code step) step ns)))
      by rest None e = rest
      by rest (Some l) e = (notice_is w rd id (Noted l) small (λ k h. sent_fits log n.category n.level n.code step (f.0).category (f.0).level (f.0).code k (e ∙ same l k h)), rest)

  changed_else : (state : State) → role_heard w (transport.send to (transport.notice_message id (Changed state))).bytes ≡ Else
  changed_else state = notice_is w rd id (Changed state) small (λ k h. absurd (no' k h))
    where
      no' : (k : LogLine) → Changed state ≡ Noted k → ⊥
      no' k h = cc

  -- what is told with an answer
  answer_else : (s : SlaveSetup) (p : Plant) (asked : Asked) (o : Option ErrorCode) → AreElse w (transport.notice_sends to id (answered_plant s p asked o).notices)
  answer_else s p asked (Some code) = notes_else p.log p.steps (refused_notes code) (refused_fit code)
  answer_else s p asked None = notes_else (accepted s p asked).log (accepted s p asked).steps (accepted_notes asked (accepted s p asked).state) (accepted_fit asked (accepted s p asked).state)

  pub answers_else : (s : SlaveSetup) (asked : Asked) (p : Plant) → AreElse w (transport.notice_sends to id (answers s asked p).notices)
  answers_else s asked p = answer_else s p asked (refusal s p asked)

  -- what is told at a turn
  turned_else : (s : SlaveSetup) (p : Plant) (a : Act) → AreElse w (transport.notice_sends to id (turned s p a).notices)
  turned_else s p Stay = tt
  turned_else s p (Wait left) = tt
  turned_else s p (Fault code) =
      let q = (turned s p (Fault code)).after in
      (changed_else q.state, notes_else p.log p.steps (note 3 1 (fault_code code) ∷ note 1 2 (state_code q.state) ∷ []) (one_note 3 1 (fault_code code) (omega arith) (omega arith) (fault_small code), (one_note 1 2 (state_code q.state) (omega arith) (omega arith) (omega (arith, state_small q.state)), tt)))
  turned_else s p (Step x) =
      let q = (turned s p (Step x)).after in
      (changed_else q.state, notes_else p.log q.steps (note 2 3 0 ∷ note 1 2 (state_code q.state) ∷ []) (one_note 2 3 0 (omega arith) (omega arith) (omega arith), (one_note 1 2 (state_code q.state) (omega arith) (omega arith) (omega (arith, state_small q.state)), tt)))
  turned_else s p Pass =
      let q = (turned s p Pass).after in
      (changed_else q.state, notes_else p.log p.steps (note 1 2 (state_code q.state) ∷ []) (one_note 1 2 (state_code q.state) (omega arith) (omega arith) (omega (arith, state_small q.state)), tt))

  pub turns_else : (s : SlaveSetup) (quiet : ℕ) (p : Plant) → AreElse w (transport.notice_sends to id (turns s quiet p).notices)
  turns_else s quiet p = turned_else s p (act s quiet p)

-- the data of a turn
parcels_data : (w : Parties) → ReadsMessages w → (s : SlaveSetup) (p : Plant) → PlantFits p → AreData w (parcels s p)
parcels_data w rd s p h = by (is_sending_state p.state)
  where
    by : (b : Bool) → AreData w (if b then data_parcels s.desc p.wires.changes p.steps (values p.model) else [])
    by true = data_are w rd s.desc p.wires.changes p.steps (values p.model) h.payloads h.settings
    by false = tt

turned_data : (w : Parties) → ReadsMessages w → (s : SlaveSetup) (p : Plant) (a : Act) → PlantFits p → AreData w (turned s p a).parcels
turned_data w rd s p Stay h = tt
turned_data w rd s p (Wait left) h = tt
turned_data w rd s p (Fault code) h = tt
turned_data w rd s p (Step x) h = tt
turned_data w rd s p Pass h = parcels_data w rd s p h

pub turns_data : (w : Parties) → ReadsMessages w → (s : SlaveSetup) (quiet : ℕ) (p : Plant) → PlantFits p → AreData w (turns s quiet p).parcels
turns_data w rd s quiet p h = turned_data w rd s p (act s quiet p) h

-- ---- the answer
answer_fits : (p : Plant) (asked : Asked) → PlantFits p → AnswerFits (answer p asked)
unfolding answer
answer_fits p (Question inf.State) h = tt
answer_fits p (Question inf.Error) h = by p.fault
  where
    by : (o : Option FaultCode) → code_or_zero o < 65536
    by None = omega arith
    by (Some code) = omega (arith, fault_small code)
answer_fits p (Question (inf.Log category most)) h = (fetched_are p.log category most h.log, fetched_length p.log category most h.log)
answer_fits p (Setting body) h = tt
answer_fits p (Change named request) h = tt

answered_answer : (s : SlaveSetup) (p : Plant) (asked : Asked) (o : Option ErrorCode) → PlantFits p → AnswerFits (answered_plant s p asked o).answer
answered_answer s p asked (Some code) h = tt
answered_answer s p asked None h = answer_fits p asked h

pub answers_answer : (s : SlaveSetup) (asked : Asked) (p : Plant) → PlantFits p → AnswerFits (answers s asked p).answer
answers_answer s asked p h = answered_answer s p asked (refusal s p asked) h

-- ---- what is left of it
setting_taken : (s : SlaveSetup) (p : Plant) (body : Cfg) → setting_refusal s p body ≡ None → body_refusal s p body ≡ None
setting_taken s p body h = by (is_in_error p.state) (is_left_out body) (is_same p.state Configuration) h
  where
    by : (a b c : Bool) → (if a then Some InErrorState else (if b then Some NotSupported else (if c then body_refusal s p body else Some WrongState))) ≡ None → body_refusal s p body ≡ None
    by true b c e = absurd cc
    by false true c e = absurd cc
    by false false true e = e
    by false false false e = absurd cc

more_set : (s : SlaveSetup) (p : Plant) (body : Cfg) → AskedFits (Setting body) → wiring.refusal_of_setting s.desc p.wires.changes body ≡ None → PlantFits p → SettingsFit (Set body ∷ p.wires.changes) × PayloadsFit (Set body ∷ p.wires.changes)
more_set s p body f r h = ((f, h.settings), set_payloads s.desc p.wires.changes body r h.payloads)

set_fits : (s : SlaveSetup) (p : Plant) (body : Cfg) → AskedFits (Setting body) → body_refusal s p body ≡ None → PlantFits p → PlantFits (set_to s p body)
set_fits s p (cfg.Parameter vr kind value) f r h = record { log = h.log; settings = h.settings; payloads = h.payloads }
set_fits s p (cfg.Logging category level mode) f r h = record { log = configured_fits p.log category level mode h.log; settings = h.settings; payloads = h.payloads }
set_fits s p cfg.Clear f r h = record { log = h.log; settings = tt; payloads = λ id. omega arith }
set_fits s p (cfg.Output id position vr) f r h = let m = more_set s p (cfg.Output id position vr) f r h in record { log = h.log; settings = m.0; payloads = m.1 }
set_fits s p (cfg.TimeRes x y) f r h = let m = more_set s p (cfg.TimeRes x y) f r h in record { log = h.log; settings = m.0; payloads = m.1 }
set_fits s p (cfg.Steps x y) f r h = let m = more_set s p (cfg.Steps x y) f r h in record { log = h.log; settings = m.0; payloads = m.1 }
set_fits s p (cfg.Input x y z k) f r h = let m = more_set s p (cfg.Input x y z k) f r h in record { log = h.log; settings = m.0; payloads = m.1 }
set_fits s p (cfg.Target x) f r h = let m = more_set s p (cfg.Target x) f r h in record { log = h.log; settings = m.0; payloads = m.1 }
set_fits s p (cfg.Source x) f r h = let m = more_set s p (cfg.Source x) f r h in record { log = h.log; settings = m.0; payloads = m.1 }
set_fits s p (cfg.Tunable x y z k) f r h = let m = more_set s p (cfg.Tunable x y z k) f r h in record { log = h.log; settings = m.0; payloads = m.1 }
set_fits s p (cfg.ParamNet x y z k) f r h = let m = more_set s p (cfg.ParamNet x y z k) f r h in record { log = h.log; settings = m.0; payloads = m.1 }
set_fits s p (cfg.Scope x y) f r h = let m = more_set s p (cfg.Scope x y) f r h in record { log = h.log; settings = m.0; payloads = m.1 }

changed_fits : (s : SlaveSetup) (p : Plant) (request : Stc) (state : State) → PlantFits p → PlantFits (changed_to s p request state)
changed_fits s p (stc.DoStep steps) state h = record { log = h.log; settings = h.settings; payloads = h.payloads }
changed_fits s p stc.Reset state h = record { log = h.log; settings = (tt, h.settings); payloads = h.payloads }
changed_fits s p (stc.Register a b c d) state h = record { log = h.log; settings = h.settings; payloads = h.payloads }
changed_fits s p stc.Deregister state h = record { log = h.log; settings = h.settings; payloads = h.payloads }
changed_fits s p stc.Prepare state h = record { log = h.log; settings = h.settings; payloads = h.payloads }
changed_fits s p stc.Configure state h = record { log = h.log; settings = h.settings; payloads = h.payloads }
changed_fits s p stc.Initialize state h = record { log = h.log; settings = h.settings; payloads = h.payloads }
changed_fits s p (stc.Run t) state h = record { log = h.log; settings = h.settings; payloads = h.payloads }
changed_fits s p stc.SendOutputs state h = record { log = h.log; settings = h.settings; payloads = h.payloads }
changed_fits s p stc.Stop state h = record { log = h.log; settings = h.settings; payloads = h.payloads }

accepted_stays : (s : SlaveSetup) (p : Plant) (asked : Asked) → AskedFits asked → refusal s p asked ≡ None → PlantFits p → PlantFits (accepted s p asked)
unfolding accepted refusal
accepted_stays s p (Change named request) f r h = changed_fits s p request (state_or p.state (next_on p.state request named p.outputs_sent)) h
accepted_stays s p (Setting body) f r h = set_fits s p body f (setting_taken s p body r) h
accepted_stays s p (Question inf.State) f r h = h
accepted_stays s p (Question inf.Error) f r h = h
accepted_stays s p (Question (inf.Log category most)) f r h = record { log = left_fits p.log category most h.log; settings = h.settings; payloads = h.payloads }

with_log : (p : Plant) (step : ℕ) (ns : List LogRemark) → NotesFit ns → PlantFits p → PlantFits (record p { log = noted_all p.log step ns })
with_log p step ns f h = record { log = all_noted p.log step ns f h.log; settings = h.settings; payloads = h.payloads }

answered_stays : (s : SlaveSetup) (p : Plant) (asked : Asked) → AskedFits asked → (o : Option ErrorCode) → refusal s p asked ≡ o → PlantFits p → PlantFits (answered_plant s p asked o).after
answered_stays s p asked f (Some code) r h = with_log p p.steps (refused_notes code) (refused_fit code) h
answered_stays s p asked f None r h =
    let q = accepted s p asked in
    with_log q q.steps (accepted_notes asked q.state) (accepted_fit asked q.state) (accepted_stays s p asked f r h)

pub answers_stay : (s : SlaveSetup) (asked : Asked) (p : Plant) → AskedFits asked → PlantFits p → PlantFits (answers s asked p).after
answers_stay s asked p f h = answered_stays s p asked f (refusal s p asked) refl h

-- a turn
turned_stays : (s : SlaveSetup) (p : Plant) (a : Act) → PlantFits p → PlantFits (turned s p a).after
turned_stays s p Stay h = h
turned_stays s p (Wait left) h = record { log = h.log; settings = h.settings; payloads = h.payloads }
turned_stays s p (Fault code) h =
    let q = (turned s p (Fault code)).after in
    record { log = all_noted p.log p.steps (note 3 1 (fault_code code) ∷ note 1 2 (state_code q.state) ∷ []) (one_note 3 1 (fault_code code) (omega arith) (omega arith) (fault_small code), (one_note 1 2 (state_code q.state) (omega arith) (omega arith) (omega (arith, state_small q.state)), tt)) h.log; settings = h.settings; payloads = h.payloads }
turned_stays s p (Step x) h =
    let q = (turned s p (Step x)).after in
    record { log = all_noted p.log q.steps (note 2 3 0 ∷ note 1 2 (state_code q.state) ∷ []) (one_note 2 3 0 (omega arith) (omega arith) (omega arith), (one_note 1 2 (state_code q.state) (omega arith) (omega arith) (omega (arith, state_small q.state)), tt)) h.log; settings = h.settings; payloads = h.payloads }
turned_stays s p Pass h =
    let q = (turned s p Pass).after in
    record { log = all_noted p.log p.steps (note 1 2 (state_code q.state) ∷ []) (one_note 1 2 (state_code q.state) (omega arith) (omega arith) (omega (arith, state_small q.state)), tt) h.log; settings = h.settings; payloads = h.payloads }

pub turns_stay : (s : SlaveSetup) (quiet : ℕ) (p : Plant) → PlantFits p → PlantFits (turns s quiet p).after
turns_stay s quiet p h = turned_stays s p (act s quiet p) h

-- a data message
brought_stays : (w y : WiringState) (b : Bool) → y.changes ≡ w.changes → SettingsFit w.changes → PayloadsFit w.changes → SettingsFit (if b then y else w).changes × PayloadsFit (if b then y else w).changes
brought_stays w y true e f g = (subst SettingsFit (sym e) f, subst PayloadsFit (sym e) g)
brought_stays w y false e f g = (f, g)

pub brings_stay : (s : SlaveSetup) (from : Address) (number id : ℕ) (payload : List ℕ) (p : Plant) → PlantFits p → PlantFits (brings s from number id payload p)
brings_stay s from number id payload p h = by (is_listening p.state)
  where
    kept : SettingsFit (brought s.desc p.wires from number id payload p.steps).changes × PayloadsFit (brought s.desc p.wires from number id payload p.steps).changes
    kept = brought_stays p.wires (record p.wires { kept = record { id = id; ordinal = steps_in_run input id p.wires.changes p.steps; payload = payload } ∷ p.wires.kept }) (is_wanted s.desc p.wires from number id payload p.steps) refl h.settings h.payloads

    by : (b : Bool) → PlantFits (if b then record p { wires = brought s.desc p.wires from number id payload p.steps } else p)
    by true = record { log = h.log; settings = kept.0; payloads = kept.1 }
    by false = h
