-- What a slave of the definitions answers to a request that it took, one may answer whose model is not known.
use Rattle.std.proofs.Common.{◌≡◌, ℕ, ◌==◌, ◌&&◌, not, nat_lt, Bool, true, false, List, [], ◌∷◌, length, filter, Option, Some, None, Result, Ok, Err, refl, ap, sym, subst, ◌∙◌, if◌then◌else◌, Contains, length-set}
use Rattle.std.specs.Prelude.{ℤ, slice_set}
use Rattle.dcp_types.specs.declared.data_types.DataType.{DataType}
use Rattle.dcp_types.specs.declared.data_types.DataType.TheVariants.{I64}
use Rattle.dcp_types.specs.Values.{fits}
use Rattle.fixed_models.specs.Kinds.{takes}
use Rattle.slave_spec.specs.Refusals.{refused_unless}
use Rattle.dcp_types.specs.declared.states.State.{State}
use Rattle.dcp_types.specs.declared.states.State.TheVariants.{Configuration}
use Rattle.dcp_types.specs.declared.error_codes.ErrorCode.{ErrorCode}
use Rattle.dcp_types.specs.declared.error_codes.ErrorCode.TheVariants.{NotSupported, ValueRange, WrongState, UnknownVr, TypeMismatch, InErrorState, InputsMissing}
use Rattle.dcp_types.specs.declared.fault_codes.FaultCode.{FaultCode}
use Rattle.dcp_types.specs.Codes.{fault_code, type_code}
use Rattle.pdu_layout.specs.declared.messages.Stc.{Stc}
use Rattle.pdu_layout.specs.declared.messages.Stc.TheVariants as stc
use Rattle.pdu_layout.specs.declared.messages.Cfg.{Cfg}
use Rattle.pdu_layout.specs.declared.messages.Cfg.TheVariants as cfg
use Rattle.pdu_layout.specs.declared.messages.Inf.TheVariants as inf
use Rattle.slave_states.specs.Transitions.{next_on, is_same}
use Rattle.slave_spec.specs.declared.words.SlaveSetup.{SlaveSetup}
use Rattle.slave_spec.specs.declared.words.Asked.{Asked}
use Rattle.slave_spec.specs.declared.words.Asked.TheVariants.{Change, Setting, Question}
use Rattle.slave_spec.specs.Transport.{SlaveAnswer, Ack, Nack, StateAck, Answered}
use Rattle.slave_spec.specs.Plants.{Plant}
use Rattle.slave_spec.specs.Requests.{first_true, refusal, moved_refusal, parameter_refusal, body_refusal, is_in_error, is_left_out, is_category, state_or, changed_to, set_to, accepted, answer, answered_plant, answers, accepted_notes, refused_notes, code_or_zero}
use Rattle.slave_spec.specs.Foreign.{ForeignPlant, setup_for, known_plant, table_refusal, verdict, parameter_answers, logging_answers, foreign_answers, MayAnswer, logs_after, taken_over, foreign_answered}
use Rattle.conform_laws.proofs.Shelves.{HaveLevels, AreNotes, no_notes, are_notes, all_noted, left_stands, configured_stands, fetched_few}
use Rattle.conform_laws.proofs.Faces.{face, Behind, first_one, later_one, fault_named, fault_kept}

-- an answer is free, and what is seen after it is what is behind it
pub record IsAnswered (s : SlaveSetup) (p : Plant) (faults : List FaultCode) (logs : Bool) (asked : Asked) (a : Answered Plant) : Type 0 where
  pub free : MayAnswer s.desc (face p faults logs) asked a.answer
  pub codes : List FaultCode
  pub heeds : Bool
  pub after : foreign_answered s.desc (face p faults logs) asked a.answer ≡ face a.after codes heeds
  pub behind : Behind s.desc a.after codes heeds
  pub notes : AreNotes heeds a.notices

refused_levels : (code : ErrorCode) → HaveLevels (refused_notes code)
refused_levels InputsMissing = (refl, tt)
refused_levels _ = tt

accepted_levels : (asked : Asked) (state : State) → HaveLevels (accepted_notes asked state)
accepted_levels (Change named request) state = (refl, tt)
accepted_levels (Setting body) state = tt
accepted_levels (Question q) state = tt

module _ (s : SlaveSetup) (p : Plant) (faults : List FaultCode) (logs : Bool) where
  abbrev seen : ForeignPlant
  seen = face p faults logs

  abbrev known : Plant
  known = known_plant s.desc (face p faults logs)

  -- ---- refusals are those of the table

  moved_alike : (request : Stc) (next : Result State ErrorCode) → moved_refusal p request next ≡ moved_refusal known request next
  moved_alike request (Err code) = refl
  moved_alike (stc.Register uuid op_mode major minor) (Ok state) = refl
  moved_alike stc.Deregister (Ok state) = refl
  moved_alike stc.Prepare (Ok state) = refl
  moved_alike stc.Configure (Ok state) = refl
  moved_alike stc.Initialize (Ok state) = refl
  moved_alike (stc.Run start_time) (Ok state) = refl
  moved_alike (stc.DoStep steps) (Ok state) = refl
  moved_alike stc.SendOutputs (Ok state) = refl
  moved_alike stc.Stop (Ok state) = refl
  moved_alike stc.Reset (Ok state) = refl

  change_alike : (named : State) (request : Stc) → refusal s p (Change named request) ≡ table_refusal s.desc seen (Change named request)
  unfolding refusal
  change_alike named request = moved_alike request (next_on p.state request named p.outputs_sent)

  setting_alike : (body : Cfg) → body_refusal s p body ≡ body_refusal (setup_for s.desc) known body → refusal s p (Setting body) ≡ table_refusal s.desc seen (Setting body)
  unfolding refusal
  setting_alike body e =
      ap (λ (o : Option ErrorCode). if is_in_error p.state then Some InErrorState else (if is_left_out body then Some NotSupported else (if is_same p.state Configuration then o else Some WrongState))) e

  -- ---- which answers are free

  verdict_free : (asked : Asked) (o : Option ErrorCode) → Contains (foreign_answers s.desc seen asked) (verdict o) → MayAnswer s.desc seen asked (verdict o)
  verdict_free asked None h = h
  verdict_free asked (Some code) h = h

  -- a parameter is judged as by the table, or is out of range where the table does not see it
  judged : (a b c e : Bool)
      → Contains (parameter_answers (first_true ((not a, UnknownVr) ∷ (not b, TypeMismatch) ∷ (not e, ValueRange) ∷ []))) (verdict (first_true ((not a, UnknownVr) ∷ (not b, TypeMismatch) ∷ (not c, ValueRange) ∷ [])))
  judged false b c e = first_one (Nack UnknownVr) []
  judged true false c e = first_one (Nack TypeMismatch) []
  judged true true true true = first_one Ack (Nack ValueRange ∷ [])
  judged true true true false = first_one Ack (Nack ValueRange ∷ [])
  judged true true false true = later_one Ack (Nack ValueRange ∷ []) (Nack ValueRange) (first_one (Nack ValueRange) [])
  judged true true false false = later_one Ack (Nack ValueRange ∷ []) (Nack ValueRange) (first_one (Nack ValueRange) [])

  chosen : (a b : Bool) (own table : Option ErrorCode) → Contains (parameter_answers table) (verdict own)
      → Contains (parameter_answers (if a then Some InErrorState else (if b then table else Some WrongState))) (verdict (if a then Some InErrorState else (if b then own else Some WrongState)))
  chosen true b own table h = first_one (Nack InErrorState) []
  chosen false true own table h = h
  chosen false false own table h = first_one (Nack WrongState) []

  in_log : (b : Bool) (o : Option ErrorCode) → Contains (logging_answers b o) (verdict o)
  in_log true o = first_one (verdict o) []
  in_log false o = later_one (Nack NotSupported) (verdict o ∷ []) (verdict o) (first_one (verdict o) [])

  only_verdict : (asked : Asked) → refusal s p asked ≡ table_refusal s.desc seen asked → foreign_answers s.desc seen asked ≡ verdict (table_refusal s.desc seen asked) ∷ []
      → MayAnswer s.desc seen asked (verdict (refusal s p asked))
  only_verdict asked e f =
      verdict_free asked (refusal s p asked)
      (subst (λ (l : List SlaveAnswer). Contains l (verdict (refusal s p asked))) (sym (f ∙ ap (λ (o : Option ErrorCode). verdict o ∷ []) (sym e))) (first_one (verdict (refusal s p asked)) []))

  judged_at : (n m : ℕ) → n ≡ m → (vr : ℕ) (b c e : Bool)
      → Contains (parameter_answers (first_true ((not (nat_lt vr m), UnknownVr) ∷ (not b, TypeMismatch) ∷ (not e, ValueRange) ∷ [])))
      (verdict (first_true ((not (nat_lt vr n), UnknownVr) ∷ (not b, TypeMismatch) ∷ (not c, ValueRange) ∷ [])))
  judged_at n m same vr b c e =
      subst (λ (k : ℕ). Contains (parameter_answers (first_true ((not (nat_lt vr m), UnknownVr) ∷ (not b, TypeMismatch) ∷ (not e, ValueRange) ∷ [])))
      (verdict (first_true ((not (nat_lt vr k), UnknownVr) ∷ (not b, TypeMismatch) ∷ (not c, ValueRange) ∷ [])))) (sym same) (judged (nat_lt vr m) b c e)

  parameter_free : length p.model.parameters ≡ length s.desc.parameters → (vr : ℕ) (kind : DataType) (value : ℤ) → MayAnswer s.desc seen (Setting (cfg.Parameter vr kind value)) (verdict (refusal s p (Setting (cfg.Parameter vr kind value))))
  unfolding refusal
  parameter_free e vr kind value =
      let table : Option ErrorCode = parameter_refusal known.model vr kind value in
      let own : Option ErrorCode = parameter_refusal p.model vr kind value in
      let inner : Contains (parameter_answers table) (verdict own) =
      judged_at (length p.model.parameters) (length s.desc.parameters) e vr (type_code kind == 7)
      (fits I64 value && takes p.model.kind (slice_set p.model.parameters vr value)) (fits I64 value && takes s.desc.kind (slice_set s.desc.parameters vr value)) in
      verdict_free (Setting (cfg.Parameter vr kind value)) (refusal s p (Setting (cfg.Parameter vr kind value))) (chosen (is_in_error p.state) (is_same p.state Configuration) own table inner)

  logging_free : (category level mode : ℕ) → MayAnswer s.desc seen (Setting (cfg.Logging category level mode)) (verdict (refusal s p (Setting (cfg.Logging category level mode))))
  logging_free category level mode =
      let asked : Asked = Setting (cfg.Logging category level mode) in
      let e : refusal s p asked ≡ table_refusal s.desc seen asked = setting_alike (cfg.Logging category level mode) refl in
      verdict_free asked (refusal s p asked) (subst (λ (o : Option ErrorCode). Contains (logging_answers (is_in_error p.state) o) (verdict (refusal s p asked))) e (in_log (is_in_error p.state) (refusal s p asked)))

  setting_free : length p.model.parameters ≡ length s.desc.parameters → (body : Cfg) → MayAnswer s.desc seen (Setting body) (verdict (refusal s p (Setting body)))
  setting_free e (cfg.Parameter vr kind value) = parameter_free e vr kind value
  setting_free e (cfg.Logging category level mode) = logging_free category level mode
  setting_free e (cfg.TimeRes x y) = only_verdict (Setting (cfg.TimeRes x y)) (setting_alike (cfg.TimeRes x y) refl) refl
  setting_free e (cfg.Steps x y) = only_verdict (Setting (cfg.Steps x y)) (setting_alike (cfg.Steps x y) refl) refl
  setting_free e (cfg.Input x y z k) = only_verdict (Setting (cfg.Input x y z k)) (setting_alike (cfg.Input x y z k) refl) refl
  setting_free e (cfg.Output x y z) = only_verdict (Setting (cfg.Output x y z)) (setting_alike (cfg.Output x y z) refl) refl
  setting_free e cfg.Clear = only_verdict (Setting cfg.Clear) (setting_alike cfg.Clear refl) refl
  setting_free e (cfg.Target x) = only_verdict (Setting (cfg.Target x)) (setting_alike (cfg.Target x) refl) refl
  setting_free e (cfg.Source x) = only_verdict (Setting (cfg.Source x)) (setting_alike (cfg.Source x) refl) refl
  setting_free e (cfg.Tunable x y z k) = only_verdict (Setting (cfg.Tunable x y z k)) (setting_alike (cfg.Tunable x y z k) refl) refl
  setting_free e (cfg.ParamNet x y z k) = only_verdict (Setting (cfg.ParamNet x y z k)) (setting_alike (cfg.ParamNet x y z k) refl) refl
  setting_free e (cfg.Scope x y) = only_verdict (Setting (cfg.Scope x y)) (setting_alike (cfg.Scope x y) refl) refl

  change_free : (named : State) (request : Stc) → MayAnswer s.desc seen (Change named request) (verdict (refusal s p (Change named request)))
  change_free named request = only_verdict (Change named request) (change_alike named request) refl

  -- ---- what is seen after it

  changed_seen : (named : State) (request : Stc) (state : State) → taken_over (Change named request) seen (changed_to (setup_for s.desc) known request state) ≡ face (changed_to s p request state) faults logs
  changed_seen named (stc.Register uuid op_mode major minor) state = refl
  changed_seen named stc.Deregister state = refl
  changed_seen named stc.Prepare state = refl
  changed_seen named stc.Configure state = refl
  changed_seen named stc.Initialize state = refl
  changed_seen named (stc.Run start_time) state = refl
  changed_seen named (stc.DoStep steps) state = refl
  changed_seen named stc.SendOutputs state = refl
  changed_seen named stc.Stop state = refl
  changed_seen named stc.Reset state = refl

  set_seen : (body : Cfg) → taken_over (Setting body) seen (set_to (setup_for s.desc) known body) ≡ face (set_to s p body) faults (logs_after (Setting body) logs)
  set_seen (cfg.Parameter vr kind value) = refl
  set_seen (cfg.Logging category level mode) = refl
  set_seen (cfg.TimeRes x y) = refl
  set_seen (cfg.Steps x y) = refl
  set_seen (cfg.Input x y z k) = refl
  set_seen (cfg.Output x y z) = refl
  set_seen cfg.Clear = refl
  set_seen (cfg.Target x) = refl
  set_seen (cfg.Source x) = refl
  set_seen (cfg.Tunable x y z k) = refl
  set_seen (cfg.ParamNet x y z k) = refl
  set_seen (cfg.Scope x y) = refl

  changed_behind : (request : Stc) (state : State) → Behind s.desc p faults logs → Behind s.desc (changed_to s p request state) faults logs
  changed_behind (stc.Register uuid op_mode major minor) state h = record { fault = h.fault; log = h.log; parameters = h.parameters }
  changed_behind stc.Deregister state h = record { fault = h.fault; log = h.log; parameters = h.parameters }
  changed_behind stc.Prepare state h = record { fault = h.fault; log = h.log; parameters = h.parameters }
  changed_behind stc.Configure state h = record { fault = h.fault; log = h.log; parameters = h.parameters }
  changed_behind stc.Initialize state h = record { fault = h.fault; log = h.log; parameters = h.parameters }
  changed_behind (stc.Run start_time) state h = record { fault = h.fault; log = h.log; parameters = h.parameters }
  changed_behind (stc.DoStep steps) state h = record { fault = h.fault; log = h.log; parameters = h.parameters }
  changed_behind stc.SendOutputs state h = record { fault = h.fault; log = h.log; parameters = h.parameters }
  changed_behind stc.Stop state h = record { fault = h.fault; log = h.log; parameters = h.parameters }
  changed_behind stc.Reset state h = record { fault = h.fault; log = h.log; parameters = h.parameters }

  set_behind : (body : Cfg) → Behind s.desc p faults logs → Behind s.desc (set_to s p body) faults (logs_after (Setting body) logs)
  set_behind (cfg.Parameter vr kind value) h = record { fault = h.fault; log = h.log; parameters = length-set p.model.parameters vr value ∙ h.parameters }
  set_behind (cfg.Logging category level mode) h = record { fault = h.fault; log = configured_stands logs p.log category level mode h.log; parameters = h.parameters }
  set_behind cfg.Clear h = record { fault = h.fault; log = h.log; parameters = refl }
  set_behind (cfg.TimeRes x y) h = record { fault = h.fault; log = h.log; parameters = h.parameters }
  set_behind (cfg.Steps x y) h = record { fault = h.fault; log = h.log; parameters = h.parameters }
  set_behind (cfg.Input x y z k) h = record { fault = h.fault; log = h.log; parameters = h.parameters }
  set_behind (cfg.Output x y z) h = record { fault = h.fault; log = h.log; parameters = h.parameters }
  set_behind (cfg.Target x) h = record { fault = h.fault; log = h.log; parameters = h.parameters }
  set_behind (cfg.Source x) h = record { fault = h.fault; log = h.log; parameters = h.parameters }
  set_behind (cfg.Tunable x y z k) h = record { fault = h.fault; log = h.log; parameters = h.parameters }
  set_behind (cfg.ParamNet x y z k) h = record { fault = h.fault; log = h.log; parameters = h.parameters }
  set_behind (cfg.Scope x y) h = record { fault = h.fault; log = h.log; parameters = h.parameters }

  -- ---- together

  refused : (asked : Asked) (code : ErrorCode) → MayAnswer s.desc seen asked (Nack code) → Behind s.desc p faults logs → IsAnswered s p faults logs asked (answered_plant s p asked (Some code))
  refused asked code free h = record {
    free = free;
    codes = faults;
    heeds = logs;
    after = refl;
    behind = record { fault = h.fault; log = all_noted logs p.log p.steps (refused_notes code) h.log; parameters = h.parameters };
    notes = are_notes logs p.log p.steps (refused_notes code) (refused_levels code) h.log;
  }

  acknowledged : (asked : Asked) → answer p asked ≡ Ack → MayAnswer s.desc seen asked Ack
      → taken_over asked seen (accepted (setup_for s.desc) known asked) ≡ face (accepted s p asked) faults (logs_after asked logs)
      → Behind s.desc (accepted s p asked) faults (logs_after asked logs) → IsAnswered s p faults logs asked (answered_plant s p asked None)
  acknowledged asked ack free e h =
      let q : Plant = accepted s p asked in
      let ns = accepted_notes asked q.state in
      let heeds : Bool = logs_after asked logs in
      record {
        free = subst (λ (a : SlaveAnswer). MayAnswer s.desc seen asked a) (sym ack) free;
        codes = faults;
        heeds = heeds;
        after = ap (λ (a : SlaveAnswer). foreign_answered s.desc seen asked a) ack ∙ e;
        behind = record { fault = h.fault; log = all_noted heeds q.log q.steps ns h.log; parameters = h.parameters };
        notes = are_notes heeds q.log q.steps ns (accepted_levels asked q.state) h.log;
      }

  change_answered : (named : State) (request : Stc) → Behind s.desc p faults logs → IsAnswered s p faults logs (Change named request) (answers s (Change named request) p)
  unfolding accepted answer
  change_answered named request h = by (refusal s p (Change named request)) (change_free named request)
    where
      by : (o : Option ErrorCode) → MayAnswer s.desc seen (Change named request) (verdict o) → IsAnswered s p faults logs (Change named request) (answered_plant s p (Change named request) o)
      by (Some code) free = refused (Change named request) code free h
      by None free =
          let state : State = state_or p.state (next_on p.state request named p.outputs_sent) in
          acknowledged (Change named request) refl free (changed_seen named request state) (changed_behind request state h)

  setting_answered : (body : Cfg) → Behind s.desc p faults logs → IsAnswered s p faults logs (Setting body) (answers s (Setting body) p)
  unfolding accepted answer
  setting_answered body h = by (refusal s p (Setting body)) (setting_free h.parameters body)
    where
      by : (o : Option ErrorCode) → MayAnswer s.desc seen (Setting body) (verdict o) → IsAnswered s p faults logs (Setting body) (answered_plant s p (Setting body) o)
      by (Some code) free = refused (Setting body) code free h
      by None free = acknowledged (Setting body) refl free (set_seen body) (set_behind body h)

  state_answered : Behind s.desc p faults logs → IsAnswered s p faults logs (Question inf.State) (answers s (Question inf.State) p)
  unfolding refusal accepted answer
  state_answered h = record {
    free = first_one (StateAck p.state) [];
    codes = faults;
    heeds = logs;
    after = refl;
    behind = record { fault = h.fault; log = h.log; parameters = h.parameters };
    notes = no_notes logs;
  }

  error_answered : Behind s.desc p faults logs → IsAnswered s p faults logs (Question inf.Error) (answers s (Question inf.Error) p)
  unfolding refusal accepted answer
  error_answered h = record {
    free = fault_named p.fault faults h.fault;
    codes = filter (λ (c : FaultCode). fault_code c == code_or_zero p.fault) faults;
    heeds = logs;
    after = refl;
    behind = record { fault = fault_kept p.fault faults h.fault; log = h.log; parameters = h.parameters };
    notes = no_notes logs;
  }

  log_answered : (category most : ℕ) → Behind s.desc p faults logs → IsAnswered s p faults logs (Question (inf.Log category most)) (answers s (Question (inf.Log category most)) p)
  unfolding refusal accepted answer
  log_answered category most h = by (is_category category) refl
    where
      asked : Asked
      asked = Question (inf.Log category most)

      by : (b : Bool) → is_category category ≡ b → IsAnswered s p faults logs asked (answered_plant s p asked (refused_unless b ValueRange))
      by true e = record {
        free = (e, fetched_few logs p.log category most h.log);
        codes = faults;
        heeds = logs;
        after = refl;
        behind = record { fault = h.fault; log = left_stands logs p.log category most h.log; parameters = h.parameters };
        notes = no_notes logs;
      }
      by false e = refused asked ValueRange (subst (λ (b : Bool). Contains (if b then Nack NotSupported ∷ [] else Nack NotSupported ∷ Nack ValueRange ∷ []) (Nack ValueRange)) (sym e) (later_one (Nack NotSupported) (Nack ValueRange ∷ []) (Nack ValueRange) (first_one (Nack ValueRange) []))) h

  pub is_answered : (asked : Asked) → Behind s.desc p faults logs → IsAnswered s p faults logs asked (answers s asked p)
  is_answered (Change named request) h = change_answered named request h
  is_answered (Setting body) h = setting_answered body h
  is_answered (Question inf.State) h = state_answered h
  is_answered (Question inf.Error) h = error_answered h
  is_answered (Question (inf.Log category most)) h = log_answered category most h
