-- The request with which the conversation ended, at the moment at which the slave took it.
use Rattle.std.proofs.Common.{◌≡◌, ℕ, false, Option, Some, None, List, refl, sym, ap, ◌∙◌}
use Rattle.std.specs.Prelude.{◌==◌}
use Rattle.std.proofs.lemmas.Bool.{eqb-false}
use Rattle.dcp_types.specs.declared.fault_codes.FaultCode.{FaultCode}
use Rattle.dcp_types.specs.declared.fault_codes.FaultCode.TheVariants.{ModelOverflow, DivideByZero, OutOfRange, HeartbeatMissed}
use Rattle.dcp_ends.specs.declared.entries.LogEntry.{LogEntry}
use Rattle.pdu_layout.specs.declared.messages.Inf.TheVariants as inf
use Rattle.scenario.specs.declared.scenarios.Scenario.{Scenario}
use Rattle.slave_desc.specs.declared.descriptions.SlaveDesc.{SlaveDesc}
use Rattle.log_spec.specs.Log.{Parties}
use Rattle.log_spec.specs.Log as logs
use Rattle.slave_spec.specs.declared.words.SlaveSetup.{SlaveSetup}
use Rattle.slave_spec.specs.declared.words.Asked as words
use Rattle.slave_spec.specs.declared.words.Asked.TheVariants.{Question}
use Rattle.slave_spec.specs.Transport as transport
use Rattle.slave_spec.specs.Plants.{Plant}
use Rattle.slave_spec.specs.Requests.{refusal, answer, answers, code_or_zero}
use Rattle.slave_laws.specs.Talk.Sends.{ReadsMessages}
use Rattle.slave_laws.specs.Model.Models.{plant_at}
use Rattle.slave_laws.specs.Model.Tuned.{served_at}
use Rattle.plan_laws.specs.Course.Taken.{asked_heard, asked_in}
use Rattle.slave_laws.specs.Model.Stages.{stage_by}
use Rattle.master_spec.specs.declared.requests.Request.{Request}
use Rattle.master_spec.specs.declared.requests.Answer.{Answer}
use Rattle.master_spec.specs.declared.requests.Answer.TheVariants.{ErrorAck}
use Rattle.master_spec.specs.Requests.{Asking}
use Rattle.master_laws.specs.Hears.Laws.{AreDecisions}
use Rattle.master_laws.proofs.PlanOrder.Hearing.{asked_for}
use Rattle.run_laws.specs.Laws.{parties, slave_setup_of}
use Rattle.completeness_laws.proofs.Causes.Told.{stage_of}
use Rattle.completeness_laws.proofs.Causes.Exchanges.{heard_answer, note_heard}
use Rattle.completeness_laws.proofs.Causes.Unexpected.{IsLastAnswer}
use Rattle.completeness_laws.proofs.Causes.History.{WasTaken, was_taken}

pub reads : (sc : Scenario) (other : SlaveDesc) → ReadsMessages (parties sc other)
reads sc other b = refl

-- the moment at which the request was taken
pub record IsTakenAnswer (sc : Scenario) (other : SlaveDesc) (sofar : List LogEntry) (id : ℕ) (r : Request) (a : Answer) (older : List Asking) : Type 0 where
  pub newest : logs.DecidedRequest
  pub others : List logs.DecidedRequest
  pub taken : WasTaken (slave_setup_of sc other id) (parties sc other) id (reads sc other) sofar newest others
  pub asked : taken.takes_it.request.asked ≡ asked_for r
  pub answered : a ≡ heard_answer (answers (slave_setup_of sc other id) (asked_for r) (plant_at (slave_setup_of sc other id) (parties sc other) id taken.earlier)).answer
  pub told : AreDecisions id older others
  pub staged : stage_by (served_at (slave_setup_of sc other id) (parties sc other) id taken.earlier) ≡ stage_of id older

some_same : (a b : words.Asked) → Some a ≡ Some b → a ≡ b
some_same a b e = cc

pub taken_answer : (sc : Scenario) (other : SlaveDesc) (sofar : List LogEntry) (id : ℕ) (r : Request) (a : Answer) (older : List Asking) → IsLastAnswer sc other sofar id r a older → IsTakenAnswer sc other sofar id r a older
taken_answer sc other sofar id r a older k =
    let s = slave_setup_of sc other id in
    let w = parties sc other in
    let d = k.exchange.newest in
    let t = was_taken s w id (reads sc other) sofar k.more k.exchange.others d k.served in
    let q = t.takes_it in
    let p = plant_at s w id t.earlier in
    let note : asked_in d.request ≡ Some q.request.asked = ap (λ (z : logs.DecidedRequest). asked_in z.request) t.exchange ∙ ap asked_heard q.heard in
    let asked : q.request.asked ≡ asked_for r = some_same q.request.asked (asked_for r) (sym note ∙ k.exchange.asked) in
    let said : a ≡ heard_answer (answers s q.request.asked p).answer = note_heard id d.answer a q.request q.next' (answers s q.request.asked p).answer (ap (λ (z : logs.DecidedRequest). z.answer) t.exchange) k.exchange.heard in
    record {
      newest = d;
      others = k.exchange.others;
      taken = t;
      asked = asked;
      answered = said ∙ ap (λ (z : words.Asked). heard_answer (answers s z p).answer) asked;
      told = k.exchange.told;
      staged = ap stage_by t.before ∙ k.staged_is;
    }

-- ---- a fault is told by its code
error_told : (s : SlaveSetup) (p : Plant) → (answers s (Question inf.Error) p).answer ≡ transport.ErrorAck (code_or_zero p.fault)
unfolding refusal answer
error_told s p = refl

error_code_is : (a b : ℕ) → ErrorAck a ≡ ErrorAck b → a ≡ b
error_code_is a b e = cc

pub fault_told : (s : SlaveSetup) (p : Plant) (c : ℕ) → ErrorAck c ≡ heard_answer (answers s (Question inf.Error) p).answer → c ≡ code_or_zero p.fault
fault_told s p c e = error_code_is c (code_or_zero p.fault) (e ∙ ap heard_answer (error_told s p))

far : {A : Type 0} (a b : ℕ) → (a == b) ≡ false → a ≡ b → A
far a b f e = absurd (eqb-false a b f e)

pub heartbeat_code : (o : Option FaultCode) → code_or_zero o ≡ 35 → o ≡ Some HeartbeatMissed
heartbeat_code None e = far 0 35 refl e
heartbeat_code (Some ModelOverflow) e = far 32 35 refl e
heartbeat_code (Some DivideByZero) e = far 33 35 refl e
heartbeat_code (Some OutOfRange) e = far 34 35 refl e
heartbeat_code (Some HeartbeatMissed) e = refl
