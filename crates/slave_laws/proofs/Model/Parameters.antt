-- The parameters of a slave's model are those that the settings give that it took.
use Rattle.std.proofs.Common.{◌≡◌, ℕ, ◌+◌, ◌-◌, Bool, true, false, if◌then◌else◌, List, [], ◌∷◌, ◌++◌, reverse, Option, Some, None, refl, sym, ap, ◌∙◌, subst, arith, ℤ}
use Rattle.std.specs.Prelude.{slice_set}
use Rattle.std.proofs.lemmas.List.{reverse-append, reverse-reverse}
use Rattle.dcp_types.specs.declared.addresses.Address.{Address}
use Rattle.dcp_types.specs.declared.error_codes.ErrorCode.{ErrorCode}
use Rattle.dcp_types.specs.declared.states.State.{State}
use Rattle.pdu_layout.specs.declared.messages.Stc.{Stc}
use Rattle.pdu_layout.specs.declared.messages.Stc.TheVariants as stc
use Rattle.pdu_layout.specs.declared.messages.Cfg.{Cfg}
use Rattle.pdu_layout.specs.declared.messages.Cfg.TheVariants as cfg
use Rattle.pdu_layout.specs.declared.messages.Inf.TheVariants as inf
use Rattle.scenario.specs.declared.scenarios.Scenario.{Scenario}
use Rattle.scenario.specs.Settings.{parameters}
use Rattle.log_spec.specs.Messages.{Note}
use Rattle.log_spec.specs.Log.{DecidedRequest}
use Rattle.plan_laws.specs.Taking.{IsScenarioSlave, plant_after_all}
use Rattle.plan_laws.specs.Runs.{after_amid, lists_until}
use Rattle.plan_laws.proofs.Machines.{after_append}
use Rattle.plan_laws.proofs.Running.{runs_set}
use Rattle.slave_states.specs.Transitions.{next_on}
use Rattle.slave_spec.specs.Payloads.{brought}
use Rattle.slave_spec.specs.declared.words.SlaveSetup.{SlaveSetup}
use Rattle.slave_spec.specs.declared.words.SlaveRequest as req
use Rattle.slave_spec.specs.declared.words.Asked.{Asked}
use Rattle.slave_spec.specs.declared.words.Asked.TheVariants.{Change, Setting, Question}
use Rattle.slave_spec.specs.Heard as spec
use Rattle.slave_spec.specs.Transport as transport
use Rattle.slave_spec.specs.Plants.{Plant, start_plant}
use Rattle.slave_spec.specs.Requests.{refusal, state_or, changed_to, set_to, accepted, answer, answered_plant, answers}
use Rattle.slave_spec.specs.Turns.{Act, Stay, Wait, Fault, Step, Pass, act, turned, is_listening, brings}
use Rattle.slave_laws.specs.Talk.Desks.{answer_note}
use Rattle.slave_laws.proofs.Talk.Sending.{sends_back}
use Rattle.slave_laws.proofs.Model.Along.{exchanged, Lasts, along}
use Rattle.plan_laws.specs.Course.Taken.{asked_heard, asked_in, is_acknowledged, setting_taken, settings_taken, same_settings}
use Rattle.slave_laws.specs.Talk.Benches.{bench_at}
use Rattle.slave_laws.specs.Model.Tuned.{TunedHaveParameters, served_at}
use Rattle.slave_laws.proofs.Model.Alike.{settings_are}

-- ---- an answer that acknowledges
abbrev pub acknowledges : transport.SlaveAnswer → Bool
acknowledges transport.Ack = true
acknowledges (transport.Nack code) = false
acknowledges (transport.StateAck state) = false
acknowledges (transport.ErrorAck code) = false
acknowledges (transport.LogAck entries) = false

pub acknowledged : (r : req.SlaveRequest) (next : ℕ) (a : transport.SlaveAnswer) → is_acknowledged (answer_note r next a) ≡ acknowledges a
acknowledged r next transport.Ack = refl
acknowledged r next (transport.Nack code) = refl
acknowledged r next (transport.StateAck state) = refl
acknowledged r next (transport.ErrorAck code) = refl
acknowledged r next (transport.LogAck entries) = refl

not_taken : (asked : Asked) (rest : List Cfg) → setting_taken (Some asked) false rest ≡ rest
not_taken (Change named request) rest = refl
not_taken (Setting body) rest = refl
not_taken (Question q) rest = refl

-- ---- settings one behind the other
module _ (s : SlaveSetup) where
  given : List Cfg → List ℤ
  given settings = (plant_after_all s (start_plant s) (reverse settings)).model.parameters

  set_alike : (p q : Plant) (body : Cfg) → p.model.parameters ≡ q.model.parameters → (set_to s p body).model.parameters ≡ (accepted s q (Setting body)).model.parameters
  unfolding accepted
  set_alike p q (cfg.Parameter vr kind value) e = ap (λ ps. slice_set ps vr value) e
  set_alike p q cfg.Clear e = refl
  set_alike p q (cfg.Logging category level mode) e = e
  set_alike p q (cfg.TimeRes a b) e = e
  set_alike p q (cfg.Steps a b) e = e
  set_alike p q (cfg.Input a b c d) e = e
  set_alike p q (cfg.Output a b c) e = e
  set_alike p q (cfg.Target a) e = e
  set_alike p q (cfg.Source a) e = e
  set_alike p q (cfg.Tunable a b c d) e = e
  set_alike p q (cfg.ParamNet a b c d) e = e
  set_alike p q (cfg.Scope a b) e = e

  one_more : (p : Plant) (body : Cfg) (settings : List Cfg) → p.model.parameters ≡ given settings → (set_to s p body).model.parameters ≡ given (body ∷ settings)
  unfolding given
  one_more p body settings e =
      let q = plant_after_all s (start_plant s) (reverse settings) in
      let turn : reverse (body ∷ settings) ≡ reverse settings ++ body ∷ [] = reverse-append (body ∷ []) settings in
      set_alike p q body e ∙ sym (ap (λ z. z.model.parameters) (ap (plant_after_all s (start_plant s)) turn ∙ after_append s (start_plant s) (reverse settings) (body ∷ [])))

  change_same : (p : Plant) (request : Stc) (t : State) → (changed_to s p request t).model.parameters ≡ p.model.parameters
  change_same p (stc.Register a b c d) t = refl
  change_same p stc.Deregister t = refl
  change_same p stc.Prepare t = refl
  change_same p stc.Configure t = refl
  change_same p stc.Initialize t = refl
  change_same p (stc.Run x) t = refl
  change_same p (stc.DoStep n) t = refl
  change_same p stc.SendOutputs t = refl
  change_same p stc.Stop t = refl
  change_same p stc.Reset t = refl

  abbrev Given : Plant → List Cfg → Type 0
  Given p settings = p.model.parameters ≡ given settings

  accepted_given : (p : Plant) (asked : Asked) (settings : List Cfg) → Given p settings → (accepted s p asked).model.parameters ≡ given (setting_taken (Some asked) (acknowledges (answer p asked)) settings)
  unfolding accepted answer
  accepted_given p (Change named request) settings e = change_same p request (state_or p.state (next_on p.state request named p.outputs_sent)) ∙ e
  accepted_given p (Setting body) settings e = one_more p body settings e
  accepted_given p (Question inf.State) settings e = e
  accepted_given p (Question inf.Error) settings e = e
  accepted_given p (Question (inf.Log category most)) settings e = e

  answered_given : (p : Plant) (asked : Asked) (settings : List Cfg) (o : Option ErrorCode) → Given p settings → (answered_plant s p asked o).after.model.parameters ≡ given (setting_taken (Some asked) (acknowledges (answered_plant s p asked o).answer) settings)
  answered_given p asked settings (Some code) e = e ∙ sym (ap given (not_taken asked settings))
  answered_given p asked settings None e = accepted_given p asked settings e

  exchanged_given : (p : Plant) (es : List DecidedRequest) (r : req.SlaveRequest) (n : Note) (next' : ℕ) → spec.heard_as (Some n.message) ≡ spec.Asks r → Given p (settings_taken es) → Given (answers s r.asked p).after (settings_taken (exchanged s p r n next' ∷ es))
  exchanged_given p es r n next' h e =
      let a = (answers s r.asked p).answer in
      let here : setting_taken (asked_in n) (is_acknowledged (answer_note r next' a)) (settings_taken es) ≡ setting_taken (Some r.asked) (acknowledges a) (settings_taken es)
      = ap (λ o. setting_taken o (is_acknowledged (answer_note r next' a)) (settings_taken es)) (ap asked_heard h) ∙ ap (λ b. setting_taken (Some r.asked) b (settings_taken es)) (acknowledged r next' a) in
      answered_given p r.asked (settings_taken es) (refusal s p r.asked) e ∙ sym (ap given here)

  turned_same : (p : Plant) (a : Act) → (turned s p a).after.model.parameters ≡ p.model.parameters
  turned_same p Stay = refl
  turned_same p (Wait left) = refl
  turned_same p (Fault code) = refl
  turned_same p (Step x) = refl
  turned_same p Pass = refl

  brings_same : (from : Address) (number id : ℕ) (payload : List ℕ) (p : Plant) → (brings s from number id payload p).model.parameters ≡ p.model.parameters
  brings_same from number id payload p = by (is_listening p.state)
    where
      by : (b : Bool) → (if b then record p { wires = brought s.desc p.wires from number id payload p.steps } else p).model.parameters ≡ p.model.parameters
      by true = refl
      by false = refl

  given_lasts : Lasts s (λ es. Unit {0}) (λ session p es. Given p (settings_taken es))
  unfolding given
  given_lasts = record {
    less = λ d es a. tt;
    start = refl;
    first = λ from r n next' es h ev reg a e. exchanged_given (start_plant s) es r n next' h e;
    taken = λ master from id r n next' p es h ev reg a e. exchanged_given p es r n next' h e;
    brings = λ master from id number i payload p es a e. brings_same from number i payload p ∙ e;
    turns = λ master id quiet p es r r' ok a e. turned_same p (act s quiet p) ∙ e;
  }

  -- ---- the lists of the plan
  nothing_between : (p : Plant) (i : ℕ) (bodies : List Cfg) → after_amid s p (λ i. []) i bodies ≡ plant_after_all s p bodies
  nothing_between p i [] = refl
  nothing_between p i (body ∷ bodies) = nothing_between (accepted s p (Setting body)) (i + 1) bodies

  planned : (sc : Scenario) (n r : ℕ) → IsScenarioSlave sc n s.desc → given (reverse (lists_until sc n s.desc r)) ≡ parameters sc n s.desc (r + 1)
  unfolding given
  planned sc n r ok =
      ap (λ l. (plant_after_all s (start_plant s) l).model.parameters) (reverse-reverse (lists_until sc n s.desc r))
      ∙ sym (ap (λ p. p.model.parameters) (nothing_between (start_plant s) 0 (lists_until sc n s.desc r)))
      ∙ runs_set sc n s (start_plant s) (λ i. []) r ok

pub have_parameters : TunedHaveParameters
have_parameters sc n s w ok rd log t =
    let e = along s (λ es. Unit {0}) (λ session p es. Given s p (settings_taken es)) (given_lasts s) w n (sends_back s w n rd).agree log tt in
    let r = (bench_at s w n log).resets in
    let P : ℕ → Type 0 = λ k. same_settings (settings_taken (served_at s w n log)) (reverse (lists_until sc n s.desc k)) ≡ true in
    let run : r + 1 - 1 ≡ r = omega arith in
    let same : settings_taken (served_at s w n log) ≡ reverse (lists_until sc n s.desc r) = settings_are (settings_taken (served_at s w n log)) (reverse (lists_until sc n s.desc r)) (subst P run t) in
    e ∙ ap (given s) same ∙ planned s sc n r ok
