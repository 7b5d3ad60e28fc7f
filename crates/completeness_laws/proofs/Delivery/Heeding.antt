-- What a request that is taken makes of a slave that told that it is initialized, and that it stays past its configuration until it is reset.
use Rattle.std.proofs.Common.{◌≡◌, ℕ, Bool, true, false, if◌then◌else◌, ◌⊎◌, inl, inr, Option, Some, None, List, ◌∷◌, refl, sym, ap, ◌∙◌, subst, arith, ℤ}
use Rattle.std.specs.Prelude.{◌==◌, nat_le}
use Rattle.std.proofs.lemmas.Bool.Decides.{nat_tests}
use Rattle.dcp_types.specs.Codes.{state_code}
use Rattle.dcp_types.specs.declared.addresses.Address.{Address}
use Rattle.dcp_types.specs.declared.error_codes.ErrorCode.{ErrorCode}
use Rattle.dcp_types.specs.declared.states.State.{State}
use Rattle.dcp_types.specs.declared.states.State.TheVariants.{Configuration}
use Rattle.pdu_layout.specs.declared.messages.Stc.{Stc}
use Rattle.pdu_layout.specs.declared.messages.Stc.TheVariants as stc
use Rattle.pdu_layout.specs.declared.messages.Cfg.{Cfg}
use Rattle.pdu_layout.specs.declared.messages.Cfg.TheVariants as cfg
use Rattle.pdu_layout.specs.declared.messages.Inf.TheVariants as inf
use Rattle.dcp_ends.specs.declared.entries.LogEntry.{LogEntry}
use Rattle.log_spec.specs.Messages.{Note}
use Rattle.log_spec.specs.Log.{Parties, DecidedRequest}
use Rattle.slave_states.specs.Transitions.{transition_row, next_on, next_on_turn}
use Rattle.slave_spec.specs.Payloads.{brought}
use Rattle.slave_spec.specs.declared.words.SlaveSetup.{SlaveSetup}
use Rattle.slave_spec.specs.declared.words.SlaveRequest as req
use Rattle.slave_spec.specs.declared.words.Asked.{Asked}
use Rattle.slave_spec.specs.declared.words.Asked.TheVariants.{Change, Setting, Question}
use Rattle.slave_spec.specs.declared.words.Session.{Session}
use Rattle.slave_spec.specs.declared.words.Session.TheVariants.{Before, During, After}
use Rattle.slave_spec.specs.Heard as spec
use Rattle.slave_spec.specs.Transport as transport
use Rattle.slave_spec.specs.Plants.{Plant, start_plant}
use Rattle.slave_spec.specs.Requests.{refusal, changed_to, set_to, accepted, answer, answered_plant, answers}
use Rattle.slave_spec.specs.Turns.{Act, Stay, Wait, Fault, Step, Pass, act, turned, is_listening, brings}
use Rattle.slave_spec.specs.Slaves.{machine}
use Rattle.slave_laws.specs.Talk.Desks.{answer_note, at}
use Rattle.slave_laws.proofs.Talk.Plants.{no_refusal, row_of_next, state_is}
use Rattle.slave_laws.specs.Talk.Sends.{ReadsMessages}
use Rattle.slave_laws.proofs.Talk.Sending.{sends_back}
use Rattle.slave_laws.specs.Model.Models.{plant_at}
use Rattle.slave_laws.proofs.Model.Inputs.{set_where}
use Rattle.slave_laws.proofs.Model.Along.{exchanged, Lasts, along}
use Rattle.plan_laws.specs.Course.Taken.{asked_heard, is_acknowledged, tells_initialized, told_after, told_since}
use Rattle.slave_laws.specs.Model.Tuned.{served_at}
use Rattle.slave_laws.proofs.Model.Parameters.{acknowledges, acknowledged}

never : {A : Type 0} → false ≡ true → A
never e = absurd cc

-- from PREPARED on
abbrev pub is_on : State → Bool
is_on state = nat_le 3 (state_code state)

-- ---- what a request makes of it
pub data Result (p : Plant) (asked : Asked) (a : transport.SlaveAnswer) (q : Plant) : Type 0 where
  Stays : q.state ≡ p.state → q.earlier ≡ p.earlier → q.wires.kept ≡ p.wires.kept → acknowledges a ≡ false → Result p asked a q
  Sets : (body : Cfg) → asked ≡ Setting body → p.state ≡ Configuration → q.state ≡ p.state → q.earlier ≡ p.earlier → a ≡ transport.Ack → Result p asked a q
  Moves : (named : State) → (request : Stc) → asked ≡ Change named request → (request ≡ stc.Reset → ⊥) → transition_row request p.state p.outputs_sent ≡ Some q.state → q.earlier ≡ p.earlier → q.wires.kept ≡ p.wires.kept → a ≡ transport.Ack → Result p asked a q
  Resets : (named : State) → asked ≡ Change named stc.Reset → q.earlier ≡ p.steps ∷ p.earlier → a ≡ transport.Ack → Result p asked a q

module _ (s : SlaveSetup) where
  moved : (p : Plant) (named : State) (request : Stc) (t : State) → transition_row request p.state p.outputs_sent ≡ Some t → (q : Plant) → q.state ≡ (changed_to s p request t).state → q.earlier ≡ (changed_to s p request t).earlier → q.wires ≡ (changed_to s p request t).wires
      → Result p (Change named request) transport.Ack q
  moved p named stc.Reset t r q a b c = Resets named refl b refl
  moved p named (stc.Register x y z w) t r q a b c = Moves named (stc.Register x y z w) refl (λ e. absurd cc) (r ∙ ap (λ (u : State). Some u) (sym a)) b (ap (λ u. u.kept) c) refl
  moved p named stc.Deregister t r q a b c = Moves named stc.Deregister refl (λ e. absurd cc) (r ∙ ap (λ (u : State). Some u) (sym a)) b (ap (λ u. u.kept) c) refl
  moved p named stc.Prepare t r q a b c = Moves named stc.Prepare refl (λ e. absurd cc) (r ∙ ap (λ (u : State). Some u) (sym a)) b (ap (λ u. u.kept) c) refl
  moved p named stc.Configure t r q a b c = Moves named stc.Configure refl (λ e. absurd cc) (r ∙ ap (λ (u : State). Some u) (sym a)) b (ap (λ u. u.kept) c) refl
  moved p named stc.Initialize t r q a b c = Moves named stc.Initialize refl (λ e. absurd cc) (r ∙ ap (λ (u : State). Some u) (sym a)) b (ap (λ u. u.kept) c) refl
  moved p named (stc.Run x) t r q a b c = Moves named (stc.Run x) refl (λ e. absurd cc) (r ∙ ap (λ (u : State). Some u) (sym a)) b (ap (λ u. u.kept) c) refl
  moved p named (stc.DoStep n) t r q a b c = Moves named (stc.DoStep n) refl (λ e. absurd cc) (r ∙ ap (λ (u : State). Some u) (sym a)) b (ap (λ u. u.kept) c) refl
  moved p named stc.SendOutputs t r q a b c = Moves named stc.SendOutputs refl (λ e. absurd cc) (r ∙ ap (λ (u : State). Some u) (sym a)) b (ap (λ u. u.kept) c) refl
  moved p named stc.Stop t r q a b c = Moves named stc.Stop refl (λ e. absurd cc) (r ∙ ap (λ (u : State). Some u) (sym a)) b (ap (λ u. u.kept) c) refl

  set_rest : (p : Plant) (body : Cfg) → ((set_to s p body).state ≡ p.state) × ((set_to s p body).earlier ≡ p.earlier)
  set_rest p (cfg.Parameter vr kind value) = (refl, refl)
  set_rest p (cfg.Logging category level mode) = (refl, refl)
  set_rest p cfg.Clear = (refl, refl)
  set_rest p (cfg.TimeRes a b) = (refl, refl)
  set_rest p (cfg.Steps a b) = (refl, refl)
  set_rest p (cfg.Input a b c d) = (refl, refl)
  set_rest p (cfg.Output a b c) = (refl, refl)
  set_rest p (cfg.Target a) = (refl, refl)
  set_rest p (cfg.Source a) = (refl, refl)
  set_rest p (cfg.Tunable a b c d) = (refl, refl)
  set_rest p (cfg.ParamNet a b c d) = (refl, refl)
  set_rest p (cfg.Scope a b) = (refl, refl)

  pub result : (p : Plant) (asked : Asked) (o : Option ErrorCode) → refusal s p asked ≡ o → Result p asked (answered_plant s p asked o).answer (answered_plant s p asked o).after
  unfolding accepted answer refusal
  result p asked (Some code) r = Stays refl refl refl refl
  result p (Change named request) None r =
      let o = no_refusal p request (next_on p.state request named p.outputs_sent) r in
      let g = row_of_next p.state o.0 request named p.outputs_sent o.1 in
      let e = state_is p.state o.0 (next_on p.state request named p.outputs_sent) o.1 in
      moved p named request o.0 g (answered_plant s p (Change named request) None).after (ap (λ t. (changed_to s p request t).state) e) (ap (λ t. (changed_to s p request t).earlier) e) (ap (λ t. (changed_to s p request t).wires) e)
  result p (Setting body) None r = let e = set_rest p body in Sets body refl (set_where s p body r) e.0 e.1 refl
  result p (Question inf.State) None r = Stays refl refl refl refl
  result p (Question inf.Error) None r = Stays refl refl refl refl
  result p (Question (inf.Log category most)) None r = Stays refl refl refl refl

-- ---- what is told
told_or : (asked : Asked) (acked tells told : Bool) → told_after (Some asked) acked tells told ≡ true → (tells ≡ true) ⊎ (told ≡ true)
told_or asked acked tells told h = by asked acked h
  where
    one : (b : Bool) → (if b then true else told) ≡ true → (b ≡ true) ⊎ (told ≡ true)
    one true z = inl refl
    one false z = inr z

    by : (asked : Asked) (acked : Bool) → told_after (Some asked) acked tells told ≡ true → (tells ≡ true) ⊎ (told ≡ true)
    by (Change named stc.Reset) true z = never z
    by (Change named stc.Reset) false z = one tells z
    by (Change named (stc.Register a b c d)) acked z = one tells z
    by (Change named stc.Deregister) acked z = one tells z
    by (Change named stc.Prepare) acked z = one tells z
    by (Change named stc.Configure) acked z = one tells z
    by (Change named stc.Initialize) acked z = one tells z
    by (Change named (stc.Run x)) acked z = one tells z
    by (Change named (stc.DoStep n)) acked z = one tells z
    by (Change named stc.SendOutputs) acked z = one tells z
    by (Change named stc.Stop) acked z = one tells z
    by (Setting body) acked z = one tells z
    by (Question q) acked z = one tells z

-- it stays told, but for a reset that is acknowledged
told_stays : (asked : Asked) (acked tells : Bool) → ((named : State) → asked ≡ Change named stc.Reset → acked ≡ true → ⊥) → told_after (Some asked) acked tells true ≡ true
told_stays (Change named stc.Reset) true tells h = absurd (h named refl refl)
told_stays (Change named stc.Reset) false true h = refl
told_stays (Change named stc.Reset) false false h = refl
told_stays (Change named (stc.Register a b c d)) acked true h = refl
told_stays (Change named (stc.Register a b c d)) acked false h = refl
told_stays (Change named stc.Deregister) acked true h = refl
told_stays (Change named stc.Deregister) acked false h = refl
told_stays (Change named stc.Prepare) acked true h = refl
told_stays (Change named stc.Prepare) acked false h = refl
told_stays (Change named stc.Configure) acked true h = refl
told_stays (Change named stc.Configure) acked false h = refl
told_stays (Change named stc.Initialize) acked true h = refl
told_stays (Change named stc.Initialize) acked false h = refl
told_stays (Change named (stc.Run x)) acked true h = refl
told_stays (Change named (stc.Run x)) acked false h = refl
told_stays (Change named (stc.DoStep n)) acked true h = refl
told_stays (Change named (stc.DoStep n)) acked false h = refl
told_stays (Change named stc.SendOutputs) acked true h = refl
told_stays (Change named stc.SendOutputs) acked false h = refl
told_stays (Change named stc.Stop) acked true h = refl
told_stays (Change named stc.Stop) acked false h = refl
told_stays (Setting body) acked true h = refl
told_stays (Setting body) acked false h = refl
told_stays (Question q) acked true h = refl
told_stays (Question q) acked false h = refl

abbrev initialized_by : transport.SlaveAnswer → Bool
initialized_by (transport.StateAck state) = state_code state == 7
initialized_by transport.Ack = false
initialized_by (transport.Nack code) = false
initialized_by (transport.ErrorAck code) = false
initialized_by (transport.LogAck entries) = false

told_by : (r : req.SlaveRequest) (next : ℕ) (a : transport.SlaveAnswer) → tells_initialized (answer_note r next a) ≡ initialized_by a
told_by r next transport.Ack = refl
told_by r next (transport.Nack code) = refl
told_by r next (transport.StateAck state) = refl
told_by r next (transport.ErrorAck code) = refl
told_by r next (transport.LogAck entries) = refl

-- an answer that tells it names the state
names_state : (s : SlaveSetup) (p : Plant) (asked : Asked) (o : Option ErrorCode) → initialized_by (answered_plant s p asked o).answer ≡ true → is_on p.state ≡ true
unfolding answer
names_state s p asked (Some code) h = never h
names_state s p (Change named request) None h = never h
names_state s p (Setting body) None h = never h
names_state s p (Question inf.State) None h = grind (arith, nat_tests, h)
names_state s p (Question inf.Error) None h = never h
names_state s p (Question (inf.Log category most)) None h = never h

-- ---- from PREPARED on no change but a reset and the end leads back
on_register : (a b c d : ℕ) (state t : State) (sent : Bool) → transition_row (stc.Register a b c d) state sent ≡ Some t → is_on state ≡ true → is_on t ≡ true
on_register a b c d state t sent h o = grind (arith, nat_tests)

on_prepare : (state t : State) (sent : Bool) → transition_row stc.Prepare state sent ≡ Some t → is_on state ≡ true → is_on t ≡ true
on_prepare state t sent h o = grind (arith, nat_tests)

on_configure : (state t : State) (sent : Bool) → transition_row stc.Configure state sent ≡ Some t → is_on t ≡ true
on_configure state t sent h = grind (arith, nat_tests)

on_initialize : (state t : State) (sent : Bool) → transition_row stc.Initialize state sent ≡ Some t → is_on t ≡ true
on_initialize state t sent h = grind (arith, nat_tests)

on_run : (x : ℤ) (state t : State) (sent : Bool) → transition_row (stc.Run x) state sent ≡ Some t → is_on t ≡ true
on_run x state t sent h = grind (arith, nat_tests)

on_step : (n : ℕ) (state t : State) (sent : Bool) → transition_row (stc.DoStep n) state sent ≡ Some t → is_on t ≡ true
on_step n state t sent h = grind (arith, nat_tests)

on_outputs : (state t : State) (sent : Bool) → transition_row stc.SendOutputs state sent ≡ Some t → is_on t ≡ true
on_outputs state t sent h = grind (arith, nat_tests)

on_stop : (state t : State) (sent : Bool) → transition_row stc.Stop state sent ≡ Some t → is_on t ≡ true
on_stop state t sent h = grind (arith, nat_tests)

on_turn : (state : State) → is_on state ≡ true → is_on (next_on_turn state 0) ≡ true
unfolding next_on_turn
on_turn state h = grind (arith, nat_tests)

on_moved : (named : State) (request : Stc) (state t : State) (sent : Bool) → (request ≡ stc.Reset → ⊥) → transport.is_last (Change named request) transport.Ack ≡ false → transition_row request state sent ≡ Some t → is_on state ≡ true → is_on t ≡ true
on_moved named stc.Reset state t sent n l r o = absurd (n refl)
on_moved named stc.Deregister state t sent n l r o = never (sym l)
on_moved named (stc.Register a b c d) state t sent n l r o = on_register a b c d state t sent r o
on_moved named stc.Prepare state t sent n l r o = on_prepare state t sent r o
on_moved named stc.Configure state t sent n l r o = on_configure state t sent r
on_moved named stc.Initialize state t sent n l r o = on_initialize state t sent r
on_moved named (stc.Run x) state t sent n l r o = on_run x state t sent r
on_moved named (stc.DoStep k) state t sent n l r o = on_step k state t sent r
on_moved named stc.SendOutputs state t sent n l r o = on_outputs state t sent r
on_moved named stc.Stop state t sent n l r o = on_stop state t sent r

module _ (s : SlaveSetup) where
  abbrev after : Asked → transport.SlaveAnswer → Bool → Bool
  after asked a before = told_after (Some asked) (acknowledges a) (initialized_by a) before

  told_is : (p : Plant) (es : List DecidedRequest) (r : req.SlaveRequest) (n : Note) (next' : ℕ) → spec.heard_as (Some n.message) ≡ spec.Asks r → told_since (exchanged s p r n next' ∷ es) ≡ after r.asked (answers s r.asked p).answer (told_since es)
  told_is p es r n next' h =
      let a = (answers s r.asked p).answer in
      ap (λ o. told_after o (is_acknowledged (answer_note r next' a)) (tells_initialized (answer_note r next' a)) (told_since es)) (ap asked_heard h)
      ∙ ap (λ b. told_after (Some r.asked) b (tells_initialized (answer_note r next' a)) (told_since es)) (acknowledged r next' a)
      ∙ ap (λ b. told_after (Some r.asked) (acknowledges a) b (told_since es)) (told_by r next' a)

  -- what was told stays told where the exchange is no reset
  pub still_told : (p : Plant) (es : List DecidedRequest) (r : req.SlaveRequest) (n : Note) (next' : ℕ) → spec.heard_as (Some n.message) ≡ spec.Asks r → ((named : State) → r.asked ≡ Change named stc.Reset → acknowledges (answers s r.asked p).answer ≡ true → ⊥) → told_since es ≡ true
      → told_since (exchanged s p r n next' ∷ es) ≡ true
  still_told p es r n next' h no' told =
      told_is p es r n next' h ∙ ap (after r.asked (answers s r.asked p).answer) told ∙ told_stays r.asked (acknowledges (answers s r.asked p).answer) (initialized_by (answers s r.asked p).answer) no'

  abbrev ToldIn : Session → Plant → Bool → Type 0
  ToldIn Before p told = told ≡ false
  ToldIn (During master id) p told = told ≡ true → is_on p.state ≡ true
  ToldIn (After master id) p told = Unit {0}

  answered_on : (p : Plant) (asked : Asked) (o : Option ErrorCode) → refusal s p asked ≡ o → transport.is_last asked (answered_plant s p asked o).answer ≡ false → (told : Bool) → (told ≡ true → is_on p.state ≡ true) → after asked (answered_plant s p asked o).answer told ≡ true → is_on (answered_plant s p asked o).after.state ≡ true
  answered_on p asked o r l told f k = by (answered_plant s p asked o).answer (answered_plant s p asked o).after refl (result s p asked o r) l (told_or asked (acknowledges (answered_plant s p asked o).answer) (initialized_by (answered_plant s p asked o).answer) told k)
    where
      before : (initialized_by (answered_plant s p asked o).answer ≡ true) ⊎ (told ≡ true) → is_on p.state ≡ true
      before (inl t) = names_state s p asked o t
      before (inr t) = f t

      by : (a : transport.SlaveAnswer) (q : Plant) → (answered_plant s p asked o).answer ≡ a → Result p asked a q → transport.is_last asked a ≡ false → (initialized_by (answered_plant s p asked o).answer ≡ true) ⊎ (told ≡ true) → is_on q.state ≡ true
      by a q ea (Stays e x y z) l t = ap is_on e ∙ before t
      by a q ea (Sets body u home e x z) l t = ap is_on e ∙ before t
      by a q ea (Moves named request u n tr x y z) l t =
          on_moved named request p.state q.state p.outputs_sent n (ap (λ (w : Asked). transport.is_last w transport.Ack) (sym u) ∙ ap (transport.is_last asked) (sym z) ∙ l) tr (before t)
      by a q ea (Resets named u x z) l t =
          never (sym (ap (λ (w : Asked). after w a told) u ∙ ap (λ (w : transport.SlaveAnswer). after (Change named stc.Reset) w told) z) ∙ ap (λ (w : transport.SlaveAnswer). after asked w told) (sym ea) ∙ k)

  taken_on : (master from : Address) (id : ℕ) (r : req.SlaveRequest) (n : Note) (next' : ℕ) (p : Plant) (es : List DecidedRequest) → spec.heard_as (Some n.message) ≡ spec.Asks r → (told_since es ≡ true → is_on p.state ≡ true)
      → ToldIn (transport.session_after (During master id) from r (answers s r.asked p).answer) (answers s r.asked p).after (told_since (exchanged s p r n next' ∷ es))
  taken_on master from id r n next' p es h f = by (transport.is_last r.asked (answers s r.asked p).answer) refl
    where
      by : (b : Bool) → transport.is_last r.asked (answers s r.asked p).answer ≡ b → ToldIn (if b then After master id else During master id) (answers s r.asked p).after (told_since (exchanged s p r n next' ∷ es))
      by true e = tt
      by false e = λ k. answered_on p r.asked (refusal s p r.asked) refl e (told_since es) f (sym (told_is p es r n next' h) ∙ k)

  register_told : (asked : Asked) (a : transport.SlaveAnswer) → transport.is_register asked ≡ true → initialized_by a ≡ false → after asked a false ≡ false
  register_told (Change named (stc.Register x b c d)) a e i = ap (λ t. if t then true else false) i
  register_told (Change named stc.Deregister) a e i = never e
  register_told (Change named stc.Prepare) a e i = never e
  register_told (Change named stc.Configure) a e i = never e
  register_told (Change named stc.Initialize) a e i = never e
  register_told (Change named (stc.Run x)) a e i = never e
  register_told (Change named (stc.DoStep n)) a e i = never e
  register_told (Change named stc.SendOutputs) a e i = never e
  register_told (Change named stc.Stop) a e i = never e
  register_told (Change named stc.Reset) a e i = never e
  register_told (Setting body) a e i = never e
  register_told (Question q) a e i = never e

  register_answer : (p : Plant) (asked : Asked) (o : Option ErrorCode) → transport.is_register asked ≡ true → initialized_by (answered_plant s p asked o).answer ≡ false
  unfolding answer
  register_answer p asked (Some code) e = refl
  register_answer p (Change named request) None e = refl
  register_answer p (Setting body) None e = refl
  register_answer p (Question q) None e = never e

  first_on : (from : Address) (r : req.SlaveRequest) (n : Note) (next' : ℕ) (es : List DecidedRequest) → spec.heard_as (Some n.message) ≡ spec.Asks r → transport.is_register r.asked ≡ true → told_since es ≡ false → told_since (exchanged s (start_plant s) r n next' ∷ es) ≡ true → is_on (answers s r.asked (start_plant s)).after.state ≡ true
  first_on from r n next' es h reg f k =
      let none = told_is (start_plant s) es r n next' h ∙ ap (after r.asked (answers s r.asked (start_plant s)).answer) f ∙ register_told r.asked (answers s r.asked (start_plant s)).answer reg (register_answer (start_plant s) r.asked (refusal s (start_plant s) r.asked) reg) in
      never (sym none ∙ k)

  turned_on : (p : Plant) (a : Act) → is_on p.state ≡ true → is_on (turned s p a).after.state ≡ true
  turned_on p Stay h = h
  turned_on p (Wait left) h = h
  turned_on p (Fault code) h = refl
  turned_on p (Step x) h = refl
  turned_on p Pass h = on_turn p.state h

  brings_on : (from : Address) (number id : ℕ) (payload : List ℕ) (p : Plant) → is_on p.state ≡ true → is_on (brings s from number id payload p).state ≡ true
  brings_on from number id payload p h = by (is_listening p.state)
    where
      by : (b : Bool) → is_on (if b then record p { wires = brought s.desc p.wires from number id payload p.steps } else p).state ≡ true
      by true = h
      by false = h

  told_lasts : Lasts s (λ es. Unit {0}) (λ session p es. ToldIn session p (told_since es))
  told_lasts = record {
    less = λ d es a. tt;
    start = refl;
    first = λ from r n next' es h ev reg a f. first_on from r n next' es h reg f;
    taken = λ master from id r n next' p es h ev reg a f. taken_on master from id r n next' p es h f;
    brings = λ master from id number i payload p es a f. λ k. brings_on from number i payload p (f k);
    turns = λ master id quiet p es r r' ok a f. λ k. turned_on p (act s quiet p) (f k);
  }

  module _ (w : Parties) (n : ℕ) (rd : ReadsMessages w) where
    told_at : (log : List LogEntry) → ToldIn (at (machine s) w n log).slave.session (plant_at s w n log) (told_since (served_at s w n log))
    told_at log = along s (λ es. Unit {0}) (λ session p es. ToldIn session p (told_since es)) told_lasts w n (sends_back s w n rd).agree log tt

    -- a slave in a session that told that it is initialized is past its configuration
    pub on_at : (log : List LogEntry) → transport.is_open (at (machine s) w n log).slave.session ≡ true → told_since (served_at s w n log) ≡ true → is_on (plant_at s w n log).state ≡ true
    on_at log o t = by (at (machine s) w n log).slave.session o (told_at log)
      where
        by : (session : Session) → transport.is_open session ≡ true → ToldIn session (plant_at s w n log) (told_since (served_at s w n log)) → is_on (plant_at s w n log).state ≡ true
        by Before o k = never o
        by (During master id) o k = k t
        by (After master id) o k = never o

    -- and it has begun its session
    pub begun_at : (log : List LogEntry) → told_since (served_at s w n log) ≡ true → (at (machine s) w n log).slave.session ≡ Before → ⊥
    begun_at log t e =
        let P : Session → Type 0 = λ z. ToldIn z (plant_at s w n log) (told_since (served_at s w n log)) in
        never (sym (subst P e (told_at log)) ∙ t)
