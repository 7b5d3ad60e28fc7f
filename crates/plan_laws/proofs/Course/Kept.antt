-- What one exchange leaves of what is told: the settings that were taken, and that the outputs are ready.
use Rattle.std.proofs.Common.{◌≡◌, ℕ, ◌==◌, ◌&&◌, not, nat_lt, Bool, true, false, if◌then◌else◌, List, [], ◌∷◌, reverse, Option, Some, None, refl, sym, ap, ◌∙◌, arith}
use Rattle.std.specs.Prelude.{◌-◌}
use Rattle.std.proofs.lemmas.Bool.{and_parts, eqb-true}
use Rattle.std.proofs.lemmas.Bool.Decides.{nat_tests}
use Rattle.dcp_types.specs.declared.states.State.{State}
use Rattle.pdu_layout.specs.declared.messages.Stc.{Stc}
use Rattle.pdu_layout.specs.declared.messages.Stc.TheVariants as stc
use Rattle.pdu_layout.specs.declared.messages.Cfg.{Cfg}
use Rattle.pdu_layout.specs.Fields.{FieldValue}
use Rattle.pdu_layout.specs.Fields.FieldValue.{Number, Signed, Bytes}
use Rattle.slave_desc.specs.declared.descriptions.SlaveDesc.{SlaveDesc}
use Rattle.scenario.specs.declared.scenarios.Scenario.{Scenario}
use Rattle.log_spec.specs.Messages.{Note, is_request_code}
use Rattle.log_spec.specs.Log.{DecidedRequest}
use Rattle.plan_laws.specs.Runs.{lists_until}
use Rattle.lockstep_laws.specs.Steps.{RowEvent, Show, Step, Restart, event_asked, Accepted, reply_with, reply_of, Does, told_by, told_of}
use Rattle.slave_spec.specs.declared.words.Asked.{Asked}
use Rattle.slave_spec.specs.declared.words.Asked.TheVariants.{Change, Setting, Question}
use Rattle.slave_spec.specs.Heard.{Brings, Nothing, number_at, bytes_at, state_from, stc_of, cfg_of, inf_of, heard_asking}
use Rattle.plan_laws.specs.Course.Taken.{asked_heard, asked_in, is_acknowledged, setting_taken, settings_taken, tells_initialized, told_after, told_since, same_settings}
use Rattle.plan_laws.specs.Course.Courses.{tuned, opened, may_set}

-- ---- an acknowledged reset is a row event that is done at once
acked_reply : (vs : List FieldValue) → reply_with 176 vs ≡ Accepted
acked_reply [] = refl
acked_reply (Signed a ∷ vs) = refl
acked_reply (Bytes a ∷ vs) = refl
acked_reply (Number a ∷ []) = refl
acked_reply (Number a ∷ Signed b ∷ vs) = refl
acked_reply (Number a ∷ Bytes b ∷ vs) = refl
acked_reply (Number a ∷ Number b ∷ []) = refl
acked_reply (Number a ∷ Number b ∷ Signed c ∷ vs) = refl
acked_reply (Number a ∷ Number b ∷ Bytes c ∷ vs) = refl
acked_reply (Number a ∷ Number b ∷ Number c ∷ vs) = refl

accepted_reply : (a : Note) → is_acknowledged a ≡ true → reply_of a ≡ Accepted
accepted_reply a h = ap (λ c. reply_with c a.message.values) (eqb-true a.message.code 176 h) ∙ acked_reply a.message.values

unlike : (b : Bool) (a more : Stc) → (a ≡ stc.Reset → ⊥) → (if b then a else more) ≡ stc.Reset → (b ≡ false) × (more ≡ stc.Reset)
unlike true a more f h = absurd (f h)
unlike false a more f h = (refl, h)

reset_code : (c : ℕ) (vs : List FieldValue) → is_request_code c ≡ true → nat_lt c 32 ≡ true → stc_of c vs ≡ stc.Reset → c ≡ 10
reset_code c vs r e h =
    let a1 = unlike (c == 1) (stc.Register (number_at 3 vs) (number_at 4 vs) (number_at 5 vs) (number_at 6 vs)) _ (λ z. absurd cc) h in
    let a2 = unlike (c == 2) stc.Deregister _ (λ z. absurd cc) a1.1 in
    let a3 = unlike (c == 3) stc.Prepare _ (λ z. absurd cc) a2.1 in
    let a4 = unlike (c == 4) stc.Configure _ (λ z. absurd cc) a3.1 in
    let a5 = unlike (c == 5) stc.Initialize _ (λ z. absurd cc) a4.1 in
    let a6 = unlike (c == 6) _ _ (λ z. absurd cc) a5.1 in
    let a7 = unlike (c == 7) (stc.DoStep (number_at 3 vs)) _ (λ z. absurd cc) a6.1 in
    let a8 = unlike (c == 8) stc.SendOutputs _ (λ z. absurd cc) a7.1 in
    let a9 = unlike (c == 9) stc.Stop _ (λ z. absurd cc) a8.1 in
    grind (arith, nat_tests, r, e, a1.0, a2.0, a3.0, a4.0, a5.0, a6.0, a7.0, a8.0, a9.0)

reset_event : (n : Note) (named : State) → is_request_code n.message.code ≡ true → asked_in n ≡ Some (Change named stc.Reset) → event_asked n ≡ Some Restart
reset_event n named r h = by (nat_lt c 32) refl h
  where
    c : ℕ
    c = n.message.code

    vs : List FieldValue
    vs = n.message.values

    rest : (b2 b3 b4 : Bool) → asked_heard (if b2 then heard_asking vs (Setting (cfg_of c vs)) else (if b3 then heard_asking vs (Question (inf_of c vs)) else (if b4 then Brings (number_at 0 vs) (number_at 1 vs) (bytes_at 2 vs) else Nothing))) ≡ Some (Change named stc.Reset) → ⊥
    rest true b3 b4 k = cc
    rest false true b4 k = cc
    rest false false true k = cc
    rest false false false k = cc

    event : ℕ → Option RowEvent
    event k = if k == 8 then Some Show else (if k == 7 then Some Step else (if k == 10 then Some Restart else None))

    by : (b : Bool) → nat_lt c 32 ≡ b → asked_heard (if b then heard_asking vs (Change (state_from (number_at 2 vs)) (stc_of c vs)) else (if nat_lt c 128 then heard_asking vs (Setting (cfg_of c vs)) else (if nat_lt c 176 then heard_asking vs (Question (inf_of c vs)) else (if c == 240 then Brings (number_at 0 vs) (number_at 1 vs) (bytes_at 2 vs) else Nothing)))) ≡ Some (Change named stc.Reset) → event_asked n ≡ Some Restart
    by true e k = let q : stc_of c vs ≡ stc.Reset = cc in ap event (reset_code c vs r e q)
    by false e k = absurd (rest (nat_lt c 128) (nat_lt c 176) (c == 240) k)

reset_does : (e : DecidedRequest) (named : State) → is_request_code e.request.message.code ≡ true → asked_in e.request ≡ Some (Change named stc.Reset) → is_acknowledged e.answer ≡ true → told_of e ≡ Does
reset_does e named r h a = ap (λ q. told_by q (reply_of e.answer)) (reset_event e.request named r h) ∙ ap (told_by (Some Restart)) (accepted_reply e.answer a)

-- ---- what stays
still : (b : Bool) → (if b then true else true) ≡ true
still true = refl
still false = refl

told_stays : (o : Option Asked) (acked tells : Bool) → ((named : State) → o ≡ Some (Change named stc.Reset) → acked ≡ true → ⊥) → told_after o acked tells true ≡ true
told_stays None acked tells f = still tells
told_stays (Some (Setting body)) acked tells f = still tells
told_stays (Some (Question q)) acked tells f = still tells
told_stays (Some (Change named (stc.Register a b c d))) acked tells f = still tells
told_stays (Some (Change named stc.Deregister)) acked tells f = still tells
told_stays (Some (Change named stc.Prepare)) acked tells f = still tells
told_stays (Some (Change named stc.Configure)) acked tells f = still tells
told_stays (Some (Change named stc.Initialize)) acked tells f = still tells
told_stays (Some (Change named (stc.Run x))) acked tells f = still tells
told_stays (Some (Change named (stc.DoStep n))) acked tells f = still tells
told_stays (Some (Change named stc.SendOutputs)) acked tells f = still tells
told_stays (Some (Change named stc.Stop)) acked tells f = still tells
told_stays (Some (Change named stc.Reset)) true tells f = absurd (f named refl refl)
told_stays (Some (Change named stc.Reset)) false tells f = still tells

-- no setting is asked where the outputs are ready
same_taken : (sc : Scenario) (s : ℕ) (d : SlaveDesc) (es : List DecidedRequest) (o : Option Asked) (acked : Bool) (rest : List Cfg) → told_since es ≡ true → may_set sc s d es o ≡ true → setting_taken o acked rest ≡ rest
same_taken sc s d es None acked rest t m = refl
same_taken sc s d es (Some (Change named request)) acked rest t m = refl
same_taken sc s d es (Some (Question q)) acked rest t m = refl
same_taken sc s d es (Some (Setting body)) acked rest t m = absurd (clash (sym (ap not t) ∙ m))
  where
    clash : false ≡ true → ⊥
    clash z = cc

both : (a b : Bool) → a ≡ true → b ≡ true → (a && b) ≡ true
both true true h k = refl
both true false h k = k
both false b h k = h

-- but for a reset that is done, an opened slave stays opened
pub opened_same : (sc : Scenario) (s : ℕ) (d : SlaveDesc) (run : ℕ) (e : DecidedRequest) (es : List DecidedRequest) → (told_of e ≡ Does → ⊥) → is_request_code e.request.message.code ≡ true → may_set sc s d es (asked_in e.request) ≡ true
    → opened sc s d run es ≡ true → opened sc s d run (e ∷ es) ≡ true
opened_same sc s d run e es not_done r m h =
    let a = and_parts (tuned sc s d run es) (told_since es) h in
    let taken = same_taken sc s d es (asked_in e.request) (is_acknowledged e.answer) (settings_taken es) a.1 m in
    let told = ap (told_after (asked_in e.request) (is_acknowledged e.answer) (tells_initialized e.answer)) a.1 ∙ told_stays (asked_in e.request) (is_acknowledged e.answer) (tells_initialized e.answer) (λ named k q. not_done (reset_does e named r k q)) in
    both (tuned sc s d run (e ∷ es)) (told_since (e ∷ es)) (ap (λ l. same_settings l (reverse (lists_until sc s d (run - 1)))) taken ∙ a.0) told
