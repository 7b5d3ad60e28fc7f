-- A slave that refuses a step because inputs are missing runs, and some data id that comes to it has nothing kept for its place.
use Rattle.std.proofs.Common.{◌≡◌, ℕ, ◌-◌, ◌^◌, Bool, true, false, if◌then◌else◌, Option, Some, None, List, [], ◌∷◌, length, Result, Ok, Err, refl, sym, ap, ◌∙◌, subst, arith}
use Rattle.std.specs.Prelude.{◌==◌, ◌&&◌, not, nat_lt, option_map}
use Rattle.std.specs.List.{list_all, filter_map, cons_option}
use Rattle.std.proofs.lemmas.Bool.{eq-eqb}
use Rattle.std.proofs.lemmas.Bool.Decides.{nat_tests}
use Rattle.dcp_types.specs.Codes.{error_code}
use Rattle.dcp_types.specs.declared.error_codes.ErrorCode.{ErrorCode}
use Rattle.dcp_types.specs.declared.error_codes.ErrorCode.TheVariants.{Sequence, WrongState, NotSupported, UnknownVr, TypeMismatch, Position, IncompleteConfig, InputsMissing, BadSteps, UuidMismatch, Version, OpMode, ValueRange, InErrorState}
use Rattle.dcp_types.specs.declared.states.State.{State}
use Rattle.dcp_types.specs.declared.states.State.TheVariants.{Running}
use Rattle.pdu_layout.specs.Fields.{FieldValue}
use Rattle.pdu_layout.specs.declared.messages.Stc.TheVariants as stc
use Rattle.pdu_layout.specs.declared.messages.Inf.TheVariants as inf
use Rattle.master_spec.specs.declared.requests.Answer.TheVariants.{Nack}
use Rattle.master_spec.specs.News.{Answers, news_in}
use Rattle.slave_states.specs.Transitions.{transition_row, is_barred, is_same, or_wrong, next_on}
use Rattle.slave_spec.specs.Changes.{Change as WiringChange, Entry, Side, vr_for, entries, has_id, put_ascending, ascending, ids}
use Rattle.slave_spec.specs.Payloads.{ready}
use Rattle.slave_spec.specs.declared.words.SlaveSetup.{SlaveSetup}
use Rattle.slave_spec.specs.declared.words.SlaveRequest as req
use Rattle.slave_spec.specs.declared.words.Asked.{Asked}
use Rattle.slave_spec.specs.declared.words.Asked.TheVariants.{Change, Setting, Question}
use Rattle.slave_spec.specs.Heard as spec
use Rattle.slave_spec.specs.Transport as transport
use Rattle.slave_spec.specs.Plants.{Plant}
use Rattle.slave_spec.specs.Requests.{first_true, change_refusal, moved_refusal, refusal, answer, answered_plant}
use Rattle.slave_laws.proofs.Talk.Plants.{row_of_next}

never : {A : Type 0} → false ≡ true → A
never e = absurd cc

-- ---- the refusal that was told
nack_told : (r : req.SlaveRequest) (next : ℕ) (a : transport.SlaveAnswer) (number s code : ℕ) → news_in (Some (transport.answer_message r next a)) ≡ Answers number s (Nack code) → (c : ErrorCode) × ((a ≡ transport.Nack c) × (error_code c ≡ code))
nack_told r next transport.Ack number s code h = absurd cc
nack_told r next (transport.Nack c) number s code h = (c, (refl, cc))
nack_told r next (transport.StateAck st) number s code h = absurd cc
nack_told r next (transport.ErrorAck c) number s code h = absurd cc
nack_told r next (transport.LogAck entries) number s code h = absurd cc

missing_code : (c : ErrorCode) → (error_code c == 8) ≡ true → c ≡ InputsMissing
missing_code Sequence h = never h
missing_code WrongState h = never h
missing_code NotSupported h = never h
missing_code UnknownVr h = never h
missing_code TypeMismatch h = never h
missing_code Position h = never h
missing_code IncompleteConfig h = never h
missing_code InputsMissing h = refl
missing_code BadSteps h = never h
missing_code UuidMismatch h = never h
missing_code Version h = never h
missing_code OpMode h = never h
missing_code ValueRange h = never h
missing_code InErrorState h = never h

nack_refused : (s : SlaveSetup) (p : Plant) (asked : Asked) (o : Option ErrorCode) (c : ErrorCode) → (answered_plant s p asked o).answer ≡ transport.Nack c → o ≡ Some c
unfolding answer
nack_refused s p asked (Some d) c h = cc
nack_refused s p (Change named body) None c h = absurd cc
nack_refused s p (Setting body) None c h = absurd cc
nack_refused s p (Question inf.State) None c h = absurd cc
nack_refused s p (Question inf.Error) None c h = absurd cc
nack_refused s p (Question (inf.Log category most)) None c h = absurd cc

-- ---- a request for a step
pub record AsksStep (asked : Asked) : Type 0 where
  pub named : State
  pub steps : ℕ
  pub is : asked ≡ Change named (stc.DoStep steps)

step_heard : (vs : List FieldValue) (r : req.SlaveRequest) → spec.heard_in 7 vs ≡ spec.Asks r → AsksStep r.asked
step_heard vs r h =
    let y : record { number = spec.number_at 0 vs; receiver = spec.number_at 1 vs; asked = Change (spec.state_from (spec.number_at 2 vs)) (stc.DoStep (spec.number_at 3 vs)) } ≡ r = cc in
    record { named = spec.state_from (spec.number_at 2 vs); steps = spec.number_at 3 vs; is = ap (λ (x : req.SlaveRequest). x.asked) (sym y) }

pub asks_step_heard : (code : ℕ) (vs : List FieldValue) (r : req.SlaveRequest) → code ≡ 7 → spec.heard_in code vs ≡ spec.Asks r → AsksStep r.asked
asks_step_heard code vs r e h = let P : ℕ → Type 0 = λ c. spec.heard_in c vs ≡ spec.Asks r in step_heard vs r (subst P e h)

-- ---- what the refusal says
next_errs : (state named : State) (steps : ℕ) (sent : Bool) → next_on state (stc.DoStep steps) named sent ≡ Err InputsMissing → ⊥
unfolding next_on
next_errs state named steps sent h = by (is_barred state (stc.DoStep steps)) (is_same named state) (transition_row (stc.DoStep steps) state sent) h
  where
    by : (b c : Bool) (o : Option State) → (if b then Err InErrorState else (if c then or_wrong o else Err WrongState)) ≡ Err InputsMissing → ⊥
    by true c o e = cc
    by false true None e = cc
    by false true (Some z) e = cc
    by false false o e = cc

runs_step : (steps : ℕ) (state t : State) (sent : Bool) → transition_row (stc.DoStep steps) state sent ≡ Some t → state ≡ Running
runs_step steps state t sent h = grind arith

pub record LacksInputs (p : Plant) : Type 0 where
  pub running : p.state ≡ Running
  pub lacks : ready p.wires p.steps ≡ false

lacks_by : (p : Plant) (steps : ℕ) → change_refusal p (stc.DoStep steps) ≡ Some InputsMissing → ready p.wires p.steps ≡ false
lacks_by p steps h = by ((steps == 1) && nat_lt p.steps (2 ^ 32 - 1)) (ready p.wires p.steps) h
  where
    by : (b c : Bool) → first_true ((not b, BadSteps) ∷ (not c, InputsMissing) ∷ []) ≡ Some InputsMissing → c ≡ false
    by true true e = absurd cc
    by true false e = refl
    by false c e = absurd cc

moved_lacks : (p : Plant) (named : State) (steps : ℕ) (r : Result State ErrorCode) → next_on p.state (stc.DoStep steps) named p.outputs_sent ≡ r → moved_refusal p (stc.DoStep steps) r ≡ Some InputsMissing → LacksInputs p
moved_lacks p named steps (Err code) e h = let z : code ≡ InputsMissing = cc in absurd (next_errs p.state named steps p.outputs_sent (e ∙ ap (λ (c : ErrorCode). Err c) z))
moved_lacks p named steps (Ok t) e h = record { running = runs_step steps p.state t p.outputs_sent (row_of_next p.state t (stc.DoStep steps) named p.outputs_sent e); lacks = lacks_by p steps h }

refused_lacks : (s : SlaveSetup) (p : Plant) (named : State) (steps : ℕ) → refusal s p (Change named (stc.DoStep steps)) ≡ Some InputsMissing → LacksInputs p
unfolding refusal
refused_lacks s p named steps h = moved_lacks p named steps (next_on p.state (stc.DoStep steps) named p.outputs_sent) refl h

-- where a step is refused with this code
pub lacks_inputs : (s : SlaveSetup) (p : Plant) (r : req.SlaveRequest) (next number sender code : ℕ) → AsksStep r.asked → (code == 8) ≡ true → news_in (Some (transport.answer_message r next (answered_plant s p r.asked (refusal s p r.asked)).answer)) ≡ Answers number sender (Nack code) → LacksInputs p
lacks_inputs s p r next number sender code a e h =
    let t = nack_told r next (answered_plant s p r.asked (refusal s p r.asked)).answer number sender code h in
    let c : t.0 ≡ InputsMissing = missing_code t.0 (ap (λ (n : ℕ). n == 8) (t.1).1 ∙ e) in
    let o = nack_refused s p r.asked (refusal s p r.asked) t.0 (t.1).0 in
    refused_lacks s p a.named a.steps (ap (refusal s p) (sym a.is) ∙ o ∙ ap (λ (d : ErrorCode). Some d) c)

-- ---- an id that has nothing kept
none_put : (t : ℕ → Bool) (n : ℕ) (xs : List ℕ) → t n ≡ true → list_all t xs ≡ true → list_all t (put_ascending n xs) ≡ true
none_put t n [] h k = ap (λ (b : Bool). b && true) h
none_put t n (x ∷ xs) h k = by (λ z. none_put t n xs h z) (nat_lt n x) (n == x)
  where
    both : (b c : Bool) → b ≡ true → c ≡ true → (b && c) ≡ true
    both b c x y = grind arith

    parts : (b c : Bool) → (b && c) ≡ true → (b ≡ true) × (c ≡ true)
    parts true true e = (refl, refl)
    parts true false e = never e
    parts false c e = never e

    by : (list_all t xs ≡ true → list_all t (put_ascending n xs) ≡ true) → (b c : Bool) → list_all t (if b then n ∷ x ∷ xs else (if c then x ∷ xs else x ∷ put_ascending n xs)) ≡ true
    by f true c = both (t n) (list_all t (x ∷ xs)) h k
    by f false true = k
    by f false false = let q = parts (t x) (list_all t xs) k in both (t x) (list_all t (put_ascending n xs)) q.0 (f q.1)

pub record Lacking (side : Side) (t : ℕ → Bool) (changes : List WiringChange) : Type 0 where
  pub id : ℕ
  pub known : has_id side id changes ≡ true
  pub lacks : t id ≡ false

known_more : (n vr : ℕ) (es : List ℕ) → nat_lt 0 (length (cons_option (if n == n then Some vr else None) es)) ≡ true
known_more n vr es = ap (λ (b : Bool). nat_lt 0 (length (cons_option (if b then Some vr else None) es))) (eq-eqb n n refl) ∙ some
  where
    some : nat_lt 0 (length (vr ∷ es)) ≡ true
    some = grind (arith, nat_tests)

known_later : (o : Option ℕ) (es : List ℕ) → nat_lt 0 (length es) ≡ true → nat_lt 0 (length (cons_option o es)) ≡ true
known_later None es h = h
known_later (Some e) es h = grind (arith, nat_tests)

-- where not all ids pass, one with an entry does not
pub lacking : (side : Side) (t : ℕ → Bool) (changes : List WiringChange) → list_all t (ids side changes) ≡ false → Lacking side t changes
lacking side t [] h = never (sym h)
lacking side t (c ∷ changes) h = by (λ k. lacking side t changes k) (side c) refl (list_all t (ids side changes)) refl
  where
    rest : List ℕ
    rest = filter_map (λ change. option_map (λ (e : Entry). e.id) (side change)) changes

    later : Lacking side t changes → Lacking side t (c ∷ changes)
    later k = record { id = k.id; known = known_later (vr_for k.id (side c)) (entries side k.id changes) k.known; lacks = k.lacks }

    here : (e : Entry) → side c ≡ Some e → (b : Bool) → t e.id ≡ b → list_all t (ids side changes) ≡ true → Lacking side t (c ∷ changes)
    here e q true f k =
        never (sym (sym (ap (λ (o : Option Entry). list_all t (ascending (cons_option (option_map (λ (x : Entry). x.id) o) rest))) q ∙ none_put t e.id (ascending rest) f k) ∙ h))
    here e q false f k =
        record { id = e.id; known = ap (λ (o : Option Entry). nat_lt 0 (length (cons_option (vr_for e.id o) (entries side e.id changes)))) q ∙ known_more e.id e.vr (entries side e.id changes); lacks = f }

    by : (list_all t (ids side changes) ≡ false → Lacking side t changes) → (o : Option Entry) → side c ≡ o → (b : Bool) → list_all t (ids side changes) ≡ b → Lacking side t (c ∷ changes)
    by f o q false k = later (f k)
    by f None q true k = never (sym (sym (ap (λ (o : Option Entry). list_all t (ascending (cons_option (option_map (λ (x : Entry). x.id) o) rest))) q ∙ k) ∙ h))
    by f (Some e) q true k = here e q (t e.id) refl k
