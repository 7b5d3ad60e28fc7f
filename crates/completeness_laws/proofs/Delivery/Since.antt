-- The turns of a slave since it took its newest change of state.
use Rattle.std.proofs.Common.{◌≡◌, ℕ, ◌+◌, ◌≤◌, Bool, true, false, if◌then◌else◌, ◌⊎◌, inl, inr, List, [], ◌∷◌, ◌++◌, length, refl, sym, ap, ◌∙◌, subst, arith}
use Rattle.std.specs.Prelude.{◌==◌, ◌&&◌, nat_le, nat_lt}
use Rattle.std.proofs.lemmas.Bool.{eqb-true, eq-eqb}
use Rattle.dcp_types.specs.declared.addresses.Address.{Address}
use Rattle.dcp_types.specs.declared.states.State.{State}
use Rattle.dcp_types.specs.declared.states.State.TheVariants.{Alive}
use Rattle.pdu_layout.specs.Fields.{FieldValue}
use Rattle.pdu_layout.specs.declared.messages.Stc.{Stc}
use Rattle.pdu_layout.specs.declared.messages.Stc.TheVariants as stc
use Rattle.dcp_ends.specs.declared.entries.LogEntry.{LogEntry}
use Rattle.slave_desc.specs.declared.descriptions.SlaveDesc.{SlaveDesc}
use Rattle.scenario.specs.declared.scenarios.Scenario.{Scenario}
use Rattle.log_spec.specs.Log.{Parties, DecidedRequest}
use Rattle.master_spec.specs.Requests.{is_turn_of}
use Rattle.plan_laws.specs.Course.Taken.{is_acknowledged}
use Rattle.slave_spec.specs.Heard as spec
use Rattle.slave_spec.specs.Transport as transport
use Rattle.slave_spec.specs.Plants.{Plant}
use Rattle.slave_spec.specs.Requests.{refusal}
use Rattle.slave_spec.specs.Slaves.{machine, has_ended}
use Rattle.slave_spec.specs.declared.words.SlaveSetup.{SlaveSetup}
use Rattle.slave_spec.specs.declared.words.SlaveRequest as req
use Rattle.slave_spec.specs.declared.words.Asked as ask
use Rattle.slave_spec.specs.declared.words.Asked.TheVariants.{Change, Setting, Question}
use Rattle.slave_spec.specs.declared.words.Session.{Session}
use Rattle.slave_spec.specs.declared.words.Session.TheVariants.{Before, During, After}
use Rattle.slave_laws.specs.Talk.Desks.{answer_note, at}
use Rattle.slave_laws.proofs.Talk.Sending.{sends_back}
use Rattle.slave_laws.proofs.Model.Along.{Lasts, along}
use Rattle.slave_laws.proofs.Data.Ended.{ended_alive}
use Rattle.run_laws.specs.Laws.{parties, slave_setup_of}
use Rattle.completeness_laws.proofs.Delivery.Happens.{TakesIt, Happens, Keeps, Takes, Ticks, Sleeps, happens}
use Rattle.completeness_laws.proofs.Delivery.Still.{is_passed_through, Still, gone, turn_still, SameState, Enters, taken_goes}
use Rattle.completeness_laws.proofs.Delivery.Turning.{turns_of}

clash : true ≡ false → ⊥
clash z = cc

-- ---- the changes of state that were taken
abbrev pub is_change_code : ℕ → Bool
is_change_code code = nat_le 1 code && nat_le code 10

abbrev pub is_change_taken : DecidedRequest → Bool
is_change_taken x = is_change_code x.request.message.code && is_acknowledged x.answer

abbrev pub changes : List DecidedRequest → ℕ
changes [] = 0
changes (x ∷ es) = (if is_change_taken x then 1 else 0) + changes es

-- other codes are heard as a reset, or as no change
not_code : (code i : ℕ) → is_change_code code ≡ false → is_change_code i ≡ true → (code == i) ≡ false
not_code code i h k = by (code == i) refl
  where
    by : (b : Bool) → (code == i) ≡ b → b ≡ false
    by true e = absurd (clash (sym k ∙ ap is_change_code (sym (eqb-true code i e)) ∙ h))
    by false e = refl

reset_code : (code : ℕ) (vs : List FieldValue) → is_change_code code ≡ false → spec.stc_of code vs ≡ stc.Reset
reset_code code vs h =
    by (code == 1) (code == 2) (code == 3) (code == 4) (code == 5) (code == 6) (code == 7) (code == 8) (code == 9) (not_code code 1 h refl) (not_code code 2 h refl) (not_code code 3 h refl) (not_code code 4 h refl) (not_code code 5 h refl) (not_code code 6 h refl) (not_code code 7 h refl) (not_code code 8 h refl)
    (not_code code 9 h refl)
  where
    by : (a b c d e f g h i : Bool) → a ≡ false → b ≡ false → c ≡ false → d ≡ false → e ≡ false → f ≡ false → g ≡ false → h ≡ false → i ≡ false
        → (if a then stc.Register (spec.number_at 3 vs) (spec.number_at 4 vs) (spec.number_at 5 vs) (spec.number_at 6 vs) else (if b then stc.Deregister else (if c then stc.Prepare else (if d then stc.Configure else (if e then stc.Initialize else (if f then stc.Run (spec.signed_at 3 vs) else (if g then stc.DoStep (spec.number_at 3 vs) else (if h then stc.SendOutputs else (if i then stc.Stop else stc.Reset)))))))))
        ≡ stc.Reset
    by a b c d e f g h i p q r s t u v w x = grind arith

change_code : (code : ℕ) (vs : List FieldValue) (r : req.SlaveRequest) (named : State) (body : Stc) → spec.heard_in code vs ≡ spec.Asks r → r.asked ≡ Change named body → is_change_code code ≡ false → body ≡ stc.Reset
change_code code vs r named body h e k = by (nat_lt code 32) (nat_lt code 128) (nat_lt code 176) (code == 240) h
  where
    asks : (a : ask.Asked) → spec.heard_asking vs a ≡ spec.Asks r → a ≡ Change named body
    asks a z = let y : record { number = spec.number_at 0 vs; receiver = spec.number_at 1 vs; asked = a } ≡ r = cc in ap (λ (x : req.SlaveRequest). x.asked) y ∙ e

    by : (a b c d : Bool) → (if a then spec.heard_asking vs (Change (spec.state_from (spec.number_at 2 vs)) (spec.stc_of code vs)) else (if b then spec.heard_asking vs (Setting (spec.cfg_of code vs)) else (if c then spec.heard_asking vs (Question (spec.inf_of code vs)) else (if d then spec.Brings (spec.number_at 0 vs) (spec.number_at 1 vs) (spec.bytes_at 2 vs) else spec.Nothing)))) ≡ spec.Asks r
        → body ≡ stc.Reset
    by true b c d z =
        let y : Change (spec.state_from (spec.number_at 2 vs)) (spec.stc_of code vs) ≡ Change named body = asks (Change (spec.state_from (spec.number_at 2 vs)) (spec.stc_of code vs)) z in
        let x : spec.stc_of code vs ≡ body = cc in
        sym x ∙ reset_code code vs k
    by false true c d z = let y : Setting (spec.cfg_of code vs) ≡ Change named body = asks (Setting (spec.cfg_of code vs)) z in absurd cc
    by false false true d z = let y : Question (spec.inf_of code vs) ≡ Change named body = asks (Question (spec.inf_of code vs)) z in absurd cc
    by false false false true z = absurd cc
    by false false false false z = absurd cc

-- ---- without a session it is in no such state
abbrev AliveBefore : Session → Plant → Type 0
AliveBefore Before p = p.state ≡ Alive
AliveBefore (During master id) p = Unit {0}
AliveBefore (After master id) p = Unit {0}

begun_before : (b : Bool) (master master' : Address) (id id' : ℕ) (p : Plant) → AliveBefore (if b then After master id else During master' id') p
begun_before true master master' id id' p = tt
begun_before false master master' id id' p = tt

before_lasts : (X : SlaveSetup) → Lasts X (λ es. Unit {0}) (λ session p es. AliveBefore session p)
before_lasts X = record {
  less = λ d es a. tt;
  start = refl;
  first = λ from r k next' es h ev reg a e. tt;
  taken = λ master from id r k next' p es h ev reg a e. begun_before (transport.is_last r.asked ((machine X).answers r.asked p).answer) master master id id ((machine X).answers r.asked p).after;
  brings = λ master from id number i payload p es a e. tt;
  turns = λ master id quiet p es r r' ok a e. tt;
}

keep_weaker : (busy n m : ℕ) (state : State) (left : ℕ) → m ≤ n → Still busy n state left → Still busy m state left
keep_weaker busy n m state left h k e = let a = k e in omega (arith, a, h)

keep_same : (X : SlaveSetup) (busy n : ℕ) (p q : Plant) → SameState X p q → Still busy n p.state p.busy_left → Still busy n q.state q.busy_left
keep_same X busy n p q h k =
    let P : State → Type 0 = λ t. Still busy n t p.busy_left in
    let Q : ℕ → Type 0 = λ l. Still busy n q.state l in
    subst Q (sym h.1) (subst P (sym h.0) k)

module _ (sc : Scenario) (other : SlaveDesc) (s : ℕ) where
  abbrev W : Parties
  W = parties sc other

  abbrev X : SlaveSetup
  X = slave_setup_of sc other s

  abbrev M : transport.Machine Plant
  M = machine X

  abbrev busy : ℕ
  busy = X.desc.busy

  abbrev pub served : List LogEntry → List DecidedRequest
  served log = (at M W s log).desk.served

  abbrev pub plant : List LogEntry → Plant
  plant log = (at M W s log).slave.inner

  abbrev pub since : List LogEntry → ℕ
  since [] = 0
  since (e ∷ log) = if changes (served (e ∷ log)) == changes (served log) then (if is_turn_of (W.slave s) e then 1 else 0) + since log else 0

  rests : (log : List LogEntry) → transport.is_open (at M W s log).slave.session ≡ false → is_passed_through (plant log).state ≡ false
  rests log h = by (at M W s log).slave.session refl h
    where
      before : AliveBefore (at M W s log).slave.session (plant log)
      before = along X (λ es. Unit {0}) (λ session p es. AliveBefore session p) (before_lasts X) W s (sends_back X W s (λ b. refl)).agree log tt

      by : (session : Session) → (at M W s log).slave.session ≡ session → transport.is_open session ≡ false → is_passed_through (plant log).state ≡ false
      by Before e k = let P : Session → Type 0 = λ z. AliveBefore z (plant log) in ap is_passed_through (subst P e before)
      by (During master id) e k = absurd (clash k)
      by (After master id) e k =
          let Q : Session → Type 0 = λ z. has_ended z ≡ true in
          ap is_passed_through (ended_alive X s W (λ b. refl) log (subst Q (sym e) refl))

  since_few : (e : LogEntry) (log : List LogEntry) → since (e ∷ log) ≤ (if is_turn_of (W.slave s) e then 1 else 0) + since log
  since_few e log = by (changes (served (e ∷ log)) == changes (served log))
    where
      by : (b : Bool) → (if b then (if is_turn_of (W.slave s) e then 1 else 0) + since log else 0) ≤ (if is_turn_of (W.slave s) e then 1 else 0) + since log
      by true = omega arith
      by false = omega arith

  few_quiet : (e : LogEntry) (log : List LogEntry) → is_turn_of (W.slave s) e ≡ false → since (e ∷ log) ≤ since log
  few_quiet e log t =
      let a = since_few e log in
      let f : Bool → ℕ = λ x. if x then 1 else 0 in
      let b : f (is_turn_of (W.slave s) e) ≡ 0 = ap f t in
      omega (arith, a, b)

  few_turn : (e : LogEntry) (log : List LogEntry) → is_turn_of (W.slave s) e ≡ true → since (e ∷ log) ≤ since log + 1
  few_turn e log t =
      let a = since_few e log in
      let f : Bool → ℕ = λ x. if x then 1 else 0 in
      let b : f (is_turn_of (W.slave s) e) ≡ 1 = ap f t in
      omega (arith, a, b)

  abbrev pub StillAt : List LogEntry → Type 0
  StillAt log = Still busy (since log) (plant log).state (plant log).busy_left

  taken_still : (e : LogEntry) (log : List LogEntry) → TakesIt sc other s (at M W s log) (at M W s (e ∷ log)) e → StillAt log → StillAt (e ∷ log)
  taken_still e log t h = by (taken_goes X (plant log) t.request.asked (refusal X (plant log) t.request.asked) refl)
    where
      quiet : is_turn_of (W.slave s) e ≡ false
      quiet = ap (is_turn_of (W.slave s)) t.is

      result : transport.Answered Plant
      result = M.answers t.request.asked (plant log)

      by : SameState X (plant log) (M.answers t.request.asked (plant log)).after ⊎ Enters X t.request.asked (plant log) (M.answers t.request.asked (plant log)).after (M.answers t.request.asked (plant log)).answer → StillAt (e ∷ log)
      by (inl g) =
          keep_weaker busy (since log) (since (e ∷ log)) (plant (e ∷ log)).state (plant (e ∷ log)).busy_left (few_quiet e log quiet)
          (keep_same X busy (since log) (plant log) (plant (e ∷ log)) (ap (λ (z : Plant). z.state) t.inner ∙ g.0, ap (λ (z : Plant). z.busy_left) t.inner ∙ g.1) h)
      by (inr g) = two (changes (served (e ∷ log)) == changes (served log)) refl
        where
          acked : is_acknowledged (answer_note t.request t.next_number (M.answers t.request.asked (plant log)).answer) ≡ true
          acked = ap (λ (a : transport.SlaveAnswer). is_acknowledged (answer_note t.request t.next_number a)) g.acked

          more : changes (served (e ∷ log)) ≡ (if is_change_code t.note.message.code && true then 1 else 0) + changes (served log)
          more = ap changes t.served ∙ ap (λ (b : Bool). (if is_change_code t.note.message.code && b then 1 else 0) + changes (served log)) acked

          no_code : changes (served (e ∷ log)) ≡ changes (served log) → (b : Bool) → is_change_code t.note.message.code ≡ b → b ≡ false
          no_code z true f = let y = sym z ∙ more ∙ ap (λ (b : Bool). (if b && true then 1 else 0) + changes (served log)) f in absurd (omega (arith, y))
          no_code z false f = refl

          two : (b : Bool) → (changes (served (e ∷ log)) == changes (served log)) ≡ b → StillAt (e ∷ log)
          two true f =
              let z = no_code (eqb-true (changes (served (e ∷ log))) (changes (served log)) f) (is_change_code t.note.message.code) refl in
              let body = change_code t.note.message.code t.note.message.values t.request g.named g.body t.heard g.is z in
              gone busy (since (e ∷ log)) (plant (e ∷ log)).state (plant (e ∷ log)).busy_left (ap (λ (p : Plant). is_passed_through p.state) t.inner ∙ g.reset body)
          two false f =
              let n : since (e ∷ log) ≡ 0 = ap (λ (b : Bool). if b then (if is_turn_of (W.slave s) e then 1 else 0) + since log else 0) f in
              let P : Plant → Type 0 = λ p. Still busy 0 p.state p.busy_left in
              keep_weaker busy 0 (since (e ∷ log)) (plant (e ∷ log)).state (plant (e ∷ log)).busy_left (omega (arith, n)) (subst P (sym t.inner) g.still)

  pub still_at : (log : List LogEntry) → StillAt log
  still_at [] = gone busy 0 Alive 0 refl
  still_at (e ∷ log) = by (happens sc other s e log) (still_at log)
    where
      by : Happens sc other s (at M W s log) (at M W s (e ∷ log)) e → StillAt log → StillAt (e ∷ log)
      by (Keeps a b c d) h = keep_weaker busy (since log) (since (e ∷ log)) (plant (e ∷ log)).state (plant (e ∷ log)).busy_left (few_quiet e log d) (keep_same X busy (since log) (plant log) (plant (e ∷ log)) (b, c) h)
      by (Takes t) h = taken_still e log t h
      by (Ticks a quiet b d) h =
          let P : Plant → Type 0 = λ p. Still busy (since log + 1) p.state p.busy_left in
          let k = turn_still X (plant log) (since log) quiet h in
          keep_weaker busy (since log + 1) (since (e ∷ log)) (plant (e ∷ log)).state (plant (e ∷ log)).busy_left (few_turn e log d) (subst P (sym b) k)
      by (Sleeps a b c d) h = gone busy (since (e ∷ log)) (plant (e ∷ log)).state (plant (e ∷ log)).busy_left (ap (λ (p : Plant). is_passed_through p.state) b ∙ rests log c)

  -- ---- the turns in a part without changes
  changes_more : (e : LogEntry) (log : List LogEntry) → changes (served log) ≤ changes (served (e ∷ log))
  changes_more e log = by (happens sc other s e log)
    where
      by : Happens sc other s (at M W s log) (at M W s (e ∷ log)) e → changes (served log) ≤ changes (served (e ∷ log))
      by (Keeps a b c d) = let z = ap changes a in omega (arith, z)
      by (Takes t) = let z = ap changes t.served in omega (arith, z)
      by (Ticks a quiet b d) = let z = ap changes a in omega (arith, z)
      by (Sleeps a b c d) = let z = ap changes a in omega (arith, z)

  pub changes_grow : (part log : List LogEntry) → changes (served log) ≤ changes (served (part ++ log))
  changes_grow [] log = omega arith
  changes_grow (e ∷ part) log = let a = changes_grow part log in let b = changes_more e (part ++ log) in omega (arith, a, b)

  pub since_low : (part log : List LogEntry) → changes (served (part ++ log)) ≡ changes (served log) → turns_of (W.slave s) part ≤ since (part ++ log)
  since_low [] log h = omega arith
  since_low (e ∷ part) log h =
      let a = changes_grow part log in
      let b = changes_more e (part ++ log) in
      let c : changes (served (part ++ log)) ≡ changes (served log) = omega (arith, a, b, h) in
      let d = since_low part log c in
      let same = eq-eqb (changes (served (e ∷ (part ++ log)))) (changes (served (part ++ log))) (omega (arith, c, h)) in
      let n : since (e ∷ (part ++ log)) ≡ (if is_turn_of (W.slave s) e then 1 else 0) + since (part ++ log) = ap (λ (t : Bool). if t then (if is_turn_of (W.slave s) e then 1 else 0) + since (part ++ log) else 0) same in
      omega (arith, d, n)

  -- ---- where a request was taken
  pub record TakenIn (part log : List LogEntry) (x : DecidedRequest) (ds : List DecidedRequest) : Type 0 where
    pub after : List LogEntry
    pub before : List LogEntry
    pub entry : LogEntry
    pub is : part ≡ after ++ entry ∷ before
    pub rest : served (before ++ log) ≡ ds
    pub newest : served (entry ∷ (before ++ log)) ≡ x ∷ ds
    pub takes : TakesIt sc other s (at M W s (before ++ log)) (at M W s (entry ∷ (before ++ log))) entry

  pub taken_in : (part log : List LogEntry) (x : DecidedRequest) (ds : List DecidedRequest) → served (part ++ log) ≡ x ∷ ds → length (served log) ≤ length ds → TakenIn part log x ds
  taken_in [] log x ds e h = let a = ap length e in absurd (omega (arith, a, h))
  taken_in (e' ∷ part) log x ds e h = by (happens sc other s e' (part ++ log)) (λ z. taken_in part log x ds z h)
    where
      later : TakenIn part log x ds → TakenIn (e' ∷ part) log x ds
      later t = record { after = e' ∷ t.after; before = t.before; entry = t.entry; is = ap (λ (z : List LogEntry). e' ∷ z) t.is; rest = t.rest; newest = t.newest; takes = t.takes }

      by : Happens sc other s (at M W s (part ++ log)) (at M W s (e' ∷ (part ++ log))) e' → (served (part ++ log) ≡ x ∷ ds → TakenIn part log x ds) → TakenIn (e' ∷ part) log x ds
      by (Keeps a b c d) f = later (f (sym a ∙ e))
      by (Ticks a quiet b d) f = later (f (sym a ∙ e))
      by (Sleeps a b c d) f = later (f (sym a ∙ e))
      by (Takes t) f = let z : served (part ++ log) ≡ ds = tail_same (sym t.served ∙ e) in record { after = []; before = part; entry = e'; is = refl; rest = z; newest = e; takes = t }
        where
          tail_same : {y z : DecidedRequest} {ys zs : List DecidedRequest} → y ∷ ys ≡ z ∷ zs → ys ≡ zs
          tail_same q = cc
