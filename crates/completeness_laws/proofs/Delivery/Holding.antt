-- What stays as a log goes on: that a slave told that it is initialized, that it is stopped or in error, and what it keeps.
use Rattle.std.proofs.Common.{◌≡◌, ℕ, suc, ◌+◌, ◌%◌, ◌≤◌, Bool, true, false, if◌then◌else◌, ◌⊎◌, inl, inr, Some, List, [], ◌∷◌, ◌++◌, length, refl, sym, ap, ◌∙◌, subst, arith, ℤ}
use Rattle.std.specs.Prelude.{◌==◌, ◌&&◌, not, nat_le, sum_by}
use Rattle.std.proofs.lemmas.Bool.{eqb-true}
use Rattle.std.proofs.lemmas.Bool.Decides.{nat_tests}
use Rattle.dcp_types.specs.Codes.{state_code}
use Rattle.dcp_types.specs.Values.{width}
use Rattle.dcp_types.specs.declared.addresses.Address.{Address}
use Rattle.dcp_types.specs.declared.states.State.{State}
use Rattle.dcp_types.specs.declared.states.State.TheVariants.{Configuration, Computing}
use Rattle.pdu_layout.specs.declared.messages.Stc.{Stc}
use Rattle.pdu_layout.specs.declared.messages.Stc.TheVariants as stc
use Rattle.dcp_ends.specs.declared.entries.LogEntry.{LogEntry}
use Rattle.log_spec.specs.Log.{Parties, DecidedRequest}
use Rattle.log_spec.specs.Moves.{move}
use Rattle.slave_states.specs.Transitions.{transition_row, next_on_turn}
use Rattle.slave_spec.specs.Changes.{input, has_id, source, ordinal, steps_in_run}
use Rattle.slave_spec.specs.Payloads.{Kept, WiringState, kept_under, is_kept_of, is_here, is_address, input_types, is_wanted, brought}
use Rattle.slave_spec.specs.declared.words.SlaveSetup.{SlaveSetup}
use Rattle.slave_spec.specs.declared.words.Asked.{Asked}
use Rattle.slave_spec.specs.declared.words.Asked.TheVariants.{Change, Setting}
use Rattle.slave_spec.specs.declared.words.Session.{Session}
use Rattle.slave_spec.specs.declared.words.Session.TheVariants.{Before, During, After}
use Rattle.slave_spec.specs.Transport as transport
use Rattle.slave_spec.specs.Transport.{SlaveState}
use Rattle.slave_spec.specs.Plants.{Plant, start_plant}
use Rattle.slave_spec.specs.Begun.{IsRegularIn}
use Rattle.slave_spec.specs.Requests.{refusal, answers}
use Rattle.slave_spec.specs.Turns.{Act, Stay, Wait, Fault, Step, Pass, act, turned, is_listening}
use Rattle.slave_spec.specs.Turns as turning
use Rattle.slave_spec.specs.Slaves.{machine, has_ended}
use Rattle.slave_laws.specs.Talk.Desks.{Both, at}
use Rattle.slave_laws.proofs.Talk.Plants.{act_step}
use Rattle.slave_laws.specs.Talk.Sends.{ReadsMessages}
use Rattle.slave_laws.specs.Model.Models.{plant_at}
use Rattle.plan_laws.specs.Course.Taken.{told_since}
use Rattle.slave_laws.specs.Model.Tuned.{served_at}
use Rattle.slave_laws.proofs.Model.Parameters.{acknowledges}
use Rattle.completeness_laws.proofs.Causes.Goings.{Takes, Goes, stays, takes, brings, turns_on, goes}
use Rattle.completeness_laws.proofs.Causes.Faults.{regular_at}
use Rattle.completeness_laws.proofs.Delivery.Heeding.{is_on, Result, Stays, Sets, Moves, Resets, result, still_told}

never : {A : Type 0} → false ≡ true → A
never e = absurd cc

-- from STOPPING on, and in error
abbrev pub is_late : State → Bool
is_late state = nat_le 15 (state_code state)

late_row : (named : State) (request : Stc) (state t : State) (sent : Bool) → (request ≡ stc.Reset → ⊥) → transport.is_last (Change named request) transport.Ack ≡ false → transition_row request state sent ≡ Some t → is_late state ≡ true → ⊥
late_row named stc.Reset state t sent n l r o = n refl
late_row named stc.Deregister state t sent n l r o = never (sym l)
late_row named (stc.Register a b c d) state t sent n l r o = grind (arith, nat_tests, r, o)
late_row named stc.Prepare state t sent n l r o = grind (arith, nat_tests, r, o)
late_row named stc.Configure state t sent n l r o = grind (arith, nat_tests, r, o)
late_row named stc.Initialize state t sent n l r o = grind (arith, nat_tests, r, o)
late_row named (stc.Run x) state t sent n l r o = grind (arith, nat_tests, r, o)
late_row named (stc.DoStep k) state t sent n l r o = grind (arith, nat_tests, r, o)
late_row named stc.SendOutputs state t sent n l r o = grind (arith, nat_tests, r, o)
late_row named stc.Stop state t sent n l r o = grind (arith, nat_tests, r, o)

late_turn : (state : State) → is_late state ≡ true → is_late (next_on_turn state 0) ≡ true
unfolding next_on_turn
late_turn state h = grind (arith, nat_tests)

late_computing : (state : State) → is_late state ≡ true → state ≡ Computing → ⊥
late_computing state h e = never (sym (ap is_late e) ∙ h)

module _ (s : SlaveSetup) where
  brings_rest : (from : Address) (number id : ℕ) (payload : List ℕ) (p : Plant) → ((turning.brings s from number id payload p).state ≡ p.state) × ((turning.brings s from number id payload p).earlier ≡ p.earlier)
  brings_rest from number id payload p = by (is_listening p.state)
    where
      by : (b : Bool) → let q = (if b then record p { wires = brought s.desc p.wires from number id payload p.steps } else p) in (q.state ≡ p.state) × (q.earlier ≡ p.earlier)
      by true = (refl, refl)
      by false = (refl, refl)

  turned_rest : (p : Plant) (a : Act) → ((turned s p a).after.earlier ≡ p.earlier) × ((turned s p a).after.wires ≡ p.wires)
  turned_rest p Stay = (refl, refl)
  turned_rest p (Wait left) = (refl, refl)
  turned_rest p (Fault code) = (refl, refl)
  turned_rest p (Step x) = (refl, refl)
  turned_rest p Pass = (refl, refl)

  turned_late : (p : Plant) (a : Act) → ((x : List ℤ) → a ≡ Step x → p.state ≡ Computing) → is_late p.state ≡ true → is_late (turned s p a).after.state ≡ true
  turned_late p Stay f h = h
  turned_late p (Wait left) f h = h
  turned_late p (Fault code) f h = refl
  turned_late p (Step x) f h = absurd (late_computing p.state h (f x refl))
  turned_late p Pass f h = late_turn p.state h

  -- ---- along a log
  module _ (w : Parties) (n : ℕ) (rd : ReadsMessages w) where
    abbrev x : List LogEntry → Both Plant
    x log = at (machine s) w n log

    abbrev p : List LogEntry → Plant
    p log = plant_at s w n log

    abbrev pub runs : List LogEntry → ℕ
    runs log = length (p log).earlier

    same_runs : (e : LogEntry) (log : List LogEntry) → (p (e ∷ log)).earlier ≡ (p log).earlier → runs (e ∷ log) ≡ runs log
    same_runs e log h = ap length h

    one_more : (e : LogEntry) (log : List LogEntry) (m : ℕ) → (p (e ∷ log)).earlier ≡ m ∷ (p log).earlier → runs (e ∷ log) ≡ suc (runs log)
    one_more e log m h = ap length h

    taken_inner : (e : LogEntry) (log : List LogEntry) (t : Takes s (x log) (x (e ∷ log))) → p (e ∷ log) ≡ (answers s t.request.asked (p log)).after
    taken_inner e log t = ap (λ (z : SlaveState Plant). z.inner) t.slave

    taken_result : (e : LogEntry) (log : List LogEntry) (t : Takes s (x log) (x (e ∷ log))) → Result (p log) t.request.asked (answers s t.request.asked (p log)).answer (p (e ∷ log))
    taken_result e log t =
        let P : Plant → Type 0 = λ q. Result (p log) t.request.asked (answers s t.request.asked (p log)).answer q in
        subst P (sym (taken_inner e log t)) (result s (p log) t.request.asked (refusal s (p log) t.request.asked) refl)

    -- ---- resets
    pub runs_rise : (e : LogEntry) (log : List LogEntry) → runs log ≤ runs (e ∷ log)
    runs_rise e log = by (goes s w n rd e log)
      where
        of : {asked : Asked} {a : transport.SlaveAnswer} → Result (p log) asked a (p (e ∷ log)) → runs log ≤ runs (e ∷ log)
        of (Stays a b c d) = let z = same_runs e log b in omega (arith, z)
        of (Sets body a b c d f) = let z = same_runs e log d in omega (arith, z)
        of (Moves named request a b c d f g) = let z = same_runs e log d in omega (arith, z)
        of (Resets named a b c) = let z = one_more e log (p log).steps b in omega (arith, z)

        by : Goes s (move w n e) (x log) (x (e ∷ log)) → runs log ≤ runs (e ∷ log)
        by (stays a b) = let z = same_runs e log (ap (λ (z : SlaveState Plant). z.inner.earlier) a) in omega (arith, z)
        by (takes t) = of (taken_result e log t)
        by (brings t) = let z = same_runs e log (ap (λ (z : SlaveState Plant). z.inner.earlier) t.slave ∙ (brings_rest t.from t.number t.id t.payload (p log)).1) in omega (arith, z)
        by (turns_on mv t) = let z = same_runs e log (ap (λ (z : SlaveState Plant). z.inner.earlier) t.slave ∙ (turned_rest (p log) (act s (transport.quieter (x log).slave.quiet) (p log))).0) in omega (arith, z)

    pub runs_grow : (more log : List LogEntry) → runs log ≤ runs (more ++ log)
    runs_grow [] log = omega arith
    runs_grow (e ∷ more) log = let a = runs_grow more log in let b = runs_rise e (more ++ log) in omega (arith, a, b)

    -- ---- that it told
    pub record ToldFrom (r : ℕ) (log : List LogEntry) : Type 0 where
      pub least : r ≤ runs log
      pub told : (told_since (served_at s w n log) ≡ true) ⊎ (r + 1 ≤ runs log)

    told_next : (r : ℕ) (e : LogEntry) (log : List LogEntry) → ToldFrom r log → ToldFrom r (e ∷ log)
    told_next r e log h = record { least = (let a = runs_rise e log in let b = h.least in omega (arith, a, b)); told = by h.told (goes s w n rd e log) }
      where
        es : List DecidedRequest
        es = served_at s w n log

        same : served_at s w n (e ∷ log) ≡ served_at s w n log → told_since (served_at s w n log) ≡ true → (told_since (served_at s w n (e ∷ log)) ≡ true) ⊎ (r + 1 ≤ runs (e ∷ log))
        same v t = inl (ap told_since v ∙ t)

        of : (t : Takes s (x log) (x (e ∷ log))) → told_since (served_at s w n log) ≡ true → (a : transport.SlaveAnswer) → (answers s t.request.asked (p log)).answer ≡ a → Result (p log) t.request.asked a (p (e ∷ log)) → (told_since (served_at s w n (e ∷ log)) ≡ true) ⊎ (r + 1 ≤ runs (e ∷ log))
        of t told a ea (Stays u v c d) =
            inl (ap told_since t.served ∙ still_told s (p log) (served_at s w n log) t.request t.note t.next' t.heard (λ named q k. never (sym (ap acknowledges ea ∙ d) ∙ k)) told)
        of t told a ea (Sets body u home c d f) =
            inl (ap told_since t.served ∙ still_told s (p log) (served_at s w n log) t.request t.note t.next' t.heard (λ named q k. (let z : Setting body ≡ Change named stc.Reset = sym u ∙ q in absurd cc)) told)
        of t told a ea (Moves named request u no' tr v c f) =
            inl (ap told_since t.served ∙ still_told s (p log) (served_at s w n log) t.request t.note t.next' t.heard (λ other q k. no' (let z : Change named request ≡ Change other stc.Reset = sym u ∙ q in cc)) told)
        of t told a ea (Resets named u v c) =
            let z = one_more e log (p log).steps v in
            let b = h.least in
            inr (omega (arith, z, b))

        by : (told_since (served_at s w n log) ≡ true) ⊎ (r + 1 ≤ runs log) → Goes s (move w n e) (x log) (x (e ∷ log)) → (told_since (served_at s w n (e ∷ log)) ≡ true) ⊎ (r + 1 ≤ runs (e ∷ log))
        by (inr l) g = let a = runs_rise e log in inr (omega (arith, a, l))
        by (inl t) (stays a b) = same b t
        by (inl t) (takes k) = of k t (answers s k.request.asked (p log)).answer refl (taken_result e log k)
        by (inl t) (brings k) = same k.served t
        by (inl t) (turns_on mv k) = same k.served t

    pub told_grows : (r : ℕ) (more log : List LogEntry) → ToldFrom r log → ToldFrom r (more ++ log)
    told_grows r [] log h = h
    told_grows r (e ∷ more) log h = told_next r e (more ++ log) (told_grows r more log h)

    -- ---- that it is over, stopped or in error
    pub record LateFrom (r : ℕ) (log : List LogEntry) : Type 0 where
      pub least : r ≤ runs log
      pub late : (has_ended (x log).slave.session ≡ true) ⊎ ((is_late (p log).state ≡ true) ⊎ (r + 1 ≤ runs log))

    ended_open : (session : Session) → has_ended session ≡ true → transport.is_open session ≡ true → ⊥
    ended_open Before a b = never a
    ended_open (During master id) a b = never a
    ended_open (After master id) a b = never b

    ended_before : (session : Session) → has_ended session ≡ true → session ≡ Before → ⊥
    ended_before session a e = never (sym (ap has_ended e) ∙ a)

    late_next : (r : ℕ) (e : LogEntry) (log : List LogEntry) → LateFrom r log → LateFrom r (e ∷ log)
    late_next r e log h = record { least = (let a = runs_rise e log in let b = h.least in omega (arith, a, b)); late = by h.late (goes s w n rd e log) }
      where
        Goal : Type 0
        Goal = (has_ended (x (e ∷ log)).slave.session ≡ true) ⊎ ((is_late (p (e ∷ log)).state ≡ true) ⊎ (r + 1 ≤ runs (e ∷ log)))

        same : (x (e ∷ log)).slave.session ≡ (x log).slave.session → has_ended (x log).slave.session ≡ true → Goal
        same v t = inl (ap has_ended v ∙ t)

        before_late : (x log).slave.session ≡ Before → is_late (p log).state ≡ true → ⊥
        before_late b l =
            let P : Session → Type 0 = λ z. IsRegularIn s z (p log) in
            let start : p log ≡ start_plant s = subst P b (regular_at s w n rd log) in
            never (sym (ap (λ (q : Plant). is_late q.state) start) ∙ l)

        -- with the end of the session, or without
        ends : (t : Takes s (x log) (x (e ∷ log))) → (session : Session) → (x log).slave.session ≡ session → transport.is_open session ≡ true → (b : Bool) → transport.is_last t.request.asked (answers s t.request.asked (p log)).answer ≡ b → b ≡ true → has_ended (x (e ∷ log)).slave.session ≡ true
        ends t Before q o b l y = never o
        ends t (After master id) q o b l y = never o
        ends t (During master id) q o b l y =
            ap (λ (z : SlaveState Plant). has_ended z.session) t.slave ∙ ap (λ (z : Session). has_ended (transport.session_after z t.from t.request (answers s t.request.asked (p log)).answer)) q
            ∙ ap (λ (c : Bool). has_ended (if c then After master id else During master id)) (l ∙ y)

        of : (t : Takes s (x log) (x (e ∷ log))) → is_late (p log).state ≡ true → transport.is_open (x log).slave.session ≡ true → (b : Bool) → transport.is_last t.request.asked (answers s t.request.asked (p log)).answer ≡ b → (a : transport.SlaveAnswer) → (answers s t.request.asked (p log)).answer ≡ a → Result (p log) t.request.asked a (p (e ∷ log)) → Goal
        of t l o true z a ea k = inl (ends t (x log).slave.session refl o true z refl)
        of t l o false z a ea (Stays u v c d) = inr (inl (ap is_late u ∙ l))
        of t l o false z a ea (Sets body u home c d f) = inr (inl (ap is_late c ∙ l))
        of t l o false z a ea (Moves named request u no' tr v c f) =
            absurd (late_row named request (p log).state (p (e ∷ log)).state (p log).outputs_sent no'
            (ap (λ (y : Asked). transport.is_last y transport.Ack) (sym u) ∙ ap (transport.is_last t.request.asked) (sym (ea ∙ f)) ∙ z) tr l)
        of t l o false z a ea (Resets named u v c) =
            let m = one_more e log (p log).steps v in
            let b = h.least in
            inr (inr (omega (arith, m, b)))

        taken : (t : Takes s (x log) (x (e ∷ log))) → is_late (p log).state ≡ true → (((x log).slave.session ≡ Before) × (transport.is_register t.request.asked ≡ true)) ⊎ (transport.is_open (x log).slave.session ≡ true) → Goal
        taken t l (inl b) = absurd (before_late b.0 l)
        taken t l (inr o) = of t l o (transport.is_last t.request.asked (answers s t.request.asked (p log)).answer) refl (answers s t.request.asked (p log)).answer refl (taken_result e log t)

        after_end : (t : Takes s (x log) (x (e ∷ log))) → has_ended (x log).slave.session ≡ true → (((x log).slave.session ≡ Before) × (transport.is_register t.request.asked ≡ true)) ⊎ (transport.is_open (x log).slave.session ≡ true) → ⊥
        after_end t f (inl b) = ended_before (x log).slave.session f b.0
        after_end t f (inr o) = ended_open (x log).slave.session f o

        by : (has_ended (x log).slave.session ≡ true) ⊎ ((is_late (p log).state ≡ true) ⊎ (r + 1 ≤ runs log)) → Goes s (move w n e) (x log) (x (e ∷ log)) → Goal
        by (inr (inr l)) g = let a = runs_rise e log in inr (inr (omega (arith, a, l)))
        by (inl f) (stays a b) = same (ap (λ (z : SlaveState Plant). z.session) a) f
        by (inl f) (takes t) = absurd (after_end t f t.when)
        by (inl f) (brings t) = same (ap (λ (z : SlaveState Plant). z.session) t.slave) f
        by (inl f) (turns_on mv t) = same (ap (λ (z : SlaveState Plant). z.session) t.slave) f
        by (inr (inl l)) (stays a b) = inr (inl (ap (λ (z : SlaveState Plant). is_late z.inner.state) a ∙ l))
        by (inr (inl l)) (takes t) = taken t l t.when
        by (inr (inl l)) (brings t) = inr (inl (ap (λ (z : SlaveState Plant). is_late z.inner.state) t.slave ∙ ap is_late (brings_rest t.from t.number t.id t.payload (p log)).0 ∙ l))
        by (inr (inl l)) (turns_on mv t) =
            let a = act s (transport.quieter (x log).slave.quiet) (p log) in
            inr (inl (ap (λ (z : SlaveState Plant). is_late z.inner.state) t.slave ∙ turned_late (p log) a (act_step s (transport.quieter (x log).slave.quiet) (p log)) l))

    pub late_grows : (r : ℕ) (more log : List LogEntry) → LateFrom r log → LateFrom r (more ++ log)
    late_grows r [] log h = h
    late_grows r (e ∷ more) log h = late_next r e (more ++ log) (late_grows r more log h)

    -- ---- what it keeps
    module _ (id o : ℕ) where
      abbrev pub Keeps : List LogEntry → Type 0
      Keeps log = is_kept_of o (kept_under id (p log).wires.kept) ≡ true

      -- while it goes on in a run, past its configuration, and waits for this ordinal
      pub record Waits (e : LogEntry) (log : List LogEntry) : Type 0 where
        pub runs_same : runs (e ∷ log) ≡ runs log
        pub on : transport.is_open (x log).slave.session ≡ true → is_on (p log).state ≡ true
        pub wanted : transport.is_open (x log).slave.session ≡ true → steps_in_run input id (p log).wires.changes (p log).steps ≡ o

      configuration_off : (t : State) → is_on t ≡ true → t ≡ Configuration → ⊥
      configuration_off t a e = never (sym (ap is_on e) ∙ a)

      not_here : (a b c d e : Bool) → (a && b && c && d && not e) ≡ true → e ≡ true → ⊥
      not_here a b c d true h f = by a b c d h
        where
          by : (a b c d : Bool) → (a && b && c && d && false) ≡ true → ⊥
          by true true true true z = never z
          by true true true false z = never z
          by true true false d z = never z
          by true false c d z = never z
          by false b c d z = never z
      not_here a b c d false h f = never f

      brought_keeps : (from : Address) (number i : ℕ) (payload : List ℕ) (q : Plant) → steps_in_run input id q.wires.changes q.steps ≡ o → is_kept_of o (kept_under id q.wires.kept) ≡ true → is_kept_of o (kept_under id (turning.brings s from number i payload q).wires.kept) ≡ true
      brought_keeps from number i payload q e h = by (is_listening q.state)
        where
          k : Kept
          k = record { id = i; ordinal = steps_in_run input i q.wires.changes q.steps; payload = payload }

          there : is_here q.wires q.steps id ≡ true
          there = ap (λ (j : ℕ). is_kept_of j (kept_under id q.wires.kept)) e ∙ h

          put : is_wanted s.desc q.wires from number i payload q.steps ≡ true → (c : Bool) → (i == id) ≡ c → is_kept_of o (if c then Some k else kept_under id q.wires.kept) ≡ true
          put y true f =
              let P : ℕ → Type 0 = λ j. is_here q.wires q.steps j ≡ true in
              absurd (not_here (has_id input i q.wires.changes) (is_address (source i q.wires.changes) from) (length payload == sum_by width (input_types s.desc i q.wires.changes)) (number == ordinal input i q.wires.changes q.steps % 65536) (is_here q.wires q.steps i) y (subst P (sym (eqb-true i id f)) there))
          put y false f = h

          chosen : (c : Bool) → is_wanted s.desc q.wires from number i payload q.steps ≡ c → is_kept_of o (kept_under id (if c then record q.wires { kept = k ∷ q.wires.kept } else q.wires).kept) ≡ true
          chosen true y = put y (i == id) refl
          chosen false y = h

          by : (b : Bool) → is_kept_of o (kept_under id (if b then record q { wires = brought s.desc q.wires from number i payload q.steps } else q).wires.kept) ≡ true
          by true = chosen (is_wanted s.desc q.wires from number i payload q.steps) refl
          by false = h

      keeps_next : (e : LogEntry) (log : List LogEntry) → Waits e log → Keeps log → Keeps (e ∷ log)
      keeps_next e log v h = by (goes s w n rd e log)
        where
          same : (p (e ∷ log)).wires.kept ≡ (p log).wires.kept → is_kept_of o (kept_under id (p (e ∷ log)).wires.kept) ≡ true
          same z = ap (λ (ks : List Kept). is_kept_of o (kept_under id ks)) z ∙ h

          of : (t : Takes s (x log) (x (e ∷ log))) → (a : transport.SlaveAnswer) → Result (p log) t.request.asked a (p (e ∷ log)) → is_kept_of o (kept_under id (p (e ∷ log)).wires.kept) ≡ true
          of t a (Stays u y c d) = same c
          of t a (Moves named request u no' tr y c f) = same c
          of t a (Resets named u y c) = let z = one_more e log (p log).steps y in let g = v.runs_same in absurd (omega (arith, z, g))
          of t a (Sets body u home c d f) = absurd (two t.when)
            where
              no_register : transport.is_register t.request.asked ≡ true → ⊥
              no_register y = never (sym (ap transport.is_register u) ∙ y)

              two : (((x log).slave.session ≡ Before) × (transport.is_register t.request.asked ≡ true)) ⊎ (transport.is_open (x log).slave.session ≡ true) → ⊥
              two (inl b) = no_register b.1
              two (inr y) = configuration_off (p log).state (v.on y) home

          by : Goes s (move w n e) (x log) (x (e ∷ log)) → is_kept_of o (kept_under id (p (e ∷ log)).wires.kept) ≡ true
          by (stays a b) = same (ap (λ (z : SlaveState Plant). z.inner.wires.kept) a)
          by (takes t) = of t (answers s t.request.asked (p log)).answer (taken_result e log t)
          by (brings t) = ap (λ (z : SlaveState Plant). is_kept_of o (kept_under id z.inner.wires.kept)) t.slave ∙ brought_keeps t.from t.number t.id t.payload (p log) (v.wanted t.opened) h
          by (turns_on mv t) = same (ap (λ (z : SlaveState Plant). z.inner.wires.kept) t.slave ∙ ap (λ (z : WiringState). z.kept) (turned_rest (p log) (act s (transport.quieter (x log).slave.quiet) (p log))).1)

      pub keeps_grows : (more log : List LogEntry) → ((a b : List LogEntry) (e : LogEntry) → more ≡ a ++ e ∷ b → Waits e (b ++ log)) → Keeps log → Keeps (more ++ log)
      keeps_grows [] log f h = h
      keeps_grows (e ∷ more) log f h = keeps_next e (more ++ log) (f [] more e refl) (keeps_grows more log (λ a b c q. f (e ∷ a) b c (ap (λ (z : List LogEntry). e ∷ z) q)) h)
