-- A slave stands as after the settings that it took, one behind the other, and takes the next of the plan.
use Rattle.std.proofs.Common.{◌≡◌, ℕ, ◌+◌, Bool, true, false, if◌then◌else◌, Option, Some, None, List, [], ◌∷◌, ◌++◌, reverse, refl, sym, ap, ◌∙◌, subst, ℤ}
use Rattle.std.specs.Prelude.{slice_set}
use Rattle.std.proofs.lemmas.List.{reverse-append}
use Rattle.dcp_types.specs.declared.addresses.Address.{Address}
use Rattle.dcp_types.specs.declared.error_codes.ErrorCode.{ErrorCode}
use Rattle.dcp_types.specs.declared.states.State.{State}
use Rattle.dcp_types.specs.declared.states.State.TheVariants.{Configuration}
use Rattle.dcp_ends.specs.declared.entries.LogEntry.{LogEntry}
use Rattle.pdu_layout.specs.declared.messages.Stc.{Stc}
use Rattle.pdu_layout.specs.declared.messages.Stc.TheVariants as stc
use Rattle.pdu_layout.specs.declared.messages.Cfg.{Cfg}
use Rattle.pdu_layout.specs.declared.messages.Cfg.TheVariants as cfg
use Rattle.pdu_layout.specs.declared.messages.Inf.{Inf}
use Rattle.pdu_layout.specs.declared.messages.Inf.TheVariants as inf
use Rattle.scenario.specs.declared.scenarios.Scenario.{Scenario}
use Rattle.log_spec.specs.Messages.{Note}
use Rattle.log_spec.specs.Log.{Parties, DecidedRequest}
use Rattle.log_spec.specs.Moves.{move}
use Rattle.slave_states.specs.Transitions.{next_on}
use Rattle.slave_spec.specs.Changes as wiring
use Rattle.slave_spec.specs.Changes.{complete}
use Rattle.slave_spec.specs.Payloads.{Kept, is_wanted}
use Rattle.slave_spec.specs.declared.words.SlaveSetup.{SlaveSetup}
use Rattle.slave_spec.specs.declared.words.SlaveRequest as req
use Rattle.slave_spec.specs.declared.words.Asked.{Asked}
use Rattle.slave_spec.specs.declared.words.Asked.TheVariants.{Change, Setting, Question}
use Rattle.slave_spec.specs.Heard as spec
use Rattle.slave_spec.specs.Transport as transport
use Rattle.slave_spec.specs.Transport.{SlaveState, is_open}
use Rattle.slave_spec.specs.Plants.{Plant, start_plant}
use Rattle.slave_spec.specs.Requests.{refusal, changed_to, set_to, asked_of, accepted, answer, answered_plant, answers, state_or}
use Rattle.slave_spec.specs.Turns as turns
use Rattle.slave_spec.specs.Turns.{Act, act, turned, is_listening}
use Rattle.slave_spec.specs.Slaves.{machine}
use Rattle.slave_laws.specs.Talk.Desks.{answer_note, Both, at}
use Rattle.slave_laws.specs.Talk.Sends.{ReadsMessages}
use Rattle.slave_laws.proofs.Model.Along.{exchanged}
use Rattle.slave_laws.proofs.Model.Parameters.{acknowledges, acknowledged}
use Rattle.plan_laws.specs.Course.Taken.{asked_heard, is_acknowledged, setting_taken, settings_taken}
use Rattle.plan_laws.specs.Taking.{IsScenarioSlave, TakesAll, plant_after_all}
use Rattle.plan_laws.specs.Runs.{TakesAmid, after_amid, lists_until}
use Rattle.plan_laws.proofs.Machines.{after_append}
use Rattle.plan_laws.proofs.Alike.{AreAlike, amid_taken, same_complete}
use Rattle.plan_laws.proofs.Running.{runs_taken, runs_complete}
use Rattle.completeness_laws.proofs.Causes.Goings.{Goes, stays, takes, brings, turns_on, goes}

alike_self : (p : Plant) → AreAlike p p
alike_self p = record { kind = refl; parameters = refl; changes = refl }

alike_then : (p q r : Plant) → AreAlike p q → AreAlike q r → AreAlike p r
alike_then p q r a b = record { kind = b.kind ∙ a.kind; parameters = b.parameters ∙ a.parameters; changes = b.changes ∙ a.changes }

module _ (s : SlaveSetup) where
  turned_alike : (p : Plant) (a : Act) → AreAlike p (turned s p a).after
  turned_alike p turns.Stay = record { kind = refl; parameters = refl; changes = refl }
  turned_alike p (turns.Wait left) = record { kind = refl; parameters = refl; changes = refl }
  turned_alike p (turns.Fault code) = record { kind = refl; parameters = refl; changes = refl }
  turned_alike p (turns.Step state) = record { kind = refl; parameters = refl; changes = refl }
  turned_alike p turns.Pass = record { kind = refl; parameters = refl; changes = refl }

  changed_alike : (p : Plant) (request : Stc) (state : State) → AreAlike p (changed_to s p request state)
  changed_alike p (stc.Register a b c d) state = record { kind = refl; parameters = refl; changes = refl }
  changed_alike p stc.Deregister state = record { kind = refl; parameters = refl; changes = refl }
  changed_alike p stc.Prepare state = record { kind = refl; parameters = refl; changes = refl }
  changed_alike p stc.Configure state = record { kind = refl; parameters = refl; changes = refl }
  changed_alike p stc.Initialize state = record { kind = refl; parameters = refl; changes = refl }
  changed_alike p (stc.Run x) state = record { kind = refl; parameters = refl; changes = refl }
  changed_alike p (stc.DoStep n) state = record { kind = refl; parameters = refl; changes = refl }
  changed_alike p stc.SendOutputs state = record { kind = refl; parameters = refl; changes = refl }
  changed_alike p stc.Stop state = record { kind = refl; parameters = refl; changes = refl }
  changed_alike p stc.Reset state = record { kind = refl; parameters = refl; changes = refl }

  asked_alike : (p : Plant) (question : Inf) → AreAlike p (asked_of p question)
  asked_alike p inf.State = record { kind = refl; parameters = refl; changes = refl }
  asked_alike p inf.Error = record { kind = refl; parameters = refl; changes = refl }
  asked_alike p (inf.Log category most) = record { kind = refl; parameters = refl; changes = refl }

  brought_alike : (from : Address) (number id : ℕ) (payload : List ℕ) (p : Plant) → AreAlike p (turns.brings s from number id payload p)
  brought_alike from number id payload p = by (is_listening p.state) (is_wanted s.desc p.wires from number id payload p.steps) _
    where
      by : (b c : Bool) (kept : List Kept) → AreAlike p (if b then record p { wires = (if c then record p.wires { kept = kept } else p.wires) } else p)
      by true true kept = record { kind = refl; parameters = refl; changes = refl }
      by true false kept = record { kind = refl; parameters = refl; changes = refl }
      by false c kept = record { kind = refl; parameters = refl; changes = refl }

  set_alike : (p q : Plant) (body : Cfg) → AreAlike p q → AreAlike (accepted s p (Setting body)) (set_to s q body)
  unfolding accepted
  set_alike p q (cfg.Parameter vr kind value) a = record { kind = a.kind; parameters = ap (λ (ps : List ℤ). slice_set ps vr value) a.parameters; changes = a.changes }
  set_alike p q (cfg.Logging category level mode) a = record { kind = a.kind; parameters = a.parameters; changes = a.changes }
  set_alike p q cfg.Clear a = record { kind = refl; parameters = refl; changes = refl }
  set_alike p q (cfg.TimeRes x y) a = record { kind = a.kind; parameters = a.parameters; changes = ap (λ c. wiring.Set (cfg.TimeRes x y) ∷ c) a.changes }
  set_alike p q (cfg.Steps x y) a = record { kind = a.kind; parameters = a.parameters; changes = ap (λ c. wiring.Set (cfg.Steps x y) ∷ c) a.changes }
  set_alike p q (cfg.Input x y z v) a = record { kind = a.kind; parameters = a.parameters; changes = ap (λ c. wiring.Set (cfg.Input x y z v) ∷ c) a.changes }
  set_alike p q (cfg.Output x y z) a = record { kind = a.kind; parameters = a.parameters; changes = ap (λ c. wiring.Set (cfg.Output x y z) ∷ c) a.changes }
  set_alike p q (cfg.Target x) a = record { kind = a.kind; parameters = a.parameters; changes = ap (λ c. wiring.Set (cfg.Target x) ∷ c) a.changes }
  set_alike p q (cfg.Source x) a = record { kind = a.kind; parameters = a.parameters; changes = ap (λ c. wiring.Set (cfg.Source x) ∷ c) a.changes }
  set_alike p q (cfg.Tunable x y z v) a = record { kind = a.kind; parameters = a.parameters; changes = ap (λ c. wiring.Set (cfg.Tunable x y z v) ∷ c) a.changes }
  set_alike p q (cfg.ParamNet x y z v) a = record { kind = a.kind; parameters = a.parameters; changes = ap (λ c. wiring.Set (cfg.ParamNet x y z v) ∷ c) a.changes }
  set_alike p q (cfg.Scope x y) a = record { kind = a.kind; parameters = a.parameters; changes = ap (λ c. wiring.Set (cfg.Scope x y) ∷ c) a.changes }

  -- ---- after settings
  abbrev pub home : Plant
  home = record (start_plant s) { state = Configuration }

  abbrev pub after_settings : List Cfg → Plant
  after_settings settings = plant_after_all s home (reverse settings)

  abbrev pub IsSetBy : List Cfg → Plant → Type 0
  IsSetBy settings p = AreAlike (after_settings settings) p

  one_more : (settings : List Cfg) (body : Cfg) (q : Plant) → AreAlike (accepted s (after_settings settings) (Setting body)) q → IsSetBy (body ∷ settings) q
  one_more settings body q a =
      let e : after_settings (body ∷ settings) ≡ accepted s (after_settings settings) (Setting body) = ap (plant_after_all s home) (reverse-append (body ∷ []) settings) ∙ after_append s home (reverse settings) (body ∷ []) in
      let P : Plant → Type 0 = λ z. AreAlike z q in
      subst P (sym e) a

  not_taken : (asked : Asked) (rest : List Cfg) → setting_taken (Some asked) false rest ≡ rest
  not_taken (Change named request) rest = refl
  not_taken (Setting body) rest = refl
  not_taken (Question q) rest = refl

  accepted_set : (p : Plant) (asked : Asked) (settings : List Cfg) → IsSetBy settings p → IsSetBy (setting_taken (Some asked) (acknowledges (answer p asked)) settings) (answered_plant s p asked None).after
  unfolding accepted answer
  accepted_set p (Change named request) settings a =
      let t = state_or p.state (next_on p.state request named p.outputs_sent) in
      let b = alike_then (after_settings settings) p (changed_to s p request t) a (changed_alike p request t) in
      record { kind = b.kind; parameters = b.parameters; changes = b.changes }
  accepted_set p (Setting body) settings a =
      let b = set_alike (after_settings settings) p body a in
      one_more settings body (answered_plant s p (Setting body) None).after (record { kind = b.kind; parameters = b.parameters; changes = b.changes })
  accepted_set p (Question inf.State) settings a = record { kind = a.kind; parameters = a.parameters; changes = a.changes }
  accepted_set p (Question inf.Error) settings a = record { kind = a.kind; parameters = a.parameters; changes = a.changes }
  accepted_set p (Question (inf.Log category most)) settings a = record { kind = a.kind; parameters = a.parameters; changes = a.changes }

  answered_set : (p : Plant) (asked : Asked) (o : Option ErrorCode) (settings : List Cfg) → IsSetBy settings p → IsSetBy (setting_taken (Some asked) (acknowledges (answered_plant s p asked o).answer) settings) (answered_plant s p asked o).after
  answered_set p asked None settings a = accepted_set p asked settings a
  answered_set p asked (Some code) settings a =
      let P : List Cfg → Type 0 = λ l. IsSetBy l (answered_plant s p asked (Some code)).after in
      subst P (sym (not_taken asked settings)) (record { kind = a.kind; parameters = a.parameters; changes = a.changes })

  settings_are : (p : Plant) (es : List DecidedRequest) (r : req.SlaveRequest) (k : Note) (next' : ℕ) → spec.heard_as (Some k.message) ≡ spec.Asks r
      → settings_taken (exchanged s p r k next' ∷ es) ≡ setting_taken (Some r.asked) (acknowledges (answers s r.asked p).answer) (settings_taken es)
  settings_are p es r k next' h =
      let a = (answers s r.asked p).answer in
      ap (λ o. setting_taken o (is_acknowledged (answer_note r next' a)) (settings_taken es)) (ap asked_heard h) ∙ ap (λ b. setting_taken (Some r.asked) b (settings_taken es)) (acknowledged r next' a)

  -- ---- over a log
  module _ (w : Parties) (n : ℕ) (rd : ReadsMessages w) where
    abbrev x : List LogEntry → Both Plant
    x log = at (machine s) w n log

    abbrev Set : List LogEntry → Type 0
    Set log = IsSetBy (settings_taken (x log).desk.served) (x log).slave.inner

    abbrev SetIn : List DecidedRequest → SlaveState Plant → Type 0
    SetIn es v = IsSetBy (settings_taken es) v.inner

    same_set : (es ds : List DecidedRequest) (u v : SlaveState Plant) → ds ≡ es → v ≡ u → SetIn es u → SetIn ds v
    same_set es ds u v e f k = let P : List DecidedRequest → Type 0 = λ z. SetIn z v in let Q : SlaveState Plant → Type 0 = λ z. SetIn es z in subst P (sym e) (subst Q (sym f) k)

    pub set_by : (log : List LogEntry) → Set log
    set_by [] = record { kind = refl; parameters = refl; changes = refl }
    set_by (e ∷ log) = by (goes s w n rd e log) (set_by log)
      where
        by : Goes s (move w n e) (x log) (x (e ∷ log)) → Set log → Set (e ∷ log)
        by (stays h v) f = same_set (x log).desk.served (x (e ∷ log)).desk.served (x log).slave (x (e ∷ log)).slave v h f
        by (brings t) f =
            same_set (x log).desk.served (x (e ∷ log)).desk.served _ (x (e ∷ log)).slave t.served t.slave
            (alike_then (after_settings (settings_taken (x log).desk.served)) (x log).slave.inner (turns.brings s t.from t.number t.id t.payload (x log).slave.inner) f (brought_alike t.from t.number t.id t.payload (x log).slave.inner))
        by (turns_on mv t) f =
            let quiet = transport.quieter (x log).slave.quiet in
            let p = (x log).slave.inner in
            same_set (x log).desk.served (x (e ∷ log)).desk.served _ (x (e ∷ log)).slave t.served t.slave
            (alike_then (after_settings (settings_taken (x log).desk.served)) p (turns.turns s quiet p).after f (turned_alike p (act s quiet p)))
        by (takes t) f =
            let p = (x log).slave.inner in
            let P : List Cfg → Type 0 = λ l. IsSetBy l (answers s t.request.asked p).after in
            same_set (exchanged s p t.request t.note t.next' ∷ (x log).desk.served) (x (e ∷ log)).desk.served (transport.taken_with (x log).slave t.from t.request (answers s t.request.asked p)) (x (e ∷ log)).slave t.served t.slave
            (subst P (sym (settings_are p (x log).desk.served t.request t.note t.next' t.heard)) (answered_set p t.request.asked (refusal s p t.request.asked) (settings_taken (x log).desk.served) f))

  -- ---- the next of the plan
  accepted_home : (p : Plant) (body : Cfg) → (accepted s p (Setting body)).state ≡ p.state
  unfolding accepted
  accepted_home p (cfg.Parameter vr kind value) = refl
  accepted_home p (cfg.Logging category level mode) = refl
  accepted_home p cfg.Clear = refl
  accepted_home p (cfg.TimeRes x y) = refl
  accepted_home p (cfg.Steps x y) = refl
  accepted_home p (cfg.Input x y z v) = refl
  accepted_home p (cfg.Output x y z) = refl
  accepted_home p (cfg.Target x) = refl
  accepted_home p (cfg.Source x) = refl
  accepted_home p (cfg.Tunable x y z v) = refl
  accepted_home p (cfg.ParamNet x y z v) = refl
  accepted_home p (cfg.Scope x y) = refl

  takes_all : (p : Plant) (i : ℕ) (bodies : List Cfg) → p.state ≡ Configuration → TakesAmid s p (λ j. []) i bodies → TakesAll s p bodies
  takes_all p i [] e h = tt
  takes_all p i (body ∷ bodies) e h = ((h e).0, (h e).1, takes_all (accepted s p (Setting body)) (i + 1) bodies (accepted_home p body ∙ e) (h e).2)

  takes_from : (p : Plant) (front rest : List Cfg) → TakesAll s p (front ++ rest) → TakesAll s (plant_after_all s p front) rest
  takes_from p [] rest h = h
  takes_from p (body ∷ front) rest h = takes_from (accepted s p (Setting body)) front rest h.2

  nothing_between : (p : Plant) (i : ℕ) (bodies : List Cfg) → after_amid s p (λ j. []) i bodies ≡ plant_after_all s p bodies
  nothing_between p i [] = refl
  nothing_between p i (body ∷ bodies) = nothing_between (accepted s p (Setting body)) (i + 1) bodies

  module _ (sc : Scenario) (n : ℕ) (ok : IsScenarioSlave sc n s.desc) where
    -- the next setting of the plan is not refused in CONFIGURATION
    pub next_taken : (r : ℕ) (settings rest : List Cfg) (body : Cfg) (p : Plant) → lists_until sc n s.desc r ≡ reverse settings ++ body ∷ rest → IsSetBy settings p → p.state ≡ Configuration → refusal s p (Setting body) ≡ None
    next_taken r settings rest body p e a h =
        let P : List Cfg → Type 0 = λ l. TakesAll s home l in
        let all = subst P e (takes_all home 0 (lists_until sc n s.desc r) refl (runs_taken sc n s home (λ j. []) r ok)) in
        let here = takes_from home (reverse settings) (body ∷ rest) all in
        (amid_taken s (after_settings settings) p (λ j. []) 0 (body ∷ rest) a here h).0

    -- once it has all of them its wiring is complete
    pub all_complete : (r : ℕ) (settings : List Cfg) (p : Plant) → lists_until sc n s.desc r ≡ reverse settings → IsSetBy settings p → complete p.wires.changes ≡ true
    all_complete r settings p e a =
        let whole : complete (after_settings settings).wires.changes ≡ true = ap (λ (l : List Cfg). complete (plant_after_all s home l).wires.changes) (sym e) ∙ sym (ap (λ (z : Plant). complete z.wires.changes) (nothing_between home 0 (lists_until sc n s.desc r))) ∙ runs_complete sc n s home (λ j. []) r ok in
        same_complete p.wires.changes ∙ ap complete a.changes ∙ sym (same_complete (after_settings settings).wires.changes) ∙ whole
