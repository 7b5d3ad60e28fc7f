-- Where a slave stands that is asked in order.
use Rattle.std.proofs.Common.{◌≡◌, ℕ, Bool, true, false, if◌then◌else◌, ◌⊎◌, inl, inr, List, [], ◌∷◌, Option, Some, None, refl, sym, ap, ◌∙◌, subst, arith}
use Rattle.std.proofs.lemmas.Bool.{and_parts}
use Rattle.dcp_types.specs.declared.addresses.Address.{Address}
use Rattle.dcp_types.specs.declared.error_codes.ErrorCode.{ErrorCode}
use Rattle.dcp_types.specs.declared.states.State.{State}
use Rattle.dcp_ends.specs.declared.entries.LogEntry.{LogEntry}
use Rattle.pdu_layout.specs.declared.messages.Stc.TheVariants as stc
use Rattle.scenario.specs.declared.scenarios.Scenario.{Scenario}
use Rattle.log_spec.specs.Messages.{Note}
use Rattle.log_spec.specs.Log.{Parties, DecidedRequest}
use Rattle.lockstep_laws.specs.Asked.{AskedAsPlanned}
use Rattle.lockstep_laws.specs.Steps as steps
use Rattle.lockstep_laws.specs.Steps.{RowEvent, Restart, place_after, row_event_at, event_asked, Reply, Told, told_by, told_of, BenchProgress, events_counted, view, Bench, TakesOn}
use Rattle.lockstep_laws.proofs.Local.{IsInTurn, takes_counts, turn_counts}
use Rattle.lockstep_laws.proofs.Places.{Fits, restart_is, free_counted, take_placed, turn_placed, is_last}
use Rattle.slave_spec.specs.Payloads.{brought}
use Rattle.slave_spec.specs.declared.words.SlaveSetup.{SlaveSetup}
use Rattle.slave_spec.specs.declared.words.SlaveRequest as req
use Rattle.slave_spec.specs.declared.words.Asked as ask
use Rattle.slave_spec.specs.declared.words.Asked.TheVariants.{Change, Setting, Question}
use Rattle.slave_spec.specs.declared.words.Session.{Session}
use Rattle.slave_spec.specs.declared.words.Session.TheVariants.{Before, During, After}
use Rattle.slave_spec.specs.Heard as spec
use Rattle.slave_spec.specs.Transport as transport
use Rattle.slave_spec.specs.Plants.{Plant, start_plant}
use Rattle.slave_spec.specs.Sound.{IsSoundPlant}
use Rattle.slave_spec.specs.Requests.{refusal, answer, answered_plant, answers}
use Rattle.slave_spec.specs.Turns as turns
use Rattle.slave_spec.specs.Turns.{act, is_listening, brings}
use Rattle.slave_spec.specs.Slaves.{machine}
use Rattle.slave_laws.specs.Talk.Plants.{bench_of, event_wanted, reply_told, events_taken, events_turned}
use Rattle.slave_laws.specs.Talk.Desks.{answer_note, at}
use Rattle.slave_laws.proofs.Talk.Plants.{Sound, act_step, turn_goes, answer_goes}
use Rattle.slave_laws.proofs.Talk.Benches.{reply_is, turned_sound, taken_sound, same_sound}
use Rattle.slave_laws.specs.Talk.Sends.{ReadsMessages}
use Rattle.slave_laws.proofs.Talk.Sending.{sends_back}
use Rattle.slave_laws.proofs.Model.Along.{exchanged, Lasts, along}
use Rattle.plan_laws.specs.Course.Taken.{asked_in, settings_taken, resets_taken}
use Rattle.plan_laws.specs.Course.Courses.{may_begin, may_set, may}
use Rattle.slave_laws.specs.Wiring.Wired.{is_during, WiringIsPlanned, PlaceIsCounted}
use Rattle.slave_laws.proofs.Wiring.Staged.{in_turn}
use Rattle.slave_laws.proofs.Wiring.Stages.{IsStaged, past_wired, exchanged_staged, turns_staged, brings_staged}

module _ (sc : Scenario) (n : ℕ) (s : SlaveSetup) where
  pub record IsOnCourse (p : Plant) (es : List DecidedRequest) : Type 0 where
    pub events : ℕ
    pub fits : Fits sc.steps es (bench_of events p)
    pub sound : Sound p
    pub staged : IsStaged sc n s p (settings_taken es) (resets_taken es)

  abbrev pub CourseIn : Session → Plant → List DecidedRequest → Type 0
  CourseIn Before p es = es ≡ []
  CourseIn (During master id) p es = IsOnCourse p es
  CourseIn (After master id) p es = Unit {0}

  begun : IsOnCourse (start_plant s) []
  begun = record {
    events = 0;
    fits = record { counts = inl (refl, refl, refl); placed = record { is = omega arith; most = omega arith } };
    sound = inl refl;
    staged = record { new = []; many = refl; taken = refl; changes = refl; past = λ z. absurd cc };
  }

  -- ---- a request that is taken
  module _ (p : Plant) (es : List DecidedRequest) (r : req.SlaveRequest) (k : Note) (next' : ℕ) (ev : event_asked k ≡ event_wanted r.asked) where
    abbrev Given : transport.SlaveAnswer
    Given = (answers s r.asked p).answer

    tells : told_of (exchanged s p r k next') ≡ told_by (event_wanted r.asked) (reply_told Given)
    tells = ap (λ q. told_by q (steps.reply_of (answer_note r next' Given))) ev ∙ ap (told_by (event_wanted r.asked)) (reply_is r next' Given)

    takes : (many : ℕ) → Sound p → TakesOn (told_of (exchanged s p r k next')) (bench_of many p) (bench_of (events_taken (event_wanted r.asked) (refusal s p r.asked) many) (answers s r.asked p).after)
    takes many sound = let P : Told → Type 0 = λ t. TakesOn t (bench_of many p) (bench_of (events_taken (event_wanted r.asked) (refusal s p r.asked) many) (answers s r.asked p).after) in subst P (sym tells) (answer_goes s p r.asked many sound)

    turn : may_begin sc n s.desc es (view es) (event_asked k) ≡ true → IsInTurn sc.steps (told_of (exchanged s p r k next')) (view es)
    turn m = in_turn sc n s.desc es (view es) (event_asked k) (steps.reply_of (answer_note r next' Given)) m

  -- a reset is accepted after all steps
  all_by : (p : Plant) (es : List DecidedRequest) (many : ℕ) (named : State) (c : Bench) (o : Option ErrorCode) → o ≡ None → IsInTurn sc.steps (told_by (Some Restart) (reply_told (answered_plant s p (Change named stc.Reset) o).answer)) (view es)
      → TakesOn (told_by (Some Restart) (reply_told (answered_plant s p (Change named stc.Reset) o).answer)) (bench_of many p) c → Fits sc.steps es (bench_of many p) → p.steps ≡ sc.steps
  unfolding answer
  all_by p es many named c (Some code) e i t f = absurd cc
  all_by p es many named c None e i t f =
      let b = bench_of many p in
      let here : Restart ≡ row_event_at sc.steps b.events = i ∙ ap (row_event_at sc.steps) (sym (free_counted sc.steps (view es) b t.free t.sound f.counts)) in
      is_last sc.steps b.resets b.steps (place_after b.events) f.placed.is f.placed.most (restart_is sc.steps b.events here).1

  all_steps : (p : Plant) (es : List DecidedRequest) (many : ℕ) (asked : ask.Asked) (c : Bench) (named : State) → asked ≡ Change named stc.Reset → refusal s p asked ≡ None
      → IsInTurn sc.steps (told_by (event_wanted asked) (reply_told (answered_plant s p asked (refusal s p asked)).answer)) (view es)
      → TakesOn (told_by (event_wanted asked) (reply_told (answered_plant s p asked (refusal s p asked)).answer)) (bench_of many p) c → Fits sc.steps es (bench_of many p) → p.steps ≡ sc.steps
  all_steps p es many asked c named e =
      let P : ask.Asked → Type 0 = λ a. refusal s p a ≡ None → IsInTurn sc.steps (told_by (event_wanted a) (reply_told (answered_plant s p a (refusal s p a)).answer)) (view es)
      → TakesOn (told_by (event_wanted a) (reply_told (answered_plant s p a (refusal s p a)).answer)) (bench_of many p) c → Fits sc.steps es (bench_of many p) → p.steps ≡ sc.steps in
      subst P (sym e) (λ h i t f. all_by p es many named c (refusal s p (Change named stc.Reset)) h i t f)

  step : (p : Plant) (es : List DecidedRequest) (r : req.SlaveRequest) (k : Note) (next' : ℕ) → spec.heard_as (Some k.message) ≡ spec.Asks r → event_asked k ≡ event_wanted r.asked → may sc n s.desc es k ≡ true → transport.is_last r.asked (answers s r.asked p).answer ≡ false
      → IsOnCourse p es → IsOnCourse (answers s r.asked p).after (exchanged s p r k next' ∷ es)
  step p es r k next' h ev m last c =
      let a = and_parts (may_begin sc n s.desc es (view es) (event_asked k)) (may_set sc n s.desc es (asked_in k)) m in
      let d = exchanged s p r k next' in
      let many = events_taken (event_wanted r.asked) (refusal s p r.asked) c.events in
      let t = takes p es r k next' ev c.events c.sound in
      let i = turn p es r k next' ev a.0 in
      let b = bench_of c.events p in
      let b' = bench_of many (answers s r.asked p).after in
      let P : Told → Type 0 = λ z. IsInTurn sc.steps z (view es) in
      let Q : Told → Type 0 = λ z. TakesOn z b b' in
      let told = tells p es r k next' ev in
      record {
        events = many;
        fits = record { counts = takes_counts sc.steps (told_of d) (view es) b b' i t c.fits.counts; placed = take_placed sc.steps (told_of d) (view es) b b' i t c.fits.counts c.fits.placed };
        sound = still (taken_sound s p r.asked (refusal s p r.asked) refl c.sound) last;
        staged = exchanged_staged sc n s p es r k next' h (λ named e g. all_steps p es c.events r.asked b' named e g (subst P told i) (subst Q told t) c.fits) a.1 c.staged;
      }
    where
      still : (transport.is_last r.asked (answers s r.asked p).answer ≡ true) ⊎ Sound (answers s r.asked p).after → transport.is_last r.asked (answers s r.asked p).answer ≡ false → Sound (answers s r.asked p).after
      still (inl e) f = absurd (clash (sym e ∙ f))
        where
          clash : true ≡ false → ⊥
          clash z = cc
      still (inr g) f = g

  register_first : (asked : ask.Asked) (a : transport.SlaveAnswer) → transport.is_register asked ≡ true → transport.is_last asked a ≡ false
  register_first (Change named (stc.Register x b c d)) a e = refl
  register_first (Change named stc.Deregister) a e = absurd cc
  register_first (Change named stc.Prepare) a e = refl
  register_first (Change named stc.Configure) a e = refl
  register_first (Change named stc.Initialize) a e = refl
  register_first (Change named (stc.Run x)) a e = refl
  register_first (Change named (stc.DoStep m)) a e = refl
  register_first (Change named stc.SendOutputs) a e = refl
  register_first (Change named stc.Stop) a e = refl
  register_first (Change named stc.Reset) a e = refl
  register_first (Setting body) a e = refl
  register_first (Question q) a e = refl

  first_step : (from : Address) (r : req.SlaveRequest) (k : Note) (next' : ℕ) (es : List DecidedRequest) → spec.heard_as (Some k.message) ≡ spec.Asks r → event_asked k ≡ event_wanted r.asked → transport.is_register r.asked ≡ true → may sc n s.desc es k ≡ true → es ≡ []
      → IsOnCourse (answers s r.asked (start_plant s)).after (exchanged s (start_plant s) r k next' ∷ es)
  first_step from r k next' es h ev reg m e =
      let P : List DecidedRequest → Type 0 = λ ds. may sc n s.desc ds k ≡ true → IsOnCourse (answers s r.asked (start_plant s)).after (exchanged s (start_plant s) r k next' ∷ ds) in
      subst P (sym e) (λ g. step (start_plant s) [] r k next' h ev g (register_first r.asked (answers s r.asked (start_plant s)).answer reg) begun) m

  taken_step : (master from : Address) (id : ℕ) (r : req.SlaveRequest) (k : Note) (next' : ℕ) (p : Plant) (es : List DecidedRequest) → spec.heard_as (Some k.message) ≡ spec.Asks r → event_asked k ≡ event_wanted r.asked → may sc n s.desc es k ≡ true → IsOnCourse p es
      → CourseIn (transport.session_after (During master id) from r (answers s r.asked p).answer) (answers s r.asked p).after (exchanged s p r k next' ∷ es)
  taken_step master from id r k next' p es h ev m c = by (transport.is_last r.asked (answers s r.asked p).answer) refl
    where
      by : (b : Bool) → transport.is_last r.asked (answers s r.asked p).answer ≡ b → CourseIn (if b then After master id else During master id) (answers s r.asked p).after (exchanged s p r k next' ∷ es)
      by true e = tt
      by false e = step p es r k next' h ev m e c

  turn_step : (quiet : ℕ) (p : Plant) (es : List DecidedRequest) → IsSoundPlant p → IsOnCourse p es → IsOnCourse (turns.turns s quiet p).after es
  turn_step quiet p es ok c =
      let many = events_turned p.state (act s quiet p) c.events in
      let b = bench_of c.events p in
      let b' = bench_of many (turns.turns s quiet p).after in
      let t = turn_goes s quiet p c.events ok in
      record {
        events = many;
        fits = record { counts = turn_counts sc.steps (view es) b b' t c.fits.counts; placed = turn_placed sc.steps (view es) b b' t c.fits.counts c.fits.placed };
        sound = turned_sound s p (act s quiet p) (act_step s quiet p) c.sound;
        staged = turns_staged sc n s quiet p (settings_taken es) (resets_taken es) c.staged;
      }

  brings_step : (from : Address) (number id : ℕ) (payload : List ℕ) (p : Plant) (es : List DecidedRequest) → IsOnCourse p es → IsOnCourse (brings s from number id payload p) es
  brings_step from number id payload p es c = record {
    events = c.events;
    fits = let P : Bench → Type 0 = Fits sc.steps es in subst P (sym bench) c.fits;
    sound = same_sound p (brings s from number id payload p) rest.0 rest.1 c.sound;
    staged = brings_staged sc n s from number id payload p (settings_taken es) (resets_taken es) c.staged;
  }
    where
      with_wires : (b : Bool) → bench_of c.events (if b then record p { wires = brought s.desc p.wires from number id payload p.steps } else p) ≡ bench_of c.events p
      with_wires true = refl
      with_wires false = refl

      bench : bench_of c.events (brings s from number id payload p) ≡ bench_of c.events p
      bench = with_wires (is_listening p.state)

      others : (b : Bool) → let q = (if b then record p { wires = brought s.desc p.wires from number id payload p.steps } else p) in (q.state ≡ p.state) × (q.fault ≡ p.fault)
      others true = (refl, refl)
      others false = (refl, refl)

      rest : ((brings s from number id payload p).state ≡ p.state) × ((brings s from number id payload p).fault ≡ p.fault)
      rest = others (is_listening p.state)

  course_lasts : Lasts s (λ es. AskedAsPlanned (may sc n s.desc) es) CourseIn
  course_lasts = record {
    less = λ d es a. a.1;
    start = refl;
    first = λ from r k next' es h ev reg a e. first_step from r k next' es h ev reg a.0 e;
    taken = λ master from id r k next' p es h ev reg a c. taken_step master from id r k next' p es h ev a.0 c;
    brings = λ master from id number i payload p es a c. brings_step from number i payload p es c;
    turns = λ master id quiet p es r r' ok a c. turn_step quiet p es ok c;
  }

  during : (session : Session) (p : Plant) (es : List DecidedRequest) → is_during session ≡ true → CourseIn session p es → IsOnCourse p es
  during Before p es e c = absurd cc
  during (During master id) p es e c = c
  during (After master id) p es e c = absurd cc

  pub on_course : (w : Parties) → ReadsMessages w → (log : List LogEntry) → let x = at (machine s) w n log in AskedAsPlanned (may sc n s.desc) x.desk.served → is_during x.slave.session ≡ true → IsOnCourse x.slave.inner x.desk.served
  on_course w rd log a e = let x = at (machine s) w n log in during x.slave.session x.slave.inner x.desk.served e (along s (λ es. AskedAsPlanned (may sc n s.desc) es) CourseIn course_lasts w n (sends_back s w n rd).agree log a)

pub is_planned : WiringIsPlanned
is_planned sc n s w ok rd log a e z = let c = on_course sc n s w rd log a e in past_wired sc n s (at (machine s) w n log).slave.inner (settings_taken (at (machine s) w n log).desk.served) (resets_taken (at (machine s) w n log).desk.served) c.staged z

pub is_counted : PlaceIsCounted
is_counted sc n s w ok rd log a e = let c = on_course sc n s w rd log a e in record { events = c.events; place = c.fits.placed.is; most = c.fits.placed.most }
