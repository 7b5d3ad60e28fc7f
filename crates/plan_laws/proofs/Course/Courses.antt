-- Who is asked in order is opened for the run of its events.
use Rattle.std.proofs.Common.{◌≡◌, ℕ, ◌+◌, ◌*◌, ◌/◌, ◌%◌, not, Bool, true, false, if◌then◌else◌, inl, inr, List, [], ◌∷◌, Option, Some, refl, sym, ap, ◌∙◌, subst, arith}
use Rattle.std.proofs.lemmas.Bool.{and_parts}
use Rattle.std.proofs.lemmas.Nat.{mod-mul-add}
use Rattle.slave_desc.specs.declared.descriptions.SlaveDesc.{SlaveDesc}
use Rattle.scenario.specs.declared.scenarios.Scenario.{Scenario}
use Rattle.log_spec.specs.Messages.{is_request_code}
use Rattle.log_spec.specs.Log.{DecidedRequest}
use Rattle.lockstep_laws.specs.Asked.{AskedAsPlanned}
use Rattle.lockstep_laws.specs.Steps.{RowEvent, Show, Step, Restart, row_event_at, event_asked, Reply, reply_of, Told, Begins, Does, Rested, Nothing, told_by, told_of, BenchProgress, events_counted, view_after, view, run_after}
use Rattle.lockstep_laws.proofs.Places.{restart_is}
use Rattle.lockstep_laws.specs.Models.Machines.{Begun}
use Rattle.plan_laws.specs.Course.Taken.{asked_in, told_since}
use Rattle.plan_laws.specs.Course.Courses.{tuned, opened, same_event, may_begin, may_set, may}
use Rattle.plan_laws.specs.Course.Orders.{may_ask, BegunIsOpened, OpenedStays, OpenedIsTuned}
use Rattle.plan_laws.proofs.Course.Kept.{opened_same}
use Rattle.plan_laws.proofs.Course.Runs.{restarted_whole, restarted_apart, run_same}

begins_of : (o : Option RowEvent) (p : Reply) (k : RowEvent) → told_by o p ≡ Begins k → o ≡ Some k
begins_of o p k h = grind arith

does_of : (o : Option RowEvent) (p : Reply) → told_by o p ≡ Does → o ≡ Some Restart
does_of o p h = grind arith

restart_of : (l : RowEvent) → same_event Restart l ≡ true → Restart ≡ l
restart_of Restart h = refl
restart_of Show h = absurd cc
restart_of Step h = absurd cc

not_waiting : (b : Bool) → not b ≡ true → b ≡ false
not_waiting false h = refl
not_waiting true h = absurd cc

free_count : (v : BenchProgress) → v.waiting ≡ false → events_counted v ≡ v.done
free_count v h = ap (λ b. if b then v.done + 1 else v.done) h

module _ (sc : Scenario) (s : ℕ) (d : SlaveDesc) where
  -- what may be begun finds none under way, in turn, and the slave opened
  record IsReady (k : RowEvent) (es : List DecidedRequest) : Type 0 where
    pub free : (view es).waiting ≡ false
    pub turn : same_event k (row_event_at sc.steps (view es).done) ≡ true
    pub open' : opened sc s d (run_after sc.steps (view es).done) es ≡ true

  begin_ready : (k : RowEvent) (es : List DecidedRequest) → may_begin sc s d es (view es) (Some k) ≡ true → IsReady k es
  begin_ready k es h =
      let a = and_parts (not (view es).waiting) _ h in
      let b = and_parts (same_event k (row_event_at sc.steps (view es).done)) _ a.1 in
      record { free = not_waiting (view es).waiting a.0; turn = b.0; open' = b.1 }

  -- what a request that may be asked has
  record IsAsked (e : DecidedRequest) (es : List DecidedRequest) : Type 0 where
    pub code : is_request_code e.request.message.code ≡ true
    pub begins : may_begin sc s d es (view es) (event_asked e.request) ≡ true
    pub sets : may_set sc s d es (asked_in e.request) ≡ true

  asked_parts : (e : DecidedRequest) (es : List DecidedRequest) → may_ask sc s d es e.request ≡ true → IsAsked e es
  asked_parts e es h =
      let a = and_parts (is_request_code e.request.message.code) (may sc s d es e.request) h in
      let b = and_parts (may_begin sc s d es (view es) (event_asked e.request)) (may_set sc s d es (asked_in e.request)) a.1 in
      record { code = a.0; begins = b.0; sets = b.1 }

  ready_for : (k : RowEvent) (e : DecidedRequest) (es : List DecidedRequest) → IsAsked e es → event_asked e.request ≡ Some k → IsReady k es
  ready_for k e es a h = let P : Option RowEvent → Type 0 = λ o. may_begin sc s d es (view es) o ≡ true in begin_ready k es (subst P h a.begins)

  abbrev Restarts : List DecidedRequest → Type 0
  Restarts es = ((view es).done % 2 ≡ 0 → ⊥) × (((view es).done / 2 + 1) % (sc.steps + 1) ≡ 0)

  does_ready : (e : DecidedRequest) (es : List DecidedRequest) → IsAsked e es → told_of e ≡ Does → IsReady Restart es × Restarts es
  does_ready e es a t =
      let r = ready_for Restart e es a (does_of (event_asked e.request) (reply_of e.answer) t) in
      (r, restart_is sc.steps (view es).done (restart_of (row_event_at sc.steps (view es).done) r.turn))

  abbrev Open : List DecidedRequest → Type 0
  Open es = opened sc s d (run_after sc.steps (view es).done) es ≡ true

  abbrev OpenWith : BenchProgress → List DecidedRequest → Type 0
  OpenWith v es = opened sc s d (run_after sc.steps v.done) es ≡ true

  -- opened before, and in the same run after
  moved_open : (n : ℕ) (e : DecidedRequest) (es : List DecidedRequest) → (told_of e ≡ Does → ⊥) → IsAsked e es → run_after sc.steps n ≡ run_after sc.steps (view es).done → Open es → opened sc s d (run_after sc.steps n) (e ∷ es) ≡ true
  moved_open n e es no' a same o = ap (λ r. opened sc s d r (e ∷ es)) same ∙ opened_same sc s d (run_after sc.steps (view es).done) e es no' a.code a.sets o

  apart : (t u : Told) → (t ≡ u → ⊥) → (x : Told) → x ≡ t → x ≡ u → ⊥
  apart t u f x a b = f (sym a ∙ b)

  step : (e : DecidedRequest) (es : List DecidedRequest) → IsAsked e es → (Begun sc.steps (view es) → Open es) → (t : Told) → told_of e ≡ t → Begun sc.steps (view_after t (view es)) → OpenWith (view_after t (view es)) (e ∷ es)
  step e es a f (Begins k) h b =
      let r = ready_for k e es a (begins_of (event_asked e.request) (reply_of e.answer) k h) in
      moved_open (events_counted (view es)) e es (apart (Begins k) Does (λ z. cc) (told_of e) h) a (ap (run_after sc.steps) (free_count (view es) r.free)) r.open'
  step e es a f Does h (inl w) = absurd cc
  step e es a f Does h (inr no') =
      let r = does_ready e es a h in
      let same : events_counted (view es) + 1 ≡ (view es).done + 1 = ap (λ n. n + 1) (free_count (view es) r.0.free) in
      absurd (no' (ap (λ n. n % (2 * (sc.steps + 1))) same ∙ restarted_whole sc.steps (view es).done r.1.0 r.1.1))
  step e es a f Rested h (inl w) = absurd cc
  step e es a f Rested h (inr no') = by (view es).waiting refl
    where
      by : (b : Bool) → (view es).waiting ≡ b → OpenWith (view_after Rested (view es)) (e ∷ es)
      by true w =
          let same : events_counted (view es) ≡ (view es).done + 1 = ap (λ b. if b then (view es).done + 1 else (view es).done) w in
          let run = run_same sc.steps (view es).done (λ z. no' (ap (λ n. n % (2 * (sc.steps + 1))) same ∙ z)) in
          moved_open (events_counted (view es)) e es (apart Rested Does (λ z. cc) (told_of e) h) a (ap (run_after sc.steps) same ∙ run) (f (inl w))
      by false w =
          let same = free_count (view es) w in
          moved_open (events_counted (view es)) e es (apart Rested Does (λ z. cc) (told_of e) h) a (ap (run_after sc.steps) same) (f (inr (λ z. no' (ap (λ n. n % (2 * (sc.steps + 1))) same ∙ z))))
  step e es a f Nothing h b = moved_open (view es).done e es (apart Nothing Does (λ z. cc) (told_of e) h) a refl (f b)

  open_from : (es : List DecidedRequest) → AskedAsPlanned (may_ask sc s d) es → Begun sc.steps (view es) → Open es
  open_from [] a (inl w) = absurd cc
  open_from [] a (inr no') = let none : 0 ≡ 0 * (2 * (sc.steps + 1)) + 0 = omega arith in absurd (no' (ap (λ n. n % (2 * (sc.steps + 1))) none ∙ mod-mul-add 0 (2 * (sc.steps + 1)) 0 (omega arith)))
  open_from (e ∷ es) a b = step e es (asked_parts e es a.0) (open_from es a.1) (told_of e) refl b

  stay : (r : ℕ) (e : DecidedRequest) (es : List DecidedRequest) → IsAsked e es → (t : Told) → told_of e ≡ t → opened sc s d r es ≡ true → run_after sc.steps (view es).done ≡ r → run_after sc.steps (view_after t (view es)).done ≡ r → opened sc s d r (e ∷ es) ≡ true
  stay r e es a Does h o p q =
      let k = does_ready e es a h in
      let same : events_counted (view es) + 1 ≡ (view es).done + 1 = ap (λ n. n + 1) (free_count (view es) k.0.free) in
      absurd (restarted_apart sc.steps (view es).done k.1.0 k.1.1 (sym (ap (run_after sc.steps) same) ∙ q ∙ sym p))
  stay r e es a (Begins k) h o p q = opened_same sc s d r e es (apart (Begins k) Does (λ z. cc) (told_of e) h) a.code a.sets o
  stay r e es a Rested h o p q = opened_same sc s d r e es (apart Rested Does (λ z. cc) (told_of e) h) a.code a.sets o
  stay r e es a Nothing h o p q = opened_same sc s d r e es (apart Nothing Does (λ z. cc) (told_of e) h) a.code a.sets o

pub begun : BegunIsOpened
begun sc s d es a b = open_from sc s d es a b

pub stays : OpenedStays
stays sc s d r e es a o p q = stay sc s d r e es (asked_parts sc s d e es a.0) (told_of e) refl o p q

pub opened_tuned : OpenedIsTuned
opened_tuned sc s d r es o = (and_parts (tuned sc s d r es) (told_since es) o).0
