-- The master has its report in time.
use Rattle.std.proofs.Common.{◌≡◌, ℕ, suc, ◌+◌, ◌-◌, ◌*◌, ◌≤◌, ◌<◌, ◌==◌, Bool, true, false, Option, Some, None, List, [], ◌∷◌, map, drop, refl, sym, ap, subst, ◌∙◌, arith, add-one}
use Rattle.std.specs.Prelude.{is_some, if◌then◌else◌}
use Rattle.std.specs.List.{AllByRecursion, list_all}
use mathlib.Core.Logic.{◌⊎◌, inl, inr}
use Rattle.std.proofs.Math.ListN.{get_or}
use Rattle.std.proofs.Math.Seq.{drop-cons}
use Rattle.std.proofs.Math.Nat.{add-mul, mul-add, mul-le-mul_right, mul-le-mul_left}
use Rattle.std.proofs.lemmas.Bool.{eqb-true, eqb-false, cases_lt}
use Rattle.scenario.specs.Sound.{IsLimits}
use Rattle.dcp_types.specs.declared.addresses.Address.{Address}
use Rattle.dcp_types.specs.declared.limits.Limits.{Limits}
use Rattle.dcp_ends.specs.Events.{Event, Gram, Tick}
use Rattle.master_spec.specs.declared.reports.Report.{Report}
use Rattle.master_spec.specs.declared.reports.Report.TheVariants as reports
use Rattle.master_spec.specs.declared.setups.Slave.{Slave}
use Rattle.master_spec.specs.declared.setups.Setup.{Setup}
use Rattle.master_spec.specs.Marks.{Turned}
use Rattle.master_spec.specs.Bound.{bound}
use Rattle.master_spec.specs.Setup.{jobs_of}
use Rattle.master_spec.specs.Course.{CourseTalk, Course, fresh_talk, is_settled, is_quiet, task_begun, mark_of_gram, phases, with_next, with_report, with_turns, decided, decided_if, course_turned, failed, still, after_gram, course_after_turn, step, course, master_turns}
use Rattle.master_log_laws.proofs.Bound.Budgets.{patience, attempt}
use Rattle.master_log_laws.proofs.Bound.Begins.{whole}
use Rattle.master_log_laws.proofs.Bound.Sizes.{AreWithin, sizes_of, all_within, length_sizes, cost, weight_of, cost_bound}
use Rattle.master_log_laws.proofs.Bound.Talks.{AllStay, AllOwn, all_own, all_heard, all_turned, some_going, all_quiet, all_begun}

-- a phase has begun, and after all that is left there is time for all further ones
pub record InTime (setup : Setup) (t : ℕ) (c : Course) : Type 0 where
  pub left : ℕ
  pub begun_one : 1 ≤ c.phase
  pub few : c.phase ≤ phases setup
  pub stay : AllStay setup.limits left c.talks
  pub time : t + left + 1 + cost (weight_of setup.limits) (drop c.phase (sizes_of setup)) ≤ bound setup

-- no phase has begun, or it is in time
pub record Stands (setup : Setup) (t : ℕ) (c : Course) : Type 0 where
  pub own : AllOwn setup c.talks
  pub when : ((c.phase ≡ 0) × (t ≡ 0)) ⊎ InTime setup t c

-- ---- the next phase

-- a phase takes less than its share
enough : (l : Limits) (x : ℕ) → IsLimits l → whole l x + 2 ≤ (1 + x) * weight_of l
enough l x lim =
    let a = patience l in
    let rest = 4 * a + l.state_limit + l.watch_turns + l.data_turns + 8 in
    let parts : weight_of l ≡ l.step_tries * attempt l + l.step_tries * rest = ap (λ (n : ℕ). l.step_tries * n) (omega arith) ∙ mul-add l.step_tries (attempt l) rest in
    let twice : 2 * rest ≤ l.step_tries * rest = mul-le-mul_right rest lim.step_tries.0 in
    let each : x * a ≤ x * weight_of l = mul-le-mul_left x (omega (arith, parts, twice)) in
    let split : (1 + x) * weight_of l ≡ 1 * weight_of l + x * weight_of l = add-mul 1 x (weight_of l) in
    omega (arith, parts, twice, each, split)

next_in_time : (setup : Setup) (t : ℕ) (c : Course) → IsLimits setup.limits → 1 ≤ setup.runs → AllOwn setup c.talks → c.phase < phases setup → t + cost (weight_of setup.limits) (drop c.phase (sizes_of setup)) ≤ bound setup
    → InTime setup (t + 1) (with_next setup c)
next_in_time setup t c lim runs own few time =
    let sizes = sizes_of setup in
    let w = weight_of setup.limits in
    let x = get_or sizes c.phase 0 in
    let n = length_sizes setup runs in
    let e : drop c.phase sizes ≡ x ∷ drop (suc c.phase) sizes = drop-cons sizes c.phase 0 (omega (arith, few, n)) in
    let now : cost w (drop c.phase sizes) ≡ (1 + x) * w + cost w (drop (suc c.phase) sizes) = ap (λ (xs : List ℕ). cost w xs) e in
    let later : cost w (drop (c.phase + 1) sizes) ≡ cost w (drop (suc c.phase) sizes) = ap (λ (i : ℕ). cost w (drop i sizes)) (add-one c.phase) in
    let room = enough setup.limits x lim in
    record {
      left = whole setup.limits x;
      begun_one = omega arith;
      few = omega (arith, few);
      stay = all_begun setup (whole setup.limits x) c.phase x (drop (suc c.phase) sizes) c.talks lim (omega arith) e own;
      time = omega (arith, time, now, later, room);
    }

-- ---- a turn

-- all conversations after the turn
all_after : (setup : Setup) (c : Course) (n : ℕ) (settled : Bool) → IsLimits setup.limits → list_all is_settled c.talks ≡ settled → AllStay setup.limits n c.talks → AllStay setup.limits (n - 1) (with_turns setup settled c).talks
all_after setup c n settled lim e a =
    all_turned setup.limits n (n - 1) settled c.talks lim (omega arith)
    (λ f. let room = some_going setup.limits n c.talks lim a (e ∙ f) in omega (arith, room)) a

-- where the turn does not end the phase, some turn was left
some_left : (setup : Setup) (n : ℕ) (talks : List CourseTalk) → IsLimits setup.limits → AllStay setup.limits (n - 1) talks → list_all is_quiet talks ≡ false → 1 ≤ n
some_left setup n talks lim a e = by (cases_lt 0 n)
  where
    by : (0 < n) ⊎ (n ≤ 0) → 1 ≤ n
    by (inl h) = h
    by (inr h) =
        let z : n - 1 ≡ 0 = omega (arith, h) in
        let q : list_all is_quiet talks ≡ true = all_quiet setup.limits talks lim (subst (λ (k : ℕ). AllStay setup.limits k talks) z a) in
        absurd (cc)

-- the phase ends: the report, or the next phase
decided_in_time : (setup : Setup) (t : ℕ) (c : Course) (o : Option Report) → IsLimits setup.limits → 1 ≤ setup.runs → AllOwn setup c.talks → c.phase ≤ phases setup
    → t + cost (weight_of setup.limits) (drop c.phase (sizes_of setup)) ≤ bound setup → (decided setup c o).report ≡ None → Stands setup (t + 1) (decided setup c o)
decided_in_time setup t c (Some report) lim runs own few time none = absurd (cc)
decided_in_time setup t c None lim runs own few time none = by (c.phase == phases setup) refl none
  where
    by : (b : Bool) → (c.phase == phases setup) ≡ b → (if b then with_report c (reports.Finished setup.steps) else with_next setup c).report ≡ None
        → Stands setup (t + 1) (if b then with_report c (reports.Finished setup.steps) else with_next setup c)
    by true e none = absurd (cc)
    by false e none =
        let other = eqb-false c.phase (phases setup) e in
        record {
          own = all_own setup (task_begun setup (c.phase + 1)) c.talks own;
          when = inr (next_in_time setup t c lim runs own (omega (arith, few, other)) time);
        }

turn_in_time : (setup : Setup) (t : ℕ) (c : Course) (settled : Bool) → IsLimits setup.limits → 1 ≤ setup.runs → AllOwn setup c.talks → InTime setup t c → list_all is_settled c.talks ≡ settled → (course_turned setup (with_turns setup settled c)).report ≡ None
    → Stands setup (t + 1) (course_turned setup (with_turns setup settled c))
turn_in_time setup t c settled lim runs own it e none = by (list_all is_quiet (with_turns setup settled c).talks) refl none
  where
    by : (b : Bool) → list_all is_quiet (with_turns setup settled c).talks ≡ b → (decided_if setup b (with_turns setup settled c)).report ≡ None → Stands setup (t + 1) (decided_if setup b (with_turns setup settled c))
    by false q none =
        let stay = all_after setup c it.left settled lim e it.stay in
        let some : 1 ≤ it.left = some_left setup it.left (with_turns setup settled c).talks lim stay q in
        let time = it.time in
        record {
          own = all_own setup (λ talk. Some (Turned settled)) c.talks own;
          when = inr (record {
            left = it.left - 1;
            begun_one = it.begun_one;
            few = it.few;
            stay = stay;
            time = omega (arith, time, some);
          });
        }
    by true q none =
        let time = it.time in
        decided_in_time setup t (with_turns setup settled c) (failed c.phase (with_turns setup settled c).talks) lim runs (all_own setup (λ talk. Some (Turned settled)) c.talks own) it.few (omega (arith, time)) none

after_turn_in_time : (setup : Setup) (t : ℕ) (c : Course) → IsLimits setup.limits → 1 ≤ setup.runs → Stands setup t c → (course_after_turn setup c).report ≡ None → Stands setup (t + 1) (course_after_turn setup c)
after_turn_in_time setup t c lim runs s none = by (c.phase == 0) refl s.when none
  where
    by : (b : Bool) → (c.phase == 0) ≡ b → ((c.phase ≡ 0) × (t ≡ 0)) ⊎ InTime setup t c → (if b then with_next setup (still c) else course_turned setup (with_turns setup (list_all is_settled c.talks) c)).report ≡ None
        → Stands setup (t + 1) (if b then with_next setup (still c) else course_turned setup (with_turns setup (list_all is_settled c.talks) c))
    by true e (inl h) none =
        let w = weight_of setup.limits in
        let p = h.0 in
        let z = h.1 in
        let all : cost w (drop c.phase (sizes_of setup)) ≡ bound setup = ap (λ (i : ℕ). cost w (drop i (sizes_of setup))) p ∙ cost_bound setup runs in
        record {
          own = all_own setup (task_begun setup (c.phase + 1)) c.talks s.own;
          when = inr (next_in_time setup t (still c) lim runs s.own (omega (arith, p)) (omega (arith, z, all)));
        }
    by true e (inr it) none = let p = eqb-true c.phase 0 e in let one = it.begun_one in absurd (omega (arith, p, one))
    by false e (inl h) none = absurd (eqb-false c.phase 0 e h.0)
    by false e (inr it) none = turn_in_time setup t c (list_all is_settled c.talks) lim runs s.own it refl none

-- ---- a datagram

after_gram_in_time : (setup : Setup) (t : ℕ) (from : Address) (bytes : List ℕ) (c : Course) → IsLimits setup.limits → Stands setup t c → Stands setup t (after_gram setup from bytes c)
after_gram_in_time setup t from bytes c lim s = record { own = all_own setup (λ talk. mark_of_gram talk from bytes) c.talks s.own; when = by s.when }
  where
    by : ((c.phase ≡ 0) × (t ≡ 0)) ⊎ InTime setup t c → ((c.phase ≡ 0) × (t ≡ 0)) ⊎ InTime setup t (after_gram setup from bytes c)
    by (inl h) = inl h
    by (inr it) = inr (record {
      left = it.left;
      begun_one = it.begun_one;
      few = it.few;
      stay = all_heard setup.limits it.left from bytes c.talks lim it.stay;
      time = it.time;
    })

-- ---- all events

begin_own : (setup : Setup) (slaves : List Slave) → AllByRecursion (λ s. AreWithin (jobs_of setup s) (sizes_of setup)) slaves → AllOwn setup (map fresh_talk slaves)
begin_own setup [] a = tt
begin_own setup (s ∷ slaves) a = (a.0, begin_own setup slaves a.1)

none_from : (o : Option Report) → is_some o ≡ false → o ≡ None
none_from None e = refl
none_from (Some report) e = absurd (cc)

some_not : (o : Option Report) → is_some o ≡ true → o ≡ None → ⊥
some_not None e f = cc
some_not (Some report) e f = cc

-- before the report an event is taken by its rule
gram_before : (setup : Setup) (from : Address) (bytes : List ℕ) (c : Course) → c.report ≡ None → step setup (Gram from bytes) c ≡ after_gram setup from bytes c
unfolding step
gram_before setup from bytes c e = ap (λ (o : Option Report). if is_some o then still c else after_gram setup from bytes c) e

tick_before : (setup : Setup) (c : Course) → c.report ≡ None → step setup Tick c ≡ course_after_turn setup c
unfolding step
tick_before setup c e = ap (λ (o : Option Report). if is_some o then still c else course_after_turn setup c) e

-- a report stays
pub none_before : (setup : Setup) (event : Event) (c : Course) → (step setup event c).report ≡ None → c.report ≡ None
unfolding step
none_before setup (Gram from bytes) c none = by (is_some c.report) none
  where
    by : (b : Bool) → (if b then still c else after_gram setup from bytes c).report ≡ None → c.report ≡ None
    by true none = none
    by false none = none
none_before setup Tick c none = by (is_some c.report) refl none
  where
    by : (b : Bool) → is_some c.report ≡ b → (if b then still c else course_after_turn setup c).report ≡ None → c.report ≡ None
    by true e none = none
    by false e none = none_from c.report e

pub turn_counted : (setup : Setup) (events : List Event) → (course setup events).report ≡ None → master_turns setup (Tick ∷ events) ≡ master_turns setup events + 1
turn_counted setup events e = ap (λ (o : Option Report). if is_some o then master_turns setup events else master_turns setup events + 1) e

stands_after : (setup : Setup) (events : List Event) → IsLimits setup.limits → 1 ≤ setup.runs → (course setup events).report ≡ None → Stands setup (master_turns setup events) (course setup events)
stands_after setup [] lim runs none = record { own = begin_own setup setup.slaves (all_within setup); when = inl (refl, refl) }
stands_after setup (Gram from bytes ∷ events) lim runs none =
    let c = course setup events in
    let before : c.report ≡ None = none_before setup (Gram from bytes) c none in
    subst (λ (x : Course). Stands setup (master_turns setup events) x) (sym (gram_before setup from bytes c before))
    (after_gram_in_time setup (master_turns setup events) from bytes c lim (stands_after setup events lim runs before))
stands_after setup (Tick ∷ events) lim runs none =
    let c = course setup events in
    let before : c.report ≡ None = none_before setup Tick c none in
    let is : step setup Tick c ≡ course_after_turn setup c = tick_before setup c before in
    let still_none : (course_after_turn setup c).report ≡ None = sym (ap (λ (x : Course). x.report) is) ∙ none in
    subst (λ (x : Course). Stands setup (master_turns setup (Tick ∷ events)) x) (sym is)
    (subst (λ (t : ℕ). Stands setup t (course_after_turn setup c)) (sym (turn_counted setup events before))
    (after_turn_in_time setup (master_turns setup events) c lim runs (stands_after setup events lim runs before) still_none))

bound_some : (setup : Setup) → IsLimits setup.limits → 1 ≤ setup.runs → 1 ≤ bound setup
bound_some setup lim runs = let all = cost_bound setup runs in let room = enough setup.limits 0 lim in omega (arith, all, room)

-- Without a report there have been fewer turns than the bound says.
pub below_bound : (setup : Setup) (events : List Event) → IsLimits setup.limits → 1 ≤ setup.runs → (course setup events).report ≡ None → master_turns setup events < bound setup
below_bound setup events lim runs none = by (stands_after setup events lim runs none).when
  where
    by : (((course setup events).phase ≡ 0) × (master_turns setup events ≡ 0)) ⊎ InTime setup (master_turns setup events) (course setup events) → master_turns setup events < bound setup
    by (inl h) = let z = h.1 in let some = bound_some setup lim runs in omega (arith, z, some)
    by (inr it) = let time = it.time in omega (arith, time)

-- With one or without, there are never more.
pub within_bound : (setup : Setup) (events : List Event) → IsLimits setup.limits → 1 ≤ setup.runs → master_turns setup events ≤ bound setup
within_bound setup [] lim runs = omega arith
within_bound setup (Gram from bytes ∷ events) lim runs = within_bound setup events lim runs
within_bound setup (Tick ∷ events) lim runs = by (is_some (course setup events).report) refl (within_bound setup events lim runs)
  where
    by : (b : Bool) → is_some (course setup events).report ≡ b → master_turns setup events ≤ bound setup → (if b then master_turns setup events else master_turns setup events + 1) ≤ bound setup
    by true e h = h
    by false e h = let below = below_bound setup events lim runs (none_from (course setup events).report e) in omega (arith, below)
