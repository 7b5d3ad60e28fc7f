-- One more event.
use Rattle.std.proofs.Common.{◌≡◌, ℕ, ◌+◌, ◌-◌, ◌^◌, min, Bool, true, false, Option, List, [], ◌∷◌, ◌++◌, reverse, refl, sym, ap, subst, ◌∙◌, arith}
use Rattle.std.specs.Prelude.{is_some, if◌then◌else◌}
use Rattle.std.proofs.lemmas.List.{reverse-append}
use Rattle.dcp_types.specs.declared.addresses.Address.{Address}
use Rattle.dcp_ends.specs.Events.{Event, Gram, Tick}
use Rattle.master_spec.specs.declared.reports.Report.{Report}
use Rattle.master_spec.specs.declared.setups.Setup.{Setup}
use Rattle.master_spec.specs.Course.{Course, step, still, after_gram, course_after_turn, course, master_turns}
use Rattle.master_core.specs.declared.records.MasterCore.{MasterCore}
use Rattle.master_core.specs.Standing.{StandsFor, StandsAfter, Meets, core_setup}
use Rattle.master_core.proofs.Onward.{still_stands}

last_first : (events : List Event) (e : Event) → reverse (events ++ e ∷ []) ≡ e ∷ reverse events
last_first events e = reverse-append events (e ∷ [])

none_some : (o p : Option Report) → is_some o ≡ false → o ≡ p → is_some p ≡ false
none_some o p n e = sym (ap is_some e) ∙ n

some_some : (o p : Option Report) → is_some o ≡ true → o ≡ p → is_some p ≡ true
some_some o p n e = sym (ap is_some e) ∙ n

gram_step : (setup : Setup) (from : Address) (bytes : List ℕ) (x : Course) → is_some x.report ≡ false → after_gram setup from bytes x ≡ step setup (Gram from bytes) x
unfolding step
gram_step setup from bytes x n = sym (ap (λ (b : Bool). if b then still x else after_gram setup from bytes x) n)

tick_step : (setup : Setup) (x : Course) → is_some x.report ≡ false → course_after_turn setup x ≡ step setup Tick x
unfolding step
tick_step setup x n = sym (ap (λ (b : Bool). if b then still x else course_after_turn setup x) n)

over_step : (setup : Setup) (e : Event) (x : Course) → is_some x.report ≡ true → still x ≡ step setup e x
unfolding step
over_step setup (Gram from bytes) x n = sym (ap (λ (b : Bool). if b then still x else after_gram setup from bytes x) n)
over_step setup Tick x n = sym (ap (λ (b : Bool). if b then still x else course_after_turn setup x) n)

course_is : (m new : MasterCore) (events : List Event) (e : Event) (y : Course) → core_setup new ≡ core_setup m → y ≡ step (core_setup m) e (course (core_setup m) (reverse events)) → y ≡ course (core_setup new) (reverse (events ++ e ∷ []))
course_is m new events e y same is =
    is ∙ ap (λ (l : List Event). course (core_setup m) l) (sym (last_first events e)) ∙ ap (λ (z : Setup). course z (reverse (events ++ e ∷ []))) (sym same)

turns_is : (m new : MasterCore) (events : List Event) (e : Event) (n : ℕ) → core_setup new ≡ core_setup m → n ≡ min (master_turns (core_setup m) (e ∷ reverse events)) (2 ^ 64 - 1) → n ≡ min (master_turns (core_setup new) (reverse (events ++ e ∷ []))) (2 ^ 64 - 1)
turns_is m new events e n same is =
    is ∙ ap (λ (l : List Event). min (master_turns (core_setup m) l) (2 ^ 64 - 1)) (sym (last_first events e)) ∙ ap (λ (z : Setup). min (master_turns z (reverse (events ++ e ∷ []))) (2 ^ 64 - 1)) (sym same)

happened : (m new : MasterCore) (events : List Event) (e : Event) (y : Course) → core_setup new ≡ core_setup m → y ≡ step (core_setup m) e (course (core_setup m) (reverse events)) → StandsFor new y
    → new.turns ≡ min (master_turns (core_setup m) (e ∷ reverse events)) (2 ^ 64 - 1) → StandsAfter new (events ++ e ∷ [])
happened m new events e y same is h n = record {
  stands = subst (λ (z : Course). StandsFor new z) (course_is m new events e y same is) h;
  turns_are = turns_is m new events e new.turns same n;
}

-- a datagram before the report
pub gram_stands : (m new : MasterCore) (events : List Event) (from : Address) (bytes : List ℕ) → StandsAfter m events → is_some m.report ≡ false → core_setup new ≡ core_setup m
    → Meets new (after_gram (core_setup m) from bytes (course (core_setup m) (reverse events))) → new.turns ≡ m.turns → StandsAfter new (events ++ Gram from bytes ∷ [])
gram_stands m new events from bytes s none same h n =
    let x = course (core_setup m) (reverse events) in
    happened m new events (Gram from bytes) (after_gram (core_setup m) from bytes x) same (gram_step (core_setup m) from bytes x (none_some m.report x.report none s.stands.parts.report_is)) h.stands (n ∙ s.turns_are)

pub gram_sends : (m new : MasterCore) (events : List Event) (from : Address) (bytes : List ℕ) → StandsAfter m events → is_some m.report ≡ false
    → Meets new (after_gram (core_setup m) from bytes (course (core_setup m) (reverse events))) → new.out ≡ (step (core_setup m) (Gram from bytes) (course (core_setup m) (reverse events))).sent
gram_sends m new events from bytes s none h =
    let x = course (core_setup m) (reverse events) in
    h.sent ∙ ap (λ (y : Course). y.sent) (gram_step (core_setup m) from bytes x (none_some m.report x.report none s.stands.parts.report_is))

one_more : (n t : ℕ) → n ≡ min t (2 ^ 64 - 1) → min (n + 1) (2 ^ 64 - 1) ≡ min (t + 1) (2 ^ 64 - 1)
one_more n t e = omega (arith, e)

turn_counted : (setup : Setup) (events : List Event) → is_some (course setup events).report ≡ false → master_turns setup events + 1 ≡ master_turns setup (Tick ∷ events)
turn_counted setup events n = sym (ap (λ (b : Bool). if b then master_turns setup events else master_turns setup events + 1) n)

turn_over : (setup : Setup) (events : List Event) (e : Event) → is_some (course setup events).report ≡ true → master_turns setup events ≡ master_turns setup (e ∷ events)
turn_over setup events (Gram from bytes) n = refl
turn_over setup events Tick n = sym (ap (λ (b : Bool). if b then master_turns setup events else master_turns setup events + 1) n)

-- a turn before the report
pub turn_stands : (m new : MasterCore) (events : List Event) → StandsAfter m events → is_some m.report ≡ false → core_setup new ≡ core_setup m
    → Meets new (course_after_turn (core_setup m) (course (core_setup m) (reverse events))) → new.turns ≡ min (m.turns + 1) (2 ^ 64 - 1) → StandsAfter new (events ++ Tick ∷ [])
turn_stands m new events s none same h n =
    let x = course (core_setup m) (reverse events) in
    let none_yet = none_some m.report x.report none s.stands.parts.report_is in
    happened m new events Tick (course_after_turn (core_setup m) x) same (tick_step (core_setup m) x none_yet) h.stands
    (n ∙ one_more m.turns (master_turns (core_setup m) (reverse events)) s.turns_are ∙ ap (λ (t : ℕ). min t (2 ^ 64 - 1)) (turn_counted (core_setup m) (reverse events) none_yet))

pub turn_sends : (m new : MasterCore) (events : List Event) → StandsAfter m events → is_some m.report ≡ false
    → Meets new (course_after_turn (core_setup m) (course (core_setup m) (reverse events))) → new.out ≡ (step (core_setup m) Tick (course (core_setup m) (reverse events))).sent
turn_sends m new events s none h =
    let x = course (core_setup m) (reverse events) in
    h.sent ∙ ap (λ (y : Course). y.sent) (tick_step (core_setup m) x (none_some m.report x.report none s.stands.parts.report_is))

-- after the report nothing happens
pub over_stands : (m : MasterCore) (events : List Event) (e : Event) → StandsAfter m events → is_some m.report ≡ true → StandsAfter m (events ++ e ∷ [])
over_stands m events e s some =
    let x = course (core_setup m) (reverse events) in
    let over = some_some m.report x.report some s.stands.parts.report_is in
    happened m m events e (still x) refl (over_step (core_setup m) e x over) (still_stands m.limits m.phase m.talks.items m.schedule m.rows m.report x s.stands)
    (s.turns_are ∙ ap (λ (t : ℕ). min t (2 ^ 64 - 1)) (turn_over (core_setup m) (reverse events) e over))

pub over_sends : (m : MasterCore) (events : List Event) (e : Event) → StandsAfter m events → is_some m.report ≡ true → m.out ≡ [] → m.out ≡ (step (core_setup m) e (course (core_setup m) (reverse events))).sent
over_sends m events e s some none =
    let x = course (core_setup m) (reverse events) in
    none ∙ ap (λ (y : Course). y.sent) (over_step (core_setup m) e x (some_some m.report x.report some s.stands.parts.report_is))
