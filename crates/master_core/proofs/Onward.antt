-- The master's calls take the course on.
use Rattle.std.proofs.Common.{◌≡◌, ℕ, zero, suc, ◌+◌, ◌-◌, ◌*◌, ◌<◌, ◌≤◌, min, Bool, true, false, ◌==◌, Option, Some, None, List, [], ◌∷◌, ◌++◌, map, drop, length, refl, sym, ap, subst, ◌∙◌, arith, add-one}
use Rattle.std.specs.Prelude.{ℤ, slice_get, if◌then◌else◌}
use Rattle.std.specs.List.{flat_map}
use Rattle.std.proofs.lemmas.List.{drop-drop, length-drop, length-map}
use Rattle.std.proofs.lemmas.Bool.{ne_eqb, eq-eqb}
use Rattle.std.proofs.Math.Nat.{mul-le-mul_left}
use Rattle.dcp_types.specs.declared.addresses.Address.{Address}
use Rattle.dcp_types.specs.declared.limits.Limits.{Limits}
use Rattle.dcp_ends.specs.Events.{Send}
use Rattle.master_spec.specs.declared.reports.Report.{Report}
use Rattle.master_spec.specs.declared.reports.Report.TheVariants as reports
use Rattle.master_spec.specs.declared.setups.Script.{Script}
use Rattle.master_spec.specs.declared.setups.Setup.{Setup}
use Rattle.master_spec.specs.declared.setups.Slave.{Slave}
use Rattle.master_spec.specs.Jobs.{jobs}
use Rattle.master_spec.specs.Marks.{Mark, Begun}
use Rattle.master_spec.proofs.Phases.{phases_counted}
use Rattle.master_spec.specs.Course.{CourseTalk as Said, Course, marked, sends_after, task_begun, begun_with, with_next, with_report, decided, phases, counted_rows, still}
use Rattle.master_core.specs.declared.records.MasterCore.{MasterCore}
use Rattle.master_core.specs.declared.records.Talk.{Talk}
use Rattle.master_core.specs.declared.rows.Rows.{Rows}
use Rattle.master_core.specs.declared.stages.Schedule.{Schedule}
use Rattle.master_core.specs.declared.stages.Stage.{Stage}
use Rattle.master_core.specs.Stages.{job_at, next_in}
use Rattle.master_core.specs.Rest.{rest, rest_of}
use Rattle.master_core.specs.Each.{Each}
use Rattle.master_core.specs.Scheduled.{IsAfter}
use Rattle.master_core.specs.Talking.{TalkStandsAt, Now, IsNow, now_in, at_stage, slave_talked_to, outputs_width}
use Rattle.master_core.specs.Standing.{Stand, StandsWith, HasRows, IsBehind, Meets, lines_of}
use Rattle.master_core.proofs.Phases.{next_rest}

-- ---- slaves that stay

total : List Slave → ℕ
total [] = 0
total (slave ∷ slaves) = length slave.types + total slaves

width_total : (ts : List Talk) → outputs_width ts ≡ total (map slave_talked_to ts)
unfolding total
width_total [] = refl
width_total (t ∷ ts) = ap (λ n. length t.slave.types + n) (width_total ts)

pub same_width : (xs ys : List Talk) → map slave_talked_to xs ≡ map slave_talked_to ys → outputs_width xs ≡ outputs_width ys
same_width xs ys e = width_total xs ∙ ap total e ∙ sym (width_total ys)

pub same_count : (xs ys : List Talk) → map slave_talked_to xs ≡ map slave_talked_to ys → length xs ≡ length ys
same_count xs ys e = sym (length-map xs slave_talked_to) ∙ ap (λ (l : List Slave). length l) e ∙ length-map ys slave_talked_to

pub rows_stay : (lines : ℕ) (xs ys : List Talk) (r : Rows) (rows : List (List ℤ)) → map slave_talked_to xs ≡ map slave_talked_to ys → HasRows (outputs_width ys) lines r rows → HasRows (outputs_width xs) lines r rows
rows_stay lines xs ys r rows e h = subst (λ (n : ℕ). HasRows n lines r rows) (sym (same_width xs ys e)) h

-- ---- the jobs that are left

head_at : {A : Type 0} (n : ℕ) (xs : List A) (y : A) (ys : List A) → drop n xs ≡ y ∷ ys → slice_get xs n ≡ Some y
head_at zero [] y ys e = absurd (cc)
head_at zero (x ∷ xs) y ys e = ap (λ l. slice_get l 0) e
head_at (suc n) [] y ys e = absurd (cc)
head_at (suc n) (x ∷ xs) y ys e = head_at n xs y ys e

tail_at : {A : Type 0} (n : ℕ) (xs : List A) (y : A) (ys : List A) → drop n xs ≡ y ∷ ys → drop (n + 1) xs ≡ ys
tail_at n xs y ys e = sym (drop-drop 1 n xs) ∙ ap (λ l. drop 1 l) e

some_left : {A : Type 0} (n : ℕ) (xs : List A) (y : A) (ys : List A) → drop n xs ≡ y ∷ ys → n < length xs
some_left n xs y ys e = let l : length (drop n xs) ≡ length ys + 1 = ap (λ l. length l) e ∙ omega arith in omega (arith, l, length-drop n xs)

none_left : {A : Type 0} (n : ℕ) (xs : List A) → drop n xs ≡ [] → length xs ≤ n
none_left n xs e = let l : length (drop n xs) ≡ 0 = ap (λ l. length l) e in omega (arith, l, length-drop n xs)

-- the job of the present phase, and those behind it
job_now : (done : ℕ) (s : Schedule) (script : Script) → IsBehind done s
    → drop done (jobs s.steps s.runs script) ≡ job_at s.steps s.stage script ∷ rest_of s.steps s.runs script (next_in s.steps s.runs s.stage.run s.stage.part)
job_now done s script b = sym (b script) ∙ next_rest s.steps s.runs script s.stage.run s.stage.part

-- fewer phases are done than there are
pub done_few : (done : ℕ) (s : Schedule) → IsBehind done s → done < 1 + s.runs * (8 + 2 * s.steps)
done_few done s b =
    let script : Script = record { uuid = 0; setup = []; adjusts = [] } in
    let h = some_left done (jobs s.steps s.runs script) _ _ (job_now done s script b) in
    let runs : 1 ≤ s.runs = omega (arith, s.first, s.last) in
    omega (arith, h, phases_counted s.steps s.runs script runs)

phases_few : (s : Schedule) → 1 + s.runs * (8 + 2 * s.steps) ≤ 20000801
phases_few s =
    let a : s.runs * (8 + 2 * s.steps) ≤ s.runs * 200008 = mul-le-mul_left s.runs (omega (arith, s.few_steps)) in
    omega (arith, a, s.few_runs)

pub next_phase : (done : ℕ) (s : Schedule) → IsBehind done s → min (done + 1) 4294967295 ≡ done + 1
next_phase done s b = omega (arith, done_few done s b, phases_few s)

-- ---- the next phase begins

begun_is : (setup : Setup) (p : ℕ) (s : Schedule) (talk : Said) → setup.steps ≡ s.steps → setup.runs ≡ s.runs → IsBehind p s → task_begun setup (p + 1) talk ≡ Some (Begun (job_at s.steps s.stage talk.slave.script))
begun_is setup p s talk steps runs b =
    ap (λ (n : ℕ). begun_with (slice_get (jobs n setup.runs talk.slave.script) (p + 1 - 1))) steps
    ∙ ap (λ (n : ℕ). begun_with (slice_get (jobs s.steps n talk.slave.script) (p + 1 - 1))) runs
    ∙ ap (λ (n : ℕ). begun_with (slice_get (jobs s.steps s.runs talk.slave.script) n)) (omega arith)
    ∙ ap begun_with (head_at p (jobs s.steps s.runs talk.slave.script) _ _ (job_now p s talk.slave.script b))

map_same : {A B : Type 0} (f g : A → B) (xs : List A) → ((x : A) → f x ≡ g x) → map f xs ≡ map g xs
map_same f g [] h = refl
map_same {B = B} f g (x ∷ xs) h = ap (λ (y : B). y ∷ map f xs) (h x) ∙ ap (λ (l : List B). g x ∷ l) (map_same f g xs h)

flat_same : {A B : Type 0} (f g : A → List B) (xs : List A) → ((x : A) → f x ≡ g x) → flat_map f xs ≡ flat_map g xs
flat_same f g [] h = refl
flat_same {B = B} f g (x ∷ xs) h = ap (λ (y : List B). y ++ flat_map f xs) (h x) ∙ ap (λ (l : List B). g x ++ l) (flat_same f g xs h)

-- the parts after the begin
pub begun_stands : (now : Now) (limits : Limits) (phase : ℕ) (ts new : List Talk) (s : Schedule) (rows : Rows) (report : Option Report) (setup : Setup) (c : Course) → Stand now limits phase ts s rows report c → IsBehind c.phase s
    → setup.steps ≡ s.steps → setup.runs ≡ s.runs → map slave_talked_to new ≡ map slave_talked_to ts
    → Each (TalkStandsAt limits (at_stage s.steps s.stage)) new (map (λ talk. marked limits talk (Some (Begun (job_at s.steps s.stage talk.slave.script)))) c.talks) → setup.limits ≡ limits
    → StandsWith limits (min (phase + 1) 4294967295) new s rows report (with_next setup c)
begun_stands now limits phase ts new s rows report setup c h b steps runs slaves each same = record {
  parts = record {
    phase_is = ap (λ n. min (n + 1) 4294967295) h.phase_is ∙ next_phase c.phase s b;
    some = omega (arith, h.some, same_count new ts slaves);
    talks_stand =
        let f : Said → Said = λ talk. marked limits talk (Some (Begun (job_at s.steps s.stage talk.slave.script))) in
        let g : Said → Said = λ talk. marked setup.limits talk (task_begun setup (c.phase + 1) talk) in
        let e : map f c.talks ≡ map g c.talks = map_same f g c.talks (λ talk. ap (λ (m : Option Mark). marked limits talk m) (sym (begun_is setup c.phase s talk steps runs b)) ∙ ap (λ (l : Limits). marked l talk (task_begun setup (c.phase + 1) talk)) (sym same)) in
        subst (λ (n : ℕ). Each (TalkStandsAt limits (now_in n s)) new (map g c.talks)) (sym (add-one c.phase)) (subst (λ (l : List Said). Each (TalkStandsAt limits (at_stage s.steps s.stage)) new l) e each);
    rows_are = rows_stay (lines_of s) new ts rows c.rows slaves h.rows_are;
    report_is = h.report_is;
  };
  first = λ z. absurd (omega (arith, z));
  stage = subst (λ (n : ℕ). IsBehind n s) (omega arith) b;
}

pub begun_sent : (limits : Limits) (s : Schedule) (setup : Setup) (c : Course) (out new : List Send) → IsBehind c.phase s → setup.steps ≡ s.steps → setup.runs ≡ s.runs → setup.limits ≡ limits → out ≡ c.sent
    → new ≡ out ++ flat_map (λ talk. sends_after limits talk (Some (Begun (job_at s.steps s.stage talk.slave.script)))) c.talks → new ≡ (with_next setup c).sent
begun_sent limits s setup c out new b steps runs same before sends =
    let f : Said → List Send = λ talk. sends_after limits talk (Some (Begun (job_at s.steps s.stage talk.slave.script))) in
    let g : Said → List Send = λ talk. sends_after setup.limits talk (task_begun setup (c.phase + 1) talk) in
    let e : flat_map f c.talks ≡ flat_map g c.talks = flat_same f g c.talks (λ talk. ap (λ (m : Option Mark). sends_after limits talk m) (sym (begun_is setup c.phase s talk steps runs b)) ∙ ap (λ (l : Limits). sends_after l talk (task_begun setup (c.phase + 1) talk)) (sym same)) in
    sends ∙ ap (λ (l : List Send). l ++ flat_map f c.talks) before ∙ ap (λ (l : List Send). c.sent ++ l) e

-- ---- the report, or the next phase

pub after_is_behind : (done : ℕ) (s next : Schedule) → IsBehind done s → IsAfter s next → IsBehind (done + 1) next
after_is_behind done s next b a = λ script.
    let e : drop (done + 1) (jobs s.steps s.runs script) ≡ rest_of s.steps s.runs script (next_in s.steps s.runs s.stage.run s.stage.part) = tail_at done (jobs s.steps s.runs script) _ _ (job_now done s script b) in
    let f : rest s.steps s.runs script next.stage.run next.stage.part ≡ drop (done + 1) (jobs s.steps s.runs script) = sym (e ∙ ap (λ (o : Option Stage). rest_of s.steps s.runs script o) a.stage_is) in
    subst (λ (n : ℕ). rest n next.runs script next.stage.run next.stage.part ≡ drop (done + 1) (jobs n next.runs script)) (sym a.steps_are)
    (subst (λ (n : ℕ). rest s.steps n script next.stage.run next.stage.part ≡ drop (done + 1) (jobs s.steps n script)) (sym a.runs_are) f)

one_less : (p : ℕ) → 1 ≤ p → p - 1 + 1 ≡ p
one_less p h = omega (arith, h)

pub behind_next : (p : ℕ) (s next : Schedule) → 1 ≤ p → IsBehind (p - 1) s → IsAfter s next → IsBehind p next
behind_next p s next h b a = subst (λ (n : ℕ). IsBehind n next) (one_less p h) (after_is_behind (p - 1) s next b a)

-- it was the last phase
pub last_phase : (p : ℕ) (s : Schedule) → 1 ≤ p → IsBehind (p - 1) s → next_in s.steps s.runs s.stage.run s.stage.part ≡ None → p ≡ 1 + s.runs * (8 + 2 * s.steps)
last_phase p s h b none =
    let script : Script = record { uuid = 0; setup = []; adjusts = [] } in
    let e = tail_at (p - 1) (jobs s.steps s.runs script) _ _ (job_now (p - 1) s script b) ∙ ap (λ (o : Option Stage). rest_of s.steps s.runs script o) none in
    let all = none_left (p - 1 + 1) (jobs s.steps s.runs script) e in
    let few = done_few (p - 1) s b in
    let runs : 1 ≤ s.runs = omega (arith, s.first, s.last) in
    omega (arith, all, few, h, phases_counted s.steps s.runs script runs)

-- it was not
not_last : (p : ℕ) (s : Schedule) → IsBehind p s → (p == (1 + s.runs * (8 + 2 * s.steps))) ≡ false
not_last p s b = ne_eqb p (1 + s.runs * (8 + 2 * s.steps)) (λ e. absurd (omega (arith, e, done_few p s b)))

pub goes_on : (setup : Setup) (c : Course) (s : Schedule) → setup.steps ≡ s.steps → setup.runs ≡ s.runs → IsBehind c.phase s → with_next setup c ≡ decided setup c None
goes_on setup c s steps runs b =
    let p : phases setup ≡ 1 + s.runs * (8 + 2 * s.steps) = ap (λ (n : ℕ). 1 + n * (8 + 2 * setup.steps)) runs ∙ ap (λ (n : ℕ). 1 + s.runs * (8 + 2 * n)) steps in
    let t : (c.phase == phases setup) ≡ false = ap (λ (n : ℕ). c.phase == n) p ∙ not_last c.phase s b in
    sym (ap (λ (b : Bool). if b then with_report c (reports.Finished setup.steps) else with_next setup c) t)

pub finishes : (setup : Setup) (c : Course) (s : Schedule) → setup.steps ≡ s.steps → setup.runs ≡ s.runs → 1 ≤ c.phase → IsBehind (c.phase - 1) s → next_in s.steps s.runs s.stage.run s.stage.part ≡ None
    → with_report c (reports.Finished setup.steps) ≡ decided setup c None
finishes setup c s steps runs h b none =
    let p : phases setup ≡ 1 + s.runs * (8 + 2 * s.steps) = ap (λ (n : ℕ). 1 + n * (8 + 2 * setup.steps)) runs ∙ ap (λ (n : ℕ). 1 + s.runs * (8 + 2 * n)) steps in
    let t : (c.phase == phases setup) ≡ true = eq-eqb c.phase (phases setup) (last_phase c.phase s h b none ∙ sym p) in
    sym (ap (λ (b : Bool). if b then with_report c (reports.Finished setup.steps) else with_next setup c) t)

-- the report is set
pub reported : (limits : Limits) (phase : ℕ) (ts : List Talk) (s : Schedule) (rows : Rows) (old : Option Report) (report : Report) (c : Course) → StandsWith limits phase ts s rows old c → StandsWith limits phase ts s rows (Some report) (with_report c report)
reported limits phase ts s rows old report c h = record {
  parts = record { phase_is = h.parts.phase_is; some = h.parts.some; talks_stand = h.parts.talks_stand; rows_are = h.parts.rows_are; report_is = refl };
  first = h.first;
  stage = h.stage;
}

-- ---- the schedule moves on

lines_same : (s next : Schedule) → IsAfter s next → lines_of s ≡ lines_of next
lines_same s next a = ap (λ (n : ℕ). n * (s.steps + 1)) (sym a.runs_are) ∙ ap (λ (n : ℕ). next.runs * (n + 1)) (sym a.steps_are)

pub stand_after : (now : Now) (limits : Limits) (phase : ℕ) (ts : List Talk) (s next : Schedule) (rows : Rows) (report : Option Report) (c : Course) → Stand now limits phase ts s rows report c → IsAfter s next → Stand now limits phase ts next rows report c
stand_after now limits phase ts s next rows report c h a = record {
  phase_is = h.phase_is;
  some = h.some;
  talks_stand = h.talks_stand;
  rows_are = subst (λ (n : ℕ). HasRows (outputs_width ts) n rows c.rows) (lines_same s next a) h.rows_are;
  report_is = h.report_is;
}

abbrev setup_with : (address : Address) (limits : Limits) (steps runs : ℕ) (slaves : List Slave) → Setup
setup_with address limits steps runs slaves = record { address = address; limits = limits; steps = steps; runs = runs; slaves = slaves }

pub same_setup : (address : Address) (limits : Limits) (s next : Schedule) (slaves : List Slave) → IsAfter s next → setup_with address limits next.steps next.runs slaves ≡ setup_with address limits s.steps s.runs slaves
same_setup address limits s next slaves a =
    ap (λ (n : ℕ). setup_with address limits n next.runs slaves) a.steps_are ∙ ap (λ (n : ℕ). setup_with address limits s.steps n slaves) a.runs_are

pub meets_as : (m : MasterCore) (x y : Course) → x ≡ y → Meets m x → Meets m y
meets_as m x y e h = subst (λ (z : Course). Meets m z) e h

-- ---- all conversations get a mark that begins no phase

pub marked_stands : (limits : Limits) (phase : ℕ) (ts new : List Talk) (s : Schedule) (rows : Rows) (report : Option Report) (c : Course) (said : List Said) (sent : List Send) → StandsWith limits phase ts s rows report c → map slave_talked_to new ≡ map slave_talked_to ts
    → Each (TalkStandsAt limits (now_in c.phase s)) new said → StandsWith limits phase new s rows report (record { phase = c.phase; talks = said; rows = c.rows; report = c.report; sent = sent })
marked_stands limits phase ts new s rows report c said sent h slaves each = record {
  parts = record {
    phase_is = h.parts.phase_is;
    some = omega (arith, h.parts.some, same_count new ts slaves);
    talks_stand = each;
    rows_are = rows_stay (lines_of s) new ts rows c.rows slaves h.parts.rows_are;
    report_is = h.parts.report_is;
  };
  first = h.first;
  stage = h.stage;
}

-- ---- the rows are counted

pub counted_stands : (limits : Limits) (phase : ℕ) (ts : List Talk) (s : Schedule) (rows new : Rows) (report : Option Report) (c : Course) → StandsWith limits phase ts s rows report c
    → HasRows (outputs_width ts) (lines_of s) new (counted_rows c.talks c.rows) → StandsWith limits phase ts s new report (record { phase = c.phase; talks = c.talks; rows = counted_rows c.talks c.rows; report = c.report; sent = c.sent })
counted_stands limits phase ts s rows new report c h r = record {
  parts = record { phase_is = h.parts.phase_is; some = h.parts.some; talks_stand = h.parts.talks_stand; rows_are = r; report_is = h.parts.report_is };
  first = h.first;
  stage = h.stage;
}

-- nothing is sent
pub still_stands : (limits : Limits) (phase : ℕ) (ts : List Talk) (s : Schedule) (rows : Rows) (report : Option Report) (c : Course) → StandsWith limits phase ts s rows report c → StandsWith limits phase ts s rows report (still c)
still_stands limits phase ts s rows report c h = record {
  parts = record { phase_is = h.parts.phase_is; some = h.parts.some; talks_stand = h.parts.talks_stand; rows_are = h.parts.rows_are; report_is = h.parts.report_is };
  first = h.first;
  stage = h.stage;
}

-- the lists that the slaves have are those of the stage
pub is_now : (p : ℕ) (s : Schedule) → IsNow s (now_in p s)
is_now zero s = λ slave. tt
is_now (suc p) s = λ slave. refl
