-- A row is whole: it has the outputs that all slaves brought.
use Rattle.std.proofs.Common.{◌≡◌, ℕ, zero, suc, ◌+◌, ◌*◌, ◌<◌, ◌≤◌, min, Bool, true, false, ◌&&◌, ◌==◌, Option, Some, None, List, [], ◌∷◌, ◌++◌, take, drop, length, refl, sym, ap, subst, ◌∙◌, arith, append-nil, length-append}
use Rattle.std.specs.Prelude.{ℤ, is_some, unwrap_or, if◌then◌else◌, All, vec_capacity}
use Rattle.std.specs.List.{flat_map, list_all, AllByRecursion}
use Rattle.std.proofs.lemmas.Bool.{and_parts, eqb-true}
use Rattle.std.proofs.lemmas.List.{take-take, drop-take}
use Rattle.std.proofs.lemmas.List.Elements.{All-push, recursion_from_All}
use Rattle.std.proofs.lemmas.Grind.{flat_map-append}
use Rattle.std.proofs.Math.Nat.{mul-le-mul_left}
use Rattle.dcp_types.specs.declared.data_types.DataType.{DataType}
use Rattle.dcp_types.specs.declared.limits.Limits.{Limits}
use Rattle.dcp_types.specs.Values.{width}
use Rattle.pdu_layout.specs.Reading.{value_in}
use Rattle.pdu_layout.specs.declared.messages.Cfg.{Cfg}
use Rattle.conversation.specs.Standing.{job_row}
use Rattle.master_spec.specs.declared.causes.Cause.{Cause}
use Rattle.master_spec.specs.declared.causes.Verdict.TheVariants as verdicts
use Rattle.master_spec.specs.declared.setups.Slave.{Slave}
use Rattle.master_spec.specs.declared.tasks.Task.{Task}
use Rattle.master_spec.specs.declared.tasks.Task.TheVariants as tasks
use Rattle.master_spec.specs.Tasks.{task_row}
use Rattle.master_spec.specs.Jobs.{Job}
use Rattle.master_spec.specs.Marks.{Mark, job_of, cause_of, kept, is_passed, verdict_by, is_reached}
use Rattle.master_spec.specs.Course.{CourseTalk as Said, values_in, payload_size, talk_outputs, has_passed, is_passed_as, row_in_job, row_now, counted_rows, counted_at}
use Rattle.master_core.specs.declared.records.Talk.{Talk}
use Rattle.master_core.specs.declared.rows.Rows.{Rows}
use Rattle.master_core.specs.declared.stages.Schedule.{Schedule}
use Rattle.master_core.specs.Stages as stages
use Rattle.master_core.specs.Stages.{first_stage}
use Rattle.master_core.specs.Each.{Each}
use Rattle.master_core.specs.Talking.{TalkStandsAt, Now, now_in, values_kept, outputs_width}
use Rattle.master_core.specs.Standing.{HasRows, is_due_at, lines_of}
use Rattle.master_core.proofs.Putting.{length_kept}
use Rattle.master_core.proofs.Within.{row_task, row_below}

-- ---- the values of one slave

-- what follows the values of a payload does not count
values_front : (kinds : List DataType) (room : List ℕ) → values_in kinds room ≡ values_in kinds (take (payload_size kinds) room)
values_front [] room = refl
values_front (kind ∷ kinds) room =
    let w = width kind in
    let n = payload_size kinds in
    let head : take w room ≡ take w (take (w + n) room) = sym (take-take w (w + n) room (omega arith)) in
    ap (λ (l : List ℕ). value_in kind l ∷ values_in kinds (drop w room)) head
    ∙ ap (λ (l : List ℤ). value_in kind (take w (take (w + n) room)) ∷ l) (values_front kinds (drop w room) ∙ ap (λ (l : List ℕ). values_in kinds l) (sym (drop-take w n room)))

-- ---- one that has passed has brought its outputs

some_same : (a b : ℕ) → Some a ≡ Some b → a ≡ b
some_same a b e = cc

kept_as : (r row : ℕ) (b : Bool) (marks : List Mark) → Some r ≡ Some row → (b && is_some (kept r marks)) ≡ true → is_some (kept row marks) ≡ true
kept_as r row b marks e h = ap (λ n. is_some (kept n marks)) (sym (some_same r row e)) ∙ (and_parts b (is_some (kept r marks)) h).1

passed_kept : (task : Task) (list : List Cfg) (marks : List Mark) (row : ℕ) → task_row task ≡ Some row → is_passed (record { task = task; list = list }) marks ≡ true → is_some (kept row marks) ≡ true
passed_kept (tasks.FirstOutputs r) list marks row e h = kept_as r row (is_reached (tasks.FirstOutputs r) marks) marks e h
passed_kept (tasks.Outputs k r) list marks row e h = kept_as r row (is_reached (tasks.Outputs k r) marks) marks e h
passed_kept (tasks.Register uuid) list marks row e h = absurd (cc)
passed_kept tasks.Setup list marks row e h = absurd (cc)
passed_kept tasks.Prepare list marks row e h = absurd (cc)
passed_kept tasks.Configure list marks row e h = absurd (cc)
passed_kept tasks.Initialize list marks row e h = absurd (cc)
passed_kept tasks.Run list marks row e h = absurd (cc)
passed_kept (tasks.Step k) list marks row e h = absurd (cc)
passed_kept tasks.Stop list marks row e h = absurd (cc)
passed_kept tasks.Reset list marks row e h = absurd (cc)
passed_kept tasks.Adjust list marks row e h = absurd (cc)
passed_kept tasks.Deregister list marks row e h = absurd (cc)

going : (b : Bool) → is_passed_as (if b then verdicts.Passed else verdicts.Going) ≡ true → b ≡ true
going true h = refl
going false h = h

verdict_kept : (o : Option Cause) (j : Option Job) (marks : List Mark) (row : ℕ) → job_row j ≡ Some row → is_passed_as (verdict_by o j marks) ≡ true → is_some (kept row marks) ≡ true
verdict_kept (Some cause) j marks row e h = absurd (cc)
verdict_kept None None marks row e h = absurd (cc)
verdict_kept None (Some job) marks row e h = passed_kept job.task job.list marks row e (going (is_passed job marks) h)

kept_values : (types : List DataType) (room : List ℕ) (o : Option (List ℕ)) → is_some o ≡ true → ((payload : List ℕ) → o ≡ Some payload → take (payload_size types) room ≡ payload) → values_in types room ≡ values_in types (unwrap_or o [])
kept_values types room None e f = absurd (cc)
kept_values types room (Some payload) e f = values_front types room ∙ ap (λ (l : List ℕ). values_in types l) (f payload refl)

same_outputs : (limits : Limits) (now : Now) (t : Talk) (talk : Said) (row : ℕ) → TalkStandsAt limits now t talk → job_row (job_of talk.marks) ≡ Some row → has_passed talk ≡ true → values_kept t ≡ talk_outputs row talk
same_outputs limits now t talk row s at passed =
    kept_values t.slave.types t.outputs (kept row talk.marks) (verdict_kept (cause_of talk.marks) (job_of talk.marks) talk.marks row at passed) (λ payload is. s.outputs row payload at is)
    ∙ ap (λ (x : Slave). values_in x.types (unwrap_or (kept row talk.marks) [])) s.slave

all_outputs : (limits : Limits) (now : Now) (ts : List Talk) (said : List Said) (row : ℕ) → Each (TalkStandsAt limits now) ts said → ((slave : Slave) → job_row (now slave) ≡ Some row) → list_all has_passed said ≡ true
    → flat_map values_kept ts ≡ flat_map (talk_outputs row) said
all_outputs limits now [] [] row e at passed = refl
all_outputs limits now [] (talk ∷ said) row e at passed = absurd e
all_outputs limits now (t ∷ ts) [] row e at passed = absurd e
all_outputs limits now (t ∷ ts) (talk ∷ said) row e at passed =
    let p = and_parts (has_passed talk) (list_all has_passed said) passed in
    ap (λ (l : List ℤ). l ++ flat_map values_kept ts) (same_outputs limits now t talk row e.0 (ap job_row e.0.job ∙ at t.slave) p.0)
    ∙ ap (λ (l : List ℤ). talk_outputs row talk ++ l) (all_outputs limits now ts said row e.1 at p.1)

-- ---- the row of the present phase

row_by : (o : Option Job) → row_in_job o ≡ job_row o
row_by None = refl
row_by (Some job) = refl

now_row : (p : ℕ) (s : Schedule) (slave : Slave) → (p ≡ 0 → s.stage ≡ first_stage) → job_row (now_in p s slave) ≡ stages.part_row s.steps s.stage.run s.stage.part
now_row zero s slave first = ap (λ x. stages.part_row s.steps x.run x.part) (sym (first refl))
now_row (suc p) s slave first = row_task s.steps slave.script.uuid s.stage.run s.stage.part

pub row_known : (limits : Limits) (p : ℕ) (s : Schedule) (ts : List Talk) (said : List Said) → Each (TalkStandsAt limits (now_in p s)) ts said → 1 ≤ length ts → (p ≡ 0 → s.stage ≡ first_stage)
    → row_now said ≡ stages.part_row s.steps s.stage.run s.stage.part
row_known limits p s [] said e some first = absurd (omega (arith, some))
row_known limits p s (t ∷ ts) [] e some first = absurd e
row_known limits p s (t ∷ ts) (talk ∷ said) e some first = row_by (job_of talk.marks) ∙ ap job_row e.0.job ∙ now_row p s t.slave first

-- ---- one more row

length_rows : (width : ℕ) (rows : List (List ℤ)) → All (λ row. length row ≡ width) rows → length (flat_map (λ row. row) rows) ≡ width * length rows
length_rows width rows all = by_recursion rows (recursion_from_All (λ (row : List ℤ). length row ≡ width) rows all)
  where
    by_recursion : (rows : List (List ℤ)) → AllByRecursion (λ (row : List ℤ). length row ≡ width) rows → length (flat_map (λ (row : List ℤ). row) rows) ≡ width * length rows
    by_recursion [] a = omega arith
    by_recursion (row ∷ rows) a = omega (arith, length-append row (flat_map (λ (row : List ℤ). row) rows), a.0, by_recursion rows a.1)

due_row : (row : ℕ) (said : List Said) (rows : List (List ℤ)) → is_due_at (Some row) said rows ≡ true → (length rows ≡ row) × (list_all has_passed said ≡ true)
due_row row said rows e = let p = and_parts (length rows == row) (list_all has_passed said) e in (eqb-true (length rows) row p.0, p.1)

counted_due : (row : ℕ) (said : List Said) (rows : List (List ℤ)) → is_due_at (Some row) said rows ≡ true → counted_at (Some row) said rows ≡ rows ++ flat_map (talk_outputs row) said ∷ []
counted_due row said rows e = ap (λ (b : Bool). if b then rows ++ flat_map (talk_outputs row) said ∷ [] else rows) e

pub not_due : (o : Option ℕ) (said : List Said) (rows : List (List ℤ)) → is_due_at o said rows ≡ false → counted_at o said rows ≡ rows
not_due None said rows e = refl
not_due (Some row) said rows e = ap (λ (b : Bool). if b then rows ++ flat_map (talk_outputs row) said ∷ [] else rows) e

more_room : (w n lines cap : ℕ) → n < lines → w * lines ≤ cap → w * n + w ≤ cap
more_room w n lines cap h room =
    let a : w * (n + 1) ≤ w * lines = mul-le-mul_left w (omega (arith, h)) in
    let b : w * (n + 1) ≡ w * n + w = omega arith in
    omega (arith, a, b, room)

row_more : (width lines row : ℕ) (r new : Rows) (rows : List (List ℤ)) (values more : List ℤ) → HasRows width lines r rows → length values ≡ width → row < lines → length rows ≡ row → lines ≤ 100000000 → values ≡ more
    → (length r.values.items + width ≤ vec_capacity r.values → new.values.items ≡ r.values.items ++ values) → vec_capacity new.values ≡ vec_capacity r.values → new.width ≡ r.width → new.counted ≡ min (r.counted + 1) 4294967295
    → HasRows width lines new (rows ++ more ∷ [])
row_more width lines row r new rows values more h long below at small same put room w counted_rows =
    let n = length_rows width rows h.each in
    let l : length r.values.items ≡ width * length rows = ap (λ (x : List ℤ). length x) h.values ∙ n in
    let space : width * length rows + width ≤ vec_capacity r.values = more_room width (length rows) lines (vec_capacity r.values) (omega (arith, below, at)) h.room in
    let p = put (omega (arith, l, space)) in
    record {
      counted_are = omega (arith, counted_rows, h.counted_are, below, at, small, length-append rows (more ∷ []));
      values = p ∙ ap (λ (x : List ℤ). x ++ values) h.values ∙ ap (λ (x : List ℤ). flat_map (λ (row : List ℤ). row) rows ++ x) (same ∙ sym (append-nil more)) ∙ sym (flat_map-append (λ (row : List ℤ). row) rows (more ∷ []));
      width_is = w ∙ h.width_is;
      each = All-push (λ (row : List ℤ). length row ≡ width) rows more h.each (ap (λ (x : List ℤ). length x) (sym same) ∙ long);
      room = subst (λ (n : ℕ). width * lines ≤ n) (sym room) h.room;
    }

lines_few : (s : Schedule) → lines_of s ≤ 100000000
lines_few s =
    let a : s.runs * (s.steps + 1) ≤ s.runs * 100001 = mul-le-mul_left s.runs (omega (arith, s.few_steps)) in
    omega (arith, a, s.few_runs)

-- the rows, where one more is whole
rows_by : (o : Option ℕ) (limits : Limits) (p : ℕ) (s : Schedule) (ts : List Talk) (said : List Said) (r new : Rows) (rows : List (List ℤ)) → stages.part_row s.steps s.stage.run s.stage.part ≡ o → row_now said ≡ o
    → Each (TalkStandsAt limits (now_in p s)) ts said → (p ≡ 0 → s.stage ≡ first_stage) → HasRows (outputs_width ts) (lines_of s) r rows → is_due_at o said rows ≡ true
    → (length r.values.items + outputs_width ts ≤ vec_capacity r.values → new.values.items ≡ r.values.items ++ flat_map values_kept ts) → vec_capacity new.values ≡ vec_capacity r.values → new.width ≡ r.width
    → new.counted ≡ min (r.counted + 1) 4294967295 → HasRows (outputs_width ts) (lines_of s) new (counted_at o said rows)
rows_by None limits p s ts said r new rows stage now e first h due put room w counted_rows = absurd (cc)
rows_by (Some row) limits p s ts said r new rows stage now e first h due put room w counted_rows =
    let d = due_row row said rows due in
    let below = row_below s.steps s.runs s.stage.run s.stage.part row s.first s.last s.within stage in
    let same = all_outputs limits (now_in p s) ts said row e (λ slave. now_row p s slave first ∙ stage) d.1 in
    subst (λ (x : List (List ℤ)). HasRows (outputs_width ts) (lines_of s) new x) (sym (counted_due row said rows due))
    (row_more (outputs_width ts) (lines_of s) row r new rows (flat_map values_kept ts) (flat_map (talk_outputs row) said) h (length_kept ts) below d.0 (lines_few s) same put room w counted_rows)

pub rows_counted : (limits : Limits) (p : ℕ) (s : Schedule) (ts : List Talk) (said : List Said) (r new : Rows) (rows : List (List ℤ)) → Each (TalkStandsAt limits (now_in p s)) ts said → 1 ≤ length ts → (p ≡ 0 → s.stage ≡ first_stage)
    → HasRows (outputs_width ts) (lines_of s) r rows → is_due_at (row_now said) said rows ≡ true
    → (length r.values.items + outputs_width ts ≤ vec_capacity r.values → new.values.items ≡ r.values.items ++ flat_map values_kept ts) → vec_capacity new.values ≡ vec_capacity r.values → new.width ≡ r.width
    → new.counted ≡ min (r.counted + 1) 4294967295 → HasRows (outputs_width ts) (lines_of s) new (counted_rows said rows)
rows_counted limits p s ts said r new rows e some first h due put room w counted_rows =
    rows_by (row_now said) limits p s ts said r new rows (sym (row_known limits p s ts said e some first)) refl e first h due put room w counted_rows
