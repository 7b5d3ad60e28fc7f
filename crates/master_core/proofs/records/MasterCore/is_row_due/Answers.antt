use Rattle.std.proofs.Common.{◌≡◌, ◌==◌, ◌&&◌, Bool, true, false, Option, Some, None, List, ℕ, sym, ◌∙◌, ap, length, eq-eqb, refl, subst}
use Rattle.std.proofs.lemmas.Bool.{ne_eqb}
use Rattle.master_core.specs.declared.records.Talk.{Talk}
use Rattle.master_core.specs.Each.{Each}
use Rattle.master_core.specs.Talking.{TalkStandsAt, now_in}
use Rattle.std.specs.List.{list_all}
use Rattle.master_spec.specs.Course.{Course, has_passed, row_now}
use Rattle.master_core.specs.Standing.{is_due_at, is_row_due, StandsFor}
use Rattle.master_core.specs.declared.records.MasterCore.{MasterCore}
use Rattle.master_core.specs.Stages.{part_row}
use Rattle.master_core.proofs.Counting.{row_known}
use Rattle.master_core.proofs.records.MasterCore.is_row_due.Goals as goal

due : (m : MasterCore) (x : Course) (o found : Option ℕ) (b : Bool) → StandsFor m x → found ≡ part_row m.schedule.steps m.schedule.stage.run m.schedule.stage.part → found ≡ o → b ≡ is_due_at o x.talks x.rows → b ≡ is_row_due x
due m x o found b s f e is =
    let row : row_now x.talks ≡ o = row_known m.limits x.phase m.schedule m.talks.items x.talks s.parts.talks_stand s.parts.some s.first ∙ sym f ∙ e in
    is ∙ ap (λ (o : Option ℕ). is_due_at o x.talks x.rows) (sym row)

same_test : (a n row : ℕ) → a ≡ n → (a == row) ≡ (n == row)
same_test a n row e = ap (λ (k : ℕ). k == row) e

both : (a b p : Bool) (q : Bool) → a ≡ true → b ≡ q → b ≡ (a && q)
both a b p q t e = rw t e

first_false : (a b q : Bool) → a ≡ b → a ≡ false → a ≡ (b && q)
first_false a b q e f = rw (← e, f) refl

pub returns-then-self-row : goal.returns-then-self-row
returns-then-self-row c = λ x s.
    let counted : c.args.self.now.rows.counted ≡ length x.rows = s.parts.rows_are.counted_are in
    let passed : c.have_passed.result ≡ list_all has_passed x.talks = c.have_passed.ensures c.args.self.now.limits (now_in x.phase c.args.self.now.schedule) x.talks
    (subst (λ (ts : List Talk). Each (TalkStandsAt c.args.self.now.limits (now_in x.phase c.args.self.now.schedule)) ts x.talks) (sym c.deref.ensures.value) s.parts.talks_stand) in
    due c.args.self.now x (Some c.in-Some.row) _ _ s c.row.ensures c.in-Some.is (both (length x.rows == c.in-Some.row) _ true (list_all has_passed x.talks) (eq-eqb _ _ (sym counted ∙ c.if-self-row.true)) passed)

pub returns-else-self-row : goal.returns-else-self-row
returns-else-self-row c = λ x s.
    let counted : c.args.self.now.rows.counted ≡ length x.rows = s.parts.rows_are.counted_are in
    due c.args.self.now x (Some c.in-Some.row) _ _ s c.row.ensures c.in-Some.is (first_false _ (length x.rows == c.in-Some.row) (list_all has_passed x.talks) (same_test _ _ _ counted) (ne_eqb _ _ c.if-self-row.false))

pub returns-in-None : goal.returns-in-None
returns-in-None c = λ x s. due c.args.self.now x None _ false s c.row.ensures c.in-None.is refl
