use Rattle.std.proofs.Common.{◌≡◌, ◌+◌, ◌≤◌, ◌++◌, refl, sym, subst, ◌∙◌, List, length}
use Rattle.std.specs.Prelude.{vec_capacity}
use Rattle.std.specs.List.{flat_map}
use Rattle.master_core.specs.declared.records.Talk.{Talk}
use Rattle.master_core.specs.Talking.{values_kept, outputs_width}
use Rattle.master_core.proofs.Counting.{rows_counted}
use Rattle.master_core.proofs.Onward.{counted_stands}
use Rattle.master_core.proofs.records.MasterCore.count_row.Goals as goal

pub returns-then-is_row_due-clause-meets : goal.returns-then-is_row_due-clause-meets
returns-then-is_row_due-clause-meets c = λ x s.
    let m = c.args.self.now in
    let due = sym (c.is_row_due.ensures x s.stands) ∙ c.if-is_row_due.true in
    let put = subst (λ (ts : List Talk). length m.rows.values.items + outputs_width ts ≤ vec_capacity m.rows.values → c.put_row.new.values.items ≡ m.rows.values.items ++ flat_map values_kept ts) c.deref.ensures.value c.put_row.ensures.items in
    record {
      stands = counted_stands m.limits m.phase m.talks.items m.schedule m.rows _ m.report x s.stands
          (rows_counted m.limits x.phase m.schedule m.talks.items x.talks m.rows _ x.rows s.stands.parts.talks_stand s.stands.parts.some s.stands.first s.stands.parts.rows_are due put c.put_row.ensures.room refl c.saturating_add-self.ensures);
      sent = s.sent;
    }
