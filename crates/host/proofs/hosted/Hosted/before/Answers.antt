use Rattle.std.proofs.Common.{◌≡◌, ◌∙◌, ap, sym, ◌+◌, ◌-◌, ℕ, arith, if◌then◌else◌, inl, inr}
use Rattle.std.proofs.lemmas.Bool.{cases_Bool}
use Rattle.host.specs.Hosting.{count_from}
use Rattle.host.proofs.Places.{count_step, at_most_one}
use Rattle.host.proofs.hosted.Hosted.before.Goals as goal

pub loop-other-preserved : goal.loop-other-preserved
loop-other-preserved c =
    let one : c.from-count.result ≡ (if c.has.result then 1 else 0) = elim (cases_Bool c.has.result) [
      | inl is ↦ rw is (rw is at c.from-count.ensures)
      | inr is ↦ rw is (rw is at c.from-count.ensures)
    ] in
    record {
      counted = ap (λ (k : ℕ). k + c.from-count.result) c.loop-other.invariant.counted ∙ ap (λ (k : ℕ). count_from c.args.self 1 (c.loop-other.other - 1) + k) one
          ∙ sym (count_step c.args.self c.loop-other.other c.has.result c.loop-other.auto.other c.has.ensures);
      few = omega (arith, c.loop-other.invariant.few, one, at_most_one c.has.result);
    }
