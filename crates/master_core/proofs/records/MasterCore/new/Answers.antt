use Rattle.std.proofs.Common.{◌≡◌, List, length, refl, sym, ap, subst, ◌∙◌, arith}
use Rattle.std.specs.List.{AllByRecursion}
use Rattle.std.proofs.lemmas.List.Elements.{recursion_from_All}
use Rattle.master_spec.specs.declared.setups.Slave.{Slave}
use Rattle.master_core.specs.declared.records.Talk.{Talk}
use Rattle.master_spec.specs.Askable.{IsScriptAskable}
use Rattle.master_core.specs.Talking.{IsFreshTalk, outputs_width}
use Rattle.master_core.specs.Apart.{AreSlavesApart}
use Rattle.master_core.proofs.Speakers.{apart_from}
use Rattle.master_core.proofs.Fresh.{fresh_stand, slaves_few, first_behind, empty_rows}
use Rattle.master_spec.proofs.Planned.{all_askable}
use Rattle.master_core.proofs.records.MasterCore.new.Goals as goal

pub width_of-requires : goal.width_of-requires
width_of-requires c = let few = slaves_few c.args.scenario.now c.in_ok-talks.talks.items c.in_ok-talks.ensures.slaves in
    let same : length c.deref.result.now ≡ length c.in_ok-talks.talks.items = ap (λ (l : List Talk). length l) c.deref.ensures.value in
    omega (arith, few, same, c.requires.sound.few_slaves.1)

pub invariant_of-result : goal.invariant_of-result
invariant_of-result c = record {
  few = let few = slaves_few c.args.scenario.now c.in_ok-talks.talks.items c.in_ok-talks.ensures.slaves in omega (arith, few, c.requires.sound.few_slaves.1);
  apart = subst (λ (l : List Slave). AreSlavesApart l) (sym c.in_ok-talks.ensures.slaves) (apart_from c.args.scenario.now 1 c.args.scenario.now.slaves c.requires.sound.addresses_apart);
}

pub returns-clause-stands : goal.returns-clause-stands
returns-clause-stands c =
    let sc = c.args.scenario.now in
    let ts = c.in_ok-talks.talks.items in
    let few = slaves_few sc ts c.in_ok-talks.ensures.slaves in
    let asks = subst (λ (l : List Slave). AllByRecursion (λ slave. IsScriptAskable slave) l) (sym c.in_ok-talks.ensures.slaves) (all_askable sc c.requires.sound) in
    let width : outputs_width ts ≡ c.width_of.result = sym (c.width_of.ensures.width ∙ ap outputs_width c.deref.ensures.value) in
    record {
      stands = record {
        parts = record {
          phase_is = refl;
          some = omega (arith, few, c.requires.sound.few_slaves.0);
          talks_stand = fresh_stand sc.limits c.new-3.result ts (recursion_from_All (λ (t : Talk). IsFreshTalk sc.limits t) ts c.in_ok-talks.ensures.fresh) asks;
          rows_are = empty_rows c.new-3.result sc.steps sc.runs (outputs_width ts) c.width_of.result c.in_ok-rows.rows width c.in_ok-rows.ensures.width c.in_ok-rows.ensures.counted c.in_ok-rows.ensures.values c.in_ok-rows.ensures.room c.new-3.ensures.steps c.new-3.ensures.runs;
          report_is = refl;
        };
        first = λ z. c.new-3.ensures.stage;
        stage = first_behind c.new-3.result c.new-3.ensures.stage;
      };
      turns_are = refl;
    }
