use Rattle.std.proofs.Common.{◌+◌, ◌∙◌, ap, sym}
use Rattle.std.proofs.lemmas.Result.{err_from_is_err_and}
use Rattle.scenario.specs.Sound.{IsScenario}
use Rattle.host.specs.declared.hosted.Hosted.{Hosted}
use Rattle.host.proofs.Onward.{cut_after, going_when, rounds_after, smaller_after, whole_after}
use Rattle.host.proofs.runs.run_on.Goals as goal

pub returns-in-Done-clause-ok : goal.returns-in-Done-clause-ok
returns-in-Done-clause-ok g c =
    let old = c.rounds.host in
    let new = c.round.new.self in
    let i = c.rounds.invariant in
    let e = c.round.ensures in
    let sound : IsScenario old.scenario = rw i.scenario c.requires.sound in
    let own = ap (λ (h : Hosted). h.master) i.hosted ∙ c.requires.begun.master in
    let n = i.rounds.0 in
    let part = c.in_ok-round.ensures.ok i.fault in
    whole_after old new sound own e.setup.0 e.setup.1 n i.rounds.1 i.going part.part part.added.log part.form
    (sym c.in_ok-round.ensures.progress ∙ c.in-Done.is) c.in_ok-round.ensures.fault

pub rounds-smaller : goal.rounds-smaller
rounds-smaller g c =
    let old = c.rounds.host in
    let new = c.round.new.self in
    let i = c.rounds.invariant in
    let e = c.round.ensures in
    let sound : IsScenario old.scenario = rw i.scenario c.requires.sound in
    let own = ap (λ (h : Hosted). h.master) i.hosted ∙ c.requires.begun.master in
    let part = c.in_ok-round.ensures.ok i.fault in
    smaller_after old new sound own e.setup.0 e.setup.1 part.part i.going part.added.log part.form

pub rounds-preserved : goal.rounds-preserved
rounds-preserved g c =
    let old = c.rounds.host in
    let new = c.round.new.self in
    let i = c.rounds.invariant in
    let e = c.in_ok-round.ensures in
    let sound : IsScenario old.scenario = rw i.scenario c.requires.sound in
    let own = ap (λ (h : Hosted). h.master) i.hosted ∙ c.requires.begun.master in
    record {
      scenario = e.setup.0 ∙ i.scenario;
      hosted = e.setup.1 ∙ i.hosted;
      fault = e.fault;
      is_open = e.is_open i.fault;
      rounds = (i.rounds.0 + 1, rounds_after old new sound own e.setup.0 e.setup.1 i.rounds.0 (e.rounds i.rounds.0 i.rounds.1));
      going = going_when old new sound own e.setup.0 e.setup.1 (sym e.progress ∙ c.in-Going.is);
      told = λ before. e.told (i.told before);
      opening = e.opening ∙ i.opening;
      still = (e.cause i.fault).done ∙ i.still;
    }

pub returns-in_err-round-clause-err : goal.returns-in_err-round-clause-err
returns-in_err-round-clause-err g c =
    let old = c.rounds.host in
    let new = c.round.new.self in
    let i = c.rounds.invariant in
    let e = c.round.ensures in
    let sound : IsScenario old.scenario = rw i.scenario c.requires.sound in
    let own = ap (λ (h : Hosted). h.master) i.hosted ∙ c.requires.begun.master in
    let part = c.in_err-round.ensures.err i.fault in
    let p = err_from_is_err_and c.from_residual.result c.from_residual.ensures.1 in
    rw p.1 (cut_after old new sound own e.setup.0 e.setup.1 i.rounds.0 i.rounds.1 part.part part.added.log part.form)
