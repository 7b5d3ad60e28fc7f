use Rattle.std.proofs.Common.{◌∙◌, sym}
use Rattle.host.proofs.Models.{none_left, none_left_lacks, first_external, later_external}
use Rattle.host.proofs.externals.+external_from.Goals as goal

pub returns-in_default-clause-first : goal.returns-in_default-clause-first
returns-in_default-clause-first t c = sym (none_left c.args.hosted c.args.slave c.args.descs.now c.in_default.len_below)

pub returns-in_default-clause-models : goal.returns-in_default-clause-models
returns-in_default-clause-models t c = none_left_lacks c.args.hosted c.args.slave c.args.descs.now c.in_default.len_below

pub returns-then-lacks_model-clause-first : goal.returns-then-lacks_model-clause-first
returns-then-lacks_model-clause-first t c =
    sym (first_external c.args.hosted c.args.slave c.args.descs.now c.desc-item.result c.in-len1-up.len_at_least c.desc-item.is (sym c.lacks_model.ensures ∙ c.if-lacks_model.true))

pub returns-clause-first : goal.returns-clause-first
returns-clause-first t c =
    c.external_from.ensures.first
    ∙ sym (later_external c.args.hosted c.args.slave c.args.descs.now c.desc-item.result c.in-len1-up.len_at_least c.desc-item.is (sym c.lacks_model.ensures ∙ c.if-lacks_model.false))
