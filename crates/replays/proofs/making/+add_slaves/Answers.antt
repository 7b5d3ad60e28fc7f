use Rattle.std.proofs.Common.{rules, ◌∙◌, sym}
use Rattle.slave_desc.specs.Descriptions.{IsDesc}
use Rattle.host.proofs.Models.{all_behind, first_model, other_models}
use Rattle.replays.proofs.Fresh.{new_more}
use Rattle.replays.proofs.making.+add_slaves.Goals.{then-is_hosted+in_ok-slave_of+in_ok-push, else-is_hosted}
use Rattle.replays.proofs.making.+add_slaves.Goals as goal

pub returns-clause-fresh : goal.returns-clause-fresh
returns-clause-fresh t c = λ all. c.in_ok-add_slaves.ensures.fresh (elim c.if-is_hosted.branch [
  | then-is_hosted+in_ok-slave_of+in_ok-push w ↦ rw (w.ends-is, w.in_ok-push.ensures.items) (new_more _ c.args.ends.now.items w.in_ok-slave_of.field-0 all w.in_ok-slave_of.ensures.fresh)
  | else-is_hosted w ↦ rw w.ends-is all
])

pub slave_of-requires-clause-model : goal.slave_of-requires-clause-model
slave_of-requires-clause-model t c =
    first_model c.args.hosted c.args.slave c.args.descs.now c.desc-item.result c.in-len1-up.len_at_least c.desc-item.is (sym c.is_hosted.ensures ∙ c.if-is_hosted.true) c.requires.models

pub add_slaves-requires : goal.add_slaves-requires
add_slaves-requires t c =
    (search rules, (search rules, (all_behind (λ d. IsDesc d) c.args.descs.now c.in-len1-up.len_at_least c.requires.descs, (other_models c.args.hosted c.args.slave c.args.descs.now c.in-len1-up.len_at_least c.requires.models, search rules))))
