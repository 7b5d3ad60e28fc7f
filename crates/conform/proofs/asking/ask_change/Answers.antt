use Rattle.std.proofs.Common.{◌≡◌, sym, ◌∙◌, ap, List, [], ◌∷◌, ◌++◌, subst, Bool, is_none, rules}
use Rattle.dcp_ends.specs.Events.{Send}
use Rattle.slave_spec.specs.Foreign.{verdict}
use Rattle.conform.specs.declared.meanings.Meaning.{Meaning}
use Rattle.conform.specs.Asking.{HasAnswersOut, reply, change_meaning}
use Rattle.conform.proofs.Asked.{change_asked}
use Rattle.conform.proofs.asking.ask_change.Goals as goal

pub returns : goal.returns
returns c = λ d p h.
    let same : c.is_none.result ≡ is_none c.change-refused.result = search rules in
    subst (λ (m : Meaning). HasAnswersOut d p c.args.to c.args.request.now c.args.next m c.change-refused.new.self c.put_verdict.new.out) (sym (c.meaning_of.ensures ∙ ap (λ (b : Bool). change_meaning c.args.body.now b) same))
    (change_asked d p c.args.to c.args.next c.args.request.now c.args.named c.args.body.now c.change-refused.result _ _ c.requires.asked (c.change-refused.ensures.refused d p h) (c.change-refused.ensures.stands d p h)
    (c.put_verdict.ensures ∙ ap (λ (l : List Send). l ++ reply c.args.to c.args.request.now c.args.next (verdict c.change-refused.result) ∷ []) c.requires.out))
