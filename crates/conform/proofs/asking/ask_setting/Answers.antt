use Rattle.std.proofs.Common.{sym, subst}
use Rattle.conform.specs.declared.meanings.Meaning.{Meaning}
use Rattle.conform.specs.Asking.{HasAnswersOut}
use Rattle.conform.proofs.Asked.{setting_asked}
use Rattle.conform.proofs.asking.ask_setting.Goals as goal

pub returns : goal.returns
returns c = λ d p h few.
    subst (λ (m : Meaning). HasAnswersOut d p c.args.to c.args.request.now c.args.next m c.set-setting.new.self c.put_setting.new.out) (sym c.meaning_of_setting.ensures)
    (setting_asked d p c.args.to c.args.next c.args.request.now c.args.body.now c.set-setting.result _ _ c.requires.asked (c.set-setting.ensures d p h few) c.put_setting.ensures)
