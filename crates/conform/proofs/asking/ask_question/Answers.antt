use Rattle.std.proofs.Common.{sym, subst, ap, ◌∙◌, map, ◌++◌}
use Rattle.pdu_layout.specs.declared.messages.Inf.{Inf}
use Rattle.slave_spec.specs.declared.words.Asked.TheVariants.{Question}
use Rattle.slave_spec.specs.Foreign.{log_answers}
use Rattle.conform.specs.declared.meanings.Meaning.{Meaning}
use Rattle.conform.specs.Asking.{HasAnswersOut, reply, heads}
use Rattle.conform.proofs.Asked.{log_asked}
use Rattle.conform.proofs.asking.ask_question.Goals as goal

pub returns-in-Log : goal.returns-in-Log
returns-in-Log c = λ d p h.
    subst (λ (m : Meaning). HasAnswersOut d p c.args.to c.args.request.now c.args.next m c.args.plant.now c.put_log.new.out) (sym c.put_log.ensures.meaning)
    (log_asked d p c.args.to c.args.next c.args.request.now c.in-Log.category c.in-Log.max_entries _ _ (c.requires.asked ∙ ap (λ (i : Inf). Question i) c.in-Log.is) h
    (c.put_log.ensures.out ∙ ap (λ (m : Meaning). map (reply c.args.to c.args.request.now c.args.next) (log_answers c.in-Log.category) ++ heads m c.args.to c.args.request.now) c.put_log.ensures.meaning))
