use Rattle.std.proofs.Common.{◌≡◌, Bool, List, [], ◌∷◌, ◌++◌, MatchBool, refl, sym, subst}
use Rattle.dcp_types.specs.declared.states.State.TheVariants.{Initializing, Computing}
use Rattle.dcp_ends.specs.Events.{Event, Send}
use Rattle.slave_desc.specs.declared.descriptions.SlaveDesc.{SlaveDesc}
use Rattle.slave_spec.specs.Foreign.{ForeignState}
use Rattle.slave_spec.specs.Standpoints.{Within, MayGoOn}
use Rattle.conform.specs.declared.followers.Follower.{Follower}
use Rattle.conform.specs.declared.followers.Awaited.{Awaited}
use Rattle.conform.specs.declared.followers.Awaited.TheVariants as awaited
use Rattle.conform.specs.Standing.{Awaits, StandsWithin}
use Rattle.conform.proofs.followers.Follower.on_sent.Goals as goal

-- where nothing was sent before
from_none : (c new : Follower) (d : SlaveDesc) (x : ForeignState) (event : Event) (gone : List Send) (s : Send) (b : Bool) → gone ≡ []
    → MatchBool b (StandsWithin new d x event (s ∷ [])) (MayGoOn d (Within x event (s ∷ [])) → ⊥)
    → MatchBool b (StandsWithin new d x event (gone ++ s ∷ [])) (MayGoOn d (Within x event (gone ++ s ∷ [])) → ⊥)
from_none c new d x event gone s b e h =
    subst (λ (l : List Send). MatchBool b (StandsWithin new d x event (l ++ s ∷ [])) (MayGoOn d (Within x event (l ++ s ∷ [])) → ⊥)) (sym e) h

pub returns-in-Closed-clause-within : goal.returns-in-Closed-clause-within
returns-in-Closed-clause-within c = λ d x event gone sound h.
    let k : Awaits c.args.self.now awaited.Closed d x event gone = subst (λ (w : Awaited). Awaits c.args.self.now w d x event gone) c.in-Closed.is h in absurd k

pub returns-in-Notices-clause-within : goal.returns-in-Notices-clause-within
returns-in-Notices-clause-within c = λ d x event gone sound h.
    let k : Awaits c.args.self.now awaited.Notices d x event gone = subst (λ (w : Awaited). Awaits c.args.self.now w d x event gone) c.in-Notices.is h in
    c.on_notice.ensures d x k.0 event gone k.1 k.2

pub returns-in-Message-clause-within : goal.returns-in-Message-clause-within
returns-in-Message-clause-within c = λ d x event gone sound h.
    let k : Awaits c.args.self.now awaited.Message d x event gone = subst (λ (w : Awaited). Awaits c.args.self.now w d x event gone) c.in-Message.is h in
    c.on_message.ensures d x k.1 event gone k.0 k.2 k.3 k.4

pub returns-in-Answer-clause-within : goal.returns-in-Answer-clause-within
returns-in-Answer-clause-within c = λ d x event gone sound h.
    let k : Awaits c.args.self.now (awaited.Answer c.in-Answer.meaning) d x event gone = subst (λ (w : Awaited). Awaits c.args.self.now w d x event gone) c.in-Answer.is h in
    from_none c.args.self.now c.on_answer.new.self d x event gone (record { to = c.args.to; bytes = c.args.bytes.now }) c.on_answer.result k.2 (c.on_answer.ensures d x event k.0 k.1 k.3 k.4)

pub returns-in-Initializing-clause-within : goal.returns-in-Initializing-clause-within
returns-in-Initializing-clause-within c = λ d x event gone sound h.
    let k : Awaits c.args.self.now awaited.Initializing d x event gone = subst (λ (w : Awaited). Awaits c.args.self.now w d x event gone) c.in-Initializing.is h in
    from_none c.args.self.now c.on_model.new.self d x event gone (record { to = c.args.to; bytes = c.args.bytes.now }) c.on_model.result k.0 (c.on_model.ensures d x event Initializing refl refl k.1)

pub returns-in-Computing-clause-within : goal.returns-in-Computing-clause-within
returns-in-Computing-clause-within c = λ d x event gone sound h.
    let k : Awaits c.args.self.now awaited.Computing d x event gone = subst (λ (w : Awaited). Awaits c.args.self.now w d x event gone) c.in-Computing.is h in
    from_none c.args.self.now c.on_model-in-Computing.new.self d x event gone (record { to = c.args.to; bytes = c.args.bytes.now }) c.on_model-in-Computing.result k.0 (c.on_model-in-Computing.ensures d x event Computing refl refl k.1)

pub returns-in-Data-clause-within : goal.returns-in-Data-clause-within
returns-in-Data-clause-within c = λ d x event gone sound h.
    let k : Awaits c.args.self.now (awaited.Data c.in-Data.target) d x event gone = subst (λ (w : Awaited). Awaits c.args.self.now w d x event gone) c.in-Data.is h in
    c.on_parcel.ensures d x k.1 event gone k.0 k.2 sound k.3 k.4 k.5 k.6 k.7
