-- One more event.
use Rattle.std.proofs.Common.{◌≡◌, ℕ, List, [], ◌∷◌, ◌++◌, refl, ap, sym, subst, ◌∙◌}
use Rattle.dcp_types.specs.declared.addresses.Address.{Address}
use Rattle.dcp_ends.specs.Events.{Event, Gram, Tick, Send}
use Rattle.slave_spec.specs.declared.words.SlaveSetup.{SlaveSetup}
use Rattle.slave_spec.specs.Heard.{Heard, heard}
use Rattle.slave_spec.specs.Transport.{Machine, SlaveState, after, after_all, after_heard, after_turn}
use Rattle.slave_spec.specs.Slaves.{machine, slave_after}

after_more : {S : Type 0} → (m : Machine S) (x : SlaveState S) (events : List Event) (e : Event) → after_all m x (events ++ e ∷ []) ≡ after m (after_all m x events) e
after_more m x [] e = refl
after_more m x (f ∷ events) e = after_more m (after m x f) events e

pub gram_more : (old new : SlaveSetup) (events : List Event) (from : Address) (bytes : List ℕ) (h : Heard) → new ≡ old → h ≡ heard bytes
    → after_heard (machine old) (slave_after old events) from h ≡ slave_after new (events ++ Gram from bytes ∷ [])
gram_more old new events from bytes h same is =
    ap (λ (k : Heard). after_heard (machine old) (slave_after old events) from k) is
    ∙ sym (after_more (machine old) _ events (Gram from bytes))
    ∙ ap (λ (s : SlaveSetup). slave_after s (events ++ Gram from bytes ∷ [])) (sym same)

pub tick_more : (old new : SlaveSetup) (events : List Event) → new ≡ old → after_turn (machine old) (slave_after old events) ≡ slave_after new (events ++ Tick ∷ [])
tick_more old new events same =
    sym (after_more (machine old) _ events Tick) ∙ ap (λ (s : SlaveSetup). slave_after s (events ++ Tick ∷ [])) (sym same)
