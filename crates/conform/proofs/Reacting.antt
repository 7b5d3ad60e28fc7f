-- Events at which nothing is free but notices.
use Rattle.std.proofs.Common.{◌≡◌, ℕ, List, [], ◌∷◌, ◌++◌, refl, ap, sym, subst, ◌∙◌}
use Rattle.dcp_types.specs.declared.addresses.Address.{Address}
use Rattle.dcp_types.specs.declared.error_codes.ErrorCode.{ErrorCode}
use Rattle.dcp_ends.specs.Events.{Event, Gram, Send}
use Rattle.slave_desc.specs.declared.descriptions.SlaveDesc.{SlaveDesc}
use Rattle.slave_spec.specs.declared.words.Fate.{Fate}
use Rattle.slave_spec.specs.declared.words.Fate.TheVariants.{Dropped, Refused, Repeated}
use Rattle.slave_spec.specs.declared.words.Session.{Session}
use Rattle.slave_spec.specs.declared.words.SlaveRequest.{SlaveRequest}
use Rattle.slave_spec.specs.Heard.{Heard, Asks, Brings, Nothing, heard}
use Rattle.slave_spec.specs.Transport.{Nack, Exchange, fate, fate_in, heard_sends, request_sends, after_heard, after_request, again, send, answer_message, expected}
use Rattle.slave_spec.specs.Foreign.{ForeignState, Choice, foreign, IsHeardChoice, IsFateChoice, AreNotices}
use Rattle.conform.specs.declared.followers.Follower.{Follower}
use Rattle.conform.specs.Standing.{StandsBetween, Awaits, StandsWithin, awaited_for, no_choice, IsOver, HasOne, Reacts}
use Rattle.conform.specs.declared.followers.Awaited.{Awaited}

module _ (d : SlaveDesc) (x : ForeignState) (event : Event) (y : ForeignState) where
  told : (z : ForeignState) (notices rest : List Send) → z ≡ y → rest ≡ notices → AreNotices z notices → AreNotices y rest
  told z notices rest e f h = subst (λ (l : List Send). AreNotices y l) (sym f) (subst (λ (w : ForeignState). AreNotices w notices) e h)

  pub silent : Reacts d x event [] y → IsOver d x event [] y
  silent r = record {
    onward = λ rest z may.
        let e : z ≡ y = may.after ∙ r.after_is may.choice may.free in
        let f : rest ≡ may.notices = may.sends ∙ ap (λ (l : List Send). l ++ may.notices) (r.sent_is may.choice may.free) in
        (e, told z may.notices rest e f may.told);
    back = λ rest h. record {
      choice = r.choice;
      free = r.free;
      notices = rest;
      told = h;
      sends = ap (λ (l : List Send). l ++ rest) (sym (r.sent_is r.choice r.free));
      after = sym (r.after_is r.choice r.free);
    };
  }

  pub one : (s : Send) → Reacts d x event (s ∷ []) y → HasOne d x event [] s y
  one s r = record {
    onward = λ sent z may.
        let e : z ≡ y = may.after ∙ r.after_is may.choice may.free in
        let f : sent ≡ s ∷ may.notices = may.sends ∙ ap (λ (l : List Send). l ++ may.notices) (r.sent_is may.choice may.free) in
        (may.notices, f, e, told z may.notices may.notices e refl may.told);
    back = λ rest h. record {
      choice = r.choice;
      free = r.free;
      notices = rest;
      told = h;
      sends = ap (λ (l : List Send). l ++ rest) (sym (r.sent_is r.choice r.free));
      after = sym (r.after_is r.choice r.free);
    };
  }

module _ (d : SlaveDesc) (x : ForeignState) (from : Address) (bytes : List ℕ) where
  by_heard : (h : Heard) (sent : List Send) (y : ForeignState) → heard bytes ≡ h → ((c : Choice) → heard_sends (foreign d c) x from h ≡ sent)
      → ((c : Choice) → after_heard (foreign d c) x from h ≡ y) → IsHeardChoice d x from h no_choice → Reacts d x (Gram from bytes) sent y
  by_heard h sent y e s a f = record {
    sent_is = λ c h. ap (λ (k : Heard). heard_sends (foreign d c) x from k) e ∙ s c;
    after_is = λ c h. ap (λ (k : Heard). after_heard (foreign d c) x from k) e ∙ a c;
    choice = no_choice;
    free = subst (λ (k : Heard). IsHeardChoice d x from k no_choice) (sym e) f;
  }

  pub nothing_heard : heard bytes ≡ Nothing → Reacts d x (Gram from bytes) [] x
  nothing_heard e = by_heard Nothing [] x e (λ c. refl) (λ c. refl) tt

  pub data_heard : (number id : ℕ) (payload : List ℕ) → heard bytes ≡ Brings number id payload → Reacts d x (Gram from bytes) [] (after_heard (foreign d no_choice) x from (Brings number id payload))
  data_heard number id payload e = by_heard (Brings number id payload) [] _ e (λ c. refl) (λ c. refl) tt

  by_fate : (r : SlaveRequest) (f : Fate) (sent : List Send) → heard bytes ≡ Asks r → fate (foreign d no_choice) x from r ≡ f
      → ((c : Choice) → request_sends (foreign d c) x from r f ≡ sent) → ((c : Choice) → after_request (foreign d c) x from r f ≡ x) → IsFateChoice d x.inner r.asked f no_choice
      → Reacts d x (Gram from bytes) sent x
  by_fate r f sent e g s a h = by_heard (Asks r) sent x e
      (λ c. ap (λ (k : Fate). request_sends (foreign d c) x from r k) g ∙ s c)
      (λ c. ap (λ (k : Fate). after_request (foreign d c) x from r k) g ∙ a c)
      (subst (λ (k : Fate). IsFateChoice d x.inner r.asked k no_choice) (sym g) h)

  pub dropped : (r : SlaveRequest) → heard bytes ≡ Asks r → fate (foreign d no_choice) x from r ≡ Dropped → Reacts d x (Gram from bytes) [] x
  dropped r e g = by_fate r Dropped [] e g (λ c. refl) (λ c. refl) tt

  pub refused : (r : SlaveRequest) (code : ErrorCode) → heard bytes ≡ Asks r → fate (foreign d no_choice) x from r ≡ Refused code
      → Reacts d x (Gram from bytes) (send from (answer_message r (expected x.served) (Nack code)) ∷ []) x
  refused r code e g = by_fate r (Refused code) _ e g (λ c. refl) (λ c. refl) tt

  pub repeated : (r : SlaveRequest) → heard bytes ≡ Asks r → fate (foreign d no_choice) x from r ≡ Repeated → Reacts d x (Gram from bytes) (again from x.served) x
  repeated r e g = by_fate r Repeated _ e g (λ c. refl) (λ c. refl) tt

-- the fate that was found is that of the slave
pub fated : (d own : SlaveDesc) (x : ForeignState) (session : Session) (from : Address) (r : SlaveRequest) (f : Fate) → own ≡ d → session ≡ x.session
    → f ≡ fate_in (foreign own no_choice) session x.served from r → fate (foreign d no_choice) x from r ≡ f
fated d own x session from r f e s h =
    sym (h ∙ ap (λ (o : SlaveDesc). fate_in (foreign o no_choice) session x.served from r) e ∙ ap (λ (k : Session). fate_in (foreign d no_choice) k x.served from r) s)

-- the answer that is kept is awaited again
pub again_stands : (c : Follower) (d : SlaveDesc) (x : ForeignState) (event : Event) (to : Address) (served : List Exchange) → c.out ≡ again to served → c.awaited ≡ awaited_for c.out
    → StandsBetween c d x → Reacts d x event (again to served) x → StandsWithin c d x event []
again_stands c d x event to [] o a h r =
    subst (λ (w : Awaited). Awaits c w d x event []) (sym (a ∙ ap (λ (l : List Send). awaited_for l) o)) (x, h, silent d x event x r)
again_stands c d x event to (e ∷ served) o a h r =
    subst (λ (w : Awaited). Awaits c w d x event []) (sym (a ∙ ap (λ (l : List Send). awaited_for l) o)) (_, x, h, o, one d x event x _ r)
