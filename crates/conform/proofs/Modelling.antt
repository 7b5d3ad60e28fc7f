-- Turns in a state that the model may leave by a fault.
use Rattle.std.proofs.Common.{◌≡◌, ℕ, ◌%◌, Bool, true, false, List, [], ◌∷◌, ◌++◌, map, slice_get, Some, refl, ap, sym, subst, ◌∙◌, MatchBool, inl, inr}
use Rattle.dcp_types.specs.declared.addresses.Address.{Address}
use Rattle.dcp_types.specs.declared.states.State.{State}
use Rattle.dcp_types.specs.declared.states.State.TheVariants.{Alive, Configuration, Preparing, Prepared, Configuring, Configured, Initializing, Initialized, SendingI, Synchronizing, Synchronized, Running, Computing, Computed, SendingD, Stopping, Stopped, ErrorHandling, ErrorResolved}
use Rattle.dcp_types.specs.Codes.{state_code}
use Rattle.dcp_types.specs.Values.{digits}
use Rattle.dcp_ends.specs.Events.{Event, Tick, Send}
use Rattle.pdu_layout.specs.Reading.{spelling}
use Rattle.slave_desc.specs.declared.descriptions.SlaveDesc.{SlaveDesc}
use Rattle.slave_states.specs.Transitions.{next_on_turn}
use Rattle.slave_spec.specs.declared.words.Session.TheVariants.{During}
use Rattle.slave_spec.specs.Transport.{Parcel, Changed, notice_message, parcel_send, quieter}
use Rattle.slave_spec.specs.Turns.{is_missed, is_sending_state}
use Rattle.slave_spec.specs.Foreign.{ForeignState, Stays, Passes, Falls, passed, fallen, may_turn, SendsData, IsNotice, AreNotices, MaySendAt}
use Rattle.slave_spec.specs.Standpoints.{Within, MayGoOn}
use Rattle.conform.specs.declared.followers.Follower.{Follower}
use Rattle.conform.specs.declared.followers.Awaited.{Awaited}
use Rattle.conform.specs.declared.followers.Awaited.TheVariants as awaited
use Rattle.conform.specs.Standing.{StandsBetween, Awaits, StandsWithin, is_model, awaited_in, IsOver, HasOne, AwaitsModel, state_notice, turned_to}
use Rattle.conform.proofs.Replies.{same_state}
use Rattle.conform.proofs.Noting.{note_bytes, untold, first_notice, more_notices, both_notices}
use Rattle.conform.proofs.Turning.{Stayed, PassedOn, turned, stay_sent, pass_sent, fall_sent, acts}

-- ---- notices of states

told_bytes : (id : ℕ) (state : State) → spelling (notice_message id (Changed state)) ≡ 224 ∷ id % 256 ∷ state_code state % 256 ∷ []
unfolding spelling digits
told_bytes id state = refl

told_same : (master : Address) (id : ℕ) (a b : State) → state_notice master id a ≡ state_notice master id b → a ≡ b
told_same master id a b e =
    let f : 224 ∷ id % 256 ∷ state_code a % 256 ∷ [] ≡ 224 ∷ id % 256 ∷ state_code b % 256 ∷ [] = sym (told_bytes id a) ∙ ap (λ (s : Send). s.bytes) e ∙ told_bytes id b in
    let g : state_code a % 256 ≡ state_code b % 256 = cc in
    same_state a b g

not_notice : (master : Address) (id : ℕ) (state : State) (s : Send) → s ≡ state_notice master id state → (to : Address) (other : ℕ) → IsNotice to other s → ⊥
not_notice master id state s e to other h =
    let f : 224 ∷ id % 256 ∷ state_code state % 256 ∷ [] ≡ 225 ∷ other % 256 ∷ h.category % 256 ∷ h.level % 256 ∷ h.text =
    sym (told_bytes id state) ∙ ap (λ (k : Send). k.bytes) (sym e ∙ h.same) ∙ note_bytes other h.category h.level h.text in
    absurd (cc (f))

head_is : (s : Send) (rest : List Send) (t : Send) (more : List Send) → s ∷ rest ≡ t ∷ more → s ≡ t
head_is s rest t more e = cc

tail_is : (s : Send) (rest : List Send) (t : Send) (more : List Send) → s ∷ rest ≡ t ∷ more → rest ≡ more
tail_is s rest t more e = cc

apart : (state : State) → is_model state ≡ true → next_on_turn state 0 ≡ ErrorHandling → ⊥
unfolding next_on_turn
apart Alive m e = absurd cc
apart Configuration m e = absurd cc
apart Preparing m e = absurd cc
apart Prepared m e = absurd cc
apart Configuring m e = absurd cc
apart Configured m e = absurd cc
apart Initializing m e = absurd cc
apart Initialized m e = absurd cc
apart SendingI m e = absurd cc
apart Synchronizing m e = absurd cc
apart Synchronized m e = absurd cc
apart Running m e = absurd cc
apart Computing m e = absurd cc
apart Computed m e = absurd cc
apart SendingD m e = absurd cc
apart Stopping m e = absurd cc
apart Stopped m e = absurd cc
apart ErrorHandling m e = absurd cc
apart ErrorResolved m e = absurd cc

pub may_pass : (state : State) → is_model state ≡ true → may_turn state Passes ≡ true
may_pass Alive m = absurd cc
may_pass Configuration m = absurd cc
may_pass Preparing m = absurd cc
may_pass Prepared m = absurd cc
may_pass Configuring m = absurd cc
may_pass Configured m = absurd cc
may_pass Initializing m = refl
may_pass Initialized m = absurd cc
may_pass SendingI m = absurd cc
may_pass Synchronizing m = absurd cc
may_pass Synchronized m = absurd cc
may_pass Running m = absurd cc
may_pass Computing m = refl
may_pass Computed m = absurd cc
may_pass SendingD m = absurd cc
may_pass Stopping m = absurd cc
may_pass Stopped m = absurd cc
may_pass ErrorHandling m = absurd cc
may_pass ErrorResolved m = absurd cc

may_fall : (state : State) → is_model state ≡ true → may_turn state Falls ≡ true
may_fall Alive m = absurd cc
may_fall Configuration m = absurd cc
may_fall Preparing m = absurd cc
may_fall Prepared m = absurd cc
may_fall Configuring m = absurd cc
may_fall Configured m = absurd cc
may_fall Initializing m = refl
may_fall Initialized m = absurd cc
may_fall SendingI m = absurd cc
may_fall Synchronizing m = absurd cc
may_fall Synchronized m = absurd cc
may_fall Running m = absurd cc
may_fall Computing m = refl
may_fall Computed m = absurd cc
may_fall SendingD m = absurd cc
may_fall Stopping m = absurd cc
may_fall Stopped m = absurd cc
may_fall ErrorHandling m = absurd cc
may_fall ErrorResolved m = absurd cc

unsent : (state : State) → is_model state ≡ true → is_sending_state state ≡ false
unsent Alive m = absurd cc
unsent Configuration m = absurd cc
unsent Preparing m = absurd cc
unsent Prepared m = absurd cc
unsent Configuring m = absurd cc
unsent Configured m = absurd cc
unsent Initializing m = refl
unsent Initialized m = absurd cc
unsent SendingI m = absurd cc
unsent Synchronizing m = absurd cc
unsent Synchronized m = absurd cc
unsent Running m = absurd cc
unsent Computing m = refl
unsent Computed m = absurd cc
unsent SendingD m = absurd cc
unsent Stopping m = absurd cc
unsent Stopped m = absurd cc
unsent ErrorHandling m = absurd cc
unsent ErrorResolved m = absurd cc

module _ (d : SlaveDesc) (x : ForeignState) (master : Address) (id : ℕ) (opened : x.session ≡ During master id) (spared : is_missed d x.inner.state (quieter x.quiet) ≡ false)
    (m : is_model x.inner.state ≡ true) (s : Send) where
  fall_told : Send
  fall_told = state_notice master id ErrorHandling

  no_parcels : (ps : List Parcel) → SendsData d x.inner ps → ps ≡ []
  no_parcels ps h = rw (unsent x.inner.state m) at h

  pub no_data : SendsData d x.inner []
  no_data = rw (unsent x.inner.state m) refl

  pass_is : (sent : List Send) (z : ForeignState) (h : PassedOn d x master id opened sent z) → sent ≡ state_notice master id (passed x.inner).state ∷ h.rest
  pass_is sent z h = h.sent_is ∙ ap (λ (l : List Parcel). map parcel_send l ++ state_notice master id (passed x.inner).state ∷ h.rest) (no_parcels h.parcels h.sends_data)

  pub passed_over : s ≡ state_notice master id (passed x.inner).state → IsOver d x Tick (s ∷ []) (turned_to x (passed x.inner))
  passed_over e = record {
    onward = λ rest z may. elim (turned d x master id opened (s ∷ rest) z may) [
      | inl h ↦ absurd (untold (turned_to x x.inner) s rest (not_notice master id (passed x.inner).state s e) h.told)
      | inr k ↦ elim k [
        | inl h ↦ (h.after_is, subst (λ (l : List Send). AreNotices (turned_to x (passed x.inner)) l) (sym (tail_is s rest _ h.rest (pass_is (s ∷ rest) z h))) h.told)
        | inr h ↦ absurd (apart x.inner.state m (told_same master id (passed x.inner).state ErrorHandling (sym e ∙ head_is s rest _ h.rest h.sent_is)))
      ]
    ];
    back = λ rest told. subst (λ (k : Send). MaySendAt d x Tick (k ∷ rest) (turned_to x (passed x.inner))) (sym e)
        (pass_sent d x master id opened (acts d x master id opened spared Passes ∙ may_pass x.inner.state m) [] no_data rest told);
  }

  pub fallen_over : s ≡ state_notice master id ErrorHandling → IsOver d x Tick (s ∷ []) (turned_to x (fallen d (quieter x.quiet) x.inner))
  fallen_over e = record {
    onward = λ rest z may. elim (turned d x master id opened (s ∷ rest) z may) [
      | inl h ↦ absurd (untold (turned_to x x.inner) s rest (not_notice master id ErrorHandling s e) h.told)
      | inr k ↦ elim k [
        | inl h ↦ absurd (apart x.inner.state m (told_same master id (passed x.inner).state ErrorHandling (sym (head_is s rest _ h.rest (pass_is (s ∷ rest) z h)) ∙ e)))
        | inr h ↦ (h.after_is, subst (λ (l : List Send). AreNotices (turned_to x (fallen d (quieter x.quiet) x.inner)) l) (sym (tail_is s rest _ h.rest h.sent_is)) h.told)
      ]
    ];
    back = λ rest told. subst (λ (k : Send). MaySendAt d x Tick (k ∷ rest) (turned_to x (fallen d (quieter x.quiet) x.inner))) (sym e)
        (fall_sent d x master id opened (acts d x master id opened spared Falls ∙ may_fall x.inner.state m) rest told);
  }

  module _ (unpassed : s ≡ state_notice master id (passed x.inner).state → ⊥) (unfallen : s ≡ state_notice master id ErrorHandling → ⊥) where
    stayed : (rest : List Send) (z : ForeignState) → MaySendAt d x Tick (s ∷ rest) z → Stayed d x master id opened (s ∷ rest) z
    stayed rest z may = elim (turned d x master id opened (s ∷ rest) z may) [
      | inl h ↦ h
      | inr k ↦ elim k [
        | inl h ↦ absurd (unpassed (head_is s rest _ h.rest (pass_is (s ∷ rest) z h)))
        | inr h ↦ absurd (unfallen (head_is s rest _ h.rest h.sent_is))
      ]
    ]

    pub stayed_over : may_turn x.inner.state Stays ≡ true → AreNotices (turned_to x x.inner) (s ∷ []) → IsOver d x Tick (s ∷ []) (turned_to x x.inner)
    stayed_over may one = record {
      onward = λ rest z k. let h = stayed rest z k in (h.after_is, more_notices (turned_to x x.inner) s rest h.told);
      back = λ rest told. stay_sent d x master id opened (acts d x master id opened spared Stays ∙ may) (s ∷ rest) (both_notices (turned_to x x.inner) s rest one told);
    }

    pub stayed_not : may_turn x.inner.state Stays ≡ false → MayGoOn d (Within x Tick (s ∷ [])) → ⊥
    stayed_not may (left, z, k) = let h = stayed left z k in absurd (cc (h.may, acts d x master id opened spared Stays ∙ may))

    pub unstayed : (AreNotices (turned_to x x.inner) (s ∷ []) → ⊥) → MayGoOn d (Within x Tick (s ∷ [])) → ⊥
    unstayed never (left, z, k) = let h = stayed left z k in never (first_notice (turned_to x x.inner) s left h.told)

-- ---- the follower

pub is_model_at : (p state : State) → p ≡ state → is_model state ≡ true → is_model p ≡ true
is_model_at p state e m = ap is_model e ∙ m

pub spared_at : (d : SlaveDesc) (quiet : ℕ) (p state : State) → p ≡ state → is_missed d state quiet ≡ false → is_missed d p quiet ≡ false
spared_at d quiet p state e m = ap (λ (s : State). is_missed d s quiet) e ∙ m

second : (a b : Send) (l : List Send) (s : Send) → l ≡ a ∷ b ∷ [] → slice_get l 1 ≡ Some s → s ≡ b
second a b l s e h = let k : slice_get (a ∷ b ∷ []) 1 ≡ Some s = sym (ap (λ (n : List Send). slice_get n 1) e) ∙ h in cc

first : (a b : Send) (l : List Send) (s : Send) → l ≡ a ∷ b ∷ [] → slice_get l 0 ≡ Some s → s ≡ a
first a b l s e h = let k : slice_get (a ∷ b ∷ []) 0 ≡ Some s = sym (ap (λ (n : List Send). slice_get n 0) e) ∙ h in cc

not_second : (a b : Send) (l : List Send) (s : Send) → l ≡ a ∷ b ∷ [] → (slice_get l 1 ≡ Some s → ⊥) → s ≡ b → ⊥
not_second a b l s e h k = h (ap (λ (n : List Send). slice_get n 1) e ∙ ap (λ (q : Send). Some q) (sym k))

not_first : (a b : Send) (l : List Send) (s : Send) → l ≡ a ∷ b ∷ [] → (slice_get l 0 ≡ Some s → ⊥) → s ≡ a → ⊥
not_first a b l s e h k = h (ap (λ (n : List Send). slice_get n 0) e ∙ ap (λ (q : Send). Some q) (sym k))

pub at_notices : (c : Follower) (d : SlaveDesc) (x : ForeignState) (event : Event) (gone : List Send) (y : ForeignState) → c.awaited ≡ awaited.Notices → StandsBetween c d y → IsOver d x event gone y → StandsWithin c d x event gone
at_notices c d x event gone y a h o = subst (λ (k : Awaited). Awaits c k d x event gone) (sym a) (y, h, o)

at_tick : (d : SlaveDesc) (x : ForeignState) (event : Event) (c : Follower) (gone : List Send) → event ≡ Tick → StandsWithin c d x Tick gone → StandsWithin c d x event gone
at_tick d x event c gone e h = subst (λ (k : Event). StandsWithin c d x k gone) (sym e) h

module _ (c : Follower) (state : State) (d : SlaveDesc) (x : ForeignState) (event : Event) (s : Send) (m : is_model state ≡ true) (w : AwaitsModel c state d x event) where
  next_is : state_notice w.master w.id (next_on_turn state 0) ≡ state_notice w.master w.id (passed x.inner).state
  next_is = ap (λ (k : State). state_notice w.master w.id (next_on_turn k 0)) (sym w.state_is)

  pub model_passed : (new : Follower) → slice_get c.out 0 ≡ Some s → StandsBetween new d (turned_to x (passed x.inner)) → new.awaited ≡ awaited.Notices → StandsWithin new d x event (s ∷ [])
  model_passed new e h a = at_tick d x event new (s ∷ []) w.is (at_notices new d x Tick (s ∷ []) (turned_to x (passed x.inner)) a h
      (passed_over d x w.master w.id w.open_with (spared_at d (quieter x.quiet) _ state w.state_is w.spared) (is_model_at _ state w.state_is m) s (first _ _ c.out s w.out_is e ∙ next_is)))

  pub model_fell : (new : Follower) → slice_get c.out 1 ≡ Some s → StandsBetween new d (turned_to x (fallen d (quieter x.quiet) x.inner)) → new.awaited ≡ awaited.Notices → StandsWithin new d x event (s ∷ [])
  model_fell new e h a = at_tick d x event new (s ∷ []) w.is (at_notices new d x Tick (s ∷ []) (turned_to x (fallen d (quieter x.quiet) x.inner)) a h
      (fallen_over d x w.master w.id w.open_with (spared_at d (quieter x.quiet) _ state w.state_is w.spared) (is_model_at _ state w.state_is m) s (second _ _ c.out s w.out_is e)))

  module _ (unpassed : slice_get c.out 0 ≡ Some s → ⊥) (unfallen : slice_get c.out 1 ≡ Some s → ⊥) where
    no_pass : s ≡ state_notice w.master w.id (passed x.inner).state → ⊥
    no_pass e = not_first _ _ c.out s w.out_is unpassed (e ∙ sym next_is)

    no_fall : s ≡ state_notice w.master w.id ErrorHandling → ⊥
    no_fall e = not_second _ _ c.out s w.out_is unfallen e

    pub model_left : may_turn state Stays ≡ false → MayGoOn d (Within x event (s ∷ [])) → ⊥
    model_left may = subst (λ (k : Event). MayGoOn d (Within x k (s ∷ [])) → ⊥) (sym w.is)
        (stayed_not d x w.master w.id w.open_with (spared_at d (quieter x.quiet) _ state w.state_is w.spared) (is_model_at _ state w.state_is m) s no_pass no_fall (ap (λ (k : State). may_turn k Stays) w.state_is ∙ may))

    pub model_noticed : (new : Follower) (b : Bool) → may_turn state Stays ≡ true → StandsBetween new d (turned_to x x.inner) → new.awaited ≡ awaited.Notices
        → MatchBool b (AreNotices (turned_to x x.inner) (s ∷ [])) (AreNotices (turned_to x x.inner) (s ∷ []) → ⊥)
        → MatchBool b (StandsWithin new d x event (s ∷ [])) (MayGoOn d (Within x event (s ∷ [])) → ⊥)
    model_noticed new true may h a one = at_tick d x event new (s ∷ []) w.is (at_notices new d x Tick (s ∷ []) (turned_to x x.inner) a h
        (stayed_over d x w.master w.id w.open_with (spared_at d (quieter x.quiet) _ state w.state_is w.spared) (is_model_at _ state w.state_is m) s no_pass no_fall (ap (λ (k : State). may_turn k Stays) w.state_is ∙ may) one))
    model_noticed new false may h a one = subst (λ (k : Event). MayGoOn d (Within x k (s ∷ [])) → ⊥) (sym w.is)
        (unstayed d x w.master w.id w.open_with (spared_at d (quieter x.quiet) _ state w.state_is w.spared) (is_model_at _ state w.state_is m) s no_pass no_fall one)

pub at_message : (c : Follower) (d : SlaveDesc) (x : ForeignState) (event : Event) (gone : List Send) (s : Send) (y : ForeignState) → c.awaited ≡ awaited.Message → StandsBetween c d y → c.out ≡ s ∷ [] → HasOne d x event gone s y
    → StandsWithin c d x event gone
at_message c d x event gone s y a h o one = subst (λ (k : Awaited). Awaits c k d x event gone) (sym a) (s, y, h, o, one)

pub at_model : (c : Follower) (state : State) (d : SlaveDesc) (x : ForeignState) (event : Event) → is_model state ≡ true → AwaitsModel c state d x event → Awaits c (awaited_in state) d x event []
at_model c Alive d x event m w = absurd cc
at_model c Configuration d x event m w = absurd cc
at_model c Preparing d x event m w = absurd cc
at_model c Prepared d x event m w = absurd cc
at_model c Configuring d x event m w = absurd cc
at_model c Configured d x event m w = absurd cc
at_model c Initializing d x event m w = (refl, w)
at_model c Initialized d x event m w = absurd cc
at_model c SendingI d x event m w = absurd cc
at_model c Synchronizing d x event m w = absurd cc
at_model c Synchronized d x event m w = absurd cc
at_model c Running d x event m w = absurd cc
at_model c Computing d x event m w = (refl, w)
at_model c Computed d x event m w = absurd cc
at_model c SendingD d x event m w = absurd cc
at_model c Stopping d x event m w = absurd cc
at_model c Stopped d x event m w = absurd cc
at_model c ErrorHandling d x event m w = absurd cc
at_model c ErrorResolved d x event m w = absurd cc
