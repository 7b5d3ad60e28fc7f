-- Whether an event may be over.
use Rattle.std.proofs.Common.{◌≡◌, ℕ, ◌%◌, Bool, true, false, List, [], ◌∷◌, ◌++◌, map, replicate, slice_get, Option, Some, None, refl, ap, sym, subst, ◌∙◌, inl, inr}
use Rattle.std.proofs.lemmas.List.{append-nil, length-replicate}
use Rattle.dcp_types.specs.declared.addresses.Address.{Address}
use Rattle.dcp_types.specs.declared.states.State.{State}
use Rattle.dcp_types.specs.declared.states.State.TheVariants.{Initializing, Computing}
use Rattle.dcp_types.specs.declared.error_codes.ErrorCode.{ErrorCode}
use Rattle.dcp_types.specs.declared.error_codes.ErrorCode.TheVariants as errors
use Rattle.dcp_types.specs.declared.fault_codes.FaultCode.{FaultCode}
use Rattle.dcp_ends.specs.Events.{Event, Send}
use Rattle.pdu_layout.specs.declared.messages.Cfg.{Cfg}
use Rattle.pdu_layout.specs.declared.messages.Cfg.TheVariants as cfg
use Rattle.pdu_layout.specs.declared.messages.Inf.TheVariants as inf
use Rattle.slave_desc.specs.declared.descriptions.SlaveDesc.{SlaveDesc}
use Rattle.slave_spec.specs.Changes as wiring
use Rattle.slave_spec.specs.Changes.{output, target, ordinal}
use Rattle.slave_spec.specs.Payloads.{data_message}
use Rattle.slave_spec.specs.Turns.{is_missed}
use Rattle.slave_spec.specs.declared.words.Asked.{Asked}
use Rattle.slave_spec.specs.declared.words.Asked.TheVariants.{Change, Setting, Question}
use Rattle.slave_spec.specs.Requests.{is_category}
use Rattle.slave_spec.specs.Transport.{SlaveAnswer, Parcel, parcel_send, quieter}
use Rattle.slave_spec.specs.Foreign.{ForeignState, ForeignPlant, Stays, Passes, passed, may_turn, foreign_answers, setting_answers, parameter_answers, logging_answers, fault_answers, log_answers, values_size, IsParcel, FirstThen, AreParcels, MaySendAt, after_answer}
use Rattle.slave_spec.specs.Standpoints.{Within, MayGoOn}
use Rattle.conform.specs.declared.followers.Awaited.{Awaited}
use Rattle.conform.specs.declared.followers.Awaited.TheVariants as awaited
use Rattle.conform.specs.declared.followers.Follower.{Follower}
use Rattle.conform.specs.Standing.{StandsBetween, Awaits, AwaitsModel, may_end, is_model, state_notice, turned_to}
use Rattle.conform.proofs.Noting.{no_notices}
use Rattle.conform.proofs.Answering.{may_listed, is_answered, may_answered}
use Rattle.conform.proofs.Turning.{Turned, turned, stay_sent, pass_sent, acts}
use Rattle.conform.proofs.Modelling.{no_data, may_pass, is_model_at, spared_at}

-- ---- the model may count

none_then : (l : List Send) (s : Send) (rest : List Send) → [] ≡ l ++ s ∷ rest → ⊥
none_then [] s rest e = absurd cc
none_then (t ∷ l) s rest e = absurd cc

module _ (c : Follower) (state : State) (d : SlaveDesc) (x : ForeignState) (event : Event) (m : is_model state ≡ true) (w : AwaitsModel c state d x event) where
  model_goes : MayGoOn d (Within x event [])
  model_goes = subst (λ (e : Event). MayGoOn d (Within x e [])) (sym w.is) (
    state_notice w.master w.id (passed x.inner).state ∷ [],
    turned_to x (passed x.inner),
    pass_sent d x w.master w.id w.open_with (acts d x w.master w.id w.open_with spared Passes ∙ may_pass x.inner.state k) [] (no_data d x w.master w.id w.open_with spared k (state_notice w.master w.id (passed x.inner).state)) [] (no_notices (turned_to x (passed x.inner))),
  )
    where
      spared : is_missed d x.inner.state (quieter x.quiet) ≡ false
      spared = spared_at d (quieter x.quiet) x.inner.state state w.state_is w.spared

      k : is_model x.inner.state ≡ true
      k = is_model_at x.inner.state state w.state_is m

  model_waits : may_turn state Stays ≡ false → (z : ForeignState) → MaySendAt d x event [] z → ⊥
  model_waits never z may = by (turned d x w.master w.id w.open_with [] z (subst (λ (e : Event). MaySendAt d x e [] z) w.is may))
    where
      spared : is_missed d x.inner.state (quieter x.quiet) ≡ false
      spared = spared_at d (quieter x.quiet) x.inner.state state w.state_is w.spared

      by : Turned d x w.master w.id w.open_with [] z → ⊥
      by (inl h) = absurd (cc (h.may, acts d x w.master w.id w.open_with spared Stays ∙ ap (λ (s : State). may_turn s Stays) w.state_is ∙ never))
      by (inr (inl h)) = none_then (map parcel_send h.parcels) _ h.rest h.sent_is
      by (inr (inr h)) = none_then [] _ h.rest h.sent_is

  model_rests : may_turn state Stays ≡ true → MaySendAt d x event [] (turned_to x x.inner)
  model_rests may = subst (λ (e : Event). MaySendAt d x e [] (turned_to x x.inner)) (sym w.is)
      (stay_sent d x w.master w.id w.open_with (acts d x w.master w.id w.open_with spared Stays ∙ ap (λ (s : State). may_turn s Stays) w.state_is ∙ may) [] (no_notices (turned_to x x.inner)))
    where
      spared : is_missed d x.inner.state (quieter x.quiet) ≡ false
      spared = spared_at d (quieter x.quiet) x.inner.state state w.state_is w.spared

  model_rested : (z : ForeignState) → MaySendAt d x event [] z → z ≡ turned_to x x.inner
  model_rested z may = by (turned d x w.master w.id w.open_with [] z (subst (λ (e : Event). MaySendAt d x e [] z) w.is may))
    where
      by : Turned d x w.master w.id w.open_with [] z → z ≡ turned_to x x.inner
      by (inl h) = h.after_is
      by (inr (inl h)) = absurd (none_then (map parcel_send h.parcels) _ h.rest h.sent_is)
      by (inr (inr h)) = absurd (none_then [] _ h.rest h.sent_is)

-- ---- some answer is allowed

abbrev HasFirst : List SlaveAnswer → Type 0
HasFirst l = (a : SlaveAnswer) × (slice_get l 0 ≡ Some a)

parameter_first : (r : Option ErrorCode) → HasFirst (parameter_answers r)
parameter_first None = (_, refl)
parameter_first (Some errors.ValueRange) = (_, refl)
parameter_first (Some code) = (_, refl)

logging_first : (b : Bool) (r : Option ErrorCode) → HasFirst (logging_answers b r)
logging_first true r = (_, refl)
logging_first false r = (_, refl)

fault_first : (l : List FaultCode) → HasFirst (fault_answers l)
fault_first [] = (_, refl)
fault_first (code ∷ codes) = (_, refl)

log_first : (category : ℕ) (b : Bool) → is_category category ≡ b → HasFirst (log_answers category)
log_first category true e = rw e (_, refl)
log_first category false e = rw e (_, refl)

setting_first : (d : SlaveDesc) (p : ForeignPlant) (body : Cfg) → HasFirst (setting_answers d p body)
setting_first d p (cfg.Parameter vr kind value) = parameter_first _
setting_first d p (cfg.Logging category level mode) = logging_first _ _
setting_first d p body = (_, refl)

answer_first : (d : SlaveDesc) (p : ForeignPlant) (asked : Asked) → HasFirst (foreign_answers d p asked)
answer_first d p (Change named request) = (_, refl)
answer_first d p (Setting body) = setting_first d p body
answer_first d p (Question inf.State) = (_, refl)
answer_first d p (Question inf.Error) = fault_first p.faults
answer_first d p (Question (inf.Log category most)) = log_first category (is_category category) refl

-- ---- data messages of some values

some_parcels : (d : SlaveDesc) (changes : List wiring.Change) (steps : ℕ) (left : List ℕ) → (ps : List Parcel) × AreParcels d changes steps left ps
some_parcels d changes steps [] = ([], refl)
some_parcels d changes steps (id ∷ left) = by (target id changes) (some_parcels d changes steps left)
  where
    by : (o : Option Address) → ((ps : List Parcel) × AreParcels d changes steps left ps) → (ps : List Parcel) × FirstThen o (IsParcel d changes steps id) (AreParcels d changes steps left) ps
    by None k = k
    by (Some to) (ps, h) =
        let zeros : List ℕ = replicate (values_size d changes id) 0 in
        let first : Parcel = record { to = to; message = data_message (ordinal output id changes steps % 65536) id zeros } in
        (first ∷ ps, (first, ps, refl, record { payload = zeros; same = refl; size = length-replicate (values_size d changes id) 0 }, h))

-- ---- the follower

whole : (d : SlaveDesc) (x : ForeignState) (event : Event) (gone : List Send) (z : ForeignState) → MaySendAt d x event gone z → MaySendAt d x event (gone ++ []) z
whole d x event gone z may = subst (λ (l : List Send). MaySendAt d x event l z) (sym (append-nil gone)) may

-- one goes on from where it stands
pub stands_goes : (c : Follower) (a : Awaited) (d : SlaveDesc) (x : ForeignState) (event : Event) (gone : List Send) → Awaits c a d x event gone → MayGoOn d (Within x event gone)
stands_goes c awaited.Closed d x event gone h = absurd h
stands_goes c awaited.Notices d x event gone (y, h, o) = ([], y, o.back [] (no_notices y))
stands_goes c awaited.Message d x event gone (s, y, h, o, one) = (s ∷ [], y, one.back [] (no_notices y))
stands_goes c (awaited.Answer meaning) d x event gone (from, r, e, t, w) =
    let a = answer_first d x.inner r.asked in
    subst (λ (l : List Send). MayGoOn d (Within x event l)) (sym e) (_, _, may_answered d x event from r t a.0 [] (may_listed d x.inner r.asked 0 a.0 a.1).0 (no_notices (after_answer d x from r a.0)))
stands_goes c awaited.Initializing d x event gone (e, w) = subst (λ (l : List Send). MayGoOn d (Within x event l)) (sym e) (model_goes c Initializing d x event refl w)
stands_goes c awaited.Computing d x event gone (e, w) = subst (λ (l : List Send). MayGoOn d (Within x event l)) (sym e) (model_goes c Computing d x event refl w)
stands_goes c (awaited.Data t) d x event gone (s, y, id, h, o, at, goes, data') =
    let k = some_parcels d y.inner.wires.changes y.inner.steps (id ∷ _) in
    (_, y, data'.back _ (record { parcels = k.0; are = k.1; rest = []; sent_is = refl; after_is = refl; told = no_notices y }))

-- an event that is not over
pub stands_waits : (c : Follower) (a : Awaited) (d : SlaveDesc) (x : ForeignState) (event : Event) (gone : List Send) → may_end a ≡ false → Awaits c a d x event gone → (z : ForeignState) → MaySendAt d x event gone z → ⊥
stands_waits c awaited.Closed d x event gone m h z may = absurd h
stands_waits c awaited.Notices d x event gone m h z may = absurd cc
stands_waits c awaited.Message d x event gone m (s, y, h, o, one) z may = let k = one.onward [] z (whole d x event gone z may) in none_then [] s k.0 k.1
stands_waits c (awaited.Answer meaning) d x event gone m (from, r, e, t, w) z may =
    let k = is_answered d x event from r t [] z (subst (λ (l : List Send). MaySendAt d x event l z) e may) in none_then [] _ k.rest k.sent_is
stands_waits c awaited.Initializing d x event gone m (e, w) z may = model_waits c Initializing d x event refl w refl z (subst (λ (l : List Send). MaySendAt d x event l z) e may)
stands_waits c awaited.Computing d x event gone m h z may = absurd cc
stands_waits c (awaited.Data t) d x event gone m (s, y, id, h, o, at, goes, data') z may =
    let k = data'.onward [] z (whole d x event gone z may) in none_then (map parcel_send k.parcels) s k.rest k.sent_is

-- where an event may be over, it is known where the slave stands then
pub record StandsOver (c : Follower) (d : SlaveDesc) (x : ForeignState) (event : Event) (gone : List Send) : Type 0 where
  pub y : ForeignState
  pub stands : StandsBetween c d y
  pub may : MaySendAt d x event gone y
  pub only : (z : ForeignState) → MaySendAt d x event gone z → z ≡ y

pub stands_over : (c : Follower) (a : Awaited) (d : SlaveDesc) (x : ForeignState) (event : Event) (gone : List Send) → may_end a ≡ true → Awaits c a d x event gone → StandsOver c d x event gone
stands_over c awaited.Closed d x event gone m h = absurd h
stands_over c awaited.Notices d x event gone m (y, h, o) = record {
  y = y;
  stands = h;
  may = subst (λ (l : List Send). MaySendAt d x event l y) (append-nil gone) (o.back [] (no_notices y));
  only = λ z may. (o.onward [] z (whole d x event gone z may)).0;
}
stands_over c awaited.Message d x event gone m h = absurd cc
stands_over c (awaited.Answer meaning) d x event gone m h = absurd cc
stands_over c awaited.Initializing d x event gone m h = absurd cc
stands_over c awaited.Computing d x event gone m (e, w) = record {
  y = turned_to x x.inner;
  stands = w.stands;
  may = subst (λ (l : List Send). MaySendAt d x event l (turned_to x x.inner)) (sym e) (model_rests c Computing d x event refl w refl);
  only = λ z may. model_rested c Computing d x event refl w z (subst (λ (l : List Send). MaySendAt d x event l z) e may);
}
stands_over c (awaited.Data t) d x event gone m h = absurd cc
