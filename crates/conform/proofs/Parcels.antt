-- Data messages, one after the other.
use Rattle.std.proofs.Common.{◌≡◌, ℕ, ◌&&◌, Bool, true, false, List, [], ◌∷◌, ◌++◌, map, filter, Option, Some, None, is_some, refl, ap, sym, subst, ◌∙◌, append_assoc}
use Rattle.dcp_types.specs.declared.addresses.Address.{Address}
use Rattle.dcp_ends.specs.Events.{Event, Send}
use Rattle.slave_desc.specs.declared.descriptions.SlaveDesc.{SlaveDesc}
use Rattle.slave_spec.specs.Changes.{Change, output, ids, target, is_due}
use Rattle.slave_spec.specs.Transport.{Parcel, parcel_send}
use Rattle.slave_spec.specs.Foreign.{ForeignState, IsParcel, AreParcels, FirstThen, due_ids, MaySendAt}
use Rattle.slave_spec.specs.Standpoints.{Within, MayGoOn}
use Rattle.conform.specs.Sending.{goes_out, ids_from, IsDataTo}
use Rattle.conform.specs.Standing.{HasOne, HasData}

pub goes_target : (changes : List Change) (steps id : ℕ) → goes_out changes steps id ≡ true → (a : Address) × (target id changes ≡ Some a)
goes_target changes steps id h = by (is_due output id changes steps) (target id changes) refl h
  where
    by : (b : Bool) (o : Option Address) → target id changes ≡ o → (b && is_some o) ≡ true → (a : Address) × (target id changes ≡ Some a)
    by b (Some a) e k = (a, e)
    by true None e k = absurd cc
    by false None e k = absurd cc

-- the ids without an address do not count
out_there : (d : SlaveDesc) (changes : List Change) (steps : ℕ) (l : List ℕ) (ps : List Parcel) → AreParcels d changes steps (filter (λ id. is_due output id changes steps) l) ps
    → AreParcels d changes steps (filter (goes_out changes steps) l) ps
out_there d changes steps [] ps h = h
out_there d changes steps (id ∷ l) ps h = by (is_due output id changes steps) (target id changes) refl refl (λ qs k. out_there d changes steps l qs k) h
  where
    by : (b : Bool) (o : Option Address) → is_due output id changes steps ≡ b → target id changes ≡ o → ((qs : List Parcel) → AreParcels d changes steps (filter (λ id. is_due output id changes steps) l) qs → AreParcels d changes steps (filter (goes_out changes steps) l) qs)
        → AreParcels d changes steps (filter (λ id. is_due output id changes steps) (id ∷ l)) ps → AreParcels d changes steps (filter (goes_out changes steps) (id ∷ l)) ps
    by false o e f go k = rw e (go ps (rw e at k))
    by true None e f go k = rw (e, f) (go ps (rw (e, f) at k))
    by true (Some a) e f go k = let m = (rw (e, f) at k) in rw (e, f, f) (m.0, m.1, m.2, m.3, go m.1 m.4)

out_back : (d : SlaveDesc) (changes : List Change) (steps : ℕ) (l : List ℕ) (ps : List Parcel) → AreParcels d changes steps (filter (goes_out changes steps) l) ps
    → AreParcels d changes steps (filter (λ id. is_due output id changes steps) l) ps
out_back d changes steps [] ps h = h
out_back d changes steps (id ∷ l) ps h = by (is_due output id changes steps) (target id changes) refl refl (λ qs k. out_back d changes steps l qs k) h
  where
    by : (b : Bool) (o : Option Address) → is_due output id changes steps ≡ b → target id changes ≡ o → ((qs : List Parcel) → AreParcels d changes steps (filter (goes_out changes steps) l) qs → AreParcels d changes steps (filter (λ id. is_due output id changes steps) l) qs)
        → AreParcels d changes steps (filter (goes_out changes steps) (id ∷ l)) ps → AreParcels d changes steps (filter (λ id. is_due output id changes steps) (id ∷ l)) ps
    by false o e f go k = rw e (go ps (rw e at k))
    by true None e f go k = rw (e, f) (go ps (rw (e, f) at k))
    by true (Some a) e f go k = let m = (rw (e, f, f) at k) in rw (e, f) (m.0, m.1, m.2, m.3, go m.1 m.4)

module _ (d : SlaveDesc) (x : ForeignState) (event : Event) (gone : List Send) (s : Send) (y : ForeignState) where
  -- all ids that are due
  pub from_first : HasData d x event gone (due_ids y.inner.wires.changes y.inner.steps) s y → HasData d x event gone (ids_from 0 y.inner.wires.changes y.inner.steps) s y
  from_first h = record {
    onward = λ sent z may.
        let e = h.onward sent z may in
        record { parcels = e.parcels; are = out_there d y.inner.wires.changes y.inner.steps (ids output y.inner.wires.changes) e.parcels e.are; rest = e.rest; sent_is = e.sent_is; after_is = e.after_is; told = e.told };
    back = λ sent e.
        h.back sent (record { parcels = e.parcels; are = out_back d y.inner.wires.changes y.inner.steps (ids output y.inner.wires.changes) e.parcels e.are; rest = e.rest; sent_is = e.sent_is; after_is = e.after_is; told = e.told });
  }

  pub no_data : HasData d x event gone [] s y → HasOne d x event gone s y
  no_data h = record {
    onward = λ sent z may.
        let e = h.onward sent z may in
        (e.rest, e.sent_is ∙ ap (λ (l : List Parcel). map parcel_send l ++ s ∷ e.rest) e.are, e.after_is, e.told);
    back = λ rest told. h.back (s ∷ rest) (record { parcels = []; are = refl; rest = rest; sent_is = refl; after_is = refl; told = told });
  }

  module _ (id : ℕ) (left : List ℕ) (a : Address) (goes : target id y.inner.wires.changes ≡ Some a) (t : Send) where
    along : (rest : List Send) (z : ForeignState) → MaySendAt d x event ((gone ++ t ∷ []) ++ rest) z → MaySendAt d x event (gone ++ t ∷ rest) z
    along rest z may = subst (λ (l : List Send). MaySendAt d x event l z) (append_assoc gone (t ∷ []) rest) may

    across : (rest : List Send) (z : ForeignState) → MaySendAt d x event (gone ++ t ∷ rest) z → MaySendAt d x event ((gone ++ t ∷ []) ++ rest) z
    across rest z may = subst (λ (l : List Send). MaySendAt d x event l z) (sym (append_assoc gone (t ∷ []) rest)) may

    -- one data message more
    pub parcel_came : HasData d x event gone (id ∷ left) s y → IsDataTo d y.inner.wires.changes y.inner.steps id a t → HasData d x event (gone ++ t ∷ []) left s y
    parcel_came h g = record {
      onward = λ sent z may.
          let e = h.onward (t ∷ sent) z (along sent z may) in
          let m : FirstThen (Some a) (IsParcel d y.inner.wires.changes y.inner.steps id) (AreParcels d y.inner.wires.changes y.inner.steps left) e.parcels =
          subst (λ (o : Option Address). FirstThen o (IsParcel d y.inner.wires.changes y.inner.steps id) (AreParcels d y.inner.wires.changes y.inner.steps left) e.parcels) goes e.are in
          let k : t ∷ sent ≡ parcel_send m.0 ∷ (map parcel_send m.1 ++ s ∷ e.rest) = e.sent_is ∙ ap (λ (l : List Parcel). map parcel_send l ++ s ∷ e.rest) m.2 in
          record { parcels = m.1; are = m.4; rest = e.rest; sent_is = cc (k); after_is = e.after_is; told = e.told };
      back = λ sent e. across sent y (h.back (t ∷ sent) (record {
        parcels = g.parcel ∷ e.parcels;
        are = subst (λ (o : Option Address). FirstThen o (IsParcel d y.inner.wires.changes y.inner.steps id) (AreParcels d y.inner.wires.changes y.inner.steps left) (g.parcel ∷ e.parcels)) (sym goes)
            (g.parcel, e.parcels, refl, g.is, e.are);
        rest = e.rest;
        sent_is = ap (λ (k : Send). k ∷ sent) g.same ∙ ap (λ (l : List Send). parcel_send g.parcel ∷ l) e.sent_is;
        after_is = e.after_is;
        told = e.told;
      }));
    }

    pub parcel_not : HasData d x event gone (id ∷ left) s y → (IsDataTo d y.inner.wires.changes y.inner.steps id a t → ⊥) → MayGoOn d (Within x event (gone ++ t ∷ [])) → ⊥
    parcel_not h never (rest, z, may) =
        let e = h.onward (t ∷ rest) z (along rest z may) in
        let m : FirstThen (Some a) (IsParcel d y.inner.wires.changes y.inner.steps id) (AreParcels d y.inner.wires.changes y.inner.steps left) e.parcels =
        subst (λ (o : Option Address). FirstThen o (IsParcel d y.inner.wires.changes y.inner.steps id) (AreParcels d y.inner.wires.changes y.inner.steps left) e.parcels) goes e.are in
        let k : t ∷ rest ≡ parcel_send m.0 ∷ (map parcel_send m.1 ++ s ∷ e.rest) = e.sent_is ∙ ap (λ (l : List Parcel). map parcel_send l ++ s ∷ e.rest) m.2 in
        never (record { parcel = m.0; is = m.3; same = cc (k) })
