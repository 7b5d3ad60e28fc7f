-- Data messages, one id after the other.
use Rattle.std.proofs.Common.{◌≡◌, ℕ, zero, suc, ◌<◌, Bool, true, false, ◌&&◌, List, [], ◌∷◌, ◌++◌, length, map, take, refl, ap, ◌∙◌, arith, Option, Some}
use Rattle.std.specs.Prelude.{ℤ, filter, slice_get}
use Rattle.std.specs.List.{filter_map}
use Rattle.std.proofs.lemmas.List.{map-append}
use Rattle.std.proofs.lemmas.List.Elements.{filter-append, filter_map-append}
use Rattle.dcp_ends.specs.Events.{Send}
use Rattle.fixed_models.specs.Steps.{all_fit}
use Rattle.slave_desc.specs.declared.ports.Port.{Port}
use Rattle.slave_desc.specs.declared.descriptions.SlaveDesc.{SlaveDesc}
use Rattle.slave_spec.specs.Changes.{Change, output, is_due}
use Rattle.slave_spec.specs.Payloads as payloads
use Rattle.slave_spec.specs.Transport.{Parcel, parcel_send}
use Rattle.slave_spec.specs.Turns.{parcel}
use Rattle.slave_device.specs.Sending.{data_sends}

-- values that fit the types of the ports fit the ports
pub ports_fit : (ports : List Port) (vs : List ℤ) → length vs ≡ length ports → all_fit (map (λ port. port.kind) ports) vs ≡ true → payloads.values_fit_ports ports vs ≡ true
ports_fit [] [] e h = refl
ports_fit (p ∷ ps) (v ∷ vs) e h = both _ _ _ (λ x. ports_fit ps vs (omega (arith, e)) x) h
  where
    both : (a b c : Bool) → (b ≡ true → c ≡ true) → (a && b) ≡ true → (a && c) ≡ true
    both true b c f h = f h
    both false b c f h = h
ports_fit [] (v ∷ vs) e h = absurd cc
ports_fit (p ∷ ps) [] e h = absurd cc

pub data_sends-append : (d : SlaveDesc) (changes : List Change) (n : ℕ) (vs : List ℤ) (xs ys : List ℕ) → data_sends d changes n vs (xs ++ ys) ≡ data_sends d changes n vs xs ++ data_sends d changes n vs ys
data_sends-append d changes n vs xs ys =
    let due : ℕ → Bool = λ id. is_due output id changes n in
    let f : ℕ → Option Parcel = parcel d changes n vs in
    let g : List ℕ → List Send = λ l. map parcel_send (filter_map f l) in
    ap g (filter-append due xs ys) ∙ ap (map parcel_send) (filter_map-append f (filter due xs) (filter due ys))
    ∙ map-append parcel_send (filter_map f (filter due xs)) (filter_map f (filter due ys))

pub record Next (xs : List ℕ) (i id : ℕ) : Type 0 where
  pub at : slice_get xs i ≡ Some id
  pub taken : take (suc i) xs ≡ take i xs ++ id ∷ []

pub next_of : (xs : List ℕ) (i : ℕ) → i < length xs → (id : ℕ) × Next xs i id
next_of [] i h = absurd (omega (arith, h))
next_of (x ∷ xs) zero h = (x, record { at = refl; taken = refl })
next_of (x ∷ xs) (suc i) h =
    let f : List ℕ → List ℕ = λ l. x ∷ l in
    let p = next_of xs i (omega (arith, h)) in
    (p.0, record { at = p.1.at; taken = ap f p.1.taken })
